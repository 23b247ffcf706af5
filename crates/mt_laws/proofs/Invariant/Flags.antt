-- No event changes which processors are self-snooping.
use Rattle.std.proofs.Common.{◌≡◌, ℕ, ◌/◌, List, [], ◌∷◌, Some, None, Option, Bool, true, false, refl, ap, ◌∙◌}
use Rattle.std.specs.Prelude.{map, slice_get, if◌then◌else◌, is_some}
use Rattle.std.specs.Option.{option_map_or}
use Rattle.mt_regs.specs.RegisterFile.{RegisterFile}
use Rattle.mt_tlb.specs.declared.entry.Entry.{Entry}
use Rattle.mt_tlb.specs.Entries.{is_full_for, find_entry, add_entry}
use Rattle.mt_machine.specs.declared.phase.Phase.{Phase}
use Rattle.mt_machine.specs.declared.phase.Phase.TheVariants.{Flushed2}
use Rattle.mt_machine.specs.declared.event.Event.{Event}
use Rattle.mt_machine.specs.declared.event.Event.TheVariants.{Take, FlushTlb}
use Rattle.mt_machine.specs.declared.op.Op.{Op}
use Rattle.mt_machine.specs.declared.op.Op.TheVariants.{Load, Store, Fence}
use Rattle.mt_machine.specs.declared.control.Control.{Control}
use Rattle.mt_machine.specs.declared.control.Control.TheVariants.{Map, Invlpg, Cr3, Pge, Cd}
use Rattle.mt_machine.specs.System.{Processor, System, change}
use Rattle.mt_machine.specs.Bus.{drain}
use Rattle.mt_machine.specs.Access.{Answered, access, access_at, entry_of, is_running, keep_entry, translated}
use Rattle.mt_machine.specs.Control.{RuledAfter, control, control_at, reload_cr3, same_bool, set_page_global}
use Rattle.mt_machine.specs.Machine.{Order, Accesses, Controls, Calls, Goes, Cancels, Steps, next, own_step, before_own, step, flush_tlb}
use Rattle.mt_machine.specs.Update.{settled_processor}
use Rattle.mt_laws.specs.Kept.{FlagsStay, UpdatedKeepsFlags, flags_of, is_self_snooping}
use Rattle.mt_laws.proofs.Barrier.Still.{change_view}
use Rattle.mt_laws.proofs.Translations.Views.{drain_views, translated_views}

-- ---- one processor's own steps

-- the flush of a TLB leaves the lines and the flag
pub flush_keeps : (ph : Phase) (p : Processor) → ((flush_tlb ph p).lines ≡ p.lines) × ((flush_tlb ph p).self_snoop ≡ p.self_snoop)
flush_keeps Flushed2 p = (refl, refl)
flush_keeps other p = one p.page_global
  where
    one : (b : Bool) → ((if b then record p { remembered_global = true; page_global = false; entries = [] } else record (reload_cr3 p) { remembered_global = false }).lines ≡ p.lines) × ((if b then record p { remembered_global = true; page_global = false; entries = [] } else record (reload_cr3 p) { remembered_global = false }).self_snoop ≡ p.self_snoop)
    one true = (refl, refl)
    one false = (refl, refl)

pub own_keeps_flag : (goal : RegisterFile) (e : Event) (p : Processor) → (own_step goal e p).self_snoop ≡ p.self_snoop
own_keeps_flag goal FlushTlb p = (flush_keeps p.phase p).1
own_keeps_flag goal other p = refl

-- ---- accesses, control instructions and steps

keeps : (e : Entry) (p : Processor) → (keep_entry e p).self_snoop ≡ p.self_snoop
keeps e p = one (is_some (find_entry e.vpage p.entries))
  where
    one : (b : Bool) → (if b then p else record p { entries = add_entry e p.entries }).self_snoop ≡ p.self_snoop
    one true = refl
    one false = refl

drain_flags : (k : ℕ) (s : System) → flags_of (drain k s) ≡ flags_of s
drain_flags k s = drain_views Bool is_self_snooping (λ f p. refl) (λ f p. refl) k s

change_flags : (f : Processor → Processor) → ((p : Processor) → (f p).self_snoop ≡ p.self_snoop) → (k : ℕ) (s : System) → flags_of (change f k s) ≡ flags_of s
change_flags f same k s = change_view is_self_snooping f same k s

-- what is answered where there is one, and where a test holds
option_answers : {X : Type 0} → (s : System) (o : Option X) (f : X → Answered) (a : Answered) → flags_of a.after ≡ flags_of s → ((x : X) → flags_of (f x).after ≡ flags_of s) → flags_of (option_map_or f o a).after ≡ flags_of s
option_answers s None f a none some = none
option_answers s (Some x) f a none some = some x

if_answers : (s : System) (b : Bool) (x y : Answered) → flags_of x.after ≡ flags_of s → flags_of y.after ≡ flags_of s → flags_of (if b then x else y).after ≡ flags_of s
if_answers s true x y at_true at_false = at_true
if_answers s false x y at_true at_false = at_false

option_ruled : {X : Type 0} → (s : System) (o : Option X) (f : X → RuledAfter) (a : RuledAfter) → flags_of a.after ≡ flags_of s → ((x : X) → flags_of (f x).after ≡ flags_of s) → flags_of (option_map_or f o a).after ≡ flags_of s
option_ruled s None f a none some = none
option_ruled s (Some x) f a none some = some x

if_ruled : (s : System) (b : Bool) (x y : RuledAfter) → flags_of x.after ≡ flags_of s → flags_of y.after ≡ flags_of s → flags_of (if b then x else y).after ≡ flags_of s
if_ruled s true x y at_true at_false = at_true
if_ruled s false x y at_true at_false = at_false

access_flags : (s : System) (k : ℕ) (op : Op) → flags_of (access s k op).after ≡ flags_of s
access_flags s k op = option_answers s (slice_get s.processors k) _ _ refl (λ p. if_answers s (is_running p.phase) _ _ (at p op) refl)
  where
    moved : (op : Op) (e : Entry) → flags_of (translated (change (keep_entry e) k s) k e op).after ≡ flags_of s
    moved op e = translated_views Bool is_self_snooping (λ f p. refl) (λ f p. refl) (change (keep_entry e) k s) k e op ∙ change_flags (keep_entry e) (λ p. keeps e p) k s

    at : (p : Processor) (op : Op) → flags_of (access_at s k p op).after ≡ flags_of s
    at p Fence = drain_flags k s
    at p (Load address) = option_answers s (entry_of p (address / 4096)) _ _ refl (moved (Load address))
    at p (Store address value) = option_answers s (entry_of p (address / 4096)) _ _ refl (moved (Store address value))

control_flags : (s : System) (k : ℕ) (c : Control) → flags_of (control s k c).after ≡ flags_of s
control_flags s k c = option_ruled s (slice_get s.processors k) _ _ refl (λ p. if_ruled s (is_running p.phase) _ _ (at p c) refl)
  where
    sets : (on : Bool) (p : Processor) → (set_page_global on p).self_snoop ≡ p.self_snoop
    sets on p = same (same_bool on p.page_global)
      where
        same : (b : Bool) → (if b then p else record p { page_global = on; entries = [] }).self_snoop ≡ p.self_snoop
        same true = refl
        same false = refl

    at : (p : Processor) (c : Control) → flags_of (control_at s k p c).after ≡ flags_of s
    at p (Map m) = if_ruled s (is_full_for m p.mappings) _ _ refl (change_flags _ (λ q. refl) k s)
    at p (Invlpg address) = change_flags _ (λ q. refl) k (drain k s) ∙ drain_flags k s
    at p Cr3 = change_flags _ (λ q. refl) k (drain k s) ∙ drain_flags k s
    at p (Pge on) = change_flags (set_page_global on) (sets on) k (drain k s) ∙ drain_flags k s
    at p (Cd on) = change_flags _ (λ q. refl) k (drain k s) ∙ drain_flags k s

step_flags : (goal : RegisterFile) (e : Event) (k : ℕ) (s : System) → flags_of (step goal e k s) ≡ flags_of s
step_flags goal e k s = change_flags (own_step goal e) (own_keeps_flag goal e) k (before_own e k s) ∙ before e
  where
    before : (e : Event) → flags_of (before_own e k s) ≡ flags_of s
    before Take = drain_flags k s
    before other = refl

pub flags_stay : FlagsStay
flags_stay m (Accesses k op) = access_flags m.system k op
flags_stay m (Controls k c) = control_flags m.system k c
flags_stay m (Calls goal) = refl
flags_stay m Goes = one m.order
  where
    one : (o : Option Order) → flags_of (next (record m { order = o }) Goes).system ≡ flags_of m.system
    one None = refl
    one (Some o) = refl
flags_stay m Cancels = one m.order
  where
    one : (o : Option Order) → flags_of (next (record m { order = o }) Cancels).system ≡ flags_of m.system
    one None = refl
    one (Some o) = refl
flags_stay m (Steps k e) = one m.order
  where
    one : (o : Option Order) → flags_of (next (record m { order = o }) (Steps k e)).system ≡ flags_of m.system
    one None = refl
    one (Some o) = step_flags o.goal e k m.system

pub updated_keeps_flags : UpdatedKeepsFlags
updated_keeps_flags s takes goal = all s.processors
  where
    all : (ps : List Processor) → map is_self_snooping (map (settled_processor goal) ps) ≡ map is_self_snooping ps
    all [] = refl
    all (p ∷ ps) = ap (λ bs. p.self_snoop ∷ bs) (all ps)
