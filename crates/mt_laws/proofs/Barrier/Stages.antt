-- No access, control or bus operation changes a processor's phase or era.
use Rattle.std.proofs.Common.{◌≡◌, ℕ, zero, suc, ◌+◌, ◌/◌, List, [], ◌∷◌, Some, None, Option, Bool, true, false, refl, sym, ap, ◌∙◌}
use Rattle.std.specs.Prelude.{slice_get, slice_set, map, if◌then◌else◌, is_some, ◌==◌, not, ◌&&◌}
use Rattle.std.specs.List.{fold, find}
use Rattle.std.specs.Option.{option_map_or}
use Rattle.mt_kinds.specs.declared.mem_type.MemType.{MemType}
use Rattle.mt_kinds.specs.declared.mem_type.MemType.TheVariants.{UC, WC, WT, WP, WB}
use Rattle.mt_cache.specs.declared.line.CacheLine.{CacheLine}
use Rattle.mt_tlb.specs.declared.entry.Entry.{Entry}
use Rattle.mt_machine.specs.declared.phase.Phase.{Phase}
use Rattle.mt_machine.specs.declared.op.Op.{Op}
use Rattle.mt_machine.specs.declared.op.Op.TheVariants.{Load, Store, Fence}
use Rattle.mt_machine.specs.declared.control.Control.{Control}
use Rattle.mt_machine.specs.declared.control.Control.TheVariants.{Map, Invlpg, Cr3, Pge, Cd}
use Rattle.mt_machine.specs.Memory.{place, line_of, word_of}
use Rattle.mt_cache.specs.Lines.{find_line, without_line, combined_with, oldest_of_full}
use Rattle.mt_machine.specs.System.{Processor, System, change, buffers_of, lines_of}
use Rattle.mt_machine.specs.Bus.{with_buffers, bus_read, invalidate, invalidate_others, write_back_others, others_from, empty_buffer, drain, drain_line, make_room, fill_line, combine}
use Rattle.mt_machine.specs.Access.{keep_entry, first_of_load, first_of_store, load, load_after, hit_of, is_cached, cache_disabled_of, store, store_after, store_hit, store_past, store_filling, translated, physical, access, access_at, entry_of, is_running, Answered}
use Rattle.mt_machine.specs.Control.{control, control_at, set_page_global, same_bool, RuledAfter}
use Rattle.mt_tlb.specs.Entries.{is_full_for}

abbrev pub Stage : Type 0
Stage = Phase × ℕ

abbrev pub stage_of : Processor → Stage
stage_of p = (p.phase, p.era)

abbrev pub stages_of : List Processor → List Stage
stages_of ps = map stage_of ps

abbrev pub stages : System → List Stage
stages s = stages_of s.processors

-- f leaves the phase and the era
abbrev pub IsQuietStep : (Processor → Processor) → Type 0
IsQuietStep f = (p : Processor) → stage_of (f p) ≡ stage_of p

set_stage : (ps : List Processor) (k : ℕ) (p q : Processor) → slice_get ps k ≡ Some p → stage_of q ≡ stage_of p → stages_of (slice_set ps k q) ≡ stages_of ps
set_stage [] k p q at same = refl
set_stage (x ∷ ps) zero p q at same = let e : x ≡ p = cc in ap (λ v. v ∷ stages_of ps) (same ∙ ap stage_of (sym e))
set_stage (x ∷ ps) (suc k) p q at same = ap (λ vs. stage_of x ∷ vs) (set_stage ps k p q at same)

change_stages_at : (f : Processor → Processor) → IsQuietStep f → (k : ℕ) (s : System) (o : Option Processor) → slice_get s.processors k ≡ o → stages (option_map_or (λ p. record s { processors = slice_set s.processors k (f p) }) o s) ≡ stages s
change_stages_at f quiet k s None at = refl
change_stages_at f quiet k s (Some p) at = set_stage s.processors k p (f p) at (quiet p)

pub change_stages : (f : Processor → Processor) → IsQuietStep f → (k : ℕ) (s : System) → stages (change f k s) ≡ stages s
change_stages f quiet k s = change_stages_at f quiet k s (slice_get s.processors k) refl

map_stages : (f : Processor → Processor) → IsQuietStep f → (ps : List Processor) → stages_of (map f ps) ≡ stages_of ps
map_stages f quiet [] = refl
map_stages f quiet (p ∷ ps) = λ i. quiet p i ∷ map_stages f quiet ps i

one_of_others : (b : Bool) (f : Processor → Processor) (p : Processor) → stage_of (f p) ≡ stage_of p → stage_of (if b then p else f p) ≡ stage_of p
one_of_others true f p same = refl
one_of_others false f p same = same

others_stages : (n k : ℕ) (f : Processor → Processor) → IsQuietStep f → (ps : List Processor) → stages_of (others_from n k f ps) ≡ stages_of ps
others_stages n k f quiet [] = refl
others_stages n k f quiet (p ∷ ps) = λ i. one_of_others (n == k) f p (quiet p) i ∷ others_stages (n + 1) k f quiet ps i

invalidate_stages : (n : ℕ) (s : System) → stages (invalidate n s) ≡ stages s
invalidate_stages n s = map_stages _ (λ p. refl) s.processors

read_stages : (n : ℕ) (s : System) → stages (bus_read n s) ≡ stages s
read_stages n s = map_stages _ (λ p. refl) s.processors

invalidate_others_stages : (k n : ℕ) (s : System) → stages (invalidate_others k n s) ≡ stages s
invalidate_others_stages k n s = others_stages 0 k _ (λ p. refl) s.processors

empty_stages : (s : System) (b : CacheLine) → stages (empty_buffer s b) ≡ stages s
empty_stages s b = invalidate_stages b.number (bus_read b.number s) ∙ read_stages b.number s

empty_all_stages : (bs : List CacheLine) (s : System) → stages (fold empty_buffer s bs) ≡ stages s
empty_all_stages [] s = refl
empty_all_stages (b ∷ bs) s = empty_all_stages bs (empty_buffer s b) ∙ empty_stages s b

pub drain_stages : (k : ℕ) (s : System) → stages (drain k s) ≡ stages s
drain_stages k s = change_stages _ (λ p. refl) k (fold empty_buffer s (buffers_of s k)) ∙ empty_all_stages (buffers_of s k) s

option_stages : {X : Type 0} → (o : Option X) (f : X → System) (s t : System) → stages t ≡ stages s → ((x : X) → stages (f x) ≡ stages s) → stages (option_map_or f o t) ≡ stages s
option_stages None f s t none some = none
option_stages (Some x) f s t none some = some x

if_stages : (b : Bool) (x y s : System) → stages x ≡ stages s → stages y ≡ stages s → stages (if b then x else y) ≡ stages s
if_stages true x y s at_true at_false = at_true
if_stages false x y s at_true at_false = at_false

drain_line_stages : (k n : ℕ) (s : System) → stages (drain_line k n s) ≡ stages s
drain_line_stages k n s =
    option_stages (find_line n (buffers_of s k)) _ s s refl (λ b. change_stages _ (λ p. refl) k (empty_buffer s b) ∙ empty_stages s b)

room_stages : (k : ℕ) (s : System) → stages (make_room k s) ≡ stages s
room_stages k s = option_stages (oldest_of_full 64 (lines_of s k)) _ s s refl (λ l. change_stages _ (λ p. refl) k _)

fill_stages : (k n : ℕ) (s : System) → stages (fill_line k n s) ≡ stages s
fill_stages k n s = change_stages _ (λ p. refl) k (make_room k s) ∙ room_stages k s

combine_stages : (k n word value : ℕ) (s : System) → stages (combine k n word value s) ≡ stages s
combine_stages k n word value s =
    let make : System =
    (if is_some (find_line n (buffers_of s k)) then s
    else option_map_or (λ b. change (with_buffers (without_line b.number)) k (empty_buffer s b)) (oldest_of_full 4 (buffers_of s k)) s) in
    let made : stages make ≡ stages s =
    if_stages (is_some (find_line n (buffers_of s k))) s _ s refl
    (option_stages (oldest_of_full 4 (buffers_of s k)) _ s s refl (λ b. change_stages _ (λ p. refl) k (empty_buffer s b) ∙ empty_stages s b)) in
    let joined : System = change (λ p. record p { buffers = combined_with n word value p.era p.buffers }) k make in
    let joins : stages joined ≡ stages s = change_stages _ (λ p. refl) k make ∙ made in
    option_stages (find_line n (buffers_of joined k)) _ s joined joins
    (λ b. if_stages (b.dirty == 0xff) (drain_line k n joined) joined s (drain_line_stages k n joined ∙ joins) joins)

-- ---- loads and stores

pub first_load_stages : (t : MemType) (k n : ℕ) (s : System) → stages (first_of_load t k n s) ≡ stages s
first_load_stages UC k n s = drain_stages k s
first_load_stages WC k n s = drain_line_stages k n s
first_load_stages WT k n s = drain_line_stages k n s
first_load_stages WP k n s = drain_line_stages k n s
first_load_stages WB k n s = drain_line_stages k n s

pub first_store_stages : (t : MemType) (k n : ℕ) (s : System) → stages (first_of_store t k n s) ≡ stages s
first_store_stages UC k n s = drain_stages k s
first_store_stages WC k n s = refl
first_store_stages WT k n s = drain_line_stages k n s
first_store_stages WP k n s = drain_line_stages k n s
first_store_stages WB k n s = drain_line_stages k n s

pair_stages : (o : Option CacheLine) (f : CacheLine → ℕ × System) (miss : ℕ × System) (s : System) → stages miss.1 ≡ stages s → ((l : CacheLine) → stages (f l).1 ≡ stages s) → stages (option_map_or f o miss).1 ≡ stages s
pair_stages None f miss s none some = none
pair_stages (Some l) f miss s none some = some l

load_after_stages : (t : MemType) (k address : ℕ) (s : System) → stages (load_after t k address s).1 ≡ stages s
load_after_stages t k address s =
    let n = line_of address in
    pair_stages (hit_of t k n s) _ _ s
    (if_stages (is_cached t && not (cache_disabled_of s k)) (fill_line k n (bus_read n s)) (bus_read n s) s
    (fill_stages k n (bus_read n s) ∙ read_stages n s)
    (read_stages n s))
    (λ l. refl)

load_stages : (t : MemType) (k address : ℕ) (s : System) → stages (load t k address s).1 ≡ stages s
load_stages t k address s =
    load_after_stages t k address (first_of_load t k (line_of address) s) ∙ first_load_stages t k (line_of address) s

past_stages : (k address value : ℕ) (s : System) → stages (store_past k address value s) ≡ stages s
past_stages k address value s =
    let n = line_of address in invalidate_others_stages k n (bus_read n s) ∙ read_stages n s

uncached_stages : (n : ℕ) (s : System) → stages (invalidate n (bus_read n s)) ≡ stages s
uncached_stages n s = invalidate_stages n (bus_read n s) ∙ read_stages n s

store_after_stages : (t : MemType) (k address value : ℕ) (s : System) → stages (store_after t k address value s) ≡ stages s
store_after_stages UC k address value s = uncached_stages (line_of address) s
store_after_stages WC k address value s = combine_stages k (line_of address) (word_of address) value s
store_after_stages WT k address value s = change_stages _ (λ p. refl) k (store_past k address value s) ∙ past_stages k address value s
store_after_stages WP k address value s = uncached_stages (line_of address) s
store_after_stages WB k address value s =
    let n = line_of address in
    if_stages (is_some (find_line n (lines_of s k))) (store_hit k address value s) _ s
    (change_stages _ (λ p. refl) k (invalidate_others k n (write_back_others k n s)) ∙ invalidate_others_stages k n (write_back_others k n s))
    (if_stages (cache_disabled_of s k) (store_past k address value s) (store_filling k address value s) s
    (past_stages k address value s)
    (change_stages _ (λ p. refl) k (fill_line k n (invalidate_others k n (bus_read n s)))
    ∙ fill_stages k n (invalidate_others k n (bus_read n s)) ∙ invalidate_others_stages k n (bus_read n s) ∙ read_stages n s))

store_stages : (t : MemType) (k address value : ℕ) (s : System) → stages (store t k address value s) ≡ stages s
store_stages t k address value s =
    store_after_stages t k address value (first_of_store t k (line_of address) s) ∙ first_store_stages t k (line_of address) s

-- ---- accesses

option_answers : {X : Type 0} → (o : Option X) (f : X → Answered) (a : Answered) (s : System) → stages a.after ≡ stages s → ((x : X) → stages (f x).after ≡ stages s) → stages (option_map_or f o a).after ≡ stages s
option_answers None f a s none some = none
option_answers (Some x) f a s none some = some x

if_answers : (b : Bool) (x y : Answered) (s : System) → stages x.after ≡ stages s → stages y.after ≡ stages s → stages (if b then x else y).after ≡ stages s
if_answers true x y s at_true at_false = at_true
if_answers false x y s at_true at_false = at_false

translated_stages : (s : System) (k : ℕ) (e : Entry) (op : Op) → stages (translated s k e op).after ≡ stages s
translated_stages s k e (Load address) =
    if_answers (is_some (place s.memory (physical e address))) _ _ s (load_stages e.kind k (physical e address) s) refl
translated_stages s k e (Store address value) =
    if_answers (is_some (place s.memory (physical e address))) _ _ s (store_stages e.kind k (physical e address) value s) refl
translated_stages s k e Fence = refl

keep_quiet_at : (e : Entry) (b : Bool) (p q : Processor) → stage_of q ≡ stage_of p → stage_of (if b then p else q) ≡ stage_of p
keep_quiet_at e true p q same = refl
keep_quiet_at e false p q same = same

keep_quiet : (e : Entry) → IsQuietStep (keep_entry e)
keep_quiet e p = keep_quiet_at e (is_some (find (λ x. x.vpage == e.vpage) p.entries)) p _ refl

access_at_stages : (s : System) (k : ℕ) (p : Processor) (op : Op) → stages (access_at s k p op).after ≡ stages s
access_at_stages s k p Fence = drain_stages k s
access_at_stages s k p (Load address) =
    option_answers (entry_of p (address / 4096)) _ _ s refl
    (λ e. translated_stages (change (keep_entry e) k s) k e (Load address) ∙ change_stages (keep_entry e) (keep_quiet e) k s)
access_at_stages s k p (Store address value) =
    option_answers (entry_of p (address / 4096)) _ _ s refl
    (λ e. translated_stages (change (keep_entry e) k s) k e (Store address value) ∙ change_stages (keep_entry e) (keep_quiet e) k s)

pub access_stages : (s : System) (k : ℕ) (op : Op) → stages (access s k op).after ≡ stages s
access_stages s k op =
    option_answers (slice_get s.processors k) _ _ s refl
    (λ p. if_answers (is_running p.phase) _ _ s (access_at_stages s k p op) refl)

-- ---- control

option_ruled : {X : Type 0} → (o : Option X) (f : X → RuledAfter) (a : RuledAfter) (s : System) → stages a.after ≡ stages s → ((x : X) → stages (f x).after ≡ stages s) → stages (option_map_or f o a).after ≡ stages s
option_ruled None f a s none some = none
option_ruled (Some x) f a s none some = some x

if_ruled : (b : Bool) (x y : RuledAfter) (s : System) → stages x.after ≡ stages s → stages y.after ≡ stages s → stages (if b then x else y).after ≡ stages s
if_ruled true x y s at_true at_false = at_true
if_ruled false x y s at_true at_false = at_false

if_quiet : (b : Bool) (p x y : Processor) → stage_of x ≡ stage_of p → stage_of y ≡ stage_of p → stage_of (if b then x else y) ≡ stage_of p
if_quiet true p x y at_true at_false = at_true
if_quiet false p x y at_true at_false = at_false

control_at_stages : (s : System) (k : ℕ) (p : Processor) (c : Control) → stages (control_at s k p c).after ≡ stages s
control_at_stages s k p (Map m) = if_ruled (is_full_for m p.mappings) _ _ s refl (change_stages _ (λ q. refl) k s)
control_at_stages s k p (Invlpg address) = change_stages _ (λ q. refl) k (drain k s) ∙ drain_stages k s
control_at_stages s k p Cr3 = change_stages _ (λ q. refl) k (drain k s) ∙ drain_stages k s
control_at_stages s k p (Pge on) =
    change_stages (set_page_global on) (λ q. if_quiet (same_bool on q.page_global) q _ _ refl refl) k (drain k s) ∙ drain_stages k s
control_at_stages s k p (Cd on) = change_stages _ (λ q. refl) k (drain k s) ∙ drain_stages k s

pub control_stages : (s : System) (k : ℕ) (c : Control) → stages (control s k c).after ≡ stages s
control_stages s k c =
    option_ruled (slice_get s.processors k) _ _ s refl
    (λ p. if_ruled (is_running p.phase) _ _ s (control_at_stages s k p c) refl)
