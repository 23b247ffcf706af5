-- Controls keep the lines that a system holds in order, and each word's copies in agreement.
use Rattle.std.proofs.Common.{◌≡◌, ℕ, ◌/◌, ◌%◌, List, [], Some, None, Option, Bool, true, false, refl}
use Rattle.std.specs.Prelude.{slice_get, if◌then◌else◌}
use Rattle.std.specs.Option.{option_map_or}
use Rattle.mt_machine.specs.declared.control.Control.{Control}
use Rattle.mt_machine.specs.declared.control.Control.TheVariants.{Map, Invlpg, Cr3, Pge, Cd}
use Rattle.mt_machine.specs.declared.ruled.Ruled.TheVariants.{Okay, Full, Busy}
use Rattle.mt_machine.specs.Memory.{Window}
use Rattle.mt_machine.specs.System.{Processor, System, change}
use Rattle.mt_machine.specs.Bus.{drain}
use Rattle.mt_machine.specs.Access.{is_running}
use Rattle.mt_machine.specs.Control.{control, control_at, set_page_global, same_bool, drop_page, reload_cr3, RuledAfter}
use Rattle.mt_tlb.specs.Entries.{is_full_for, set_mapping}
use Rattle.mt_laws.proofs.Words.MemoryLaws.{AllAligned}
use Rattle.mt_laws.proofs.Words.BusLaws.{Stands, Word, After, after_word, after_then, stands_drain, drain_word}
use Rattle.mt_laws.proofs.Words.WordLaws.{quiet_stands, quiet_word}

abbrev ruled : Bool → RuledAfter → RuledAfter → RuledAfter
ruled b x y = if b then x else y

pub paged : (on : Bool) (p : Processor) → ((set_page_global on p).lines ≡ p.lines) × ((set_page_global on p).buffers ≡ p.buffers)
paged on p = one (same_bool on p.page_global)
  where
    one : (b : Bool) → ((if b then p else record p { page_global = on; entries = [] }).lines ≡ p.lines) × ((if b then p else record p { page_global = on; entries = [] }).buffers ≡ p.buffers)
    one true = (refl, refl)
    one false = (refl, refl)

module _ (ws : List Window) (aligned : AllAligned ws) where
  control_at_stands : (s : System) (k : ℕ) (p : Processor) (c : Control) → Stands ws s → Stands ws (control_at s k p c).after
  control_at_stands s k p (Map m) st = one (is_full_for m p.mappings)
    where
      one : (b : Bool) → Stands ws (ruled b (record { answer = Full; after = s }) (record { answer = Okay; after = change (λ q. record q { mappings = set_mapping m q.mappings }) k s })).after
      one true = st
      one false = quiet_stands ws aligned (λ q. record q { mappings = set_mapping m q.mappings }) k s (λ q. (refl, refl)) st
  control_at_stands s k p (Invlpg address) st = quiet_stands ws aligned (drop_page (address / 4096)) k (drain k s) (λ q. (refl, refl)) (stands_drain ws aligned k s st)
  control_at_stands s k p Cr3 st = quiet_stands ws aligned reload_cr3 k (drain k s) (λ q. (refl, refl)) (stands_drain ws aligned k s st)
  control_at_stands s k p (Pge on) st = quiet_stands ws aligned (set_page_global on) k (drain k s) (paged on) (stands_drain ws aligned k s st)
  control_at_stands s k p (Cd on) st = quiet_stands ws aligned (λ q. record q { cache_disabled = on }) k (drain k s) (λ q. (refl, refl)) (stands_drain ws aligned k s st)

  pub control_stands : (s : System) (k : ℕ) (c : Control) → Stands ws s → Stands ws (control s k c).after
  control_stands s k c st = one (slice_get s.processors k)
    where
      two : (p : Processor) (b : Bool) → Stands ws (ruled b (control_at s k p c) (record { answer = Busy; after = s })).after
      two p true = control_at_stands s k p c st
      two p false = st

      one : (o : Option Processor) → Stands ws (option_map_or {U = RuledAfter} (λ p. if is_running p.phase then control_at s k p c else record { answer = Busy; after = s }) o (record { answer = Busy; after = s })).after
      one None = st
      one (Some p) = two p (is_running p.phase)

  control_at_word : (s : System) (k : ℕ) (p : Processor) (c : Control) (may : Bool) (a x : ℕ) → a % 8 ≡ 0 → Stands ws s → Word may a x s → After may a x (control_at s k p c).after
  control_at_word s k p (Map m) may a x whole st w = one (is_full_for m p.mappings)
    where
      one : (b : Bool) → After may a x (ruled b (record { answer = Full; after = s }) (record { answer = Okay; after = change (λ q. record q { mappings = set_mapping m q.mappings }) k s })).after
      one true = after_word may a x s w
      one false = after_word may a x _ (quiet_word ws aligned (λ q. record q { mappings = set_mapping m q.mappings }) k s may a x (λ q. (refl, refl)) w)
  control_at_word s k p (Invlpg address) may a x whole st w =
      after_then may a x (drain k s) _ (drain_word ws aligned may a x k s whole st w) (λ y v. after_word may a y _ (quiet_word ws aligned (drop_page (address / 4096)) k (drain k s) may a y (λ q. (refl, refl)) v))
  control_at_word s k p Cr3 may a x whole st w =
      after_then may a x (drain k s) _ (drain_word ws aligned may a x k s whole st w) (λ y v. after_word may a y _ (quiet_word ws aligned reload_cr3 k (drain k s) may a y (λ q. (refl, refl)) v))
  control_at_word s k p (Pge on) may a x whole st w =
      after_then may a x (drain k s) _ (drain_word ws aligned may a x k s whole st w) (λ y v. after_word may a y _ (quiet_word ws aligned (set_page_global on) k (drain k s) may a y (paged on) v))
  control_at_word s k p (Cd on) may a x whole st w =
      after_then may a x (drain k s) _ (drain_word ws aligned may a x k s whole st w) (λ y v. after_word may a y _ (quiet_word ws aligned (λ q. record q { cache_disabled = on }) k (drain k s) may a y (λ q. (refl, refl)) v))

  pub control_word : (s : System) (k : ℕ) (c : Control) (may : Bool) (a x : ℕ) → a % 8 ≡ 0 → Stands ws s → Word may a x s → After may a x (control s k c).after
  control_word s k c may a x whole st w = one (slice_get s.processors k)
    where
      two : (p : Processor) (b : Bool) → After may a x (ruled b (control_at s k p c) (record { answer = Busy; after = s })).after
      two p true = control_at_word s k p c may a x whole st w
      two p false = after_word may a x s w

      one : (o : Option Processor) → After may a x (option_map_or {U = RuledAfter} (λ p. if is_running p.phase then control_at s k p c else record { answer = Busy; after = s }) o (record { answer = Busy; after = s })).after
      one None = after_word may a x s w
      one (Some p) = two p (is_running p.phase)
