-- All events keep each word's copies in agreement.
use Rattle.std.proofs.Common.{◌≡◌, ℕ, ◌%◌, List, [], ◌∷◌, Some, None, Option, Bool, true, false, refl}
use Rattle.std.specs.Prelude.{slice_get}
use Rattle.std.specs.Option.{option_map_or}
use Rattle.mt_machine.specs.declared.event.Event.{Event}
use Rattle.mt_machine.specs.Memory.{Window}
use Rattle.mt_machine.specs.System.{Processor, System}
use Rattle.mt_machine.specs.Machine.{Machine, Order, MachineEvent, Accesses, Controls, Calls, Goes, Cancels, Steps, IsEnabled, next, due, step, run, AreEnabled}
use Rattle.mt_machine.specs.Update.{stored_word}
use Rattle.mt_laws.proofs.Words.MemoryLaws.{AllAligned}
use Rattle.mt_laws.proofs.Clearing.Renewed.{is_take}
use Rattle.mt_laws.proofs.Words.BusLaws.{Stands, Word, After, after_word}
use Rattle.mt_laws.proofs.Words.WordLaws.{access_stands, access_word}
use Rattle.mt_laws.proofs.Words.ControlLaws.{control_stands, control_word}
use Rattle.mt_laws.proofs.Words.StepLaws.{due_drains, step_stands, step_keeps, step_word}

pub record Agrees (ws : List Window) (m : Machine) : Type 0 where
  pub stands : Stands ws m.system
  pub words : (a : ℕ) → a % 8 ≡ 0 → (x : ℕ) × Word true a x m.system

module _ (ws : List Window) (aligned : AllAligned ws) where
  stands_in : (e : MachineEvent) (s : System) (o : Option Order) → IsEnabled (record { system = s; order = o }) e → Stands ws s → Stands ws (next (record { system = s; order = o }) e).system
  stands_in (Accesses k op) s o enabled st = access_stands ws aligned s k op st
  stands_in (Controls k c) s o enabled st = control_stands ws aligned s k c st
  stands_in (Calls goal) s o enabled st = st
  stands_in Goes s None enabled st = st
  stands_in Goes s (Some o) enabled st = st
  stands_in Cancels s None enabled st = st
  stands_in Cancels s (Some o) enabled st = st
  stands_in (Steps k e) s None enabled st = st
  stands_in (Steps k e) s (Some o) enabled st = one (slice_get s.processors k) refl enabled
    where
      one : (q : Option Processor) → slice_get s.processors k ≡ q → option_map_or (λ p. due o s.processors p p.phase) q None ≡ Some e → Stands ws (step o.goal e k s)
      one None at h = absurd (cc)
      one (Some p) at h = step_stands ws aligned o.goal k s p at st e (due_drains o s.processors p p.phase e h)

  pub stands_next : (m : Machine) (e : MachineEvent) → IsEnabled m e → Stands ws m.system → Stands ws (next m e).system
  stands_next m e enabled st = stands_in e m.system m.order enabled st

  word_in : (e : MachineEvent) (s : System) (o : Option Order) → IsEnabled (record { system = s; order = o }) e → Stands ws s → (may : Bool) (a x : ℕ) → a % 8 ≡ 0
      → (may ≡ false → stored_word (record { system = s; order = o }) e ≡ Some a → ⊥) → Word may a x s → After may a x (next (record { system = s; order = o }) e).system
  word_in (Accesses k op) s o enabled st may a x whole other w = access_word ws aligned (record { system = s; order = o }) k op may a x whole st other w
  word_in (Controls k c) s o enabled st may a x whole other w = control_word ws aligned s k c may a x whole st w
  word_in (Calls goal) s o enabled st may a x whole other w = after_word may a x s w
  word_in Goes s None enabled st may a x whole other w = after_word may a x s w
  word_in Goes s (Some o) enabled st may a x whole other w = after_word may a x s w
  word_in Cancels s None enabled st may a x whole other w = after_word may a x s w
  word_in Cancels s (Some o) enabled st may a x whole other w = after_word may a x s w
  word_in (Steps k e) s None enabled st may a x whole other w = after_word may a x s w
  word_in (Steps k e) s (Some o) enabled st may a x whole other w = one (slice_get s.processors k) refl enabled
    where
      one : (q : Option Processor) → slice_get s.processors k ≡ q → option_map_or (λ p. due o s.processors p p.phase) q None ≡ Some e → After may a x (step o.goal e k s)
      one None at h = absurd (cc)
      one (Some p) at h = step_word ws aligned o.goal k s p at st e (due_drains o s.processors p p.phase e h) may a x whole w

  pub word_next : (m : Machine) (e : MachineEvent) → IsEnabled m e → Stands ws m.system → (may : Bool) (a x : ℕ) → a % 8 ≡ 0
      → (may ≡ false → stored_word m e ≡ Some a → ⊥) → Word may a x m.system → After may a x (next m e).system
  word_next m e enabled st may a x whole other w = word_in e m.system m.order enabled st may a x whole other w

  -- a step that is no take changes no word
  kept_in : (k : ℕ) (e : Event) (s : System) (o : Option Order) → IsEnabled (record { system = s; order = o }) (Steps k e) → is_take e ≡ false → Stands ws s → (may : Bool) (a x : ℕ) → a % 8 ≡ 0 → Word may a x s → Word may a x (next (record { system = s; order = o }) (Steps k e)).system
  kept_in k e s None enabled quiet st may a x whole w = w
  kept_in k e s (Some o) enabled quiet st may a x whole w = one (slice_get s.processors k) refl enabled
    where
      one : (q : Option Processor) → slice_get s.processors k ≡ q → option_map_or (λ p. due o s.processors p p.phase) q None ≡ Some e → Word may a x (step o.goal e k s)
      one None at h = absurd (cc)
      one (Some p) at h = step_keeps ws aligned o.goal k s p at st e (due_drains o s.processors p p.phase e h) quiet may a x whole w

  pub step_keeps_word : (m : Machine) (k : ℕ) (e : Event) → IsEnabled m (Steps k e) → is_take e ≡ false → Stands ws m.system → (may : Bool) (a x : ℕ) → a % 8 ≡ 0 → Word may a x m.system → Word may a x (next m (Steps k e)).system
  step_keeps_word m k e enabled quiet st may a x whole w = kept_in k e m.system m.order enabled quiet st may a x whole w

  -- ---- the invariant

  pub agrees_next : (m : Machine) (e : MachineEvent) → IsEnabled m e → Agrees ws m → Agrees ws (next m e)
  agrees_next m e enabled g = record {
    stands = stands_next m e enabled g.stands;
    words = λ a whole. let w = g.words a whole in let r = word_next m e enabled g.stands true a w.0 whole (λ h. absurd (cc)) w.1 in (r.0, r.2);
  }

  pub agrees_run : (m : Machine) (es : List MachineEvent) → AreEnabled m es → Agrees ws m → Agrees ws (run m es)
  agrees_run m [] enabled g = g
  agrees_run m (e ∷ es) enabled g = agrees_run (next m e) es enabled.1 (agrees_next m e enabled.0 g)
