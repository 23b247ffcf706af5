-- Events that change nothing but a phase or the order.
use Rattle.std.proofs.Common.{◌≡◌, ℕ, zero, suc, List, [], ◌∷◌, Some, None, Option, true, refl, sym, ap, ◌∙◌}
use Rattle.std.specs.Prelude.{slice_get, slice_set, map}
use Rattle.std.specs.Option.{option_map_or}
use Rattle.mt_machine.specs.declared.event.Event.TheVariants.{Arrive, Leave}
use Rattle.mt_machine.specs.System.{Processor, System, change}
use Rattle.mt_machine.specs.Machine.{Machine, Order, MachineEvent, Calls, Goes, Cancels, Steps, next, own_step}
use Rattle.mt_laws.specs.Kept.{SameHoldings, is_still, holdings_of}

module _ {X : Type 0} (view : Processor → X) where
  set_view : (ps : List Processor) (k : ℕ) (p q : Processor) → slice_get ps k ≡ Some p → view q ≡ view p → map view (slice_set ps k q) ≡ map view ps
  set_view [] k p q at same = refl
  set_view (x ∷ ps) zero p q at same = let e : x ≡ p = cc in ap (λ v. v ∷ map view ps) (same ∙ ap view (sym e))
  set_view (x ∷ ps) (suc k) p q at same = ap (λ vs. view x ∷ vs) (set_view ps k p q at same)

  change_view_at : (f : Processor → Processor) → ((p : Processor) → view (f p) ≡ view p) → (k : ℕ) (s : System) (o : Option Processor) → slice_get s.processors k ≡ o → map view (option_map_or (λ p. record s { processors = slice_set s.processors k (f p) }) o s).processors ≡ map view s.processors
  change_view_at f same k s None at = refl
  change_view_at f same k s (Some p) at = set_view s.processors k p (f p) at (same p)

  -- what f leaves of each processor stays when one is changed by f
  pub change_view : (f : Processor → Processor) → ((p : Processor) → view (f p) ≡ view p) → (k : ℕ) (s : System) → map view (change f k s).processors ≡ map view s.processors
  change_view f same k s = change_view_at f same k s (slice_get s.processors k) refl

change_memory_at : (f : Processor → Processor) (k : ℕ) (s : System) (o : Option Processor) → (option_map_or (λ p. record s { processors = slice_set s.processors k (f p) }) o s).memory ≡ s.memory
change_memory_at f k s None = refl
change_memory_at f k s (Some p) = refl

pub change_memory : (f : Processor → Processor) (k : ℕ) (s : System) → (change f k s).memory ≡ s.memory
change_memory f k s = change_memory_at f k s (slice_get s.processors k)

same : (s : System) → SameHoldings s s
same s = record { processors = refl; memory = refl }

still_in : (s : System) (o : Option Order) (e : MachineEvent) → is_still e ≡ true → SameHoldings s (next (record { system = s; order = o }) e).system
still_in s o (Calls goal) is = same s
still_in s None Goes is = same s
still_in s (Some o) Goes is = same s
still_in s None Cancels is = same s
still_in s (Some o) Cancels is = same s
still_in s None (Steps k Arrive) is = same s
still_in s (Some o) (Steps k Arrive) is = record { processors = change_view holdings_of (own_step o.goal Arrive) (λ p. refl) k s; memory = change_memory (own_step o.goal Arrive) k s }
still_in s None (Steps k Leave) is = same s
still_in s (Some o) (Steps k Leave) is = record { processors = change_view holdings_of (own_step o.goal Leave) (λ p. refl) k s; memory = change_memory (own_step o.goal Leave) k s }
still_in s o other is = absurd (cc)

pub still_keeps : (m : Machine) (e : MachineEvent) → is_still e ≡ true → SameHoldings m.system (next m e).system
still_keeps m e is = still_in m.system m.order e is
