-- What a processor that has released is.
use Rattle.std.proofs.Common.{◌≡◌, ◌+◌, ℕ, zero, suc, Bool, true, false, List, [], ◌∷◌, map, sym, refl, ap, ◌∙◌, ⊎_elim, arith, Option, Some, None}
use Rattle.std.specs.Prelude.{if◌then◌else◌, slice_get}
use Rattle.std.specs.Option.{option_map_or}
use Rattle.std.proofs.lemmas.Bool.{lt-ltb}
use Rattle.mt_machine.specs.declared.phase.Phase.TheVariants.{Running}
use Rattle.mt_machine.specs.declared.event.Event.TheVariants.{Release}
use Rattle.mt_machine.specs.declared.go.Go.TheVariants.{Pending}
use Rattle.mt_machine.specs.System.{Processor, System}
use Rattle.mt_machine.specs.Machine.{Machine, Order, Steps, common_era, is_over, next, step, stepped}
use Rattle.mt_machine.specs.Update.{Led, led_on, settled_processor, updated}
use Rattle.mt_laws.specs.Updates.{all_running}
use Rattle.mt_laws.proofs.Barrier.Claims.{all_get}
use Rattle.mt_laws.proofs.Updates.SecondBarrier.{led_released}
use Rattle.mt_laws.proofs.Updates.Broadcast.{led_ends}
use Rattle.mt_rendezvous.specs.declared.view.Start.{Start}
use Rattle.mt_rendezvous.specs.Station.{order_of, broadcast, Begins}
use Rattle.mt_rendezvous.specs.Plays.{Took}

some_injected : (a b : Processor) → Some a ≡ Some b → a ≡ b
some_injected a b e = cc

at_map : (f : Processor → Processor) (l : List Processor) (k : ℕ) (p q : Processor) → slice_get l k ≡ Some p → slice_get (map f l) k ≡ Some q → q ≡ f p
at_map f [] k p q a b = absurd (cc)
at_map f (x ∷ xs) zero p q a b = sym (some_injected (f x) q b) ∙ ap f (some_injected x p a)
at_map f (x ∷ xs) (suc k) p q a b = at_map f xs k p q a b

module _ (t : Start) (begins : Begins t) (k : ℕ) (p q : Processor) (took : Took t k Release p q) where
  abbrev after : Machine
  after = next took.machine (Steps k Release)

  led_after : Led (broadcast t) after
  led_after = led_on (Steps k Release) took.led took.enabled refl

  -- it is the one that the update leaves
  pub settled : (first : Processor) → slice_get t.cpus k ≡ Some first → q.era ≡ common_era t.cpus + 1 → q ≡ settled_processor t.goal first
  settled first at risen = one (is_over (order_of t took.go) there.processors) refl
    where
      there : System
      there = step t.goal Release k took.machine.system

      moves : after ≡ stepped (order_of t took.go) there
      moves = ap (λ (x : Option Order). option_map_or (λ o. stepped o (step o.goal Release k took.machine.system)) x took.machine) took.order

      ends : after.order ≡ None → q ≡ settled_processor t.goal first
      ends over = ⊎_elim
          (λ (e : after ≡ updated (broadcast t).system [] t.goal). at_map (settled_processor t.goal) t.cpus k first q at (sym (ap (λ (m : Machine). slice_get m.system.processors k) e) ∙ took.after))
          (λ (e : after ≡ record { system = all_running (broadcast t).system; order = None }).
          let same : q ≡ record first { phase = Running } = at_map (λ (r : Processor). record r { phase = Running }) t.cpus k first q at (sym (ap (λ (m : Machine). slice_get m.system.processors k) e) ∙ took.after) in
          let era : first.era ≡ common_era t.cpus = all_get (λ (r : Processor). r.era ≡ common_era t.cpus) t.cpus begins.broadcasts.one_era k first at in
          let eras : q.era ≡ first.era = ap (λ (r : Processor). r.era) same in
          absurd (omega arith))
          (led_ends (broadcast t) after (order_of t Pending) begins.broadcasts led_after over)

      one : (b : Bool) → is_over (order_of t took.go) there.processors ≡ b → q ≡ settled_processor t.goal first
      one true over = ends (ap (λ (m : Machine). m.order) moves ∙ ap (λ (b : Bool). if b then None else Some (order_of t took.go)) over)
      one false on =
          led_released (broadcast t) after (order_of t Pending) (order_of t took.go) k first q begins.broadcasts led_after (ap (λ (m : Machine). m.order) moves ∙ ap (λ (b : Bool). if b then None else Some (order_of t took.go)) on)
          at took.after (lt-ltb (common_era t.cpus) q.era (omega arith))
