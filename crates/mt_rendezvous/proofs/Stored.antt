-- A seat after the store by which its processor does its own event.
use Rattle.std.proofs.Common.{◌≡◌, ◌≤◌, ℕ, sym, ap, subst}
use Rattle.atomic_table.specs.Table.{Step}
use Rattle.atomic_table.specs.Seated.{TableId}
use Rattle.mt_machine.specs.declared.go.Go.TheVariants.{Given}
use Rattle.mt_machine.specs.System.{Processor}
use Rattle.mt_machine.specs.Machine.{own_step}
use Rattle.mt_rendezvous.specs.declared.view.Added.TheVariants.{Once}
use Rattle.mt_rendezvous.specs.declared.view.View.{View}
use Rattle.mt_rendezvous.specs.Station.{held}
use Rattle.mt_rendezvous.specs.Plays.{Sat, StandsInUpdate, TellsAt, own_event, work}
use Rattle.mt_rendezvous.specs.Calls.{Carries, PassOf}
use Rattle.mt_rendezvous.proofs.Carried.{carried, of_it}
use Rattle.mt_rendezvous.proofs.Told.{of_store}

module _ {pass : PassOf Sat} {c : Processor} (r : Carries pass c Once) (new : Sat) (d : Processor) (i found : ℕ) (st : Step (Unit {0})) (high : 2 ≤ i) (tells : TellsAt i st pass.me found new) (is : d ≡ own_step pass.start.goal (own_event pass.start c) c) where
  pub carries_on : (its : TableId) → its ≡ pass.its → Carries (record pass { its = its; me = new }) d Once
  carries_on its same =
      let w = (of_store i st pass.me new found high tells).2 in
      carried r its new d Once work same w.0 (ap (λ (v : View). v.held) w.1) (ap (λ (v : View). v.start) w.1) (ap (λ (p : Processor). held pass.number p Once) (sym is))

  pub stands_on : StandsInUpdate pass.start Given pass.number d
  stands_on = subst (StandsInUpdate pass.start Given pass.number) (sym is) (of_it r (λ u h. StandsInUpdate u Given h.number (work u h).cpu) (of_store i st pass.me new found high tells).2.3)
