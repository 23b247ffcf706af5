-- What the coordinator says to a yard.
use Rattle.std.proofs.Common.{◌≡◌, ◌∙◌, ap, sym, refl, subst, arith, ℕ, ◌+◌, ◌<◌, false, List, [], ◌∷◌, length, Option, Some, inl, inr, ⊎_elim}
use Rattle.std.specs.Prelude.{◌⊎◌}
use Rattle.std.specs.Option.{option_map, option_map_or}
use mathlib.Core.Option.{some}
use lib.ListN.{get_elem?}
use Rattle.mt_machine.specs.declared.phase.Phase.{Phase}
use Rattle.mt_machine.specs.declared.phase.Phase.TheVariants.{Running}
use Rattle.mt_machine.specs.declared.go.Go.{Go}
use Rattle.mt_machine.specs.declared.go.Go.TheVariants.{Pending, Given, Cancelled}
use Rattle.mt_machine.specs.System.{System}
use Rattle.mt_machine.specs.Machine.{Cancels, Goes, IsEnabled, MachineEvent, Order, go_of, next, remaining_order, with_go}
use Rattle.mt_machine.specs.Update.{is_call}
use Rattle.mt_rendezvous.specs.declared.view.Start.{Start}
use Rattle.mt_rendezvous.specs.Station.{FitsPhase, broadcast, go_weight, order_of, rise, in_second}
use Rattle.mt_rendezvous.proofs.Keeps.{IsUnderWay}
use Rattle.mt_rendezvous.proofs.RootSteps.{turned}
use Rattle.mt_private.specs.declared.view.Resident.{Resident}
use Rattle.mt_private.specs.Residents.{Decides, FitsYard, Uncalled, Yard, uncalled_on, yard_machine, scene}
use Rattle.mt_rendezvous.specs.declared.view.Added.TheVariants.{Never, Once, Twice}
use Rattle.mt_rendezvous.specs.declared.view.Added.{Added}
use Rattle.mt_private.proofs.Residents.Barriers.{not_taken, under_way}

-- before it says anything each processor is on its way, or hasn't taken
pending_case : (added : Added) (p : Phase) → FitsYard Pending added p → IsUnderWay p ⊎ ((p ≡ Running) × (in_second added ≡ false))
pending_case added Running f =
    inr (
      refl,
      ⊎_elim
          (λ (x : added ≡ Never). ap in_second x)
          (λ (x : FitsPhase Pending added Running). absurd (⊎_elim (λ (z : (added ≡ Once) × (Pending ≡ Cancelled)). let e = z.1 in cc) (λ (z : (added ≡ Twice) × (Pending ≡ Given)). let e = z.1 in cc) x))
          f,
    )
pending_case added other f = inl tt

-- and fits as it did once it has
turned_yard : (new : Go) (added : Added) (p : Phase) → FitsYard Pending added p → FitsYard new added p
turned_yard new added Running f = ⊎_elim (λ (x : added ≡ Never). inl x) (λ (x : FitsPhase Pending added Running). inr (turned Pending new added Running refl x)) f
turned_yard new added other f = turned Pending new added other refl f

first_of : (all : List Resident) → 0 < length all → (y : Resident) × (get_elem? all 0 ≡ some y)
first_of [] some_one = absurd (omega arith)
first_of (y ∷ all) some_one = (y, refl)

module _ (t : Start) (all : List Resident) (first second : ℕ) (s : System) (r : Yard t (scene all Pending s) first second) where
  pending_order : (yard_machine t Pending s).order ≡ Some (order_of t Pending)
  pending_order =
      let size = r.resides.size in
      let some_one = r.resides.opens.some in
      let y = first_of all (omega arith) in
      let f = (r.resides.fits 0 y.0 y.1).0 in
      ⊎_elim
      (λ (u : IsUnderWay y.0.held.cpu.phase). under_way t all Pending first second s r 0 y.0 y.1 u)
      (λ (x : (y.0.held.cpu.phase ≡ Running) × (in_second y.0.held.added ≡ false)).
      let up : rise (in_second y.0.held.added) y.0.held.cpu.phase ≡ 0 = (λ i. rise (x.1 i) (x.0 i)) in
      let era = f.era in
      not_taken t all Pending first second s r 0 y.0 y.1 (λ e. cc) (omega arith))
      (pending_case y.0.held.added y.0.held.cpu.phase f.fits)

  decided : (go : Go) (e : MachineEvent) (m : ℕ) → is_call e ≡ false → IsEnabled (yard_machine t Pending s) e → next (yard_machine t Pending s) e ≡ with_go go (yard_machine t Pending s) → m ≡ first + go_weight go → Decides t (scene all go s) m second e
  decided go e m quiet enabled by count =
      let becomes : next (yard_machine t Pending s) e ≡ yard_machine t go s =
      by ∙ ap (λ (x : Option Order). option_map_or (λ o. record { system = s; order = remaining_order (record o { go = go }) s.processors }) x (yard_machine t Pending s)) pending_order in
      let old = r.first_count in
      record {
        enabled = enabled;
        becomes = sym becomes;
        kept = record {
          resides = record {
            opens = r.resides.opens;
            reached = subst (Uncalled (broadcast t)) becomes (uncalled_on e r.resides.reached enabled quiet);
            stands = r.resides.stands;
            size = r.resides.size;
            fits = λ k y at. let f = r.resides.fits k y at in (record { fits = turned_yard go y.held.added y.held.cpu.phase f.0.fits; era = f.0.era }, f.1);
          };
          first_count = omega arith;
          second_count = r.second_count;
        };
      }

  said : go_of (yard_machine t Pending s) ≡ Some Pending
  said = ap (option_map (λ (o : Order). o.go)) pending_order

  pub gives : Decides t (scene all Given s) (first + 1) second Goes
  gives = decided Given Goes (first + 1) refl said refl refl

  pub cancels : Decides t (scene all Cancelled s) (first + 4294967296) second Cancels
  cancels = decided Cancelled Cancels (first + 4294967296) refl said refl refl
