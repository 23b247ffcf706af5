-- Each event of one resident, and what it leads to.
use Rattle.std.proofs.Common.{◌≡◌, ◌∙◌, ap, sym, refl, subst, ℕ, false, List, [], ◌∷◌, Option, None, Some}
use Rattle.std.specs.Prelude.{slice_get}
use Rattle.std.specs.Option.{option_map_or}
use mathlib.Core.Option.{some}
use lib.ListN.{get_elem?}
use Rattle.mt_machine.specs.declared.phase.Phase.TheVariants.{Running}
use Rattle.mt_machine.specs.declared.event.Event.{Event}
use Rattle.mt_machine.specs.declared.go.Go.{Go}
use Rattle.mt_machine.specs.declared.done.Done.{Done}
use Rattle.mt_machine.specs.declared.op.Op.{Op}
use Rattle.mt_machine.specs.System.{Processor, System}
use Rattle.mt_machine.specs.Access.{access, is_running}
use Rattle.mt_machine.specs.Machine.{Accesses, FitsOp, IsEnabled, Order, Steps, due, next, step, stepped}
use Rattle.mt_laws.proofs.Barrier.Stages.{access_stages}
use Rattle.mt_rendezvous.specs.declared.view.Start.{Start}
use Rattle.mt_rendezvous.specs.Station.{broadcast, order_of}
use Rattle.mt_private.specs.declared.view.Resident.{Resident}
use Rattle.mt_private.specs.Own.{Becomes, RunsAlone, WritesOn, own_system}
use Rattle.mt_private.specs.Residents.{FitsResident, ResidentMoves, Resides, Uncalled, own_of, pages_at, uncalled_on, yard_machine, scene, move_of}
use Rattle.mt_private.proofs.Own.Owners.{runs_alone, steps_alone}
use Rattle.mt_private.proofs.Residents.Moves.{moves, order_by_stages, processor_at}

-- an event that is due for a processor, and the machine after it
step_enabled : (o : Order) (s : System) (k : ℕ) (e : Event) (p : Processor) → (stepped o s).order ≡ Some o → slice_get s.processors k ≡ Some p → due o s.processors p p.phase ≡ Some e → IsEnabled (stepped o s) (Steps k e)
step_enabled o s k e p order at is =
    ap (λ (x : Option Order). option_map_or (λ u. option_map_or (λ p. due u s.processors p p.phase) (slice_get s.processors k) None) x None) order
    ∙ ap (λ (x : Option Processor). option_map_or (λ p. due o s.processors p p.phase) x None) at
    ∙ is

step_next : (o : Order) (s : System) (k : ℕ) (e : Event) → (stepped o s).order ≡ Some o → next (stepped o s) (Steps k e) ≡ stepped o (step o.goal e k s)
step_next o s k e order = ap (λ (x : Option Order). option_map_or (λ u. stepped u (step u.goal e k s)) x (stepped o s)) order

module _ (t : Start) (all : List Resident) (go : Go) (s : System) (r : Resides t (scene all go s)) (k : ℕ) (y : Resident) (at : get_elem? all k ≡ some y) where
  abbrev o : Order
  o = order_of t go

  -- a step of the update
  pub steps : (e : Event) (w : Resident) → (yard_machine t go s).order ≡ Some (order_of t go) → due (order_of t go) s.processors y.held.cpu y.held.cpu.phase ≡ Some e → WritesOn (pages_at t k) e
      → own_of w ≡ step t.goal e 0 (own_of y) → w.held.number ≡ k → FitsResident t go w.held → ResidentMoves t (scene all go s) (move_of k w (Some (Steps k e)))
  steps e w order is on own number fits = record {
    system = step t.goal e k s;
    enabled = enabled;
    becomes = sym (step_next o s k e order);
    kept = moves t all go s r k y at (step t.goal e k s) _ w b (own ∙ sym (ap (step t.goal e 0) (r.stands.own k y at))) number fits
        (subst (Uncalled (broadcast t)) (step_next o s k e order) (uncalled_on (Steps k e) r.reached enabled refl));
  }
    where
      enabled : IsEnabled (yard_machine t go s) (Steps k e)
      enabled = step_enabled o s k e y.held.cpu order (processor_at t all go s r k y at) is

      b : Becomes (pages_at t k) k s (step t.goal e k s) (step t.goal e 0 (own_system (pages_at t k) k s))
      b = steps_alone (pages_at t k) k s r.stands.memory (r.stands.owns k y at) t.goal e on

  -- an access
  pub accesses : (op : Op) (w : Resident) → y.held.cpu.phase ≡ Running → FitsOp op → own_of w ≡ (access (own_of y) 0 op).after → w.held.number ≡ k → FitsResident t go w.held
      → ResidentMoves t (scene all go s) (move_of k w (Some (Accesses k op))) × ((access s k op).answer ≡ (access (own_of y) 0 op).answer)
  accesses op w runs fits_op own number fits = (
    record {
      system = (access s k op).after;
      enabled = enabled;
      becomes = sym next_is;
      kept = moves t all go s r k y at (access s k op).after _ w alone.after (own ∙ sym (ap (λ (u : System). (access u 0 op).after) (r.stands.own k y at))) number fits
          (subst (Uncalled (broadcast t)) next_is (uncalled_on (Accesses k op) r.reached enabled refl));
    },
    first alone.answers ∙ ap (λ (u : System). (access u 0 op).answer) (r.stands.own k y at),
  )
    where
      enabled : IsEnabled (yard_machine t go s) (Accesses k op)
      enabled = (ap (λ (x : Option Processor). option_map_or (λ p. is_running p.phase) x false) (processor_at t all go s r k y at) ∙ ap is_running runs, fits_op)

      alone : RunsAlone (pages_at t k) k (op ∷ []) s
      alone = runs_alone (pages_at t k) k s r.stands.memory (r.stands.owns k y at) (op ∷ [])

      first : {a b : Done} → a ∷ [] ≡ b ∷ [] → a ≡ b
      first h = cc

      next_is : next (yard_machine t go s) (Accesses k op) ≡ yard_machine t go (access s k op).after
      next_is = ap (λ (x : Option Order). record { system = (access s k op).after; order = x }) (order_by_stages o s.processors (access s k op).after.processors (sym (access_stages s k op)))

  -- nothing happens to the machine
  pub stays : (w : Resident) → own_of w ≡ own_of y → w.held.number ≡ k → FitsResident t go w.held → ResidentMoves t (scene all go s) (move_of k w None)
  stays w own number fits = record {
    system = s;
    enabled = tt;
    becomes = refl;
    kept = moves t all go s r k y at s (own_system (pages_at t k) k s) w alone.after (own ∙ sym (r.stands.own k y at)) number fits r.reached;
  }
    where
      alone : RunsAlone (pages_at t k) k [] s
      alone = runs_alone (pages_at t k) k s r.stands.memory (r.stands.owns k y at) []
