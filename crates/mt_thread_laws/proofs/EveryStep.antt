-- Every step that the one play tells is one event of its station's machine that comes of such a step, or none.
use Rattle.std.proofs.Common.{◌≡◌, ℕ, zero, suc, ◌+◌, ◌%◌, Bool, true, false, [], sym, refl, subst, inl, inr, arith}
use Rattle.std.specs.Prelude.{Option, Some, None, slice_index}
use mathlib.Core.Option.{none, some}
use lib.ListN.{get_elem?}
use Rattle.atomic_table.specs.Table.{keeps, step, stepped}
use Rattle.mt_machine.specs.declared.phase.Phase.{Phase}
use Rattle.mt_machine.specs.declared.phase.Phase.TheVariants.{Taken, Arrived, Restored, Arrived2}
use Rattle.mt_machine.specs.declared.event.Event.{Event}
use Rattle.mt_machine.specs.declared.event.Event.TheVariants.{Arrive, Leave, Pass, ArriveAgain, Release, SetNoFill}
use Rattle.mt_machine.specs.declared.go.Go.TheVariants.{Given}
use Rattle.mt_machine.specs.Machine.{Cancels as CancelsUpdate, Goes, MachineEvent, Steps}
use Rattle.mt_machine.proofs.Rows.{due_row, is_row}
use Rattle.mt_cpu.specs.Steps.{is_local}
use Rattle.mt_rendezvous.specs.declared.view.Key.{Key}
use Rattle.mt_rendezvous.specs.Station.{Meets, added_of, again_of, held, order_of, in_first, in_second}
use Rattle.mt_rendezvous.specs.Plays.{Arrives, Cancels, IsPass, IsUndecided, IsWaiting, Passes, Releases, Sat, TellsAt, TellsSecond, own_event}
use Rattle.mt_rendezvous.specs.Laws.{ComesOf, EachStepFollows, StationFollows, HasPass, IsOneStep, OfStep, ShownIsFound, Station, loaded, seat_step}
use Rattle.mt_rendezvous.proofs.Keeps.{total_small, weight_small}
use Rattle.mt_rendezvous.proofs.Local.{due_alone}
use Rattle.mt_rendezvous.proofs.Steps.{Arrival, Passing, Releasing, arrival, go_small, passing, releasing}
use Rattle.mt_rendezvous.proofs.Told.{loaded_again, unshown}
use Rattle.mt_rendezvous.specs.declared.view.Added.TheVariants.{Never, Once, Twice}
use Rattle.mt_thread_laws.proofs.EachStep.{arrive_again_follows, arrive_follows, cancel_follows, go_follows, pass_follows, release_follows, work_follows}

-- ---- what is stored is no event of a barrier

arrives_not : (ph : Phase) → is_local ph ≡ true → is_row Arrive ph ≡ true → ⊥
arrives_not Taken here row = absurd (cc)
arrives_not other here row = absurd (cc)

passes_not : (ph : Phase) → is_local ph ≡ true → is_row Pass ph ≡ true → ⊥
passes_not Arrived here row = absurd (cc)
passes_not other here row = absurd (cc)

leaves_not : (ph : Phase) → is_local ph ≡ true → is_row Leave ph ≡ true → ⊥
leaves_not Taken here row = absurd (cc)
leaves_not Arrived here row = absurd (cc)
leaves_not other here row = absurd (cc)

arrives_again_not : (ph : Phase) → is_local ph ≡ true → is_row ArriveAgain ph ≡ true → ⊥
arrives_again_not Restored here row = absurd (cc)
arrives_again_not other here row = absurd (cc)

releases_not : (ph : Phase) → is_local ph ≡ true → is_row Release ph ≡ true → ⊥
releases_not Arrived2 here row = absurd (cc)
releases_not other here row = absurd (cc)

stored : (i n : ℕ) (e : Event) (ph : Phase) → is_local ph ≡ true → is_row e ph ≡ true → OfStep (suc (suc i)) n e
stored i n Arrive ph here row = absurd (arrives_not ph here row)
stored i n Pass ph here row = absurd (passes_not ph here row)
stored i n Leave ph here row = absurd (leaves_not ph here row)
stored i n ArriveAgain ph here row = absurd (arrives_again_not ph here row)
stored i n Release ph here row = absurd (releases_not ph here row)
stored i n other ph here row = omega arith

module _ (key : Key) (s : Station) (m : Meets key s) (id : ℕ) (me new : Sat) (at : get_elem? s.views id ≡ some me.0) where
  -- a load leaves its count
  first_stays : slice_index s.words 0 ≡ (slice_index s.words 0 + 0) % 18446744073709551616
  first_stays =
      let e = m.first in
      let few = m.few in
      let small = total_small added_of (λ g. weight_small (in_first g.added)) m.all in
      let go = go_small m.go in
      omega arith

  second_stays : slice_index s.words 1 ≡ (slice_index s.words 1 + 0) % 18446744073709551616
  second_stays =
      let e = m.second in
      let few = m.few in
      let small = total_small again_of (λ g. weight_small (in_second g.added)) m.all in
      omega arith

  of_load : (e : Option MachineEvent) → StationFollows key s (loaded s id new 0) m e → ComesOf 0 0 e → IsOneStep key s m (seat_step id 0 0 new)
  of_load e f comes = record { event = e; follows = subst (λ (n : ℕ). StationFollows key s (stepped s 0 n id new.1 new.0 keeps) m e) first_stays f; comes = comes }

  of_second_load : (e : Option MachineEvent) → StationFollows key s (loaded s id new 1) m e → ComesOf 1 0 e → IsOneStep key s m (seat_step id 1 0 new)
  of_second_load e f comes = record { event = e; follows = subst (λ (n : ℕ). StationFollows key s (stepped s 1 n id new.1 new.0 keeps) m e) second_stays f; comes = comes }

  by_load : IsPass me Once IsWaiting → Passes (step 0 0 0 0 none) me (slice_index s.words 0) new → IsOneStep key s m (seat_step id 0 0 new)
  by_load p t = by_case (passing key s m id me.0 (held p.number p.cpu Once) at p.holds refl p.phase)
    where
      its : HasPass s id me (held p.number p.cpu Once)
      its = record { at = at; holds = p.holds }

      by_case : Passing key s m id me.0 (held p.number p.cpu Once) → IsOneStep key s m (seat_step id 0 0 new)
      by_case (inl x) = of_load (Some (Steps p.number Leave)) ((pass_follows key s m id p.number p.cpu me new its p.phase t).1 x.0) (refl, refl)
      by_case (inr (inl x)) = of_load (Some (Steps p.number Pass)) ((pass_follows key s m id p.number p.cpu me new its p.phase t).0 x.0) (refl, refl)
      by_case (inr (inr x)) = of_load None ((pass_follows key s m id p.number p.cpu me new its p.phase t).2 x.0 x.1) tt

  by_arrival : IsPass me Never (λ p. p ≡ Taken) → Arrives (step 0 0 1 0 none) me (slice_index s.words 0) new → IsOneStep key s m (seat_step id 0 1 new)
  by_arrival p t = by_case (arrival key s m id me.0 (held p.number p.cpu Never) at p.holds refl p.phase)
    where
      its : HasPass s id me (held p.number p.cpu Never)
      its = record { at = at; holds = p.holds }

      by_case : Arrival key s m id me.0 (held p.number p.cpu Never) → IsOneStep key s m (seat_step id 0 1 new)
      by_case (inl x) = record { event = None; follows = (arrive_follows key s m id p.number p.cpu me new its p.phase t).1 x.0; comes = tt }
      by_case (inr x) = record { event = Some (Steps p.number Arrive); follows = (arrive_follows key s m id p.number p.cpu me new its p.phase t).0 x.0; comes = (refl, refl) }

  by_addition : (b : Bool) → me.0.root ≡ b → TellsAt 0 (step 0 0 1 0 none) me (slice_index s.words 0) new → IsOneStep key s m (seat_step id 0 1 new)
  by_addition true is t =
      let g = t.0 is in
      record { event = Some Goes; follows = go_follows key s m id me new (record { at = at; root = g.0.0; unsaid = g.0.1 }) g.1; comes = (refl, refl) }
  by_addition false is t = let g = t.1 is in by_arrival g.0 g.1

  by_cancel : (a : ℕ) → a ≡ 4294967296 → IsUndecided me → Cancels (step 0 0 a 0 none) me (slice_index s.words 0) new → IsOneStep key s m (seat_step id 0 a new)
  by_cancel a is u t = subst (λ (n : ℕ). IsOneStep key s m (seat_step id 0 n new)) (sym is) (record {
    event = Some CancelsUpdate;
    follows = cancel_follows key s m id me new (record { at = at; root = u.0; unsaid = u.1 }) (subst (λ (n : ℕ). Cancels (step 0 0 n 0 none) me (slice_index s.words 0) new) is t);
    comes = (refl, refl);
  })

  by_second_load : IsPass me Twice (λ p. p ≡ Arrived2) → Releases (step 0 1 0 0 none) me (slice_index s.words 1) new → IsOneStep key s m (seat_step id 1 0 new)
  by_second_load p t = by_case (releasing key s m id me.0 (held p.number p.cpu Twice) at p.holds refl p.phase)
    where
      its : HasPass s id me (held p.number p.cpu Twice)
      its = record { at = at; holds = p.holds }

      by_case : Releasing key s m id me.0 (held p.number p.cpu Twice) → IsOneStep key s m (seat_step id 1 0 new)
      by_case (inl x) = of_second_load (Some (Steps p.number Release)) ((release_follows key s m id p.number p.cpu me new its p.phase t).0 x.0) (refl, refl)
      by_case (inr x) = of_second_load None ((release_follows key s m id p.number p.cpu me new its p.phase t).1 x.0) tt

  by_second_addition : TellsAt 1 (step 0 1 1 0 none) me (slice_index s.words 1) new → IsOneStep key s m (seat_step id 1 1 new)
  by_second_addition t = let p = t.0 in record {
    event = Some (Steps p.number ArriveAgain);
    follows = arrive_again_follows key s m id p.number p.cpu me new (record { at = at; holds = p.holds }) p.phase t.1;
    comes = (refl, refl);
  }

  by_store : (i n : ℕ) → TellsAt (suc (suc i)) (step 0 (suc (suc i)) n 0 none) me n new → IsOneStep key s m (seat_step id (suc (suc i)) n new)
  by_store i n t =
      let p = t.0 in
      let e = own_event me.0.start p.cpu in
      record {
        event = Some (Steps p.number e);
        follows = work_follows key s m id p.number p.cpu me new (record { at = at; holds = p.holds }) (suc (suc i)) n p.phase t.1 t.2;
        comes = stored i n e p.cpu.phase p.phase
            (due_row (order_of me.0.start Given) [] p.cpu p.cpu.phase e (due_alone (order_of me.0.start Given) (order_of me.0.start Given) [] [] p.cpu SetNoFill p.cpu.phase p.phase));
      }

pub each_step_follows : EachStepFollows
each_step_follows key s m id zero zero me new at t = by_load key s m id me new at t.0 t.1
each_step_follows key s m id zero (suc zero) me new at t = by_addition key s m id me new at me.0.root refl t
each_step_follows key s m id zero (suc (suc a)) me new at t = by_cancel key s m id me new at (suc (suc a)) t.0 t.1 t.2
each_step_follows key s m id (suc zero) zero me new at t = by_second_load key s m id me new at t.0 t.1
each_step_follows key s m id (suc zero) (suc zero) me new at t = by_second_addition key s m id me new at t
each_step_follows key s m id (suc zero) (suc (suc a)) me new at t = absurd t
each_step_follows key s m id (suc (suc i)) n me new at t = by_store key s m id me new at i n t

pub shown_is_found : ShownIsFound
shown_is_found i a found me new t = (
  (λ one none_added. (loaded_again (step 0 i a 0 none) me new found
      (subst (λ (b : ℕ). TellsSecond b (step 0 i a 0 none) me found new) none_added (subst (λ (j : ℕ). TellsAt j (step 0 i a 0 none) me found new) one t))).0),
  (λ apart. (unshown (step 0 i a 0 none) me new found i apart t).0),
)
