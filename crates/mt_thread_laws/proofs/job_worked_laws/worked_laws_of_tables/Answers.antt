use Rattle.std.proofs.Common.{◌≡◌, ◌+◌, List, ◌∷◌, [], None, Some, ap, arith, false, inl, length, refl, subst, sym, true, ⊎_elim}
use mathlib.Core.Option.{none, some}
use lib.ListN.{get_elem?}
use Rattle.atomic_table.specs.Table.{carried_after, step}
use Rattle.mt_machine.specs.declared.event.Event.TheVariants.{Take}
use Rattle.mt_machine.specs.declared.phase.Phase.TheVariants.{Running}
use Rattle.mt_machine.specs.declared.go.Go.{Go}
use Rattle.mt_machine.specs.declared.go.Go.TheVariants.{Given, Pending}
use Rattle.mt_machine.specs.Machine.{Goes, Steps, common_era}
use Rattle.mt_rendezvous.specs.declared.view.Key.{Key}
use Rattle.mt_rendezvous.specs.declared.view.Start.{Start}
use Rattle.mt_rendezvous.specs.Station.{start_of}
use Rattle.mt_private.specs.declared.view.Resident.{Resident}
use Rattle.mt_private.specs.Residents.{ResidentFollows, Opens, Yard, scene, move_of}
use Rattle.mt_thread_laws.specs.WorkedWay.{guest, left, lone_pass, released, settled}
use Rattle.mt_thread_laws.specs.WorkedYard.{first_lodged, first_state, first_taken, lodging, no_counts, split_state}
use Rattle.mt_private.specs.YardLaws.{IsLoad}
use Rattle.mt_private.specs.YardPlays.{YardSat}
use Rattle.mt_private.specs.YardRule.{MeetsYard, as_view, first_yard_view, one_of, residents, yard_left, yard_right}
use Rattle.mt_thread_laws.proofs.Lodged.{opened_lodging, opens_lodging, second_lodged, zeros}
use Rattle.mt_thread_laws.proofs.LoneSeats.{left_meets, settled_meets}
use Rattle.mt_private.proofs.Residents.Decisions.{gives}
use Rattle.mt_private.proofs.Residents.Plays.{takes_yard}
use Rattle.mt_private.proofs.Residents.Seats.{splits}
use Rattle.mt_private.proofs.Residents.Work.{takes}
use Rattle.mt_rendezvous.specs.declared.view.Added.TheVariants.{Once}
use Rattle.mt_thread_laws.proofs.job_worked_laws.worked_laws_of_tables.Goals as goal

both_held : (key : Key) → start_of key ≡ lodging → (first_yard_view key).held ≡ first_lodged ∷ second_lodged ∷ []
both_held key is = ap (λ (t : Start). residents t 0 t.cpus) is

one_held : (key : Key) → start_of key ≡ lodging → (yard_right (first_yard_view key)).held ≡ first_lodged ∷ []
one_held key is = ap (λ (t : Start). one_of (residents t 0 t.cpus)) is

split_meets : (key : Key) → start_of key ≡ lodging → MeetsYard key (split_state key)
split_meets key is = (splits key (first_state key) (opened_lodging key is) 0 (first_yard_view key) first_lodged (second_lodged ∷ []) refl (both_held key is)).kept

unsaid : (key : Key) (m : MeetsYard key (first_state key)) → m.go ≡ Pending
unsaid key m = sym ((m.sits 0 (as_view (first_yard_view key)) refl).root refl).1

took : (key : Key) (is : start_of key ≡ lodging) (m : MeetsYard key (split_state key)) → ResidentFollows (start_of key) (scene m.all m.go m.system) (move_of 0 first_taken (Some (Steps 0 Take))) 0 0
took key is m =
    let at : get_elem? m.all 0 ≡ some first_lodged = m.same 1 (yard_right (first_yard_view key)) refl 0 first_lodged (ap (λ (ys : List Resident). get_elem? ys 0) (one_held key is)) in
    takes (start_of key) m.all m.go 0 0 m.system m.yard 0 first_lodged at refl refl (omega arith)

pub returns-clause-start : goal.returns-clause-start
returns-clause-start c = λ law key is. law key no_counts (subst Opens (sym is) opens_lodging) (let e : length key.cpus.value.items ≡ 2 = ap (λ (t : Start). length t.cpus) is in omega arith) zeros

pub returns-clause-reached : goal.returns-clause-reached
returns-clause-reached c = λ law key is. (opened_lodging key is, law key (first_state key) (opened_lodging key is))

pub returns-clause-one : goal.returns-clause-one
returns-clause-one c = λ law key m n. law key (first_state key) m n

pub returns-clause-decides : goal.returns-clause-decides
returns-clause-decides c = λ law key is.
    let m = opened_lodging key is in (
      m,
      law key (first_state key) m 0 1 (first_yard_view key) Given Goes refl refl (omega arith) refl (unsaid key m)
          (gives (start_of key) m.all 0 0 m.system (subst (λ (go : Go). Yard (start_of key) (scene m.all go m.system) 0 0) (unsaid key m) m.yard)),
    )

pub returns-clause-split : goal.returns-clause-split
returns-clause-split c = λ law key is.
    (opened_lodging key is, law key (first_state key) (opened_lodging key is) 0 (first_yard_view key) first_lodged (second_lodged ∷ []) refl (both_held key is))

pub returns-clause-moves : goal.returns-clause-moves
returns-clause-moves c = λ law key is.
    let m = split_meets key is in (
      m,
      law key (split_state key) m 1 (yard_right (first_yard_view key)) first_lodged refl (one_held key is) 0 0 first_taken None false (Some (Steps 0 Take)) refl (inl (omega arith, refl))
          (λ e. absurd (cc e))
          (took key is m),
    )

pub returns-clause-join : goal.returns-clause-join
returns-clause-join c = λ law key is.
    let m = split_meets key is in (
      m,
      law key (split_state key) m 0 1 (yard_left (first_yard_view key)) (yard_right (first_yard_view key)) first_lodged refl refl (λ same. omega (arith, same)) refl (one_held key is),
    )

pub returns-clause-steps : goal.returns-clause-steps
returns-clause-steps c = λ law key is.
    let m = split_meets key is in
    let may = takes_yard key 0 1 (yard_right (first_yard_view key), []) first_lodged (one_held key is) refl refl refl (split_state key) m refl refl (omega arith) in (
      m,
      (may.0, carried_after [] may.1),
      law key (split_state key) m 1 (step 0 0 0 0 none) (yard_right (first_yard_view key), []) (may.0, carried_after [] may.1) refl may.4,
    )

pub returns-clause-shown : goal.returns-clause-shown
returns-clause-shown c = λ law key is.
    let me : YardSat = (yard_right (first_yard_view key), []) in
    let may = takes_yard key 0 1 me first_lodged (one_held key is) refl refl refl (split_state key) (split_meets key is) refl refl (omega arith) in
    let new : YardSat = (may.0, carried_after [] may.1) in
    let st = step 0 0 0 0 none in (
      new,
      may.4,
      ⊎_elim (λ (e : IsLoad st 1 × (new.0.shown ≡ Some 0)). absurd (let e : 0 ≡ 1 = e.0.0 in omega arith)) (λ (e : (IsLoad st 1 → ⊥) × (new.0.shown ≡ me.0.shown)). e.1) (law st me new 0 may.4),
    )

pub returns-clause-released : goal.returns-clause-released
returns-clause-released c = λ law key is.
    let m = settled_meets key is in
    (m, (law key (settled key) m 1 (lone_pass (start_of key) (Some 1) false released) released refl refl refl refl).0)

pub returns-clause-left : goal.returns-clause-left
returns-clause-left c = λ law key is.
    let m = left_meets key is in
    let told = law key (left key) m 1 (lone_pass (start_of key) None true (guest Running Once)) (guest Running Once) refl refl refl refl in
    (m, told.0, told.1)

pub returns-clause-settles : goal.returns-clause-settles
returns-clause-settles c = λ law key is.
    let m = settled_meets key is in (
      m,
      law key (settled key) m 0 released (m.same 1 (lone_pass (start_of key) (Some 1) false released) refl 0 released refl) (ap (λ (t : Start). common_era t.cpus + 1) (sym is)),
    )
