use Rattle.std.proofs.Common.{◌≡◌, ◌∙◌, ℕ, zero, suc, List, [], ◌∷◌, ◌++◌, Option, Some, ap, arith, refl, subst, sym, false}
use Rattle.std.specs.Prelude.{slice_get}
use mathlib.Core.Option.{some}
use Rattle.atomic_table.specs.Seated.{TableId}
use Rattle.mt_machine.specs.System.{System}
use Rattle.mt_private.specs.declared.job.Job.{Job}
use Rattle.mt_private.specs.declared.job.JobAnswers.{JobAnswers}
use Rattle.mt_private.specs.declared.view.Resident.{Resident}
use Rattle.mt_private.specs.declared.visiting.Visited.TheVariants.{Complete}
use Rattle.mt_private.specs.Left.{AreOwnsOf, YardEnds}
use Rattle.mt_private.specs.OneByOne.{ran}
use Rattle.mt_private.specs.Residents.{own_of}
use Rattle.mt_private.specs.Visitors.{CameBack, Returned, own_at, pass_to, stay_at}
use Rattle.mt_thread_laws.specs.WorkedWay.{HasNoAnswers, IsEmptyJob, last_seat, lone_host, released, seat_shown}
use Rattle.mt_thread_laws.specs.WorkedYard.{alone}
use Rattle.mt_private.specs.YardCalls.{KeepsOwn, VisitEnds, updated_own}
use Rattle.mt_thread_laws.proofs.LoneGuest.{released_yard}
use Rattle.mt_thread_laws.proofs.LoneSeats.{same_place}
use Rattle.mt_thread_laws.proofs.job_worked_laws.worked_laws_of_ends.Goals as goal

abbrev kept : List (Option System)
kept = Some (own_of released) ∷ []

updated : own_of released ≡ (ran 0 [] (updated_own alone.goal (ran 0 [] (own_at alone 0)).after)).after
updated = refl

ends : (table : TableId) (job : Job) (told : JobAnswers) → IsEmptyJob job → HasNoAnswers told
    → VisitEnds Complete (pass_to (lone_host table) 0 table (seat_shown (Some 1) false released)) (stay_at alone 0 job (own_of released) told)
ends table job told is none = (
  record { cpu = released.held.cpu; same = refl; alone = refl; holds = refl; told = refl; below = omega arith; bare = refl },
  refl,
  updated ∙ (λ i. (ran 0 (sym is.1 i) (updated_own alone.goal (ran 0 (sym is.0 i) (own_at alone 0)).after)).after),
  none.0 ∙ (λ i. (ran 0 (sym is.0 i) (own_at alone 0)).answers),
  none.1 ∙ (λ i. (ran 0 (sym is.1 i) (updated_own alone.goal (ran 0 (sym is.0 i) (own_at alone 0)).after)).answers),
  λ i. sym is.0 i ++ sym is.1 i,
)

abbrev first_of : List Resident → Resident
first_of [] = released
first_of (y ∷ ys) = y

came : (table : TableId) (job : Job) (told : JobAnswers) → IsEmptyJob job → HasNoAnswers told → CameBack (lone_host table) job 0 kept told
came table job told is none = record {
  visited = Complete;
  own = own_of released;
  its = table;
  me = seat_shown (Some 1) false released;
  ends = ends table job told is none;
  runs = refl;
  has_room = λ e. absurd (cc e);
  kept = refl;
  among = λ y same. (0, ap (λ (ys : List Resident). some (first_of ys)) same);
  shown = λ e. absurd (cc e);
}

each : (table : TableId) (job : Job) (told : JobAnswers) → IsEmptyJob job → HasNoAnswers told → (k : ℕ) (j : Job) (r : JobAnswers) → slice_get (job ∷ []) k ≡ Some j → slice_get (told ∷ []) k ≡ Some r
    → CameBack (lone_host table) j k kept r
each table job told is none zero j r at there =
    subst (λ (x : Job × JobAnswers). CameBack (lone_host table) x.0 0 kept x.1) (let a : job ≡ j = cc at in let b : told ≡ r = cc there in λ i. (a i, b i)) (came table job told is none)
each table job told is none (suc k) j r at there = absurd (cc at)

keeps : KeepsOwn last_seat.0 kept
keeps zero o at = let same : own_of released ≡ o = cc at in (0, released, refl, refl, same)
keeps (suc k) o at = absurd (cc at)

returned : (table : TableId) (job : Job) (told : JobAnswers) → IsEmptyJob job → HasNoAnswers told → Returned (lone_host table) (job ∷ []) kept (told ∷ [])
returned table job told is none = record { root = (refl, refl, refl); size = refl; keeps = keeps; each = each table job told is none }

leaves : YardEnds alone last_seat.0 released_yard.0
leaves = record { all = released ∷ []; first = 2; second = 1; yard = released_yard.1; same = same_place released refl refl; shown = λ e. absurd (cc e) }

owns : AreOwnsOf alone kept released_yard.0
owns zero o at = released_yard.1.resides.stands.own 0 released refl ∙ (let same : own_of released ≡ o = cc at in same)
owns (suc k) o at = absurd (cc at)

pub returns : goal.returns
returns c = λ law table job told is none. (
  released_yard.0,
  leaves,
  returned table job told is none,
  (law (lone_host table) (job ∷ []) kept (told ∷ []) released_yard.0 (returned table job told is none) refl refl leaves owns refl).0,
)
