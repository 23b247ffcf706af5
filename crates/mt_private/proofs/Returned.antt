-- Visitors that came back, one more at a time.
use Rattle.std.proofs.Common.{◌≡◌, ◌≢◌, ◌∙◌, ap, sym, refl, subst, arith, ℕ, zero, suc, ◌<◌, Bool, true, false, ◌||◌, List, [], ◌∷◌, ◌++◌, length, replicate, set, Option, None, Some, ⊎_elim, length-set}
use Rattle.std.specs.Prelude.{slice_get}
use Rattle.std.proofs.lemmas.List.{length-replicate}
use Rattle.std.proofs.lemmas.Option.{slice_get_within}
use lib.ListN.{get_elem?}
use Rattle.atomic_table.specs.Seated.{TableId}
use Rattle.mt_machine.specs.System.{System}
use Rattle.mt_rendezvous.specs.declared.view.Added.{Added}
use Rattle.mt_rendezvous.specs.declared.view.Added.TheVariants.{Twice}
use Rattle.mt_rendezvous.specs.Calls.{IsRoot, PassOf, SeatOf}
use Rattle.mt_private.specs.Gathered.{pass_of}
use Rattle.mt_private.specs.declared.job.Job.{Job}
use Rattle.mt_private.specs.declared.job.JobAnswers.{JobAnswers}
use Rattle.mt_private.specs.declared.view.Resident.{Resident}
use Rattle.mt_private.specs.declared.view.YardView.{YardView}
use Rattle.mt_private.specs.declared.visiting.Visited.{Visited}
use Rattle.mt_private.specs.declared.visiting.Visited.TheVariants.{Cancelled, Complete}
use Rattle.mt_private.specs.declared.visitor.Visitor.{Visitor}
use Rattle.mt_private.specs.Visitors.{CameBack, HasCome, IsFresh, Returned, pass_to, stay_at}
use Rattle.mt_private.specs.YardCalls.{KeepsOwn, Lodges, Stay, VisitEnds}
use Rattle.mt_private.specs.YardPlays.{YardSat, as_seat}
use Rattle.mt_private.specs.YardRule.{yard_both}
use Rattle.mt_private.proofs.Lists.{at_end, got}

-- however a visit ended, the seat lodges its resident
pub lodges_still : (v : Visited) (pass : PassOf YardSat) (stay : Stay) → VisitEnds v pass stay → (added : Added) × Lodges pass stay.last added
lodges_still Complete pass stay w = (Twice, w.0)
lodges_still Cancelled pass stay w = (w.0.0, w.0.1)

-- ---- none yet

none_kept : (n k : ℕ) (o : System) → ◌≡◌ {A = Option (Option System)} (slice_get (replicate n None) k) (Some (Some o)) → ⊥
none_kept zero k o at = cc
none_kept (suc n) zero o at = cc
none_kept (suc n) (suc k) o at = none_kept n k o at

module _ (host : SeatOf YardSat) (jobs : List Job) where
  pub returned_none : (owns : List (Option System)) (told : List JobAnswers) → IsRoot (as_seat host) → IsFresh host.start host.me.0 owns → told ≡ [] → Returned host jobs owns told
  returned_none owns told root fresh nothing = record {
    root = root;
    size = ap (λ (l : List (Option System)). length l) fresh.1 ∙ length-replicate (length host.start.cpus) None;
    keeps = λ k o at. absurd (none_kept (length host.start.cpus) k o (ap (λ (l : List (Option System)). slice_get l k) (sym fresh.1) ∙ at));
    each = λ k job r at_job at_r. absurd (let e : None ≡ Some r = ap (λ (l : List JobAnswers). slice_get l k) (sym nothing) ∙ at_r in cc);
  }

  -- ---- one more

  set_at : (owns : List (Option System)) (k : ℕ) (o : Option System) → k < length owns → slice_get (set owns k o) k ≡ Some o
  set_at [] k o low = absurd (omega arith)
  set_at (x ∷ owns) zero o low = refl
  set_at (x ∷ owns) (suc k) o low = set_at owns k o (omega arith)

  set_other : (owns : List (Option System)) (k i : ℕ) (o : Option System) → i ≢ k → slice_get (set owns k o) i ≡ slice_get owns i
  set_other [] k i o apart = refl
  set_other (x ∷ owns) zero zero o apart = absurd (apart refl)
  set_other (x ∷ owns) zero (suc i) o apart = refl
  set_other (x ∷ owns) (suc k) zero o apart = refl
  set_other (x ∷ owns) (suc k) (suc i) o apart = set_other owns k i o (λ e. apart (ap suc e))

  or_left : (a b : Bool) → a ≡ true → (a || b) ≡ true
  or_left true b h = refl
  or_left false b h = absurd (cc)

  or_right : (a b : Bool) → b ≡ true → (a || b) ≡ true
  or_right true b h = refl
  or_right false b h = h

  module _ (its : TableId) (me : YardSat) (w : YardView) (y : Resident) (held : w.held ≡ y ∷ []) (view : me.0 ≡ yard_both host.me.0 w) (owns after : List (Option System)) (k : ℕ) (o : System) (kept : after ≡ set owns k (Some o)) where
    now_held : me.0.held ≡ y ∷ host.me.0.held
    now_held = ap (λ (u : YardView). u.held) view ∙ ap (λ (ys : List Resident). ys ++ host.me.0.held) held

    came_later : (i : ℕ) (job : Job) (r : JobAnswers) → i ≢ k → CameBack host job i owns r → CameBack (record host { its = its; me = me }) job i after r
    came_later i job r apart c = record {
      visited = c.visited;
      own = c.own;
      its = c.its;
      me = c.me;
      ends = c.ends;
      runs = c.runs;
      has_room = c.has_room;
      kept = ap (λ (l : List (Option System)). slice_get l i) kept ∙ set_other owns k i (Some o) apart ∙ c.kept;
      among = λ x is. let a = c.among x is in (suc a.0, ap (λ (ys : List Resident). get_elem? ys (suc a.0)) now_held ∙ a.1);
      shown = λ told. ap (λ (u : YardView). u.cancel) view ∙ or_left host.me.0.cancel w.cancel (c.shown told);
    }

  module _ (owns : List (Option System)) (told : List JobAnswers) (old : Returned host jobs owns told) (v : Visitor) (low : length told < length host.start.cpus) (is_job : length told < length jobs)
      (come : (job : Job) → slice_get jobs (length told) ≡ Some job → HasCome host.table host.start job (length told) v) where
    a_job : (job : Job) × (slice_get jobs (length told) ≡ Some job)
    a_job = got jobs (length told) is_job

    its_end : HasCome host.table host.start a_job.0 (length told) v
    its_end = come a_job.0 a_job.1

    pub lodged : (added : Added) × Lodges (pass_of host.table host.start v.pass) v.core.system added
    lodged = lodges_still v.visited (pass_of host.table host.start v.pass) (stay_at host.start (length told) a_job.0 v.core.system v.told) its_end.ends

    pub numbered : v.pass.number ≡ length told
    numbered = its_end.numbered

    pub returned_more : (its : TableId) (me : YardSat) (after : List (Option System)) (later : List JobAnswers) → IsRoot (as_seat (record host { its = its; me = me })) → me.0 ≡ yard_both host.me.0 v.pass.seat.me.0 → after ≡ set owns v.pass.number (Some v.core.system)
        → KeepsOwn me.0 after → later ≡ told ++ v.told ∷ [] → Returned (record host { its = its; me = me }) jobs after later
    returned_more its me after later root view set_is keeps more =
        let at_k : after ≡ set owns (length told) (Some v.core.system) = set_is ∙ ap (λ (n : ℕ). set owns n (Some v.core.system)) numbered in
        record {
          root = root;
          size = ap (λ (l : List (Option System)). length l) at_k ∙ length-set owns (length told) (Some v.core.system) ∙ old.size;
          keeps = keeps;
          each = λ i job r at_job at_r.
              ⊎_elim
              (λ (e : (i ≡ length told) × (v.told ≡ r)).
              let ended = come job (ap (slice_get jobs) (sym e.0) ∙ at_job) in
              let size = old.size in
              subst (λ (z : ℕ × JobAnswers). CameBack (record host { its = its; me = me }) job z.0 after z.1) (λ j. (sym e.0 j, e.1 j))
              (record {
                visited = v.visited;
                own = v.core.system;
                its = v.pass.seat.table_id;
                me = v.pass.seat.me;
                ends = subst (λ (n : ℕ). VisitEnds v.visited (pass_to host n v.pass.seat.table_id v.pass.seat.me) (stay_at host.start (length told) job v.core.system v.told)) numbered ended.ends;
                runs = ended.runs;
                has_room = ended.has_room;
                kept = ap (λ (l : List (Option System)). slice_get l (length told)) at_k ∙ set_at owns (length told) (Some v.core.system) (omega arith);
                among = λ y is. (0, ap (λ (ys : List Resident). get_elem? ys 0) (now_held its me v.pass.seat.me.0 y is view owns after (length told) v.core.system at_k));
                shown = λ told_so. ap (λ (u : YardView). u.cancel) view ∙ or_right host.me.0.cancel v.pass.seat.me.0.cancel told_so;
              }))
              (λ (e : slice_get told i ≡ Some r).
              let within = slice_get_within told i r e in
              came_later its me v.pass.seat.me.0 _ lodged.1.holds view owns after (length told) v.core.system at_k i job r (λ same. absurd (omega arith)) (old.each i job r at_job e))
              (at_end told v.told i r (ap (λ (l : List JobAnswers). slice_get l i) (sym more) ∙ at_r));
        }
