use Rattle.std.proofs.Common.{◌≡◌, ◌∙◌, ap, sym, subst, refl, arith, append_assoc, rules, ◌+◌, ◌++◌, ◌∷◌, [], drop, get_or, take, length, map, Some, List}
use Rattle.std.specs.Prelude.{slice_get}
use Rattle.std.proofs.lemmas.List.{map-append, take_more_set}
use Rattle.std.proofs.lemmas.Option.{slice_get-get_or, slice_get_read}
use Rattle.std.proofs.Math.Seq.{map-set_same}
use Rattle.mt_machine.specs.declared.done.Done.{Done}
use Rattle.mt_machine.specs.Machine.{Machine}
use Rattle.mt_private.specs.Jobs.{FitsJob, answers_in, ops_in, other_part}
use Rattle.mt_private.specs.OneByOne.{RanEach, ran, ran_each}
use Rattle.mt_private.proofs.Accessed.{each_more, open_behind, stays_open}
use Rattle.mt_private.proofs.runs.do_parts.Goals as goal

pub loop-k-init : goal.loop-k-init
loop-k-init c = record {
  after = refl;
  order = refl;
  answers = refl;
  other = refl;
  opens = λ i j t low at_j at_t. c.requires.open i j t at_j at_t;
  opens_too = λ all. all;
  count = refl;
}

pub do_part-requires-clause-open : goal.do_part-requires-clause-open
do_part-requires-clause-open c =
    let k = c.loop-k.k in
    let at_job : slice_get c.args.jobs.now k ≡ Some c.index-jobs-k.result = slice_get_read c.args.jobs.now (length c.args.jobs.now) k c.index-jobs-k.result refl (omega arith) c.index-jobs-k.is in
    let at_told : slice_get c.loop-k.told k ≡ Some (get_or c.loop-k.told k c.index-told-k.result) = slice_get-get_or c.loop-k.told k c.index-told-k.result (omega arith) in
    let was = c.loop-k.invariant.opens k c.index-jobs-k.result (get_or c.loop-k.told k c.index-told-k.result) (omega arith) at_job at_told in
    search rules

pub loop-k-preserved : goal.loop-k-preserved
loop-k-preserved c =
    let k = c.loop-k.k in
    let part = c.args.part in
    let jobs = c.args.jobs.now in
    let job = c.index-jobs-k.result in
    let old = get_or c.loop-k.told k c.index-told-k.result in
    let new = c.do_part.new.told in
    let before = c.loop-k.core.system in
    let rest = map (ops_in part) (drop (k + 1) jobs) in
    let at_job : slice_get jobs k ≡ Some job = slice_get_read jobs (length jobs) k job refl (omega arith) c.index-jobs-k.is in
    let at_told : slice_get c.loop-k.told k ≡ Some old = slice_get-get_or c.loop-k.told k c.index-told-k.result (omega arith) in
    let more = each_more part jobs k job before at_job in
    record {
      after =
          ap (λ (m : Machine). (ran_each (k + 1) rest m.system).after) c.do_part.ensures.after
          ∙ sym (ap (λ (r : RanEach). r.after) more) ∙ c.loop-k.invariant.after;
      order = ap (λ (m : Machine). m.order) c.do_part.ensures.after ∙ c.loop-k.invariant.order;
      answers =
          (λ i. map (answers_in part) (take_more_set c.loop-k.told k new (omega arith) i) ++ (ran_each (k + 1) rest (c.do_part.ensures.after i).system).answers)
          ∙ ap (λ (ds : List (List Done)). ds ++ (ran_each (k + 1) rest (ran k (ops_in part job) before).after).answers) (map-append (answers_in part) (take k c.loop-k.told) (new ∷ []))
          ∙ append_assoc (map (answers_in part) (take k c.loop-k.told)) (answers_in part new ∷ []) (ran_each (k + 1) rest (ran k (ops_in part job) before).after).answers
          ∙ ap (λ (d : List Done). map (answers_in part) (take k c.loop-k.told) ++ (d ∷ (ran_each (k + 1) rest (ran k (ops_in part job) before).after).answers)) c.do_part.ensures.answers
          ∙ sym (ap (λ (r : RanEach). map (answers_in part) (take k c.loop-k.told) ++ r.answers) more) ∙ c.loop-k.invariant.answers;
      other = map-set_same (answers_in (other_part part)) c.loop-k.told k new c.index-told-k.result c.do_part.ensures.other.0 ∙ c.loop-k.invariant.other;
      opens = open_behind part jobs c.loop-k.told k new c.loop-k.invariant.opens;
      opens_too = λ all. stays_open (other_part part) jobs c.loop-k.told k job old new at_job at_told c.do_part.ensures.other.0 c.do_part.ensures.other.1 (c.loop-k.invariant.opens_too all);
      count = c.do_part.ensures.count ∙ c.loop-k.invariant.count;
    }

pub do_part-requires-clause-fits : goal.do_part-requires-clause-fits
do_part-requires-clause-fits c = subst FitsJob (sym c.index-jobs-k.is) (c.requires.fits c.loop-k.k c.index-jobs-k.result (omega arith))
