use Rattle.std.proofs.Common.{◌-◌, List, [], ◌∷◌, ◌++◌, refl, sym, ap, ◌∙◌, subst, arith}
use Rattle.mt_types.specs.declared.run.Run.{Run}
use Rattle.mt_gran.specs.Listed.{runs_in}
use Rattle.mt_gran.specs.Marks.{AreRunsOf}
use Rattle.mt_gran.proofs.RunsOf.{last_ends, longer_run, next_run}
use Rattle.mt_gran.proofs.join.add.Goals as goal

pub goes_on-requires : goal.goes_on-requires
goes_on-requires c =
    last_ends c.requires.runs.0 0 c.args.first (runs_in (c.args.count - 1) c.args.list.now) c.in-Some.last
    (subst (λ (runs : List Run). AreRunsOf c.requires.runs.0 0 c.args.first runs) c.in-Some.ensures.list c.requires.runs.1)

pub returns-then-goes_on-clause-runs : goal.returns-then-goes_on-clause-runs
returns-then-goes_on-clause-runs c = λ marks are have.
    subst (λ (runs : List Run). AreRunsOf marks 0 c.args.end runs) (sym c.put-then-goes_on.ensures.runs)
    (longer_run marks 0 c.args.first c.args.end c.args.kind (runs_in (c.args.count - 1) c.args.list.now) c.in-Some.last
    (subst (λ (runs : List Run). AreRunsOf marks 0 c.args.first runs) c.in-Some.ensures.list are) c.requires.order have (c.if-goes_on.ensures.0 refl).0 (c.if-goes_on.ensures.0 refl).1)

pub returns-clause-runs : goal.returns-clause-runs
returns-clause-runs c = λ marks are have.
    subst (λ (runs : List Run). AreRunsOf marks 0 c.args.end runs)
    (sym (c.put-2.ensures.runs ∙ ap (λ (runs : List Run). runs ++ record { first = c.args.first; count = c.args.end - c.args.first; kind = c.args.kind } ∷ []) c.in-Some.ensures.list))
    (next_run marks 0 c.args.first c.args.end c.args.kind (runs_in (c.args.count - 1) c.args.list.now) c.in-Some.last
    (subst (λ (runs : List Run). AreRunsOf marks 0 c.args.first runs) c.in-Some.ensures.list are)
    (omega (arith, c.requires.order, c.if-first-end.false)) have (λ meets same. let h = c.if-goes_on.ensures.1 (meets, same) in absurd (cc)))
