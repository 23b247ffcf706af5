use Rattle.std.proofs.Common.{arith}
use Rattle.std.proofs.lemmas.Result.{MatchResult-weaker}
use Rattle.mt_tidy.proofs.Fitted.{checked_of}
use Rattle.mt_tidy.proofs.Own.{more_of, tidy_of}
use Rattle.mt_tidy.proofs.OwnRuns.{first_below, keeps_kinds, map_at, map_wanted}
use Rattle.mt_tidy.proofs.tidying.tidy_enabled.Goals as goal

pub map_from-count-requires-clause-checked : goal.map_from-count-requires-clause-checked
map_from-count-requires-clause-checked c = checked_of c.args.f.now c.requires.accepted

pub map_from-count-requires-clause-from : goal.map_from-count-requires-clause-from
map_from-count-requires-clause-from c = omega (arith, c.first_ranged.ensures, first_below c.args.f.now c.is_register_file.ensures)

pub fit-requires-clause-wanted : goal.fit-requires-clause-wanted
fit-requires-clause-wanted c =
    map_wanted c.args.f.now _ (map_at c.args.f.now _ _ c.first_ranged.ensures c.map_from-count.ensures.map)
    c.is_register_file.ensures c.requires.accepted c.requires.enabled

pub returns-clause-ok : goal.returns-clause-ok
returns-clause-ok c =
    MatchResult-weaker c.fit.result c.fit.ensures.ok
    (λ t is. tidy_of c.args.f.now c.requires.accepted c.requires.enabled _
    (keeps_kinds c.args.f.now _ (map_at c.args.f.now _ _ c.first_ranged.ensures c.map_from-count.ensures.map))
    c.args.chunk c.args.spare t is)
    (λ few is. tt)

pub returns-clause-err : goal.returns-clause-err
returns-clause-err c =
    MatchResult-weaker c.fit.result c.fit.ensures.err
    (λ t is. tt)
    (λ few is. more_of c.args.f.now c.requires.accepted c.requires.enabled _
    (keeps_kinds c.args.f.now _ (map_at c.args.f.now _ _ c.first_ranged.ensures c.map_from-count.ensures.map))
    c.args.chunk c.args.spare few.needs few.has is)
