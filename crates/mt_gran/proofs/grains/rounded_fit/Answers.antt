use Rattle.std.proofs.lemmas.Result.{MatchResult-weaker}
use Rattle.mt_tidy.specs.Tidied.{tidying}
use Rattle.mt_gran.specs.Listed.{grained_in, runs_in}
use Rattle.mt_gran.proofs.RoundedFit.{grained, rounded_wanted}
use Rattle.mt_gran.proofs.grains.rounded_fit.Goals as goal

pub fit-fitted-requires-clause-wanted : goal.fit-fitted-requires-clause-wanted
fit-fitted-requires-clause-wanted c =
    rounded_wanted c.args.f.now c.is_register_file.ensures c.requires.accepted c.requires.enabled c.args.g _ (runs_in c.rounded_runs-count.result c.rounded_runs-count.new.list)
    c.own_runs_in-count.ensures.runs c.rounded_runs-count.ensures.runs

pub returns-clause-ok : goal.returns-clause-ok
returns-clause-ok c =
    MatchResult-weaker c.fit-fitted.result c.fit-fitted.ensures.ok
    (λ t is. grained (tidying c.args.f.now c.args.chunk c.args.spare) c.requires.accepted c.requires.enabled c.args.g
    (runs_in c.rounded_runs-count.result c.rounded_runs-count.new.list) c.rounded_runs-count.ensures.runs
    (grained_in t c.lost_in.result c.lost_in.new.list) is c.lost_in.ensures.pages c.lost_in.ensures.runs)
    (λ few is. tt)

pub returns-clause-err : goal.returns-clause-err
returns-clause-err c =
    MatchResult-weaker c.fit-fitted.result c.fit-fitted.ensures.err
    (λ t is. tt)
    (λ few is. record {
      accepted = c.requires.accepted;
      enabled = c.requires.enabled;
      wanted = runs_in c.rounded_runs-count.result c.rounded_runs-count.new.list;
      rounded = c.rounded_runs-count.ensures.runs;
      few = is;
    })
