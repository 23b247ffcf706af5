use Rattle.std.proofs.Common.{Ok, refl, ◌∙◌, ap}
use Rattle.std.proofs.lemmas.Result.{err_from_is_err_and}
use Rattle.mt_text.specs.Text.{end_of}
use Rattle.mt_text.proofs.Counted.{comes_nearer, counts_line, counts_rest, failed_on, fed_at_first, fed_on, stands_after, stands_on, still_on}
use Rattle.mt_text.proofs.Courses.{at_first, ends, goes_on, offends}
use Rattle.mt_text.proofs.reader.read_from.Goals as goal

pub lines-init : goal.lines-init
lines-init g c = record {
  fed = fed_at_first (g.S.Source.left c.args.source.now) (g.S.Source.given c.args.source.now) c.args.feed.now c.requires;
  told = λ course bytes at is. at_first g.R.LineReader.at course bytes (g.S.Source.left c.args.source.now) c.args.feed.now c.args.reader c.requires at is;
  stood = refl;
}

pub returns-in_err-line-clause-bytes : goal.returns-in_err-line-clause-bytes
returns-in_err-line-clause-bytes g c = counts_line c.lines.invariant.fed c.line.follows.lender-at-none (g.S.Source.left c.line.new.source) (g.S.Source.given c.line.new.source) c.line.result c.line.follows.holds-at-none

pub returns-in_err-line-clause-failed : goal.returns-in_err-line-clause-failed
returns-in_err-line-clause-failed g c =
    let p = err_from_is_err_and c.from_residual.result c.from_residual.ensures.1 in
    failed_on c.in_err-line.was p.1 p.2 c.lines.invariant.stood (λ is. c.line.ensures.failed is c.lines.invariant.fed.still)

pub returns-in_err-line-clause-stands : goal.returns-in_err-line-clause-stands
returns-in_err-line-clause-stands g c =
    let p = err_from_is_err_and c.from_residual.result c.from_residual.ensures.1 in
    stands_on c.in_err-line.was p.1 p.2 c.lines.invariant.stood c.line.ensures.stands

pub returns-in_err-drain-clause-bytes : goal.returns-in_err-drain-clause-bytes
returns-in_err-drain-clause-bytes g c =
    counts_rest c.lines.invariant.fed c.line.follows.lender-at-none (g.S.Source.left c.line.new.source) (g.S.Source.given c.line.new.source) c.in-Some.line (rw (c.in_ok-line.was ∙ ap Ok c.in-Some.is) at c.line.follows.holds-at-none)
    (g.S.Source.left c.drain.new.source) (g.S.Source.given c.drain.new.source) c.drain.new.self c.drain.ensures.bytes

pub returns-in_err-drain-clause-failed : goal.returns-in_err-drain-clause-failed
returns-in_err-drain-clause-failed g c =
    let p = err_from_is_err_and c.from_residual-in_err-drain.result c.from_residual-in_err-drain.ensures.1 in
    let still = still_on c.lines.invariant.fed c.line.follows.lender-at-none (g.S.Source.left c.line.new.source) (g.S.Source.given c.line.new.source) c.in-Some.line (rw (c.in_ok-line.was ∙ ap Ok c.in-Some.is) at c.line.follows.holds-at-none) in
    failed_on c.in_err-drain.was p.1 p.2 (stands_after c.in_ok-line.was c.lines.invariant.stood c.line.ensures.stands) (λ is. c.drain.ensures.failed is still)

pub returns-in_err-drain-clause-stands : goal.returns-in_err-drain-clause-stands
returns-in_err-drain-clause-stands g c =
    let p = err_from_is_err_and c.from_residual-in_err-drain.result c.from_residual-in_err-drain.ensures.1 in
    stands_on c.in_err-drain.was p.1 p.2 (stands_after c.in_ok-line.was c.lines.invariant.stood c.line.ensures.stands) c.drain.ensures.stands

pub returns-in-Err-clause-answer : goal.returns-in-Err-clause-answer
returns-in-Err-clause-answer g c = λ course bytes at is.
    offends g.R.LineReader.at course bytes (c.lines.invariant.told course bytes at is) c.line.follows.lender-at-none (g.S.Source.left c.line.new.source) (g.S.Source.given c.lines.source) (g.S.Source.given c.line.new.source)
    c.in-Some.line (rw (c.in_ok-line.was ∙ ap Ok c.in-Some.is) at c.line.follows.holds-at-none) c.take_line.new.self c.in-Err.fault c.in-Err.ensures.takes (end_of bytes)

pub returns-in-Err-clause-bytes : goal.returns-in-Err-clause-bytes
returns-in-Err-clause-bytes g c =
    counts_rest c.lines.invariant.fed c.line.follows.lender-at-none (g.S.Source.left c.line.new.source) (g.S.Source.given c.line.new.source) c.in-Some.line (rw (c.in_ok-line.was ∙ ap Ok c.in-Some.is) at c.line.follows.holds-at-none)
    (g.S.Source.left c.drain.new.source) (g.S.Source.given c.drain.new.source) c.drain.new.self c.drain.ensures.bytes

pub returns-in-Err-clause-stands : goal.returns-in-Err-clause-stands
returns-in-Err-clause-stands g c = λ other. stands_after c.in_ok-drain.was (stands_after c.in_ok-line.was c.lines.invariant.stood c.line.ensures.stands) c.drain.ensures.stands

pub lines-smaller : goal.lines-smaller
lines-smaller g c =
    comes_nearer c.lines.invariant.fed c.line.follows.lender-at-none (g.S.Source.left c.line.new.source) (g.S.Source.given c.line.new.source) c.in-Some.line (rw (c.in_ok-line.was ∙ ap Ok c.in-Some.is) at c.line.follows.holds-at-none)

pub lines-preserved : goal.lines-preserved
lines-preserved g c =
    let lines = rw (c.in_ok-line.was ∙ ap Ok c.in-Some.is) at c.line.follows.holds-at-none in
    record {
      fed = fed_on c.lines.invariant.fed c.line.follows.lender-at-none (g.S.Source.left c.line.new.source) (g.S.Source.given c.line.new.source) c.in-Some.line lines;
      told = λ course bytes at is.
          goes_on g.R.LineReader.at course bytes (c.lines.invariant.told course bytes at is) c.line.follows.lender-at-none (g.S.Source.left c.line.new.source) (g.S.Source.given c.lines.source) (g.S.Source.given c.line.new.source)
          c.in-Some.line lines c.take_line.new.self c.in_default-take_line.ensures.takes;
      stood = stands_after c.in_ok-line.was c.lines.invariant.stood c.line.ensures.stands;
    }

pub returns-clause-answer : goal.returns-clause-answer
returns-clause-answer g c = λ course bytes at is.
    ends g.R.LineReader.at course bytes (c.lines.invariant.told course bytes at is) c.line.follows.lender-at-none (g.S.Source.left c.line.new.source) (g.S.Source.given c.lines.source) (g.S.Source.given c.line.new.source)
    c.finish_at.result (rw (c.in_ok-line.was ∙ ap Ok c.in_default.is) at c.line.follows.holds-at-none) (rw c.end.ensures at c.finish_at.ensures.value)

pub returns-clause-bytes : goal.returns-clause-bytes
returns-clause-bytes g c = counts_line c.lines.invariant.fed c.line.follows.lender-at-none (g.S.Source.left c.line.new.source) (g.S.Source.given c.line.new.source) c.line.result c.line.follows.holds-at-none

pub returns-clause-stands : goal.returns-clause-stands
returns-clause-stands g c = λ other. stands_after c.in_ok-line.was c.lines.invariant.stood c.line.ensures.stands
