use Rattle.std.proofs.Common.{◌≡◌, ◌∙◌, sym, true, ◌-◌}
use Rattle.mt_ranges.specs.Match.{is_run, page_field}
use Rattle.mt_ranges.specs.Match.{is_valid}
use Rattle.mt_proc.proofs.Blocks.{block_range}
use Rattle.mt_proc.proofs.listing.pair_line.Goals as goal

pub unreachable-requires : goal.unreachable-requires
unreachable-requires c =
    let valid : is_valid c.args.pair ≡ true = sym c.is_valid.ensures ∙ c.if-not-is_valid.false in
    let run : is_run (c.args.m - 12) (page_field c.args.m c.args.pair.1) ≡ true = c.requires.whole valid in
    let none = c.in-None.ensures.whole ∙ run in
    cc none

pub returns-clause-text : goal.returns-clause-text
returns-clause-text c =
    let valid : is_valid c.args.pair ≡ true = sym c.is_valid.ensures ∙ c.if-not-is_valid.false in
    let range = block_range c.in-Some.block c.args.m c.args.pair c.in-Some.ensures.first c.in-Some.ensures.end in
    rw valid (rw (c.power.ensures, c.pair_type.ensures, range.0, range.1) at c.range_text.ensures.text)
