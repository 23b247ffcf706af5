use Rattle.std.proofs.Common.{arith}
use Rattle.mt_kinds.specs.declared.mem_type.MemType.TheVariants.{UC}
use Rattle.mt_regs.specs.declared.page_type.PageType.TheVariants.{Kind}
use Rattle.mt_types.proofs.Chains.{within_chain}
use Rattle.mt_answers.proofs.texts.types_text.Goals as goal

pub run_line-requires-clause-some : goal.run_line-requires-clause-some
run_line-requires-clause-some c =
    let at = within_chain 0 c.args.runs.now c.runs.run-index (record { first = 0; count = 0; kind = Kind UC }) c.requires.chain c.runs-test.true in
    omega (arith, at.1)

pub run_line-requires-clause-bound : goal.run_line-requires-clause-bound
run_line-requires-clause-bound c =
    let at = within_chain 0 c.args.runs.now c.runs.run-index (record { first = 0; count = 0; kind = Kind UC }) c.requires.chain c.runs-test.true in
    omega (arith, at.2, c.requires.bound)
