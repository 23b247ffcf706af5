use Rattle.std.proofs.Common.{◌≡◌, ◌∙◌, ap, sym, subst, true}
use Rattle.mt_script.specs.Head.{HeadStep, TakesLine}
use Rattle.mt_script.specs.Stages.{is_in_dump}
use Rattle.mt_script.proofs.Heads.{head_in_dump}
use Rattle.mt_script.proofs.head.Head.take.Goals as goal

pub returns-then-is_in_dump-clause-step : goal.returns-then-is_in_dump-clause-step
returns-then-is_in_dump-clause-step c = λ before read.
    let now = c.args.self.now.setup in
    let dump : is_in_dump now.stage ≡ true = ap is_in_dump (sym c.stage.ensures) ∙ sym c.is_in_dump.ensures ∙ c.if-is_in_dump.true in
    subst (λ (step : HeadStep). TakesLine now c.take_dump_line.new.dump step c.take_dump_line.result) (sym (head_in_dump now before c.args.line.now.number c.args.line.now.bytes.now dump))
    (c.take_dump_line.ensures.step now before (sym c.cpus.ensures) read)
