use Rattle.std.proofs.Common.{◌∙◌, Some, ap, sym}
use Rattle.mt_import.specs.declared.reading.LineSays.TheVariants.{Shows}
use Rattle.mt_import.proofs.Kernels.{no_run, some_run}
use Rattle.mt_import.proofs.kernel.types_said.Goals as goal

pub returns-then-first-end : goal.returns-then-first-end
returns-then-first-end c =
    rw (c.in-Some.is, c.in-Some-end.is, c.in-Some-code.is)
    (ap (Shows (Some 0)) c.all_fixed_shown.ensures ∙ sym (some_run c.in-Some.first c.in-Some-end.end c.in-Some-code.code c.args.place c.if-first-end.true))

pub returns-else-first-end : goal.returns-else-first-end
returns-else-first-end c =
    rw (c.in-Some.is, c.in-Some-end.is, c.in-Some-code.is) (sym (no_run c.in-Some.first c.in-Some-end.end c.in-Some-code.code c.args.place c.if-first-end.false))
