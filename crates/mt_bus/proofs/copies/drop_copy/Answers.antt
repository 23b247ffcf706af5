use Rattle.std.proofs.Common.{◌∙◌, sym}
use Rattle.mt_bus.proofs.Lines.{back_absent, back_at, without_absent, without_found}
use Rattle.mt_bus.proofs.copies.drop_copy.Goals as goal

pub returns-in-Some-clause-cache : goal.returns-in-Some-clause-cache
returns-in-Some-clause-cache c = c.invalidate.ensures ∙ without_found c.args.number c.in-Some.i c.args.cache.now c.in-Some.ensures.line

pub returns-in-Some-clause-ram : goal.returns-in-Some-clause-ram
returns-in-Some-clause-ram c =
    c.write_back.ensures ∙ sym (back_at c.args.number c.in-Some.i c.args.ram.now c.args.cache.now _ c.in-Some.ensures.distinct c.nth.ensures c.in-Some.ensures.line)

pub returns-in_default-clause-cache : goal.returns-in_default-clause-cache
returns-in_default-clause-cache c = sym (without_absent c.args.number c.args.cache.now c.in_default.ensures.absent)

pub returns-in_default-clause-ram : goal.returns-in_default-clause-ram
returns-in_default-clause-ram c = sym (back_absent c.args.number c.args.ram.now c.args.cache.now c.in_default.ensures.distinct c.in_default.ensures.absent)
