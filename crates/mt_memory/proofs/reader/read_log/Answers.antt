use Rattle.std.proofs.Common.{refl, subst, sym}
use Rattle.mt_memory.specs.Log.{ended, log_from, starts, taken}
use Rattle.mt_memory.specs.Steps.{Leads}
use Rattle.mt_memory.proofs.reader.read_log.Goals as goal

pub returns-clause-answer : goal.returns-clause-answer
returns-clause-answer g c = λ bytes is.
    c.read_lines.ensures.answer (λ lines end. log_from (starts c.args.format c.args.which) 1 lines end) bytes
    (subst (λ s. Leads taken ended s 1 (λ lines end. log_from (starts c.args.format c.args.which) 1 lines end)) (sym c.new.ensures) (λ lines end. refl)) is
