use Rattle.mt_memory.specs.Outcome.{told}
use Rattle.mt_memory.proofs.Told.{never_read, never_long}
use Rattle.mt_memory.proofs.running.import_map.Goals as goal

pub returns-in-Ok-clause-told : goal.returns-in-Ok-clause-told
returns-in-Ok-clause-told g c = told c.in-Ok.outcome (λ bytes is. (c.in-Ok.ensures.answer bytes is, c.in-Ok.ensures.end bytes is)) c.write.ensures.writes

pub returns-in-Ok-clause-read_fault : goal.returns-in-Ok-clause-read_fault
returns-in-Ok-clause-read_fault g c = record {
  rose = λ fails. absurd (never_read c.in-Ok.outcome.status c.write.result c.in-Ok.ensures.told c.write.ensures.ends fails);
  stands = λ other. c.in-Ok.ensures.stands (λ fails. cc fails);
}

pub returns-in-Ok-clause-too_long : goal.returns-in-Ok-clause-too_long
returns-in-Ok-clause-too_long g c =
    (λ fails. absurd (never_long c.in-Ok.outcome.status c.write.result c.in-Ok.ensures.told c.write.ensures.ends fails), λ gave. let fails = c.in-Ok.ensures.too_long.1 gave in cc fails)
