use Rattle.std.proofs.Common.{◌≡◌, ◌∙◌, sym, ap, subst, Err}
use Rattle.mt_core.specs.declared.fault.CallFault.TheVariants.{Refused, UnderWay}
use Rattle.mt_regs.proofs.FaultNumbers.{fault_number}
use Rattle.mt_proc.specs.Serving.{Serves}
use Rattle.mt_proc.proofs.Served.{era_room, fits, is_refused, none_refused, serves_goal, some_refused}
use Rattle.mt_proc.proofs.processors.update.Goals as goal

pub update_with-requires : goal.update_with-requires
update_with-requires g c = (
  c.type_bounds.sync-R,
  (
    c.type_bounds.sync-G,
    record {
      some = c.requires.serves.some;
      fits = fits c.args.core.now c.requires.serves c.args.goal c.requires.width c.requires.capabilities;
      room = era_room c.args.core.now c.requires.serves c.requires.room;
    },
  ),
)

pub returns-in-Ok-clause-fault : goal.returns-in-Ok-clause-fault
returns-in-Ok-clause-fault g c = (none_refused c.args.core.now c.args.goal c.in-Ok.ensures.updated.1).0

pub returns-in-Ok-clause-after : goal.returns-in-Ok-clause-after
returns-in-Ok-clause-after g c = c.in-Ok.ensures.updated.2 ∙ (none_refused c.args.core.now c.args.goal c.in-Ok.ensures.updated.1).1

pub returns-in-Ok-clause-serves : goal.returns-in-Ok-clause-serves
returns-in-Ok-clause-serves g c =
    subst Serves (sym c.in-Ok.ensures.updated.2) (serves_goal c.args.core.now c.args.goal c.requires.serves c.is_register_file.ensures c.in-Ok.ensures.updated.1)

pub refusal-requires : goal.refusal-requires
refusal-requires g c = λ same.
    let r = is_refused c.args.core.now c.args.goal c.in-Err.fault c.requires.serves (λ busy. c.in-Err.ensures.under_way.0 (ap Err busy)) (λ own is. (c.in-Err.ensures.refused own (ap Err is)).1) in
    let e : Refused r.own ≡ UnderWay = sym r.is ∙ same in
    cc e

pub returns-in-Err-clause-fault : goal.returns-in-Err-clause-fault
returns-in-Err-clause-fault g c =
    (some_refused c.args.core.now c.args.goal c.refusal.result (c.in-Err.ensures.refused c.refusal.result (ap Err c.refusal.ensures)).1).0

pub returns-in-Err-clause-after : goal.returns-in-Err-clause-after
returns-in-Err-clause-after g c =
    c.in-Err.ensures.kept ∙ (some_refused c.args.core.now c.args.goal c.refusal.result (c.in-Err.ensures.refused c.refusal.result (ap Err c.refusal.ensures)).1).1

pub returns-in-Err-clause-short : goal.returns-in-Err-clause-short
returns-in-Err-clause-short g c =
    fault_number c.args.goal c.refusal.result c.is_register_file.ensures (c.in-Err.ensures.refused c.refusal.result (ap Err c.refusal.ensures)).1
