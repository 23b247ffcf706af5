use Rattle.std.proofs.Common.{◌∙◌, ap, length, sym, subst}
use Rattle.mt_machine.specs.Machine.{Machine}
use Rattle.mt_machine.specs.Update.{IsSettled}
use Rattle.mt_proc.specs.After.{asked}
use Rattle.mt_proc.specs.Applied.{applied}
use Rattle.mt_proc.specs.Serving.{served}
use Rattle.mt_proc.proofs.Served.{becomes, settled_standing}
use Rattle.mt_proc.proofs.processors.Processors.ask.Goals as goal

pub returns-clause-served : goal.returns-clause-served
returns-clause-served g c = ap served c.change.ensures.changed ∙ (becomes c.args.self.now c.serve.ensures (applied (served c.args.self.now).file c.args.request.now)).same

pub returns-clause-unchanged : goal.returns-clause-unchanged
returns-clause-unchanged g c = λ same. c.change.ensures.changed ∙ (becomes c.args.self.now c.serve.ensures (applied (served c.args.self.now).file c.args.request.now)).unchanged same

pub returns-clause-stands : goal.returns-clause-stands
returns-clause-stands g c = λ more. c.change.ensures.changed ∙ (becomes c.args.self.now c.serve.ensures (applied (served c.args.self.now).file c.args.request.now)).stands more

pub returns-clause-settled : goal.returns-clause-settled
returns-clause-settled g c = λ more.
    let now = asked (served c.args.self.now) c.args.request.now in
    subst (λ (m : Machine). IsSettled m.system now.count now.file)
    (sym (c.change.ensures.changed ∙ (becomes c.args.self.now c.serve.ensures (applied (served c.args.self.now).file c.args.request.now)).stands more))
    (settled_standing _ now)

pub returns-clause-each : goal.returns-clause-each
returns-clause-each g c = ap (λ (m : Machine). length m.system.processors) c.change.ensures.changed ∙ (becomes c.args.self.now c.serve.ensures (applied (served c.args.self.now).file c.args.request.now)).each
