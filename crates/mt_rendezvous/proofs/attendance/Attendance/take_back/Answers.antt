use Rattle.std.proofs.Common.{ap, ◌∙◌, ◌++◌, ◌∷◌, []}
use Rattle.mt_rendezvous.proofs.Ended.{returned}
use Rattle.mt_rendezvous.proofs.attendance.Attendance.take_back.Goals as goal

pub returns-clause-returned : goal.returns-clause-returned
returns-clause-returned c =
    returned c.args.station.now c.args.self.now.root c.take_back-cpu.new.self c.args.self.now.done.items _ c.args.a c.take_back-cpu.ensures.root c.take_back-cpu.ensures.held
    (c.push_reserved.ensures.items ∙ ap (λ x. c.args.self.now.done.items ++ x ∷ []) c.take_back-cpu.ensures.cpu) c.requires.returned c.requires.came
