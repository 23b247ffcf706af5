use Rattle.std.proofs.Common.{refl}
use Rattle.mt_judge.proofs.Courses.{told_pause}
use Rattle.mt_list_machine.proofs.Results.{on_ok}
use Rattle.mt_judge.proofs.one_run.JudgedRun.turn_or_pause.Goals as goal

pub returns : goal.returns
returns c =
    on_ok
    (λ told. told_pause c.args.case.now c.args.turn c.args.self.now c.turn.new.self (record c.turn.new.self { told = c.tell_pause.new.told }) c.in_ok-turn.ensures.told refl told refl)
    c.tell_pause.result c.tell_pause.ensures
