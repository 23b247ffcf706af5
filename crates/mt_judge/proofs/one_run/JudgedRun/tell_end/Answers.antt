use Rattle.std.proofs.Common.{[]}
use Rattle.mt_judge.proofs.Courses.{all_told}
use Rattle.mt_list_machine.proofs.Results.{on_ok}
use Rattle.mt_judge.proofs.one_run.JudgedRun.tell_end.Goals as goal

pub returns : goal.returns
returns c =
    on_ok
    (λ told. all_told c.args.case.now c.args.self.now.state [] [] c.args.self.now.told.items c.tell_pauses.new.told.items c.tell_ends.new.told.items c.in_ok-tell_pauses.ensures told)
    c.tell_ends.result c.tell_ends.ensures
