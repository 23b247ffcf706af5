use Rattle.std.proofs.Common.{subst, sym}
use Rattle.std.specs.Prelude.{OnOk}
use Rattle.mt_case.specs.declared.case.Part.{Part}
use Rattle.mt_judge.specs.Told.{IsToldPart}
use Rattle.mt_judge.proofs.Courses.{part_of_rounds}
use Rattle.mt_list_machine.proofs.Results.{on_both}
use Rattle.mt_judge.proofs.one_run.JudgedRun.part.Goals as goal

pub returns-in_ok-all_rounds-in-Turns : goal.returns-in_ok-all_rounds-in-Turns
returns-in_ok-all_rounds-in-Turns c = subst (λ (o : Part). OnOk c.note_stuck.result (IsToldPart c.args.case.now o c.args.self.now c.note_stuck.new.self)) (sym c.in-Turns.is)
    (on_both
    (λ told right. part_of_rounds c.args.case.now c.args.self.now c.all_rounds.new.self c.note_stuck.new.self c.in_ok-all_rounds-in-Turns.ensures c.note_stuck.ensures.state told right)
    c.note_stuck.result c.note_stuck.ensures.told c.note_stuck.ensures.right)
