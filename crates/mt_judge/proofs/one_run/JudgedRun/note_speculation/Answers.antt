use Rattle.std.proofs.Common.{◌∙◌, ◌∷◌, ◌++◌, [], List, ap}
use Rattle.mt_judge.specs.declared.transcript.Told.{Told}
use Rattle.mt_judge.specs.declared.transcript.Told.TheVariants as line
use Rattle.mt_judge.proofs.Courses.{note_right}
use Rattle.mt_list_machine.proofs.Results.{on_ok}
use Rattle.mt_judge.proofs.one_run.JudgedRun.note_speculation.Goals as goal

pub returns-clause-told : goal.returns-clause-told
returns-clause-told c =
    on_ok
    (λ behind. record {
      speculation = c.in_ok-speculation.speculation;
      tells = c.in_ok-speculation.ensures;
      behind = behind ∙ ap (λ (xs : List Told). xs ++ line.Speculation c.in_ok-speculation.speculation ∷ []) c.note.ensures.told;
      right = note_right c.args.self.now.wrong c.is_right.result c.note.new.self.wrong c.is_right.ensures c.note.ensures.wrong;
    })
    c.tell.result c.tell.ensures
