use Rattle.std.proofs.Common.{◌∙◌, refl, rules, subst, sym}
use Rattle.mt_procedure.specs.Runs.{State}
use Rattle.mt_judge.specs.Told.{IsSpeculationNoted, IsStepNoted}
use Rattle.mt_judge.specs.declared.one_run.JudgedRun.{JudgedRun}
use Rattle.mt_judge.proofs.Courses.{nothing_told, told_idle, told_speculation, told_step}
use Rattle.mt_judge.proofs.one_run.JudgedRun.turn.Goals as goal

pub returns-then-not-may_take-clause-told : goal.returns-then-not-may_take-clause-told
returns-then-not-may_take-clause-told c =
    told_idle c.args.case.now c.args.turn c.args.self.now c.args.self.now (search rules) refl (nothing_told c.args.case.now c.args.self.now.state c.args.self.now.told.items) refl

pub returns-in-Some-clause-told : goal.returns-in-Some-clause-told
returns-in-Some-clause-told c =
    let q : JudgedRun = record c.args.self.now { state = c.take.new.state } in
    let noted = subst (λ (s : State). IsStepNoted c.args.case.now s c.in-Some.done q c.note_step.new.self) c.in_ok-before.ensures c.in_ok-note_step-in-Some.ensures.told in
    told_step c.args.case.now c.args.turn c.args.self.now q c.note_step.new.self (search rules) c.in_ok-done.ensures.after refl refl c.note_step.ensures.state c.in-Some.done
    (sym c.in-Some.is ∙ c.in_ok-done.ensures.told) noted

pub returns-clause-told : goal.returns-clause-told
returns-clause-told c =
    let q : JudgedRun = record c.args.self.now { state = c.take.new.state } in
    let noted = subst (λ (s : State). IsSpeculationNoted c.args.case.now s c.args.turn q c.note_speculation.new.self) c.in_ok-before.ensures c.in_ok-note_speculation-in-None.ensures.told in
    told_speculation c.args.case.now c.args.turn c.args.self.now q c.note_speculation.new.self (search rules) c.in_ok-done.ensures.after refl refl c.note_speculation.ensures.state
    (sym c.in-None.is ∙ c.in_ok-done.ensures.told) noted
