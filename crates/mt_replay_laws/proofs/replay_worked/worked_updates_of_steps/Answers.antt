use Rattle.std.proofs.Common.{◌≡◌, ap, refl, subst, arith, ◌⊎◌, ℕ, List, [], ◌∷◌, ◌++◌, ⊎_elim}
use Rattle.mt_machine_laws.specs.MachineWorkedRuns.{bare_file}
use Rattle.mt_regs.specs.RegisterFile.{RegisterFile}
use Rattle.mt_script.specs.declared.command.Command.TheVariants as command
use Rattle.mt_script.specs.declared.command.Section.TheVariants.{Update, Begin, End}
use Rattle.mt_replay_laws.specs.Headline.{ComesUp, IsCalled, NoneOf, NoneWrote, goal_of, pass_line, release_line}
use Rattle.mt_replay.specs.Steps.{ScriptStep, wrote}
use Rattle.mt_replay.specs.ReplayState.{first_file}
use Rattle.mt_replay.specs.Texts.{called_line}
use Rattle.mt_replay_laws.specs.WorkedSteps.{begins}
use Rattle.mt_replay_laws.proofs.replay_worked.worked_updates_of_steps.Goals as goal

abbrev first : List ℕ → ℕ
first [] = 0
first (a ∷ rest) = a

pub returns-clause-other_goal : goal.returns-clause-other_goal
returns-clause-other_goal c = λ u opens lines.
    let goal : bare_file 0x806 ≡ goal_of (first_file begins.before) [] =
    subst (λ (x : RegisterFile). bare_file 0x806 ≡ x) (λ i. goal_of (first_file (opens i).before) (lines i)) u.goal in
    let e : 0x806 ≡ 0x800 = ap (λ (f : RegisterFile). f.default_type) goal in
    omega (arith, e)

pub returns-clause-two_sections : goal.returns-clause-two_sections
returns-clause-two_sections c = λ u lines. (subst (NoneOf (λ step. step.command ≡ command.Section End)) lines u.no_other_end).0 refl

pub returns-clause-begun_by_a_fence : goal.returns-clause-begun_by_a_fence
returns-clause-begun_by_a_fence c = λ u opens.
    ⊎_elim (λ is. absurd (cc is)) (λ is. absurd (cc is))
    (subst (λ (s : ScriptStep). (s.command ≡ command.Section Update) ⊎ (s.command ≡ command.Section Begin)) opens u.begins)

pub returns-clause-ended_by_a_register : goal.returns-clause-ended_by_a_register
returns-clause-ended_by_a_register c = λ u. absurd (cc u.ends)

pub returns-clause-no_call : goal.returns-clause-no_call
returns-clause-no_call c = λ u call.
    ⊎_elim
    (λ (is : wrote begins ≡ called_line). let e : 0 ≡ 99 = ap first is in absurd (omega (arith, e)))
    (λ (up : (k : ℕ) × ComesUp begins k). absurd (cc (up.1.0)))
    (subst IsCalled call u.calls)

pub returns-clause-no_pass : goal.returns-clause-no_pass
returns-clause-no_pass c = λ u pass. let e : 0 ≡ 112 = ap first (subst (λ (s : ScriptStep). wrote s ≡ pass_line) pass u.passes) in omega (arith, e)

pub returns-clause-no_release : goal.returns-clause-no_release
returns-clause-no_release c = λ u release. let e : 0 ≡ 114 = ap first (subst (λ (s : ScriptStep). wrote s ≡ release_line) release u.releases) in omega (arith, e)

pub returns-clause-second_pass : goal.returns-clause-second_pass
returns-clause-second_pass c = λ u waiting. (subst (NoneWrote pass_line) waiting u.first_pass).0 refl

pub returns-clause-second_release : goal.returns-clause-second_release
returns-clause-second_release c = λ u waiting pass between.
    (subst (NoneWrote release_line) (λ i. waiting i ++ pass i ∷ between i) u.first_release).1.0 refl
