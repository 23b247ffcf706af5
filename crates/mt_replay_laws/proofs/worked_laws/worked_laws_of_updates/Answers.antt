use Rattle.std.proofs.Common.{refl, inl, drop}
use Rattle.std.specs.Fmt.{digits}
use Rattle.hex.specs.Hex.{encode_with}
use Rattle.mt_regs.specs.declared.fault.Reason.TheVariants.{UnsupportedType}
use Rattle.mt_replay.specs.Steps.{course}
use Rattle.mt_replay_laws.specs.WorkedScript.{front_of, step_at, steps_at, worked_script}
use Rattle.mt_replay_laws.proofs.Courses.Tells.{none_calls}
use Rattle.mt_replay_laws.proofs.Courses.Worked.{stands}
use Rattle.mt_replay_laws.proofs.worked_laws.worked_laws_of_updates.Goals as goal

pub returns-clause-complete : goal.returns-clause-complete
unfolding digits encode_with
returns-clause-complete c = λ law.
    (law worked_script (front_of 44) (steps_at 45 5) (drop 5 (drop 45 (course worked_script))) (step_at 44) 2
    (stands (course worked_script) 44 5 refl) refl (none_calls (steps_at 45 5) refl)).1

pub returns-clause-released : goal.returns-clause-released
unfolding digits encode_with
returns-clause-released c = λ law.
    let told = law worked_script (front_of 37) (steps_at 38 6) (drop 6 (drop 38 (course worked_script))) (step_at 37)
    (stands (course worked_script) 37 6 refl) refl (none_calls (steps_at 38 6) refl) in
    record { update = told.0; kept = told.1 }

pub returns-clause-refused : goal.returns-clause-refused
unfolding digits encode_with
returns-clause-refused c = λ law.
    law worked_script (front_of 50) (drop 51 (course worked_script)) (step_at 50)
    (stands (course worked_script) 50 0 refl) (inl (record { msr = 0x2ff; reason = UnsupportedType }, refl))
