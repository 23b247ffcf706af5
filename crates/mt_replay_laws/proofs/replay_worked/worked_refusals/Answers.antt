use Rattle.std.proofs.Common.{◌≡◌, ap, sym, refl, arith, inl, ℕ, zero, suc, Bool, true, false, [], ◌∷◌, ◌==◌, if◌then◌else◌}
use Rattle.std.specs.List.{Contains}
use Rattle.std.proofs.lemmas.Bool.{eqb-true}
use Rattle.mt_regs.specs.RegisterFile.{RegisterFile}
use Rattle.mt_machine.specs.Memory.{word_at}
use Rattle.mt_machine.specs.Update.{IsSettledOn}
use Rattle.mt_replay_laws.specs.WorkedSteps.{machine_of, passes, releases, updated_processor, worked_file}
use Rattle.mt_replay_laws.proofs.Courses.Tells.{none_calls}
use Rattle.mt_replay_laws.proofs.Courses.Worked.{alone, nothing, zero_word}
use Rattle.mt_replay_laws.proofs.replay_worked.worked_refusals.Goals as goal

pub returns-clause-other_register : goal.returns-clause-other_register
returns-clause-other_register c h =
    let e = (h.settled 0 updated_processor (omega arith)).file in
    let d : 0x800 ≡ 0 = ap (λ (f : RegisterFile). f.default_type) e in
    cc d

pub returns-clause-stored_again : goal.returns-clause-stored_again
returns-clause-stored_again c = record {
  settled = alone (IsSettledOn 1 worked_file) updated_processor (record { file = refl; lines = nothing (λ l. l.era ≡ 1); buffers = nothing (λ l. l.era ≡ 1); entries = nothing (λ e. e.era ≡ 1) });
  held = λ address some other. one address other (address == 0x100000) refl;
}
  where
    one : (address : ℕ) → (Contains (0x100000 ∷ []) address → ⊥) → (b : Bool) → (address == 0x100000) ≡ b
        → word_at (machine_of updated_processor).system.memory address ≡ (if b then 7 else 0)
    one address other true is = absurd (other (0, omega arith, sym (eqb-true address 0x100000 is)))
    one address other false is = zero_word (machine_of updated_processor).system.memory.windows 8 address

-- the other word isn't stored
not_stored : Contains {X = ℕ} (0x100008 ∷ []) 0x100000 → ⊥
not_stored (zero, within, is) = let e : 0x100008 ≡ 0x100000 = is in omega (arith, e)
not_stored (suc k, within, is) = omega (arith, within)

pub returns-clause-other_word_stored : goal.returns-clause-other_word_stored
returns-clause-other_word_stored c h =
    let e : 0 ≡ 7 = h.held 0x100000 refl not_stored in
    cc e

-- nor the second, where the first is
second_not_stored : Contains {X = ℕ} (0x100000 ∷ []) 0x100008 → ⊥
second_not_stored (zero, within, is) = let e : 0x100000 ≡ 0x100008 = is in omega (arith, e)
second_not_stored (suc k, within, is) = omega (arith, within)

pub returns-clause-second_word_lost : goal.returns-clause-second_word_lost
returns-clause-second_word_lost c h =
    let e : 0 ≡ 7 = h.held 0x100008 refl second_not_stored in
    cc e

pub returns-clause-quiet : goal.returns-clause-quiet
returns-clause-quiet c = none_calls (passes ∷ releases ∷ []) refl

pub returns-clause-first_calls : goal.returns-clause-first_calls
returns-clause-first_calls c none = none.0 (inl (inl refl))

pub returns-clause-later_call : goal.returns-clause-later_call
returns-clause-later_call c none = none.1.0 (inl (inl refl))
