use Rattle.std.proofs.Common.{◌≡◌, ℕ, ◌∷◌, [], Option, ap, arith, refl, subst, sym}
use Rattle.std.specs.Option.{option_map_or}
use Rattle.mt_kinds.specs.declared.mem_type.MemType.TheVariants.{WC}
use Rattle.mt_machine_laws.specs.MachineWorkedRuns.{store}
use Rattle.mt_flat.specs.Flat.{flat_answer}
use Rattle.mt_flat.specs.WorkedRuns.{flat_of}
use Rattle.mt_flat.proofs.worked.worked_flat_answers.Goals as goal

pub returns-clause-cached : goal.returns-clause-cached
returns-clause-cached c = record { word = 0x100008; physical = refl; answer = refl }

pub returns-clause-not_yet_seen : goal.returns-clause-not_yet_seen
returns-clause-not_yet_seen c = λ h.
    let is : 0x100008 ≡ h.word = ap (λ (o : Option ℕ). option_map_or (λ v. v) o 0) h.physical in
    let answer : 7 ≡ flat_answer (flat_of (store 0 0x3008 7 ∷ [])) 1 WC 0x100008 = subst (λ word. 7 ≡ flat_answer (flat_of (store 0 0x3008 7 ∷ [])) 1 WC word) (sym is) h.answer in
    omega (arith, answer)

pub returns-clause-not_mapped : goal.returns-clause-not_mapped
returns-clause-not_mapped c = λ h. absurd (cc h.physical)
