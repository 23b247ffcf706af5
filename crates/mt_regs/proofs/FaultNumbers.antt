-- The register of a fault has a number of three hexadecimal digits.
use Rattle.std.proofs.Common.{◌≡◌, ℕ, zero, suc, ◌+◌, ◌<◌, ◌≤◌, false, List, [], ◌∷◌, length, Option, Some, None, refl, sym, ◌∙◌, ap, inl, inr, arith}
use Rattle.std.specs.Option.{option_or}
use Rattle.std.proofs.lemmas.Bool.{cases_lt}
use Rattle.mt_ranges.specs.Match.{matches_pair}
use Rattle.mt_regs.specs.declared.fault.Fault.{Fault}
use Rattle.mt_regs.specs.declared.fault.Reason.{Reason}
use Rattle.mt_regs.specs.declared.registers.Register.{Register}
use Rattle.mt_regs.specs.RegisterFile.{IsRegisterFile, RegisterFile, pair_at}
use Rattle.mt_regs.specs.Registers.{number_of, writable}
use Rattle.mt_regs.specs.Faults.{IsFirstFault, IsOverlap, IsOverlapFault, fault_at, first_of, reason_of, register_fault}
use Rattle.mt_regs.proofs.ByNumber.{Ascend, writable_ascend}

first_number : (f : RegisterFile) (low high : ℕ) (rs : List Register) (fault : Fault) → Ascend low high rs → first_of f rs ≡ Some fault → fault.msr < high
first_number f low high [] fault up = λ is. absurd (cc is)
first_number f low high (r ∷ rs) fault up = by_reason (first_number f (number_of r + 1) high rs fault up.2) (reason_of f r)
  where
    by_reason : (first_of f rs ≡ Some fault → fault.msr < high) → (why : Option Reason) → option_or (fault_at r why) (first_of f rs) ≡ Some fault → fault.msr < high
    by_reason later None is = later is
    by_reason later (Some why) is = let same : record { msr = number_of r; reason = why } ≡ fault = cc is in let e : number_of r ≡ fault.msr = ap (λ (x : Fault). x.msr) same in omega (arith, up.1)

-- a pair that a file doesn't have matches no page
past_pairs : (width page n : ℕ) (pairs : List (ℕ × ℕ)) → length pairs ≤ n → matches_pair width (pair_at pairs n) page ≡ false
past_pairs width page n [] past = refl
past_pairs width page zero (pair ∷ pairs) past = absurd (omega arith)
past_pairs width page (suc n) (pair ∷ pairs) past = past_pairs width page n pairs (omega arith)

overlap_number : (f : RegisterFile) (number : ℕ) → IsRegisterFile f → IsOverlap f (Some number) → number < 0x300
overlap_number f number is (n, at, (page, below, undefined, matches), least) = elim (cases_lt n (length f.pairs)) [
  | inl within ↦ omega (arith, is.all_pairs, is.few_pairs)
  | inr past ↦ absurd (cc (past_pairs f.width page n f.pairs past, matches))
]

-- the register at fault has a number of three hexadecimal digits
pub fault_number : (f : RegisterFile) (fault : Fault) → IsRegisterFile f → IsFirstFault f (Some fault) → fault.msr < 0x1000
fault_number f fault is = by_register (register_fault f) refl
  where
    by_register : (o : Option Fault) → register_fault f ≡ o → IsFirstFault f (Some fault) → fault.msr < 0x1000
    by_register None good first = let overlap : IsOverlapFault f (Some fault) = rw good at first in omega (arith, overlap_number f fault.msr is overlap.1)
    by_register (Some other) bad first =
        let same : Some fault ≡ Some other = rw bad at first in
        omega (arith, first_number f 0x200 0x300 (writable f) fault (writable_ascend f is.few_pairs) (bad ∙ sym same))
