-- Faults of bytes, one byte more.
use Rattle.std.proofs.Common.{◌≡◌, ◌∙◌, ℕ, zero, suc, ◌+◌, ◌*◌, List, [], ◌++◌, ap, sym, append_assoc, append-nil, drop, length, ◌<◌, ◌≤◌, arith, Some}
use Rattle.std.specs.Prelude.{Bool, not, ◌∷◌, slice_get, None}
use Rattle.std.specs.List.{flat_map}
use Rattle.std.proofs.lemmas.List.{drop_all}
use Rattle.mt_explain.specs.declared.field_fault.FieldFault.{FieldFault}
use Rattle.mt_explain.specs.FieldFaults.{entry_faults, fault_if, field, fixed_faults, pat_faults, register_faults}
use Rattle.mt_explain.specs.declared.field_fault.Defect.TheVariants.{NoType}
use Rattle.mt_kinds.specs.Bits.{byte_at}
use Rattle.mt_regs.specs.declared.registers.Register.{Register}
use Rattle.mt_regs.specs.declared.registers.Register.TheVariants.{FixedRange}
use Rattle.mt_regs.specs.Faults.{is_supported}
use Rattle.mt_regs.specs.RegisterFile.{RegisterFile}
use Rattle.mt_regs.specs.Registers.{writable}

pub fixed_start : (has_combining : Bool) (place v : ℕ) (start : List FieldFault) → start ≡ start ++ fixed_faults has_combining place v 0
unfolding fixed_faults
fixed_start has_combining place v start = sym (append-nil start)

pub fixed_next : (has_combining : Bool) (place v i byte : ℕ) (good : Bool) (fault : FieldFault) (start before after : List FieldFault) → before ≡ start ++ fixed_faults has_combining place v i
    → byte ≡ byte_at v i → good ≡ is_supported has_combining byte → fault ≡ field (FixedRange place) v (8 * i) 8 NoType → after ≡ before ++ fault_if (not good) fault
    → after ≡ start ++ fixed_faults has_combining place v (i + 1)
unfolding fixed_faults
fixed_next has_combining place v i byte good fault start before after was byte_is good_is fault_is is =
    let next : i + 1 ≡ suc i = omega arith in
    is ∙ ap (λ (b : Bool). before ++ fault_if (not b) fault) (good_is ∙ ap (is_supported has_combining) byte_is)
    ∙ ap (λ (x : FieldFault). before ++ fault_if (not (is_supported has_combining (byte_at v i))) x) fault_is
    ∙ ap (λ (faults : List FieldFault). faults ++ fault_if (not (is_supported has_combining (byte_at v i))) (field (FixedRange place) v (8 * i) 8 NoType)) was
    ∙ append_assoc start (fixed_faults has_combining place v i) (fault_if (not (is_supported has_combining (byte_at v i))) (field (FixedRange place) v (8 * i) 8 NoType))
    ∙ ap (λ (n : ℕ). start ++ fixed_faults has_combining place v n) (sym next)

pub pat_start : (v : ℕ) (start : List FieldFault) → start ≡ start ++ pat_faults v 0
unfolding pat_faults
pat_start v start = sym (append-nil start)

pub pat_next : (v i : ℕ) (start before after : List FieldFault) → before ≡ start ++ pat_faults v i → after ≡ before ++ entry_faults v i → after ≡ start ++ pat_faults v (i + 1)
unfolding pat_faults
pat_next v i start before after was is =
    let next : i + 1 ≡ suc i = omega arith in
    is ∙ ap (λ (faults : List FieldFault). faults ++ entry_faults v i) was ∙ append_assoc start (pat_faults v i) (entry_faults v i)
    ∙ ap (λ n. start ++ pat_faults v n) (sym next)

drop_at : {A : Type 0} (xs : List A) (i : ℕ) (x : A) → slice_get xs i ≡ Some x → drop i xs ≡ x ∷ drop (suc i) xs
drop_at [] i x is = absurd (cc)
drop_at (y ∷ ys) zero x is = let e : y ≡ x = cc is in ap (λ z. z ∷ ys) e
drop_at (y ∷ ys) (suc i) x is = drop_at ys i x is

-- the faults so far, and those of the registers that are left
pub registers_next : (f : RegisterFile) (i : ℕ) (r : Register) (before after all : List FieldFault) → slice_get (writable f) i ≡ Some r → after ≡ before ++ register_faults f r
    → before ++ flat_map (register_faults f) (drop i (writable f)) ≡ all → after ++ flat_map (register_faults f) (drop (i + 1) (writable f)) ≡ all
registers_next f i r before after all at is was =
    let next : i + 1 ≡ suc i = omega arith in
    let rest = flat_map (register_faults f) (drop (suc i) (writable f)) in
    ap (λ n. after ++ flat_map (register_faults f) (drop n (writable f))) next ∙ ap (λ (faults : List FieldFault). faults ++ rest) is
    ∙ append_assoc before (register_faults f r) rest ∙ ap (λ (rs : List Register). before ++ flat_map (register_faults f) rs) (sym (drop_at (writable f) i r at)) ∙ was

-- a place within a list has an element
pub some_there : {A : Type 0} (xs : List A) (i : ℕ) → i < length xs → slice_get xs i ≡ None → ⊥
some_there [] i within is = absurd (omega arith)
some_there (x ∷ xs) zero within is = absurd (cc is)
some_there (x ∷ xs) (suc i) within is = some_there xs i (omega arith) is

-- no register is left
pub registers_end : (f : RegisterFile) (i : ℕ) (faults all : List FieldFault) → length (writable f) ≤ i → faults ++ flat_map (register_faults f) (drop i (writable f)) ≡ all → faults ≡ all
registers_end f i faults all past was =
    sym (append-nil faults) ∙ ap (λ (rs : List Register). faults ++ flat_map (register_faults f) rs) (sym (drop_all i (writable f) past)) ∙ was
