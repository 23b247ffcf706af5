-- A walk over files to the first with an answer, and what two files of one kind have in common.
use Rattle.std.proofs.Common.{◌≡◌, ◌≢◌, ◌==◌, ℕ, zero, suc, ◌+◌, ◌<◌, ◌≤◌, true, false, List, [], ◌∷◌, length, drop, get_or, Option, Some, None, sym, ap, ◌∙◌, arith, drop-cons}
use Rattle.std.specs.Prelude.{not}
use Rattle.std.specs.List.{slice_get}
use Rattle.std.specs.Option.{option_map, option_or}
use Rattle.std.proofs.lemmas.Bool.Decides.{nat_tests}
use Rattle.mt_kinds.specs.Bits.{is_bit_set}
use Rattle.mt_regs.specs.declared.registers.Register.{Register}
use Rattle.mt_regs.specs.declared.registers.Register.TheVariants.{PhysBase, PhysMask, FixedRange, Pat, DefaultType}
use Rattle.mt_regs.specs.RegisterFile.{IsRegisterFile, RegisterFile, low_byte}
use Rattle.mt_regs.specs.Registers.{IsWithin, number_of, writable}
use Rattle.mt_regs.specs.StartFiles.{SameKind}
use Rattle.mt_regs.specs.Agreement.{first_from}
use Rattle.mt_regs.proofs.ByNumber.{Ascend, writable_ascend}

-- the walk goes on behind a file without an answer
pub from_on : {A : Type 0} (answer : RegisterFile → Option A) (files : List RegisterFile) (k : ℕ) (d : RegisterFile) → k < length files → answer (get_or files k d) ≡ None
    → first_from answer k (drop k files) ≡ first_from answer (k + 1) (drop (k + 1) files)
from_on answer files k d within none =
    let e : k + 1 ≡ suc k = omega arith in
    ap (first_from answer k) (drop-cons files k d within)
    ∙ ap (λ o. option_or (option_map (λ a. (k, a)) o) (first_from answer (k + 1) (drop (suc k) files))) none
    ∙ ap (λ n. first_from answer (k + 1) (drop n files)) (sym e)

-- and ends at one with an answer
pub from_ends : {A : Type 0} (answer : RegisterFile → Option A) (files : List RegisterFile) (k : ℕ) (d : RegisterFile) (a : A) → k < length files → answer (get_or files k d) ≡ Some a
    → first_from answer k (drop k files) ≡ Some (k, a)
from_ends answer files k d a within some =
    ap (first_from answer k) (drop-cons files k d within)
    ∙ ap (λ o. option_or (option_map (λ a. (k, a)) o) (first_from answer (k + 1) (drop (suc k) files))) some

-- files of one kind have the same registers
pub within_kind : (f g : RegisterFile) (r : Register) → IsRegisterFile f → IsRegisterFile g → SameKind f g → IsWithin f r → IsWithin g r
within_kind f g (PhysBase n) is is_too same within = omega (arith, is.all_pairs, is_too.all_pairs, ap low_byte same.capabilities)
within_kind f g (PhysMask n) is is_too same within = omega (arith, is.all_pairs, is_too.all_pairs, ap low_byte same.capabilities)
within_kind f g (FixedRange place) is is_too same within = (within.0, ap (λ c. is_bit_set c 8) (sym same.capabilities) ∙ within.1)
within_kind f g Pat is is_too same within = tt
within_kind f g DefaultType is is_too same within = tt

-- a register at a place has a number within the bounds
pub at_bounds : (low high : ℕ) (rs : List Register) (i : ℕ) (r : Register) → Ascend low high rs → slice_get rs i ≡ Some r → (low ≤ number_of r) × (number_of r < high)
at_bounds low high [] i r up at = absurd (cc at)
at_bounds low high (s ∷ ss) zero r up at =
    let e : number_of s ≡ number_of r = ap number_of (cc at) in
    (omega (arith, up.0), omega (arith, up.1))
at_bounds low high (s ∷ ss) (suc i) r up at =
    let later = at_bounds (number_of s + 1) high ss i r up.2 at in
    (omega (arith, up.0, later.0), later.1)

pub number_at : (f : RegisterFile) (i : ℕ) (r : Register) → IsRegisterFile f → slice_get (writable f) i ≡ Some r → number_of r < 0x1000
number_at f i r is at = let bounds = at_bounds 0x200 0x300 (writable f) i r (writable_ascend f is.few_pairs) at in omega (arith, bounds.1)

pub test_differs : (a b : ℕ) → a ≢ b → not (a == b) ≡ true
test_differs a b apart = grind (arith, nat_tests, apart)

pub test_equal : (a b : ℕ) → a ≡ b → not (a == b) ≡ false
test_equal a b same = grind (arith, nat_tests, same)

pub differs_test : (a b : ℕ) → not (a == b) ≡ true → a ≢ b
differs_test a b test = λ same. let e : not (a == b) ≡ false = test_equal a b same in cc (test, e)

pub equal_test : (a b : ℕ) → not (a == b) ≡ false → a ≡ b
equal_test a b test = grind (arith, nat_tests, test)
