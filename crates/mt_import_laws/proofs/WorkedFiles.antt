-- The premises of an instance.
use Rattle.std.proofs.Common.{◌*◌, ◌≡◌, ◌∙◌, ◌+◌, ◌%◌, ◌^◌, ◌<◌, ◌≤◌, ◌==◌, nat_lt, ℕ, zero, suc, Bool, true, false, List, [], ◌∷◌, ◌++◌, length, Some, None, refl, sym, ap, subst, arith, lit≤, lit<, codes, inl}
use Rattle.std.specs.Prelude.{if◌then◌else◌, slice_get, slice_index_or}
use Rattle.std.specs.List.{AllByRecursion, find, list_all}
use Rattle.std.specs.Option.{option_map}
use Rattle.std.proofs.lemmas.Bool.{and_parts, eqb-true}
use Rattle.std.proofs.lemmas.Bool.Decides.{nat_tests}
use Rattle.mt_regs.specs.declared.registers.Register.{Register}
use Rattle.mt_regs.specs.declared.registers.Register.TheVariants.{PhysBase, PhysMask, FixedRange, Pat, DefaultType}
use Rattle.mt_regs.specs.RegisterFile.{IsRegisterFile, RegisterFile, pair_at}
use Rattle.mt_regs.specs.Registers.{value_at, value_of, writable}
use Rattle.mt_regs.specs.Words.{HasWords}
use Rattle.mt_regs.proofs.ByNumber.{all_fit}
use Rattle.mt_import.specs.Supplied.{supplied_value, value_among}
use Rattle.mt_import_laws.specs.Printed.{Agrees}
use Rattle.mt_import_laws.specs.PrintedByCoreboot.{AreTails, SuitsCoreboot}
use Rattle.mt_import_laws.specs.PrintedByEdk2.{SuitsEdk2, is_valid}
use Rattle.mt_import_laws.specs.PrintedByInteltool.{AreNames, SuitsInteltool, is_name_byte}
use Rattle.mt_import_laws.specs.PrintedByRdmsr.{SuitsRdmsr}
use Rattle.mt_import_laws.specs.PrintedByX86info.{AreFields, SuitsX86info}
use Rattle.mt_import_laws.specs.PrintedByKernel.{IsOffPair, IsShownPair, SuitsKernel, has_name, range_type}
use Rattle.mt_import_laws.specs.PrintedByLinux.{SuitsLinux}
use Rattle.mt_import_laws.specs.PrintedByXen.{SuitsXen}
use Rattle.mt_import_laws.proofs.Below.{passes}
use Rattle.mt_import_laws.proofs.LineWords.{all_append}
use Rattle.mt_import_laws.specs.WorkedPrinted.{early_log, fixed_names, model_names, ordinary_pc, some_fields, some_tails, width_36, width_and_pat, words_for_edk2, words_for_kernels, words_for_x86info, x86info_fixed, x86info_names, x86info_print}

abbrev fits : RegisterFile → Register → Bool
fits file register = nat_lt (value_of file register) 0x10000000000000000

tested : (value : ℕ) → nat_lt value 0x10000000000000000 ≡ true → value < 2 ^ 64
tested value is = grind (arith, nat_tests, is)

pub fit_at : (file : RegisterFile) (registers : List Register) (k : ℕ) (register : Register) → list_all (fits file) registers ≡ true → slice_get registers k ≡ Some register → value_of file register < 2 ^ 64
fit_at file [] k register all at = cc at
fit_at file (first ∷ registers) zero register all at =
    let same : first ≡ register = cc at in
    subst (λ r. value_of file r < 2 ^ 64) same (tested (value_of file first) (and_parts (fits file first) (list_all (fits file) registers) all).0)
fit_at file (first ∷ registers) (suc k) register all at = fit_at file registers k register (and_parts (fits file first) (list_all (fits file) registers) all).1 at

is_ordinary : IsRegisterFile ordinary_pc
is_ordinary = record { wide = lit≤ tt; narrow = lit≤ tt; few_pairs = lit≤ tt; all_pairs = refl; all_fixed = refl; no_fixed = λ none. cc none }

ordinary_words : HasWords ordinary_pc
ordinary_words = all_fit ordinary_pc 29 is_ordinary refl (λ k register below at. fit_at ordinary_pc (writable ordinary_pc) k register refl at) (lit< tt)

-- ---- names

abbrev IsName : List ℕ → Type 0
IsName name = (length name ≤ 64) × (list_all is_name_byte name ≡ true)

digit : (n : ℕ) → is_name_byte (48 + n % 10) ≡ true
digit n = let small : n % 10 < 10 = omega arith in low (n % 10) small
  where
    low : (d : ℕ) → d < 10 → is_name_byte (48 + d) ≡ true
    low d small = grind (arith, nat_tests, small)

pair_name : (n : ℕ) → IsName (codes "IA32_MTRR_PHYSBASE" ++ (48 + n % 10) ∷ [])
pair_name n = (lit≤ tt, rw (digit n) refl)

fixed_name : (names : List (List ℕ)) (place : ℕ) → AllByRecursion (λ name. IsName (codes "IA32_MTRR_" ++ name)) names → IsName (codes "IA32_MTRR_" ++ slice_index_or names place [])
fixed_name [] place all = (lit≤ tt, refl)
fixed_name (name ∷ names) zero all = all.0
fixed_name (name ∷ names) (suc place) all = fixed_name names place all.1

model_are_names : AreNames model_names
model_are_names None = (lit≤ tt, refl)
model_are_names (Some (PhysBase n)) = pair_name n
model_are_names (Some (PhysMask n)) = pair_name n
model_are_names (Some (FixedRange place)) =
    fixed_name fixed_names place
    ((lit≤ tt, refl), ((lit≤ tt, refl), ((lit≤ tt, refl), ((lit≤ tt, refl), ((lit≤ tt, refl), ((lit≤ tt, refl), ((lit≤ tt, refl), ((lit≤ tt, refl), ((lit≤ tt, refl), ((lit≤ tt, refl), ((lit≤ tt, refl), tt)))))))))))
model_are_names (Some Pat) = (lit≤ tt, refl)
model_are_names (Some DefaultType) = (lit≤ tt, refl)

width_agrees : Agrees width_36 ordinary_pc
width_agrees = record { width = λ width is. cc is; registers = λ number value is. cc is }

pub inteltool_suits : SuitsInteltool model_names ordinary_pc width_36
inteltool_suits = record { are_names = model_are_names; is_file = is_ordinary; has_words = ordinary_words; agrees = width_agrees; width = refl }

pub rdmsr_suits : SuitsRdmsr ordinary_pc width_36
rdmsr_suits = record { is_file = is_ordinary; has_words = ordinary_words; agrees = width_agrees; width = refl }

-- ---- words that supply registers

pub words_agree : (file : RegisterFile) (registers : List (ℕ × ℕ)) (number value : ℕ) → AllByRecursion (λ register. value_at file register.0 ≡ Some register.1) registers → value_among number registers ≡ Some value
    → value_at file number ≡ Some value
words_agree file [] number value all is = cc is
words_agree file (register ∷ registers) number value all is = by (register.0 == number) refl (words_agree file registers number value all.1) is
  where
    by : (test : Bool) → (register.0 == number) ≡ test → (value_among number registers ≡ Some value → value_at file number ≡ Some value)
        → option_map (λ r. r.1) (if test then Some register else find (λ r. r.0 == number) registers) ≡ Some value → value_at file number ≡ Some value
    by true same later found = ap (value_at file) (sym (eqb-true register.0 number same)) ∙ all.0 ∙ found
    by false apart later found = later found

pat_agrees : Agrees width_and_pat ordinary_pc
pat_agrees = record { width = λ width is. cc is; registers = λ number value. words_agree ordinary_pc ((0x277, 0x0007040600070406) ∷ []) number value (refl, tt) }

edk2_agrees : Agrees words_for_edk2 ordinary_pc
edk2_agrees = record { width = λ width is. cc is; registers = λ number value. words_agree ordinary_pc words_for_edk2.registers number value (refl, (refl, (refl, (refl, (refl, (refl, (refl, (refl, (refl, (refl, tt)))))))))) }

tails_are : AreTails some_tails
tails_are None = (lit≤ tt, refl, refl)
tails_are (Some (PhysBase n)) = (lit≤ tt, refl, refl)
tails_are (Some (PhysMask n)) = (lit≤ tt, refl, refl)
tails_are (Some (FixedRange place)) = (lit≤ tt, refl, refl)
tails_are (Some Pat) = (lit≤ tt, refl, refl)
tails_are (Some DefaultType) = (lit≤ tt, refl, refl)

pub coreboot_suits : SuitsCoreboot some_tails ordinary_pc width_and_pat
coreboot_suits = record { are_tails = tails_are; is_file = is_ordinary; has_words = ordinary_words; agrees = pat_agrees; width = refl; pat = refl }

-- ---- x86info

short_name : (letters : List ℕ) (n : ℕ) → length (letters ++ (48 + n % 10) ∷ []) ≤ 64 → list_all is_name_byte letters ≡ true → IsName (letters ++ (48 + n % 10) ∷ [])
short_name letters n few all = (few, all_append is_name_byte letters ((48 + n % 10) ∷ []) all (rw (digit n) refl))

x86info_fixed_name : (names : List (List ℕ)) (place : ℕ) → AllByRecursion (λ name. IsName (codes "fix" ++ name)) names → IsName (codes "fix" ++ slice_index_or names place [])
x86info_fixed_name [] place all = (lit≤ tt, refl)
x86info_fixed_name (name ∷ names) zero all = all.0
x86info_fixed_name (name ∷ names) (suc place) all = x86info_fixed_name names place all.1

x86info_are_names : AreNames x86info_names
x86info_are_names None = (lit≤ tt, refl)
x86info_are_names (Some (PhysBase n)) = short_name (codes "physBase") n (lit≤ tt) refl
x86info_are_names (Some (PhysMask n)) = short_name (codes "physMask") n (lit≤ tt) refl
x86info_are_names (Some (FixedRange place)) =
    x86info_fixed_name x86info_fixed place
    ((lit≤ tt, refl), ((lit≤ tt, refl), ((lit≤ tt, refl), ((lit≤ tt, refl), ((lit≤ tt, refl), ((lit≤ tt, refl), ((lit≤ tt, refl), ((lit≤ tt, refl), ((lit≤ tt, refl), ((lit≤ tt, refl), ((lit≤ tt, refl), tt)))))))))))
x86info_are_names (Some Pat) = (lit≤ tt, refl)
x86info_are_names (Some DefaultType) = (lit≤ tt, refl)

are_fields : AreFields some_fields
are_fields None = (lit≤ tt, refl, refl)
are_fields (Some (PhysBase n)) = (lit≤ tt, refl, refl)
are_fields (Some (PhysMask n)) = (lit≤ tt, refl, refl)
are_fields (Some (FixedRange place)) = (lit≤ tt, refl, refl)
are_fields (Some Pat) = (lit≤ tt, refl, refl)
are_fields (Some DefaultType) = (lit≤ tt, refl, refl)

x86info_agrees : Agrees words_for_x86info ordinary_pc
x86info_agrees = record { width = λ width is. cc is; registers = λ number value. words_agree ordinary_pc words_for_x86info.registers number value (refl, (refl, tt)) }

pub x86info_suits : SuitsX86info x86info_print ordinary_pc words_for_x86info
x86info_suits = record {
  are_names = x86info_are_names;
  are_fields = are_fields;
  few_virtual = λ virtual is. let same : 48 ≡ virtual = cc is in omega (arith, same);
  is_file = is_ordinary;
  has_words = ordinary_words;
  agrees = x86info_agrees;
  width = λ none. cc none;
  pat = refl;
  fixed_c0000 = λ has. refl;
  fixed_00000 = λ has few. absurd (omega (arith, few));
  default_type = λ none. cc none;
  bases = λ n low high. absurd (omega (arith, low, high));
  masks = λ n low high. absurd (omega (arith, low, high));
}

-- ---- kernels

kernel_agrees : Agrees words_for_kernels ordinary_pc
kernel_agrees = record { width = λ width is. cc is; registers = λ number value. words_agree ordinary_pc words_for_kernels.registers number value (refl, (refl, tt)) }

shown_pairs : (n : ℕ) → n < 8 → is_valid (pair_at ordinary_pc.pairs n) ≡ true → IsShownPair (pair_at ordinary_pc.pairs n)
shown_pairs zero within valid = record { named = refl; base = refl; mask = refl }
shown_pairs (suc zero) within valid = record { named = refl; base = refl; mask = refl }
shown_pairs (suc (suc zero)) within valid = record { named = refl; base = refl; mask = refl }
shown_pairs (suc (suc (suc zero))) within valid = record { named = refl; base = refl; mask = refl }
shown_pairs (suc (suc (suc (suc zero)))) within valid = cc valid
shown_pairs (suc (suc (suc (suc (suc zero))))) within valid = cc valid
shown_pairs (suc (suc (suc (suc (suc (suc zero)))))) within valid = cc valid
shown_pairs (suc (suc (suc (suc (suc (suc (suc zero))))))) within valid = cc valid
shown_pairs (suc (suc (suc (suc (suc (suc (suc (suc n)))))))) within valid = absurd (omega (arith, within))

off_pairs : (n : ℕ) → n < 8 → is_valid (pair_at ordinary_pc.pairs n) ≡ false → IsOffPair words_for_kernels n (pair_at ordinary_pc.pairs n)
off_pairs zero within hidden = cc hidden
off_pairs (suc zero) within hidden = cc hidden
off_pairs (suc (suc zero)) within hidden = cc hidden
off_pairs (suc (suc (suc zero))) within hidden = cc hidden
off_pairs (suc (suc (suc (suc zero)))) within hidden = record { base = inl refl; mask = inl refl }
off_pairs (suc (suc (suc (suc (suc zero))))) within hidden = record { base = inl refl; mask = inl refl }
off_pairs (suc (suc (suc (suc (suc (suc zero)))))) within hidden = record { base = inl refl; mask = inl refl }
off_pairs (suc (suc (suc (suc (suc (suc (suc zero))))))) within hidden = record { base = inl refl; mask = inl refl }
off_pairs (suc (suc (suc (suc (suc (suc (suc (suc n)))))))) within hidden = absurd (omega (arith, within))

kernel_suits : SuitsKernel true ordinary_pc words_for_kernels
kernel_suits = record {
  is_file = is_ordinary;
  has_words = ordinary_words;
  agrees = kernel_agrees;
  width = refl;
  capabilities = refl;
  pat = refl;
  default_named = refl;
  default_reserved = (refl, refl);
  default_given = λ none. cc none;
  ranges_named = λ has range low. passes (λ k. has_name (range_type ordinary_pc k)) 88 range refl low;
  shown_pairs = shown_pairs;
  off_pairs = off_pairs;
}

pub xen_suits : SuitsXen ordinary_pc words_for_kernels
xen_suits = kernel_suits

pub linux_suits : SuitsLinux early_log ordinary_pc words_for_kernels
linux_suits = record { short = lit≤ tt; visible = refl; kernel = kernel_suits }

-- the last four of the eight pairs have no line
bases : (n : ℕ) → n < 8 → is_valid (pair_at ordinary_pc.pairs n) ≡ false → supplied_value words_for_edk2 (0x200 + 2 * n) ≡ Some (pair_at ordinary_pc.pairs n).0
bases zero within hidden = cc hidden
bases (suc zero) within hidden = cc hidden
bases (suc (suc zero)) within hidden = cc hidden
bases (suc (suc (suc zero))) within hidden = cc hidden
bases (suc (suc (suc (suc zero)))) within hidden = refl
bases (suc (suc (suc (suc (suc zero))))) within hidden = refl
bases (suc (suc (suc (suc (suc (suc zero)))))) within hidden = refl
bases (suc (suc (suc (suc (suc (suc (suc zero))))))) within hidden = refl
bases (suc (suc (suc (suc (suc (suc (suc (suc n)))))))) within hidden = absurd (omega (arith, within))

masks : (n : ℕ) → n < 8 → is_valid (pair_at ordinary_pc.pairs n) ≡ false → supplied_value words_for_edk2 (0x201 + 2 * n) ≡ Some (pair_at ordinary_pc.pairs n).1
masks zero within hidden = cc hidden
masks (suc zero) within hidden = cc hidden
masks (suc (suc zero)) within hidden = cc hidden
masks (suc (suc (suc zero))) within hidden = cc hidden
masks (suc (suc (suc (suc zero)))) within hidden = refl
masks (suc (suc (suc (suc (suc zero))))) within hidden = refl
masks (suc (suc (suc (suc (suc (suc zero)))))) within hidden = refl
masks (suc (suc (suc (suc (suc (suc (suc zero))))))) within hidden = refl
masks (suc (suc (suc (suc (suc (suc (suc (suc n)))))))) within hidden = absurd (omega (arith, within))

pub edk2_suits : SuitsEdk2 ordinary_pc words_for_edk2
edk2_suits = record {
  is_file = is_ordinary;
  has_words = ordinary_words;
  agrees = edk2_agrees;
  width = refl;
  capabilities = refl;
  pat = refl;
  bases = bases;
  masks = masks;
}
