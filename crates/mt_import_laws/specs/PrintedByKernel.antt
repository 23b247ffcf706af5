-- The table of MTRRs that the kernels of Linux and Xen print alike (print_mtrr_state, print_fixed, print_fixed_last and mtrr_attrib_to_str
-- of Linux 6.1, arch/x86/kernel/cpu/mtrr/generic.c and if.c, and of Xen 4.17, xen/arch/x86/cpu/mtrr/generic.c).
--     kernel_lines style file      the lines
use Rattle.std.specs.Prelude.{ℕ, zero, suc, ◌≡◌, ◌⊎◌, ◌<◌, ◌+◌, ◌-◌, ◌*◌, ◌/◌, ◌%◌, ◌^◌, ◌==◌, ◌&&◌, nat_lt, decimal, is_some, Bool, true, false, codes, List, [], ◌∷◌, ◌++◌, length, map, slice_index, if◌then◌else◌, Option, Some, None}
use Rattle.std.specs.Fmt.{digit_glyph}
use Rattle.mt_kinds.specs.declared.mem_type.MemType.{MemType}
use Rattle.mt_kinds.specs.declared.mem_type.MemType.TheVariants.{UC, WC, WT, WP, WB}
use Rattle.mt_kinds.specs.Bits.{byte_at}
use Rattle.mt_kinds.specs.Types.{type_of_byte}
use Rattle.mt_regs.specs.RegisterFile.{IsRegisterFile, RegisterFile, has_fixed, is_enabled, low_byte, pair_at}
use Rattle.mt_regs.specs.Words.{HasWords}
use Rattle.mt_import.specs.Supplied.{Supplied, supplied_value}
use Rattle.mt_import_laws.specs.Printed.{Agrees}
use Rattle.mt_import_laws.specs.PrintedByEdk2.{is_valid}

-- What differs: the text in front of each line, capital digits, how many digits the number of a page has at least,
-- and whether fixed ranges are called enabled.
pub record Style : Type 0 where
  pub front : List ℕ
  pub upper : Bool
  pub digits : ℕ
  pub fixed : Bool

-- ---- words

abbrev pub name_of : Option MemType → List ℕ
name_of (Some UC) = codes "uncachable"
name_of (Some WC) = codes "write-combining"
name_of (Some WT) = codes "write-through"
name_of (Some WP) = codes "write-protect"
name_of (Some WB) = codes "write-back"
name_of None = codes "?"

abbrev pub type_name : ℕ → List ℕ
type_name code = name_of (type_of_byte code)

abbrev pub has_name : ℕ → Bool
has_name code = is_some (type_of_byte code)

abbrev pub switch_text : Bool → List ℕ
switch_text true = codes "enabled:"
switch_text false = codes "disabled:"

-- so many hexadecimal digits
abbrev pub hex_of : Bool → ℕ → ℕ → List ℕ
hex_of upper zero n = []
hex_of upper (suc count) n = hex_of upper count (n / 16) ++ digit_glyph upper (n % 16) ∷ []

-- `%05x`, of a number below 2 ^ 20
abbrev pub five_digits : Bool → ℕ → List ℕ
five_digits upper n =
    digit_glyph upper (n / 0x10000 % 16) ∷ digit_glyph upper (n / 0x1000 % 16) ∷ digit_glyph upper (n / 0x100 % 16) ∷ digit_glyph upper (n / 0x10 % 16) ∷ digit_glyph upper (n % 16) ∷ []

-- this many digits, or as many as it has, where it has so many more at most
abbrev pub digit_count : ℕ → ℕ → ℕ → ℕ
digit_count zero least n = least
digit_count (suc more) least n = if nat_lt n (16 ^ least) then least else digit_count more (least + 1) n

-- `%0*lx000` of the number of a page, which has 13 digits at most
abbrev pub page_text : Style → ℕ → List ℕ
page_text style value = hex_of style.upper (digit_count (13 - style.digits) style.digits (value / 4096)) (value / 4096) ++ codes "000"

-- ---- fixed ranges

-- Intel SDM, volume 3A, chapter Memory Cache Control, section Fixed Range MTRRs: eight ranges of 64 KB, sixteen of 16 KB, and 64 of 4 KB
abbrev pub range_start : ℕ → ℕ
range_start range = if nat_lt range 8 then range * 0x10000 else if nat_lt range 24 then 0x80000 + (range - 8) * 0x4000 else 0xc0000 + (range - 24) * 0x1000

-- the type of a range, a byte of one of the eleven registers
abbrev pub range_type : RegisterFile → ℕ → ℕ
range_type file range = byte_at (slice_index file.fixed (range / 8)) (range % 8)

-- Runs of ranges of one type, of which one from `first` on has come up to `at`, and so many ranges are left.
abbrev pub runs : (ℕ → ℕ) → ℕ → ℕ → ℕ → List (ℕ × ℕ)
runs types first at zero = (first, at) ∷ []
runs types first at (suc left) = if types at == types first then runs types first (at + 1) left else (first, at) ∷ runs types at (at + 1) left

abbrev pub fixed_runs : RegisterFile → List (ℕ × ℕ)
fixed_runs file = runs (range_type file) 0 1 87

-- ---- lines

abbrev pub default_line : Style → RegisterFile → List ℕ
default_line style file = style.front ++ (codes "MTRR default type: " ++ type_name (low_byte file.default_type))

abbrev pub fixed_line : Style → List ℕ
fixed_line style = style.front ++ (codes "MTRR fixed ranges " ++ switch_text style.fixed)

abbrev pub variable_line : Style → RegisterFile → List ℕ
variable_line style file = style.front ++ (codes "MTRR variable ranges " ++ switch_text (is_enabled file))

-- `  %05x-%05x %s`
abbrev pub run_line : Style → RegisterFile → ℕ × ℕ → List ℕ
run_line style file run =
    style.front ++ (codes "  " ++ (five_digits style.upper (range_start run.0) ++ (codes "-" ++ (five_digits style.upper (range_start run.1 - 1) ++ (codes " " ++ type_name (range_type file run.0))))))

-- `  %u base %0*lx000 mask %0*lx000 %s`, or `  %u disabled`
abbrev pub pair_line : Style → ℕ → ℕ × ℕ → Bool → List ℕ
pair_line style n pair true =
    style.front ++ (codes "  " ++ (decimal n ++ (codes " base " ++ (page_text style pair.0 ++ (codes " mask " ++ (page_text style pair.1 ++ (codes " " ++ type_name (low_byte pair.0))))))))
pair_line style n pair false = style.front ++ (codes "  " ++ (decimal n ++ codes " disabled"))

abbrev pub pair_lines : Style → ℕ → List (ℕ × ℕ) → List (List ℕ)
pair_lines style n [] = []
pair_lines style n (pair ∷ pairs) = pair_line style n pair (is_valid pair) ∷ pair_lines style (n + 1) pairs

abbrev pub fixed_lines : Style → RegisterFile → Bool → List (List ℕ)
fixed_lines style file true = fixed_line style ∷ map (run_line style file) (fixed_runs file)
fixed_lines style file false = []

abbrev pub kernel_lines : Style → RegisterFile → List (List ℕ)
kernel_lines style file = default_line style file ∷ (fixed_lines style file (has_fixed file) ++ variable_line style file ∷ pair_lines style 0 file.pairs)

-- ---- the files whose table shows their registers

-- A kernel prints the page's number and the type of a base, and the page's number of a mask whose V is set. A write that sets one of the other bits faults.
pub record IsShownPair (pair : ℕ × ℕ) : Type 0 where
  pub named : has_name (low_byte pair.0) ≡ true
  pub base : pair.0 % 4096 ≡ low_byte pair.0
  pub mask : pair.1 % 4096 ≡ 0x800

-- Nothing but V is shown of a pair that is off. Both registers are 0 then, or words supply them.
pub record IsOffPair (supplied : Supplied) (n : ℕ) (pair : ℕ × ℕ) : Type 0 where
  pub base : (pair.0 ≡ 0) ⊎ (supplied_value supplied (0x200 + 2 * n) ≡ Some pair.0)
  pub mask : (pair.1 ≡ 0) ⊎ (supplied_value supplied (0x201 + 2 * n) ≡ Some pair.1)

-- A type without a name, which no processor has, isn't shown, nor are reserved bits. Words have to supply the width, 0FEH and the PAT, and no value but the file's.
-- `tells` says whether the lines show FE: else words supply IA32_MTRR_DEF_TYPE.
pub record SuitsKernel (tells : Bool) (file : RegisterFile) (supplied : Supplied) : Type 0 where
  pub is_file : IsRegisterFile file
  pub has_words : HasWords file
  pub agrees : Agrees supplied file
  pub width : supplied.width ≡ Some file.width
  pub capabilities : supplied_value supplied 0xfe ≡ Some file.capabilities
  pub pat : supplied_value supplied 0x277 ≡ Some file.pat
  pub default_named : has_name (low_byte file.default_type) ≡ true
  pub default_reserved : (file.default_type / 0x100 % 4 ≡ 0) × (file.default_type / 0x1000 ≡ 0)
  pub default_given : has_fixed file && tells ≡ false → supplied_value supplied 0x2ff ≡ Some file.default_type
  pub ranges_named : has_fixed file ≡ true → (range : ℕ) → range < 88 → has_name (range_type file range) ≡ true
  pub shown_pairs : (n : ℕ) → n < length file.pairs → is_valid (pair_at file.pairs n) ≡ true → IsShownPair (pair_at file.pairs n)
  pub off_pairs : (n : ℕ) → n < length file.pairs → is_valid (pair_at file.pairs n) ≡ false → IsOffPair supplied n (pair_at file.pairs n)
