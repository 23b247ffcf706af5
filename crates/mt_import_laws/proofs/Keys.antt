-- The registers of a dump, each by its number.
use Rattle.std.proofs.Common.{◌≡◌, ◌∙◌, ◌<◌, ◌≤◌, ◌==◌, nat_lt, ℕ, Bool, true, false, List, [], ◌∷◌, length, Option, Some, None, refl, sym, ap, arith, lit≤}
use Rattle.std.specs.Prelude.{if◌then◌else◌}
use Rattle.std.specs.List.{AllByRecursion}
use Rattle.std.specs.Option.{option_map}
use Rattle.std.proofs.lemmas.Bool.{eqb-true}
use Rattle.std.proofs.lemmas.Bool.Decides.{nat_tests}
use Rattle.mt_kinds.specs.Bits.{is_bit_set}
use Rattle.mt_regs.specs.declared.registers.Register.{Register}
use Rattle.mt_regs.specs.declared.registers.Register.TheVariants.{PhysBase, PhysMask, FixedRange, Pat, DefaultType}
use Rattle.mt_regs.specs.RegisterFile.{IsRegisterFile, RegisterFile, blank_file, low_byte}
use Rattle.mt_regs.specs.Registers.{IsWithin, number_of, register_of, value_at, value_of, writable}
use Rattle.mt_regs.proofs.ByNumber.{register_of-number, register_of-number_of, register_of-range, register_of-within, writable_found}
use Rattle.mt_import.specs.Readings.{all_registers, is_register}
use Rattle.mt_import_laws.specs.Printed.{Key, number_at, value_in}

-- a file that has each register
abbrev pub whole_file : RegisterFile
whole_file = blank_file 36 0x120

pub is_whole_file : IsRegisterFile whole_file
is_whole_file = record { wide = lit≤ tt; narrow = lit≤ tt; few_pairs = lit≤ tt; all_pairs = refl; all_fixed = refl; no_fixed = λ none. refl }

-- a register that some file has
abbrev pub IsKey : Key → Type 0
IsKey None = Unit {0}
IsKey (Some register) = IsWithin whole_file register

as_many : (file other : RegisterFile) (n : ℕ) → IsRegisterFile file → IsRegisterFile other → other.capabilities ≡ file.capabilities → n < length file.pairs → n < length other.pairs
as_many file other n is is_too same within =
    let first = is.all_pairs in
    let own = is_too.all_pairs in
    let count : low_byte other.capabilities ≡ low_byte file.capabilities = ap low_byte same in
    omega (arith, within, first, own, count)

pub within_whole : (file : RegisterFile) (register : Register) → IsRegisterFile file → IsWithin file register → IsWithin whole_file register
within_whole file (PhysBase n) is within = let few = is.few_pairs in let all = is.all_pairs in omega (arith, within, few, all)
within_whole file (PhysMask n) is within = let few = is.few_pairs in let all = is.all_pairs in omega (arith, within, few, all)
within_whole file (FixedRange place) is within = (within.0, refl)
within_whole file Pat is within = tt
within_whole file DefaultType is within = tt

-- a register of a file is one of each file with the same capability register
pub within_alike : (file other : RegisterFile) (register : Register) → IsRegisterFile file → IsRegisterFile other → other.capabilities ≡ file.capabilities → IsWithin file register → IsWithin other register
within_alike file other (PhysBase n) is is_too same within = as_many file other n is is_too same within
within_alike file other (PhysMask n) is is_too same within = as_many file other n is is_too same within
within_alike file other (FixedRange place) is is_too same within = (within.0, ap (λ c. is_bit_set c 8) same ∙ within.1)
within_alike file other Pat is is_too same within = tt
within_alike file other DefaultType is is_too same within = tt

-- each writable register of a file is in it
within_each : (file : RegisterFile) (registers : List Register) → IsRegisterFile file → AllByRecursion (λ register. register_of file (number_of register) ≡ Some register) registers → AllByRecursion (IsWithin file) registers
within_each file [] is found = tt
within_each file (register ∷ registers) is found = (register_of-within file (number_of register) register is found.0, within_each file registers is found.1)

pub all_within : (file : RegisterFile) → IsRegisterFile file → AllByRecursion (IsWithin file) (writable file)
all_within file is = within_each file (writable file) is (writable_found file is.few_pairs)

pub found_whole : (register : Register) → IsWithin whole_file register → register_of whole_file (number_of register) ≡ Some register
found_whole register within = register_of-number_of whole_file register is_whole_file within

pub range_of : (register : Register) → IsWithin whole_file register → (0x200 ≤ number_of register) × (number_of register < 0x300)
range_of register within = register_of-range whole_file (number_of register) register is_whole_file (found_whole register within)

-- registers of one number are one
pub same_key : (a b : Key) → IsKey a → IsKey b → number_at a ≡ number_at b → a ≡ b
same_key None None is is_too same = refl
same_key None (Some b) is is_too same = let range = range_of b is_too in absurd (omega (arith, same, range.0))
same_key (Some a) None is is_too same = let range = range_of a is in absurd (omega (arith, same, range.0))
same_key (Some a) (Some b) is is_too same = sym (found_whole a is) ∙ ap (register_of whole_file) same ∙ found_whole b is_too

pub not_first : (number : ℕ) → 0x200 ≤ number → (number == 0xfe) ≡ false
not_first number high = grind (arith, nat_tests, high)

below_limit : (number : ℕ) → number < 0x300 → nat_lt number 0x1000 ≡ true
below_limit number low = grind (arith, nat_tests, low)

-- a dump has it
pub is_register_key : (key : Key) → IsKey key → is_register (number_at key) ≡ true
unfolding all_registers
is_register_key None is = refl
is_register_key (Some register) is =
    let range = range_of register is in
    rw (below_limit (number_of register) range.1, not_first (number_of register) range.0, found_whole register is) refl

-- a register by a number at which a file has a value
pub record KeyAt (file : RegisterFile) (number value : ℕ) : Type 0 where
  pub key : Key
  pub is_key : IsKey key
  pub number_is : number ≡ number_at key
  pub value_is : value ≡ value_in file key

pub key_at : (file : RegisterFile) (number value : ℕ) → IsRegisterFile file → value_at file number ≡ Some value → KeyAt file number value
key_at file number value is has = by (number == 0xfe) refl has
  where
    found : (register : Option Register) → register_of file number ≡ register → option_map (value_of file) register ≡ Some value → KeyAt file number value
    found None none some = cc some
    found (Some register) is_found some = record {
      key = Some register;
      is_key = within_whole file register is (register_of-within file number register is is_found);
      number_is = sym (register_of-number file number register is is_found);
      value_is = let e : value_of file register ≡ value = cc some in sym e;
    }

    by : (test : Bool) → (number == 0xfe) ≡ test → (if test then Some file.capabilities else option_map (value_of file) (register_of file number)) ≡ Some value → KeyAt file number value
    by true same some = record { key = None; is_key = tt; number_is = eqb-true number 0xfe same; value_is = let e : file.capabilities ≡ value = cc some in sym e }
    by false other some = found (register_of file number) refl some

-- the value that a file has at the number of a register is that of the register
pub value_at_key : (file : RegisterFile) (key : Key) (value : ℕ) → IsRegisterFile file → IsKey key → value_at file (number_at key) ≡ Some value → value ≡ value_in file key
value_at_key file None value is is_key has = cc has
value_at_key file (Some register) value is is_key has =
    let range = range_of register is_key in
    by (register_of file (number_of register)) refl (rw (not_first (number_of register) range.0) at has)
  where
    by : (found : Option Register) → register_of file (number_of register) ≡ found → option_map (value_of file) (register_of file (number_of register)) ≡ Some value → value ≡ value_of file register
    by None none some = cc (rw none at some)
    by (Some other) is_found some =
        let number = register_of-number file (number_of register) other is is_found in
        let within = within_whole file other is (register_of-within file (number_of register) other is is_found) in
        let same : Some other ≡ Some register = same_key (Some other) (Some register) within is_key number in
        let e : Some (value_of file other) ≡ Some value = rw is_found at some in
        let one : other ≡ register = cc same in
        let two : value_of file other ≡ value = cc e in
        sym two ∙ ap (value_of file) one
