-- Groups of equal files (own).
--     AreGroups files groups          the numbers of equal files, in a list for each group
--     IsFirstEqual files k first      the least number of a file that is equal to file k
--     IsGrouping files groups         each file is in one group, and just equal ones are in one
--     switches file                   E and FE
use Rattle.std.specs.Prelude.{◌≡◌, ◌↔◌, ℕ, ◌<◌, ◌≤◌, ◌==◌, ◌&&◌, Bool, true, List, length, map, slice_get, slice_index}
use Rattle.std.specs.List.{filter, list_any}
use Rattle.arrayvec.specs.ArrayVec.{ArrayVec}
use Rattle.mt_regs.specs.declared.registers.Register.{Register}
use Rattle.mt_regs.specs.Registers.{IsWithin, value_of}
use Rattle.mt_regs.specs.RegisterFile.{RegisterFile, is_enabled, is_fixed_enabled}
use Rattle.mt_explain.specs.Clashes.{numbers}
use Rattle.mt_explain.specs.Pairs.{numbers_below}

-- files i and j have the same width, capabilities and writable registers
abbrev pub AreEqualAt : List RegisterFile → ℕ → ℕ → Type 0
AreEqualAt files i j = slice_get files i ≡ slice_get files j

pub record IsFirstEqual (files : List RegisterFile) (k first : ℕ) : Type 0 where
  pub order : first ≤ k
  pub equal : AreEqualAt files first k
  pub before : (j : ℕ) → j < first → AreEqualAt files j k → ⊥

-- the first equal one of each file
pub record AreFirstEqual (files : List RegisterFile) (firsts : List ℕ) : Type 0 where
  pub count : length firsts ≡ length files
  pub each : (k : ℕ) → k < length files → IsFirstEqual files k (slice_index firsts k)

-- the files whose first equal one is file k, in ascending order
abbrev pub members : List ℕ → ℕ → List ℕ
members firsts k = numbers_below (λ j. slice_index firsts j == k) (length firsts)

-- the files that no earlier one is equal to
abbrev pub leaders : List ℕ → List ℕ
leaders firsts = numbers_below (λ k. slice_index firsts k == k) (length firsts)

-- in the order of the least numbers
pub record AreGroups (files : List RegisterFile) (groups : List (ArrayVec ℕ)) : Type 0 where
  pub firsts : List ℕ
  pub equal : AreFirstEqual files firsts
  pub are : groups ≡ map (λ k. numbers (members firsts k)) (leaders firsts)

-- a group has the number
abbrev pub has : ℕ → ArrayVec ℕ → Bool
has k group = list_any (λ n. n == k) group.items

-- Each file is in exactly one group. Two are in one group if and only if they are equal.
pub record IsGrouping (files : List RegisterFile) (groups : List (ArrayVec ℕ)) : Type 0 where
  pub one : (k : ℕ) → k < length files → length (filter (has k) groups) ≡ 1
  pub equal : (j k : ℕ) → j < length files → k < length files → (list_any (λ group. has j group && has k group) groups ≡ true) ↔ AreEqualAt files j k

abbrev pub GroupsAreOfEqualFiles : Type 0
GroupsAreOfEqualFiles = (files : List RegisterFile) (groups : List (ArrayVec ℕ)) → AreGroups files groups → IsGrouping files groups

-- each writable register of one file has the same value in the other
abbrev pub HaveEqualRegisters : RegisterFile → RegisterFile → Type 0
HaveEqualRegisters f g = (r : Register) → IsWithin f r → value_of f r ≡ value_of g r

abbrev pub switches : RegisterFile → Bool × Bool
switches f = (is_enabled f, is_fixed_enabled f)

-- all but the pairs and the fixed-range registers
abbrev pub numbers_of : RegisterFile → ℕ × ℕ × ℕ × ℕ
numbers_of f = (f.width, f.capabilities, f.pat, f.default_type)
