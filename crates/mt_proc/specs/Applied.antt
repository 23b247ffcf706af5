-- What a request makes of a register file (own). The values of a pair for a range: Intel SDM, volume 3A, chapter Memory Cache Control, section Variable Range MTRRs.
--     applied file request      the file that the request asks for and the pair that it changes, or why there is none
use Rattle.std.specs.Prelude.{ℕ, ◌≡◌, ◌+◌, ◌-◌, ◌^◌, ◌%◌, ◌≤◌, ◌<◌, ◌==◌, ◌&&◌, not, nat_le, Bool, true, false, List, length, position, slice_set, if◌then◌else◌, Option, Some, None}
use Rattle.std.specs.List.{list_any, range_with_len}
use Rattle.mt_kinds.specs.Types.{byte_of_type}
use Rattle.mt_kinds.specs.declared.mem_type.MemType.{MemType}
use Rattle.mt_ranges.specs.Match.{is_valid}
use Rattle.mt_regs.specs.RegisterFile.{RegisterFile, pair_at}
use Rattle.mt_proc.specs.declared.request.Request.{Request}
use Rattle.mt_proc.specs.declared.request.Request.TheVariants.{Range, Disable}
use Rattle.mt_proc.specs.declared.applying.Applied.{Applied}
use Rattle.mt_proc.specs.declared.applying.Applied.TheVariants.{Goal, BadRange, NoneFree, NotUsed}

-- a power of two of at least 4,096, in 64 bits
unfoldable pub is_size : ℕ → Bool
is_size size = list_any (λ k. size == 2 ^ k) (range_with_len 12 52)

-- the range begins at a multiple of its size and ends within the physical addresses, of which there are 2^m
abbrev pub is_good_range : ℕ → ℕ → ℕ → Bool
is_good_range m base size = is_size size && base % size == 0 && nat_le (base + size) (2 ^ m)

-- the same in words of its own, for laws
pub record IsGoodRange (m base size : ℕ) : Type 0 where
  pub power : (k : ℕ) × (12 ≤ k) × (size ≡ 2 ^ k)
  pub aligned : base % size ≡ 0
  pub within : base + size ≤ 2 ^ m

-- the least pair whose V is clear
abbrev pub first_free : List (ℕ × ℕ) → Option ℕ
first_free pairs = position (λ pair. not (is_valid pair)) pairs

-- the same in words of its own, for laws
pub record IsLeastFree (pairs : List (ℕ × ℕ)) (n : ℕ) : Type 0 where
  pub there : n < length pairs
  pub free : is_valid (pair_at pairs n) ≡ false
  pub least : (k : ℕ) → k < n → is_valid (pair_at pairs k) ≡ true

-- the base has the address and the type, the mask has ones from bit m-1 down to the size's bit, and V
abbrev pub range_pair : ℕ → ℕ → ℕ → MemType → ℕ × ℕ
range_pair m base size kind = (base + byte_of_type kind, 2 ^ m - size + 2 ^ 11)

abbrev pub with_pair : RegisterFile → ℕ → ℕ × ℕ → RegisterFile
with_pair f n pair = record f { pairs = slice_set f.pairs n pair }

abbrev pub into_free : RegisterFile → ℕ × ℕ → Option ℕ → Applied
into_free f pair (Some n) = Goal (with_pair f n pair) n
into_free f pair None = NoneFree

abbrev pub applied : RegisterFile → Request → Applied
applied f (Range base size kind) = if is_good_range f.width base size then into_free f (range_pair f.width base size kind) (first_free f.pairs) else BadRange
applied f (Disable n) = if is_valid (pair_at f.pairs n) then Goal (with_pair f n (0, 0)) n else NotUsed
