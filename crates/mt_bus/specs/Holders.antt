-- Which caches may have a line: a mask for the lines whose numbers have one residue modulo 4,096, beside the machine's value
-- of a system (own).
use Rattle.std.specs.Prelude.{◌≡◌, ℕ, ◌%◌, nat_lt, Bool, true, List, if◌then◌else◌, slice_get, slice_index_or, None, Some}
use Rattle.std.specs.List.{list_all}
use Rattle.mt_kinds.specs.Bits.{is_bit_set}
use Rattle.mt_cache.specs.declared.line.CacheLine.{CacheLine}
use Rattle.mt_cache.specs.Counts.{modulus}
use Rattle.mt_cache.specs.Lines.{find_line}
use Rattle.mt_machine.specs.System.{Processor}
use Rattle.mt_laws.specs.Parts.{lines_in}

-- the mask of a line; where there is none any cache may have it
abbrev pub mask_of : List ℕ → ℕ → ℕ
mask_of masks n = slice_index_or masks (n % modulus) 0xffff

-- the cache of processor k may have the line; a mask has no bit of a processor past the sixteenth
abbrev pub may_hold : List ℕ → ℕ → ℕ → Bool
may_hold masks k n = if nat_lt k 16 then is_bit_set (mask_of masks n) k else true

abbrev pub all_may : List ℕ → ℕ → List CacheLine → Bool
all_may masks k ls = list_all (λ l. may_hold masks k l.number) ls

-- each line of each cache is one that it may have
pub record AreHeldBy (ps : List Processor) (masks : List ℕ) : Type 0 where
  pub each : (k : ℕ) (p : Processor) → slice_get ps k ≡ Some p → all_may masks k p.lines ≡ true

-- what other masks say holds by these too
pub record Covers (masks others : List ℕ) : Type 0 where
  pub each : (k n : ℕ) → may_hold others k n ≡ true → may_hold masks k n ≡ true

-- but for processor k and the lines that have the residue of line n
pub record CoversBut (k n : ℕ) (masks others : List ℕ) : Type 0 where
  pub each : (j i : ℕ) → (j ≡ k → i % modulus ≡ n % modulus → ⊥) → may_hold others j i ≡ true → may_hold masks j i ≡ true

-- but for processor k
pub record CoversOthers (k : ℕ) (masks others : List ℕ) : Type 0 where
  pub each : (j i : ℕ) → (j ≡ k → ⊥) → may_hold others j i ≡ true → may_hold masks j i ≡ true

-- no cache except that of processor k has the line
pub record IsNowhereElse (k n : ℕ) (ps : List Processor) : Type 0 where
  pub each : (j : ℕ) → (j ≡ k → ⊥) → find_line n (lines_in j ps) ≡ None
