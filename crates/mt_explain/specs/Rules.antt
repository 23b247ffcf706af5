-- The case that gives a page its type: Intel SDM, volume 3A, chapter Memory Cache Control, section MTRR Precedences.
--     Decides file page rule      the case applies to the page; no two do
use Rattle.std.specs.Prelude.{◌≡◌, ℕ, nat_lt, Bool, true, false, ◌&&◌, List, [], ◌∷◌}
use Rattle.mt_kinds.specs.declared.mem_type.MemType.{MemType}
use Rattle.mt_ranges.specs.FixedPart.{fixed_part}
use Rattle.mt_regs.specs.RegisterFile.{RegisterFile, is_enabled, is_fixed_enabled}
use Rattle.mt_regs.specs.PageTypes.{are_one, are_written, has_uncached, matching_types}
use Rattle.mt_explain.specs.declared.rule.Rule.{Rule}
use Rattle.mt_explain.specs.declared.rule.Rule.TheVariants.{Off, FixedByte, NoPair, OneType, UncachedWins, ThroughOverBack, NotDefined}

-- pairs of several types match, and none of them is UC
pub record AreMixed (types : List MemType) : Type 0 where
  pub first : MemType
  pub others : List MemType
  pub some : types ≡ first ∷ others
  pub several : are_one types ≡ false
  pub all_cached : has_uncached types ≡ false

-- what the types of the matching pairs come to
abbrev pub DecidesAmong : List MemType → Rule → Type 0
DecidesAmong types Off = ⊥
DecidesAmong types (FixedByte place byte) = ⊥
DecidesAmong types NoPair = types ≡ []
DecidesAmong types OneType = are_one types ≡ true
DecidesAmong types UncachedWins = (are_one types ≡ false) × (has_uncached types ≡ true)
DecidesAmong types ThroughOverBack = AreMixed types × (are_written types ≡ true)
DecidesAmong types NotDefined = AreMixed types × (are_written types ≡ false)

-- a fixed-range register gives the page its type, where ranges are on
abbrev pub is_fixed : RegisterFile → ℕ → Bool
is_fixed f page = is_fixed_enabled f && nat_lt page 0x100

abbrev pub DecidesByRanges : RegisterFile → ℕ → Rule → Type 0
DecidesByRanges f page rule = (is_enabled f ≡ true) × (is_fixed f page ≡ false) × DecidesAmong (matching_types f page) rule

abbrev pub Decides : RegisterFile → ℕ → Rule → Type 0
Decides f page Off = is_enabled f ≡ false
Decides f page (FixedByte place byte) = (is_enabled f ≡ true) × (is_fixed f page ≡ true) × (fixed_part page ≡ (place, byte))
Decides f page NoPair = DecidesByRanges f page NoPair
Decides f page OneType = DecidesByRanges f page OneType
Decides f page UncachedWins = DecidesByRanges f page UncachedWins
Decides f page ThroughOverBack = DecidesByRanges f page ThroughOverBack
Decides f page NotDefined = DecidesByRanges f page NotDefined
