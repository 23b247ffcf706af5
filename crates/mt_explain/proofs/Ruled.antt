-- The registers that give a page its type are those that its rule names.
use Rattle.std.proofs.Common.{◌≡◌, ◌∙◌, ℕ, Bool, true, false, ap, refl}
use Rattle.std.specs.Prelude.{if◌then◌else◌, not, ◌&&◌}
use Rattle.mt_ranges.specs.FixedPart.{fixed_part}
use Rattle.mt_regs.specs.RegisterFile.{RegisterFile, is_enabled}
use Rattle.mt_regs.specs.PageTypes.{are_one, has_uncached, matching_types}
use Rattle.mt_explain.specs.declared.decider.Decider.{Decider}
use Rattle.mt_explain.specs.declared.decider.Decider.TheVariants.{Switch, Fixed, Pairs}
use Rattle.mt_explain.specs.declared.rule.Rule.{Rule}
use Rattle.mt_explain.specs.declared.rule.Rule.TheVariants.{Off, FixedByte, NoPair, OneType, UncachedWins, ThroughOverBack, NotDefined}
use Rattle.mt_explain.specs.Clashes.{numbers}
use Rattle.mt_explain.specs.Deciders.{decider_of, deciding_pairs, named_by, uncached_of}
use Rattle.mt_explain.specs.Pairs.{matching_pairs}
use Rattle.mt_explain.specs.Rules.{Decides, is_fixed}

module _ (f : RegisterFile) (page : ℕ) where
  abbrev chosen : Bool → Bool → ℕ → Decider
  chosen enabled fixed place = if not enabled then Switch else if fixed then Fixed place else Pairs (numbers (deciding_pairs f page))

  by_pairs : is_enabled f ≡ true → is_fixed f page ≡ false → decider_of f page ≡ Pairs (numbers (deciding_pairs f page))
  by_pairs on free = ap (λ (b : Bool). chosen b (is_fixed f page) (fixed_part page).0) on ∙ ap (λ (b : Bool). chosen true b (fixed_part page).0) free

  abbrev decided : Bool → Bool → Decider
  decided uncached one = Pairs (numbers (if uncached && not one then uncached_of f (matching_pairs f page) else matching_pairs f page))

  among : (uncached one : Bool) → has_uncached (matching_types f page) ≡ uncached → are_one (matching_types f page) ≡ one → Pairs (numbers (deciding_pairs f page)) ≡ decided uncached one
  among uncached one some all = ap (λ (b : Bool). decided b (are_one (matching_types f page))) some ∙ ap (decided uncached) all

  -- nothing wins over other types
  all_decide : (uncached one : Bool) → (uncached && not one) ≡ false → decided uncached one ≡ Pairs (numbers (matching_pairs f page))
  all_decide uncached one none = ap (λ (b : Bool). Pairs (numbers (if b then uncached_of f (matching_pairs f page) else matching_pairs f page))) none

  one_type : are_one (matching_types f page) ≡ true → Pairs (numbers (deciding_pairs f page)) ≡ Pairs (numbers (matching_pairs f page))
  one_type all = among (has_uncached (matching_types f page)) true refl all ∙ all_decide (has_uncached (matching_types f page)) true (no_other (has_uncached (matching_types f page)))
    where
      no_other : (b : Bool) → (b && not true) ≡ false
      no_other true = refl
      no_other false = refl

  cached : has_uncached (matching_types f page) ≡ false → Pairs (numbers (deciding_pairs f page)) ≡ Pairs (numbers (matching_pairs f page))
  cached none = among false (are_one (matching_types f page)) none refl

  pub is_named : (rule : Rule) → Decides f page rule → decider_of f page ≡ named_by f rule (matching_pairs f page)
  is_named Off off = ap (λ (b : Bool). chosen b (is_fixed f page) (fixed_part page).0) off
  is_named (FixedByte place byte) (on, fixed, part) =
      ap (λ (b : Bool). chosen b (is_fixed f page) (fixed_part page).0) on
      ∙ ap (λ (b : Bool). chosen true b (fixed_part page).0) fixed
      ∙ ap (λ (p : ℕ × ℕ). chosen true true p.0) part
  is_named NoPair (on, free, none) = by_pairs on free ∙ cached (ap has_uncached none)
  is_named OneType (on, free, one) = by_pairs on free ∙ one_type one
  is_named UncachedWins (on, free, both) = by_pairs on free ∙ among true false both.1 both.0
  is_named ThroughOverBack (on, free, both) = by_pairs on free ∙ cached both.0.all_cached
  is_named NotDefined (on, free, both) = by_pairs on free ∙ cached both.0.all_cached
