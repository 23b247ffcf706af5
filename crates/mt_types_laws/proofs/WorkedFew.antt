-- A file of which one range gives all pages WB, where the default is UC.
use Rattle.std.proofs.Common.{rules, ◌≡◌, ℕ, ◌<◌, ◌≤◌, true, List, [], ◌∷◌, length, refl, sym, ◌∙◌, arith}
use Rattle.std.specs.Prelude.{nat_le, nat_lt}
use Rattle.std.specs.List.{All}
use Rattle.std.proofs.lemmas.Bool.Decides.{nat_tests}
use Rattle.mt_kinds.specs.declared.mem_type.MemType.TheVariants.{WB}
use Rattle.mt_regs.specs.declared.page_type.PageType.TheVariants.{Kind}
use Rattle.mt_regs.specs.PageTypes.{page_type, page_type_among}
use Rattle.mt_regs.specs.Faults.{IsAccepted}
use Rattle.mt_tidy.specs.declared.range.Range.{Range}
use Rattle.mt_tidy.specs.Keeps.{KeepsTypes}
use Rattle.mt_tidy.specs.Kept.{NeedsMore}
use Rattle.mt_tidy.specs.Ranges.{types_at}
use Rattle.mt_tidy.specs.Tidied.{IsTooFew, tidying}
use Rattle.mt_tidy.specs.Wanted.{Gives, IsRangeOf}
use Rattle.mt_types_laws.specs.WorkedRanges.{all_of, range, uncached, written_back}
use Rattle.mt_tidy.proofs.Fitted.{kind_among}

from : (page : ℕ) → nat_le 0 page ≡ true
from page = grind (arith, nat_tests)

below : (a b : ℕ) → a < b → nat_lt a b ≡ true
below a b h = grind (arith, nat_tests, h)

among : (page : ℕ) → page < 0x1000000 → page_type written_back page ≡ page_type_among uncached (types_at (range 0 24 WB ∷ []) page) page
among page within = kind_among uncached (omega arith) (range 0 24 WB ∷ []) (record { block = record { aligned = refl; within = omega arith }; supported = refl }, tt) page within

pub kind : (page : ℕ) → page < 0x1000000 → page_type written_back page ≡ Kind WB
kind page within = among page within ∙ rw (from page, below page 0x1000000 within) refl

pub accepted : IsAccepted written_back
accepted = λ page within undefined. absurd (cc (sym (kind page within) ∙ undefined))

pub ranges_of : All (IsRangeOf written_back) (range 0 24 WB ∷ [])
ranges_of = search rules

gives : Gives written_back (all_of WB) (range 0 24 WB ∷ [])
gives = record { ranges_of = ranges_of; wanted_kinds = λ page within free. rw (from page, below page 0x1000000 within) refl }

given_range : (ranges : List Range) → Gives written_back (all_of WB) ranges → 1 ≤ length ranges
given_range [] g = absurd (cc (g.wanted_kinds 0 (omega arith) refl))
given_range (r ∷ rs) g = omega arith

pub whole_by_one : IsTooFew (tidying written_back 0 8) (all_of WB) 1 0
whole_by_one = record {
  has_is = refl;
  above = omega arith;
  least = record { some = (range 0 24 WB ∷ [], gives, (tt, tt), refl); none_shorter = λ ranges g a. given_range ranges g };
}

keeps : KeepsTypes written_back (range 0 24 WB ∷ [])
keeps = record {
  ranges_of = ranges_of;
  same_types = λ page within. sym (among page within);
  defined = λ page within undefined. absurd (cc (sym (kind page within) ∙ undefined));
}

kept_range : (ranges : List Range) → KeepsTypes written_back ranges → 1 ≤ length ranges
kept_range [] k = absurd (cc (k.same_types 0 (omega arith) ∙ kind 0 (omega arith)))
kept_range (r ∷ rs) k = omega arith

pub needs_more : NeedsMore (tidying written_back 0 8) 1 0
needs_more = record {
  accepted = accepted;
  enabled = refl;
  has_is = refl;
  above = omega arith;
  least = record { some = (range 0 24 WB ∷ [], keeps, (tt, tt), refl); none_shorter = λ ranges k a. kept_range ranges k };
}
