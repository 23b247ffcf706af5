use Rattle.std.proofs.Common.{◌≡◌, refl, arith}
use Rattle.mt_kinds.specs.declared.mem_type.MemType.TheVariants.{WB}
use Rattle.mt_ranges.specs.Match.{matches_pair}
use Rattle.mt_tidy.specs.Ranges.{holds_page}
use Rattle.mt_types_laws.specs.WorkedRanges.{range}
use Rattle.mt_types_laws.proofs.WorkedSmall.{Below, at}
use Rattle.mt_types_laws.proofs.tidy_worked.worked_pairs.Goals as goal

matched : Below (λ page. matches_pair 16 (6, 0x8800) page ≡ holds_page (range 0 3 WB) page) 16
matched = ((((((((((((((((tt, refl), refl), refl), refl), refl), refl), refl), refl), refl), refl), refl), refl), refl), refl), refl), refl)

pub returns-clause-stands : goal.returns-clause-stands
returns-clause-stands c = record {
  valid = refl;
  pages = λ page within. at (λ p. matches_pair 16 (6, 0x8800) p ≡ holds_page (range 0 3 WB) p) 16 page matched within;
  kind = refl;
}

pub returns-clause-stands_not_valid : goal.returns-clause-stands_not_valid
returns-clause-stands_not_valid c = λ h. absurd (cc h.valid)

pub returns-clause-stands_for_others : goal.returns-clause-stands_for_others
returns-clause-stands_for_others c = λ h. absurd (cc (h.pages 0x10000 (omega arith)))

pub returns-clause-stands_for_another_type : goal.returns-clause-stands_for_another_type
returns-clause-stands_for_another_type c = λ h. absurd (cc h.kind)
