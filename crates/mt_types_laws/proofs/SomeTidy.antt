-- Each file whose ranges are on can be tidied, or its least number of ranges is above the pairs that it has.
use Rattle.std.proofs.Common.{◌≡◌, ℕ, ◌-◌, true, List, length, Some, refl, sym, ap, ◌∙◌, inl, inr, arith}
use Rattle.std.specs.Prelude.{◌⊎◌}
use Rattle.std.proofs.lemmas.Bool.{cases_lt}
use Rattle.mt_regs.specs.RegisterFile.{IsRegisterFile, is_enabled, pair_count}
use Rattle.mt_regs.specs.Faults.{IsAccepted}
use Rattle.mt_trie.specs.declared.context.Context.TheVariants.{Untouched}
use Rattle.mt_types.proofs.SomeMap.{a_type_map}
use Rattle.mt_tidy.specs.Cost.{rules_of, task_by}
use Rattle.mt_types.specs.declared.run.Run.{Run}
use Rattle.mt_tidy.specs.Kept.{IsTidy, NeedsMore}
use Rattle.mt_tidy.specs.Tidied.{IsTidied, IsTooFew, Tidying}
use Rattle.mt_tidy.specs.declared.fits.Tidied.{Tidied}
use Rattle.mt_tidy.specs.Wanted.{IsWanted}
use Rattle.mt_tidy.specs.LeastList.{IsLeastList}
use Rattle.mt_tidy.proofs.Fitted.{tidied_file}
use Rattle.mt_tidy.proofs.Own.{needs_more, own_runs, tidy_file}
use Rattle.mt_tidy.proofs.Reached.{reached}
use Rattle.mt_tidy.proofs.WholeCost.{finite, least_list, usable_runs, usable_supported}

-- the same for wanted kinds
pub fit_or_more : (t : Tidying) → IsRegisterFile t.file → IsAccepted t.file → is_enabled t.file ≡ true → (runs : List Run) → IsWanted t.file runs
    → ((new : Tidied) × IsTidied t runs new) ⊎ ((needs : ℕ) × (has : ℕ) × IsTooFew t runs needs has)
fit_or_more t good accepted enabled runs wanted =
    let f = t.file in
    let chunk = t.chunk in
    let (count, is) = finite (task_by (rules_of f chunk) runs) (f.width - 12) 0 in
    let answer = reached (task_by (rules_of f chunk) runs) (usable_supported (rules_of f chunk) runs (usable_runs f runs chunk wanted).supported) (f.width - 12) 0 0 (omega arith) Untouched count is in
    let least : IsLeastList f runs chunk answer.ranges = least_list f runs chunk enabled wanted answer.ranges answer.fits answer.in_order (is ∙ ap Some (sym answer.count)) in
    elim (cases_lt (pair_count f - t.spare) (length answer.ranges)) [
      | inl above ↦ inr (
        length answer.ranges,
        pair_count f - t.spare,
        record { has_is = refl; above = above; least = record { some = (answer.ranges, least.gives, least.allowed, refl); none_shorter = least.none_shorter } },
      )
      | inr enough ↦ inl (_, tidied_file f good.wide good.narrow accepted enabled runs wanted chunk t.spare answer.ranges least _ _ refl refl (omega arith))
    ]

pub tidy_or_more : (t : Tidying) → IsRegisterFile t.file → IsAccepted t.file → is_enabled t.file ≡ true
    → ((new : Tidied) × IsTidy t new) ⊎ ((needs : ℕ) × (has : ℕ) × NeedsMore t needs has)
tidy_or_more t good accepted enabled =
    let (runs, are) = a_type_map t.file good in
    elim (fit_or_more t good accepted enabled runs (own_runs t.file good accepted enabled runs are)) [
      | inl some ↦ inl (some.0, tidy_file t.file accepted enabled runs are t.chunk t.spare some.0 some.1)
      | inr more ↦ inr (more.0, more.1, needs_more t.file accepted enabled runs are t.chunk t.spare more.0 more.1 more.2)
    ]
