-- Each file whose ranges are on can be rounded, or needs more pairs than it has.
use Rattle.std.proofs.Common.{◌≡◌, ℕ, zero, suc, ◌-◌, true, List, [], ◌∷◌, ◌++◌, Option, Some, None, refl, ap, ◌⊎◌, inl, inr, arith, subst}
use Rattle.std.proofs.lemmas.Bool.{cases_lt}
use Rattle.std.proofs.lemmas.Nat.{pow_pos}
use Rattle.mt_regs.specs.declared.page_type.PageType.{PageType}
use Rattle.mt_regs.specs.RegisterFile.{IsRegisterFile, is_enabled, page_count}
use Rattle.mt_regs.specs.Faults.{IsAccepted}
use Rattle.mt_regs.proofs.Powers.{few_pages}
use Rattle.mt_types.specs.declared.run.Run.{Run}
use Rattle.mt_types.specs.Runs.{run_end}
use Rattle.mt_types.proofs.SomeMap.{a_type_map, same_or_not}
use Rattle.mt_types_laws.proofs.SomeTidy.{fit_or_more}
use Rattle.mt_gran.specs.Granules.{lost_pages, pages_of}
use Rattle.mt_gran.specs.Marks.{AreRunsOf, HaveMark, lost_mark, rounded_mark}
use Rattle.mt_gran.specs.Grained.{IsGrained, NeedsMore}
use Rattle.mt_gran.specs.declared.grains.Grained.{Grained}
use Rattle.mt_tidy.specs.Tidied.{Tidying}
use Rattle.mt_gran.proofs.RunsOf.{first_run, last_ends, longer_run, next_run, pass}
use Rattle.mt_gran.proofs.Maps.{rounded_map}
use Rattle.mt_gran.proofs.RoundedFit.{grained, rounded_wanted}

-- a list has no element, or a last one
last_or_none : (list : List Run) → (list ≡ []) ⊎ ((front : List Run) × (last : Run) × (list ≡ front ++ last ∷ []))
last_or_none [] = inl refl
last_or_none (r ∷ rs) = go (last_or_none rs)
  where
    go : (rs ≡ []) ⊎ ((front : List Run) × (last : Run) × (rs ≡ front ++ last ∷ [])) → (r ∷ rs ≡ []) ⊎ ((front : List Run) × (last : Run) × (r ∷ rs ≡ front ++ last ∷ []))
    go (inl none) = inr ([], r, ap (λ (xs : List Run). r ∷ xs) none)
    go (inr some) = inr (r ∷ some.0, some.1, ap (λ (xs : List Run). r ∷ xs) some.2)

module _ (marks : ℕ → Option PageType) where
  one_page : (n : ℕ) (mark : Option PageType) → marks n ≡ mark → HaveMark marks n (suc n) mark
  one_page n mark is page low high = let e : n ≡ page = omega arith in subst (λ (k : ℕ). marks k ≡ mark) e is

  behind : (n : ℕ) (kind : PageType) → HaveMark marks n (suc n) (Some kind) → (front : List Run) (last : Run) → AreRunsOf marks 0 n (front ++ last ∷ [])
      → (more : List Run) × AreRunsOf marks 0 (suc n) more
  behind n kind have front last are = elim (cases_lt (run_end last) n) [
    | inl gap ↦ (_, next_run marks 0 n (suc n) kind front last are (omega arith) have (λ meets. absurd (omega (arith, gap, meets))))
    | inr past ↦ elim (same_or_not last.kind kind) [
      | inl same ↦
          let meets : run_end last ≡ n = omega (arith, past, last_ends marks 0 n front last are) in
          (_, longer_run marks 0 n (suc n) kind front last are (omega arith) have meets same)
      | inr other ↦ (_, next_run marks 0 n (suc n) kind front last are (omega arith) have (λ meets. other))
    ]
  ]

  by_last : (n : ℕ) (kind : PageType) → HaveMark marks n (suc n) (Some kind) → (list : List Run) → AreRunsOf marks 0 n list
      → (list ≡ []) ⊎ ((front : List Run) × (last : Run) × (list ≡ front ++ last ∷ [])) → (more : List Run) × AreRunsOf marks 0 (suc n) more
  by_last n kind have list are (inl none) = (record { first = n; count = suc n - n; kind = kind } ∷ [], first_run marks 0 n (suc n) kind (subst (λ (xs : List Run). AreRunsOf marks 0 n xs) none are) (omega arith) have)
  by_last n kind have list are (inr some) = behind n kind have some.0 some.1 (subst (λ (xs : List Run). AreRunsOf marks 0 n xs) some.2 are)

  one_more : (n : ℕ) (list : List Run) → AreRunsOf marks 0 n list → (mark : Option PageType) → marks n ≡ mark → (more : List Run) × AreRunsOf marks 0 (suc n) more
  one_more n list are None is = (list, pass marks 0 n (suc n) list (omega arith) are (one_page n None is))
  one_more n list are (Some kind) is = by_last n kind (one_page n (Some kind) is) list are (last_or_none list)

  all_runs : (n : ℕ) → (list : List Run) × AreRunsOf marks 0 n list
  all_runs zero = ([], (omega arith, λ page low high. absurd (omega arith)))
  all_runs (suc n) = let (list, are) = all_runs n in one_more n list are (marks n) refl

pub rounded_or_more : (t : Tidying) → IsRegisterFile t.file → IsAccepted t.file → is_enabled t.file ≡ true → (g : ℕ)
    → ((new : Grained) × IsGrained t g new) ⊎ ((needs : ℕ) × (has : ℕ) × NeedsMore t g needs has)
rounded_or_more t good accepted enabled g =
    let f = t.file in
    let own = a_type_map f good in
    let wanted = all_runs (rounded_mark (pages_of f) g) (page_count f) in
    let parts = all_runs (lost_mark (pages_of f) g) (page_count f) in
    let rounded = rounded_map (pages_of f) g wanted.0 (pow_pos (f.width - 12)) (few_pages f.width good.narrow) wanted.1 in
    elim (fit_or_more t good accepted enabled wanted.0 (rounded_wanted f good accepted enabled g own.0 wanted.0 own.1 rounded)) [
      | inl some ↦
          let new : Grained = record { tidied = some.0; lost = lost_pages (pages_of f) g; parts = parts.0 } in
          inl (new, grained t accepted enabled g wanted.0 rounded new some.1 refl parts.1)
      | inr more ↦ inr (more.0, more.1, record { accepted = accepted; enabled = enabled; wanted = wanted.0; rounded = rounded; few = more.2 })
    ]
