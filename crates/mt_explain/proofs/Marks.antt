-- Pages with a mark are counted.
use Rattle.std.proofs.Common.{◌≡◌, ◌∙◌, ℕ, ◌+◌, ◌-◌, ◌<◌, ◌≤◌, Option, ap, inl, inr, refl, arith}
use Rattle.std.specs.Prelude.{is_some, if◌then◌else◌}
use Rattle.std.proofs.lemmas.Bool.{cases_Bool}
use Rattle.mt_gran.proofs.Counts.{count_all, count_few, count_none}
use Rattle.mt_explain.specs.Spans.{marked_pages}

pub few_marked : {A : Type 0} (marks : ℕ → Option A) (count : ℕ) → marked_pages marks count ≤ count
unfolding marked_pages
few_marked marks count = count_few (λ page. is_some (marks page)) count

pub none_marked : {A : Type 0} (marks : ℕ → Option A) → marked_pages marks 0 ≡ 0
unfolding marked_pages
none_marked marks = refl

-- pages that have the first one's mark, if it has one
pub marked_on : {A : Type 0} (marks : ℕ → Option A) (page end : ℕ) → page < end → ((other : ℕ) → page ≤ other → other < end → marks other ≡ marks page)
    → marked_pages marks end ≡ marked_pages marks page + (if is_some (marks page) then end - page else 0)
unfolding marked_pages
marked_on marks page end above same = elim (cases_Bool (is_some (marks page))) [
  | inl some ↦ rw some (count_all _ page (end - page) end (omega (arith, above)) (λ other low high. ap is_some (same other low high) ∙ some))
  | inr none ↦
      let stays = count_none (λ other. is_some (marks other)) page (end - page) end (omega (arith, above)) (λ other low high. ap is_some (same other low high) ∙ none) in
      rw none (omega (arith, stays))
]
