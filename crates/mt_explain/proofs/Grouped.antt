-- Groups of equal files, one file more.
use Rattle.std.proofs.Common.{◌≡◌, ◌∙◌, ℕ, suc, ◌+◌, Bool, true, false, List, [], ◌∷◌, ◌++◌, map, sym, ap, append-nil, arith}
use Rattle.std.specs.Prelude.{◌==◌, if◌then◌else◌, slice_index}
use Rattle.std.proofs.lemmas.Bool.Decides.{nat_tests}
use Rattle.std.proofs.lemmas.List.{map_push}
use Rattle.arrayvec.specs.ArrayVec.{ArrayVec}
use Rattle.mt_explain.specs.Clashes.{numbers}
use Rattle.mt_explain.specs.Groups.{members}
use Rattle.mt_explain.specs.Pairs.{numbers_below}

same_number : (a b : ℕ) → a ≡ b → (a == b) ≡ true
same_number a b same = grind (arith, nat_tests, same)

other_number : (a b : ℕ) → (a ≡ b → ⊥) → (a == b) ≡ false
other_number a b other = grind (arith, nat_tests, other)

module _ (firsts : List ℕ) (k : ℕ) where
  abbrev pub group_of : ℕ → ArrayVec ℕ
  group_of j = numbers (members firsts j)

  abbrev pub leads : ℕ → Bool
  leads j = slice_index firsts j == j

  abbrev with_one : Bool → List (ArrayVec ℕ)
  with_one b = map group_of (numbers_below leads k ++ (if b then k ∷ [] else []))

  one_more : (b : Bool) → leads k ≡ b → with_one b ≡ map group_of (numbers_below leads (k + 1))
  one_more b is =
      let next : suc k ≡ k + 1 = omega arith in
      ap with_one (sym is) ∙ ap (λ n. map group_of (numbers_below leads n)) next

  pub led : (before after : List (ArrayVec ℕ)) → before ≡ map group_of (numbers_below leads k) → slice_index firsts k ≡ k → after ≡ before ++ group_of k ∷ []
      → after ≡ map group_of (numbers_below leads (k + 1))
  led before after was is added =
      added ∙ ap (λ (gs : List (ArrayVec ℕ)). gs ++ group_of k ∷ []) was ∙ sym (map_push group_of (numbers_below leads k) k) ∙ one_more true (same_number (slice_index firsts k) k is)

  pub not_led : (before : List (ArrayVec ℕ)) → before ≡ map group_of (numbers_below leads k) → (slice_index firsts k ≡ k → ⊥) → before ≡ map group_of (numbers_below leads (k + 1))
  not_led before was none = was ∙ ap (map group_of) (sym (append-nil (numbers_below leads k))) ∙ one_more false (other_number (slice_index firsts k) k none)
