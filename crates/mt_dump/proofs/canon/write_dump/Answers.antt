use Rattle.std.proofs.Common.{◌≡◌, ◌∙◌, ◌+◌, ℕ, List, [], ◌∷◌, ◌++◌, Option, Some, None, MatchOption, length, take, ap, refl, sym, length-append}
use Rattle.mt_dump.proofs.canon.write_dump.Goals as goal

-- what is put where a line of this text was made
line_put : (found : Option (List ℕ)) (items front : List ℕ) (count : ℕ) → MatchOption found (items ≡ []) (λ text. items ≡ text ++ 10 ∷ []) → count ≡ length items → front ≡ items
    → MatchOption found (count ≡ 0) (λ text. (count ≡ length text + 1) × (front ≡ text ++ 10 ∷ []))
line_put None items front count made counted put = counted ∙ ap length made
line_put (Some text) items front count made counted put = (counted ∙ ap length made ∙ length-append text (10 ∷ []), put ∙ made)

take_front : (xs ys : List ℕ) (count : ℕ) → count ≡ length xs → take count (xs ++ ys) ≡ xs
take_front xs ys count is = ap (λ n. take n (xs ++ ys)) is ∙ by xs
  where
    by : (xs : List ℕ) → take (length xs) (xs ++ ys) ≡ xs
    by [] = refl
    by (x ∷ xs) = ap (λ l. x ∷ l) (by xs)

pub returns-clause-text : goal.returns-clause-text
returns-clause-text c =
    let whole = c.copy_from_slice.ensures.after ∙ c.as_slice.ensures.value in
    let counted = c.len-count.ensures.value ∙ ap length (sym whole) in
    line_put _ c.canon_line-text.result.items _ _ c.canon_line-text.ensures c.len-count.ensures.value (take_front c.copy_from_slice.new.self _ c.len-count.result counted ∙ whole)
