use Rattle.std.proofs.Common.{◌≡◌, ◌≢◌, ◌≤◌, length, take, ℕ, List, [], ◌∷◌, refl, sym, ◌∙◌, ap, arith, inl, inr}
use Rattle.std.specs.Prelude.{codes, ◌⊎◌}
use Rattle.mt_text_laws.proofs.text_worked.worked_lent_lines.Goals as goal

first_is : (a b : List ℕ) (xs ys : List (List ℕ)) → a ∷ xs ≡ b ∷ ys → b ≡ a
first_is a b xs ys is = cc is

others_are : (a b : List ℕ) (xs ys : List (List ℕ)) → a ∷ xs ≡ b ∷ ys → ys ≡ xs
others_are a b xs ys is = cc is

few : (first : List ℕ) → first ≡ codes "ab" → length first ≤ 4096
few first is = rw is (omega arith)

one_more : (others : List (List ℕ)) (number : ℕ) → others ≡ codes "cd" ∷ [] → number ≢ 2 → (others ≡ []) ⊎ (number ≡ 2) → ⊥
one_more others number are apart (inl none) = let e : codes "cd" ∷ [] ≡ [] = sym are ∙ none in cc e
one_more others number are apart (inr is) = apart is

pub returns : goal.returns
returns c = record {
  line = λ line bytes number. record {
    first = codes "ab";
    others = codes "cd" ∷ [];
    lines = refl;
    bytes = bytes;
    number = number;
    rest = λ short. refl;
    next = λ short. inr refl;
  };
  other_bytes = λ line bytes lent. let e : codes "a" ≡ codes "ab" = sym bytes ∙ lent.bytes ∙ ap (take 4097) (first_is (codes "ab") lent.first (codes "cd" ∷ []) lent.others lent.lines) in cc e;
  other_number = λ line number lent. let e : 2 ≡ 1 = sym number ∙ lent.number in absurd (omega arith);
  byte_lost = λ line lent.
      let e : codes "d" ∷ [] ≡ codes "cd" ∷ [] = lent.rest (few lent.first (first_is (codes "ab") lent.first (codes "cd" ∷ []) lent.others lent.lines)) ∙ others_are (codes "ab") lent.first (codes "cd" ∷ []) lent.others lent.lines in
      cc e;
  other_next = λ line lent. one_more lent.others 3 (others_are (codes "ab") lent.first (codes "cd" ∷ []) lent.others lent.lines) (λ e. absurd (omega (arith, e))) (lent.next (few lent.first (first_is (codes "ab") lent.first (codes "cd" ∷ []) lent.others lent.lines)));
}
