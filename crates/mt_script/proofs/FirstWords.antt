-- A line is read by its first seven words: no command has more than six.
use Rattle.std.proofs.Common.{◌≡◌, ℕ, suc, zero, ◌≤◌, ◌<◌, ◌==◌, nat_le, nat_lt, true, false, List, [], ◌∷◌, length, take, Option, Some, None, Err, refl, sym, ◌∙◌, ap, arith, lit≤, inl, inr}
use Rattle.std.specs.List.{slice_get}
use Rattle.std.specs.Prelude.{unwrap_or, IfSome}
use Rattle.std.proofs.lemmas.Bool.{cases_Bool, leb-true}
use Rattle.std.proofs.lemmas.Bool.Decides.{nat_tests}
use Rattle.std.proofs.lemmas.List.{length-take-le, take_all}
use Rattle.mt_text.specs.Words.{word_of, text_of, place_of}
use Rattle.mt_script.specs.Situation.{Situation}
use Rattle.mt_script.specs.Numbers.{fault_at}
use Rattle.mt_script.specs.declared.fault.ScriptReason.TheVariants.{BadLine}
use Rattle.mt_script.specs.Rows.{row_of}
use Rattle.mt_script.specs.Shape.{bad_line, shape_fault}
use Rattle.mt_script.specs.Commands.{ReadCommand, outside, in_section, is_end, row_line}
use Rattle.mt_script.specs.declared.row.Row.{Row}
use Rattle.mt_script.proofs.Table.{IsShort, rows_short}

get_first : {X : Type 0} (k i : ℕ) (xs : List X) → i < k → slice_get (take k xs) i ≡ slice_get xs i
get_first zero i xs below = absurd (omega arith)
get_first (suc k) i [] below = refl
get_first (suc k) zero (x ∷ xs) below = refl
get_first (suc k) (suc i) (x ∷ xs) below = get_first k i xs (omega arith)

-- seven words or more are too many
too_many : (number : ℕ) (words : List (ℕ × List ℕ)) (row : Row) → IsShort row → 7 ≤ length words → shape_fault number words row ≡ bad_line number words row.most
too_many number words row short many =
    let enough : nat_lt (length words) row.least ≡ false = grind (arith, nat_tests, short) in
    let more : nat_lt row.most (length words) ≡ true = grind (arith, nat_tests, short) in
    rw (enough, more) refl

abbrev bad_place : ℕ → List (ℕ × List ℕ) → Row → ReadCommand
bad_place number words row = Err (fault_at BadLine (place_of number words row.most))

bad_row : (now : Situation) (number : ℕ) (words : List (ℕ × List ℕ)) (row : Row) → IsShort row → 7 ≤ length words → row_line now number words (Some row) ≡ bad_place number words row
bad_row now number words row short many = rw (too_many number words row short many) refl

module _ (words : List (ℕ × List ℕ)) (many : 7 ≤ length words) where
  pub size : length (take 7 words) ≡ 7
  size = length-take-le 7 words many

  pub word_first : (i : ℕ) → i < 7 → word_of (take 7 words) i ≡ word_of words i
  word_first i below = ap (λ o. unwrap_or o (0, [])) (get_first 7 i words below)

  row_first : (now : Situation) (number : ℕ) (row : Option Row) → IfSome row IsShort → row_line now number (take 7 words) row ≡ row_line now number words row
  row_first now number None short = rw (word_first 0 (lit≤ tt)) refl
  row_first now number (Some row) short =
      let same : bad_place number (take 7 words) row ≡ bad_place number words row = rw (word_first row.most (omega (arith, short))) refl in
      bad_row now number (take 7 words) row short (omega (arith, size)) ∙ same ∙ sym (bad_row now number words row short many)

  outside_many : (now : Situation) (number : ℕ) → outside now number (take 7 words) ≡ outside now number words
  outside_many now number =
      let some : (length words == 0) ≡ false = grind (arith, nat_tests) in
      let text : text_of (take 7 words) 0 ≡ text_of words 0 = ap (λ w. w.1) (word_first 0 (lit≤ tt)) in
      rw (size, some, text) (row_first now number (row_of (text_of words 0)) (rows_short (text_of words 0)))

  section_many : (now : Situation) (number : ℕ) → in_section now number (take 7 words) ≡ in_section now number words
  section_many now number =
      let some : (length words == 0) ≡ false = grind (arith, nat_tests) in
      let not_one : (length words == 1) ≡ false = grind (arith, nat_tests) in
      let not_two : nat_lt 2 (length words) ≡ true = grind (arith, nat_tests) in
      rw (size, some, not_one, not_two, word_first 2 (lit≤ tt)) refl

-- what the first seven words lead to is what all of them lead to
module _ (words : List (ℕ × List ℕ)) where
  pub by_length : {X : Type 0} (f : List (ℕ × List ℕ) → X) → (7 ≤ length words → f (take 7 words) ≡ f words) → f (take 7 words) ≡ f words
  by_length f many = elim (cases_Bool (nat_le (length words) 7)) [
    | inl short ↦ ap f (take_all 7 words (leb-true _ _ short))
    | inr long ↦ many (grind (arith, nat_tests, long))
  ]

  pub outside_first : (now : Situation) (number : ℕ) → outside now number (take 7 words) ≡ outside now number words
  outside_first now number = by_length (outside now number) (λ many. outside_many words many now number)

  pub section_first : (now : Situation) (number : ℕ) → in_section now number (take 7 words) ≡ in_section now number words
  section_first now number = by_length (in_section now number) (λ many. section_many words many now number)

  pub is_end_first : is_end (take 7 words) ≡ is_end words
  is_end_first = by_length is_end (λ many.
      let not_one : (length words == 1) ≡ false = grind (arith, nat_tests) in
      rw (size words many, not_one) refl)

  pub place_first : (number : ℕ) → place_of number (take 7 words) 0 ≡ place_of number words 0
  place_first number = by_length (λ ws. place_of number ws 0) (λ many. rw (word_first words many 0 (lit≤ tt)) refl)
