-- What a call of rdmsr and its value are read as.
use Rattle.std.proofs.Common.{◌≡◌, ◌∙◌, ◌^◌, ◌<◌, ◌≤◌, nat_eq, nat_lt, ℕ, true, false, List, [], ◌∷◌, ◌++◌, length, None, Some, refl, sym, ap, arith, lit≤, append-nil, codes}
use Rattle.std.specs.List.{list_all}
use Rattle.std.proofs.lemmas.Bool.{and_parts}
use Rattle.std.proofs.lemmas.Bool.Decides.{nat_tests}
use Rattle.hex.specs.Hex.{is_hex_digit}
use Rattle.mt_text.specs.Text.{words_of}
use Rattle.mt_text.specs.Words.{place_of}
use Rattle.mt_text.specs.declared.place.Place.{Place}
use Rattle.mt_text.proofs.Plain.{digits_plain, is_plain}
use Rattle.mt_import.specs.declared.format.Format.TheVariants.{Rdmsr}
use Rattle.mt_import.specs.declared.reading.LineSays.TheVariants.{Announces, Value}
use Rattle.mt_import.specs.Rdmsr.{announced, is_traced, rdmsr_said, register_named, said_by_words, said_value}
use Rattle.mt_import.specs.Shown.{said_of, said_or_sizes, unmarked}
use Rattle.mt_import_laws.specs.PrintedByRdmsr.{all_line, call_line, hex_text}
use Rattle.mt_import_laws.proofs.HexDigits.{hex_alone, hex_digits, hex_prefixed, hex_short, hex_some}
use Rattle.mt_import_laws.proofs.Tells.{no_mark}
use Rattle.mt_import_laws.proofs.LineWords.{AreWords, IsWord, digits_are_word, length_of_pieces, line_with, pieces_plain, placed, word_append, words_of_pieces}

hex_word : (value : ℕ) → IsWord (hex_text value)
hex_word value = digits_are_word (hex_text value) (hex_some value) (hex_digits value)

within_limit : (n : ℕ) → n ≤ 100 → nat_lt 4096 n ≡ false
within_limit n le = grind (arith, nat_tests, le)

small_number : (number : ℕ) → number < 0x1000 → nat_lt number 0x1000 ≡ true
small_number number small = grind (arith, nat_tests, small)

-- ---- a call

module _ (register : ℕ) (small : register < 0x1000) where
  fits : register < 2 ^ 64
  fits = omega (arith, small)

  abbrev others : List (ℕ × List ℕ)
  others = (1, codes "rdmsr") ∷ (1, codes "-p") ∷ (1, codes "0") ∷ (1, codes "0x" ++ hex_text register) ∷ []

  call_is : call_line register ≡ line_with ((0, codes "+") ∷ others) []
  call_is = rw (append-nil (hex_text register)) refl

  call_words : AreWords ((0, codes "+") ∷ others)
  call_words =
      let digits = hex_word register in
      ((lit≤ tt, refl, refl), ((lit≤ tt, refl, refl), ((lit≤ tt, refl, refl), ((lit≤ tt, refl, refl), (word_append (codes "0x") (hex_text register) (lit≤ tt, refl, refl) digits.1 digits.2, tt)))))

  pub call_plain : list_all is_plain (call_line register) ≡ true
  call_plain = ap (list_all is_plain) call_is ∙ pieces_plain ((0, codes "+") ∷ others) [] call_words refl

  call_short : nat_lt 4096 (length (call_line register)) ≡ false
  call_short =
      let size = ap length call_is ∙ length_of_pieces ((0, codes "+") ∷ others) [] in
      let few = hex_short register fits in
      within_limit (length (call_line register)) (omega (arith, size, few))

  register_read : register_named (codes "0x" ++ hex_text register) ≡ Some register
  register_read = rw (hex_prefixed register fits, small_number register small) refl

  pub call_said : (number : ℕ) → said_of Rdmsr number (call_line register) ≡ Announces (Some 0) register
  call_said number =
      let words : words_of (call_line register) ≡ placed 0 ((0, codes "+") ∷ others) [] = ap words_of call_is ∙ words_of_pieces (0, codes "+") others [] call_words refl refl refl in
      let said : rdmsr_said number (call_line register) ≡ Announces (Some 0) register = ap (said_by_words number) words ∙ ap (announced (Some 0)) register_read in
      rw call_short (ap (λ s. said_or_sizes s number (call_line register)) said)

  -- ---- of all processors

  abbrev all_others : List (ℕ × List ℕ)
  all_others = (1, codes "rdmsr") ∷ (1, codes "-a") ∷ (1, codes "0x" ++ hex_text register) ∷ []

  all_is : all_line register ≡ line_with ((0, codes "+") ∷ all_others) []
  all_is = rw (append-nil (hex_text register)) refl

  all_words : AreWords ((0, codes "+") ∷ all_others)
  all_words =
      let digits = hex_word register in
      ((lit≤ tt, refl, refl), ((lit≤ tt, refl, refl), ((lit≤ tt, refl, refl), (word_append (codes "0x") (hex_text register) (lit≤ tt, refl, refl) digits.1 digits.2, tt))))

  pub all_plain : list_all is_plain (all_line register) ≡ true
  all_plain = ap (list_all is_plain) all_is ∙ pieces_plain ((0, codes "+") ∷ all_others) [] all_words refl

  all_short : nat_lt 4096 (length (all_line register)) ≡ false
  all_short =
      let size = ap length all_is ∙ length_of_pieces ((0, codes "+") ∷ all_others) [] in
      let few = hex_short register fits in
      within_limit (length (all_line register)) (omega (arith, size, few))

  pub all_said : (number : ℕ) → said_of Rdmsr number (all_line register) ≡ Announces None register
  all_said number =
      let words : words_of (all_line register) ≡ placed 0 ((0, codes "+") ∷ all_others) [] = ap words_of all_is ∙ words_of_pieces (0, codes "+") all_others [] all_words refl refl refl in
      let said : rdmsr_said number (all_line register) ≡ Announces None register = ap (said_by_words number) words ∙ ap (announced None) register_read in
      rw all_short (ap (λ s. said_or_sizes s number (all_line register)) said)

-- ---- a value

digits_unmarked : (digits : List ℕ) → list_all is_hex_digit digits ≡ true → unmarked digits ≡ digits
digits_unmarked [] all = refl
digits_unmarked (digit ∷ digits) all = no_mark digit digits (other digit (and_parts (is_hex_digit digit) (list_all is_hex_digit digits) all).0)
  where
    other : (byte : ℕ) → is_hex_digit byte ≡ true → nat_eq byte 239 ≡ false
    other byte is = grind (arith, nat_tests, is)

no_plus : (digits : List ℕ) → list_all is_hex_digit digits ≡ true → 1 ≤ length digits → is_traced digits ≡ false
no_plus [] all some = absurd (omega (arith, some))
no_plus (digit ∷ digits) all some = rw (apart digit (and_parts (is_hex_digit digit) (list_all is_hex_digit digits) all).0) refl
  where
    apart : (byte : ℕ) → is_hex_digit byte ≡ true → nat_eq byte 43 ≡ false
    apart byte is = grind (arith, nat_tests, is)

module _ (value : ℕ) (fits : value < 2 ^ 64) where
  value_is_line : hex_text value ≡ line_with ((0, hex_text value) ∷ []) []
  value_is_line = sym (append-nil (hex_text value))

  pub value_plain : list_all is_plain (hex_text value) ≡ true
  value_plain = digits_plain (hex_text value) (hex_digits value)

  pub value_place : ℕ → Place
  value_place number = place_of number ((0, hex_text value) ∷ []) 0

  pub value_said : (number : ℕ) → said_of Rdmsr number (hex_text value) ≡ Value value (value_place number)
  unfolding value_place
  value_said number =
      let few = hex_short value fits in
      let short : nat_lt 4096 (length (hex_text value)) ≡ false = within_limit (length (hex_text value)) (omega (arith, few)) in
      let words : words_of (hex_text value) ≡ (0, hex_text value) ∷ [] = ap words_of value_is_line ∙ words_of_pieces (0, hex_text value) [] [] (hex_word value, tt) refl refl refl in
      let said : rdmsr_said number (hex_text value) ≡ Value value (value_place number) =
      ap (said_by_words number) words
      ∙ rw (no_plus (hex_text value) (hex_digits value) (hex_some value)) (ap (said_value (value_place number)) (hex_alone value fits)) in
      rw short (ap (λ l. said_or_sizes (rdmsr_said number l) number l) (digits_unmarked (hex_text value) (hex_digits value)) ∙ ap (λ s. said_or_sizes s number (hex_text value)) said)
