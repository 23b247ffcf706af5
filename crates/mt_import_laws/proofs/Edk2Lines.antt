-- What a line of EDK2 is read as.
use Rattle.std.proofs.Common.{◌≡◌, ◌∙◌, ◌+◌, ◌-◌, ◌*◌, ◌/◌, ◌%◌, ◌^◌, ◌<◌, ◌≤◌, nat_lt, ℕ, zero, suc, true, false, List, [], ◌∷◌, ◌++◌, length, take, Some, Ok, refl, ap, append-nil, arith, lit≤, codes, slice_get, slice_index}
use Rattle.std.specs.List.{list_all}
use Rattle.std.proofs.lemmas.Bool.Decides.{nat_tests}
use Rattle.hex.specs.Hex.{upper_digits}
use Rattle.hex.proofs.HexLemmas.{IsDigits-upper_digits}
use Rattle.mt_text.specs.Text.{is_word_byte, words_of}
use Rattle.mt_text.specs.Words.{place_of}
use Rattle.mt_text.specs.Number.{decimal_number, is_decimal_digit}
use Rattle.mt_text.specs.declared.place.Place.{Place}
use Rattle.mt_text.proofs.Plain.{is_plain}
use Rattle.mt_regs.specs.Registers.{fixed_numbers}
use Rattle.mt_import.specs.declared.format.Format.TheVariants.{Coreboot, Edk2, Linux, Xen}
use Rattle.mt_import.specs.declared.reading.LineSays.{LineSays}
use Rattle.mt_import.specs.declared.reading.LineSays.TheVariants.{Shows}
use Rattle.mt_import.specs.Edk2.{edk2_said, fixed_number, said_by_words, shows_pair}
use Rattle.mt_import.specs.Linux.{pair_numbered}
use Rattle.mt_import.specs.Pieces.{shown_as, shows_one, sixteen_digits as sixteen_read_of}
use Rattle.mt_import.specs.Readings.{two_shown}
use Rattle.mt_import.specs.Shown.{format_told, is_telling, said_of, said_or_sizes, tells, unmarked}
use Rattle.mt_import_laws.specs.PrintedByEdk2.{default_line, fixed_line, pair_line, sixteen_digits, two_digits}
use Rattle.mt_import_laws.proofs.PrintedDigits.{sixteen_all, sixteen_long, sixteen_number}
use Rattle.mt_import_laws.proofs.Tells.{coreboot_by, edk2_by, linux_by, xen_by}
use Rattle.mt_import_laws.proofs.LineWords.{AreWords, IsWord, are_apart, digits_are_word, length_of_pieces, line_with, pieces_plain, placed, size_of, word_append, words_of_pieces}

long : (value : ℕ) → length (sixteen_digits value) ≡ 16
long value = sixteen_long upper_digits IsDigits-upper_digits value

value_word : (value : ℕ) → IsWord (sixteen_digits value)
value_word value = let size = long value in digits_are_word (sixteen_digits value) (omega (arith, size)) (sixteen_all upper_digits IsDigits-upper_digits value)

value_read : (value : ℕ) → value < 2 ^ 64 → sixteen_read_of (sixteen_digits value) ≡ Some value
value_read value fits = rw (sixteen_number upper_digits IsDigits-upper_digits value fits, long value) refl

-- ---- a number of two digits

digit : (d : ℕ) → d < 10 → (is_plain (48 + d) ≡ true) × (is_word_byte (48 + d) ≡ true) × (is_decimal_digit (48 + d) ≡ true)
digit d small = (grind (arith, nat_tests), grind (arith, nat_tests), grind (arith, nat_tests))

module _ (n : ℕ) (few : n < 32) where
  high : n / 10 < 10
  high = omega (arith, few)

  low : n % 10 < 10
  low = omega arith

  two_plain : list_all is_plain (two_digits n) ≡ true
  two_plain = rw ((digit (n / 10) high).0, (digit (n % 10) low).0) refl

  two_word : list_all is_word_byte (two_digits n) ≡ true
  two_word = rw ((digit (n / 10) high).1, (digit (n % 10) low).1) refl

  two_read : decimal_number (two_digits n) 31 ≡ Ok n
  two_read =
      let sum : (0 * 10 + (48 + n / 10 - 48)) * 10 + (48 + n % 10 - 48) ≡ n = omega arith in
      let within : nat_lt 31 n ≡ false = grind (arith, nat_tests, few) in
      rw ((digit (n / 10) high).2, (digit (n % 10) low).2, sum, within) refl

  -- `MTRR[NN]` and what closes it
  number_word : (end : List ℕ) → list_all is_word_byte end ≡ true → list_all is_plain end ≡ true → IsWord (codes "MTRR[" ++ (two_digits n ++ end))
  number_word end words plain =
      let a = digit (n / 10) high in
      let b = digit (n % 10) low in
      (omega arith, rw (a.1, b.1) words, rw (a.0, b.0) plain)

  fixed_read : pair_numbered (codes "MTRR[") (codes "]") (codes "MTRR[" ++ (two_digits n ++ codes "]")) ≡ Some n
  fixed_read = rw two_read refl

  pair_read : pair_numbered (codes "MTRR[") (codes "]:") (codes "MTRR[" ++ (two_digits n ++ codes "]:")) ≡ Some n
  pair_read = rw two_read refl

slice_at : (xs : List ℕ) (i : ℕ) → i < length xs → slice_get xs i ≡ Some (slice_index xs i)
slice_at [] i less = absurd (omega (arith, less))
slice_at (x ∷ xs) zero less = refl
slice_at (x ∷ xs) (suc i) less = slice_at xs i (omega (arith, less))

within_limit : (n : ℕ) → n ≤ 100 → nat_lt 4096 n ≡ false
within_limit n le = grind (arith, nat_tests, le)

-- a line of four words
module _ (number : ℕ) (line : List ℕ) (first : ℕ × List ℕ) (others : List (ℕ × List ℕ)) (is : line ≡ line_with (first ∷ others) []) (are : AreWords (first ∷ others)) (apart : are_apart others ≡ true)
    (size : size_of (first ∷ others) ≤ 100) where
  plain_of : list_all is_plain line ≡ true
  plain_of = ap (list_all is_plain) is ∙ pieces_plain (first ∷ others) [] are refl

  said_by : (said : LineSays) → unmarked line ≡ line → said_by_words number (take 7 (placed 0 (first ∷ others) [])) ≡ said → said_or_sizes said number line ≡ said → said_of Edk2 number line ≡ said
  said_by said own by same =
      let words : words_of line ≡ placed 0 (first ∷ others) [] = ap words_of is ∙ words_of_pieces first others [] are apart refl refl in
      let long_line = ap length is ∙ length_of_pieces (first ∷ others) [] in
      let short : nat_lt 4096 (length line) ≡ false = within_limit (length line) (omega (arith, long_line, size)) in
      rw short (ap (λ l. said_or_sizes (edk2_said number l) number l) own ∙ ap (λ s. said_or_sizes s number line) (ap (λ ws. said_by_words number (take 7 ws)) words ∙ by) ∙ same)

-- ---- the default type

module _ (value : ℕ) where
  abbrev default_others : List (ℕ × List ℕ)
  default_others = (1, codes "Default") ∷ (1, codes "Type:") ∷ (1, sixteen_digits value) ∷ []

  default_is : default_line value ≡ line_with ((0, codes "MTRR") ∷ default_others) []
  default_is = rw (append-nil (sixteen_digits value)) refl

  default_words : AreWords ((0, codes "MTRR") ∷ default_others)
  default_words = ((lit≤ tt, refl, refl), ((lit≤ tt, refl, refl), ((lit≤ tt, refl, refl), (value_word value, tt))))

  default_size : size_of ((0, codes "MTRR") ∷ default_others) ≤ 100
  default_size = rw (long value) (lit≤ tt)

  pub default_plain : list_all is_plain (default_line value) ≡ true
  default_plain = plain_of 0 (default_line value) (0, codes "MTRR") default_others default_is default_words refl default_size

  pub default_place : ℕ → Place
  default_place number = place_of number (placed 0 ((0, codes "MTRR") ∷ default_others) []) 3

  pub default_said : (number : ℕ) → value < 2 ^ 64 → said_of Edk2 number (default_line value) ≡ shows_one (Some 0) (Some 0x2ff) (Some value) (default_place number)
  unfolding default_place
  default_said number fits =
      said_by number (default_line value) (0, codes "MTRR") default_others default_is default_words refl default_size (shows_one (Some 0) (Some 0x2ff) (Some value) (default_place number)) refl
      (ap (λ v. shows_one (Some 0) (Some 0x2ff) v (default_place number)) (value_read value fits)) refl

  default_found : words_of (default_line value) ≡ placed 0 ((0, codes "MTRR") ∷ default_others) []
  default_found = ap words_of default_is ∙ words_of_pieces (0, codes "MTRR") default_others [] default_words refl refl refl

  default_short : nat_lt 4096 (length (default_line value)) ≡ false
  default_short = let size = ap length default_is ∙ length_of_pieces ((0, codes "MTRR") ∷ default_others) [] in let few = default_size in within_limit (length (default_line value)) (omega (arith, size, few))

  -- the line tells the format
  pub default_told : (number : ℕ) → value < 2 ^ 64 → format_told number (default_line value) ≡ Some Edk2
  default_told number fits =
      let line = default_line value in
      let ws = placed 0 ((0, codes "MTRR") ∷ default_others) [] in
      let xen : tells Xen number line ≡ false = xen_by number line refl ws default_found in
      let linux : tells Linux number line ≡ false = linux_by number line refl ws default_found in
      let coreboot : tells Coreboot number line ≡ false = coreboot_by number line refl ws default_found in
      let own : tells Edk2 number line ≡ true =
      edk2_by number line refl ws default_found ∙ ap (λ v. is_telling (shows_one (Some 0) (Some 0x2ff) v (place_of number (take 7 ws) 3))) (value_read value fits) in
      rw (default_short, xen, linux, coreboot, own) refl

-- ---- a fixed-range register

module _ (place value : ℕ) (few : place < 11) where
  below : place < 32
  below = omega (arith, few)

  abbrev fixed_others : List (ℕ × List ℕ)
  fixed_others = (1, codes "MTRR[" ++ (two_digits place ++ codes "]")) ∷ (3, codes ":") ∷ (1, sixteen_digits value) ∷ []

  fixed_is : fixed_line place value ≡ line_with ((0, codes "Fixed") ∷ fixed_others) []
  fixed_is = rw (append-nil (sixteen_digits value)) refl

  fixed_words : AreWords ((0, codes "Fixed") ∷ fixed_others)
  fixed_words = ((lit≤ tt, refl, refl), (number_word place below (codes "]") refl refl, ((lit≤ tt, refl, refl), (value_word value, tt))))

  fixed_size : size_of ((0, codes "Fixed") ∷ fixed_others) ≤ 100
  fixed_size = rw (long value) (lit≤ tt)

  pub fixed_plain : list_all is_plain (fixed_line place value) ≡ true
  fixed_plain = plain_of 0 (fixed_line place value) (0, codes "Fixed") fixed_others fixed_is fixed_words refl fixed_size

  pub fixed_place : ℕ → Place
  fixed_place number = place_of number (placed 0 ((0, codes "Fixed") ∷ fixed_others) []) 3

  pub fixed_said : (number : ℕ) → value < 2 ^ 64 → said_of Edk2 number (fixed_line place value) ≡ shows_one (Some 0) (Some (slice_index fixed_numbers place)) (Some value) (fixed_place number)
  unfolding fixed_place
  fixed_said number fits =
      said_by number (fixed_line place value) (0, codes "Fixed") fixed_others fixed_is fixed_words refl fixed_size (shows_one (Some 0) (Some (slice_index fixed_numbers place)) (Some value) (fixed_place number)) refl
      (ap (λ k. shows_one (Some 0) (fixed_number k) (sixteen_read_of (sixteen_digits value)) (fixed_place number)) (fixed_read place below)
      ∙ ap (λ r. shows_one (Some 0) r (sixteen_read_of (sixteen_digits value)) (fixed_place number)) (slice_at fixed_numbers place few)
      ∙ ap (λ v. shows_one (Some 0) (Some (slice_index fixed_numbers place)) v (fixed_place number)) (value_read value fits)) refl

-- ---- a pair

module _ (n : ℕ) (pair : ℕ × ℕ) (few : n < 32) where
  abbrev pair_others : List (ℕ × List ℕ)
  pair_others = (1, codes "MTRR[" ++ (two_digits n ++ codes "]:")) ∷ (1, codes "Base=" ++ sixteen_digits pair.0) ∷ (1, codes "Mask=" ++ sixteen_digits pair.1) ∷ []

  pair_is : pair_line n pair ≡ line_with ((0, codes "Variable") ∷ pair_others) []
  pair_is = rw (append-nil (sixteen_digits pair.1)) refl

  pair_words : AreWords ((0, codes "Variable") ∷ pair_others)
  pair_words =
      let base = value_word pair.0 in
      let mask = value_word pair.1 in (
        (lit≤ tt, refl, refl),
        (
          number_word n few (codes "]:") refl refl,
          (word_append (codes "Base=") (sixteen_digits pair.0) (lit≤ tt, refl, refl) base.1 base.2, (word_append (codes "Mask=") (sixteen_digits pair.1) (lit≤ tt, refl, refl) mask.1 mask.2, tt)),
        ),
      )

  pair_size : size_of ((0, codes "Variable") ∷ pair_others) ≤ 100
  pair_size = rw (long pair.0, long pair.1) (lit≤ tt)

  pub pair_plain : list_all is_plain (pair_line n pair) ≡ true
  pair_plain = plain_of 0 (pair_line n pair) (0, codes "Variable") pair_others pair_is pair_words refl pair_size

  pub base_place : ℕ → Place
  base_place number = place_of number (placed 0 ((0, codes "Variable") ∷ pair_others) []) 2

  pub mask_place : ℕ → Place
  mask_place number = place_of number (placed 0 ((0, codes "Variable") ∷ pair_others) []) 3

  pub pair_said : (number : ℕ) → pair.0 < 2 ^ 64 → pair.1 < 2 ^ 64
      → said_of Edk2 number (pair_line n pair) ≡ Shows (Some 0) (two_shown (shown_as (0x200 + 2 * n) pair.0 (base_place number)) (shown_as (0x201 + 2 * n) pair.1 (mask_place number)))
  unfolding base_place mask_place
  pair_said number base_fits mask_fits =
      said_by number (pair_line n pair) (0, codes "Variable") pair_others pair_is pair_words refl pair_size
      (Shows (Some 0) (two_shown (shown_as (0x200 + 2 * n) pair.0 (base_place number)) (shown_as (0x201 + 2 * n) pair.1 (mask_place number)))) refl
      (ap (λ k. shows_pair k (base_place number) (sixteen_read_of (sixteen_digits pair.0)) (mask_place number) (sixteen_read_of (sixteen_digits pair.1))) (pair_read n few)
      ∙ ap (λ v. shows_pair (Some n) (base_place number) v (mask_place number) (sixteen_read_of (sixteen_digits pair.1))) (value_read pair.0 base_fits)
      ∙ ap (λ v. shows_pair (Some n) (base_place number) (Some pair.0) (mask_place number) v) (value_read pair.1 mask_fits)) refl
