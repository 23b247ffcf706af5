-- What a line of coreboot's display is read as.
use Rattle.std.proofs.Common.{◌≡◌, ◌∙◌, ◌+◌, ◌-◌, ◌*◌, ◌^◌, ◌<◌, ◌≤◌, ◌==◌, ◌&&◌, not, nat_eq, nat_lt, ℕ, zero, suc, Bool, true, false, List, [], ◌∷◌, ◌++◌, length, take, Some, None, refl, sym, ap, arith, drop, inr, lit≤, length-append, codes, decimal}
use Rattle.std.specs.Fmt.{digits}
use Rattle.std.specs.Prelude.{if◌then◌else◌}
use Rattle.std.specs.List.{list_all}
use Rattle.std.proofs.lemmas.Bool.{and_parts}
use Rattle.std.proofs.lemmas.Bool.Decides.{nat_tests}
use Rattle.std.proofs.Math.Seq.{drop-append_seam, take-append_seam}
use Rattle.hex.specs.Hex.{is_hex_digit, lower_digits}
use Rattle.hex.proofs.HexLemmas.{IsDigits-lower_digits}
use Rattle.mt_kinds.specs.Bits.{is_bit_set}
use Rattle.mt_text.specs.Text.{goes_on, is_word_byte, words_from, words_of}
use Rattle.mt_text.specs.Words.{place_of, text_of}
use Rattle.mt_text.specs.declared.place.Place.{Place}
use Rattle.mt_text.proofs.Plain.{is_plain}
use Rattle.mt_regs.specs.declared.registers.Register.TheVariants.{PhysBase, PhysMask, FixedRange, Pat, DefaultType}
use Rattle.mt_regs.specs.RegisterFile.{RegisterFile, pair_at}
use Rattle.mt_dump.specs.Canon.{value_text}
use Rattle.mt_import.specs.declared.format.Format.TheVariants.{Coreboot, Linux, Xen}
use Rattle.mt_import.specs.declared.reading.LineSays.TheVariants.{Nothing}
use Rattle.mt_import.specs.Coreboot.{colon_number, coreboot_said, level_words, of_pair, pair_digits, register_named, said_from}
use Rattle.mt_import.specs.LineWords.{behind_facility, behind_stamp, is_iso}
use Rattle.mt_import.specs.Linux.{linux_words_said}
use Rattle.mt_import.specs.Pieces.{before, is_text, shows_one}
use Rattle.mt_import.specs.Shown.{format_told, is_telling, said_of, said_or_sizes, tells, unmarked}
use Rattle.mt_import_laws.specs.FirstLine.{IsOfNoHost}
use Rattle.mt_import_laws.specs.Printed.{Key, number_at}
use Rattle.mt_import_laws.specs.PrintedByCoreboot.{colon_if, display_line, is_tail_byte, name_of, number_word}
use Rattle.mt_import_laws.proofs.PrintedDigits.{sixteen_all, sixteen_long, sixteen_read}
use Rattle.mt_import_laws.proofs.LineWords.{AreWords, IsWord, all_append, digits_are_word, length_of_pieces, pieces_plain, placed, word_append, words_of_pieces}
use Rattle.mt_import_laws.proofs.Below.{is_value, passes, some_value}
use Rattle.mt_import_laws.proofs.Foreign.{and_left, if_nothing, if_off, kernel_none, linux_none, log_front}
use Rattle.mt_import_laws.proofs.Keys.{IsKey}
use Rattle.mt_import_laws.proofs.Tells.{linux_by, no_mark, xen_by}

-- ---- the value

long : (value : ℕ) → length (value_text value) ≡ 16
long value = sixteen_long lower_digits IsDigits-lower_digits value

value_word : (value : ℕ) → IsWord (value_text value)
value_word value = let size = long value in digits_are_word (value_text value) (omega (arith, size)) (sixteen_all lower_digits IsDigits-lower_digits value)

before_colon : (xs : List ℕ) → before (codes ":") (xs ++ 58 ∷ []) ≡ Some xs
before_colon xs =
    let size = length-append xs (58 ∷ []) in
    let count : length (xs ++ 58 ∷ []) - 1 ≡ length xs = omega (arith, size) in
    rw (count, drop-append_seam xs (58 ∷ []), take-append_seam xs (58 ∷ [])) refl

number_read : (value : ℕ) → value < 2 ^ 64 → colon_number (number_word value) ≡ Some value
number_read value fits = rw (before_colon (48 ∷ 120 ∷ value_text value), sixteen_read lower_digits IsDigits-lower_digits value fits) refl

-- ---- the name

-- a pair's number, with and without a `:` behind it
abbrev is_read : ℕ → ℕ → List ℕ → Bool
is_read first n end = is_value (of_pair first (pair_digits (decimal n ++ end))) (first + 2 * n)

abbrev are_bytes : ℕ → Bool
are_bytes n = not (length (decimal n) == 0) && nat_lt (length (decimal n)) 3 && list_all is_word_byte (decimal n) && list_all is_plain (decimal n)

abbrev pair_test : ℕ → Bool
pair_test n = is_read 0x200 n (codes ":") && is_read 0x200 n [] && is_read 0x201 n (codes ":") && are_bytes n

pub record IsPairName (n : ℕ) : Type 0 where
  pub base : (valid : Bool) → of_pair 0x200 (pair_digits (decimal n ++ colon_if valid)) ≡ Some (0x200 + 2 * n)
  pub mask : of_pair 0x201 (pair_digits (decimal n ++ codes ":")) ≡ Some (0x201 + 2 * n)
  pub short : length (decimal n) < 3
  pub words : list_all is_word_byte (decimal n) ≡ true
  pub plain : list_all is_plain (decimal n) ≡ true

pair_name : (n : ℕ) → n < 32 → IsPairName n
unfolding digits
pair_name n few =
    let all = passes pair_test 32 n refl few in
    let one = and_parts (is_read 0x200 n (codes ":") && is_read 0x200 n [] && is_read 0x201 n (codes ":")) (are_bytes n) all in
    let two = and_parts (is_read 0x200 n (codes ":") && is_read 0x200 n []) (is_read 0x201 n (codes ":")) one.0 in
    let three = and_parts (is_read 0x200 n (codes ":")) (is_read 0x200 n []) two.0 in
    let four = and_parts (not (length (decimal n) == 0) && nat_lt (length (decimal n)) 3 && list_all is_word_byte (decimal n)) (list_all is_plain (decimal n)) one.1 in
    let five = and_parts (not (length (decimal n) == 0) && nat_lt (length (decimal n)) 3) (list_all is_word_byte (decimal n)) four.0 in
    let six = and_parts (not (length (decimal n) == 0)) (nat_lt (length (decimal n)) 3) five.0 in
    record {
      base = by three.0 three.1;
      mask = some_value (of_pair 0x201 (pair_digits (decimal n ++ codes ":"))) (0x201 + 2 * n) two.1;
      short = less (length (decimal n)) six.1;
      words = five.1;
      plain = four.1;
    }
  where
    by : is_read 0x200 n (codes ":") ≡ true → is_read 0x200 n [] ≡ true → (valid : Bool) → of_pair 0x200 (pair_digits (decimal n ++ colon_if valid)) ≡ Some (0x200 + 2 * n)
    by with_colon without true = some_value (of_pair 0x200 (pair_digits (decimal n ++ codes ":"))) (0x200 + 2 * n) with_colon
    by with_colon without false = some_value (of_pair 0x200 (pair_digits (decimal n ++ []))) (0x200 + 2 * n) without

    less : (size : ℕ) → nat_lt size 3 ≡ true → size < 3
    less size is = grind (arith, nat_tests, is)

pub record IsNamed (key : Key) (name : List ℕ) : Type 0 where
  pub read : register_named name ≡ Some (number_at key)
  pub word : IsWord name
  pub short : length name ≤ 22

fixed_named : (file : RegisterFile) (place : ℕ) → place < 11 → IsNamed (Some (FixedRange place)) (name_of file (Some (FixedRange place)))
fixed_named file zero few = record { read = refl; word = (lit≤ tt, refl, refl); short = lit≤ tt }
fixed_named file (suc zero) few = record { read = refl; word = (lit≤ tt, refl, refl); short = lit≤ tt }
fixed_named file (suc (suc zero)) few = record { read = refl; word = (lit≤ tt, refl, refl); short = lit≤ tt }
fixed_named file (suc (suc (suc zero))) few = record { read = refl; word = (lit≤ tt, refl, refl); short = lit≤ tt }
fixed_named file (suc (suc (suc (suc zero)))) few = record { read = refl; word = (lit≤ tt, refl, refl); short = lit≤ tt }
fixed_named file (suc (suc (suc (suc (suc zero))))) few = record { read = refl; word = (lit≤ tt, refl, refl); short = lit≤ tt }
fixed_named file (suc (suc (suc (suc (suc (suc zero)))))) few = record { read = refl; word = (lit≤ tt, refl, refl); short = lit≤ tt }
fixed_named file (suc (suc (suc (suc (suc (suc (suc zero))))))) few = record { read = refl; word = (lit≤ tt, refl, refl); short = lit≤ tt }
fixed_named file (suc (suc (suc (suc (suc (suc (suc (suc zero)))))))) few = record { read = refl; word = (lit≤ tt, refl, refl); short = lit≤ tt }
fixed_named file (suc (suc (suc (suc (suc (suc (suc (suc (suc zero))))))))) few = record { read = refl; word = (lit≤ tt, refl, refl); short = lit≤ tt }
fixed_named file (suc (suc (suc (suc (suc (suc (suc (suc (suc (suc zero)))))))))) few = record { read = refl; word = (lit≤ tt, refl, refl); short = lit≤ tt }
fixed_named file (suc (suc (suc (suc (suc (suc (suc (suc (suc (suc (suc n))))))))))) few = absurd (omega (arith, few))

-- all registers but the PAT
abbrev pub is_displayed : Key → Bool
is_displayed None = true
is_displayed (Some (PhysBase n)) = true
is_displayed (Some (PhysMask n)) = true
is_displayed (Some (FixedRange place)) = true
is_displayed (Some Pat) = false
is_displayed (Some DefaultType) = true

end_word : (valid : Bool) → (list_all is_word_byte (colon_if valid) ≡ true) × (list_all is_plain (colon_if valid) ≡ true) × (length (colon_if valid) ≤ 1)
end_word true = (refl, refl, lit≤ tt)
end_word false = (refl, refl, lit≤ tt)

pair_word : (head : List ℕ) (n : ℕ) (valid : Bool) → IsWord head → length head ≡ 7 → IsPairName n → IsWord (head ++ (decimal n ++ colon_if valid)) × (length (head ++ (decimal n ++ colon_if valid)) ≤ 22)
pair_word head n valid is seven named =
    let end = end_word valid in
    let one = length-append head (decimal n ++ colon_if valid) in
    let two = length-append (decimal n) (colon_if valid) in
    let bytes = word_append head (decimal n ++ colon_if valid) is (all_append is_word_byte (decimal n) (colon_if valid) named.words end.0) (all_append is_plain (decimal n) (colon_if valid) named.plain end.1) in
    (bytes, omega (arith, one, two, seven, named.short, end.2))

pub named : (file : RegisterFile) (key : Key) → IsKey key → is_displayed key ≡ true → IsNamed key (name_of file key)
named file None is shown = record { read = refl; word = (lit≤ tt, refl, refl); short = lit≤ tt }
named file (Some (PhysBase n)) is shown =
    let pair = pair_name n is in
    let valid : Bool = is_bit_set (pair_at file.pairs n).1 11 in
    let word = pair_word (codes "PHYBASE") n valid (lit≤ tt, refl, refl) refl pair in
    record { read = pair.base valid; word = word.0; short = word.1 }
named file (Some (PhysMask n)) is shown =
    let pair = pair_name n is in
    let word = pair_word (codes "PHYMASK") n true (lit≤ tt, refl, refl) refl pair in
    record { read = pair.mask; word = word.0; short = word.1 }
named file (Some (FixedRange place)) is shown = fixed_named file place is.0
named file (Some Pat) is shown = cc shown
named file (Some DefaultType) is shown = record { read = refl; word = (lit≤ tt, refl, refl); short = lit≤ tt }

-- ---- the line

tail_byte : (byte : ℕ) → is_tail_byte byte ≡ true → is_plain byte ≡ true
tail_byte byte is = grind (arith, nat_tests)

tail_plain : (tail : List ℕ) → list_all is_tail_byte tail ≡ true → list_all is_plain tail ≡ true
tail_plain [] all = refl
tail_plain (byte ∷ tail) all =
    let parts = and_parts (is_tail_byte byte) (list_all is_tail_byte tail) all in
    rw (tail_byte byte parts.0) (tail_plain tail parts.1)

module _ (key : Key) (value : ℕ) (name tail : List ℕ) (named : IsNamed key name) (few : length tail ≤ 200) (ends : goes_on tail ≡ false) (all : list_all is_tail_byte tail ≡ true) where
  abbrev pieces : Bool → List (ℕ × List ℕ)
  pieces true = (0, codes "[DEBUG]") ∷ (2, number_word value) ∷ (1, name) ∷ []
  pieces false = (0, number_word value) ∷ (1, name) ∷ []

  number_is_word : IsWord (number_word value)
  number_is_word =
      let digits = value_word value in
      let closed = word_append (value_text value) (codes ":") digits refl refl in
      word_append (codes "0x") (value_text value ++ codes ":") (lit≤ tt, refl, refl) closed.1 closed.2

  are_words : (leveled : Bool) → AreWords (pieces leveled)
  are_words true = ((lit≤ tt, refl, refl), (number_is_word, (named.word, tt)))
  are_words false = (number_is_word, (named.word, tt))

  pub line_plain : (leveled : Bool) → list_all is_plain (display_line leveled value name tail) ≡ true
  line_plain true = pieces_plain (pieces true) tail (are_words true) (tail_plain tail all)
  line_plain false = pieces_plain (pieces false) tail (are_words false) (tail_plain tail all)

  words : (leveled : Bool) → words_of (display_line leveled value name tail) ≡ placed 0 (pieces leveled) tail
  words true = words_of_pieces (0, codes "[DEBUG]") ((2, number_word value) ∷ (1, name) ∷ []) tail (are_words true) refl ends (tail_plain tail all)
  words false = words_of_pieces (0, number_word value) ((1, name) ∷ []) tail (are_words false) refl ends (tail_plain tail all)

  within : (n : ℕ) → n ≤ 300 → nat_lt 4096 n ≡ false
  within n le = grind (arith, nat_tests, le)

  short : (leveled : Bool) → nat_lt 4096 (length (display_line leveled value name tail)) ≡ false
  short true =
      let size = length_of_pieces (pieces true) tail in
      let one = long value in
      let two = length-append (value_text value) (codes ":") in
      within (length (display_line true value name tail)) (omega (arith, size, one, two, named.short, few))
  short false =
      let size = length_of_pieces (pieces false) tail in
      let one = long value in
      let two = length-append (value_text value) (codes ":") in
      within (length (display_line false value name tail)) (omega (arith, size, one, two, named.short, few))

  pub place : Bool → ℕ → Place
  place true number = place_of number (placed 0 (pieces true) tail) 1
  place false number = place_of number (placed 0 (pieces false) tail) 0

  said : (leveled : Bool) (number : ℕ) → value < 2 ^ 64 → coreboot_said number (display_line leveled value name tail) ≡ shows_one None (Some (number_at key)) (Some value) (place leveled number)
  unfolding place
  said true number fits =
      ap (λ ws. said_from (level_words ws) number ws) (words true)
      ∙ ap (λ r. shows_one None r (colon_number (number_word value)) (place true number)) named.read
      ∙ ap (λ v. shows_one None (Some (number_at key)) v (place true number)) (number_read value fits)
  said false number fits =
      ap (λ ws. said_from (level_words ws) number ws) (words false)
      ∙ ap (λ r. shows_one None r (colon_number (number_word value)) (place false number)) named.read
      ∙ ap (λ v. shows_one None (Some (number_at key)) v (place false number)) (number_read value fits)

  -- it has no byte-order mark
  marked_not : (leveled : Bool) → unmarked (display_line leveled value name tail) ≡ display_line leveled value name tail
  marked_not true = refl
  marked_not false = no_mark 48 (drop 1 (display_line false value name tail)) refl

  pub register_said : (leveled : Bool) (number : ℕ) → value < 2 ^ 64 → said_of Coreboot number (display_line leveled value name tail) ≡ shows_one None (Some (number_at key)) (Some value) (place leveled number)
  register_said leveled number fits =
      rw (short leveled) (ap (λ l. said_or_sizes (coreboot_said number l) number l) (marked_not leveled) ∙ ap (λ s. said_or_sizes s number (display_line leveled value name tail)) (said leveled number fits))

-- ---- the line of 0FEH tells the format

no_dash : (byte : ℕ) → is_hex_digit byte ≡ true → nat_eq byte 45 ≡ false
no_dash byte digit = grind (arith, nat_tests)

third_digit : (digits : List ℕ) → 3 ≤ length digits → list_all is_hex_digit digits ≡ true → is_text (codes "-") (take 1 (drop 2 (digits ++ codes ":"))) ≡ false
third_digit [] long_enough all = absurd (omega (arith, long_enough))
third_digit (a ∷ []) long_enough all = absurd (omega (arith, long_enough))
third_digit (a ∷ b ∷ []) long_enough all = absurd (omega (arith, long_enough))
third_digit (a ∷ b ∷ c ∷ digits) long_enough all =
    let later = and_parts (is_hex_digit b) (list_all is_hex_digit (c ∷ digits)) (and_parts (is_hex_digit a) (list_all is_hex_digit (b ∷ c ∷ digits)) all).1 in
    rw (no_dash c (and_parts (is_hex_digit c) (list_all is_hex_digit digits) later.1).0) refl

-- a value is no date
no_date : (value : ℕ) → is_iso (number_word value) ≡ false
no_date value =
    let size = long value in
    and_left _ _ (third_digit (value_text value) (omega (arith, size)) (sixteen_all lower_digits IsDigits-lower_digits value))

module _ (value : ℕ) (tail : List ℕ) (few : length tail ≤ 200) (ends : goes_on tail ≡ false) (all : list_all is_tail_byte tail ≡ true) where
  abbrev first_name : List ℕ
  first_name = codes "IA32_MTRRCAP:"

  abbrev line : Bool → List ℕ
  line leveled = display_line leveled value first_name tail

  first_named : IsNamed None first_name
  first_named = record { read = refl; word = (lit≤ tt, refl, refl); short = lit≤ tt }

  abbrev found_words : Bool → List (ℕ × List ℕ)
  found_words true = placed 0 ((0, codes "[DEBUG]") ∷ (2, number_word value) ∷ (1, first_name) ∷ []) tail
  found_words false = placed 0 ((0, number_word value) ∷ (1, first_name) ∷ []) tail

  found : (leveled : Bool) → words_of (line leveled) ≡ found_words leveled
  found true = words None value first_name tail first_named few ends all true
  found false = words None value first_name tail first_named few ends all false

  not_eleven : (length (number_word value) == 11) ≡ false
  not_eleven =
      let one = long value in
      let two = length-append (value_text value) (codes ":") in
      let size : length (number_word value) ≡ 19 = omega (arith, one, two) in
      ap (λ n. n == 11) size

  -- its words from the value on, of which the first is at this byte
  abbrev own_words : ℕ → List (ℕ × List ℕ)
  own_words at = (at, number_word value) ∷ (at + length (number_word value) + 1, first_name) ∷ words_from (at + length (number_word value) + 1 + length first_name) tail

  not_linux : (number at : ℕ) → linux_words_said number (own_words at) ≡ Nothing
  not_linux number at =
      let ws : List (ℕ × List ℕ) = own_words at in
      linux_none number ws refl refl refl refl refl
      (kernel_none number ws false (if_nothing _ _ _ refl refl) refl (inr (if_off _ _ _ (and_left _ _ not_eleven) refl)) refl)

  no_linux : (leveled : Bool) (number : ℕ) → IsOfNoHost (line leveled) → tells Linux number (line leveled) ≡ false
  no_linux leveled number host =
      let third = ap (λ ws. is_text (codes "kernel:") (text_of ws 2)) (sym (found leveled)) ∙ host.third in
      let fifth = ap (λ ws. is_text (codes "kernel:") (text_of ws 4)) (sym (found leveled)) ∙ host.fifth in
      linux_by number (line leveled) (marked_not None value first_name tail first_named few ends all leveled) (found_words leveled) (found leveled)
      ∙ ap (λ at. is_telling (linux_words_said number (drop (behind_stamp at (found_words leveled)) (found_words leveled)))) (log_front (found_words leveled) third fifth)
      ∙ by leveled
    where
      by : (leveled_too : Bool)
          → is_telling (linux_words_said number (drop (behind_stamp (if is_iso (text_of (found_words leveled_too) 0) then 1 else behind_facility (found_words leveled_too)) (found_words leveled_too)) (found_words leveled_too))) ≡ false
      by true = ap is_telling (not_linux number 9)
      by false =
          ap (λ date. is_telling (linux_words_said number (drop (behind_stamp (if date then 1 else behind_facility (found_words false)) (found_words false)) (found_words false)))) (no_date value)
          ∙ ap is_telling (not_linux number 0)

  no_xen : (leveled : Bool) (number : ℕ) → tells Xen number (line leveled) ≡ false
  no_xen true number = xen_by number (line true) refl (found_words true) (found true)
  no_xen false number = xen_by number (line false) (marked_not None value first_name tail first_named few ends all false) (found_words false) (found false)

  own : (leveled : Bool) (number : ℕ) → value < 2 ^ 64 → tells Coreboot number (line leveled) ≡ true
  unfolding tells
  own leveled number fits =
      ap (λ l. is_telling (coreboot_said number l)) (marked_not None value first_name tail first_named few ends all leveled) ∙ ap is_telling (said None value first_name tail first_named few ends all leveled number fits)

  pub told : (leveled : Bool) (number : ℕ) → value < 2 ^ 64 → IsOfNoHost (line leveled) → format_told number (line leveled) ≡ Some Coreboot
  told leveled number fits host = rw (short None value first_name tail first_named few ends all leveled, no_xen leveled number, no_linux leveled number host, own leveled number fits) refl
