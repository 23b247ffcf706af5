-- A line of the listing is read as the range that it tells of.
use Rattle.std.proofs.Common.{◌≡◌, ◌∙◌, ℕ, zero, suc, ◌+◌, ◌-◌, ◌*◌, ◌%◌, ◌/◌, ◌^◌, ◌<◌, ◌≤◌, ◌==◌, nat_lt, Bool, true, false, not, List, [], ◌∷◌, ◌++◌, length, Option, Some, Result, Ok, refl, sym, ap, subst, arith, append_assoc, length-append}
use Rattle.std.specs.Prelude.{◌&&◌, codes, if◌then◌else◌}
use Rattle.std.specs.List.{list_all, position_or_len}
use Rattle.std.specs.Fmt.{decimal}
use Rattle.std.proofs.lemmas.Fmt.{decimal_by_steps, length-decimal-le}
use Rattle.std.proofs.lemmas.Bool.{and_parts}
use Rattle.std.proofs.lemmas.Bool.Decides.{nat_tests}
use Rattle.std.proofs.Math.Seq.{take-append_seam}
use Rattle.hex.specs.Hex.{is_hex_digit}
use Rattle.mt_text.specs.Text.{content, is_blank, is_comment_start, is_word_byte, lengthened, lines_of, without_ending, words_from, words_of}
use Rattle.mt_text.specs.Number.{hex_number, hex_number_of_digits, hex_value}
use Rattle.mt_text.proofs.Plain.{digits_plain, digits_word, hex_number-digits, is_plain, no_comment}
use Rattle.mt_kinds.specs.declared.mem_type.MemType.{MemType}
use Rattle.mt_kinds.specs.declared.mem_type.MemType.TheVariants.{UC, WC, WT, WP, WB}
use Rattle.mt_dump.specs.Canon.{value_text}
use Rattle.mt_dump.proofs.Canonical.{all_append, value_digits, value_length, value_read}
use Rattle.mt_proc.specs.declared.request.Request.{Request}
use Rattle.mt_proc.specs.declared.request.Request.TheVariants.{Range}
use Rattle.mt_proc.specs.Requests.{asked_by, name_of, request_of, type_named}
use Rattle.mt_proc.specs.declared.request.ProcFault.{ProcFault}
use Rattle.mt_ranges.specs.Match.{is_valid}
use Rattle.mt_proc.specs.Listing.{all_asked, base_of, hex_text, lines_from, range_in, range_text, ranges_in, requests_from, size_of}
use Rattle.mt_ranges.specs.Match.{page_field, range_log, run_log_from}
use Rattle.mt_ranges.proofs.Powers.{pow_below}
use Rattle.mt_regs.specs.PageTypes.{pair_type}
use Rattle.std.proofs.Math.Nat.{div-add-mod, mod-lt, mul_comm}
use Rattle.std.proofs.lemmas.Nat.{pow_pos}
use Rattle.mt_proc.proofs.Digits.{AreSignificant, are_significant}

-- ---- digits

digits_number : (digits : List ℕ) → 1 ≤ length digits → length digits ≤ 16 → list_all is_hex_digit digits ≡ true → hex_number_of_digits digits ≡ Ok (hex_value digits)
digits_number digits some few all =
    let there : (length digits == 0) ≡ false = grind (arith, nat_tests, some) in
    let short : nat_lt 16 (length digits) ≡ false = grind (arith, nat_tests, few) in
    rw (there, all, short) refl

-- digits of the value, without leading zeros
record HasHex (value : ℕ) : Type 0 where
  few : length (hex_text value) ≤ 16
  digits : list_all is_hex_digit (hex_text value) ≡ true
  read : hex_number (48 ∷ 120 ∷ hex_text value) ≡ Ok value

has_hex : (value : ℕ) → value < 2 ^ 64 → HasHex value
has_hex value small =
    let size = value_length value in
    let all = value_digits value in
    let is : AreSignificant (value_text value) = are_significant (value_text value) (omega arith) all in
    record {
      few = omega (arith, is.few, size);
      digits = is.all;
      read =
          digits_number (hex_text value) is.some (omega (arith, is.few, size)) is.all ∙ ap Ok is.value
          ∙ sym (hex_number-digits (value_text value) (omega arith) (omega arith) all) ∙ value_read value small;
    }

decimal_plain : (n : ℕ) → n < 2 ^ 64 → list_all is_plain (decimal n) ≡ true
decimal_plain n small = decimal_by_steps (λ m ds. list_all is_plain ds ≡ true) one more n small
  where
    digit : (d : ℕ) → d < 10 → is_plain (48 + d) ≡ true
    digit d below = grind (arith, nat_tests, below)

    one : (m : ℕ) → m < 10 → list_all is_plain ((48 + m) ∷ []) ≡ true
    one m below = rw (digit m below) refl

    more : (m : ℕ) (ds : List ℕ) → 10 ≤ m → list_all is_plain ds ≡ true → list_all is_plain (ds ++ ((48 + m % 10) ∷ [])) ≡ true
    more m ds above all = all_append is_plain ds ((48 + m % 10) ∷ []) all (rw (digit (m % 10) (omega arith)) refl)

-- ---- words with one blank behind each

-- a byte that doesn't end a line: neither LF nor CR
abbrev is_inner : ℕ → Bool
is_inner byte = not (byte == 10) && not (byte == 13)

inner_ending : (line : List ℕ) → list_all is_inner line ≡ true → without_ending 13 line ≡ line
inner_ending [] all = refl
inner_ending (byte ∷ []) all = rw (other byte (and_parts (is_inner byte) true all).0) refl
  where
    other : (b : ℕ) → is_inner b ≡ true → (b == 13) ≡ false
    other b is = grind (arith, nat_tests)
inner_ending (byte ∷ next ∷ bytes) all = ap (λ l. byte ∷ l) (inner_ending (next ∷ bytes) (and_parts (is_inner byte) (list_all is_inner (next ∷ bytes)) all).1)

inner_lines : (line rest : List ℕ) → list_all is_inner line ≡ true → lines_of (line ++ 10 ∷ rest) ≡ line ∷ lines_of rest
inner_lines [] rest all = refl
inner_lines (byte ∷ bytes) rest all =
    let parts = and_parts (is_inner byte) (list_all is_inner bytes) all in
    rw (other byte parts.0, inner_lines bytes rest parts.1) refl
  where
    other : (b : ℕ) → is_inner b ≡ true → (b == 10) ≡ false
    other b is = grind (arith, nat_tests)

plain_inner : (bytes : List ℕ) → list_all is_plain bytes ≡ true → list_all is_inner bytes ≡ true
plain_inner [] all = refl
plain_inner (byte ∷ bytes) all =
    let parts = and_parts (is_plain byte) (list_all is_plain bytes) all in
    rw (inner byte parts.0, plain_inner bytes parts.1) refl
  where
    inner : (b : ℕ) → is_plain b ≡ true → is_inner b ≡ true
    inner b is = grind (arith, nat_tests)

comment_place : (front rest : List ℕ) → list_all is_plain front ≡ true → position_or_len is_comment_start (front ++ 35 ∷ rest) ≡ length front
comment_place [] rest all = refl
comment_place (byte ∷ bytes) rest all =
    let parts = and_parts (is_plain byte) (list_all is_plain bytes) all in
    rw (no_comment byte parts.0, comment_place bytes rest parts.1) (omega arith)

-- the words of a line stand before its comment
content_before : (front rest : List ℕ) → list_all is_plain front ≡ true → list_all is_inner rest ≡ true → content (front ++ 35 ∷ rest) ≡ front
content_before front rest plain inner =
    let whole : list_all is_inner (front ++ 35 ∷ rest) ≡ true = all_append is_inner front (35 ∷ rest) (plain_inner front plain) inner in
    rw (inner_ending (front ++ 35 ∷ rest) whole, comment_place front rest plain) (take-append_seam front (35 ∷ rest))

pub word_then : (offset : ℕ) (word rest : List ℕ) → 1 ≤ length word → list_all is_word_byte word ≡ true
    → words_from offset (word ++ 32 ∷ rest) ≡ (offset, word) ∷ words_from (offset + length word + 1) rest
word_then offset [] rest some all = absurd (omega arith)
word_then offset (byte ∷ []) rest some all =
    let next : offset + 1 + 1 ≡ offset + length (byte ∷ []) + 1 = omega arith in
    rw (not_blank byte (and_parts (is_word_byte byte) true all).0) (ap (λ n. let word : ℕ × List ℕ = (offset, byte ∷ []) in word ∷ words_from n rest) next)
  where
    not_blank : (b : ℕ) → is_word_byte b ≡ true → is_blank b ≡ false
    not_blank b is = grind (arith, nat_tests)
word_then offset (byte ∷ next ∷ bytes) rest some all =
    let parts = and_parts (is_word_byte byte) (list_all is_word_byte (next ∷ bytes)) all in
    let more = and_parts (is_word_byte next) (list_all is_word_byte bytes) parts.1 in
    let later = word_then (offset + 1) (next ∷ bytes) rest (omega arith) parts.1 in
    let count : offset + 1 + length (next ∷ bytes) + 1 ≡ offset + length (byte ∷ next ∷ bytes) + 1 = omega arith in
    rw (not_blank byte parts.0, more.0) (ap (lengthened offset byte) later ∙ ap (λ n. let word : ℕ × List ℕ = (offset, byte ∷ next ∷ bytes) in word ∷ words_from n rest) count)
  where
    not_blank : (b : ℕ) → is_word_byte b ≡ true → is_blank b ≡ false
    not_blank b is = grind (arith, nat_tests)

-- ---- one line

name_word : (kind : MemType) → list_all is_word_byte (name_of kind) ≡ true
name_word UC = refl
name_word WC = refl
name_word WT = refl
name_word WP = refl
name_word WB = refl

name_plain : (kind : MemType) → list_all is_plain (name_of kind) ≡ true
name_plain UC = refl
name_plain WC = refl
name_plain WT = refl
name_plain WP = refl
name_plain WB = refl

name_short : (kind : MemType) → length (name_of kind) ≤ 15
name_short UC = omega arith
name_short WC = omega arith
name_short WT = omega arith
name_short WP = omega arith
name_short WB = omega arith

named : (kind : MemType) → type_named (name_of kind) ≡ Some kind
named UC = refl
named WC = refl
named WT = refl
named WP = refl
named WB = refl

line_shape : (a h b k c w e : List ℕ)
    → ((((((a ++ h) ++ (32 ∷ b)) ++ k) ++ (32 ∷ c)) ++ w) ++ (32 ∷ 35 ∷ 32 ∷ [])) ++ e ≡ ((a ++ h) ++ 32 ∷ ((b ++ k) ++ 32 ∷ ((c ++ w) ++ 32 ∷ []))) ++ 35 ∷ (32 ∷ e)
line_shape a h b k c w e = simp append_assoc (ap (λ (l : List ℕ). a ++ (h ++ 32 ∷ l)) inner)
  where
    inner : (b ++ (k ++ 32 ∷ (c ++ w))) ++ 32 ∷ 35 ∷ 32 ∷ e ≡ b ++ (k ++ 32 ∷ (c ++ (w ++ 32 ∷ 35 ∷ 32 ∷ e)))
    inner =
        append_assoc b (k ++ 32 ∷ (c ++ w)) (32 ∷ 35 ∷ 32 ∷ e)
        ∙ ap (λ (l : List ℕ). b ++ l) (append_assoc k (32 ∷ (c ++ w)) (32 ∷ 35 ∷ 32 ∷ e) ∙ ap (λ (l : List ℕ). k ++ 32 ∷ l) (append_assoc c w (32 ∷ 35 ∷ 32 ∷ e)))

module _ (base size n : ℕ) (kind : MemType) (base_small : base < 2 ^ 64) (size_small : size < 2 ^ 64) (n_small : n < 2 ^ 64) where
  abbrev first : List ℕ
  first = codes "base=0x" ++ hex_text base

  abbrev second : List ℕ
  second = codes "size=0x" ++ hex_text size

  abbrev third : List ℕ
  third = codes "type=" ++ name_of kind

  abbrev front : List ℕ
  front = first ++ 32 ∷ (second ++ 32 ∷ (third ++ 32 ∷ []))

  abbrev rest : List ℕ
  rest = 32 ∷ decimal n

  line_is : range_text base size kind n ≡ front ++ 35 ∷ rest
  line_is = line_shape (codes "base=0x") (hex_text base) (codes "size=0x") (hex_text size) (codes "type=") (name_of kind) (decimal n)

  first_digits : HasHex base
  first_digits = has_hex base base_small

  second_digits : HasHex size
  second_digits = has_hex size size_small

  front_plain : list_all is_plain front ≡ true
  front_plain =
      let third_plain = all_append is_plain third (32 ∷ []) (all_append is_plain (codes "type=") (name_of kind) refl (name_plain kind)) refl in
      let second_plain = all_append is_plain second (32 ∷ (third ++ 32 ∷ [])) (all_append is_plain (codes "size=0x") (hex_text size) refl (digits_plain (hex_text size) second_digits.digits)) third_plain in
      all_append is_plain first (32 ∷ (second ++ 32 ∷ (third ++ 32 ∷ []))) (all_append is_plain (codes "base=0x") (hex_text base) refl (digits_plain (hex_text base) first_digits.digits)) second_plain

  rest_inner : list_all is_inner rest ≡ true
  rest_inner = plain_inner (decimal n) (decimal_plain n n_small)

  pub line_inner : list_all is_inner (range_text base size kind n) ≡ true
  line_inner = subst (λ (l : List ℕ). list_all is_inner l ≡ true) (sym line_is) (all_append is_inner front (35 ∷ rest) (plain_inner front front_plain) rest_inner)

  -- where the second and the third word begin
  abbrev second_at : ℕ
  second_at = 0 + length first + 1

  abbrev third_at : ℕ
  third_at = second_at + length second + 1

  abbrev words : List (ℕ × List ℕ)
  words = (0, first) ∷ (second_at, second) ∷ (third_at, third) ∷ []

  words_are : words_of (range_text base size kind n) ≡ words
  words_are =
      let one = word_then 0 first (second ++ 32 ∷ (third ++ 32 ∷ [])) (omega arith) (all_append is_word_byte (codes "base=0x") (hex_text base) refl (digits_word (hex_text base) first_digits.digits)) in
      let two = word_then second_at second (third ++ 32 ∷ []) (omega arith) (all_append is_word_byte (codes "size=0x") (hex_text size) refl (digits_word (hex_text size) second_digits.digits)) in
      let three = word_then third_at third [] (omega arith) (all_append is_word_byte (codes "type=") (name_of kind) refl (name_word kind)) in
      ap words_of line_is ∙ ap (words_from 0) (content_before front rest front_plain rest_inner) ∙ one
      ∙ ap (λ ws. let word : ℕ × List ℕ = (0, first) in word ∷ ws) (two ∙ ap (λ ws. let word : ℕ × List ℕ = (second_at, second) in word ∷ ws) three)

  line_short : nat_lt 4096 (length (range_text base size kind n)) ≡ false
  line_short =
      let whole : length (range_text base size kind n) ≡ length (front ++ 35 ∷ rest) = ap length line_is in
      let joined = length-append front (35 ∷ rest) in
      let a = length-append first (32 ∷ (second ++ 32 ∷ (third ++ 32 ∷ []))) in
      let b = length-append second (32 ∷ (third ++ 32 ∷ [])) in
      let c = length-append third (32 ∷ []) in
      let digits = length-decimal-le 20 n (omega arith) (omega (arith, n_small)) n_small in
      let few : length (range_text base size kind n) ≤ 4096 = omega (arith, whole, joined, a, b, c, digits, first_digits.few, second_digits.few, name_short kind) in
      grind (arith, nat_tests, few)

  words_asked : (number : ℕ) → asked_by number words ≡ Ok (Some (Range base size kind))
  words_asked number = rw (first_digits.read, second_digits.read, named kind) refl

  pub line_asked : (number : ℕ) → request_of number (range_text base size kind n) ≡ Ok (Some (Range base size kind))
  line_asked number = rw line_short (ap (asked_by number) words_are ∙ words_asked number)

-- ---- all lines

log_bound : (count x k : ℕ) → run_log_from count x k ≤ k
log_bound count x zero = omega arith
log_bound count x (suc k) = by (x == 2 ^ count - 2 ^ suc k) (log_bound count x k)
  where
    by : (here : Bool) → run_log_from count x k ≤ k → (if here then suc k else run_log_from count x k) ≤ suc k
    by true less = omega arith
    by false less = omega arith

module _ (m : ℕ) (pair : ℕ × ℕ) (narrow : m ≤ 52) where
  size_bound : size_of m pair < 2 ^ 64
  size_bound =
      let log = log_bound (m - 12) (page_field m pair.1) (m - 12) in
      let most = pow_below (range_log m pair) 40 (omega arith) in
      omega (arith, most)

  base_bound : base_of m pair < 2 ^ 64
  base_bound =
      let field : page_field m pair.0 < 2 ^ (m - 12) = mod-lt (pair.0 / 2 ^ 12) {m = 2 ^ (m - 12)} (pow_pos (m - 12)) in
      let most = pow_below (m - 12) 40 (omega arith) in
      let whole = div-add-mod (page_field m pair.0) (2 ^ range_log m pair) in
      let part : page_field m pair.0 / 2 ^ range_log m pair * 2 ^ range_log m pair ≡ 2 ^ range_log m pair * (page_field m pair.0 / 2 ^ range_log m pair) = mul_comm (page_field m pair.0 / 2 ^ range_log m pair) (2 ^ range_log m pair) in
      omega (arith, field, most, whole, part)

pub lines_asked : (m n number : ℕ) (pairs : List (ℕ × ℕ)) → m ≤ 52 → n + length pairs < 2 ^ 64 → requests_from number (lines_of (lines_from m n pairs)) ≡ all_asked (ranges_in m pairs)
lines_asked m n number [] narrow few = refl
lines_asked m n number (pair ∷ pairs) narrow few = by (λ next. lines_asked m (n + 1) next pairs narrow (omega arith)) (is_valid pair) refl
  where
    by : ((next : ℕ) → requests_from next (lines_of (lines_from m (n + 1) pairs)) ≡ all_asked (ranges_in m pairs)) → (valid : Bool) → is_valid pair ≡ valid
        → requests_from number (lines_of ((if valid then range_text (base_of m pair) (size_of m pair) (pair_type pair) n ++ 10 ∷ [] else []) ++ lines_from m (n + 1) pairs))
        ≡ all_asked (if valid then range_in m pair ∷ ranges_in m pairs else ranges_in m pairs)
    by later false is = later number
    by later true is =
        let text : List ℕ = range_text (base_of m pair) (size_of m pair) (pair_type pair) n in
        let small : n < 2 ^ 64 = omega arith in
        let inner = line_inner (base_of m pair) (size_of m pair) n (pair_type pair) (base_bound m pair narrow) (size_bound m pair narrow) small in
        let asked = line_asked (base_of m pair) (size_of m pair) n (pair_type pair) (base_bound m pair narrow) (size_bound m pair narrow) small number in
        ap (λ l. requests_from number (lines_of l)) (append_assoc text (10 ∷ []) (lines_from m (n + 1) pairs))
        ∙ ap (requests_from number) (inner_lines text (lines_from m (n + 1) pairs) inner)
        ∙ ap (λ a. a ∷ requests_from (number + 1) (lines_of (lines_from m (n + 1) pairs))) asked
        ∙ ap (λ rs. let first : Result (Option Request) ProcFault = Ok (Some (range_in m pair)) in first ∷ rs) (later (number + 1))
