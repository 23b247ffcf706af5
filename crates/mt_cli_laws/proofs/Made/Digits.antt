-- Numbers as the generator writes them are read back.
use Rattle.std.proofs.Common.{◌≡◌, ◌∙◌, ap, sym, refl, inl, inr, arith, ℕ, zero, suc, ◌+◌, ◌*◌, ◌/◌, ◌%◌, ◌^◌, ◌≤◌, ◌<◌, ◌==◌, nat_lt, true, false, List, [], ◌∷◌, ◌++◌, decimal, length, append_assoc, append-nil, length-append, unwrap_or, Ok, Some}
use Rattle.std.proofs.Math.Nat.{pow-suc}
use Rattle.std.specs.Fmt.{digit_glyph, digits, digits_onto}
use Rattle.std.specs.List.{list_all}
use Rattle.std.proofs.lemmas.Bool.{and_parts, cases_Bool}
use Rattle.std.proofs.lemmas.Bool.Decides.{nat_tests}
use Rattle.std.proofs.lemmas.List.Sums.{fold-append}
use Rattle.hex.specs.Hex.{hex_digit_value, is_hex_digit}
use Rattle.mt_text.specs.Text.{is_word_byte}
use Rattle.mt_text.specs.Number.{decimal_number, hex_number, hex_value}
use Rattle.mt_text.proofs.Plain.{digits_plain, digits_word, hex_number-digits, is_plain}
use Rattle.mt_answers.specs.Generator.{hexadecimal}

-- ---- words

-- some plain bytes of a word, of which there are at most twenty
pub record IsWord (word : List ℕ) : Type 0 where
  pub some : 1 ≤ length word
  pub few : length word ≤ 20
  pub all : list_all is_word_byte word ≡ true
  pub plain : list_all is_plain word ≡ true

-- ---- hexadecimal numbers

glyph_value : (digit : ℕ) → digit < 16 → hex_digit_value (digit_glyph false digit) ≡ Some digit
glyph_value zero low = refl
glyph_value (suc zero) low = refl
glyph_value (suc (suc zero)) low = refl
glyph_value (suc (suc (suc zero))) low = refl
glyph_value (suc (suc (suc (suc zero)))) low = refl
glyph_value (suc (suc (suc (suc (suc zero))))) low = refl
glyph_value (suc (suc (suc (suc (suc (suc zero)))))) low = refl
glyph_value (suc (suc (suc (suc (suc (suc (suc zero))))))) low = refl
glyph_value (suc (suc (suc (suc (suc (suc (suc (suc zero)))))))) low = refl
glyph_value (suc (suc (suc (suc (suc (suc (suc (suc (suc zero))))))))) low = refl
glyph_value (suc (suc (suc (suc (suc (suc (suc (suc (suc (suc zero)))))))))) low = refl
glyph_value (suc (suc (suc (suc (suc (suc (suc (suc (suc (suc (suc zero))))))))))) low = refl
glyph_value (suc (suc (suc (suc (suc (suc (suc (suc (suc (suc (suc (suc zero)))))))))))) low = refl
glyph_value (suc (suc (suc (suc (suc (suc (suc (suc (suc (suc (suc (suc (suc zero))))))))))))) low = refl
glyph_value (suc (suc (suc (suc (suc (suc (suc (suc (suc (suc (suc (suc (suc (suc zero)))))))))))))) low = refl
glyph_value (suc (suc (suc (suc (suc (suc (suc (suc (suc (suc (suc (suc (suc (suc (suc zero))))))))))))))) low = refl
glyph_value (suc (suc (suc (suc (suc (suc (suc (suc (suc (suc (suc (suc (suc (suc (suc (suc digit)))))))))))))))) low = absurd (omega (arith, low))

-- digits of a number, at most so many
record AreDigits (n most : ℕ) (word : List ℕ) : Type 0 where
  pub some : 1 ≤ length word
  pub few : length word ≤ most
  pub all : list_all is_hex_digit word ≡ true
  pub value : hex_value word ≡ n

all_push : (word : List ℕ) (digit : ℕ) → list_all is_hex_digit word ≡ true → is_hex_digit digit ≡ true → list_all is_hex_digit (word ++ digit ∷ []) ≡ true
all_push [] digit all one = rw one refl
all_push (first ∷ rest) digit all one = let parts = and_parts (is_hex_digit first) (list_all is_hex_digit rest) all in rw parts.0 (all_push rest digit parts.1 one)

digit_step : ℕ → ℕ → ℕ
digit_step value digit = value * 16 + unwrap_or (hex_digit_value digit) 0

value_push : (word : List ℕ) (glyph digit : ℕ) → hex_digit_value glyph ≡ Some digit → hex_value (word ++ glyph ∷ []) ≡ hex_value word * 16 + digit
unfolding digit_step
value_push word glyph digit is = fold-append (λ value d. value * 16 + unwrap_or (hex_digit_value d) 0) 0 word (glyph ∷ []) ∙ rw is refl

last_digit : (n most : ℕ) → n < 16 → 1 ≤ most → AreDigits n most (digit_glyph false (n % 16) ∷ [])
last_digit n most low some =
    let is = glyph_value (n % 16) (omega arith) in
    record {
      some = omega arith;
      few = omega (arith, some);
      all = rw is refl;
      value = let e : 0 * 16 + n % 16 ≡ n = omega (arith, low) in rw is e;
    }

more_digits : (n most : ℕ) (word : List ℕ) → AreDigits (n / 16) most word → AreDigits n (most + 1) (word ++ digit_glyph false (n % 16) ∷ [])
more_digits n most word h =
    let is = glyph_value (n % 16) (omega arith) in
    let one : is_hex_digit (digit_glyph false (n % 16)) ≡ true = rw is refl in
    let size = length-append word (digit_glyph false (n % 16) ∷ []) in
    record {
      some = omega (arith, h.some, size);
      few = omega (arith, h.few, size);
      all = all_push word (digit_glyph false (n % 16)) h.all one;
      value = value_push word (digit_glyph false (n % 16)) (n % 16) is ∙ omega (arith, h.value);
    }

-- the digits that stand in front of others
abbrev InFront : ℕ → ℕ → ℕ → List ℕ → Type 0
InFront turns most n behind = (word : List ℕ) × (digits_onto turns 16 false n behind ≡ word ++ behind) × AreDigits n (most + 1) word

-- one digit, and then those of the sixteenth
in_front_step : (turns most n : ℕ) (behind : List ℕ) → n < 16 ^ (suc most) → 16 ≤ n
    → ((most : ℕ) → n / 16 < 16 ^ (suc most) → most < turns → InFront turns most (n / 16) (digit_glyph false (n % 16) ∷ behind)) → most < suc turns → InFront (suc turns) most n behind
in_front_step turns zero n behind low large later few = absurd (omega (arith, low, large))
in_front_step turns (suc most) n behind low large later few =
    let (word, is, h) = later most (omega (arith, low, pow-suc 16 (suc most))) (omega (arith, few)) in
    let test : (n / 16 == 0) ≡ false = grind (arith, nat_tests, large) in
    let size : most + 1 ≡ suc most = omega arith in (
      word ++ digit_glyph false (n % 16) ∷ [],
      rw test (is ∙ sym (append_assoc word (digit_glyph false (n % 16) ∷ []) behind)),
      more_digits n (suc most) word (rw size at h),
    )

digits_in_front : (turns most n : ℕ) (behind : List ℕ) → n < 16 ^ (suc most) → most < turns → InFront turns most n behind
digits_in_front zero most n behind low few = absurd (omega (arith, few))
digits_in_front (suc turns) most n behind low few = elim (cases_Bool (n / 16 == 0)) [
  | inl last ↦
      let small : n < 16 = grind (arith, nat_tests, last) in
      (digit_glyph false (n % 16) ∷ [], rw last refl, last_digit n (most + 1) small (omega arith))
  | inr more ↦
      let large : 16 ≤ n = grind (arith, nat_tests, more) in
      in_front_step turns most n behind low large (λ m below enough. digits_in_front turns m (n / 16) (digit_glyph false (n % 16) ∷ behind) below enough) few
]

written : (n : ℕ) → n < 2 ^ 64 → AreDigits n 16 (hexadecimal n)
unfolding digits
written n low =
    let (word, is, h) = digits_in_front 64 15 n [] low (omega arith) in
    rw (is ∙ append-nil word) h

pub hexadecimal_word : (n : ℕ) → n < 2 ^ 64 → IsWord (hexadecimal n)
hexadecimal_word n low =
    let h = written n low in
    record { some = h.some; few = omega (arith, h.few); all = digits_word (hexadecimal n) h.all; plain = digits_plain (hexadecimal n) h.all }

pub hexadecimal_read : (n : ℕ) → n < 2 ^ 64 → hex_number (hexadecimal n) ≡ Ok n
hexadecimal_read n low =
    let h = written n low in
    hex_number-digits (hexadecimal n) h.some h.few h.all ∙ ap Ok h.value

-- ---- processors

-- the number of a processor as it is written
pub record IsProcessor (cpu : ℕ) : Type 0 where
  pub read : decimal_number (decimal cpu) 0xffffffffffffffff ≡ Ok cpu
  pub below : nat_lt cpu 16 ≡ true
  pub word : IsWord (decimal cpu)

one_digit : (digit : ℕ) → digit < 10 → IsWord ((48 + digit) ∷ [])
one_digit digit low = record { some = omega arith; few = omega arith; all = rw (plain_digit digit low).0 refl; plain = rw (plain_digit digit low).1 refl }
  where
    plain_digit : (digit : ℕ) → digit < 10 → (is_word_byte (48 + digit) ≡ true) × (is_plain (48 + digit) ≡ true)
    plain_digit digit low = (grind (arith, nat_tests), grind (arith, nat_tests))

two_digits : (digit : ℕ) → digit < 10 → IsWord (49 ∷ (48 + digit) ∷ [])
two_digits digit low = let one = one_digit digit low in record { some = omega arith; few = omega arith; all = one.all; plain = one.plain }

pub processor : (cpu : ℕ) → cpu < 16 → IsProcessor cpu
unfolding digits
processor zero low = record { read = refl; below = refl; word = one_digit 0 (omega arith) }
processor (suc zero) low = record { read = refl; below = refl; word = one_digit 1 (omega arith) }
processor (suc (suc zero)) low = record { read = refl; below = refl; word = one_digit 2 (omega arith) }
processor (suc (suc (suc zero))) low = record { read = refl; below = refl; word = one_digit 3 (omega arith) }
processor (suc (suc (suc (suc zero)))) low = record { read = refl; below = refl; word = one_digit 4 (omega arith) }
processor (suc (suc (suc (suc (suc zero))))) low = record { read = refl; below = refl; word = one_digit 5 (omega arith) }
processor (suc (suc (suc (suc (suc (suc zero)))))) low = record { read = refl; below = refl; word = one_digit 6 (omega arith) }
processor (suc (suc (suc (suc (suc (suc (suc zero))))))) low = record { read = refl; below = refl; word = one_digit 7 (omega arith) }
processor (suc (suc (suc (suc (suc (suc (suc (suc zero)))))))) low = record { read = refl; below = refl; word = one_digit 8 (omega arith) }
processor (suc (suc (suc (suc (suc (suc (suc (suc (suc zero))))))))) low = record { read = refl; below = refl; word = one_digit 9 (omega arith) }
processor (suc (suc (suc (suc (suc (suc (suc (suc (suc (suc zero)))))))))) low = record { read = refl; below = refl; word = two_digits 0 (omega arith) }
processor (suc (suc (suc (suc (suc (suc (suc (suc (suc (suc (suc zero))))))))))) low = record { read = refl; below = refl; word = two_digits 1 (omega arith) }
processor (suc (suc (suc (suc (suc (suc (suc (suc (suc (suc (suc (suc zero)))))))))))) low = record { read = refl; below = refl; word = two_digits 2 (omega arith) }
processor (suc (suc (suc (suc (suc (suc (suc (suc (suc (suc (suc (suc (suc zero))))))))))))) low = record { read = refl; below = refl; word = two_digits 3 (omega arith) }
processor (suc (suc (suc (suc (suc (suc (suc (suc (suc (suc (suc (suc (suc (suc zero)))))))))))))) low = record { read = refl; below = refl; word = two_digits 4 (omega arith) }
processor (suc (suc (suc (suc (suc (suc (suc (suc (suc (suc (suc (suc (suc (suc (suc zero))))))))))))))) low = record { read = refl; below = refl; word = two_digits 5 (omega arith) }
processor (suc (suc (suc (suc (suc (suc (suc (suc (suc (suc (suc (suc (suc (suc (suc (suc cpu)))))))))))))))) low = absurd (omega (arith, low))
