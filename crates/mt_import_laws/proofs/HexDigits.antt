-- Numbers in as many hexadecimal digits as they have.
use Rattle.std.proofs.Common.{◌≡◌, ◌∙◌, ◌+◌, ◌*◌, ◌/◌, ◌%◌, ◌^◌, ◌<◌, ◌≤◌, ◌==◌, ℕ, zero, suc, Bool, true, false, List, [], ◌∷◌, length, Some, Ok, refl, ap, arith, fold, lt_of_lt_of_le, lit≤}
use Rattle.std.specs.Prelude.{if◌then◌else◌}
use Rattle.std.specs.List.{list_all}
use Rattle.std.specs.Fmt.{digit_glyph, digits, digits_onto}
use Rattle.std.proofs.lemmas.Bool.{eqb-false, eqb-true}
use Rattle.hex.specs.Hex.{hex_digit_value, is_hex_digit}
use Rattle.mt_text.specs.Number.{hex_number, hex_number_of_digits, hex_value}
use Rattle.mt_text.proofs.Digits.{digit_step}
use Rattle.mt_text.proofs.Plain.{hex_number-digits}
use Rattle.mt_import_laws.specs.PrintedByRdmsr.{hex_text}
use Rattle.mt_import_laws.proofs.PrintedDigits.{digits_read}

glyph_value : (d : ℕ) → d < 16 → hex_digit_value (digit_glyph false d) ≡ Some d
glyph_value zero few = refl
glyph_value (suc zero) few = refl
glyph_value (suc (suc zero)) few = refl
glyph_value (suc (suc (suc zero))) few = refl
glyph_value (suc (suc (suc (suc zero)))) few = refl
glyph_value (suc (suc (suc (suc (suc zero))))) few = refl
glyph_value (suc (suc (suc (suc (suc (suc zero)))))) few = refl
glyph_value (suc (suc (suc (suc (suc (suc (suc zero))))))) few = refl
glyph_value (suc (suc (suc (suc (suc (suc (suc (suc zero)))))))) few = refl
glyph_value (suc (suc (suc (suc (suc (suc (suc (suc (suc zero))))))))) few = refl
glyph_value (suc (suc (suc (suc (suc (suc (suc (suc (suc (suc zero)))))))))) few = refl
glyph_value (suc (suc (suc (suc (suc (suc (suc (suc (suc (suc (suc zero))))))))))) few = refl
glyph_value (suc (suc (suc (suc (suc (suc (suc (suc (suc (suc (suc (suc zero)))))))))))) few = refl
glyph_value (suc (suc (suc (suc (suc (suc (suc (suc (suc (suc (suc (suc (suc zero))))))))))))) few = refl
glyph_value (suc (suc (suc (suc (suc (suc (suc (suc (suc (suc (suc (suc (suc (suc zero)))))))))))))) few = refl
glyph_value (suc (suc (suc (suc (suc (suc (suc (suc (suc (suc (suc (suc (suc (suc (suc zero))))))))))))))) few = refl
glyph_value (suc (suc (suc (suc (suc (suc (suc (suc (suc (suc (suc (suc (suc (suc (suc (suc d)))))))))))))))) few = absurd (omega (arith, few))

-- below 16 to this power
abbrev power : ℕ → ℕ
power zero = 1
power (suc k) = 16 * power k

part_fits : (k n : ℕ) → n < power (suc k) → n / 16 < power k
part_fits k n fits = omega (arith, fits)

small : (n : ℕ) → (n / 16 == 0) ≡ true → n % 16 ≡ n
small n is = let e = eqb-true (n / 16) 0 is in omega (arith, e)

onto_digits : (k n : ℕ) (acc : List ℕ) → list_all is_hex_digit acc ≡ true → list_all is_hex_digit (digits_onto k 16 false n acc) ≡ true
onto_digits zero n acc all = all
onto_digits (suc k) n acc all =
    let here : list_all is_hex_digit (digit_glyph false (n % 16) ∷ acc) ≡ true = rw (glyph_value (n % 16) (omega arith)) all in
    by (n / 16 == 0) here (onto_digits k (n / 16) (digit_glyph false (n % 16) ∷ acc) here)
  where
    by : (test : Bool) → list_all is_hex_digit (digit_glyph false (n % 16) ∷ acc) ≡ true → list_all is_hex_digit (digits_onto k 16 false (n / 16) (digit_glyph false (n % 16) ∷ acc)) ≡ true
        → list_all is_hex_digit (if test then digit_glyph false (n % 16) ∷ acc else digits_onto k 16 false (n / 16) (digit_glyph false (n % 16) ∷ acc)) ≡ true
    by true here later = here
    by false here later = later

one_digit : (a d : ℕ) → d < 16 → digit_step a (digit_glyph false d) ≡ a * 16 + d
one_digit a d few = rw (glyph_value d few) refl

onto_value : (k n : ℕ) (acc : List ℕ) → n < power k → fold digit_step 0 (digits_onto k 16 false n acc) ≡ fold digit_step n acc
onto_value zero n acc fits = let e : 0 ≡ n = omega (arith, fits) in ap (λ a. fold digit_step a acc) e
onto_value (suc k) n acc fits = by (n / 16 == 0) refl (onto_value k (n / 16) (digit_glyph false (n % 16) ∷ acc) (part_fits k n fits))
  where
    by : (test : Bool) → (n / 16 == 0) ≡ test → fold digit_step 0 (digits_onto k 16 false (n / 16) (digit_glyph false (n % 16) ∷ acc)) ≡ fold digit_step (n / 16) (digit_glyph false (n % 16) ∷ acc)
        → fold digit_step 0 (if test then digit_glyph false (n % 16) ∷ acc else digits_onto k 16 false (n / 16) (digit_glyph false (n % 16) ∷ acc)) ≡ fold digit_step n acc
    by true is later =
        let low = small n is in
        let e : 0 * 16 + n % 16 ≡ n = omega (arith, low) in
        ap (λ a. fold digit_step a acc) (one_digit 0 (n % 16) (omega arith) ∙ e)
    by false is later =
        let e : n / 16 * 16 + n % 16 ≡ n = omega arith in
        later ∙ ap (λ a. fold digit_step a acc) (one_digit (n / 16) (n % 16) (omega arith) ∙ e)

onto_short : (k j n : ℕ) (acc : List ℕ) → n < power (suc j) → length (digits_onto k 16 false n acc) ≤ suc j + length acc
onto_short zero j n acc fits = omega arith
onto_short (suc k) zero n acc fits = by (n / 16 == 0) refl
  where
    by : (test : Bool) → (n / 16 == 0) ≡ test → length (if test then digit_glyph false (n % 16) ∷ acc else digits_onto k 16 false (n / 16) (digit_glyph false (n % 16) ∷ acc)) ≤ 1 + length acc
    by true is = omega arith
    by false is = let apart = eqb-false (n / 16) 0 is in absurd (omega (arith, fits, apart))
onto_short (suc k) (suc j) n acc fits = by (n / 16 == 0) (onto_short k j (n / 16) (digit_glyph false (n % 16) ∷ acc) (part_fits (suc j) n fits))
  where
    by : (test : Bool) → length (digits_onto k 16 false (n / 16) (digit_glyph false (n % 16) ∷ acc)) ≤ suc j + suc (length acc)
        → length (if test then digit_glyph false (n % 16) ∷ acc else digits_onto k 16 false (n / 16) (digit_glyph false (n % 16) ∷ acc)) ≤ suc (suc j) + length acc
    by true later = omega arith
    by false later = omega (arith, later)

onto_long : (k n : ℕ) (acc : List ℕ) → length acc ≤ length (digits_onto k 16 false n acc)
onto_long zero n acc = omega arith
onto_long (suc k) n acc = by (n / 16 == 0) (onto_long k (n / 16) (digit_glyph false (n % 16) ∷ acc))
  where
    by : (test : Bool) → suc (length acc) ≤ length (digits_onto k 16 false (n / 16) (digit_glyph false (n % 16) ∷ acc))
        → length acc ≤ length (if test then digit_glyph false (n % 16) ∷ acc else digits_onto k 16 false (n / 16) (digit_glyph false (n % 16) ∷ acc))
    by true later = omega arith
    by false later = omega (arith, later)

onto_some : (k n : ℕ) → 1 ≤ length (digits_onto (suc k) 16 false n [])
onto_some k n = by (n / 16 == 0) (onto_long k (n / 16) (digit_glyph false (n % 16) ∷ []))
  where
    by : (test : Bool) → 1 ≤ length (digits_onto k 16 false (n / 16) (digit_glyph false (n % 16) ∷ [])) → 1 ≤ length (if test then digit_glyph false (n % 16) ∷ [] else digits_onto k 16 false (n / 16) (digit_glyph false (n % 16) ∷ []))
    by true later = omega arith
    by false later = later

-- ---- the text of a number

module _ (value : ℕ) where
  pub hex_digits : list_all is_hex_digit (hex_text value) ≡ true
  unfolding digits
  hex_digits = onto_digits 64 value [] refl

  pub hex_some : 1 ≤ length (hex_text value)
  unfolding digits
  hex_some = onto_some 63 value

  pub hex_short : value < 2 ^ 64 → length (hex_text value) ≤ 16
  unfolding digits
  hex_short fits = let few = onto_short 64 15 value [] fits in omega (arith, few)

  value_of_text : value < 2 ^ 64 → hex_value (hex_text value) ≡ value
  unfolding digits
  value_of_text fits = onto_value 64 value [] (lt_of_lt_of_le fits (lit≤ tt))

  -- behind `0x`
  pub hex_prefixed : value < 2 ^ 64 → hex_number_of_digits (hex_text value) ≡ Ok value
  hex_prefixed fits = digits_read (hex_text value) hex_some (hex_short fits) hex_digits ∙ ap Ok (value_of_text fits)

  pub hex_alone : value < 2 ^ 64 → hex_number (hex_text value) ≡ Ok value
  hex_alone fits = hex_number-digits (hex_text value) hex_some (hex_short fits) hex_digits ∙ ap Ok (value_of_text fits)
