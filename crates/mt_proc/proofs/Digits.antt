-- Digits without the zeros at their front.
use Rattle.std.proofs.Common.{◌≡◌, ◌∙◌, ℕ, ◌≤◌, ◌==◌, Bool, true, false, List, [], ◌∷◌, length, ap, sym, refl, arith}
use Rattle.std.specs.List.{list_all}
use Rattle.std.proofs.lemmas.Bool.{and_parts, eqb-true}
use Rattle.hex.specs.Hex.{is_hex_digit}
use Rattle.mt_text.specs.Number.{hex_value}
use Rattle.mt_proc.specs.Listing.{significant}

pub stays_short : (digits : List ℕ) → length digits ≤ 1 → digits ≡ significant digits
stays_short [] few = refl
stays_short (digit ∷ []) few = refl
stays_short (digit ∷ next ∷ digits) few = absurd (omega arith)

-- they are digits of the same value
pub record AreSignificant (digits : List ℕ) : Type 0 where
  pub some : 1 ≤ length (significant digits)
  pub few : length (significant digits) ≤ length digits
  pub all : list_all is_hex_digit (significant digits) ≡ true
  pub value : hex_value (significant digits) ≡ hex_value digits

pub are_significant : (digits : List ℕ) → 1 ≤ length digits → list_all is_hex_digit digits ≡ true → AreSignificant digits
are_significant [] some all = absurd (omega arith)
are_significant (digit ∷ []) some all = record { some = omega arith; few = omega arith; all = all; value = refl }
are_significant (digit ∷ next ∷ digits) some all =
    let parts = and_parts (is_hex_digit digit) (list_all is_hex_digit (next ∷ digits)) all in
    by (digit == 48) refl (are_significant (next ∷ digits) (omega arith) parts.1)
  where
    by : (zero : Bool) → (digit == 48) ≡ zero → AreSignificant (next ∷ digits) → AreSignificant (digit ∷ next ∷ digits)
    by true is later =
        let same : significant (digit ∷ next ∷ digits) ≡ significant (next ∷ digits) = rw is refl in
        let number : digit ≡ 48 = eqb-true digit 48 is in
        let size : length (significant (digit ∷ next ∷ digits)) ≡ length (significant (next ∷ digits)) = ap length same in
        record {
          some = omega (arith, size, later.some);
          few = omega (arith, size, later.few);
          all = rw same later.all;
          value = ap hex_value same ∙ later.value ∙ ap (λ d. hex_value (d ∷ next ∷ digits)) (sym number);
        }
    by false is later =
        let same : significant (digit ∷ next ∷ digits) ≡ digit ∷ next ∷ digits = rw is refl in
        let size : length (significant (digit ∷ next ∷ digits)) ≡ length (digit ∷ next ∷ digits) = ap length same in
        record { some = omega (arith, size); few = omega (arith, size); all = rw same all; value = ap hex_value same }
