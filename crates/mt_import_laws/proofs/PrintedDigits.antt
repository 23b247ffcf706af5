-- Numbers as programs print them, and what they are read as.
use Rattle.std.proofs.Common.{◌≡◌, ◌∙◌, ◌/◌, ◌%◌, ◌^◌, ◌<◌, ◌≤◌, ◌==◌, nat_lt, ℕ, zero, suc, true, false, List, [], ◌∷◌, length, Ok, refl, sym, ap, arith, fold}
use Rattle.std.specs.List.{list_all}
use Rattle.std.specs.Int.{from_be_bytes, to_be_bytes, w32, w64}
use Rattle.std.proofs.lemmas.Bool.Decides.{nat_tests}
use Rattle.std.proofs.lemmas.Nat.{from_be_bytes-to_be_bytes_4, from_be_bytes-to_be_bytes_8}
use Rattle.hex.proofs.HexLemmas.{IsDigits, decode_pairs-encode_with, length-encode_with}
use Rattle.hex.specs.Hex.{IsBytes, encode_with, is_hex_digit}
use Rattle.mt_text.specs.Number.{hex_number, hex_number_of_digits, hex_value}
use Rattle.mt_text.proofs.Digits.{byte_step, from_be_bytes-fold, pairs_value}
use Rattle.mt_text.proofs.Plain.{hex_number-digits}

-- the digits of bytes, in a table of digits
all_digits : (t : List ℕ) → IsDigits t → (bytes : List ℕ) → IsBytes bytes → list_all is_hex_digit (encode_with t bytes) ≡ true
unfolding encode_with
all_digits t are [] fit = refl
all_digits t are (byte ∷ bytes) fit =
    let small : byte < 256 = fit 0 in
    let high = are (byte / 16) (omega arith) in
    let low = are (byte % 16) (omega arith) in
    rw (high, low) (all_digits t are bytes (λ k. fit (suc k)))

-- digits are read as their value
pub digits_read : (digits : List ℕ) → 1 ≤ length digits → length digits ≤ 16 → list_all is_hex_digit digits ≡ true → hex_number_of_digits digits ≡ Ok (hex_value digits)
digits_read digits some few all =
    let there : (length digits == 0) ≡ false = grind (arith, nat_tests, some) in
    let short : nat_lt 16 (length digits) ≡ false = grind (arith, nat_tests, few) in
    rw (there, all, short) refl

four_bytes : (bytes : List ℕ) → length bytes ≡ 4 → from_be_bytes w32 bytes ≡ fold byte_step 0 bytes
four_bytes [] len = absurd (omega arith)
four_bytes (a ∷ []) len = absurd (omega arith)
four_bytes (a ∷ b ∷ []) len = absurd (omega arith)
four_bytes (a ∷ b ∷ c ∷ []) len = absurd (omega arith)
four_bytes (a ∷ b ∷ c ∷ d ∷ []) len = omega arith
four_bytes (a ∷ b ∷ c ∷ d ∷ e ∷ rest) len = absurd (omega arith)

eight_fit : (value : ℕ) → IsBytes (to_be_bytes w64 value)
eight_fit value zero = omega arith
eight_fit value (suc zero) = omega arith
eight_fit value (suc (suc zero)) = omega arith
eight_fit value (suc (suc (suc zero))) = omega arith
eight_fit value (suc (suc (suc (suc zero)))) = omega arith
eight_fit value (suc (suc (suc (suc (suc zero))))) = omega arith
eight_fit value (suc (suc (suc (suc (suc (suc zero)))))) = omega arith
eight_fit value (suc (suc (suc (suc (suc (suc (suc zero))))))) = omega arith
eight_fit value (suc (suc (suc (suc (suc (suc (suc (suc i)))))))) = omega arith

four_fit : (value : ℕ) → IsBytes (to_be_bytes w32 value)
four_fit value zero = omega arith
four_fit value (suc zero) = omega arith
four_fit value (suc (suc zero)) = omega arith
four_fit value (suc (suc (suc zero))) = omega arith
four_fit value (suc (suc (suc (suc i)))) = omega arith

module _ (t : List ℕ) (are : IsDigits t) (value : ℕ) where
  -- ---- sixteen digits
  pub sixteen_long : length (encode_with t (to_be_bytes w64 value)) ≡ 16
  sixteen_long = length-encode_with t (to_be_bytes w64 value)

  pub sixteen_all : list_all is_hex_digit (encode_with t (to_be_bytes w64 value)) ≡ true
  sixteen_all = all_digits t are (to_be_bytes w64 value) (eight_fit value)

  pub sixteen_read : value < 2 ^ 64 → hex_number_of_digits (encode_with t (to_be_bytes w64 value)) ≡ Ok value
  sixteen_read small =
      let size = sixteen_long in
      digits_read (encode_with t (to_be_bytes w64 value)) (omega arith) (omega arith) sixteen_all
      ∙ ap Ok (pairs_value (encode_with t (to_be_bytes w64 value)) (to_be_bytes w64 value) 0 0 (decode_pairs-encode_with t are 0 (to_be_bytes w64 value) (eight_fit value))
      ∙ sym (from_be_bytes-fold (to_be_bytes w64 value) refl) ∙ from_be_bytes-to_be_bytes_8 value small)

  pub sixteen_number : value < 2 ^ 64 → hex_number (encode_with t (to_be_bytes w64 value)) ≡ Ok value
  sixteen_number small =
      let size = sixteen_long in
      hex_number-digits (encode_with t (to_be_bytes w64 value)) (omega arith) (omega arith) sixteen_all
      ∙ sym (digits_read (encode_with t (to_be_bytes w64 value)) (omega arith) (omega arith) sixteen_all) ∙ sixteen_read small

  -- ---- eight digits
  pub eight_long : length (encode_with t (to_be_bytes w32 value)) ≡ 8
  eight_long = length-encode_with t (to_be_bytes w32 value)

  pub eight_all : list_all is_hex_digit (encode_with t (to_be_bytes w32 value)) ≡ true
  eight_all = all_digits t are (to_be_bytes w32 value) (four_fit value)

  pub eight_read : value < 2 ^ 32 → hex_number_of_digits (encode_with t (to_be_bytes w32 value)) ≡ Ok value
  eight_read small =
      let size = eight_long in
      digits_read (encode_with t (to_be_bytes w32 value)) (omega arith) (omega arith) eight_all
      ∙ ap Ok (pairs_value (encode_with t (to_be_bytes w32 value)) (to_be_bytes w32 value) 0 0 (decode_pairs-encode_with t are 0 (to_be_bytes w32 value) (four_fit value))
      ∙ sym (four_bytes (to_be_bytes w32 value) refl) ∙ from_be_bytes-to_be_bytes_4 value small)

  pub eight_number : value < 2 ^ 32 → hex_number (encode_with t (to_be_bytes w32 value)) ≡ Ok value
  eight_number small =
      let size = eight_long in
      hex_number-digits (encode_with t (to_be_bytes w32 value)) (omega arith) (omega arith) eight_all
      ∙ sym (digits_read (encode_with t (to_be_bytes w32 value)) (omega arith) (omega arith) eight_all) ∙ eight_read small
