-- Decimal numbers of two digits at most, as programs print them, and what they are read as.
use Rattle.std.proofs.Common.{◌≡◌, ◌<◌, ◌≤◌, ◌==◌, ◌&&◌, nat_lt, ℕ, Bool, true, false, List, length, Ok, refl, arith, decimal}
use Rattle.std.specs.Fmt.{digits}
use Rattle.std.specs.List.{list_all}
use Rattle.std.proofs.lemmas.Bool.{and_parts, eqb-true}
use Rattle.std.proofs.lemmas.Bool.Decides.{nat_tests}
use Rattle.hex.specs.Hex.{is_hex_digit}
use Rattle.mt_text.specs.Number.{are_digits, decimal_number, decimal_value, is_decimal_digit}
use Rattle.mt_import_laws.proofs.Below.{passes}

abbrev decimal_test : ℕ → Bool
decimal_test n =
    are_digits is_decimal_digit (decimal n) && decimal_value (decimal n) == n && nat_lt 0 (length (decimal n)) && nat_lt (length (decimal n)) 3 && list_all is_hex_digit (decimal n)

pub record IsDecimal (n : ℕ) : Type 0 where
  pub read : (max : ℕ) → n ≤ max → decimal_number (decimal n) max ≡ Ok n
  pub some : 1 ≤ length (decimal n)
  pub short : length (decimal n) < 3
  pub all : list_all is_hex_digit (decimal n) ≡ true

word_read : (word : List ℕ) (n max : ℕ) → are_digits is_decimal_digit word ≡ true → decimal_value word ≡ n → length word < 3 → n ≤ max → decimal_number word max ≡ Ok n
word_read word n max digits value short few =
    let fits : nat_lt 20 (length word) ≡ false = grind (arith, nat_tests, short) in
    let within : nat_lt max n ≡ false = grind (arith, nat_tests, few) in
    rw (digits, value, fits, within) refl

pub decimals : (n : ℕ) → n < 65 → IsDecimal n
unfolding digits
decimals n few =
    let all = passes decimal_test 65 n refl few in
    let one = and_parts (are_digits is_decimal_digit (decimal n) && decimal_value (decimal n) == n && nat_lt 0 (length (decimal n)) && nat_lt (length (decimal n)) 3) (list_all is_hex_digit (decimal n)) all in
    let two = and_parts (are_digits is_decimal_digit (decimal n) && decimal_value (decimal n) == n && nat_lt 0 (length (decimal n))) (nat_lt (length (decimal n)) 3) one.0 in
    let three = and_parts (are_digits is_decimal_digit (decimal n) && decimal_value (decimal n) == n) (nat_lt 0 (length (decimal n))) two.0 in
    let four = and_parts (are_digits is_decimal_digit (decimal n)) (decimal_value (decimal n) == n) three.0 in
    let short = less (length (decimal n)) 3 two.1 in
    record {
      read = λ max within. word_read (decimal n) n max four.0 (eqb-true (decimal_value (decimal n)) n four.1) short within;
      some = less 0 (length (decimal n)) three.1;
      short = short;
      all = one.1;
    }
  where
    less : (a b : ℕ) → nat_lt a b ≡ true → a < b
    less a b is = grind (arith, nat_tests, is)
