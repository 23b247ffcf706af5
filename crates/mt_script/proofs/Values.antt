-- The value of a word of hexadecimal digits fits 64 bits.
use Rattle.std.proofs.Common.{◌≡◌, ℕ, zero, suc, ◌*◌, ◌+◌, ◌-◌, ◌≤◌, ◌<◌, ◌^◌, ◌&&◌, not, nat_le, nat_lt, Bool, true, false, List, [], ◌∷◌, length, Some, None, Result, Ok, Err, refl, arith, lit≤}
use Rattle.std.specs.Prelude.{fold, if◌then◌else◌, unwrap_or}
use Rattle.std.proofs.lemmas.Bool.{leb-true, ltb-false}
use Rattle.hex.specs.Hex.{hex_digit_value, is_hex_digit}
use Rattle.mt_text.specs.Number.{are_digits, hex_number, hex_number_of_digits, hex_value, without_prefix}
use Rattle.mt_text.specs.declared.fault.NumberFault.{NumberFault}
use Rattle.mt_text.specs.declared.fault.NumberFault.TheVariants.{NotDigit, TooLarge}
use Rattle.mt_text.specs.declared.place.Place.{Place}
use Rattle.mt_script.specs.Words.{place_of, text_of}
use Rattle.mt_script.specs.Numbers.{any, value_in}

digit_below : (c : ℕ) → unwrap_or (hex_digit_value c) 0 < 16
digit_below c = one (nat_le 65 c) (nat_le c 70) (nat_le 97 c) (nat_le c 102) (nat_le 48 c) (nat_le c 57) refl refl refl
  where
    one : (a b d e f g : Bool) → nat_le c 70 ≡ b → nat_le c 102 ≡ e → nat_le c 57 ≡ g
        → unwrap_or (if a && b then Some (c - 55) else if d && e then Some (c - 87) else if f && g then Some (c - 48) else None) 0 < 16
    one true true d e f g eb ee eg = let most = leb-true c 70 eb in omega arith
    one true false true true f g eb ee eg = let most = leb-true c 102 ee in omega arith
    one true false true false true true eb ee eg = let most = leb-true c 57 eg in omega arith
    one true false true false true false eb ee eg = omega arith
    one true false true false false g eb ee eg = omega arith
    one true false false e true true eb ee eg = let most = leb-true c 57 eg in omega arith
    one true false false e true false eb ee eg = omega arith
    one true false false e false g eb ee eg = omega arith
    one false b true true f g eb ee eg = let most = leb-true c 102 ee in omega arith
    one false b true false true true eb ee eg = let most = leb-true c 57 eg in omega arith
    one false b true false true false eb ee eg = omega arith
    one false b true false false g eb ee eg = omega arith
    one false b false e true true eb ee eg = let most = leb-true c 57 eg in omega arith
    one false b false e true false eb ee eg = omega arith
    one false b false e false g eb ee eg = omega arith

-- a bound that so many digits leave
room : ℕ → ℕ → ℕ
room bound zero = bound
room bound (suc n) = room (bound * 16) n

room_grows : (bound n : ℕ) → bound ≤ room bound n
unfolding room
room_grows bound zero = omega arith
room_grows bound (suc n) = let more = room_grows (bound * 16) n in omega arith

room_more : (bound n m : ℕ) → n ≤ m → room bound n ≤ room bound m
unfolding room
room_more bound zero m few = room_grows bound m
room_more bound (suc n) zero few = absurd (omega arith)
room_more bound (suc n) (suc m) few = room_more (bound * 16) n m (omega arith)

value_below : (digits : List ℕ) (value bound : ℕ) → value < bound → fold (λ value digit. value * 16 + unwrap_or (hex_digit_value digit) 0) value digits < room bound (length digits)
unfolding room
value_below [] value bound below = below
value_below (d ∷ digits) value bound below =
    let digit = digit_below d in
    value_below digits (value * 16 + unwrap_or (hex_digit_value d) 0) (bound * 16) (omega arith)

sixteen : room 1 16 ≤ 2 ^ 64
unfolding room
sixteen = lit≤ tt

of_digits : (digits : List ℕ) (n : ℕ) → hex_number_of_digits digits ≡ Ok n → n < 2 ^ 64
of_digits digits n = one (are_digits is_hex_digit digits) (nat_lt 16 (length digits)) refl
  where
    one : (digit long : Bool) → nat_lt 16 (length digits) ≡ long → (if not digit then Err NotDigit else if long then Err TooLarge else Ok (hex_value digits)) ≡ Ok n → n < 2 ^ 64
    one false long is got = absurd (cc got)
    one true true is got = absurd (cc got)
    one true false is got =
        let few = ltb-false 16 (length digits) is in
        let below = value_below digits 0 1 (omega arith) in
        let most = room_more 1 (length digits) 16 (omega arith) in
        let all = sixteen in
        let same : hex_value digits ≡ n = cc got in
        omega arith

of_reading : (place : Place) (reading : Result ℕ NumberFault) (value : ℕ) → ((n : ℕ) → reading ≡ Ok n → n < 2 ^ 64) → any place reading ≡ Ok value → value < 2 ^ 64
of_reading place (Err fault) value below is = absurd (cc is)
of_reading place (Ok n) value below is = let same : n ≡ value = cc is in let most = below n refl in omega arith

pub value_fact : (line : ℕ) (words : List (ℕ × List ℕ)) (i value : ℕ) → value_in line words i ≡ Ok value → value < 2 ^ 64
value_fact line words i value is = of_reading (place_of line words i) (hex_number (text_of words i)) value (λ n. of_digits (without_prefix (text_of words i)) n) is
