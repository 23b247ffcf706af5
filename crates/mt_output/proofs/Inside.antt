-- Texts without an LF, which are one line each.
use Rattle.std.proofs.Common.{◌≡◌, ap, refl, arith, inl, inr, ℕ, zero, suc, ◌/◌, ◌%◌, ◌==◌, nat_lt, Bool, true, false, not, List, [], ◌∷◌, ◌++◌, codes, decimal, drop, slice_index}
use Rattle.std.specs.Prelude.{if◌then◌else◌}
use Rattle.std.specs.Fmt.{digit_glyph, digits, digits_onto}
use Rattle.std.specs.Int.{to_be_bytes, w64}
use Rattle.std.specs.List.{list_all, onto_first}
use Rattle.std.proofs.lemmas.Bool.{and_parts, cases_Bool}
use Rattle.std.proofs.lemmas.Bool.Decides.{nat_tests}
use Rattle.hex.specs.Hex.{encode_lower, encode_with, lower_digits}
use Rattle.mt_kinds.specs.declared.mem_type.MemType.{MemType}
use Rattle.mt_kinds.specs.declared.mem_type.MemType.TheVariants.{UC, WC, WT, WP, WB}
use Rattle.mt_kinds.specs.Types.{name_of_type}
use Rattle.mt_text.specs.Text.{is_line_end, lines_of}
use Rattle.mt_text.specs.declared.place.Place.{Place}
use Rattle.mt_regs.specs.declared.fault.Fault.{Fault}
use Rattle.mt_regs.specs.declared.fault.Reason.{Reason}
use Rattle.mt_regs.specs.declared.fault.Reason.TheVariants.{ReservedBit, UnsupportedType, BrokenMask, UndefinedOverlap}
use Rattle.mt_dump.specs.Canon.{number_text, value_text}
use Rattle.mt_dump.specs.declared.fault.DumpReason.{DumpReason}
use Rattle.mt_dump.specs.declared.fault.DumpReason.TheVariants as dump
use Rattle.mt_output.specs.Lines.{address_text, bad_text, dump_reason_text, dump_refused_line, line, reason_text, refused_cpu_line, refused_line}

abbrev is_inside : ℕ → Bool
is_inside byte = not (is_line_end byte)

pub record IsInside (text : List ℕ) : Type 0 where
  pub all : list_all is_inside text ≡ true

pub plain : (text : List ℕ) → list_all is_inside text ≡ true → IsInside text
plain text all = record { all = all }

all_both : (a b : List ℕ) → list_all is_inside a ≡ true → list_all is_inside b ≡ true → list_all is_inside (a ++ b) ≡ true
all_both [] b none second = second
all_both (byte ∷ bytes) b all second = let parts = and_parts (is_inside byte) (list_all is_inside bytes) all in rw parts.0 (all_both bytes b parts.1 second)

pub both : {a b : List ℕ} → IsInside a → IsInside b → IsInside (a ++ b)
both {a} {b} first second = record { all = all_both a b first.all second.all }

-- with an LF behind it, it is one line
pub one_line : (text : List ℕ) → IsInside text → lines_of (line text) ≡ text ∷ []
one_line text inside = by text inside.all
  where
    no_end : (byte : ℕ) → is_inside byte ≡ true → is_line_end byte ≡ false
    no_end byte other = grind (arith, nat_tests)

    by : (text : List ℕ) → list_all is_inside text ≡ true → lines_of (line text) ≡ text ∷ []
    by [] all = refl
    by (byte ∷ bytes) all =
        let parts = and_parts (is_inside byte) (list_all is_inside bytes) all in
        rw (no_end byte parts.0) (ap (onto_first byte) (by bytes parts.1))

-- ---- numbers, addresses and types

digit_inside : (digit : ℕ) → is_inside (digit_glyph false digit) ≡ true
digit_inside digit = elim (cases_Bool (nat_lt digit 10)) [
  | inl low ↦ rw low (grind (arith, nat_tests))
  | inr high ↦ rw high (grind (arith, nat_tests))
]

all_digits : (k n : ℕ) (behind : List ℕ) → list_all is_inside behind ≡ true → list_all is_inside (digits_onto k 10 false n behind) ≡ true
all_digits zero n behind all = all
all_digits (suc k) n behind all = elim (cases_Bool (n / 10 == 0)) [
  | inl last ↦ rw last (rw (digit_inside (n % 10)) all)
  | inr more ↦ rw more (all_digits k (n / 10) (digit_glyph false (n % 10) ∷ behind) (rw (digit_inside (n % 10)) all))
]

pub decimal_inside : (n : ℕ) → IsInside (decimal n)
unfolding digits
decimal_inside n = plain _ (all_digits 64 n [] refl)

glyph_inside : (digit : ℕ) → is_inside (slice_index lower_digits digit) ≡ true
glyph_inside zero = refl
glyph_inside (suc zero) = refl
glyph_inside (suc (suc zero)) = refl
glyph_inside (suc (suc (suc zero))) = refl
glyph_inside (suc (suc (suc (suc zero)))) = refl
glyph_inside (suc (suc (suc (suc (suc zero))))) = refl
glyph_inside (suc (suc (suc (suc (suc (suc zero)))))) = refl
glyph_inside (suc (suc (suc (suc (suc (suc (suc zero))))))) = refl
glyph_inside (suc (suc (suc (suc (suc (suc (suc (suc zero)))))))) = refl
glyph_inside (suc (suc (suc (suc (suc (suc (suc (suc (suc zero))))))))) = refl
glyph_inside (suc (suc (suc (suc (suc (suc (suc (suc (suc (suc zero)))))))))) = refl
glyph_inside (suc (suc (suc (suc (suc (suc (suc (suc (suc (suc (suc zero))))))))))) = refl
glyph_inside (suc (suc (suc (suc (suc (suc (suc (suc (suc (suc (suc (suc zero)))))))))))) = refl
glyph_inside (suc (suc (suc (suc (suc (suc (suc (suc (suc (suc (suc (suc (suc zero))))))))))))) = refl
glyph_inside (suc (suc (suc (suc (suc (suc (suc (suc (suc (suc (suc (suc (suc (suc zero)))))))))))))) = refl
glyph_inside (suc (suc (suc (suc (suc (suc (suc (suc (suc (suc (suc (suc (suc (suc (suc zero))))))))))))))) = refl
glyph_inside (suc (suc (suc (suc (suc (suc (suc (suc (suc (suc (suc (suc (suc (suc (suc (suc digit)))))))))))))))) = refl

all_encoded : (bytes : List ℕ) → list_all is_inside (encode_lower bytes) ≡ true
unfolding encode_with
all_encoded [] = refl
all_encoded (byte ∷ bytes) = rw (glyph_inside (byte / 16), glyph_inside (byte % 16)) (all_encoded bytes)

pub value_inside : (value : ℕ) → IsInside (value_text value)
value_inside value = plain _ (all_encoded (to_be_bytes w64 value))

pub number_inside : (number : ℕ) → IsInside (number_text number)
number_inside number = plain _ (rw (glyph_inside (number / 256), glyph_inside (number / 16 % 16), glyph_inside (number % 16)) refl)

all_behind : (count : ℕ) (text : List ℕ) → list_all is_inside text ≡ true → list_all is_inside (drop count text) ≡ true
all_behind zero text all = all
all_behind (suc count) [] all = refl
all_behind (suc count) (byte ∷ bytes) all = all_behind count bytes (and_parts (is_inside byte) (list_all is_inside bytes) all).1

pub address_inside : (address : ℕ) → IsInside (address_text address)
address_inside address = plain _ (all_behind 3 (value_text address) (value_inside address).all)

pub type_inside : (kind : MemType) → IsInside (name_of_type kind)
type_inside UC = plain _ refl
type_inside WC = plain _ refl
type_inside WT = plain _ refl
type_inside WP = plain _ refl
type_inside WB = plain _ refl

-- ---- reasons

reason_inside : (reason : Reason) → IsInside (reason_text reason)
reason_inside ReservedBit = plain _ refl
reason_inside UnsupportedType = plain _ refl
reason_inside BrokenMask = plain _ refl
reason_inside UndefinedOverlap = plain _ refl

pub dump_reason_inside : (reason : DumpReason) → IsInside (dump_reason_text reason)
dump_reason_inside dump.BadLine = plain _ refl
dump_reason_inside dump.BadNumber = plain _ refl
dump_reason_inside dump.UnknownRegister = plain _ refl
dump_reason_inside dump.Repeated = plain _ refl
dump_reason_inside dump.NoCap = plain _ refl
dump_reason_inside dump.BadWidth = plain _ refl
dump_reason_inside dump.TooManyPairs = plain _ refl
dump_reason_inside dump.BadVersion = plain _ refl
dump_reason_inside dump.BadSection = plain _ refl
dump_reason_inside dump.Differs = plain _ refl

-- ---- lines about offences and refused files

-- a line with this front
pub record IsLineOf (front written : List ℕ) : Type 0 where
  pub rest : List ℕ
  pub is : written ≡ line (front ++ rest)
  pub inside : IsInside (front ++ rest)

pub bad_text_is_line : (place : Place) (reason : List ℕ) → IsInside reason → IsLineOf (codes "bad text ") (bad_text place reason)
bad_text_is_line place reason inside = record {
  rest = decimal place.line ++ codes ":" ++ decimal place.column ++ codes " " ++ reason;
  is = refl;
  inside = both (plain (codes "bad text ") refl) (both (both (both (both (decimal_inside place.line) (plain (codes ":") refl)) (decimal_inside place.column)) (plain (codes " ") refl)) inside);
}

pub refused_is_line : (version k : ℕ) (fault : Fault) → IsLineOf (codes "refused ") (dump_refused_line version k fault)
refused_is_line version k fault = by (version == 2)
  where
    by : (b : Bool) → IsLineOf (codes "refused ") (if b then refused_cpu_line k fault else refused_line fault)
    by true = record {
      rest = codes "cpu " ++ decimal k ++ codes " " ++ number_text fault.msr ++ codes " " ++ reason_text fault.reason;
      is = refl;
      inside = both (plain (codes "refused ") refl) (both (both (both (both (both (plain (codes "cpu ") refl) (decimal_inside k)) (plain (codes " ") refl)) (number_inside fault.msr)) (plain (codes " ") refl)) (reason_inside fault.reason));
    }
    by false = record {
      rest = number_text fault.msr ++ codes " " ++ reason_text fault.reason;
      is = refl;
      inside = both (plain (codes "refused ") refl) (both (both (number_inside fault.msr) (plain (codes " ") refl)) (reason_inside fault.reason));
    }
