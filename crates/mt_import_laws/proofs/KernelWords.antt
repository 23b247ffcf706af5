-- Words of a kernel's table, and what they are read as.
use Rattle.std.proofs.Common.{◌≡◌, ◌∙◌, ◌+◌, ◌-◌, ◌*◌, ◌/◌, ◌%◌, ◌^◌, ◌<◌, ◌≤◌, ◌==◌, ◌&&◌, nat_eq, nat_lt, ℕ, zero, suc, Bool, true, false, List, [], ◌∷◌, length, Some, None, Ok, refl, sym, ap, subst, arith, lit≤, length-append, codes, fold}
use Rattle.std.specs.Prelude.{if◌then◌else◌, is_some}
use Rattle.std.proofs.Math.Nat.{pow-suc}
use Rattle.std.specs.Fmt.{digit_glyph}
use Rattle.std.specs.List.{list_all}
use Rattle.std.proofs.lemmas.Bool.{and_parts}
use Rattle.std.proofs.lemmas.Bool.Decides.{nat_tests}
use Rattle.std.proofs.lemmas.List.Sums.{fold-append}
use Rattle.hex.specs.Hex.{hex_digit_value, is_hex_digit}
use Rattle.mt_kinds.specs.declared.mem_type.MemType.TheVariants.{UC, WC, WT, WP, WB}
use Rattle.mt_text.specs.Number.{hex_number}
use Rattle.mt_text.proofs.Digits.{digit_step}
use Rattle.mt_text.proofs.Plain.{hex_number-digits}
use Rattle.mt_import.specs.Kernel.{range_at, type_named}
use Rattle.mt_import.specs.LineWords.{is_opened}
use Rattle.mt_import.specs.Linux.{is_pat_name}
use Rattle.mt_import.specs.Pieces.{behind, is_text, number_in}
use Rattle.mt_import_laws.specs.PrintedByKernel.{Style, digit_count, five_digits, has_name, hex_of, name_of, page_text, range_start, type_name}
use Rattle.mt_import_laws.proofs.Below.{is_value, passes, some_value}
use Rattle.mt_import_laws.proofs.LineWords.{IsWord, all_append, digits_are_word}

-- ---- types

pub record IsTypeName (code : ℕ) (name : List ℕ) : Type 0 where
  pub read : type_named name ≡ Some code
  pub word : IsWord name
  pub short : length name ≤ 15
  pub no_switch : is_text (codes "disabled") name ≡ false

pub type_names : (code : ℕ) → has_name code ≡ true → IsTypeName code (type_name code)
type_names code named = by (code == 0) (code == 1) (code == 4) (code == 5) (code == 6) refl refl refl refl refl named
  where
    is : (value : ℕ) → (code == value) ≡ true → value ≡ code
    is value same = grind (arith, nat_tests, same)

    by : (uc wc wt wp wb : Bool) → (code == 0) ≡ uc → (code == 1) ≡ wc → (code == 4) ≡ wt → (code == 5) ≡ wp → (code == 6) ≡ wb
        → is_some (if uc then Some UC else if wc then Some WC else if wt then Some WT else if wp then Some WP else if wb then Some WB else None) ≡ true
        → IsTypeName code (name_of (if uc then Some UC else if wc then Some WC else if wt then Some WT else if wp then Some WP else if wb then Some WB else None))
    by true wc wt wp wb a b c d e some = record { read = ap Some (is 0 a); word = (lit≤ tt, refl, refl); short = lit≤ tt; no_switch = refl }
    by false true wt wp wb a b c d e some = record { read = ap Some (is 1 b); word = (lit≤ tt, refl, refl); short = lit≤ tt; no_switch = refl }
    by false false true wp wb a b c d e some = record { read = ap Some (is 4 c); word = (lit≤ tt, refl, refl); short = lit≤ tt; no_switch = refl }
    by false false false true wb a b c d e some = record { read = ap Some (is 5 d); word = (lit≤ tt, refl, refl); short = lit≤ tt; no_switch = refl }
    by false false false false true a b c d e some = record { read = ap Some (is 6 e); word = (lit≤ tt, refl, refl); short = lit≤ tt; no_switch = refl }
    by false false false false false a b c d e none = cc none

-- ---- words that a table's lines begin with are no others of a log

pub record IsStart (word : List ℕ) : Type 0 where
  pub opened : is_opened word ≡ false
  pub kernel : is_text (codes "kernel:") word ≡ false
  pub x86 : is_text (codes "x86") word ≡ false
  pub pat : is_pat_name word ≡ false
  pub reg : is_text (codes "reg") word ≡ false
  pub region : is_some (behind (codes "reg") word) ≡ false

pub mtrr_start : IsStart (codes "MTRR")
mtrr_start = record { opened = refl; kernel = refl; x86 = refl; pat = refl; reg = refl; region = refl }

pub digit_start : (d : ℕ) (ds : List ℕ) → is_hex_digit d ≡ true → IsStart (d ∷ ds)
digit_start d ds is =
    record {
      opened = rw (bracket d is, apart d 60 is refl) refl;
      kernel = rw (apart d 107 is refl) refl;
      x86 = rw (apart d 120 is refl) refl;
      pat = rw (apart d 120 is refl, apart d 80 is refl) refl;
      reg = rw (apart d 114 is refl) refl;
      region = rw (apart d 114 is refl) refl;
    }
  where
    bracket : (b : ℕ) → is_hex_digit b ≡ true → (b == 91) ≡ false
    bracket b is = grind (arith, nat_tests, is)

    apart : (b c : ℕ) → is_hex_digit b ≡ true → is_hex_digit c ≡ false → nat_eq b c ≡ false
    apart b c is other = by (nat_eq b c) refl
      where
        by : (test : Bool) → nat_eq b c ≡ test → test ≡ false
        by true same = let e : b ≡ c = grind (arith, nat_tests, same) in let clash : true ≡ false = sym is ∙ ap is_hex_digit e ∙ other in cc clash
        by false differ = refl

pub digit_words : (word : List ℕ) → 1 ≤ length word → list_all is_hex_digit word ≡ true → IsStart word
digit_words [] some all = absurd (omega (arith, some))
digit_words (d ∷ ds) some all = digit_start d ds (and_parts (is_hex_digit d) (list_all is_hex_digit ds) all).0

-- ---- hexadecimal numbers

-- the digit of a number below 16
glyph : (upper : Bool) (d : ℕ) → d < 16 → hex_digit_value (digit_glyph upper d) ≡ Some d
glyph true d few = some_value (hex_digit_value (digit_glyph true d)) d (passes (λ n. is_value (hex_digit_value (digit_glyph true n)) n) 16 d refl few)
glyph false d few = some_value (hex_digit_value (digit_glyph false d)) d (passes (λ n. is_value (hex_digit_value (digit_glyph false n)) n) 16 d refl few)

glyph_step : (upper : Bool) (value d : ℕ) → d < 16 → digit_step value (digit_glyph upper d) ≡ value * 16 + d
glyph_step upper value d few = rw (glyph upper d few) refl

pub glyph_digit : (upper : Bool) (d : ℕ) → d < 16 → is_hex_digit (digit_glyph upper d) ≡ true
glyph_digit upper d few = rw (glyph upper d few) refl

module _ (upper : Bool) where
  pub five_all : (n : ℕ) → list_all is_hex_digit (five_digits upper n) ≡ true
  five_all n =
      rw (glyph_digit upper (n / 0x10000 % 16) (omega arith), glyph_digit upper (n / 0x1000 % 16) (omega arith), glyph_digit upper (n / 0x100 % 16) (omega arith), glyph_digit upper (n / 0x10 % 16) (omega arith), glyph_digit upper (n % 16) (omega arith)) refl

  pub five_read : (n : ℕ) → n < 0x100000 → hex_number (five_digits upper n) ≡ Ok n
  five_read n small =
      let sum : ((((0 * 16 + n / 0x10000 % 16) * 16 + n / 0x1000 % 16) * 16 + n / 0x100 % 16) * 16 + n / 0x10 % 16) * 16 + n % 16 ≡ n = omega (arith, small) in
      hex_number-digits (five_digits upper n) (lit≤ tt) (lit≤ tt) (five_all n)
      ∙ ap Ok (rw (glyph upper (n / 0x10000 % 16) (omega arith), glyph upper (n / 0x1000 % 16) (omega arith), glyph upper (n / 0x100 % 16) (omega arith), glyph upper (n / 0x10 % 16) (omega arith), glyph upper (n % 16) (omega arith)) sum)

  hex_all : (count n : ℕ) → list_all is_hex_digit (hex_of upper count n) ≡ true
  hex_all zero n = refl
  hex_all (suc count) n =
      all_append is_hex_digit (hex_of upper count (n / 16)) (digit_glyph upper (n % 16) ∷ []) (hex_all count (n / 16)) (rw (glyph_digit upper (n % 16) (omega arith)) refl)

  hex_long : (count n : ℕ) → length (hex_of upper count n) ≡ count
  hex_long zero n = refl
  hex_long (suc count) n = let one = length-append (hex_of upper count (n / 16)) (digit_glyph upper (n % 16) ∷ []) in let later = hex_long count (n / 16) in omega (arith, one, later)

  -- below 16 to this power
  hex_read : (count n : ℕ) → n < 16 ^ count → fold digit_step 0 (hex_of upper count n) ≡ n
  hex_read zero n small = omega (arith, small)
  hex_read (suc count) n small =
      let power = pow-suc 16 count in
      let sum : n / 16 * 16 + n % 16 ≡ n = omega arith in
      fold-append digit_step 0 (hex_of upper count (n / 16)) (digit_glyph upper (n % 16) ∷ [])
      ∙ ap (λ v. digit_step v (digit_glyph upper (n % 16))) (hex_read count (n / 16) (omega (arith, small, power)))
      ∙ glyph_step upper (n / 16) (n % 16) (omega arith) ∙ sum

count_fits : (more least n : ℕ) → n < 16 ^ (least + more) → n < 16 ^ digit_count more least n
count_fits zero least n small = let e : least + 0 ≡ least = omega arith in subst (λ k. n < 16 ^ k) e small
count_fits (suc more) least n small =
    let e : least + suc more ≡ least + 1 + more = omega arith in
    by (nat_lt n (16 ^ least)) refl (count_fits more (least + 1) n (subst (λ k. n < 16 ^ k) e small))
  where
    less : (a b : ℕ) → nat_lt a b ≡ true → a < b
    less a b is = grind (arith, nat_tests, is)

    by : (test : Bool) → nat_lt n (16 ^ least) ≡ test → n < 16 ^ digit_count more (least + 1) n → n < 16 ^ (if test then least else digit_count more (least + 1) n)
    by true is later = less n (16 ^ least) is
    by false is later = later

count_low : (more least n : ℕ) → least ≤ digit_count more least n
count_low zero least n = omega arith
count_low (suc more) least n = by (nat_lt n (16 ^ least)) (count_low more (least + 1) n)
  where
    by : (test : Bool) → least + 1 ≤ digit_count more (least + 1) n → least ≤ (if test then least else digit_count more (least + 1) n)
    by true later = omega arith
    by false later = omega (arith, later)

count_high : (more least n : ℕ) → digit_count more least n ≤ least + more
count_high zero least n = omega arith
count_high (suc more) least n = by (nat_lt n (16 ^ least)) (count_high more (least + 1) n)
  where
    by : (test : Bool) → digit_count more (least + 1) n ≤ least + 1 + more → (if test then least else digit_count more (least + 1) n) ≤ least + suc more
    by true later = omega arith
    by false later = omega (arith, later)

module _ (style : Style) (some : 1 ≤ style.digits) (few : style.digits ≤ 13) (value : ℕ) where
  abbrev size : ℕ
  size = digit_count (13 - style.digits) style.digits (value / 4096)

  size_low : 1 ≤ size
  size_low = let low = count_low (13 - style.digits) style.digits (value / 4096) in omega (arith, low, some)

  size_high : size ≤ 13
  size_high = let high = count_high (13 - style.digits) style.digits (value / 4096) in omega (arith, high, few)

  pub page_long : length (page_text style value) ≡ size + 3
  page_long =
      let one = length-append (hex_of style.upper size (value / 4096)) (codes "000") in
      let two = hex_long style.upper size (value / 4096) in
      omega (arith, one, two)

  pub page_short : length (page_text style value) ≤ 16
  page_short = let long = page_long in let high = size_high in omega (arith, long, high)

  pub page_all : list_all is_hex_digit (page_text style value) ≡ true
  page_all = all_append is_hex_digit (hex_of style.upper size (value / 4096)) (codes "000") (hex_all style.upper size (value / 4096)) refl

  pub page_word : IsWord (page_text style value)
  page_word = let long = page_long in digits_are_word (page_text style value) (omega (arith, long)) page_all

  pub page_read : value < 2 ^ 64 → number_in (hex_number (page_text style value)) ≡ Some (value / 4096 * 4096)
  page_read fits =
      let long = page_long in
      let short = page_short in
      let total : style.digits + (13 - style.digits) ≡ 13 = omega (arith, few) in
      let small : value / 4096 < 16 ^ (style.digits + (13 - style.digits)) = subst (λ k. value / 4096 < 16 ^ k) (sym total) (omega (arith, fits)) in
      let zeros : ((value / 4096 * 16 + 0) * 16 + 0) * 16 + 0 ≡ value / 4096 * 4096 = omega arith in
      ap number_in (hex_number-digits (page_text style value) (omega (arith, long)) short page_all)
      ∙ ap Some (fold-append digit_step 0 (hex_of style.upper size (value / 4096)) (codes "000")
      ∙ ap (λ v. digit_step (digit_step (digit_step v 48) 48) 48) (hex_read style.upper size (value / 4096) (count_fits (13 - style.digits) style.digits (value / 4096) small)) ∙ zeros)

-- ---- a range's address

abbrev start_test : ℕ → Bool
start_test range = is_value (range_at (range_start range)) range && nat_lt (range_start range) 0x100000

abbrev end_test : ℕ → Bool
end_test range = is_value (range_at (range_start (range + 1) - 1 + 1)) (range + 1) && nat_lt (range_start (range + 1) - 1) 0x100000

pub record IsRange (first last : ℕ) : Type 0 where
  pub first_read : range_at (range_start first) ≡ Some first
  pub first_small : range_start first < 0x100000
  pub last_read : range_at (range_start last - 1 + 1) ≡ Some last
  pub last_small : range_start last - 1 < 0x100000

pub range_read : (first last : ℕ) → first < 88 → 0 < last → last ≤ 88 → IsRange first last
range_read first last low some high =
    let start = and_parts (is_value (range_at (range_start first)) first) (nat_lt (range_start first) 0x100000) (passes start_test 88 first refl low) in
    let back : last - 1 + 1 ≡ last = omega (arith, some) in
    let tested = subst (λ range. (is_value (range_at (range_start range - 1 + 1)) range && nat_lt (range_start range - 1) 0x100000) ≡ true) back (passes end_test 88 (last - 1) refl (omega (arith, some, high))) in
    let end = and_parts (is_value (range_at (range_start last - 1 + 1)) last) (nat_lt (range_start last - 1) 0x100000) tested in
    record {
      first_read = some_value (range_at (range_start first)) first start.0;
      first_small = less (range_start first) start.1;
      last_read = some_value (range_at (range_start last - 1 + 1)) last end.0;
      last_small = less (range_start last - 1) end.1;
    }
  where
    less : (a : ℕ) → nat_lt a 0x100000 ≡ true → a < 0x100000
    less a is = grind (arith, nat_tests, is)
