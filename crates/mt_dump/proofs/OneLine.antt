-- What is said of one line.
use Rattle.std.proofs.Common.{◌≡◌, ℕ, ◌≤◌, List, [], ◌∷◌, length, take, nat_lt, Bool, true, false, ◌==◌, ◌&&◌, not, Ok, Err, Result, refl, arith}
use Rattle.std.proofs.lemmas.Bool.Decides.{nat_tests}
use Rattle.std.specs.Prelude.{codes, ◌||◌, if◌then◌else◌}
use Rattle.std.proofs.lemmas.Bool.{eqb-false}
use Rattle.mt_text.specs.Number.{hex_number, decimal_number, decimal_value, are_digits, is_decimal_digit}
use Rattle.mt_text.specs.declared.fault.NumberFault.{NumberFault}
use Rattle.mt_text.specs.declared.fault.NumberFault.TheVariants.{NotDigit, TooLarge}
use Rattle.mt_text.specs.Text.{words_of, without_ending}
use Rattle.mt_text.specs.Words.{text_of}
use Rattle.mt_text.specs.Words as word
use Rattle.mt_text.specs.declared.place.Place.{Place}
use Rattle.mt_regs.specs.RegisterFile.{low_byte}
use Rattle.mt_dump.specs.Line.{said_of, said_words, said_pair, said_width, said_version, said_section, said_register, is_word, fault_at, place_of}
use Rattle.mt_dump.specs.Reader.{IsSane}
use Rattle.mt_dump.specs.declared.fault.DumpReason.TheVariants.{BadLine, BadWidth, TooManyPairs, BadVersion}
use Rattle.mt_dump.specs.declared.said.Said.TheVariants.{Version, Width, Register}

-- words by their number
pub said_two : (number : ℕ) (words : List (ℕ × List ℕ)) → length words ≡ 2
    → said_words number words ≡ said_pair (word.place_of number words 0) (word.place_of number words 1) (without_ending 58 (text_of words 0)) (text_of words 1)
said_two number [] count = absurd (omega arith)
said_two number (a ∷ []) count = absurd (omega arith)
said_two number (a ∷ b ∷ []) count = refl
said_two number (a ∷ b ∷ c ∷ words) count = absurd (omega arith)

-- the first seven words say what all of them say
pub said_first : (number : ℕ) (words : List (ℕ × List ℕ)) → said_words number (take 7 words) ≡ said_words number words
said_first number [] = refl
said_first number (a ∷ []) = refl
said_first number (a ∷ b ∷ []) = refl
said_first number (a ∷ b ∷ c ∷ words) = refl

-- a decimal number is at most its limit
pub decimal_within : (word : List ℕ) (max number : ℕ) → decimal_number word max ≡ Ok number → number ≤ max
decimal_within word max number is = by (are_digits is_decimal_digit word) (nat_lt 20 (length word)) (nat_lt max (decimal_value word)) refl is
  where
    by : (digits long large : Bool) → nat_lt max (decimal_value word) ≡ large → (if not digits then Err NotDigit else if long || large then Err TooLarge else Ok (decimal_value word)) ≡ Ok number → number ≤ max
    by false long large test is = cc is
    by true true large test is = cc is
    by true false true test is = cc is
    by true false false test is = let e : decimal_value word ≡ number = cc is in let le : decimal_value word ≤ max = grind (arith, nat_tests, test) in omega arith

-- what is said of a line keeps to its bounds
sane_width : (first second : Place) (word : List ℕ) → IsSane (said_width first second (decimal_number word 52))
sane_width first second word = by (decimal_number word 52) refl
  where
    at_least : (width : ℕ) → width ≤ 52 → (small : Bool) → nat_lt width 32 ≡ small → IsSane (if small then Err (fault_at BadWidth second) else Ok (Width width first second))
    at_least width narrow true test = tt
    at_least width narrow false test = (grind (arith, nat_tests, test), narrow)

    by : (answer : Result ℕ NumberFault) → decimal_number word 52 ≡ answer → IsSane (said_width first second answer)
    by (Err NotDigit) is = tt
    by (Err TooLarge) is = tt
    by (Ok width) is = at_least width (decimal_within word 52 width is) (nat_lt width 32) refl

sane_version : (first second : Place) (word : List ℕ) → IsSane (said_version first second (decimal_number word 2))
sane_version first second word = by (decimal_number word 2) refl
  where
    at_least : (version : ℕ) → version ≤ 2 → (none : Bool) → (version == 0) ≡ none → IsSane (if none then Err (fault_at BadVersion second) else Ok (Version version first))
    at_least version few true test = tt
    at_least version few false test = (grind (arith, nat_tests, test), few)

    by : (answer : Result ℕ NumberFault) → decimal_number word 2 ≡ answer → IsSane (said_version first second answer)
    by (Err NotDigit) is = tt
    by (Err TooLarge) is = tt
    by (Ok version) is = at_least version (decimal_within word 2 version is) (version == 0) refl

sane_section : (first second : Place) (word : List ℕ) → IsSane (said_section first second (decimal_number word 15))
sane_section first second word = by (decimal_number word 15) refl
  where
    by : (answer : Result ℕ NumberFault) → decimal_number word 15 ≡ answer → IsSane (said_section first second answer)
    by (Err NotDigit) is = tt
    by (Err TooLarge) is = tt
    by (Ok number) is = decimal_within word 15 number is

sane_register : (first second : Place) (number value : Result ℕ NumberFault) → IsSane (said_register first second number value)
sane_register first second (Err fault) value = tt
sane_register first second (Ok number) (Err fault) = tt
sane_register first second (Ok number) (Ok value) = by (number == 0xfe) (nat_lt 32 (low_byte value)) refl refl
  where
    by : (cap many : Bool) → (number == 0xfe) ≡ cap → nat_lt 32 (low_byte value) ≡ many → IsSane (if cap && many then Err (fault_at TooManyPairs second) else Ok (Register number value first second))
    by true true is test = tt
    by true false is test = λ same. grind (arith, nat_tests, test)
    by false many is test = λ same. absurd (eqb-false _ _ is same)

sane_pair : (first second : Place) (name value : List ℕ) → IsSane (said_pair first second name value)
sane_pair first second name value = by (is_word (codes "maxphyaddr") name) (is_word (codes "version") name) (is_word (codes "cpu") name)
  where
    by : (width version section : Bool) → IsSane (if width then said_width first second (decimal_number value 52) else if version then said_version first second (decimal_number value 2)
        else if section then said_section first second (decimal_number value 15) else said_register first second (hex_number name) (hex_number value))
    by true version section = sane_width first second value
    by false true section = sane_version first second value
    by false false true = sane_section first second value
    by false false false = sane_register first second (hex_number name) (hex_number value)

sane_words : (number : ℕ) (words : List (ℕ × List ℕ)) → IsSane (said_words number words)
sane_words number [] = tt
sane_words number (first ∷ []) = tt
sane_words number (first ∷ second ∷ []) = sane_pair (place_of number first) (place_of number second) (without_ending 58 first.1) second.1
sane_words number (first ∷ second ∷ third ∷ more) = tt

pub is_sane : (number : ℕ) (line : List ℕ) → IsSane (said_of number line)
is_sane number line = by (nat_lt 4096 (length line))
  where
    by : (long : Bool) → IsSane (if long then Err (fault_at BadLine (record { line = number; column = 4097 })) else said_words number (words_of line))
    by true = tt
    by false = sane_words number (words_of line)
