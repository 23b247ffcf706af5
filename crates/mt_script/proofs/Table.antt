-- What each row of the table has, the row of a word has.
use Rattle.std.proofs.Common.{◌≡◌, ℕ, ◌≤◌, refl, Bool, true, false, List, [], ◌∷◌, Some, lit≤}
use Rattle.std.specs.Prelude.{if◌then◌else◌, IfSome}
use Rattle.std.specs.List.{AllByRecursion}
use Rattle.mt_dump.specs.Line.{is_word}
use Rattle.mt_script.specs.Rows.{table, row_in, row_of}
use Rattle.mt_script.specs.declared.row.Row.{Row}

row_in_all : (P : Row → Type 0) (entries : List (List ℕ × Row)) (word : List ℕ) → AllByRecursion (λ entry. P entry.1) entries → IfSome (row_in word entries) P
row_in_all P [] word all = tt
row_in_all P (entry ∷ entries) word all = by (is_word entry.0 word) (row_in_all P entries word all.1)
  where
    by : (is : Bool) → IfSome (row_in word entries) P → IfSome (if is then Some entry.1 else row_in word entries) P
    by true later = all.0
    by false later = later

pub row_all : (P : Row → Type 0) → AllByRecursion (λ entry. P entry.1) table → (word : List ℕ) → IfSome (row_of word) P
row_all P all word = row_in_all P table word all

-- the same, where what a row has may rest on its word
row_in_by_word : (P : Row → Type 0) (entries : List (List ℕ × Row)) (word : List ℕ) → AllByRecursion (λ entry. is_word entry.0 word ≡ true → P entry.1) entries → IfSome (row_in word entries) P
row_in_by_word P [] word all = tt
row_in_by_word P (entry ∷ entries) word all = by (is_word entry.0 word) refl (row_in_by_word P entries word all.1)
  where
    by : (is : Bool) → is_word entry.0 word ≡ is → IfSome (row_in word entries) P → IfSome (if is then Some entry.1 else row_in word entries) P
    by true is later = all.0 is
    by false is later = later

pub row_by_word : (P : Row → Type 0) (word : List ℕ) → AllByRecursion (λ entry. is_word entry.0 word ≡ true → P entry.1) table → IfSome (row_of word) P
row_by_word P word all = row_in_by_word P table word all

-- no line may have more than six words
abbrev pub IsShort : Row → Type 0
IsShort row = (row.least ≤ 6) × (row.most ≤ 6)

pub rows_short : (word : List ℕ) → IfSome (row_of word) IsShort
rows_short = row_all IsShort (two, (one, (three, (two, (three, (four, (two, (six, (three, (two, (three, (three, (one, (one, (one, (one, (one, (two, (one, (one, (one, (two, (three, tt)))))))))))))))))))))))
  where
    one : (1 ≤ 6) × (1 ≤ 6)
    one = (lit≤ tt, lit≤ tt)

    two : (2 ≤ 6) × (2 ≤ 6)
    two = (lit≤ tt, lit≤ tt)

    three : (3 ≤ 6) × (3 ≤ 6)
    three = (lit≤ tt, lit≤ tt)

    four : (4 ≤ 6) × (4 ≤ 6)
    four = (lit≤ tt, lit≤ tt)

    six : (5 ≤ 6) × (6 ≤ 6)
    six = (lit≤ tt, lit≤ tt)
