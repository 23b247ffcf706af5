-- Rows of which no line is read by two (own).
--     reads items rest      a row reads what is left of a line, whatever it shows
--     rows_apart steps p q      no line is read by both, as so many steps show
--     apart_from parts others      no line is read by both rows
use Rattle.std.specs.Prelude.{ℕ, zero, suc, ◌-◌, ◌==◌, ◌&&◌, ◌||◌, nat_le, nat_lt, not, Bool, true, false, List, [], ◌∷◌, drop}
use Rattle.mt_text.specs.Text.{ends_word}
use Rattle.mt_rows.specs.declared.row.Kind.TheVariants.{Blank}
use Rattle.mt_rows.specs.Scan.{Item, Part, has, is_empty, is_end, is_within, items, run_size}
use Rattle.mt_rows.specs.Scan.Item.{byte, last, run}
use Rattle.mt_rows.specs.Printed.{are_apart, relation}
use Rattle.mt_rows.specs.Printed.Relation.{alike, apart, inside, around, crossing}

abbrev pub reads : List Item → List ℕ → Bool
reads [] rest = is_end rest
reads (byte b ∷ items) [] = false
reads (byte b ∷ items) (x ∷ xs) = b == x && reads items xs
reads (last ∷ items) rest = is_empty rest && reads items rest
reads (run kind least most ∷ items) rest = is_within least most (run_size kind rest) && reads items (drop (run_size kind rest) rest)

abbrev pub rows_apart : ℕ → List Item → List Item → Bool
rows_apart zero p q = false
rows_apart (suc n) [] [] = false
rows_apart (suc n) [] (byte b ∷ q) = not (ends_word b)
rows_apart (suc n) [] (run kind least most ∷ q) = are_apart kind Blank && elim (nat_le 1 least) [ true ↦ true | false ↦ rows_apart n [] q ]
rows_apart (suc n) [] (last ∷ q) = false
rows_apart (suc n) (last ∷ p) [] = false
rows_apart (suc n) (last ∷ p) (last ∷ q) = false
rows_apart (suc n) (last ∷ p) (byte b ∷ q) = true
rows_apart (suc n) (last ∷ p) (run kind least most ∷ q) = elim (nat_le 1 least) [ true ↦ true | false ↦ rows_apart n (last ∷ p) q ]
rows_apart (suc n) (byte a ∷ p) (last ∷ q) = true
rows_apart (suc n) (run kind least most ∷ p) (last ∷ q) = rows_apart n (last ∷ q) (run kind least most ∷ p)
rows_apart (suc n) (byte a ∷ p) [] = not (ends_word a)
rows_apart (suc n) (run kind least most ∷ p) [] = are_apart kind Blank && elim (nat_le 1 least) [ true ↦ true | false ↦ rows_apart n p [] ]
rows_apart (suc n) (byte a ∷ p) (byte b ∷ q) = elim (a == b) [ true ↦ rows_apart n p q | false ↦ true ]
rows_apart (suc n) (byte a ∷ p) (run kind least most ∷ q) =
    elim (has kind a) [
      | true ↦ rows_apart n p (run kind (least - 1) (most - 1) ∷ q)
      | false ↦ elim (nat_le 1 least) [ true ↦ true | false ↦ rows_apart n (byte a ∷ p) q ]
    ]
rows_apart (suc n) (run kind least most ∷ p) (byte b ∷ q) = rows_apart n (byte b ∷ q) (run kind least most ∷ p)
rows_apart (suc n) (run kind least most ∷ p) (run other fewest highest ∷ q) =
    elim (relation kind other) [
      | alike ↦ elim (nat_lt most fewest || nat_lt highest least) [ true ↦ true | false ↦ rows_apart n p q ]
      | apart ↦
          elim (nat_le 1 least) [ true ↦ true | false ↦ rows_apart n p (run other fewest highest ∷ q) ]
          && elim (nat_le 1 fewest) [ true ↦ true | false ↦ rows_apart n (run kind least most ∷ p) q ]
      | inside ↦ rows_apart n p (run other 0 highest ∷ q)
      | around ↦ rows_apart n (run kind 0 most ∷ p) q
      | crossing ↦ false
    ]

abbrev pub apart_from : List Part → List Part → Bool
apart_from parts others = rows_apart 200 (items parts) (items others)

-- no line is read by this row and one of those
abbrev pub all_apart : List Part → List (List Part) → Bool
all_apart parts [] = true
all_apart parts (row ∷ rows) = apart_from parts row && all_apart parts rows
