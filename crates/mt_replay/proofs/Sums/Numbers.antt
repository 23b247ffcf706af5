-- The numbers of texts, one after the other.
use Rattle.std.proofs.Common.{◌≡◌, ◌∙◌, ap, sym, refl, inl, inr, arith, ℕ, suc, ◌+◌, ◌-◌, ◌%◌, ◌^◌, ◌≤◌, ◌<◌, min, cond, Bool, true, false, List, [], ◌∷◌, ◌++◌, drop, length, take, append_assoc, Result}
use Rattle.std.specs.Prelude.{◌⊎◌, Option, count_by, nat_le, sum_by}
use Rattle.std.specs.List.{onto_first}
use Rattle.std.specs.Result.{result_unwrap_or}
use Rattle.std.proofs.lemmas.Bool.{cases_Bool}
use Rattle.std.proofs.lemmas.Bool.Decides.{nat_tests}
use Rattle.std.proofs.lemmas.List.{take_all}
use Rattle.std.proofs.lemmas.List.Sums.{fold-append, sum_by-append, sum_by-cons}
use Rattle.mt_text.specs.Text.{is_line_end, lines_of}
use Rattle.mt_text.specs.Number.{hex_number}
use Rattle.mt_text.specs.declared.fault.NumberFault.{NumberFault}
use Rattle.mt_output.specs.Lines.{line}
use Rattle.mt_replay.specs.ReplayState.{ReplayState}
use Rattle.mt_replay.specs.Summary.{is_complete, memory_sum, totals, updates_in, value_in}
use Rattle.mt_replay.specs.Summing.{no_totals, with_line, with_lines, with_memory, with_text}
use Rattle.mt_replay.specs.declared.summing.Totals.{Totals}

-- ---- whole lines

-- a text of whole lines: what stands behind it begins a line of its own
abbrev pub IsWhole : List ℕ → Type 0
IsWhole text = (more : List ℕ) → lines_of (text ++ more) ≡ lines_of text ++ lines_of more

pub none_whole : IsWhole []
none_whole more = refl

HasSome : List (List ℕ) → Type 0
HasSome [] = ⊥
HasSome (first ∷ lines) = Unit {0}

some_onto : (byte : ℕ) (lines : List (List ℕ)) → HasSome (onto_first byte lines)
unfolding HasSome
some_onto byte [] = tt
some_onto byte (first ∷ lines) = tt

onto_more : (byte : ℕ) (lines more : List (List ℕ)) → HasSome lines → onto_first byte (lines ++ more) ≡ onto_first byte lines ++ more
unfolding HasSome
onto_more byte [] more some = absurd some
onto_more byte (first ∷ lines) more some = refl

has_line : (text : List ℕ) → HasSome (lines_of (line text))
unfolding HasSome
has_line [] = tt
has_line (byte ∷ bytes) = elim (cases_Bool (is_line_end byte)) [
  | inl hit ↦ rw hit tt
  | inr miss ↦ rw miss (some_onto byte (lines_of (line bytes)))
]

pub line_whole : (text : List ℕ) → IsWhole (line text)
line_whole [] more = refl
line_whole (byte ∷ bytes) more = elim (cases_Bool (is_line_end byte)) [
  | inl hit ↦ rw hit (ap (λ l. [] ∷ l) (line_whole bytes more))
  | inr miss ↦ rw miss (ap (onto_first byte) (line_whole bytes more) ∙ onto_more byte (lines_of (line bytes)) (lines_of more) (has_line bytes))
]

pub both_whole : (a b : List ℕ) → IsWhole a → IsWhole b → IsWhole (a ++ b)
both_whole a b first second more =
    ap lines_of (append_assoc a b more) ∙ first (b ++ more) ∙ ap (λ l. lines_of a ++ l) (second more) ∙ sym (append_assoc (lines_of a) (lines_of b) (lines_of more))
    ∙ ap (λ l. l ++ lines_of more) (sym (first b))

-- ---- what they count

pub updates_both : (a b : List ℕ) → IsWhole a → updates_in (a ++ b) ≡ updates_in a + updates_in b
updates_both a b whole = ap (count_by is_complete) (whole b) ∙ sum_by-append (λ l. cond (is_complete l) 1 0) (lines_of a) (lines_of b)

pub texts_both : (t : Totals) (a b : List ℕ) → IsWhole a → with_text (with_text t a) b ≡ with_text t (a ++ b)
texts_both t a b whole = sym (ap (with_lines t) (whole b) ∙ fold-append with_line t (lines_of a) (lines_of b))

alike : (a b c d x y z : ℕ) → a ≡ x → b ≡ y → c ≡ z → ◌≡◌ {A = Totals} (record { lines = a; updates = b; values = c; memory = d }) (record { lines = x; updates = y; values = z; memory = d })
alike a b c d x y z p q r = λ i. record { lines = p i; updates = q i; values = r i; memory = d }

-- the numbers with these lines behind them
abbrev behind_these : Totals → List (List ℕ) → Totals
behind_these t lines = record {
  lines = min (t.lines + length lines) (2 ^ 64 - 1);
  updates = (t.updates + count_by is_complete lines) % 2 ^ 64;
  values = (t.values + sum_by value_in lines) % 2 ^ 64;
  memory = t.memory;
}

least : (a n m : ℕ) → min (min (a + 1) m + n) m ≡ min (a + suc n) m
least a n m = grind (arith, nat_tests)

least_low : (a m : ℕ) → a ≤ m → a ≡ min (a + 0) m
least_low a m low = grind (arith, nat_tests)

sum_more : (a x n total : ℕ) → total ≡ x + n → ((a + x) % 2 ^ 64 + n) % 2 ^ 64 ≡ (a + total) % 2 ^ 64
sum_more a x n total is = omega arith

sum_none : (a : ℕ) → a < 2 ^ 64 → a ≡ (a + 0) % 2 ^ 64
sum_none a low = omega arith

counted : (lines : List (List ℕ)) (t : Totals) → t.lines ≤ 2 ^ 64 - 1 → t.updates < 2 ^ 64 → t.values < 2 ^ 64 → with_lines t lines ≡ behind_these t lines
counted [] t lines updates values =
    alike t.lines t.updates t.values t.memory (min (t.lines + 0) (2 ^ 64 - 1)) ((t.updates + 0) % 2 ^ 64) ((t.values + 0) % 2 ^ 64)
    (least_low t.lines (2 ^ 64 - 1) lines) (sum_none t.updates updates) (sum_none t.values values)
counted (first ∷ rest) t lines updates values =
    let one : ℕ = cond (is_complete first) 1 0 in
    counted rest (with_line t first) (grind (arith, nat_tests)) (omega arith) (omega arith)
    ∙ alike (min (min (t.lines + 1) (2 ^ 64 - 1) + length rest) (2 ^ 64 - 1)) (((t.updates + one) % 2 ^ 64 + count_by is_complete rest) % 2 ^ 64) (((t.values + value_in first) % 2 ^ 64 + sum_by value_in rest) % 2 ^ 64) t.memory
    (min (t.lines + suc (length rest)) (2 ^ 64 - 1)) ((t.updates + count_by is_complete (first ∷ rest)) % 2 ^ 64) ((t.values + sum_by value_in (first ∷ rest)) % 2 ^ 64)
    (least t.lines (length rest) (2 ^ 64 - 1))
    (sum_more t.updates one (count_by is_complete rest) (count_by is_complete (first ∷ rest)) (sum_by-cons (λ l. cond (is_complete l) 1 0) first rest))
    (sum_more t.values (value_in first) (sum_by value_in rest) (sum_by value_in (first ∷ rest)) (sum_by-cons value_in first rest))

none_more : (n : ℕ) → 0 + n ≡ n
none_more n = omega arith

-- the numbers of a whole text, with the words of the last state
pub totals_are : (text : List ℕ) (last : Option ReplayState) (t : Totals) → updates_in text < 2 ^ 64 → t ≡ with_text no_totals text → with_memory t last ≡ totals text last
totals_are text last t few is =
    let all = is ∙ counted (lines_of text) no_totals (omega arith) (omega arith) (omega arith) in
    ap (λ (x : Totals). with_memory x last) all
    ∙ alike (min (0 + length (lines_of text)) (2 ^ 64 - 1)) ((0 + updates_in text) % 2 ^ 64) ((0 + sum_by value_in (lines_of text)) % 2 ^ 64) (memory_sum last % 2 ^ 64)
    (min (length (lines_of text)) (2 ^ 64 - 1)) (updates_in text) (sum_by value_in (lines_of text) % 2 ^ 64) (ap (λ n. min n (2 ^ 64 - 1)) (none_more (length (lines_of text)))) (omega (arith, few)) (ap (λ n. n % 2 ^ 64) (none_more (sum_by value_in (lines_of text))))

-- ---- the value of a line

abbrev value_behind : Bool → List ℕ → ℕ
value_behind hit text = cond hit (result_unwrap_or (hex_number (take 16 (drop 6 text))) 0) 0

sixteen : (digits : List ℕ) (count : ℕ) → count ≡ min (length digits) 16 → take count digits ≡ take 16 digits
sixteen digits count is = by (cases_Bool (nat_le 16 (length digits)))
  where
    by : (nat_le 16 (length digits) ≡ true) ⊎ (nat_le 16 (length digits) ≡ false) → take count digits ≡ take 16 digits
    by (inl many) = let all : count ≡ 16 = grind (arith, nat_tests, is, many) in ap (λ n. take n digits) all
    by (inr few) = take_all count digits (grind (arith, nat_tests, is, few)) ∙ sym (take_all 16 digits (grind (arith, nat_tests, few)))

pub value_found : (text digits : List ℕ) (hit : Bool) (count : ℕ) (found : Result ℕ NumberFault) → hit ≡ true → digits ≡ drop 6 text → count ≡ min (length digits) 16 → found ≡ hex_number (take count digits)
    → result_unwrap_or found 0 ≡ value_behind hit text
value_found text digits hit count found is same few read =
    ap (λ found. result_unwrap_or found 0) (read ∙ ap hex_number (sixteen digits count few ∙ ap (take 16) same)) ∙ sym (ap (λ b. value_behind b text) is)
