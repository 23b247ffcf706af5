-- Rows that are apart read no line both.
use Rattle.std.proofs.Common.{◌≡◌, ◌∙◌, ◌==◌, ◌&&◌, ◌||◌, ◌-◌, ◌+◌, ℕ, ◌⊎◌, inl, inr, zero, suc, Bool, true, false, nat_le, nat_lt, List, [], ◌∷◌, length, drop, take, Option, Some, None, is_some, refl, ap, sym, subst, arith}
use Rattle.std.specs.Prelude.{if◌then◌else◌}
use Rattle.std.proofs.lemmas.Bool.{and_parts, eqb-true}
use Rattle.std.proofs.lemmas.Bool.Decides.{nat_tests}
use Rattle.std.proofs.lemmas.List.{drop-drop}
use Rattle.mt_text.specs.Text.{ends_word, without_return}
use Rattle.mt_rows.specs.declared.row.Kind.{Kind}
use Rattle.mt_rows.specs.declared.row.Kind.TheVariants.{Blank, Mark, Ex, Hexadecimal, Decimal, Between, Number, Figure}
use Rattle.mt_rows.specs.declared.row.Fields.{Fields}
use Rattle.mt_rows.specs.Scan.{Item, and_then, has, is_end, is_within, items, no_fields, pushed, run_size, scan}
use Rattle.mt_rows.specs.Scan.Item.{byte, last, run}
use Rattle.mt_rows.specs.Printed.{Relation, are_apart, relation}
use Rattle.mt_rows.specs.Printed.Relation.{alike, apart, around, crossing, inside}
use Rattle.mt_rows.specs.Apart.{reads, rows_apart}
use Rattle.mt_rows.specs.Laws.{OneRow}
use Rattle.mt_rows.proofs.Prints.{ends_apart, few, kinds_apart, not_true}

-- ---- what isn't read shows nothing

unread : (size : ℕ) (items : List Item) (rest : List ℕ) (fields : Fields) → reads items rest ≡ false → scan size items rest fields ≡ None
unread size [] rest fields is = rw is refl
unread size (byte b ∷ items) [] fields is = refl
unread size (byte b ∷ items) (x ∷ xs) fields is = by (b == x) is (unread size items xs fields)
  where
    by : (test : Bool) → (test && reads items xs) ≡ false → (reads items xs ≡ false → scan size items xs fields ≡ None) → (if test then scan size items xs fields else None) ≡ None
    by true is later = later is
    by false is later = refl
unread size (last ∷ items) [] fields is = unread size items [] fields is
unread size (last ∷ items) (x ∷ xs) fields is = refl
unread size (run kind least most ∷ items) rest fields is =
    by (is_within least most (run_size kind rest)) is (pushed kind (size - length rest) (take (run_size kind rest) rest) fields) (λ more. unread size items (drop (run_size kind rest) rest) more)
  where
    by : (test : Bool) → (test && reads items (drop (run_size kind rest) rest)) ≡ false → (read : Option Fields)
        → ((more : Fields) → reads items (drop (run_size kind rest) rest) ≡ false → scan size items (drop (run_size kind rest) rest) more ≡ None)
        → (if test then and_then read (scan size items (drop (run_size kind rest) rest)) else None) ≡ None
    by true is None later = refl
    by true is (Some more) later = later more is
    by false is read later = refl

-- ---- runs of two kinds

none : (kind : Kind) (x : ℕ) (xs : List ℕ) → has kind x ≡ false → run_size kind (x ∷ xs) ≡ 0
none kind x xs is = rw is refl

one_more : (kind : Kind) (x : ℕ) (xs : List ℕ) → has kind x ≡ true → run_size kind (x ∷ xs) ≡ suc (run_size kind xs)
one_more kind x xs is = rw is refl

inside_has : (a b : Kind) (x : ℕ) → relation a b ≡ inside → has a x ≡ true → has b x ≡ true
inside_has Blank Blank x is there = cc is
inside_has Mark Mark x is there = cc is
inside_has Between Between x is there = cc is
inside_has Blank Between x is there = grind (arith, nat_tests)
inside_has Ex Mark x is there = grind (arith, nat_tests)
inside_has Hexadecimal Mark x is there = grind (arith, nat_tests)
inside_has Decimal Mark x is there = grind (arith, nat_tests)
inside_has Decimal Hexadecimal x is there = grind (arith, nat_tests)
inside_has Number Mark x is there = grind (arith, nat_tests)
inside_has Figure Mark x is there = grind (arith, nat_tests)
inside_has Ex Number x is there = grind (arith, nat_tests)
inside_has Hexadecimal Number x is there = grind (arith, nat_tests)
inside_has Decimal Number x is there = grind (arith, nat_tests)
inside_has Ex Figure x is there = grind (arith, nat_tests)
inside_has Hexadecimal Figure x is there = grind (arith, nat_tests)
inside_has Decimal Figure x is there = grind (arith, nat_tests)
inside_has Number Figure x is there = grind (arith, nat_tests)
inside_has a b x is there = cc is

turned : (a b : Kind) → relation a b ≡ around → relation b a ≡ inside
turned Blank Blank is = cc is
turned Ex Ex is = cc is
turned Decimal Decimal is = cc is
turned Between Blank is = refl
turned Mark Ex is = refl
turned Mark Hexadecimal is = refl
turned Mark Decimal is = refl
turned Mark Number is = refl
turned Mark Figure is = refl
turned Hexadecimal Decimal is = refl
turned Number Ex is = refl
turned Number Hexadecimal is = refl
turned Number Decimal is = refl
turned Figure Ex is = refl
turned Figure Hexadecimal is = refl
turned Figure Decimal is = refl
turned Figure Number is = refl
turned a b is = cc is

same_kind : (a b : Kind) → relation a b ≡ alike → a ≡ b
same_kind Blank Blank is = refl
same_kind Mark Mark is = refl
same_kind Ex Ex is = refl
same_kind Hexadecimal Hexadecimal is = refl
same_kind Decimal Decimal is = refl
same_kind Between Between is = refl
same_kind Number Number is = refl
same_kind Figure Figure is = refl
same_kind a b is = cc is

-- one of two runs of kinds that are apart is empty
one_empty : (a b : Kind) (rest : List ℕ) → are_apart a b ≡ true → (run_size a rest ≡ 0) ⊎ (run_size b rest ≡ 0)
one_empty a b [] is = inl refl
one_empty a b (x ∷ xs) is = by (has b x) refl
  where
    by : (test : Bool) → has b x ≡ test → (run_size a (x ∷ xs) ≡ 0) ⊎ (run_size b (x ∷ xs) ≡ 0)
    by true there = inl (none a x xs (not_true (has a x) (kinds_apart a b x is there)))
    by false there = inr (none b x xs there)

-- a run lies in that of a kind around its own
shorter : (a b : Kind) (rest : List ℕ) → relation a b ≡ inside → run_size b rest ≡ run_size a rest + run_size b (drop (run_size a rest) rest)
shorter a b [] is = refl
shorter a b (x ∷ xs) is = by (has a x) refl (shorter a b xs is)
  where
    by : (test : Bool) → has a x ≡ test → run_size b xs ≡ run_size a xs + run_size b (drop (run_size a xs) xs) → run_size b (x ∷ xs) ≡ run_size a (x ∷ xs) + run_size b (drop (run_size a (x ∷ xs)) (x ∷ xs))
    by true there later =
        let sum : suc (run_size b xs) ≡ suc (run_size a xs) + run_size b (drop (run_size a xs) xs) = omega (arith, later) in
        rw (there, inside_has a b x is there) sum
    by false there later = rw there (omega arith)

-- ---- rows

-- an empty run
record IsEmpty (least : ℕ) (items : List Item) (rest : List ℕ) : Type 0 where
  small : nat_le 1 least ≡ false
  later : reads items rest ≡ true

empty_run : (kind : Kind) (least most : ℕ) (items : List Item) (rest : List ℕ) → run_size kind rest ≡ 0 → reads (run kind least most ∷ items) rest ≡ true → IsEmpty least items rest
empty_run kind least most items rest is one =
    let p = and_parts (is_within least most (run_size kind rest)) (reads items (drop (run_size kind rest) rest)) one in
    record {
      small = few least most (subst (λ n. is_within least most n ≡ true) is p.0);
      later = subst (λ n. reads items (drop n rest) ≡ true) is p.1;
    }

no_run : (kind : Kind) (rest : List ℕ) → are_apart kind Blank ≡ true → is_end rest ≡ true → run_size kind rest ≡ 0
no_run kind [] is ends = refl
no_run kind (x ∷ xs) is ends = none kind x xs (not_true (has kind x) (ends_apart kind x is ends))

or_else : (test other : Bool) → elim test [ true ↦ true | false ↦ other ] ≡ true → test ≡ false → other ≡ true
or_else true other is wrong = cc wrong
or_else false other is wrong = is

less_one : (least most size : ℕ) → is_within least most (suc size) ≡ true → is_within (least - 1) (most - 1) size ≡ true
less_one least most size is = grind (arith, nat_tests)

-- sizes of two ranges that don't meet
no_size : (least most fewest highest size : ℕ) → (nat_lt most fewest || nat_lt highest least) ≡ true → is_within least most size ≡ true → is_within fewest highest size ≡ true → ⊥
no_size least most fewest highest size is one two = grind (arith, nat_tests)

up_to : (fewest highest size more : ℕ) → is_within fewest highest (size + more) ≡ true → is_within 0 highest more ≡ true
up_to fewest highest size more is = grind (arith, nat_tests)

both_true : (a b : Bool) → a ≡ true → b ≡ true → (a && b) ≡ true
both_true a b one two = rw (one, two) refl

-- what a run of a kind around another reads behind that
behind_inner : (a b : Kind) (fewest highest : ℕ) (items : List Item) (rest : List ℕ) → relation a b ≡ inside → reads (run b fewest highest ∷ items) rest ≡ true
    → reads (run b 0 highest ∷ items) (drop (run_size a rest) rest) ≡ true
behind_inner a b fewest highest items rest is one =
    let p = and_parts (is_within fewest highest (run_size b rest)) (reads items (drop (run_size b rest) rest)) one in
    let e = shorter a b rest is in
    let within = up_to fewest highest (run_size a rest) (run_size b (drop (run_size a rest) rest)) (subst (λ n. is_within fewest highest n ≡ true) e p.0) in
    let later = subst (λ n. reads items (drop n rest) ≡ true) e p.1 in
    both_true (is_within 0 highest (run_size b (drop (run_size a rest) rest))) (reads items (drop (run_size b (drop (run_size a rest) rest)) (drop (run_size a rest) rest))) within
    (subst (λ xs. reads items xs ≡ true) (sym (drop-drop (run_size b (drop (run_size a rest) rest)) (run_size a rest) rest)) later)

abbrev ReadsNotBoth : ℕ → Type 0
ReadsNotBoth n = (p q : List Item) (rest : List ℕ) → rows_apart n p q ≡ true → reads p rest ≡ true → reads q rest ≡ true → ⊥

next : (n : ℕ) → ReadsNotBoth n → ReadsNotBoth (suc n)
next n fewer [] [] rest is one two = cc is
next n fewer [] (byte b ∷ q) [] is one two = cc two
next n fewer [] (byte b ∷ q) (x ∷ xs) is one two =
    let e = eqb-true b x (and_parts (b == x) (reads q xs) two).0 in
    let other = not_true (ends_word b) is in
    let yes = subst (λ y. ends_word y ≡ true) (sym e) one in
    cc (sym yes ∙ other)
next n fewer [] (run kind least most ∷ q) rest is one two =
    let p = and_parts (are_apart kind Blank) (elim (nat_le 1 least) [ true ↦ true | false ↦ rows_apart n [] q ]) is in
    let empty = empty_run kind least most q rest (no_run kind rest p.0 one) two in
    fewer [] q rest (or_else (nat_le 1 least) (rows_apart n [] q) p.1 empty.small) one empty.later
next n fewer [] (last ∷ q) rest is one two = cc is
next n fewer (last ∷ p) [] rest is one two = cc is
next n fewer (last ∷ p) (last ∷ q) rest is one two = cc is
next n fewer (last ∷ p) (byte b ∷ q) [] is one two = cc two
next n fewer (last ∷ p) (byte b ∷ q) (x ∷ xs) is one two = cc one
next n fewer (last ∷ p) (run kind least most ∷ q) [] is one two =
    let empty = empty_run kind least most q [] refl two in
    fewer (last ∷ p) q [] (or_else (nat_le 1 least) (rows_apart n (last ∷ p) q) is empty.small) one empty.later
next n fewer (last ∷ p) (run kind least most ∷ q) (x ∷ xs) is one two = cc one
next n fewer (byte a ∷ p) (last ∷ q) [] is one two = cc one
next n fewer (byte a ∷ p) (last ∷ q) (x ∷ xs) is one two = cc two
next n fewer (run kind least most ∷ p) (last ∷ q) rest is one two = fewer (last ∷ q) (run kind least most ∷ p) rest is two one
next n fewer (byte b ∷ q) [] [] is one two = cc one
next n fewer (byte b ∷ q) [] (x ∷ xs) is one two =
    let e = eqb-true b x (and_parts (b == x) (reads q xs) one).0 in
    let other = not_true (ends_word b) is in
    let yes = subst (λ y. ends_word y ≡ true) (sym e) two in
    cc (sym yes ∙ other)
next n fewer (run kind least most ∷ q) [] rest is one two =
    let p = and_parts (are_apart kind Blank) (elim (nat_le 1 least) [ true ↦ true | false ↦ rows_apart n q [] ]) is in
    let empty = empty_run kind least most q rest (no_run kind rest p.0 two) one in
    fewer q [] rest (or_else (nat_le 1 least) (rows_apart n q []) p.1 empty.small) empty.later two
next n fewer (byte a ∷ p) (byte b ∷ q) [] is one two = cc one
next n fewer (byte a ∷ p) (byte b ∷ q) (x ∷ xs) is one two =
    let f = and_parts (a == x) (reads p xs) one in
    let g = and_parts (b == x) (reads q xs) two in
    let e : a ≡ b = eqb-true a x f.0 ∙ sym (eqb-true b x g.0) in
    by (a == b) (eq_test a b e) is f.1 g.1
  where
    eq_test : (a b : ℕ) → a ≡ b → (a == b) ≡ true
    eq_test a b e = grind (arith, nat_tests, e)

    by : (test : Bool) → test ≡ true → elim test [ true ↦ rows_apart n p q | false ↦ true ] ≡ true → reads p xs ≡ true → reads q xs ≡ true → ⊥
    by true equal is one two = fewer p q xs is one two
    by false equal is one two = cc equal
next n fewer (byte a ∷ p) (run kind least most ∷ q) [] is one two = cc one
next n fewer (byte a ∷ p) (run kind least most ∷ q) (x ∷ xs) is one two =
    let f = and_parts (a == x) (reads p xs) one in
    let e = sym (eqb-true a x f.0) in
    by (has kind a) refl is f.1 (subst (λ y. reads (byte a ∷ p) (y ∷ xs) ≡ true) e one) (subst (λ y. reads (run kind least most ∷ q) (y ∷ xs) ≡ true) e two)
  where
    by : (test : Bool) → has kind a ≡ test
        → elim test [ true ↦ rows_apart n p (run kind (least - 1) (most - 1) ∷ q) | false ↦ elim (nat_le 1 least) [ true ↦ true | false ↦ rows_apart n (byte a ∷ p) q ] ] ≡ true
        → reads p xs ≡ true → reads (byte a ∷ p) (a ∷ xs) ≡ true → reads (run kind least most ∷ q) (a ∷ xs) ≡ true → ⊥
    by true there is one whole two =
        let g = and_parts (is_within least most (run_size kind (a ∷ xs))) (reads q (drop (run_size kind (a ∷ xs)) (a ∷ xs))) two in
        let long = one_more kind a xs there in
        let within = less_one least most (run_size kind xs) (subst (λ n. is_within least most n ≡ true) long g.0) in
        let later = subst (λ n. reads q (drop n (a ∷ xs)) ≡ true) long g.1 in
        fewer p (run kind (least - 1) (most - 1) ∷ q) xs is one (both_true (is_within (least - 1) (most - 1) (run_size kind xs)) (reads q (drop (run_size kind xs) xs)) within later)
    by false there is one whole two =
        let empty = empty_run kind least most q (a ∷ xs) (none kind a xs there) two in
        fewer (byte a ∷ p) q (a ∷ xs) (or_else (nat_le 1 least) (rows_apart n (byte a ∷ p) q) is empty.small) whole empty.later
next n fewer (run kind least most ∷ p) (byte b ∷ q) rest is one two = fewer (byte b ∷ q) (run kind least most ∷ p) rest is two one
next n fewer (run kind least most ∷ p) (run other fewest highest ∷ q) rest is one two = by (relation kind other) refl is
  where
    f : (is_within least most (run_size kind rest) ≡ true) × (reads p (drop (run_size kind rest) rest) ≡ true)
    f = and_parts (is_within least most (run_size kind rest)) (reads p (drop (run_size kind rest) rest)) one

    g : (is_within fewest highest (run_size other rest) ≡ true) × (reads q (drop (run_size other rest) rest) ≡ true)
    g = and_parts (is_within fewest highest (run_size other rest)) (reads q (drop (run_size other rest) rest)) two

    meet : (test : Bool) → (nat_lt most fewest || nat_lt highest least) ≡ test → elim test [ true ↦ true | false ↦ rows_apart n p q ] ≡ true
        → is_within fewest highest (run_size kind rest) ≡ true → reads q (drop (run_size kind rest) rest) ≡ true → ⊥
    meet true away is within later = no_size least most fewest highest (run_size kind rest) away f.0 within
    meet false meets is within later = fewer p q (drop (run_size kind rest) rest) is f.1 later

    away : (run_size kind rest ≡ 0) ⊎ (run_size other rest ≡ 0) → elim (nat_le 1 least) [ true ↦ true | false ↦ rows_apart n p (run other fewest highest ∷ q) ] ≡ true
        → elim (nat_le 1 fewest) [ true ↦ true | false ↦ rows_apart n (run kind least most ∷ p) q ] ≡ true → ⊥
    away (inl none) first second =
        let empty = empty_run kind least most p rest none one in
        fewer p (run other fewest highest ∷ q) rest (or_else (nat_le 1 least) (rows_apart n p (run other fewest highest ∷ q)) first empty.small) empty.later two
    away (inr none) first second =
        let empty = empty_run other fewest highest q rest none two in
        fewer (run kind least most ∷ p) q rest (or_else (nat_le 1 fewest) (rows_apart n (run kind least most ∷ p) q) second empty.small) one empty.later

    by : (r : Relation) → relation kind other ≡ r
        → elim r [
          | alike ↦ elim (nat_lt most fewest || nat_lt highest least) [ true ↦ true | false ↦ rows_apart n p q ]
          | apart ↦
              elim (nat_le 1 least) [ true ↦ true | false ↦ rows_apart n p (run other fewest highest ∷ q) ]
              && elim (nat_le 1 fewest) [ true ↦ true | false ↦ rows_apart n (run kind least most ∷ p) q ]
          | inside ↦ rows_apart n p (run other 0 highest ∷ q)
          | around ↦ rows_apart n (run kind 0 most ∷ p) q
          | crossing ↦ false
        ] ≡ true → ⊥
    by alike r is =
        let e : run_size other rest ≡ run_size kind rest = ap (λ k. run_size k rest) (sym (same_kind kind other r)) in
        meet (nat_lt most fewest || nat_lt highest least) refl is (subst (λ n. is_within fewest highest n ≡ true) e g.0) (subst (λ n. reads q (drop n rest) ≡ true) e g.1)
    by apart r is =
        let h = and_parts (elim (nat_le 1 least) [ true ↦ true | false ↦ rows_apart n p (run other fewest highest ∷ q) ])
        (elim (nat_le 1 fewest) [ true ↦ true | false ↦ rows_apart n (run kind least most ∷ p) q ]) is in
        away (one_empty kind other rest (rw r refl)) h.0 h.1
    by inside r is = fewer p (run other 0 highest ∷ q) (drop (run_size kind rest) rest) is f.1 (behind_inner kind other fewest highest q rest r two)
    by around r is = fewer (run kind 0 most ∷ p) q (drop (run_size other rest) rest) is (behind_inner other kind least most p rest (turned kind other r) one) g.1
    by crossing r is = cc is

both : (n : ℕ) → ReadsNotBoth n
both zero p q rest is one two = cc is
both (suc n) p q rest is one two = next n (both n) p q rest is one two

-- ---- a line

pub one_row : OneRow
one_row parts others line fields is one = by (reads (items parts) rest) (reads (items others) rest) refl refl
  where
    rest : List ℕ
    rest = without_return line

    by : (first second : Bool) → reads (items parts) rest ≡ first → reads (items others) rest ≡ second → scan (length rest) (items others) rest no_fields ≡ None
    by first false a b = unread (length rest) (items others) rest no_fields b
    by true true a b = absurd (both 200 (items parts) (items others) rest is a b)
    by false true a b = cc (sym (unread (length rest) (items parts) rest no_fields a) ∙ one)
