-- What a row prints it reads.
use Rattle.std.proofs.Common.{◌≡◌, ◌==◌, ◌&&◌, ◌||◌, ◌-◌, ℕ, Bool, true, false, not, nat_le, List, [], ◌∷◌, ◌++◌, length, Result, Ok, Err, Some, refl, arith}
use Rattle.std.specs.List.{list_all}
use Rattle.std.proofs.Math.Seq.{drop-append_seam, take-append_seam}
use Rattle.std.proofs.lemmas.Bool.{and_parts}
use Rattle.std.proofs.lemmas.Bool.Decides.{nat_tests}
use Rattle.mt_text.specs.Number.{decimal_number, hex_number}
use Rattle.mt_text.specs.Text.{ends_word}
use Rattle.mt_text.specs.declared.fault.NumberFault.{NumberFault}
use Rattle.mt_rows.specs.declared.row.Kind.{Kind}
use Rattle.mt_rows.specs.declared.row.Kind.TheVariants.{Blank, Mark, Ex, Hexadecimal, Decimal, Between, Number, Figure}
use Rattle.mt_rows.specs.declared.row.Fields.{Fields}
use Rattle.mt_rows.specs.Scan.{Item, has, is_marked, is_within, pushed, pushed_number, run_size}
use Rattle.mt_rows.specs.Scan.Item.{byte, last, run}
use Rattle.mt_rows.specs.Printed.{are_apart, fit, is_known, is_number, is_parted, may_follow, noted, noted_number, printed, stops}
use Rattle.mt_rows.specs.Laws.{PrintedIsRead}

-- ---- where a run ends

abbrev pub is_stopped : Kind → List ℕ → Bool
is_stopped kind [] = true
is_stopped kind (x ∷ xs) = not (has kind x)

pub not_true : (test : Bool) → not test ≡ true → test ≡ false
not_true true is = cc is
not_true false is = refl

pub same : (b : ℕ) → (b == b) ≡ true
same b = grind (arith, nat_tests)

pub run_text : (kind : Kind) (text later : List ℕ) → list_all (has kind) text ≡ true → is_stopped kind later ≡ true → run_size kind (text ++ later) ≡ length text
run_text kind [] [] all stop = refl
run_text kind [] (x ∷ xs) all stop = rw (not_true (has kind x) stop) refl
run_text kind (x ∷ text) later all stop =
    let parts = and_parts (has kind x) (list_all (has kind) text) all in
    rw (parts.0, run_text kind text later parts.1 stop) refl

pub kinds_apart : (a b : Kind) (x : ℕ) → are_apart a b ≡ true → has b x ≡ true → not (has a x) ≡ true
kinds_apart Blank Mark x is there = grind (arith, nat_tests)
kinds_apart Blank Ex x is there = grind (arith, nat_tests)
kinds_apart Blank Hexadecimal x is there = grind (arith, nat_tests)
kinds_apart Blank Decimal x is there = grind (arith, nat_tests)
kinds_apart Blank Number x is there = grind (arith, nat_tests)
kinds_apart Blank Figure x is there = grind (arith, nat_tests)
kinds_apart Between Ex x is there = grind (arith, nat_tests)
kinds_apart Between Hexadecimal x is there = grind (arith, nat_tests)
kinds_apart Between Decimal x is there = grind (arith, nat_tests)
kinds_apart Between Number x is there = grind (arith, nat_tests)
kinds_apart Between Figure x is there = grind (arith, nat_tests)
kinds_apart Ex Between x is there = grind (arith, nat_tests)
kinds_apart Hexadecimal Between x is there = grind (arith, nat_tests)
kinds_apart Decimal Between x is there = grind (arith, nat_tests)
kinds_apart Number Blank x is there = grind (arith, nat_tests)
kinds_apart Number Between x is there = grind (arith, nat_tests)
kinds_apart Figure Blank x is there = grind (arith, nat_tests)
kinds_apart Figure Between x is there = grind (arith, nat_tests)
kinds_apart Mark Blank x is there = grind (arith, nat_tests)
kinds_apart Ex Blank x is there = grind (arith, nat_tests)
kinds_apart Ex Hexadecimal x is there = grind (arith, nat_tests)
kinds_apart Ex Decimal x is there = grind (arith, nat_tests)
kinds_apart Hexadecimal Blank x is there = grind (arith, nat_tests)
kinds_apart Hexadecimal Ex x is there = grind (arith, nat_tests)
kinds_apart Decimal Blank x is there = grind (arith, nat_tests)
kinds_apart Decimal Ex x is there = grind (arith, nat_tests)
kinds_apart a b x is there = cc is

-- no byte in front of which a word ends stands in a run that isn't blank
pub ends_apart : (kind : Kind) (x : ℕ) → are_apart kind Blank ≡ true → ends_word x ≡ true → not (has kind x) ≡ true
ends_apart Blank x is ends = cc is
ends_apart Mark x is ends = rw ends refl
ends_apart Ex x is ends = grind (arith, nat_tests)
ends_apart Hexadecimal x is ends = grind (arith, nat_tests)
ends_apart Decimal x is ends = grind (arith, nat_tests)
ends_apart Between x is ends = cc is
ends_apart Number x is ends = grind (arith, nat_tests)
ends_apart Figure x is ends = grind (arith, nat_tests)

-- an empty text is in a run that needs no bytes
pub few : (least most : ℕ) → is_within least most 0 ≡ true → nat_le 1 least ≡ false
few least most within = let p = and_parts (nat_le least 0) (nat_le 0 most) within in by least p.0
  where
    by : (least : ℕ) → nat_le least 0 ≡ true → nat_le 1 least ≡ false
    by least is = grind (arith, nat_tests)

pub or_later : (test later : Bool) → (test || later) ≡ true → test ≡ false → later ≡ true
or_later true later is wrong = cc wrong
or_later false later is wrong = is

stops_there : (kind : Kind) (items : List Item) (texts : List (List ℕ)) (tail : List ℕ) → stops kind items ≡ true → fit items texts ≡ true → may_follow items tail ≡ true
    → is_stopped kind (printed items texts tail) ≡ true
stops_there kind [] texts [] stop fits ends = refl
stops_there kind [] texts (x ∷ xs) stop fits ends = ends_apart kind x stop ends
stops_there kind (last ∷ []) texts [] stop fits ends = refl
stops_there kind (last ∷ []) texts (x ∷ xs) stop fits ends = cc ends
stops_there kind (last ∷ item ∷ items) texts tail stop fits ends = cc ends
stops_there kind (byte b ∷ items) texts tail stop fits ends = stop
stops_there kind (run next least most ∷ items) [] tail stop fits ends = cc fits
stops_there kind (run next least most ∷ items) ([] ∷ texts) tail stop fits ends =
    let p = and_parts (are_apart kind next) (nat_le 1 least || stops kind items) stop in
    let f = and_parts (is_within least most 0 && is_known next []) (fit items texts) fits in
    stops_there kind items texts tail (or_later (nat_le 1 least) (stops kind items) p.1 (few least most (and_parts (is_within least most 0) (is_known next []) f.0).0)) f.1 ends
stops_there kind (run next least most ∷ items) ((x ∷ text) ∷ texts) tail stop fits ends =
    let p = and_parts (are_apart kind next) (nat_le 1 least || stops kind items) stop in
    let f = and_parts (list_all (has next) (x ∷ text) && is_within least most (length (x ∷ text)) && is_known next (x ∷ text)) (fit items texts) fits in
    let e = and_parts (list_all (has next) (x ∷ text) && is_within least most (length (x ∷ text))) (is_known next (x ∷ text)) f.0 in
    let g = and_parts (list_all (has next) (x ∷ text)) (is_within least most (length (x ∷ text))) e.0 in
    kinds_apart kind next x p.0 (and_parts (has next x) (list_all (has next) text) g.0).0

-- ---- the whole row

number_is : (number : Result ℕ NumberFault) (column : ℕ) (fields : Fields) → is_number number ≡ true → pushed_number number column fields ≡ Some (noted_number number column fields)
number_is (Ok number) column fields known = refl
number_is (Err fault) column fields known = cc known

pub pushed_is : (kind : Kind) (column : ℕ) (text : List ℕ) (fields : Fields) → is_known kind text ≡ true → pushed kind column text fields ≡ Some (noted kind column text fields)
pushed_is Blank column text fields known = refl
pushed_is Mark column text fields known = refl
pushed_is Ex column text fields known = refl
pushed_is Hexadecimal column text fields known = number_is (hex_number text) column fields known
pushed_is Decimal column text fields known = number_is (decimal_number text 0xffffffffffffffff) column fields known
pushed_is Between column text fields known = refl
pushed_is Number column text fields known =
    let p = and_parts (not (is_marked text)) (is_number (hex_number text)) known in
    rw (not_true (is_marked text) p.0) (number_is (hex_number text) column fields p.1)
pushed_is Figure column text fields known = refl

pub printed_is_read : PrintedIsRead
printed_is_read size [] texts tail fields parted fits ends = rw ends refl
printed_is_read size (byte b ∷ items) texts tail fields parted fits ends = rw (same b) (printed_is_read size items texts tail fields parted fits ends)
printed_is_read size (last ∷ []) texts [] fields parted fits ends = refl
printed_is_read size (last ∷ []) texts (x ∷ xs) fields parted fits ends = cc ends
printed_is_read size (last ∷ item ∷ items) texts tail fields parted fits ends = cc ends
printed_is_read size (run kind least most ∷ items) [] tail fields parted fits ends = cc fits
printed_is_read size (run kind least most ∷ items) (text ∷ texts) tail fields parted fits ends =
    let p = and_parts (stops kind items) (is_parted items) parted in
    let f = and_parts (list_all (has kind) text && is_within least most (length text) && is_known kind text) (fit items texts) fits in
    let e = and_parts (list_all (has kind) text && is_within least most (length text)) (is_known kind text) f.0 in
    let g = and_parts (list_all (has kind) text) (is_within least most (length text)) e.0 in
    let later = printed items texts tail in
    let column = size - length (text ++ later) in
    let long = run_text kind text later g.0 (stops_there kind items texts tail p.0 f.1 ends) in
    rw (long, g.1, take-append_seam text later, drop-append_seam text later, pushed_is kind column text fields e.1)
    (printed_is_read size items texts tail (noted kind column text fields) p.1 f.1 ends)
