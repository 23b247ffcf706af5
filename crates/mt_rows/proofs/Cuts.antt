-- A line that is cut within its last text isn't read.
use Rattle.std.proofs.Common.{◌≡◌, ◌&&◌, ◌||◌, ◌++◌, ◌-◌, ℕ, true, false, nat_le, nat_lt, List, [], ◌∷◌, length, refl, arith}
use Rattle.std.specs.List.{list_all}
use Rattle.std.proofs.Math.Seq.{drop-append_seam, take-append_seam}
use Rattle.std.proofs.lemmas.Bool.{and_parts}
use Rattle.std.proofs.lemmas.Bool.Decides.{nat_tests}
use Rattle.mt_rows.specs.declared.row.Kind.{Kind}
use Rattle.mt_rows.specs.Scan.{Item, has, is_within}
use Rattle.mt_rows.specs.Scan.Item.{byte, last, run}
use Rattle.mt_rows.specs.Printed.{are_apart, is_cut, is_known, is_parted, noted, printed, stops}
use Rattle.mt_rows.specs.Laws.{CutIsNotRead}
use Rattle.mt_rows.proofs.Prints.{few, is_stopped, kinds_apart, or_later, pushed_is, run_text, same}

stops_cut : (kind : Kind) (items : List Item) (texts : List (List ℕ)) → stops kind items ≡ true → is_cut items texts ≡ true → is_stopped kind (printed items texts []) ≡ true
stops_cut kind [] texts stop cut = cc cut
stops_cut kind (byte b ∷ items) texts stop cut = stop
stops_cut kind (last ∷ items) texts stop cut = cc cut
stops_cut kind (run next least most ∷ items) [] stop cut = cc cut
stops_cut kind (run next least most ∷ []) ([] ∷ texts) stop cut = refl
stops_cut kind (run next least most ∷ []) ((x ∷ text) ∷ texts) stop cut =
    let p = and_parts (are_apart kind next) (nat_le 1 least || stops kind []) stop in
    let f = and_parts (list_all (has next) (x ∷ text)) (nat_lt (length (x ∷ text)) least) cut in
    kinds_apart kind next x p.0 (and_parts (has next x) (list_all (has next) text) f.0).0
stops_cut kind (run next least most ∷ item ∷ items) ([] ∷ texts) stop cut =
    let p = and_parts (are_apart kind next) (nat_le 1 least || stops kind (item ∷ items)) stop in
    let f = and_parts (is_within least most 0 && is_known next []) (is_cut (item ∷ items) texts) cut in
    stops_cut kind (item ∷ items) texts (or_later (nat_le 1 least) (stops kind (item ∷ items)) p.1 (few least most (and_parts (is_within least most 0) (is_known next []) f.0).0)) f.1
stops_cut kind (run next least most ∷ item ∷ items) ((x ∷ text) ∷ texts) stop cut =
    let p = and_parts (are_apart kind next) (nat_le 1 least || stops kind (item ∷ items)) stop in
    let f = and_parts (list_all (has next) (x ∷ text) && is_within least most (length (x ∷ text)) && is_known next (x ∷ text)) (is_cut (item ∷ items) texts) cut in
    let e = and_parts (list_all (has next) (x ∷ text) && is_within least most (length (x ∷ text))) (is_known next (x ∷ text)) f.0 in
    let g = and_parts (list_all (has next) (x ∷ text)) (is_within least most (length (x ∷ text))) e.0 in
    kinds_apart kind next x p.0 (and_parts (has next x) (list_all (has next) text) g.0).0

too_short : (least most size : ℕ) → nat_lt size least ≡ true → is_within least most size ≡ false
too_short least most size short = let wrong : nat_le least size ≡ false = by least size short in rw wrong refl
  where
    by : (a b : ℕ) → nat_lt b a ≡ true → nat_le a b ≡ false
    by a b short = grind (arith, nat_tests)

pub cut_is_not_read : CutIsNotRead
cut_is_not_read size [] texts fields parted cut = cc cut
cut_is_not_read size (byte b ∷ items) texts fields parted cut = rw (same b) (cut_is_not_read size items texts fields parted cut)
cut_is_not_read size (last ∷ items) texts fields parted cut = cc cut
cut_is_not_read size (run kind least most ∷ items) [] fields parted cut = cc cut
cut_is_not_read size (run kind least most ∷ []) (text ∷ texts) fields parted cut =
    let f = and_parts (list_all (has kind) text) (nat_lt (length text) least) cut in
    let long = run_text kind text [] f.0 refl in
    rw (long, too_short least most (length text) f.1) refl
cut_is_not_read size (run kind least most ∷ item ∷ items) (text ∷ texts) fields parted cut =
    let p = and_parts (stops kind (item ∷ items)) (is_parted (item ∷ items)) parted in
    let f = and_parts (list_all (has kind) text && is_within least most (length text) && is_known kind text) (is_cut (item ∷ items) texts) cut in
    let e = and_parts (list_all (has kind) text && is_within least most (length text)) (is_known kind text) f.0 in
    let g = and_parts (list_all (has kind) text) (is_within least most (length text)) e.0 in
    let later = printed (item ∷ items) texts [] in
    let column = size - length (text ++ later) in
    let long = run_text kind text later g.0 (stops_cut kind (item ∷ items) texts p.0 f.1) in
    rw (long, g.1, take-append_seam text later, drop-append_seam text later, pushed_is kind column text fields e.1)
    (cut_is_not_read size (item ∷ items) texts (noted kind column text fields) p.1 f.1)
