-- What a row reads, step by step.
use Rattle.std.proofs.Common.{zero, suc, ◌∙◌, ◌+◌, ◌-◌, ◌<◌, Some, ap, sym, arith, get_or, drop-drop, ◌≡◌, ◌==◌, ◌&&◌, ℕ, Bool, true, false, List, [], ◌∷◌, length, take, drop, Option, None, refl}
use Rattle.std.specs.Prelude.{if◌then◌else◌}
use Rattle.std.specs.Borrow.{Bor}
use Rattle.mt_rows.specs.declared.row.Run.{Run}
use Rattle.mt_rows.specs.declared.row.Run.TheVariants.{End, Nothing, Of}
use Rattle.mt_rows.specs.declared.row.Fields.{Fields}
use Rattle.mt_rows.specs.Scan.{Item, and_then, behind_run, is_empty, is_within, items, longer, part_read, parts_at, pushed, run_read, run_size, scan, starts_with, with_bytes, with_run}

pub scan_bytes : (size : ℕ) (bytes : List ℕ) (items : List Item) (rest : List ℕ) (fields : Fields)
    → scan size (with_bytes bytes items) rest fields ≡ (if starts_with bytes rest then scan size items (drop (length bytes) rest) fields else None)
scan_bytes size [] items [] fields = refl
scan_bytes size [] items (x ∷ xs) fields = refl
scan_bytes size (b ∷ bytes) items [] fields = refl
scan_bytes size (b ∷ bytes) items (x ∷ xs) fields = by (b == x) (scan_bytes size bytes items xs fields)
  where
    by : (test : Bool) → scan size (with_bytes bytes items) xs fields ≡ (if starts_with bytes xs then scan size items (drop (length bytes) xs) fields else None)
        → (if test then scan size (with_bytes bytes items) xs fields else None) ≡ (if (test && starts_with bytes xs) then scan size items (drop (length bytes) xs) fields else None)
    by true later = later
    by false later = refl

-- what is read behind what was taken
abbrev pub behind : Option (ℕ × Fields) → (ℕ → Fields → Option Fields) → Option Fields
behind None next = None
behind (Some read) next = next read.0 read.1

scan_run : (size : ℕ) (run : Run) (items : List Item) (rest : List ℕ) (fields : Fields)
    → scan size (with_run run items) rest fields ≡ behind (run_read size run rest fields) (λ taken. scan size items (drop taken rest))
scan_run size Nothing items rest fields = refl
scan_run size End items rest fields = by (is_empty rest)
  where
    by : (test : Bool) → (if test then scan size items rest fields else None) ≡ behind (if test then Some (0, fields) else None) (λ taken. scan size items (drop taken rest))
    by true = refl
    by false = refl
scan_run size (Of kind least most) items rest fields = by (is_within least most (run_size kind rest)) (pushed kind (size - length rest) (take (run_size kind rest) rest) fields)
  where
    by : (test : Bool) (fields : Option Fields) → (if test then and_then fields (scan size items (drop (run_size kind rest) rest)) else None)
        ≡ behind (if test then behind_run (run_size kind rest) fields else None) (λ taken. scan size items (drop taken rest))
    by true None = refl
    by true (Some more) = refl
    by false fields = refl

drop_more : (n m : ℕ) (xs : List ℕ) → drop m (drop n xs) ≡ drop (n + m) xs
drop_more n m xs = grind (arith, drop-drop)

scan_part : (size : ℕ) (bytes : List ℕ) (run : Run) (items : List Item) (rest : List ℕ) (fields : Fields)
    → scan size (with_bytes bytes (with_run run items)) rest fields ≡ behind (part_read size bytes run rest fields) (λ taken. scan size items (drop taken rest))
scan_part size bytes run items rest fields = scan_bytes size bytes (with_run run items) rest fields ∙ by (starts_with bytes rest)
  where
    later : (read : Option (ℕ × Fields)) → behind read (λ taken. scan size items (drop taken (drop (length bytes) rest))) ≡ behind (longer (length bytes) read) (λ taken. scan size items (drop taken rest))
    later None = refl
    later (Some read) = ap (λ xs. scan size items xs read.1) (drop_more (length bytes) read.0 rest)

    by : (test : Bool) → (if test then scan size (with_run run items) (drop (length bytes) rest) fields else None)
        ≡ behind (if test then longer (length bytes) (run_read size run (drop (length bytes) rest) fields) else None) (λ taken. scan size items (drop taken rest))
    by true = scan_run size run items (drop (length bytes) rest) fields ∙ later (run_read size run (drop (length bytes) rest) fields)
    by false = refl

pub part_some : (size : ℕ) (bytes : List ℕ) (part : Run) (rest : List ℕ) (fields : Fields) (taken : ℕ) (more : Fields) (later : List ℕ) → starts_with bytes rest ≡ true
    → later ≡ drop (length bytes) rest → Some (taken, more) ≡ run_read size part later fields → Some (length bytes + taken, more) ≡ part_read size bytes part rest fields
part_some size bytes part rest fields taken more later starts is read = rw (starts, ← is, ← read) refl

-- a part in the midst of others
pub scan_at : (size : ℕ) (parts : List (Bor (List ℕ) × Run)) (i : ℕ) (d : Bor (List ℕ) × Run) (rest : List ℕ) (fields : Fields) → i < length parts
    → (read : Option (ℕ × Fields)) → read ≡ part_read size (get_or parts i d).0.now (get_or parts i d).1 rest fields
    → scan size (items (parts_at (drop i parts))) rest fields ≡ behind read (λ taken. scan size (items (parts_at (drop (i + 1) parts))) (drop taken rest))
scan_at size [] i d rest fields less read is = absurd (omega (arith, less))
scan_at size (part ∷ parts) zero d rest fields less read is =
    scan_part size part.0.now part.1 (items (parts_at parts)) rest fields
    ∙ ap (λ r. behind r (λ taken. scan size (items (parts_at parts)) (drop taken rest))) (sym is)
scan_at size (part ∷ parts) (suc i) d rest fields less read is =
    let next : suc i + 1 ≡ suc (i + 1) = omega arith in
    scan_at size parts i d rest fields (omega (arith, less)) read is ∙ ap (λ k. behind read (λ taken. scan size (items (parts_at (drop k (part ∷ parts)))) (drop taken rest))) (sym next)
