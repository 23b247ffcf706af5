-- The lines of a listing, of which those from pair n on aren't written yet.
use Rattle.std.proofs.Common.{◌≡◌, ◌∙◌, ap, refl, sym, ℕ, ◌+◌, ◌<◌, List, [], ◌∷◌, ◌++◌, drop, length, add-one, drop-cons}
use Rattle.mt_regs.specs.RegisterFile.{RegisterFile, pair_at}
use Rattle.mt_proc.specs.Listing.{lines_from, range_line}

abbrev pub lines_left : RegisterFile → ℕ → List ℕ
lines_left f n = lines_from f.width n (drop n f.pairs)

pub next_line : (f : RegisterFile) (n : ℕ) (text : List ℕ) → n < length f.pairs → text ≡ range_line f n → lines_left f n ≡ text ++ lines_left f (n + 1)
next_line f n text within is =
    let next : drop n f.pairs ≡ pair_at f.pairs n ∷ drop (n + 1) f.pairs = rw (add-one, drop-cons f.pairs n (0, 0) within) refl in
    ap (lines_from f.width n) next ∙ ap (λ (l : List ℕ). l ++ lines_left f (n + 1)) (sym is)

drop_past : {A : Type 0} (xs : List A) → drop (length xs) xs ≡ []
drop_past [] = refl
drop_past (x ∷ xs) = drop_past xs

pub none_left : (f : RegisterFile) (n : ℕ) → n ≡ length f.pairs → lines_left f n ≡ []
none_left f n past = ap (lines_from f.width n) (ap (λ (k : ℕ). drop k f.pairs) past ∙ drop_past f.pairs)
