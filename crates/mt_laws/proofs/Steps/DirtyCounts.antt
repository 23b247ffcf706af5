-- How many dirty words lines have, and one less after a write-back.
use Rattle.std.proofs.Common.{◌≡◌, ◌≢◌, ℕ, zero, suc, ◌+◌, ◌<◌, ◌==◌, List, [], ◌∷◌, Some, None, Option, Bool, true, false, refl, sym, ap, ◌∙◌, arith}
use Rattle.std.specs.Prelude.{if◌then◌else◌, cond, not, is_some}
use Rattle.std.specs.List.{count_by}
use Rattle.std.proofs.lemmas.Bool.{eqb-true}
use Rattle.mt_cache.specs.declared.line.CacheLine.{CacheLine}
use Rattle.mt_cache.specs.Lines.{eight, is_dirty, find_line, change_line, clean_word, first_dirty_word}
use Rattle.mt_machine.specs.Update.{dirty_count}
use Rattle.mt_laws.proofs.Barrier.Ranks.{and_left, and_right}
use Rattle.mt_laws.proofs.Words.BitLaws.{clear_same, clear_other}
use Rattle.mt_laws.proofs.Words.LineLists.{Apart}
use Rattle.mt_laws.proofs.Words.StepLaws.{NoDirty, no_dirty_word}

abbrev one_if : Bool → ℕ
one_if b = cond b 1 0

count_eight : (p : ℕ → Bool) → count_by p eight ≡ one_if (p 0) + one_if (p 1) + one_if (p 2) + one_if (p 3) + one_if (p 4) + one_if (p 5) + one_if (p 6) + one_if (p 7)
count_eight p = omega arith

-- one test less passes
count_less : (p q : ℕ → Bool) (w : ℕ) → w < 8 → p w ≡ true → q w ≡ false → ((i : ℕ) → i < 8 → i ≢ w → q i ≡ p i) → count_by q eight + 1 ≡ count_by p eight
count_less p q zero low on off same =
    let a = count_eight p in
    let b = count_eight q in
    let c : one_if (p 0) ≡ 1 = ap one_if on in
    let d : one_if (q 0) ≡ 0 = ap one_if off in
    let e1 : one_if (q 1) ≡ one_if (p 1) = ap one_if (same 1 (omega arith) (λ g. absurd (omega arith))) in
    let e2 : one_if (q 2) ≡ one_if (p 2) = ap one_if (same 2 (omega arith) (λ g. absurd (omega arith))) in
    let e3 : one_if (q 3) ≡ one_if (p 3) = ap one_if (same 3 (omega arith) (λ g. absurd (omega arith))) in
    let e4 : one_if (q 4) ≡ one_if (p 4) = ap one_if (same 4 (omega arith) (λ g. absurd (omega arith))) in
    let e5 : one_if (q 5) ≡ one_if (p 5) = ap one_if (same 5 (omega arith) (λ g. absurd (omega arith))) in
    let e6 : one_if (q 6) ≡ one_if (p 6) = ap one_if (same 6 (omega arith) (λ g. absurd (omega arith))) in
    let e7 : one_if (q 7) ≡ one_if (p 7) = ap one_if (same 7 (omega arith) (λ g. absurd (omega arith))) in
    omega arith
count_less p q (suc zero) low on off same =
    let a = count_eight p in
    let b = count_eight q in
    let c : one_if (p 1) ≡ 1 = ap one_if on in
    let d : one_if (q 1) ≡ 0 = ap one_if off in
    let e0 : one_if (q 0) ≡ one_if (p 0) = ap one_if (same 0 (omega arith) (λ g. absurd (omega arith))) in
    let e2 : one_if (q 2) ≡ one_if (p 2) = ap one_if (same 2 (omega arith) (λ g. absurd (omega arith))) in
    let e3 : one_if (q 3) ≡ one_if (p 3) = ap one_if (same 3 (omega arith) (λ g. absurd (omega arith))) in
    let e4 : one_if (q 4) ≡ one_if (p 4) = ap one_if (same 4 (omega arith) (λ g. absurd (omega arith))) in
    let e5 : one_if (q 5) ≡ one_if (p 5) = ap one_if (same 5 (omega arith) (λ g. absurd (omega arith))) in
    let e6 : one_if (q 6) ≡ one_if (p 6) = ap one_if (same 6 (omega arith) (λ g. absurd (omega arith))) in
    let e7 : one_if (q 7) ≡ one_if (p 7) = ap one_if (same 7 (omega arith) (λ g. absurd (omega arith))) in
    omega arith
count_less p q (suc (suc zero)) low on off same =
    let a = count_eight p in
    let b = count_eight q in
    let c : one_if (p 2) ≡ 1 = ap one_if on in
    let d : one_if (q 2) ≡ 0 = ap one_if off in
    let e0 : one_if (q 0) ≡ one_if (p 0) = ap one_if (same 0 (omega arith) (λ g. absurd (omega arith))) in
    let e1 : one_if (q 1) ≡ one_if (p 1) = ap one_if (same 1 (omega arith) (λ g. absurd (omega arith))) in
    let e3 : one_if (q 3) ≡ one_if (p 3) = ap one_if (same 3 (omega arith) (λ g. absurd (omega arith))) in
    let e4 : one_if (q 4) ≡ one_if (p 4) = ap one_if (same 4 (omega arith) (λ g. absurd (omega arith))) in
    let e5 : one_if (q 5) ≡ one_if (p 5) = ap one_if (same 5 (omega arith) (λ g. absurd (omega arith))) in
    let e6 : one_if (q 6) ≡ one_if (p 6) = ap one_if (same 6 (omega arith) (λ g. absurd (omega arith))) in
    let e7 : one_if (q 7) ≡ one_if (p 7) = ap one_if (same 7 (omega arith) (λ g. absurd (omega arith))) in
    omega arith
count_less p q (suc (suc (suc zero))) low on off same =
    let a = count_eight p in
    let b = count_eight q in
    let c : one_if (p 3) ≡ 1 = ap one_if on in
    let d : one_if (q 3) ≡ 0 = ap one_if off in
    let e0 : one_if (q 0) ≡ one_if (p 0) = ap one_if (same 0 (omega arith) (λ g. absurd (omega arith))) in
    let e1 : one_if (q 1) ≡ one_if (p 1) = ap one_if (same 1 (omega arith) (λ g. absurd (omega arith))) in
    let e2 : one_if (q 2) ≡ one_if (p 2) = ap one_if (same 2 (omega arith) (λ g. absurd (omega arith))) in
    let e4 : one_if (q 4) ≡ one_if (p 4) = ap one_if (same 4 (omega arith) (λ g. absurd (omega arith))) in
    let e5 : one_if (q 5) ≡ one_if (p 5) = ap one_if (same 5 (omega arith) (λ g. absurd (omega arith))) in
    let e6 : one_if (q 6) ≡ one_if (p 6) = ap one_if (same 6 (omega arith) (λ g. absurd (omega arith))) in
    let e7 : one_if (q 7) ≡ one_if (p 7) = ap one_if (same 7 (omega arith) (λ g. absurd (omega arith))) in
    omega arith
count_less p q (suc (suc (suc (suc zero)))) low on off same =
    let a = count_eight p in
    let b = count_eight q in
    let c : one_if (p 4) ≡ 1 = ap one_if on in
    let d : one_if (q 4) ≡ 0 = ap one_if off in
    let e0 : one_if (q 0) ≡ one_if (p 0) = ap one_if (same 0 (omega arith) (λ g. absurd (omega arith))) in
    let e1 : one_if (q 1) ≡ one_if (p 1) = ap one_if (same 1 (omega arith) (λ g. absurd (omega arith))) in
    let e2 : one_if (q 2) ≡ one_if (p 2) = ap one_if (same 2 (omega arith) (λ g. absurd (omega arith))) in
    let e3 : one_if (q 3) ≡ one_if (p 3) = ap one_if (same 3 (omega arith) (λ g. absurd (omega arith))) in
    let e5 : one_if (q 5) ≡ one_if (p 5) = ap one_if (same 5 (omega arith) (λ g. absurd (omega arith))) in
    let e6 : one_if (q 6) ≡ one_if (p 6) = ap one_if (same 6 (omega arith) (λ g. absurd (omega arith))) in
    let e7 : one_if (q 7) ≡ one_if (p 7) = ap one_if (same 7 (omega arith) (λ g. absurd (omega arith))) in
    omega arith
count_less p q (suc (suc (suc (suc (suc zero))))) low on off same =
    let a = count_eight p in
    let b = count_eight q in
    let c : one_if (p 5) ≡ 1 = ap one_if on in
    let d : one_if (q 5) ≡ 0 = ap one_if off in
    let e0 : one_if (q 0) ≡ one_if (p 0) = ap one_if (same 0 (omega arith) (λ g. absurd (omega arith))) in
    let e1 : one_if (q 1) ≡ one_if (p 1) = ap one_if (same 1 (omega arith) (λ g. absurd (omega arith))) in
    let e2 : one_if (q 2) ≡ one_if (p 2) = ap one_if (same 2 (omega arith) (λ g. absurd (omega arith))) in
    let e3 : one_if (q 3) ≡ one_if (p 3) = ap one_if (same 3 (omega arith) (λ g. absurd (omega arith))) in
    let e4 : one_if (q 4) ≡ one_if (p 4) = ap one_if (same 4 (omega arith) (λ g. absurd (omega arith))) in
    let e6 : one_if (q 6) ≡ one_if (p 6) = ap one_if (same 6 (omega arith) (λ g. absurd (omega arith))) in
    let e7 : one_if (q 7) ≡ one_if (p 7) = ap one_if (same 7 (omega arith) (λ g. absurd (omega arith))) in
    omega arith
count_less p q (suc (suc (suc (suc (suc (suc zero)))))) low on off same =
    let a = count_eight p in
    let b = count_eight q in
    let c : one_if (p 6) ≡ 1 = ap one_if on in
    let d : one_if (q 6) ≡ 0 = ap one_if off in
    let e0 : one_if (q 0) ≡ one_if (p 0) = ap one_if (same 0 (omega arith) (λ g. absurd (omega arith))) in
    let e1 : one_if (q 1) ≡ one_if (p 1) = ap one_if (same 1 (omega arith) (λ g. absurd (omega arith))) in
    let e2 : one_if (q 2) ≡ one_if (p 2) = ap one_if (same 2 (omega arith) (λ g. absurd (omega arith))) in
    let e3 : one_if (q 3) ≡ one_if (p 3) = ap one_if (same 3 (omega arith) (λ g. absurd (omega arith))) in
    let e4 : one_if (q 4) ≡ one_if (p 4) = ap one_if (same 4 (omega arith) (λ g. absurd (omega arith))) in
    let e5 : one_if (q 5) ≡ one_if (p 5) = ap one_if (same 5 (omega arith) (λ g. absurd (omega arith))) in
    let e7 : one_if (q 7) ≡ one_if (p 7) = ap one_if (same 7 (omega arith) (λ g. absurd (omega arith))) in
    omega arith
count_less p q (suc (suc (suc (suc (suc (suc (suc zero))))))) low on off same =
    let a = count_eight p in
    let b = count_eight q in
    let c : one_if (p 7) ≡ 1 = ap one_if on in
    let d : one_if (q 7) ≡ 0 = ap one_if off in
    let e0 : one_if (q 0) ≡ one_if (p 0) = ap one_if (same 0 (omega arith) (λ g. absurd (omega arith))) in
    let e1 : one_if (q 1) ≡ one_if (p 1) = ap one_if (same 1 (omega arith) (λ g. absurd (omega arith))) in
    let e2 : one_if (q 2) ≡ one_if (p 2) = ap one_if (same 2 (omega arith) (λ g. absurd (omega arith))) in
    let e3 : one_if (q 3) ≡ one_if (p 3) = ap one_if (same 3 (omega arith) (λ g. absurd (omega arith))) in
    let e4 : one_if (q 4) ≡ one_if (p 4) = ap one_if (same 4 (omega arith) (λ g. absurd (omega arith))) in
    let e5 : one_if (q 5) ≡ one_if (p 5) = ap one_if (same 5 (omega arith) (λ g. absurd (omega arith))) in
    let e6 : one_if (q 6) ≡ one_if (p 6) = ap one_if (same 6 (omega arith) (λ g. absurd (omega arith))) in
    omega arith
count_less p q (suc (suc (suc (suc (suc (suc (suc (suc w)))))))) low on off same = absurd (omega arith)

count_none : (p : ℕ → Bool) → ((i : ℕ) → i < 8 → p i ≡ false) → count_by p eight ≡ 0
count_none p off =
    let a = count_eight p in
    let e0 : one_if (p 0) ≡ 0 = ap one_if (off 0 (omega arith)) in
    let e1 : one_if (p 1) ≡ 0 = ap one_if (off 1 (omega arith)) in
    let e2 : one_if (p 2) ≡ 0 = ap one_if (off 2 (omega arith)) in
    let e3 : one_if (p 3) ≡ 0 = ap one_if (off 3 (omega arith)) in
    let e4 : one_if (p 4) ≡ 0 = ap one_if (off 4 (omega arith)) in
    let e5 : one_if (p 5) ≡ 0 = ap one_if (off 5 (omega arith)) in
    let e6 : one_if (p 6) ≡ 0 = ap one_if (off 6 (omega arith)) in
    let e7 : one_if (p 7) ≡ 0 = ap one_if (off 7 (omega arith)) in
    omega arith

pub none_dirty_count : (ls : List CacheLine) → NoDirty ls → dirty_count ls ≡ 0
none_dirty_count [] h = refl
none_dirty_count (l ∷ ls) h =
    let none : first_dirty_word l ≡ None = none_of (first_dirty_word l) (and_left _ _ h) in
    let a = count_none (is_dirty l) (no_dirty_word l none) in
    let b = none_dirty_count ls (and_right (not (is_some (first_dirty_word l))) _ h) in
    omega arith
  where
    none_of : (o : Option ℕ) → not (is_some o) ≡ true → o ≡ None
    none_of None h = refl
    none_of (Some w) h = absurd (cc)

unchanged : (n w : ℕ) (ls : List CacheLine) → find_line n ls ≡ None → dirty_count (change_line n (clean_word w) ls) ≡ dirty_count ls
unchanged n w [] h = refl
unchanged n w (l ∷ ls) h = one (l.number == n) h (λ g. unchanged n w ls g)
  where
    one : (b : Bool) → (if b then Some l else find_line n ls) ≡ None → (find_line n ls ≡ None → dirty_count (change_line n (clean_word w) ls) ≡ dirty_count ls) → dirty_count ((if b then clean_word w l else l) ∷ change_line n (clean_word w) ls) ≡ dirty_count (l ∷ ls)
    one true g rest = absurd (cc)
    one false g rest = ap (λ (x : ℕ). count_by (is_dirty l) eight + x) (rest g)

pub one_dirty_less : (n w : ℕ) (ls : List CacheLine) (l : CacheLine) → Apart ls → find_line n ls ≡ Some l → w < 8 → is_dirty l w ≡ true → dirty_count (change_line n (clean_word w) ls) + 1 ≡ dirty_count ls
one_dirty_less n w [] l apart h low on = absurd (cc)
one_dirty_less n w (x ∷ ls) l apart h low on = one (x.number == n) refl h (λ g. one_dirty_less n w ls l apart.1 g low on)
  where
    one : (b : Bool) → (x.number == n) ≡ b → (if b then Some x else find_line n ls) ≡ Some l → (find_line n ls ≡ Some l → dirty_count (change_line n (clean_word w) ls) + 1 ≡ dirty_count ls)
        → dirty_count ((if b then clean_word w x else x) ∷ change_line n (clean_word w) ls) + 1 ≡ dirty_count (x ∷ ls)
    one true is g rest =
        let e : x ≡ l = cc in
        let on_x : is_dirty x w ≡ true = ap (λ (y : CacheLine). is_dirty y w) e ∙ on in
        let none : find_line n ls ≡ None = ap (λ i. find_line i ls) (sym (eqb-true x.number n is)) ∙ apart.0 in
        let a = count_less (is_dirty x) (is_dirty (clean_word w x)) w low on_x (clear_same x.dirty w low) (λ i within other. clear_other x.dirty w i low within other) in
        let b = unchanged n w ls none in
        omega arith
    one false is g rest = let r = rest g in omega arith
