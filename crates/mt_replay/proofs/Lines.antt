-- The lines of processors, of which those from k on aren't written yet.
use Rattle.std.proofs.Common.{◌≡◌, ◌≤◌, ◌∙◌, ap, sym, arith, ℕ, zero, suc, ◌+◌, List, [], ◌∷◌, ◌++◌, append-nil, drop, length, refl, Some, slice_get}
use Rattle.mt_machine.specs.System.{Processor}
use Rattle.mt_replay.specs.Texts.{processor_line, processor_lines}

drop_here : {A : Type 0} (xs : List A) (k : ℕ) (x : A) → slice_get xs k ≡ Some x → drop k xs ≡ x ∷ drop (suc k) xs
drop_here [] k x at = absurd (cc at)
drop_here (y ∷ ys) zero x at = let e : y ≡ x = cc at in ap (λ z. z ∷ ys) e
drop_here (y ∷ ys) (suc k) x at = drop_here ys k x at

drop_at : {A : Type 0} (xs : List A) (k : ℕ) (x : A) → slice_get xs k ≡ Some x → drop k xs ≡ x ∷ drop (k + 1) xs
drop_at xs k x at = let e : suc k ≡ k + 1 = omega arith in drop_here xs k x at ∙ ap (λ (n : ℕ). x ∷ drop n xs) e

abbrev pub lines_left : List Processor → ℕ → List ℕ
lines_left ps k = processor_lines k (drop k ps)

pub next_line : (ps : List Processor) (k : ℕ) (p : Processor) (text : List ℕ) → slice_get ps k ≡ Some p → text ≡ processor_line k p → lines_left ps k ≡ text ++ lines_left ps (k + 1)
next_line ps k p text at is = ap (processor_lines k) (drop_at ps k p at) ∙ ap (λ (l : List ℕ). l ++ lines_left ps (k + 1)) (sym is)

drop_all : {A : Type 0} (xs : List A) (k : ℕ) → length xs ≤ k → drop k xs ≡ []
drop_all [] zero over = refl
drop_all [] (suc k) over = refl
drop_all (x ∷ xs) zero over = absurd (omega (arith, over))
drop_all (x ∷ xs) (suc k) over = drop_all xs k (omega (arith, over))

-- none is left behind the last
pub none_left : (ps : List Processor) (k : ℕ) (text : List ℕ) → length ps ≤ k → text ++ lines_left ps k ≡ text
none_left ps k text over = ap (λ (xs : List Processor). text ++ processor_lines k xs) (drop_all ps k over) ∙ append-nil text
