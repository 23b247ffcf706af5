-- A list in which one processor is changed, where what is done leaves the others.
use Rattle.std.proofs.Common.{◌≡◌, ◌≢◌, ◌∙◌, ap, sym, refl, arith, ℕ, zero, suc, ◌+◌, ◌<◌, ◌==◌, Bool, true, false, List, [], ◌∷◌, length, set, map, Some, eq-eqb}
use Rattle.std.specs.Prelude.{if◌then◌else◌, slice_get}
use Rattle.std.specs.List.{fold, remove}
use Rattle.mt_machine.specs.Memory.{Memory}
use Rattle.mt_machine.specs.System.{Processor}
use Rattle.mt_machine.specs.Bus.{others_from}

-- what is so of each processor but the one at k
abbrev pub ElseAll : (Processor → Type 0) → ℕ → List Processor → Type 0
ElseAll P k ps = (j : ℕ) (r : Processor) → j ≢ k → slice_get ps j ≡ Some r → P r

pub else_first : (P : Processor → Type 0) (k : ℕ) (p : Processor) (ps : List Processor) → ElseAll P (suc k) (p ∷ ps) → P p
else_first P k p ps h = h 0 p (λ e. absurd (omega arith)) refl

pub else_rest : (P : Processor → Type 0) (k : ℕ) (p : Processor) (ps : List Processor) → ElseAll P (suc k) (p ∷ ps) → ElseAll P k ps
else_rest P k p ps h j r apart at = h (suc j) r (λ e. apart (omega arith)) at

-- behind the first
pub rest_all : (P : Processor → Type 0) (p : Processor) (ps : List Processor) → ElseAll P 0 (p ∷ ps) → (j : ℕ) (r : Processor) → slice_get ps j ≡ Some r → P r
rest_all P p ps h j r at = h (suc j) r (λ e. absurd (omega arith)) at

abbrev EachIs : (Processor → Type 0) → List Processor → Type 0
EachIs P ps = (j : ℕ) (r : Processor) → slice_get ps j ≡ Some r → P r

each_rest : (P : Processor → Type 0) (p : Processor) (ps : List Processor) → EachIs P (p ∷ ps) → EachIs P ps
each_rest P p ps h j r at = h (suc j) r at

map_all : (f : Processor → Processor) (ps : List Processor) → EachIs (λ r. f r ≡ r) ps → map f ps ≡ ps
map_all f [] h = refl
map_all f (p ∷ ps) h = let e = h 0 p refl in let r = map_all f ps (each_rest (λ r. f r ≡ r) p ps h) in λ i. e i ∷ r i

pub map_one : (f : Processor → Processor) (ps : List Processor) (k : ℕ) (q : Processor) → ElseAll (λ r. f r ≡ r) k ps → map f (set ps k q) ≡ set ps k (f q)
map_one f [] k q h = refl
map_one f (p ∷ ps) zero q h = ap (λ rs. f q ∷ rs) (map_all f ps (rest_all (λ r. f r ≡ r) p ps h))
map_one f (p ∷ ps) (suc k) q h =
    let e = else_first (λ r. f r ≡ r) k p ps h in
    let r = map_one f ps k q (else_rest (λ r. f r ≡ r) k p ps h) in
    λ i. e i ∷ r i

fold_all : (f : Memory → Processor → Memory) (ps : List Processor) (m : Memory) → EachIs (λ r. (n : Memory) → f n r ≡ n) ps → fold f m ps ≡ m
fold_all f [] m h = refl
fold_all f (p ∷ ps) m h = ap (λ n. fold f n ps) (h 0 p refl m) ∙ fold_all f ps m (each_rest (λ r. (n : Memory) → f n r ≡ n) p ps h)

pub fold_one : (f : Memory → Processor → Memory) (ps : List Processor) (k : ℕ) (q : Processor) (m : Memory) → k < length ps → ElseAll (λ r. (n : Memory) → f n r ≡ n) k ps → fold f m (set ps k q) ≡ f m q
fold_one f [] k q m within h = absurd (omega arith)
fold_one f (p ∷ ps) zero q m within h = fold_all f ps (f m q) (rest_all (λ r. (n : Memory) → f n r ≡ n) p ps h)
fold_one f (p ∷ ps) (suc k) q m within h =
    ap (λ n. fold f n (set ps k q)) (else_first (λ r. (n : Memory) → f n r ≡ n) k p ps h m)
    ∙ fold_one f ps k q m (omega arith) (else_rest (λ r. (n : Memory) → f n r ≡ n) k p ps h)

pub fold_none : (f : Memory → Processor → Memory) (ps : List Processor) (k : ℕ) (q : Processor) (m : Memory) → ElseAll (λ r. (n : Memory) → f n r ≡ n) k ps → fold f m (remove (set ps k q) k) ≡ m
fold_none f [] zero q m h = refl
fold_none f [] (suc k) q m h = refl
fold_none f (p ∷ ps) zero q m h = fold_all f ps m (rest_all (λ r. (n : Memory) → f n r ≡ n) p ps h)
fold_none f (p ∷ ps) (suc k) q m h =
    ap (λ n. fold f n (remove (set ps k q) k)) (else_first (λ r. (n : Memory) → f n r ≡ n) k p ps h m)
    ∙ fold_none f ps k q m (else_rest (λ r. (n : Memory) → f n r ≡ n) k p ps h)

others_all : (i k : ℕ) (f : Processor → Processor) (ps : List Processor) → EachIs (λ r. f r ≡ r) ps → others_from i k f ps ≡ ps
others_all i k f [] h = refl
others_all i k f (p ∷ ps) h =
    let e = one (i == k) in
    let r = others_all (i + 1) k f ps (each_rest (λ r. f r ≡ r) p ps h) in
    λ j. e j ∷ r j
  where
    one : (b : Bool) → (if b then p else f p) ≡ p
    one true = refl
    one false = h 0 p refl

pub others_one : (i k n : ℕ) (f : Processor → Processor) (ps : List Processor) (q : Processor) → i + k ≡ n → ElseAll (λ r. f r ≡ r) k ps → others_from i n f (set ps k q) ≡ set ps k q
others_one i k n f [] q sum h = refl
others_one i zero n f (p ∷ ps) q sum h =
    let e : (if i == n then q else f q) ≡ q = ap (λ (b : Bool). if b then q else f q) (eq-eqb i n (omega arith)) in
    let r = others_all (i + 1) n f ps (rest_all (λ r. f r ≡ r) p ps h) in
    λ j. e j ∷ r j
others_one i (suc k) n f (p ∷ ps) q sum h =
    let e = one (i == n) in
    let r = others_one (i + 1) k n f ps q (omega arith) (else_rest (λ r. f r ≡ r) k p ps h) in
    λ j. e j ∷ r j
  where
    one : (b : Bool) → (if b then p else f p) ≡ p
    one true = refl
    one false = else_first (λ r. f r ≡ r) k p ps h

pub set_back : (ps : List Processor) (k : ℕ) (q : Processor) → slice_get ps k ≡ Some q → set ps k q ≡ ps
set_back [] k q at = refl
set_back (p ∷ ps) zero q at = let e : p ≡ q = cc in ap (λ (r : Processor). r ∷ ps) (sym e)
set_back (p ∷ ps) (suc k) q at = ap (λ rs. p ∷ rs) (set_back ps k q at)

pub other_at : (ps : List Processor) (j k : ℕ) (q : Processor) → j ≢ k → slice_get (set ps k q) j ≡ slice_get ps j
other_at [] j k q apart = refl
other_at (p ∷ ps) zero zero q apart = absurd (apart refl)
other_at (p ∷ ps) zero (suc k) q apart = refl
other_at (p ∷ ps) (suc j) zero q apart = refl
other_at (p ∷ ps) (suc j) (suc k) q apart = other_at ps j k q (λ e. apart (ap suc e))
