-- Where a step of a course stands, and what a machine of one processor keeps.
use Rattle.std.proofs.Common.{◌≡◌, ◌∙◌, ap, sym, refl, arith, ℕ, zero, suc, ◌+◌, true, List, [], ◌∷◌, ◌++◌, drop, length, take, nat_lt}
use Rattle.std.specs.Prelude.{slice_index, slice_index_or, replicate, Option, None, Some}
use Rattle.std.specs.Option.{option_map_or}
use Rattle.std.specs.List.{All}
use Rattle.std.proofs.lemmas.Bool.{lt-ltb, ltb-true}
use Rattle.std.proofs.lemmas.List.{take-append-drop}
use Rattle.mt_machine.specs.Memory.{Window, place, word_at}
use Rattle.mt_replay.specs.Steps.{ScriptStep}
use Rattle.mt_replay_laws.specs.WorkedScript.{no_step}

at_step : (steps : List ScriptStep) (k : ℕ) → nat_lt k (length steps) ≡ true → steps ≡ take k steps ++ slice_index_or steps k no_step ∷ drop (suc k) steps
at_step [] k within = absurd (let none = ltb-true k 0 within in omega arith)
at_step (step ∷ steps) zero within = refl
at_step (step ∷ steps) (suc k) within =
    let low = ltb-true (suc k) (suc (length steps)) within in
    ap (λ (rest : List ScriptStep). step ∷ rest) (at_step steps k (lt-ltb k (length steps) (omega arith)))

pub stands : (steps : List ScriptStep) (k count : ℕ) → nat_lt k (length steps) ≡ true
    → steps ≡ take k steps ++ slice_index_or steps k no_step ∷ (take count (drop (k + 1) steps) ++ drop count (drop (k + 1) steps))
stands steps k count within =
    let next : suc k ≡ k + 1 = omega arith in
    at_step steps k within
    ∙ ap (λ (rest : List ScriptStep). take k steps ++ slice_index_or steps k no_step ∷ rest)
    (ap (λ (n : ℕ). drop n steps) next ∙ sym (take-append-drop count (drop (k + 1) steps)))

-- ---- memory of zeros

zeros : (n i : ℕ) → slice_index (replicate n 0) i ≡ 0
zeros zero i = refl
zeros (suc n) zero = refl
zeros (suc n) (suc i) = zeros n i

pub zero_word : (ws : List Window) (n address : ℕ) → word_at (record { windows = ws; words = replicate n 0 }) address ≡ 0
zero_word ws n address = one (place (record { windows = ws; words = replicate n 0 }) address)
  where
    one : (o : Option ℕ) → option_map_or (λ i. slice_index (replicate n 0) i) o 0 ≡ 0
    one None = refl
    one (Some i) = zeros n i

-- ---- lists of one and none

pub alone : {X : Type 0} → (P : X → Type 0) (x : X) → P x → All P (x ∷ [])
alone P x h zero d within = h
alone P x h (suc k) d within = absurd (omega (arith, within))

pub nothing : {X : Type 0} → (P : X → Type 0) → All P []
nothing P k d within = absurd (omega (arith, within))
