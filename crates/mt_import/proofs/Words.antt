-- The words of a command line, one after the other.
use Rattle.std.proofs.Common.{◌≡◌, ◌≤◌, ◌<◌, ◌+◌, ℕ, zero, suc, Bool, true, false, List, [], ◌∷◌, ◌++◌, length, drop, map, get_or, Option, Some, None, refl, sym, ap, ◌∙◌, add-one, arith, ◌==◌}
use Rattle.std.proofs.lemmas.Bool.{eqb-true}
use Rattle.mt_regs.specs.RegisterFile.{low_byte}
use Rattle.mt_import.specs.declared.supplied.Given.{Given}
use Rattle.mt_import.specs.Supplied.{Supplied, given_of, value_among, with_word, with_words}

pub sound_push : (registers : List (ℕ × ℕ)) (number value : ℕ) → (number ≡ 0xfe → low_byte value ≤ 32) → ((v : ℕ) → value_among 0xfe registers ≡ Some v → low_byte v ≤ 32)
    → (v : ℕ) → value_among 0xfe (registers ++ (number, value) ∷ []) ≡ Some v → low_byte v ≤ 32
sound_push [] number value sound held v is = by (number == 0xfe) refl is
  where
    by : (test : Bool) → (number == 0xfe) ≡ test → value_among 0xfe ((number, value) ∷ []) ≡ Some v → low_byte v ≤ 32
    by true same is = let e : Some value ≡ Some v = rw same at is in let w : value ≡ v = cc e in rw (← w) (sound (eqb-true number 0xfe same))
    by false apart is = let e : None ≡ Some v = rw apart at is in cc e
sound_push (r ∷ rs) number value sound held v is = by (r.0 == 0xfe) refl (λ later. sound_push rs number value sound later v) is
  where
    by : (test : Bool) → (r.0 == 0xfe) ≡ test → (((w : ℕ) → value_among 0xfe rs ≡ Some w → low_byte w ≤ 32) → value_among 0xfe (rs ++ (number, value) ∷ []) ≡ Some v → low_byte v ≤ 32)
        → value_among 0xfe (r ∷ rs ++ (number, value) ∷ []) ≡ Some v → low_byte v ≤ 32
    by true same later is = let e : Some r.1 ≡ Some v = rw same at is in held v (rw same e)
    by false apart later is = later (λ w found. held w (rw apart found)) (rw apart at is)

pub next_word : {A : Type 0} (f : A → List ℕ) (ws : List A) (i : ℕ) (w : A) → i < length ws → w ≡ get_or ws i w → drop i (map f ws) ≡ f w ∷ drop (i + 1) (map f ws)
next_word {A} f ws i w less is = rw add-one (by ws i less is)
  where
    by : (ws : List A) (i : ℕ) → i < length ws → w ≡ get_or ws i w → drop i (map f ws) ≡ f w ∷ drop (suc i) (map f ws)
    by [] i less is = absurd (omega (arith, less))
    by (x ∷ ws) zero less is = ap (λ y. f y ∷ map f ws) (sym is)
    by (x ∷ ws) (suc i) less is = by ws i (omega (arith, less)) is

pub next_supplied : (supplied : Supplied) (words rest : List (List ℕ)) (word : List ℕ) (given : Option Given) → words ≡ word ∷ rest → given_of word ≡ given
    → with_words (Some supplied) words ≡ with_words (with_word supplied given) rest
next_supplied supplied words rest word given next is = ap (with_words (Some supplied)) next ∙ ap (λ o. with_words (with_word supplied o) rest) is
