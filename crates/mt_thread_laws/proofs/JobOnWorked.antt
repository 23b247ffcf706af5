-- Facts on the worked systems with pages of their own.
use Rattle.std.proofs.Common.{◌≡◌, ◌≢◌, ◌∙◌, ap, sym, refl, arith, ℕ, zero, suc, ◌%◌, ◌^◌, ◌<◌, ◌≤◌, ◌==◌, Bool, true, false, ◌||◌, List, [], ◌∷◌, get_or, Some, inl}
use Rattle.std.specs.Prelude.{slice_get}
use Rattle.std.proofs.lemmas.Bool.{eqb-true}
use Rattle.mt_machine.specs.Memory.{AreApart, IsMemory, Memory, Window, window_end}
use Rattle.mt_machine.specs.System.{Processor}
use Rattle.mt_private.specs.Own.{IsOwner}
use Rattle.mt_private.specs.Pages.{names}
use Rattle.mt_thread_laws.specs.Worked.{first_page, line_at, marked, owner, sharing}

page_of_owner : (n page : ℕ) → names page (owner n) ≡ true → page ≡ n
page_of_owner n page h = one (n == page) refl h
  where
    one : (b : Bool) → (n == page) ≡ b → (b || false || false || false || false) ≡ true → page ≡ n
    one true is h = sym (eqb-true n page is)
    one false is h = absurd (cc)

-- the first of two owners, over any memory
pub first_owns : (m : Memory) → IsOwner first_page 0 (record { processors = owner 0x100 ∷ owner 0x200 ∷ []; memory = m })
first_owns m = record {
  processor = owner 0x100;
  at = refl;
  own = λ page named. ap first_page (page_of_owner 0x100 page named);
  others = others;
}
  where
    second : (page : ℕ) → first_page page ≡ true → (b : Bool) → names page (owner 0x200) ≡ b → b ≡ false
    second page is true named = let x = eqb-true page 0x100 is in let y = page_of_owner 0x200 page named in absurd (omega arith)
    second page is false named = refl

    others : (j : ℕ) (q : Processor) → j ≢ 0 → slice_get (owner 0x100 ∷ owner 0x200 ∷ []) j ≡ Some q → (page : ℕ) → first_page page ≡ true → names page q ≡ false
    others zero q differ at page is = absurd (differ refl)
    others (suc zero) q differ at page is = let e : owner 0x200 ≡ q = cc in ap (names page) (sym e) ∙ second page is (names page (owner 0x200)) refl
    others (suc (suc j)) q differ at page is = absurd (cc)

pub not_sharing : IsOwner first_page 0 sharing → ⊥
not_sharing h = let e : true ≡ false = h.others 1 (owner 0x100) (λ e. absurd (omega arith)) refl 0x100 refl in cc

abbrev windows : List Window
windows = line_at 0x100000 ∷ line_at 0x200000 ∷ []

pub is_memory : IsMemory marked.memory
is_memory = record { some_lines = lines; aligned = aligned; bounded = bounded; apart = apart; counted = refl }
  where
    lines : (k : ℕ) (d : Window) → k < 2 → 0 < (get_or windows k d).lines
    lines zero d within = omega arith
    lines (suc zero) d within = omega arith
    lines (suc (suc k)) d within = absurd (omega arith)

    aligned : (k : ℕ) (d : Window) → k < 2 → (get_or windows k d).base % 64 ≡ 0
    aligned zero d within = refl
    aligned (suc zero) d within = refl
    aligned (suc (suc k)) d within = absurd (omega arith)

    bounded : (k : ℕ) (d : Window) → k < 2 → window_end (get_or windows k d) ≤ 2 ^ 52
    bounded zero d within = omega arith
    bounded (suc zero) d within = omega arith
    bounded (suc (suc k)) d within = absurd (omega arith)

    apart : (i j : ℕ) (d : Window) → i < j → j < 2 → AreApart (get_or windows i d) (get_or windows j d)
    apart zero zero d low within = absurd (omega arith)
    apart zero (suc zero) d low within = inl (omega arith)
    apart (suc i) (suc zero) d low within = absurd (omega arith)
    apart (suc i) zero d low within = absurd (omega arith)
    apart i (suc (suc j)) d low within = absurd (omega arith)
