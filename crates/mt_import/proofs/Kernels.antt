-- Runs of fixed ranges, and calls of rdmsr.
use Rattle.std.proofs.Common.{◌≡◌, ◌<◌, ◌≤◌, ◌+◌, ◌-◌, ℕ, zero, suc, true, false, ◌==◌, nat_lt, List, length, Option, Some, None, refl, sym, ◌∙◌, ap, arith}
use Rattle.std.proofs.lemmas.Bool.Decides.{nat_tests}
use Rattle.mt_text.specs.Words.{text_of}
use Rattle.mt_text.specs.declared.place.Place.{Place}
use Rattle.mt_import.specs.declared.reading.LineSays.TheVariants.{Nothing, Shows, Turns}
use Rattle.mt_import.specs.declared.reading.Turn.TheVariants.{UnreadCall}
use Rattle.mt_import.specs.Kernel.{all_fixed_shown, fixed_run, types_said}
use Rattle.mt_import.specs.Rdmsr.{announced, call_from, option_at, register_named}

pub some_run : (first end code : ℕ) (place : Place) → first < end → types_said (Some first) (Some end) (Some code) place ≡ Shows (Some 0) (all_fixed_shown (fixed_run first end code place))
some_run first end code place less = let test : nat_lt first end ≡ true = grind (arith, nat_tests, less) in rw test refl

pub no_run : (first end code : ℕ) (place : Place) → end ≤ first → types_said (Some first) (Some end) (Some code) place ≡ Nothing
no_run first end code place more = let test : nat_lt first end ≡ false = grind (arith, nat_tests, more) in rw test refl

same : (a b : ℕ) → a ≡ b → (a == b) ≡ true
same a b e = grind (arith, nat_tests, e)

apart : (a b : ℕ) → (a ≡ b → ⊥) → (a == b) ≡ false
apart a b e = grind (arith, nat_tests, e)

pub call_ends : (options at : ℕ) (processor : Option ℕ) (words : List (ℕ × List ℕ)) → length words ≡ at + 1 → call_from options at processor words ≡ announced processor (register_named (text_of words at))
call_ends zero at processor words is = rw (same (length words) (at + 1) is) refl
call_ends (suc options) at processor words is = rw (same (length words) (at + 1) is) refl

pub call_fails : (options at : ℕ) (processor : Option ℕ) (words : List (ℕ × List ℕ)) → (options ≡ 0 → ⊥) → (length words ≡ at + 1 → ⊥) → option_at at processor words ≡ None
    → call_from options at processor words ≡ Turns UnreadCall
call_fails zero at processor words some more is = absurd (some refl)
call_fails (suc options) at processor words some more is = rw (apart (length words) (at + 1) more, is) refl

pub call_goes_on : (options at size : ℕ) (processor next : Option ℕ) (words : List (ℕ × List ℕ)) → (options ≡ 0 → ⊥) → (length words ≡ at + 1 → ⊥) → option_at at processor words ≡ Some (size, next)
    → call_from (options - 1) (at + size) next words ≡ call_from options at processor words
call_goes_on zero at size processor next words some more is = absurd (some refl)
call_goes_on (suc options) at size processor next words some more is =
    let less : suc options - 1 ≡ options = omega arith in
    ap (λ o. call_from o (at + size) next words) less ∙ sym (rw (apart (length words) (at + 1) more, is) refl)
