-- What `tidy` writes is a dump: its first line is a comment.
use Rattle.std.proofs.Common.{◌≡◌, ◌<◌, ◌≤◌, ◌^◌, ℕ, true, not, List, [], ◌∷◌, ◌++◌, length, refl, sym, ap, subst, arith}
use Rattle.std.specs.Prelude.{codes, decimal}
use Rattle.std.specs.List.{list_all}
use Rattle.std.specs.Str.Parse.{AllDigits}
use Rattle.std.proofs.lemmas.Bool.Decides.{nat_tests}
use Rattle.std.proofs.lemmas.Fmt.{decimal_is_IsNumeral, length-decimal-le}
use Rattle.std.proofs.lemmas.List.{append_assoc}
use Rattle.std.proofs.lemmas.Str.Parse.{tells_digits}
use Rattle.mt_text.specs.Text.{is_line_end}
use Rattle.mt_dump.specs.Canon.{canon}
use Rattle.mt_dump.specs.Dumps.{Dump}
use Rattle.mt_dump.specs.Dump.{Shown}
use Rattle.mt_dump.proofs.Comments.{shown_behind_comment}
use Rattle.mt_answers.specs.Lines.{used_line}

digit_is_no_end : (digit : ℕ) → 48 ≤ digit → not (is_line_end digit) ≡ true
digit_is_no_end digit above = grind (arith, nat_tests)

digits_have_no_end : (digits : List ℕ) → AllDigits 10 digits → list_all (λ b. not (is_line_end b)) digits ≡ true
digits_have_no_end [] all = refl
digits_have_no_end (digit ∷ digits) all =
    let parts = tells_digits.parts digit digits all in
    rw (digit_is_no_end digit parts.0.0) (digits_have_no_end digits parts.1)

pub tidied_shown : (used : ℕ) (dump : Dump) → used < 2 ^ 64 → Shown (canon dump) dump → Shown (used_line used ++ canon dump) dump
tidied_shown used dump small shown =
    let few : length (decimal used) ≤ 20 = length-decimal-le 20 used (omega arith) (omega arith) small in
    subst (λ text. Shown text dump)
    (ap (λ rest. codes "# used " ++ rest) (sym (append_assoc (decimal used) (10 ∷ []) (canon dump))))
    (shown_behind_comment (codes " used " ++ decimal used) (canon dump) dump (digits_have_no_end (decimal used) (decimal_is_IsNumeral used small).0.1) (omega arith) shown)
