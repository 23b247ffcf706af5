-- Texts that are written one behind the other, or not at all.
use Rattle.std.proofs.Common.{◌≢◌, ℕ, List, ◌++◌, Option, Result, Ok, Err, refl, subst, sym, ap, ◌∙◌, append_assoc}
use Rattle.std.specs.Io.KnownBytes.{Appends}
use Rattle.std.proofs.KnownBytes.{Appends-nil, Appends-trans}
use Rattle.mt_ports.specs.Puts.{Puts}
use Rattle.mt_ports.specs.declared.status.Status.{Status}
use Rattle.mt_ports.specs.declared.status.Status.TheVariants.{Done, Refused, Usage, BadText, ReadFault, WriteFault, NoMemory, TooLong, TooFew, Disabled}
use Rattle.mt_import.specs.Import.{IsWritten}

pub puts_both : {T E : Type 0} (first second : List ℕ) (a b c : Option (List ℕ)) (result : Result T E) → Appends a b first → Puts b c result second → Puts a c result (first ++ second)
puts_both first second a b c (Ok done) p q = Appends-trans a b c first second p q
puts_both first second a b c (Err error) p (front, back, cut, taken) =
    (first ++ front, back, ap (λ (l : List ℕ). first ++ l) cut ∙ sym (append_assoc first front back), Appends-trans a b c first front p taken)

-- At another status than `Done` there is no dump.
pub no_dump : (status : Status) (text : List ℕ) (a : Option (List ℕ)) → status ≢ Done → IsWritten status text → Appends a a text
no_dump Done text a other is = absurd (other refl)
no_dump Refused text a other is = subst (Appends a a) (sym is) (Appends-nil a)
no_dump Usage text a other is = subst (Appends a a) (sym is) (Appends-nil a)
no_dump BadText text a other is = subst (Appends a a) (sym is) (Appends-nil a)
no_dump ReadFault text a other is = absurd is
no_dump WriteFault text a other is = absurd is
no_dump NoMemory text a other is = absurd is
no_dump TooLong text a other is = absurd is
no_dump TooFew text a other is = absurd is
no_dump Disabled text a other is = absurd is
