-- From what a run left in the sink to its text and number.
use Rattle.std.proofs.Common.{◌≡◌, ◌⊎◌, ◌<◌, ℕ, List, [], Some, length, inl, inr, sym, subst, arith}
use Rattle.mt_ports.specs.declared.status.Status.{Status}
use Rattle.mt_ports.specs.declared.status.Status.TheVariants.{Done, Refused, Usage, BadText, ReadFault, WriteFault, NoMemory, TooLong, TooFew, Disabled}
use Rattle.mt_ports.specs.Causes.{StatusHasCause}
use Rattle.mt_output.specs.Written.{Writes}
use Rattle.mt_text.specs.Text.{longest_input}
use Rattle.mt_web.specs.Outcome.{PageOutcome, told, too_long, no_memory, told_number, told_text}

-- an output whose text the sink took
told_as : (output : List ℕ → Status → Type 0) (bytes taken : List ℕ) (status : Status) → output taken status → PageOutcome output bytes (told_text status taken) (told_number status)
told_as output bytes taken Done is = told taken Done is
told_as output bytes taken Refused is = told taken Refused is
told_as output bytes taken Usage is = told taken Usage is
told_as output bytes taken BadText is = told taken BadText is
told_as output bytes taken ReadFault is = told taken ReadFault is
told_as output bytes taken WriteFault is = no_memory
told_as output bytes taken NoMemory is = told taken NoMemory is
told_as output bytes taken TooLong is = told taken TooLong is
told_as output bytes taken TooFew is = told taken TooFew is
told_as output bytes taken Disabled is = told taken Disabled is

-- what holds of the status holds of the result
as_result : (output : List ℕ → Status → Type 0) (bytes taken : List ℕ) (status result : Status) → result ≡ status
    → PageOutcome output bytes (told_text status taken) (told_number status) → PageOutcome output bytes (told_text result taken) (told_number result)
as_result output bytes taken status result is = subst (λ (s : Status). PageOutcome output bytes (told_text s taken) (told_number s)) (sym is)

pub of_writes : (output : List ℕ → Status → Type 0) (bytes text taken : List ℕ) (status result : Status) → output text status
    → Writes text status (Some []) (Some taken) result → PageOutcome output bytes (told_text result taken) (told_number result)
of_writes output bytes text taken status result is (inl (same, took)) =
    as_result output bytes taken status result same (told_as output bytes taken status (subst (λ (t : List ℕ). output t status) (sym took) is))
of_writes output bytes text taken status result is (inr (same, cut)) = as_result output bytes taken WriteFault result same no_memory

nothing_taken : (taken : List ℕ) → Some taken ≡ Some [] → taken ≡ []
nothing_taken taken same = cc same

pub of_nothing : (output : List ℕ → Status → Type 0) (bytes taken : List ℕ) (result : Status) → result ≡ NoMemory → Some taken ≡ Some []
    → PageOutcome output bytes (told_text result taken) (told_number result)
of_nothing output bytes taken result is same = as_result output bytes taken NoMemory result is (rw (nothing_taken taken same) no_memory)

-- a source that never fails gave no read fault
pub of_unread : (output : List ℕ → Status → Type 0) (bytes taken : List ℕ) (result : Status) → StatusHasCause ReadFault 0 0 result → Some taken ≡ Some []
    → (result ≡ ReadFault) ⊎ ((result ≡ TooLong) × (longest_input < length bytes)) → PageOutcome output bytes (told_text result taken) (told_number result)
of_unread output bytes taken result cause same (inl failed) = let never : 0 ≡ 1 = cause.rose failed in absurd (omega (arith, never))
of_unread output bytes taken result cause same (inr (is, long)) = as_result output bytes taken TooLong result is (rw (nothing_taken taken same) (too_long long))
