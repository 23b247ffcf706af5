-- With which statuses a run over lines may end, and wrong usage.
use Rattle.std.proofs.Common.{◌≡◌, ◌≢◌, ◌⊎◌, ◌∙◌, ℕ, true, List, Some, ap, inl, inr, refl}
use Rattle.mt_ports.specs.declared.status.Status.{Status}
use Rattle.mt_ports.specs.declared.status.Status.TheVariants.{Done, Refused, Usage, BadText, ReadFault, WriteFault, NoMemory, TooLong, TooFew, Disabled}
use Rattle.mt_answers.specs.declared.command.Command.{Command}
use Rattle.mt_answers.specs.CommandLine.{command_of, reads_input}
use Rattle.mt_answers.specs.Statuses.{MayEnd}

-- a run over lines
pub run_ends : (words : List (List ℕ)) (command : Command) (result : Status)
    → command_of words ≡ Some command → reads_input (Some command) ≡ true → (result ≢ TooFew) × (result ≢ Disabled) → MayEnd (command_of words) result
run_ends words command Done says reads fits = tt
run_ends words command Refused says reads fits = ap reads_input says ∙ reads
run_ends words command Usage says reads fits = tt
run_ends words command BadText says reads fits = ap reads_input says ∙ reads
run_ends words command ReadFault says reads fits = ap reads_input says ∙ reads
run_ends words command WriteFault says reads fits = tt
run_ends words command NoMemory says reads fits = tt
run_ends words command TooLong says reads fits = ap reads_input says ∙ reads
run_ends words command TooFew says reads fits = absurd (fits.0 refl)
run_ends words command Disabled says reads fits = absurd (fits.1 refl)

-- wrong usage
pub usage_ends : (words : List (List ℕ)) (result : Status) → (result ≡ Usage) ⊎ (result ≡ WriteFault) → MayEnd (command_of words) result
usage_ends words result (inl is) = rw is tt
usage_ends words result (inr is) = rw is tt
