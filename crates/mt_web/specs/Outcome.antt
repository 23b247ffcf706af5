-- The text and the number of a run over an input in memory (own).
--     PageOutcome output bytes text number      an output with its status, or nothing if an allocation failed or the input is too long
use Rattle.std.specs.Prelude.{ℕ, ◌<◌, List, [], length}
use Rattle.mt_ports.specs.Exit.{code}
use Rattle.mt_ports.specs.declared.status.Status.{Status}
use Rattle.mt_ports.specs.declared.status.Status.TheVariants.{Done, Refused, Usage, BadText, ReadFault, WriteFault, NoMemory, TooLong, TooFew, Disabled}
use Rattle.mt_text.specs.Text.{longest_input}

pub data PageOutcome (output : List ℕ → Status → Type 0) (bytes : List ℕ) : List ℕ → ℕ → Type 0 where
  told : (text : List ℕ) (status : Status) → output text status → PageOutcome output bytes text (code status)
  too_long : longest_input < length bytes → PageOutcome output bytes [] (code TooLong)
  no_memory : PageOutcome output bytes [] (code NoMemory)

-- The sink grows, so a write fails only if memory is refused. What it took by then isn't told.
abbrev pub told_text : Status → List ℕ → List ℕ
told_text Done taken = taken
told_text Refused taken = taken
told_text Usage taken = taken
told_text BadText taken = taken
told_text ReadFault taken = taken
told_text WriteFault taken = []
told_text NoMemory taken = taken
told_text TooLong taken = taken
told_text TooFew taken = taken
told_text Disabled taken = taken

abbrev pub told_number : Status → ℕ
told_number Done = code Done
told_number Refused = code Refused
told_number Usage = code Usage
told_number BadText = code BadText
told_number ReadFault = code ReadFault
told_number WriteFault = code NoMemory
told_number NoMemory = code NoMemory
told_number TooLong = code TooLong
told_number TooFew = code TooFew
told_number Disabled = code Disabled
