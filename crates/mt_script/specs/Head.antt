-- What one line of a script leads to (own).
--     head_step now before number line      by the situation and the dump's lines so far, of which the last stands first
--     end_step cpus place answer      at the dump's end, by what its lines are read as
use Rattle.std.specs.Prelude.{ℕ, ◌≡◌, Bool, true, false, List, [], ◌∷◌, if◌then◌else◌, Option, Result, Ok, Err, MatchOption, MatchResult}
use Rattle.std.specs.Option.{option_map_or}
use Rattle.mt_text.specs.Text.{words_of}
use Rattle.mt_text.specs.declared.place.Place.{Place}
use Rattle.mt_dump.specs.Dumps.{Dump}
use Rattle.mt_dump.specs.ForProcessors.{has_each}
use Rattle.mt_dump.specs.Line.{Reading, said_of}
use Rattle.mt_dump.specs.Dump.{offence_of}
use Rattle.mt_dump.specs.Reader.{HasRead, State, read_from}
use Rattle.mt_dump.specs.declared.fault.DumpFault.{DumpFault}
use Rattle.mt_script.specs.Situation.{Situation}
use Rattle.mt_script.specs.Stages.{is_in_dump}
use Rattle.mt_script.specs.Words.{place_of}
use Rattle.mt_script.specs.Numbers.{fault_at}
use Rattle.mt_script.specs.Commands.{command_of}
pub use Rattle.mt_script.specs.Commands.{ends_dump}
use Rattle.mt_script.specs.Accept.{accepted}
use Rattle.mt_script.specs.declared.command.Command.{Command}
use Rattle.mt_script.specs.declared.command.Command.TheVariants as command
use Rattle.mt_script.specs.declared.command.Section.TheVariants.{End}
use Rattle.mt_script.specs.declared.fault.ScriptFault.{ScriptFault}
use Rattle.mt_script.specs.declared.fault.ScriptReason.TheVariants.{OutOfRange}
use Rattle.mt_script.specs.declared.fault.Offence.{Offence}
use Rattle.mt_script.specs.declared.fault.Offence.TheVariants as offence

-- The text goes on from a situation and lines of the dump, or the dump ends and is shown, or the line has an offence.
pub data HeadStep : Type 0 where
  goes_on : Situation → List Reading → HeadStep
  shows : Dump → HeadStep
  offends : Offence → HeadStep

-- The dump's end, which is the word `end` at this place. A dump of version 2 must have a section for each processor.
abbrev pub end_step : ℕ → Place → Result Dump DumpFault → HeadStep
end_step cpus place (Err fault) = offends (offence.Dump fault)
end_step cpus place (Ok dump) = if has_each cpus dump then shows dump else offends (offence.Script (fault_at OutOfRange place))

-- a line of the dump, which ends it where the last argument is true
abbrev pub step_in_dump : Situation → List Reading → ℕ → List ℕ → Bool → HeadStep
step_in_dump now before number line true =
    end_step now.cpus (place_of number (words_of line) 0) (read_from (place_of number (words_of line) 0) before [])
step_in_dump now before number line false =
    option_map_or (λ fault. offends (offence.Dump fault)) (offence_of before (said_of number line)) (goes_on now (said_of number line ∷ before))

-- a line of the dump
abbrev pub dump_step : Situation → List Reading → ℕ → List ℕ → HeadStep
dump_step now before number line = step_in_dump now before number line (ends_dump line)

-- the command ends a section
abbrev pub is_end_command : Command → Bool
is_end_command (command.Section End) = true
is_end_command other = false

abbrev pub step_of_command : Situation → List Reading → ℕ → List ℕ → Command → HeadStep
step_of_command now before number line c =
    if is_in_dump now.stage then step_in_dump now before number line (is_end_command c) else goes_on (accepted now c) before

abbrev pub step_of_answer : Situation → List Reading → ℕ → List ℕ → Result Command ScriptFault → HeadStep
step_of_answer now before number line (Err fault) = offends (offence.Script fault)
step_of_answer now before number line (Ok c) = step_of_command now before number line c

abbrev pub head_step : Situation → List Reading → ℕ → List ℕ → HeadStep
head_step now before number line = step_of_answer now before number line (command_of now number line)

-- ---- a reader

-- A reader has taken a line that leads to this step: it goes on from this situation, or a dump is shown, or the line has an offence.
abbrev pub TakesLine : Situation → State → HeadStep → Result (Option Dump) Offence → Type 0
TakesLine setup dump step result = MatchResult result
    (λ shown. MatchOption shown ((after : List Reading) × HasRead dump after × (step ≡ goes_on setup after)) (λ d. HasRead dump [] × (step ≡ shows d)))
    (λ o. step ≡ offends o)
