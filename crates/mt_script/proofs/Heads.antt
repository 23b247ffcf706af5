-- What a line leads to.
use Rattle.std.proofs.Common.{◌≡◌, refl, ℕ, Bool, true, false, List, [], ◌∷◌, Option, None, Some, Result, Ok, Err}
use Rattle.std.specs.Prelude.{if◌then◌else◌, ⊤}
use Rattle.std.specs.Option.{option_map_or}
use Rattle.std.specs.Result.{IfOk}
use Rattle.mt_text.specs.Text.{words_of}
use Rattle.mt_text.specs.declared.place.Place.{Place}
use Rattle.mt_dump.specs.Dumps.{Dump}
use Rattle.mt_dump.specs.ForProcessors.{has_each}
use Rattle.mt_dump.specs.Line.{Reading, said_of}
use Rattle.mt_dump.specs.Dump.{ShownBy, offence_of}
use Rattle.mt_dump.specs.Reader.{IsClean, onto, read_from}
use Rattle.mt_dump.specs.declared.fault.DumpFault.{DumpFault}
use Rattle.mt_dump.proofs.Ends.{shows_all}
use Rattle.mt_dump.proofs.OneLine.{is_sane}
use Rattle.mt_script.specs.Situation.{Situation}
use Rattle.mt_script.specs.Stages.{is_in_dump}
use Rattle.mt_script.specs.Words.{place_of}
use Rattle.mt_script.specs.Numbers.{fault_at}
use Rattle.mt_script.specs.Kept.{IsSituation}
use Rattle.mt_script.specs.Accept.{Fits, accepted}
use Rattle.mt_script.specs.Commands.{command_of, in_stage}
use Rattle.mt_script.specs.Head.{HeadStep, end_step, ends_dump, goes_on, head_step, is_end_command, offends, shows, step_in_dump, step_of_answer, step_of_command}
use Rattle.mt_script.specs.declared.command.Stage.{Stage}
use Rattle.mt_script.specs.declared.command.Stage.TheVariants.{NeedCpus, NeedDump, InDump, Rams, Commands, InUpdate, InBegin}
use Rattle.mt_script.specs.declared.command.Command.{Command}
use Rattle.mt_script.specs.declared.command.Command.TheVariants as command
use Rattle.mt_script.specs.declared.command.Section.TheVariants.{End}
use Rattle.mt_script.specs.declared.fault.ScriptFault.{ScriptFault}
use Rattle.mt_script.specs.declared.fault.ScriptReason.TheVariants.{OutOfRange}
use Rattle.mt_script.specs.declared.fault.Offence.TheVariants as offence
use Rattle.mt_script.proofs.Fitting.{command_fits}
use Rattle.mt_script.proofs.Keeping.{accepted_is}

module _ (now : Situation) (before : List Reading) (number : ℕ) (line : List ℕ) where
  -- in the dump each line is one of the dump
  pub head_in_dump : is_in_dump now.stage ≡ true → head_step now before number line ≡ step_in_dump now before number line (ends_dump line)
  head_in_dump dump = of_stage now.stage dump
    where
      of_line : (ends : Bool) → step_of_answer now before number line (Ok (if ends then command.Section End else command.DumpLine)) ≡ step_in_dump now before number line ends
      of_line true = rw dump refl
      of_line false = rw dump refl

      of_stage : (stage : Stage) → is_in_dump stage ≡ true → step_of_answer now before number line (in_stage now number line stage) ≡ step_in_dump now before number line (ends_dump line)
      of_stage InDump is = of_line (ends_dump line)
      of_stage NeedCpus is = cc is
      of_stage NeedDump is = cc is
      of_stage Rams is = cc is
      of_stage Commands is = cc is
      of_stage InUpdate is = cc is
      of_stage InBegin is = cc is

-- The text goes on from a situation with as much of a dump, and from clean lines of it.
pub record IsNext (now next : Situation) (after : List Reading) : Type 0 where
  pub clean : IsClean after
  pub same_dump : next.dump ≡ now.dump
  pub is : IsSituation now → IsSituation next

-- The dump ends in its stage, with a file for each processor.
pub record IsShown (now : Situation) (before : List Reading) (dump : Dump) : Type 0 where
  pub stage : is_in_dump now.stage ≡ true
  pub shown : ShownBy (onto before []) dump
  pub each : has_each now.cpus dump ≡ true

-- what holds of the step of a line behind clean lines
abbrev pub IsStep : Situation → List Reading → HeadStep → Type 0
IsStep now before (goes_on next after) = IsNext now next after
IsStep now before (shows dump) = IsShown now before dump
IsStep now before (offends o) = ⊤

-- no command brings another dump
pub accepted_dump : (now : Situation) (c : Command) → (accepted now c).dump ≡ now.dump
accepted_dump now (command.Section End) = refl
accepted_dump now other = refl

module _ (now : Situation) (before : List Reading) (clean : IsClean before) (number : ℕ) (line : List ℕ) where
  abbrev place : Place
  place = place_of number (words_of line) 0

  end_is : is_in_dump now.stage ≡ true → (answer : Result Dump DumpFault) → read_from place before [] ≡ answer → IsStep now before (end_step now.cpus place answer)
  end_is stage (Err fault) is = tt
  end_is stage (Ok dump) is = by (has_each now.cpus dump) refl
    where
      by : (each : Bool) → has_each now.cpus dump ≡ each → IsStep now before (if each then shows dump else offends (offence.Script (fault_at OutOfRange place)))
      by true each = record { stage = stage; shown = shows_all place before [] dump clean tt is; each = each }
      by false each = tt

  line_is : (fault : Option DumpFault) → offence_of before (said_of number line) ≡ fault
      → IsStep now before (option_map_or (λ fault. offends (offence.Dump fault)) fault (goes_on now (said_of number line ∷ before)))
  line_is (Some fault) is = tt
  line_is None is = record { clean = (is_sane number line, is, clean); same_dump = refl; is = λ was. was }

  dump_is : is_in_dump now.stage ≡ true → (end : Bool) → IsStep now before (step_in_dump now before number line end)
  dump_is stage true = end_is stage (read_from place before []) refl
  dump_is stage false = line_is (offence_of before (said_of number line)) refl

  command_is : (c : Command) → Fits now c → IsStep now before (step_of_command now before number line c)
  command_is c fits = by (is_in_dump now.stage) refl
    where
      by : (dump : Bool) → is_in_dump now.stage ≡ dump → IsStep now before (if dump then step_in_dump now before number line (is_end_command c) else goes_on (accepted now c) before)
      by true stage = dump_is stage (is_end_command c)
      by false stage = record { clean = clean; same_dump = accepted_dump now c; is = λ was. accepted_is now was c fits (λ dump. absurd (cc (stage, dump))) }

  answer_is : (answer : Result Command ScriptFault) → IfOk answer (Fits now) → IsStep now before (step_of_answer now before number line answer)
  answer_is (Err fault) fits = tt
  answer_is (Ok c) fits = command_is c fits

  pub step_is : IsStep now before (head_step now before number line)
  step_is = answer_is (command_of now number line) (command_fits now number line)
