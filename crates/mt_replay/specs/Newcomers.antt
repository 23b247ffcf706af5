-- Which lines of a script bring a processor up (own). Beside `ram` lines, no other command asks for memory.
--     has_newcomers text      whether a step of the text does
--     newcomers_from number lines point      whether one of these lines does, the first of which has this number, up to the first offence
use Rattle.std.specs.Prelude.{ℕ, ◌+◌, ◌||◌, Bool, true, false, List, [], ◌∷◌, ◌++◌, if◌then◌else◌, Option, Some, None, Result, Ok, Err}
use Rattle.std.specs.List.{list_any}
use Rattle.mt_output.specs.Lines.{accepted_line}
use Rattle.mt_regs.specs.declared.fault.Fault.{Fault}
use Rattle.mt_regs.specs.Agreement.{first_refusal}
use Rattle.mt_dump.specs.Dumps.{Dump}
use Rattle.mt_script.specs.Situation.{Situation}
use Rattle.mt_script.specs.Commands.{command_of}
use Rattle.mt_script.specs.declared.command.Command.{Command}
use Rattle.mt_script.specs.declared.command.Command.TheVariants as command
use Rattle.mt_script.specs.declared.fault.ScriptFault.{ScriptFault}
use Rattle.mt_replay.specs.Heads.{HeadEnd, head_end, shows_dump}
use Rattle.mt_replay.specs.ReplayState.{ReplayState, first_state, state_after}
use Rattle.mt_replay.specs.Steps.{course}
use Rattle.mt_replay.specs.Transcript.{ScriptState, in_body, in_head, transcript}

abbrev pub is_newcomer : Command → Bool
is_newcomer (command.Newcomer n) = true
is_newcomer other = false

-- ---- behind the dump

abbrev pub newcomer_by : ReplayState → (ReplayState → Bool) → Result Command ScriptFault → Bool
newcomer_by s rest (Err fault) = false
newcomer_by s rest (Ok c) = is_newcomer c || rest (state_after s c)

abbrev pub newcomers_in : ℕ → List (List ℕ) → ReplayState → Bool
newcomers_in number [] s = false
newcomers_in number (line ∷ lines) s = newcomer_by s (newcomers_in (number + 1) lines) (command_of s.now number line)

-- ---- up to the dump's end, and all that follow

abbrev pub newcomers_of_dump : Situation → Dump → (ReplayState → Bool) → Option (ℕ × Fault) → Bool
newcomers_of_dump now dump rest (Some refusal) = false
newcomers_of_dump now dump rest None = rest (first_state now dump)

abbrev pub newcomers_by : HeadEnd → Bool
newcomers_by (shows_dump now dump number lines) = newcomers_of_dump now dump (newcomers_in number lines) (first_refusal dump.files)
newcomers_by other = false

abbrev pub newcomers_from : ℕ → List (List ℕ) → ScriptState → Bool
newcomers_from number lines (in_head now before) = newcomers_by (head_end number lines now before)
newcomers_from number lines (in_body s) = newcomers_in number lines s

-- ---- what may have been written where memory is refused

abbrev pub has_newcomers : List ℕ → Bool
has_newcomers text = list_any (λ step. is_newcomer step.command) (course text)

-- behind this text, before that
abbrev pub early : Bool → List ℕ → List ℕ → List ℕ
early comes so_far text = if comes then so_far ++ text else accepted_line

-- the line `accepted`, or the whole transcript where a line `up` or `join` is read
abbrev pub early_text : List ℕ → List ℕ
early_text text = early (has_newcomers text) [] (transcript text).text
