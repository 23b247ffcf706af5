-- The transcript of a script (own): what its lines write one after the other, and the status.
--     transcript text      of a whole text
--     ScriptState, told_lines      where lines stand, and what those from there on tell
use Rattle.std.specs.Prelude.{ℕ, ◌+◌, List, [], ◌∷◌, Option, Some, None, Result, Ok, Err}
use Rattle.mt_text.specs.declared.place.Place.{Place}
use Rattle.mt_ports.specs.declared.status.Status.TheVariants.{Done, Refused, BadText}
use Rattle.mt_stream.specs.Transcript as stream
use Rattle.mt_stream.specs.Transcript.{Telling, Transcript, behind, transcript_with}
use Rattle.mt_regs.specs.declared.fault.Fault.{Fault}
use Rattle.mt_regs.specs.Agreement.{first_refusal}
use Rattle.mt_dump.specs.Line.{Reading}
use Rattle.mt_dump.specs.Dumps.{Dump}
use Rattle.mt_script.specs.Situation.{Situation, at_start}
use Rattle.mt_script.specs.Commands.{command_of, end_fault}
use Rattle.mt_script.specs.declared.command.Command.{Command}
use Rattle.mt_script.specs.declared.fault.ScriptFault.{ScriptFault}
use Rattle.mt_script.specs.declared.fault.Offence.{Offence}
use Rattle.mt_script.specs.declared.fault.Offence.TheVariants as offence
use Rattle.mt_output.specs.Lines.{accepted_line, dump_refused_line}
use Rattle.mt_script.specs.Lines.{offence_line}
use Rattle.mt_replay.specs.Heads.{HeadEnd, head_end, has_offence, shows_dump, stays_open}
use Rattle.mt_replay.specs.ReplayState.{ReplayState, command_text, first_state, state_after}

abbrev pub told_offence : Offence → Transcript
told_offence o = transcript_with (offence_line o) BadText

-- the text ends here
abbrev pub told_at_end : Option ScriptFault → Transcript
told_at_end None = transcript_with [] Done
told_at_end (Some fault) = told_offence (offence.Script fault)

-- ---- after the dump

-- a line after the dump: what its command writes, and then the rest from the state that it leaves
abbrev pub told_command : ReplayState → (ReplayState → Transcript) → Result Command ScriptFault → Transcript
told_command s rest (Err fault) = told_offence (offence.Script fault)
told_command s rest (Ok c) = behind (command_text s c) (rest (state_after s c))

-- where the lines of a text end at a place, or those of a front, behind which others may come: of these nothing is told
abbrev pub told_last : Option Place → Situation → Transcript
told_last (Some end) now = told_at_end (end_fault now.stage end)
told_last None now = transcript_with [] Done

-- of lines after the dump, the first of which has this number
abbrev pub body_lines : Option Place → ℕ → List (List ℕ) → ReplayState → Transcript
body_lines end number [] s = told_last end s.now
body_lines end number (line ∷ lines) s = told_command s (body_lines end (number + 1) lines) (command_of s.now number line)

-- ---- up to the dump's end

-- the dump's end has no offence, and one of its files may have a fault
abbrev pub told_dump : Situation → Dump → (ReplayState → Transcript) → Option (ℕ × Fault) → Transcript
told_dump now dump rest (Some refusal) = transcript_with (dump_refused_line dump.version refusal.0 refusal.1) Refused
told_dump now dump rest None = behind accepted_line (rest (first_state now dump))

-- by what the lines come to; where they end before the dump does this is told of the situation
abbrev pub told_by : (Situation → Transcript) → (ℕ → List (List ℕ) → ReplayState → Transcript) → HeadEnd → Transcript
told_by at_last body (stays_open now before) = at_last now
told_by at_last body (has_offence o) = told_offence o
told_by at_last body (shows_dump now dump number lines) = told_dump now dump (body number lines) (first_refusal dump.files)

-- of lines up to the dump's end, and all that follow, by the situation and the dump's lines so far, of which the last stands first
abbrev pub head_lines : Option Place → ℕ → List (List ℕ) → Situation → List Reading → Transcript
head_lines end number lines now before = told_by (told_last end) (body_lines end) (head_end number lines now before)

-- ---- from any line on

-- in the head of a script, with the dump's lines so far, of which the last stands first, or behind the dump's end
pub data ScriptState : Type 0 where
  in_head : Situation → List Reading → ScriptState
  in_body : ReplayState → ScriptState

abbrev pub told_lines : Option Place → ℕ → List (List ℕ) → ScriptState → Transcript
told_lines end number lines (in_head now before) = head_lines end number lines now before
told_lines end number lines (in_body s) = body_lines end number lines s

abbrev pub from_point : ScriptState → Telling
from_point p end number lines = told_lines end number lines p

abbrev pub replay_told : Telling
replay_told = from_point (in_head at_start [])

abbrev pub transcript : List ℕ → Transcript
transcript text = stream.transcript replay_told text
