-- Steps of a script (own).
--     course text      the steps of a text: what each line behind the dump does, in its order, up to the first offence
--     wrote step, left step      the text that a step writes, and the state that it leaves
--     beginning text      where the steps of a text begin
use Rattle.std.specs.Prelude.{ℕ, ◌+◌, List, [], ◌∷◌, Option, Some, None, Result, Ok, Err}
use Rattle.std.specs.Option.{option_map_or}
use Rattle.mt_regs.specs.declared.fault.Fault.{Fault}
use Rattle.mt_regs.specs.Agreement.{first_refusal}
use Rattle.mt_dump.specs.Line.{Reading}
use Rattle.mt_dump.specs.Dumps.{Dump}
use Rattle.mt_script.specs.Situation.{Situation}
use Rattle.mt_script.specs.Commands.{command_of}
use Rattle.mt_script.specs.declared.command.Command.{Command}
use Rattle.mt_script.specs.declared.fault.ScriptFault.{ScriptFault}
use Rattle.mt_replay.specs.Heads.{HeadEnd, head_end, head_of, shows_dump}
use Rattle.mt_replay.specs.ReplayState.{ReplayState, command_text, first_state, state_after}

-- ---- steps

-- A line behind the dump, with what it asks for, and the state that it finds.
pub record ScriptStep : Type 0 where
  pub number : ℕ
  pub command : Command
  pub before : ReplayState

abbrev pub wrote : ScriptStep → List ℕ
wrote step = command_text step.before step.command

abbrev pub left : ScriptStep → ReplayState
left step = state_after step.before step.command

-- of these lines, the first of which has this number, up to the first that is refused
abbrev pub steps_of : ReplayState → ℕ → (ReplayState → List ScriptStep) → Result Command ScriptFault → List ScriptStep
steps_of s number rest (Err fault) = []
steps_of s number rest (Ok c) = record { number = number; command = c; before = s } ∷ rest (state_after s c)

abbrev pub steps_in : ℕ → List (List ℕ) → ReplayState → List ScriptStep
steps_in number [] s = []
steps_in number (line ∷ lines) s = steps_of s number (steps_in (number + 1) lines) (command_of s.now number line)

-- ---- where the steps of a text begin

-- The number of the line behind the dump's end, the lines from there on, and the first state.
pub record Beginning : Type 0 where
  pub number : ℕ
  pub lines : List (List ℕ)
  pub state : ReplayState

-- one of the dump's files may have a fault
abbrev pub begins_with : Situation → Dump → ℕ → List (List ℕ) → Option (ℕ × Fault) → Option Beginning
begins_with now dump number lines (Some refusal) = None
begins_with now dump number lines None = Some (record { number = number; lines = lines; state = first_state now dump })

abbrev pub begins_by : HeadEnd → Option Beginning
begins_by (shows_dump now dump number lines) = begins_with now dump number lines (first_refusal dump.files)
begins_by other = None

-- by the situation and the dump's lines so far, of which the last stands first
abbrev pub Beginnings : Type 0
Beginnings = Situation → List Reading → Option Beginning

abbrev pub begins_from : ℕ → List (List ℕ) → Beginnings
begins_from number lines now before = begins_by (head_end number lines now before)

-- none where the dump isn't read to its end, or is refused
abbrev pub beginning : List ℕ → Option Beginning
beginning text = begins_by (head_of text)

abbrev pub course : List ℕ → List ScriptStep
course text = option_map_or (λ b. steps_in b.number b.lines b.state) (beginning text) []

-- the state that the last of these steps leaves, or this one
abbrev pub last_of : ReplayState → List ScriptStep → ReplayState
last_of s [] = s
last_of s (step ∷ steps) = last_of (left step) steps
