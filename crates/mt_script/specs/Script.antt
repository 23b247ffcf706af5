-- The first offence of a script, and when it has none (own).
--     script_offence text      the first offence of a whole text, with its reason and place, whatever the files of its dump are
--     IsGoodScript text      each line is accepted in its turn, the dump shows a file for each processor or in version 1 one for all, and the text may end where it ends
use Rattle.std.specs.Prelude.{ℕ, ◌≡◌, ◌+◌, ◌∷◌, List, [], Bool, true, false, Option, Some, None, Ok}
use Rattle.std.specs.Option.{option_map}
use Rattle.mt_text.specs.Text.{lines_of, end_of}
use Rattle.mt_text.specs.declared.place.Place.{Place}
use Rattle.mt_dump.specs.Dumps.{Dump}
use Rattle.mt_dump.specs.ForProcessors.{has_each}
use Rattle.mt_dump.specs.Line.{Reading, said_of}
use Rattle.mt_dump.specs.Dump.{ShownBy, offence_of}
use Rattle.mt_dump.specs.Reader.{onto}
use Rattle.mt_script.specs.Situation.{Situation, at_start}
use Rattle.mt_script.specs.Stages.{is_in_dump, takes_commands}
use Rattle.mt_script.specs.Commands.{command_of, end_fault}
use Rattle.mt_script.specs.Accept.{accepted, finished}
use Rattle.mt_script.specs.Head.{HeadStep, goes_on, shows, offends, head_step, is_end_command}
use Rattle.mt_script.specs.declared.command.Command.{Command}
use Rattle.mt_script.specs.declared.fault.Offence.{Offence}
use Rattle.mt_script.specs.declared.fault.Offence.TheVariants.{Script}

-- What the rest of a text leads to, by the situation and the dump's lines so far, of which the last stands first.
abbrev pub Rest : Type 0
Rest = Situation → List Reading → Option Offence

-- a line's offence, by its step, or else the first of the lines behind it, which the rest answers
abbrev pub offence_after : Situation → Rest → HeadStep → Option Offence
offence_after now rest (goes_on next after) = rest next after
offence_after now rest (shows dump) = rest (finished now dump) []
offence_after now rest (offends o) = Some o

-- the first offence of lines, the first of which has this number, where the text ends at this place
abbrev pub offence_in : Place → ℕ → List (List ℕ) → Rest
offence_in end number [] now before = option_map Script (end_fault now.stage end)
offence_in end number (line ∷ lines) now before =
    offence_after now (offence_in end (number + 1) lines) (head_step now before number line)

abbrev pub script_offence : List ℕ → Option Offence
script_offence text = offence_in (end_of text) 1 (lines_of text) at_start []

-- A line up to the dump's end: what stands set up, the dump's lines before it, and what it says as a line of the dump.
pub record HeadLine : Type 0 where
  pub now : Situation
  pub before : List Reading
  pub says : Reading

abbrev pub head_line : Situation → List Reading → Reading → HeadLine
head_line now before says = record { now = now; before = before; says = says }

-- A line of the dump has no offence after those before it. The end of the dump comes where its lines show a dump with a file for each
-- processor, or in version 1 one for all.
abbrev pub HeadGoesOn : HeadLine → (Situation → List Reading → Type 0) → Bool → Type 0
HeadGoesOn here rest true =
    (dump : Dump) × ShownBy (onto here.before []) dump × (has_each here.now.cpus dump ≡ true) × rest (finished here.now dump) []
HeadGoesOn here rest false = (offence_of here.before here.says ≡ None) × rest here.now (here.says ∷ here.before)

abbrev pub LineFollows : HeadLine → (Situation → List Reading → Type 0) → Command → Bool → Type 0
LineFollows here rest c true = HeadGoesOn here rest (is_end_command c)
LineFollows here rest c false = rest (accepted here.now c) here.before

-- each of these lines is accepted in its turn, and the text may end after them
abbrev pub AreGood : ℕ → List (List ℕ) → Situation → List Reading → Type 0
AreGood number [] now before = takes_commands now.stage ≡ true
AreGood number (line ∷ lines) now before =
    (c : Command) × (command_of now number line ≡ Ok c) × LineFollows (head_line now before (said_of number line)) (AreGood (number + 1) lines) c (is_in_dump now.stage)

abbrev pub IsGoodScript : List ℕ → Type 0
IsGoodScript text = AreGood 1 (lines_of text) at_start []
