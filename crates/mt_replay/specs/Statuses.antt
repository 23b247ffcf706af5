-- The dump of a script, and the status of its transcript with its first and last line (own).
--     ShowsDump text dump      the text's dump is read whole, no offence stands up to and with its end, and its lines show this
use Rattle.std.specs.Prelude.{ℕ, ◌≡◌, ◌≢◌, ◌⊎◌, ◌↔◌, ◌+◌, Bool, true, false, List, [], ◌∷◌, ◌++◌, Option, Some, None, Ok}
use Rattle.std.specs.List.{All}
use Rattle.mt_text.specs.Text.{lines_of}
use Rattle.mt_ports.specs.declared.status.Status.TheVariants.{Done, Refused, BadText}
use Rattle.mt_regs.specs.declared.fault.Fault.{Fault}
use Rattle.mt_regs.specs.Agreement.{IsFirstRefusal}
use Rattle.mt_regs.specs.Faults.{IsAccepted}
use Rattle.mt_dump.specs.Line.{Reading, said_of}
use Rattle.mt_dump.specs.Dump.{ShownBy, offence_of}
use Rattle.mt_dump.specs.Dumps.{Dump}
use Rattle.mt_dump.specs.ForProcessors.{has_each}
use Rattle.mt_dump.specs.Reader.{onto}
use Rattle.mt_script.specs.Situation.{Situation, at_start}
use Rattle.mt_script.specs.Stages.{is_in_dump}
use Rattle.mt_script.specs.Accept.{accepted}
use Rattle.mt_script.specs.Commands.{command_of}
use Rattle.mt_script.specs.Head.{is_end_command}
use Rattle.mt_script.specs.Script.{HeadLine, head_line, script_offence}
use Rattle.mt_script.specs.declared.command.Command.{Command}
use Rattle.mt_script.specs.declared.fault.Offence.{Offence}
use Rattle.mt_output.specs.Lines.{accepted_line, dump_refused_line}
use Rattle.mt_script.specs.Lines.{offence_line}
use Rattle.mt_replay.specs.Heads.{HeadEnd, head_of, shows_dump}
use Rattle.mt_replay.specs.Transcript.{told_offence, transcript}
use Rattle.mt_stream.specs.Transcript.{transcript_with}

-- ---- the dump of a text

-- the dump that the lines up to its end show
abbrev pub shown_by : HeadEnd → Option Dump
shown_by (shows_dump now dump number lines) = Some dump
shown_by other = None

abbrev pub ShowsDump : List ℕ → Dump → Type 0
ShowsDump text dump = shown_by (head_of text) ≡ Some dump

-- ---- the same line by line

-- A line of the dump, which ends it where the last argument is true: the lines before it then show the dump, with a file for each
-- of the processors, or in version 1 one for all.
abbrev pub ShowsAt : Dump → HeadLine → (Situation → List Reading → Type 0) → Bool → Type 0
ShowsAt dump here rest true = ShownBy (onto here.before []) dump × (has_each here.now.cpus dump ≡ true)
ShowsAt dump here rest false = (offence_of here.before here.says ≡ None) × rest here.now (here.says ∷ here.before)

abbrev pub ShowsAfter : Dump → HeadLine → (Situation → List Reading → Type 0) → Command → Bool → Type 0
ShowsAfter dump here rest c true = ShowsAt dump here rest (is_end_command c)
ShowsAfter dump here rest c false = rest (accepted here.now c) here.before

-- each of these lines is accepted in its turn, up to one that ends the dump
abbrev pub ShowsIn : Dump → ℕ → List (List ℕ) → Situation → List Reading → Type 0
ShowsIn dump number [] now before = ⊥
ShowsIn dump number (line ∷ lines) now before =
    (c : Command) × (command_of now number line ≡ Ok c) × ShowsAfter dump (head_line now before (said_of number line)) (ShowsIn dump (number + 1) lines) c (is_in_dump now.stage)

-- a text shows a dump if and only if its lines do so in turn
abbrev pub DumpsAreShownInTurn : Type 0
DumpsAreShownInTurn = (text : List ℕ) (dump : Dump) → ShowsDump text dump ↔ ShowsIn dump 1 (lines_of text) at_start []

-- ---- which dumps are shown

-- the dump isn't read to its end, whatever it might show
abbrev pub ShowsNoDump : List ℕ → Type 0
ShowsNoDump text = (dump : Dump) → ShowsDump text dump → ⊥

-- a text shows no two dumps
abbrev pub OneDumpShown : Type 0
OneDumpShown = (text : List ℕ) (dump other : Dump) → ShowsDump text dump → ShowsDump text other → dump ≡ other

-- ---- statuses

abbrev pub EndsWith : List ℕ → List ℕ → Type 0
EndsWith text last = (front : List ℕ) × (text ≡ front ++ last)

abbrev pub BeginsWith : List ℕ → List ℕ → Type 0
BeginsWith text first = (rest : List ℕ) × (text ≡ first ++ rest)

abbrev pub HasRefusedFile : List ℕ → Type 0
HasRefusedFile text = (dump : Dump) × (k : ℕ) × (fault : Fault) × ShowsDump text dump × IsFirstRefusal dump.files k fault

abbrev pub RefusedWhereFileIsRefused : Type 0
RefusedWhereFileIsRefused = (text : List ℕ) → ((transcript text).status ≡ Refused) ↔ HasRefusedFile text

-- the whole text is the line of the first file that has a fault
abbrev pub RefusedAlone : Type 0
RefusedAlone =
    (text : List ℕ) (dump : Dump) (k : ℕ) (fault : Fault) → ShowsDump text dump → IsFirstRefusal dump.files k fault
    → transcript text ≡ transcript_with (dump_refused_line dump.version k fault) Refused

-- where no file is refused the status says whether the script has an offence
abbrev pub BadTextWhereOffence : Type 0
BadTextWhereOffence =
    (text : List ℕ) → ((transcript text).status ≡ BadText) ↔ (((o : Offence) × (script_offence text ≡ Some o)) × ((transcript text).status ≢ Refused))

-- the first offence is the last line
abbrev pub BadTextEndsWithOffence : Type 0
BadTextEndsWithOffence =
    (text : List ℕ) (o : Offence) → script_offence text ≡ Some o → (transcript text).status ≢ Refused → EndsWith (transcript text).text (offence_line o)

abbrev pub DoneWhereNoOffence : Type 0
DoneWhereNoOffence = (text : List ℕ) → ((transcript text).status ≡ Done) ↔ ((script_offence text ≡ None) × ((transcript text).status ≢ Refused))

abbrev pub OneOfThreeStatuses : Type 0
OneOfThreeStatuses =
    (text : List ℕ) → ((transcript text).status ≡ Done) ⊎ ((transcript text).status ≡ Refused) ⊎ ((transcript text).status ≡ BadText)

-- ---- the first line

-- each file that is shown is accepted exactly where the status isn't Refused
abbrev pub AcceptedUnlessRefused : Type 0
AcceptedUnlessRefused = (text : List ℕ) (dump : Dump) → ShowsDump text dump → ((transcript text).status ≢ Refused) ↔ All IsAccepted dump.files

-- accepted files are told of before anything else
abbrev pub AcceptedFirst : Type 0
AcceptedFirst = (text : List ℕ) (dump : Dump) → ShowsDump text dump → All IsAccepted dump.files → BeginsWith (transcript text).text accepted_line

-- where the dump isn't read to its end the whole text is the line of the offence
abbrev pub OffenceAlone : Type 0
OffenceAlone = (text : List ℕ) → ShowsNoDump text → (o : Offence) × (script_offence text ≡ Some o) × (transcript text ≡ told_offence o)
