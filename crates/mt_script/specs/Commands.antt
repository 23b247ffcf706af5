-- What one line of a script asks for, or its fault (own).
--     command_of now line bytes      the answer for the line of this number, by what stands set up
--     end_fault stage place      the fault where the text ends in this stage
use Rattle.std.specs.Prelude.{ℕ, ◌==◌, nat_eq, nat_lt, codes, Bool, false, List, length, if◌then◌else◌, Option, Some, None, Result, Ok, Err}
use Rattle.std.specs.Option.{option_map_or}
use Rattle.std.specs.Set.{is_member}
use Rattle.mt_kinds.specs.Sizes.{most_lines, page_bytes}
use Rattle.mt_text.specs.Text.{is_too_long, past_limit, words_of, without_ending}
use Rattle.mt_text.specs.Number.{hex_number}
use Rattle.mt_text.specs.declared.place.Place.{Place}
use Rattle.mt_script.specs.Situation.{Situation, file_of}
use Rattle.mt_script.specs.Words.{text_of, place_of}
use Rattle.mt_script.specs.Numbers.{fault_at, any, with, count_in, processor_in, value_in, virtual_in, physical_in, register_in, base_in, has_room, is_writable}
use Rattle.mt_dump.specs.Line.{is_word}
use Rattle.mt_script.specs.Rows.{row_of}
use Rattle.mt_script.specs.Stages.{stands, takes_commands}
use Rattle.mt_script.specs.Shape.{shape_fault}
use Rattle.mt_script.specs.declared.command.Stage.{Stage}
use Rattle.mt_script.specs.declared.command.Stage.TheVariants.{InDump, InUpdate, InBegin}
use Rattle.mt_script.specs.declared.command.Command.{Command}
use Rattle.mt_script.specs.declared.command.Command.TheVariants as command
use Rattle.mt_script.specs.declared.command.Section.TheVariants.{Update, Begin, Register, End}
use Rattle.mt_script.specs.declared.command.Ask.{Ask}
use Rattle.mt_script.specs.declared.command.Ask.TheVariants as ask
use Rattle.mt_script.specs.declared.row.Row.{Row}
use Rattle.mt_script.specs.declared.row.Verb.{Verb}
use Rattle.mt_script.specs.declared.row.Verb.TheVariants as verb
use Rattle.mt_script.specs.declared.row.AskVerb.{AskVerb}
use Rattle.mt_script.specs.declared.row.AskVerb.TheVariants as ask_verb
use Rattle.mt_script.specs.declared.fault.ScriptReason.TheVariants.{BadLine, UnknownRegister, OutOfRange, NoEnd, NotNow, Repeated}
use Rattle.mt_script.specs.declared.fault.ScriptFault.{ScriptFault}

abbrev pub ReadCommand : Type 0
ReadCommand = Result Command ScriptFault

-- what is asked of a processor, by the words behind its number
abbrev pub ask_in : Situation → ℕ → List (ℕ × List ℕ) → AskVerb → Result Ask ScriptFault
ask_in now line words ask_verb.Load = with (virtual_in line words 2 8) (λ address. Ok (ask.Load address))
ask_in now line words ask_verb.Store = with (virtual_in line words 2 8) (λ address. with (value_in line words 3) (λ value. Ok (ask.Store address value)))
ask_in now line words ask_verb.Fence = Ok ask.Fence
ask_in now line words ask_verb.Map =
    with (virtual_in line words 2 page_bytes) (λ address. with (physical_in now line words 3 page_bytes) (λ physical. with (count_in line words 4 0 7) (λ index.
    Ok (ask.Map (record { address = address; physical = physical; index = index; global = is_word (codes "global") (text_of words 5) })))))
ask_in now line words ask_verb.Invlpg = with (virtual_in line words 2 1) (λ address. Ok (ask.Invlpg address))
ask_in now line words ask_verb.Cr3 = Ok ask.Cr3
ask_in now line words ask_verb.Pge = Ok (ask.Pge (is_word (codes "on") (text_of words 2)))
ask_in now line words ask_verb.Cd = Ok (ask.Cd (is_word (codes "on") (text_of words 2)))
ask_in now line words ask_verb.Step = Ok ask.Step
ask_in now line words ask_verb.Msr = with (register_in now line words 2) (λ register. Ok (ask.Msr register))

-- the numbers of a line of each verb, from left to right, and the command that it asks for
abbrev pub verb_answer : Situation → ℕ → List (ℕ × List ℕ) → Verb → ReadCommand
verb_answer now line words verb.Cpus = with (count_in line words 1 1 16) (λ n. Ok (command.Cpus n))
verb_answer now line words verb.Dump = Ok command.Dump
verb_answer now line words verb.Ram =
    with (base_in line words 1) (λ base. with (count_in line words 2 1 most_lines) (λ lines.
    if has_room now base lines then Ok (command.Ram base lines) else Err (fault_at OutOfRange (place_of line words 2))))
verb_answer now line words verb.Selfsnoop = with (processor_in now line words 1) (λ k. Ok (command.Selfsnoop k))
verb_answer now line words verb.Update = Ok (command.Section Update)
verb_answer now line words verb.Begin = Ok (command.Section Begin)
verb_answer now line words (verb.Ask asked) =
    with (processor_in now line words 1) (λ k. with (ask_in now line words asked) (λ a. Ok (command.Ask k a)))
verb_answer now line words (verb.Newcomer n) = Ok (command.Newcomer n)
verb_answer now line words verb.Retire = Ok command.Retire
verb_answer now line words verb.Go = Ok command.Go
verb_answer now line words verb.Cancel = Ok command.Cancel
verb_answer now line words verb.Report = Ok command.Report
verb_answer now line words verb.Word = with (physical_in now line words 1 8) (λ address. Ok (command.Word address))

-- a line of a row: its words, its stage, its numbers
abbrev pub row_line : Situation → ℕ → List (ℕ × List ℕ) → Option Row → ReadCommand
row_line now line words None = Err (fault_at BadLine (place_of line words 0))
row_line now line words (Some row) =
    option_map_or (λ fault. Err fault) (shape_fault line words row)
    (if stands row.turn now.stage then verb_answer now line words row.verb else Err (fault_at NotNow (place_of line words 0)))

-- a line outside the sections
abbrev pub outside : Situation → ℕ → List (ℕ × List ℕ) → ReadCommand
outside now line words =
    if length words == 0 then Ok command.Blank
    else row_line now line words (row_of (text_of words 0))

-- One `:` at the end of the first word is no part of it.
abbrev pub register_line : Situation → ℕ → List (ℕ × List ℕ) → ReadCommand
register_line now line words =
    with (any (place_of line words 0) (hex_number (without_ending 58 (text_of words 0)))) (λ number. with (value_in line words 1) (λ value.
    if is_writable (file_of now) number then
    (if is_member nat_eq now.seen number then Err (fault_at Repeated (place_of line words 0)) else Ok (command.Section (Register number value)))
    else Err (fault_at UnknownRegister (place_of line words 0))))

-- the only word is `end`
abbrev pub is_end : List (ℕ × List ℕ) → Bool
is_end words = if length words == 1 then is_word (codes "end") (text_of words 0) else false

-- a line of a section of `update` or `begin`
abbrev pub in_section : Situation → ℕ → List (ℕ × List ℕ) → ReadCommand
in_section now line words =
    if length words == 0 then Ok command.Blank
    else if is_end words then Ok (command.Section End)
    else if length words == 1 then Err (fault_at BadLine (place_of line words 0))
    else if nat_lt 2 (length words) then Err (fault_at BadLine (place_of line words 2))
    else register_line now line words

-- the line's only word is `end`, and it isn't too long
abbrev pub ends_dump : List ℕ → Bool
ends_dump line = if is_too_long line then false else is_end (words_of line)

-- a line that isn't one of the dump
abbrev pub not_too_long : ℕ → List ℕ → ReadCommand → ReadCommand
not_too_long line bytes answer = if is_too_long bytes then Err (fault_at BadLine (past_limit line)) else answer

-- A line of the dump has no fault here.
abbrev pub in_stage : Situation → ℕ → List ℕ → Stage → ReadCommand
in_stage now line bytes InDump = Ok (if ends_dump bytes then command.Section End else command.DumpLine)
in_stage now line bytes InUpdate = not_too_long line bytes (in_section now line (words_of bytes))
in_stage now line bytes InBegin = not_too_long line bytes (in_section now line (words_of bytes))
in_stage now line bytes other = not_too_long line bytes (outside now line (words_of bytes))

abbrev pub command_of : Situation → ℕ → List ℕ → ReadCommand
command_of now line bytes = in_stage now line bytes now.stage

abbrev pub end_fault : Stage → Place → Option ScriptFault
end_fault stage place = if takes_commands stage then None else Some (fault_at NoEnd place)
