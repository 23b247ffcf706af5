-- The command lines: what their words ask for (own). All other lists of words are wrong usage.
--     command_of words      the command of these words, the program's name left out
use Rattle.std.specs.Prelude.{ℕ, ◌-◌, ◌^◌, ◌≤◌, ◌<◌, ◌&&◌, nat_eq, nat_le, nat_lt, Bool, true, false, List, [], ◌∷◌, length, drop, take, codes, if◌then◌else◌, Option, Some, None, Result, Ok, Err, ⊤}
use Rattle.std.specs.Cmp.Lexicographic.{pointwise}
use Rattle.std.specs.Option.{option_and_then, option_map, option_map_or}
use Rattle.std.specs.Result.{result_ok}
use Rattle.mt_gran.specs.Sizes.{log_among}
use Rattle.mt_text.specs.Number.{hex_number, decimal_number}
use Rattle.mt_text.specs.declared.fault.NumberFault.{NumberFault}
use Rattle.mt_answers.specs.declared.command.Command.{Command}
use Rattle.mt_answers.specs.declared.command.Command.TheVariants.{Serial, Threaded}
use Rattle.mt_answers.specs.declared.command.SerialCommand.{SerialCommand}
use Rattle.mt_answers.specs.declared.command.SerialCommand.TheVariants.{Dump, Make, Help, Version}
use Rattle.mt_answers.specs.declared.command.ThreadedCommand.{ThreadedCommand}
use Rattle.mt_answers.specs.declared.command.ThreadedCommand.TheVariants.{Replay, Proc, Big, Private}
use Rattle.mt_answers.specs.declared.command.DumpCommand.{DumpCommand}
use Rattle.mt_answers.specs.declared.command.DumpCommand.TheVariants.{Check, Show, Types, Page, Tidy, Gran}
use Rattle.mt_answers.specs.declared.command.TidyOption.{TidyOption}
use Rattle.mt_answers.specs.declared.command.TidyOption.TheVariants.{Spare, Chunk}
use Rattle.mt_answers.specs.declared.command.TidyOptions.{TidyOptions}

abbrev pub is_text : List ℕ → List ℕ → Bool
is_text word text = pointwise nat_eq word text

-- one pair is spared, and ranges of up to 256 MB may share pages (own)
abbrev pub usual_spare : ℕ
usual_spare = 1

abbrev pub usual_chunk : ℕ
usual_chunk = 0x10000000

abbrev pub usual_options : TidyOptions
usual_options = record { spare = usual_spare; chunk = usual_chunk }

abbrev pub of_dump : Option DumpCommand → Option Command
of_dump command = option_map (λ c. Serial (Dump c)) command

-- what stands behind a text at the front of a word
abbrev pub behind : List ℕ → List ℕ → Option (List ℕ)
behind text word = if is_text (take (length text) word) text then Some (drop (length text) word) else None

-- `spare=` with a decimal number of 0 to 32, or `chunk=` with a hexadecimal number
abbrev pub option_of : List ℕ → Option TidyOption
option_of word =
    option_map_or (λ digits. option_map (λ n. Spare n) (result_ok (decimal_number digits 32))) (behind (codes "spare=") word)
    (option_and_then (λ digits. option_map (λ n. Chunk n) (result_ok (hex_number digits))) (behind (codes "chunk=") word))

abbrev pub options_with : Option TidyOption → Option TidyOptions
options_with (Some (Spare spare)) = Some (record { spare = spare; chunk = usual_chunk })
options_with (Some (Chunk chunk)) = Some (record { spare = usual_spare; chunk = chunk })
options_with None = None

-- each option stands at most once
abbrev pub options_with_both : Option TidyOption → Option TidyOption → Option TidyOptions
options_with_both (Some (Spare spare)) (Some (Chunk chunk)) = Some (record { spare = spare; chunk = chunk })
options_with_both (Some (Chunk chunk)) (Some (Spare spare)) = Some (record { spare = spare; chunk = chunk })
options_with_both first second = None

abbrev pub tidy_with : Option TidyOptions → Option DumpCommand
tidy_with (Some options) = Some (Tidy options.spare options.chunk)
tidy_with None = None

-- a power of two from 1000H to 10000000000H
abbrev pub log_of : List ℕ → Option ℕ
log_of size = option_and_then (λ n. log_among n 0 29) (result_ok (hex_number size))

-- `gran` has a size before the options of `tidy`
abbrev pub gran_as : Option ℕ → Option TidyOptions → Option DumpCommand
gran_as (Some log) (Some options) = Some (Gran log options.spare options.chunk)
gran_as log options = None

abbrev pub gran_with : List ℕ → Option TidyOptions → Option DumpCommand
gran_with size options = gran_as (log_of size) options

-- a decimal number of 64 bits
abbrev pub number_of : List ℕ → Option ℕ
number_of word = result_ok (decimal_number word 0xffffffffffffffff)

-- how many accesses each processor of `private` makes before and after the update, at most
abbrev pub most_accesses : ℕ
most_accesses = 4096

-- of 1 to 16 processors, and at most 4,096 accesses before the update and as many after it
abbrev pub private_with : Option ℕ → Option ℕ → Option ℕ → Option Command
private_with (Some cpus) (Some n) (Some accesses) = if nat_le 1 cpus && nat_le cpus 16 then Some (Threaded (Private cpus n accesses)) else None
private_with cpus n accesses = None

-- one processor to 16
abbrev pub proc_with : Result ℕ NumberFault → Option Command
proc_with (Ok cpus) = if nat_lt 0 cpus then Some (Threaded (Proc cpus)) else None
proc_with (Err fault) = None

abbrev pub command_of_one : List ℕ → Option Command
command_of_one name =
    if is_text name (codes "check") then Some (Serial (Dump Check))
    else if is_text name (codes "show") then Some (Serial (Dump Show))
    else if is_text name (codes "types") then Some (Serial (Dump Types))
    else if is_text name (codes "tidy") then of_dump (tidy_with (Some usual_options))
    else if is_text name (codes "replay") then Some (Threaded Replay)
    else if is_text name (codes "--help") then Some (Serial Help)
    else if is_text name (codes "--version") then Some (Serial Version)
    else None

abbrev pub command_of_two : List ℕ → List ℕ → Option Command
command_of_two name option =
    if is_text name (codes "tidy") then of_dump (tidy_with (options_with (option_of option)))
    else if is_text name (codes "gran") then of_dump (gran_with option (Some usual_options))
    else if is_text name (codes "make") then option_map (λ n. Serial (Make n)) (number_of option)
    else if is_text name (codes "big") then option_map (λ n. Threaded (Big n)) (number_of option)
    else if is_text name (codes "proc") then proc_with (decimal_number option 16)
    else None

-- one decimal digit from 0 to 7
abbrev pub index_of : List ℕ → Option ℕ
index_of (digit ∷ []) = if nat_le 48 digit && nat_lt digit 56 then Some (digit - 48) else None
index_of word = None

-- a hexadecimal address below 2 ^ 52 and an index
abbrev pub page_at : Result ℕ NumberFault → Option ℕ → Option DumpCommand
page_at (Ok address) (Some index) = if nat_lt address (2 ^ 52) then Some (Page address index) else None
page_at address index = None

abbrev pub command_of_three : List ℕ → List ℕ → List ℕ → Option Command
command_of_three name first second =
    if is_text name (codes "page") then of_dump (page_at (hex_number first) (index_of second))
    else if is_text name (codes "tidy") then of_dump (tidy_with (options_with_both (option_of first) (option_of second)))
    else if is_text name (codes "gran") then of_dump (gran_with first (options_with (option_of second)))
    else None

abbrev pub command_of_four : List ℕ → List ℕ → List ℕ → List ℕ → Option Command
command_of_four name first second third =
    if is_text name (codes "gran") then of_dump (gran_with first (options_with_both (option_of second) (option_of third)))
    else if is_text name (codes "private") then private_with (number_of first) (number_of second) (result_ok (decimal_number third most_accesses))
    else None

abbrev pub command_of : List (List ℕ) → Option Command
command_of [] = None
command_of (name ∷ []) = command_of_one name
command_of (name ∷ option ∷ []) = command_of_two name option
command_of (name ∷ first ∷ second ∷ []) = command_of_three name first second
command_of (name ∷ first ∷ second ∷ third ∷ []) = command_of_four name first second third
command_of (name ∷ first ∷ second ∷ third ∷ fourth ∷ more) = None

-- a page's address has 52 bits, an index is one of eight, and a granule has at most 2 ^ 28 pages
abbrev pub IsSound : DumpCommand → Type 0
IsSound Check = ⊤
IsSound Show = ⊤
IsSound Types = ⊤
IsSound (Page address index) = (address < 2 ^ 52) × (index < 8)
IsSound (Tidy spare chunk) = ⊤
IsSound (Gran log spare chunk) = log ≤ 28

abbrev pub IsSoundSerial : SerialCommand → Type 0
IsSoundSerial (Dump command) = IsSound command
IsSoundSerial (Make n) = ⊤
IsSoundSerial Help = ⊤
IsSoundSerial Version = ⊤

-- one processor to 16
abbrev pub IsSoundThreaded : ThreadedCommand → Type 0
IsSoundThreaded Replay = ⊤
IsSoundThreaded (Proc cpus) = (0 < cpus) × (cpus ≤ 16)
IsSoundThreaded (Big n) = ⊤
IsSoundThreaded (Private cpus n accesses) = (1 ≤ cpus) × (cpus ≤ 16)

-- the command, where it is one that starts threads
abbrev pub threaded_of : Option Command → Option ThreadedCommand
threaded_of None = None
threaded_of (Some (Serial command)) = None
threaded_of (Some (Threaded command)) = Some command

-- the commands that may take memory
abbrev pub MayTakeMemory : Command → Type 0
MayTakeMemory (Serial (Dump Types)) = ⊤
MayTakeMemory (Serial (Dump (Gran log spare chunk))) = ⊤
MayTakeMemory (Serial (Make n)) = ⊤
MayTakeMemory (Serial other) = ⊥
MayTakeMemory (Threaded command) = ⊤

-- whether a command reads the input
abbrev pub reads_input : Option Command → Bool
reads_input (Some (Serial (Dump command))) = true
reads_input (Some (Threaded Replay)) = true
reads_input (Some (Threaded (Proc cpus))) = true
reads_input other = false

-- what a run to its end leaves of the input
abbrev pub left_of : Option Command → List ℕ → List ℕ
left_of command bytes = if reads_input command then [] else bytes
