-- A script for measurements, which a number determines (own).
--     stepped x      the number that a draw leaves
--     drawn x count      what a draw gives that has left x: a number below the count
--     make_text n      the text
use Rattle.std.specs.Prelude.{ℕ, zero, suc, ◌+◌, ◌*◌, ◌/◌, ◌%◌, ◌^◌, ◌==◌, nat_lt, false, List, [], ◌++◌, codes, decimal, if◌then◌else◌}
use Rattle.std.specs.Fmt.{digits}
use Rattle.mt_kinds.specs.Sizes.{page_bytes}

abbrev pub stepped : ℕ → ℕ
stepped x = (x * 6364136223846793005 + 1442695040888963407) % 2 ^ 64

abbrev pub drawn : ℕ → ℕ → ℕ
drawn x count = x / 2 ^ 33 % count

-- in lower-case hexadecimal, without leading zeros
abbrev pub hexadecimal : ℕ → List ℕ
hexadecimal n = digits 16 false n

-- the number behind an access
abbrev pub behind_access : ℕ → ℕ
behind_access x = stepped (stepped (stepped x))

-- An access draws a processor, a choice and a word. It loads the word, or stores the number that the last draw has left.
abbrev pub access_line : ℕ → List ℕ
access_line x =
    if nat_lt (drawn (stepped (stepped x)) 4) 2
    then codes "load " ++ decimal (drawn (stepped x) 16) ++ codes " " ++ hexadecimal (8 * drawn (behind_access x) 32768) ++ codes "\n"
    else codes "store " ++ decimal (drawn (stepped x) 16) ++ codes " " ++ hexadecimal (8 * drawn (behind_access x) 32768) ++ codes " " ++ hexadecimal (behind_access x) ++ codes "\n"

-- so many accesses from a number on, and the number behind them
unfoldable pub accesses : ℕ → ℕ → List ℕ
accesses zero x = []
accesses (suc more) x = access_line x ++ accesses more (behind_access x)

unfoldable pub after_accesses : ℕ → ℕ → ℕ
after_accesses zero x = x
after_accesses (suc more) x = after_accesses more (behind_access x)

-- the line that gives 200H its value for the update of a round
abbrev pub round_value : ℕ → List ℕ
round_value round =
    if round % 4 == 0 then codes "200 4\n"
    else if round % 4 == 1 then codes "200 1\n"
    else if round % 4 == 2 then codes "200 5\n"
    else codes "200 6\n"

-- a round: 512 accesses, an update of one register and a report
abbrev pub round_text : ℕ → ℕ → List ℕ
round_text round x = accesses 512 x ++ codes "update\n" ++ round_value round ++ codes "end\nreport\n"

-- so many rounds, of which the first has this number and begins with x
unfoldable pub rounds : ℕ → ℕ → ℕ → List ℕ
rounds zero round x = []
rounds (suc more) round x = round_text round x ++ rounds more (round + 1) (after_accesses 512 x)

-- a page of a processor is mapped to the same address, every second one globally
abbrev pub map_line : ℕ → ℕ → List ℕ
map_line cpu page =
    codes "map " ++ decimal cpu ++ codes " " ++ hexadecimal (page_bytes * page) ++ codes " " ++ hexadecimal (page_bytes * page)
    ++ (if page % 2 == 0 then codes " 0 global\n" else codes " 0\n")

-- so many pages from one on
unfoldable pub maps : ℕ → ℕ → ℕ → List ℕ
maps zero cpu page = []
maps (suc more) cpu page = map_line cpu page ++ maps more cpu (page + 1)

-- every second processor has PGE on
abbrev pub pge_line : ℕ → List ℕ
pge_line cpu = if cpu % 2 == 0 then codes "pge " ++ decimal cpu ++ codes " on\n" else []

abbrev pub processor_lines : ℕ → List ℕ
processor_lines cpu = pge_line cpu ++ maps 64 cpu 0

-- so many processors from one on
unfoldable pub processors : ℕ → ℕ → List ℕ
processors zero cpu = []
processors (suc more) cpu = processor_lines cpu ++ processors more (cpu + 1)

-- the lines of a dump between those that begin and end it, behind the number of processors; then one window
abbrev pub head_text : List ℕ
head_text = codes "cpus 16\ndump\nmaxphyaddr 36\n0fe 508\n200 6\n201 f00000800\n2ff 800\nend\nram 0 4096\n"

abbrev pub make_text : ℕ → List ℕ
make_text n = head_text ++ processors 16 0 ++ rounds 8 0 n
