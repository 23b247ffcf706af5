-- What the words of a command line ask for (own).
--     command_of words      `memory`, a format, and which of a log's maps
use Rattle.std.specs.Prelude.{ℕ, nat_eq, nat_lt, codes, drop, Bool, false, List, [], ◌∷◌, take, if◌then◌else◌, Option, Some, None, Result, Ok, Err}
use Rattle.std.specs.Cmp.Lexicographic.{pointwise}
use Rattle.mt_text.specs.Number.{decimal_number}
use Rattle.mt_text.specs.declared.fault.NumberFault.{NumberFault}
use Rattle.mt_memory.specs.declared.command.Asked.{Asked}
use Rattle.mt_memory.specs.declared.format.Format.{Format}
use Rattle.mt_memory.specs.declared.format.Format.TheVariants.{E820, Efi, Coreboot, Iomem}
use Rattle.mt_memory.specs.declared.format.WhichMap.{WhichMap}
use Rattle.mt_memory.specs.declared.format.WhichMap.TheVariants.{Sole, Last, Number}

-- the word is this text
abbrev pub is_text : List ℕ → List ℕ → Bool
is_text text word = pointwise nat_eq word text

-- `auto` names none.
abbrev pub format_named : List ℕ → Option (Option Format)
format_named word =
    if is_text (codes "auto") word then Some None
    else if is_text (codes "e820") word then Some (Some E820)
    else if is_text (codes "efi") word then Some (Some Efi)
    else if is_text (codes "coreboot") word then Some (Some Coreboot)
    else if is_text (codes "iomem") word then Some (Some Iomem)
    else None

abbrev pub numbered : Result ℕ NumberFault → Option WhichMap
numbered (Ok number) = if nat_lt 0 number then Some (Number number) else None
numbered (Err fault) = None

abbrev pub map_named : List ℕ → Option WhichMap
map_named name =
    if is_text (codes "first") name then Some (Number 1)
    else if is_text (codes "last") name then Some Last
    else numbered (decimal_number name 65535)

-- `table=first`, `table=last` or `table=N`
abbrev pub which_named : List ℕ → Option WhichMap
which_named word = if pointwise nat_eq (take 6 word) (codes "table=") then map_named (drop 6 word) else None

abbrev pub asked_by : Option (Option Format) → Option WhichMap → Option Asked
asked_by None which = None
asked_by (Some format) None = None
asked_by (Some format) (Some which) = Some (record { format = format; which = which })

abbrev pub asked_or : Option Asked → Option Asked → Option Asked
asked_or (Some asked) others = Some asked
asked_or None others = others

-- a format, or one of a log's maps
abbrev pub asked_by_word : List ℕ → Option Asked
asked_by_word word = asked_or (asked_by (format_named word) (Some Sole)) (asked_by (Some None) (which_named word))

-- what the words behind `memory` ask for
abbrev pub asked_of : List (List ℕ) → Option Asked
asked_of [] = asked_by (Some None) (Some Sole)
asked_of (word ∷ []) = asked_by_word word
asked_of (format ∷ table ∷ []) = asked_by (format_named format) (which_named table)
asked_of (format ∷ table ∷ next ∷ words) = None

-- the first word is `memory`
abbrev pub is_memory : List (List ℕ) → Bool
is_memory [] = false
is_memory (word ∷ words) = is_text (codes "memory") word

abbrev pub command_of : List (List ℕ) → Option Asked
command_of words = if is_memory words then asked_of (drop 1 words) else None
