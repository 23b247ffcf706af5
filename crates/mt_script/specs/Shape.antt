-- What is wrong with the words of a line outside the sections, whatever its numbers are (own).
--     shape_fault line words row      too few words, too many, or a wrong one in place of `global`, `on` or `off`
use Rattle.std.specs.Prelude.{ℕ, ◌-◌, ◌==◌, ◌&&◌, not, nat_lt, List, length, if◌then◌else◌, Option, Some, None}
use Rattle.mt_script.specs.Words.{text_of, place_of}
use Rattle.mt_script.specs.Numbers.{fault_at}
use Rattle.mt_script.specs.Rows.{fits}
use Rattle.mt_script.specs.declared.fault.ScriptReason.TheVariants.{BadLine}
use Rattle.mt_script.specs.declared.fault.ScriptFault.{ScriptFault}
use Rattle.mt_script.specs.declared.row.Row.{Row}

abbrev pub bad_line : ℕ → List (ℕ × List ℕ) → ℕ → Option ScriptFault
bad_line line words i = Some (fault_at BadLine (place_of line words i))

abbrev pub shape_fault : ℕ → List (ℕ × List ℕ) → Row → Option ScriptFault
shape_fault line words row =
    if nat_lt (length words) row.least then bad_line line words (length words - 1)
    else if nat_lt row.most (length words) then bad_line line words row.most
    else if length words == row.most && not (fits row.last (text_of words (row.most - 1))) then bad_line line words (row.most - 1)
    else None
