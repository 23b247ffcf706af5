use Rattle.std.proofs.Common.{◌≡◌, List, length}
use Rattle.mt_text.specs.Text.{lines_of, end_of}
use Rattle.mt_dump.specs.Line.{Reading}
use Rattle.mt_dump.specs.Reader.{HasRead}
use Rattle.mt_script.specs.Script.{offence_in, script_offence}
use Rattle.mt_script.proofs.whole.read_lines.Given as goal

abbrev pub invariant-lines : goal.invariant-lines
invariant-lines l = (before : List Reading) × HasRead l.head.dump before × (script_offence l.source ≡ offence_in (end_of l.source) l.lines.number (lines_of l.lines.bytes) l.head.setup before)

abbrev pub decreases-lines : goal.decreases-lines
decreases-lines l = length l.lines.bytes
