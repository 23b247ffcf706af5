use Rattle.std.proofs.Common.{◌≡◌, length}
use Rattle.mt_text.specs.Text.{lines_of}
use Rattle.mt_replay.specs.Summing.{with_lines, with_text}
use Rattle.mt_replay.proofs.summing.add_text.Given as goal

abbrev pub invariant-lines : goal.invariant-lines
invariant-lines l = with_lines l.totals (lines_of l.lines.bytes) ≡ with_text l.initial.totals l.text

abbrev pub decreases-lines : goal.decreases-lines
decreases-lines l = length l.lines.bytes
