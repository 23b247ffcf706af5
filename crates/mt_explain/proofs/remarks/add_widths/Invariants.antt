use Rattle.std.proofs.Common.{◌≡◌, ◌++◌, map}
use Rattle.std.specs.List.{filter, range_with_len}
use Rattle.mt_explain.specs.declared.note.Note.TheVariants.{OtherWidth}
use Rattle.mt_explain.specs.Notes.{is_note}
use Rattle.mt_explain.proofs.remarks.add_widths.Given as goal

abbrev pub invariant-loop-i : goal.invariant-loop-i
invariant-loop-i l = l.list.items ≡ l.fn.list.items ++ filter (is_note l.f) (map OtherWidth (range_with_len 32 l.i))
