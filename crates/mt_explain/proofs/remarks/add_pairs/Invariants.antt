use Rattle.std.proofs.Common.{◌≡◌, ◌++◌, map}
use Rattle.std.specs.List.{filter, range_with_len}
use Rattle.mt_explain.specs.declared.note.Note.TheVariants.{IdlePair}
use Rattle.mt_explain.specs.Notes.{is_note}
use Rattle.mt_explain.proofs.remarks.add_pairs.Given as goal

abbrev pub invariant-loop-n : goal.invariant-loop-n
invariant-loop-n l = l.list.items ≡ l.fn.list.items ++ filter (is_note l.f) (map IdlePair (range_with_len 0 l.n))
