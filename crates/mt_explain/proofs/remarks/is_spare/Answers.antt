use Rattle.std.proofs.Common.{◌≡◌, ◌∙◌, true, None, sym, ap}
use Rattle.mt_ranges.specs.Match.{is_valid}
use Rattle.mt_regs.specs.RegisterFile.{pair_at}
use Rattle.mt_regs.specs.Faults.{register_fault}
use Rattle.mt_explain.proofs.Without.{without_checked}
use Rattle.mt_explain.proofs.remarks.is_spare.Goals as goal
use Rattle.mt_explain.proofs.remarks.is_spare.Goals.{else-is_valid, then-is_valid}

pub changed_pages-requires-clause-new : goal.changed_pages-requires-clause-new
changed_pages-requires-clause-new c = elim c.if-is_valid.branch [
  | then-is_valid w ↦
      let valid : is_valid (pair_at c.args.f.now.pairs c.args.n) ≡ true = cc (c.pair_at.ensures, c.is_valid.ensures, w.if-is_valid.true) in
      let checked : register_fault c.args.f.now ≡ None = w.is_accepted.ensures.checked (sym w.value-is ∙ c.if-is_accepted.true) in
      ap register_fault c.without.ensures ∙ without_checked c.args.f.now c.args.n valid checked
  | else-is_valid w ↦ absurd (cc (w.value-is, w.if-is_valid.false, c.if-is_accepted.true))
]
