use Rattle.std.proofs.Common.{◌≡◌, arith, lit<, refl}
use Rattle.mt_search.specs.WorkedWrongs.{dirty_line, mapped, with_line}
use Rattle.mt_judge_laws.proofs.OnWorked.{not_empty, two_manual}
use Rattle.mt_judge_laws.proofs.worked.worked_manual_lists.Goals as goal

pub returns-clause-manual : goal.returns-clause-manual
returns-clause-manual c = two_manual

pub returns-clause-other_kind : goal.returns-clause-other_kind
returns-clause-other_kind c h = let e : 40 ≡ 36 = (h.goal.3 0 (mapped 0) (lit< tt)).width in omega (arith, e)

pub returns-clause-other_list : goal.returns-clause-other_list
returns-clause-other_list c h = not_empty (h.lists 0 (with_line dirty_line (mapped 0x806)) refl)
