use Rattle.std.proofs.Common.{◌≡◌, ap, arith, length, true, false, lit<, refl}
use Rattle.mt_regs.specs.RegisterFile.{RegisterFile}
use Rattle.std.specs.Prelude.{List}
use Rattle.mt_search.specs.WorkedWrongs.{mapped}
use Rattle.mt_judge_laws.proofs.OnWorked.{two_right, two_strict}
use Rattle.mt_judge_laws.proofs.worked.worked_right_starts.Goals as goal

pub returns-clause-right : goal.returns-clause-right
returns-clause-right c = two_right

pub returns-clause-strict : goal.returns-clause-strict
returns-clause-strict c = two_strict

pub returns-clause-other_files : goal.returns-clause-other_files
returns-clause-other_files c h = let e : 1 ≡ 2 = ap (λ (fs : List RegisterFile). length fs) (h.starts refl) in omega (arith, e)

pub returns-clause-taken : goal.returns-clause-taken
returns-clause-taken c h = let e : false ≡ true = h.quiet.running 0 (mapped 0) (lit< tt) in cc

pub returns-clause-finished : goal.returns-clause-finished
returns-clause-finished c h = let e : 1 ≡ 0 = h.first 0 (mapped 0) (lit< tt) in omega (arith, e)
