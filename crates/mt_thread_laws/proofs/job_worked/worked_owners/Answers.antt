use Rattle.std.proofs.Common.{◌≡◌, ap, true, false}
use Rattle.mt_private.specs.Pages.{names}
use Rattle.mt_thread_laws.specs.Worked.{owner, pair, second_page}
use Rattle.mt_thread_laws.proofs.JobOnWorked.{first_owns, not_sharing}
use Rattle.mt_thread_laws.proofs.job_worked.worked_owners.Goals as goal

pub returns-clause-owned : goal.returns-clause-owned
returns-clause-owned c = first_owns pair.memory

pub returns-clause-names_others : goal.returns-clause-names_others
returns-clause-names_others c h =
    let p : h.processor ≡ owner 0x100 = (let at = h.at in cc) in
    let e : second_page 0x100 ≡ true = h.own 0x100 (ap (names 0x100) p) in
    cc

pub returns-clause-named_by_two : goal.returns-clause-named_by_two
returns-clause-named_by_two c = not_sharing

pub returns-clause-not_apart : goal.returns-clause-not_apart
returns-clause-not_apart c h = let e : true ≡ false = h 0x100 (λ i. true) in cc
