use Rattle.std.proofs.Common.{◌≡◌, rules, subst, true}
use Rattle.std.specs.Prelude.{is_ok}
use Rattle.std.specs.List.{list_all}
use Rattle.mt_laws.specs.Parts.{system}
use Rattle.mt_machine.specs.Memory.{Memory}
use Rattle.mt_rendezvous.specs.Update.{has_empty_cache, left_by}
use Rattle.mt_rendezvous.proofs.Unshared.{left_alone}
use Rattle.mt_rendezvous.proofs.threads.update_on_threads.Goals as goal

pub returns-clause-left : goal.returns-clause-left
returns-clause-left g c =
    let empty : list_all has_empty_cache c.args.cpus.items ≡ true = search rules in
    let after = c.update_over-outcome in
    let given = is_ok after.result.outcome in
    left_alone given c.args.cpus.items after.result.cpus.items c.args.ram after.result.ram c.args.goal.now empty c.requires.begins.broadcasts.sound.memory
    (subst (λ (m : Memory). system after.result.cpus.items after.result.ram ≡ left_by given (system c.args.cpus.items m) c.args.goal.now) c.new-none.ensures after.ensures.left)
