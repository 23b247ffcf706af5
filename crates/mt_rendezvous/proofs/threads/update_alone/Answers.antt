use Rattle.std.proofs.Common.{◌∙◌, ap, None}
use Rattle.mt_machine.specs.Machine.{Machine}
use Rattle.mt_machine.specs.Update.{updated}
use Rattle.mt_core.specs.Rounds.{in_order}
use Rattle.mt_rendezvous.proofs.Running.{updated_alone}
use Rattle.mt_rendezvous.proofs.threads.update_alone.Goals as goal

pub returns : goal.returns
returns c =
    let s : Machine = record { system = c.args.system; order = None } in
    c.update_alone.ensures ∙ ap (λ (m : Machine). updated m.system (in_order m) c.args.goal.now) c.new-core.ensures
    ∙ updated_alone c.args.system (in_order s) c.args.goal.now c.requires.no_buffers
