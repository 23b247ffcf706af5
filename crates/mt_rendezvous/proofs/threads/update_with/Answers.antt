use Rattle.std.proofs.Common.{◌∙◌, ap, []}
use Rattle.mt_machine.specs.System.{System}
use Rattle.mt_machine.specs.Update.{updated}
use Rattle.mt_core.specs.Rounds.{in_order}
use Rattle.mt_laws.proofs.Updates.ToBroadcast.{updated_from_broadcast}
use Rattle.mt_rendezvous.proofs.threads.update_with.Goals as goal

pub returns : goal.returns
returns g c =
    let called = c.in_ok-call_and_take.ensures in
    let h = called.taken in
    record {
      under_way = called.under_way;
      refused = called.refused;
      updated = (
        h.enabled.0,
        h.enabled.2,
        c.carry_out.ensures
            ∙ ap (λ (s : System). updated s [] c.args.goal.now) h.system
            ∙ (updated_from_broadcast c.args.core.now.system (in_order c.args.core.now) c.args.goal.now).from_taken,
      );
      kept = tt;
    }
