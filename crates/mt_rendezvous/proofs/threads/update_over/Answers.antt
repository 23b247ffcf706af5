use Rattle.std.proofs.Common.{◌≡◌, ◌∙◌, ap, sym, subst, length}
use Rattle.std.specs.Prelude.{is_ok}
use Rattle.mt_laws.specs.Parts.{system}
use Rattle.mt_rendezvous.specs.declared.view.Start.{Start}
use Rattle.mt_rendezvous.specs.Station.{Begins, broadcast}
use Rattle.mt_rendezvous.specs.Update.{left_by}
use Rattle.mt_rendezvous.proofs.Ended.{queue, whole}
use Rattle.mt_rendezvous.proofs.threads.update_over.Goals as goal

pub meet-outcome-requires-clause-waiting : goal.meet-outcome-requires-clause-waiting
meet-outcome-requires-clause-waiting g c κs within = queue _ _ (subst Begins (sym c.in-Ok-gather_station.ensures.gathered.key) c.requires.begins) c.in-Ok-gather_station.ensures.gathered.attendees

pub returns-clause-left : goal.returns-clause-left
returns-clause-left g c =
    let key = c.in-Ok-gather_station.ensures.gathered.key in
    let r = c.meet-outcome.ensures in
    let done = c.meet-outcome.result.done.items in
    let given = is_ok c.meet-outcome.result.outcome in
    subst (λ (t : Start). system done c.disband.new.ram ≡ left_by given (broadcast t).system t.goal) key
    (whole _ done c.disband.new.ram given _ c.disband.ensures r.tied r.ran r.said (r.whole ∙ c.in-Ok-gather_station.ensures.gathered.count ∙ sym (ap (λ (t : Start). length t.cpus) key)))
