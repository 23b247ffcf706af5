use Rattle.std.specs.Prelude.{is_ok}
use Rattle.std.proofs.Common.{◌≡◌, ◌∙◌, ap, sym, subst, length, map}
use Rattle.mt_bus.specs.declared.system_parts.SystemParts.{SystemParts}
use Rattle.mt_regs.specs.RegisterFile.{RegisterFile}
use Rattle.mt_machine.specs.Machine.{Machine}
use Rattle.mt_machine.specs.Update.{updated}
use Rattle.mt_core.specs.Rounds.{in_order}
use Rattle.mt_rendezvous.specs.declared.view.Start.{Start}
use Rattle.mt_rendezvous.specs.Station.{start_of}
use Rattle.mt_rendezvous.specs.Update.{decided}
use Rattle.mt_private.specs.declared.job.Part.TheVariants.{After}
use Rattle.mt_private.specs.Gathered.{IsRest}
use Rattle.mt_private.specs.InYard.{seat_in}
use Rattle.mt_private.specs.Jobs.{ops_in}
use Rattle.mt_private.specs.OneByOne.{AreOneByOne, at_rest, jobs_one_by_one, ran_each}
use Rattle.mt_private.specs.Residents.{Opens, system_of}
use Rattle.mt_private.specs.Visitors.{CanGoOn}
use Rattle.mt_private.proofs.Ended.{all_given, all_stopped, can_go_on, few_ended, quiet_ended}
use Rattle.mt_private.proofs.Meeting.{all_back, waiting}
use Rattle.mt_private.proofs.runs.visit_all.Goals as goal

pub invariant_of-shared-clause-same : goal.invariant_of-shared-clause-same
invariant_of-shared-clause-same g c = sym (ap (λ (u : Start). u.goal) c.in-Some.ensures.gathered.key)

pub invariant_of-shared-clause-one_each : goal.invariant_of-shared-clause-one_each
invariant_of-shared-clause-one_each g c = c.requires.processors ∙ sym (ap (λ (u : Start). length u.cpus) c.in-Some.ensures.gathered.key) ∙ c.in-Some.yard.counted

pub meet-outcome-requires-clause-pending : goal.meet-outcome-requires-clause-pending
meet-outcome-requires-clause-pending g c κs within = c.in-Some.ensures.gathered.hosts

pub meet-outcome-requires-clause-fresh : goal.meet-outcome-requires-clause-fresh
meet-outcome-requires-clause-fresh g c κs within = c.in-Some.ensures.gathered.fresh

pub meet-outcome-requires-clause-waiting : goal.meet-outcome-requires-clause-waiting
meet-outcome-requires-clause-waiting g c κs within =
    let t : Start = start_of c.in-Some.yard.table.shared.key in
    let key = c.in-Some.ensures.gathered.key in
    let size : length c.args.jobs.items ≡ length t.cpus = c.requires.processors ∙ sym (ap (λ (u : Start). length u.cpus) key) in
    waiting c.in-Some.yard.table.shared.table_id t c.args.jobs.items c.in-Some.guests.items c.args.told.items (subst Opens (sym key) c.requires.opens) c.in-Some.ensures.gathered.guests_are
    (c.in-Some.ensures.gathered.count ∙ sym (ap (λ (u : Start). length u.cpus) key)) size c.requires.one_each c.requires.addresses c.requires.open

pub leave-requires-clause-hosts : goal.leave-requires-clause-hosts
leave-requires-clause-hosts g c =
    c.meet-outcome.ensures.returned.came.root

pub leave-requires-clause-back : goal.leave-requires-clause-back
leave-requires-clause-back g c =
    let t : Start = start_of c.in-Some.yard.table.shared.key in
    let key = c.in-Some.ensures.gathered.key in
    let size : length c.args.jobs.items ≡ length t.cpus = c.requires.processors ∙ sym (ap (λ (u : Start). length u.cpus) key) in
    let e = c.meet-outcome.result in
    let long : length e.told.items ≡ length c.args.jobs.items = c.meet-outcome.ensures.returned.whole ∙ c.in-Some.ensures.gathered.count ∙ sym c.requires.processors in
    all_back (seat_in c.in-Some.yard e.host.seat) c.args.jobs.items e.host.owns.items e.told.items c.meet-outcome.ensures.returned.came size long c.in-Some.yard.count c.in-Some.yard.counted

pub leave-requires-clause-rest : goal.leave-requires-clause-rest
leave-requires-clause-rest g c =
    let is = c.in-Some.ensures.gathered in
    subst (λ (x : Start × SystemParts). IsRest x.0 x.1) (λ i. (sym is.key i, sym c.meet-outcome.ensures.rest i)) is.rest

pub at_rest-requires-clause-quiet : goal.at_rest-requires-clause-quiet
at_rest-requires-clause-quiet g c =
    let t : Start = start_of c.in-Some.yard.table.shared.key in
    let key = c.in-Some.ensures.gathered.key in
    let size : length c.args.jobs.items ≡ length t.cpus = c.requires.processors ∙ sym (ap (λ (u : Start). length u.cpus) key) in
    let e = c.meet-outcome.result in
    let long : length e.told.items ≡ length c.args.jobs.items = c.meet-outcome.ensures.returned.whole ∙ c.in-Some.ensures.gathered.count ∙ sym c.requires.processors in
    quiet_ended (seat_in c.in-Some.yard e.host.seat) c.args.jobs.items e.host.owns.items e.told.items c.meet-outcome.ensures.returned.came size long c.leave.result c.leave.ensures.leaves c.leave.ensures.owns (is_ok e.outcome) c.meet-outcome.ensures.returned.said

pub at_rest-requires-clause-few : goal.at_rest-requires-clause-few
at_rest-requires-clause-few g c =
    let t : Start = start_of c.in-Some.yard.table.shared.key in
    let key = c.in-Some.ensures.gathered.key in
    let size : length c.args.jobs.items ≡ length t.cpus = c.requires.processors ∙ sym (ap (λ (u : Start). length u.cpus) key) in
    let e = c.meet-outcome.result in
    let long : length e.told.items ≡ length c.args.jobs.items = c.meet-outcome.ensures.returned.whole ∙ c.in-Some.ensures.gathered.count ∙ sym c.requires.processors in
    few_ended (seat_in c.in-Some.yard e.host.seat) c.args.jobs.items e.host.owns.items e.told.items c.meet-outcome.ensures.returned.came size long c.leave.result c.leave.ensures.leaves c.leave.ensures.owns

pub update_and_access-requires : goal.update_and_access-requires
update_and_access-requires g c =
    let t : Start = start_of c.in-Some.yard.table.shared.key in
    let key = c.in-Some.ensures.gathered.key in
    let size : length c.args.jobs.items ≡ length t.cpus = c.requires.processors ∙ sym (ap (λ (u : Start). length u.cpus) key) in
    let e = c.meet-outcome.result in
    let long : length e.told.items ≡ length c.args.jobs.items = c.meet-outcome.ensures.returned.whole ∙ c.in-Some.ensures.gathered.count ∙ sym c.requires.processors in
    subst (λ (x : Machine × RegisterFile). CanGoOn x.0 x.1 c.args.jobs.items e.told.items) (λ i. (sym c.at_rest.ensures i, (key i).goal))
    (can_go_on (seat_in c.in-Some.yard e.host.seat) c.args.jobs.items e.host.owns.items e.told.items c.meet-outcome.ensures.returned.came size long c.leave.result c.leave.ensures.leaves c.leave.ensures.owns (c.meet-outcome.ensures.returned.said ∙ ap decided (ap is_ok c.in-Err.is)) c.requires.addresses)

pub returns-in-Ok-clause-done : goal.returns-in-Ok-clause-done
returns-in-Ok-clause-done g c =
    let t : Start = start_of c.in-Some.yard.table.shared.key in
    let key = c.in-Some.ensures.gathered.key in
    let size : length c.args.jobs.items ≡ length t.cpus = c.requires.processors ∙ sym (ap (λ (u : Start). length u.cpus) key) in
    let e = c.meet-outcome.result in
    let long : length e.told.items ≡ length c.args.jobs.items = c.meet-outcome.ensures.returned.whole ∙ c.in-Some.ensures.gathered.count ∙ sym c.requires.processors in
    subst (λ (x : Start × Machine). AreOneByOne (jobs_one_by_one (system_of x.0) x.0.goal c.args.jobs.items) x.1 e.told.items) (λ i. (key i, sym c.at_rest.ensures i))
    (all_given (seat_in c.in-Some.yard e.host.seat) c.args.jobs.items e.host.owns.items e.told.items c.meet-outcome.ensures.returned.came size long c.leave.result c.leave.ensures.leaves c.leave.ensures.owns (c.meet-outcome.ensures.returned.said ∙ ap decided (ap is_ok c.in-Ok.is)))

pub returns-clause-done : goal.returns-clause-done
returns-clause-done g c =
    let t : Start = start_of c.in-Some.yard.table.shared.key in
    let key = c.in-Some.ensures.gathered.key in
    let size : length c.args.jobs.items ≡ length t.cpus = c.requires.processors ∙ sym (ap (λ (u : Start). length u.cpus) key) in
    let e = c.meet-outcome.result in
    let long : length e.told.items ≡ length c.args.jobs.items = c.meet-outcome.ensures.returned.whole ∙ c.in-Some.ensures.gathered.count ∙ sym c.requires.processors in
    let goal_is : c.args.goal ≡ t.goal = sym (ap (λ (u : Start). u.goal) key) in
    subst (λ (u : Start). AreOneByOne (jobs_one_by_one (system_of u) u.goal c.args.jobs.items) c.update_and_access.new.core c.update_and_access.new.told.items) key
    (all_stopped (seat_in c.in-Some.yard e.host.seat) c.args.jobs.items e.host.owns.items e.told.items c.meet-outcome.ensures.returned.came size long c.leave.result c.leave.ensures.leaves c.leave.ensures.owns (c.meet-outcome.ensures.returned.said ∙ ap decided (ap is_ok c.in-Err.is)) c.update_and_access.new.core c.update_and_access.new.told.items
    (c.update_and_access.ensures.left ∙ ap (λ (x : Machine × RegisterFile). at_rest (ran_each 0 (map (ops_in After) c.args.jobs.items) (updated x.0.system (in_order x.0) x.1).system).after) (λ i. (c.at_rest.ensures i, goal_is i)))
    (c.update_and_access.ensures.after ∙ ap (λ (x : Machine × RegisterFile). (ran_each 0 (map (ops_in After) c.args.jobs.items) (updated x.0.system (in_order x.0) x.1).system).answers) (λ i. (c.at_rest.ensures i, goal_is i)))
    c.update_and_access.ensures.before)
