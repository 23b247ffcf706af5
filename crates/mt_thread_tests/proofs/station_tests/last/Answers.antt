use Rattle.std.proofs.Common.{◌≡◌, ◌∙◌, ap, refl, List, ◌++◌, length, Option, None, Some, rules}
use Rattle.std.specs.Prelude.{IfSome, option_to_list}
use lib.ListN.{get_elem?}
use Rattle.atomic_table.proofs.Lists.{at_last, at_longer}
use Rattle.mt_rendezvous.specs.declared.station.Attendee.{Attendee}
use Rattle.mt_rendezvous.specs.declared.station.Station.{Station}
use Rattle.mt_rendezvous.specs.Station.{Begins}
use Rattle.mt_rendezvous.specs.InStation.{AllNewIn, IsTaken, start_at}
use Rattle.mt_rendezvous.proofs.Ended.{is_taken}
use Rattle.mt_thread_tests.proofs.station_tests.last.Goals as goal

popped : (s : Station) (old new : List Attendee) (o : Option Attendee) → Begins (start_at s) → old ≡ new ++ option_to_list o → AllNewIn s old → IfSome o (λ a. IsTaken s a.pass a.cpu)
popped s old new None begins e all = search rules
popped s old new (Some a) begins e all = is_taken s (length new) a begins (all (length new) a (ap (λ l. get_elem? l (length new)) e ∙ at_last new a (length new) refl))

pub returns-clause-taken : goal.returns-clause-taken
returns-clause-taken c =
    popped c.args.station.now c.args.waiting.now.items c.pop.new.self.items c.pop.result c.requires.begins c.pop.ensures.items c.requires.new

pub returns-clause-rest : goal.returns-clause-rest
returns-clause-rest c k a at = c.requires.new k a (ap (λ l. get_elem? l k) c.pop.ensures.items ∙ at_longer c.pop.new.self.items (option_to_list c.pop.result) k a at)
