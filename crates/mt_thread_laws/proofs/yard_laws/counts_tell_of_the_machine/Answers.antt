use Rattle.mt_private.proofs.Residents.Barriers.{arrives, arrives_again, leaves, passes, releases, unmoved}
use Rattle.mt_private.proofs.Residents.Decisions.{cancels, gives}
use Rattle.mt_private.proofs.Residents.Work.{takes}
use Rattle.mt_thread_laws.proofs.yard_laws.counts_tell_of_the_machine.Goals as goal

pub returns-clause-takes : goal.returns-clause-takes
returns-clause-takes c t all go first second s k y yard has runs low = takes t all go first second s yard k y has.at has.has_added runs low

pub returns-clause-stays : goal.returns-clause-stays
returns-clause-stays c t all go first second s k y yard at = unmoved t all go first second s yard k y at

pub returns-clause-arrives : goal.returns-clause-arrives
returns-clause-arrives c t all go first second s k y yard has taken = arrives t all go first second s yard k y has.at has.has_added taken

pub returns-clause-passes : goal.returns-clause-passes
returns-clause-passes c t all go first second s k y yard has arrived full = passes t all go first second s yard k y has.at has.has_added arrived full

pub returns-clause-leaves : goal.returns-clause-leaves
returns-clause-leaves c t all go first second s k y yard has waits high = leaves t all go first second s yard k y has.at has.has_added waits high

pub returns-clause-decides : goal.returns-clause-decides
returns-clause-decides c t all first second s yard = (gives t all first second s yard, cancels t all first second s yard)

pub returns-clause-arrives_again : goal.returns-clause-arrives_again
returns-clause-arrives_again c t all go first second s k y yard has restored = arrives_again t all go first second s yard k y has.at has.has_added restored

pub returns-clause-releases : goal.returns-clause-releases
returns-clause-releases c t all go first second s k y yard has waits full = releases t all go first second s yard k y has.at has.has_added waits full
