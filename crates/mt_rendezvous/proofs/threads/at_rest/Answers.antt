use Rattle.mt_rendezvous.proofs.threads.at_rest.Goals as goal

pub new-requires-clause-running : goal.new-requires-clause-running
new-requires-clause-running c = c.requires.quiet.running

pub new-requires-clause-one_era : goal.new-requires-clause-one_era
new-requires-clause-one_era c = c.requires.quiet.one_era

pub new-requires-clause-one_kind : goal.new-requires-clause-one_kind
new-requires-clause-one_kind c = c.requires.quiet.one_kind
