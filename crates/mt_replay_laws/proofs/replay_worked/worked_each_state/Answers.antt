use Rattle.mt_replay_laws.proofs.replay_worked.worked_each_state.Goals as goal

pub returns-clause-not_of_the_last : goal.returns-clause-not_of_the_last
returns-clause-not_of_the_last c = λ h. absurd (cc h.1.1.0)
