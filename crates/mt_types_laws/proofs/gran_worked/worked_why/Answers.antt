use Rattle.mt_types_laws.proofs.gran_worked.worked_why.Goals as goal

pub returns-clause-enabled : goal.returns-clause-enabled
returns-clause-enabled c = λ h. absurd (cc h.1)

pub returns-clause-disabled_and_not_accepted : goal.returns-clause-disabled_and_not_accepted
returns-clause-disabled_and_not_accepted c = λ h. absurd (cc h.0)
