use Rattle.mt_import.proofs.rdmsr.+call_from.Given as goal

abbrev pub decreases-call_from : goal.decreases-call_from
decreases-call_from l = l.options
