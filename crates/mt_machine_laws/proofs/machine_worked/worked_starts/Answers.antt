use Rattle.std.proofs.Common.{inl, inr, arith, rules}
use Rattle.std.specs.Prelude.{◌∷◌, []}
use Rattle.mt_machine.specs.Start.{IsStart}
use Rattle.mt_machine_laws.specs.MachineWorkedRuns.{call_order, calling, idle, ready}
use Rattle.mt_machine_laws.proofs.machine_worked.worked_starts.Goals as goal

pub returns-clause-broadcast : goal.returns-clause-broadcast
returns-clause-broadcast c = inr (call_order, search rules)

one_has_not_taken : IsStart (calling call_order (ready ∷ idle ∷ [])) → ⊥
one_has_not_taken (inl quiet) = absurd (cc quiet.no_order)
one_has_not_taken (inr (o, h)) = absurd (cc (h.taken 1 ready (omega arith)))

pub returns-clause-one_has_not_taken : goal.returns-clause-one_has_not_taken
returns-clause-one_has_not_taken c = one_has_not_taken
