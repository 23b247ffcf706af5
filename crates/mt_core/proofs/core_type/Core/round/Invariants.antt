use Rattle.mt_machine.specs.Machine.{Machine}
use Rattle.mt_core.specs.Rounds.{Rounds, with_go_given}
use Rattle.mt_core.proofs.Progress.{IsDecided}
use Rattle.mt_core.proofs.Work.{work_of}
use Rattle.mt_core.proofs.core_type.Core.round.Given as goal

abbrev pub invariant-loop-self : goal.invariant-loop-self
invariant-loop-self l = ((n : Machine) → Rounds l.self n → Rounds (with_go_given l.fn.self) n) × IsDecided l.self

abbrev pub decreases-loop-self : goal.decreases-loop-self
decreases-loop-self l = work_of l.self
