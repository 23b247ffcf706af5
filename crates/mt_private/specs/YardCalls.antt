-- What the calls of a yard say.
use Rattle.std.specs.Prelude.{◌≡◌, ◌⊎◌, ℕ, ◌<◌, true, false, List, [], ◌∷◌, ◌++◌, length, map, slice_get, Option, Some}
use mathlib.Core.Option.{some}
use lib.ListN.{get_elem?}
use Rattle.mt_machine.specs.declared.op.Op.{Op}
use Rattle.mt_machine.specs.declared.phase.Phase.{Phase}
use Rattle.mt_machine.specs.declared.phase.Phase.TheVariants.{Running}
use Rattle.mt_machine.specs.declared.go.Go.{Go}
use Rattle.mt_machine.specs.declared.go.Go.TheVariants.{Given}
use Rattle.mt_machine.specs.Bus.{drain}
use Rattle.mt_machine.specs.System.{Processor, System}
use Rattle.mt_machine.specs.Machine.{Calls, IsEnabled, Machine, common_era, next}
use Rattle.mt_machine.specs.Start.{IsQuiet}
use Rattle.mt_machine.specs.Update.{updated}
use Rattle.mt_regs.specs.RegisterFile.{RegisterFile}
use Rattle.mt_core.specs.Rounds.{Rounds, with_go_given}
use Rattle.mt_core.specs.Steps.{under_way}
use Rattle.mt_rendezvous.specs.declared.view.Added.{Added}
use Rattle.mt_rendezvous.specs.declared.view.Added.TheVariants.{Twice}
use Rattle.mt_rendezvous.specs.Calls.{PassOf}
use Rattle.mt_rendezvous.specs.Station.{held, in_second, order_of}
use Rattle.mt_private.specs.declared.view.Resident.{Resident}
use Rattle.mt_private.specs.declared.view.YardView.{YardView}
use Rattle.mt_private.specs.declared.job.Job.{Job}
use Rattle.mt_private.specs.declared.job.JobAnswers.{JobAnswers}
use Rattle.mt_private.specs.declared.visiting.Visited.{Visited}
use Rattle.mt_private.specs.declared.visiting.Visited.TheVariants.{Cancelled, Complete}
use Rattle.mt_private.specs.OneByOne.{Ran, at_rest, ran}
use Rattle.mt_private.specs.Residents.{own_of}
use Rattle.mt_private.specs.YardPlays.{YardSat}

-- the accesses of its job that the pass's first resident has done
abbrev pub done_by : List Resident → List Op
done_by [] = []
done_by (y ∷ ys) = y.done

abbrev pub done_in : YardSat → List Op
done_in me = done_by me.0.held

-- its event word as the pass last stored it
abbrev pub stored_by : List Resident → ℕ
stored_by [] = 0
stored_by (y ∷ ys) = y.stored

abbrev pub stored_in : YardSat → ℕ
stored_in me = stored_by me.0.held

-- the pass's seat is of its table, and lodges one resident: it has the processor and the words of this system, which has no other
pub record Lodges (pass : PassOf YardSat) (own : System) (added : Added) : Type 0 where
  pub cpu : Processor
  pub same : pass.its ≡ pass.table
  pub alone : own.processors ≡ cpu ∷ []
  pub holds : pass.me.0.held ≡ record { held = held pass.number cpu added; ram = own.memory; done = done_in pass.me; stored = stored_in pass.me } ∷ []
  pub told : pass.me.0.start ≡ pass.start
  pub below : pass.number < length pass.start.cpus
  pub bare : pass.me.1 ≡ []

-- so, and the pass hasn't added to the second count
abbrev pub LodgesAtMostOnce : PassOf YardSat → System → Type 0
LodgesAtMostOnce pass own = (added : Added) × Lodges pass own added × (in_second added ≡ false)

-- what a host keeps by its number is of a resident that came back
abbrev pub KeepsOwn : YardView → List (Option System) → Type 0
KeepsOwn v owns = (k : ℕ) (o : System) → slice_get owns k ≡ Some (Some o) → (i : ℕ) × (y : Resident) × (get_elem? v.held i ≡ some y) × (y.held.number ≡ k) × (own_of y ≡ o)

-- each of its processors is in this phase
abbrev pub AreIn : Phase → System → Type 0
AreIn ph s = map (λ (p : Processor). p.phase) s.processors ≡ ph ∷ []

-- the system with its processors in this phase
abbrev pub in_phase : Phase → System → System
in_phase ph s = record s { processors = map (λ (p : Processor). record p { phase = ph }) s.processors }

-- the resident's own machine takes part in the yard's update; the goal could be called on the first system; and where the machine's rounds end once the go is given, there end those from that call
pub record Visits (pass : PassOf YardSat) (core : Machine) (added : Added) (go : Go) (first : System) : Type 0 where
  pub lodges : Lodges pass core.system added
  pub order : core.order ≡ Some (order_of pass.start go)
  pub era : common_era core.system.processors ≡ common_era pass.start.cpus
  pub one : length first.processors ≡ 1
  pub quiet : IsQuiet (at_rest first)
  pub enabled : IsEnabled (at_rest first) (Calls pass.start.goal)
  pub rounds : (n : Machine) → Rounds (under_way (order_of pass.start Given) core.system) n → Rounds (with_go_given (next (at_rest first) (Calls pass.start.goal))) n

-- the first system once its buffers are emptied, in some phase
abbrev pub IsDrained : System → System → Type 0
IsDrained first own = (ph : Phase) × (own ≡ in_phase ph (drain 0 first))

-- a resident's own system after the whole update
abbrev pub updated_own : RegisterFile → System → System
updated_own goal s = (updated s (0 ∷ []) goal).system

-- what a cancelled update leaves: it is as it was, or its buffers are emptied besides
abbrev pub IsLeft : System → System → Type 0
IsLeft first own = (own ≡ first) ⊎ (own ≡ in_phase Running (drain 0 first))

-- a guest's stay: its job, the system that it came with, the one that it leaves with, and its answers
pub record Stay : Type 0 where
  pub job : Job
  pub first : System
  pub last : System
  pub told : JobAnswers

-- its system after the accesses before the update
abbrev pub after_first : Stay → System
after_first stay = (ran 0 stay.job.before.items stay.first).after

-- and its accesses once the whole update is done
abbrev pub after_update_of : RegisterFile → Stay → Ran
after_update_of goal stay = ran 0 stay.job.after.items (updated_own goal (after_first stay))

-- what comes of a guest. Complete: the accesses before, the whole update and the accesses after, and a load showed that all had arrived again.
-- Cancelled: the accesses before, and a load showed the cancel
abbrev pub VisitEnds : Visited → PassOf YardSat → Stay → Type 0
VisitEnds Complete pass stay =
    Lodges pass stay.last Twice
    × (pass.me.0.shown ≡ Some (length pass.start.cpus))
    × (stay.last ≡ (after_update_of pass.start.goal stay).after)
    × (stay.told.before.items ≡ (ran 0 stay.job.before.items stay.first).answers)
    × (stay.told.after.items ≡ (after_update_of pass.start.goal stay).answers)
    × (done_in pass.me ≡ stay.job.before.items ++ stay.job.after.items)
VisitEnds Cancelled pass stay =
    LodgesAtMostOnce pass stay.last
    × (pass.me.0.cancel ≡ true)
    × IsLeft (after_first stay) stay.last
    × (stay.told.before.items ≡ (ran 0 stay.job.before.items stay.first).answers)
    × (stay.told.after.items ≡ [])
    × (done_in pass.me ≡ stay.job.before.items)
