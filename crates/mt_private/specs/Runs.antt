-- A run of jobs and one update (own).
use Rattle.std.specs.Prelude.{◌≡◌, ◌↔◌, ℕ, Err, IfOk, IsSome, List, None, OnErr, Result, Some, Vec, length, vec_len}
use Rattle.std.specs.List.{All}
use Rattle.std.specs.declared.alloc.Global.{Global}
use Rattle.mt_regs.specs.declared.fault.Fault.{Fault}
use Rattle.mt_regs.specs.RegisterFile.{RegisterFile}
use Rattle.mt_regs.specs.Faults.{IsAccepted, IsFirstFault}
use Rattle.mt_machine.specs.Machine.{Machine}
use Rattle.mt_rendezvous.specs.Update.{FitsUpdate}
use Rattle.mt_private.specs.declared.fault.PrivateFault.{PrivateFault}
use Rattle.mt_private.specs.declared.fault.PrivateFault.TheVariants.{NoMemory, Refused, Shared, UnderWay}
use Rattle.mt_private.specs.declared.job.Job.{Job}
use Rattle.mt_private.specs.declared.job.JobAnswers.{JobAnswers}
use Rattle.mt_private.specs.Jobs.{FitsJob}
use Rattle.mt_private.specs.OneByOne.{AreOneByOne, jobs_one_by_one}
use Rattle.mt_private.specs.Pages.{IsLeastShared, IsPrivate}

-- the update may be called, and there is a job for each processor, whose addresses fit
pub record FitsRun (m : Machine) (goal : RegisterFile) (jobs : Vec Job Global) : Type 0 where
  pub update : FitsUpdate m goal
  pub one_each : vec_len jobs ≡ length m.system.processors
  pub addresses : All FitsJob jobs.items

-- What a run returns, and what it does to a core: the jobs and the update one by one, or nothing.
pub record IsPrivateRun (old : Machine) (goal : RegisterFile) (jobs : List Job) (result : Result (Vec JobAnswers Global) PrivateFault) (new : Machine) : Type 0 where
  pub under_way : (result ≡ Err UnderWay) ↔ IsSome old.order
  pub refused : (fault : Fault) → (result ≡ Err (Refused fault)) ↔ ((old.order ≡ None) × IsFirstFault goal (Some fault))
  pub shared : (page : ℕ) → (result ≡ Err (Shared page)) ↔ ((old.order ≡ None) × IsAccepted goal × IsLeastShared old.system page)
  pub no_memory : result ≡ Err NoMemory → (old.order ≡ None) × IsAccepted goal × IsPrivate old.system
  pub done : IfOk result (λ told. AreOneByOne (jobs_one_by_one old.system goal jobs) new told.items)
  pub kept : OnErr result (new ≡ old)
