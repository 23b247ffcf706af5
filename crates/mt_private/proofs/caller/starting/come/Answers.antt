use Rattle.std.proofs.Common.{◌≡◌, ℕ, subst, Some}
use Rattle.std.specs.Prelude.{slice_get}
use Rattle.std.proofs.lemmas.Option.{slice_get_within}
use Rattle.mt_machine.specs.System.{System}
use Rattle.mt_private.specs.declared.job.Job.{Job}
use Rattle.mt_private.specs.declared.shared.Shared.{Shared}
use Rattle.mt_private.specs.declared.visitor.Visitor.{Visitor}
use Rattle.mt_private.specs.InYard.{IsNewIn, pass_in, start_at}
use Rattle.mt_private.specs.Visitors.{IsNew}
use Rattle.mt_private.specs.YardCalls.{VisitEnds}
use Rattle.mt_private.proofs.Lists.{there}
use Rattle.mt_private.proofs.caller.starting.come.Goals as goal

-- the job at its number is its own
its_job : (shared : Shared) (k : ℕ) (v : Visitor) (job : Job) → slice_get shared.jobs.items k ≡ Some job → IsNewIn shared k v → IsNew shared.yard.table.shared.table_id (start_at shared.yard) job k v
its_job shared k v job at new = there (λ (j : Job). IsNew shared.yard.table.shared.table_id (start_at shared.yard) j k v) shared.jobs.items k job at (new.job, new.at, new.new)

pub job_of-job-requires : goal.job_of-job-requires
job_of-job-requires g c = let n = c.requires.new in slice_get_within c.args.shared.now.jobs.items c.args.visitor.now.pass.number n.job n.at

pub visit_with-visitor-requires-clause-ready : goal.visit_with-visitor-requires-clause-ready
visit_with-visitor-requires-clause-ready g c κs within = let n = c.requires.new.new in record { lodges = n.gathered.lodges; runs = n.runs; idle = n.idle }

pub visit_with-visitor-requires-clause-new : goal.visit_with-visitor-requires-clause-new
visit_with-visitor-requires-clause-new g c κs within = c.requires.new.new.gathered.none_done

pub visit_with-visitor-requires-clause-goal : goal.visit_with-visitor-requires-clause-goal
visit_with-visitor-requires-clause-goal g c κs within = c.args.shared.now.same

pub visit_with-visitor-requires-clause-addresses : goal.visit_with-visitor-requires-clause-addresses
visit_with-visitor-requires-clause-addresses g c κs within = (its_job _ _ _ c.job_of-job.result.now c.job_of-job.ensures c.requires.new).fits

pub visit_with-visitor-requires-clause-open : goal.visit_with-visitor-requires-clause-open
visit_with-visitor-requires-clause-open g c κs within = (its_job _ _ _ c.job_of-job.result.now c.job_of-job.ensures c.requires.new).has_room

pub returns : goal.returns
returns g c =
    let shared : Shared = c.args.shared.now in
    let new = c.visit_with-visitor.new in
    record {
      job = c.job_of-job.result.now;
      at = c.job_of-job.ensures;
      come = record {
        ends = subst (λ (x : System). VisitEnds c.visit_with-visitor.result (pass_in shared.yard new.pass) (record { job = c.job_of-job.result.now; first = x; last = new.core.system; told = new.told }))
            c.requires.new.new.gathered.own_is c.visit_with-visitor.ensures.ends;
        numbered = c.visit_with-visitor.ensures.number;
        runs = c.visit_with-visitor.ensures.runs;
        has_room = c.visit_with-visitor.ensures.has_room;
      };
    }
