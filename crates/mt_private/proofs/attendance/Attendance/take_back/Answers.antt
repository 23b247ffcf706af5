use Rattle.std.proofs.Common.{◌≡◌, ◌∙◌, ap, sym, subst, arith, ℕ, ◌<◌, length, rules, set, Some}
use Rattle.std.specs.Prelude.{slice_get}
use Rattle.std.proofs.lemmas.Option.{slice_get_within}
use Rattle.mt_machine.specs.System.{System}
use Rattle.mt_private.specs.declared.job.Job.{Job}
use Rattle.mt_private.specs.declared.shared.Shared.{Shared}
use Rattle.mt_private.specs.declared.visitor.Visitor.{Visitor}
use Rattle.mt_private.specs.InYard.{HasComeIn, LodgesIn, seat_in, start_at}
use Rattle.mt_private.specs.Visitors.{HasCome}
use Rattle.mt_private.proofs.Lists.{there}
use Rattle.mt_private.proofs.Returned.{lodged, returned_more}
use Rattle.mt_private.proofs.attendance.Attendance.take_back.Goals as goal

-- whatever job is at its number is the one that it came with
come_with : (shared : Shared) (k : ℕ) (v : Visitor) → HasComeIn shared k v → (job : Job) → slice_get shared.jobs.items k ≡ Some job → HasCome shared.yard.table.shared.table_id (start_at shared.yard) job k v
come_with shared k v come job at = there (λ (j : Job). HasCome shared.yard.table.shared.table_id (start_at shared.yard) j k v) shared.jobs.items k job at (come.job, come.at, come.come)

has_job : (shared : Shared) (k : ℕ) (v : Visitor) → HasComeIn shared k v → k < length shared.jobs.items
has_job shared k v come = slice_get_within shared.jobs.items k come.job come.at

has_place : (shared : Shared) (k : ℕ) (v : Visitor) → HasComeIn shared k v → k < length (start_at shared.yard).cpus
has_place shared k v come =
    let low = has_job shared k v come in
    let jobs = shared.one_each in
    let cpus = shared.yard.counted in
    omega arith

pub take_back-requires-clause-hosts : goal.take_back-requires-clause-hosts
take_back-requires-clause-hosts c = c.requires.returned.came.root

pub take_back-requires-clause-lodges : goal.take_back-requires-clause-lodges
take_back-requires-clause-lodges c =
    let shared : Shared = c.args.shared.now in
    let v : Visitor = c.args.visitor in
    let k = length c.args.self.now.told.items in
    let come = c.requires.came in
    let l = lodged (seat_in shared.yard c.args.self.now.host.seat) shared.jobs.items c.args.self.now.host.owns.items c.args.self.now.told.items c.requires.returned.came v
    (has_place shared k v come) (has_job shared k v come) (come_with shared k v come) in
    (l.0, subst (λ (o : System). LodgesIn shared.yard v.pass o l.0) (sym c.into_system-own.ensures) l.1)

pub take_back-requires-clause-long : goal.take_back-requires-clause-long
take_back-requires-clause-long c = c.requires.returned.came.size ∙ c.args.shared.now.yard.counted

pub returns-clause-returned : goal.returns-clause-returned
returns-clause-returned c =
    let shared : Shared = c.args.shared.now in
    let v : Visitor = c.args.visitor in
    let k = length c.args.self.now.told.items in
    let come = c.requires.came in record {
      came = returned_more (seat_in shared.yard c.args.self.now.host.seat) shared.jobs.items c.args.self.now.host.owns.items c.args.self.now.told.items c.requires.returned.came v
          (has_place shared k v come) (has_job shared k v come) (come_with shared k v come)
          c.take_back.new.self.seat.table_id c.take_back.new.self.seat.me c.take_back.new.self.owns.items c.push_reserved.new.self.items
          c.take_back.ensures.hosts c.take_back.ensures.view
          (c.take_back.ensures.owns ∙ ap (λ (o : System). set c.args.self.now.host.owns.items v.pass.number (Some o)) c.into_system-own.ensures)
          (c.take_back.ensures.keeps c.requires.returned.came.keeps)
          c.push_reserved.ensures.items;
      said = search rules;
      whole = search rules;
    }
