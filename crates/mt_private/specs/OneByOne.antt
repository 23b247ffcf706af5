-- Jobs of processors and one update, one after the other (own).
use Rattle.std.specs.Prelude.{◌≡◌, ℕ, ◌+◌, List, [], ◌∷◌, map, None}
use Rattle.mt_regs.specs.RegisterFile.{RegisterFile}
use Rattle.mt_machine.specs.declared.op.Op.{Op}
use Rattle.mt_machine.specs.declared.done.Done.{Done}
use Rattle.mt_machine.specs.System.{System}
use Rattle.mt_machine.specs.Access.{access}
use Rattle.mt_machine.specs.Machine.{Machine}
use Rattle.mt_machine.specs.Update.{updated}
use Rattle.mt_core.specs.Rounds.{in_order}
use Rattle.mt_private.specs.declared.job.Job.{Job}
use Rattle.mt_private.specs.declared.job.Part.TheVariants.{Before, After}
use Rattle.mt_private.specs.declared.job.JobAnswers.{JobAnswers}
use Rattle.mt_private.specs.Jobs.{answers_in, ops_in}

-- answers, and the system after them
pub record Ran : Type 0 where
  pub answers : List Done
  pub after : System

pub record RanEach : Type 0 where
  pub answers : List (List Done)
  pub after : System

-- the accesses of processor k, in order
abbrev pub ran : ℕ → List Op → System → Ran
ran k [] s = record { answers = []; after = s }
ran k (op ∷ ops) s =
    let first = access s k op in
    let rest = ran k ops first.after in
    record { answers = first.answer ∷ rest.answers; after = rest.after }

-- those of the processors from number k on, processor by processor
abbrev pub ran_each : ℕ → List (List Op) → System → RanEach
ran_each k [] s = record { answers = []; after = s }
ran_each k (ops ∷ others) s =
    let first = ran k ops s in
    let rest = ran_each (k + 1) others first.after in
    record { answers = first.answers ∷ rest.answers; after = rest.after }

abbrev pub at_rest : System → Machine
at_rest s = record { system = s; order = None }

pub record OneByOne : Type 0 where
  pub before : List (List Done)
  pub after : List (List Done)
  pub left : Machine

-- each processor's accesses before the update, processor by processor; the whole update, with the takes in ascending order; and each processor's accesses after it, processor by processor
abbrev pub one_by_one : System → RegisterFile → List (List Op) → List (List Op) → OneByOne
one_by_one s goal before after =
    let first = ran_each 0 before s in
    let whole = updated first.after (in_order (at_rest first.after)) goal in
    let last = ran_each 0 after whole.system in
    record { before = first.answers; after = last.answers; left = at_rest last.after }

-- the same of jobs
abbrev pub jobs_one_by_one : System → RegisterFile → List Job → OneByOne
jobs_one_by_one s goal jobs = one_by_one s goal (map (ops_in Before) jobs) (map (ops_in After) jobs)

-- the machine and the answers are those
pub record AreOneByOne (all : OneByOne) (m : Machine) (told : List JobAnswers) : Type 0 where
  pub left : m ≡ all.left
  pub before : map (answers_in Before) told ≡ all.before
  pub after : map (answers_in After) told ≡ all.after
