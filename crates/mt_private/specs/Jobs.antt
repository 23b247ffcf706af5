-- Jobs of processors, and the places of their answers (own).
use Rattle.std.specs.Prelude.{◌≡◌, ℕ, ◌≤◌, List, [], length, vec_capacity, slice_get, Some}
use Rattle.std.specs.List.{All}
use Rattle.mt_machine.specs.declared.op.Op.{Op}
use Rattle.mt_machine.specs.declared.done.Done.{Done}
use Rattle.mt_machine.specs.Machine.{FitsOp}
use Rattle.mt_private.specs.declared.job.Job.{Job}
use Rattle.mt_private.specs.declared.job.JobAnswers.{JobAnswers}
use Rattle.mt_private.specs.declared.job.Part.{Part}
use Rattle.mt_private.specs.declared.job.Part.TheVariants.{Before, After}

-- the accesses of one part of a job
abbrev pub ops_in : Part → Job → List Op
ops_in Before j = j.before.items
ops_in After j = j.after.items

-- and their answers
abbrev pub answers_in : Part → JobAnswers → List Done
answers_in Before t = t.before.items
answers_in After t = t.after.items

abbrev pub room_in : Part → JobAnswers → ℕ
room_in Before t = vec_capacity t.before
room_in After t = vec_capacity t.after

-- each address fits an access
pub record FitsJob (j : Job) : Type 0 where
  pub before : All FitsOp j.before.items
  pub after : All FitsOp j.after.items

-- it has no answer yet, and room for those of one part
abbrev pub IsOpen : Part → Job → JobAnswers → Type 0
IsOpen part j t = (answers_in part t ≡ []) × (length (ops_in part j) ≤ room_in part t)

-- for each job so
abbrev pub AreOpen : Part → List Job → List JobAnswers → Type 0
AreOpen part js ts = (k : ℕ) (j : Job) (t : JobAnswers) → slice_get js k ≡ Some j → slice_get ts k ≡ Some t → IsOpen part j t

abbrev pub other_part : Part → Part
other_part Before = After
other_part After = Before
