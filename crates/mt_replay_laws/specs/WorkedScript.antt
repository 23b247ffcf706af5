-- Scripts at whose steps the laws are shown to speak of something.
use Rattle.std.specs.Prelude.{ℕ, Bool, not, List, ◌++◌, codes, drop, is_some, slice_index_or, take}
use Rattle.mt_regs.specs.RegisterFile.{RegisterFile, blank_file}
use Rattle.mt_dump.specs.Dumps.{dump_of}
use Rattle.mt_machine.specs.Machine.{Machine}
use Rattle.mt_machine.specs.System.{now}
use Rattle.mt_script.specs.Situation.{at_start}
use Rattle.mt_script.specs.declared.command.Command.TheVariants as command
use Rattle.mt_replay_laws.specs.Headline.{KeepsUpdate, UpdateOf, called_goal, next_era, stored_in}
use Rattle.mt_replay.specs.Steps.{ScriptStep, course, last_of, left}
use Rattle.mt_replay.specs.ReplayState.{ReplayState, first_state}

abbrev pub no_step : ScriptStep
no_step = record { number = 0; command = command.Blank; before = first_state at_start (dump_of (blank_file 36 0)) }

-- these values and registers are kept from a step on, through steps behind it
abbrev pub KeptFrom : RegisterFile → ℕ → (ℕ → ℕ) → ScriptStep → List ScriptStep → Type 0
KeptFrom goal era value step since = KeepsUpdate goal era value (stored_in since) (last_of (left step) since).machine

-- ---- two processors: an update by steps, one all at once, a refused one, and a store behind each of the first two

-- all memory is WB, and a store stays in processor 0's cache
abbrev pub worked_setup : List ℕ
worked_setup = codes "cpus 2\ndump\n0fe 400\n2ff 806\nend\nram 100000 1\nmap 0 1000 100000 0\nmap 1 1000 100000 0\nstore 0 1000 2a\n"

-- a call for memory of type UC, up to the second barrier
abbrev pub worked_steps : List ℕ
worked_steps =
    codes "begin\n2ff 800\nend\ngo\nstep 0\nstep 1\nstep 1\nstep 0\nstep 0\nstep 1\nstep 1\nstep 0\nstep 0\n"
    ++ codes "step 0\nstep 0\nstep 0\nstep 0\nstep 0\nstep 0\nstep 0\nstep 0\nstep 0\nstep 0\n"
    ++ codes "step 1\nstep 1\nstep 1\nstep 1\nstep 1\nstep 1\nstep 1\nstep 1\nstep 1\nstep 1\n"

-- the first release, a store of another word, and the second
abbrev pub worked_releases : List ℕ
worked_releases = codes "step 1\nstore 1 1008 7\nstep 0\nword 100000\nword 100008\n"

-- back to WB, a store of the first word again, which stays in the cache, and a goal with a type that there is not
abbrev pub worked_update : List ℕ
worked_update = codes "update\n2ff 806\nend\nstore 0 1000 5\nword 100000\nword 100008\nupdate\n2ff 803\nend\n"

abbrev pub worked_script : List ℕ
worked_script = worked_setup ++ worked_steps ++ worked_releases ++ worked_update

-- a step of it, the first being 0
abbrev pub step_at : ℕ → ScriptStep
step_at k = slice_index_or (course worked_script) k no_step

-- so many steps from one on
abbrev pub steps_at : ℕ → ℕ → List ScriptStep
steps_at k count = take count (drop k (course worked_script))

-- the steps in front of one
abbrev pub front_of : ℕ → List ScriptStep
front_of k = take k (course worked_script)

-- the steps behind the first release, and the machine behind them
abbrev pub after_release : List ScriptStep
after_release = steps_at 38 6

abbrev pub end_of_release : Machine
end_of_release = (last_of (left (step_at 37)) after_release).machine

-- the first release tells of an update, whose registers and words are kept behind it
pub record IsReleaseOfUpdate : Type 0 where
  pub update : UpdateOf (front_of 37) (step_at 37)
  pub kept : KeepsUpdate (called_goal update.call) (next_era update.call) (now update.pass.before.machine.system) (stored_in (update.again ++ after_release)) end_of_release

-- ---- one section, and a line behind it

abbrev pub section_script : List ℕ
section_script = codes "cpus 1\ndump\n0fe 400\n2ff 806\nend\nbegin\n2ff 800\nend\ngo\n"

abbrev pub section_at : ℕ → ScriptStep
section_at k = slice_index_or (course section_script) k no_step

-- ---- a processor joins, and stores to memory itself

abbrev pub join_script : List ℕ
join_script =
    codes "cpus 1\ndump\n0fe 400\n2ff 800\nend\nram 100000 1\njoin\n"
    ++ codes "map 1 1000 100000 0\nstore 1 1000 7\nload 1 1000\n"

abbrev pub join_at : ℕ → ScriptStep
join_at k = slice_index_or (course join_script) k no_step

abbrev pub joins_at : ℕ → ℕ → List ScriptStep
joins_at k count = take count (drop k (course join_script))

-- no update is under way
abbrev pub is_idle : ReplayState → Bool
is_idle s = not (is_some s.machine.order)

-- ---- a store to memory itself, and then a line of no command; the lines behind it aren't read

abbrev pub bad_script : List ℕ
bad_script =
    codes "cpus 1\ndump\n0fe 400\n2ff 800\nend\nram 100000 1\nmap 0 1000 100000 0\n"
    ++ codes "store 0 1000 7\nnothing\nstore 0 1000 8\n"
