-- The dump that the script of a dump alone shows.
use Rattle.std.proofs.Common.{refl}
use Rattle.mt_dump.specs.Dumps.{dump_of}
use Rattle.mt_machine_laws.specs.MachineWorkedRuns.{bare_file}
use Rattle.mt_replay.specs.Statuses.{ShowsDump}
use Rattle.mt_replay_laws.specs.WorkedScript.{join_script}
use Rattle.mt_replay_laws.specs.WorkedStates.{small_dump}

pub shows : ShowsDump small_dump (dump_of (bare_file 0x806))
shows = refl

-- and the one of the script in which a processor joins
pub join_shows : ShowsDump join_script (dump_of (bare_file 0x800))
join_shows = refl
