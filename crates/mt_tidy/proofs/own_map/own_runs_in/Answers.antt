use Rattle.mt_tidy.proofs.Fitted.{checked_of}
use Rattle.mt_tidy.proofs.OwnRuns.{runs_of_map, runs_wanted}
use Rattle.mt_tidy.proofs.own_map.own_runs_in.Goals as goal

pub map_from-requires-clause-checked : goal.map_from-requires-clause-checked
map_from-requires-clause-checked c = checked_of c.args.f.now c.requires.accepted

pub returns-clause-runs : goal.returns-clause-runs
returns-clause-runs c = runs_of_map c.args.f.now _ c.map_from.ensures.map

pub returns-clause-wanted : goal.returns-clause-wanted
returns-clause-wanted c = runs_wanted c.args.f.now c.is_register_file.ensures c.requires.accepted _ (runs_of_map c.args.f.now _ c.map_from.ensures.map)
