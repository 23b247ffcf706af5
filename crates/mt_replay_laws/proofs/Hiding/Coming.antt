-- Processors that come up and go keep a flat machine beside the machine.
use Rattle.std.proofs.Common.{◌≡◌, refl, ◌<◌, Bool, true, false, if◌then◌else◌, length}
use Rattle.mt_machine.specs.Machine.{Machine}
use Rattle.mt_machine.specs.ComingAndGoing.{last_number, with_newcomer, without_last}
use Rattle.mt_admit.specs.Admission.{admitted, brought_up, first_file}
use Rattle.mt_admit.proofs.Calling.{call_enabled}
use Rattle.mt_core.specs.Arises.{Arises}
use Rattle.mt_core.proofs.Settling.{is_quiet_without_order}
use Rattle.mt_core.proofs.Stepping.{is_sound}
use Rattle.mt_flat.specs.Flat.{Flat, empty_all}
use Rattle.mt_flat.specs.Seen.{IsFlatOf, flat_takes}
use Rattle.mt_flat.proofs.ComingAndGoing.{admitted_is_flat, gone_keeps_flat, newcomers_keep_flat}
use Rattle.mt_script.specs.declared.command.Newcomer.TheVariants.{Up, Join}
use Rattle.mt_replay_laws.specs.Flat.{flat_joined, flat_retired}
use Rattle.mt_replay.specs.ReplayState.{after_newcomer, after_retire, each_processor, may_come, may_go}
use Rattle.mt_replay_laws.proofs.Hiding.Once.{each_once}
use Rattle.mt_replay.proofs.Keeping.Moving.{idle_to_come}

pub beside_up : (m : Machine) (f : Flat) → IsFlatOf m.system f → IsFlatOf (after_newcomer m Up).system f
beside_up m f r = one (may_come m)
  where
    one : (b : Bool) → IsFlatOf (if b then brought_up m else m).system f
    one true = newcomers_keep_flat m.system f r
    one false = r

module _ (m : Machine) (f : Flat) (a : Arises m) (some : 0 < length m.system.processors) (r : IsFlatOf m.system f) where
  pub beside_join : IsFlatOf (after_newcomer m Join).system (flat_joined m f)
  beside_join = one (may_come m) refl
    where
      one : (b : Bool) → may_come m ≡ b → IsFlatOf (if b then admitted m else m).system (if b then flat_takes (each_processor (with_newcomer m).system) f else f)
      one true is =
          let quiet = is_quiet_without_order m a (idle_to_come m is) in
          admitted_is_flat m f (first_file m.system) (each_processor (with_newcomer m).system) quiet (call_enabled m quiet some) (each_once (length (with_newcomer m).system.processors)) r
      one false is = r

  pub beside_retire : IsFlatOf (after_retire m).system (flat_retired m f)
  beside_retire = one (may_go m)
    where
      one : (b : Bool) → IsFlatOf (if b then without_last m else m).system (if b then empty_all (last_number m.system) f else f)
      one true = gone_keeps_flat m.system f some (is_sound m a) r
      one false = r
