-- The first state, after the dump.
use Rattle.std.proofs.Common.{◌≡◌, ◌∙◌, ap, sym, refl, subst, arith, inl, ℕ, ◌≤◌, length, true, List, [], Some}
use Rattle.std.specs.Prelude.{map}
use Rattle.std.specs.List.{All}
use Rattle.std.proofs.lemmas.List.{length-map}
use Rattle.mt_laws.specs.Kept.{flags_of}
use Rattle.mt_laws.specs.Settled.{IsFresh}
use Rattle.mt_laws.proofs.Clearing.Fresh.{starts_fresh}
use Rattle.mt_laws.proofs.Invariant.Starts.{no_flag_is_the_start, no_windows, start_is_quiet}
use Rattle.mt_regs.specs.RegisterFile.{RegisterFile}
use Rattle.mt_regs.specs.StartFiles.{AreStartFiles}
use Rattle.mt_regs.specs.Faults.{IsAccepted}
use Rattle.mt_dump.specs.Dumps.{Dump, IsDump, first_file}
use Rattle.mt_dump.specs.ForProcessors.{files_for, has_each}
use Rattle.mt_machine.specs.System.{start_processor}
use Rattle.mt_machine.specs.Machine.{FitsGoal, Machine, Reached, at_start}
use Rattle.mt_machine.specs.Start.{IsQuiet, start_machine, start_with}
use Rattle.mt_ram.specs.Windows.{window}
use Rattle.mt_core.specs.Arises.{from_start}
use Rattle.mt_script.specs.Situation.{Situation}
use Rattle.mt_script.specs.Kept.{IsSituation}
use Rattle.mt_script.specs.Stages.{HasCpus, is_in_dump}
use Rattle.mt_script.specs.declared.command.Stage.{Stage}
use Rattle.mt_script.specs.declared.command.Stage.TheVariants.{InDump}
use Rattle.mt_script.proofs.Keeping.{finished_is, not_past_in_dump}
use Rattle.mt_replay.specs.Kept.{IsReplayState, start_like, start_of, windows_of}
use Rattle.mt_replay.specs.ReplayState.{first_state}
use Rattle.mt_dump.proofs.ForProcessors.{files_count, files_start, first_file_is}
use Rattle.mt_replay.proofs.Files.{all_fit}
use Rattle.mt_replay.proofs.Keeping.Moving.{rests_now}

-- no processor is self-snooping yet
pub first_start : (now : Situation) (dump d : Dump) → (first_state now dump).now.dump ≡ Some d → start_like (first_state now dump) d ≡ start_of (first_state now dump).now d
first_start now dump d same =
    let e : dump ≡ d = cc same in
    let files : List RegisterFile = files_for now.cpus dump in
    subst (λ (x : Dump). start_with (flags_of (start_machine files []).system) (files_for now.cpus x) (windows_of now) ≡ start_machine (files_for now.cpus x) (windows_of now)) e (no_flag_is_the_start files (windows_of now))

-- the number of processors is told before the dump
cpus_in_dump : (stage : Stage) (cpus : ℕ) → is_in_dump stage ≡ true → HasCpus stage cpus → (1 ≤ cpus) × (cpus ≤ 16)
cpus_in_dump InDump cpus is has = has
cpus_in_dump other cpus is has = absurd (cc is)

pub first_kept : (now : Situation) (dump : Dump) → IsSituation now → is_in_dump now.stage ≡ true → IsDump dump → has_each now.cpus dump ≡ true → All IsAccepted dump.files → IsReplayState (first_state now dump)
first_kept now dump is stage good each accepted =
    let files : List RegisterFile = files_for now.cpus dump in
    let starts = files_start now.cpus dump good accepted in
    let quiet : IsQuiet (start_machine files []) = start_is_quiet files [] starts no_windows in
    let bare : [] ≡ windows_of now = ap (map (λ (w : ℕ × ℕ). window w.0 w.1)) (sym (is.early (not_past_in_dump now.stage stage))) in
    let started : (d : Dump) → (first_state now dump).now.dump ≡ Some d → start_machine files [] ≡ start_like (first_state now dump) d =
    λ d same. let e : dump ≡ d = cc same in sym (no_flag_is_the_start files []) ∙ (λ i. start_with (flags_of (start_machine files []).system) (files_for now.cpus (e i)) (bare i)) in
    let number : length (map start_processor files) ≡ now.cpus = length-map files start_processor ∙ files_count now.cpus dump each in
    let in_dump = cpus_in_dump now.stage now.cpus stage is.cpus in
    record {
      situation = finished_is now is dump stage good each;
      past = refl;
      arises = from_start (inl quiet);
      came = rests_now (start_machine files []) quiet (from_start (inl quiet))
          (subst (λ (m : Machine). All IsFresh m.system.processors) (no_flag_is_the_start files []) (starts_fresh (flags_of (start_machine files []).system) files []));
      some = omega (arith, number, in_dump.0);
      few = omega (arith, number, in_dump.1);
      count = λ still. number;
      kind = λ d same. let e : dump ≡ d = cc same in subst (λ (x : Dump). All (FitsGoal (first_file x)) (start_machine files []).system.processors) e (all_fit now.cpus dump good);
      goal_file = first_file_is dump good;
      goal = all_fit now.cpus dump good;
      windows = bare;
      quiet = λ still d same. subst IsQuiet (started d same) quiet;
      reached = λ still d same. subst (λ (m : Machine). Reached m (start_machine files [])) (started d same) at_start;
      fresh = λ d same takes. let e : dump ≡ d = cc same in (subst (λ (x : Dump). AreStartFiles (files_for now.cpus x)) e starts, started d same);
    }
