-- What a processor that joins leaves, and the commands after it.
use Rattle.std.proofs.Common.{◌≡◌, ◌∙◌, ap, sym, refl, subst, arith, inl, ℕ, ◌+◌, ◌<◌, ◌≤◌, length, Bool, true, if◌then◌else◌, List, [], ◌∷◌, slice_get}
use Rattle.std.specs.Prelude.{IsSome}
use Rattle.std.specs.Option.{option_map_or}
use Rattle.std.specs.List.{All}
use Rattle.std.proofs.lemmas.List.{length-map}
use Rattle.mt_regs.specs.RegisterFile.{RegisterFile, blank_file}
use Rattle.mt_machine.specs.Memory.{Memory, place, word_at}
use Rattle.mt_machine.specs.System.{Processor, now}
use Rattle.mt_machine.specs.Machine.{Calls, IsEnabled, Machine, common_era}
use Rattle.mt_machine.specs.Start.{IsQuiet}
use Rattle.mt_machine.specs.ComingAndGoing.{with_newcomer}
use Rattle.mt_machine.specs.Update.{IsSettled, emptied, settled_processor}
use Rattle.mt_laws.proofs.Invariant.Coming.{reset_memory, reset_stays_quiet}
use Rattle.mt_laws.proofs.Updates.Quiet.{updated_is_quiet}
use Rattle.mt_core.specs.Arises.{Arises, by_coming_up, from_start}
use Rattle.mt_core.proofs.Settling.{is_quiet_without_order}
use Rattle.mt_core.proofs.Stepping.{stands}
use Rattle.mt_admit.specs.Admission.{admitted, first_file as first_of_system}
use Rattle.mt_admit.proofs.Calling.{call_enabled, reset_count, reset_era}
use Rattle.mt_script.specs.Accept.{Fits}
use Rattle.mt_script.specs.declared.command.Command.{Command}
use Rattle.mt_script.specs.declared.command.Command.TheVariants as command
use Rattle.mt_script.specs.declared.command.Newcomer.TheVariants.{Join}
use Rattle.mt_replay.specs.Kept.{IsReplayState}
use Rattle.mt_replay.specs.ReplayState.{ReplayState, command_text, each_processor, file_at, first_file, machine_after, may_come, state_after, stays_line}
use Rattle.mt_replay_laws.specs.Settling.{AreHeld, AreWithoutCall, IsAdmittedAfter, JoinsSettle, state_after_all, stored_by_all}
use Rattle.mt_replay.specs.Texts.{full_line, joined_line}
use Rattle.mt_replay.proofs.Keeping.Moving.{idle_to_come}
use Rattle.mt_replay.proofs.Keeping.States.{state_kept}
use Rattle.mt_replay_laws.proofs.Paths.Settling.{Path, after_path, after_update, settled_of, word_after_update, word_path}
use Rattle.mt_replay_laws.proofs.Refusals.Since.{all_lead}
use Rattle.mt_replay_laws.proofs.Refusals.Updates.{era_risen, settled_after, word_after}

-- processor 0's registers
same_first : (ps : List Processor) (f g : RegisterFile) → 1 ≤ length ps → file_at ps 0 f ≡ option_map_or (λ p. p.file) (slice_get ps 0) g
same_first [] f g some = absurd (omega arith)
same_first (p ∷ ps) f g some = refl

pub first_same : (s : ReplayState) → IsReplayState s → first_of_system s.machine.system ≡ first_file s
first_same s h = sym (same_first s.machine.system.processors s.goal (blank_file 36 0) h.some)

module _ (s : ReplayState) (h : IsReplayState s) (may : may_come s.machine ≡ true) where
  abbrev m : Machine
  m = s.machine

  abbrev w : Machine
  w = with_newcomer s.machine

  abbrev goal : RegisterFile
  goal = first_of_system s.machine.system

  abbrev last : Machine
  last = admitted s.machine

  abbrev era : ℕ
  era = common_era s.machine.system.processors + 1

  here : 0 < length m.system.processors
  here = omega (arith, h.some)

  quiet_before : IsQuiet m
  quiet_before = is_quiet_without_order m h.arises (idle_to_come m may)

  quiet : IsQuiet w
  quiet = reset_stays_quiet m quiet_before

  enabled : IsEnabled w (Calls goal)
  enabled = call_enabled m quiet_before here

  pub after_join : machine_after s (command.Newcomer Join) ≡ last
  after_join = ap (λ (b : Bool). if b then admitted s.machine else s.machine) may

  pub join_line : command_text s (command.Newcomer Join) ≡ joined_line (length m.system.processors)
  join_line = ap (λ (b : Bool). if b then joined_line (length s.machine.system.processors) else stays_line s.machine full_line) may

  count : length w.system.processors ≡ length m.system.processors + 1
  count = reset_count m.system here

  pub one_more : length last.system.processors ≡ length m.system.processors + 1
  one_more = length-map w.system.processors (settled_processor goal) ∙ count

  same_era : common_era w.system.processors + 1 ≡ era
  same_era = ap (λ n. n + 1) (reset_era m.system here)

  risen : common_era last.system.processors ≡ era
  risen = era_risen goal w.system.processors (omega (arith, count)) ∙ same_era

  pub no_windows : last.system.memory.windows ≡ m.system.memory.windows
  no_windows = ap (λ (v : Memory). v.windows) (reset_memory m.system)

  pub words : (address : ℕ) → IsSome (place m.system.memory address) → word_at last.system.memory address ≡ now (emptied w.system (each_processor w.system)) address
  words address some =
      word_after w.system.memory (now (emptied w.system (each_processor w.system))) (stands (by_coming_up h.arises (idle_to_come m may) here)).0 address
      (subst (λ (v : Memory). IsSome (place v address)) (sym (reset_memory m.system)) some)

  arises : Arises last
  arises = from_start (inl (updated_is_quiet w goal (each_processor w.system) quiet enabled))

  path : (since : List Command) → Fits s.now (command.Newcomer Join) → AreWithoutCall (state_after s (command.Newcomer Join)) since
      → Path last (state_after_all (state_after s (command.Newcomer Join)) since).machine (stored_by_all (state_after s (command.Newcomer Join)) since)
  path since fits without =
      subst (λ (n : Machine). Path n (state_after_all (state_after s (command.Newcomer Join)) since).machine (stored_by_all (state_after s (command.Newcomer Join)) since)) after_join
      (all_lead since (state_after s (command.Newcomer Join)) (state_kept s (command.Newcomer Join) h fits) refl without)

  pub stays : (since : List Command) → Fits s.now (command.Newcomer Join) → AreWithoutCall (state_after s (command.Newcomer Join)) since
      → IsSettled (state_after_all (state_after s (command.Newcomer Join)) since).machine.system era (first_file s)
  stays since fits without =
      let end : Machine = (state_after_all (state_after s (command.Newcomer Join)) since).machine in
      let own : ℕ = common_era w.system.processors + 1 in
      subst (λ (v : ℕ × RegisterFile). IsSettled end.system v.0 v.1) (λ i. (same_era i, first_same s h i))
      (settled_of own goal end (after_path own goal arises (after_update w goal (each_processor w.system) quiet) (path since fits without)))

  pub held : (since : List Command) → Fits s.now (command.Newcomer Join) → AreWithoutCall (state_after s (command.Newcomer Join)) since
      → AreHeld (word_at last.system.memory) (state_after s (command.Newcomer Join)) since
  held since fits without address whole other =
      word_path address (word_at last.system.memory address) whole arises (word_after_update w goal (each_processor w.system) quiet enabled address whole) other (path since fits without)

  settles : Fits s.now (command.Newcomer Join) → IsAdmittedAfter s last
  settles fits = record {
    line_is = join_line;
    one_more = one_more;
    eras = subst (λ (n : ℕ). All (λ p. p.era ≡ n) last.system.processors) risen (updated_is_quiet w goal (each_processor w.system) quiet enabled).one_era;
    settled = subst (IsSettled last.system era) (first_same s h) (settled_after goal era w.system.processors);
    stays_settled = λ since without. stays since fits without;
    idle = refl;
    windows = no_windows;
    words = words;
  }

pub joins_settle : JoinsSettle
joins_settle s h fits may = subst (IsAdmittedAfter s) (sym (after_join s h may)) (settles s h may fits)
