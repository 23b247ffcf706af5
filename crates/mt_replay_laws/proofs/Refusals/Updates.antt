-- What a whole update leaves, and the commands after it.
use Rattle.std.proofs.Common.{◌≡◌, ◌∙◌, ap, sym, refl, subst, arith, inl, ℕ, ◌+◌, ◌%◌, ◌≤◌, length, ◌==◌, Bool, true, false, if◌then◌else◌, List, [], ◌∷◌, map, Option, None, Some}
use Rattle.std.specs.Prelude.{IsSome}
use Rattle.std.specs.Option.{option_map_or}
use Rattle.std.specs.List.{All}
use Rattle.std.proofs.lemmas.Bool.{eqb-true}
use Rattle.std.proofs.lemmas.List.Elements.{All-map}
use Rattle.mt_regs.specs.RegisterFile.{RegisterFile}
use Rattle.mt_machine.specs.Memory.{IsMemory, Memory, place, place_in, word_at}
use Rattle.mt_machine.specs.System.{Processor, now}
use Rattle.mt_machine.specs.Machine.{Calls, IsEnabled, Machine, common_era}
use Rattle.mt_machine.specs.Start.{IsQuiet}
use Rattle.mt_machine.specs.Update.{IsSettled, IsSettledOn, addresses, emptied, settled_processor, updated}
use Rattle.mt_laws.proofs.Updates.Addresses.{word_of_words}
use Rattle.mt_laws.proofs.Updates.Quiet.{updated_is_quiet}
use Rattle.mt_core.specs.Arises.{Arises, from_start}
use Rattle.mt_core.specs.declared.fault.CallFault.{CallFault}
use Rattle.mt_core.proofs.Settling.{is_quiet_without_order}
use Rattle.mt_core.proofs.Stepping.{stands}
use Rattle.mt_script.specs.Stages.{takes_end}
use Rattle.mt_script.specs.declared.command.Stage.{Stage}
use Rattle.mt_script.specs.declared.command.Stage.TheVariants.{InUpdate}
use Rattle.mt_script.specs.declared.command.Command.TheVariants as command
use Rattle.mt_script.specs.declared.command.Section.TheVariants.{End}
use Rattle.mt_script.specs.declared.command.Command.{Command}
use Rattle.mt_script.specs.Accept.{Fits}
use Rattle.mt_replay.specs.Kept.{IsReplayState}
use Rattle.mt_replay.specs.ReplayState.{ReplayState, after_call, after_update, call_fault, call_line, command_text, each_processor, is_update, machine_after, state_after, update_line}
use Rattle.mt_replay_laws.specs.Settling.{AreHeld, AreWithoutCall, CompleteUpdatesSettle, IsSettledAfter, UpdatedWordsAreHeld, state_after_all, stored_by_all}
use Rattle.mt_replay.specs.Texts.{call_fault_line, complete_line}
use Rattle.mt_replay.proofs.Keeping.States.{call_enabled, state_kept}
use Rattle.mt_replay_laws.proofs.Paths.Settling.{Path, after_path, after_update as after_whole, settled_of, word_after_update, word_path}
use Rattle.mt_replay_laws.proofs.Refusals.Since.{all_lead}

pub settled_after : (goal : RegisterFile) (era : ℕ) (ps : List Processor) → All (IsSettledOn era goal) (map (settled_processor goal) ps)
settled_after goal era ps =
    All-map (IsSettledOn era goal) (settled_processor goal) ps
    (λ k d within. record {
      file = refl;
      lines = λ i e below. absurd (omega arith);
      buffers = λ i e below. absurd (omega arith);
      entries = λ i e below. absurd (omega arith);
    })

pub aligned_place : (m : Memory) (address i : ℕ) → place m address ≡ Some i → address % 8 ≡ 0
aligned_place m address i at = one (address % 8 == 0) refl at
  where
    one : (b : Bool) → (address % 8 == 0) ≡ b → (if b then place_in m.windows 0 address else None) ≡ Some i → address % 8 ≡ 0
    one true is at = eqb-true (address % 8) 0 is
    one false is at = absurd (cc at)

pub word_after : (m : Memory) (f : ℕ → ℕ) → IsMemory m → (address : ℕ) → IsSome (place m address) → word_at (record { windows = m.windows; words = map f (addresses m.windows) }) address ≡ f address
word_after m f h address some = one (place m address) refl some
  where
    one : (o : Option ℕ) → place m address ≡ o → IsSome o → word_at (record { windows = m.windows; words = map f (addresses m.windows) }) address ≡ f address
    one None at some = absurd (cc some)
    one (Some i) at some = word_of_words m f h address i (aligned_place m address i at) at

-- a section of an update may end
in_update : (stage : Stage) → is_update stage ≡ true → takes_end stage ≡ true
in_update InUpdate is = refl
in_update other is = absurd (cc is)

pub era_risen : (goal : RegisterFile) (ps : List Processor) → 1 ≤ length ps → common_era (map (settled_processor goal) ps) ≡ common_era ps + 1
era_risen goal [] some = absurd (omega arith)
era_risen goal (p ∷ ps) some = refl

module _ (s : ReplayState) (h : IsReplayState s) (update : is_update s.now.stage ≡ true) (none : call_fault s.machine s.goal ≡ None) where
  abbrev last : Machine
  last = updated s.machine.system (each_processor s.machine.system) s.goal

  enabled : IsEnabled s.machine (Calls s.goal)
  enabled = call_enabled s h none

  quiet : IsQuiet s.machine
  quiet = is_quiet_without_order s.machine h.arises enabled.0

  some : 1 ≤ length s.machine.system.processors
  some = h.some

  after : machine_after s (command.Section End) ≡ last
  after =
      ap (λ (b : Bool). if b then after_update s.machine s.goal else after_call s.machine s.goal) update
      ∙ ap (λ (o : Option CallFault). option_map_or (λ fault. s.machine) o last) none

  text : command_text s (command.Section End) ≡ complete_line (common_era last.system.processors)
  text =
      ap (λ (b : Bool). if b then update_line s.machine s.goal else call_line s.machine s.goal) update
      ∙ ap (λ (o : Option CallFault). option_map_or call_fault_line o (complete_line (common_era (option_map_or (λ fault. s.machine) o last).system.processors))) none

  risen : common_era last.system.processors ≡ common_era s.machine.system.processors + 1
  risen = era_risen s.goal s.machine.system.processors some

  -- the commands since
  path : (since : List Command) → Fits s.now (command.Section End) → AreWithoutCall (state_after s (command.Section End)) since
      → Path last (state_after_all (state_after s (command.Section End)) since).machine (stored_by_all (state_after s (command.Section End)) since)
  path since fits without =
      subst (λ (m : Machine). Path m (state_after_all (state_after s (command.Section End)) since).machine (stored_by_all (state_after s (command.Section End)) since)) after
      (all_lead since (state_after s (command.Section End)) (state_kept s (command.Section End) h fits) refl without)

  arises : Arises last
  arises = from_start (inl (updated_is_quiet s.machine s.goal (each_processor s.machine.system) quiet enabled))

  stays : (since : List Command) → Fits s.now (command.Section End) → AreWithoutCall (state_after s (command.Section End)) since
      → IsSettled (state_after_all (state_after s (command.Section End)) since).machine.system (common_era last.system.processors) s.goal
  stays since fits without =
      let end : Machine = (state_after_all (state_after s (command.Section End)) since).machine in
      let era : ℕ = common_era s.machine.system.processors + 1 in
      subst (λ (n : ℕ). IsSettled end.system n s.goal) (sym risen)
      (settled_of era s.goal end (after_path era s.goal arises (after_whole s.machine s.goal (each_processor s.machine.system) quiet) (path since fits without)))

  held : (since : List Command) → Fits s.now (command.Section End) → AreWithoutCall (state_after s (command.Section End)) since
      → AreHeld (word_at (machine_after s (command.Section End)).system.memory) (state_after s (command.Section End)) since
  held since fits without address whole other =
      word_path address (word_at last.system.memory address) whole arises (word_after_update s.machine s.goal (each_processor s.machine.system) quiet enabled address whole) other (path since fits without)
      ∙ ap (λ (m : Machine). word_at m.system.memory address) (sym after)

  settles : Fits s.now (command.Section End) → IsSettledAfter s last
  settles fits = record {
    era = common_era last.system.processors;
    line_is = text;
    risen = risen;
    eras = (updated_is_quiet s.machine s.goal (each_processor s.machine.system) quiet enabled).one_era;
    settled = settled_after s.goal (common_era last.system.processors) s.machine.system.processors;
    stays_settled = λ since without. stays since fits without;
    no_order = refl;
    windows = refl;
    words = word_after s.machine.system.memory (now (emptied s.machine.system (each_processor s.machine.system))) (stands h.arises).0;
  }

  ends : Fits s.now (command.Section End)
  ends = in_update s.now.stage update

pub complete_updates_settle : CompleteUpdatesSettle
complete_updates_settle s h update none = subst (IsSettledAfter s) (sym (after s h update none)) (settles s h update none (ends s h update none))

pub updated_words_are_held : UpdatedWordsAreHeld
updated_words_are_held s since h update none without = held s h update none since (ends s h update none) without
