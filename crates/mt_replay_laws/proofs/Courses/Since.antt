-- Steps that call for no update, and what a complete update and a refused one leave in a course.
use Rattle.std.proofs.Common.{◌≡◌, ◌⊎◌, ◌∙◌, ap, sym, refl, subst, ⊎_elim, inl, inr, ℕ, length, ◌%◌, ◌==◌, Bool, true, false, if◌then◌else◌, List, [], ◌∷◌, ◌++◌, map, Option, None, Some}
use Rattle.std.specs.Prelude.{IsSome}
use Rattle.std.specs.Option.{option_map_or}
use Rattle.std.specs.List.{Contains}
use Rattle.mt_regs.specs.RegisterFile.{RegisterFile}
use Rattle.mt_machine.specs.Memory.{Memory, Window, place, place_in, word_at}
use Rattle.mt_machine.specs.System.{now}
use Rattle.mt_machine.specs.Machine.{Machine}
use Rattle.mt_machine.specs.Update.{IsSettled, emptied}
use Rattle.mt_core.specs.declared.fault.CallFault.{CallFault}
use Rattle.mt_script.specs.Situation.{Situation}
use Rattle.mt_script.specs.Stages.{takes_windows}
use Rattle.mt_script.specs.Accept.{Fits, accepted}
use Rattle.mt_script.specs.declared.command.Command.{Command}
use Rattle.mt_script.specs.declared.command.Command.TheVariants as command
use Rattle.mt_script.specs.declared.command.Section.TheVariants.{End}
use Rattle.mt_script.specs.declared.command.Newcomer.TheVariants.{Join}
use Rattle.mt_replay_laws.specs.Headline.{CompleteUpdatesAreKept, IsCall, KeepsUpdate, NoneOf, RefusedUpdatesChangeNothing, next_era, stored_in, HasNewcomer, JoinsAreKept}
use Rattle.mt_replay.specs.Steps.{ScriptStep, last_of, left, wrote}
use Rattle.mt_replay.specs.Kept.{IsReplayState, windows_of}
use Rattle.mt_replay.specs.ReplayState.{ReplayState, call_fault, command_text, each_processor, is_update, machine_after, state_after, first_file, may_come}
use Rattle.mt_replay_laws.specs.Coming.{BringsUp}
use Rattle.mt_machine.specs.ComingAndGoing.{with_newcomer}
use Rattle.mt_admit.specs.Admission.{admitted}
use Rattle.mt_replay_laws.proofs.Courses.Newcomers.{comes_as_newcomer, newcomer_comes}
use Rattle.mt_replay_laws.proofs.Refusals.Joins.{after_join, held as join_held, join_line, no_windows, one_more as join_one_more, stays as join_stays, words as join_words}
use Rattle.mt_replay_laws.specs.Settling.{AreHeld, AreWithoutCall, IsSettledAfter, state_after_all, stored_by, stored_by_all, IsWithoutCall}
use Rattle.mt_replay.specs.Texts.{called_line, complete_line}
use Rattle.mt_replay_laws.proofs.Courses.Steps.{AreInTurn, course_is, in_front, kept_behind, stands_in}
use Rattle.mt_replay_laws.proofs.Courses.Tells.{writes_complete, writes_refused, writes_under_way}
use Rattle.mt_replay.proofs.Keeping.States.{state_kept}
use Rattle.mt_replay_laws.proofs.Refusals.Calls.{accepted_calls, ends_idle}
use Rattle.mt_replay_laws.proofs.Refusals.Since.{stays_past}
use Rattle.mt_replay_laws.proofs.Refusals.Updates.{aligned_place, complete_updates_settle, updated_words_are_held}

-- ---- refused

idle_step : (step : ScriptStep) (fault : CallFault) → step.command ≡ command.Section End → call_fault step.before.machine step.before.goal ≡ Some fault → (left step).machine ≡ step.before.machine
idle_step step fault ends is = ap (machine_after step.before) ends ∙ (ends_idle step.before fault is).1

pub refused_updates_change_nothing : RefusedUpdatesChangeNothing
refused_updates_change_nothing text front rest step same (inl h) = let w = writes_refused step.before step.command h.0 h.1 in idle_step step w.1.0 w.0 w.1.1
refused_updates_change_nothing text front rest step same (inr h) =
    ⊎_elim
    (λ (w : (step.command ≡ command.Section End) × ((own : CallFault) × (call_fault step.before.machine step.before.goal ≡ Some own))). idle_step step w.1.0 w.0 w.1.1)
    (λ (stays : machine_after step.before step.command ≡ step.before.machine). stays)
    (writes_under_way step.before step.command h)

-- ---- no call

abbrev pub commands : List ScriptStep → List Command
commands steps = map (λ (step : ScriptStep). step.command) steps

-- an end that isn't refused writes the line of a call
pub accepted_end : (s : ReplayState) → IsReplayState s → call_fault s.machine s.goal ≡ None → (command_text s (command.Section End) ≡ called_line) ⊎ ((era : ℕ) × (command_text s (command.Section End) ≡ complete_line era))
accepted_end s h none = one (is_update s.now.stage) refl
  where
    one : (b : Bool) → is_update s.now.stage ≡ b → (command_text s (command.Section End) ≡ called_line) ⊎ ((era : ℕ) × (command_text s (command.Section End) ≡ complete_line era))
    one true update = let done = complete_updates_settle s h update none in inr (done.era, done.line_is)
    one false begin = inl (accepted_calls s begin none).0

pub no_call : (step : ScriptStep) → IsReplayState step.before → (IsCall step → ⊥) → IsWithoutCall step.before step.command
no_call step h calls = (λ ends. one ends (call_fault step.before.machine step.before.goal) refl, λ coming. stays coming (may_come step.before.machine) refl)
  where
    stays : BringsUp step.command → (b : Bool) → may_come step.before.machine ≡ b → may_come step.before.machine ≡ false
    stays coming true is = absurd (calls (inr (comes_as_newcomer step coming is)))
    stays coming false is = is

    one : step.command ≡ command.Section End → (o : Option CallFault) → call_fault step.before.machine step.before.goal ≡ o → IsSome o
    one ends (Some fault) is = refl
    one ends None is =
        absurd (calls (inl (subst (λ (c : Command). (command_text step.before c ≡ called_line) ⊎ ((era : ℕ) × (command_text step.before c ≡ complete_line era))) (sym ends) (accepted_end step.before h is))))

pub same_last : (steps : List ScriptStep) (s : ReplayState) → AreInTurn s steps → state_after_all s (commands steps) ≡ last_of s steps
same_last [] s on = refl
same_last (step ∷ steps) s on =
    ap (λ (x : ReplayState). state_after_all (state_after x step.command) (commands steps)) (sym on.0) ∙ same_last steps (left step) on.2

pub same_stored : (steps : List ScriptStep) (s : ReplayState) → AreInTurn s steps → stored_by_all s (commands steps) ≡ stored_in steps
same_stored [] s on = refl
same_stored (step ∷ steps) s on =
    ap (λ (x : ReplayState). stored_by_all x (step.command ∷ commands steps)) (sym on.0)
    ∙ ap (λ (ws : List ℕ). option_map_or (λ a. a ∷ ws) (stored_by step.before step.command) ws) (same_stored steps (left step) on.2)

pub without_call : (steps : List ScriptStep) (s : ReplayState) → IsReplayState s → AreInTurn s steps → NoneOf IsCall steps → AreWithoutCall s (commands steps)
without_call [] s h on none = tt
without_call (step ∷ steps) s h on none =
    let here : IsReplayState step.before = subst IsReplayState (sym on.0) h in
    subst (λ (x : ReplayState). AreWithoutCall x (step.command ∷ commands steps)) on.0
    (on.1, no_call step here none.0, without_call steps (left step) (state_kept step.before step.command here on.1) on.2 none.1)

-- ---- windows

no_window : (now : Situation) (c : Command) → Fits now c → takes_windows now.stage ≡ false → (accepted now c).windows ≡ now.windows
no_window now (command.Ram base lines) fits past = absurd (let takes = fits.0 in cc (takes, past))
no_window now (command.Selfsnoop k) fits past = refl
no_window now (command.Section End) fits past = refl
no_window now other fits past = refl

windows_stay : (steps : List ScriptStep) (s : ReplayState) → AreInTurn s steps → takes_windows s.now.stage ≡ false → (last_of s steps).now.windows ≡ s.now.windows
windows_stay [] s on past = refl
windows_stay (step ∷ steps) s on past =
    let here : takes_windows step.before.now.stage ≡ false = ap (λ (x : ReplayState). takes_windows x.now.stage) on.0 ∙ past in
    windows_stay steps (left step) on.2 (stays_past step.before.now step.command here) ∙ no_window step.before.now step.command on.1 here ∙ ap (λ (x : ReplayState). x.now.windows) on.0

pub same_windows : (steps : List ScriptStep) (s : ReplayState) → IsReplayState s → AreInTurn s steps → takes_windows s.now.stage ≡ false → (last_of s steps).machine.system.memory.windows ≡ s.machine.system.memory.windows
same_windows steps s h on past =
    (kept_behind steps s h on).windows ∙ ap (λ (ws : List (ℕ × ℕ)). windows_of (record s.now { windows = ws })) (windows_stay steps s on past) ∙ sym h.windows

-- the same words have a place
pub same_place : (m n : Memory) (address : ℕ) → m.windows ≡ n.windows → IsSome (place m address) → IsSome (place n address)
same_place m n address same some = subst (λ (ws : List Window). IsSome (if address % 8 == 0 then place_in ws 0 address else None)) same some

pub is_aligned : (m : Memory) (address : ℕ) → IsSome (place m address) → address % 8 ≡ 0
is_aligned m address some = one (place m address) refl some
  where
    one : (o : Option ℕ) → place m address ≡ o → IsSome o → address % 8 ≡ 0
    one None at some = absurd (cc some)
    one (Some i) at some = aligned_place m address i at

-- ---- what is kept

pub keeps : (goal : RegisterFile) (era : ℕ) (value : ℕ → ℕ) (stored : List ℕ) (m : Machine) → IsSettled m.system era goal
    → ((address : ℕ) → IsSome (place m.system.memory address) → (Contains stored address → ⊥) → word_at m.system.memory address ≡ value address)
    → KeepsUpdate goal era value stored m
keeps goal era value stored m settled held = record { settled = settled; held = held }

module _ (update : ScriptStep) (since : List ScriptStep) (h : IsReplayState update.before) (fits : Fits update.before.now update.command) (on : AreInTurn (left update) since) (none : NoneOf IsCall since)
    (ends : update.command ≡ command.Section End) (section : is_update update.before.now.stage ≡ true) (accepts : call_fault update.before.machine update.before.goal ≡ None) where
  abbrev s : ReplayState
  s = update.before

  done : IsSettledAfter s (machine_after s (command.Section End))
  done = complete_updates_settle s h section accepts

  after : left update ≡ state_after s (command.Section End)
  after = ap (state_after s) ends

  calls : AreWithoutCall (state_after s (command.Section End)) (commands since)
  calls = subst (λ (x : ReplayState). AreWithoutCall x (commands since)) after (without_call since (left update) (state_kept s update.command h fits) on none)

  last_is : state_after_all (state_after s (command.Section End)) (commands since) ≡ last_of (left update) since
  last_is = ap (λ (x : ReplayState). state_after_all x (commands since)) (sym after) ∙ same_last since (left update) on

  stored_is : stored_by_all (state_after s (command.Section End)) (commands since) ≡ stored_in since
  stored_is = ap (λ (x : ReplayState). stored_by_all x (commands since)) (sym after) ∙ same_stored since (left update) on

  held : AreHeld (word_at (machine_after s (command.Section End)).system.memory) (state_after s (command.Section End)) (commands since)
  held = updated_words_are_held s (commands since) h section accepts calls

  windows : (last_of (left update) since).machine.system.memory.windows ≡ s.machine.system.memory.windows
  windows =
      same_windows since (left update) (state_kept s update.command h fits) on (ap (λ (x : ReplayState). takes_windows x.now.stage) after)
      ∙ ap (λ (x : ReplayState). x.machine.system.memory.windows) after ∙ done.windows

  words : (address : ℕ) → IsSome (place (last_of (left update) since).machine.system.memory address) → (Contains (stored_in since) address → ⊥)
      → word_at (last_of (left update) since).machine.system.memory address ≡ now (emptied s.machine.system (each_processor s.machine.system)) address
  words address some other =
      ap (λ (x : ReplayState). word_at x.machine.system.memory address) (sym last_is)
      ∙ held address (is_aligned (last_of (left update) since).machine.system.memory address some) (λ stored. other (subst (λ (ws : List ℕ). Contains ws address) stored_is stored))
      ∙ done.words address (same_place (last_of (left update) since).machine.system.memory s.machine.system.memory address windows some)

  settled : IsSettled (last_of (left update) since).machine.system (next_era update) s.goal
  settled =
      subst (λ (v : ReplayState × ℕ). IsSettled v.0.machine.system v.1 s.goal) (λ i. (last_is i, done.risen i)) (done.stays_settled (commands since) calls)

  complete_is : (wrote update ≡ complete_line (next_era update))
      × KeepsUpdate s.goal (next_era update) (now (emptied s.machine.system (each_processor s.machine.system))) (stored_in since) (last_of (left update) since).machine
  complete_is = (
    ap (command_text s) ends ∙ done.line_is ∙ ap complete_line done.risen,
    keeps s.goal (next_era update) (now (emptied s.machine.system (each_processor s.machine.system))) (stored_in since) (last_of (left update) since).machine settled words,
  )

pub complete_updates_are_kept : CompleteUpdatesAreKept
complete_updates_are_kept text front since rest update era same wrote_it none =
    let w = writes_complete update.before update.command era wrote_it in
    let there = stands_in front (since ++ rest) update (course_is text front (since ++ rest) update same) in
    complete_is update since there.is there.fits (in_front since rest (left update) there.goes_on) none w.0 w.1 w.2

-- ---- a processor that joins

module _ (join : ScriptStep) (since : List ScriptStep) (h : IsReplayState join.before) (fits : Fits join.before.now join.command) (on : AreInTurn (left join) since) (none : NoneOf IsCall since)
    (is_join : join.command ≡ command.Newcomer Join) (may : may_come join.before.machine ≡ true) where
  abbrev was : ReplayState
  was = join.before

  fits_join : Fits was.now (command.Newcomer Join)
  fits_join = subst (Fits was.now) is_join fits

  left_so : left join ≡ state_after was (command.Newcomer Join)
  left_so = ap (state_after was) is_join

  calls_since : AreWithoutCall (state_after was (command.Newcomer Join)) (commands since)
  calls_since = subst (λ (x : ReplayState). AreWithoutCall x (commands since)) left_so (without_call since (left join) (state_kept was join.command h fits) on none)

  last_join_is : state_after_all (state_after was (command.Newcomer Join)) (commands since) ≡ last_of (left join) since
  last_join_is = ap (λ (x : ReplayState). state_after_all x (commands since)) (sym left_so) ∙ same_last since (left join) on

  stored_join_is : stored_by_all (state_after was (command.Newcomer Join)) (commands since) ≡ stored_in since
  stored_join_is = ap (λ (x : ReplayState). stored_by_all x (commands since)) (sym left_so) ∙ same_stored since (left join) on

  machine_is : (left join).machine ≡ admitted was.machine
  machine_is = ap (machine_after was) is_join ∙ after_join was h may

  windows_since : (last_of (left join) since).machine.system.memory.windows ≡ was.machine.system.memory.windows
  windows_since =
      same_windows since (left join) (state_kept was join.command h fits) on (ap (λ (x : ReplayState). takes_windows x.now.stage) left_so)
      ∙ ap (λ (m : Machine). m.system.memory.windows) machine_is ∙ no_windows was h may

  words_since : (address : ℕ) → IsSome (place (last_of (left join) since).machine.system.memory address) → (Contains (stored_in since) address → ⊥)
      → word_at (last_of (left join) since).machine.system.memory address ≡ now (emptied (with_newcomer was.machine).system (each_processor (with_newcomer was.machine).system)) address
  words_since address some other =
      ap (λ (x : ReplayState). word_at x.machine.system.memory address) (sym last_join_is)
      ∙ join_held was h may (commands since) fits_join calls_since address (is_aligned (last_of (left join) since).machine.system.memory address some)
      (λ stored. other (subst (λ (ws : List ℕ). Contains ws address) stored_join_is stored))
      ∙ join_words was h may address (same_place (last_of (left join) since).machine.system.memory was.machine.system.memory address windows_since some)

  joined_is : HasNewcomer join
      × KeepsUpdate (first_file was) (next_era join) (now (emptied (with_newcomer was.machine).system (each_processor (with_newcomer was.machine).system))) (stored_in since) (last_of (left join) since).machine
  joined_is = (
    record {
      number = ap (command_text was) is_join ∙ join_line was h may;
      one_more = ap (λ (m : Machine). length m.system.processors) machine_is ∙ join_one_more was h may;
    },
    keeps (first_file was) (next_era join) (now (emptied (with_newcomer was.machine).system (each_processor (with_newcomer was.machine).system))) (stored_in since) (last_of (left join) since).machine
        (subst (λ (x : ReplayState). IsSettled x.machine.system (next_era join) (first_file was)) last_join_is (join_stays was h may (commands since) fits_join calls_since))
        words_since,
  )

pub joins_are_kept : JoinsAreKept
joins_are_kept text front since rest join k same joins none =
    let there = stands_in front (since ++ rest) join (course_is text front (since ++ rest) join same) in
    joined_is join since there.is there.fits (in_front since rest (left join) there.goes_on) none joins.0 (newcomer_comes join (k, inr joins))
