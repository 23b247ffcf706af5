-- What a step that releases leaves, and the commands after it.
use Rattle.std.proofs.Common.{◌≡◌, ◌∙◌, ap, sym, refl, subst, inl, ℕ, Bool, true, false, if◌then◌else◌, length, List, [], Option, None, Some, slice_get, ◌+◌}
use Rattle.std.specs.Prelude.{not}
use Rattle.std.specs.Option.{option_map_or}
use Rattle.std.proofs.lemmas.Bool.{lt-ltb}
use Rattle.std.proofs.lemmas.Option.{slice_get_within}
use Rattle.mt_machine.specs.declared.event.Event.{Event}
use Rattle.mt_machine.specs.declared.event.Event.TheVariants.{Release}
use Rattle.mt_machine.specs.declared.phase.Phase.{Phase}
use Rattle.mt_machine.specs.declared.phase.Phase.TheVariants.{Arrived, Arrived2}
use Rattle.mt_machine.specs.System.{Processor, now}
use Rattle.mt_machine.specs.Machine.{IsEnabled, Machine, Order, Reached, Steps, after as after_event, at_start, due as due_of, due_at, first_barrier_count, is_cancelled, next}
use Rattle.mt_machine.specs.Start.{IsQuiet}
use Rattle.mt_machine.specs.Update.{IsSettled}
use Rattle.mt_laws.specs.Settled.{IsFirstRelease}
use Rattle.mt_machine_laws.proofs.Updates.FirstRelease.{held_after_each_first}
use Rattle.mt_core.specs.Arises.{Arises, by_event, from_start}
use Rattle.mt_core.specs.Steps.{pause, pause_at, step_answer}
use Rattle.mt_core.specs.declared.stepped.Stepped.TheVariants.{Did, NoUpdate, Waits}
use Rattle.mt_script.specs.Accept.{Fits}
use Rattle.mt_script.specs.Stages.{takes_windows}
use Rattle.mt_script.specs.declared.command.Command.{Command}
use Rattle.mt_script.specs.declared.command.Command.TheVariants as command
use Rattle.mt_script.specs.declared.command.Ask.TheVariants as ask
use Rattle.mt_replay.specs.Kept.{IsReplayState, start_like}
use Rattle.mt_replay.specs.ReplayState.{ReplayState, is_absent, machine_after, state_after}
use Rattle.mt_replay_laws.specs.Settling.{AreHeld, AreWithoutCall, ReleasedStatesSettle, ReleasedWordsAreHeld, state_after_all, stored_by_all}
use Rattle.mt_replay.proofs.Keeping.States.{state_kept}
use Rattle.mt_replay.proofs.Keeping.Absent.{there_machine}
use Rattle.mt_replay_laws.proofs.Paths.Settling.{Path, after_path, after_release, settled_of, word_after_release, word_path}
use Rattle.mt_replay_laws.proofs.Refusals.Since.{all_lead}

-- a step that does nothing tells of no event
count_idle : (o : Order) (ps : List Processor) (ph : Phase) (e : Event) → pause o ps ph ≡ Did e → ⊥
count_idle o ps Arrived e is = one (is_cancelled o.go) is
  where
    one : (b : Bool) → option_map_or (λ c. Waits c.arrived c.awaited) (if b then None else Some (first_barrier_count o ps)) NoUpdate ≡ Did e → ⊥
    one true is = cc is
    one false is = cc is
count_idle o ps Arrived2 e is = cc is
count_idle o ps other e is = cc is

pause_idle : (m : Machine) (k : ℕ) (e : Event) → pause_at m k ≡ Did e → ⊥
pause_idle m k e = one m.order (slice_get m.system.processors k)
  where
    one : (o : Option Order) (p : Option Processor) → option_map_or (λ o. option_map_or (λ p. pause o m.system.processors p.phase) p NoUpdate) o NoUpdate ≡ Did e → ⊥
    one None p is = cc is
    one (Some o) None is = cc is
    one (Some o) (Some p) is = count_idle o m.system.processors p.phase e is

pub answered_due : (m : Machine) (k : ℕ) (e : Event) → step_answer m k ≡ Did e → due_at m k ≡ Some e
answered_due m k e = one (due_at m k)
  where
    one : (o : Option Event) → option_map_or Did o (pause_at m k) ≡ Did e → o ≡ Some e
    one None is = absurd (pause_idle m k e is)
    one (Some due) is = let same : due ≡ e = cc is in ap Some same

pub due_order : (m : Machine) (k : ℕ) (e : Event) → due_at m k ≡ Some e → (o : Order) × (m.order ≡ Some o)
due_order m k e due = one m.order refl
  where
    one : (o : Option Order) → m.order ≡ o → (o : Order) × (m.order ≡ Some o)
    one None is = absurd (cc (rw is at due))
    one (Some o) is = (o, is)

-- a processor that does an event is there
pub step_is_there : (s : ReplayState) (k : ℕ) (e : Event) → due_at s.machine k ≡ Some e → is_absent s.machine (command.Ask k ask.Step) ≡ false
step_is_there s k e due =
    let order = due_order s.machine k e due in
    one (slice_get s.machine.system.processors k) refl (sym (ap (λ (x : Option Order). option_map_or (λ o. option_map_or (λ p. due_of o s.machine.system.processors p p.phase) (slice_get s.machine.system.processors k) None) x None) order.1) ∙ due)
  where
    one : (x : Option Processor) → slice_get s.machine.system.processors k ≡ x → option_map_or (λ p. due_of (due_order s.machine k e due).0 s.machine.system.processors p p.phase) x None ≡ Some e → is_absent s.machine (command.Ask k ask.Step) ≡ false
    one None at is = absurd (cc is)
    one (Some p) at is = ap not (lt-ltb k (length s.machine.system.processors) (slice_get_within s.machine.system.processors k p at))

-- no window may be added behind a step
past_step : (s : ReplayState) (k : ℕ) → takes_windows (state_after s (command.Ask k ask.Step)).now.stage ≡ false
past_step s k = refl

-- ---- commands since

-- the machine after a step that releases, and a path on from there
module _ (s : ReplayState) (k : ℕ) (since : List Command) (h : IsReplayState s) (fits : Fits s.now (command.Ask k ask.Step)) (released : step_answer s.machine k ≡ Did Release)
    (without : AreWithoutCall (state_after s (command.Ask k ask.Step)) since) where
  due : due_at s.machine k ≡ Some Release
  due = answered_due s.machine k Release released

  order : (o : Order) × (s.machine.order ≡ Some o)
  order = due_order s.machine k Release due

  after : machine_after s (command.Ask k ask.Step) ≡ next s.machine (Steps k Release)
  after = there_machine s (command.Ask k ask.Step) (step_is_there s k Release due) ∙ ap (λ (o : Option Event). option_map_or (λ e. next s.machine (Steps k e)) o s.machine) due

  abbrev last : Machine
  last = (state_after_all (state_after s (command.Ask k ask.Step)) since).machine

  abbrev words : List ℕ
  words = stored_by_all (state_after s (command.Ask k ask.Step)) since

  path : Path (next s.machine (Steps k Release)) last words
  path = subst (λ (m : Machine). Path m last words) after (all_lead since (state_after s (command.Ask k ask.Step)) (state_kept s (command.Ask k ask.Step) h fits) (past_step s k) without)

  arises : Arises (next s.machine (Steps k Release))
  arises = by_event (Steps k Release) h.arises due

  settled : IsSettled last.system (order.0.from_era + 1) order.0.goal
  settled = settled_of (order.0.from_era + 1) order.0.goal last (after_path (order.0.from_era + 1) order.0.goal arises (after_release s.machine order.0 k h.arises order.1 due) path)

  held : (p : Machine) (o : Order) → Arises p → IsFirstRelease p (next s.machine (Steps k Release)) o → AreHeld (now p.system) (state_after s (command.Ask k ask.Step)) since
  held p o a first address whole other =
      word_path address (now p.system address) whole arises (word_after_release p (next s.machine (Steps k Release)) o a first address whole) other path

pub released_states_settle : ReleasedStatesSettle
released_states_settle s k since h fits released without =
    let o = order s k since h fits released without in
    (o.0, o.1, settled s k since h fits released without)

-- what is reached from a machine that arises does so
arises_on : {m n : Machine} → Arises m → Reached m n → Arises n
arises_on a at_start = a
arises_on a (after_event e r enabled) = by_event e (arises_on a r) enabled

pub released_words_are_held : ReleasedWordsAreHeld
released_words_are_held s d o k since h dump fits released is none without = one s.now.moving refl
  where
    on : IsEnabled s.machine (Steps k Release)
    on = due s k since h fits released without

    from : (b : Machine) → IsQuiet b → Reached b s.machine
        → (p : Machine) × Reached b p × IsFirstRelease p (next s.machine (Steps k Release)) o
    from b quiet reached = let held = held_after_each_first b s.machine o k [] (inl quiet) reached is none on tt in (held.0, held.1, held.2)

    whole : (p : Machine) → Arises p → (s.now.moving ≡ false → Reached (start_like s d) p) → IsFirstRelease p (next s.machine (Steps k Release)) o
        → (p : Machine) × Arises p × (s.now.moving ≡ false → Reached (start_like s d) p) × IsFirstRelease p (machine_after s (command.Ask k ask.Step)) o × AreHeld (now p.system) (state_after s (command.Ask k ask.Step)) since
    whole p a reached first = (
      p,
      a,
      reached,
      subst (λ (m : Machine). IsFirstRelease p m o) (sym (after s k since h fits released without)) first,
      held s k since h fits released without p o a first,
    )

    one : (b : Bool) → s.now.moving ≡ b
        → (p : Machine) × Arises p × (s.now.moving ≡ false → Reached (start_like s d) p) × IsFirstRelease p (machine_after s (command.Ask k ask.Step)) o × AreHeld (now p.system) (state_after s (command.Ask k ask.Step)) since
    one true moves = let f = from h.came.rest h.came.quiet h.came.reached in whole f.0 (arises_on h.came.arises f.1) (λ still. absurd (cc (moves, still))) f.2
    one false still = let f = from (start_like s d) (h.quiet still d dump) (h.reached still d dump) in whole f.0 (arises_on (from_start (inl (h.quiet still d dump))) f.1) (λ same. f.1) f.2
