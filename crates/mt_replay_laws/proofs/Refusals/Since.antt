-- Commands that call for no update, as events.
use Rattle.std.proofs.Common.{◌≡◌, ◌⊎◌, ◌∙◌, ap, sym, refl, subst, ⊎_elim, inl, inr, ℕ, ◌<◌, nat_lt, length, Bool, true, false, if◌then◌else◌, List, [], ◌∷◌, Option, None, Some, slice_get}
use Rattle.std.specs.Prelude.{IsSome, not}
use Rattle.std.specs.Option.{option_map_or}
use Rattle.std.proofs.lemmas.Bool.{lt-ltb}
use Rattle.std.proofs.lemmas.Option.{slice_get_within}
use Rattle.mt_machine.specs.declared.event.Event.{Event}
use Rattle.mt_machine.specs.declared.go.Go.TheVariants.{Pending}
use Rattle.mt_machine.specs.declared.op.Op.{Op}
use Rattle.mt_machine.specs.declared.op.Op.TheVariants as op
use Rattle.mt_machine.specs.declared.control.Control.{Control}
use Rattle.mt_machine.specs.declared.control.Control.TheVariants as control_of
use Rattle.mt_machine.specs.System.{Processor, System}
use Rattle.mt_machine.specs.Access.{Answered, access, is_running}
use Rattle.mt_machine.specs.declared.done.Done.TheVariants.{Busy}
use Rattle.mt_machine.specs.Control.{RuledAfter}
use Rattle.mt_machine.specs.Machine.{Accesses, Cancels, Controls, FitsControl, FitsOp, Goes, IsEnabled, Machine, MachineEvent, Steps, due_at, go_of, next}
use Rattle.mt_machine.specs.ComingAndGoing.{without_last}
use Rattle.mt_machine.specs.Update.{is_call, is_stored, physical_of, stored_word}
use Rattle.mt_laws.proofs.Barrier.Acting.{access_busy, control_busy}
use Rattle.mt_admit.specs.Admission.{admitted, brought_up}
use Rattle.mt_core.specs.Steps.{step_after}
use Rattle.mt_core.specs.declared.fault.CallFault.{CallFault}
use Rattle.mt_core.proofs.Arising.{runs_or_rests}
use Rattle.mt_script.specs.Situation.{Situation}
use Rattle.mt_script.specs.Stages.{takes_windows}
use Rattle.mt_script.specs.Accept.{Fits, accepted}
use Rattle.mt_script.specs.declared.command.Command.{Command}
use Rattle.mt_script.specs.declared.command.Command.TheVariants as command
use Rattle.mt_script.specs.declared.command.Section.TheVariants.{Register, End}
use Rattle.mt_script.specs.declared.command.Ask.TheVariants as ask
use Rattle.mt_script.specs.declared.command.Newcomer.TheVariants.{Up, Join}
use Rattle.mt_replay.specs.Kept.{IsReplayState}
use Rattle.mt_replay.specs.ReplayState.{ReplayState, after_retire, after_word, call_fault, is_absent, is_undecided, machine_after, mapping, may_go, present_after, state_after}
use Rattle.mt_replay_laws.specs.Settling.{AreWithoutCall, IsWithoutCall, state_after_all, stored_by, stored_by_all}
use Rattle.mt_replay.proofs.Keeping.Absent.{absent_machine, there_machine}
use Rattle.mt_replay.proofs.Keeping.Machines.{is_pending}
use Rattle.mt_replay.proofs.Keeping.Moving.{idle_to_go, more_to_go}
use Rattle.mt_replay.proofs.Keeping.States.{mapping_fits, state_kept}
use Rattle.mt_replay_laws.proofs.Paths.Settling.{Path, ends, goes_on, retires}
use Rattle.mt_replay_laws.proofs.Refusals.Calls.{ends_idle}

-- the last processor goes
abbrev pub Retires : Machine → Machine → Type 0
Retires m n = (m.order ≡ None) × (1 < length m.system.processors) × (n ≡ without_last m)

-- it stays, or does one event that is no call, or its last processor goes; the last argument is the word that it stores
abbrev Moves : Machine → Machine → Option ℕ → Type 0
Moves m n o =
    ((n ≡ m) × (o ≡ None)) ⊎ ((e : MachineEvent) × IsEnabled m e × (not (is_call e) ≡ true) × (n ≡ next m e) × (stored_word m e ≡ o)) ⊎ (Retires m n × (o ≡ None))

abbrev pub with_system : Machine → System → Machine
with_system m s = record m { system = s }

pub busy_stores_none : (m : Machine) (k : ℕ) (o : Op) → access m.system k o ≡ record { answer = Busy; after = m.system } → stored_word m (Accesses k o) ≡ None
busy_stores_none m k (op.Load address) busy = refl
busy_stores_none m k (op.Store address value) busy = ap (λ (x : Answered). if is_stored x.answer then physical_of m.system k address else None) busy
busy_stores_none m k op.Fence busy = refl

access_moves : (m : Machine) (k : ℕ) (o : Op) → FitsOp o → Moves m (next m (Accesses k o)) (stored_word m (Accesses k o))
access_moves m k o fits =
    runs_or_rests m.system k (Moves m (next m (Accesses k o)) (stored_word m (Accesses k o)))
    (λ runs. inr (inl (Accesses k o, (runs, fits), refl, refl, refl)))
    (λ rests. let busy = access_busy m.system k rests o in inl (ap (λ (x : Answered). with_system m x.after) busy, busy_stores_none m k o busy))

control_moves : (m : Machine) (k : ℕ) (c : Control) → ((p : Processor) → slice_get m.system.processors k ≡ Some p → FitsControl p c) → Moves m (next m (Controls k c)) None
control_moves m k c fits =
    runs_or_rests m.system k (Moves m (next m (Controls k c)) None)
    (λ runs. inr (inl (Controls k c, (runs, fits), refl, refl, refl)))
    (λ rests. inl (ap (λ (x : RuledAfter). with_system m x.after) (control_busy m.system k rests c), refl))

word_moves : (m : Machine) (e : MachineEvent) → (go_of m ≡ Some Pending → IsEnabled m e) → not (is_call e) ≡ true → stored_word m e ≡ None → Moves m (after_word e m) None
word_moves m e enabled quiet stores = one (is_undecided (go_of m)) refl
  where
    one : (b : Bool) → is_undecided (go_of m) ≡ b → Moves m (if b then next m e else m) None
    one true is = inr (inl (e, enabled (is_pending (go_of m) is), quiet, refl, stores))
    one false is = inl (refl, refl)

step_moves : (m : Machine) (k : ℕ) → Moves m (step_after m k) None
step_moves m k = one (due_at m k) refl
  where
    one : (o : Option Event) → due_at m k ≡ o → Moves m (option_map_or (λ e. next m (Steps k e)) o m) None
    one None is = inl (refl, refl)
    one (Some e) is = inr (inl (Steps k e, is, refl, refl, refl))

end_moves : (s : ReplayState) → IsSome (call_fault s.machine s.goal) → Moves s.machine (machine_after s (command.Section End)) None
end_moves s some = one (call_fault s.machine s.goal) refl some
  where
    one : (o : Option CallFault) → call_fault s.machine s.goal ≡ o → IsSome o → Moves s.machine (machine_after s (command.Section End)) None
    one None is some = absurd (cc some)
    one (Some fault) is some = inl ((ends_idle s fault is).1, refl)

-- whether the last processor goes
pub retires_or_stays : (m : Machine) → (after_retire m ≡ m) ⊎ Retires m (after_retire m)
retires_or_stays m = one (may_go m) refl
  where
    one : (b : Bool) → may_go m ≡ b → ((if b then without_last m else m) ≡ m) ⊎ Retires m (if b then without_last m else m)
    one true is = inr (idle_to_go m is, more_to_go m is, refl)
    one false is = inl refl

retire_moves : (m : Machine) → Moves m (after_retire m) None
retire_moves m = ⊎_elim (λ (same : after_retire m ≡ m). inl (same, refl)) (λ (goes : Retires m (after_retire m)). inr (inr (goes, refl))) (retires_or_stays m)

-- a processor that isn't there stores nothing
rests_absent : (ps : List Processor) (k : ℕ) → not (nat_lt k (length ps)) ≡ true → (q : Processor) → slice_get ps k ≡ Some q → is_running q.phase ≡ false
rests_absent ps k is q at = absurd (let there = lt-ltb k (length ps) (slice_get_within ps k q at) in let e : not true ≡ true = ap not (sym there) ∙ is in cc e)

absent_stores_none : (s : ReplayState) (c : Command) → is_absent s.machine c ≡ true → stored_by s c ≡ None
absent_stores_none s (command.Ask k (ask.Store address value)) is =
    busy_stores_none s.machine k (op.Store address value) (access_busy s.machine.system k (rests_absent s.machine.system.processors k is) (op.Store address value))
absent_stores_none s other is = refl

-- windows come before all other commands
moves_there : (s : ReplayState) (c : Command) → IsReplayState s → Fits s.now c → IsWithoutCall s c → takes_windows s.now.stage ≡ false → Moves s.machine (present_after s c) (stored_by s c)
moves_there s (command.Ram base lines) h fits calls past = absurd (let takes = fits.0 in cc (takes, past))
moves_there s (command.Selfsnoop k) h fits calls past = absurd (let takes = fits.0 in cc (takes, past))
moves_there s (command.Ask k (ask.Load address)) h fits calls past = access_moves s.machine k (op.Load address) fits.1
moves_there s (command.Ask k (ask.Store address value)) h fits calls past = access_moves s.machine k (op.Store address value) fits.1
moves_there s (command.Ask k ask.Fence) h fits calls past = access_moves s.machine k op.Fence tt
moves_there s (command.Ask k (ask.Map x)) h fits calls past = control_moves s.machine k (control_of.Map (mapping x)) (mapping_fits s h k x fits.1.0.1 fits.1.1.1 fits.1.2)
moves_there s (command.Ask k (ask.Invlpg address)) h fits calls past = control_moves s.machine k (control_of.Invlpg address) (λ p at. tt)
moves_there s (command.Ask k ask.Cr3) h fits calls past = control_moves s.machine k control_of.Cr3 (λ p at. tt)
moves_there s (command.Ask k (ask.Pge on)) h fits calls past = control_moves s.machine k (control_of.Pge on) (λ p at. tt)
moves_there s (command.Ask k (ask.Cd on)) h fits calls past = control_moves s.machine k (control_of.Cd on) (λ p at. tt)
moves_there s command.Go h fits calls past = word_moves s.machine Goes (λ pending. pending) refl refl
moves_there s command.Cancel h fits calls past = word_moves s.machine Cancels (λ pending. pending) refl refl
moves_there s (command.Ask k ask.Step) h fits calls past = step_moves s.machine k
moves_there s (command.Newcomer Up) h fits calls past = inl (ap (λ (b : Bool). if b then brought_up s.machine else s.machine) (calls.1 (Up, refl)), refl)
moves_there s (command.Newcomer Join) h fits calls past = inl (ap (λ (b : Bool). if b then admitted s.machine else s.machine) (calls.1 (Join, refl)), refl)
moves_there s command.Retire h fits calls past = retire_moves s.machine
moves_there s (command.Section End) h fits calls past = end_moves s (calls.0 refl)
moves_there s other h fits calls past = inl (refl, refl)

moves : (s : ReplayState) (c : Command) → IsReplayState s → Fits s.now c → IsWithoutCall s c → takes_windows s.now.stage ≡ false → Moves s.machine (machine_after s c) (stored_by s c)
moves s c h fits calls past = one (is_absent s.machine c) refl
  where
    one : (b : Bool) → is_absent s.machine c ≡ b → Moves s.machine (machine_after s c) (stored_by s c)
    one true is = inl (absent_machine s c is, absent_stores_none s c is)
    one false is = subst (λ (n : Machine). Moves s.machine n (stored_by s c)) (sym (there_machine s c is)) (moves_there s c h fits calls past)

pub stays_past : (now : Situation) (c : Command) → takes_windows now.stage ≡ false → takes_windows (accepted now c).stage ≡ false
stays_past now (command.Ram base lines) past = past
stays_past now (command.Selfsnoop k) past = past
stays_past now command.Blank past = past
stays_past now command.DumpLine past = past
stays_past now (command.Section (Register number value)) past = past
stays_past now other past = refl

moved : (m n r : Machine) (o : Option ℕ) (words : List ℕ) → Moves m n o → Path n r words → Path m r (option_map_or (λ a. a ∷ words) o words)
moved m n r o words (inl (same, none)) h =
    subst (λ (v : Option ℕ). Path m r (option_map_or (λ a. a ∷ words) v words)) (sym none) (subst (λ (x : Machine). Path x r words) same h)
moved m n r o words (inr (inl (e, enabled, quiet, same, stores))) h =
    subst (λ (v : Option ℕ). Path m r (option_map_or (λ a. a ∷ words) v words)) stores (goes_on e enabled quiet (subst (λ (x : Machine). Path x r words) same h))
moved m n r o words (inr (inr (goes, none))) h =
    subst (λ (v : Option ℕ). Path m r (option_map_or (λ a. a ∷ words) v words)) (sym none) (retires goes.0 goes.1 (subst (λ (x : Machine). Path x r words) goes.2 h))

pub all_lead : (cs : List Command) (s : ReplayState) → IsReplayState s → takes_windows s.now.stage ≡ false → AreWithoutCall s cs → Path s.machine (state_after_all s cs).machine (stored_by_all s cs)
all_lead [] = λ s h past without. ends
all_lead (c ∷ cs) = λ s h past without.
    moved s.machine (machine_after s c) (state_after_all (state_after s c) cs).machine (stored_by s c) (stored_by_all (state_after s c) cs)
    (moves s c h without.0 without.1 past)
    (all_lead cs (state_after s c) (state_kept s c h without.0) (stays_past s.now c past) without.2)
