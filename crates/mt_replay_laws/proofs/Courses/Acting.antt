-- A step that calls for no update does an event that its text tells of, or nothing.
use Rattle.std.proofs.Common.{◌≡◌, ◌⊎◌, ap, sym, refl, subst, inl, inr, ℕ, Bool, true, false, if◌then◌else◌, List, [], ◌∷◌, Option, None, Some, slice_get, ◌++◌, ⊎_elim, ◌∙◌}
use Rattle.std.specs.Prelude.{IsSome, not}
use Rattle.std.specs.Option.{option_map_or}
use Rattle.std.specs.List.{list_all}
use Rattle.mt_regs.specs.RegisterFile.{RegisterFile}
use Rattle.mt_machine.specs.declared.event.Event.{Event}
use Rattle.mt_machine.specs.declared.event.Event.TheVariants as event
use Rattle.mt_machine.specs.declared.go.Go.TheVariants.{Pending}
use Rattle.mt_machine.specs.declared.op.Op.{Op}
use Rattle.mt_machine.specs.declared.op.Op.TheVariants as op
use Rattle.mt_machine.specs.declared.control.Control.{Control}
use Rattle.mt_machine.specs.declared.control.Control.TheVariants as control_of
use Rattle.mt_machine.specs.System.{Processor, System}
use Rattle.mt_machine.specs.Access.{Answered}
use Rattle.mt_machine.specs.Control.{RuledAfter}
use Rattle.mt_machine.specs.Machine.{Accesses, AreEnabled, Cancels, Controls, FitsControl, FitsOp, Goes, IsEnabled, Machine, MachineEvent, Steps, due_at, go_of, next, run, Order, Calls}
use Rattle.mt_machine.specs.Update.{is_call, is_release}
use Rattle.mt_laws.proofs.Barrier.Acting.{access_busy, control_busy}
use Rattle.mt_core.specs.Steps.{pause_at, step_after, step_answer}
use Rattle.mt_core.specs.declared.stepped.Stepped.TheVariants.{Did}
use Rattle.mt_core.specs.declared.fault.CallFault.{CallFault}
use Rattle.mt_core.proofs.Arising.{runs_or_rests, machine}
use Rattle.mt_script.specs.Situation.{Situation}
use Rattle.mt_script.specs.Stages.{takes_windows}
use Rattle.mt_script.specs.Accept.{Fits}
use Rattle.mt_script.specs.declared.command.Command.{Command}
use Rattle.mt_script.specs.declared.command.Command.TheVariants as command
use Rattle.mt_script.specs.declared.command.Section.TheVariants.{End}
use Rattle.mt_script.specs.declared.command.Ask.TheVariants as ask
use Rattle.mt_script.specs.declared.command.Newcomer.TheVariants.{Up, Join}
use Rattle.mt_output.specs.Lines.{line}
use Rattle.mt_machine.specs.ComingAndGoing.{without_last}
use Rattle.mt_admit.specs.Admission.{admitted, brought_up}
use Rattle.mt_replay_laws.specs.Settling.{IsWithoutCall}
use Rattle.mt_replay.proofs.Keeping.Absent.{absent_machine, there_machine, there_text}
use Rattle.mt_replay_laws.specs.Headline.{IsCall, NoneOf, NoneWrote, pass_line, release_line}
use Rattle.mt_replay.specs.Steps.{ScriptStep, last_of, left, wrote}
use Rattle.mt_replay.specs.Kept.{IsReplayState}
use Rattle.mt_replay.specs.ReplayState.{ReplayState, after_word, call_fault, command_text, file_at, is_undecided, machine_after, mapping, after_retire, is_absent, present_after, present_text}
use Rattle.mt_replay.specs.Texts.{event_text, stepped_line}
use Rattle.mt_replay_laws.proofs.Courses.Since.{no_call}
use Rattle.mt_replay_laws.proofs.Courses.Steps.{AreInTurn}
use Rattle.mt_replay_laws.proofs.Courses.Tells.{pass_or_not}
use Rattle.mt_replay_laws.proofs.Courses.Waiting.{IsOf, Waits, order_on, waits_on}
use Rattle.mt_replay.proofs.Keeping.Machines.{is_pending}
use Rattle.mt_replay.proofs.Keeping.States.{mapping_fits, state_kept}
use Rattle.mt_replay_laws.proofs.Refusals.Calls.{ends_idle}
use Rattle.mt_replay_laws.proofs.Refusals.Since.{stays_past, with_system, Retires, retires_or_stays}

-- the text tells of this event, where it is a step's
abbrev pub TellsOf : MachineEvent → List ℕ → Type 0
TellsOf (Steps k e) text = (f : RegisterFile) × (text ≡ line (event_text f e))
TellsOf other text = Unit {0}

-- nothing, or one event that is no call, or the last processor goes
abbrev pub Acts : Machine → Machine → List ℕ → Type 0
Acts m n text = (n ≡ m) ⊎ ((e : MachineEvent) × IsEnabled m e × (not (is_call e) ≡ true) × (n ≡ next m e) × TellsOf e text) ⊎ Retires m n

access_acts : (m : Machine) (k : ℕ) (o : Op) (text : List ℕ) → FitsOp o → Acts m (next m (Accesses k o)) text
access_acts m k o text fits =
    runs_or_rests m.system k (Acts m (next m (Accesses k o)) text)
    (λ runs. inr (inl (Accesses k o, (runs, fits), refl, refl, tt)))
    (λ rests. inl (ap (λ (x : Answered). with_system m x.after) (access_busy m.system k rests o)))

control_acts : (m : Machine) (k : ℕ) (c : Control) (text : List ℕ) → ((p : Processor) → slice_get m.system.processors k ≡ Some p → FitsControl p c) → Acts m (next m (Controls k c)) text
control_acts m k c text fits =
    runs_or_rests m.system k (Acts m (next m (Controls k c)) text)
    (λ runs. inr (inl (Controls k c, (runs, fits), refl, refl, tt)))
    (λ rests. inl (ap (λ (x : RuledAfter). with_system m x.after) (control_busy m.system k rests c)))

word_acts : (m : Machine) (e : MachineEvent) (text : List ℕ) → (go_of m ≡ Some Pending → IsEnabled m e) → not (is_call e) ≡ true → TellsOf e text → Acts m (after_word e m) text
word_acts m e text enabled quiet tells = one (is_undecided (go_of m)) refl
  where
    one : (b : Bool) → is_undecided (go_of m) ≡ b → Acts m (if b then next m e else m) text
    one true is = inr (inl (e, enabled (is_pending (go_of m) is), quiet, refl, tells))
    one false is = inl refl

step_acts : (m : Machine) (k : ℕ) (f : RegisterFile) → Acts m (step_after m k) (stepped_line f (step_answer m k))
step_acts m k f = one (due_at m k) refl
  where
    one : (o : Option Event) → due_at m k ≡ o → Acts m (option_map_or (λ e. next m (Steps k e)) o m) (stepped_line f (option_map_or Did o (pause_at m k)))
    one None is = inl refl
    one (Some e) is = inr (inl (Steps k e, is, refl, refl, (f, refl)))

end_acts : (s : ReplayState) (text : List ℕ) → IsSome (call_fault s.machine s.goal) → Acts s.machine (machine_after s (command.Section End)) text
end_acts s text some = one (call_fault s.machine s.goal) refl some
  where
    one : (o : Option CallFault) → call_fault s.machine s.goal ≡ o → IsSome o → Acts s.machine (machine_after s (command.Section End)) text
    one None is some = absurd (cc some)
    one (Some fault) is some = inl (ends_idle s fault is).1

-- windows, and processors that become self-snooping, come before all other commands
abbrev pub IsNoWindow : Command → Type 0
IsNoWindow (command.Ram base lines) = ⊥
IsNoWindow (command.Selfsnoop k) = ⊥
IsNoWindow other = Unit {0}

is_no_window : (now : Situation) (c : Command) → Fits now c → takes_windows now.stage ≡ false → IsNoWindow c
is_no_window now (command.Ram base lines) fits past = let takes = fits.0 in cc (takes, past)
is_no_window now (command.Selfsnoop k) fits past = let takes = fits.0 in cc (takes, past)
is_no_window now other fits past = tt

acts_there : (s : ReplayState) (c : Command) → IsReplayState s → Fits s.now c → IsWithoutCall s c → IsNoWindow c → Acts s.machine (present_after s c) (present_text s c)
acts_there s (command.Ram base lines) h fits calls past = absurd past
acts_there s (command.Selfsnoop k) h fits calls past = absurd past
acts_there s (command.Ask k (ask.Load address)) h fits calls past = access_acts s.machine k (op.Load address) (present_text s (command.Ask k (ask.Load address))) fits.1
acts_there s (command.Ask k (ask.Store address value)) h fits calls past = access_acts s.machine k (op.Store address value) (present_text s (command.Ask k (ask.Store address value))) fits.1
acts_there s (command.Ask k ask.Fence) h fits calls past = access_acts s.machine k op.Fence (present_text s (command.Ask k ask.Fence)) tt
acts_there s (command.Ask k (ask.Map x)) h fits calls past =
    control_acts s.machine k (control_of.Map (mapping x)) (present_text s (command.Ask k (ask.Map x))) (mapping_fits s h k x fits.1.0.1 fits.1.1.1 fits.1.2)
acts_there s (command.Ask k (ask.Invlpg address)) h fits calls past = control_acts s.machine k (control_of.Invlpg address) (present_text s (command.Ask k (ask.Invlpg address))) (λ p at. tt)
acts_there s (command.Ask k ask.Cr3) h fits calls past = control_acts s.machine k control_of.Cr3 (present_text s (command.Ask k ask.Cr3)) (λ p at. tt)
acts_there s (command.Ask k (ask.Pge on)) h fits calls past = control_acts s.machine k (control_of.Pge on) (present_text s (command.Ask k (ask.Pge on))) (λ p at. tt)
acts_there s (command.Ask k (ask.Cd on)) h fits calls past = control_acts s.machine k (control_of.Cd on) (present_text s (command.Ask k (ask.Cd on))) (λ p at. tt)
acts_there s command.Go h fits calls past = word_acts s.machine Goes (present_text s command.Go) (λ pending. pending) refl tt
acts_there s command.Cancel h fits calls past = word_acts s.machine Cancels (present_text s command.Cancel) (λ pending. pending) refl tt
acts_there s (command.Ask k ask.Step) h fits calls past = step_acts s.machine k (file_at (step_after s.machine k).system.processors k s.goal)
acts_there s (command.Newcomer Up) h fits calls past = inl (ap (λ (b : Bool). if b then brought_up s.machine else s.machine) (calls.1 (Up, refl)))
acts_there s (command.Newcomer Join) h fits calls past = inl (ap (λ (b : Bool). if b then admitted s.machine else s.machine) (calls.1 (Join, refl)))
acts_there s command.Retire h fits calls past = ⊎_elim (λ (same : after_retire s.machine ≡ s.machine). inl same) (λ (goes : Retires s.machine (after_retire s.machine)). inr (inr goes)) (retires_or_stays s.machine)
acts_there s (command.Section End) h fits calls past = end_acts s (present_text s (command.Section End)) (calls.0 refl)
acts_there s other h fits calls past = inl refl

pub acts : (s : ReplayState) (c : Command) → IsReplayState s → Fits s.now c → IsWithoutCall s c → IsNoWindow c → Acts s.machine (machine_after s c) (command_text s c)
acts s c h fits calls past = one (is_absent s.machine c) refl
  where
    one : (b : Bool) → is_absent s.machine c ≡ b → Acts s.machine (machine_after s c) (command_text s c)
    one true absent = inl (absent_machine s c absent)
    one false there = subst (λ (v : Machine × List ℕ). Acts s.machine v.0 v.1) (λ i. (sym (there_machine s c there) i, sym (there_text s c there) i)) (acts_there s c h fits calls past)

-- of a step that is no call
pub step_acts_in : (step : ScriptStep) → IsReplayState step.before → Fits step.before.now step.command → (IsCall step → ⊥) → takes_windows step.before.now.stage ≡ false → Acts step.before.machine (left step).machine (wrote step)
step_acts_in step h fits calls past = acts step.before step.command h fits (no_call step h calls) (is_no_window step.before.now step.command fits past)

-- ---- what the text excludes

pub no_pass : (e : MachineEvent) (text : List ℕ) → TellsOf e text → (text ≡ pass_line → ⊥) → (k : ℕ) → e ≡ Steps k event.Pass → ⊥
no_pass e text tells other k is = let t = subst (λ (x : MachineEvent). TellsOf x text) is tells in other t.1

pub no_release : (e : MachineEvent) (text : List ℕ) → TellsOf e text → (text ≡ release_line → ⊥) → not (is_release e) ≡ true
no_release (Steps k event.Release) text tells other = absurd (other tells.1)
no_release e text tells other = refl

-- ---- steps one after the other

-- a step of these stands in a state that is kept, past the windows
pub record Stands (s : ReplayState) : Type 0 where
  pub is : IsReplayState s
  pub past : takes_windows s.now.stage ≡ false

pub stands_after : (step : ScriptStep) → Stands step.before → Fits step.before.now step.command → Stands (left step)
stands_after step h fits = record { is = state_kept step.before step.command h.is fits; past = stays_past step.before.now step.command h.past }

pub stands_behind : (steps : List ScriptStep) (s : ReplayState) → Stands s → AreInTurn s steps → Stands (last_of s steps)
stands_behind [] s h on = h
stands_behind (step ∷ steps) s h on = stands_behind steps (left step) (stands_after step (subst Stands (sym on.0) h) on.1) on.2

order_acts : (goal : RegisterFile) (era : ℕ) (m n : Machine) (text : List ℕ) → Acts m n text → IsOf goal era m.order → IsOf goal era n.order
order_acts goal era m n text (inl same) h = subst (λ (x : Machine). IsOf goal era x.order) (sym same) h
order_acts goal era m n text (inr (inl (e, enabled, quiet, same, tells))) h =
    subst (λ (x : Machine). IsOf goal era x.order) (sym same) (order_on goal era e m.system m.order quiet h)
order_acts goal era m n text (inr (inr goes)) h = subst (λ (x : Machine). IsOf goal era x.order) (sym goes.2) (subst (IsOf goal era) (sym goes.0) tt)

-- the order that stands behind steps without a call is the one before them
pub order_stays : (goal : RegisterFile) (era : ℕ) (steps : List ScriptStep) (s : ReplayState) → Stands s → AreInTurn s steps → NoneOf IsCall steps → IsOf goal era s.machine.order → IsOf goal era (last_of s steps).machine.order
order_stays goal era [] s h on none is = is
order_stays goal era (step ∷ steps) s h on none is =
    let here : Stands step.before = subst Stands (sym on.0) h in
    order_stays goal era steps (left step) (stands_after step here on.1) on.2 none.1
    (order_acts goal era step.before.machine (left step).machine (wrote step) (step_acts_in step here.is on.1 none.0 here.past) (subst (λ (x : ReplayState). IsOf goal era x.machine.order) (sym on.0) is))

-- without a call none stands where none stood
none_on : (e : MachineEvent) (s : System) → not (is_call e) ≡ true → (next (machine s None) e).order ≡ None
none_on (Accesses k op) s quiet = refl
none_on (Controls k c) s quiet = refl
none_on (Calls goal) s quiet = absurd (cc quiet)
none_on Goes s quiet = refl
none_on Cancels s quiet = refl
none_on (Steps k e) s quiet = refl

pub none_acts : (m n : Machine) (text : List ℕ) → Acts m n text → m.order ≡ None → n.order ≡ None
none_acts m n text (inl same) none = ap (λ (x : Machine). x.order) same ∙ none
none_acts m n text (inr (inl (e, enabled, quiet, same, tells))) none =
    ap (λ (x : Machine). x.order) same ∙ ap (λ (v : Option Order). (next (machine m.system v) e).order) none ∙ none_on e m.system quiet
none_acts m n text (inr (inr goes)) none = ap (λ (x : Machine). x.order) goes.2 ∙ none

none_left : (steps : List ScriptStep) (s : ReplayState) → Stands s → AreInTurn s steps → NoneOf IsCall steps → s.machine.order ≡ None → (last_of s steps).machine.order ≡ None
none_left [] s h on calls none = none
none_left (step ∷ steps) s h on calls none =
    let here : Stands step.before = subst Stands (sym on.0) h in
    none_left steps (left step) (stands_after step here on.1) on.2 calls.1
    (none_acts step.before.machine (left step).machine (wrote step) (step_acts_in step here.is on.1 calls.0 here.past) (ap (λ (x : ReplayState). x.machine.order) on.0 ∙ none))

-- events without a release lead from the one to the other
pub record Goes_between (m n : Machine) : Type 0 where
  pub events : List MachineEvent
  pub enabled : AreEnabled m events
  pub no_release : list_all (λ e. not (is_release e)) events ≡ true
  pub is : run m events ≡ n

on_between : (m n r : Machine) (text : List ℕ) → Acts m n text → (text ≡ release_line → ⊥) → (m.order ≡ None → ⊥) → Goes_between n r → Goes_between m r
on_between m n r text (inl same) other some h = subst (λ (x : Machine). Goes_between x r) same h
on_between m n r text (inr (inl (e, enabled, quiet, same, tells))) other some h =
    let later = subst (λ (x : Machine). Goes_between x r) same h in
    let silent : not (is_release e) ≡ true = no_release e text tells other in
    record { events = e ∷ later.events; enabled = (enabled, later.enabled); no_release = rw silent later.no_release; is = later.is }
on_between m n r text (inr (inr goes)) other some h = absurd (some goes.0)

-- while an update is under way to the end none goes
pub none_release : (steps : List ScriptStep) (s : ReplayState) → Stands s → AreInTurn s steps → NoneOf IsCall steps → NoneWrote release_line steps → ((last_of s steps).machine.order ≡ None → ⊥) → Goes_between s.machine (last_of s steps).machine
none_release [] s h on calls releases some = record { events = []; enabled = tt; no_release = refl; is = refl }
none_release (step ∷ steps) s h on calls releases some =
    let here : Stands step.before = subst Stands (sym on.0) h in
    subst (λ (x : ReplayState). Goes_between x.machine (last_of (left step) steps).machine) on.0
    (on_between step.before.machine (left step).machine (last_of (left step) steps).machine (wrote step) (step_acts_in step here.is on.1 calls.0 here.past) releases.0
    (λ none. some (none_left (step ∷ steps) step.before here (refl, on.1, on.2) calls none))
    (none_release steps (left step) (stands_after step here on.1) on.2 calls.1 releases.1 some))

-- ---- the first pass

waits_act : (goal : RegisterFile) (era : ℕ) (m n : Machine) (text : List ℕ) → Acts m n text → (text ≡ pass_line → ⊥) → Waits goal era m.system m.order → Waits goal era n.system n.order
waits_act goal era m n text (inl same) other h = subst (λ (x : Machine). Waits goal era x.system x.order) (sym same) h
waits_act goal era m n text (inr (inl (e, enabled, quiet, same, tells))) other h =
    subst (λ (x : Machine). Waits goal era x.system x.order) (sym same) (waits_on goal era e m.system m.order enabled quiet (no_pass e text tells other) h)
waits_act goal era m n text (inr (inr goes)) other h =
    subst (λ (x : Machine). Waits goal era x.system x.order) (sym goes.2) (subst (λ (o : Option Order). Waits goal era (without_last m).system o) (sym goes.0) tt)

abbrev pub WaitsIn : RegisterFile → ℕ → ReplayState → Type 0
WaitsIn goal era s = Waits goal era s.machine.system s.machine.order

-- The first of these steps that passes, and up to it all wait.
pub record FirstPass (goal : RegisterFile) (era : ℕ) (steps : List ScriptStep) : Type 0 where
  pub waiting : List ScriptStep
  pub pass : ScriptStep
  pub between : List ScriptStep
  pub is : steps ≡ waiting ++ pass ∷ between
  pub none : NoneWrote pass_line waiting
  pub passes : wrote pass ≡ pass_line
  pub waits : WaitsIn goal era pass.before

pub first_pass : (goal : RegisterFile) (era : ℕ) (steps : List ScriptStep) (s : ReplayState) → Stands s → AreInTurn s steps → NoneOf IsCall steps → WaitsIn goal era s → FirstPass goal era steps ⊎ WaitsIn goal era (last_of s steps)
first_pass goal era [] s h on none waits = inr waits
first_pass goal era (step ∷ steps) s h on none waits =
    one
    (λ other. first_pass goal era steps (left step) (stands_after step here on.1) on.2 none.1
    (waits_act goal era step.before.machine (left step).machine (wrote step) (step_acts_in step here.is on.1 none.0 here.past) other waits_here))
    (pass_or_not step.before step.command)
  where
    here : Stands step.before
    here = subst Stands (sym on.0) h

    waits_here : WaitsIn goal era step.before
    waits_here = subst (WaitsIn goal era) (sym on.0) waits

    longer : (wrote step ≡ pass_line → ⊥) → FirstPass goal era steps ⊎ WaitsIn goal era (last_of (left step) steps) → FirstPass goal era (step ∷ steps) ⊎ WaitsIn goal era (last_of (left step) steps)
    longer other (inl f) =
        inl (record { waiting = step ∷ f.waiting; pass = f.pass; between = f.between; is = ap (λ (rest : List ScriptStep). step ∷ rest) f.is; none = (other, f.none); passes = f.passes; waits = f.waits })
    longer other (inr w) = inr w

    one : ((wrote step ≡ pass_line → ⊥) → FirstPass goal era steps ⊎ WaitsIn goal era (last_of (left step) steps)) → (wrote step ≡ pass_line) ⊎ (wrote step ≡ pass_line → ⊥)
        → FirstPass goal era (step ∷ steps) ⊎ WaitsIn goal era (last_of (left step) steps)
    one later (inl is) = inl (record { waiting = []; pass = step; between = steps; is = refl; none = tt; passes = is; waits = waits_here })
    one later (inr other) = longer other (later other)
