-- Each command keeps a flat machine beside the machine.
use Rattle.std.proofs.Common.{◌≡◌, ◌∙◌, ap, sym, refl, subst, ℕ, Bool, true, false, if◌then◌else◌, List, [], ◌∷◌, ◌++◌, length, Option, None, Some, slice_get}
use Rattle.std.specs.Prelude.{map}
use Rattle.mt_replay.proofs.Keeping.Snooping.{snooped_start}
use Rattle.mt_laws.specs.Kept.{flags_of}
use Rattle.std.specs.Option.{option_map_or}
use Rattle.mt_regs.specs.RegisterFile.{RegisterFile}
use Rattle.mt_machine.specs.declared.op.Op.{Op}
use Rattle.mt_machine.specs.declared.op.Op.TheVariants as op
use Rattle.mt_machine.specs.declared.done.Done.TheVariants as done
use Rattle.mt_machine.specs.declared.control.Control.{Control}
use Rattle.mt_machine.specs.declared.control.Control.TheVariants as control_of
use Rattle.mt_machine.specs.declared.event.Event.{Event}
use Rattle.mt_machine.specs.declared.go.Go.TheVariants.{Pending}
use Rattle.mt_machine.specs.Memory.{Window}
use Rattle.mt_machine.specs.System.{Processor, System, now, buffers_of}
use Rattle.mt_machine.specs.Machine.{Accesses, Calls, Cancels, Controls, FitsControl, FitsOp, Goes, IsEnabled, Machine, MachineEvent, Steps, due_at, go_of, next}
use Rattle.mt_machine.specs.Start.{start_with}
use Rattle.mt_machine.specs.Update.{updated}
use Rattle.mt_laws.proofs.Barrier.Acting.{access_busy, control_busy}
use Rattle.mt_ram.specs.Windows.{window}
use Rattle.mt_core.specs.Arises.{Arises, grown, snooped}
use Rattle.mt_core.specs.Steps.{step_after}
use Rattle.mt_core.specs.declared.fault.CallFault.{CallFault}
use Rattle.mt_core.proofs.Arising.{runs_or_rests}
use Rattle.mt_core.proofs.Settling.{is_quiet_without_order}
use Rattle.mt_core.proofs.Stepping.{is_sound}
use Rattle.mt_flat.specs.Flat.{Flat}
use Rattle.mt_flat.specs.Seen.{IsFlatOf, flat_after, flat_takes, given_access, written_of}
use Rattle.mt_flat.proofs.Seeing.{events_keep_flat, start_is_flat}
use Rattle.mt_flat.proofs.Updating.{updated_is_flat}
use Rattle.mt_dump.specs.ForProcessors.{files_for}
use Rattle.mt_script.specs.Accept.{Fits}
use Rattle.mt_script.specs.declared.command.Command.{Command}
use Rattle.mt_script.specs.declared.command.Command.TheVariants as command
use Rattle.mt_script.specs.declared.command.Section.TheVariants.{End}
use Rattle.mt_script.specs.declared.command.Ask.TheVariants as ask
use Rattle.mt_script.specs.declared.command.Newcomer.TheVariants.{Up, Join}
use Rattle.mt_replay_laws.specs.Flat.{flat_accessed, flat_command, flat_controlled, flat_stepped, flat_updated, flat_present}
use Rattle.mt_replay.specs.Kept.{IsReplayState, windows_of}
use Rattle.mt_replay.specs.ReplayState.{ReplayState, after_call, after_update, after_word, call_fault, each_processor, is_undecided, is_update, machine_after, mapping, is_absent, present_after}
use Rattle.mt_replay_laws.proofs.Hiding.Coming.{beside_join, beside_retire, beside_up}
use Rattle.mt_replay_laws.proofs.Hiding.Once.{each_once}
use Rattle.mt_replay.proofs.Keeping.Machines.{is_pending}
use Rattle.mt_replay.proofs.Keeping.States.{call_enabled, dump_here, mapping_fits}
use Rattle.mt_replay.proofs.Keeping.Windows.{grown_start}

abbrev IsBeside : Machine → Flat → Type 0
IsBeside m f = IsFlatOf m.system f

beside_event : (m : Machine) (e : MachineEvent) (f : Flat) → Arises m → IsBeside m f → IsEnabled m e → IsBeside (next m e) (flat_after m e f)
beside_event m e f a r enabled = events_keep_flat m e f (is_sound m a) r enabled

-- ---- accesses, of which a processor in an update gives nothing

busy_gives : (s : System) (k : ℕ) (o : Op) → given_access s k o done.Busy ≡ None
busy_gives s k (op.Load address) = refl
busy_gives s k (op.Store address value) = refl
busy_gives s k op.Fence = refl

pub beside_access : (m : Machine) (k : ℕ) (o : Op) (f : Flat) → Arises m → IsBeside m f → FitsOp o → IsBeside (next m (Accesses k o)) (flat_accessed m k o f)
beside_access m k o f a r fits =
    runs_or_rests m.system k (IsBeside (next m (Accesses k o)) (flat_accessed m k o f))
    (λ runs. beside_event m (Accesses k o) f a r (runs, fits))
    (λ rests. let busy = access_busy m.system k rests o in
    rw busy (rw (busy_gives m.system k o) r))

-- ---- control instructions, of which it gives nothing either

pub beside_control : (m : Machine) (k : ℕ) (c : Control) (f : Flat) → Arises m → IsBeside m f → ((p : Processor) → slice_get m.system.processors k ≡ Some p → FitsControl p c) → IsBeside (next m (Controls k c)) (flat_controlled m k c f)
beside_control m k c f a r fits =
    runs_or_rests m.system k (IsBeside (next m (Controls k c)) (flat_controlled m k c f))
    (λ runs. beside_event m (Controls k c) f a r (runs, fits))
    (λ rests. rw (control_busy m.system k rests c) r)

-- ---- steps, and the coordinator's words

beside_word : (m : Machine) (e : MachineEvent) (f : Flat) → Arises m → IsBeside m f → (go_of m ≡ Some Pending → IsEnabled m e) → flat_after m e f ≡ f → IsBeside (after_word e m) f
beside_word m e f a r enabled nothing = one (is_undecided (go_of m)) refl
  where
    one : (b : Bool) → is_undecided (go_of m) ≡ b → IsBeside (if b then next m e else m) f
    one true is = subst (IsBeside (next m e)) nothing (beside_event m e f a r (enabled (is_pending (go_of m) is)))
    one false is = r

beside_step : (m : Machine) (k : ℕ) (f : Flat) → Arises m → IsBeside m f → IsBeside (step_after m k) (flat_stepped m k f)
beside_step m k f a r = one (due_at m k) refl
  where
    one : (o : Option Event) → due_at m k ≡ o → IsBeside (option_map_or (λ e. next m (Steps k e)) o m) (option_map_or (λ e. flat_after m (Steps k e) f) o f)
    one None is = r
    one (Some e) is = beside_event m (Steps k e) f a r is

-- ---- updates

beside_update : (s : ReplayState) (f : Flat) → IsReplayState s → IsBeside s.machine f → call_fault s.machine s.goal ≡ None
    → IsBeside (updated s.machine.system (each_processor s.machine.system) s.goal) (flat_takes (each_processor s.machine.system) f)
beside_update s f h r none =
    let enabled = call_enabled s h none in
    updated_is_flat s.machine f s.goal (each_processor s.machine.system) (is_quiet_without_order s.machine h.arises enabled.0) enabled (each_once (length s.machine.system.processors)) r

beside_end : (s : ReplayState) (f : Flat) → IsReplayState s → IsBeside s.machine f → IsBeside (present_after s (command.Section End)) (flat_present s (command.Section End) f)
beside_end s f h r = one (is_update s.now.stage)
  where
    whole : (o : Option CallFault) → call_fault s.machine s.goal ≡ o
        → IsBeside (option_map_or (λ fault. s.machine) o (updated s.machine.system (each_processor s.machine.system) s.goal)) (option_map_or (λ fault. f) o (flat_takes (each_processor s.machine.system) f))
    whole None is = beside_update s f h r is
    whole (Some fault) is = r

    called : (o : Option CallFault) → IsBeside (option_map_or (λ fault. s.machine) o (next s.machine (Calls s.goal))) f
    called None = r
    called (Some fault) = r

    one : (b : Bool) → IsBeside (if b then after_update s.machine s.goal else after_call s.machine s.goal) (if b then flat_updated s.machine s.goal f else f)
    one true = whole (call_fault s.machine s.goal) refl
    one false = called (call_fault s.machine s.goal)

-- ---- windows, at the start, where each word is zero

beside_window : (flags : List Bool) (files : List RegisterFile) (ws : List Window) (w : Window) (m : Machine) (f : Flat) → m ≡ start_with flags files ws → IsBeside m f → IsBeside (grown w m) f
beside_window flags files ws w m f is r = record {
  values = λ a whole.
      ap (λ (n : Machine). now (grown w n).system a) is ∙ ap (λ (n : Machine). now n.system a) (grown_start flags files ws w) ∙ (start_is_flat flags files (ws ++ w ∷ [])).values a whole
      ∙ sym ((start_is_flat flags files ws).values a whole) ∙ ap (λ (n : Machine). now n.system a) (sym is) ∙ r.values a whole;
  pending = r.pending;
}

-- two starts show the same
beside_start : (cs bs : List Bool) (files : List RegisterFile) (ws : List Window) (n m : Machine) (f : Flat) → n ≡ start_with cs files ws → m ≡ start_with bs files ws → IsBeside m f → IsBeside n f
beside_start cs bs files ws n m f new is r = record {
  values = λ a whole.
      ap (λ (x : Machine). now x.system a) new ∙ (start_is_flat cs files ws).values a whole
      ∙ sym ((start_is_flat bs files ws).values a whole) ∙ ap (λ (x : Machine). now x.system a) (sym is) ∙ r.values a whole;
  pending = λ k.
      r.pending k ∙ ap (λ (x : Machine). map written_of (buffers_of x.system k)) is ∙ sym ((start_is_flat bs files ws).pending k)
      ∙ (start_is_flat cs files ws).pending k ∙ ap (λ (x : Machine). map written_of (buffers_of x.system k)) (sym new);
}

-- ---- commands

present_beside : (s : ReplayState) (c : Command) (f : Flat) → IsReplayState s → Fits s.now c → IsBeside s.machine f → IsBeside (present_after s c) (flat_present s c f)
present_beside s (command.Ram base lines) f h fits r =
    let dump = dump_here s.now h.situation h.past in
    beside_window (flags_of s.machine.system) (files_for s.now.cpus dump.0) (windows_of s.now) (window base lines) s.machine f (h.fresh dump.0 dump.1 fits.0).1 r
present_beside s (command.Selfsnoop k) f h fits r =
    let dump = dump_here s.now h.situation h.past in
    let files : List RegisterFile = files_for s.now.cpus dump.0 in
    let fresh = (h.fresh dump.0 dump.1 fits.0).1 in
    beside_start (flags_of (snooped k s.machine).system) (flags_of s.machine.system) files (windows_of s.now) (snooped k s.machine) s.machine f (snooped_start k s.machine files (windows_of s.now) fresh) fresh r
present_beside s (command.Ask k (ask.Load address)) f h fits r = beside_access s.machine k (op.Load address) f h.arises r fits.1
present_beside s (command.Ask k (ask.Store address value)) f h fits r = beside_access s.machine k (op.Store address value) f h.arises r fits.1
present_beside s (command.Ask k ask.Fence) f h fits r = beside_access s.machine k op.Fence f h.arises r tt
present_beside s (command.Ask k (ask.Map x)) f h fits r = beside_control s.machine k (control_of.Map (mapping x)) f h.arises r (mapping_fits s h k x fits.1.0.1 fits.1.1.1 fits.1.2)
present_beside s (command.Ask k (ask.Invlpg address)) f h fits r = beside_control s.machine k (control_of.Invlpg address) f h.arises r (λ p at. tt)
present_beside s (command.Ask k ask.Cr3) f h fits r = beside_control s.machine k control_of.Cr3 f h.arises r (λ p at. tt)
present_beside s (command.Ask k (ask.Pge on)) f h fits r = beside_control s.machine k (control_of.Pge on) f h.arises r (λ p at. tt)
present_beside s (command.Ask k (ask.Cd on)) f h fits r = beside_control s.machine k (control_of.Cd on) f h.arises r (λ p at. tt)
present_beside s command.Go f h fits r = beside_word s.machine Goes f h.arises r (λ pending. pending) refl
present_beside s command.Cancel f h fits r = beside_word s.machine Cancels f h.arises r (λ pending. pending) refl
present_beside s (command.Ask k ask.Step) f h fits r = beside_step s.machine k f h.arises r
present_beside s (command.Newcomer Up) f h fits r = beside_up s.machine f r
present_beside s (command.Newcomer Join) f h fits r = beside_join s.machine f h.arises h.some r
present_beside s command.Retire f h fits r = beside_retire s.machine f h.arises h.some r
present_beside s (command.Section End) f h fits r = beside_end s f h r
present_beside s other f h fits r = r

pub command_beside : (s : ReplayState) (c : Command) (f : Flat) → IsReplayState s → Fits s.now c → IsBeside s.machine f → IsBeside (machine_after s c) (flat_command s c f)
command_beside s c f h fits r = one (is_absent s.machine c)
  where
    one : (b : Bool) → IsBeside (if b then s.machine else present_after s c) (if b then f else flat_present s c f)
    one true = r
    one false = present_beside s c f h fits r
