-- Each command that fits keeps what every state keeps.
use Rattle.std.proofs.Common.{◌≡◌, ◌≢◌, ◌∙◌, ap, sym, refl, subst, arith, ℕ, ◌-◌, ◌/◌, ◌%◌, ◌^◌, ◌<◌, ◌≤◌, Bool, true, false, if◌then◌else◌, List, [], ◌∷◌, ◌++◌, Option, None, Some, slice_get, Ok}
use Rattle.mt_replay.proofs.Keeping.Snooping.{snooped_risen, snooped_start}
use Rattle.mt_laws.proofs.Invariant.Snooping.{each_snooping, snooping_stays_quiet}
use Rattle.mt_laws.proofs.Barrier.Still.{change_memory}
use Rattle.mt_laws.specs.Kept.{flags_of}
use Rattle.mt_laws.specs.Settled.{IsFresh}
use Rattle.std.specs.Prelude.{IfSome, is_some, map}
use Rattle.std.specs.Option.{option_map, option_map_or}
use Rattle.std.specs.List.{All}
use Rattle.std.specs.Result.{IfOk}
use Rattle.mt_ranges.proofs.Powers.{split}
use Rattle.mt_regs.specs.declared.fault.Fault.{Fault}
use Rattle.mt_regs.specs.RegisterFile.{RegisterFile, IsRegisterFile}
use Rattle.mt_regs.specs.Registers.{register_of, with_value, written}
use Rattle.mt_regs.specs.Faults.{IsAccepted, IsFirstFault}
use Rattle.mt_regs.specs.declared.registers.Register.{Register}
use Rattle.mt_regs.proofs.ByNumber.{is_file-written}
use Rattle.mt_machine.specs.declared.op.Op.{Op}
use Rattle.mt_machine.specs.declared.op.Op.TheVariants as op
use Rattle.mt_machine.specs.declared.control.Control.{Control}
use Rattle.mt_machine.specs.declared.control.Control.TheVariants as control_of
use Rattle.mt_machine.specs.Memory.{Window, Memory}
use Rattle.mt_machine.specs.System.{IsProcessor, Processor, snooping}
use Rattle.mt_machine.specs.Machine.{Accesses, Calls, Cancels, Controls, FitsControl, FitsGoal, FitsOp, Goes, IsEnabled, Machine, Order, Reached, at_start, next}
use Rattle.mt_machine.specs.Start.{IsQuiet, start_with}
use Rattle.mt_machine.specs.Update.{updated}
use Rattle.mt_laws.proofs.Barrier.Claims.{all_get, all_of}
use Rattle.mt_ram.specs.Windows.{window, with_window}
use Rattle.mt_core.specs.Arises.{Arises, by_window, grown, by_snooping, snooped}
use Rattle.mt_core.specs.Steps.{step_after}
use Rattle.mt_core.specs.declared.fault.CallFault.{CallFault}
use Rattle.mt_core.specs.declared.fault.CallFault.TheVariants.{Refused, UnderWay}
use Rattle.mt_core.proofs.Settling.{is_quiet_without_order}
use Rattle.mt_core.proofs.Stepping.{is_sound, stands}
use Rattle.mt_dump.specs.Dumps.{Dump, IsDump, first_file as first_file_of}
use Rattle.mt_dump.specs.ForProcessors.{files_for}
use Rattle.mt_script.specs.Situation.{Situation, file_of}
use Rattle.mt_script.specs.Numbers.{address_limit, has_room}
use Rattle.mt_script.specs.Kept.{IsSituation}
use Rattle.mt_script.specs.Stages.{is_in_dump, is_past_dump, takes_cpus, takes_dump, takes_registers, takes_windows}
use Rattle.mt_script.specs.Accept.{Fits, FitsAsk, accepted, in_commands, in_motion, in_section_of}
use Rattle.mt_script.specs.declared.command.Stage.{Stage}
use Rattle.mt_script.specs.declared.command.Stage.TheVariants.{NeedCpus, NeedDump, InDump, Rams, Commands, InUpdate, InBegin}
use Rattle.mt_script.specs.declared.command.Command.{Command}
use Rattle.mt_script.specs.declared.command.Command.TheVariants as command
use Rattle.mt_script.specs.declared.command.Section.TheVariants as section
use Rattle.mt_script.specs.declared.command.Ask.{Ask}
use Rattle.mt_script.specs.declared.command.Ask.TheVariants as ask
use Rattle.mt_script.specs.declared.command.Mapped.{Mapped}
use Rattle.mt_script.specs.Commands.{command_of}
use Rattle.mt_script.proofs.Fitting.{command_fits}
use Rattle.mt_script.proofs.Keeping.{accepted_is}
use Rattle.mt_replay.specs.FirstFault.{first_fault}
use Rattle.mt_replay.specs.Kept.{CommandsKeep, IsReplayState, windows_of, start_like}
use Rattle.mt_replay.specs.ReplayState.{ReplayState, after_call, after_newcomer, after_retire, after_update, after_word, call_fault, each_processor, first_file, is_absent, is_update, machine_after, mapping, state_after, with_register}
use Rattle.mt_dump.proofs.ForProcessors.{first_file_is as first_is_file}
use Rattle.mt_replay.proofs.FirstFault.{first_fault_is_first}
use Rattle.mt_replay.proofs.Keeping.Absent.{absent_now, present_state, state_absent, state_there}
use Rattle.mt_replay.proofs.Keeping.Kinds.{fits_with_value}
use Rattle.mt_replay.proofs.Keeping.Machines.{ComesFrom, follows_access, follows_control, follows_event, follows_same, follows_step, follows_update, follows_word}
use Rattle.mt_replay.proofs.Keeping.Moving.{Moves, came_on, moves_newcomer, moves_retire, no_older_now, rests_now}
use Rattle.mt_replay.proofs.Keeping.Windows.{grown_start, memory_is_quiet, room_memory, windows_then}

-- what a line is read as fits
pub command_known : (now : Situation) (number : ℕ) (line : List ℕ) (c : Command) → command_of now number line ≡ Ok c → Fits now c
command_known now number line c is = subst (λ answer. IfOk answer (Fits now)) is (command_fits now number line)

-- ---- stages

not_cpus : (stage : Stage) → is_past_dump stage ≡ true → takes_cpus stage ≡ true → ⊥
not_cpus NeedCpus past takes = cc past
not_cpus other past takes = cc takes

not_dump : (stage : Stage) → is_past_dump stage ≡ true → takes_dump stage ≡ true → ⊥
not_dump NeedDump past takes = cc past
not_dump other past takes = cc takes

not_in_dump : (stage : Stage) → is_past_dump stage ≡ true → is_in_dump stage ≡ true → ⊥
not_in_dump InDump past is = cc past
not_in_dump other past is = cc is

no_windows : (stage : Stage) → takes_registers stage ≡ true → takes_windows stage ≡ true → ⊥
no_windows Rams registers windows = cc registers
no_windows other registers windows = cc windows

-- ---- a state by the machine that follows

-- no window may be added in this stage
abbrev TakesNone : Stage → Type 0
TakesNone stage = takes_windows stage ≡ true → ⊥

pub dump_here : (now : Situation) → IsSituation now → is_past_dump now.stage ≡ true → (d : Dump) × (now.dump ≡ Some d) × IsDump d
dump_here now is past = one now.dump refl (is.has_dump ∙ past) is.dump
  where
    one : (o : Option Dump) → now.dump ≡ o → is_some o ≡ true → IfSome o IsDump → (d : Dump) × (now.dump ≡ Some d) × IsDump d
    one None same some dump = absurd (cc some)
    one (Some d) same some dump = (d, same, dump)

-- processor 0's file
pub first_here : (now : Situation) → IsSituation now → is_past_dump now.stage ≡ true → (f : RegisterFile) × (file_of now ≡ Some f) × IsRegisterFile f
first_here now is past = let (d, same, good) = dump_here now is past in (first_file_of d, ap (option_map first_file_of) same, first_is_file d good)

-- the start stays the same while no window is added, and no processor becomes self-snooping
same_start : (now was : Situation) (m n : Machine) (d : Dump) → now.cpus ≡ was.cpus → now.windows ≡ was.windows → flags_of n.system ≡ flags_of m.system
    → start_with (flags_of m.system) (files_for was.cpus d) (windows_of was) ≡ start_with (flags_of n.system) (files_for now.cpus d) (windows_of now)
same_start now was m n d cpus windows flags = λ i. start_with (sym flags i) (files_for (sym cpus i) d) (map (λ (w : ℕ × ℕ). window w.0 w.1) (sym windows i))

-- with the same windows, and no window to come
state_on : (s : ReplayState) (now : Situation) (n : Machine) (goal : RegisterFile) → IsReplayState s → IsSituation now → is_past_dump now.stage ≡ true
    → now.moving ≡ s.now.moving → now.cpus ≡ s.now.cpus → now.dump ≡ s.now.dump → now.windows ≡ s.now.windows → TakesNone now.stage → ComesFrom s.machine n → IsRegisterFile goal → All (FitsGoal goal) s.machine.system.processors
    → IsReplayState (record { now = now; machine = n; goal = goal })
state_on s now n goal h is past moving cpus dump windows none follows good fits = record {
  situation = is;
  past = past;
  arises = follows.arises;
  came = came_on s.machine n h.came follows;
  some = omega (arith, h.some, follows.risen.same_number);
  few = omega (arith, h.few, follows.risen.same_number);
  count = λ still. follows.risen.same_number ∙ h.count (sym moving ∙ still) ∙ sym cpus;
  kind = λ d same. follows.fits (first_file_of d) (h.kind d (sym dump ∙ same));
  goal_file = good;
  goal = follows.fits goal fits;
  windows = follows.windows ∙ h.windows ∙ ap windows_in (sym windows);
  quiet = λ still d same. subst IsQuiet (same_start now s.now s.machine n d cpus windows follows.flags) (h.quiet (sym moving ∙ still) d (sym dump ∙ same));
  reached = λ still d same.
      subst (λ (m : Machine). Reached m n) (same_start now s.now s.machine n d cpus windows follows.flags) (follows.reached (start_like s d) (h.reached (sym moving ∙ still) d (sym dump ∙ same)));
  fresh = λ d same takes. absurd (none takes);
}
  where
    windows_in : List (ℕ × ℕ) → List Window
    windows_in ws = windows_of (record s.now { windows = ws })

-- ---- calls of an update

abbrev fault_in : Option Order → Option Fault → Option CallFault
fault_in o fault = if is_some o then Some UnderWay else option_map Refused fault

-- where a call is refused nothing, no update is under way and the goal has no fault
pub call_allowed : (m : Machine) (goal : RegisterFile) → call_fault m goal ≡ None → (m.order ≡ None) × (first_fault goal ≡ None)
call_allowed m goal h = one m.order (first_fault goal) refl refl h
  where
    one : (o : Option Order) (fault : Option Fault) → m.order ≡ o → first_fault goal ≡ fault → fault_in o fault ≡ None → (m.order ≡ None) × (first_fault goal ≡ None)
    one None None order first is = (order, first)
    one None (Some fault) order first is = absurd (cc is)
    one (Some o) fault order first is = absurd (cc is)

pub accepted_of : (goal : RegisterFile) → first_fault goal ≡ None → IsAccepted goal
accepted_of goal none = subst (IsFirstFault goal) none (first_fault_is_first goal)

pub call_enabled : (s : ReplayState) → IsReplayState s → call_fault s.machine s.goal ≡ None → IsEnabled s.machine (Calls s.goal)
call_enabled s h none = let allowed = call_allowed s.machine s.goal none in (allowed.0, h.goal_file, accepted_of s.goal allowed.1, h.goal)

follows_called : (s : ReplayState) (n : Machine) → IsReplayState s → (IsEnabled s.machine (Calls s.goal) → ComesFrom s.machine n) → ComesFrom s.machine (option_map_or (λ fault. s.machine) (call_fault s.machine s.goal) n)
follows_called s n h later = one (call_fault s.machine s.goal) refl
  where
    one : (o : Option CallFault) → call_fault s.machine s.goal ≡ o → ComesFrom s.machine (option_map_or (λ fault. s.machine) o n)
    one None is = later (call_enabled s h is)
    one (Some fault) is = follows_same s.machine h.arises

pub follows_end : (s : ReplayState) → IsReplayState s → ComesFrom s.machine (machine_after s (command.Section section.End))
follows_end s h = one (is_update s.now.stage)
  where
    one : (b : Bool) → ComesFrom s.machine (if b then after_update s.machine s.goal else after_call s.machine s.goal)
    one true = follows_called s (updated s.machine.system (each_processor s.machine.system) s.goal) h (follows_update s.machine s.goal h.arises)
    one false = follows_called s (next s.machine (Calls s.goal)) h (follows_event s.machine (Calls s.goal) h.arises)

-- ---- goals

module _ (s : ReplayState) (h : IsReplayState s) where
  file_here : (o : Option Processor) → slice_get s.machine.system.processors 0 ≡ o → IsRegisterFile (option_map_or (λ p. p.file) o s.goal)
  file_here None at = h.goal_file
  file_here (Some p) at = (all_get IsProcessor s.machine.system.processors (is_sound s.machine h.arises).each 0 p at).register_file

  fits_here : (o : Option Processor) → slice_get s.machine.system.processors 0 ≡ o → All (FitsGoal (option_map_or (λ p. p.file) o s.goal)) s.machine.system.processors
  fits_here None at = h.goal
  fits_here (Some p) at =
      let own = all_get (FitsGoal s.goal) s.machine.system.processors h.goal 0 p at in
      all_of (FitsGoal p.file) s.machine.system.processors
      (λ i q at_q. let fits = all_get (FitsGoal s.goal) s.machine.system.processors h.goal i q at_q in
      record { width = sym own.width ∙ fits.width; capabilities = sym own.capabilities ∙ fits.capabilities })

  pub first_file_is : IsRegisterFile (first_file s)
  first_file_is = file_here (slice_get s.machine.system.processors 0) refl

  first_file_fits : All (FitsGoal (first_file s)) s.machine.system.processors
  first_file_fits = fits_here (slice_get s.machine.system.processors 0) refl

  register_is : (number value : ℕ) (o : Option RegisterFile) → written s.goal number value ≡ o → IsRegisterFile (option_map_or (λ f. f) o s.goal)
  register_is number value None is = h.goal_file
  register_is number value (Some f) is = is_file-written s.goal f number value h.goal_file is

  register_fits : (value : ℕ) (r : Option Register) → All (FitsGoal (option_map_or (λ f. f) (option_map (λ r. with_value s.goal r value) r) s.goal)) s.machine.system.processors
  register_fits value None = h.goal
  register_fits value (Some r) =
      all_of (FitsGoal (with_value s.goal r value)) s.machine.system.processors
      (λ i q at. fits_with_value s.goal r value q (all_get (FitsGoal s.goal) s.machine.system.processors h.goal i q at))

  -- ---- commands

  not_end : (c : Command) → is_in_dump s.now.stage ≡ true → c ≢ command.Section section.End
  not_end c dump = absurd (not_in_dump s.now.stage h.past dump)

  is_after : (c : Command) → Fits s.now c → IsSituation (accepted s.now c)
  is_after c fits = accepted_is s.now h.situation c fits (not_end c)

  -- a command among the commands
  goes_on : (n : Machine) → IsSituation (in_commands s.now) → ComesFrom s.machine n → IsReplayState (record { now = in_commands s.now; machine = n; goal = s.goal })
  goes_on n is follows = state_on s (in_commands s.now) n s.goal h is refl refl refl refl refl (λ takes. cc takes) follows h.goal_file h.goal

  accesses : (k : ℕ) (o : Op) → FitsOp o → IsSituation (in_commands s.now) → IsReplayState (record { now = in_commands s.now; machine = next s.machine (Accesses k o); goal = s.goal })
  accesses k o fits is = goes_on (next s.machine (Accesses k o)) is (follows_access s.machine k o h.arises fits)

  controls : (k : ℕ) (c : Control) → ((p : Processor) → slice_get s.machine.system.processors k ≡ Some p → FitsControl p c) → IsSituation (in_commands s.now)
      → IsReplayState (record { now = in_commands s.now; machine = next s.machine (Controls k c); goal = s.goal })
  controls k c fits is = goes_on (next s.machine (Controls k c)) is (follows_control s.machine k c h.arises fits)

  stays : IsSituation (in_commands s.now) → IsReplayState (record { now = in_commands s.now; machine = s.machine; goal = s.goal })
  stays is = goes_on s.machine is (follows_same s.machine h.arises)

  -- a processor may come or go
  in_flux : (n : Machine) → IsSituation (in_motion s.now) → Moves s.machine n → IsReplayState (record { now = in_motion s.now; machine = n; goal = s.goal })
  in_flux n is moves = record {
    situation = is;
    past = refl;
    arises = moves.arises;
    came = moves.came;
    some = moves.some;
    few = moves.few;
    count = λ still. absurd (cc still);
    kind = λ d same. moves.fits (first_file_of d) (h.kind d same);
    goal_file = h.goal_file;
    goal = moves.fits s.goal h.goal;
    windows = moves.windows ∙ h.windows;
    quiet = λ still. absurd (cc still);
    reached = λ still. absurd (cc still);
    fresh = λ d same takes. absurd (cc takes);
  }

  begins : (stage : Stage) → is_past_dump stage ≡ true → TakesNone stage → IsSituation (in_section_of stage s.now) → IsReplayState (record { now = in_section_of stage s.now; machine = s.machine; goal = first_file s })
  begins stage past none is = state_on s (in_section_of stage s.now) s.machine (first_file s) h is past refl refl refl refl none (follows_same s.machine h.arises) first_file_is first_file_fits

  -- a page of the processor's physical addresses
  page_in : (physical w v : ℕ) → 12 ≤ w → w ≡ v → physical < 2 ^ w → physical / 4096 < 2 ^ (v - 12)
  page_in physical w v wide same below =
      let parts = split 12 w wide in
      let width : w - 12 ≡ v - 12 = ap (λ n. n - 12) same in
      subst (λ (n : ℕ). physical / 4096 < 2 ^ n) width (omega (arith, parts, below))

  pub mapping_fits : (k : ℕ) (x : Mapped) → x.address < 2 ^ 48 → x.physical < address_limit (file_of s.now) → x.index ≤ 7
      → (p : Processor) → slice_get s.machine.system.processors k ≡ Some p → FitsControl p (control_of.Map (mapping x))
  mapping_fits k x low within few p at =
      let dump = dump_here s.now h.situation h.past in
      let f : RegisterFile = first_file_of dump.0 in
      let fits = all_get (FitsGoal f) s.machine.system.processors (h.kind dump.0 dump.1) k p at in
      let below : x.physical < 2 ^ f.width = subst (λ (o : Option Dump). x.physical < address_limit (option_map first_file_of o)) dump.1 within in
      let wide = (first_is_file dump.0 dump.2).wide in
      (omega arith, page_in x.physical f.width p.file.width (omega arith) fits.width below, omega arith)

  grows : (base lines : ℕ) → takes_windows s.now.stage ≡ true → base % 64 ≡ 0 → 0 < lines → has_room s.now base lines ≡ true → IsSituation (accepted s.now (command.Ram base lines)) → IsReplayState (state_after s (command.Ram base lines))
  grows base lines windows aligned some room is =
      let file = first_here s.now h.situation h.past in
      let memory = room_memory s.now file.0 s.machine.system.memory base lines file.1 file.2 (stands h.arises).0 h.windows some aligned room in
      let ws : List Window = windows_of (accepted s.now (command.Ram base lines)) in
      let together : s.machine.system.memory.windows ++ window base lines ∷ [] ≡ ws = ap (λ ws. ws ++ window base lines ∷ []) h.windows ∙ sym (windows_then s.now base lines) in
      let started : (d : Dump) → s.now.dump ≡ Some d → grown (window base lines) s.machine ≡ start_with (flags_of s.machine.system) (files_for s.now.cpus d) ws =
      λ d same.
      ap (grown (window base lines)) (h.fresh d same windows).1 ∙ grown_start (flags_of s.machine.system) (files_for s.now.cpus d) (windows_of s.now) (window base lines)
      ∙ ap (start_with (flags_of s.machine.system) (files_for s.now.cpus d)) (sym (windows_then s.now base lines)) in
      let quiet : (d : Dump) → s.now.dump ≡ Some d → IsQuiet (start_with (flags_of s.machine.system) (files_for s.now.cpus d) ws) =
      λ d same. memory_is_quiet (flags_of s.machine.system) (files_for s.now.cpus d) (with_window (window base lines) s.machine.system.memory) ws memory together (h.fresh d same windows).0 in
      let dump = dump_here s.now h.situation h.past in
      let arises : Arises (grown (window base lines) s.machine) = by_window (window base lines) h.arises memory in
      record {
        situation = is;
        past = h.past;
        arises = arises;
        came = rests_now (grown (window base lines) s.machine) (subst IsQuiet (sym (started dump.0 dump.1)) (quiet dump.0 dump.1)) arises (no_older_now s.machine h.came);
        some = h.some;
        few = h.few;
        count = h.count;
        kind = h.kind;
        goal_file = h.goal_file;
        goal = h.goal;
        windows = together;
        quiet = λ still d same. quiet d same;
        reached = λ still d same. subst (Reached (start_with (flags_of s.machine.system) (files_for s.now.cpus d) ws)) (sym (started d same)) at_start;
        fresh = λ d same takes. ((h.fresh d same windows).0, started d same);
      }

  -- a processor that becomes self-snooping before the first command
  snoops : (k : ℕ) → takes_windows s.now.stage ≡ true → IsReplayState (state_after s (command.Selfsnoop k))
  snoops k windows =
      let dump = dump_here s.now h.situation h.past in
      let fresh : (d : Dump) → s.now.dump ≡ Some d → s.machine ≡ start_like s d = λ d same. (h.fresh d same windows).1 in
      let none : s.machine.order ≡ None = ap (λ (m : Machine). m.order) (fresh dump.0 dump.1) in
      let fits : (f : RegisterFile) → All (FitsGoal f) s.machine.system.processors → All (FitsGoal f) (snooped k s.machine).system.processors =
      λ f all. each_snooping (FitsGoal f) (λ p c. record { width = c.width; capabilities = c.capabilities }) k s.machine.system all in
      let started : (d : Dump) → s.now.dump ≡ Some d → snooped k s.machine ≡ start_like (state_after s (command.Selfsnoop k)) d =
      λ d same. snooped_start k s.machine (files_for s.now.cpus d) (windows_of s.now) (fresh d same) in
      let arises : Arises (snooped k s.machine) = by_snooping k h.arises none in
      let older = each_snooping IsFresh (λ p c. record { lines = c.lines; buffers = c.buffers; entries = c.entries }) k s.machine.system (no_older_now s.machine h.came) in
      let number = (snooped_risen k s.machine.system).same_number in
      record {
        situation = h.situation;
        past = h.past;
        arises = arises;
        came = rests_now (snooped k s.machine) (snooping_stays_quiet s.machine k (is_quiet_without_order s.machine h.arises none)) arises older;
        some = omega (arith, h.some, number);
        few = omega (arith, h.few, number);
        count = λ still. number ∙ h.count still;
        kind = λ d same. fits (first_file_of d) (h.kind d same);
        goal_file = h.goal_file;
        goal = fits s.goal h.goal;
        windows = ap (λ (m : Memory). m.windows) (change_memory snooping k s.machine.system) ∙ h.windows;
        quiet = λ still d same. subst IsQuiet (started d same) (snooping_stays_quiet s.machine k (is_quiet_without_order s.machine h.arises none));
        reached = λ still d same. subst (λ (m : Machine). Reached m (snooped k s.machine)) (started d same) at_start;
        fresh = λ d same takes. ((h.fresh d same windows).0, started d same);
      }

  kept_asked : (k : ℕ) (a : Ask) → FitsAsk s.now a → IsSituation (in_commands s.now) → IsReplayState (present_state s (command.Ask k a))
  kept_asked k (ask.Load address) fits is = accesses k (op.Load address) fits is
  kept_asked k (ask.Store address value) fits is = accesses k (op.Store address value) fits is
  kept_asked k ask.Fence fits is = accesses k op.Fence tt is
  kept_asked k (ask.Map x) fits is = controls k (control_of.Map (mapping x)) (mapping_fits k x fits.0.1 fits.1.1 fits.2) is
  kept_asked k (ask.Invlpg address) fits is = controls k (control_of.Invlpg address) (λ p at. tt) is
  kept_asked k ask.Cr3 fits is = controls k control_of.Cr3 (λ p at. tt) is
  kept_asked k (ask.Pge on) fits is = controls k (control_of.Pge on) (λ p at. tt) is
  kept_asked k (ask.Cd on) fits is = controls k (control_of.Cd on) (λ p at. tt) is
  kept_asked k ask.Step fits is = goes_on (step_after s.machine k) is (follows_step s.machine k h.arises)
  kept_asked k (ask.Msr number) fits is = stays is

  kept_there : (c : Command) → Fits s.now c → IsSituation (accepted s.now c) → IsReplayState (present_state s c)
  kept_there command.Blank fits is = h
  kept_there (command.Cpus n) fits is = absurd (not_cpus s.now.stage h.past fits.0)
  kept_there command.Dump fits is = absurd (not_dump s.now.stage h.past fits)
  kept_there command.DumpLine fits is = absurd (not_in_dump s.now.stage h.past fits)
  kept_there (command.Ram base lines) fits is = grows base lines fits.0 fits.1 (omega (arith, fits.2)) fits.4 is
  kept_there (command.Selfsnoop k) fits is = snoops k fits.0
  kept_there (command.Section section.Update) fits is = begins InUpdate refl (λ takes. cc takes) is
  kept_there (command.Section section.Begin) fits is = begins InBegin refl (λ takes. cc takes) is
  kept_there (command.Section (section.Register number value)) fits is =
      state_on s (accepted s.now (command.Section (section.Register number value))) s.machine (with_register s.goal number value) h is h.past refl refl refl refl (no_windows s.now.stage fits.0) (follows_same s.machine h.arises)
      (register_is number value (written s.goal number value) refl) (register_fits value (register_of s.goal number))
  kept_there (command.Section section.End) fits is =
      state_on s (in_section_of Commands s.now) (machine_after s (command.Section section.End)) s.goal h is refl refl refl refl refl (λ takes. cc takes) (follows_end s h) h.goal_file h.goal
  kept_there (command.Ask k a) fits is = kept_asked k a fits.1 is
  kept_there (command.Newcomer n) fits is = in_flux (after_newcomer s.machine n) is (moves_newcomer s.machine h.arises h.came h.some h.few n)
  kept_there command.Retire fits is = in_flux (after_retire s.machine) is (moves_retire s.machine h.arises h.came h.some h.few)
  kept_there command.Go fits is = goes_on (after_word Goes s.machine) is (follows_word s.machine Goes h.arises (λ pending. pending))
  kept_there command.Cancel fits is = goes_on (after_word Cancels s.machine) is (follows_word s.machine Cancels h.arises (λ pending. pending))
  kept_there command.Report fits is = stays is
  kept_there (command.Word address) fits is = stays is

  kept : (c : Command) → Fits s.now c → IsReplayState (state_after s c)
  kept c fits = one (is_absent s.machine c) refl
    where
      one : (b : Bool) → is_absent s.machine c ≡ b → IsReplayState (state_after s c)
      one true is = subst IsReplayState (sym (state_absent s c is)) (stays (subst IsSituation (absent_now s c is) (is_after c fits)))
      one false is = subst IsReplayState (sym (state_there s c is)) (kept_there c fits (is_after c fits))

pub state_kept : CommandsKeep
state_kept s c h fits = kept s h c fits
