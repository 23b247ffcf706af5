-- A script between two lines after its dump: what stands set up, the machine, and what a command writes and leaves (own).
--     effect state command      what the command writes and leaves where its processor is there
--     command_text state command      what the command writes
--     state_after state command      what it leaves
use Rattle.std.specs.Prelude.{ℕ, ◌/◌, ◌&&◌, nat_lt, not, Bool, true, false, List, [], length, if◌then◌else◌, slice_get, Option, None, Some, is_some}
use Rattle.std.specs.Option.{option_map, option_map_or}
use Rattle.mt_kinds.specs.Sizes.{page_bytes}
use Rattle.mt_regs.specs.RegisterFile.{RegisterFile}
use Rattle.mt_regs.specs.Registers.{value_at, written}
use Rattle.mt_tlb.specs.declared.mapping.Mapping.{Mapping}
use Rattle.mt_machine.specs.declared.go.Go.{Go}
use Rattle.mt_machine.specs.declared.go.Go.TheVariants.{Pending}
use Rattle.mt_machine.specs.declared.op.Op.{Op}
use Rattle.mt_machine.specs.declared.op.Op.TheVariants as op
use Rattle.mt_machine.specs.declared.control.Control.{Control}
use Rattle.mt_machine.specs.declared.control.Control.TheVariants as control_of
use Rattle.mt_machine.specs.Memory.{Memory, place, word_at}
use Rattle.mt_machine.specs.System.{Processor, System}
use Rattle.mt_machine.specs.Access.{access}
use Rattle.mt_machine.specs.Control.{control}
use Rattle.mt_machine.specs.Machine.{Accesses, Calls, Cancels, Controls, Goes, Machine, MachineEvent, common_era, go_of, next}
use Rattle.mt_machine.specs.Start.{start_machine}
use Rattle.mt_machine.specs.ComingAndGoing.{last_number, without_last}
use Rattle.mt_machine.specs.Update.{updated}
use Rattle.mt_ram.specs.Windows.{window}
use Rattle.mt_admit.specs.Admission.{admitted, brought_up}
use Rattle.mt_core.specs.Arises.{grown, snooped}
use Rattle.mt_core.specs.Rounds.{ascending}
use Rattle.mt_core.specs.Steps.{step_after, step_answer}
use Rattle.mt_core.specs.declared.fault.CallFault.{CallFault}
use Rattle.mt_core.specs.declared.fault.CallFault.TheVariants.{Refused, UnderWay}
use Rattle.mt_dump.specs.Dumps.{Dump, first_file as first_file_of}
use Rattle.mt_dump.specs.ForProcessors.{files_for}
use Rattle.mt_script.specs.Situation.{Situation}
use Rattle.mt_script.specs.Accept.{accepted, finished}
use Rattle.mt_script.specs.declared.command.Stage.{Stage}
use Rattle.mt_script.specs.declared.command.Stage.TheVariants.{InUpdate}
use Rattle.mt_script.specs.declared.command.Command.{Command}
use Rattle.mt_script.specs.declared.command.Command.TheVariants as command
use Rattle.mt_script.specs.declared.command.Section.TheVariants.{Update, Begin, Register, End}
use Rattle.mt_script.specs.declared.command.Ask.{Ask}
use Rattle.mt_script.specs.declared.command.Ask.TheVariants as ask
use Rattle.mt_script.specs.declared.command.Mapped.{Mapped}
use Rattle.mt_script.specs.declared.command.Newcomer.{Newcomer}
use Rattle.mt_script.specs.declared.command.Newcomer.TheVariants.{Up, Join}
use Rattle.mt_replay.specs.FirstFault.{first_fault}
use Rattle.mt_replay.specs.Texts.{absent_line, call_fault_line, called_line, cancel_line, complete_line, done_line, full_line, go_line, joined_line, memory_line, no_line, register_line, report_text, retired_line, ruled_line, stepped_line, under_way_line, up_line}

pub record ReplayState : Type 0 where
  pub now : Situation
  pub machine : Machine
  pub goal : RegisterFile  -- of the section that is read, so far

-- after the dump, whose files are accepted; each processor begins with its own
abbrev pub first_state : Situation → Dump → ReplayState
first_state now dump = record { now = finished now dump; machine = start_machine (files_for now.cpus dump) []; goal = first_file_of dump }

-- ---- accesses and control instructions

abbrev pub accessed_line : Machine → ℕ → Op → List ℕ
accessed_line m k o = done_line (access m.system k o).answer

abbrev pub controlled_line : Machine → ℕ → Control → List ℕ
controlled_line m k c = ruled_line (control m.system k c).answer

-- addresses are of bytes, and a mapping is of pages
abbrev pub mapping : Mapped → Mapping
mapping x = record { vpage = x.address / page_bytes; ppage = x.physical / page_bytes; index = x.index; global = x.global }

-- ---- updates

-- an update under way comes before a fault of the goal
abbrev pub call_fault : Machine → RegisterFile → Option CallFault
call_fault m goal = if is_some m.order then Some UnderWay else option_map Refused (first_fault goal)

-- the processors' numbers, in ascending order
abbrev pub each_processor : System → List ℕ
each_processor s = ascending (length s.processors)

-- after a whole update to the goal, in which each processor takes, in ascending order
abbrev pub after_update : Machine → RegisterFile → Machine
after_update m goal = option_map_or (λ fault. m) (call_fault m goal) (updated m.system (each_processor m.system) goal)

abbrev pub update_line : Machine → RegisterFile → List ℕ
update_line m goal =
    option_map_or call_fault_line (call_fault m goal) (complete_line (common_era (after_update m goal).system.processors))

abbrev pub after_call : Machine → RegisterFile → Machine
after_call m goal = option_map_or (λ fault. m) (call_fault m goal) (next m (Calls goal))

abbrev pub call_line : Machine → RegisterFile → List ℕ
call_line m goal = option_map_or call_fault_line (call_fault m goal) called_line

abbrev pub is_update : Stage → Bool
is_update InUpdate = true
is_update other = false

-- the coordinator has said nothing yet
abbrev pub is_undecided : Option Go → Bool
is_undecided (Some Pending) = true
is_undecided other = false

-- an event of the coordinator, where it has said nothing yet
abbrev pub after_word : MachineEvent → Machine → Machine
after_word e m = if is_undecided (go_of m) then next m e else m

-- the registers of processor k; those of none are blank
abbrev pub file_at : List Processor → ℕ → RegisterFile → RegisterFile
file_at ps k f = option_map_or (λ p. p.file) (slice_get ps k) f

-- the goal of a section begins as processor 0's registers, which no line of the section changes
abbrev pub first_file : ReplayState → RegisterFile
first_file s = file_at s.machine.system.processors 0 s.goal

abbrev pub with_register : RegisterFile → ℕ → ℕ → RegisterFile
with_register goal number value = option_map_or (λ f. f) (written goal number value) goal

-- ---- memory and registers

abbrev pub memory_word : Memory → ℕ → Option ℕ
memory_word m address = if is_some (place m address) then Some (word_at m address) else None

abbrev pub register_value : ReplayState → ℕ → ℕ → ℕ
register_value s k number = option_map_or (λ value. value) (value_at (file_at s.machine.system.processors k s.goal) number) 0

-- ---- processors that come up and go

-- none comes or goes while an update is under way
abbrev pub may_come : Machine → Bool
may_come m = not (is_some m.order) && nat_lt (length m.system.processors) 16

abbrev pub may_go : Machine → Bool
may_go m = not (is_some m.order) && nat_lt 1 (length m.system.processors)

-- why none does: an update under way comes before another cause
abbrev pub stays_line : Machine → List ℕ → List ℕ
stays_line m cause = if is_some m.order then under_way_line else cause

abbrev pub newcomer_text : Machine → Newcomer → List ℕ
newcomer_text m Up = if may_come m then up_line (length m.system.processors) else stays_line m full_line
newcomer_text m Join = if may_come m then joined_line (length m.system.processors) else stays_line m full_line

abbrev pub retire_text : Machine → List ℕ
retire_text m = if may_go m then retired_line (last_number m.system) else stays_line m no_line

abbrev pub after_newcomer : Machine → Newcomer → Machine
after_newcomer m Up = if may_come m then brought_up m else m
after_newcomer m Join = if may_come m then admitted m else m

abbrev pub after_retire : Machine → Machine
after_retire m = if may_go m then without_last m else m

-- ---- what a command does where its processor is there, and what it writes

pub record Effect : Type 0 where
  pub text : List ℕ
  pub machine : Machine

abbrev pub leads_to : List ℕ → Machine → Effect
leads_to text m = record { text = text; machine = m }

abbrev pub accessed : Machine → ℕ → Op → Effect
accessed m k o = leads_to (accessed_line m k o) (next m (Accesses k o))

abbrev pub controlled : Machine → ℕ → Control → Effect
controlled m k c = leads_to (controlled_line m k c) (next m (Controls k c))

-- what is asked of processor k
abbrev pub asked_of : ReplayState → ℕ → Ask → Effect
asked_of s k (ask.Load address) = accessed s.machine k (op.Load address)
asked_of s k (ask.Store address value) = accessed s.machine k (op.Store address value)
asked_of s k ask.Fence = accessed s.machine k op.Fence
asked_of s k (ask.Map x) = controlled s.machine k (control_of.Map (mapping x))
asked_of s k (ask.Invlpg address) = controlled s.machine k (control_of.Invlpg address)
asked_of s k ask.Cr3 = controlled s.machine k control_of.Cr3
asked_of s k (ask.Pge on) = controlled s.machine k (control_of.Pge on)
asked_of s k (ask.Cd on) = controlled s.machine k (control_of.Cd on)
asked_of s k ask.Step = leads_to (stepped_line (file_at (step_after s.machine k).system.processors k s.goal) (step_answer s.machine k)) (step_after s.machine k)
asked_of s k (ask.Msr number) = leads_to (register_line number (register_value s k number)) s.machine

abbrev pub effect : ReplayState → Command → Effect
effect s (command.Ram base lines) = leads_to [] (grown (window base lines) s.machine)
effect s (command.Selfsnoop k) = leads_to [] (snooped k s.machine)
effect s (command.Section End) =
    leads_to
    (if is_update s.now.stage then update_line s.machine s.goal else call_line s.machine s.goal)
    (if is_update s.now.stage then after_update s.machine s.goal else after_call s.machine s.goal)
effect s (command.Ask k a) = asked_of s k a
effect s (command.Newcomer n) = leads_to (newcomer_text s.machine n) (after_newcomer s.machine n)
effect s command.Retire = leads_to (retire_text s.machine) (after_retire s.machine)
effect s command.Go = leads_to (go_line (is_undecided (go_of s.machine))) (after_word Goes s.machine)
effect s command.Cancel = leads_to (cancel_line (is_undecided (go_of s.machine))) (after_word Cancels s.machine)
effect s command.Report = leads_to (report_text s.machine.system.processors) s.machine
effect s (command.Word address) = leads_to (memory_line (memory_word s.machine.system.memory address)) s.machine
effect s other = leads_to [] s.machine

abbrev pub present_text : ReplayState → Command → List ℕ
present_text s c = (effect s c).text

abbrev pub present_after : ReplayState → Command → Machine
present_after s c = (effect s c).machine

-- a line of a section changes the goal
abbrev pub goal_after : ReplayState → Command → RegisterFile
goal_after s (command.Section Update) = first_file s
goal_after s (command.Section Begin) = first_file s
goal_after s (command.Section (Register number value)) = with_register s.goal number value
goal_after s other = s.goal

-- ---- commands

-- the processor of which something is asked
abbrev pub named : Command → Option ℕ
named (command.Ask k a) = Some k
named other = None

-- it isn't there: it went, or hasn't come up yet
abbrev pub is_absent : Machine → Command → Bool
is_absent m c = option_map_or (λ k. not (nat_lt k (length m.system.processors))) (named c) false

abbrev pub command_text : ReplayState → Command → List ℕ
command_text s c = if is_absent s.machine c then absent_line else present_text s c

abbrev pub machine_after : ReplayState → Command → Machine
machine_after s c = if is_absent s.machine c then s.machine else present_after s c

abbrev pub state_after : ReplayState → Command → ReplayState
state_after s c = record { now = accepted s.now c; machine = machine_after s c; goal = goal_after s c }
