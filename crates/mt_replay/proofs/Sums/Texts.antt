-- What one line of a script writes: whole lines, of which at most one says `complete`.
use Rattle.std.proofs.Common.{◌≡◌, ap, sym, refl, subst, arith, ℕ, ◌+◌, ◌≤◌, cond, Bool, true, false, List, [], ◌∷◌, ◌++◌, codes, length, append-nil, Option, None, Some, Result, Ok, Err}
use Rattle.std.specs.Prelude.{count_by, if◌then◌else◌, is_some}
use Rattle.std.specs.Option.{option_map_or}
use Rattle.mt_regs.specs.RegisterFile.{RegisterFile}
use Rattle.mt_regs.specs.declared.fault.Fault.{Fault}
use Rattle.mt_regs.specs.Agreement.{first_refusal}
use Rattle.mt_dump.specs.Dumps.{Dump}
use Rattle.mt_machine.specs.declared.done.Done.{Done}
use Rattle.mt_machine.specs.declared.done.Done.TheVariants as done
use Rattle.mt_machine.specs.declared.ruled.Ruled.{Ruled}
use Rattle.mt_machine.specs.declared.ruled.Ruled.TheVariants as ruled
use Rattle.mt_machine.specs.declared.event.Event.{Event}
use Rattle.mt_machine.specs.declared.event.Event.TheVariants as event
use Rattle.mt_machine.specs.declared.phase.Phase.{Phase}
use Rattle.mt_machine.specs.declared.phase.Phase.TheVariants as phase
use Rattle.mt_machine.specs.declared.op.Op.{Op}
use Rattle.mt_machine.specs.declared.op.Op.TheVariants as op
use Rattle.mt_machine.specs.declared.control.Control.{Control}
use Rattle.mt_machine.specs.declared.control.Control.TheVariants as control_of
use Rattle.mt_machine.specs.Access.{access}
use Rattle.mt_machine.specs.Control.{control}
use Rattle.mt_machine.specs.Machine.{Machine, common_era, go_of}
use Rattle.mt_machine.specs.System.{Processor}
use Rattle.mt_machine.specs.Update.{dirty_count}
use Rattle.mt_core.specs.Steps.{step_after, step_answer}
use Rattle.mt_core.specs.declared.fault.CallFault.{CallFault}
use Rattle.mt_core.specs.declared.fault.CallFault.TheVariants as call
use Rattle.mt_core.specs.declared.stepped.Stepped.{Stepped}
use Rattle.mt_core.specs.declared.stepped.Stepped.TheVariants as stepped
use Rattle.mt_script.specs.declared.command.Command.{Command}
use Rattle.mt_script.specs.declared.command.Command.TheVariants as command
use Rattle.mt_script.specs.declared.command.Section.TheVariants.{End}
use Rattle.mt_script.specs.declared.command.Ask.{Ask}
use Rattle.mt_script.specs.declared.command.Ask.TheVariants as ask
use Rattle.mt_script.specs.declared.command.Newcomer.{Newcomer}
use Rattle.mt_script.specs.declared.command.Newcomer.TheVariants.{Up, Join}
use Rattle.mt_script.specs.declared.fault.ScriptFault.{ScriptFault}
use Rattle.mt_script.specs.declared.fault.Offence.{Offence}
use Rattle.mt_script.specs.declared.fault.Offence.TheVariants as offence
use Rattle.mt_script.specs.Head.{HeadStep, goes_on, head_step, offends, shows}
use Rattle.mt_script.specs.Commands.{command_of}
use Rattle.mt_script.specs.Situation.{Situation}
use Rattle.mt_output.specs.Lines.{accepted_line, dump_refused_line, line}
use Rattle.mt_script.specs.Lines.{offence_line}
use Rattle.mt_output.proofs.Inside.{IsInside, address_inside, both, decimal_inside, number_inside, one_line, plain, refused_is_line, type_inside, value_inside}
use Rattle.mt_script.proofs.OffenceLines.{offence_is_line}
use Rattle.mt_machine.specs.ComingAndGoing.{last_number}
use Rattle.mt_replay.specs.Running.{IsAt, from_line}
use Rattle.mt_replay.specs.ReplayState.{ReplayState, after_update, call_fault, call_line, command_text, file_at, is_undecided, is_update, memory_word, register_value, update_line, is_absent, may_come, may_go, present_text, retire_text, stays_line, accessed_line, asked_of, controlled_line, mapping, newcomer_text}
use Rattle.mt_replay.specs.Summary.{is_complete, updates_in}
use Rattle.mt_replay.specs.Texts.{call_fault_line, called_line, cancel_line, complete_line, done_line, event_text, go_line, have_one_file, memory_line, number_at, phase_text, processor_line, processor_lines, register_line, registers_line, report_text, ruled_line, stale_count, stepped_line, switch_text, absent_line, full_line, joined_line, no_line, retired_line, under_way_line, up_line}
use Rattle.mt_replay.specs.Transcript.{ScriptState, body_lines, head_lines, in_body, in_head, told_command, told_dump}
use Rattle.mt_stream.specs.Transcript.{Transcript}
use Rattle.mt_replay.specs.declared.line.Run.{Run}
use Rattle.mt_replay.specs.declared.line.Run.TheVariants as run
use Rattle.mt_replay.proofs.Walks.{from_body, head_leads, told_after}
use Rattle.mt_replay.proofs.Sums.Numbers.{IsWhole, both_whole, line_whole, none_whole, updates_both}

-- ---- what a line of a script writes

-- whole lines, of which at most so many say `complete`
pub record Writes (most : ℕ) (text : List ℕ) : Type 0 where
  pub whole : IsWhole text
  pub few : updates_in text ≤ most

abbrev count_of : List ℕ → ℕ
count_of text = cond (is_complete text) 1 0

counted : (text : List ℕ) → IsInside text → updates_in (line text) ≡ 0 + count_of text
counted text inside = ap (count_by is_complete) (one_line text inside)

at_most : (hit : Bool) → cond hit 1 0 ≤ 1
at_most true = omega arith
at_most false = omega arith

-- a line, and one that doesn't say so
one : {text : List ℕ} → IsInside text → Writes 1 (line text)
one {text} inside = record { whole = line_whole text; few = omega (arith, counted text inside, at_most (is_complete text)) }

other : {text : List ℕ} → IsInside text → is_complete text ≡ false → Writes 0 (line text)
other {text} inside not_so =
    let none : count_of text ≡ 0 = rw not_so refl in
    record { whole = line_whole text; few = omega (arith, counted text inside, none) }

nothing : Writes 1 []
nothing = record { whole = none_whole; few = omega arith }

more : {most : ℕ} {text : List ℕ} → most ≤ 1 → Writes most text → Writes 1 text
more few w = record { whole = w.whole; few = omega (arith, few, w.few) }

-- ---- offences and refused files

pub offence_writes : (o : Offence) → Writes 0 (offence_line o)
offence_writes o = let l = offence_is_line o in subst (Writes 0) (sym l.is) (other l.inside refl)

dump_refused_writes : (version k : ℕ) (fault : Fault) → Writes 0 (dump_refused_line version k fault)
dump_refused_writes version k fault = let l = refused_is_line version k fault in subst (Writes 0) (sym l.is) (other l.inside refl)

-- ---- commands

done_writes : (d : Done) → Writes 1 (done_line d)
done_writes (done.Value value kind) = one (both (both (both (plain (codes "value ") refl) (value_inside value)) (plain (codes " ") refl)) (type_inside kind))
done_writes (done.Stored kind) = one (both (plain (codes "stored ") refl) (type_inside kind))
done_writes done.Fenced = one (plain (codes "fenced") refl)
done_writes done.Unmapped = one (plain (codes "unmapped") refl)
done_writes done.NoRam = one (plain (codes "no ram") refl)
done_writes done.Busy = one (plain (codes "busy") refl)

ruled_writes : (r : Ruled) → Writes 1 (ruled_line r)
ruled_writes ruled.Okay = one (plain (codes "ok") refl)
ruled_writes ruled.Full = one (plain (codes "full") refl)
ruled_writes ruled.Busy = one (plain (codes "busy") refl)

go_writes : (yes : Bool) → Writes 1 (go_line yes)
go_writes true = one (plain (codes "go") refl)
go_writes false = one (plain (codes "no") refl)

cancel_writes : (yes : Bool) → Writes 1 (cancel_line yes)
cancel_writes true = one (plain (codes "cancelled") refl)
cancel_writes false = one (plain (codes "no") refl)

event_inside : (f : RegisterFile) (e : Event) → IsInside (event_text f e)
event_inside f event.Take = plain _ refl
event_inside f event.Arrive = plain _ refl
event_inside f event.Leave = plain _ refl
event_inside f event.Pass = plain _ refl
event_inside f event.SetNoFill = plain _ refl
event_inside f (event.WriteBack address value) = both (plain (codes "write-back ") refl) (address_inside address)
event_inside f event.DropLines = plain _ refl
event_inside f event.FlushTlb = plain _ refl
event_inside f event.Disable = plain _ refl
event_inside f (event.Write i) = both (plain (codes "write ") refl) (number_inside (number_at f i))
event_inside f event.Enable = plain _ refl
event_inside f event.SetNormal = plain _ refl
event_inside f event.RestorePge = plain _ refl
event_inside f event.ArriveAgain = plain _ refl
event_inside f event.Release = plain _ refl

step_writes : (f : RegisterFile) (answer : Stepped) → Writes 1 (stepped_line f answer)
step_writes f (stepped.Did e) = one (event_inside f e)
step_writes f (stepped.Waits arrived awaited) = one (both (both (both (plain (codes "waits ") refl) (decimal_inside arrived)) (plain (codes " of ") refl)) (decimal_inside awaited))
step_writes f stepped.NoUpdate = one (plain (codes "no update") refl)

memory_writes : (word : Option ℕ) → Writes 1 (memory_line word)
memory_writes None = one (plain (codes "no ram") refl)
memory_writes (Some value) = one (both (plain (codes "memory ") refl) (value_inside value))

register_writes : (number value : ℕ) → Writes 1 (register_line number value)
register_writes number value = one (both (both (number_inside number) (plain (codes " ") refl)) (value_inside value))

fault_writes : (fault : CallFault) → Writes 1 (call_fault_line fault)
fault_writes (call.Refused fault) = more (omega arith) (dump_refused_writes 1 0 fault)
fault_writes call.UnderWay = one (plain (codes "under way") refl)

complete_writes : (era : ℕ) → Writes 1 (complete_line era)
complete_writes era = one (both (plain (codes "complete ") refl) (decimal_inside era))

call_writes : (otherwise : List ℕ) (fault : Option CallFault) → Writes 1 otherwise → Writes 1 (option_map_or call_fault_line fault otherwise)
call_writes otherwise None w = w
call_writes otherwise (Some fault) w = fault_writes fault

-- ---- reports

phase_inside : (p : Phase) → IsInside (phase_text p)
phase_inside phase.Running = plain _ refl
phase_inside phase.Taken = plain _ refl
phase_inside phase.Arrived = plain _ refl
phase_inside phase.Passed = plain _ refl
phase_inside phase.NoFill = plain _ refl
phase_inside phase.Flushed = plain _ refl
phase_inside phase.TlbFlushed = plain _ refl
phase_inside (phase.Writing i) = plain _ refl
phase_inside phase.Enabled = plain _ refl
phase_inside phase.Flushed2 = plain _ refl
phase_inside phase.TlbFlushed2 = plain _ refl
phase_inside phase.Normal = plain _ refl
phase_inside phase.Restored = plain _ refl
phase_inside phase.Arrived2 = plain _ refl

switch_inside : (on : Bool) → IsInside (switch_text on)
switch_inside true = plain _ refl
switch_inside false = plain _ refl

processor_writes : (k : ℕ) (p : Processor) → Writes 0 (processor_line k p)
processor_writes k p =
    let named = both (both (both (plain (codes "cpu ") refl) (decimal_inside k)) (plain (codes " ") refl)) (phase_inside p.phase) in
    let era = both (both named (plain (codes " era ") refl)) (decimal_inside p.era) in
    let lines = both (both era (plain (codes " lines ") refl)) (decimal_inside (length p.lines)) in
    let dirty = both (both lines (plain (codes " dirty ") refl)) (decimal_inside (dirty_count p.lines)) in
    let buffers = both (both dirty (plain (codes " buffers ") refl)) (decimal_inside (length p.buffers)) in
    let entries = both (both buffers (plain (codes " entries ") refl)) (decimal_inside (length p.entries)) in
    let stale = both (both entries (plain (codes " stale ") refl)) (decimal_inside (stale_count p)) in
    let cd = both (both stale (plain (codes " cd ") refl)) (switch_inside p.cache_disabled) in
    let pge = both (both cd (plain (codes " pge ") refl)) (switch_inside p.page_global) in
    other pge refl

two : (a b : List ℕ) → Writes 0 a → Writes 0 b → Writes 0 (a ++ b)
two a b first second = record { whole = both_whole a b first.whole second.whole; few = omega (arith, updates_both a b first.whole, first.few, second.few) }

processors_write : (k : ℕ) (ps : List Processor) → Writes 0 (processor_lines k ps)
processors_write k [] = record { whole = none_whole; few = omega arith }
processors_write k (p ∷ ps) = two (processor_line k p) (processor_lines (k + 1) ps) (processor_writes k p) (processors_write (k + 1) ps)

registers_write : (same : Bool) → Writes 0 (registers_line same)
registers_write true = other (plain (codes "registers same") refl) refl
registers_write false = other (plain (codes "registers differ") refl) refl

report_writes : (ps : List Processor) → Writes 0 (report_text ps)
report_writes ps = two (processor_lines 0 ps) (registers_line (have_one_file ps)) (processors_write 0 ps) (registers_write (have_one_file ps))

-- ---- one line

end_writes : (s : ReplayState) (updates : Bool) → Writes 1 (if updates then update_line s.machine s.goal else call_line s.machine s.goal)
end_writes s true = call_writes (complete_line (common_era (after_update s.machine s.goal).system.processors)) (call_fault s.machine s.goal) (complete_writes (common_era (after_update s.machine s.goal).system.processors))
end_writes s false = call_writes called_line (call_fault s.machine s.goal) (one (plain (codes "called") refl))

stay_writes : (busy : Bool) (cause : List ℕ) → Writes 1 cause → Writes 1 (if busy then under_way_line else cause)
stay_writes true cause w = one (plain (codes "under way") refl)
stay_writes false cause w = w

come_writes : (m : Machine) (line : List ℕ) → Writes 1 line → Writes 1 (if may_come m then line else stays_line m full_line)
come_writes m line w = by (may_come m)
  where
    by : (b : Bool) → Writes 1 (if b then line else stays_line m full_line)
    by true = w
    by false = stay_writes (is_some m.order) full_line (one (plain (codes "full") refl))

leave_writes : (m : Machine) → Writes 1 (retire_text m)
leave_writes m = by (may_go m)
  where
    by : (b : Bool) → Writes 1 (if b then retired_line (last_number m.system) else stays_line m no_line)
    by true = one (both (plain (codes "retired ") refl) (decimal_inside (last_number m.system)))
    by false = stay_writes (is_some m.order) no_line (one (plain (codes "no") refl))

accessed_writes : (s : ReplayState) (k : ℕ) (o : Op) → Writes 1 (accessed_line s.machine k o)
accessed_writes s k o = done_writes (access s.machine.system k o).answer

controlled_writes : (s : ReplayState) (k : ℕ) (c : Control) → Writes 1 (controlled_line s.machine k c)
controlled_writes s k c = ruled_writes (control s.machine.system k c).answer

asked_writes : (s : ReplayState) (k : ℕ) (a : Ask) → Writes 1 (asked_of s k a).text
asked_writes s k (ask.Load address) = accessed_writes s k (op.Load address)
asked_writes s k (ask.Store address value) = accessed_writes s k (op.Store address value)
asked_writes s k ask.Fence = accessed_writes s k op.Fence
asked_writes s k (ask.Map x) = controlled_writes s k (control_of.Map (mapping x))
asked_writes s k (ask.Invlpg address) = controlled_writes s k (control_of.Invlpg address)
asked_writes s k ask.Cr3 = controlled_writes s k control_of.Cr3
asked_writes s k (ask.Pge on) = controlled_writes s k (control_of.Pge on)
asked_writes s k (ask.Cd on) = controlled_writes s k (control_of.Cd on)
asked_writes s k ask.Step = step_writes (file_at (step_after s.machine k).system.processors k s.goal) (step_answer s.machine k)
asked_writes s k (ask.Msr number) = register_writes number (register_value s k number)

newcomer_writes : (m : Machine) (n : Newcomer) → Writes 1 (newcomer_text m n)
newcomer_writes m Up = come_writes m (up_line (length m.system.processors)) (one (both (plain (codes "up ") refl) (decimal_inside (length m.system.processors))))
newcomer_writes m Join = come_writes m (joined_line (length m.system.processors)) (one (both (plain (codes "joined ") refl) (decimal_inside (length m.system.processors))))

present_writes : (s : ReplayState) (c : Command) → Writes 1 (present_text s c)
present_writes s (command.Section End) = end_writes s (is_update s.now.stage)
present_writes s (command.Ask k a) = asked_writes s k a
present_writes s (command.Newcomer n) = newcomer_writes s.machine n
present_writes s command.Retire = leave_writes s.machine
present_writes s command.Go = go_writes (is_undecided (go_of s.machine))
present_writes s command.Cancel = cancel_writes (is_undecided (go_of s.machine))
present_writes s command.Report = more (omega arith) (report_writes s.machine.system.processors)
present_writes s (command.Word address) = memory_writes (memory_word s.machine.system.memory address)
present_writes s other = nothing

command_writes : (s : ReplayState) (c : Command) → Writes 1 (command_text s c)
command_writes s c = by (is_absent s.machine c)
  where
    by : (b : Bool) → Writes 1 (if b then absent_line else present_text s c)
    by true = one (plain (codes "absent") refl)
    by false = present_writes s c

-- what a line leads to where no known line stands behind it
abbrev pub alone : ℕ → List ℕ → ScriptState → Transcript
alone number line was = from_line number line was None []

with_nothing : (text : List ℕ) → Writes 1 text → Writes 1 (text ++ [])
with_nothing text w = subst (Writes 1) (sym (append-nil text)) w

body_writes : (s : ReplayState) (number : ℕ) (answer : Result Command ScriptFault) → Writes 1 (told_command s (body_lines None number []) answer).text
body_writes s number (Err fault) = more (omega arith) (offence_writes (offence.Script fault))
body_writes s number (Ok c) = with_nothing (command_text s c) (command_writes s c)

dump_writes : (now : Situation) (d : Dump) (number : ℕ) (refusal : Option (ℕ × Fault)) → Writes 1 (told_dump now d (body_lines None number []) refusal).text
dump_writes now d number (Some refusal) = more (omega arith) (dump_refused_writes d.version refusal.0 refusal.1)
dump_writes now d number None = with_nothing accepted_line (one (plain (codes "accepted") refl))

head_writes : (now : Situation) (number : ℕ) (step : HeadStep) → Writes 1 (told_after now (head_lines None number []) (body_lines None number []) step).text
head_writes now number (goes_on next after) = nothing
head_writes now number (shows d) = dump_writes now d number (first_refusal d.files)
head_writes now number (offends o) = more (omega arith) (offence_writes o)

-- what a line writes, from where a run stands
pub line_writes : (number : ℕ) (line : List ℕ) (now : Run) (was : ScriptState) → IsAt now was → Writes 1 (alone number line was).text
line_writes number line (run.Head h) (in_head now before) at =
    subst (λ (t : Transcript). Writes 1 t.text) (sym (head_leads now before number line (head_step now before number line) refl None [])) (head_writes now (number + 1) (head_step now before number line))
line_writes number line (run.Head h) (in_body s) at = absurd at
line_writes number line (run.Body r) (in_head now before) at = absurd at
line_writes number line (run.Body r) (in_body s) at =
    subst (λ (t : Transcript). Writes 1 t.text) (sym (from_body s number line None [])) (body_writes s (number + 1) (command_of s.now number line))
