-- The lines of a transcript (own). Each ends with LF.
use Rattle.std.specs.Prelude.{ℕ, ◌+◌, ◌==◌, nat_eq, nat_lt, Bool, true, false, ◌&&◌, List, [], ◌∷◌, ◌++◌, codes, decimal, length, slice_index_or, Option, None, Some}
use Rattle.std.specs.List.{count_by, list_all}
use Rattle.std.specs.Cmp.Lexicographic.{pointwise}
use Rattle.mt_kinds.specs.Types.{name_of_type}
use Rattle.mt_regs.specs.declared.registers.Register.TheVariants.{DefaultType}
use Rattle.mt_regs.specs.RegisterFile.{RegisterFile}
use Rattle.mt_regs.specs.Registers.{number_of, writable}
use Rattle.mt_dump.specs.Canon.{number_text, value_text}
use Rattle.mt_output.specs.Lines.{address_text, line, refused_line}
use Rattle.mt_machine.specs.declared.done.Done.{Done}
use Rattle.mt_machine.specs.declared.done.Done.TheVariants.{Value, Stored, Fenced, Unmapped, NoRam, Busy}
use Rattle.mt_machine.specs.declared.ruled.Ruled.{Ruled}
use Rattle.mt_machine.specs.declared.ruled.Ruled.TheVariants as ruled
use Rattle.mt_machine.specs.declared.event.Event.{Event}
use Rattle.mt_machine.specs.declared.event.Event.TheVariants as event
use Rattle.mt_machine.specs.declared.phase.Phase.{Phase}
use Rattle.mt_machine.specs.declared.phase.Phase.TheVariants as phase
use Rattle.mt_machine.specs.System.{Processor}
use Rattle.mt_machine.specs.Update.{dirty_count}
use Rattle.mt_core.specs.declared.fault.CallFault.{CallFault}
use Rattle.mt_core.specs.declared.fault.CallFault.TheVariants.{Refused, UnderWay}
use Rattle.mt_core.specs.declared.stepped.Stepped.{Stepped}
use Rattle.mt_core.specs.declared.stepped.Stepped.TheVariants.{Did, Waits, NoUpdate}

-- ---- accesses and control instructions

abbrev pub done_line : Done → List ℕ
done_line (Value value kind) = line (codes "value " ++ value_text value ++ codes " " ++ name_of_type kind)
done_line (Stored kind) = line (codes "stored " ++ name_of_type kind)
done_line Fenced = line (codes "fenced")
done_line Unmapped = line (codes "unmapped")
done_line NoRam = line (codes "no ram")
done_line Busy = line (codes "busy")

abbrev pub ruled_line : Ruled → List ℕ
ruled_line ruled.Okay = line (codes "ok")
ruled_line ruled.Full = line (codes "full")
ruled_line ruled.Busy = line (codes "busy")

-- ---- updates

-- with the era that the processors have now
abbrev pub complete_line : ℕ → List ℕ
complete_line era = line (codes "complete " ++ decimal era)

abbrev pub called_line : List ℕ
called_line = line (codes "called")

abbrev pub under_way_line : List ℕ
under_way_line = line (codes "under way")

abbrev pub call_fault_line : CallFault → List ℕ
call_fault_line (Refused fault) = refused_line fault
call_fault_line UnderWay = under_way_line

abbrev pub go_line : Bool → List ℕ
go_line true = line (codes "go")
go_line false = line (codes "no")

abbrev pub cancel_line : Bool → List ℕ
cancel_line true = line (codes "cancelled")
cancel_line false = line (codes "no")

-- ---- processors that come up and go

-- with the number of the one that came or went
abbrev pub up_line : ℕ → List ℕ
up_line k = line (codes "up " ++ decimal k)

abbrev pub joined_line : ℕ → List ℕ
joined_line k = line (codes "joined " ++ decimal k)

abbrev pub retired_line : ℕ → List ℕ
retired_line k = line (codes "retired " ++ decimal k)

-- no more may come up; none may go
abbrev pub full_line : List ℕ
full_line = line (codes "full")

abbrev pub no_line : List ℕ
no_line = line (codes "no")

-- a command names a processor that isn't there
abbrev pub absent_line : List ℕ
absent_line = line (codes "absent")

-- ---- steps

-- the number of the writable register at a place of a file
abbrev pub number_at : RegisterFile → ℕ → ℕ
number_at f i = number_of (slice_index_or (writable f) i DefaultType)

-- of a processor with this file
abbrev pub event_text : RegisterFile → Event → List ℕ
event_text f event.Take = codes "take"
event_text f event.Arrive = codes "arrive"
event_text f event.Leave = codes "leave"
event_text f event.Pass = codes "pass"
event_text f event.SetNoFill = codes "no-fill"
event_text f (event.WriteBack address value) = codes "write-back " ++ address_text address
event_text f event.DropLines = codes "drop"
event_text f event.FlushTlb = codes "flush-tlb"
event_text f event.Disable = codes "disable"
event_text f (event.Write i) = codes "write " ++ number_text (number_at f i)
event_text f event.Enable = codes "enable"
event_text f event.SetNormal = codes "normal"
event_text f event.RestorePge = codes "restore"
event_text f event.ArriveAgain = codes "arrive-again"
event_text f event.Release = codes "release"

abbrev pub stepped_line : RegisterFile → Stepped → List ℕ
stepped_line f (Did e) = line (event_text f e)
stepped_line f (Waits arrived awaited) = line (codes "waits " ++ decimal arrived ++ codes " of " ++ decimal awaited)
stepped_line f NoUpdate = line (codes "no update")

-- ---- memory and registers

-- memory's own word, where there is memory
abbrev pub memory_line : Option ℕ → List ℕ
memory_line None = line (codes "no ram")
memory_line (Some value) = line (codes "memory " ++ value_text value)

-- a register's number and value
abbrev pub register_line : ℕ → ℕ → List ℕ
register_line number value = line (number_text number ++ codes " " ++ value_text value)

-- ---- reports

abbrev pub phase_text : Phase → List ℕ
phase_text phase.Running = codes "running"
phase_text phase.Taken = codes "taken"
phase_text phase.Arrived = codes "arrived"
phase_text phase.Passed = codes "passed"
phase_text phase.NoFill = codes "no-fill"
phase_text phase.Flushed = codes "flushed"
phase_text phase.TlbFlushed = codes "tlb-flushed"
phase_text (phase.Writing i) = codes "writing"
phase_text phase.Enabled = codes "enabled"
phase_text phase.Flushed2 = codes "flushed-again"
phase_text phase.TlbFlushed2 = codes "tlb-flushed-again"
phase_text phase.Normal = codes "normal"
phase_text phase.Restored = codes "restored"
phase_text phase.Arrived2 = codes "arrived-again"

abbrev pub switch_text : Bool → List ℕ
switch_text true = codes "1"
switch_text false = codes "0"

-- how many of a processor's lines, buffers and TLB entries are older than its era
abbrev pub stale_count : Processor → ℕ
stale_count p =
    count_by (λ l. nat_lt l.era p.era) p.lines + count_by (λ l. nat_lt l.era p.era) p.buffers + count_by (λ e. nat_lt e.era p.era) p.entries

-- of processor k
abbrev pub processor_line : ℕ → Processor → List ℕ
processor_line k p =
    line
    (codes "cpu " ++ decimal k ++ codes " " ++ phase_text p.phase ++ codes " era " ++ decimal p.era
    ++ codes " lines " ++ decimal (length p.lines) ++ codes " dirty " ++ decimal (dirty_count p.lines)
    ++ codes " buffers " ++ decimal (length p.buffers) ++ codes " entries " ++ decimal (length p.entries)
    ++ codes " stale " ++ decimal (stale_count p) ++ codes " cd " ++ switch_text p.cache_disabled
    ++ codes " pge " ++ switch_text p.page_global)

-- of these processors, the first of which is processor k
abbrev pub processor_lines : ℕ → List Processor → List ℕ
processor_lines k [] = []
processor_lines k (p ∷ ps) = processor_line k p ++ processor_lines (k + 1) ps

abbrev pub is_same_pair : ℕ × ℕ → ℕ × ℕ → Bool
is_same_pair p q = (p.0 == q.0) && (p.1 == q.1)

-- the files are equal
abbrev pub is_same_file : RegisterFile → RegisterFile → Bool
is_same_file f g =
    (f.width == g.width) && (f.capabilities == g.capabilities) && pointwise is_same_pair f.pairs g.pairs
    && pointwise nat_eq f.fixed g.fixed && (f.pat == g.pat) && (f.default_type == g.default_type)

-- all files are equal
abbrev pub have_one_file : List Processor → Bool
have_one_file [] = true
have_one_file (p ∷ ps) = list_all (λ q. is_same_file p.file q.file) ps

abbrev pub registers_line : Bool → List ℕ
registers_line true = line (codes "registers same")
registers_line false = line (codes "registers differ")

-- a line for each processor in order, and whether all have the same registers
abbrev pub report_text : List Processor → List ℕ
report_text ps = processor_lines 0 ps ++ registers_line (have_one_file ps)
