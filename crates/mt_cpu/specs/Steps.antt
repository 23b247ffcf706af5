-- The two kinds of events of a processor: those that look at nothing but itself and the goal, and those of the barriers, which
-- move its phase. Release raises its era too.
use Rattle.std.specs.Prelude.{◌≡◌, ℕ, Bool, true, false, take, Some}
use Rattle.std.specs.List.{All}
use Rattle.mt_regs.specs.RegisterFile.{RegisterFile}
use Rattle.mt_regs.specs.Registers.{value_of, writable}
use Rattle.mt_machine.specs.declared.phase.Phase.{Phase}
use Rattle.mt_machine.specs.declared.phase.Phase.TheVariants.{Running, Taken, Arrived, Passed, NoFill, Flushed, TlbFlushed, Writing, Enabled, Flushed2, TlbFlushed2, Normal, Restored, Arrived2}
use Rattle.mt_machine.specs.declared.event.Event.{Event}
use Rattle.mt_machine.specs.declared.event.Event.TheVariants.{Take, Arrive, Leave, Pass, ArriveAgain, Release}
use Rattle.mt_machine.specs.System.{Processor, is_writing}

-- the phases from Passed to Normal
abbrev pub is_local : Phase → Bool
is_local Passed = true
is_local NoFill = true
is_local Flushed = true
is_local TlbFlushed = true
is_local (Writing i) = true
is_local Enabled = true
is_local Flushed2 = true
is_local TlbFlushed2 = true
is_local Normal = true
is_local other = false

-- the phases in which dirty words are written back
abbrev pub is_writing_back : Phase → Bool
is_writing_back NoFill = true
is_writing_back Enabled = true
is_writing_back other = false

-- the phases in which the TLB may be flushed for the first time
abbrev pub is_first_flushing : Phase → Bool
is_first_flushing NoFill = true
is_first_flushing Flushed = true
is_first_flushing other = false

-- the first writable registers have the goal's values
abbrev pub HasFirst : ℕ → RegisterFile → RegisterFile → Type 0
HasFirst count goal f = All (λ r. value_of f r ≡ value_of goal r) (take count (writable goal))

-- while the registers are written, those before the next one have the goal's values
abbrev pub HasWritten : RegisterFile → Processor → Type 0
HasWritten goal p = (i : ℕ) → is_writing p.phase ≡ Some i → HasFirst i goal p.file

-- the events that are shifts, each in the phases in which it can be enabled
abbrev pub is_shift : Event → Phase → Bool
is_shift Take Running = true
is_shift Arrive Taken = true
is_shift Leave Taken = true
is_shift Leave Arrived = true
is_shift Pass Arrived = true
is_shift ArriveAgain Restored = true
is_shift Release Arrived2 = true
is_shift e phase = false
