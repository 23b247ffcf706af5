-- What a processor does next in an update, from what C's words tell of it and of the others. The steps and their order are
-- those of Intel SDM volume 3A, chapter Memory Cache Control, section "MTRR Considerations in MP Systems"; their numbers, the
-- coordinator and its words are this project's choices (own).
use Rattle.std.specs.Prelude.{◌≡◌, ℕ, ◌+◌, ◌==◌, nat_lt, Bool, not, ◌&&◌, List, [], ◌∷◌, length, if◌then◌else◌, slice_get, Option, None, Some}
use Rattle.std.specs.List.{count_by}
use Rattle.mt_machine.specs.declared.event.Event.{Event}
use Rattle.mt_machine.specs.declared.event.Event.TheVariants.{Take, Arrive, Leave, Pass, SetNoFill, WriteBack, DropLines, FlushTlb, Disable, Write, Enable, SetNormal, RestorePge, ArriveAgain, Release}
use Rattle.mt_machine.specs.declared.go.Go.{Go}
use Rattle.mt_machine.specs.declared.go.Go.TheVariants.{Pending, Given, Cancelled}
use Rattle.mt_machine.specs.declared.phase.Phase.{Phase}
use Rattle.mt_machine.specs.declared.phase.Phase.TheVariants.{Running, Taken, Arrived, Passed, NoFill, Flushed, TlbFlushed, Writing, Enabled, Flushed2, TlbFlushed2, Normal, Restored, Arrived2}
use Rattle.mt_machine.specs.Machine.{Order, after_drop, after_flush, has_arrived, has_arrived_again, is_cancelled, is_given}
use Rattle.mt_machine.specs.System.{Processor}
use Rattle.mt_plain.specs.declared.turn.PlainProcessor.{PlainProcessor}
use Rattle.mt_plain.specs.declared.turn.PlainStep.{PlainStep}
use Rattle.mt_plain.specs.declared.turn.PlainUpdate.{PlainUpdate}
use Rattle.mt_regs.specs.Registers.{writable}

-- the phases by their numbers, where the next register to be written stands at this place
abbrev pub phases : ℕ → List Phase
phases place =
    Running ∷ Taken ∷ Arrived ∷ Passed ∷ NoFill ∷ Flushed ∷ TlbFlushed ∷ Writing place ∷ Enabled ∷ Flushed2 ∷ TlbFlushed2 ∷ Normal ∷ Restored ∷ Arrived2 ∷ []

-- the bytes that stand for yes and no are 1 and 0
abbrev pub has_flags : PlainProcessor → Bool
has_flags p = nat_lt p.self_snoop 2 && nat_lt p.finished 2

-- the phase, where there is one and both bytes are flags
abbrev pub phase_of : PlainProcessor → Option Phase
phase_of p = if has_flags p then slice_get (phases p.place) p.phase else None

abbrev pub phase_number : Phase → ℕ
phase_number Running = 0
phase_number Taken = 1
phase_number Arrived = 2
phase_number Passed = 3
phase_number NoFill = 4
phase_number Flushed = 5
phase_number TlbFlushed = 6
phase_number (Writing i) = 7
phase_number Enabled = 8
phase_number Flushed2 = 9
phase_number TlbFlushed2 = 10
phase_number Normal = 11
phase_number Restored = 12
phase_number Arrived2 = 13

abbrev pub phase_place : Phase → ℕ
phase_place (Writing i) = i
phase_place other = 0

-- the coordinator's word by its number
abbrev pub go_of : ℕ → Option Go
go_of word = slice_get (Pending ∷ Given ∷ Cancelled ∷ []) word

abbrev pub event_number : Event → ℕ
event_number Take = 1
event_number Arrive = 2
event_number Leave = 3
event_number Pass = 4
event_number SetNoFill = 5
event_number (WriteBack address value) = 6
event_number DropLines = 6
event_number FlushTlb = 7
event_number Disable = 8
event_number (Write i) = 9
event_number Enable = 10
event_number SetNormal = 11
event_number RestorePge = 12
event_number ArriveAgain = 13
event_number Release = 14

abbrev pub event_place : Event → ℕ
event_place (Write i) = i
event_place other = 0

-- all write-backs and the invalidation that ends them count as one step
abbrev pub whole_flush : Event → Event
whole_flush (WriteBack address value) = DropLines
whole_flush other = other

-- the event that is due by what the words tell
abbrev pub due_event : PlainUpdate → PlainProcessor → Go → Phase → Option Event
due_event u p go Running = if (p.finished == 0) && not (is_cancelled go) then Some Take else None
due_event u p go Taken = Some (if is_cancelled go then Leave else Arrive)
due_event u p go Arrived = if is_cancelled go then Some Leave else (if (u.arrived == u.processors) && is_given go then Some Pass else None)
due_event u p go Passed = Some SetNoFill
due_event u p go NoFill = Some (if p.self_snoop == 1 then FlushTlb else DropLines)
due_event u p go Flushed = Some FlushTlb
due_event u p go TlbFlushed = Some Disable
due_event u p go (Writing i) = Some (if nat_lt (i + 1) p.registers then Write i else Enable)
due_event u p go Enabled = Some DropLines
due_event u p go Flushed2 = Some FlushTlb
due_event u p go TlbFlushed2 = Some SetNormal
due_event u p go Normal = Some RestorePge
due_event u p go Restored = Some ArriveAgain
due_event u p go Arrived2 = if u.arrived_again == u.processors then Some Release else None

-- the phase after an event
abbrev pub phase_after : Event → Phase → Phase
phase_after Take phase = Taken
phase_after Arrive phase = Arrived
phase_after Leave phase = Running
phase_after Pass phase = Passed
phase_after SetNoFill phase = NoFill
phase_after (WriteBack address value) phase = phase
phase_after DropLines phase = after_drop phase
phase_after FlushTlb phase = after_flush phase
phase_after Disable phase = Writing 0
phase_after (Write i) phase = Writing (i + 1)
phase_after Enable phase = Enabled
phase_after SetNormal phase = Normal
phase_after RestorePge phase = Restored
phase_after ArriveAgain phase = Arrived2
phase_after Release phase = Running

abbrev pub event_status : Option Event → ℕ
event_status None = 7
event_status (Some e) = 0

abbrev pub event_words : Option Event → Phase → PlainStep → PlainStep
event_words None phase old = old
event_words (Some e) phase old = record {
  number = event_number e;
  place = event_place e;
  next_phase = phase_number (phase_after e phase);
  next_place = phase_place (phase_after e phase);
}

-- the answer: 0 a step, 7 nothing is due, 8 no such phase, flag or word
abbrev pub status_by : PlainUpdate → PlainProcessor → Option Go → Option Phase → ℕ
status_by u p None phase = 8
status_by u p (Some go) None = 8
status_by u p (Some go) (Some phase) = event_status (due_event u p go phase)

abbrev pub due_status : PlainUpdate → PlainProcessor → ℕ
due_status u p = status_by u p (go_of u.word) (phase_of p)

-- the words of the step, where others stood before
abbrev pub step_by : PlainUpdate → PlainProcessor → Option Go → Option Phase → PlainStep → PlainStep
step_by u p None phase old = old
step_by u p (Some go) None old = old
step_by u p (Some go) (Some phase) old = event_words (due_event u p go phase) phase old

abbrev pub due_step : PlainUpdate → PlainProcessor → PlainStep → PlainStep
due_step u p old = step_by u p (go_of u.word) (phase_of p) old

-- the words tell of an update, of which the processor is one
pub record IsTold (u : PlainUpdate) (d : PlainProcessor) (o : Order) (ps : List Processor) (p : Processor) : Type 0 where
  pub phase : phase_of d ≡ Some p.phase
  pub finished : (d.finished == 0) ≡ (p.era == o.from_era)
  pub word : go_of u.word ≡ Some o.go
  pub processors : u.processors ≡ length ps
  pub arrived : u.arrived ≡ count_by (has_arrived o) ps
  pub arrived_again : u.arrived_again ≡ count_by (has_arrived_again o) ps
  pub self_snoop : (d.self_snoop == 1) ≡ p.self_snoop
  pub registers : d.registers ≡ length (writable p.file)
