-- What a step of a list does: what the machine's event does, whether or not it is due (own). A step that is no event is an access, a control
-- instruction, a count at a barrier, or a flush of the TLB by the other of the two ways that the procedure has.
use Rattle.std.specs.Prelude.{ℕ, Bool, if◌then◌else◌, slice_get, Option, None, Some}
use Rattle.std.specs.Option.{option_map_or}
use Rattle.mt_regs.specs.RegisterFile.{RegisterFile}
use Rattle.mt_machine.specs.declared.phase.Phase.{Phase}
use Rattle.mt_machine.specs.declared.phase.Phase.TheVariants.{Taken, Arrived, NoFill, Flushed, TlbFlushed, Enabled, Flushed2, TlbFlushed2, Restored}
use Rattle.mt_machine.specs.declared.event.Event.{Event}
use Rattle.mt_machine.specs.declared.event.Event.TheVariants.{Take, Arrive, Pass, SetNoFill, DropLines, FlushTlb, Disable, Write, Enable, SetNormal, RestorePge, ArriveAgain, Release}
use Rattle.mt_machine.specs.declared.control.Control.{Control}
use Rattle.mt_machine.specs.declared.control.Control.TheVariants.{Cd, Cr3, Invlpg, Pge}
use Rattle.mt_machine.specs.declared.done.Done.TheVariants.{Busy}
use Rattle.mt_machine.specs.declared.op.Op.{Op}
use Rattle.mt_machine.specs.System.{Processor, System, change}
use Rattle.mt_machine.specs.Access.{Answered, access_at}
use Rattle.mt_machine.specs.Control.{control_at}
use Rattle.mt_machine.specs.Machine.{flush_tlb, step, write_back_or_drop}
use Rattle.mt_laws.specs.Parts.{answered}
use Rattle.mt_procedure.specs.declared.moves.Outcome.{Outcome}
use Rattle.mt_procedure.specs.declared.moves.Outcome.TheVariants.{Accessed, Nothing}
use Rattle.mt_procedure.specs.declared.step.ProcedureStep.{ProcedureStep}
use Rattle.mt_procedure.specs.declared.step.ProcedureStep.TheVariants as list

-- ---- the event that a step is

abbrev pub arrival : Phase → Option Event
arrival Taken = Some Arrive
arrival Restored = Some ArriveAgain
arrival other = None

abbrev pub passage : Phase → Option Event
passage Arrived = Some Pass
passage other = None

-- PGE is cleared in the first flush of the TLB, and CR3 is reloaded in the second
abbrev pub clearing : Phase → Option Event
clearing Flushed2 = None
clearing other = Some FlushTlb

-- a reload of CR3 is the second flush of the TLB, and with PGE clear the first one too
abbrev pub reloading : Phase → Bool → Option Event
reloading Flushed2 global = Some FlushTlb
reloading NoFill global = if global then None else Some FlushTlb
reloading Flushed global = if global then None else Some FlushTlb
reloading other global = None

-- where so many registers are written
abbrev pub event_of : ProcedureStep → ℕ → Processor → Option Event
event_of list.Take part p = Some Take
event_of (list.Arrive barrier) part p = arrival p.phase
event_of (list.Wait barrier count) part p = passage p.phase
event_of list.SetCd part p = Some SetNoFill
event_of list.Wbinvd part p = Some (write_back_or_drop p)
event_of list.Invd part p = Some DropLines
event_of list.ClearPge part p = clearing p.phase
event_of list.ReloadCr3 part p = reloading p.phase p.page_global
event_of list.ClearE part p = Some Disable
event_of list.Write part p = Some (Write part)
event_of list.Enable part p = Some Enable
event_of list.ClearCd part p = Some SetNormal
event_of list.RestorePge part p = Some RestorePge
event_of list.Release part p = Some Release
event_of other part p = None

-- ---- a step that is no event

abbrev pub after_reload : Phase → Phase
after_reload NoFill = TlbFlushed
after_reload Flushed = TlbFlushed
after_reload Enabled = TlbFlushed2
after_reload Flushed2 = TlbFlushed2
after_reload other = other

-- what an access of processor k returns, and the system after it, whatever the phase
abbrev pub accessed : Op → ℕ → System → Answered
accessed op k s = option_map_or (λ p. access_at s k p op) (slice_get s.processors k) (answered Busy s)

abbrev pub controlled : Control → ℕ → System → System
controlled c k s = option_map_or (λ p. (control_at s k p c).after) (slice_get s.processors k) s

-- PGE is remembered, and cleared if it is set, after the second flush of the caches
abbrev pub flush_aside : Processor → Processor
flush_aside p = record (flush_tlb Flushed p) { phase = TlbFlushed }

abbrev pub reload_aside : Processor → Processor
reload_aside p = record p { phase = after_reload p.phase }

abbrev pub aside : ProcedureStep → ℕ → System → System
aside list.ClearPge k s = change flush_aside k s
aside list.ReloadCr3 k s = change reload_aside k (controlled Cr3 k s)
aside (list.Access op) k s = (accessed op k s).after
aside (list.Invlpg address) k s = controlled (Invlpg address) k s
aside (list.Pge on) k s = controlled (Pge on) k s
aside (list.Cd on) k s = controlled (Cd on) k s
aside other k s = s

abbrev pub answer_aside : ProcedureStep → ℕ → System → Outcome
answer_aside (list.Access op) k s = Accessed (accessed op k s).answer
answer_aside other k s = Nothing

-- ---- a step of processor k, which is this event or none

abbrev pub after_step : RegisterFile → Option Event → ProcedureStep → ℕ → System → System
after_step goal event todo k s = option_map_or (λ e. step goal e k s) event (aside todo k s)

abbrev pub answer_of_step : Option Event → ProcedureStep → ℕ → System → Outcome
answer_of_step event todo k s = option_map_or (λ _. Nothing) event (answer_aside todo k s)
