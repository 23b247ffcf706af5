-- What a step that was carried out changes in the words of an update (own).
use Rattle.std.specs.Prelude.{ℕ, ◌+◌, ◌-◌, ◌==◌, nat_lt, ◌&&◌, Bool, true, if◌then◌else◌, Option, None, Some}
use Rattle.mt_machine.specs.declared.event.Event.{Event}
use Rattle.mt_machine.specs.declared.event.Event.TheVariants.{Arrive, Leave, ArriveAgain, Release}
use Rattle.mt_machine.specs.declared.go.Go.{Go}
use Rattle.mt_machine.specs.declared.phase.Phase.{Phase}
use Rattle.mt_machine.specs.declared.phase.Phase.TheVariants.{Arrived}
use Rattle.mt_plain.specs.declared.turn.PlainProcessor.{PlainProcessor}
use Rattle.mt_plain.specs.declared.turn.PlainStep.{PlainStep}
use Rattle.mt_plain.specs.declared.turn.PlainUpdate.{PlainUpdate}
use Rattle.mt_plain.specs.Due.{due_event, event_number, event_place, go_of, phase_after, phase_number, phase_of, phase_place}

-- the step is this event
abbrev pub is_event : PlainStep → Event → Bool
is_event step e = (step.number == event_number e) && (step.place == event_place e)

-- an arrival has a place among the processors, and one that is taken back was added
abbrev pub can_count : PlainUpdate → Phase → Event → Bool
can_count u phase Arrive = nat_lt u.arrived u.processors
can_count u Arrived Leave = nat_lt 0 u.arrived
can_count u phase ArriveAgain = nat_lt u.arrived_again u.processors
can_count u phase other = true

-- the counts of the barriers after an event
abbrev pub counted : PlainUpdate → Phase → Event → PlainUpdate
counted u phase Arrive = record u { arrived = u.arrived + 1 }
counted u Arrived Leave = record u { arrived = u.arrived - 1 }
counted u phase ArriveAgain = record u { arrived_again = u.arrived_again + 1 }
counted u phase other = u

abbrev pub finished_after : Event → ℕ → ℕ
finished_after Release before = 1
finished_after other before = before

-- where the processor stands after an event
abbrev pub moved : PlainProcessor → Phase → Event → PlainProcessor
moved p phase e = record p {
  phase = phase_number (phase_after e phase);
  place = phase_place (phase_after e phase);
  finished = finished_after e p.finished;
}

-- what a call leaves, and what it answers
pub record Kept : Type 0 where
  pub update : PlainUpdate
  pub processor : PlainProcessor
  pub status : ℕ

abbrev pub kept_by : PlainUpdate → PlainProcessor → PlainStep → Phase → Option Event → Kept
kept_by u p step phase None = record { update = u; processor = p; status = 12 }
kept_by u p step phase (Some e) =
    if is_event step e && can_count u phase e then record { update = counted u phase e; processor = moved p phase e; status = 0 }
    else record { update = u; processor = p; status = 12 }

abbrev pub kept_at : PlainUpdate → PlainProcessor → PlainStep → Option Go → Option Phase → Kept
kept_at u p step None phase = record { update = u; processor = p; status = 8 }
kept_at u p step (Some go) None = record { update = u; processor = p; status = 8 }
kept_at u p step (Some go) (Some phase) = kept_by u p step phase (due_event u p go phase)

-- the books after a step: 0 they were changed, 12 the step isn't the one that is due or a count has no room, 8 no such phase, flag or word
abbrev pub kept : PlainUpdate → PlainProcessor → PlainStep → Kept
kept u p step = kept_at u p step (go_of u.word) (phase_of p)
