-- Courses of events and whole updates keep a system and a flat machine alike.
use Rattle.std.proofs.Common.{List, [], ◌∷◌, inl}
use Rattle.mt_machine.specs.Machine.{Machine, Reached, after, at_start}
use Rattle.mt_machine.specs.Start.{IsStart}
use Rattle.mt_machine.specs.System.{IsSound}
use Rattle.mt_machine.specs.ComingAndGoing.{with_newcomer, without_last}
use Rattle.mt_laws.proofs.Invariant.Coming.{reset_stays_quiet}
use Rattle.mt_laws.proofs.Invariant.Going.{gone_stays_quiet}
use Rattle.mt_laws.proofs.Invariant.Standing.{stays_sound}
use Rattle.mt_laws.proofs.Registers.Quiet.{reached_is_quiet}
use Rattle.mt_laws.proofs.Updates.Quiet.{updated_is_quiet}
use Rattle.mt_flat.specs.Flat.{Flat}
use Rattle.mt_flat.specs.Seen.{IsFlatOf}
use Rattle.mt_flat.specs.Courses.{ComesUp, CoursesHideCaches, CoursesKeepFlat, Does, GoesDown, IsCourse, Turn, CanTurn, Updates, course, flat_course, flat_turned, turned}
use Rattle.mt_flat.proofs.ComingAndGoing.{gone_keeps_flat, newcomers_keep_flat}
use Rattle.mt_flat.proofs.Seeing.{answers_are_flat, events_keep_flat}
use Rattle.mt_flat.proofs.Updating.{updated_is_flat}

-- reached from some start
record IsOn (m : Machine) : Type 0 where
  first : Machine
  start : IsStart first
  reached : Reached first m

on_sound : (m : Machine) → IsOn m → IsSound m.system
on_sound m h = stays_sound h.first m h.start h.reached

turn_on : (m : Machine) (t : Turn) → IsOn m → CanTurn m t → IsOn (turned m t)
turn_on m (Does e) h can = record { first = h.first; start = h.start; reached = after e h.reached can }
turn_on m (Updates goal takes) h can =
    let quiet = reached_is_quiet h.first m h.start h.reached can.0.0 in
    record { first = turned m (Updates goal takes); start = inl (updated_is_quiet m goal takes quiet can.0); reached = at_start }
turn_on m ComesUp h can =
    record { first = with_newcomer m; start = inl (reset_stays_quiet m (reached_is_quiet h.first m h.start h.reached can)); reached = at_start }
turn_on m GoesDown h can =
    record { first = without_last m; start = inl (gone_stays_quiet m can.1 (reached_is_quiet h.first m h.start h.reached can.0)); reached = at_start }

turn_flat : (m : Machine) (t : Turn) (f : Flat) → IsOn m → CanTurn m t → IsFlatOf m.system f → IsFlatOf (turned m t).system (flat_turned m t f)
turn_flat m (Does e) f h can beside = events_keep_flat m e f (on_sound m h) beside can
turn_flat m (Updates goal takes) f h can beside = updated_is_flat m f goal takes (reached_is_quiet h.first m h.start h.reached can.0.0) can.0 can.1 beside
turn_flat m ComesUp f h can beside = newcomers_keep_flat m.system f beside
turn_flat m GoesDown f h can beside = gone_keeps_flat m.system f can.1 (on_sound m h) beside

course_flat : (ts : List Turn) (m : Machine) (f : Flat) → IsOn m → IsCourse m ts → IsFlatOf m.system f → IsOn (course m ts) × IsFlatOf (course m ts).system (flat_course m ts f)
course_flat [] m f h can beside = (h, beside)
course_flat (t ∷ ts) m f h can beside = course_flat ts (turned m t) (flat_turned m t f) (turn_on m t h can.0) can.1 (turn_flat m t f h can.0 beside)

pub courses_keep_flat : CoursesKeepFlat
courses_keep_flat s f ts start beside can = (course_flat ts s f (record { first = s; start = start; reached = at_start }) can beside).1

pub courses_hide_caches : CoursesHideCaches
courses_hide_caches s f ts k address value kind start beside can answer =
    let r = course_flat ts s f (record { first = s; start = start; reached = at_start }) can beside in
    answers_are_flat (course s ts) (flat_course s ts f) k address value kind (on_sound (course s ts) r.0) r.1 answer
