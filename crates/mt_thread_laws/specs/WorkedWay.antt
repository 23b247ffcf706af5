-- The way of a worked resident, which is alone in its yard, through an update; and a worked yard of two whose first resident was given away.
use Rattle.std.specs.Prelude.{◌≡◌, ℕ, Bool, true, false, List, [], ◌∷◌, None, Option, Some}
use mathlib.Core.Option.{none}
use Rattle.atomic_table.specs.Seated.{TableId}
use Rattle.atomic_table.specs.Table.{step}
use Rattle.mt_machine.specs.declared.phase.Phase.{Phase}
use Rattle.mt_machine.specs.declared.phase.Phase.TheVariants.{NoFill, Running}
use Rattle.mt_machine.specs.declared.go.Go.{Go}
use Rattle.mt_machine.specs.declared.go.Go.TheVariants.{Cancelled, Given, Pending}
use Rattle.mt_machine.specs.declared.op.Op.{Op}
use Rattle.mt_machine.specs.Memory.{Memory}
use Rattle.mt_machine.specs.System.{Processor, System}
use Rattle.mt_machine.specs.Machine.{MachineEvent}
use Rattle.mt_machine_laws.specs.MachineWorkedRuns.{bare_file}
use Rattle.mt_rendezvous.specs.declared.view.Key.{Key}
use Rattle.mt_rendezvous.specs.declared.view.Start.{Start}
use Rattle.mt_rendezvous.specs.Calls.{SeatOf}
use Rattle.mt_rendezvous.specs.Station.{held, start_of}
use Rattle.mt_private.specs.declared.job.Job.{Job}
use Rattle.mt_private.specs.declared.job.JobAnswers.{JobAnswers}
use Rattle.mt_private.specs.declared.view.Resident.{Resident}
use Rattle.mt_private.specs.declared.view.YardView.{YardView}
use Rattle.mt_private.specs.Own.{own_memory}
use Rattle.mt_private.specs.Residents.{ResidentFollows, Yard, pages_at, scene, move_of}
use Rattle.mt_thread_laws.specs.WorkedYard.{alone, first_taken, lodger, lodging, no_counts}
use Rattle.mt_private.specs.YardLaws.{IsOneEvent, IsOneStep, YardState, yard_step}
use Rattle.mt_private.specs.YardPlays.{LeftAs, TellsYardStep, YardSat, left_as}
use Rattle.mt_rendezvous.specs.declared.view.Added.TheVariants.{Once, Twice}
use Rattle.mt_rendezvous.specs.declared.view.Added.{Added}
use Rattle.mt_private.specs.YardRule.{MeetsYard, first_yard_view, with_one, with_decision, yard_both, yard_left, yard_right, yard_spent}

abbrev pub first_words : Memory
first_words = own_memory (pages_at lodging 0) lodging.ram

-- the resident with this processor and these words, and what its pass has added and it has done
abbrev pub come : Processor → Memory → Added → List Op → Resident
come p m added done = record { held = held 0 p added; ram = m; done = done; stored = 0 }

-- before its change, in no-fill mode, and behind its change
abbrev pub guest : Phase → Added → Resident
guest phase added = come (record (lodger 0x100) { phase = phase }) first_words added []

abbrev pub fills_not : Resident
fills_not = come (record (lodger 0x100) { phase = NoFill; cache_disabled = true }) first_words Once []

abbrev pub changed : Phase → Added → Resident
changed phase added = come (record (lodger 0x100) { file = bare_file 0x800; phase = phase }) first_words added []

abbrev pub released : Resident
released = come (record (lodger 0x100) { file = bare_file 0x800; era = 1 }) first_words Twice []

-- a resident, and the two counts of its yard
pub record Counted : Type 0 where
  pub resident : Resident
  pub first : ℕ
  pub second : ℕ

abbrev pub counted : Resident → ℕ → ℕ → Counted
counted y first second = record { resident = y; first = first; second = second }

-- some system makes a yard of the one, and on that the other follows by this event
abbrev pub YardGoesOn : Go → Counted → Counted → Option MachineEvent → Type 0
YardGoesOn go x w e =
    (s : System) × Yard alone (scene (x.resident ∷ []) go s) x.first x.second × ResidentFollows alone (scene (x.resident ∷ []) go s) (move_of 0 w.resident e) w.first w.second

-- the seat of its pass, which was shown this count and whether there is a cancel
abbrev pub seat_shown : Option ℕ → Bool → Resident → YardSat
seat_shown shown cancel y = (record { root = false; held = y ∷ []; go = Pending; shown = shown; cancel = cancel; start = alone }, [])

-- ---- seats of a yard of two

-- the root has said go; or the first resident, which was given away, takes, or is taken back
abbrev pub given : Key → YardState
given key = record { words = 1 ∷ 0 ∷ 0 ∷ 0 ∷ []; homes = []; views = with_decision (first_yard_view key) Given ∷ [] }

abbrev pub split_taken : Key → YardState
split_taken key = record { words = no_counts; homes = []; views = yard_left (first_yard_view key) ∷ with_one (yard_right (first_yard_view key)) first_taken None false ∷ [] }

abbrev pub joined : Key → YardState
joined key = record { words = no_counts; homes = []; views = yard_both (yard_left (first_yard_view key)) (yard_right (first_yard_view key)) ∷ yard_spent ∷ [] }

-- the yard of one with these words, whose root has said so, and whose pass has this resident, and was shown so
abbrev pub lone_root : Start → Go → YardView
lone_root t go = record { root = true; held = []; go = go; shown = None; cancel = false; start = t }

abbrev pub lone_pass : Start → Option ℕ → Bool → Resident → YardView
lone_pass t shown cancel y = record { root = false; held = y ∷ []; go = Pending; shown = shown; cancel = cancel; start = t }

abbrev pub lone_yard : Key → Go → LeftAs → ℕ → ℕ → YardState
lone_yard key go l first second =
    record { words = first ∷ second ∷ 0 ∷ []; homes = []; views = lone_root (start_of key) go ∷ lone_pass (start_of key) l.shown l.cancel l.resident ∷ [] }

-- where the resident is released, and where it has left
abbrev pub settled : Key → YardState
settled key = lone_yard key Given (left_as released (Some 1) false) 2 1

abbrev pub left : Key → YardState
left key = lone_yard key Cancelled (left_as (guest Running Once) None true) 0x100000001 0

-- one state meets the rule, and the next follows on it by this event
abbrev pub Becomes : Key → YardState → YardState → Option MachineEvent → Type 0
Becomes key s later e = (m : MeetsYard key s) × IsOneEvent key s later m e

-- one state meets the rule, and a load of the first count is a step of seat 1 there
abbrev pub LoadsFirst : Key → YardState → Type 0
LoadsFirst key s = (m : MeetsYard key s) × (new : YardSat) × IsOneStep key s m (yard_step 1 (step 0 0 0 0 none) new)

-- a load of the first count is a step of its first guest, and shows it nothing of the second
abbrev pub TakesUnshown : Key → Type 0
TakesUnshown key = (new : YardSat) × TellsYardStep (step 0 0 0 0 none) (yard_right (first_yard_view key), []) 0 new × (new.0.shown ≡ None)

-- ---- the end of a yard

-- the seat of its host, which has it back
abbrev pub last_seat : YardSat
last_seat = (record { root = true; held = released ∷ []; go = Given; shown = None; cancel = false; start = alone }, [])

abbrev pub lone_host : TableId → SeatOf YardSat
lone_host table = record { table = table; start = alone; its = table; me = last_seat }

-- a job without accesses, and its answers
abbrev pub IsEmptyJob : Job → Type 0
IsEmptyJob job = (job.before.items ≡ []) × (job.after.items ≡ [])

abbrev pub HasNoAnswers : JobAnswers → Type 0
HasNoAnswers told = (told.before.items ≡ []) × (told.after.items ≡ [])
