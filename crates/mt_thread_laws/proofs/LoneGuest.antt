-- The worked resident that is alone in its yard, and where its update leads it.
use Rattle.std.proofs.Common.{◌≡◌, ◌∙◌, inl, refl, rules, arith, ℕ, ◌+◌, ◌≤◌, Bool, true, false, List, [], ◌∷◌, cond, Some, Option}
use Rattle.mt_machine.specs.declared.event.Event.{Event}
use Rattle.mt_machine.specs.declared.event.Event.TheVariants.{Arrive, Disable, DropLines, Enable, FlushTlb, Pass, RestorePge, SetNoFill, SetNormal, Take, Write}
use Rattle.mt_machine.specs.declared.go.Go.{Go}
use Rattle.mt_machine.specs.declared.go.Go.TheVariants.{Cancelled, Given, Pending}
use Rattle.mt_machine.specs.declared.phase.Phase.TheVariants.{Arrived, Arrived2, Passed, Restored, Running, Taken}
use Rattle.mt_machine.specs.System.{Processor, System}
use Rattle.mt_machine.specs.Start.{IsQuiet}
use Rattle.mt_machine.specs.Machine.{Calls, IsEnabled, MachineEvent, Order, Steps, due}
use Rattle.mt_cpu.specs.Steps.{is_local}
use Rattle.mt_laws.proofs.Steps.StepCounts.{count_more}
use Rattle.mt_private.specs.declared.view.Resident.{Resident}
use Rattle.mt_private.specs.OneByOne.{at_rest}
use Rattle.mt_private.specs.Pages.{IsPrivate, names, naming}
use Rattle.mt_private.specs.Residents.{ResidentFollows, Opens, Yard, stepped_by, system_of, with_stored, scene, move_of}
use Rattle.mt_thread_laws.specs.WorkedWay.{changed, guest, released}
use Rattle.mt_thread_laws.specs.WorkedYard.{alone, lodger}
use Rattle.mt_thread_laws.proofs.JobOnWorked.{is_memory}
use Rattle.mt_private.proofs.Residents.Barriers.{arrives, arrives_again, leaves, passes, releases}
use Rattle.mt_private.proofs.Residents.Decisions.{cancels, gives}
use Rattle.mt_private.proofs.Residents.Opened.{resides}
use Rattle.mt_rendezvous.specs.declared.view.Added.TheVariants.{Never, Once, Twice}
use Rattle.mt_private.proofs.Residents.Work.{takes, works}

unshared : IsPrivate (system_of alone)
unshared page = one (names page (lodger 0x100)) refl
  where
    one : (a : Bool) → names page (lodger 0x100) ≡ a → naming (lodger 0x100 ∷ []) page ≤ 1
    one true is = let e : naming (lodger 0x100 ∷ []) page ≡ cond true 1 0 + 0 = count_more (names page) (lodger 0x100) [] ∙ (λ i. cond (is i) 1 0 + 0) in omega arith
    one false is = let e : naming (lodger 0x100 ∷ []) page ≡ cond false 1 0 + 0 = count_more (names page) (lodger 0x100) [] ∙ (λ i. cond (is i) 1 0 + 0) in omega arith

quiet : IsQuiet (at_rest (system_of alone))
quiet = record {
  sound = record { memory = is_memory; coherent = search rules; lines_in_memory = search rules; buffers_in_memory = search rules; each = search rules };
  running = search rules;
  one_era = search rules;
  one_kind = search rules;
  no_order = refl;
}

callable : IsEnabled (at_rest (system_of alone)) (Calls alone.goal)
callable = search rules

pub opens : Opens alone
opens = record { quiet = quiet; enabled = callable; unshared = unshared; some = omega arith; few = omega arith; room = omega arith }

-- some system makes a yard of this resident with these counts
abbrev pub IsYard : Go → ℕ → ℕ → Resident → Type 0
IsYard go first second y = (s : System) × Yard alone (scene (y ∷ []) go s) first second

followed : (go : Go) (s : System) (y w : Resident) (e : Option MachineEvent) (first second : ℕ) → ResidentFollows alone (scene (y ∷ []) go s) (move_of 0 w e) first second → IsYard go first second w
followed go s y w e first second f = (f.moves.system, record { resides = f.moves.kept; first_count = f.first_count; second_count = f.second_count })

pub at_rest_yard : IsYard Pending 0 0 (guest Running Never)
at_rest_yard = (system_of alone, record { resides = resides alone opens; first_count = refl; second_count = refl })

pub taken_yard : IsYard Pending 0 0 (guest Taken Never)
taken_yard =
    let y = at_rest_yard in
    followed Pending y.0 (guest Running Never) (guest Taken Never) (Some (Steps 0 Take)) 0 0
    (takes alone (guest Running Never ∷ []) Pending 0 0 y.0 y.1 0 (guest Running Never) refl refl refl (omega arith))

pub arrived_yard : IsYard Pending 1 0 (guest Arrived Once)
arrived_yard =
    let y = taken_yard in
    followed Pending y.0 (guest Taken Never) (guest Arrived Once) (Some (Steps 0 Arrive)) 1 0
    ((arrives alone (guest Taken Never ∷ []) Pending 0 0 y.0 y.1 0 (guest Taken Never) refl refl refl).0 (omega arith))

pub given_yard : IsYard Given 2 0 (guest Arrived Once)
given_yard = let y = arrived_yard in (y.0, (gives alone (guest Arrived Once ∷ []) 1 0 y.0 y.1).kept)

pub passed_yard : IsYard Given 2 0 (guest Passed Once)
passed_yard =
    let y = given_yard in
    followed Given y.0 (guest Arrived Once) (guest Passed Once) (Some (Steps 0 Pass)) 2 0 (passes alone (guest Arrived Once ∷ []) Given 2 0 y.0 y.1 0 (guest Arrived Once) refl refl refl refl)

-- ---- its change

abbrev step_by : Event → Resident → Resident
step_by e y = with_stored (stepped_by alone e y) 0

work_on : (y : Resident) (e : Event) → y.held.added ≡ Once → is_local y.held.cpu.phase ≡ true
    → ((o : Order) (ps : List Processor) → due o ps y.held.cpu y.held.cpu.phase ≡ Some e) → y.held.number ≡ 0 → IsYard Given 2 0 y → IsYard Given 2 0 (step_by e y)
work_on y e added here is number at = followed Given at.0 y (step_by e y) (Some (Steps 0 e)) 2 0 (works alone (y ∷ []) Given 2 0 at.0 at.1 0 y refl added here e is 0)

abbrev unfilled : Resident
unfilled = step_by SetNoFill (guest Passed Once)

abbrev dropped : Resident
dropped = step_by DropLines unfilled

abbrev flushed : Resident
flushed = step_by FlushTlb dropped

abbrev disabled : Resident
disabled = step_by Disable flushed

abbrev written : Resident
written = step_by (Write 0) disabled

abbrev enabled : Resident
enabled = step_by Enable written

abbrev dropped_again : Resident
dropped_again = step_by DropLines enabled

abbrev flushed_again : Resident
flushed_again = step_by FlushTlb dropped_again

abbrev normal : Resident
normal = step_by SetNormal flushed_again

half : IsYard Given 2 0 written
half =
    work_on disabled (Write 0) refl refl (λ o ps. refl) refl
    (work_on flushed Disable refl refl (λ o ps. refl) refl
    (work_on dropped FlushTlb refl refl (λ o ps. refl) refl
    (work_on unfilled DropLines refl refl (λ o ps. refl) refl
    (work_on (guest Passed Once) SetNoFill refl refl (λ o ps. refl) refl passed_yard))))

pub restored_yard : IsYard Given 2 0 (changed Restored Once)
restored_yard =
    work_on normal RestorePge refl refl (λ o ps. refl) refl
    (work_on flushed_again SetNormal refl refl (λ o ps. refl) refl
    (work_on dropped_again FlushTlb refl refl (λ o ps. refl) refl
    (work_on enabled DropLines refl refl (λ o ps. refl) refl
    (work_on written Enable refl refl (λ o ps. refl) refl half))))

pub again_yard : IsYard Given 2 1 (changed Arrived2 Twice)
again_yard =
    let y = restored_yard in
    followed Given y.0 (changed Restored Once) (changed Arrived2 Twice) _ 2 1 (arrives_again alone (changed Restored Once ∷ []) Given 2 0 y.0 y.1 0 (changed Restored Once) refl refl refl)

pub released_yard : IsYard Given 2 1 released
released_yard =
    let y = again_yard in
    followed Given y.0 (changed Arrived2 Twice) released _ 2 1 (releases alone (changed Arrived2 Twice ∷ []) Given 2 1 y.0 y.1 0 (changed Arrived2 Twice) refl refl refl refl)

-- ---- its way out

pub cancelled_yard : IsYard Cancelled 0x100000000 0 (guest Taken Never)
cancelled_yard = let y = taken_yard in (y.0, (cancels alone (guest Taken Never ∷ []) 0 0 y.0 y.1).kept)

pub late_yard : IsYard Cancelled 0x100000001 0 (guest Taken Once)
late_yard =
    let y = cancelled_yard in
    followed Cancelled y.0 (guest Taken Never) (guest Taken Once) _ 0x100000001 0
    ((arrives alone (guest Taken Never ∷ []) Cancelled 0x100000000 0 y.0 y.1 0 (guest Taken Never) refl refl refl).1 (omega arith))

pub left_yard : IsYard Cancelled 0x100000001 0 (guest Running Once)
left_yard =
    let y = late_yard in
    followed Cancelled y.0 (guest Taken Once) (guest Running Once) _ 0x100000001 0 (leaves alone (guest Taken Once ∷ []) Cancelled 0x100000001 0 y.0 y.1 0 (guest Taken Once) refl refl (inl refl) (omega arith))
