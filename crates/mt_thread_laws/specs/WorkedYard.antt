-- A worked yard: two processors without pairs, with a page each, of which the first word is marked.
use Rattle.std.specs.Prelude.{ℕ, List, [], ◌∷◌}
use Rattle.atomic_table.specs.Table.{opening}
use Rattle.mt_machine.specs.declared.event.Event.TheVariants.{Take}
use Rattle.mt_machine.specs.System.{Processor, System, start_processor}
use Rattle.mt_machine_laws.specs.MachineWorkedRuns.{bare_file, mapping}
use Rattle.mt_rendezvous.specs.declared.view.Start.{Start}
use Rattle.mt_rendezvous.specs.declared.view.Key.{Key}
use Rattle.mt_rendezvous.specs.Station.{held}
use Rattle.mt_rendezvous.specs.Calls.{gathered}
use Rattle.mt_private.specs.declared.view.Resident.{Resident}
use Rattle.mt_thread_laws.specs.Worked.{marked}
use Rattle.mt_private.specs.Own.{own_memory}
use Rattle.mt_private.specs.Residents.{pages_at, stepped_by, system_of}
use Rattle.mt_private.specs.YardRule.{first_yard_view, residents, yard_left, yard_right}
use Rattle.mt_rendezvous.specs.declared.view.Added.TheVariants.{Never}
use Rattle.mt_private.specs.YardLaws.{YardState}

-- page 1 is mapped to this physical page
abbrev pub lodger : ℕ → Processor
lodger page = record (start_processor (bare_file 0x806)) { mappings = mapping 1 page 0 ∷ [] }

abbrev pub start_with : List Processor → Start
start_with ps = gathered ps marked.memory (bare_file 0x800)

abbrev pub lodging : Start
lodging = start_with (lodger 0x100 ∷ lodger 0x200 ∷ [])

abbrev pub both_lodged : List Resident
both_lodged = residents lodging 0 lodging.cpus

abbrev pub lodged : System
lodged = system_of lodging

abbrev pub first_lodged : Resident
first_lodged = record { held = held 0 (lodger 0x100) Never; ram = own_memory (pages_at lodging 0) lodging.ram; done = []; stored = 0 }

-- the first once it has taken
abbrev pub first_taken : Resident
first_taken = stepped_by lodging Take first_lodged

-- these words and the root's view at the start
abbrev pub at_start : Key → List ℕ → YardState
at_start key words = opening words [] (first_yard_view key)

-- the words of a new yard of two
abbrev pub no_counts : List ℕ
no_counts = 0 ∷ 0 ∷ 0 ∷ 0 ∷ []

-- nobody has done anything yet
abbrev pub first_state : Key → YardState
first_state key = at_start key no_counts

-- the root has given its first resident away
abbrev pub split_state : Key → YardState
split_state key = record { words = no_counts; homes = []; views = yard_left (first_yard_view key) ∷ yard_right (first_yard_view key) ∷ [] }

-- one processor alone, so that the second page is nobody's
abbrev pub alone : Start
alone = start_with (lodger 0x100 ∷ [])
