-- What gathering a system makes (own).
use Rattle.std.specs.Prelude.{◌≡◌, ℕ, ◌≤◌, false, List, [], ◌∷◌, drop, length, slice_get, vec_capacity, None, Some}
use Rattle.atomic_table.specs.Seated.{TableId}
use Rattle.mt_types.specs.Tables.{TypeTable}
use Rattle.mt_bus.specs.declared.system_parts.SystemParts.{SystemParts}
use Rattle.mt_bus.specs.Tables.{AreTablesOf}
use Rattle.mt_machine.specs.Memory.{Memory}
use Rattle.mt_machine.specs.System.{IsSound, Processor, System}
use Rattle.mt_rendezvous.specs.declared.view.Added.TheVariants.{Never}
use Rattle.mt_rendezvous.specs.declared.view.Start.{Start}
use Rattle.mt_rendezvous.specs.Calls.{PassOf}
use Rattle.mt_private.specs.declared.rooms.Room.{Room}
use Rattle.mt_private.specs.declared.visiting.Guest.{Guest}
use Rattle.mt_private.specs.declared.visiting.YardPass.{YardPass}
use Rattle.mt_private.specs.Own.{own_memory, own_system, pages_of}
use Rattle.mt_private.specs.Residents.{pages_at, pages_left, system_of}
use Rattle.mt_private.specs.YardCalls.{Lodges, done_in}
use Rattle.mt_private.specs.YardPlays.{YardSat}
use Rattle.mt_private.specs.YardRule.{residents}

-- the root has the residents from number i on
abbrev pub Offers : Start → ℕ → YardSat → Type 0
Offers t i me = me.0.held ≡ residents t i (drop i t.cpus)

-- processor k alone, as it was gathered: with the words of the pages that it names
abbrev pub IsOwnOf : Start → ℕ → System → Type 0
IsOwnOf t k own = (p : Processor) × (slice_get t.cpus k ≡ Some p) × (own ≡ record { processors = p ∷ []; memory = own_memory (pages_of p) t.ram })

-- a pass, beside a table and a start
abbrev pub pass_of : TableId → Start → YardPass → PassOf YardSat
pass_of table t pass = record { table = table; start = t; its = pass.seat.table_id; me = pass.seat.me; number = pass.number }

-- guest k as it was gathered: it has processor k, with the words of the pages that it names, and its pass has added nothing and was shown nothing
pub record IsGathered (pass : PassOf YardSat) (k : ℕ) (own : System) : Type 0 where
  pub numbered : pass.number ≡ k
  pub own_is : own ≡ own_system (pages_at pass.start k) k (system_of pass.start)
  pub lodges : Lodges pass own Never
  pub none_done : done_in pass.me ≡ []
  pub unshown : (pass.me.0.shown ≡ None) × (pass.me.0.cancel ≡ false)

-- so are these, by their places
abbrev pub AreGathered : TableId → Start → List Guest → Type 0
AreGathered table t guests = (k : ℕ) (g : Guest) → slice_get guests k ≡ Some g → IsGathered (pass_of table t g.pass) k g.own

-- the room of this processor: it has the words of the pages that the processor names
abbrev pub IsRoom : Processor → Memory → Room → Type 0
IsRoom p m r = r.ram ≡ own_memory (pages_of p) m

-- one for each
pub record AreRooms (ps : List Processor) (m : Memory) (rooms : List Room) : Type 0 where
  pub count : length rooms ≡ length ps
  pub each : (k : ℕ) (p : Processor) (r : Room) → slice_get ps k ≡ Some p → slice_get rooms k ≡ Some r → IsRoom p m r

-- the first processors of a sound system, as they were gathered, each with its table and its room
pub record AreFirst (t : Start) (ps : List Processor) (ts : List TypeTable) (rooms : List Room) : Type 0 where
  pub sound : IsSound (system_of t)
  pub first : (k : ℕ) (p : Processor) → slice_get ps k ≡ Some p → slice_get t.cpus k ≡ Some p
  pub tables : AreTablesOf ps ts
  pub have_rooms : AreRooms ps t.ram rooms

-- both lists are empty and have the capacity that they had, and the words are as they were
pub record IsEmptied (old new : SystemParts) : Type 0 where
  pub no_processors : new.cpus.items ≡ []
  pub no_tables : new.tables.items ≡ []
  pub processors_fit : vec_capacity new.cpus ≡ vec_capacity old.cpus
  pub tables_fit : vec_capacity new.tables ≡ vec_capacity old.tables
  pub words : new.ram ≡ old.ram

-- what the host keeps besides: the emptied lists of the gathered system with their capacity, and the words of the pages that no processor named
pub record IsRest (t : Start) (rest : SystemParts) : Type 0 where
  pub no_processors : rest.cpus.items ≡ []
  pub no_tables : rest.tables.items ≡ []
  pub processors_fit : length t.cpus ≤ vec_capacity rest.cpus
  pub tables_fit : length t.cpus ≤ vec_capacity rest.tables
  pub words : rest.ram ≡ own_memory (pages_left t) t.ram
