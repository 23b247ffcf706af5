-- A worked station: two processors without pairs that have taken, the first with a dirty word, over a memory of one line.
use Rattle.atomic_table.specs.Table.{State, opening}
use Rattle.std.specs.Prelude.{ℕ, List, [], ◌∷◌, slice_set}
use Rattle.mt_machine.specs.declared.phase.Phase.{Phase}
use Rattle.mt_machine.specs.declared.phase.Phase.TheVariants.{Taken}
use Rattle.mt_machine.specs.System.{Processor, start_processor}
use Rattle.mt_machine.specs.Memory.{Memory}
use Rattle.mt_machine_laws.specs.MachineWorkedRuns.{bare_file, line_of}
use Rattle.mt_rendezvous.specs.declared.view.Held.{Held}
use Rattle.mt_rendezvous.specs.declared.view.Start.{Start}
use Rattle.mt_rendezvous.specs.declared.view.View.{View}
use Rattle.mt_rendezvous.specs.declared.view.Key.{Key}
use Rattle.mt_rendezvous.specs.Station.{first_view, held, pass_right, root_left}
use Rattle.mt_rendezvous.specs.Plays.{Sat}
use Rattle.mt_rendezvous.specs.declared.view.Added.TheVariants.{Never}
use Rattle.mt_rendezvous.specs.declared.view.Added.{Added}
use Rattle.mt_rendezvous.specs.Calls.{gathered, opening_words}

-- lines of the first have words 1 and 2 dirty
abbrev pub first : Phase → Processor
first phase = record (start_processor (bare_file 0x806)) { lines = line_of 0x4000 0 ∷ []; phase = phase }

abbrev pub second : Phase → Processor
second phase = record (start_processor (bare_file 0x806)) { phase = phase }

abbrev pub one_line : List ℕ → Memory
one_line words = record { windows = record { base = 0x100000; lines = 1 } ∷ []; words = words }

abbrev pub zeros : List ℕ
zeros = 0 ∷ 0 ∷ 0 ∷ 0 ∷ 0 ∷ 0 ∷ 0 ∷ 0 ∷ []

abbrev pub start : Start
start = gathered (first Taken ∷ second Taken ∷ []) (one_line zeros) (bare_file 0x800)

-- both processors, with what their passes have added
abbrev pub pair_of : Processor → Added → Processor → Added → List Held
pair_of p first_added q second_added = held 0 p first_added ∷ held 1 q second_added ∷ []

-- the words with these two counts, before any event between the barriers
abbrev pub words_of : ℕ → ℕ → List ℕ
words_of first second = slice_set (slice_set (opening_words 2 zeros) 0 first) 1 second

-- both, before any event
abbrev pub both_taken : List Held
both_taken = pair_of (first Taken) Never (second Taken) Never

-- the station's words and views at the start, but for one word
abbrev pub but_word : Key → ℕ → ℕ → State (Unit {0}) View
but_word key i n = record { words = slice_set (opening_words 2 zeros) i n; homes = []; views = first_view key ∷ [] }

abbrev pub at_start : Key → State (Unit {0}) View
at_start key = opening (opening_words 2 zeros) [] (first_view key)

-- when the root has given the first processor away
abbrev pub split_once : Key → State (Unit {0}) View
split_once key = record { words = opening_words 2 zeros; homes = []; views = root_left (first_view key) ∷ pass_right (first_view key) ∷ [] }

-- a seat to which nothing is lent
abbrev pub bare : View → Sat
bare v = (v, [])
