-- The table of the lines that may stand outside the sections (own).
--     table      each first word with its row
--     row_of word      the row whose first word this is
use Rattle.std.specs.Prelude.{ℕ, ◌||◌, Bool, true, codes, List, [], ◌∷◌, if◌then◌else◌, Option, Some, None}
use Rattle.mt_dump.specs.Line.{is_word}
use Rattle.mt_script.specs.declared.row.Verb.{Verb}
use Rattle.mt_script.specs.declared.row.Verb.TheVariants as verb
use Rattle.mt_script.specs.declared.row.AskVerb.TheVariants as ask_verb
use Rattle.mt_script.specs.declared.command.Newcomer.TheVariants.{Up, Join}
use Rattle.mt_script.specs.declared.row.Last.{Last}
use Rattle.mt_script.specs.declared.row.Last.TheVariants.{Any, Global, Switch}
use Rattle.mt_script.specs.declared.row.Turn.{Turn}
use Rattle.mt_script.specs.declared.row.Turn.TheVariants.{Cpus, Dump, Windows, Commands}
use Rattle.mt_script.specs.declared.row.Row.{Row}

-- lines of so many words
abbrev pub plain : Verb → ℕ → Turn → Row
plain verb count turn = record { verb = verb; least = count; most = count; last = Any; turn = turn }

-- The number of words counts the first; the `global` of `map` alone may be left out.
abbrev pub table : List (List ℕ × Row)
table =
    (codes "cpus", plain verb.Cpus 2 Cpus)
    ∷ (codes "dump", plain verb.Dump 1 Dump)
    ∷ (codes "ram", plain verb.Ram 3 Windows)
    ∷ (codes "selfsnoop", plain verb.Selfsnoop 2 Windows)
    ∷ (codes "load", plain (verb.Ask ask_verb.Load) 3 Commands)
    ∷ (codes "store", plain (verb.Ask ask_verb.Store) 4 Commands)
    ∷ (codes "fence", plain (verb.Ask ask_verb.Fence) 2 Commands)
    ∷ (codes "map", record (plain (verb.Ask ask_verb.Map) 6 Commands) { least = 5; last = Global })
    ∷ (codes "invlpg", plain (verb.Ask ask_verb.Invlpg) 3 Commands)
    ∷ (codes "cr3", plain (verb.Ask ask_verb.Cr3) 2 Commands)
    ∷ (codes "pge", record (plain (verb.Ask ask_verb.Pge) 3 Commands) { last = Switch })
    ∷ (codes "cd", record (plain (verb.Ask ask_verb.Cd) 3 Commands) { last = Switch })
    ∷ (codes "update", plain verb.Update 1 Commands)
    ∷ (codes "begin", plain verb.Begin 1 Commands)
    ∷ (codes "go", plain verb.Go 1 Commands)
    ∷ (codes "cancel", plain verb.Cancel 1 Commands)
    ∷ (codes "report", plain verb.Report 1 Commands)
    ∷ (codes "step", plain (verb.Ask ask_verb.Step) 2 Commands)
    ∷ (codes "up", plain (verb.Newcomer Up) 1 Commands)
    ∷ (codes "join", plain (verb.Newcomer Join) 1 Commands)
    ∷ (codes "retire", plain verb.Retire 1 Commands)
    ∷ (codes "word", plain verb.Word 2 Commands)
    ∷ (codes "msr", plain (verb.Ask ask_verb.Msr) 3 Commands)
    ∷ []

-- the first row with this word
abbrev pub row_in : List ℕ → List (List ℕ × Row) → Option Row
row_in word [] = None
row_in word (entry ∷ entries) = if is_word entry.0 word then Some entry.1 else row_in word entries

abbrev pub row_of : List ℕ → Option Row
row_of word = row_in word table

-- a word may stand last
abbrev pub fits : Last → List ℕ → Bool
fits Any word = true
fits Global word = is_word (codes "global") word
fits Switch word = is_word (codes "on") word || is_word (codes "off") word
