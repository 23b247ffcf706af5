-- One run, by the parts that are ordered, and what it means that nothing is wrong in it (own).
use Rattle.std.specs.Prelude.{◌≡◌, ℕ, zero, suc, ◌^◌, false, IfSome, List, [], ◌∷◌, ◌++◌, length, if◌then◌else◌}
use Rattle.mt_procedure.specs.Dues.{AreListsFinished, IsDue}
use Rattle.mt_procedure.specs.Runs.{Case, IsEnded, IsRun, State, may_take, move_in, run, taken}
use Rattle.mt_procedure.specs.declared.turn.Turn.{Turn}
use Rattle.mt_procedure.specs.declared.turn.Turn.TheVariants.{Step}
use Rattle.mt_case.specs.declared.case.Part.{Part}
use Rattle.mt_case.specs.declared.case.Part.TheVariants as part
use Rattle.mt_search.specs.Searches.{has_wrong, is_bad}

-- ---- the turns that are ordered

-- a turn, if it may be taken
abbrev pub turn_of : Case → State → Turn → List Turn
turn_of c s t = if may_take c s t then t ∷ [] else []

-- a step of each of the first so many processors that may go, in ascending order
abbrev pub steps_below : Case → State → ℕ → List Turn
steps_below c s zero = []
steps_below c s (suc k) = steps_below c s k ++ turn_of c (run c s (steps_below c s k)) (Step k)

abbrev pub round : Case → State → List Turn
round c s = steps_below c s (length s.processors)

-- so many rounds
unfoldable pub rounds : Case → State → ℕ → List Turn
rounds c s zero = []
rounds c s (suc n) = rounds c s n ++ round c (run c s (rounds c s n))

-- rounds until no processor may go, of which there are fewer than 2^40
abbrev pub all_rounds : Case → State → List Turn
all_rounds c s = rounds c s (2 ^ 40)

-- a turn, or rounds to the end
abbrev pub part_of : Case → State → Part → List Turn
part_of c s (part.Turn t) = turn_of c s t
part_of c s part.Turns = all_rounds c s

abbrev pub ordered : Case → State → List Part → List Turn
ordered c s [] = []
ordered c s (part ∷ parts) = part_of c s part ++ ordered c (run c s (part_of c s part)) parts

-- ---- nothing is wrong

-- nothing is wrong with a turn or in the state after it, and a step is due
pub record IsRightTurn (c : Case) (s : State) (t : Turn) : Type 0 where
  pub fine : is_bad c s t ≡ false
  pub due : IfSome (move_in c s t) IsDue

abbrev pub AreRightTurns : Case → State → List Turn → Type 0
AreRightTurns c s [] = Unit {0}
AreRightTurns c s (t ∷ ts) = IsRightTurn c s t × AreRightTurns c (taken c s t) ts

-- rounds lead all lists to their ends
abbrev pub IsWhole : Case → State → Part → Type 0
IsWhole c s (part.Turn t) = Unit {0}
IsWhole c s part.Turns = IsEnded c (run c s (all_rounds c s))

abbrev pub AreWhole : Case → State → List Part → Type 0
AreWhole c s [] = Unit {0}
AreWhole c s (part ∷ parts) = IsWhole c s part × AreWhole c (run c s (part_of c s part)) parts

-- the run that is ordered: nothing is wrong in any of its states and with any of its turns, each step is due, and no list ends in the
-- midst of an update
pub record IsRightRun (c : Case) (s : State) (order : List Part) : Type 0 where
  pub start : has_wrong c s ≡ false
  pub runs : IsRun c s (ordered c s order)
  pub turns : AreRightTurns c s (ordered c s order)
  pub whole : AreWhole c s order
  pub finished : AreListsFinished c (run c s (ordered c s order))
