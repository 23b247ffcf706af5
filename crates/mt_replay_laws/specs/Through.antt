-- What holds of each state that a whole script comes to (own).
--     HoldsThrough P text      P holds of each state that a text comes to
use Rattle.std.specs.Prelude.{ℕ, ◌≡◌, List, Some, IfSome}
use Rattle.std.specs.List.{All, AllByRecursion}
use Rattle.mt_dump.specs.Dumps.{Dump}
use Rattle.mt_replay.specs.ReplayState.{ReplayState}
use Rattle.mt_replay.specs.Steps.{ScriptStep, beginning, left, steps_in}
use Rattle.mt_replay.specs.Texts.{stale_count}
use Rattle.mt_replay.specs.Kept.{IsReplayState}
use Rattle.mt_replay.specs.Statuses.{ShowsDump}

-- it holds of this state, and of each that these steps leave
abbrev pub HoldsAlong : (ReplayState → Type 0) → ReplayState → List ScriptStep → Type 0
HoldsAlong P s steps = P s × AllByRecursion (λ step. P (left step)) steps

-- it holds of each state that a text comes to, where steps begin
abbrev pub HoldsThrough : (ReplayState → Type 0) → List ℕ → Type 0
HoldsThrough P text = IfSome (beginning text) (λ b. HoldsAlong P b.state (steps_in b.number b.lines b.state))

abbrev pub ScriptsKeep : Type 0
ScriptsKeep = (text : List ℕ) → HoldsThrough IsReplayState text

-- a report tells of nothing stale
abbrev pub NothingIsStale : Type 0
NothingIsStale = (s : ReplayState) → IsReplayState s → All (λ p. stale_count p ≡ 0) s.machine.system.processors

-- each state of a text has the dump that the text shows
abbrev pub StatesHaveTheShownDump : Type 0
StatesHaveTheShownDump = (text : List ℕ) (dump : Dump) → ShowsDump text dump → HoldsThrough (λ s. s.now.dump ≡ Some dump) text
