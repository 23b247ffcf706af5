-- A summary line by line (own).
--     with_text totals text      the numbers of a text of lines, on top of others
--     last_lines, Lasts      the last state behind some lines, and what one line makes of it
use Rattle.std.specs.Prelude.{ℕ, ◌≡◌, ◌≢◌, ◌+◌, ◌-◌, ◌%◌, ◌^◌, cond, min, List, ◌∷◌, fold, ⊤, Option, Some, None, Result, MatchOption, MatchResult}
use Rattle.std.specs.Option.{option_map}
use Rattle.mt_text.specs.Text.{lines_of}
use Rattle.mt_ports.specs.declared.status.Failed.{Failed}
use Rattle.mt_stream.specs.declared.ending.Stop.{Stop}
use Rattle.mt_stream.specs.declared.ending.Stop.TheVariants.{NoMemory}
use Rattle.mt_regs.specs.declared.fault.Fault.{Fault}
use Rattle.mt_regs.specs.Agreement.{first_refusal}
use Rattle.mt_dump.specs.Dumps.{Dump}
use Rattle.mt_script.specs.Situation.{Situation}
use Rattle.mt_replay.specs.Steps.{begins_from, last_of, steps_in}
use Rattle.mt_replay.specs.ReplayState.{ReplayState, first_state}
use Rattle.mt_replay.specs.Running.{IsAt}
use Rattle.mt_replay.specs.Transcript.{ScriptState, in_body, in_head}
use Rattle.mt_replay.specs.Summary.{is_complete, last_from, memory_sum, value_in}
use Rattle.mt_replay.specs.declared.line.Run.{Run}
use Rattle.mt_replay.specs.declared.line.Run.TheVariants as run
use Rattle.mt_replay.specs.declared.summing.Totals.{Totals}

-- ---- the numbers

abbrev pub no_totals : Totals
no_totals = record { lines = 0; updates = 0; values = 0; memory = 0 }

-- with one line more; `lines` stays at the last number of 64 bits
abbrev pub with_line : Totals → List ℕ → Totals
with_line t line = record {
  lines = min (t.lines + 1) (2 ^ 64 - 1);
  updates = (t.updates + cond (is_complete line) 1 0) % 2 ^ 64;
  values = (t.values + value_in line) % 2 ^ 64;
  memory = t.memory;
}

abbrev pub with_lines : Totals → List (List ℕ) → Totals
with_lines t lines = fold with_line t lines

abbrev pub with_text : Totals → List ℕ → Totals
with_text t text = with_lines t (lines_of text)

-- with the words of a last state
abbrev pub with_memory : Totals → Option ReplayState → Totals
with_memory t last = record t { memory = memory_sum last % 2 ^ 64 }

-- ---- the last state

-- behind these lines, the first of which has this number, from a point on
abbrev pub last_lines : ℕ → List (List ℕ) → ScriptState → Option ReplayState
last_lines number lines (in_head now before) = option_map last_from (begins_from number lines now before)
last_lines number lines (in_body s) = Some (last_of s (steps_in number lines s))

abbrev pub state_in : Run → Option ReplayState
state_in (run.Head h) = None
state_in (run.Body r) = Some r

-- The run goes on from another point, whatever lines stand behind.
pub record LastsOn (number : ℕ) (line : List ℕ) (was : ScriptState) (now : Run) : Type 0 where
  pub next : ScriptState
  pub at : IsAt now next
  pub same : (lines : List (List ℕ)) → last_lines number (line ∷ lines) was ≡ last_lines (number + 1) lines next

-- The run stands at the last state, whatever lines stand behind.
abbrev pub LastsHere : ℕ → List ℕ → ScriptState → Run → Type 0
LastsHere number line was now = (lines : List (List ℕ)) → last_lines number (line ∷ lines) was ≡ state_in now

-- what a run makes of one line
abbrev pub Lasts : ℕ → List ℕ → ScriptState → Run → Result (Option Stop) Failed → Type 0
Lasts number line was now result =
    MatchResult result
    (λ ended. MatchOption ended (LastsOn number line was now) (λ stop. stop ≢ NoMemory → LastsHere number line was now))
    (λ _. ⊤)

-- what a run in the head makes of the dump that is shown
abbrev pub Begins : Situation → Dump → Run → Result (Option Stop) Failed → Type 0
Begins now dump new result =
    MatchResult result
    (λ ended. MatchOption ended
    ((first_refusal dump.files ≡ None) × (new ≡ run.Body (first_state now dump)))
    (λ stop. stop ≢ NoMemory → (refusal : ℕ × Fault) × (first_refusal dump.files ≡ Some refusal) × (state_in new ≡ None)))
    (λ _. ⊤)
