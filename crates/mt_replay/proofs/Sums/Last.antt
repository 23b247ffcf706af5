-- The last state of a script, line by line.
use Rattle.std.proofs.Common.{◌≡◌, ◌∙◌, ap, sym, refl, subst, ℕ, ◌+◌, List, ◌∷◌, Option, None, Some, Result, Ok, Err}
use Rattle.std.specs.Prelude.{IfOk}
use Rattle.std.specs.Option.{option_map}
use Rattle.mt_ports.specs.declared.status.Failed.{Failed}
use Rattle.mt_stream.specs.declared.ending.Stop.{Stop}
use Rattle.mt_regs.specs.declared.fault.Fault.{Fault}
use Rattle.mt_regs.specs.Agreement.{first_refusal}
use Rattle.mt_dump.specs.Line.{Reading}
use Rattle.mt_dump.specs.Dumps.{Dump}
use Rattle.mt_script.specs.Situation.{Situation}
use Rattle.mt_script.specs.Accept.{Fits}
use Rattle.mt_script.specs.Commands.{command_of}
use Rattle.mt_script.specs.Head.{HeadStep, goes_on, head_step, offends, shows}
use Rattle.mt_script.specs.declared.command.Command.{Command}
use Rattle.mt_script.specs.declared.fault.ScriptFault.{ScriptFault}
use Rattle.mt_script.specs.declared.fault.Offence.{Offence}
use Rattle.mt_replay.specs.Steps.{Beginning, Beginnings, begins_by, begins_from, begins_with, last_of, steps_in, steps_of}
use Rattle.mt_replay.specs.Heads.{end_after, head_end}
use Rattle.mt_replay.specs.Kept.{IsReplayState}
use Rattle.mt_replay.specs.ReplayState.{ReplayState, first_state, state_after}
use Rattle.mt_replay.specs.Running.{CarriesOut, IsAt}
use Rattle.mt_output.specs.Ports.{Port, Waiting, change}
use Rattle.mt_replay.specs.Transcript.{ScriptState, in_body, in_head}
use Rattle.mt_replay.specs.Summary.{last_from}
use Rattle.mt_replay.specs.Summing.{Begins, Lasts, LastsHere, LastsOn, last_lines, state_in}
use Rattle.mt_replay.specs.declared.line.Run.{Run}
use Rattle.mt_replay.specs.declared.line.Run.TheVariants as run
use Rattle.mt_replay.proofs.Keeping.States.{state_kept}

-- ---- the head

-- where the steps begin, from a step of the head on
abbrev pub begins_after : Situation → ℕ → List (List ℕ) → Beginnings → HeadStep → Option Beginning
begins_after now number lines later (goes_on next after) = later next after
begins_after now number lines later (shows dump) = begins_with now dump number lines (first_refusal dump.files)
begins_after now number lines later (offends o) = None

begins_of_step : (now : Situation) (number : ℕ) (lines : List (List ℕ)) (step : HeadStep) → begins_by (end_after number lines now (head_end number lines) step) ≡ begins_after now number lines (begins_from number lines) step
begins_of_step now number lines (goes_on next after) = refl
begins_of_step now number lines (shows dump) = refl
begins_of_step now number lines (offends o) = refl

-- a run behind the dump's end
stands_in : (now : Situation) (dump : Dump) (later : Run) → later ≡ run.Body (first_state now dump) → IsAt later (in_body (first_state now dump))
stands_in now dump later is = subst (λ r. IsAt r (in_body (first_state now dump))) (sym is) (refl, refl)

module _ (now : Situation) (before : List Reading) (number : ℕ) (line : List ℕ) where
  from_step : (step : HeadStep) → head_step now before number line ≡ step → (lines : List (List ℕ))
      → last_lines number (line ∷ lines) (in_head now before) ≡ option_map last_from (begins_after now (number + 1) lines (begins_from (number + 1) lines) step)
  from_step step is lines =
      ap (option_map last_from) (begins_of_step now (number + 1) lines (head_step now before number line) ∙ ap (begins_after now (number + 1) lines (begins_from (number + 1) lines)) is)

  pub head_goes_on : (next : Situation) (after : List Reading) (later : Run) → head_step now before number line ≡ goes_on next after → IsAt later (in_head next after)
      → LastsOn number line (in_head now before) later
  head_goes_on next after later is at = record { next = in_head next after; at = at; same = from_step (goes_on next after) is }

  pub head_offends : (o : Offence) (later : Run) → head_step now before number line ≡ offends o → state_in later ≡ None → LastsHere number line (in_head now before) later
  head_offends o later is none lines = from_step (offends o) is lines ∙ sym none

  -- the dump's end
  pub head_shows : (dump : Dump) (later : Run) (result : Result (Option Stop) Failed) → head_step now before number line ≡ shows dump → (found : Situation) → found ≡ now → Begins found dump later result
      → Lasts number line (in_head now before) later result
  head_shows dump later (Ok None) is found same begun =
      let state : later ≡ run.Body (first_state now dump) = begun.1 ∙ ap (λ n. run.Body (first_state n dump)) same in
      record {
        next = in_body (first_state now dump);
        at = stands_in now dump later state;
        same = λ lines. from_step (shows dump) is lines ∙ ap (λ r. option_map last_from (begins_with now dump (number + 1) lines r)) begun.0;
      }
  head_shows dump later (Ok (Some stop)) is found same begun = λ other lines.
      let (refusal, first, none) = begun other in
      from_step (shows dump) is lines ∙ ap (λ r. option_map last_from (begins_with now dump (number + 1) lines r)) first ∙ sym none
  head_shows dump later (Err failed) is found same begun = tt

-- ---- commands

module _ (s new : ReplayState) (c : Command) (number : ℕ) (line : List ℕ) (is : IsReplayState s) (fits : Fits s.now c) (asked : command_of s.now number line ≡ Ok c) where
  pub command_lasts : (writer : Waiting) (sink : Port) (result : Result (Option Stop) Failed) → CarriesOut (change s new) c writer sink result → Lasts number line (in_body s) (run.Body new) result
  command_lasts writer sink (Ok None) does = record {
    next = in_body (state_after s c);
    at = (does.1, (state_kept s c is fits).past);
    same = λ lines. ap (λ r. Some (last_of s (steps_of s number (steps_in (number + 1) lines) r))) asked;
  }
  command_lasts writer sink (Ok (Some stop)) does = λ other. absurd (other does.0)
  command_lasts writer sink (Err failed) does = tt

pub fault_lasts : (s : ReplayState) (number : ℕ) (line : List ℕ) (fault : ScriptFault) → command_of s.now number line ≡ Err fault → LastsHere number line (in_body s) (run.Body s)
fault_lasts s number line fault asked lines = ap (λ r. Some (last_of s (steps_of s number (steps_in (number + 1) lines) r))) asked

-- a last text was written, or failed
pub last_told : (number : ℕ) (line : List ℕ) (was : ScriptState) (now : Run) (told : Stop) (result : Result (Option Stop) Failed) → IfOk result (λ ended. ended ≡ Some told)
    → LastsHere number line was now → Lasts number line was now result
last_told number line was now told (Ok None) is here = absurd (cc is)
last_told number line was now told (Ok (Some stop)) is here = λ other. here
last_told number line was now told (Err failed) is here = tt

-- a file was refused
pub begins_refused : (now : Situation) (dump : Dump) (refusal : ℕ × Fault) (old : Run) (told : Stop) (result : Result (Option Stop) Failed) → IfOk result (λ ended. ended ≡ Some told) → first_refusal dump.files ≡ Some refusal
    → state_in old ≡ None → Begins now dump old result
begins_refused now dump refusal old told (Ok None) is first none = absurd (cc is)
begins_refused now dump refusal old told (Ok (Some stop)) is first none = λ other. (refusal, first, none)
begins_refused now dump refusal old told (Err failed) is first none = tt
