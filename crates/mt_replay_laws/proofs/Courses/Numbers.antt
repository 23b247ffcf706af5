-- Each step of a course is the line of its number.
use Rattle.std.proofs.Common.{◌≡◌, ◌∙◌, ap, sym, refl, subst, arith, ℕ, ◌+◌, length, List, [], ◌∷◌, ◌++◌, Option, None, Some, Result, Ok, Err}
use Rattle.std.specs.Option.{option_map_or}
use Rattle.std.proofs.lemmas.List.{append_assoc, length-append}
use Rattle.mt_text.specs.Text.{end_of, lines_of}
use Rattle.mt_regs.specs.declared.fault.Fault.{Fault}
use Rattle.mt_regs.specs.Agreement.{first_refusal}
use Rattle.mt_dump.specs.Dumps.{Dump}
use Rattle.mt_script.specs.Situation.{Situation}
use Rattle.mt_script.specs.Commands.{command_of}
use Rattle.mt_script.specs.Script.{script_offence}
use Rattle.mt_script.specs.declared.command.Command.{Command}
use Rattle.mt_script.specs.declared.fault.ScriptFault.{ScriptFault}
use Rattle.mt_replay_laws.specs.Headline.{StepsAreOfTheirLines}
use Rattle.mt_replay.specs.Steps.{Beginning, ScriptStep, beginning, begins_by, begins_with, steps_in, steps_of}
use Rattle.mt_replay.specs.Heads.{HeadEnd, head_of, has_offence, shows_dump, stays_open}
use Rattle.mt_replay.specs.ReplayState.{ReplayState, first_state, state_after}
use Rattle.mt_replay.specs.Statuses.{ShowsDump}
use Rattle.mt_replay.proofs.Heads.{Comes, IsDumped, comes}

-- ---- the beginning

-- the lines from there on are the last of these
abbrev IsBehind : List (List ℕ) → Beginning → Type 0
IsBehind lines b = (above : List (List ℕ)) × (lines ≡ above ++ b.lines) × (b.number ≡ 1 + length above)

module _ (text : List ℕ) (b : Beginning) where
  of_dump : (now : Situation) (dump : Dump) (number : ℕ) (lines : List (List ℕ)) → IsDumped (end_of text) 1 (lines_of text) (script_offence text) (ShowsDump text) now dump number lines
      → (refusal : Option (ℕ × Fault)) → begins_with now dump number lines refusal ≡ Some b → IsBehind (lines_of text) b
  of_dump now dump number lines h (Some refusal) is = absurd (cc is)
  of_dump now dump number lines h None is =
      let here : Beginning = record { number = number; lines = lines; state = first_state now dump } in
      let same : here ≡ b = cc is in
      subst (IsBehind (lines_of text)) same (h.above, h.behind, h.count)

  by_end : (e : HeadEnd) → Comes (end_of text) 1 (lines_of text) (script_offence text) (ShowsDump text) e → begins_by e ≡ Some b → IsBehind (lines_of text) b
  by_end (stays_open now before) h is = absurd (cc is)
  by_end (has_offence o) h is = absurd (cc is)
  by_end (shows_dump now dump number lines) h is = of_dump now dump number lines h (first_refusal dump.files) is

-- ---- the steps

abbrev IsLineOf : ℕ → List (List ℕ) → ScriptStep → Type 0
IsLineOf number lines step =
    (above : List (List ℕ)) × (line : List ℕ) × (below : List (List ℕ))
    × (lines ≡ above ++ line ∷ below) × (step.number ≡ number + length above) × (command_of step.before.now step.number line ≡ Ok step.command)

abbrev HasLine : ℕ → List (List ℕ) → Type 0
HasLine number lines = (s : ReplayState) (front rest : List ScriptStep) (step : ScriptStep) → steps_in number lines s ≡ front ++ step ∷ rest → IsLineOf number lines step

no_steps : (front rest : List ScriptStep) (step : ScriptStep) → [] ≡ front ++ step ∷ rest → ⊥
no_steps [] rest step e = cc e
no_steps (other ∷ front) rest step e = cc e

below_line : (number : ℕ) (line : List ℕ) (lines : List (List ℕ)) (step : ScriptStep) → IsLineOf (number + 1) lines step → IsLineOf number (line ∷ lines) step
below_line number line lines step h =
    let count = h.4 in
    (line ∷ h.0, h.1, h.2, ap (λ (rest : List (List ℕ)). line ∷ rest) h.3, omega (arith, count), h.5)

has_line : (number : ℕ) (lines : List (List ℕ)) → HasLine number lines
has_line number [] s front rest step is = absurd (no_steps front rest step is)
has_line number (line ∷ lines) s front rest step is = by (has_line (number + 1) lines) (command_of s.now number line) refl is
  where
    by : HasLine (number + 1) lines → (answer : Result Command ScriptFault) → command_of s.now number line ≡ answer → steps_of s number (steps_in (number + 1) lines) answer ≡ front ++ step ∷ rest → IsLineOf number (line ∷ lines) step
    by later (Err fault) asked is = absurd (no_steps front rest step is)
    by later (Ok c) asked is = one front is
      where
        one : (front : List ScriptStep) → record { number = number; command = c; before = s } ∷ steps_in (number + 1) lines (state_after s c) ≡ front ++ step ∷ rest → IsLineOf number (line ∷ lines) step
        one [] e =
            let first : ScriptStep = record { number = number; command = c; before = s } in
            let same : first ≡ step = cc e in
            subst (IsLineOf number (line ∷ lines)) same ([], line, lines, refl, omega arith, asked)
        one (other ∷ front) e =
            let behind : steps_in (number + 1) lines (state_after s c) ≡ front ++ step ∷ rest = cc e in below_line number line lines step (later (state_after s c) front rest step behind)

pub steps_are_of_their_lines : StepsAreOfTheirLines
steps_are_of_their_lines text front rest step is = one (beginning text) refl is
  where
    one : (o : Option Beginning) → beginning text ≡ o → option_map_or (λ b. steps_in b.number b.lines b.state) o [] ≡ front ++ step ∷ rest
        → (above : List (List ℕ)) × (line : List ℕ) × (below : List (List ℕ))
        × (lines_of text ≡ above ++ line ∷ below) × (step.number ≡ length above + 1) × (command_of step.before.now step.number line ≡ Ok step.command)
    one None begins is = absurd (no_steps front rest step is)
    one (Some b) begins is =
        let head = by_end text b (head_of text) (comes text) begins in
        let body = has_line b.number b.lines b.state front rest step is in
        let low = head.2 in
        let high = body.4 in
        let together = length-append head.0 body.0 in (
          head.0 ++ body.0,
          body.1,
          body.2,
          head.1 ∙ ap (λ (xs : List (List ℕ)). head.0 ++ xs) body.3 ∙ sym (append_assoc head.0 body.0 (body.1 ∷ body.2)),
          omega (arith, low, high, together),
          body.5,
        )
