-- Which lines bring a processor up, line by line.
use Rattle.std.proofs.Common.{◌≡◌, ◌∙◌, ap, sym, refl, ℕ, ◌+◌, ◌||◌, Bool, true, false, List, [], ◌∷◌, ◌++◌, append-nil, Option, None, Some, Result, Ok, Err}
use Rattle.std.specs.List.{list_any}
use Rattle.std.specs.Option.{option_map_or}
use Rattle.std.proofs.lemmas.List.{append_assoc}
use Rattle.mt_text.specs.Text.{lines_of}
use Rattle.mt_output.specs.Lines.{accepted_line}
use Rattle.mt_regs.specs.declared.fault.Fault.{Fault}
use Rattle.mt_regs.specs.Agreement.{first_refusal}
use Rattle.mt_dump.specs.Dumps.{Dump}
use Rattle.mt_dump.specs.Line.{Reading}
use Rattle.mt_script.specs.Situation.{Situation, at_start}
use Rattle.mt_script.specs.Commands.{command_of}
use Rattle.mt_script.specs.Head.{HeadStep, goes_on, head_step, offends, shows}
use Rattle.mt_script.specs.declared.command.Command.{Command}
use Rattle.mt_script.specs.declared.fault.ScriptFault.{ScriptFault}
use Rattle.mt_replay.specs.Heads.{HeadEnd, end_after, has_offence, head_end, head_of, shows_dump, stays_open}
use Rattle.mt_replay.specs.Newcomers.{early, early_text, has_newcomers, is_newcomer, newcomer_by, newcomers_by, newcomers_from, newcomers_in, newcomers_of_dump}
use Rattle.mt_replay.specs.ReplayState.{ReplayState, first_state, state_after}
use Rattle.mt_replay.specs.Steps.{ScriptStep, begins_by, begins_with, steps_in, steps_of}
use Rattle.mt_replay.specs.Transcript.{in_body, in_head, transcript}

-- ---- in the head

abbrev pub newcomers_after : Situation → ℕ → List (List ℕ) → HeadStep → Bool
newcomers_after now number lines (goes_on next after) = newcomers_from number lines (in_head next after)
newcomers_after now number lines (shows dump) = newcomers_of_dump now dump (newcomers_in number lines) (first_refusal dump.files)
newcomers_after now number lines (offends o) = false

of_step : (now : Situation) (number : ℕ) (lines : List (List ℕ)) (step : HeadStep) → newcomers_by (end_after number lines now (head_end number lines) step) ≡ newcomers_after now number lines step
of_step now number lines (goes_on next after) = refl
of_step now number lines (shows dump) = refl
of_step now number lines (offends o) = refl

pub head_brings : (now : Situation) (before : List Reading) (number : ℕ) (line : List ℕ) (lines : List (List ℕ)) (step : HeadStep) → head_step now before number line ≡ step
    → newcomers_from number (line ∷ lines) (in_head now before) ≡ newcomers_after now (number + 1) lines step
head_brings now before number line lines step is = of_step now (number + 1) lines (head_step now before number line) ∙ ap (newcomers_after now (number + 1) lines) is

-- ---- behind the dump

pub body_brings : (s : ReplayState) (number : ℕ) (line : List ℕ) (lines : List (List ℕ)) (answer : Result Command ScriptFault) → command_of s.now number line ≡ answer
    → newcomers_from number (line ∷ lines) (in_body s) ≡ newcomer_by s (newcomers_in (number + 1) lines) answer
body_brings s number line lines answer is = ap (newcomer_by s (newcomers_in (number + 1) lines)) is

-- ---- in the course

abbrev IsNewcomer : ScriptStep → Bool
IsNewcomer step = is_newcomer step.command

in_steps : (number : ℕ) (lines : List (List ℕ)) (s : ReplayState) → newcomers_in number lines s ≡ list_any IsNewcomer (steps_in number lines s)
in_steps number [] s = refl
in_steps number (line ∷ lines) s = by (command_of s.now number line) (in_steps (number + 1) lines)
  where
    by : (answer : Result Command ScriptFault) → ((next : ReplayState) → newcomers_in (number + 1) lines next ≡ list_any IsNewcomer (steps_in (number + 1) lines next))
        → newcomer_by s (newcomers_in (number + 1) lines) answer ≡ list_any IsNewcomer (steps_of s number (steps_in (number + 1) lines) answer)
    by (Err fault) later = refl
    by (Ok c) later = ap (λ b. is_newcomer c || b) (later (state_after s c))

-- the lines of a text bring one up where its steps do
pub in_course : (text : List ℕ) → newcomers_from 1 (lines_of text) (in_head at_start []) ≡ has_newcomers text
in_course text = by_end (head_of text)
  where
    of_dump : (now : Situation) (dump : Dump) (number : ℕ) (lines : List (List ℕ)) (refusal : Option (ℕ × Fault))
        → newcomers_of_dump now dump (newcomers_in number lines) refusal ≡ list_any IsNewcomer (option_map_or (λ b. steps_in b.number b.lines b.state) (begins_with now dump number lines refusal) [])
    of_dump now dump number lines (Some refusal) = refl
    of_dump now dump number lines None = in_steps number lines (first_state now dump)

    by_end : (e : HeadEnd) → newcomers_by e ≡ list_any IsNewcomer (option_map_or (λ b. steps_in b.number b.lines b.state) (begins_by e) [])
    by_end (stays_open now before) = refl
    by_end (has_offence o) = refl
    by_end (shows_dump now dump number lines) = of_dump now dump number lines (first_refusal dump.files)

-- ---- what may have been written

-- of a whole text
pub early_of_text : (text : List ℕ) → early (newcomers_from 1 (lines_of text) (in_head at_start [])) [] (transcript text).text ≡ early_text text
early_of_text text = ap (λ comes. early comes [] (transcript text).text) (in_course text)

or_assoc : (a b c : Bool) → (a || (b || c)) ≡ ((a || b) || c)
or_assoc true b c = refl
or_assoc false b c = refl

-- a line's text moves from what is told to what was written
moves_over : (comes : Bool) (so_far text rest : List ℕ) → early comes so_far (text ++ rest) ≡ early comes (so_far ++ text) rest
moves_over true so_far text rest = sym (append_assoc so_far text rest)
moves_over false so_far text rest = refl

pub early_then : (came own later : Bool) (all : Bool) (so_far text rest : List ℕ) → all ≡ (own || later) → early (came || all) so_far (text ++ rest) ≡ early ((came || own) || later) (so_far ++ text) rest
early_then came own later all so_far text rest is =
    ap (λ (b : Bool). early b so_far (text ++ rest)) (ap (λ b. came || b) is ∙ or_assoc came own later) ∙ moves_over ((came || own) || later) so_far text rest

-- a front of it was written
pub early_front : (comes : Bool) (so_far text : List ℕ) → (comes ≡ false → so_far ≡ accepted_line) → (rest : List ℕ) × (early comes so_far text ≡ so_far ++ rest)
early_front true so_far text quiet = (text, refl)
early_front false so_far text quiet = ([], sym (quiet refl) ∙ sym (append-nil so_far))

pub or_true : (b : Bool) → (b || true) ≡ true
or_true true = refl
or_true false = refl
