-- A script without a line that brings a processor up wants no memory behind the first line of its transcript.
use Rattle.std.proofs.Common.{◌≡◌, ◌∙◌, ap, refl, sym, ℕ, ◌+◌, Bool, true, false, List, [], ◌∷◌, Option, None, Some, Result, Ok, Err}
use Rattle.std.specs.List.{All}
use Rattle.std.proofs.lemmas.List.Elements.{All-head, All-tail}
use Rattle.mt_text.specs.Text.{lines_of}
use Rattle.mt_output.specs.Lines.{accepted_line}
use Rattle.mt_regs.specs.declared.fault.Fault.{Fault}
use Rattle.mt_regs.specs.Agreement.{first_refusal}
use Rattle.mt_dump.specs.Dumps.{Dump}
use Rattle.mt_dump.specs.Line.{Reading}
use Rattle.mt_script.specs.Situation.{Situation, at_start}
use Rattle.mt_script.specs.Commands.{command_of}
use Rattle.mt_script.specs.Head.{HeadStep, goes_on, head_step, offends, shows}
use Rattle.mt_script.specs.Newcomers.{IsWithoutNewcomers, brings_up}
use Rattle.mt_script.specs.declared.command.Command.{Command}
use Rattle.mt_script.specs.declared.command.Command.TheVariants as command
use Rattle.mt_script.specs.declared.command.Newcomer.{Newcomer}
use Rattle.mt_script.specs.declared.fault.ScriptFault.{ScriptFault}
use Rattle.mt_script.proofs.Coming.{newcomer_begins}
use Rattle.mt_replay.specs.Newcomers.{early, early_text, is_newcomer, newcomer_by, newcomers_from, newcomers_in, newcomers_of_dump}
use Rattle.mt_replay.specs.ReplayState.{ReplayState, first_state, state_after}
use Rattle.mt_replay.specs.Transcript.{in_head, transcript}
use Rattle.mt_replay.proofs.Newcomers.{early_of_text, head_brings, newcomers_after}

newcomer_is : (c : Command) → is_newcomer c ≡ true → (n : Newcomer) × (c ≡ command.Newcomer n)
newcomer_is (command.Newcomer n) is = (n, refl)
newcomer_is other is = cc is

abbrev Quiet : List (List ℕ) → Type 0
Quiet lines = All (λ line. brings_up line ≡ false) lines

none_behind : (number : ℕ) (lines : List (List ℕ)) (s : ReplayState) → Quiet lines → newcomers_in number lines s ≡ false
none_behind number [] s quiet = refl
none_behind number (line ∷ lines) s quiet = by (command_of s.now number line) refl (λ next. none_behind (number + 1) lines next (All-tail (λ line. brings_up line ≡ false) line lines quiet))
  where
    own : (c : Command) → command_of s.now number line ≡ Ok c → (b : Bool) → is_newcomer c ≡ b → b ≡ false
    own c is false test = refl
    own c is true test =
        let (n, comes) = newcomer_is c test in
        let e = sym (All-head (λ line. brings_up line ≡ false) line lines quiet) ∙ newcomer_begins s.now number line n (is ∙ ap (λ c. Ok c) comes) in
        cc e

    by : (answer : Result Command ScriptFault) → command_of s.now number line ≡ answer → ((next : ReplayState) → newcomers_in (number + 1) lines next ≡ false) → newcomer_by s (newcomers_in (number + 1) lines) answer ≡ false
    by (Err fault) is later = refl
    by (Ok c) is later = rw (own c is (is_newcomer c) refl) (later (state_after s c))

none_from : (number : ℕ) (lines : List (List ℕ)) (now : Situation) (before : List Reading) → Quiet lines → newcomers_from number lines (in_head now before) ≡ false
none_from number [] now before quiet = refl
none_from number (line ∷ lines) now before quiet =
    head_brings now before number line lines (head_step now before number line) refl
    ∙ by (head_step now before number line) (λ next after. none_from (number + 1) lines next after (All-tail (λ line. brings_up line ≡ false) line lines quiet))
  where
    of_dump : (now : Situation) (dump : Dump) (refusal : Option (ℕ × Fault)) → newcomers_of_dump now dump (newcomers_in (number + 1) lines) refusal ≡ false
    of_dump now dump (Some refusal) = refl
    of_dump now dump None = none_behind (number + 1) lines (first_state now dump) (All-tail (λ line. brings_up line ≡ false) line lines quiet)

    by : (step : HeadStep) → ((next : Situation) (after : List Reading) → newcomers_from (number + 1) lines (in_head next after) ≡ false) → newcomers_after now (number + 1) lines step ≡ false
    by (goes_on next after) later = later next after
    by (shows dump) later = of_dump now dump (first_refusal dump.files)
    by (offends o) later = refl

pub early_without : (text : List ℕ) → IsWithoutNewcomers text → early_text text ≡ accepted_line
early_without text quiet = sym (early_of_text text) ∙ ap (λ comes. early comes [] (transcript text).text) (none_from 1 (lines_of text) at_start [] quiet)
