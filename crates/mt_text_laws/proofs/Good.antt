-- A script has no offence exactly where each line is accepted in its turn and the end is good.
use Rattle.std.proofs.Common.{◌≡◌, ◌+◌, ◌∙◌, ℕ, Bool, true, false, List, [], ◌∷◌, Option, None, Some, Result, ap, refl}
use Rattle.std.specs.Prelude.{Ok, Err, ◌↔◌, if◌then◌else◌}
use Rattle.std.specs.Option.{option_map, option_map_or}
use Rattle.mt_text.specs.Text.{lines_of, words_of, end_of}
use Rattle.mt_text.specs.declared.place.Place.{Place}
use Rattle.mt_dump.specs.Dumps.{Dump}
use Rattle.mt_dump.specs.Line.{Reading, said_of}
use Rattle.mt_dump.specs.Dump.{offence_of}
use Rattle.mt_dump.specs.ForProcessors.{has_each}
use Rattle.mt_dump.specs.Reader.{IsClean, read_from}
use Rattle.mt_dump.specs.declared.fault.DumpFault.{DumpFault}
use Rattle.mt_dump.proofs.Complete.{complete}
use Rattle.mt_dump.proofs.Ends.{shows_all}
use Rattle.mt_dump.proofs.OneLine.{is_sane}
use Rattle.mt_script.specs.Situation.{Situation, at_start}
use Rattle.mt_script.specs.Stages.{is_in_dump, takes_commands}
use Rattle.mt_script.specs.Words.{place_of}
use Rattle.mt_script.specs.Numbers.{fault_at}
use Rattle.mt_script.specs.Commands.{command_of}
use Rattle.mt_script.specs.Accept.{accepted, finished}
use Rattle.mt_script.specs.Head.{goes_on, shows, offends, end_step, step_in_dump, is_end_command, step_of_answer}
use Rattle.mt_script.specs.Script.{Rest, head_line, offence_after, offence_in, script_offence, HeadGoesOn, LineFollows, AreGood, IsGoodScript}
use Rattle.mt_script.specs.declared.command.Command.{Command}
use Rattle.mt_script.specs.declared.fault.ScriptFault.{ScriptFault}
use Rattle.mt_script.specs.declared.fault.ScriptReason.TheVariants.{NoEnd, OutOfRange}
use Rattle.mt_script.specs.declared.fault.Offence.TheVariants as offence
use Rattle.mt_script.proofs.Ends.{ends_well}

-- no offence, and so good
module _ (rest : Rest) (Good : Situation → List Reading → Type 0) (later : (now : Situation) (before : List Reading) → IsClean before → rest now before ≡ None → Good now before)
    (now : Situation) (before : List Reading) (clean : IsClean before) (number : ℕ) (line : List ℕ) where
  abbrev place : Place
  place = place_of number (words_of line) 0

  end_good : (answer : Result Dump DumpFault) → read_from place before [] ≡ answer → offence_after now rest (end_step now.cpus place answer) ≡ None → HeadGoesOn (head_line now before (said_of number line)) Good true
  end_good (Err fault) is none = absurd (cc none)
  end_good (Ok dump) is none = by (has_each now.cpus dump) refl none
    where
      by : (each : Bool) → has_each now.cpus dump ≡ each → offence_after now rest (if each then shows dump else offends (offence.Script (fault_at OutOfRange place))) ≡ None
          → HeadGoesOn (head_line now before (said_of number line)) Good true
      by true each none = (dump, shows_all place before [] dump clean tt is, each, later (finished now dump) [] tt none)
      by false each none = absurd (cc none)

  line_good : (fault : Option DumpFault) → offence_of before (said_of number line) ≡ fault
      → offence_after now rest (option_map_or (λ fault. offends (offence.Dump fault)) fault (goes_on now (said_of number line ∷ before))) ≡ None → HeadGoesOn (head_line now before (said_of number line)) Good false
  line_good (Some fault) is none = absurd (cc none)
  line_good None is none = (is, later now (said_of number line ∷ before) (is_sane number line, is, clean) none)

  dump_good : (end : Bool) → offence_after now rest (step_in_dump now before number line end) ≡ None → HeadGoesOn (head_line now before (said_of number line)) Good end
  dump_good true none = end_good (read_from place before []) refl none
  dump_good false none = line_good (offence_of before (said_of number line)) refl none

  command_good : (c : Command) (dump : Bool) → offence_after now rest (if dump then step_in_dump now before number line (is_end_command c) else goes_on (accepted now c) before) ≡ None → LineFollows (head_line now before (said_of number line)) Good c dump
  command_good c true none = dump_good (is_end_command c) none
  command_good c false none = later (accepted now c) before clean none

  step_good : (answer : Result Command ScriptFault) → command_of now number line ≡ answer → offence_after now rest (step_of_answer now before number line answer) ≡ None
      → (c : Command) × (command_of now number line ≡ Ok c) × LineFollows (head_line now before (said_of number line)) Good c (is_in_dump now.stage)
  step_good (Err fault) is none = absurd (cc none)
  step_good (Ok c) is none = (c, is, command_good c (is_in_dump now.stage) none)

good_end : (place : Place) (takes : Bool) → option_map offence.Script (if takes then None else Some (fault_at NoEnd place)) ≡ None → takes ≡ true
good_end place true none = refl
good_end place false none = absurd (cc none)

good_lines : (end : Place) (number : ℕ) (lines : List (List ℕ)) (now : Situation) (before : List Reading) → IsClean before → offence_in end number lines now before ≡ None → AreGood number lines now before
good_lines end number [] = λ now before clean none. good_end end (takes_commands now.stage) none
good_lines end number (line ∷ lines) = λ now before clean none.
    step_good (offence_in end (number + 1) lines) (AreGood (number + 1) lines) (good_lines end (number + 1) lines) now before clean number line (command_of now number line) refl none

-- good, and so without an offence
module _ (rest : Rest) (Good : Situation → List Reading → Type 0) (later : (now : Situation) (before : List Reading) → IsClean before → Good now before → rest now before ≡ None)
    (now : Situation) (before : List Reading) (clean : IsClean before) (number : ℕ) (line : List ℕ) where
  line_none : (fault : Option DumpFault) → fault ≡ None → rest now (said_of number line ∷ before) ≡ None
      → offence_after now rest (option_map_or (λ fault. offends (offence.Dump fault)) fault (goes_on now (said_of number line ∷ before))) ≡ None
  line_none fault is none = rw is none

  dump_none : (end : Bool) → HeadGoesOn (head_line now before (said_of number line)) Good end → offence_after now rest (step_in_dump now before number line end) ≡ None
  dump_none true (dump, shown, each, good) =
      let place = place_of number (words_of line) 0 in
      ap (λ answer. offence_after now rest (end_step now.cpus place answer)) (complete place before [] dump clean tt shown)
      ∙ ap (offence_after now rest) (ends_well now.cpus place dump each) ∙ later (finished now dump) [] tt good
  dump_none false (is, good) =
      line_none (offence_of before (said_of number line)) is (later now (said_of number line ∷ before) (is_sane number line, is, clean) good)

  command_none : (c : Command) (dump : Bool) → LineFollows (head_line now before (said_of number line)) Good c dump → offence_after now rest (if dump then step_in_dump now before number line (is_end_command c) else goes_on (accepted now c) before) ≡ None
  command_none c true good = dump_none (is_end_command c) good
  command_none c false good = later (accepted now c) before clean good

no_offence : (end : Place) (number : ℕ) (lines : List (List ℕ)) (now : Situation) (before : List Reading) → IsClean before → AreGood number lines now before → offence_in end number lines now before ≡ None
no_offence end number [] = λ now before clean good. rw good refl
no_offence end number (line ∷ lines) = λ now before clean good.
    rw good.1 (command_none (offence_in end (number + 1) lines) (AreGood (number + 1) lines) (no_offence end (number + 1) lines) now before clean number line good.0 (is_in_dump now.stage) good.2)

pub good_exactly : (text : List ℕ) → (script_offence text ≡ None) ↔ IsGoodScript text
good_exactly text = (good_lines (end_of text) 1 (lines_of text) at_start [] tt, no_offence (end_of text) 1 (lines_of text) at_start [] tt)
