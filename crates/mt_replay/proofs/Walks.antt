-- What a line and those behind it lead to, from a point of a run.
use Rattle.std.proofs.Common.{◌≡◌, ◌∙◌, ap, refl, arith, ℕ, ◌+◌, ◌<◌, nat_lt, true, List, [], length, Option, None, Bool, ◌∷◌, false}
use Rattle.std.proofs.lemmas.Bool.Decides.{nat_tests}
use Rattle.mt_text.specs.declared.place.Place.{Place}
use Rattle.mt_ports.specs.declared.status.Status.TheVariants.{Done}
use Rattle.mt_regs.specs.Agreement.{first_refusal}
use Rattle.mt_dump.specs.Line.{Reading, fault_at as dump_fault_at}
use Rattle.mt_dump.specs.declared.fault.DumpReason.TheVariants as dump_reason
use Rattle.mt_script.specs.Situation.{Situation}
use Rattle.mt_script.specs.Stages.{is_past_dump}
use Rattle.mt_script.specs.Numbers.{fault_at}
use Rattle.mt_script.specs.Commands.{command_of, in_stage}
use Rattle.mt_script.specs.Head.{HeadStep, goes_on, head_step, offends, shows, step_of_answer}
use Rattle.mt_script.specs.declared.command.Stage.{Stage}
use Rattle.mt_script.specs.declared.command.Stage.TheVariants.{NeedCpus, NeedDump, InDump, Rams, Commands, InUpdate, InBegin}
use Rattle.mt_script.specs.declared.fault.ScriptReason.TheVariants.{BadLine}
use Rattle.mt_script.specs.declared.fault.Offence.{Offence}
use Rattle.mt_script.specs.declared.fault.Offence.TheVariants.{Script, Dump}
use Rattle.mt_replay.specs.Heads.{end_after, head_end}
use Rattle.mt_replay.specs.ReplayState.{ReplayState}
use Rattle.mt_replay.specs.Running.{from_line}
use Rattle.mt_replay.specs.Transcript.{ScriptState, body_lines, from_point, head_lines, in_body, in_head, told_by, told_command, told_dump, told_last, told_lines, told_offence}
use Rattle.mt_stream.specs.Laws.{IsLongTold}
use Rattle.mt_replay.specs.Newcomers.{newcomer_by, newcomers_from, newcomers_in}
use Rattle.mt_replay.proofs.Newcomers.{head_brings}
use Rattle.mt_stream.specs.Transcript.{Transcript, transcript_with}

-- ---- the head

-- what is told from a step on
abbrev pub told_after : Situation → (Situation → List Reading → Transcript) → (ReplayState → Transcript) → HeadStep → Transcript
told_after now head rest (goes_on next after) = head next after
told_after now head rest (shows dump) = told_dump now dump rest (first_refusal dump.files)
told_after now head rest (offends o) = told_offence o

-- a line of the head, by its step
module _ (now : Situation) (before : List Reading) (number : ℕ) (line : List ℕ) where
  of_step : (end : Option Place) (lines : List (List ℕ)) (step : HeadStep)
      → told_by (told_last end) (body_lines end) (end_after (number + 1) lines now (head_end (number + 1) lines) step) ≡ told_after now (head_lines end (number + 1) lines) (body_lines end (number + 1) lines) step
  of_step end lines (goes_on next after) = refl
  of_step end lines (shows dump) = refl
  of_step end lines (offends o) = refl

  pub head_leads : (step : HeadStep) → head_step now before number line ≡ step → (end : Option Place) (lines : List (List ℕ))
      → from_line number line (in_head now before) end lines ≡ told_after now (head_lines end (number + 1) lines) (body_lines end (number + 1) lines) step
  head_leads step is end lines = of_step end lines (head_step now before number line) ∙ ap (told_after now (head_lines end (number + 1) lines) (body_lines end (number + 1) lines)) is

pub from_body : (s : ReplayState) (number : ℕ) (line : List ℕ) (end : Option Place) (lines : List (List ℕ))
    → from_line number line (in_body s) end lines ≡ told_command s (body_lines end (number + 1) lines) (command_of s.now number line)
from_body s number line end lines = refl

-- ---- a line too long

abbrev pub long_in : Stage → ℕ → Offence
long_in InDump number = Dump (dump_fault_at dump_reason.BadLine (record { line = number; column = 4097 }))
long_in NeedCpus number = Script (fault_at BadLine (record { line = number; column = 4097 }))
long_in NeedDump number = Script (fault_at BadLine (record { line = number; column = 4097 }))
long_in Rams number = Script (fault_at BadLine (record { line = number; column = 4097 }))
long_in Commands number = Script (fault_at BadLine (record { line = number; column = 4097 }))
long_in InUpdate number = Script (fault_at BadLine (record { line = number; column = 4097 }))
long_in InBegin number = Script (fault_at BadLine (record { line = number; column = 4097 }))

-- a point that a run may stand at
abbrev pub IsSound : ScriptState → Type 0
IsSound (in_head now before) = Unit {0}
IsSound (in_body s) = is_past_dump s.now.stage ≡ true

abbrev pub long_offence : ℕ → ScriptState → Offence
long_offence number (in_head now before) = long_in now.stage number
long_offence number (in_body s) = long_in s.now.stage number

long_head : (now : Situation) (before : List Reading) (number : ℕ) (line : List ℕ) → nat_lt 4096 (length line) ≡ true → head_step now before number line ≡ offends (long_in now.stage number)
long_head now before number line long = by now.stage refl
  where
    by : (stage : Stage) → now.stage ≡ stage → step_of_answer now before number line (in_stage now number line stage) ≡ offends (long_in stage number)
    by InDump is = rw (is, long) (rw long refl)
    by NeedCpus is = rw long refl
    by NeedDump is = rw long refl
    by Rams is = rw long refl
    by Commands is = rw long refl
    by InUpdate is = rw long refl
    by InBegin is = rw long refl

long_body : (s : ReplayState) (number : ℕ) (line : List ℕ) (rest : ReplayState → Transcript) → is_past_dump s.now.stage ≡ true → nat_lt 4096 (length line) ≡ true
    → told_command s rest (command_of s.now number line) ≡ told_offence (long_in s.now.stage number)
long_body s number line rest past long = by s.now.stage past
  where
    by : (stage : Stage) → is_past_dump stage ≡ true → told_command s rest (in_stage s.now number line stage) ≡ told_offence (long_in stage number)
    by InDump is = cc is
    by NeedCpus is = rw long refl
    by NeedDump is = rw long refl
    by Rams is = rw long refl
    by Commands is = rw long refl
    by InUpdate is = rw long refl
    by InBegin is = rw long refl

-- it is an offence, whatever its bytes are
pub long_stops : (number : ℕ) (line : List ℕ) (point : ScriptState) → IsSound point → 4096 < length line → (end : Option Place) (lines : List (List ℕ))
    → from_line number line point end lines ≡ told_offence (long_offence number point)
long_stops number line (in_head now before) sound long end lines =
    head_leads now before number line (offends (long_in now.stage number)) (long_head now before number line (grind (arith, nat_tests, long))) end lines
long_stops number line (in_body s) sound long end lines =
    from_body s number line end lines ∙ long_body s number line (body_lines end (number + 1) lines) sound (grind (arith, nat_tests, long))

pub long_told : (point : ScriptState) (number : ℕ) → IsSound point → IsLongTold (from_point point) number
long_told point number sound = record {
  telling = told_offence (long_offence number point);
  bad = refl;
  is = λ line end lines long. long_stops number line point sound long end lines;
}

long_refused : (s : ReplayState) (number : ℕ) (line : List ℕ) (rest : ReplayState → Bool) → is_past_dump s.now.stage ≡ true → nat_lt 4096 (length line) ≡ true
    → newcomer_by s rest (command_of s.now number line) ≡ false
long_refused s number line rest past long = by s.now.stage past
  where
    by : (stage : Stage) → is_past_dump stage ≡ true → newcomer_by s rest (in_stage s.now number line stage) ≡ false
    by InDump is = absurd (cc is)
    by NeedCpus is = rw long refl
    by NeedDump is = rw long refl
    by Rams is = rw long refl
    by Commands is = rw long refl
    by InUpdate is = rw long refl
    by InBegin is = rw long refl

-- and brings no processor up
pub long_brings : (number : ℕ) (line : List ℕ) (point : ScriptState) → IsSound point → 4096 < length line → (lines : List (List ℕ)) → newcomers_from number (line ∷ lines) point ≡ false
long_brings number line (in_head now before) sound long lines =
    head_brings now before number line lines (offends (long_in now.stage number)) (long_head now before number line (grind (arith, nat_tests, long)))
long_brings number line (in_body s) sound long lines = long_refused s number line (newcomers_in (number + 1) lines) sound (grind (arith, nat_tests, long))

-- where no line is left of a front
pub none_known : (number : ℕ) (point : ScriptState) → told_lines None number [] point ≡ transcript_with [] Done
none_known number (in_head now before) = refl
none_known number (in_body s) = refl
