-- What a replay keeps to between two lines.
use Rattle.std.proofs.Common.{◌≡◌, ◌∙◌, ap, sym, refl, subst, arith, ℕ, ◌||◌, ◌≤◌, Bool, false, List, [], None, Some}
use Rattle.mt_text.specs.declared.place.Place.{Place}
use Rattle.mt_output.specs.Lines.{accepted_line}
use Rattle.mt_script.specs.Situation.{Situation}
use Rattle.mt_script.specs.Commands.{end_fault}
use Rattle.mt_stream.specs.Laws.{AreLaws, IsLongLed}
use Rattle.mt_stream.specs.Lines.{AtLine, Path, at_line}
use Rattle.mt_replay.specs.Running.{HasErasAt, HasOutput, IsAt, end_of_run, line_at, path_from, replay_running}
use Rattle.mt_replay.specs.Transcript.{ScriptState, in_body, in_head, told_at_end, told_lines, told_offence}
use Rattle.mt_replay.specs.declared.line.Run.{Run}
use Rattle.mt_replay.specs.declared.line.Run.TheVariants as run
use Rattle.mt_replay.proofs.Walks.{IsSound, long_brings, long_offence, long_stops, none_known}
use Rattle.mt_replay.specs.Newcomers.{early}
use Rattle.mt_stream.specs.Transcript.{Transcript}

sound_at : (now : Run) (point : ScriptState) → IsAt now point → IsSound point
sound_at (run.Head h) (in_head s before) at = tt
sound_at (run.Head h) (in_body s) at = absurd at
sound_at (run.Body r) (in_head s before) at = absurd at
sound_at (run.Body r) (in_body s) at = at.1

-- where no line is left
pub none_told : (place : Place) (number : ℕ) (now : Run) (point : ScriptState) → IsAt now point → told_lines (Some place) number [] point ≡ end_of_run now place
none_told place number (run.Head h) (in_head s before) at = ap (λ (x : Situation). told_at_end (end_fault x.stage place)) (sym at.0)
none_told place number (run.Head h) (in_body s) at = absurd at
none_told place number (run.Body r) (in_head s before) at = absurd at
none_told place number (run.Body r) (in_body s) at = ap (λ x. told_at_end (end_fault x.now.stage place)) (sym at.0)

-- a line too long brings none up
long_path : (came : Bool) (so_far : List ℕ) (p : ScriptState) (number : ℕ) → IsSound p → IsLongLed (path_from came so_far p) number
long_path came so_far p number sound =
    let t : Transcript = told_offence (long_offence number p) in
    record {
      leads = record { tells = t; early = early (came || false) so_far t.text };
      bad = refl;
      is = λ line end lines long.
          λ i. record {
            tells = long_stops number line p sound long end lines i;
            early = early (came || long_brings number line p sound long lines i) so_far (long_stops number line p sound long end lines i).text;
          };
    }

pub replay_laws : AreLaws replay_running
replay_laws = record {
  long = λ now so_far was number at. subst (λ (t : Path). IsLongLed t number) (sym at.4) (long_path at.1 so_far at.0 number (sound_at now at.0 at.2));
  unknown = λ now so_far was number at. ap (λ (t : Path). (t None number []).tells) at.4 ∙ none_known number at.0;
  ended = λ now so_far was place number at. ap (λ (t : Path). (t (Some place) number []).tells) at.4 ∙ none_told place number now at.0 at.2;
}

-- a line and those behind it lead to as much as from the point where the run stands
pub at_point : (was : Path) (came : Bool) (so_far : List ℕ) (p : ScriptState) (F : AtLine → Type 0) (number : ℕ) (line : List ℕ) → was ≡ path_from came so_far p → F (line_at came so_far number line p) → F (at_line number line so_far was)
at_point was came so_far p F number line is holds = subst (λ (t : Path). F (at_line number line so_far t)) (sym is) holds

-- a text that may have been written so far
pub output_so_far : Run → List ℕ
output_so_far (run.Head h) = []
output_so_far (run.Body r) = accepted_line

pub has_output : (now : Run) → HasOutput now false (output_so_far now)
unfolding output_so_far
has_output (run.Head h) = (refl, refl)
has_output (run.Body r) = λ takes. refl

-- ---- eras

pub eras_more : (m n : ℕ) (now : Run) → m ≤ n → HasErasAt m now → HasErasAt n now
eras_more m n (run.Head h) le eras = tt
eras_more m n (run.Body r) le eras = λ k d within. omega (arith, le, eras k d within)
