-- A summary's loop over the lines of a script.
use Rattle.std.proofs.Common.{false, ◌≡◌, ◌∙◌, ap, sym, refl, subst, arith, ℕ, ◌+◌, ◌^◌, ◌<◌, List, [], ◌++◌, append-nil, Option, None, Some}
use Rattle.mt_text.specs.Lines.{LinesLeft, TakesFirst, all_lines}
use Rattle.mt_text.specs.Text.{end_of, lines_of}
use Rattle.mt_text.specs.declared.line.Line.{Line}
use Rattle.mt_text.specs.declared.place.Place.{Place}
use Rattle.mt_stream.specs.declared.ending.Stop.{Stop}
use Rattle.mt_ports.specs.declared.status.Status.TheVariants.{Done}
use Rattle.mt_script.specs.Lines.{offence_line}
use Rattle.mt_output.specs.Writing.{PassesOn}
use Rattle.mt_script.specs.Situation.{at_start}
use Rattle.mt_script.specs.Commands.{end_fault}
use Rattle.mt_script.specs.declared.fault.ScriptFault.{ScriptFault}
use Rattle.mt_script.specs.declared.fault.Offence.TheVariants.{Script}
use Rattle.mt_replay.specs.Running.{IsAt, StandsAt, from_line, line_at, setup_of}
use Rattle.mt_stream.specs.Lines.{Ends, GoesOn, Leads, Path}
use Rattle.mt_output.specs.Ports.{change}
use Rattle.mt_replay.specs.Summary.{last_state, summary, totals, updates_in}
use Rattle.mt_replay.specs.Summing.{LastsHere, LastsOn, last_lines, no_totals, state_in, with_memory, with_text}
use Rattle.mt_replay.specs.Transcript.{ScriptState, in_body, in_head, told_at_end, told_lines, transcript}
use Rattle.mt_stream.specs.Transcript.{Transcript, behind, transcript_with}
use Rattle.mt_replay.specs.declared.line.Run.{Run}
use Rattle.mt_replay.specs.declared.line.Run.TheVariants as run
use Rattle.mt_replay.specs.declared.summing.Totals.{Totals}
use Rattle.mt_stream.proofs.Telling.{told_both}
use Rattle.mt_replay.proofs.RunningLaws.{none_told}
use Rattle.mt_replay.proofs.Walks.{none_known}
use Rattle.mt_replay.proofs.Sums.Numbers.{IsWhole, both_whole, none_whole, texts_both, totals_are, updates_both}
use Rattle.mt_replay.proofs.Sums.Texts.{Writes, alone, line_writes, offence_writes}

-- The lines of a script before those that are left were taken, and what they write was counted.
pub record Summed (source : List ℕ) (left : LinesLeft) (now : Run) (t : Totals) : Type 0 where
  pub text : List ℕ
  pub point : ScriptState
  pub stands : IsAt now point
  pub led : transcript source ≡ behind text (told_lines (Some (end_of source)) left.number (lines_of left.bytes) point)
  pub whole : IsWhole text
  pub few : updates_in text < left.number
  pub counted : t ≡ with_text no_totals text
  pub last_point : ScriptState
  pub last_stands : IsAt now last_point
  pub last : last_state source ≡ last_lines left.number (lines_of left.bytes) last_point

pub starts : (source : List ℕ) (now : Run) → IsAt now (in_head at_start []) → Summed source (all_lines source) now no_totals
starts source now stands = record {
  text = [];
  point = in_head at_start [];
  stands = stands;
  led = refl;
  whole = none_whole;
  few = omega arith;
  counted = refl;
  last_point = in_head at_start [];
  last_stands = stands;
  last = refl;
}

-- what waits behind a sink that takes nothing
waits : (text waiting left : List ℕ) → waiting ≡ [] → PassesOn waiting text left (Some []) (Some []) → left ≡ text
waits text waiting left none p = sym (ap (λ l. l ++ text) (sym none) ∙ p.cut ∙ ap (λ l. l ++ left) (sym p.taken))

-- a text with its numbers, behind which nothing is told
ended : (source text : List ℕ) (now : Run) (t : Totals) (rest : Transcript) → updates_in text < 2 ^ 64 → t ≡ with_text no_totals text → transcript source ≡ rest → rest.text ≡ text → last_state source ≡ state_in now
    → with_memory t (state_in now) ≡ summary source
ended source text now t rest few counted led is last =
    totals_are text (state_in now) t few counted ∙ ap (λ l. totals l (state_in now)) (sym (ap (λ (x : Transcript). x.text) led ∙ is)) ∙ ap (totals (transcript source).text) (sym last)

module _ (source : List ℕ) (lines next : LinesLeft) (line : Line) (first : TakesFirst lines next line) (now : Run) (t : Totals) (h : Summed source lines now t) (waiting left : List ℕ) (none : waiting ≡ []) where
  from_here : transcript source ≡ behind h.text (from_line lines.number line.bytes.now h.point (Some (end_of source)) (lines_of next.bytes))
  from_here = h.led ∙ ap (λ ls. behind h.text (told_lines (Some (end_of source)) lines.number ls h.point)) first.lines

  module _ (later : Run) where
    pub summed_on : (so_far : List ℕ) → GoesOn (StandsAt later) (line_at false so_far lines.number line.bytes.now h.point) (change waiting left) (change (Some []) (Some [])) → LastsOn lines.number line.bytes.now h.last_point later → Summed source next later (with_text t left)
    summed_on so_far g lasts =
        let (next_point, came, stands, quiet, same) = g.at in
        let goes : (end : Option Place) (rest : List (List ℕ)) → from_line lines.number line.bytes.now h.point end rest ≡ behind g.text (told_lines end (lines.number + 1) rest next_point) =
        λ end rest. ap (λ (x : Leads). x.tells) (g.goes end rest) ∙ ap (λ (t : Path). behind g.text (t end (lines.number + 1) rest).tells) same in
        let known : alone lines.number line.bytes.now h.point ≡ behind g.text (transcript_with [] Done) = goes None [] ∙ ap (behind g.text) (none_known (lines.number + 1) next_point) in
        let writes : Writes 1 g.text = subst (Writes 1) (ap (λ (x : Transcript). x.text) known ∙ append-nil g.text) (line_writes lines.number line.bytes.now now h.point h.stands) in
        record {
          text = h.text ++ g.text;
          point = next_point;
          stands = stands;
          led = rw first.next_number
              (from_here ∙ ap (behind h.text) (goes (Some (end_of source)) (lines_of next.bytes))
              ∙ told_both h.text g.text (told_lines (Some (end_of source)) (lines.number + 1) (lines_of next.bytes) next_point));
          whole = both_whole h.text g.text h.whole writes.whole;
          few = omega (arith, updates_both h.text g.text h.whole, h.few, writes.few, first.next_number);
          counted = ap (λ l. with_text t l) (waits g.text waiting left none g.passed) ∙ ap (λ (x : Totals). with_text x g.text) h.counted ∙ texts_both no_totals h.text g.text h.whole;
          last_point = lasts.next;
          last_stands = lasts.at;
          last = rw first.next_number (h.last ∙ ap (λ ls. last_lines lines.number ls h.last_point) first.lines ∙ lasts.same (lines_of next.bytes));
        }

    pub summed_ends : (so_far : List ℕ) (stop : Stop) → Ends (line_at false so_far lines.number line.bytes.now h.point) (change waiting left) (change (Some []) (Some [])) stop → LastsHere lines.number line.bytes.now h.last_point later → lines.number < 2 ^ 64
        → with_memory (with_text t left) (state_in later) ≡ summary source
    summed_ends so_far stop e lasts low =
        let writes : Writes 1 e.telling.text = subst (λ (x : Transcript). Writes 1 x.text) (e.stops None []) (line_writes lines.number line.bytes.now now h.point h.stands) in
        let counted : with_text t left ≡ with_text no_totals (h.text ++ e.telling.text) =
        ap (λ l. with_text t l) (waits e.telling.text waiting left none e.passed) ∙ ap (λ (x : Totals). with_text x e.telling.text) h.counted ∙ texts_both no_totals h.text e.telling.text h.whole in
        ended source (h.text ++ e.telling.text) later (with_text t left) (behind h.text e.telling) (omega (arith, updates_both h.text e.telling.text h.whole, h.few, writes.few, low)) counted
        (from_here ∙ ap (behind h.text) (e.stops (Some (end_of source)) (lines_of next.bytes))) refl (h.last ∙ ap (λ ls. last_lines lines.number ls h.last_point) first.lines ∙ lasts (lines_of next.bytes))

-- no line is left
module _ (source : List ℕ) (lines : LinesLeft) (now : Run) (t : Totals) (h : Summed source lines now t) (none : lines_of lines.bytes ≡ []) (low : lines.number < 2 ^ 64) where
  at_end : transcript source ≡ behind h.text (told_at_end (end_fault (setup_of now).stage (end_of source)))
  at_end = h.led ∙ ap (λ ls. behind h.text (told_lines (Some (end_of source)) lines.number ls h.point)) none ∙ ap (behind h.text) (none_told (end_of source) lines.number now h.point h.stands)

  state_left : (now : Run) (point : ScriptState) → IsAt now point → last_lines lines.number [] point ≡ state_in now
  state_left (run.Head r) (in_head s before) stands = refl
  state_left (run.Head r) (in_body s) stands = absurd stands
  state_left (run.Body r) (in_head s before) stands = absurd stands
  state_left (run.Body r) (in_body s) stands = ap Some (sym stands.0)

  last_is : last_state source ≡ state_in now
  last_is = h.last ∙ ap (λ ls. last_lines lines.number ls h.last_point) none ∙ state_left now h.last_point h.last_stands

  pub summed_done : end_fault (setup_of now).stage (end_of source) ≡ None → with_memory t (state_in now) ≡ summary source
  summed_done good =
      ended source h.text now t (behind h.text (transcript_with [] Done)) (omega (arith, h.few, low)) h.counted (at_end ∙ ap (λ f. behind h.text (told_at_end f)) good) (append-nil h.text) last_is

  pub summed_bad : (fault : ScriptFault) → end_fault (setup_of now).stage (end_of source) ≡ Some fault → with_memory (with_text t (offence_line (Script fault))) (state_in now) ≡ summary source
  summed_bad fault bad =
      let text : List ℕ = offence_line (Script fault) in
      let writes : Writes 0 text = offence_writes (Script fault) in
      ended source (h.text ++ text) now (with_text t text) (behind h.text (told_at_end (Some fault))) (omega (arith, updates_both h.text text h.whole, h.few, writes.few, low))
      (ap (λ (x : Totals). with_text x text) h.counted ∙ texts_both no_totals h.text text h.whole) (at_end ∙ ap (λ f. behind h.text (told_at_end f)) bad) refl last_is
