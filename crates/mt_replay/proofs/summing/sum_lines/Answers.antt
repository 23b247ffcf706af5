use Rattle.std.proofs.Common.{◌≡◌, ◌∙◌, ap, sym, subst, inl, inr, arith, [], ◌^◌, ◌<◌, false, true, None, Some}
use Rattle.mt_text.specs.Text.{end_of, lines_of}
use Rattle.mt_stream.specs.declared.ending.Stop.TheVariants.{NoMemory}
use Rattle.mt_script.specs.Lines.{offence_line}
use Rattle.mt_script.specs.Commands.{end_fault}
use Rattle.mt_script.specs.declared.fault.Offence.TheVariants.{Script}
use Rattle.mt_replay.specs.Running.{HasErasAt, setup_of}
use Rattle.mt_replay.specs.Summing.{state_in, with_memory, with_text}
use Rattle.mt_replay.specs.declared.line.Run.TheVariants as run
use Rattle.mt_replay.specs.declared.summing.Totals.{Totals}
use Rattle.mt_replay.proofs.RunningLaws.{has_output, output_so_far}
use Rattle.mt_replay.proofs.Sums.Lines.{starts, summed_bad, summed_done, summed_ends, summed_on}
use Rattle.mt_replay.proofs.summing.sum_lines.Goals.{in-Err-read_end, in_default-read_end}
use Rattle.mt_replay.proofs.summing.sum_lines.Goals as goal

pub lines-init : goal.lines-init
lines-init g c = record {
  waiting = c.requires;
  eras = tt;
  summed = rw c.of-lines.ensures (starts c.args.source.now (run.Head c.new.result) (c.new.ensures.setup, c.new.ensures.dump));
}

pub returns-in-Ok-Some : goal.returns-in-Ok-Some
returns-in-Ok-Some g c =
    let h = c.lines.invariant.summed in
    let first = c.in-Some.ensures.first in
    let takes = rw (c.in-Ok-Some.field-0-is, first.number) at (c.in-Ok-Some.ensures.bytes false (output_so_far c.lines.run) h.point h.stands (has_output c.lines.run)) in
    let lasts = rw (c.in-Ok-Some.field-0-is, first.number) at (c.in-Ok-Some.ensures.last h.last_point h.last_stands) in
    let other : c.in-Ok-Some.stop ≡ NoMemory → ⊥ = λ is. let same : c.eq.result ≡ true = rw is at c.eq.ensures in let e : true ≡ false = sym same ∙ c.if-eq.false in cc e in
    let low : c.lines.lines.number < 2 ^ 64 = let few = c.in-Some.ensures.few in omega (arith, few, first.next_number) in
    elim takes [
      | inl e ↦ c.with_memory.ensures ∙ ap (λ (t : Totals). with_memory t (state_in c.take_line.new.run)) c.add_waiting-in-Ok-Some.ensures.totals
          ∙ summed_ends c.args.source.now c.lines.lines c.next_line.new.self c.in-Some.line first c.lines.run c.lines.totals h c.lines.writer c.take_line.new.writer c.lines.invariant.waiting c.take_line.new.run (output_so_far c.lines.run) c.in-Ok-Some.stop e (lasts other) low
      | inr w ↦ absurd (other w.refused)
    ]

pub lines-preserved : goal.lines-preserved
lines-preserved g c =
    let h = c.lines.invariant.summed in
    let first = c.in-Some.ensures.first in
    let goes = rw (c.in-Ok-None.field-0-is, first.number) at (c.in-Ok-None.ensures.bytes false (output_so_far c.lines.run) h.point h.stands (has_output c.lines.run)) in
    let lasts = rw (c.in-Ok-None.field-0-is, first.number) at (c.in-Ok-None.ensures.last h.last_point h.last_stands) in
    record {
      waiting = c.add_waiting.ensures.waiting;
      eras = subst (λ n. HasErasAt n c.take_line.new.run) (sym first.next_number) (rw c.in-Ok-None.field-0-is at (c.in-Ok-None.ensures.eras c.lines.lines.number c.lines.invariant.eras));
      summed =
          rw c.add_waiting.ensures.totals
          (summed_on c.args.source.now c.lines.lines c.next_line.new.self c.in-Some.line first c.lines.run c.lines.totals h c.lines.writer c.take_line.new.writer c.lines.invariant.waiting c.take_line.new.run (output_so_far c.lines.run) goes lasts);
    }

pub returns : goal.returns
returns g c =
    let h = c.lines.invariant.summed in
    let end = c.in_default.ensures in
    let none : lines_of c.lines.lines.bytes ≡ [] = ap lines_of end.first.0 in
    let low : c.lines.lines.number < 2 ^ 64 = rw end.first.1 at end.few in
    c.with_memory-2.ensures ∙ elim c.match-read_end.branch [
      | in-Err-read_end w ↦
          let bad : end_fault (setup_of c.lines.run).stage (end_of c.args.source.now) ≡ Some w.in-Err-read_end.fault = rw (c.setup.ensures, c.end_place.ensures) at w.in-Err-read_end.ensures in
          let text : w.as_slice.result.now ≡ offence_line (Script w.in-Err-read_end.fault) = w.as_slice.ensures.value ∙ w.offence_line-line.ensures in
          ap (λ (t : Totals). with_memory t (state_in c.lines.run)) (w.totals-is ∙ w.add_text.ensures ∙ ap (with_text c.lines.totals) text)
          ∙ summed_bad c.args.source.now c.lines.lines c.lines.run c.lines.totals h none low w.in-Err-read_end.fault bad
      | in_default-read_end w ↦
          let good : end_fault (setup_of c.lines.run).stage (end_of c.args.source.now) ≡ None = rw (c.setup.ensures, c.end_place.ensures, w.in_default-read_end.is) at c.read_end.ensures in
          ap (λ (t : Totals). with_memory t (state_in c.lines.run)) w.totals-is
          ∙ summed_done c.args.source.now c.lines.lines c.lines.run c.lines.totals h none low good
    ]
