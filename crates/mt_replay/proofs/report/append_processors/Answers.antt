use Rattle.std.proofs.Common.{◌≤◌, ◌∙◌, ◌+◌, ◌++◌, ap, sym, append_assoc, length, rules, List, ℕ}
use Rattle.mt_replay.proofs.Lines.{lines_left, next_line, none_left}
use Rattle.mt_replay.proofs.report.append_processors.Goals as goal

pub processors-preserved : goal.processors-preserved
processors-preserved c =
    let left = lines_left c.args.cpus.now (c.processors.k + 1) in
    let next = next_line c.args.cpus.now c.processors.k c.cpu_at.result.now c.as_slice.result.now c.cpu_at.ensures (c.as_slice.ensures.value ∙ c.processor_line.ensures) in
    record {
      text =
          c.processors.invariant.text ∙ ap (λ (l : List ℕ). c.processors.writer ++ l) next ∙ sym (append_assoc c.processors.writer c.as_slice.result.now left)
          ∙ ap (λ (l : List ℕ). l ++ left) (sym c.append.ensures.text);
      size = search rules;
    }

pub returns-clause-text : goal.returns-clause-text
returns-clause-text c =
    let over : length c.args.cpus.now ≤ c.processors.k = search rules in
    sym (c.processors.invariant.text ∙ none_left c.args.cpus.now c.processors.k c.processors.writer over)
