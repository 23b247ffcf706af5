use Rattle.std.proofs.Common.{◌≡◌, ◌≤◌, ◌+◌, ◌*◌, ◌++◌, length}
use Rattle.mt_replay.specs.Texts.{processor_lines}
use Rattle.mt_replay.proofs.Lines.{lines_left}
use Rattle.mt_replay.proofs.report.append_processors.Given as goal

abbrev pub invariant-processors : goal.invariant-processors
invariant-processors l = record {
  text : l.initial.writer ++ processor_lines 0 l.cpus ≡ l.writer ++ lines_left l.cpus l.k;
  size : length l.writer ≤ length l.initial.writer + 224 * l.k;
}
