use Rattle.std.proofs.Common.{◌≡◌, ◌-◌, ◌++◌, string_bytes}
use Rattle.mt_answers.specs.Generator.{rounds}
use Rattle.mt_answers.proofs.generator.append_rounds.Given as goal

abbrev pub invariant-rounds : goal.invariant-rounds
invariant-rounds l = string_bytes l.text ++ rounds (8 - l.round) l.round l.x ≡ string_bytes l.initial.text ++ rounds 8 0 l.first
