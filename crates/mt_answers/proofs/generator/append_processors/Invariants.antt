use Rattle.std.proofs.Common.{◌≡◌, ◌-◌, ◌++◌, string_bytes}
use Rattle.mt_answers.specs.Generator.{processors}
use Rattle.mt_answers.proofs.generator.append_processors.Given as goal

abbrev pub invariant-processors : goal.invariant-processors
invariant-processors l = string_bytes l.text ++ processors (16 - l.cpu) l.cpu ≡ string_bytes l.initial.text ++ processors 16 0
