use Rattle.std.proofs.Common.{◌≡◌, ◌-◌, ◌++◌, string_bytes}
use Rattle.mt_answers.specs.Generator.{maps}
use Rattle.mt_answers.proofs.generator.append_maps.Given as goal

abbrev pub invariant-pages : goal.invariant-pages
invariant-pages l = string_bytes l.text ++ maps (64 - l.page) l.cpu l.page ≡ string_bytes l.initial.text ++ maps 64 l.cpu 0
