use Rattle.std.proofs.Common.{◌≡◌, ◌-◌, ◌++◌, string_bytes}
use Rattle.mt_answers.specs.Generator.{accesses, after_accesses}
use Rattle.mt_answers.proofs.generator.append_accesses.Given as goal

abbrev pub invariant-accesses : goal.invariant-accesses
invariant-accesses l = record {
  text : string_bytes l.text ++ accesses (512 - l.i) l.x ≡ string_bytes l.initial.text ++ accesses 512 l.first;
  x : after_accesses (512 - l.i) l.x ≡ after_accesses 512 l.first;
}
