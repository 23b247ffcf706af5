use Rattle.std.proofs.Common.{◌≡◌, drop}
use Rattle.mt_memory.specs.Finding.{first_named, names_at}
use Rattle.mt_memory.proofs.finding.first_named.Given as goal

abbrev pub invariant-names : goal.invariant-names
invariant-names l = first_named (names_at (drop l.name-index l.names)) l.text ≡ first_named (names_at l.names) l.text
