use Rattle.std.proofs.Common.{◌≡◌, drop}
use Rattle.mt_memory.specs.Finding.{has_heading, headings_at}
use Rattle.mt_memory.proofs.finding.has_heading.Given as goal

abbrev pub invariant-headings : goal.invariant-headings
invariant-headings l = has_heading (headings_at (drop l.heading-index l.headings)) l.line ≡ has_heading (headings_at l.headings) l.line
