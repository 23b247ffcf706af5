use Rattle.std.proofs.Common.{◌≡◌}
use Rattle.mt_mend.proofs.fixed.with_fixed.Given as goal

abbrev pub invariant-loop-page : goal.invariant-loop-page
invariant-loop-page l = l.file ≡ record l.f { fixed = l.file.fixed }
