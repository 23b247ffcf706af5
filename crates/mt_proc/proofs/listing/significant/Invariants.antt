use Rattle.std.proofs.Common.{◌≡◌, ◌≤◌, length}
use Rattle.mt_proc.specs.Listing.{significant}
use Rattle.mt_proc.proofs.listing.significant.Given as goal

abbrev pub invariant-zeros : goal.invariant-zeros
invariant-zeros l = record { same : significant l.rest ≡ significant l.digits; short : length l.rest ≤ length l.digits }

abbrev pub decreases-zeros : goal.decreases-zeros
decreases-zeros l = length l.rest
