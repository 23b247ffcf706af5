-- The worked machines arise.
use Rattle.std.proofs.Common.{◌≡◌, arith, inl, refl, rules}
use Rattle.mt_machine.specs.Start.{IsQuiet}
use Rattle.mt_machine.specs.ComingAndGoing.{without_last}
use Rattle.mt_machine_laws.specs.MachineWorkedRuns.{bare}
use Rattle.mt_core.specs.Arises.{from_start}
use Rattle.mt_admit.specs.Laws.{CanGrow}
use Rattle.mt_machine_laws.specs.AdmitWorkedRuns.{buffered, left_of_buffered, one_line, unlike}

pub bare_can : CanGrow bare
bare_can = let quiet : IsQuiet bare = search rules in record { arises = from_start (inl quiet); idle = refl; some = omega arith }

pub unlike_can : CanGrow unlike
unlike_can = let quiet : IsQuiet unlike = search rules in record { arises = from_start (inl quiet); idle = refl; some = omega arith }

pub buffered_can : CanGrow buffered
buffered_can = let quiet : IsQuiet buffered = search rules in record { arises = from_start (inl quiet); idle = refl; some = omega arith }

pub one_line_can : CanGrow one_line
one_line_can = let quiet : IsQuiet one_line = search rules in record { arises = from_start (inl quiet); idle = refl; some = omega arith }

pub buffered_left : (without_last buffered).system ≡ left_of_buffered.system
buffered_left = refl
