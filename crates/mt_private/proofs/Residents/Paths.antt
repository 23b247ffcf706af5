-- Events without a call.
use Rattle.mt_machine.specs.Machine.{Machine, Reached, after, at_start}
use Rattle.mt_private.specs.Residents.{Uncalled, uncalled_on, uncalled_start}

pub uncalled_reached : {s m : Machine} → Uncalled s m → Reached s m
uncalled_reached uncalled_start = at_start
uncalled_reached (uncalled_on e u enabled quiet) = after e (uncalled_reached u) enabled
