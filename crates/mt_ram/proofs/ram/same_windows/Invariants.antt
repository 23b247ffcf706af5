use Rattle.std.proofs.Common.{◌≡◌, take}
use Rattle.mt_ram.proofs.ram.same_windows.Given as goal

abbrev pub invariant-loop-w : goal.invariant-loop-w
invariant-loop-w l = record { items : l.copy.items ≡ take l.w-index l.windows }
