use Rattle.std.proofs.Common.{◌≡◌, ◌++◌, drop, map, take}
use Rattle.mt_rendezvous.proofs.threads.renew_each.Given as goal

abbrev pub invariant-loop-i : goal.invariant-loop-i
invariant-loop-i l = take l.i l.tables ++ map (λ t. l.kinds) (drop l.i l.tables) ≡ map (λ t. l.kinds) l.fn.tables
