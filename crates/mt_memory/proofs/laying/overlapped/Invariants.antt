use Rattle.std.proofs.Common.{◌≡◌, drop}
use Rattle.mt_memory.specs.Laying.{overlapped}
use Rattle.mt_memory.proofs.laying.overlapped.Given as goal

abbrev pub invariant-pieces : goal.invariant-pieces
invariant-pieces l = overlapped l.claim (drop l.piece-index l.pieces) ≡ overlapped l.claim l.pieces
