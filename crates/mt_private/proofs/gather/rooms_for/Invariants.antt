use Rattle.std.proofs.Common.{◌≡◌, ◌≤◌, ℕ, length, Some}
use Rattle.std.specs.Prelude.{slice_get, vec_capacity}
use Rattle.mt_machine.specs.System.{Processor}
use Rattle.mt_private.specs.declared.rooms.Room.{Room}
use Rattle.mt_private.specs.Gathered.{IsRoom}
use Rattle.mt_private.proofs.gather.rooms_for.Given as goal

abbrev pub invariant-loop-k : goal.invariant-loop-k
invariant-loop-k l = record {
  count : length l.rooms.items ≡ l.k;
  each : (j : ℕ) (p : Processor) (r : Room) → slice_get l.cpus j ≡ Some p → slice_get l.rooms.items j ≡ Some r → IsRoom p l.ram r;
  room : length l.cpus ≤ vec_capacity l.rooms;
}
