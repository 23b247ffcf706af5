use Rattle.std.proofs.Common.{◌≡◌, ◌≤◌, ◌^◌, map, drop}
use Rattle.std.specs.Prelude.{slice_index}
use Rattle.std.specs.List.{All}
use Rattle.mt_machine.specs.Memory.{window_end}
use Rattle.mt_machine.specs.Update.{addresses}
use Rattle.mt_ram.specs.Windows.{window_of}
use Rattle.mt_ram.proofs.ram.address_in.Given as goal

abbrev pub invariant-loop-w : goal.invariant-loop-w
invariant-loop-w l = record {
  rest : slice_index (addresses (map window_of (drop l.w-index l.windows))) l.left ≡ slice_index (addresses (map window_of l.windows)) l.i;
  bounded : All (λ w. window_end w ≤ 2 ^ 52) (map window_of (drop l.w-index l.windows));
}
