use Rattle.std.proofs.Common.{◌≡◌, ◌≤◌, ◌^◌, map, drop}
use Rattle.std.specs.List.{All}
use Rattle.mt_machine.specs.Memory.{window_end}
use Rattle.mt_ram.specs.Windows.{is_overlap, window, window_of}
use Rattle.mt_ram.proofs.ram.is_overlap.Given as goal

abbrev pub invariant-loop-w : goal.invariant-loop-w
invariant-loop-w l = record {
  rest : is_overlap (map window_of (drop l.w-index l.windows)) (window l.base l.lines) ≡ is_overlap (map window_of l.windows) (window l.base l.lines);
  bounded : All (λ w. window_end w ≤ 2 ^ 52) (map window_of (drop l.w-index l.windows));
}
