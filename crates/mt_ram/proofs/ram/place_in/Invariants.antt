use Rattle.std.proofs.Common.{◌≡◌, ◌≤◌, ◌+◌, ◌^◌, map, drop}
use Rattle.std.specs.List.{All}
use Rattle.mt_machine.specs.Memory.{place_in, window_end, word_count}
use Rattle.mt_ram.specs.Windows.{window_of}
use Rattle.mt_ram.proofs.ram.place_in.Given as goal

abbrev pub invariant-loop-w : goal.invariant-loop-w
invariant-loop-w l = record {
  rest : place_in (map window_of (drop l.w-index l.windows)) l.before l.address ≡ place_in (map window_of l.windows) 0 l.address;
  bounded : All (λ w. window_end w ≤ 2 ^ 52) (map window_of (drop l.w-index l.windows));
  few : l.before + word_count (map window_of (drop l.w-index l.windows)) ≤ 32768;
}
