use Rattle.std.proofs.Common.{◌≡◌, ◌≤◌, ◌+◌, ◌++◌, length, map, take}
use Rattle.std.specs.List.{All}
use Rattle.mt_regs.specs.Registers.{HasThreeDigits, number_of, writable}
use Rattle.mt_import.proofs.missing.push_registers.Given as goal

abbrev pub invariant-registers : goal.invariant-registers
invariant-registers l = record {
  text : l.numbers.items ≡ l.initial.numbers.items ++ map number_of (take l.i (writable l.file));
  each : All HasThreeDigits l.numbers.items;
  short : length l.numbers.items ≤ 1 + l.i;
}
