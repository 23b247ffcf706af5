-- What it gives that a processor can take any step towards a goal.
use Rattle.std.proofs.Common.{◌≡◌, ◌<◌, ◌-◌, ◌^◌, nat_lt, true}
use Rattle.std.specs.List.{list_all}
use Rattle.std.proofs.lemmas.Bool.{and_parts, eqb-true, ltb-true}
use Rattle.mt_cache.specs.declared.line.CacheLine.{CacheLine}
use Rattle.mt_regs.specs.RegisterFile.{RegisterFile}
use Rattle.mt_machine.specs.System.{Processor}
use Rattle.mt_machine.specs.Machine.{FitsGoal}
use Rattle.mt_list_machine.specs.Calls.{is_fit}

pub fits : (goal : RegisterFile) (p : Processor) → is_fit goal p ≡ true → FitsGoal goal p
fits goal p fit =
    let kind = and_parts _ _ (and_parts _ _ (and_parts _ _ fit).0).0 in
    record { width = eqb-true _ _ kind.0; capabilities = eqb-true _ _ kind.1 }

pub has_room : (goal : RegisterFile) (p : Processor) → is_fit goal p ≡ true → p.era < 2 ^ 64 - 1
has_room goal p fit = ltb-true _ _ (and_parts _ _ (and_parts _ _ fit).0).1

pub has_numbers : (goal : RegisterFile) (p : Processor) → is_fit goal p ≡ true → list_all (λ (l : CacheLine). nat_lt l.number (2 ^ 46)) p.lines ≡ true
has_numbers goal p fit = (and_parts _ _ fit).1
