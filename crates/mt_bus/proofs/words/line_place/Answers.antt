use Rattle.std.proofs.Common.{◌≡◌, ◌∙◌, ◌+◌, ◌*◌, ◌<◌, ◌≤◌, ◌^◌, ap, sym, arith, length, ℕ, Option, Some, None}
use Rattle.std.specs.Prelude.{IfSome}
use Rattle.std.specs.Option.{option_map}
use Rattle.mt_machine.specs.Memory.{place}
use Rattle.mt_laws.proofs.Places.{no_place}
use Rattle.mt_bus.proofs.Places.{line_place, line_within}
use Rattle.mt_bus.proofs.words.line_place.Goals as goal

pub returns-then-number-lt-PHYSICAL_LINES-clause-places : goal.returns-then-number-lt-PHYSICAL_LINES-clause-places
returns-then-number-lt-PHYSICAL_LINES-clause-places c = λ word small.
    line_place c.args.ram.now c.args.number word c.words.ensures.memory small ∙ ap (option_map (λ i. i + word)) (sym c.place.ensures.value)

pub returns-then-number-lt-PHYSICAL_LINES-clause-within : goal.returns-then-number-lt-PHYSICAL_LINES-clause-within
returns-then-number-lt-PHYSICAL_LINES-clause-within c = one c.place.result c.place.ensures.value
  where
    one : (o : Option ℕ) → o ≡ place c.args.ram.now (64 * c.args.number) → IfSome o (λ i. (i + 8 ≤ length c.args.ram.now.words) × (i + 8 < 2 ^ 64))
    one None at = tt
    one (Some i) at =
        let room = line_within c.args.ram.now c.args.number i c.words.ensures.memory (sym at) in
        (room, omega (arith, room))

pub returns-else-number-lt-PHYSICAL_LINES-clause-places : goal.returns-else-number-lt-PHYSICAL_LINES-clause-places
returns-else-number-lt-PHYSICAL_LINES-clause-places c = λ word small. no_place c.args.ram.now c.args.number word c.words.ensures.memory c.if-number-lt-PHYSICAL_LINES.false
