use Rattle.mt_regs.specs.Registers.{HasThreeDigits}
use Rattle.std.proofs.Common.{ℕ}
use Rattle.std.proofs.lemmas.List.Elements.{All-push}
use Rattle.mt_import.proofs.Words.{sound_push}
use Rattle.mt_import.proofs.supplied.Supplied.add.Goals as goal

pub invariant_of-self-in-Register : goal.invariant_of-self-in-Register
invariant_of-self-in-Register c =
    let given = rw c.in-Register.is at c.requires.given in
    rw c.push.ensures.items (record {
      numbers = All-push (λ (register : ℕ × ℕ). HasThreeDigits register.0) c.self.inside.registers.items (c.in-Register.number, c.in-Register.value) c.self.invariant.numbers given.0;
      width = c.self.invariant.width;
      pairs = sound_push c.self.inside.registers.items c.in-Register.number c.in-Register.value given.1 c.self.invariant.pairs;
    })
