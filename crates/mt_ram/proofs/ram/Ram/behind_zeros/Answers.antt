use Rattle.std.proofs.Common.{◌∙◌, ◌-◌, ◌++◌, ap, sym, inl, inr, drop, length, replicate}
use Rattle.std.proofs.lemmas.Bool.{eqb-false}
use Rattle.std.proofs.lemmas.List.{take_rest}
use Rattle.mt_machine.specs.Memory as machine
use Rattle.mt_ram.proofs.Front.{behind_zeros}
use Rattle.mt_ram.proofs.ram.Ram.behind_zeros.Goals as goal

pub returns-else-is_empty : goal.returns-else-is_empty
returns-else-is_empty c =
    take_rest c.deref.result.now (18 - c.args.n)
    ∙ ap (drop (18 - c.args.n)) c.deref.ensures.value
    ∙ elim c.self.invariant.front [
      | inl e ↦ absurd (eqb-false _ _ (sym c.is_empty.ensures ∙ c.if-is_empty.false) (c.self.inside.words.ok.0 ∙ ap length e))
      | inr e ↦ behind_zeros 18 c.args.n c.self.inside.words.items c.requires e
    ]
    ∙ ap (λ (m : machine.Memory). replicate c.args.n 0 ++ m.words) c.self.view_is
