use Rattle.std.proofs.Common.{◌≡◌, ◌∙◌, true, false, ap, sym, arith}
use Rattle.mt_tidy.proofs.own_map.are_defined.Goals as goal

pub returns-then-is_undefined : goal.returns-then-is_undefined
returns-then-is_undefined c = (
  λ yes. let none : false ≡ true = yes in absurd (cc none),
  λ all.
      absurd
      (all c.loop-i.i c.run_at.result (omega (arith, c.loop-i-test.true, c.count-i-end.ensures))
      (sym (ap (λ r. r.kind) (c.run_at.ensures c.run_at.result)) ∙ c.is_undefined.ensures.0 c.if-is_undefined.true)),
)
