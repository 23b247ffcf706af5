use Rattle.std.proofs.Common.{◌≡◌, ◌∙◌, refl, sym, subst, inl, inr, arith}
use Rattle.std.specs.Prelude.{nat_lt}
use Rattle.std.proofs.lemmas.Bool.{and_parts, cases_lt, ltb-true}
use Rattle.mt_regs.specs.RegisterFile.{is_fixed_enabled}
use Rattle.mt_regs.specs.PageTypes.{page_type}
use Rattle.mt_mend.specs.Wishes.{wished_type}
use Rattle.mt_mend.proofs.fixed.first_unmet.Goals as goal

pub loop-page-preserved : goal.loop-page-preserved
loop-page-preserved c =
    λ other below. elim (cases_lt other c.loop-page.page) [
      | inl earlier ↦ c.loop-page.invariant other earlier
      | inr later ↦
          let at : c.loop-page.page ≡ other = omega (arith, below, later) in
          subst (λ p. page_type c.args.file.now p ≡ wished_type c.args.f.now c.args.wishes.now p) at
          (sym c.page_type.ensures ∙ c.if-not-is.ensures.0 refl ∙ c.wished_type.ensures)
    ]

pub returns-clause-none : goal.returns-clause-none
returns-clause-none c =
    λ page free.
    let parts = and_parts (is_fixed_enabled c.args.f.now) (nat_lt page 256) free in
    c.loop-page.invariant page (omega (arith, c.loop-page-test.false, ltb-true page 256 parts.1))
