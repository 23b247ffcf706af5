use Rattle.std.proofs.Common.{◌≡◌, ◌∙◌, ap, sym, subst, false}
use Rattle.std.specs.Prelude.{◌↔◌}
use Rattle.std.specs.List.{AllPass}
use Rattle.mt_regs.specs.RegisterFile.{pair_at}
use Rattle.mt_proc.specs.Applied.{IsGoodRange, applied}
use Rattle.mt_ranges.specs.Match.{is_valid}
use Rattle.mt_proc.specs.declared.applying.Applied.{Applied}
use Rattle.mt_proc.specs.declared.applying.Applied.TheVariants.{BadRange, NoneFree, NotUsed}
use Rattle.mt_proc.proofs.Free.{full_exactly, not_used_exactly, takes_least}
use Rattle.mt_proc.proofs.Sizes.{bad_exactly}
use Rattle.mt_proc.proofs.applying.apply.Goals as goal

pub returns-clause-bad_range : goal.returns-clause-bad_range
returns-clause-bad_range c = λ base size kind is.
    subst (λ (a : Applied). (a ≡ BadRange) ↔ (IsGoodRange c.args.f.now.width base size → ⊥)) (ap (applied c.args.f.now) (sym is) ∙ sym c.change.ensures)
    (bad_exactly c.args.f.now base size kind c.is_register_file.ensures.narrow)

pub returns-clause-least : goal.returns-clause-least
returns-clause-least c = λ base size kind file n is answer. takes_least c.args.f.now base size kind file n (ap (applied c.args.f.now) (sym is) ∙ sym c.change.ensures ∙ answer)

pub returns-clause-none_free : goal.returns-clause-none_free
returns-clause-none_free c = λ base size kind is.
    subst (λ (a : Applied). (a ≡ NoneFree) ↔ (IsGoodRange c.args.f.now.width base size × AllPass is_valid c.args.f.now.pairs)) (ap (applied c.args.f.now) (sym is) ∙ sym c.change.ensures)
    (full_exactly c.args.f.now base size kind c.is_register_file.ensures.narrow)

pub returns-clause-not_used : goal.returns-clause-not_used
returns-clause-not_used c = λ n is.
    subst (λ (a : Applied). (a ≡ NotUsed) ↔ (is_valid (pair_at c.args.f.now.pairs n) ≡ false)) (ap (applied c.args.f.now) (sym is) ∙ sym c.change.ensures)
    (not_used_exactly c.args.f.now n)
