use Rattle.std.proofs.Common.{refl, inl, inr}
use Rattle.std.proofs.lemmas.Result.{err_from_is_err_and}
use Rattle.mt_mend.proofs.settled.fixed_file.Goals as goal

pub returns-in_err-check_wishes-clause-err : goal.returns-in_err-check_wishes-clause-err
returns-in_err-check_wishes-clause-err c =
    let p = err_from_is_err_and c.from_residual.result c.from_residual.ensures.1 in
    rw (p.1, p.2) (λ chunk spare. (c.args.f.now, refl, inl (c.in_err-check_wishes.ensures.err chunk spare)))

pub returns-in_err-check_registers-clause-err : goal.returns-in_err-check_registers-clause-err
returns-in_err-check_registers-clause-err c =
    let p = err_from_is_err_and c.from_residual-in_err-check_registers.result c.from_residual-in_err-check_registers.ensures.1 in
    rw (p.1, p.2) (λ chunk spare. (c.args.f.now, refl, inl (c.in_err-check_registers.ensures.err c.args.wishes.now chunk spare c.in_ok-check_wishes.ensures.ok)))

pub returns-in-Some-clause-err : goal.returns-in-Some-clause-err
returns-in-Some-clause-err c = λ chunk spare. (c.with_fixed-start.result, c.with_fixed-start.ensures, inr c.in-Some.ensures.some)
