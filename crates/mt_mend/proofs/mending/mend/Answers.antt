use Rattle.std.proofs.Common.{ap, subst, sym, take, ◌∙◌}
use Rattle.std.proofs.lemmas.Result.{err_from_is_err_and}
use Rattle.mt_regs.specs.Faults.{IsAccepted}
use Rattle.mt_regs.specs.RegisterFile.{RegisterFile, is_enabled}
use Rattle.mt_tidy.specs.Packed.{runs_of}
use Rattle.mt_tidy.specs.Tidied.{IsTidied, IsTooFew, tidying}
use Rattle.mt_tidy.specs.Wanted.{IsWanted}
use Rattle.mt_mend.proofs.Bare.{bare_accepted}
use Rattle.mt_mend.proofs.Granted.{each_given, map_wanted, mended}
use Rattle.mt_mend.proofs.mending.mend.Goals as goal

pub returns-in_err-check_wishes-clause-err : goal.returns-in_err-check_wishes-clause-err
returns-in_err-check_wishes-clause-err c =
    let p = err_from_is_err_and c.from_residual.result c.from_residual.ensures.1 in
    rw (p.1, p.2) (c.in_err-check_wishes.ensures.err c.args.chunk c.args.spare)

pub returns-in_err-check_registers-clause-err : goal.returns-in_err-check_registers-clause-err
returns-in_err-check_registers-clause-err c =
    let p = err_from_is_err_and c.from_residual-in_err-check_registers.result c.from_residual-in_err-check_registers.ensures.1 in
    rw (p.1, p.2) (c.in_err-check_registers.ensures.err c.args.wishes.now c.args.chunk c.args.spare c.in_ok-check_wishes.ensures.ok)

pub returns-in_err-check_fixed-clause-err : goal.returns-in_err-check_fixed-clause-err
returns-in_err-check_fixed-clause-err c =
    let p = err_from_is_err_and c.from_residual-in_err-check_fixed.result c.from_residual-in_err-check_fixed.ensures.1 in
    let registers = c.in_ok-check_registers.ensures.ok in
    rw (p.1, p.2)
    (c.in_err-check_fixed.ensures.err c.args.chunk c.args.spare
    (record { are_wishes = c.in_ok-check_wishes.ensures.ok; checked = registers.0; enabled = registers.1 }))

pub returns-in_err-check_runs-clause-err : goal.returns-in_err-check_runs-clause-err
returns-in_err-check_runs-clause-err c =
    let p = err_from_is_err_and c.from_residual-in_err-check_runs.result c.from_residual-in_err-check_runs.ensures.1 in
    let registers = c.in_ok-check_registers.ensures.ok in
    rw (p.1, p.2)
    (c.in_err-check_runs.ensures.err c.args.wishes.now c.args.chunk c.args.spare
    (record { are_wishes = c.in_ok-check_wishes.ensures.ok; checked = registers.0; enabled = registers.1 }) c.wished_runs-count.ensures.map)

pub fit-requires-clause-accepted : goal.fit-requires-clause-accepted
fit-requires-clause-accepted c = subst IsAccepted (sym c.bare_file-bare.ensures) (bare_accepted c.args.f.now c.in_ok-check_registers.ensures.ok.0)

pub fit-requires-clause-enabled : goal.fit-requires-clause-enabled
fit-requires-clause-enabled c = ap is_enabled c.bare_file-bare.ensures ∙ c.in_ok-check_registers.ensures.ok.1

pub fit-requires-clause-wanted : goal.fit-requires-clause-wanted
fit-requires-clause-wanted c =
    subst (λ (g : RegisterFile). IsWanted g (runs_of (take c.wished_runs-count.result c.wished_runs-count.new.runs))) (sym c.bare_file-bare.ensures)
    (map_wanted c.args.f.now c.args.wishes.now (runs_of (take c.wished_runs-count.result c.wished_runs-count.new.runs)) c.wished_runs-count.ensures.map c.in_ok-check_runs.ensures.ok)

pub returns-in-Ok-clause-ok : goal.returns-in-Ok-clause-ok
returns-in-Ok-clause-ok c =
    let f = c.args.f.now in
    let registers = c.in_ok-check_registers.ensures.ok in
    let map = c.wished_runs-count.ensures.map in
    mended (tidying f c.args.chunk c.args.spare) c.args.wishes.now (record { are_wishes = c.in_ok-check_wishes.ensures.ok; checked = registers.0; enabled = registers.1 })
    c.in_ok-check_fixed.ensures.ok (runs_of (take c.wished_runs-count.result c.wished_runs-count.new.runs)) map (each_given f c.args.wishes.now (runs_of (take c.wished_runs-count.result c.wished_runs-count.new.runs)) map c.in_ok-check_runs.ensures.ok) c.in-Ok.tidied
    (subst (λ (g : RegisterFile). IsTidied (tidying g c.args.chunk c.args.spare) (runs_of (take c.wished_runs-count.result c.wished_runs-count.new.runs)) c.in-Ok.tidied) c.bare_file-bare.ensures c.in-Ok.ensures.ok)

pub returns-in-Err-clause-err : goal.returns-in-Err-clause-err
returns-in-Err-clause-err c =
    let f = c.args.f.now in
    let registers = c.in_ok-check_registers.ensures.ok in
    let map = c.wished_runs-count.ensures.map in
    record {
      ready = record { are_wishes = c.in_ok-check_wishes.ensures.ok; checked = registers.0; enabled = registers.1 };
      given = each_given f c.args.wishes.now (runs_of (take c.wished_runs-count.result c.wished_runs-count.new.runs)) map c.in_ok-check_runs.ensures.ok;
      wanted = runs_of (take c.wished_runs-count.result c.wished_runs-count.new.runs);
      map = map;
      few = subst (λ (g : RegisterFile). IsTooFew (tidying g c.args.chunk c.args.spare) (runs_of (take c.wished_runs-count.result c.wished_runs-count.new.runs)) c.in-Err.field-0.needs c.in-Err.field-0.has) c.bare_file-bare.ensures c.in-Err.ensures.err;
    }
