use Rattle.std.proofs.Common.{◌≡◌, ◌∙◌, ap, sym, subst, Some}
use Rattle.std.specs.Prelude.{slice_get}
use Rattle.mt_tlb.specs.declared.mapping.Mapping.{Mapping}
use Rattle.mt_machine.specs.declared.control.Control.TheVariants.{Map}
use Rattle.mt_machine.specs.Control.{control}
use Rattle.mt_machine.specs.Machine.{FitsControl, Machine}
use Rattle.mt_cli.specs.Measured.{own_page}
use Rattle.mt_cli.proofs.Owning.{fits_own}
use Rattle.mt_cli.proofs.measured.add_own.Goals as goal

pub control-requires-clause-fits : goal.control-requires-clause-fits
control-requires-clause-fits c p at =
    let there : slice_get c.args.core.now.system.processors c.args.k ≡ Some p = ap (λ (m : Machine). slice_get m.system.processors c.args.k) (sym c.in-Ok.ensures.added) ∙ at in
    subst (λ (x : Mapping). FitsControl p (Map x)) (sym c.own_page.ensures)
    (fits_own c.args.core.now c.args.k c.requires.few c.requires.kind p there)

pub returns : goal.returns
returns c =
    let k = c.args.k in
    record {
      added =
          c.control.ensures.after
          ∙ ap (λ (x : Mapping). record c.add_window.new.core { system = (control c.add_window.new.core.system k (Map x)).after }) c.own_page.ensures
          ∙ ap (λ (m : Machine). record m { system = (control m.system k (Map (own_page k))).after }) c.in-Ok.ensures.added;
    }
