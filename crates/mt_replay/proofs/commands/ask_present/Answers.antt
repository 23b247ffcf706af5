use Rattle.std.proofs.Common.{◌≡◌, sym, subst, slice_get, Some}
use Rattle.mt_tlb.specs.declared.mapping.Mapping.{Mapping}
use Rattle.mt_machine.specs.declared.control.Control.TheVariants as control_of
use Rattle.mt_machine.specs.Machine.{FitsControl}
use Rattle.mt_machine.specs.System.{Processor}
use Rattle.mt_script.specs.declared.command.Ask.TheVariants as ask
use Rattle.mt_replay.specs.Doing.{CanAsk}
use Rattle.mt_replay.proofs.commands.ask_present.Goals as goal

pub control-requires-clause-fits : goal.control-requires-clause-fits
control-requires-clause-fits c =
    let can : CanAsk c.args.core.now c.args.k (ask.Map c.in-Map.asked) = subst (CanAsk c.args.core.now c.args.k) c.in-Map.is c.requires.fits in
    subst (λ (x : Mapping). (p : Processor) → slice_get c.args.core.now.system.processors c.args.k ≡ Some p → FitsControl p (control_of.Map x)) (sym c.mapping.ensures) can
