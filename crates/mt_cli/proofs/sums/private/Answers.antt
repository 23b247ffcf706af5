use Rattle.std.proofs.Common.{◌∙◌, List, inl, subst, ℕ}
use Rattle.mt_ports.specs.declared.status.Status.TheVariants.{Done}
use Rattle.mt_output.specs.Written.{Writes}
use Rattle.mt_cli.proofs.sums.private.Goals as goal

pub returns-in-Ok-clause-bytes : goal.returns-in-Ok-clause-bytes
returns-in-Ok-clause-bytes g c =
    inl (subst (λ (t : List ℕ). Writes t Done (g.K.Sink.taken c.args.sink.now) (g.K.Sink.taken c.written.new.sink) c.written.result) (c.as_slice.ensures.value ∙ c.in-Ok.ensures) c.written.ensures.bytes)
