use Rattle.std.proofs.Common.{sym, subst}
use Rattle.mt_regs.specs.Faults.{IsAccepted}
use Rattle.mt_regs.specs.StartFiles.{AreStartFiles}
use Rattle.mt_cli.proofs.Owning.{start_accepted}
use Rattle.mt_cli.proofs.measured.bare_core.Goals as goal

pub start-requires-clause-start : goal.start-requires-clause-start
start-requires-clause-start c =
    subst AreStartFiles (sym c.as_slice.ensures.value)
    (c.copies-files.ensures.start (subst IsAccepted (sym c.file_of-file.ensures) start_accepted))
