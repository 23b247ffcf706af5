use Rattle.std.proofs.Common.{subst}
use Rattle.std.specs.Result.{IfOk}
use Rattle.mt_script.specs.Accept.{Fits}
use Rattle.mt_script.proofs.Fitting.{command_fits}
use Rattle.mt_text_laws.proofs.script_laws.a_command_fits.Goals as goal

pub returns : goal.returns
returns c = λ now number line command is. subst (λ answer. IfOk answer (Fits now)) is (command_fits now number line)
