-- The line about an offence is one line.
use Rattle.std.proofs.Common.{refl, codes}
use Rattle.mt_output.proofs.Inside.{IsInside, IsLineOf, bad_text_is_line, dump_reason_inside, plain}
use Rattle.mt_output.specs.Lines.{dump_reason_text}
use Rattle.mt_script.specs.Lines.{offence_line, script_reason_text}
use Rattle.mt_script.specs.declared.fault.ScriptReason.{ScriptReason}
use Rattle.mt_script.specs.declared.fault.ScriptReason.TheVariants as script
use Rattle.mt_script.specs.declared.fault.Offence.{Offence}
use Rattle.mt_script.specs.declared.fault.Offence.TheVariants as offence

script_reason_inside : (reason : ScriptReason) → IsInside (script_reason_text reason)
script_reason_inside script.BadLine = plain _ refl
script_reason_inside script.BadNumber = plain _ refl
script_reason_inside script.UnknownRegister = plain _ refl
script_reason_inside script.OutOfRange = plain _ refl
script_reason_inside script.NoEnd = plain _ refl
script_reason_inside script.NotNow = plain _ refl
script_reason_inside script.Repeated = plain _ refl

pub offence_is_line : (o : Offence) → IsLineOf (codes "bad text ") (offence_line o)
offence_is_line (offence.Script fault) = bad_text_is_line fault.place (script_reason_text fault.reason) (script_reason_inside fault.reason)
offence_is_line (offence.Dump fault) = bad_text_is_line fault.place (dump_reason_text fault.reason) (dump_reason_inside fault.reason)
