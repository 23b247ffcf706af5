-- The line about an offence of a script (own). It ends with LF.
use Rattle.std.specs.Prelude.{ℕ, List, codes}
use Rattle.mt_output.specs.Lines.{bad_text, bad_text_line}
use Rattle.mt_script.specs.declared.fault.ScriptFault.{ScriptFault}
use Rattle.mt_script.specs.declared.fault.ScriptReason.{ScriptReason}
use Rattle.mt_script.specs.declared.fault.ScriptReason.TheVariants as script
use Rattle.mt_script.specs.declared.fault.Offence.{Offence}
use Rattle.mt_script.specs.declared.fault.Offence.TheVariants.{Script, Dump}

abbrev pub script_reason_text : ScriptReason → List ℕ
script_reason_text script.BadLine = codes "bad line"
script_reason_text script.BadNumber = codes "bad number"
script_reason_text script.UnknownRegister = codes "unknown register"
script_reason_text script.OutOfRange = codes "out of range"
script_reason_text script.NoEnd = codes "no end"
script_reason_text script.NotNow = codes "not now"
script_reason_text script.Repeated = codes "repeated"

abbrev pub bad_script_line : ScriptFault → List ℕ
bad_script_line fault = bad_text fault.place (script_reason_text fault.reason)

abbrev pub offence_line : Offence → List ℕ
offence_line (Script fault) = bad_script_line fault
offence_line (Dump fault) = bad_text_line fault
