-- The lines that more than one command writes (own). Each ends with LF.
use Rattle.std.specs.Prelude.{ℕ, ◌==◌, List, [], ◌∷◌, ◌++◌, codes, decimal, drop, if◌then◌else◌}
use Rattle.mt_regs.specs.declared.fault.Fault.{Fault}
use Rattle.mt_regs.specs.declared.fault.Reason.{Reason}
use Rattle.mt_regs.specs.declared.fault.Reason.TheVariants.{ReservedBit, UnsupportedType, BrokenMask, UndefinedOverlap}
use Rattle.mt_text.specs.declared.place.Place.{Place}
use Rattle.mt_dump.specs.Canon.{number_text, value_text}
use Rattle.mt_dump.specs.declared.fault.DumpFault.{DumpFault}
use Rattle.mt_dump.specs.declared.fault.DumpReason.{DumpReason}
use Rattle.mt_dump.specs.declared.fault.DumpReason.TheVariants as dump

abbrev pub line : List ℕ → List ℕ
line text = text ++ 10 ∷ []

abbrev pub usage_line : List ℕ
usage_line = line (codes "usage")

abbrev pub accepted_line : List ℕ
accepted_line = line (codes "accepted")

abbrev pub reason_text : Reason → List ℕ
reason_text ReservedBit = codes "reserved bit"
reason_text UnsupportedType = codes "unsupported type"
reason_text BrokenMask = codes "broken mask"
reason_text UndefinedOverlap = codes "undefined overlap"

-- the register at fault and the reason
abbrev pub refused_line : Fault → List ℕ
refused_line fault = line (codes "refused " ++ number_text fault.msr ++ codes " " ++ reason_text fault.reason)

-- the processor, the register at fault and the reason
abbrev pub refused_cpu_line : ℕ → Fault → List ℕ
refused_cpu_line k fault = line (codes "refused cpu " ++ decimal k ++ codes " " ++ number_text fault.msr ++ codes " " ++ reason_text fault.reason)

-- the line about file k of a dump of a version; version 1 has one file, and the line names no processor
abbrev pub dump_refused_line : ℕ → ℕ → Fault → List ℕ
dump_refused_line version k fault = if version == 2 then refused_cpu_line k fault else refused_line fault

abbrev pub dump_reason_text : DumpReason → List ℕ
dump_reason_text dump.BadLine = codes "bad line"
dump_reason_text dump.BadNumber = codes "bad number"
dump_reason_text dump.UnknownRegister = codes "unknown register"
dump_reason_text dump.Repeated = codes "repeated"
dump_reason_text dump.NoCap = codes "no cap"
dump_reason_text dump.BadWidth = codes "bad width"
dump_reason_text dump.TooManyPairs = codes "too many pairs"
dump_reason_text dump.BadVersion = codes "bad version"
dump_reason_text dump.BadSection = codes "bad section"
dump_reason_text dump.Differs = codes "differs"

-- line, column and reason of an offence
abbrev pub bad_text : Place → List ℕ → List ℕ
bad_text place reason =
    line (codes "bad text " ++ decimal place.line ++ codes ":" ++ decimal place.column ++ codes " " ++ reason)

abbrev pub bad_text_line : DumpFault → List ℕ
bad_text_line fault = bad_text fault.place (dump_reason_text fault.reason)

-- an address in thirteen digits, which is 52 bits
abbrev pub address_text : ℕ → List ℕ
address_text address = drop 3 (value_text address)
