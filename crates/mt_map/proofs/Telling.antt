-- What a run leaves, by what was read.
use Rattle.std.proofs.Common.{◌≡◌, List, [], ℕ, Option, None, Some, refl}
use Rattle.std.specs.Prelude.{codes}
use Rattle.mt_ports.specs.declared.status.Status.{Status}
use Rattle.mt_ports.specs.declared.status.Status.TheVariants.{BadText, Done, Usage}
use Rattle.mt_dump.specs.Dumps.{Dump}
use Rattle.mt_dump.specs.Dump.{Shown}
use Rattle.mt_dump.specs.Reader.{dump_offence}
use Rattle.mt_dump.specs.declared.fault.DumpFault.{DumpFault}
use Rattle.mt_output.specs.Lines.{bad_text_line, line}
use Rattle.mt_output.specs.Written.{Writes}
use Rattle.mt_output.specs.Ports.{change, held}
use Rattle.mt_map.specs.declared.asked.Asked.{Asked}
use Rattle.mt_map.specs.declared.asked.Asked.TheVariants.{Help, Picture, Version}
use Rattle.mt_map.specs.Asked.{help_text, version_text}
use Rattle.mt_map.specs.Map.{MapOf, Maps, TellsOutput, bad_text, mapped, no_memory, printed, told, usage, writes}

pub told_usage : (asked : Option Asked) (bytes : List ℕ) (left old new : Option (List ℕ)) (result : Status) → asked ≡ None → left ≡ Some bytes → Writes (line (codes "usage")) Usage old new result
    → Maps asked (held bytes left) (change old new) result
told_usage asked bytes left old new result none is by = told (rw none is) (writes (line (codes "usage")) Usage (usage none) by)

pub told_help : (asked : Option Asked) (bytes : List ℕ) (left old new : Option (List ℕ)) (result : Status) → asked ≡ Some Help → left ≡ Some bytes → Writes help_text Done old new result
    → Maps asked (held bytes left) (change old new) result
told_help asked bytes left old new result on is by = told (rw on is) (writes help_text Done (printed help_text (rw on refl)) by)

pub told_version : (asked : Option Asked) (bytes : List ℕ) (left old new : Option (List ℕ)) (result : Status) → asked ≡ Some Version → left ≡ Some bytes → Writes version_text Done old new result
    → Maps asked (held bytes left) (change old new) result
told_version asked bytes left old new result on is by = told (rw on is) (writes version_text Done (printed version_text (rw on refl)) by)

pub told_dump : (asked : Option Asked) (bytes : List ℕ) (dump : Dump) (left old new : Option (List ℕ)) (result : Status) → asked ≡ Some Picture → left ≡ Some [] → Shown bytes dump → TellsOutput (MapOf dump) old new result
    → Maps asked (held bytes left) (change old new) result
told_dump asked bytes dump left old new result on is shown (writes text status map by) = told (rw on is) (writes text status (mapped dump text status on shown map) by)
told_dump asked bytes dump left old new result on is shown (no_memory end same) = told (rw on is) (no_memory end same)

pub told_bad : (asked : Option Asked) (bytes : List ℕ) (fault : DumpFault) (left old new : Option (List ℕ)) (result : Status) → asked ≡ Some Picture → left ≡ Some [] → dump_offence bytes ≡ Some fault
    → Writes (bad_text_line fault) BadText old new result → Maps asked (held bytes left) (change old new) result
told_bad asked bytes fault left old new result on is offence by = told (rw on is) (writes (bad_text_line fault) BadText (bad_text fault on offence) by)
