-- Texts that read back by the name of their format do so by `auto` too, if it takes this format.
use Rattle.std.proofs.Common.{◌≡◌, ◌∙◌, ℕ, true, List, Some, ap}
use Rattle.std.specs.List.{AllByRecursion, list_all}
use Rattle.mt_text.proofs.Plain.{is_plain}
use Rattle.mt_dump.specs.Canon.{ended}
use Rattle.mt_dump.specs.Dumps.{Dump}
use Rattle.mt_import.specs.declared.format.Choice.TheVariants.{Only}
use Rattle.mt_import.specs.declared.format.Format.{Format}
use Rattle.mt_import.specs.Import.{log_outcome}
use Rattle.mt_import.specs.Supplied.{Supplied}
use Rattle.mt_import_laws.specs.FirstLine.{takes}
use Rattle.mt_import_laws.specs.Printed.{ReadsAs, TextReadsAs}
use Rattle.mt_import_laws.proofs.PrintedBack.{lines_back}
use Rattle.mt_import_laws.proofs.Taken.{auto_comes}

pub text_as : (format : Format) (supplied : Supplied) (wanted : Dump) (lines : List (List ℕ)) → AllByRecursion (λ line. list_all is_plain line ≡ true) lines → takes lines ≡ Some format
    → ReadsAs (log_outcome (Only format) supplied (ended lines)) wanted → TextReadsAs format (ended lines) supplied wanted
text_as format supplied wanted lines plain takes_it reads =
    let same = auto_comes format supplied (ended lines) (ap takes (lines_back lines plain) ∙ takes_it) in
    record { by_name = reads; by_auto = record { status = same.status ∙ reads.status; dump = same.dump ∙ reads.dump } }
