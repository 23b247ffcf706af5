use Rattle.std.proofs.Common.{[], refl, sym, ◌≡◌, ℕ, List, Some, IfOk, MatchResult, Result, Ok, Err}
use Rattle.mt_dump.specs.Dump.{Shown, said_from}
use Rattle.mt_dump.specs.Dumps.{Dump}
use Rattle.mt_dump.specs.Reader.{dump_offence, read_from, read_text}
use Rattle.mt_dump.specs.declared.fault.DumpFault.{DumpFault}
use Rattle.mt_dump.proofs.Ends.{reads_as}
use Rattle.mt_dump.proofs.reader.read_dump_from.Goals as goal

if_read : {F : Type 0} (bytes : List ℕ) (result : Result (Result Dump DumpFault) F) → IfOk result (λ answer. answer ≡ read_text bytes) → IfOk result (λ answer. MatchResult answer (λ dump. Shown bytes dump) (λ fault. dump_offence bytes ≡ Some fault))
if_read bytes (Ok answer) is = reads_as bytes answer (sym is)
if_read bytes (Err fault) is = tt

pub returns-clause-answer : goal.returns-clause-answer
returns-clause-answer g c = λ bytes is.
    if_read bytes c.read_lines.result (c.read_lines.ensures.answer (λ lines end. read_from end [] (said_from 1 lines)) bytes (record { before = []; read = c.new.ensures; leads = λ lines end. refl }) is)
