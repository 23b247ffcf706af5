-- From the text that was written to what a command answers.
use Rattle.std.proofs.Common.{◌≡◌, ℕ, List, None, Option, subst}
use Rattle.mt_ports.specs.declared.status.Status.{Status}
use Rattle.mt_regs.specs.RegisterFile.{RegisterFile}
use Rattle.mt_regs.specs.Agreement.{first_refusal}
use Rattle.mt_dump.specs.Dumps.{Dump, first_file}
use Rattle.mt_answers.specs.declared.command.DumpCommand.{DumpCommand}
use Rattle.mt_answers.specs.Answer.{Answer, FileAnswer, about_file}
use Rattle.mt_output.specs.Written.{Writes}
use Rattle.mt_answers.specs.Written.{Answers, writes, no_memory}

pub answers_with : (answer : List ℕ → Status → Type 0) (text written : List ℕ) (status : Status) (old new : Option (List ℕ)) (result : Status)
    → answer text status → written ≡ text → Writes written status old new result → Answers answer old new result
answers_with answer text written status old new result is same wrote =
    writes text status is (subst (λ (t : List ℕ). Writes t status old new result) same wrote)

-- what is answered about processor 0's file is answered about the dump
pub answers_about : (dump : Dump) (command : DumpCommand) (file : RegisterFile) (old new : Option (List ℕ)) (result : Status)
    → first_refusal dump.files ≡ None → file ≡ first_file dump → Answers (FileAnswer file command) old new result → Answers (Answer dump command) old new result
answers_about dump command file old new result good same (writes text status answer wrote) =
    writes text status (about_file command text status good (subst (λ f. FileAnswer f command text status) same answer)) wrote
answers_about dump command file old new result good same (no_memory is kept) = no_memory is kept
