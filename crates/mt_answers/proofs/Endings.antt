-- With which statuses a serial command ends.
use Rattle.std.proofs.Common.{◌≡◌, ◌≢◌, ◌⊎◌, ◌∙◌, ℕ, List, Option, Some, inl, inr, refl, sym}
use Rattle.mt_ports.specs.declared.status.Status.{Status}
use Rattle.mt_ports.specs.declared.status.Status.TheVariants.{Done, Refused, Usage, BadText, ReadFault, WriteFault, NoMemory, TooLong, TooFew, Disabled}
use Rattle.mt_regs.specs.RegisterFile.{RegisterFile}
use Rattle.mt_dump.specs.Dumps.{Dump as Shows, first_file}
use Rattle.mt_answers.specs.declared.command.Command.{Command}
use Rattle.mt_answers.specs.declared.command.Command.TheVariants.{Serial}
use Rattle.mt_answers.specs.declared.command.SerialCommand.{SerialCommand}
use Rattle.mt_answers.specs.declared.command.SerialCommand.TheVariants.{Dump}
use Rattle.mt_answers.specs.declared.command.DumpCommand.{DumpCommand}
use Rattle.mt_answers.specs.Answer.{Answer, FileAnswer, MayChoose, refused, accepted, shown, about_file, typed, paged, tidied, too_few, disabled, grained, gran_too_few, gran_disabled}
use Rattle.mt_answers.specs.Statuses.{MayEnd}
use Rattle.mt_answers.specs.Written.{Answers, Makes, writes, no_memory}

-- the statuses with which a command answers about a file, and with which a transcript ends
unfoldable pub IsFinal : Status → Type 0
IsFinal status = (status ≡ Done) ⊎ (status ≡ Refused) ⊎ (status ≡ BadText) ⊎ (status ≡ TooFew) ⊎ (status ≡ Disabled)

final_of_file : (file : RegisterFile) (command : DumpCommand) (text : List ℕ) (status : Status) → FileAnswer file command text status → IsFinal status
unfolding IsFinal
final_of_file file command text status (typed runs are) = inl refl
final_of_file file command text status (paged address index) = inl refl
final_of_file file command text status (tidied spare chunk new is) = inl refl
final_of_file file command text status (too_few spare chunk needs has is) = inr (inr (inr (inl refl)))
final_of_file file command text status (disabled spare chunk off) = inr (inr (inr (inr refl)))
final_of_file file command text status (grained log spare chunk new is) = inl refl
final_of_file file command text status (gran_too_few log spare chunk needs has is) = inr (inr (inr (inl refl)))
final_of_file file command text status (gran_disabled log spare chunk off) = inr (inr (inr (inr refl)))

pub final : (dump : Shows) (command : DumpCommand) (text : List ℕ) (status : Status) → Answer dump command text status → IsFinal status
unfolding IsFinal
final dump command text status (refused other k fault tests first) = inr (inl refl)
final dump command text status (accepted good) = inl refl
final dump command text status shown = inl refl
final dump command text status (about_file other t s good answer) = final_of_file (first_file dump) other t s answer

final_cases : (dump : Shows) (command : DumpCommand) (text : List ℕ) (status : Status) → Answer dump command text status
    → (status ≡ Done) ⊎ (status ≡ Refused) ⊎ (status ≡ BadText) ⊎ (status ≡ TooFew) ⊎ (status ≡ Disabled)
unfolding IsFinal
final_cases dump command text status answer = final dump command text status answer

-- the statuses with which an answer never ends
pub never_answers : (dump : Shows) (command : DumpCommand) (old new : Option (List ℕ)) (result : Status) → Answers (Answer dump command) old new result → (result ≢ Usage) × (result ≢ ReadFault) × (result ≢ TooLong)
never_answers dump command old new result answers = by answers
  where
    but : (status : Status) → result ≡ status → (status ≢ Usage) × (status ≢ ReadFault) × (status ≢ TooLong) → (result ≢ Usage) × (result ≢ ReadFault) × (result ≢ TooLong)
    but status is others = rw is others

    by : Answers (Answer dump command) old new result → (result ≢ Usage) × (result ≢ ReadFault) × (result ≢ TooLong)
    by (writes text status answer (inl (is, takes))) = elim (final_cases dump command text status answer) [
      | inl ends ↦ but Done (is ∙ ends) (λ e. cc e, λ e. cc e, λ e. cc e)
      | inr (inl ends) ↦ but Refused (is ∙ ends) (λ e. cc e, λ e. cc e, λ e. cc e)
      | inr (inr (inl ends)) ↦ but BadText (is ∙ ends) (λ e. cc e, λ e. cc e, λ e. cc e)
      | inr (inr (inr (inl ends))) ↦ but TooFew (is ∙ ends) (λ e. cc e, λ e. cc e, λ e. cc e)
      | inr (inr (inr (inr ends))) ↦ but Disabled (is ∙ ends) (λ e. cc e, λ e. cc e, λ e. cc e)
    ]
    by (writes text status answer (inr (is, cut))) = but WriteFault is (λ e. cc e, λ e. cc e, λ e. cc e)
    by (no_memory is same) = but NoMemory is (λ e. cc e, λ e. cc e, λ e. cc e)

-- such a status is of a command that fits ranges into pairs
MayEndSo : DumpCommand → Status → Type 0
MayEndSo command status = (status ≡ TooFew → MayChoose command) × (status ≡ Disabled → MayChoose command)

file_fits : (file : RegisterFile) (command : DumpCommand) (text : List ℕ) (status : Status) → FileAnswer file command text status → MayEndSo command status
unfolding MayEndSo
file_fits file command text status (typed runs are) = (λ e. absurd (cc e), λ e. absurd (cc e))
file_fits file command text status (paged address index) = (λ e. absurd (cc e), λ e. absurd (cc e))
file_fits file command text status (tidied spare chunk new is) = (λ e. tt, λ e. tt)
file_fits file command text status (too_few spare chunk needs has is) = (λ e. tt, λ e. tt)
file_fits file command text status (disabled spare chunk off) = (λ e. tt, λ e. tt)
file_fits file command text status (grained log spare chunk new is) = (λ e. tt, λ e. tt)
file_fits file command text status (gran_too_few log spare chunk needs has is) = (λ e. tt, λ e. tt)
file_fits file command text status (gran_disabled log spare chunk off) = (λ e. tt, λ e. tt)

answer_fits : (dump : Shows) (command : DumpCommand) (text : List ℕ) (status : Status) → Answer dump command text status → MayEndSo command status
unfolding MayEndSo
answer_fits dump command text status (refused other k fault tests first) = (λ e. absurd (cc e), λ e. absurd (cc e))
answer_fits dump command text status (accepted good) = (λ e. absurd (cc e), λ e. absurd (cc e))
answer_fits dump command text status shown = (λ e. absurd (cc e), λ e. absurd (cc e))
answer_fits dump command text status (about_file other t s good answer) = file_fits (first_file dump) other t s answer

pub answers_fit : (dump : Shows) (command : DumpCommand) (old new : Option (List ℕ)) (result : Status) → Answers (Answer dump command) old new result
    → (result ≡ TooFew → MayChoose command) × (result ≡ Disabled → MayChoose command)
unfolding MayEndSo
answers_fit dump command old new result (writes text status answer (inl (is, takes))) =
    let fits : MayEndSo command status = answer_fits dump command text status answer in
    (λ e. fits.0 (sym is ∙ e), λ e. fits.1 (sym is ∙ e))
answers_fit dump command old new result (writes text status answer (inr (is, cut))) = (
  λ e. let same : WriteFault ≡ TooFew = sym is ∙ e in absurd (cc same),
  λ e. let same : WriteFault ≡ Disabled = sym is ∙ e in absurd (cc same),
)
answers_fit dump command old new result (no_memory is same) = (
  λ e. let other : NoMemory ≡ TooFew = sym is ∙ e in absurd (cc other),
  λ e. let other : NoMemory ≡ Disabled = sym is ∙ e in absurd (cc other),
)

-- a command on a dump
pub input_ends : (command : DumpCommand) (result : Status) → (result ≡ TooFew → MayChoose command) → (result ≡ Disabled → MayChoose command) → MayEnd (Some (Serial (Dump command))) result
input_ends command Done few off = tt
input_ends command Refused few off = refl
input_ends command Usage few off = tt
input_ends command BadText few off = refl
input_ends command ReadFault few off = refl
input_ends command WriteFault few off = tt
input_ends command NoMemory few off = tt
input_ends command TooLong few off = refl
input_ends command TooFew few off = (command, refl, few refl)
input_ends command Disabled few off = (command, refl, off refl)

-- ---- a command that writes its own text

-- a text that numbers determine, or that is one for all
pub OwnEnds : Status → Type 0
OwnEnds result = (result ≡ Done) ⊎ (result ≡ WriteFault) ⊎ (result ≡ NoMemory)

pub makes_own : (text : List ℕ) (old new : Option (List ℕ)) (result : Status) → Makes text old new result → OwnEnds result
unfolding OwnEnds
makes_own text old new result (inl (inl (is, takes))) = inl is
makes_own text old new result (inl (inr (is, cut))) = inr (inl is)
makes_own text old new result (inr (is, same)) = inr (inr is)

pub written_own : (result : Status) → (result ≡ Done) ⊎ (result ≡ WriteFault) → OwnEnds result
unfolding OwnEnds
written_own result (inl is) = inl is
written_own result (inr is) = inr (inl is)

pub own_ends : (command : Option Command) (result : Status) → OwnEnds result → MayEnd command result
unfolding OwnEnds
own_ends command result (inl is) = rw is tt
own_ends command result (inr (inl is)) = rw is tt
own_ends command result (inr (inr is)) = rw is tt

pub never_own : (result : Status) → OwnEnds result → (result ≢ Usage) × (result ≢ ReadFault) × (result ≢ TooLong)
unfolding OwnEnds
never_own result (inl is) = rw is (λ e. cc e, λ e. cc e, λ e. cc e)
never_own result (inr (inl is)) = rw is (λ e. cc e, λ e. cc e, λ e. cc e)
never_own result (inr (inr is)) = rw is (λ e. cc e, λ e. cc e, λ e. cc e)

pub keeps_memory : (result : Status) → (result ≡ Done) ⊎ (result ≡ WriteFault) → result ≢ NoMemory
keeps_memory result (inl is) = rw is (λ e. cc e)
keeps_memory result (inr is) = rw is (λ e. cc e)

-- one command on a dump
pub one_dump : (command : SerialCommand) (own asked : DumpCommand) → command ≡ Dump own → command ≡ Dump asked → own ≡ asked
one_dump command own asked is says = let e : Dump own ≡ Dump asked = sym is ∙ says in cc e
