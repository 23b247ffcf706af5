-- Each command line and each input have an output.
use Rattle.std.proofs.Common.{◌≡◌, ℕ, Bool, true, false, List, Option, Some, None, refl, inl, inr}
use Rattle.mt_ports.specs.declared.status.Status.{Status}
use Rattle.mt_regs.specs.declared.fault.Fault.{Fault}
use Rattle.mt_regs.specs.RegisterFile.{IsRegisterFile, RegisterFile, is_enabled}
use Rattle.mt_regs.specs.Faults.{IsAccepted}
use Rattle.mt_regs.specs.Agreement.{first_refusal}
use Rattle.mt_types.proofs.SomeMap.{a_type_map}
use Rattle.mt_dump.specs.Dumps.{Dump as Shows, IsDump, first_file}
use Rattle.mt_dump.proofs.Ends.{read_exactly, read_offence, shown_dump, shown_or_offence}
use Rattle.mt_answers.proofs.FirstFiles.{first_is_accepted, first_is_file}
use Rattle.mt_tidy.specs.Tidied.{tidying}
use Rattle.mt_types_laws.proofs.SomeTidy.{tidy_or_more}
use Rattle.mt_types_laws.proofs.SomeRounding.{rounded_or_more}
use Rattle.mt_answers.specs.declared.command.Command.{Command}
use Rattle.mt_answers.specs.declared.command.Command.TheVariants.{Serial, Threaded}
use Rattle.mt_answers.specs.declared.command.SerialCommand.TheVariants.{Dump, Make, Help, Version}
use Rattle.mt_answers.specs.declared.command.ThreadedCommand.TheVariants.{Replay, Proc, Big, Private}
use Rattle.mt_answers.specs.declared.command.DumpCommand.{DumpCommand}
use Rattle.mt_answers.specs.declared.command.DumpCommand.TheVariants.{Check, Show, Types, Page, Tidy, Gran}
use Rattle.mt_answers.specs.CommandLine.{command_of}
use Rattle.mt_answers.specs.Answer.{Answer, FileAnswer, refused, accepted, shown, about_file, typed, paged, tidied, too_few, disabled, grained, gran_too_few, gran_disabled}
use Rattle.mt_cli.specs.Output.{Output, usage, bad_text, answered, replayed, printed, summed, measured, requested}

SomeAnswer : Shows → DumpCommand → Type 0
SomeAnswer dump command = (text : List ℕ) × (status : Status) × Answer dump command text status

SomeFileAnswer : RegisterFile → DumpCommand → Type 0
SomeFileAnswer file command = (text : List ℕ) × (status : Status) × FileAnswer file command text status

tidy_answer : (file : RegisterFile) → IsRegisterFile file → IsAccepted file → (spare chunk : ℕ) → SomeFileAnswer file (Tidy spare chunk)
unfolding SomeFileAnswer
tidy_answer file good lawful spare chunk = by_enabled (is_enabled file) refl
  where
    by_enabled : (b : Bool) → is_enabled file ≡ b → (text : List ℕ) × (status : Status) × FileAnswer file (Tidy spare chunk) text status
    by_enabled false off = (_, _, disabled spare chunk off)
    by_enabled true on = elim (tidy_or_more (tidying file chunk spare) good lawful on) [
      | inl done ↦ (_, _, tidied spare chunk done.0 done.1)
      | inr lacking ↦ (_, _, too_few spare chunk lacking.0 lacking.1 lacking.2)
    ]

gran_answer : (file : RegisterFile) → IsRegisterFile file → IsAccepted file → (log spare chunk : ℕ) → SomeFileAnswer file (Gran log spare chunk)
unfolding SomeFileAnswer
gran_answer file good lawful log spare chunk = by_enabled (is_enabled file) refl
  where
    by_enabled : (b : Bool) → is_enabled file ≡ b → (text : List ℕ) × (status : Status) × FileAnswer file (Gran log spare chunk) text status
    by_enabled false off = (_, _, gran_disabled log spare chunk off)
    by_enabled true on = elim (rounded_or_more (tidying file chunk spare) good lawful on log) [
      | inl done ↦ (_, _, grained log spare chunk done.0 done.1)
      | inr lacking ↦ (_, _, gran_too_few log spare chunk lacking.0 lacking.1 lacking.2)
    ]

about : (dump : Shows) (command : DumpCommand) → first_refusal dump.files ≡ None → SomeFileAnswer (first_file dump) command → SomeAnswer dump command
unfolding SomeAnswer SomeFileAnswer
about dump command good (text, status, answer) = (text, status, about_file command text status good answer)

mapped : (file : RegisterFile) → IsRegisterFile file → SomeFileAnswer file Types
unfolding SomeFileAnswer
mapped file good = let (runs, are) = a_type_map file good in (_, _, typed runs are)

at_page : (file : RegisterFile) (address index : ℕ) → SomeFileAnswer file (Page address index)
unfolding SomeFileAnswer
at_page file address index = (_, _, paged address index)

of_accepted : (dump : Shows) → IsDump dump → first_refusal dump.files ≡ None → (command : DumpCommand) → SomeAnswer dump command
unfolding SomeAnswer
of_accepted dump is lawful Check = (_, _, accepted lawful)
of_accepted dump is lawful Show = (_, _, shown)
of_accepted dump is lawful Types = about dump Types lawful (mapped (first_file dump) (first_is_file dump is))
of_accepted dump is lawful (Page address index) = about dump (Page address index) lawful (at_page (first_file dump) address index)
of_accepted dump is lawful (Tidy spare chunk) = about dump (Tidy spare chunk) lawful (tidy_answer (first_file dump) (first_is_file dump is) (first_is_accepted dump is lawful) spare chunk)
of_accepted dump is lawful (Gran log spare chunk) = about dump (Gran log spare chunk) lawful (gran_answer (first_file dump) (first_is_file dump is) (first_is_accepted dump is lawful) log spare chunk)

of_refused : (dump : Shows) (k : ℕ) (fault : Fault) → first_refusal dump.files ≡ Some (k, fault) → (command : DumpCommand) → SomeAnswer dump command
unfolding SomeAnswer
of_refused dump k fault first Check = (_, _, refused Check k fault (λ e. cc e) first)
of_refused dump k fault first Show = (_, _, shown)
of_refused dump k fault first Types = (_, _, refused Types k fault (λ e. cc e) first)
of_refused dump k fault first (Page address index) = (_, _, refused (Page address index) k fault (λ e. cc e) first)
of_refused dump k fault first (Tidy spare chunk) = (_, _, refused (Tidy spare chunk) k fault (λ e. cc e) first)
of_refused dump k fault first (Gran log spare chunk) = (_, _, refused (Gran log spare chunk) k fault (λ e. cc e) first)

some_answer : (dump : Shows) → IsDump dump → (command : DumpCommand) → SomeAnswer dump command
some_answer dump is command = by_refusal (first_refusal dump.files) refl
  where
    by_refusal : (o : Option (ℕ × Fault)) → first_refusal dump.files ≡ o → SomeAnswer dump command
    by_refusal None lawful = of_accepted dump is lawful command
    by_refusal (Some (k, fault)) first = of_refused dump k fault first command

pub some_output : (words : List (List ℕ)) (bytes : List ℕ) → (text : List ℕ) × (status : Status) × Output words bytes text status
unfolding SomeAnswer
some_output words bytes = by_command (command_of words) refl
  where
    of_dump_output : (command : DumpCommand) → command_of words ≡ Some (Serial (Dump command)) → (text : List ℕ) × (status : Status) × Output words bytes text status
    of_dump_output command says = elim (shown_or_offence bytes) [
      | inl (dump, shows) ↦ let (text, status, answer) = some_answer dump (shown_dump bytes dump shows) command in (text, status, answered command dump text status says ((read_exactly bytes dump).1 shows) answer)
      | inr (fault, is) ↦ (_, _, bad_text command fault says ((read_offence bytes fault).1 is))
    ]

    by_command : (o : Option Command) → command_of words ≡ o → (text : List ℕ) × (status : Status) × Output words bytes text status
    by_command None none_is = (_, _, usage none_is)
    by_command (Some (Serial (Dump command))) says = of_dump_output command says
    by_command (Some (Threaded Replay)) says = (_, _, replayed says)
    by_command (Some (Threaded (Proc cpus))) says = (_, _, requested cpus says)
    by_command (Some (Serial (Make n))) says = (_, _, printed (Make n) _ says refl)
    by_command (Some (Serial Help)) says = (_, _, printed Help _ says refl)
    by_command (Some (Serial Version)) says = (_, _, printed Version _ says refl)
    by_command (Some (Threaded (Big n))) says = (_, _, summed n says)
    by_command (Some (Threaded (Private cpus n accesses))) says = (_, _, measured cpus n accesses says)
