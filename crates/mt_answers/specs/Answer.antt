-- What a command on a dump answers (own).
--     FileAnswer file command text status      what a command answers about processor 0's file, where each file of the dump is accepted
--     Answer dump command text status      what a command answers about a dump
use Rattle.std.specs.Prelude.{ℕ, ◌≡◌, ◌≢◌, ◌++◌, false, List, Some, None, ⊤}
use Rattle.mt_ports.specs.declared.status.Status.{Status}
use Rattle.mt_ports.specs.declared.status.Status.TheVariants.{Done, Refused, TooFew, Disabled}
use Rattle.mt_regs.specs.RegisterFile.{RegisterFile, is_enabled}
use Rattle.mt_regs.specs.declared.fault.Fault.{Fault}
use Rattle.mt_regs.specs.Agreement.{first_refusal}
use Rattle.mt_types.specs.declared.run.Run.{Run}
use Rattle.mt_types.specs.Runs.{IsRunsOf}
use Rattle.mt_dump.specs.Canon.{canon}
use Rattle.mt_dump.specs.Dumps.{Dump, dump_of, first_file}
use Rattle.mt_tidy.specs.Kept.{IsTidy, NeedsMore}
use Rattle.mt_tidy.specs.Tidied.{tidying}
use Rattle.mt_tidy.specs.declared.fits.Tidied.{Tidied}
use Rattle.mt_gran.specs.Grained.{IsGrained, NeedsMore as GranNeedsMore}
use Rattle.mt_gran.specs.declared.grains.Grained.{Grained}
use Rattle.mt_answers.specs.declared.command.DumpCommand.{DumpCommand}
use Rattle.mt_answers.specs.declared.command.DumpCommand.TheVariants.{Check, Show, Types, Page, Tidy, Gran}
use Rattle.mt_output.specs.Lines.{dump_refused_line}
use Rattle.mt_answers.specs.Lines.{check_text, disabled_line, lost_line, page_text, parts_text, too_few_line, types_text, used_line}

-- the commands that may answer with any of several least lists of ranges
abbrev pub MayChoose : DumpCommand → Type 0
MayChoose (Tidy spare chunk) = ⊤
MayChoose (Gran log spare chunk) = ⊤
MayChoose other = ⊥

-- What a command answers about processor 0's file. Where several lists of ranges have the least length, `tidy` and `gran` may answer with any of them;
-- every other answer is one text. They print a dump of version 1.
pub data FileAnswer (file : RegisterFile) : DumpCommand → List ℕ → Status → Type 0 where
  typed : (runs : List Run) → IsRunsOf file runs → FileAnswer file Types (types_text runs) Done
  paged : (address index : ℕ) → FileAnswer file (Page address index) (page_text file address index) Done
  tidied : (spare chunk : ℕ) (new : Tidied) → IsTidy (tidying file chunk spare) new → FileAnswer file (Tidy spare chunk) (used_line new.used ++ canon (dump_of new.file)) Done
  too_few : (spare chunk needs has : ℕ) → NeedsMore (tidying file chunk spare) needs has → FileAnswer file (Tidy spare chunk) (too_few_line needs has) TooFew
  disabled : (spare chunk : ℕ) → is_enabled file ≡ false → FileAnswer file (Tidy spare chunk) (disabled_line file.default_type) Disabled
  grained : (log spare chunk : ℕ) (new : Grained) → IsGrained (tidying file chunk spare) log new
      → FileAnswer file (Gran log spare chunk) (parts_text new.parts ++ lost_line new.lost ++ used_line new.tidied.used ++ canon (dump_of new.tidied.file)) Done
  gran_too_few : (log spare chunk needs has : ℕ) → GranNeedsMore (tidying file chunk spare) log needs has → FileAnswer file (Gran log spare chunk) (too_few_line needs has) TooFew
  gran_disabled : (log spare chunk : ℕ) → is_enabled file ≡ false → FileAnswer file (Gran log spare chunk) (disabled_line file.default_type) Disabled

-- What a command answers about the dump that a text shows: each but `show` refuses a dump with a file that isn't accepted, and names the first such file.
pub data Answer (dump : Dump) : DumpCommand → List ℕ → Status → Type 0 where
  refused : (command : DumpCommand) (k : ℕ) (fault : Fault) → command ≢ Show → first_refusal dump.files ≡ Some (k, fault) → Answer dump command (dump_refused_line dump.version k fault) Refused
  accepted : first_refusal dump.files ≡ None → Answer dump Check (check_text dump) Done
  shown : Answer dump Show (canon dump) Done
  about_file : (command : DumpCommand) (text : List ℕ) (status : Status) → first_refusal dump.files ≡ None → FileAnswer (first_file dump) command text status → Answer dump command text status
