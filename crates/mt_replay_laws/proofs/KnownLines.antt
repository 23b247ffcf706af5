-- What the known lines of a front write is a front of what the whole text tells.
use Rattle.std.proofs.Common.{◌≡◌, ◌∙◌, refl, inl, inr, ℕ, ◌+◌, true, List, [], ◌++◌, Option, None, Some, Result, Ok, Err}
use Rattle.mt_ports.specs.declared.status.Status.TheVariants.{Refused}
use Rattle.mt_regs.specs.declared.fault.Fault.{Fault}
use Rattle.mt_regs.specs.Agreement.{first_refusal}
use Rattle.mt_dump.specs.Line.{Reading}
use Rattle.mt_dump.specs.Dumps.{Dump}
use Rattle.mt_script.specs.Situation.{Situation, at_start}
use Rattle.mt_script.specs.Stages.{is_past_dump, takes_cpus, takes_dump}
use Rattle.mt_script.specs.Accept.{Fits, accepted}
use Rattle.mt_script.specs.Commands.{command_of}
use Rattle.mt_script.specs.Head.{HeadStep, goes_on, head_step, offends, shows}
use Rattle.mt_script.specs.declared.command.Command.{Command}
use Rattle.mt_script.specs.declared.command.Command.TheVariants as command
use Rattle.mt_script.specs.declared.command.Section.TheVariants.{Register}
use Rattle.mt_script.specs.declared.command.Stage.{Stage}
use Rattle.mt_script.specs.declared.command.Stage.TheVariants.{NeedCpus, NeedDump}
use Rattle.mt_script.specs.declared.fault.ScriptFault.{ScriptFault}
use Rattle.mt_script.specs.declared.fault.Offence.TheVariants.{Script}
use Rattle.mt_output.specs.Lines.{accepted_line, dump_refused_line}
use Rattle.mt_stream.specs.Known.{known_text}
use Rattle.mt_stream.specs.Transcript.{transcript_with}
use Rattle.mt_stream.proofs.KnownLines.{LeadsOn, Walks, known_is_front}
use Rattle.mt_replay.specs.ReplayState.{ReplayState, command_text, first_state, state_after}
use Rattle.mt_replay.specs.Transcript.{ScriptState, from_point, in_body, in_head, replay_told, told_offence, transcript}
use Rattle.mt_replay.proofs.Keeping.States.{command_known}
use Rattle.mt_replay.proofs.Taking.{dump_accepted, dump_refused, fault_leads, leads}
use Rattle.mt_replay.proofs.Walks.{IsSound, head_leads, long_told, none_known}

-- ---- behind the dump

no_cpus_past : (stage : Stage) → takes_cpus stage ≡ true → is_past_dump stage ≡ true → ⊥
no_cpus_past NeedCpus takes past = cc past
no_cpus_past other takes past = cc takes

no_dump_past : (stage : Stage) → takes_dump stage ≡ true → is_past_dump stage ≡ true → ⊥
no_dump_past NeedDump takes past = cc past
no_dump_past other takes past = cc takes

past_kept : (now : Situation) (c : Command) → is_past_dump now.stage ≡ true → Fits now c → is_past_dump (accepted now c).stage ≡ true
past_kept now (command.Cpus n) past fits = absurd (no_cpus_past now.stage fits.0 past)
past_kept now command.Dump past fits = absurd (no_dump_past now.stage fits past)
past_kept now (command.Ram base lines) past fits = past
past_kept now (command.Selfsnoop k) past fits = past
past_kept now command.Blank past fits = past
past_kept now command.DumpLine past fits = past
past_kept now (command.Section (Register msr value)) past fits = past
past_kept now other past fits = refl

by_dump : (now : Situation) (before : List Reading) (number : ℕ) (line : List ℕ) (dump : Dump) → head_step now before number line ≡ shows dump → (refusal : Option (ℕ × Fault)) → first_refusal dump.files ≡ refusal
    → LeadsOn from_point IsSound (in_head now before) number line
by_dump now before number line dump step (Some refusal) is = inr (
  transcript_with (dump_refused_line dump.version refusal.0 refusal.1) Refused,
  λ end lines. head_leads now before number line (shows dump) step end lines ∙ dump_refused now dump (number + 1) refusal is end lines,
)
by_dump now before number line dump step None is = inl (
  accepted_line,
  in_body (first_state now dump),
  refl,
  λ end lines. head_leads now before number line (shows dump) step end lines ∙ dump_accepted now dump (number + 1) is end lines,
)

by_step : (now : Situation) (before : List Reading) (number : ℕ) (line : List ℕ) (step : HeadStep) → head_step now before number line ≡ step → LeadsOn from_point IsSound (in_head now before) number line
by_step now before number line (goes_on next after) is = inl ([], in_head next after, tt, head_leads now before number line (goes_on next after) is)
by_step now before number line (shows dump) is = by_dump now before number line dump is (first_refusal dump.files) refl
by_step now before number line (offends o) is = inr (told_offence o, head_leads now before number line (offends o) is)

by_command : (s : ReplayState) (number : ℕ) (line : List ℕ) → is_past_dump s.now.stage ≡ true → (answer : Result Command ScriptFault) → command_of s.now number line ≡ answer → LeadsOn from_point IsSound (in_body s) number line
by_command s number line past (Err fault) is = inr (told_offence (Script fault), fault_leads s number line fault is)
by_command s number line past (Ok c) is = inl (command_text s c, in_body (state_after s c), past_kept s.now c past (command_known s.now number line c is), leads s c number line is)

by_line : (p : ScriptState) (number : ℕ) (line : List ℕ) → IsSound p → LeadsOn from_point IsSound p number line
by_line (in_head now before) number line sound = by_step now before number line (head_step now before number line) refl
by_line (in_body s) number line sound = by_command s number line sound (command_of s.now number line) refl

lines_walk : Walks from_point IsSound
lines_walk = record { unknown = λ p number. none_known number p; leads = by_line; long = long_told }

pub known_write_front : (front more : List ℕ) → (rest : List ℕ) × ((transcript (front ++ more)).text ≡ known_text replay_told front ++ rest)
known_write_front front more = known_is_front ScriptState from_point IsSound lines_walk (in_head at_start []) tt front more
