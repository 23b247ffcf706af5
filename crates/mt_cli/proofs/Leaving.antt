-- From what the calls say of the bytes to what a run leaves.
use Rattle.std.proofs.Common.{◌≡◌, ℕ, true, false, List, [], ◌++◌, Option, Some, None, refl, sym, subst, ◌∙◌, ap, inl, inr, ◌∷◌}
use Rattle.std.proofs.lemmas.List.{append-nil}
use Rattle.std.specs.Io.KnownBytes.{Appends}
use Rattle.mt_ports.specs.Puts.{AppendsFront}
use Rattle.mt_ports.specs.declared.status.Status.{Status}
use Rattle.mt_ports.specs.declared.status.Status.TheVariants.{Done, Refused, Usage, BadText, ReadFault, WriteFault, NoMemory, TooLong, TooFew, Disabled}
use Rattle.mt_dump.specs.Dumps.{Dump as Shows}
use Rattle.mt_dump.specs.Dump.{Shown}
use Rattle.mt_dump.specs.Reader.{dump_offence}
use Rattle.mt_dump.proofs.Ends.{read_exactly, read_offence}
use Rattle.mt_dump.specs.declared.fault.DumpFault.{DumpFault}
use Rattle.mt_output.specs.Ports.{change, held}
use Rattle.mt_stream.specs.Results.{ResultsIn, TellsAll, TellsKnown}
use Rattle.mt_stream.specs.Transcript as stream
use Rattle.mt_stream.specs.Transcript.{Telling}
use Rattle.mt_proc.specs.Proc.{proc_told, proc_transcript}
use Rattle.mt_proc.proofs.Endings.{one_of_three as one_of_three_of_proc}
use Rattle.mt_replay.specs.Running.{Replays}
use Rattle.mt_replay.specs.Newcomers.{early_text}
use Rattle.mt_replay.specs.Transcript.{replay_told, transcript}
use Rattle.mt_answers.proofs.Endings.{IsFinal, final}
use Rattle.mt_cli.proofs.Coming.{early_without}
use Rattle.mt_replay.proofs.Refusals.Outcomes.{one_of_three}
use Rattle.mt_answers.specs.declared.command.Command.TheVariants.{Serial, Threaded}
use Rattle.mt_answers.specs.declared.command.SerialCommand.TheVariants.{Dump}
use Rattle.mt_answers.specs.declared.command.ThreadedCommand.TheVariants.{Replay, Proc}
use Rattle.mt_answers.specs.declared.command.DumpCommand.{DumpCommand}
use Rattle.mt_answers.specs.CommandLine.{command_of, left_of, reads_input}
use Rattle.mt_answers.specs.declared.command.Command.{Command}
use Rattle.mt_answers.specs.Answer.{Answer}
use Rattle.mt_cli.specs.Output.{Output, usage, bad_text, answered, replayed, printed, summed, measured, requested}
use Rattle.mt_cli.specs.Tool.{Answered, CutShort, Finished, ToolLeaves, Reads, FailedRead, Overran, Starved, Untouched, took}
use Rattle.mt_output.specs.Written.{Writes}
use Rattle.mt_answers.specs.Written.{Answers, AnswersInput, Makes, writes, no_memory, bad_input, good_input, no_input}

-- what stands after the bytes that the sink had
appended : (before text : List ℕ) (old new : Option (List ℕ)) → old ≡ Some before → Appends old new text → new ≡ Some (before ++ text)
appended before text None new is takes = cc is
appended before text (Some xs) None is takes = absurd takes
appended before text (Some xs) (Some ys) is takes = let e : xs ≡ before = cc is in ap Some (takes ∙ ap (λ (l : List ℕ). l ++ text) e)

final_of_transcript : (bytes : List ℕ) → IsFinal (transcript bytes).status
unfolding IsFinal
final_of_transcript bytes = elim (one_of_three bytes) [
  | inl is ↦ inl is
  | inr (inl is) ↦ inr (inl is)
  | inr (inr is) ↦ inr (inr (inl is))
]

final_of_proc : (cpus : ℕ) (bytes : List ℕ) → IsFinal (proc_transcript cpus bytes).status
unfolding IsFinal
final_of_proc cpus bytes = elim (one_of_three_of_proc cpus bytes) [
  | inl is ↦ inl is
  | inr (inl is) ↦ inr (inl is)
  | inr (inr is) ↦ inr (inr (inl is))
]

finished_leaves : (words : List (List ℕ)) (bytes : List ℕ) (left : Option (List ℕ)) (before : List ℕ) (after : Option (List ℕ)) (status : Status)
    → IsFinal status → Finished words (held bytes left) (took before after) status → ToolLeaves words (held bytes left) (took before after) status
unfolding IsFinal
finished_leaves words bytes left before after status (inl is) done = rw is (subst (λ (s : Status). Finished words (held bytes left) (took before after) s) is done)
finished_leaves words bytes left before after status (inr (inl is)) done = rw is (subst (λ (s : Status). Finished words (held bytes left) (took before after) s) is done)
finished_leaves words bytes left before after status (inr (inr (inl is))) done = rw is (subst (λ (s : Status). Finished words (held bytes left) (took before after) s) is done)
finished_leaves words bytes left before after status (inr (inr (inr (inl is)))) done = rw is (subst (λ (s : Status). Finished words (held bytes left) (took before after) s) is done)
finished_leaves words bytes left before after status (inr (inr (inr (inr is)))) done = rw is (subst (λ (s : Status). Finished words (held bytes left) (took before after) s) is done)

-- what a command leaves of the input
pub left_by : (words : List (List ℕ)) (bytes : List ℕ) (left : Option (List ℕ)) (command : Option Command) → command_of words ≡ command → left ≡ Some (left_of command bytes) → left ≡ Some (left_of (command_of words) bytes)
left_by words bytes left command says read = read ∙ ap (λ c. Some (left_of c bytes)) (sym says)

-- a command that reads the input
pub must_read : (words : List (List ℕ)) (command : Command) → command_of words ≡ Some command → reads_input (Some command) ≡ true → reads_input (command_of words) ≡ false → ⊥
must_read words command says reads not = let e : true ≡ false = sym reads ∙ ap reads_input (sym says) ∙ not in cc e

-- a run that has written its whole output
whole : (words : List (List ℕ)) (bytes text : List ℕ) (status : Status) (left : Option (List ℕ)) (before : List ℕ) (after : Option (List ℕ))
    → Output words bytes text status → left ≡ Some (left_of (command_of words) bytes) → after ≡ Some (before ++ text) → ToolLeaves words (held bytes left) (took before after) status
whole words bytes text status left before after (usage other) = λ read taken. record { text = _; output = usage other; taken = taken; read = read }
whole words bytes text status left before after (bad_text command fault says is) = λ read taken.
    record { text = _; output = bad_text command fault says is; taken = taken; read = read }
whole words bytes text status left before after (answered command dump t s says shows answer) = λ read taken.
    let fin : IsFinal s = final dump command t s answer in
    finished_leaves words bytes left before after s fin
    (record { text = t; output = answered command dump t s says shows answer; taken = taken; read = read })
whole words bytes text status left before after (printed command t says is) = λ read taken. record { text = _; output = printed command t says is; taken = taken; read = read }
whole words bytes text status left before after (summed n says) = λ read taken. record { text = _; output = summed n says; taken = taken; read = read }
whole words bytes text status left before after (measured cpus n accesses says) = λ read taken. record { text = _; output = measured cpus n accesses says; taken = taken; read = read }
whole words bytes text status left before after (replayed says) = λ read taken.
    finished_leaves words bytes left before after (transcript bytes).status (final_of_transcript bytes)
    (record { text = (transcript bytes).text; output = replayed says; taken = taken; read = read })
whole words bytes text status left before after (requested cpus says) = λ read taken.
    finished_leaves words bytes left before after (proc_transcript cpus bytes).status (final_of_proc cpus bytes)
    (record { text = (proc_transcript cpus bytes).text; output = requested cpus says; taken = taken; read = read })

-- a run whose last write is done or has failed
pub written_leaves : (words : List (List ℕ)) (bytes text : List ℕ) (status result : Status) (left : Option (List ℕ)) (before : List ℕ) (old new : Option (List ℕ))
    → Output words bytes text status → left ≡ Some (left_of (command_of words) bytes) → old ≡ Some before → Writes text status old new result → ToolLeaves words (held bytes left) (took before new) result
written_leaves words bytes text status result left before old new output read told (inl (is, takes)) =
    rw is (whole words bytes text status left before new output read (appended before text old new told takes))
written_leaves words bytes text status result left before old new output read told (inr (is, cut)) =
    rw is (record { text = text; status = status; output = output; front = cut.0; back = cut.1; cut = cut.2; taken = appended before cut.0 old new told cut.3 })

-- a run that has written an answer, a front of one, or nothing
pub answers_leave : (words : List (List ℕ)) (bytes : List ℕ) (dump : Shows) (command : DumpCommand) (result : Status) (left : Option (List ℕ)) (before : List ℕ) (old new : Option (List ℕ))
    → command_of words ≡ Some (Serial (Dump command)) → Shown bytes dump → left ≡ Some [] → old ≡ Some before → Answers (Answer dump command) old new result → ToolLeaves words (held bytes left) (took before new) result
answers_leave words bytes dump command result left before old new says shows read told (writes text status answer wrote) =
    written_leaves words bytes text status result left before old new (answered command dump text status says ((read_exactly bytes dump).1 shows) answer) (left_by words bytes left (Some (Serial (Dump command))) says read) told wrote
answers_leave words bytes dump command result left before old new says shows read told (no_memory is same) = rw is (inl (same ∙ told))

-- what a failed read, or too long an input, leaves of the sink by the command
read_failed : (words : List (List ℕ)) (command : Command) (bytes : List ℕ) (left : Option (List ℕ)) (before : List ℕ) (after : Option (List ℕ))
    → command_of words ≡ Some command → FailedRead (Some command) (held bytes left) (took before after) → FailedRead (command_of words) (held bytes left) (took before after)
read_failed words command bytes left before after says is = rw says is

too_much : (words : List (List ℕ)) (command : Command) (bytes before : List ℕ) (after : Option (List ℕ))
    → command_of words ≡ Some command → Overran (Some command) words bytes (took before after) → Overran (command_of words) words bytes (took before after)
too_much words command bytes before after says is = subst (λ (o : Option Command). Overran o words bytes (took before after)) (sym says) is

-- a command on a dump
pub input_leaves : (words : List (List ℕ)) (bytes : List ℕ) (command : DumpCommand) (result : Status) (left : Option (List ℕ)) (before : List ℕ) (old new : Option (List ℕ))
    → command_of words ≡ Some (Serial (Dump command)) → old ≡ Some before → AnswersInput command (held bytes left) (change old new) result → ToolLeaves words (held bytes left) (took before new) result
input_leaves words bytes command result left before old new says told (bad_input fault is read wrote) = written_leaves words bytes _ BadText result left before old new (bad_text command fault says ((read_offence bytes fault).1 is)) (left_by words bytes left (Some (Serial (Dump command))) says read) told wrote
input_leaves words bytes command result left before old new says told (good_input dump is read answers) = answers_leave words bytes dump command result left before old new says is read told answers
input_leaves words bytes command result left before old new says told (no_input same (inl failed)) = rw failed (read_failed words (Serial (Dump command)) bytes left before new says (same ∙ told))
input_leaves words bytes command result left before old new says told (no_input same (inr long)) = rw long.0 (too_much words (Serial (Dump command)) bytes before new says (same ∙ told))

-- a text that a number determines
pub makes_leave : (words : List (List ℕ)) (bytes text : List ℕ) (command : Command) (result : Status) (left : Option (List ℕ)) (before : List ℕ) (old new : Option (List ℕ))
    → command_of words ≡ Some command → Output words bytes text Done → left ≡ Some (left_of (Some command) bytes) → old ≡ Some before → Makes text old new result → ToolLeaves words (held bytes left) (took before new) result
makes_leave words bytes text command result left before old new says output read told (inl wrote) =
    written_leaves words bytes text Done result left before old new output (left_by words bytes left (Some command) says read) told wrote
makes_leave words bytes text command result left before old new says output read told (inr (is, same)) = rw is (inl (same ∙ told))

-- ---- a run over lines, which `replay` and `proc` are

-- the command's output is what this tells of the bytes, and this is said of it where it is cut
record IsLineRun (words : List (List ℕ)) (bytes : List ℕ) (command : Command) (start : Telling) (early : List ℕ) : Type 0 where
  says : command_of words ≡ Some command
  output : Output words bytes (stream.transcript start bytes).text (stream.transcript start bytes).status
  read : (left : Option (List ℕ)) → left ≡ Some [] → left ≡ Some (left_of (command_of words) bytes)
  known : (left : Option (List ℕ)) (before : List ℕ) (after : Option (List ℕ)) → TellsKnown start (held bytes left) (change (Some before) after) → FailedRead (Some command) (held bytes left) (took before after)
  much : (before : List ℕ) (after : Option (List ℕ)) → CutShort words bytes (took before after) → Overran (Some command) words bytes (took before after)
  starved : (before : List ℕ) (after : Option (List ℕ)) → AppendsFront (Some before) after early → CutShort words bytes (took before after) → Starved words bytes (took before after)

-- a front of nothing
nothing_taken : (before : List ℕ) (new : Option (List ℕ)) → AppendsFront (Some before) new [] → Untouched (took before new)
nothing_taken before new ([], back, is, takes) = appended before [] (Some before) new refl takes ∙ ap Some (append-nil before)
nothing_taken before new (byte ∷ front, back, is, takes) = absurd (cc is)

replays : (words : List (List ℕ)) (bytes : List ℕ) → command_of words ≡ Some (Threaded Replay) → IsLineRun words bytes (Threaded Replay) replay_told (early_text bytes)
replays words bytes says = record {
  says = says;
  output = replayed says;
  read = λ left none. left_by words bytes left (Some (Threaded Replay)) says none;
  known = λ left before after tells. tells;
  much = λ before after cut. cut;
  starved = λ before after early cut. inr (says, (λ without. subst (AppendsFront (Some before) after) (early_without bytes without) early), cut);
}

procs : (words : List (List ℕ)) (bytes : List ℕ) (cpus : ℕ) → command_of words ≡ Some (Threaded (Proc cpus)) → IsLineRun words bytes (Threaded (Proc cpus)) (proc_told cpus) []
procs words bytes cpus says = record {
  says = says;
  output = requested cpus says;
  read = λ left none. left_by words bytes left (Some (Threaded (Proc cpus))) says none;
  known = λ left before after tells. tells;
  much = λ before after cut. cut;
  starved = λ before after early cut. inl (nothing_taken before after early);
}

module _ (words : List (List ℕ)) (bytes : List ℕ) (command : Command) (start : Telling) (early : List ℕ) (run : IsLineRun words bytes command start early) (left : Option (List ℕ)) where
  -- the sink took a front of the text
  front_told : (before : List ℕ) (new : Option (List ℕ)) → AppendsFront (Some before) new (stream.transcript start bytes).text → CutShort words bytes (took before new)
  front_told before new cut =
      record { text = (stream.transcript start bytes).text; status = (stream.transcript start bytes).status; output = run.output; front = cut.0; back = cut.1; cut = cut.2; taken = appended before cut.0 (Some before) new refl cut.3 }

  -- or all of it
  all_told : (before : List ℕ) (new : Option (List ℕ)) (result : Status) → TellsAll (stream.transcript start bytes) (held bytes left) (change (Some before) new) result → Finished words (held bytes left) (took before new) result
  all_told before new result tells = record {
    text = (stream.transcript start bytes).text;
    output = subst (Output words bytes (stream.transcript start bytes).text) (sym tells.status_is) run.output;
    taken = appended before (stream.transcript start bytes).text (Some before) new refl tells.taken;
    read = run.read left tells.read;
  }

  run_leaves : (before : List ℕ) (new : Option (List ℕ)) (result : Status) → ResultsIn start early (held bytes left) (change (Some before) new) result → ToolLeaves words (held bytes left) (took before new) result
  run_leaves before new Done tells = all_told before new Done tells
  run_leaves before new Refused tells = all_told before new Refused tells
  run_leaves before new Usage tells = absurd tells
  run_leaves before new BadText tells = all_told before new BadText tells
  run_leaves before new ReadFault tells = read_failed words command bytes left before new run.says (run.known left before new tells)
  run_leaves before new WriteFault tells = front_told before new tells
  run_leaves before new NoMemory tells = run.starved before new tells.0 (front_told before new tells.1)
  run_leaves before new TooLong tells = too_much words command bytes before new run.says (run.much before new (front_told before new tells.1))
  run_leaves before new TooFew tells = absurd tells
  run_leaves before new Disabled tells = absurd tells

  -- what is said of the source alone
  status_told : (old new : Option (List ℕ)) (result : Status) → TellsAll (stream.transcript start bytes) (held bytes left) (change old new) result → Answered words (held bytes left) result
  status_told old new result tells =
      record { text = (stream.transcript start bytes).text; output = subst (Output words bytes (stream.transcript start bytes).text) (sym tells.status_is) run.output; read = run.read left tells.read }

  run_reads : (old new : Option (List ℕ)) (result : Status) → ResultsIn start early (held bytes left) (change old new) result → Reads words (held bytes left) result
  run_reads old new Done tells = status_told old new Done tells
  run_reads old new Refused tells = status_told old new Refused tells
  run_reads old new Usage tells = absurd tells
  run_reads old new BadText tells = status_told old new BadText tells
  run_reads old new ReadFault tells = tt
  run_reads old new WriteFault tells = tt
  run_reads old new NoMemory tells = tt
  run_reads old new TooLong tells = tells.0
  run_reads old new TooFew tells = absurd tells
  run_reads old new Disabled tells = absurd tells

pub replays_leave : (words : List (List ℕ)) (bytes : List ℕ) (result : Status) (left : Option (List ℕ)) (before : List ℕ) (new : Option (List ℕ))
    → command_of words ≡ Some (Threaded Replay) → Replays (held bytes left) (change (Some before) new) result → ToolLeaves words (held bytes left) (took before new) result
replays_leave words bytes result left before new says tells = run_leaves words bytes (Threaded Replay) replay_told (early_text bytes) (replays words bytes says) left before new result tells

pub proc_leaves : (words : List (List ℕ)) (bytes : List ℕ) (cpus : ℕ) (result : Status) (left : Option (List ℕ)) (before : List ℕ) (new : Option (List ℕ))
    → command_of words ≡ Some (Threaded (Proc cpus)) → ResultsIn (proc_told cpus) [] (held bytes left) (change (Some before) new) result → ToolLeaves words (held bytes left) (took before new) result
proc_leaves words bytes cpus result left before new says tells = run_leaves words bytes (Threaded (Proc cpus)) (proc_told cpus) [] (procs words bytes cpus says) left before new result tells

pub replays_read : (words : List (List ℕ)) (bytes : List ℕ) (result : Status) (left old new : Option (List ℕ)) → command_of words ≡ Some (Threaded Replay) → Replays (held bytes left) (change old new) result → Reads words (held bytes left) result
replays_read words bytes result left old new says tells = run_reads words bytes (Threaded Replay) replay_told (early_text bytes) (replays words bytes says) left old new result tells

pub proc_reads : (words : List (List ℕ)) (bytes : List ℕ) (cpus : ℕ) (result : Status) (left old new : Option (List ℕ))
    → command_of words ≡ Some (Threaded (Proc cpus)) → ResultsIn (proc_told cpus) [] (held bytes left) (change old new) result → Reads words (held bytes left) result
proc_reads words bytes cpus result left old new says tells = run_reads words bytes (Threaded (Proc cpus)) (proc_told cpus) [] (procs words bytes cpus says) left old new result tells

-- ---- what is said of the source alone

answered_reads : (words : List (List ℕ)) (bytes : List ℕ) (left : Option (List ℕ)) (status : Status) → IsFinal status → Answered words (held bytes left) status → Reads words (held bytes left) status
unfolding IsFinal
answered_reads words bytes left status (inl is) told = rw is (subst (λ (s : Status). Answered words (held bytes left) s) is told)
answered_reads words bytes left status (inr (inl is)) told = rw is (subst (λ (s : Status). Answered words (held bytes left) s) is told)
answered_reads words bytes left status (inr (inr (inl is))) told = rw is (subst (λ (s : Status). Answered words (held bytes left) s) is told)
answered_reads words bytes left status (inr (inr (inr (inl is)))) told = rw is (subst (λ (s : Status). Answered words (held bytes left) s) is told)
answered_reads words bytes left status (inr (inr (inr (inr is)))) told = rw is (subst (λ (s : Status). Answered words (held bytes left) s) is told)

-- the status of an answer
pub answers_read : (words : List (List ℕ)) (bytes : List ℕ) (dump : Shows) (command : DumpCommand) (result : Status) (left old new : Option (List ℕ))
    → command_of words ≡ Some (Serial (Dump command)) → Shown bytes dump → left ≡ Some [] → Answers (Answer dump command) old new result → Reads words (held bytes left) result
answers_read words bytes dump command result left old new says shows read (writes text status answer (inl (is, takes))) =
    rw is (answered_reads words bytes left status (final dump command text status answer) (record { text = text; output = answered command dump text status says ((read_exactly bytes dump).1 shows) answer; read = left_by words bytes left (Some (Serial (Dump command))) says read }))
answers_read words bytes dump command result left old new says shows read (writes text status answer (inr (is, cut))) = rw is tt
answers_read words bytes dump command result left old new says shows read (no_memory is same) = rw is tt

-- the status of a dump that is no dump
pub offence_reads : (words : List (List ℕ)) (bytes : List ℕ) (command : DumpCommand) (fault : DumpFault) (written : List ℕ) (result : Status) (left old new : Option (List ℕ))
    → command_of words ≡ Some (Serial (Dump command)) → dump_offence bytes ≡ Some fault → left ≡ Some [] → Writes written BadText old new result → Reads words (held bytes left) result
offence_reads words bytes command fault written result left old new says is read (inl (done, takes)) =
    rw done (record { text = _; output = bad_text command fault says ((read_offence bytes fault).1 is); read = left_by words bytes left (Some (Serial (Dump command))) says read })
offence_reads words bytes command fault written result left old new says is read (inr (failed, cut)) = rw failed tt

-- the status of a command on a dump
pub input_reads : (words : List (List ℕ)) (bytes : List ℕ) (command : DumpCommand) (result : Status) (left old new : Option (List ℕ))
    → command_of words ≡ Some (Serial (Dump command)) → AnswersInput command (held bytes left) (change old new) result → Reads words (held bytes left) result
input_reads words bytes command result left old new says (bad_input fault is read wrote) = offence_reads words bytes command fault _ result left old new says is read wrote
input_reads words bytes command result left old new says (good_input dump is read answers) = answers_read words bytes dump command result left old new says is read answers
input_reads words bytes command result left old new says (no_input same (inl failed)) = rw failed tt
input_reads words bytes command result left old new says (no_input same (inr long)) = rw long.0 long.1

-- its status
pub makes_read : (words : List (List ℕ)) (bytes text : List ℕ) (command : Command) (result : Status) (left old new : Option (List ℕ))
    → command_of words ≡ Some command → Output words bytes text Done → left ≡ Some (left_of (Some command) bytes) → Makes text old new result → Reads words (held bytes left) result
makes_read words bytes text command result left old new says output read (inl (inl (is, takes))) = rw is (record { text = text; output = output; read = left_by words bytes left (Some command) says read })
makes_read words bytes text command result left old new says output read (inl (inr (is, cut))) = rw is tt
makes_read words bytes text command result left old new says output read (inr (is, same)) = rw is tt
