-- From what the calls say to what is proved of a run.
use Rattle.std.proofs.Common.{◌≡◌, ◌≢◌, ◌⊎◌, ◌∙◌, ℕ, Bool, true, false, List, [], Option, None, Some, ap, inl, inr, refl, sym, subst, arith}
use Rattle.std.specs.Prelude.{◌↔◌, if◌then◌else◌, IfErr, IfOk, Result, Ok, Err}
use Rattle.mt_ports.specs.Causes.{StatusHasCause}
use Rattle.mt_ports.specs.declared.status.Status.{Status}
use Rattle.mt_ports.specs.declared.status.Status.TheVariants.{Done, Usage, ReadFault, WriteFault, NoMemory, TooLong}
use Rattle.mt_text.specs.Feed.{GaveTooMuch}
use Rattle.mt_output.specs.Ports.{SinkRun, SourceRun, change, held, port, sink_run, source_run}
use Rattle.mt_stream.specs.Results.{ResultsIn}
use Rattle.mt_proc.specs.Proc.{proc_told}
use Rattle.mt_proc.specs.Running.{IsProc}
use Rattle.mt_replay.specs.Running.{IsReplay, Replays}
use Rattle.mt_answers.specs.declared.command.Command.{Command}
use Rattle.mt_answers.specs.declared.command.Command.TheVariants.{Serial, Threaded}
use Rattle.mt_answers.specs.declared.command.SerialCommand.{SerialCommand}
use Rattle.mt_answers.specs.declared.command.SerialCommand.TheVariants.{Dump, Make, Help, Version}
use Rattle.mt_answers.specs.declared.command.ThreadedCommand.TheVariants.{Big, Private, Proc, Replay}
use Rattle.mt_answers.specs.declared.command.DumpCommand.{DumpCommand}
use Rattle.mt_answers.specs.CommandLine.{MayTakeMemory, command_of, left_of, reads_input}
use Rattle.mt_answers.specs.Generator.{make_text}
use Rattle.mt_answers.specs.Help.{help_text, version_text}
use Rattle.mt_output.specs.Lines.{usage_line}
use Rattle.mt_cli.specs.Output.{Output, printed, usage}
use Rattle.mt_cli.specs.Runs.{IsRun, IsToolRun}
use Rattle.mt_answers.specs.Runs.{IsAnswered, IsSerialRun, IsUsage, answered, no_command}
use Rattle.mt_answers.specs.Statuses.{MayEnd}
use Rattle.mt_cli.specs.Tool.{ToolLeaves, OutOfMemory, Reads, took}
use Rattle.mt_answers.specs.Written.{AnswersInput, Makes}
use Rattle.mt_cli.proofs.Leaving.{input_leaves, input_reads, left_by, makes_leave, makes_read, must_read, proc_leaves, proc_reads, replays_leave, replays_read, written_leaves}
use Rattle.mt_answers.proofs.Endings.{makes_own, never_own, own_ends}
use Rattle.mt_cli.proofs.Statuses.{run_ends, usage_ends}

is_command : (words : List (List ℕ)) (command : Command) → command_of words ≡ Some command → command_of words ≡ None → ⊥
is_command words command says none = let e : Some command ≡ None = sym says ∙ none in cc e

-- ---- a run that reads nothing

-- it ends with no status of an input
unended : (command : Option Command) (status : Status) → MayEnd command status → reads_input command ≡ false → (status ≢ ReadFault) × (status ≢ TooLong)
unended command ReadFault ends not = let e : true ≡ false = sym ends ∙ not in absurd (cc e)
unended command TooLong ends not = let e : true ≡ false = sym ends ∙ not in absurd (cc e)
unended command other ends not = (λ e. cc e, λ e. cc e)

unread_run : {S K : Type 0} (words : List (List ℕ)) (source : SourceRun S) (sink : SinkRun K) (result : Status)
    → reads_input (command_of words) ≡ false → source.new ≡ source.old
    → ((bytes before : List ℕ) (left : Option (List ℕ)) → left ≡ Some bytes → sink.taken sink.old ≡ Some before → ToolLeaves words (held bytes left) (took before (sink.taken sink.new)) result)
    → ((bytes : List ℕ) (left : Option (List ℕ)) → left ≡ Some bytes → Reads words (held bytes left) result)
    → MayEnd (command_of words) result → (result ≡ Usage → command_of words ≡ None) → StatusHasCause WriteFault (sink.faults sink.old) (sink.faults sink.new) result
    → IsRun words source sink result
unread_run words source sink result not same leaves told ends is_usage cause = record {
  leaves = λ bytes before is taken. leaves bytes before (source.left source.new) (ap source.left same ∙ is) taken;
  reads = λ bytes is. told bytes (source.left source.new) (ap source.left same ∙ is);
  statuses = ends;
  usage = is_usage;
  unread = λ unread. same;
  unread_leaves = λ bytes before unread taken. leaves bytes before (Some bytes) refl taken;
  read_fault = record { rose = λ is. absurd ((unended (command_of words) result ends not).0 is); stands = λ other. ap source.faults same };
  write_fault = cause;
  too_long = (
    λ is. absurd ((unended (command_of words) result ends not).1 is),
    λ much. let e : source.given source.new ≡ source.given source.old = ap source.given same in absurd (omega arith),
  );
}

-- wrong usage
usage_reads : (words : List (List ℕ)) (bytes : List ℕ) (left : Option (List ℕ)) (result : Status) → left ≡ Some bytes → (result ≡ Usage) ⊎ (result ≡ WriteFault) → Reads words (held bytes left) result
usage_reads words bytes left result is (inl ends) = rw ends is
usage_reads words bytes left result is (inr ends) = rw ends tt

usage_keeps : (result : Status) → (result ≡ Usage) ⊎ (result ≡ WriteFault) → result ≢ NoMemory
usage_keeps result (inl ends) = λ is. let e : Usage ≡ NoMemory = sym ends ∙ is in cc e
usage_keeps result (inr ends) = λ is. let e : WriteFault ≡ NoMemory = sym ends ∙ is in cc e

usage_ran : {S K : Type 0} (words : List (List ℕ)) (source : SourceRun S) (sink : SinkRun K) (result : Status)
    → command_of words ≡ None → IsUsage source sink result → IsToolRun words source sink result
usage_ran words source sink result none run = record {
  run =
      unread_run words source sink result (ap reads_input none) run.unread
      (λ bytes before left is taken. written_leaves words bytes usage_line Usage result left before (sink.taken sink.old) (sink.taken sink.new) (usage none) (left_by words bytes left None none is) taken run.bytes)
      (λ bytes left is. usage_reads words bytes left result is run.ends) (usage_ends words result run.ends) (λ is. none) run.cause;
  no_command = λ is. run.ends;
  no_memory = λ is. absurd (usage_keeps result run.ends is);
  memory = λ bytes is no. absurd (usage_keeps result run.ends no);
}

all_left : (command : Command) (bytes : List ℕ) (left : Option (List ℕ)) → reads_input (Some command) ≡ false → left ≡ Some bytes → left ≡ Some (left_of (Some command) bytes)
all_left command bytes left not is = is ∙ ap (λ (b : Bool). Some (if b then [] else bytes)) (sym not)

-- its lines ask for nothing
no_lines : (command : Command) (bytes : List ℕ) (left before after : Option (List ℕ)) → reads_input (Some command) ≡ false → OutOfMemory (Some command) (held bytes left) (change before after)
no_lines (Serial command) bytes left before after not = tt
no_lines (Threaded Replay) bytes left before after not = absurd (cc not)
no_lines (Threaded (Proc cpus)) bytes left before after not = absurd (cc not)
no_lines (Threaded (Big n)) bytes left before after not = tt
no_lines (Threaded (Private cpus n accesses)) bytes left before after not = tt

-- a text that numbers determine, or that is one for all
pub makes_ran : {S K : Type 0} (words : List (List ℕ)) (text : List ℕ) (command : Command) (source : SourceRun S) (sink : SinkRun K) (result : Status)
    → command_of words ≡ Some command → reads_input (Some command) ≡ false → (result ≡ NoMemory → MayTakeMemory command)
    → ((bytes : List ℕ) → Output words bytes text Done) → source.new ≡ source.old
    → Makes text (sink.taken sink.old) (sink.taken sink.new) result → StatusHasCause WriteFault (sink.faults sink.old) (sink.faults sink.new) result
    → IsToolRun words source sink result
makes_ran words text command source sink result says not memory output same makes cause = record {
  run =
      let ends = makes_own text (sink.taken sink.old) (sink.taken sink.new) result makes in
      unread_run words source sink result (ap reads_input says ∙ not) same
      (λ bytes before left is taken. makes_leave words bytes text command result left before (sink.taken sink.old) (sink.taken sink.new) says (output bytes) (all_left command bytes left not is) taken makes)
      (λ bytes left is. makes_read words bytes text command result left (sink.taken sink.old) (sink.taken sink.new) says (output bytes) (all_left command bytes left not is) makes)
      (own_ends (command_of words) result ends)
      (λ is. absurd ((never_own result ends).0 is)) cause;
  no_command = λ none. absurd (is_command words command says none);
  no_memory = λ is. (command, says, memory is);
  memory = λ bytes is no.
      subst (λ (o : Option Command). OutOfMemory o (held bytes (source.left source.new)) (port sink.taken sink.old sink.new)) (sym says)
      (no_lines command bytes (source.left source.new) (sink.taken sink.old) (sink.taken sink.new) not);
}

-- ---- a run that reads the input

reading_ran : {S K : Type 0} (words : List (List ℕ)) (command : Command) (source : SourceRun S) (sink : SinkRun K) (result : Status)
    → command_of words ≡ Some command → reads_input (Some command) ≡ true
    → ((bytes before : List ℕ) → source.left source.old ≡ Some bytes → sink.taken sink.old ≡ Some before → ToolLeaves words (held bytes (source.left source.new)) (took before (sink.taken sink.new)) result)
    → ((bytes : List ℕ) → source.left source.old ≡ Some bytes → Reads words (held bytes (source.left source.new)) result)
    → MayEnd (command_of words) result → result ≢ Usage → (result ≡ NoMemory → MayTakeMemory command)
    → ((bytes : List ℕ) → source.left source.old ≡ Some bytes → result ≡ NoMemory → OutOfMemory (Some command) (held bytes (source.left source.new)) (port sink.taken sink.old sink.new))
    → StatusHasCause ReadFault (source.faults source.old) (source.faults source.new) result
    → StatusHasCause WriteFault (sink.faults sink.old) (sink.faults sink.new) result
    → ((result ≡ TooLong) ↔ GaveTooMuch (source.given source.old) (source.given source.new))
    → IsToolRun words source sink result
reading_ran words command source sink result says reads leaves told ends never memory refused failed cause long = record {
  run = record {
    leaves = leaves;
    reads = told;
    statuses = ends;
    usage = λ is. absurd (never is);
    unread = λ not. absurd (must_read words command says reads not);
    unread_leaves = λ bytes before not taken. absurd (must_read words command says reads not);
    read_fault = failed;
    write_fault = cause;
    too_long = long;
  };
  no_command = λ none. absurd (is_command words command says none);
  no_memory = λ is. (command, says, memory is);
  memory = λ bytes is no.
      subst (λ (o : Option Command). OutOfMemory o (held bytes (source.left source.new)) (port sink.taken sink.old sink.new)) (sym says) (refused bytes is no);
}

-- a command on a dump
input_ran : {S K : Type 0} (words : List (List ℕ)) (command : DumpCommand) (source : SourceRun S) (sink : SinkRun K) (result : Status)
    → command_of words ≡ Some (Serial (Dump command))
    → ((bytes : List ℕ) → source.left source.old ≡ Some bytes → AnswersInput command (held bytes (source.left source.new)) (port sink.taken sink.old sink.new) result)
    → result ≢ Usage → MayEnd (Some (Serial (Dump command))) result → (result ≡ NoMemory → MayTakeMemory (Serial (Dump command)))
    → StatusHasCause ReadFault (source.faults source.old) (source.faults source.new) result
    → StatusHasCause WriteFault (sink.faults sink.old) (sink.faults sink.new) result
    → ((result ≡ TooLong) ↔ GaveTooMuch (source.given source.old) (source.given source.new))
    → IsToolRun words source sink result
input_ran words command source sink result says answers never ends memory failed cause long =
    reading_ran words (Serial (Dump command)) source sink result says refl
    (λ bytes before is taken. input_leaves words bytes command result (source.left source.new) before (sink.taken sink.old) (sink.taken sink.new) says taken (answers bytes is))
    (λ bytes is. input_reads words bytes command result (source.left source.new) (sink.taken sink.old) (sink.taken sink.new) says (answers bytes is))
    (subst (λ (o : Option Command). MayEnd o result) (sym says) ends) never memory (λ bytes is no. tt) failed cause long

-- a serial command
serial_ran : {S K : Type 0} (words : List (List ℕ)) (command : SerialCommand) (source : SourceRun S) (sink : SinkRun K) (result : Status)
    → command_of words ≡ Some (Serial command) → IsSerialRun command source sink result → IsToolRun words source sink result
serial_ran words (Dump asked) source sink result says run =
    input_ran words asked source sink result says (λ bytes. run.bytes asked bytes refl) run.usage run.statuses run.no_memory run.read_fault run.write_fault run.too_long
serial_ran words (Make n) source sink result says run =
    makes_ran words (make_text n) (Serial (Make n)) source sink result says refl run.no_memory (λ bytes. printed (Make n) (make_text n) says refl) (run.unread refl) run.text run.write_fault
serial_ran words Help source sink result says run =
    makes_ran words help_text (Serial Help) source sink result says refl run.no_memory (λ bytes. printed Help help_text says refl) (run.unread refl) run.text run.write_fault
serial_ran words Version source sink result says run =
    makes_ran words version_text (Serial Version) source sink result says refl run.no_memory (λ bytes. printed Version version_text says refl) (run.unread refl) run.text run.write_fault

-- words that ask for no thread
pub answered_ran : {S K : Type 0} (words : List (List ℕ)) (source : SourceRun S) (sink : SinkRun K) (result : Status) → IsAnswered words source sink result → IsToolRun words source sink result
answered_ran words source sink result (answered command says run) = serial_ran words command source sink result says run
answered_ran words source sink result (no_command none run) = usage_ran words source sink result none run

-- a script
pub replay_ran : {S K : Type 0} (words : List (List ℕ)) (source : SourceRun S) (sink : SinkRun K) (result : Status)
    → command_of words ≡ Some (Threaded Replay) → IsReplay source sink result → IsToolRun words source sink result
replay_ran words source sink result says run =
    reading_ran words (Threaded Replay) source sink result says refl
    (λ bytes before is taken.
    replays_leave words bytes result (source.left source.new) before (sink.taken sink.new) says
    (subst (λ (o : Option (List ℕ)). Replays (held bytes (source.left source.new)) (change o (sink.taken sink.new)) result) taken (run.bytes bytes is)))
    (λ bytes is. replays_read words bytes result (source.left source.new) (sink.taken sink.old) (sink.taken sink.new) says (run.bytes bytes is))
    (run_ends words (Threaded Replay) result says refl run.few) run.usage (λ is. tt) run.memory run.read_fault run.write_fault run.too_long

-- requests
pub proc_ran : {S K : Type 0} (words : List (List ℕ)) (cpus : ℕ) (source : SourceRun S) (sink : SinkRun K) (result : Status)
    → command_of words ≡ Some (Threaded (Proc cpus)) → IsProc cpus source sink result → IsToolRun words source sink result
proc_ran words cpus source sink result says run =
    reading_ran words (Threaded (Proc cpus)) source sink result says refl
    (λ bytes before is taken.
    proc_leaves words bytes cpus result (source.left source.new) before (sink.taken sink.new) says
    (subst (λ (o : Option (List ℕ)). ResultsIn (proc_told cpus) [] (held bytes (source.left source.new)) (change o (sink.taken sink.new)) result) taken (run.bytes bytes is)))
    (λ bytes is. proc_reads words bytes cpus result (source.left source.new) (sink.taken sink.old) (sink.taken sink.new) says (run.bytes bytes is))
    (run_ends words (Threaded (Proc cpus)) result says refl run.few) run.usage (λ is. tt) run.memory run.read_fault run.write_fault run.too_long

-- ---- ports that a call before it left as they were

pub ran_from : {S K : Type 0} (words : List (List ℕ)) (left : S → Option (List ℕ)) (source_faults given : S → ℕ) (taken : K → Option (List ℕ)) (sink_faults : K → ℕ)
    (source source_between source_after : S) (sink sink_between sink_after : K) (result : Status) → source_between ≡ source → sink_between ≡ sink
    → IsToolRun words (source_run left source_faults given source_between source_after) (sink_run taken sink_faults sink_between sink_after) result
    → IsToolRun words (source_run left source_faults given source source_after) (sink_run taken sink_faults sink sink_after) result
ran_from {S = S} {K = K} words left source_faults given taken sink_faults source source_between source_after sink sink_between sink_after result same_source same_sink ran =
    subst (λ (k : K). IsToolRun words (source_run left source_faults given source source_after) (sink_run taken sink_faults k sink_after) result) same_sink
    (subst (λ (s : S). IsToolRun words (source_run left source_faults given s source_after) (sink_run taken sink_faults sink_between sink_after) result) same_source ran)

-- ---- arguments that find no memory

pub starved_run : {S K : Type 0} (words : List (List ℕ)) (source : SourceRun S) (sink : SinkRun K) → source.new ≡ source.old → sink.new ≡ sink.old → IsRun words source sink NoMemory
starved_run words source sink same_source same_sink = record {
  leaves = λ bytes before is taken. inl (ap sink.taken same_sink ∙ taken);
  reads = λ bytes is. tt;
  statuses = tt;
  usage = λ is. absurd (cc is);
  unread = λ not. same_source;
  unread_leaves = λ bytes before not taken. inl (ap sink.taken same_sink ∙ taken);
  read_fault = record { rose = λ is. absurd (cc is); stands = λ other. ap source.faults same_source };
  write_fault = record { rose = λ is. absurd (cc is); stands = λ other. ap sink.faults same_sink };
  too_long = (
    λ is. absurd (cc is),
    λ much. let e : source.given source.new ≡ source.given source.old = ap source.given same_source in absurd (omega arith),
  );
}

-- what follows of a value, and of an error
pub if_ok : {A E : Type 0} (P Q : A → Type 0) (r : Result A E) → ((a : A) → P a → Q a) → IfOk r P → IfOk r Q
if_ok P Q (Ok a) follows holds = follows a holds
if_ok P Q (Err e) follows holds = tt

pub of_error : {A E : Type 0} (P Q : E → Type 0) (r : Result A E) → ((e : E) → P e → Q e) → IfErr r P → IfErr r Q
of_error P Q (Ok a) follows holds = tt
of_error P Q (Err e) follows holds = follows e holds
