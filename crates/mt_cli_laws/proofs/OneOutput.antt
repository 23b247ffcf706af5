-- Words and bytes have one status, and one text but where several lists of ranges are least.
use Rattle.std.proofs.Common.{◌≡◌, ◌≢◌, ℕ, ◌++◌, false, List, [], Option, Some, None, refl, sym, subst, ap, ◌∙◌, inl, inr, arith}
use Rattle.std.specs.Prelude.{◌⊎◌}
use Rattle.mt_ports.specs.declared.status.Status.{Status}
use Rattle.mt_ports.specs.declared.status.Status.TheVariants.{Done, Refused, Usage, BadText, TooFew, Disabled}
use Rattle.mt_regs.specs.RegisterFile.{RegisterFile, is_enabled}
use Rattle.mt_regs.specs.declared.fault.Fault.{Fault}
use Rattle.mt_regs.specs.Agreement.{first_refusal}
use Rattle.mt_types.specs.declared.run.Run.{Run}
use Rattle.mt_types.specs.Runs.{IsRunsOf}
use Rattle.mt_types.proofs.OneMap.{one_type_map}
use Rattle.mt_dump.specs.Canon.{canon}
use Rattle.mt_dump.specs.Dumps.{Dump as Shows, dump_of, first_file}
use Rattle.mt_dump.specs.Dump.{Shown}
use Rattle.mt_dump.specs.Reader.{dump_offence}
use Rattle.mt_dump.specs.declared.fault.DumpFault.{DumpFault}
use Rattle.mt_dump.proofs.Ends.{one_dump, read_exactly, read_offence, shown_no_offence}
use Rattle.mt_proc.specs.Proc.{proc_transcript}
use Rattle.mt_replay.specs.Transcript.{transcript}
use Rattle.mt_tidy.specs.Keeps.{IsLeast}
use Rattle.mt_tidy.specs.Kept.{IsTidy, NeedsMore}
use Rattle.mt_tidy.specs.Tidied.{tidying}
use Rattle.mt_tidy.specs.declared.fits.Tidied.{Tidied as TidiedFile}
use Rattle.mt_gran.specs.Grained.{IsGrained, NeedsMore as GranNeedsMore}
use Rattle.mt_gran.specs.declared.grains.Grained.{Grained as GrainedFile}
use Rattle.mt_gran.proofs.RoundedFit.{needs_is_least, one_least as one_rounded, used_is_least}
use Rattle.mt_answers.specs.declared.command.Command.TheVariants.{Serial, Threaded}
use Rattle.mt_answers.specs.declared.command.SerialCommand.{SerialCommand}
use Rattle.mt_answers.specs.declared.command.SerialCommand.TheVariants.{Dump, Make, Help, Version}
use Rattle.mt_answers.specs.declared.command.ThreadedCommand.TheVariants.{Replay, Proc, Big, Private}
use Rattle.mt_answers.specs.declared.command.Command.{Command}
use Rattle.mt_answers.specs.declared.command.DumpCommand.{DumpCommand}
use Rattle.mt_answers.specs.declared.command.DumpCommand.TheVariants.{Check, Show, Types, Page, Tidy, Gran}
use Rattle.mt_cli.specs.Measured.{measured_text}
use Rattle.mt_answers.specs.CommandLine.{command_of}
use Rattle.mt_output.specs.Lines.{bad_text_line, dump_refused_line, usage_line}
use Rattle.mt_answers.specs.Lines.{check_text, disabled_line, page_text, too_few_line, types_text, used_line}
use Rattle.mt_answers.specs.Generator.{make_text}
use Rattle.mt_answers.specs.Help.{help_text, own_text, version_text}
use Rattle.mt_answers.specs.Answer.{Answer, FileAnswer, MayChoose, refused, accepted, shown, about_file, typed, paged, tidied, too_few, disabled, grained, gran_too_few, gran_disabled}
use Rattle.mt_cli.specs.Output.{Output, big_text, usage, bad_text, answered, replayed, printed, summed, measured, requested}

-- the answer names the first file that isn't accepted
pub record Refusal (dump : Shows) (command : DumpCommand) (text : List ℕ) (status : Status) : Type 0 where
  pub k : ℕ
  pub fault : Fault
  pub tests : command ≢ Show
  pub first : first_refusal dump.files ≡ Some (k, fault)
  pub is_text : text ≡ dump_refused_line dump.version k fault
  pub is_status : status ≡ Refused

pub record Tidied (file : RegisterFile) (spare chunk : ℕ) (text : List ℕ) (status : Status) : Type 0 where
  pub new : TidiedFile
  pub tidy : IsTidy (tidying file chunk spare) new
  pub is_text : text ≡ used_line new.used ++ canon (dump_of new.file)
  pub is_status : status ≡ Done

pub record Lacking (file : RegisterFile) (spare chunk : ℕ) (text : List ℕ) (status : Status) : Type 0 where
  pub needs : ℕ
  pub has : ℕ
  pub more : NeedsMore (tidying file chunk spare) needs has
  pub is_text : text ≡ too_few_line needs has
  pub is_status : status ≡ TooFew

pub record Grained (file : RegisterFile) (log spare chunk : ℕ) (text : List ℕ) (status : Status) : Type 0 where
  pub new : GrainedFile
  pub is : IsGrained (tidying file chunk spare) log new
  pub is_status : status ≡ Done

pub record GranLacking (file : RegisterFile) (log spare chunk : ℕ) (text : List ℕ) (status : Status) : Type 0 where
  pub needs : ℕ
  pub has : ℕ
  pub more : GranNeedsMore (tidying file chunk spare) log needs has
  pub is_text : text ≡ too_few_line needs has
  pub is_status : status ≡ TooFew

pub record Off (file : RegisterFile) (text : List ℕ) (status : Status) : Type 0 where
  pub off : is_enabled file ≡ false
  pub is_text : text ≡ disabled_line file.default_type
  pub is_status : status ≡ Disabled

pub record Mapped (file : RegisterFile) (text : List ℕ) (status : Status) : Type 0 where
  pub runs : List Run
  pub are : IsRunsOf file runs
  pub is_text : text ≡ types_text runs
  pub is_status : status ≡ Done

pub record Plain (line text : List ℕ) (status : Status) : Type 0 where
  pub is_text : text ≡ line
  pub is_status : status ≡ Done

-- the answers of each command about processor 0's file
abbrev pub FileOwn : RegisterFile → DumpCommand → List ℕ → Status → Type 0
FileOwn file Check text status = ⊥
FileOwn file Show text status = ⊥
FileOwn file Types text status = Mapped file text status
FileOwn file (Page address index) text status = Plain (page_text file address index) text status
FileOwn file (Tidy spare chunk) text status = Tidied file spare chunk text status ⊎ Lacking file spare chunk text status ⊎ Off file text status
FileOwn file (Gran log spare chunk) text status = Grained file log spare chunk text status ⊎ GranLacking file log spare chunk text status ⊎ Off file text status

pub file_apart : (file : RegisterFile) (command : DumpCommand) (text : List ℕ) (status : Status) → FileAnswer file command text status → FileOwn file command text status
file_apart file command text status (typed runs are) = record { runs = runs; are = are; is_text = refl; is_status = refl }
file_apart file command text status (paged address index) = record { is_text = refl; is_status = refl }
file_apart file command text status (tidied spare chunk new is) = inl (record { new = new; tidy = is; is_text = refl; is_status = refl })
file_apart file command text status (too_few spare chunk needs has is) = inr (inl (record { needs = needs; has = has; more = is; is_text = refl; is_status = refl }))
file_apart file command text status (disabled spare chunk off) = inr (inr (record { off = off; is_text = refl; is_status = refl }))
file_apart file command text status (grained log spare chunk new is) = inl (record { new = new; is = is; is_status = refl })
file_apart file command text status (gran_too_few log spare chunk needs has is) = inr (inl (record { needs = needs; has = has; more = is; is_text = refl; is_status = refl }))
file_apart file command text status (gran_disabled log spare chunk off) = inr (inr (record { off = off; is_text = refl; is_status = refl }))

-- an answer where each file is accepted
pub record Good (dump : Shows) (own : Type 0) : Type 0 where
  pub good : first_refusal dump.files ≡ None
  pub holds : own

-- the other answers of each command about a dump
abbrev pub Own : Shows → DumpCommand → List ℕ → Status → Type 0
Own dump Check text status = Good dump (Plain (check_text dump) text status)
Own dump Show text status = Plain (canon dump) text status
Own dump Types text status = Good dump (FileOwn (first_file dump) Types text status)
Own dump (Page address index) text status = Good dump (FileOwn (first_file dump) (Page address index) text status)
Own dump (Tidy spare chunk) text status = Good dump (FileOwn (first_file dump) (Tidy spare chunk) text status)
Own dump (Gran log spare chunk) text status = Good dump (FileOwn (first_file dump) (Gran log spare chunk) text status)

own_of_file : (dump : Shows) (command : DumpCommand) (text : List ℕ) (status : Status) → first_refusal dump.files ≡ None → FileOwn (first_file dump) command text status → Own dump command text status
own_of_file dump Check text status good own = absurd own
own_of_file dump Show text status good own = absurd own
own_of_file dump Types text status good own = record { good = good; holds = own }
own_of_file dump (Page address index) text status good own = record { good = good; holds = own }
own_of_file dump (Tidy spare chunk) text status good own = record { good = good; holds = own }
own_of_file dump (Gran log spare chunk) text status good own = record { good = good; holds = own }

pub taken_apart : (dump : Shows) (command : DumpCommand) (text : List ℕ) (status : Status) → Answer dump command text status → Refusal dump command text status ⊎ Own dump command text status
taken_apart dump command text status (refused other k fault tests first) = inl (record { k = k; fault = fault; tests = tests; first = first; is_text = refl; is_status = refl })
taken_apart dump command text status (accepted good) = inr (record { good = good; holds = record { is_text = refl; is_status = refl } })
taken_apart dump command text status shown = inr (record { is_text = refl; is_status = refl })
taken_apart dump command text status (about_file other t s good answer) = inr (own_of_file dump other t s good (file_apart (first_file dump) other t s answer))

-- what both answers have in common: the status, and the text unless a tidied or rounded file was written
abbrev Agree : DumpCommand → List ℕ → List ℕ → Status → Status → Type 0
Agree command text other s t = (s ≡ t) × ((MayChoose command → s ≢ Done) → text ≡ other)

own_good : (dump : Shows) (command : DumpCommand) (text : List ℕ) (status : Status) → command ≢ Show → Own dump command text status → first_refusal dump.files ≡ None
own_good dump Check text status tests own = own.good
own_good dump Show text status tests own = absurd (tests refl)
own_good dump Types text status tests own = own.good
own_good dump (Page address index) text status tests own = own.good
own_good dump (Tidy spare chunk) text status tests own = own.good
own_good dump (Gran log spare chunk) text status tests own = own.good

one_least : (file : RegisterFile) (chunk a b : ℕ) → IsLeast file chunk a → IsLeast file chunk b → a ≡ b
one_least file chunk a b first second =
    let below = second.none_shorter first.some.0 first.some.1 first.some.2 in
    let above = first.none_shorter second.some.0 second.some.1 second.some.2 in
    omega (arith, below, above, first.some.3, second.some.3)

agree_tidy : (file : RegisterFile) (spare chunk : ℕ) (text other : List ℕ) (s t : Status)
    → Tidied file spare chunk text s ⊎ Lacking file spare chunk text s ⊎ Off file text s → Tidied file spare chunk other t ⊎ Lacking file spare chunk other t ⊎ Off file other t
    → Agree (Tidy spare chunk) text other s t
agree_tidy file spare chunk text other s t (inl a) (inl b) = (a.is_status ∙ sym b.is_status, λ not_done. absurd (not_done tt a.is_status))
agree_tidy file spare chunk text other s t (inl a) (inr (inl b)) = absurd (omega (arith, one_least file chunk a.new.used b.needs a.tidy.least b.more.least, a.tidy.enough, b.more.has_is, b.more.above))
agree_tidy file spare chunk text other s t (inl a) (inr (inr b)) = absurd (cc (sym a.tidy.enabled ∙ b.off))
agree_tidy file spare chunk text other s t (inr (inl a)) (inl b) = absurd (omega (arith, one_least file chunk b.new.used a.needs b.tidy.least a.more.least, b.tidy.enough, a.more.has_is, a.more.above))
agree_tidy file spare chunk text other s t (inr (inl a)) (inr (inl b)) =
    let needs : a.needs ≡ b.needs = one_least file chunk a.needs b.needs a.more.least b.more.least in
    let has : a.has ≡ b.has = a.more.has_is ∙ sym b.more.has_is in
    (a.is_status ∙ sym b.is_status, λ not_done. a.is_text ∙ ap (λ (n : ℕ). too_few_line n a.has) needs ∙ ap (λ (n : ℕ). too_few_line b.needs n) has ∙ sym b.is_text)
agree_tidy file spare chunk text other s t (inr (inl a)) (inr (inr b)) = absurd (cc (sym a.more.enabled ∙ b.off))
agree_tidy file spare chunk text other s t (inr (inr a)) (inl b) = absurd (cc (sym b.tidy.enabled ∙ a.off))
agree_tidy file spare chunk text other s t (inr (inr a)) (inr (inl b)) = absurd (cc (sym b.more.enabled ∙ a.off))
agree_tidy file spare chunk text other s t (inr (inr a)) (inr (inr b)) = (a.is_status ∙ sym b.is_status, λ not_done. a.is_text ∙ sym b.is_text)

agree_gran : (file : RegisterFile) (log spare chunk : ℕ) (text other : List ℕ) (s t : Status)
    → Grained file log spare chunk text s ⊎ GranLacking file log spare chunk text s ⊎ Off file text s → Grained file log spare chunk other t ⊎ GranLacking file log spare chunk other t ⊎ Off file other t
    → Agree (Gran log spare chunk) text other s t
agree_gran file log spare chunk text other s t (inl a) (inl b) = (a.is_status ∙ sym b.is_status, λ not_done. absurd (not_done tt a.is_status))
agree_gran file log spare chunk text other s t (inl a) (inr (inl b)) =
    absurd (omega (
      arith,
      one_rounded file log chunk a.new.tidied.used b.needs (used_is_least (tidying file chunk spare) log a.new a.is) (needs_is_least (tidying file chunk spare) log b.needs b.has b.more),
      a.is.tidied.enough,
      b.more.few.has_is,
      b.more.few.above,
    ))
agree_gran file log spare chunk text other s t (inl a) (inr (inr b)) = absurd (cc (sym a.is.enabled ∙ b.off))
agree_gran file log spare chunk text other s t (inr (inl a)) (inl b) =
    absurd (omega (
      arith,
      one_rounded file log chunk b.new.tidied.used a.needs (used_is_least (tidying file chunk spare) log b.new b.is) (needs_is_least (tidying file chunk spare) log a.needs a.has a.more),
      b.is.tidied.enough,
      a.more.few.has_is,
      a.more.few.above,
    ))
agree_gran file log spare chunk text other s t (inr (inl a)) (inr (inl b)) =
    let asked = tidying file chunk spare in
    let needs : a.needs ≡ b.needs = one_rounded file log chunk a.needs b.needs (needs_is_least asked log a.needs a.has a.more) (needs_is_least asked log b.needs b.has b.more) in
    let has : a.has ≡ b.has = a.more.few.has_is ∙ sym b.more.few.has_is in
    (a.is_status ∙ sym b.is_status, λ not_done. a.is_text ∙ ap (λ (n : ℕ). too_few_line n a.has) needs ∙ ap (λ (n : ℕ). too_few_line b.needs n) has ∙ sym b.is_text)
agree_gran file log spare chunk text other s t (inr (inl a)) (inr (inr b)) = absurd (cc (sym a.more.enabled ∙ b.off))
agree_gran file log spare chunk text other s t (inr (inr a)) (inl b) = absurd (cc (sym b.is.enabled ∙ a.off))
agree_gran file log spare chunk text other s t (inr (inr a)) (inr (inl b)) = absurd (cc (sym b.more.enabled ∙ a.off))
agree_gran file log spare chunk text other s t (inr (inr a)) (inr (inr b)) = (a.is_status ∙ sym b.is_status, λ not_done. a.is_text ∙ sym b.is_text)

agree_file : (file : RegisterFile) (command : DumpCommand) (text other : List ℕ) (s t : Status) → FileOwn file command text s → FileOwn file command other t → Agree command text other s t
agree_file file Check text other s t a b = absurd a
agree_file file Show text other s t a b = absurd a
agree_file file Types text other s t a b = (a.is_status ∙ sym b.is_status, λ not_done. a.is_text ∙ ap types_text (one_type_map file a.runs b.runs a.are b.are) ∙ sym b.is_text)
agree_file file (Page address index) text other s t a b = (a.is_status ∙ sym b.is_status, λ not_done. a.is_text ∙ sym b.is_text)
agree_file file (Tidy spare chunk) text other s t a b = agree_tidy file spare chunk text other s t a b
agree_file file (Gran log spare chunk) text other s t a b = agree_gran file log spare chunk text other s t a b

agree_own : (dump : Shows) (command : DumpCommand) (text other : List ℕ) (s t : Status) → Own dump command text s → Own dump command other t → Agree command text other s t
agree_own dump Check text other s t a b = (a.holds.is_status ∙ sym b.holds.is_status, λ not_done. a.holds.is_text ∙ sym b.holds.is_text)
agree_own dump Show text other s t a b = (a.is_status ∙ sym b.is_status, λ not_done. a.is_text ∙ sym b.is_text)
agree_own dump Types text other s t a b = agree_file (first_file dump) Types text other s t a.holds b.holds
agree_own dump (Page address index) text other s t a b = agree_file (first_file dump) (Page address index) text other s t a.holds b.holds
agree_own dump (Tidy spare chunk) text other s t a b = agree_file (first_file dump) (Tidy spare chunk) text other s t a.holds b.holds
agree_own dump (Gran log spare chunk) text other s t a b = agree_file (first_file dump) (Gran log spare chunk) text other s t a.holds b.holds

not_both : (dump : Shows) (k : ℕ) (fault : Fault) → first_refusal dump.files ≡ Some (k, fault) → first_refusal dump.files ≡ None → ⊥
not_both dump k fault first good = let e : Some (k, fault) ≡ None = sym first ∙ good in cc e

agree_parts : (dump : Shows) (command : DumpCommand) (text other : List ℕ) (s t : Status)
    → Refusal dump command text s ⊎ Own dump command text s → Refusal dump command other t ⊎ Own dump command other t → Agree command text other s t
agree_parts dump command text other s t (inl a) (inl b) =
    let same : Some (a.k, a.fault) ≡ Some (b.k, b.fault) = sym a.first ∙ b.first in
    let found : (a.k, a.fault) ≡ (b.k, b.fault) = cc same in
    (a.is_status ∙ sym b.is_status, λ not_done. a.is_text ∙ ap (λ (x : ℕ × Fault). dump_refused_line dump.version x.0 x.1) found ∙ sym b.is_text)
agree_parts dump command text other s t (inl a) (inr b) = absurd (not_both dump a.k a.fault a.first (own_good dump command other t a.tests b))
agree_parts dump command text other s t (inr a) (inl b) = absurd (not_both dump b.k b.fault b.first (own_good dump command text s b.tests a))
agree_parts dump command text other s t (inr a) (inr b) = agree_own dump command text other s t a b

pub agree_answers : (dump : Shows) (command : DumpCommand) (text other : List ℕ) (s t : Status) → Answer dump command text s → Answer dump command other t → Agree command text other s t
agree_answers dump command text other s t a b = agree_parts dump command text other s t (taken_apart dump command text s a) (taken_apart dump command other t b)

-- ---- all commands

-- an input that is no dump
pub record Offending (bytes text : List ℕ) (status : Status) : Type 0 where
  pub fault : DumpFault
  pub offence : dump_offence bytes ≡ Some fault
  pub is_text : text ≡ bad_text_line fault
  pub is_status : status ≡ BadText

pub record Answering (bytes : List ℕ) (command : DumpCommand) (text : List ℕ) (status : Status) : Type 0 where
  pub dump : Shows
  pub shows : Shown bytes dump
  pub answer : Answer dump command text status

pub record Exactly (line : List ℕ) (ends : Status) (text : List ℕ) (status : Status) : Type 0 where
  pub is_text : text ≡ line
  pub is_status : status ≡ ends

-- the outputs of each command
abbrev pub OutputOwn : List ℕ → Option Command → List ℕ → Status → Type 0
OutputOwn bytes None text status = Exactly usage_line Usage text status
OutputOwn bytes (Some (Serial (Dump command))) text status = Offending bytes text status ⊎ Answering bytes command text status
OutputOwn bytes (Some (Serial (Make n))) text status = Plain (make_text n) text status
OutputOwn bytes (Some (Serial Help)) text status = Plain help_text text status
OutputOwn bytes (Some (Serial Version)) text status = Plain version_text text status
OutputOwn bytes (Some (Threaded Replay)) text status = Exactly (transcript bytes).text (transcript bytes).status text status
OutputOwn bytes (Some (Threaded (Proc cpus))) text status = Exactly (proc_transcript cpus bytes).text (proc_transcript cpus bytes).status text status
OutputOwn bytes (Some (Threaded (Big n))) text status = Plain (big_text n) text status
OutputOwn bytes (Some (Threaded (Private cpus n accesses))) text status = Plain (measured_text cpus n accesses) text status

abbrev text_in : Option (List ℕ) → List ℕ
text_in None = []
text_in (Some text) = text

own_of_serial : (bytes : List ℕ) (command : SerialCommand) (text : List ℕ) → own_text command ≡ Some text → OutputOwn bytes (Some (Serial command)) text Done
own_of_serial bytes (Dump command) text is = absurd (cc is)
own_of_serial bytes (Make n) text is = record { is_text = sym (ap text_in is); is_status = refl }
own_of_serial bytes Help text is = record { is_text = sym (ap text_in is); is_status = refl }
own_of_serial bytes Version text is = record { is_text = sym (ap text_in is); is_status = refl }

own_as : (words : List (List ℕ)) (bytes : List ℕ) (command : Option Command) (text : List ℕ) (status : Status) → command_of words ≡ command → OutputOwn bytes command text status → OutputOwn bytes (command_of words) text status
own_as words bytes command text status says own = subst (λ (o : Option Command). OutputOwn bytes o text status) (sym says) own

pub output_apart : (words : List (List ℕ)) (bytes text : List ℕ) (status : Status) → Output words bytes text status → OutputOwn bytes (command_of words) text status
output_apart words bytes _ _ (usage none_is) = own_as words bytes None usage_line Usage none_is (record { is_text = refl; is_status = refl })
output_apart words bytes _ _ (bad_text command fault says is) =
    own_as words bytes (Some (Serial (Dump command))) (bad_text_line fault) BadText says (inl (record { fault = fault; offence = (read_offence bytes fault).0 is; is_text = refl; is_status = refl }))
output_apart words bytes text status (answered command dump _ _ says shows answer) = own_as words bytes (Some (Serial (Dump command))) text status says (inr (record { dump = dump; shows = (read_exactly bytes dump).0 shows; answer = answer }))
output_apart words bytes text _ (printed command _ says is) = own_as words bytes (Some (Serial command)) text Done says (own_of_serial bytes command text is)
output_apart words bytes _ _ (summed n says) = own_as words bytes (Some (Threaded (Big n))) (big_text n) Done says (record { is_text = refl; is_status = refl })
output_apart words bytes _ _ (measured cpus n accesses says) =
    own_as words bytes (Some (Threaded (Private cpus n accesses))) (measured_text cpus n accesses) Done says (record { is_text = refl; is_status = refl })
output_apart words bytes _ _ (replayed says) = own_as words bytes (Some (Threaded Replay)) (transcript bytes).text (transcript bytes).status says (record { is_text = refl; is_status = refl })
output_apart words bytes _ _ (requested cpus says) =
    own_as words bytes (Some (Threaded (Proc cpus))) (proc_transcript cpus bytes).text (proc_transcript cpus bytes).status says (record { is_text = refl; is_status = refl })

-- one status, and one text unless a tidied or rounded file was written
abbrev AgreeOn : Option Command → List ℕ → List ℕ → Status → Status → Type 0
AgreeOn asked text other s t = (s ≡ t) × (((command : DumpCommand) → asked ≡ Some (Serial (Dump command)) → MayChoose command → s ≢ Done) → text ≡ other)

abbrev pub AgreeFor : List (List ℕ) → List ℕ → List ℕ → Status → Status → Type 0
AgreeFor words text other s t = AgreeOn (command_of words) text other s t

agree_input : (bytes : List ℕ) (command : DumpCommand) (text other : List ℕ) (s t : Status)
    → Offending bytes text s ⊎ Answering bytes command text s → Offending bytes other t ⊎ Answering bytes command other t → AgreeOn (Some (Serial (Dump command))) text other s t
agree_input bytes command text other s t (inl a) (inl b) =
    let e : Some a.fault ≡ Some b.fault = sym a.offence ∙ b.offence in
    let same : a.fault ≡ b.fault = cc e in
    (a.is_status ∙ sym b.is_status, λ not_done. a.is_text ∙ ap bad_text_line same ∙ sym b.is_text)
agree_input bytes command text other s t (inl a) (inr b) = let e : Some a.fault ≡ None = sym a.offence ∙ shown_no_offence bytes b.dump b.shows in absurd (cc e)
agree_input bytes command text other s t (inr a) (inl b) = let e : Some b.fault ≡ None = sym b.offence ∙ shown_no_offence bytes a.dump a.shows in absurd (cc e)
agree_input bytes command text other s t (inr a) (inr b) =
    let same : b.dump ≡ a.dump = one_dump bytes b.dump a.dump b.shows a.shows in
    let agree = agree_answers a.dump command text other s t a.answer (subst (λ (d : Shows). Answer d command other t) same b.answer) in
    (agree.0, λ not_done. agree.1 (λ chooses. not_done command refl chooses))

agree_own_output : (bytes : List ℕ) (asked : Option Command) (text other : List ℕ) (s t : Status) → OutputOwn bytes asked text s → OutputOwn bytes asked other t → AgreeOn asked text other s t
agree_own_output bytes None text other s t a b = (a.is_status ∙ sym b.is_status, λ not_done. a.is_text ∙ sym b.is_text)
agree_own_output bytes (Some (Serial (Dump command))) text other s t a b = agree_input bytes command text other s t a b
agree_own_output bytes (Some (Serial (Make n))) text other s t a b = (a.is_status ∙ sym b.is_status, λ not_done. a.is_text ∙ sym b.is_text)
agree_own_output bytes (Some (Serial Help)) text other s t a b = (a.is_status ∙ sym b.is_status, λ not_done. a.is_text ∙ sym b.is_text)
agree_own_output bytes (Some (Serial Version)) text other s t a b = (a.is_status ∙ sym b.is_status, λ not_done. a.is_text ∙ sym b.is_text)
agree_own_output bytes (Some (Threaded Replay)) text other s t a b = (a.is_status ∙ sym b.is_status, λ not_done. a.is_text ∙ sym b.is_text)
agree_own_output bytes (Some (Threaded (Proc cpus))) text other s t a b = (a.is_status ∙ sym b.is_status, λ not_done. a.is_text ∙ sym b.is_text)
agree_own_output bytes (Some (Threaded (Big n))) text other s t a b = (a.is_status ∙ sym b.is_status, λ not_done. a.is_text ∙ sym b.is_text)
agree_own_output bytes (Some (Threaded (Private cpus n accesses))) text other s t a b = (a.is_status ∙ sym b.is_status, λ not_done. a.is_text ∙ sym b.is_text)

pub one_output : (words : List (List ℕ)) (bytes text other : List ℕ) (s t : Status) → Output words bytes text s → Output words bytes other t → AgreeFor words text other s t
one_output words bytes text other s t first second =
    agree_own_output bytes (command_of words) text other s t (output_apart words bytes text s first) (output_apart words bytes other t second)
