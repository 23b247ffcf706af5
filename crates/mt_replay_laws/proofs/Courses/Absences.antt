-- Only a command whose processor isn't there writes `absent`.
use Rattle.std.proofs.Common.{◌≡◌, ◌∙◌, ap, sym, refl, ℕ, ◌≤◌, nat_lt, length, Bool, true, false, List, [], ◌∷◌, Option, None, Some, if◌then◌else◌}
use Rattle.std.specs.Prelude.{◌==◌, ◌&&◌, not}
use Rattle.std.specs.Option.{option_map_or}
use Rattle.std.proofs.lemmas.Bool.{le-ltb, ltb-false}
use Rattle.mt_regs.specs.RegisterFile.{RegisterFile}
use Rattle.mt_machine.specs.declared.done.Done.{Done}
use Rattle.mt_machine.specs.declared.done.Done.TheVariants.{Value, Stored, Fenced, Unmapped, NoRam, Busy}
use Rattle.mt_machine.specs.declared.ruled.Ruled.{Ruled}
use Rattle.mt_machine.specs.declared.ruled.Ruled.TheVariants as ruled
use Rattle.mt_machine.specs.declared.event.Event.{Event}
use Rattle.mt_machine.specs.declared.event.Event.TheVariants as event
use Rattle.mt_machine.specs.declared.op.Op.TheVariants as op
use Rattle.mt_machine.specs.declared.control.Control.TheVariants as control_of
use Rattle.mt_machine.specs.System.{Processor}
use Rattle.mt_machine.specs.Access.{access}
use Rattle.mt_machine.specs.Control.{control}
use Rattle.mt_machine.specs.Machine.{common_era, go_of}
use Rattle.mt_core.specs.Steps.{step_answer, step_after}
use Rattle.mt_core.specs.declared.fault.CallFault.{CallFault}
use Rattle.mt_core.specs.declared.fault.CallFault.TheVariants.{Refused, UnderWay}
use Rattle.mt_core.specs.declared.stepped.Stepped.{Stepped}
use Rattle.mt_core.specs.declared.stepped.Stepped.TheVariants.{Did, NoUpdate, Waits}
use Rattle.mt_output.specs.Lines.{line}
use Rattle.mt_script.specs.declared.command.Command.{Command}
use Rattle.mt_script.specs.declared.command.Command.TheVariants as command
use Rattle.mt_script.specs.declared.command.Section.TheVariants.{End}
use Rattle.mt_script.specs.declared.command.Ask.TheVariants as ask
use Rattle.mt_replay.specs.ReplayState.{ReplayState, after_update, call_fault, command_text, file_at, is_absent, is_undecided, is_update, mapping, memory_word, named, present_text}
use Rattle.mt_replay_laws.specs.Settling.{AbsentProcessorsDoNothing, AbsentWhereNoProcessor}
use Rattle.mt_replay.specs.Texts.{absent_line, call_fault_line, called_line, cancel_line, complete_line, done_line, event_text, go_line, have_one_file, memory_line, registers_line, report_text, ruled_line, stepped_line}
use Rattle.mt_replay.proofs.Keeping.Absent.{absent_machine, absent_text, there_text}
use Rattle.mt_replay_laws.proofs.Courses.Tells.{NoneIs, clash, no_mover}

-- by the second and the third letter
abbrev says : List ℕ → Bool
says (a ∷ b ∷ c ∷ rest) = (b == 98) && (c == 115)
says other = false

-- a register's line has a space behind three digits
abbrev says_fourth : List ℕ → Bool
says_fourth (a ∷ b ∷ c ∷ d ∷ rest) = d == 101
says_fourth other = false

of_done : (d : Done) → says (done_line d) ≡ false
of_done (Value value kind) = refl
of_done (Stored kind) = refl
of_done Fenced = refl
of_done Unmapped = refl
of_done NoRam = refl
of_done Busy = refl

of_ruled : (r : Ruled) → says (ruled_line r) ≡ false
of_ruled ruled.Okay = refl
of_ruled ruled.Full = refl
of_ruled ruled.Busy = refl

of_go : (b : Bool) → says (go_line b) ≡ false
of_go true = refl
of_go false = refl

of_cancel : (b : Bool) → says (cancel_line b) ≡ false
of_cancel true = refl
of_cancel false = refl

of_memory : (o : Option ℕ) → says (memory_line o) ≡ false
of_memory None = refl
of_memory (Some value) = refl

of_registers : (b : Bool) → says (registers_line b) ≡ false
of_registers true = refl
of_registers false = refl

of_report : (ps : List Processor) → says (report_text ps) ≡ false
of_report [] = of_registers (have_one_file [])
of_report (p ∷ ps) = refl

of_event : (f : RegisterFile) (e : Event) → says (line (event_text f e)) ≡ false
of_event f event.Take = refl
of_event f event.Arrive = refl
of_event f event.Leave = refl
of_event f event.Pass = refl
of_event f event.SetNoFill = refl
of_event f (event.WriteBack address value) = refl
of_event f event.DropLines = refl
of_event f event.FlushTlb = refl
of_event f event.Disable = refl
of_event f (event.Write i) = refl
of_event f event.Enable = refl
of_event f event.SetNormal = refl
of_event f event.RestorePge = refl
of_event f event.ArriveAgain = refl
of_event f event.Release = refl

of_stepped : (f : RegisterFile) (a : Stepped) → says (stepped_line f a) ≡ false
of_stepped f (Did e) = of_event f e
of_stepped f (Waits arrived awaited) = refl
of_stepped f NoUpdate = refl

of_end : (b : Bool) (o : Option CallFault) (era : ℕ) → says (if b then option_map_or call_fault_line o (complete_line era) else option_map_or call_fault_line o called_line) ≡ false
of_end true None era = refl
of_end false None era = refl
of_end true (Some (Refused fault)) era = refl
of_end true (Some UnderWay) era = refl
of_end false (Some (Refused fault)) era = refl
of_end false (Some UnderWay) era = refl

no_mover_says : NoneIs says
no_mover_says = record { up = λ k. refl; joined = λ k. refl; retired = λ k. refl; under_way = refl; full = refl; no = refl }

unlike : (text : List ℕ) → says text ≡ false → text ≡ absent_line → ⊥
unlike text off is = clash (says text) off (ap says is)

-- a command whose processor is there writes another text
never_said : (s : ReplayState) (c : Command) → present_text s c ≡ absent_line → ⊥
never_said s (command.Ask k (ask.Load address)) is = unlike (present_text s (command.Ask k (ask.Load address))) (of_done (access s.machine.system k (op.Load address)).answer) is
never_said s (command.Ask k (ask.Store address value)) is = unlike (present_text s (command.Ask k (ask.Store address value))) (of_done (access s.machine.system k (op.Store address value)).answer) is
never_said s (command.Ask k ask.Fence) is = unlike (present_text s (command.Ask k ask.Fence)) (of_done (access s.machine.system k op.Fence).answer) is
never_said s (command.Ask k (ask.Map x)) is = unlike (present_text s (command.Ask k (ask.Map x))) (of_ruled (control s.machine.system k (control_of.Map (mapping x))).answer) is
never_said s (command.Ask k (ask.Invlpg address)) is = unlike (present_text s (command.Ask k (ask.Invlpg address))) (of_ruled (control s.machine.system k (control_of.Invlpg address)).answer) is
never_said s (command.Ask k ask.Cr3) is = unlike (present_text s (command.Ask k ask.Cr3)) (of_ruled (control s.machine.system k control_of.Cr3).answer) is
never_said s (command.Ask k (ask.Pge on)) is = unlike (present_text s (command.Ask k (ask.Pge on))) (of_ruled (control s.machine.system k (control_of.Pge on)).answer) is
never_said s (command.Ask k (ask.Cd on)) is = unlike (present_text s (command.Ask k (ask.Cd on))) (of_ruled (control s.machine.system k (control_of.Cd on)).answer) is
never_said s command.Go is = unlike (present_text s command.Go) (of_go (is_undecided (go_of s.machine))) is
never_said s command.Cancel is = unlike (present_text s command.Cancel) (of_cancel (is_undecided (go_of s.machine))) is
never_said s command.Report is = unlike (present_text s command.Report) (of_report s.machine.system.processors) is
never_said s (command.Ask k ask.Step) is =
    unlike (present_text s (command.Ask k ask.Step)) (of_stepped (file_at (step_after s.machine k).system.processors k s.goal) (step_answer s.machine k)) is
never_said s (command.Word address) is = unlike (present_text s (command.Word address)) (of_memory (memory_word s.machine.system.memory address)) is
never_said s (command.Ask k (ask.Msr number)) is = let e : false ≡ true = ap says_fourth is in cc e
never_said s (command.Section End) is =
    unlike (present_text s (command.Section End)) (of_end (is_update s.now.stage) (call_fault s.machine s.goal) (common_era (after_update s.machine s.goal).system.processors)) is
never_said s (command.Newcomer n) is = no_mover says no_mover_says s (command.Newcomer n) absent_line tt is refl
never_said s command.Retire is = no_mover says no_mover_says s command.Retire absent_line tt is refl
never_said s other is = let e : false ≡ true = ap says is in cc e

said_absent : (s : ReplayState) (c : Command) → command_text s c ≡ absent_line → is_absent s.machine c ≡ true
said_absent s c is = one (is_absent s.machine c) refl
  where
    one : (b : Bool) → is_absent s.machine c ≡ b → is_absent s.machine c ≡ true
    one true absent = absent
    one false there = absurd (never_said s c (sym (there_text s c there) ∙ is))

names_none : (n : ℕ) (o : Option ℕ) → option_map_or (λ k. not (nat_lt k n)) o false ≡ true → (k : ℕ) × (o ≡ Some k) × (n ≤ k)
names_none n None is = absurd (cc is)
names_none n (Some k) is = (k, refl, one (nat_lt k n) refl is)
  where
    one : (b : Bool) → nat_lt k n ≡ b → not b ≡ true → n ≤ k
    one true low off = absurd (cc off)
    one false high on = ltb-false k n high

pub absent_do_nothing : AbsentProcessorsDoNothing
absent_do_nothing s c k names high =
    let is : is_absent s.machine c ≡ true =
    ap (λ (o : Option ℕ). option_map_or (λ j. not (nat_lt j (length s.machine.system.processors))) o false) names ∙ ap not (le-ltb k (length s.machine.system.processors) high) in
    (absent_text s c is, absent_machine s c is)

pub absent_where_no_processor : AbsentWhereNoProcessor
absent_where_no_processor s c = (
  (
    λ is. names_none (length s.machine.system.processors) (named c) (said_absent s c is),
    λ none. (absent_do_nothing s c none.0 none.1 none.2).0,
  ),
  λ is. absent_machine s c (said_absent s c is),
)
