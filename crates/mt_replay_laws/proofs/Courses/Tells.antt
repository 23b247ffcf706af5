-- Which steps write the lines of updates.
use Rattle.std.proofs.Common.{◌≡◌, ◌⊎◌, ◌∙◌, ap, refl, subst, ⊎_elim, inl, inr, ℕ, length, nat_lt, Bool, true, false, List, [], ◌∷◌, Option, None, Some, if◌then◌else◌, sym}
use Rattle.std.specs.Prelude.{◌==◌, ◌&&◌, ◌||◌, is_some, not}
use Rattle.std.specs.Option.{option_map_or}
use Rattle.std.specs.List.{list_all}
use Rattle.std.proofs.lemmas.Bool.{and_parts}
use Rattle.mt_regs.specs.declared.fault.Fault.{Fault}
use Rattle.mt_regs.specs.RegisterFile.{RegisterFile}
use Rattle.mt_machine.specs.declared.done.Done.{Done}
use Rattle.mt_machine.specs.declared.done.Done.TheVariants.{Value, Stored, Fenced, Unmapped, NoRam, Busy}
use Rattle.mt_machine.specs.declared.ruled.Ruled.{Ruled}
use Rattle.mt_machine.specs.declared.ruled.Ruled.TheVariants as ruled
use Rattle.mt_machine.specs.declared.event.Event.{Event}
use Rattle.mt_machine.specs.declared.event.Event.TheVariants as event
use Rattle.mt_machine.specs.System.{Processor}
use Rattle.mt_machine.specs.declared.op.Op.TheVariants as op
use Rattle.mt_machine.specs.declared.control.Control.TheVariants as control_of
use Rattle.mt_machine.specs.Access.{access}
use Rattle.mt_machine.specs.Control.{control}
use Rattle.mt_machine.specs.Machine.{common_era, go_of}
use Rattle.mt_machine.specs.ComingAndGoing.{last_number, without_last}
use Rattle.mt_admit.specs.Admission.{admitted, brought_up}
use Rattle.mt_core.specs.Steps.{step_answer, step_after}
use Rattle.mt_core.specs.declared.fault.CallFault.{CallFault}
use Rattle.mt_core.specs.declared.fault.CallFault.TheVariants.{Refused, UnderWay}
use Rattle.mt_core.specs.declared.stepped.Stepped.{Stepped}
use Rattle.mt_core.specs.declared.stepped.Stepped.TheVariants.{Did, NoUpdate, Waits}
use Rattle.mt_script.specs.declared.command.Command.{Command}
use Rattle.mt_script.specs.declared.command.Command.TheVariants as command
use Rattle.mt_script.specs.declared.command.Section.TheVariants.{End}
use Rattle.mt_script.specs.declared.command.Ask.TheVariants as ask
use Rattle.mt_script.specs.declared.command.Newcomer.TheVariants.{Up, Join}
use Rattle.mt_output.specs.Lines.{line, refused_line}
use Rattle.mt_replay_laws.specs.Headline.{IsCall, NoneOf, pass_line, release_line}
use Rattle.mt_replay.specs.Steps.{ScriptStep, wrote}
use Rattle.mt_replay_laws.specs.Coming.{BringsUp}
use Rattle.mt_replay.specs.ReplayState.{ReplayState, after_update, call_fault, command_text, file_at, is_absent, is_undecided, is_update, machine_after, mapping, may_come, may_go, memory_word, present_text, stays_line}
use Rattle.mt_replay.specs.Texts.{absent_line, call_fault_line, called_line, cancel_line, complete_line, done_line, event_text, full_line, go_line, have_one_file, joined_line, memory_line, no_line, registers_line, report_text, retired_line, ruled_line, stepped_line, under_way_line, up_line}
use Rattle.mt_replay.proofs.Keeping.Absent.{absent_text, there_text}
use Rattle.mt_replay_laws.proofs.Refusals.Releases.{answered_due, step_is_there}

-- by the second, third and fourth letter: comp, call, refu, unde, rele, pass
abbrev is_of_update : List ℕ → Bool
is_of_update (a ∷ b ∷ c ∷ d ∷ rest) = ((d == 112) && (c == 109)) || ((d == 108) && (b == 97)) || ((d == 117) && (c == 102)) || ((d == 101) && ((c == 100) || (c == 108))) || ((d == 115) && (c == 115))
is_of_update other = false

pub clash : (b : Bool) → b ≡ false → b ≡ true → ⊥
clash b off is = cc (off, is)

of_done : (d : Done) → is_of_update (done_line d) ≡ false
of_done (Value value kind) = refl
of_done (Stored kind) = refl
of_done Fenced = refl
of_done Unmapped = refl
of_done NoRam = refl
of_done Busy = refl

of_ruled : (r : Ruled) → is_of_update (ruled_line r) ≡ false
of_ruled ruled.Okay = refl
of_ruled ruled.Full = refl
of_ruled ruled.Busy = refl

of_go : (b : Bool) → is_of_update (go_line b) ≡ false
of_go true = refl
of_go false = refl

of_cancel : (b : Bool) → is_of_update (cancel_line b) ≡ false
of_cancel true = refl
of_cancel false = refl

of_memory : (o : Option ℕ) → is_of_update (memory_line o) ≡ false
of_memory None = refl
of_memory (Some value) = refl

of_registers : (b : Bool) → is_of_update (registers_line b) ≡ false
of_registers true = refl
of_registers false = refl

of_report : (ps : List Processor) → is_of_update (report_text ps) ≡ false
of_report [] = of_registers (have_one_file [])
of_report (p ∷ ps) = refl

-- a step, the end of a section, or a processor that comes or goes
abbrev IsOfUpdate : Command → Type 0
IsOfUpdate (command.Ask k ask.Step) = Unit {0}
IsOfUpdate (command.Section End) = Unit {0}
IsOfUpdate (command.Newcomer n) = Unit {0}
IsOfUpdate command.Retire = Unit {0}
IsOfUpdate other = ⊥

of_present : (s : ReplayState) (c : Command) → is_of_update (present_text s c) ≡ true → IsOfUpdate c
of_present s (command.Ask k (ask.Load address)) is = absurd (clash (is_of_update (present_text s (command.Ask k (ask.Load address)))) (of_done (access s.machine.system k (op.Load address)).answer) is)
of_present s (command.Ask k (ask.Store address value)) is = absurd (clash (is_of_update (present_text s (command.Ask k (ask.Store address value)))) (of_done (access s.machine.system k (op.Store address value)).answer) is)
of_present s (command.Ask k ask.Fence) is = absurd (clash (is_of_update (present_text s (command.Ask k ask.Fence))) (of_done (access s.machine.system k op.Fence).answer) is)
of_present s (command.Ask k (ask.Map x)) is = absurd (clash (is_of_update (present_text s (command.Ask k (ask.Map x)))) (of_ruled (control s.machine.system k (control_of.Map (mapping x))).answer) is)
of_present s (command.Ask k (ask.Invlpg address)) is = absurd (clash (is_of_update (present_text s (command.Ask k (ask.Invlpg address)))) (of_ruled (control s.machine.system k (control_of.Invlpg address)).answer) is)
of_present s (command.Ask k ask.Cr3) is = absurd (clash (is_of_update (present_text s (command.Ask k ask.Cr3))) (of_ruled (control s.machine.system k control_of.Cr3).answer) is)
of_present s (command.Ask k (ask.Pge on)) is = absurd (clash (is_of_update (present_text s (command.Ask k (ask.Pge on)))) (of_ruled (control s.machine.system k (control_of.Pge on)).answer) is)
of_present s (command.Ask k (ask.Cd on)) is = absurd (clash (is_of_update (present_text s (command.Ask k (ask.Cd on)))) (of_ruled (control s.machine.system k (control_of.Cd on)).answer) is)
of_present s command.Go is = absurd (clash (is_of_update (present_text s command.Go)) (of_go (is_undecided (go_of s.machine))) is)
of_present s command.Cancel is = absurd (clash (is_of_update (present_text s command.Cancel)) (of_cancel (is_undecided (go_of s.machine))) is)
of_present s command.Report is = absurd (clash (is_of_update (present_text s command.Report)) (of_report s.machine.system.processors) is)
of_present s (command.Ask k ask.Step) is = tt
of_present s (command.Word address) is = absurd (clash (is_of_update (present_text s (command.Word address))) (of_memory (memory_word s.machine.system.memory address)) is)
of_present s (command.Ask k (ask.Msr number)) is = absurd (cc is)
of_present s (command.Section End) is = tt
of_present s (command.Newcomer n) is = tt
of_present s command.Retire is = tt
of_present s other is = absurd (cc is)

of_command : (s : ReplayState) (c : Command) → is_of_update (command_text s c) ≡ true → IsOfUpdate c
of_command s c is = one (is_absent s.machine c) refl
  where
    one : (b : Bool) → is_absent s.machine c ≡ b → IsOfUpdate c
    one true absent = absurd (let e : false ≡ true = sym (ap is_of_update (absent_text s c absent)) ∙ is in cc e)
    one false there = of_present s c (ap is_of_update (sym (there_text s c there)) ∙ is)

-- ---- processors that come and go

abbrev pub IsMover : Command → Type 0
IsMover (command.Newcomer n) = Unit {0}
IsMover command.Retire = Unit {0}
IsMover other = ⊥

-- a mark that none of their lines has
pub record NoneIs (mark : List ℕ → Bool) : Type 0 where
  pub up : (k : ℕ) → mark (up_line k) ≡ false
  pub joined : (k : ℕ) → mark (joined_line k) ≡ false
  pub retired : (k : ℕ) → mark (retired_line k) ≡ false
  pub under_way : mark under_way_line ≡ false
  pub full : mark full_line ≡ false
  pub no : mark no_line ≡ false

module _ (mark : List ℕ → Bool) (h : NoneIs mark) where
  stays_unmarked : (b : Bool) (cause : List ℕ) → mark cause ≡ false → mark (if b then under_way_line else cause) ≡ false
  stays_unmarked true cause is = h.under_way
  stays_unmarked false cause is = is

  unmarked : (s : ReplayState) (c : Command) → IsMover c → mark (command_text s c) ≡ false
  unmarked s (command.Newcomer Up) mover = one (may_come s.machine)
    where
      one : (b : Bool) → mark (if b then up_line (length s.machine.system.processors) else stays_line s.machine full_line) ≡ false
      one true = h.up (length s.machine.system.processors)
      one false = stays_unmarked (is_some s.machine.order) full_line h.full
  unmarked s (command.Newcomer Join) mover = one (may_come s.machine)
    where
      one : (b : Bool) → mark (if b then joined_line (length s.machine.system.processors) else stays_line s.machine full_line) ≡ false
      one true = h.joined (length s.machine.system.processors)
      one false = stays_unmarked (is_some s.machine.order) full_line h.full
  unmarked s command.Retire mover = one (may_go s.machine)
    where
      one : (b : Bool) → mark (if b then retired_line (last_number s.machine.system) else stays_line s.machine no_line) ≡ false
      one true = h.retired (last_number s.machine.system)
      one false = stays_unmarked (is_some s.machine.order) no_line h.no
  unmarked s other mover = absurd mover

  -- so none of them writes a text that has it
  pub no_mover : (s : ReplayState) (c : Command) (text : List ℕ) → IsMover c → command_text s c ≡ text → mark text ≡ true → ⊥
  no_mover s c text mover is on = clash (mark (command_text s c)) (unmarked s c mover) (ap mark is ∙ on)

-- by the third letter: comp, refu; by the second: call; by the first and the third: rele, pass
abbrev pub has_third : ℕ → List ℕ → Bool
has_third n (a ∷ b ∷ c ∷ rest) = c == n
has_third n other = false

abbrev has_second : ℕ → List ℕ → Bool
has_second n (a ∷ b ∷ rest) = b == n
has_second n other = false

third_m : NoneIs (has_third 109)
third_m = record { up = λ k. refl; joined = λ k. refl; retired = λ k. refl; under_way = refl; full = refl; no = refl }

third_f : NoneIs (has_third 102)
third_f = record { up = λ k. refl; joined = λ k. refl; retired = λ k. refl; under_way = refl; full = refl; no = refl }

second_a : NoneIs (has_second 97)
second_a = record { up = λ k. refl; joined = λ k. refl; retired = λ k. refl; under_way = refl; full = refl; no = refl }

-- ---- ends of sections

-- by the second, third and fourth letter: comp, call, refu, unde
abbrev pub is_of_call : List ℕ → Bool
is_of_call (a ∷ b ∷ c ∷ d ∷ rest) = ((d == 112) && (c == 109)) || ((d == 108) && (b == 97)) || ((d == 117) && (c == 102)) || ((d == 101) && (c == 100))
is_of_call other = false

of_event : (f : RegisterFile) (e : Event) → is_of_call (line (event_text f e)) ≡ false
of_event f event.Take = refl
of_event f event.Arrive = refl
of_event f event.Leave = refl
of_event f event.Pass = refl
of_event f event.SetNoFill = refl
of_event f (event.WriteBack address value) = refl
of_event f event.DropLines = refl
of_event f event.FlushTlb = refl
of_event f event.Disable = refl
of_event f (event.Write i) = refl
of_event f event.Enable = refl
of_event f event.SetNormal = refl
of_event f event.RestorePge = refl
of_event f event.ArriveAgain = refl
of_event f event.Release = refl

of_stepped : (f : RegisterFile) (a : Stepped) → is_of_call (stepped_line f a) ≡ false
of_stepped f (Did e) = of_event f e
of_stepped f (Waits arrived awaited) = refl
of_stepped f NoUpdate = refl

-- only the end of a section writes such a text, or a processor that comes or goes
of_step : (s : ReplayState) (k : ℕ) → is_of_call (command_text s (command.Ask k ask.Step)) ≡ false
of_step s k = one (is_absent s.machine (command.Ask k ask.Step)) refl
  where
    one : (b : Bool) → is_absent s.machine (command.Ask k ask.Step) ≡ b → is_of_call (command_text s (command.Ask k ask.Step)) ≡ false
    one true absent = ap is_of_call (absent_text s (command.Ask k ask.Step) absent)
    one false there = ap is_of_call (there_text s (command.Ask k ask.Step) there) ∙ of_stepped (file_at (step_after s.machine k).system.processors k s.goal) (step_answer s.machine k)

call_ends : (s : ReplayState) (c : Command) → is_of_update (command_text s c) ≡ true → is_of_call (command_text s c) ≡ true → (c ≡ command.Section End) ⊎ IsMover c
call_ends s c update call = one c (of_command s c update) call
  where
    one : (c : Command) → IsOfUpdate c → is_of_call (command_text s c) ≡ true → (c ≡ command.Section End) ⊎ IsMover c
    one (command.Ask k ask.Step) update call = absurd (clash (is_of_call (command_text s (command.Ask k ask.Step))) (of_step s k) call)
    one (command.Section End) update call = inl refl
    one (command.Newcomer n) update call = inr tt
    one command.Retire update call = inr tt
    one other update call = absurd update

-- where no processor that comes or goes writes it, the end of a section does
ends_alone : (mark : List ℕ → Bool) → NoneIs mark → (s : ReplayState) (c : Command) (text : List ℕ) → command_text s c ≡ text → is_of_update text ≡ true → is_of_call text ≡ true → mark text ≡ true → c ≡ command.Section End
ends_alone mark none s c text is update call on =
    ⊎_elim (λ (ends : c ≡ command.Section End). ends) (λ (mover : IsMover c). absurd (no_mover mark none s c text mover is on)) (call_ends s c (ap is_of_update is ∙ update) (ap is_of_call is ∙ call))

-- what the end of a section writes, by the kind of section and the call's fault
abbrev end_text : Bool → Option CallFault → ℕ → List ℕ
end_text b o era = if b then option_map_or call_fault_line o (complete_line era) else option_map_or call_fault_line o called_line

abbrev told_era : ReplayState → ℕ
told_era s = common_era (after_update s.machine s.goal).system.processors

-- the fourth letter is this one
abbrev has_fourth : ℕ → List ℕ → Bool
has_fourth n (a ∷ b ∷ c ∷ d ∷ rest) = d == n
has_fourth n other = false

complete_end : (b : Bool) (o : Option CallFault) (told era : ℕ) → end_text b o told ≡ complete_line era → (b ≡ true) × (o ≡ None)
complete_end true None told era is = (refl, refl)
complete_end false None told era is = absurd (let e : false ≡ true = ap (has_fourth 112) is in cc e)
complete_end true (Some (Refused fault)) told era is = absurd (let e : false ≡ true = ap (has_fourth 112) is in cc e)
complete_end true (Some UnderWay) told era is = absurd (let e : false ≡ true = ap (has_fourth 112) is in cc e)
complete_end false (Some (Refused fault)) told era is = absurd (let e : false ≡ true = ap (has_fourth 112) is in cc e)
complete_end false (Some UnderWay) told era is = absurd (let e : false ≡ true = ap (has_fourth 112) is in cc e)

called_end : (b : Bool) (o : Option CallFault) (told : ℕ) → end_text b o told ≡ called_line → (b ≡ false) × (o ≡ None)
called_end false None told is = (refl, refl)
called_end true None told is = absurd (let e : false ≡ true = ap (has_fourth 108) is in cc e)
called_end true (Some (Refused fault)) told is = absurd (let e : false ≡ true = ap (has_fourth 108) is in cc e)
called_end true (Some UnderWay) told is = absurd (let e : false ≡ true = ap (has_fourth 108) is in cc e)
called_end false (Some (Refused fault)) told is = absurd (let e : false ≡ true = ap (has_fourth 108) is in cc e)
called_end false (Some UnderWay) told is = absurd (let e : false ≡ true = ap (has_fourth 108) is in cc e)

refused_end : (b : Bool) (o : Option CallFault) (told : ℕ) (fault : Fault) → end_text b o told ≡ refused_line fault → (own : CallFault) × (o ≡ Some own)
refused_end b (Some own) told fault is = (own, refl)
refused_end true None told fault is = absurd (let e : false ≡ true = ap (has_fourth 117) is in cc e)
refused_end false None told fault is = absurd (let e : false ≡ true = ap (has_fourth 117) is in cc e)

under_way_end : (b : Bool) (o : Option CallFault) (told : ℕ) → end_text b o told ≡ under_way_line → (own : CallFault) × (o ≡ Some own)
under_way_end b (Some own) told is = (own, refl)
under_way_end true None told is = absurd (let e : false ≡ true = ap (has_fourth 101) is in cc e)
under_way_end false None told is = absurd (let e : false ≡ true = ap (has_fourth 101) is in cc e)

end_after : (s : ReplayState) (c : Command) (text : List ℕ) → c ≡ command.Section End → command_text s c ≡ text → end_text (is_update s.now.stage) (call_fault s.machine s.goal) (told_era s) ≡ text
end_after s c text same is = subst (λ (c : Command). command_text s c ≡ text) same is

pub writes_complete : (s : ReplayState) (c : Command) (era : ℕ) → command_text s c ≡ complete_line era → (c ≡ command.Section End) × (is_update s.now.stage ≡ true) × (call_fault s.machine s.goal ≡ None)
writes_complete s c era is =
    let ends = ends_alone (has_third 109) third_m s c (complete_line era) is refl refl refl in
    let parts = complete_end (is_update s.now.stage) (call_fault s.machine s.goal) (told_era s) era (end_after s c (complete_line era) ends is) in
    (ends, parts.0, parts.1)

pub writes_called : (s : ReplayState) (c : Command) → command_text s c ≡ called_line → (c ≡ command.Section End) × (is_update s.now.stage ≡ false) × (call_fault s.machine s.goal ≡ None)
writes_called s c is =
    let ends = ends_alone (has_second 97) second_a s c called_line is refl refl refl in
    let parts = called_end (is_update s.now.stage) (call_fault s.machine s.goal) (told_era s) (end_after s c called_line ends is) in
    (ends, parts.0, parts.1)

pub writes_refused : (s : ReplayState) (c : Command) (fault : Fault) → command_text s c ≡ refused_line fault → (c ≡ command.Section End) × ((own : CallFault) × (call_fault s.machine s.goal ≡ Some own))
writes_refused s c fault is =
    let ends = ends_alone (has_third 102) third_f s c (refused_line fault) is refl refl refl in
    (ends, refused_end (is_update s.now.stage) (call_fault s.machine s.goal) (told_era s) fault (end_after s c (refused_line fault) ends is))

-- `under way` says that an update is, whoever asks
abbrev has_under : List ℕ → Bool
has_under (a ∷ b ∷ c ∷ rest) = c == 100
has_under other = false

busy_stays : (b : Bool) (cause : List ℕ) → has_under cause ≡ false → has_under (if b then under_way_line else cause) ≡ true → b ≡ true
busy_stays true cause none is = refl
busy_stays false cause none is = absurd (cc (none, is))

is_busy : (s : ReplayState) (c : Command) → IsMover c → has_under (command_text s c) ≡ true → is_some s.machine.order ≡ true
is_busy s (command.Newcomer Up) mover is = one (may_come s.machine) is
  where
    one : (b : Bool) → has_under (if b then up_line (length s.machine.system.processors) else stays_line s.machine full_line) ≡ true → is_some s.machine.order ≡ true
    one true is = absurd (cc is)
    one false is = busy_stays (is_some s.machine.order) full_line refl is
is_busy s (command.Newcomer Join) mover is = one (may_come s.machine) is
  where
    one : (b : Bool) → has_under (if b then joined_line (length s.machine.system.processors) else stays_line s.machine full_line) ≡ true → is_some s.machine.order ≡ true
    one true is = absurd (cc is)
    one false is = busy_stays (is_some s.machine.order) full_line refl is
is_busy s command.Retire mover is = one (may_go s.machine) is
  where
    one : (b : Bool) → has_under (if b then retired_line (last_number s.machine.system) else stays_line s.machine no_line) ≡ true → is_some s.machine.order ≡ true
    one true is = absurd (cc is)
    one false is = busy_stays (is_some s.machine.order) no_line refl is
is_busy s other mover is = absurd mover

busy_same : (s : ReplayState) (c : Command) → IsMover c → is_some s.machine.order ≡ true → machine_after s c ≡ s.machine
busy_same s (command.Newcomer Up) mover busy = ap (λ (b : Bool). if not b && nat_lt (length s.machine.system.processors) 16 then brought_up s.machine else s.machine) busy
busy_same s (command.Newcomer Join) mover busy = ap (λ (b : Bool). if not b && nat_lt (length s.machine.system.processors) 16 then admitted s.machine else s.machine) busy
busy_same s command.Retire mover busy = ap (λ (b : Bool). if not b && nat_lt 1 (length s.machine.system.processors) then without_last s.machine else s.machine) busy
busy_same s other mover busy = absurd mover

pub writes_under_way : (s : ReplayState) (c : Command) → command_text s c ≡ under_way_line
    → ((c ≡ command.Section End) × ((own : CallFault) × (call_fault s.machine s.goal ≡ Some own))) ⊎ (machine_after s c ≡ s.machine)
writes_under_way s c is =
    ⊎_elim
    (λ (ends : c ≡ command.Section End). inl (ends, under_way_end (is_update s.now.stage) (call_fault s.machine s.goal) (told_era s) (end_after s c under_way_line ends is)))
    (λ (mover : IsMover c). inr (busy_same s c mover (is_busy s c mover (ap has_under is))))
    (call_ends s c (ap is_of_update is) (ap is_of_call is))

-- a command writes a line of calls and their faults only at the end of a section
pub end_or_not : (s : ReplayState) (c : Command) → (c ≡ command.Section End) ⊎ ((command_text s c ≡ called_line → ⊥) × ((era : ℕ) → command_text s c ≡ complete_line era → ⊥))
end_or_not s c = one (is_of_update (command_text s c)) (is_of_call (command_text s c)) refl refl
  where
    one : (a b : Bool) → is_of_update (command_text s c) ≡ a → is_of_call (command_text s c) ≡ b → (c ≡ command.Section End) ⊎ ((command_text s c ≡ called_line → ⊥) × ((era : ℕ) → command_text s c ≡ complete_line era → ⊥))
    one true true update call =
        ⊎_elim (λ (ends : c ≡ command.Section End). inl ends)
        (λ (mover : IsMover c). inr (λ is. no_mover (has_second 97) second_a s c called_line mover is refl, λ era is. no_mover (has_third 109) third_m s c (complete_line era) mover is refl))
        (call_ends s c update call)
    one false b update call = inr (λ is. clash (is_of_update (command_text s c)) update (ap is_of_update is), λ era is. clash (is_of_update (command_text s c)) update (ap is_of_update is))
    one true false update call = inr (λ is. clash (is_of_call (command_text s c)) call (ap is_of_call is), λ era is. clash (is_of_call (command_text s c)) call (ap is_of_call is))

-- ---- texts that call for nothing, by computation

pub no_call_there : (step : ScriptStep) → not (is_of_call (wrote step)) ≡ true → (BringsUp step.command → ⊥) → IsCall step → ⊥
no_call_there step other still (inr (k, inl up)) = still (Up, up.0)
no_call_there step other still (inr (k, inr joins)) = still (Join, joins.0)
no_call_there step other still (inl (inl called)) = let e : false ≡ true = sym (ap (λ (text : List ℕ). not (is_of_call text)) called) ∙ other in cc e
no_call_there step other still (inl (inr complete)) = let e : false ≡ true = sym (ap (λ (text : List ℕ). not (is_of_call text)) complete.1) ∙ other in cc e

-- its command brings up no processor
abbrev pub is_still : Command → Bool
is_still (command.Newcomer n) = false
is_still other = true

pub not_coming : (c : Command) → is_still c ≡ true → BringsUp c → ⊥
not_coming c still (n, comes) = let e : true ≡ false = sym still ∙ ap is_still comes in cc e

abbrev pub calls_none : ScriptStep → Bool
calls_none step = not (is_of_call (wrote step)) && is_still step.command

pub none_calls : (steps : List ScriptStep) → list_all calls_none steps ≡ true → NoneOf IsCall steps
none_calls [] others = tt
none_calls (step ∷ steps) others =
    let both = and_parts (calls_none step) (list_all calls_none steps) others in
    let own = and_parts (not (is_of_call (wrote step))) (is_still step.command) both.0 in
    (no_call_there step own.0 (not_coming step.command own.1), none_calls steps both.1)

-- ---- steps of a processor

-- by the first and the third letter: rele, pass
abbrev is_of_release : List ℕ → Bool
is_of_release (a ∷ b ∷ c ∷ rest) = (c == 108) && (a == 114)
is_of_release other = false

abbrev is_of_pass : List ℕ → Bool
is_of_pass (a ∷ b ∷ c ∷ rest) = (c == 115) && (a == 112)
is_of_pass other = false

ends_no_step : (b : Bool) (o : Option CallFault) (told : ℕ) → (is_of_release (end_text b o told) ≡ false) × (is_of_pass (end_text b o told) ≡ false)
ends_no_step true None told = (refl, refl)
ends_no_step false None told = (refl, refl)
ends_no_step true (Some (Refused fault)) told = (refl, refl)
ends_no_step true (Some UnderWay) told = (refl, refl)
ends_no_step false (Some (Refused fault)) told = (refl, refl)
ends_no_step false (Some UnderWay) told = (refl, refl)

releases : (f : RegisterFile) (e : Event) → is_of_release (line (event_text f e)) ≡ true → e ≡ event.Release
releases f event.Release is = refl
releases f event.Take is = absurd (cc is)
releases f event.Arrive is = absurd (cc is)
releases f event.Leave is = absurd (cc is)
releases f event.Pass is = absurd (cc is)
releases f event.SetNoFill is = absurd (cc is)
releases f (event.WriteBack address value) is = absurd (cc is)
releases f event.DropLines is = absurd (cc is)
releases f event.FlushTlb is = absurd (cc is)
releases f event.Disable is = absurd (cc is)
releases f (event.Write i) is = absurd (cc is)
releases f event.Enable is = absurd (cc is)
releases f event.SetNormal is = absurd (cc is)
releases f event.RestorePge is = absurd (cc is)
releases f event.ArriveAgain is = absurd (cc is)

passes : (f : RegisterFile) (e : Event) → is_of_pass (line (event_text f e)) ≡ true → e ≡ event.Pass
passes f event.Pass is = refl
passes f event.Take is = absurd (cc is)
passes f event.Arrive is = absurd (cc is)
passes f event.Leave is = absurd (cc is)
passes f event.SetNoFill is = absurd (cc is)
passes f (event.WriteBack address value) is = absurd (cc is)
passes f event.DropLines is = absurd (cc is)
passes f event.FlushTlb is = absurd (cc is)
passes f event.Disable is = absurd (cc is)
passes f (event.Write i) is = absurd (cc is)
passes f event.Enable is = absurd (cc is)
passes f event.SetNormal is = absurd (cc is)
passes f event.RestorePge is = absurd (cc is)
passes f event.ArriveAgain is = absurd (cc is)
passes f event.Release is = absurd (cc is)

did_release : (f : RegisterFile) (a : Stepped) → is_of_release (stepped_line f a) ≡ true → a ≡ Did event.Release
did_release f (Did e) is = ap Did (releases f e is)
did_release f (Waits arrived awaited) is = absurd (cc is)
did_release f NoUpdate is = absurd (cc is)

did_pass : (f : RegisterFile) (a : Stepped) → is_of_pass (stepped_line f a) ≡ true → a ≡ Did event.Pass
did_pass f (Did e) is = ap Did (passes f e is)
did_pass f (Waits arrived awaited) is = absurd (cc is)
did_pass f NoUpdate is = absurd (cc is)

no_release_mark : NoneIs is_of_release
no_release_mark = record { up = λ k. refl; joined = λ k. refl; retired = λ k. refl; under_way = refl; full = refl; no = refl }

no_pass_mark : NoneIs is_of_pass
no_pass_mark = record { up = λ k. refl; joined = λ k. refl; retired = λ k. refl; under_way = refl; full = refl; no = refl }

-- a text that `absent` isn't is written where the processor is there
marked_there : (mark : List ℕ → Bool) → mark absent_line ≡ false → (s : ReplayState) (k : ℕ) → mark (command_text s (command.Ask k ask.Step)) ≡ true → is_absent s.machine (command.Ask k ask.Step) ≡ false
marked_there mark off s k on = one (is_absent s.machine (command.Ask k ask.Step)) refl
  where
    one : (b : Bool) → is_absent s.machine (command.Ask k ask.Step) ≡ b → is_absent s.machine (command.Ask k ask.Step) ≡ false
    one true absent = absurd (clash (mark (command_text s (command.Ask k ask.Step))) (ap mark (absent_text s (command.Ask k ask.Step) absent) ∙ off) on)
    one false there = there

-- the command is a step, which does this event
abbrev pub Does : ReplayState → Command → Event → Type 0
Does s c e = (k : ℕ) × (c ≡ command.Ask k ask.Step) × (step_answer s.machine k ≡ Did e)

-- it is there
does_there : (s : ReplayState) (c : Command) (e : Event) (does : Does s c e) → is_absent s.machine (command.Ask does.0 ask.Step) ≡ false
does_there s c e does = step_is_there s does.0 e (answered_due s.machine does.0 e does.2)

release_marked : (s : ReplayState) (c : Command) → is_of_update (command_text s c) ≡ true → is_of_release (command_text s c) ≡ true → Does s c event.Release
release_marked s c update release = one c (of_command s c update) release
  where
    one : (c : Command) → IsOfUpdate c → is_of_release (command_text s c) ≡ true → Does s c event.Release
    one (command.Ask k ask.Step) update is = (k, refl, did_release (file_at (step_after s.machine k).system.processors k s.goal) (step_answer s.machine k) (ap is_of_release (sym (there_text s (command.Ask k ask.Step) (marked_there is_of_release refl s k is))) ∙ is))
    one (command.Newcomer n) update is = absurd (clash (is_of_release (command_text s (command.Newcomer n))) (unmarked is_of_release no_release_mark s (command.Newcomer n) tt) is)
    one command.Retire update is = absurd (clash (is_of_release (command_text s command.Retire)) (unmarked is_of_release no_release_mark s command.Retire tt) is)
    one (command.Section End) update is = absurd (clash (is_of_release (command_text s (command.Section End))) (ends_no_step (is_update s.now.stage) (call_fault s.machine s.goal) (told_era s)).0 is)
    one other update is = absurd update

pub writes_release : (s : ReplayState) (c : Command) → command_text s c ≡ release_line → Does s c event.Release
writes_release s c is = release_marked s c (ap is_of_update is) (ap is_of_release is)

release_written : (s : ReplayState) (c : Command) → Does s c event.Release → command_text s c ≡ release_line
release_written s c does =
    ap (command_text s) does.1 ∙ there_text s (command.Ask does.0 ask.Step) (does_there s c _ does) ∙ ap (stepped_line (file_at (step_after s.machine does.0).system.processors does.0 s.goal)) does.2

-- a step writes the line of a release, or another
pub release_or_not : (s : ReplayState) (c : Command) → (command_text s c ≡ release_line) ⊎ (command_text s c ≡ release_line → ⊥)
release_or_not s c = one (is_of_update (command_text s c)) (is_of_release (command_text s c)) refl refl
  where
    one : (a b : Bool) → is_of_update (command_text s c) ≡ a → is_of_release (command_text s c) ≡ b → (command_text s c ≡ release_line) ⊎ (command_text s c ≡ release_line → ⊥)
    one true true update release = inl (release_written s c (release_marked s c update release))
    one false b update release = inr (λ is. clash (is_of_update (command_text s c)) update (ap is_of_update is))
    one true false update release = inr (λ is. clash (is_of_release (command_text s c)) release (ap is_of_release is))

pub call_is_no_release : called_line ≡ release_line → ⊥
call_is_no_release is = let e : false ≡ true = ap is_of_release is in cc e

pub complete_is_no_release : (era : ℕ) → complete_line era ≡ release_line → ⊥
complete_is_no_release era is = let e : false ≡ true = ap is_of_release is in cc e

pass_marked : (s : ReplayState) (c : Command) → is_of_update (command_text s c) ≡ true → is_of_pass (command_text s c) ≡ true → Does s c event.Pass
pass_marked s c update pass = one c (of_command s c update) pass
  where
    one : (c : Command) → IsOfUpdate c → is_of_pass (command_text s c) ≡ true → Does s c event.Pass
    one (command.Ask k ask.Step) update is = (k, refl, did_pass (file_at (step_after s.machine k).system.processors k s.goal) (step_answer s.machine k) (ap is_of_pass (sym (there_text s (command.Ask k ask.Step) (marked_there is_of_pass refl s k is))) ∙ is))
    one (command.Newcomer n) update is = absurd (clash (is_of_pass (command_text s (command.Newcomer n))) (unmarked is_of_pass no_pass_mark s (command.Newcomer n) tt) is)
    one command.Retire update is = absurd (clash (is_of_pass (command_text s command.Retire)) (unmarked is_of_pass no_pass_mark s command.Retire tt) is)
    one (command.Section End) update is = absurd (clash (is_of_pass (command_text s (command.Section End))) (ends_no_step (is_update s.now.stage) (call_fault s.machine s.goal) (told_era s)).1 is)
    one other update is = absurd update

pub writes_pass : (s : ReplayState) (c : Command) → command_text s c ≡ pass_line → Does s c event.Pass
writes_pass s c is = pass_marked s c (ap is_of_update is) (ap is_of_pass is)

pass_written : (s : ReplayState) (c : Command) → Does s c event.Pass → command_text s c ≡ pass_line
pass_written s c does =
    ap (command_text s) does.1 ∙ there_text s (command.Ask does.0 ask.Step) (does_there s c _ does) ∙ ap (stepped_line (file_at (step_after s.machine does.0).system.processors does.0 s.goal)) does.2

-- a step writes the line of a pass, or another
pub pass_or_not : (s : ReplayState) (c : Command) → (command_text s c ≡ pass_line) ⊎ (command_text s c ≡ pass_line → ⊥)
pass_or_not s c = one (is_of_update (command_text s c)) (is_of_pass (command_text s c)) refl refl
  where
    one : (a b : Bool) → is_of_update (command_text s c) ≡ a → is_of_pass (command_text s c) ≡ b → (command_text s c ≡ pass_line) ⊎ (command_text s c ≡ pass_line → ⊥)
    one true true update pass = inl (pass_written s c (pass_marked s c update pass))
    one false b update pass = inr (λ is. clash (is_of_update (command_text s c)) update (ap is_of_update is))
    one true false update pass = inr (λ is. clash (is_of_pass (command_text s c)) pass (ap is_of_pass is))
