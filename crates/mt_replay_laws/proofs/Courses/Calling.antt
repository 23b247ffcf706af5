-- A release stands behind a call of this course, and a goal is that of its section.
use Rattle.std.proofs.Common.{◌≡◌, ◌⊎◌, ◌∙◌, ap, sym, refl, subst, inl, inr, ℕ, Bool, true, false, List, [], ◌∷◌, ◌++◌, Option, None, Some, ⊎_elim, if◌then◌else◌}
use Rattle.std.specs.Prelude.{IsSome, not}
use Rattle.std.proofs.lemmas.List.{append_assoc}
use Rattle.mt_regs.specs.RegisterFile.{RegisterFile}
use Rattle.mt_machine.specs.declared.event.Event.TheVariants.{Release}
use Rattle.mt_machine.specs.Machine.{Order}
use Rattle.mt_core.specs.declared.fault.CallFault.{CallFault}
use Rattle.mt_script.specs.Situation.{Situation}
use Rattle.mt_script.specs.Stages.{is_in_dump, is_past_dump, takes_commands, takes_cpus, takes_dump, takes_end, takes_registers, takes_windows}
use Rattle.mt_script.specs.Accept.{Fits, accepted}
use Rattle.mt_script.specs.declared.command.Stage.{Stage}
use Rattle.mt_script.specs.declared.command.Stage.TheVariants.{InBegin, InDump, InUpdate, Rams}
use Rattle.mt_script.specs.declared.command.Command.{Command}
use Rattle.mt_script.specs.declared.command.Command.TheVariants as command
use Rattle.mt_script.specs.declared.command.Section.TheVariants.{Update, Begin, Register, End}
use Rattle.mt_replay_laws.specs.Settling.{IsWithoutCall}
use Rattle.mt_replay_laws.specs.Coming.{BringsUp}
use Rattle.mt_admit.specs.Admission.{admitted}
use Rattle.mt_replay_laws.proofs.Courses.Newcomers.{call_of_end, comes_as_newcomer, coming_or_not, newcomer_comes, newcomer_is_coming}
use Rattle.mt_replay_laws.specs.Headline.{AcceptedWhereIdleAndWhole, GoalsAreOfTheirSections, IsCall, NoneOf, SectionOf, given, goal_of, release_line, IsCalled, IsNewcomer, IsSectionCall, Joins}
use Rattle.mt_replay.specs.Steps.{ScriptStep, course, last_of, left, wrote}
use Rattle.mt_replay.specs.Kept.{IsReplayState}
use Rattle.mt_replay.specs.ReplayState.{ReplayState, call_fault, command_text, first_file, goal_after, machine_after, may_come}
use Rattle.mt_replay.specs.Texts.{called_line, complete_line}
use Rattle.mt_replay_laws.proofs.Courses.Acting.{acts, none_acts}
use Rattle.mt_replay_laws.proofs.Courses.Since.{accepted_end, no_call}
use Rattle.mt_replay_laws.proofs.Courses.Steps.{AreInTurn, behind_front, course_is, in_front, stands_in}
use Rattle.mt_replay_laws.proofs.Courses.Tells.{end_or_not, writes_called, writes_complete, writes_release}
use Rattle.mt_replay.proofs.Keeping.States.{state_kept}
use Rattle.mt_replay_laws.proofs.Refusals.Calls.{accepted_where_idle}
use Rattle.mt_replay_laws.proofs.Refusals.Releases.{answered_due, due_order}
use Rattle.mt_replay_laws.proofs.Refusals.Updates.{complete_updates_settle}

-- ---- no order without a call

none_stays : (s : ReplayState) (c : Command) → IsReplayState s → Fits s.now c → IsWithoutCall s c → s.machine.order ≡ None → (machine_after s c).order ≡ None
none_stays s (command.Ram base lines) h fits calls none = none
none_stays s (command.Selfsnoop k) h fits calls none = none
none_stays s other h fits calls none = none_acts s.machine (machine_after s other) (command_text s other) (acts s other h fits calls tt) none

-- ---- calls

call_or_not : (step : ScriptStep) → IsReplayState step.before → IsCall step ⊎ (IsCall step → ⊥)
call_or_not step h = by (end_or_not step.before step.command)
  where
    no_fault : IsSectionCall step → call_fault step.before.machine step.before.goal ≡ None
    no_fault (inl is) = (writes_called step.before step.command is).2
    no_fault (inr is) = (writes_complete step.before step.command is.0 is.1).2

    ended : step.command ≡ command.Section End → (o : Option CallFault) → call_fault step.before.machine step.before.goal ≡ o → IsCall step ⊎ (IsCall step → ⊥)
    ended ends None is = inl (inl (subst (λ (c : Command). (command_text step.before c ≡ called_line) ⊎ ((era : ℕ) × (command_text step.before c ≡ complete_line era))) (sym ends) (accepted_end step.before h is)))
    ended ends (Some fault) is = inr (λ call. let none = no_fault (call_of_end step ends call) in cc (is, none))

    other : (command_text step.before step.command ≡ called_line → ⊥) → ((era : ℕ) → command_text step.before step.command ≡ complete_line era → ⊥) → (IsNewcomer step → ⊥) → IsCall step → ⊥
    other called complete newcomer (inl (inl is)) = called is
    other called complete newcomer (inl (inr is)) = complete is.0 is.1
    other called complete newcomer (inr is) = newcomer is

    came : BringsUp step.command → (b : Bool) → may_come step.before.machine ≡ b → IsNewcomer step ⊎ (IsNewcomer step → ⊥)
    came coming true may = inl (comes_as_newcomer step coming may)
    came coming false may = inr (λ newcomer. let on = newcomer_comes step newcomer in cc (on, may))

    comes : BringsUp step.command ⊎ (BringsUp step.command → ⊥) → IsNewcomer step ⊎ (IsNewcomer step → ⊥)
    comes (inl coming) = came coming (may_come step.before.machine) refl
    comes (inr not) = inr (λ newcomer. not (newcomer_is_coming step newcomer))

    by : (step.command ≡ command.Section End) ⊎ ((command_text step.before step.command ≡ called_line → ⊥) × ((era : ℕ) → command_text step.before step.command ≡ complete_line era → ⊥)) → IsCall step ⊎ (IsCall step → ⊥)
    by (inl ends) = ended ends (call_fault step.before.machine step.before.goal) refl
    by (inr none) =
        ⊎_elim (λ (newcomer : IsNewcomer step). inl (inr newcomer)) (λ (no_newcomer : IsNewcomer step → ⊥). inr (other none.0 none.1 no_newcomer)) (comes (coming_or_not step.command))

abbrev pub CalledIn : List ScriptStep → Type 0
CalledIn steps =
    (before : List ScriptStep) × (call : ScriptStep) × (between : List ScriptStep)
    × (steps ≡ before ++ call ∷ between) × IsCalled call × NoneOf IsCall between

abbrev StillOrCalled : ReplayState → List ScriptStep → Type 0
StillOrCalled s steps = (IsSome s.machine.order × NoneOf IsCall steps) ⊎ CalledIn steps

-- a complete update leaves no order
none_after : (step : ScriptStep) (era : ℕ) → IsReplayState step.before → wrote step ≡ complete_line era → (left step).machine.order ≡ None
none_after step era h is =
    let w = writes_complete step.before step.command era is in
    ap (λ (c : Command). (machine_after step.before c).order) w.0 ∙ (complete_updates_settle step.before h w.1 w.2).no_order

-- nor does one that joins
none_joins : (step : ScriptStep) (k : ℕ) → Joins step k → (left step).machine.order ≡ None
none_joins step k joins =
    ap (λ (c : Command). (machine_after step.before c).order) joins.0
    ∙ ap (λ (b : Bool). (if b then admitted step.before.machine else step.before.machine).order) (newcomer_comes step (k, inr joins))

some_is_not_none : (o : Option Order) → IsSome o → o ≡ None → ⊥
some_is_not_none None some is = cc some
some_is_not_none (Some order) some is = cc is

one_more : (step : ScriptStep) (steps : List ScriptStep) → IsReplayState step.before → Fits step.before.now step.command → IsCall step ⊎ (IsCall step → ⊥) → StillOrCalled (left step) steps → StillOrCalled step.before (step ∷ steps)
one_more step steps h fits decided (inr c) = inr (step ∷ c.0, c.1, c.2, ap (λ (rest : List ScriptStep). step ∷ rest) c.3, c.4, c.5)
one_more step steps h fits (inl (inl (inl called))) (inl still) = inr ([], step, steps, refl, inl called, still.1)
one_more step steps h fits (inl (inr (k, inl up))) (inl still) = inr ([], step, steps, refl, inr (k, up), still.1)
one_more step steps h fits (inl (inr (k, inr joins))) (inl still) = absurd (some_is_not_none (left step).machine.order still.0 (none_joins step k joins))
one_more step steps h fits (inl (inl (inr complete))) (inl still) = absurd (some_is_not_none (left step).machine.order still.0 (none_after step complete.0 h complete.1))
one_more step steps h fits (inr other) (inl still) = one step.before.machine.order refl
  where
    one : (o : Option Order) → step.before.machine.order ≡ o → StillOrCalled step.before (step ∷ steps)
    one None is = absurd (some_is_not_none (left step).machine.order still.0 (none_stays step.before step.command h fits (no_call step h other) is))
    one (Some o) is = inl (subst (λ (v : Option Order). IsSome v) (sym is) refl, (other, still.1))

called_before : (steps : List ScriptStep) (s : ReplayState) → IsReplayState s → AreInTurn s steps → IsSome (last_of s steps).machine.order → StillOrCalled s steps
called_before [] s h on some = inl (some, tt)
called_before (step ∷ steps) s h on some =
    let here : IsReplayState step.before = subst IsReplayState (sym on.0) h in
    subst (λ (x : ReplayState). StillOrCalled x (step ∷ steps)) on.0
    (one_more step steps here on.1 (call_or_not step here) (called_before steps (left step) (state_kept step.before step.command here on.1) on.2 some))

-- a step that releases stands behind one that called, and no other call stands between them
pub releases_follow_calls : (text : List ℕ) (front rest : List ScriptStep) (release : ScriptStep) → course text ≡ front ++ release ∷ rest → wrote release ≡ release_line → CalledIn front
releases_follow_calls text front rest release same released =
    let c = course_is text front rest release same in
    let on = behind_front front (release ∷ rest) c.first c.goes_on in
    let does = writes_release release.before release.command released in
    let order = due_order release.before.machine does.0 Release (answered_due release.before.machine does.0 Release does.2) in
    let some : IsSome (last_of c.first front).machine.order = subst (λ (x : ReplayState). IsSome x.machine.order) on.0 (subst (λ (v : Option Order). IsSome v) (sym order.1) refl) in
    one c.first c.no_order (called_before front c.first c.is (in_front front (release ∷ rest) c.first c.goes_on) some)
  where
    one : (s : ReplayState) → s.machine.order ≡ None → StillOrCalled s front → CalledIn front
    one s none (inl still) = absurd (some_is_not_none s.machine.order still.0 none)
    one s none (inr called) = called

-- ---- accepted

pub accepted_where_idle_and_whole : AcceptedWhereIdleAndWhole
accepted_where_idle_and_whole text front rest step same ends = (
  λ call. (accepted_where_idle step.before).0 (no_fault (call_of_end step ends call)),
  λ idle.
      inl (subst (λ (c : Command). (command_text step.before c ≡ called_line) ⊎ ((era : ℕ) × (command_text step.before c ≡ complete_line era))) (sym ends)
      (accepted_end step.before (stands_in front rest step (course_is text front rest step same)).is ((accepted_where_idle step.before).1 idle))),
)
  where
    no_fault : IsSectionCall step → call_fault step.before.machine step.before.goal ≡ None
    no_fault (inl is) = (writes_called step.before step.command is).2
    no_fault (inr is) = (writes_complete step.before step.command is.0 is.1).2

-- ---- goals

-- What a section doesn't take.
record IsSection (stage : Stage) : Type 0 where
  cpus : takes_cpus stage ≡ false
  dump : takes_dump stage ≡ false
  windows : takes_windows stage ≡ false
  commands : takes_commands stage ≡ false
  in_dump : is_in_dump stage ≡ false

is_section : (stage : Stage) → takes_registers stage ≡ true → IsSection stage
is_section InUpdate is = record { cpus = refl; dump = refl; windows = refl; commands = refl; in_dump = refl }
is_section InBegin is = record { cpus = refl; dump = refl; windows = refl; commands = refl; in_dump = refl }
is_section other is = absurd (cc is)

goes_wrong : {X : Type 0} (b : Bool) → b ≡ true → b ≡ false → X
goes_wrong b on off = absurd (cc (on, off))

-- a line of a section that doesn't end it gives a register, or nothing
in_section : (s : ReplayState) (c : Command) → takes_registers s.now.stage ≡ true → IsSection s.now.stage → Fits s.now c → (c ≡ command.Section End → ⊥)
    → (takes_registers (accepted s.now c).stage ≡ true) × (goal_after s c ≡ given s.goal c)
in_section s command.Blank is h fits other = (is, refl)
in_section s (command.Cpus n) is h fits other = goes_wrong (takes_cpus s.now.stage) fits.0 h.cpus
in_section s command.Dump is h fits other = goes_wrong (takes_dump s.now.stage) fits h.dump
in_section s command.DumpLine is h fits other = goes_wrong (is_in_dump s.now.stage) fits h.in_dump
in_section s (command.Ram base lines) is h fits other = goes_wrong (takes_windows s.now.stage) fits.0 h.windows
in_section s (command.Selfsnoop k) is h fits other = goes_wrong (takes_windows s.now.stage) fits.0 h.windows
in_section s (command.Section (Register number value)) is h fits other = (is, refl)
in_section s (command.Section End) is h fits other = absurd (other refl)
in_section s (command.Ask k a) is h fits other = goes_wrong (takes_commands s.now.stage) fits.0.0 h.commands
in_section s (command.Word address) is h fits other = goes_wrong (takes_commands s.now.stage) fits.0 h.commands
in_section s c is h fits other = goes_wrong (takes_commands s.now.stage) fits h.commands

section_goal : (lines : List ScriptStep) (s : ReplayState) → takes_registers s.now.stage ≡ true → AreInTurn s lines → NoneOf (λ step. step.command ≡ command.Section End) lines → (last_of s lines).goal ≡ goal_of s.goal lines
section_goal [] s is on none = refl
section_goal (step ∷ lines) s is on none =
    let here : takes_registers step.before.now.stage ≡ true = ap (λ (x : ReplayState). takes_registers x.now.stage) on.0 ∙ is in
    let line = in_section step.before step.command here (is_section step.before.now.stage here) on.1 none.0 in
    section_goal lines (left step) line.0 on.2 none.1
    ∙ ap (λ (g : RegisterFile). goal_of g lines) line.1
    ∙ ap (λ (x : ReplayState). goal_of (given x.goal step.command) lines) on.0

goal_of_section : (text : List ℕ) (front lines rest : List ScriptStep) (opens ends : ScriptStep) → course text ≡ front ++ opens ∷ (lines ++ ends ∷ rest)
    → (opens.command ≡ command.Section Update) ⊎ (opens.command ≡ command.Section Begin) → NoneOf (λ step. step.command ≡ command.Section End) lines
    → ends.before.goal ≡ goal_of (first_file opens.before) lines
goal_of_section text front lines rest opens ends same begun none =
    let there = stands_in front (lines ++ ends ∷ rest) opens (course_is text front (lines ++ ends ∷ rest) opens same) in
    let first = begins begun in
    let on = behind_front lines (ends ∷ rest) (left opens) there.goes_on in
    ap (λ (x : ReplayState). x.goal) on.0
    ∙ section_goal lines (left opens) first.0 (in_front lines (ends ∷ rest) (left opens) there.goes_on) none
    ∙ ap (λ (g : RegisterFile). goal_of g lines) first.1
  where
    begins : (opens.command ≡ command.Section Update) ⊎ (opens.command ≡ command.Section Begin) → (takes_registers (left opens).now.stage ≡ true) × ((left opens).goal ≡ first_file opens.before)
    begins (inl is) = (ap (λ (c : Command). takes_registers (accepted opens.before.now c).stage) is, ap (goal_after opens.before) is)
    begins (inr is) = (ap (λ (c : Command). takes_registers (accepted opens.before.now c).stage) is, ap (goal_after opens.before) is)

-- ---- sections

-- a command that leads to a section begins it, or stands in it
opens_or_stays : (now : Situation) (c : Command) → takes_registers (accepted now c).stage ≡ true
    → ((c ≡ command.Section Update) ⊎ (c ≡ command.Section Begin)) ⊎ ((takes_registers now.stage ≡ true) × (c ≡ command.Section End → ⊥))
opens_or_stays now (command.Section Update) is = inl (inl refl)
opens_or_stays now (command.Section Begin) is = inl (inr refl)
opens_or_stays now (command.Ram base lines) is = inr (is, λ e. cc e)
opens_or_stays now (command.Selfsnoop k) is = inr (is, λ e. cc e)
opens_or_stays now command.Blank is = inr (is, λ e. cc e)
opens_or_stays now command.DumpLine is = inr (is, λ e. cc e)
opens_or_stays now (command.Section (Register number value)) is = inr (is, λ e. cc e)
opens_or_stays now other is = absurd (cc is)

abbrev OpenedIn : List ScriptStep → Type 0
OpenedIn steps =
    (before : List ScriptStep) × (opens : ScriptStep) × (lines : List ScriptStep)
    × (steps ≡ before ++ opens ∷ lines) × ((opens.command ≡ command.Section Update) ⊎ (opens.command ≡ command.Section Begin)) × NoneOf (λ step. step.command ≡ command.Section End) lines

abbrev InsideOrOpened : ReplayState → List ScriptStep → Type 0
InsideOrOpened s steps = ((takes_registers s.now.stage ≡ true) × NoneOf (λ step. step.command ≡ command.Section End) steps) ⊎ OpenedIn steps

opened_before : (steps : List ScriptStep) (s : ReplayState) → AreInTurn s steps → takes_registers (last_of s steps).now.stage ≡ true → InsideOrOpened s steps
opened_before [] s on is = inl (is, tt)
opened_before (step ∷ steps) s on is =
    subst (λ (x : ReplayState). InsideOrOpened x (step ∷ steps)) on.0 (one (opened_before steps (left step) on.2 is))
  where
    one : InsideOrOpened (left step) steps → InsideOrOpened step.before (step ∷ steps)
    one (inr o) = inr (step ∷ o.0, o.1, o.2, ap (λ (rest : List ScriptStep). step ∷ rest) o.3, o.4, o.5)
    one (inl inside) = by (opens_or_stays step.before.now step.command inside.0)
      where
        by : ((step.command ≡ command.Section Update) ⊎ (step.command ≡ command.Section Begin)) ⊎ ((takes_registers step.before.now.stage ≡ true) × (step.command ≡ command.Section End → ⊥)) → InsideOrOpened step.before (step ∷ steps)
        by (inl opens) = inr ([], step, steps, refl, opens, inside.1)
        by (inr stays) = inl (stays.0, (stays.1, inside.1))

-- behind the dump only a section ends
ends_section : (stage : Stage) → is_past_dump stage ≡ true → takes_end stage ≡ true → takes_registers stage ≡ true
ends_section InUpdate past ends = refl
ends_section InBegin past ends = refl
ends_section InDump past ends = absurd (cc past)
ends_section other past ends = absurd (cc ends)

no_section : (stage : Stage) → takes_windows stage ≡ true → takes_registers stage ≡ true → ⊥
no_section Rams windows registers = cc registers
no_section other windows registers = cc windows

pub goals_are_of_their_sections : GoalsAreOfTheirSections
goals_are_of_their_sections text front rest call same called =
    let c = course_is text front rest call same in
    let there = stands_in front rest call c in
    let on = behind_front front (call ∷ rest) c.first c.goes_on in
    let inside = ends_section call.before.now.stage there.is.past (subst (Fits call.before.now) (ends called) there.fits) in
    one c.first c.windows (opened_before front c.first (in_front front (call ∷ rest) c.first c.goes_on) (ap (λ (x : ReplayState). takes_registers x.now.stage) (sym on.0) ∙ inside))
  where
    ends : IsSectionCall call → call.command ≡ command.Section End
    ends (inl is) = (writes_called call.before call.command is).0
    ends (inr is) = (writes_complete call.before call.command is.0 is.1).0

    section : OpenedIn front → SectionOf front call
    section o = record {
      before = o.0;
      opens = o.1;
      lines = o.2;
      stand = o.3;
      begins = o.4;
      no_other_end = o.5;
      ends = ends called;
      goal = goal_of_section text o.0 o.2 rest o.1 call (same ∙ ap (λ (steps : List ScriptStep). steps ++ call ∷ rest) o.3 ∙ append_assoc o.0 (o.1 ∷ o.2) (call ∷ rest)) o.4 o.5;
    }

    one : (s : ReplayState) → takes_windows s.now.stage ≡ true → InsideOrOpened s front → SectionOf front call
    one s windows (inl inside) = absurd (no_section s.now.stage windows inside.0)
    one s windows (inr opened) = section opened
