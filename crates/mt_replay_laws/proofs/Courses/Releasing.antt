-- What the first release of an update leaves in a course.
use Rattle.std.proofs.Common.{◌≡◌, ◌⊎◌, ◌∙◌, ap, sym, refl, subst, inl, inr, ℕ, ◌+◌, false, List, [], ◌∷◌, ◌++◌, Option, None, Some, arith, Bool, true, if◌then◌else◌}
use Rattle.std.specs.Option.{option_map_or}
use Rattle.std.specs.List.{All}
use Rattle.std.proofs.lemmas.List.{append_assoc}
use Rattle.mt_regs.specs.RegisterFile.{RegisterFile}
use Rattle.mt_machine.specs.declared.event.Event.{Event}
use Rattle.mt_machine.specs.declared.event.Event.TheVariants.{Pass, Release}
use Rattle.mt_machine.specs.System.{now}
use Rattle.mt_machine.specs.Machine.{Calls, IsEnabled, Machine, Order, Steps, common_era, due_at, next}
use Rattle.mt_machine.specs.Start.{IsQuiet}
use Rattle.mt_machine.specs.Update.{IsSettled}
use Rattle.mt_laws.specs.Settled.{IsFirstRelease}
use Rattle.mt_laws.proofs.Invariant.Runs.{enabled_join, run_join}
use Rattle.mt_core.proofs.Settling.{is_quiet_without_order, no_buffers_where_one_passes}
use Rattle.mt_script.specs.Stages.{takes_windows}
use Rattle.mt_script.specs.Accept.{Fits, accepted}
use Rattle.mt_script.specs.declared.command.Command.{Command}
use Rattle.mt_script.specs.declared.command.Command.TheVariants as command
use Rattle.mt_script.specs.declared.command.Ask.TheVariants as ask
use Rattle.mt_machine.specs.ComingAndGoing.{with_newcomer}
use Rattle.mt_laws.proofs.Invariant.Coming.{reset_stays_quiet}
use Rattle.mt_core.specs.Arises.{by_event}
use Rattle.mt_admit.specs.Admission.{brought_up}
use Rattle.mt_admit.proofs.Calling.{reset_era}
use Rattle.mt_replay.proofs.Keeping.Absent.{there_machine}
use Rattle.mt_replay.proofs.Keeping.Moving.{idle_to_come}
use Rattle.mt_replay_laws.proofs.Refusals.Joins.{first_same}
use Rattle.mt_replay_laws.proofs.Courses.Newcomers.{newcomer_comes}
use Rattle.mt_replay_laws.specs.Headline.{IsCall, KeepsUpdate, NoneOf, NoneWrote, ReleasedUpdatesAreKept, UpdateOf, next_era, pass_line, release_line, stored_in, IsCalled, IsNewcomer, called_goal, goal_by}
use Rattle.mt_replay.specs.Steps.{ScriptStep, course, last_of, left, wrote}
use Rattle.mt_replay.specs.Kept.{IsReplayState}
use Rattle.mt_replay.specs.ReplayState.{ReplayState, machine_after, state_after, first_file}
use Rattle.mt_replay_laws.specs.Settling.{AreWithoutCall, state_after_all, stored_by_all}
use Rattle.mt_replay.specs.Texts.{called_line, complete_line}
use Rattle.mt_replay_laws.proofs.Courses.Acting.{FirstPass, Goes_between, Stands, WaitsIn, first_pass, none_release, order_stays, stands_after, stands_behind}
use Rattle.mt_replay_laws.proofs.Courses.Calling.{releases_follow_calls}
use Rattle.mt_replay_laws.proofs.Courses.Since.{commands, is_aligned, keeps, same_last, same_stored, without_call}
use Rattle.mt_replay_laws.proofs.Courses.Steps.{AreInTurn, behind_front, course_is, in_front, stands_in}
use Rattle.mt_replay_laws.proofs.Courses.Tells.{Does, call_is_no_release, complete_is_no_release, release_or_not, writes_called, writes_pass, writes_release, has_third}
use Rattle.mt_replay_laws.proofs.Courses.Waiting.{IsOf, Waits, none_has_passed, none_releases, order_of, waits_at_call}
use Rattle.mt_replay.proofs.Keeping.States.{call_enabled, state_kept}
use Rattle.mt_replay_laws.proofs.Refusals.Calls.{accepted_calls}
use Rattle.mt_replay_laws.proofs.Refusals.Releases.{answered_due, due_order, released_states_settle, step_is_there}
use Rattle.mt_replay_laws.proofs.Paths.Settling.{Path, word_after_release, word_path}
use Rattle.mt_replay_laws.proofs.Refusals.Since.{all_lead}

none_behind : (P : ScriptStep → Type 0) (front rest : List ScriptStep) → NoneOf P (front ++ rest) → NoneOf P rest
none_behind P [] rest h = h
none_behind P (step ∷ front) rest h = none_behind P front rest h.1

last_join : (front rest : List ScriptStep) (s : ReplayState) → last_of s (front ++ rest) ≡ last_of (last_of s front) rest
last_join [] rest s = refl
last_join (step ∷ front) rest s = last_join front rest (left step)

-- the machine after a step that does an event
did : (step : ScriptStep) (e : Event) (does : Does step.before step.command e) → due_at step.before.machine does.0 ≡ Some e → (left step).machine ≡ next step.before.machine (Steps does.0 e)
did step e does due =
    ap (machine_after step.before) does.1
    ∙ there_machine step.before (command.Ask does.0 ask.Step) (step_is_there step.before does.0 e due)
    ∙ ap (λ (o : Option Event). option_map_or (λ e. next step.before.machine (Steps does.0 e)) o step.before.machine) due

-- ---- from a release on

module _ (release : ScriptStep) (since : List ScriptStep) (h : Stands release.before) (fits : Fits release.before.now release.command) (on : AreInTurn (left release) since) (calls : NoneOf IsCall since)
    (does : Does release.before release.command Release) where
  abbrev m : Machine
  m = release.before.machine

  abbrev k : ℕ
  k = does.0

  due : due_at m k ≡ Some Release
  due = answered_due m k Release does.2

  after : left release ≡ state_after release.before (command.Ask k ask.Step)
  after = ap (state_after release.before) does.1

  fits_step : Fits release.before.now (command.Ask k ask.Step)
  fits_step = subst (Fits release.before.now) does.1 fits

  without : AreWithoutCall (left release) (commands since)
  without = without_call since (left release) (stands_after release h fits).is on calls

  settled : (goal : RegisterFile) (era : ℕ) → IsOf goal era m.order → IsSettled (last_of (left release) since).machine.system (era + 1) goal
  settled goal era of =
      let s = released_states_settle release.before k (commands since) h.is fits_step does.2 (subst (λ (x : ReplayState). AreWithoutCall x (commands since)) after without) in
      let own : IsOf goal era (Some s.0) = subst (IsOf goal era) s.1 of in
      let last_is : state_after_all (state_after release.before (command.Ask k ask.Step)) (commands since) ≡ last_of (left release) since =
      ap (λ (x : ReplayState). state_after_all x (commands since)) (sym after) ∙ same_last since (left release) on in
      subst (λ (v : ReplayState × ℕ × RegisterFile). IsSettled v.0.machine.system (v.1 + 1) v.2) (λ i. (last_is i, own.1 i, own.0 i)) s.2

  -- the steps since
  path : Path (next m (Steps k Release)) (last_of (left release) since).machine (stored_in since)
  path =
      let all : Path (left release).machine (state_after_all (left release) (commands since)).machine (stored_by_all (left release) (commands since)) =
      all_lead (commands since) (left release) (stands_after release h fits).is (stands_after release h fits).past without in
      subst (λ (v : Machine × ReplayState × List ℕ). Path v.0 v.1.machine v.2)
      (λ i. (did release Release does due i, same_last since (left release) on i, same_stored since (left release) on i)) all

-- ---- from the first pass to the first release

module _ (goal : RegisterFile) (era : ℕ) (pass : ScriptStep) (between : List ScriptStep) (h : Stands pass.before) (fits : Fits pass.before.now pass.command) (on : AreInTurn (left pass) between)
    (calls : NoneOf IsCall between) (releases : NoneWrote release_line between) (waits : WaitsIn goal era pass.before) (passes : Does pass.before pass.command Pass)
    (m : Machine) (same : (last_of (left pass) between).machine ≡ m) (last : ℕ) (due : due_at m last ≡ Some Release) where
  abbrev p : Machine
  p = pass.before.machine

  due_pass : due_at p passes.0 ≡ Some Pass
  due_pass = answered_due p passes.0 Pass passes.2

  order : (o : Order) × (p.order ≡ Some o)
  order = due_order p passes.0 Pass due_pass

  some_order : m.order ≡ None → ⊥
  some_order none = let there = due_order m last Release due in let e = there.1 in cc (e, none)

  goes_between : Goes_between (next p (Steps passes.0 Pass)) m
  goes_between =
      subst (λ (v : Machine × Machine). Goes_between v.0 v.1) (λ i. (did pass Pass passes due_pass i, same i))
      (none_release between (left pass) (stands_after pass h fits) on calls releases (λ none. some_order (ap (λ (x : Machine). x.order) (sym same) ∙ none)))

  is_first : IsFirstRelease p (next m (Steps last Release)) order.0
  is_first = record {
    order = order.1;
    none_passed = none_has_passed goal era p.system order.0 (subst (Waits goal era p.system) order.1 waits);
    first = passes.0;
    last = last;
    between = goes_between.events;
    no_release = goes_between.no_release;
    enabled = enabled_join p (Steps passes.0 Pass ∷ goes_between.events) (Steps last Release ∷ []) (due_pass, goes_between.enabled) (subst (λ (x : Machine). IsEnabled x (Steps last Release)) (sym goes_between.is) due, tt);
    leads = ap (λ (x : Machine). next x (Steps last Release)) (sym goes_between.is) ∙ sym (run_join p (Steps passes.0 Pass ∷ goes_between.events) (Steps last Release ∷ []));
  }

-- ---- the course of an update

-- A call: of this machine, or of this with a newcomer.
record WasCalled (call : ScriptStep) : Type 0 where
  base : Machine
  quiet : IsQuiet base
  after : (left call).machine ≡ next base (Calls (called_goal call))
  era : common_era base.system.processors ≡ common_era call.before.machine.system.processors
  past : takes_windows (left call).now.stage ≡ false

called_as : (call : ScriptStep) → IsReplayState call.before → IsCalled call → WasCalled call
called_as call h (inl called) =
    let so = writes_called call.before call.command called in
    let goal : called_goal call ≡ call.before.goal = ap (λ (c : Command). goal_by c call.before) so.0 in
    record {
      base = call.before.machine;
      quiet = is_quiet_without_order call.before.machine h.arises (call_enabled call.before h so.2).0;
      after = ap (machine_after call.before) so.0 ∙ (accepted_calls call.before so.1 so.2).1 ∙ ap (λ (g : RegisterFile). next call.before.machine (Calls g)) (sym goal);
      era = refl;
      past = ap (λ (c : Command). takes_windows (accepted call.before.now c).stage) so.0;
    }
called_as call h (inr (k, up)) =
    let may = newcomer_comes call (k, inl up) in
    let none = idle_to_come call.before.machine may in
    let m : Machine = call.before.machine in
    let goal : called_goal call ≡ first_file call.before = ap (λ (c : Command). goal_by c call.before) up.0 in
    record {
      base = with_newcomer m;
      quiet = reset_stays_quiet m (is_quiet_without_order m h.arises none);
      after = ap (machine_after call.before) up.0 ∙ ap (λ (b : Bool). if b then brought_up m else m) may
          ∙ ap (λ (g : RegisterFile). next (with_newcomer m) (Calls g)) (first_same call.before h ∙ sym goal);
      era = reset_era m.system (omega (arith, h.some));
      past = ap (λ (c : Command). takes_windows (accepted call.before.now c).stage) up.0;
    }

-- its first pass, and what is kept from its first release on
abbrev Released : ScriptStep → List ScriptStep → ScriptStep → List ScriptStep → Type 0
Released call upto release since =
    (waiting : List ScriptStep) × (pass : ScriptStep) × (between : List ScriptStep)
    × (upto ≡ waiting ++ pass ∷ between) × NoneWrote pass_line waiting × (wrote pass ≡ pass_line) × All (λ p. p.buffers ≡ []) pass.before.machine.system.processors
    × KeepsUpdate (called_goal call) (next_era call) (now pass.before.machine.system) (stored_in since) (last_of (left release) since).machine

module _ (call release : ScriptStep) (upto since : List ScriptStep) (h : IsReplayState call.before) (fits : Fits call.before.now call.command)
    (on : AreInTurn (left call) (upto ++ release ∷ since)) (called : IsCalled call) (calls : NoneOf IsCall upto) (releases : NoneWrote release_line upto)
    (released : wrote release ≡ release_line) (quiet_since : NoneOf IsCall since) where
  abbrev goal : RegisterFile
  goal = called_goal call

  abbrev era : ℕ
  era = common_era call.before.machine.system.processors

  was_called : WasCalled call
  was_called = called_as call h called

  begins : Stands (left call)
  begins = record { is = state_kept call.before call.command h fits; past = was_called.past }

  waits : WaitsIn goal era (left call)
  waits =
      subst (λ (x : Machine). Waits goal era x.system x.order) (sym was_called.after)
      (subst (λ (n : ℕ). Waits goal n (next was_called.base (Calls goal)).system (next was_called.base (Calls goal)).order) was_called.era (waits_at_call was_called.base goal was_called.quiet))

  on_upto : AreInTurn (left call) upto
  on_upto = in_front upto (release ∷ since) (left call) on

  on_release : AreInTurn (last_of (left call) upto) (release ∷ since)
  on_release = behind_front upto (release ∷ since) (left call) on

  stands : Stands release.before
  stands = subst Stands (sym on_release.0) (stands_behind upto (left call) begins on_upto)

  does : Does release.before release.command Release
  does = writes_release release.before release.command released

  of : IsOf goal era release.before.machine.order
  of =
      subst (λ (x : ReplayState). IsOf goal era x.machine.order) (sym on_release.0)
      (order_stays goal era upto (left call) begins on_upto calls (order_of goal era (left call).machine.system (left call).machine.order waits))

  kept : FirstPass goal era upto → Released call upto release since
  kept f =
      let on_all : AreInTurn (left call) (f.waiting ++ f.pass ∷ f.between) = subst (AreInTurn (left call)) f.is on_upto in
      let on_pass : AreInTurn (last_of (left call) f.waiting) (f.pass ∷ f.between) = behind_front f.waiting (f.pass ∷ f.between) (left call) on_all in
      let at_pass : Stands f.pass.before = subst Stands (sym on_pass.0) (stands_behind f.waiting (left call) begins (in_front f.waiting (f.pass ∷ f.between) (left call) on_all)) in
      let no_calls : NoneOf IsCall (f.pass ∷ f.between) = none_behind IsCall f.waiting (f.pass ∷ f.between) (subst (NoneOf IsCall) f.is calls) in
      let no_releases : NoneWrote release_line (f.pass ∷ f.between) = none_behind (λ step. wrote step ≡ release_line) f.waiting (f.pass ∷ f.between) (subst (NoneWrote release_line) f.is releases) in
      let there : last_of (left f.pass) f.between ≡ release.before = sym (on_release.0 ∙ ap (last_of (left call)) f.is ∙ last_join f.waiting (f.pass ∷ f.between) (left call)) in
      let first : IsFirstRelease f.pass.before.machine (next release.before.machine (Steps does.0 Release)) _ =
      is_first goal era f.pass f.between at_pass on_pass.1 on_pass.2 no_calls.1 no_releases.1 f.waits (writes_pass f.pass.before f.pass.command f.passes)
      release.before.machine (ap (λ (x : ReplayState). x.machine) there) does.0 (answered_due release.before.machine does.0 Release does.2) in
      let l = path release since stands on_release.1 on_release.2 quiet_since does in
      let due = answered_due release.before.machine does.0 Release does.2 in
      let value : ℕ → ℕ = now f.pass.before.machine.system in
      let end = (last_of (left release) since).machine in (
        f.waiting,
        f.pass,
        f.between,
        f.is,
        f.none,
        f.passes,
        no_buffers_where_one_passes f.pass.before.machine (writes_pass f.pass.before f.pass.command f.passes).0 at_pass.is.arises
            (answered_due f.pass.before.machine (writes_pass f.pass.before f.pass.command f.passes).0 Pass (writes_pass f.pass.before f.pass.command f.passes).2),
        keeps goal (next_era call) (now f.pass.before.machine.system) (stored_in since) end
            (settled release since stands on_release.1 on_release.2 quiet_since does goal era of)
            (λ address some other.
            let whole = is_aligned end.system.memory address some in
            word_path address (value address) whole (by_event (Steps does.0 Release) stands.is.arises due)
            (word_after_release f.pass.before.machine (next release.before.machine (Steps does.0 Release)) _ at_pass.is.arises first address whole) other l),
      )

  released_is : Released call upto release since
  released_is = one (first_pass goal era upto (left call) begins on_upto calls waits)
    where
      one : FirstPass goal era upto ⊎ WaitsIn goal era (last_of (left call) upto) → Released call upto release since
      one (inl f) = kept f
      one (inr w) =
          absurd (none_releases goal era does.0 release.before.machine.system release.before.machine.order (subst (WaitsIn goal era) (sym on_release.0) w)
          (answered_due release.before.machine does.0 Release does.2))

shorter : (upto since rest : List ScriptStep) (release : ScriptStep) (s : ReplayState) → AreInTurn s (upto ++ release ∷ (since ++ rest)) → AreInTurn s (upto ++ release ∷ since)
shorter [] since rest release s on = (on.0, on.1, in_front since rest (left release) on.2)
shorter (step ∷ upto) since rest release s on = (on.0, on.1, shorter upto since rest release (left step) on.2)

released_in : (text : List ℕ) (front upto since rest : List ScriptStep) (call release : ScriptStep) → course text ≡ front ++ call ∷ (upto ++ release ∷ (since ++ rest))
    → IsCalled call → NoneOf IsCall upto → NoneWrote release_line upto → wrote release ≡ release_line → NoneOf IsCall since → Released call upto release since
released_in text front upto since rest call release same called calls releases released quiet =
    let there = stands_in front (upto ++ release ∷ (since ++ rest)) call (course_is text front (upto ++ release ∷ (since ++ rest)) call same) in
    released_is call release upto since there.is there.fits (shorter upto since rest release (left call) there.goes_on) called calls releases released quiet

-- ---- the first release

-- The first of these steps that releases.
record FirstRelease (steps : List ScriptStep) : Type 0 where
  upto : List ScriptStep
  first : ScriptStep
  again : List ScriptStep
  is : steps ≡ upto ++ first ∷ again
  none : NoneWrote release_line upto
  releases : wrote first ≡ release_line

first_release : (steps : List ScriptStep) → FirstRelease steps ⊎ NoneWrote release_line steps
first_release [] = inr tt
first_release (step ∷ steps) = one (first_release steps) (release_or_not step.before step.command)
  where
    one : FirstRelease steps ⊎ NoneWrote release_line steps → (wrote step ≡ release_line) ⊎ (wrote step ≡ release_line → ⊥) → FirstRelease (step ∷ steps) ⊎ NoneWrote release_line (step ∷ steps)
    one later (inl is) = inl (record { upto = []; first = step; again = steps; is = refl; none = tt; releases = is })
    one (inl f) (inr other) = inl (record { upto = step ∷ f.upto; first = f.first; again = f.again; is = ap (λ (rest : List ScriptStep). step ∷ rest) f.is; none = (other, f.none); releases = f.releases })
    one (inr none) (inr other) = inr (other, none)

none_joined : (P : ScriptStep → Type 0) (front rest : List ScriptStep) → NoneOf P front → NoneOf P rest → NoneOf P (front ++ rest)
none_joined P [] rest f r = r
none_joined P (step ∷ front) rest f r = (f.0, none_joined P front rest f.1 r)

none_before : (P : ScriptStep → Type 0) (front rest : List ScriptStep) → NoneOf P (front ++ rest) → NoneOf P front
none_before P [] rest h = tt
none_before P (step ∷ front) rest h = (h.0, none_before P front rest h.1)

-- no newcomer's line is one of a release
newcomer_is_no_release : (step : ScriptStep) → IsNewcomer step → wrote step ≡ release_line → ⊥
newcomer_is_no_release step (k, inl up) is = let e : false ≡ true = ap (has_third 108) (sym up.1 ∙ is) in cc e
newcomer_is_no_release step (k, inr joins) is = let e : false ≡ true = ap (has_third 108) (sym joins.1 ∙ is) in cc e

-- this release stands behind these steps, or is the first
no_call_of : (step : ScriptStep) (text : List ℕ) → wrote step ≡ release_line → IsCall step → ⊥
no_call_of step text is (inr newcomer) = absurd (newcomer_is_no_release step newcomer is)
no_call_of step text is (inl (inl called)) = let same : called_line ≡ release_line = sym called ∙ is in call_is_no_release same
no_call_of step text is (inl (inr complete)) = let same : complete_line complete.0 ≡ release_line = sym complete.1 ∙ is in complete_is_no_release complete.0 same

abbrev Told : List ScriptStep → ScriptStep → List ScriptStep → Type 0
Told front release since =
    (u : UpdateOf front release)
    × KeepsUpdate (called_goal u.call) (next_era u.call) (now u.pass.before.machine.system) (stored_in (u.again ++ since)) (last_of (left release) since).machine

module _ (text : List ℕ) (front since rest : List ScriptStep) (release : ScriptStep) (same : course text ≡ front ++ release ∷ (since ++ rest)) (released : wrote release ≡ release_line) (quiet : NoneOf IsCall since)
    (before : List ScriptStep) (call : ScriptStep) (behind : List ScriptStep) (split : front ≡ before ++ call ∷ behind) (called : IsCalled call) (none : NoneOf IsCall behind) where
  -- the steps from the call to this release, by its first release
  module _ (upto : List ScriptStep) (first : ScriptStep) (again : List ScriptStep) (is : behind ++ release ∷ [] ≡ upto ++ first ∷ again) (silent : NoneWrote release_line upto) (releases : wrote first ≡ release_line)
      (last : last_of (left first) again ≡ left release) where
    all : NoneOf IsCall (upto ++ first ∷ again)
    all = subst (NoneOf IsCall) is (none_joined IsCall behind (release ∷ []) none (no_call_of release text released, tt))

    course_so : course text ≡ before ++ call ∷ (upto ++ first ∷ ((again ++ since) ++ rest))
    course_so =
        same ∙ ap (λ (xs : List ScriptStep). xs ++ release ∷ (since ++ rest)) split
        ∙ append_assoc before (call ∷ behind) (release ∷ (since ++ rest))
        ∙ ap (λ (xs : List ScriptStep). before ++ call ∷ xs)
        (sym (append_assoc behind (release ∷ []) (since ++ rest)) ∙ ap (λ (xs : List ScriptStep). xs ++ (since ++ rest)) is ∙ append_assoc upto (first ∷ again) (since ++ rest)
        ∙ ap (λ (xs : List ScriptStep). upto ++ first ∷ xs) (sym (append_assoc again since rest)))

    end : last_of (left first) (again ++ since) ≡ last_of (left release) since
    end = last_join again since (left first) ∙ ap (λ (x : ReplayState). last_of x since) last

    tell : Released call upto first (again ++ since) → Told front release since
    tell r =
        let inside : upto ++ first ∷ again ≡ r.0 ++ r.1 ∷ (r.2 ++ first ∷ again) = ap (λ (xs : List ScriptStep). xs ++ first ∷ again) r.3 ∙ append_assoc r.0 (r.1 ∷ r.2) (first ∷ again) in (
          record {
            before = before;
            call = call;
            waiting = r.0;
            pass = r.1;
            between = r.2;
            first = first;
            again = again;
            stand = ap (λ (xs : List ScriptStep). xs ++ release ∷ []) split ∙ append_assoc before (call ∷ behind) (release ∷ []) ∙ ap (λ (xs : List ScriptStep). before ++ call ∷ xs) (is ∙ inside);
            calls = called;
            passes = r.5;
            releases = releases;
            no_other_call = subst (NoneOf IsCall) inside all;
            first_pass = r.4;
            first_release = subst (NoneWrote release_line) r.3 silent;
            no_store_waits = r.6;
          },
          subst (λ (x : ReplayState). KeepsUpdate (called_goal call) (next_era call) (now r.1.before.machine.system) (stored_in (again ++ since)) x.machine) end r.7,
        )

    told : Told front release since
    told =
        let later : NoneOf IsCall (first ∷ again) = none_behind IsCall upto (first ∷ again) all in
        tell (released_in text before upto (again ++ since) rest call first course_so called (none_before IsCall upto (first ∷ again) all) silent releases (none_joined IsCall again since later.1 quiet))

  told_of : FirstRelease behind ⊎ NoneWrote release_line behind → Told front release since
  told_of (inl f) =
      told f.upto f.first (f.again ++ release ∷ []) (ap (λ (xs : List ScriptStep). xs ++ release ∷ []) f.is ∙ append_assoc f.upto (f.first ∷ f.again) (release ∷ [])) f.none f.releases
      (last_join f.again (release ∷ []) (left f.first))
  told_of (inr silent) = told behind release [] refl silent released refl

pub released_updates_are_kept : ReleasedUpdatesAreKept
released_updates_are_kept text front since rest release same released quiet =
    let c = releases_follow_calls text front (since ++ rest) release same released in
    told_of text front since rest release same released quiet c.0 c.1 c.2 c.3 c.4 c.5 (first_release c.2)
