-- What is kept while the steps are due: the barriers, and what each processor holds; and that each is a step of the machine.
use Rattle.std.proofs.Common.{◌≡◌, ◌∙◌, ap, refl, sym, subst, arith, ℕ, zero, suc, Bool, true, false, List, [], ◌∷◌, length, set, Option, None, Some}
use Rattle.std.specs.Prelude.{◌||◌, if◌then◌else◌, slice_get, ◌==◌, ◌&&◌, not, slice_index}
use Rattle.std.specs.List.{list_all}
use Rattle.std.specs.Option.{option_map_or, option_map}
use Rattle.std.proofs.lemmas.Bool.{eqb-true, le-ltb}
use Rattle.mt_regs.specs.RegisterFile.{RegisterFile}
use Rattle.mt_regs.specs.Registers.{writable}
use Rattle.mt_cache.specs.Lines.{first_dirty_line, first_dirty_word}
use Rattle.mt_cache.specs.declared.line.CacheLine.{CacheLine}
use Rattle.mt_machine.specs.declared.ruled.Ruled.TheVariants.{Busy as RuledBusy}
use Rattle.mt_machine.specs.declared.control.Control.TheVariants.{Cd, Invlpg, Pge, Cr3}
use Rattle.mt_machine.specs.declared.control.Control.{Control}
use Rattle.mt_machine.specs.declared.event.Event.{Event}
use Rattle.mt_machine.specs.declared.event.Event.TheVariants.{FlushTlb, Take, DropLines, WriteBack}
use Rattle.mt_machine.specs.declared.phase.Phase.{Phase}
use Rattle.mt_machine.specs.declared.phase.Phase.TheVariants.{Running, NoFill, Enabled}
use Rattle.mt_machine.specs.declared.op.Op.{Op}
use Rattle.mt_machine.specs.declared.done.Done.TheVariants.{Busy}
use Rattle.mt_machine.specs.Memory.{word_address}
use Rattle.mt_machine.specs.Control.{RuledAfter, control, control_at}
use Rattle.mt_machine.specs.Access.{is_running, Answered, access, access_at}
use Rattle.mt_machine.specs.Machine.{IsEnabled, Order, Reached, Steps, after, after_flush, due, has_released, is_over, own_step, remaining_order, step, Accesses, FitsOp, is_cancelled, Controls, FitsControl, MachineEvent, next, write_back_event, write_back_or_drop, Machine}
use Rattle.mt_machine.specs.Start.{IsStart}
use Rattle.mt_machine.specs.System.{Processor, System, change}
use Rattle.mt_machine.proofs.Rows.{due_row, first_flush_case, is_row}
use Rattle.mt_laws.proofs.Barrier.Barriers.{flush_era, step_guarded, step_stages}
use Rattle.mt_laws.proofs.Barrier.Ranks.{At, Guarded, all_at, stage_at, is_ahead}
use Rattle.mt_laws.proofs.Barrier.Stages.{Stage, stage_of, stages_of, stages, control_stages}
use Rattle.mt_laws.proofs.Invariant.Kept.{start_aligned}
use Rattle.mt_laws.proofs.Invariant.Standing.{reached_standing, start_standing}
use Rattle.mt_laws.proofs.Registers.Filed.{AllFiled, Filed, filed_next, filed_steps}
use Rattle.mt_laws.specs.Parts.{answered}
use Rattle.mt_procedure.specs.declared.moves.Outcome.{Outcome}
use Rattle.mt_search.specs.declared.wrong.Fault.TheVariants.{LostWord}
use Rattle.mt_procedure.specs.declared.step.ProcedureStep.{ProcedureStep}
use Rattle.mt_procedure.specs.declared.step.ProcedureStep.TheVariants as list
use Rattle.mt_procedure.specs.declared.moves.Outcome.TheVariants.{Accessed}
use Rattle.mt_list_machine.specs.Parts.{bus}
use Rattle.mt_procedure.specs.Runs.{Case, State, procedure_order, system_of}
use Rattle.mt_procedure.specs.Steps.{event_of, accessed, answer_aside, aside, controlled, after_reload, reload_aside}
use Rattle.mt_search.specs.Wrongs.{fault_with}
use Rattle.mt_judge_laws.specs.Manual.{at_rest, IsInstruction}
use Rattle.mt_judge_laws.proofs.Counting.{all_staged, stage_after}
use Rattle.mt_judge_laws.proofs.Since.{AllMakeKnown, AllSince, IsPlain, all_make_known, all_right, all_since, control_since, steps_since}
use Rattle.mt_judge_laws.proofs.Accessing.{AllKeep, access_keeps, access_right, kept_at, kept_stages}

-- ---- lists

set_kept : {X : Type 0} → (xs : List X) (k : ℕ) (x : X) → slice_get xs k ≡ Some x → set xs k x ≡ xs
set_kept [] k x at = absurd (cc)
set_kept (z ∷ xs) zero x at = let same : z ≡ x = cc in ap (λ v. v ∷ xs) (sym same)
set_kept (z ∷ xs) (suc k) x at = ap (λ vs. z ∷ vs) (set_kept xs k x at)

-- a change that leaves the processor as it is
unchanged : (f : Processor → Processor) (k : ℕ) (s : System) → ((x : Processor) → slice_get s.processors k ≡ Some x → f x ≡ x) → change f k s ≡ s
unchanged f k s same = one (slice_get s.processors k) refl
  where
    one : (o : Option Processor) → slice_get s.processors k ≡ o → option_map_or (λ p. record s { processors = set s.processors k (f p) }) o s ≡ s
    one None at = refl
    one (Some x) at = λ i. record s { processors = (ap (set s.processors k) (same x at) ∙ set_kept s.processors k x at) i }

abbrev pick_answer : Bool → Answered → Answered → Answered
pick_answer b x y = if b then x else y

abbrev pick_ruled : Bool → RuledAfter → RuledAfter → RuledAfter
pick_ruled b x y = if b then x else y

-- ---- the stage after an event

pub own_stage : (goal : RegisterFile) (e : Event) (p : Processor) → stage_of (own_step goal e p) ≡ stage_after e (stage_of p)
own_stage goal FlushTlb p = λ i. (after_flush p.phase, flush_era p.phase p i)
own_stage goal other p = refl

-- what is due goes by no goal
pub due_alike : (f g : RegisterFile) (ps : List Processor) (p : Processor) (ph : Phase) → due (procedure_order f) ps p ph ≡ due (procedure_order g) ps p ph
due_alike f g ps p Running = refl
due_alike f g ps p other = refl

-- ---- what holds

abbrev pub order_of : Case → Order
order_of c = procedure_order c.goal

abbrev pub machine_with : Case → System → Machine
machine_with c s = record { system = s; order = remaining_order (order_of c) s.processors }

pub record Holds (c : Case) (first : State) (ps : List Processor) : Type 0 where
  pub guarded : Guarded (order_of c) (stages_of ps)
  pub filed : AllFiled (Some (order_of c)) ps
  pub since : AllSince (order_of c) first.processors ps

-- the machine reaches the second system if it reaches the first one
abbrev pub Leads : Case → State → System → System → Type 0
Leads c first s t = Reached (at_rest c first) (machine_with c s) → Reached (at_rest c first) (machine_with c (bus c.layout t.processors t.memory.words))

-- what changes nothing of a processor but what it holds, and leaves that right, keeps what holds
pub quiet_holds : (c : Case) (first : State) (ps qs : List Processor) → AllKeep ps qs → Holds c first ps → Holds c first qs
quiet_holds c first ps qs kept h = record {
  guarded = subst (Guarded (order_of c)) (sym (kept_stages ps qs kept)) h.guarded;
  filed = (
    h.filed.0,
    λ i x at.
        let from = kept_at ps qs i x kept at in
        subst (λ (y : Processor). Filed (order_of c) y.file (stage_of y)) (sym from.2.same) (h.filed.1 i from.0 from.1),
  );
  since = all_since (order_of c) first.processors ps qs kept (all_make_known (order_of c) first.processors ps h.guarded h.filed h.since) h.since;
}

-- a processor with an event that is due hasn't released
pub due_behind : (o : Order) (ps : List Processor) (p : Processor) (e : Event) → (is_running p.phase ≡ false → has_released o p ≡ false) → due o ps p p.phase ≡ Some e → has_released o p ≡ false
due_behind o ps p e in_step h = by_phase p.phase in_step h
  where
    takes : (a b : Bool) → (p.era == o.from_era) ≡ a → (if a && not b then Some Take else None) ≡ Some e → has_released o p ≡ false
    takes false b is g = absurd (cc)
    takes true true is g = absurd (cc)
    takes true false is g = let same = eqb-true p.era o.from_era is in le-ltb o.from_era p.era (omega (arith, same))

    by_phase : (ph : Phase) → (is_running ph ≡ false → has_released o p ≡ false) → due o ps p ph ≡ Some e → has_released o p ≡ false
    by_phase Running still g = takes (p.era == o.from_era) (is_cancelled o.go) refl g
    by_phase other still g = still refl

-- an update isn't over where a processor hasn't released
not_over : (c : Case) (ps : List Processor) (k : ℕ) (p : Processor) → slice_get ps k ≡ Some p → has_released (order_of c) p ≡ false → is_over (order_of c) ps ≡ false
not_over c ps k p at behind = one (list_all (has_released (order_of c)) ps) refl
  where
    one : (b : Bool) → list_all (has_released (order_of c)) ps ≡ b → (b || false) ≡ false
    one true all = absurd (let ahead = all_at (has_released (order_of c)) ps k p all at in cc)
    one false all = refl

-- the event of a step that is due isn't an access, and no INVD that is due drops a dirty word
pub event_right : (goal : RegisterFile) (ps : List Processor) (p : Processor) (k part : ℕ) (todo : ProcedureStep) (e : Event) (outcome : Outcome) → event_of todo part p ≡ Some e → due (procedure_order goal) ps p p.phase ≡ Some e
    → fault_with k todo outcome p ≡ None
event_right goal ps p k part (list.Access op) e outcome is now_due = absurd (cc)
event_right goal ps p k part list.Invd e outcome is now_due = dropped (first_dirty_line p.lines) (flushes p.phase (now_due ∙ sym is))
  where
    flushes : (ph : Phase) → due (procedure_order goal) ps p ph ≡ Some DropLines → write_back_or_drop p ≡ DropLines
    flushes ph h = rows ph (due_row (procedure_order goal) ps p ph DropLines h) h
      where
        rows : (ph : Phase) → is_row DropLines ph ≡ true → due (procedure_order goal) ps p ph ≡ Some DropLines → write_back_or_drop p ≡ DropLines
        rows NoFill row g = first_flush_case p DropLines g (λ on f. absurd (cc)) (λ off f. cc)
        rows Enabled row g = cc
        rows other row g = absurd (cc)

    dropped : (x : Option CacheLine) → option_map_or write_back_event x DropLines ≡ DropLines → option_map_or (λ l. option_map (LostWord k l.number) (first_dirty_word l)) x None ≡ None
    dropped None g = refl
    dropped (Some l) g = one (first_dirty_word l) g
      where
        one : (w : Option ℕ) → option_map_or (λ word. WriteBack (word_address l.number word) (slice_index l.words word)) w DropLines ≡ DropLines → option_map (LostWord k l.number) w ≡ None
        one None f = refl
        one (Some word) f = absurd (cc)
event_right goal ps p k part other e outcome is now_due = refl

-- ---- a step

module _ (c : Case) (first s : State) (h : Holds c first s.processors) (k : ℕ) (p : Processor) (at : slice_get s.processors k ≡ Some p) where
  here_stage : At (stages_of s.processors) k (stage_of p)
  here_stage = stage_at s.processors k p at

  abbrev before : System
  before = system_of c s

  makes : AllMakeKnown (order_of c) first.processors s.processors
  makes = all_make_known (order_of c) first.processors s.processors h.guarded h.filed h.since

  registers : length (writable p.file) ≡ length (writable c.goal)
  registers = ap (λ (cap : ℕ). length (writable (record c.goal { capabilities = cap }))) (h.filed.1 k p at).alike.capabilities

  -- the system that a machine's run leads to is a state's
  settled : IsStart (at_rest c first) → (to : System) → Reached (at_rest c first) (machine_with c to) → Reached (at_rest c first) (machine_with c (bus c.layout to.processors to.memory.words))
  settled start to reaches =
      let windows : to.memory.windows ≡ c.layout.windows = (reached_standing c.layout.windows (start_aligned (at_rest c first) start) reaches (start_standing (at_rest c first) start)).agrees.stands.memory.windows in
      let same : to ≡ bus c.layout to.processors to.memory.words = λ i. record { processors = to.processors; memory = record { windows = windows i; words = to.memory.words } } in
      subst (λ (t : System). Reached (at_rest c first) (machine_with c t)) same reaches

  -- ---- an event

  module _ (e : Event) (now_due : due (order_of c) s.processors p p.phase ≡ Some e) where
    abbrev to : System
    to = step c.goal e k before

    pub stages_are : stages_of to.processors ≡ set (stages_of s.processors) k (stage_after e (stage_of p))
    stages_are = step_stages c.goal e k before p at ∙ ap (set (stages_of s.processors) k) (own_stage c.goal e p)

    pub event_leads : IsStart (at_rest c first) → Leads c first before to
    event_leads start reached =
        let behind = due_behind (order_of c) s.processors p e (h.guarded.in_step k (stage_of p) here_stage) now_due in
        let lasts : remaining_order (order_of c) s.processors ≡ Some (order_of c) =
        ap (λ (b : Bool). if b then None else Some (order_of c)) (not_over c s.processors k p at behind) in
        let under_way : Reached (at_rest c first) (record { system = before; order = Some (order_of c) }) =
        subst (λ (o : Option Order). Reached (at_rest c first) (record { system = before; order = o })) lasts reached in
        let enabled : IsEnabled (record { system = before; order = Some (order_of c) }) (Steps k e) =
        ap (λ (x : Option Processor). option_map_or (λ q. due (order_of c) s.processors q q.phase) x None) at ∙ now_due in
        settled start to (after (Steps k e) under_way enabled)

    pub holds_event : Holds c first to.processors
    holds_event = record {
      guarded = step_guarded (order_of c) e k before p at now_due h.guarded;
      filed = filed_steps (order_of c) e k before p at now_due h.guarded h.filed;
      since = steps_since (order_of c) first.processors k before p at h.since makes e now_due h.guarded registers;
    }

  -- ---- an instruction of a processor that runs

  pub record Instructed (todo : ProcedureStep) : Type 0 where
    pub to : System
    pub is : aside todo k before ≡ to
    pub same_stages : stages_of to.processors ≡ stages_of s.processors
    pub holds : Holds c first to.processors
    pub leads : IsStart (at_rest c first) → Leads c first before to
    pub right : fault_with k todo (answer_aside todo k before) p ≡ None

  module _ (runs : p.phase ≡ Running) where
    running : is_running p.phase ≡ true
    running = ap is_running runs

    runs_at : option_map_or (λ (q : Processor). is_running q.phase) (slice_get s.processors k) false ≡ true
    runs_at = ap (λ (x : Option Processor). option_map_or (λ q. is_running q.phase) x false) at ∙ running

    -- an event of the machine that leaves the stages
    still_leads : (to : System) (e : MachineEvent) → IsEnabled (machine_with c before) e → next (machine_with c before) e ≡ record (machine_with c before) { system = to } → stages_of to.processors ≡ stages_of s.processors
        → IsStart (at_rest c first) → Leads c first before to
    still_leads to e enabled next_to same_stages start reached =
        let all_same : list_all (has_released (order_of c)) s.processors ≡ list_all (has_released (order_of c)) to.processors =
        all_staged (is_ahead (order_of c)) s.processors ∙ ap (list_all (is_ahead (order_of c))) (sym same_stages) ∙ sym (all_staged (is_ahead (order_of c)) to.processors) in
        let same_order : remaining_order (order_of c) s.processors ≡ remaining_order (order_of c) to.processors = ap (λ (b : Bool). if b || false then None else Some (order_of c)) all_same in
        settled start to
        (subst (λ (o : Option Order). Reached (at_rest c first) (record { system = to; order = o })) same_order
        (subst (Reached (at_rest c first)) next_to (after e reached enabled)))

    accesses : (op : Op) → FitsOp op → Instructed (list.Access op)
    accesses op fits =
        let done : Answered = access_at before k p op in
        let access_is : (access before k op).after ≡ done.after =
        ap (λ (x : Option Processor). (option_map_or (λ q. if is_running q.phase then access_at before k q op else record { answer = Busy; after = before }) x (record { answer = Busy; after = before })).after) at
        ∙ ap (λ (b : Bool). (pick_answer b done (record { answer = Busy; after = before })).after) running in
        let accessed_is : accessed op k before ≡ done = ap (λ (x : Option Processor). option_map_or (λ q. access_at before k q op) x (answered Busy before)) at in
        let kept : AllKeep s.processors done.after.processors = access_keeps before k p at (all_right (order_of c) first.processors s.processors h.since) running op in
        let same_stages : stages_of done.after.processors ≡ stages_of s.processors = kept_stages s.processors done.after.processors kept in
        record {
          to = done.after;
          is = ap (λ (x : Answered). x.after) accessed_is;
          same_stages = same_stages;
          holds = quiet_holds c first s.processors done.after.processors kept h;
          leads = still_leads done.after (Accesses k op) (runs_at, fits) (ap (λ (t : System). record (machine_with c before) { system = t }) access_is) same_stages;
          right = ap (λ (x : Answered). fault_with k (list.Access op) (Accessed x.answer) p) accessed_is ∙ access_right k k p (h.since k p at).2.right running before op;
        }

    control_is : (ctl : Control) → (control before k ctl).after ≡ (control_at before k p ctl).after
    control_is ctl =
        ap (λ (x : Option Processor). (option_map_or (λ q. if is_running q.phase then control_at before k q ctl else record { answer = RuledBusy; after = before }) x (record { answer = RuledBusy; after = before })).after) at
        ∙ ap (λ (b : Bool). (pick_ruled b (control_at before k p ctl) (record { answer = RuledBusy; after = before })).after) running

    control_stages_at : (ctl : Control) → stages_of (control_at before k p ctl).after.processors ≡ stages_of s.processors
    control_stages_at ctl = ap stages (sym (control_is ctl)) ∙ control_stages before k ctl

    controlled_is : (ctl : Control) → controlled ctl k before ≡ (control_at before k p ctl).after
    controlled_is ctl = ap (λ (x : Option Processor). option_map_or (λ q. (control_at before k q ctl).after) x before) at

    controls : (todo : ProcedureStep) (ctl : Control) → IsPlain ctl → ((q : Processor) → FitsControl q ctl) → aside todo k before ≡ (control_at before k p ctl).after → fault_with k todo (answer_aside todo k before) p ≡ None → Instructed todo
    controls todo ctl plain fits is right =
        let is_done : (control before k ctl).after ≡ (control_at before k p ctl).after = control_is ctl in
        record {
          to = (control_at before k p ctl).after;
          is = is;
          same_stages = control_stages_at ctl;
          holds = record {
            guarded = subst (Guarded (order_of c)) (sym (control_stages_at ctl)) h.guarded;
            filed = subst (λ (t : System). AllFiled (Some (order_of c)) t.processors) is_done (filed_next (Controls k ctl) before (Some (order_of c)) (runs_at, λ q at_q. fits q) h.guarded h.filed);
            since = control_since (order_of c) first.processors k before p at h.since makes runs ctl plain;
          };
          leads = still_leads (control_at before k p ctl).after (Controls k ctl) (runs_at, λ q at_q. fits q) (ap (λ (t : System). record (machine_with c before) { system = t }) is_done) (control_stages_at ctl);
          right = right;
        }

    -- outside an update a reload of CR3 is the control instruction alone
    reloaded_is : aside list.ReloadCr3 k before ≡ (control_at before k p Cr3).after
    reloaded_is =
        ap (change reload_aside k) (controlled_is Cr3)
        ∙ unchanged reload_aside k (control_at before k p Cr3).after
        (λ x at_x.
        let there : At (stages_of s.processors) k (stage_of x) = subst (λ (vs : List Stage). At vs k (stage_of x)) (control_stages_at Cr3) (stage_at _ k x at_x) in
        let same : stage_of p ≡ stage_of x = let e : Some (stage_of p) ≡ Some (stage_of x) = sym here_stage ∙ there in cc in
        let x_runs : x.phase ≡ Running = ap (λ (y : Stage). y.0) (sym same) ∙ runs in
        λ i. record x { phase = (ap after_reload x_runs ∙ sym x_runs) i })

    pub instructs : (todo : ProcedureStep) → IsInstruction todo → Instructed todo
    instructs (list.Access op) fits = accesses op fits
    instructs list.ReloadCr3 fits = controls list.ReloadCr3 Cr3 tt (λ q. tt) reloaded_is refl
    instructs (list.Invlpg address) fits = controls (list.Invlpg address) (Invlpg address) tt (λ q. tt) (controlled_is (Invlpg address)) refl
    instructs (list.Pge on) fits = controls (list.Pge on) (Pge on) tt (λ q. tt) (controlled_is (Pge on)) refl
    instructs (list.Cd on) fits = controls (list.Cd on) (Cd on) tt (λ q. tt) (controlled_is (Cd on)) refl
    instructs other fits = absurd fits
