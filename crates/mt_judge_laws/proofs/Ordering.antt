-- Each orderly step keeps what a right start has.
use Rattle.std.proofs.Common.{◌≡◌, ◌∙◌, ap, refl, sym, subst, ℕ, Bool, true, false, List, [], ◌∷◌, Option, None, Some}
use Rattle.std.specs.Prelude.{◌&&◌, if◌then◌else◌, slice_get, IsSomeAnd, MatchOption}
use Rattle.std.specs.Option.{option_map, option_map_or}
use Rattle.mt_machine.specs.declared.event.Event.{Event}
use Rattle.mt_machine.specs.declared.phase.Phase.TheVariants.{Running}
use Rattle.mt_machine.specs.Access.{is_running}
use Rattle.mt_machine.specs.Machine.{due}
use Rattle.mt_machine.specs.Start.{IsStart}
use Rattle.mt_machine.specs.System.{Processor, System}
use Rattle.mt_procedure.specs.declared.moves.Move.{Move}
use Rattle.mt_procedure.specs.declared.step.ProcedureStep.{ProcedureStep}
use Rattle.mt_procedure.specs.declared.step.ProcedureStep.TheVariants as list
use Rattle.mt_list_machine.specs.Calls.{is_fit}
use Rattle.mt_procedure.specs.Runs.{Case, State, after, due_in, due_of, event_in, is_open, move_of, moved, next_move, next_step, place_of, run, step_at, system_of, taken}
use Rattle.mt_procedure.specs.declared.turn.Turn.{Turn}
use Rattle.mt_procedure.specs.declared.turn.Turn.TheVariants.{Fetch, Step, Translate}
use Rattle.mt_procedure.specs.Steps.{after_step, answer_aside, answer_of_step, aside, event_of}
use Rattle.mt_search.specs.Wrongs.{fault_of, fault_with}
use Rattle.mt_judge_laws.specs.Manual.{FillsNothing, IsInstruction, IsMachines, IsRightStart, MayCall, at_rest}
use Rattle.mt_judge_laws.specs.Orderly.{AreOrderly, IsBeside, IsOrderly, IsOrderlyTurn, OrderlyRunsAreRight, OrderlyRunsAreTheMachines, OrderlyStepsHaveNoFault}
use Rattle.mt_judge_laws.proofs.Beginning.{holds_first, reaches, right_in, start_is}
use Rattle.mt_judge_laws.proofs.Holding.{Holds, Leads, due_alike, event_leads, event_right, holds_event, instructs, order_of, quiet_holds}
use Rattle.mt_judge_laws.proofs.Right.{Senses, running_is}
use Rattle.mt_judge_laws.proofs.Speculating.{alone, alone_twice, fetches, translates}

module _ (c : Case) (first s : State) (h : Holds c first s.processors) (k : ℕ) where
  -- what a step keeps, and that it has no fault
  pub record Keeps (m : Move) : Type 0 where
    pub holds : Holds c first (moved c s k).processors
    pub leads : IsStart (at_rest c first) → IsMachines c first s → IsMachines c first (moved c s k)
    pub right : fault_of s.processors m ≡ None

  -- what holds in the system after a step, which is the machine's
  abbrev HoldsIn : System → Type 0
  HoldsIn t = Holds c first t.processors × (IsStart (at_rest c first) → Leads c first (system_of c s) t)

  module _ (p : Processor) (at : slice_get s.processors k ≡ Some p) (todo : ProcedureStep) where
    abbrev part : ℕ
    part = (place_of s k).part

    -- the system behind a step that is this event or none, and its outcome's fault
    abbrev IsKept : Option Event → Type 0
    IsKept e = HoldsIn (after_step c.goal e todo k (system_of c s)) × (fault_with k todo (answer_of_step e todo k (system_of c s)) p ≡ None)

    abbrev IsAllowed : Option Event → Type 0
    IsAllowed e = MatchOption e (IsBeside p.phase todo) (λ x. due (order_of c) s.processors p p.phase ≡ Some x)

    by_instruction : (t : ProcedureStep) → is_running p.phase ≡ true → IsInstruction t → HoldsIn (aside t k (system_of c s)) × (fault_with k t (answer_aside t k (system_of c s)) p ≡ None)
    by_instruction t runs fits =
        let i = instructs c first s h k p at (running_is p.phase runs) t fits in
        (subst HoldsIn (sym i.is) (i.holds, i.leads), i.right)

    beside : (t : ProcedureStep) → IsBeside p.phase t → HoldsIn (aside t k (system_of c s)) × (fault_with k t (answer_aside t k (system_of c s)) p ≡ None)
    beside (list.Arrive barrier) allowed = ((h, λ start r. r), refl)
    beside (list.Wait barrier count) allowed = ((h, λ start r. r), refl)
    beside other allowed = by_instruction other allowed.0 allowed.1

    kept : (e : Option Event) → event_of todo part p ≡ e → IsAllowed e → IsKept e
    kept None is allowed = beside todo allowed
    kept (Some e) is now_due = ((holds_event c first s h k p at e now_due, event_leads c first s h k p at e now_due), event_right c.goal s.processors p k part todo e _ is now_due)

    event_is : event_in s.processors k todo part ≡ event_of todo part p
    event_is = ap (λ (x : Option Processor). option_map_or (event_of todo part) x None) at

    due_is : due_in s.processors k ≡ due (order_of c) s.processors p p.phase
    due_is =
        ap (λ (x : Option Processor). option_map_or (due_of s.processors) x None) at
        ∙ due_alike p.file c.goal s.processors p p.phase

    allowed_is : IsOrderly (move_of c s k todo) → IsAllowed (event_of todo part p)
    allowed_is orderly =
        subst (λ (x : Option Event). MatchOption (event_of todo part p) (IsBeside p.phase todo) (λ e. x ≡ Some e)) due_is
        (subst (λ (x : Option Event). MatchOption x (IsBeside p.phase todo) (λ e. due_in s.processors k ≡ Some e)) event_is
        (subst (λ (x : Option Processor). MatchOption (event_in s.processors k todo part) (IsBeside (option_map_or (λ q. q.phase) x Running) todo) (λ e. due_in s.processors k ≡ Some e)) at orderly))

    at_known : next_step c s k ≡ Some todo → IsOrderly (move_of c s k todo) → Keeps (move_of c s k todo)
    at_known next orderly =
        let made = kept (event_of todo part p) refl (allowed_is orderly) in
        let moved_is : moved c s k ≡ after c s k todo = ap (λ (x : Option ProcedureStep). option_map_or (after c s k) x s) next in
        let stepped : HoldsIn (after_step c.goal (event_in s.processors k todo part) todo k (system_of c s)) =
        subst (λ (x : Option Event). HoldsIn (after_step c.goal x todo k (system_of c s))) (sym event_is) made.0 in
        record {
          holds = subst (λ (t : State). Holds c first t.processors) (sym moved_is) stepped.0;
          leads = λ start r. subst (IsMachines c first) (sym moved_is) (stepped.1 start r);
          right = ap (λ (x : Option Processor). option_map_or (fault_with k todo (move_of c s k todo).outcome) x None) at
              ∙ ap (λ (x : Option Event). fault_with k todo (answer_of_step x todo k (system_of c s)) p) event_is
              ∙ made.1;
        }

  -- only a processor that is there may go
  not_there : slice_get s.processors k ≡ None → option_map_or (is_fit c.goal) (slice_get s.processors k) false ≡ false
  not_there none = ap (λ (x : Option Processor). option_map_or (is_fit c.goal) x false) none

  pub keeps : (m : Move) → next_move c s k ≡ Some m → IsOrderly m → Keeps m
  keeps m is orderly = at_step (next_step c s k) refl is
    where
      at_processor : (todo : ProcedureStep) → next_step c s k ≡ Some todo → IsOrderly (move_of c s k todo) → (x : Option Processor) → slice_get s.processors k ≡ x → Keeps (move_of c s k todo)
      at_processor todo next fine None none =
          absurd (let stays : next_step c s k ≡ None = ap (λ (b : Bool). if b && option_map_or (is_open s.arrived) (step_at c s k) false then step_at c s k else None) (not_there none) in cc)
      at_processor todo next fine (Some p) at = at_known p at todo next fine

      at_step : (x : Option ProcedureStep) → next_step c s k ≡ x → option_map (move_of c s k) x ≡ Some m → Keeps m
      at_step None next g = absurd (cc)
      at_step (Some todo) next g =
          let same : move_of c s k todo ≡ m = cc in
          subst Keeps same (at_processor todo next (subst IsOrderly (sym same) orderly) (slice_get s.processors k) refl)

-- ---- runs

module _ (senses : Senses) (c : Case) (s : State) (right : IsRightStart c s) (goal : MayCall c s) where
  starts : IsStart (at_rest c s)
  starts = start_is senses c s right goal

  -- the machine's, if no processor does anything by itself
  abbrev HoldsAt : State → Type 0
  HoldsAt t = Holds c s t.processors × (c.mode.speculates ≡ false → IsMachines c s t)

  module _ (fills : FillsNothing c) where
    holds_after : (u : Turn) (t : State) → HoldsAt t → IsOrderlyTurn c t u → HoldsAt (taken c t u)
    holds_after (Step k) t h orderly = one (next_move c t k) refl orderly
      where
        one : (x : Option Move) → next_move c t k ≡ x → IsSomeAnd x IsOrderly → HoldsAt (moved c t k)
        one None is fine = absurd fine
        one (Some m) is fine = let g = keeps c s t h.0 k m is fine in (g.holds, λ off. g.leads starts (h.1 off))
    holds_after (Translate k page) t h may =
        (quiet_holds c s t.processors _ (translates c fills s t h.0 k page may) h.0, λ off. absurd (alone c _ off may))
    holds_after (Fetch k line) t h may =
        (quiet_holds c s t.processors _ (fetches c fills s t h.0 k line may) h.0, λ off. absurd (alone_twice c _ _ off may))

    holds_on : (ts : List Turn) (t : State) → HoldsAt t → AreOrderly c t ts → HoldsAt (run c t ts)
    holds_on [] t h orderly = h
    holds_on (u ∷ ts) t h orderly = holds_on ts (taken c t u) (holds_after u t h orderly.0) orderly.1

    pub holds_at : (ts : List Turn) → AreOrderly c s ts → HoldsAt (run c s ts)
    holds_at ts orderly = holds_on ts s (holds_first senses c s right goal, λ off. reaches senses c s right goal) orderly

pub orderly_are_machines : Senses → OrderlyRunsAreTheMachines
orderly_are_machines senses c s ts right goal off orderly = (holds_at senses c s right goal (ap (λ b. b && c.mode.leaks) off) ts orderly).1 off

pub orderly_are_right : Senses → OrderlyRunsAreRight
orderly_are_right senses c s ts right goal fills orderly = right_in senses c s right goal (run c s ts) (holds_at senses c s right goal fills ts orderly).0

pub orderly_have_no_fault : Senses → OrderlyStepsHaveNoFault
orderly_have_no_fault senses c s ts k m right goal fills orderly is fine =
    (keeps c s (run c s ts) (holds_at senses c s right goal fills ts orderly).0 k m is fine).right
