-- What holds in each state of the manual's lists, and that each step keeps it.
use Rattle.std.proofs.Common.{◌≡◌, ◌≢◌, ◌⊎◌, ◌∙◌, ap, refl, sym, subst, inl, inr, ⊎_elim, arith, ℕ, zero, suc, ◌+◌, ◌≤◌, Bool, true, false, List, [], ◌∷◌, drop, length, set, Option, None, Some}
use Rattle.std.specs.Prelude.{if◌then◌else◌, MatchOption, nat_lt, slice_get, slice_set, not}
use Rattle.std.specs.List.{count_by, list_all, All}
use Rattle.std.specs.Option.{option_map_or}
use Rattle.std.proofs.lemmas.Bool.{and_parts, lt-ltb}
use Rattle.std.proofs.lemmas.List.{length-set}
use Rattle.std.proofs.lemmas.Option.{get_or_from_slice_get}
use Rattle.mt_regs.specs.Registers.{writable}
use Rattle.mt_machine.specs.declared.event.Event.{Event}
use Rattle.mt_machine.specs.declared.event.Event.TheVariants.{Leave}
use Rattle.mt_machine.specs.declared.phase.Phase.{Phase}
use Rattle.mt_machine.specs.declared.phase.Phase.TheVariants.{Running, Arrived2}
use Rattle.mt_machine.specs.Access.{is_running}
use Rattle.mt_machine.specs.Machine.{Order, due, has_arrived, has_arrived_again, step}
use Rattle.mt_machine.specs.Start.{IsStart}
use Rattle.mt_machine.specs.System.{Processor, System}
use Rattle.mt_machine.proofs.Rows.{due_row}
use Rattle.mt_laws.proofs.Barrier.Ranks.{At, at_set, stage_at}
use Rattle.mt_laws.proofs.Barrier.Stages.{Stage, stage_of, stages_of}
use Rattle.mt_procedure.specs.declared.moves.Outcome.{Outcome}
use Rattle.mt_procedure.specs.declared.moves.Outcome.TheVariants.{Nothing}
use Rattle.mt_procedure.specs.declared.step.ListPlace.{ListPlace}
use Rattle.mt_procedure.specs.declared.step.ProcedureStep.{ProcedureStep}
use Rattle.mt_procedure.specs.declared.step.ProcedureStep.TheVariants as list
use Rattle.mt_search.specs.declared.wrong.Fault.TheVariants.{LostWord}
use Rattle.mt_search.specs.WorkedWrongs.{dirty_line, mapped, with_line}
use Rattle.mt_procedure.specs.Dues.{IsDue, is_astray, is_invd}
use Rattle.mt_list_machine.specs.Calls.{is_fit}
use Rattle.mt_procedure.specs.Runs.{Case, State, after as state_after, arrived_at, counted, due_in, due_of, event_in, is_open, list_of, may_go, move_of, moved, next_step, place_after, place_of, step_at, step_behind, system_of, phase_in}
use Rattle.mt_procedure.specs.Steps.{after_step, event_of, passage, answer_of_step, reloading}
use Rattle.mt_search.specs.Wrongs.{fault_of, fault_with}
use Rattle.mt_judge_laws.specs.Manual.{IsInstruction, IsMachines, at_rest}
use Rattle.mt_judge_laws.proofs.Holding.{Holds, due_alike, due_behind, event_leads, holds_event, instructs, order_of, stages_are}
use Rattle.mt_judge_laws.proofs.Counting.{Counts, again, all_pass, all_staged, arrived, counts, era_after, first_after, phase_after, second_after, stage_after}
use Rattle.mt_judge_laws.proofs.Placing.{IsPlace, Turn, Waits, place_up, turn, two_at_least, Instructs}

-- ---- lists

-- what stands in a list once an element is replaced
pub set_get : {X : Type 0} → (xs : List X) (k : ℕ) (x y : X) (j : ℕ) → slice_get xs k ≡ Some x → ((j ≡ k) × (slice_get (set xs k y) j ≡ Some y)) ⊎ ((j ≢ k) × (slice_get (set xs k y) j ≡ slice_get xs j))
set_get [] k x y j at = absurd (cc)
set_get (z ∷ xs) zero x y zero at = inl (refl, refl)
set_get (z ∷ xs) zero x y (suc j) at = inr ((λ e. absurd (cc)), refl)
set_get (z ∷ xs) (suc k) x y zero at = inr ((λ e. absurd (cc)), refl)
set_get (z ∷ xs) (suc k) x y (suc j) at =
    ⊎_elim
    (λ (h : (j ≡ k) × (slice_get (set xs k y) j ≡ Some y)). inl (ap suc h.0, h.1))
    (λ (h : (j ≢ k) × (slice_get (set xs k y) j ≡ slice_get xs j)). inr ((λ (e : suc j ≡ suc k). h.0 (omega (arith, e))), h.1))
    (set_get xs k x y j at)

pub set_same : {X : Type 0} → (xs : List X) (k : ℕ) (x y : X) → slice_get xs k ≡ Some x → slice_get (set xs k y) k ≡ Some y
set_same [] k x y at = absurd (cc)
set_same (z ∷ xs) zero x y at = refl
set_same (z ∷ xs) (suc k) x y at = set_same xs k x y at

-- ---- a step without a fault

-- a step that has no fault, whatever its processor holds, isn't INVD
not_invd : (t : ProcedureStep) → ((k : ℕ) (outcome : Outcome) (q : Processor) → fault_with k t outcome q ≡ None) → is_invd t ≡ false
not_invd list.Invd right = absurd (let lost : Some (LostWord 0 0x4000 0) ≡ None = right 0 Nothing (with_line dirty_line (mapped 0x806)) in cc)
not_invd other right = refl

-- ---- what holds

abbrev pub snoops_at : State → ℕ → Bool
snoops_at first k = option_map_or (λ p. p.self_snoop) (slice_get first.processors k) false

-- where a processor in this stage is in its list
pub record PlaceOf (c : Case) (first s : State) (k : ℕ) (x : Stage) : Type 0 where
  pub behind : List ProcedureStep
  pub fit : All IsInstruction behind
  pub place : ListPlace
  pub here : slice_get s.places k ≡ Some place
  pub is : IsPlace (length first.processors) (length (writable c.goal)) behind (snoops_at first k) (arrived_at s.arrived 1) x.0 (nat_lt 0 x.1) (drop place.step (list_of c k)) place.part

abbrev pub AllPlaced : Case → State → State → Type 0
AllPlaced c first s = (k : ℕ) (x : Stage) → At (stages_of s.processors) k x → PlaceOf c first s k x

abbrev pub AreCounted : Order → List Stage → List ℕ → Type 0
AreCounted o vs arrivals = (xs : List ℕ) × (arrivals ≡ count_by (arrived o) vs ∷ count_by (again o) vs ∷ xs)

pub record Stands (c : Case) (first s : State) : Type 0 where
  pub holds : Holds c first s.processors
  pub counts : AreCounted (order_of c) (stages_of s.processors) s.arrived
  pub places : AllPlaced c first s
  pub long : length (stages_of s.processors) ≡ length first.processors

-- ---- a step

-- the state after a step, where the place and the event are known
abbrev built : Case → State → ℕ → ProcedureStep → ListPlace → Option Event → State
built c s k todo at e =
    let t = after_step c.goal e todo k (system_of c s) in
    record {
      processors = t.processors;
      words = t.memory.words;
      places = slice_set s.places k (place_after at todo e (length (writable c.goal)));
      arrived = counted todo s.arrived;
    }

-- a step that may be done: it is due, nothing is wrong with it, and it keeps what holds
pub record Goes (c : Case) (first s : State) (k : ℕ) : Type 0 where
  pub todo : ProcedureStep
  pub is : next_step c s k ≡ Some todo
  pub due_is : IsDue (move_of c s k todo)
  pub right : fault_of s.processors (move_of c s k todo) ≡ None
  pub stands : Stands c first (moved c s k)
  pub leads : IsMachines c first s → IsMachines c first (moved c s k)

module _ (c : Case) (first : State) (start : IsStart (at_rest c first)) (few : length first.processors ≤ 64) (s : State) (st : Stands c first s) (k : ℕ) (p : Processor)
    (at : slice_get s.processors k ≡ Some p) (todo : ProcedureStep) (place : ListPlace) (here : slice_get s.places k ≡ Some place) (next_is : slice_get (list_of c k) place.step ≡ Some todo)
    (opened : is_open s.arrived todo ≡ true) (is : next_step c s k ≡ Some todo)
    (rest : List ProcedureStep) (fit : All IsInstruction rest)
    (placed : IsPlace (length first.processors) (length (writable c.goal)) rest p.self_snoop (arrived_at s.arrived 1) p.phase (nat_lt 0 p.era) (drop place.step (list_of c k)) place.part)
    (snoops : snoops_at first k ≡ p.self_snoop) where
  place_is : place_of s k ≡ place
  place_is = get_or_from_slice_get s.places k place (record { step = 0; part = 0 }) here

  here_stage : At (stages_of s.processors) k (stage_of p)
  here_stage = stage_at s.processors k p at

  later : nat_lt 0 (p.era + 1) ≡ true
  later = lt-ltb 0 (p.era + 1) (omega arith)

  event_is : (e : Option Event) → event_of todo place.part p ≡ e → event_in s.processors k todo (place_of s k).part ≡ e
  event_is e known =
      ap (λ (x : ListPlace). event_in s.processors k todo x.part) place_is
      ∙ ap (λ (x : Option Processor). option_map_or (event_of todo place.part) x None) at
      ∙ known

  moved_is : (e : Option Event) → event_of todo place.part p ≡ e → moved c s k ≡ built c s k todo place e
  moved_is e known =
      ap (λ (x : Option ProcedureStep). option_map_or (state_after c s k) x s) is
      ∙ (λ i. built c s k todo (place_is i) (event_is e known i))

  due_is : due_in s.processors k ≡ due (order_of c) s.processors p p.phase
  due_is =
      ap (λ (x : Option Processor). option_map_or (due_of s.processors) x None) at
      ∙ due_alike p.file c.goal s.processors p p.phase

  abbrev EventIsDue : Option Event → Type 0
  EventIsDue x = MatchOption x (is_astray (phase_in s.processors k) todo ≡ false) (λ e. due_in s.processors k ≡ Some e)

  fault_is : fault_with k todo (move_of c s k todo).outcome p ≡ None → fault_of s.processors (move_of c s k todo) ≡ None
  fault_is none =
      ap (λ (x : Option Processor). option_map_or (fault_with k todo (move_of c s k todo).outcome) x None) at ∙ none

  abbrev TurnHere : Type 0
  TurnHere = Turn c.goal s.processors (length first.processors) (length (writable c.goal)) rest (list_of c k) place p s.arrived todo

  abbrev WaitsHere : Type 0
  WaitsHere = Waits c.goal s.processors (length first.processors) (length (writable c.goal)) rest (list_of c k) place p s.arrived todo

  abbrev InstructsHere : Type 0
  InstructsHere = Instructs c.goal s.processors (length first.processors) (length (writable c.goal)) rest (list_of c k) place p s.arrived todo

  -- ---- an event

  module _ (e : Event) (event : event_of todo place.part p ≡ Some e) (now_due : due (order_of c) s.processors p p.phase ≡ Some e) (stays : e ≡ Leave → ⊥)
      (counted_is : (a b : ℕ) (xs : List ℕ) → counted todo (a ∷ b ∷ xs) ≡ first_after e a ∷ second_after e b ∷ xs)
      (after_is : IsPlace (length first.processors) (length (writable c.goal)) rest p.self_snoop (arrived_at s.arrived 1) (phase_after e p.phase) (nat_lt 0 (era_after e p.era))
      (drop (place_after place todo (Some e) (length (writable c.goal))).step (list_of c k)) (place_after place todo (Some e) (length (writable c.goal))).part) where
    abbrev to : System
    to = step c.goal e k (system_of c s)

    abbrev staged : List Stage
    staged = set (stages_of s.processors) k (stage_after e (stage_of p))

    staged_is : stages_of to.processors ≡ staged
    staged_is = stages_are c first s st.holds k p at e now_due

    counts_are : Counts (order_of c) (stages_of s.processors) k e (stage_of p)
    counts_are =
        let long = st.long in
        counts (order_of c) (stages_of s.processors) k p.era (omega (arith, long, few)) (due_behind (order_of c) s.processors p e (st.holds.guarded.in_step k (stage_of p) here_stage) now_due) later
        e p.phase (due_row (order_of c) s.processors p p.phase e now_due) stays here_stage

    counts_to : AreCounted (order_of c) (stages_of to.processors) (counted todo s.arrived)
    counts_to = (
      st.counts.0,
      ap (counted todo) st.counts.1
          ∙ counted_is (count_by (arrived (order_of c)) (stages_of s.processors)) (count_by (again (order_of c)) (stages_of s.processors)) st.counts.0
          ∙ (λ i. counts_are.first i ∷ counts_are.second i ∷ st.counts.0)
          ∙ ap (λ (vs : List Stage). count_by (arrived (order_of c)) vs ∷ count_by (again (order_of c)) vs ∷ st.counts.0) (sym staged_is),
    )

    up : arrived_at s.arrived 1 ≤ arrived_at (counted todo s.arrived) 1
    up =
        let was : arrived_at s.arrived 1 ≡ count_by (again (order_of c)) (stages_of s.processors) = ap (λ (xs : List ℕ). arrived_at xs 1) st.counts.1 in
        let is_now : arrived_at (counted todo s.arrived) 1 ≡ count_by (again (order_of c)) (stages_of to.processors) = ap (λ (xs : List ℕ). arrived_at xs 1) counts_to.1 in
        let same : count_by (again (order_of c)) (stages_of to.processors) ≡ count_by (again (order_of c)) staged = ap (count_by (again (order_of c))) staged_is in
        let more = counts_are.up in
        omega (arith, was, is_now, same, more)

    abbrev place' : ListPlace
    place' = place_after place todo (Some e) (length (writable c.goal))

    moved_place : PlaceOf c first (built c s k todo place (Some e)) k (stage_after e (stage_of p))
    moved_place = record {
      behind = rest;
      fit = fit;
      place = place';
      here = set_same s.places k place place' here;
      is = subst (λ (b : Bool). IsPlace (length first.processors) (length (writable c.goal)) rest b (arrived_at (counted todo s.arrived) 1) (phase_after e p.phase) (nat_lt 0 (era_after e p.era)) (drop place'.step (list_of c k)) place'.part)
          (sym snoops)
          (place_up (length first.processors) (length (writable c.goal)) rest p.self_snoop (arrived_at s.arrived 1) (arrived_at (counted todo s.arrived) 1) up
          (phase_after e p.phase) (nat_lt 0 (era_after e p.era)) (drop place'.step (list_of c k)) place'.part after_is);
    }

    places_to : AllPlaced c first (built c s k todo place (Some e))
    places_to j x at_x =
        let there : At staged j x = subst (λ (vs : List Stage). At vs j x) staged_is at_x in
        ⊎_elim
        (λ (h : (j ≡ k) × (slice_get (set s.places k place') j ≡ Some place')).
        let own : At staged k x = subst (λ (i : ℕ). At staged i x) h.0 there in
        let same : stage_after e (stage_of p) ≡ x = let i : Some (stage_after e (stage_of p)) ≡ Some x = sym (set_same (stages_of s.processors) k (stage_of p) (stage_after e (stage_of p)) here_stage) ∙ own in cc in
        subst (λ (i : ℕ). PlaceOf c first (built c s k todo place (Some e)) i x) (sym h.0)
        (subst (λ (y : Stage). PlaceOf c first (built c s k todo place (Some e)) k y) same moved_place))
        (λ (h : (j ≢ k) × (slice_get (set s.places k place') j ≡ slice_get s.places j)). ⊎_elim
        (λ (i : (j ≡ k) × (stage_after e (stage_of p) ≡ x)). absurd (h.0 i.0))
        (λ (was : At (stages_of s.processors) j x).
        let q = st.places j x was in
        let r : PlaceOf c first (built c s k todo place (Some e)) j x =
        record {
          behind = q.behind;
          fit = q.fit;
          place = q.place;
          here = h.1 ∙ q.here;
          is = place_up (length first.processors) (length (writable c.goal)) q.behind (snoops_at first j) (arrived_at s.arrived 1) (arrived_at (counted todo s.arrived) 1) up
              x.0 (nat_lt 0 x.1) (drop q.place.step (list_of c j)) q.place.part q.is;
        } in r)
        (at_set (stages_of s.processors) k j (stage_after e (stage_of p)) x there))
        (set_get s.places k place place' j here)

    pub stands_to : Stands c first (built c s k todo place (Some e))
    stands_to = record {
      holds = holds_event c first s st.holds k p at e now_due;
      counts = counts_to;
      places = places_to;
      long = ap length staged_is ∙ length-set (stages_of s.processors) k (stage_after e (stage_of p)) ∙ st.long;
    }

  turned : TurnHere → Goes c first s k
  turned t = record {
    todo = todo;
    is = is;
    due_is = inr (not_invd todo t.right, subst EventIsDue (sym (event_is (Some t.event) t.is)) (due_is ∙ t.due_is));
    right = fault_is (t.right k (move_of c s k todo).outcome p);
    stands = subst (Stands c first) (sym (moved_is (Some t.event) t.is)) (stands_to t.event t.is t.due_is t.stays t.counts t.place);
    leads = λ r. subst (IsMachines c first) (sym (moved_is (Some t.event) t.is)) (event_leads c first s st.holds k p at t.event t.due_is start r);
  }

  -- ---- the wait at the second barrier

  abbrev behind_wait : State
  behind_wait = record s { places = slice_set s.places k (step_behind place) }

  waited_places : drop (place.step + 1) (list_of c k) ≡ list.Release ∷ rest → length first.processors ≤ arrived_at s.arrived 1 → p.phase ≡ Arrived2 → AllPlaced c first behind_wait
  waited_places left full phase j x at_x = ⊎_elim
      (λ (h : (j ≡ k) × (slice_get (set s.places k (step_behind place)) j ≡ Some (step_behind place))).
      let own : At (stages_of s.processors) k x = subst (λ (i : ℕ). At (stages_of s.processors) i x) h.0 at_x in
      let same : stage_of p ≡ x = let i : Some (stage_of p) ≡ Some x = sym here_stage ∙ own in cc in
      let arrived2 : Arrived2 ≡ x.0 = sym phase ∙ ap (λ (y : Stage). y.0) same in
      let there : PlaceOf c first behind_wait k x =
      record {
        behind = rest;
        fit = fit;
        place = step_behind place;
        here = set_same s.places k place (step_behind place) here;
        is = subst (λ (ph : Phase). IsPlace (length first.processors) (length (writable c.goal)) rest (snoops_at first k) (arrived_at s.arrived 1) ph (nat_lt 0 x.1) (drop (place.step + 1) (list_of c k)) 0) arrived2 (inr (left, full));
      } in
      subst (λ (i : ℕ). PlaceOf c first behind_wait i x) (sym h.0) there)
      (λ (h : (j ≢ k) × (slice_get (set s.places k (step_behind place)) j ≡ slice_get s.places j)).
      let q = st.places j x at_x in
      let r : PlaceOf c first behind_wait j x = record { behind = q.behind; fit = q.fit; place = q.place; here = h.1 ∙ q.here; is = q.is } in r)
      (set_get s.places k place (step_behind place) j here)

  waited : WaitsHere → Goes c first s k
  waited w =
      let n : ℕ = length first.processors in
      let none : event_of todo place.part p ≡ None = ap (λ (t : ProcedureStep). event_of t place.part p) w.is ∙ ap passage w.phase in
      let stands : Stands c first behind_wait =
      record {
        holds = st.holds;
        counts = st.counts;
        places = waited_places w.left w.full w.phase;
        long = st.long;
      } in
      record {
        todo = todo;
        is = is;
        due_is = inr (ap is_invd w.is, subst EventIsDue (sym (event_is None none)) (ap (is_astray (phase_in s.processors k)) w.is));
        right = fault_is (ap (λ (t : ProcedureStep). fault_with k t (move_of c s k todo).outcome p) w.is);
        stands = subst (Stands c first) (sym (moved_is None none ∙ ap (λ (t : ProcedureStep). built c s k t place None) w.is)) stands;
        leads = λ r. subst (IsMachines c first) (sym (moved_is None none ∙ ap (λ (t : ProcedureStep). built c s k t place None) w.is)) r;
      }

  -- ---- an instruction of a processor that runs

  -- it is no event of an update, and the next step follows it
  pub record IsAside (t : ProcedureStep) : Type 0 where
    pub no_event : event_of t place.part p ≡ None
    pub no_invd : is_invd t ≡ false
    pub no_flush : is_astray p.phase t ≡ false
    pub goes_on : place_after place t None (length (writable c.goal)) ≡ step_behind place
    pub counts_none : counted t s.arrived ≡ s.arrived

  asides : p.phase ≡ Running → (t : ProcedureStep) → IsInstruction t → IsAside t
  asides runs (list.Access op) fits = record { no_event = refl; no_invd = refl; no_flush = refl; goes_on = refl; counts_none = refl }
  asides runs list.ReloadCr3 fits =
      record { no_event = ap (λ (ph : Phase). reloading ph p.page_global) runs; no_invd = refl; no_flush = ap (λ (ph : Phase). not (is_running ph)) runs; goes_on = refl; counts_none = refl }
  asides runs (list.Invlpg address) fits = record { no_event = refl; no_invd = refl; no_flush = refl; goes_on = refl; counts_none = refl }
  asides runs (list.Pge on) fits = record { no_event = refl; no_invd = refl; no_flush = refl; goes_on = refl; counts_none = refl }
  asides runs (list.Cd on) fits = record { no_event = refl; no_invd = refl; no_flush = ap (λ (ph : Phase). not (is_running ph)) runs; goes_on = refl; counts_none = refl }
  asides runs other fits = absurd fits

  instructed : InstructsHere → Goes c first s k
  instructed w =
      let a = asides w.phase todo w.fit in
      let i = instructs c first s st.holds k p at w.phase todo w.fit in
      let behind_it : State = record { processors = i.to.processors; words = i.to.memory.words; places = slice_set s.places k (step_behind place); arrived = s.arrived } in
      let built_is : built c s k todo place None ≡ behind_it =
      λ d. record { processors = (i.is d).processors; words = (i.is d).memory.words; places = slice_set s.places k (a.goes_on d); arrived = a.counts_none d } in
      record {
        todo = todo;
        is = is;
        due_is = inr (a.no_invd, subst EventIsDue (sym (event_is None a.no_event)) (ap (λ (x : Option Processor). is_astray (option_map_or (λ q. q.phase) x Running) todo) at ∙ a.no_flush));
        right = fault_is (ap (λ (x : Option Event). fault_with k todo (answer_of_step x todo k (system_of c s)) p) (event_is None a.no_event) ∙ i.right);
        stands = subst (Stands c first) (sym (moved_is None a.no_event ∙ built_is))
            (record {
              holds = i.holds;
              counts = subst (λ (vs : List Stage). AreCounted (order_of c) vs s.arrived) (sym i.same_stages) st.counts;
              places = places_behind i.to w.phase w.place i.same_stages;
              long = ap length i.same_stages ∙ st.long;
            });
        leads = λ r. subst (IsMachines c first) (sym (moved_is None a.no_event ∙ built_is)) (i.leads start r);
      }
    where
      places_behind : (to : System) → p.phase ≡ Running
          → IsPlace (length first.processors) (length (writable c.goal)) rest p.self_snoop (arrived_at s.arrived 1) Running (nat_lt 0 p.era) (drop (place.step + 1) (list_of c k)) 0
          → stages_of to.processors ≡ stages_of s.processors
          → AllPlaced c first (record { processors = to.processors; words = to.memory.words; places = slice_set s.places k (step_behind place); arrived = s.arrived })
      places_behind to runs after_is same_stages j x at_x =
          let next_state : State = record { processors = to.processors; words = to.memory.words; places = slice_set s.places k (step_behind place); arrived = s.arrived } in
          let there : At (stages_of s.processors) j x = subst (λ (vs : List Stage). At vs j x) same_stages at_x in
          ⊎_elim
          (λ (h : (j ≡ k) × (slice_get (set s.places k (step_behind place)) j ≡ Some (step_behind place))).
          let own : At (stages_of s.processors) k x = subst (λ (i : ℕ). At (stages_of s.processors) i x) h.0 there in
          let same : (Running, p.era) ≡ x = let i : Some (stage_of p) ≡ Some x = sym here_stage ∙ own in (λ i. (sym runs i, p.era)) ∙ (let e : stage_of p ≡ x = cc in e) in
          let here_now : PlaceOf c first next_state k (Running, p.era) =
          record {
            behind = rest;
            fit = fit;
            place = step_behind place;
            here = set_same s.places k place (step_behind place) here;
            is = subst (λ (b : Bool). IsPlace (length first.processors) (length (writable c.goal)) rest b (arrived_at s.arrived 1) Running (nat_lt 0 p.era) (drop (place.step + 1) (list_of c k)) 0) (sym snoops) after_is;
          } in
          subst (λ (i : ℕ). PlaceOf c first next_state i x) (sym h.0) (subst (λ (y : Stage). PlaceOf c first next_state k y) same here_now))
          (λ (h : (j ≢ k) × (slice_get (set s.places k (step_behind place)) j ≡ slice_get s.places j)).
          let q = st.places j x there in
          let r : PlaceOf c first next_state j x = record { behind = q.behind; fit = q.fit; place = q.place; here = h.1 ∙ q.here; is = q.is } in r)
          (set_get s.places k place (step_behind place) j here)

  pub goes_here : length (writable p.file) ≡ length (writable c.goal) → Goes c first s k
  goes_here registers =
      ⊎_elim turned (λ (other : WaitsHere ⊎ InstructsHere). ⊎_elim waited instructed other)
      (turn c.goal s.processors (length first.processors) (length (writable c.goal)) rest fit (list_of c k) place p todo s.arrived next_is registers (two_at_least c.goal) opened first_open second_open later
      p.phase (nat_lt 0 p.era) refl refl placed)
    where
      first_open : length first.processors ≤ arrived_at s.arrived 0 → list_all (has_arrived (order_of c)) s.processors ≡ true
      first_open full =
          let is_count : arrived_at s.arrived 0 ≡ count_by (arrived (order_of c)) (stages_of s.processors) = ap (λ (xs : List ℕ). arrived_at xs 0) st.counts.1 in
          let long = st.long in
          all_staged (arrived (order_of c)) s.processors ∙ all_pass (arrived (order_of c)) (stages_of s.processors) (omega (arith, full, is_count, long))

      second_open : length first.processors ≤ arrived_at s.arrived 1 → list_all (has_arrived_again (order_of c)) s.processors ≡ true
      second_open full =
          let is_count : arrived_at s.arrived 1 ≡ count_by (again (order_of c)) (stages_of s.processors) = ap (λ (xs : List ℕ). arrived_at xs 1) st.counts.1 in
          let long = st.long in
          all_staged (again (order_of c)) s.processors ∙ all_pass (again (order_of c)) (stages_of s.processors) (omega (arith, full, is_count, long))

-- ---- any processor that may go

module _ (c : Case) (first : State) (start : IsStart (at_rest c first)) (few : length first.processors ≤ 64) (s : State) (st : Stands c first s) (k : ℕ) where
  registers_are : (p : Processor) → slice_get s.processors k ≡ Some p → length (writable p.file) ≡ length (writable c.goal)
  registers_are p at = ap (λ (cap : ℕ). length (writable (record c.goal { capabilities = cap }))) (st.holds.filed.1 k p at).alike.capabilities

  snoops_are : (p : Processor) → slice_get s.processors k ≡ Some p → snoops_at first k ≡ p.self_snoop
  snoops_are p at =
      let f = st.holds.since k p at in
      ap (λ (x : Option Processor). option_map_or (λ (q : Processor). q.self_snoop) x false) f.1 ∙ sym f.2.self_snoop

  -- where the processor is in its list
  pub placed_at : (p : Processor) → slice_get s.processors k ≡ Some p
      → (q : PlaceOf c first s k (stage_of p))
      × IsPlace (length first.processors) (length (writable c.goal)) q.behind p.self_snoop (arrived_at s.arrived 1) p.phase (nat_lt 0 p.era) (drop q.place.step (list_of c k)) q.place.part
  placed_at p at =
      let q = st.places k (stage_of p) (stage_at s.processors k p at) in (
        q,
        subst (λ (b : Bool). IsPlace (length first.processors) (length (writable c.goal)) q.behind b (arrived_at s.arrived 1) p.phase (nat_lt 0 p.era) (drop q.place.step (list_of c k)) q.place.part) (snoops_are p at) q.is,
      )

  pub goes : may_go c s k ≡ true → Goes c first s k
  goes go = at_processor (slice_get s.processors k) refl (and_parts _ _ go).0
    where
      open_at : option_map_or (is_open s.arrived) (step_at c s k) false ≡ true
      open_at = (and_parts (option_map_or (is_fit c.goal) (slice_get s.processors k) false) _ go).1

      next_known : (todo : ProcedureStep) → step_at c s k ≡ Some todo → next_step c s k ≡ Some todo
      next_known todo known = ap (λ (b : Bool). if b then step_at c s k else None) go ∙ known

      at_step : (p : Processor) → slice_get s.processors k ≡ Some p → (x : Option ProcedureStep) → step_at c s k ≡ x → option_map_or (is_open s.arrived) x false ≡ true → Goes c first s k
      at_step p at None known opened = absurd (cc)
      at_step p at (Some todo) known opened =
          let q = placed_at p at in
          let place_is : place_of s k ≡ q.0.place = get_or_from_slice_get s.places k q.0.place (record { step = 0; part = 0 }) q.0.here in
          let next_is : slice_get (list_of c k) q.0.place.step ≡ Some todo = ap (λ (x : ListPlace). slice_get (list_of c k) x.step) (sym place_is) ∙ known in
          goes_here c first start few s st k p at todo q.0.place q.0.here next_is opened (next_known todo known) q.0.behind q.0.fit q.1 (snoops_are p at) (registers_are p at)

      at_processor : (x : Option Processor) → slice_get s.processors k ≡ x → option_map_or (is_fit c.goal) x false ≡ true → Goes c first s k
      at_processor None at fit = absurd (cc)
      at_processor (Some p) at fit = at_step p at (step_at c s k) refl open_at
