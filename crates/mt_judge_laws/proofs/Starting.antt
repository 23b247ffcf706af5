-- A right start of the manual's lists has what is kept, and the laws.
use Rattle.std.proofs.Common.{◌≡◌, ◌⊎◌, ◌∙◌, ap, refl, sym, subst, inl, inr, ⊎_elim, arith, ℕ, zero, suc, ◌<◌, Bool, true, false, List, [], ◌∷◌, drop, length, replicate, Option, None, Some}
use Rattle.std.specs.Prelude.{cond, ◌&&◌, ◌||◌, if◌then◌else◌, is_some, nat_lt, slice_get, IfSome}
use Rattle.std.specs.List.{count_by}
use Rattle.std.specs.Option.{option_map, option_map_or}
use Rattle.std.proofs.lemmas.List.{length-map}
use Rattle.std.proofs.lemmas.Option.{slice_get_within}
use Rattle.mt_regs.specs.Registers.{writable}
use Rattle.mt_machine.specs.declared.phase.Phase.TheVariants.{Running}
use Rattle.mt_machine.specs.Start.{IsStart}
use Rattle.mt_machine.specs.System.{Processor, System, change}
use Rattle.mt_laws.proofs.Barrier.Ranks.{At, processor_at}
use Rattle.mt_laws.proofs.Barrier.Stages.{Stage, stage_of, stages_of}
use Rattle.mt_laws.proofs.Steps.StepCounts.{count_more}
use Rattle.mt_procedure.specs.declared.moves.Move.{Move}
use Rattle.mt_search.specs.declared.search.Aim.{Aim}
use Rattle.mt_search.specs.declared.search.Aim.TheVariants as aim
use Rattle.mt_search.specs.declared.search.Found.{Found}
use Rattle.mt_search.specs.declared.search.Found.TheVariants as ends
use Rattle.mt_procedure.specs.declared.step.ListPlace.{ListPlace}
use Rattle.mt_judge.specs.Verdicts.{IsRight}
use Rattle.mt_procedure.specs.Dues.{AreStepsDue, IsDue, IsDueAt}
use Rattle.mt_procedure.specs.Runs.{Case, IsEnded, IsRun, SomeGoesOn, State, arrived_at, list_of, may_go, may_take, move_of, next_move, run, step_at, system_of, taken, with_system}
use Rattle.mt_procedure.specs.Speculation.{with_fetch, with_translation}
use Rattle.mt_procedure.specs.declared.turn.Turn.{Turn}
use Rattle.mt_procedure.specs.declared.turn.Turn.TheVariants.{Fetch, Step, Translate}
use Rattle.mt_search.specs.Searches.{AreAllFine, IsFound, fault_at, has_wrong, is_bad}
use Rattle.mt_search.specs.Wrongs.{fault_of}
use Rattle.mt_judge_laws.specs.Manual.{FillsNothing, IsMachines, IsManual, IsRightStart, NothingGoesWrong, RunsAreTheMachines, SearchesFindNothing, at_rest, first_place}
use Rattle.mt_judge_laws.proofs.Accessing.{AllKeep, kept_stages}
use Rattle.mt_judge_laws.proofs.Beginning.{holds_first, reaches, right_in, stage_is, start_is}
use Rattle.mt_judge_laws.proofs.Holding.{order_of, quiet_holds}
use Rattle.mt_judge_laws.proofs.Counting.{again, arrived}
use Rattle.mt_judge_laws.proofs.Placing.{IsPlace}
use Rattle.mt_judge_laws.proofs.Progress.{finished, progress}
use Rattle.mt_judge_laws.proofs.Right.{Senses}
use Rattle.mt_judge_laws.proofs.Speculating.{alone, alone_twice, fetches, translates}
use Rattle.mt_judge_laws.proofs.Standing.{AllPlaced, AreCounted, Goes as GoesHere, PlaceOf, Stands, goes, snoops_at}

-- ---- lists

repeated_at : {X : Type 0} → (n k : ℕ) (x : X) → k < n → slice_get (replicate n x) k ≡ Some x
repeated_at zero k x within = absurd (omega (arith, within))
repeated_at (suc n) zero x within = refl
repeated_at (suc n) (suc k) x within = repeated_at n k x (omega (arith, within))

abbrev one : Bool → ℕ
one b = cond b 1 0

none_counted : (q : Stage → Bool) (xs : List Stage) → ((i : ℕ) (x : Stage) → At xs i x → q x ≡ false) → 0 ≡ count_by q xs
none_counted q [] each = refl
none_counted q (x ∷ xs) each =
    let rest = none_counted q xs (λ i y at. each (suc i) y at) in
    let here : one (q x) ≡ 0 = ap one (each 0 x refl) in
    let more = count_more q x xs in
    omega (arith, rest, here, more)

-- ---- the start

module _ (senses : Senses) (c : Case) (s : State) (right : IsRightStart c s) (manual : IsManual c s) where
  starts : IsStart (at_rest c s)
  starts = start_is senses c s right manual.goal

  at_first : (i : ℕ) (x : Stage) → At (stages_of s.processors) i x → x ≡ (Running, 0)
  at_first = stage_is senses c s right manual.goal

  counted : AreCounted (order_of c) (stages_of s.processors) s.arrived
  counted =
      let first = none_counted (arrived (order_of c)) (stages_of s.processors) (λ i x at. ap (arrived (order_of c)) (at_first i x at)) in
      let second = none_counted (again (order_of c)) (stages_of s.processors) (λ i x at. ap (again (order_of c)) (at_first i x at)) in
      (replicate 6 0, manual.arrived ∙ (λ i. first i ∷ second i ∷ replicate 6 0))

  places : AllPlaced c s s
  places k x at_x =
      let found = processor_at s.processors k x at_x in
      let p = found.0 in
      let at : slice_get s.processors k ≡ Some p = found.1 in
      let snoops : p.self_snoop ≡ snoops_at s k = sym (ap (λ (y : Option Processor). option_map_or (λ (q : Processor). q.self_snoop) y false) at) in
      let within = slice_get_within s.processors k p at in
      let l = manual.lists k p at in
      let placed : IsPlace (length s.processors) (length (writable c.goal)) l.behind p.self_snoop (arrived_at s.arrived 1) Running false (drop 0 (list_of c k)) 0 = (l.before, l.before_fit, l.is) in
      record {
        behind = l.behind;
        fit = l.behind_fit;
        place = first_place;
        here = ap (λ (ps : List ListPlace). slice_get ps k) manual.places ∙ repeated_at (length s.processors) k first_place within;
        is = subst (λ (y : Stage). IsPlace (length s.processors) (length (writable c.goal)) l.behind (snoops_at s k) (arrived_at s.arrived 1) y.0 (nat_lt 0 y.1) (drop 0 (list_of c k)) 0)
            (sym (at_first k x at_x))
            (subst (λ (b : Bool). IsPlace (length s.processors) (length (writable c.goal)) l.behind b (arrived_at s.arrived 1) Running false (drop 0 (list_of c k)) 0) snoops placed);
      }

  stands_first : Stands c s s
  stands_first = record {
    holds = holds_first senses c s right manual.goal;
    counts = counted;
    places = places;
    long = length-map s.processors stage_of;
  }

  -- ---- turns

  -- a state of the lists, which is the machine's if no processor does anything by itself
  pub record Comes (t : State) : Type 0 where
    pub holds : Stands c s t
    pub leads : c.mode.speculates ≡ false → IsMachines c s t

  -- the lists stay where they are while a processor does something by itself
  stays : (t : State) (to : System) → AllKeep t.processors to.processors → Stands c s t → Stands c s (with_system to t)
  stays t to q st = record {
    holds = quiet_holds c s t.processors to.processors q st.holds;
    counts = subst (λ (vs : List Stage). AreCounted (order_of c) vs t.arrived) (sym (kept_stages t.processors to.processors q)) st.counts;
    places = λ k x at_x.
        let p = st.places k x (subst (λ (vs : List Stage). At vs k x) (kept_stages t.processors to.processors q) at_x) in
        let r : PlaceOf c s (with_system to t) k x = record { behind = p.behind; fit = p.fit; place = p.place; here = p.here; is = p.is } in r;
    long = ap length (kept_stages t.processors to.processors q) ∙ st.long;
  }

  module _ (fills : FillsNothing c) where
    comes : (u : Turn) (t : State) → Comes t → may_take c t u ≡ true → Comes (taken c t u)
    comes (Step k) t g may =
        let next = goes c s starts manual.few t g.holds k may in
        record { holds = next.stands; leads = λ off. next.leads (g.leads off) }
    comes (Translate k page) t g may =
        record { holds = stays t (change (with_translation page) k (system_of c t)) (translates c fills s t g.holds.holds k page may) g.holds; leads = λ off. absurd (alone c _ off may) }
    comes (Fetch k line) t g may =
        record { holds = stays t (with_fetch line k (system_of c t)) (fetches c fills s t g.holds.holds k line may) g.holds; leads = λ off. absurd (alone_twice c _ _ off may) }

    comes_on : (ts : List Turn) (t : State) → Comes t → IsRun c t ts → Comes (run c t ts)
    comes_on [] t g r = g
    comes_on (u ∷ ts) t g r = comes_on ts (taken c t u) (comes u t g r.0) r.1

    pub comes_by : (ts : List Turn) → IsRun c s ts → Comes (run c s ts)
    comes_by ts r = comes_on ts s (record { holds = stands_first; leads = λ off. reaches senses c s right manual.goal }) r

    stands : (ts : List Turn) → IsRun c s ts → Stands c s (run c s ts)
    stands ts r = (comes_by ts r).holds

    -- ---- what follows

    no_wrong : (t : State) → Stands c s t → has_wrong c t ≡ false
    no_wrong t st = right_in senses c s right manual.goal t st.holds

    move_is : (t : State) (k : ℕ) (g : GoesHere c s t k) → next_move c t k ≡ Some (move_of c t k g.todo)
    move_is t k g = ap (option_map (move_of c t k)) g.is

    no_fault : (u : Turn) (t : State) → Stands c s t → may_take c t u ≡ true → fault_at c t u ≡ None
    no_fault (Step k) t st may =
        let g = goes c s starts manual.few t st k may in
        ap (λ (x : Option Move). option_map_or (fault_of t.processors) x None) (move_is t k g) ∙ g.right
    no_fault (Translate k page) t st may = refl
    no_fault (Fetch k line) t st may = refl

    fine_turn : (t : State) → Comes t → (u : Turn) → may_take c t u ≡ true → is_bad c t u ≡ false
    fine_turn t g u may =
        let none = no_fault u t g.holds may in
        let right_behind = no_wrong (taken c t u) (comes u t g may).holds in
        λ i. is_some (none i) || right_behind i

    fine : AreAllFine c s
    fine ts r =
        let g = comes_by ts r in
        record {
          right = no_wrong (run c s ts) g.holds;
          turns = fine_turn (run c s ts) g;
          goes = progress c s starts manual.few (run c s ts) g.holds;
        }

    due_in_state : (t : State) → Stands c s t → AreStepsDue c t
    due_in_state t st k within = one (may_go c t k) refl
      where
        one : (b : Bool) → may_go c t k ≡ b → IsDueAt c t k
        one true go = let g = goes c s starts manual.few t st k go in subst (λ (x : Option Move). IfSome x IsDue) (sym (move_is t k g)) g.due_is
        one false still =
            let none_is : next_move c t k ≡ None = ap (λ (b : Bool). option_map (move_of c t k) (if b then step_at c t k else None)) still in
            subst (λ (x : Option Move). IfSome x IsDue) (sym none_is) tt

    pub is_right : IsRight c s
    is_right = record {
      fine = fine;
      order = record {
        due = λ ts r. due_in_state (run c s ts) (stands ts r);
        finished = λ ts r. finished c s starts manual.few (run c s ts) (stands ts r);
      };
    }

    found_is : (a : Aim) (f : Found) → IsFound a c s f → (f ≡ ends.Nothing) ⊎ (f ≡ ends.Stopped)
    found_is a ends.WrongStart h = absurd (let e = right.right in cc)
    found_is aim.Wrong (ends.Wrong path) h =
        absurd (let w = (fine h.front h.runs).turns h.last h.wrong.goes in let bad = h.wrong.bad in cc)
    found_is aim.Left (ends.Wrong path) h = absurd (let bad : false ≡ true = h.wrong.bad in cc)
    found_is aim.Wrong (ends.At path) h = absurd (⊎_elim
        (λ (e : IsEnded c (run c s path.items)). h.sought.unended.2 (e h.sought.unended.0 h.sought.unended.1))
        (λ (g : SomeGoesOn c (run c s path.items)). let waits = h.sought.waits g.0 in let on = g.1 in cc)
        (fine path.items h.runs).goes)
    found_is aim.Left (ends.At path) h = absurd (let none = (fine path.items h.runs).right in let some = h.sought.wrong in cc)
    found_is a ends.Stopped h = inr refl
    found_is a ends.Nothing h = inl refl

-- ---- the laws

pub runs_are : Senses → RunsAreTheMachines
runs_are senses c s ts right manual off r = (comes_by senses c s right manual (ap (λ b. b && c.mode.leaks) off) ts r).leads off

pub none_goes_wrong : Senses → NothingGoesWrong
none_goes_wrong senses c s right manual fills = is_right senses c s right manual fills

pub searches_find : Senses → SearchesFindNothing
searches_find senses a c s f right manual fills h = found_is senses c s right manual fills a f h
