-- Unless all lists have ended, some processor may go.
use Rattle.std.proofs.Common.{◌≡◌, ◌⊎◌, ◌∙◌, ap, refl, sym, subst, inl, inr, ⊎_elim, arith, ℕ, zero, suc, ◌+◌, ◌-◌, ◌^◌, ◌<◌, ◌≤◌, Bool, true, false, List, [], ◌∷◌, ◌++◌, drop, get_or, length, Option, Some, None}
use Rattle.std.specs.Prelude.{cond, ◌==◌, ◌&&◌, ◌||◌, nat_lt, slice_get, is_none, not}
use Rattle.std.specs.List.{All, count_by, list_all, list_any}
use Rattle.std.specs.Option.{option_map_or}
use Rattle.std.proofs.Math.Bool.{and-false}
use Rattle.std.proofs.lemmas.List.Elements.{All-head, All-tail}
use Rattle.std.proofs.lemmas.Bool.{eq-eqb, eqb-true, le-leb, lt-ltb, ltb-false, ltb-true}
use Rattle.std.proofs.Math.Pow.{pow_mono}
use Rattle.std.proofs.lemmas.Option.{get_or_from_slice_get, slice_get-get_or}
use Rattle.mt_regs.specs.RegisterFile.{page_count}
use Rattle.mt_regs.specs.Registers.{writable}
use Rattle.mt_cache.specs.declared.line.CacheLine.{CacheLine}
use Rattle.mt_tlb.specs.declared.mapping.Mapping.{Mapping}
use Rattle.mt_machine.specs.declared.phase.Phase.{Phase}
use Rattle.mt_machine.specs.declared.phase.Phase.TheVariants.{Running, Taken, Arrived, Passed, NoFill, Flushed, TlbFlushed, Writing, Enabled, Flushed2, TlbFlushed2, Normal, Restored, Arrived2}
use Rattle.mt_machine.specs.Access.{is_running}
use Rattle.mt_machine.specs.Machine.{is_arrived, is_arrived_again, is_changing}
use Rattle.mt_machine.specs.Start.{IsStart}
use Rattle.mt_machine.specs.System.{IsProcessor, Processor, start_processor}
use Rattle.mt_laws.proofs.Barrier.Claims.{all_get}
use Rattle.mt_laws.proofs.Barrier.Ranks.{At, is_ahead, processor_at, stage_at, and_left, and_right}
use Rattle.mt_laws.proofs.Barrier.Stages.{Stage, stage_of, stages_of}
use Rattle.mt_laws.proofs.Invariant.Kept.{start_sound}
use Rattle.mt_laws.proofs.Steps.StepCounts.{count_more}
use Rattle.mt_procedure.specs.declared.step.ListPlace.{ListPlace}
use Rattle.mt_procedure.specs.declared.step.ProcedureStep.{ProcedureStep}
use Rattle.mt_procedure.specs.declared.step.ProcedureStep.TheVariants as list
use Rattle.mt_procedure.specs.Dues.{AreListsFinished}
use Rattle.mt_list_machine.specs.Calls.{is_fit}
use Rattle.mt_procedure.specs.Runs.{Case, SomeGoesOn, IsEnded, State, arrived_at, is_open, list_of, may_go, place_of, step_at}
use Rattle.mt_search.specs.declared.wrong.Kept.{Kept}
use Rattle.mt_search.specs.Wrongs.{allows, page_of}
use Rattle.mt_judge_laws.specs.Manual.{IsInstruction, at_rest, first_flush, manual_list, since_flush}
use Rattle.mt_judge_laws.proofs.Holding.{order_of}
use Rattle.mt_judge_laws.proofs.Counting.{again, arrived}
use Rattle.mt_judge_laws.proofs.Held.{View, all_more, allows_held, both, kept_by, kind_by, may_hold, right_line, view}
use Rattle.mt_judge_laws.proofs.Placing.{IsPlace, none_left, some_left}
use Rattle.mt_judge_laws.proofs.Right.{or_left, or_right}
use Rattle.mt_judge_laws.proofs.Standing.{Stands, placed_at, PlaceOf}

-- ---- lists

-- all pass, or one doesn't
all_or_one : (q : Stage → Bool) (xs : List Stage) → (list_all q xs ≡ true) ⊎ ((i : ℕ) × (x : Stage) × At xs i x × (q x ≡ false))
all_or_one q [] = inl refl
all_or_one q (x ∷ xs) = one (q x) refl (all_or_one q xs)
  where
    one : (b : Bool) → q x ≡ b → (list_all q xs ≡ true) ⊎ ((i : ℕ) × (y : Stage) × At xs i y × (q y ≡ false)) → ((b && list_all q xs) ≡ true) ⊎ ((i : ℕ) × (y : Stage) × At (x ∷ xs) i y × (q y ≡ false))
    one false is rest = inr (0, x, refl, is)
    one true is rest = ⊎_elim
        (λ (all : list_all q xs ≡ true). inl all)
        (λ (found : (i : ℕ) × (y : Stage) × At xs i y × (q y ≡ false)). inr (suc found.0, found.1, found.2, found.3))
        rest

all_count : (q : Stage → Bool) (xs : List Stage) → list_all q xs ≡ true → count_by q xs ≡ length xs
all_count q [] h = refl
all_count q (x ∷ xs) h = count_more q x xs ∙ one (q x) (all_count q xs) h
  where
    one : (b : Bool) → (list_all q xs ≡ true → count_by q xs ≡ length xs) → (b && list_all q xs) ≡ true → cond b 1 0 + count_by q xs ≡ suc (length xs)
    one true rest g = let r = rest g in omega (arith, r)
    one false rest g = absurd (cc)

passes_at : (q : Stage → Bool) (xs : List Stage) (i : ℕ) (x : Stage) → list_all q xs ≡ true → At xs i x → q x ≡ true
passes_at q [] i x all at = absurd (cc)
passes_at q (y ∷ ys) zero x all at = let e : y ≡ x = cc in ap q (sym e) ∙ and_left (q y) (list_all q ys) all
passes_at q (y ∷ ys) (suc i) x all at = passes_at q ys i x (and_right (q y) (list_all q ys) all) at

-- ---- lines are of mapped pages

low_page : (g : Mapping → Bool) (n most : ℕ) (ms : List Mapping) → All (λ (m : Mapping). m.ppage < most) ms → list_any (λ m. (m.ppage == n) && g m) ms ≡ true → n < most
low_page g n most [] low h = absurd (cc)
low_page g n most (m ∷ ms) low h = one (m.ppage == n) refl h (λ rest. low_page g n most ms (All-tail (λ (r : Mapping). r.ppage < most) m ms low) rest)
  where
    one : (b : Bool) → (m.ppage == n) ≡ b → ((b && g m) || list_any (λ r. (r.ppage == n) && g r) ms) ≡ true → (list_any (λ r. (r.ppage == n) && g r) ms ≡ true → n < most) → n < most
    one true is f rest = let e = eqb-true m.ppage n is in let here = All-head (λ (r : Mapping). r.ppage < most) m ms low in omega (arith, e, here)
    one false is f rest = rest f

held_page : (v : View) (what : Kept) (n most : ℕ) (ms : List Mapping) → v.mappings ≡ ms → All (λ (m : Mapping). m.ppage < most) ms → may_hold v what n ≡ true → n < most
held_page v what n most ms same low h =
    low_page (λ m. v.old_lines || allows what (kind_by v m)) n most ms low (ap (list_any (allows_held v what n)) (sym same) ∙ and_right (not v.flushed) _ h)

-- ---- the next step, and that it may be done

pub record Open (arrivals : List ℕ) (left : List ProcedureStep) : Type 0 where
  pub todo : ProcedureStep
  pub more : List ProcedureStep
  pub is : left ≡ todo ∷ more
  pub opened : is_open arrivals todo ≡ true

flush_first : (n : ℕ) (snoops : Bool) (behind : List ProcedureStep)
    → (todo : ProcedureStep) × (more : List ProcedureStep) × (((first_flush snoops ++ since_flush n) ++ behind) ≡ todo ∷ more) × ((arrivals : List ℕ) → is_open arrivals todo ≡ true)
flush_first n true behind = (list.ClearPge, _, refl, λ arrivals. refl)
flush_first n false behind = (list.Wbinvd, _, refl, λ arrivals. refl)

instruction_open : (arrivals : List ℕ) (t : ProcedureStep) → IsInstruction t → is_open arrivals t ≡ true
instruction_open arrivals (list.Access op) fit = refl
instruction_open arrivals list.ReloadCr3 fit = refl
instruction_open arrivals (list.Invlpg address) fit = refl
instruction_open arrivals (list.Pge on) fit = refl
instruction_open arrivals (list.Cd on) fit = refl
instruction_open arrivals other fit = absurd fit

-- the step is open if the barrier is at which a processor in this phase waits
pub record Next (n : ℕ) (arrivals : List ℕ) (ph : Phase) (left : List ProcedureStep) : Type 0 where
  pub todo : ProcedureStep
  pub more : List ProcedureStep
  pub is : left ≡ todo ∷ more
  pub opened : (ph ≡ Arrived → n ≤ arrived_at arrivals 0) → (ph ≡ Arrived2 → n ≤ arrived_at arrivals 1) → is_open arrivals todo ≡ true

next_before : (arrivals : List ℕ) (left : List ProcedureStep) (n : ℕ) (snoops : Bool) (behind ts : List ProcedureStep) → All IsInstruction ts → left ≡ ts ++ (manual_list n snoops ++ behind) → Next n arrivals Running left
next_before arrivals left n snoops behind [] fit is = record { todo = list.Take; more = _; is = is; opened = λ first second. refl }
next_before arrivals left n snoops behind (t ∷ ts) fit is = record { todo = t; more = _; is = is; opened = λ first second. instruction_open arrivals t (All-head IsInstruction t ts fit) }

-- a processor that hasn't released has a next step
next_left : (n r : ℕ) (behind : List ProcedureStep) (snoops : Bool) (arrivals : List ℕ) (left : List ProcedureStep) (part : ℕ) (ph : Phase) (ahead : Bool) → IsPlace n r behind snoops (arrived_at arrivals 1) ph ahead left part
    → (ph ≡ Running → ahead ≡ false) → Next n arrivals ph left
next_left n r behind snoops arrivals left part Running true place late = absurd (let e : true ≡ false = late refl in cc)
next_left n r behind snoops arrivals left part Running false place late = next_before arrivals left n snoops behind place.0 place.1 place.2
next_left n r behind snoops arrivals left part Taken ahead place late = record { todo = list.Arrive 0; more = _; is = place; opened = λ first second. refl }
next_left n r behind snoops arrivals left part Arrived ahead place late =
    record { todo = list.Wait 0 n; more = _; is = place; opened = λ first second. le-leb n (arrived_at arrivals 0) (first refl) }
next_left n r behind snoops arrivals left part Passed ahead place late = record { todo = list.SetCd; more = _; is = place; opened = λ first second. refl }
next_left n r behind snoops arrivals left part NoFill ahead place late =
    let f = flush_first n snoops (behind) in record { todo = f.0; more = f.1; is = place ∙ f.2; opened = λ first second. f.3 arrivals }
next_left n r behind snoops arrivals left part (Writing i) ahead place late = ⊎_elim
    (λ (h : (left ≡ list.Write ∷ _) × (part ≡ i) × (i + 1 < r)). record { todo = list.Write; more = _; is = h.0; opened = λ first second. refl })
    (λ (h : (left ≡ list.Enable ∷ _) × (r ≤ i + 1)). record { todo = list.Enable; more = _; is = h.0; opened = λ first second. refl })
    place
next_left n r behind snoops arrivals left part Arrived2 ahead place late = ⊎_elim
    (λ (h : left ≡ list.Wait 1 n ∷ list.Release ∷ behind). record { todo = list.Wait 1 n; more = _; is = h; opened = λ first second. le-leb n (arrived_at arrivals 1) (second refl) })
    (λ (h : (left ≡ list.Release ∷ behind) × (n ≤ arrived_at arrivals 1)). record { todo = list.Release; more = _; is = h.0; opened = λ first second. refl })
    place
next_left n r behind snoops arrivals left part Flushed ahead place late = record { todo = list.ClearPge; more = _; is = place; opened = λ first second. refl }
next_left n r behind snoops arrivals left part TlbFlushed ahead place late = record { todo = list.ClearE; more = _; is = place; opened = λ first second. refl }
next_left n r behind snoops arrivals left part Enabled ahead place late = record { todo = list.Wbinvd; more = _; is = place; opened = λ first second. refl }
next_left n r behind snoops arrivals left part Flushed2 ahead place late = record { todo = list.ReloadCr3; more = _; is = place; opened = λ first second. refl }
next_left n r behind snoops arrivals left part TlbFlushed2 ahead place late = record { todo = list.ClearCd; more = _; is = place; opened = λ first second. refl }
next_left n r behind snoops arrivals left part Normal ahead place late = record { todo = list.RestorePge; more = _; is = place; opened = λ first second. refl }
next_left n r behind snoops arrivals left part Restored ahead place late = record { todo = list.Arrive 1; more = _; is = place; opened = λ first second. refl }

-- a processor that has released has instructions left, or none
released_left : (n r : ℕ) (behind : List ProcedureStep) (snoops : Bool) (arrivals : List ℕ) (left : List ProcedureStep) (part : ℕ) (ph : Phase) (ahead : Bool) → ahead ≡ true → (is_running ph ≡ false → ahead ≡ false)
    → IsPlace n r behind snoops (arrived_at arrivals 1) ph ahead left part → (left ≡ []) ⊎ Open arrivals left
released_left n r behind snoops arrivals left part Running true is in_step place = instructions_left place.0 place.1 place.2
  where
    instructions_left : (ts : List ProcedureStep) → All IsInstruction ts → left ≡ ts → (left ≡ []) ⊎ Open arrivals left
    instructions_left [] fit e = inl e
    instructions_left (t ∷ ts) fit e = inr (record { todo = t; more = ts; is = e; opened = instruction_open arrivals t (All-head IsInstruction t ts fit) })
released_left n r behind snoops arrivals left part Running false is in_step place = absurd (cc)
released_left n r behind snoops arrivals left part other ahead is in_step place = absurd (let no : ahead ≡ false = in_step refl in cc)

module _ (c : Case) (first : State) (start : IsStart (at_rest c first)) (few : length first.processors ≤ 64) (s : State) (st : Stands c first s) where
  lines_low : (k : ℕ) (p : Processor) → slice_get s.processors k ≡ Some p → list_all (λ (l : CacheLine). nat_lt l.number (2 ^ 46)) p.lines ≡ true
  lines_low k p at =
      let f = st.holds.since k p at in
      let was : IsProcessor f.0 = all_get IsProcessor first.processors (start_sound (at_rest c first) start).each k f.0 f.1 in
      all_more (right_line (view p)) (λ l. nat_lt l.number (2 ^ 46))
      (λ l h.
      let page = held_page (view p) (kept_by l.dirty) (page_of l) (page_count f.0.file) f.0.mappings f.2.mappings was.mapped_pages h in
      let pages : page_count f.0.file ≤ 2 ^ 40 = pow_mono {i = f.0.file.width - 12} {j = 40} (let narrow = was.register_file.narrow in omega (arith, narrow)) in
      lt-ltb l.number (2 ^ 46) (omega (arith, page, pages)))
      p.lines f.2.right.right_lines

  era_low : (k : ℕ) (p : Processor) → slice_get s.processors k ≡ Some p → nat_lt p.era (2 ^ 64 - 1) ≡ true
  era_low k p at =
      lt-ltb p.era (2 ^ 64 - 1)
      (⊎_elim (λ (e : p.era ≡ 0). omega (arith, e)) (λ (e : p.era ≡ 0 + 1). omega (arith, e)) (st.holds.guarded.eras k (stage_of p) (stage_at s.processors k p at)))

  fits : (k : ℕ) (p : Processor) → slice_get s.processors k ≡ Some p → is_fit c.goal p ≡ true
  fits k p at =
      let alike = (st.holds.filed.1 k p at).alike in
      both _ _
      (both _ _
      (both _ _ (eq-eqb c.goal.width p.file.width (sym alike.width)) (eq-eqb c.goal.capabilities p.file.capabilities (sym alike.capabilities)))
      (era_low k p at))
      (lines_low k p at)

  -- a processor with a next step that is open may go
  may : (k : ℕ) (p : Processor) (place : ListPlace) → slice_get s.processors k ≡ Some p → slice_get s.places k ≡ Some place → Open s.arrived (drop place.step (list_of c k)) → may_go c s k ≡ true
  may k p place at here o =
      let place_is : place_of s k ≡ place = get_or_from_slice_get s.places k place (record { step = 0; part = 0 }) here in
      let next : step_at c s k ≡ Some o.todo = ap (λ (x : ListPlace). slice_get (list_of c k) x.step) place_is ∙ some_left (list_of c k) place.step o.todo o.more o.is in
      both (option_map_or (is_fit c.goal) (slice_get s.processors k) false) _
      (ap (λ (x : Option Processor). option_map_or (is_fit c.goal) x false) at ∙ fits k p at)
      (ap (λ (x : Option ProcedureStep). option_map_or (is_open s.arrived) x false) next ∙ o.opened)

  -- so a processor goes on that hasn't released, if the barriers at which it may stand are open
  on : (k : ℕ) (x : Stage) → At (stages_of s.processors) k x → (x.0 ≡ Running → nat_lt 0 x.1 ≡ false) → (x.0 ≡ Arrived → length first.processors ≤ arrived_at s.arrived 0) → (x.0 ≡ Arrived2 → length first.processors ≤ arrived_at s.arrived 1)
      → SomeGoesOn c s
  on k x at late one two =
      let found = processor_at s.processors k x at in
      let p = found.0 in
      let q = placed_at c first start few s st k p found.1 in
      let after =
      next_left (length first.processors) (length (writable c.goal)) q.0.behind p.self_snoop s.arrived (drop q.0.place.step (list_of c k)) q.0.place.part p.phase (nat_lt 0 p.era) q.1
      (subst (λ (y : Stage). y.0 ≡ Running → nat_lt 0 y.1 ≡ false) (sym found.2) late) in
      let opens : Open s.arrived (drop q.0.place.step (list_of c k)) =
      record {
        todo = after.todo;
        more = after.more;
        is = after.is;
        opened = after.opened
            (subst (λ (y : Stage). y.0 ≡ Arrived → length first.processors ≤ arrived_at s.arrived 0) (sym found.2) one)
            (subst (λ (y : Stage). y.0 ≡ Arrived2 → length first.processors ≤ arrived_at s.arrived 1) (sym found.2) two);
      } in
      (k, may k p q.0.place found.1 q.0.here opens)

  all_at_first : list_all (arrived (order_of c)) (stages_of s.processors) ≡ true → length first.processors ≤ arrived_at s.arrived 0
  all_at_first all =
      let is : arrived_at s.arrived 0 ≡ count_by (arrived (order_of c)) (stages_of s.processors) = ap (λ (xs : List ℕ). arrived_at xs 0) st.counts.1 in
      let full = all_count (arrived (order_of c)) (stages_of s.processors) all in
      let long = st.long in
      omega (arith, is, full, long)

  all_at_second : list_all (again (order_of c)) (stages_of s.processors) ≡ true → length first.processors ≤ arrived_at s.arrived 1
  all_at_second all =
      let is : arrived_at s.arrived 1 ≡ count_by (again (order_of c)) (stages_of s.processors) = ap (λ (xs : List ℕ). arrived_at xs 1) st.counts.1 in
      let full = all_count (again (order_of c)) (stages_of s.processors) all in
      let long = st.long in
      omega (arith, is, full, long)

  -- once each processor has released, each has ended or goes on
  one_ended : list_all (is_ahead (order_of c)) (stages_of s.processors) ≡ true → (k : ℕ) → k < length s.processors → (step_at c s k ≡ None) ⊎ SomeGoesOn c s
  one_ended all k within =
      let p = get_or s.processors k (start_processor c.goal) in
      let at : slice_get s.processors k ≡ Some p = slice_get-get_or s.processors k (start_processor c.goal) within in
      let here = stage_at s.processors k p at in
      let q = placed_at c first start few s st k p at in
      let place_is : place_of s k ≡ q.0.place = get_or_from_slice_get s.places k q.0.place (record { step = 0; part = 0 }) q.0.here in
      ⊎_elim
      (λ (left : drop q.0.place.step (list_of c k) ≡ []). inl (ap (λ (x : ListPlace). slice_get (list_of c k) x.step) place_is ∙ none_left (list_of c k) q.0.place.step left))
      (λ (opens : Open s.arrived (drop q.0.place.step (list_of c k))). let g : SomeGoesOn c s = (k, may k p q.0.place at q.0.here opens) in inr g)
      (released_left (length first.processors) (length (writable c.goal)) q.0.behind p.self_snoop s.arrived (drop q.0.place.step (list_of c k)) q.0.place.part p.phase (nat_lt 0 p.era)
      (passes_at (is_ahead (order_of c)) (stages_of s.processors) k (stage_of p) all here) (st.holds.guarded.in_step k (stage_of p) here) q.1)

  abbrev AreEnded : ℕ → Type 0
  AreEnded n = (k : ℕ) → k < n → step_at c s k ≡ None

  up_to : (n : ℕ) → AreEnded n → step_at c s n ≡ None → AreEnded (suc n)
  up_to n ended last k within = one (nat_lt k n) refl
    where
      one : (b : Bool) → nat_lt k n ≡ b → step_at c s k ≡ None
      one true is = ended k (ltb-true k n is)
      one false is = let above = ltb-false k n is in let same : k ≡ n = omega (arith, above, within) in ap (step_at c s) same ∙ last

  all_ended : list_all (is_ahead (order_of c)) (stages_of s.processors) ≡ true → (n : ℕ) → n ≤ length s.processors → AreEnded n ⊎ SomeGoesOn c s
  all_ended all zero within = inl (λ k none. absurd (omega (arith, none)))
  all_ended all (suc n) within = ⊎_elim
      (λ (ended : AreEnded n). ⊎_elim
      (λ (last : step_at c s n ≡ None). inl (up_to n ended last))
      (λ (g : SomeGoesOn c s). inr g)
      (one_ended all n (omega (arith, within))))
      (λ (g : SomeGoesOn c s). inr g)
      (all_ended all n (omega (arith, within)))

  abbrev Missing : (Stage → Bool) → Type 0
  Missing q = (i : ℕ) × (x : Stage) × At (stages_of s.processors) i x × (q x ≡ false)

  pub progress : IsEnded c s ⊎ SomeGoesOn c s
  progress = ⊎_elim one_missing (λ (m : Missing (arrived (order_of c))). inr (on_first m)) (all_or_one (arrived (order_of c)) (stages_of s.processors))
    where
      on_first : Missing (arrived (order_of c)) → SomeGoesOn c s
      on_first m =
          let rest = or_right (is_arrived m.1.0) _ m.3 in
          let no_second : is_arrived_again m.1.0 ≡ false = or_right (is_changing m.1.0) _ (or_left _ (nat_lt 0 m.1.1) rest) in
          let no_first : is_arrived m.1.0 ≡ false = or_left (is_arrived m.1.0) _ m.3 in
          on m.0 m.1 m.2 (λ e. or_right _ (nat_lt 0 m.1.1) rest)
          (λ e. absurd (let yes_first : is_arrived m.1.0 ≡ true = ap is_arrived e in cc))
          (λ e. absurd (let yes_second : is_arrived_again m.1.0 ≡ true = ap is_arrived_again e in cc))

      on_second : list_all (arrived (order_of c)) (stages_of s.processors) ≡ true → Missing (again (order_of c)) → SomeGoesOn c s
      on_second all m =
          let no_second : is_arrived_again m.1.0 ≡ false = or_left (is_arrived_again m.1.0) _ m.3 in
          on m.0 m.1 m.2 (λ e. or_right (is_arrived_again m.1.0) _ m.3) (λ e. all_at_first all)
          (λ e. absurd (let yes_second : is_arrived_again m.1.0 ≡ true = ap is_arrived_again e in cc))

      none_missing : list_all (arrived (order_of c)) (stages_of s.processors) ≡ true → list_all (again (order_of c)) (stages_of s.processors) ≡ true → IsEnded c s ⊎ SomeGoesOn c s
      none_missing all all' = ⊎_elim
          (λ (released : list_all (is_ahead (order_of c)) (stages_of s.processors) ≡ true). all_ended released (length s.processors) (omega arith))
          (λ (m : Missing (is_ahead (order_of c))). inr (on m.0 m.1 m.2 (λ e. m.3) (λ e. all_at_first all) (λ e. all_at_second all')))
          (all_or_one (is_ahead (order_of c)) (stages_of s.processors))

      one_missing : list_all (arrived (order_of c)) (stages_of s.processors) ≡ true → IsEnded c s ⊎ SomeGoesOn c s
      one_missing all = ⊎_elim (none_missing all) (λ (m : Missing (again (order_of c))). inr (on_second all m)) (all_or_one (again (order_of c)) (stages_of s.processors))

  -- no list ends in the midst of the update
  pub finished : AreListsFinished c s
  finished k within =
      let p = get_or s.processors k (start_processor c.goal) in
      let at : slice_get s.processors k ≡ Some p = slice_get-get_or s.processors k (start_processor c.goal) within in
      let q = placed_at c first start few s st k p at in
      ap (λ (x : Option Processor). is_none (step_at c s k) && not (is_running (option_map_or (λ y. y.phase) x Running))) at ∙ one p q.0 q.1 (is_running p.phase) refl
    where
      one : (p : Processor) (q : PlaceOf c first s k (stage_of p))
          → IsPlace (length first.processors) (length (writable c.goal)) q.behind p.self_snoop (arrived_at s.arrived 1) p.phase (nat_lt 0 p.era) (drop q.place.step (list_of c k)) q.place.part
          → (b : Bool) → is_running p.phase ≡ b → (is_none (step_at c s k) && not b) ≡ false
      one p q place true runs = and-false (is_none (step_at c s k))
      one p q place false still =
          let after =
          next_left (length first.processors) (length (writable c.goal)) q.behind p.self_snoop s.arrived (drop q.place.step (list_of c k)) q.place.part p.phase (nat_lt 0 p.era) place
          (λ e. absurd (let runs : is_running p.phase ≡ true = ap is_running e in cc)) in
          let place_is : place_of s k ≡ q.place = get_or_from_slice_get s.places k q.place (record { step = 0; part = 0 }) q.here in
          let next : step_at c s k ≡ Some after.todo = ap (λ (x : ListPlace). slice_get (list_of c k) x.step) place_is ∙ some_left (list_of c k) q.place.step after.todo after.more after.is in
          ap (λ (x : Option ProcedureStep). is_none x && true) next
