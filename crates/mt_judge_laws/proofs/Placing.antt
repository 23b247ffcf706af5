-- Where a processor is in its list, by its phase, and which step is next there.
use Rattle.std.proofs.Common.{◌≡◌, ◌⊎◌, ◌∙◌, ap, refl, sym, subst, inl, inr, ⊎_elim, arith, ℕ, zero, suc, ◌+◌, ◌<◌, ◌≤◌, Bool, true, false, List, [], ◌∷◌, ◌++◌, drop, length, None, Some}
use Rattle.std.specs.Prelude.{◌==◌, ◌&&◌, if◌then◌else◌, nat_lt, slice_get}
use Rattle.std.specs.List.{All, list_all}
use Rattle.std.proofs.lemmas.Bool.{eq-eqb, le-ltb, leb-true, lt-ltb, ltb-false, ltb-true}
use Rattle.std.proofs.lemmas.List.{length-append}
use Rattle.std.proofs.lemmas.List.Elements.{All-head, All-tail}
use Rattle.mt_regs.specs.RegisterFile.{RegisterFile, has_fixed, pair_count}
use Rattle.mt_regs.specs.Registers.{fixed_registers, pair_registers, writable}
use Rattle.mt_regs.specs.declared.registers.Register.{Register}
use Rattle.mt_regs.specs.declared.registers.Register.TheVariants.{DefaultType, Pat}
use Rattle.mt_machine.specs.declared.event.Event.{Event}
use Rattle.mt_machine.specs.declared.event.Event.TheVariants.{Take, Arrive, Leave, Pass, SetNoFill, FlushTlb, Disable, Write, Enable, SetNormal, RestorePge, ArriveAgain, Release}
use Rattle.mt_machine.specs.declared.phase.Phase.{Phase}
use Rattle.mt_machine.specs.declared.phase.Phase.TheVariants.{Running, Taken, Arrived, Passed, NoFill, Flushed, TlbFlushed, Writing, Enabled, Flushed2, TlbFlushed2, Normal, Restored, Arrived2}
use Rattle.mt_machine.specs.Machine.{after_drop, after_flush, due, has_arrived, has_arrived_again, write_back_or_drop}
use Rattle.mt_machine.specs.System.{Processor}
use Rattle.mt_machine.proofs.Rows.{back_case}
use Rattle.mt_procedure.specs.declared.moves.Outcome.{Outcome}
use Rattle.mt_procedure.specs.declared.step.ListPlace.{ListPlace}
use Rattle.mt_procedure.specs.declared.step.ProcedureStep.{ProcedureStep}
use Rattle.mt_procedure.specs.declared.step.ProcedureStep.TheVariants as list
use Rattle.mt_procedure.specs.Runs.{arrived_at, counted, is_open, place_after, procedure_order, step_behind}
use Rattle.mt_procedure.specs.Steps.{arrival, clearing, event_of, passage, reloading}
use Rattle.mt_search.specs.Wrongs.{fault_with}
use Rattle.mt_judge_laws.specs.Manual.{IsInstruction, first_flush, manual_list, since_flush}
use Rattle.mt_judge_laws.proofs.Counting.{era_after, first_after, phase_after, second_after}

-- ---- what is left of a list

head_left : {X : Type 0} → (xs : List X) (i : ℕ) (x y : X) (more : List X) → drop i xs ≡ x ∷ more → slice_get xs i ≡ Some y → x ≡ y
head_left [] zero x y more left at = absurd (cc)
head_left [] (suc i) x y more left at = absurd (cc)
head_left (z ∷ xs) zero x y more left at = cc
head_left (z ∷ xs) (suc i) x y more left at = head_left xs i x y more left at

tail_of_suc : {X : Type 0} → (xs : List X) (i : ℕ) (x : X) (more : List X) → drop i xs ≡ x ∷ more → drop (suc i) xs ≡ more
tail_of_suc [] zero x more left = absurd (cc)
tail_of_suc [] (suc i) x more left = absurd (cc)
tail_of_suc (z ∷ xs) zero x more left = cc
tail_of_suc (z ∷ xs) (suc i) x more left = tail_of_suc xs i x more left

tail_left : {X : Type 0} → (xs : List X) (i : ℕ) (x : X) (more : List X) → drop i xs ≡ x ∷ more → drop (i + 1) xs ≡ more
tail_left xs i x more left =
    let next : i + 1 ≡ suc i = omega arith in
    ap (λ (j : ℕ). drop j xs) next ∙ tail_of_suc xs i x more left

pub none_left : {X : Type 0} → (xs : List X) (i : ℕ) → drop i xs ≡ [] → slice_get xs i ≡ None
none_left [] zero left = refl
none_left [] (suc i) left = refl
none_left (z ∷ xs) zero left = absurd (cc)
none_left (z ∷ xs) (suc i) left = none_left xs i left

pub some_left : {X : Type 0} → (xs : List X) (i : ℕ) (x : X) (more : List X) → drop i xs ≡ x ∷ more → slice_get xs i ≡ Some x
some_left [] zero x more left = absurd (cc)
some_left [] (suc i) x more left = absurd (cc)
some_left (z ∷ xs) zero x more left = ap Some (let e : z ≡ x = cc in e)
some_left (z ∷ xs) (suc i) x more left = some_left xs i x more left

pub two_at_least : (goal : RegisterFile) → 1 < length (writable goal)
two_at_least goal = long (pair_registers 0 (pair_count goal)) (if has_fixed goal then fixed_registers else [])
  where
    long : (xs ys : List Register) → 1 < length (xs ++ ys ++ Pat ∷ DefaultType ∷ [])
    long xs ys = omega (arith, length-append (xs ++ ys) (Pat ∷ DefaultType ∷ []))

-- ---- the steps that are left, by the phase

abbrev pub since_write : ℕ → List ProcedureStep
since_write n =
    list.Enable ∷ list.Wbinvd ∷ list.ReloadCr3 ∷ list.ClearCd ∷ list.RestorePge ∷ list.Arrive 1 ∷ list.Wait 1 n ∷ list.Release ∷ []

-- so many processors wait for each other, and so many registers are written
module _ (n r : ℕ) (behind : List ProcedureStep) (snoops : Bool) where
  -- so many have arrived at the second barrier
  abbrev pub IsPlace : ℕ → Phase → Bool → List ProcedureStep → ℕ → Type 0
  IsPlace count Running true left part = (ops : List ProcedureStep) × All IsInstruction ops × (left ≡ ops)
  IsPlace count Running false left part = (ops : List ProcedureStep) × All IsInstruction ops × (left ≡ ops ++ (manual_list n snoops ++ behind))
  IsPlace count Taken ahead left part = left ≡ list.Arrive 0 ∷ list.Wait 0 n ∷ list.SetCd ∷ ((first_flush snoops ++ since_flush n) ++ behind)
  IsPlace count Arrived ahead left part = left ≡ list.Wait 0 n ∷ list.SetCd ∷ ((first_flush snoops ++ since_flush n) ++ behind)
  IsPlace count Passed ahead left part = left ≡ list.SetCd ∷ ((first_flush snoops ++ since_flush n) ++ behind)
  IsPlace count NoFill ahead left part = left ≡ (first_flush snoops ++ since_flush n) ++ behind
  IsPlace count Flushed ahead left part = left ≡ since_flush n ++ behind
  IsPlace count TlbFlushed ahead left part = left ≡ list.ClearE ∷ list.Write ∷ (since_write n ++ behind)
  IsPlace count (Writing i) ahead left part = ((left ≡ list.Write ∷ (since_write n ++ behind)) × (part ≡ i) × (i + 1 < r)) ⊎ ((left ≡ since_write n ++ behind) × (r ≤ i + 1))
  IsPlace count Enabled ahead left part = left ≡ list.Wbinvd ∷ list.ReloadCr3 ∷ list.ClearCd ∷ list.RestorePge ∷ list.Arrive 1 ∷ list.Wait 1 n ∷ list.Release ∷ behind
  IsPlace count Flushed2 ahead left part = left ≡ list.ReloadCr3 ∷ list.ClearCd ∷ list.RestorePge ∷ list.Arrive 1 ∷ list.Wait 1 n ∷ list.Release ∷ behind
  IsPlace count TlbFlushed2 ahead left part = left ≡ list.ClearCd ∷ list.RestorePge ∷ list.Arrive 1 ∷ list.Wait 1 n ∷ list.Release ∷ behind
  IsPlace count Normal ahead left part = left ≡ list.RestorePge ∷ list.Arrive 1 ∷ list.Wait 1 n ∷ list.Release ∷ behind
  IsPlace count Restored ahead left part = left ≡ list.Arrive 1 ∷ list.Wait 1 n ∷ list.Release ∷ behind
  IsPlace count Arrived2 ahead left part = (left ≡ list.Wait 1 n ∷ list.Release ∷ behind) ⊎ ((left ≡ list.Release ∷ behind) × (n ≤ count))

  pub place_up : (a b : ℕ) → a ≤ b → (ph : Phase) (ahead : Bool) (left : List ProcedureStep) (part : ℕ) → IsPlace a ph ahead left part → IsPlace b ph ahead left part
  place_up a b up Running true left part h = h
  place_up a b up Running false left part h = h
  place_up a b up Arrived2 ahead left part h = ⊎_elim
      (λ (e : left ≡ list.Wait 1 n ∷ list.Release ∷ behind). inl e)
      (λ (e : (left ≡ list.Release ∷ behind) × (n ≤ a)). inr (e.0, let low = e.1 in omega (arith, low, up)))
      h
  place_up a b up other ahead left part h = h

-- ---- the next step

module _ (goal : RegisterFile) (ps : List Processor) (n r : ℕ) (behind : List ProcedureStep) (steps : List ProcedureStep) (at : ListPlace) (p : Processor) (arrivals : List ℕ) where
  abbrev pub IsPlaceAt : Phase → Bool → ListPlace → Type 0
  IsPlaceAt ph ahead place = IsPlace n r behind p.self_snoop (arrived_at arrivals 1) ph ahead (drop place.step steps) place.part

  -- the step is an event, which is due
  pub record Turn (t : ProcedureStep) : Type 0 where
    pub event : Event
    pub is : event_of t at.part p ≡ Some event
    pub due_is : due (procedure_order goal) ps p p.phase ≡ Some event
    pub stays : event ≡ Leave → ⊥
    pub counts : (a b : ℕ) (xs : List ℕ) → counted t (a ∷ b ∷ xs) ≡ first_after event a ∷ second_after event b ∷ xs
    pub right : (k : ℕ) (outcome : Outcome) (q : Processor) → fault_with k t outcome q ≡ None
    pub place : IsPlaceAt (phase_after event p.phase) (nat_lt 0 (era_after event p.era)) (place_after at t (Some event) r)

  -- the step is the wait at the second barrier, which is no event
  pub record Waits (t : ProcedureStep) : Type 0 where
    pub is : t ≡ list.Wait 1 n
    pub phase : p.phase ≡ Arrived2
    pub left : drop (at.step + 1) steps ≡ list.Release ∷ behind
    pub full : n ≤ arrived_at arrivals 1

  -- the step is an instruction of a processor that runs
  pub record Instructs (t : ProcedureStep) : Type 0 where
    pub fit : IsInstruction t
    pub phase : p.phase ≡ Running
    pub place : IsPlaceAt Running (nat_lt 0 p.era) (step_behind at)

module _ (goal : RegisterFile) (ps : List Processor) (n r : ℕ) (behind : List ProcedureStep) (fit_behind : All IsInstruction behind) (steps : List ProcedureStep) (at : ListPlace) (p : Processor) (todo : ProcedureStep) (arrivals : List ℕ)
    (next : slice_get steps at.step ≡ Some todo) (registers : length (writable p.file) ≡ r) (some : 1 < r) (opened : is_open arrivals todo ≡ true)
    (first_open : n ≤ arrived_at arrivals 0 → list_all (has_arrived (procedure_order goal)) ps ≡ true)
    (second_open : n ≤ arrived_at arrivals 1 → list_all (has_arrived_again (procedure_order goal)) ps ≡ true)
    (later : nat_lt 0 (p.era + 1) ≡ true) where
  abbrev PlaceAt : Phase → Bool → ListPlace → Type 0
  PlaceAt ph ahead place = IsPlaceAt goal ps n r behind steps at p arrivals ph ahead place

  abbrev After : ProcedureStep → Event → Type 0
  After t e = PlaceAt (phase_after e p.phase) (nat_lt 0 (era_after e p.era)) (place_after at t (Some e) r)

  abbrev TurnFor : ProcedureStep → Type 0
  TurnFor t = Turn goal ps n r behind steps at p arrivals t

  abbrev WaitsFor : Type 0
  WaitsFor = Waits goal ps n r behind steps at p arrivals todo

  abbrev InstructsFor : Type 0
  InstructsFor = Instructs goal ps n r behind steps at p arrivals todo

  abbrev IsLeft : List ProcedureStep → Type 0
  IsLeft left = drop at.step steps ≡ left

  abbrev IsDueNow : Event → Type 0
  IsDueNow e = due (procedure_order goal) ps p p.phase ≡ Some e

  -- a step that is done at once, and adds to no count
  plain : (t : ProcedureStep) (e : Event) (more : List ProcedureStep) → IsLeft (t ∷ more) → event_of t at.part p ≡ Some e → IsDueNow e → (e ≡ Leave → ⊥)
      → ((a b : ℕ) (xs : List ℕ) → counted t (a ∷ b ∷ xs) ≡ first_after e a ∷ second_after e b ∷ xs) → ((k : ℕ) (outcome : Outcome) (q : Processor) → fault_with k t outcome q ≡ None)
      → (drop (at.step + 1) steps ≡ more → After t e) → TurnFor todo
  plain t e more left is due_is stays counts right place =
      subst TurnFor (head_left steps at.step t todo more left next)
      (record { event = e; is = is; due_is = due_is; stays = stays; counts = counts; right = right; place = place (tail_left steps at.step t more left) })

  drains : (ph : Phase) (more : List ProcedureStep) → p.phase ≡ ph → IsLeft (list.Wbinvd ∷ more) → IsDueNow (write_back_or_drop p)
      → PlaceAt ph (nat_lt 0 p.era) at → (drop (at.step + 1) steps ≡ more → PlaceAt (after_drop ph) (nat_lt 0 p.era) (step_behind at)) → TurnFor todo
  drains ph more same left due_is here behind =
      let dropped = behind (tail_left steps at.step list.Wbinvd more left) in
      subst TurnFor (head_left steps at.step list.Wbinvd todo more left next)
      (record {
        event = write_back_or_drop p;
        is = refl;
        due_is = due_is;
        stays = back_case (λ (e : Event). e ≡ Leave → ⊥) p (λ a v h. absurd (cc)) (λ h. absurd (cc));
        counts = λ a b xs. back_case (λ (e : Event). (a ∷ b ∷ xs) ≡ first_after e a ∷ second_after e b ∷ xs) p (λ x v. refl) refl;
        right = λ k outcome q. refl;
        place = back_case (After list.Wbinvd) p
            (λ a v. subst (λ (u : Phase). PlaceAt u (nat_lt 0 p.era) at) (sym same) here)
            (subst (λ (u : Phase). PlaceAt (after_drop u) (nat_lt 0 p.era) (step_behind at)) (sym same) dropped);
      })

  flushes : (t : ProcedureStep) (ph : Phase) (more : List ProcedureStep) → p.phase ≡ ph → IsLeft (t ∷ more) → event_of t at.part p ≡ Some FlushTlb → IsDueNow FlushTlb
      → ((a b : ℕ) (xs : List ℕ) → counted t (a ∷ b ∷ xs) ≡ a ∷ b ∷ xs) → ((k : ℕ) (outcome : Outcome) (q : Processor) → fault_with k t outcome q ≡ None)
      → place_after at t (Some FlushTlb) r ≡ step_behind at → (drop (at.step + 1) steps ≡ more → PlaceAt (after_flush ph) (nat_lt 0 p.era) (step_behind at)) → TurnFor todo
  flushes t ph more same left is due_is counts right place behind =
      plain t FlushTlb more left is due_is (λ h. absurd (cc)) counts right
      (λ tail. subst (PlaceAt (after_flush p.phase) (nat_lt 0 p.era)) (sym place)
      (subst (λ (u : Phase). PlaceAt (after_flush u) (nat_lt 0 p.era) (step_behind at)) (sym same) (behind tail)))

  no_fill : (b : Bool) → p.self_snoop ≡ b → p.phase ≡ NoFill → IsLeft ((first_flush b ++ since_flush n) ++ behind) → PlaceAt NoFill (nat_lt 0 p.era) at → TurnFor todo
  no_fill true is same left here =
      flushes list.ClearPge NoFill _ same left (ap clearing same)
      (ap (due (procedure_order goal) ps p) same ∙ ap (λ (b : Bool). Some (if b then FlushTlb else write_back_or_drop p)) is)
      (λ a b xs. refl) (λ k outcome q. refl) refl (λ tail. tail)
  no_fill false is same left here =
      drains NoFill _ same left
      (ap (due (procedure_order goal) ps p) same ∙ ap (λ (b : Bool). Some (if b then FlushTlb else write_back_or_drop p)) is)
      here (λ tail. tail)

  starts : p.phase ≡ Running → nat_lt 0 p.era ≡ false → IsLeft (manual_list n p.self_snoop ++ behind) → TurnFor todo
  starts same behind left =
      let low = ltb-false 0 p.era behind in
      let zeroth : (p.era == 0) ≡ true = eq-eqb p.era 0 (omega (arith, low)) in
      plain list.Take Take _ left refl
      (ap (due (procedure_order goal) ps p) same ∙ ap (λ (b : Bool). if b && true then Some Take else None) zeroth)
      (λ h. absurd (cc)) (λ a b xs. refl) (λ k outcome q. refl) (λ tail. tail)

  passes : p.phase ≡ Arrived → IsLeft (list.Wait 0 n ∷ list.SetCd ∷ ((first_flush p.self_snoop ++ since_flush n) ++ behind)) → TurnFor todo
  passes same left =
      let is = head_left steps at.step (list.Wait 0 n) todo _ left next in
      let full : n ≤ arrived_at arrivals 0 = leb-true n (arrived_at arrivals 0) (ap (is_open arrivals) is ∙ opened) in
      plain (list.Wait 0 n) Pass _ left (ap passage same)
      (ap (due (procedure_order goal) ps p) same ∙ ap (λ (b : Bool). if b && true then Some Pass else None) (first_open full))
      (λ h. absurd (cc)) (λ a b xs. refl) (λ k outcome q. refl) (λ tail. tail)

  writes : (i : ℕ) → p.phase ≡ Writing i → IsLeft (list.Write ∷ (since_write n ++ behind)) → at.part ≡ i → i + 1 < r → TurnFor todo
  writes i same left part more =
      let within : nat_lt (i + 1) (length (writable p.file)) ≡ true = lt-ltb (i + 1) (length (writable p.file)) (omega (arith, more, registers)) in
      plain list.Write (Write at.part) _ left refl
      (ap (due (procedure_order goal) ps p) same ∙ ap (λ (b : Bool). Some (if b then Write i else Enable)) within ∙ ap (λ (j : ℕ). Some (Write j)) (sym part))
      (λ h. absurd (cc)) (λ a b xs. refl) (λ k outcome q. refl) (λ tail. one tail (nat_lt (at.part + 2) r) refl)
    where
      one : drop (at.step + 1) steps ≡ since_write n ++ behind → (b : Bool) → nat_lt (at.part + 2) r ≡ b
          → PlaceAt (Writing (at.part + 1)) (nat_lt 0 p.era) (if b then record at { part = at.part + 1 } else step_behind at)
      one tail true is = let below = ltb-true (at.part + 2) r is in inl (left, refl, omega (arith, below))
      one tail false is = let above = ltb-false (at.part + 2) r is in inr (tail, omega (arith, above))

  enables : (i : ℕ) → p.phase ≡ Writing i → IsLeft (since_write n ++ behind) → r ≤ i + 1 → TurnFor todo
  enables i same left last =
      let past : nat_lt (i + 1) (length (writable p.file)) ≡ false = le-ltb (i + 1) (length (writable p.file)) (omega (arith, last, registers)) in
      plain list.Enable Enable _ left refl
      (ap (due (procedure_order goal) ps p) same ∙ ap (λ (b : Bool). Some (if b then Write i else Enable)) past)
      (λ h. absurd (cc)) (λ a b xs. refl) (λ k outcome q. refl) (λ tail. tail)

  releases : p.phase ≡ Arrived2 → IsLeft (list.Release ∷ behind) → n ≤ arrived_at arrivals 1 → TurnFor todo
  releases same left full =
      plain list.Release Release _ left refl
      (ap (due (procedure_order goal) ps p) same ∙ ap (λ (b : Bool). if b then Some Release else None) (second_open full))
      (λ h. absurd (cc)) (λ a b xs. refl) (λ k outcome q. refl)
      (λ tail. subst (λ (b : Bool). PlaceAt Running b (step_behind at)) (sym later) (behind, fit_behind, tail))

  waits : p.phase ≡ Arrived2 → IsLeft (list.Wait 1 n ∷ list.Release ∷ behind) → WaitsFor
  waits same left =
      let is = head_left steps at.step (list.Wait 1 n) todo _ left next in
      record {
        is = sym is;
        phase = same;
        left = tail_left steps at.step (list.Wait 1 n) _ left;
        full = leb-true n (arrived_at arrivals 1) (ap (is_open arrivals) is ∙ opened);
      }

  instructs : (t : ProcedureStep) (ts more : List ProcedureStep) (ahead : Bool) → All IsInstruction (t ∷ ts) → IsLeft (t ∷ more) → p.phase ≡ Running → nat_lt 0 p.era ≡ ahead
      → (drop (at.step + 1) steps ≡ more → All IsInstruction ts → PlaceAt Running ahead (step_behind at)) → InstructsFor
  instructs t ts more ahead fit left same is place = record {
    fit = subst IsInstruction (head_left steps at.step t todo more left next) (All-head IsInstruction t ts fit);
    phase = same;
    place = subst (λ (b : Bool). PlaceAt Running b (step_behind at)) (sym is) (place (tail_left steps at.step t more left) (All-tail IsInstruction t ts fit));
  }

  before : (ts : List ProcedureStep) → All IsInstruction ts → IsLeft (ts ++ (manual_list n p.self_snoop ++ behind)) → p.phase ≡ Running → nat_lt 0 p.era ≡ false → TurnFor todo ⊎ (WaitsFor ⊎ InstructsFor)
  before [] fit left same is = inl (starts same is left)
  before (t ∷ ts) fit left same is = inr (inr (instructs t ts _ false fit left same is (λ tail fits. (ts, fits, tail))))

  after_release : (ts : List ProcedureStep) → All IsInstruction ts → IsLeft ts → p.phase ≡ Running → nat_lt 0 p.era ≡ true → TurnFor todo ⊎ (WaitsFor ⊎ InstructsFor)
  after_release [] fit left same is = absurd (let none = none_left steps at.step left in cc)
  after_release (t ∷ ts) fit left same is = inr (inr (instructs t ts ts true fit left same is (λ tail fits. (ts, fits, tail))))

  pub turn : (ph : Phase) (ahead : Bool) → p.phase ≡ ph → nat_lt 0 p.era ≡ ahead → PlaceAt ph ahead at → TurnFor todo ⊎ (WaitsFor ⊎ InstructsFor)
  turn Running true same is place = after_release place.0 place.1 place.2 same is
  turn Running false same is place = before place.0 place.1 place.2 same is
  turn Taken ahead same is place =
      inl (plain (list.Arrive 0) Arrive _ place (ap arrival same) (ap (due (procedure_order goal) ps p) same) (λ h. absurd (cc)) (λ a b xs. refl) (λ k outcome q. refl) (λ tail. tail))
  turn Arrived ahead same is place = inl (passes same place)
  turn Passed ahead same is place =
      inl (plain list.SetCd SetNoFill _ place refl (ap (due (procedure_order goal) ps p) same) (λ h. absurd (cc)) (λ a b xs. refl) (λ k outcome q. refl) (λ tail. tail))
  turn NoFill ahead same is place = inl (no_fill p.self_snoop refl same place place)
  turn Flushed ahead same is place =
      inl (flushes list.ClearPge Flushed _ same place (ap clearing same) (ap (due (procedure_order goal) ps p) same) (λ a b xs. refl) (λ k outcome q. refl) refl (λ tail. tail))
  turn TlbFlushed ahead same is place =
      inl (plain list.ClearE Disable _ place refl (ap (due (procedure_order goal) ps p) same) (λ h. absurd (cc)) (λ a b xs. refl) (λ k outcome q. refl)
      (λ tail. inl (tail, refl, omega (arith, some))))
  turn (Writing i) ahead same is place = inl (⊎_elim
      (λ (h : (drop at.step steps ≡ list.Write ∷ (since_write n ++ behind)) × (at.part ≡ i) × (i + 1 < r)). writes i same h.0 h.1 h.2)
      (λ (h : (drop at.step steps ≡ since_write n ++ behind) × (r ≤ i + 1)). enables i same h.0 h.1)
      place)
  turn Enabled ahead same is place = inl (drains Enabled _ same place (ap (due (procedure_order goal) ps p) same) place (λ tail. tail))
  turn Flushed2 ahead same is place =
      inl (flushes list.ReloadCr3 Flushed2 _ same place (ap (λ (u : Phase). reloading u p.page_global) same) (ap (due (procedure_order goal) ps p) same)
      (λ a b xs. refl) (λ k outcome q. refl) refl (λ tail. tail))
  turn TlbFlushed2 ahead same is place =
      inl (plain list.ClearCd SetNormal _ place refl (ap (due (procedure_order goal) ps p) same) (λ h. absurd (cc)) (λ a b xs. refl) (λ k outcome q. refl) (λ tail. tail))
  turn Normal ahead same is place =
      inl (plain list.RestorePge RestorePge _ place refl (ap (due (procedure_order goal) ps p) same) (λ h. absurd (cc)) (λ a b xs. refl) (λ k outcome q. refl) (λ tail. tail))
  turn Restored ahead same is place =
      inl (plain (list.Arrive 1) ArriveAgain _ place (ap arrival same) (ap (due (procedure_order goal) ps p) same) (λ h. absurd (cc)) (λ a b xs. refl) (λ k outcome q. refl)
      (λ tail. inl tail))
  turn Arrived2 ahead same is place = ⊎_elim
      (λ (left : drop at.step steps ≡ list.Wait 1 n ∷ list.Release ∷ behind). inr (inl (waits same left)))
      (λ (h : (drop at.step steps ≡ list.Release ∷ behind) × (n ≤ arrived_at arrivals 1)). inl (releases same h.0 h.1))
      place
