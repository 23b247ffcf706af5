-- Rounds are events, and from a call in a quiet state they make the whole update.
use Rattle.std.proofs.Common.{◌≡◌, ◌⊎◌, ◌∙◌, ap, sym, refl, subst, arith, eq-eqb, ne_eqb, ℕ, zero, suc, ◌+◌, ◌<◌, ◌≤◌, ⊎_elim, inl, inr, Bool, true, false, List, [], ◌∷◌, ◌++◌, length, Option, None, Some}
use Rattle.std.specs.Prelude.{IsSome, cond, if◌then◌else◌, nat_lt, not, ◌&&◌, ◌==◌}
use Rattle.std.specs.List.{fold, list_all, range_with_len}
use Rattle.std.specs.Option.{option_map_or}
use Rattle.std.proofs.lemmas.Bool.{eqb-false, eqb-true, le-ltb, ltb-false, ltb-true}
use Rattle.std.proofs.lemmas.List.Elements.{filter_map-append}
use Rattle.mt_regs.specs.RegisterFile.{RegisterFile}
use Rattle.mt_machine.specs.declared.event.Event.{Event}
use Rattle.mt_machine.specs.declared.event.Event.TheVariants.{Take}
use Rattle.mt_machine.specs.declared.go.Go.TheVariants.{Given}
use Rattle.mt_machine.specs.System.{Processor}
use Rattle.mt_machine.specs.Machine.{AreEnabled, Calls, Goes, IsEnabled, Machine, MachineEvent, Order, Steps, common_era, due_at, has_released, is_over, next, remaining_order, run}
use Rattle.mt_machine.specs.Start.{IsQuiet}
use Rattle.mt_machine.specs.Update.{is_cancel, is_led, taker, takes_of, updated}
use Rattle.mt_laws.specs.Counts.{IsEachOnce}
use Rattle.mt_laws.specs.Updates.{order_of_call}
use Rattle.mt_laws.proofs.Barrier.Ranks.{all_at, and_left, and_right}
use Rattle.mt_laws.proofs.Barrier.Takes.{mine, takes_once}
use Rattle.mt_laws.proofs.Invariant.Runs.{enabled_join, run_join}
use Rattle.mt_laws.proofs.Steps.StepCounts.{count_append, count_more}
use Rattle.mt_laws.proofs.Updates.ToBroadcast.{Taking, Waiting, all_take, quiet_waiting, takes, takes_taken}
use Rattle.mt_laws.proofs.Updates.Whole.{over_released, whole_update}
use Rattle.mt_core.specs.Rounds.{IsWholeUpdate, Rounds, again, ascending, each_steps, ended, in_order, with_go_given}
use Rattle.mt_core.specs.Steps.{step_after}
use Rattle.mt_core.proofs.Arising.{machine}
use Rattle.mt_core.proofs.Progress.{after_case}

abbrev pub goes_on : MachineEvent → Bool
goes_on e = is_led e && not (is_cancel e)

-- some events lead from the first machine to the second, without access, control, call and cancel
pub record Course (m n : Machine) : Type 0 where
  pub es : List MachineEvent
  pub enabled : AreEnabled m es
  pub leads : run m es ≡ n
  pub led : list_all goes_on es ≡ true

all_join : (xs ys : List MachineEvent) → list_all goes_on xs ≡ true → list_all goes_on ys ≡ true → list_all goes_on (xs ++ ys) ≡ true
all_join [] ys h g = g
all_join (x ∷ xs) ys h g =
    let rest = all_join xs ys (and_right (goes_on x) (list_all goes_on xs) h) g in
    let first = and_left (goes_on x) (list_all goes_on xs) h in
    λ i. first i && rest i

stays : (m : Machine) → Course m m
stays m = record { es = []; enabled = tt; leads = refl; led = refl }

joined : (m n l : Machine) → Course m n → Course n l → Course m l
joined m n l a b = record {
  es = a.es ++ b.es;
  enabled = enabled_join m a.es b.es a.enabled (subst (λ (x : Machine). AreEnabled x b.es) (sym a.leads) b.enabled);
  leads = run_join m a.es b.es ∙ ap (λ (x : Machine). run x b.es) a.leads ∙ b.leads;
  led = all_join a.es b.es a.led b.led;
}

one_course : (m : Machine) (k : ℕ) → Course m (step_after m k)
one_course m k =
    after_case (Course m) m (due_at m k) k refl (λ none. stays m)
    (λ e due. record { es = Steps k e ∷ []; enabled = (due, tt); leads = refl; led = refl })

steps_course : (ks : List ℕ) (m : Machine) → Course m (fold step_after m ks)
steps_course [] m = stays m
steps_course (k ∷ ks) m = joined m (step_after m k) (fold step_after (step_after m k) ks) (one_course m k) (steps_course ks (step_after m k))

pub rounds_course : {m n : Machine} → Rounds m n → Course m n
rounds_course {m} (ended none) = stays m
rounds_course {m} {n} (again some rest) = joined m (each_steps m) n (steps_course (in_order m) m) (rounds_course rest)

pub rounds_end : {m n : Machine} → Rounds m n → n.order ≡ None
rounds_end (ended none) = none
rounds_end (again some rest) = rounds_end rest

pub taken_apart : {m n : Machine} → Rounds m n → ((m.order ≡ None) × (m ≡ n)) ⊎ (IsSome m.order × Rounds (each_steps m) n)
taken_apart (ended none) = inl (none, refl)
taken_apart (again some rest) = inr (some, rest)

-- ---- counts

outside : (len start k : ℕ) → (k < start) ⊎ (start + len ≤ k) → mine k (range_with_len start len) ≡ 0
outside zero start k out = refl
outside (suc len) start k out =
    let apart : start ≡ k → ⊥ = λ g. ⊎_elim (λ (h : k < start). omega arith) (λ (h : start + suc len ≤ k). omega arith) out in
    let further : (k < start + 1) ⊎ (start + 1 + len ≤ k) = ⊎_elim (λ (h : k < start). inl (omega arith)) (λ (h : start + suc len ≤ k). inr (omega arith)) out in
    let none : cond {A = ℕ} (start == k) 1 0 ≡ 0 = ap (λ (b : Bool). cond {A = ℕ} b 1 0) (ne_eqb start k apart) in
    let more = count_more (λ j. j == k) start (range_with_len (start + 1) len) in
    let rest = outside len (start + 1) k further in
    omega arith

inside : (len start k : ℕ) → start ≤ k → k < start + len → mine k (range_with_len start len) ≡ 1
inside zero start k low high = absurd (omega arith)
inside (suc len) start k low high = one (inside len (start + 1) k) (start == k) refl
  where
    one : (start + 1 ≤ k → k < start + 1 + len → mine k (range_with_len (start + 1) len) ≡ 1) → (b : Bool) → (start == k) ≡ b → mine k (range_with_len start (suc len)) ≡ 1
    one later true is =
        let same = eqb-true start k is in
        let some : cond {A = ℕ} (start == k) 1 0 ≡ 1 = ap (λ (b : Bool). cond {A = ℕ} b 1 0) is in
        let more = count_more (λ j. j == k) start (range_with_len (start + 1) len) in
        let rest = outside len (start + 1) k (inl (omega arith)) in
        omega arith
    one later false is =
        let apart = eqb-false start k is in
        let none : cond {A = ℕ} (start == k) 1 0 ≡ 0 = ap (λ (b : Bool). cond {A = ℕ} b 1 0) is in
        let more = count_more (λ j. j == k) start (range_with_len (start + 1) len) in
        let rest = later (omega (arith, low, apart)) (omega arith) in
        omega arith

pub each_once : (count : ℕ) → IsEachOnce count (ascending count)
each_once count k = one (nat_lt k count) refl
  where
    one : (b : Bool) → nat_lt k count ≡ b → mine k (range_with_len 0 count) ≡ (if b then 1 else 0)
    one true is = let low = ltb-true k count is in inside count 0 k (omega arith) (omega arith)
    one false is = let high = ltb-false k count is in outside count 0 k (inr (omega arith))

nothing_more : (count : ℕ) (ks ts : List ℕ) → IsEachOnce count ks → IsEachOnce count (ks ++ ts) → ts ≡ []
nothing_more count ks [] once all = refl
nothing_more count ks (t ∷ ts) once all =
    absurd (let a = once t in
    let b = all t in
    let sum = count_append (λ j. j == t) ks (t ∷ ts) in
    let more = count_more (λ j. j == t) t ts in
    let some : cond {A = ℕ} (t == t) 1 0 ≡ 1 = ap (λ (b : Bool). cond {A = ℕ} b 1 0) (eq-eqb t t refl) in
    let r : ⊥ = omega arith in r)

-- ---- the first turn

takes_led : (ks : List ℕ) → list_all goes_on (takes ks) ≡ true
takes_led [] = refl
takes_led (k ∷ ks) = takes_led ks

as_steps : (ks : List ℕ) (m : Machine) → AreEnabled m (takes ks) → fold step_after m ks ≡ run m (takes ks)
as_steps [] m enabled = refl
as_steps (k ∷ ks) m enabled =
    let taken : step_after m k ≡ next m (Steps k Take) = ap (λ (x : Option Event). option_map_or (λ e. next m (Steps k e)) x m) enabled.0 in
    ap (λ (n : Machine). fold step_after n ks) taken ∙ as_steps ks (next m (Steps k Take)) enabled.1

record TakesFirst (ks : List ℕ) (m n : Machine) : Type 0 where
  rest : List MachineEvent
  enabled : AreEnabled m (takes ks ++ rest)
  leads : run m (takes ks ++ rest) ≡ n
  led : list_all goes_on (takes ks ++ rest) ≡ true

takes_first : (ks : List ℕ) (m n : Machine) → AreEnabled m (takes ks) → Rounds (fold step_after m ks) n → TakesFirst ks m n
takes_first ks m n enabled rounds =
    let later = rounds_course rounds in
    let same = as_steps ks m enabled in
    record {
      rest = later.es;
      enabled = enabled_join m (takes ks) later.es enabled (subst (λ (x : Machine). AreEnabled x later.es) same later.enabled);
      leads = run_join m (takes ks) later.es ∙ ap (λ (x : Machine). run x later.es) (sym same) ∙ later.leads;
      led = all_join (takes ks) later.es (takes_led ks) later.led;
    }

-- ---- the whole update

module _ (s : Machine) (goal : RegisterFile) (quiet : IsQuiet s) (enabled : IsEnabled s (Calls goal)) (n : Machine) where
  abbrev called : Machine
  called = next s (Calls goal)

  abbrev given : Order
  given = record (order_of_call s goal) { go = Given }

  abbrev ready : Machine
  ready = next called Goes

  abbrev ps : List Processor
  ps = s.system.processors

  pub over_empty : (qs : List Processor) → common_era qs ≡ common_era ps → list_all (has_released given) qs ≡ true → length qs ≡ 0
  over_empty [] same all = refl
  over_empty (q ∷ qs) same all =
      absurd (let first : has_released given q ≡ true = all_at (has_released given) (q ∷ qs) 0 q all refl in
      let behind : has_released given q ≡ false = le-ltb (common_era ps) q.era (omega arith) in
      cc)

  none_over : (b : Bool) → (if b then None else Some given) ≡ None → b ≡ true
  none_over true h = refl
  none_over false h = absurd (cc)

  some_stays : (b : Bool) → IsSome (if b then None else Some given) → (if b then None else Some given) ≡ Some given
  some_stays true h = absurd (cc)
  some_stays false h = refl

  -- without processors the go ends the update
  empty : ready.order ≡ None → ready ≡ n → n.order ≡ None → n ≡ updated s.system (in_order s) goal
  empty none is over =
      let zero_count : length ps ≡ 0 = over_empty ps refl (over_released given ps refl (none_over (is_over given ps) none)) in
      let whole : ready ≡ updated s.system [] goal = whole_update s goal (Goes ∷ []) quiet (enabled, (refl, tt)) refl none in
      sym is ∙ whole ∙ ap (λ (count : ℕ). updated s.system (ascending count) goal) (sym zero_count)

  waiting : Waiting given s.system (in_order s)
  waiting =
      let w = quiet_waiting s goal (in_order s) quiet (each_once (length ps)) in
      record { each = w.each; inside = w.inside }

  turns : IsSome ready.order → Rounds (each_steps ready) n → n.order ≡ None → n ≡ updated s.system (in_order s) goal
  turns some rounds over =
      let ks : List ℕ = in_order s in
      let stands : remaining_order given ps ≡ Some given = some_stays (is_over given ps) some in
      let taking : Taking given s.system ks = all_take given refl ks s.system waiting in
      let first : AreEnabled ready (takes ks) = subst (λ (x : Option Order). AreEnabled (machine s.system x) (takes ks)) (sym stands) taking.enabled in
      let t : TakesFirst ks ready n = takes_first ks ready n first rounds in
      let es : List MachineEvent = Goes ∷ (takes ks ++ t.rest) in
      let all : AreEnabled s (Calls goal ∷ es) = (enabled, (refl, t.enabled)) in
      let end : (run s (Calls goal ∷ es)).order ≡ None = ap (λ (m : Machine). m.order) t.leads ∙ over in
      let parts : takes_of es ≡ ks ++ takes_of t.rest = filter_map-append taker (takes ks) t.rest ∙ ap (λ (js : List ℕ). js ++ takes_of t.rest) (takes_taken ks) in
      let once : IsEachOnce (length ps) (ks ++ takes_of t.rest) = subst (IsEachOnce (length ps)) parts (takes_once s goal es quiet all t.led end) in
      let none : takes_of t.rest ≡ [] = nothing_more (length ps) ks (takes_of t.rest) (each_once (length ps)) once in
      let exact : takes_of es ≡ ks = parts ∙ ap (λ (js : List ℕ). ks ++ js) none ∙ no_more ks in
      sym t.leads ∙ whole_update s goal es quiet all t.led end ∙ ap (λ (js : List ℕ). updated s.system js goal) exact
    where
      no_more : (js : List ℕ) → (js ++ []) ≡ js
      no_more [] = refl
      no_more (j ∷ js) = ap (λ (x : List ℕ). j ∷ x) (no_more js)

  whole : Rounds ready n → n ≡ updated s.system (in_order s) goal
  whole rounds =
      let over = rounds_end rounds in
      ⊎_elim
      (λ (h : (ready.order ≡ None) × (ready ≡ n)). empty h.0 h.1 over)
      (λ (h : IsSome ready.order × Rounds (each_steps ready) n). turns h.0 h.1 over)
      (taken_apart rounds)

pub rounds_whole : (m n : Machine) → Rounds (with_go_given m) n → IsWholeUpdate m n
rounds_whole m n rounds s goal quiet enabled is =
    whole s goal quiet enabled n (subst (λ (x : Machine). Rounds (with_go_given x) n) is rounds)
