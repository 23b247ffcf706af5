-- A run that is judged: each part of it is told.
use Rattle.std.proofs.Common.{◌≡◌, ◌∙◌, ap, subst, sym, refl, arith, ℕ, zero, suc, ◌<◌, ◌≤◌, ◌+◌, ◌-◌, Bool, true, false, ◌||◌, List, [], ◌∷◌, ◌++◌, get_or, if◌then◌else◌, length, take, Option, None, Some, append_assoc, append-nil}
use Rattle.std.proofs.Math.Seq.{take-suc}
use Rattle.std.proofs.lemmas.Bool.{ltb-false}
use Rattle.std.specs.Prelude.{◌↔◌, IfSome, IsSomeAnd, is_some, nat_lt, not}
use Rattle.std.specs.Option.{option_map_or}
use Rattle.mt_procedure.specs.Dues.{AreListsFinished, IsDue}
use Rattle.mt_search.specs.Listed.{wrongs_in}
use Rattle.mt_judge.specs.Ordered.{AreRightTurns, AreWhole, IsRightRun, IsWhole, all_rounds, ordered, part_of, round, rounds, steps_below, turn_of}
use Rattle.mt_procedure.specs.Runs.{Case, IsEnded, IsRun, State, may_take, move_in, run, taken}
use Rattle.mt_procedure.specs.declared.turn.Turn.{Turn}
use Rattle.mt_procedure.specs.declared.turn.Turn.TheVariants.{Step}
use Rattle.mt_case.specs.declared.case.Part.{Part}
use Rattle.mt_case.specs.declared.case.Part.TheVariants as part
use Rattle.mt_search.specs.Searches.{has_wrong, is_bad}
use Rattle.mt_judge.specs.Told.{AreTold, AreToldBehind, IsSpeculationNoted, IsStepNoted, IsTold, IsToldOrder, IsToldPart, TellsMove, TellsNoMove, TellsSpeculation, TellsStep}
use Rattle.mt_search.specs.Wrongs.{fault_of}
use Rattle.mt_procedure.specs.declared.moves.Move.{Move}
use Rattle.mt_judge.specs.declared.one_run.JudgedRun.{JudgedRun}
use Rattle.mt_judge.specs.declared.transcript.Told.{Told}
use Rattle.mt_judge.specs.declared.transcript.Told.TheVariants as line
use Rattle.mt_search.specs.declared.wrong.Fault.{Fault}
use Rattle.mt_search.specs.declared.wrong.Wrong.{Wrong}
use Rattle.mt_procedure.proofs.RunLists.{run_behind, runs_behind}

-- ---- flags

pub both_false : (a b : Bool) → (a || b) ≡ false → (a ≡ false) × (b ≡ false)
both_false true b e = absurd (cc)
both_false false b e = (refl, e)

pub false_both : (a b : Bool) → a ≡ false → b ≡ false → (a || b) ≡ false
false_both a b first second = λ i. first i || second i

pub true_of : (b : Bool) → not b ≡ false → b ≡ true
true_of true e = refl
true_of false e = absurd (cc)

pub not_true : (b : Bool) → b ≡ true → not b ≡ false
not_true b e = ap not e

pub note_right : {R : Type 0} (a b w : Bool) → (b ≡ true) ↔ R → w ≡ (a || not b) → (w ≡ false) ↔ ((a ≡ false) × R)
note_right a b w test is = (
  λ e. let both = both_false a (not b) (sym is ∙ e) in (both.0, test.0 (true_of b both.1)),
  λ h. is ∙ false_both a (not b) h.0 (not_true b (test.1 h.1)),
)

none_is : (o : Option Fault) → is_some o ≡ false → o ≡ None
none_is None e = refl
none_is (Some x) e = absurd (cc)

empty_is : (ws : List Wrong) → nat_lt 0 (length ws) ≡ false → ws ≡ []
empty_is [] e = refl
empty_is (w ∷ ws) e = absurd (let low = ltb-false 0 (suc (length ws)) e in omega (arith, low))

-- ---- steps that are right

module _ (c : Case) where
  right_behind : (s : State) (xs ys : List Turn) → AreRightTurns c s xs → AreRightTurns c (run c s xs) ys → AreRightTurns c s (xs ++ ys)
  right_behind s [] ys first then_on = then_on
  right_behind s (t ∷ xs) ys first then_on = (first.0, right_behind (taken c s t) xs ys first.1 then_on)

  right_parts : (s : State) (xs ys : List Turn) → AreRightTurns c s (xs ++ ys) → AreRightTurns c s xs × AreRightTurns c (run c s xs) ys
  right_parts s [] ys h = (tt, h)
  right_parts s (t ∷ xs) ys h = let rest = right_parts (taken c s t) xs ys h.1 in ((h.0, rest.0), rest.1)

  -- ---- what is told

  told_on : (s : State) (xs ys : List Turn) (first then_on : List Told) → AreTold c s xs first → AreTold c (run c s xs) ys then_on → AreTold c s (xs ++ ys) (first ++ then_on)
  told_on s xs ys [] then_on h g = subst (λ ts. AreTold c (run c s ts) ys then_on → AreTold c s (ts ++ ys) then_on) (sym h) (λ x. x) g
  told_on s xs ys (line.Step x ∷ first) then_on (t, rest, is, told, h) g = (
    t,
    rest ++ ys,
    ap (λ ts. ts ++ ys) is,
    told,
    told_on (taken c s t) rest ys first then_on h (subst (λ ts. AreTold c (run c s ts) ys then_on) is g),
  )
  told_on s xs ys (line.Speculation x ∷ first) then_on (t, rest, is, told, h) g = (
    t,
    rest ++ ys,
    ap (λ ts. ts ++ ys) is,
    told,
    told_on (taken c s t) rest ys first then_on h (subst (λ ts. AreTold c (run c s ts) ys then_on) is g),
  )
  told_on s xs ys (line.Pause cpu step ∷ first) then_on h g = (h.0, h.1, told_on s xs ys first then_on h.2 g)
  told_on s xs ys (line.Idle t why ∷ first) then_on h g = (h.0, h.1, told_on s xs ys first then_on h.2 g)
  told_on s xs ys (line.Unfinished cpu phase due arrived ∷ first) then_on h g = (h.0, h.1, h.2, h.3, told_on s xs ys first then_on h.4 g)

  pub nothing_told : (s : State) (old : List Told) → AreToldBehind c s [] old old
  nothing_told s old = record { more = []; are = refl; behind = sym (append-nil old) }

  pub one_told : (s : State) (old new : List Told) (t : Told) → AreTold c s [] (t ∷ []) → new ≡ old ++ t ∷ [] → AreToldBehind c s [] old new
  one_told s old new t is behind = record { more = t ∷ []; are = is; behind = behind }

  pub all_told : (s : State) (xs ys : List Turn) (old mid new : List Told) → AreToldBehind c s xs old mid → AreToldBehind c (run c s xs) ys mid new → AreToldBehind c s (xs ++ ys) old new
  all_told s xs ys old mid new f g = record {
    more = f.more ++ g.more;
    are = told_on s xs ys f.more g.more f.are g.are;
    behind = g.behind ∙ ap (λ ts. ts ++ g.more) f.behind ∙ append_assoc old f.more g.more;
  }

  -- more is told where a run stands
  pub more_told : (s t : State) (xs : List Turn) (old mid new : List Told) → t ≡ run c s xs → AreToldBehind c s xs old mid → AreToldBehind c t [] mid new → AreToldBehind c s xs old new
  more_told s t xs old mid new is f g =
      subst (λ ts. AreToldBehind c s ts old new) (append-nil xs) (all_told s xs [] old mid new f (subst (λ u. AreToldBehind c u [] mid new) is g))

  -- ---- parts one behind the other

  pub told_none : (r t : JudgedRun) → t.state ≡ r.state → AreToldBehind c r.state [] r.told.items t.told.items → t.wrong ≡ r.wrong → IsTold c [] r t
  told_none r t same told flag = record { runs = tt; leads = same; told = told; right = (λ e. (sym flag ∙ e, tt), λ h. flag ∙ h.0) }

  pub told_behind : (xs ys : List Turn) (r t u : JudgedRun) → IsTold c xs r t → IsTold c ys t u → IsTold c (xs ++ ys) r u
  told_behind xs ys r t u f g = record {
    runs = runs_behind c r.state xs ys f.runs (subst (λ s. IsRun c s ys) f.leads g.runs);
    leads = g.leads ∙ ap (λ s. run c s ys) f.leads ∙ sym (run_behind c r.state xs ys);
    told = all_told r.state xs ys r.told.items t.told.items u.told.items f.told (subst (λ s. AreToldBehind c s ys t.told.items u.told.items) f.leads g.told);
    right = (
      λ e.
          let last = g.right.0 e in
          let first = f.right.0 last.0 in
          (first.0, right_behind r.state xs ys first.1 (subst (λ s. AreRightTurns c s ys) f.leads last.1)),
      λ h.
          let parts = right_parts r.state xs ys h.1 in
          g.right.1 (f.right.1 (h.0, parts.0), subst (λ s. AreRightTurns c s ys) (sym f.leads) parts.1),
    );
  }

  -- ---- a turn

  pub told_idle : (t : Turn) (r u : JudgedRun) → may_take c r.state t ≡ false → u.state ≡ r.state → AreToldBehind c r.state [] r.told.items u.told.items → u.wrong ≡ r.wrong
      → IsTold c (turn_of c r.state t) r u
  told_idle t r u wait same told flag = subst (λ b. IsTold c (if b then t ∷ [] else []) r u) (sym wait) (told_none r u same told flag)

  -- behind a turn more is told
  pub told_pause : (t : Turn) (r q u : JudgedRun) → IsTold c (turn_of c r.state t) r q → u.state ≡ q.state → AreToldBehind c q.state [] q.told.items u.told.items → u.wrong ≡ q.wrong
      → IsTold c (turn_of c r.state t) r u
  told_pause t r q u f same told flag =
      subst (λ ts. IsTold c ts r u) (append-nil (turn_of c r.state t)) (told_behind (turn_of c r.state t) [] r q u f (told_none q u same told flag))

  -- q is where the run stands once the turn is taken, and u what is noted of it then
  module _ (t : Turn) (r q u : JudgedRun) (may : may_take c r.state t ≡ true) (leads : q.state ≡ taken c r.state t) (same : q.told.items ≡ r.told.items) (flag : q.wrong ≡ r.wrong)
      (stays : u.state ≡ q.state) where
    pub told_step : (m : Move) → Some m ≡ move_in c r.state t → IsStepNoted c r.state m q u → IsTold c (turn_of c r.state t) r u
    told_step m is noted =
        let here : TellsStep c r.state m (taken c r.state t) noted.step = subst (λ s. TellsStep c r.state m s noted.step) leads noted.tells in
        let move_told : TellsMove c r.state t noted.step = subst (λ (o : Option Move). IsSomeAnd o (λ n. TellsStep c r.state n (taken c r.state t) noted.step)) is here in
        let bad : (is_some (fault_of r.state.processors m) || has_wrong c (taken c r.state t)) ≡ is_bad c r.state t =
        ap (λ (o : Option Move). is_some (option_map_or (fault_of r.state.processors) o None) || has_wrong c (taken c r.state t)) is in
        subst (λ b. IsTold c (if b then t ∷ [] else []) r u) (sym may) (record {
          runs = (may, tt);
          leads = stays ∙ leads;
          told = record { more = line.Step noted.step ∷ []; are = (t, [], refl, move_told, refl); behind = noted.behind ∙ ap (λ (xs : List Told). xs ++ line.Step noted.step ∷ []) same };
          right = (
            λ e.
                let both = noted.right.0 e in
                let h = both.1 in (
                  sym flag ∙ both.0,
                  (
                    record {
                      fine = sym bad ∙ false_both _ _ (ap (λ (o : Option Fault). is_some o) (sym here.fault ∙ h.fault)) (ap (λ (ws : List Wrong). nat_lt 0 (length ws)) (sym here.wrongs ∙ h.right));
                      due = subst (λ (o : Option Move). IfSome o IsDue) is (subst IsDue here.done h.due);
                    },
                    tt,
                  ),
                ),
            λ h.
                let parts = both_false (is_some (fault_of r.state.processors m)) (has_wrong c (taken c r.state t)) (bad ∙ h.1.0.fine) in
                noted.right.1 (
                  flag ∙ h.0,
                  record {
                    due = subst IsDue (sym here.done) (subst (λ (o : Option Move). IfSome o IsDue) (sym is) h.1.0.due);
                    fault = here.fault ∙ none_is (fault_of r.state.processors m) parts.0;
                    right = here.wrongs ∙ empty_is (wrongs_in c (taken c r.state t).processors) parts.1;
                  },
                ),
          );
        })

    pub told_speculation : None ≡ move_in c r.state t → IsSpeculationNoted c r.state t q u → IsTold c (turn_of c r.state t) r u
    told_speculation is noted =
        let here : TellsSpeculation c r.state t (taken c r.state t) noted.speculation = subst (λ s. TellsSpeculation c r.state t s noted.speculation) leads noted.tells in
        let bad : has_wrong c (taken c r.state t) ≡ is_bad c r.state t =
        ap (λ (o : Option Move). is_some (option_map_or (fault_of r.state.processors) o None) || has_wrong c (taken c r.state t)) is in
        let told : TellsNoMove c r.state t noted.speculation = record { none = sym is; told = here } in
        subst (λ b. IsTold c (if b then t ∷ [] else []) r u) (sym may) (record {
          runs = (may, tt);
          leads = stays ∙ leads;
          told = record {
            more = line.Speculation noted.speculation ∷ [];
            are = (t, [], refl, told, refl);
            behind = noted.behind ∙ ap (λ (xs : List Told). xs ++ line.Speculation noted.speculation ∷ []) same;
          };
          right = (
            λ e.
                let both = noted.right.0 e in (
                  sym flag ∙ both.0,
                  (
                    record {
                      fine = sym bad ∙ ap (λ (ws : List Wrong). nat_lt 0 (length ws)) (sym here.wrongs ∙ both.1);
                      due = subst (λ (o : Option Move). IfSome o IsDue) is tt;
                    },
                    tt,
                  ),
                ),
            λ h. noted.right.1 (flag ∙ h.0, here.wrongs ∙ empty_is (wrongs_in c (taken c r.state t).processors) (bad ∙ h.1.0.fine)),
          );
        })

  -- ---- a run that was found

  may_there : (s : State) (path : List Turn) (i : ℕ) (t : Turn) → IsRun c s path → i < length path → may_take c (run c s (take i path)) (get_or path i t) ≡ true
  may_there s [] i t runs within = absurd (omega (arith, within))
  may_there s (u ∷ path) zero t runs within = runs.0
  may_there s (u ∷ path) (suc i) t runs within = may_there (taken c s u) path i t runs.1 (omega (arith, within))

  pub path_none : (path : List Turn) (r : JudgedRun) → IsTold c (take 0 path) r r
  path_none path r = told_none r r refl (nothing_told r.state r.told.items) refl

  pub path_on : (path : List Turn) (i : ℕ) (d : Turn) (r q u : JudgedRun) → i < length path → IsRun c r.state path → IsTold c (take i path) r q
      → IsTold c (turn_of c q.state (get_or path i d)) q u → IsTold c (take (i + 1) path) r u
  path_on path i d r q u within runs f g =
      let next : i + 1 ≡ suc i = omega arith in
      let t = get_or path i d in
      let may : may_take c q.state t ≡ true = ap (λ s. may_take c s t) f.leads ∙ may_there r.state path i d runs within in
      let turn : IsTold c (t ∷ []) q u = subst (λ b. IsTold c (if b then t ∷ [] else []) q u) may g in
      subst (λ xs. IsTold c xs r u) (sym (ap (λ n. take n path) next ∙ take-suc path i d within)) (told_behind (take i path) (t ∷ []) r q u f turn)

  -- ---- rounds

  pub told_below : (k : ℕ) (r t u : JudgedRun) → IsTold c (steps_below c r.state k) r t → IsTold c (turn_of c t.state (Step k)) t u → IsTold c (steps_below c r.state (k + 1)) r u
  told_below k r t u f g =
      let next : suc k ≡ k + 1 = omega arith in
      subst (λ n. IsTold c (steps_below c r.state n) r u) next
      (told_behind (steps_below c r.state k) (turn_of c (run c r.state (steps_below c r.state k)) (Step k)) r t u f (subst (λ s. IsTold c (turn_of c s (Step k)) t u) f.leads g))

  -- nobody went on
  pub idle_below : (k : ℕ) (r t : JudgedRun) (on : Bool) → IsTold c (steps_below c r.state k) r t → (on ≡ false → steps_below c r.state k ≡ []) → (may_take c t.state (Step k) || on) ≡ false
      → steps_below c r.state (k + 1) ≡ []
  idle_below k r t on f before e =
      let parts = both_false (may_take c t.state (Step k)) on e in
      let waits_here : may_take c (run c r.state (steps_below c r.state k)) (Step k) ≡ false = ap (λ s. may_take c s (Step k)) (sym f.leads) ∙ parts.0 in
      let none : steps_below c r.state (suc k) ≡ [] = λ i. before parts.1 i ++ (if waits_here i then Step k ∷ [] else []) in
      let next : k + 1 ≡ suc k = omega arith in
      ap (steps_below c r.state) next ∙ none

  pub told_rounds : (n : ℕ) (r t u : JudgedRun) → IsTold c (rounds c r.state n) r t → IsTold c (round c t.state) t u → IsTold c (rounds c r.state (n + 1)) r u
  unfolding rounds
  told_rounds n r t u f g =
      let next : suc n ≡ n + 1 = omega arith in
      subst (λ m. IsTold c (rounds c r.state m) r u) next
      (told_behind (rounds c r.state n) (round c (run c r.state (rounds c r.state n))) r t u f (subst (λ s. IsTold c (round c s) t u) f.leads g))

  rounds_none : (s : State) → rounds c s 0 ≡ []
  unfolding rounds
  rounds_none s = refl

  pub told_no_round : (r : JudgedRun) → IsTold c (rounds c r.state 0) r r
  told_no_round r = subst (λ ts. IsTold c ts r r) (sym (rounds_none r.state)) (told_none r r refl (nothing_told r.state r.told.items) refl)

  -- where none goes on, further rounds have no steps
  rounds_stay : (s : State) (n more : ℕ) → round c (run c s (rounds c s n)) ≡ [] → rounds c s (n + more) ≡ rounds c s n
  unfolding rounds
  rounds_stay s n zero idle = ap (rounds c s) (let e : n + 0 ≡ n = omega arith in e)
  rounds_stay s n (suc more) idle =
      let same : n + suc more ≡ suc (n + more) = omega arith in
      ap (rounds c s) same
      ∙ ap (λ ts. ts ++ round c (run c s ts)) (rounds_stay s n more idle)
      ∙ ap (λ ts. rounds c s n ++ ts) idle
      ∙ append-nil (rounds c s n)

  pub told_to_the_end : (n most : ℕ) (r t u : JudgedRun) → n ≤ most → IsTold c (rounds c r.state n) r t → IsTold c (round c t.state) t u → round c t.state ≡ [] → IsTold c (rounds c r.state most) r u
  told_to_the_end n most r t u few f g idle =
      let both = told_behind (rounds c r.state n) [] r t u f (subst (λ ts. IsTold c ts t u) idle g) in
      let here : round c (run c r.state (rounds c r.state n)) ≡ [] = ap (round c) (sym f.leads) ∙ idle in
      let all : rounds c r.state most ≡ rounds c r.state n =
      ap (rounds c r.state) (let e : most ≡ n + (most - n) = omega (arith, few) in e) ∙ rounds_stay r.state n (most - n) here in
      subst (λ ts. IsTold c ts r u) (append-nil (rounds c r.state n) ∙ sym all) both

  -- ---- what is ordered

  pub part_of_turn : (u : Turn) (r t : JudgedRun) → IsTold c (turn_of c r.state u) r t → IsToldPart c (part.Turn u) r t
  part_of_turn u r t h = record {
    runs = h.runs;
    leads = h.leads;
    told = h.told;
    right = (λ e. let x = h.right.0 e in (x.0, x.1, tt), λ x. h.right.1 (x.0, x.1));
  }

  pub part_of_rounds : (r t u : JudgedRun) → IsTold c (all_rounds c r.state) r t → u.state ≡ t.state → AreToldBehind c t.state [] t.told.items u.told.items → (u.wrong ≡ false) ↔ ((t.wrong ≡ false) × IsEnded c t.state) → IsToldPart c part.Turns r u
  part_of_rounds r t u h same told ends = record {
    runs = h.runs;
    leads = same ∙ h.leads;
    told = more_told r.state t.state (all_rounds c r.state) r.told.items t.told.items u.told.items h.leads h.told told;
    right = (
      λ e.
          let last = ends.0 e in
          let first = h.right.0 last.0 in
          (first.0, first.1, subst (IsEnded c) h.leads last.1),
      λ x. ends.1 (h.right.1 (x.0, x.1), subst (IsEnded c) (sym h.leads) x.2),
    );
  }

  ordered_behind : (s : State) (xs : List Part) (x : Part) → ordered c s (xs ++ x ∷ []) ≡ ordered c s xs ++ part_of c (run c s (ordered c s xs)) x
  ordered_behind s [] x = append-nil (part_of c s x)
  ordered_behind s (y ∷ xs) x =
      let first = part_of c s y in
      ap (λ ts. first ++ ts) (ordered_behind (run c s first) xs x)
      ∙ sym (append_assoc first (ordered c (run c s first) xs) (part_of c (run c (run c s first) (ordered c (run c s first) xs)) x))
      ∙ ap (λ u. first ++ ordered c (run c s first) xs ++ part_of c u x) (sym (run_behind c s first (ordered c (run c s first) xs)))

  whole_behind : (s : State) (xs : List Part) (x : Part) → AreWhole c s xs → IsWhole c (run c s (ordered c s xs)) x → AreWhole c s (xs ++ x ∷ [])
  whole_behind s [] x all last = (last, tt)
  whole_behind s (y ∷ xs) x all last =
      (all.0, whole_behind (run c s (part_of c s y)) xs x all.1 (subst (λ u. IsWhole c u x) (run_behind c s (part_of c s y) (ordered c (run c s (part_of c s y)) xs)) last))

  whole_parts : (s : State) (xs : List Part) (x : Part) → AreWhole c s (xs ++ x ∷ []) → AreWhole c s xs × IsWhole c (run c s (ordered c s xs)) x
  whole_parts s [] x all = (tt, all.0)
  whole_parts s (y ∷ xs) x all =
      let rest = whole_parts (run c s (part_of c s y)) xs x all.1 in
      ((all.0, rest.0), subst (λ u. IsWhole c u x) (sym (run_behind c s (part_of c s y) (ordered c (run c s (part_of c s y)) xs))) rest.1)

  pub order_none : (r : JudgedRun) → IsToldOrder c [] r r
  order_none r = record { runs = tt; leads = refl; told = nothing_told r.state r.told.items; right = (λ e. (e, tt, tt), λ h. h.0) }

  pub order_behind : (xs : List Part) (x : Part) (r t u : JudgedRun) → IsToldOrder c xs r t → IsToldPart c x t u → IsToldOrder c (xs ++ x ∷ []) r u
  order_behind xs x r t u f g =
      let first = ordered c r.state xs in
      let last = part_of c (run c r.state first) x in
      let is = ordered_behind r.state xs x in
      let part = subst (λ s. IsRun c s (part_of c s x)) f.leads g.runs in record {
        runs = subst (IsRun c r.state) (sym is) (runs_behind c r.state first last f.runs part);
        leads = g.leads ∙ ap (λ s. run c s (part_of c s x)) f.leads ∙ sym (run_behind c r.state first last) ∙ ap (run c r.state) (sym is);
        told = subst (λ ts. AreToldBehind c r.state ts r.told.items u.told.items) (sym is)
            (all_told r.state first last r.told.items t.told.items u.told.items f.told (subst (λ s. AreToldBehind c s (part_of c s x) t.told.items u.told.items) f.leads g.told));
        right = (
          λ e.
              let b = g.right.0 e in
              let a = f.right.0 b.0 in (
                a.0,
                subst (AreRightTurns c r.state) (sym is) (right_behind r.state first last a.1 (subst (λ s. AreRightTurns c s (part_of c s x)) f.leads b.1)),
                whole_behind r.state xs x a.2 (subst (λ s. IsWhole c s x) f.leads b.2),
              ),
          λ h.
              let steps = right_parts r.state first last (subst (AreRightTurns c r.state) is h.1) in
              let whole = whole_parts r.state xs x h.2 in
              g.right.1 (f.right.1 (h.0, steps.0, whole.0), subst (λ s. AreRightTurns c s (part_of c s x)) (sym f.leads) steps.1, subst (λ s. IsWhole c s x) (sym f.leads) whole.1),
        );
      }

  pub order_on : (order : List Part) (i : ℕ) (d : Part) (r t u : JudgedRun) → i < length order → IsToldOrder c (take i order) r t → IsToldPart c (get_or order i d) t u
      → IsToldOrder c (take (i + 1) order) r u
  order_on order i d r t u within f g =
      let next : i + 1 ≡ suc i = omega arith in
      let is : take (i + 1) order ≡ take i order ++ get_or order i d ∷ [] = ap (λ n. take n order) next ∙ take-suc order i d within in
      subst (λ xs. IsToldOrder c xs r u) (sym is) (order_behind (take i order) (get_or order i d) r t u f g)

  -- ---- the whole run

  pub right_run : (s : State) (order : List Part) (r t : JudgedRun) (wrong : Bool) → r.state ≡ s → r.wrong ≡ has_wrong c s → IsToldOrder c order r t
      → (wrong ≡ false) ↔ ((t.wrong ≡ false) × AreListsFinished c t.state) → (wrong ≡ false) ↔ IsRightRun c s order
  right_run s order r t wrong same flag h ends = subst (λ u. (wrong ≡ false) ↔ IsRightRun c u order) same (
    λ e.
        let last = ends.0 e in
        let all = h.right.0 last.0 in
        record { start = ap (has_wrong c) same ∙ sym flag ∙ all.0; runs = h.runs; turns = all.1; whole = all.2; finished = subst (AreListsFinished c) h.leads last.1 },
    λ x. ends.1 (h.right.1 (flag ∙ sym (ap (has_wrong c) same) ∙ x.start, x.turns, x.whole), subst (AreListsFinished c) (sym h.leads) x.finished),
  )

  -- what is told of it, from nothing on
  pub from_nothing : (s t : State) (ts : List Turn) (old new : List Told) → t ≡ s → old ≡ [] → AreToldBehind c t ts old new → AreTold c s ts new
  from_nothing s t ts old new same none h =
      subst (λ u. AreTold c u ts new) same (subst (AreTold c t ts) (sym (h.behind ∙ ap (λ ts. ts ++ h.more) none)) h.are)

  pub order_told : (s : State) (order : List Part) (r t : JudgedRun) (new : List Told) → r.state ≡ s → r.told.items ≡ [] → IsToldOrder c order r t → AreToldBehind c t.state [] t.told.items new
      → IsRun c s (ordered c s order) × AreTold c s (ordered c s order) new
  order_told s order r t new same none h ends =
      let all = more_told r.state t.state (ordered c r.state order) r.told.items t.told.items new h.leads h.told ends in
      subst (λ u. IsRun c u (ordered c u order) × AreTold c u (ordered c u order) new) same (h.runs, from_nothing r.state r.state (ordered c r.state order) r.told.items new refl none all)

  pub path_told : (s : State) (path : List Turn) (r t : JudgedRun) (new : List Told) → r.state ≡ s → r.told.items ≡ [] → IsRun c s path → (IsRun c r.state path → IsTold c path r t)
      → AreToldBehind c t.state [] t.told.items new → AreTold c s path new
  path_told s path r t new same none runs walked ends =
      let h = walked (subst (λ u. IsRun c u path) (sym same) runs) in
      from_nothing s r.state path r.told.items new same none (more_told r.state t.state path r.told.items t.told.items new h.leads h.told ends)
