-- From a broadcast state nothing is taken any more, and the update ends in the state that is given outright.
use Rattle.std.proofs.Common.{◌≡◌, ◌⊎◌, ℕ, ◌≤◌, List, [], ◌∷◌, Some, None, Option, Bool, true, false, refl, sym, ap, subst, ◌∙◌, inl, inr, arith, ⊎_elim, ◌++◌}
use Rattle.std.specs.Prelude.{slice_get, if◌then◌else◌, nat_lt, ◌==◌, not, ◌&&◌}
use Rattle.std.specs.List.{cons_option, list_all}
use Rattle.std.specs.Option.{option_map_or, option_map}
use Rattle.std.proofs.lemmas.Bool.{le-ltb, eqb-true}
use Rattle.mt_machine.specs.declared.phase.Phase.{Phase}
use Rattle.mt_machine.specs.declared.phase.Phase.TheVariants.{Running}
use Rattle.mt_machine.specs.declared.event.Event.{Event}
use Rattle.mt_machine.specs.declared.event.Event.TheVariants.{Take}
use Rattle.mt_machine.specs.declared.go.Go.TheVariants.{Pending, Given, Cancelled}
use Rattle.mt_machine.specs.System.{Processor, System}
use Rattle.mt_machine.specs.Access.{is_running}
use Rattle.mt_machine.specs.Machine.{Machine, Order, MachineEvent, Accesses, Controls, Calls, Goes, Cancels, Steps, due, own_step, step, is_cancelled, is_given, remaining_order, is_over, run, AreEnabled, at_start, go_of, due_at, IsEnabled, next}
use Rattle.mt_machine.specs.Update.{is_led, is_cancel, is_go, taker, takes_of, emptied, updated, Led, led_start, led_on}
use Rattle.mt_machine.specs.Start.{IsStart, IsBroadcast}
use Rattle.mt_laws.specs.Updates.{BroadcastUpdate, CancelledBroadcast, LedUpdate, LedNotGiven, LedCancelled, LedEnds, all_running}
use Rattle.mt_machine.specs.declared.go.Go.{Go}
use Rattle.mt_laws.proofs.Barrier.Stages.{Stage, stage_of, stages}
use Rattle.mt_laws.proofs.Barrier.Ranks.{rank, rank_of, At, Guarded, at_set, stage_at, and_left, and_right}
use Rattle.mt_laws.proofs.Barrier.Barriers.{Rest, Kept, keeps, step_moves, step_stages}
use Rattle.mt_laws.proofs.Barrier.Claims.{broadcast_rank, broadcast_guarded}
use Rattle.mt_laws.proofs.Clearing.Renewed.{is_take, no_take}
use Rattle.mt_laws.proofs.Invariant.Standing.{start_standing}
use Rattle.mt_laws.proofs.Updates.Erased.{erase}
use Rattle.mt_laws.proofs.Updates.Cancelled.{cancelled_run, rest_erased, kept_run}
use Rattle.mt_laws.proofs.Updates.Whole.{outright}
use Rattle.mt_laws.proofs.Invariant.Runs.{run_join, enabled_join}
use Rattle.mt_laws.proofs.Clearing.Follows.{all_append}

-- nothing is taken any more: it is cancelled, or all have taken
abbrev NoTaking : Option Order → System → Type 0
NoTaking None s = Unit {0}
NoTaking (Some o) s = (is_cancelled o.go ≡ true) ⊎ ((is_cancelled o.go ≡ false) × ((i : ℕ) (x : Stage) → At (stages s) i x → 1 ≤ rank o x))

not_taker : (k : ℕ) (w : Event) → is_take w ≡ false → taker (Steps k w) ≡ None
unfolding is_take
not_taker k Take h = absurd (cc)
not_taker k other h = refl

still_no_taking : (o : Order) (ps : List Processor) (s : System) → NoTaking (Some o) s → NoTaking (remaining_order o ps) s
still_no_taking o ps s h = one (is_over o ps)
  where
    one : (b : Bool) → NoTaking (if b then None else Some o) s
    one true = tt
    one false = h

module _ (o : Order) (s : System) (k : ℕ) (p : Processor) (at : slice_get s.processors k ≡ Some p) (g : Guarded o (stages s)) (w : Event) (h : due o s.processors p p.phase ≡ Some w) where
  taking_step : NoTaking (Some o) s → (is_take w ≡ false) × NoTaking (Some o) (step o.goal w k s)
  taking_step no_taking = (no_take o s.processors p p.phase w (quiet p.phase refl h) h, after_step)
    where
      here : At (stages s) k (stage_of p)
      here = stage_at s.processors k p at

      quiet : (ph : Phase) → p.phase ≡ ph → due o s.processors p ph ≡ Some w → is_running ph ≡ false
      quiet Running same g = absurd (one (p.era == o.from_era) (is_cancelled o.go) refl refl g)
        where
          one : (a c : Bool) → (p.era == o.from_era) ≡ a → is_cancelled o.go ≡ c → (if a && not c then Some Take else None) ≡ Some w → ⊥
          one false c is go e = absurd (cc)
          one true true is go e = absurd (cc)
          one true false is go e =
              let era = eqb-true p.era o.from_era is in
              let behind : nat_lt o.from_era p.era ≡ false = le-ltb o.from_era p.era (omega arith) in
              let low : rank o (stage_of p) ≡ 0 = ap (λ (v : Phase). rank o (v, p.era)) same ∙ ap (rank_of Running) behind in
              ⊎_elim (λ (c : is_cancelled o.go ≡ true). absurd (cc)) (λ (c : (is_cancelled o.go ≡ false) × ((i : ℕ) (x : Stage) → At (stages s) i x → 1 ≤ rank o x)). let high = c.1 k (stage_of p) here in let r : ⊥ = omega arith in r) no_taking
      quiet other same g = refl

      after_step : NoTaking (Some o) (step o.goal w k s)
      after_step = ⊎_elim
          (λ (c : is_cancelled o.go ≡ true). inl c)
          (λ (c : (is_cancelled o.go ≡ false) × ((i : ℕ) (x : Stage) → At (stages s) i x → 1 ≤ rank o x)).
          let move = step_moves o s.processors p (g.eras k (stage_of p) here) p.phase w refl h (g.in_step k (stage_of p) here) in
          let high = c.1 k (stage_of p) here in
          let off = c.0 in
          let up : 1 ≤ rank o (stage_of (own_step o.goal w p)) =
          ⊎_elim (λ (u : rank o (stage_of p) ≤ rank o (stage_of (own_step o.goal w p))). omega arith) (λ (u : is_cancelled o.go ≡ true). absurd (cc)) move.up in
          inr (
            off,
            λ i x there. ⊎_elim
                (λ (e : (i ≡ k) × (stage_of (own_step o.goal w p) ≡ x)). subst (λ (v : Stage). 1 ≤ rank o v) e.1 up)
                (λ (e : At (stages s) i x). c.1 i x e)
                (at_set (stages s) k i (stage_of (own_step o.goal w p)) x (subst (λ (vs : List Stage). At vs i x) (step_stages o.goal w k s p at) there)),
          ))
          no_taking

takes_nothing : (es : List MachineEvent) (s : System) (v : Option Order) → NoTaking v s → Kept v (stages s) → AreEnabled (record { system = s; order = v }) es → list_all is_led es ≡ true → takes_of es ≡ []
takes_nothing [] s v no_taking kept enabled led = refl
takes_nothing (Accesses k op ∷ es) s v no_taking kept enabled led = absurd (cc)
takes_nothing (Controls k c ∷ es) s v no_taking kept enabled led = absurd (cc)
takes_nothing (Calls goal ∷ es) s v no_taking kept enabled led = absurd (cc)
takes_nothing (Goes ∷ es) s None no_taking kept enabled led = absurd (let h = enabled.0 in cc)
takes_nothing (Goes ∷ es) s (Some o) no_taking kept enabled led =
    takes_nothing es s (remaining_order (record o { go = Given }) s.processors) (still_no_taking (record o { go = Given }) s.processors s given)
    (keeps (record { system = s; order = Some o }) Goes enabled.0 kept) enabled.1 led
  where
    given : NoTaking (Some (record o { go = Given })) s
    given = ⊎_elim
        (λ (c : is_cancelled o.go ≡ true). absurd (let is : Some o.go ≡ Some Pending = enabled.0 in let go : o.go ≡ Pending = cc in let off : is_cancelled o.go ≡ false = ap is_cancelled go in cc))
        (λ (c : (is_cancelled o.go ≡ false) × ((i : ℕ) (x : Stage) → At (stages s) i x → 1 ≤ rank o x)). inr (refl, c.1))
        no_taking
takes_nothing (Cancels ∷ es) s None no_taking kept enabled led = absurd (let h = enabled.0 in cc)
takes_nothing (Cancels ∷ es) s (Some o) no_taking kept enabled led =
    takes_nothing es s (remaining_order (record o { go = Cancelled }) s.processors) (still_no_taking (record o { go = Cancelled }) s.processors s (inl refl))
    (keeps (record { system = s; order = Some o }) Cancels enabled.0 kept) enabled.1 led
takes_nothing (Steps k w ∷ es) s None no_taking kept enabled led = absurd (let h = enabled.0 in cc)
takes_nothing (Steps k w ∷ es) s (Some o) no_taking kept enabled led =
    at_processor (slice_get s.processors k) refl enabled.0
    (λ no_taking'. takes_nothing es (step o.goal w k s) (remaining_order o (step o.goal w k s).processors) no_taking' (keeps (record { system = s; order = Some o }) (Steps k w) enabled.0 kept) enabled.1 led)
  where
    at_processor : (x : Option Processor) → slice_get s.processors k ≡ x → option_map_or (λ p. due o s.processors p p.phase) x None ≡ Some w
        → (NoTaking (remaining_order o (step o.goal w k s).processors) (step o.goal w k s) → takes_of es ≡ []) → takes_of (Steps k w ∷ es) ≡ []
    at_processor None at h more = absurd (cc)
    at_processor (Some p) at h more =
        let r = taking_step o s k p at kept w h no_taking in
        ap (λ x. cons_option x (takes_of es)) (not_taker k w r.0) ∙ more (still_no_taking o (step o.goal w k s).processors (step o.goal w k s) r.1)

both_true : (a b : Bool) → a ≡ true → b ≡ true → (a && b) ≡ true
both_true true b h g = g
both_true false b h g = absurd (cc)

pub led_alone : (test : MachineEvent → Bool) (es : List MachineEvent) → list_all (λ e. is_led e && test e) es ≡ true → list_all is_led es ≡ true
led_alone test [] h = refl
led_alone test (e ∷ es) h = both_true (is_led e) (list_all is_led es) (and_left _ _ (and_left (is_led e && test e) _ h)) (led_alone test es (and_right (is_led e && test e) _ h))

module _ (s : Machine) (o : Order) (b : IsBroadcast s o) where
  pub is_known : s ≡ record { system = s.system; order = Some o }
  is_known = λ i. record { system = s.system; order = b.order i }

  pub broadcast_takes : (es : List MachineEvent) → AreEnabled s es → list_all is_led es ≡ true → takes_of es ≡ []
  broadcast_takes es enabled led =
      takes_nothing es s.system (Some o) (inr (ap is_cancelled b.pending, λ i x at. let r = broadcast_rank s o b i x at in omega arith)) (broadcast_guarded s o b)
      (subst (λ (m : Machine). AreEnabled m es) is_known enabled) led

pub broadcast_update : BroadcastUpdate
broadcast_update s o es b enabled led over =
    let start : IsStart s = inr (o, b) in
    outright s o es s start (is_known s o b) at_start (start_standing s start) (ap is_cancelled b.pending)
    (λ i x at h. let r = broadcast_rank s o b i x at in let no_rank : ⊥ = omega arith in no_rank) enabled led over
    ∙ ap (λ (ks : List ℕ). updated s.system ks o.goal) (broadcast_takes s o b es enabled (led_alone (λ e. not (is_cancel e)) es led))

pub cancelled_broadcast : CancelledBroadcast
cancelled_broadcast s o es b enabled led over =
    let start : IsStart s = inr (o, b) in
    let is = is_known s o b in
    let first : Machine = record { system = s.system; order = Some o } in
    let enabled' : AreEnabled first es = subst (λ (m : Machine). AreEnabled m es) is enabled in
    let over' : (run first es).order ≡ None = subst (λ (m : Machine). (run m es).order ≡ None) is over in
    let same = cancelled_run es s.system (Some o) s.system (ap is_given b.pending) (broadcast_guarded s o b) refl enabled' led in
    let rest : Rest (stages (run first es).system) = subst (λ (v : Option Order). Kept v (stages (run first es).system)) over' (kept_run es first enabled' (broadcast_guarded s o b)) in
    let system : (run first es).system ≡ erase s.system =
    sym (rest_erased (run first es).system rest) ∙ same ∙ ap (λ (ks : List ℕ). erase (emptied s.system ks)) (broadcast_takes s o b es enabled (led_alone (λ e. not (is_go e)) es led)) in
    ap (λ (m : Machine). run m es) is ∙ (λ i. record { system = system i; order = over' i })

-- ---- lists of the events that lead there

-- where an event leaves an order that isn't cancelled, there was such an order before
went_before : (e : MachineEvent) (s : System) (v : Option Order) (last : Order) → IsEnabled (record { system = s; order = v }) e → is_led e ≡ true → (next (record { system = s; order = v }) e).order ≡ Some last → is_cancelled last.go ≡ false
    → (o : Order) × (v ≡ Some o) × (is_cancelled o.go ≡ false) × (not (is_cancel e) ≡ true)
went_before (Accesses k op) s v last enabled led is off = absurd (cc)
went_before (Controls k c) s v last enabled led is off = absurd (cc)
went_before (Calls goal) s v last enabled led is off = absurd (cc)
went_before Goes s None last enabled led is off = absurd (cc)
went_before Goes s (Some o) last enabled led is off = let go : o.go ≡ Pending = let h : Some o.go ≡ Some Pending = enabled in cc in (o, refl, ap is_cancelled go, refl)
went_before Cancels s None last enabled led is off = absurd (cc)
went_before Cancels s (Some o) last enabled led is off = absurd (one (is_over (record o { go = Cancelled }) s.processors) is)
  where
    one : (b : Bool) → (if b then None else Some (record o { go = Cancelled })) ≡ Some last → ⊥
    one true h = absurd (cc)
    one false h =
        let same : record o { go = Cancelled } ≡ last = cc in
        let on : is_cancelled last.go ≡ true = ap (λ (v : Order). is_cancelled v.go) (sym same) in
        absurd (cc)
went_before (Steps k w) s None last enabled led is off = absurd (cc)
went_before (Steps k w) s (Some o) last enabled led is off = (o, refl, one (is_over o (step o.goal w k s).processors) is, refl)
  where
    one : (b : Bool) → (if b then None else Some o) ≡ Some last → is_cancelled o.go ≡ false
    one true h = absurd (cc)
    one false h = let same : o ≡ last = cc in ap (λ (v : Order). is_cancelled v.go) same ∙ off

pub led_list : {s m : Machine} → Led s m → (last : Order) → m.order ≡ Some last → is_cancelled last.go ≡ false
    → (es : List MachineEvent) × AreEnabled s es × (run s es ≡ m) × (list_all (λ e. is_led e && not (is_cancel e)) es ≡ true)
led_list led_start last is off = ([], tt, refl, refl)
led_list {s} (led_on {t = t} e l enabled led) last is off =
    let was = went_before e t.system t.order last enabled led is off in
    let rest = led_list l was.0 was.1 was.2 in (
      rest.0 ++ e ∷ [],
      enabled_join s rest.0 (e ∷ []) rest.1 (subst (λ (m : Machine). IsEnabled m e) (sym rest.2) enabled, tt),
      run_join s rest.0 (e ∷ []) ∙ ap (λ (m : Machine). next m e) rest.2,
      all_append (λ e. is_led e && not (is_cancel e)) rest.0 (e ∷ []) rest.3 (both_true _ true (both_true _ _ led was.3) refl),
    )

not_cancel : (e : MachineEvent) (m : Machine) (last : Order) → m.order ≡ Some last → last.go ≡ Given → IsEnabled m e → not (is_cancel e) ≡ true
not_cancel Cancels m last is go enabled =
    absurd (let h : go_of m ≡ Some Given = ap (λ (v : Option Order). option_map (λ o. o.go) v) is ∙ ap (λ (g : Go). Some g) go in let clash : Some Pending ≡ Some Given = sym enabled ∙ h in cc)
not_cancel other m last is go enabled = refl

led_whole : (s m : Machine) (o last : Order) (e : MachineEvent) → IsBroadcast s o → Led s m → m.order ≡ Some last → is_cancelled last.go ≡ false → IsEnabled m e → is_led e ≡ true → not (is_cancel e) ≡ true → (next m e).order ≡ None → next m e ≡ updated s.system [] o.goal
led_whole s m o last e b l is off enabled led no_cancel over =
    let rest = led_list l last is off in
    let es : List MachineEvent = rest.0 ++ e ∷ [] in
    let whole : run s es ≡ next m e = run_join s rest.0 (e ∷ []) ∙ ap (λ (x : Machine). next x e) rest.2 in
    sym whole
    ∙ broadcast_update s o es b
    (enabled_join s rest.0 (e ∷ []) rest.1 (subst (λ (x : Machine). IsEnabled x e) (sym rest.2) enabled, tt))
    (all_append (λ e. is_led e && not (is_cancel e)) rest.0 (e ∷ []) rest.3 (both_true _ true (both_true _ _ led no_cancel) refl))
    (ap (λ (x : Machine). x.order) whole ∙ over)

pub led_update : LedUpdate
led_update s m o last e b l is go enabled led over = led_whole s m o last e b l is (ap is_cancelled go) enabled led (not_cancel e m last is go enabled) over

-- ---- while the go isn't given

not_given_before : (e : MachineEvent) (s : System) (v : Option Order) (last : Order) → IsEnabled (record { system = s; order = v }) e → is_led e ≡ true → (next (record { system = s; order = v }) e).order ≡ Some last → is_given last.go ≡ false
    → (o : Order) × (v ≡ Some o) × (is_given o.go ≡ false) × (not (is_go e) ≡ true)
not_given_before (Accesses k op) s v last enabled led is off = absurd (cc)
not_given_before (Controls k c) s v last enabled led is off = absurd (cc)
not_given_before (Calls goal) s v last enabled led is off = absurd (cc)
not_given_before Goes s None last enabled led is off = absurd (cc)
not_given_before Goes s (Some o) last enabled led is off = absurd (one (is_over (record o { go = Given }) s.processors) is)
  where
    one : (b : Bool) → (if b then None else Some (record o { go = Given })) ≡ Some last → ⊥
    one true h = absurd (cc)
    one false h =
        let same : record o { go = Given } ≡ last = cc in
        let on : is_given last.go ≡ true = ap (λ (v : Order). is_given v.go) (sym same) in
        absurd (cc)
not_given_before Cancels s None last enabled led is off = absurd (cc)
not_given_before Cancels s (Some o) last enabled led is off = let go : o.go ≡ Pending = let h : Some o.go ≡ Some Pending = enabled in cc in (o, refl, ap is_given go, refl)
not_given_before (Steps k w) s None last enabled led is off = absurd (cc)
not_given_before (Steps k w) s (Some o) last enabled led is off = (o, refl, one (is_over o (step o.goal w k s).processors) is, refl)
  where
    one : (b : Bool) → (if b then None else Some o) ≡ Some last → is_given o.go ≡ false
    one true h = absurd (cc)
    one false h = let same : o ≡ last = cc in ap (λ (v : Order). is_given v.go) same ∙ off

not_given_list : {s m : Machine} → Led s m → (last : Order) → m.order ≡ Some last → is_given last.go ≡ false
    → (es : List MachineEvent) × AreEnabled s es × (run s es ≡ m) × (list_all (λ e. is_led e && not (is_go e)) es ≡ true)
not_given_list led_start last is off = ([], tt, refl, refl)
not_given_list {s} (led_on {t = t} e l enabled led) last is off =
    let was = not_given_before e t.system t.order last enabled led is off in
    let rest = not_given_list l was.0 was.1 was.2 in (
      rest.0 ++ e ∷ [],
      enabled_join s rest.0 (e ∷ []) rest.1 (subst (λ (m : Machine). IsEnabled m e) (sym rest.2) enabled, tt),
      run_join s rest.0 (e ∷ []) ∙ ap (λ (m : Machine). next m e) rest.2,
      all_append (λ e. is_led e && not (is_go e)) rest.0 (e ∷ []) rest.3 (both_true _ true (both_true _ _ led was.3) refl),
    )

pub led_not_given : LedNotGiven
led_not_given s m o last b l is off =
    let rest = not_given_list l last is off in
    let es : List MachineEvent = rest.0 in
    let known = is_known s o b in
    let first : Machine = record { system = s.system; order = Some o } in
    let enabled : AreEnabled first es = subst (λ (x : Machine). AreEnabled x es) known rest.1 in
    ap (λ (x : Machine). erase x.system) (sym rest.2 ∙ ap (λ (x : Machine). run x es) known)
    ∙ cancelled_run es s.system (Some o) s.system (ap is_given b.pending) (broadcast_guarded s o b) refl enabled rest.3
    ∙ ap (λ (ks : List ℕ). erase (emptied s.system ks)) (broadcast_takes s o b es rest.1 (led_alone (λ e. not (is_go e)) es rest.3))

pub led_cancelled : LedCancelled
led_cancelled s m o last e b l is off enabled led quiet over =
    let rest = not_given_list l last is off in
    let es : List MachineEvent = rest.0 ++ e ∷ [] in
    let whole : run s es ≡ next m e = run_join s rest.0 (e ∷ []) ∙ ap (λ (x : Machine). next x e) rest.2 in
    sym whole
    ∙ cancelled_broadcast s o es b
    (enabled_join s rest.0 (e ∷ []) rest.1 (subst (λ (x : Machine). IsEnabled x e) (sym rest.2) enabled, tt))
    (all_append (λ e. is_led e && not (is_go e)) rest.0 (e ∷ []) rest.3 (both_true _ true (both_true _ _ led (ap not quiet)) refl))
    (ap (λ (x : Machine). x.order) whole ∙ over)

-- ---- the end, whichever it is

-- go and cancel, steps and the like need an order
led_needs : (e : MachineEvent) (m : Machine) → m.order ≡ None → IsEnabled m e → is_led e ≡ true → ⊥
led_needs (Accesses k op) m none enabled led = absurd (cc)
led_needs (Controls k c) m none enabled led = absurd (cc)
led_needs (Calls goal) m none enabled led = absurd (cc)
led_needs Goes m none enabled led = absurd (let h : go_of m ≡ None = ap (λ (v : Option Order). option_map (λ o. o.go) v) none in cc)
led_needs Cancels m none enabled led = absurd (let h : go_of m ≡ None = ap (λ (v : Option Order). option_map (λ o. o.go) v) none in cc)
led_needs (Steps k w) m none enabled led = absurd (let h : due_at m k ≡ None = ap (λ (v : Option Order). due_at (record { system = m.system; order = v }) k) none in cc)

not_go : (e : MachineEvent) (m : Machine) (last : Order) → m.order ≡ Some last → last.go ≡ Cancelled → IsEnabled m e → is_go e ≡ false
not_go Goes m last is go enabled =
    absurd (let h : go_of m ≡ Some Cancelled = ap (λ (v : Option Order). option_map (λ o. o.go) v) is ∙ ap (λ (g : Go). Some g) go in let clash : Some Pending ≡ Some Cancelled = sym enabled ∙ h in cc)
not_go other m last is go enabled = refl

cancel_no_go : (e : MachineEvent) → is_cancel e ≡ true → is_go e ≡ false
cancel_no_go Cancels h = refl
cancel_no_go other h = absurd (cc)

abbrev Ended : Machine → Order → Machine → Type 0
Ended s o m = (m ≡ updated s.system [] o.goal) ⊎ (m ≡ record { system = all_running s.system; order = None })

ended_by : (s t : Machine) (o : Order) (e : MachineEvent) → IsBroadcast s o → Led s t → IsEnabled t e → is_led e ≡ true → (next t e).order ≡ None → (v : Option Order) → t.order ≡ v → Ended s o (next t e)
ended_by s t o e b l enabled led over None is = absurd (led_needs e t is enabled led)
ended_by s t o e b l enabled led over (Some last) is = one last.go refl (is_cancel e) refl
  where
    one : (go : Go) → last.go ≡ go → (c : Bool) → is_cancel e ≡ c → Ended s o (next t e)
    one Pending go true is_c = inr (led_cancelled s t o last e b l is (ap is_given go) enabled led (cancel_no_go e is_c) over)
    one Pending go false is_c = inl (led_whole s t o last e b l is (ap is_cancelled go) enabled led (ap not is_c) over)
    one Given go c is_c = inl (led_update s t o last e b l is go enabled led over)
    one Cancelled go c is_c = inr (led_cancelled s t o last e b l is (ap is_given go) enabled led (not_go e t last is go enabled) over)

led_ended : (s : Machine) (o : Order) → IsBroadcast s o → {m : Machine} → Led s m → m.order ≡ None → Ended s o m
led_ended s o b led_start over = absurd (let is = b.order in cc)
led_ended s o b (led_on {t = t} e l enabled led) over = ended_by s t o e b l enabled led over t.order refl

pub led_ends : LedEnds
led_ends s m o b l over = led_ended s o b l over
