-- A cancelled update leaves what fences leave.
use Rattle.std.proofs.Common.{◌≡◌, ◌⊎◌, ℕ, zero, suc, ◌≤◌, List, [], ◌∷◌, set, Some, None, Option, Bool, true, false, refl, sym, ap, subst, ◌∙◌, inl, inr, ⊎_elim, lit≤}
use Rattle.std.specs.Prelude.{slice_get, map, if◌then◌else◌, ◌==◌, not, ◌&&◌}
use Rattle.std.specs.List.{fold, list_all, filter_map, cons_option}
use Rattle.std.specs.Option.{option_map_or}
use Rattle.mt_regs.specs.RegisterFile.{RegisterFile}
use Rattle.mt_machine.specs.declared.phase.Phase.{Phase}
use Rattle.mt_machine.specs.declared.phase.Phase.TheVariants.{Running, Taken, Arrived}
use Rattle.mt_machine.specs.declared.event.Event.{Event}
use Rattle.mt_machine.specs.declared.event.Event.TheVariants.{Take, Arrive, Leave, Pass}
use Rattle.mt_machine.specs.declared.go.Go.TheVariants.{Cancelled}
use Rattle.mt_machine.specs.System.{Processor, System, change}
use Rattle.mt_machine.specs.Bus.{drain}
use Rattle.mt_machine.specs.Access.{is_running}
use Rattle.mt_machine.specs.Machine.{Machine, Order, MachineEvent, Accesses, Controls, Calls, Goes, Cancels, Steps, next, due, own_step, step, is_given, is_cancelled, first_barrier_open, remaining_order, is_over, run, AreEnabled}
use Rattle.mt_machine.specs.Update.{is_led, is_go, taker, takes_of, emptied}
use Rattle.mt_laws.specs.Updates.{CancelledUpdate}
use Rattle.mt_laws.proofs.Barrier.Stages.{stage_of, stages, drain_stages}
use Rattle.mt_laws.proofs.Barrier.Ranks.{rank, rank_of, is_ahead, Guarded, stage_at, and_right}
use Rattle.mt_laws.proofs.Barrier.Barriers.{Rest, Kept, keeps}
use Rattle.mt_laws.proofs.Barrier.Claims.{quiet_invariant, quiet_rest}
use Rattle.mt_laws.proofs.Updates.Erased.{erased, erase, drain_erased}

abbrev NotGiven : Option Order → Type 0
NotGiven None = Unit {0}
NotGiven (Some o) = is_given o.go ≡ false

-- a change of the phase alone
pub erase_change : (f : Processor → Processor) → ((p : Processor) → erased (f p) ≡ erased p) → (k : ℕ) (s : System) → erase (change f k s) ≡ erase s
erase_change f same k s = one (slice_get s.processors k) refl
  where
    put : (ps : List Processor) (k : ℕ) (p : Processor) → slice_get ps k ≡ Some p → map erased (set ps k (f p)) ≡ map erased ps
    put [] k p at = refl
    put (q ∷ ps) zero p at = let e : q ≡ p = cc in ap (λ (r : Processor). r ∷ map erased ps) (same p ∙ ap erased (sym e))
    put (q ∷ ps) (suc k) p at = ap (λ rs. erased q ∷ rs) (put ps k p at)

    one : (o : Option Processor) → slice_get s.processors k ≡ o → erase (option_map_or (λ p. record s { processors = set s.processors k (f p) }) o s) ≡ erase s
    one None at = refl
    one (Some p) at = ap (λ (ps : List Processor). record { processors = ps; memory = s.memory }) (put s.processors k p at)

-- ---- while go isn't given, processors take, arrive and leave

low_phase : (ph : Phase) (ahead : Bool) → (3 ≤ rank_of ph ahead → ⊥) → ((ph ≡ Running) × (ahead ≡ false)) ⊎ ((ph ≡ Taken) ⊎ (ph ≡ Arrived))
low_phase Running true low = absurd (low (lit≤ tt))
low_phase Running false low = inl (refl, refl)
low_phase Taken ahead low = inr (inl refl)
low_phase Arrived ahead low = inr (inr refl)
low_phase other ahead low = absurd (low (lit≤ tt))

abbrev IsEarly : Event → Type 0
IsEarly w = (w ≡ Take) ⊎ ((w ≡ Arrive) ⊎ (w ≡ Leave))

early : (o : Order) (s : System) (k : ℕ) (p : Processor) (w : Event) → slice_get s.processors k ≡ Some p → Guarded o (stages s) → is_given o.go ≡ false → due o s.processors p p.phase ≡ Some w → IsEarly w
early o s k p w at g off h =
    let low : 3 ≤ rank o (stage_of p) → ⊥ = λ high. absurd (let on : is_given o.go ≡ true = g.given k (stage_of p) (stage_at s.processors k p at) high in cc) in
    ⊎_elim
    (λ (c : (p.phase ≡ Running) × (is_ahead o (stage_of p) ≡ false)). runs (p.era == o.from_era) (is_cancelled o.go) (ap (λ ph. due o s.processors p ph) (sym c.0) ∙ h))
    (λ (c : (p.phase ≡ Taken) ⊎ (p.phase ≡ Arrived)). ⊎_elim
    (λ (t : p.phase ≡ Taken). taken (is_cancelled o.go) (ap (λ ph. due o s.processors p ph) (sym t) ∙ h))
    (λ (a : p.phase ≡ Arrived). arrived (is_cancelled o.go) (first_barrier_open o s.processors) refl (ap (λ ph. due o s.processors p ph) (sym a) ∙ h))
    c)
    (low_phase p.phase (is_ahead o (stage_of p)) low)
  where
    runs : (a b : Bool) → (if a && not b then Some Take else None) ≡ Some w → IsEarly w
    runs false b e = absurd (cc)
    runs true true e = absurd (cc)
    runs true false e = inl (cc)

    taken : (b : Bool) → Some (if b then Leave else Arrive) ≡ Some w → IsEarly w
    taken true e = inr (inr (cc))
    taken false e = inr (inl (cc))

    arrived : (b f : Bool) → first_barrier_open o s.processors ≡ f → (if b then Some Leave else (if f then Some Pass else None)) ≡ Some w → IsEarly w
    arrived true f is e = inr (inr (cc))
    arrived false true is e = absurd (let on : is_given o.go ≡ true = and_right _ _ is in cc)
    arrived false false is e = absurd (cc)

-- what such a step leaves, but for phases
early_step : (goal : RegisterFile) (k : ℕ) (w : Event) (s t : System) (ks : List ℕ) → IsEarly w → erase s ≡ erase t
    → (u : System) × (erase (step goal w k s) ≡ erase u) × (fold (λ x j. drain j x) t (filter_map taker (Steps k w ∷ [])) ≡ u)
early_step goal k w s t ks e same =
    ⊎_elim
    (λ (c : w ≡ Take). subst (λ (v : Event). (u : System) × (erase (step goal v k s) ≡ erase u) × (fold (λ x j. drain j x) t (filter_map taker (Steps k v ∷ [])) ≡ u)) (sym c)
    (drain k t, erase_change (own_step goal Take) (λ p. refl) k (drain k s) ∙ sym (drain_erased k s) ∙ ap (drain k) same ∙ drain_erased k t, refl))
    (λ (c : (w ≡ Arrive) ⊎ (w ≡ Leave)). ⊎_elim
    (λ (d : w ≡ Arrive). subst (λ (v : Event). (u : System) × (erase (step goal v k s) ≡ erase u) × (fold (λ x j. drain j x) t (filter_map taker (Steps k v ∷ [])) ≡ u)) (sym d) (t, erase_change (own_step goal Arrive) (λ p. refl) k s ∙ same, refl))
    (λ (d : w ≡ Leave). subst (λ (v : Event). (u : System) × (erase (step goal v k s) ≡ erase u) × (fold (λ x j. drain j x) t (filter_map taker (Steps k v ∷ [])) ≡ u)) (sym d) (t, erase_change (own_step goal Leave) (λ p. refl) k s ∙ same, refl))
    c)
    e

still_not_given : (o : Order) (ps : List Processor) → is_given o.go ≡ false → NotGiven (remaining_order o ps)
still_not_given o ps h = one (is_over o ps)
  where
    one : (b : Bool) → NotGiven (if b then None else Some o)
    one true = tt
    one false = h

-- the takes of a list, one event at a time
pub takes_more : (e : MachineEvent) (es : List MachineEvent) (t : System) → emptied t (takes_of (e ∷ es)) ≡ emptied (fold (λ x j. drain j x) t (filter_map taker (e ∷ []))) (takes_of es)
takes_more e es t = one (taker e)
  where
    one : (o : Option ℕ) → fold (λ x j. drain j x) t (cons_option o (takes_of es)) ≡ fold (λ x j. drain j x) (fold (λ x j. drain j x) t (cons_option o [])) (takes_of es)
    one None = refl
    one (Some k) = refl

pub cancelled_run : (es : List MachineEvent) (s : System) (v : Option Order) (t : System) → NotGiven v → Kept v (stages s) → erase s ≡ erase t → AreEnabled (record { system = s; order = v }) es → list_all (λ e. is_led e && not (is_go e)) es ≡ true
    → erase (run (record { system = s; order = v }) es).system ≡ erase (emptied t (takes_of es))
cancelled_run [] s v t off kept same enabled led = same
cancelled_run (Accesses k op ∷ es) s v t off kept same enabled led = absurd (cc)
cancelled_run (Controls k c ∷ es) s v t off kept same enabled led = absurd (cc)
cancelled_run (Calls goal ∷ es) s v t off kept same enabled led = absurd (cc)
cancelled_run (Goes ∷ es) s v t off kept same enabled led = absurd (cc)
cancelled_run (Cancels ∷ es) s None t off kept same enabled led = absurd (let h = enabled.0 in cc)
cancelled_run (Cancels ∷ es) s (Some o) t off kept same enabled led =
    cancelled_run es s (remaining_order (record o { go = Cancelled }) s.processors) t (still_not_given (record o { go = Cancelled }) s.processors refl)
    (keeps (record { system = s; order = Some o }) Cancels enabled.0 kept) same enabled.1 led
cancelled_run (Steps k w ∷ es) s None t off kept same enabled led = absurd (let h = enabled.0 in cc)
cancelled_run (Steps k w ∷ es) s (Some o) t off kept same enabled led =
    let e = early_at (slice_get s.processors k) refl enabled.0 in
    let r = early_step o.goal k w s t [] e same in
    cancelled_run es (step o.goal w k s) (remaining_order o (step o.goal w k s).processors) r.0 (still_not_given o (step o.goal w k s).processors off)
    (keeps (record { system = s; order = Some o }) (Steps k w) enabled.0 kept) r.1 enabled.1 led
    ∙ ap (λ (u : System). erase (emptied u (takes_of es))) (sym r.2)
    ∙ ap erase (sym (takes_more (Steps k w) es t))
  where
    early_at : (x : Option Processor) → slice_get s.processors k ≡ x → option_map_or (λ p. due o s.processors p p.phase) x None ≡ Some w → IsEarly w
    early_at None at h = absurd (cc)
    early_at (Some p) at h = early o s k p w at kept off h

-- ---- where all run, nothing is erased

all_run : (ps : List Processor) → ((i : ℕ) (p : Processor) → slice_get ps i ≡ Some p → is_running p.phase ≡ true) → map erased ps ≡ ps
all_run [] h = refl
all_run (p ∷ ps) h = λ i. one p.phase refl (h 0 p refl) i ∷ all_run ps (λ j q at. h (suc j) q at) i
  where
    one : (ph : Phase) → p.phase ≡ ph → is_running ph ≡ true → erased p ≡ p
    one Running is runs = ap (λ (v : Phase). record p { phase = v }) (sym is)
    one other is runs = absurd (cc)

pub rest_erased : (s : System) → Rest (stages s) → erase s ≡ s
rest_erased s r = ap (λ (ps : List Processor). record { processors = ps; memory = s.memory }) (all_run s.processors (λ i p at. r.running i (stage_of p) (stage_at s.processors i p at)))

emptied_stages : (ks : List ℕ) (s : System) → stages (emptied s ks) ≡ stages s
emptied_stages [] s = refl
emptied_stages (k ∷ ks) s = emptied_stages ks (drain k s) ∙ drain_stages k s

pub kept_run : (es : List MachineEvent) (m : Machine) → AreEnabled m es → Kept m.order (stages m.system) → Kept (run m es).order (stages (run m es).system)
kept_run [] m enabled kept = kept
kept_run (e ∷ es) m enabled kept = kept_run es (next m e) enabled.1 (keeps m e enabled.0 kept)

pub cancelled_update : CancelledUpdate
cancelled_update s goal es quiet enabled led over =
    let first : Machine = next s (Calls goal) in
    let kept : Kept first.order (stages first.system) = keeps s (Calls goal) enabled.0 (quiet_invariant s quiet) in
    let same = cancelled_run es first.system first.order s.system refl kept refl enabled.1 led in
    let last : Machine = run first es in
    let rest : Rest (stages last.system) = subst (λ (v : Option Order). Kept v (stages last.system)) over (kept_run es first enabled.1 kept) in
    let start : Rest (stages (emptied s.system (takes_of es))) = subst Rest (sym (emptied_stages (takes_of es) s.system)) (quiet_rest s quiet) in
    let system : last.system ≡ emptied s.system (takes_of es) = sym (rest_erased last.system rest) ∙ same ∙ rest_erased (emptied s.system (takes_of es)) start in
    λ i. record { system = system i; order = over i }
