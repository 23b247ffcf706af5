-- What holds from a whole update on, up to the next call.
use Rattle.std.proofs.Common.{◌≡◌, ◌∙◌, ap, sym, refl, subst, ℕ, ◌+◌, ◌%◌, inl, Bool, true, false, List, [], ◌∷◌, ◌++◌, Option, None, Some, slice_get}
use Rattle.std.specs.Prelude.{◌&&◌, if◌then◌else◌, map}
use Rattle.std.specs.List.{Contains, list_all}
use Rattle.std.specs.Option.{option_map}
use Rattle.std.proofs.lemmas.Option.{slice_get-map}
use Rattle.mt_regs.specs.RegisterFile.{RegisterFile}
use Rattle.mt_machine.specs.declared.event.Event.TheVariants.{Release}
use Rattle.mt_machine.specs.declared.go.Go.TheVariants.{Given}
use Rattle.mt_machine.specs.Memory.{Window, word_at}
use Rattle.mt_machine.specs.System.{Processor, System}
use Rattle.mt_machine.specs.Machine.{AreEnabled, Calls, Goes, IsEnabled, Machine, MachineEvent, Order, Steps, due_at, is_over, next, run, step}
use Rattle.mt_machine.specs.Update.{IsSettled, settled_processor, stored_words, updated}
use Rattle.mt_laws.specs.Updates.{order_of_call}
use Rattle.mt_laws.proofs.Barrier.Ranks.{and_left, and_right}
use Rattle.mt_laws.proofs.Invariant.Runs.{run_join}
use Rattle.mt_laws.proofs.Updates.Held.{settled_word, stays_in_memory}
use Rattle.mt_laws.proofs.Updates.Quiet.{updated_is_quiet}
use Rattle.mt_laws.proofs.Words.Sound.{aligned_all}
use Rattle.mt_core.specs.Arises.{Arises, by_event, from_start}
use Rattle.mt_core.specs.Rounds.{UpdatedWordsAreHeld, UpdatesSettle, in_order}
use Rattle.mt_core.proofs.Arising.{machine}
use Rattle.mt_core.proofs.Reaching.{updates_are_reached}
use Rattle.mt_core.proofs.Settling.{settled_from_release}
use Rattle.mt_core.proofs.Stepping.{stands}
use Rattle.mt_core.proofs.Turns.{goes_on}

-- ---- the order of an update keeps its goal and its era

abbrev IsOf : Order → Order → Type 0
IsOf o v = (v.goal ≡ o.goal) × (v.from_era ≡ o.from_era)

remaining_is : (o w : Order) (b : Bool) → IsOf o w → (v : Order) → (if b then None else Some w) ≡ Some v → IsOf o v
remaining_is o w true h v is = absurd (cc is)
remaining_is o w false h v is = let same : w ≡ v = cc is in subst (IsOf o) same h

order_stays : (es : List MachineEvent) (s : System) (x : Option Order) (o : Order) → ((v : Order) → x ≡ Some v → IsOf o v) → list_all goes_on es ≡ true → (v : Order) → (run (machine s x) es).order ≡ Some v → IsOf o v
order_stays [] s x o h led v is = h v is
order_stays (Steps k e ∷ es) s None o h led v is = order_stays es s None o h led v is
order_stays (Steps k e ∷ es) s (Some w) o h led v is =
    let t : System = step w.goal e k s in
    order_stays es t (if is_over w t.processors then None else Some w) o (remaining_is o w (is_over w t.processors) (h w refl)) led v is
order_stays (Goes ∷ es) s None o h led v is = order_stays es s None o h led v is
order_stays (Goes ∷ es) s (Some w) o h led v is =
    let g : Order = record w { go = Given } in
    order_stays es s (if is_over g s.processors then None else Some g) o (remaining_is o g (is_over g s.processors) (h w refl)) led v is
order_stays (other ∷ es) s x o h led v is = absurd (cc led)

front_led : (front : List MachineEvent) (last : MachineEvent) → list_all goes_on (front ++ last ∷ []) ≡ true → list_all goes_on front ≡ true
front_led [] last h = refl
front_led (e ∷ front) last h =
    let first = and_left (goes_on e) (list_all goes_on (front ++ last ∷ [])) h in
    let rest = front_led front last (and_right (goes_on e) (list_all goes_on (front ++ last ∷ [])) h) in
    λ i. first i && rest i

-- what arises on the way, and the last event, which is enabled there
record Before (m : Machine) (front : List MachineEvent) (last : MachineEvent) : Type 0 where
  arises : Arises (run m front)
  enabled : IsEnabled (run m front) last

before : (front : List MachineEvent) (m : Machine) (last : MachineEvent) → Arises m → AreEnabled m (front ++ last ∷ []) → Before m front last
before [] m last a h = record { arises = a; enabled = h.0 }
before (e ∷ front) m last a h = let b = before front (next m e) last (by_event e a h.0) h.1 in record { arises = b.arises; enabled = b.enabled }

order_there : (m : Machine) (k : ℕ) → due_at m k ≡ Some Release → (o : Order) × (m.order ≡ Some o)
order_there m k due = one m.order refl
  where
    one : (o : Option Order) → m.order ≡ o → (o : Order) × (m.order ≡ Some o)
    one None is = absurd (cc (rw is at due))
    one (Some o) is = (o, is)

pub updates_settle : UpdatesSettle
updates_settle s goal since quiet enabled some more calls =
    let found = (updates_are_reached s goal quiet enabled).1 in
    let u = found.1 in
    let end = u.last some in
    let front : List MachineEvent = end.0 in
    let called : Machine = next s (Calls goal) in
    let p : Machine = run called front in
    let a : Arises called = by_event (Calls goal) (from_start (inl quiet)) enabled in
    let b : Before called front (Steps end.1 Release) = before front called (Steps end.1 Release) a (subst (AreEnabled called) end.2 u.enabled.1) in
    let order = order_there p end.1 b.enabled in
    let led : list_all goes_on front ≡ true = front_led front (Steps end.1 Release) (subst (λ (es : List MachineEvent). list_all goes_on es ≡ true) end.2 u.led) in
    let of : IsOf (order_of_call s goal) order.0 =
    order_stays front s.system (Some (order_of_call s goal)) (order_of_call s goal) (λ v is. let same : order_of_call s goal ≡ v = cc is in subst (IsOf (order_of_call s goal)) same (refl, refl)) led order.0 order.1 in
    let after : next p (Steps end.1 Release) ≡ updated s.system (in_order s) goal =
    sym (run_join called front (Steps end.1 Release ∷ [])) ∙ ap (run called) (sym end.2) ∙ u.leads in
    let settled : IsSettled (run (next p (Steps end.1 Release)) since).system (order.0.from_era + 1) order.0.goal =
    settled_from_release p order.0 end.1 since b.arises order.1 b.enabled (subst (λ (m : Machine). AreEnabled m since) (sym after) more) calls in
    subst (λ (v : Machine × ℕ × RegisterFile). IsSettled (run v.0 since).system (v.1 + 1) v.2) (λ i. (after i, of.1 i, of.0 i)) settled

-- ---- words

held_where_none : (m : Machine) (since : List MachineEvent) (a : ℕ) → Arises m → ((j : ℕ) (q : Processor) → slice_get m.system.processors j ≡ Some q → (q.lines ≡ []) × (q.buffers ≡ [])) → AreEnabled m since → a % 8 ≡ 0
    → (Contains (stored_words m since) a → ⊥) → word_at (run m since).system.memory a ≡ word_at m.system.memory a
held_where_none m since a arises none enabled whole other =
    let st = stands arises in
    let ws : List Window = m.system.memory.windows in
    let w = st.1.agrees.words a whole in
    let there = settled_word a w.0 m.system none w.1 in
    let later = stays_in_memory ws (aligned_all ws st.0.aligned) since m a w.0 whole st.1.agrees.stands enabled other there in
    later.shows.0 ∙ sym there.shows.0

settled_holds_none : (goal : RegisterFile) (ps : List Processor) (j : ℕ) (q : Processor) → slice_get (map (settled_processor goal) ps) j ≡ Some q → (q.lines ≡ []) × (q.buffers ≡ [])
settled_holds_none goal ps j q at = one (slice_get ps j) (sym (slice_get-map (settled_processor goal) ps j) ∙ at)
  where
    one : (x : Option Processor) → option_map (settled_processor goal) x ≡ Some q → (q.lines ≡ []) × (q.buffers ≡ [])
    one None is = absurd (cc is)
    one (Some p) is = let same : settled_processor goal p ≡ q = cc is in subst (λ (r : Processor). (r.lines ≡ []) × (r.buffers ≡ [])) same (refl, refl)

pub updated_words_are_held : UpdatedWordsAreHeld
updated_words_are_held s goal since address quiet enabled =
    held_where_none (updated s.system (in_order s) goal) since address (from_start (inl (updated_is_quiet s goal (in_order s) quiet enabled))) (settled_holds_none goal s.system.processors)
