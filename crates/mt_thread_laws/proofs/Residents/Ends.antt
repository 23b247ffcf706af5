-- What a seat whose resident runs again tells of its yard, and what steps show a seat.
use Rattle.std.proofs.Common.{◌≡◌, ◌≢◌, ◌⊎◌, ◌∙◌, ap, sym, refl, subst, arith, ℕ, zero, suc, ◌+◌, ◌-◌, ◌<◌, ◌≤◌, ◌==◌, Bool, true, false, not, ◌&&◌, ◌||◌, [], ◌∷◌, length, map, None, Some, inl, inr, ⊎_elim}
use Rattle.std.specs.Prelude.{if◌then◌else◌, slice_index}
use Rattle.std.specs.List.{list_all, list_any}
use Rattle.std.proofs.lemmas.Bool.{eqb-false, eqb-true, lt-ltb}
use Rattle.std.proofs.lemmas.List.{length-map}
use mathlib.Core.Option.{Option as Spoken, none, some}
use lib.ListN.{get_elem?}
use Rattle.atomic_table.specs.Table.{Step}
use Rattle.mt_machine.specs.declared.phase.Phase.{Phase}
use Rattle.mt_machine.specs.declared.phase.Phase.TheVariants.{Running, Arrived2}
use Rattle.mt_machine.specs.declared.go.Go.{Go}
use Rattle.mt_machine.specs.declared.go.Go.TheVariants.{Cancelled, Given}
use Rattle.mt_machine.specs.declared.op.Op.{Op}
use Rattle.mt_machine.specs.System.{Processor}
use Rattle.mt_machine.specs.Machine.{Calls, Machine, Reached, after, at_start, common_era, has_released, is_arrived_again, is_cancelled, is_over, is_waiting_to_pass}
use Rattle.mt_laws.proofs.Barrier.Claims.{barriers_hold_of}
use Rattle.mt_rendezvous.specs.declared.view.Held.{Held}
use Rattle.mt_rendezvous.specs.declared.view.Key.{Key}
use Rattle.mt_rendezvous.specs.declared.view.Start.{Start}
use Rattle.mt_rendezvous.specs.Station.{added_of, go_weight, order_of, rise, start_of, total, in_second}
use Rattle.mt_rendezvous.proofs.Keeps.{all_false}
use Rattle.mt_private.specs.declared.view.Resident.{Resident}
use Rattle.mt_private.specs.declared.view.YardView.{YardView}
use Rattle.mt_private.specs.OneByOne.{at_rest}
use Rattle.mt_private.specs.Residents.{FitsResident, FitsYard, Uncalled, held_of, system_of, uncalled_on, uncalled_start, yard_machine}
use Rattle.mt_private.specs.YardRule.{MeetsYard}
use Rattle.mt_private.specs.YardLaws.{IsLoad, LeftWhereCancelled, ReleasedWhereFull, ShownIsFound, YardState}
use Rattle.mt_private.specs.YardPlays.{OfSeat, YardSat, has_added}
use Rattle.mt_private.proofs.Residents.Moves.{held_at, processor_at}
use Rattle.mt_private.proofs.Residents.Seats.{there}
use Rattle.mt_thread_laws.proofs.Residents.Unique.{mapped_from}
use Rattle.mt_rendezvous.specs.declared.view.Added.TheVariants.{Never, Once, Twice}
use Rattle.mt_rendezvous.specs.declared.view.Added.{Added}
use Rattle.mt_thread_laws.proofs.Seats.{again_released, all_count}

-- ---- one that runs again

once : (go : Go) (added : Added) → FitsYard go added Running → added ≡ Once → go ≡ Cancelled
once go added f on =
    ⊎_elim
    (λ (x : added ≡ Never). absurd (cc))
    (λ x. ⊎_elim (λ z. z.1) (λ (z : (added ≡ Twice) × (go ≡ Given)). absurd (let e = z.0 in cc)) x)
    f

twice : (go : Go) (added : Added) → FitsYard go added Running → added ≡ Twice → go ≡ Given
twice go added f on =
    ⊎_elim
    (λ (x : added ≡ Never). absurd (cc))
    (λ x. ⊎_elim (λ (z : (added ≡ Once) × (go ≡ Cancelled)). absurd (let e = z.0 in cc)) (λ z. z.1) x)
    f

-- and so has one in Arrived2
again_arrived : (go : Go) (added : Added) (released : Bool) (p : Phase) → FitsYard go added p → (released ≡ true → in_second added ≡ true) → (is_arrived_again p || released) ≡ true → in_second added ≡ true
again_arrived go added released Arrived2 f by is = ap in_second f.0
again_arrived go added released other f by is = by is

reached_more : {r s m : Machine} → Reached r s → Uncalled s m → Reached r m
reached_more r uncalled_start = r
reached_more r (uncalled_on e u enabled quiet) = after e (reached_more r u) enabled

module _ (key : Key) (s : YardState) (m : MeetsYard key s) (j : ℕ) (v : YardView) (y : Resident) (at : get_elem? s.views j ≡ some v) (is : v.held ≡ y ∷ []) where
  abbrev t : Start
  t = start_of key

  here : get_elem? m.all y.held.number ≡ some y
  here = there key s m j v y at is

  fits : FitsResident t m.go y.held
  fits = (m.yard.resides.fits y.held.number y here).0

  fits_running : y.held.cpu.phase ≡ Running → FitsYard m.go y.held.added Running
  fits_running runs = subst (FitsYard m.go y.held.added) runs fits.fits

  reached : Reached (at_rest (system_of t)) (yard_machine t m.go m.system)
  reached = reached_more (after (Calls t.goal) at_start m.yard.resides.opens.enabled) m.yard.resides.reached

  -- each has added to the second count where this one has released
  each : m.go ≡ Given → has_released (order_of t m.go) y.held.cpu ≡ true → (i : ℕ) (z : Resident) → get_elem? m.all i ≡ some z → in_second z.held.added ≡ true
  each given released i z there_z = by (is_over (order_of t m.go) m.system.processors) refl
    where
      f : FitsResident t m.go z.held
      f = (m.yard.resides.fits i z there_z).0

      by_era : has_released (order_of t m.go) z.held.cpu ≡ true → in_second z.held.added ≡ true
      by_era = again_released (common_era t.cpus) z.held.cpu.era (in_second z.held.added) z.held.cpu.phase f.era

      none_left : (b : Bool) → has_released (order_of t m.go) z.held.cpu ≡ b → is_over (order_of t m.go) m.system.processors ≡ true → in_second z.held.added ≡ true
      none_left true e over = by_era e
      none_left false e over =
          let some_left : list_all (has_released (order_of t m.go)) m.system.processors ≡ false =
          ap (list_all (has_released (order_of t m.go))) m.yard.resides.stands.processors ∙ all_false (has_released (order_of t m.go)) (map held_of m.all) i z.held (held_at m.all i z there_z) e in
          let on : is_over (order_of t m.go) m.system.processors ≡ false = (λ n. some_left n || (is_cancelled (given n) && not (list_any (λ (p : Processor). is_waiting_to_pass p.phase) m.system.processors))) in
          absurd (cc)

      by : (b : Bool) → is_over (order_of t m.go) m.system.processors ≡ b → in_second z.held.added ≡ true
      by true over = none_left (has_released (order_of t m.go) z.held.cpu) refl over
      by false on = again_arrived m.go z.held.added (has_released (order_of t m.go) z.held.cpu) z.held.cpu.phase f.fits by_era (
          (barriers_hold_of (at_rest (system_of t)) (yard_machine t m.go m.system) (inl m.yard.resides.opens.quiet) reached).second
          (order_of t m.go) y.held.number i y.held.cpu z.held.cpu (ap (λ (b : Bool). if b then None else Some (order_of t m.go)) on)
          (processor_at t m.all m.go m.system m.yard.resides y.held.number y here) (processor_at t m.all m.go m.system m.yard.resides i z there_z) released)

  all_again : m.go ≡ Given → has_released (order_of t m.go) y.held.cpu ≡ true → (i : ℕ) (h : Held) → get_elem? (map held_of m.all) i ≡ some h → in_second h.added ≡ true
  all_again given released i h there_h = let z = mapped_from held_of m.all i h there_h in subst (λ (g : Held). in_second g.added ≡ true) z.2 (each given released i z.0 z.1)

pub left_where_cancelled : LeftWhereCancelled
left_where_cancelled key s m j v y at is on runs =
    let go : m.go ≡ Cancelled = once m.go y.held.added (fits_running key s m j v y at is runs) on in
    (go, (let e : slice_index s.words 0 ≡ total added_of (map held_of m.all) + 4294967296 = m.yard.first_count ∙ ap (λ (g : Go). total added_of (map held_of m.all) + go_weight g) go in omega arith))

pub released_where_full : ReleasedWhereFull
released_where_full key s m j v y at is on runs =
    let go : m.go ≡ Given = twice m.go y.held.added (fits_running key s m j v y at is runs) on in
    let up : rise (in_second y.held.added) y.held.cpu.phase ≡ 1 = (λ i. rise (in_second (on i)) (runs i)) in
    let era : y.held.cpu.era ≡ common_era key.cpus.value.items + rise (in_second y.held.added) y.held.cpu.phase = (fits key s m j v y at is).era in
    let released = lt-ltb (common_era key.cpus.value.items) y.held.cpu.era (omega arith) in
    (go, m.yard.second_count ∙ all_count (map held_of m.all) (all_again key s m j v y at is go released) ∙ length-map m.all held_of ∙ m.yard.resides.size)

-- ---- what a seat is shown

below : (n b : ℕ) → (n < b) ⊎ (b ≤ n)
below n b = one ((n + 1) - b) refl
  where
    one : (d : ℕ) → (n + 1) - b ≡ d → (n < b) ⊎ (b ≤ n)
    one zero e = inl (omega arith)
    one (suc d) e = inr (omega arith)

-- a view that a step leaves with what it was shown before
kept_shown : (v w : YardView) → v ≡ w → v.shown ≡ w.shown
kept_shown v w e = ap (λ (u : YardView). u.shown) e

module _ (st : Step Op) (me new : YardSat) (found : ℕ) where
  abbrev Shows : Type 0
  Shows = (IsLoad st 1 × (new.0.shown ≡ Some found)) ⊎ ((IsLoad st 1 → ⊥) × (new.0.shown ≡ me.0.shown))

  -- not by a step on the first count, by an addition, or by a step on an event word
  not_first : st.word ≡ 0 → new.0.shown ≡ me.0.shown → Shows
  not_first w same = inr ((λ (l : IsLoad st 1). let a = l.0 in let e : 0 ≡ 1 = sym w ∙ a in omega arith), same)

  not_load : st.first ≡ 1 → new.0.shown ≡ me.0.shown → Shows
  not_load a same = inr ((λ (l : IsLoad st 1). let b = l.1 in let e : 1 ≡ 0 = sym a ∙ b in omega arith), same)

  not_own : (i : ℕ) → st.word ≡ suc (suc i) → new.0.shown ≡ me.0.shown → Shows
  not_own i w same = inr ((λ (l : IsLoad st 1). let a = l.0 in let e : suc (suc i) ≡ 1 = sym w ∙ a in omega arith), same)

  by_kind : (root : Bool) (i n : ℕ) (spoken : Spoken Op) (added : Bool) → st.word ≡ i → st.first ≡ n → st.said ≡ spoken → OfSeat root i n spoken added st me found new → Shows
  by_kind true zero zero spoken added w a b tells = absurd tells
  by_kind true zero (suc zero) spoken added w a b tells = not_first w (kept_shown new.0 _ tells.1)
  by_kind true zero (suc (suc n)) spoken added w a b tells = not_first w (kept_shown new.0 _ tells.1)
  by_kind true (suc i) n spoken added w a b tells = absurd tells
  by_kind false zero zero spoken false w a b tells = not_first w (
      ⊎_elim
      (λ (low : found < 4294967296). kept_shown new.0 _ ((tells.1 low).1 tells.3.0 tells.3.1).0.0)
      (λ (high : 4294967296 ≤ found). kept_shown new.0 _ (tells.2 high tells.3.0 tells.3.1).0)
      (below found 4294967296))
  by_kind false zero zero spoken true w a b tells = not_first w (
      ⊎_elim
      (λ (low : found < 4294967296). one low (found == length me.0.start.cpus + 1) refl)
      (λ (high : 4294967296 ≤ found). kept_shown new.0 _ (tells.2 high tells.4.0 tells.4.1).0)
      (below found 4294967296))
    where
      one : found < 4294967296 → (c : Bool) → (found == length me.0.start.cpus + 1) ≡ c → new.0.shown ≡ me.0.shown
      one low true e = kept_shown new.0 _ (tells.1 (eqb-true found (length me.0.start.cpus + 1) e) tells.4.0 tells.4.1).0.0
      one low false e = kept_shown new.0 _ (tells.3 low (eqb-false found (length me.0.start.cpus + 1) e) tells.4.0 tells.4.1).0
  by_kind false zero (suc zero) spoken false w a b tells = not_first w (
      ⊎_elim
      (λ (low : found < 4294967296). kept_shown new.0 _ (tells.1 low tells.3.0 tells.3.1).0)
      (λ (high : 4294967296 ≤ found). kept_shown new.0 _ (tells.2 high tells.3.0 tells.3.1).0)
      (below found 4294967296))
  by_kind false zero (suc zero) spoken true w a b tells = absurd tells
  by_kind false zero (suc (suc n)) spoken added w a b tells = absurd tells
  by_kind false (suc zero) zero spoken added w a b tells = inl ((w, a), one (found == length me.0.start.cpus) refl)
    where
      one : (c : Bool) → (found == length me.0.start.cpus) ≡ c → new.0.shown ≡ Some found
      one true e = kept_shown new.0 _ (tells.1 (eqb-true found (length me.0.start.cpus) e) tells.3.0 tells.3.1).0
      one false e = kept_shown new.0 _ (tells.2 (eqb-false found (length me.0.start.cpus) e) tells.3.0 tells.3.1).0
  by_kind false (suc zero) (suc zero) spoken added w a b tells = not_load a (kept_shown new.0 _ (tells.1 tells.2.0 tells.2.1).0)
  by_kind false (suc zero) (suc (suc n)) spoken added w a b tells = absurd tells
  by_kind false (suc (suc i)) n none added w a b tells = not_own i w (kept_shown new.0 _ (tells.1 tells.3.0 tells.3.1).0)
  by_kind false (suc (suc i)) n (some op) added w a b tells = not_own i w (one (found == st.first) refl)
    where
      one : (c : Bool) → (found == st.first) ≡ c → new.0.shown ≡ me.0.shown
      one true e = kept_shown new.0 _ (tells.1 (eqb-true found st.first e) op b tells.5.0 tells.5.1).0
      one false e = kept_shown new.0 _ (tells.2 (eqb-false found st.first e) tells.5.0 tells.5.1).0

pub shown_is_found : ShownIsFound
shown_is_found st me new found tells = by_kind st me new found me.0.root st.word st.first st.said (has_added me.0.held) refl refl refl tells
