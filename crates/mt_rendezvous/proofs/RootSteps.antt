-- What the root's steps ask: the go and the cancel, a processor given away and taken back, and the start.
use Rattle.std.proofs.Common.{◌≡◌, ◌≢◌, ◌⊎◌, ◌≤◌, ℕ, zero, suc, ◌+◌, ◌%◌, ◌^◌, ◌<◌, Bool, true, false, true≢false, List, [], ◌∷◌, ◌++◌, map, length, get_or, set, sym, refl, ap, ◌∙◌, subst, inl, inr, ⊎_elim, arith, length-set, get_or-set_same, get_or-set_other, replicate, eqb, eq-eqb, ne_eqb, drop, drop-cons}
use Rattle.std.specs.Prelude.{slice_index, slice_get, Option, Some, None}
use Rattle.std.specs.Option.{option_map_or, option_map}
use mathlib.Core.Option.{none, some, some-injective, some-ne-none}
use mathlib.Core.Logic.{dite}
use native.Mathlib.Decide.{ℕ_discrete}
use lib.ListN.{get_elem?}
use Rattle.atomic_table.specs.Table.{State, Me, step, keeps, Allows, Splits, Joins, opening}
use Rattle.atomic_table.proofs.Lists.{at_set, set_here, set_else, at_longer, at_last}
use Rattle.mt_machine.specs.declared.phase.Phase.{Phase}
use Rattle.mt_machine.specs.declared.phase.Phase.TheVariants.{Taken, Arrived, Arrived2, Running}
use Rattle.mt_machine.specs.declared.go.Go.{Go}
use Rattle.mt_machine.specs.declared.go.Go.TheVariants.{Pending, Given, Cancelled}
use Rattle.mt_machine.specs.System.{Processor}
use Rattle.mt_machine.specs.Machine.{Machine, MachineEvent, Order, Goes, Cancels as CancelsUpdate, IsEnabled, next, remaining_order, stepped, common_era}
use Rattle.mt_machine.specs.Update.{Led, is_led, led_start, led_on}
use Rattle.mt_laws.proofs.Barrier.Claims.{all_get}
use Rattle.mt_rendezvous.specs.declared.view.Held.{Held}
use Rattle.mt_rendezvous.specs.declared.view.Start.{Start}
use Rattle.mt_rendezvous.specs.declared.view.View.{View}
use Rattle.mt_rendezvous.specs.declared.view.Key.{Key}
use Rattle.mt_rendezvous.specs.Station.{order_of, broadcast, Begins, cpu_of, first_count, first_memory_word, system_of, joined, start_of, held, numbered, first_view, total, added_of, again_of, go_weight, phase_word, phase_word_of, FitsPhase, FitsHeld, rise, Apart, Sits, IsHeld, Meets, one, others, root_left, pass_right, both, spent, in_first, seating}
use Rattle.mt_rendezvous.specs.Calls.{opening_words}
use Rattle.mt_rendezvous.specs.Plays.{Decided, after_event, with_go, Gives, Cancels, word_step}
use Rattle.mt_rendezvous.specs.Laws.{StationFollows, machine_of}
use Rattle.mt_rendezvous.specs.declared.view.Added.TheVariants.{Never, Once, Twice}
use Rattle.mt_rendezvous.specs.declared.view.Added.{Added}
use Rattle.mt_rendezvous.proofs.Keeps.{AllSit, told_of, total_small, weight_small, kept_present, IsUnderWay, stands_order, low_word}

-- the coordinator's word changes once
pub turned : (go new : Go) (added : Added) (p : Phase) → go ≡ Pending → FitsPhase go added p → FitsPhase new added p
turned go new added Taken is f = ⊎_elim (λ (t : added ≡ Never). inl t) (λ (t : (added ≡ Once) × (go ≡ Cancelled)). absurd (let e = t.1 in cc)) f
turned go new added Arrived is f = f
turned go new added Running is f = absurd (⊎_elim (λ (t : (added ≡ Once) × (go ≡ Cancelled)). let e = t.1 in cc) (λ (t : (added ≡ Twice) × (go ≡ Given)). let e = t.1 in cc) f)
turned go new added Arrived2 is f = absurd (let e = f.1 in cc)
turned go new added other is f = absurd (let e = f.1 in cc)

-- before it does, each processor is on its way
pending_under_way : (go : Go) (added : Added) (p : Phase) → go ≡ Pending → FitsPhase go added p → IsUnderWay p
pending_under_way go added Running is f = absurd (⊎_elim (λ (t : (added ≡ Once) × (go ≡ Cancelled)). let e = t.1 in cc) (λ (t : (added ≡ Twice) × (go ≡ Given)). let e = t.1 in cc) f)
pending_under_way go added other is f = tt

pub first_of : (l : List Held) → 0 < length l → (h : Held) × (get_elem? l 0 ≡ some h)
first_of [] b = absurd (omega arith)
first_of (x ∷ xs) b = (x, refl)

pub pick : Bool → ℕ → ℕ → ℕ
pick true a b = a
pick false a b = b

-- the owner of one number changes
abbrev pub owned : (ℕ → ℕ) → ℕ → ℕ → ℕ → ℕ
owned owner k j n = pick (eqb n k) j (owner n)

owned_here : (owner : ℕ → ℕ) (k j : ℕ) → owned owner k j k ≡ j
unfolding pick
owned_here owner k j = ap (λ (t : Bool). pick t j (owner k)) (eq-eqb k k refl)

owned_else : (owner : ℕ → ℕ) (k j n : ℕ) → n ≢ k → owned owner k j n ≡ owner n
unfolding pick
owned_else owner k j n ne = ap (λ (t : Bool). pick t j (owner n)) (ne_eqb n k ne)

at_end : (l : List View) (a b : View) (j : ℕ) → get_elem? (l ++ a ∷ []) j ≡ some b → (get_elem? l j ≡ some b) ⊎ ((j ≡ length l) × (a ≡ b))
at_end [] a b zero e = inr (refl, some-injective a b e)
at_end [] a b (suc j) e = absurd (some-ne-none b (sym e))
at_end (x ∷ xs) a b zero e = inl e
at_end (x ∷ xs) a b (suc j) e = ⊎_elim (λ t. inl t) (λ t. inr (ap suc t.0, t.1)) (at_end xs a b j e)

below_length : (l : List View) (j : ℕ) (v : View) → get_elem? l j ≡ some v → j < length l
below_length [] j v e = absurd (some-ne-none v (sym e))
below_length (x ∷ xs) zero v e = omega arith
below_length (x ∷ xs) (suc j) v e = let r = below_length xs j v e in omega arith

at_below : (l : List Held) (j : ℕ) (h : Held) → get_elem? l j ≡ some h → j < length l
at_below [] j h e = absurd (some-ne-none h (sym e))
at_below (x ∷ xs) zero h e = omega arith
at_below (x ∷ xs) (suc j) h e = let r = at_below xs j h e in omega arith

pub split_present : (views : List View) (id : ℕ) (v : View) (h : Held) (hs : List Held) → get_elem? views id ≡ some v → v.held ≡ h ∷ hs → (root_left v).held ≡ hs → (pass_right v).held ≡ h ∷ []
    → (k : ℕ) → IsHeld views k → IsHeld (set views id (root_left v) ++ pass_right v ∷ []) k
split_present views id v h hs at is left_held right_held k t = dite (ℕ_discrete t.0 id)
    (λ (e : t.0 ≡ id). let same : t.1 ≡ v = some-injective t.1 v (sym t.4 ∙ ap (get_elem? views) e ∙ at) in
    part t.2 t.3 (subst (λ (l : List Held). get_elem? l t.2 ≡ some t.3) (ap (λ (u : View). u.held) same ∙ is) t.5) t.6)
    (λ (n : t.0 ≢ id). (t.0, t.1, t.2, t.3, at_longer (set views id (root_left v)) (pass_right v ∷ []) t.0 t.1 (set_else views id t.0 (root_left v) n ∙ t.4), t.5, t.6))
  where
    part : (i : ℕ) (g : Held) → get_elem? (h ∷ hs) i ≡ some g → g.number ≡ k → IsHeld (set views id (root_left v) ++ pass_right v ∷ []) k
    part zero g e num = (
      length (set views id (root_left v)),
      pass_right v,
      0,
      h,
      at_last (set views id (root_left v)) (pass_right v) (length (set views id (root_left v))) refl,
      subst (λ (l : List Held). get_elem? l 0 ≡ some h) (sym right_held) refl,
      ap (λ (x : Held). x.number) (some-injective h g e) ∙ num,
    )
    part (suc i) g e num = (
      id,
      root_left v,
      i,
      g,
      at_longer (set views id (root_left v)) (pass_right v ∷ []) id (root_left v) (set_here views id (root_left v) (below_length views id v at)),
      subst (λ (l : List Held). get_elem? l i ≡ some g) (sym left_held) e,
      num,
    )

pub join_present : (views : List View) (id other : ℕ) (v w : View) (h : Held) → get_elem? views id ≡ some v → ¬ (other ≡ id) → get_elem? views other ≡ some w → w.held ≡ h ∷ [] → (both v w).held ≡ h ∷ v.held
    → (k : ℕ) → IsHeld views k → IsHeld (set (set views id (both v w)) other spent) k
join_present views id other v w h at apart there is joined k t = dite (ℕ_discrete t.0 other)
    (λ (e : t.0 ≡ other). let same : t.1 ≡ w = some-injective t.1 w (sym t.4 ∙ ap (get_elem? views) e ∙ there) in
    first_of_it t.2 t.3 (subst (λ (l : List Held). get_elem? l t.2 ≡ some t.3) (ap (λ (u : View). u.held) same ∙ is) t.5) t.6)
    (λ (n : t.0 ≢ other). dite (ℕ_discrete t.0 id)
    (λ (e : t.0 ≡ id). let same : t.1 ≡ v = some-injective t.1 v (sym t.4 ∙ ap (get_elem? views) e ∙ at) in
    (id, both v w, suc t.2, t.3, root_there, subst (λ (l : List Held). get_elem? l (suc t.2) ≡ some t.3) (sym joined) (subst (λ (u : View). get_elem? u.held t.2 ≡ some t.3) same t.5), t.6))
    (λ (m : t.0 ≢ id). (t.0, t.1, t.2, t.3, set_else (set views id (both v w)) other t.0 spent n ∙ (set_else views id t.0 (both v w) m ∙ t.4), t.5, t.6)))
  where
    root_there : get_elem? (set (set views id (both v w)) other spent) id ≡ some (both v w)
    root_there = set_else (set views id (both v w)) other id spent (λ e. apart (sym e)) ∙ set_here views id (both v w) (below_length views id v at)

    first_of_it : (i : ℕ) (g : Held) → get_elem? (h ∷ []) i ≡ some g → g.number ≡ k → IsHeld (set (set views id (both v w)) other spent) k
    first_of_it zero g e num = (id, both v w, 0, h, root_there, subst (λ (l : List Held). get_elem? l 0 ≡ some h) (sym joined) refl, ap (λ (x : Held). x.number) (some-injective h g e) ∙ num)
    first_of_it (suc i) g e num = absurd (some-ne-none g (sym e))

-- ---- seats, once a processor is given away, and once it is taken back

module _ (t : Start) (all : List Held) (go : Go) (owner : ℕ → ℕ) (views : List View) (seats : AllSit t all go owner views) (id : ℕ) (v : View) (at : get_elem? views id ≡ some v) where
  only : (h : Held) (own : ℕ → ℕ) (j i : ℕ) (g : Held) → get_elem? (h ∷ []) i ≡ some g → get_elem? all h.number ≡ some h → own h.number ≡ j → (get_elem? all g.number ≡ some g) × (own g.number ≡ j)
  only h own j zero g e x y = subst (λ (u : Held). (get_elem? all u.number ≡ some u) × (own u.number ≡ j)) (some-injective h g e) (x, y)
  only h own j (suc i) g e x y = absurd (some-ne-none g (sym e))

  pub seats_split : (h : Held) (hs : List Held) → v.held ≡ h ∷ hs → AllSit t all go (owned owner h.number (length views)) (set views id (root_left v) ++ pass_right v ∷ [])
  seats_split h hs is j u e =
      let seat = seats id v at in
      let new : ℕ = length views in
      let at_hs = λ (i : ℕ) (g : Held) (e : get_elem? hs i ≡ some g). subst (λ (l : List Held). get_elem? l (suc i) ≡ some g) (sym is) e in
      let mine = seat.holds zero h (subst (λ (l : List Held). get_elem? l zero ≡ some h) (sym is) refl) in
      let told = told_of t v h hs is seat.told in
      let apart : Apart (h ∷ hs) = subst Apart is seat.apart in
      let left_held : (root_left v).held ≡ hs = ap others is in
      let right_held : (pass_right v).held ≡ h ∷ [] = ap one is in
      let own' = owned owner h.number new in
      let length_l : length (set views id (root_left v)) ≡ length views = length-set views id (root_left v) in
      ⊎_elim
      (λ (x : get_elem? (set views id (root_left v)) j ≡ some u). ⊎_elim
      (λ (x : (j ≡ id) × (root_left v ≡ u)). subst (λ (x : ℕ × View). Sits t (seating all go own') x.0 x.1) (λ i. (sym x.0 i, x.1 i))
      (record {
        root = seat.root;
        told = inr told;
        holds = λ i g e'. let e'' : get_elem? hs i ≡ some g = subst (λ (l : List Held). get_elem? l i ≡ some g) left_held e' in
            let w = seat.holds (suc i) g (at_hs i g e'') in
            (w.0, owned_else owner h.number new g.number (apart.0 i g e'') ∙ w.1);
        apart = subst Apart (sym left_held) apart.1;
      }))
      (λ (x : (j ≢ id) × (get_elem? views j ≡ some u)). let its = seats j u x.1 in record {
        root = its.root;
        told = its.told;
        holds = λ i g e'. let w = its.holds i g e' in (w.0, owned_else owner h.number new g.number (λ same. x.0 (sym w.1 ∙ ap owner same ∙ mine.1)) ∙ w.1);
        apart = its.apart;
      })
      (at_set views id j (root_left v) u x))
      (λ (x : (j ≡ length (set views id (root_left v))) × (pass_right v ≡ u)). subst (λ (x : ℕ × View). Sits t (seating all go own') x.0 x.1) (λ i. (sym (x.0 ∙ length_l) i, x.1 i))
      (record {
        root = λ no. absurd (true≢false (sym no));
        told = inr told;
        holds = λ i g e'. only h own' new i g (subst (λ (l : List Held). get_elem? l i ≡ some g) right_held e') mine.0 (owned_here owner h.number new);
        apart = subst Apart (sym right_held) ((λ i g nothing. absurd (some-ne-none g (sym nothing))), tt);
      }))
      (at_end (set views id (root_left v)) (pass_right v) u j e)

  -- the root says so
  pub seats_decided : (new : Go) → v.root ≡ true → AllSit t all new owner (set views id (with_go v new))
  seats_decided new root j u e =
      let seat = seats id v at in
      let r = seat.root root in
      ⊎_elim
      (λ (x : (j ≡ id) × (with_go v new ≡ u)). subst (λ (y : ℕ × View). Sits t (seating all new owner) y.0 y.1) (λ i. (sym x.0 i, x.1 i))
      (record { root = λ _. (r.0, refl); told = seat.told; holds = seat.holds; apart = seat.apart }))
      (λ (x : (j ≢ id) × (get_elem? views j ≡ some u)). let its = seats j u x.1 in
      record { root = λ is. absurd (x.0 ((its.root is).0 ∙ sym r.0)); told = its.told; holds = its.holds; apart = its.apart })
      (at_set views id j (with_go v new) u e)

  gained : (h : Held) (own : ℕ → ℕ) (j i : ℕ) (g : Held) → get_elem? (h ∷ v.held) i ≡ some g → (get_elem? all h.number ≡ some h) × (own h.number ≡ j)
      → ((i' : ℕ) (g' : Held) → get_elem? v.held i' ≡ some g' → (get_elem? all g'.number ≡ some g') × (own g'.number ≡ j)) → (get_elem? all g.number ≡ some g) × (own g.number ≡ j)
  gained h own j zero g e x rest = subst (λ (u : Held). (get_elem? all u.number ≡ some u) × (own u.number ≡ j)) (some-injective h g e) x
  gained h own j (suc i) g e x rest = rest i g e

  told_root : v.root ≡ true → ((v.held ≡ []) × (v.root ≡ false)) ⊎ (v.start ≡ t) → v.start ≡ t
  told_root root (inl nothing) = absurd (let e = nothing.1 in cc)
  told_root root (inr x) = x

  pub seats_joined : (other : ℕ) (w : View) (h : Held) → v.root ≡ true → ¬ (other ≡ id) → get_elem? views other ≡ some w → w.held ≡ h ∷ [] → AllSit t all go (owned owner h.number id) (set (set views id (both v w)) other spent)
  seats_joined other w h root apart there is j u e =
      let seat = seats id v at in
      let its = seats other w there in
      let theirs = its.holds zero h (subst (λ (l : List Held). get_elem? l zero ≡ some h) (sym is) refl) in
      let told = told_root root seat.told in
      let own' = owned owner h.number id in
      let joined : (both v w).held ≡ h ∷ v.held = ap (λ (l : List Held). l ++ v.held) is in
      let away = λ (i : ℕ) (g : Held) (e : get_elem? v.held i ≡ some g) (same : g.number ≡ h.number). apart (sym theirs.1 ∙ sym (ap owner same) ∙ (seat.holds i g e).1) in
      ⊎_elim
      (λ (x : (j ≡ other) × (spent ≡ u)). subst (Sits t (seating all go own') j) x.1 (record { root = λ no. absurd (true≢false (sym no)); told = inl (refl, refl); holds = λ i g nothing. absurd (some-ne-none g (sym nothing)); apart = tt }))
      (λ (x : (j ≢ other) × (get_elem? (set views id (both v w)) j ≡ some u)). ⊎_elim
      (λ (r : (j ≡ id) × (both v w ≡ u)). subst (λ (x : ℕ × View). Sits t (seating all go own') x.0 x.1) (λ i. (sym r.0 i, r.1 i))
      (record {
        root = seat.root;
        told = inr told;
        holds = λ i g e'. gained h own' id i g (subst (λ (l : List Held). get_elem? l i ≡ some g) joined e') (theirs.0, owned_here owner h.number id)
            (λ i' g' e''. let o = seat.holds i' g' e'' in (o.0, owned_else owner h.number id g'.number (away i' g' e'') ∙ o.1));
        apart = subst Apart (sym joined) (away, seat.apart);
      }))
      (λ (r : (j ≢ id) × (get_elem? views j ≡ some u)). let us = seats j u r.1 in record {
        root = us.root;
        told = us.told;
        holds = λ i g e'. let o = us.holds i g e' in (o.0, owned_else owner h.number id g.number (λ same. x.0 (sym o.1 ∙ ap owner same ∙ theirs.1)) ∙ o.1);
        apart = us.apart;
      })
      (at_set views id j (both v w) u x.1))
      (at_set (set views id (both v w)) other j spent u e)

module _ (key : Key) where
  abbrev St : Type 0
  St = State (Unit {0}) View

  abbrev start : Start
  start = start_of key

  -- the coordinator's event
  pub record Turns (m : Machine) (e : MachineEvent) (after : Machine) : Type 0 where
    pub enabled : IsEnabled m e
    pub moves : next m e ≡ after

  abbrev Word : Go → MachineEvent → Type 0
  Word go e = (all : List Held) (words : List ℕ) → (joined start all Pending words).order ≡ Some (order_of start Pending) → Turns (joined start all Pending words) e (joined start all go words)

  goes : Word Given Goes
  goes all words order = record {
    enabled = ap (option_map (λ (o : Order). o.go)) order;
    moves = ap (λ (x : Option Order). option_map_or (λ o. record (joined start all Pending words) { order = remaining_order (record o { go = Given }) (map cpu_of all) }) x (joined start all Pending words)) order;
  }

  gone : Word Cancelled CancelsUpdate
  gone all words order = record {
    enabled = ap (option_map (λ (o : Order). o.go)) order;
    moves = ap (λ (x : Option Order). option_map_or (λ o. record (joined start all Pending words) { order = remaining_order (record o { go = Cancelled }) (map cpu_of all) }) x (joined start all Pending words)) order;
  }

  pending : (s : St) (m : Meets key s) → m.go ≡ Pending → (joined start m.all Pending s.words).order ≡ Some (order_of start Pending)
  pending s m was =
      let h = first_of m.all m.some_one in
      let f = (m.fits 0 h.0 h.1).0 in
      subst (λ (g : Go). (joined start m.all g s.words).order ≡ Some (order_of start g)) was
      (stands_order start m.all m.go s.words 0 h.0 h.1 (pending_under_way m.go h.0.added h.0.cpu.phase was f.fits) f)

  root_told : (s : St) (m : Meets key s) (id : ℕ) (v : View) → get_elem? s.views id ≡ some v → v.root ≡ true → v.start ≡ start
  root_told s m id v at root = by_case (m.seats id v at).told
    where
      by_case : ((v.held ≡ []) × (v.root ≡ false)) ⊎ (v.start ≡ start) → v.start ≡ start
      by_case (inl nothing) = absurd (let e = nothing.1 in cc)
      by_case (inr x) = x

  -- what comes of the coordinator's addition to word 0
  pub record Turned (s : St) (m : Meets key s) (id : ℕ) (v : View) (new : Go) (n : ℕ) (e : MachineEvent) : Type 0 where
    pub follows : StationFollows key s (record { words = set s.words 0 n; homes = s.homes; views = set s.views id (with_go v new) }) m (Some e)
    pub steps : Decided v.start (word_step 0 (get_or s.words 0 0) n) e new

  decides : (s : St) (m : Meets key s) (id : ℕ) (v : View) (new : Go) (n : ℕ) (e : MachineEvent) → get_elem? s.views id ≡ some v → v.root ≡ true → (was : m.go ≡ Pending) → Word new e → is_led e ≡ true
      → (total added_of m.all ≤ length m.all → n ≡ total added_of m.all + go_weight new) → Turned s m id v new n e
  decides s m id v new n e at root was word leads count =
      let wide = m.wide in
      let y = m.second in
      let here : get_or (set s.words 0 n) 0 0 ≡ n = get_or-set_same s.words 0 n 0 (omega arith) in
      let there : get_or (set s.words 0 n) 1 0 ≡ get_or s.words 1 0 = get_or-set_other s.words 0 1 n 0 (λ (e : 1 ≡ 0). omega arith) in
      let a = word m.all s.words (pending s m was) in
      let l : Led (broadcast start) (joined start m.all Pending s.words) = subst (λ (g : Go). Led (broadcast start) (joined start m.all g s.words)) was m.led_to in
      let low : joined start m.all new (set s.words 0 n) ≡ joined start m.all new s.words = ap (stepped (order_of start new)) (sym (low_word start m.all s.words 0 n (omega arith))) in
      let becomes : joined start m.all new (set s.words 0 n) ≡ next (joined start m.all Pending s.words) e = low ∙ sym a.moves in
      record {
        steps = subst (λ (y : Start). Decided y (word_step 0 (get_or s.words 0 0) n) e new) (sym (root_told s m id v at root))
            (record { all = m.all; words = s.words; led = l; first = m.first ∙ ap (first_count m.all) was; second = y; word = refl; enabled = a.enabled; becomes = becomes });
        follows = record {
          enabled = subst (λ (g : Go). IsEnabled (joined start m.all g s.words) e) (sym was) a.enabled;
          becomes = becomes ∙ ap (λ (g : Go). next (joined start m.all g s.words) e) (sym was);
          kept = record {
            all = m.all;
            go = new;
            owner = m.owner;
            begins = m.begins;
            led_to = subst (Led (broadcast start)) (sym becomes) (led_on e l a.enabled leads);
            size = m.size;
            some_one = m.some_one;
            few = m.few;
            wide = length-set s.words 0 n ∙ wide;
            first = here ∙ count (total_small added_of (λ g. weight_small (in_first g.added)) m.all);
            second = there ∙ y;
            codes = λ k h e. get_or-set_other s.words 0 (k + 2) n 0 (λ (q : k + 2 ≡ 0). omega arith) ∙ m.codes k h e;
            present = λ k b. kept_present s.views id v (with_go v new) at (λ i h e. (i, h, e, refl)) k (m.present k b);
            fits = λ k h e. let f = m.fits k h e in (record { first = f.0.first; fits = turned m.go new h.added h.cpu.phase was f.0.fits; era = f.0.era }, f.1);
            seats = seats_decided start m.all m.go m.owner s.views m.seats id v at new root;
          };
        };
      }

  -- the go and the cancel
  pub giving : (s : St) (m : Meets key s) (id : ℕ) (v : View) → get_elem? s.views id ≡ some v → v.root ≡ true → v.go ≡ Pending → Turned s m id v Given ((get_or s.words 0 0 + 1) % 18446744073709551616) Goes
  giving s m id v at root is =
      let x = m.first in
      let few = m.few in
      let was : m.go ≡ Pending = sym ((m.seats id v at).root root).1 ∙ is in
      let w : go_weight m.go ≡ 0 = ap go_weight was in
      decides s m id v Given ((get_or s.words 0 0 + 1) % 18446744073709551616) Goes at root was goes refl (λ le. omega arith)

  pub cancelling : (s : St) (m : Meets key s) (id : ℕ) (v : View) → get_elem? s.views id ≡ some v → v.root ≡ true → v.go ≡ Pending → Turned s m id v Cancelled ((get_or s.words 0 0 + 4294967296) % 18446744073709551616) CancelsUpdate
  cancelling s m id v at root is =
      let x = m.first in
      let few = m.few in
      let was : m.go ≡ Pending = sym ((m.seats id v at).root root).1 ∙ is in
      let w : go_weight m.go ≡ 0 = ap go_weight was in
      decides s m id v Cancelled ((get_or s.words 0 0 + 4294967296) % 18446744073709551616) CancelsUpdate at root was gone refl (λ le. omega arith)

  pub gives : (slots id : ℕ) (me : Me (Unit {0}) View) → me.0.root ≡ true → me.0.go ≡ Pending
      → Allows (Meets key) slots id me 0 (λ n. (n + 1) % 2 ^ 64) (Gives (step slots 0 1 0 none) me)
  gives slots id me root is s m _ at small = let p = giving s m id me.0 at root is in (with_go me.0 Given, keeps, tt, p.follows.kept, (refl, refl, p.steps))

  pub cancels : (slots id : ℕ) (me : Me (Unit {0}) View) → me.0.root ≡ true → me.0.go ≡ Pending
      → Allows (Meets key) slots id me 0 (λ n. (n + 4294967296) % 2 ^ 64) (Cancels (step slots 0 4294967296 0 none) me)
  cancels slots id me root is s m _ at small = let p = cancelling s m id me.0 at root is in (with_go me.0 Cancelled, keeps, tt, p.follows.kept, (refl, refl, p.steps))

  same_machine : (s : St) (m : Meets key s) → machine_of key s m ≡ after_event (machine_of key s m) None
  same_machine s m = refl

  -- a processor is given away to a new pass
  pub splitting : (s : St) (m : Meets key s) (id : ℕ) (v : View) (h : Held) (hs : List Held) → get_elem? s.views id ≡ some v → v.held ≡ h ∷ hs
      → StationFollows key s (record { words = s.words; homes = s.homes; views = set s.views id (root_left v) ++ pass_right v ∷ [] }) m None
  splitting s m id v h hs at is = record {
    enabled = tt;
    becomes = same_machine s m;
    kept = record {
      all = m.all;
      go = m.go;
      owner = owned m.owner h.number (length s.views);
      begins = m.begins;
      led_to = m.led_to;
      size = m.size;
      some_one = m.some_one;
      few = m.few;
      wide = m.wide;
      first = m.first;
      second = m.second;
      codes = m.codes;
      present = λ k b. split_present s.views id v h hs at is (ap others is) (ap one is) k (m.present k b);
      fits = m.fits;
      seats = seats_split start m.all m.go m.owner s.views m.seats id v at h hs is;
    };
  }

  pub splits : (id : ℕ) (v : View) (h : Held) (hs : List Held) → v.held ≡ h ∷ hs → Splits (Meets key) id v (root_left v) (pass_right v)
  splits id v h hs is s m at = (splitting s m id v h hs at is).kept

  -- a pass's processor is taken back
  pub joining : (s : St) (m : Meets key s) (id other : ℕ) (v w : View) (h : Held) → get_elem? s.views id ≡ some v → v.root ≡ true → ¬ (other ≡ id) → get_elem? s.views other ≡ some w → w.held ≡ h ∷ []
      → StationFollows key s (record { words = s.words; homes = s.homes; views = set (set s.views id (both v w)) other spent }) m None
  joining s m id other v w h at root apart there is = record {
    enabled = tt;
    becomes = same_machine s m;
    kept = record {
      all = m.all;
      go = m.go;
      owner = owned m.owner h.number id;
      begins = m.begins;
      led_to = m.led_to;
      size = m.size;
      some_one = m.some_one;
      few = m.few;
      wide = m.wide;
      first = m.first;
      second = m.second;
      codes = m.codes;
      present = λ k b. join_present s.views id other v w h at apart there is (ap (λ (l : List Held). l ++ v.held) is) k (m.present k b);
      fits = m.fits;
      seats = seats_joined start m.all m.go m.owner s.views m.seats id v at other w h root apart there is;
    };
  }

  pub joins : (id other : ℕ) (v w : View) (h : Held) → v.root ≡ true → w.held ≡ h ∷ [] → Joins (Meets key) id v other w (both v w) spent
  joins id other v w h root is s m at apart there = (joining s m id other v w h at root apart was is).kept
    where
      was : get_elem? s.views other ≡ some w
      was = ⊎_elim (λ (t : (other ≡ id) × (both v w ≡ w)). absurd (apart t.0)) (λ (t : (other ≢ id) × (get_elem? s.views other ≡ some w)). t.1) (at_set s.views id other (both v w) w there)

pub numbered_cpus : (k : ℕ) (cs : List Processor) → map cpu_of (numbered k cs) ≡ cs
numbered_cpus k [] = refl
numbered_cpus k (c ∷ cs) = λ i. c ∷ numbered_cpus (k + 1) cs i

pub numbered_length : (k : ℕ) (cs : List Processor) → length (numbered k cs) ≡ length cs
numbered_length k [] = refl
numbered_length k (c ∷ cs) = ap suc (numbered_length (k + 1) cs)

pub numbered_none : (f : Held → ℕ) → ((k : ℕ) (c : Processor) → f (held k c Never) ≡ 0) → (k : ℕ) (cs : List Processor) → total f (numbered k cs) ≡ 0
numbered_none f z k [] = refl
numbered_none f z k (c ∷ cs) = let a = z k c in let r = numbered_none f z (k + 1) cs in omega arith

pub numbered_at : (k : ℕ) (cs : List Processor) (j : ℕ) (h : Held) → get_elem? (numbered k cs) j ≡ some h → (c : Processor) × (get_elem? cs j ≡ some c) × (h ≡ held (k + j) c Never)
numbered_at k [] j h e = absurd (some-ne-none h (sym e))
numbered_at k (c ∷ cs) zero h e = let n : k ≡ k + zero = omega arith in (c, refl, sym (some-injective (held k c Never) h e) ∙ ap (λ (i : ℕ). held i c Never) n)
numbered_at k (c ∷ cs) (suc j) h e = let r = numbered_at (k + 1) cs j h e in let n : k + 1 + j ≡ k + suc j = omega arith in (r.0, r.1, r.2 ∙ ap (λ (i : ℕ). held i r.0 Never) n)

pub numbered_apart : (k : ℕ) (cs : List Processor) → Apart (numbered k cs)
numbered_apart k [] = tt
numbered_apart k (c ∷ cs) = ((λ i h e same. let r = numbered_at (k + 1) cs i h e in let n : h.number ≡ k + 1 + i = ap (λ (g : Held). g.number) r.2 in omega arith), numbered_apart (k + 1) cs)

pub numbered_some : (k : ℕ) (cs : List Processor) (j : ℕ) → j < length (numbered k cs) → (h : Held) × (get_elem? (numbered k cs) j ≡ some h) × (h.number ≡ k + j)
numbered_some k [] j b = absurd (omega arith)
numbered_some k (c ∷ cs) zero b = (held k c Never, refl, omega arith)
numbered_some k (c ∷ cs) (suc j) b = let r = numbered_some (k + 1) cs j (omega arith) in let n = r.2 in (r.0, r.1, omega arith)

-- the words at the start: the counts and the phases are 0, and memory follows
pub record Opens (key : Key) (words : List ℕ) : Type 0 where
  pub wide : length words ≡ first_memory_word (start_of key) + length key.ram.value.words
  pub zeros : (i : ℕ) → i < first_memory_word (start_of key) → slice_index words i ≡ 0
  pub memory : drop (first_memory_word (start_of key)) words ≡ key.ram.value.words

-- the rule holds at the start
pub begins : (key : Key) (words : List ℕ) → Begins (start_of key) → 0 < length key.cpus.value.items → length key.cpus.value.items < 65536 → Opens key words → Meets key (opening words [] (first_view key))
begins key words broad present few opens =
    let cs = key.cpus.value.items in
    let size = numbered_length 0 cs in
    let none_added : total added_of (numbered 0 cs) ≡ 0 = numbered_none added_of (λ k c. refl) 0 cs in
    let none_again : total again_of (numbered 0 cs) ≡ 0 = numbered_none again_of (λ k c. refl) 0 cs in
    let zeros = opens.zeros in
    record {
      all = numbered 0 cs;
      go = Pending;
      owner = λ _. 0;
      begins = broad;
      led_to = subst (Led (broadcast (start_of key))) (sym first_joined) led_start;
      size = size;
      some_one = omega arith;
      few = omega arith;
      wide = opens.wide;
      first = zeros 0 (omega arith) ∙ omega arith;
      second = zeros 1 (omega arith) ∙ sym none_again;
      codes = λ k h e. let r = numbered_at 0 cs k h e in zeros (k + 2) (let b = at_below (numbered 0 cs) k h e in omega arith) ∙ sym (ap phase_word_of r.2 ∙ ap (phase_word false) (taken k r.0 r.1));
      present = λ k b. let r = numbered_some 0 cs k b in let n = r.2 in (0, first_view key, k, r.0, refl, r.1, omega arith);
      fits = fits_first;
      seats = λ j v e. only_first j v e cs size;
    }
  where
    at_std : (l : List Processor) (k : ℕ) (c : Processor) → get_elem? l k ≡ some c → slice_get l k ≡ Some c
    at_std [] k c e = absurd (some-ne-none c (sym e))
    at_std (x ∷ xs) zero c e = ap (λ (y : Processor). Some y) (some-injective x c e)
    at_std (x ∷ xs) (suc k) c e = at_std xs k c e

    taken : (k : ℕ) (c : Processor) → get_elem? key.cpus.value.items k ≡ some c → c.phase ≡ Taken
    taken k c e = all_get (λ p. p.phase ≡ Taken) key.cpus.value.items broad.broadcasts.taken k c (at_std key.cpus.value.items k c e)

    first_is : (k : ℕ) (c : Processor) → get_elem? key.cpus.value.items k ≡ some c → slice_get key.cpus.value.items (0 + k) ≡ Some (record c { phase = Taken })
    first_is k c e = let n : 0 + k ≡ k = omega arith in ap (slice_get key.cpus.value.items) n ∙ at_std key.cpus.value.items k c e ∙ ap (λ (ph : Phase). Some (record c { phase = ph })) (taken k c e)

    fits_first : (k : ℕ) (h : Held) → get_elem? (numbered 0 key.cpus.value.items) k ≡ some h → FitsHeld (start_of key) Pending h × (h.number ≡ k)
    fits_first k h e = let r = numbered_at 0 key.cpus.value.items k h e in
        let era : r.0.era ≡ common_era key.cpus.value.items = all_get (λ p. p.era ≡ common_era key.cpus.value.items) key.cpus.value.items broad.broadcasts.one_era k r.0 (at_std key.cpus.value.items k r.0 r.1) in
        subst (λ (g : Held). FitsHeld (start_of key) Pending g × (g.number ≡ k)) (sym r.2)
        (record { first = λ _. first_is k r.0 r.1; fits = subst (λ p. FitsPhase Pending Never p) (sym (taken k r.0 r.1)) (inl refl); era = era ∙ rises r.0.phase (taken k r.0 r.1) (common_era key.cpus.value.items) }, omega arith)
      where
        rises : (p : _) → p ≡ Taken → (n : ℕ) → n ≡ n + rise false p
        rises p e n = let z : rise false p ≡ 0 = ap (rise false) e in omega arith

    some_first : (h : Held) × (get_elem? (numbered 0 key.cpus.value.items) 0 ≡ some h)
    some_first = first_of (numbered 0 key.cpus.value.items) (let size = numbered_length 0 key.cpus.value.items in omega arith)

    first_joined : joined (start_of key) (numbered 0 key.cpus.value.items) Pending words ≡ broadcast (start_of key)
    first_joined = λ i. record { system = same i; order = order i }
      where
        same : system_of (start_of key) (numbered 0 key.cpus.value.items) words ≡ record { processors = key.cpus.value.items; memory = key.ram.value }
        same = λ i. record { processors = numbered_cpus 0 key.cpus.value.items i; memory = record { windows = key.ram.value.windows; words = opens.memory i } }

        order : (joined (start_of key) (numbered 0 key.cpus.value.items) Pending words).order ≡ Some (order_of (start_of key) Pending)
        order = let f = fits_first 0 some_first.0 some_first.1 in
            stands_order (start_of key) (numbered 0 key.cpus.value.items) Pending words 0 some_first.0 some_first.1 (pending_under_way Pending some_first.0.added some_first.0.cpu.phase refl f.0.fits) f.0

    numbers : (cs : List Processor) (i : ℕ) (h : Held) → get_elem? (numbered 0 cs) i ≡ some h → (get_elem? (numbered 0 cs) h.number ≡ some h) × (◌≡◌ {A = ℕ} 0 0)
    numbers cs i h e = let r = numbered_at 0 cs i h e in let n : i ≡ h.number = omega (arith, ap (λ (g : Held). g.number) r.2) in (subst (λ (k : ℕ). get_elem? (numbered 0 cs) k ≡ some h) n e, refl)

    only_first : (j : ℕ) (v : View) → get_elem? (first_view key ∷ []) j ≡ some v → (cs : List Processor) → length (numbered 0 cs) ≡ length cs
        → Sits (start_of key) (seating (numbered 0 key.cpus.value.items) Pending (λ _. 0)) j v
    only_first zero v e cs size = subst (λ (u : View). Sits (start_of key) (seating (numbered 0 key.cpus.value.items) Pending (λ _. 0)) 0 u) (some-injective (first_view key) v e)
        (record { root = λ _. (refl, refl); told = inr refl; holds = numbers key.cpus.value.items; apart = numbered_apart 0 key.cpus.value.items })
    only_first (suc j) v e cs size = absurd (some-ne-none v (sym e))

-- the processors from number i on begin with the i-th
pub offered : (cpus : List Processor) (i : ℕ) (d : Processor) → i < length cpus → numbered i (drop i cpus) ≡ held i (get_or cpus i d) Never ∷ numbered (i + 1) (drop (i + 1) cpus)
offered cpus i d h = let e : drop i cpus ≡ get_or cpus i d ∷ drop (suc i) cpus = drop-cons cpus i d h in let n : suc i ≡ i + 1 = omega arith in
    ap (numbered i) e ∙ ap (λ (k : ℕ). held i (get_or cpus i d) Never ∷ numbered (i + 1) (drop k cpus)) n

pub at_get : (l : List Processor) (i : ℕ) (d : Processor) → i < length l → get_elem? l i ≡ some (get_or l i d)
at_get [] i d h = absurd (omega arith)
at_get (x ∷ xs) zero d h = refl
at_get (x ∷ xs) (suc i) d h = at_get xs i d (omega arith)

drop_std : (l : List Processor) (i : ℕ) (c : Processor) → slice_get l i ≡ Some c → (drop i l ≡ c ∷ drop (suc i) l) × (i < length l)
drop_std [] i c e = absurd (cc)
drop_std (x ∷ xs) zero c e = let h : x ≡ c = cc in ((λ k. h k ∷ xs), omega arith)
drop_std (x ∷ xs) (suc i) c e = let r = drop_std xs i c e in (r.0, (let b = r.1 in omega arith))

-- the processors from number i on begin with the one that stands there
pub offered_at : (cpus : List Processor) (i : ℕ) (c : Processor) → slice_get cpus i ≡ Some c → (numbered i (drop i cpus) ≡ held i c Never ∷ numbered (i + 1) (drop (i + 1) cpus)) × (i < length cpus)
offered_at cpus i c e =
    let r = drop_std cpus i c e in
    let n : suc i ≡ i + 1 = omega arith in
    (ap (numbered i) r.0 ∙ ap (λ (k : ℕ). held i c Never ∷ numbered (i + 1) (drop k cpus)) n, r.1)

-- ---- the words at the start

zero_at : (n i : ℕ) (m : List ℕ) → i < n → get_or (replicate n 0 ++ m) i 0 ≡ 0
zero_at zero i m b = absurd (omega arith)
zero_at (suc n) zero m b = refl
zero_at (suc n) (suc i) m b = zero_at n i m (omega arith)

after_zeros : (n : ℕ) (m : List ℕ) → drop n (replicate n 0 ++ m) ≡ m
after_zeros zero m = refl
after_zeros (suc n) m = after_zeros n m

zeros_length : (n : ℕ) (m : List ℕ) → length (replicate n 0 ++ m) ≡ n + length m
zeros_length zero m = omega arith
zeros_length (suc n) m = let r = zeros_length n m in omega arith

pub opens_of : (key : Key) (count : ℕ) (ws : List ℕ) → count ≡ length key.cpus.value.items → ws ≡ opening_words count key.ram.value.words → Opens key ws
opens_of key count ws same is = record {
  wide = ap (λ (l : List ℕ). length l) is ∙ zeros_length (count + 2) key.ram.value.words ∙ ap (λ (n : ℕ). n + 2 + length key.ram.value.words) same;
  zeros = λ i b. ap (λ (l : List ℕ). get_or l i 0) is ∙ zero_at (count + 2) i key.ram.value.words (omega arith);
  memory = ap (λ (n : ℕ). drop (n + 2) ws) (sym same) ∙ ap (drop (count + 2)) is ∙ after_zeros (count + 2) key.ram.value.words;
}
