-- What the steps of a pass ask.
use Rattle.std.proofs.Common.{◌≡◌, ◌≢◌, ◌⊎◌, ◌≤◌, ℕ, zero, ◌+◌, ◌%◌, ◌^◌, ◌<◌, Bool, true, false, ◌&&◌, List, [], ◌∷◌, map, length, get_or, set, drop, sym, refl, ap, ◌∙◌, subst, inl, inr, ⊎_elim, arith, get_or-set_same, get_or-set_other}
use Rattle.std.specs.Prelude.{Option, Some, None, if◌then◌else◌, slice_set, slice_get}
use Rattle.std.specs.List.{list_all}
use Rattle.std.specs.Option.{option_map_or}
use mathlib.Core.Option.{none, some}
use mathlib.Core.Logic.{dite}
use native.Mathlib.Decide.{ℕ_discrete}
use lib.ListN.{get_elem?}
use Rattle.atomic_table.specs.Table.{State, Me, Act, Valid, carried_after, step, keeps, stepped, Allows}
use Rattle.atomic_table.proofs.Lists.{set_here}
use Rattle.mt_machine.specs.declared.phase.Phase.{Phase}
use Rattle.mt_machine.specs.declared.phase.Phase.TheVariants.{Taken, Arrived, Restored, Arrived2, Running}
use Rattle.mt_machine.specs.declared.event.Event.{Event}
use Rattle.mt_machine.specs.declared.event.Event.TheVariants.{Arrive, Leave, Pass, ArriveAgain, Release, WriteBack, SetNoFill}
use Rattle.mt_machine.specs.declared.go.Go.{Go}
use Rattle.mt_machine.specs.declared.go.Go.TheVariants.{Pending, Given, Cancelled}
use Rattle.mt_machine.specs.Memory.{place}
use Rattle.mt_machine.specs.System.{Processor, System}
use Rattle.mt_machine.specs.Machine.{Order, due, own_step, before_own, has_arrived, has_arrived_again, is_changing, is_cancelled, is_given, common_era}
use Rattle.mt_machine.specs.Update.{Led}
use Rattle.mt_cpu.specs.Steps.{is_local}
use Rattle.mt_rendezvous.specs.declared.view.Held.{Held}
use Rattle.mt_rendezvous.specs.declared.view.Start.{Start}
use Rattle.mt_rendezvous.specs.declared.view.View.{View}
use Rattle.mt_rendezvous.specs.declared.view.Key.{Key}
use Rattle.mt_rendezvous.specs.Station.{Begins, order_of, broadcast, cpu_of, first_memory_word, memory_of, system_of, joined, start_of, view, with_held, weight, total, added_of, again_of, go_weight, code, phase_word, phase_word_of, FitsPhase, FitsHeld, Waits, Meets, rise, in_first, in_second}
use Rattle.mt_machine.specs.Machine.{MachineEvent, Steps as Does}
use Rattle.mt_rendezvous.specs.Plays.{PassSteps, StandsInUpdate, Of, does, arrive, late, arrive_again, own_event, work, with_shown, written, Arrives, Passes, Works, ArrivesAgain, Releases, word_step}
use Rattle.mt_rendezvous.proofs.Keeps.{Placed, placed, Comes, comes_by, comes_still, total_set, total_small, total_full, weight_small, at_cpu, at_less, all_true, acts, low_word, stands_order, drop_set, codes_kept, codes_stored, IsUnderWay}
use Rattle.mt_rendezvous.specs.declared.view.Added.TheVariants.{Never, Once, Twice}
use Rattle.mt_rendezvous.specs.declared.view.Added.{Added}
use Rattle.mt_rendezvous.proofs.Local.{changing_under_way, local_changing, fits_changing, changing_fits, changing_waits_not, word_is_code, same_era, fits_on, arrived_of, again_of_held, IsWork, works_in, takes_not, written_not, written_is}

pub only : (w g : Held) → w ∷ [] ≡ g ∷ [] → w ≡ g
only w g e = cc

-- what is so of the one processor
pub of_one : (v : View) (h : Held) (P : Held → Type 0) → v.held ≡ h ∷ [] → P h → Of v P
of_one v h P is p g same = subst P (only h g (sym is ∙ same)) p

pub moved : (v : View) (f : Held → Held) (h : Held) → v.held ≡ h ∷ [] → view v.root (f h ∷ []) v.go v.shown v ≡ with_held v (map f v.held)
moved v f h is = ap (λ (hs : List Held). view v.root (map f hs) v.go v.shown v) (sym is)

pub moved_shown : (v : View) (f : Held → Held) (h : Held) (n : ℕ) → v.held ≡ h ∷ [] → view v.root (f h ∷ []) v.go (Some n) v ≡ with_shown (with_held v (map f v.held)) n
moved_shown v f h n is = ap (λ (hs : List Held). view v.root (map f hs) v.go (Some n) v) (sym is)

pub unmoved : (v : View) (h : Held) → v.held ≡ h ∷ [] → view v.root (h ∷ []) v.go v.shown v ≡ v
unmoved v h is = ap (λ (hs : List Held). view v.root hs v.go v.shown v) (sym is)

pub shown_only : (v : View) (h : Held) (n : ℕ) → v.held ≡ h ∷ [] → view v.root (h ∷ []) v.go (Some n) v ≡ with_shown v n
shown_only v h n is = ap (λ (hs : List Held). view v.root hs v.go (Some n) v) (sym is)

-- ---- the coordinator's word in word 0

pub go_small : (go : Go) → go_weight go ≤ 4294967296
go_small Pending = omega arith
go_small Given = omega arith
go_small Cancelled = omega arith

-- whether the word shows the cancel
pub shows : (go : Go) (n x : ℕ) → x ≡ n + go_weight go → n < 65536 → ((go ≡ Cancelled) × (4294967296 ≤ x)) ⊎ ((go ≢ Cancelled) × (x < 4294967296))
shows Pending n x e few = inr ((λ (e : Pending ≡ Cancelled). cc), omega arith)
shows Given n x e few = inr ((λ (e : Given ≡ Cancelled). cc), omega arith)
shows Cancelled n x e few = inl (refl, omega arith)

-- the count is full: the go is given, and each pass has added
pub ready : (go : Go) (n x all : ℕ) → x ≡ n + go_weight go → n ≤ all → all < 65536 → x ≡ all + 1 → (go ≡ Given) × (n ≡ all)
ready Pending n x all e le few is = absurd (omega arith)
ready Given n x all e le few is = (refl, omega arith)
ready Cancelled n x all e le few is = absurd (omega arith)

pub is_true : (x : Bool) → weight x ≡ 1 → x ≡ true
is_true true e = refl
is_true false e = absurd (omega arith)

-- ---- which event is due

pub due_arrive : (t : Start) (go : Go) (ps : List Processor) (p : Processor) → p.phase ≡ Taken → go ≢ Cancelled → due (order_of t go) ps p p.phase ≡ Some Arrive
due_arrive t go ps p is apart = ap (due (order_of t go) ps p) is ∙ one go apart
  where
    one : (g : Go) → g ≢ Cancelled → due (order_of t g) ps p Taken ≡ Some Arrive
    one Pending n = refl
    one Given n = refl
    one Cancelled n = absurd (n refl)

pub due_leave : (t : Start) (go : Go) (ps : List Processor) (p : Processor) → (p.phase ≡ Taken) ⊎ (p.phase ≡ Arrived) → go ≡ Cancelled → due (order_of t go) ps p p.phase ≡ Some Leave
due_leave t go ps p (inl is) c = ap (due (order_of t go) ps p) is ∙ ap (λ (g : Go). due (order_of t g) ps p Taken) c
due_leave t go ps p (inr is) c = ap (due (order_of t go) ps p) is ∙ ap (λ (g : Go). due (order_of t g) ps p Arrived) c

pub due_pass : (t : Start) (go : Go) (ps : List Processor) (p : Processor) → p.phase ≡ Arrived → go ≡ Given → list_all (has_arrived (order_of t go)) ps ≡ true → due (order_of t go) ps p p.phase ≡ Some Pass
due_pass t go ps p is g all =
    ap (due (order_of t go) ps p) is
    ∙ ap (λ (b : Bool). if is_cancelled go then Some Leave else (if b && is_given go then Some Pass else None)) all
    ∙ ap (λ (x : Go). if is_cancelled x then Some Leave else (if is_given x then Some Pass else None)) g

pub due_release : (t : Start) (go : Go) (ps : List Processor) (p : Processor) → p.phase ≡ Arrived2 → list_all (has_arrived_again (order_of t go)) ps ≡ true → due (order_of t go) ps p p.phase ≡ Some Release
due_release t go ps p is all = ap (due (order_of t go) ps p) is ∙ ap (λ (b : Bool). if b then Some Release else None) all

under_way : (p q : Phase) → p ≡ q → IsUnderWay q → IsUnderWay p
under_way p q e u = subst IsUnderWay (sym e) u

either_under_way : (p : Phase) → (p ≡ Taken) ⊎ (p ≡ Arrived) → IsUnderWay p
either_under_way p (inl e) = under_way p Taken e tt
either_under_way p (inr e) = under_way p Arrived e tt

module _ (key : Key) where
  abbrev St : Type 0
  St = State (Unit {0}) View

  abbrev t : Start
  t = start_of key

  -- where a pass's one processor stands
  pub record Found (s : St) (m : Meets key s) (id : ℕ) (v : View) (h : Held) : Type 0 where
    pub at : get_elem? m.all h.number ≡ some h
    pub owned : m.owner h.number ≡ id
    pub few_added : total added_of m.all ≤ length m.all
    pub few_again : total again_of m.all ≤ length m.all
    pub fits : FitsHeld t m.go h
    pub told : v.start ≡ t
    pub size : length m.all ≡ length v.start.cpus

  pub found : (s : St) (m : Meets key s) (id : ℕ) (v : View) (h : Held) → get_elem? s.views id ≡ some v → v.held ≡ h ∷ [] → Found s m id v h
  found s m id v h at is =
      let mine = (m.seats id v at).holds zero h (subst (λ (hs : List Held). get_elem? hs zero ≡ some h) (sym is) refl) in
      let told : v.start ≡ t = by_case (m.seats id v at).told in
      record {
        at = mine.0;
        owned = mine.1;
        few_added = total_small added_of (λ g. weight_small (in_first g.added)) m.all;
        few_again = total_small again_of (λ g. weight_small (in_second g.added)) m.all;
        fits = (m.fits h.number h mine.0).0;
        told = told;
        size = m.size ∙ ap (λ (u : Start). length u.cpus) (sym told);
      }
    where
      by_case : ((v.held ≡ []) × (v.root ≡ false)) ⊎ (v.start ≡ t) → v.start ≡ t
      by_case (inl nothing) = absurd (let e = nothing.0 in cc)
      by_case (inr x) = x

  -- The word 0 becomes n, which counts w in place of h
  at_first : (s : St) (m : Meets key s) (id : ℕ) (v : View) (h w : Held) (shown : Option ℕ) (n : ℕ) (e : Option MachineEvent) → get_elem? s.views id ≡ some v → v.held ≡ h ∷ [] → w.number ≡ h.number → in_second w.added ≡ in_second h.added
      → phase_word_of w ≡ phase_word_of h → Comes (joined t m.all m.go s.words) (joined t (set m.all h.number w) m.go (set s.words 0 n)) e → FitsHeld t m.go w → n + weight (in_first h.added) ≡ get_or s.words 0 0 + weight (in_first w.added)
      → Placed key s m id 0 n v h w shown e
  at_first s m id v h w shown n e at is same same_again same_code comes fits count =
      let f = found s m id v h at is in
      let x = total_set added_of m.all h.number h w f.at in
      let u = total_set again_of m.all h.number h w f.at in
      let a : weight (in_second w.added) ≡ weight (in_second h.added) = ap weight same_again in
      let z = m.first in
      let wide = m.wide in
      let here : get_or (set s.words 0 n) 0 0 ≡ n = get_or-set_same s.words 0 n 0 (omega arith) in
      let there : get_or (set s.words 0 n) 1 0 ≡ get_or s.words 1 0 = get_or-set_other s.words 0 1 n 0 (λ (e : 1 ≡ 0). omega arith) in
      let y = m.second in
      placed key s m id 0 n v h w shown e at is same comes fits (omega arith) (omega arith) (codes_kept m.all s.words h.number 0 n h w m.codes f.at same_code (inl (omega arith)))

  low_before : (s : St) (m : Meets key s) (i n : ℕ) → i < 2 → system_of t m.all s.words ≡ system_of t m.all (set s.words i n)
  low_before s m i n low = low_word t m.all s.words i n (omega arith)

  low_memory : (s : St) (m : Meets key s) (i n : ℕ) → i < 2 → drop (first_memory_word t) s.words ≡ drop (first_memory_word t) (set s.words i n)
  low_memory s m i n low = ap (λ (y : System). y.memory.words) (low_before s m i n low)

  -- an event by which the words of memory stay
  comes_low : (s : St) (m : Meets key s) (k i n : ℕ) (e : Event) (h w : Held) → get_elem? m.all k ≡ some h → IsUnderWay h.cpu.phase → FitsHeld t m.go h → i < 2
      → due (order_of t m.go) (map cpu_of m.all) h.cpu h.cpu.phase ≡ Some e → w.cpu ≡ own_step t.goal e h.cpu → (s' : System) → s' ≡ system_of t m.all s.words → before_own e k (system_of t m.all s.words) ≡ s'
      → Comes (joined t m.all m.go s.words) (joined t (set m.all k w) m.go (set s.words i n)) (Some (Does k e))
  comes_low s m k i n e h w at u f low is own s' same before =
      comes_by t m.all m.go s.words (set s.words i n) k e h w (acts t m.all m.go s.words (set s.words i n) k e h w at (stands_order t m.all m.go s.words k h at u f) is own (before ∙ same ∙ low_before s m i n low))

  -- none
  comes_none : (s : St) (m : Meets key s) (k i n : ℕ) (h w : Held) → get_elem? m.all k ≡ some h → w.cpu ≡ h.cpu → i < 2 → Comes (joined t m.all m.go s.words) (joined t (set m.all k w) m.go (set s.words i n)) None
  comes_none s m k i n h w at same low = comes_still t m.all m.go s.words (set s.words i n) k h w at same (low_memory s m i n low)

  -- what an addition to word 0 finds, and what comes of it
  abbrev pub Arrival : (s : St) → Meets key s → ℕ → View → Held → Type 0
  Arrival s m id v h =
      ((4294967296 ≤ get_or s.words 0 0) × Placed key s m id 0 ((get_or s.words 0 0 + 1) % 18446744073709551616) v h (late h) v.shown None)
      ⊎ ((get_or s.words 0 0 < 4294967296) × Placed key s m id 0 ((get_or s.words 0 0 + 1) % 18446744073709551616) v h (arrive v.start h) v.shown (Some (Does h.number Arrive)))

  pub arrival : (s : St) (m : Meets key s) (id : ℕ) (v : View) (h : Held) → get_elem? s.views id ≡ some v → v.held ≡ h ∷ [] → h.added ≡ Never → h.cpu.phase ≡ Taken → Arrival s m id v h
  arrival s m id v h at is out taken =
      let x : ℕ = get_or s.words 0 0 in
      let n : ℕ = (x + 1) % 18446744073709551616 in
      let f = found s m id v h at is in
      let few : total added_of m.all < 65536 = (let b = f.few_added in let c = m.few in omega arith) in
      let g = go_small m.go in
      let e = m.first in
      let o : weight (in_first h.added) ≡ 0 = ap (λ a. weight (in_first a)) out in
      let first : in_second h.added ≡ false = ap in_second out in
      let count : n + weight (in_first h.added) ≡ x + 1 = omega arith in
      let u : IsUnderWay h.cpu.phase = under_way h.cpu.phase Taken taken tt in
      ⊎_elim
      (λ (c : (m.go ≡ Cancelled) × (4294967296 ≤ get_or s.words 0 0)). inl (
        c.1,
        at_first s m id v h (late h) v.shown n None at is refl (sym first) (ap (λ b. phase_word b h.cpu.phase) (sym first)) (comes_none s m h.number 0 n h (late h) f.at refl (omega arith))
            (record { first = f.fits.first; fits = subst (λ p. FitsPhase m.go Once p) (sym taken) (inr (refl, c.0)); era = f.fits.era ∙ ap (λ b. common_era t.cpus + rise b h.cpu.phase) first }) count,
      ))
      (λ (c : (m.go ≢ Cancelled) × (get_or s.words 0 0 < 4294967296)). let w = arrive v.start h in inr (
        c.1,
        at_first s m id v h w v.shown n (Some (Does h.number Arrive)) at is refl (sym first) (sym (ap (phase_word (in_second h.added)) taken))
            (comes_low s m h.number 0 n Arrive h w f.at u f.fits (omega arith) (due_arrive t m.go (map cpu_of m.all) h.cpu taken c.0) refl (system_of t m.all s.words) refl refl)
            (fits_on t m.go w (same_era t m.go h f.fits u) tt refl (λ _. f.fits.first (subst Waits (sym taken) tt))) count,
      ))
      (shows m.go (total added_of m.all) x e few)

  -- an addition to word 0
  pub arrives : (slots id : ℕ) (me : Me (Unit {0}) View) (h : Held) → me.0.held ≡ h ∷ [] → h.added ≡ Never → h.cpu.phase ≡ Taken
      → Allows (Meets key) slots id me 0 (λ n. (n + 1) % 2 ^ 64) (Arrives (step slots 0 1 0 none) me)
  arrives slots id me h is out taken s m _ at small =
      let n : ℕ = (get_or s.words 0 0 + 1) % 18446744073709551616 in
      let f = found s m id me.0 h at is in
      let here : slice_get t.cpus h.number ≡ Some h.cpu = f.fits.first (subst Waits (sym taken) tt) ∙ ap (λ (ph : Phase). Some (record h.cpu { phase = ph })) (sym taken) in
      let told_first : Of me.0 (λ g. slice_get me.0.start.cpus g.number ≡ Some g.cpu) = of_one me.0 h (λ g. slice_get me.0.start.cpus g.number ≡ Some g.cpu) is (subst (λ (y : Start). slice_get y.cpus h.number ≡ Some h.cpu) (sym f.told) here) in
      ⊎_elim
      (λ (c : (4294967296 ≤ get_or s.words 0 0) × Placed key s m id 0 n me.0 h (late h) me.0.shown None). (
        view me.0.root (late h ∷ []) me.0.go me.0.shown me.0,
        keeps,
        tt,
        c.1.follows.kept,
        (
          refl,
          subst Begins (sym f.told) m.begins,
          told_first,
          (λ (below : get_or s.words 0 0 < 4294967296). absurd (let b = c.0 in omega arith)),
          (λ _. (moved me.0 late h is, of_one me.0 h (λ g. PassSteps me.0.start (word_step 0 (get_or s.words 0 0) n) None g (late g)) is c.1.steps)),
        ),
      ))
      (λ (c : (get_or s.words 0 0 < 4294967296) × Placed key s m id 0 n me.0 h (arrive me.0.start h) me.0.shown (Some (Does h.number Arrive))). (
        view me.0.root (arrive me.0.start h ∷ []) me.0.go me.0.shown me.0,
        keeps,
        tt,
        c.1.follows.kept,
        (
          refl,
          subst Begins (sym f.told) m.begins,
          told_first,
          (λ _. (
            moved me.0 (arrive me.0.start) h is,
            of_one me.0 h (λ g. PassSteps me.0.start (word_step 0 (get_or s.words 0 0) n) (Some (Does g.number Arrive)) g (arrive me.0.start g)) is c.1.steps,
          )),
          (λ (above : 4294967296 ≤ get_or s.words 0 0). absurd (let b = c.0 in omega arith)),
        ),
      ))
      (arrival s m id me.0 h at is out taken)

  stands : (all : List Held) (go g : Go) (words : List ℕ) (k : ℕ) (h : Held) → Led (broadcast t) (joined t all go words) → get_elem? all k ≡ some h → IsUnderWay h.cpu.phase → FitsHeld t go h → go ≡ g → StandsInUpdate t g k h.cpu
  stands all go g words k h l at u f is = record {
    machine = joined t all go words;
    led = l;
    order = stands_order t all go words k h at u f ∙ ap (λ (y : Go). Some (order_of t y)) is;
    at = at_cpu all k h at;
  }

  all_arrived : (s : St) (m : Meets key s) → total added_of m.all ≡ length m.all → m.go ≡ Given → list_all (has_arrived (order_of t m.go)) (map cpu_of m.all) ≡ true
  all_arrived s m full given = all_true (has_arrived (order_of t m.go)) m.all (λ k h at. arrived_of t m.go h given (m.fits k h at).0 (is_true (in_first h.added) (total_full added_of (λ g. weight_small (in_first g.added)) m.all full k h at)))

  pub all_again : (s : St) (m : Meets key s) → get_or s.words 1 0 ≡ length m.all → list_all (has_arrived_again (order_of t m.go)) (map cpu_of m.all) ≡ true
  all_again s m full = all_true (has_arrived_again (order_of t m.go)) m.all (λ k h at. again_of_held t m.go h (m.fits k h at).0 (is_true (in_second h.added) (total_full again_of (λ g. weight_small (in_second g.added)) m.all (sym m.second ∙ full) k h at)))

  its_phase : (go : Go) (added : Added) (p : Phase) → (p ≡ Taken) ⊎ (p ≡ Arrived) → FitsPhase go added p → added ≡ Once → go ≡ Given → p ≡ Arrived
  its_phase go added p (inr e) f a g = e
  its_phase go added p (inl e) f a g = absurd (⊎_elim (λ (x : added ≡ Never). cc) (λ (x : (added ≡ Once) × (go ≡ Cancelled)). let c = x.1 in cc) (subst (FitsPhase go added) e f))

  waiting_word : (again : Bool) (p : Phase) → (p ≡ Taken) ⊎ (p ≡ Arrived) → 0 ≡ phase_word again p
  waiting_word again p (inl e) = sym (ap (phase_word again) e)
  waiting_word again p (inr e) = sym (ap (phase_word again) e)

  left_word : (again : Bool) → again ≡ false → phase_word again Running ≡ 0
  left_word again e = ap (λ b. phase_word b Running) e

  -- what a load of word 0 finds, and what comes of it
  abbrev pub Passing : (s : St) → Meets key s → ℕ → View → Held → Type 0
  Passing s m id v h =
      ((4294967296 ≤ get_or s.words 0 0) × Placed key s m id 0 (get_or s.words 0 0) v h (does v.start Leave h) v.shown (Some (Does h.number Leave)) × StandsInUpdate v.start Cancelled h.number h.cpu
      × (get_or s.words 0 0 ≢ length v.start.cpus + 1))
      ⊎ (((get_or s.words 0 0 ≡ length v.start.cpus + 1) × Placed key s m id 0 (get_or s.words 0 0) v h (does v.start Pass h) v.shown (Some (Does h.number Pass))
      × (h.cpu.phase ≡ Arrived) × StandsInUpdate v.start Given h.number (does v.start Pass h).cpu × (4294967296 ≤ get_or s.words 0 0 → ⊥))
      ⊎ ((get_or s.words 0 0 < 4294967296) × (get_or s.words 0 0 ≢ length v.start.cpus + 1) × Placed key s m id 0 (get_or s.words 0 0) v h h v.shown None))

  pub passing : (s : St) (m : Meets key s) (id : ℕ) (v : View) (h : Held) → get_elem? s.views id ≡ some v → v.held ≡ h ∷ [] → h.added ≡ Once → (h.cpu.phase ≡ Taken) ⊎ (h.cpu.phase ≡ Arrived) → Passing s m id v h
  passing s m id v h at is counted waits =
      let first : in_second h.added ≡ false = ap in_second counted in
      let x : ℕ = get_or s.words 0 0 in
      let f = found s m id v h at is in
      let few : length m.all < 65536 = m.few in
      let size : length m.all ≡ length v.start.cpus = f.size in
      let least : total added_of m.all ≤ length m.all = f.few_added in
      let u : IsUnderWay h.cpu.phase = either_under_way h.cpu.phase waits in
      ⊎_elim
      (λ (c : (m.go ≡ Cancelled) × (4294967296 ≤ get_or s.words 0 0)). let w = does v.start Leave h in inl (
        c.1,
        at_first s m id v h w v.shown x (Some (Does h.number Leave)) at is refl refl (left_word (in_second h.added) first ∙ waiting_word (in_second h.added) h.cpu.phase waits)
            (comes_low s m h.number 0 x Leave h w f.at u f.fits (omega arith) (due_leave t m.go (map cpu_of m.all) h.cpu waits c.0) refl (system_of t m.all s.words) refl refl)
            (record { first = λ w. absurd w; fits = inl (counted, c.0); era = let e = same_era t m.go h f.fits u in let z : weight (in_second h.added) ≡ 0 = ap weight first in omega arith }) refl,
        subst (λ (y : Start). StandsInUpdate y Cancelled h.number h.cpu) (sym f.told) (stands m.all m.go Cancelled s.words h.number h m.led_to f.at u f.fits c.0),
        (λ (e : get_or s.words 0 0 ≡ length v.start.cpus + 1). let above = c.1 in omega arith),
      ))
      (λ (c : (m.go ≢ Cancelled) × (get_or s.words 0 0 < 4294967296)). dite (ℕ_discrete (get_or s.words 0 0) (length v.start.cpus + 1))
      (λ (e : get_or s.words 0 0 ≡ length v.start.cpus + 1). let w = does v.start Pass h in
      let r = ready m.go (total added_of m.all) (get_or s.words 0 0) (length m.all) m.first least few (omega arith) in
      let all = all_arrived s m r.1 r.0 in
      let p : h.cpu.phase ≡ Arrived = its_phase m.go h.added h.cpu.phase waits f.fits.fits counted r.0 in
      let g = fits_on t m.go w (same_era t m.go h f.fits u) tt (counted, r.0) (λ w. absurd w) in
      let there = at_first s m id v h w v.shown x (Some (Does h.number Pass)) at is refl refl (waiting_word (in_second h.added) h.cpu.phase waits)
      (comes_low s m h.number 0 x Pass h w f.at u f.fits (omega arith) (due_pass t m.go (map cpu_of m.all) h.cpu p r.0 all) refl (system_of t m.all s.words) refl refl) g refl in
      inr (inl (
        e,
        there,
        p,
        subst (λ (y : Start). StandsInUpdate y Given h.number w.cpu) (sym f.told) (stands (set m.all h.number w) m.go Given (set s.words 0 x) h.number w there.led (set_here m.all h.number w (at_less m.all h.number h f.at)) tt g r.0),
        (λ (above : 4294967296 ≤ get_or s.words 0 0). let b = c.1 in omega arith),
      )))
      (λ (n : get_or s.words 0 0 ≢ length v.start.cpus + 1). inr (inr (
        c.1,
        n,
        at_first s m id v h h v.shown x None at is refl refl refl (comes_none s m h.number 0 x h h f.at refl (omega arith)) f.fits refl,
      ))))
      (shows m.go (total added_of m.all) x m.first (omega arith))

  -- a load of word 0
  pub passes : (slots id : ℕ) (me : Me (Unit {0}) View) (h : Held) → me.0.held ≡ h ∷ [] → h.added ≡ Once → (h.cpu.phase ≡ Taken) ⊎ (h.cpu.phase ≡ Arrived)
      → Allows (Meets key) slots id me 0 (λ n. n) (Passes (step slots 0 0 0 none) me)
  passes slots id me h is counted waits s m _ at small = by_case (passing s m id me.0 h at is counted waits)
    where
      by_case : Passing s m id me.0 h → (w : View) × (a : Act (Unit {0})) × Valid s.homes me.1 a × Meets key (stepped s 0 (get_or s.words 0 0) id me.1 w a) × Passes (step slots 0 0 0 none) me (get_or s.words 0 0) (w, carried_after me.1 a)
      by_case (inl c) = (
        view me.0.root (does me.0.start Leave h ∷ []) me.0.go me.0.shown me.0,
        keeps,
        tt,
        c.1.follows.kept,
        (
          refl,
          (λ full. absurd (c.3 full)),
          (λ _. (
            moved me.0 (does me.0.start Leave) h is,
            of_one me.0 h (λ g. PassSteps me.0.start (word_step 0 (get_or s.words 0 0) (get_or s.words 0 0)) (Some (Does g.number Leave)) g (does me.0.start Leave g)) is c.1.steps,
            of_one me.0 h (λ g. StandsInUpdate me.0.start Cancelled g.number g.cpu) is c.2,
          )),
          (λ (below : get_or s.words 0 0 < 4294967296) _. absurd (let above = c.0 in omega arith)),
        ),
      )
      by_case (inr (inl c)) = (
        view me.0.root (does me.0.start Pass h ∷ []) me.0.go me.0.shown me.0,
        keeps,
        tt,
        c.1.follows.kept,
        (
          refl,
          (λ _. (
            moved me.0 (does me.0.start Pass) h is,
            of_one me.0 h (λ g. PassSteps me.0.start (word_step 0 (get_or s.words 0 0) (get_or s.words 0 0)) (Some (Does g.number Pass)) g (does me.0.start Pass g)) is c.1.steps,
            of_one me.0 h (λ g. (g.cpu.phase ≡ Arrived) × StandsInUpdate me.0.start Given g.number (does me.0.start Pass g).cpu) is (c.2, c.3),
          )),
          (λ above. absurd (c.4 above)),
          (λ _ n. absurd (n c.0)),
        ),
      )
      by_case (inr (inr c)) = (
        view me.0.root (h ∷ []) me.0.go me.0.shown me.0,
        keeps,
        tt,
        c.2.follows.kept,
        (
          refl,
          (λ full. absurd (c.1 full)),
          (λ (above : 4294967296 ≤ get_or s.words 0 0). absurd (let b = c.0 in omega arith)),
          (λ _ _. (unmoved me.0 h is, of_one me.0 h (λ g. PassSteps me.0.start (word_step 0 (get_or s.words 0 0) (get_or s.words 0 0)) None g g) is c.2.steps)),
        ),
      )

  -- The word 1 becomes n, which counts w in place of h
  at_second : (s : St) (m : Meets key s) (id : ℕ) (v : View) (h w : Held) (shown : Option ℕ) (n : ℕ) (e : Option MachineEvent) → get_elem? s.views id ≡ some v → v.held ≡ h ∷ [] → w.number ≡ h.number → in_first w.added ≡ in_first h.added
      → phase_word_of w ≡ phase_word_of h → Comes (joined t m.all m.go s.words) (joined t (set m.all h.number w) m.go (set s.words 1 n)) e → FitsHeld t m.go w → n + weight (in_second h.added) ≡ get_or s.words 1 0 + weight (in_second w.added)
      → Placed key s m id 1 n v h w shown e
  at_second s m id v h w shown n e at is same same_added same_code comes fits count =
      let f = found s m id v h at is in
      let x = total_set added_of m.all h.number h w f.at in
      let u = total_set again_of m.all h.number h w f.at in
      let a : weight (in_first w.added) ≡ weight (in_first h.added) = ap weight same_added in
      let z = m.first in
      let y = m.second in
      let wide = m.wide in
      let here : get_or (set s.words 1 n) 1 0 ≡ n = get_or-set_same s.words 1 n 0 (omega arith) in
      let there : get_or (set s.words 1 n) 0 0 ≡ get_or s.words 0 0 = get_or-set_other s.words 1 0 n 0 (λ (e : 0 ≡ 1). omega arith) in
      placed key s m id 1 n v h w shown e at is same comes fits (omega arith) (omega arith) (codes_kept m.all s.words h.number 1 n h w m.codes f.at same_code (inl (omega arith)))

  pub arriving_again : (s : St) (m : Meets key s) (id : ℕ) (v : View) (h : Held) → get_elem? s.views id ≡ some v → v.held ≡ h ∷ [] → h.added ≡ Once → h.cpu.phase ≡ Restored
      → Placed key s m id 1 ((get_or s.words 1 0 + 1) % 18446744073709551616) v h (arrive_again v.start h) v.shown (Some (Does h.number ArriveAgain))
  arriving_again s m id v h at is counted restored =
      let first : in_second h.added ≡ false = ap in_second counted in
      let n : ℕ = (get_or s.words 1 0 + 1) % 18446744073709551616 in
      let f = found s m id v h at is in
      let least : total again_of m.all ≤ length m.all = f.few_again in
      let few : length m.all < 65536 = m.few in
      let e : get_or s.words 1 0 ≡ total again_of m.all = m.second in
      let o : weight (in_second h.added) ≡ 0 = ap weight first in
      let old : FitsPhase m.go h.added Restored = subst (FitsPhase m.go h.added) restored f.fits.fits in
      let u : IsUnderWay h.cpu.phase = under_way h.cpu.phase Restored restored tt in
      let w = arrive_again v.start h in
      at_second s m id v h w v.shown n (Some (Does h.number ArriveAgain)) at is refl (sym (ap in_first counted)) (sym (ap (phase_word (in_second h.added)) restored))
      (comes_low s m h.number 1 n ArriveAgain h w f.at u f.fits (omega arith) (ap (due (order_of t m.go) (map cpu_of m.all) h.cpu) restored) refl (system_of t m.all s.words) refl refl)
      (fits_on t m.go w (same_era t m.go h f.fits u) tt (refl, old.1) (λ w. absurd w)) (omega arith)

  -- an addition to word 1
  pub arrives_again : (slots id : ℕ) (me : Me (Unit {0}) View) (h : Held) → me.0.held ≡ h ∷ [] → h.added ≡ Once → h.cpu.phase ≡ Restored
      → Allows (Meets key) slots id me 1 (λ n. (n + 1) % 2 ^ 64) (ArrivesAgain (step slots 1 1 0 none) me)
  arrives_again slots id me h is counted restored s m _ at small =
      let x : ℕ = get_or s.words 1 0 in
      let n : ℕ = (x + 1) % 18446744073709551616 in
      let p = arriving_again s m id me.0 h at is counted restored in (
        view me.0.root (arrive_again me.0.start h ∷ []) me.0.go me.0.shown me.0,
        keeps,
        tt,
        p.follows.kept,
        (
          refl,
          moved me.0 (arrive_again me.0.start) h is,
          of_one me.0 h (λ g. PassSteps me.0.start (word_step 1 x n) (Some (Does g.number ArriveAgain)) g (arrive_again me.0.start g)) is p.steps,
        ),
      )

  -- what a load of word 1 finds, and what comes of it
  abbrev pub Releasing : (s : St) → Meets key s → ℕ → View → Held → Type 0
  Releasing s m id v h =
      ((get_or s.words 1 0 ≡ length v.start.cpus) × Placed key s m id 1 (get_or s.words 1 0) v h (does v.start Release h) (Some (get_or s.words 1 0)) (Some (Does h.number Release)) × (h.cpu.era ≡ common_era v.start.cpus))
      ⊎ ((get_or s.words 1 0 ≢ length v.start.cpus) × Placed key s m id 1 (get_or s.words 1 0) v h h (Some (get_or s.words 1 0)) None)

  pub releasing : (s : St) (m : Meets key s) (id : ℕ) (v : View) (h : Held) → get_elem? s.views id ≡ some v → v.held ≡ h ∷ [] → h.added ≡ Twice → h.cpu.phase ≡ Arrived2 → Releasing s m id v h
  releasing s m id v h at is twice waits =
      let x : ℕ = get_or s.words 1 0 in
      let f = found s m id v h at is in
      let size : length m.all ≡ length v.start.cpus = f.size in
      let old : FitsPhase m.go h.added Arrived2 = subst (FitsPhase m.go h.added) waits f.fits.fits in
      let u : IsUnderWay h.cpu.phase = under_way h.cpu.phase Arrived2 waits tt in
      dite (ℕ_discrete (get_or s.words 1 0) (length v.start.cpus))
      (λ (e : get_or s.words 1 0 ≡ length v.start.cpus). let w = does v.start Release h in
      let all = all_again s m (e ∙ sym size) in inl (
        e,
        at_second s m id v h w (Some x) x (Some (Does h.number Release)) at is refl refl (ap (λ a. phase_word (in_second a) Running) twice ∙ sym (ap (phase_word (in_second h.added)) waits))
            (comes_low s m h.number 1 x Release h w f.at u f.fits (omega arith) (due_release t m.go (map cpu_of m.all) h.cpu waits all) refl (system_of t m.all s.words) refl refl)
            (record { first = λ w. absurd w; fits = inr (twice, old.1); era = let e = same_era t m.go h f.fits u in let z : weight (in_second h.added) ≡ 1 = ap (λ a. weight (in_second a)) twice in omega arith }) refl,
        same_era t m.go h f.fits u ∙ ap (λ (y : Start). common_era y.cpus) (sym f.told),
      ))
      (λ (n : get_or s.words 1 0 ≢ length v.start.cpus). inr (n, at_second s m id v h h (Some x) x None at is refl refl refl (comes_none s m h.number 1 x h h f.at refl (omega arith)) f.fits refl))

  -- a load of word 1
  pub releases : (slots id : ℕ) (me : Me (Unit {0}) View) (h : Held) → me.0.held ≡ h ∷ [] → h.added ≡ Twice → h.cpu.phase ≡ Arrived2
      → Allows (Meets key) slots id me 1 (λ n. n) (Releases (step slots 1 0 0 none) me)
  releases slots id me h is twice waits s m _ at small =
      let x : ℕ = get_or s.words 1 0 in
      let f = found s m id me.0 h at is in
      let below : get_or s.words 1 0 < 65536 = (let e = m.second in let least = f.few_again in let few = m.few in omega arith) in
      ⊎_elim
      (λ (c : (get_or s.words 1 0 ≡ length me.0.start.cpus) × Placed key s m id 1 x me.0 h (does me.0.start Release h) (Some x) (Some (Does h.number Release)) × (h.cpu.era ≡ common_era me.0.start.cpus)). (
        view me.0.root (does me.0.start Release h ∷ []) me.0.go (Some x) me.0,
        keeps,
        tt,
        c.1.follows.kept,
        (
          refl,
          below,
          (λ _. (
            moved_shown me.0 (does me.0.start Release) h x is,
            of_one me.0 h (λ g. PassSteps me.0.start (word_step 1 x x) (Some (Does g.number Release)) g (does me.0.start Release g)) is c.1.steps,
            of_one me.0 h (λ g. g.cpu.era ≡ common_era me.0.start.cpus) is c.2,
          )),
          (λ (n : get_or s.words 1 0 ≢ length me.0.start.cpus). absurd (n c.0)),
        ),
      ))
      (λ (c : (get_or s.words 1 0 ≢ length me.0.start.cpus) × Placed key s m id 1 x me.0 h h (Some x) None). (
        view me.0.root (h ∷ []) me.0.go (Some x) me.0,
        keeps,
        tt,
        c.1.follows.kept,
        (
          refl,
          below,
          (λ (e : get_or s.words 1 0 ≡ length me.0.start.cpus). absurd (c.0 e)),
          (λ _. (shown_only me.0 h x is, of_one me.0 h (λ g. PassSteps me.0.start (word_step 1 x x) None g g) is c.1.steps)),
        ),
      ))
      (releasing s m id me.0 h at is twice waits)

  -- ---- the stores

  -- a word behind the counts becomes n, and the processor does this event
  at_store : (s : St) (m : Meets key s) (id i n : ℕ) (v : View) (h w : Held) (e : Option MachineEvent) → get_elem? s.views id ≡ some v → v.held ≡ h ∷ [] → w.number ≡ h.number → w.added ≡ h.added → 2 ≤ i
      → Comes (joined t m.all m.go s.words) (joined t (set m.all h.number w) m.go (set s.words i n)) e → FitsHeld t m.go w
      → ((j : ℕ) (g : Held) → get_elem? (set m.all h.number w) j ≡ some g → get_or (set s.words i n) (j + 2) 0 ≡ phase_word_of g)
      → Placed key s m id i n v h w v.shown e
  at_store s m id i n v h w e at is same same_added high comes fits codes =
      let f = found s m id v h at is in
      let x = total_set added_of m.all h.number h w f.at in
      let u = total_set again_of m.all h.number h w f.at in
      let a : weight (in_first w.added) ≡ weight (in_first h.added) = ap (λ a. weight (in_first a)) same_added in
      let b : weight (in_second w.added) ≡ weight (in_second h.added) = ap (λ a. weight (in_second a)) same_added in
      let z = m.first in
      let y = m.second in
      let zeroth : get_or (set s.words i n) 0 0 ≡ get_or s.words 0 0 = get_or-set_other s.words i 0 n 0 (λ (e : 0 ≡ i). omega arith) in
      let oneth : get_or (set s.words i n) 1 0 ≡ get_or s.words 1 0 = get_or-set_other s.words i 1 n 0 (λ (e : 1 ≡ i). omega arith) in
      placed key s m id i n v h w v.shown e at is same comes fits (omega arith) (omega arith) codes

  -- what a store asks: a processor between the barriers whose event this is
  pub record IsDue (me : Me (Unit {0}) View) (h : Held) (e : Event) : Type 0 where
    pub is : me.0.held ≡ h ∷ []
    pub here : is_local h.cpu.phase ≡ true
    pub due_is : (o : Order) (ps : List Processor) → due o ps h.cpu h.cpu.phase ≡ Some e

  pub own_is : (st : Start) (me : Me (Unit {0}) View) (h : Held) (e : Event) → IsDue me h e → own_event st h.cpu ≡ e
  own_is st me h e d = ap (λ (x : Option Event). option_map_or (λ y. y) x SetNoFill) (d.due_is (order_of st Given) [])

  -- a store of a word by which the event acts, and where the processor stands then
  abbrev pub Storing : (s : St) → Meets key s → ℕ → ℕ → ℕ → View → Held → Event → Type 0
  Storing s m id i n v h e = Placed key s m id i n v h (does v.start e h) v.shown (Some (Does h.number e)) × StandsInUpdate v.start Given h.number (does v.start e h).cpu

  storing : (id i n : ℕ) (me : Me (Unit {0}) View) (h : Held) (e : Event) → IsDue me h e → (s : St) (m : Meets key s) → (at : get_elem? s.views id ≡ some me.0) → 2 ≤ i
      → before_own e h.number (system_of t m.all s.words) ≡ system_of t m.all (set s.words i n)
      → (let w = does me.0.start e h in (j : ℕ) (g : Held) → get_elem? (set m.all h.number w) j ≡ some g → get_or (set s.words i n) (j + 2) 0 ≡ phase_word_of g)
      → Storing s m id i n me.0 h e
  storing id i n me h e d s m at high before codes =
      let f = found s m id me.0 h at d.is in
      let w = does me.0.start e h in
      let on : is_changing h.cpu.phase ≡ true = local_changing h.cpu.phase d.here in
      let u : IsUnderWay h.cpu.phase = changing_under_way h.cpu.phase on in
      let old = changing_fits m.go h.added h.cpu.phase on f.fits.fits in
      let works : IsWork me.0.start.goal e h.cpu = works_in me.0.start.goal h.cpu e h.cpu.phase refl d.here d.due_is (order_of t Given) in
      let u' : IsUnderWay w.cpu.phase = changing_under_way w.cpu.phase works.0 in
      let g : FitsHeld t m.go w = fits_on t m.go w (works.1 ∙ same_era t m.go h f.fits u) u' (fits_changing m.go h.added w.cpu.phase works.0 old.0 old.1) (λ x. absurd (changing_waits_not w.cpu.phase works.0 x)) in
      let own : w.cpu ≡ own_step t.goal e h.cpu = ap (λ (y : Start). own_step y.goal e h.cpu) f.told in
      let a = acts t m.all m.go s.words (set s.words i n) h.number e h w f.at (stands_order t m.all m.go s.words h.number h f.at u f.fits) (d.due_is (order_of t m.go) (map cpu_of m.all)) own before in
      let p = at_store s m id i n me.0 h w (Some (Does h.number e)) at d.is refl refl high (comes_by t m.all m.go s.words (set s.words i n) h.number e h w a) g codes in (
        p,
        subst (λ (y : Start). StandsInUpdate y Given h.number w.cpu) (sym f.told)
            (stands (set m.all h.number w) m.go Given (set s.words i n) h.number w p.led (set_here m.all h.number w (at_less m.all h.number h f.at)) u' g old.1),
      )

  -- what such a store tells
  works_by : (slots id i n : ℕ) (me : Me (Unit {0}) View) (h : Held) (e : Event) → IsDue me h e → (s : St) (m : Meets key s) → Storing s m id i n me.0 h e
      → (w : View) × (a : Act (Unit {0})) × Valid s.homes me.1 a × Meets key (stepped s i n id me.1 w a) × Works (step slots i n 0 none) me n (w, carried_after me.1 a)
  works_by slots id i n me h e d s m p =
      let own_e : e ≡ own_event me.0.start h.cpu = sym (own_is me.0.start me h e d) in (
        view me.0.root (does me.0.start e h ∷ []) me.0.go me.0.shown me.0,
        keeps,
        tt,
        p.0.follows.kept,
        (
          refl,
          ap (λ (y : Event). view me.0.root (does me.0.start y h ∷ []) me.0.go me.0.shown me.0) own_e ∙ moved me.0 (work me.0.start) h d.is,
          of_one me.0 h (λ x. (was : ℕ) × PassSteps me.0.start (word_step i was n) (Some (Does x.number (own_event me.0.start x.cpu))) x (work me.0.start x)) d.is
              (subst (λ (y : Event). (was : ℕ) × PassSteps me.0.start (word_step i was n) (Some (Does h.number y)) h (does me.0.start y h)) own_e (get_or s.words i 0, p.0.steps)),
          of_one me.0 h (λ x. StandsInUpdate me.0.start Given x.number (work me.0.start x).cpu) d.is (subst (λ (y : Event). StandsInUpdate me.0.start Given h.number (does me.0.start y h).cpu) own_e p.1),
        ),
      )

  -- the store of the own phase word
  pub phase_stored : (id n : ℕ) (me : Me (Unit {0}) View) (h : Held) (e : Event) → IsDue me h e → written e ≡ None → n ≡ code (own_step me.0.start.goal e h.cpu).phase
      → (s : St) (m : Meets key s) → get_elem? s.views id ≡ some me.0 → Storing s m id (h.number + 2) n me.0 h e
  phase_stored id n me h e d no_word is_code s m at =
      let f = found s m id me.0 h at d.is in
      let w = does me.0.start e h in
      let less = at_less m.all h.number h f.at in
      let size = m.size in
      let wide = m.wide in
      let on : IsWork me.0.start.goal e h.cpu = works_in me.0.start.goal h.cpu e h.cpu.phase refl d.here d.due_is (order_of t Given) in
      storing id (h.number + 2) n me h e d s m at (omega arith)
      (written_not e h.number (system_of t m.all s.words) (takes_not h.cpu e h.cpu.phase d.here d.due_is (order_of t Given)) no_word ∙ low_word t m.all s.words (h.number + 2) n (omega arith))
      (codes_stored m.all s.words h.number n w m.codes (is_code ∙ sym (word_is_code (in_second h.added) w.cpu.phase on.0)) (omega arith))

  -- the store of a word of memory
  pub word_stored : (id i j address value : ℕ) (me : Me (Unit {0}) View) (h : Held) (e : Event) → IsDue me h e → written e ≡ Some (address, value) → place me.0.start.ram address ≡ Some j → i ≡ first_memory_word me.0.start + j
      → (s : St) (m : Meets key s) → get_elem? s.views id ≡ some me.0 → Storing s m id i value me.0 h e
  word_stored id i j address value me h e d word placed_at at_i s m at =
      let f = found s m id me.0 h at d.is in
      let size = f.size in
      let is : e ≡ WriteBack address value = written_is e address value word in
      let there : place t.ram address ≡ Some j = subst (λ (y : Start). place y.ram address ≡ Some j) f.told placed_at in
      let back : before_own (WriteBack address value) h.number (system_of t m.all s.words) ≡ system_of t m.all (set s.words (first_memory_word t + j) value) =
      ap (λ (x : Option ℕ). record { processors = map cpu_of m.all; memory = option_map_or (λ i. record (memory_of t s.words) { words = slice_set (drop (first_memory_word t) s.words) i value }) x (memory_of t s.words) }) there
      ∙ ap (λ (ws : List ℕ). record { processors = map cpu_of m.all; memory = record { windows = t.ram.windows; words = ws } }) (sym (drop_set s.words (first_memory_word t) j value)) in
      let at_place : first_memory_word t + j ≡ i = ap (λ (y : Start). first_memory_word y + j) (sym f.told) ∙ sym at_i in
      storing id i value me h e d s m at (omega arith)
      (ap (λ (y : Event). before_own y h.number (system_of t m.all s.words)) is ∙ back ∙ ap (λ (i : ℕ). system_of t m.all (set s.words i value)) at_place)
      (codes_kept m.all s.words h.number i value h (does me.0.start e h) m.codes f.at (ap (λ (y : Event). phase_word (in_second h.added) (own_step me.0.start.goal y h.cpu).phase) is) (inr (omega arith)))

  pub works : (slots id n : ℕ) (me : Me (Unit {0}) View) (h : Held) (e : Event) → IsDue me h e → written e ≡ None → n ≡ code (own_step me.0.start.goal e h.cpu).phase
      → Allows (Meets key) slots id me (h.number + 2) (λ _. n) (λ _. Works (step slots (h.number + 2) n 0 none) me n)
  works slots id n me h e d no_word is_code s m _ at small = works_by slots id (h.number + 2) n me h e d s m (phase_stored id n me h e d no_word is_code s m at)

  pub writes_back : (slots id i j address value : ℕ) (me : Me (Unit {0}) View) (h : Held) (e : Event) → IsDue me h e → written e ≡ Some (address, value) → place me.0.start.ram address ≡ Some j → i ≡ first_memory_word me.0.start + j
      → Allows (Meets key) slots id me i (λ _. value) (λ _. Works (step slots i value 0 none) me value)
  writes_back slots id i j address value me h e d word placed_at at_i s m _ at small = works_by slots id i value me h e d s m (word_stored id i j address value me h e d word placed_at at_i s m at)
