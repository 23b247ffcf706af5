-- What the steps of a pass ask.
use Rattle.std.proofs.Common.{◌≡◌, ◌≢◌, ◌⊎◌, ◌∙◌, ap, sym, refl, subst, arith, ℕ, suc, ◌+◌, ◌%◌, ◌^◌, ◌<◌, ◌≤◌, ◌==◌, Bool, true, false, List, [], ◌∷◌, length, map, set, get_or, Option, None, Some, inl, inr, ⊎_elim, get_or-set_same, get_or-set_other}
use Rattle.std.specs.Prelude.{slice_index}
use Rattle.std.proofs.lemmas.Bool.{eqb-false, eqb-true}
use Rattle.std.proofs.lemmas.List.{length-map}
use mathlib.Core.Option.{none, some, some-injective}
use lib.ListN.{get_elem?}
use prog.Atomic.{either}
use Rattle.atomic_table.specs.Table.{Act, Allows, Me, State, Valid, carried_after, keeps, step, stepped}
use Rattle.mt_machine.specs.declared.phase.Phase.{Phase}
use Rattle.mt_machine.specs.declared.phase.Phase.TheVariants.{Arrived, Arrived2, Restored, Running, Taken}
use Rattle.mt_machine.specs.declared.event.Event.TheVariants.{Arrive, ArriveAgain, Leave, Pass, Release, SetNoFill, Take}
use Rattle.mt_machine.specs.declared.go.Go.{Go}
use Rattle.mt_machine.specs.declared.go.Go.TheVariants.{Cancelled, Given}
use Rattle.mt_machine.specs.declared.op.Op.{Op}
use Rattle.mt_machine.specs.Memory.{Memory}
use Rattle.mt_machine.specs.System.{Processor}
use Rattle.mt_machine.specs.Machine.{Accesses, Calls, FitsOp, MachineEvent, Order, Steps, after, at_start, common_era}
use Rattle.mt_cpu.specs.Steps.{is_local}
use Rattle.mt_core.proofs.Reaching.{reached_on}
use Rattle.mt_laws.specs.Kept.{IsUnderWay}
use Rattle.mt_laws.proofs.Barrier.Claims.{all_get}
use Rattle.mt_laws.proofs.Registers.UnderWay.{orders_hold}
use Rattle.mt_rendezvous.specs.declared.view.Key.{Key}
use Rattle.mt_rendezvous.specs.declared.view.Start.{Start}
use Rattle.mt_rendezvous.specs.Station.{FitsPhase, added_of, again_of, order_of, rise, start_of, total, in_first, in_second}
use Rattle.mt_rendezvous.specs.Plays.{arrive, arrive_again, does, late, own_event}
use Rattle.mt_rendezvous.proofs.Keeps.{told_of, total_small, weight_small}
use Rattle.mt_rendezvous.proofs.Local.{due_alone}
use Rattle.mt_rendezvous.proofs.Steps.{go_small, shows}
use Rattle.mt_private.specs.declared.view.Resident.{Resident}
use Rattle.mt_private.specs.declared.view.YardView.{YardView}
use Rattle.mt_private.specs.OneByOne.{at_rest}
use Rattle.mt_private.specs.Residents.{FitsYard, ResidentFollows, Opens, accessed_by, held_of, stepped_by, system_of, with_first, with_held, with_stored, yard_machine, scene, move_of}
use Rattle.mt_private.specs.YardLaws.{IsOneEvent, Stores}
use Rattle.mt_private.specs.YardRule.{MeetsYard, as_view, with_one}
use Rattle.mt_private.specs.YardPlays.{AccessesYard, ArrivesAgainYard, ArrivesYard, IsCallable, IsOwnWord, OfOne, OfSeat, PassMoves, PassesYard, ReleasesYard, TakesYard, TellsYardStep, Turns, WorksYard, has_added, left_as}
use Rattle.mt_private.proofs.Residents.Barriers.{arrives, arrives_again, leaves, not_taken, own_fits, passes, releases, unmoved}
use Rattle.mt_private.proofs.Residents.Moves.{processor_at}
use Rattle.mt_private.proofs.Residents.Paths.{uncalled_reached}
use Rattle.mt_private.proofs.Residents.Seats.{mapped_at, placed, there}
use Rattle.mt_rendezvous.specs.declared.view.Added.TheVariants.{Never, Once, Twice}
use Rattle.mt_rendezvous.specs.declared.view.Added.{Added}
use Rattle.mt_private.proofs.Residents.Work.{accessed, takes, works}

only : (y z : Resident) → y ∷ [] ≡ z ∷ [] → y ≡ z
only y z e = cc

-- what is so of the one resident
pub of_resident : (v : YardView) (y : Resident) (P : Resident → Type 0) → v.held ≡ y ∷ [] → P y → OfOne v P
of_resident v y P is p z same = subst P (only y z (sym is ∙ same)) p

-- one that waits, where nothing is cancelled and its pass has added, has arrived
has_arrived : (go : Go) (added : Added) (p : Phase) → FitsYard go added p → added ≡ Once → go ≢ Cancelled → (p ≡ Taken) ⊎ (p ≡ Arrived) → p ≡ Arrived
has_arrived go added p f on apart waits =
    ⊎_elim
    (λ (x : p ≡ Taken). let g : FitsPhase go added Taken = subst (FitsYard go added) x f in absurd (⊎_elim (λ (e : added ≡ Never). cc) (λ (e : (added ≡ Once) × (go ≡ Cancelled)). apart e.1) g))
    (λ (x : p ≡ Arrived). x)
    waits

-- it keeps its number, whatever its own system becomes
in_number : (y : Resident) (ps : List Processor) (m : Memory) → (with_first y ps m).held.number ≡ y.held.number
in_number y [] m = refl
in_number y (p ∷ ps) m = refl

-- and what its pass stored
in_stored : (y : Resident) (ps : List Processor) (m : Memory) → (with_first y ps m).stored ≡ y.stored
in_stored y [] m = refl
in_stored y (p ∷ ps) m = refl

module _ (key : Key) where
  abbrev St : Type 0
  St = State Op YardView

  abbrev t : Start
  t = start_of key

  module _ (s : St) (m : MeetsYard key s) (id : ℕ) (v : YardView) (at : get_elem? s.views id ≡ some v) (y : Resident) (is : v.held ≡ y ∷ []) where
    here : get_elem? m.all y.held.number ≡ some y
    here = there key s m id v y at is

    started : v.start ≡ t
    started = told_of t (as_view v) y.held [] (ap (map held_of) is) (m.sits id (as_view v) (mapped_at as_view s.views id v at)).told

    count : length v.start.cpus ≡ length t.cpus
    count = ap (λ (u : Start). length u.cpus) started

    -- the first count without the coordinator's part
    few : total added_of (map held_of m.all) < 65536
    few =
        let b = total_small added_of (λ g. weight_small (in_first g.added)) (map held_of m.all) in
        let c = length-map m.all held_of in
        let d = m.yard.resides.size in
        let e = m.yard.resides.opens.few in
        omega arith

    pub first_low : get_or s.words 0 0 + 1 < 18446744073709551616
    first_low = let a = m.yard.first_count in let b = go_small m.go in let c = few in omega arith

    pub second_low : get_or s.words 1 0 + 1 < 18446744073709551616
    second_low =
        let a = m.yard.second_count in
        let b = total_small again_of (λ g. weight_small (in_second g.added)) (map held_of m.all) in
        let c = length-map m.all held_of in
        let d = m.yard.resides.size in
        let e = m.yard.resides.opens.few in
        omega arith

    long : 1 < length s.words
    long = let w = m.wide in let d = m.yard.resides.size in let e = m.yard.resides.opens.some in omega arith

    -- the cancel that the view was shown before
    shown_before : v.cancel ≡ true → m.go ≡ Cancelled
    shown_before = m.cancels id v at

    -- the counts after a word becomes n
    at_first : (n : ℕ) → (slice_index (set s.words 0 n) 0 ≡ n) × (slice_index (set s.words 0 n) 1 ≡ slice_index s.words 1)
    at_first n = let l = long in (get_or-set_same s.words 0 n 0 (omega arith), get_or-set_other s.words 0 1 n 0 (λ (e : 1 ≡ 0). omega arith))

    at_second : (n : ℕ) → (slice_index (set s.words 1 n) 0 ≡ slice_index s.words 0) × (slice_index (set s.words 1 n) 1 ≡ n)
    at_second n = let l = long in (get_or-set_other s.words 1 0 n 0 (λ (e : 0 ≡ 1). omega arith), get_or-set_same s.words 1 n 0 (omega arith))

    at_own : (i n : ℕ) → 1 < i → (slice_index (set s.words i n) 0 ≡ slice_index s.words 0) × (slice_index (set s.words i n) 1 ≡ slice_index s.words 1)
    at_own i n high = (get_or-set_other s.words i 0 n 0 (λ (e : 0 ≡ i). omega arith), get_or-set_other s.words i 1 n 0 (λ (e : 1 ≡ i). omega arith))

    -- the resident moves, and what that tells
    turn : (i n : ℕ) (w : Resident) (shown : Option ℕ) (cancel : Bool) (e : Option MachineEvent) (x z : ℕ) → w.held.number ≡ y.held.number → Stores y i n w → (cancel ≡ true → m.go ≡ Cancelled)
        → (slice_index (set s.words i n) 0 ≡ x) × (slice_index (set s.words i n) 1 ≡ z) → ResidentFollows t (scene m.all m.go m.system) (move_of y.held.number w e) x z
        → IsOneEvent key s (record { words = set s.words i n; homes = s.homes; views = set s.views id (with_one v w shown cancel) }) m e × Turns v (with_one v w shown cancel) y (left_as w shown cancel) e
    turn i n w shown cancel e x z number stores told counts f = (
      placed key s m id v y at is i n w shown cancel e number stores told (subst (λ (c : ℕ × ℕ). ResidentFollows t (scene m.all m.go m.system) (move_of y.held.number w e) c.0 c.1) (λ j. (sym counts.0 j, sym counts.1 j)) f),
      (
        refl,
        subst (λ (u : Start). PassMoves u y w e) (sym started)
            (record { all = m.all; go = m.go; first = slice_index s.words 0; second = slice_index s.words 1; system = m.system; yard = m.yard; at = here; later = (x, z); follows = f }),
      ),
    )

    -- its own machine may be called
    pub callable : m.go ≢ Cancelled → in_second y.held.added ≡ false → y.held.cpu.phase ≡ Running → IsCallable t y
    callable apart out_again runs =
        let f = own_fits t m.all m.go (slice_index s.words 0) (slice_index s.words 1) m.system m.yard y.held.number y here in
        let up : rise (in_second y.held.added) y.held.cpu.phase ≡ 0 = (λ i. rise (out_again i) (runs i)) in
        let old = f.era in
        let era : y.held.cpu.era ≡ common_era t.cpus = omega arith in
        let o : Order = order_of t m.go in
        let r = m.yard.resides in
        let stands = orders_hold (at_rest (system_of t)) (yard_machine t m.go m.system) o (inl r.opens.quiet) (reached_on (after (Calls t.goal) at_start r.opens.enabled) (uncalled_reached r.reached))
        (not_taken t m.all m.go (slice_index s.words 0) (slice_index s.words 1) m.system m.yard y.held.number y here apart era) in
        ((all_get (IsUnderWay o) m.system.processors stands.each y.held.number y.held.cpu (processor_at t m.all m.go m.system r y.held.number y here)).fits, era)

    -- whether the first count shows the cancel
    pub sees : ((m.go ≡ Cancelled) × (4294967296 ≤ get_or s.words 0 0)) ⊎ ((m.go ≢ Cancelled) × (get_or s.words 0 0 < 4294967296))
    sees = shows m.go (total added_of (map held_of m.all)) (get_or s.words 0 0) m.yard.first_count few

  -- ---- each step

  module _ (id : ℕ) (me : Me Op YardView) (y : Resident) (is : me.0.held ≡ y ∷ []) (s : St) (m : MeetsYard key s) (at : get_elem? s.views id ≡ some me.0) where
    abbrev n : ℕ
    n = get_or s.words 0 0

    abbrev z : ℕ
    z = get_or s.words 1 0

    abbrev k : ℕ
    k = y.held.number

    abbrev Goes : Resident → Option MachineEvent → ℕ → ℕ → Type 0
    Goes w e a b = ResidentFollows t (scene m.all m.go m.system) (move_of k w e) a b

    -- word i becomes a, and the view this, which is that event
    abbrev Made : ℕ → ℕ → YardView → Option MachineEvent → Type 0
    Made i a new e = IsOneEvent key s (record { words = set s.words i a; homes = s.homes; views = set s.views id new }) m e

    its : get_elem? m.all k ≡ some y
    its = here s m id me.0 at y is

    begun : me.0.start ≡ t
    begun = started s m id me.0 at y is

    -- a fact on what the gathering made, by the view's copy
    of_start : (P : Start → Type 0) → P t → P me.0.start
    of_start P p = subst P (sym begun) p

    one_of : (P : Resident → Type 0) → P y → OfOne me.0 P
    one_of P p = of_resident me.0 y P is p

    idle : Goes y None n z
    idle = unmoved t m.all m.go n z m.system m.yard k y its

    -- it moves, by a step that leaves the counts
    by_load : (w : Resident) (cancel : Bool) (e : Option MachineEvent) → w.held.number ≡ k → w.stored ≡ y.stored → (cancel ≡ true → m.go ≡ Cancelled) → Goes w e n z
        → Made 0 n (with_one me.0 w me.0.shown cancel) e × Turns me.0 (with_one me.0 w me.0.shown cancel) y (left_as w me.0.shown cancel) e
    by_load w cancel e number stored told f = turn s m id me.0 at y is 0 n w me.0.shown cancel e n z number (inl (omega arith, stored)) told (at_first s m id me.0 at y is n) f

    -- a load of the first count by one that hasn't taken
    module _ (out : y.held.added ≡ Never) (runs : y.held.cpu.phase ≡ Running) where
      pub no_take : m.go ≡ Cancelled → Made 0 n (with_one me.0 y me.0.shown true) None × OfOne me.0 (λ x. Turns me.0 (with_one me.0 y me.0.shown true) x (left_as x me.0.shown true) None)
      no_take c = let p = by_load y true None refl refl (λ _. c) idle in (p.0, one_of (λ x. Turns me.0 (with_one me.0 y me.0.shown true) x (left_as x me.0.shown true) None) p.1)

      abbrev taken : YardView
      taken = with_one me.0 (stepped_by me.0.start Take y) me.0.shown me.0.cancel

      abbrev HasTaken : Resident → Type 0
      HasTaken x = Turns me.0 taken x (left_as (stepped_by me.0.start Take x) me.0.shown me.0.cancel) (Some (Steps x.held.number Take)) × IsCallable me.0.start x

      pub take : m.go ≢ Cancelled → n < 4294967296 → Made 0 n taken (Some (Steps k Take)) × Opens me.0.start × OfOne me.0 HasTaken
      take apart low =
          let w : Resident = stepped_by me.0.start Take y in
          let f = takes t m.all m.go n z m.system m.yard k y its out runs low in
          let g : Goes w (Some (Steps k Take)) n z = of_start (λ (u : Start). Goes (stepped_by u Take y) (Some (Steps k Take)) n z) f in
          let p = by_load w me.0.cancel (Some (Steps k Take)) (in_number y _ _) (in_stored y _ _) (shown_before s m id me.0 at y is) g in
          let c = callable s m id me.0 at y is apart (ap in_second out) runs in
          (p.0, of_start Opens m.yard.resides.opens, one_of HasTaken (p.1, of_start (λ (u : Start). IsCallable u y) c))

    -- an addition to the first count
    module _ (out : y.held.added ≡ Never) (taken : y.held.cpu.phase ≡ Taken) where
      abbrev come : YardView
      come = with_one me.0 (with_held y (arrive me.0.start y.held)) me.0.shown me.0.cancel

      abbrev HasCome : Resident → Type 0
      HasCome x = Turns me.0 come x (left_as (with_held x (arrive me.0.start x.held)) me.0.shown me.0.cancel) (Some (Steps x.held.number Arrive))

      pub add : n < 4294967296 → Made 0 (n + 1) come (Some (Steps k Arrive)) × OfOne me.0 HasCome
      add low =
          let f = (arrives t m.all m.go n z m.system m.yard k y its out taken).0 low in
          let g : Goes (with_held y (arrive me.0.start y.held)) (Some (Steps k Arrive)) (n + 1) z = of_start (λ (u : Start). Goes (with_held y (arrive u y.held)) (Some (Steps k Arrive)) (n + 1) z) f in
          let p = turn s m id me.0 at y is 0 (n + 1) (with_held y (arrive me.0.start y.held)) me.0.shown me.0.cancel (Some (Steps k Arrive)) (n + 1) z refl (inl (omega arith, refl)) (shown_before s m id me.0 at y is) (at_first s m id me.0 at y is (n + 1)) g in
          (p.0, one_of HasCome p.1)

      abbrev late_view : YardView
      late_view = with_one me.0 (with_held y (late y.held)) me.0.shown me.0.cancel

      abbrev IsLate : Resident → Type 0
      IsLate x = Turns me.0 late_view x (left_as (with_held x (late x.held)) me.0.shown me.0.cancel) None

      pub add_late : 4294967296 ≤ n → Made 0 (n + 1) late_view None × OfOne me.0 IsLate
      add_late high =
          let f = (arrives t m.all m.go n z m.system m.yard k y its out taken).1 high in
          let p = turn s m id me.0 at y is 0 (n + 1) (with_held y (late y.held)) me.0.shown me.0.cancel None (n + 1) z refl (inl (omega arith, refl)) (shown_before s m id me.0 at y is) (at_first s m id me.0 at y is (n + 1)) f in
          (p.0, one_of IsLate p.1)

    -- a load of the first count by one that waits
    module _ (on : y.held.added ≡ Once) (waits : (y.held.cpu.phase ≡ Taken) ⊎ (y.held.cpu.phase ≡ Arrived)) where
      abbrev gone : YardView
      gone = with_one me.0 (with_held y (does me.0.start Leave y.held)) me.0.shown true

      abbrev HasGone : Resident → Type 0
      HasGone x = Turns me.0 gone x (left_as (with_held x (does me.0.start Leave x.held)) me.0.shown true) (Some (Steps x.held.number Leave))

      pub go_out : m.go ≡ Cancelled → 4294967296 ≤ n → Made 0 n gone (Some (Steps k Leave)) × OfOne me.0 HasGone
      go_out c high =
          let f = leaves t m.all m.go n z m.system m.yard k y its on waits high in
          let g : Goes (with_held y (does me.0.start Leave y.held)) (Some (Steps k Leave)) n z = of_start (λ (u : Start). Goes (with_held y (does u Leave y.held)) (Some (Steps k Leave)) n z) f in
          let p = by_load (with_held y (does me.0.start Leave y.held)) true (Some (Steps k Leave)) refl refl (λ _. c) g in
          (p.0, one_of HasGone p.1)

      abbrev through : YardView
      through = with_one me.0 (with_held y (does me.0.start Pass y.held)) me.0.shown me.0.cancel

      abbrev IsThrough : Resident → Type 0
      IsThrough x = Turns me.0 through x (left_as (with_held x (does me.0.start Pass x.held)) me.0.shown me.0.cancel) (Some (Steps x.held.number Pass)) × (x.held.cpu.phase ≡ Arrived)

      pub pass : m.go ≢ Cancelled → n ≡ length me.0.start.cpus + 1 → Made 0 n through (Some (Steps k Pass)) × OfOne me.0 IsThrough
      pass apart full =
          let same = count s m id me.0 at y is in
          let own = own_fits t m.all m.go n z m.system m.yard k y its in
          let arrived = has_arrived m.go y.held.added y.held.cpu.phase own.fits on apart waits in
          let f = passes t m.all m.go n z m.system m.yard k y its on arrived (omega arith) in
          let g : Goes (with_held y (does me.0.start Pass y.held)) (Some (Steps k Pass)) n z = of_start (λ (u : Start). Goes (with_held y (does u Pass y.held)) (Some (Steps k Pass)) n z) f in
          let p = by_load (with_held y (does me.0.start Pass y.held)) me.0.cancel (Some (Steps k Pass)) refl refl (shown_before s m id me.0 at y is) g in
          (p.0, one_of IsThrough (p.1, arrived))

    abbrev same_view : YardView
    same_view = with_one me.0 y me.0.shown me.0.cancel

    abbrev IsIdle : Resident → Type 0
    IsIdle x = Turns me.0 same_view x (left_as x me.0.shown me.0.cancel) None

    pub wait : Made 0 n same_view None × OfOne me.0 IsIdle
    wait = let p = by_load y me.0.cancel None refl refl (shown_before s m id me.0 at y is) idle in (p.0, one_of IsIdle p.1)

    -- stores of the own event word
    abbrev worked : ℕ → YardView
    worked a = with_one me.0 (with_stored (stepped_by me.0.start (own_event me.0.start y.held.cpu) y) a) me.0.shown me.0.cancel

    abbrev HasWorked : ℕ → Resident → Type 0
    HasWorked a x = Turns me.0 (worked a) x (left_as (with_stored (stepped_by me.0.start (own_event me.0.start x.held.cpu) x) a) me.0.shown me.0.cancel) (Some (Steps x.held.number (own_event me.0.start x.held.cpu)))

    pub work : (i a : ℕ) → i ≡ y.held.number + 2 → y.held.added ≡ Once → is_local y.held.cpu.phase ≡ true → Made i a (worked a) (Some (Steps k (own_event me.0.start y.held.cpu))) × OfOne me.0 (HasWorked a)
    work i a own on local =
        let p : Processor = y.held.cpu in
        let f = works t m.all m.go n z m.system m.yard k y its on local (own_event t p) (λ o ps. due_alone o (order_of t Given) ps [] p SetNoFill p.phase local) a in
        let g : Goes (with_stored (stepped_by me.0.start (own_event me.0.start p) y) a) (Some (Steps k (own_event me.0.start p))) n z = of_start (λ (u : Start). Goes (with_stored (stepped_by u (own_event u p) y) a) (Some (Steps k (own_event u p))) n z) f in
        let r = turn s m id me.0 at y is i a (with_stored (stepped_by me.0.start (own_event me.0.start p) y) a) me.0.shown me.0.cancel (Some (Steps k (own_event me.0.start p))) n z (in_number y _ _) (inr (own, refl)) (shown_before s m id me.0 at y is) (at_own s m id me.0 at y is i a (omega arith)) g in
        (r.0, one_of (HasWorked a) r.1)

    module _ (op : Op) where
      abbrev used : ℕ → YardView
      used a = with_one me.0 (with_stored (accessed_by op y) a) me.0.shown me.0.cancel

      abbrev HasUsed : ℕ → Resident → Type 0
      HasUsed a x = Turns me.0 (used a) x (left_as (with_stored (accessed_by op x) a) me.0.shown me.0.cancel) (Some (Accesses x.held.number op))

      pub use_memory : (i a : ℕ) → i ≡ y.held.number + 2 → y.held.cpu.phase ≡ Running → FitsOp op → Made i a (used a) (Some (Accesses k op)) × OfOne me.0 (HasUsed a)
      use_memory i a own runs fits =
          let f = accessed t m.all m.go n z m.system m.yard k y its op runs fits a in
          let r = turn s m id me.0 at y is i a (with_stored (accessed_by op y) a) me.0.shown me.0.cancel (Some (Accesses k op)) n z (in_number y _ _) (inr (own, refl)) (shown_before s m id me.0 at y is) (at_own s m id me.0 at y is i a (omega arith)) f.0 in
          (r.0, one_of (HasUsed a) r.1)

    -- what the own event word holds
    pub holds_stored : (i : ℕ) → i ≡ y.held.number + 2 → get_or s.words i 0 ≡ y.stored
    holds_stored i own = ap (λ (j : ℕ). get_or s.words j 0) own ∙ m.stored k y its

    -- an exchange that finds something else
    pub miss : (i a : ℕ) → i ≡ y.held.number + 2 → a ≡ y.stored → Made i a same_view None × OfOne me.0 IsIdle
    miss i a own same =
        let r = turn s m id me.0 at y is i a y me.0.shown me.0.cancel None n z refl (inr (own, same)) (shown_before s m id me.0 at y is) (at_own s m id me.0 at y is i a (omega arith)) idle in
        (r.0, one_of IsIdle r.1)

    -- the second count
    abbrev come_again : YardView
    come_again = with_one me.0 (with_held y (arrive_again me.0.start y.held)) me.0.shown me.0.cancel

    abbrev HasComeAgain : Resident → Type 0
    HasComeAgain x = Turns me.0 come_again x (left_as (with_held x (arrive_again me.0.start x.held)) me.0.shown me.0.cancel) (Some (Steps x.held.number ArriveAgain))

    pub add_again : y.held.added ≡ Once → y.held.cpu.phase ≡ Restored → Made 1 (z + 1) come_again (Some (Steps k ArriveAgain)) × OfOne me.0 HasComeAgain
    add_again on restored =
        let f = arrives_again t m.all m.go n z m.system m.yard k y its on restored in
        let g : Goes (with_held y (arrive_again me.0.start y.held)) (Some (Steps k ArriveAgain)) n (z + 1) = of_start (λ (u : Start). Goes (with_held y (arrive_again u y.held)) (Some (Steps k ArriveAgain)) n (z + 1)) f in
        let r = turn s m id me.0 at y is 1 (z + 1) (with_held y (arrive_again me.0.start y.held)) me.0.shown me.0.cancel (Some (Steps k ArriveAgain)) n (z + 1) refl (inl (omega arith, refl)) (shown_before s m id me.0 at y is) (at_second s m id me.0 at y is (z + 1)) g in
        (r.0, one_of HasComeAgain r.1)

    abbrev released : YardView
    released = with_one me.0 (with_held y (does me.0.start Release y.held)) (Some z) me.0.cancel

    abbrev IsReleased : Resident → Type 0
    IsReleased x = Turns me.0 released x (left_as (with_held x (does me.0.start Release x.held)) (Some z) me.0.cancel) (Some (Steps x.held.number Release))

    pub release : y.held.added ≡ Twice → y.held.cpu.phase ≡ Arrived2 → z ≡ length me.0.start.cpus → Made 1 z released (Some (Steps k Release)) × OfOne me.0 IsReleased
    release on waits full =
        let same = count s m id me.0 at y is in
        let f = releases t m.all m.go n z m.system m.yard k y its on waits (omega arith) in
        let g : Goes (with_held y (does me.0.start Release y.held)) (Some (Steps k Release)) n z = of_start (λ (u : Start). Goes (with_held y (does u Release y.held)) (Some (Steps k Release)) n z) f in
        let r = turn s m id me.0 at y is 1 z (with_held y (does me.0.start Release y.held)) (Some z) me.0.cancel (Some (Steps k Release)) n z refl (inl (omega arith, refl)) (shown_before s m id me.0 at y is) (at_second s m id me.0 at y is z) g in
        (r.0, one_of IsReleased r.1)

    abbrev shown_view : YardView
    shown_view = with_one me.0 y (Some z) me.0.cancel

    abbrev IsShown : Resident → Type 0
    IsShown x = Turns me.0 shown_view x (left_as x (Some z) me.0.cancel) None

    pub wait_again : Made 1 z shown_view None × OfOne me.0 IsShown
    wait_again = let r = turn s m id me.0 at y is 1 z y (Some z) me.0.cancel None n z refl (inl (omega arith, refl)) (shown_before s m id me.0 at y is) (at_second s m id me.0 at y is z) idle in (r.0, one_of IsShown r.1)

  -- ---- that each may be done

  takes_allowed : (slots id : ℕ) (me : Me Op YardView) (y : Resident) → me.0.held ≡ y ∷ [] → y.held.added ≡ Never → y.held.cpu.phase ≡ Running
      → Allows (MeetsYard key) slots id me 0 (λ n. n) (TakesYard (step slots 0 0 0 none) me)
  takes_allowed slots id me y is out runs s m _ at small =
      ⊎_elim
      (λ (c : (m.go ≡ Cancelled) × (4294967296 ≤ get_or s.words 0 0)).
      let p = no_take id me y is s m at out runs c.0 in
      (with_one me.0 y me.0.shown true, keeps, tt, p.0.kept, (refl, (λ low. absurd (let high = c.1 in omega arith)), (λ _. p.1), (y, is, runs))))
      (λ (c : (m.go ≢ Cancelled) × (get_or s.words 0 0 < 4294967296)).
      let p = take id me y is s m at out runs c.0 c.1 in
      (with_one me.0 (stepped_by me.0.start Take y) me.0.shown me.0.cancel, keeps, tt, p.0.kept, (refl, (λ _. (p.1, p.2)), (λ high. absurd (let low = c.1 in omega arith)), (y, is, runs))))
      (sees s m id me.0 at y is)

  arrives_allowed : (slots id : ℕ) (me : Me Op YardView) (y : Resident) → me.0.held ≡ y ∷ [] → y.held.added ≡ Never → y.held.cpu.phase ≡ Taken
      → Allows (MeetsYard key) slots id me 0 (λ n. (n + 1) % 2 ^ 64) (ArrivesYard (step slots 0 1 0 none) me)
  arrives_allowed slots id me y is out taken s m _ at small =
      let low = first_low s m id me.0 at y is in
      let same : get_or s.words 0 0 + 1 ≡ (get_or s.words 0 0 + 1) % 18446744073709551616 = omega arith in
      ⊎_elim
      (λ (c : (m.go ≡ Cancelled) × (4294967296 ≤ get_or s.words 0 0)).
      let p = add_late id me y is s m at out taken c.1 in
      (late_view id me y is s m at out taken, keeps, tt, (subst (λ (a : ℕ). Made id me y is s m at 0 a (late_view id me y is s m at out taken) None) same p.0).kept, (refl, (λ low. absurd (let high = c.1 in omega arith)), (λ _. p.1), (y, is, taken))))
      (λ (c : (m.go ≢ Cancelled) × (get_or s.words 0 0 < 4294967296)).
      let p = add id me y is s m at out taken c.1 in
      (come id me y is s m at out taken, keeps, tt, (subst (λ (a : ℕ). Made id me y is s m at 0 a (come id me y is s m at out taken) (Some (Steps y.held.number Arrive))) same p.0).kept, (refl, (λ _. p.1), (λ high. absurd (let low = c.1 in omega arith)), (y, is, taken))))
      (sees s m id me.0 at y is)

  passes_allowed : (slots id : ℕ) (me : Me Op YardView) (y : Resident) → me.0.held ≡ y ∷ [] → y.held.added ≡ Once → (y.held.cpu.phase ≡ Taken) ⊎ (y.held.cpu.phase ≡ Arrived)
      → Allows (MeetsYard key) slots id me 0 (λ n. n) (PassesYard (step slots 0 0 0 none) me)
  passes_allowed slots id me y is on waits s m _ at small =
      let most = m.yard.resides.opens.few in
      let size = count s m id me.0 at y is in
      ⊎_elim
      (λ (c : (m.go ≡ Cancelled) × (4294967296 ≤ get_or s.words 0 0)).
      let p = go_out id me y is s m at on waits c.0 c.1 in
      (gone id me y is s m at on waits, keeps, tt, p.0.kept, (refl, (λ full. absurd (let high = c.1 in omega arith)), (λ _. p.1), (λ low _. absurd (let high = c.1 in omega arith)), (y, is, waits))))
      (λ (c : (m.go ≢ Cancelled) × (get_or s.words 0 0 < 4294967296)). one (get_or s.words 0 0 == length me.0.start.cpus + 1) refl c.0 c.1)
      (sees s m id me.0 at y is)
    where
      one : (b : Bool) → (get_or s.words 0 0 == length me.0.start.cpus + 1) ≡ b → m.go ≢ Cancelled → get_or s.words 0 0 < 4294967296
          → (w : YardView) × (a : Act Op) × Valid s.homes me.1 a × MeetsYard key (stepped s 0 (get_or s.words 0 0) id me.1 w a) × PassesYard (step slots 0 0 0 none) me (get_or s.words 0 0) (w, carried_after me.1 a)
      one true e apart low =
          let full = eqb-true (get_or s.words 0 0) (length me.0.start.cpus + 1) e in
          let p = pass id me y is s m at on waits apart full in
          (through id me y is s m at on waits, keeps, tt, p.0.kept, (refl, (λ _. p.1), (λ high. absurd (omega arith)), (λ _ other. absurd (other full)), (y, is, waits)))
      one false e apart low =
          let other = eqb-false (get_or s.words 0 0) (length me.0.start.cpus + 1) e in
          let p = wait id me y is s m at in
          (same_view id me y is s m at, keeps, tt, p.0.kept, (refl, (λ full. absurd (other full)), (λ high. absurd (omega arith)), (λ _ _. p.1), (y, is, waits)))

  works_allowed : (slots id i a : ℕ) (me : Me Op YardView) (y : Resident) → me.0.held ≡ y ∷ [] → i ≡ y.held.number + 2 → y.held.added ≡ Once → is_local y.held.cpu.phase ≡ true
      → Allows (MeetsYard key) slots id me i (λ _. a) (λ _. WorksYard (step slots i a 0 none) me a)
  works_allowed slots id i a me y is own on local s m _ at small =
      let p = work id me y is s m at i a own on local in
      (worked id me y is s m at a, keeps, tt, p.0.kept, (refl, p.1, one_of id me y is s m at (λ x. i ≡ x.held.number + 2) own, (y, is, local)))

  accesses_allowed : (slots id i a b : ℕ) (op : Op) (me : Me Op YardView) (y : Resident) → me.0.held ≡ y ∷ [] → i ≡ y.held.number + 2 → y.held.cpu.phase ≡ Running → FitsOp op
      → Allows (MeetsYard key) slots id me i (λ n. either (n == a) b n) (AccessesYard (step slots i a b (some op)) me)
  accesses_allowed slots id i a b op me y is own runs fits s m _ at small = one (get_or s.words i 0 == a) refl
    where
      finds : OfOne me.0 (λ x. get_or s.words i 0 ≡ x.stored)
      finds = one_of id me y is s m at (λ x. get_or s.words i 0 ≡ x.stored) (holds_stored id me y is s m at i own)

      is_own : IsOwnWord i me
      is_own = one_of id me y is s m at (λ x. i ≡ x.held.number + 2) own

      fits_said : (other : Op) → some op ≡ some other → FitsOp other
      fits_said other said = subst FitsOp (some-injective op other said) fits

      becomes : (c : Bool) → (get_or s.words i 0 == a) ≡ c → either c b (get_or s.words i 0) ≡ either (get_or s.words i 0 == a) b (get_or s.words i 0)
      becomes c e = ap (λ (x : Bool). either x b (get_or s.words i 0)) (sym e)

      one : (c : Bool) → (get_or s.words i 0 == a) ≡ c
          → (w : YardView) × (x : Act Op) × Valid s.homes me.1 x × MeetsYard key (stepped s i (either (get_or s.words i 0 == a) b (get_or s.words i 0)) id me.1 w x)
          × AccessesYard (step slots i a b (some op)) me (get_or s.words i 0) (w, carried_after me.1 x)
      one true e =
          let found = eqb-true (get_or s.words i 0) a e in
          let p = use_memory id me y is s m at op i b own runs fits in (
            used id me y is s m at op b,
            keeps,
            tt,
            (subst (λ (v : ℕ). Made id me y is s m at i v (used id me y is s m at op b) (Some (Accesses y.held.number op))) (becomes true e) p.0).kept,
            (
              refl,
              (λ _ other said. subst (λ (o : Op). OfOne me.0 (λ x. Turns me.0 (used id me y is s m at op b) x (left_as (with_stored (accessed_by o x) b) me.0.shown me.0.cancel) (Some (Accesses x.held.number o)))) (some-injective op other said) p.1),
              (λ other. absurd (other found)),
              finds,
              is_own,
              (y, is, runs),
              fits_said,
            ),
          )
      one false e =
          let other = eqb-false (get_or s.words i 0) a e in
          let p = miss id me y is s m at i (get_or s.words i 0) own (holds_stored id me y is s m at i own) in (
            same_view id me y is s m at,
            keeps,
            tt,
            (subst (λ (v : ℕ). Made id me y is s m at i v (same_view id me y is s m at) None) (becomes false e) p.0).kept,
            (refl, (λ found. absurd (other found)), (λ _. p.1), finds, is_own, (y, is, runs), fits_said),
          )

  arrives_again_allowed : (slots id : ℕ) (me : Me Op YardView) (y : Resident) → me.0.held ≡ y ∷ [] → y.held.added ≡ Once → y.held.cpu.phase ≡ Restored
      → Allows (MeetsYard key) slots id me 1 (λ n. (n + 1) % 2 ^ 64) (ArrivesAgainYard (step slots 1 1 0 none) me)
  arrives_again_allowed slots id me y is on restored s m _ at small =
      let low = second_low s m id me.0 at y is in
      let same : get_or s.words 1 0 + 1 ≡ (get_or s.words 1 0 + 1) % 18446744073709551616 = omega arith in
      let p = add_again id me y is s m at on restored in
      (come_again id me y is s m at, keeps, tt, (subst (λ (a : ℕ). Made id me y is s m at 1 a (come_again id me y is s m at) (Some (Steps y.held.number ArriveAgain))) same p.0).kept, (refl, p.1, (y, is, restored)))

  releases_allowed : (slots id : ℕ) (me : Me Op YardView) (y : Resident) → me.0.held ≡ y ∷ [] → y.held.added ≡ Twice → y.held.cpu.phase ≡ Arrived2
      → Allows (MeetsYard key) slots id me 1 (λ n. n) (ReleasesYard (step slots 1 0 0 none) me)
  releases_allowed slots id me y is on waits s m _ at small = one (get_or s.words 1 0 == length me.0.start.cpus) refl
    where
      one : (b : Bool) → (get_or s.words 1 0 == length me.0.start.cpus) ≡ b
          → (w : YardView) × (a : Act Op) × Valid s.homes me.1 a × MeetsYard key (stepped s 1 (get_or s.words 1 0) id me.1 w a) × ReleasesYard (step slots 1 0 0 none) me (get_or s.words 1 0) (w, carried_after me.1 a)
      one true e =
          let full = eqb-true (get_or s.words 1 0) (length me.0.start.cpus) e in
          let p = release id me y is s m at on waits full in
          (released id me y is s m at, keeps, tt, p.0.kept, (refl, (λ _. p.1), (λ other. absurd (other full)), (y, is, waits)))
      one false e =
          let other = eqb-false (get_or s.words 1 0) (length me.0.start.cpus) e in
          let p = wait_again id me y is s m at in
          (shown_view id me y is s m at, keeps, tt, p.0.kept, (refl, (λ full. absurd (other full)), (λ _. p.1), (y, is, waits)))

  -- ---- what the table asks of each

  module _ (slots id : ℕ) (me : Me Op YardView) (y : Resident) (is : me.0.held ≡ y ∷ []) (pass : me.0.root ≡ false) where
    -- a fact on the seat of a pass, whose resident has added so
    of_pass : (b : Bool) → in_first y.held.added ≡ b → (P : Bool → Bool → Type 0) → P false b → P me.0.root (has_added me.0.held)
    of_pass b on P p = subst (λ (x : Bool × Bool). P x.0 x.1) (λ j. (sym pass j, sym (ap has_added is ∙ on) j)) p

    pub takes_yard : y.held.added ≡ Never → y.held.cpu.phase ≡ Running → Allows (MeetsYard key) slots id me 0 (λ n. n) (TellsYardStep (step slots 0 0 0 none) me)
    takes_yard out runs =
        of_pass false (ap in_first out) (λ root added. Allows (MeetsYard key) slots id me 0 (λ n. n) (OfSeat root 0 0 none added (step slots 0 0 0 none) me)) (takes_allowed slots id me y is out runs)

    pub arrives_yard : y.held.added ≡ Never → y.held.cpu.phase ≡ Taken → Allows (MeetsYard key) slots id me 0 (λ n. (n + 1) % 2 ^ 64) (TellsYardStep (step slots 0 1 0 none) me)
    arrives_yard out taken =
        of_pass false (ap in_first out) (λ root added. Allows (MeetsYard key) slots id me 0 (λ n. (n + 1) % 2 ^ 64) (OfSeat root 0 1 none added (step slots 0 1 0 none) me)) (arrives_allowed slots id me y is out taken)

    pub passes_yard : y.held.added ≡ Once → (y.held.cpu.phase ≡ Taken) ⊎ (y.held.cpu.phase ≡ Arrived) → Allows (MeetsYard key) slots id me 0 (λ n. n) (TellsYardStep (step slots 0 0 0 none) me)
    passes_yard on waits =
        of_pass true (ap in_first on) (λ root added. Allows (MeetsYard key) slots id me 0 (λ n. n) (OfSeat root 0 0 none added (step slots 0 0 0 none) me)) (passes_allowed slots id me y is on waits)

    pub works_yard : (i a : ℕ) → i ≡ y.held.number + 2 → y.held.added ≡ Once → is_local y.held.cpu.phase ≡ true → Allows (MeetsYard key) slots id me i (λ _. a) (λ _. TellsYardStep (step slots i a 0 none) me a)
    works_yard i a own on local =
        let at : suc (suc y.held.number) ≡ i = omega arith in
        subst (λ (w : ℕ). Allows (MeetsYard key) slots id me i (λ _. a) (λ _. OfSeat me.0.root w a none (has_added me.0.held) (step slots i a 0 none) me a)) at
        (of_pass true (ap in_first on) (λ root added. Allows (MeetsYard key) slots id me i (λ _. a) (λ _. OfSeat root (suc (suc y.held.number)) a none added (step slots i a 0 none) me a)) (works_allowed slots id i a me y is own on local))

    pub accesses_yard : (i a b : ℕ) (op : Op) → i ≡ y.held.number + 2 → y.held.cpu.phase ≡ Running → FitsOp op → Allows (MeetsYard key) slots id me i (λ n. either (n == a) b n) (TellsYardStep (step slots i a b (some op)) me)
    accesses_yard i a b op own runs fits =
        let at : suc (suc y.held.number) ≡ i = omega arith in
        subst (λ (w : ℕ). Allows (MeetsYard key) slots id me i (λ n. either (n == a) b n) (OfSeat me.0.root w a (some op) (has_added me.0.held) (step slots i a b (some op)) me)) at
        (of_pass (in_first y.held.added) refl (λ root added. Allows (MeetsYard key) slots id me i (λ n. either (n == a) b n) (OfSeat root (suc (suc y.held.number)) a (some op) added (step slots i a b (some op)) me)) (accesses_allowed slots id i a b op me y is own runs fits))

    pub arrives_again_yard : y.held.added ≡ Once → y.held.cpu.phase ≡ Restored → Allows (MeetsYard key) slots id me 1 (λ n. (n + 1) % 2 ^ 64) (TellsYardStep (step slots 1 1 0 none) me)
    arrives_again_yard on restored =
        of_pass true (ap in_first on) (λ root added. Allows (MeetsYard key) slots id me 1 (λ n. (n + 1) % 2 ^ 64) (OfSeat root 1 1 none added (step slots 1 1 0 none) me)) (arrives_again_allowed slots id me y is on restored)

    pub releases_yard : y.held.added ≡ Twice → y.held.cpu.phase ≡ Arrived2 → Allows (MeetsYard key) slots id me 1 (λ n. n) (TellsYardStep (step slots 1 0 0 none) me)
    releases_yard on waits =
        of_pass true (ap in_first on) (λ root added. Allows (MeetsYard key) slots id me 1 (λ n. n) (OfSeat root 1 0 none added (step slots 1 0 0 none) me)) (releases_allowed slots id me y is on waits)
