-- The steps of a yard by the two counts: which event each is.
use Rattle.std.proofs.Common.{◌≡◌, ◌≢◌, ◌⊎◌, ◌∙◌, ap, sym, refl, subst, arith, ℕ, zero, suc, ◌+◌, ◌<◌, ◌≤◌, Bool, true, false, not, ◌&&◌, ◌||◌, List, [], ◌∷◌, length, map, set, Option, None, Some, inl, inr, ⊎_elim}
use Rattle.std.specs.Prelude.{if◌then◌else◌}
use Rattle.std.specs.List.{list_all, list_any}
use Rattle.std.proofs.lemmas.Bool.{le-ltb}
use Rattle.std.proofs.lemmas.List.{length-map, map-set}
use mathlib.Core.Option.{some, some-injective, some-ne-none}
use lib.ListN.{get_elem?}
use Rattle.mt_machine.specs.declared.phase.Phase.{Phase}
use Rattle.mt_machine.specs.declared.phase.Phase.TheVariants.{Running, Taken, Arrived, Restored, Arrived2}
use Rattle.mt_machine.specs.declared.event.Event.{Event}
use Rattle.mt_machine.specs.declared.event.Event.TheVariants.{Arrive, Leave, Pass, ArriveAgain, Release}
use Rattle.mt_machine.specs.declared.go.Go.{Go}
use Rattle.mt_machine.specs.declared.go.Go.TheVariants.{Pending, Given, Cancelled}
use Rattle.mt_machine.specs.System.{Processor, System}
use Rattle.mt_machine.specs.Machine.{MachineEvent, Steps, common_era, due, has_arrived, has_arrived_again, has_released, is_cancelled, is_over, is_waiting_to_pass, step}
use Rattle.mt_rendezvous.specs.declared.view.Held.{Held}
use Rattle.mt_rendezvous.specs.declared.view.Start.{Start}
use Rattle.mt_rendezvous.specs.Station.{FitsPhase, added_of, again_of, cpu_of, order_of, rise, total, weight, in_first, in_second}
use Rattle.mt_rendezvous.specs.Plays.{arrive, arrive_again, does, late}
use Rattle.mt_rendezvous.proofs.Keeps.{IsUnderWay, all_false, all_true, order_stands, total_full, total_set, total_small, weight_small}
use Rattle.mt_rendezvous.proofs.Local.{again_in, arrived_in}
use Rattle.mt_rendezvous.proofs.Steps.{due_arrive, due_leave, due_pass, due_release, is_true, ready, shows}
use Rattle.mt_private.specs.declared.view.Resident.{Resident}
use Rattle.mt_private.specs.Own.{WritesOn}
use Rattle.mt_private.specs.Residents.{FitsResident, FitsYard, ResidentFollows, ResidentMoves, Yard, held_of, own_of, pages_at, with_held, yard_machine, scene, move_of}
use Rattle.mt_private.proofs.Residents.Events.{stays, steps}
use Rattle.mt_rendezvous.specs.declared.view.Added.TheVariants.{Never, Once, Twice}
use Rattle.mt_rendezvous.specs.declared.view.Added.{Added}
use Rattle.mt_private.proofs.Residents.Moves.{held_at}

-- ---- how a resident fits

-- while it is on its way it fits as at a rendezvous
pub on_way : (go : Go) (added : Added) (p : Phase) → IsUnderWay p → FitsYard go added p → FitsPhase go added p
on_way go added Running u f = absurd u
on_way go added other u f = f

from_way : (go : Go) (added : Added) (p : Phase) → IsUnderWay p → FitsPhase go added p → FitsYard go added p
from_way go added Running u f = absurd u
from_way go added other u f = f

-- and so does one whose pass has added
once_added : (go : Go) (added : Added) (p : Phase) → in_first added ≡ true → FitsYard go added p → FitsPhase go added p
once_added go added Running is f = ⊎_elim (λ (x : added ≡ Never). absurd (let e : false ≡ true = ap in_first (sym x) ∙ is in cc)) (λ x. x) f
once_added go added other is f = f

once_again : (go : Go) (added : Added) (p : Phase) → in_second added ≡ true → FitsYard go added p → FitsPhase go added p
once_again go added Running is f = ⊎_elim (λ (x : added ≡ Never). absurd (let e : false ≡ true = ap in_second (sym x) ∙ is in cc)) (λ x. x) f
once_again go added other is f = f

no_rise : (again : Bool) (p : Phase) → IsUnderWay p → rise again p ≡ 0
no_rise again Running u = absurd u
no_rise again other u = refl

pub same_era : (t : Start) (go : Go) (h : Held) → FitsResident t go h → IsUnderWay h.cpu.phase → h.cpu.era ≡ common_era t.cpus
same_era t go h f u = let e = f.era in let z = no_rise (in_second h.added) h.cpu.phase u in omega arith

pub on_its_way : (t : Start) (go : Go) (h : Held) → h.cpu.era ≡ common_era t.cpus → IsUnderWay h.cpu.phase → FitsPhase go h.added h.cpu.phase → FitsResident t go h
on_its_way t go h era u f = record { fits = from_way go h.added h.cpu.phase u f; era = let z = no_rise (in_second h.added) h.cpu.phase u in omega arith }

module _ (t : Start) (all : List Resident) (go : Go) (first second : ℕ) (s : System) (r : Yard t (scene all go s) first second) where
  abbrev hs : List Held
  hs = map held_of all

  pub few : length hs < 65536
  few = let a = length-map all held_of in let b = r.resides.size in let c = r.resides.opens.few in omega arith

  size : length hs ≡ length t.cpus
  size = length-map all held_of ∙ r.resides.size

  pub few_added : total added_of hs ≤ length hs
  few_added = total_small added_of (λ g. weight_small (in_first g.added)) hs

  -- a fact of each held processor comes from its resident
  resident_of : (all : List Resident) (j : ℕ) (h : Held) → get_elem? (map held_of all) j ≡ some h → (z : Resident) × (get_elem? all j ≡ some z) × (z.held ≡ h)
  resident_of [] j h at = absurd (some-ne-none h (sym at))
  resident_of (x ∷ xs) zero h at = (x, refl, some-injective x.held h at)
  resident_of (x ∷ xs) (suc j) h at = resident_of xs j h at

  fits_at : (j : ℕ) (h : Held) → get_elem? hs j ≡ some h → FitsResident t go h
  fits_at j h at = let z = resident_of all j h at in subst (FitsResident t go) z.2 (r.resides.fits j z.0 z.1).0

  -- the first barrier is open where the count is full
  all_arrived : total added_of hs ≡ length hs → go ≡ Given → list_all (has_arrived (order_of t go)) s.processors ≡ true
  all_arrived full given =
      ap (list_all (has_arrived (order_of t go))) r.resides.stands.processors
      ∙ all_true (has_arrived (order_of t go)) hs
      (λ j h at.
      let f = fits_at j h at in
      let on : in_first h.added ≡ true = is_true (in_first h.added) (total_full added_of (λ g. weight_small (in_first g.added)) hs full j h at) in
      subst (λ (g : Go). has_arrived (order_of t g) h.cpu ≡ true) (sym given)
      (arrived_in t h.cpu h.added h.cpu.phase (subst (λ (g : Go). FitsPhase g h.added h.cpu.phase) given (once_added go h.added h.cpu.phase on f.fits)) on f.era))

  -- and the second
  all_again : second ≡ length hs → list_all (has_arrived_again (order_of t go)) s.processors ≡ true
  all_again full =
      ap (list_all (has_arrived_again (order_of t go))) r.resides.stands.processors
      ∙ all_true (has_arrived_again (order_of t go)) hs
      (λ j h at.
      let f = fits_at j h at in
      let on : in_second h.added ≡ true = is_true (in_second h.added) (total_full again_of (λ g. weight_small (in_second g.added)) hs (sym r.second_count ∙ full) j h at) in
      again_in t go h.cpu h.added h.cpu.phase (once_again go h.added h.cpu.phase on f.fits) on f.era)

  module _ (k : ℕ) (y : Resident) (at : get_elem? all k ≡ some y) where
    pub own_fits : FitsResident t go y.held
    own_fits = (r.resides.fits k y at).0

    pub number : y.held.number ≡ k
    number = (r.resides.fits k y at).1

    -- the order is there while it is on its way
    pub under_way : IsUnderWay y.held.cpu.phase → (yard_machine t go s).order ≡ Some (order_of t go)
    under_way u =
        ap (λ (ps : List Processor). if is_over (order_of t go) ps then None else Some (order_of t go)) r.resides.stands.processors
        ∙ order_stands t hs go [] k y.held (held_at all k y at) u (on_way go y.held.added y.held.cpu.phase u own_fits.fits) own_fits.era

    -- and before it takes, where nothing is cancelled
    pub not_taken : go ≢ Cancelled → y.held.cpu.era ≡ common_era t.cpus → (yard_machine t go s).order ≡ Some (order_of t go)
    not_taken apart era =
        ap (λ (ps : List Processor). if is_over (order_of t go) ps then None else Some (order_of t go)) r.resides.stands.processors
        ∙ ap (λ (b : Bool). if b then None else Some (order_of t go)) over
      where
        released : has_released (order_of t go) y.held.cpu ≡ false
        released = le-ltb (common_era t.cpus) y.held.cpu.era (omega arith)

        none : (g : Go) → g ≢ Cancelled → (b : Bool) → (is_cancelled g && b) ≡ false
        none Pending n b = refl
        none Given n b = refl
        none Cancelled n b = absurd (n refl)

        over : is_over (order_of t go) (map cpu_of hs) ≡ false
        over =
            ap (λ b. b || (is_cancelled go && not (list_any (λ p. is_waiting_to_pass p.phase) (map cpu_of hs)))) (all_false (has_released (order_of t go)) hs k y.held (held_at all k y at) released)
            ∙ none go apart (not (list_any (λ p. is_waiting_to_pass p.phase) (map cpu_of hs)))

    -- the counts once w stands in its place
    pub counted : (w : Resident) (e : Option MachineEvent) (m n : ℕ) → ResidentMoves t (scene all go s) (move_of k w e) → m + weight (in_first y.held.added) ≡ first + weight (in_first w.held.added) → n + weight (in_second y.held.added) ≡ second + weight (in_second w.held.added)
        → ResidentFollows t (scene all go s) (move_of k w e) m n
    counted w e m n moves firsts seconds =
        let h = held_at all k y at in
        let same = map-set held_of all k w in
        let a = total_set added_of hs k y.held w.held h in
        let b = total_set again_of hs k y.held w.held h in
        let x : total added_of (map held_of (set all k w)) ≡ total added_of (set hs k w.held) = ap (total added_of) same in
        let z : total again_of (map held_of (set all k w)) ≡ total again_of (set hs k w.held) = ap (total again_of) same in
        let c = r.first_count in
        let d = r.second_count in
        record { moves = moves; first_count = omega arith; second_count = omega arith }

    -- a step by which the memory stays, as each at the barriers
    quiet_step : (e : Event) (h : Held) → (yard_machine t go s).order ≡ Some (order_of t go) → due (order_of t go) s.processors y.held.cpu y.held.cpu.phase ≡ Some e → WritesOn (pages_at t k) e
        → step t.goal e 0 (own_of y) ≡ own_of (with_held y h) → h.number ≡ k → FitsResident t go h → ResidentMoves t (scene all go s) (move_of k (with_held y h) (Some (Steps k e)))
    quiet_step e h order is on own same fits = steps t all go s r.resides k y at e (with_held y h) order is on (sym own) same fits

    -- ---- an addition to the first count

    pub arrives : y.held.added ≡ Never → y.held.cpu.phase ≡ Taken
        → (first < 4294967296 → ResidentFollows t (scene all go s) (move_of k (with_held y (arrive t y.held)) (Some (Steps k Arrive))) (first + 1) second)
        × (4294967296 ≤ first → ResidentFollows t (scene all go s) (move_of k (with_held y (late y.held)) None) (first + 1) second)
    arrives out taken =
        let u : IsUnderWay y.held.cpu.phase = subst IsUnderWay (sym taken) tt in
        let o : weight (in_first y.held.added) ≡ 0 = ap (λ a. weight (in_first a)) out in
        let out_again : in_second y.held.added ≡ false = ap in_second out in
        let z = few_added in
        let n = few in
        ⊎_elim
        (λ (c : (go ≡ Cancelled) × (4294967296 ≤ first)). (
          (λ (low : first < 4294967296). absurd (let high = c.1 in omega arith)),
          (λ _.
              counted (with_held y (late y.held)) None (first + 1) second
              (stays t all go s r.resides k y at (with_held y (late y.held)) refl number
              (record { fits = subst (FitsYard go Once) (sym taken) (inr (refl, c.0)); era = own_fits.era ∙ ap (λ b. common_era t.cpus + rise b y.held.cpu.phase) out_again }))
              (omega arith) (ap (λ b. second + weight b) out_again)),
        ))
        (λ (c : (go ≢ Cancelled) × (first < 4294967296)). (
          (λ _.
              counted (with_held y (arrive t y.held)) (Some (Steps k Arrive)) (first + 1) second
              (quiet_step Arrive (arrive t y.held) (under_way u) (due_arrive t go s.processors y.held.cpu taken c.0) tt refl number
              (on_its_way t go (arrive t y.held) (same_era t go y.held own_fits u) tt refl))
              (omega arith) (ap (λ b. second + weight b) out_again)),
          (λ (high : 4294967296 ≤ first). absurd (let low = c.1 in omega arith)),
        ))
        (shows go (total added_of hs) first r.first_count (omega arith))

    -- ---- a load of the first count

    -- all have added, and go is given
    pub passes : y.held.added ≡ Once → y.held.cpu.phase ≡ Arrived → first ≡ length t.cpus + 1 → ResidentFollows t (scene all go s) (move_of k (with_held y (does t Pass y.held)) (Some (Steps k Pass))) first second
    passes on arrived full =
        let u : IsUnderWay y.held.cpu.phase = subst IsUnderWay (sym arrived) tt in
        let z = size in
        let c = ready go (total added_of hs) first (length hs) r.first_count few_added few (omega arith) in
        counted (with_held y (does t Pass y.held)) (Some (Steps k Pass)) first second
        (quiet_step Pass (does t Pass y.held) (under_way u) (due_pass t go s.processors y.held.cpu arrived c.0 (all_arrived c.1 c.0)) tt refl number
        (on_its_way t go (does t Pass y.held) (same_era t go y.held own_fits u) tt (on, c.0)))
        refl refl

    -- the cancel stands there
    pub leaves : y.held.added ≡ Once → (y.held.cpu.phase ≡ Taken) ⊎ (y.held.cpu.phase ≡ Arrived) → 4294967296 ≤ first → ResidentFollows t (scene all go s) (move_of k (with_held y (does t Leave y.held)) (Some (Steps k Leave))) first second
    leaves on waits high =
        let u : IsUnderWay y.held.cpu.phase = ⊎_elim (λ (x : y.held.cpu.phase ≡ Taken). subst IsUnderWay (sym x) tt) (λ (x : y.held.cpu.phase ≡ Arrived). subst IsUnderWay (sym x) tt) waits in
        let n = few in
        let z = few_added in
        let era = same_era t go y.held own_fits u in
        let o : weight (in_second y.held.added) ≡ 0 = ap (λ a. weight (in_second a)) on in
        ⊎_elim
        (λ (c : (go ≡ Cancelled) × (4294967296 ≤ first)).
        counted (with_held y (does t Leave y.held)) (Some (Steps k Leave)) first second
        (quiet_step Leave (does t Leave y.held) (under_way u) (due_leave t go s.processors y.held.cpu waits c.0) tt refl number
        (record { fits = inr (inl (on, c.0)); era = omega arith }))
        refl refl)
        (λ (c : (go ≢ Cancelled) × (first < 4294967296)). absurd (let low = c.1 in omega arith))
        (shows go (total added_of hs) first r.first_count (omega arith))

    -- ---- the second count

    pub arrives_again : y.held.added ≡ Once → y.held.cpu.phase ≡ Restored → ResidentFollows t (scene all go s) (move_of k (with_held y (arrive_again t y.held)) (Some (Steps k ArriveAgain))) first (second + 1)
    arrives_again on restored =
        let u : IsUnderWay y.held.cpu.phase = subst IsUnderWay (sym restored) tt in
        let o : weight (in_second y.held.added) ≡ 0 = ap (λ a. weight (in_second a)) on in
        let old : FitsPhase go y.held.added Restored = subst (FitsPhase go y.held.added) restored (on_way go y.held.added y.held.cpu.phase u own_fits.fits) in
        counted (with_held y (arrive_again t y.held)) (Some (Steps k ArriveAgain)) first (second + 1)
        (quiet_step ArriveAgain (arrive_again t y.held) (under_way u) (ap (due (order_of t go) s.processors y.held.cpu) restored) tt refl number
        (on_its_way t go (arrive_again t y.held) (same_era t go y.held own_fits u) tt (refl, old.1)))
        (ap (λ a. first + weight (in_first a)) on) (omega arith)

    pub releases : y.held.added ≡ Twice → y.held.cpu.phase ≡ Arrived2 → second ≡ length t.cpus → ResidentFollows t (scene all go s) (move_of k (with_held y (does t Release y.held)) (Some (Steps k Release))) first second
    releases on waits full =
        let u : IsUnderWay y.held.cpu.phase = subst IsUnderWay (sym waits) tt in
        let z = size in
        let old : FitsPhase go y.held.added Arrived2 = subst (FitsPhase go y.held.added) waits (on_way go y.held.added y.held.cpu.phase u own_fits.fits) in
        let era = same_era t go y.held own_fits u in
        let o : weight (in_second y.held.added) ≡ 1 = ap (λ a. weight (in_second a)) on in
        counted (with_held y (does t Release y.held)) (Some (Steps k Release)) first second
        (quiet_step Release (does t Release y.held) (under_way u) (due_release t go s.processors y.held.cpu waits (all_again (omega arith))) tt refl number
        (record { fits = inr (inr (on, old.1)); era = omega arith }))
        refl refl

    -- a load that is no event
    pub unmoved : ResidentFollows t (scene all go s) (move_of k y None) first second
    unmoved = counted y None first second (stays t all go s r.resides k y at y refl number own_fits) refl refl
