-- What a seat whose processor runs again tells of its station.
use Rattle.std.proofs.Common.{◌≡◌, ◌+◌, ◌&&◌, ◌||◌, not, ℕ, suc, Bool, true, false, List, [], ◌∷◌, length, map, refl, ap, ◌∙◌, subst, inr, ⊎_elim, arith, Some, None}
use Rattle.std.specs.Prelude.{if◌then◌else◌, nat_lt, slice_index}
use Rattle.std.specs.List.{list_all, list_any}
use Rattle.std.proofs.lemmas.Bool.{lt-ltb, ltb-true}
use mathlib.Core.Option.{some}
use lib.ListN.{get_elem?}
use Rattle.atomic_table.specs.Table.{State}
use Rattle.mt_machine.specs.declared.phase.Phase.{Phase}
use Rattle.mt_machine.specs.declared.phase.Phase.TheVariants.{Running, Arrived2}
use Rattle.mt_machine.specs.declared.go.Go.{Go}
use Rattle.mt_machine.specs.declared.go.Go.TheVariants.{Pending, Given, Cancelled}
use Rattle.mt_machine.specs.System.{Processor}
use Rattle.mt_machine.specs.Machine.{common_era, has_released, is_arrived_again, is_cancelled, is_over, is_waiting_to_pass}
use Rattle.mt_laws.proofs.Barrier.Claims.{barriers_hold_of}
use Rattle.mt_laws.proofs.Invariant.Runs.{led_reached}
use Rattle.mt_rendezvous.specs.declared.view.Held.{Held}
use Rattle.mt_rendezvous.specs.declared.view.Start.{Start}
use Rattle.mt_rendezvous.specs.declared.view.View.{View}
use Rattle.mt_rendezvous.specs.declared.view.Key.{Key}
use Rattle.mt_rendezvous.specs.Station.{FitsPhase, FitsHeld, Meets, again_of, added_of, broadcast, cpu_of, go_weight, held, joined, order_of, rise, start_of, total, weight, in_second}
use Rattle.mt_rendezvous.specs.Laws.{LeftWhereCancelled, ReleasedWhereFull}
use Rattle.mt_rendezvous.specs.declared.view.Added.TheVariants.{Once, Twice}
use Rattle.mt_rendezvous.specs.declared.view.Added.{Added}
use Rattle.mt_rendezvous.proofs.Keeps.{all_false, at_cpu}

not_less : (a b : ℕ) → a ≡ b → nat_lt a b ≡ true → ⊥
not_less a b e less = let l = ltb-true a b less in omega arith

-- one that has released has added to word 1
pub again_released : (n e : ℕ) (again : Bool) (p : Phase) → e ≡ n + rise again p → nat_lt n e ≡ true → again ≡ true
again_released n e true p is less = refl
again_released n e false Running is less = absurd (not_less n e (omega arith) less)
again_released n e false other is less = absurd (not_less n e (omega arith) less)

-- and so has one in Arrived2
again_arrived : (go : Go) (added : Added) (released : Bool) (p : Phase) → FitsPhase go added p → (released ≡ true → in_second added ≡ true) → (is_arrived_again p || released) ≡ true → in_second added ≡ true
again_arrived go added released Arrived2 f by is = ap in_second f.0
again_arrived go added released other f by is = by is

pub all_count : (l : List Held) → ((k : ℕ) (h : Held) → get_elem? l k ≡ some h → in_second h.added ≡ true) → total again_of l ≡ length l
all_count [] each = refl
all_count (x ∷ xs) each =
    let r = all_count xs (λ k h at. each (suc k) h at) in
    let one : weight (in_second x.added) ≡ 1 = ap weight (each 0 x refl) in
    omega arith

once : (go : Go) → FitsPhase go Once Running → go ≡ Cancelled
once go f = ⊎_elim (λ t. t.1) (λ t. absurd (let e : Once ≡ Twice = t.0 in cc)) f

twice : (go : Go) → FitsPhase go Twice Running → go ≡ Given
twice go f = ⊎_elim (λ t. absurd (let e : Twice ≡ Once = t.0 in cc)) (λ t. t.1) f

module _ (key : Key) (s : State (Unit {0}) View) (m : Meets key s) (j : ℕ) (v : View) (h : Held) (at : get_elem? s.views j ≡ some v) (is : v.held ≡ h ∷ []) where
  abbrev t : Start
  t = start_of key

  here : get_elem? m.all h.number ≡ some h
  here = ((m.seats j v at).holds 0 h (ap (λ (l : List Held). get_elem? l 0) is)).0

  fits : FitsHeld t m.go h
  fits = (m.fits h.number h here).0

  -- each has added to word 1 where this one has released
  each : m.go ≡ Given → has_released (order_of t m.go) h.cpu ≡ true → (i : ℕ) (g : Held) → get_elem? m.all i ≡ some g → in_second g.added ≡ true
  each given released i g there = by (is_over (order_of t m.go) (map cpu_of m.all)) refl
    where
      f : FitsHeld t m.go g
      f = (m.fits i g there).0

      by_era : has_released (order_of t m.go) g.cpu ≡ true → in_second g.added ≡ true
      by_era = again_released (common_era t.cpus) g.cpu.era (in_second g.added) g.cpu.phase f.era

      none_left : (b : Bool) → has_released (order_of t m.go) g.cpu ≡ b → is_over (order_of t m.go) (map cpu_of m.all) ≡ true → in_second g.added ≡ true
      none_left true e over = by_era e
      none_left false e over =
          let some_left : list_all (has_released (order_of t m.go)) (map cpu_of m.all) ≡ false = all_false (has_released (order_of t m.go)) m.all i g there e in
          let on : is_over (order_of t m.go) (map cpu_of m.all) ≡ false = (λ n. some_left n || (is_cancelled (given n) && not (list_any (λ (p : Processor). is_waiting_to_pass p.phase) (map cpu_of m.all)))) in
          absurd (cc)

      by : (b : Bool) → is_over (order_of t m.go) (map cpu_of m.all) ≡ b → in_second g.added ≡ true
      by true over = none_left (has_released (order_of t m.go) g.cpu) refl over
      by false on = again_arrived m.go g.added (has_released (order_of t m.go) g.cpu) g.cpu.phase f.fits by_era (
          (barriers_hold_of (broadcast t) (joined t m.all m.go s.words) (inr (order_of t Pending, m.begins.broadcasts)) (led_reached m.led_to)).second
          (order_of t m.go) h.number i h.cpu g.cpu (ap (λ (b : Bool). if b then None else Some (order_of t m.go)) on) (at_cpu m.all h.number h here) (at_cpu m.all i g there) released)

pub left_where_cancelled : LeftWhereCancelled
left_where_cancelled key s m j k v c at is runs =
    let go : m.go ≡ Cancelled = once m.go (subst (FitsPhase m.go Once) runs (fits key s m j v (held k c Once) at is).fits) in
    (go, (let e : slice_index s.words 0 ≡ total added_of m.all + 4294967296 = m.first ∙ ap (λ (g : Go). total added_of m.all + go_weight g) go in omega arith))

pub released_where_full : ReleasedWhereFull
released_where_full key s m j k v c at is runs =
    let f = fits key s m j v (held k c Twice) at is in
    let go : m.go ≡ Given = twice m.go (subst (FitsPhase m.go Twice) runs f.fits) in
    let up : rise true c.phase ≡ 1 = ap (rise true) runs in
    let era : c.era ≡ common_era key.cpus.value.items + rise true c.phase = f.era in
    let released = lt-ltb (common_era key.cpus.value.items) c.era (omega arith) in
    (go, m.second ∙ all_count m.all (each key s m j v (held k c Twice) at is go released) ∙ m.size)
