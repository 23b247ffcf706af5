-- What the root's additions ask.
use Rattle.std.proofs.Common.{◌≡◌, ◌∙◌, sym, refl, subst, arith, ℕ, ◌+◌, ◌%◌, ◌^◌, ◌<◌, ◌⊎◌, Bool, true, false, [], length, map, set, get_or, Some, inl, inr, get_or-set_other}
use Rattle.std.specs.Prelude.{slice_index}
use Rattle.std.proofs.lemmas.List.{length-map}
use mathlib.Core.Option.{none, some}
use lib.ListN.{get_elem?}
use Rattle.atomic_table.specs.Table.{Allows, Me, State, keeps, step}
use Rattle.mt_machine.specs.declared.go.Go.{Go}
use Rattle.mt_machine.specs.declared.go.Go.TheVariants.{Pending, Given, Cancelled}
use Rattle.mt_machine.specs.declared.op.Op.{Op}
use Rattle.mt_machine.specs.Machine.{Cancels, Goes, MachineEvent}
use Rattle.mt_rendezvous.specs.declared.view.Key.{Key}
use Rattle.mt_rendezvous.specs.declared.view.Start.{Start}
use Rattle.mt_rendezvous.specs.Station.{added_of, start_of, in_first}
use Rattle.mt_rendezvous.proofs.Keeps.{total_small, weight_small}
use Rattle.mt_private.specs.declared.view.YardView.{YardView}
use Rattle.mt_private.specs.Residents.{Decides, Yard, held_of, scene}
use Rattle.mt_private.specs.YardRule.{MeetsYard, as_view, with_decision}
use Rattle.mt_private.specs.YardLaws.{IsOneEvent}
use Rattle.mt_private.specs.YardPlays.{CancelsYard, GivesYard, Made, OfSeat, IsDecided, TellsYardStep, YardSat, has_added}
use Rattle.mt_private.proofs.Residents.Decisions.{cancels, gives}
use Rattle.mt_private.proofs.Residents.Seats.{mapped_at, says}

module _ (key : Key) where
  abbrev St : Type 0
  St = State Op YardView

  abbrev t : Start
  t = start_of key

  module _ (s : St) (m : MeetsYard key s) (id : ℕ) (v : YardView) (at : get_elem? s.views id ≡ some v) (root : v.root ≡ true) (unsaid : v.go ≡ Pending) where
    was : m.go ≡ Pending
    was = sym ((m.sits id (as_view v) (mapped_at as_view s.views id v at)).root root).1 ∙ unsaid

    yard : Yard t (scene m.all Pending m.system) (slice_index s.words 0) (slice_index s.words 1)
    yard = subst (λ (g : Go). Yard t (scene m.all g m.system) (slice_index s.words 0) (slice_index s.words 1)) was m.yard

    low : get_or s.words 0 0 < 65536
    low =
        let a = yard.first_count in
        let b = total_small added_of (λ g. weight_small (in_first g.added)) (map held_of m.all) in
        let c = length-map m.all held_of in
        let d = m.yard.resides.size in
        let e = m.yard.resides.opens.few in
        omega arith

    some_word : 0 < length s.words
    some_word = let w = m.wide in omega arith

    second_stays : (n : ℕ) → slice_index (set s.words 0 n) 1 ≡ slice_index s.words 1
    second_stays n = get_or-set_other s.words 0 1 n 0 (λ (e : 1 ≡ 0). omega arith)

    started : v.start ≡ t
    started = told (m.sits id (as_view v) (mapped_at as_view s.views id v at)).told
      where
        told : (((as_view v).held ≡ []) × (v.root ≡ false)) ⊎ (v.start ≡ t) → v.start ≡ t
        told (inl nothing) = absurd (let e = nothing.1 in cc)
        told (inr x) = x

    -- a decision, and what it tells
    pub said : (n : ℕ) (go : Go) (e : MachineEvent) → Decides t (scene m.all go m.system) n (slice_index s.words 1) e
        → IsOneEvent key s (record { words = set s.words 0 n; homes = s.homes; views = set s.views id (with_decision v go) }) m (Some e) × IsDecided v.start n e go
    said n go e d = (
      says key s m id n v go e at root some_word (second_stays n) was d,
      subst (λ (x : Start). IsDecided x n e go) (sym started) (record { all = m.all; second = slice_index s.words 1; system = m.system; decides = d }),
    )

    pub giving : Decides t (scene m.all Given m.system) ((get_or s.words 0 0 + 1) % 18446744073709551616) (slice_index s.words 1) Goes
    giving =
        let l = low in
        let same : get_or s.words 0 0 + 1 ≡ (get_or s.words 0 0 + 1) % 18446744073709551616 = omega arith in
        subst (λ (n : ℕ). Decides t (scene m.all Given m.system) n (slice_index s.words 1) Goes) same (gives t m.all (slice_index s.words 0) (slice_index s.words 1) m.system yard)

    pub cancelling : Decides t (scene m.all Cancelled m.system) ((get_or s.words 0 0 + 4294967296) % 18446744073709551616) (slice_index s.words 1) Cancels
    cancelling =
        let l = low in
        let same : get_or s.words 0 0 + 4294967296 ≡ (get_or s.words 0 0 + 4294967296) % 18446744073709551616 = omega arith in
        subst (λ (n : ℕ). Decides t (scene m.all Cancelled m.system) n (slice_index s.words 1) Cancels) same (cancels t m.all (slice_index s.words 0) (slice_index s.words 1) m.system yard)

  -- what is so of the host's seat
  of_host : (me : Me Op YardView) → me.0.root ≡ true → (P : Bool → Type 0) → P true → P me.0.root
  of_host me root P p = subst P (sym root) p

  pub gives_yard : (slots id : ℕ) (me : Me Op YardView) → me.0.root ≡ true → me.0.go ≡ Pending
      → Allows (MeetsYard key) slots id me 0 (λ n. (n + 1) % 2 ^ 64) (TellsYardStep (step slots 0 1 0 none) me)
  gives_yard slots id me root is =
      of_host me root (λ host. Allows (MeetsYard key) slots id me 0 (λ n. (n + 1) % 2 ^ 64) (OfSeat host 0 1 none (has_added me.0.held) (step slots 0 1 0 none) me))
      (λ s m _ at small.
      let p = said s m id me.0 at root is ((get_or s.words 0 0 + 1) % 18446744073709551616) Given Goes (giving s m id me.0 at root is) in
      (with_decision me.0 Given, keeps, tt, p.0.kept, (refl, refl, p.1, is)))

  pub cancels_yard : (slots id : ℕ) (me : Me Op YardView) → me.0.root ≡ true → me.0.go ≡ Pending
      → Allows (MeetsYard key) slots id me 0 (λ n. (n + 4294967296) % 2 ^ 64) (TellsYardStep (step slots 0 4294967296 0 none) me)
  cancels_yard slots id me root is =
      of_host me root (λ host. Allows (MeetsYard key) slots id me 0 (λ n. (n + 4294967296) % 2 ^ 64) (OfSeat host 0 4294967296 none (has_added me.0.held) (step slots 0 4294967296 0 none) me))
      (λ s m _ at small.
      let p = said s m id me.0 at root is ((get_or s.words 0 0 + 4294967296) % 18446744073709551616) Cancelled Cancels (cancelling s m id me.0 at root is) in
      (with_decision me.0 Cancelled, keeps, tt, p.0.kept, (refl, refl, p.1, is, refl)))

-- the host's step, by its seat
pub told_go : (slots found : ℕ) (me new : YardSat) → me.0.root ≡ true → TellsYardStep (step slots 0 1 0 none) me found new → GivesYard (step slots 0 1 0 none) me found new
told_go slots found me new root tells = subst (λ (host : Bool). OfSeat host 0 1 none (has_added me.0.held) (step slots 0 1 0 none) me found new) root tells

pub told_cancel : (slots found : ℕ) (me new : YardSat) → me.0.root ≡ true → TellsYardStep (step slots 0 4294967296 0 none) me found new → CancelsYard (step slots 0 4294967296 0 none) me found new
told_cancel slots found me new root tells = subst (λ (host : Bool). OfSeat host 0 4294967296 none (has_added me.0.held) (step slots 0 4294967296 0 none) me found new) root tells

-- and by what it was made
pub made : (slots i a found : ℕ) (me new : YardSat) → slots ≡ 0 → TellsYardStep (step slots i a 0 none) me found new → Made i a me new
made slots i a found me new none_held tells = (found, subst (λ (n : ℕ). TellsYardStep (step n i a 0 none) me found new) none_held tells)
