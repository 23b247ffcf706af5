-- The one play of all steps: what each call hands to it, and what a step leaves of its seat's view.
use Rattle.std.proofs.Common.{◌≡◌, ◌≢◌, ◌⊎◌, ◌≤◌, ℕ, zero, suc, ◌+◌, ◌%◌, ◌^◌, ◌<◌, Bool, true, false, true≢false, List, [], ◌∷◌, map, length, sym, refl, ap, ◌∙◌, subst, inl, inr, ⊎_elim, arith, Option, Some, None}
use mathlib.Core.Option.{none}
use mathlib.Core.Logic.{dite}
use native.Mathlib.Decide.{ℕ_discrete}
use Rattle.atomic_table.specs.Table.{Step, Allows, carried_after, step}
use Rattle.mt_machine.specs.declared.phase.Phase.TheVariants.{Taken, Restored, Arrived2}
use Rattle.mt_machine.specs.declared.go.Go.TheVariants.{Pending}
use Rattle.mt_machine.specs.declared.event.Event.{Event}
use Rattle.mt_machine.specs.declared.event.Event.TheVariants.{Leave, Pass}
use Rattle.mt_machine.specs.Memory.{place}
use Rattle.mt_machine.specs.System.{Processor}
use Rattle.mt_machine.specs.Machine.{own_step}
use Rattle.mt_rendezvous.specs.declared.view.Held.{Held}
use Rattle.mt_rendezvous.specs.declared.view.Start.{Start}
use Rattle.mt_rendezvous.specs.declared.view.View.{View}
use Rattle.mt_rendezvous.specs.declared.view.Key.{Key}
use Rattle.mt_rendezvous.specs.Station.{Meets, code, first_memory_word, held, with_held}
use Rattle.mt_rendezvous.specs.Plays.{Arrives, GoesTo, IsWaiting, Passes, Sat, TellsSeatStep, TellsAt, TellsFirst, TellsSecond, arrive, does, late, own_event, written}
use Rattle.mt_rendezvous.proofs.Steps.{IsDue, arrives, arrives_again, own_is, passes, releases, works, writes_back}
use Rattle.mt_rendezvous.specs.declared.view.Added.TheVariants.{Never, Once, Twice}
use Rattle.mt_rendezvous.proofs.RootSteps.{cancels, gives}

-- ---- a store goes behind the counts

pub at_store : (i : ℕ) (st : Step (Unit {0})) (me new : Sat) (found : ℕ) → 2 ≤ i → TellsAt 2 st me found new → TellsAt i st me found new
at_store zero st me new found high t = absurd (omega arith)
at_store (suc zero) st me new found high t = absurd (omega arith)
at_store (suc (suc i)) st me new found high t = t

pub of_store : (i : ℕ) (st : Step (Unit {0})) (me new : Sat) (found : ℕ) → 2 ≤ i → TellsAt i st me found new → TellsAt 2 st me found new
of_store zero st me new found high t = absurd (omega arith)
of_store (suc zero) st me new found high t = absurd (omega arith)
of_store (suc (suc i)) st me new found high t = t

-- ---- what a step leaves of its seat's view

split_at : (n m : ℕ) → (n < m) ⊎ (m ≤ n)
split_at zero zero = inr (omega arith)
split_at zero (suc m) = inl (omega arith)
split_at (suc n) zero = inr (omega arith)
split_at (suc n) (suc m) = ⊎_elim (λ (l : n < m). inl (omega arith)) (λ (g : m ≤ n). inr (omega arith)) (split_at n m)

-- all but its processors
abbrev Keeps : Sat → Sat → Type 0
Keeps me new = (hs : List Held) × (new.0 ≡ with_held me.0 hs)

arrived : (st : Step (Unit {0})) (me new : Sat) (found : ℕ) → Arrives st me found new → Keeps me new
arrived st me new found t =
    ⊎_elim (λ (below : found < 4294967296). (map (arrive me.0.start) me.0.held, (t.3 below).0)) (λ (above : 4294967296 ≤ found). (map late me.0.held, (t.4 above).0))
    (split_at found 4294967296)

passed : (st : Step (Unit {0})) (me new : Sat) (found : ℕ) → Passes st me found new → Keeps me new
passed st me new found t = dite (ℕ_discrete found (length me.0.start.cpus + 1))
    (λ (full : found ≡ length me.0.start.cpus + 1). (map (does me.0.start Pass) me.0.held, (t.1 full).0))
    (λ (not_full : found ≢ length me.0.start.cpus + 1). ⊎_elim
    (λ (below : found < 4294967296). (me.0.held, (t.3 below not_full).0)) (λ (above : 4294967296 ≤ found). (map (does me.0.start Leave) me.0.held, (t.2 above).0))
    (split_at found 4294967296))

module _ (st : Step (Unit {0})) (me new : Sat) (found : ℕ) where
  by_keeps : Keeps me new → (new.0.shown ≡ me.0.shown) × (new.0.root ≡ me.0.root)
  by_keeps k = (ap (λ (v : View). v.shown) k.1, ap (λ (v : View). v.root) k.1)

  -- an addition of 1 to word 0, by the root or by a pass
  on_first : (b : Bool) → me.0.root ≡ b → TellsFirst 1 st me found new → (new.0.shown ≡ me.0.shown) × (new.0.root ≡ me.0.root)
  on_first true is t = let g = ((t.0 is).1).1 in (ap (λ (v : View). v.shown) g, ap (λ (v : View). v.root) g)
  on_first false is t = by_keeps (arrived st me new found (t.1 is).1)

  -- a load of word 1
  pub loaded_again : TellsSecond 0 st me found new → (new.0.shown ≡ Some found) × (new.0.root ≡ me.0.root)
  loaded_again t = dite (ℕ_discrete found (length me.0.start.cpus))
      (λ (full : found ≡ length me.0.start.cpus). let v = (t.1.2 full).0 in (ap (λ (v : View). v.shown) v, ap (λ (v : View). v.root) v))
      (λ (not_full : found ≢ length me.0.start.cpus). let v = (t.1.3 not_full).0 in (ap (λ (v : View). v.shown) v, ap (λ (v : View). v.root) v))

  -- any step of word 0
  first_unshown : (a : ℕ) → TellsFirst a st me found new → (new.0.shown ≡ me.0.shown) × (new.0.root ≡ me.0.root)
  first_unshown zero t = by_keeps (passed st me new found t.1)
  first_unshown (suc zero) t = on_first me.0.root refl t
  first_unshown (suc (suc more)) t = (ap (λ (v : View). v.shown) t.2.1, ap (λ (v : View). v.root) t.2.1)

  -- an addition to word 1
  second_unshown : (a : ℕ) → a ≢ 0 → TellsSecond a st me found new → (new.0.shown ≡ me.0.shown) × (new.0.root ≡ me.0.root)
  second_unshown zero added t = absurd (added refl)
  second_unshown (suc zero) added t = (ap (λ (v : View). v.shown) t.1.1, ap (λ (v : View). v.root) t.1.1)
  second_unshown (suc (suc more)) added t = absurd t

  -- any but a load of word 1
  pub unshown : (i : ℕ) → (i ≢ 1) ⊎ (st.first ≢ 0) → TellsAt i st me found new → (new.0.shown ≡ me.0.shown) × (new.0.root ≡ me.0.root)
  unshown zero apart t = first_unshown st.first t
  unshown (suc zero) apart t = second_unshown st.first (⊎_elim (λ (n : 1 ≢ 1). absurd (n refl)) (λ (n : st.first ≢ 0). n) apart) t
  unshown (suc (suc i)) apart t = (ap (λ (v : View). v.shown) t.2.1, ap (λ (v : View). v.root) t.2.1)

-- ---- where the event between the barriers is stored

pub goes_own : (slots : ℕ) (t : Start) (k n : ℕ) (c : Processor) (e : Event) → own_event t c ≡ e → written e ≡ None → n ≡ code (own_step t.goal e c).phase → GoesTo t (held k c Once) (written (own_event t c)) (step slots (k + 2) n 0 none)
goes_own slots t k n c e own no_word is_code =
    subst (λ (w : Option (ℕ × ℕ)). GoesTo t (held k c Once) w (step slots (k + 2) n 0 none)) (sym (ap written own ∙ no_word)) (refl, is_code ∙ ap (λ (y : Event). code (own_step t.goal y c).phase) (sym own))

pub goes_back : (slots : ℕ) (t : Start) (k i j address value : ℕ) (c : Processor) (e : Event) → own_event t c ≡ e → written e ≡ Some (address, value) → place t.ram address ≡ Some j → i ≡ first_memory_word t + j
    → GoesTo t (held k c Once) (written (own_event t c)) (step slots i value 0 none)
goes_back slots t k i j address value c e own word placed at_i = subst (λ (w : Option (ℕ × ℕ)). GoesTo t (held k c Once) w (step slots i value 0 none)) (sym (ap written own ∙ word)) (refl, j, placed, at_i)

-- ---- the calls

module _ (key : Key) (slots id k : ℕ) (me : Sat) (c : Processor) where
  pub arrives_told : me.0.root ≡ false → me.0.held ≡ held k c Never ∷ [] → c.phase ≡ Taken → Allows (Meets key) slots id me 0 (λ n. (n + 1) % 2 ^ 64) (TellsSeatStep (step slots 0 1 0 none) me)
  arrives_told no_root is taken s m size at small =
      let r = arrives key slots id me (held k c Never) is refl taken s m size at small in (
        r.0,
        r.1,
        r.2,
        r.3,
        ((λ (root : me.0.root ≡ true). absurd (true≢false (sym root ∙ no_root))), (λ _. (record { number = k; cpu = c; holds = is; phase = taken }, r.4))),
      )

  pub passes_told : me.0.held ≡ held k c Once ∷ [] → IsWaiting c.phase → Allows (Meets key) slots id me 0 (λ n. n) (TellsSeatStep (step slots 0 0 0 none) me)
  passes_told is waits s m size at small =
      let r = passes key slots id me (held k c Once) is refl waits s m size at small in
      (r.0, r.1, r.2, r.3, (record { number = k; cpu = c; holds = is; phase = waits }, r.4))

  pub arrives_again_told : me.0.held ≡ held k c Once ∷ [] → c.phase ≡ Restored → Allows (Meets key) slots id me 1 (λ n. (n + 1) % 2 ^ 64) (TellsSeatStep (step slots 1 1 0 none) me)
  arrives_again_told is restored s m size at small =
      let r = arrives_again key slots id me (held k c Once) is refl restored s m size at small in
      (r.0, r.1, r.2, r.3, (record { number = k; cpu = c; holds = is; phase = restored }, r.4))

  pub releases_told : me.0.held ≡ held k c Twice ∷ [] → c.phase ≡ Arrived2 → Allows (Meets key) slots id me 1 (λ n. n) (TellsSeatStep (step slots 1 0 0 none) me)
  releases_told is waits s m size at small =
      let r = releases key slots id me (held k c Twice) is refl waits s m size at small in
      (r.0, r.1, r.2, r.3, (record { number = k; cpu = c; holds = is; phase = waits }, r.4))

  pub works_told : (n : ℕ) (e : Event) → IsDue key me (held k c Once) e → written e ≡ None → n ≡ code (own_step me.0.start.goal e c).phase
      → Allows (Meets key) slots id me (k + 2) (λ _. n) (λ _. TellsSeatStep (step slots (k + 2) n 0 none) me n)
  works_told n e d no_word is_code s m size at small =
      let r = works key slots id n me (held k c Once) e d no_word is_code s m size at small in
      let goes = goes_own slots me.0.start k n c e (own_is key me.0.start me (held k c Once) e d) no_word is_code in (
        r.0,
        r.1,
        r.2,
        r.3,
        at_store (k + 2) (step slots (k + 2) n 0 none) me (r.0, carried_after me.1 r.1) n (omega arith) (record { number = k; cpu = c; holds = d.is; phase = d.here }, goes, r.4),
      )

  pub writes_back_told : (i j address value : ℕ) (e : Event) → IsDue key me (held k c Once) e → written e ≡ Some (address, value) → place me.0.start.ram address ≡ Some j → i ≡ first_memory_word me.0.start + j
      → Allows (Meets key) slots id me i (λ _. value) (λ _. TellsSeatStep (step slots i value 0 none) me value)
  writes_back_told i j address value e d word placed at_i s m size at small =
      let r = writes_back key slots id i j address value me (held k c Once) e d word placed at_i s m size at small in
      let goes = goes_back slots me.0.start k i j address value c e (own_is key me.0.start me (held k c Once) e d) word placed at_i in (
        r.0,
        r.1,
        r.2,
        r.3,
        at_store i (step slots i value 0 none) me (r.0, carried_after me.1 r.1) value (omega arith) (record { number = k; cpu = c; holds = d.is; phase = d.here }, goes, r.4),
      )

module _ (key : Key) (slots id : ℕ) (me : Sat) (root : me.0.root ≡ true) (unsaid : me.0.go ≡ Pending) where
  pub gives_told : Allows (Meets key) slots id me 0 (λ n. (n + 1) % 2 ^ 64) (TellsSeatStep (step slots 0 1 0 none) me)
  gives_told s m size at small =
      let r = gives key slots id me root unsaid s m size at small in
      (r.0, r.1, r.2, r.3, ((λ _. ((root, unsaid), r.4)), (λ (no_root : me.0.root ≡ false). absurd (true≢false (sym root ∙ no_root)))))

  pub cancels_told : Allows (Meets key) slots id me 0 (λ n. (n + 4294967296) % 2 ^ 64) (TellsSeatStep (step slots 0 4294967296 0 none) me)
  cancels_told s m size at small =
      let r = cancels key slots id me root unsaid s m size at small in (r.0, r.1, r.2, r.3, (refl, (root, unsaid), r.4))
