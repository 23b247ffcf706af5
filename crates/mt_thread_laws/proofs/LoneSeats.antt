-- The yard of one meets the rule where its counts, its go and its resident make a yard.
use Rattle.std.proofs.Common.{◌≡◌, ◌∙◌, ◌<◌, ℕ, zero, suc, Bool, true, true≢false, false, [], ◌∷◌, ap, refl, subst, sym, inr, arith, None, Option, Some}
use mathlib.Core.Option.{some, some-injective, some-ne-none}
use lib.ListN.{get_elem?}
use Rattle.mt_machine.specs.declared.phase.Phase.TheVariants.{Running}
use Rattle.mt_machine.specs.declared.go.Go.{Go}
use Rattle.mt_machine.specs.declared.go.Go.TheVariants.{Cancelled, Given}
use Rattle.mt_rendezvous.specs.declared.view.Held.{Held}
use Rattle.mt_rendezvous.specs.declared.view.Key.{Key}
use Rattle.mt_rendezvous.specs.declared.view.Start.{Start}
use Rattle.mt_rendezvous.specs.declared.view.View.{View}
use Rattle.mt_rendezvous.specs.Station.{IsHeld, Sits, start_of, seating}
use Rattle.mt_private.specs.declared.view.Resident.{Resident}
use Rattle.mt_private.specs.declared.view.YardView.{YardView}
use Rattle.mt_private.specs.Residents.{Yard, scene}
use Rattle.mt_private.specs.YardPlays.{left_as}
use Rattle.mt_thread_laws.specs.WorkedWay.{guest, left, lone_pass, lone_root, lone_yard, released, settled}
use Rattle.mt_thread_laws.specs.WorkedYard.{alone}
use Rattle.mt_private.specs.YardRule.{AreAt, HoldsStored, MeetsYard, as_view}
use Rattle.mt_rendezvous.specs.declared.view.Added.TheVariants.{Once}
use Rattle.mt_thread_laws.proofs.LoneGuest.{IsYard, left_yard, released_yard}

abbrev owner : ℕ → ℕ
owner n = 1

-- resident 0, which has stored nothing
module _ (y : Resident) (number : y.held.number ≡ 0) (unstored : y.stored ≡ 0) where
  there : get_elem? (y ∷ []) y.held.number ≡ some y
  there = subst (λ (n : ℕ). get_elem? (y ∷ []) n ≡ some y) (sym number) refl

  held_there : get_elem? (y.held ∷ []) y.held.number ≡ some y.held
  held_there = subst (λ (n : ℕ). get_elem? (y.held ∷ []) n ≡ some y.held) (sym number) refl

  pub same_place : AreAt (y ∷ []) (y ∷ [])
  same_place zero z at = subst (λ (x : Resident). get_elem? (y ∷ []) x.held.number ≡ some x) (some-injective y z at) there
  same_place (suc i) z at = absurd (some-ne-none z (sym at))

  nobody_there : AreAt (y ∷ []) []
  nobody_there i z at = absurd (some-ne-none z (sym at))

  stores : (first second : ℕ) → HoldsStored (first ∷ second ∷ 0 ∷ []) (y ∷ [])
  stores first second zero z at = sym unstored ∙ ap (λ (x : Resident). x.stored) (some-injective y z at)
  stores first second (suc k) z at = absurd (some-ne-none z (sym at))

  module _ (key : Key) (is : start_of key ≡ alone) (go : Go) (shown : Option ℕ) (cancel : Bool) (says : cancel ≡ true → go ≡ Cancelled) where
    abbrev its_root : YardView
    its_root = lone_root (start_of key) go

    abbrev its_pass : YardView
    its_pass = lone_pass (start_of key) shown cancel y

    present : (k : ℕ) → k < 1 → IsHeld (as_view its_root ∷ as_view its_pass ∷ []) k
    present zero below = (1, as_view its_pass, 0, y.held, refl, refl, number)
    present (suc k) below = absurd (omega arith)

    is_first : (i : ℕ) (h : Held) → get_elem? (y.held ∷ []) i ≡ some h → (get_elem? (y.held ∷ []) h.number ≡ some h) × (owner h.number ≡ 1)
    is_first zero h at = subst (λ (x : Held). (get_elem? (y.held ∷ []) x.number ≡ some x) × (owner x.number ≡ 1)) (some-injective y.held h at) (held_there, refl)
    is_first (suc i) h at = absurd (some-ne-none h (sym at))

    root_sits : Sits (start_of key) (seating (y.held ∷ []) go owner) 0 (as_view its_root)
    root_sits = record { root = λ e. (refl, refl); told = inr refl; holds = λ i h at. absurd (some-ne-none h (sym at)); apart = tt }

    pass_sits : Sits (start_of key) (seating (y.held ∷ []) go owner) 1 (as_view its_pass)
    pass_sits = record { root = λ e. absurd (cc e); told = inr refl; holds = is_first; apart = ((λ i h at. absurd (some-ne-none h (sym at))), tt) }

    sits : (j : ℕ) (v : View) → get_elem? (as_view its_root ∷ as_view its_pass ∷ []) j ≡ some v → Sits (start_of key) (seating (y.held ∷ []) go owner) j v
    sits zero v at = subst (Sits (start_of key) (seating (y.held ∷ []) go owner) 0) (some-injective (as_view its_root) v at) root_sits
    sits (suc zero) v at = subst (Sits (start_of key) (seating (y.held ∷ []) go owner) 1) (some-injective (as_view its_pass) v at) pass_sits
    sits (suc (suc j)) v at = absurd (some-ne-none v (sym at))

    same : (j : ℕ) (v : YardView) → get_elem? (its_root ∷ its_pass ∷ []) j ≡ some v → AreAt (y ∷ []) v.held
    same zero v at = subst (λ (x : YardView). AreAt (y ∷ []) x.held) (some-injective its_root v at) nobody_there
    same (suc zero) v at = subst (λ (x : YardView). AreAt (y ∷ []) x.held) (some-injective its_pass v at) same_place
    same (suc (suc j)) v at = absurd (some-ne-none v (sym at))

    cancels : (j : ℕ) (v : YardView) → get_elem? (its_root ∷ its_pass ∷ []) j ≡ some v → v.cancel ≡ true → go ≡ Cancelled
    cancels zero v at said = absurd (true≢false (sym said ∙ ap (λ (x : YardView). x.cancel) (sym (some-injective its_root v at))))
    cancels (suc zero) v at said = says (ap (λ (x : YardView). x.cancel) (some-injective its_pass v at) ∙ said)
    cancels (suc (suc j)) v at said = absurd (some-ne-none v (sym at))

    meets : (first second : ℕ) → IsYard go first second y → MeetsYard key (lone_yard key go (left_as y shown cancel) first second)
    meets first second made = record {
      all = y ∷ [];
      go = go;
      owner = owner;
      system = made.0;
      yard = subst (λ (t : Start). Yard t (scene (y ∷ []) go made.0) first second) (sym is) made.1;
      wide = refl;
      stored = stores first second;
      present = present;
      sits = sits;
      same = same;
      cancels = cancels;
    }

pub settled_meets : (key : Key) → start_of key ≡ alone → MeetsYard key (settled key)
settled_meets key is = meets released refl refl key is Given (Some 1) false (λ e. absurd (true≢false (sym e))) 2 1 released_yard

pub left_meets : (key : Key) → start_of key ≡ alone → MeetsYard key (left key)
left_meets key is = meets (guest Running Once) refl refl key is Cancelled None true (λ e. refl) 0x100000001 0 left_yard
