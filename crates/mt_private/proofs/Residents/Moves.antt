-- One resident does something on its own pages: the others stand, and so does the whole.
use Rattle.std.proofs.Common.{◌≡◌, ◌≢◌, ◌∙◌, ap, sym, refl, subst, arith, ℕ, zero, suc, Bool, true, false, not, ◌&&◌, ◌||◌, List, [], ◌∷◌, map, set, Option, None, Some, ⊎_elim, length-set}
use Rattle.std.specs.Prelude.{if◌then◌else◌, nat_lt, slice_get}
use Rattle.std.specs.List.{list_all, list_any}
use Rattle.std.specs.Option.{option_map_or}
use Rattle.std.proofs.lemmas.List.{map-set}
use mathlib.Core.Option.{some, some-injective, some-ne-none}
use lib.ListN.{get_elem?}
use Rattle.atomic_table.proofs.Lists.{at_set}
use Rattle.mt_machine.specs.declared.go.Go.{Go}
use Rattle.mt_machine.specs.System.{Processor, System}
use Rattle.mt_machine.specs.Machine.{Order, has_released, is_cancelled, is_waiting_to_pass, remaining_order}
use Rattle.mt_machine.specs.Update.{addresses}
use Rattle.mt_laws.proofs.Barrier.Stages.{Stage, stages_of}
use Rattle.mt_rendezvous.specs.declared.view.Start.{Start}
use Rattle.mt_rendezvous.specs.Station.{broadcast, cpu_of}
use Rattle.mt_rendezvous.proofs.Keeps.{at_cpu, set_cpus}
use Rattle.mt_private.specs.declared.view.Resident.{Resident}
use Rattle.mt_private.specs.Own.{AreApart, Becomes, IsOwner, own_memory, own_system, put_first}
use Rattle.mt_private.specs.Pages.{IsPrivate, names}
use Rattle.mt_private.specs.Residents.{FitsResident, Resides, Uncalled, held_of, own_of, pages_at, pages_left, yard_machine, scene}
use Rattle.mt_private.proofs.Own.Owners.{memory_after, same_system, stays_owner, two_named, words_left}

-- ---- lists

pub held_at : (all : List Resident) (k : ℕ) (y : Resident) → get_elem? all k ≡ some y → get_elem? (map held_of all) k ≡ some y.held
held_at [] k y at = absurd (some-ne-none y (sym at))
held_at (x ∷ all) zero y at = ap (λ (z : Resident). some z.held) (some-injective x y at)
held_at (x ∷ all) (suc k) y at = held_at all k y at

any_at : (test : Processor → Bool) (ps : List Processor) (k : ℕ) (p : Processor) → slice_get ps k ≡ Some p → test p ≡ true → list_any test ps ≡ true
any_at test [] k p at is = absurd (cc)
any_at test (q ∷ ps) zero p at is = let e : q ≡ p = cc in ap (λ b. b || list_any test ps) (ap test e ∙ is)
any_at test (q ∷ ps) (suc k) p at is = one (test q) (any_at test ps k p at is)
  where
    one : (b : Bool) → list_any test ps ≡ true → (b || list_any test ps) ≡ true
    one true h = refl
    one false h = h

-- ---- pages of two processors, and those of none

module _ (t : Start) (unshared : IsPrivate (record { processors = t.cpus; memory = t.ram })) where
  pub pages_apart : (k j : ℕ) → j ≢ k → AreApart (pages_at t k) (pages_at t j)
  pages_apart k j differ page is = one (slice_get t.cpus k) (slice_get t.cpus j) refl refl is
    where
      two : (p q : Processor) → slice_get t.cpus k ≡ Some p → slice_get t.cpus j ≡ Some q → names page p ≡ true → (b : Bool) → names page q ≡ b → b ≡ false
      two p q at_k at_j named true also = let few = unshared page in let many = two_named page t.cpus j k q p differ at_j at_k also named in absurd (omega arith)
      two p q at_k at_j named false also = refl

      one : (x y : Option Processor) → slice_get t.cpus k ≡ x → slice_get t.cpus j ≡ y → option_map_or (names page) x false ≡ true → option_map_or (names page) y false ≡ false
      one None y at_k at_j h = absurd (cc)
      one (Some p) None at_k at_j h = refl
      one (Some p) (Some q) at_k at_j h = two p q at_k at_j h (names page q) refl

  pub left_apart : (k : ℕ) → AreApart (pages_at t k) (pages_left t)
  left_apart k page is = one (slice_get t.cpus k) refl is
    where
      one : (x : Option Processor) → slice_get t.cpus k ≡ x → option_map_or (names page) x false ≡ true → not (list_any (names page) t.cpus) ≡ false
      one None at h = absurd (cc)
      one (Some p) at h = ap not (any_at (names page) t.cpus k p at h)

-- ---- the order looks at phases and eras alone

module _ (o : Order) where
  released_in : Stage → Bool
  released_in x = nat_lt o.from_era x.1

  waiting_in : Stage → Bool
  waiting_in x = is_waiting_to_pass x.0

  all_in : (ps : List Processor) → list_all (has_released o) ps ≡ list_all released_in (stages_of ps)
  unfolding released_in
  all_in [] = refl
  all_in (p ∷ ps) = ap (λ b. has_released o p && b) (all_in ps)

  any_in : (ps : List Processor) → list_any (λ p. is_waiting_to_pass p.phase) ps ≡ list_any waiting_in (stages_of ps)
  unfolding waiting_in
  any_in [] = refl
  any_in (p ∷ ps) = ap (λ b. is_waiting_to_pass p.phase || b) (any_in ps)

  pub order_by_stages : (ps qs : List Processor) → stages_of ps ≡ stages_of qs → remaining_order o ps ≡ remaining_order o qs
  order_by_stages ps qs same =
      let x : list_all (has_released o) ps ≡ list_all (has_released o) qs = all_in ps ∙ ap (list_all released_in) same ∙ sym (all_in qs) in
      let y : list_any (λ p. is_waiting_to_pass p.phase) ps ≡ list_any (λ p. is_waiting_to_pass p.phase) qs = any_in ps ∙ ap (list_any waiting_in) same ∙ sym (any_in qs) in
      λ i. if (x i || (is_cancelled o.go && not (y i))) then None else Some o

-- ---- one resident moves

module _ (t : Start) (all : List Resident) (go : Go) (s : System) (r : Resides t (scene all go s)) (k : ℕ) (y : Resident) (at : get_elem? all k ≡ some y) where
  pub processor_at : slice_get s.processors k ≡ Some y.held.cpu
  processor_at = ap (λ ps. slice_get ps k) r.stands.processors ∙ at_cpu (map held_of all) k y.held (held_at all k y at)

  pub moves : (u o : System) (w : Resident) → Becomes (pages_at t k) k s u o → own_of w ≡ o → w.held.number ≡ k → FitsResident t go w.held → Uncalled (broadcast t) (yard_machine t go u) → Resides t (scene (set all k w) go u)
  moves u o w b own number fits reached = record {
    opens = r.opens;
    reached = reached;
    stands = record {
      processors =
          ap (λ (v : System). v.processors) b.whole
          ∙ ap (λ (v : System). put_first k v.processors s.processors) (sym own)
          ∙ ap (λ (ps : List Processor). set ps k w.held.cpu) r.stands.processors
          ∙ set_cpus (map held_of all) k y.held w.held (held_at all k y at)
          ∙ ap (map cpu_of) (sym (map-set held_of all k w));
      memory = memory_after (pages_at t k) k s u o b r.stands.memory;
      windows = ap (λ (v : System). v.memory.windows) b.whole ∙ r.stands.windows;
      owns = λ j z e. ⊎_elim
          (λ (x : (j ≡ k) × (w ≡ z)). subst (λ (i : ℕ). IsOwner (pages_at t i) i u) (sym x.0) b.owner)
          (λ (x : (j ≢ k) × (get_elem? all j ≡ some z)). stays_owner (pages_at t k) k s u o b (pages_at t j) j (r.stands.owns j z x.1) x.0 (pages_apart t r.opens.unshared k j x.0))
          (at_set all k j w z e);
      own = λ j z e. ⊎_elim
          (λ (x : (j ≡ k) × (w ≡ z)). ap (λ (i : ℕ). own_system (pages_at t i) i u) x.0 ∙ b.own ∙ sym own ∙ ap own_of x.1)
          (λ (x : (j ≢ k) × (get_elem? all j ≡ some z)).
          same_system (pages_at t k) k s u o b (pages_at t j) j (r.stands.owns j z x.1) x.0 (pages_apart t r.opens.unshared k j x.0) ∙ r.stands.own j z x.1)
          (at_set all k j w z e);
      left =
          ap (λ (v : System). own_memory (pages_left t) v.memory) b.whole
          ∙ (λ i. record s.memory { words = words_left (pages_at t k) (pages_left t) (left_apart t r.opens.unshared k) (addresses s.memory.windows) o.memory.words s.memory.words i })
          ∙ r.stands.left;
    };
    size = length-set all k w ∙ r.size;
    fits = λ j z e. ⊎_elim
        (λ (x : (j ≡ k) × (w ≡ z)). subst (λ (v : Resident). FitsResident t go v.held × (v.held.number ≡ j)) x.1 (fits, number ∙ sym x.0))
        (λ (x : (j ≢ k) × (get_elem? all j ≡ some z)). r.fits j z x.1)
        (at_set all k j w z e);
  }
