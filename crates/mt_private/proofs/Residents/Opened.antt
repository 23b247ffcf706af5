-- The rule holds at the start of a yard.
use Rattle.std.proofs.Common.{◌≡◌, ◌∙◌, ap, sym, refl, subst, arith, ℕ, zero, suc, ◌+◌, ◌<◌, Bool, true, false, ◌&&◌, ◌||◌, List, [], ◌∷◌, length, map, Option, None, Some, inl, inr}
use Rattle.std.specs.Prelude.{if◌then◌else◌, slice_get, slice_index}
use Rattle.std.specs.List.{list_all}
use Rattle.std.specs.Option.{option_map_or}
use Rattle.std.proofs.lemmas.Bool.{le-ltb}
use Rattle.std.proofs.lemmas.List.{length-map}
use mathlib.Core.Option.{some, some-injective, some-ne-none}
use lib.ListN.{get_elem?}
use Rattle.atomic_table.specs.Table.{opening}
use Rattle.mt_machine.specs.declared.phase.Phase.{Phase}
use Rattle.mt_machine.specs.declared.phase.Phase.TheVariants.{Running}
use Rattle.mt_machine.specs.declared.go.Go.TheVariants.{Cancelled, Pending}
use Rattle.mt_machine.specs.System.{Processor}
use Rattle.mt_machine.specs.Access.{is_running}
use Rattle.mt_machine.specs.Machine.{Order, common_era, has_released}
use Rattle.mt_laws.proofs.Barrier.Claims.{all_get}
use Rattle.mt_rendezvous.specs.declared.view.Held.{Held}
use Rattle.mt_rendezvous.specs.declared.view.Key.{Key}
use Rattle.mt_rendezvous.specs.declared.view.Start.{Start}
use Rattle.mt_rendezvous.specs.declared.view.View.{View}
use Rattle.mt_rendezvous.specs.Station.{Apart, Sits, added_of, again_of, broadcast, cpu_of, held, numbered, order_of, rise, start_of, total, seating}
use Rattle.mt_rendezvous.proofs.RootSteps.{numbered_apart, numbered_at, numbered_cpus, numbered_length, numbered_none, numbered_some}
use Rattle.mt_private.specs.declared.view.Resident.{Resident}
use Rattle.mt_private.specs.declared.view.YardView.{YardView}
use Rattle.mt_private.specs.Own.{IsOwner, own_memory, own_system}
use Rattle.mt_private.specs.Pages.{names}
use Rattle.mt_private.specs.Residents.{FitsResident, FitsYard, Opens, Resides, Uncalled, held_of, own_of, pages_at, system_of, uncalled_start, yard_machine, scene}
use Rattle.mt_private.specs.YardRule.{AreAt, MeetsYard, as_view, first_yard_view, residents}
use Rattle.mt_rendezvous.specs.declared.view.Added.TheVariants.{Never}
use Rattle.mt_private.proofs.Own.Owners.{private_owner}

residents_held : (t : Start) (k : ℕ) (cs : List Processor) → map held_of (residents t k cs) ≡ numbered k cs
residents_held t k [] = refl
residents_held t k (c ∷ cs) = ap (λ hs. held k c Never ∷ hs) (residents_held t (k + 1) cs)

-- a resident at its place
record IsLodged (t : Start) (cs : List Processor) (k j : ℕ) (y : Resident) : Type 0 where
  pub cpu : Processor
  pub at : slice_get cs j ≡ Some cpu
  pub is : y ≡ record { held = held (k + j) cpu Never; ram = own_memory (pages_at t (k + j)) t.ram; done = []; stored = 0 }

lodged : (t : Start) (k : ℕ) (cs : List Processor) (j : ℕ) (y : Resident) → get_elem? (residents t k cs) j ≡ some y → IsLodged t cs k j y
lodged t k [] j y e = absurd (some-ne-none y (sym e))
lodged t k (c ∷ cs) zero y e =
    let n : k ≡ k + 0 = omega arith in record {
      cpu = c;
      at = refl;
      is = sym (some-injective _ y e) ∙ ap (λ (i : ℕ). record { held = held i c Never; ram = own_memory (pages_at t i) t.ram; done = []; stored = 0 }) n;
    }
lodged t k (c ∷ cs) (suc j) y e =
    let r = lodged t (k + 1) cs j y e in
    let n : k + 1 + j ≡ k + suc j = omega arith in record {
      cpu = r.cpu;
      at = r.at;
      is = r.is ∙ ap (λ (i : ℕ). record { held = held i r.cpu Never; ram = own_memory (pages_at t i) t.ram; done = []; stored = 0 }) n;
    }

running_is : (p : Phase) → is_running p ≡ true → p ≡ Running
running_is Running h = refl
running_is other h = absurd (cc)

none_released : (o : Order) (cs : List Processor) → 0 < length cs → o.from_era ≡ common_era cs → list_all (has_released o) cs ≡ false
none_released o [] some_one same = absurd (omega arith)
none_released o (c ∷ cs) some_one same = ap (λ b. b && list_all (has_released o) cs) (le-ltb o.from_era c.era (omega arith))

module _ (t : Start) (opens : Opens t) where
  abbrev all : List Resident
  all = residents t 0 t.cpus

  abbrev Lodged : ℕ → Resident → Type 0
  Lodged k y = IsLodged t t.cpus 0 k y

  place : (k : ℕ) → 0 + k ≡ k
  place k = omega arith

  its : (k : ℕ) (y : Resident) (l : Lodged k y) → y ≡ record { held = held k l.cpu Never; ram = own_memory (pages_at t k) t.ram; done = []; stored = 0 }
  its k y l = l.is ∙ ap (λ (i : ℕ). record { held = held i l.cpu Never; ram = own_memory (pages_at t i) t.ram; done = []; stored = 0 }) (place k)

  fits : (k : ℕ) (y : Resident) → get_elem? all k ≡ some y → FitsResident t Pending y.held × (y.held.number ≡ k)
  fits k y at =
      let l = lodged t 0 t.cpus k y at in
      let runs : l.cpu.phase ≡ Running = running_is l.cpu.phase (all_get (λ p. is_running p.phase ≡ true) t.cpus opens.quiet.running k l.cpu l.at) in
      let era : l.cpu.era ≡ common_era t.cpus = all_get (λ p. p.era ≡ common_era t.cpus) t.cpus opens.quiet.one_era k l.cpu l.at in
      let up : rise false l.cpu.phase ≡ 0 = ap (rise false) runs in
      let f : FitsResident t Pending (held k l.cpu Never) = record { fits = subst (FitsYard Pending Never) (sym runs) (inl refl); era = omega arith } in
      (subst (λ (z : Resident). FitsResident t Pending z.held) (sym (its k y l)) f, ap (λ (z : Resident). z.held.number) (its k y l))

  owns : (k : ℕ) (y : Resident) → get_elem? all k ≡ some y → IsOwner (pages_at t k) k (system_of t)
  owns k y at =
      let l = lodged t 0 t.cpus k y at in
      subst (λ (pages : ℕ → Bool). IsOwner pages k (system_of t)) (λ i page. option_map_or (names page) (sym l.at i) false) (private_owner (system_of t) k l.cpu opens.unshared l.at)

  own : (k : ℕ) (y : Resident) → get_elem? all k ≡ some y → own_system (pages_at t k) k (system_of t) ≡ own_of y
  own k y at =
      let l = lodged t 0 t.cpus k y at in
      ap (λ (x : Option Processor). record { processors = option_map_or (λ p. p ∷ []) x []; memory = own_memory (pages_at t k) t.ram }) l.at ∙ sym (ap own_of (its k y l))

  order : yard_machine t Pending (system_of t) ≡ broadcast t
  order = ap (λ (b : Bool). record { system = system_of t; order = if b || false then None else Some (order_of t Pending) }) (none_released (order_of t Pending) t.cpus opens.some refl)

  size : length all ≡ length t.cpus
  size = sym (length-map all held_of) ∙ ap (λ (hs : List Held). length hs) (residents_held t 0 t.cpus) ∙ numbered_length 0 t.cpus

  pub resides : Resides t (scene (residents t 0 t.cpus) Pending (system_of t))
  resides = record {
    opens = opens;
    reached = subst (Uncalled (broadcast t)) (sym order) uncalled_start;
    stands = record {
      processors = sym (numbered_cpus 0 t.cpus) ∙ ap (map cpu_of) (sym (residents_held t 0 t.cpus));
      memory = opens.quiet.sound.memory;
      windows = refl;
      owns = owns;
      own = own;
      left = refl;
    };
    size = size;
    fits = fits;
  }

  none_counted : (f : Held → ℕ) → ((k : ℕ) (c : Processor) → f (held k c Never) ≡ 0) → total f (map held_of all) ≡ 0
  none_counted f z = ap (total f) (residents_held t 0 t.cpus) ∙ numbered_none f z 0 t.cpus

  numbers : (i : ℕ) (h : Held) → get_elem? (map held_of all) i ≡ some h → h.number ≡ i
  numbers i h e =
      let r = numbered_at 0 t.cpus i h (subst (λ (hs : List Held). get_elem? hs i ≡ some h) (residents_held t 0 t.cpus) e) in
      ap (λ (g : Held). g.number) r.2 ∙ place i

  sits_first : Sits t (seating (map held_of all) Pending (λ _. 0)) 0 (record { root = true; held = map held_of all; go = Pending; shown = None; start = t })
  sits_first = record {
    root = λ _. (refl, refl);
    told = inr refl;
    holds = λ i h e. (subst (λ (n : ℕ). get_elem? (map held_of all) n ≡ some h) (sym (numbers i h e)) e, refl);
    apart = subst Apart (sym (residents_held t 0 t.cpus)) (numbered_apart 0 t.cpus);
  }

  at_first : AreAt all all
  at_first i y e = subst (λ (n : ℕ). get_elem? all n ≡ some y) (sym (fits i y e).1) e

pub opened : (key : Key) (words : List ℕ) → Opens (start_of key) → length words ≡ length key.cpus.value.items + 2 → ((i : ℕ) → slice_index words i ≡ 0) → MeetsYard key (opening words [] (first_yard_view key))
opened key words opens long zeros = record {
  all = all (start_of key) opens;
  go = Pending;
  owner = λ _. 0;
  system = system_of (start_of key);
  yard = record {
    resides = resides (start_of key) opens;
    first_count = zeros 0 ∙ (let z = none_counted (start_of key) opens added_of (λ k c. refl) in omega arith);
    second_count = zeros 1 ∙ sym (none_counted (start_of key) opens again_of (λ k c. refl));
  };
  wide = (let z = size (start_of key) opens in omega arith);
  stored = λ k y e. zeros (k + 2) ∙ sym (ap (λ (z : Resident). z.stored) (its (start_of key) opens k y (lodged (start_of key) 0 key.cpus.value.items k y e)));
  present = λ k b.
      let z = size (start_of key) opens in
      let r = numbered_some 0 key.cpus.value.items k (let n = numbered_length 0 key.cpus.value.items in omega arith) in
      (0, as_view (first_yard_view key), k, r.0, refl, subst (λ (hs : List Held). get_elem? hs k ≡ some r.0) (sym (residents_held (start_of key) 0 key.cpus.value.items)) r.1, r.2 ∙ place (start_of key) opens k);
  sits = sits;
  same = same;
  cancels = cancels;
}
  where
    sits : (j : ℕ) (v : View) → get_elem? (as_view (first_yard_view key) ∷ []) j ≡ some v → Sits (start_of key) (seating (map held_of (all (start_of key) opens)) Pending (λ _. 0)) j v
    sits zero v e = subst (Sits (start_of key) (seating (map held_of (all (start_of key) opens)) Pending (λ _. 0)) 0) (some-injective _ v e) (sits_first (start_of key) opens)
    sits (suc j) v e = absurd (some-ne-none v (sym e))

    same : (j : ℕ) (v : YardView) → get_elem? (first_yard_view key ∷ []) j ≡ some v → AreAt (all (start_of key) opens) v.held
    same zero v e = subst (λ (u : YardView). AreAt (all (start_of key) opens) u.held) (some-injective _ v e) (at_first (start_of key) opens)
    same (suc j) v e = absurd (some-ne-none v (sym e))

    never : {X : Type 0} → false ≡ true → X
    never e = absurd (cc)

    cancels : (j : ℕ) (v : YardView) → get_elem? (first_yard_view key ∷ []) j ≡ some v → v.cancel ≡ true → Pending ≡ Cancelled
    cancels zero v e shown = never (ap (λ (u : YardView). u.cancel) (some-injective _ v e) ∙ shown)
    cancels (suc j) v e shown = absurd (some-ne-none v (sym e))
