-- A yard can be gathered from the worked start, and what its residents do there.
use Rattle.std.proofs.Common.{◌≡◌, ◌∙◌, ap, sym, refl, subst, rules, arith, ℕ, zero, suc, ◌+◌, ◌<◌, ◌≤◌, ◌==◌, Bool, true, false, ◌||◌, List, [], ◌∷◌, length, map, cond, Some, None, Option}
use Rattle.std.specs.Prelude.{if◌then◌else◌, slice_get, slice_index}
use Rattle.std.specs.Option.{option_map, option_map_or}
use Rattle.std.proofs.lemmas.Bool.{eqb-true}
use mathlib.Core.Option.{some, some-injective, some-ne-none}
use lib.ListN.{get_elem?}
use Rattle.atomic_table.specs.Table.{opening}
use Rattle.mt_machine.specs.declared.event.Event.TheVariants.{Arrive}
use Rattle.mt_machine.specs.declared.event.Event.{Event}
use Rattle.mt_machine.specs.declared.go.Go.TheVariants.{Cancelled, Given, Pending}
use Rattle.mt_machine.specs.System.{Processor}
use Rattle.mt_machine.specs.Start.{IsQuiet}
use Rattle.mt_machine.specs.Machine.{Calls, Goes, IsEnabled, Machine, Order, Steps, due, due_at, go_of, is_over, next, remaining_order}
use Rattle.mt_laws.proofs.Steps.StepCounts.{count_more}
use Rattle.mt_rendezvous.specs.declared.view.Held.{Held}
use Rattle.mt_rendezvous.specs.declared.view.Key.{Key}
use Rattle.mt_rendezvous.specs.declared.view.Start.{Start}
use Rattle.mt_rendezvous.specs.declared.view.View.{View}
use Rattle.mt_rendezvous.specs.Station.{IsHeld, added_of, cpu_of, go_weight, held, start_of, total, weight, in_first}
use Rattle.mt_private.specs.declared.view.Resident.{Resident}
use Rattle.mt_private.specs.OneByOne.{at_rest}
use Rattle.mt_private.specs.Own.{own_memory}
use Rattle.mt_private.specs.Pages.{IsPrivate, names, naming}
use Rattle.mt_private.specs.Residents.{Opens, Yard, held_of, pages_at, system_of, scene}
use Rattle.mt_thread_laws.specs.WorkedYard.{at_start, both_lodged, first_lodged, lodged, lodger, lodging}
use Rattle.mt_private.specs.YardLaws.{IsOneEvent, YardState}
use Rattle.mt_private.specs.YardRule.{AreAt, MeetsYard, as_view, first_yard_view, its_machine, residents, rest_of, with_decision, yard_left}
use Rattle.mt_thread_laws.proofs.JobOnWorked.{is_memory}
use Rattle.mt_private.proofs.Residents.Opened.{opened, resides}
use Rattle.mt_rendezvous.specs.declared.view.Added.TheVariants.{Never}
use Rattle.mt_thread_laws.proofs.Residents.Unique.{one_machine}

page_of_lodger : (n page : ℕ) → names page (lodger n) ≡ true → page ≡ n
page_of_lodger n page h = one (n == page) refl h
  where
    one : (b : Bool) → (n == page) ≡ b → (b || false || false || false || false) ≡ true → page ≡ n
    one true is h = sym (eqb-true n page is)
    one false is h = absurd (cc)

unshared : IsPrivate (system_of lodging)
unshared page = one (names page (lodger 0x100)) (names page (lodger 0x200)) refl refl
  where
    with_tests : (a b : Bool) → names page (lodger 0x100) ≡ a → names page (lodger 0x200) ≡ b → naming (lodger 0x100 ∷ lodger 0x200 ∷ []) page ≡ cond a 1 0 + (cond b 1 0 + 0)
    with_tests a b x y =
        count_more (names page) (lodger 0x100) (lodger 0x200 ∷ [])
        ∙ ap (λ (n : ℕ). cond (names page (lodger 0x100)) 1 0 + n) (count_more (names page) (lodger 0x200) [])
        ∙ (λ i. cond (x i) 1 0 + (cond (y i) 1 0 + 0))

    one : (a b : Bool) → names page (lodger 0x100) ≡ a → names page (lodger 0x200) ≡ b → naming (lodger 0x100 ∷ lodger 0x200 ∷ []) page ≤ 1
    one true true x y = let p = page_of_lodger 0x100 page x in let q = page_of_lodger 0x200 page y in absurd (omega arith)
    one true false x y = let e = with_tests true false x y in omega arith
    one false true x y = let e = with_tests false true x y in omega arith
    one false false x y = let e = with_tests false false x y in omega arith

quiet : IsQuiet (at_rest (system_of lodging))
quiet = record {
  sound = record { memory = is_memory; coherent = search rules; lines_in_memory = search rules; buffers_in_memory = search rules; each = search rules };
  running = search rules;
  one_era = search rules;
  one_kind = search rules;
  no_order = refl;
}

callable : IsEnabled (at_rest (system_of lodging)) (Calls lodging.goal)
callable = search rules

pub opens_lodging : Opens lodging
opens_lodging = record { quiet = quiet; enabled = callable; unshared = unshared; some = omega arith; few = omega arith; room = omega arith }

pub not_same : (a b : ℕ) → a < b → a ≡ b → ⊥
not_same a b low e = omega arith

-- ---- its residents

pub yard_lodged : Yard lodging (scene both_lodged Pending lodged) 0 0
yard_lodged = record { resides = resides lodging opens_lodging; first_count = refl; second_count = refl }

abbrev pub second_lodged : Resident
second_lodged = record { held = held 1 (lodger 0x200) Never; ram = own_memory (pages_at lodging 1) lodging.ram; done = []; stored = 0 }

-- ---- no event

pub absent : (m : Machine) (k : ℕ) (e : Event) → slice_get m.system.processors k ≡ None → due_at m k ≡ Some e → ⊥
absent m k e none h = one m.order (ap (λ (x : Option Processor). option_map_or (λ (o : Order). option_map_or (λ (p : Processor). due o m.system.processors p p.phase) x None) m.order None) (sym none) ∙ h)
  where
    one : (y : Option Order) → option_map_or (λ (o : Order). option_map_or (λ (p : Processor). due o m.system.processors p p.phase) None None) y None ≡ Some e → ⊥
    one None f = absurd (cc f)
    one (Some o) f = absurd (cc f)

pub goes_on : (m : Machine) → go_of m ≡ Some Pending → m ≡ next m Goes → ⊥
goes_on m pending same = one m.order pending (sym pending ∙ ap go_of same)
  where
    two : (b : Bool) (o : Order) → Some Pending ≡ option_map (λ (q : Order). q.go) (if b then None else Some (record o { go = Given })) → ⊥
    two true o f = absurd (cc f)
    two false o f = absurd (cc f)

    one : (y : Option Order) → option_map (λ (o : Order). o.go) y ≡ Some Pending
        → Some Pending ≡ go_of (option_map_or (λ (o : Order). record m { order = remaining_order (record o { go = Given }) m.system.processors }) y m) → ⊥
    one None e f = absurd (cc e)
    one (Some o) e f = two (is_over (record o { go = Given }) m.system.processors) o f

none_there : (all : List Resident) → length all ≡ 2 → slice_get (map cpu_of (map held_of all)) 7 ≡ None
none_there [] n = absurd (omega arith)
none_there (a ∷ []) n = absurd (omega arith)
none_there (a ∷ b ∷ []) n = refl
none_there (a ∷ b ∷ c ∷ all) n = absurd (omega arith)

pub zeros : (i : ℕ) → slice_index (0 ∷ 0 ∷ 0 ∷ 0 ∷ []) i ≡ 0
zeros zero = refl
zeros (suc zero) = refl
zeros (suc (suc zero)) = refl
zeros (suc (suc (suc zero))) = refl
zeros (suc (suc (suc (suc i)))) = refl

-- ---- of a key with its start

module _ (key : Key) (is : start_of key ≡ lodging) where
  pub opened_lodging : MeetsYard key (at_start key (0 ∷ 0 ∷ 0 ∷ 0 ∷ []))
  opened_lodging = opened key (0 ∷ 0 ∷ 0 ∷ 0 ∷ []) (subst Opens (sym is) opens_lodging) (let e : length key.cpus.value.items ≡ 2 = ap (λ (t : Start). length t.cpus) is in omega arith) zeros

  pub two_residents : (s : YardState) (m : MeetsYard key s) → length m.all ≡ 2
  two_residents s m = m.yard.resides.size ∙ ap (λ (t : Start). length t.cpus) is

  pub not_short : MeetsYard key (at_start key (0 ∷ 0 ∷ 0 ∷ [])) → ⊥
  not_short m = let two = two_residents (at_start key (0 ∷ 0 ∷ 0 ∷ [])) m in let e : 3 ≡ length m.all + 2 = m.wide in omega arith

  none_added : (all : List Resident) → length all ≡ 2 → (x y : Resident) → get_elem? all 0 ≡ some x → get_elem? all 1 ≡ some y → x.held.added ≡ Never → y.held.added ≡ Never → total added_of (map held_of all) ≡ 0
  none_added [] n x y e f p q = absurd (omega arith)
  none_added (a ∷ []) n x y e f p q = absurd (omega arith)
  none_added (a ∷ b ∷ c ∷ all) n x y e f p q = absurd (omega arith)
  none_added (a ∷ b ∷ []) n x y e f p q =
      let first : a.held.added ≡ Never = ap (λ (z : Resident). z.held.added) (some-injective a x e) ∙ p in
      let second : b.held.added ≡ Never = ap (λ (z : Resident). z.held.added) (some-injective b y f) ∙ q in
      λ i. weight (in_first (first i)) + (weight (in_first (second i)) + 0)

  pub not_counted : MeetsYard key (at_start key (1 ∷ 0 ∷ 0 ∷ 0 ∷ [])) → ⊥
  not_counted m =
      let at : AreAt m.all both_lodged = subst (λ (t : Start). AreAt m.all (residents t 0 t.cpus)) is (m.same 0 (first_yard_view key) refl) in
      let none = none_added m.all (two_residents (at_start key (1 ∷ 0 ∷ 0 ∷ 0 ∷ [])) m) first_lodged second_lodged (at 0 first_lodged refl) (at 1 second_lodged refl) refl refl in
      let go : go_weight m.go ≡ 0 = ap go_weight (sym ((m.sits 0 (as_view (first_yard_view key)) refl).root refl).1) in
      let e : 1 ≡ total added_of (map held_of m.all) + go_weight m.go = m.yard.first_count in
      omega arith

  pub not_stored : MeetsYard key (at_start key (0 ∷ 0 ∷ 7 ∷ 0 ∷ [])) → ⊥
  not_stored m =
      let at : AreAt m.all both_lodged = subst (λ (t : Start). AreAt m.all (residents t 0 t.cpus)) is (m.same 0 (first_yard_view key) refl) in
      not_same 0 7 (omega arith) (sym (m.stored 0 first_lodged (at 0 first_lodged refl)))

  pub not_missing : MeetsYard key (opening (0 ∷ 0 ∷ 0 ∷ 0 ∷ []) [] (yard_left (first_yard_view key))) → ⊥
  not_missing m = nowhere (m.present 0 (let two = two_residents (opening (0 ∷ 0 ∷ 0 ∷ 0 ∷ []) [] (yard_left (first_yard_view key))) m in omega arith))
    where
      only : (hs : List Held) (i : ℕ) (h : Held) → hs ≡ held 1 (lodger 0x200) Never ∷ [] → get_elem? hs i ≡ some h → h.number ≡ 0 → ⊥
      only hs zero h same e n = let x = some-injective _ h (ap (λ (l : List Held). get_elem? l 0) (sym same) ∙ e) in let y : 1 ≡ h.number = ap (λ (g : Held). g.number) x in omega arith
      only hs (suc i) h same e n = absurd (some-ne-none h (sym (ap (λ (l : List Held). get_elem? l (suc i)) (sym same) ∙ e)))

      nowhere : IsHeld (as_view (yard_left (first_yard_view key)) ∷ []) 0 → ⊥
      nowhere (zero, v, i, h, at, holds, n) =
          only (as_view (yard_left (first_yard_view key))).held i h (ap (λ (t : Start). map held_of (rest_of (residents t 0 t.cpus))) is) (subst (λ (u : View). get_elem? u.held i ≡ some h) (sym (some-injective (as_view (yard_left (first_yard_view key))) v at)) holds) n
      nowhere (suc j, v, i, h, at, holds, n) = absurd (some-ne-none v (sym at))

  pub not_uncounted : MeetsYard key (opening (0 ∷ 0 ∷ 0 ∷ 0 ∷ []) [] (with_decision (first_yard_view key) Given)) → ⊥
  not_uncounted m =
      let go : go_weight m.go ≡ 1 = ap go_weight (sym ((m.sits 0 (as_view (with_decision (first_yard_view key) Given)) refl).root refl).1) in
      let e : 0 ≡ total added_of (map held_of m.all) + go_weight m.go = m.yard.first_count in
      omega arith

  pub not_untold : MeetsYard key (opening (0 ∷ 0 ∷ 0 ∷ 0 ∷ []) [] (record (first_yard_view key) { cancel = true })) → ⊥
  not_untold m =
      let told : m.go ≡ Cancelled = m.cancels 0 (record (first_yard_view key) { cancel = true }) refl refl in
      let said : Pending ≡ m.go = ((m.sits 0 (as_view (record (first_yard_view key) { cancel = true })) refl).root refl).1 in
      let e : Pending ≡ Cancelled = said ∙ told in
      absurd (cc)

  pub none_due : (s : YardState) (m : MeetsYard key s) (later : YardState) → IsOneEvent key s later m (Some (Steps 7 Arrive)) → ⊥
  none_due s m later f =
      absent (its_machine key s m) 7 Arrive (ap (λ (ps : List Processor). slice_get ps 7) m.yard.resides.stands.processors ∙ none_there m.all (two_residents s m)) f.enabled

  pub not_gone_on : (s : YardState) (m : MeetsYard key s) → IsOneEvent key s s m (Some Goes) → ⊥
  not_gone_on s m f = goes_on (its_machine key s m) f.enabled (one_machine key s m f.kept ∙ f.becomes)
