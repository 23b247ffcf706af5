-- Words and views stand for one machine.
use Rattle.std.proofs.Common.{◌≡◌, ◌∙◌, ap, sym, refl, subst, arith, ℕ, zero, suc, ◌/◌, ◌<◌, Bool, true, false, not, ◌||◌, List, [], ◌∷◌, length, map, get_or, Option, Some}
use Rattle.std.specs.Prelude.{slice_get}
use Rattle.std.specs.List.{list_any}
use Rattle.std.specs.Option.{option_map_or}
use Rattle.std.proofs.lemmas.List.{ext_get_or}
use Rattle.std.proofs.lemmas.Option.{slice_get_within}
use mathlib.Core.Option.{some, some-injective, some-ne-none}
use lib.ListN.{get_elem?}
use Rattle.atomic_table.specs.Table.{State}
use Rattle.mt_machine.specs.declared.op.Op.{Op}
use Rattle.mt_machine.specs.declared.go.Go.{Go}
use Rattle.mt_machine.specs.declared.go.Go.TheVariants.{Pending, Given, Cancelled}
use Rattle.mt_machine.specs.Memory.{Memory, Window}
use Rattle.mt_machine.specs.System.{Processor, System}
use Rattle.mt_machine.specs.Update.{addresses}
use Rattle.mt_laws.proofs.Updates.Addresses.{length_addresses}
use Rattle.mt_rendezvous.specs.declared.view.Held.{Held}
use Rattle.mt_rendezvous.specs.declared.view.Key.{Key}
use Rattle.mt_rendezvous.specs.declared.view.Start.{Start}
use Rattle.mt_rendezvous.specs.declared.view.View.{View}
use Rattle.mt_rendezvous.specs.Station.{added_of, go_weight, start_of, total}
use Rattle.mt_private.specs.declared.view.Resident.{Resident}
use Rattle.mt_private.specs.declared.view.YardView.{YardView}
use Rattle.mt_private.specs.Own.{words_on}
use Rattle.mt_private.specs.Pages.{names}
use Rattle.mt_private.specs.Residents.{StandsFor, held_of, pages_at, pages_left, yard_machine}
use Rattle.mt_private.specs.YardRule.{MeetsYard, as_view, its_machine}
use Rattle.mt_private.proofs.Own.Words.{words_get}

-- ---- lists

pub mapped_from : {X Y : Type 0} (f : X → Y) (xs : List X) (i : ℕ) (y : Y) → get_elem? (map f xs) i ≡ some y → (x : X) × (get_elem? xs i ≡ some x) × (f x ≡ y)
mapped_from f [] i y at = absurd (some-ne-none y (sym at))
mapped_from f (x ∷ xs) zero y at = (x, refl, some-injective (f x) y at)
mapped_from f (x ∷ xs) (suc i) y at = mapped_from f xs i y at

exists_at : {X : Type 0} (xs : List X) (i : ℕ) → i < length xs → (x : X) × (get_elem? xs i ≡ some x)
exists_at [] i low = absurd (omega arith)
exists_at (x ∷ xs) zero low = (x, refl)
exists_at (x ∷ xs) (suc i) low = exists_at xs i (omega arith)

-- lists that have the same at each place
same_lists : {X : Type 0} (xs ys : List X) → length xs ≡ length ys → ((i : ℕ) → i < length xs → (x : X) × (get_elem? xs i ≡ some x) × (get_elem? ys i ≡ some x)) → xs ≡ ys
same_lists [] [] size each = refl
same_lists [] (y ∷ ys) size each = absurd (omega arith)
same_lists (x ∷ xs) [] size each = absurd (omega arith)
same_lists (x ∷ xs) (y ∷ ys) size each =
    let first = each 0 (omega arith) in
    let head : x ≡ y = some-injective x first.0 first.1 ∙ sym (some-injective y first.0 first.2) in
    let tail = same_lists xs ys (omega arith) (λ i low. each (suc i) (omega arith)) in
    λ i. head i ∷ tail i

any_there : (test : Processor → Bool) (ps : List Processor) → list_any test ps ≡ true → (k : ℕ) × (p : Processor) × (slice_get ps k ≡ Some p) × (test p ≡ true)
any_there test [] any = absurd (cc)
any_there test (p ∷ ps) any = one (test p) refl any (λ g. any_there test ps g)
  where
    one : (b : Bool) → test p ≡ b → (b || list_any test ps) ≡ true → (list_any test ps ≡ true → (k : ℕ) × (q : Processor) × (slice_get ps k ≡ Some q) × (test q ≡ true)) → (k : ℕ) × (q : Processor) × (slice_get (p ∷ ps) k ≡ Some q) × (test q ≡ true)
    one true is any rest = (0, p, refl, is)
    one false is any rest = let r = rest any in (suc r.0, r.1, r.2, r.3)

same_weight : (a b : Go) → go_weight a ≡ go_weight b → a ≡ b
same_weight Pending Pending e = refl
same_weight Given Given e = refl
same_weight Cancelled Cancelled e = refl
same_weight Pending Given e = absurd (omega arith)
same_weight Pending Cancelled e = absurd (omega arith)
same_weight Given Pending e = absurd (omega arith)
same_weight Given Cancelled e = absurd (omega arith)
same_weight Cancelled Pending e = absurd (omega arith)
same_weight Cancelled Given e = absurd (omega arith)

-- ---- residents stand for one system

module _ (t : Start) (all : List Resident) (size : length all ≡ length t.cpus) (a b : System) (x : StandsFor t all a) (y : StandsFor t all b) where
  abbrev places : List ℕ
  places = addresses t.ram.windows

  same_windows : a.memory.windows ≡ b.memory.windows
  same_windows = x.windows ∙ sym y.windows

  long : (s : System) → StandsFor t all s → length s.memory.words ≡ length places
  long s h = h.memory.counted ∙ sym (length_addresses s.memory.windows) ∙ ap (λ (ws : List Window). length (addresses ws)) h.windows

  -- where the words in these pages are the same
  abbrev AgreeOn : (ℕ → Bool) → Type 0
  AgreeOn pages = words_on pages places a.memory.words ≡ words_on pages places b.memory.words

  on_places : (pages : ℕ → Bool) (s : System) → StandsFor t all s → words_on pages (addresses s.memory.windows) s.memory.words ≡ words_on pages places s.memory.words
  on_places pages s h = ap (λ (ws : List Window). words_on pages (addresses ws) s.memory.words) h.windows

  own_agrees : (k : ℕ) → k < length all → AgreeOn (pages_at t k)
  own_agrees k low =
      let z = exists_at all k low in
      sym (on_places (pages_at t k) a x)
      ∙ ap (λ (s : System). s.memory.words) (x.own k z.0 z.1 ∙ sym (y.own k z.0 z.1))
      ∙ on_places (pages_at t k) b y

  left_agrees : AgreeOn (pages_left t)
  left_agrees = sym (on_places (pages_left t) a x) ∙ ap (λ (m : Memory). m.words) (x.left ∙ sym y.left) ∙ on_places (pages_left t) b y

  word_by : (i : ℕ) → i < length places → (pages : ℕ → Bool) → pages (get_or places i 0 / 4096) ≡ true → AgreeOn pages → get_or a.memory.words i 0 ≡ get_or b.memory.words i 0
  word_by i low pages is agree =
      sym (words_get pages places a.memory.words i low is) ∙ ap (λ (ws : List ℕ). get_or ws i 0) agree ∙ words_get pages places b.memory.words i low is

  same_word : (i : ℕ) → i < length places → get_or a.memory.words i 0 ≡ get_or b.memory.words i 0
  same_word i low = one (list_any (names (get_or places i 0 / 4096)) t.cpus) refl
    where
      one : (c : Bool) → list_any (names (get_or places i 0 / 4096)) t.cpus ≡ c → get_or a.memory.words i 0 ≡ get_or b.memory.words i 0
      one true any =
          let k = any_there (names (get_or places i 0 / 4096)) t.cpus any in
          let within = slice_get_within t.cpus k.0 k.1 k.2 in
          word_by i low (pages_at t k.0) (ap (λ (o : Option Processor). option_map_or (names (get_or places i 0 / 4096)) o false) k.2 ∙ k.3) (own_agrees k.0 (omega arith))
      one false none = word_by i low (pages_left t) (ap not none) left_agrees

  same_words : a.memory.words ≡ b.memory.words
  same_words =
      let p = long a x in
      let q = long b y in
      ext_get_or 0 a.memory.words b.memory.words (p ∙ sym q) (λ i within. same_word i (omega arith))

  pub one_system : a ≡ b
  one_system =
      let ps : a.processors ≡ b.processors = x.processors ∙ sym y.processors in
      λ i. record { processors = ps i; memory = record { windows = same_windows i; words = same_words i } }

-- ---- the machine

module _ (key : Key) (s : State Op YardView) where
  same_all : (a b : MeetsYard key s) → a.all ≡ b.all
  same_all a b =
      let p = a.yard.resides.size in
      let q = b.yard.resides.size in
      same_lists a.all b.all (p ∙ sym q)
      (λ k low.
      let h = a.present k low in
      let v = mapped_from as_view s.views h.0 h.1 h.4 in
      let y = mapped_from held_of v.0.held h.2 h.3 (subst (λ (u : View). get_elem? u.held h.2 ≡ some h.3) (sym v.2) h.5) in
      let number : y.0.held.number ≡ k = ap (λ (g : Held). g.number) y.2 ∙ h.6 in (
        y.0,
        subst (λ (n : ℕ). get_elem? a.all n ≡ some y.0) number (a.same h.0 v.0 v.1 h.2 y.0 y.1),
        subst (λ (n : ℕ). get_elem? b.all n ≡ some y.0) number (b.same h.0 v.0 v.1 h.2 y.0 y.1),
      ))

  pub one_machine : (a b : MeetsYard key s) → its_machine key s a ≡ its_machine key s b
  one_machine a b =
      let all = same_all a b in
      let totals : total added_of (map held_of a.all) ≡ total added_of (map held_of b.all) = ap (λ (ys : List Resident). total added_of (map held_of ys)) all in
      let first = a.yard.first_count in
      let other = b.yard.first_count in
      let go : a.go ≡ b.go = same_weight a.go b.go (omega arith) in
      let system : a.system ≡ b.system = one_system (start_of key) b.all b.yard.resides.size a.system b.system (subst (λ (ys : List Resident). StandsFor (start_of key) ys a.system) all a.yard.resides.stands) b.yard.resides.stands in
      λ i. yard_machine (start_of key) (go i) (system i)
