-- The system that a yard leaves: own systems put together again.
use Rattle.std.proofs.Common.{◌≡◌, ◌∙◌, ap, sym, refl, subst, arith, ℕ, zero, suc, ◌+◌, ◌/◌, ◌<◌, ◌==◌, Bool, true, false, not, ◌&&◌, ◌||◌, List, [], ◌∷◌, ◌++◌, length, map, get_or, take, None, Some, Option, inl, length-append}
use Rattle.std.proofs.Common.{append_assoc}
use Rattle.std.specs.Prelude.{if◌then◌else◌, slice_get, slice_index}
use Rattle.std.specs.List.{fold, list_any}
use Rattle.std.specs.Option.{option_map_or}
use Rattle.std.proofs.lemmas.Bool.{eqb-true}
use Rattle.std.proofs.lemmas.List.{append-nil, length-map}
use Rattle.std.proofs.lemmas.Option.{slice_get_within}
use mathlib.Core.Option.{some, some-injective, some-ne-none}
use lib.ListN.{get_elem?}
use Rattle.atomic_table.specs.Table.{State}
use Rattle.mt_types.specs.Tables.{IsTableOf, TypeTable}
use Rattle.mt_machine.specs.declared.op.Op.{Op}
use Rattle.mt_machine.specs.declared.go.Go.{Go}
use Rattle.mt_machine.specs.Memory.{IsMemory, Memory}
use Rattle.mt_machine.specs.System.{IsSound, Processor, System, is_writing}
use Rattle.mt_machine.specs.Machine.{Calls, after, at_start}
use Rattle.mt_machine.specs.Update.{addresses}
use Rattle.mt_bus.specs.Tables.{AreTablesOf}
use Rattle.mt_core.proofs.Reaching.{reached_on}
use Rattle.mt_laws.proofs.Invariant.Standing.{stays_sound}
use Rattle.mt_rendezvous.specs.declared.view.Key.{Key}
use Rattle.mt_rendezvous.specs.declared.view.Start.{Start}
use Rattle.mt_rendezvous.specs.Station.{cpu_of, start_of}
use Rattle.mt_private.specs.declared.view.Resident.{Resident}
use Rattle.mt_private.specs.declared.view.YardView.{YardView}
use Rattle.mt_private.specs.Alone.{named_by_none}
use Rattle.mt_private.specs.OneByOne.{at_rest}
use Rattle.mt_private.specs.Own.{own_memory, own_system, pages_of, words_on}
use Rattle.mt_private.specs.Pages.{names}
use Rattle.mt_private.specs.Residents.{StandsFor, Yard, held_of, pages_at, pages_left, system_of, yard_machine, scene}
use Rattle.mt_private.specs.YardCalls.{KeepsOwn}
use Rattle.mt_private.specs.YardRule.{AreAt, MeetsYard, as_view}
use Rattle.mt_private.specs.Left.{AreAsGathered, AreBack, AreOwnsOf, AreParts, IsOnePart, YardEnds, less, over, processors_in, with_words_of, word_by_word}
use Rattle.mt_private.proofs.Copies.{as_many, at_back, at_front, length_on}
use Rattle.mt_private.proofs.Lists.{got}
use Rattle.mt_private.proofs.Residents.Paths.{uncalled_reached}

-- ---- word by word

module _ (f : ℕ → ℕ → ℕ) where
  pub each_length : (vs ws : List ℕ) → length (word_by_word f vs ws) ≡ length ws
  each_length [] ws = refl
  each_length (v ∷ vs) [] = refl
  each_length (v ∷ vs) (w ∷ ws) = ap suc (each_length vs ws)

  pub each_word : (vs ws : List ℕ) (i : ℕ) → i < length vs → i < length ws → get_or (word_by_word f vs ws) i 0 ≡ f (get_or vs i 0) (get_or ws i 0)
  each_word [] ws i low within = absurd (omega arith)
  each_word (v ∷ vs) [] i low within = absurd (omega arith)
  each_word (v ∷ vs) (w ∷ ws) zero low within = refl
  each_word (v ∷ vs) (w ∷ ws) (suc i) low within = each_word vs ws i (omega arith) (omega arith)

or_none : (a : Bool) → (a || false) ≡ a
or_none true = refl
or_none false = refl

-- of words in some pages those are left that aren't in others
less_one : (p q : Bool) (w : ℕ) → less (if p then w else 0) (if q then w else 0) ≡ (if q && not p then w else 0)
less_one false true w = refl
less_one false false w = refl
less_one true false w = zeros (w == 0)
  where
    zeros : (b : Bool) → ◌≡◌ {A = ℕ} (if b then 0 else 0) 0
    zeros true = refl
    zeros false = refl
less_one true true w = one (w == 0) refl
  where
    one : (b : Bool) → (w == 0) ≡ b → (if b then w else 0) ≡ 0
    one true is = eqb-true w 0 is
    one false is = refl

over_one : (p q : Bool) (w : ℕ) → over (if p then w else 0) (if q then w else 0) ≡ (if q || p then w else 0)
over_one false true w = refl
over_one false false w = refl
over_one true true w = one (w == 0)
  where
    one : (b : Bool) → (if b then w else w) ≡ w
    one true = refl
    one false = refl
over_one true false w = one (w == 0) refl
  where
    one : (b : Bool) → (w == 0) ≡ b → (if b then 0 else w) ≡ w
    one true is = sym (eqb-true w 0 is)
    one false is = refl

module _ (f : ℕ → ℕ → ℕ) (both : Bool → Bool → Bool) (one : (p q : Bool) (w : ℕ) → f (if p then w else 0) (if q then w else 0) ≡ (if both q p then w else 0)) (pages others : ℕ → Bool) where
  by_words : (xs ws : List ℕ) → word_by_word f (words_on pages xs ws) (words_on others xs ws) ≡ words_on (λ page. both (others page) (pages page)) xs ws
  by_words [] ws = refl
  by_words (a ∷ xs) [] = refl
  by_words (a ∷ xs) (w ∷ ws) = let e = one (pages (a / 4096)) (others (a / 4096)) w in let r = by_words xs ws in λ i. e i ∷ r i

  by_memory : (m : Memory) → ◌≡◌ {A = Memory} (record (own_memory others m) { words = word_by_word f (own_memory pages m).words (own_memory others m).words }) (own_memory (λ page. both (others page) (pages page)) m)
  by_memory m = ap (λ (ws : List ℕ). record { windows = m.windows; words = ws }) (by_words (addresses m.windows) m.words)

pub less_memory : (pages others : ℕ → Bool) (m : Memory) → ◌≡◌ {A = Memory} (record (own_memory others m) { words = word_by_word less (own_memory pages m).words (own_memory others m).words }) (own_memory (λ page. others page && not (pages page)) m)
less_memory = by_memory less (λ q p. q && not p) less_one

pub over_memory : (pages others : ℕ → Bool) (m : Memory) → ◌≡◌ {A = Memory} (record (own_memory others m) { words = word_by_word over (own_memory pages m).words (own_memory others m).words }) (own_memory (λ page. others page || pages page) m)
over_memory = by_memory over (λ q p. q || p) over_one

-- the words in all pages are all words
words_all : (xs ws : List ℕ) → length xs ≡ length ws → words_on (λ _. true) xs ws ≡ ws
words_all [] [] long = refl
words_all [] (w ∷ ws) long = absurd (omega arith)
words_all (a ∷ xs) [] long = refl
words_all (a ∷ xs) (w ∷ ws) long = ap (λ us. w ∷ us) (words_all xs ws (omega arith))

pub all_memory : (m : Memory) → IsMemory m → own_memory (λ _. true) m ≡ m
all_memory m h = ap (λ (ws : List ℕ). record { windows = m.windows; words = ws }) (words_all (addresses m.windows) m.words (as_many m h))

-- ---- the words of pages that none names

none_more : (test : Processor → Bool) (cs : List Processor) (k : ℕ) (c : Processor) → slice_get cs k ≡ Some c → (not (list_any test (take k cs)) && not (test c)) ≡ not (list_any test (take (suc k) cs))
none_more test [] k c at = absurd (cc)
none_more test (x ∷ cs) zero c at = let same : c ≡ x = (let e : Some x ≡ Some c = at in cc) in ap (λ (p : Processor). not (test p)) same ∙ ap not (sym (or_none (test x)))
none_more test (x ∷ cs) (suc k) c at = one (test x) (none_more test cs k c at)
  where
    one : (a : Bool) → (not (list_any test (take k cs)) && not (test c)) ≡ not (list_any test (take (suc k) cs)) → (not (a || list_any test (take k cs)) && not (test c)) ≡ not (a || list_any test (take (suc k) cs))
    one true e = refl
    one false e = e

-- a processor's own words give way
pub less_of : (cs : List Processor) (m : Memory) (k : ℕ) (c : Processor) (own ram : Memory) → IsMemory m → slice_get cs k ≡ Some c → own ≡ own_memory (pages_of c) m → ram ≡ own_memory (named_by_none (take k cs)) m
    → (length own.words ≡ length ram.words) × ◌≡◌ {A = Memory} (record ram { words = word_by_word less own.words ram.words }) (own_memory (named_by_none (take (k + 1) cs)) m)
less_of cs m k c own ram h at own_is ram_is =
    let next : k + 1 ≡ suc k = omega arith in
    let many = as_many m h in (
      ap (λ (n : Memory). length n.words) own_is
          ∙ length_on (pages_of c) (addresses m.windows) m.words many
          ∙ sym (length_on (named_by_none (take k cs)) (addresses m.windows) m.words many)
          ∙ sym (ap (λ (n : Memory). length n.words) ram_is),
      (λ i. record (ram_is i) { words = word_by_word less (own_is i).words (ram_is i).words })
          ∙ less_memory (pages_of c) (named_by_none (take k cs)) m
          ∙ ap (λ (pages : ℕ → Bool). own_memory pages m) (λ i page. none_more (names page) cs k c at i)
          ∙ ap (λ (n : ℕ). own_memory (named_by_none (take n cs)) m) (sym next),
    )

-- ---- own systems in a row

-- each is that of the processor with its number, on the pages that another one names
pub record AreOwn (cs ps : List Processor) (m : Memory) (os : List (Option System)) : Type 0 where
  pub size : length os ≡ length ps
  pub pages : length cs ≡ length ps
  pub each : (k : ℕ) (c p : Processor) → slice_get cs k ≡ Some c → slice_get ps k ≡ Some p → slice_get os k ≡ Some (Some (record { processors = p ∷ []; memory = own_memory (pages_of c) m }))

rest_own : (c p : Processor) (cs ps : List Processor) (m : Memory) (x : Option System) (os : List (Option System)) → AreOwn (c ∷ cs) (p ∷ ps) m (x ∷ os) → AreOwn cs ps m os
rest_own c p cs ps m x os h = record {
  size = (let a = h.size in omega arith);
  pages = (let a = h.pages in omega arith);
  each = λ k d q at_d at_q. h.each (suc k) d q at_d at_q;
}

first_own : (c p : Processor) (cs ps : List Processor) (m : Memory) (x : Option System) (os : List (Option System)) → AreOwn (c ∷ cs) (p ∷ ps) m (x ∷ os) → x ≡ Some (record { processors = p ∷ []; memory = own_memory (pages_of c) m })
first_own c p cs ps m x os h = one x _ (h.each 0 c p refl refl)
  where
    one : (a b : Option System) → Some a ≡ Some b → a ≡ b
    one a b e = cc

pub own_processors : (cs ps : List Processor) (m : Memory) (os : List (Option System)) → AreOwn cs ps m os → processors_in os ≡ ps
own_processors cs [] m [] h = refl
own_processors cs [] m (x ∷ os) h = absurd (let a = h.size in omega arith)
own_processors cs (p ∷ ps) m [] h = absurd (let a = h.size in omega arith)
own_processors [] (p ∷ ps) m (x ∷ os) h = absurd (let a = h.pages in omega arith)
own_processors (c ∷ cs) (p ∷ ps) m (x ∷ os) h =
    ap (λ (y : Option System). processors_in (y ∷ os)) (first_own c p cs ps m x os h)
    ∙ ap (λ (qs : List Processor). p ∷ qs) (own_processors cs ps m os (rest_own c p cs ps m x os h))

or_assoc : (a b c : Bool) → ((a || b) || c) ≡ (a || (b || c))
or_assoc true b c = refl
or_assoc false b c = refl

pub own_words : (cs ps : List Processor) (m : Memory) (os : List (Option System)) (known : ℕ → Bool) → AreOwn cs ps m os → fold with_words_of (own_memory known m) os ≡ own_memory (λ page. known page || list_any (names page) cs) m
own_words [] [] m [] known h = ap (λ (pages : ℕ → Bool). own_memory pages m) (λ i page. sym (or_none (known page)) i)
own_words (c ∷ cs) [] m os known h = absurd (let a = h.pages in omega arith)
own_words [] (p ∷ ps) m os known h = absurd (let a = h.pages in omega arith)
own_words [] [] m (x ∷ os) known h = absurd (let a = h.size in omega arith)
own_words (c ∷ cs) (p ∷ ps) m [] known h = absurd (let a = h.size in omega arith)
own_words (c ∷ cs) (p ∷ ps) m (x ∷ os) known h =
    ap (λ (y : Option System). fold with_words_of (with_words_of (own_memory known m) y) os) (first_own c p cs ps m x os h)
    ∙ ap (λ (n : Memory). fold with_words_of n os) (over_memory (pages_of c) known m)
    ∙ own_words cs ps m os (λ page. known page || names page c) (rest_own c p cs ps m x os h)
    ∙ ap (λ (pages : ℕ → Bool). own_memory pages m) (λ i page. or_assoc (known page) (names page c) (list_any (names page) cs) i)

not_or : (b : Bool) → (not b || b) ≡ true
not_or true = refl
not_or false = refl

-- over the words that none of them has
pub put_together : (cs ps : List Processor) (m : Memory) (os : List (Option System)) → IsMemory m → AreOwn cs ps m os → fold with_words_of (own_memory (named_by_none cs) m) os ≡ m
put_together cs ps m os memory h =
    own_words cs ps m os (named_by_none cs) h
    ∙ ap (λ (pages : ℕ → Bool). own_memory pages m) (λ i page. not_or (list_any (names page) cs) i)
    ∙ all_memory m memory

-- two systems with the same own systems and the same words elsewhere are one
pub one_of_owns : (t : Start) (a b : System) (owns : List (Option System)) → IsMemory a.memory → IsMemory b.memory → AreOwn t.cpus a.processors a.memory owns → AreOwn t.cpus b.processors b.memory owns
    → own_memory (pages_left t) a.memory ≡ own_memory (pages_left t) b.memory → a ≡ b
one_of_owns t a b owns ha hb x y left =
    let ps : a.processors ≡ b.processors = sym (own_processors t.cpus a.processors a.memory owns x) ∙ own_processors t.cpus b.processors b.memory owns y in
    let m : a.memory ≡ b.memory =
    sym (put_together t.cpus a.processors a.memory owns ha x)
    ∙ ap (λ (n : Memory). fold with_words_of n owns) left
    ∙ put_together t.cpus b.processors b.memory owns hb y in
    λ i. record { processors = ps i; memory = m i }

-- so are two with the same own systems and the same words elsewhere
abbrev owns_from : List Processor → List Processor → Memory → List (Option System)
owns_from [] ps m = []
owns_from (c ∷ cs) [] m = []
owns_from (c ∷ cs) (p ∷ ps) m = Some (record { processors = p ∷ []; memory = own_memory (pages_of c) m }) ∷ owns_from cs ps m

from_size : (cs ps : List Processor) (m : Memory) → length cs ≡ length ps → length (owns_from cs ps m) ≡ length ps
from_size [] [] m size = refl
from_size [] (p ∷ ps) m size = absurd (omega arith)
from_size (c ∷ cs) [] m size = refl
from_size (c ∷ cs) (p ∷ ps) m size = ap suc (from_size cs ps m (omega arith))

from_each : (cs ps : List Processor) (m : Memory) (k : ℕ) (c p : Processor) → slice_get cs k ≡ Some c → slice_get ps k ≡ Some p
    → slice_get (owns_from cs ps m) k ≡ Some (Some (record { processors = p ∷ []; memory = own_memory (pages_of c) m }))
from_each [] ps m k c p at_c at_p = absurd (cc)
from_each (d ∷ cs) [] m k c p at_c at_p = absurd (cc)
from_each (d ∷ cs) (q ∷ ps) m zero c p at_c at_p =
    let a : d ≡ c = (let e : Some d ≡ Some c = at_c in cc) in
    let b : q ≡ p = (let e : Some q ≡ Some p = at_p in cc) in
    λ i. Some (Some (record { processors = b i ∷ []; memory = own_memory (pages_of (a i)) m }))
from_each (d ∷ cs) (q ∷ ps) m (suc k) c p at_c at_p = from_each cs ps m k c p at_c at_p

-- an own system by its processor
own_by : (t : Start) (s : System) (k : ℕ) (c p : Processor) → slice_get t.cpus k ≡ Some c → slice_get s.processors k ≡ Some p
    → own_system (pages_at t k) k s ≡ record { processors = p ∷ []; memory = own_memory (pages_of c) s.memory }
own_by t s k c p at_c at_p = λ i. record { processors = option_map_or (λ q. q ∷ []) (at_p i) []; memory = own_memory (λ page. option_map_or (names page) (at_c i) false) s.memory }

pub one_by_own : (t : Start) (a b : System) → IsMemory a.memory → IsMemory b.memory → length a.processors ≡ length t.cpus → length b.processors ≡ length t.cpus
    → ((k : ℕ) → k < length t.cpus → own_system (pages_at t k) k a ≡ own_system (pages_at t k) k b) → own_memory (pages_left t) a.memory ≡ own_memory (pages_left t) b.memory → a ≡ b
one_by_own t a b ha hb many too same left =
    let owns = owns_from t.cpus a.processors a.memory in
    one_of_owns t a b owns ha hb
    (record { size = from_size t.cpus a.processors a.memory (sym many); pages = sym many; each = from_each t.cpus a.processors a.memory })
    (record {
      size = from_size t.cpus a.processors a.memory (sym many) ∙ many ∙ sym too;
      pages = sym too;
      each = λ k c p at_c at_p.
          let low = slice_get_within t.cpus k c at_c in
          let q = got a.processors k (omega arith) in
          from_each t.cpus a.processors a.memory k c q.0 at_c q.1
          ∙ ap (λ (o : System). Some (Some o)) (sym (own_by t a k c q.0 at_c q.1) ∙ same k low ∙ own_by t b k c p at_c at_p);
    })
    left

-- ---- where a yard ends

module _ (t : Start) (all : List Resident) (s : System) (stands : StandsFor t all s) (v : YardView) (same : AreAt all v.held) (owns : List (Option System)) (keeps : KeepsOwn v owns) where
  pub its_own : AreOwnsOf t owns s
  its_own k o at =
      let y = keeps k o at in
      stands.own k y.1 (subst (λ (n : ℕ). get_elem? all n ≡ some y.1) y.3 (same y.0 y.1 y.2)) ∙ y.4

  pub are_own : length all ≡ length t.cpus → AreBack (length t.cpus) v owns → AreOwn t.cpus s.processors s.memory owns
  are_own size back =
      let long : length s.processors ≡ length t.cpus = ap (λ (ps : List Processor). length ps) stands.processors ∙ length-map (map held_of all) cpu_of ∙ length-map all held_of ∙ size in
      record {
        size = back.size ∙ sym long;
        pages = sym long;
        each = λ k c p at_c at_p.
            let b = back.each k (slice_get_within t.cpus k c at_c) in
            b.1
            ∙ ap (λ (o : System). Some (Some o)) (sym (its_own k b.0 b.1)
            ∙ (λ i. record { processors = option_map_or (λ q. q ∷ []) (at_p i) []; memory = own_memory (λ page. option_map_or (names page) (at_c i) false) s.memory }));
      }

-- as they were gathered
pub own_gathered : (t : Start) (v : YardView) (owns : List (Option System)) → AreBack (length t.cpus) v owns → AreAsGathered t owns → AreOwn t.cpus t.cpus t.ram owns
own_gathered t v owns back same = record {
  size = back.size;
  pages = refl;
  each = λ k c p at_c at_p.
      let b = back.each k (slice_get_within t.cpus k c at_c) in
      b.1
      ∙ ap (λ (o : System). Some (Some o)) (same k b.0 b.1
      ∙ (λ i. record { processors = option_map_or (λ q. q ∷ []) (at_p i) []; memory = own_memory (λ page. option_map_or (names page) (at_c i) false) t.ram }));
}

mapped_at : (vs : List YardView) (j : ℕ) (v : YardView) → get_elem? vs j ≡ some v → get_elem? (map as_view vs) j ≡ some (as_view v)
mapped_at [] j v at = absurd (some-ne-none v (sym at))
mapped_at (u ∷ vs) zero v at = ap (λ (w : YardView). some (as_view w)) (some-injective u v at)
mapped_at (u ∷ vs) (suc j) v at = mapped_at vs j v at

module _ (key : Key) (s : State Op YardView) (m : MeetsYard key s) (id : ℕ) (v : YardView) (at : get_elem? s.views id ≡ some v) (root : v.root ≡ true) where
  pub leaves : YardEnds (start_of key) v m.system
  leaves =
      let go : v.go ≡ m.go = ((m.sits id (as_view v) (mapped_at s.views id v at)).root root).1 in
      record {
        all = m.all;
        first = slice_index s.words 0;
        second = slice_index s.words 1;
        yard = subst (λ (g : Go). Yard (start_of key) (scene m.all g m.system) (slice_index s.words 0) (slice_index s.words 1)) (sym go) m.yard;
        same = m.same id v at;
        shown = λ told. go ∙ m.cancels id v at told;
      }

-- ---- brought back one by one

pub more_tables : (ps qs : List Processor) (ts us : List TypeTable) → AreTablesOf ps ts → AreTablesOf qs us → AreTablesOf (ps ++ qs) (ts ++ us)
more_tables ps qs ts us a b = record {
  count = length-append ts us ∙ (λ i. a.count i + b.count i) ∙ sym (length-append ps qs);
  each = λ k p t at_p at_t. one ps ts a.count a.each k p t at_p at_t;
}
  where
    one : (xs : List Processor) (ys : List TypeTable) → length ys ≡ length xs → ((k : ℕ) (p : Processor) (t : TypeTable) → slice_get xs k ≡ Some p → slice_get ys k ≡ Some t → is_writing p.phase ≡ None → IsTableOf p.file t)
        → (k : ℕ) (p : Processor) (t : TypeTable) → slice_get (xs ++ qs) k ≡ Some p → slice_get (ys ++ us) k ≡ Some t → is_writing p.phase ≡ None → IsTableOf p.file t
    one [] [] size each k p t at_p at_t = b.each k p t at_p at_t
    one [] (y ∷ ys) size each k p t at_p at_t = absurd (omega arith)
    one (x ∷ xs) [] size each k p t at_p at_t = absurd (omega arith)
    one (x ∷ xs) (y ∷ ys) size each zero p t at_p at_t = each 0 p t at_p at_t
    one (x ∷ xs) (y ∷ ys) size each (suc k) p t at_p at_t = one xs ys (omega arith) (λ j. each (suc j)) k p t at_p at_t

pub processors_more : (xs : List (Option System)) (o : System) → processors_in (xs ++ Some o ∷ []) ≡ processors_in xs ++ o.processors
processors_more [] o = append-nil o.processors
processors_more (None ∷ xs) o = processors_more xs o
processors_more (Some x ∷ xs) o = ap (λ (ps : List Processor). x.processors ++ ps) (processors_more xs o) ∙ sym (append_assoc x.processors (processors_in xs) o.processors)

-- parts of lists
pub front_parts : (m : Memory) (xs ys : List (Option System)) → AreParts m (xs ++ ys) → AreParts m xs
front_parts m xs ys h k x at = h k x (at_front xs ys k x at)

pub last_part : (m : Memory) (xs : List (Option System)) (x : Option System) → AreParts m (xs ++ x ∷ []) → IsOnePart m x
last_part m xs x h = h (length xs) x (at_back xs x)

-- the words stay as many
pub brought_length : (m : Memory) (xs : List (Option System)) → length (fold with_words_of m xs).words ≡ length m.words
brought_length m [] = refl
brought_length m (None ∷ xs) = brought_length m xs
brought_length m (Some o ∷ xs) = brought_length (with_words_of m (Some o)) xs ∙ each_length over o.memory.words m.words

-- the last of a list of one is all of it
pub one_left : {X : Type 0} (xs ys : List X) (x : X) → xs ≡ ys ++ x ∷ [] → length xs ≡ 1 → xs ≡ x ∷ []
one_left xs [] x is one = is
one_left xs (y ∷ ys) x is one = absurd (let n : length xs ≡ suc (length (ys ++ x ∷ [])) = ap (λ zs. length zs) is in let m = length-append ys (x ∷ []) in omega arith)

-- ---- the last state of a table, and the system that is put together

parts_of : (cs ps : List Processor) (m rest : Memory) (os : List (Option System)) → AreOwn cs ps m os → IsMemory m → length rest.words ≡ length m.words → AreParts rest os
parts_of cs ps m rest os h memory long k x at =
    let a = h.size in
    let b = h.pages in
    let low = slice_get_within os k x at in
    let c = got cs k (omega arith) in
    let p = got ps k (omega arith) in
    let o : System = record { processors = p.0 ∷ []; memory = own_memory (pages_of c.0) m } in
    (o, same x (Some o) (sym at ∙ h.each k c.0 p.0 c.1 p.1), refl, length_on (pages_of c.0) (addresses m.windows) m.words (as_many m memory) ∙ sym long)
  where
    same : (a b : Option System) → Some a ≡ Some b → a ≡ b
    same a b e = cc

module _ (key : Key) (s : State Op YardView) (m : MeetsYard key s) (id : ℕ) (v : YardView) (at : get_elem? s.views id ≡ some v) (owns : List (Option System)) (back : AreBack (length key.cpus.value.items) v owns) where
  abbrev stands : StandsFor (start_of key) m.all m.system
  stands = m.yard.resides.stands

  pub owns_of : AreOwnsOf (start_of key) owns m.system
  owns_of = its_own (start_of key) m.all m.system stands v (m.same id v at) owns back.keeps

  own_there : AreOwn key.cpus.value.items m.system.processors m.system.memory owns
  own_there = are_own (start_of key) m.all m.system stands v (m.same id v at) owns back.keeps m.yard.resides.size back

  pub system_is : (cpus : List Processor) (ram rest : Memory) → cpus ≡ processors_in owns → ram ≡ fold with_words_of rest owns → rest ≡ own_memory (pages_left (start_of key)) key.ram.value → ◌≡◌ {A = System} (record { processors = cpus; memory = ram }) m.system
  system_is cpus ram rest cpus_are ram_is rest_is =
      let ps = cpus_are ∙ own_processors key.cpus.value.items m.system.processors m.system.memory owns own_there in
      let words = ram_is ∙ ap (λ (n : Memory). fold with_words_of n owns) (rest_is ∙ sym stands.left) ∙ put_together key.cpus.value.items m.system.processors m.system.memory owns stands.memory own_there in
      λ i. record { processors = ps i; memory = words i }

  pub parts_there : (rest : Memory) → rest ≡ own_memory (pages_left (start_of key)) key.ram.value → AreParts rest owns
  parts_there rest is =
      parts_of key.cpus.value.items m.system.processors m.system.memory rest owns own_there stands.memory
      (ap (λ (n : Memory). length n.words) (is ∙ sym stands.left) ∙ length_on (pages_left (start_of key)) (addresses m.system.memory.windows) m.system.memory.words (as_many m.system.memory stands.memory))

  pub unvisited : AreAsGathered (start_of key) owns → m.system ≡ system_of (start_of key)
  unvisited same =
      one_of_owns (start_of key) m.system (system_of (start_of key)) owns stands.memory m.yard.resides.opens.quiet.sound.memory own_there (own_gathered (start_of key) v owns back same) stands.left

  pub sound_there : IsSound m.system
  sound_there =
      stays_sound (at_rest (system_of (start_of key))) (yard_machine (start_of key) m.go m.system) (inl m.yard.resides.opens.quiet)
      (reached_on (after (Calls key.goal.value) at_start m.yard.resides.opens.enabled) (uncalled_reached m.yard.resides.reached))
