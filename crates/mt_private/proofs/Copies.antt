-- A processor in its own system: its words, and what that system keeps.
use Rattle.std.proofs.Common.{◌≡◌, ◌≢◌, ◌∙◌, ap, sym, refl, subst, arith, ℕ, zero, suc, ◌/◌, ◌<◌, Bool, true, false, List, [], ◌∷◌, get_or, length, ◌++◌, None, Some, length-append}
use mathlib.Core.Option.{some}
use lib.ListN.{get_elem?}
use Rattle.std.specs.Prelude.{IsNone, IsSome, cond, if◌then◌else◌, slice_get}
use Rattle.std.specs.List.{All, list_all}
use Rattle.mt_cache.specs.declared.line.CacheLine.{CacheLine}
use Rattle.mt_cache.specs.Lines.{find_line, is_dirty}
use Rattle.mt_machine.specs.Memory.{IsMemory, Memory, place, word_address, word_at}
use Rattle.mt_machine.specs.System.{IsProcessor, IsSound, Processor, System, is_writing}
use Rattle.mt_machine.specs.Update.{addresses}
use Rattle.mt_types.specs.Tables.{IsTableOf, TypeTable}
use Rattle.mt_bus.specs.Tables.{AreTablesOf}
use Rattle.mt_laws.proofs.Barrier.Claims.{all_get}
use Rattle.mt_laws.proofs.Barrier.Ranks.{and_left, and_right}
use Rattle.mt_laws.proofs.Updates.Addresses.{length_addresses}
use Rattle.mt_private.specs.Own.{own_memory, pages_of, words_on}
use Rattle.mt_rendezvous.specs.declared.view.Start.{Start}
use Rattle.mt_private.specs.declared.rooms.Room.{Room}
use Rattle.mt_private.specs.Gathered.{AreFirst, IsRoom}
use Rattle.mt_private.specs.Residents.{system_of}
use Rattle.mt_private.proofs.Alone.{one_all}
use Rattle.mt_private.proofs.Own.Buses.{in_pages}
use Rattle.mt_private.proofs.Own.Owners.{within_of}
use Rattle.mt_private.proofs.Own.Words.{has_addresses, word_on, words_get}

pub length_on : (pages : ℕ → Bool) (xs ws : List ℕ) → length xs ≡ length ws → length (words_on pages xs ws) ≡ length ws
length_on pages [] [] same = refl
length_on pages [] (w ∷ ws) same = absurd (omega arith)
length_on pages (a ∷ xs) [] same = absurd (omega arith)
length_on pages (a ∷ xs) (w ∷ ws) same = ap suc (length_on pages xs ws (omega arith))

pub words_none : (pages : ℕ → Bool) (xs ws : List ℕ) (i : ℕ) → pages (get_or xs i 0 / 4096) ≡ false → get_or (words_on pages xs ws) i 0 ≡ 0
words_none pages [] ws i is = refl
words_none pages (a ∷ xs) [] i is = refl
words_none pages (a ∷ xs) (w ∷ ws) zero is = ap (λ (c : Bool). if c then w else 0) is
words_none pages (a ∷ xs) (w ∷ ws) (suc i) is = words_none pages xs ws i is

-- as many addresses as words
pub as_many : (m : Memory) → IsMemory m → length (addresses m.windows) ≡ length m.words
as_many m h = length_addresses m.windows ∙ sym h.counted

all_there : (test : CacheLine → Bool) (ls : List CacheLine) (i : ℕ) (d : CacheLine) → list_all test ls ≡ true → i < length ls → test (get_or ls i d) ≡ true
all_there test [] i d all within = absurd (omega arith)
all_there test (l ∷ ls) zero d all within = and_left (test l) (list_all test ls) all
all_there test (l ∷ ls) (suc i) d all within = all_there test ls i d (and_right (test l) (list_all test ls) all) (omega arith)

page_of_word : (n w : ℕ) → w < 8 → word_address n w / 4096 ≡ n / 64
page_of_word n w low = omega arith

pub own_sound : (s : System) (k : ℕ) (p : Processor) → IsSound s → slice_get s.processors k ≡ Some p → IsSound (record { processors = p ∷ []; memory = own_memory (pages_of p) s.memory })
own_sound s k p h at = record {
  memory = record {
    some_lines = h.memory.some_lines;
    aligned = h.memory.aligned;
    bounded = h.memory.bounded;
    apart = h.memory.apart;
    counted = length_on (pages_of p) (addresses s.memory.windows) s.memory.words (as_many s.memory h.memory) ∙ h.memory.counted;
  };
  coherent = record {
    clean = one_all (λ (q : Processor). All (Clean (own_memory (pages_of p) s.memory)) q.lines) (p ∷ []) p refl
        (λ j d within word low off.
        all_get (λ (q : Processor). All (Clean s.memory) q.lines) s.processors h.coherent.clean k p at j d within word low off
        ∙ sym (word_on (pages_of p) s.memory (word_address (get_or p.lines j d).number word) (has_addresses s.memory h.memory) (ap (pages_of p) (page_of_word (get_or p.lines j d).number word low) ∙ all_there (in_pages (pages_of p)) p.lines j d inside within)));
    sole = sole;
  };
  lines_in_memory = one_all (λ (q : Processor). All (λ l. IsSome (place s.memory (word_address l.number 0))) q.lines) (p ∷ []) p refl
      (all_get (λ (q : Processor). All (λ l. IsSome (place s.memory (word_address l.number 0))) q.lines) s.processors h.lines_in_memory k p at);
  buffers_in_memory = one_all (λ (q : Processor). All (λ l. IsSome (place s.memory (word_address l.number 0))) q.buffers) (p ∷ []) p refl
      (all_get (λ (q : Processor). All (λ l. IsSome (place s.memory (word_address l.number 0))) q.buffers) s.processors h.buffers_in_memory k p at);
  each = one_all IsProcessor (p ∷ []) p refl (all_get IsProcessor s.processors h.each k p at);
}
  where
    Clean : Memory → CacheLine → Type 0
    Clean m l = (word : ℕ) → word < 8 → is_dirty l word ≡ false → get_or l.words word 0 ≡ word_at m (word_address l.number word)

    inside : list_all (in_pages (pages_of p)) p.lines ≡ true
    inside = (within_of (pages_of p) p (λ page named. named)).cached

    sole : (i j : ℕ) (q r : Processor) → i ≢ j → slice_get (p ∷ []) i ≡ Some q → slice_get (p ∷ []) j ≡ Some r → All (λ l. l.dirty ≢ 0 → IsNone (find_line l.number r.lines)) q.lines
    sole zero zero q r differ a b = absurd (differ refl)
    sole zero (suc j) q r differ a b = absurd (cc)
    sole (suc i) j q r differ a b = absurd (cc)

-- its table of types
pub own_tables : (ps : List Processor) (ts : List TypeTable) (k : ℕ) (p : Processor) (t : TypeTable) → AreTablesOf ps ts → slice_get ps k ≡ Some p → slice_get ts k ≡ Some t → AreTablesOf (p ∷ []) (t ∷ [])
own_tables ps ts k p t h at_p at_t = record { count = refl; each = each }
  where
    same_cpu : (a b : Processor) → Some a ≡ Some b → a ≡ b
    same_cpu a b e = cc

    same_table : (a b : TypeTable) → Some a ≡ Some b → a ≡ b
    same_table a b e = cc

    each : (j : ℕ) (q : Processor) (u : TypeTable) → slice_get (p ∷ []) j ≡ Some q → slice_get (t ∷ []) j ≡ Some u → is_writing q.phase ≡ None → IsTableOf q.file u
    each zero q u a b off = h.each k q u (at_p ∙ a) (at_t ∙ b) off
    each (suc j) q u a b off = absurd (cc)

-- ---- words one by one

elem_get : (xs : List ℕ) (i : ℕ) → i < length xs → get_elem? xs i ≡ some (get_or xs i 0)
elem_get [] i within = absurd (omega arith)
elem_get (x ∷ xs) zero within = refl
elem_get (x ∷ xs) (suc i) within = elem_get xs i (omega arith)

module _ (pages : ℕ → Bool) (m : Memory) (h : IsMemory m) (i : ℕ) (within : i < length m.words) where
  there : get_elem? (own_memory pages m).words i ≡ some (get_or (own_memory pages m).words i 0)
  there = let n = length_on pages (addresses m.windows) m.words (as_many m h) in elem_get (own_memory pages m).words i (omega arith)

  pub word_there : (is : Bool) → pages (get_or (addresses m.windows) i 0 / 4096) ≡ is → get_elem? (own_memory pages m).words i ≡ some (cond is (get_or m.words i 0) 0)
  word_there true named = let n = as_many m h in there ∙ ap some (words_get pages (addresses m.windows) m.words i (omega arith) named)
  word_there false not_named = there ∙ ap some (words_none pages (addresses m.windows) m.words i not_named)

-- ---- lists of which the last was taken

module _ {X : Type 0} where
  pub at_front : (xs ys : List X) (k : ℕ) (x : X) → slice_get xs k ≡ Some x → slice_get (xs ++ ys) k ≡ Some x
  at_front [] ys k x at = absurd (cc)
  at_front (y ∷ xs) ys zero x at = at
  at_front (y ∷ xs) ys (suc k) x at = at_front xs ys k x at

  pub at_back : (xs : List X) (x : X) → slice_get (xs ++ x ∷ []) (length xs) ≡ Some x
  at_back [] x = refl
  at_back (y ∷ xs) x = at_back xs x

-- the last of the first ones: its own system is sound, and its table and its room are its own
pub record IsLast (t : Start) (k : ℕ) (p : Processor) (u : TypeTable) (r : Room) : Type 0 where
  pub at : slice_get t.cpus k ≡ Some p
  pub sound : IsSound (record { processors = p ∷ []; memory = r.ram })
  pub table : AreTablesOf (p ∷ []) (u ∷ [])
  pub room : IsRoom p t.ram r

module _ (t : Start) (ps : List Processor) (us : List TypeTable) (rs : List Room) (p : Processor) (u : TypeTable) (r : Room) (h : AreFirst t (ps ++ p ∷ []) (us ++ u ∷ []) (rs ++ r ∷ [])) where
  pub front_first : AreFirst t ps us rs
  front_first = record {
    sound = h.sound;
    first = λ k q at. h.first k q (at_front ps (p ∷ []) k q at);
    tables = record {
      count = (let a = h.tables.count in let b = length-append ps (p ∷ []) in let c = length-append us (u ∷ []) in omega arith);
      each = λ k q v at_q at_v. h.tables.each k q v (at_front ps (p ∷ []) k q at_q) (at_front us (u ∷ []) k v at_v);
    };
    have_rooms = record {
      count = (let a = h.have_rooms.count in let b = length-append ps (p ∷ []) in let c = length-append rs (r ∷ []) in omega arith);
      each = λ k q v at_q at_v. h.have_rooms.each k q v (at_front ps (p ∷ []) k q at_q) (at_front rs (r ∷ []) k v at_v);
    };
  }

  pub last_first : IsLast t (length ps) p u r
  last_first =
      let b = length-append ps (p ∷ []) in
      let tables = h.tables.count in
      let rooms = h.have_rooms.count in
      let c = length-append us (u ∷ []) in
      let d = length-append rs (r ∷ []) in
      let as_tables : length us ≡ length ps = omega arith in
      let as_rooms : length rs ≡ length ps = omega arith in
      let room = h.have_rooms.each (length ps) p r (at_back ps p) (subst (λ (n : ℕ). slice_get (rs ++ r ∷ []) n ≡ Some r) as_rooms (at_back rs r)) in
      record {
        at = h.first (length ps) p (at_back ps p);
        sound = subst (λ (x : Memory). IsSound (record { processors = p ∷ []; memory = x })) (sym room) (own_sound (system_of t) (length ps) p h.sound (h.first (length ps) p (at_back ps p)));
        table = own_tables (ps ++ p ∷ []) (us ++ u ∷ []) (length ps) p u h.tables (at_back ps p) (subst (λ (n : ℕ). slice_get (us ++ u ∷ []) n ≡ Some u) as_tables (at_back us u));
        room = room;
      }
