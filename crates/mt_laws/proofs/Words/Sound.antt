-- A sound system's copies agree, and the other way round.
use Rattle.std.proofs.Common.{◌≡◌, ◌≢◌, ℕ, zero, suc, ◌%◌, ◌<◌, ◌==◌, List, [], ◌∷◌, length, get_or, Some, None, Option, Bool, true, false, refl, sym, ap, subst, ◌∙◌, arith, inl, inr, ⊎_elim, eq-eqb}
use Rattle.std.specs.Prelude.{slice_get, slice_index, if◌then◌else◌, ◌&&◌, is_some, nat_lt}
use Rattle.std.specs.List.{All, AllPairs, list_all, find}
use Rattle.std.specs.Option.{option_map_or, option_map, option_or}
use Rattle.std.specs.Int.{bit_at}
use Rattle.std.proofs.lemmas.Bool.{eqb-true, eqb-false, ltb-true}
use Rattle.std.proofs.lemmas.List.Elements.{All-head, All-tail}
use Rattle.std.proofs.lemmas.Option.{slice_get-get_or}
use Rattle.std.proofs.lemmas.Nat.Bits.{same_from_bits_below, bit_at-zero, bit_at-lt}
use Rattle.mt_cache.specs.declared.line.CacheLine.{CacheLine}
use Rattle.mt_machine.specs.Memory.{Memory, Window, word_at, place, place_in, word_address, line_of, word_of}
use Rattle.mt_cache.specs.Lines.{IsLine, eight, is_dirty, find_line, first_dirty_word}
use Rattle.mt_machine.specs.System.{Processor, System, IsCoherent, IsProcessor, IsSound, dirty_word, dirty_word_in, now}
use Rattle.mt_machine.specs.Machine.{Machine}
use Rattle.mt_kinds.specs.Bits.{is_bit_set}
use Rattle.mt_laws.proofs.Barrier.Ranks.{and_left, and_right}
use Rattle.mt_laws.proofs.Words.BitLaws.{no_bit}
use Rattle.mt_laws.proofs.Words.MemoryLaws.{AllAligned}
use Rattle.mt_laws.proofs.Barrier.Claims.{all_get}
use Rattle.mt_laws.proofs.Words.Copies.{Copy, IsClear, IsShared, IsOwned, Shows}
use Rattle.mt_laws.proofs.Words.LineLaws.{fits, is_placed, look, word_placed}
use Rattle.mt_laws.proofs.Words.LineLists.{copy_in, Apart, find_hit, found_number, found_passes}
use Rattle.mt_laws.proofs.Words.BusLaws.{AllFit, Stands, copies, Word, copies_at, fits_of, fits_bits, fits_placed, fit_at}
use Rattle.mt_laws.proofs.Words.StepLaws.{find_passes, find_within, no_dirty_word}
use Rattle.mt_laws.proofs.Words.Agreement.{Agrees}

-- ---- lists

pub aligned_all : (ws : List Window) → All (λ (w : Window). w.base % 64 ≡ 0) ws → AllAligned ws
aligned_all [] h = tt
aligned_all (w ∷ ws) h = (All-head (λ (v : Window). v.base % 64 ≡ 0) w ws h, aligned_all ws (All-tail (λ (v : Window). v.base % 64 ≡ 0) w ws h))

abbrev Distinct : CacheLine → CacheLine → Type 0
Distinct a b = a.number ≢ b.number

none_of_number : (n : ℕ) (ls : List CacheLine) → ((j : ℕ) (d : CacheLine) → j < length ls → n ≢ (get_or ls j d).number) → find_line n ls ≡ None
none_of_number n [] h = refl
none_of_number n (l ∷ ls) h = one (l.number == n) refl (none_of_number n ls (λ j d within. h (suc j) d (omega arith)))
  where
    one : (b : Bool) → (l.number == n) ≡ b → find_line n ls ≡ None → (if b then Some l else find_line n ls) ≡ None
    one true is rest = absurd (h 0 l (omega arith) (sym (eqb-true l.number n is)))
    one false is rest = rest

pub apart_of_pairs : (ls : List CacheLine) → AllPairs Distinct ls → Apart ls
apart_of_pairs [] h = tt
apart_of_pairs (l ∷ ls) h = (none_of_number l.number ls (λ j d within. h 0 (suc j) d (omega arith) (omega arith)), apart_of_pairs ls (λ i j d low within. h (suc i) (suc j) d (omega arith) (omega arith)))

number_apart : (n : ℕ) (ls : List CacheLine) → find_line n ls ≡ None → (j : ℕ) (d : CacheLine) → j < length ls → n ≢ (get_or ls j d).number
number_apart n [] h j d within = absurd (omega arith)
number_apart n (l ∷ ls) h j d within = one (l.number == n) refl h (λ g i low. number_apart n ls g i d low) j within
  where
    one : (b : Bool) → (l.number == n) ≡ b → (if b then Some l else find_line n ls) ≡ None → (find_line n ls ≡ None → (i : ℕ) → i < length ls → n ≢ (get_or ls i d).number) → (j : ℕ) → j < suc (length ls) → n ≢ (get_or (l ∷ ls) j d).number
    one true is g rest j within = absurd (cc)
    one false is g rest zero within = λ e. eqb-false l.number n is (sym e)
    one false is g rest (suc j) within = rest g j (omega arith)

pub pairs_of_apart : (ls : List CacheLine) → Apart ls → AllPairs Distinct ls
pairs_of_apart [] h i j d low within = absurd (omega arith)
pairs_of_apart (l ∷ ls) h zero zero d low within = absurd (omega arith)
pairs_of_apart (l ∷ ls) h zero (suc j) d low within = number_apart l.number ls h.0 j d (omega arith)
pairs_of_apart (l ∷ ls) h (suc i) zero d low within = absurd (omega arith)
pairs_of_apart (l ∷ ls) h (suc i) (suc j) d low within = pairs_of_apart ls h.1 i j d (omega arith) (omega arith)

-- a line's place, by the memory or by its windows
pub placed_windows : (m : Memory) (n : ℕ) → is_some (place m (word_address n 0)) ≡ is_placed m.windows n
placed_windows m n = ap (λ b. is_some (if b then place_in m.windows 0 (word_address n 0) else None)) (eq-eqb (word_address n 0 % 8) 0 (omega arith))

pub all_test : {X : Type 0} → (test : X → Bool) (P : X → Type 0) → ((x : X) → P x → test x ≡ true) → (xs : List X) → All P xs → list_all test xs ≡ true
all_test test P gives [] h = refl
all_test test P gives (x ∷ xs) h = both _ _ (gives x (All-head P x xs h)) (all_test test P gives xs (All-tail P x xs h))
  where
    both : (a b : Bool) → a ≡ true → b ≡ true → (a && b) ≡ true
    both true b h g = g
    both false b h g = absurd (cc)

pub test_all : {X : Type 0} → (test : X → Bool) (P : X → Type 0) → ((x : X) → test x ≡ true → P x) → (xs : List X) → list_all test xs ≡ true → All P xs
test_all test P gives [] h k d within = absurd (omega arith)
test_all test P gives (x ∷ xs) h zero d within = gives x (left _ _ h)
  where
    left : (a b : Bool) → (a && b) ≡ true → a ≡ true
    left true b g = refl
    left false b g = g
test_all test P gives (x ∷ xs) h (suc k) d within = test_all test P gives xs (right _ _ h) k d (omega arith)
  where
    right : (a b : Bool) → (a && b) ≡ true → b ≡ true
    right true b g = g
    right false b g = absurd (cc)

-- ---- what the lines of a sound system keep

fit_lines : (m : Memory) (ls : List CacheLine) → All (λ (l : CacheLine). is_some (place m (word_address l.number 0)) ≡ true) ls → All IsLine ls → list_all (fits m.windows) ls ≡ true
fit_lines m ls placed whole =
    all_test (fits m.windows) (λ (l : CacheLine). (is_some (place m (word_address l.number 0)) ≡ true) × IsLine l)
    (λ l h. fits_of m.windows l (sym (placed_windows m l.number) ∙ h.0) h.1.eight_words (let b = h.1.eight_bits in omega arith))
    ls
    (λ k d within. (placed k d within, whole k d within))

sound_fit : (s : System) → IsSound s → (ps : List Processor) → ((i : ℕ) (p : Processor) → slice_get ps i ≡ Some p → (j : ℕ) × (slice_get s.processors j ≡ Some p)) → AllFit s.memory.windows ps
sound_fit s h [] from = tt
sound_fit s h (p ∷ ps) from =
    let j = from 0 p refl in
    let own = all_get IsProcessor s.processors h.each j.0 p j.1 in (
      record {
        few_lines = own.few_lines;
        few_buffers = own.few_buffers;
        lines_apart = apart_of_pairs p.lines own.distinct_lines;
        lines_fit = fit_lines s.memory p.lines (all_get (λ (q : Processor). All (λ (l : CacheLine). is_some (place s.memory (word_address l.number 0)) ≡ true) q.lines) s.processors h.lines_in_memory j.0 p j.1) own.whole_lines;
        buffers_apart = apart_of_pairs p.buffers own.distinct_buffers;
        buffers_fit = fit_lines s.memory p.buffers (all_get (λ (q : Processor). All (λ (l : CacheLine). is_some (place s.memory (word_address l.number 0)) ≡ true) q.buffers) s.processors h.buffers_in_memory j.0 p j.1) own.whole_buffers;
      },
      sound_fit s h ps (λ i q at. from (suc i) q at),
    )

pub sound_stands : (s : System) → IsSound s → Stands s.memory.windows s
sound_stands s h = record { memory = record { windows = refl; counted = h.memory.counted }; fit = sound_fit s h s.processors (λ i p at. (i, at)) }

-- ---- copies by their places

owned_place : (x : ℕ) (cs : List Copy) → IsOwned x cs → (j : ℕ) × (slice_get cs j ≡ Some (Some (x, true)))
owned_place x [] h = absurd h
owned_place x (None ∷ cs) h = let r = owned_place x cs h in (suc r.0, r.1)
owned_place x (Some (y, true) ∷ cs) h = (0, ap (λ (z : ℕ). Some (Some (z, true))) h.0)
owned_place x (Some (y, false) ∷ cs) h = absurd h

clear_by_place : (cs : List Copy) → ((j : ℕ) (c : Copy) → slice_get cs j ≡ Some c → c ≡ None) → IsClear cs
clear_by_place [] h = tt
clear_by_place (None ∷ cs) h = clear_by_place cs (λ j c at. h (suc j) c at)
clear_by_place (Some c ∷ cs) h = absurd (let e : Some c ≡ None = h 0 (Some c) refl in cc)

shows_by_place : (v : ℕ) (cs : List Copy) → ((i y : ℕ) → slice_get cs i ≡ Some (Some (y, false)) → y ≡ v)
    → ((i j y : ℕ) (c : Copy) → i ≢ j → slice_get cs i ≡ Some (Some (y, true)) → slice_get cs j ≡ Some c → c ≡ None) → (x : ℕ) × Shows v cs x
shows_by_place v [] clean sole = (v, inl (refl, tt))
shows_by_place v (None ∷ cs) clean sole = shows_by_place v cs (λ i y at. clean (suc i) y at) (λ i j y c apart a b. sole (suc i) (suc j) y c (λ e. apart (omega arith)) a b)
shows_by_place v (Some (y, true) ∷ cs) clean sole = (y, inr (refl, clear_by_place cs (λ j c at. sole 0 (suc j) y c (λ e. absurd (omega arith)) refl at)))
shows_by_place v (Some (y, false) ∷ cs) clean sole =
    let r = shows_by_place v cs (λ i y at. clean (suc i) y at) (λ i j y c apart a b. sole (suc i) (suc j) y c (λ e. apart (omega arith)) a b) in
    ⊎_elim
    (λ (h : (v ≡ r.0) × IsShared v cs). let q : (x : ℕ) × Shows v (Some (y, false) ∷ cs) x = (r.0, inl (h.0, (clean 0 y refl, h.1))) in q)
    (λ (h : IsOwned r.0 cs). let p = owned_place r.0 cs h in absurd (let e : Some (y, false) ≡ None = sole (suc p.0) 0 r.0 (Some (y, false)) (λ g. absurd (omega arith)) p.1 refl in cc))
    r.1

pub shared_clean : (v : ℕ) (cs : List Copy) (i y : ℕ) (d : Bool) → IsShared v cs → slice_get cs i ≡ Some (Some (y, d)) → (y ≡ v) × (d ≡ false)
shared_clean v [] i y d h at = absurd (cc)
shared_clean v (None ∷ cs) zero y d h at = absurd (cc)
shared_clean v (None ∷ cs) (suc i) y d h at = shared_clean v cs i y d h at
shared_clean v (Some (z, true) ∷ cs) i y d h at = absurd h
shared_clean v (Some (z, false) ∷ cs) zero y d h at =
    let e : z ≡ y = ap (λ (o : Option Copy). option_map_or (λ (c : Copy). option_map_or (λ (u : ℕ × Bool). u.0) c 0) o 0) at in
    let f : false ≡ d = ap (λ (o : Option Copy). option_map_or (λ (c : Copy). option_map_or (λ (u : ℕ × Bool). u.1) c false) o false) at in
    (sym e ∙ h.0, sym f)
shared_clean v (Some (z, false) ∷ cs) (suc i) y d h at = shared_clean v cs i y d h.1 at

pub clear_place : (cs : List Copy) (i : ℕ) (c : Copy) → IsClear cs → slice_get cs i ≡ Some c → c ≡ None
clear_place [] i c h at = absurd (cc)
clear_place (None ∷ cs) zero c h at = cc
clear_place (None ∷ cs) (suc i) c h at = clear_place cs i c h at
clear_place (Some x ∷ cs) i c h at = absurd h

owned_dirty : (x : ℕ) (cs : List Copy) (i y : ℕ) (d : Bool) → IsOwned x cs → slice_get cs i ≡ Some (Some (y, d)) → d ≡ true
owned_dirty x [] i y d h at = absurd h
owned_dirty x (None ∷ cs) zero y d h at = absurd (cc)
owned_dirty x (None ∷ cs) (suc i) y d h at = owned_dirty x cs i y d h at
owned_dirty x (Some (z, false) ∷ cs) i y d h at = absurd h
owned_dirty x (Some (z, true) ∷ cs) zero y d h at =
    let f : true ≡ d = ap (λ (o : Option Copy). option_map_or (λ (c : Copy). option_map_or (λ (u : ℕ × Bool). u.1) c false) o false) at in sym f
owned_dirty x (Some (z, true) ∷ cs) (suc i) y d h at = absurd (let e : Some (y, d) ≡ None = clear_place cs i (Some (y, d)) h.1 at in cc)

owned_sole : (x : ℕ) (cs : List Copy) (i j : ℕ) (u : ℕ × Bool) (c : Copy) → i ≢ j → IsOwned x cs → slice_get cs i ≡ Some (Some u) → slice_get cs j ≡ Some c → c ≡ None
owned_sole x [] i j u c apart h a b = absurd h
owned_sole x (None ∷ cs) zero j u c apart h a b = absurd (cc)
owned_sole x (None ∷ cs) (suc i) zero u c apart h a b = cc
owned_sole x (None ∷ cs) (suc i) (suc j) u c apart h a b = owned_sole x cs i j u c (λ e. apart (omega arith)) h a b
owned_sole x (Some (z, false) ∷ cs) i j u c apart h a b = absurd h
owned_sole x (Some (z, true) ∷ cs) zero zero u c apart h a b = absurd (apart refl)
owned_sole x (Some (z, true) ∷ cs) zero (suc j) u c apart h a b = clear_place cs j c h.1 b
owned_sole x (Some (z, true) ∷ cs) (suc i) j u c apart h a b = absurd (let e : Some u ≡ None = clear_place cs i (Some u) h.1 a in cc)

pub shows_clean : (v x : ℕ) (cs : List Copy) (i y : ℕ) → Shows v cs x → slice_get cs i ≡ Some (Some (y, false)) → y ≡ v
shows_clean v x cs i y s at =
    ⊎_elim (λ (h : (v ≡ x) × IsShared v cs). (shared_clean v cs i y false h.1 at).0) (λ (h : IsOwned x cs). absurd (let e : false ≡ true = owned_dirty x cs i y false h at in cc)) s

pub shows_sole : (v x : ℕ) (cs : List Copy) (i j y : ℕ) (c : Copy) → i ≢ j → Shows v cs x → slice_get cs i ≡ Some (Some (y, true)) → slice_get cs j ≡ Some c → c ≡ None
shows_sole v x cs i j y c apart s a b =
    ⊎_elim (λ (h : (v ≡ x) × IsShared v cs). absurd (let e : true ≡ false = (shared_clean v cs i y true h.1 a).1 in cc)) (λ (h : IsOwned x cs). owned_sole x cs i j (y, true) c apart h a b) s

-- ---- the copies of a sound system agree

copies_place : (a : ℕ) (ps : List Processor) (i : ℕ) (c : Copy) → slice_get (copies a ps) i ≡ Some c → (p : Processor) × (slice_get ps i ≡ Some p) × (copy_in a p.lines ≡ c)
copies_place a [] i c at = absurd (cc)
copies_place a (p ∷ ps) zero c at = (p, refl, cc)
copies_place a (p ∷ ps) (suc i) c at = copies_place a ps i c at

found_all : (P : CacheLine → Type 0) (n : ℕ) (ls : List CacheLine) (l : CacheLine) → All P ls → find_line n ls ≡ Some l → P l
found_all P n [] l all h = absurd (cc)
found_all P n (x ∷ ls) l all h = one (x.number == n) h (λ g. found_all P n ls l (All-tail P x ls all) g)
  where
    one : (b : Bool) → (if b then Some x else find_line n ls) ≡ Some l → (find_line n ls ≡ Some l → P l) → P l
    one true g rest = let e : x ≡ l = cc in subst P e (All-head P x ls all)
    one false g rest = rest g

-- the line behind a copy
copy_line : (a : ℕ) (ls : List CacheLine) (y : ℕ) (d : Bool) → copy_in a ls ≡ Some (y, d) → (l : CacheLine) × (find_line (line_of a) ls ≡ Some l) × (slice_index l.words (word_of a) ≡ y) × (is_dirty l (word_of a) ≡ d)
copy_line a ls y d h = one (find_line (line_of a) ls) refl h
  where
    one : (o : Option CacheLine) → find_line (line_of a) ls ≡ o → option_map (look a) o ≡ Some (y, d) → (l : CacheLine) × (find_line (line_of a) ls ≡ Some l) × (slice_index l.words (word_of a) ≡ y) × (is_dirty l (word_of a) ≡ d)
    one None is g = absurd (cc)
    one (Some l) is g = (
      l,
      is,
      ap (λ (c : Copy). option_map_or (λ (u : ℕ × Bool). u.0) c 0) g,
      ap (λ (c : Copy). option_map_or (λ (u : ℕ × Bool). u.1) c false) g,
    )

none_of_test : {X : Type 0} → (o : Option X) → is_some o ≡ false → o ≡ None
none_of_test None h = refl
none_of_test (Some x) h = absurd (cc)

dirty_set : (l : CacheLine) (w : ℕ) → is_dirty l w ≡ true → l.dirty ≢ 0
dirty_set l w on e = absurd (let off : is_dirty l w ≡ false = ap (λ x. is_bit_set x w) e ∙ no_bit w in cc)

pub sound_word : (s : System) → IsSound s → (a : ℕ) → a % 8 ≡ 0 → (x : ℕ) × Word true a x s
sound_word s h a whole =
    let r = shows_by_place (word_at s.memory a) (copies a s.processors) clean sole in
    (r.0, record { shows = r.1; writes = λ e. absurd (cc) })
  where
    clean : (i y : ℕ) → slice_get (copies a s.processors) i ≡ Some (Some (y, false)) → y ≡ word_at s.memory a
    clean i y at =
        let from = copies_place a s.processors i (Some (y, false)) at in
        let l = copy_line a from.0.lines y false from.2 in
        let number = found_number (line_of a) from.0.lines l.0 l.1 in
        let same : word_address l.0.number (word_of a) ≡ a = omega arith in
        let all = all_get (λ (p : Processor). All (λ (l : CacheLine). (word : ℕ) → word < 8 → is_dirty l word ≡ false → slice_index l.words word ≡ word_at s.memory (word_address l.number word)) p.lines) s.processors h.coherent.clean i from.0 from.1 in
        sym l.2 ∙ found_all (λ (l : CacheLine). (word : ℕ) → word < 8 → is_dirty l word ≡ false → slice_index l.words word ≡ word_at s.memory (word_address l.number word)) (line_of a) from.0.lines l.0 all l.1 (word_of a) (omega arith) l.3
        ∙ ap (word_at s.memory) same

    sole : (i j y : ℕ) (c : Copy) → i ≢ j → slice_get (copies a s.processors) i ≡ Some (Some (y, true)) → slice_get (copies a s.processors) j ≡ Some c → c ≡ None
    sole i j y c apart at_i at_j =
        let from = copies_place a s.processors i (Some (y, true)) at_i in
        let other = copies_place a s.processors j c at_j in
        let l = copy_line a from.0.lines y true from.2 in
        let number = found_number (line_of a) from.0.lines l.0 l.1 in
        let none = found_all (λ (l : CacheLine). l.dirty ≢ 0 → is_some (find_line l.number other.0.lines) ≡ false) (line_of a) from.0.lines l.0 (h.coherent.sole i j from.0 other.0 apart from.1 other.1) l.1 (dirty_set l.0 (word_of a) l.3) in
        sym other.2 ∙ ap (λ n. option_map (look a) (find_line n other.0.lines)) (sym number) ∙ ap (option_map (look a)) (none_of_test (find_line l.0.number other.0.lines) none)

pub sound_agrees : (m : Machine) → IsSound m.system → Agrees m.system.memory.windows m
sound_agrees m h = record { stands = sound_stands m.system h; words = λ a whole. sound_word m.system h a whole }

-- ---- where they agree, the system is coherent

at_itself : (ls : List CacheLine) (j : ℕ) (l : CacheLine) → Apart ls → slice_get ls j ≡ Some l → find_line l.number ls ≡ Some l
at_itself [] j l apart at = absurd (cc)
at_itself (x ∷ ls) zero l apart at = let e : x ≡ l = cc in ap (λ (y : CacheLine). find_line y.number (x ∷ ls)) (sym e) ∙ find_hit x.number x ls (eq-eqb x.number x.number refl) ∙ ap (λ (y : CacheLine). Some y) e
at_itself (x ∷ ls) (suc j) l apart at = one (x.number == l.number) refl (at_itself ls j l apart.1 at)
  where
    one : (b : Bool) → (x.number == l.number) ≡ b → find_line l.number ls ≡ Some l → (if b then Some x else find_line l.number ls) ≡ Some l
    one true is r =
        let n : find_line l.number ls ≡ None = ap (λ i. find_line i ls) (sym (eqb-true x.number l.number is)) ∙ apart.0 in
        absurd (cc)
    one false is r = r

-- a line that is dirty has a dirty word
dirty_word_of : (l : CacheLine) → l.dirty < 256 → l.dirty ≢ 0 → (w : ℕ) × (w < 8) × (is_dirty l w ≡ true)
dirty_word_of l low some = one (first_dirty_word l) refl
  where
    bit_off : (b : ℕ) → b < 2 → (b == 1) ≡ false → b ≡ 0
    bit_off b small off = let n = eqb-false b 1 off in zero_or b small n
      where
        zero_or : (b : ℕ) → b < 2 → b ≢ 1 → b ≡ 0
        zero_or zero small n = refl
        zero_or (suc zero) small n = absurd (n refl)
        zero_or (suc (suc b)) small n = absurd (omega arith)

    one : (o : Option ℕ) → first_dirty_word l ≡ o → (w : ℕ) × (w < 8) × (is_dirty l w ≡ true)
    one None is = absurd (some (same_from_bits_below 8 l.dirty 0 low (omega arith) (λ i within. bit_off (bit_at l.dirty i) (bit_at-lt l.dirty i) (no_dirty_word l is i within) ∙ sym (bit_at-zero i))))
    one (Some w) is = (w, ltb-true w 8 (find_within (is_dirty l) (λ i. nat_lt i 8) eight w refl is), find_passes (is_dirty l) eight w is)

found_at : (test : CacheLine → Bool) (ls : List CacheLine) (k : ℕ) (l : CacheLine) → list_all test ls ≡ true → slice_get ls k ≡ Some l → test l ≡ true
found_at test [] k l all at = absurd (cc)
found_at test (x ∷ ls) zero l all at = let e : x ≡ l = cc in ap test (sym e) ∙ and_left _ _ all
found_at test (x ∷ ls) (suc k) l all at = found_at test ls k l (and_right (test x) _ all) at

module _ (ws : List Window) (m : Machine) (g : Agrees ws m) where
  line_copy : (i : ℕ) (p : Processor) (j : ℕ) (l : CacheLine) (w : ℕ) → slice_get m.system.processors i ≡ Some p → slice_get p.lines j ≡ Some l → w < 8 → slice_get (copies (word_address l.number w) m.system.processors) i ≡ Some (Some (slice_index l.words w, is_dirty l w))
  line_copy i p j l w at_p at_l low =
      let a : ℕ = word_address l.number w in
      let number : line_of (word_address l.number w) ≡ l.number = omega arith in
      let word : word_of (word_address l.number w) ≡ w = omega arith in
      let found = at_itself p.lines j l (fit_at ws m.system.processors i p g.stands.fit at_p).lines_apart at_l in
      copies_at a m.system.processors i p at_p
      ∙ ap (λ n. Some (option_map (look a) (find_line n p.lines))) number
      ∙ ap (λ o. Some (option_map (look a) o)) found
      ∙ ap (λ v. Some (Some (slice_index l.words v, is_dirty l v))) word

  pub agrees_coherent : IsCoherent m.system
  agrees_coherent = record {
    clean = λ i d within j e inside w low off.
        let p = get_or m.system.processors i d in
        let l = get_or (get_or m.system.processors i d).lines j e in
        let at_p = slice_get-get_or m.system.processors i d within in
        let at_l = slice_get-get_or (get_or m.system.processors i d).lines j e inside in
        let a : ℕ = word_address (get_or (get_or m.system.processors i d).lines j e).number w in
        let r = g.words a (omega arith) in
        shows_clean (word_at m.system.memory a) r.0 (copies a m.system.processors) i (slice_index l.words w) r.1.shows
        (line_copy i p j l w at_p at_l low ∙ ap (λ (b : Bool). Some (Some (slice_index l.words w, b))) off);
    sole = λ i j p q apart at_p at_q k e inside dirty.
        let l = get_or p.lines k e in
        let at_l = slice_get-get_or p.lines k e inside in
        let low = fits_bits ws l (found_at (fits ws) p.lines k l (fit_at ws m.system.processors i p g.stands.fit at_p).lines_fit at_l) in
        let w = dirty_word_of l low dirty in
        let a : ℕ = word_address (get_or p.lines k e).number w.0 in
        let r = g.words a (omega arith) in
        let number : line_of (word_address (get_or p.lines k e).number w.0) ≡ l.number = let b = w.1 in omega arith in
        let none : copy_in a q.lines ≡ None =
        shows_sole (word_at m.system.memory a) r.0 (copies a m.system.processors) i j (slice_index l.words w.0) (copy_in a q.lines) apart r.1.shows
        (line_copy i p k l w.0 at_p at_l w.1 ∙ ap (λ (b : Bool). Some (Some (slice_index l.words w.0, b))) w.2)
        (copies_at a m.system.processors j q at_q) in
        is_none_of (find_line l.number q.lines) a (ap (λ n. option_map (look a) (find_line n q.lines)) (sym number) ∙ none);
  }
    where
      is_none_of : (o : Option CacheLine) (a : ℕ) → option_map (look a) o ≡ None → is_some o ≡ false
      is_none_of None a h = refl
      is_none_of (Some l) a h = absurd (cc)

-- ---- the word's value

abbrev dirty_of : Copy → Option ℕ
dirty_of None = None
dirty_of (Some (y, true)) = Some y
dirty_of (Some (y, false)) = None

no_dirty_line : (n w : ℕ) (ls : List CacheLine) → find_line n ls ≡ None → find (λ l. (l.number == n) && is_dirty l w) ls ≡ None
no_dirty_line n w [] h = refl
no_dirty_line n w (l ∷ ls) h = one (l.number == n) h (λ g. no_dirty_line n w ls g)
  where
    one : (b : Bool) → (if b then Some l else find_line n ls) ≡ None → (find_line n ls ≡ None → find (λ l. (l.number == n) && is_dirty l w) ls ≡ None) → (if b && is_dirty l w then Some l else find (λ l. (l.number == n) && is_dirty l w) ls) ≡ None
    one true g rest = absurd (cc)
    one false g rest = rest g

dirty_word_copy : (a : ℕ) (ls : List CacheLine) → Apart ls → dirty_word ls a ≡ dirty_of (copy_in a ls)
dirty_word_copy a [] apart = refl
dirty_word_copy a (l ∷ ls) apart = one (l.number == line_of a) (is_dirty l (word_of a)) refl refl (dirty_word_copy a ls apart.1)
  where
    one : (b d : Bool) → (l.number == line_of a) ≡ b → is_dirty l (word_of a) ≡ d → dirty_word ls a ≡ dirty_of (copy_in a ls)
        → option_map (λ (l : CacheLine). slice_index l.words (word_of a)) (if b && d then Some l else find (λ l. (l.number == line_of a) && is_dirty l (word_of a)) ls) ≡ dirty_of (option_map (look a) (if b then Some l else find_line (line_of a) ls))
    one true true is on rest = ap (λ (d : Bool). dirty_of (Some (slice_index l.words (word_of a), d))) (sym on)
    one true false is off rest =
        ap (option_map (λ (l : CacheLine). slice_index l.words (word_of a))) (no_dirty_line (line_of a) (word_of a) ls (ap (λ i. find_line i ls) (sym (eqb-true l.number (line_of a) is)) ∙ apart.0))
        ∙ ap (λ (d : Bool). dirty_of (Some (slice_index l.words (word_of a), d))) (sym off)
    one false d is on rest = rest

shared_now : (ws : List Window) (a v : ℕ) (ps : List Processor) → AllFit ws ps → IsShared v (copies a ps) → dirty_word_in ps a ≡ None
shared_now ws a v [] fit h = refl
shared_now ws a v (p ∷ ps) fit h = ap (λ o. option_or o (dirty_word_in ps a)) (dirty_word_copy a p.lines fit.0.lines_apart) ∙ one (copy_in a p.lines) h (λ g. shared_now ws a v ps fit.1 g)
  where
    one : (c : Copy) → IsShared v (c ∷ copies a ps) → (IsShared v (copies a ps) → dirty_word_in ps a ≡ None) → option_or (dirty_of c) (dirty_word_in ps a) ≡ None
    one None g rest = rest g
    one (Some (y, true)) g rest = absurd g
    one (Some (y, false)) g rest = rest g.1

owned_now : (ws : List Window) (a x : ℕ) (ps : List Processor) → AllFit ws ps → IsOwned x (copies a ps) → dirty_word_in ps a ≡ Some x
owned_now ws a x [] fit h = absurd h
owned_now ws a x (p ∷ ps) fit h = ap (λ o. option_or o (dirty_word_in ps a)) (dirty_word_copy a p.lines fit.0.lines_apart) ∙ one (copy_in a p.lines) h (λ g. owned_now ws a x ps fit.1 g)
  where
    one : (c : Copy) → IsOwned x (c ∷ copies a ps) → (IsOwned x (copies a ps) → dirty_word_in ps a ≡ Some x) → option_or (dirty_of c) (dirty_word_in ps a) ≡ Some x
    one None g rest = rest g
    one (Some (y, true)) g rest = ap (λ (v : ℕ). Some v) g.0
    one (Some (y, false)) g rest = absurd g

-- the value of a word whose copies agree
pub now_is : (ws : List Window) (s : System) (a x : ℕ) → Stands ws s → Word true a x s → now s a ≡ x
now_is ws s a x st w =
    ⊎_elim
    (λ (h : (word_at s.memory a ≡ x) × IsShared (word_at s.memory a) (copies a s.processors)). ap (λ o. option_map_or (λ v. v) o (word_at s.memory a)) (shared_now ws a (word_at s.memory a) s.processors st.fit h.1) ∙ h.0)
    (λ (h : IsOwned x (copies a s.processors)). ap (λ o. option_map_or (λ v. v) o (word_at s.memory a)) (owned_now ws a x s.processors st.fit h))
    w.shows

-- a word that has no place is 0
pub no_word : (ws : List Window) → AllAligned ws → (s : System) (a x : ℕ) → Stands ws s → a % 8 ≡ 0 → place s.memory a ≡ None → Word true a x s → x ≡ 0
no_word ws aligned s a x st whole none w =
    ⊎_elim
    (λ (h : (word_at s.memory a ≡ x) × IsShared (word_at s.memory a) (copies a s.processors)). sym h.0 ∙ ap (λ (o : Option ℕ). option_map_or (λ i. slice_index s.memory.words i) o 0) none)
    (λ (h : IsOwned x (copies a s.processors)).
    let at = owned_place x (copies a s.processors) h in
    let p = copies_place a s.processors at.0 (Some (x, true)) at.1 in
    let l = copy_line a p.0.lines x true p.2 in
    let number = found_number (line_of a) p.0.lines l.0 l.1 in
    let fit = found_passes (fits ws) (line_of a) p.0.lines l.0 (fit_at ws s.processors at.0 p.0 st.fit p.1).lines_fit l.1 in
    let placed : is_placed s.memory.windows (line_of a) ≡ true = ap (λ v. is_placed v (line_of a)) st.memory.windows ∙ ap (is_placed ws) (sym number) ∙ fits_placed ws l.0 fit in
    let found = word_placed s.memory (line_of a) a (subst AllAligned (sym st.memory.windows) aligned) placed whole refl in
    absurd (let e : None ≡ Some found.0 = sym none ∙ found.1 in cc))
    w.shows
