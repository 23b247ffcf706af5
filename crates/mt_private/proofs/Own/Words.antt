-- A memory with the words of some pages alone: what a change of a word, or of a line, makes of it.
use Rattle.std.proofs.Common.{◌≡◌, ◌∙◌, ap, sym, refl, subst, arith, ℕ, zero, suc, ◌/◌, ◌%◌, ◌<◌, ◌==◌, Bool, true, false, List, [], ◌∷◌, length, set, get_or, Option, None, Some}
use Rattle.std.specs.Prelude.{if◌then◌else◌, map, nat_lt, slice_index}
use Rattle.std.specs.List.{filter, fold, list_all}
use Rattle.std.specs.Option.{option_map_or}
use Rattle.std.proofs.lemmas.Bool.{eqb-true, ltb-true}
use Rattle.mt_cache.specs.declared.line.CacheLine.{CacheLine}
use Rattle.mt_cache.specs.Lines.{eight, has_number, is_dirty}
use Rattle.mt_machine.specs.Memory.{Memory, Window, IsMemory, fresh_line, place, place_in, put_word, word_address, word_at, write_back, write_back_of, write_back_word}
use Rattle.mt_machine.specs.Update.{addresses}
use Rattle.mt_laws.proofs.Barrier.Ranks.{and_left, and_right}
use Rattle.mt_laws.proofs.Updates.Addresses.{word_of_words}
use Rattle.mt_laws.proofs.Words.LineLaws.{back_windows, write_back_windows}
use Rattle.mt_private.specs.Own.{own_memory, words_on}

-- ---- the address of each place

pub record IsAddress (xs : List ℕ) (a i : ℕ) : Type 0 where
  pub is : get_or xs i 0 ≡ a
  pub within : i < length xs

abbrev pub HasAddresses : List Window → Type 0
HasAddresses ws = (a i : ℕ) → place (record { windows = ws; words = [] }) a ≡ Some i → IsAddress (addresses ws) a i

from_next : (xs : List ℕ) (i a : ℕ) → get_or (map suc xs) i 0 ≡ suc a → IsAddress xs a i
from_next [] i a h = absurd (cc)
from_next (x ∷ xs) zero a h = record { is = (let e : suc x ≡ suc a = h in omega arith); within = omega arith }
from_next (x ∷ xs) (suc i) a h = let r = from_next xs i a h in record { is = r.is; within = (let b = r.within in omega arith) }

whole_at : (m : Memory) (a i : ℕ) → place m a ≡ Some i → a % 8 ≡ 0
whole_at m a i h = one (a % 8 == 0) refl h
  where
    one : (b : Bool) → (a % 8 == 0) ≡ b → (if b then place_in m.windows 0 a else None) ≡ Some i → a % 8 ≡ 0
    one true is g = eqb-true (a % 8) 0 is
    one false is g = absurd (cc)

pub has_addresses : (m : Memory) → IsMemory m → HasAddresses m.windows
has_addresses m h a i at =
    from_next (addresses m.windows) i a
    (sym (ap (λ (o : Option ℕ). option_map_or (λ j. slice_index (map suc (addresses m.windows)) j) o 0) at) ∙ word_of_words m suc h a i (whole_at m a i at) at)

-- ---- words by their places

-- f where the test is passed, else nothing changes
abbrev pub if_on : {X : Type 0} → Bool → (X → X) → X → X
if_on true f x = f x
if_on false f x = x

module _ (pages : ℕ → Bool) where
  words_set : (b : Bool) (xs ws : List ℕ) (i v : ℕ) → i < length xs → pages (get_or xs i 0 / 4096) ≡ b → words_on pages xs (set ws i v) ≡ if_on b (λ us. set us i v) (words_on pages xs ws)
  words_set b [] ws i v within is = absurd (omega arith)
  words_set true (a ∷ xs) [] i v within is = refl
  words_set false (a ∷ xs) [] i v within is = refl
  words_set true (a ∷ xs) (w ∷ ws) zero v within is = ap (λ (c : Bool). (if c then v else 0) ∷ words_on pages xs ws) is
  words_set false (a ∷ xs) (w ∷ ws) zero v within is = ap (λ (c : Bool). (if c then v else 0) ∷ words_on pages xs ws) is ∙ sym (ap (λ (c : Bool). (if c then w else 0) ∷ words_on pages xs ws) is)
  words_set true (a ∷ xs) (w ∷ ws) (suc i) v within is = ap (λ us. (if pages (a / 4096) then w else 0) ∷ us) (words_set true xs ws i v (omega arith) is)
  words_set false (a ∷ xs) (w ∷ ws) (suc i) v within is = ap (λ us. (if pages (a / 4096) then w else 0) ∷ us) (words_set false xs ws i v (omega arith) is)

  pub words_get : (xs ws : List ℕ) (i : ℕ) → i < length xs → pages (get_or xs i 0 / 4096) ≡ true → get_or (words_on pages xs ws) i 0 ≡ get_or ws i 0
  words_get [] ws i within is = absurd (omega arith)
  words_get (a ∷ xs) [] i within is = refl
  words_get (a ∷ xs) (w ∷ ws) zero within is = ap (λ (c : Bool). if c then w else 0) is
  words_get (a ∷ xs) (w ∷ ws) (suc i) within is = words_get xs ws i (omega arith) is

  -- ---- one word

  pub put_on : (b : Bool) (m : Memory) (a v : ℕ) → HasAddresses m.windows → pages (a / 4096) ≡ b → own_memory pages (put_word m a v) ≡ if_on b (λ n. put_word n a v) (own_memory pages m)
  put_on b m a v has is = one (place m a) refl b is
    where
      one : (o : Option ℕ) → place m a ≡ o → (b : Bool) → pages (a / 4096) ≡ b
          → own_memory pages (option_map_or (λ i. record m { words = set m.words i v }) o m) ≡ if_on b (λ n. option_map_or (λ i. record n { words = set n.words i v }) (place n a) n) (own_memory pages m)
      one None at true is = sym (ap (λ (o : Option ℕ). option_map_or (λ i. record (own_memory pages m) { words = set (own_memory pages m).words i v }) o (own_memory pages m)) at)
      one None at false is = refl
      one (Some i) at true is =
          let r = has a i at in
          ap (λ (ws : List ℕ). record m { words = ws }) (words_set true (addresses m.windows) m.words i v r.within (ap (λ (x : ℕ). pages (x / 4096)) r.is ∙ is))
          ∙ sym (ap (λ (o : Option ℕ). option_map_or (λ i. record (own_memory pages m) { words = set (own_memory pages m).words i v }) o (own_memory pages m)) at)
      one (Some i) at false is =
          let r = has a i at in
          ap (λ (ws : List ℕ). record m { words = ws }) (words_set false (addresses m.windows) m.words i v r.within (ap (λ (x : ℕ). pages (x / 4096)) r.is ∙ is))

  pub word_on : (m : Memory) (a : ℕ) → HasAddresses m.windows → pages (a / 4096) ≡ true → word_at (own_memory pages m) a ≡ word_at m a
  word_on m a has is = one (place m a) refl
    where
      one : (o : Option ℕ) → place m a ≡ o → option_map_or (λ i. slice_index (own_memory pages m).words i) o 0 ≡ option_map_or (λ i. slice_index m.words i) o 0
      one None at = refl
      one (Some i) at = let r = has a i at in words_get (addresses m.windows) m.words i r.within (ap (λ (x : ℕ). pages (x / 4096)) r.is ∙ is)

  -- ---- one line

  page_of_word : (n w : ℕ) → w < 8 → word_address n w / 4096 ≡ n / 64
  page_of_word n w low = omega arith

  words_of_line : (m : Memory) (n : ℕ) (ws : List ℕ) → HasAddresses m.windows → pages (n / 64) ≡ true → list_all (λ w. nat_lt w 8) ws ≡ true
      → map (λ w. word_at (own_memory pages m) (word_address n w)) ws ≡ map (λ w. word_at m (word_address n w)) ws
  words_of_line m n [] has is low = refl
  words_of_line m n (w ∷ ws) has is low =
      let e : word_at (own_memory pages m) (word_address n w) ≡ word_at m (word_address n w) = word_on m (word_address n w) has (ap pages (page_of_word n w (ltb-true w 8 (and_left _ _ low))) ∙ is) in
      let rest = words_of_line m n ws has is (and_right (nat_lt w 8) _ low) in
      λ i. e i ∷ rest i

  pub fresh_on : (m : Memory) (n era : ℕ) → HasAddresses m.windows → pages (n / 64) ≡ true → fresh_line (own_memory pages m) n era ≡ fresh_line m n era
  fresh_on m n era has is = ap (λ (ws : List ℕ). record { number = n; words = ws; dirty = 0; era = era }) (words_of_line m n eight has is refl)

  on_twice : (b : Bool) (f g : Memory → Memory) (m : Memory) → if_on b g (if_on b f m) ≡ if_on b (λ n. g (f n)) m
  on_twice true f g m = refl
  on_twice false f g m = refl

  back_word_on : (b : Bool) (l : CacheLine) (w : ℕ) (m : Memory) → w < 8 → HasAddresses m.windows → pages (l.number / 64) ≡ b → own_memory pages (write_back_word l m w) ≡ if_on b (λ n. write_back_word l n w) (own_memory pages m)
  back_word_on b l w m low has is = one (is_dirty l w) b (put_on b m (word_address l.number w) (slice_index l.words w) has (ap pages (page_of_word l.number w low) ∙ is))
    where
      one : (d b : Bool) → own_memory pages (put_word m (word_address l.number w) (slice_index l.words w)) ≡ if_on b (λ n. put_word n (word_address l.number w) (slice_index l.words w)) (own_memory pages m)
          → own_memory pages (if d then put_word m (word_address l.number w) (slice_index l.words w) else m) ≡ if_on b (λ n. if d then put_word n (word_address l.number w) (slice_index l.words w) else n) (own_memory pages m)
      one true true e = e
      one true false e = e
      one false true e = refl
      one false false e = refl

  back_words_on : (b : Bool) (l : CacheLine) (ws : List ℕ) (m : Memory) → HasAddresses m.windows → pages (l.number / 64) ≡ b → list_all (λ w. nat_lt w 8) ws ≡ true
      → own_memory pages (fold (write_back_word l) m ws) ≡ if_on b (λ n. fold (write_back_word l) n ws) (own_memory pages m)
  back_words_on true l [] m has is low = refl
  back_words_on false l [] m has is low = refl
  back_words_on b l (w ∷ ws) m has is low =
      back_words_on b l ws (write_back_word l m w) (subst HasAddresses (sym (back_windows l w m)) has) is (and_right (nat_lt w 8) _ low)
      ∙ ap (if_on b (λ n. fold (write_back_word l) n ws)) (back_word_on b l w m (ltb-true w 8 (and_left _ _ low)) has is)
      ∙ on_twice b (λ n. write_back_word l n w) (λ n. fold (write_back_word l) n ws) (own_memory pages m)

  pub back_on : (b : Bool) (m : Memory) (l : CacheLine) → HasAddresses m.windows → pages (l.number / 64) ≡ b → own_memory pages (write_back m l) ≡ if_on b (λ n. write_back n l) (own_memory pages m)
  back_on b m l has is = back_words_on b l eight m has is refl

  pub of_on : (b : Bool) (n : ℕ) (m : Memory) (ls : List CacheLine) → HasAddresses m.windows → pages (n / 64) ≡ b → own_memory pages (write_back_of n m ls) ≡ if_on b (λ u. write_back_of n u ls) (own_memory pages m)
  of_on true n m [] has is = refl
  of_on false n m [] has is = refl
  of_on b n m (l ∷ ls) has is = one (l.number == n) refl b is (λ u has. of_on b n u ls has is)
    where
      one : (c : Bool) → (l.number == n) ≡ c → (b : Bool) → pages (n / 64) ≡ b
          → ((u : Memory) → HasAddresses u.windows → own_memory pages (fold write_back u (filter (has_number n) ls)) ≡ if_on b (λ u. fold write_back u (filter (has_number n) ls)) (own_memory pages u))
          → own_memory pages (fold write_back m (if c then l ∷ filter (has_number n) ls else filter (has_number n) ls)) ≡ if_on b (λ u. fold write_back u (if c then l ∷ filter (has_number n) ls else filter (has_number n) ls)) (own_memory pages m)
      one true at b is rest =
          rest (write_back m l) (subst HasAddresses (sym (write_back_windows m l)) has)
          ∙ ap (if_on b (λ u. fold write_back u (filter (has_number n) ls))) (back_on b m l has (ap (λ (x : ℕ). pages (x / 64)) (eqb-true l.number n at) ∙ is))
          ∙ on_twice b (λ u. write_back u l) (λ u. fold write_back u (filter (has_number n) ls)) (own_memory pages m)
      one false at b is rest = rest m has
