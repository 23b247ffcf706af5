-- Lists of lines of which no two have one number: what they have of a word, after each change.
use Rattle.std.proofs.Common.{◌≡◌, ◌≢◌, ℕ, ◌%◌, ◌==◌, List, [], ◌∷◌, ◌++◌, length, Some, None, Option, Bool, true, false, refl, sym, ap, ◌∙◌, ne_eqb}
use Rattle.std.specs.Prelude.{if◌then◌else◌, ◌&&◌, not}
use Rattle.std.specs.List.{fold, filter, list_all}
use Rattle.std.specs.Option.{option_map, option_or}
use Rattle.std.proofs.lemmas.Bool.{eqb-true, eqb-false}
use Rattle.mt_cache.specs.declared.line.CacheLine.{CacheLine}
use Rattle.mt_machine.specs.Memory.{Memory, word_count, word_at, line_of, write_back, write_back_of}
use Rattle.mt_cache.specs.Lines.{has_number, find_line, without_line, change_line}
use Rattle.mt_laws.proofs.Barrier.Ranks.{and_left, and_right}
use Rattle.mt_laws.proofs.Words.MemoryLaws.{AllAligned}
use Rattle.mt_laws.proofs.Words.Copies.{Copy, settle}
use Rattle.mt_laws.proofs.Words.LineLaws.{fits, look, write_back_same, write_back_other, write_back_windows, write_back_length}

abbrev pub copy_in : ℕ → List CacheLine → Copy
copy_in a ls = option_map (look a) (find_line (line_of a) ls)

-- no two lines have one number
abbrev pub Apart : List CacheLine → Type 0
Apart [] = Unit {0}
Apart (l ∷ ls) = (find_line l.number ls ≡ None) × Apart ls

abbrev pub KeepsNumber : (CacheLine → CacheLine) → Type 0
KeepsNumber f = (l : CacheLine) → (f l).number ≡ l.number

pub find_hit : (n : ℕ) (l : CacheLine) (ls : List CacheLine) → (l.number == n) ≡ true → find_line n (l ∷ ls) ≡ Some l
find_hit n l ls is = ap (λ b. if b then Some l else find_line n ls) is

pub find_miss : (n : ℕ) (l : CacheLine) (ls : List CacheLine) → (l.number == n) ≡ false → find_line n (l ∷ ls) ≡ find_line n ls
find_miss n l ls is = ap (λ b. if b then Some l else find_line n ls) is

-- ---- the line of a number

pub find_without_same : (n : ℕ) (ls : List CacheLine) → find_line n (without_line n ls) ≡ None
find_without_same n [] = refl
find_without_same n (l ∷ ls) = one (l.number == n) refl (find_without_same n ls)
  where
    one : (b : Bool) → (l.number == n) ≡ b → find_line n (without_line n ls) ≡ None → find_line n (if not b then l ∷ without_line n ls else without_line n ls) ≡ None
    one true is rest = rest
    one false is rest = find_miss n l (without_line n ls) is ∙ rest

pub find_without_other : (m n : ℕ) (ls : List CacheLine) → m ≢ n → find_line m (without_line n ls) ≡ find_line m ls
find_without_other m n [] apart = refl
find_without_other m n (l ∷ ls) apart = one (l.number == n) refl (find_without_other m n ls apart)
  where
    one : (b : Bool) → (l.number == n) ≡ b → find_line m (without_line n ls) ≡ find_line m ls → find_line m (if not b then l ∷ without_line n ls else without_line n ls) ≡ find_line m (l ∷ ls)
    one true is rest =
        let e : l.number ≡ n = eqb-true l.number n is in
        rest ∙ sym (find_miss m l ls (ne_eqb l.number m (λ g. apart (sym g ∙ e))))
    one false is rest = ap (λ r. if l.number == m then Some l else r) rest

pub find_change_same : (n : ℕ) (f : CacheLine → CacheLine) → KeepsNumber f → (ls : List CacheLine) → find_line n (change_line n f ls) ≡ option_map f (find_line n ls)
find_change_same n f keeps [] = refl
find_change_same n f keeps (l ∷ ls) = one (l.number == n) refl (find_change_same n f keeps ls)
  where
    one : (b : Bool) → (l.number == n) ≡ b → find_line n (change_line n f ls) ≡ option_map f (find_line n ls) → find_line n ((if b then f l else l) ∷ change_line n f ls) ≡ option_map f (if b then Some l else find_line n ls)
    one true is rest = find_hit n (f l) (change_line n f ls) (ap (λ x. x == n) (keeps l) ∙ is)
    one false is rest = find_miss n l (change_line n f ls) is ∙ rest

pub find_change_other : (m n : ℕ) (f : CacheLine → CacheLine) → KeepsNumber f → (ls : List CacheLine) → m ≢ n → find_line m (change_line n f ls) ≡ find_line m ls
find_change_other m n f keeps [] apart = refl
find_change_other m n f keeps (l ∷ ls) apart = one (l.number == n) refl (find_change_other m n f keeps ls apart)
  where
    one : (b : Bool) → (l.number == n) ≡ b → find_line m (change_line n f ls) ≡ find_line m ls → find_line m ((if b then f l else l) ∷ change_line n f ls) ≡ find_line m (l ∷ ls)
    one true is rest =
        let e : l.number ≡ n = eqb-true l.number n is in
        let miss : (l.number == m) ≡ false = ne_eqb l.number m (λ g. apart (sym g ∙ e)) in
        find_miss m (f l) (change_line n f ls) (ap (λ x. x == m) (keeps l) ∙ miss) ∙ rest ∙ sym (find_miss m l ls miss)
    one false is rest = ap (λ r. if l.number == m then Some l else r) rest

pub find_append : (m : ℕ) (ls : List CacheLine) (l : CacheLine) → find_line m (ls ++ l ∷ []) ≡ option_or (find_line m ls) (find_line m (l ∷ []))
find_append m [] l = refl
find_append m (x ∷ ls) l = one (x.number == m) (find_append m ls l)
  where
    one : (b : Bool) → find_line m (ls ++ l ∷ []) ≡ option_or (find_line m ls) (find_line m (l ∷ [])) → (if b then Some x else find_line m (ls ++ l ∷ [])) ≡ option_or (if b then Some x else find_line m ls) (find_line m (l ∷ []))
    one true rest = refl
    one false rest = rest

pub found_number : (n : ℕ) (ls : List CacheLine) (l : CacheLine) → find_line n ls ≡ Some l → l.number ≡ n
found_number n [] l h = absurd (cc)
found_number n (x ∷ ls) l h = one (x.number == n) refl (λ g. found_number n ls l g) h
  where
    one : (b : Bool) → (x.number == n) ≡ b → (find_line n ls ≡ Some l → l.number ≡ n) → (if b then Some x else find_line n ls) ≡ Some l → l.number ≡ n
    one true is rest g = let e : x ≡ l = cc in ap (λ (y : CacheLine). y.number) (sym e) ∙ eqb-true x.number n is
    one false is rest g = rest g

pub found_passes : (test : CacheLine → Bool) (n : ℕ) (ls : List CacheLine) (l : CacheLine) → list_all test ls ≡ true → find_line n ls ≡ Some l → test l ≡ true
found_passes test n [] l all h = absurd (cc)
found_passes test n (x ∷ ls) l all h = one (x.number == n) (λ g. found_passes test n ls l (and_right (test x) _ all) g) h
  where
    one : (b : Bool) → (find_line n ls ≡ Some l → test l ≡ true) → (if b then Some x else find_line n ls) ≡ Some l → test l ≡ true
    one true rest g = let e : x ≡ l = cc in ap test (sym e) ∙ and_left _ _ all
    one false rest g = rest g

-- ---- no two lines have one number, after each change

find_change_none : (m n : ℕ) (f : CacheLine → CacheLine) → KeepsNumber f → (ls : List CacheLine) → find_line m ls ≡ None → find_line m (change_line n f ls) ≡ None
find_change_none m n f keeps ls none = one (m == n) refl
  where
    one : (b : Bool) → (m == n) ≡ b → find_line m (change_line n f ls) ≡ None
    one true is =
        let e : m ≡ n = eqb-true m n is in
        ap (λ x. find_line x (change_line n f ls)) e ∙ find_change_same n f keeps ls ∙ ap (λ x. option_map f (find_line x ls)) (sym e) ∙ ap (option_map f) none
    one false is = find_change_other m n f keeps ls (eqb-false m n is) ∙ none

pub apart_without : (n : ℕ) (ls : List CacheLine) → Apart ls → Apart (without_line n ls)
apart_without n [] h = h
apart_without n (l ∷ ls) h = one (l.number == n) refl (apart_without n ls h.1)
  where
    one : (b : Bool) → (l.number == n) ≡ b → Apart (without_line n ls) → Apart (if not b then l ∷ without_line n ls else without_line n ls)
    one true is rest = rest
    one false is rest = (find_without_other l.number n ls (eqb-false l.number n is) ∙ h.0, rest)

pub apart_change : (n : ℕ) (f : CacheLine → CacheLine) → KeepsNumber f → (ls : List CacheLine) → Apart ls → Apart (change_line n f ls)
apart_change n f keeps [] h = h
apart_change n f keeps (l ∷ ls) h = one (l.number == n) (apart_change n f keeps ls h.1)
  where
    one : (b : Bool) → Apart (change_line n f ls) → Apart ((if b then f l else l) ∷ change_line n f ls)
    one true rest = (ap (λ x. find_line x (change_line n f ls)) (keeps l) ∙ find_change_none l.number n f keeps ls h.0, rest)
    one false rest = (find_change_none l.number n f keeps ls h.0, rest)

pub apart_append : (ls : List CacheLine) (l : CacheLine) → Apart ls → find_line l.number ls ≡ None → Apart (ls ++ l ∷ [])
apart_append [] l h none = (refl, tt)
apart_append (x ∷ ls) l h none = one (x.number == l.number) refl none (λ g. apart_append ls l h.1 g)
  where
    one : (b : Bool) → (x.number == l.number) ≡ b → (if b then Some x else find_line l.number ls) ≡ None → (find_line l.number ls ≡ None → Apart (ls ++ l ∷ [])) → Apart (x ∷ (ls ++ l ∷ []))
    one true is g rest = absurd (cc)
    one false is g rest = (
      find_append x.number ls l ∙ ap (λ o. option_or o (find_line x.number (l ∷ []))) h.0 ∙ find_miss x.number l [] (ne_eqb l.number x.number (λ e. eqb-false x.number l.number is (sym e))),
      rest g,
    )

-- ---- tests that all lines pass, after each change

and_true : (a b : Bool) → a ≡ true → b ≡ true → (a && b) ≡ true
and_true true b h g = g
and_true false b h g = absurd (cc)

pub passes_changed : (test : CacheLine → Bool) (n : ℕ) (f : CacheLine → CacheLine) → ((l : CacheLine) → test l ≡ true → test (f l) ≡ true) → (ls : List CacheLine) → list_all test ls ≡ true → list_all test (change_line n f ls) ≡ true
passes_changed test n f keeps [] h = h
passes_changed test n f keeps (l ∷ ls) h =
    and_true _ _ (one (has_number n l)) (passes_changed test n f keeps ls (and_right (test l) _ h))
  where
    one : (b : Bool) → test (if b then f l else l) ≡ true
    one true = keeps l (and_left _ _ h)
    one false = and_left _ _ h

pub passes_append : (test : CacheLine → Bool) (ls : List CacheLine) (l : CacheLine) → list_all test ls ≡ true → test l ≡ true → list_all test (ls ++ l ∷ []) ≡ true
passes_append test [] l h g = and_true _ _ g refl
passes_append test (x ∷ ls) l h g = and_true _ _ (and_left _ _ h) (passes_append test ls l (and_right (test x) _ h) g)

pub passes_without : (test : CacheLine → Bool) (n : ℕ) (ls : List CacheLine) → list_all test ls ≡ true → list_all test (without_line n ls) ≡ true
passes_without test n [] h = h
passes_without test n (l ∷ ls) h = one (has_number n l) (passes_without test n ls (and_right (test l) _ h))
  where
    one : (b : Bool) → list_all test (without_line n ls) ≡ true → list_all test (if not b then l ∷ without_line n ls else without_line n ls) ≡ true
    one true rest = rest
    one false rest = and_true _ _ (and_left _ _ h) rest

-- ---- the copy of a word, after each change

pub copy_without_same : (a n : ℕ) (ls : List CacheLine) → line_of a ≡ n → copy_in a (without_line n ls) ≡ None
copy_without_same a n ls same = ap (λ m. option_map (look a) (find_line m (without_line n ls))) same ∙ ap (option_map (look a)) (find_without_same n ls)

pub copy_without_other : (a n : ℕ) (ls : List CacheLine) → line_of a ≢ n → copy_in a (without_line n ls) ≡ copy_in a ls
copy_without_other a n ls other = ap (option_map (look a)) (find_without_other (line_of a) n ls other)

pub copy_change_other : (a n : ℕ) (f : CacheLine → CacheLine) → KeepsNumber f → (ls : List CacheLine) → line_of a ≢ n → copy_in a (change_line n f ls) ≡ copy_in a ls
copy_change_other a n f keeps ls other = ap (option_map (look a)) (find_change_other (line_of a) n f keeps ls other)

-- g is what f does to the word
pub copy_change_same : (a n : ℕ) (f : CacheLine → CacheLine) (g : Copy → Copy) → KeepsNumber f → (g None ≡ None) → ((l : CacheLine) → Some (look a (f l)) ≡ g (Some (look a l))) → (ls : List CacheLine) → line_of a ≡ n → copy_in a (change_line n f ls) ≡ g (copy_in a ls)
copy_change_same a n f g keeps none acts ls same =
    ap (λ m. option_map (look a) (find_line m (change_line n f ls))) same
    ∙ ap (option_map (look a)) (find_change_same n f keeps ls)
    ∙ one (find_line n ls)
    ∙ ap (λ m. g (option_map (look a) (find_line m ls))) (sym same)
  where
    one : (o : Option CacheLine) → option_map (look a) (option_map f o) ≡ g (option_map (look a) o)
    one None = sym none
    one (Some l) = acts l

-- ---- the write-back of one number's line

pub filter_none : (n : ℕ) (ls : List CacheLine) → find_line n ls ≡ None → filter (has_number n) ls ≡ []
filter_none n [] h = refl
filter_none n (l ∷ ls) h = one (l.number == n) h (λ g. filter_none n ls g)
  where
    one : (b : Bool) → (if b then Some l else find_line n ls) ≡ None → (find_line n ls ≡ None → filter (has_number n) ls ≡ []) → (if b then l ∷ filter (has_number n) ls else filter (has_number n) ls) ≡ []
    one true g rest = absurd (cc)
    one false g rest = rest g

pub filter_some : (n : ℕ) (ls : List CacheLine) (l : CacheLine) → Apart ls → find_line n ls ≡ Some l → filter (has_number n) ls ≡ l ∷ []
filter_some n [] l apart h = absurd (cc)
filter_some n (x ∷ ls) l apart h = one (x.number == n) refl h (λ g. filter_some n ls l apart.1 g)
  where
    one : (b : Bool) → (x.number == n) ≡ b → (if b then Some x else find_line n ls) ≡ Some l → (find_line n ls ≡ Some l → filter (has_number n) ls ≡ l ∷ []) → (if b then x ∷ filter (has_number n) ls else filter (has_number n) ls) ≡ l ∷ []
    one true is g rest =
        let e : x ≡ l = cc in
        let none : find_line n ls ≡ None = ap (λ m. find_line m ls) (sym (eqb-true x.number n is)) ∙ apart.0 in
        ap (λ r. x ∷ r) (filter_none n ls none) ∙ ap (λ (y : CacheLine). y ∷ []) e
    one false is g rest = rest g

backs_windows : (ls : List CacheLine) (m : Memory) → (fold write_back m ls).windows ≡ m.windows
backs_windows [] m = refl
backs_windows (l ∷ ls) m = backs_windows ls (write_back m l) ∙ write_back_windows m l

backs_length : (ls : List CacheLine) (m : Memory) → length (fold write_back m ls).words ≡ length m.words
backs_length [] m = refl
backs_length (l ∷ ls) m = backs_length ls (write_back m l) ∙ write_back_length m l

pub of_windows : (n : ℕ) (m : Memory) (ls : List CacheLine) → (write_back_of n m ls).windows ≡ m.windows
of_windows n m ls = backs_windows (filter (has_number n) ls) m

pub of_length : (n : ℕ) (m : Memory) (ls : List CacheLine) → length (write_back_of n m ls).words ≡ length m.words
of_length n m ls = backs_length (filter (has_number n) ls) m

module _ (m : Memory) (ls : List CacheLine) (aligned : AllAligned m.windows) (counted : length m.words ≡ word_count m.windows) (apart : Apart ls) (fit : list_all (fits m.windows) ls ≡ true) where
  pub of_word : (n a : ℕ) → a % 8 ≡ 0 → line_of a ≡ n → word_at (write_back_of n m ls) a ≡ settle (word_at m a) (copy_in a ls)
  of_word n a whole same = one (find_line n ls) refl ∙ ap (λ k. settle (word_at m a) (option_map (look a) (find_line k ls))) (sym same)
    where
      one : (o : Option CacheLine) → find_line n ls ≡ o → word_at (write_back_of n m ls) a ≡ settle (word_at m a) (option_map (look a) (find_line n ls))
      one None is = ap (λ bs. word_at (fold write_back m bs) a) (filter_none n ls is) ∙ ap (λ o. settle (word_at m a) (option_map (look a) o)) (sym is)
      one (Some l) is =
          let number = found_number n ls l is in
          ap (λ bs. word_at (fold write_back m bs) a) (filter_some n ls l apart is)
          ∙ write_back_same l a whole (same ∙ sym number) m aligned (and_left _ _ (found_passes (fits m.windows) n ls l fit is)) counted
          ∙ ap (λ o. settle (word_at m a) (option_map (look a) o)) (sym is)

  pub of_other : (n a : ℕ) → line_of a ≢ n → word_at (write_back_of n m ls) a ≡ word_at m a
  of_other n a other = one (find_line n ls) refl
    where
      one : (o : Option CacheLine) → find_line n ls ≡ o → word_at (write_back_of n m ls) a ≡ word_at m a
      one None is = ap (λ bs. word_at (fold write_back m bs) a) (filter_none n ls is)
      one (Some l) is =
          ap (λ bs. word_at (fold write_back m bs) a) (filter_some n ls l apart is)
          ∙ write_back_other l a m aligned (λ e. other (e ∙ found_number n ls l is))
