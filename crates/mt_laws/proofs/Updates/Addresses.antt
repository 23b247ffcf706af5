-- Memory's words in a row are the words at its addresses.
use Rattle.std.proofs.Common.{◌≡◌, ℕ, zero, suc, ◌+◌, ◌-◌, ◌*◌, ◌/◌, ◌%◌, ◌<◌, ◌≤◌, List, [], ◌∷◌, ◌++◌, length, get_or, Some, None, Option, Bool, true, false, refl, sym, ap, ◌∙◌, arith, ⊎_elim, eq-eqb}
use Rattle.std.specs.Prelude.{if◌then◌else◌, nat_lt, nat_le, ◌&&◌, map, is_some}
use Rattle.std.specs.List.{AllPairs}
use Rattle.std.specs.Option.{option_map_or}
use Rattle.std.proofs.lemmas.Bool.{ltb-true, ltb-false, leb-true, lt-ltb, le-leb, le-ltb}
use Rattle.std.proofs.lemmas.List.{ext_get_or, length-append, length-map, get_or-map, get_or_append_left, get_or-append_right}
use Rattle.mt_machine.specs.Memory.{Memory, Window, AreApart, IsMemory, word_count, place_in, place, word_at, line_of}
use Rattle.mt_machine.specs.Update.{addresses_from, addresses}
use Rattle.mt_laws.proofs.Words.MemoryLaws.{AllAligned, place_apart}
use Rattle.mt_laws.proofs.Words.LineLaws.{word_placed}
use Rattle.mt_laws.proofs.Words.AccessLaws.{line_placed}
use Rattle.mt_laws.proofs.Words.Sound.{aligned_all}

length_from : (base n : ℕ) → length (addresses_from base n) ≡ n
length_from base zero = refl
length_from base (suc n) = ap suc (length_from (base + 8) n)

get_from : (base n i d : ℕ) → i < n → get_or (addresses_from base n) i d ≡ base + 8 * i
get_from base zero i d within = absurd (omega arith)
get_from base (suc n) zero d within = omega arith
get_from base (suc n) (suc i) d within = let r = get_from (base + 8) n i d (omega arith) in omega arith

pub length_addresses : (ws : List Window) → length (addresses ws) ≡ word_count ws
length_addresses [] = refl
length_addresses (w ∷ ws) =
    let a = length-append (addresses_from w.base (8 * w.lines)) (addresses ws) in
    let b = length_from w.base (8 * w.lines) in
    let c = length_addresses ws in
    omega arith

abbrev inside : Window → ℕ → Bool
inside w a = nat_le w.base a && nat_lt a (w.base + 64 * w.lines)

inside_own : (w : Window) (i : ℕ) → i < 8 * w.lines → inside w (w.base + 8 * i) ≡ true
inside_own w i within =
    ap (λ b. b && nat_lt (w.base + 8 * i) (w.base + 64 * w.lines)) (le-leb w.base (w.base + 8 * i) (omega arith))
    ∙ lt-ltb (w.base + 8 * i) (w.base + 64 * w.lines) (omega arith)

abbrev NoneShared : Window → List Window → Type 0
NoneShared v [] = Unit {0}
NoneShared v (w ∷ ws) = AreApart v w × NoneShared v ws

abbrev Separate : List Window → Type 0
Separate [] = Unit {0}
Separate (w ∷ ws) = NoneShared w ws × Separate ws

separate_of : (ws : List Window) → AllPairs AreApart ws → Separate ws
separate_of [] h = tt
separate_of (w ∷ ws) h = (none_of ws (λ j d within. h 0 (suc j) d (omega arith) (omega arith)), separate_of ws (λ i j d low within. h (suc i) (suc j) d (omega arith) (omega arith)))
  where
    none_of : (vs : List Window) → ((j : ℕ) (d : Window) → j < length vs → AreApart w (get_or vs j d)) → NoneShared w vs
    none_of [] h = tt
    none_of (v ∷ vs) h = (h 0 v (omega arith), none_of vs (λ j d within. h (suc j) d (omega arith)))

outside : (v w : Window) (i : ℕ) → AreApart v w → i < 8 * w.lines → inside v (w.base + 8 * i) ≡ false
outside v w i apart within =
    ⊎_elim
    (λ (h : v.base + 64 * v.lines ≤ w.base). and_off (nat_le v.base (w.base + 8 * i)) _ (le-ltb (w.base + 8 * i) (v.base + 64 * v.lines) (omega arith)))
    (λ (h : w.base + 64 * w.lines ≤ v.base). ap (λ b. b && nat_lt (w.base + 8 * i) (v.base + 64 * v.lines)) (below (w.base + 8 * i) v.base (omega arith)))
    apart
  where
    and_off : (a b : Bool) → b ≡ false → (a && b) ≡ false
    and_off true b h = h
    and_off false b h = refl

    below : (a b : ℕ) → a < b → nat_le b a ≡ false
    below a b h = one (nat_le b a) refl
      where
        one : (c : Bool) → nat_le b a ≡ c → nat_le b a ≡ false
        one true is = absurd (let le = leb-true b a is in omega arith)
        one false is = is

none_inside : (v : Window) (ws : List Window) (i : ℕ) → NoneShared v ws → i < word_count ws → inside v (get_or (addresses ws) i 0) ≡ false
none_inside v [] i h within = absurd (omega arith)
none_inside v (w ∷ ws) i h within = one (nat_lt i (8 * w.lines)) refl (λ g. none_inside v ws (i - 8 * w.lines) h.1 g)
  where
    one : (b : Bool) → nat_lt i (8 * w.lines) ≡ b → (i - 8 * w.lines < word_count ws → inside v (get_or (addresses ws) (i - 8 * w.lines) 0) ≡ false) → inside v (get_or (addresses_from w.base (8 * w.lines) ++ addresses ws) i 0) ≡ false
    one true is rest =
        let low = ltb-true i (8 * w.lines) is in
        let len = length_from w.base (8 * w.lines) in
        ap (inside v) (get_or_append_left (addresses_from w.base (8 * w.lines)) (addresses ws) 0 i (omega arith) ∙ get_from w.base (8 * w.lines) i 0 low) ∙ outside v w i h.0 low
    one false is rest =
        let high = ltb-false i (8 * w.lines) is in
        ap (inside v) (get_or-append_right (addresses_from w.base (8 * w.lines)) (addresses ws) (8 * w.lines) i 0 (length_from w.base (8 * w.lines)) high) ∙ rest (omega arith)

-- the address of a place has that place
place_of_address : (ws : List Window) (before i : ℕ) → Separate ws → i < word_count ws → place_in ws before (get_or (addresses ws) i 0) ≡ Some (before + i)
place_of_address [] before i h within = absurd (omega arith)
place_of_address (w ∷ ws) before i h within = one (nat_lt i (8 * w.lines)) refl (λ g. place_of_address ws (before + 8 * w.lines) (i - 8 * w.lines) h.1 g)
  where
    one : (b : Bool) → nat_lt i (8 * w.lines) ≡ b → (i - 8 * w.lines < word_count ws → place_in ws (before + 8 * w.lines) (get_or (addresses ws) (i - 8 * w.lines) 0) ≡ Some (before + 8 * w.lines + (i - 8 * w.lines)))
        → place_in (w ∷ ws) before (get_or (addresses_from w.base (8 * w.lines) ++ addresses ws) i 0) ≡ Some (before + i)
    one true is rest =
        let low = ltb-true i (8 * w.lines) is in
        let len = length_from w.base (8 * w.lines) in
        let same : before + (w.base + 8 * i - w.base) / 8 ≡ before + i = omega arith in
        ap (place_in (w ∷ ws) before) (get_or_append_left (addresses_from w.base (8 * w.lines)) (addresses ws) 0 i (omega arith) ∙ get_from w.base (8 * w.lines) i 0 low)
        ∙ ap (λ b. if b then Some (before + (w.base + 8 * i - w.base) / 8) else place_in ws (before + 8 * w.lines) (w.base + 8 * i)) (inside_own w i low)
        ∙ ap (λ (n : ℕ). Some n) same
    one false is rest =
        let high = ltb-false i (8 * w.lines) is in
        let low : i - 8 * w.lines < word_count ws = omega arith in
        let a : ℕ = get_or (addresses ws) (i - 8 * w.lines) 0 in
        let sum : before + 8 * w.lines + (i - 8 * w.lines) ≡ before + i = omega arith in
        ap (place_in (w ∷ ws) before) (get_or-append_right (addresses_from w.base (8 * w.lines)) (addresses ws) (8 * w.lines) i 0 (length_from w.base (8 * w.lines)) high)
        ∙ ap (λ b. if b then Some (before + (a - w.base) / 8) else place_in ws (before + 8 * w.lines) a) (none_inside w ws (i - 8 * w.lines) h.0 low)
        ∙ rest low
        ∙ ap (λ (n : ℕ). Some n) sum

pub address_aligned : (ws : List Window) (i : ℕ) → AllAligned ws → i < word_count ws → get_or (addresses ws) i 0 % 8 ≡ 0
address_aligned [] i h within = absurd (omega arith)
address_aligned (w ∷ ws) i h within = one (nat_lt i (8 * w.lines)) refl (λ g. address_aligned ws (i - 8 * w.lines) h.1 g)
  where
    one : (b : Bool) → nat_lt i (8 * w.lines) ≡ b → (i - 8 * w.lines < word_count ws → get_or (addresses ws) (i - 8 * w.lines) 0 % 8 ≡ 0) → get_or (addresses_from w.base (8 * w.lines) ++ addresses ws) i 0 % 8 ≡ 0
    one true is rest =
        let low = ltb-true i (8 * w.lines) is in
        let len = length_from w.base (8 * w.lines) in
        let al = h.0 in
        let e = get_or_append_left (addresses_from w.base (8 * w.lines)) (addresses ws) 0 i (omega arith) ∙ get_from w.base (8 * w.lines) i 0 low in
        omega arith
    one false is rest =
        let high = ltb-false i (8 * w.lines) is in
        let e = get_or-append_right (addresses_from w.base (8 * w.lines)) (addresses ws) (8 * w.lines) i 0 (length_from w.base (8 * w.lines)) high in
        ap (λ (a : ℕ). a % 8) e ∙ rest (omega arith)

-- memory's words are f at each address, where f is the word at each
pub words_are : (m : Memory) (f : ℕ → ℕ) → IsMemory m → ((a : ℕ) → a % 8 ≡ 0 → word_at m a ≡ f a) → m.words ≡ map f (addresses m.windows)
words_are m f h same =
    ext_get_or 0 m.words (map f (addresses m.windows)) (h.counted ∙ sym (length-map (addresses m.windows) f ∙ length_addresses m.windows))
    (λ i within.
    let low : i < word_count m.windows = let c = h.counted in omega arith in
    let a : ℕ = get_or (addresses m.windows) i 0 in
    let zero_sum : 0 + i ≡ i = omega arith in
    let whole : a % 8 ≡ 0 = address_aligned m.windows i (aligned_all m.windows h.aligned) low in
    let at : place m a ≡ Some i = ap (λ b. if b then place_in m.windows 0 a else None) (eq-eqb (a % 8) 0 whole) ∙ place_of_address m.windows 0 i (separate_of m.windows h.apart) low ∙ ap (λ (n : ℕ). Some n) zero_sum in
    let len = length_addresses m.windows in
    ap (λ (o : Option ℕ). option_map_or (λ j. get_or m.words j 0) o 0) (sym at)
    ∙ same a whole
    ∙ sym (get_or-map f (addresses m.windows) i 0 0 (omega arith)))

-- where memory's words are f at each address, the word at each is f
pub word_of_words : (m : Memory) (f : ℕ → ℕ) → IsMemory m → (a i : ℕ) → a % 8 ≡ 0 → place m a ≡ Some i → word_at (record { windows = m.windows; words = map f (addresses m.windows) }) a ≡ f a
word_of_words m f h a i whole at =
    let aligned = aligned_all m.windows h.aligned in
    let line = line_placed m.windows m a aligned (record { windows = refl; counted = h.counted }) (ap is_some at) in
    let found = word_placed m (line_of a) a aligned line.0 whole refl in
    let same : Some i ≡ Some found.0 = sym at ∙ found.1 in
    let low : i < word_count m.windows = let e : i ≡ found.0 = cc in let b = found.2 in omega arith in
    let b : ℕ = get_or (addresses m.windows) i 0 in
    let zero_sum : 0 + i ≡ i = omega arith in
    let inside : place_in m.windows 0 a ≡ Some i = sym (ap (λ c. if c then place_in m.windows 0 a else None) (eq-eqb (a % 8) 0 whole)) ∙ at in
    let there : place_in m.windows 0 (get_or (addresses m.windows) i 0) ≡ Some i = place_of_address m.windows 0 i (separate_of m.windows h.apart) low ∙ ap (λ (n : ℕ). Some n) zero_sum in
    let e : get_or (addresses m.windows) i 0 ≡ a = place_apart m.windows 0 b a i aligned (address_aligned m.windows i aligned low) whole there inside in
    let len = length_addresses m.windows in
    ap (λ (o : Option ℕ). option_map_or (λ j. get_or (map f (addresses m.windows)) j 0) o 0) at
    ∙ get_or-map f (addresses m.windows) i 0 0 (omega arith)
    ∙ ap f e
