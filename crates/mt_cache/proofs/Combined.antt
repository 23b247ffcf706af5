-- What combining a word leaves and hands back, where its line has a buffer and where it has none.
use Rattle.std.proofs.Common.{◌≡◌, ℕ, zero, suc, ◌<◌, ◌==◌, List, [], ◌∷◌, ◌++◌, map, get_or, replicate, Some, None, Option, Bool, true, false, refl, sym, ap, ◌∙◌, arith}
use Rattle.std.specs.Prelude.{slice_get, if◌then◌else◌, is_some}
use Rattle.std.specs.Option.{option_map_or, option_map, option_or}
use Rattle.std.proofs.lemmas.Option.{slice_get-get_or}
use Rattle.std.proofs.lemmas.Bool.{eq-eqb}
use Rattle.mt_cache.specs.declared.line.CacheLine.{CacheLine}
use Rattle.mt_cache.specs.Lines.{has_number, find_line, without_line, change_line, write_dirty}
use Rattle.mt_cache.specs.Lines.{oldest_of_full, combined_with}
use Rattle.mt_lists.proofs.Keys.{at_position, position_within, found_key, find_changed, find_pushed, hit}
use Rattle.std.specs.List.{position}
use Rattle.mt_cache.specs.Calls.{clean_line_of, with_room, with_room_for, change_at, write_word, joined, full_buffer, left_by_combine, handed_back}
use Rattle.mt_cache.proofs.Lists.{number_of, absent_in_room}

-- ---- the line has no buffer

abbrev first : ℕ → ℕ → ℕ → ℕ → CacheLine
first n word value era = write_dirty word value (clean_line_of n (replicate 8 0) era)

joined_absent : (n word value era : ℕ) (bs : List CacheLine) → find_line n bs ≡ None → joined n word value era bs ≡ with_room 4 bs ++ first n word value era ∷ []
joined_absent n word value era bs none =
    let room : with_room_for n bs ≡ with_room 4 bs = ap (λ (o : Option CacheLine). if is_some o then bs else with_room 4 bs) none in
    ap (combined_with n word value era) room
    ∙ ap (λ (o : Option CacheLine). if is_some o then change_line n (write_dirty word value) (with_room 4 bs) else with_room 4 bs ++ first n word value era ∷ []) (absent_in_room n 4 bs none)

one_word : (word : ℕ) → word < 8 → (first 0 word 0 0).dirty == 0xff ≡ false
one_word zero within = refl
one_word (suc zero) within = refl
one_word (suc (suc zero)) within = refl
one_word (suc (suc (suc zero))) within = refl
one_word (suc (suc (suc (suc zero)))) within = refl
one_word (suc (suc (suc (suc (suc zero))))) within = refl
one_word (suc (suc (suc (suc (suc (suc zero)))))) within = refl
one_word (suc (suc (suc (suc (suc (suc (suc zero))))))) within = refl
one_word (suc (suc (suc (suc (suc (suc (suc (suc word)))))))) within = absurd (omega arith)

same : (n : ℕ) → (n == n) ≡ true
same n = eq-eqb n n refl

pub absent_out : (n word value era : ℕ) (bs : List CacheLine) → find_line n bs ≡ None → oldest_of_full 4 bs ≡ handed_back n word value era bs
absent_out n word value era bs none =
    sym (ap (λ (o : Option CacheLine). if is_some o then full_buffer n (joined n word value era bs) else oldest_of_full 4 bs) none)

pub absent_left : (n word value era : ℕ) (bs : List CacheLine) → word < 8 → find_line n bs ≡ None → with_room 4 bs ++ write_dirty word value (clean_line_of n (replicate 8 0) era) ∷ [] ≡ left_by_combine n word value era bs
absent_left n word value era bs within none =
    let js : List CacheLine = joined n word value era bs in
    let whole : js ≡ with_room 4 bs ++ first n word value era ∷ [] = joined_absent n word value era bs none in
    let at : find_line n js ≡ Some (first n word value era) =
    ap (find_line n) whole ∙ find_pushed number_of n (with_room 4 bs) (first n word value era)
    ∙ ap (λ (o : Option CacheLine). option_or o (find_line n (first n word value era ∷ []))) (absent_in_room n 4 bs none)
    ∙ hit number_of n (first n word value era) [] (same n) in
    let part : full_buffer n js ≡ None =
    ap (λ (o : Option CacheLine). option_map_or (λ (b : CacheLine). if b.dirty == 0xff then Some b else None) o None) at
    ∙ ap (λ b. if b then Some (first n word value era) else None) (one_word word within) in
    sym whole ∙ sym (ap (λ (o : Option CacheLine). if is_some o then without_line n js else js) part)

-- ---- the line has a buffer

map_get : (g : CacheLine → CacheLine) (ls : List CacheLine) (i : ℕ) → slice_get (map g ls) i ≡ option_map g (slice_get ls i)
map_get g [] i = refl
map_get g (l ∷ ls) zero = refl
map_get g (l ∷ ls) (suc i) = map_get g ls i

-- the buffers after the word is written, and the written buffer among them
record Written (n word value era i : ℕ) (bs now : List CacheLine) (d : CacheLine) : Type 0 where
  pub there : is_some (find_line n bs) ≡ true
  pub whole : now ≡ joined n word value era bs
  pub found : find_line n (joined n word value era bs) ≡ Some (get_or now i d)
  pub placed : slice_get now i ≡ Some (get_or now i d)

written : (n word value era i : ℕ) (bs now : List CacheLine) (d : CacheLine) → position (has_number n) bs ≡ Some i → now ≡ change_at i (write_word word value true) bs → Written n word value era i bs now d
written n word value era i bs now d place is =
    record { there = there; whole = whole; found = found; placed = placed }
  where
    l : CacheLine
    l = get_or bs i d

    f : CacheLine → CacheLine
    f = write_dirty word value

    at : slice_get bs i ≡ Some l
    at = slice_get-get_or bs i d (position_within (has_number n) bs i place)

    line : find_line n bs ≡ Some l
    line = sym (at_position (has_number n) bs i place) ∙ at

    number : l.number ≡ n
    number = found_key number_of n bs l line

    there : is_some (find_line n bs) ≡ true
    there = ap (λ (o : Option CacheLine). is_some o) line

    changed_now : now ≡ change_line n f bs
    changed_now = is ∙ ap (λ (o : Option CacheLine). option_map_or (λ (x : CacheLine). change_line x.number f bs) o bs) at ∙ ap (λ m. change_line m f bs) number

    joined_now : joined n word value era bs ≡ change_line n f bs
    joined_now =
        ap (combined_with n word value era) (ap (λ b. if b then bs else with_room 4 bs) there)
        ∙ ap (λ b. if b then change_line n f bs else bs ++ first n word value era ∷ []) there

    whole : now ≡ joined n word value era bs
    whole = changed_now ∙ sym joined_now

    there_after : find_line n (change_line n f bs) ≡ Some (f l)
    there_after = find_changed number_of n f (λ x. refl) bs ∙ ap (option_map f) line

    placed_after : slice_get now i ≡ Some (f l)
    placed_after =
        ap (λ (ls : List CacheLine). slice_get ls i) changed_now
        ∙ map_get (λ (x : CacheLine). if has_number n x then f x else x) bs i
        ∙ ap (option_map (λ (x : CacheLine). if has_number n x then f x else x)) at
        ∙ ap (λ b. Some (if b then f l else l)) (eq-eqb l.number n number)

    read : (ls : List CacheLine) (j : ℕ) (x : CacheLine) → slice_get ls j ≡ Some x → get_or ls j d ≡ x
    read [] j x h = absurd (cc)
    read (y ∷ ls) zero x h = cc
    read (y ∷ ls) (suc j) x h = read ls j x h

    is_read : get_or now i d ≡ f l
    is_read = read now i (f l) placed_after

    found : find_line n (joined n word value era bs) ≡ Some (get_or now i d)
    found = ap (find_line n) joined_now ∙ there_after ∙ ap (λ (x : CacheLine). Some x) (sym is_read)

    placed : slice_get now i ≡ Some (get_or now i d)
    placed = placed_after ∙ ap (λ (x : CacheLine). Some x) (sym is_read)

full_is : (n word value era i : ℕ) (bs now shown : List CacheLine) (d : CacheLine) (b : Bool) → Written n word value era i bs now d → shown ≡ now → ((get_or shown i d).dirty == 0xff) ≡ b → full_buffer n (joined n word value era bs) ≡ (if b then Some (get_or now i d) else None)
full_is n word value era i bs now shown d b w same_lines is =
    ap (λ (o : Option CacheLine). option_map_or (λ (x : CacheLine). if x.dirty == 0xff then Some x else None) o None) w.found
    ∙ ap (λ c. if c then Some (get_or now i d) else None) (ap (λ (ls : List CacheLine). (get_or ls i d).dirty == 0xff) (sym same_lines) ∙ is)

handed_is : (n word value era i : ℕ) (bs now : List CacheLine) (d : CacheLine) → Written n word value era i bs now d → handed_back n word value era bs ≡ full_buffer n (joined n word value era bs)
handed_is n word value era i bs now d w = ap (λ b. if b then full_buffer n (joined n word value era bs) else oldest_of_full 4 bs) w.there

-- now holds the buffers after the write, and shown is what the code reads of them
pub full_out : (n word value era i : ℕ) (bs now shown : List CacheLine) (d r : CacheLine) → position (has_number n) bs ≡ Some i → now ≡ change_at i (write_word word value true) bs → shown ≡ now → ((get_or shown i d).dirty == 0xff) ≡ true → slice_get now i ≡ Some r → Some r ≡ handed_back n word value era bs
full_out n word value era i bs now shown d r place is same test at =
    let w : Written n word value era i bs now d = written n word value era i bs now d place is in
    sym at ∙ w.placed ∙ sym (full_is n word value era i bs now shown d true w same test) ∙ sym (handed_is n word value era i bs now d w)

pub full_left : (n word value era i : ℕ) (bs now shown : List CacheLine) (d r : CacheLine) → position (has_number n) bs ≡ Some i → now ≡ change_at i (write_word word value true) bs → shown ≡ now → ((get_or shown i d).dirty == 0xff) ≡ true → slice_get now i ≡ Some r → without_line r.number now ≡ left_by_combine n word value era bs
full_left n word value era i bs now shown d r place is same test at =
    let w : Written n word value era i bs now d = written n word value era i bs now d place is in
    let found : find_line n (joined n word value era bs) ≡ Some r = w.found ∙ sym w.placed ∙ at in
    ap (λ m. without_line m now) (found_key number_of n (joined n word value era bs) r found)
    ∙ ap (without_line n) w.whole
    ∙ sym (ap (λ (o : Option CacheLine). if is_some o then without_line n (joined n word value era bs) else joined n word value era bs) (full_is n word value era i bs now shown d true w same test))

pub part_out : (n word value era i : ℕ) (bs now shown : List CacheLine) (d : CacheLine) → position (has_number n) bs ≡ Some i → now ≡ change_at i (write_word word value true) bs → shown ≡ now → ((get_or shown i d).dirty == 0xff) ≡ false → None ≡ handed_back n word value era bs
part_out n word value era i bs now shown d place is same test =
    let w : Written n word value era i bs now d = written n word value era i bs now d place is in
    sym (full_is n word value era i bs now shown d false w same test) ∙ sym (handed_is n word value era i bs now d w)

pub part_left : (n word value era i : ℕ) (bs now shown : List CacheLine) (d : CacheLine) → position (has_number n) bs ≡ Some i → now ≡ change_at i (write_word word value true) bs → shown ≡ now → ((get_or shown i d).dirty == 0xff) ≡ false → now ≡ left_by_combine n word value era bs
part_left n word value era i bs now shown d place is same test =
    let w : Written n word value era i bs now d = written n word value era i bs now d place is in
    w.whole
    ∙ sym (ap (λ (o : Option CacheLine). if is_some o then without_line n (joined n word value era bs) else joined n word value era bs) (full_is n word value era i bs now shown d false w same test))
