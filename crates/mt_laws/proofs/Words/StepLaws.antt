-- The update's own steps keep each word's copies in agreement; none but Take changes a word's value.
use Rattle.std.proofs.Common.{◌≡◌, ◌≢◌, ℕ, zero, suc, ◌/◌, ◌%◌, ◌<◌, ◌==◌, List, [], ◌∷◌, set, Some, None, Option, Bool, true, false, refl, sym, ap, subst, ◌∙◌, arith, eq-eqb}
use Rattle.std.specs.Prelude.{slice_get, slice_index, if◌then◌else◌, ◌&&◌, not, is_some, nat_lt}
use Rattle.std.specs.List.{list_all, find}
use Rattle.std.specs.Option.{option_map_or, option_map}
use Rattle.std.proofs.lemmas.Bool.{eqb-true, eqb-false, ltb-true}
use Rattle.mt_cache.specs.declared.line.CacheLine.{CacheLine}
use Rattle.mt_machine.specs.declared.phase.Phase.{Phase}
use Rattle.mt_machine.specs.declared.phase.Phase.TheVariants.{NoFill, Enabled, Flushed2}
use Rattle.mt_machine.specs.declared.event.Event.{Event}
use Rattle.mt_machine.specs.declared.event.Event.TheVariants.{Take, WriteBack, DropLines, FlushTlb}
use Rattle.mt_machine.specs.Memory.{Window, word_count, word_at, put_word, word_address, line_of, word_of}
use Rattle.mt_cache.specs.Lines.{eight, is_dirty, find_line, change_line, clean_word, first_dirty_word, first_dirty_line}
use Rattle.mt_machine.specs.System.{Processor, System}
use Rattle.mt_machine.specs.Bus.{drain}
use Rattle.mt_machine.specs.Control.{reload_cr3}
use Rattle.mt_machine.specs.Machine.{Order, due, own_step, before_own, step, flush_tlb, write_back_event, write_back_or_drop}
use Rattle.mt_regs.specs.RegisterFile.{RegisterFile}
use Rattle.mt_machine.proofs.Rows.{due_row, first_flush_case, is_row}
use Rattle.mt_laws.proofs.Barrier.Ranks.{and_left, and_right}
use Rattle.mt_laws.proofs.Clearing.Renewed.{is_take}
use Rattle.mt_laws.proofs.Words.MemoryLaws.{AllAligned, put_other}
use Rattle.mt_laws.proofs.Words.BitLaws.{clear_same, clear_other, clear_below}
use Rattle.mt_laws.proofs.Words.Copies.{Copy, settle, cleaned, IsShared, shared_at, shared_set, loses, cleans}
use Rattle.mt_laws.proofs.Words.LineLaws.{fits, is_placed, look, put_windows, put_length, put_same, word_placed}
use Rattle.mt_laws.proofs.Words.LineLists.{copy_in, Apart, find_hit, found_passes, find_change_same, copy_change_other, copy_change_same}
use Rattle.mt_laws.proofs.Words.BusLaws.{Stands, copies, Stays, Word, After, LeavesWord, leaves_word, leaves_then, leaves_change, after_word, after_then, fits_placed, fits_eight, fits_bits, fits_of, fit_at, fits_changed, stands_change, copies_set, copies_at, writes_set, writes_at, stands_drain, drain_word}
use Rattle.mt_laws.proofs.Words.AccessLaws.{change_at, word_small, same_word}
use Rattle.mt_laws.proofs.Words.WordLaws.{quiet_stands, quiet_word}

-- ---- what a search finds

pub find_passes : {X : Type 0} → (test : X → Bool) (xs : List X) (x : X) → find test xs ≡ Some x → test x ≡ true
find_passes test [] x h = absurd (cc)
find_passes test (y ∷ xs) x h = one (test y) refl (λ g. find_passes test xs x g) h
  where
    one : (b : Bool) → test y ≡ b → (find test xs ≡ Some x → test x ≡ true) → (if b then Some y else find test xs) ≡ Some x → test x ≡ true
    one true is rest g = let e : y ≡ x = cc in ap test (sym e) ∙ is
    one false is rest g = rest g

pub find_within : {X : Type 0} → (test within : X → Bool) (xs : List X) (x : X) → list_all within xs ≡ true → find test xs ≡ Some x → within x ≡ true
find_within test within [] x all h = absurd (cc)
find_within test within (y ∷ xs) x all h = one (test y) (λ g. find_within test within xs x (and_right (within y) _ all) g) h
  where
    one : (b : Bool) → (find test xs ≡ Some x → within x ≡ true) → (if b then Some y else find test xs) ≡ Some x → within x ≡ true
    one true rest g = let e : y ≡ x = cc in ap within (sym e) ∙ and_left _ _ all
    one false rest g = rest g

pub find_none : {X : Type 0} → (test : X → Bool) (xs : List X) → find test xs ≡ None → list_all (λ x. not (test x)) xs ≡ true
find_none test [] h = refl
find_none test (y ∷ xs) h = one (test y) h (λ g. find_none test xs g)
  where
    one : (b : Bool) → (if b then Some y else find test xs) ≡ None → (find test xs ≡ None → list_all (λ x. not (test x)) xs ≡ true) → (not b && list_all (λ x. not (test x)) xs) ≡ true
    one true g rest = absurd (cc)
    one false g rest = rest g

pub eight_pass : (test : ℕ → Bool) → list_all test eight ≡ true → (w : ℕ) → w < 8 → test w ≡ true
eight_pass test h zero low = and_left _ _ h
eight_pass test h (suc zero) low = and_left _ _ (and_right (test 0) _ h)
eight_pass test h (suc (suc zero)) low = and_left _ _ (and_right (test 1) _ (and_right (test 0) _ h))
eight_pass test h (suc (suc (suc zero))) low = and_left _ _ (and_right (test 2) _ (and_right (test 1) _ (and_right (test 0) _ h)))
eight_pass test h (suc (suc (suc (suc zero)))) low = and_left _ _ (and_right (test 3) _ (and_right (test 2) _ (and_right (test 1) _ (and_right (test 0) _ h))))
eight_pass test h (suc (suc (suc (suc (suc zero))))) low = and_left _ _ (and_right (test 4) _ (and_right (test 3) _ (and_right (test 2) _ (and_right (test 1) _ (and_right (test 0) _ h)))))
eight_pass test h (suc (suc (suc (suc (suc (suc zero)))))) low = and_left _ _ (and_right (test 5) _ (and_right (test 4) _ (and_right (test 3) _ (and_right (test 2) _ (and_right (test 1) _ (and_right (test 0) _ h))))))
eight_pass test h (suc (suc (suc (suc (suc (suc (suc zero))))))) low = and_left _ _ (and_right (test 6) _ (and_right (test 5) _ (and_right (test 4) _ (and_right (test 3) _ (and_right (test 2) _ (and_right (test 1) _ (and_right (test 0) _ h)))))))
eight_pass test h (suc (suc (suc (suc (suc (suc (suc (suc w)))))))) low = absurd (omega arith)

not_true : (b : Bool) → not b ≡ true → b ≡ false
not_true true h = absurd (cc)
not_true false h = refl

pub no_dirty_word : (l : CacheLine) → first_dirty_word l ≡ None → (w : ℕ) → w < 8 → is_dirty l w ≡ false
no_dirty_word l none w low = not_true (is_dirty l w) (eight_pass (λ i. not (is_dirty l i)) (find_none (is_dirty l) eight none) w low)

-- a line of a list in which no two have one number is the one that its number finds
pub found_itself : (test : CacheLine → Bool) (ls : List CacheLine) (l : CacheLine) → Apart ls → find test ls ≡ Some l → find_line l.number ls ≡ Some l
found_itself test [] l apart h = absurd (cc)
found_itself test (x ∷ ls) l apart h = one (test x) h (λ g. found_itself test ls l apart.1 g)
  where
    one : (b : Bool) → (if b then Some x else find test ls) ≡ Some l → (find test ls ≡ Some l → find_line l.number ls ≡ Some l) → find_line l.number (x ∷ ls) ≡ Some l
    one true g rest = let e : x ≡ l = cc in ap (λ (y : CacheLine). find_line y.number (x ∷ ls)) (sym e) ∙ find_hit x.number x ls (eq-eqb x.number x.number refl) ∙ g
    one false g rest = two (x.number == l.number) refl
      where
        two : (c : Bool) → (x.number == l.number) ≡ c → (if c then Some x else find_line l.number ls) ≡ Some l
        two true is =
            let r = rest g in
            let n : find_line l.number ls ≡ None = ap (λ i. find_line i ls) (sym (eqb-true x.number l.number is)) ∙ apart.0 in
            absurd (cc)
        two false is = rest g

-- ---- which events empty the cache

unfoldable pub is_drain : Event → Bool
is_drain (WriteBack a v) = true
is_drain DropLines = true
is_drain other = false

pub due_drains : (o : Order) (ps : List Processor) (p : Processor) (ph : Phase) (e : Event) → due o ps p ph ≡ Some e → is_drain e ≡ true → write_back_or_drop p ≡ e
unfolding is_drain
due_drains o ps p ph e h is = one ph h (row e is (due_row o ps p ph e h))
  where
    row : (e : Event) → is_drain e ≡ true → is_row e ph ≡ true → is_row DropLines ph ≡ true
    row (WriteBack a v) is on = on
    row DropLines is on = on
    row other is on = absurd (cc)

    one : (ph : Phase) → due o ps p ph ≡ Some e → is_row DropLines ph ≡ true → write_back_or_drop p ≡ e
    one NoFill g on = first_flush_case p e g (λ snoops flush. absurd (let q : is_drain e ≡ false = ap is_drain (sym flush) in cc)) (λ flushes g. cc)
    one Enabled g on = cc
    one other g on = absurd (cc)

-- no word of these lines is dirty
abbrev pub NoDirty : List CacheLine → Type 0
NoDirty ls = list_all (λ l. not (is_some (first_dirty_word l))) ls ≡ true

-- the first dirty word of a processor's lines
pub record FirstDirty (p : Processor) (address value : ℕ) : Type 0 where
  pub line : CacheLine
  pub word : ℕ
  pub found : find_line line.number p.lines ≡ Some line
  pub dirty : is_dirty line word ≡ true
  pub within : word < 8
  pub address_is : word_address line.number word ≡ address
  pub value_is : slice_index line.words word ≡ value

some_not_none : {X : Type 0} → (o : Option X) → is_some o ≡ true → o ≡ None → ⊥
some_not_none None h e = absurd (cc)
some_not_none (Some x) h e = absurd (cc)

event_drains : Event → Processor → Type 0
event_drains (WriteBack address value) p = FirstDirty p address value
event_drains DropLines p = NoDirty p.lines
event_drains other p = Unit {0}

drains_as : (p : Processor) → Apart p.lines → event_drains (write_back_or_drop p) p
unfolding event_drains
drains_as p apart = one (first_dirty_line p.lines) refl
  where
    two : (l : CacheLine) → first_dirty_line p.lines ≡ Some l → (w : Option ℕ) → first_dirty_word l ≡ w → event_drains (option_map_or (λ i. WriteBack (word_address l.number i) (slice_index l.words i)) w DropLines) p
    two l is None at = absurd (some_not_none (first_dirty_word l) (find_passes (λ x. is_some (first_dirty_word x)) p.lines l is) at)
    two l is (Some w) at = record {
      line = l;
      word = w;
      found = found_itself (λ x. is_some (first_dirty_word x)) p.lines l apart is;
      dirty = find_passes (is_dirty l) eight w at;
      within = ltb-true w 8 (find_within (is_dirty l) (λ i. nat_lt i 8) eight w refl at);
      address_is = refl;
      value_is = refl;
    }

    one : (o : Option CacheLine) → first_dirty_line p.lines ≡ o → event_drains (option_map_or write_back_event o DropLines) p
    one None is = find_none (λ x. is_some (first_dirty_word x)) p.lines is
    one (Some l) is = two l is (first_dirty_word l) refl

pub back_drains : (p : Processor) (address value : ℕ) → Apart p.lines → write_back_or_drop p ≡ WriteBack address value → FirstDirty p address value
unfolding event_drains
back_drains p address value apart is = subst (λ (e : Event). event_drains e p) is (drains_as p apart)

pub drop_drains : (p : Processor) → Apart p.lines → write_back_or_drop p ≡ DropLines → NoDirty p.lines
unfolding event_drains
drop_drains p apart is = subst (λ (e : Event). event_drains e p) is (drains_as p apart)

clean_copy : (a : ℕ) (ls : List CacheLine) → NoDirty ls → (y : ℕ) → copy_in a ls ≡ Some (y, true) → ⊥
clean_copy a ls none y h = one (find_line (line_of a) ls) refl h
  where
    one : (o : Option CacheLine) → find_line (line_of a) ls ≡ o → option_map (look a) o ≡ Some (y, true) → ⊥
    one None is g = absurd (cc)
    one (Some l) is g =
        let none_of : first_dirty_word l ≡ None = two (first_dirty_word l) (found_passes (λ x. not (is_some (first_dirty_word x))) (line_of a) ls l none is) in
        let off : is_dirty l (word_of a) ≡ false = no_dirty_word l none_of (word_of a) (word_small a) in
        let same : Some (look a l) ≡ Some (y, true) = g in
        let on : is_dirty l (word_of a) ≡ true = ap (λ (c : Copy). option_map_or (λ (v : ℕ × Bool). v.1) c false) same in
        absurd (cc)
      where
        two : (o : Option ℕ) → not (is_some o) ≡ true → o ≡ None
        two None h = refl
        two (Some w) h = absurd (cc)

settle_clean : (v : ℕ) (c : Copy) → ((y : ℕ) → c ≡ Some (y, true) → ⊥) → settle v c ≡ v
settle_clean v None h = refl
settle_clean v (Some (y, true)) h = absurd (h y refl)
settle_clean v (Some (y, false)) h = refl

stays_cleans : (may : Bool) (v x : ℕ) (cs : List Copy) (k : ℕ) (c : Copy) → slice_get cs k ≡ Some c → Stays may v cs x → Stays may (settle v c) (set cs k (cleaned c)) x
stays_cleans true v x cs k c at h = cleans v x cs k c at h
stays_cleans false v x cs k c at h =
    let w = shared_at v cs k c h.1 at in
    (w.0 ∙ h.0, subst (λ (y : ℕ). IsShared y (set cs k (cleaned c))) (sym w.0) (shared_set v cs k (cleaned c) (one c h.1 at) h.1))
  where
    one : (c : Copy) → IsShared v cs → slice_get cs k ≡ Some c → IsShared v (cleaned c ∷ [])
    one None g is = tt
    one (Some (y, d)) g is = (same_value cs k g is, tt)
      where
        same_value : (cs : List Copy) (k : ℕ) → IsShared v cs → slice_get cs k ≡ Some (Some (y, d)) → y ≡ v
        same_value [] k g is = absurd (cc)
        same_value (None ∷ cs) zero g is = absurd (cc)
        same_value (None ∷ cs) (suc k) g is = same_value cs k g is
        same_value (Some (z, true) ∷ cs) k g is = absurd g
        same_value (Some (z, false) ∷ cs) zero g is = let e : z ≡ y = ap (λ (o : Option Copy). option_map_or (λ (c : Copy). option_map_or (λ (u : ℕ × Bool). u.0) c 0) o 0) is in sym e ∙ g.0
        same_value (Some (z, false) ∷ cs) (suc k) g is = same_value cs k g.1 is

stays_loses : (may : Bool) (v x : ℕ) (cs : List Copy) (k : ℕ) (c : Copy) → slice_get cs k ≡ Some c → Stays may v cs x → Stays may (settle v c) (set cs k None) x
stays_loses true v x cs k c at h = loses v x cs k c at h
stays_loses false v x cs k c at h =
    let w = (shared_at v cs k c h.1 at).0 in
    (w ∙ h.0, subst (λ (y : ℕ). IsShared y (set cs k None)) (sym w) (shared_set v cs k None tt h.1))

fits_cleared : (ws : List Window) (w : ℕ) → (l : CacheLine) → fits ws l ≡ true → fits ws (clean_word w l) ≡ true
fits_cleared ws w l h = fits_of ws (clean_word w l) (fits_placed ws l h) (fits_eight ws l h) (clear_below l.dirty w (fits_bits ws l h))

module _ (ws : List Window) (aligned : AllAligned ws) (goal : RegisterFile) (k : ℕ) (s : System) (p : Processor) (at : slice_get s.processors k ≡ Some p) (st : Stands ws s) where
  -- ---- the first dirty word goes to memory

  module _ (address value : ℕ) (first : FirstDirty p address value) where
    abbrev backed : Processor → Processor
    backed q = own_step goal (WriteBack address value) q

    number : address / 64 ≡ first.line.number
    number = let e = first.address_is in let b = first.within in omega arith

    word : word_of address ≡ first.word
    word = let e = first.address_is in let b = first.within in omega arith

    whole' : address % 8 ≡ 0
    whole' = let e = first.address_is in omega arith

    line_fits : fits ws first.line ≡ true
    line_fits = found_passes (fits ws) first.line.number p.lines first.line (fit_at ws s.processors k p st.fit at).lines_fit first.found

    back_stands : Stands ws (step goal (WriteBack address value) k s)
    back_stands =
        stands_change ws backed k (before_own (WriteBack address value) k s)
        (λ q at_q h.
        let f = fits_changed ws (address / 64) (clean_word (word_of address)) (λ l. refl) (fits_cleared ws (word_of address)) q h in
        f)
        (record { memory = record { windows = put_windows s.memory address value ∙ st.memory.windows; counted = put_length s.memory address value ∙ st.memory.counted }; fit = st.fit })

    back_other : (a : ℕ) → a % 8 ≡ 0 → a ≢ address → LeavesWord a s (step goal (WriteBack address value) k s)
    back_other a whole other =
        leaves_then a s (before_own (WriteBack address value) k s) _
        (record { word = put_other s.memory address a value (subst AllAligned (sym st.memory.windows) aligned) (λ e. other (sym e)); same = refl; writes = λ h. h })
        (leaves_change a backed k (before_own (WriteBack address value) k s) (λ q at_q. one q.lines (line_of a == address / 64) refl) (λ q at_q h. h))
      where
        one : (ls : List CacheLine) (b : Bool) → (line_of a == address / 64) ≡ b → copy_in a (change_line (address / 64) (clean_word (word_of address)) ls) ≡ copy_in a ls
        one ls true is =
            let same : line_of a ≡ address / 64 = eqb-true (line_of a) (address / 64) is in
            copy_change_same a (address / 64) (clean_word (word_of address)) (λ c. c) (λ l. refl) refl
            (λ l. ap (λ (b : Bool). Some (slice_index l.words (word_of a), b)) (clear_other l.dirty (word_of address) (word_of a) (word_small address) (word_small a) (λ e. other (same_word a address whole whole' same e)))) ls same
        one ls false is = copy_change_other a (address / 64) (clean_word (word_of address)) (λ l. refl) ls (eqb-false (line_of a) (address / 64) is)

    has : copy_in address p.lines ≡ Some (value, true)
    has =
        ap (λ i. option_map (look address) (find_line i p.lines)) number
        ∙ ap (option_map (look address)) first.found
        ∙ ap (λ i. Some (slice_index first.line.words i, is_dirty first.line i)) word
        ∙ (λ i. Some (first.value_is i, first.dirty i))

    now_clean : copy_in address (backed p).lines ≡ Some (value, false)
    now_clean =
        ap (option_map (look address)) (find_change_same (address / 64) (clean_word (word_of address)) (λ l. refl) p.lines)
        ∙ ap (λ i. option_map (look address) (option_map (clean_word (word_of address)) (find_line i p.lines))) number
        ∙ ap (λ o. option_map (look address) (option_map (clean_word (word_of address)) o)) first.found
        ∙ ap (λ (b : Bool). Some (slice_index first.line.words (word_of address), b)) (clear_same first.line.dirty (word_of address) (word_small address))
        ∙ ap (λ i. Some (slice_index first.line.words i, false)) word
        ∙ ap (λ (v : ℕ). Some (v, false)) first.value_is

    put_value : word_at (put_word s.memory address value) address ≡ value
    put_value =
        let placed = word_placed s.memory first.line.number address (subst AllAligned (sym st.memory.windows) aligned) (ap (λ v. is_placed v first.line.number) st.memory.windows ∙ fits_placed ws first.line line_fits) whole' number in
        put_same s.memory address value placed.0 placed.1 (let b = placed.2 in let c = st.memory.counted ∙ ap word_count (sym st.memory.windows) in omega arith)

    back_same : (may : Bool) (x : ℕ) → Word may address x s → Word may address x (step goal (WriteBack address value) k s)
    back_same may x w =
        subst (Word may address x) (sym (change_at backed k (before_own (WriteBack address value) k s) p at))
        (record {
          shows = subst (λ (cs : List Copy). Stays may (word_at (put_word s.memory address value) address) cs x)
              (sym (copies_set address s.processors k (backed p) ∙ ap (set (copies address s.processors) k) now_clean))
              (subst (λ (v : ℕ). Stays may v (set (copies address s.processors) k (Some (value, false))) x) (sym put_value)
              (stays_cleans may (word_at s.memory address) x (copies address s.processors) k (Some (value, true)) (copies_at address s.processors k p at ∙ ap (λ (c : Copy). Some c) has) w.shows));
          writes = λ h. writes_set address s.processors k (backed p) (writes_at address s.processors k p (w.writes h) at) (w.writes h);
        })

    back_word : (may : Bool) (a x : ℕ) → a % 8 ≡ 0 → Word may a x s → Word may a x (step goal (WriteBack address value) k s)
    back_word may a x whole w = one (a == address) refl
      where
        one : (b : Bool) → (a == address) ≡ b → Word may a x (step goal (WriteBack address value) k s)
        one true is = let e : a ≡ address = eqb-true a address is in subst (λ (b : ℕ). Word may b x (step goal (WriteBack address value) k s)) (sym e) (back_same may x (subst (λ (b : ℕ). Word may b x s) e w))
        one false is = leaves_word may a x s _ (back_other a whole (eqb-false a address is)) w

  -- ---- the lines are invalidated, where none is dirty

  drop_stands : Stands ws (step goal DropLines k s)
  drop_stands = stands_change ws (own_step goal DropLines) k s (λ q at_q h. record { lines_apart = tt; lines_fit = refl; buffers_apart = h.buffers_apart; buffers_fit = h.buffers_fit; few_lines = omega arith; few_buffers = h.few_buffers }) st

  drop_word : NoDirty p.lines → (may : Bool) (a x : ℕ) → Word may a x s → Word may a x (step goal DropLines k s)
  drop_word none may a x w =
      let c : Copy = copy_in a p.lines in
      let same : settle (word_at s.memory a) c ≡ word_at s.memory a = settle_clean (word_at s.memory a) c (clean_copy a p.lines none) in
      subst (Word may a x) (sym (change_at (own_step goal DropLines) k s p at))
      (record {
        shows = subst (λ (cs : List Copy). Stays may (word_at s.memory a) cs x) (sym (copies_set a s.processors k (own_step goal DropLines p)))
            (subst (λ (v : ℕ). Stays may v (set (copies a s.processors) k None) x) same
            (stays_loses may (word_at s.memory a) x (copies a s.processors) k c (copies_at a s.processors k p at) w.shows));
        writes = λ h. writes_set a s.processors k (own_step goal DropLines p) (writes_at a s.processors k p (w.writes h) at) (w.writes h);
      })

  flush_lines : (q : Processor) → ((own_step goal FlushTlb q).lines ≡ q.lines) × ((own_step goal FlushTlb q).buffers ≡ q.buffers)
  flush_lines q = one q.phase
    where
      two : (b : Bool) → ((if b then record q { remembered_global = true; page_global = false; entries = [] } else record (reload_cr3 q) { remembered_global = false }).lines ≡ q.lines) × ((if b then record q { remembered_global = true; page_global = false; entries = [] } else record (reload_cr3 q) { remembered_global = false }).buffers ≡ q.buffers)
      two true = (refl, refl)
      two false = (refl, refl)

      one : (ph : Phase) → ((flush_tlb ph q).lines ≡ q.lines) × ((flush_tlb ph q).buffers ≡ q.buffers)
      one Flushed2 = (refl, refl)
      one other = two q.page_global

  -- ---- all steps

  pub step_stands : (e : Event) → (is_drain e ≡ true → write_back_or_drop p ≡ e) → Stands ws (step goal e k s)
  unfolding is_drain
  step_stands Take h = quiet_stands ws aligned (own_step goal Take) k (drain k s) (λ q. (refl, refl)) (stands_drain ws aligned k s st)
  step_stands (WriteBack address value) h = back_stands address value (back_drains p address value (fit_at ws s.processors k p st.fit at).lines_apart (h refl))
  step_stands DropLines h = drop_stands
  step_stands FlushTlb h = quiet_stands ws aligned (own_step goal FlushTlb) k s flush_lines st
  step_stands other h = quiet_stands ws aligned (own_step goal other) k s (λ q. (refl, refl)) st

  pub step_keeps : (e : Event) → (is_drain e ≡ true → write_back_or_drop p ≡ e) → is_take e ≡ false → (may : Bool) (a x : ℕ) → a % 8 ≡ 0 → Word may a x s → Word may a x (step goal e k s)
  unfolding is_drain is_take
  step_keeps Take h quiet may a x whole w = absurd (cc)
  step_keeps (WriteBack address value) h quiet may a x whole w = back_word address value (back_drains p address value (fit_at ws s.processors k p st.fit at).lines_apart (h refl)) may a x whole w
  step_keeps DropLines h quiet may a x whole w = drop_word (drop_drains p (fit_at ws s.processors k p st.fit at).lines_apart (h refl)) may a x w
  step_keeps FlushTlb h quiet may a x whole w = quiet_word ws aligned (own_step goal FlushTlb) k s may a x flush_lines w
  step_keeps other h quiet may a x whole w = quiet_word ws aligned (own_step goal other) k s may a x (λ q. (refl, refl)) w

  pub take_word : (may : Bool) (a x : ℕ) → a % 8 ≡ 0 → Word may a x s → After may a x (step goal Take k s)
  take_word may a x whole w =
      after_then may a x (drain k s) _ (drain_word ws aligned may a x k s whole st w)
      (λ y v. after_word may a y _ (quiet_word ws aligned (own_step goal Take) k (drain k s) may a y (λ q. (refl, refl)) v))

  pub step_word : (e : Event) → (is_drain e ≡ true → write_back_or_drop p ≡ e) → (may : Bool) (a x : ℕ) → a % 8 ≡ 0 → Word may a x s → After may a x (step goal e k s)
  unfolding is_take
  step_word Take h may a x whole w = take_word may a x whole w
  step_word other h may a x whole w = after_word may a x _ (step_keeps other h refl may a x whole w)

-- what a cache that is emptied does next
pub drain_case : (P : Event → Type 0) (p : Processor) → Apart p.lines → ((address value : ℕ) → FirstDirty p address value → P (WriteBack address value)) → (NoDirty p.lines → P DropLines) → P (write_back_or_drop p)
drain_case P p apart back dropped = one (first_dirty_line p.lines) refl
  where
    two : (l : CacheLine) → first_dirty_line p.lines ≡ Some l → (w : Option ℕ) → first_dirty_word l ≡ w → P (option_map_or (λ i. WriteBack (word_address l.number i) (slice_index l.words i)) w DropLines)
    two l is None at = absurd (some_not_none (first_dirty_word l) (find_passes (λ x. is_some (first_dirty_word x)) p.lines l is) at)
    two l is (Some w) at = back (word_address l.number w) (slice_index l.words w) (record {
      line = l;
      word = w;
      found = found_itself (λ x. is_some (first_dirty_word x)) p.lines l apart is;
      dirty = find_passes (is_dirty l) eight w at;
      within = ltb-true w 8 (find_within (is_dirty l) (λ i. nat_lt i 8) eight w refl at);
      address_is = refl;
      value_is = refl;
    })

    one : (o : Option CacheLine) → first_dirty_line p.lines ≡ o → P (option_map_or write_back_event o DropLines)
    one None is = dropped (find_none (λ x. is_some (first_dirty_word x)) p.lines is)
    one (Some l) is = two l is (first_dirty_word l) refl
