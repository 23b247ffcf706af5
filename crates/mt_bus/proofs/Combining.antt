-- A word that is combined into a processor's buffers, and a buffer that is emptied then.
use Rattle.std.proofs.Common.{◌≡◌, ◌∙◌, ap, sym, refl, arith, ℕ, zero, suc, ◌<◌, ◌==◌, Bool, true, false, if◌then◌else◌, List, [], ◌∷◌, ◌++◌, map, length, Option, None, Some, is_some, slice_get, slice_set}
use Rattle.std.proofs.lemmas.Bool.{eq-eqb}
use Rattle.std.proofs.lemmas.List.{set-set}
use Rattle.std.specs.Option.{option_map_or, option_or}
use Rattle.mt_lists.proofs.Keys.{filter_none, find_pushed, hit, none_filter}
use Rattle.mt_cache.specs.declared.line.CacheLine.{CacheLine}
use Rattle.mt_cache.specs.Lines.{change_line, clean_line, combined_with, find_line, oldest_of_full, without_line, write_dirty}
use Rattle.mt_cache.specs.Calls.{full_buffer, handed_back, joined, left_by_combine, with_room, with_room_for}
use Rattle.mt_machine.specs.Memory.{Memory, write_back, write_back_of}
use Rattle.mt_machine.specs.System.{Processor, System, buffers_of, change}
use Rattle.mt_machine.specs.Bus.{combine, drain_line, empty_buffer, empty_if_whole, make_buffer_room, with_buffers, with_lines}
use Rattle.mt_laws.proofs.Words.AccessLaws.{change_at}
use Rattle.mt_laws.specs.Parts.{buffers_in, system, with_changed, written_back}
use Rattle.mt_bus.proofs.Changed.{changed_is, changed_later, changed_there, processor_of, set_there}

-- ---- emptying a buffer and changing a processor's buffers commute

lines_then_buffers : (g f : List CacheLine → List CacheLine) (ps : List Processor) (k : ℕ) → map (with_lines g) (with_changed (with_buffers f) k ps) ≡ with_changed (with_buffers f) k (map (with_lines g) ps)
lines_then_buffers g f [] k = refl
lines_then_buffers g f (p ∷ ps) zero = refl
lines_then_buffers g f (p ∷ ps) (suc k) =
    ap (map (with_lines g)) (changed_later (with_buffers f) p ps k)
    ∙ ap (λ qs. with_lines g p ∷ qs) (lines_then_buffers g f ps k)
    ∙ sym (changed_later (with_buffers f) (with_lines g p) (map (with_lines g) ps) k)

same_written : (n : ℕ) (f : List CacheLine → List CacheLine) (ps : List Processor) (k : ℕ) (m : Memory) → written_back n m (with_changed (with_buffers f) k ps) ≡ written_back n m ps
same_written n f [] k m = refl
same_written n f (p ∷ ps) zero m = refl
same_written n f (p ∷ ps) (suc k) m =
    ap (written_back n m) (changed_later (with_buffers f) p ps k) ∙ same_written n f ps k (write_back_of n m p.lines)

pub emptied_changed : (f : List CacheLine → List CacheLine) (k : ℕ) (b : CacheLine) (ps : List Processor) (m : Memory)
    → empty_buffer (system (with_changed (with_buffers f) k ps) m) b ≡ change (with_buffers f) k (empty_buffer (system ps m) b)
emptied_changed f k b ps m =
    let clean : List CacheLine → List CacheLine = λ ls. map (λ (l : CacheLine). if l.number == b.number then record l { dirty = 0 } else l) ls in
    ap (λ v. system (map (with_lines (without_line b.number)) (map (with_lines clean) (with_changed (with_buffers f) k ps))) (write_back v b)) (same_written b.number f ps k m)
    ∙ ap (λ qs. system qs (write_back (written_back b.number m ps) b))
    (ap (map (with_lines (without_line b.number))) (lines_then_buffers clean f ps k) ∙ lines_then_buffers (without_line b.number) f (map (with_lines clean) ps) k)
    ∙ changed_is (with_buffers f) k (map (with_lines (without_line b.number)) (map (with_lines clean) ps)) (write_back (written_back b.number m ps) b)

-- a buffer that is handed back is emptied
abbrev pub emptied_if : System → Option CacheLine → System
emptied_if s o = option_map_or (λ b. empty_buffer s b) o s

-- a line without a buffer
none_taken : (n : ℕ) (ps : List Processor) (k : ℕ) → find_line n (buffers_in k ps) ≡ None → with_changed (with_buffers (without_line n)) k ps ≡ ps
none_taken n [] k none = refl
none_taken n (p ∷ ps) zero none =
    ap (λ (bs : List CacheLine). let q : Processor = record p { buffers = bs } in q ∷ ps) (filter_none (λ (x : CacheLine). x.number) n p.buffers none)
none_taken n (p ∷ ps) (suc k) none = changed_later (with_buffers (without_line n)) p ps k ∙ ap (λ qs. p ∷ qs) (none_taken n ps k none)

abbrev drained_by : ℕ → ℕ → System → Option CacheLine → System
drained_by k n s o = option_map_or (λ b. change (with_buffers (without_line n)) k (empty_buffer s b)) o s

pub taken : (k n : ℕ) (s t : System) (out : Option CacheLine) → out ≡ find_line n (buffers_of s k) → t ≡ change (with_buffers (without_line n)) k s
    → emptied_if t out ≡ drain_line k n s
taken k n s t out handed left =
    ap (λ x. emptied_if x out) (left ∙ sym (changed_is (with_buffers (without_line n)) k s.processors s.memory)) ∙ one out (sym handed) ∙ ap (drained_by k n s) handed
  where
    one : (o : Option CacheLine) → find_line n (buffers_of s k) ≡ o → emptied_if (system (with_changed (with_buffers (without_line n)) k s.processors) s.memory) o ≡ drained_by k n s o
    one None none = ap (λ xs. system xs s.memory) (none_taken n s.processors k none)
    one (Some b) is = emptied_changed (without_line n) k b s.processors s.memory

-- ---- a word is combined

first : ℕ → ℕ → ℕ → ℕ → CacheLine
first n word value era = write_dirty word value (record { number = n; words = 0 ∷ 0 ∷ 0 ∷ 0 ∷ 0 ∷ 0 ∷ 0 ∷ 0 ∷ []; dirty = 0; era = era })

one_word : (n word value era : ℕ) → word < 8 → (first n word value era).dirty == 0xff ≡ false
unfolding first
one_word n zero value era within = refl
one_word n (suc zero) value era within = refl
one_word n (suc (suc zero)) value era within = refl
one_word n (suc (suc (suc zero))) value era within = refl
one_word n (suc (suc (suc (suc zero)))) value era within = refl
one_word n (suc (suc (suc (suc (suc zero))))) value era within = refl
one_word n (suc (suc (suc (suc (suc (suc zero)))))) value era within = refl
one_word n (suc (suc (suc (suc (suc (suc (suc zero))))))) value era within = refl
one_word n (suc (suc (suc (suc (suc (suc (suc (suc word)))))))) value era within = absurd (omega arith)

-- ---- room among the buffers

-- the buffer that is emptied before a word of a line is combined
abbrev giving_way : ℕ → List CacheLine → Option CacheLine
giving_way n bs = if is_some (find_line n bs) then None else oldest_of_full 4 bs

-- what is done for room, by the buffer that gives way
abbrev with_way : ℕ → System → Option CacheLine → System
with_way k s o = option_map_or (λ b. change (with_buffers (without_line b.number)) k (empty_buffer s b)) o s

room_is : (k n : ℕ) (s : System) → make_buffer_room k n s ≡ with_way k s (giving_way n (buffers_of s k))
room_is k n s = one (is_some (find_line n (buffers_of s k)))
  where
    one : (b : Bool) → (if b then s else with_way k s (oldest_of_full 4 (buffers_of s k))) ≡ with_way k s (if b then None else oldest_of_full 4 (buffers_of s k))
    one true = refl
    one false = refl

-- ---- the buffers that are left

has_room : (n : ℕ) (bs : List CacheLine) → giving_way n bs ≡ None → with_room_for n bs ≡ bs
has_room n bs none = one (is_some (find_line n bs)) none
  where
    one : (b : Bool) → (if b then None else oldest_of_full 4 bs) ≡ None → (if b then bs else with_room 4 bs) ≡ bs
    one true e = refl
    one false e = ap (λ o. option_map_or (λ (l : CacheLine). without_line l.number bs) o bs) e

left_is : (n word v era : ℕ) (bs : List CacheLine) → giving_way n bs ≡ None
    → left_by_combine n word v era bs ≡ (if is_some (full_buffer n (combined_with n word v era bs)) then without_line n (combined_with n word v era bs) else combined_with n word v era bs)
left_is n word v era bs none =
    ap (λ cs. if is_some (full_buffer n (combined_with n word v era cs)) then without_line n (combined_with n word v era cs) else combined_with n word v era cs) (has_room n bs none)

not_whole : (n word v era : ℕ) (bs : List CacheLine) → word < 8 → find_line n bs ≡ None → full_buffer n (combined_with n word v era bs) ≡ None
unfolding first
not_whole n word v era bs within none =
    let new = first n word v era in
    let added : combined_with n word v era bs ≡ bs ++ new ∷ [] =
    ap (λ (o : Option CacheLine). if is_some o then change_line n (write_dirty word v) bs else bs ++ new ∷ []) none in
    let at : find_line n (bs ++ new ∷ []) ≡ Some new =
    find_pushed (λ (x : CacheLine). x.number) n bs new
    ∙ ap (λ (o : Option CacheLine). option_or o (find_line n (new ∷ []))) none
    ∙ hit (λ (x : CacheLine). x.number) n new [] (eq-eqb n n refl) in
    ap (full_buffer n) added
    ∙ ap (λ (o : Option CacheLine). option_map_or (λ (b : CacheLine). if b.dirty == 0xff then Some b else None) o None) at
    ∙ ap (λ b. if b then Some new else None) (one_word n word v era within)

out_is : (n word v era : ℕ) (bs : List CacheLine) → word < 8 → giving_way n bs ≡ None → handed_back n word v era bs ≡ full_buffer n (combined_with n word v era bs)
out_is n word v era bs within none = one (find_line n bs) refl none
  where
    one : (o : Option CacheLine) → find_line n bs ≡ o → (if is_some o then None else oldest_of_full 4 bs) ≡ None
        → (if is_some o then full_buffer n (joined n word v era bs) else oldest_of_full 4 bs) ≡ full_buffer n (combined_with n word v era bs)
    one None is e = e ∙ sym (not_whole n word v era bs within is)
    one (Some l) is e = ap (λ cs. full_buffer n (combined_with n word v era cs)) (has_room n bs none)

whole_is : (k n : ℕ) (s : System) (js : List CacheLine) → buffers_of s k ≡ js
    → empty_if_whole k n s ≡ option_map_or (λ b. change (with_buffers (without_line n)) k (empty_buffer s b)) (full_buffer n js) s
whole_is k n s js is =
    ap (λ ls. option_map_or (λ (b : CacheLine). if b.dirty == 0xff then option_map_or (λ c. change (with_buffers (without_line n)) k (empty_buffer s c)) (find_line n ls) s else s) (find_line n ls) s) is
    ∙ one (find_line n js)
  where
    two : (b : CacheLine) (x : Bool)
        → (if x then change (with_buffers (without_line n)) k (empty_buffer s b) else s)
        ≡ option_map_or (λ c. change (with_buffers (without_line n)) k (empty_buffer s c)) (if x then Some b else None) s
    two b true = refl
    two b false = refl

    one : (o : Option CacheLine)
        → option_map_or (λ (b : CacheLine). if b.dirty == 0xff then option_map_or (λ c. change (with_buffers (without_line n)) k (empty_buffer s c)) o s else s) o s
        ≡ option_map_or (λ c. change (with_buffers (without_line n)) k (empty_buffer s c)) (option_map_or (λ (b : CacheLine). if b.dirty == 0xff then Some b else None) o None) s
    one None = refl
    one (Some b) = two b (b.dirty == 0xff)

-- ---- the whole

abbrev pub join_word : ℕ → ℕ → ℕ → Processor → Processor
join_word n word v q = record q { buffers = combined_with n word v q.era q.buffers }

abbrev pub left_after : ℕ → ℕ → ℕ → Processor → Processor
left_after n word v q = record q { buffers = left_by_combine n word v q.era q.buffers }

abbrev pub out_of : ℕ → ℕ → ℕ → ℕ → List Processor → Option CacheLine
out_of k n word v ps = option_map_or (λ p. handed_back n word v p.era p.buffers) (slice_get ps k) None

module _ (k n word v : ℕ) (ps : List Processor) (m : Memory) (p : Processor) (within : word < 8) (at : slice_get ps k ≡ Some p) (none : giving_way n p.buffers ≡ None) where
  joined_there : slice_get (slice_set ps k (join_word n word v p)) k ≡ Some (join_word n word v p)
  joined_there = set_there ps k p (join_word n word v p) at

  cases : (o : Option CacheLine)
      → emptied_if (system (slice_set ps k (record p { buffers = if is_some o then without_line n (combined_with n word v p.era p.buffers) else combined_with n word v p.era p.buffers })) m) o
      ≡ option_map_or (λ b. change (with_buffers (without_line n)) k (empty_buffer (system (slice_set ps k (join_word n word v p)) m) b)) o (system (slice_set ps k (join_word n word v p)) m)
  cases None = refl
  cases (Some b) =
      let once : with_changed (with_buffers (without_line n)) k (slice_set ps k (join_word n word v p)) ≡ slice_set ps k (record p { buffers = without_line n (combined_with n word v p.era p.buffers) }) =
      changed_there (with_buffers (without_line n)) k (slice_set ps k (join_word n word v p)) (join_word n word v p) joined_there
      ∙ set-set ps k (join_word n word v p) (with_buffers (without_line n) (join_word n word v p)) in
      ap (λ qs. empty_buffer (system qs m) b) (sym once) ∙ emptied_changed (without_line n) k b (slice_set ps k (join_word n word v p)) m

  at_one : emptied_if (system (with_changed (left_after n word v) k ps) m) (out_of k n word v ps) ≡ empty_if_whole k n (change (join_word n word v) k (system ps m))
  at_one =
      let left : with_changed (left_after n word v) k ps
      ≡ slice_set ps k (record p { buffers = if is_some (full_buffer n (combined_with n word v p.era p.buffers)) then without_line n (combined_with n word v p.era p.buffers) else combined_with n word v p.era p.buffers }) =
      changed_there (left_after n word v) k ps p at ∙ ap (λ ls. slice_set ps k (record p { buffers = ls })) (left_is n word v p.era p.buffers none) in
      let out : out_of k n word v ps ≡ full_buffer n (combined_with n word v p.era p.buffers) =
      ap (λ o. option_map_or (λ (q : Processor). handed_back n word v q.era q.buffers) o None) at ∙ out_is n word v p.era p.buffers within none in
      let now : change (join_word n word v) k (system ps m) ≡ system (slice_set ps k (join_word n word v p)) m =
      ap (λ o. option_map_or (λ q. system (slice_set ps k (join_word n word v q)) m) o (system ps m)) at in
      ap (λ qs. emptied_if (system qs m) (out_of k n word v ps)) left
      ∙ ap (emptied_if (system (slice_set ps k (record p { buffers = if is_some (full_buffer n (combined_with n word v p.era p.buffers)) then without_line n (combined_with n word v p.era p.buffers) else combined_with n word v p.era p.buffers })) m)) out
      ∙ cases (full_buffer n (combined_with n word v p.era p.buffers))
      ∙ sym (whole_is k n (system (slice_set ps k (join_word n word v p)) m) (combined_with n word v p.era p.buffers) (ap (λ o. option_map_or (λ (q : Processor). q.buffers) o []) joined_there))
      ∙ ap (empty_if_whole k n) (sym now)

-- ---- the oldest of four gives way

mapped_get : (f : Processor → Processor) (ps : List Processor) (k : ℕ) (p : Processor) → slice_get ps k ≡ Some p → slice_get (map f ps) k ≡ Some (f p)
mapped_get f [] k p at = absurd (cc)
mapped_get f (x ∷ ps) zero p at = let e : x ≡ p = cc in ap (λ (q : Processor). Some (f q)) e
mapped_get f (x ∷ ps) (suc k) p at = mapped_get f ps k p at

module _ (k n word v : ℕ) (ps : List Processor) (m : Memory) (p : Processor) (b : CacheLine) (within : word < 8) (at : slice_get ps k ≡ Some p) (absent : find_line n p.buffers ≡ None) (oldest : oldest_of_full 4 p.buffers ≡ Some b) where
  abbrev rest : List CacheLine
  rest = without_line b.number p.buffers

  abbrev now : List CacheLine
  now = combined_with n word v p.era rest

  now_part : full_buffer n now ≡ None
  now_part = not_whole n word v p.era rest within (none_filter (λ (x : CacheLine). x.number) _ n p.buffers absent)

  room_made : with_room_for n p.buffers ≡ rest
  room_made =
      ap (λ (o : Option CacheLine). if is_some o then p.buffers else with_room 4 p.buffers) absent
      ∙ ap (λ (o : Option CacheLine). option_map_or (λ (l : CacheLine). without_line l.number p.buffers) o p.buffers) oldest

  left_now : left_by_combine n word v p.era p.buffers ≡ now
  left_now =
      ap (λ bs. if is_some (full_buffer n (combined_with n word v p.era bs)) then without_line n (combined_with n word v p.era bs) else combined_with n word v p.era bs) room_made
      ∙ ap (λ (o : Option CacheLine). if is_some o then without_line n now else now) now_part

  out_now : handed_back n word v p.era p.buffers ≡ Some b
  out_now = ap (λ (o : Option CacheLine). if is_some o then full_buffer n (joined n word v p.era p.buffers) else oldest_of_full 4 p.buffers) absent ∙ oldest

  abbrev t : System
  t = empty_buffer (system ps m) b

  abbrev q : Processor
  q = with_lines (without_line b.number) (with_lines (change_line b.number clean_line) p)

  at_t : slice_get t.processors k ≡ Some q
  at_t =
      mapped_get (with_lines (without_line b.number)) (map (with_lines (change_line b.number clean_line)) ps) k (with_lines (change_line b.number clean_line) p)
      (mapped_get (with_lines (change_line b.number clean_line)) ps k p at)

  abbrev set_now : System
  set_now = record t { processors = slice_set t.processors k (with_buffers (λ _. now) q) }

  -- the definition's way, and the code's
  by_room : change (join_word n word v) k (make_buffer_room k n (system ps m)) ≡ set_now
  by_room =
      let r : System = record t { processors = slice_set t.processors k (with_buffers (without_line b.number) q) } in
      ap (change (join_word n word v) k)
      (room_is k n (system ps m)
      ∙ ap (λ (o : Option Processor). with_way k (system ps m) (giving_way n (option_map_or (λ (x : Processor). x.buffers) o []))) at
      ∙ ap (λ (o : Option CacheLine). with_way k (system ps m) (if is_some o then None else oldest_of_full 4 p.buffers)) absent
      ∙ ap (with_way k (system ps m)) oldest
      ∙ change_at (with_buffers (without_line b.number)) k t q at_t)
      ∙ change_at (join_word n word v) k r (with_buffers (without_line b.number) q) (set_there t.processors k q (with_buffers (without_line b.number) q) at_t)
      ∙ ap (λ (xs : List Processor). record t { processors = xs }) (set-set t.processors k (with_buffers (without_line b.number) q) (with_buffers (λ _. now) q))

  by_hand : empty_buffer (system (slice_set ps k (record p { buffers = now })) m) b ≡ set_now
  by_hand =
      ap (λ xs. empty_buffer (system xs m) b) (sym (changed_there (with_buffers (λ _. now)) k ps p at))
      ∙ emptied_changed (λ _. now) k b ps m
      ∙ change_at (with_buffers (λ _. now)) k t q at_t

  none_whole : empty_if_whole k n set_now ≡ set_now
  none_whole =
      whole_is k n set_now now (ap (λ (o : Option Processor). option_map_or (λ (x : Processor). x.buffers) o []) (set_there t.processors k q (with_buffers (λ _. now) q) at_t))
      ∙ ap (λ (o : Option CacheLine). option_map_or (λ c. change (with_buffers (without_line n)) k (empty_buffer set_now c)) o set_now) now_part

  at_oldest : emptied_if (system (with_changed (left_after n word v) k ps) m) (out_of k n word v ps) ≡ combine k n word v (system ps m)
  at_oldest =
      ap (λ (o : Option Processor). emptied_if (system (with_changed (left_after n word v) k ps) m) (option_map_or (λ (x : Processor). handed_back n word v x.era x.buffers) o None)) at
      ∙ ap (λ xs. emptied_if (system xs m) (handed_back n word v p.era p.buffers)) (changed_there (left_after n word v) k ps p at)
      ∙ ap (λ (bs : List CacheLine). emptied_if (system (slice_set ps k (record p { buffers = bs })) m) (handed_back n word v p.era p.buffers)) left_now
      ∙ ap (emptied_if (system (slice_set ps k (record p { buffers = now })) m)) out_now
      ∙ by_hand
      ∙ sym none_whole
      ∙ ap (empty_if_whole k n) (sym by_room)

pub combined : (k n word v : ℕ) (s t : System) (out : Option CacheLine) → word < 8 → k < length s.processors
    → out ≡ out_of k n word v s.processors → t ≡ change (left_after n word v) k s → emptied_if t out ≡ combine k n word v s
combined k n word v s t out within among handed left =
    ap (λ x. emptied_if x out) (left ∙ sym (changed_is (left_after n word v) k s.processors s.memory))
    ∙ ap (emptied_if (system (with_changed (left_after n word v) k s.processors) s.memory)) handed ∙ one (find_line n p.0.buffers) (oldest_of_full 4 p.0.buffers) refl refl
  where
    p : (p : Processor) × (slice_get s.processors k ≡ Some p)
    p = processor_of s.processors k among

    plain : giving_way n p.0.buffers ≡ None → emptied_if (system (with_changed (left_after n word v) k s.processors) s.memory) (out_of k n word v s.processors) ≡ combine k n word v (system s.processors s.memory)
    plain none =
        at_one k n word v s.processors s.memory p.0 within p.1 none
        ∙ ap (λ x. empty_if_whole k n (change (join_word n word v) k x))
        (sym (room_is k n (system s.processors s.memory) ∙ ap (λ (o : Option Processor). with_way k (system s.processors s.memory) (giving_way n (option_map_or (λ (x : Processor). x.buffers) o []))) p.1 ∙ ap (with_way k (system s.processors s.memory)) none))

    one : (f o : Option CacheLine) → find_line n p.0.buffers ≡ f → oldest_of_full 4 p.0.buffers ≡ o
        → emptied_if (system (with_changed (left_after n word v) k s.processors) s.memory) (out_of k n word v s.processors) ≡ combine k n word v (system s.processors s.memory)
    one None None is full = plain (ap (λ (x : Option CacheLine). if is_some x then None else oldest_of_full 4 p.0.buffers) is ∙ full)
    one None (Some b) is full = at_oldest k n word v s.processors s.memory p.0 b within p.1 is full
    one (Some l) o is full = plain (ap (λ (x : Option CacheLine). if is_some x then None else oldest_of_full 4 p.0.buffers) is)
