-- What bus operations, loads and stores leave: each view of a processor that shows neither its lines nor its buffers.
use Rattle.std.proofs.Common.{◌≡◌, ℕ, zero, suc, ◌+◌, List, [], ◌∷◌, ◌++◌, Some, None, Option, Bool, true, false, refl, sym, ap, ◌∙◌}
use Rattle.std.specs.Prelude.{slice_get, slice_set, map, if◌then◌else◌, is_some, ◌==◌, not, ◌&&◌}
use Rattle.std.specs.List.{fold}
use Rattle.std.specs.Option.{option_map_or}
use Rattle.mt_kinds.specs.declared.mem_type.MemType.{MemType}
use Rattle.mt_kinds.specs.declared.mem_type.MemType.TheVariants.{UC, WC, WT, WP, WB}
use Rattle.mt_cache.specs.declared.line.CacheLine.{CacheLine}
use Rattle.mt_tlb.specs.declared.entry.Entry.{Entry}
use Rattle.mt_machine.specs.declared.op.Op.{Op}
use Rattle.mt_machine.specs.declared.op.Op.TheVariants.{Load, Store, Fence}
use Rattle.mt_machine.specs.Memory.{place, line_of, word_of, fresh_line}
use Rattle.mt_cache.specs.Lines.{find_line, without_line, combined_with, oldest_of_full}
use Rattle.mt_machine.specs.System.{Processor, System, change, buffers_of, lines_of}
use Rattle.mt_machine.specs.Bus.{with_lines, with_buffers, bus_read, invalidate, invalidate_others, write_back_others, others_from, empty_buffer, drain, drain_line, make_room, fill_line, combine}
use Rattle.mt_machine.specs.Access.{first_of_load, first_of_store, load, load_after, hit_of, is_cached, cache_disabled_of, store, store_after, store_hit, store_past, store_filling, translated, physical, Answered}

module _ (V : Type 0) (view : Processor → V) (on_lines : (f : List CacheLine → List CacheLine) (p : Processor) → view (with_lines f p) ≡ view p) (on_buffers : (f : List CacheLine → List CacheLine) (p : Processor) → view (with_buffers f p) ≡ view p) where
  abbrev pub views : System → List V
  views s = map view s.processors

  set_view : (ps : List Processor) (k : ℕ) (p q : Processor) → slice_get ps k ≡ Some p → view q ≡ view p → map view (slice_set ps k q) ≡ map view ps
  set_view [] k p q at same = refl
  set_view (x ∷ ps) zero p q at same = let e : x ≡ p = cc in ap (λ v. v ∷ map view ps) (same ∙ ap view (sym e))
  set_view (x ∷ ps) (suc k) p q at same = ap (λ vs. view x ∷ vs) (set_view ps k p q at same)

  change_views : (f : Processor → Processor) → ((p : Processor) → view (f p) ≡ view p) → (k : ℕ) (s : System) → views (change f k s) ≡ views s
  change_views f quiet k s = one (slice_get s.processors k) refl
    where
      one : (o : Option Processor) → slice_get s.processors k ≡ o → views (option_map_or (λ p. record s { processors = slice_set s.processors k (f p) }) o s) ≡ views s
      one None at = refl
      one (Some p) at = set_view s.processors k p (f p) at (quiet p)

  map_views : (f : Processor → Processor) → ((p : Processor) → view (f p) ≡ view p) → (ps : List Processor) → map view (map f ps) ≡ map view ps
  map_views f quiet [] = refl
  map_views f quiet (p ∷ ps) = λ i. quiet p i ∷ map_views f quiet ps i

  others_views : (n k : ℕ) (f : Processor → Processor) → ((p : Processor) → view (f p) ≡ view p) → (ps : List Processor) → map view (others_from n k f ps) ≡ map view ps
  others_views n k f quiet [] = refl
  others_views n k f quiet (p ∷ ps) = λ i. one (n == k) i ∷ others_views (n + 1) k f quiet ps i
    where
      one : (b : Bool) → view (if b then p else f p) ≡ view p
      one true = refl
      one false = quiet p

  read_views : (n : ℕ) (s : System) → views (bus_read n s) ≡ views s
  read_views n s = map_views _ (on_lines _) s.processors

  invalidate_views : (n : ℕ) (s : System) → views (invalidate n s) ≡ views s
  invalidate_views n s = map_views _ (on_lines _) s.processors

  invalidate_others_views : (k n : ℕ) (s : System) → views (invalidate_others k n s) ≡ views s
  invalidate_others_views k n s = others_views 0 k _ (on_lines _) s.processors

  empty_views : (s : System) (b : CacheLine) → views (empty_buffer s b) ≡ views s
  empty_views s b = invalidate_views b.number (bus_read b.number s) ∙ read_views b.number s

  empty_all_views : (bs : List CacheLine) (s : System) → views (fold empty_buffer s bs) ≡ views s
  empty_all_views [] s = refl
  empty_all_views (b ∷ bs) s = empty_all_views bs (empty_buffer s b) ∙ empty_views s b

  pub drain_views : (k : ℕ) (s : System) → views (drain k s) ≡ views s
  drain_views k s = change_views _ (on_buffers _) k (fold empty_buffer s (buffers_of s k)) ∙ empty_all_views (buffers_of s k) s

  option_views : {X : Type 0} → (o : Option X) (f : X → System) (s t : System) → views t ≡ views s → ((x : X) → views (f x) ≡ views s) → views (option_map_or f o t) ≡ views s
  option_views None f s t none some = none
  option_views (Some x) f s t none some = some x

  if_views : (b : Bool) (x y s : System) → views x ≡ views s → views y ≡ views s → views (if b then x else y) ≡ views s
  if_views true x y s at_true at_false = at_true
  if_views false x y s at_true at_false = at_false

  drain_line_views : (k n : ℕ) (s : System) → views (drain_line k n s) ≡ views s
  drain_line_views k n s =
      option_views (find_line n (buffers_of s k)) _ s s refl (λ b. change_views _ (on_buffers _) k (empty_buffer s b) ∙ empty_views s b)

  room_views : (k : ℕ) (s : System) → views (make_room k s) ≡ views s
  room_views k s = option_views (oldest_of_full 64 (lines_of s k)) _ s s refl (λ l. change_views _ (on_lines _) k _)

  fill_views : (k n : ℕ) (s : System) → views (fill_line k n s) ≡ views s
  fill_views k n s =
      let room : System = make_room k s in
      change_views (λ p. record p { lines = p.lines ++ fresh_line room.memory n p.era ∷ [] }) (λ p. on_lines (λ ls. ls ++ fresh_line room.memory n p.era ∷ []) p) k room ∙ room_views k s

  combine_views : (k n word value : ℕ) (s : System) → views (combine k n word value s) ≡ views s
  combine_views k n word value s =
      let make : System =
      (if is_some (find_line n (buffers_of s k)) then s
      else option_map_or (λ b. change (with_buffers (without_line b.number)) k (empty_buffer s b)) (oldest_of_full 4 (buffers_of s k)) s) in
      let made : views make ≡ views s =
      if_views (is_some (find_line n (buffers_of s k))) s _ s refl
      (option_views (oldest_of_full 4 (buffers_of s k)) _ s s refl (λ b. change_views _ (on_buffers _) k (empty_buffer s b) ∙ empty_views s b)) in
      let joined : System = change (λ p. record p { buffers = combined_with n word value p.era p.buffers }) k make in
      let joins : views joined ≡ views s = change_views (λ p. record p { buffers = combined_with n word value p.era p.buffers }) (λ p. on_buffers (λ bs. combined_with n word value p.era bs) p) k make ∙ made in
      option_views (find_line n (buffers_of joined k)) _ s joined joins
      (λ b. if_views (b.dirty == 0xff) (drain_line k n joined) joined s (drain_line_views k n joined ∙ joins) joins)

  -- ---- loads and stores

  first_load_views : (t : MemType) (k n : ℕ) (s : System) → views (first_of_load t k n s) ≡ views s
  first_load_views UC k n s = drain_views k s
  first_load_views other k n s = drain_line_views k n s

  first_store_views : (t : MemType) (k n : ℕ) (s : System) → views (first_of_store t k n s) ≡ views s
  first_store_views UC k n s = drain_views k s
  first_store_views WC k n s = refl
  first_store_views other k n s = drain_line_views k n s

  pair_views : (o : Option CacheLine) (f : CacheLine → ℕ × System) (miss : ℕ × System) (s : System) → views miss.1 ≡ views s → ((l : CacheLine) → views (f l).1 ≡ views s) → views (option_map_or f o miss).1 ≡ views s
  pair_views None f miss s none some = none
  pair_views (Some l) f miss s none some = some l

  load_after_views : (t : MemType) (k address : ℕ) (s : System) → views (load_after t k address s).1 ≡ views s
  load_after_views t k address s =
      let n = line_of address in
      pair_views (hit_of t k n s) _ _ s
      (if_views (is_cached t && not (cache_disabled_of s k)) (fill_line k n (bus_read n s)) (bus_read n s) s
      (fill_views k n (bus_read n s) ∙ read_views n s)
      (read_views n s))
      (λ l. refl)

  load_views : (t : MemType) (k address : ℕ) (s : System) → views (load t k address s).1 ≡ views s
  load_views t k address s = load_after_views t k address (first_of_load t k (line_of address) s) ∙ first_load_views t k (line_of address) s

  past_views : (k address value : ℕ) (s : System) → views (store_past k address value s) ≡ views s
  past_views k address value s = let n = line_of address in invalidate_others_views k n (bus_read n s) ∙ read_views n s

  store_after_views : (t : MemType) (k address value : ℕ) (s : System) → views (store_after t k address value s) ≡ views s
  store_after_views UC k address value s = invalidate_views (line_of address) (bus_read (line_of address) s) ∙ read_views (line_of address) s
  store_after_views WC k address value s = combine_views k (line_of address) (word_of address) value s
  store_after_views WT k address value s = change_views _ (on_lines _) k (store_past k address value s) ∙ past_views k address value s
  store_after_views WP k address value s = invalidate_views (line_of address) (bus_read (line_of address) s) ∙ read_views (line_of address) s
  store_after_views WB k address value s =
      let n = line_of address in
      if_views (is_some (find_line n (lines_of s k))) (store_hit k address value s) _ s
      (change_views _ (on_lines _) k (invalidate_others k n (write_back_others k n s)) ∙ invalidate_others_views k n (write_back_others k n s))
      (if_views (cache_disabled_of s k) (store_past k address value s) (store_filling k address value s) s
      (past_views k address value s)
      (change_views _ (on_lines _) k (fill_line k n (invalidate_others k n (bus_read n s)))
      ∙ fill_views k n (invalidate_others k n (bus_read n s)) ∙ invalidate_others_views k n (bus_read n s) ∙ read_views n s))

  store_views : (t : MemType) (k address value : ℕ) (s : System) → views (store t k address value s) ≡ views s
  store_views t k address value s = store_after_views t k address value (first_of_store t k (line_of address) s) ∙ first_store_views t k (line_of address) s

  if_answers : (b : Bool) (x y : Answered) (s : System) → views x.after ≡ views s → views y.after ≡ views s → views (if b then x else y).after ≡ views s
  if_answers true x y s at_true at_false = at_true
  if_answers false x y s at_true at_false = at_false

  pub translated_views : (s : System) (k : ℕ) (e : Entry) (op : Op) → views (translated s k e op).after ≡ views s
  translated_views s k e (Load address) = if_answers (is_some (place s.memory (physical e address))) _ _ s (load_views e.kind k (physical e address) s) refl
  translated_views s k e (Store address value) = if_answers (is_some (place s.memory (physical e address))) _ _ s (store_views e.kind k (physical e address) value s) refl
  translated_views s k e Fence = refl
