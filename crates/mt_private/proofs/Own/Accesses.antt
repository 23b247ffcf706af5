-- An access of one processor to its own pages, in the whole system and in its own one.
use Rattle.std.proofs.Common.{◌≡◌, ◌∙◌, ap, sym, refl, subst, arith, ℕ, ◌/◌, ◌==◌, Bool, true, false, List, [], ◌∷◌, length, drop, Option, None, Some}
use Rattle.std.specs.Prelude.{if◌then◌else◌, ◌&&◌, not, slice_get, slice_index, is_some}
use Rattle.std.specs.List.{list_all}
use Rattle.std.specs.Option.{option_map, option_map_or}
use Rattle.mt_kinds.specs.declared.mem_type.MemType.{MemType}
use Rattle.mt_kinds.specs.declared.mem_type.MemType.TheVariants.{UC, WC, WT, WP, WB}
use Rattle.mt_cache.specs.declared.line.CacheLine.{CacheLine}
use Rattle.mt_cache.specs.Lines.{find_line, write_clean, write_dirty}
use Rattle.mt_tlb.specs.declared.entry.Entry.{Entry}
use Rattle.mt_tlb.specs.declared.mapping.Mapping.{Mapping}
use Rattle.mt_tlb.specs.Entries.{add_entry, find_entry, find_mapping, has_page, maps_page}
use Rattle.mt_machine.specs.declared.op.Op.{Op}
use Rattle.mt_machine.specs.declared.op.Op.TheVariants.{Load, Store, Fence}
use Rattle.mt_machine.specs.declared.done.Done.TheVariants.{Value, Stored, Unmapped, NoRam, Busy}
use Rattle.mt_machine.specs.Memory.{Memory, line_of, place, word_at, word_of}
use Rattle.mt_machine.specs.System.{Processor, System, change, lines_of}
use Rattle.mt_machine.specs.Bus.{bus_read, fill_line, invalidate, invalidate_others, write_back_others}
use Rattle.mt_machine.specs.Access.{Answered, access, access_at, address_of, cache_disabled_of, entry_of, first_of_load, first_of_store, hit_of, is_cached, is_running, keep_entry, load, load_after, new_entry, physical, store, store_after, store_hit, store_filling, store_past, store_uncached, translated}
use Rattle.mt_bus.proofs.Changed.{set_there}
use Rattle.mt_laws.proofs.Clearing.Follows.{all_append, all_drop}
use Rattle.mt_laws.proofs.Words.StepLaws.{find_within}
use Rattle.mt_private.proofs.Own.Words.{HasAddresses, word_on}
use Rattle.mt_private.proofs.Own.Buses.{AreOutside, IsWithin, Own, lines_alone, lines_whole, own_change, own_store, own_read, own_invalidate, own_others, own_back_others, own_drain, own_drain_line, own_combine, own_fill, own_line}

-- the same answer, and the two systems afterwards
pub record Alike (pages : ℕ → Bool) (k : ℕ) (ps : List Processor) (base : Memory) (a b : Answered) : Type 0 where
  pub answer : a.answer ≡ b.answer
  pub after : Own pages k ps base a.after b.after

-- the same value
pub record LoadsAlike (pages : ℕ → Bool) (k : ℕ) (ps : List Processor) (base : Memory) (a b : ℕ × System) : Type 0 where
  pub value : a.0 ≡ b.0
  pub after : Own pages k ps base a.1 b.1

all_dropped : {X : Type 0} (test : X → Bool) (full : Bool) (xs : List X) → list_all test xs ≡ true → list_all test (if full then drop 1 xs else xs) ≡ true
all_dropped test false xs all = all
all_dropped test true xs all = all_drop test xs all

page_of_physical : (e : Entry) (address : ℕ) → physical e address / 4096 ≡ e.ppage
page_of_physical e address = omega arith

page_of_its_line : (a : ℕ) → line_of a / 64 ≡ a / 4096
page_of_its_line a = omega arith

module _ (pages : ℕ → Bool) (k : ℕ) (ps : List Processor) (base : Memory) (p0 : Processor) (there : slice_get ps k ≡ Some p0) (has : HasAddresses base.windows) (out : AreOutside pages k ps) where
  -- ---- loads and stores of a physical word

  module _ (address : ℕ) (is : pages (line_of address / 64) ≡ true) where
    abbrev n : ℕ
    n = line_of address

    in_page : pages (address / 4096) ≡ true
    in_page = ap pages (sym (page_of_its_line address)) ∙ is

    own_first_load : (t : MemType) (s o : System) → Own pages k ps base s o → Own pages k ps base (first_of_load t k n s) (first_of_load t 0 n o)
    own_first_load UC s o h = own_drain pages k ps base p0 there has out s o h
    own_first_load t s o h = own_drain_line pages k ps base p0 there has out n s o h

    own_first_store : (t : MemType) (s o : System) → Own pages k ps base s o → Own pages k ps base (first_of_store t k n s) (first_of_store t 0 n o)
    own_first_store UC s o h = own_drain pages k ps base p0 there has out s o h
    own_first_store WC s o h = h
    own_first_store t s o h = own_drain_line pages k ps base p0 there has out n s o h

    disabled_whole : (s o : System) → (h : Own pages k ps base s o) → cache_disabled_of s k ≡ h.p.cache_disabled
    disabled_whole s o h =
        ap (λ (t : System). cache_disabled_of t k) h.whole ∙ ap (λ (x : Option Processor). option_map_or (λ q. q.cache_disabled) x true) (set_there ps k p0 h.p there)

    disabled_alone : (s o : System) → (h : Own pages k ps base s o) → cache_disabled_of o 0 ≡ h.p.cache_disabled
    disabled_alone s o h = ap (λ (t : System). cache_disabled_of t 0) h.alone

    same_disabled : (s o : System) → Own pages k ps base s o → cache_disabled_of s k ≡ cache_disabled_of o 0
    same_disabled s o h = disabled_whole s o h ∙ sym (disabled_alone s o h)

    same_lines : (s o : System) → Own pages k ps base s o → lines_of s k ≡ lines_of o 0
    same_lines s o h = lines_whole pages k ps base p0 there has out s o h ∙ sym (lines_alone pages k ps base p0 there has out s o h)

    same_word : (s o : System) → Own pages k ps base s o → word_at s.memory address ≡ word_at o.memory address
    same_word s o h =
        ap (λ (t : System). word_at t.memory address) h.whole
        ∙ sym (word_on pages h.m address (subst HasAddresses (sym (ap (λ (m : Memory). m.windows) h.beside.words)) has) in_page)
        ∙ sym (ap (λ (t : System). word_at t.memory address) h.alone)

    loaded_alike : (t : MemType) (s o : System) → Own pages k ps base s o → LoadsAlike pages k ps base (load_after t k address s) (load_after t 0 address o)
    loaded_alike t s o h =
        one (hit_of t k n s) (hit_of t 0 n o) (ap (λ ls. if is_cached t then find_line n ls else None) (same_lines s o h))
      where
        read : Own pages k ps base (bus_read n s) (bus_read n o)
        read = own_read pages k ps base p0 there has out n s o is h

        two : (c d e : Bool) → d ≡ e → Own pages k ps base (if c && not d then fill_line k n (bus_read n s) else bus_read n s) (if c && not e then fill_line 0 n (bus_read n o) else bus_read n o)
        two false d e same = read
        two true true true same = read
        two true false false same = own_fill pages k ps base p0 there has out n (bus_read n s) (bus_read n o) is read
        two true true false same = absurd (cc)
        two true false true same = absurd (cc)

        one : (x y : Option CacheLine) → x ≡ y → LoadsAlike pages k ps base
            (option_map_or (λ l. (slice_index l.words (word_of address), s)) x (word_at (bus_read n s).memory address, (if is_cached t && not (cache_disabled_of s k) then fill_line k n (bus_read n s) else bus_read n s)))
            (option_map_or (λ l. (slice_index l.words (word_of address), o)) y (word_at (bus_read n o).memory address, (if is_cached t && not (cache_disabled_of o 0) then fill_line 0 n (bus_read n o) else bus_read n o)))
        one None None same = record { value = same_word (bus_read n s) (bus_read n o) read; after = two (is_cached t) (cache_disabled_of s k) (cache_disabled_of o 0) (same_disabled s o h) }
        one (Some l) (Some q) same = let e : l ≡ q = cc in record { value = ap (λ (x : CacheLine). slice_index x.words (word_of address)) e; after = h }
        one None (Some q) same = absurd (cc)
        one (Some l) None same = absurd (cc)

    pub load_alike : (t : MemType) (s o : System) → Own pages k ps base s o → LoadsAlike pages k ps base (load t k address s) (load t 0 address o)
    load_alike t s o h = loaded_alike t (first_of_load t k n s) (first_of_load t 0 n o) (own_first_load t s o h)

    own_uncached : (v : ℕ) (s o : System) → Own pages k ps base s o → Own pages k ps base (store_uncached address v s) (store_uncached address v o)
    own_uncached v s o h =
        own_store pages k ps base p0 there has out address v (invalidate n (bus_read n s)) (invalidate n (bus_read n o)) in_page
        (own_invalidate pages k ps base p0 there has out n (bus_read n s) (bus_read n o) is (own_read pages k ps base p0 there has out n s o is h))

    own_taken : (s o : System) → Own pages k ps base s o → Own pages k ps base (invalidate_others k n (bus_read n s)) (invalidate_others 0 n (bus_read n o))
    own_taken s o h = own_others pages k ps base p0 there has out n (bus_read n s) (bus_read n o) is (own_read pages k ps base p0 there has out n s o is h)

    own_past : (v : ℕ) (s o : System) → Own pages k ps base s o → Own pages k ps base (store_past k address v s) (store_past 0 address v o)
    own_past v s o h = own_store pages k ps base p0 there has out address v (invalidate_others k n (bus_read n s)) (invalidate_others 0 n (bus_read n o)) in_page (own_taken s o h)

    own_filling : (v : ℕ) (s o : System) → Own pages k ps base s o → Own pages k ps base (store_filling k address v s) (store_filling 0 address v o)
    own_filling v s o h =
        own_line pages k ps base p0 there has out n (write_dirty (word_of address) v) (fill_line k n (invalidate_others k n (bus_read n s))) (fill_line 0 n (invalidate_others 0 n (bus_read n o))) (λ l. refl)
        (own_fill pages k ps base p0 there has out n (invalidate_others k n (bus_read n s)) (invalidate_others 0 n (bus_read n o)) is (own_taken s o h))

    own_hit : (v : ℕ) (s o : System) → Own pages k ps base s o → Own pages k ps base (store_hit k address v s) (store_hit 0 address v o)
    own_hit v s o h =
        own_line pages k ps base p0 there has out n (write_dirty (word_of address) v) (invalidate_others k n (write_back_others k n s)) (invalidate_others 0 n (write_back_others 0 n o)) (λ l. refl)
        (own_others pages k ps base p0 there has out n (write_back_others k n s) (write_back_others 0 n o) is (own_back_others pages k ps base p0 there has out n s o is h))

    own_stored : (t : MemType) (v : ℕ) (s o : System) → Own pages k ps base s o → Own pages k ps base (store_after t k address v s) (store_after t 0 address v o)
    own_stored UC v s o h = own_uncached v s o h
    own_stored WC v s o h = own_combine pages k ps base p0 there has out n (word_of address) v s o is h
    own_stored WT v s o h =
        own_line pages k ps base p0 there has out n (write_clean (word_of address) v) (store_past k address v s) (store_past 0 address v o) (λ l. refl) (own_past v s o h)
    own_stored WP v s o h = own_uncached v s o h
    own_stored WB v s o h =
        one (is_some (find_line n (lines_of s k))) (is_some (find_line n (lines_of o 0))) (cache_disabled_of s k) (cache_disabled_of o 0)
        (ap (λ ls. is_some (find_line n ls)) (same_lines s o h)) (same_disabled s o h)
      where
        one : (a b c d : Bool) → a ≡ b → c ≡ d
            → Own pages k ps base (if a then store_hit k address v s else (if c then store_past k address v s else store_filling k address v s)) (if b then store_hit 0 address v o else (if d then store_past 0 address v o else store_filling 0 address v o))
        one true true c d x y = own_hit v s o h
        one false false true true x y = own_past v s o h
        one false false false false x y = own_filling v s o h
        one true false c d x y = absurd (cc)
        one false true c d x y = absurd (cc)
        one false false true false x y = absurd (cc)
        one false false false true x y = absurd (cc)

    pub store_alike : (t : MemType) (v : ℕ) (s o : System) → Own pages k ps base s o → Own pages k ps base (store t k address v s) (store t 0 address v o)
    store_alike t v s o h = own_stored t v (first_of_store t k n s) (first_of_store t 0 n o) (own_first_store t s o h)

  -- ---- translation

  within_entry : (p : Processor) (page : ℕ) (e : Entry) → IsWithin pages p → entry_of p page ≡ Some e → pages e.ppage ≡ true
  within_entry p page e w at = one (find_entry page p.entries) (find_mapping page p.mappings) refl refl at
    where
      one : (x : Option Entry) (y : Option Mapping) → find_entry page p.entries ≡ x → find_mapping page p.mappings ≡ y → option_map_or Some x (option_map (new_entry p) y) ≡ Some e → pages e.ppage ≡ true
      one (Some f) y x_is y_is h = find_within (has_page page) (λ (f : Entry). pages f.ppage) p.entries e w.entered (x_is ∙ h)
      one None (Some m) x_is y_is h =
          let r = find_within (maps_page page) (λ (m : Mapping). pages m.ppage) p.mappings m w.mapped y_is in
          ap (λ (x : Option Entry). option_map_or (λ (f : Entry). pages f.ppage) x true) (sym h) ∙ r
      one None None x_is y_is h = absurd (cc)

  within_kept : (e : Entry) (p : Processor) → pages e.ppage ≡ true → IsWithin pages p → IsWithin pages (keep_entry e p)
  within_kept e p is w = one (is_some (find_entry e.vpage p.entries))
    where
      one : (b : Bool) → IsWithin pages (if b then p else record p { entries = add_entry e p.entries })
      one true = w
      one false = record {
        mapped = w.mapped;
        entered = all_append (λ (f : Entry). pages f.ppage) (if length p.entries == 64 then drop 1 p.entries else p.entries) (e ∷ []) (all_dropped (λ (f : Entry). pages f.ppage) (length p.entries == 64) p.entries w.entered) (ap (λ b. b && true) is);
        cached = w.cached;
        buffered = w.buffered;
      }

  same_place : (s o : System) (a : ℕ) → Own pages k ps base s o → is_some (place s.memory a) ≡ is_some (place o.memory a)
  same_place s o a h = ap (λ (t : System). is_some (place t.memory a)) h.whole ∙ sym (ap (λ (t : System). is_some (place t.memory a)) h.alone)

  translated_alike : (e : Entry) (op : Op) (s o : System) → pages e.ppage ≡ true → Own pages k ps base s o → Alike pages k ps base (translated s k e op) (translated o 0 e op)
  translated_alike e Fence s o is h = record { answer = refl; after = h }
  translated_alike e (Load a) s o is h = one (is_some (place s.memory (physical e a))) (is_some (place o.memory (physical e a))) (same_place s o (physical e a) h)
    where
      in_line : pages (line_of (physical e a) / 64) ≡ true
      in_line = ap pages (page_of_its_line (physical e a) ∙ page_of_physical e a) ∙ is

      one : (x y : Bool) → x ≡ y → Alike pages k ps base
          (if x then record { answer = Value (load e.kind k (physical e a) s).0 e.kind; after = (load e.kind k (physical e a) s).1 } else record { answer = NoRam; after = s })
          (if y then record { answer = Value (load e.kind 0 (physical e a) o).0 e.kind; after = (load e.kind 0 (physical e a) o).1 } else record { answer = NoRam; after = o })
      one true true same = let r = load_alike (physical e a) in_line e.kind s o h in record { answer = ap (λ v. Value v e.kind) r.value; after = r.after }
      one false false same = record { answer = refl; after = h }
      one true false same = absurd (cc)
      one false true same = absurd (cc)
  translated_alike e (Store a v) s o is h = one (is_some (place s.memory (physical e a))) (is_some (place o.memory (physical e a))) (same_place s o (physical e a) h)
    where
      in_line : pages (line_of (physical e a) / 64) ≡ true
      in_line = ap pages (page_of_its_line (physical e a) ∙ page_of_physical e a) ∙ is

      one : (x y : Bool) → x ≡ y → Alike pages k ps base
          (if x then record { answer = Stored e.kind; after = store e.kind k (physical e a) v s } else record { answer = NoRam; after = s })
          (if y then record { answer = Stored e.kind; after = store e.kind 0 (physical e a) v o } else record { answer = NoRam; after = o })
      one true true same = record { answer = refl; after = store_alike (physical e a) in_line e.kind v s o h }
      one false false same = record { answer = refl; after = h }
      one true false same = absurd (cc)
      one false true same = absurd (cc)

  -- ---- accesses

  entered_alike : (op : Op) (s o : System) → (h : Own pages k ps base s o)
      → Alike pages k ps base
      (option_map_or (λ e. translated (change (keep_entry e) k s) k e op) (entry_of h.p (address_of op / 4096)) (record { answer = Unmapped; after = s }))
      (option_map_or (λ e. translated (change (keep_entry e) 0 o) 0 e op) (entry_of h.p (address_of op / 4096)) (record { answer = Unmapped; after = o }))
  entered_alike op s o h = one (entry_of h.p (address_of op / 4096)) refl
    where
      one : (x : Option Entry) → entry_of h.p (address_of op / 4096) ≡ x → Alike pages k ps base
          (option_map_or (λ e. translated (change (keep_entry e) k s) k e op) x (record { answer = Unmapped; after = s }))
          (option_map_or (λ e. translated (change (keep_entry e) 0 o) 0 e op) x (record { answer = Unmapped; after = o }))
      one None at = record { answer = refl; after = h }
      one (Some e) at =
          let is = within_entry h.p (address_of op / 4096) e h.within at in
          translated_alike e op (change (keep_entry e) k s) (change (keep_entry e) 0 o) is
          (own_change pages k ps base p0 there has out (keep_entry e) s o h (within_kept e h.p is h.within))

  at_alike : (op : Op) (s o : System) → (h : Own pages k ps base s o) → Alike pages k ps base (access_at s k h.p op) (access_at o 0 h.p op)
  at_alike Fence s o h = record { answer = refl; after = own_drain pages k ps base p0 there has out s o h }
  at_alike (Load a) s o h = entered_alike (Load a) s o h
  at_alike (Store a v) s o h = entered_alike (Store a v) s o h

  pub access_alike : (op : Op) (s o : System) → Own pages k ps base s o → Alike pages k ps base (access s k op) (access o 0 op)
  access_alike op s o h =
      one (slice_get s.processors k) (slice_get o.processors 0)
      (ap (λ (t : System). slice_get t.processors k) h.whole ∙ set_there ps k p0 h.p there)
      (ap (λ (t : System). slice_get t.processors 0) h.alone)
    where
      two : (b : Bool) → Alike pages k ps base (if b then access_at s k h.p op else record { answer = Busy; after = s }) (if b then access_at o 0 h.p op else record { answer = Busy; after = o })
      two true = at_alike op s o h
      two false = record { answer = refl; after = h }

      one : (x y : Option Processor) → x ≡ Some h.p → y ≡ Some h.p → Alike pages k ps base
          (option_map_or (λ p. if is_running p.phase then access_at s k p op else record { answer = Busy; after = s }) x (record { answer = Busy; after = s }))
          (option_map_or (λ p. if is_running p.phase then access_at o 0 p op else record { answer = Busy; after = o }) y (record { answer = Busy; after = o }))
      one x y x_is y_is =
          subst (λ (z : Option Processor). Alike pages k ps base (option_map_or (λ p. if is_running p.phase then access_at s k p op else record { answer = Busy; after = s }) z (record { answer = Busy; after = s })) (option_map_or (λ p. if is_running p.phase then access_at o 0 p op else record { answer = Busy; after = o }) y (record { answer = Busy; after = o })))
          (sym x_is)
          (subst (λ (z : Option Processor). Alike pages k ps base (if is_running h.p.phase then access_at s k h.p op else record { answer = Busy; after = s }) (option_map_or (λ p. if is_running p.phase then access_at o 0 p op else record { answer = Busy; after = o }) z (record { answer = Busy; after = o })))
          (sym y_is) (two (is_running h.p.phase)))
