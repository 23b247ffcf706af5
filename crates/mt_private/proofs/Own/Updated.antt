-- A whole update in the own systems: what each word is now, and what each processor is left as.
use Rattle.std.proofs.Common.{◌≡◌, ◌≢◌, ◌∙◌, ap, sym, refl, subst, arith, ℕ, zero, suc, ◌+◌, ◌/◌, ◌<◌, ◌==◌, Bool, true, false, cond, List, [], ◌∷◌, length, map, Option, None, Some, eq-eqb}
use Rattle.std.specs.Prelude.{if◌then◌else◌, ◌&&◌, ◌||◌, slice_get, slice_index}
use Rattle.std.specs.List.{find, list_any, range_with_len}
use Rattle.std.specs.Option.{option_map, option_map_or, option_or}
use Rattle.std.proofs.lemmas.Bool.{eqb-true}
use Rattle.std.proofs.lemmas.List.{length-map}
use Rattle.std.proofs.lemmas.Option.{slice_get-map, slice_get_within}
use Rattle.mt_cache.specs.declared.line.CacheLine.{CacheLine}
use Rattle.mt_cache.specs.Lines.{is_dirty}
use Rattle.mt_regs.specs.RegisterFile.{RegisterFile}
use Rattle.mt_machine.specs.Memory.{IsMemory, Window, line_of, place, word_at, word_of}
use Rattle.mt_machine.specs.System.{Processor, System, dirty_word, dirty_word_in, now}
use Rattle.mt_machine.specs.Bus.{drain}
use Rattle.mt_machine.specs.Update.{addresses, emptied, settled_processor, updated}
use Rattle.mt_core.specs.Rounds.{ascending}
use Rattle.mt_core.proofs.Stepping.{drained_length}
use Rattle.mt_laws.proofs.Updates.Addresses.{length_addresses, words_are}
use Rattle.mt_laws.proofs.Updates.ToBroadcast.{emptied_windows}
use Rattle.mt_private.specs.Own.{AreApart, Becomes, IsOwner, own_memory, own_system, words_on}
use Rattle.mt_private.specs.Pages.{names, page_of_line}
use Rattle.mt_private.specs.YardCalls.{updated_own}
use Rattle.mt_private.proofs.Copies.{words_none}
use Rattle.mt_private.proofs.Own.Owners.{drains_alone, named_by_line, named_by_mapping}
use Rattle.mt_private.proofs.Own.Turns.{AreOwners, inside, kept, left, turns}
use Rattle.mt_private.proofs.Own.Words.{has_addresses, word_on}

-- ---- dirty words

-- where no line of the page is there
none_dirty : (a : ℕ) (ls : List CacheLine) → list_any (λ l. page_of_line l == (a / 4096)) ls ≡ false → dirty_word ls a ≡ None
none_dirty a [] none = refl
none_dirty a (l ∷ ls) none = one (page_of_line l == (a / 4096)) (l.number == line_of a) refl refl none (none_dirty a ls)
  where
    found : (b : Bool) → (l.number == line_of a) ≡ b → b ≡ false → dirty_word (l ∷ ls) a ≡ dirty_word ls a
    found b is off =
        ap (λ (c : Bool). option_map (λ (m : CacheLine). slice_index m.words (word_of a)) (cond (c && is_dirty l (word_of a)) (Some l) (find (λ m. (m.number == line_of a) && is_dirty m (word_of a)) ls))) (is ∙ off)

    one : (b c : Bool) → (page_of_line l == (a / 4096)) ≡ b → (l.number == line_of a) ≡ c → (b || list_any (λ m. page_of_line m == (a / 4096)) ls) ≡ false → (list_any (λ m. page_of_line m == (a / 4096)) ls ≡ false → dirty_word ls a ≡ None) → dirty_word (l ∷ ls) a ≡ None
    one true c on is h rest = absurd (cc)
    one false false on is h rest = found false is refl ∙ rest h
    one false true on is h rest =
        let n : l.number ≡ a / 64 = eqb-true l.number (line_of a) is in
        let same : page_of_line l ≡ a / 4096 = ap (λ (x : ℕ). x / 64) n ∙ (let e : a / 64 / 64 ≡ a / 4096 = omega arith in e) in
        let yes_page : (page_of_line l == (a / 4096)) ≡ true = eq-eqb (page_of_line l) (a / 4096) same in
        absurd (cc)

-- a processor that doesn't name the page has no dirty word of it
unnamed_line : (page : ℕ) (p : Processor) → names page p ≡ false → list_any (λ l. page_of_line l == page) p.lines ≡ false
unnamed_line page p none = one (list_any (λ l. page_of_line l == page) p.lines) refl
  where
    one : (b : Bool) → list_any (λ l. page_of_line l == page) p.lines ≡ b → b ≡ false
    one true is = absurd (let e : names page p ≡ true = named_by_line page p is in cc)
    one false is = refl

dirty_none : (a : ℕ) (ps : List Processor) → ((j : ℕ) (q : Processor) → slice_get ps j ≡ Some q → names (a / 4096) q ≡ false) → dirty_word_in ps a ≡ None
dirty_none a [] none = refl
dirty_none a (p ∷ ps) none =
    ap (λ (x : Option ℕ). option_or x (dirty_word_in ps a)) (none_dirty a p.lines (unnamed_line (a / 4096) p (none 0 p refl)))
    ∙ dirty_none a ps (λ j q at. none (suc j) q at)

or_none : (x : Option ℕ) → option_or x None ≡ x
or_none None = refl
or_none (Some v) = refl

dirty_one : (a : ℕ) (ps : List Processor) (k : ℕ) (p : Processor) → slice_get ps k ≡ Some p → ((j : ℕ) (q : Processor) → j ≢ k → slice_get ps j ≡ Some q → names (a / 4096) q ≡ false) → dirty_word_in ps a ≡ dirty_word p.lines a
dirty_one a [] k p at none = absurd (cc)
dirty_one a (r ∷ ps) zero p at none =
    let same : r ≡ p = (let e : Some r ≡ Some p = at in cc) in
    ap (λ (x : Option ℕ). option_or (dirty_word r.lines a) x) (dirty_none a ps (λ j q at_q. none (suc j) q (λ e. absurd (omega arith)) at_q))
    ∙ or_none (dirty_word r.lines a)
    ∙ ap (λ (q : Processor). dirty_word q.lines a) same
dirty_one a (r ∷ ps) (suc k) p at none =
    ap (λ (x : Option ℕ). option_or x (dirty_word_in ps a)) (none_dirty a r.lines (unnamed_line (a / 4096) r (none 0 r (λ e. absurd (omega arith)) refl)))
    ∙ dirty_one a ps k p at (λ j q d at_q. none (suc j) q (λ e. d (omega arith)) at_q)

-- ---- what a word is now, in a system and in an own one

module _ (pages : ℕ → Bool) (k : ℕ) (s : System) (memory : IsMemory s.memory) (owner : IsOwner pages k s) where
  alone_is : own_system pages k s ≡ record { processors = owner.processor ∷ []; memory = own_memory pages s.memory }
  alone_is = ap (λ (x : Option Processor). record { processors = option_map_or (λ p. p ∷ []) x []; memory = own_memory pages s.memory }) owner.at

  alone_dirty : (a : ℕ) → dirty_word_in (own_system pages k s).processors a ≡ dirty_word owner.processor.lines a
  alone_dirty a = ap (λ (t : System). dirty_word_in t.processors a) alone_is ∙ or_none (dirty_word owner.processor.lines a)

  now_on : (a : ℕ) → pages (a / 4096) ≡ true → now s a ≡ now (own_system pages k s) a
  now_on a is =
      let dirty = dirty_one a s.processors k owner.processor owner.at (λ j q d at. owner.others j q d at (a / 4096) is) ∙ sym (alone_dirty a) in
      let word = sym (word_on pages s.memory a (has_addresses s.memory memory) is) in
      λ i. option_map_or (λ v. v) (dirty i) (word i)

  unnamed : (page : ℕ) → pages page ≡ false → (b : Bool) → names page owner.processor ≡ b → b ≡ false
  unnamed page off true is = absurd (let e : pages page ≡ true = owner.own page is in cc)
  unnamed page off false is = refl

  word_off : (a : ℕ) → pages (a / 4096) ≡ false → word_at (own_memory pages s.memory) a ≡ 0
  word_off a off = one (place s.memory a) refl
    where
      one : (x : Option ℕ) → place s.memory a ≡ x → option_map_or (λ i. slice_index (own_memory pages s.memory).words i) x 0 ≡ 0
      one None at = refl
      one (Some i) at =
          let r = has_addresses s.memory memory a i at in
          words_none pages (addresses s.memory.windows) s.memory.words i (ap (λ (x : ℕ). pages (x / 4096)) r.is ∙ off)

  now_off : (a : ℕ) → pages (a / 4096) ≡ false → now (own_system pages k s) a ≡ 0
  now_off a off =
      let dirty = alone_dirty a ∙ none_dirty a owner.processor.lines (unnamed_line (a / 4096) owner.processor (unnamed (a / 4096) off (names (a / 4096) owner.processor) refl)) in
      let word = word_off a off in
      λ i. option_map_or (λ v. v) (dirty i) (word i)

  now_in : (a : ℕ) → (if pages (a / 4096) then now s a else 0) ≡ now (own_system pages k s) a
  now_in a = one (pages (a / 4096)) refl
    where
      one : (b : Bool) → pages (a / 4096) ≡ b → (if b then now s a else 0) ≡ now (own_system pages k s) a
      one true is = now_on a is
      one false is = sym (now_off a is)

  pub words_now : (xs : List ℕ) → words_on pages xs (map (now s) xs) ≡ map (now (own_system pages k s)) xs
  words_now [] = refl
  words_now (a ∷ xs) = let e = now_in a in let r = words_now xs in λ i. e i ∷ r i

-- ---- the whole update

names_settled : (goal : RegisterFile) (page : ℕ) (p : Processor) → names page (settled_processor goal p) ≡ true → names page p ≡ true
names_settled goal page p h = one (list_any (λ m. m.ppage == page) p.mappings) refl h
  where
    one : (b : Bool) → list_any (λ m. m.ppage == page) p.mappings ≡ b → (b || false || false || false) ≡ true → names page p ≡ true
    one true is h = named_by_mapping page p is
    one false is h = absurd (cc)

settled_from : (goal : RegisterFile) (ps : List Processor) (k : ℕ) (q : Processor) → slice_get (map (settled_processor goal) ps) k ≡ Some q → (p : Processor) × (slice_get ps k ≡ Some p) × (settled_processor goal p ≡ q)
settled_from goal [] k q at = absurd (cc)
settled_from goal (p ∷ ps) zero q at = (p, refl, (let e : Some (settled_processor goal p) ≡ Some q = at in cc))
settled_from goal (p ∷ ps) (suc k) q at = settled_from goal ps k q at

settled_at : (goal : RegisterFile) (ps : List Processor) (k : ℕ) (p : Processor) → slice_get ps k ≡ Some p → slice_get (map (settled_processor goal) ps) k ≡ Some (settled_processor goal p)
settled_at goal ps k p at = slice_get-map (settled_processor goal) ps k ∙ ap (option_map (settled_processor goal)) at

emptied_length : (ks : List ℕ) (s : System) → length (emptied s ks).processors ≡ length s.processors
emptied_length [] s = refl
emptied_length (k ∷ ks) s = emptied_length ks (drain k s) ∙ drained_length k s

module _ (P : ℕ → ℕ → Bool) (n : ℕ) (goal : RegisterFile) where
  drain_one : (k : ℕ) (s : System) → k < n → AreOwners P n s → Becomes (P k) k s (drain k s) (drain 0 (own_system (P k) k s))
  drain_one k s low h = drains_alone (P k) k s h.memory (h.owner k low)

  abbrev drain_turns : ℕ → ℕ → System → System
  drain_turns = turns P n (λ k s. drain k s) (λ k s. drain 0 s) drain_one

  emptied_turns : (m a : ℕ) (s : System) → emptied s (range_with_len a m) ≡ drain_turns m a s
  emptied_turns zero a s = refl
  emptied_turns (suc m) a s = emptied_turns m (a + 1) (drain a s)

  module _ (s : System) (h : AreOwners P n s) where
    abbrev empty : System
    empty = emptied s (ascending n)

    empty_owners : AreOwners P n empty
    empty_owners = subst (AreOwners P n) (sym (emptied_turns n 0 s)) (kept P n (λ k t. drain k t) (λ k t. drain 0 t) drain_one n 0 s (omega arith) h)

    empty_own : (k : ℕ) → k < n → own_system (P k) k empty ≡ drain 0 (own_system (P k) k s)
    empty_own k low = ap (own_system (P k) k) (emptied_turns n 0 s) ∙ inside P n (λ k t. drain k t) (λ k t. drain 0 t) drain_one n 0 s (omega arith) h k (omega arith) (omega arith)

    abbrev whole : System
    whole = (updated s (ascending n) goal).system

    abbrev its_addresses : List ℕ
    its_addresses = addresses s.memory.windows

    pub updated_alone : (k : ℕ) → k < n → own_system (P k) k whole ≡ updated_own goal (own_system (P k) k s)
    updated_alone k low =
        let o = h.owner k low in
        let at = settled_at goal s.processors k o.processor o.at in
        let words : words_on (P k) its_addresses (map (now empty) its_addresses) ≡ map (now (drain 0 (own_system (P k) k s))) its_addresses =
        words_now (P k) k empty empty_owners.memory (empty_owners.owner k low) its_addresses ∙ ap (λ (t : System). map (now t) its_addresses) (empty_own k low) in
        λ i. record {
          processors = (ap (λ (x : Option Processor). option_map_or (λ p. p ∷ []) x []) at ∙ ap (λ (x : Option Processor). map (settled_processor goal) (option_map_or (λ p. p ∷ []) x [])) (sym o.at)) i;
          memory = record { windows = s.memory.windows; words = words i };
        }

    pub updated_owners : AreOwners P n whole
    updated_owners = record {
      memory = record {
        some_lines = h.memory.some_lines;
        aligned = h.memory.aligned;
        bounded = h.memory.bounded;
        apart = h.memory.apart;
        counted = length-map its_addresses (now empty) ∙ length_addresses s.memory.windows;
      };
      owner = λ k low.
          let o = h.owner k low in
          record {
            processor = settled_processor goal o.processor;
            at = settled_at goal s.processors k o.processor o.at;
            own = λ page is. o.own page (names_settled goal page o.processor is);
            others = λ j q d at page is.
                let r = settled_from goal s.processors j q at in
                not_settled page r.0 q (o.others j r.0 d r.1 page is) r.2 (names page q) refl;
          };
      apart = h.apart;
    }
      where
        not_settled : (page : ℕ) (p q : Processor) → names page p ≡ false → settled_processor goal p ≡ q → (b : Bool) → names page q ≡ b → b ≡ false
        not_settled page p q off same true is = absurd (let e : names page p ≡ true = names_settled goal page p (ap (names page) same ∙ is) in cc)
        not_settled page p q off same false is = refl

    -- words that none of them names stay in memory
    module _ (pages : ℕ → Bool) (apart : (k : ℕ) → AreApart (P k) pages) (all : length s.processors ≡ n) where
      none_names : (j : ℕ) (q : Processor) → slice_get empty.processors j ≡ Some q → (page : ℕ) → pages page ≡ true → (b : Bool) → names page q ≡ b → b ≡ false
      none_names j q at page is true named =
          let long : length empty.processors ≡ n = emptied_length (ascending n) s ∙ all in
          let low = slice_get_within empty.processors j q at in
          let o = empty_owners.owner j (omega arith) in
          let same : o.processor ≡ q = (let e : Some o.processor ≡ Some q = sym o.at ∙ at in cc) in
          let mine : P j page ≡ true = o.own page (ap (names page) same ∙ named) in
          let off : pages page ≡ false = apart j page mine in
          absurd (cc)
      none_names j q at page is false named = refl

      now_left : (a : ℕ) → pages (a / 4096) ≡ true → now empty a ≡ word_at empty.memory a
      now_left a is = ap (λ (x : Option ℕ). option_map_or (λ v. v) x (word_at empty.memory a)) (dirty_none a empty.processors (λ j q at. none_names j q at (a / 4096) is (names (a / 4096) q) refl))

      left_words : (xs : List ℕ) → words_on pages xs (map (now empty) xs) ≡ words_on pages xs (map (word_at empty.memory) xs)
      left_words [] = refl
      left_words (a ∷ xs) = let e = one (pages (a / 4096)) refl in let r = left_words xs in λ i. e i ∷ r i
        where
          one : (b : Bool) → pages (a / 4096) ≡ b → (if b then now empty a else 0) ≡ (if b then word_at empty.memory a else 0)
          one true is = now_left a is
          one false is = refl

      pub updated_left : own_memory pages whole.memory ≡ own_memory pages s.memory
      updated_left =
          let windows : empty.memory.windows ≡ s.memory.windows = emptied_windows (ascending n) s in
          let words : map (word_at empty.memory) its_addresses ≡ empty.memory.words =
          ap (λ (ws : List Window). map (word_at empty.memory) (addresses ws)) (sym windows) ∙ sym (words_are empty.memory (word_at empty.memory) empty_owners.memory (λ a whole. refl)) in
          let same : own_memory pages empty.memory ≡ own_memory pages s.memory =
          ap (λ (t : System). own_memory pages t.memory) (emptied_turns n 0 s) ∙ left P n (λ k t. drain k t) (λ k t. drain 0 t) drain_one pages apart n 0 s (omega arith) h in
          (λ i. record { windows = s.memory.windows; words = (left_words its_addresses ∙ ap (words_on pages its_addresses) words) i })
          ∙ (λ i. record { windows = sym windows i; words = words_on pages (addresses (sym windows i)) empty.memory.words })
          ∙ same
