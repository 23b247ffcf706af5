-- A processor that owns its pages: what it does in the whole system is what it does in its own.
use Rattle.std.proofs.Common.{◌≡◌, ◌≢◌, ◌∙◌, ap, sym, refl, subst, arith, ℕ, zero, suc, ◌+◌, ◌/◌, ◌≤◌, ◌==◌, Bool, true, false, List, [], ◌∷◌, length, set, Option, Some, inl, inr, ⊎_elim, cond, eq-eqb}
use Rattle.std.specs.Prelude.{◌⊎◌, if◌then◌else◌, ◌&&◌, ◌||◌, not, slice_get}
use Rattle.std.specs.List.{list_all, list_any}
use Rattle.std.specs.Option.{option_map_or}
use mathlib.Core.Logic.{dite}
use native.Mathlib.Decide.{ℕ_discrete}
use Rattle.std.proofs.lemmas.Bool.{eqb-true}
use Rattle.std.proofs.lemmas.List.{set_comm}
use Rattle.mt_cache.specs.Lines.{clean_word}
use Rattle.mt_tlb.specs.declared.entry.Entry.{Entry}
use Rattle.mt_tlb.specs.declared.mapping.Mapping.{Mapping}
use Rattle.mt_regs.specs.RegisterFile.{RegisterFile}
use Rattle.mt_machine.specs.declared.op.Op.{Op}
use Rattle.mt_machine.specs.declared.event.Event.{Event}
use Rattle.mt_machine.specs.declared.event.Event.TheVariants.{DropLines, FlushTlb, Take, WriteBack}
use Rattle.mt_machine.specs.declared.phase.Phase.{Phase}
use Rattle.mt_machine.specs.declared.phase.Phase.TheVariants.{Flushed2}
use Rattle.mt_machine.specs.Memory.{IsMemory, Memory, Window, word_of}
use Rattle.mt_machine.specs.System.{Processor, System}
use Rattle.mt_machine.specs.Access.{access}
use Rattle.mt_machine.specs.Bus.{drain}
use Rattle.mt_machine.specs.Control.{reload_cr3}
use Rattle.mt_machine.specs.Machine.{before_own, flush_tlb, own_step, step}
use Rattle.mt_machine.specs.Update.{addresses}
use Rattle.mt_bus.proofs.Changed.{set_there}
use Rattle.mt_laws.proofs.Barrier.Ranks.{and_left, and_right}
use Rattle.mt_laws.proofs.Clearing.Follows.{all_filter}
use Rattle.mt_laws.proofs.Steps.StepCounts.{count_more}
use Rattle.mt_laws.proofs.Updates.Addresses.{length_addresses}
use Rattle.mt_laws.proofs.Words.LineLists.{passes_changed}
use Rattle.mt_private.specs.OneByOne.{Ran, ran}
use Rattle.mt_private.specs.Own.{AreApart, Becomes, Commute, IsOwner, RunsAlone, WritesOn, own_memory, own_system, pages_of, put_first, with_own, words_from, words_on}
use Rattle.mt_private.specs.Pages.{IsPrivate, names, naming, page_of_line}
use Rattle.mt_private.proofs.Lists.{at_put}
use Rattle.mt_private.proofs.Own.Words.{HasAddresses, has_addresses}
use Rattle.mt_private.proofs.Own.Whole.{other_at, set_back}
use Rattle.mt_private.proofs.Own.Buses.{AreOutside, IsWithin, Own, in_pages, other_pages, own_change, own_drain, own_store}
use Rattle.mt_private.proofs.Own.Accesses.{access_alike}

-- ---- names and tests of pages

and_true : (a b : Bool) → a ≡ true → b ≡ true → (a && b) ≡ true
and_true true b h g = g
and_true false b h g = absurd (cc)

or_left : (a b : Bool) → a ≡ true → (a || b) ≡ true
or_left true b h = refl
or_left false b h = absurd (cc)

or_right : (a b : Bool) → b ≡ true → (a || b) ≡ true
or_right true b h = refl
or_right false b h = h

module _ {X : Type 0} (pages : ℕ → Bool) (f : X → ℕ) where
  all_of_any : (xs : List X) → ((page : ℕ) → list_any (λ x. f x == page) xs ≡ true → pages page ≡ true) → list_all (λ x. pages (f x)) xs ≡ true
  all_of_any [] h = refl
  all_of_any (x ∷ xs) h =
      and_true _ _ (h (f x) (or_left _ _ (eq-eqb (f x) (f x) refl))) (all_of_any xs (λ page is. h page (or_right (f x == page) _ is)))

  any_of_all : (page : ℕ) (xs : List X) → list_all (λ x. pages (f x)) xs ≡ true → list_any (λ x. f x == page) xs ≡ true → pages page ≡ true
  any_of_all page [] all any = absurd (cc)
  any_of_all page (x ∷ xs) all any = one (f x == page) refl any (λ g. any_of_all page xs (and_right (pages (f x)) _ all) g)
    where
      one : (b : Bool) → (f x == page) ≡ b → (b || list_any (λ x. f x == page) xs) ≡ true → (list_any (λ x. f x == page) xs ≡ true → pages page ≡ true) → pages page ≡ true
      one true is g rest = ap pages (sym (eqb-true (f x) page is)) ∙ and_left _ _ all
      one false is g rest = rest g

or_case : (a b : Bool) → (a || b) ≡ true → (a ≡ true) ⊎ (b ≡ true)
or_case true b h = inl refl
or_case false b h = inr h

pub named_by_mapping : (page : ℕ) (p : Processor) → list_any (λ m. m.ppage == page) p.mappings ≡ true → names page p ≡ true
named_by_mapping page p h = or_left _ _ (or_left _ _ (or_left _ _ h))

named_by_entry : (page : ℕ) (p : Processor) → list_any (λ e. e.ppage == page) p.entries ≡ true → names page p ≡ true
named_by_entry page p h = or_left _ _ (or_left _ _ (or_right _ _ h))

pub named_by_line : (page : ℕ) (p : Processor) → list_any (λ l. page_of_line l == page) p.lines ≡ true → names page p ≡ true
named_by_line page p h = or_left _ _ (or_right _ _ h)

named_by_buffer : (page : ℕ) (p : Processor) → list_any (λ l. page_of_line l == page) p.buffers ≡ true → names page p ≡ true
named_by_buffer page p h = or_right _ _ h

pub within_of : (pages : ℕ → Bool) (p : Processor) → ((page : ℕ) → names page p ≡ true → pages page ≡ true) → IsWithin pages p
within_of pages p h = record {
  mapped = all_of_any pages (λ (m : Mapping). m.ppage) p.mappings (λ page is. h page (named_by_mapping page p is));
  entered = all_of_any pages (λ (e : Entry). e.ppage) p.entries (λ page is. h page (named_by_entry page p is));
  cached = all_of_any pages page_of_line p.lines (λ page is. h page (named_by_line page p is));
  buffered = all_of_any pages page_of_line p.buffers (λ page is. h page (named_by_buffer page p is));
}

pub names_within : (pages : ℕ → Bool) (p : Processor) → IsWithin pages p → (page : ℕ) → names page p ≡ true → pages page ≡ true
names_within pages p w page named =
    ⊎_elim
    (λ (h : (list_any (λ m. m.ppage == page) p.mappings || list_any (λ e. e.ppage == page) p.entries || list_any (λ l. page_of_line l == page) p.lines) ≡ true).
    ⊎_elim
    (λ (g : (list_any (λ m. m.ppage == page) p.mappings || list_any (λ e. e.ppage == page) p.entries) ≡ true).
    ⊎_elim
    (λ (f : list_any (λ m. m.ppage == page) p.mappings ≡ true). any_of_all pages (λ (m : Mapping). m.ppage) page p.mappings w.mapped f)
    (λ (f : list_any (λ e. e.ppage == page) p.entries ≡ true). any_of_all pages (λ (e : Entry). e.ppage) page p.entries w.entered f)
    (or_case _ _ g))
    (λ (g : list_any (λ l. page_of_line l == page) p.lines ≡ true). any_of_all pages page_of_line page p.lines w.cached g)
    (or_case _ _ h))
    (λ (h : list_any (λ l. page_of_line l == page) p.buffers ≡ true). any_of_all pages page_of_line page p.buffers w.buffered h)
    (or_case _ _ named)

pub not_named : (pages : ℕ → Bool) (p : Processor) → ((page : ℕ) → pages page ≡ true → names page p ≡ false) → list_all (in_pages (other_pages pages)) p.lines ≡ true
not_named pages p h = all_of_any (other_pages pages) page_of_line p.lines (λ page is. one page (pages page) refl (named_by_line page p is))
  where
    one : (page : ℕ) (b : Bool) → pages page ≡ b → names page p ≡ true → not b ≡ true
    one page true is named = let e : names page p ≡ false = h page is in absurd (cc)
    one page false is named = refl

-- ---- a step of an update leaves what the processor has in its pages

module _ (pages : ℕ → Bool) where
  within_reload : (p : Processor) → IsWithin pages p → IsWithin pages (reload_cr3 p)
  within_reload p w = record { mapped = w.mapped; entered = all_filter (λ (e : Entry). pages e.ppage) (λ e. e.global) p.entries w.entered; cached = w.cached; buffered = w.buffered }

  within_flush : (ph : Phase) (p : Processor) → IsWithin pages p → IsWithin pages (flush_tlb ph p)
  within_flush Flushed2 p w = within_reload p w
  within_flush ph p w = one p.page_global
    where
      one : (b : Bool) → IsWithin pages (if b then record p { remembered_global = true; page_global = false; entries = [] } else record (reload_cr3 p) { remembered_global = false })
      one true = record { mapped = w.mapped; entered = refl; cached = w.cached; buffered = w.buffered }
      one false = let r = within_reload p w in record { mapped = r.mapped; entered = r.entered; cached = r.cached; buffered = r.buffered }

  within_step : (goal : RegisterFile) (e : Event) (p : Processor) → IsWithin pages p → IsWithin pages (own_step goal e p)
  within_step goal (WriteBack a v) p w = record { mapped = w.mapped; entered = w.entered; cached = passes_changed (in_pages pages) (a / 64) (clean_word (word_of a)) (λ l t. t) p.lines w.cached; buffered = w.buffered }
  within_step goal DropLines p w = record { mapped = w.mapped; entered = w.entered; cached = refl; buffered = w.buffered }
  within_step goal FlushTlb p w = let r = within_flush p.phase p w in record { mapped = r.mapped; entered = r.entered; cached = r.cached; buffered = r.buffered }
  within_step goal e p w = record { mapped = w.mapped; entered = w.entered; cached = w.cached; buffered = w.buffered }

-- ---- words

words_join : (pages : ℕ → Bool) (xs ws bs : List ℕ) → length ws ≡ length xs → length bs ≡ length xs → words_on (other_pages pages) xs ws ≡ words_on (other_pages pages) xs bs → words_from pages xs (words_on pages xs ws) bs ≡ ws
words_join pages [] [] [] long size same = refl
words_join pages [] (w ∷ ws) bs long size same = absurd (omega arith)
words_join pages [] [] (b ∷ bs) long size same = absurd (omega arith)
words_join pages (a ∷ xs) [] bs long size same = absurd (omega arith)
words_join pages (a ∷ xs) (w ∷ ws) [] long size same = absurd (omega arith)
words_join pages (a ∷ xs) (w ∷ ws) (b ∷ bs) long size same =
    let head : (if not (pages (a / 4096)) then w else 0) ≡ (if not (pages (a / 4096)) then b else 0) = cc in
    let tail : words_on (other_pages pages) xs ws ≡ words_on (other_pages pages) xs bs = cc in
    let e = one (pages (a / 4096)) head in
    let r = words_join pages xs ws bs (omega arith) (omega arith) tail in
    λ i. e i ∷ r i
  where
    one : (c : Bool) → (if not c then w else 0) ≡ (if not c then b else 0) → (if c then (if c then w else 0) else b) ≡ w
    one true h = refl
    one false h = sym h

words_swap : (pages others : ℕ → Bool) → AreApart pages others → (xs us vs ws : List ℕ) → words_from others xs vs (words_from pages xs us ws) ≡ words_from pages xs us (words_from others xs vs ws)
words_swap pages others apart [] us vs ws = refl
words_swap pages others apart (a ∷ xs) [] vs ws = refl
words_swap pages others apart (a ∷ xs) (u ∷ us) [] ws = refl
words_swap pages others apart (a ∷ xs) (u ∷ us) (v ∷ vs) [] = refl
words_swap pages others apart (a ∷ xs) (u ∷ us) (v ∷ vs) (w ∷ ws) =
    let e = one (pages (a / 4096)) (others (a / 4096)) (apart (a / 4096)) in
    let r = words_swap pages others apart xs us vs ws in
    λ i. e i ∷ r i
  where
    one : (b c : Bool) → (b ≡ true → c ≡ false) → (if c then v else (if b then u else w)) ≡ (if b then u else (if c then v else w))
    one true true h = absurd (let e = h refl in cc)
    one true false h = refl
    one false true h = refl
    one false false h = refl

-- ---- from an owner to the two systems, and back

module _ (pages : ℕ → Bool) (k : ℕ) (s : System) (memory : IsMemory s.memory) (owner : IsOwner pages k s) where
  own_has : HasAddresses s.memory.windows
  own_has = has_addresses s.memory memory

  own_outside : AreOutside pages k s.processors
  own_outside j r apart at = not_named pages r (owner.others j r apart at)

  own_start : Own pages k s.processors s.memory s (own_system pages k s)
  own_start = record {
    p = owner.processor;
    m = s.memory;
    whole = ap (λ (rs : List Processor). record { processors = rs; memory = s.memory }) (sym (set_back s.processors k owner.processor owner.at));
    alone = ap (λ (x : Option Processor). record { processors = option_map_or (λ p. p ∷ []) x []; memory = own_memory pages s.memory }) owner.at;
    beside = record { count = refl; words = refl };
    within = within_of pages owner.processor owner.own;
  }

  own_end : (t o : System) → Own pages k s.processors s.memory t o → Becomes pages k s t o
  own_end t o h = record {
    own =
        ap (own_system pages k) h.whole
        ∙ ap (λ (x : Option Processor). record { processors = option_map_or (λ p. p ∷ []) x []; memory = own_memory pages h.m }) (set_there s.processors k owner.processor h.p owner.at)
        ∙ sym h.alone;
    whole = h.whole ∙ ap (λ (m : Memory). record { processors = set s.processors k h.p; memory = m }) joined ∙ sym (ap (λ (u : System). with_own pages k u s) h.alone);
    owner = record {
      processor = h.p;
      at = ap (λ (u : System). slice_get u.processors k) h.whole ∙ set_there s.processors k owner.processor h.p owner.at;
      own = names_within pages h.p h.within;
      others = λ j q apart at.
          ⊎_elim
          (λ (e : (j ≡ k) × (h.p ≡ q)). absurd (apart e.0))
          (λ (e : (j ≢ k) × (slice_get s.processors j ≡ Some q)). owner.others j q apart e.1)
          (at_put s.processors k j h.p q (sym (ap (λ (u : System). slice_get u.processors j) h.whole) ∙ at));
    };
  }
    where
      windows : h.m.windows ≡ s.memory.windows
      windows = ap (λ (m : Memory). m.windows) h.beside.words

      words : words_from pages (addresses s.memory.windows) (words_on pages (addresses h.m.windows) h.m.words) s.memory.words ≡ h.m.words
      words =
          ap (λ (ws : List Window). words_from pages (addresses s.memory.windows) (words_on pages (addresses ws) h.m.words) s.memory.words) windows
          ∙ words_join pages (addresses s.memory.windows) h.m.words s.memory.words
          (h.beside.count ∙ memory.counted ∙ sym (length_addresses s.memory.windows)) (memory.counted ∙ sym (length_addresses s.memory.windows))
          (sym (ap (λ (ws : List Window). words_on (other_pages pages) (addresses ws) h.m.words) windows) ∙ ap (λ (m : Memory). m.words) h.beside.words)

      joined : h.m ≡ record s.memory { words = words_from pages (addresses s.memory.windows) (words_on pages (addresses h.m.windows) h.m.words) s.memory.words }
      joined = λ i. record { windows = windows i; words = sym words i }

  -- ---- accesses

  own_ran : (ops : List Op) (t o : System) → Own pages k s.processors s.memory t o → ((ran k ops t).answers ≡ (ran 0 ops o).answers) × Own pages k s.processors s.memory (ran k ops t).after (ran 0 ops o).after
  own_ran [] t o h = (refl, h)
  own_ran (op ∷ ops) t o h =
      let first = access_alike pages k s.processors s.memory owner.processor owner.at own_has own_outside op t o h in
      let rest = own_ran ops (access t k op).after (access o 0 op).after first.after in
      ((λ i. first.answer i ∷ rest.0 i), rest.1)

  pub runs_alone : (ops : List Op) → RunsAlone pages k ops s
  runs_alone ops =
      let r = own_ran ops s (own_system pages k s) own_start in
      record { answers = r.0; after = own_end (ran k ops s).after (ran 0 ops (own_system pages k s)).after r.1 }

  -- ---- steps of an update

  pub drains_alone : Becomes pages k s (drain k s) (drain 0 (own_system pages k s))
  drains_alone = own_end (drain k s) (drain 0 (own_system pages k s)) (own_drain pages k s.processors s.memory owner.processor owner.at own_has own_outside s (own_system pages k s) own_start)

  own_stepped : (goal : RegisterFile) (e : Event) (t o : System) → WritesOn pages e → Own pages k s.processors s.memory t o → Own pages k s.processors s.memory (step goal e k t) (step goal e 0 o)
  own_stepped goal e t o on h =
      let r = before e on in
      own_change pages k s.processors s.memory owner.processor owner.at own_has own_outside (own_step goal e) (before_own e k t) (before_own e 0 o) r (within_step pages goal e r.p r.within)
    where
      before : (e : Event) → WritesOn pages e → Own pages k s.processors s.memory (before_own e k t) (before_own e 0 o)
      before Take on = own_drain pages k s.processors s.memory owner.processor owner.at own_has own_outside t o h
      before (WriteBack a v) on = own_store pages k s.processors s.memory owner.processor owner.at own_has own_outside a v t o on h
      before e on = h

  pub steps_alone : (goal : RegisterFile) (e : Event) → WritesOn pages e → Becomes pages k s (step goal e k s) (step goal e 0 (own_system pages k s))
  steps_alone goal e on = own_end (step goal e k s) (step goal e 0 (own_system pages k s)) (own_stepped goal e s (own_system pages k s) on own_start)

-- ---- what others own stands

words_long : (pages : ℕ → Bool) (xs vs ws : List ℕ) → length (words_from pages xs vs ws) ≡ length ws
words_long pages [] vs ws = refl
words_long pages (a ∷ xs) [] ws = refl
words_long pages (a ∷ xs) (v ∷ vs) [] = refl
words_long pages (a ∷ xs) (v ∷ vs) (w ∷ ws) = ap suc (words_long pages xs vs ws)

pub words_left : (pages others : ℕ → Bool) → AreApart pages others → (xs vs ws : List ℕ) → words_on others xs (words_from pages xs vs ws) ≡ words_on others xs ws
words_left pages others apart [] vs ws = refl
words_left pages others apart (a ∷ xs) [] ws = refl
words_left pages others apart (a ∷ xs) (v ∷ vs) [] = refl
words_left pages others apart (a ∷ xs) (v ∷ vs) (w ∷ ws) =
    let e = one (pages (a / 4096)) (others (a / 4096)) (apart (a / 4096)) in
    let r = words_left pages others apart xs vs ws in
    λ i. e i ∷ r i
  where
    one : (b c : Bool) → (b ≡ true → c ≡ false) → (if c then (if b then v else w) else 0) ≡ (if c then w else 0)
    one true true h = absurd (let e = h refl in cc)
    one false true h = refl
    one b false h = refl

put_other : (ps qs : List Processor) (j k : ℕ) → j ≢ k → slice_get (put_first k qs ps) j ≡ slice_get ps j
put_other ps [] j k apart = refl
put_other ps (q ∷ qs) j k apart = other_at ps j k q apart

module _ (pages : ℕ → Bool) (k : ℕ) (s t alone : System) (b : Becomes pages k s t alone) where
  pub memory_after : IsMemory s.memory → IsMemory t.memory
  memory_after h = subst IsMemory (sym (ap (λ (u : System). u.memory) b.whole)) (record {
    some_lines = h.some_lines;
    aligned = h.aligned;
    bounded = h.bounded;
    apart = h.apart;
    counted = words_long pages (addresses s.memory.windows) alone.memory.words s.memory.words ∙ h.counted;
  })

  module _ (others : ℕ → Bool) (j : ℕ) (other : IsOwner others j s) (differ : j ≢ k) (apart : AreApart pages others) where
    at_after : (i : ℕ) → i ≢ k → slice_get t.processors i ≡ slice_get s.processors i
    at_after i far = ap (λ (u : System). slice_get u.processors i) b.whole ∙ put_other s.processors alone.processors i k far

    pub same_system : own_system others j t ≡ own_system others j s
    same_system =
        ap (own_system others j) b.whole
        ∙ (λ i. record {
          processors = option_map_or (λ p. p ∷ []) (put_other s.processors alone.processors j k differ i) [];
          memory = record s.memory { words = words_left pages others apart (addresses s.memory.windows) alone.memory.words s.memory.words i };
        })

    pub stays_owner : IsOwner others j t
    stays_owner = record {
      processor = other.processor;
      at = at_after j differ ∙ other.at;
      own = other.own;
      others = λ i q far at page is. dite (ℕ_discrete i k)
          (λ (e : i ≡ k). at_k q (sym (ap (slice_get t.processors) e) ∙ at) page is (names page q) refl)
          (λ (n : i ≢ k). other.others i q far (sym (at_after i n) ∙ at) page is);
    }
      where
        at_k : (q : Processor) → slice_get t.processors k ≡ Some q → (page : ℕ) → others page ≡ true → (c : Bool) → names page q ≡ c → c ≡ false
        at_k q at page is true named =
            let e : b.owner.processor ≡ q = (let f : Some b.owner.processor ≡ Some q = sym b.owner.at ∙ at in cc) in
            let on = apart page (b.owner.own page (ap (names page) e ∙ named)) in
            absurd (cc)
        at_k q at page is false named = refl

-- ---- accesses of two processors

put_swap : (k j : ℕ) → k ≢ j → (us vs ps : List Processor) → put_first j vs (put_first k us ps) ≡ put_first k us (put_first j vs ps)
put_swap k j apart [] vs ps = refl
put_swap k j apart (u ∷ us) [] ps = refl
put_swap k j apart (u ∷ us) (v ∷ vs) ps = set_comm ps k j u v apart

with_swap : (pages others : ℕ → Bool) (k j : ℕ) → k ≢ j → AreApart pages others → (a b s : System) → with_own others j b (with_own pages k a s) ≡ with_own pages k a (with_own others j b s)
with_swap pages others k j differ apart a b s =
    let ps = put_swap k j differ a.processors b.processors s.processors in
    let ws = words_swap pages others apart (addresses s.memory.windows) a.memory.words b.memory.words s.memory.words in
    λ i. record { processors = ps i; memory = record s.memory { words = ws i } }

apart_back : (pages others : ℕ → Bool) → AreApart pages others → AreApart others pages
apart_back pages others apart page is = one (pages page) refl
  where
    one : (b : Bool) → pages page ≡ b → b ≡ false
    one true at = absurd (let e = apart page at in cc)
    one false at = refl

module _ (pages others : ℕ → Bool) (k j : ℕ) (s : System) (memory : IsMemory s.memory) (owner : IsOwner pages k s) (other : IsOwner others j s) (differ : k ≢ j) (apart : AreApart pages others) where
  back : AreApart others pages
  back = apart_back pages others apart

  -- those of k behind those of j
  after_j : (bs : List Op) → Becomes others j s (ran j bs s).after (ran 0 bs (own_system others j s)).after
  after_j bs = (runs_alone others j s memory other bs).after

  behind : (ops bs : List Op) → RunsAlone pages k ops (ran j bs s).after
  behind ops bs =
      let b = after_j bs in
      runs_alone pages k (ran j bs s).after (memory_after others j s (ran j bs s).after _ b memory) (stays_owner others j s (ran j bs s).after _ b pages k owner differ back) ops

  behind_same : (ops bs : List Op) → ran 0 ops (own_system pages k (ran j bs s).after) ≡ ran 0 ops (own_system pages k s)
  behind_same ops bs = ap (ran 0 ops) (same_system others j s (ran j bs s).after _ (after_j bs) pages k owner differ back)

pub commute : (pages others : ℕ → Bool) (k j : ℕ) (s : System) → IsMemory s.memory → IsOwner pages k s → IsOwner others j s → k ≢ j → AreApart pages others → (ops bs : List Op) → Commute k j ops bs s
commute pages others k j s memory owner other differ apart ops bs =
    let back = apart_back pages others apart in
    let far : j ≢ k = λ e. differ (sym e) in
    let first = behind pages others k j s memory owner other differ apart ops bs in
    let second = behind others pages j k s memory other owner far back bs ops in
    let same_k = behind_same pages others k j s memory owner other differ apart ops bs in
    let same_j = behind_same others pages j k s memory other owner far back bs ops in
    let alone_k = runs_alone pages k s memory owner ops in
    let alone_j = runs_alone others j s memory other bs in
    let a : System = (ran 0 ops (own_system pages k s)).after in
    let b : System = (ran 0 bs (own_system others j s)).after in
    record {
      first = first.answers ∙ ap (λ (r : Ran). r.answers) same_k ∙ sym alone_k.answers;
      second = second.answers ∙ ap (λ (r : Ran). r.answers) same_j ∙ sym alone_j.answers;
      after =
          second.after.whole
          ∙ ap (λ (r : Ran). with_own others j r.after (ran k ops s).after) same_j
          ∙ ap (with_own others j b) alone_k.after.whole
          ∙ with_swap pages others k j differ apart a b s
          ∙ sym (ap (with_own pages k a) alone_j.after.whole)
          ∙ sym (ap (λ (r : Ran). with_own pages k r.after (ran j bs s).after) same_k)
          ∙ sym first.after.whole;
    }

-- ---- where no page is named by two, each processor owns those that it names

one_named : (page : ℕ) (ps : List Processor) (j : ℕ) (q : Processor) → slice_get ps j ≡ Some q → names page q ≡ true → 1 ≤ naming ps page
one_named page [] j q at named = absurd (cc)
one_named page (p ∷ ps) zero q at named =
    let e : p ≡ q = cc in
    let on : names page p ≡ true = ap (names page) e ∙ named in
    let c : naming (p ∷ ps) page ≡ 1 + naming ps page = count_more (names page) p ps ∙ ap (λ (b : Bool). cond b 1 0 + naming ps page) on in
    omega arith
one_named page (p ∷ ps) (suc j) q at named = let r = one_named page ps j q at named in let c = count_more (names page) p ps in omega arith

pub two_named : (page : ℕ) (ps : List Processor) (j k : ℕ) (p q : Processor) → j ≢ k → slice_get ps j ≡ Some p → slice_get ps k ≡ Some q → names page p ≡ true → names page q ≡ true → 2 ≤ naming ps page
two_named page [] j k p q apart at_p at_q x y = absurd (cc)
two_named page (r ∷ ps) zero zero p q apart at_p at_q x y = absurd (apart refl)
two_named page (r ∷ ps) zero (suc k) p q apart at_p at_q x y =
    let e : r ≡ p = cc in
    let on : names page r ≡ true = ap (names page) e ∙ x in
    let c : naming (r ∷ ps) page ≡ 1 + naming ps page = count_more (names page) r ps ∙ ap (λ (b : Bool). cond b 1 0 + naming ps page) on in
    let d = one_named page ps k q at_q y in
    omega arith
two_named page (r ∷ ps) (suc j) zero p q apart at_p at_q x y =
    let e : r ≡ q = cc in
    let on : names page r ≡ true = ap (names page) e ∙ y in
    let c : naming (r ∷ ps) page ≡ 1 + naming ps page = count_more (names page) r ps ∙ ap (λ (b : Bool). cond b 1 0 + naming ps page) on in
    let d = one_named page ps j p at_p x in
    omega arith
two_named page (r ∷ ps) (suc j) (suc k) p q apart at_p at_q x y =
    let d = two_named page ps j k p q (λ e. apart (ap suc e)) at_p at_q x y in
    let c = count_more (names page) r ps in
    omega arith

pub private_owner : (s : System) (k : ℕ) (p : Processor) → IsPrivate s → slice_get s.processors k ≡ Some p → IsOwner (pages_of p) k s
private_owner s k p private at = record {
  processor = p;
  at = at;
  own = λ page named. named;
  others = λ j q apart at_q page named. one q j page (names page q) refl apart at_q named;
}
  where
    one : (q : Processor) (j page : ℕ) (b : Bool) → names page q ≡ b → j ≢ k → slice_get s.processors j ≡ Some q → names page p ≡ true → b ≡ false
    one q j page true is apart at_q named = let few = private page in let two = two_named page s.processors j k q p apart at_q at is named in absurd (omega arith)
    one q j page false is apart at_q named = refl
