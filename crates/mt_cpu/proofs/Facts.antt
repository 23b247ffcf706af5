-- The facts of a processor's type after its entries are filtered, after one is filled, and after a mapping is set.
use Rattle.std.proofs.Common.{◌≡◌, ℕ, zero, suc, ◌<◌, ◌==◌, List, [], ◌∷◌, ◌++◌, length, map, drop, Bool, true, false, refl, sym, ap, subst, ◌∙◌, arith, Result, Ok, Err, OnOk, OnErr, IsTrue}
use Rattle.std.specs.Prelude.{if◌then◌else◌, ◌||◌}
use Rattle.std.specs.List.{All, filter}
use Rattle.std.proofs.lemmas.Bool.{eqb-true}
use Rattle.std.proofs.lemmas.List.Elements.{All-append, All-filter}
use Rattle.mt_regs.specs.RegisterFile.{page_count}
use Rattle.mt_tlb.specs.declared.entry.Entry.{Entry}
use Rattle.mt_tlb.specs.declared.mapping.Mapping.{Mapping}
use Rattle.mt_tlb.specs.Entries.{add_entry, is_mapped, set_mapping}
use Rattle.mt_machine.specs.declared.phase.Phase.TheVariants.{Running}
use Rattle.mt_machine.specs.System.{Processor, is_tlb_flushed}
use Rattle.mt_cpu.specs.declared.state.State.{State}
use Rattle.mt_cpu.specs.Facts.{KeepsFacts}
use Rattle.mt_cpu.specs.State.{processor_of}

-- ---- the block lends its state

pub lent : (s t : State) → s ≡ t → KeepsFacts (processor_of t) → KeepsFacts (processor_of s)
lent s t is h = subst (λ (x : State). KeepsFacts (processor_of x)) (sym is) h

all_tail : {X : Type 0} (P : X → Type 0) (x : X) (xs : List X) → All P (x ∷ xs) → All P xs
all_tail P x xs all k d within = all (suc k) d (omega arith)

all_cons : {X : Type 0} (P : X → Type 0) (x : X) (xs : List X) → P x → All P xs → All P (x ∷ xs)
all_cons P x xs head tail zero d within = head
all_cons P x xs head tail (suc k) d within = tail k d (omega arith)

all_one : {X : Type 0} (P : X → Type 0) (x : X) → P x → All P (x ∷ [])
all_one P x h zero d within = h
all_one P x h (suc k) d within = absurd (omega arith)

-- ---- entries are dropped

pub filtered : (test : Entry → Bool) (p : Processor) → KeepsFacts p → KeepsFacts (record p { entries = filter test p.entries })
filtered test p h = record {
  local_entries = λ off. All-filter test (λ (e : Entry). e.global ≡ false) p.entries (h.local_entries off);
  mapped = All-filter test (λ (e : Entry). IsTrue (is_mapped e.vpage p.mappings)) p.entries h.mapped;
  accepted = h.accepted;
  in_range = h.in_range;
  indexes = h.indexes;
  mapped_pages = h.mapped_pages;
  entry_pages = All-filter test (λ (e : Entry). e.ppage < page_count p.file) p.entries h.entry_pages;
  flushed = λ on. ap (filter test) (h.flushed on);
}

-- ---- an entry is filled

all_add : (P : Entry → Type 0) (e : Entry) (es : List Entry) → All P es → P e → All P (add_entry e es)
all_add P e es all h = All-append P _ (e ∷ []) (one (length es == 64)) (all_one P e h)
  where
    dropped : (xs : List Entry) → All P xs → All P (drop 1 xs)
    dropped [] g = g
    dropped (x ∷ xs) g = all_tail P x xs g

    one : (b : Bool) → All P (if b then drop 1 es else es)
    one true = dropped es all
    one false = all

pub filled : (e : Entry) (p : Processor) → p.phase ≡ Running → (p.page_global ≡ false → e.global ≡ false) → IsTrue (is_mapped e.vpage p.mappings) → e.ppage < page_count p.file → KeepsFacts p → KeepsFacts (record p { entries = add_entry e p.entries })
filled e p running local mapped page h = record {
  local_entries = λ off. all_add (λ (x : Entry). x.global ≡ false) e p.entries (h.local_entries off) (local off);
  mapped = all_add (λ (x : Entry). IsTrue (is_mapped x.vpage p.mappings)) e p.entries h.mapped mapped;
  accepted = h.accepted;
  in_range = h.in_range;
  indexes = h.indexes;
  mapped_pages = h.mapped_pages;
  entry_pages = all_add (λ (x : Entry). x.ppage < page_count p.file) e p.entries h.entry_pages page;
  flushed = λ on. let q : is_tlb_flushed Running ≡ true = ap is_tlb_flushed (sym running) ∙ on in absurd (cc);
}

-- ---- a mapping is set

all_change : {X : Type 0} (P : X → Type 0) (test : X → Bool) (y : X) (xs : List X) → All P xs → P y → All P (map (λ x. if test x then y else x) xs)
all_change P test y [] all h = all
all_change {X} P test y (x ∷ xs) all h = all_cons P _ _ (one (test x)) (all_change P test y xs (all_tail P x xs all) h)
  where
    one : (b : Bool) → P (if b then y else x)
    one true = h
    one false = all 0 x (omega arith)

all_set : (P : Mapping → Type 0) (m : Mapping) (ms : List Mapping) → All P ms → P m → All P (set_mapping m ms)
all_set P m ms all h = one (is_mapped m.vpage ms)
  where
    one : (b : Bool) → All P (if b then map (λ (x : Mapping). if x.vpage == m.vpage then m else x) ms else ms ++ m ∷ [])
    one true = all_change P (λ x. x.vpage == m.vpage) m ms all h
    one false = All-append P ms (m ∷ []) all (all_one P m h)

mapped_change : (page : ℕ) (m : Mapping) (ms : List Mapping) → is_mapped page (map (λ (x : Mapping). if x.vpage == m.vpage then m else x) ms) ≡ is_mapped page ms
mapped_change page m [] = refl
mapped_change page m (x ∷ ms) = one (x.vpage == m.vpage) refl ∙ ap (λ b. (x.vpage == page) || b) (mapped_change page m ms)
  where
    one : (b : Bool) → (x.vpage == m.vpage) ≡ b → (((if b then m else x).vpage == page) || is_mapped page (map (λ (x : Mapping). if x.vpage == m.vpage then m else x) ms)) ≡ ((x.vpage == page) || is_mapped page (map (λ (x : Mapping). if x.vpage == m.vpage then m else x) ms))
    one true is = ap (λ n. (n == page) || is_mapped page (map (λ (x : Mapping). if x.vpage == m.vpage then m else x) ms)) (sym (eqb-true x.vpage m.vpage is))
    one false is = refl

mapped_push : (page : ℕ) (m : Mapping) (ms : List Mapping) → IsTrue (is_mapped page ms) → IsTrue (is_mapped page (ms ++ m ∷ []))
mapped_push page m [] h = absurd (cc)
mapped_push page m (x ∷ ms) h = one (x.vpage == page) h (λ g. mapped_push page m ms g)
  where
    one : (b : Bool) → IsTrue (b || is_mapped page ms) → (IsTrue (is_mapped page ms) → IsTrue (is_mapped page (ms ++ m ∷ []))) → IsTrue (b || is_mapped page (ms ++ m ∷ []))
    one true g rest = g
    one false g rest = rest g

mapped_set : (page : ℕ) (m : Mapping) (ms : List Mapping) → IsTrue (is_mapped page ms) → IsTrue (is_mapped page (set_mapping m ms))
mapped_set page m ms h = one (is_mapped m.vpage ms)
  where
    one : (b : Bool) → IsTrue (is_mapped page (if b then map (λ (x : Mapping). if x.vpage == m.vpage then m else x) ms else ms ++ m ∷ []))
    one true = subst IsTrue (sym (mapped_change page m ms)) h
    one false = mapped_push page m ms h

set : (m : Mapping) (p : Processor) → m.index < 8 → m.ppage < page_count p.file → KeepsFacts p → KeepsFacts (record p { mappings = set_mapping m p.mappings })
set m p index page h = record {
  local_entries = h.local_entries;
  mapped = λ k d within. mapped_set _ m p.mappings (h.mapped k d within);
  accepted = h.accepted;
  in_range = h.in_range;
  indexes = all_set (λ (x : Mapping). x.index < 8) m p.mappings h.indexes index;
  mapped_pages = all_set (λ (x : Mapping). x.ppage < page_count p.file) m p.mappings h.mapped_pages page;
  entry_pages = h.entry_pages;
  flushed = h.flushed;
}

pub answered : {A B : Type 0} (r : Result A B) (m : Mapping) (p : Processor) (after : List Mapping) → OnOk r (after ≡ set_mapping m p.mappings) → OnErr r (after ≡ p.mappings) → m.index < 8 → m.ppage < page_count p.file → KeepsFacts p → KeepsFacts (record p { mappings = after })
answered (Ok a) m p after done kept index page h = subst (λ (ms : List Mapping). KeepsFacts (record p { mappings = ms })) (sym done) (set m p index page h)
answered (Err b) m p after done kept index page h = subst (λ (ms : List Mapping). KeepsFacts (record p { mappings = ms })) (sym kept) h

-- ---- a search leaves a list as it was

pub same_mappings : (p : Processor) (ms : List Mapping) → ms ≡ p.mappings → KeepsFacts p → KeepsFacts (record p { mappings = ms })
same_mappings p ms same h = subst (λ (xs : List Mapping). KeepsFacts (record p { mappings = xs })) (sym same) h

pub with_same_entries : (p : Processor) (es : List Entry) → es ≡ p.entries → record p { entries = es } ≡ p
with_same_entries p es same = ap (λ (xs : List Entry). record p { entries = xs }) same
