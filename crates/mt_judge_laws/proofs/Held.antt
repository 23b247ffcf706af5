-- What a processor may hold in each phase, by its registers and mappings.
use Rattle.std.proofs.Common.{◌≡◌, ◌∙◌, ap, sym, refl, subst, ℕ, ◌-◌, ◌^◌, Bool, true, false, List, [], ◌∷◌}
use Rattle.std.specs.Prelude.{◌==◌, not, ◌&&◌, ◌||◌, if◌then◌else◌}
use Rattle.std.specs.List.{filter, list_all, list_any}
use Rattle.std.specs.Option.{option_map_or}
use Rattle.std.specs.Int.Bits.{and_zero_l}
use Rattle.std.proofs.lemmas.Bool.{eqb-true}
use Rattle.mt_kinds.specs.EffectiveType.{effective_type}
use Rattle.mt_kinds.specs.Pat.{pat_entry}
use Rattle.mt_kinds.specs.declared.mem_type.MemType.{MemType}
use Rattle.mt_kinds.specs.declared.mem_type.MemType.TheVariants.{UC, WC, WB}
use Rattle.mt_regs.specs.PageTypes.{defined_type, is_type, page_type}
use Rattle.mt_regs.specs.RegisterFile.{RegisterFile}
use Rattle.mt_cache.specs.declared.line.CacheLine.{CacheLine}
use Rattle.mt_cache.specs.Lines.{clear_bit}
use Rattle.mt_tlb.specs.Entries.{find_mapping}
use Rattle.mt_tlb.specs.declared.entry.Entry.{Entry}
use Rattle.mt_tlb.specs.declared.mapping.Mapping.{Mapping}
use Rattle.mt_machine.specs.declared.phase.Phase.{Phase}
use Rattle.mt_machine.specs.declared.phase.Phase.TheVariants.{Writing, Enabled, Flushed, Flushed2, TlbFlushed}
use Rattle.mt_machine.specs.Access.{is_cached, is_running}
use Rattle.mt_machine.specs.System.{Processor}
use Rattle.mt_laws.proofs.Barrier.Ranks.{and_left, and_right}
use Rattle.mt_search.specs.declared.wrong.Kept.{Kept}
use Rattle.mt_search.specs.declared.wrong.Kept.TheVariants.{CleanLine, DirtyLine, Buffer}
use Rattle.mt_search.specs.Wrongs.{allows, page_of}

-- ---- tests

-- the registers have changed, and the caches aren't flushed yet
abbrev pub has_old_lines : Phase → Bool
has_old_lines (Writing i) = true
has_old_lines Enabled = true
has_old_lines other = false

-- the same of the TLB
abbrev pub has_old_entries : Phase → Bool
has_old_entries (Writing i) = true
has_old_entries Enabled = true
has_old_entries Flushed2 = true
has_old_entries other = false

-- the caches are flushed, unless the processor is self-snooping, and not yet a second time
abbrev pub is_flushed : Phase → Bool
is_flushed Flushed = true
is_flushed TlbFlushed = true
is_flushed (Writing i) = true
is_flushed Enabled = true
is_flushed other = false

-- what decides whether a processor may hold something
pub record View : Type 0 where
  pub file : RegisterFile
  pub mappings : List Mapping
  pub flushed : Bool
  pub old_lines : Bool
  pub old_entries : Bool
  pub runs : Bool
  pub page_global : Bool

abbrev pub view : Processor → View
view p = record {
  file = p.file;
  mappings = p.mappings;
  flushed = is_flushed p.phase && not p.self_snoop;
  old_lines = has_old_lines p.phase;
  old_entries = has_old_entries p.phase;
  runs = is_running p.phase;
  page_global = p.page_global;
}

abbrev pub kind_by : View → Mapping → MemType
kind_by v m = effective_type (defined_type (page_type v.file m.ppage)) (pat_entry v.file.pat m.index)

-- a mapping of this physical page allows what is kept. As long as lines may be old, any mapping does
abbrev pub allows_held : View → Kept → ℕ → Mapping → Bool
allows_held v what page m = (m.ppage == page) && (v.old_lines || allows what (kind_by v m))

-- no line is left behind the first flush
abbrev pub may_hold : View → Kept → ℕ → Bool
may_hold v what page = not v.flushed && list_any (allows_held v what page) v.mappings

abbrev pub kept_by : ℕ → Kept
kept_by dirty = if dirty == 0 then CleanLine else DirtyLine

abbrev pub right_line : View → CacheLine → Bool
right_line v l = may_hold v (kept_by l.dirty) (page_of l)

-- a processor in an update has no buffer
abbrev pub right_buffer : View → CacheLine → Bool
right_buffer v b = v.runs && may_hold v Buffer (page_of b)

abbrev pub is_made : View → Entry → Bool
is_made v e = option_map_or (λ m. (e.ppage == m.ppage) && is_type e.kind (kind_by v m)) (find_mapping e.vpage v.mappings) false

-- with PGE clear no entry is global
abbrev pub right_entry : View → Entry → Bool
right_entry v e = (v.old_entries || is_made v e) && (v.page_global || not e.global)

pub record AreRight (v : View) (lines buffers : List CacheLine) (entries : List Entry) : Type 0 where
  pub right_lines : list_all (right_line v) lines ≡ true
  pub right_buffers : list_all (right_buffer v) buffers ≡ true
  pub right_entries : list_all (right_entry v) entries ≡ true

-- all that a processor holds is right by its own registers and mappings
abbrev pub HoldsRight : Processor → Type 0
HoldsRight p = AreRight (view p) p.lines p.buffers p.entries

-- ---- lists

pub both : (a b : Bool) → a ≡ true → b ≡ true → (a && b) ≡ true
both true b h g = g
both false b h g = absurd (cc)

pub or_more : (a b c : Bool) → (b ≡ true → c ≡ true) → (a || b) ≡ true → (a || c) ≡ true
or_more true b c more h = refl
or_more false b c more h = more h

pub or_last : (a b : Bool) → b ≡ true → (a || b) ≡ true
or_last true b h = refl
or_last false b h = h

pub any_more : {X : Type 0} → (f g : X → Bool) → ((x : X) → f x ≡ true → g x ≡ true) → (xs : List X) → list_any f xs ≡ true → list_any g xs ≡ true
any_more f g more [] h = h
any_more f g more (x ∷ xs) h = one (f x) (g x) (more x) (any_more f g more xs) h
  where
    one : (a b : Bool) → (a ≡ true → b ≡ true) → (list_any f xs ≡ true → list_any g xs ≡ true) → (a || list_any f xs) ≡ true → (b || list_any g xs) ≡ true
    one true true to rest h = refl
    one true false to rest h = absurd (let e : false ≡ true = to refl in cc)
    one false true to rest h = refl
    one false false to rest h = rest h

pub all_more : {X : Type 0} → (f g : X → Bool) → ((x : X) → f x ≡ true → g x ≡ true) → (xs : List X) → list_all f xs ≡ true → list_all g xs ≡ true
all_more f g more [] h = h
all_more f g more (x ∷ xs) h = both (g x) _ (more x (and_left _ _ h)) (all_more f g more xs (and_right (f x) _ h))

pub all_both : {X : Type 0} → (f g : X → Bool) (xs : List X) → list_all f xs ≡ true → list_all g xs ≡ true → list_all (λ x. f x && g x) xs ≡ true
all_both f g [] h k = h
all_both f g (x ∷ xs) h k = both (f x && g x) _ (both (f x) _ (and_left _ _ h) (and_left _ _ k)) (all_both f g xs (and_right (f x) _ h) (and_right (g x) _ k))

-- a list whose elements pass no test passes any
pub none_passes : {X : Type 0} → (test : X → Bool) (xs : List X) → list_all (λ (x : X). false) xs ≡ true → list_all test xs ≡ true
none_passes test xs h = all_more (λ x. false) test (λ x off. absurd (cc)) xs h

-- ---- lines

written_is_cached : (t : MemType) → is_type WB t ≡ true → is_cached t ≡ true
written_is_cached UC h = absurd (cc)
written_is_cached WC h = absurd (cc)
written_is_cached other h = refl

-- where a dirty line may be, a clean one may
pub clean_held : (v : View) (n : ℕ) → may_hold v DirtyLine n ≡ true → may_hold v CleanLine n ≡ true
clean_held v n h =
    both (not v.flushed) _ (and_left _ _ h)
    (any_more (allows_held v DirtyLine n) (allows_held v CleanLine n)
    (λ m g. both (m.ppage == n) _ (and_left _ _ g) (or_more v.old_lines _ _ (written_is_cached (kind_by v m)) (and_right (m.ppage == n) _ g)))
    v.mappings (and_right (not v.flushed) _ h))

pub cleaned_is_held : (v : View) (dirty n : ℕ) → may_hold v (kept_by dirty) n ≡ true → may_hold v CleanLine n ≡ true
cleaned_is_held v dirty n h = one (dirty == 0) h
  where
    one : (b : Bool) → may_hold v (if b then CleanLine else DirtyLine) n ≡ true → may_hold v CleanLine n ≡ true
    one true g = g
    one false g = clean_held v n g

-- and one with a dirty word less
pub cleared_is_held : (v : View) (word dirty n : ℕ) → may_hold v (kept_by dirty) n ≡ true → may_hold v (kept_by (clear_bit dirty word)) n ≡ true
cleared_is_held v word dirty n h = one (dirty == 0) refl h
  where
    either : (b : Bool) → may_hold v DirtyLine n ≡ true → may_hold v (if b then CleanLine else DirtyLine) n ≡ true
    either true g = clean_held v n g
    either false g = g

    one : (b : Bool) → (dirty == 0) ≡ b → may_hold v (if b then CleanLine else DirtyLine) n ≡ true → may_hold v (kept_by (clear_bit dirty word)) n ≡ true
    one true is g =
        let none : clear_bit dirty word ≡ 0 = ap (λ d. clear_bit d word) (eqb-true dirty 0 is) ∙ and_zero_l (255 - 2 ^ word) in
        ap (λ d. may_hold v (kept_by d) n) none ∙ g
    one false is g = either (clear_bit dirty word == 0) g

-- ---- entries

pub none_global : (v : View) (es : List Entry) → v.page_global ≡ false → list_all (right_entry v) es ≡ true → filter (λ (e : Entry). e.global) es ≡ []
none_global v [] off h = refl
none_global v (e ∷ es) off h =
    one e.global (ap (λ b. b || not e.global) (sym off) ∙ and_right (v.old_entries || is_made v e) _ (and_left _ _ h))
    (none_global v es off (and_right (right_entry v e) _ h))
  where
    one : (b : Bool) → not b ≡ true → filter (λ (x : Entry). x.global) es ≡ [] → (if b then e ∷ filter (λ (x : Entry). x.global) es else filter (λ (x : Entry). x.global) es) ≡ []
    one true g rest = absurd (cc)
    one false g rest = rest

-- ---- equal registers, mappings and phases

-- all but what it holds
abbrev pub bare : Processor → Processor
bare p = record p { lines = []; buffers = []; entries = [] }

pub re_right : (p q : Processor) (lines buffers : List CacheLine) (entries : List Entry) → bare q ≡ bare p → AreRight (view p) lines buffers entries → AreRight (view q) lines buffers entries
re_right p q lines buffers entries same r = subst (λ (x : Processor). AreRight (view x) lines buffers entries) (sym same) r
