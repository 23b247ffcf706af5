-- Which entries registers may make: of a page that the registers at the start or the goal let be cached, or of no cached type.
use Rattle.std.proofs.Common.{◌≡◌, ◌∙◌, ap, refl, sym, subst, arith, ℕ, zero, suc, ◌+◌, ◌<◌, ◌-◌, ◌/◌, ◌%◌, ◌^◌, Bool, true, false, List, [], ◌∷◌, ◌++◌, length, Option, Some, ne_eqb}
use Rattle.std.specs.Prelude.{◌==◌, not, ◌&&◌, ◌||◌, if◌then◌else◌, nat_lt, slice_index_or}
use Rattle.std.specs.List.{list_all, list_any}
use Rattle.std.proofs.lemmas.Bool.{eq-eqb, eqb-true}
use Rattle.mt_kinds.specs.Bits.{bits, is_bit_set}
use Rattle.mt_kinds.specs.EffectiveType.{effective_type}
use Rattle.mt_kinds.specs.Pat.{pat_entry}
use Rattle.mt_kinds.specs.declared.mem_type.MemType.TheVariants.{UC}
use Rattle.mt_kinds.specs.declared.pat_type.PatType.{PatType}
use Rattle.mt_kinds.specs.declared.pat_type.PatType.TheVariants.{UC as PatUC, WC as PatWC, WT as PatWT, WP as PatWP, WB as PatWB, UCMinus as PatUCMinus}
use Rattle.mt_regs.specs.PageTypes.{combined, defined_type, fixed_type, listed_type, matching_types}
use Rattle.mt_regs.specs.RegisterFile.{RegisterFile, has_fixed, is_enabled, is_fixed_enabled, low_byte, pair_count}
use Rattle.mt_regs.specs.Registers.{fixed_part_of, fixed_registers, pair_registers, value_of, with_value, writable}
use Rattle.mt_regs.specs.declared.page_type.PageType.{PageType}
use Rattle.mt_regs.specs.declared.page_type.PageType.TheVariants.{Kind}
use Rattle.mt_regs.specs.declared.registers.Register.{Register}
use Rattle.mt_regs.specs.declared.registers.Register.TheVariants.{DefaultType, FixedRange, Pat, PhysBase, PhysMask}
use Rattle.mt_tlb.specs.Entries.{find_mapping, maps_page}
use Rattle.mt_tlb.specs.declared.entry.Entry.{Entry}
use Rattle.mt_tlb.specs.declared.mapping.Mapping.{Mapping}
use Rattle.mt_machine.specs.Access.{is_cached, is_running, new_entry}
use Rattle.mt_machine.specs.Machine.{with_goal, without_enable}
use Rattle.mt_machine.specs.System.{Processor}
use Rattle.mt_laws.proofs.Barrier.Ranks.{and_left, and_right}
use Rattle.mt_laws.proofs.Clearing.Follows.{all_append}
use Rattle.mt_search.specs.Wrongs.{caches, caches_by, type_by}
use Rattle.mt_judge_laws.proofs.Accessing.{find_any, find_chosen, made_by, made_now, runs_new}
use Rattle.mt_judge_laws.proofs.Held.{HoldsRight, all_more, both, or_last, right_entry, view}

-- ---- entries

-- the registers of the goal, or those that the processor had at the start, let its page be cached; or its type isn't cached
abbrev pub is_known : RegisterFile → Processor → Entry → Bool
is_known goal first e = not (is_cached e.kind) || (caches goal first e.vpage || caches first.file first e.vpage)

-- registers give a cached type only where the goal or those of the start do
abbrev pub MakeKnown : RegisterFile → RegisterFile → RegisterFile → Type 0
MakeKnown goal first f = (m : Mapping) → is_cached (type_by f m) ≡ true → (is_cached (type_by goal m) || is_cached (type_by first m)) ≡ true

pub or_first : (a b : Bool) → a ≡ true → (a || b) ≡ true
or_first true b h = refl
or_first false b h = absurd (cc)

pub goal_makes : (goal first f : RegisterFile) → f ≡ goal → MakeKnown goal first f
goal_makes goal first f same m h = or_first (is_cached (type_by goal m)) _ (ap (λ g. is_cached (type_by g m)) (sym same) ∙ h)

pub first_makes : (goal first f : RegisterFile) → f ≡ first → MakeKnown goal first f
first_makes goal first f same m h = or_last (is_cached (type_by goal m)) _ (ap (λ g. is_cached (type_by g m)) (sym same) ∙ h)

pub known_new : (goal : RegisterFile) (first p : Processor) → p.mappings ≡ first.mappings → MakeKnown goal first.file p.file → (page : ℕ) (m : Mapping) → find_mapping page p.mappings ≡ Some m
    → is_known goal first (new_entry p m) ≡ true
known_new goal first p mappings makes page m found = one (is_cached (type_by p.file m)) refl
  where
    here : find_mapping page first.mappings ≡ Some m
    here = ap (find_mapping page) (sym mappings) ∙ found

    given : (f : RegisterFile) → is_cached (type_by f m) ≡ true → caches f first m.vpage ≡ true
    given f cached =
        find_any (caches_by f m.vpage) (maps_page page) first.mappings m here (both (m.vpage == m.vpage) _ (eq-eqb m.vpage m.vpage refl) cached)

    either : (a b : Bool) → is_cached (type_by goal m) ≡ a → is_cached (type_by first.file m) ≡ b → (a || b) ≡ true → (caches goal first m.vpage || caches first.file first m.vpage) ≡ true
    either true b is_a is_b h = or_first (caches goal first m.vpage) _ (given goal is_a)
    either false true is_a is_b h = or_last (caches goal first m.vpage) _ (given first.file is_b)
    either false false is_a is_b h = absurd (cc)

    one : (c : Bool) → is_cached (type_by p.file m) ≡ c → (not c || (caches goal first m.vpage || caches first.file first m.vpage)) ≡ true
    one true cached = either (is_cached (type_by goal m)) (is_cached (type_by first.file m)) refl refl (makes m cached)
    one false cached = refl

-- at the start each entry is one that the registers make
pub known_first : (goal : RegisterFile) (p : Processor) → is_running p.phase ≡ true → HoldsRight p → list_all (is_known goal p) p.entries ≡ true
known_first goal p runs right = all_more (right_entry (view p)) (is_known goal p) each p.entries right.right_entries
  where
    each : (e : Entry) → right_entry (view p) e ≡ true → is_known goal p e ≡ true
    each e h = one (is_cached e.kind) refl
      where
        one : (c : Bool) → is_cached e.kind ≡ c → (not c || (caches goal p e.vpage || caches p.file p e.vpage)) ≡ true
        one true cached =
            let m = made_by p e (made_now p e (runs_new p.phase runs) h) in
            let key : m.mapping.vpage ≡ e.vpage = eqb-true m.mapping.vpage e.vpage (find_chosen (maps_page e.vpage) p.mappings m.mapping m.is) in
            or_last (caches goal p e.vpage) _
            (find_any (caches_by p.file e.vpage) (maps_page e.vpage) p.mappings m.mapping m.is
            (both (m.mapping.vpage == e.vpage) _ (eq-eqb m.mapping.vpage e.vpage key) (ap is_cached m.kind ∙ cached)))
        one false cached = refl

-- ---- registers whose ranges are off

uncached : (t : PatType) → is_cached (effective_type UC t) ≡ false
uncached PatUC = refl
uncached PatUCMinus = refl
uncached PatWC = refl
uncached PatWT = refl
uncached PatWP = refl
uncached PatWB = refl

abbrev pick : Bool → PageType → PageType → PageType
pick b x y = if b then x else y

pub off_makes : (goal first f : RegisterFile) → is_enabled f ≡ false → MakeKnown goal first f
off_makes goal first f off m h = absurd (let e = none in cc)
  where
    none : is_cached (type_by f m) ≡ false
    none =
        ap (λ b. is_cached (effective_type (defined_type (pick (not b) (Kind UC)
        (if is_fixed_enabled f && nat_lt m.ppage 0x100 then Kind (fixed_type f m.ppage) else combined (listed_type (low_byte f.default_type)) (matching_types f m.ppage)))) (pat_entry f.pat m.index))) off
        ∙ uncached (pat_entry f.pat m.index)

-- clearing E turns them off
pub disabled_is_off : (f : RegisterFile) → is_enabled (without_enable f) ≡ false
disabled_is_off f = one (is_bit_set f.default_type 11) refl
  where
    one : (b : Bool) → is_bit_set f.default_type 11 ≡ b → is_bit_set (if b then f.default_type - 2 ^ 11 else f.default_type) 11 ≡ false
    one true set = ne_eqb (bits (f.default_type - 2 ^ 11) 11 1) 1 (λ h. let was : f.default_type / 2048 % 2 ≡ 1 = eqb-true (bits f.default_type 11 1) 1 set in let still : (f.default_type - 2048) / 2048 % 2 ≡ 1 = h in omega (arith, was, still))
    one false clear = clear

-- and the writing of any other register leaves them off
abbrev is_range : Register → Bool
is_range DefaultType = false
is_range other = true

pairs_range : (first count : ℕ) → list_all is_range (pair_registers first count) ≡ true
pairs_range first zero = refl
pairs_range first (suc count) = pairs_range (first + 1) count

fixed_range : (f : RegisterFile) → list_all is_range (fixed_part_of f) ≡ true
fixed_range f = one (has_fixed f)
  where
    one : (b : Bool) → list_all is_range (if b then fixed_registers else []) ≡ true
    one true = refl
    one false = refl

before_last : (rs : List Register) (i : ℕ) → list_all is_range rs ≡ true → i + 1 < length (rs ++ Pat ∷ DefaultType ∷ []) → is_range (slice_index_or (rs ++ Pat ∷ DefaultType ∷ []) i DefaultType) ≡ true
before_last [] zero all within = refl
before_last [] (suc i) all within = absurd (let few : suc i + 1 < 2 = within in omega (arith, few))
before_last (r ∷ rs) zero all within = and_left (is_range r) _ all
before_last (r ∷ rs) (suc i) all within =
    let more : suc i + 1 < suc (length (rs ++ Pat ∷ DefaultType ∷ [])) = within in
    before_last rs i (and_right (is_range r) _ all) (omega (arith, more))

stays : (r : Register) (f : RegisterFile) (v : ℕ) → is_range r ≡ true → is_enabled (with_value f r v) ≡ is_enabled f
stays DefaultType f v h = absurd (cc)
stays other f v h = refl

pub written_is_off : (goal f : RegisterFile) (i : ℕ) → i + 1 < length (writable goal) → is_enabled f ≡ false → is_enabled (with_goal goal (slice_index_or (writable goal) i DefaultType) f) ≡ false
written_is_off goal f i within off =
    let r : Register = slice_index_or (writable goal) i DefaultType in
    stays r f (value_of goal r)
    (before_last (pair_registers 0 (pair_count goal) ++ fixed_part_of goal) i
    (all_append is_range (pair_registers 0 (pair_count goal)) (fixed_part_of goal) (pairs_range 0 (pair_count goal)) (fixed_range goal)) within)
    ∙ off
