-- Processors with a page of their own each.
use Rattle.std.proofs.Common.{◌≡◌, ◌≢◌, ◌∙◌, ap, sym, refl, arith, below_more, inl, inr, subst, ⊎_elim, ℕ, suc, ◌+◌, ◌*◌, ◌-◌, ◌<◌, ◌≤◌, ◌^◌, Bool, true, false, cond, None, Some, List, [], ◌∷◌, ◌++◌}
use Rattle.std.specs.Prelude.{◌==◌, ◌||◌, ◌⊎◌, if◌then◌else◌, slice_get, map, replicate}
use Rattle.std.specs.List.{All, range_with_len}
use Rattle.std.proofs.lemmas.Bool.{eqb-true}
use Rattle.std.proofs.lemmas.List.{length-map, length-replicate}
use Rattle.std.proofs.lemmas.List.Elements.{All-map, All-replicate}
use Rattle.std.proofs.lemmas.List.FromFn.{map-range_with_len_more}
use Rattle.mt_kinds.specs.declared.mem_type.MemType.{MemType}
use Rattle.mt_kinds.specs.declared.mem_type.MemType.TheVariants.{UC}
use Rattle.mt_ranges.specs.Match.{matches_pair}
use Rattle.mt_regs.specs.declared.page_type.PageType.TheVariants.{Undefined}
use Rattle.mt_regs.specs.Faults.{IsAccepted}
use Rattle.mt_regs.specs.PageTypes.{combined, pair_type}
use Rattle.mt_regs.specs.RegisterFile.{RegisterFile, page_count}
use Rattle.mt_tlb.specs.declared.mapping.Mapping.{Mapping}
use Rattle.mt_tlb.specs.Entries.{is_full_for, set_mapping}
use Rattle.mt_machine.specs.declared.control.Control.TheVariants.{Map}
use Rattle.mt_machine.specs.Memory.{Memory, Window}
use Rattle.mt_machine.specs.System.{Processor, System, change, start_processor}
use Rattle.mt_machine.specs.Machine.{FitsControl, FitsGoal, Machine}
use Rattle.mt_machine.specs.Start.{HasEraRoom, start_machine}
use Rattle.mt_machine.specs.Access.{is_running}
use Rattle.mt_machine.specs.Control.{RuledAfter, control}
use Rattle.mt_laws.proofs.Barrier.Claims.{all_get, all_of}
use Rattle.mt_laws.proofs.Barrier.Stages.{control_stages}
use Rattle.mt_laws.proofs.Barrier.Still.{change_memory}
use Rattle.mt_laws.proofs.Clearing.Follows.{follows_control}
use Rattle.mt_laws.proofs.Clearing.Renewed.{at_change, option_case}
use Rattle.mt_laws.proofs.Steps.StepCounts.{count_more}
use Rattle.mt_bus.proofs.Tables.{same_length}
use Rattle.mt_ram.specs.Windows.{refusal}
use Rattle.mt_core.specs.Arises.{grown}
use Rattle.mt_private.specs.Pages.{IsPrivate, names, naming}
use Rattle.mt_cli.specs.Measured.{IsSetUp, file_of, own_page, own_window, with_own}

-- ---- the registers

-- a page that one pair matches, or none, has a type
one_type : (default : MemType) (pair : ℕ × ℕ) (matches : Bool) → combined default (map pair_type (if matches then pair ∷ [] else [])) ≢ Undefined
one_type default pair true is = cc is
one_type default pair false is = cc is

pub start_accepted : IsAccepted (file_of 6)
start_accepted = λ page below undefined. one_type UC (6, 0xf00000800) (matches_pair 36 (6, 0xf00000800) page) undefined

pub goal_accepted : IsAccepted (file_of 4)
goal_accepted = λ page below undefined. one_type UC (4, 0xf00000800) (matches_pair 36 (4, 0xf00000800) page) undefined

-- ---- at the start

each_start : (count : ℕ) (P : Processor → Type 0) → P (start_processor (file_of 6)) → All P (map start_processor (replicate count (file_of 6)))
each_start count P h = All-map P start_processor (replicate count (file_of 6)) (All-replicate (λ (f : RegisterFile). P (start_processor f)) count (file_of 6) h)

pub start_set_up : (count : ℕ) → IsSetUp count (start_machine (replicate count (file_of 6)) [])
start_set_up count = record {
  size = length-map (replicate count (file_of 6)) start_processor ∙ length-replicate count (file_of 6);
  order = refl;
  fits = each_start count (FitsGoal (file_of 4)) (record { width = refl; capabilities = refl });
  eras = each_start count (λ p. p.era ≡ 0) refl;
}

-- ---- one more page

pub own_set_up : (count : ℕ) (m : Machine) (k : ℕ) → IsSetUp count m → IsSetUp count (with_own m k)
own_set_up count m k h =
    let s = (grown (own_window k) m).system in
    let from = follows_control s k (Map (own_page k)) in
    record {
      size = same_length s (control s k (Map (own_page k))).after (control_stages s k (Map (own_page k))) ∙ h.size;
      order = h.order;
      fits = all_of (FitsGoal (file_of 4)) (with_own m k).system.processors
          (λ i q at. let was = from i q at in
          let fits = all_get (FitsGoal (file_of 4)) m.system.processors h.fits i was.0 was.1 in
          record { width = fits.width ∙ sym (ap (λ (f : RegisterFile). f.width) was.2.file); capabilities = fits.capabilities ∙ sym (ap (λ (f : RegisterFile). f.capabilities) was.2.file) });
      eras = all_of (λ p. p.era ≡ 0) (with_own m k).system.processors
          (λ i q at. let was = from i q at in was.2.era ∙ all_get (λ p. p.era ≡ 0) m.system.processors h.eras i was.0 was.1);
    }

pub has_room : (count : ℕ) (m : Machine) → IsSetUp count m → HasEraRoom m
has_room count m h =
    all_of (λ p. p.era < 2 ^ 64 - 1) m.system.processors
    (λ i q at. let e = all_get (λ p. p.era ≡ 0) m.system.processors h.eras i q at in omega arith)

-- the page lies below 2 ^ 24
pub fits_own : (m : Machine) (k : ℕ) → k < 16 → All (FitsGoal (file_of 4)) m.system.processors → (p : Processor) → slice_get m.system.processors k ≡ Some p → FitsControl p (Map (own_page k))
fits_own m k low all p at =
    let fits = all_get (FitsGoal (file_of 4)) m.system.processors all k p at in
    let pages : page_count p.file ≡ 2 ^ 24 = sym (ap (λ (w : ℕ). 2 ^ (w - 12)) fits.width) in
    let below : 0x100 * k < page_count p.file = omega arith in
    (omega arith, below, omega arith)

-- ---- windows

abbrev pub own_windows : ℕ → List Window
own_windows k = map own_window (range_with_len 0 k)

abbrev HasRoom : ℕ → Type 0
HasRoom k = refusal (own_windows k) (own_window k) ≡ None

-- the next one has room, up to sixteen
pub window_has_room : (k : ℕ) → k < 16 → HasRoom k
window_has_room =
    more 15 (more 14 (more 13 (more 12 (more 11 (more 10 (more 9 (more 8 (more 7 (more 6 (more 5 (more 4 (more 3 (more 2 (more 1 (more 0
    (λ k low. absurd (omega arith)) refl) refl) refl) refl) refl) refl) refl) refl) refl) refl) refl) refl) refl) refl) refl) refl
  where
    more : (n : ℕ) → ((k : ℕ) → k < n → HasRoom k) → HasRoom n → (k : ℕ) → k < n + 1 → HasRoom k
    more n below here = below_more HasRoom n below here

either_side : (P : RuledAfter → Type 0) (x y : RuledAfter) → P x → P y → (b : Bool) → P (if b then x else y)
either_side P x y first second true = first
either_side P x y first second false = second

-- what holds before a page is mapped, and after, holds whatever is answered
map_case : (P : System → Type 0) (s : System) (k : ℕ) (m : Mapping) → P s → P (change (λ q. record q { mappings = set_mapping m q.mappings }) k s) → P (control s k (Map m)).after
map_case P s k m same changed =
    option_case (slice_get s.processors k) _ _ P_after same
    (λ p. either_side P_after _ _ (either_side P_after _ _ same changed (is_full_for m p.mappings)) same (is_running p.phase))
  where
    P_after : RuledAfter → Type 0
    P_after r = P r.after

pub one_more_window : (m : Machine) (k : ℕ) → m.system.memory.windows ≡ own_windows k → (with_own m k).system.memory.windows ≡ own_windows (k + 1)
one_more_window m k are =
    let s = (grown (own_window k) m).system in
    map_case (λ (t : System). t.memory.windows ≡ s.memory.windows) s k (own_page k) refl
    (ap (λ (x : Memory). x.windows) (change_memory (λ q. record q { mappings = set_mapping (own_page k) q.mappings }) k s))
    ∙ ap (λ (ws : List Window). ws ++ own_window k ∷ []) are
    ∙ sym (map-range_with_len_more own_window 0 k k (omega arith))

-- ---- pages

-- processor k names its own page at most
pub record NamesOwn (k : ℕ) (p : Processor) : Type 0 where
  mappings : (p.mappings ≡ []) ⊎ (p.mappings ≡ own_page k ∷ [])
  entries : p.entries ≡ []
  lines : p.lines ≡ []
  buffers : p.buffers ≡ []

abbrev pub EachNamesOwn : System → Type 0
EachNamesOwn s = (k : ℕ) (p : Processor) → slice_get s.processors k ≡ Some p → NamesOwn k p

record NamesNone (p : Processor) : Type 0 where
  mappings : p.mappings ≡ []
  entries : p.entries ≡ []
  lines : p.lines ≡ []
  buffers : p.buffers ≡ []

pub start_names_none : (count : ℕ) → EachNamesOwn (start_machine (replicate count (file_of 6)) []).system
start_names_none count k p at =
    let none = all_get NamesNone (map start_processor (replicate count (file_of 6))) (each_start count NamesNone (record { mappings = refl; entries = refl; lines = refl; buffers = refl })) k p at in
    record { mappings = inl none.mappings; entries = none.entries; lines = none.lines; buffers = none.buffers }

own_set : (k : ℕ) (ms : List Mapping) → (ms ≡ []) ⊎ (ms ≡ own_page k ∷ []) → set_mapping (own_page k) ms ≡ own_page k ∷ []
own_set k ms (inl none) = ap (set_mapping (own_page k)) none
own_set k ms (inr own) = ap (set_mapping (own_page k)) own

abbrev with_page : ℕ → Processor → Processor
with_page k p = record p { mappings = set_mapping (own_page k) p.mappings }

own_with_page : (k : ℕ) (p : Processor) → NamesOwn k p → NamesOwn k (with_page k p)
own_with_page k p h = record { mappings = inr (own_set k p.mappings h.mappings); entries = h.entries; lines = h.lines; buffers = h.buffers }

pub one_more_page : (m : Machine) (k : ℕ) → EachNamesOwn m.system → EachNamesOwn (with_own m k).system
one_more_page m k own = map_case EachNamesOwn (grown (own_window k) m).system k (own_page k) own changed
  where
    changed : EachNamesOwn (change (with_page k) k (grown (own_window k) m).system)
    changed i q at =
        ⊎_elim (λ (e : (i ≡ k) × (x : Processor) × (slice_get m.system.processors k ≡ Some x) × (with_page k x ≡ q)). subst (λ (j : ℕ). NamesOwn j q) (sym e.0) (subst (NamesOwn k) e.3 (own_with_page k e.1 (own k e.1 e.2))))
        (λ (e : (i ≢ k) × (slice_get m.system.processors i ≡ Some q)). own i q e.1)
        (at_change (with_page k) k (grown (own_window k) m).system i q at)

named_is_own : (k page : ℕ) (p : Processor) → NamesOwn k p → names page p ≡ true → page ≡ 0x100 * k
named_is_own k page p h named = ⊎_elim (λ (none : p.mappings ≡ []). absurd (let e = mapped [] none in cc e)) (λ (own : p.mappings ≡ own_page k ∷ []). one (0x100 * k == page) refl (mapped (own_page k ∷ []) own)) h.mappings
  where
    mapped : (ms : List Mapping) → p.mappings ≡ ms → names page (record p { mappings = ms; entries = []; lines = []; buffers = [] }) ≡ true
    mapped ms are =
        let same : names page p ≡ names page (record p { mappings = ms; entries = []; lines = []; buffers = [] }) =
        (λ j. names page (record p { mappings = are j; entries = h.entries j; lines = h.lines j; buffers = h.buffers j })) in
        sym same ∙ named

    one : (b : Bool) → (0x100 * k == page) ≡ b → ((b || false) || false || false || false) ≡ true → page ≡ 0x100 * k
    one true is found = sym (eqb-true (0x100 * k) page is)
    one false is found = absurd (cc found)

none_naming : (page : ℕ) (ps : List Processor) → ((k : ℕ) (p : Processor) → slice_get ps k ≡ Some p → names page p ≡ true → ⊥) → naming ps page ≡ 0
none_naming page [] never = refl
none_naming page (p ∷ ps) never = one (names page p) refl (none_naming page ps (λ k q at. never (suc k) q at))
  where
    one : (b : Bool) → names page p ≡ b → naming ps page ≡ 0 → naming (p ∷ ps) page ≡ 0
    one true is rest = absurd (never 0 p refl is)
    one false is rest =
        let count : naming (p ∷ ps) page ≡ 0 + naming ps page = count_more (names page) p ps ∙ ap (λ (b : Bool). cond b 1 0 + naming ps page) is in
        omega (arith, count, rest)

one_naming : (page : ℕ) (ps : List Processor) → ((i j : ℕ) (p q : Processor) → slice_get ps i ≡ Some p → slice_get ps j ≡ Some q → names page p ≡ true → names page q ≡ true → i ≡ j) → naming ps page ≤ 1
one_naming page [] same = let none : naming [] page ≡ 0 = refl in omega (arith, none)
one_naming page (p ∷ ps) same = one (names page p) refl (one_naming page ps (λ i j a b at_a at_b x y. let e = same (suc i) (suc j) a b at_a at_b x y in omega (arith, e)))
  where
    one : (b : Bool) → names page p ≡ b → naming ps page ≤ 1 → naming (p ∷ ps) page ≤ 1
    one true is rest =
        let count : naming (p ∷ ps) page ≡ 1 + naming ps page = count_more (names page) p ps ∙ ap (λ (b : Bool). cond b 1 0 + naming ps page) is in
        let none = none_naming page ps (λ k q at named. let e = same 0 (suc k) p q refl at is named in omega (arith, e)) in
        omega (arith, count, none)
    one false is rest =
        let count : naming (p ∷ ps) page ≡ 0 + naming ps page = count_more (names page) p ps ∙ ap (λ (b : Bool). cond b 1 0 + naming ps page) is in
        omega (arith, count, rest)

pub none_shared : (s : System) → EachNamesOwn s → IsPrivate s
none_shared s own page =
    one_naming page s.processors
    (λ i j p q at_p at_q x y. let a = named_is_own i page p (own i p at_p) x in let b = named_is_own j page q (own j q at_q) y in omega (arith, a, b))
