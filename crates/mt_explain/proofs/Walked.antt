-- Marks of pages between two edges of a file.
use Rattle.std.proofs.Common.{◌≡◌, ℕ, zero, suc, ◌<◌, ◌≤◌, ◌++◌, ◌∷◌, [], Bool, true, false, List, Some, None, refl, ap, sym, ◌∙◌, arith}
use Rattle.std.specs.Prelude.{if◌then◌else◌, length, nat_lt, not, ◌&&◌}
use Rattle.std.proofs.lemmas.Bool.{ltb-true}
use Rattle.std.proofs.lemmas.Bool.Decides.{nat_tests}
use Rattle.mt_ranges.specs.FixedPart.{fixed_part}
use Rattle.mt_ranges.specs.Match.{matches_pair}
use Rattle.mt_regs.specs.declared.page_type.PageType.{PageType}
use Rattle.mt_regs.specs.RegisterFile.{RegisterFile, is_enabled, is_fixed_enabled, page_count, pair_at}
use Rattle.mt_regs.specs.PageTypes.{matching_types, page_type}
use Rattle.mt_regs.specs.FirstFault.{is_undefined}
use Rattle.mt_regs.specs.Alike.{IsAlike}
use Rattle.mt_regs.proofs.Alike.{same_types}
use Rattle.mt_kinds.specs.declared.mem_type.MemType.{MemType}
use Rattle.mt_explain.specs.declared.decider.Decider.{Decider}
use Rattle.mt_explain.specs.declared.decider.Decider.TheVariants.{Switch, Fixed, Pairs}
use Rattle.mt_explain.specs.Deciders.{decider_from, decider_of, deciding_of, deciding_pairs}
use Rattle.mt_explain.specs.Pairs.{matching_pairs, numbers_below}
use Rattle.mt_explain.specs.Clashes.{clash_mark, numbers}
use Rattle.mt_explain.specs.TypeChanges.{type_shown}

same_numbers : (p q : ℕ → Bool) → ((n : ℕ) → p n ≡ q n) → (count : ℕ) → numbers_below p count ≡ numbers_below q count
same_numbers p q same zero = refl
same_numbers p q same (suc n) =
    ap (λ (ns : List ℕ). ns ++ (if p n then n ∷ [] else [])) (same_numbers p q same n)
    ∙ ap (λ (b : Bool). numbers_below q n ++ (if b then n ∷ [] else [])) (same n)

-- the pages up to the next edge are matched by the pairs that match the first
pub alike_pairs : (f : RegisterFile) (first end : ℕ) → IsAlike f first end → (page : ℕ) → first ≤ page → page < end → matching_pairs f page ≡ matching_pairs f first
alike_pairs f first end alike page low high =
    same_numbers (λ n. matches_pair f.width (pair_at f.pairs n) page) (λ n. matches_pair f.width (pair_at f.pairs n) first) (λ n. alike.pairs n page low high) (length f.pairs)

-- they have the first's mark
pub alike_marks : (f : RegisterFile) (first end : ℕ) → IsAlike f first end → (page : ℕ) → first ≤ page → page < end → clash_mark f page ≡ clash_mark f first
alike_marks f first end alike page low high =
    ap (λ (kind : PageType). if is_undefined kind then Some (numbers (matching_pairs f page)) else None) (alike.kind page low high)
    ∙ ap (λ (pairs : List ℕ). if is_undefined (page_type f first) then Some (numbers pairs) else None) (alike_pairs f first end alike page low high)

-- by pairs of the same types
pub alike_types : (f : RegisterFile) (first end : ℕ) → IsAlike f first end → (page : ℕ) → first ≤ page → page < end → matching_types f page ≡ matching_types f first
alike_types f first end alike page low high = same_types f.width first page f.pairs (λ n _. alike.pairs n page low high)

abbrev among : Bool → Bool → Bool → ℕ → List ℕ → Decider
among enabled on low place ns = if not enabled then Switch else if on && low then Fixed place else Pairs (numbers ns)

behind_fixed : (enabled on : Bool) (p q : ℕ) (ns : List ℕ) → among enabled on false p ns ≡ among enabled on false q ns
behind_fixed enabled true p q ns = refl
behind_fixed enabled false p q ns = refl

-- if they are of the first's fixed part too, the same registers give them their types
pub alike_deciders : (f : RegisterFile) (first page : ℕ) → matching_pairs f page ≡ matching_pairs f first → matching_types f page ≡ matching_types f first
    → (nat_lt page 0x100 ≡ nat_lt first 0x100) × (first < 0x100 → fixed_part page ≡ fixed_part first) → decider_of f page ≡ decider_of f first
alike_deciders f first page pairs types part =
    ap (λ (ns : List ℕ). among (is_enabled f) (is_fixed_enabled f) (nat_lt page 0x100) (fixed_part page).0 (deciding_of f (matching_types f page) ns)) pairs
    ∙ ap (λ (ts : List MemType). among (is_enabled f) (is_fixed_enabled f) (nat_lt page 0x100) (fixed_part page).0 (deciding_of f ts (matching_pairs f first))) types
    ∙ ap (λ (b : Bool). among (is_enabled f) (is_fixed_enabled f) b (fixed_part page).0 (deciding_pairs f first)) part.0
    ∙ by (nat_lt first 0x100) refl
  where
    by : (b : Bool) → nat_lt first 0x100 ≡ b
        → among (is_enabled f) (is_fixed_enabled f) b (fixed_part page).0 (deciding_pairs f first) ≡ among (is_enabled f) (is_fixed_enabled f) b (fixed_part first).0 (deciding_pairs f first)
    by true low = ap (λ (p : ℕ × ℕ). among (is_enabled f) (is_fixed_enabled f) true p.0 (deciding_pairs f first)) (part.1 (ltb-true _ _ low))
    by false high = behind_fixed (is_enabled f) (is_fixed_enabled f) (fixed_part page).0 (fixed_part first).0 (deciding_pairs f first)

pub before_first : (f : RegisterFile) (first page : ℕ) → page < first → decider_from f first page ≡ None
before_first f first page below = ap (λ (b : Bool). if b then None else Some (decider_of f page)) (low page first below)
  where
    low : (a b : ℕ) → a < b → nat_lt a b ≡ true
    low a b less = grind (arith, nat_tests)

pub from_first : (f : RegisterFile) (first page : ℕ) → first ≤ page → decider_from f first page ≡ Some (decider_of f page)
from_first f first page above = ap (λ (b : Bool). if b then None else Some (decider_of f page)) (high page first above)
  where
    high : (a b : ℕ) → b ≤ a → nat_lt a b ≡ false
    high a b order = grind (arith, nat_tests)

shown_within : (f : RegisterFile) (page : ℕ) → page < page_count f → type_shown f page ≡ Some (page_type f page)
shown_within f page within = ap (λ (b : Bool). if b then Some (page_type f page) else None) (below page (page_count f) within)
  where
    below : (a b : ℕ) → a < b → nat_lt a b ≡ true
    below a b less = grind (arith, nat_tests)

-- and show the first's type
pub alike_shown : (f : RegisterFile) (first end : ℕ) → IsAlike f first end → first < end → end ≤ page_count f → (page : ℕ) → first ≤ page → page < end → type_shown f page ≡ type_shown f first
alike_shown f first end alike some bound page low high =
    shown_within f page (omega (arith, high, bound)) ∙ ap (λ (kind : PageType). Some kind) (alike.kind page low high) ∙ sym (shown_within f first (omega (arith, some, bound)))
