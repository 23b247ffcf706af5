-- A file whose pairs stand for ranges gives the types that the ranges give, and is accepted.
use Rattle.std.proofs.Common.{◌≡◌, ℕ, zero, suc, ◌+◌, ◌-◌, ◌*◌, ◌/◌, ◌%◌, ◌^◌, ◌<◌, ◌≤◌, ◌==◌, Bool, true, false, List, [], ◌∷◌, ◌++◌, length, map, Option, Some, None, refl, sym, ap, ◌∙◌, ◌⊎◌, inl, inr, arith, subst, eq-eqb}
use Rattle.std.specs.Prelude.{not, ◌&&◌, ◌||◌, replicate, if◌then◌else◌, slice_index_or}
use Rattle.std.specs.Option.{option_or}
use Rattle.std.specs.List.{AllByRecursion, filter}
use Rattle.std.proofs.lemmas.Bool.{cases_Bool}
use Rattle.std.proofs.lemmas.List.Elements.{recursion_from_All}
use Rattle.std.proofs.lemmas.List.{append_assoc}
use Rattle.std.proofs.lemmas.Nat.{pow-add, pow_pos}
use Rattle.std.proofs.Math.Nat.{div-eq_of_lt}
use Rattle.mt_kinds.specs.declared.mem_type.MemType.{MemType}
use Rattle.mt_kinds.specs.declared.mem_type.MemType.TheVariants.{UC, WC, WT, WP, WB}
use Rattle.mt_kinds.specs.Bits.{bits, is_bit_set}
use Rattle.mt_kinds.specs.Types.{byte_of_type}
use Rattle.mt_ranges.specs.declared.block.Block.{Block}
use Rattle.mt_ranges.specs.Match.{covers, is_run, matches_pair, page_field}
use Rattle.mt_ranges.proofs.Powers.{log_le, pow_below}
use Rattle.mt_ranges.proofs.Runs.{made_covers, made_run}
use Rattle.mt_regs.specs.declared.fault.Fault.{Fault}
use Rattle.mt_regs.specs.declared.fault.Reason.{Reason}
use Rattle.mt_regs.specs.declared.fault.Reason.TheVariants.{ReservedBit, UnsupportedType, BrokenMask}
use Rattle.mt_regs.specs.declared.page_type.PageType.TheVariants.{Kind, Undefined}
use Rattle.mt_regs.specs.declared.registers.Register.{Register}
use Rattle.mt_regs.specs.declared.registers.Register.TheVariants.{PhysBase, PhysMask, Pat, DefaultType}
use Rattle.mt_regs.specs.RegisterFile.{RegisterFile, has_fixed, has_write_combining, is_enabled, low_byte, page_count, pair_at, pair_count}
use Rattle.mt_regs.specs.Registers.{fixed_registers, pair_registers, value_of, fixed_part_of}
use Rattle.mt_regs.specs.PageTypes.{fixed_type, listed_type, page_type, page_type_among, pair_type, types_at as types_of_pairs}
use Rattle.mt_regs.specs.Faults.{IsAccepted, IsOverlap, fault_at, first_of, has_broken_mask, has_reserved_bit, has_unsupported_type, is_supported, reason_of, register_fault}
use Rattle.mt_types.specs.declared.run.Run.{Run}
use Rattle.mt_types.specs.Runs.{kind_at}
use Rattle.mt_tidy.specs.declared.range.Range.{Range}
use Rattle.mt_tidy.specs.Ranges.{holds_page, types_at}
use Rattle.mt_tidy.specs.Sound.{IsPairValue}
use Rattle.mt_tidy.specs.Wanted.{IsBlock, IsRangeOf, IsWanted, Gives, is_free}
use Rattle.mt_tidy.specs.declared.rules.Rules.{Rules}
use Rattle.mt_tidy.specs.Cost.{rules_of}
use Rattle.mt_tidy.specs.LeastList.{AreOf, AreUsable, IsLeastList}
use Rattle.mt_tidy.specs.Tidied.{IsTidied, pair_for, tidying, with_ranges}
use Rattle.mt_tidy.proofs.WholeCost.{usable_runs, wanted_kind}

-- the block of a range
block_of_range : (width : ℕ) → width ≤ 52 → (r : Range) → IsBlock width r → Block
block_of_range width narrow r is =
    let bound : 2 ^ (width - 12) ≤ 2 ^ 40 = pow_below (width - 12) 40 (omega arith) in
    record {
      first = r.first;
      log = r.log;
      small = log_le r.log 40 (omega (arith, is.within, bound));
      aligned = is.aligned;
      within_memory = omega (arith, is.within, bound);
    }

small_byte : (t : MemType) → byte_of_type t < 256
small_byte UC = omega arith
small_byte WC = omega arith
small_byte WT = omega arith
small_byte WP = omega arith
small_byte WB = omega arith

listed : (t : MemType) → listed_type (byte_of_type t) ≡ t
listed UC = refl
listed WC = refl
listed WT = refl
listed WP = refl
listed WB = refl

pub valid_bit : (x : ℕ) → is_bit_set (4096 * x + 2 ^ 11) 11 ≡ true
valid_bit x = eq-eqb ((4096 * x + 2 ^ 11) / 2 ^ 11 % 2 ^ 1) 1 (omega arith)

low_is : (x byte : ℕ) → byte < 256 → low_byte (4096 * x + byte) ≡ byte
low_is x byte small = omega arith

pub type_is : (width : ℕ) (r : Range) → pair_type (pair_for width r) ≡ r.kind
type_is width r = ap listed_type (low_is r.first (byte_of_type r.kind) (small_byte r.kind)) ∙ listed r.kind

-- the pair of a range matches its pages
pub matches_is : (width : ℕ) → width ≤ 52 → (r : Range) → IsBlock width r → (page : ℕ) → page < 2 ^ (width - 12) → matches_pair width (pair_for width r) page ≡ holds_page r page
unfolding block_of_range
matches_is width narrow r is page below =
    both (is_bit_set (pair_for width r).1 11) (covers width (pair_for width r) page) (valid_bit (2 ^ (width - 12) - 2 ^ r.log))
    ∙ sym (made_covers (block_of_range width narrow r is) width (byte_of_type r.kind) page (small_byte r.kind) is.within below)
  where
    both : (a b : Bool) → a ≡ true → (a && b) ≡ b
    both a b e = rw e refl

zeros_pass : (p : ℕ × ℕ → Bool) (kind : ℕ × ℕ → MemType) (n : ℕ) → p (0, 0) ≡ false → map kind (filter p (replicate n (0, 0))) ≡ []
zeros_pass p kind zero e = refl
zeros_pass p kind (suc n) e = rw e (zeros_pass p kind n e)

same_lists : (p : ℕ × ℕ → Bool) (q : Range → Bool) (pair : Range → ℕ × ℕ) (kind : ℕ × ℕ → MemType) (ranges : List Range) (n : ℕ) → p (0, 0) ≡ false
    → AllByRecursion (λ r. (p (pair r) ≡ q r) × (kind (pair r) ≡ r.kind)) ranges
    → map kind (filter p (map pair ranges ++ replicate n (0, 0))) ≡ map (λ r. r.kind) (filter q ranges)
same_lists p q pair kind [] n none_match same = zeros_pass p kind n none_match
same_lists p q pair kind (r ∷ rs) n none_match same = split (cases_Bool (q r)) (same_lists p q pair kind rs n none_match same.1)
  where
    others : List MemType
    others = map kind (filter p (map pair rs ++ replicate n (0, 0)))

    split : (q r ≡ true) ⊎ (q r ≡ false) → map kind (filter p (map pair rs ++ replicate n (0, 0))) ≡ map (λ r. r.kind) (filter q rs)
        → map kind (filter p (map pair (r ∷ rs) ++ replicate n (0, 0))) ≡ map (λ r. r.kind) (filter q (r ∷ rs))
    split (inl e) later =
        let m : p (pair r) ≡ true = same.0.0 ∙ e in
        rw (m, e) (ap (λ t. t ∷ map kind (filter p (map pair rs ++ replicate n (0, 0)))) same.0.1 ∙ ap (λ ts. r.kind ∷ ts) later)
    split (inr e) later =
        let m : p (pair r) ≡ false = same.0.0 ∙ e in
        rw (m, e) later

each_is : (P Q : Range → Type 0) → ((r : Range) → P r → Q r) → (rs : List Range) → AllByRecursion P rs → AllByRecursion Q rs
each_is P Q step [] all = tt
each_is P Q step (r ∷ rs) all = (step r all.0, each_is P Q step rs all.1)

-- the matching pairs have the types of the ranges that hold the page
types_are : (f : RegisterFile) → f.width ≤ 52 → (ranges : List Range) → AllByRecursion (IsRangeOf f) ranges → (page : ℕ) → page < page_count f
    → types_of_pairs f.width (with_ranges f ranges).pairs page ≡ types_at ranges page
types_are f narrow ranges of page below =
    same_lists (λ pair. matches_pair f.width pair page) (λ r. holds_page r page) (pair_for f.width) pair_type ranges (pair_count f - length ranges) refl
    (each_is (IsRangeOf f) (λ r. (matches_pair f.width (pair_for f.width r) page ≡ holds_page r page) × (pair_type (pair_for f.width r) ≡ r.kind))
    (λ r is. (matches_is f.width narrow r is.block page below, type_is f.width r)) ranges of)

pub kind_among : (f : RegisterFile) → f.width ≤ 52 → (ranges : List Range) → AllByRecursion (IsRangeOf f) ranges → (page : ℕ) → page < page_count f
    → page_type (with_ranges f ranges) page ≡ page_type_among f (types_at ranges page) page
kind_among f narrow ranges of page below = ap (λ ts. page_type_among f ts page) (types_are f narrow ranges of page below)

pub no_bits : (a b c : ℕ) → a ≡ 0 → b ≡ 0 → (not (a == 0) || not (b == 0)) ≡ false
no_bits a b c first second = rw (first, second) refl

pages_to_bytes : (width : ℕ) → 32 ≤ width → 2 ^ width ≡ 4096 * 2 ^ (width - 12)
pages_to_bytes width wide =
    let e : width - 12 + 12 ≡ width = omega arith in
    let split = pow-add 2 (width - 12) 12 in
    let whole : 2 ^ (width - 12 + 12) ≡ 2 ^ width = ap (λ n. 2 ^ n) e in
    omega (arith, split, whole)

range_passes : (f : RegisterFile) → 32 ≤ f.width → f.width ≤ 52 → (r : Range) → IsRangeOf f r → IsPairValue f (pair_for f.width r)
unfolding block_of_range
range_passes f wide narrow r is =
    let byte : byte_of_type r.kind < 256 = small_byte r.kind in
    let bytes = pages_to_bytes f.width wide in
    let some : 0 < 2 ^ r.log = pow_pos r.log in
    let base_high : (4096 * r.first + byte_of_type r.kind) / 2 ^ f.width ≡ 0 = div-eq_of_lt (omega (arith, byte, bytes, some, is.block.within)) in
    let mask_high : (4096 * (2 ^ (f.width - 12) - 2 ^ r.log) + 2 ^ 11) / 2 ^ f.width ≡ 0 = div-eq_of_lt (omega (arith, bytes, some, is.block.within)) in
    let run = made_run (block_of_range f.width narrow r is.block) f.width is.block.within in
    record {
      base_bits = no_bits (bits (4096 * r.first + byte_of_type r.kind) 8 4) ((4096 * r.first + byte_of_type r.kind) / 2 ^ f.width) 0 (omega (arith, byte)) base_high;
      base_type = ap (λ n. not (is_supported (has_write_combining f) n)) (low_is r.first (byte_of_type r.kind) byte) ∙ ap not is.supported;
      mask_bits = no_bits ((4096 * (2 ^ (f.width - 12) - 2 ^ r.log) + 2 ^ 11) % 2 ^ 11) ((4096 * (2 ^ (f.width - 12) - 2 ^ r.log) + 2 ^ 11) / 2 ^ f.width) 0 (omega arith) mask_high;
      mask_run = sound (is_bit_set (pair_for f.width r).1 11) (is_run (f.width - 12) (page_field f.width (pair_for f.width r).1)) run;
    }
  where
    sound : (a b : Bool) → b ≡ true → (a && not b) ≡ false
    sound true b e = rw e refl
    sound false b e = refl

pub zeros_no_fault : (f : RegisterFile) → IsPairValue f (0, 0)
zeros_no_fault f =
    let high : 0 / 2 ^ f.width ≡ 0 = div-eq_of_lt (pow_pos f.width) in
    record { base_bits = no_bits 0 (0 / 2 ^ f.width) 0 refl high; base_type = refl; mask_bits = no_bits 0 (0 / 2 ^ f.width) 0 refl high; mask_run = refl }

pair_passes : (P : ℕ × ℕ → Type 0) → P (0, 0) → (pair : Range → ℕ × ℕ) (ranges : List Range) → AllByRecursion (λ r. P (pair r)) ranges → (count n : ℕ)
    → P (slice_index_or (map pair ranges ++ replicate count (0, 0)) n (0, 0))
pair_passes P zeros pair [] all zero n = zeros
pair_passes P zeros pair [] all (suc count) zero = zeros
pair_passes P zeros pair [] all (suc count) (suc n) = pair_passes P zeros pair [] all count n
pair_passes P zeros pair (r ∷ rs) all count zero = all.0
pair_passes P zeros pair (r ∷ rs) all count (suc n) = pair_passes P zeros pair rs all.1 count n

pub no_reason : (a b c : Bool) → a ≡ false → b ≡ false → c ≡ false → (if a then Some ReservedBit else if b then Some UnsupportedType else if c then Some BrokenMask else None) ≡ None
no_reason a b c x y z = rw (x, y, z) refl

pub base_sound : (f : RegisterFile) (n : ℕ) → IsPairValue f (pair_at f.pairs n) → reason_of f (PhysBase n) ≡ None
base_sound f n passes = no_reason (has_reserved_bit f (PhysBase n) (value_of f (PhysBase n))) (has_unsupported_type f (PhysBase n) (value_of f (PhysBase n))) false passes.base_bits passes.base_type refl

pub mask_sound : (f : RegisterFile) (n : ℕ) → IsPairValue f (pair_at f.pairs n) → reason_of f (PhysMask n) ≡ None
mask_sound f n passes = no_reason (has_reserved_bit f (PhysMask n) (value_of f (PhysMask n))) false (has_broken_mask f (PhysMask n) (value_of f (PhysMask n))) passes.mask_bits refl passes.mask_run

pub fault_free : (r : Register) (why : Option Reason) (rest : Option Fault) → why ≡ None → option_or (fault_at r why) rest ≡ rest
fault_free r why rest e = rw e refl

-- sound pairs leave the first fault to the registers after them
pub pairs_first : (f : RegisterFile) → ((n : ℕ) → IsPairValue f (pair_at f.pairs n)) → (first count : ℕ) (others : List Register)
    → first_of f (pair_registers first count ++ others) ≡ first_of f others
pairs_first f sound first zero others = refl
pairs_first f sound first (suc count) others =
    fault_free (PhysBase first) (reason_of f (PhysBase first)) _ (base_sound f first (sound first))
    ∙ fault_free (PhysMask first) (reason_of f (PhysMask first)) _ (mask_sound f first (sound first))
    ∙ pairs_first f sound (first + 1) count others

right_none : {A : Type 0} (a b : Option A) → option_or a b ≡ None → b ≡ None
right_none None b h = h
right_none (Some x) b h = absurd (cc)

back_none : (f : RegisterFile) (front others : List Register) → first_of f (front ++ others) ≡ None → first_of f others ≡ None
back_none f [] others h = h
back_none f (r ∷ rs) others h = back_none f rs others (right_none _ _ h)

unfoldable pub other_registers : RegisterFile → List Register
other_registers f = fixed_part_of f ++ Pat ∷ DefaultType ∷ []

others_same : (f : RegisterFile) (pairs : List (ℕ × ℕ)) → first_of (record f { pairs = pairs }) (other_registers f) ≡ first_of f (other_registers f)
unfolding other_registers
others_same f pairs = by_fixed (has_fixed f)
  where
    by_fixed : (b : Bool) → first_of (record f { pairs = pairs }) ((if b then fixed_registers else []) ++ Pat ∷ DefaultType ∷ [])
        ≡ first_of f ((if b then fixed_registers else []) ++ Pat ∷ DefaultType ∷ [])
    by_fixed true = refl
    by_fixed false = refl

-- no register of the file with ranges has a fault
no_fault : (f : RegisterFile) → 32 ≤ f.width → f.width ≤ 52 → register_fault f ≡ None → (ranges : List Range) → AllByRecursion (IsRangeOf f) ranges
    → register_fault (with_ranges f ranges) ≡ None
unfolding other_registers
no_fault f wide narrow checked ranges of =
    let sound : (n : ℕ) → IsPairValue f (pair_at (with_ranges f ranges).pairs n) =
    λ n. pair_passes (IsPairValue f) (zeros_no_fault f) (pair_for f.width) ranges
    (each_is (IsRangeOf f) (λ r. IsPairValue f (pair_for f.width r)) (λ r is. range_passes f wide narrow r is) ranges of) (pair_count f - length ranges) n in
    let parts : (pair_registers 0 (pair_count f) ++ fixed_part_of f) ++ Pat ∷ DefaultType ∷ [] ≡ pair_registers 0 (pair_count f) ++ other_registers f =
    append_assoc (pair_registers 0 (pair_count f)) (fixed_part_of f) (Pat ∷ DefaultType ∷ []) in
    ap (first_of (with_ranges f ranges)) parts
    ∙ pairs_first (with_ranges f ranges) (λ n. record { base_bits = (sound n).base_bits; base_type = (sound n).base_type; mask_bits = (sound n).mask_bits; mask_run = (sound n).mask_run }) 0 (pair_count f) (other_registers f)
    ∙ others_same f (with_ranges f ranges).pairs
    ∙ back_none f (pair_registers 0 (pair_count f)) (other_registers f) (ap (first_of f) (sym parts) ∙ checked)

pub checked_of : (f : RegisterFile) → IsAccepted f → register_fault f ≡ None
checked_of f = by_register (register_fault f) refl
  where
    by_register : (o : Option Fault) → register_fault f ≡ o → IsAccepted f → register_fault f ≡ None
    by_register None is = λ accepted. is
    by_register (Some fault) is = λ accepted. let h : None ≡ Some fault = rw is at accepted in absurd (cc h)

pub accepted_of : (f : RegisterFile) → register_fault f ≡ None → IsOverlap f None → IsAccepted f
accepted_of f checked defined = rw checked defined

module _ (f : RegisterFile) (wide : 32 ≤ f.width) (narrow : f.width ≤ 52) (accepted : IsAccepted f) (enabled : is_enabled f ≡ true)
    (wanted : List Run) (good : IsWanted f wanted) (ranges : List Range) (gives : Gives f wanted ranges) where
  of : AllByRecursion (IsRangeOf f) ranges
  of = recursion_from_All (IsRangeOf f) ranges gives.ranges_of

  wanted_page : (page : ℕ) → page < page_count f → is_free f page ≡ false → page_type (with_ranges f ranges) page ≡ kind_at wanted page
  wanted_page page below nonfree = kind_among f narrow ranges of page below ∙ sym (gives.wanted_kinds page below nonfree)

  fixed_page : (types : List MemType) (page : ℕ) → is_free f page ≡ true → page_type_among f types page ≡ Kind (fixed_type f page)
  fixed_page types page free = rw (enabled, free) refl

  free_page : (page : ℕ) → is_free f page ≡ true → page_type (with_ranges f ranges) page ≡ page_type f page
  free_page page free = fixed_page (types_of_pairs f.width (with_ranges f ranges).pairs page) page free ∙ sym (fixed_page (types_of_pairs f.width f.pairs page) page free)

  defined : IsOverlap (with_ranges f ranges) None
  defined page below is = by_free (cases_Bool (is_free f page))
    where
      by_free : (is_free f page ≡ true) ⊎ (is_free f page ≡ false) → ⊥
      by_free (inl free) =
          let h : Kind (fixed_type f page) ≡ Undefined = sym (fixed_page (types_of_pairs f.width (with_ranges f ranges).pairs page) page free) ∙ is in
          absurd (cc h)
      by_free (inr nonfree) =
          let found = wanted_kind f wanted good page below in
          let h : Kind found.0 ≡ Undefined = sym found.1 ∙ sym (wanted_page page below nonfree) ∙ is in
          absurd (cc h)

  accepted_new : IsAccepted (with_ranges f ranges)
  accepted_new = accepted_of (with_ranges f ranges) (no_fault f wide narrow (checked_of f accepted) ranges of) defined

-- the file with the ranges of a least list is tidied
pub tidied_file : (f : RegisterFile) → 32 ≤ f.width → f.width ≤ 52 → IsAccepted f → is_enabled f ≡ true → (wanted : List Run) → IsWanted f wanted
    → (chunk spare : ℕ) (ranges : List Range) → IsLeastList f wanted chunk ranges → (new : RegisterFile) (used : ℕ) → new ≡ with_ranges f ranges → used ≡ length ranges
    → used ≤ pair_count f - spare → IsTidied (tidying f chunk spare) wanted (record { file = new; used = used })
unfolding of
tidied_file f wide narrow accepted enabled wanted good chunk spare ranges least new used file count enough = record {
  ranges = ranges;
  file = file;
  count = count;
  least = least;
  enough = enough;
  accepted = subst IsAccepted (sym file) (accepted_new f wide narrow accepted enabled wanted good ranges least.gives);
  kinds = λ page below nonfree. ap (λ g. page_type g page) file ∙ wanted_page f wide narrow accepted enabled wanted good ranges least.gives page below nonfree;
  free = λ page free. ap (λ g. page_type g page) file ∙ free_page f wide narrow accepted enabled wanted good ranges least.gives page free;
}

pub usable_for : (f : RegisterFile) (runs : List Run) (chunk : ℕ) → IsWanted f runs → (rules : Rules) (log : ℕ) (given : List Run)
    → rules ≡ rules_of f chunk → log ≡ f.width - 12 → given ≡ runs → AreUsable rules log given
usable_for f runs chunk good rules log given rules_are log_is runs_are =
    subst (λ r. AreUsable r log given) (sym rules_are)
    (subst (λ n. AreUsable (rules_of f chunk) n given) (sym log_is)
    (subst (λ rs. AreUsable (rules_of f chunk) (f.width - 12) rs) (sym runs_are) (usable_runs f runs chunk good)))

pub least_for : (f : RegisterFile) (runs : List Run) (chunk : ℕ) → IsWanted f runs → is_enabled f ≡ true → (rules : Rules) (log : ℕ) (given : List Run) (ranges : List Range)
    → rules ≡ rules_of f chunk → log ≡ f.width - 12 → given ≡ runs
    → ((g : RegisterFile) → AreOf g rules log → IsWanted g given → IsLeastList g given rules.chunk ranges) → IsLeastList f runs chunk ranges
least_for f runs chunk good enabled rules log given ranges rules_are log_is runs_are least =
    by_rules (subst (λ rs. (g : RegisterFile) → AreOf g rules log → IsWanted g rs → IsLeastList g rs rules.chunk ranges) runs_are least)
  where
    of_rules : ((g : RegisterFile) → AreOf g (rules_of f chunk) log → IsWanted g runs → IsLeastList g runs chunk ranges) → IsLeastList f runs chunk ranges
    of_rules h = h f (record { rules_are = refl; log_is = sym log_is; enabled = enabled }) good

    by_rules : ((g : RegisterFile) → AreOf g rules log → IsWanted g runs → IsLeastList g runs rules.chunk ranges) → IsLeastList f runs chunk ranges
    by_rules = subst (λ r. ((g : RegisterFile) → AreOf g r log → IsWanted g runs → IsLeastList g runs r.chunk ranges) → IsLeastList f runs chunk ranges) (sym rules_are) of_rules
