-- A file's own runs can be wanted.
use Rattle.std.proofs.Common.{◌≡◌, ◌∙◌, ℕ, ◌-◌, ◌^◌, ◌<◌, ◌≤◌, Bool, true, false, List, None, refl, sym, ap, subst, ◌⊎◌, inl, inr, arith}
use Rattle.std.specs.Prelude.{max, if◌then◌else◌}
use Rattle.std.specs.List.{All, slice_index_or}
use Rattle.std.proofs.lemmas.Bool.{cases_Bool, ltb-false}
use Rattle.std.proofs.Math.Pow.{pow_mono}
use Rattle.mt_kinds.specs.declared.mem_type.MemType.TheVariants.{UC}
use Rattle.mt_regs.specs.declared.page_type.PageType.TheVariants.{Kind, Undefined}
use Rattle.mt_regs.specs.Faults.{IsAccepted, register_fault}
use Rattle.mt_regs.specs.PageTypes.{fixed_type, page_type}
use Rattle.mt_regs.specs.RegisterFile.{IsRegisterFile, RegisterFile, is_enabled, is_fixed_enabled, page_count}
use Rattle.mt_types.specs.declared.run.Run.{Run}
use Rattle.mt_types.specs.Runs.{IsRunsOf, kind_at}
use Rattle.mt_types.proofs.Chains.{kind_of_run, within_chain}
use Rattle.mt_types.proofs.Once.{some_run}
use Rattle.mt_trie.specs.Wishes.{IsDefined, is_free_page}
use Rattle.mt_tidy.specs.Mapped.{IsMapFrom, first_ranged}
use Rattle.mt_tidy.specs.Wanted.{IsWanted, is_free}
use Rattle.mt_tidy.proofs.Fitted.{accepted_of}
use Rattle.mt_tidy.proofs.Own.{Supported, own_runs, page_supported}

-- a map from page 0 on is the file's type map
pub runs_of_map : (f : RegisterFile) (runs : List Run) → IsMapFrom f 0 runs → IsRunsOf f runs
runs_of_map f runs is = record {
  map = is.map;
  whole = is.whole;
  kinds = λ k d within page has. let same : page ≡ max 0 page = omega arith in ap (page_type f) same ∙ is.kinds k d within page has;
}

-- its ranges may be on or off: pages of a file whose ranges are off have UC
pub runs_wanted : (f : RegisterFile) → IsRegisterFile f → IsAccepted f → (runs : List Run) → IsRunsOf f runs → IsWanted f runs
runs_wanted f good accepted runs are = elim (cases_Bool (is_enabled f)) [
  | inl on ↦ own_runs f good accepted on runs are
  | inr off ↦ record {
    chain = are.map.chain;
    whole = are.whole;
    supported = λ k d within.
        let place = within_chain 0 runs k d are.map.chain within in
        let first : ℕ = (slice_index_or runs k d).first in
        (UC, sym (are.kinds k d within first (omega arith, place.1)) ∙ off_page first off, refl);
  }
]
  where
    off_page : (page : ℕ) → is_enabled f ≡ false → page_type f page ≡ Kind UC
    off_page page off = rw off refl

-- a page that isn't free is at or above the first such page
above_first : (fixed : Bool) (page : ℕ) → is_free_page fixed page ≡ false → (if fixed then 0x100 else 0) ≤ page
above_first true page nonfree = ltb-false page 256 nonfree
above_first false page nonfree = omega arith

pub first_below : (f : RegisterFile) → IsRegisterFile f → first_ranged f < page_count f
first_below f kept = by_fixed (is_fixed_enabled f)
  where
    many : 2 ^ 20 ≤ page_count f
    many = let wide : 20 ≤ f.width - 12 = omega (arith, kept.wide) in pow_mono wide

    by_fixed : (fixed : Bool) → (if fixed then 0x100 else 0) < page_count f
    by_fixed true = omega (arith, many)
    by_fixed false = omega (arith, many)

-- ---- the map from the first page on that isn't free

pub map_at : (f : RegisterFile) (from : ℕ) (runs : List Run) → from ≡ first_ranged f → IsMapFrom f from runs → IsMapFrom f (first_ranged f) runs
map_at f from runs at is = subst (λ n. IsMapFrom f n runs) at is

module _ (f : RegisterFile) (runs : List Run) (is : IsMapFrom f (first_ranged f) runs) where
  kind_from : (page : ℕ) → page < page_count f → kind_at runs page ≡ page_type f (max (first_ranged f) page)
  kind_from page below =
      let nothing : Run = record { first = 0; count = 0; kind = Undefined } in
      let at = some_run runs page nothing is.map (omega (arith, is.whole, below)) in
      sym (kind_of_run 0 runs at.0 page nothing is.map.chain at.1 at.2) ∙ sym (is.kinds at.0 nothing at.1 page at.2)

  pub keeps_kinds : (page : ℕ) → page < page_count f → is_free f page ≡ false → kind_at runs page ≡ page_type f page
  keeps_kinds page below nonfree =
      let low = above_first (is_fixed_enabled f) page nonfree in
      let same : max (first_ranged f) page ≡ page = omega (arith, low) in
      kind_from page below ∙ ap (page_type f) same

  -- if each run has a type, the file is accepted
  pub accepted_by : is_enabled f ≡ true → register_fault f ≡ None → All IsDefined runs → IsAccepted f
  accepted_by enabled checked defined = accepted_of f checked (λ page below undefined. by_free page below undefined (cases_Bool (is_free f page)))
    where
      by_free : (page : ℕ) → page < page_count f → page_type f page ≡ Undefined → (is_free f page ≡ true) ⊎ (is_free f page ≡ false) → ⊥
      by_free page below undefined (inl free) =
          let fixed : Kind (fixed_type f page) ≡ Undefined = rw (enabled, free) at undefined in
          absurd (cc fixed)
      by_free page below undefined (inr nonfree) =
          let nothing : Run = record { first = 0; count = 0; kind = Undefined } in
          let at = some_run runs page nothing is.map (omega (arith, is.whole, below)) in
          defined at.0 nothing at.1 (kind_of_run 0 runs at.0 page nothing is.map.chain at.1 at.2 ∙ keeps_kinds page below nonfree ∙ undefined)

  pub map_wanted : IsRegisterFile f → IsAccepted f → is_enabled f ≡ true → IsWanted f runs
  unfolding Supported
  map_wanted good accepted enabled = record {
    chain = is.map.chain;
    whole = is.whole;
    supported = λ k d within.
        let place = within_chain 0 runs k d is.map.chain within in
        let first : ℕ = (slice_index_or runs k d).first in
        let found = page_supported f good accepted enabled (max (first_ranged f) first) (omega (arith, place.1, place.2, is.whole, first_below f good)) in
        (found.0, sym (is.kinds k d within first (omega arith, place.1)) ∙ found.1, found.2);
  }
