-- A fit of the rounded types.
use Rattle.std.proofs.Common.{◌≡◌, ℕ, ◌/◌, ◌^◌, ◌<◌, true, List, [], refl, sym, ap, ◌∙◌, ◌⊎◌, inl, inr, arith, subst}
use Rattle.std.specs.Prelude.{IsTrue, slice_index_or}
use Rattle.std.proofs.lemmas.Bool.{cases_Bool}
use Rattle.mt_kinds.specs.declared.mem_type.MemType.{MemType}
use Rattle.mt_kinds.specs.declared.mem_type.MemType.TheVariants.{UC}
use Rattle.mt_regs.specs.declared.page_type.PageType.TheVariants.{Kind}
use Rattle.mt_regs.specs.RegisterFile.{IsRegisterFile, RegisterFile, is_enabled, page_count}
use Rattle.mt_regs.specs.PageTypes.{page_type}
use Rattle.mt_regs.specs.Faults.{IsAccepted}
use Rattle.mt_types.specs.declared.run.Run.{Run}
use Rattle.mt_types.specs.Runs.{IsRunsOf}
use Rattle.mt_types.proofs.Chains.{within_chain}
use Rattle.mt_types.proofs.Once.{some_run}
use Rattle.mt_types.proofs.Reading.{no_undefined}
use Rattle.mt_tidy.specs.Tidied.{IsTidied, Tidying}
use Rattle.mt_tidy.specs.Wanted.{Gives, IsWanted, is_free, is_supported_type}
use Rattle.mt_tidy.specs.declared.range.Range.{Range}
use Rattle.mt_tidy.proofs.Own.{own_runs}
use Rattle.mt_gran.specs.Granules.{AreRounded, TypedPages, is_whole, lost_pages, pages_of, rounded_kind}
use Rattle.mt_gran.specs.Marks.{AreRunsOf, lost_mark}
use Rattle.mt_gran.specs.Parts.{ArePartsOf}
use Rattle.mt_gran.specs.Grained.{IsGrained, IsLeastRounded, NeedsMore}
use Rattle.mt_gran.specs.declared.grains.Grained.{Grained}
use Rattle.mt_gran.proofs.Counts.{default_run}
use Rattle.mt_gran.proofs.CutMarks.{broken_gets, free_keeps, whole_keeps}
use Rattle.mt_gran.proofs.LostParts.{parts_of}
use Rattle.mt_gran.proofs.Maps.{kind_rounded}
use Rattle.mt_gran.proofs.Rest.{defined}
use Rattle.mt_gran.proofs.Steady.{none_lost, no_parts, stays}

either : (m : TypedPages) (g page : ℕ) → (rounded_kind m g page ≡ m.kind page) ⊎ (rounded_kind m g page ≡ Kind UC)
either m g page = elim (cases_Bool (m.free page)) [
  | inl free ↦ inl (free_keeps m g page free)
  | inr nonfree ↦ elim (cases_Bool (is_whole m g (page / 2 ^ g))) [
    | inl whole ↦ inl (whole_keeps m g page nonfree whole)
    | inr broken ↦ inr (broken_gets m g page nonfree broken)
  ]
]

pub own_types : (f : RegisterFile) → IsAccepted f → (page : ℕ) → page < page_count f → (t : MemType) × (page_type f page ≡ Kind t)
own_types f accepted page below = defined (page_type f page) (no_undefined f accepted page below)

-- the rounded types of a file whose ranges are on can be wanted
pub rounded_wanted : (f : RegisterFile) → IsRegisterFile f → IsAccepted f → is_enabled f ≡ true → (g : ℕ) (own wanted : List Run) → IsRunsOf f own → AreRounded (pages_of f) g wanted
    → IsWanted f wanted
rounded_wanted f good accepted enabled g own wanted are rounded = record {
  chain = rounded.map.chain;
  whole = rounded.whole;
  supported = λ k d within.
      let place = within_chain 0 wanted k d rounded.map.chain within in
      let first : ℕ = (slice_index_or wanted k d).first in
      let below : first < page_count f = omega (arith, place.1, place.2, rounded.whole) in
      let is : rounded_kind (pages_of f) g first ≡ (slice_index_or wanted k d).kind = rounded.kinds k d within first (omega arith, place.1) in
      elim (either (pages_of f) g first) [
        | inl keeps ↦ let own_kind = supported first below in (own_kind.0, sym is ∙ keeps ∙ own_kind.1, own_kind.2)
        | inr turns ↦ (UC, sym is ∙ turns, refl)
      ];
}
  where
    supported : (page : ℕ) → page < page_count f → (t : MemType) × (page_type f page ≡ Kind t) × IsTrue (is_supported_type f t)
    supported page below =
        let wants : IsWanted f own = own_runs f good accepted enabled own are in
        let (k, within, has) = some_run own page default_run are.map (omega (arith, are.whole, below)) in
        let kind = wants.supported k default_run within in
        (kind.0, are.kinds k default_run within page has ∙ kind.1, kind.2)

pub grained : (t : Tidying) → IsAccepted t.file → is_enabled t.file ≡ true → (g : ℕ) (wanted : List Run) → AreRounded (pages_of t.file) g wanted → (new : Grained)
    → IsTidied t wanted new.tidied → new.lost ≡ lost_pages (pages_of t.file) g → AreRunsOf (lost_mark (pages_of t.file) g) 0 (page_count t.file) new.parts → IsGrained t g new
grained t accepted enabled g wanted rounded new tidied lost_is are = record {
  old_accepted = accepted;
  enabled = enabled;
  wanted = wanted;
  rounded = rounded;
  tidied = tidied;
  kinds = kinds;
  stays = stays (pages_of t.file) (pages_of new.tidied.file) g (record { count = ap page_count tidied.file; free = λ page. ap (λ h. is_free h page) tidied.file; kinds = kinds });
  lost_is = lost_is;
  parts_are = parts_of (pages_of t.file) g (own_types t.file accepted) new.parts are;
}
  where
    kinds : (page : ℕ) → page < page_count t.file → page_type new.tidied.file page ≡ rounded_kind (pages_of t.file) g page
    kinds page below = elim (cases_Bool (is_free t.file page)) [
      | inl free ↦ tidied.free page free ∙ sym (free_keeps (pages_of t.file) g page free)
      | inr nonfree ↦ tidied.kinds page below nonfree ∙ kind_rounded (pages_of t.file) g wanted page rounded below
    ]

pub own_stays : (t : Tidying) (g : ℕ) (new : Grained) → IsGrained t g new
    → (page : ℕ) → page < page_count new.tidied.file → rounded_kind (pages_of new.tidied.file) g page ≡ page_type new.tidied.file page
own_stays t g new is page below =
    let count : page_count new.tidied.file ≡ page_count t.file = ap page_count is.tidied.file in
    is.stays page (omega (arith, count, below))

pub no_second_parts : (t again : Tidying) (g : ℕ) (new newer : Grained) → IsGrained t g new → again.file ≡ new.tidied.file → IsGrained again g newer → newer.parts ≡ []
no_second_parts t again g new newer is same second =
    no_parts (pages_of new.tidied.file) g newer.parts (own_stays t g new is) (subst (λ f. ArePartsOf (pages_of f) g newer.parts) same second.parts_are)

pub no_second_loss : (t again : Tidying) (g : ℕ) (new newer : Grained) → IsGrained t g new → again.file ≡ new.tidied.file → IsGrained again g newer → newer.lost ≡ 0
no_second_loss t again g new newer is same second =
    second.lost_is ∙ ap (λ f. lost_pages (pages_of f) g) same ∙ none_lost (pages_of new.tidied.file) g (own_stays t g new is)

-- what gives one map of the rounded types gives each
gives_other : (f : RegisterFile) (g : ℕ) (a b : List Run) → AreRounded (pages_of f) g a → AreRounded (pages_of f) g b → (ranges : List Range) → Gives f a ranges → Gives f b ranges
gives_other f g a b left right ranges gives = record {
  ranges_of = gives.ranges_of;
  wanted_kinds = λ page below nonfree.
      kind_rounded (pages_of f) g b page right below ∙ sym (kind_rounded (pages_of f) g a page left below) ∙ gives.wanted_kinds page below nonfree;
}

pub one_least : (f : RegisterFile) (g chunk a b : ℕ) → IsLeastRounded f g chunk a → IsLeastRounded f g chunk b → a ≡ b
one_least f g chunk a b left right =
    let (first, first_gives, first_allowed, first_is) = left.least.some in
    let (second, second_gives, second_allowed, second_is) = right.least.some in
    let below = left.least.none_shorter second (gives_other f g right.wanted left.wanted right.rounded left.rounded second second_gives) second_allowed in
    let above = right.least.none_shorter first (gives_other f g left.wanted right.wanted left.rounded right.rounded first first_gives) first_allowed in
    omega (arith, first_is, second_is, below, above)

pub used_is_least : (t : Tidying) (g : ℕ) (new : Grained) → IsGrained t g new → IsLeastRounded t.file g t.chunk new.tidied.used
used_is_least t g new is =
    let tidied = is.tidied in
    record {
      wanted = is.wanted;
      rounded = is.rounded;
      least = record {
        some = (tidied.ranges, tidied.least.gives, tidied.least.allowed, sym tidied.count);
        none_shorter = λ others gives allowed. omega (arith, tidied.count, tidied.least.none_shorter others gives allowed);
      };
    }

pub needs_is_least : (t : Tidying) (g needs has : ℕ) → NeedsMore t g needs has → IsLeastRounded t.file g t.chunk needs
needs_is_least t g needs has is = record { wanted = is.wanted; rounded = is.rounded; least = is.few.least }
