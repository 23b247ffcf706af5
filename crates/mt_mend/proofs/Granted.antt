-- What a fit for the map of the wished types gives.
use Rattle.std.proofs.Common.{◌≡◌, ◌∙◌, ℕ, suc, ◌-◌, ◌<◌, ◌≤◌, Bool, true, false, List, [], ◌∷◌, ◌++◌, Some, None, refl, sym, ap, inl, inr, arith}
use Rattle.std.specs.Prelude.{IsTrue, nat_le, nat_lt, not, if◌then◌else◌}
use Rattle.std.specs.List.{All, slice_index_or}
use Rattle.std.proofs.lemmas.Bool.{cases_Bool, cases_lt}
use Rattle.std.proofs.lemmas.Bool.Decides.{nat_tests}
use Rattle.std.proofs.lemmas.List.Sums.{fold-append}
use Rattle.mt_kinds.specs.declared.mem_type.MemType.{MemType}
use Rattle.mt_ranges.proofs.Powers.{pow_below}
use Rattle.mt_regs.specs.declared.page_type.PageType.{PageType}
use Rattle.mt_regs.specs.declared.page_type.PageType.TheVariants.{Kind, Undefined}
use Rattle.mt_regs.specs.RegisterFile.{RegisterFile, is_enabled, page_count}
use Rattle.mt_regs.specs.PageTypes.{fixed_type, matching_types, page_type, page_type_among}
use Rattle.mt_tidy.specs.declared.fits.Tidied.{Tidied}
use Rattle.mt_tidy.specs.Tidied.{IsTidied, Tidying}
use Rattle.mt_tidy.specs.Wanted.{IsWanted, is_free, is_supported_type}
use Rattle.mt_types.specs.declared.run.Run.{Run}
use Rattle.mt_types.specs.Runs.{kind_at}
use Rattle.mt_types.proofs.Chains.{chain_ascends, kind_of_run, within_chain}
use Rattle.mt_types.proofs.Once.{some_run}
use Rattle.mt_mend.specs.declared.fault.WishFault.TheVariants.{NoPage, BeyondWidth, UnsupportedType}
use Rattle.mt_mend.specs.declared.wish.Wish.{Wish}
use Rattle.mt_mend.specs.Mended.{AreGiven, IsMended, IsReady, bare, bare_file}
use Rattle.mt_mend.specs.Wishes.{AreMetBelow, AreWished, EndsInTime, IsFirstUndefined, IsWish, can_give, granted, has_page, over, wished_type}

nothing : Run
nothing = record { first = 0; count = 0; kind = Undefined }

given : (f : RegisterFile) (k : PageType) → can_give f k ≡ true → (t : MemType) × (k ≡ Kind t) × IsTrue (is_supported_type f t)
given f (Kind t) can = (t, refl, can)
given f Undefined can = absurd (cc)

module _ (f : RegisterFile) (wishes : List Wish) (runs : List Run) (are : AreWished f wishes runs) where
  kind_is : (page : ℕ) → page < page_count f → kind_at runs page ≡ wished_type f wishes page
  kind_is page below =
      let at = some_run runs page nothing are.map (omega (arith, are.whole, below)) in
      sym (kind_of_run 0 runs at.0 page nothing are.map.chain at.1 at.2) ∙ sym (are.kinds at.0 nothing at.1 page at.2)

  -- the map can be wanted of any file of these pages and types
  pub map_wanted : All (λ r. can_give f r.kind ≡ true) runs → IsWanted (bare_file f) runs
  map_wanted can = record { chain = are.map.chain; whole = are.whole; supported = λ k d within. given f (slice_index_or runs k d).kind (can k d within) }

  pub each_given : All (λ r. can_give f r.kind ≡ true) runs → (page : ℕ) → page < page_count f → can_give f (wished_type f wishes page) ≡ true
  each_given can page below =
      let at = some_run runs page nothing are.map (omega (arith, are.whole, below)) in
      ap (can_give f) (are.kinds at.0 nothing at.1 page at.2) ∙ can at.0 nothing at.1

  -- the first page of the first run that has no type
  pub undefined_at : (page : ℕ) → IsFirstUndefined f runs page
      → (page < page_count f) × (can_give f (wished_type f wishes page) ≡ false) × ((other : ℕ) → other < page → can_give f (wished_type f wishes other) ≡ true)
  undefined_at page is =
      let place = within_chain 0 runs is.place nothing are.map.chain is.within in
      let at = is.at nothing in (
        omega (arith, place.1, place.2, at.0, are.whole),
        ap (can_give f) (are.kinds is.place nothing is.within page (omega (arith, at.0), omega (arith, at.0, place.1))) ∙ at.1,
        λ other low.
            let there = some_run runs other nothing are.map (omega (arith, place.1, place.2, at.0, are.whole, low)) in
            elim (cases_lt there.0 is.place) [
              | inl earlier ↦ ap (can_give f) (are.kinds there.0 nothing there.1 other there.2) ∙ is.before there.0 nothing (omega arith) earlier
              | inr later ↦ elim (cases_lt is.place there.0) [
                | inl after ↦ absurd (omega (arith, chain_ascends 0 runs is.place there.0 nothing are.map.chain after there.1, place.1, there.2.0, low, at.0))
                | inr level ↦
                    let same : there.0 ≡ is.place = omega arith in
                    let first : (slice_index_or runs there.0 nothing).first ≡ page = ap (λ k. (slice_index_or runs k nothing).first) same ∙ at.0 in
                    absurd (omega (arith, first, there.2.0, low))
              ]
            ],
      )

-- ---- pages that fixed-range registers give their types

granted_none : (page : ℕ) (own : PageType) (w : Wish) → has_page w page ≡ false → granted page own w ≡ own
granted_none page own w none = rw none refl

over_none : (page : ℕ) (own : PageType) (wishes : List Wish) → All (λ w. has_page w page ≡ false) wishes → over own wishes page ≡ own
over_none page own [] none = refl
over_none page own (w ∷ ws) none =
    ap (λ k. over k ws page) (granted_none page own w (none 0 w (omega arith))) ∙ over_none page own ws (λ k d within. none (suc k) d (omega (arith, within)))

not_le : (a b : ℕ) → nat_le a b ≡ false → b < a
not_le a b h = grind (arith, nat_tests, h)

-- a wish that isn't at fault ends in the address space
last_below : (f : RegisterFile) (w : Wish) → IsWish f w → w.last < page_count f
last_below f w is = by (nat_lt w.last w.first) (nat_le (page_count f) w.last) (not (is_supported_type f w.kind)) refl is
  where
    by : (a b c : Bool) → nat_le (page_count f) w.last ≡ b
        → (if a then Some NoPage else if b then Some BeyondWidth else if c then Some UnsupportedType else None) ≡ None → w.last < page_count f
    by true b c last none = absurd (cc none)
    by false true c last none = absurd (cc none)
    by false false true last none = absurd (cc none)
    by false false false last none = not_le (page_count f) w.last last

pub ends_in_time : (f : RegisterFile) (wishes : List Wish) → f.width ≤ 52 → All (IsWish f) wishes → All EndsInTime wishes
ends_in_time f wishes narrow each k d within =
    let below = last_below f (slice_index_or wishes k d) (each k d within) in
    omega (arith, below, pow_below (f.width - 12) 40 (omega (arith, narrow)))

fixed_page : (f : RegisterFile) (types : List MemType) (page : ℕ) → is_enabled f ≡ true → is_free f page ≡ true → page_type_among f types page ≡ Kind (fixed_type f page)
fixed_page f types page enabled free = rw (enabled, free) refl

pub mended : (t : Tidying) (wishes : List Wish) → IsReady t.file wishes → AreMetBelow t.file wishes t.file → (wanted : List Run) → AreWished t.file wishes wanted → AreGiven t.file wishes
    → (new : Tidied) → IsTidied (bare t) wanted new → IsMended t wishes new
mended t wishes ready met wanted map given new tidied = record {
  ready = ready;
  met = met;
  given = given;
  types = λ page below. elim (cases_Bool (is_free t.file page)) [
    | inl free ↦
        tidied.free page free
        ∙ fixed_page t.file (matching_types (bare_file t.file) page) page ready.enabled free
        ∙ sym (fixed_page t.file (matching_types t.file page) page ready.enabled free)
        ∙ met page free
    | inr nonfree ↦ tidied.kinds page below nonfree ∙ kind_is t.file wishes wanted map page below
  ];
  others = tidied.file ∙ ap (λ (ps : List (ℕ × ℕ)). record t.file { pairs = ps }) (sym (ap (λ (g : RegisterFile). g.pairs) tidied.file));
  accepted = tidied.accepted;
  wanted = wanted;
  map = map;
  tidied = tidied;
}

-- ---- which wish decides

pub none_decides : (f : RegisterFile) (wishes : List Wish) (page : ℕ) → All (λ v. has_page v page ≡ false) wishes → wished_type f wishes page ≡ page_type f page
none_decides f wishes page none = over_none page (page_type f page) wishes none

pub last_decides : (f : RegisterFile) (front back : List Wish) (w : Wish) (page : ℕ) → has_page w page ≡ true → All (λ v. has_page v page ≡ false) back
    → wished_type f (front ++ w ∷ back) page ≡ Kind w.kind
last_decides f front back w page has none =
    fold-append (granted page) (page_type f page) front (w ∷ back)
    ∙ over_none page (granted page (over (page_type f page) front page) w) back none
    ∙ rw has refl
