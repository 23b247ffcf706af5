-- Rows between edges are the pages of the files, in bands of one type.
use Rattle.std.proofs.Common.{◌≡◌, ◌∙◌, ◌<◌, ◌≤◌, ◌+◌, ◌-◌, ◌∷◌, [], List, ℕ, Bool, true, false, Some, ap, subst, sym, refl, inl, inr, arith}
use Rattle.std.specs.Prelude.{min, nat_le, nat_lt, ◌&&◌, ◌||◌}
use Rattle.std.specs.List.{All, filter, list_any}
use Rattle.std.proofs.lemmas.Bool.{cases_Bool, cases_lt}
use Rattle.std.proofs.lemmas.Bool.Decides.{nat_tests}
use Rattle.std.proofs.lemmas.List.Elements.{All-cons, All-nil}
use Rattle.mt_regs.specs.declared.page_type.PageType.{PageType}
use Rattle.mt_regs.specs.RegisterFile.{RegisterFile, page_count}
use Rattle.mt_regs.specs.PageTypes.{page_type}
use Rattle.mt_types.specs.declared.run.Run.{Run}
use Rattle.mt_types.specs.Runs.{HasKind, IsChain, pages_end}
use Rattle.mt_map.specs.declared.band.Band.{Band}
use Rattle.mt_map.specs.declared.shape.Side.TheVariants.{First, Second}
use Rattle.mt_map.specs.Bands.{AreEdges, HaveOneType, IsBandOf, band, bands, bands_from, differs, height, is_different, other_type}
use Rattle.mt_map.specs.Shapes.{AreRowsOf, IsColumnOf, IsSecondColumn, column, has_page}
use Rattle.mt_map.proofs.Stacking.{lt_test, not_lt}

next_rows : (f : RegisterFile) (others : List RegisterFile) (page top cut : ℕ) (cuts : List ℕ) → IsBandOf f others page cut
    → bands_from f others page top (cut ∷ cuts) ≡ band f others page cut top ∷ bands_from f others cut (top + height (cut - page)) cuts
next_rows f others page top cut cuts of = rw (is, test) refl
  where
    is : min cut (page_count f) ≡ cut
    is = omega (arith, of.within)

    test : nat_lt page cut ≡ true
    test = lt_test page cut of.some

-- ---- columns

record IsColumnFrom (f : RegisterFile) (page : ℕ) (runs : List Run) : Type 0 where
  chain : IsChain page runs
  whole : pages_end page runs ≡ page_count f
  kinds : All (HasKind f) runs

column_next : (f : RegisterFile) (page cut : ℕ) (kind : PageType) (runs : List Run) → page < cut → ((p : ℕ) → page ≤ p → p < cut → page_type f p ≡ kind) → IsColumnFrom f cut runs
    → IsColumnFrom f page (record { first = page; count = cut - page; kind = kind } ∷ runs)
column_next f page cut kind runs less same later =
    let end : cut ≡ page + (cut - page) = omega (arith, less) in
    record {
      chain = (refl, omega (arith, less), subst (λ (n : ℕ). IsChain n runs) end later.chain);
      whole = ap (λ (n : ℕ). pages_end n runs) (sym end) ∙ later.whole;
      kinds = All-cons (HasKind f) (record { first = page; count = cut - page; kind = kind }) runs (λ p has. same p has.0 (omega (arith, has.1, end))) later.kinds;
    }

first_column : (f : RegisterFile) (others : List RegisterFile) (page top : ℕ) (cuts : List ℕ) → AreEdges f others page cuts → IsColumnFrom f page (column First (bands_from f others page top cuts))
first_column f others page top [] are = record { chain = tt; whole = are; kinds = All-nil (HasKind f) }
first_column f others page top (cut ∷ cuts) are =
    let of : IsBandOf f others page cut = are.0 in
    subst (λ (rows : List Band). IsColumnFrom f page (column First rows)) (sym (next_rows f others page top cut cuts of))
    (column_next f page cut (page_type f page) (column First (bands_from f others cut (top + height (cut - page)) cuts)) of.some (λ p low high. of.same p low high (omega (arith, high, of.within)))
    (first_column f others cut (top + height (cut - page)) cuts are.1))

second_column : (f g : RegisterFile) (gs : List RegisterFile) (page top : ℕ) (cuts : List ℕ) → page_count g ≡ page_count f → AreEdges f (g ∷ gs) page cuts
    → IsColumnFrom g page (column Second (bands_from f (g ∷ gs) page top cuts))
second_column f g gs page top [] size are = record { chain = tt; whole = are ∙ sym size; kinds = All-nil (HasKind g) }
second_column f g gs page top (cut ∷ cuts) size are =
    let of : IsBandOf f (g ∷ gs) page cut = are.0 in
    subst (λ (rows : List Band). IsColumnFrom g page (column Second rows)) (sym (next_rows f (g ∷ gs) page top cut cuts of))
    (column_next g page cut (page_type g page) (column Second (bands_from f (g ∷ gs) cut (top + height (cut - page)) cuts)) of.some
    (λ p low high. of.other_same p low high (omega (arith, high, of.within, size))) (second_column f g gs cut (top + height (cut - page)) cuts size are.1))

no_column : (f : RegisterFile) (page top : ℕ) (cuts : List ℕ) → AreEdges f [] page cuts → column Second (bands_from f [] page top cuts) ≡ []
no_column f page top [] are = refl
no_column f page top (cut ∷ cuts) are = ap (column Second) (next_rows f [] page top cut cuts are.0) ∙ no_column f cut (top + height (cut - page)) cuts are.1

-- ---- marks

marked : ℕ → List Band → Bool
marked p rows = list_any (has_page p) (filter is_different rows)

marked_next : (p : ℕ) (row : Band) (rows : List Band) → marked p (row ∷ rows) ≡ ((is_different row && has_page p row) || marked p rows)
unfolding marked
marked_next p row rows = elim (cases_Bool (is_different row)) [
  | inl on ↦ rw on refl
  | inr off ↦ rw off refl
]

neither : (a b c : Bool) → b ≡ false → c ≡ false → ((a && b) || c) ≡ false
neither true true c off none = absurd (cc off)
neither true false c off none = none
neither false b c off none = none

just_first : (a b c : Bool) → b ≡ true → c ≡ false → ((a && b) || c) ≡ a
just_first true true c on none = refl
just_first true false c on none = absurd (cc on)
just_first false b c on none = none

just_second : (a b c : Bool) → b ≡ false → ((a && b) || c) ≡ c
just_second true true c off = absurd (cc off)
just_second true false c off = refl
just_second false b c off = refl

and_no : (a b : Bool) → b ≡ false → (a && b) ≡ false
and_no true b off = off
and_no false b off = refl

no_and : (a b : Bool) → a ≡ false → (a && b) ≡ false
no_and true b off = absurd (cc off)
no_and false b off = refl

both : (a b : Bool) → a ≡ true → b ≡ true → (a && b) ≡ true
both true b on also = also
both false b on also = absurd (cc on)

le_test : (a b : ℕ) → a ≤ b → nat_le a b ≡ true
le_test a b h = grind (arith, nat_tests, h)

not_le : (a b : ℕ) → b < a → nat_le a b ≡ false
not_le a b h = grind (arith, nat_tests, h)

-- where a row has no page below its first, and none from its end on
below : (first count p : ℕ) → p < first → (nat_le first p && nat_lt p (first + count)) ≡ false
below first count p less = no_and (nat_le first p) (nat_lt p (first + count)) (not_le first p less)

inside : (first count p : ℕ) → first ≤ p → p < first + count → (nat_le first p && nat_lt p (first + count)) ≡ true
inside first count p low high = both (nat_le first p) (nat_lt p (first + count)) (le_test first p low) (lt_test p (first + count) high)

above : (first count p : ℕ) → first + count ≤ p → (nat_le first p && nat_lt p (first + count)) ≡ false
above first count p past = and_no (nat_le first p) (nat_lt p (first + count)) (not_lt p (first + count) past)

module _ (f : RegisterFile) (others : List RegisterFile) (p : ℕ) where
  later_none : (page top : ℕ) (cuts : List ℕ) → AreEdges f others page cuts → p < page → marked p (bands_from f others page top cuts) ≡ false
  unfolding marked
  later_none page top [] are less = refl
  later_none page top (cut ∷ cuts) are less =
      let of : IsBandOf f others page cut = are.0 in
      let rows : List Band = bands_from f others cut (top + height (cut - page)) cuts in
      ap (marked p) (next_rows f others page top cut cuts of) ∙ marked_next p (band f others page cut top) rows
      ∙ neither (is_different (band f others page cut top)) (has_page p (band f others page cut top)) (marked p rows) (below page (cut - page) p less)
      (later_none cut (top + height (cut - page)) cuts are.1 (omega (arith, less, of.some)))

  are_marked : ((page cut : ℕ) → HaveOneType others page cut → page ≤ p → p < cut → other_type others p ≡ other_type others page) → p < page_count f
      → (page top : ℕ) (cuts : List ℕ) → AreEdges f others page cuts → page ≤ p → marked p (bands_from f others page top cuts) ≡ differs (page_type f p) (other_type others p)
  are_marked other within page top [] are low = absurd (omega (arith, are, low, within))
  are_marked other within page top (cut ∷ cuts) are low =
      let of : IsBandOf f others page cut = are.0 in
      let row : Band = band f others page cut top in
      let rows : List Band = bands_from f others cut (top + height (cut - page)) cuts in
      let at : ((is_different row && has_page p row) || marked p rows) ≡ differs (page_type f p) (other_type others p) = elim (cases_lt p cut) [
        | inl inner ↦
            just_first (is_different row) (has_page p row) (marked p rows) (inside page (cut - page) p low (omega (arith, inner, low)))
            (later_none cut (top + height (cut - page)) cuts are.1 inner)
            ∙ ap (λ (kind : PageType). differs kind (other_type others page)) (sym (of.same p low inner within))
            ∙ ap (differs (page_type f p)) (sym (other page cut of.other_same low inner))
        | inr outer ↦
            just_second (is_different row) (has_page p row) (marked p rows) (above page (cut - page) p (omega (arith, outer, of.some)))
            ∙ are_marked other within cut (top + height (cut - page)) cuts are.1 outer
      ] in
      ap (marked p) (next_rows f others page top cut cuts of) ∙ marked_next p row rows ∙ at

-- ---- rows

other_same : (f : RegisterFile) (others : List RegisterFile) (p : ℕ) → All (λ g. g.width ≡ f.width) others → p < page_count f
    → (page cut : ℕ) → HaveOneType others page cut → page ≤ p → p < cut → other_type others p ≡ other_type others page
other_same f [] p sizes within page cut same low high = refl
other_same f (g ∷ gs) p sizes within page cut same low high =
    let width : g.width ≡ f.width = sizes 0 g (omega arith) in
    ap (λ (kind : PageType). Some kind) (same p low high (rw width within))

of_column : (f : RegisterFile) (runs : List Run) → IsColumnFrom f 0 runs → IsColumnOf f runs
of_column f runs from = record { chain = from.chain; whole = from.whole; kinds = from.kinds }

second_of : (f : RegisterFile) (others : List RegisterFile) (cuts : List ℕ) → All (λ g. g.width ≡ f.width) others → AreEdges f others 0 cuts
    → IsSecondColumn others (column Second (bands f others cuts))
second_of f [] cuts sizes are = no_column f 0 0 cuts are
second_of f (g ∷ gs) cuts sizes are =
    let width : g.width ≡ f.width = sizes 0 g (omega arith) in
    let size : page_count g ≡ page_count f = rw width refl in
    of_column g (column Second (bands f (g ∷ gs) cuts)) (second_column f g gs 0 0 cuts size are)

pub are_rows : (f : RegisterFile) (others : List RegisterFile) (cuts : List ℕ) (rows : List Band) → All (λ g. g.width ≡ f.width) others → AreEdges f others 0 cuts → rows ≡ bands f others cuts
    → AreRowsOf f others rows
unfolding marked
are_rows f others cuts rows sizes are is = subst (AreRowsOf f others) (sym is) (record {
  first = of_column f (column First (bands f others cuts)) (first_column f others 0 0 cuts are);
  second = second_of f others cuts sizes are;
  marks = λ page within. are_marked f others page (other_same f others page sizes within) within 0 0 cuts are (omega arith);
})
