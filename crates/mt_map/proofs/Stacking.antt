-- The bands up to an edge, and the next one.
use Rattle.std.proofs.Common.{◌≡◌, ◌∙◌, ◌<◌, ◌≤◌, ◌+◌, ◌-◌, ◌++◌, ◌∷◌, [], List, ℕ, Option, ap, sym, drop, length, get_or, append_assoc, true, false, refl, arith}
use Rattle.std.specs.Prelude.{min, nat_lt}
use Rattle.std.specs.List.{All}
use Rattle.std.proofs.lemmas.List.{drop_more}
use Rattle.std.proofs.lemmas.List.Elements.{All-push}
use Rattle.std.proofs.lemmas.Bool.Decides.{nat_tests}
use Rattle.mt_regs.specs.declared.page_type.PageType.{PageType}
use Rattle.mt_regs.specs.RegisterFile.{RegisterFile, page_count}
use Rattle.mt_regs.specs.PageTypes.{page_type}
use Rattle.mt_map.specs.declared.band.Band.{Band}
use Rattle.mt_map.specs.Bands.{IsPlaced, band, bands_from, bottom_from, height, other_type}

pub lt_test : (a b : ℕ) → a < b → nat_lt a b ≡ true
lt_test a b h = grind (arith, nat_tests, h)

pub not_lt : (a b : ℕ) → b ≤ a → nat_lt a b ≡ false
not_lt a b h = grind (arith, nat_tests, h)

pub band_next : (f : RegisterFile) (others : List RegisterFile) (done after all : List Band) (page top i : ℕ) (cuts : List ℕ) (d end : ℕ) (kind : PageType) (other : Option PageType) (h : ℕ)
    → i < length cuts → end ≡ min (get_or cuts i d) (page_count f) → page < end
    → after ≡ done ++ record { first = page; count = end - page; top = top; kind = kind; other = other } ∷ []
    → kind ≡ page_type f page → other ≡ other_type others page → h ≡ height (end - page)
    → done ++ bands_from f others page top (drop i cuts) ≡ all → after ++ bands_from f others end (top + h) (drop (i + 1) cuts) ≡ all
band_next f others done after all page top i cuts d end kind other h within end_is less after_is kind_is other_is h_is before =
    rw (after_is, kind_is, other_is, h_is)
    (append_assoc done (band f others page end top ∷ []) (bands_from f others end (top + height (end - page)) (drop (i + 1) cuts))
    ∙ ap (λ (bs : List Band). done ++ bs) (sym (ap (bands_from f others page top) (drop_more cuts i d within) ∙ here)) ∙ before)
  where
    test : nat_lt page (min (get_or cuts i d) (page_count f)) ≡ true
    test = lt_test page (min (get_or cuts i d) (page_count f)) (omega (arith, end_is, less))

    here : bands_from f others page top (get_or cuts i d ∷ drop (i + 1) cuts) ≡ band f others page end top ∷ bands_from f others end (top + height (end - page)) (drop (i + 1) cuts)
    here = rw (end_is, test) refl

pub band_same : (f : RegisterFile) (others : List RegisterFile) (done all : List Band) (page top i : ℕ) (cuts : List ℕ) (d end : ℕ) → i < length cuts
    → end ≡ min (get_or cuts i d) (page_count f) → end ≤ page → done ++ bands_from f others page top (drop i cuts) ≡ all → done ++ bands_from f others page top (drop (i + 1) cuts) ≡ all
band_same f others done all page top i cuts d end within end_is less before =
    ap (λ (bs : List Band). done ++ bs) (sym (ap (bands_from f others page top) (drop_more cuts i d within) ∙ here)) ∙ before
  where
    test : nat_lt page (min (get_or cuts i d) (page_count f)) ≡ false
    test = not_lt page (min (get_or cuts i d) (page_count f)) (omega (arith, end_is, less))

    here : bands_from f others page top (get_or cuts i d ∷ drop (i + 1) cuts) ≡ bands_from f others page top (drop (i + 1) cuts)
    here = rw test refl

pub bottom_next : (f : RegisterFile) (all page top i : ℕ) (cuts : List ℕ) (d end h : ℕ) → i < length cuts → end ≡ min (get_or cuts i d) (page_count f) → page < end → h ≡ height (end - page)
    → bottom_from f page top (drop i cuts) ≡ all → bottom_from f end (top + h) (drop (i + 1) cuts) ≡ all
bottom_next f all page top i cuts d end h within end_is less h_is before = rw h_is (sym (ap (bottom_from f page top) (drop_more cuts i d within) ∙ here) ∙ before)
  where
    test : nat_lt page (min (get_or cuts i d) (page_count f)) ≡ true
    test = lt_test page (min (get_or cuts i d) (page_count f)) (omega (arith, end_is, less))

    here : bottom_from f page top (get_or cuts i d ∷ drop (i + 1) cuts) ≡ bottom_from f end (top + height (end - page)) (drop (i + 1) cuts)
    here = rw (end_is, test) refl

pub bottom_same : (f : RegisterFile) (all page top i : ℕ) (cuts : List ℕ) (d end : ℕ) → i < length cuts → end ≡ min (get_or cuts i d) (page_count f) → end ≤ page
    → bottom_from f page top (drop i cuts) ≡ all → bottom_from f page top (drop (i + 1) cuts) ≡ all
bottom_same f all page top i cuts d end within end_is less before = sym (ap (bottom_from f page top) (drop_more cuts i d within) ∙ here) ∙ before
  where
    test : nat_lt page (min (get_or cuts i d) (page_count f)) ≡ false
    test = not_lt page (min (get_or cuts i d) (page_count f)) (omega (arith, end_is, less))

    here : bottom_from f page top (get_or cuts i d ∷ drop (i + 1) cuts) ≡ bottom_from f page top (drop (i + 1) cuts)
    here = rw test refl

pub placed_next : (done after : List Band) (b : Band) → after ≡ done ++ b ∷ [] → All IsPlaced done → IsPlaced b → All IsPlaced after
placed_next done after b is all one = rw is (All-push IsPlaced done b all one)
