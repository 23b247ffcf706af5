-- A file that gives the types of a mended one is as good.
use Rattle.std.proofs.Common.{◌≡◌, ℕ, ◌<◌, ◌≤◌, Bool, true, false, Option, Some, None, refl, sym, ap, inl, inr, arith, ◌∙◌, List}
use Rattle.std.specs.Prelude.{nat_eq, nat_lt, if◌then◌else◌}
use Rattle.std.proofs.lemmas.Bool.{cases_Bool}
use Rattle.std.proofs.lemmas.Bool.Decides.{nat_tests}
use Rattle.mt_regs.specs.declared.page_type.PageType.{PageType}
use Rattle.mt_regs.specs.PageTypes.{page_type}
use Rattle.mt_regs.specs.RegisterFile.{RegisterFile, page_count}
use Rattle.mt_regs.specs.Faults.{IsAccepted}
use Rattle.mt_explain.specs.TypeChanges.{changed_pages}
use Rattle.mt_explain.proofs.Unchanged.{unchanged}
use Rattle.mt_tidy.specs.declared.fits.Tidied.{Tidied}
use Rattle.mt_tidy.specs.Tidied.{Tidying, tidying, valid_count}
use Rattle.mt_tidy.specs.Wanted.{is_free}
use Rattle.mt_mend.specs.declared.wish.Wish.{Wish}
use Rattle.mt_mend.specs.Mended.{IsMended}
use Rattle.mt_mend.specs.Settled.{IsAsGood, IsPlaced, IsSettled, IsStart}
use Rattle.mt_mend.specs.Wishes.{AreMetBelow, over, wished_type}

shown_equal : (a b : Bool) (s t : PageType) → b ≡ true → ◌≡◌ {A = Option PageType} (if a then Some s else None) (if b then Some t else None) → s ≡ t
shown_equal true true s t on equal = cc equal
shown_equal true false s t on equal = absurd (cc on)
shown_equal false true s t on equal = absurd (cc equal)
shown_equal false false s t on equal = absurd (cc on)

below : (a b : ℕ) → a < b → nat_lt a b ≡ true
below a b order = grind (arith, nat_tests, order)

pub same_types : (f g : RegisterFile) → changed_pages f g ≡ 0 → (page : ℕ) → page < page_count g → page_type f page ≡ page_type g page
same_types f g none page there =
    shown_equal (nat_lt page (page_count f)) (nat_lt page (page_count g)) (page_type f page) (page_type g page) (below page (page_count g) there) (unchanged f g none page)

equal : (a b : ℕ) → nat_eq a b ≡ true → a ≡ b
equal a b h = grind (arith, nat_tests, h)

-- what is tested of a file that is as good
pub good : (f : RegisterFile) (new : Tidied) → IsAccepted f → (count pages : ℕ) → count ≡ valid_count f → count ≤ new.used → pages ≡ changed_pages f new.file → nat_eq pages 0 ≡ true
    → IsAsGood new f
good f new accepted count pages count_is few pages_is none = record {
  accepted = accepted;
  types = same_types f new.file (sym pages_is ∙ equal pages 0 none);
  no_longer = inr (omega (arith, sym count_is, few));
}

same_above : (f : RegisterFile) (fixed : List ℕ) (page : ℕ) → is_free f page ≡ false → page_type (record f { fixed = fixed }) page ≡ page_type f page
same_above f fixed page nonfree = rw nonfree refl

module _ (f : RegisterFile) (wishes : List Wish) (start : RegisterFile) (is : IsStart f wishes start) (met : AreMetBelow start wishes start) where
  same_wishes : (page : ℕ) → wished_type start wishes page ≡ wished_type f wishes page
  same_wishes page = elim (cases_Bool (is_free f page)) [
    | inl free ↦ sym (met page (ap (λ g. is_free g page) is.fixed ∙ free)) ∙ is.met page free
    | inr nonfree ↦ ap (λ own. over own wishes page) (ap (λ g. page_type g page) is.fixed ∙ same_above f start.fixed page nonfree)
  ]

pub placed : (t : Tidying) (wishes : List Wish) (start : RegisterFile) → IsStart t.file wishes start → (new : Tidied) → IsMended (tidying start t.chunk t.spare) wishes new
    → (file : RegisterFile) → IsSettled start new file → IsPlaced t wishes file
placed t wishes start is new mended file settled = record {
  start = start;
  is_start = is;
  least = new;
  mended = mended;
  others =
      settled.others ∙ ap (λ (g : RegisterFile). record g { pairs = file.pairs }) is.fixed
      ∙ ap (λ (fixed : List ℕ). record t.file { pairs = file.pairs; fixed = fixed }) (sym (ap (λ (g : RegisterFile). g.fixed) settled.others));
  accepted = settled.good.accepted;
  types = λ page there.
      let within : page < page_count start = omega (arith, there, ap page_count is.fixed) in
      settled.good.types page (omega (arith, within, ap page_count mended.others)) ∙ mended.types page within ∙ same_wishes t.file wishes start is mended.met page;
  fewest = settled.good.no_longer;
}
