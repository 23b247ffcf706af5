-- The marks of the pages of a cut run.
use Rattle.std.proofs.Common.{◌≡◌, ◌≢◌, ℕ, ◌/◌, ◌^◌, ◌<◌, ◌≤◌, true, false, Some, None, refl, ap, ◌∙◌, arith}
use Rattle.mt_kinds.specs.declared.mem_type.MemType.TheVariants.{UC, WC, WT, WP, WB}
use Rattle.mt_regs.specs.declared.page_type.PageType.{PageType}
use Rattle.mt_regs.specs.declared.page_type.PageType.TheVariants.{Kind, Undefined}
use Rattle.mt_regs.specs.RegisterFile.{RegisterFile}
use Rattle.mt_types.specs.declared.run.Run.{Run}
use Rattle.mt_types.specs.Runs.{run_end}
use Rattle.mt_trie.specs.Contexts.{is_kind}
use Rattle.mt_gran.specs.declared.cut.Cut.{Cut}
use Rattle.mt_gran.specs.Granules.{TypedPages, is_whole, pages_of, rounded_kind}
use Rattle.mt_gran.specs.Marks.{HaveMark, IsCut, IsWholeRun, lost_mark, rounded_mark}

pub free_keeps : (m : TypedPages) (g page : ℕ) → m.free page ≡ true → rounded_kind m g page ≡ m.kind page
free_keeps m g page e = rw e refl

pub whole_keeps : (m : TypedPages) (g page : ℕ) → m.free page ≡ false → is_whole m g (page / 2 ^ g) ≡ true → rounded_kind m g page ≡ m.kind page
whole_keeps m g page e h = rw (e, h) refl

pub broken_gets : (m : TypedPages) (g page : ℕ) → m.free page ≡ false → is_whole m g (page / 2 ^ g) ≡ false → rounded_kind m g page ≡ Kind UC
broken_gets m g page e h = rw (e, h) refl

pub other_kind : (k : PageType) → k ≢ Kind UC → is_kind k UC ≡ false
other_kind (Kind UC) h = absurd (h refl)
other_kind (Kind WC) h = refl
other_kind (Kind WT) h = refl
other_kind (Kind WP) h = refl
other_kind (Kind WB) h = refl
other_kind Undefined h = refl

pub uncacheable_marks : (m : TypedPages) (g page : ℕ) → is_kind (m.kind page) UC ≡ true → lost_mark m g page ≡ None
uncacheable_marks m g page e = rw e refl

pub free_marks : (m : TypedPages) (g page : ℕ) → is_kind (m.kind page) UC ≡ false → m.free page ≡ true → lost_mark m g page ≡ None
free_marks m g page e h = rw (e, h) refl

pub whole_marks : (m : TypedPages) (g page : ℕ) → is_kind (m.kind page) UC ≡ false → m.free page ≡ false → is_whole m g (page / 2 ^ g) ≡ true → lost_mark m g page ≡ None
whole_marks m g page e h w = rw (e, h, w) refl

pub broken_marks : (m : TypedPages) (g page : ℕ) → is_kind (m.kind page) UC ≡ false → m.free page ≡ false → is_whole m g (page / 2 ^ g) ≡ false → lost_mark m g page ≡ Some (m.kind page)
broken_marks m g page e h w = rw (e, h, w) refl

module _ (f : RegisterFile) (g : ℕ) (r : Run) (c : Cut) (run : IsWholeRun f r) (cut : IsCut (pages_of f) g r c) where
  pub free_rounded : HaveMark (rounded_mark (pages_of f) g) r.first c.free_end (Some r.kind)
  free_rounded page low high =
      ap (λ (x : PageType). Some x) (free_keeps (pages_of f) g page (cut.free page low high) ∙ run.pages page (low, omega (arith, high, cut.head_ends, cut.tail_begins, cut.ends, cut.end_is)))

  pub head_rounded : HaveMark (rounded_mark (pages_of f) g) c.free_end c.whole_from (Some (Kind UC))
  head_rounded page low high =
      ap (λ (x : PageType). Some x) (broken_gets (pages_of f) g page (cut.not_free page low (omega (arith, high, cut.tail_begins, cut.ends, cut.end_is))) (cut.head page low high))

  pub whole_rounded : HaveMark (rounded_mark (pages_of f) g) c.whole_from c.whole_to (Some r.kind)
  whole_rounded page low high =
      let inside : page < run_end r = omega (arith, high, cut.ends, cut.end_is) in
      ap (λ (x : PageType). Some x) (whole_keeps (pages_of f) g page (cut.not_free page (omega (arith, low, cut.head_ends)) inside) (cut.whole page low high)
      ∙ run.pages page (omega (arith, low, cut.head_ends, cut.begins), inside))

  pub tail_rounded : HaveMark (rounded_mark (pages_of f) g) c.whole_to c.end (Some (Kind UC))
  tail_rounded page low high =
      let inside : page < run_end r = omega (arith, high, cut.end_is) in
      ap (λ (x : PageType). Some x) (broken_gets (pages_of f) g page (cut.not_free page (omega (arith, low, cut.head_ends, cut.tail_begins)) inside) (cut.tail page low inside))

  module _ (other : r.kind ≢ Kind UC) where
    not_uc : (page : ℕ) → r.first ≤ page → page < run_end r → is_kind ((pages_of f).kind page) UC ≡ false
    not_uc page low high = ap (λ k. is_kind k UC) (run.pages page (low, high)) ∙ other_kind r.kind other

    pub free_lost : HaveMark (lost_mark (pages_of f) g) r.first c.free_end None
    free_lost page low high =
        free_marks (pages_of f) g page (not_uc page low (omega (arith, high, cut.head_ends, cut.tail_begins, cut.ends, cut.end_is))) (cut.free page low high)

    pub head_lost : HaveMark (lost_mark (pages_of f) g) c.free_end c.whole_from (Some r.kind)
    head_lost page low high =
        let inside : page < run_end r = omega (arith, high, cut.tail_begins, cut.ends, cut.end_is) in
        let above : r.first ≤ page = omega (arith, low, cut.begins) in
        broken_marks (pages_of f) g page (not_uc page above inside) (cut.not_free page low inside) (cut.head page low high) ∙ ap (λ (x : PageType). Some x) (run.pages page (above, inside))

    pub whole_lost : HaveMark (lost_mark (pages_of f) g) c.whole_from c.whole_to None
    whole_lost page low high =
        let inside : page < run_end r = omega (arith, high, cut.ends, cut.end_is) in
        let above : r.first ≤ page = omega (arith, low, cut.begins, cut.head_ends) in
        whole_marks (pages_of f) g page (not_uc page above inside) (cut.not_free page (omega (arith, low, cut.head_ends)) inside) (cut.whole page low high)

    pub tail_lost : HaveMark (lost_mark (pages_of f) g) c.whole_to c.end (Some r.kind)
    tail_lost page low high =
        let inside : page < run_end r = omega (arith, high, cut.end_is) in
        let above : r.first ≤ page = omega (arith, low, cut.begins, cut.head_ends, cut.tail_begins) in
        broken_marks (pages_of f) g page (not_uc page above inside) (cut.not_free page (omega (arith, low, cut.head_ends, cut.tail_begins)) inside) (cut.tail page low inside)
        ∙ ap (λ (x : PageType). Some x) (run.pages page (above, inside))

pub uncacheable_lost : (f : RegisterFile) (g : ℕ) (r : Run) → IsWholeRun f r → r.kind ≡ Kind UC → HaveMark (lost_mark (pages_of f) g) r.first (run_end r) None
uncacheable_lost f g r run is page low high =
    uncacheable_marks (pages_of f) g page (ap (λ k. is_kind k UC) (run.pages page (low, high) ∙ is))
