-- A file of which each page has UC is its own rounded file.
use Rattle.std.proofs.Common.{◌≡◌, ℕ, ◌<◌, Bool, true, false, [], refl, arith, ◌∙◌, suc, sym, zero, slice_index_or}
use Rattle.std.specs.Prelude.{nat_lt, ◌/◌, ◌^◌, if◌then◌else◌}
use Rattle.std.proofs.lemmas.Bool.Decides.{nat_tests}
use Rattle.mt_kinds.specs.declared.mem_type.MemType.{MemType}
use Rattle.mt_kinds.specs.declared.mem_type.MemType.TheVariants.{UC, WC, WT, WP, WB}
use Rattle.mt_regs.specs.declared.page_type.PageType.TheVariants.{Kind}
use Rattle.mt_types.specs.declared.run.Run.{Run}
use Rattle.mt_tidy.specs.LeastList.{IsLeastList}
use Rattle.mt_tidy.specs.Tidied.{IsTidied, tidying}
use Rattle.mt_tidy.specs.Wanted.{Gives}
use Rattle.mt_types_laws.specs.WorkedRanges.{all_of, uncached}
use Rattle.mt_gran.specs.Grained.{IsGrained}
use Rattle.mt_gran.specs.Granules.{AreRounded, is_whole, loses, lost_pages, pages_of, rounded_kind}
use Rattle.mt_gran.specs.Parts.{ArePartsOf}
use Rattle.mt_gran.proofs.Counts.{count_none}

below : (a b : ℕ) → a < b → nat_lt a b ≡ true
below a b h = grind (arith, nat_tests, h)

either : (b : Bool) → (if b then Kind UC else Kind UC) ≡ Kind UC
either true = refl
either false = refl

rounds : (g page : ℕ) → rounded_kind (pages_of uncached) g page ≡ Kind UC
rounds g page = either (is_whole (pages_of uncached) g (page / 2 ^ g))

loses_none : (g page : ℕ) (t : MemType) → loses (pages_of uncached) g t page ≡ false
loses_none g page UC = refl
loses_none g page WC = refl
loses_none g page WT = refl
loses_none g page WP = refl
loses_none g page WB = refl

none_lost : (g : ℕ) → lost_pages (pages_of uncached) g ≡ 0
none_lost g = count_none (loses (pages_of uncached) g WB) 0 0x1000000 0x1000000 refl (λ page low high. loses_none g page WB)

pub map_of : (g : ℕ) → AreRounded (pages_of uncached) g (all_of UC)
map_of g = record {
  map = record { chain = (refl, omega arith, tt); some = omega arith; bound = omega arith; differ = tt };
  whole = refl;
  kinds = λ k d within page has. of_run k d within page;
} where
  of_run : (k : ℕ) (d : Run) → k < 1 → (page : ℕ) → rounded_kind (pages_of uncached) g page ≡ (slice_index_or (all_of UC) k d).kind
  of_run zero d within page = rounds g page
  of_run (suc k) d within page = absurd (omega (arith, within))

pub by_default : Gives uncached (all_of UC) []
by_default = record {
  ranges_of = λ k d within. absurd (omega (arith, within));
  wanted_kinds = λ page within free. rw (below page 0x1000000 within) refl;
}

least : IsLeastList uncached (all_of UC) 0 []
least = record { gives = by_default; allowed = tt; in_order = tt; none_shorter = λ others g a. omega arith }

fitted : IsTidied (tidying uncached 0 8) (all_of UC) (record { file = uncached; used = 0 })
fitted = record {
  ranges = [];
  file = refl;
  count = refl;
  least = least;
  enough = omega arith;
  accepted = λ page within undefined. absurd (cc undefined);
  kinds = λ page within free. rw (below page 0x1000000 within) refl;
  free = λ page free. refl;
}

keeps_all : (g page : ℕ) (t : MemType) → loses (pages_of uncached) g t page ≡ true → ⊥
keeps_all g page t lost = absurd (cc (sym (loses_none g page t) ∙ lost))

no_parts : (g : ℕ) → ArePartsOf (pages_of uncached) g []
no_parts g = record { each = tt; in_order = tt; all = λ page within t lost. absurd (keeps_all g page t lost) }

pub all_uncacheable : IsGrained (tidying uncached 0 8) 4 (record { tidied = record { file = uncached; used = 0 }; lost = 0; parts = [] })
all_uncacheable = record {
  old_accepted = λ page within undefined. absurd (cc undefined);
  enabled = refl;
  wanted = all_of UC;
  rounded = map_of 4;
  tidied = fitted;
  kinds = λ page within. sym (rounds 4 page);
  stays = λ page within. rounds 4 page;
  lost_is = sym (none_lost 4);
  parts_are = no_parts 4;
}
