-- What the lines of one map come to: each byte has the kind of the last line that shows it, and lines that show the same bytes are told.
use Rattle.std.proofs.Common.{◌≡◌, ◌∙◌, ◌≤◌, ◌+◌, ◌-◌, ◌==◌, ◌&&◌, ℕ, Bool, true, false, nat_le, nat_lt, List, [], ◌∷◌, ◌++◌, length, Option, Some, None, refl, sym, ap, subst, arith, inl, inr, append_assoc}
use Rattle.std.specs.Prelude.{if◌then◌else◌, ⊤}
use Rattle.std.specs.List.{AllByRecursion, filter_map}
use Rattle.std.proofs.lemmas.Bool.{cases_lt}
use Rattle.std.proofs.lemmas.Bool.Decides.{nat_tests}
use Rattle.std.proofs.lemmas.List.{append-nil}
use Rattle.mt_rows.specs.declared.row.Fields.{Fields}
use Rattle.mt_text.specs.declared.place.Place.{Place}
use Rattle.mt_memory.specs.declared.format.Claim.{Claim}
use Rattle.mt_memory.specs.declared.format.Format.{Format}
use Rattle.mt_memory.specs.declared.format.MapFault.{MapFault}
use Rattle.mt_memory.specs.declared.format.MapFault.TheVariants.{Backward, Hidden, TooManyRanges, Utf16}
use Rattle.mt_memory.specs.declared.format.Overlap.{Overlap}
use Rattle.mt_memory.specs.declared.format.Shown.{Shown}
use Rattle.mt_memory.specs.declared.format.Shown.TheVariants.{Nothing, Range, Fault}
use Rattle.mt_memory_kinds.specs.declared.kind.MemoryKind.{MemoryKind}
use Rattle.mt_memory_kinds.specs.declared.kind.MemoryRange.{MemoryRange}
use Rattle.mt_memory.specs.declared.table.Ends.{Ends}
use Rattle.mt_memory.specs.declared.table.Ends.TheVariants.{Last, LastBeforeSize, LastBeforeTwo, LastOrHidden, Behind}
use Rattle.mt_memory.specs.declared.table.Seen.{Seen}
use Rattle.mt_memory.specs.Laying.{cut, laid, meets, overlapped, part_of, ranges_of}
use Rattle.mt_memory.specs.Log.{Settled, nothing_settled, overlap_or, settled_by, settled_from, settled_with}
use Rattle.mt_memory.specs.Maps.{AreApart, IsNew, IsNoFault, IsOverlapOf, Overlaps, ShareBytes, kind_shown}
use Rattle.mt_memory_kinds.specs.Ranges.{AreAscending, has, kind_at}
use Rattle.mt_memory.specs.Showing.{bare, bounded, closed, half_open, is_utf16, named_range, numbers_of, place_at, range_shown, seen_by, seen_shown, shown_in, table_of}
use Rattle.mt_memory.proofs.Laid.{laid_order, later_counts, less, not_less}

-- ---- a range that a line shows ends at or behind its beginning

abbrev pub IsOrdered : Shown → Type 0
IsOrdered Nothing = ⊤
IsOrdered (Range claim) = claim.range.first ≤ claim.range.last
IsOrdered (Fault fault) = ⊤

at_most : (a b : ℕ) → nat_le a b ≡ true → a ≤ b
at_most a b test = grind (arith, nat_tests, test)

before_end : (a b : ℕ) → nat_lt a b ≡ true → a ≤ b - 1
before_end a b test = grind (arith, nat_tests, test)

closed_order : (first last : ℕ) (kind : MemoryKind) (place : Place) → IsOrdered (closed first last kind place)
closed_order first last kind place = by (nat_le first last) refl (first - last == 1)
  where
    by : (test : Bool) → nat_le first last ≡ test → (one : Bool) → IsOrdered (if test then range_shown first last kind place else if one then Nothing else Fault (Backward place))
    by true is one = at_most first last is
    by false is true = tt
    by false is false = tt

half_open_order : (first end : ℕ) (kind : MemoryKind) (place : Place) → IsOrdered (half_open first end kind place)
half_open_order first end kind place = by (nat_lt first end) refl (first == end)
  where
    by : (test : Bool) → nat_lt first end ≡ test → (same : Bool) → IsOrdered (if test then range_shown first (end - 1) kind place else if same then Nothing else Fault (Backward place))
    by true is same = before_end first end is
    by false is true = tt
    by false is false = tt

bounded_order : (ends : Ends) (first second : ℕ) (kind : MemoryKind) (place : Place) → IsOrdered (bounded ends first second kind place)
bounded_order Last first second kind place = closed_order first second kind place
bounded_order LastBeforeSize first second kind place = closed_order first second kind place
bounded_order LastBeforeTwo first second kind place = closed_order first second kind place
bounded_order Behind first second kind place = half_open_order first second kind place
bounded_order LastOrHidden first second kind place = by (second == 0)
  where
    by : (test : Bool) → IsOrdered (if test then Fault (Hidden place) else closed first second kind place)
    by true = tt
    by false = closed_order first second kind place

named_order : (ends : Ends) (fields : Fields) (kind : Option MemoryKind) (place : Place) → IsOrdered (named_range ends fields kind place)
named_order ends fields (Some kind) place = bounded_order ends (numbers_of ends fields).0 (numbers_of ends fields).1 kind place
named_order ends fields None place = tt

seen_order : (number : ℕ) (seen : Option Seen) → IsOrdered (seen_shown number seen)
seen_order number (Some seen) = named_order seen.ends seen.fields seen.kind (place_at number seen.before)
seen_order number None = tt

pub shown_order : (format : Format) (number : ℕ) (line : List ℕ) → IsOrdered (shown_in format number line)
shown_order format number line = by (is_utf16 (bare line)) (seen_by (table_of format).forms (table_of format).names (bare line))
  where
    by : (wide : Bool) (seen : Option Seen) → IsOrdered (if wide then Fault (Utf16 (place_at number 0)) else seen_shown number seen)
    by true seen = tt
    by false seen = seen_order number seen

-- ---- what holds of each piece

pub all_append : {A : Type 0} (P : A → Type 0) (xs ys : List A) → AllByRecursion P xs → AllByRecursion P ys → AllByRecursion P (xs ++ ys)
all_append P [] ys one two = two
all_append P (x ∷ xs) ys one two = (one.0, all_append P xs ys one.1 two)

-- what holds of a piece and of each piece within it
module _ (P : Claim → Type 0) (keeps : (piece : Claim) (first last : ℕ) → piece.range.first ≤ first → last ≤ piece.range.last → P piece → P (cut piece first last)) (range : MemoryRange) where
  all_below : (pieces : List Claim) → AllByRecursion P pieces → AllByRecursion P (filter_map (part_of false range) pieces)
  all_below [] all = tt
  all_below (piece ∷ pieces) all = elim (cases_lt piece.range.first range.first) [
    | inl under ↦ rw (less piece.range.first range.first under) (elim (cases_lt piece.range.last range.first) [
      | inl ends ↦ rw (less piece.range.last range.first ends) (keeps piece piece.range.first piece.range.last (omega arith) (omega arith) all.0, all_below pieces all.1)
      | inr on ↦ rw (not_less piece.range.last range.first on) (keeps piece piece.range.first (range.first - 1) (omega arith) (omega (arith, on)) all.0, all_below pieces all.1)
    ])
    | inr over ↦ rw (not_less piece.range.first range.first over) (all_below pieces all.1)
  ]

  all_above : (pieces : List Claim) → AllByRecursion P pieces → AllByRecursion P (filter_map (part_of true range) pieces)
  all_above [] all = tt
  all_above (piece ∷ pieces) all = elim (cases_lt range.last piece.range.last) [
    | inl over ↦ rw (less range.last piece.range.last over) (elim (cases_lt range.last piece.range.first) [
      | inl begins ↦ rw (less range.last piece.range.first begins) (keeps piece piece.range.first piece.range.last (omega arith) (omega arith) all.0, all_above pieces all.1)
      | inr on ↦ rw (not_less range.last piece.range.first on) (keeps piece (range.last + 1) piece.range.last (omega (arith, on)) (omega arith) all.0, all_above pieces all.1)
    ])
    | inr under ↦ rw (not_less range.last piece.range.last under) (all_above pieces all.1)
  ]

pub laid_all : (P : Claim → Type 0) → ((piece : Claim) (first last : ℕ) → piece.range.first ≤ first → last ≤ piece.range.last → P piece → P (cut piece first last)) → (claim : Claim) (pieces : List Claim)
    → AllByRecursion P pieces → P claim → AllByRecursion P (laid claim pieces)
laid_all P keeps claim pieces all here =
    all_append P (filter_map (part_of false claim.range) pieces) (claim ∷ filter_map (part_of true claim.range) pieces) (all_below P keeps claim.range pieces all)
    (here, all_above P keeps claim.range pieces all)

-- ---- pieces that have a byte of a range

none_some : {A : Type 0} {x : A} {found : Option A} → found ≡ None → found ≡ Some x → ⊥
none_some none some = cc (none, some)

module _ (claim : Claim) where
  abbrev told_of : Claim → Overlap
  told_of piece = record { line = claim.place.line; earlier = piece.place.line }

  has_none : (range other : MemoryRange) (byte : ℕ) → (nat_le other.first range.last && nat_le range.first other.last) ≡ false → has range byte ≡ true → has other byte ≡ false
  has_none range other byte apart here = grind (arith, nat_tests, apart, here)

  meets_none : (pieces : List Claim) (byte : ℕ) → overlapped claim pieces ≡ None → has claim.range byte ≡ true → kind_at (ranges_of pieces) byte ≡ None
  meets_none [] byte none here = refl
  meets_none (piece ∷ pieces) byte none here = by (meets claim.range piece) refl none (λ e. meets_none pieces byte e here)
    where
      by : (test : Bool) → meets claim.range piece ≡ test → (if test then Some (told_of piece) else overlapped claim pieces) ≡ None → (overlapped claim pieces ≡ None → kind_at (ranges_of pieces) byte ≡ None)
          → kind_at (piece.range ∷ ranges_of pieces) byte ≡ None
      by true is e go = absurd (none_some e refl)
      by false is e go = rw (has_none claim.range piece.range byte is here) (go e)

  record Meets (P : Claim → Type 0) (told : Overlap) : Type 0 where
    piece : Claim
    holds : P piece
    share : ShareBytes piece.range claim.range
    lines : told ≡ told_of piece

  meets_some : (P : Claim → Type 0) (pieces : List Claim) (low : ℕ) (told : Overlap) → claim.range.first ≤ claim.range.last → AreAscending low (ranges_of pieces) → AllByRecursion P pieces
      → overlapped claim pieces ≡ Some told → Meets P told
  meets_some P [] low told order are all some = absurd (none_some refl some)
  meets_some P (piece ∷ pieces) low told order are all some = by (meets claim.range piece) refl some (λ e. meets_some P pieces (piece.range.last + 1) told order are.2 all.1 e)
    where
      both : (range other : MemoryRange) → range.first ≤ range.last → other.first ≤ other.last → (nat_le other.first range.last && nat_le range.first other.last) ≡ true → ShareBytes other range
      both range other one two touch = elim (cases_lt range.first other.first) [
        | inl before ↦ (other.first, grind (arith, nat_tests, two), grind (arith, nat_tests, touch, before))
        | inr behind ↦ (range.first, grind (arith, nat_tests, touch, behind), grind (arith, nat_tests, one))
      ]

      by : (test : Bool) → meets claim.range piece ≡ test → (if test then Some (told_of piece) else overlapped claim pieces) ≡ Some told → (overlapped claim pieces ≡ Some told → Meets P told) → Meets P told
      by true is e go = record { piece = piece; holds = all.0; share = both claim.range piece.range order are.1 is; lines = cc e }
      by false is e go = go e

-- ---- what the lines of one map come to

pub kind_append : (known : Option MemoryKind) (xs ys : List Shown) (byte : ℕ) → kind_shown known (xs ++ ys) byte ≡ kind_shown (kind_shown known xs byte) ys byte
kind_append known [] ys byte = refl
kind_append known (Nothing ∷ xs) ys byte = kind_append known xs ys byte
kind_append known (Range claim ∷ xs) ys byte = kind_append (if has claim.range byte then Some claim.range.kind else known) xs ys byte
kind_append known (Fault fault ∷ xs) ys byte = kind_append known xs ys byte

-- a line shows all of a piece
pub record Source (shown : List Shown) (piece : Claim) : Type 0 where
  pub before : List Shown
  pub claim : Claim
  pub behind : List Shown
  pub are : shown ≡ before ++ Range claim ∷ behind
  pub place : claim.place ≡ piece.place
  pub low : claim.range.first ≤ piece.range.first
  pub high : piece.range.last ≤ claim.range.last

source_keeps : (shown : List Shown) (piece : Claim) (first last : ℕ) → piece.range.first ≤ first → last ≤ piece.range.last → Source shown piece → Source shown (cut piece first last)
source_keeps shown piece first last low high source = record {
  before = source.before;
  claim = source.claim;
  behind = source.behind;
  are = source.are;
  place = source.place;
  low = omega (arith, source.low, low);
  high = omega (arith, source.high, high);
}

source_more : (shown : List Shown) (next : Shown) (piece : Claim) → Source shown piece → Source (shown ++ next ∷ []) piece
source_more shown next piece source = record {
  before = source.before;
  claim = source.claim;
  behind = source.behind ++ next ∷ [];
  are = ap (λ xs. xs ++ next ∷ []) source.are ∙ append_assoc source.before (Range source.claim ∷ source.behind) (next ∷ []);
  place = source.place;
  low = source.low;
  high = source.high;
}

all_sources : (shown : List Shown) (next : Shown) (pieces : List Claim) → AllByRecursion (Source shown) pieces → AllByRecursion (Source (shown ++ next ∷ [])) pieces
all_sources shown next [] all = tt
all_sources shown next (piece ∷ pieces) all = (source_more shown next piece all.0, all_sources shown next pieces all.1)

own_source : (shown : List Shown) (claim : Claim) → Source (shown ++ Range claim ∷ []) claim
own_source shown claim = record { before = shown; claim = claim; behind = []; are = refl; place = refl; low = omega arith; high = omega arith }

-- what is told of lines that show the same bytes, one line more
overlaps_more : (shown : List Shown) (next : Shown) (told : Overlap) → Overlaps shown told → Overlaps (shown ++ next ∷ []) told
overlaps_more shown next told is = record {
  before = is.before;
  earlier = is.earlier;
  between = is.between;
  later = is.later;
  behind = is.behind ++ next ∷ [];
  are =
      ap (λ xs. xs ++ next ∷ []) is.are ∙ append_assoc is.before (Range is.earlier ∷ (is.between ++ Range is.later ∷ is.behind)) (next ∷ [])
      ∙ ap (λ xs. is.before ++ Range is.earlier ∷ xs) (append_assoc is.between (Range is.later ∷ is.behind) (next ∷ []));
  share = is.share;
  lines = is.lines;
}

apart_more : (before xs : List Shown) (next : Shown) → AreApart before xs → IsNew (before ++ xs) next → AreApart before (xs ++ next ∷ [])
apart_more before [] next are new = (subst (λ l. IsNew l next) (append-nil before) new, tt)
apart_more before (x ∷ xs) next are new = (are.0, apart_more (before ++ x ∷ []) xs next are.1 (subst (λ l. IsNew l next) (sym (append_assoc before (x ∷ []) xs)) new))

overlap_more : (shown : List Shown) (next : Shown) (told : Option Overlap) → IsNew shown next → IsOverlapOf shown told → IsOverlapOf (shown ++ next ∷ []) told
overlap_more shown next None new is = apart_more [] shown next is new
overlap_more shown next (Some told) new is = overlaps_more shown next told is

overlap_found : (shown : List Shown) (claim : Claim) (told : Overlap) → Meets claim (Source shown) told → Overlaps (shown ++ Range claim ∷ []) told
overlap_found shown claim told met =
    let source = met.holds in
    record {
      before = source.before;
      earlier = source.claim;
      between = source.behind;
      later = claim;
      behind = [];
      are = ap (λ xs. xs ++ Range claim ∷ []) source.are ∙ append_assoc source.before (Range source.claim ∷ source.behind) (Range claim ∷ []);
      share = (met.share.0, wider source.claim.range met.piece.range met.share.0 source.low source.high met.share.1, met.share.2);
      lines = met.lines ∙ ap (λ (p : Place). record { line = claim.place.line; earlier = p.line }) (sym source.place);
    }
  where
    wider : (range part : MemoryRange) (byte : ℕ) → range.first ≤ part.first → part.last ≤ range.last → has part byte ≡ true → has range byte ≡ true
    wider range part byte low high here = grind (arith, nat_tests, low, high, here)

pub record IsClean (s : Settled) (shown : List Shown) : Type 0 where
  pub kinds : (byte : ℕ) → kind_at (ranges_of s.pieces) byte ≡ kind_shown None shown byte
  pub no_fault : AllByRecursion IsNoFault shown
  pub overlap : IsOverlapOf shown s.overlap

pub record IsSettled (s : Settled) (shown : List Shown) : Type 0 where
  pub ascending : AreAscending 0 (ranges_of s.pieces)
  pub sources : AllByRecursion (Source shown) s.pieces
  pub clean : s.fault ≡ None → IsClean s shown

pub settles_nothing : IsSettled nothing_settled []
settles_nothing = record { ascending = tt; sources = tt; clean = λ none. record { kinds = λ byte. refl; no_fault = tt; overlap = tt } }

module _ (s : Settled) (shown : List Shown) (good : IsSettled s shown) where
  told_with : (claim : Claim) → claim.range.first ≤ claim.range.last → IsClean s shown → IsOverlapOf (shown ++ Range claim ∷ []) (overlap_or s.overlap (overlapped claim s.pieces))
  told_with claim order clean = by s.overlap clean.overlap (overlapped claim s.pieces) refl
    where
      by : (old : Option Overlap) → IsOverlapOf shown old → (new : Option Overlap) → overlapped claim s.pieces ≡ new → IsOverlapOf (shown ++ Range claim ∷ []) (overlap_or old new)
      by (Some old) is new found = overlaps_more shown (Range claim) old is
      by None is None found = apart_more [] shown (Range claim) is (λ byte here. sym (clean.kinds byte) ∙ meets_none claim s.pieces byte found here)
      by None is (Some told) found = overlap_found shown claim told (meets_some claim (Source shown) s.pieces 0 told order good.ascending good.sources found)

  settles_claim : (claim : Claim) → claim.range.first ≤ claim.range.last → s.fault ≡ None → IsSettled (settled_by None s (Range claim)) (shown ++ Range claim ∷ [])
  settles_claim claim order is = by (nat_lt 512 (length (laid claim s.pieces)))
    where
      clean : IsClean s shown
      clean = good.clean is

      by : (many : Bool) → IsSettled (if many then record s { fault = Some (TooManyRanges claim.place) } else record s { pieces = laid claim s.pieces; overlap = overlap_or s.overlap (overlapped claim s.pieces) })
          (shown ++ Range claim ∷ [])
      by true = record { ascending = good.ascending; sources = all_sources shown (Range claim) s.pieces good.sources; clean = λ none. absurd (none_some none refl) }
      by false = record {
        ascending = laid_order claim s.pieces order good.ascending;
        sources =
            laid_all (Source (shown ++ Range claim ∷ [])) (source_keeps (shown ++ Range claim ∷ [])) claim s.pieces (all_sources shown (Range claim) s.pieces good.sources) (own_source shown claim);
        clean = λ none. record {
          kinds = λ byte.
              later_counts claim s.pieces byte order ∙ ap (λ known. if has claim.range byte then Some claim.range.kind else known) (clean.kinds byte)
              ∙ sym (kind_append None shown (Range claim ∷ []) byte);
          no_fault = all_append IsNoFault shown (Range claim ∷ []) clean.no_fault (tt, tt);
          overlap = told_with claim order clean;
        };
      }

  pub settles_more : (next : Shown) → IsOrdered next → IsSettled (settled_with s next) (shown ++ next ∷ [])
  settles_more next order = by s.fault refl next order
    where
      by : (fault : Option MapFault) → s.fault ≡ fault → (next : Shown) → IsOrdered next → IsSettled (settled_by fault s next) (shown ++ next ∷ [])
      by (Some fault) is next order = record { ascending = good.ascending; sources = all_sources shown next s.pieces good.sources; clean = λ none. absurd (none_some none is) }
      by None is Nothing order = record {
        ascending = good.ascending;
        sources = all_sources shown Nothing s.pieces good.sources;
        clean = λ none. let clean = good.clean none in record {
          kinds = λ byte. clean.kinds byte ∙ sym (kind_append None shown (Nothing ∷ []) byte);
          no_fault = all_append IsNoFault shown (Nothing ∷ []) clean.no_fault (tt, tt);
          overlap = overlap_more shown Nothing s.overlap tt clean.overlap;
        };
      }
      by None is (Range claim) order = settles_claim claim order is
      by None is (Fault fault) order = record { ascending = good.ascending; sources = all_sources shown (Fault fault) s.pieces good.sources; clean = λ none. absurd (none_some none refl) }

-- the lines of a map, in one after another
pub record Holds (s : Settled) (shown : List Shown) : Type 0 where
  pub equal : s ≡ settled_from nothing_settled shown
  pub settled : IsSettled s shown

pub holds_nothing : Holds nothing_settled []
holds_nothing = record { equal = refl; settled = settles_nothing }

pub holds_more : (s : Settled) (shown : List Shown) (next : Shown) → IsOrdered next → Holds s shown → Holds (settled_with s next) (shown ++ next ∷ [])
holds_more s shown next order holds = record {
  equal = ap (λ t. settled_with t next) holds.equal ∙ sym (snoc nothing_settled shown);
  settled = settles_more s shown holds.settled next order;
}
  where
    snoc : (t : Settled) (xs : List Shown) → settled_from t (xs ++ next ∷ []) ≡ settled_with (settled_from t xs) next
    snoc t [] = refl
    snoc t (x ∷ xs) = snoc (settled_with t x) xs
