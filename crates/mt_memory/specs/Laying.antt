-- What the ranges that lines show come to, one laid over the other (own).
--     laid claim pieces      the pieces behind one more line, which counts before those that were there
--     overlapped claim pieces      the first of the pieces that has a byte of the line's range
--     ranges_of pieces      their ranges
--     joined ranges      the same ranges, where those of one kind that touch are one
use Rattle.std.specs.Prelude.{ℕ, ◌+◌, ◌-◌, ◌==◌, ◌&&◌, nat_le, nat_lt, Bool, true, false, List, [], ◌∷◌, ◌++◌, map, if◌then◌else◌, Option, Some, None}
use Rattle.std.specs.List.{filter_map}
use Rattle.mt_memory.specs.declared.format.Claim.{Claim}
use Rattle.mt_memory.specs.declared.format.Overlap.{Overlap}
use Rattle.mt_memory_kinds.specs.declared.kind.MemoryRange.{MemoryRange}
use Rattle.mt_memory_kinds.specs.Ranges.{is_kind}

-- ---- pieces: ranges of lines, cut where a later line shows their bytes

abbrev pub cut : Claim → ℕ → ℕ → Claim
cut piece first last = record { range = record { first = first; last = last; kind = piece.range.kind }; place = piece.place }

-- what a piece has below a range, and above it
abbrev pub below : MemoryRange → Claim → Option Claim
below range piece =
    if nat_lt piece.range.first range.first
    then Some (cut piece piece.range.first (if nat_lt piece.range.last range.first then piece.range.last else range.first - 1))
    else None

abbrev pub above : MemoryRange → Claim → Option Claim
above range piece =
    if nat_lt range.last piece.range.last
    then Some (cut piece (if nat_lt range.last piece.range.first then piece.range.first else range.last + 1) piece.range.last)
    else None

abbrev pub part_of : Bool → MemoryRange → Claim → Option Claim
part_of false range piece = below range piece
part_of true range piece = above range piece

-- The later line counts. Linux and Xen settle what overlaps before they print, and UEFI's map has no overlaps.
abbrev pub laid : Claim → List Claim → List Claim
laid claim pieces = filter_map (part_of false claim.range) pieces ++ claim ∷ filter_map (part_of true claim.range) pieces

abbrev pub meets : MemoryRange → Claim → Bool
meets range piece = nat_le piece.range.first range.last && nat_le range.first piece.range.last

abbrev pub overlapped : Claim → List Claim → Option Overlap
overlapped claim [] = None
overlapped claim (piece ∷ pieces) =
    if meets claim.range piece then Some (record { line = claim.place.line; earlier = piece.place.line }) else overlapped claim pieces

abbrev pub ranges_of : List Claim → List MemoryRange
ranges_of pieces = map (λ piece. piece.range) pieces

-- ---- longest ranges

abbrev pub goes_on : MemoryRange → MemoryRange → Bool
goes_on range next = is_kind range.kind next.kind && nat_lt range.last next.first && next.first - range.last == 1

abbrev pub joined_from : MemoryRange → List MemoryRange → List MemoryRange
joined_from range [] = range ∷ []
joined_from range (next ∷ ranges) =
    if goes_on range next
    then joined_from (record { first = range.first; last = next.last; kind = range.kind }) ranges
    else range ∷ joined_from next ranges

abbrev pub joined : List MemoryRange → List MemoryRange
joined [] = []
joined (range ∷ ranges) = joined_from range ranges
