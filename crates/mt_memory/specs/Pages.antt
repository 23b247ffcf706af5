-- The pages of 4 KB of a map (own).
--     pages_of ranges      longest runs of pages of one kind
--     IsPageOf ranges page kind      a page is of a kind
use Rattle.std.specs.Prelude.{ℕ, ◌≡◌, ◌≤◌, ◌+◌, ◌-◌, ◌/◌, ◌%◌, ◌==◌, ◌↔◌, nat_lt, List, [], ◌∷◌, length, map, if◌then◌else◌, Option, Some, None, IsSome}
use Rattle.mt_memory.specs.declared.format.MapFault.{MapFault}
use Rattle.mt_memory.specs.declared.format.Shown.{Shown}
use Rattle.mt_memory.specs.declared.format.Shown.TheVariants.{Nothing, Range}
use Rattle.mt_memory_kinds.specs.declared.kind.MemoryKind.{MemoryKind}
use Rattle.mt_memory_kinds.specs.declared.kind.MemoryKind.TheVariants.{Ram, Reserved, Device, Acpi, Nvs, Unusable}
use Rattle.mt_memory_kinds.specs.declared.kind.MemoryRange.{MemoryRange}
use Rattle.mt_memory.specs.Laying.{joined, ranges_of}
use Rattle.mt_memory.specs.Log.{Settled, nothing_settled, settled_from}
use Rattle.mt_memory.specs.Maps.{AreLongest}
use Rattle.mt_memory_kinds.specs.Ranges.{AreAscending, is_kind, kind_at, kind_number}

-- ---- what a page is

-- some byte of the page has the kind
abbrev pub Touches : List MemoryRange → ℕ → MemoryKind → Type 0
Touches ranges page kind = (byte : ℕ) × (byte / 4096 ≡ page) × (kind_at ranges byte ≡ Some kind)

-- some byte of the page has the kind, and none has one with a greater number
abbrev pub IsFirst : List MemoryRange → ℕ → MemoryKind → Type 0
IsFirst ranges page kind = Touches ranges page kind × ((other : MemoryKind) → Touches ranges page other → kind_number other ≤ kind_number kind)

-- A page is RAM only if all its bytes are. Else it has the first of these kinds that some byte of it has: unusable, reserved, NVS, ACPI, device.
abbrev pub IsPageOf : List MemoryRange → ℕ → MemoryKind → Type 0
IsPageOf ranges page Ram = (byte : ℕ) → byte / 4096 ≡ page → kind_at ranges byte ≡ Some Ram
IsPageOf ranges page Reserved = IsFirst ranges page Reserved
IsPageOf ranges page Device = IsFirst ranges page Device
IsPageOf ranges page Acpi = IsFirst ranges page Acpi
IsPageOf ranges page Nvs = IsFirst ranges page Nvs
IsPageOf ranges page Unusable = IsFirst ranges page Unusable

-- ---- the pages of ranges

abbrev pub pages_between : ℕ → ℕ → MemoryKind → Option MemoryRange
pages_between first end kind = if nat_lt first end then Some (record { first = first; last = end - 1; kind = kind }) else None

-- of RAM those that lie in it as a whole
abbrev pub whole : MemoryRange → Option MemoryRange
whole range = pages_between (range.first / 4096 + (if range.first % 4096 == 0 then 0 else 1)) (range.last / 4096 + (if range.last % 4096 == 4095 then 1 else 0)) range.kind

-- of another kind those with some byte of it
abbrev pub touched : MemoryRange → Option MemoryRange
touched range = pages_between (range.first / 4096) (range.last / 4096 + 1) range.kind

abbrev pub counted_as : MemoryKind → MemoryRange → Option MemoryRange
counted_as Ram range = whole range
counted_as Reserved range = touched range
counted_as Device range = touched range
counted_as Acpi range = touched range
counted_as Nvs range = touched range
counted_as Unusable range = touched range

abbrev pub counted : MemoryRange → Option MemoryRange
counted range = counted_as range.kind range

-- ---- one kind laid over the other: the later one counts

abbrev pub shown_pages : Option MemoryRange → Shown
shown_pages None = Nothing
shown_pages (Some pages) = Range (record { range = pages; place = record { line = 0; column = 0 } })

-- what a range of a kind shows of pages
abbrev pub claim_of : MemoryKind → MemoryRange → Shown
claim_of kind range = if is_kind range.kind kind then shown_pages (counted range) else Nothing

abbrev pub claims_of : MemoryKind → List MemoryRange → List Shown
claims_of kind ranges = map (claim_of kind) ranges

abbrev pub kinds_from : Settled → List MemoryKind → List MemoryRange → Settled
kinds_from s [] ranges = s
kinds_from s (kind ∷ kinds) ranges = kinds_from (settled_from s (claims_of kind ranges)) kinds ranges

abbrev pub settled_kinds : List MemoryKind → List MemoryRange → Settled
settled_kinds kinds ranges = kinds_from nothing_settled kinds ranges

abbrev pub ranges_if : Option MapFault → Settled → Option (List MemoryRange)
ranges_if None s = Some (joined (ranges_of s.pieces))
ranges_if (Some fault) s = None

abbrev pub pages_in : Settled → Option (List MemoryRange)
pages_in s = ranges_if s.fault s

abbrev pub weakest_first : List MemoryKind
weakest_first = Ram ∷ Device ∷ Acpi ∷ Nvs ∷ Reserved ∷ Unusable ∷ []

-- none if there are more than 512 runs
abbrev pub pages_of : List MemoryRange → Option (List MemoryRange)
pages_of ranges = pages_in (settled_kinds weakest_first (joined ranges))

-- ---- laws

-- The pages of ranges in ascending order: longest runs in ascending order, in which each page has the kind that it is of, and no other page is.
pub record ArePagesOf (ranges pages : List MemoryRange) : Type 0 where
  pub ascending : AreAscending 0 pages
  pub longest : AreLongest pages
  pub kinds : (page : ℕ) (kind : MemoryKind) → kind_at pages page ≡ Some kind ↔ IsPageOf ranges page kind

abbrev pub PagesAreOfKinds : Type 0
PagesAreOfKinds = (ranges pages : List MemoryRange) → AreAscending 0 ranges → pages_of ranges ≡ Some pages → ArePagesOf ranges pages

-- The ranges of a map have pages.
abbrev pub PagesAreGiven : Type 0
PagesAreGiven = (ranges : List MemoryRange) → AreAscending 0 ranges → length ranges ≤ 512 → IsSome (pages_of ranges)
