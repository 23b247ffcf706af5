-- The bands of a picture of one register file, or of two: the pages between neighbouring edges (own).
--     bands file others cuts      the bands between edges in ascending order
--     height pages      how high a band of so many pages is, in pixels: the more the higher, and at least as high as its label
use Rattle.std.specs.Prelude.{◌≡◌, ℕ, ◌+◌, ◌-◌, ◌^◌, ◌<◌, ◌≤◌, min, nat_lt, Bool, false, not, ◌&&◌, List, [], ◌∷◌, if◌then◌else◌, Option, Some, None}
use Rattle.mt_regs.specs.declared.page_type.PageType.{PageType}
use Rattle.mt_regs.specs.RegisterFile.{RegisterFile, is_enabled, is_fixed_enabled, page_count}
use Rattle.mt_regs.specs.PageTypes.{page_type, same_page_type}
use Rattle.mt_map.specs.declared.band.Band.{Band}

-- the fixed-range registers give the types of the first megabyte
abbrev pub are_fixed_on : RegisterFile → Bool
are_fixed_on f = is_enabled f && is_fixed_enabled f

-- ---- bands

abbrev pub height : ℕ → ℕ
height pages =
    if nat_lt pages 0x10 then 26
    else if nat_lt pages 0x100 then 32
    else if nat_lt pages 0x4000 then 40
    else if nat_lt pages 0x40000 then 50
    else if nat_lt pages 0x1000000 then 62
    else 76

-- the type of a page in the second file
abbrev pub other_type : List RegisterFile → ℕ → Option PageType
other_type [] page = None
other_type (g ∷ others) page = Some (page_type g page)

abbrev pub band : RegisterFile → List RegisterFile → ℕ → ℕ → ℕ → Band
band f others page end top = record {
  first = page;
  count = end - page;
  top = top;
  kind = page_type f page;
  other = other_type others page;
}

-- from a page and a place on
abbrev pub bands_from : RegisterFile → List RegisterFile → ℕ → ℕ → List ℕ → List Band
bands_from f others page top [] = []
bands_from f others page top (cut ∷ cuts) =
    if nat_lt page (min cut (page_count f)) then
    band f others page (min cut (page_count f)) top ∷ bands_from f others (min cut (page_count f)) (top + height (min cut (page_count f) - page)) cuts
    else bands_from f others page top cuts

abbrev pub bands : RegisterFile → List RegisterFile → List ℕ → List Band
bands f others cuts = bands_from f others 0 0 cuts

-- where the last of the bands from a page and a place on ends
abbrev pub bottom_from : RegisterFile → ℕ → ℕ → List ℕ → ℕ
bottom_from f page top [] = top
bottom_from f page top (cut ∷ cuts) =
    if nat_lt page (min cut (page_count f)) then bottom_from f (min cut (page_count f)) (top + height (min cut (page_count f) - page)) cuts
    else bottom_from f page top cuts

abbrev pub bottom : RegisterFile → List ℕ → ℕ
bottom f cuts = bottom_from f 0 0 cuts

-- ---- edges

-- the pages from the first up to the end that the file has are of one type
abbrev pub HasOneType : RegisterFile → ℕ → ℕ → Type 0
HasOneType f first end = (page : ℕ) → first ≤ page → page < end → page < page_count f → page_type f page ≡ page_type f first

-- the same for the second file, if there is one
abbrev pub HaveOneType : List RegisterFile → ℕ → ℕ → Type 0
HaveOneType [] first end = Unit {0}
HaveOneType (g ∷ others) first end = HasOneType g first end

-- the pages from the first up to the end are a band: each file gives them one type
pub record IsBandOf (f : RegisterFile) (others : List RegisterFile) (first end : ℕ) : Type 0 where
  pub some : first < end
  pub within : end ≤ page_count f
  pub same : HasOneType f first end
  pub other_same : HaveOneType others first end

-- from a page on, the pages up to each edge are a band, and the last edge is the end of the address space
abbrev pub AreEdges : RegisterFile → List RegisterFile → ℕ → List ℕ → Type 0
AreEdges f others page [] = page ≡ page_count f
AreEdges f others page (cut ∷ cuts) = IsBandOf f others page cut × AreEdges f others cut cuts

-- ---- two files

abbrev pub differs : PageType → Option PageType → Bool
differs kind None = false
differs kind (Some other) = not (same_page_type kind other)

-- the files give the band different types
abbrev pub is_different : Band → Bool
is_different b = differs b.kind b.other

-- a band has pages, and lies within the pages and the pixels that a picture may have
pub record IsPlaced (b : Band) : Type 0 where
  pub some : 0 < b.count
  pub pages : b.first + b.count ≤ 2 ^ 40
  pub top : b.top ≤ 2 ^ 50
