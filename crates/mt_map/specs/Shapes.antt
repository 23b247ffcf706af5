-- What a picture shows of a register file, or of two: bands, bars, default types and marks (own).
--     AreRowsOf file others rows      the rows are the pages of the files, in bands of one type
--     shapes_of file others rows      what is drawn over the rows, in this order
-- Which pairs are valid, and their ranges: Intel SDM, volume 3A, chapter Memory Cache Control, section Variable Range MTRRs.
use Rattle.std.specs.Prelude.{◌≡◌, ℕ, ◌+◌, ◌<◌, nat_le, nat_lt, Bool, true, ◌&&◌, List, [], ◌∷◌, ◌++◌, length, map, if◌then◌else◌, codes, Option, Some, None}
use Rattle.std.specs.List.{All, filter, filter_map, list_any}
use Rattle.std.specs.Option.{option_map, option_to_list}
use Rattle.mt_kinds.specs.declared.mem_type.MemType.{MemType}
use Rattle.mt_kinds.specs.Types.{name_of_type}
use Rattle.mt_ranges.specs.Match.{is_valid, range_end, range_first}
use Rattle.mt_regs.specs.declared.page_type.PageType.{PageType}
use Rattle.mt_regs.specs.declared.page_type.PageType.TheVariants.{Kind, Undefined}
use Rattle.mt_regs.specs.declared.registers.Register.TheVariants.{PhysBase}
use Rattle.mt_regs.specs.RegisterFile.{RegisterFile, is_enabled, low_byte, page_count}
use Rattle.mt_regs.specs.Registers.{number_of}
use Rattle.mt_regs.specs.PageTypes.{listed_type, page_type, pair_type}
use Rattle.mt_types.specs.declared.run.Run.{Run}
use Rattle.mt_types.specs.Runs.{HasKind, IsChain, pages_end}
use Rattle.mt_map.specs.declared.band.Band.{Band}
use Rattle.mt_map.specs.declared.bar.Bar.{Bar}
use Rattle.mt_map.specs.declared.shape.Side.{Side}
use Rattle.mt_map.specs.declared.shape.Side.TheVariants.{First, Second}
use Rattle.mt_map.specs.declared.shape.Shape.{Shape}
use Rattle.mt_map.specs.declared.shape.Shape.TheVariants.{Band as BandShape, Bar as BarShape, Default as DefaultShape, Mark}
use Rattle.mt_map.specs.Bands.{are_fixed_on, differs, is_different, other_type}

-- what is written on a band
abbrev pub label : PageType → List ℕ
label (Kind kind) = name_of_type kind
label Undefined = codes "undefined"

-- ---- the rows

abbrev pub run_of : Band → PageType → Run
run_of row kind = record { first = row.first; count = row.count; kind = kind }

-- the pages of a row with the type that a file gives to them, if there is this file
abbrev pub run_in : Side → Band → Option Run
run_in First row = Some (run_of row row.kind)
run_in Second row = option_map (run_of row) row.other

abbrev pub column : Side → List Band → List Run
column side rows = filter_map (run_in side) rows

-- Each page of the file is in exactly one of the runs, and has its type. They are its type map, but neighbours may have one type.
pub record IsColumnOf (f : RegisterFile) (runs : List Run) : Type 0 where
  pub chain : IsChain 0 runs
  pub whole : pages_end 0 runs ≡ page_count f
  pub kinds : All (HasKind f) runs

-- the same for the second file, if there is one; else there is no run
abbrev pub IsSecondColumn : List RegisterFile → List Run → Type 0
IsSecondColumn [] runs = runs ≡ []
IsSecondColumn (g ∷ others) runs = IsColumnOf g runs

abbrev pub has_page : ℕ → Band → Bool
has_page page row = nat_le row.first page && nat_lt page (row.first + row.count)

-- The rows that are marked have exactly the pages to which the files give different types.
pub record AreRowsOf (f : RegisterFile) (others : List RegisterFile) (rows : List Band) : Type 0 where
  pub first : IsColumnOf f (column First rows)
  pub second : IsSecondColumn others (column Second rows)
  pub marks : (page : ℕ) → page < page_count f → list_any (has_page page) (filter is_different rows) ≡ differs (page_type f page) (other_type others page)

-- ---- bars

-- the bar of the fixed-range registers, where they are on
abbrev pub fixed_bars : RegisterFile → List Bar
fixed_bars f =
    if are_fixed_on f then record { place = 0; number = 0x250; first = 0; end = 0x100; base = 0; mask = 0; kind = None; is_on = true } ∷ []
    else []

-- the bar of pair n
abbrev pub pair_bar : RegisterFile → ℕ → ℕ → ℕ × ℕ → Bar
pair_bar f place n pair = record {
  place = place;
  number = number_of (PhysBase n);
  first = range_first f.width pair;
  end = range_end f.width pair;
  base = pair.0;
  mask = pair.1;
  kind = Some (pair_type pair);
  is_on = is_enabled f;
}

abbrev pub bars_of_pair : RegisterFile → ℕ → ℕ → ℕ × ℕ → List Bar
bars_of_pair f place n pair = if is_valid pair then pair_bar f place n pair ∷ [] else []

-- the bars of the valid ones of the pairs from pair n on
abbrev pub pair_bars : RegisterFile → ℕ → ℕ → List (ℕ × ℕ) → List Bar
pair_bars f place n [] = []
pair_bars f place n (pair ∷ pairs) = bars_of_pair f place n pair ++ pair_bars f (place + length (bars_of_pair f place n pair)) (n + 1) pairs

abbrev pub bars_of : RegisterFile → List Bar
bars_of f = fixed_bars f ++ pair_bars f (length (fixed_bars f)) 0 f.pairs

-- ---- shapes

abbrev pub band_in : Side → Band → Option Shape
band_in side row = option_map (BandShape side) (run_in side row)

abbrev pub bar_shape : Side → Bar → Shape
bar_shape side bar = BarShape side bar

abbrev pub default_of : RegisterFile → Option MemType
default_of f = if is_enabled f then Some (listed_type (low_byte f.default_type)) else None

abbrev pub default_shapes : Side → RegisterFile → List Shape
default_shapes side f = option_to_list (option_map (DefaultShape side) (default_of f))

abbrev pub mark_in : Band → Option Shape
mark_in row = if is_different row then Some (Mark (record { first = row.first; count = row.count })) else None

-- what is drawn of a file
abbrev pub column_shapes : Side → RegisterFile → List Band → List Shape
column_shapes side f rows = filter_map (band_in side) rows ++ map (bar_shape side) (bars_of f) ++ default_shapes side f

abbrev pub second_shapes : List RegisterFile → List Band → List Shape
second_shapes [] rows = []
second_shapes (g ∷ others) rows = column_shapes Second g rows

abbrev pub shapes_of : RegisterFile → List RegisterFile → List Band → List Shape
shapes_of f others rows = column_shapes First f rows ++ second_shapes others rows ++ filter_map mark_in rows
