-- Lines of x86info, with `--mtrr`, `--addr` or both. Source: Debian's x86info 1.31~pre0.8052aabdd159bc9050e7dc264f33782c5acce05f-2, /usr/bin/x86info, its strings and the function
-- that prints `MTRR registers:`.
--     x86info_said number line      what a line of this number says
--     sizes_said number line      the width that a line on the sizes of addresses shows
use Rattle.std.specs.Prelude.{ℕ, ◌&&◌, ◌||◌, codes, Bool, List, if◌then◌else◌}
use Rattle.mt_text.specs.Words.{first_words, place_of, text_of}
use Rattle.mt_text.specs.Number.{decimal_number}
use Rattle.mt_import.specs.declared.reading.LineSays.{LineSays}
use Rattle.mt_import.specs.declared.reading.LineSays.TheVariants.{Nothing}
use Rattle.mt_import.specs.declared.x86info.TheConstants.{X86INFO}
use Rattle.mt_import.specs.Pieces.{is_text, shows_width}
use Rattle.mt_import.specs.Tables.{rows_in, said_in}

-- `Address sizes : 46 bits physical, 48 bits virtual` of x86info, or `address sizes : ..` of /proc/cpuinfo
abbrev pub is_sizes : List (ℕ × List ℕ) → Bool
is_sizes words =
    (is_text (codes "Address") (text_of words 0) || is_text (codes "address") (text_of words 0)) && is_text (codes "sizes") (text_of words 1)
    && is_text (codes "physical,") (text_of words 5)

-- `Address Size: 48 bits virtual, 40 bits physical`
abbrev pub is_size : List (ℕ × List ℕ) → Bool
is_size words = is_text (codes "Address") (text_of words 0) && is_text (codes "Size:") (text_of words 1) && is_text (codes "virtual,") (text_of words 4)

-- `Address sizes: 39 bits physical, 48 bits virtual` of lscpu
abbrev pub is_listed : List (ℕ × List ℕ) → Bool
is_listed words = is_text (codes "Address") (text_of words 0) && is_text (codes "sizes:") (text_of words 1) && is_text (codes "physical,") (text_of words 4)

abbrev pub sizes_by_words : ℕ → List (ℕ × List ℕ) → LineSays
sizes_by_words number words =
    if is_sizes words then shows_width (decimal_number (text_of words 3) 255) (place_of number words 3)
    else if is_size words then shows_width (decimal_number (text_of words 5) 255) (place_of number words 5)
    else if is_listed words then shows_width (decimal_number (text_of words 2) 255) (place_of number words 2)
    else Nothing

abbrev pub sizes_said : ℕ → List ℕ → LineSays
sizes_said number line = sizes_by_words number (first_words number line).words

abbrev pub x86info_said : ℕ → List ℕ → LineSays
x86info_said number line = said_in (rows_in X86INFO) number line
