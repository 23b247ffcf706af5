-- Lines of MtrrDebugPrintAllMtrrsWorker (EDK2 2022.11, UefiCpuPkg/Library/MtrrLib/MtrrLib.c).
--     edk2_said number line      what a line says
use Rattle.std.specs.Prelude.{ℕ, ◌+◌, ◌*◌, ◌==◌, ◌&&◌, not, codes, List, length, if◌then◌else◌, Option, Some, None, slice_get}
use Rattle.mt_regs.specs.Registers.{fixed_numbers}
use Rattle.mt_text.specs.Words.{first_words, text_of, place_of}
use Rattle.mt_text.specs.declared.place.Place.{Place}
use Rattle.mt_import.specs.declared.reading.LineSays.{LineSays}
use Rattle.mt_import.specs.declared.reading.LineSays.TheVariants.{Nothing, Shows}
use Rattle.mt_import.specs.Pieces.{behind, is_text, shows_one, sixteen_digits, value_at}
use Rattle.mt_import.specs.Readings.{two_shown}
use Rattle.mt_import.specs.Linux.{pair_numbered}

-- the number of the k-th fixed-range register
abbrev pub fixed_number : Option ℕ → Option ℕ
fixed_number None = None
fixed_number (Some k) = slice_get fixed_numbers k

-- PhysBase and PhysMask of a pair, where their values are known
abbrev pub shows_pair : Option ℕ → Place → Option ℕ → Place → Option ℕ → LineSays
shows_pair None base_place base mask_place mask = Nothing
shows_pair (Some pair) base_place base mask_place mask = Shows (Some 0) (two_shown (value_at (0x200 + 2 * pair) base_place base) (value_at (0x201 + 2 * pair) mask_place mask))

abbrev pub value_in : Option (List ℕ) → Option ℕ
value_in None = None
value_in (Some digits) = sixteen_digits digits

-- a value behind a text
abbrev pub value_behind : List ℕ → List ℕ → Option ℕ
value_behind head word = value_in (behind head word)

-- `Variable MTRR[NN]: Base=VALUE Mask=VALUE`
abbrev pub said_by_pair : ℕ → List (ℕ × List ℕ) → LineSays
said_by_pair number words =
    shows_pair (pair_numbered (codes "MTRR[") (codes "]:") (text_of words 1))
    (place_of number words 2) (value_behind (codes "Base=") (text_of words 2))
    (place_of number words 3) (value_behind (codes "Mask=") (text_of words 3))

-- A value has sixteen digits: `MTRR Default Type: VALUE`, `Fixed MTRR[NN]   : VALUE`, `Variable MTRR[NN]: Base=VALUE Mask=VALUE`
abbrev pub said_by_words : ℕ → List (ℕ × List ℕ) → LineSays
said_by_words number words =
    if not (length words == 4) then Nothing
    else if is_text (codes "MTRR") (text_of words 0) && is_text (codes "Default") (text_of words 1) && is_text (codes "Type:") (text_of words 2)
    then shows_one (Some 0) (Some 0x2ff) (sixteen_digits (text_of words 3)) (place_of number words 3)
    else if is_text (codes "Fixed") (text_of words 0) && is_text (codes ":") (text_of words 2)
    then shows_one (Some 0) (fixed_number (pair_numbered (codes "MTRR[") (codes "]") (text_of words 1))) (sixteen_digits (text_of words 3)) (place_of number words 3)
    else if is_text (codes "Variable") (text_of words 0)
    then said_by_pair number words
    else Nothing

abbrev pub edk2_said : ℕ → List ℕ → LineSays
edk2_said number line = said_by_words number (first_words number line).words
