-- What the words of the command line ask for (own).
--     asked_by words      what these words ask for; all other lists of words are wrong usage
--     title_in words      the caption that they give to a picture
--     has_files words     whether they say that the sections of a dump are files
--     own_text asked      the text of `--help` and of `--version`
use Rattle.std.specs.Prelude.{ℕ, nat_eq, nat_le, nat_lt, Bool, true, false, not, ◌&&◌, ◌||◌, List, [], ◌∷◌, codes, drop, take, length, flat_map, if◌then◌else◌, Option, Some, None}
use Rattle.std.specs.Cmp.Lexicographic.{pointwise}
use Rattle.mt_output.specs.Lines.{line}
use Rattle.mt_map.specs.declared.asked.Asked.{Asked}
use Rattle.mt_map.specs.declared.asked.Asked.TheVariants.{Picture, Help, Version}

abbrev pub help_lines : List (List ℕ)
help_lines =
    codes "usage: mtrr-map [title=TEXT] [files] [DUMP] > PICTURE"
    ∷ codes ""
    ∷ codes "Draws the memory types that a dump of registers gives, as an SVG picture."
    ∷ codes ""
    ∷ codes "  title=TEXT  a caption of 1 to 80 bytes, without control characters"
    ∷ codes "  files       the two sections are files, named before and after"
    ∷ codes "  DUMP        names the dump; without it, or if it is -, standard input is read"
    ∷ codes "  -h, --help  this text"
    ∷ codes "  --version   the version"
    ∷ codes ""
    ∷ codes "-h, --help and --version read nothing."
    ∷ codes ""
    ∷ codes "Exit status:"
    ∷ codes "  0  done"
    ∷ codes "  1  the registers have a fault"
    ∷ codes "  2  wrong usage"
    ∷ codes "  3  the input is no dump"
    ∷ codes "  4  reading failed"
    ∷ codes "  5  writing failed"
    ∷ codes "  6  out of memory"
    ∷ codes "  7  the input has more than 16,777,216 bytes"
    ∷ []

unfoldable pub help_text : List ℕ
help_text = flat_map line help_lines

unfoldable pub version_text : List ℕ
version_text = line (codes "mtrr-map 1.0.0")

-- ---- captions

-- the most bytes of a caption
abbrev pub longest_title : ℕ
longest_title = 80

-- the rest of U+FFFE or U+FFFF in UTF-8, behind its first byte: XML has neither of these characters
abbrev pub is_noncharacter_tail : List ℕ → Bool
is_noncharacter_tail [] = false
is_noncharacter_tail (second ∷ []) = false
is_noncharacter_tail (second ∷ third ∷ more) = nat_eq second 0xbf && nat_le 0xbe third

-- a text without control characters, of characters that XML has
abbrev pub is_plain : List ℕ → Bool
is_plain [] = true
is_plain (byte ∷ rest) = nat_le 0x20 byte && not (nat_eq byte 0xef && is_noncharacter_tail rest) && is_plain rest

abbrev pub is_title : List ℕ → Bool
is_title text = nat_lt 0 (length text) && nat_le (length text) longest_title && is_plain text

abbrev pub title_as : Option (List ℕ) → Option (List ℕ)
title_as None = None
title_as (Some text) = if is_title text then Some text else None

abbrev pub behind : List ℕ → List ℕ → Option (List ℕ)
behind head word = if pointwise nat_eq (take (length head) word) head then Some (drop (length head) word) else None

-- the caption that a word gives
abbrev pub title_of : List ℕ → Option (List ℕ)
title_of word = title_as (behind (codes "title=") word)

abbrev pub has_title : Option (List ℕ) → Bool
has_title None = false
has_title (Some text) = true

abbrev pub or_title : Option (List ℕ) → Option (List ℕ) → Option (List ℕ)
or_title None other = other
or_title (Some text) other = Some text

abbrev pub title_in : List (List ℕ) → Option (List ℕ)
title_in [] = None
title_in (word ∷ []) = title_of word
title_in (word ∷ second ∷ more) = or_title (title_of word) (title_of second)

-- a byte of a caption as a picture has it
abbrev pub escaped_byte : ℕ → List ℕ
escaped_byte byte =
    if nat_eq byte 0x26 then codes "&amp;"
    else if nat_eq byte 0x3c then codes "&lt;"
    else if nat_eq byte 0x3e then codes "&gt;"
    else byte ∷ []

abbrev pub escaped : List ℕ → List ℕ
escaped text = flat_map escaped_byte text

-- ---- files

abbrev pub is_files : List ℕ → Bool
is_files word = pointwise nat_eq word (codes "files")

abbrev pub has_files : List (List ℕ) → Bool
has_files [] = false
has_files (word ∷ []) = is_files word
has_files (word ∷ second ∷ more) = is_files word || is_files second

-- ---- words

abbrev pub asked_by_one : List ℕ → Option Asked
asked_by_one word =
    if pointwise nat_eq word (codes "--help") || pointwise nat_eq word (codes "-h") then Some Help
    else if pointwise nat_eq word (codes "--version") then Some Version
    else if has_title (title_of word) || is_files word then Some Picture
    else None

-- a caption and `files`, in either order
abbrev pub are_labels : List ℕ → List ℕ → Bool
are_labels word second = (has_title (title_of word) && is_files second) || (is_files word && has_title (title_of second))

abbrev pub asked_by : List (List ℕ) → Option Asked
asked_by [] = Some Picture
asked_by (word ∷ []) = asked_by_one word
asked_by (word ∷ second ∷ []) = if are_labels word second then Some Picture else None
asked_by (word ∷ second ∷ third ∷ more) = None

abbrev pub is_picture : Option Asked → Bool
is_picture None = false
is_picture (Some Picture) = true
is_picture (Some Help) = false
is_picture (Some Version) = false

abbrev pub own_text : Option Asked → Option (List ℕ)
own_text None = None
own_text (Some Picture) = None
own_text (Some Help) = Some help_text
own_text (Some Version) = Some version_text

-- nothing is read, except for a picture
abbrev pub left_of : Option Asked → List ℕ → List ℕ
left_of None bytes = bytes
left_of (Some Picture) bytes = []
left_of (Some Help) bytes = bytes
left_of (Some Version) bytes = bytes
