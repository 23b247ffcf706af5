-- The lines of a text, and the words of a line (own).
--     lines_of text      the lines, each without its LF; a line ends with LF or at the end of the text
--     content line       what words stand in: the line without a CR at its end, up to the first `#`
--     words_of line      the words, each with its offset in the line; a word is a longest run of bytes that are no blanks
--     words_at offset line      the same words, each with its offset in a source in which the line stands at this offset
--     longest_input      the bytes of the longest input that is read
--     longest_line      the bytes of the longest line that is read
--     is_too_long line      whether a line has more
use Rattle.std.specs.Prelude.{ℕ, ◌+◌, ◌≡◌, ◌≤◌, ⊤, drop, Bool, true, false, count_by, ◌==◌, ◌||◌, not, nat_lt, List, [], ◌∷◌, if◌then◌else◌, length, take, Some}
use Rattle.std.specs.List.{onto_first, before_first, slice_get, slice_split, filter, list_any}
use Rattle.mt_text.specs.declared.place.Place.{Place}

abbrev pub is_line_end : ℕ → Bool
is_line_end byte = byte == 10

abbrev pub is_blank : ℕ → Bool
is_blank byte = byte == 32 || byte == 9

abbrev pub is_word_byte : ℕ → Bool
is_word_byte byte = not (is_blank byte)

abbrev pub is_comment_start : ℕ → Bool
is_comment_start byte = byte == 35

-- a byte before which a word ends
abbrev pub ends_word : ℕ → Bool
ends_word byte = is_blank byte || is_comment_start byte

abbrev pub lines_of : List ℕ → List (List ℕ)
lines_of [] = []
lines_of (byte ∷ bytes) = if is_line_end byte then [] ∷ lines_of bytes else onto_first byte (lines_of bytes)

-- a text without one such byte at its end
abbrev pub without_ending : ℕ → List ℕ → List ℕ
without_ending ending [] = []
without_ending ending (byte ∷ []) = if byte == ending then [] else byte ∷ []
without_ending ending (byte ∷ next ∷ bytes) = byte ∷ without_ending ending (next ∷ bytes)

-- a line without a CR at its end
abbrev pub without_return : List ℕ → List ℕ
without_return line = without_ending 13 line

abbrev pub before_comment : List ℕ → List ℕ
before_comment line = before_first is_comment_start line

abbrev pub content : List ℕ → List ℕ
content line = before_comment (without_return line)

-- whether a word goes on with these bytes
abbrev pub goes_on : List ℕ → Bool
goes_on [] = false
goes_on (byte ∷ bytes) = is_word_byte byte

abbrev pub longest_input : ℕ
longest_input = 16777216

abbrev pub longest_line : ℕ
longest_line = 4096

abbrev pub is_too_long : List ℕ → Bool
is_too_long line = nat_lt longest_line (length line)

-- where the offence of such a line of this number stands: just past the longest
abbrev pub past_limit : ℕ → Place
past_limit number = record { line = number; column = longest_line + 1 }

-- the words, the first of which begins one byte earlier, with this byte
abbrev pub lengthened : ℕ → ℕ → List (ℕ × List ℕ) → List (ℕ × List ℕ)
lengthened start byte [] = []
lengthened start byte (word ∷ words) = (start, byte ∷ word.1) ∷ words

-- the words of bytes that stand at an offset
abbrev pub words_from : ℕ → List ℕ → List (ℕ × List ℕ)
words_from offset [] = []
words_from offset (byte ∷ bytes) =
    if is_blank byte then words_from (offset + 1) bytes
    else if goes_on bytes then lengthened offset byte (words_from (offset + 1) bytes)
    else (offset, byte ∷ []) ∷ words_from (offset + 1) bytes

abbrev pub words_at : ℕ → List ℕ → List (ℕ × List ℕ)
words_at offset line = words_from offset (content line)

abbrev pub words_of : List ℕ → List (ℕ × List ℕ)
words_of line = words_at 0 line

abbrev pub has_bytes : List ℕ → Bool
has_bytes [] = false
has_bytes (byte ∷ bytes) = true

-- what stands between spaces and tabs
abbrev pub between_blanks : List ℕ → List (List ℕ)
between_blanks line = filter has_bytes (slice_split is_blank line)

-- a word that a line has, by its offset in the line
abbrev pub HasWord : List ℕ → ℕ × List ℕ → Type 0
HasWord line word = (i : ℕ) × (slice_get (words_of line) i ≡ Some word)

-- what follows the last LF, or the whole text where there is none
abbrev pub after_line_ends : List ℕ → List ℕ
after_line_ends [] = []
after_line_ends (byte ∷ bytes) = if list_any is_line_end (byte ∷ bytes) then after_line_ends bytes else byte ∷ bytes

-- the place after bytes that begin at a place
abbrev pub place_behind : Place → List ℕ → Place
place_behind place [] = place
place_behind place (byte ∷ bytes) =
    if is_line_end byte then place_behind (record { line = place.line + 1; column = 1 }) bytes
    else place_behind (record { line = place.line; column = place.column + 1 }) bytes

-- the place after the last byte
abbrev pub end_of : List ℕ → Place
end_of text = record { line = count_by is_line_end text + 1; column = length (after_line_ends text) + 1 }

-- Each word is what stands at its offset in the line, has a byte, and begins at or after the end of the one before it.
abbrev pub StandInOrder : List ℕ → ℕ → List (ℕ × List ℕ) → Type 0
StandInOrder line from [] = ⊤
StandInOrder line from (word ∷ words) =
    (from ≤ word.0) × (1 ≤ length word.1) × (word.1 ≡ take (length word.1) (drop word.0 line)) × StandInOrder line (word.0 + length word.1) words
