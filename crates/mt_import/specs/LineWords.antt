-- The words of a line behind what logs put in front of it (own).
--     head_end words      the number of the first word behind a date, a host and the like, and a stamp in brackets
--     kernel_end words      the same, or behind `(XEN)` and a stamp
--     behind_stamp at words      the number of the first word behind a stamp that begins at the word of this number
--     words_behind first line      the words of a line from the word of this number on
use Rattle.std.specs.Prelude.{ℕ, ◌+◌, ◌-◌, ◌==◌, ◌&&◌, ◌||◌, Bool, false, not, codes, List, [], ◌∷◌, take, drop, length, slice_get, if◌then◌else◌, Option, Some, None}
use Rattle.mt_text.specs.Text.{words_of}
use Rattle.mt_text.specs.Words.{text_of}
use Rattle.mt_import.specs.Pieces.{is_text}

-- a word that begins with `[`
abbrev pub is_bracket : List ℕ → Bool
is_bracket [] = false
is_bracket (byte ∷ bytes) = byte == 91

-- `6>[` or `12>[`, behind its `<`
abbrev pub is_level : List ℕ → Bool
is_level rest = is_text (codes ">[") (take 2 (drop 1 rest)) || is_text (codes ">[") (take 2 (drop 2 rest))

-- a word that begins with `[`, or with a level as `<6>[`
abbrev pub is_opened : List ℕ → Bool
is_opened word = is_bracket word || (is_text (codes "<") (take 1 word) && is_level (drop 1 word))

abbrev pub is_closing : Option ℕ → Bool
is_closing None = false
is_closing (Some byte) = byte == 93

-- a word that ends with `]`
abbrev pub is_closed : List ℕ → Bool
is_closed word = is_closing (slice_get word (length word - 1))

-- A stamp is what stands between brackets, five words at most: `[    0.000000]`, `[    0.000000][    T0]` or a date.
abbrev pub behind_stamp : ℕ → List (ℕ × List ℕ) → ℕ
behind_stamp at words =
    if not (is_opened (text_of words at)) then at
    else if is_closed (text_of words at) then at + 1
    else if is_closed (text_of words (at + 1)) then at + 2
    else if is_closed (text_of words (at + 2)) then at + 3
    else if is_closed (text_of words (at + 3)) then at + 4
    else if is_closed (text_of words (at + 4)) then at + 5
    else at

-- `2026-11-28T05:45:01,000000+00:00`, of `dmesg --time-format iso`
abbrev pub is_iso : List ℕ → Bool
is_iso word = is_text (codes "-") (take 1 (drop 4 word)) && is_text (codes "T") (take 1 (drop 10 word))

-- `kern  :info  :` or `kern  :notice:`, of `dmesg -x`
abbrev pub behind_facility : List (ℕ × List ℕ) → ℕ
behind_facility words =
    if not (is_text (codes "kern") (text_of words 0) && is_text (codes ":") (take 1 (text_of words 1))) then 0
    else if is_text (codes ":") (text_of words 2) then 3
    else 2

-- `2026-11-28T05:45:01+0000 host kernel:` and `Nov 28 05:45:01 host kernel:`, of journalctl and syslog
abbrev pub behind_log : List (ℕ × List ℕ) → ℕ
behind_log words =
    if is_text (codes "kernel:") (text_of words 2) then 3
    else if is_text (codes "kernel:") (text_of words 4) then 5
    else if is_iso (text_of words 0) then 1
    else behind_facility words

abbrev pub head_end : List (ℕ × List ℕ) → ℕ
head_end words = behind_stamp (behind_log words) words

-- the same of a line that Xen's console may have
abbrev pub kernel_end : List (ℕ × List ℕ) → ℕ
kernel_end words = if is_text (codes "(XEN)") (text_of words 0) then behind_stamp 1 words else head_end words

abbrev pub words_behind : ℕ → List ℕ → List (ℕ × List ℕ)
words_behind first line = drop first (words_of line)
