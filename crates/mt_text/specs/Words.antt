-- The words at the front of a line, by their number from 0 (own).
--     text_of words i      the text of a word, or no byte where it is none of these
--     place_of number words i      its place in the line of this number, or the line's first column
--     first_words number line      what is kept of a line of this number: its first seven words
use Rattle.std.specs.Prelude.{ℕ, ◌+◌, ◌-◌, ◌≤◌, List, [], length, map, take, drop, unwrap_or, slice_get}
use Rattle.std.specs.List.{AllByRecursion}
use Rattle.mt_text.specs.Text.{words_of}
use Rattle.mt_text.specs.declared.place.Place.{Place}
use Rattle.mt_text.specs.declared.first.Words.TheInside.{Inside}

-- a word of a line and its offset; an empty one where the line has no such word
abbrev pub word_of : List (ℕ × List ℕ) → ℕ → ℕ × List ℕ
word_of words i = unwrap_or (slice_get words i) (0, [])

abbrev pub text_of : List (ℕ × List ℕ) → ℕ → List ℕ
text_of words i = (word_of words i).1

abbrev pub place_of : ℕ → List (ℕ × List ℕ) → ℕ → Place
place_of number words i = record { line = number; column = (word_of words i).0 + 1 }

-- The words at the front of a line.
pub record FirstWords : Type 0 where
  pub number : ℕ  -- the line's number
  pub words : List (ℕ × List ℕ)  -- each word with its offset in the line

abbrev pub first_words : ℕ → List ℕ → FirstWords
first_words number line = record { number = number; words = take 7 (words_of line) }

-- what stands between two offsets of a text, with the first of them
abbrev pub word_between : List ℕ → ℕ × ℕ → ℕ × List ℕ
word_between text bounds = (bounds.0, take (bounds.1 - bounds.0) (drop bounds.0 text))

-- two offsets in a text, in their order
abbrev pub AreBounds : List ℕ → ℕ × ℕ → Type 0
AreBounds text bounds = (bounds.0 ≤ bounds.1) × (bounds.1 ≤ length text)

-- what a contract sees of the words
abbrev pub words_seen : Inside → FirstWords
words_seen inside = record { number = inside.number; words = map (word_between inside.text.now) inside.bounds.items }

abbrev pub HasBounds : Inside → Type 0
HasBounds inside = AllByRecursion (AreBounds inside.text.now) inside.bounds.items
