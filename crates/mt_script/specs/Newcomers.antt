-- Which lines bring a processor up (own).
--     brings_up line      the line begins with the word `up` or `join`
--     IsWithoutNewcomers text      no line of the text does
use Rattle.std.specs.Prelude.{ℕ, ◌≡◌, ◌||◌, Bool, false, List, codes}
use Rattle.std.specs.List.{All}
use Rattle.mt_text.specs.Text.{lines_of, words_of}
use Rattle.mt_script.specs.Words.{text_of}
use Rattle.mt_dump.specs.Line.{is_word}

abbrev pub brings_up : List ℕ → Bool
brings_up line = is_word (codes "up") (text_of (words_of line) 0) || is_word (codes "join") (text_of (words_of line) 0)

abbrev pub IsWithoutNewcomers : List ℕ → Type 0
IsWithoutNewcomers text = All (λ line. brings_up line ≡ false) (lines_of text)
