-- The words of a command line, as a host hands them over (own).
--     words_in text      the words of a text in which a zero byte ends each; none if one of them isn't UTF-8
use Rattle.std.specs.Prelude.{ℕ, ◌==◌, List, [], ◌∷◌, ◌++◌, if◌then◌else◌}
use Rattle.std.specs.Str.{is_utf8}

-- The words, given those before, the bytes of the next one so far, and the rest of the text. What no zero byte ends is no word.
abbrev pub words_from : List (List ℕ) → List ℕ → List ℕ → List (List ℕ)
words_from words word [] = words
words_from words word (byte ∷ rest) =
    if byte == 0 then if is_utf8 word then words_from (words ++ word ∷ []) [] rest else []
    else words_from words (word ++ byte ∷ []) rest

abbrev pub words_in : List ℕ → List (List ℕ)
words_in text = words_from [] [] text
