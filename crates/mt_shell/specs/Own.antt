-- The texts of a program about itself (own).
--     own_text words help version      the text of these words, if they are `--help`, `-h` or `--version` alone
use Rattle.std.specs.Prelude.{ℕ, nat_eq, ◌||◌, List, [], ◌∷◌, codes, if◌then◌else◌, Option, Some, None}
use Rattle.std.specs.Cmp.Lexicographic.{pointwise}

abbrev pub own_text_of : List ℕ → List ℕ → List ℕ → Option (List ℕ)
own_text_of word help version =
    if pointwise nat_eq word (codes "--help") || pointwise nat_eq word (codes "-h") then Some help
    else if pointwise nat_eq word (codes "--version") then Some version
    else None

abbrev pub own_text : List (List ℕ) → List ℕ → List ℕ → Option (List ℕ)
own_text [] help version = None
own_text (word ∷ []) help version = own_text_of word help version
own_text (word ∷ second ∷ more) help version = None
