-- An empty word names no file.
use Rattle.std.proofs.Common.{◌≡◌, ◌++◌, Bool, List, [], ◌∷◌, ℕ, true, arith}
use Rattle.std.proofs.lemmas.Grind.{common_steps}
use Rattle.mt_shell.specs.Runs.{NamesNoFile, may_name_file}

pub no_file : (reads : List (List ℕ) → Bool) (front : List (List ℕ)) (file : List ℕ) → [] ∷ [] ≡ front ++ file ∷ [] → may_name_file file ≡ true → ⊥
no_file reads [] file is may = grind (arith, common_steps)
no_file reads (word ∷ []) file is may = grind (arith, common_steps)
no_file reads (word ∷ second ∷ front) file is may = grind (arith, common_steps)

pub empty_names_no_file : (reads : List (List ℕ) → Bool) → NamesNoFile reads ([] ∷ [])
empty_names_no_file reads front file named = no_file reads front file named.words_are named.last
