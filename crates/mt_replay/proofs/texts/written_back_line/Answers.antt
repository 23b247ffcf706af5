use Rattle.std.proofs.Common.{◌≡◌, ◌∙◌, ap, arith, ℕ, List, [], ◌∷◌, ◌++◌, codes, take, drop, length}
use Rattle.std.proofs.lemmas.List.{take_all, length-drop}
use Rattle.mt_replay.proofs.texts.written_back_line.Goals as goal

rest_of : (xs : List ℕ) → length xs ≡ 16 → take 13 (drop 3 xs) ≡ drop 3 xs
rest_of xs long = take_all 13 (drop 3 xs) (omega (arith, length-drop 3 xs))

pub returns : goal.returns
returns c =
    let long : length c.value_text.result ≡ 16 = omega arith in
    ap (λ (l : List ℕ). codes "write-back " ++ (l ++ 10 ∷ []))
    (c.copy_from_slice.ensures.after ∙ rest_of c.value_text.result long ∙ ap (λ (l : List ℕ). drop 3 l) c.value_text.ensures)
