-- A piece of a source that gives all that it has and the buffer has room for.
use Rattle.std.proofs.Common.{◌≡◌, ◌≤◌, ◌<◌, ◌+◌, ◌-◌, ◌++◌, ◌∙◌, ℕ, List, [], length, take, drop, min, sym, ap, arith, length-drop}
use Rattle.std.proofs.lemmas.List.{drop-drop, length-take-le, take-append-drop, take-append-le, take-take, take_all}
use Rattle.std.proofs.lemmas.Grind.{common_steps}

front_of_buffer : (piece after : List ℕ) (count : ℕ) → length piece ≡ count → take count (piece ++ after) ≡ piece
front_of_buffer piece after count is = take-append-le count piece after (omega arith) ∙ take_all count piece (omega arith)

-- what was left is the piece and what is left then
pub piece_and_rest : (bytes copied after : List ℕ) (place count : ℕ) → copied ≡ take count (take (length bytes - place) (drop place bytes)) → count ≤ length bytes - place
    → drop place bytes ≡ take count (copied ++ after) ++ drop (place + count) bytes
piece_and_rest bytes copied after place count is fits =
    let whole : copied ≡ take count (drop place bytes) = is ∙ take-take count (length bytes - place) (drop place bytes) fits in
    let size : length copied ≡ count = ap length whole ∙ length-take-le count (drop place bytes) (omega (arith, length-drop place bytes)) in
    rw (front_of_buffer copied after count size, whole, ← drop-drop count place bytes) (sym (take-append-drop count (drop place bytes)))

pub whole_fits : (bytes : List ℕ) (place room count : ℕ) → count ≡ min (length (take (length bytes - place) (drop place bytes))) room → count ≤ length bytes - place
whole_fits bytes place room count is = grind (arith, common_steps)

pub whole_left : (bytes : List ℕ) (place room count : ℕ) → count ≡ min (length (take (length bytes - place) (drop place bytes))) room → 0 < room → count ≡ 0 → drop (place + count) bytes ≡ []
whole_left bytes place room count is some none = grind (arith, common_steps)
