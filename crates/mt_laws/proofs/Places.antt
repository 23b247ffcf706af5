-- No word lies at or above the end of the physical addresses; the words of a line in turn, and a line that is written back to no word.
use Rattle.std.proofs.Common.{◌≡◌, ◌∙◌, ap, sym, refl, arith, ℕ, zero, suc, ◌<◌, ◌≤◌, ◌+◌, ◌-◌, ◌*◌, ◌/◌, ◌%◌, ◌^◌, ◌==◌, ◌&&◌, nat_le, nat_lt, Bool, true, false, if◌then◌else◌, List, [], ◌∷◌, drop, Option, Some, None}
use Rattle.std.specs.Prelude.{slice_index, slice_set}
use Rattle.std.specs.Option.{option_map_or}
use Rattle.std.specs.List.{All, fold}
use Rattle.std.proofs.lemmas.Bool.{ltb-true}
use Rattle.std.proofs.lemmas.List.Elements.{All-head, All-tail}
use Rattle.mt_cache.specs.declared.line.CacheLine.{CacheLine}
use Rattle.mt_cache.specs.Lines.{eight, is_dirty}
use Rattle.mt_machine.specs.Memory.{IsMemory, Memory, Window, place, place_in, put_word, window_end, word_address, write_back, write_back_word}

none_above : (ws : List Window) (before a : ℕ) → All (λ w. window_end w ≤ 2 ^ 52) ws → 2 ^ 52 ≤ a → place_in ws before a ≡ None
none_above [] before a bounded high = refl
none_above (w ∷ ws) before a bounded high =
    one (nat_le w.base a) (nat_lt a (window_end w)) refl (none_above ws (before + 8 * w.lines) a (All-tail (λ v. window_end v ≤ 2 ^ 52) w ws bounded) high)
  where
    one : (x y : Bool) → nat_lt a (window_end w) ≡ y → place_in ws (before + 8 * w.lines) a ≡ None
        → (if x && y then Some (before + (a - w.base) / 8) else place_in ws (before + 8 * w.lines) a) ≡ None
    one true true low later = let l = All-head (λ v. window_end v ≤ 2 ^ 52) w ws bounded in let h = ltb-true _ _ low in absurd (omega arith)
    one true false low later = later
    one false y low later = later

pub nowhere : (m : Memory) (address : ℕ) → IsMemory m → 2 ^ 52 ≤ address → place m address ≡ None
nowhere m address h high = one (address % 8 == 0)
  where
    one : (b : Bool) → (if b then place_in m.windows 0 address else None) ≡ None
    one true = none_above m.windows 0 address h.bounded high
    one false = refl

pub no_place : (m : Memory) (number word : ℕ) → IsMemory m → 2 ^ 46 ≤ number → place m (word_address number word) ≡ None
no_place m number word h high = nowhere m (word_address number word) h (omega arith)

-- the words of a line from one on are that and those after it
pub eight_more : (i : ℕ) → i < 8 → drop i eight ≡ i ∷ drop (i + 1) eight
eight_more zero l = refl
eight_more (suc zero) l = refl
eight_more (suc (suc zero)) l = refl
eight_more (suc (suc (suc zero))) l = refl
eight_more (suc (suc (suc (suc zero)))) l = refl
eight_more (suc (suc (suc (suc (suc zero))))) l = refl
eight_more (suc (suc (suc (suc (suc (suc zero)))))) l = refl
eight_more (suc (suc (suc (suc (suc (suc (suc zero))))))) l = refl
eight_more (suc (suc (suc (suc (suc (suc (suc (suc i)))))))) l = absurd (omega arith)

-- ---- a line that is written back

-- no word is written
pub nothing_written : (m : Memory) (l : CacheLine) → ((word : ℕ) → word < 8 → write_back_word l m word ≡ m) → m ≡ write_back m l
nothing_written m l still =
    let more : List ℕ → Memory → Memory = λ ws u. fold (write_back_word l) u ws in
    sym
    (ap (more (1 ∷ 2 ∷ 3 ∷ 4 ∷ 5 ∷ 6 ∷ 7 ∷ [])) (still 0 (omega arith))
    ∙ ap (more (2 ∷ 3 ∷ 4 ∷ 5 ∷ 6 ∷ 7 ∷ [])) (still 1 (omega arith))
    ∙ ap (more (3 ∷ 4 ∷ 5 ∷ 6 ∷ 7 ∷ [])) (still 2 (omega arith))
    ∙ ap (more (4 ∷ 5 ∷ 6 ∷ 7 ∷ [])) (still 3 (omega arith))
    ∙ ap (more (5 ∷ 6 ∷ 7 ∷ [])) (still 4 (omega arith))
    ∙ ap (more (6 ∷ 7 ∷ [])) (still 5 (omega arith))
    ∙ ap (more (7 ∷ [])) (still 6 (omega arith))
    ∙ still 7 (omega arith))

pub nowhere_stays : (m : Memory) (l : CacheLine) → ((word : ℕ) → word < 8 → place m (word_address l.number word) ≡ None) → m ≡ write_back m l
nowhere_stays m l nowhere = nothing_written m l (λ word within. one (is_dirty l word) word within)
  where
    one : (b : Bool) (word : ℕ) → word < 8 → (if b then put_word m (word_address l.number word) (slice_index l.words word) else m) ≡ m
    one true word within = ap (λ (o : Option ℕ). option_map_or (λ i. record m { words = slice_set m.words i (slice_index l.words word) }) o m) (nowhere word within)
    one false word within = refl
