-- The words of a line stand in a row, and a clean line leaves memory as it is.
use Rattle.std.proofs.Common.{◌≡◌, ◌∙◌, ap, sym, refl, arith, ℕ, zero, suc, ◌<◌, ◌≤◌, ◌+◌, ◌-◌, ◌*◌, ◌/◌, ◌%◌, ◌==◌, ◌&&◌, nat_le, nat_lt, Bool, true, false, if◌then◌else◌, List, [], ◌∷◌, length, Option, Some, None}
use Rattle.std.specs.Prelude.{slice_index, IfSome}
use Rattle.std.specs.Option.{option_map, option_map_or}
use Rattle.std.specs.List.{All}
use Rattle.std.proofs.lemmas.Bool.{eq-eqb, leb-false, leb-true, ltb-false, ltb-true}
use Rattle.std.proofs.lemmas.List.Elements.{All-head, All-tail}
use Rattle.mt_kinds.specs.Bits.{is_bit_set}
use Rattle.mt_cache.specs.declared.line.CacheLine.{CacheLine}
use Rattle.mt_machine.specs.Memory.{IsMemory, Memory, Window, place, place_in, put_word, window_end, word_address, word_at, word_count, write_back}
use Rattle.mt_laws.proofs.Places.{nothing_written}
use Rattle.mt_ram.proofs.Windows.{place_within}

-- ---- the words of a line stand in a row

-- where the windows begin at lines, they have a line's words all or none
words_follow : (ws : List Window) (before n word : ℕ) → All (λ w. w.base % 64 ≡ 0) ws → word < 8 → place_in ws before (word_address n word) ≡ option_map (λ i. i + word) (place_in ws before (64 * n))
words_follow [] before n word aligned within = refl
words_follow (w ∷ ws) before n word aligned within =
    one (nat_le w.base (64 * n)) (nat_lt (64 * n) (window_end w)) (nat_le w.base (word_address n word)) (nat_lt (word_address n word) (window_end w)) refl refl refl refl
    (words_follow ws (before + 8 * w.lines) n word (All-tail (λ v. v.base % 64 ≡ 0) w ws aligned) within)
  where
    base : w.base % 64 ≡ 0
    base = All-head (λ v. v.base % 64 ≡ 0) w ws aligned

    one : (x y u v : Bool) → nat_le w.base (64 * n) ≡ x → nat_lt (64 * n) (window_end w) ≡ y → nat_le w.base (word_address n word) ≡ u → nat_lt (word_address n word) (window_end w) ≡ v
        → place_in ws (before + 8 * w.lines) (word_address n word) ≡ option_map (λ i. i + word) (place_in ws (before + 8 * w.lines) (64 * n))
        → (if u && v then Some (before + (word_address n word - w.base) / 8) else place_in ws (before + 8 * w.lines) (word_address n word))
        ≡ option_map (λ i. i + word) (if x && y then Some (before + (64 * n - w.base) / 8) else place_in ws (before + 8 * w.lines) (64 * n))
    one true true true true a b c d later = let l = leb-true _ _ a in ap (λ i. Some i) (omega (arith, l, within))
    one true true true false a b c d later = let h = ltb-true _ _ b in let g = ltb-false _ _ d in absurd (omega (arith, h, g, base, within))
    one true true false v a b c d later = let l = leb-true _ _ a in let g = leb-false _ _ c in absurd (omega (arith, l, g, within))
    one true false true true a b c d later = let h = ltb-false _ _ b in let g = ltb-true _ _ d in absurd (omega (arith, h, g, within))
    one true false true false a b c d later = later
    one true false false v a b c d later = later
    one false y true true a b c d later = let l = leb-false _ _ a in let g = leb-true _ _ c in absurd (omega (arith, l, g, base, within))
    one false y true false a b c d later = later
    one false y false v a b c d later = later

pub line_place : (m : Memory) (n word : ℕ) → IsMemory m → word < 8 → place m (word_address n word) ≡ option_map (λ i. i + word) (place m (64 * n))
line_place m n word h within =
    ap (λ b. if b then place_in m.windows 0 (word_address n word) else None) (eq-eqb (word_address n word % 8) 0 (omega arith))
    ∙ words_follow m.windows 0 n word h.aligned within
    ∙ ap (λ b. option_map (λ i. i + word) (if b then place_in m.windows 0 (64 * n) else None)) (sym (eq-eqb (64 * n % 8) 0 (omega arith)))

-- eight words stand from the place of a line on
pub line_within : (m : Memory) (n i : ℕ) → IsMemory m → place m (64 * n) ≡ Some i → i + 8 ≤ length m.words
line_within m n i h at = one (place_in m.windows 0 (word_address n 7)) last (place_within m.windows 0 (word_address n 7))
  where
    last : place_in m.windows 0 (word_address n 7) ≡ Some (i + 7)
    last =
        ap (λ b. if b then place_in m.windows 0 (word_address n 7) else None) (sym (eq-eqb (word_address n 7 % 8) 0 (omega arith)))
        ∙ line_place m n 7 h (omega arith)
        ∙ ap (option_map (λ j. j + 7)) at

    one : (o : Option ℕ) → o ≡ Some (i + 7) → IfSome o (λ j. j < 0 + word_count m.windows) → i + 8 ≤ length m.words
    one None e below = absurd (cc)
    one (Some j) e below = let same : j ≡ i + 7 = cc in omega (arith, same, below, h.counted)

-- ---- a line that is written back

no_bit : (word : ℕ) → word < 8 → is_bit_set 0 word ≡ false
no_bit zero within = refl
no_bit (suc zero) within = refl
no_bit (suc (suc zero)) within = refl
no_bit (suc (suc (suc zero))) within = refl
no_bit (suc (suc (suc (suc zero)))) within = refl
no_bit (suc (suc (suc (suc (suc zero))))) within = refl
no_bit (suc (suc (suc (suc (suc (suc zero)))))) within = refl
no_bit (suc (suc (suc (suc (suc (suc (suc zero))))))) within = refl
no_bit (suc (suc (suc (suc (suc (suc (suc (suc word)))))))) within = absurd (omega arith)

pub clean_stays : (m : Memory) (l : CacheLine) → l.dirty ≡ 0 → m ≡ write_back m l
clean_stays m l clean =
    nothing_written m l
    (λ word within. ap (λ b. if b then put_word m (word_address l.number word) (slice_index l.words word) else m) (ap (λ d. is_bit_set d word) clean ∙ no_bit word within))

pub read_word : (m : Memory) (n word first v : ℕ) → place m (word_address n word) ≡ Some (first + word) → v ≡ slice_index m.words (first + word) → v ≡ word_at m (word_address n word)
read_word m n word first v at is = is ∙ sym (ap (λ (o : Option ℕ). option_map_or (λ i. slice_index m.words i) o 0) at)
