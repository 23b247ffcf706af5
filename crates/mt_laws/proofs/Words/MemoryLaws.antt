-- One write changes one word.
use Rattle.std.proofs.Common.{◌≡◌, ◌≢◌, ℕ, ◌+◌, ◌-◌, ◌*◌, ◌/◌, ◌%◌, ◌≤◌, ◌==◌, List, [], ◌∷◌, set, get_or, Some, None, Option, Bool, true, false, refl, ap, ◌∙◌, arith}
use Rattle.std.specs.Prelude.{if◌then◌else◌, nat_lt, nat_le, ◌&&◌}
use Rattle.std.specs.Option.{option_map_or}
use Rattle.std.proofs.lemmas.Bool.{eqb-true, ltb-true, leb-true}
use Rattle.std.proofs.lemmas.List.{get_or-set_other}
use Rattle.mt_machine.specs.Memory.{Memory, Window, place_in, place, word_at, put_word}
use Rattle.mt_laws.proofs.Barrier.Ranks.{and_left, and_right}

abbrev pub AllAligned : List Window → Type 0
AllAligned [] = Unit {0}
AllAligned (w ∷ ws) = (w.base % 64 ≡ 0) × AllAligned ws

holds : Window → ℕ → Bool
holds w a = nat_le w.base a && nat_lt a (w.base + 64 * w.lines)

place_from : (ws : List Window) (before a i : ℕ) → place_in ws before a ≡ Some i → before ≤ i
place_from [] before a i h = absurd (cc)
place_from (w ∷ ws) before a i h = one (nat_le w.base a && nat_lt a (w.base + 64 * w.lines)) (λ g. place_from ws (before + 8 * w.lines) a i g) h
  where
    one : (b : Bool) → (place_in ws (before + 8 * w.lines) a ≡ Some i → before + 8 * w.lines ≤ i) → (if b then Some (before + (a - w.base) / 8) else place_in ws (before + 8 * w.lines) a) ≡ Some i → before ≤ i
    one true rest g = let e : before + (a - w.base) / 8 ≡ i = cc in omega arith
    one false rest g = let e = rest g in omega arith

-- two words of one place have one address
pub place_apart : (ws : List Window) (before a b i : ℕ) → AllAligned ws → a % 8 ≡ 0 → b % 8 ≡ 0 → place_in ws before a ≡ Some i → place_in ws before b ≡ Some i → a ≡ b
place_apart [] before a b i aligned wa wb ha hb = absurd (cc)
place_apart (w ∷ ws) before a b i aligned wa wb ha hb =
    one (nat_le w.base a && nat_lt a (w.base + 64 * w.lines)) (nat_le w.base b && nat_lt b (w.base + 64 * w.lines)) refl refl
    (λ g h. place_apart ws (before + 8 * w.lines) a b i aligned.1 wa wb g h) (place_from ws (before + 8 * w.lines)) ha hb
  where
    one : (x y : Bool) → (nat_le w.base a && nat_lt a (w.base + 64 * w.lines)) ≡ x → (nat_le w.base b && nat_lt b (w.base + 64 * w.lines)) ≡ y
        → (place_in ws (before + 8 * w.lines) a ≡ Some i → place_in ws (before + 8 * w.lines) b ≡ Some i → a ≡ b)
        → ((c j : ℕ) → place_in ws (before + 8 * w.lines) c ≡ Some j → before + 8 * w.lines ≤ j)
        → (if x then Some (before + (a - w.base) / 8) else place_in ws (before + 8 * w.lines) a) ≡ Some i
        → (if y then Some (before + (b - w.base) / 8) else place_in ws (before + 8 * w.lines) b) ≡ Some i → a ≡ b
    one true true is_x is_y rest from g h =
        let ea : before + (a - w.base) / 8 ≡ i = cc in
        let eb : before + (b - w.base) / 8 ≡ i = cc in
        let la = leb-true w.base a (and_left _ _ is_x) in
        let lb = leb-true w.base b (and_left _ _ is_y) in
        let al = aligned.0 in
        omega arith
    one true false is_x is_y rest from g h =
        let ea : before + (a - w.base) / 8 ≡ i = cc in
        let up = ltb-true a (w.base + 64 * w.lines) (and_right (nat_le w.base a) _ is_x) in
        let la = leb-true w.base a (and_left _ _ is_x) in
        let f = from b i h in
        let al = aligned.0 in
        absurd (omega arith)
    one false true is_x is_y rest from g h =
        let eb : before + (b - w.base) / 8 ≡ i = cc in
        let up = ltb-true b (w.base + 64 * w.lines) (and_right (nat_le w.base b) _ is_y) in
        let lb = leb-true w.base b (and_left _ _ is_y) in
        let f = from a i g in
        let al = aligned.0 in
        absurd (omega arith)
    one false false is_x is_y rest from g h = rest g h

-- a write to one address leaves the words of the others
pub put_other : (m : Memory) (a b v : ℕ) → AllAligned m.windows → a ≢ b → word_at (put_word m a v) b ≡ word_at m b
put_other m a b v aligned apart = at_place (place m a) refl
  where
    placed : (c j : ℕ) → place m c ≡ Some j → (c % 8 ≡ 0) × (place_in m.windows 0 c ≡ Some j)
    placed c j h = one (c % 8 == 0) refl h
      where
        one : (x : Bool) → (c % 8 == 0) ≡ x → (if x then place_in m.windows 0 c else None) ≡ Some j → (c % 8 ≡ 0) × (place_in m.windows 0 c ≡ Some j)
        one true is g = (eqb-true (c % 8) 0 is, g)
        one false is g = absurd (cc)

    read : (i : ℕ) (y : Option ℕ) → place m a ≡ Some i → place m b ≡ y → option_map_or (λ j. get_or (set m.words i v) j 0) y 0 ≡ option_map_or (λ j. get_or m.words j 0) y 0
    read i None is at = refl
    read i (Some j) is at =
        let pa = placed a i is in
        let pb = placed b j at in
        let other : j ≢ i = λ e. apart (place_apart m.windows 0 a b i aligned pa.0 pb.0 pa.1 (pb.1 ∙ ap Some e)) in
        get_or-set_other m.words i j v 0 other

    at_place : (x : Option ℕ) → place m a ≡ x → word_at (option_map_or (λ i. record m { words = set m.words i v }) x m) b ≡ word_at m b
    at_place None is = refl
    at_place (Some i) is = read i (place m b) is refl
