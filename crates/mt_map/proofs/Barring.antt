-- The bars of the pairs so far, and of the next one.
use Rattle.std.proofs.Common.{◌≡◌, ◌∙◌, ◌<◌, ◌≤◌, ◌+◌, ◌++◌, ◌∷◌, List, ℕ, ap, sym, drop, length, get_or, append_assoc, append-nil, length-append}
use Rattle.std.proofs.lemmas.List.{drop_all, drop_more}
use Rattle.mt_regs.specs.RegisterFile.{RegisterFile}
use Rattle.mt_map.specs.declared.bar.Bar.{Bar}
use Rattle.mt_map.specs.Shapes.{bars_of_pair, pair_bars}

module _ (f : RegisterFile) (n : ℕ) (pairs : List (ℕ × ℕ)) where
  pub bars_next : (d pair : ℕ × ℕ) (before after all : List Bar) → n < length pairs → pair ≡ get_or pairs n d → after ≡ before ++ bars_of_pair f (length before) n pair
      → before ++ pair_bars f (length before) n (drop n pairs) ≡ all → after ++ pair_bars f (length after) (n + 1) (drop (n + 1) pairs) ≡ all
  bars_next d pair before after all within pair_is after_is was =
      let own : List Bar = bars_of_pair f (length before) n pair in
      let rest : List (ℕ × ℕ) = drop (n + 1) pairs in
      let drops : drop n pairs ≡ pair ∷ rest = drop_more pairs n d within ∙ ap (λ (p : ℕ × ℕ). p ∷ rest) (sym pair_is) in
      ap (λ (bars : List Bar). bars ++ pair_bars f (length bars) (n + 1) rest) after_is
      ∙ ap (λ (k : ℕ). (before ++ own) ++ pair_bars f k (n + 1) rest) (length-append before own)
      ∙ append_assoc before own (pair_bars f (length before + length own) (n + 1) rest)
      ∙ ap (λ (ps : List (ℕ × ℕ)). before ++ pair_bars f (length before) n ps) (sym drops) ∙ was

  pub bars_end : (bars all : List Bar) → length pairs ≤ n → bars ++ pair_bars f (length bars) n (drop n pairs) ≡ all → bars ≡ all
  bars_end bars all past was = sym (append-nil bars) ∙ ap (λ (ps : List (ℕ × ℕ)). bars ++ pair_bars f (length bars) n ps) (sym (drop_all n pairs past)) ∙ was
