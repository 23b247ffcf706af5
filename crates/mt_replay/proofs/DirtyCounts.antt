-- The dirty words of one more line, and whether one more line is stale.
use Rattle.std.proofs.Common.{◌≡◌, ℕ, ◌+◌, List, [], ◌∷◌, ◌++◌, take, cond, Some, nat_lt, ap, ◌∙◌, arith}
use Rattle.std.specs.Prelude.{slice_get}
use Rattle.std.specs.List.{count_by}
use Rattle.std.proofs.lemmas.List.{take_more}
use Rattle.std.proofs.lemmas.List.Sums.{sum_by_push}
use Rattle.std.proofs.lemmas.Option.{get_or_from_slice_get, slice_get_within}
use Rattle.mt_cache.specs.declared.line.CacheLine.{CacheLine}
use Rattle.mt_cache.specs.Lines.{eight, is_dirty}
use Rattle.mt_machine.specs.Update.{dirty_count}

one_more : (ls : List CacheLine) (i : ℕ) (l : CacheLine) → slice_get ls i ≡ Some l → take (i + 1) ls ≡ take i ls ++ l ∷ []
one_more ls i l at = take_more ls i l (slice_get_within ls i l at) ∙ ap (λ k. take i ls ++ k ∷ []) (get_or_from_slice_get ls i l l at)

dirty_push : (ls : List CacheLine) (l : CacheLine) → dirty_count (ls ++ l ∷ []) ≡ dirty_count ls + count_by (is_dirty l) eight
dirty_push [] l = omega arith
dirty_push (k ∷ ls) l = omega (arith, dirty_push ls l)

pub dirty_more : (ls : List CacheLine) (i : ℕ) (l : CacheLine) → slice_get ls i ≡ Some l → dirty_count (take (i + 1) ls) ≡ dirty_count (take i ls) + count_by (is_dirty l) eight
dirty_more ls i l at = ap dirty_count (one_more ls i l at) ∙ dirty_push (take i ls) l

pub stale_more : (ls : List CacheLine) (i era : ℕ) (l : CacheLine) → slice_get ls i ≡ Some l → count_by (λ k. nat_lt k.era era) (take (i + 1) ls) ≡ count_by (λ k. nat_lt k.era era) (take i ls) + cond (nat_lt l.era era) 1 0
stale_more ls i era l at =
    ap (count_by (λ (k : CacheLine). nat_lt k.era era)) (one_more ls i l at) ∙ sum_by_push (λ (k : CacheLine). cond (nat_lt k.era era) 1 0) (take i ls) l
