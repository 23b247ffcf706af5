-- Bands end at the edges of both files.
use Rattle.std.proofs.Common.{◌≡◌, ◌∙◌, ◌++◌, ◌∷◌, [], List, ℕ, ap, subst, sym, append_assoc, append-nil, inl, inr, arith}
use Rattle.std.proofs.lemmas.Bool.{cases_lt}
use Rattle.mt_regs.specs.RegisterFile.{RegisterFile, page_count}
use Rattle.mt_regs.specs.PageTypes.{page_type}
use Rattle.mt_map.specs.Bands.{AreEdges, HasOneType, HaveOneType, IsBandOf, other_type}

grows : (f : RegisterFile) (first end next : ℕ) → HasOneType f first end → page_type f end ≡ page_type f first → HasOneType f end next → HasOneType f first next
grows f first end next same at later page low high within = elim (cases_lt page end) [
  | inl inner ↦ same page low inner within
  | inr outer ↦ later page outer high within ∙ at
]

others_grow : (others : List RegisterFile) (first end next : ℕ) → HaveOneType others first end → other_type others end ≡ other_type others first → HaveOneType others end next
    → HaveOneType others first next
others_grow [] first end next same at later = tt
others_grow (g ∷ gs) first end next same at later = let kind : page_type g end ≡ page_type g first = cc at in grows g first end next same kind later

pub band_grows : (f : RegisterFile) (others : List RegisterFile) (first end next : ℕ) → IsBandOf f others first end → page_type f end ≡ page_type f first
    → other_type others end ≡ other_type others first → IsBandOf f others end next → IsBandOf f others first next
band_grows f others first end next band at other_at later = record {
  some = omega (arith, band.some, later.some);
  within = later.within;
  same = grows f first end next band.same at later.same;
  other_same = others_grow others first end next band.other_same other_at later.other_same;
}

-- the edges so far, and any list of edges behind them
abbrev pub ExtendsEdges : RegisterFile → List RegisterFile → List ℕ → ℕ → Type 0
ExtendsEdges f others cuts page = (rest : List ℕ) → AreEdges f others page rest → AreEdges f others 0 (cuts ++ rest)

pub goes_on_next : (f : RegisterFile) (others : List RegisterFile) (before after : List ℕ) (page end : ℕ) → ExtendsEdges f others before page → IsBandOf f others page end → after ≡ before ++ end ∷ []
    → ExtendsEdges f others after end
goes_on_next f others before after page end goes band is rest are =
    subst (AreEdges f others 0) (sym (ap (λ (cuts : List ℕ). cuts ++ rest) is ∙ append_assoc before (end ∷ []) rest)) (goes (end ∷ rest) (band, are))

pub edges_end : (f : RegisterFile) (others : List RegisterFile) (cuts : List ℕ) (page : ℕ) → ExtendsEdges f others cuts page → page ≡ page_count f → AreEdges f others 0 cuts
edges_end f others cuts page goes end = subst (AreEdges f others 0) (append-nil cuts) (goes [] end)
