-- Whether a granule is whole.
use Rattle.std.proofs.Common.{◌≡◌, ◌≢◌, ℕ, zero, suc, ◌/◌, ◌^◌, ◌<◌, ◌==◌, Bool, true, false, List, [], ◌∷◌, refl, sym, ap, ◌∙◌, ◌⊎◌, inl, inr, arith, subst}
use Rattle.std.specs.Prelude.{not, ◌||◌}
use Rattle.std.specs.List.{list_any}
use Rattle.std.proofs.lemmas.Bool.{and_from, and_parts, cases_Bool, cases_lt, eqb-true, eq-eqb}
use Rattle.mt_kinds.specs.declared.mem_type.MemType.{MemType}
use Rattle.mt_kinds.specs.declared.mem_type.MemType.TheVariants.{UC, WC, WT, WP, WB}
use Rattle.mt_regs.specs.declared.page_type.PageType.{PageType}
use Rattle.mt_regs.specs.declared.page_type.PageType.TheVariants.{Kind}
use Rattle.mt_trie.specs.Contexts.{is_kind, types}
use Rattle.mt_gran.specs.Granules.{TypedPages, each_below, has_type, is_of_granule, is_whole}

pub each_from : (test : ℕ → Bool) (n : ℕ) → ((k : ℕ) → k < n → test k ≡ true) → each_below test n ≡ true
each_from test zero all = refl
each_from test (suc n) all = and_from _ _ (each_from test n (λ k below. all k (omega arith))) (all n (omega arith))

pub each_at : (test : ℕ → Bool) (n k : ℕ) → each_below test n ≡ true → k < n → test k ≡ true
each_at test zero k all below = absurd (omega arith)
each_at test (suc n) k all below =
    let parts = and_parts _ _ all in
    elim (cases_lt k n) [
      | inl lower ↦ each_at test n k parts.0 lower
      | inr top ↦
          let e : k ≡ n = omega arith in
          subst (λ i. test i ≡ true) (sym e) parts.1
    ]

pub kind_of : (k : PageType) (t : MemType) → is_kind k t ≡ true → k ≡ Kind t
kind_of (Kind UC) UC h = refl
kind_of (Kind WC) WC h = refl
kind_of (Kind WT) WT h = refl
kind_of (Kind WP) WP h = refl
kind_of (Kind WB) WB h = refl
kind_of k t h = absurd (cc)

pub is_own_kind : (t : MemType) → is_kind (Kind t) t ≡ true
is_own_kind UC = refl
is_own_kind WC = refl
is_own_kind WT = refl
is_own_kind WP = refl
is_own_kind WB = refl

pub of_kind : (k : PageType) (t : MemType) → k ≡ Kind t → is_kind k t ≡ true
of_kind k t e = ap (λ j. is_kind j t) e ∙ is_own_kind t

any_type : (test : MemType → Bool) (t : MemType) → test t ≡ true → list_any test types ≡ true
any_type test UC h = rw h refl
any_type test WC h = split (cases_Bool (test UC))
  where
    split : (test UC ≡ true) ⊎ (test UC ≡ false) → list_any test types ≡ true
    split (inl a) = rw a refl
    split (inr a) = rw (a, h) refl
any_type test WT h = split (cases_Bool (test UC)) (cases_Bool (test WC))
  where
    split : (test UC ≡ true) ⊎ (test UC ≡ false) → (test WC ≡ true) ⊎ (test WC ≡ false) → list_any test types ≡ true
    split (inl a) b = rw a refl
    split (inr a) (inl b) = rw (a, b) refl
    split (inr a) (inr b) = rw (a, b, h) refl
any_type test WP h = split (cases_Bool (test UC)) (cases_Bool (test WC)) (cases_Bool (test WT))
  where
    split : (test UC ≡ true) ⊎ (test UC ≡ false) → (test WC ≡ true) ⊎ (test WC ≡ false) → (test WT ≡ true) ⊎ (test WT ≡ false) → list_any test types ≡ true
    split (inl a) b c = rw a refl
    split (inr a) (inl b) c = rw (a, b) refl
    split (inr a) (inr b) (inl c) = rw (a, b, c) refl
    split (inr a) (inr b) (inr c) = rw (a, b, c, h) refl
any_type test WB h = split (cases_Bool (test UC)) (cases_Bool (test WC)) (cases_Bool (test WT)) (cases_Bool (test WP))
  where
    split : (test UC ≡ true) ⊎ (test UC ≡ false) → (test WC ≡ true) ⊎ (test WC ≡ false) → (test WT ≡ true) ⊎ (test WT ≡ false) → (test WP ≡ true) ⊎ (test WP ≡ false)
        → list_any test types ≡ true
    split (inl a) b c d = rw a refl
    split (inr a) (inl b) c d = rw (a, b) refl
    split (inr a) (inr b) (inl c) d = rw (a, b, c) refl
    split (inr a) (inr b) (inr c) (inl d) = rw (a, b, c, d) refl
    split (inr a) (inr b) (inr c) (inr d) = rw (a, b, c, d, h) refl

some_type : (test : MemType → Bool) (ts : List MemType) → list_any test ts ≡ true → (t : MemType) × (test t ≡ true)
some_type test [] h = absurd (cc)
some_type test (t ∷ ts) h = split (cases_Bool (test t)) (some_type test ts)
  where
    split : (test t ≡ true) ⊎ (test t ≡ false) → (list_any test ts ≡ true → (u : MemType) × (test u ≡ true)) → (u : MemType) × (test u ≡ true)
    split (inl e) later = (t, e)
    split (inr e) later = later (rw e at h)

implied : (a b : Bool) → (a ≡ true → b ≡ true) → (not a || b) ≡ true
implied true b h = h refl
implied false b h = refl

implies : (a b : Bool) → (not a || b) ≡ true → a ≡ true → b ≡ true
implies true b h e = h
implies false b h e = absurd (cc)

pub not_true : (b : Bool) → not b ≡ true → b ≡ false
not_true true h = absurd (cc)
not_true false h = refl

pub true_not : (b : Bool) → b ≡ false → not b ≡ true
true_not true h = absurd (cc)
true_not false h = refl

-- all pages of a granule that aren't free have a type
abbrev pub AllHave : TypedPages → ℕ → ℕ → MemType → Type 0
AllHave m g granule t = (page : ℕ) → page < m.count → page / 2 ^ g ≡ granule → m.free page ≡ false → m.kind page ≡ Kind t

pub whole_from : (m : TypedPages) (g granule : ℕ) (t : MemType) → AllHave m g granule t → is_whole m g granule ≡ true
unfolding is_whole has_type
whole_from m g granule t all =
    any_type (has_type m g granule) t (each_from (λ page. not (is_of_granule m g granule page) || is_kind (m.kind page) t) m.count
    (λ page below. implied (is_of_granule m g granule page) (is_kind (m.kind page) t) (λ is.
    let parts = and_parts (page / 2 ^ g == granule) (not (m.free page)) is in
    of_kind (m.kind page) t (all page below (eqb-true (page / 2 ^ g) granule parts.0) (not_true (m.free page) parts.1)))))

pub whole_has : (m : TypedPages) (g granule : ℕ) → is_whole m g granule ≡ true → (t : MemType) × AllHave m g granule t
unfolding is_whole has_type
whole_has m g granule h =
    let (t, is) = some_type (has_type m g granule) types h in (
      t,
      λ page below at nonfree. kind_of (m.kind page) t (implies (is_of_granule m g granule page) (is_kind (m.kind page) t)
          (each_at (λ p. not (is_of_granule m g granule p) || is_kind (m.kind p) t) m.count page is below)
          (and_from (page / 2 ^ g == granule) (not (m.free page)) (eq-eqb (page / 2 ^ g) granule at) (true_not (m.free page) nonfree))),
    )

-- two pages of different types
pub not_whole : (m : TypedPages) (g granule p q : ℕ) → p < m.count → q < m.count → p / 2 ^ g ≡ granule → q / 2 ^ g ≡ granule → m.free p ≡ false → m.free q ≡ false
    → m.kind p ≢ m.kind q → is_whole m g granule ≡ false
not_whole m g granule p q p_below q_below p_at q_at p_nonfree q_nonfree differ = elim (cases_Bool (is_whole m g granule)) [
  | inl whole ↦
      let has = whole_has m g granule whole in
      absurd (differ (has.1 p p_below p_at p_nonfree ∙ sym (has.1 q q_below q_at q_nonfree)))
  | inr broken ↦ broken
]
