-- What the wishes of two sets of pages say of both together, and that a set has one wish.
use Rattle.std.proofs.Common.{◌≡◌, ℕ, true, false, refl, sym, ap, ◌∙◌, ◌⊎◌, inl, inr}
use Rattle.std.specs.Prelude.{Option, None, Some, if◌then◌else◌}
use Rattle.std.proofs.lemmas.Bool.{cases_Bool, both_ways}
use Rattle.mt_kinds.specs.declared.mem_type.MemType.{MemType}
use Rattle.mt_regs.specs.PageTypes.{is_type}
use Rattle.mt_trie.specs.declared.wish.Wish.{Wish}
use Rattle.mt_trie.specs.declared.wish.Wish.TheVariants.{Any, Only, Mixed}
use Rattle.mt_trie.specs.Wishes.{HasWish, AllWish, TwoWishes, IsWish, both}
use Rattle.mt_trie.proofs.Joins.{is_type-true, is_type_self}

more_has : (wanted : ℕ → Option MemType) (P Q : ℕ → Type 0) → ((page : ℕ) → P page → Q page) → (t : MemType) → HasWish wanted P t → HasWish wanted Q t
more_has wanted P Q step t h = record { page = h.page; within = step h.page h.within; wants = h.wants }

more_two : (wanted : ℕ → Option MemType) (P Q : ℕ → Type 0) → ((page : ℕ) → P page → Q page) → TwoWishes wanted P → TwoWishes wanted Q
more_two wanted P Q step h = record { one = h.one; other = h.other; differ = h.differ; has_one = more_has wanted P Q step h.one h.has_one; has_other = more_has wanted P Q step h.other h.has_other }

-- equal sets have equal wishes
pub same_pages : (wanted : ℕ → Option MemType) (P Q : ℕ → Type 0) → ((page : ℕ) → P page → Q page) → ((page : ℕ) → Q page → P page) → (w : Wish) → IsWish wanted P w → IsWish wanted Q w
same_pages wanted P Q to from Any m = λ page q. m page (from page q)
same_pages wanted P Q to from (Only t) m = (λ page q u e. m.0 page (from page q) u e, more_has wanted P Q to t m.1)
same_pages wanted P Q to from Mixed m = more_two wanted P Q to m

-- a set that two others make up
pub record MakeUp (P Q R : ℕ → Type 0) : Type 0 where
  pub first : (page : ℕ) → P page → R page
  pub second : (page : ℕ) → Q page → R page
  pub each : (page : ℕ) → R page → P page ⊎ Q page

module _ (wanted : ℕ → Option MemType) (P Q R : ℕ → Type 0) (made : MakeUp P Q R) where
  from_first : (t : MemType) → HasWish wanted P t → HasWish wanted R t
  from_first = more_has wanted P R made.first

  from_second : (t : MemType) → HasWish wanted Q t → HasWish wanted R t
  from_second = more_has wanted Q R made.second

  pub both_mean : (v w : Wish) → IsWish wanted P v → IsWish wanted Q w → IsWish wanted R (both v w)
  both_mean Any Any a b = λ page r. elim (made.each page r) [ inl q ↦ a page q | inr q ↦ b page q ]
  both_mean Any (Only t) a b = (
    λ page r u e. elim (made.each page r) [ inl q ↦ absurd (cc (a page q)) | inr q ↦ b.0 page q u e ],
    from_second t b.1,
  )
  both_mean Any Mixed a b = more_two wanted Q R made.second b
  both_mean (Only t) Any a b = (
    λ page r u e. elim (made.each page r) [ inl q ↦ a.0 page q u e | inr q ↦ absurd (cc (b page q)) ],
    from_first t a.1,
  )
  both_mean (Only t) (Only u) a b = split (cases_Bool (is_type t u))
    where
      split : (is_type t u ≡ true) ⊎ (is_type t u ≡ false) → IsWish wanted R (if is_type t u then Only t else Mixed)
      split (inl e) = rw e (
        λ page r v g. elim (made.each page r) [ inl q ↦ a.0 page q v g | inr q ↦ b.0 page q v g ∙ sym (is_type-true t u e) ],
        from_first t a.1,
      )
      split (inr e) = rw e (record {
        one = t;
        other = u;
        differ = λ same. both_ways (is_type t u) e (ap (is_type t) (sym same) ∙ is_type_self t);
        has_one = from_first t a.1;
        has_other = from_second u b.1;
      })
  both_mean (Only t) Mixed a b = more_two wanted Q R made.second b
  both_mean Mixed w a b = more_two wanted P R made.first a

module _ (wanted : ℕ → Option MemType) (Q : ℕ → Type 0) where
  same_some : (t u : MemType) → Some t ≡ Some u → t ≡ u
  same_some t u e = cc

  not_nothing : (t : MemType) → None ≡ Some t → ⊥
  not_nothing t e = cc

  any_has : (t : MemType) → IsWish wanted Q Any → HasWish wanted Q t → ⊥
  any_has t all h = not_nothing t (sym (all h.page h.within) ∙ h.wants)

  only_two : (t : MemType) → AllWish wanted Q t → TwoWishes wanted Q → ⊥
  only_two t all h =
      h.differ (all h.has_one.page h.has_one.within h.one h.has_one.wants ∙ sym (all h.has_other.page h.has_other.within h.other h.has_other.wants))

  -- a set of pages has one wish
  pub one_wish : (v w : Wish) → IsWish wanted Q v → IsWish wanted Q w → v ≡ w
  one_wish Any Any a b = refl
  one_wish Any (Only t) a b = absurd (any_has t a b.1)
  one_wish Any Mixed a b = absurd (any_has b.one a b.has_one)
  one_wish (Only t) Any a b = absurd (any_has t b a.1)
  one_wish (Only t) (Only u) a b = ap Only (b.0 a.1.page a.1.within t a.1.wants)
  one_wish (Only t) Mixed a b = absurd (only_two t a.0 b)
  one_wish Mixed Any a b = absurd (any_has a.one b a.has_one)
  one_wish Mixed (Only t) a b = absurd (only_two t b.0 a)
  one_wish Mixed Mixed a b = refl

-- where the pages of a set want the same, their wish is the same
module _ (v w : ℕ → Option MemType) (Q : ℕ → Type 0) (same : (page : ℕ) → Q page → v page ≡ w page) where
  same_has : (t : MemType) → HasWish v Q t → HasWish w Q t
  same_has t h = record { page = h.page; within = h.within; wants = sym (same h.page h.within) ∙ h.wants }

  pub same_wants : (x : Wish) → IsWish v Q x → IsWish w Q x
  same_wants Any m = λ page q. sym (same page q) ∙ m page q
  same_wants (Only t) m = (λ page q u e. m.0 page q u (same page q ∙ e), same_has t m.1)
  same_wants Mixed m = record {
    one = m.one;
    other = m.other;
    differ = m.differ;
    has_one = same_has m.one m.has_one;
    has_other = same_has m.other m.has_other;
  }
