-- A block whose pages want two types has no cost over UC, and none over a clash.
use Rattle.std.proofs.Common.{◌≡◌, ◌∙◌, ℕ, zero, suc, ◌+◌, ◌^◌, Option, None, Some, refl, ap, ◌⊎◌, inl, inr, add-one}
use Rattle.mt_kinds.specs.declared.mem_type.MemType.{MemType}
use Rattle.mt_kinds.specs.declared.mem_type.MemType.TheVariants.{UC, WC, WT, WP, WB}
use Rattle.mt_trie.specs.Wishes.{both}
use Rattle.mt_trie.specs.declared.context.Context.{Context}
use Rattle.mt_trie.specs.declared.context.Context.TheVariants.{Has, Clash}
use Rattle.mt_trie.specs.declared.wish.Wish.{Wish}
use Rattle.mt_trie.specs.declared.wish.Wish.TheVariants.{Any, Only, Mixed}
use Rattle.mt_tidy.specs.Choosing.{halves_cost}
use Rattle.mt_tidy.specs.Cost.{Task, cost, only_cost, plus, wish, wish_of_page}
use Rattle.mt_tidy.proofs.Choices.{none_best, over_clash, over_uncached}
use Rattle.mt_tidy.proofs.Sizes.{cost_divided, cost_only}

-- no cost over UC and none over a clash
pub record HasNone (costs : Context → Option ℕ) : Type 0 where
  pub uncached : costs (Has UC) ≡ None
  pub clash : costs Clash ≡ None

-- the pages want UC, if anything
abbrev IsPlain : Wish → Type 0
IsPlain w = (w ≡ Any) ⊎ (w ≡ Only UC)

only_none : (d t : MemType) → (t ≡ UC) ⊎ HasNone (only_cost d t)
only_none d UC = inl refl
only_none d WC = inr (record { uncached = refl; clash = refl })
only_none d WT = inr (record { uncached = refl; clash = refl })
only_none d WP = inr (record { uncached = refl; clash = refl })
only_none d WB = inr (record { uncached = refl; clash = refl })

plus_none : (x : Option ℕ) → plus x None ≡ None
plus_none None = refl
plus_none (Some a) = refl

sum_none : (f g : Context → Option ℕ) → HasNone f ⊎ HasNone g → HasNone (λ y. plus (f y) (g y))
sum_none f g (inl none) = record { uncached = ap (λ o. plus o (g (Has UC))) none.uncached; clash = ap (λ o. plus o (g Clash)) none.clash }
sum_none f g (inr none) = record {
  uncached = ap (plus (f (Has UC))) none.uncached ∙ plus_none (f (Has UC));
  clash = ap (plus (f Clash)) none.clash ∙ plus_none (f Clash);
}

plain_both : (v w : Wish) → IsPlain v → IsPlain w → both v w ≡ Mixed → ⊥
plain_both v w (inl a) (inl b) e = let h : Any ≡ Mixed = (rw (a, b) at e) in absurd (cc h)
plain_both v w (inl a) (inr b) e = let h : Only UC ≡ Mixed = (rw (a, b) at e) in absurd (cc h)
plain_both v w (inr a) (inl b) e = let h : Only UC ≡ Mixed = (rw (a, b) at e) in absurd (cc h)
plain_both v w (inr a) (inr b) e = let h : Only UC ≡ Mixed = (rw (a, b) at e) in absurd (cc h)

-- the halves of a block of two types: not both want UC alone
none_of_halves : (f g : Context → Option ℕ) (v w : Wish) → IsPlain v ⊎ HasNone f → IsPlain w ⊎ HasNone g → both v w ≡ Mixed → HasNone (λ y. plus (f y) (g y))
none_of_halves f g v w (inr none) right e = sum_none f g (inl none)
none_of_halves f g v w (inl plain) (inr none) e = sum_none f g (inr none)
none_of_halves f g v w (inl plain) (inl plain_too) e = absurd (plain_both v w plain plain_too e)

only_plain : (k : Task) (log first : ℕ) (t : MemType) → wish k log first ≡ Only t → IsPlain (wish k log first) ⊎ HasNone (cost k log first)
only_plain k log first t e = elim (only_none k.default t) [
  | inl is ↦ inl (inr (e ∙ ap Only is))
  | inr none ↦ inr (record { uncached = cost_only k log first t e (Has UC) ∙ none.uncached; clash = cost_only k log first t e Clash ∙ none.clash })
]

plain_page : (k : Task) (first : ℕ) (o : Option MemType) → wish k zero first ≡ wish_of_page o → IsPlain (wish k zero first) ⊎ HasNone (cost k zero first)
plain_page k first None e = inl (inl e)
plain_page k first (Some t) e = only_plain k zero first t e

divided_none : (k : Task) (log first : ℕ) → wish k (suc log) first ≡ Mixed → HasNone (halves_cost k log first) → HasNone (cost k (suc log) first)
divided_none k log first e none =
    let next : log + 1 ≡ suc log = add-one log in
    record {
      uncached = cost_divided k (suc log) log first next e (halves_cost k log first) (λ y. refl) (Has UC)
          ∙ none_best k (halves_cost k log first) (Has UC) (suc log) (over_uncached (halves_cost k log first)) ∙ none.uncached;
      clash = cost_divided k (suc log) log first next e (halves_cost k log first) (λ y. refl) Clash
          ∙ none_best k (halves_cost k log first) Clash (suc log) (over_clash (halves_cost k log first) none.uncached) ∙ none.clash;
    }

pub plain_or_none : (k : Task) (log first : ℕ) → IsPlain (wish k log first) ⊎ HasNone (cost k log first)
unfolding wish
plain_or_none k zero first = plain_page k first (k.wanted first) refl
plain_or_none k (suc log) first = by_wish (plain_or_none k log first) (plain_or_none k log (first + 2 ^ log)) (wish k (suc log) first) refl
  where
    by_wish : IsPlain (wish k log first) ⊎ HasNone (cost k log first) → IsPlain (wish k log (first + 2 ^ log)) ⊎ HasNone (cost k log (first + 2 ^ log))
        → (w : Wish) → both (wish k log first) (wish k log (first + 2 ^ log)) ≡ w → IsPlain (wish k (suc log) first) ⊎ HasNone (cost k (suc log) first)
    by_wish lower upper Any e = inl (inl e)
    by_wish lower upper (Only t) e = only_plain k (suc log) first t e
    by_wish lower upper Mixed e = inr (divided_none k log first e (none_of_halves (cost k log first) (cost k log (first + 2 ^ log)) _ _ lower upper e))

pub halves_none : (k : Task) (log first : ℕ) → wish k (suc log) first ≡ Mixed → HasNone (halves_cost k log first)
unfolding wish
halves_none k log first e = none_of_halves (cost k log first) (cost k log (first + 2 ^ log)) _ _ (plain_or_none k log first) (plain_or_none k log (first + 2 ^ log)) e
