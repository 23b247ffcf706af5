-- Costs as words.
use Rattle.std.proofs.Common.{◌≡◌, ◌∙◌, ℕ, ◌^◌, ◌<◌, ◌≤◌, Option, None, Some, refl, sym, ap, arith}
use Rattle.mt_kinds.specs.declared.mem_type.MemType.TheVariants.{WC, WT, WP, WB}
use Rattle.mt_trie.specs.declared.context.Context.{Context}
use Rattle.mt_trie.specs.declared.context.Context.TheVariants.{Untouched, Has}
use Rattle.mt_tidy.specs.AllCosts.{AreBounded, AreWords, IsBelow, infinite, sum_of, word_of_cost, word_plus}
use Rattle.mt_tidy.specs.Cost.{plus}
use Rattle.mt_tidy.specs.Fits.{IsFinite}
use Rattle.mt_tidy.specs.declared.costs.Costs.{Costs}

-- each cost is small
abbrev pub AllBelow : (Context → Option ℕ) → Type 0
AllBelow f = (y : Context) → IsBelow (2 ^ 60) (f y)

word_bounded : (o : Option ℕ) → IsBelow (2 ^ 60) o → word_of_cost o ≤ infinite
word_bounded None below = omega arith
word_bounded (Some n) below = let small : n < 2 ^ 60 = below n refl in omega (arith, small)

pub bounded_words : (f : Context → Option ℕ) (costs : Costs) → AllBelow f → AreWords f costs → AreBounded costs
bounded_words f costs below are = record {
  untouched = omega (arith, are.untouched, word_bounded (f Untouched) (below Untouched));
  wc = omega (arith, are.wc, word_bounded (f (Has WC)) (below (Has WC)));
  wt = omega (arith, are.wt, word_bounded (f (Has WT)) (below (Has WT)));
  wp = omega (arith, are.wp, word_bounded (f (Has WP)) (below (Has WP)));
  wb = omega (arith, are.wb, word_bounded (f (Has WB)) (below (Has WB)));
}

word_plus_is : (x y : Option ℕ) → IsBelow (2 ^ 60) x → IsBelow (2 ^ 60) y → word_plus (word_of_cost x) (word_of_cost y) ≡ word_of_cost (plus x y)
word_plus_is None None below_x below_y = refl
word_plus_is None (Some b) below_x below_y = omega arith
word_plus_is (Some a) None below_x below_y = omega arith
word_plus_is (Some a) (Some b) below_x below_y =
    let small : a < 2 ^ 60 = below_x a refl in
    let small_too : b < 2 ^ 60 = below_y b refl in
    omega (arith, small, small_too)

sum_at : (x y : Option ℕ) (a b : ℕ) → IsBelow (2 ^ 60) x → IsBelow (2 ^ 60) y → a ≡ word_of_cost x → b ≡ word_of_cost y → word_plus a b ≡ word_of_cost (plus x y)
sum_at x y a b below_x below_y first second = ap (λ n. word_plus n b) first ∙ ap (word_plus (word_of_cost x)) second ∙ word_plus_is x y below_x below_y

-- the words of two functions, taken together
pub sum_words : (f g : Context → Option ℕ) (a b : Costs) → AllBelow f → AllBelow g → AreWords f a → AreWords g b → AreWords (λ y. plus (f y) (g y)) (sum_of a b)
sum_words f g a b below_f below_g are_f are_g = record {
  untouched = sum_at (f Untouched) (g Untouched) a.untouched b.untouched (below_f Untouched) (below_g Untouched) are_f.untouched are_g.untouched;
  wc = sum_at (f (Has WC)) (g (Has WC)) a.wc b.wc (below_f (Has WC)) (below_g (Has WC)) are_f.wc are_g.wc;
  wt = sum_at (f (Has WT)) (g (Has WT)) a.wt b.wt (below_f (Has WT)) (below_g (Has WT)) are_f.wt are_g.wt;
  wp = sum_at (f (Has WP)) (g (Has WP)) a.wp b.wp (below_f (Has WP)) (below_g (Has WP)) are_f.wp are_g.wp;
  wb = sum_at (f (Has WB)) (g (Has WB)) a.wb b.wb (below_f (Has WB)) (below_g (Has WB)) are_f.wb are_g.wb;
}

-- the words of equal functions
pub same_words : (f g : Context → Option ℕ) (costs : Costs) → ((y : Context) → f y ≡ g y) → AreWords f costs → AreWords g costs
same_words f g costs same are = record {
  untouched = are.untouched ∙ ap word_of_cost (same Untouched);
  wc = are.wc ∙ ap word_of_cost (same (Has WC));
  wt = are.wt ∙ ap word_of_cost (same (Has WT));
  wp = are.wp ∙ ap word_of_cost (same (Has WP));
  wb = are.wb ∙ ap word_of_cost (same (Has WB));
}

-- a finite cost is its word
pub word_is : (o : Option ℕ) (word : ℕ) → IsFinite o → word ≡ word_of_cost o → o ≡ Some word
word_is o word finite is =
    let same : word ≡ finite.0 = is ∙ ap word_of_cost finite.1 in
    finite.1 ∙ ap Some (sym same)
