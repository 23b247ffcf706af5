-- One item more is counted.
use Rattle.std.proofs.Common.{◌≡◌, ◌∙◌, ap, sym, cond, length, take, ℕ, ◌<◌, ◌+◌, ◌≤◌, Bool, List, true, false, arith}
use Rattle.std.specs.List.{count_by}
use lib.ListN.{get_or}
use Rattle.std.proofs.lemmas.List.{take_more}
use Rattle.std.proofs.lemmas.List.Sums.{sum_by_push}

pub counted_more : {X : Type 0} (p : X → Bool) (xs : List X) (i n r : ℕ) (x : X) → i < length xs → x ≡ get_or xs i x → n ≡ count_by p (take i xs) → r ≡ cond (p x) 1 0 → n + r ≡ count_by p (take (i + 1) xs)
counted_more p xs i n r x within same is one =
    ap (λ m. m + r) is ∙ ap (λ m. count_by p (take i xs) + m) (one ∙ ap (λ y. cond (p y) 1 0) same)
    ∙ sym (ap (count_by p) (take_more xs i x within) ∙ sum_by_push (λ y. cond (p y) 1 0) (take i xs) (get_or xs i x))

pub counted_few : (b : Bool) (i n r : ℕ) → n ≤ i → r ≡ cond b 1 0 → n + r ≤ i + 1
counted_few true i n r few one = omega (arith, one, few)
counted_few false i n r few one = omega (arith, one, few)
