-- What a loop adds for each element of a list.
use Rattle.std.proofs.Common.{◌≡◌, ◌∙◌, ◌<◌, ◌+◌, ◌++◌, ◌∷◌, [], List, ℕ, Option, Some, None, ap, sym, take, length, get_or, append_assoc, append-nil}
use Rattle.std.specs.List.{cons_option, filter_map}
use Rattle.std.proofs.lemmas.List.{take_more}
use Rattle.std.proofs.lemmas.List.Elements.{filter_map-append}

module _ {X Y : Type 0} (h : X → Option Y) (xs : List X) (i : ℕ) (d : X) (within : i < length xs) where
  step : (found : Option Y) → h (get_or xs i d) ≡ found → filter_map h (take (i + 1) xs) ≡ filter_map h (take i xs) ++ cons_option found []
  step found is =
      ap (filter_map h) (take_more xs i d within) ∙ filter_map-append h (take i xs) (get_or xs i d ∷ [])
      ∙ ap (λ (o : Option Y). filter_map h (take i xs) ++ cons_option o []) is

  pub some_more : (y : Y) (start before after : List Y) → h (get_or xs i d) ≡ Some y → after ≡ before ++ y ∷ [] → before ≡ start ++ filter_map h (take i xs)
      → after ≡ start ++ filter_map h (take (i + 1) xs)
  some_more y start before after is after_is before_is =
      after_is ∙ ap (λ (ys : List Y). ys ++ y ∷ []) before_is ∙ append_assoc start (filter_map h (take i xs)) (y ∷ []) ∙ ap (λ (ys : List Y). start ++ ys) (sym (step (Some y) is))

  pub none_more : (start before : List Y) → h (get_or xs i d) ≡ None → before ≡ start ++ filter_map h (take i xs) → before ≡ start ++ filter_map h (take (i + 1) xs)
  none_more start before is before_is = before_is ∙ ap (λ (ys : List Y). start ++ ys) (sym (step None is ∙ append-nil (filter_map h (take i xs))))
