-- The divided blocks that a search comes to, and the choices for them.
use Rattle.std.proofs.Common.{◌≡◌, ◌≢◌, ◌∙◌, ℕ, zero, suc, ◌+◌, ◌-◌, ◌^◌, ◌<◌, ◌≤◌, true, false, List, [], ◌∷◌, length, set, None, Some, refl, sym, ap, subst, ◌⊎◌, inl, inr, add-one, arith}
use Rattle.std.specs.Prelude.{slice_get, if◌then◌else◌}
use Rattle.std.proofs.lemmas.Bool.{cases_Bool, cases_lt}
use Rattle.std.proofs.lemmas.List.{length-set}
use Rattle.std.proofs.lemmas.Option.{slice_get_past}
use Rattle.mt_trie.specs.declared.wish.Wish.{Wish}
use Rattle.mt_trie.specs.declared.wish.Wish.TheVariants.{Any, Only, Mixed}
use Rattle.mt_tidy.specs.Choosing.{HasChoices, HasCome, HasComeToBoth, IsChoice, KeepsChoices, divided_count, halves_cost, is_mixed}
use Rattle.mt_tidy.specs.Cost.{Task, cost, plus, wish}
use Rattle.mt_trie.specs.declared.context.Context.{Context}
use Rattle.mt_tidy.specs.declared.costs.Choice.{Choice}
use Rattle.mt_tidy.specs.declared.work_area.CostTable.{CostTable}
use Rattle.mt_tidy.proofs.Wishes.{mixed_divides, pow_more}

-- fewer blocks are divided within one than it has pages
pub few_divided : (k : Task) (log first : ℕ) → divided_count k log first < 2 ^ log
unfolding divided_count
few_divided k zero first = omega arith
few_divided k (suc log) first = split (few_divided k log first) (few_divided k log (first + 2 ^ log)) (cases_Bool (is_mixed (wish k (suc log) first)))
  where
    split : divided_count k log first < 2 ^ log → divided_count k log (first + 2 ^ log) < 2 ^ log
        → (is_mixed (wish k (suc log) first) ≡ true) ⊎ (is_mixed (wish k (suc log) first) ≡ false)
        → (if is_mixed (wish k (suc log) first) then 1 + divided_count k log first + divided_count k log (first + 2 ^ log) else 0) < 2 ^ suc log
    split lower upper (inl mixed) = rw mixed (omega (arith, lower, upper, pow_more log))
    split lower upper (inr not_mixed) = rw not_mixed (omega (arith, pow_more log, lower))

count_mixed : (k : Task) (log first : ℕ) → wish k (suc log) first ≡ Mixed → divided_count k (suc log) first ≡ 1 + divided_count k log first + divided_count k log (first + 2 ^ log)
unfolding divided_count
count_mixed k log first mixed = rw mixed refl

pub none_divided : (k : Task) (log first : ℕ) (w : Wish) → wish k log first ≡ w → is_mixed w ≡ false → divided_count k log first ≡ 0
unfolding divided_count
none_divided k zero first w e not_mixed = refl
none_divided k (suc log) first w e not_mixed = rw (e, not_mixed) refl

not_mixed_at : (w : Wish) → is_mixed w ≡ false → w ≡ Mixed → ⊥
not_mixed_at Any h e = absurd (cc e)
not_mixed_at (Only t) h e = absurd (cc e)
not_mixed_at Mixed h e = absurd (cc h)

no_choices : (k : Task) (log first place : ℕ) (choices : List Choice) (w : Wish) → wish k log first ≡ w → is_mixed w ≡ false → HasChoices k log first place choices
unfolding HasChoices
no_choices k zero first place choices w e not_mixed = tt
no_choices k (suc log) first place choices w e not_mixed = λ mixed. absurd (not_mixed_at w not_mixed (sym e ∙ mixed))

-- a block of one wish, or none, has none divided within it
pub come_to_none : (k : Task) (log first : ℕ) (w : Wish) (old new : CostTable) → wish k log first ≡ w → is_mixed w ≡ false → new.count ≡ old.count → new.choices ≡ old.choices
    → HasCome k log first old new
come_to_none k log first w old new e not_mixed count choices = record {
  count = omega (arith, count, none_divided k log first w e not_mixed);
  earlier = λ i below. ap (λ cs. slice_get cs i) choices;
  places = ap (λ cs. length cs) choices;
  choices = no_choices k log first old.count new.choices w e not_mixed;
}

-- choices that stay
pub choices_stay : (k : Task) (log first place : ℕ) (old new : List Choice) → HasChoices k log first place old
    → ((i : ℕ) → place ≤ i → i < place + divided_count k log first → slice_get new i ≡ slice_get old i) → HasChoices k log first place new
unfolding HasChoices
choices_stay k zero first place old new has same = tt
choices_stay k (suc log) first place old new has same = λ mixed.
    let count = count_mixed k log first mixed in (
      λ choice at. (has mixed).0 choice (sym (same place (omega arith) (omega (arith, count))) ∙ at),
      choices_stay k log first (place + 1) old new (has mixed).1 (λ i above below. same i (omega arith) (omega (arith, count))),
      choices_stay k log (first + 2 ^ log) (place + 1 + divided_count k log first) old new (has mixed).2 (λ i above below. same i (omega arith) (omega (arith, count))),
    )

get_set : (xs : List Choice) (i : ℕ) (new c : Choice) → slice_get (set xs i new) i ≡ Some c → new ≡ c
get_set [] i new c at = absurd (cc at)
get_set (x ∷ xs) zero new c at = cc
get_set (x ∷ xs) (suc i) new c at = get_set xs i new c at

get_other : (xs : List Choice) (i j : ℕ) (new : Choice) → i ≢ j → slice_get (set xs i new) j ≡ slice_get xs j
get_other [] i j new differ = refl
get_other (x ∷ xs) zero zero new differ = absurd (differ refl)
get_other (x ∷ xs) zero (suc j) new differ = refl
get_other (x ∷ xs) (suc i) zero new differ = refl
get_other (x ∷ xs) (suc i) (suc j) new differ = get_other xs i j new (λ e. differ (ap suc e))

-- the blocks that the code takes for the halves
pub record AreHalfBlocks (log first half first_first second_log second_first : ℕ) : Type 0 where
  pub is_half : half + 1 ≡ log
  pub is_first : first_first ≡ first
  pub is_log : second_log ≡ half
  pub is_second : second_first ≡ first_first + 2 ^ half

-- at the code's blocks
pub at_blocks : (P : ℕ → ℕ → ℕ → ℕ → ℕ → ℕ → Type 0) → ((half first : ℕ) → P (suc half) first half first half (first + 2 ^ half))
    → (log first half first_first second_log second_first : ℕ) → AreHalfBlocks log first half first_first second_log second_first → P log first half first_first second_log second_first
at_blocks P plain log first half first_first second_log second_first are =
    let next : suc half ≡ log = sym (add-one half) ∙ are.is_half in
    let place : first + 2 ^ half ≡ second_first = ap (λ n. n + 2 ^ half) (sym are.is_first) ∙ sym are.is_second in
    subst (λ n. P n first half first_first second_log second_first) next
    (subst (λ n. P (suc half) first half n second_log second_first) (sym are.is_first)
    (subst (λ n. P (suc half) first half first n second_first) (sym are.is_log)
    (subst (λ n. P (suc half) first half first half n) place (plain half first))))

-- the choices for a divided block, in its halves
pub record InHalves (k : Task) (place : ℕ) (choices : List Choice) (log first half first_first second_log second_first : ℕ) : Type 0 where
  pub count : divided_count k log first ≡ 1 + divided_count k half first_first + divided_count k second_log second_first
  pub lower : HasChoices k half first_first (place + 1) choices
  pub upper : HasChoices k second_log second_first (place + 1 + divided_count k half first_first) choices

pub in_halves : (k : Task) (place : ℕ) (choices : List Choice) (log first half first_first second_log second_first : ℕ)
    → AreHalfBlocks log first half first_first second_log second_first → wish k log first ≡ Mixed → HasChoices k log first place choices
    → InHalves k place choices log first half first_first second_log second_first
unfolding HasChoices
in_halves k place choices =
    at_blocks (λ log first half first_first second_log second_first. wish k log first ≡ Mixed → HasChoices k log first place choices
    → InHalves k place choices log first half first_first second_log second_first) plain
  where
    plain : (half first : ℕ) → wish k (suc half) first ≡ Mixed → HasChoices k (suc half) first place choices
        → InHalves k place choices (suc half) first half first half (first + 2 ^ half)
    plain half first mixed has = record { count = count_mixed k half first mixed; lower = (has mixed).1; upper = (has mixed).2 }

-- the choice for a divided block
pub choice_at : (k : Task) (log first place : ℕ) (choices : List Choice) (choice : Choice) → wish k log first ≡ Mixed → HasChoices k log first place choices
    → slice_get choices place ≡ Some choice → IsChoice k log (halves_cost k (log - 1) first) choice
unfolding HasChoices
choice_at k log first place choices choice mixed has at =
    let next : suc (log - 1) ≡ log = omega (arith, mixed_divides k log first mixed) in
    subst (λ n. IsChoice k n (halves_cost k (log - 1) first) choice) next
    (plain (log - 1) (subst (λ n. wish k n first ≡ Mixed) (sym next) mixed) (subst (λ n. HasChoices k n first place choices) (sym next) has))
  where
    plain : (half : ℕ) → wish k (suc half) first ≡ Mixed → HasChoices k (suc half) first place choices → IsChoice k (suc half) (halves_cost k half first) choice
    plain half mixed has = (has mixed).0 choice at

-- a search came to the halves in turn
pub come_to_both : (k : Task) (old lower saved upper : CostTable) (log first half first_first second_log second_first : ℕ)
    → AreHalfBlocks log first half first_first second_log second_first → HasCome k half first_first old lower → saved.choices ≡ lower.choices → saved.count ≡ lower.count
    → HasCome k second_log second_first saved upper → HasComeToBoth k (log - 1) first old upper
come_to_both k old lower saved upper =
    at_blocks (λ log first half first_first second_log second_first. HasCome k half first_first old lower → saved.choices ≡ lower.choices → saved.count ≡ lower.count
    → HasCome k second_log second_first saved upper → HasComeToBoth k (log - 1) first old upper) plain
  where
    plain : (half first : ℕ) → HasCome k half first old lower → saved.choices ≡ lower.choices → saved.count ≡ lower.count → HasCome k half (first + 2 ^ half) saved upper
        → HasComeToBoth k (suc half - 1) first old upper
    plain half first first_half same_choices same_count second_half =
        let is : half ≡ suc half - 1 = omega arith in
        let stays : KeepsChoices saved.count lower.choices upper.choices = λ i below. second_half.earlier i below ∙ ap (λ cs. slice_get cs i) same_choices in
        let from : saved.count ≡ old.count + divided_count k half first = same_count ∙ first_half.count in
        subst (λ n. HasComeToBoth k n first old upper) is (record {
          count = omega (arith, second_half.count, from);
          earlier = λ i below. stays i (omega (arith, from, below)) ∙ first_half.earlier i below;
          places = second_half.places ∙ ap (λ cs. length cs) same_choices ∙ first_half.places;
          lower = choices_stay k half first old.count lower.choices upper.choices first_half.choices (λ i above below. stays i (omega (arith, from, below)));
          upper = subst (λ n. HasChoices k half (first + 2 ^ half) n upper.choices) from second_half.choices;
        })

-- and the choice for the block itself was kept
pub come_to_mixed : (k : Task) (log first : ℕ) (old begun found kept : CostTable) (choice : Choice) → wish k log first ≡ Mixed → begun.count ≡ old.count + 1
    → begun.choices ≡ old.choices → HasComeToBoth k (log - 1) first begun found → kept.choices ≡ set found.choices old.count choice → kept.count ≡ found.count
    → IsChoice k log (halves_cost k (log - 1) first) choice → HasCome k log first old kept
unfolding HasChoices
come_to_mixed k log first old begun found kept choice mixed begun_count begun_choices both keeps same_count is =
    let next : suc (log - 1) ≡ log = omega (arith, mixed_divides k log first mixed) in
    subst (λ n. HasCome k n first old kept) next
    (plain (log - 1) (subst (λ n. wish k n first ≡ Mixed) (sym next) mixed) both (subst (λ n. IsChoice k n (halves_cost k (log - 1) first) choice) (sym next) is))
  where
    plain : (half : ℕ) → wish k (suc half) first ≡ Mixed → HasComeToBoth k half first begun found → IsChoice k (suc half) (halves_cost k half first) choice
        → HasCome k (suc half) first old kept
    plain half mixed both is =
        let kept_at : (i : ℕ) → old.count ≢ i → slice_get kept.choices i ≡ slice_get found.choices i =
        λ i differ. ap (λ cs. slice_get cs i) keeps ∙ get_other found.choices old.count i choice differ in
        let later : (i : ℕ) → old.count + 1 ≤ i → old.count ≢ i = λ i above same. omega (arith, above, same) in
        record {
          count = omega (arith, same_count, both.count, begun_count, count_mixed k half first mixed);
          earlier = λ i below.
              kept_at i (λ same. omega (arith, below, same)) ∙ both.earlier i (omega (arith, below, begun_count)) ∙ ap (λ cs. slice_get cs i) begun_choices;
          places = ap (λ cs. length cs) keeps ∙ length-set found.choices old.count choice ∙ both.places ∙ ap (λ cs. length cs) begun_choices;
          choices = λ _. (
            λ c at. subst (IsChoice k (suc half) (halves_cost k half first)) (get_set found.choices old.count choice c (ap (λ cs. slice_get cs old.count) (sym keeps) ∙ at)) is,
            choices_stay k half first (old.count + 1) found.choices kept.choices (subst (λ n. HasChoices k half first n found.choices) begun_count both.lower)
                (λ i above below. kept_at i (later i above)),
            choices_stay k half (first + 2 ^ half) (old.count + 1 + divided_count k half first) found.choices kept.choices
                (subst (λ n. HasChoices k half (first + 2 ^ half) (n + divided_count k half first) found.choices) begun_count both.upper)
                (λ i above below. kept_at i (later i (omega (arith, above)))),
          );
        }

-- where no place is left, all choices stay
pub full_stays : (old new : List Choice) (count : ℕ) → length old ≤ count → length new ≤ count → KeepsChoices count old new → (i : ℕ) → slice_get new i ≡ slice_get old i
full_stays old new count full full_too keeps i = elim (cases_lt i count) [
  | inl below ↦ keeps i below
  | inr past ↦ slice_get_past new i (omega (arith, full_too, past)) ∙ sym (slice_get_past old i (omega (arith, full, past)))
]

pub none_past : (xs : List Choice) (i : ℕ) → slice_get xs i ≡ None → length xs ≤ i
none_past [] i none = omega arith
none_past (x ∷ xs) zero none = absurd (cc none)
none_past (x ∷ xs) (suc i) none = omega (arith, none_past xs i none)

-- the costs of the halves, by the blocks that the code takes for them
pub rest_is : (k : Task) (y : Context) (log first half first_first second_log second_first : ℕ) → AreHalfBlocks log first half first_first second_log second_first
    → halves_cost k (log - 1) first y ≡ plus (cost k half first_first y) (cost k second_log second_first y)
rest_is k y =
    at_blocks (λ log first half first_first second_log second_first. halves_cost k (log - 1) first y ≡ plus (cost k half first_first y) (cost k second_log second_first y)) plain
  where
    plain : (half first : ℕ) → halves_cost k (suc half - 1) first y ≡ plus (cost k half first y) (cost k half (first + 2 ^ half) y)
    plain half first = let is : suc half - 1 ≡ half = omega arith in ap (λ n. halves_cost k n first y) is

pub choices_same : (k : Task) (log first place place_now : ℕ) (old new : List Choice) → HasChoices k log first place old → place ≡ place_now
    → ((i : ℕ) → slice_get new i ≡ slice_get old i) → HasChoices k log first place_now new
choices_same k log first place place_now old new has same_place same =
    subst (λ n. HasChoices k log first n new) same_place (choices_stay k log first place old new has (λ i above below. same i))
