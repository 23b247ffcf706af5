-- The walk over all names finds the least shared page.
use Rattle.std.proofs.Common.{◌≡◌, ◌∙◌, ap, sym, refl, subst, arith, ℕ, ◌+◌, ◌<◌, ◌≤◌, Bool, true, false, if◌then◌else◌, cond, List, [], ◌∷◌, Option, None, Some}
use Rattle.std.specs.Prelude.{◌==◌, ◌&&◌, ◌||◌, nat_lt, nat_le}
use Rattle.std.specs.List.{fold, list_any}
use Rattle.mt_tlb.specs.declared.entry.Entry.{Entry}
use Rattle.mt_tlb.specs.declared.mapping.Mapping.{Mapping}
use Rattle.mt_machine.specs.System.{Processor, System}
use Rattle.mt_laws.proofs.Steps.StepCounts.{count_more}
use Rattle.mt_private.specs.Pages.{IsLeastShared, IsPrivate, after_names, better, is_below, is_shared, names, naming, page_of_line}

-- the best so far is at most the page
abbrev covers : Option ℕ → ℕ → Bool
covers None page = false
covers (Some best) page = nat_le best page

-- the best so far is shared
abbrev IsGood : (ℕ → Bool) → Option ℕ → Type 0
IsGood shared o = (best : ℕ) → o ≡ Some best → shared best ≡ true

module _ (shared : ℕ → Bool) where
  good_better : (o : Option ℕ) (page : ℕ) → IsGood shared o → IsGood shared (better shared o page)
  good_better o page good = one (is_below page o) (shared page) refl
    where
      one : (a b : Bool) → shared page ≡ b → IsGood shared (if a && b then Some page else o)
      one true true is best same = let e : page ≡ best = cc in ap shared (sym e) ∙ is
      one true false is best same = good best same
      one false b is best same = good best same

  keeps_better : (o : Option ℕ) (n page : ℕ) → covers o page ≡ true → covers (better shared o n) page ≡ true
  keeps_better None n page c = absurd (cc)
  keeps_better (Some best) n page c = one (nat_lt n best) (shared n) refl
    where
      one : (a b : Bool) → nat_lt n best ≡ a → covers (if a && b then Some n else Some best) page ≡ true
      one true true is = grind arith
      one true false is = c
      one false b is = c

  covers_better : (o : Option ℕ) (page : ℕ) → shared page ≡ true → covers (better shared o page) page ≡ true
  covers_better None page is = one (shared page) is
    where
      one : (b : Bool) → b ≡ true → covers (if b then Some page else None) page ≡ true
      one true e = grind arith
      one false e = absurd (cc)
  covers_better (Some best) page is = one (nat_lt page best) (shared page) refl is
    where
      one : (a b : Bool) → nat_lt page best ≡ a → b ≡ true → covers (if a && b then Some page else Some best) page ≡ true
      one true true low e = grind arith
      one a false low e = absurd (cc)
      one false true low e = grind arith

  module _ {X : Type 0} (f : X → ℕ) where
    good_fold : (xs : List X) (o : Option ℕ) → IsGood shared o → IsGood shared (fold (λ b x. better shared b (f x)) o xs)
    good_fold [] o good = good
    good_fold (x ∷ xs) o good = good_fold xs (better shared o (f x)) (good_better o (f x) good)

    keeps_fold : (xs : List X) (o : Option ℕ) (page : ℕ) → covers o page ≡ true → covers (fold (λ b x. better shared b (f x)) o xs) page ≡ true
    keeps_fold [] o page c = c
    keeps_fold (x ∷ xs) o page c = keeps_fold xs (better shared o (f x)) page (keeps_better o (f x) page c)

    covers_fold : (xs : List X) (o : Option ℕ) (page : ℕ) → shared page ≡ true → list_any (λ x. f x == page) xs ≡ true → covers (fold (λ b x. better shared b (f x)) o xs) page ≡ true
    covers_fold [] o page is any = absurd (cc)
    covers_fold (x ∷ xs) o page is any = one (f x == page) refl any (covers_fold xs (better shared o (f x)) page is)
      where
        one : (b : Bool) → (f x == page) ≡ b → (b || list_any (λ y. f y == page) xs) ≡ true
            → (list_any (λ y. f y == page) xs ≡ true → covers (fold (λ b x. better shared b (f x)) (better shared o (f x)) xs) page ≡ true)
            → covers (fold (λ b x. better shared b (f x)) (better shared o (f x)) xs) page ≡ true
        one true same any rest =
            let e : f x ≡ page = grind arith in
            keeps_fold xs (better shared o (f x)) page (subst (λ n. covers (better shared o n) page ≡ true) (sym e) (covers_better o page is))
        one false other any rest = rest any

  good_names : (o : Option ℕ) (p : Processor) → IsGood shared o → IsGood shared (after_names shared o p)
  good_names o p good =
      good_fold page_of_line p.buffers _ (good_fold page_of_line p.lines _ (good_fold (λ (e : Entry). e.ppage) p.entries _ (good_fold (λ (m : Mapping). m.ppage) p.mappings o good)))

  keeps_names : (o : Option ℕ) (p : Processor) (page : ℕ) → covers o page ≡ true → covers (after_names shared o p) page ≡ true
  keeps_names o p page c =
      keeps_fold page_of_line p.buffers _ page (keeps_fold page_of_line p.lines _ page (keeps_fold (λ (e : Entry). e.ppage) p.entries _ page (keeps_fold (λ (m : Mapping). m.ppage) p.mappings o page c)))

  covers_names : (o : Option ℕ) (p : Processor) (page : ℕ) → shared page ≡ true → names page p ≡ true → covers (after_names shared o p) page ≡ true
  covers_names o p page is named =
      one (list_any (λ m. m.ppage == page) p.mappings) (list_any (λ e. e.ppage == page) p.entries) (list_any (λ l. page_of_line l == page) p.lines) (list_any (λ l. page_of_line l == page) p.buffers)
      refl refl refl refl named
    where
      one : (a b c d : Bool) → list_any (λ m. m.ppage == page) p.mappings ≡ a → list_any (λ e. e.ppage == page) p.entries ≡ b → list_any (λ l. page_of_line l == page) p.lines ≡ c → list_any (λ l. page_of_line l == page) p.buffers ≡ d
          → (a || b || c || d) ≡ true → covers (after_names shared o p) page ≡ true
      one true b c d w x y z any =
          keeps_fold page_of_line p.buffers _ page (keeps_fold page_of_line p.lines _ page (keeps_fold (λ (e : Entry). e.ppage) p.entries _ page (covers_fold (λ (m : Mapping). m.ppage) p.mappings o page is w)))
      one false true c d w x y z any =
          keeps_fold page_of_line p.buffers _ page (keeps_fold page_of_line p.lines _ page (covers_fold (λ (e : Entry). e.ppage) p.entries _ page is x))
      one false false true d w x y z any = keeps_fold page_of_line p.buffers _ page (covers_fold page_of_line p.lines _ page is y)
      one false false false true w x y z any = covers_fold page_of_line p.buffers _ page is z
      one false false false false w x y z any = absurd (cc)

  good_all : (ps : List Processor) (o : Option ℕ) → IsGood shared o → IsGood shared (fold (after_names shared) o ps)
  good_all [] o good = good
  good_all (p ∷ ps) o good = good_all ps (after_names shared o p) (good_names o p good)

  keeps_all : (ps : List Processor) (o : Option ℕ) (page : ℕ) → covers o page ≡ true → covers (fold (after_names shared) o ps) page ≡ true
  keeps_all [] o page c = c
  keeps_all (p ∷ ps) o page c = keeps_all ps (after_names shared o p) page (keeps_names o p page c)

  covers_all : (ps : List Processor) (o : Option ℕ) (page : ℕ) → shared page ≡ true → 1 ≤ naming ps page → covers (fold (after_names shared) o ps) page ≡ true
  covers_all [] o page is some = absurd (omega arith)
  covers_all (p ∷ ps) o page is some = one (names page p) refl (omega (arith, count_more (names page) p ps)) (covers_all ps (after_names shared o p) page is)
    where
      one : (b : Bool) → names page p ≡ b → 1 ≤ cond b 1 0 + naming ps page
          → (1 ≤ naming ps page → covers (fold (after_names shared) (after_names shared o p) ps) page ≡ true)
          → covers (fold (after_names shared) (after_names shared o p) ps) page ≡ true
      one true named some rest = keeps_all ps (after_names shared o p) page (covers_names o p page is named)
      one false named some rest = let e : 1 ≤ naming ps page = omega arith in rest e

-- ---- what the walk finds

same_least : (x y a b : ℕ) → (x < y → a ≤ 1) → (y < x → b ≤ 1) → 2 ≤ a → 2 ≤ b → x ≡ y
same_least x y a b below above one two = grind arith

module _ (s : System) where
  abbrev ps : List Processor
  ps = s.processors

  abbrev found : Option ℕ
  found = fold (after_names (is_shared ps)) None ps

  shared_found : (page : ℕ) → found ≡ Some page → 2 ≤ naming ps page
  shared_found page is = let e : is_shared ps page ≡ true = good_all (is_shared ps) ps None (λ best none. absurd (cc)) page is in grind arith

  covered : (page : ℕ) → 2 ≤ naming ps page → covers found page ≡ true
  covered page two = let e : is_shared ps page ≡ true = grind arith in covers_all (is_shared ps) ps None page e (omega arith)

  private_at : (page : ℕ) → covers found page ≡ false → naming ps page ≤ 1
  private_at page none = grind (arith, covered page)

  pub none_found : found ≡ None → IsPrivate s
  none_found none page = private_at page (ap (λ o. covers o page) none)

  pub least_found : (page : ℕ) → found ≡ Some page → IsLeastShared s page
  least_found page is = record {
    shared = shared_found page is;
    least = λ other low. private_at other (ap (λ o. covers o other) is ∙ (let e : nat_le page other ≡ false = grind arith in e));
  }

  pub found_none : IsPrivate s → found ≡ None
  found_none private = one found refl
    where
      one : (o : Option ℕ) → found ≡ o → o ≡ None
      one None is = refl
      one (Some page) is = let two = shared_found page is in let few = private page in absurd (omega arith)

  pub found_least : (page : ℕ) → IsLeastShared s page → found ≡ Some page
  found_least page h = one found refl
    where
      one : (o : Option ℕ) → found ≡ o → o ≡ Some page
      one None is = let few = none_found is page in let two = h.shared in absurd (omega arith)
      one (Some best) is =
          let w = least_found best is in
          ap Some (same_least best page (naming ps best) (naming ps page) (h.least best) (w.least page) w.shared h.shared)
