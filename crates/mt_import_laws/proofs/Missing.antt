-- What is named as missing, and the words that are tried.
use Rattle.std.proofs.Common.{◌≡◌, ◌<◌, ℕ, zero, suc, Bool, true, false, ◌||◌, List, [], ◌∷◌, ◌++◌, Option, Some, None, refl, sym, ◌∙◌, ap, inl, inr, arith}
use Rattle.std.specs.Prelude.{is_none, if◌then◌else◌}
use Rattle.std.specs.List.{AllByRecursion}
use Rattle.std.proofs.lemmas.Bool.{cases_lt}
use Rattle.mt_import.specs.Supplied.{Supplied}
use Rattle.mt_import.specs.Outcome.{Seen, all_needed, allowing_all, findings_of, hint_of, is_missing, missing_line, missing_lines, needed, processors, processors_text, value_words, values_of}
use Rattle.mt_import_laws.specs.Missing.{Lacks, NamesLacking, NamesMissing, NamesValues, value_word_of}
use Rattle.mt_import_laws.specs.Origins.{IsAmong}

or_true : (test : Bool) → (test || true) ≡ true
or_true true = refl
or_true false = refl

module _ (values : ℕ → ℕ → Option ℕ) where
  lacks_by : (count number : ℕ) → is_missing values count number ≡ true → Lacks values count number
  lacks_by zero number is = cc is
  lacks_by (suc n) number is = by (is_missing values n number) (lacks_by n number) (values n number) refl is
    where
      by : (before : Bool) → (before ≡ true → Lacks values n number) → (own : Option ℕ) → values n number ≡ own → (before || is_none own) ≡ true → Lacks values (suc n) number
      by true sooner own is_own has = let found = sooner refl in let within = found.within in record { processor = found.processor; within = omega (arith, within); no_value = found.no_value }
      by false sooner None is_own has = record { processor = n; within = omega arith; no_value = is_own }
      by false sooner (Some value) is_own has = cc has

  missing_at : (count number k : ℕ) → k < count → values k number ≡ None → is_missing values count number ≡ true
  missing_at zero number k less none = absurd (omega (arith, less))
  missing_at (suc n) number k less none = elim (cases_lt k n) [
    | inl below ↦ ap (λ b. b || is_none (values n number)) (missing_at n number k below none)
    | inr top ↦ let e : k ≡ n = omega (arith, less, top) in
        ap (λ o. is_missing values n number || is_none o) (sym (ap (λ j. values j number) e) ∙ none) ∙ or_true (is_missing values n number)
  ]

  module _ (count : ℕ) (line : ℕ → List ℕ) (text : List ℕ → List ℕ) (nothing : text [] ≡ [])
      (more : (number : ℕ) (numbers : List ℕ) → text (number ∷ numbers) ≡ (if is_missing values count number then line number else []) ++ text numbers) where
    abbrev Named : List ℕ → Type 0
    Named numbers = NamesLacking values count numbers line (text numbers)

    wider : (number : ℕ) (numbers named : List ℕ) → AllByRecursion (λ n. IsAmong n numbers × Lacks values count n) named → AllByRecursion (λ n. IsAmong n (number ∷ numbers) × Lacks values count n) named
    wider number numbers [] all = tt
    wider number numbers (n ∷ named) all = ((inr all.0.0, all.0.1), wider number numbers named all.1)

    next : (number : ℕ) (numbers : List ℕ) (test : Bool) → is_missing values count number ≡ test → Named numbers → Named (number ∷ numbers)
    next number numbers true is later = record {
      named = number ∷ later.named;
      text_is = more number numbers ∙ ap (λ b. (if b then line number else []) ++ text numbers) is ∙ ap (λ (t : List ℕ). line number ++ t) later.text_is;
      each = ((inl refl, lacks_by count number is), wider number numbers later.named later.each);
      all = λ n among lacks. elim among [
        | inl same ↦ inl same
        | inr other ↦ inr (later.all n other lacks)
      ];
    }
    next number numbers false is later = record {
      named = later.named;
      text_is = more number numbers ∙ ap (λ b. (if b then line number else []) ++ text numbers) is ∙ later.text_is;
      each = wider number numbers later.named later.each;
      all = λ n among lacks. elim among [
        | inl same ↦ let e : false ≡ true = sym is ∙ ap (is_missing values count) same ∙ missing_at count n lacks.processor lacks.within lacks.no_value in cc e
        | inr other ↦ later.all n other lacks
      ];
    }

    pub named_by : (numbers : List ℕ) → Named numbers
    named_by [] = record { named = []; text_is = nothing; each = tt; all = λ n among lacks. absurd among }
    named_by (number ∷ numbers) = next number numbers (is_missing values count number) refl (named_by numbers)

pub missing_named : (supplied : Supplied) (seen : Seen) → NamesMissing supplied seen
missing_named supplied seen =
    let values = values_of supplied (findings_of seen) in
    let count = processors seen.readings in
    let hints = hint_of supplied (findings_of seen) in
    record {
      lines = missing_lines hints values count (needed (values 0 0xfe));
      missing_is = refl;
      names = named_by values count (λ number. missing_line number (processors_text values count number) (hints number)) (missing_lines hints values count) refl (λ number numbers. refl) (needed (values 0 0xfe));
    }

pub values_named : (supplied : Supplied) (seen : Seen) → NamesValues supplied seen
values_named supplied seen =
    named_by (values_of (allowing_all supplied) (findings_of seen)) (processors seen.readings) value_word_of (value_words supplied (findings_of seen)) refl (λ number numbers. refl)
    (all_needed supplied (findings_of seen))
