use Rattle.std.proofs.Common.{◌≡◌, ◌∙◌, ℕ, List, [], ◌∷◌, ◌++◌, codes, refl, sym, ap, inl, inr, arith, get_or, map}
use Rattle.std.specs.Fmt.{digits}
use Rattle.std.specs.List.{AllByRecursion, concat}
use Rattle.hex.specs.Hex.{encode_with}
use Rattle.mt_import_laws.specs.Missing.{Lacks, NamesLacking, value_word_of}
use Rattle.mt_import_laws.specs.Origins.{IsAmong}
use Rattle.mt_import_laws.specs.Worked.{all_values, no_values}
use Rattle.mt_import_laws.proofs.worked.worked_missing.Goals as goal

-- the fourth byte of a text
abbrev fourth : List ℕ → ℕ
fourth text = get_or text 3 0

lacks : Lacks no_values 1 0x277
lacks = record { processor = 0; within = omega arith; no_value = refl }

silent : NamesLacking no_values 1 (0x277 ∷ []) value_word_of [] → ⊥
silent names = by names.named names.text_is (names.all 0x277 (inl refl) lacks)
  where
    by : (named : List ℕ) → [] ≡ concat (map value_word_of named) → IsAmong 0x277 named → ⊥
    by [] is among = among
    by (number ∷ named) is among = cc is

other : NamesLacking no_values 1 (0x277 ∷ []) value_word_of (codes " 2ff=VALUE") → ⊥
unfolding encode_with digits
other names = by names.named names.text_is names.each
  where
    by : (named : List ℕ) → codes " 2ff=VALUE" ≡ concat (map value_word_of named) → AllByRecursion (λ number. IsAmong number (0x277 ∷ []) × Lacks no_values 1 number) named → ⊥
    by [] is each = cc is
    by (number ∷ named) is each = elim each.0.0 [
      | inl same ↦ let e : 102 ≡ 55 = ap fourth is ∙ ap (λ n. fourth (value_word_of n ++ concat (map value_word_of named))) (sym same) in omega (arith, e)
      | inr none ↦ none
    ]

known : NamesLacking all_values 1 (0x277 ∷ []) value_word_of (codes " 277=VALUE") → ⊥
known names = by names.named names.text_is names.each
  where
    by : (named : List ℕ) → codes " 277=VALUE" ≡ concat (map value_word_of named) → AllByRecursion (λ number. IsAmong number (0x277 ∷ []) × Lacks all_values 1 number) named → ⊥
    by [] is each = cc is
    by (number ∷ named) is each = cc each.0.1.no_value

pub returns : goal.returns
unfolding encode_with digits
returns c = record {
  meets = record { named = 0x277 ∷ []; text_is = refl; each = ((inl refl, lacks), tt); all = λ number among has. among };
  silent = silent;
  other = other;
  known = known;
}
