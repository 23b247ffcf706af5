-- Where the width comes from, and widths that differ.
use Rattle.std.proofs.Common.{◌≡◌, ◌≢◌, ℕ, Bool, true, false, ◌==◌, not, List, [], ◌∷◌, Option, Some, None, refl, sym, ◌∙◌, ap, inl, inr}
use Rattle.std.specs.Prelude.{◌⊎◌, if◌then◌else◌}
use Rattle.std.proofs.lemmas.Bool.{eqb-true}
use Rattle.mt_ports.specs.declared.status.Status.TheVariants.{BadText}
use Rattle.mt_text.specs.declared.place.Place.{Place}
use Rattle.mt_import.specs.declared.fault.ImportFault.TheVariants.{BadWidth}
use Rattle.mt_import.specs.declared.fault.Rival.TheVariants.{Line, Word}
use Rattle.mt_import.specs.declared.format.Choice.{Choice}
use Rattle.mt_import.specs.Readings.{Fact, is_fault, is_line, is_register_value, is_warning, is_width}
use Rattle.mt_import.specs.Census.{format_of}
use Rattle.mt_import.specs.Shown.{is_auto, shown}
use Rattle.mt_import.specs.Supplied.{Supplied, differs}
use Rattle.mt_import.specs.Values.{assumed_width, or_supplied}
use Rattle.mt_import.specs.Outcome.{Seen, ended, fact_fault, facts_fault, is_fit_width, nothing_seen, seen_after, seen_with, slot_shown, width_contradiction, width_fault}
use Rattle.mt_import.specs.Import.{log_outcome}
use Rattle.mt_import_laws.specs.Origins.{HasOrigins, IsAmong, WidthOrigin, readings_of, seen_of, width_by_line, width_by_masks, width_by_word}
use Rattle.mt_import_laws.proofs.Bits.{not_false}
use Rattle.mt_import_laws.proofs.Faults.{fault_of, faulty, till_of}
use Rattle.mt_import_laws.proofs.Fine.{both_none}
use Rattle.mt_import_laws.proofs.Lines.{fact_of_line}

-- ---- where it comes from

record IsShownWidth (facts : List Fact) (width : ℕ) : Type 0 where
  place : Place
  among : IsAmong (is_width width place) facts

gathered : (facts : List Fact) (seen : Seen) (width : ℕ) → (seen_after seen facts).width ≡ Some width → IsShownWidth facts width ⊎ (seen.width ≡ Some width)
gathered [] seen width is = inr is
gathered (fact ∷ facts) seen width is = elim (gathered facts (seen_with seen fact) width is) [
  | inl later ↦ inl (record { place = later.place; among = inr later.among })
  | inr here ↦ by fact here
]
  where
    by : (f : Fact) → (seen_with seen f).width ≡ Some width → IsShownWidth (f ∷ facts) width ⊎ (seen.width ≡ Some width)
    by (is_line number format matched) is = inr is
    by (is_register_value reading) is = inr is
    by (is_width other place) is = let e : other ≡ width = cc is in inl (record { place = place; among = inl (ap (λ w. is_width w place) e) })
    by (is_warning warning number) is = inr is
    by (is_fault fault) is = inr is

module _ (choice : Choice) (supplied : Supplied) (text : List ℕ) (width : ℕ) where
  abbrev masks : Option ℕ
  masks = assumed_width supplied (slot_shown (readings_of choice text) 0)

  from_shown : IsShownWidth (shown (format_of choice text) text) width ⊎ (◌≡◌ {A = Option ℕ} None (Some width)) → WidthOrigin choice supplied text width
  from_shown (inl found) = width_by_line found.place (fact_of_line choice text (is_width width found.place) found.among)
  from_shown (inr none) = cc none

  from_word : (seen_of choice text).width ≡ None → (given : Option ℕ) → supplied.width ≡ given → or_supplied given masks ≡ Some width → WidthOrigin choice supplied text width
  from_word none (Some other) is_given is = width_by_word none (is_given ∙ is)
  from_word none None is_given is = width_by_masks none is_given is

  from_lines : (seen : Option ℕ) → (seen_of choice text).width ≡ seen → or_supplied (or_supplied seen supplied.width) masks ≡ Some width → WidthOrigin choice supplied text width
  from_lines (Some other) is_seen is = from_shown (gathered (shown (format_of choice text) text) (nothing_seen (format_of choice text)) width (is_seen ∙ is))
  from_lines None is_seen is = from_word is_seen supplied.width refl is

pub width_origin : (choice : Choice) (supplied : Supplied) (text : List ℕ) (origins : HasOrigins supplied (seen_of choice text) (log_outcome choice supplied text)) → WidthOrigin choice supplied text origins.width
width_origin choice supplied text origins = from_lines choice supplied text origins.width (seen_of choice text).width refl origins.width_is

-- ---- widths that differ

fault_by : (unfit word line : Bool) (at : ℕ) (place : Place) → (if unfit then Some (BadWidth place) else width_contradiction place (if word then Some Word else if line then Some (Line at) else None)) ≡ None
    → (word ≡ false) × (line ≡ false)
fault_by true word line at place is = cc is
fault_by false true line at place is = cc is
fault_by false false true at place is = cc is
fault_by false false false at place is = (refl, refl)

agrees : (other : Option ℕ) (width known : ℕ) → differs other width ≡ false → other ≡ Some known → known ≡ width
agrees None width known same is = cc is
agrees (Some value) width known same is = let e : value ≡ known = cc is in sym e ∙ eqb-true value width (not_false (value == width) same)

tests : (supplied : Supplied) (seen : Seen) (width : ℕ) (place : Place) → width_fault supplied seen width place ≡ None → (differs supplied.width width ≡ false) × (differs seen.width width ≡ false)
tests supplied seen width place is = fault_by (not (is_fit_width width)) (differs supplied.width width) (differs seen.width width) seen.line_of_width place is

module _ (supplied : Supplied) where
  -- a width that was seen is the one at the end
  stays : (facts : List Fact) (seen : Seen) (width : ℕ) → facts_fault supplied seen facts ≡ None → seen.width ≡ Some width → (seen_after seen facts).width ≡ Some width
  stays [] seen width none is = is
  stays (fact ∷ facts) seen width none is =
      let both = both_none (fact_fault supplied seen fact) (facts_fault supplied (seen_with seen fact) facts) none in
      stays facts (seen_with seen fact) width both.1 (by fact both.0)
    where
      by : (f : Fact) → fact_fault supplied seen f ≡ None → (seen_with seen f).width ≡ Some width
      by (is_line number format matched) one = is
      by (is_register_value reading) one = is
      by (is_width other place) one = ap Some (sym (agrees seen.width other width (tests supplied seen other place one).1 is))
      by (is_warning warning number) one = is
      by (is_fault fault) one = is

  at_end : (facts : List Fact) (seen : Seen) (width : ℕ) (place : Place) → facts_fault supplied seen facts ≡ None → IsAmong (is_width width place) facts → (seen_after seen facts).width ≡ Some width
  at_end [] seen width place none among = absurd among
  at_end (fact ∷ facts) seen width place none (inl same) =
      let both = both_none (fact_fault supplied seen fact) (facts_fault supplied (seen_with seen fact) facts) none in
      stays facts (seen_with seen fact) width both.1 (ap (λ f. (seen_with seen f).width) same)
  at_end (fact ∷ facts) seen width place none (inr later) =
      at_end facts (seen_with seen fact) width place (both_none (fact_fault supplied seen fact) (facts_fault supplied (seen_with seen fact) facts) none).1 later

  as_word : (facts : List Fact) (seen : Seen) (width word : ℕ) (place : Place) → facts_fault supplied seen facts ≡ None → IsAmong (is_width width place) facts → supplied.width ≡ Some word → word ≡ width
  as_word [] seen width word place none among given = absurd among
  as_word (fact ∷ facts) seen width word place none (inl same) given =
      let both = both_none (fact_fault supplied seen fact) (facts_fault supplied (seen_with seen fact) facts) none in
      agrees supplied.width width word (tests supplied seen width place (sym (ap (fact_fault supplied seen) same) ∙ both.0)).0 given
  as_word (fact ∷ facts) seen width word place none (inr later) given =
      as_word facts (seen_with seen fact) width word place (both_none (fact_fault supplied seen fact) (facts_fault supplied (seen_with seen fact) facts) none).1 later given

pub widths_differ : (choice : Choice) (supplied : Supplied) (text : List ℕ) (a b : ℕ) (p q : Place) → IsAmong (is_width a p) (shown (format_of choice text) text) → IsAmong (is_width b q) (shown (format_of choice text) text) → a ≢ b
    → (log_outcome choice supplied text).status ≡ BadText
widths_differ choice supplied text a b p q first second differ =
    faulty (fault_of choice supplied text) (till_of choice supplied text) (ended (is_auto choice) supplied (seen_of choice text)) (λ none.
    let one = at_end supplied (shown (format_of choice text) text) (nothing_seen (format_of choice text)) a p none first in
    let two = at_end supplied (shown (format_of choice text) text) (nothing_seen (format_of choice text)) b q none second in
    let e : Some a ≡ Some b = sym one ∙ two in
    differ (cc e))

pub width_differs : (choice : Choice) (supplied : Supplied) (text : List ℕ) (a word : ℕ) (p : Place) → IsAmong (is_width a p) (shown (format_of choice text) text) → supplied.width ≡ Some word → word ≢ a
    → (log_outcome choice supplied text).status ≡ BadText
width_differs choice supplied text a word p first given differ =
    faulty (fault_of choice supplied text) (till_of choice supplied text) (ended (is_auto choice) supplied (seen_of choice text)) (λ none.
    differ (as_word supplied (shown (format_of choice text) text) (nothing_seen (format_of choice text)) a word p none first given))
