-- Where the values of a dump come from.
use Rattle.std.proofs.Common.{◌≡◌, ◌<◌, ℕ, zero, suc, Bool, true, false, ◌==◌, ◌&&◌, ◌||◌, List, [], ◌∷◌, ◌++◌, Option, Some, None, refl, sym, ◌∙◌, ap, subst, inl, inr, arith}
use Rattle.std.specs.Prelude.{is_none, if◌then◌else◌}
use Rattle.std.proofs.lemmas.Bool.{eqb-true, eqb-false}
use Rattle.mt_ports.specs.declared.status.Status.TheVariants.{Done}
use Rattle.mt_import.specs.declared.fault.ImportFault.{ImportFault}
use Rattle.mt_import.specs.declared.format.Choice.{Choice}
use Rattle.mt_import.specs.declared.shape.Reading.{Reading}
use Rattle.mt_import.specs.Shown.{is_auto}
use Rattle.mt_import.specs.Slot.{is_disabled, whole_value}
use Rattle.mt_import.specs.Supplied.{Supplied, supplied_value}
use Rattle.mt_import.specs.Values.{assumed_of, assumed_value, disabled_value, firm_value, is_pair_number, mask_of, or_supplied, width_by}
use Rattle.mt_import.specs.Outcome.{Outcome, Seen, Summary, dump_outcome, ended, file_of, findings_of, hint_of, is_empty, is_missing, known_by, missing_line, missing_lines, missing_of, missing_width, needed, processors, refusal, slot_shown, summary_of, unless, values_of, processors_text}
use Rattle.mt_import.specs.Import.{log_outcome}
use Rattle.mt_import.proofs.Parts.{length_files}
use Rattle.mt_import.proofs.Same.{value_is}
use Rattle.mt_import_laws.specs.Origins.{HasOrigins, IsAmong, IsUnshown, IsUntold, Origin, by_assumption, by_disabled, by_lines, by_word, seen_of}
use Rattle.mt_import_laws.proofs.Fine.{IsFine}
use Rattle.mt_import_laws.proofs.Faults.{fault_of, fine_of, till_of}
use Rattle.mt_import_laws.proofs.Sections.{line_of, section_at}
use Rattle.mt_import_laws.proofs.Shown.{is_shown, only_valid, shown_clear}

-- ---- one value

module _ (supplied : Supplied) (seen : Seen) (k number value : ℕ) (fine : IsFine supplied seen.readings) where
  abbrev readings : List Reading
  readings = seen.readings

  abbrev assumed : Option ℕ
  assumed = assumed_value (assumed_of k supplied.assumed) (slot_shown readings k) (known_by supplied (findings_of seen)) number

  from_disabled : IsUntold supplied readings k number → (pair clear : Bool) → is_pair_number number ≡ pair → is_disabled (slot_shown readings k (mask_of number)) ≡ clear
      → or_supplied (if pair && clear then Some 0 else None) assumed ≡ Some value → Origin supplied seen k number value
  from_disabled untold true true is_pair is_clear is =
      let found = shown_clear supplied readings k (mask_of number) fine is_clear in
      by_disabled untold (record {
        zero = zero_of is;
        pair = is_pair;
        valid = found.0;
        clear = found.1;
        alone = λ i shows. only_valid supplied readings k (mask_of number) i fine is_clear shows;
      })
    where
      zero_of : ◌≡◌ {A = Option ℕ} (Some 0) (Some value) → value ≡ 0
      zero_of e = cc e
  from_disabled untold true false is_pair not_clear is = by_assumption untold is
  from_disabled untold false clear not_pair same is = by_assumption untold is

  from_word : IsUnshown readings k number → (given : Option ℕ) → supplied_value supplied number ≡ given
      → or_supplied (or_supplied given (disabled_value (slot_shown readings k) number)) assumed ≡ Some value → Origin supplied seen k number value
  from_word unshown (Some other) is_given is = by_word unshown (is_given ∙ is)
  from_word unshown None is_given is = from_disabled (unshown, is_given) (is_pair_number number) (is_disabled (slot_shown readings k (mask_of number))) refl refl is

  from_lines : (whole : Option ℕ) → whole_value (slot_shown readings k number) ≡ whole
      → or_supplied (or_supplied whole (or_supplied (supplied_value supplied number) (disabled_value (slot_shown readings k) number))) assumed ≡ Some value
      → Origin supplied seen k number value
  from_lines (Some other) is_whole is = by_lines (is_shown supplied readings k number value fine (is_whole ∙ is))
  from_lines None is_whole is = from_word is_whole (supplied_value supplied number) refl is

  pub origin : or_supplied (firm_value supplied (slot_shown readings k) number) assumed ≡ Some value → Origin supplied seen k number value
  origin is = from_lines (whole_value (slot_shown readings k number)) refl is

-- ---- nothing is missing

empty_text : (text : List ℕ) → is_empty text ≡ true → text ≡ []
empty_text [] is = refl
empty_text (byte ∷ bytes) is = cc is

empty_both : (xs ys : List ℕ) → xs ++ ys ≡ [] → (xs ≡ []) × (ys ≡ [])
empty_both [] ys is = (refl, is)
empty_both (x ∷ xs) ys is = cc is

not_missing : (values : ℕ → ℕ → Option ℕ) (count number k : ℕ) → k < count → is_missing values count number ≡ false → is_none (values k number) ≡ false
not_missing values zero number k less none = absurd (omega (arith, less))
not_missing values (suc count) number k less none = by (λ below before. not_missing values count number k below before) (is_missing values count number) (is_none (values count number)) refl refl none
  where
    other : (a b : ℕ) → a < suc b → (a ≡ b → ⊥) → a < b
    other a b less apart = omega (arith, less, apart)

    last : (k < count → is_missing values count number ≡ false → is_none (values k number) ≡ false) → (test : Bool) → (k == count) ≡ test → is_missing values count number ≡ false → is_none (values count number) ≡ false → is_none (values k number) ≡ false
    last earlier true same before here = ap (λ j. is_none (values j number)) (eqb-true k count same) ∙ here
    last earlier false apart before here = earlier (other k count less (eqb-false k count apart)) before

    by : (k < count → is_missing values count number ≡ false → is_none (values k number) ≡ false) → (before here : Bool) → is_missing values count number ≡ before → is_none (values count number) ≡ here
        → (before || here) ≡ false → is_none (values k number) ≡ false
    by earlier true here is_before is_here none = cc none
    by earlier false true is_before is_here none = cc none
    by earlier false false is_before is_here none = last earlier (k == count) refl is_before is_here

module _ (hints : ℕ → Option ℕ) (values : ℕ → ℕ → Option ℕ) (count : ℕ) where
  -- a line has bytes
  no_line : (number : ℕ) (test : Bool) → (if test then missing_line number (processors_text values count number) (hints number) else []) ≡ [] → test ≡ false
  no_line number true is = cc is
  no_line number false is = refl

  none_missing : (numbers : List ℕ) (number : ℕ) → missing_lines hints values count numbers ≡ [] → IsAmong number numbers → is_missing values count number ≡ false
  none_missing [] number empty among = absurd among
  none_missing (n ∷ ns) number empty (inl same) =
      let both = empty_both (if is_missing values count n then missing_line n (processors_text values count n) (hints n) else []) (missing_lines hints values count ns) empty in
      subst (λ m. is_missing values count m ≡ false) same (no_line n (is_missing values count n) both.0)
  none_missing (n ∷ ns) number empty (inr later) =
      none_missing ns number (empty_both (if is_missing values count n then missing_line n (processors_text values count n) (hints n) else []) (missing_lines hints values count ns) empty).1 later

some_value : (o : Option ℕ) → is_none o ≡ false → (value : ℕ) × (o ≡ Some value)
some_value (Some value) is = (value, refl)
some_value None is = cc is

-- ---- the dump

module _ (supplied : Supplied) (seen : Seen) (auto : Bool) (fine : IsFine supplied seen.readings) where
  abbrev values : ℕ → ℕ → Option ℕ
  values = values_of supplied (findings_of seen)

  abbrev missing : List ℕ
  missing = missing_of supplied (findings_of seen)

  abbrev summary : Summary
  summary = summary_of auto supplied (findings_of seen) seen.tally

  -- with this width and this capability register, where nothing is missing
  dumped : (width capabilities : Option ℕ) → width_by supplied (slot_shown seen.readings) seen.width ≡ width → values 0 0xfe ≡ capabilities → missing ≡ []
      → (dump_outcome (refusal seen.tally missing) summary width capabilities).status ≡ Done
      → HasOrigins supplied seen (dump_outcome (refusal seen.tally missing) summary width capabilities)
  dumped (Some width) (Some capabilities) is_width is_capabilities empty done =
      let both = empty_both (missing_width (width_by supplied (slot_shown seen.readings) seen.width) _) (missing_lines (hint_of supplied (findings_of seen)) values (processors seen.readings) (needed (values 0 0xfe))) empty in
      record {
        width = width;
        capabilities = capabilities;
        width_is = is_width;
        capabilities_is = is_capabilities;
        notes_are = refl;
        dump_is = refl;
        sections = length_files values width capabilities (processors seen.readings);
        in_section = λ k number value less among is. record {
          file = file_of (values k) width capabilities;
          section = section_at values width capabilities (processors seen.readings) k less;
          line = line_of values width capabilities k number value is_capabilities among is;
        };
        each = λ k number less among.
            let none = none_missing (hint_of supplied (findings_of seen)) values (processors seen.readings) (needed (values 0 0xfe)) number both.1 (subst (λ c. IsAmong number (needed c)) (sym is_capabilities) among) in
            let found = some_value (values k number) (not_missing values (processors seen.readings) number k less none) in
            (found.0, found.1, origin supplied seen k number found.0 fine (sym (value_is supplied (findings_of seen) k number) ∙ found.1));
      }
  dumped (Some width) None is_width is_capabilities empty done = cc done
  dumped None capabilities is_width is_capabilities empty done = cc done

  pub ended_dump : (test : Bool) → is_empty missing ≡ test
      → (if test then dump_outcome (refusal seen.tally missing) summary summary.width (values 0 0xfe) else refusal seen.tally (missing ++ summary.advice)).status ≡ Done
      → HasOrigins supplied seen (if test then dump_outcome (refusal seen.tally missing) summary summary.width (values 0 0xfe) else refusal seen.tally (missing ++ summary.advice))
  ended_dump true is done = dumped (width_by supplied (slot_shown seen.readings) seen.width) (values 0 0xfe) refl refl (empty_text missing is) done
  ended_dump false is done = cc done

pub origins : (choice : Choice) (supplied : Supplied) (text : List ℕ) → (log_outcome choice supplied text).status ≡ Done → HasOrigins supplied (seen_of choice text) (log_outcome choice supplied text)
origins choice supplied text done =
    let inner = by (fault_of choice supplied text) refl done in
    record {
      width = inner.width;
      capabilities = inner.capabilities;
      width_is = inner.width_is;
      capabilities_is = inner.capabilities_is;
      notes_are = inner.notes_are;
      dump_is = inner.dump_is;
      sections = inner.sections;
      in_section = inner.in_section;
      each = inner.each;
    }
  where
    told : Outcome
    told = ended (is_auto choice) supplied (seen_of choice text)

    by : (fault : Option ImportFault) → fault_of choice supplied text ≡ fault → (unless fault (till_of choice supplied text) told).status ≡ Done → HasOrigins supplied (seen_of choice text) (unless fault (till_of choice supplied text) told)
    by (Some fault) is done = cc done
    by None is done =
        ended_dump supplied (seen_of choice text) (is_auto choice) (fine_of choice supplied text is)
        (is_empty (missing_of supplied (findings_of (seen_of choice text)))) refl done
