-- Files that come out of readings of their registers.
use Rattle.std.proofs.Common.{◌≡◌, ◌∙◌, ◌<◌, ◌≤◌, ◌==◌, ◌^◌, ℕ, zero, suc, Bool, true, false, List, [], ◌∷◌, ◌++◌, length, map, take, Option, Some, None, refl, sym, ap, subst, arith, inl, inr}
use Rattle.std.specs.Prelude.{◌⊎◌, if◌then◌else◌, unwrap_or}
use Rattle.std.specs.List.{AllByRecursion}
use Rattle.std.proofs.lemmas.Bool.{eqb-true}
use Rattle.std.proofs.lemmas.List.{ext_get_or, get_or-map, take_all}
use Rattle.mt_regs.specs.declared.registers.Register.{Register}
use Rattle.mt_regs.specs.declared.registers.Register.TheVariants.{PhysBase, PhysMask, FixedRange, Pat, DefaultType}
use Rattle.mt_regs.specs.RegisterFile.{IsRegisterFile, RegisterFile, has_fixed, low_byte, pair_at}
use Rattle.mt_regs.specs.Registers.{IsWithin, fixed_numbers, number_of, value_of, writable}
use Rattle.mt_dump.specs.Canon.{canon}
use Rattle.mt_dump.specs.Dumps.{Dump}
use Rattle.mt_text.specs.declared.place.Place.{Place}
use Rattle.mt_import.specs.Supplied.{Supplied, supplied_value}
use Rattle.mt_import.specs.Readings.{Fact, is_fault, is_line, is_register_value, is_warning, is_width}
use Rattle.mt_import.specs.Slot.{all_bits}
use Rattle.mt_import.specs.Values.{assumed_of, assumed_value, assumed_width, disabled_value, firm_value, masks_in, or_supplied, widest, width_by}
use Rattle.mt_import.specs.Outcome.{Seen, Slots, Summary, ended, ended_by, file_of, files_of, findings_of, first_pairs, fixed_of, hint_of, is_missing, known_by, missing_lines, missing_of, missing_width, needed, processors, seen_after, seen_with, slot_shown, summary_of, value_or_zero, values_of, version_of}
use Rattle.mt_import.proofs.Same.{value_is}
use Rattle.mt_import_laws.specs.Origins.{IsAmong}
use Rattle.mt_import_laws.specs.Printed.{ReadsAs}
use Rattle.mt_import_laws.proofs.Keys.{all_within, within_alike}
use Rattle.mt_import_laws.proofs.Whole.{AreAlike, Holds, IsKnown, IsSound, IsWidth, Prints, whole_slot}

-- ---- the file

one_more_pair : (pairs : List (ℕ × ℕ)) (n : ℕ) → n < length pairs → take (suc n) pairs ≡ take n pairs ++ pair_at pairs n ∷ []
one_more_pair [] n less = absurd (omega (arith, less))
one_more_pair (pair ∷ pairs) zero less = refl
one_more_pair (pair ∷ pairs) (suc n) less = ap (λ ps. pair ∷ ps) (one_more_pair pairs n (omega (arith, less)))

module _ (values : ℕ → Option ℕ) (file : RegisterFile) (is : IsRegisterFile file) (all : (register : Register) → IsWithin file register → values (number_of register) ≡ Some (value_of file register)) where
  pairs_back : (n : ℕ) → n ≤ length file.pairs → first_pairs values n ≡ take n file.pairs
  pairs_back zero within = refl
  pairs_back (suc n) within =
      rw (all (PhysBase n) (omega (arith, within)), all (PhysMask n) (omega (arith, within)))
      (ap (λ ps. ps ++ pair_at file.pairs n ∷ []) (pairs_back n (omega (arith, within))) ∙ sym (one_more_pair file.pairs n (omega (arith, within))))

  all_pairs : first_pairs values (low_byte file.capabilities) ≡ file.pairs
  all_pairs =
      let count : low_byte file.capabilities ≡ length file.pairs = sym is.all_pairs in
      ap (first_pairs values) count ∙ pairs_back (length file.pairs) (omega arith) ∙ take_all (length file.pairs) file.pairs (omega arith)

  fixed_back : (test : Bool) → has_fixed file ≡ test → fixed_of values test ≡ file.fixed
  fixed_back false none = sym (is.no_fixed none)
  fixed_back true has =
      let size = is.all_fixed in
      ext_get_or 0 (map (value_or_zero values) fixed_numbers) file.fixed (sym size) (λ place within.
      get_or-map (value_or_zero values) fixed_numbers place 0 0 within ∙ ap (λ o. unwrap_or o 0) (all (FixedRange place) (within, has)))

  abbrev made : List (ℕ × ℕ) → List ℕ → ℕ → ℕ → RegisterFile
  made pairs fixed pat default_type = record { width = file.width; capabilities = file.capabilities; pairs = pairs; fixed = fixed; pat = pat; default_type = default_type }

  pub file_back : file_of values file.width file.capabilities ≡ file
  file_back =
      let pairs = all_pairs in
      let fixed = fixed_back (has_fixed file) refl in
      let pat : value_or_zero values 0x277 ≡ file.pat = ap (λ o. unwrap_or o 0) (all Pat tt) in
      let default : value_or_zero values 0x2ff ≡ file.default_type = ap (λ o. unwrap_or o 0) (all DefaultType tt) in
      ap (λ ps. made ps (fixed_of values (has_fixed file)) (value_or_zero values 0x277) (value_or_zero values 0x2ff)) pairs
      ∙ ap (λ fs. made file.pairs fs (value_or_zero values 0x277) (value_or_zero values 0x2ff)) fixed
      ∙ ap (λ p. made file.pairs file.fixed p (value_or_zero values 0x2ff)) pat
      ∙ ap (λ d. made file.pairs file.fixed file.pat d) default

-- ---- the files of all processors

-- those of the first so many
abbrev pub first_files : (ℕ → RegisterFile) → ℕ → List RegisterFile
first_files files zero = []
first_files files (suc k) = first_files files k ++ files k ∷ []

abbrev pub dump_from : (ℕ → RegisterFile) → ℕ → Dump
dump_from files count = record { version = version_of count; files = first_files files count }

module _ (values : ℕ → ℕ → Option ℕ) (files : ℕ → RegisterFile) (count : ℕ) (alike : AreAlike files count)
    (all : (k : ℕ) → k < count → (register : Register) → IsWithin (files k) register → values k (number_of register) ≡ Some (value_of (files k) register)) where
  one_back : (k : ℕ) → k < count → file_of (values k) (files 0).width (files 0).capabilities ≡ files k
  one_back k less =
      ap (λ w. file_of (values k) w (files 0).capabilities) (sym (alike.widths k less))
      ∙ ap (λ c. file_of (values k) (files k).width c) (sym (alike.capabilities k less))
      ∙ file_back (values k) (files k) (alike.is_file k less) (all k less)

  pub files_back : (n : ℕ) → n ≤ count → files_of values (files 0).width (files 0).capabilities n ≡ first_files files n
  files_back zero within = refl
  files_back (suc n) within =
      ap (λ fs. fs ++ file_of (values n) (files 0).width (files 0).capabilities ∷ []) (files_back n (omega (arith, within))) ∙ ap (λ f. first_files files n ++ f ∷ []) (one_back n (omega (arith, within)))

  -- a register of the first file is one of each
  in_each : (k : ℕ) → k < count → (register : Register) → IsWithin (files 0) register → IsWithin (files k) register
  in_each k less register within = within_alike (files 0) (files k) register (alike.is_file 0 alike.some) (alike.is_file k less) (alike.capabilities k less) within

  -- ---- nothing is missing

  found : (number : ℕ) → ((k : ℕ) → k < count → (value : ℕ) × (values k number ≡ Some value)) → (n : ℕ) → n ≤ count → is_missing values n number ≡ false
  found number each zero within = refl
  found number each (suc n) within = rw (found number each n (omega (arith, within)), (each n (omega (arith, within))).1) refl

  none_missing : (hints : ℕ → Option ℕ) (registers : List Register) → AllByRecursion (IsWithin (files 0)) registers → missing_lines hints values count (map number_of registers) ≡ []
  none_missing hints [] within = refl
  none_missing hints (register ∷ registers) within =
      let here : is_missing values count (number_of register) ≡ false =
      found (number_of register) (λ k less. (value_of (files k) register, all k less register (in_each k less register within.0))) count (omega arith) in
      rw here (none_missing hints registers within.1)

  pub nothing_missing : (hints : ℕ → Option ℕ) → ((k : ℕ) → k < count → values k 0xfe ≡ Some (files k).capabilities) → missing_lines hints values count (needed (values 0 0xfe)) ≡ []
  nothing_missing hints capabilities =
      let here : is_missing values count 0xfe ≡ false = found 0xfe (λ k less. ((files k).capabilities, capabilities k less)) count (omega arith) in
      ap (λ c. missing_lines hints values count (needed c)) (capabilities 0 alike.some)
      ∙ rw here (none_missing hints (writable (files 0)) (all_within (files 0) (alike.is_file 0 alike.some)))

-- ---- the outcome

by_parts : (told : Summary) (first : RegisterFile) (wanted : List RegisterFile) (count : ℕ)
    → files_of told.values first.width first.capabilities count ≡ wanted → told.missing ≡ [] → told.count ≡ count → told.width ≡ Some first.width → told.values 0 0xfe ≡ Some first.capabilities
    → ReadsAs (ended_by told) (record { version = version_of count; files = wanted })
by_parts told first wanted count is none one own_width own_capabilities =
    rw (none, own_width, own_capabilities, one) (record { status = refl; dump = ap (λ fs. canon (record { version = version_of count; files = fs })) is })

-- What the registers of files were read as comes out as the files.
pub ended_back : (auto : Bool) (supplied : Supplied) (seen : Seen) (files : ℕ → RegisterFile) (count : ℕ) → AreAlike files count → processors seen.readings ≡ count
    → width_by supplied (slot_shown seen.readings) seen.width ≡ Some (files 0).width
    → ((k : ℕ) → k < count → values_of supplied (findings_of seen) k 0xfe ≡ Some (files k).capabilities)
    → ((k : ℕ) → k < count → (register : Register) → IsWithin (files k) register → values_of supplied (findings_of seen) k (number_of register) ≡ Some (value_of (files k) register))
    → ReadsAs (ended auto supplied seen) (dump_from files count)
ended_back auto supplied seen files count alike number width capabilities all =
    let values : ℕ → ℕ → Option ℕ = values_of supplied (findings_of seen) in
    let hints : ℕ → Option ℕ = hint_of supplied (findings_of seen) in
    let lines : missing_lines hints values (processors seen.readings) (needed (values 0 0xfe)) ≡ [] =
    ap (λ n. missing_lines hints values n (needed (values 0 0xfe))) number ∙ nothing_missing values files count alike all hints capabilities in
    let none : missing_of supplied (findings_of seen) ≡ [] =
    ap (λ (w : Option ℕ). missing_width w (widest (masks_in supplied (slot_shown seen.readings 0) 32)) ++ missing_lines hints values (processors seen.readings) (needed (values 0 0xfe))) width ∙ lines in
    by_parts (summary_of auto supplied (findings_of seen) seen.tally) (files 0) (first_files files count) count (files_back values files count alike all count (omega arith)) none number width (capabilities 0 alike.some)

-- ---- one value

module _ (supplied : Supplied) (seen : Seen) (k : ℕ) where
  -- lines show all of the processor's register
  pub by_lines : (number value : ℕ) → Holds (slot_shown seen.readings k number) value → values_of supplied (findings_of seen) k number ≡ Some value
  by_lines number value holds = value_is supplied (findings_of seen) k number ∙ by
    where
      by : or_supplied (firm_value supplied (slot_shown seen.readings k) number) (assumed_value (assumed_of k supplied.assumed) (slot_shown seen.readings k) (known_by supplied (findings_of seen)) number) ≡ Some value
      by = rw (holds.fresh, holds.shows) refl

  -- a word gives the register, and lines show no other bits
  pub by_word : (number value : ℕ) → IsKnown (slot_shown seen.readings k number) value → value < 2 ^ 64 → supplied_value supplied number ≡ Some value
      → values_of supplied (findings_of seen) k number ≡ Some value
  by_word number value known fits given =
      value_is supplied (findings_of seen) k number
      ∙ by ((slot_shown seen.readings k number).fresh == all_bits) refl
    where
      by : (test : Bool) → ((slot_shown seen.readings k number).fresh == all_bits) ≡ test
          → or_supplied (or_supplied (if test then Some (slot_shown seen.readings k number).value else None) (or_supplied (supplied_value supplied number) (disabled_value (slot_shown seen.readings k) number)))
          (assumed_value (assumed_of k supplied.assumed) (slot_shown seen.readings k) (known_by supplied (findings_of seen)) number)
          ≡ Some value
      by true whole = ap Some (whole_slot (slot_shown seen.readings k number) value known fits (eqb-true (slot_shown seen.readings k number).fresh all_bits whole)).shows
      by false part = rw given refl

-- ---- the width

-- a word gives the width, and lines show no other
width_by_word : (files : ℕ → RegisterFile) (count : ℕ) (prints : Prints) (supplied : Supplied) (slots : Slots) (shown : Option ℕ) → supplied.width ≡ Some (files 0).width → IsWidth files count prints shown → width_by supplied slots shown ≡ Some (files 0).width
width_by_word files count prints supplied slots None given same = ap (λ width. or_supplied width (assumed_width supplied (slots 0))) given
width_by_word files count prints supplied slots (Some width) given same = ap Some same

-- a line shows it
width_gathers : (files : ℕ → RegisterFile) (count : ℕ) (prints : Prints) (facts : List Fact) (seen : Seen) (place : Place) → AllByRecursion (IsSound files count prints) facts
    → IsAmong (is_width (files 0).width place) facts ⊎ (seen.width ≡ Some (files 0).width) → (seen_after seen facts).width ≡ Some (files 0).width
width_gathers files count prints [] seen place sound (inl fact) = absurd fact
width_gathers files count prints [] seen place sound (inr before) = before
width_gathers files count prints (fact ∷ facts) seen place sound (inl (inr later)) = width_gathers files count prints facts (seen_with seen fact) place sound.1 (inl later)
width_gathers files count prints (fact ∷ facts) seen place sound (inl (inl same)) =
    width_gathers files count prints facts (seen_with seen fact) place sound.1 (inr (subst (λ (f : Fact). (seen_with seen f).width ≡ Some (files 0).width) (sym same) refl))
width_gathers files count prints (fact ∷ facts) seen place sound (inr before) = width_gathers files count prints facts (seen_with seen fact) place sound.1 (inr (by fact sound.0))
  where
    by : (f : Fact) → IsSound files count prints f → (seen_with seen f).width ≡ Some (files 0).width
    by (is_line number format matched) true_one = before
    by (is_register_value reading) true_one = before
    by (is_width width at) true_one = ap Some true_one
    by (is_warning warning number) true_one = before
    by (is_fault fault) true_one = absurd true_one

-- words or facts give the width
abbrev pub HasWidth : RegisterFile → Supplied → List Fact → Type 0
HasWidth file supplied facts = (supplied.width ≡ Some file.width) ⊎ ((place : Place) × IsAmong (is_width file.width place) facts)

pub width_back : (files : ℕ → RegisterFile) (count : ℕ) (prints : Prints) (supplied : Supplied) (slots : Slots) (facts : List Fact) (seen : Seen) → AllByRecursion (IsSound files count prints) facts → IsWidth files count prints (seen_after seen facts).width
    → HasWidth (files 0) supplied facts → width_by supplied slots (seen_after seen facts).width ≡ Some (files 0).width
width_back files count prints supplied slots facts seen sound is (inl given) = width_by_word files count prints supplied slots (seen_after seen facts).width given is
width_back files count prints supplied slots facts seen sound is (inr shown) = ap (width_by supplied slots) (width_gathers files count prints facts seen shown.0 sound (inl shown.1))
