-- What a reader keeps when it takes one more line.
use Rattle.std.proofs.Common.{◌≡◌, ◌≢◌, ◌≤◌, ◌<◌, ◌+◌, ◌-◌, ℕ, Bool, true, false, not, ◌==◌, ◌&&◌, nat_lt, List, [], ◌∷◌, ◌++◌, length, replicate, Option, Some, None, refl, sym, ◌∙◌, ap, arith, slice_set, inl, inr}
use Rattle.std.specs.Prelude.{Ok, Err, is_some, map, ok_or, option_to_list, ◌⊎◌, if◌then◌else◌}
use Rattle.std.specs.List.{slice_index_or}
use Rattle.std.specs.Option.{option_map}
use Rattle.std.proofs.lemmas.Bool.{cases_Bool, eqb-true, eqb-false}
use Rattle.std.proofs.lemmas.List.{length-append, get_or-set_other, length-replicate, get_or-replicate, append-nil}
use Rattle.std.proofs.lemmas.Grind.{get_or-set_at}
use Rattle.std.proofs.Math.ListN.{length-set}
use Rattle.std.proofs.lemmas.Bool.Decides.{nat_tests}
use Rattle.mt_text.specs.declared.place.Place.{Place}
use Rattle.mt_regs.specs.RegisterFile.{RegisterFile, low_byte, blank_file}
use Rattle.mt_regs.specs.Registers.{value_of, with_value, register_of, written}
use Rattle.mt_regs.specs.declared.registers.Register as register
use Rattle.mt_regs.proofs.ByNumber.{register_of-range}
use Rattle.mt_dump.specs.Line.{Reading, fault_at}
use Rattle.mt_dump.specs.Dumps.{IsDump}
use Rattle.mt_dump.specs.Dump.{given, widths, section_numbers, section_count, times, is_given, value_given, is_writable, width_of, version_of, is_later, is_outside, up_to_section, first_section, first_width, offence_of}
use Rattle.mt_dump.specs.Reader.{HasRead, State, file_in, files_in, with_width, read_from}
use Rattle.mt_dump.proofs.Readings.{value_given-stands}
use Rattle.mt_dump.proofs.Sections.{first_early, first_late, early_present, same_widths, section_counts}
use Rattle.mt_dump.proofs.Present.{StandsNow, Leads, clean_stands, clean_widths, positive}
use Rattle.mt_dump.proofs.Stands.{some_section, clean_is_dump, dump_from}
use Rattle.mt_dump.proofs.Complete.{section_none}
use Rattle.mt_dump.specs.declared.fault.DumpReason.TheVariants.{UnknownRegister, Repeated, NoCap, Differs}
use Rattle.mt_dump.specs.declared.said.Said.TheVariants.{Nothing, Version, Section, Width, Register}

pub holds_new : HasRead (record { version = 1; spoken = false; sections = 0; files = []; file = None; width = 36; has_width = false; width_given = false; has_capabilities = false; marks = replicate 256 false }) []
holds_new = record {
  clean = tt;
  version_is = refl;
  spoken_is = refl;
  sections_is = refl;
  files_is = refl;
  file_is = refl;
  width_is = refl;
  has_width_is = refl;
  width_given_is = refl;
  has_capabilities_is = refl;
  size = length-replicate 256 false;
  marked = λ number from below. get_or-replicate 256 (number - 0x200) false false (omega arith);
}

-- the widths of a reader
pub width_bounds : (state : State) (before : List Reading) → HasRead state before → (32 ≤ state.width) × (state.width ≤ 52)
width_bounds state before holds = let facts = clean_widths before holds.clean in rw holds.width_is (facts.wide, facts.narrow)

pub holds_nothing : (state : State) (before : List Reading) → HasRead state before → HasRead state (Ok Nothing ∷ before)
holds_nothing state before holds = record {
  clean = (tt, refl, holds.clean);
  version_is = holds.version_is;
  spoken_is = holds.spoken_is;
  sections_is = holds.sections_is;
  files_is = holds.files_is;
  file_is = holds.file_is;
  width_is = holds.width_is ∙ ap width_of (sym (same_widths (Ok Nothing) before refl (inl refl)));
  has_width_is = holds.has_width_is;
  width_given_is = holds.width_given_is;
  has_capabilities_is = holds.has_capabilities_is;
  size = holds.size;
  marked = holds.marked;
}

-- ---- the version

pub holds_version : (state : State) (before : List Reading) (version : ℕ) (place : Place) → HasRead state before → state.spoken ≡ false → 1 ≤ version → version ≤ 2
    → HasRead (record state { version = version; spoken = true }) (Ok (Version version place) ∷ before)
holds_version state before version place holds silent least most = record {
  clean = ((least, most), rw (sym holds.spoken_is ∙ silent) refl, holds.clean);
  version_is = refl;
  spoken_is = refl;
  sections_is = holds.sections_is;
  files_is = holds.files_is;
  file_is = holds.file_is;
  width_is = holds.width_is ∙ ap width_of (sym (same_widths (Ok (Version version place)) before refl (inl refl)));
  has_width_is = holds.has_width_is;
  width_given_is = holds.width_given_is;
  has_capabilities_is = holds.has_capabilities_is;
  size = holds.size;
  marked = holds.marked;
}

-- ---- a section

equal_test : (n m : ℕ) → n ≡ m → (n == m) ≡ true
equal_test n m e = grind (arith, nat_tests, e)

-- a section before which no file ended
pub holds_first_section : (state : State) (before : List Reading) (number : ℕ) (place : Place) → HasRead state before → state.version ≡ 2 → number ≡ state.sections → number ≡ 0
    → HasRead (record state { spoken = true; sections = state.sections + 1; has_width = false; has_capabilities = false; marks = replicate 256 false }) (Ok (Section number place) ∷ before)
holds_first_section state before number place holds two same zero =
    let equal : number ≡ section_count before = same ∙ holds.sections_is in
    let none : section_count before ≡ 0 = sym equal ∙ zero in
    let version : version_of before ≡ 2 = sym holds.version_is ∙ two in
    let least : nat_lt 0 number ≡ false = rw zero refl in
    let clean = section_none (version_of before == 2) (number == section_count before) (nat_lt 0 number) (is_given 0xfe (first_section before)) _ _ (equal_test _ _ version) (equal_test _ _ equal) (inl least) in
    let no_file = nothing_yet (file_in before) (clean_stands before holds.clean) none version in
    record {
      clean = (omega (arith, zero), clean, holds.clean);
      version_is = holds.version_is;
      spoken_is = refl;
      sections_is = let e = holds.sections_is in omega (arith, e);
      files_is = holds.files_is ∙ sym (ap (λ f. files_in before ++ map (λ file. with_width file (first_width before)) (option_to_list f)) no_file ∙ append-nil (files_in before));
      file_is = holds.file_is ∙ no_file ∙ sym (ap (option_map (λ (f : RegisterFile). blank_file 36 f.capabilities)) no_file);
      width_is = holds.width_is ∙ ap width_of (sym (same_widths (Ok (Section number place)) before refl (section_counts before number place)));
      has_width_is = refl;
      width_given_is = holds.width_given_is;
      has_capabilities_is = refl;
      size = length-replicate 256 false;
      marked = λ n from below. get_or-replicate 256 (n - 0x200) false false (omega arith);
    }
  where
    nothing_yet : (found : Option RegisterFile) → Leads before found → section_count before ≡ 0 → version_of before ≡ 2 → found ≡ None
    nothing_yet None leads none version = refl
    nothing_yet (Some file) now none version = absurd (some_section before file holds.clean version now (empty (section_numbers before) none))
      where
        empty : (ns : List ℕ) → length ns ≡ 0 → ns ≡ []
        empty [] none = refl
        empty (n ∷ ns) none = absurd (omega (arith, none))

-- a section after another, whose file ends
pub holds_next_section : (state : State) (before : List Reading) (number : ℕ) (place : Place) (file ended next : RegisterFile) (files : List RegisterFile) → HasRead state before → state.version ≡ 2 → number ≡ state.sections → number ≤ 15 → state.file ≡ Some file
    → ended ≡ with_width file state.width → next ≡ blank_file 36 file.capabilities → files ≡ state.files ++ ended ∷ []
    → HasRead (record state { spoken = true; sections = state.sections + 1; files = files; file = Some next; has_width = false; has_capabilities = false; marks = replicate 256 false }) (Ok (Section number place) ∷ before)
holds_next_section state before number place file ended next files holds two same few is ended_is next_is files_are =
    let led : file_in before ≡ Some file = sym holds.file_is ∙ is in
    let now : StandsNow before file = rw led at (clean_stands before holds.clean) in
    let version : version_of before ≡ 2 = sym holds.version_is ∙ two in
    let equal : number ≡ section_count before = same ∙ holds.sections_is in
    record {
      clean = (few, clean version equal now.told (nat_lt 0 number), holds.clean);
      version_is = holds.version_is;
      spoken_is = refl;
      sections_is = let e = holds.sections_is in omega (arith, e);
      files_is = rw (files_are, ended_is, holds.files_is, holds.width_is, led) refl;
      file_is = rw (led, next_is) refl;
      width_is = holds.width_is ∙ ap width_of (sym (same_widths (Ok (Section number place)) before refl (section_counts before number place)));
      has_width_is = refl;
      width_given_is = holds.width_given_is;
      has_capabilities_is = refl;
      size = length-replicate 256 false;
      marked = λ n from below. get_or-replicate 256 (n - 0x200) false false (omega arith);
    }
  where
    clean : version_of before ≡ 2 → number ≡ section_count before → is_given 0xfe (first_section before) ≡ true → (late : Bool) → offence_of before (Ok (Section number place)) ≡ None
    clean version equal told late = section_none (version_of before == 2) (number == section_count before) (nat_lt 0 number) (is_given 0xfe (first_section before)) _ _ (equal_test _ _ version) (equal_test _ _ equal) (inr told)

pub section_too_early : (state : State) (before : List Reading) (number : ℕ) (place : Place) → HasRead state before → state.version ≡ 2 → number ≡ state.sections → 0 < number → state.file ≡ None
    → offence_of before (Ok (Section number place)) ≡ Some (fault_at NoCap place)
section_too_early state before number place holds two same some is =
    let leads = rw (sym holds.file_is ∙ is) at (clean_stands before holds.clean) in
    let none : is_given 0xfe (first_section before) ≡ false = rw (first_early before leads.1, leads.0) refl in
    let version = equal_test (version_of before) 2 (sym holds.version_is ∙ two) in
    let counted = equal_test number (section_count before) (same ∙ holds.sections_is) in
    rw (version, counted, positive number some, none) refl

-- there is room for a file that ends
pub few_files : (state : State) (before : List Reading) (file : RegisterFile) → HasRead state before → state.file ≡ Some file → length state.files ≤ 15
few_files state before file holds is =
    let led : file_in before ≡ Some file = sym holds.file_is ∙ is in
    let dump = (clean_is_dump before (record { version = version_of before; files = files_in before ++ with_width file (first_width before) ∷ [] }) holds.clean (ap (dump_from before) led)).few in
    rw holds.files_is (let e = rw (length-append (files_in before) (with_width file (first_width before) ∷ [])) at dump in omega (arith, e))

-- ---- the width

pub holds_width : (state : State) (before : List Reading) (width : ℕ) (first second : Place) → HasRead state before → is_outside before ≡ false → (nat_lt 1 state.sections && not (width == state.width)) ≡ false → state.has_width ≡ false → 32 ≤ width → width ≤ 52
    → HasRead (record state { spoken = true; width = width; has_width = true; width_given = true }) (Ok (Width width first second) ∷ before)
holds_width state before width first second holds inside same none wide narrow =
    let passed : (is_later before && not (width == first_width before)) ≡ false = rw (holds.sections_is, holds.width_is) at same in
    let fresh = sym holds.has_width_is ∙ none in
    let one : nat_lt 0 (length (width ∷ widths (up_to_section before))) ≡ true = positive (length (width ∷ widths (up_to_section before))) (omega arith) in
    record {
      clean = ((wide, narrow), rw (inside, passed, fresh) refl, holds.clean);
      version_is = holds.version_is;
      spoken_is = refl;
      sections_is = holds.sections_is;
      files_is = holds.files_is;
      file_is = holds.file_is;
      width_is = told (cases_Bool (is_later before)) passed;
      has_width_is = sym one;
      width_given_is = sym (positive (length (width ∷ widths before)) (omega arith));
      has_capabilities_is = holds.has_capabilities_is;
      size = holds.size;
      marked = holds.marked;
    }
  where
    equal : (later test : Bool) → (later && not test) ≡ false → later ≡ true → test ≡ true
    equal true true none late = refl
    equal true false none late = cc none
    equal false test none late = cc late

    told : ((is_later before ≡ true) ⊎ (is_later before ≡ false)) → (is_later before && not (width == first_width before)) ≡ false → width ≡ first_width (Ok (Width width first second) ∷ before)
    told (inl late) passed =
        eqb-true _ _ (equal (is_later before) (width == first_width before) passed late) ∙ ap (λ says. width_of (widths says)) (sym (first_late (Ok (Width width first second)) before late))
    told (inr early) passed = ap (λ says. width_of (widths says)) (sym (first_early (Ok (Width width first second) ∷ before) early))

pub differing_width : (state : State) (before : List Reading) (width : ℕ) (first second : Place) → HasRead state before → is_outside before ≡ false → (nat_lt 1 state.sections && not (width == state.width)) ≡ true
    → offence_of before (Ok (Width width first second)) ≡ Some (fault_at Differs second)
differing_width state before width first second holds inside test =
    let differs : (is_later before && not (width == first_width before)) ≡ true = rw (holds.sections_is, holds.width_is) at test in
    rw (inside, differs) refl

pub repeated_width : (state : State) (before : List Reading) (width : ℕ) (first second : Place) → HasRead state before → is_outside before ≡ false → (nat_lt 1 state.sections && not (width == state.width)) ≡ false → state.has_width ≡ true
    → offence_of before (Ok (Width width first second)) ≡ Some (fault_at Repeated first)
repeated_width state before width first second holds inside test again =
    let same : (is_later before && not (width == first_width before)) ≡ false = rw (holds.sections_is, holds.width_is) at test in
    let more = sym holds.has_width_is ∙ again in
    rw (inside, same, more) refl

-- ---- 0FEH

pub holds_first_capabilities : (state : State) (before : List Reading) (value : ℕ) (first second : Place) → HasRead state before → is_outside before ≡ false → state.file ≡ None → low_byte value ≤ 32
    → HasRead (record state { spoken = true; file = Some (blank_file 36 value); has_capabilities = true }) (Ok (Register 0xfe value first second) ∷ before)
holds_first_capabilities state before value first second holds inside is few =
    let led : file_in before ≡ None = sym holds.file_is ∙ is in
    let leads = rw led at (clean_stands before holds.clean) in
    let none : given (up_to_section before) ≡ [] = (early_present before holds.clean leads.1).0 ∙ leads.0 in
    record {
      clean = (λ same. few, rw (inside, leads.1, none) refl, holds.clean);
      version_is = holds.version_is;
      spoken_is = refl;
      sections_is = holds.sections_is;
      files_is = holds.files_is;
      file_is = rw led refl;
      width_is = holds.width_is ∙ ap width_of (sym (same_widths (Ok (Register 0xfe value first second)) before refl (inl refl)));
      has_width_is = holds.has_width_is;
      width_given_is = holds.width_given_is;
      has_capabilities_is = rw none refl;
      size = holds.size;
      marked = λ number from below. let apart : (0xfe == number) ≡ false = grind (arith, nat_tests) in rw apart (holds.marked number from below);
    }

module _ (state : State) (before : List Reading) (value : ℕ) (first second : Place) (file : RegisterFile) (holds : HasRead state before) (inside : is_outside before ≡ false) (is : state.file ≡ Some file) where
  led : file_in before ≡ Some file
  led = sym holds.file_is ∙ is

  now : StandsNow before file
  now = rw led at (clean_stands before holds.clean)

  value_test : (nat_lt 1 state.sections && not (value == file.capabilities)) ≡ (is_later before && true && not (value == value_given 0xfe (given (first_section before))))
  value_test = rw (holds.sections_is, now.known) (with_true (is_later before) (not (value == file.capabilities)))
    where
      with_true : (b c : Bool) → (b && c) ≡ (b && true && c)
      with_true true c = refl
      with_true false c = refl

  pub differing_capabilities : (nat_lt 1 state.sections && not (value == file.capabilities)) ≡ true → offence_of before (Ok (Register 0xfe value first second)) ≡ Some (fault_at Differs second)
  differing_capabilities test = let differs = sym value_test ∙ test in rw (inside, differs) refl

  pub repeated_capabilities : (nat_lt 1 state.sections && not (value == file.capabilities)) ≡ false → state.has_capabilities ≡ true → offence_of before (Ok (Register 0xfe value first second)) ≡ Some (fault_at Repeated first)
  repeated_capabilities test again =
      let same = sym value_test ∙ test in
      let more = sym holds.has_capabilities_is ∙ again in
      rw (inside, same, more) refl

  pub holds_capabilities : (nat_lt 1 state.sections && not (value == file.capabilities)) ≡ false → state.has_capabilities ≡ false → low_byte value ≤ 32
      → HasRead (record state { spoken = true; has_capabilities = true }) (Ok (Register 0xfe value first second) ∷ before)
  holds_capabilities test fresh few =
      let same = sym value_test ∙ test in
      let none = sym holds.has_capabilities_is ∙ fresh in
      let one : nat_lt 0 (times 0xfe (given (up_to_section before)) + 1) ≡ true = positive (times 0xfe (given (up_to_section before)) + 1) (omega arith) in
      record {
        clean = (λ e. few, rw (inside, same, none) refl, holds.clean);
        version_is = holds.version_is;
        spoken_is = refl;
        sections_is = holds.sections_is;
        files_is = holds.files_is;
        file_is = is ∙ rw led refl;
        width_is = holds.width_is ∙ ap width_of (sym (same_widths (Ok (Register 0xfe value first second)) before refl (inl refl)));
        has_width_is = holds.has_width_is;
        width_given_is = holds.width_given_is;
        has_capabilities_is = sym one;
        size = holds.size;
        marked = λ number from below. let apart : (0xfe == number) ≡ false = grind (arith, nat_tests) in rw apart (holds.marked number from below);
      }

-- ---- any other register

pub no_capabilities : (state : State) (before : List Reading) (number value : ℕ) (first second : Place) → HasRead state before → is_outside before ≡ false → state.file ≡ None → (number == 0xfe) ≡ false
    → offence_of before (Ok (Register number value first second)) ≡ Some (fault_at NoCap first)
no_capabilities state before number value first second holds inside is other =
    let leads = rw (sym holds.file_is ∙ is) at (clean_stands before holds.clean) in
    let none : is_given 0xfe (first_section before) ≡ false = rw (first_early before leads.1, leads.0) refl in
    rw (inside, leads.1, other, none) refl

module _ (state : State) (before : List Reading) (number value : ℕ) (first second : Place) (file : RegisterFile) (holds : HasRead state before) (inside : is_outside before ≡ false) (is : state.file ≡ Some file) (other : (number == 0xfe) ≡ false) where
  found_file : file_in before ≡ Some file
  found_file = sym holds.file_is ∙ is

  standing : StandsNow before file
  standing = rw found_file at (clean_stands before holds.clean)

  same_test : is_writable number (first_section before) ≡ is_some (register_of file number)
  same_test = rw standing.known refl

  offence_is : (writable again : Bool) → is_writable number (first_section before) ≡ writable → is_given number (up_to_section before) ≡ again
      → offence_of before (Ok (Register number value first second)) ≡ (if not writable then Some (fault_at UnknownRegister first) else if again then Some (fault_at Repeated first) else None)
  offence_is writable again is_writable is_again = by (is_later before)
    where
      last : (later : Bool) → (later && false) ≡ false
      last true = refl
      last false = refl

      by : (later : Bool) → offence_of before (Ok (Register number value first second)) ≡ (if not writable then Some (fault_at UnknownRegister first) else if again then Some (fault_at Repeated first) else None)
      by later = rw (inside, other, last (is_later before), standing.told, is_writable, is_again) refl

  pub unknown : register_of file number ≡ None → offence_of before (Ok (Register number value first second)) ≡ Some (fault_at UnknownRegister first)
  unknown none = offence_is false (is_given number (up_to_section before)) (same_test ∙ rw none refl) refl

  pub unwritten : written file number value ≡ None → offence_of before (Ok (Register number value first second)) ≡ Some (fault_at UnknownRegister first)
  unwritten none = by (register_of file number) refl none
    where
      by : (found : Option register.Register) → register_of file number ≡ found → option_map (λ r. with_value file r value) found ≡ None → offence_of before (Ok (Register number value first second)) ≡ Some (fault_at UnknownRegister first)
      by None is none = unknown is
      by (Some r) is some = cc some

  pub unknown_beyond : ((0x200 ≤ number) × (number < 0x300) → ⊥) → offence_of before (Ok (Register number value first second)) ≡ Some (fault_at UnknownRegister first)
  unknown_beyond beyond = by (register_of file number) refl
    where
      by : (found : Option register.Register) → register_of file number ≡ found → offence_of before (Ok (Register number value first second)) ≡ Some (fault_at UnknownRegister first)
      by None is = unknown is
      by (Some r) is = absurd (beyond (register_of-range file number r standing.stands.is_file is))

  pub repeated : 0x200 ≤ number → number < 0x300 → slice_index_or state.marks (number - 0x200) false ≡ true → offence_of before (Ok (Register number value first second)) ≡ Some (fault_at Repeated first)
  repeated from below mark =
      let again : is_given number (up_to_section before) ≡ true = sym (holds.marked number from below) ∙ mark in
      let some : 0 < times number (given (up_to_section before)) = more (times number (given (up_to_section before))) again in
      let here = value_given-stands number (given (up_to_section before)) file some standing.stands.values in
      let hit : is_writable number (first_section before) ≡ true = same_test ∙ by (register_of file number) refl (rw other at here) in
      offence_is true true hit again
    where
      more : (n : ℕ) → nat_lt 0 n ≡ true → 0 < n
      more n test = grind (arith, nat_tests)

      by : (found : Option register.Register) → register_of file number ≡ found → option_map (value_of file) found ≡ Some (value_given number (given (up_to_section before))) → is_some (register_of file number) ≡ true
      by None is none = cc none
      by (Some r) is some = rw is refl

  some_written : (new : RegisterFile) (found : Option register.Register) → register_of file number ≡ found → option_map (λ r. with_value file r value) found ≡ Some new → is_some (register_of file number) ≡ true
  some_written new None is none = cc none
  some_written new (Some r) is some = rw is refl

  pub holds_register : (new : RegisterFile) → 0x200 ≤ number → number < 0x300 → slice_index_or state.marks (number - 0x200) false ≡ false → written file number value ≡ Some new
      → HasRead (record state { spoken = true; file = Some new; marks = slice_set state.marks (number - 0x200) true }) (Ok (Register number value first second) ∷ before)
  holds_register new from below fresh write = record {
    clean = (λ same. absurd (eqb-false _ _ other same), no_offence, holds.clean);
    version_is = holds.version_is;
    spoken_is = refl;
    sections_is = holds.sections_is;
    files_is = holds.files_is;
    file_is = rw (found_file, other) (sym write);
    width_is = holds.width_is ∙ ap width_of (sym (same_widths (Ok (Register number value first second)) before refl (inl refl)));
    has_width_is = holds.has_width_is;
    width_given_is = holds.width_given_is;
    has_capabilities_is = rw other holds.has_capabilities_is;
    size = length-set state.marks (number - 0x200) true ∙ holds.size;
    marked = λ n at_least at_most. by n at_least at_most (number == n) refl;
  }
    where
      no_offence : offence_of before (Ok (Register number value first second)) ≡ None
      no_offence =
          let hit : is_writable number (first_section before) ≡ true = same_test ∙ some_written new (register_of file number) refl write in
          let first_time : is_given number (up_to_section before) ≡ false = sym (holds.marked number from below) ∙ fresh in
          offence_is true false hit first_time

      by : (n : ℕ) → 0x200 ≤ n → n < 0x300 → (test : Bool) → (number == n) ≡ test
          → slice_index_or (slice_set state.marks (number - 0x200) true) (n - 0x200) false ≡ nat_lt 0 (times n ((number, value) ∷ given (up_to_section before)))
      by n at_least at_most true test =
          let e : number ≡ n = eqb-true _ _ test in
          let some : nat_lt 0 (times n (given (up_to_section before)) + 1) ≡ true = positive (times n (given (up_to_section before)) + 1) (omega arith) in
          rw (test, some) (get_or-set_at state.marks (number - 0x200) (n - 0x200) true false (omega arith) (omega (arith, holds.size)))
      by n at_least at_most false test =
          let apart : n - 0x200 ≢ number - 0x200 = λ same. eqb-false _ _ test (omega arith) in
          rw test (get_or-set_other state.marks (number - 0x200) (n - 0x200) true false apart ∙ holds.marked n at_least at_most)

-- ---- the end

pub read_at_end : (state : State) (before : List Reading) (place : Place) (file : RegisterFile) → HasRead state before → state.file ≡ Some file
    → Ok (record { version = state.version; files = state.files ++ with_width file state.width ∷ [] }) ≡ read_from place before []
read_at_end state before place file holds is =
    rw (holds.version_is, holds.files_is, holds.width_is)
    (ap (λ found. ok_or (dump_from before found) (fault_at NoCap place)) (sym is ∙ holds.file_is))

pub dump_at_end : (state : State) (before : List Reading) (file : RegisterFile) → HasRead state before → state.file ≡ Some file → IsDump (record { version = state.version; files = state.files ++ with_width file state.width ∷ [] })
dump_at_end state before file holds is =
    let led : file_in before ≡ Some file = sym holds.file_is ∙ is in
    rw (holds.version_is, holds.files_is, holds.width_is)
    (clean_is_dump before (record { version = version_of before; files = files_in before ++ with_width file (first_width before) ∷ [] }) holds.clean (ap (dump_from before) led))

pub no_file_at_end : (state : State) (before : List Reading) (place : Place) → HasRead state before → state.file ≡ None → Err (fault_at NoCap place) ≡ read_from place before []
no_file_at_end state before place holds is =
    ap (λ found. ok_or (dump_from before found) (fault_at NoCap place)) (sym is ∙ holds.file_is)
