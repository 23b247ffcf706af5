-- What clean lines make of the present section's file and width.
use Rattle.std.proofs.Common.{◌≡◌, ◌≢◌, ◌≤◌, ◌<◌, ℕ, suc, Bool, true, false, ◌==◌, nat_lt, List, [], ◌∷◌, length, Option, Some, None, MatchOption, refl, sym, ◌∙◌, ap, arith, inl, inr, subst}
use Rattle.std.specs.Prelude.{Ok, Err, is_some, unwrap_or, ◌⊎◌, if◌then◌else◌}
use Rattle.std.specs.List.{AllByRecursion}
use Rattle.std.specs.Option.{option_and_then, option_map}
use Rattle.std.proofs.lemmas.Bool.{cases_Bool, eqb-true, eqb-false}
use Rattle.std.proofs.lemmas.Bool.Decides.{nat_tests}
use Rattle.std.proofs.lemmas.List.{length-replicate}
use Rattle.mt_regs.specs.RegisterFile.{RegisterFile, IsRegisterFile, low_byte, blank_file}
use Rattle.mt_regs.specs.Registers.{value_at, with_value, register_of, written, ChangesOnly}
use Rattle.mt_regs.specs.declared.registers.Register as register
use Rattle.mt_regs.proofs.ByNumber.{is_file-written}
use Rattle.mt_regs.proofs.Writes.{changes_only}
use Rattle.mt_text.specs.declared.place.Place.{Place}
use Rattle.mt_dump.specs.Line.{Reading}
use Rattle.mt_dump.specs.Dump.{given, widths, section_numbers, section_count, times, is_given, value_given, is_writable, width_of, version_of, is_later, up_to_section, first_section, first_width}
use Rattle.mt_dump.specs.Reader.{IsClean, file_in, onto}
use Rattle.mt_dump.specs.declared.said.Said.TheVariants.{Nothing, Version, Section, Width, Register}
use Rattle.mt_dump.proofs.Sections.{section_passed, width_passed, register_passed, nothing_outside, first_early, first_late, early_present, same_given, same_widths, section_counts}

pub positive : (n : ℕ) → 0 < n → nat_lt 0 n ≡ true
positive n some = grind (arith, nat_tests)

-- The file is what these registers of one section give, of which the last stands first.
pub record Stands (registers : List (ℕ × ℕ)) (file : RegisterFile) : Type 0 where
  pub once : (number : ℕ) → times number registers ≤ 1
  pub values : AllByRecursion (λ register. value_at file register.0 ≡ Some register.1) registers
  pub defaults : (number : ℕ) → times number registers ≡ 0 → value_at file number ≡ value_at (blank_file file.width file.capabilities) number
  pub width : file.width ≡ 36
  pub is_file : IsRegisterFile file

-- 0FEH is given before every other register
abbrev pub IsFirst : List (ℕ × ℕ) → ℕ → Type 0
IsFirst registers capabilities = (rest : List (ℕ × ℕ)) → (others : List (ℕ × ℕ)) × (onto registers rest ≡ (0xfe, capabilities) ∷ others)

-- The file is the present section's.
pub record StandsNow (before : List Reading) (file : RegisterFile) : Type 0 where
  pub stands : Stands (given (up_to_section before)) file
  pub told : is_given 0xfe (first_section before) ≡ true
  pub known : value_given 0xfe (given (first_section before)) ≡ file.capabilities
  pub first : is_later before ≡ false → IsFirst (given (up_to_section before)) file.capabilities

pub is_blank_file : (width capabilities : ℕ) → 32 ≤ width → width ≤ 52 → low_byte capabilities ≤ 32 → IsRegisterFile (blank_file width capabilities)
is_blank_file width capabilities wide narrow few = record {
  wide = wide;
  narrow = narrow;
  few_pairs = few;
  all_pairs = length-replicate (low_byte capabilities) (0, 0);
  all_fixed = refl;
  no_fixed = λ none. refl;
}

stands_blank : (capabilities : ℕ) → low_byte capabilities ≤ 32 → Stands [] (blank_file 36 capabilities)
stands_blank capabilities few = record {
  once = λ number. omega arith;
  values = tt;
  defaults = λ number none. refl;
  width = refl;
  is_file = is_blank_file 36 capabilities (omega arith) (omega arith) few;
}

pub apart_test : (a b : ℕ) → a ≢ b → (a == b) ≡ false
apart_test a b apart = elim (cases_Bool (a == b)) [ inl hit ↦ absurd (apart (eqb-true _ _ hit)) | inr miss ↦ miss ]

-- 0FEH with the file's own value
stands_capabilities : (registers : List (ℕ × ℕ)) (file : RegisterFile) → Stands registers file → times 0xfe registers ≡ 0 → Stands ((0xfe, file.capabilities) ∷ registers) file
stands_capabilities registers file stands fresh = record {
  once = once;
  values = (refl, stands.values);
  defaults = defaults;
  width = stands.width;
  is_file = stands.is_file;
}
  where
    once : (n : ℕ) → times n ((0xfe, file.capabilities) ∷ registers) ≤ 1
    once n = elim (cases_Bool (0xfe == n)) [
      | inl hit ↦ rw hit (let e : 0xfe ≡ n = eqb-true _ _ hit in let z = rw e at fresh in omega (arith, z))
      | inr miss ↦ rw miss (stands.once n)
    ]

    defaults : (n : ℕ) → times n ((0xfe, file.capabilities) ∷ registers) ≡ 0 → value_at file n ≡ value_at (blank_file file.width file.capabilities) n
    defaults n none = elim (cases_Bool (0xfe == n)) [
      | inl hit ↦ absurd (let e = rw hit at none in omega (arith, e))
      | inr miss ↦ stands.defaults n (rw miss at none)
    ]

-- values stand after a write of another register
kept : (old new : RegisterFile) (number value : ℕ) (registers : List (ℕ × ℕ)) → ChangesOnly old new number value → times number registers ≡ 0
    → AllByRecursion (λ register. value_at old register.0 ≡ Some register.1) registers → AllByRecursion (λ register. value_at new register.0 ≡ Some register.1) registers
kept old new number value [] only none each = tt
kept old new number value (register ∷ registers) only none each = elim (cases_Bool (register.0 == number)) [
  | inl hit ↦ absurd (let e = rw hit at none in omega (arith, e))
  | inr miss ↦ (only.others register.0 (eqb-false _ _ miss) ∙ each.0, kept old new number value registers only (rw miss at none) each.1)
]

same_capabilities : (old new : RegisterFile) (number value : ℕ) → IsRegisterFile old → number ≢ 0xfe → written old number value ≡ Some new → old.capabilities ≡ new.capabilities
same_capabilities old new number value is other write = let e = (changes_only old new number value is write).others 0xfe (λ is. other (sym is)) in cc e

stands_next : (registers : List (ℕ × ℕ)) (old new : RegisterFile) (number value : ℕ) → Stands registers old → number ≢ 0xfe → times number registers ≡ 0 → written old number value ≡ Some new → Stands ((number, value) ∷ registers) new
stands_next registers old new number value stands other fresh write =
    let only = changes_only old new number value stands.is_file write in
    record {
      once = once;
      values = (only.changed, kept old new number value registers only fresh stands.values);
      defaults = λ n none. defaults n none (number == n) refl only (same_capabilities old new number value stands.is_file other write);
      width = only.width ∙ stands.width;
      is_file = is_file-written old new number value stands.is_file write;
    }
  where
    once : (n : ℕ) → times n ((number, value) ∷ registers) ≤ 1
    once n = elim (cases_Bool (number == n)) [
      | inl hit ↦ rw hit (let e : number ≡ n = eqb-true _ _ hit in let z = rw e at fresh in omega (arith, z))
      | inr miss ↦ rw miss (stands.once n)
    ]

    defaults : (n : ℕ) → times n ((number, value) ∷ registers) ≡ 0 → (test : Bool) → (number == n) ≡ test → ChangesOnly old new number value → old.capabilities ≡ new.capabilities
        → value_at new n ≡ value_at (blank_file new.width new.capabilities) n
    defaults n none true test only same = absurd (let e = rw test at none in omega (arith, e))
    defaults n none false test only same =
        let apart : n ≢ number = λ e. eqb-false _ _ test (sym e) in
        only.others n apart ∙ stands.defaults n (rw test at none) ∙ ap (λ c. value_at (blank_file old.width c) n) same

pub not_given : (number : ℕ) (says : List Reading) → is_given number says ≡ false → times number (given says) ≡ 0
not_given number says none = grind (arith, nat_tests, none)

-- a register that is writable by the file's capability value is written
written_some : (first : List Reading) (file : RegisterFile) (number value : ℕ) → value_given 0xfe (given first) ≡ file.capabilities → is_writable number first ≡ true → (new : RegisterFile) × (written file number value ≡ Some new)
written_some first file number value known test = by (register_of file number) refl (rw known at test)
  where
    by : (found : Option register.Register) → register_of file number ≡ found → is_some (register_of file number) ≡ true → (new : RegisterFile) × (written file number value ≡ Some new)
    by None is some = cc (rw is at some)
    by (Some r) is some = (with_value file r value, ap (option_map (λ r. with_value file r value)) is)

-- where there is no file nothing is given, and the present section is the first
abbrev pub Leads : List Reading → Option RegisterFile → Type 0
Leads before found = MatchOption found ((given before ≡ []) × (is_later before ≡ false)) (λ file. StandsNow before file)

-- a line that gives no register, and is no `cpu` line
same_leads : (line : Reading) (before : List Reading) (found : Option RegisterFile) → given (line ∷ before) ≡ given before → given (up_to_section (line ∷ before)) ≡ given (up_to_section before) → is_later (line ∷ before) ≡ is_later before
    → Leads before found → Leads (line ∷ before) found
same_leads line before None none now same leads = (none ∙ leads.0, same ∙ leads.1)
same_leads line before (Some file) none now same leads =
    let first = same_given line before none (inl same) in
    record {
      stands = subst (λ gs. Stands gs file) (sym now) leads.stands;
      told = ap (λ gs. nat_lt 0 (times 0xfe gs)) first ∙ leads.told;
      known = ap (value_given 0xfe) first ∙ leads.known;
      first = λ early. subst (λ gs. IsFirst gs file.capabilities) (sym now) (leads.first (sym same ∙ early));
    }

section_leads : (before : List Reading) (number : ℕ) (place : Place) (found : Option RegisterFile) → IsClean (Ok (Section number place) ∷ before) → Leads before found → Leads (Ok (Section number place) ∷ before) (option_map (λ f. blank_file 36 f.capabilities) found)
section_leads before number place None clean leads =
    let passed = section_passed before number place clean.1 in
    let none : is_given 0xfe (first_section before) ≡ false = rw (first_early before leads.1, leads.0) refl in
    (leads.0, by (section_numbers before) (counted passed.2 none))
  where
    counted : ((number ≡ 0) ⊎ (is_given 0xfe (first_section before) ≡ true)) → is_given 0xfe (first_section before) ≡ false → section_count before ≡ 0
    counted (inl zero) none = sym (section_passed before number place clean.1).1 ∙ zero
    counted (inr told) none = let e : true ≡ false = sym told ∙ none in cc e

    by : (ns : List ℕ) → length ns ≡ 0 → nat_lt 1 (length (number ∷ ns)) ≡ false
    by [] zero = refl
    by (n ∷ ns) zero = absurd (omega (arith, zero))
section_leads before number place (Some file) clean leads =
    let passed = section_passed before number place clean.1 in
    let first = same_given (Ok (Section number place)) before refl (section_counts before number place) in
    record {
      stands = stands_blank file.capabilities leads.stands.is_file.few_pairs;
      told = ap (λ gs. nat_lt 0 (times 0xfe gs)) first ∙ leads.told;
      known = ap (value_given 0xfe) first ∙ leads.known;
      first = λ early. absurd (outside passed.0 (none_before (section_numbers before) refl early));
    }
  where
    none_before : (ns : List ℕ) → section_numbers before ≡ ns → nat_lt 1 (length (number ∷ ns)) ≡ false → (section_numbers before ≡ []) × (is_later before ≡ false)
    none_before [] is early = (is, ap (λ ns. nat_lt 1 (length ns)) is)
    none_before (n ∷ ns) is early = absurd (two (length ns) early)
      where
        two : (k : ℕ) → nat_lt 1 (suc (suc k)) ≡ false → ⊥
        two k early = grind (arith, nat_tests, early)

    outside : version_of before ≡ 2 → ((section_numbers before ≡ []) × (is_later before ≡ false)) → ⊥
    outside version none =
        let nothing = nothing_outside before clean.2 version none.0 in
        let told = rw (first_early before none.1, nothing.0) at leads.told in
        cc told

-- the file that a register leads to, where the present section's file is this one
abbrev after : Option RegisterFile → ℕ → ℕ → Option RegisterFile
after found number value =
    if number == 0xfe then Some (unwrap_or found (blank_file 36 value))
    else option_and_then (λ file. written file number value) found

capabilities_leads : (before : List Reading) (value : ℕ) (first second : Place) (found : Option RegisterFile) → IsClean (Ok (Register 0xfe value first second) ∷ before) → Leads before found
    → Leads (Ok (Register 0xfe value first second) ∷ before) (after found 0xfe value)
capabilities_leads before value first second None clean leads =
    let line = Ok (Register 0xfe value first second) in
    let present_none = (early_present before clean.2 leads.1).0 ∙ leads.0 in
    let now : first_section (line ∷ before) ≡ line ∷ before = first_early (line ∷ before) leads.1 in
    let blank = stands_capabilities [] (blank_file 36 value) (stands_blank value (clean.0 refl)) refl in
    record {
      stands = subst (λ gs. Stands ((0xfe, value) ∷ gs) (blank_file 36 value)) (sym present_none) blank;
      told = rw (now, leads.0) refl;
      known = ap (λ says. value_given 0xfe (given says)) now;
      first = λ early. subst (λ gs. IsFirst ((0xfe, value) ∷ gs) value) (sym present_none) (λ rest. (rest, refl));
    }
capabilities_leads before value first second (Some file) clean leads = by (register_passed before 0xfe value first second clean.1).1
  where
    fresh : is_given 0xfe (up_to_section before) ≡ false
    fresh = (register_passed before 0xfe value first second clean.1).3

    again : is_later before ≡ false → ⊥
    again early =
        let told : is_given 0xfe (up_to_section before) ≡ true = ap (λ gs. nat_lt 0 (times 0xfe gs)) ((early_present before clean.2 early).0 ∙ ap given (sym (first_early before early))) ∙ leads.told in
        let e : true ≡ false = sym told ∙ fresh in
        cc e

    later : value ≡ value_given 0xfe (given (first_section before)) → is_later before ≡ true → StandsNow (Ok (Register 0xfe value first second) ∷ before) file
    later same late =
        let line = Ok (Register 0xfe value first second) in
        let is : value ≡ file.capabilities = same ∙ leads.known in
        let kept = first_late line before late in
        record {
          stands = subst (λ v. Stands ((0xfe, v) ∷ given (up_to_section before)) file) (sym is) (stands_capabilities (given (up_to_section before)) file leads.stands (not_given 0xfe (up_to_section before) fresh));
          told = ap (is_given 0xfe) kept ∙ leads.told;
          known = ap (λ says. value_given 0xfe (given says)) kept ∙ leads.known;
          first = λ early. let e : true ≡ false = sym late ∙ early in cc e;
        }

    by : (((0xfe == 0xfe) ≡ false) ⊎ ((is_later before ≡ false) ⊎ (value ≡ value_given 0xfe (given (first_section before))))) → StandsNow (Ok (Register 0xfe value first second) ∷ before) file
    by (inl other) = cc other
    by (inr (inl early)) = absurd (again early)
    by (inr (inr same)) = elim (cases_Bool (is_later before)) [ inl late ↦ later same late | inr early ↦ absurd (again early) ]

register_leads : (before : List Reading) (number value : ℕ) (first second : Place) (found : Option RegisterFile) → (number == 0xfe) ≡ false → IsClean (Ok (Register number value first second) ∷ before) → Leads before found
    → Leads (Ok (Register number value first second) ∷ before) (after found number value)
register_leads before number value first second None other clean leads = elim ((register_passed before number value first second clean.1).2) [
  | inl hit ↦ let e : false ≡ true = sym other ∙ hit in cc e
  | inr both ↦ let e = rw (first_early before leads.1, leads.0) at both.0 in cc e
]
register_leads before number value first second (Some file) other clean leads = elim ((register_passed before number value first second clean.1).2) [
  | inl hit ↦ let e : false ≡ true = sym other ∙ hit in cc e
  | inr both ↦
      let new = written_some (first_section before) file number value leads.known both.1 in
      rw (other, new.1) (next new.0 new.1)
]
  where
    line : Reading
    line = Ok (Register number value first second)

    next : (new : RegisterFile) → written file number value ≡ Some new → StandsNow (Ok (Register number value first second) ∷ before) new
    next new write =
        let fresh = not_given number (up_to_section before) (register_passed before number value first second clean.1).3 in
        let same = same_capabilities file new number value leads.stands.is_file (eqb-false _ _ other) write in
        record {
          stands = stands_next (given (up_to_section before)) file new number value leads.stands (eqb-false _ _ other) fresh write;
          told = ap (nat_lt 0) (times_same (cases_Bool (is_later before))) ∙ leads.told;
          known = value_same (cases_Bool (is_later before)) ∙ leads.known ∙ same;
          first = λ early. subst (IsFirst ((number, value) ∷ given (up_to_section before))) same (λ rest. leads.first early ((number, value) ∷ rest));
        }
      where
        times_same : ((is_later before ≡ true) ⊎ (is_later before ≡ false)) → times 0xfe (given (first_section (Ok (Register number value first second) ∷ before))) ≡ times 0xfe (given (first_section before))
        times_same (inl late) = ap (λ says. times 0xfe (given says)) (first_late (Ok (Register number value first second)) before late)
        times_same (inr early) =
            ap (λ says. times 0xfe (given says)) (first_early (Ok (Register number value first second) ∷ before) early) ∙ rw other (ap (λ says. times 0xfe (given says)) (sym (first_early before early)))

        value_same : ((is_later before ≡ true) ⊎ (is_later before ≡ false)) → value_given 0xfe (given (first_section (Ok (Register number value first second) ∷ before))) ≡ value_given 0xfe (given (first_section before))
        value_same (inl late) = ap (λ says. value_given 0xfe (given says)) (first_late (Ok (Register number value first second)) before late)
        value_same (inr early) =
            ap (λ says. value_given 0xfe (given says)) (first_early (Ok (Register number value first second) ∷ before) early) ∙ rw other (ap (λ says. value_given 0xfe (given says)) (sym (first_early before early)))

any_register_leads : (before : List Reading) (number value : ℕ) (first second : Place) (found : Option RegisterFile) → IsClean (Ok (Register number value first second) ∷ before) → Leads before found
    → Leads (Ok (Register number value first second) ∷ before) (after found number value)
any_register_leads before number value first second found clean leads = elim (cases_Bool (number == 0xfe)) [
  | inl hit ↦ capabilities (eqb-true _ _ hit) clean
  | inr miss ↦ register_leads before number value first second found miss clean leads
]
  where
    capabilities : number ≡ 0xfe → IsClean (Ok (Register number value first second) ∷ before) → Leads (Ok (Register number value first second) ∷ before) (after found number value)
    capabilities is =
        subst (λ n. IsClean (Ok (Register n value first second) ∷ before) → Leads (Ok (Register n value first second) ∷ before) (after found n value)) (sym is)
        (λ clean. capabilities_leads before value first second found clean leads)

-- clean lines lead to the present section's file, or give no register
pub clean_stands : (before : List Reading) → IsClean before → Leads before (file_in before)
clean_stands [] clean = (refl, refl)
clean_stands (Ok Nothing ∷ before) clean = same_leads (Ok Nothing) before (file_in before) refl refl refl (clean_stands before clean.2)
clean_stands (Ok (Version version place) ∷ before) clean = same_leads (Ok (Version version place)) before (file_in before) refl refl refl (clean_stands before clean.2)
clean_stands (Ok (Section number place) ∷ before) clean = section_leads before number place (file_in before) clean (clean_stands before clean.2)
clean_stands (Ok (Width width first second) ∷ before) clean = same_leads (Ok (Width width first second)) before (file_in before) refl refl refl (clean_stands before clean.2)
clean_stands (Ok (Register number value first second) ∷ before) clean = any_register_leads before number value first second (file_in before) clean (clean_stands before clean.2)
clean_stands (Err fault ∷ before) clean = cc clean.1

-- ---- the widths

-- the widths of the present section
pub record Widths (before : List Reading) : Type 0 where
  pub few : length (widths (up_to_section before)) ≤ 1
  pub late : is_later before ≡ true → AllByRecursion (λ width. width ≡ first_width before) (widths (up_to_section before))
  pub wide : 32 ≤ first_width before
  pub narrow : first_width before ≤ 52

-- a line that gives no width, and is no `cpu` line
same_width_facts : (line : Reading) (before : List Reading) → widths (line ∷ before) ≡ widths before → widths (up_to_section (line ∷ before)) ≡ widths (up_to_section before) → is_later (line ∷ before) ≡ is_later before → Widths before → Widths (line ∷ before)
same_width_facts line before none now same facts =
    let first : first_width (line ∷ before) ≡ first_width before = ap width_of (same_widths line before none (inl same)) in
    record {
      few = rw now facts.few;
      late = λ late. rw (first, now) (facts.late (sym same ∙ late));
      wide = rw first facts.wide;
      narrow = rw first facts.narrow;
    }

pub clean_widths : (before : List Reading) → IsClean before → Widths before
clean_widths [] clean = record { few = omega arith; late = λ late. tt; wide = omega arith; narrow = omega arith }
clean_widths (Ok Nothing ∷ before) clean = same_width_facts (Ok Nothing) before refl refl refl (clean_widths before clean.2)
clean_widths (Ok (Version version place) ∷ before) clean = same_width_facts (Ok (Version version place)) before refl refl refl (clean_widths before clean.2)
clean_widths (Ok (Section number place) ∷ before) clean =
    let facts = clean_widths before clean.2 in
    let first : first_width (Ok (Section number place) ∷ before) ≡ first_width before = ap width_of (same_widths (Ok (Section number place)) before refl (section_counts before number place)) in
    record { few = omega arith; late = λ late. tt; wide = rw first facts.wide; narrow = rw first facts.narrow }
clean_widths (Ok (Width width first second) ∷ before) clean = by (clean_widths before clean.2)
  where
    line : Reading
    line = Ok (Width width first second)

    none_yet : (ws : List ℕ) → nat_lt 0 (length ws) ≡ false → ws ≡ []
    none_yet [] none = refl
    none_yet (w ∷ ws) none = let e : true ≡ false = sym (positive (length (w ∷ ws)) (omega arith)) ∙ none in cc e

    by : Widths before → Widths (Ok (Width width first second) ∷ before)
    by facts =
        let passed = width_passed before width first second clean.1 in
        let none = none_yet (widths (up_to_section before)) passed.2 in
        record {
          few = rw none (omega arith);
          late = λ late. rw none (late_width late passed.1, tt);
          wide = (bounds facts (cases_Bool (is_later before))).0;
          narrow = (bounds facts (cases_Bool (is_later before))).1;
        }
      where
        late_width : is_later before ≡ true → ((is_later before ≡ false) ⊎ (width ≡ first_width before)) → width ≡ first_width (Ok (Width width first second) ∷ before)
        late_width late (inl early) = let e : true ≡ false = sym late ∙ early in cc e
        late_width late (inr same) = same ∙ ap (λ says. width_of (widths says)) (sym (first_late (Ok (Width width first second)) before late))

        bounds : Widths before → ((is_later before ≡ true) ⊎ (is_later before ≡ false)) → (32 ≤ first_width (Ok (Width width first second) ∷ before)) × (first_width (Ok (Width width first second) ∷ before) ≤ 52)
        bounds facts (inl late) = rw (first_late (Ok (Width width first second)) before late) (facts.wide, facts.narrow)
        bounds facts (inr early) = rw (first_early (Ok (Width width first second) ∷ before) early) (clean.0.0, clean.0.1)
clean_widths (Ok (Register number value first second) ∷ before) clean = same_width_facts (Ok (Register number value first second)) before refl refl refl (clean_widths before clean.2)
clean_widths (Err fault ∷ before) clean = cc clean.1
