-- The dump that clean lines lead to.
use Rattle.std.proofs.Common.{◌≡◌, ◌≢◌, ◌≤◌, ◌<◌, ◌+◌, ℕ, suc, true, false, ◌==◌, nat_lt, List, [], ◌∷◌, ◌++◌, length, Option, Some, None, refl, sym, ◌∙◌, ap, arith, inl, inr, subst}
use Rattle.std.specs.Prelude.{Ok, Err, is_ok, map, option_map, option_to_list, slice_index_or, ◌⊎◌, if◌then◌else◌}
use Rattle.std.specs.List.{AllByRecursion, list_all}
use Rattle.std.proofs.lemmas.Bool.{cases_Bool, eqb-true}
use Rattle.std.proofs.lemmas.Bool.Decides.{nat_tests}
use Rattle.std.proofs.lemmas.List.{length-append}
use Rattle.mt_regs.specs.RegisterFile.{RegisterFile, IsRegisterFile, blank_file}
use Rattle.mt_regs.specs.Registers.{value_at}
use Rattle.mt_regs.proofs.ByNumber.{same_file}
use Rattle.mt_text.specs.declared.place.Place.{Place}
use Rattle.mt_dump.specs.Line.{Reading}
use Rattle.mt_dump.specs.Dumps.{Dump, IsDump, dump_of, first_of}
use Rattle.mt_dump.specs.Dump.{given, widths, versions, section_numbers, section_count, times, is_given, value_given, width_of, version_of, is_later, first_section, first_width, behind_first, up_to_section, behind_sections, sections_in, sections_of, ShowsSection, ShowsFirst, ShowsLater, ShowAll, ShowAllLater, ShownBy, count_from}
use Rattle.mt_dump.specs.Reader.{IsSane, IsClean, file_in, files_in, dump_in, with_width, onto, done_in, done_next}
use Rattle.mt_dump.specs.declared.said.Said.TheVariants.{Nothing, Version, Section, Width, Register}
use Rattle.mt_dump.proofs.Readings.{times-onto, given-onto, widths-onto, numbers-onto, good_onto, all_onto, clean_good, value_given-stands}
use Rattle.mt_dump.proofs.Sections.{section_passed, nothing_outside, sections_are_told, known_version, same_version, clean_first, clean_numbers, numbers_up, first_early, first_late, early_present, same_given, same_widths, section_counts, nothing_inside, sections_whole}
use Rattle.mt_dump.proofs.Present.{StandsNow, Leads, Widths, clean_stands, clean_widths}
pub use Rattle.mt_dump.proofs.Present.{positive}

-- a list of one at most is the same the other way round
short_onto : (ws : List ℕ) → length ws ≤ 1 → onto ws [] ≡ ws
short_onto [] few = refl
short_onto (w ∷ []) few = refl
short_onto (w ∷ v ∷ ws) few = absurd (omega arith)

-- the present section shows its file, with the width
module _ (before : List Reading) (clean : IsClean before) (file : RegisterFile) (now : StandsNow before file) where
  facts : Widths before
  facts = clean_widths before clean

  present_widths : widths (onto (up_to_section before) []) ≡ widths (up_to_section before)
  present_widths = widths-onto (up_to_section before) [] ∙ short_onto (widths (up_to_section before)) facts.few

  shows_section : ShowsSection (onto (up_to_section before) []) (with_width file (first_width before))
  shows_section = record {
    once = λ number. rw (given-onto (up_to_section before) [], times-onto number (given (up_to_section before)) []) (omega (arith, now.stands.once number));
    one_width = rw present_widths facts.few;
    values = rw (given-onto (up_to_section before) []) (all_onto (λ register. value_at file register.0 ≡ Some register.1) (given (up_to_section before)) [] now.stands.values tt);
    defaults = λ number none. now.stands.defaults number (let e = rw (given-onto (up_to_section before) [], times-onto number (given (up_to_section before)) []) at none in omega (arith, e));
    is_file = with_width_of now.stands.is_file;
  }
    where
      with_width_of : IsRegisterFile file → IsRegisterFile (with_width file (first_width before))
      with_width_of is = record { wide = facts.wide; narrow = facts.narrow; few_pairs = is.few_pairs; all_pairs = is.all_pairs; all_fixed = is.all_fixed; no_fixed = is.no_fixed }

  shows_first : is_later before ≡ false → ShowsFirst (onto (up_to_section before) []) (with_width file (first_width before))
  shows_first early =
      let first = now.first early [] in
      let same : widths (first_section before) ≡ widths (onto (up_to_section before) []) = ap widths (first_early before early) ∙ sym ((early_present before clean early).1) ∙ sym present_widths in
      record {
        section = shows_section;
        capabilities = (first.0, given-onto (up_to_section before) [] ∙ first.1);
        width = ap width_of same;
      }

  shows_later : (first : RegisterFile) → is_later before ≡ true → first.width ≡ first_width before → first.capabilities ≡ value_given 0xfe (given (first_section before)) → ShowsLater first (onto (up_to_section before) []) (with_width file (first_width before))
  shows_later first late width_is capabilities_is = record {
    section = shows_section;
    same_widths = rw present_widths (subst (λ w. AllByRecursion (λ width. width ≡ w) (widths (up_to_section before))) (sym width_is) (facts.late late));
    width = sym width_is;
    capabilities = sym now.known ∙ sym capabilities_is;
  }

-- one more section
snoc_later : (first : RegisterFile) (sections : List (List Reading)) (files : List RegisterFile) (section : List Reading) (file : RegisterFile) → ShowAllLater first sections files → ShowsLater first section file
    → ShowAllLater first (sections ++ section ∷ []) (files ++ file ∷ [])
snoc_later first [] [] section file all later = (later, tt)
snoc_later first [] (f ∷ files) section file all later = absurd all
snoc_later first (s ∷ sections) [] section file all later = absurd all
snoc_later first (s ∷ sections) (f ∷ files) section file all later = (all.0, snoc_later first sections files section file all.1 later)

-- Sections show files, the first of which has this width and capability value.
pub record Shows (sections : List (List Reading)) (files : List RegisterFile) (width capabilities : ℕ) : Type 0 where
  pub all : ShowAll sections files
  pub width_is : (first_of files).width ≡ width
  pub capabilities_is : (first_of files).capabilities ≡ capabilities

snoc_all : (sections : List (List Reading)) (files : List RegisterFile) (section : List Reading) (file : RegisterFile) (width capabilities : ℕ) → Shows sections files width capabilities → ShowsLater (first_of files) section file
    → Shows (sections ++ section ∷ []) (files ++ file ∷ []) width capabilities
snoc_all [] files section file width capabilities shows later = absurd shows.all
snoc_all (s ∷ sections) [] section file width capabilities shows later = absurd shows.all
snoc_all (s ∷ sections) (f ∷ files) section file width capabilities shows later = record {
  all = (shows.all.0, snoc_later f sections files section file shows.all.1 later);
  width_is = shows.width_is;
  capabilities_is = shows.capabilities_is;
}

-- The sections behind the present one show their files.
pub record Closed (before : List Reading) : Type 0 where
  pub early : is_later before ≡ false → (done_in before ≡ []) × (files_in before ≡ [])
  pub late : is_later before ≡ true → Shows (done_in before) (files_in before) (first_width before) (value_given 0xfe (given (first_section before)))
  pub size : section_numbers before ≢ [] → suc (length (files_in before)) ≡ section_count before

-- so do they with the present one
closes : (before : List Reading) (file : RegisterFile) → IsClean before → StandsNow before file → Closed before
    → Shows (done_in before ++ onto (up_to_section before) [] ∷ []) (files_in before ++ with_width file (first_width before) ∷ []) (first_width before) (value_given 0xfe (given (first_section before)))
closes before file clean now closed = elim (cases_Bool (is_later before)) [
  | inl late ↦
      let shows = closed.late late in
      snoc_all (done_in before) (files_in before) (onto (up_to_section before) []) (with_width file (first_width before)) (first_width before) (value_given 0xfe (given (first_section before))) shows
      (shows_later before clean file now (first_of (files_in before)) late shows.width_is shows.capabilities_is)
  | inr early ↦
      let none = closed.early early in
      rw (none.0, none.1) (record { all = (shows_first before clean file now early, tt); width_is = refl; capabilities_is = sym now.known })
]

-- where a file stands in version 2 there is a section
pub some_section : (before : List Reading) (file : RegisterFile) → IsClean before → version_of before ≡ 2 → StandsNow before file → section_numbers before ≢ []
some_section before file clean two now none =
    let nothing = nothing_outside before clean two none in
    let early : is_later before ≡ false = rw none refl in
    let told = rw (first_early before early, nothing.0) at now.told in
    cc told

-- a line that is no `cpu` line
same_closed : (line : Reading) (before : List Reading) → is_later (line ∷ before) ≡ is_later before → section_numbers (line ∷ before) ≡ section_numbers before → done_in (line ∷ before) ≡ done_in before → files_in (line ∷ before) ≡ files_in before
    → Closed before → Closed (line ∷ before)
same_closed line before same numbers done files closed = record {
  early = λ early. let none = closed.early (sym same ∙ early) in (done ∙ none.0, files ∙ none.1);
  late = λ late. rw (done, files, first_late line before late) (closed.late (sym same ∙ late));
  size = λ some. rw (files, numbers) (closed.size (λ none. some (numbers ∙ none)));
}

section_closed : (before : List Reading) (number : ℕ) (place : Place) → IsClean (Ok (Section number place) ∷ before) → Closed before → Closed (Ok (Section number place) ∷ before)
section_closed before number place clean closed = by (section_numbers before) refl (file_in before) (clean_stands before clean.2) refl
  where
    two : version_of before ≡ 2
    two = (section_passed before number place clean.1).0

    line : Reading
    line = Ok (Section number place)

    -- the first section begins
    begins : (found : Option RegisterFile) → section_numbers before ≡ [] → Leads before found
        → (done_next (section_numbers before) (done_in before) (onto (up_to_section before) []) ≡ []) × (files_in before ++ map (λ file. with_width file (first_width before)) (option_to_list found) ≡ [])
    begins None none leads =
        let early : is_later before ≡ false = rw none refl in
        let files = (closed.early early).1 in
        (rw none refl, rw files refl)
    begins (Some file) none now = absurd (some_section before file clean.2 two now none)

    -- a later one begins
    goes_on : (found : Option RegisterFile) (n : ℕ) (ns : List ℕ) → section_numbers before ≡ n ∷ ns → Leads before found
        → (file : RegisterFile) × (found ≡ Some file) × StandsNow before file
    goes_on (Some file) n ns some now = (file, refl, now)
    goes_on None n ns some leads = elim ((section_passed before number place clean.1).2) [
      | inl zero ↦ absurd (let e : number ≡ suc (length ns) = (section_passed before number place clean.1).1 ∙ ap length some in omega (arith, e, zero))
      | inr told ↦ let e = rw (first_early before leads.1, leads.0) at told in cc e
    ]

    by : (ns : List ℕ) → section_numbers before ≡ ns → (found : Option RegisterFile) → Leads before found → file_in before ≡ found → Closed (Ok (Section number place) ∷ before)
    by [] none found leads is =
        let begin = begins found none leads in
        record {
          early = λ early. (begin.0, rw is begin.1);
          late = λ late. let e : false ≡ true = ap (λ ns. nat_lt 1 (length (number ∷ ns))) (sym none) ∙ late in cc e;
          size = λ some. rw (is, begin.1, none) refl;
        }
    by (n ∷ ns) some found leads is =
        let next = goes_on found n ns some leads in
        let led : file_in before ≡ Some next.0 = is ∙ next.1 in
        let first = same_given (Ok (Section number place)) before refl (section_counts before number place) in
        let width = same_widths (Ok (Section number place)) before refl (section_counts before number place) in
        let shows = closes before next.0 clean.2 next.2 closed in
        record {
          early = λ early. absurd (two_at_least (length ns) (ap (λ ns. nat_lt 1 (length (number ∷ ns))) (sym some) ∙ early));
          late = λ late. rw (led, first, width, some) shows;
          size = λ any. rw (led, length-append (files_in before) (with_width next.0 (first_width before) ∷ [])) (let e = closed.size (λ none. let e : n ∷ ns ≡ [] = sym some ∙ none in cc e) in omega (arith, e));
        }
      where
        two_at_least : (k : ℕ) → nat_lt 1 (suc (suc k)) ≡ false → ⊥
        two_at_least k early = grind (arith, nat_tests, early)

pub clean_closed : (before : List Reading) → IsClean before → Closed before
clean_closed [] clean = record { early = λ early. (refl, refl); late = λ late. cc late; size = λ some. absurd (some refl) }
clean_closed (Ok Nothing ∷ before) clean = same_closed (Ok Nothing) before refl refl refl refl (clean_closed before clean.2)
clean_closed (Ok (Version version place) ∷ before) clean = same_closed (Ok (Version version place)) before refl refl refl refl (clean_closed before clean.2)
clean_closed (Ok (Section number place) ∷ before) clean = section_closed before number place clean (clean_closed before clean.2)
clean_closed (Ok (Width width first second) ∷ before) clean = same_closed (Ok (Width width first second)) before refl refl refl refl (clean_closed before clean.2)
clean_closed (Ok (Register number value first second) ∷ before) clean = same_closed (Ok (Register number value first second)) before refl refl refl refl (clean_closed before clean.2)
clean_closed (Err fault ∷ before) clean = cc clean.1

-- ---- the dump that clean lines lead to is shown by them

shown_file : (before : List Reading) (file : RegisterFile) → IsClean before → StandsNow before file
    → ShownBy (onto before []) (record { version = version_of before; files = files_in before ++ with_width file (first_width before) ∷ [] })
shown_file before file clean now =
    let closed = clean_closed before clean in
    record {
      good = good_onto before [] (clean_good before clean) refl;
      version = sym (same_version before clean);
      told_first = clean_first before clean;
      numbers = numbers-onto before [] ∙ numbers closed (known_version before clean);
      inside = λ two. nothing_inside before [] clean (some_section before file clean two now);
      sections = rw (sections_whole before) (closes before file clean now closed).all;
    }
  where
    files : List RegisterFile
    files = files_in before ++ with_width file (first_width before) ∷ []

    numbers : Closed before → ((version_of before ≡ 1) ⊎ (version_of before ≡ 2)) → onto (section_numbers before) [] ≡ (if version_of before == 2 then count_from 0 (files_in before ++ with_width file (first_width before) ∷ []) else [])
    numbers closed (inl one) = elim (sections_are_told before clean) [
      | inl none ↦ rw (one, none) refl
      | inr two ↦ let e : 1 ≡ 2 = sym one ∙ two in cc e
    ]
    numbers closed (inr two) =
        let size = closed.size (some_section before file clean two now) in
        let all : length (files_in before ++ with_width file (first_width before) ∷ []) ≡ length (section_numbers before) = length-append (files_in before) (with_width file (first_width before) ∷ []) ∙ (omega (arith, size)) in
        rw two (numbers_up (section_numbers before) (files_in before ++ with_width file (first_width before) ∷ []) (clean_numbers before clean) all)

-- the dump that lines lead to, where the present section's file is this one
abbrev pub dump_from : List Reading → Option RegisterFile → Option Dump
dump_from before found =
    option_map
    (λ file. record { version = version_of before; files = files_in before ++ with_width file (first_width before) ∷ [] })
    found

pub clean_shown : (before : List Reading) (dump : Dump) → IsClean before → dump_in before ≡ Some dump → ShownBy (onto before []) dump
clean_shown before dump clean is = by (file_in before) (clean_stands before clean) is
  where
    by : (found : Option RegisterFile) → Leads before found → dump_from before found ≡ Some dump → ShownBy (onto before []) dump
    by None leads none = cc none
    by (Some file) now some =
        let e : record { version = version_of before; files = files_in before ++ with_width file (first_width before) ∷ [] } ≡ dump = cc some in
        subst (ShownBy (onto before [])) e (shown_file before file clean now)

-- clean lines that lead to no dump gave no register
pub nothing_led : (before : List Reading) → IsClean before → dump_in before ≡ None → given before ≡ []
nothing_led before clean is = by (file_in before) (clean_stands before clean) is
  where
    by : (found : Option RegisterFile) → Leads before found → dump_from before found ≡ None → given before ≡ []
    by None leads none = leads.0
    by (Some file) now some = cc some

pub none_given : (before : List Reading) → IsClean before → dump_in before ≡ None → is_given 0xfe (onto before []) ≡ false
none_given before clean led =
    let count : times 0xfe (given (onto before [])) ≡ 0 = ap (times 0xfe) (given-onto before [] ∙ ap (λ gs. onto gs []) (nothing_led before clean led)) in
    rw count refl

-- ---- what lines show

-- lines that show a dump gave 0FEH
fewer_up_to : (number : ℕ) (says : List Reading) → times number (given (up_to_section says)) ≤ times number (given says)
fewer_up_to number [] = omega arith
fewer_up_to number (Ok Nothing ∷ says) = fewer_up_to number says
fewer_up_to number (Ok (Version version place) ∷ says) = fewer_up_to number says
fewer_up_to number (Ok (Section n place) ∷ says) = omega arith
fewer_up_to number (Ok (Width width first second) ∷ says) = fewer_up_to number says
fewer_up_to number (Ok (Register n value first second) ∷ says) =
    let later = fewer_up_to number says in
    elim (cases_Bool (n == number)) [ inl hit ↦ rw hit (omega (arith, later)) | inr miss ↦ rw miss later ]
fewer_up_to number (Err fault ∷ says) = fewer_up_to number says

fewer_behind : (number : ℕ) (says : List Reading) (section : List Reading) (sections : List (List Reading)) → behind_sections says ≡ section ∷ sections → times number (given section) ≤ times number (given says)
fewer_behind number [] section sections is = cc is
fewer_behind number (Ok Nothing ∷ says) section sections is = fewer_behind number says section sections is
fewer_behind number (Ok (Version version place) ∷ says) section sections is = fewer_behind number says section sections is
fewer_behind number (Ok (Section n place) ∷ says) section sections is =
    let same : up_to_section says ≡ section = cc is in
    rw (← same) (fewer_up_to number says)
fewer_behind number (Ok (Width width first second) ∷ says) section sections is = fewer_behind number says section sections is
fewer_behind number (Ok (Register n value first second) ∷ says) section sections is =
    let later = fewer_behind number says section sections is in
    elim (cases_Bool (n == number)) [ inl hit ↦ rw hit (omega (arith, later)) | inr miss ↦ rw miss later ]
fewer_behind number (Err fault ∷ says) section sections is = fewer_behind number says section sections is

pub first_gives : (section : List Reading) (file : RegisterFile) → ShowsFirst section file → 0 < times 0xfe (given section)
first_gives section file shown =
    let one : times 0xfe (given section) ≡ times 0xfe ((0xfe, file.capabilities) ∷ shown.capabilities.0) = ap (times 0xfe) shown.capabilities.1 in
    omega (arith, one)

pub shown_given : (says : List Reading) (dump : Dump) → ShownBy says dump → is_given 0xfe says ≡ true
shown_given says dump shown = by (behind_sections says) refl dump.files shown.sections
  where
    by : (behind : List (List Reading)) → behind_sections says ≡ behind → (files : List RegisterFile) → ShowAll (sections_in says behind) files → is_given 0xfe says ≡ true
    by [] is [] all = absurd all
    by [] is (f ∷ files) all = positive (times 0xfe (given says)) (first_gives says f all.0)
    by (s ∷ sections) is [] all = absurd all
    by (s ∷ sections) is (f ∷ files) all =
        let some = first_gives s f all.0 in
        let less = fewer_behind 0xfe says s sections is in
        positive (times 0xfe (given says)) (omega (arith, some, less))

-- lines show one dump at most
same_section : (says : List Reading) (file other : RegisterFile) → ShowsSection says file → ShowsSection says other → file.width ≡ other.width → file.capabilities ≡ other.capabilities → file ≡ other
same_section says file other shown again widths capabilities = same_file file other shown.is_file again.is_file same_values widths
  where
    same_values : (number : ℕ) → value_at file number ≡ value_at other number
    same_values number = elim (cases_Bool (times number (given says) == 0)) [
      | inl none ↦
          let zero_times = eqb-true _ _ none in
          shown.defaults number zero_times ∙ ap (λ c. value_at (blank_file file.width c) number) capabilities ∙ sym (again.defaults number zero_times)
      | inr some ↦
          let more : 0 < times number (given says) = grind (arith, nat_tests, some) in
          value_given-stands number (given says) file more shown.values ∙ sym (value_given-stands number (given says) other more again.values)
    ]

abbrev first_value : List (ℕ × ℕ) → ℕ
first_value [] = 0
first_value (register ∷ registers) = register.1

pub one_first : (says : List Reading) (file other : RegisterFile) → ShowsFirst says file → ShowsFirst says other → file ≡ other
one_first says file other shown again = same_section says file other shown.section again.section (shown.width ∙ sym again.width) (ap first_value (sym shown.capabilities.1 ∙ again.capabilities.1))

pub one_later : (first : RegisterFile) (sections : List (List Reading)) (files others : List RegisterFile) → ShowAllLater first sections files → ShowAllLater first sections others → files ≡ others
one_later first [] [] [] shown again = refl
one_later first [] [] (g ∷ others) shown again = absurd again
one_later first [] (f ∷ files) others shown again = absurd shown
one_later first (s ∷ sections) [] others shown again = absurd shown
one_later first (s ∷ sections) (f ∷ files) [] shown again = absurd again
one_later first (s ∷ sections) (f ∷ files) (g ∷ others) shown again =
    let same : f ≡ g = same_section s f g shown.0.section again.0.section (shown.0.width ∙ sym again.0.width) (shown.0.capabilities ∙ sym again.0.capabilities) in
    ap (λ x. x ∷ files) same ∙ ap (λ xs. g ∷ xs) (one_later first sections files others shown.1 again.1)

pub one_list : (sections : List (List Reading)) (files others : List RegisterFile) → ShowAll sections files → ShowAll sections others → files ≡ others
one_list [] files others shown again = absurd shown
one_list (s ∷ sections) [] others shown again = absurd shown
one_list (s ∷ sections) (f ∷ files) [] shown again = absurd again
one_list (s ∷ sections) (f ∷ files) (g ∷ others) shown again =
    let same : f ≡ g = one_first s f g shown.0 again.0 in
    let later = subst (λ first. ShowAllLater first sections files) same shown.1 in
    ap (λ x. x ∷ files) same ∙ ap (λ xs. g ∷ xs) (one_later g sections files others later again.1)

pub shown_once : (says : List Reading) (dump other : Dump) → ShownBy says dump → ShownBy says other → dump ≡ other
shown_once says dump other shown again =
    let version = shown.version ∙ sym again.version in
    let files = one_list (sections_of says) dump.files other.files shown.sections again.sections in
    ap (λ v. let d : Dump = record { version = v; files = dump.files } in d) version ∙ ap (λ fs. let d : Dump = record { version = other.version; files = fs } in d) files

-- ---- what lines show is a dump

all_numbers : (says : List Reading) → AllByRecursion IsSane says → AllByRecursion (λ number. number ≤ 15) (section_numbers says)
all_numbers [] sane = tt
all_numbers (Ok Nothing ∷ says) sane = all_numbers says sane.1
all_numbers (Ok (Version version place) ∷ says) sane = all_numbers says sane.1
all_numbers (Ok (Section number place) ∷ says) sane = (sane.0, all_numbers says sane.1)
all_numbers (Ok (Width width first second) ∷ says) sane = all_numbers says sane.1
all_numbers (Ok (Register number value first second) ∷ says) sane = all_numbers says sane.1
all_numbers (Err fault ∷ says) sane = all_numbers says sane.1

all_versions : (says : List Reading) → AllByRecursion IsSane says → AllByRecursion (λ version. (1 ≤ version) × (version ≤ 2)) (versions says)
all_versions [] sane = tt
all_versions (Ok Nothing ∷ says) sane = all_versions says sane.1
all_versions (Ok (Version version place) ∷ says) sane = (sane.0, all_versions says sane.1)
all_versions (Ok (Section number place) ∷ says) sane = all_versions says sane.1
all_versions (Ok (Width width first second) ∷ says) sane = all_versions says sane.1
all_versions (Ok (Register number value first second) ∷ says) sane = all_versions says sane.1
all_versions (Err fault ∷ says) sane = all_versions says sane.1

pub no_more_sections : (says : List Reading) → section_numbers says ≡ [] → behind_sections says ≡ []
no_more_sections [] none = refl
no_more_sections (Ok Nothing ∷ says) none = no_more_sections says none
no_more_sections (Ok (Version version place) ∷ says) none = no_more_sections says none
no_more_sections (Ok (Section number place) ∷ says) none = cc none
no_more_sections (Ok (Width width first second) ∷ says) none = no_more_sections says none
no_more_sections (Ok (Register number value first second) ∷ says) none = no_more_sections says none
no_more_sections (Err fault ∷ says) none = no_more_sections says none

few_counted : (number : ℕ) (file : RegisterFile) (files : List RegisterFile) → AllByRecursion (λ number. number ≤ 15) (count_from number (file ∷ files)) → number + length (file ∷ files) ≤ 16
few_counted number file [] all = let e = all.0 in omega (arith, e)
few_counted number file (f ∷ files) all = let e = few_counted (number + 1) f files all.1 in omega (arith, e)

later_files : (first : RegisterFile) (sections : List (List Reading)) (files : List RegisterFile) → ShowAllLater first sections files
    → AllByRecursion IsRegisterFile files × AllByRecursion (λ file. file.width ≡ first.width) files × AllByRecursion (λ file. file.capabilities ≡ first.capabilities) files
later_files first [] [] shown = (tt, tt, tt)
later_files first [] (f ∷ files) shown = absurd shown
later_files first (s ∷ sections) [] shown = absurd shown
later_files first (s ∷ sections) (f ∷ files) shown =
    let more = later_files first sections files shown.1 in
    ((shown.0.section.is_file, more.0), (shown.0.width, more.1), (shown.0.capabilities, more.2))

pub shown_is_dump : (says : List Reading) (dump : Dump) → AllByRecursion IsSane says → ShownBy says dump → IsDump dump
shown_is_dump says dump sane shown = by (sections_of says) dump.files refl shown.sections refl
  where
    known : (vs : List ℕ) → AllByRecursion (λ version. (1 ≤ version) × (version ≤ 2)) vs → (slice_index_or vs 0 1 ≡ 1) ⊎ (slice_index_or vs 0 1 ≡ 2)
    known [] all = inl refl
    known (v ∷ vs) all = elim (cases_Bool (v == 1)) [
      | inl one ↦ inl (eqb-true _ _ one)
      | inr other ↦ inr (grind (arith, nat_tests, other, all.0.0, all.0.1))
    ]

    is_known : (dump.version ≡ 1) ⊎ (dump.version ≡ 2)
    is_known = elim (known (versions says) (all_versions says sane)) [ inl one ↦ inl (shown.version ∙ one) | inr two ↦ inr (shown.version ∙ two) ]

    numbers_at : (v : ℕ) (file : RegisterFile) (files : List RegisterFile) → dump.version ≡ v → dump.files ≡ file ∷ files → section_numbers says ≡ (if v == 2 then count_from 0 (file ∷ files) else [])
    numbers_at v file files is are = shown.numbers ∙ rw (is, are) refl

    one : (sections : List (List Reading)) (file : RegisterFile) (files : List RegisterFile) → sections_of says ≡ sections → dump.files ≡ file ∷ files → ShowAll sections (file ∷ files) → dump.version ≡ 1 → length (file ∷ files) ≡ 1
    one sections file files is are all first =
        let none : section_numbers says ≡ [] = numbers_at 1 file files first are in
        let whole : sections ≡ says ∷ [] = sym is ∙ ap (sections_in says) (no_more_sections says none) in
        alone file files (rw whole at all)
      where
        alone : (file : RegisterFile) (files : List RegisterFile) → ShowAll (says ∷ []) (file ∷ files) → length (file ∷ files) ≡ 1
        alone file [] all = refl
        alone file (f ∷ files) all = absurd all.1

    few : (file : RegisterFile) (files : List RegisterFile) → dump.files ≡ file ∷ files → ((dump.version ≡ 1) ⊎ (dump.version ≡ 2)) → (dump.version ≡ 1 → length (file ∷ files) ≡ 1) → length (file ∷ files) ≤ 16
    few file files are (inl first) alone = let e = alone first in omega (arith, e)
    few file files are (inr second) alone =
        let e = few_counted 0 file files (subst (AllByRecursion (λ number. number ≤ 15)) (numbers_at 2 file files second are) (all_numbers says sane)) in
        omega (arith, e)

    by : (sections : List (List Reading)) (files : List RegisterFile) → sections_of says ≡ sections → ShowAll sections files → dump.files ≡ files → IsDump dump
    by [] files is all are = absurd all
    by (s ∷ sections) [] is all are = absurd all
    by (s ∷ sections) (f ∷ files) is all are =
        let more = later_files f sections files all.1 in
        let alone = one (s ∷ sections) f files is are all in
        record {
          known = is_known;
          one = λ first. rw are (alone first);
          some = rw are (omega arith);
          few = rw are (few f files are is_known alone);
          are_files = rw are (all.0.section.is_file, more.0);
          one_width = rw are (refl, more.1);
          one_capabilities = rw are (refl, more.2);
        }

clean_sane : (before : List Reading) → IsClean before → AllByRecursion IsSane before
clean_sane [] clean = tt
clean_sane (line ∷ before) clean = (clean.0, clean_sane before clean.2)

pub clean_is_dump : (before : List Reading) (dump : Dump) → IsClean before → dump_in before ≡ Some dump → IsDump dump
clean_is_dump before dump clean is = shown_is_dump (onto before []) dump (all_onto IsSane before [] (clean_sane before clean) tt) (clean_shown before dump clean is)

-- ---- version 1

no_more_versions : (says : List Reading) → versions says ≡ [] → versions (behind_first says) ≡ []
no_more_versions [] none = refl
no_more_versions (Ok Nothing ∷ says) none = no_more_versions says none
no_more_versions (Ok (Version version place) ∷ says) none = cc none
no_more_versions (Ok (Section number place) ∷ says) none = none
no_more_versions (Ok (Width width first second) ∷ says) none = none
no_more_versions (Ok (Register number value first second) ∷ says) none = none
no_more_versions (Err fault ∷ says) none = none

-- lines without a version and without sections
pub one_section : (says : List Reading) (file : RegisterFile) → list_all is_ok says ≡ true → versions says ≡ [] → section_numbers says ≡ [] → ShowsFirst says file → ShownBy says (dump_of file)
one_section says file good untold none shows = record {
  good = good;
  version = ap (λ (versions : List ℕ). slice_index_or versions 0 1) (sym untold);
  told_first = no_more_versions says untold;
  numbers = none;
  inside = λ two. let e : 1 ≡ 2 = two in cc e;
  sections = subst (λ sections. ShowAll sections (file ∷ [])) (sym (ap (sections_in says) (no_more_sections says none))) (shows, tt);
}
