-- Lines that show a dump have no offence.
use Rattle.std.proofs.Common.{◌≡◌, ◌≢◌, ◌≤◌, ◌<◌, ◌+◌, ℕ, Bool, true, false, not, ◌==◌, ◌&&◌, nat_lt, List, [], ◌∷◌, ◌++◌, length, Option, Some, None, refl, sym, ◌∙◌, ap, arith, inl, inr, subst}
use Rattle.std.specs.Prelude.{Ok, Err, is_some, ok_or, ◌⊎◌, ◌||◌, if◌then◌else◌}
use Rattle.std.specs.List.{AllByRecursion}
use Rattle.std.specs.Option.{option_map, option_map_or}
use Rattle.std.proofs.lemmas.Bool.{cases_Bool, eqb-true, eqb-false}
use Rattle.std.proofs.lemmas.Bool.Decides.{nat_tests}
use Rattle.mt_regs.specs.RegisterFile.{RegisterFile}
use Rattle.mt_regs.specs.Registers.{value_at, value_of, register_of}
use Rattle.mt_regs.specs.declared.registers.Register as register
use Rattle.mt_text.specs.declared.place.Place.{Place}
use Rattle.mt_dump.specs.Line.{Reading, fault_at}
use Rattle.mt_dump.specs.Dumps.{Dump}
use Rattle.mt_dump.specs.Dump.{given, widths, versions, section_numbers, section_count, times, is_given, value_given, is_writable, is_spoken, version_of, is_later, is_outside, first_section, first_width, up_to_section, behind_first, behind_sections, sections_of, ShowsSection, ShowsFirst, ShowsLater, ShowAll, ShowAllLater, ShownBy, count_from, offence_of}
use Rattle.mt_dump.specs.Reader.{IsSane, IsClean, dump_in, file_in, files_in, onto, read_from, done_in}
use Rattle.mt_dump.specs.declared.said.Said.TheVariants.{Nothing, Version, Section, Width, Register}
use Rattle.mt_dump.proofs.Readings.{times-onto, length-onto, given-onto, widths-onto, versions-onto, numbers-onto, good_rest, all_rest, all_before, value_given-stands}
use Rattle.mt_dump.proofs.Sections.{behind_unspoken, behind_spoken, clean_versions, first_early, early_present, up_to_all, up_to-onto, no_sections_done, sections_split}
use Rattle.mt_dump.proofs.Present.{Leads, clean_stands}
use Rattle.mt_dump.proofs.Stands.{Shows, clean_closed, clean_shown, none_given, one_first, first_gives, shown_given, shown_once}
use Rattle.mt_dump.specs.declared.fault.DumpFault.{DumpFault}
use Rattle.mt_dump.specs.declared.fault.DumpReason.TheVariants.{NoCap}

-- where numbers are counted, one that stands behind others is their count
rest_counted : {X : Type 0} (ns more : List ℕ) (xs : List X) → onto ns more ≡ count_from 0 xs → (ys : List X) × (more ≡ count_from (length ns) ys)
rest_counted [] more xs is = (xs, is)
rest_counted {X} (n ∷ ns) more xs is = by (rest_counted ns (n ∷ more) xs is)
  where
    by : ((ys : List X) × (n ∷ more ≡ count_from (length ns) ys)) → (ys : List X) × (more ≡ count_from (length (n ∷ ns)) ys)
    by ([], is) = cc is
    by (y ∷ ys, is) =
        let same : more ≡ count_from (length ns + 1) ys = cc is in
        let next : length ns + 1 ≡ length (n ∷ ns) = omega arith in
        (ys, same ∙ ap (λ k. count_from k ys) next)

number_counted : {X : Type 0} (ns more : List ℕ) (number : ℕ) (xs : List X) → onto ns (number ∷ more) ≡ count_from 0 xs → number ≡ length ns
number_counted {X} ns more number xs is = by (rest_counted ns (number ∷ more) xs is)
  where
    by : ((ys : List X) × (number ∷ more ≡ count_from (length ns) ys)) → number ≡ length ns
    by ([], is) = cc is
    by (y ∷ ys, is) = cc is

-- what stands in a list of sections
some_first : (section : List Reading) (more : List (List Reading)) (files : List RegisterFile) → ShowAll (section ∷ more) files → (file : RegisterFile) × ShowsFirst section file
some_first section more [] all = absurd all
some_first section more (f ∷ files) all = (f, all.0)

some_later : (first : RegisterFile) (done : List (List Reading)) (section : List Reading) (more : List (List Reading)) (files : List RegisterFile) → ShowAllLater first (done ++ section ∷ more) files → (file : RegisterFile) × ShowsLater first section file
some_later first [] section more [] all = absurd all
some_later first [] section more (f ∷ files) all = (f, all.0)
some_later first (d ∷ done) section more [] all = absurd all
some_later first (d ∷ done) section more (f ∷ files) all = some_later first done section more files all.1

-- a later section, where the sections before it show these files
behind_shown : (done : List (List Reading)) (known : List RegisterFile) (width capabilities : ℕ) (section : List Reading) (more : List (List Reading)) (files : List RegisterFile) → Shows done known width capabilities
    → ShowAll (done ++ section ∷ more) files → (first : RegisterFile) × (file : RegisterFile) × ShowsLater first section file × (first.width ≡ width) × (first.capabilities ≡ capabilities)
behind_shown [] known width capabilities section more files shows all = absurd shows.all
behind_shown (d ∷ done) [] width capabilities section more files shows all = absurd shows.all
behind_shown (d ∷ done) (k ∷ known) width capabilities section more [] shows all = absurd all
behind_shown (d ∷ done) (k ∷ known) width capabilities section more (f ∷ files) shows all =
    let same : f ≡ k = one_first d f k all.0 shows.all.0 in
    let found = some_later f done section more files all.1 in
    (f, found.0, found.1, ap (λ x. x.width) same ∙ shows.width_is, ap (λ x. x.capabilities) same ∙ shows.capabilities_is)

-- Lines stand before one that isn't a `version` line and has words, and more behind it; all together show a dump.
module _ (before rest : List Reading) (line : Reading) (dump : Dump) (clean : IsClean before) (shown : ShownBy (onto before (line ∷ rest)) dump) where
  no_version_behind : behind_first (line ∷ rest) ≡ rest → versions (line ∷ rest) ≡ versions rest → versions rest ≡ []
  no_version_behind spoken same = elim (cases_Bool (is_spoken before)) [
    | inl some ↦ sym same ∙ sym (behind_spoken before (line ∷ rest) clean some) ∙ shown.told_first
    | inr none ↦ ap versions (sym spoken ∙ sym (behind_unspoken before (line ∷ rest) none)) ∙ shown.told_first
  ]

  told_before : behind_first (line ∷ rest) ≡ rest → versions (line ∷ rest) ≡ versions rest → dump.version ≡ version_of before
  told_before spoken same =
      let none : versions (line ∷ rest) ≡ [] = same ∙ no_version_behind spoken same in
      shown.version ∙ elim (clean_versions before clean) [
        | inl empty ↦ rw (versions-onto before (line ∷ rest), none, empty) refl
        | inr some ↦ rw (versions-onto before (line ∷ rest), none, some.1) refl
      ]

  numbers_behind : section_numbers (line ∷ rest) ≡ section_numbers rest → dump.version ≢ 2 → (section_numbers before ≡ []) × (section_numbers rest ≡ [])
  numbers_behind same other =
      let test : (dump.version == 2) ≡ false = tested (cases_Bool (dump.version == 2)) in
      let none : onto (section_numbers before) (section_numbers rest) ≡ [] = ap (onto (section_numbers before)) (sym same) ∙ sym (numbers-onto before (line ∷ rest)) ∙ shown.numbers ∙ rw test refl in
      both (section_numbers before) (section_numbers rest) (sym (length-onto (section_numbers before) (section_numbers rest)) ∙ ap length none)
    where
      tested : (((dump.version == 2) ≡ true) ⊎ ((dump.version == 2) ≡ false)) → (dump.version == 2) ≡ false
      tested (inl hit) = absurd (other (eqb-true _ _ hit))
      tested (inr miss) = miss

      both : (ns ms : List ℕ) → length ns + length ms ≡ 0 → (ns ≡ []) × (ms ≡ [])
      both [] [] none = (refl, refl)
      both [] (m ∷ ms) none = absurd (omega (arith, none))
      both (n ∷ ns) ms none = absurd (omega (arith, none))

  -- the section in which the line stands
  placed : section_numbers (line ∷ rest) ≡ section_numbers rest → up_to_section (line ∷ rest) ≡ line ∷ up_to_section rest → behind_sections (line ∷ rest) ≡ behind_sections rest → (section_numbers before ≢ []) ⊎ (dump.version ≢ 2)
      → ShowAll (done_in before ++ onto (up_to_section before) (line ∷ up_to_section rest) ∷ behind_sections rest) dump.files
  placed same up behind (inl some) = subst (λ sections. ShowAll sections dump.files) (sections_split before (line ∷ rest) some ∙ rw (up, behind) refl) shown.sections
  placed same up behind (inr other) =
      let none = numbers_behind same other in
      let here : up_to_section (onto before (line ∷ rest)) ≡ onto before (line ∷ up_to_section rest) = up_to-onto before (line ∷ rest) none.0 ∙ ap (onto before) up in
      let all : onto before (line ∷ rest) ≡ onto (up_to_section before) (line ∷ up_to_section rest) = rw (up_to_all before none.0, up_to_all rest none.1) refl in
      let alone : behind_sections (onto before (line ∷ rest)) ≡ [] = no_more (onto before (line ∷ rest)) (numbers-onto before (line ∷ rest) ∙ rw (same, none.0, none.1) refl) in
      let more : behind_sections rest ≡ [] = no_more rest none.1 in
      let is : sections_of (onto before (line ∷ rest)) ≡ done_in before ++ onto (up_to_section before) (line ∷ up_to_section rest) ∷ behind_sections rest = rw (alone, no_sections_done before none.0, more) (ap (λ says. says ∷ []) all) in
      subst (λ sections. ShowAll sections dump.files) is shown.sections
    where
      no_more : (says : List Reading) → section_numbers says ≡ [] → behind_sections says ≡ []
      no_more [] none = refl
      no_more (Ok Nothing ∷ says) none = no_more says none
      no_more (Ok (Version version place) ∷ says) none = no_more says none
      no_more (Ok (Section number place) ∷ says) none = cc none
      no_more (Ok (Width width first second) ∷ says) none = no_more says none
      no_more (Ok (Register number value first second) ∷ says) none = no_more says none
      no_more (Err fault ∷ says) none = no_more says none

  -- either the line isn't before the first section of version 2, or it is up to that section
  inside_test : dump.version ≡ version_of before → ((section_numbers before ≢ []) ⊎ (dump.version ≢ 2)) ⊎ ((dump.version ≡ 2) × (section_numbers before ≡ []) × (is_outside before ≡ true))
  inside_test told = by (section_numbers before) refl (cases_Bool (version_of before == 2))
    where
      by : (ns : List ℕ) → section_numbers before ≡ ns → (((version_of before == 2) ≡ true) ⊎ ((version_of before == 2) ≡ false))
          → ((section_numbers before ≢ []) ⊎ (dump.version ≢ 2)) ⊎ ((dump.version ≡ 2) × (section_numbers before ≡ []) × (is_outside before ≡ true))
      by (n ∷ ns) is two = inl (inl (λ none. let e : n ∷ ns ≡ [] = sym is ∙ none in cc e))
      by [] is (inl two) = inr (told ∙ eqb-true _ _ two, is, rw (eqb-true _ _ two, is) refl)
      by [] is (inr other) = inl (inr (λ two. eqb-false _ _ other (sym told ∙ two)))

  not_outside : dump.version ≡ version_of before → ((section_numbers before ≢ []) ⊎ (dump.version ≢ 2)) → is_outside before ≡ false
  not_outside told (inl some) = by (section_numbers before) some
    where
      zero_test : (n : ℕ) (ns : List ℕ) → (length (n ∷ ns) == 0) ≡ false
      zero_test n ns = grind (arith, nat_tests)

      last : (b : Bool) → (b && false) ≡ false
      last true = refl
      last false = refl

      by : (ns : List ℕ) → ns ≢ [] → (version_of before == 2 && length ns == 0) ≡ false
      by [] some = absurd (some refl)
      by (n ∷ ns) some = rw (zero_test n ns) (last (version_of before == 2))
  not_outside told (inr other) = elim (cases_Bool (version_of before == 2)) [ inl two ↦ absurd (other (told ∙ eqb-true _ _ two)) | inr miss ↦ rw miss refl ]

longer : {X : Type 0} (xs : List X) (y : X) (ys : List X) → onto xs (y ∷ ys) ≡ [] → ⊥
longer xs y ys none = let e = sym (length-onto xs (y ∷ ys)) ∙ ap length none in absurd (omega (arith, e))

-- ---- where no test fails

pub section_none : (two counted late told : Bool) (x y : DumpFault) → two ≡ true → counted ≡ true → ((late ≡ false) ⊎ (told ≡ true)) → (if not two || not counted then Some x else if late && not told then Some y else None) ≡ None
section_none true true false told x y a b (inl c) = refl
section_none true true true told x y a b (inl c) = cc c
section_none true true late false x y a b (inr c) = cc c
section_none true true true true x y a b (inr c) = refl
section_none true true false true x y a b (inr c) = refl
section_none true false late told x y a b c = cc b
section_none false counted late told x y a b c = cc a

width_none : (outside later same again : Bool) (x y z : DumpFault) → outside ≡ false → ((later ≡ false) ⊎ (same ≡ true)) → again ≡ false → (if outside then Some x else if later && not same then Some y else if again then Some z else None) ≡ None
width_none outside later same again x y z a (inl b) c = rw (a, b, c) refl
width_none outside true same again x y z a (inr b) c = rw (a, b, c) refl
width_none outside false same again x y z a (inr b) c = rw (a, c) refl

register_none : (outside later cap same told writable again : Bool) (x y z u v : DumpFault) → outside ≡ false → (cap ≡ true → later ≡ true → same ≡ true) → ((cap ≡ true) ⊎ ((told ≡ true) × (writable ≡ true))) → again ≡ false
    → (if outside then Some x else if later && cap && not same then Some y else if not cap && not told then Some z else if not cap && not writable then Some u else if again then Some v else None) ≡ None
register_none outside true true same told writable again x y z u v a b c d = rw (a, b refl refl, d) refl
register_none outside false true same told writable again x y z u v a b c d = rw (a, d) refl
register_none outside later false same told writable again x y z u v a b (inl c) d = cc c
register_none outside true false same told writable again x y z u v a b (inr c) d = rw (a, c.0, c.1, d) refl
register_none outside false false same told writable again x y z u v a b (inr c) d = rw (a, c.0, c.1, d) refl

same_test : (n m : ℕ) → n ≡ m → (n == m) ≡ true
same_test n m is = grind (arith, nat_tests, is)

-- ---- no line has an offence

no_offence_section : (before rest : List Reading) (number : ℕ) (place : Place) (dump : Dump) → IsClean before → ShownBy (onto before (Ok (Section number place) ∷ rest)) dump → offence_of before (Ok (Section number place)) ≡ None
no_offence_section before rest number place dump clean shown =
    section_none (version_of before == 2) (number == section_count before) (nat_lt 0 number) (is_given 0xfe (first_section before)) _ _
    (same_test (version_of before) 2 (sym (told_before before rest (Ok (Section number place)) dump clean shown refl refl) ∙ is_two)) (same_test number (section_count before) is_number)
    (last (section_numbers before) refl (file_in before) (clean_stands before clean))
  where
    numbers : onto (section_numbers before) (number ∷ section_numbers rest) ≡ (if dump.version == 2 then count_from 0 dump.files else [])
    numbers = sym (numbers-onto before (Ok (Section number place) ∷ rest)) ∙ shown.numbers

    is_two : dump.version ≡ 2
    is_two = elim (cases_Bool (dump.version == 2)) [
      | inl two ↦ eqb-true _ _ two
      | inr other ↦ absurd (longer (section_numbers before) number (section_numbers rest) (numbers ∙ rw other refl))
    ]

    is_number : number ≡ section_count before
    is_number = number_counted (section_numbers before) (section_numbers rest) number dump.files (numbers ∙ rw is_two refl)

    first_of_none : given before ≡ [] → is_later before ≡ false → section_numbers before ≢ [] → ⊥
    first_of_none none early some =
        let split = subst (λ sections. ShowAll sections dump.files) (sections_split before (Ok (Section number place) ∷ rest) some) shown.sections in
        let done = ((clean_closed before clean).early early).0 in
        let first = some_first (onto (up_to_section before) []) (up_to_section rest ∷ behind_sections rest) dump.files (rw done at split) in
        let nothing : given (onto (up_to_section before) []) ≡ [] = given-onto (up_to_section before) [] ∙ ap (λ gs. onto gs []) ((early_present before clean early).0 ∙ none) in
        let more = first_gives (onto (up_to_section before) []) first.0 first.1 in
        absurd (let e = rw nothing at more in omega (arith, e))

    -- 0FEH was given where this isn't the first section
    last : (ns : List ℕ) → section_numbers before ≡ ns → (found : Option RegisterFile) → Leads before found → (nat_lt 0 number ≡ false) ⊎ (is_given 0xfe (first_section before) ≡ true)
    last ns is (Some file) now = inr now.told
    last [] is None leads = inl (let zero : number ≡ 0 = is_number ∙ ap length is in rw zero refl)
    last (n ∷ ns) is None leads = absurd (first_of_none leads.0 leads.1 (λ none. let e : n ∷ ns ≡ [] = sym is ∙ none in cc e))

no_offence_version : (before rest : List Reading) (version : ℕ) (place : Place) (dump : Dump) → IsClean before → ShownBy (onto before (Ok (Version version place) ∷ rest)) dump → offence_of before (Ok (Version version place)) ≡ None
no_offence_version before rest version place dump clean shown = elim (cases_Bool (is_spoken before)) [
  | inl some ↦ let e : version ∷ versions rest ≡ [] = sym (behind_spoken before (Ok (Version version place) ∷ rest) clean some) ∙ shown.told_first in cc e
  | inr none ↦ rw none refl
]

no_offence_width : (before rest : List Reading) (width : ℕ) (first second : Place) (dump : Dump) → IsClean before → ShownBy (onto before (Ok (Width width first second) ∷ rest)) dump → offence_of before (Ok (Width width first second)) ≡ None
no_offence_width before rest width first second dump clean shown = by (inside_test before rest (Ok (Width width first second)) dump clean shown told)
  where
    told : dump.version ≡ version_of before
    told = told_before before rest (Ok (Width width first second)) dump clean shown refl refl

    section_widths : widths (onto (up_to_section before) (Ok (Width width first second) ∷ up_to_section rest)) ≡ onto (widths (up_to_section before)) (width ∷ widths (up_to_section rest))
    section_widths = widths-onto (up_to_section before) (Ok (Width width first second) ∷ up_to_section rest)

    once : length (widths (onto (up_to_section before) (Ok (Width width first second) ∷ up_to_section rest))) ≤ 1 → nat_lt 0 (length (widths (up_to_section before))) ≡ false
    once few =
        let e = rw (section_widths, length-onto (widths (up_to_section before)) (width ∷ widths (up_to_section rest))) at few in
        let none : length (widths (up_to_section before)) ≡ 0 = omega (arith, e) in
        rw none refl

    by : ((section_numbers before ≢ []) ⊎ (dump.version ≢ 2)) ⊎ ((dump.version ≡ 2) × (section_numbers before ≡ []) × (is_outside before ≡ true)) → offence_of before (Ok (Width width first second)) ≡ None
    by (inr (two, none, outside)) =
        let up : up_to_section (onto before (Ok (Width width first second) ∷ rest)) ≡ onto before (Ok (Width width first second) ∷ up_to_section rest) = up_to-onto before (Ok (Width width first second) ∷ rest) none in
        let e : onto (widths before) (width ∷ widths (up_to_section rest)) ≡ [] = sym (ap widths up ∙ widths-onto before (Ok (Width width first second) ∷ up_to_section rest)) ∙ (shown.inside two).1 in
        absurd (longer (widths before) width (widths (up_to_section rest)) e)
    by (inl inside) =
        let all = placed before rest (Ok (Width width first second)) dump clean shown refl refl refl inside in
        let outside = not_outside before rest (Ok (Width width first second)) dump clean shown told inside in
        elim (cases_Bool (is_later before)) [
          | inl late ↦
              let found = behind_shown (done_in before) (files_in before) (first_width before) (value_given 0xfe (given (first_section before))) (onto (up_to_section before) (Ok (Width width first second) ∷ up_to_section rest)) (behind_sections rest) dump.files
              ((clean_closed before clean).late late) all in
              let equal = rw section_widths at found.2.same_widths in
              let same : width ≡ first_width before = (all_rest (λ w. w ≡ found.0.width) (widths (up_to_section before)) (width ∷ widths (up_to_section rest)) equal).0 ∙ found.3 in
              width_none (is_outside before) (is_later before) (width == first_width before) (nat_lt 0 (length (widths (up_to_section before)))) _ _ _ outside (inr (same_test width (first_width before) same)) (once found.2.section.one_width)
          | inr early ↦
              let done = ((clean_closed before clean).early early).0 in
              let found = some_first (onto (up_to_section before) (Ok (Width width first second) ∷ up_to_section rest)) (behind_sections rest) dump.files (rw done at all) in
              width_none (is_outside before) (is_later before) (width == first_width before) (nat_lt 0 (length (widths (up_to_section before)))) _ _ _ outside (inl early) (once found.1.section.one_width)
        ]

some_register : (file : RegisterFile) (number value : ℕ) → (number == 0xfe) ≡ false → value_at file number ≡ Some value → is_some (register_of file number) ≡ true
some_register file number value test is = by (register_of file number) refl (rw test at is)
  where
    by : (found : Option register.Register) → register_of file number ≡ found → option_map (value_of file) found ≡ Some value → is_some (register_of file number) ≡ true
    by None is none = cc none
    by (Some r) is some = rw is refl

-- a register in the section that shows a file
module _ (before rest : List Reading) (number value : ℕ) (first second : Place) (clean : IsClean before) (file : RegisterFile)
    (shows : ShowsSection (onto (up_to_section before) (Ok (Register number value first second) ∷ up_to_section rest)) file) where
  here_given : given (onto (up_to_section before) (Ok (Register number value first second) ∷ up_to_section rest)) ≡ onto (given (up_to_section before)) ((number, value) ∷ given (up_to_section rest))
  here_given = given-onto (up_to_section before) (Ok (Register number value first second) ∷ up_to_section rest)

  fresh : is_given number (up_to_section before) ≡ false
  fresh =
      let here : (number == number) ≡ true = same_test number number refl in
      let one = rw (here_given, times-onto number (given (up_to_section before)) ((number, value) ∷ given (up_to_section rest)), here) at (shows.once number) in
      let none : times number (given (up_to_section before)) ≡ 0 = omega (arith, one) in
      rw none refl

  all_values : AllByRecursion (λ register. value_at file register.0 ≡ Some register.1) (onto (given (up_to_section before)) ((number, value) ∷ given (up_to_section rest)))
  all_values = rw here_given at shows.values

  here_value : value_at file number ≡ Some value
  here_value = (all_rest (λ register. value_at file register.0 ≡ Some register.1) (given (up_to_section before)) ((number, value) ∷ given (up_to_section rest)) all_values).0

  writable_here : file.capabilities ≡ value_given 0xfe (given (first_section before)) → (number == 0xfe) ≡ false → is_writable number (first_section before) ≡ true
  writable_here known other = rw (← known) (some_register file number value other here_value)

  same_value : number ≡ 0xfe → file.capabilities ≡ value
  same_value is = let e = rw is at here_value in cc e

  -- in the first section
  first_known : is_later before ≡ false → is_given 0xfe (first_section before) ≡ true → file.capabilities ≡ value_given 0xfe (given (first_section before))
  first_known early told =
      let same : given (up_to_section before) ≡ given (first_section before) = (early_present before clean early).0 ∙ ap given (sym (first_early before early)) in
      let values = all_before (λ register. value_at file register.0 ≡ Some register.1) (given (up_to_section before)) ((number, value) ∷ given (up_to_section rest)) all_values in
      let some : 0 < times 0xfe (given (first_section before)) = more (times 0xfe (given (first_section before))) told in
      let e = value_given-stands 0xfe (given (first_section before)) file some (rw (← same) values) in
      cc e
    where
      more : (n : ℕ) → nat_lt 0 n ≡ true → 0 < n
      more n test = grind (arith, nat_tests, test)

abbrev first_number : List (ℕ × ℕ) → ℕ
first_number [] = 0
first_number (register ∷ registers) = register.0

no_offence_register : (before rest : List Reading) (number value : ℕ) (first second : Place) (dump : Dump) → IsClean before → ShownBy (onto before (Ok (Register number value first second) ∷ rest)) dump → offence_of before (Ok (Register number value first second)) ≡ None
no_offence_register before rest number value first second dump clean shown = by (inside_test before rest (Ok (Register number value first second)) dump clean shown told)
  where
    told : dump.version ≡ version_of before
    told = told_before before rest (Ok (Register number value first second)) dump clean shown refl refl

    none_of : is_outside before ≡ false → ((number == 0xfe) ≡ true → is_later before ≡ true → value ≡ value_given 0xfe (given (first_section before)))
        → ((number == 0xfe) ≡ false → (is_given 0xfe (first_section before) ≡ true) × (is_writable number (first_section before) ≡ true)) → is_given number (up_to_section before) ≡ false → offence_of before (Ok (Register number value first second)) ≡ None
    none_of outside same other fresh =
        register_none (is_outside before) (is_later before) (number == 0xfe) (value == value_given 0xfe (given (first_section before))) (is_given 0xfe (first_section before)) (is_writable number (first_section before)) (is_given number (up_to_section before))
        _ _ _ _ _ outside (λ cap late. same_test value (value_given 0xfe (given (first_section before))) (same cap late)) (which (cases_Bool (number == 0xfe))) fresh
      where
        which : (((number == 0xfe) ≡ true) ⊎ ((number == 0xfe) ≡ false)) → ((number == 0xfe) ≡ true) ⊎ ((is_given 0xfe (first_section before) ≡ true) × (is_writable number (first_section before) ≡ true))
        which (inl hit) = inl hit
        which (inr miss) = inr (other miss)

    in_first : is_outside before ≡ false → is_later before ≡ false → (file : RegisterFile) → ShowsFirst (onto (up_to_section before) (Ok (Register number value first second) ∷ up_to_section rest)) file → (found : Option RegisterFile) → Leads before found
        → offence_of before (Ok (Register number value first second)) ≡ None
    in_first outside early file shows (Some f) now =
        none_of outside (λ cap late. let e : true ≡ false = sym late ∙ early in cc e)
        (λ other. (now.told, writable_here before rest number value first second clean file shows.section (first_known before rest number value first second clean file shows.section early now.told) other))
        (fresh before rest number value first second clean file shows.section)
    in_first outside early file shows None leads =
        let none : given (up_to_section before) ≡ [] = (early_present before clean early).0 ∙ leads.0 in
        let is : (number, value) ∷ given (up_to_section rest) ≡ (0xfe, file.capabilities) ∷ shows.capabilities.0 =
        ap (λ gs. onto gs ((number, value) ∷ given (up_to_section rest))) (sym none) ∙ sym (here_given before rest number value first second clean file shows.section) ∙ shows.capabilities.1 in
        let cap : number ≡ 0xfe = ap first_number is in
        none_of outside (λ hit late. let e : true ≡ false = sym late ∙ early in cc e) (λ other. absurd (eqb-false _ _ other cap)) (fresh before rest number value first second clean file shows.section)

    in_later : is_outside before ≡ false → is_later before ≡ true → (base file : RegisterFile) → ShowsLater base (onto (up_to_section before) (Ok (Register number value first second) ∷ up_to_section rest)) file
        → base.capabilities ≡ value_given 0xfe (given (first_section before)) → (found : Option RegisterFile) → Leads before found → offence_of before (Ok (Register number value first second)) ≡ None
    in_later outside late base file shows known None leads = let e : true ≡ false = sym late ∙ leads.1 in cc e
    in_later outside late base file shows known (Some f) now =
        none_of outside (λ cap again. sym (same_value before rest number value first second clean file shows.section (eqb-true _ _ cap)) ∙ shows.capabilities ∙ known)
        (λ other. (now.told, writable_here before rest number value first second clean file shows.section (shows.capabilities ∙ known) other)) (fresh before rest number value first second clean file shows.section)

    by : ((section_numbers before ≢ []) ⊎ (dump.version ≢ 2)) ⊎ ((dump.version ≡ 2) × (section_numbers before ≡ []) × (is_outside before ≡ true)) → offence_of before (Ok (Register number value first second)) ≡ None
    by (inr (two, none, outside)) =
        let up : up_to_section (onto before (Ok (Register number value first second) ∷ rest)) ≡ onto before (Ok (Register number value first second) ∷ up_to_section rest) = up_to-onto before (Ok (Register number value first second) ∷ rest) none in
        let e : onto (given before) ((number, value) ∷ given (up_to_section rest)) ≡ [] = sym (ap given up ∙ given-onto before (Ok (Register number value first second) ∷ up_to_section rest)) ∙ (shown.inside two).0 in
        absurd (longer (given before) (number, value) (given (up_to_section rest)) e)
    by (inl inside) =
        let all = placed before rest (Ok (Register number value first second)) dump clean shown refl refl refl inside in
        let outside = not_outside before rest (Ok (Register number value first second)) dump clean shown told inside in
        elim (cases_Bool (is_later before)) [
          | inl late ↦
              let found = behind_shown (done_in before) (files_in before) (first_width before) (value_given 0xfe (given (first_section before))) (onto (up_to_section before) (Ok (Register number value first second) ∷ up_to_section rest)) (behind_sections rest) dump.files
              ((clean_closed before clean).late late) all in
              in_later outside late found.0 found.1 found.2 found.4 (file_in before) (clean_stands before clean)
          | inr early ↦
              let done = ((clean_closed before clean).early early).0 in
              let found = some_first (onto (up_to_section before) (Ok (Register number value first second) ∷ up_to_section rest)) (behind_sections rest) dump.files (rw done at all) in
              in_first outside early found.0 found.1 (file_in before) (clean_stands before clean)
        ]

no_offence : (before rest : List Reading) (line : Reading) (dump : Dump) → IsClean before → ShownBy (onto before (line ∷ rest)) dump → offence_of before line ≡ None
no_offence before rest (Err fault) dump clean shown = let e = good_rest before (Err fault ∷ rest) shown.good in cc e
no_offence before rest (Ok Nothing) dump clean shown = refl
no_offence before rest (Ok (Version version place)) dump clean shown = no_offence_version before rest version place dump clean shown
no_offence before rest (Ok (Section number place)) dump clean shown = no_offence_section before rest number place dump clean shown
no_offence before rest (Ok (Width width first second)) dump clean shown = no_offence_width before rest width first second dump clean shown
no_offence before rest (Ok (Register number value first second)) dump clean shown = no_offence_register before rest number value first second dump clean shown

-- so they are read as it
pub complete : (end : Place) (before rest : List Reading) (dump : Dump) → IsClean before → AllByRecursion IsSane rest → ShownBy (onto before rest) dump → read_from end before rest ≡ Ok dump
complete end before [] dump clean sane shown = by (dump_in before) refl
  where
    by : (found : Option Dump) → dump_in before ≡ found → ok_or found (fault_at NoCap end) ≡ Ok dump
    by None led = let e = sym (none_given before clean led) ∙ shown_given (onto before []) dump shown in cc e
    by (Some other) led = ap Ok (shown_once (onto before []) other dump (clean_shown before other clean led) shown)
complete end before (line ∷ rest) dump clean sane shown =
    let none = no_offence before rest line dump clean shown in
    ap (λ o. option_map_or (λ fault. Err fault) o (read_from end (line ∷ before) rest)) none ∙ complete end (line ∷ before) rest dump (sane.0, none, clean) sane.1 shown
