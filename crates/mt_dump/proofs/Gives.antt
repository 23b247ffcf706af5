-- What the sections of a dump give, as a reader keeps it.
use Rattle.std.proofs.Common.{◌≡◌, ◌≤◌, ◌<◌, ◌+◌, ◌-◌, ◌==◌, ◌&&◌, ℕ, zero, suc, Bool, true, false, nat_le, nat_lt, List, [], ◌∷◌, ◌++◌, length, take, Option, Some, None, IfOk, MatchResult, refl, sym, ◌∙◌, ap, arith, subst}
use Rattle.std.specs.Prelude.{Result, Ok, Err, map, option_map}
use Rattle.std.specs.List.{slice_index_or}
use Rattle.std.specs.Result.{result_map_both}
use Rattle.std.proofs.lemmas.Bool.{eqb-true}
use Rattle.std.proofs.lemmas.Bool.Decides.{nat_tests}
use Rattle.std.proofs.lemmas.List.{ext_get_or, length-append, length-map, map-append}
use Rattle.std.proofs.lemmas.List.FromFn.{get_or-map-range_with_len, length-map-range_with_len}
use Rattle.mt_text.specs.Reader.{Course}
use Rattle.mt_text.specs.declared.line.Line.{Line}
use Rattle.mt_text.specs.declared.place.Place.{Place}
use Rattle.mt_regs.specs.RegisterFile.{RegisterFile}
use Rattle.mt_regs.specs.Registers.{register_of, value_of}
use Rattle.mt_regs.specs.declared.registers.Register as register
use Rattle.mt_regs.proofs.ByNumber.{register_of-range}
use Rattle.mt_dump.specs.Line.{Reading, said_of}
use Rattle.mt_dump.specs.Dumps.{Dump}
use Rattle.mt_dump.specs.Dump.{ShowAll, ShowAllLater, ShowsSection, Shown, given, gives_width, is_given, offence_of, said_by, section_count, section_numbers, sections_of, times, up_to_section, value_given, widths}
use Rattle.mt_dump.specs.Reader.{HasRead, IsClean, State, done_in, done_next, dump_offence, onto, read_from, read_text}
use Rattle.mt_dump.specs.Given.{AreGivenIn, Gives, IsGivenIn, LeadsToGiven, given_after, given_by, given_of, has_register, marks_of, read_given}
use Rattle.mt_dump.specs.declared.given.Given.{Given}
use Rattle.mt_dump.specs.declared.given.GivenDump.{GivenDump}
use Rattle.mt_dump.specs.declared.fault.DumpFault.{DumpFault}
use Rattle.mt_dump.specs.declared.said.Said.TheVariants.{Nothing, Version, Section, Width, Register}
use Rattle.mt_dump.proofs.Readings.{given-onto, length-onto, times-onto, value_given-stands, widths-onto}
use Rattle.mt_dump.proofs.Sections.{no_sections_done, section_passed, sections_whole}
use Rattle.mt_dump.proofs.Ends.{reads_as}
use Rattle.mt_dump.proofs.Fed.{step, taken}

-- ---- one section

pub marks_size : (says : List Reading) → length (marks_of says) ≡ 256
unfolding marks_of
marks_size says = length-map-range_with_len (λ number. is_given number says) 0x200 256

pub mark_is : (says : List Reading) (number : ℕ) → 0x200 ≤ number → number < 0x300 → slice_index_or (marks_of says) (number - 0x200) false ≡ is_given number says
unfolding marks_of
mark_is says number from below = get_or-map-range_with_len (λ number. is_given number says) 0x200 256 (number - 0x200) number false (omega arith) (omega arith)

given_onto : (number : ℕ) (says : List Reading) → is_given number (onto says []) ≡ is_given number says
given_onto number says = let count : times number (given (onto says [])) ≡ times number (given says) = ap (times number) (given-onto says []) ∙ times-onto number (given says) [] ∙ omega arith in ap (nat_lt 0) count

pub width_onto : (says : List Reading) → gives_width (onto says []) ≡ gives_width says
width_onto says = let count : length (widths (onto says [])) ≡ length (widths says) = ap length (widths-onto says []) ∙ length-onto (widths says) [] ∙ omega arith in ap (nat_lt 0) count

pub section_is : (state : State) (before : List Reading) → HasRead state before → record { has_width = state.has_width; has_capabilities = state.has_capabilities; marks = state.marks } ≡ given_of (onto (up_to_section before) [])
section_is state before read =
    let says = up_to_section before in
    let size : length state.marks ≡ length (marks_of (onto says [])) = read.size ∙ sym (marks_size (onto says [])) in
    let marks : state.marks ≡ marks_of (onto says []) = ext_get_or false state.marks (marks_of (onto says [])) size (λ k below. by k (omega (arith, read.size))) in
    rw (read.has_width_is ∙ sym (width_onto says), read.has_capabilities_is ∙ sym (given_onto 0xfe says), marks) refl
  where
    by : (k : ℕ) → k < 256 → slice_index_or state.marks k false ≡ slice_index_or (marks_of (onto (up_to_section before) [])) k false
    by k below =
        let place : k ≡ 0x200 + k - 0x200 = omega arith in
        rw place (read.marked (0x200 + k) (omega arith) (omega arith) ∙ sym (given_onto (0x200 + k) (up_to_section before)) ∙ sym (mark_is (onto (up_to_section before) []) (0x200 + k) (omega arith) (omega arith)))

-- ---- the sections behind the present one

-- there are sixteen sections at most
pub few_sections : (before : List Reading) → IsClean before → section_count before ≤ 16
few_sections [] clean = omega arith
few_sections (Ok Nothing ∷ before) clean = few_sections before clean.2
few_sections (Ok (Version version place) ∷ before) clean = few_sections before clean.2
few_sections (Ok (Section number place) ∷ before) clean = let e = (section_passed before number place clean.1).1 in omega (arith, e, clean.0)
few_sections (Ok (Width width first second) ∷ before) clean = few_sections before clean.2
few_sections (Ok (Register number value first second) ∷ before) clean = few_sections before clean.2
few_sections (Err fault ∷ before) clean = cc clean.1

pub done_size : (before : List Reading) → length (done_in before) ≡ section_count before - 1
done_size [] = refl
done_size (Ok Nothing ∷ before) = done_size before
done_size (Ok (Version version place) ∷ before) = done_size before
done_size (Ok (Section number place) ∷ before) = by (section_numbers before) (done_in before) (done_size before)
  where
    by : (ns : List ℕ) (done : List (List Reading)) → length done ≡ length ns - 1 → length (done_next ns done (onto (up_to_section before) [])) ≡ length (number ∷ ns) - 1
    by [] done size = omega arith
    by (n ∷ ns) done size = length-append done (onto (up_to_section before) [] ∷ []) ∙ omega (arith, size)
done_size (Ok (Width width first second) ∷ before) = done_size before
done_size (Ok (Register number value first second) ∷ before) = done_size before
done_size (Err fault ∷ before) = done_size before

-- a line behind which as many sections ended
pub goes_on : (line : Reading) (before : List Reading) → (length (done_in before) + 1 < section_count (line ∷ before) → ⊥) → done_in (line ∷ before) ≡ done_in before
goes_on (Ok Nothing) before few = refl
goes_on (Ok (Version version place)) before few = refl
goes_on (Ok (Section number place)) before few = by (section_numbers before) refl
  where
    by : (ns : List ℕ) → section_numbers before ≡ ns → done_next ns (done_in before) (onto (up_to_section before) []) ≡ done_in before
    by [] none = sym (no_sections_done before none)
    by (n ∷ ns) some = absurd (few (let e = ap length some in omega (arith, e, done_size before)))
goes_on (Ok (Width width first second)) before few = refl
goes_on (Ok (Register number value first second)) before few = refl
goes_on (Err fault) before few = refl

-- a line that ends one
pub ends : (line : Reading) (before : List Reading) → length (done_in before) + 1 < section_count (line ∷ before) → done_in (line ∷ before) ≡ done_in before ++ onto (up_to_section before) [] ∷ []
ends (Ok Nothing) before more = absurd (omega (arith, more, done_size before))
ends (Ok (Version version place)) before more = absurd (omega (arith, more, done_size before))
ends (Ok (Section number place)) before more = by (section_numbers before) refl
  where
    by : (ns : List ℕ) → section_numbers before ≡ ns → done_next ns (done_in before) (onto (up_to_section before) []) ≡ done_in before ++ onto (up_to_section before) [] ∷ []
    by [] none = absurd (let e = ap length none in omega (arith, e, more))
    by (n ∷ ns) some = refl
ends (Ok (Width width first second)) before more = absurd (omega (arith, more, done_size before))
ends (Ok (Register number value first second)) before more = absurd (omega (arith, more, done_size before))
ends (Err fault) before more = absurd (omega (arith, more, done_size before))

-- ---- one more line

module _ (line : Reading) (before : List Reading) (clean : IsClean (line ∷ before)) (kept : List Given) (kept_is : kept ≡ map given_of (done_in before)) (count : ℕ) (count_is : count ≡ section_count (line ∷ before)) where
  size : length kept ≡ length (done_in before)
  size = ap length kept_is ∙ length-map (done_in before) given_of

  pub stays : (length kept + 1 < count → ⊥) → kept ≡ map given_of (done_in (line ∷ before))
  stays few = kept_is ∙ ap (map given_of) (sym (goes_on line before (λ more. few (omega (arith, more, size, count_is)))))

  pub grows : (section : Given) (now : List Given) → section ≡ given_of (onto (up_to_section before) []) → length kept + 1 < count → (length kept < 16 → now ≡ kept ++ section ∷ []) → now ≡ map given_of (done_in (line ∷ before))
  grows section now of_section more appended =
      let few = few_sections (line ∷ before) clean in
      let ended = ends line before (omega (arith, more, size, count_is)) in
      let whole : now ≡ map given_of (done_in before) ++ given_of (onto (up_to_section before) []) ∷ [] = appended (omega (arith, few, more, count_is)) ∙ rw (kept_is, of_section) refl in
      whole ∙ sym (map-append given_of (done_in before) (onto (up_to_section before) [] ∷ [])) ∙ ap (map given_of) (sym ended)

-- A line that is taken is told with those before it, and one with an offence is the first.
pub takes_given : {U : Type 0} (old new : State) (line : Line) (result : Result U DumpFault) (kept now : List Given)
    → ((before : List Reading) → HasRead old before → MatchResult result (λ _. HasRead new (said_of line.number line.bytes.now ∷ before)) (λ fault. (offence_of before (said_of line.number line.bytes.now) ≡ Some fault) × (new ≡ old)))
    → ((says : Reading) (before : List Reading) → HasRead old before → HasRead new (says ∷ before) → kept ≡ map given_of (done_in before) → now ≡ map given_of (done_in (says ∷ before)))
    → (course : Course (Result GivenDump DumpFault)) (whole : List ℕ) → LeadsToGiven old kept line.number course → line.bytes.now ≡ take 4097 whole
    → MatchResult result (λ _. (length whole ≤ 4096) × LeadsToGiven new now (line.number + 1) (λ lines. course (whole ∷ lines))) (λ fault. (lines : List (List ℕ)) (end : Place) → course (whole ∷ lines) end ≡ Err fault)
takes_given {U = U} old new line (Ok value) kept now took keeps course whole led cut =
    let read = taken {U = U} old new line (Ok value) led.before whole cut (took led.before led.read) in (
      read.0,
      record {
        before = said_of line.number whole ∷ led.before;
        read = read.1;
        ended_is = keeps (said_of line.number whole) led.before led.read read.1 led.ended_is;
        leads = λ lines end. led.leads (whole ∷ lines) end ∙ step given_after line.number led.before whole lines end None read.1.clean.1;
      },
    )
takes_given {U = U} old new line (Err fault) kept now took keeps course whole led cut = λ lines end.
    led.leads (whole ∷ lines) end ∙ step given_after line.number led.before whole lines end (Some fault) (taken {U = U} old new line (Err fault) led.before whole cut (took led.before led.read))

-- ---- the end

-- what is kept of all sections
pub all_sections : (before : List Reading) → map given_of (done_in before) ++ given_of (onto (up_to_section before) []) ∷ [] ≡ map given_of (sections_of (onto before []))
all_sections before = sym (ap (map given_of) (sections_whole before) ∙ map-append given_of (done_in before) (onto (up_to_section before) [] ∷ []))

-- a dump that is read has what its lines give
pub given_at_end : (state : State) (before : List Reading) (end : Place) (answer : Result Dump DumpFault) (kept sections : List Given) (has_width : Bool) (section : Given) → IsClean before → answer ≡ read_from end before [] → has_width ≡ gives_width before → kept ≡ map given_of (done_in before)
    → section ≡ given_of (onto (up_to_section before) []) → (length kept < 16 → sections ≡ kept ++ section ∷ [])
    → result_map_both (λ dump. record { dump = dump; has_width = has_width; sections = record { items = sections } }) (λ fault. fault) answer ≡ given_after (onto before []) (read_from end before [])
given_at_end state before end answer kept sections has_width section clean is width_is kept_is of_section appended =
    let few = few_sections before clean in
    let size : length kept ≡ length (done_in before) = ap length kept_is ∙ length-map (done_in before) given_of in
    let all : sections ≡ map given_of (sections_of (onto before [])) = appended (omega (arith, few, size, done_size before)) ∙ rw (kept_is, of_section) (all_sections before) in
    rw (is, all, width_is ∙ sym (width_onto before)) refl

-- a section that shows a file gives what is kept of it
given_in : (says : List Reading) (file : RegisterFile) → ShowsSection says file → IsGivenIn says (given_of says)
given_in says file shows = record { width = refl; registers = λ number. by number (number == 0xfe) refl (nat_le 0x200 number && nat_lt number 0x300) refl }
  where
    within : (number : ℕ) → (nat_le 0x200 number && nat_lt number 0x300) ≡ true → (0x200 ≤ number) × (number < 0x300)
    within number test = grind (arith, nat_tests, test)

    beyond : (number : ℕ) → (nat_le 0x200 number && nat_lt number 0x300) ≡ false → 0x200 ≤ number → number < 0x300 → ⊥
    beyond number test from below = grind (arith, nat_tests, test, from, below)

    -- a register that is given is one of the file
    is_there : (number : ℕ) → (number == 0xfe) ≡ false → 0 < times number (given says) → (0x200 ≤ number) × (number < 0x300)
    is_there number other some = by_place (register_of file number) refl (rw other at (value_given-stands number (given says) file some shows.values))
      where
        by_place : (found : Option register.Register) → register_of file number ≡ found → option_map (value_of file) found ≡ Some (value_given number (given says)) → (0x200 ≤ number) × (number < 0x300)
        by_place None is none = cc none
        by_place (Some r) is some = register_of-range file number r shows.is_file is

    ungiven : (number : ℕ) → (number == 0xfe) ≡ false → (nat_le 0x200 number && nat_lt number 0x300) ≡ false → (count : ℕ) → times number (given says) ≡ count → false ≡ nat_lt 0 count
    ungiven number other out zero none = refl
    ungiven number other out (suc n) some = let there = is_there number other (omega (arith, some)) in absurd (beyond number out there.0 there.1)

    by : (number : ℕ) (cap : Bool) → (number == 0xfe) ≡ cap → (inside : Bool) → (nat_le 0x200 number && nat_lt number 0x300) ≡ inside → has_register (given_of says) number ≡ is_given number says
    by number true is inside test = rw is (ap (λ n. is_given n says) (sym (eqb-true number 0xfe is)))
    by number false other true test = let there = within number test in rw (other, test) (mark_is says number there.0 there.1)
    by number false other false test = rw (other, test) (ungiven number other test (times number (given says)) refl)

later_given : (first : RegisterFile) (sections : List (List Reading)) (files : List RegisterFile) → ShowAllLater first sections files → AreGivenIn sections (map given_of sections)
later_given first [] files shows = tt
later_given first (says ∷ sections) [] shows = absurd shows
later_given first (says ∷ sections) (file ∷ files) shows = (given_in says file shows.0.section, later_given first sections files shows.1)

all_given : (sections : List (List Reading)) (files : List RegisterFile) → ShowAll sections files → AreGivenIn sections (map given_of sections)
all_given [] files shows = tt
all_given (says ∷ sections) [] shows = absurd shows
all_given (says ∷ sections) (file ∷ files) shows = (given_in says file shows.0.section, later_given file sections files shows.1)

pub gives_all : (text : List ℕ) (answer : Result GivenDump DumpFault) → answer ≡ read_given text → IfOk answer (Gives text)
gives_all text (Err fault) is = tt
gives_all text (Ok given) is = by (read_text text) (reads_as text (read_text text) refl) is
  where
    by : (found : Result Dump DumpFault) → MatchResult found (λ dump. Shown text dump) (λ fault. dump_offence text ≡ Some fault) → Ok given ≡ given_after (said_by text) found → Gives text given
    by (Ok dump) shown same =
        let e : given_by (said_by text) dump ≡ given = cc same in
        subst (Gives text) e (record { shown = shown; width = refl; sections = all_given (sections_of (said_by text)) dump.files shown.sections })
    by (Err fault) found bad = cc bad
