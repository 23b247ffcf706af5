-- The canonical text shows its dump.
use Rattle.std.proofs.Common.{◌≡◌, ◌∙◌, ◌+◌, ◌<◌, ◌≤◌, ◌^◌, ℕ, suc, zero, true, false, ◌==◌, List, [], ◌∷◌, ◌++◌, length, map, Option, Some, None, Ok, refl, sym, ap, subst, arith, inl, inr}
use Rattle.std.specs.Prelude.{Err, is_ok}
use Rattle.std.specs.List.{slice_get, list_all, AllByRecursion}
use Rattle.std.proofs.lemmas.Bool.{cases_Bool, eqb-true}
use Rattle.std.proofs.lemmas.List.{append-nil}
use Rattle.std.proofs.lemmas.Bool.Decides.{nat_tests}
use Rattle.mt_text.specs.Text.{lines_of}
use Rattle.mt_text.proofs.Plain.{is_plain, lines_of-line}
use Rattle.mt_regs.specs.RegisterFile.{RegisterFile, IsRegisterFile, blank_file}
use Rattle.mt_regs.specs.Registers.{number_of, value_at, value_of, register_of, writable}
use Rattle.mt_regs.specs.Words.{HasWords}
use Rattle.mt_regs.specs.declared.registers.Register.{Register}
use Rattle.mt_regs.proofs.ByNumber.{Ascend, place_in_writable, register_of-number, register_of-within, writable_ascend, writable_found}
use Rattle.mt_dump.specs.Line.{said_of}
use Rattle.mt_dump.specs.Line.{Reading}
use Rattle.mt_dump.specs.Dumps.{Dump, IsDump, dump_of}
use Rattle.mt_dump.specs.Dump.{said_from, said_by, given, widths, versions, section_numbers, times, width_of, up_to_section, behind_sections, sections_in, count_from, ShowsSection, ShowsFirst, ShowsLater, ShowAll, ShowAllLater, Shown, ShownBy}
use Rattle.mt_dump.specs.Canon.{register_line, section_lines, file_lines, canon_lines, ended, canon}
use Rattle.mt_dump.specs.declared.said.Said.TheVariants.{Nothing, Version, Section, Width, Register as RegisterSaid}
use Rattle.mt_dump.proofs.Canonical.{register_said, register_plain, width_said, width_plain, section_said, section_plain}
use Rattle.mt_dump.proofs.Stands.{one_section}
use Rattle.mt_dump.proofs.Ends.{one_dump}

-- registers by their numbers, with their values
abbrev pub valued : (Register → ℕ) → List Register → List (ℕ × ℕ)
valued value [] = []
valued value (r ∷ rs) = (number_of r, value r) ∷ valued value rs

apart : (a b : ℕ) → b < a → (a == b) ≡ false
apart a b less = grind (arith, nat_tests)

module _ (value : Register → ℕ) where
  -- an ascending list has no number twice, and none below its first
  pub times_below : (low high number : ℕ) (rs : List Register) → Ascend low high rs → number < low → times number (valued value rs) ≡ 0
  times_below low high number [] up below = refl
  times_below low high number (r ∷ rs) up below =
      let other = apart (number_of r) number (omega (arith, up.0)) in
      rw other (times_below (number_of r + 1) high number rs up.2 (omega (arith, up.0)))

  pub times_once : (low high number : ℕ) (rs : List Register) → Ascend low high rs → times number (valued value rs) ≤ 1
  times_once low high number [] up = omega arith
  times_once low high number (r ∷ rs) up = elim (cases_Bool (number_of r == number)) [
    | inl hit ↦ let e : number_of r ≡ number = eqb-true _ _ hit in let none = times_below (number_of r + 1) high number rs up.2 (omega arith) in rw hit (omega (arith, none))
    | inr miss ↦ rw miss (times_once (number_of r + 1) high number rs up.2)
  ]

  pub times_found : (number i : ℕ) (r : Register) (rs : List Register) → number_of r ≡ number → slice_get rs i ≡ Some r → 0 < times number (valued value rs)
  times_found number i r [] is found = cc found
  times_found number zero r (s ∷ ss) is found =
      let e : s ≡ r = cc found in
      let hit : (number_of s == number) ≡ true = same (number_of s) number (ap number_of e ∙ is) in
      rw hit (omega arith)
    where
      same : (a b : ℕ) → a ≡ b → (a == b) ≡ true
      same a b e = grind (arith, nat_tests)
  times_found number (suc i) r (s ∷ ss) is found =
      let later = times_found number i r ss is found in
      elim (cases_Bool (number_of s == number)) [ inl hit ↦ rw hit (omega arith) | inr miss ↦ rw miss later ]

-- what the lines of registers say
module _ (value : Register → ℕ) where
  abbrev lines_for : List Register → List (List ℕ)
  lines_for rs = map (λ r. register_line (number_of r) (value r)) rs

  -- what the lines of registers say
  record RegistersSaid (says : List Reading) (rs : List Register) : Type 0 where
    good : list_all is_ok says ≡ true
    gives : given says ≡ valued value rs
    has_widths : widths says ≡ []
    has_versions : versions says ≡ []
    has_sections : section_numbers says ≡ []

  register_lines_say : (line low : ℕ) (rs : List Register) → 0xff ≤ low → Ascend low 0x300 rs → AllByRecursion (λ r. value r < 2 ^ 64) rs → RegistersSaid (said_from line (lines_for rs)) rs
  register_lines_say line low [] from up fits = record { good = refl; gives = refl; has_widths = refl; has_versions = refl; has_sections = refl }
  register_lines_say line low (r ∷ rs) from up fits =
      let said = register_said line (number_of r) (value r) (omega (arith, up.1)) fits.0 (λ is. absurd (omega (arith, up.0))) in
      let later = register_lines_say (line + 1) (number_of r + 1) rs (omega (arith, up.0)) up.2 fits.1 in
      record {
        good = rw said later.good;
        gives = rw said (ap (λ gs. let g : ℕ × ℕ = (number_of r, value r) in g ∷ gs) later.gives);
        has_widths = rw said later.has_widths;
        has_versions = rw said later.has_versions;
        has_sections = rw said later.has_sections;
      }

-- lines come back from a text
ended_lines : (lines : List (List ℕ)) → AllByRecursion (λ line. list_all is_plain line ≡ true) lines → lines_of (ended lines) ≡ lines
ended_lines [] plain = refl
ended_lines (line ∷ lines) plain = lines_of-line line (ended lines) plain.0 ∙ ap (λ ls. line ∷ ls) (ended_lines lines plain.1)

register_lines_plain : (value : Register → ℕ) (low : ℕ) (rs : List Register) → Ascend low 0x300 rs → AllByRecursion (λ line. list_all is_plain line ≡ true) (map (λ r. register_line (number_of r) (value r)) rs)
register_lines_plain value low [] up = tt
register_lines_plain value low (r ∷ rs) up = (register_plain (number_of r) (value r) (omega (arith, up.1)), register_lines_plain value (number_of r + 1) rs up.2)

module _ (file : RegisterFile) (is : IsRegisterFile file) (fits : HasWords file) where
  abbrev value : Register → ℕ
  value r = value_of file r

  ascend : Ascend 0x200 0x300 (writable file)
  ascend = writable_ascend file is.few_pairs

  -- each writable register has its value
  stand : (rs : List Register) (low : ℕ) → 0xff ≤ low → Ascend low 0x300 rs → AllByRecursion (λ r. register_of file (number_of r) ≡ Some r) rs → AllByRecursion (λ g. value_at file g.0 ≡ Some g.1) (valued value rs)
  stand [] low from up found = tt
  stand (r ∷ rs) low from up found =
      let other = apart (number_of r) 0xfe (omega (arith, up.0)) in
      (rw (other, found.0) refl, stand rs (number_of r + 1) (omega (arith, up.0)) up.2 found.1)

  values_stand : AllByRecursion (λ g. value_at file g.0 ≡ Some g.1) (valued value (writable file))
  values_stand = stand (writable file) 0x200 (omega arith) ascend (writable_found file is.few_pairs)

  values_fit : (rs : List Register) → AllByRecursion (λ g. value_at file g.0 ≡ Some g.1) (valued value rs) → AllByRecursion (λ r. value r < 2 ^ 64) rs
  values_fit [] each = tt
  values_fit (r ∷ rs) each = (fits (number_of r) (value r) each.0, values_fit rs each.1)

  lines_plain : AllByRecursion (λ line. list_all is_plain line ≡ true) (file_lines file)
  lines_plain = (width_plain file.width is.wide is.narrow, (register_plain 0xfe file.capabilities (omega arith), register_lines_plain value 0x200 (writable file) ascend))

  -- and no other register is in the file
  absent : (number : ℕ) → times number (valued value (writable file)) ≡ 0 → (found : Option Register) → register_of file number ≡ found → register_of file number ≡ None
  absent number none None is_none = is_none
  absent number none (Some r) is_some =
      let place = place_in_writable file r is (register_of-within file number r is is_some) in
      let more = times_found value number place.0 r (writable file) (register_of-number file number r is is_some) place.1 in
      absurd (omega (arith, none, more))

  abbrev others_said : ℕ → List Reading
  others_said line = said_from (line + 1 + 1) (lines_for value (writable file))

  registers_say : (line : ℕ) → RegistersSaid value (others_said line) (writable file)
  registers_say line = register_lines_say value (line + 1 + 1) 0x200 (writable file) (omega arith) ascend (values_fit (writable file) values_stand)

  file_says : (line : ℕ) → said_from line (file_lines file)
      ≡ Ok (Width file.width (record { line = line; column = 1 }) (record { line = line; column = 12 }))
      ∷ Ok (RegisterSaid 0xfe file.capabilities (record { line = line + 1; column = 1 }) (record { line = line + 1; column = 5 })) ∷ others_said line
  file_says line =
      let width_says = width_said line file.width is.wide is.narrow in
      let cap_says = register_said (line + 1) 0xfe file.capabilities (omega arith) (fits 0xfe file.capabilities refl) (λ same. is.few_pairs) in
      ap (λ r. r ∷ said_of (line + 1) (register_line 0xfe file.capabilities) ∷ others_said line) width_says
      ∙ ap (λ r. Ok (Width file.width (record { line = line; column = 1 }) (record { line = line; column = 12 })) ∷ r ∷ others_said line) cap_says

  once_given : (number : ℕ) → times number ((0xfe, file.capabilities) ∷ valued value (writable file)) ≤ 1
  once_given number = elim (cases_Bool (0xfe == number)) [
    | inl hit ↦
        let e : 0xfe ≡ number = eqb-true _ _ hit in
        let none = times_below value 0x200 0x300 number (writable file) ascend (omega arith) in
        rw hit (omega (arith, none))
    | inr miss ↦ rw miss (times_once value 0x200 0x300 number (writable file) ascend)
  ]

  as_at_power_up : (number : ℕ) → times number ((0xfe, file.capabilities) ∷ valued value (writable file)) ≡ 0 → value_at file number ≡ value_at (blank_file file.width file.capabilities) number
  as_at_power_up number none = elim (cases_Bool (0xfe == number)) [
    | inl hit ↦ absurd (let e = rw hit at none in omega (arith, e))
    | inr miss ↦
        let gone = absent number (rw miss at none) (register_of file number) refl in
        let other : (number == 0xfe) ≡ false = turned number miss in
        rw (other, gone) refl
  ]
    where
      turned : (a : ℕ) → (0xfe == a) ≡ false → (a == 0xfe) ≡ false
      turned a miss = grind (arith, nat_tests)

  -- what the lines of the file say
  pub file_good : (line : ℕ) → list_all is_ok (said_from line (file_lines file)) ≡ true
  file_good line = ap (list_all is_ok) (file_says line) ∙ (registers_say line).good

  pub file_versions : (line : ℕ) → versions (said_from line (file_lines file)) ≡ []
  file_versions line = ap versions (file_says line) ∙ (registers_say line).has_versions

  pub file_sections : (line : ℕ) → section_numbers (said_from line (file_lines file)) ≡ []
  file_sections line = ap section_numbers (file_says line) ∙ (registers_say line).has_sections

  file_widths : (line : ℕ) → widths (said_from line (file_lines file)) ≡ file.width ∷ []
  file_widths line = ap widths (file_says line) ∙ (ap (λ ws. file.width ∷ ws) (registers_say line).has_widths)

  file_given : (line : ℕ) → given (said_from line (file_lines file)) ≡ (0xfe, file.capabilities) ∷ valued value (writable file)
  file_given line = ap given (file_says line) ∙ (ap (λ gs. let g : ℕ × ℕ = (0xfe, file.capabilities) in g ∷ gs) (registers_say line).gives)

  file_section : (line : ℕ) → ShowsSection (said_from line (file_lines file)) file
  file_section line = record {
    once = λ number. rw (file_given line) (once_given number);
    one_width = rw (file_widths line) (omega arith);
    values = rw (file_given line) (refl, values_stand);
    defaults = λ number none. as_at_power_up number (rw (file_given line) at none);
    is_file = is;
  }

  pub file_first : (line : ℕ) → ShowsFirst (said_from line (file_lines file)) file
  file_first line = record { section = file_section line; capabilities = (valued value (writable file), file_given line); width = ap width_of (sym (file_widths line)) }

  pub file_later : (first : RegisterFile) (line : ℕ) → file.width ≡ first.width → file.capabilities ≡ first.capabilities → ShowsLater first (said_from line (file_lines file)) file
  file_later first line width capabilities = record { section = file_section line; same_widths = rw (file_widths line) (width, tt); width = width; capabilities = capabilities }

-- ---- version 2

said-append : (line : ℕ) (xs ys : List (List ℕ)) → said_from line (xs ++ ys) ≡ said_from line xs ++ said_from (line + length xs) ys
said-append line [] ys = let e : line ≡ line + 0 = omega arith in ap (λ n. said_from n ys) e
said-append line (x ∷ xs) ys =
    let e : line + 1 + length xs ≡ line + length (x ∷ xs) = omega arith in
    ap (λ rs. said_of line x ∷ rs) (said-append (line + 1) xs ys ∙ ap (λ n. said_from (line + 1) xs ++ said_from n ys) e)

-- lines without a section before others
record Before (says rest : List Reading) : Type 0 where
  good : list_all is_ok rest ≡ true → list_all is_ok (says ++ rest) ≡ true
  told : versions rest ≡ [] → versions (says ++ rest) ≡ []
  numbers : section_numbers (says ++ rest) ≡ section_numbers rest
  up_to : up_to_section (says ++ rest) ≡ says ++ up_to_section rest
  behind : behind_sections (says ++ rest) ≡ behind_sections rest

stands_before : (says rest : List Reading) → list_all is_ok says ≡ true → versions says ≡ [] → section_numbers says ≡ [] → Before says rest
stands_before [] rest good told none = record { good = λ g. g; told = λ t. t; numbers = refl; up_to = refl; behind = refl }
stands_before (Err fault ∷ says) rest good told none = cc good
stands_before (Ok Nothing ∷ says) rest good told none =
    let b = stands_before says rest good told none in
    record { good = b.good; told = b.told; numbers = b.numbers; up_to = ap (λ ls. Ok Nothing ∷ ls) b.up_to; behind = b.behind }
stands_before (Ok (Version version place) ∷ says) rest good told none = cc told
stands_before (Ok (Section number place) ∷ says) rest good told none = cc none
stands_before (Ok (Width width first second) ∷ says) rest good told none =
    let b = stands_before says rest good told none in
    record { good = b.good; told = b.told; numbers = b.numbers; up_to = ap (λ ls. Ok (Width width first second) ∷ ls) b.up_to; behind = b.behind }
stands_before (Ok (RegisterSaid number value first second) ∷ says) rest good told none =
    let b = stands_before says rest good told none in
    record { good = b.good; told = b.told; numbers = b.numbers; up_to = ap (λ ls. Ok (RegisterSaid number value first second) ∷ ls) b.up_to; behind = b.behind }

-- what the lines of each file say, where a section line stands before each
abbrev files_said : ℕ → List RegisterFile → List (List Reading)
files_said line [] = []
files_said line (file ∷ files) = said_from (line + 1) (file_lines file) ∷ files_said (line + 1 + length (file_lines file)) files

record SectionsSaid (line number : ℕ) (files : List RegisterFile) : Type 0 where
  good : list_all is_ok (said_from line (section_lines number files)) ≡ true
  told : versions (said_from line (section_lines number files)) ≡ []
  numbers : section_numbers (said_from line (section_lines number files)) ≡ count_from number files
  up_to : up_to_section (said_from line (section_lines number files)) ≡ []
  behind : behind_sections (said_from line (section_lines number files)) ≡ files_said line files

sections_say : (line number : ℕ) (files : List RegisterFile) → number + length files ≤ 16 → AllByRecursion IsRegisterFile files → AllByRecursion HasWords files → SectionsSaid line number files
sections_say line number [] few are fit = record { good = refl; told = refl; numbers = refl; up_to = refl; behind = refl }
sections_say line number (file ∷ files) few are fit =
    let own : List Reading = said_from (line + 1) (file_lines file) in
    let rest : List Reading = said_from (line + 1 + length (file_lines file)) (section_lines (number + 1) files) in
    let later = sections_say (line + 1 + length (file_lines file)) (number + 1) files (omega (arith, few)) are.1 fit.1 in
    let whole : said_from line (section_lines number (file ∷ files)) ≡ Ok (Section number (record { line = line; column = 1 })) ∷ (own ++ rest) =
    ap (λ r. r ∷ said_from (line + 1) (file_lines file ++ section_lines (number + 1) files)) (section_said line number (omega (arith, few))) ∙ ap (λ rs. Ok (Section number (record { line = line; column = 1 })) ∷ rs) (said-append (line + 1) (file_lines file) (section_lines (number + 1) files)) in
    let b = stands_before own rest (file_good file are.0 fit.0 (line + 1)) (file_versions file are.0 fit.0 (line + 1)) (file_sections file are.0 fit.0 (line + 1)) in
    let alone : own ++ up_to_section rest ≡ own = ap (λ ls. own ++ ls) later.up_to ∙ append-nil own in
    record {
      good = ap (list_all is_ok) whole ∙ b.good later.good;
      told = ap versions whole ∙ b.told later.told;
      numbers = ap section_numbers whole ∙ ap (λ ns. number ∷ ns) (b.numbers ∙ later.numbers);
      up_to = ap up_to_section whole;
      behind = ap behind_sections whole ∙ ap (λ ls. ls ∷ behind_sections (own ++ rest)) (b.up_to ∙ alone) ∙ ap (λ ss. own ∷ ss) (b.behind ∙ later.behind);
    }

later_shown : (first : RegisterFile) (line : ℕ) (files : List RegisterFile) → AllByRecursion IsRegisterFile files → AllByRecursion HasWords files → AllByRecursion (λ file. file.width ≡ first.width) files → AllByRecursion (λ file. file.capabilities ≡ first.capabilities) files
    → ShowAllLater first (files_said line files) files
later_shown first line [] are fit widths capabilities = tt
later_shown first line (file ∷ files) are fit widths capabilities =
    (file_later file are.0 fit.0 first (line + 1) widths.0 capabilities.0, later_shown first (line + 1 + length (file_lines file)) files are.1 fit.1 widths.1 capabilities.1)

all_plain : (xs ys : List (List ℕ)) → AllByRecursion (λ line. list_all is_plain line ≡ true) xs → AllByRecursion (λ line. list_all is_plain line ≡ true) ys → AllByRecursion (λ line. list_all is_plain line ≡ true) (xs ++ ys)
all_plain [] ys all more = more
all_plain (x ∷ xs) ys all more = (all.0, all_plain xs ys all.1 more)

sections_plain : (number : ℕ) (files : List RegisterFile) → number + length files ≤ 16 → AllByRecursion IsRegisterFile files → AllByRecursion HasWords files → AllByRecursion (λ line. list_all is_plain line ≡ true) (section_lines number files)
sections_plain number [] few are fit = tt
sections_plain number (file ∷ files) few are fit =
    (section_plain number (omega (arith, few)), all_plain (file_lines file) (section_lines (number + 1) files) (lines_plain file are.0 fit.0) (sections_plain (number + 1) files (omega (arith, few)) are.1 fit.1))

pub is_dump_of : (file : RegisterFile) → IsRegisterFile file → IsDump (dump_of file)
is_dump_of file is = record {
  known = inl refl;
  one = λ first. refl;
  some = omega arith;
  few = omega arith;
  are_files = (is, tt);
  one_width = (refl, tt);
  one_capabilities = (refl, tt);
}

file_shown : (file : RegisterFile) → IsRegisterFile file → HasWords file → Shown (canon (dump_of file)) (dump_of file)
file_shown file is fits =
    let back : said_by (canon (dump_of file)) ≡ said_from 1 (file_lines file) = ap (said_from 1) (ended_lines (file_lines file) (lines_plain file is fits)) in
    subst (λ says. ShownBy says (dump_of file)) (sym back) (one_section (said_from 1 (file_lines file)) file (file_good file is fits 1) (file_versions file is fits 1) (file_sections file is fits 1) (file_first file is fits 1))

sections_shown : (file : RegisterFile) (files : List RegisterFile) → IsDump (record { version = 2; files = file ∷ files }) → AllByRecursion HasWords (file ∷ files)
    → Shown (canon (record { version = 2; files = file ∷ files })) (record { version = 2; files = file ∷ files })
sections_shown file files is fit =
    let lines = section_lines 0 (file ∷ files) in
    let say = sections_say 2 0 (file ∷ files) (omega (arith, is.few)) is.are_files fit in
    let says : said_by (canon (record { version = 2; files = file ∷ files })) ≡ Ok (Version 2 (record { line = 1; column = 1 })) ∷ said_from 2 (section_lines 0 (file ∷ files)) =
    ap (said_from 1) (ended_lines (canon_lines (record { version = 2; files = file ∷ files })) (refl, sections_plain 0 (file ∷ files) (omega (arith, is.few)) is.are_files fit)) in
    subst (λ rs. ShownBy rs (record { version = 2; files = file ∷ files })) (sym says) (record {
      good = say.good;
      version = refl;
      told_first = say.told;
      numbers = say.numbers;
      inside = λ two. (ap given inside_none, ap widths inside_none);
      sections = subst (λ sections. ShowAll sections (file ∷ files)) (sym (ap (sections_in (Ok (Version 2 (record { line = 1; column = 1 })) ∷ said_from 2 (section_lines 0 (file ∷ files)))) say.behind))
          (file_first file is.are_files.0 fit.0 (2 + 1), later_shown file (2 + 1 + length (file_lines file)) files is.are_files.1 fit.1 is.one_width.1 is.one_capabilities.1);
    })
  where
    inside_none : up_to_section (Ok (Version 2 (record { line = 1; column = 1 })) ∷ said_from 2 (section_lines 0 (file ∷ files))) ≡ Ok (Version 2 (record { line = 1; column = 1 })) ∷ []
    inside_none = ap (λ ls. Ok (Version 2 (record { line = 1; column = 1 })) ∷ ls) (sections_say 2 0 (file ∷ files) (omega (arith, is.few)) is.are_files fit).up_to

pub canon_shown : (dump : Dump) → IsDump dump → AllByRecursion HasWords dump.files → Shown (canon dump) dump
canon_shown dump is fit = by dump.version dump.files refl is fit
  where
    by : (v : ℕ) (files : List RegisterFile) → dump ≡ record { version = v; files = files } → IsDump (record { version = v; files = files }) → AllByRecursion HasWords files → Shown (canon dump) dump
    by v [] same is fit = absurd (omega (arith, is.some))
    by v (file ∷ files) same is fit = elim is.known [
      | inl one ↦ first files one (is.one one) same is fit
      | inr two ↦ rw (same, two) (sections_shown file files (rw two at is) fit)
    ]
      where
        first : (files : List RegisterFile) → v ≡ 1 → length (file ∷ files) ≡ 1 → dump ≡ record { version = v; files = file ∷ files } → IsDump (record { version = v; files = file ∷ files }) → AllByRecursion HasWords (file ∷ files) → Shown (canon dump) dump
        first [] one alone same is fit = rw (same, one) (file_shown file is.are_files.0 fit.0)
        first (f ∷ files) one alone same is fit = absurd (omega (arith, alone))

-- texts are equal where dumps are
pub canon_apart : (dump other : Dump) → IsDump dump → IsDump other → AllByRecursion HasWords dump.files → AllByRecursion HasWords other.files → canon dump ≡ canon other → dump ≡ other
canon_apart dump other is is_other fits fits_other same =
    one_dump (canon other) dump other (subst (λ text. Shown text dump) same (canon_shown dump is fits)) (canon_shown other is_other fits_other)
