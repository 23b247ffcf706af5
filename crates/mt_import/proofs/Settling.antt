-- How a line leads on the readers of all formats, and what the one that is taken comes to.
use Rattle.std.proofs.Common.{◌≡◌, ◌∙◌, ◌+◌, ℕ, true, false, List, [], ◌∷◌, Option, Some, None, refl, sym, subst, ap}
use Rattle.std.specs.Prelude.{Result, Ok, Err}
use Rattle.mt_text.specs.Text.{is_too_long, lines_of, past_limit}
use Rattle.mt_text.specs.Reader.{Course}
use Rattle.mt_text.specs.declared.place.Place.{Place}
use Rattle.mt_import.specs.declared.fault.ImportFault.TheVariants.{BadLine}
use Rattle.mt_import.specs.declared.fault.Reason.TheVariants.{LongLine}
use Rattle.mt_import.specs.declared.format.Choice.TheVariants.{Auto}
use Rattle.mt_import.specs.declared.format.Format.{Format}
use Rattle.mt_import.specs.declared.format.Format.TheVariants.{Rdmsr, X86info, Inteltool, Coreboot, Edk2, Linux, Xen, Chipsec, Windbg, Plain}
use Rattle.mt_import.specs.declared.shape.Census.{Census}
use Rattle.mt_import.specs.declared.shape.Failure.{Failure}
use Rattle.mt_import.specs.Census.{beside, census_after, census_behind, no_census, passed_over, taken}
use Rattle.mt_import.specs.Import.{answered, failed, tables_outcome}
use Rattle.mt_import.specs.Outcome.{Outcome}
use Rattle.mt_import.specs.Readers.{AllTries, LeadsBest, settled, tries_in}
use Rattle.mt_import.specs.Supplied.{Supplied}
use Rattle.mt_import.specs.Tries.{Begins, LeadsOn, LeadsTo, TriesSeen, failure_or}
use Rattle.mt_import.proofs.Takes.{begins_log, log_course, stops_long}

module _ (supplied : Supplied) where
  pub best_stops : (readers : AllTries) (census : Census) (number : ℕ) (course : Course (Result Outcome Outcome)) (line : List ℕ) (lines : List (List ℕ)) (end : Place) → LeadsBest supplied readers census number course → is_too_long line ≡ true
      → course (line ∷ lines) end ≡ Err (beside (passed_over census) (failed supplied.table (failure_or (tries_in readers (taken census)) (BadLine LongLine (past_limit number)))))
  best_stops readers census number course line lines end led far =
      let last : census_after census number (line ∷ lines) ≡ census = rw far refl in
      led.leads (line ∷ lines) end
      ∙ ap (λ (c : Census). settled supplied.table (passed_over c) (led.courses (taken c) (line ∷ lines) end)) last
      ∙ ap (settled supplied.table (passed_over census)) (stops_long true supplied (tries_in readers (taken census)) number (led.courses (taken census)) line lines end (led.each (taken census)) far)

  pub best_leads : (old new : AllTries) (census next : Census) (number : ℕ) (course : Course (Result Outcome Outcome)) (line : List ℕ) → LeadsBest supplied old census number course → is_too_long line ≡ false
      → next ≡ census_behind census number line → ((format : Option Format) → LeadsOn supplied line number (tries_in old format) (tries_in new format))
      → LeadsBest supplied new next (number + 1) (λ lines. course (line ∷ lines))
  best_leads old new census next number course line led short is on = record {
    courses = λ format lines. led.courses format (line ∷ lines);
    each = λ format. on format true (led.courses format) (led.each format);
    leads = λ lines end.
        let behind : census_after census number (line ∷ lines) ≡ census_after (census_behind census number line) (number + 1) lines = rw short refl in
        rw is (led.leads (line ∷ lines) end ∙ ap (λ (c : Census). settled supplied.table (passed_over c) (led.courses (taken c) (line ∷ lines) end)) behind);
  }

  -- at the end, by the answer of the one that is taken
  pub best_ends : (readers : AllTries) (census : Census) (number : ℕ) (course : Course (Result Outcome Outcome)) (end : Place) → LeadsBest supplied readers census number course
      → (tries : TriesSeen) (answer : Result Outcome Failure) → tries ≡ tries_in readers (taken census)
      → ((own : Course (Result Outcome Failure)) (at : Place) → LeadsTo true supplied tries number own → answer ≡ own [] at)
      → settled supplied.table (passed_over census) answer ≡ course [] end
  best_ends readers census number course end led tries answer is value =
      ap (settled supplied.table (passed_over census)) (value (led.courses (taken census)) end (subst (λ (t : TriesSeen). LeadsTo true supplied t number (led.courses (taken census))) (sym is) (led.each (taken census))))
      ∙ sym (led.leads [] end)

  -- what all lines lead to
  abbrev pub best_course : Course (Result Outcome Outcome)
  best_course lines end =
      let last = census_after no_census 1 lines in
      settled supplied.table (passed_over last) (log_course true supplied (taken last) lines end)

  pub begins_best : (readers : AllTries) → ((format : Option Format) → Begins format (tries_in readers format)) → LeadsBest supplied readers no_census 1 best_course
  begins_best readers begins = record {
    courses = log_course true supplied;
    each = λ format. begins_log true supplied format (tries_in readers format) (begins format);
    leads = λ lines end. refl;
  }

  ok_settled : (front : List ℕ) (answer : Result Outcome Failure) (told : Outcome) → Ok told ≡ settled supplied.table front answer → told ≡ beside front (answered supplied.table answer)
  ok_settled front (Ok other) told is = cc is
  ok_settled front (Err other) told is = cc is

  err_settled : (front : List ℕ) (answer : Result Outcome Failure) (told : Outcome) → Err told ≡ settled supplied.table front answer → told ≡ beside front (answered supplied.table answer)
  err_settled front (Ok other) told is = cc is
  err_settled front (Err other) told is = cc is

  module _ (bytes : List ℕ) (end : Place) (told : Outcome) where
    pub ok_outcome : Ok told ≡ best_course (lines_of bytes) end → told ≡ tables_outcome Auto supplied bytes
    ok_outcome is = ok_settled _ _ told is

    pub err_outcome : Err told ≡ best_course (lines_of bytes) end → told ≡ tables_outcome Auto supplied bytes
    err_outcome is = err_settled _ _ told is

-- ---- each format

pub begins_each : (a b c d e f g h i j k : TriesSeen) → Begins None a → Begins (Some Xen) b → Begins (Some Linux) c → Begins (Some Coreboot) d → Begins (Some Edk2) e → Begins (Some Inteltool) f → Begins (Some X86info) g → Begins (Some Rdmsr) h → Begins (Some Chipsec) i → Begins (Some Windbg) j → Begins (Some Plain) k
    → (format : Option Format) → Begins format (tries_in (record { none = a; xen = b; linux = c; coreboot = d; edk2 = e; inteltool = f; x86info = g; rdmsr = h; chipsec = i; windbg = j; plain = k }) format)
begins_each a b c d e f g h i j k x0 x1 x2 x3 x4 x5 x6 x7 x8 x9 x10 None = x0
begins_each a b c d e f g h i j k x0 x1 x2 x3 x4 x5 x6 x7 x8 x9 x10 (Some Xen) = x1
begins_each a b c d e f g h i j k x0 x1 x2 x3 x4 x5 x6 x7 x8 x9 x10 (Some Linux) = x2
begins_each a b c d e f g h i j k x0 x1 x2 x3 x4 x5 x6 x7 x8 x9 x10 (Some Coreboot) = x3
begins_each a b c d e f g h i j k x0 x1 x2 x3 x4 x5 x6 x7 x8 x9 x10 (Some Edk2) = x4
begins_each a b c d e f g h i j k x0 x1 x2 x3 x4 x5 x6 x7 x8 x9 x10 (Some Inteltool) = x5
begins_each a b c d e f g h i j k x0 x1 x2 x3 x4 x5 x6 x7 x8 x9 x10 (Some X86info) = x6
begins_each a b c d e f g h i j k x0 x1 x2 x3 x4 x5 x6 x7 x8 x9 x10 (Some Rdmsr) = x7
begins_each a b c d e f g h i j k x0 x1 x2 x3 x4 x5 x6 x7 x8 x9 x10 (Some Chipsec) = x8
begins_each a b c d e f g h i j k x0 x1 x2 x3 x4 x5 x6 x7 x8 x9 x10 (Some Windbg) = x9
begins_each a b c d e f g h i j k x0 x1 x2 x3 x4 x5 x6 x7 x8 x9 x10 (Some Plain) = x10

pub leads_each : (supplied : Supplied) (line : List ℕ) (number : ℕ) (old new : AllTries) → LeadsOn supplied line number old.none new.none → LeadsOn supplied line number old.xen new.xen → LeadsOn supplied line number old.linux new.linux → LeadsOn supplied line number old.coreboot new.coreboot → LeadsOn supplied line number old.edk2 new.edk2 → LeadsOn supplied line number old.inteltool new.inteltool → LeadsOn supplied line number old.x86info new.x86info → LeadsOn supplied line number old.rdmsr new.rdmsr → LeadsOn supplied line number old.chipsec new.chipsec → LeadsOn supplied line number old.windbg new.windbg → LeadsOn supplied line number old.plain new.plain
    → (format : Option Format) → LeadsOn supplied line number (tries_in old format) (tries_in new format)
leads_each supplied line number old new x0 x1 x2 x3 x4 x5 x6 x7 x8 x9 x10 None = x0
leads_each supplied line number old new x0 x1 x2 x3 x4 x5 x6 x7 x8 x9 x10 (Some Xen) = x1
leads_each supplied line number old new x0 x1 x2 x3 x4 x5 x6 x7 x8 x9 x10 (Some Linux) = x2
leads_each supplied line number old new x0 x1 x2 x3 x4 x5 x6 x7 x8 x9 x10 (Some Coreboot) = x3
leads_each supplied line number old new x0 x1 x2 x3 x4 x5 x6 x7 x8 x9 x10 (Some Edk2) = x4
leads_each supplied line number old new x0 x1 x2 x3 x4 x5 x6 x7 x8 x9 x10 (Some Inteltool) = x5
leads_each supplied line number old new x0 x1 x2 x3 x4 x5 x6 x7 x8 x9 x10 (Some X86info) = x6
leads_each supplied line number old new x0 x1 x2 x3 x4 x5 x6 x7 x8 x9 x10 (Some Rdmsr) = x7
leads_each supplied line number old new x0 x1 x2 x3 x4 x5 x6 x7 x8 x9 x10 (Some Chipsec) = x8
leads_each supplied line number old new x0 x1 x2 x3 x4 x5 x6 x7 x8 x9 x10 (Some Windbg) = x9
leads_each supplied line number old new x0 x1 x2 x3 x4 x5 x6 x7 x8 x9 x10 (Some Plain) = x10
