-- The format that `auto` takes, and what it comes to.
use Rattle.std.proofs.Common.{◌≡◌, ◌≢◌, ◌∙◌, ◌≤◌, ◌<◌, ◌+◌, ◌-◌, ◌==◌, nat_lt, ℕ, zero, suc, Bool, true, false, List, [], ◌∷◌, ◌++◌, length, replicate, slice_set, Option, Some, None, refl, sym, ap, subst, arith, eq-eqb, lit<, inl, inr}
use Rattle.std.specs.Prelude.{◌⊎◌, ⊤, Err, Ok, if◌then◌else◌}
use Rattle.std.specs.List.{AllByRecursion, slice_index_or}
use Rattle.std.proofs.lemmas.Bool.{cases_lt, eqb-true}
use Rattle.std.proofs.lemmas.List.{get_or-set_other}
use Rattle.std.proofs.lemmas.Grind.{get_or-set_at}
use Rattle.std.proofs.Math.ListN.{length-set}
use Rattle.std.specs.Option.{option_map_or}
use Rattle.std.proofs.lemmas.Bool.Decides.{nat_tests}
use Rattle.mt_text.specs.Text.{is_too_long}
use Rattle.mt_ports.specs.Causes.{one_more}
use Rattle.mt_import.specs.declared.fault.ImportFault.{ImportFault}
use Rattle.mt_import.specs.declared.format.Choice.TheVariants.{Auto, Only}
use Rattle.mt_import.specs.declared.format.Format.{Format}
use Rattle.mt_import.specs.declared.format.Format.TheVariants.{Rdmsr, X86info, Inteltool, Coreboot, Edk2, Linux, Xen, Chipsec, Windbg, Plain}
use Rattle.mt_import.specs.declared.reading.LineSays.{LineSays}
use Rattle.mt_import.specs.declared.shape.Best.{Best}
use Rattle.mt_import.specs.declared.shape.Census.{Census}
use Rattle.mt_import.specs.declared.shape.Tables.{Tables}
use Rattle.mt_import.specs.declared.shape.Warned.{Warned}
use Rattle.mt_import.specs.Census.{best_of, best_with, census_after, census_behind, census_by, census_of, census_with, counts_first, first_best, format_at, format_of, lines_in, no_census, place_of, shows_register, taken}
use Rattle.mt_import.specs.Import.{answered, closed, failure, log_answer, log_outcome, tables_outcome}
use Rattle.mt_import.specs.LogTables.{facts_of_tables, has_picked, missing_table, tables_of}
use Rattle.mt_import.specs.Outcome.{Seen, Summary, Outcome, advice_of, dump_outcome, ended, ended_by, facts_fault, facts_outcome, findings_of, is_empty, nothing_seen, refusal, seen_after, summary_of, unless, warned_till}
use Rattle.mt_import.specs.Readings.{Fact, is_match}
use Rattle.mt_import.specs.Shown.{format_told, said_of, shown}
use Rattle.mt_import.specs.Supplied.{Supplied}
use Rattle.mt_import_laws.specs.FirstLine.{ComeToSame, TakesMost}

-- ---- no more lines of another format show registers

record IsChosen (census : Census) (best : Best) : Type 0 where
  own : (format : Format) → best.format ≡ Some format → best.lines ≤ lines_in census format
  none : best.format ≡ None → best.lines ≡ 0

record Passes (census : Census) (format : Format) (before best : Best) : Type 0 where
  chosen : IsChosen census best
  rises : before.lines ≤ best.lines
  least : lines_in census format ≤ best.lines

passes : (census : Census) (format : Format) (before : Best) → IsChosen census before → Passes census format before (best_with format census before)
passes census format before chosen = by (nat_lt before.lines (lines_in census format)) refl
  where
    by : (more : Bool) → nat_lt before.lines (lines_in census format) ≡ more
        → Passes census format before (if more then record { lines = lines_in census format; format = Some format } else before)
    by true is =
        let less : before.lines < lines_in census format = grind (arith, nat_tests, is) in
        record {
          chosen = record {
            own = λ other same. let e : format ≡ other = cc same in subst (λ f. lines_in census format ≤ lines_in census f) e (omega arith);
            none = λ e. cc e;
          };
          rises = omega (arith, less);
          least = omega arith;
        }
    by false is = record { chosen = chosen; rises = omega arith; least = grind (arith, nat_tests, is) }

first_chosen : (census : Census) (first : Option Format) → census.first ≡ first → IsChosen census (record { lines = counts_first census first; format = first })
first_chosen census None is = record { own = λ format e. cc e; none = λ e. refl }
first_chosen census (Some format) is = record {
  own = λ other same. let e : format ≡ other = cc same in subst (λ f. (if place_of format == 9 then 0 else lines_in census format) ≤ lines_in census f) e (by (place_of format == 9));
  none = λ e. cc e;
}
  where
    by : (last : Bool) → (if last then 0 else lines_in census format) ≤ lines_in census format
    by true = omega arith
    by false = omega arith

module _ (census : Census) where
  abbrev b0 : Best
  b0 = first_best census

  abbrev b1 : Best
  b1 = best_with Xen census b0

  abbrev b2 : Best
  b2 = best_with Linux census b1

  abbrev b3 : Best
  b3 = best_with Coreboot census b2

  abbrev b4 : Best
  b4 = best_with Edk2 census b3

  abbrev b5 : Best
  b5 = best_with Inteltool census b4

  abbrev b6 : Best
  b6 = best_with X86info census b5

  abbrev b7 : Best
  b7 = best_with Rdmsr census b6

  abbrev b8 : Best
  b8 = best_with Chipsec census b7

  p0 : IsChosen census b0
  p0 = first_chosen census census.first refl

  p1 : Passes census Xen b0 b1
  p1 = passes census Xen b0 p0

  p2 : Passes census Linux b1 b2
  p2 = passes census Linux b1 p1.chosen

  p3 : Passes census Coreboot b2 b3
  p3 = passes census Coreboot b2 p2.chosen

  p4 : Passes census Edk2 b3 b4
  p4 = passes census Edk2 b3 p3.chosen

  p5 : Passes census Inteltool b4 b5
  p5 = passes census Inteltool b4 p4.chosen

  p6 : Passes census X86info b5 b6
  p6 = passes census X86info b5 p5.chosen

  p7 : Passes census Rdmsr b6 b7
  p7 = passes census Rdmsr b6 p6.chosen

  p8 : Passes census Chipsec b7 b8
  p8 = passes census Chipsec b7 p7.chosen

  p9 : Passes census Windbg b8 (best_of census)
  p9 = passes census Windbg b8 p8.chosen

  joins : (a b c : ℕ) → a ≤ b → b ≤ c → a ≤ c
  joins a b c one two = omega (arith, one, two)

  from8 : b8.lines ≤ (best_of census).lines
  from8 = p9.rises

  from7 : b7.lines ≤ (best_of census).lines
  from7 = joins b7.lines b8.lines (best_of census).lines p8.rises from8

  from6 : b6.lines ≤ (best_of census).lines
  from6 = joins b6.lines b7.lines (best_of census).lines p7.rises from7

  from5 : b5.lines ≤ (best_of census).lines
  from5 = joins b5.lines b6.lines (best_of census).lines p6.rises from6

  from4 : b4.lines ≤ (best_of census).lines
  from4 = joins b4.lines b5.lines (best_of census).lines p5.rises from5

  from3 : b3.lines ≤ (best_of census).lines
  from3 = joins b3.lines b4.lines (best_of census).lines p4.rises from4

  from2 : b2.lines ≤ (best_of census).lines
  from2 = joins b2.lines b3.lines (best_of census).lines p3.rises from3

  from1 : b1.lines ≤ (best_of census).lines
  from1 = joins b1.lines b2.lines (best_of census).lines p2.rises from2

  all_less : (other : Format) → other ≢ Plain → lines_in census other ≤ (best_of census).lines
  all_less Xen apart = joins (lines_in census Xen) b1.lines (best_of census).lines p1.least from1
  all_less Linux apart = joins (lines_in census Linux) b2.lines (best_of census).lines p2.least from2
  all_less Coreboot apart = joins (lines_in census Coreboot) b3.lines (best_of census).lines p3.least from3
  all_less Edk2 apart = joins (lines_in census Edk2) b4.lines (best_of census).lines p4.least from4
  all_less Inteltool apart = joins (lines_in census Inteltool) b5.lines (best_of census).lines p5.least from5
  all_less X86info apart = joins (lines_in census X86info) b6.lines (best_of census).lines p6.least from6
  all_less Rdmsr apart = joins (lines_in census Rdmsr) b7.lines (best_of census).lines p7.least from7
  all_less Chipsec apart = joins (lines_in census Chipsec) b8.lines (best_of census).lines p8.least from8
  all_less Windbg apart = p9.least
  all_less Plain apart = absurd (apart refl)

  at_most : (best : Option Format) → (best_of census).format ≡ best → (own other : Format) → best ≡ Some own → other ≢ Plain → lines_in census other ≤ lines_in census own
  at_most best is own other same apart = joins (lines_in census other) (best_of census).lines (lines_in census own) (all_less other apart) (p9.chosen.own own (is ∙ same))

  at_none : (best_of census).format ≡ None → (other : Format) → other ≢ Plain → lines_in census other ≡ 0
  at_none none other apart = let less = all_less other apart in let zero = p9.chosen.none none in omega (arith, less, zero)

pub takes_most : (text : List ℕ) → TakesMost text
unfolding taken
takes_most text = record {
  most = λ format other is apart. at_most (census_of text) (best_of (census_of text)).format refl format other is apart;
  untold = λ other is apart. at_none (census_of text) is other apart;
}

-- ---- what it comes to

-- the same to tell, beside another count and with or without the name of the format
same_end : (told : Summary) (auto : Bool) (advice : List ℕ) → ComeToSame (ended_by told) (ended_by (record told { auto = auto; advice = advice }))
same_end told auto advice = by (is_empty told.missing) told.width (told.values 0 0xfe)
  where
    by : (test : Bool) (width capabilities : Option ℕ)
        → ComeToSame (if test then dump_outcome (refusal told.tally told.missing) told width capabilities else refusal told.tally (told.missing ++ told.advice))
        (if test then dump_outcome (refusal told.tally told.missing) (record told { auto = auto; advice = advice }) width capabilities else refusal told.tally (told.missing ++ advice))
    by true None c = record { notes = refl; dump = refl; status = refl }
    by true (Some w) None = record { notes = refl; dump = refl; status = refl }
    by true (Some w) (Some c) = record { notes = refl; dump = refl; status = refl }
    by false w c = record { notes = refl; dump = refl; status = refl }

both_end : (supplied : Supplied) (seen : Seen) → ComeToSame (ended true supplied seen) (ended false supplied seen)
both_end supplied seen = same_end (summary_of true supplied (findings_of seen) seen.tally) false (advice_of false supplied (findings_of seen))

by_fault : (fault : Option ImportFault) (w : Warned) (a b : Outcome) → ComeToSame a b → ComeToSame (unless fault w a) (unless fault w b)
by_fault None w a b same = same
by_fault (Some fault) w a b same = record { notes = refl; dump = refl; status = refl }

both_closed : (supplied : Supplied) (tables : Tables) (seen : Seen) → ComeToSame (closed true supplied tables seen) (closed false supplied tables seen)
both_closed supplied tables seen = by (has_picked supplied.table tables)
  where
    by : (test : Bool) → ComeToSame (if test then ended true supplied seen else refusal seen.tally (missing_table supplied.table tables)) (if test then ended false supplied seen else refusal seen.tally (missing_table supplied.table tables))
    by true = both_end supplied seen
    by false = record { notes = refl; dump = refl; status = refl }

both_answered : (supplied : Supplied) (tables : Tables) (warned : Warned) (fault : Option ImportFault) (a b : Outcome) → ComeToSame a b
    → ComeToSame (answered supplied.table (option_map_or (λ f. Err (failure tables warned f)) fault (Ok a))) (answered supplied.table (option_map_or (λ f. Err (failure tables warned f)) fault (Ok b)))
both_answered supplied tables warned None a b same = same
both_answered supplied tables warned (Some fault) a b same = record { notes = refl; dump = refl; status = refl }

module _ (format : Format) (supplied : Supplied) (text : List ℕ) (is : format_of Auto text ≡ Some format) where
  pub auto_comes : ComeToSame (log_outcome Auto supplied text) (log_outcome (Only format) supplied text)
  auto_comes =
      let both : (o : Option Format) → ComeToSame (facts_outcome true supplied (nothing_seen o) (shown o text)) (facts_outcome false supplied (nothing_seen o) (shown o text)) =
      λ o. by_fault (facts_fault supplied (nothing_seen o) (shown o text)) (warned_till supplied (nothing_seen o) (shown o text)) _ _ (both_end supplied (seen_after (nothing_seen o) (shown o text))) in
      let same = subst (λ o. ComeToSame (facts_outcome true supplied (nothing_seen o) (shown o text)) (log_outcome (Only format) supplied text)) (sym is) (both (Some format)) in
      record { notes = same.notes; dump = same.dump; status = same.status }

  pub auto_comes_of_tables : ComeToSame (tables_outcome Auto supplied text) (tables_outcome (Only format) supplied text)
  auto_comes_of_tables =
      let facts : Option Format → List Fact = λ o. facts_of_tables supplied.table o text in
      let answer : Bool → Option Format → Outcome = λ auto o. answered supplied.table (log_answer auto supplied (tables_of o text) (nothing_seen o) (facts o)) in
      let both : (o : Option Format) → ComeToSame (answer true o) (answer false o) =
      λ o. both_answered supplied (tables_of o text) (warned_till supplied (nothing_seen o) (facts o)) (facts_fault supplied (nothing_seen o) (facts o)) _ _ (both_closed supplied (tables_of o text) (seen_after (nothing_seen o) (facts o))) in
      let same = subst (λ o. ComeToSame (answer true o) (tables_outcome (Only format) supplied text)) (sym is) (both (Some format)) in
      record { notes = same.notes; dump = same.dump; status = same.status }

-- ---- logs most of whose lines are of one format

-- The line says something in the format that shows no register, or tells none.
abbrev pub StaysIn : Format → List ℕ → Type 0
StaysIn format line = (number : ℕ) → (is_match (said_of format number line) ≡ true) ⊎ (format_told number line ≡ None)

-- The line shows a register in the format.
abbrev pub ShowsIn : Format → List ℕ → Type 0
ShowsIn format line = (number : ℕ) → (is_match (said_of format number line) ≡ true) × (shows_register (said_of format number line) ≡ true)

-- Lines of which so many more show a register in the format than stray from it, and at no place fewer.
abbrev pub Balanced : Format → ℕ → List (List ℕ) → Type 0
Balanced format more [] = ⊤
Balanced format more (line ∷ lines) = (StaysIn format line × Balanced format more lines) ⊎ (ShowsIn format line × Balanced format (more + 1) lines) ⊎ ((0 < more) × Balanced format (more - 1) lines)

-- the same, with how many more there are behind them
abbrev pub BalancedTo : Format → ℕ → ℕ → List (List ℕ) → Type 0
BalancedTo format more left [] = more ≡ left
BalancedTo format more left (line ∷ lines) =
    (StaysIn format line × BalancedTo format more left lines) ⊎ (ShowsIn format line × BalancedTo format (more + 1) left lines) ⊎ ((0 < more) × BalancedTo format (more - 1) left lines)

-- The first line that tells a format tells this one, and the lines behind it are balanced.
abbrev pub AreOf : Format → ℕ → List (List ℕ) → Type 0
AreOf format number [] = ⊥
AreOf format number (line ∷ lines) =
    ((format_told number line ≡ Some format) × (is_match (said_of format number line) ≡ true) × (shows_register (said_of format number line) ≡ true) × Balanced format 1 lines)
    ⊎ ((format_told number line ≡ None) × (is_too_long line ≡ false) × AreOf format (number + 1) lines)

-- all lines stay
pub all_stay : (format : Format) (more : ℕ) (lines : List (List ℕ)) → AllByRecursion (StaysIn format) lines → Balanced format more lines
all_stay format more [] all = tt
all_stay format more (line ∷ lines) all = inl (all.0, all_stay format more lines all.1)

pub shows_stays : (format : Format) (line : List ℕ) → ShowsIn format line → StaysIn format line
shows_stays format line shows number = inl (shows number).0

abbrev most_lines : ℕ
most_lines = 0xffffffffffffffff

abbrev IsAhead : ℕ → ℕ → ℕ → Type 0
IsAhead more a b = (a + more ≤ b) ⊎ (b ≡ most_lines)

-- each counts one line more
ahead_own : (more a b : ℕ) → b ≤ most_lines → IsAhead more a b → IsAhead (more + 1) a (one_more b)
ahead_own more a b few (inl less) = elim (cases_lt b most_lines) [
  | inl below ↦ let next : one_more b ≡ b + 1 = grind (arith, nat_tests, below) in inl (omega (arith, less, next))
  | inr top ↦ inr (grind (arith, nat_tests, top, few))
]
ahead_own more a b few (inr most) = inr (grind (arith, nat_tests, most))

ahead_other : (more a b : ℕ) → 0 < more → IsAhead more a b → IsAhead (more - 1) (one_more a) b
ahead_other more a b some (inl less) = let next : one_more a ≤ a + 1 = grind (arith, nat_tests) in inl (omega (arith, less, next, some))
ahead_other more a b some (inr most) = inr most

ahead_less : (more a b : ℕ) → 0 < more → IsAhead more a b → IsAhead (more - 1) a b
ahead_less more a b some (inl less) = inl (omega (arith, less, some))
ahead_less more a b some (inr most) = inr most

few_more : (a : ℕ) → a ≤ most_lines → one_more a ≤ most_lines
few_more a few = grind (arith, nat_tests, few)

ahead_at_last : (more a b : ℕ) → a ≤ most_lines → IsAhead more a b → a ≤ b
ahead_at_last more a b few (inl less) = omega (arith, less)
ahead_at_last more a b few (inr most) = omega (arith, few, most)

module _ (format : Format) (last : (place_of format == 9) ≡ false) where
  -- The format is the first, and so many more lines of it show registers than those of each other one, unless there are as many as can be counted.
  record Leads (more : ℕ) (census : Census) : Type 0 where
    first : census.first ≡ Some format
    size : length census.counts ≡ 10
    few : (k : ℕ) → slice_index_or census.counts k 0 ≤ most_lines
    each : (k : ℕ) → (k == place_of format) ≡ false → IsAhead more (slice_index_or census.counts k 0) (lines_in census format)

  few_places : (f : Format) → place_of f < 10
  few_places Xen = lit< tt
  few_places Linux = lit< tt
  few_places Coreboot = lit< tt
  few_places Edk2 = lit< tt
  few_places Inteltool = lit< tt
  few_places X86info = lit< tt
  few_places Rdmsr = lit< tt
  few_places Chipsec = lit< tt
  few_places Windbg = lit< tt
  few_places Plain = lit< tt

  -- a count is raised at one place
  module _ (counts : List ℕ) (k at : ℕ) (value : ℕ) where
    raised_own : k ≡ at → at < length counts → slice_index_or (slice_set counts at value) k 0 ≡ value
    raised_own same within = get_or-set_at counts at k value 0 same within

    raised_other : k ≢ at → slice_index_or (slice_set counts at value) k 0 ≡ slice_index_or counts k 0
    raised_other apart = get_or-set_other counts at k value 0 apart

  differ : (k at : ℕ) → (k == at) ≡ false → k ≢ at
  differ k at is same = let e : (at == at) ≡ false = subst (λ n. (n == at) ≡ false) same is in grind (arith, nat_tests, e)

  differ_not : (k at : ℕ) → k ≢ at → (k == at) ≡ false
  differ_not k at apart = by (k == at) refl
    where
      by : (test : Bool) → (k == at) ≡ test → test ≡ false
      by false is = refl
      by true is = absurd (apart (eqb-true k at is))

  -- behind a line of a format that shows a register
  module _ (more : ℕ) (census : Census) (leads : Leads more census) where
    abbrev raised : ℕ → List ℕ
    raised at = slice_set census.counts at (one_more (slice_index_or census.counts at 0))

    raised_few : (at k : ℕ) → at < 10 → slice_index_or (raised at) k 0 ≤ most_lines
    raised_few at k within = by (k == at) refl
      where
        by : (test : Bool) → (k == at) ≡ test → slice_index_or (raised at) k 0 ≤ most_lines
        by true is =
            let own = raised_own census.counts k at (one_more (slice_index_or census.counts at 0)) (eqb-true k at is) (omega (arith, leads.size, within)) in
            let few = few_more (slice_index_or census.counts at 0) (leads.few at) in omega (arith, own, few)
        by false is =
            let other = raised_other census.counts k at (one_more (slice_index_or census.counts at 0)) (differ k at is) in
            let few = leads.few k in omega (arith, other, few)

    leads_own : Leads (more + 1) (record { first = Some format; counts = raised (place_of format) })
    leads_own = record {
      first = refl;
      size = length-set census.counts (place_of format) (one_more (lines_in census format)) ∙ leads.size;
      few = λ k. raised_few (place_of format) k (few_places format);
      each = λ k apart.
          let own = raised_own census.counts (place_of format) (place_of format) (one_more (lines_in census format)) refl (omega (arith, leads.size, few_places format)) in
          let other = raised_other census.counts k (place_of format) (one_more (lines_in census format)) (differ k (place_of format) apart) in
          rw (other, own) (ahead_own more (slice_index_or census.counts k 0) (lines_in census format) (leads.few (place_of format)) (leads.each k apart));
    }

    -- of another format, which may show one
    leads_other : (at : ℕ) → at < 10 → (at == place_of format) ≡ false → 0 < more → Leads (more - 1) (record { first = Some format; counts = raised at })
    leads_other at within apart some = record {
      first = refl;
      size = length-set census.counts at (one_more (slice_index_or census.counts at 0)) ∙ leads.size;
      few = λ k. raised_few at k within;
      each = λ k away.
          let own = raised_other census.counts (place_of format) at (one_more (slice_index_or census.counts at 0)) (λ e. let f : true ≡ false = sym (ap (λ n. n == place_of format) (sym e) ∙ eq-eqb (place_of format) (place_of format) refl) ∙ apart in cc f) in
          rw own (by k away (k == at) refl);
    }
      where
        by : (k : ℕ) → (k == place_of format) ≡ false → (test : Bool) → (k == at) ≡ test → IsAhead (more - 1) (slice_index_or (raised at) k 0) (lines_in census format)
        by k away true is =
            let own = raised_own census.counts k at (one_more (slice_index_or census.counts at 0)) (eqb-true k at is) (omega (arith, leads.size, within)) in
            rw own (ahead_other more (slice_index_or census.counts at 0) (lines_in census format) some (leads.each at apart))
        by k away false is =
            let other = raised_other census.counts k at (one_more (slice_index_or census.counts at 0)) (differ k at is) in
            rw other (ahead_less more (slice_index_or census.counts k 0) (lines_in census format) some (leads.each k away))

  leads_less : (more fewer : ℕ) (census : Census) → fewer ≤ more → Leads more census → Leads fewer census
  leads_less more fewer census less leads = record { first = leads.first; size = leads.size; few = leads.few; each = λ k apart. by k (leads.each k apart) }
    where
      by : (k : ℕ) → IsAhead more (slice_index_or census.counts k 0) (lines_in census format) → IsAhead fewer (slice_index_or census.counts k 0) (lines_in census format)
      by k (inl ahead) = inl (omega (arith, ahead, less))
      by k (inr most) = inr most

  leads_same : (more : ℕ) (census : Census) → Leads more census → Leads more (record { first = Some format; counts = census.counts })
  leads_same more census leads = record { first = refl; size = leads.size; few = leads.few; each = leads.each }

  own_with : (more : ℕ) (census : Census) (said : LineSays) → Leads more census → Leads more (census_with format said census)
  own_with more census said leads = rw leads.first (by (shows_register said))
    where
      by : (test : Bool) → Leads more (record { first = Some format; counts = if test then raised more census leads (place_of format) else census.counts })
      by true = leads_less (more + 1) more _ (omega arith) (leads_own more census leads)
      by false = leads_same more census leads

  shown_with : (more : ℕ) (census : Census) (said : LineSays) → shows_register said ≡ true → Leads more census → Leads (more + 1) (census_with format said census)
  shown_with more census said shows leads = rw (leads.first, shows) (leads_own more census leads)

  any_with : (more : ℕ) (census : Census) (other : Format) (said : LineSays) → 0 < more → Leads more census → Leads (more - 1) (census_with other said census)
  any_with more census other said some leads = rw leads.first (by (shows_register said) (place_of other == place_of format) refl)
    where
      by : (test same : Bool) → (place_of other == place_of format) ≡ same
          → Leads (more - 1) (record { first = Some format; counts = if test then raised more census leads (place_of other) else census.counts })
      by false same is = leads_less more (more - 1) _ (omega arith) (leads_same more census leads)
      by true false apart = leads_other more census leads (place_of other) (few_places other) apart some
      by true true is =
          subst (λ k. Leads (more - 1) (record { first = Some format; counts = raised more census leads k })) (sym (eqb-true (place_of other) (place_of format) is))
          (leads_less (more + 1) (more - 1) _ (omega arith) (leads_own more census leads))

  -- ---- one more line

  stays_behind : (more : ℕ) (census : Census) (number : ℕ) (line : List ℕ) → Leads more census → (is_match (said_of format number line) ≡ true) ⊎ (format_told number line ≡ None) → Leads more (census_behind census number line)
  unfolding census_behind
  stays_behind more census number line leads stays =
      subst (λ o. Leads more (census_by (format_at o number line) number line census)) (sym leads.first) (by (is_match (said_of format number line)) refl stays)
    where
      by : (test : Bool) → is_match (said_of format number line) ≡ test → (is_match (said_of format number line) ≡ true) ⊎ (format_told number line ≡ None)
          → Leads more (census_by (if test then Some format else format_told number line) number line census)
      by true is stays = own_with more census (said_of format number line) leads
      by false is (inl says) = let e : false ≡ true = sym is ∙ says in cc e
      by false is (inr none) = rw none leads

  shows_behind : (more : ℕ) (census : Census) (number : ℕ) (line : List ℕ) → Leads more census → is_match (said_of format number line) ≡ true → shows_register (said_of format number line) ≡ true → Leads (more + 1) (census_behind census number line)
  unfolding census_behind
  shows_behind more census number line leads says shows =
      subst (λ o. Leads (more + 1) (census_by (format_at o number line) number line census)) (sym leads.first)
      (subst (λ test. Leads (more + 1) (census_by (if test then Some format else format_told number line) number line census)) (sym says) (shown_with more census (said_of format number line) shows leads))

  strays_behind : (more : ℕ) (census : Census) (number : ℕ) (line : List ℕ) → 0 < more → Leads more census → Leads (more - 1) (census_behind census number line)
  unfolding census_behind
  strays_behind more census number line some leads =
      subst (λ o. Leads (more - 1) (census_by (format_at o number line) number line census)) (sym leads.first) (by (is_match (said_of format number line)) (format_told number line))
    where
      by : (test : Bool) (told : Option Format) → Leads (more - 1) (census_by (if test then Some format else told) number line census)
      by true told = any_with more census format (said_of format number line) some leads
      by false (Some other) = any_with more census other (said_of other number line) some leads
      by false None = leads_less more (more - 1) census (omega arith) leads

  -- ---- all lines

  least_of : (more : ℕ) (census : Census) → Leads more census → (other : Format) → lines_in census other ≤ lines_in census format
  least_of more census leads other = by (place_of other == place_of format) refl
    where
      by : (same : Bool) → (place_of other == place_of format) ≡ same → lines_in census other ≤ lines_in census format
      by true is = subst (λ k. slice_index_or census.counts k 0 ≤ lines_in census format) (sym (eqb-true (place_of other) (place_of format) is)) (omega arith)
      by false apart = ahead_at_last more (lines_in census other) (lines_in census format) (leads.few (place_of other)) (leads.each (place_of other) apart)

  unmoved : (census : Census) (best : Best) (other : Format) → lines_in census other ≤ best.lines → best_with other census best ≡ best
  unmoved census best other less = let test : nat_lt best.lines (lines_in census other) ≡ false = grind (arith, nat_tests, less) in rw test refl

  leads_taken : (more : ℕ) (census : Census) → Leads more census → taken census ≡ Some format
  unfolding taken
  leads_taken more census leads =
      let best : Best = record { lines = lines_in census format; format = Some format } in
      let first : first_best census ≡ best = rw (leads.first, last) refl in
      let least = least_of more census leads in
      ap (λ (b : Best). b.format) (
      ap (λ b. best_with Windbg census (best_with Chipsec census (best_with Rdmsr census (best_with X86info census (best_with Inteltool census
      (best_with Edk2 census (best_with Coreboot census (best_with Linux census (best_with Xen census b))))))))) first
      ∙ ap (λ b. best_with Windbg census (best_with Chipsec census (best_with Rdmsr census (best_with X86info census (best_with Inteltool census
      (best_with Edk2 census (best_with Coreboot census (best_with Linux census b)))))))) (unmoved census best Xen (least Xen))
      ∙ ap (λ b. best_with Windbg census (best_with Chipsec census (best_with Rdmsr census (best_with X86info census (best_with Inteltool census
      (best_with Edk2 census (best_with Coreboot census b))))))) (unmoved census best Linux (least Linux))
      ∙ ap (λ b. best_with Windbg census (best_with Chipsec census (best_with Rdmsr census (best_with X86info census (best_with Inteltool census (best_with Edk2 census b)))))) (unmoved census best Coreboot (least Coreboot))
      ∙ ap (λ b. best_with Windbg census (best_with Chipsec census (best_with Rdmsr census (best_with X86info census (best_with Inteltool census b))))) (unmoved census best Edk2 (least Edk2))
      ∙ ap (λ b. best_with Windbg census (best_with Chipsec census (best_with Rdmsr census (best_with X86info census b)))) (unmoved census best Inteltool (least Inteltool))
      ∙ ap (λ b. best_with Windbg census (best_with Chipsec census (best_with Rdmsr census b))) (unmoved census best X86info (least X86info))
      ∙ ap (λ b. best_with Windbg census (best_with Chipsec census b)) (unmoved census best Rdmsr (least Rdmsr))
      ∙ ap (best_with Windbg census) (unmoved census best Chipsec (least Chipsec))
      ∙ unmoved census best Windbg (least Windbg))

  balanced_taken : (lines : List (List ℕ)) (more : ℕ) (census : Census) (number : ℕ) → Leads more census → Balanced format more lines → taken (census_after census number lines) ≡ Some format
  balanced_taken [] more census number leads all = leads_taken more census leads
  balanced_taken (line ∷ lines) more census number leads all = by (λ m behind rest. balanced_taken lines m (census_behind census number line) (number + 1) behind rest) (is_too_long line) all
    where
      by : ((m : ℕ) → Leads m (census_behind census number line) → Balanced format m lines → taken (census_after (census_behind census number line) (number + 1) lines) ≡ Some format)
          → (long : Bool) → Balanced format more (line ∷ lines) → taken (if long then census else census_after (census_behind census number line) (number + 1) lines) ≡ Some format
      by later true all = leads_taken more census leads
      by later false (inl stays) = later more (stays_behind more census number line leads (stays.0 number)) stays.1
      by later false (inr (inl shows)) = later (more + 1) (shows_behind more census number line leads (shows.0 number).0 (shows.0 number).1) shows.1
      by later false (inr (inr strays)) = later (more - 1) (strays_behind more census number line strays.0 leads) strays.1

  short_told : (number : ℕ) (line : List ℕ) → format_told number line ≡ Some format → is_too_long line ≡ false
  short_told number line told = by (is_too_long line) refl
    where
      by : (long : Bool) → is_too_long line ≡ long → long ≡ false
      by false is = refl
      by true is = let e : None ≡ Some format = rw is at told in cc e

  -- of no line, the format being told
  leads_first : Leads 0 (record { first = Some format; counts = replicate 10 0 })
  leads_first = record {
    first = refl;
    size = refl;
    few = λ k. subst (λ n. n ≤ most_lines) (sym (zero_at 10 k)) (omega arith);
    each = λ k apart. inl (subst (λ n. n + 0 ≤ lines_in (record { first = Some format; counts = replicate 10 0 }) format) (sym (zero_at 10 k)) (omega arith));
  }
    where
      zero_at : (n k : ℕ) → slice_index_or {A = ℕ} (replicate n 0) k 0 ≡ 0
      zero_at zero k = refl
      zero_at (suc n) zero = refl
      zero_at (suc n) (suc k) = zero_at n k

  -- behind the line that tells it, if it shows a register
  first_behind : (number : ℕ) (line : List ℕ) → format_told number line ≡ Some format → shows_register (said_of format number line) ≡ true → Leads 1 (census_behind no_census number line)
  unfolding census_behind
  first_behind number line told shows =
      subst (λ o. Leads 1 (census_by o number line no_census)) (sym told)
      (subst (λ test. Leads 1 (record { first = Some format; counts = if test then slice_set no_census.counts (place_of format) (one_more (lines_in no_census format)) else no_census.counts })) (sym shows)
      (leads_own 0 (record { first = Some format; counts = replicate 10 0 }) leads_first))

  none_behind : (number : ℕ) (line : List ℕ) → format_told number line ≡ None → census_behind no_census number line ≡ no_census
  unfolding census_behind
  none_behind number line none = ap (λ o. census_by o number line no_census) none

  pub takes_printed : (lines : List (List ℕ)) (number : ℕ) → AreOf format number lines → taken (census_after no_census number lines) ≡ Some format
  takes_printed [] number are = absurd are
  takes_printed (line ∷ lines) number (inl first) =
      ap (λ long. taken (if long then no_census else census_after (census_behind no_census number line) (number + 1) lines)) (short_told number line first.0)
      ∙ balanced_taken lines 1 (census_behind no_census number line) (number + 1) (first_behind number line first.0 first.2) first.3
  takes_printed (line ∷ lines) number (inr untold) =
      ap (λ long. taken (if long then no_census else census_after (census_behind no_census number line) (number + 1) lines)) untold.1
      ∙ ap (λ c. taken (census_after c (number + 1) lines)) (none_behind number line untold.0)
      ∙ takes_printed lines (number + 1) untold.2
