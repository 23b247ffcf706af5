-- Lines that say the same, and lines that match nothing.
use Rattle.std.proofs.Common.{◌≡◌, ◌∙◌, ◌+◌, ℕ, Bool, true, false, List, [], ◌∷◌, ◌++◌, Option, Some, None, refl, sym, ap, inl, inr}
use Rattle.std.specs.Prelude.{⊤, if◌then◌else◌}
use Rattle.mt_text.specs.Text.{is_too_long, lines_of, past_limit}
use Rattle.mt_import.specs.declared.fault.Reason.TheVariants.{LongLine}
use Rattle.mt_import.specs.declared.format.Choice.{Choice}
use Rattle.mt_import.specs.declared.format.Choice.TheVariants.{Auto, Only}
use Rattle.mt_import.specs.declared.format.Format.{Format}
use Rattle.mt_import.specs.declared.format.Format.TheVariants.{Rdmsr, X86info, Inteltool, Coreboot, Edk2, Linux, Xen, Chipsec, Windbg, Plain}
use Rattle.mt_import.specs.declared.reading.Context.{Context}
use Rattle.mt_import.specs.declared.reading.LineSays.{LineSays}
use Rattle.mt_import.specs.declared.reading.LineSays.TheVariants.{Nothing, Announces, Value, Turns, Shows, Lists, Begins, FixedRanges, VariableRanges, Width, Warns, Bad}
use Rattle.mt_import.specs.declared.shape.Census.{Census}
use Rattle.mt_import.specs.Census.{beside, census_after, census_behind, census_by, census_of, census_with, format_at, no_census, passed_over, taken}
use Rattle.mt_import.specs.Import.{log_outcome}
use Rattle.mt_import.specs.Outcome.{facts_outcome, nothing_seen}
use Rattle.mt_import.specs.Readings.{Fact, context_after, is_match, line_facts, starts}
use Rattle.mt_import.specs.Shown.{context_behind, facts_from, facts_of_line, first_said, format_told, is_telling, said_by_line, said_in, said_in_each, said_of, shown, tells, unmarked}
use Rattle.mt_import.specs.Supplied.{Supplied}
use Rattle.mt_import_laws.specs.Origins.{context_after_lines}
use Rattle.mt_import_laws.specs.Alike.{AreAlike, AreAlikeLines, AreAlikeLogs}

-- ---- lines that say the same in a format

-- Lines keep the format.
pub keeps_format : (lines : List (List ℕ)) (context : Context) (number : ℕ) → (context_after_lines context number lines).format ≡ context.format
keeps_format [] context number = refl
keeps_format (line ∷ lines) context number = keeps_format lines (context_behind context number line) (number + 1)

abbrev pub AllSaySame : Option Format → ℕ → List (List ℕ) → List (List ℕ) → Type 0
AllSaySame format number [] [] = ⊤
AllSaySame format number [] (y ∷ ys) = ⊥
AllSaySame format number (x ∷ xs) [] = ⊥
AllSaySame format number (x ∷ xs) (y ∷ ys) = (said_in format number x ≡ said_in format number y) × AllSaySame format (number + 1) xs ys

same_facts : (context : Context) (number : ℕ) (xs ys : List (List ℕ)) → AllSaySame context.format number xs ys → facts_from context number xs ≡ facts_from context number ys
same_facts context number [] [] same = refl
same_facts context number [] (y ∷ ys) same = absurd same
same_facts context number (x ∷ xs) [] same = absurd same
same_facts context number (x ∷ xs) (y ∷ ys) same =
    ap (λ said. line_facts number context.format context said ++ facts_from (context_after context context.format said) (number + 1) xs) same.0
    ∙ ap (λ (fs : List Fact). facts_of_line context number y ++ fs) (same_facts (context_behind context number y) (number + 1) xs ys same.1)

-- ---- in each format

pub record SameInEach (number : ℕ) (x y : List ℕ) : Type 0 where
  pub says : (format : Option Format) → said_in format number x ≡ said_in format number y
  pub tells : format_told number x ≡ format_told number y
  pub limit : is_too_long x ≡ is_too_long y

abbrev pub AllSameInEach : ℕ → List (List ℕ) → List (List ℕ) → Type 0
AllSameInEach number [] [] = ⊤
AllSameInEach number [] (y ∷ ys) = ⊥
AllSameInEach number (x ∷ xs) [] = ⊥
AllSameInEach number (x ∷ xs) (y ∷ ys) = SameInEach number x y × AllSameInEach (number + 1) xs ys

pub in_one : (format : Option Format) (number : ℕ) (xs ys : List (List ℕ)) → AllSameInEach number xs ys → AllSaySame format number xs ys
in_one format number [] [] same = tt
in_one format number [] (y ∷ ys) same = absurd same
in_one format number (x ∷ xs) [] same = absurd same
in_one format number (x ∷ xs) (y ∷ ys) same = (same.0.says format, in_one format (number + 1) xs ys same.1)

same_behind : (census : Census) (number : ℕ) (x y : List ℕ) → SameInEach number x y → census_behind census number x ≡ census_behind census number y
unfolding census_behind
same_behind census number x y same = ap (λ o. census_by o number x census) (at census.first) ∙ by (format_at census.first number y)
  where
    at : (first : Option Format) → format_at first number x ≡ format_at first number y
    at None = same.tells
    at (Some format) =
        ap (λ said. if is_match said then Some format else format_told number x) (same.says (Some format))
        ∙ ap (λ told. if is_match (said_of format number y) then Some format else told) same.tells

    by : (told : Option Format) → census_by told number x census ≡ census_by told number y census
    by None = refl
    by (Some format) = ap (λ said. census_with format said census) (same.says (Some format))

same_census : (census : Census) (number : ℕ) (xs ys : List (List ℕ)) → AllSameInEach number xs ys → census_after census number xs ≡ census_after census number ys
same_census census number [] [] same = refl
same_census census number [] (y ∷ ys) same = absurd same
same_census census number (x ∷ xs) [] same = absurd same
same_census census number (x ∷ xs) (y ∷ ys) same =
    ap (λ long. if long then census else census_after (census_behind census number x) (number + 1) xs) same.0.limit
    ∙ ap (λ c. if is_too_long y then census else c) (ap (λ c. census_after c (number + 1) xs) (same_behind census number x y same.0) ∙ same_census (census_behind census number y) (number + 1) xs ys same.1)

-- Logs of whose lines each says the same as one of the other.
abbrev pub SayAllSame : Choice → List (List ℕ) → List (List ℕ) → Type 0
SayAllSame Auto xs ys = AllSameInEach 1 xs ys
SayAllSame (Only format) xs ys = AllSaySame (Some format) 1 xs ys

pub same_logs : (choice : Choice) (supplied : Supplied) (a b : List ℕ) → SayAllSame choice (lines_of a) (lines_of b) → log_outcome choice supplied a ≡ log_outcome choice supplied b
same_logs (Only format) supplied a b same = ap (facts_outcome false supplied (nothing_seen (Some format))) (same_facts (starts (Some format)) 1 (lines_of a) (lines_of b) same)
same_logs Auto supplied a b same =
    ap (λ (c : Census). beside (passed_over c) (facts_outcome true supplied (nothing_seen (taken c)) (shown (taken c) a))) (same_census no_census 1 (lines_of a) (lines_of b) same)
    ∙ ap (λ (fs : List Fact). beside (passed_over (census_of b)) (facts_outcome true supplied (nothing_seen (taken (census_of b))) fs))
    (same_facts (starts (taken (census_of b))) 1 (lines_of a) (lines_of b) (in_one (taken (census_of b)) 1 (lines_of a) (lines_of b) same))

-- ---- lines that match nothing

first_nothing : (a b : LineSays) → first_said a b ≡ Nothing → a ≡ Nothing
first_nothing Nothing b is = refl
first_nothing (Announces processor number) b is = is
first_nothing (Value value place) b is = is
first_nothing (Turns turn) b is = is
first_nothing (Shows processor shows) b is = is
first_nothing (Lists processor shown) b is = is
first_nothing (Begins shows) b is = is
first_nothing (FixedRanges enabled alone place) b is = is
first_nothing (VariableRanges enabled place) b is = is
first_nothing (Width width place) b is = is
first_nothing (Warns warning number) b is = is
first_nothing (Bad why place) b is = is

module _ (number : ℕ) (line : List ℕ) (nothing : (format : Option Format) → said_in format number line ≡ Nothing) where
  pub nothing_short : is_too_long line ≡ false
  nothing_short = by (is_too_long line) refl
    where
      by : (long : Bool) → is_too_long line ≡ long → long ≡ false
      by false is = refl
      by true is = let e : Bad LongLine (past_limit number) ≡ Nothing = sym (ap (λ long. if long then Bad LongLine (past_limit number) else said_in_each number (unmarked line)) is) ∙ nothing None in cc e

  tells_nothing : (format : Format) → tells format number line ≡ false
  unfolding tells
  tells_nothing format =
      let whole : first_said (said_by_line format number (unmarked line)) (said_in_each number (unmarked line)) ≡ Nothing =
      sym (ap (λ long. if long then Bad LongLine (past_limit number) else first_said (said_by_line format number (unmarked line)) (said_in_each number (unmarked line))) nothing_short) ∙ nothing (Some format) in
      ap is_telling (first_nothing (said_by_line format number (unmarked line)) (said_in_each number (unmarked line)) whole)

  pub untold : format_told number line ≡ None
  untold = rw (nothing_short, tells_nothing Xen, tells_nothing Linux, tells_nothing Coreboot, tells_nothing Edk2, tells_nothing Inteltool, tells_nothing X86info, tells_nothing Rdmsr, tells_nothing Chipsec, tells_nothing Windbg, tells_nothing Plain) refl

  -- no format counts it
  pub uncounted : (census : Census) → census_behind census number line ≡ census
  unfolding census_behind
  uncounted census = ap (λ o. census_by o number line census) (at census.first)
    where
      at : (first : Option Format) → format_at first number line ≡ None
      at None = untold
      at (Some format) = ap (λ said. if is_match said then Some format else format_told number line) (nothing (Some format)) ∙ untold

alike_in_each : (number : ℕ) (x y : List ℕ) → AreAlikeLines Auto number x y → SameInEach number x y
alike_in_each number x y (inl same) = record { says = λ format. ap (said_in format number) same; tells = ap (format_told number) same; limit = ap is_too_long same }
alike_in_each number x y (inr both) = record {
  says = λ format. both.0 format ∙ sym (both.1 format);
  tells = untold number x both.0 ∙ sym (untold number y both.1);
  limit = nothing_short number x both.0 ∙ sym (nothing_short number y both.1);
}

alike_by_name : (format : Format) (number : ℕ) (x y : List ℕ) → AreAlikeLines (Only format) number x y → said_of format number x ≡ said_of format number y
alike_by_name format number x y (inl same) = ap (said_of format number) same
alike_by_name format number x y (inr both) = both.0 ∙ sym both.1

all_in_each : (number : ℕ) (xs ys : List (List ℕ)) → AreAlike Auto number xs ys → AllSameInEach number xs ys
all_in_each number [] [] alike = tt
all_in_each number [] (y ∷ ys) alike = absurd alike
all_in_each number (x ∷ xs) [] alike = absurd alike
all_in_each number (x ∷ xs) (y ∷ ys) alike = (alike_in_each number x y alike.0, all_in_each (number + 1) xs ys alike.1)

all_by_name : (format : Format) (number : ℕ) (xs ys : List (List ℕ)) → AreAlike (Only format) number xs ys → AllSaySame (Some format) number xs ys
all_by_name format number [] [] alike = tt
all_by_name format number [] (y ∷ ys) alike = absurd alike
all_by_name format number (x ∷ xs) [] alike = absurd alike
all_by_name format number (x ∷ xs) (y ∷ ys) alike = (alike_by_name format number x y alike.0, all_by_name format (number + 1) xs ys alike.1)

pub alike_logs : (choice : Choice) (supplied : Supplied) (a b : List ℕ) → AreAlikeLogs choice a b → log_outcome choice supplied a ≡ log_outcome choice supplied b
alike_logs Auto supplied a b alike = same_logs Auto supplied a b (all_in_each 1 (lines_of a) (lines_of b) alike)
alike_logs (Only format) supplied a b alike = same_logs (Only format) supplied a b (all_by_name format 1 (lines_of a) (lines_of b) alike)
