-- Where the reading of a text ends.
use Rattle.std.proofs.Common.{◌≡◌, ◌+◌, ℕ, false, List, [], ◌∷◌, Option, Some, None, Result, refl, sym, ◌∙◌, ap, subst, inl, inr}
use Rattle.std.specs.Prelude.{Ok, Err, ok_or, slice_index_or, ◌⊎◌, MatchResult, ◌↔◌}
use Rattle.std.specs.List.{AllByRecursion}
use Rattle.std.specs.Option.{option_map_or}
use Rattle.std.specs.Result.{result_err}
use Rattle.mt_text.specs.Text.{lines_of, end_of}
use Rattle.mt_text.specs.declared.place.Place.{Place}
use Rattle.mt_dump.specs.Dumps.{Dump, IsDump}
use Rattle.mt_dump.specs.Line.{Reading, fault_at}
use Rattle.mt_dump.specs.Dump.{said_from, said_by, versions, behind_first, tells_version, Shown, ShownBy, offence_of}
use Rattle.mt_dump.specs.Reader.{IsSane, IsClean, dump_in, dump_offence, onto, read_from, read_text}
use Rattle.mt_dump.specs.declared.fault.DumpFault.{DumpFault}
use Rattle.mt_dump.specs.declared.fault.DumpReason.TheVariants.{NoCap}
use Rattle.mt_dump.specs.declared.said.Said.TheVariants.{Nothing, Version, Section, Width, Register}
use Rattle.mt_dump.proofs.OneLine.{is_sane}
use Rattle.mt_dump.proofs.Stands.{clean_shown, shown_once, shown_is_dump}
use Rattle.mt_dump.proofs.Complete.{complete}

sane_from : (number : ℕ) (lines : List (List ℕ)) → AllByRecursion IsSane (said_from number lines)
sane_from number [] = tt
sane_from number (line ∷ lines) = (is_sane number line, sane_from (number + 1) lines)

-- A text is read as the dump that it shows.
pub read_shown : (text : List ℕ) (dump : Dump) → Shown text dump → read_text text ≡ Ok dump
read_shown text dump = complete (end_of text) [] (said_by text) dump tt (sane_from 1 (lines_of text))

pub shown_no_offence : (text : List ℕ) (dump : Dump) → Shown text dump → dump_offence text ≡ None
shown_no_offence text dump shown = ap result_err (read_shown text dump shown)

-- what a text shows is a dump
pub shown_dump : (text : List ℕ) (dump : Dump) → Shown text dump → IsDump dump
shown_dump text dump shown = shown_is_dump (said_by text) dump (sane_from 1 (lines_of text)) shown

-- the version is 1 where the first line with words tells none
usual : (says : List Reading) → tells_version says ≡ false → versions (behind_first says) ≡ [] → versions says ≡ []
usual [] none first = refl
usual (Ok Nothing ∷ says) none first = usual says none first
usual (Ok (Version version place) ∷ says) none first = cc none
usual (Ok (Section number place) ∷ says) none first = first
usual (Ok (Width width one two) ∷ says) none first = first
usual (Ok (Register number value one two) ∷ says) none first = first
usual (Err fault ∷ says) none first = first

pub usual_version : (text : List ℕ) (dump : Dump) → Shown text dump → tells_version (said_by text) ≡ false → dump.version ≡ 1
usual_version text dump shown none = shown.version ∙ ap (λ (versions : List ℕ). slice_index_or versions 0 1) (usual (said_by text) none shown.told_first)

pub led_to : (end : Place) (before : List Reading) (dump : Dump) → read_from end before [] ≡ Ok dump → dump_in before ≡ Some dump
led_to end before dump = by (dump_in before)
  where
    by : (found : Option Dump) → ok_or found (fault_at NoCap end) ≡ Ok dump → found ≡ Some dump
    by None none = cc none
    by (Some other) some = let e : other ≡ dump = cc some in ap Some e

-- what clean lines and those behind them are read as they show
pub shows_all : (end : Place) (before rest : List Reading) (dump : Dump) → IsClean before → AllByRecursion IsSane rest → read_from end before rest ≡ Ok dump → ShownBy (onto before rest) dump
shows_all end before [] dump clean sane is = clean_shown before dump clean (led_to end before dump is)
shows_all end before (line ∷ rest) dump clean sane is = by (offence_of before line) refl is (λ none. shows_all end (line ∷ before) rest dump (sane.0, none, clean) sane.1)
  where
    by : (offence : Option DumpFault) → offence_of before line ≡ offence → option_map_or (λ fault. Err fault) offence (read_from end (line ∷ before) rest) ≡ Ok dump
        → (offence_of before line ≡ None → read_from end (line ∷ before) rest ≡ Ok dump → ShownBy (onto before (line ∷ rest)) dump) → ShownBy (onto before (line ∷ rest)) dump
    by (Some fault) found bad later = cc bad
    by None none good later = later none good

-- what each answer says of the text that is read as it
pub reads_as : (text : List ℕ) (answer : Result Dump DumpFault) → read_text text ≡ answer → MatchResult answer (λ dump. Shown text dump) (λ fault. dump_offence text ≡ Some fault)
reads_as text (Ok dump) is = shows_all (end_of text) [] (said_by text) dump tt (sane_from 1 (lines_of text)) is
reads_as text (Err fault) is = ap result_err is

-- each text shows a dump or has an offence
pub shown_or_offence : (text : List ℕ) → ((dump : Dump) × Shown text dump) ⊎ ((fault : DumpFault) × (dump_offence text ≡ Some fault))
shown_or_offence text = by (read_text text) (reads_as text (read_text text) refl)
  where
    by : (answer : Result Dump DumpFault) → MatchResult answer (λ dump. Shown text dump) (λ fault. dump_offence text ≡ Some fault)
        → ((dump : Dump) × Shown text dump) ⊎ ((fault : DumpFault) × (dump_offence text ≡ Some fault))
    by (Ok dump) shown = inl (dump, shown)
    by (Err fault) found = inr (fault, found)

pub one_dump : (text : List ℕ) (dump other : Dump) → Shown text dump → Shown text other → dump ≡ other
one_dump text dump other = shown_once (said_by text) dump other

-- the answer is the dump exactly where it is shown, and the fault exactly where it is the first offence
pub exactly_shown : (text : List ℕ) (answer : Result Dump DumpFault) → MatchResult answer (λ dump. Shown text dump) (λ fault. dump_offence text ≡ Some fault) → (dump : Dump) → (answer ≡ Ok dump) ↔ Shown text dump
exactly_shown text (Ok other) shown dump = (λ is. let e : other ≡ dump = cc is in subst (Shown text) e shown, λ again. ap Ok (one_dump text other dump shown again))
exactly_shown text (Err fault) found dump = (λ is. cc is, λ shown. let e = sym found ∙ shown_no_offence text dump shown in cc e)

pub exactly_offence : (text : List ℕ) (answer : Result Dump DumpFault) → MatchResult answer (λ dump. Shown text dump) (λ fault. dump_offence text ≡ Some fault) → (fault : DumpFault) → (answer ≡ Err fault) ↔ (dump_offence text ≡ Some fault)
exactly_offence text (Ok dump) shown fault = (λ is. cc is, λ found. let e = sym found ∙ shown_no_offence text dump shown in cc e)
exactly_offence text (Err other) found fault = (λ is. let e : other ≡ fault = cc is in found ∙ ap Some e, λ again. let e : Some other ≡ Some fault = sym found ∙ again in let f : other ≡ fault = cc e in ap Err f)

pub read_exactly : (text : List ℕ) (dump : Dump) → (read_text text ≡ Ok dump) ↔ Shown text dump
read_exactly text = exactly_shown text (read_text text) (reads_as text (read_text text) refl)

pub read_offence : (text : List ℕ) (fault : DumpFault) → (read_text text ≡ Err fault) ↔ (dump_offence text ≡ Some fault)
read_offence text = exactly_offence text (read_text text) (reads_as text (read_text text) refl)
