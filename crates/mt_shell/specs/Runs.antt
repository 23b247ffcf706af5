-- What is proved of a run of a program that reads one input, by its words, its ports and its status (own).
--     given_words args      the words of the command line
--     NamesFile reads words front file      the last word names a file
--     opens file source opened      what opening a file comes to, by its name and the source before: the source that goes on with it, or none
--     IsProgramRun commands opens ends words source sink errors status      a run, of a program whose runs end so for words
use Rattle.std.specs.Prelude.{ℕ, ◌≡◌, ◌≢◌, ◌++◌, ◌⊎◌, nat_eq, codes, Bool, true, false, not, ◌&&◌, ◌||◌, List, [], ◌∷◌, Option, Some, None, Result, String}
use Rattle.std.specs.List.{list_any}
use Rattle.std.specs.Cmp.Lexicographic.{pointwise}
use Rattle.std.specs.Option.{unwrap_or}
use Rattle.std.specs.declared.vec.IntoIter.{IntoIter}
use Rattle.mt_ports.specs.Causes.{Rose}
use Rattle.mt_ports.specs.declared.status.Status.{Status}
use Rattle.mt_ports.specs.declared.status.Status.TheVariants.{Done, NoMemory, ReadFault, Usage}
use Rattle.mt_output.specs.Ports.{SinkRun, SourceRun}
use Rattle.mt_output.specs.Program.{texts_of}
use Rattle.mt_shell.specs.Reasons.{TookHint, TookReason}

-- An argument that is no text counts as an empty word, which is a word of no program and names no file.
abbrev pub given_words : {A B E : Type 0} → Result (IntoIter (String A) B) E → List (List ℕ)
given_words args = unwrap_or (texts_of args) ([] ∷ [])

-- A program's name, whether words are a command line that reads the input, and what it may say of an input.
pub record Commands : Type 0 where
  pub name : List ℕ
  pub reads : List (List ℕ) → Bool
  pub hint : Option (List ℕ)

-- ---- files

abbrev pub is_empty_or_option : List ℕ → Bool
is_empty_or_option [] = true
is_empty_or_option (first ∷ rest) = nat_eq first 0x2d

abbrev pub has_byte : ℕ → List ℕ → Bool
has_byte byte word = list_any (λ b. nat_eq b byte) word

-- `-`, or a word that isn't empty, has no `-` in front, and has `=` only if it has `/` too
abbrev pub may_name_file : List ℕ → Bool
may_name_file word = pointwise nat_eq word (codes "-") || (not (is_empty_or_option word) && (has_byte 0x2f word || not (has_byte 0x3d word)))

-- The words but the last are a command line that reads the input, all of them are none, and the last may name a file.
pub record NamesFile (reads : List (List ℕ) → Bool) (words front : List (List ℕ)) (file : List ℕ) : Type 0 where
  pub words_are : words ≡ front ++ file ∷ []
  pub not_all : reads words ≡ false
  pub all_but_last : reads front ≡ true
  pub last : may_name_file file ≡ true

abbrev pub NamesNoFile : (List (List ℕ) → Bool) → List (List ℕ) → Type 0
NamesNoFile reads words = (front : List (List ℕ)) (file : List ℕ) → NamesFile reads words front file → ⊥

-- The source has gone on with a file. `-` is the source as it was.
pub record HasGoneOn {S : Type 0} (opens : List ℕ → S → Option S → Type 0) (file : List ℕ) (source : SourceRun S) (opened : S) : Type 0 where
  pub standard : file ≡ codes "-" → opened ≡ source.old
  pub named : file ≢ codes "-" → opens file source.old (Some opened)
  pub faults : source.faults opened ≡ source.faults source.old
  pub given : source.given opened ≡ source.given source.old

-- The file can't be opened.
pub record IsUnopened {S : Type 0} (opens : List ℕ → S → Option S → Type 0) (file : List ℕ) (source : SourceRun S) : Type 0 where
  pub named : file ≢ codes "-"
  pub fails : opens file source.old None
  pub stays : source.new ≡ source.old

-- ---- runs

-- A run for words, behind which standard error may take a line: the reason of wrong usage, or a hint if not all is done.
pub record IsToldRun {S K E : Type 0} (commands : Commands) (ends : List (List ℕ) → SourceRun S → SinkRun K → SinkRun E → Status → Type 0)
    (words : List (List ℕ)) (source : SourceRun S) (sink : SinkRun K) (errors : SinkRun E) (status : Status) : Type 0 where
  pub told : E
  pub run : ends words source sink (record errors { new = told }) status
  pub quiet : status ≡ Done → errors.new ≡ told
  pub usage : status ≡ Usage → TookReason commands.name (record errors { old = told })
  pub hint : status ≢ Usage → TookHint commands.name commands.hint (record errors { old = told })

-- A run for words that name no file; for the words but the last, over a file that this one names; or none, since the file
-- can't be opened or memory was refused.
pub data IsProgramRun {S K E : Type 0} (commands : Commands) (opens : List ℕ → S → Option S → Type 0) (ends : List (List ℕ) → SourceRun S → SinkRun K → SinkRun E → Status → Type 0)
    (words : List (List ℕ)) (source : SourceRun S) (sink : SinkRun K) (errors : SinkRun E) (status : Status) : Type 0 where
  ran : NamesNoFile commands.reads words → IsToldRun commands ends words source sink errors status → IsProgramRun commands opens ends words source sink errors status
  over_file : (front : List (List ℕ)) (file : List ℕ) (opened : S) → NamesFile commands.reads words front file → HasGoneOn opens file source opened
      → IsToldRun commands ends front (record source { old = opened }) sink errors status → IsProgramRun commands opens ends words source sink errors status
  unopened : (front : List (List ℕ)) (file : List ℕ) → NamesFile commands.reads words front file → IsUnopened opens file source → status ≡ ReadFault
      → sink.new ≡ sink.old → TookReason commands.name errors → IsProgramRun commands opens ends words source sink errors status
  starved : status ≡ NoMemory → source.new ≡ source.old → sink.new ≡ sink.old → errors.new ≡ errors.old → IsProgramRun commands opens ends words source sink errors status

-- The status is `ReadFault` only if the source failed, and once, or a file that is named can't be opened. At every other status it didn't fail.
pub record HasReadCause {S : Type 0} (commands : Commands) (opens : List ℕ → S → Option S → Type 0) (words : List (List ℕ)) (source : SourceRun S) (status : Status) : Type 0 where
  pub rose : status ≡ ReadFault
      → Rose (source.faults source.old) (source.faults source.new)
      ⊎ ((front : List (List ℕ)) × (file : List ℕ) × NamesFile commands.reads words front file × IsUnopened opens file source)
  pub stands : status ≢ ReadFault → source.faults source.new ≡ source.faults source.old
