-- What is named as missing, and the words that are tried (own).
--     NamesLacking values count numbers line text      a text has a line for each of these registers that one of so many processors lacks, and no other
--     NamesMissing supplied seen      so have the lines `missing ..`
--     NamesValues supplied seen      so have the words `REGISTER=VALUE` of the line `try: ..`, of what all assumptions leave
use Rattle.std.specs.Prelude.{ℕ, ◌≡◌, ◌<◌, codes, List, ◌++◌, map, Option, None}
use Rattle.std.specs.List.{AllByRecursion, concat}
use Rattle.mt_dump.specs.Canon.{number_text}
use Rattle.mt_import.specs.Supplied.{Supplied}
use Rattle.mt_import.specs.Values.{masks_in, widest, width_by}
use Rattle.mt_import.specs.Outcome.{Seen, all_needed, allowing_all, findings_of, hint_of, missing_line, missing_of, missing_width, needed, processors, processors_text, slot_shown, value_words, values_of}
use Rattle.mt_import_laws.specs.Origins.{IsAmong}

-- One of so many processors has no value of the register: neither a line, nor a word, nor an assumption that is allowed gives it.
pub record Lacks (values : ℕ → ℕ → Option ℕ) (count number : ℕ) : Type 0 where
  pub processor : ℕ
  pub within : processor < count
  pub no_value : values processor number ≡ None

pub record NamesLacking (values : ℕ → ℕ → Option ℕ) (count : ℕ) (numbers : List ℕ) (line : ℕ → List ℕ) (text : List ℕ) : Type 0 where
  pub named : List ℕ
  pub text_is : text ≡ concat (map line named)
  pub each : AllByRecursion (λ number. IsAmong number numbers × Lacks values count number) named
  pub all : (number : ℕ) → IsAmong number numbers → Lacks values count number → IsAmong number named

-- of the registers that a dump needs, behind a line on the width
pub record NamesMissing (supplied : Supplied) (seen : Seen) : Type 0 where
  pub lines : List ℕ
  pub missing_is : missing_of supplied (findings_of seen)
      ≡ missing_width (width_by supplied (slot_shown seen.readings) seen.width) (widest (masks_in supplied (slot_shown seen.readings 0) 32)) ++ lines
  pub names : let values = values_of supplied (findings_of seen) in
      NamesLacking values (processors seen.readings) (needed (values 0 0xfe))
      (λ number. missing_line number (processors_text values (processors seen.readings) number) (hint_of supplied (findings_of seen) number)) lines

abbrev pub value_word_of : ℕ → List ℕ
value_word_of number = codes " " ++ number_text number ++ codes "=VALUE"

-- With all assumptions allowed, each register that isn't named has a value on each processor.
abbrev pub NamesValues : Supplied → Seen → Type 0
NamesValues supplied seen =
    NamesLacking (values_of (allowing_all supplied) (findings_of seen)) (processors seen.readings) (all_needed supplied (findings_of seen)) value_word_of
    (value_words supplied (findings_of seen) (all_needed supplied (findings_of seen)))
