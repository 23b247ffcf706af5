-- Comments of a dump on values that were assumed (own).
--     AreNoted supplied seen capabilities notes      comments name just the values that assumptions alone give
use Rattle.std.specs.Prelude.{ℕ, ◌≡◌, ◌<◌, codes, decimal, List, [], ◌∷◌, ◌++◌, Some, None}
use Rattle.std.specs.List.{AllByRecursion, concat}
use Rattle.mt_import.specs.Supplied.{Supplied}
use Rattle.mt_import.specs.Values.{firm_value, firm_width, width_by}
use Rattle.mt_import.specs.Outcome.{Seen, findings_of, needed, note_by, processors, slot_shown, values_of, width_note}
use Rattle.mt_import_laws.specs.Origins.{IsAmong}

-- ` 0 2`
abbrev pub numbers_text : List ℕ → List ℕ
numbers_text [] = []
numbers_text (k ∷ ks) = (codes " " ++ decimal k) ++ numbers_text ks

-- A comment names a register, this value, and processors of which k is one.
pub record IsNoted (notes : List ℕ) (k number value : ℕ) : Type 0 where
  pub before : List ℕ
  pub named : List ℕ
  pub others : List ℕ
  pub names : IsAmong k named
  pub notes_are : notes ≡ before ++ (note_by number value (numbers_text named) ++ others)

-- An assumption alone gives processor k's register this value.
pub record IsAssumedAlone (supplied : Supplied) (seen : Seen) (k number value : ℕ) : Type 0 where
  pub unfirm : firm_value supplied (slot_shown seen.readings k) number ≡ None
  pub value_is : values_of supplied (findings_of seen) k number ≡ Some value

-- An assumption alone gives this width.
pub record IsAssumedWidth (supplied : Supplied) (seen : Seen) (width : ℕ) : Type 0 where
  pub unfirm : firm_width supplied seen.width ≡ None
  pub width_is : width_by supplied (slot_shown seen.readings) seen.width ≡ Some width

-- the first comment is on this width
pub record IsNotedWidth (notes : List ℕ) (width : ℕ) : Type 0 where
  pub others : List ℕ
  pub notes_are : notes ≡ width_note None (Some width) ++ others

-- A comment is on a width that was assumed, or on a register with the value that an assumption alone gives each processor that it names.
pub data IsTrueNote (supplied : Supplied) (seen : Seen) (capabilities : ℕ) (note : List ℕ) : Type 0 where
  on_width : (width : ℕ) → IsAssumedWidth supplied seen width → note ≡ width_note None (Some width) → IsTrueNote supplied seen capabilities note
  on_register : (number value first : ℕ) (others : List ℕ) → IsAmong number (needed (Some capabilities))
      → AllByRecursion (λ k. (k < processors seen.readings) × IsAssumedAlone supplied seen k number value) (first ∷ others)
      → note ≡ note_by number value (numbers_text (first ∷ others)) → IsTrueNote supplied seen capabilities note

-- true comments, one behind the other, and nothing else
pub record AreTrueNotes (supplied : Supplied) (seen : Seen) (capabilities : ℕ) (notes : List ℕ) : Type 0 where
  pub comments : List (List ℕ)
  pub notes_are : notes ≡ concat comments
  pub each : AllByRecursion (IsTrueNote supplied seen capabilities) comments

pub record AreNoted (supplied : Supplied) (seen : Seen) (capabilities : ℕ) (notes : List ℕ) : Type 0 where
  pub each : (k number value : ℕ) → k < processors seen.readings → IsAmong number (needed (Some capabilities)) → IsAssumedAlone supplied seen k number value → IsNoted notes k number value
  pub width : (width : ℕ) → IsAssumedWidth supplied seen width → IsNotedWidth notes width
  pub only : AreTrueNotes supplied seen capabilities notes
