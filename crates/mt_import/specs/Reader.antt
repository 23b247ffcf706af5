-- What a reader of a log keeps of the facts that it has taken (own).
--     HasTakenFacts state seen      the reader has taken these facts
--     TakesFacts supplied old new facts result      a call that takes more of them
use Rattle.std.specs.Prelude.{ℕ, ◌≡◌, ◌≤◌, ◌<◌, ◌+◌, ◌-◌, ◌*◌, ◌==◌, ◌&&◌, nat_lt, bit_or, Bool, List, [], length, if◌then◌else◌, Option, Some, None, is_none, IfSome, Result, IfErr, MatchResult, ⊤}
use Rattle.std.specs.List.{slice_index_or}
use Rattle.mt_regs.specs.RegisterFile.{low_byte}
use Rattle.mt_regs.specs.Registers.{HasThreeDigits}
use Rattle.mt_import.specs.declared.fault.ImportFault.{ImportFault}
use Rattle.mt_import.specs.declared.fault.ImportFault.TheVariants.{BadLine, BadProcessor, TooManyPairs, BadWidth, Contradiction, WidthContradiction}
use Rattle.mt_import.specs.declared.reading.Context.{Context}
use Rattle.mt_import.specs.declared.shape.LastPair.{LastPair}
use Rattle.mt_import.specs.declared.shape.Reading.{Reading}
use Rattle.mt_import.specs.declared.shape.Slot.{Slot}
use Rattle.mt_import.specs.declared.shape.Tally.{Tally}
use Rattle.mt_import.specs.Slot.{blank_slot}
use Rattle.mt_import.specs.Supplied.{Supplied}
use Rattle.mt_import.specs.Readings.{Fact}
use Rattle.mt_import.specs.Values.{is_fixed_number, is_pair_number}
use Rattle.mt_import.specs.Outcome.{Findings, Seen, Summary, capabilities_shown, facts_fault, firm_of, help_on, help_words, helps_on, hint_of, is_missing, is_nowhere, lacking_text, last_fixed_line, last_shown, missing_line, missing_lines, note_line, note_lines, noted, noted_of, processors, processors_text, seen_after, seen_with, slot_shown, summary_of, value_word, value_words, values_of, warned_till}

pub record State : Type 0 where
  pub context : Context
  pub slots : List Slot  -- 99 for each processor
  pub capabilities : Slot
  pub last : Option LastPair
  pub line_of_fixed : Option ℕ
  pub processors : ℕ
  pub width : Option ℕ
  pub line_of_width : ℕ
  pub tally : Tally

-- where a register stands among those of a processor
abbrev pub slot_of : ℕ → Option ℕ
slot_of number =
    if number == 0xfe then Some 0
    else if number == 0x277 then Some 97
    else if number == 0x2ff then Some 98
    else if is_pair_number number then Some (number - 0x1ff)
    else if is_fixed_number number then Some (number - 0x20f)
    else None

abbrev pub held_at : List Slot → ℕ → Option ℕ → Slot
held_at slots processor None = blank_slot
held_at slots processor (Some slot) = slice_index_or slots (99 * processor + slot) blank_slot

-- what a reader holds of each register
abbrev pub slots_of : State → ℕ → ℕ → Slot
slots_of state processor number = held_at state.slots processor (slot_of number)

abbrev pub findings_in : State → Findings
findings_in state = record { slots = slots_of state; count = state.processors; shown = record { width = state.width; format = state.tally.format } }

-- the values of each processor's registers
abbrev pub values_in : Supplied → State → ℕ → ℕ → Option ℕ
values_in supplied state = values_of supplied (findings_in state)

-- those that aren't assumed
abbrev pub firm_in : Supplied → State → ℕ → ℕ → Option ℕ
firm_in supplied state = firm_of supplied (findings_in state)

-- what processor 0's register would be if all were assumed
abbrev pub hint_in : Supplied → State → ℕ → Option ℕ
hint_in supplied state = hint_of supplied (findings_in state)

abbrev pub summary_in : Bool → Supplied → State → Summary
summary_in auto supplied state = summary_of auto supplied (findings_in state) state.tally

-- a processor lacks this register
abbrev pub is_missing_in : Supplied → State → ℕ → Bool
is_missing_in supplied state = is_missing (values_in supplied state) state.processors

-- all processors lack it
abbrev pub is_nowhere_in : Supplied → State → ℕ → Bool
is_nowhere_in supplied state = is_nowhere (values_in supplied state) state.processors

-- There is a processor of this number, and it lacks the register.
abbrev pub lacks_in : Supplied → State → ℕ → ℕ → Bool
lacks_in supplied state k number = nat_lt k state.processors && is_none (values_in supplied state k number)

-- the numbers of those of the first processors that lack it
abbrev pub lacking_text_in : Supplied → State → ℕ → ℕ → List ℕ
lacking_text_in supplied state = lacking_text (values_in supplied state) state.processors

abbrev pub processors_text_in : Supplied → State → ℕ → List ℕ
processors_text_in supplied state = processors_text (values_in supplied state) state.processors

-- the line that names a register, if a processor lacks it
abbrev pub missing_line_in : Supplied → State → ℕ → List ℕ
missing_line_in supplied state number = if is_missing_in supplied state number then missing_line number (processors_text_in supplied state number) (hint_in supplied state number) else []

-- the lines on these registers, in their order
abbrev pub missing_lines_in : Supplied → State → List ℕ → List ℕ
missing_lines_in supplied state = missing_lines (hint_in supplied state) (values_in supplied state) state.processors

-- the assumption that would supply a register that is missing
abbrev pub help_in : Supplied → State → ℕ → List ℕ
help_in supplied state = help_on supplied (findings_in state)

abbrev pub helps_in : Supplied → State → List ℕ → List ℕ → List ℕ
helps_in supplied state = helps_on supplied (findings_in state)

abbrev pub help_words_in : Supplied → State → List ℕ → List ℕ
help_words_in supplied state = help_words supplied (findings_in state)

abbrev pub value_word_in : Supplied → State → ℕ → List ℕ
value_word_in supplied state = value_word supplied (findings_in state)

abbrev pub value_words_in : Supplied → State → List ℕ → List ℕ
value_words_in supplied state = value_words supplied (findings_in state)

-- a register's assumed value, of the first processor that has one
abbrev pub noted_in : Supplied → State → ℕ → Option ℕ
noted_in supplied state = noted (firm_in supplied state) (values_in supplied state) state.processors

-- the numbers of the processors with this assumed value
abbrev pub noted_of_in : Supplied → State → ℕ → ℕ → List ℕ
noted_of_in supplied state = noted_of (firm_in supplied state) (values_in supplied state) state.processors

-- the comments on a register, if it was assumed
abbrev pub note_line_in : Supplied → State → ℕ → List ℕ
note_line_in supplied state number = note_line number (noted_in supplied state number) (noted_of_in supplied state number)

-- the comments on these registers, in their order
abbrev pub note_lines_in : Supplied → State → List ℕ → List ℕ
note_lines_in supplied state = note_lines (firm_in supplied state) (values_in supplied state) state.processors

-- a width that a dump may have
abbrev pub IsFit : ℕ → Type 0
IsFit width = (32 ≤ width) × (width ≤ 52)

-- What every reader keeps: a dump of so many processors, of this width and of their pairs may be made.
pub record IsReader (slots : List Slot) (processors : ℕ) (width : Option ℕ) : Type 0 where
  pub size : length slots ≡ 1584
  pub some : 1 ≤ processors
  pub few : processors ≤ 16
  pub fit : IfSome width IsFit
  pub pairs : (processor : ℕ) → low_byte (held_at slots processor (slot_of 0xfe)).value ≤ 32

-- A reader has a slot for the register.
abbrev pub HasSlot : ℕ → Type 0
HasSlot number = slot_of number ≡ None → ⊥

-- VCNT of a reading's processor, after the reading
abbrev pub pairs_after : State → Reading → ℕ
pairs_after state reading = low_byte (bit_or (slots_of state reading.processor 0xfe).value reading.value)

-- The reader has a slot for this reading. If it is of 0FEH, its processor has at most 32 pairs after it.
pub record MayKeep (state : State) (reading : Reading) : Type 0 where
  pub processor : reading.processor < 16
  pub register : HasSlot reading.number
  pub pairs : reading.number ≡ 0xfe → pairs_after state reading ≤ 32

-- A reader has taken these facts.
pub record HasTakenFacts (state : State) (seen : Seen) : Type 0 where
  pub slots_are : (processor number : ℕ) → slots_of state processor number ≡ slot_shown seen.readings processor number
  pub capabilities_is : state.capabilities ≡ capabilities_shown seen.readings
  pub last_is : state.last ≡ last_shown seen.readings
  pub line_of_fixed_is : state.line_of_fixed ≡ last_fixed_line seen.readings
  pub processors_is : state.processors ≡ processors seen.readings
  pub width_is : state.width ≡ seen.width
  pub line_of_width_is : state.line_of_width ≡ seen.line_of_width
  pub tally_is : state.tally ≡ seen.tally

-- Whatever facts the reader has taken, the result is this function of their readings.
abbrev pub IsOfReadings : {A : Type 0} → State → (List Reading → A) → A → Type 0
IsOfReadings state f result = (seen : Seen) → HasTakenFacts state seen → result ≡ f seen.readings

-- A call takes one fact and keeps the context. It says nothing of whether the fact has a fault.
pub record KeepsFact (old new : State) (fact : Fact) : Type 0 where
  pub taken : (seen : Seen) → HasTakenFacts old seen → HasTakenFacts new (seen_with seen fact)
  pub context : new.context ≡ old.context

-- the register's number has three hexadecimal digits at most
abbrev pub IsShort : ImportFault → Type 0
IsShort (BadLine why place) = ⊤
IsShort (BadProcessor place) = ⊤
IsShort (TooManyPairs place) = ⊤
IsShort (BadWidth place) = ⊤
IsShort (Contradiction place number rival) = HasThreeDigits number
IsShort (WidthContradiction place rival) = ⊤

-- A call takes facts. At `Ok` they have no fault, and the reader has taken them too. At `Err` the result is their first fault,
-- which names no register of more than three hexadecimal digits, and the reader has what facts before it warn of. It says nothing of the context.
pub record TakesFacts {U : Type 0} (supplied : Supplied) (old new : State) (facts : List Fact) (result : Result U ImportFault) : Type 0 where
  pub taken : (seen : Seen) → HasTakenFacts old seen → MatchResult result
      (λ _. HasTakenFacts new (seen_after seen facts) × (facts_fault supplied seen facts ≡ None))
      (λ fault. (facts_fault supplied seen facts ≡ Some fault) × (new.tally.warned ≡ warned_till supplied seen facts))
  pub short : IfErr result IsShort
