-- Three numbers of a script's transcript, and the sum of memory at its end (own).
--     is_complete line, value_in line      whether a line says `complete E`, and V where it says `value V T`
--     updates_in text      how many lines of a text say so
--     last_state text      the last state of a script; none where no dump was accepted
--     summary text      the numbers of a script's transcript
use Rattle.std.specs.Prelude.{ℕ, ◌-◌, ◌%◌, ◌^◌, nat_eq, min, Bool, List, codes, drop, length, take, sum, sum_by, count_by, if◌then◌else◌, Option, Some, None}
use Rattle.std.specs.Cmp.Lexicographic.{pointwise}
use Rattle.std.specs.Option.{option_map}
use Rattle.std.specs.Result.{result_unwrap_or}
use Rattle.mt_text.specs.Text.{lines_of}
use Rattle.mt_text.specs.Number.{hex_number}
use Rattle.mt_replay.specs.Steps.{Beginning, beginning, last_of, steps_in}
use Rattle.mt_replay.specs.ReplayState.{ReplayState}
use Rattle.mt_replay.specs.Transcript.{transcript}
use Rattle.mt_replay.specs.declared.summing.Totals.{Totals}

-- ---- lines

abbrev pub begins_with : List ℕ → List ℕ → Bool
begins_with text line = pointwise nat_eq (take (length text) line) text

-- a line `complete E`
abbrev pub is_complete : List ℕ → Bool
is_complete line = begins_with (codes "complete ") line

-- V of a line `value V T`, by its sixteen digits; 0 of any other line
abbrev pub value_in : List ℕ → ℕ
value_in line = if begins_with (codes "value ") line then result_unwrap_or (hex_number (take 16 (drop 6 line))) 0 else 0

-- ---- texts

abbrev pub updates_in : List ℕ → ℕ
updates_in text = count_by is_complete (lines_of text)

-- ---- the last state

-- behind the steps of a text that begins so
abbrev pub last_from : Beginning → ReplayState
last_from b = last_of b.state (steps_in b.number b.lines b.state)

abbrev pub last_state : List ℕ → Option ReplayState
last_state text = option_map last_from (beginning text)

abbrev pub memory_sum : Option ReplayState → ℕ
memory_sum None = 0
memory_sum (Some s) = sum s.machine.system.memory.words

-- ---- whole scripts

-- of a transcript and a last state
abbrev pub totals : List ℕ → Option ReplayState → Totals
totals text last = record {
  lines = min (length (lines_of text)) (2 ^ 64 - 1);
  updates = updates_in text;
  values = sum_by value_in (lines_of text) % 2 ^ 64;
  memory = memory_sum last % 2 ^ 64;
}

abbrev pub summary : List ℕ → Totals
summary source = totals (transcript source).text (last_state source)
