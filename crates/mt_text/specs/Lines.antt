-- The lines of a text that are still to be read (own).
--     LinesLeft      how far they have been read
--     TakesFirst old new line      a call that returns the first of them
use Rattle.std.specs.Prelude.{ℕ, ◌+◌, ◌≡◌, ◌≤◌, ◌<◌, List, ◌∷◌, length, drop}
use Rattle.mt_text.specs.Text.{lines_of}
use Rattle.mt_text.specs.declared.line.Line.{Line}
use Rattle.mt_text.specs.declared.lines.Lines.TheInside.{Inside}

pub record LinesLeft : Type 0 where
  pub offset : ℕ  -- where the next line begins
  pub number : ℕ  -- its number
  pub bytes : List ℕ  -- the bytes from it on

abbrev pub all_lines : List ℕ → LinesLeft
all_lines text = record { offset = 0; number = 1; bytes = text }

pub record TakesFirst (old new : LinesLeft) (line : Line) : Type 0 where
  pub lines : lines_of old.bytes ≡ line.bytes.now ∷ lines_of new.bytes
  pub offset : line.offset ≡ old.offset
  pub number : line.number ≡ old.number
  pub next_offset : new.offset ≡ line.next
  pub next_number : new.number ≡ old.number + 1
  pub moves : old.offset < new.offset
  pub end : new.offset + length new.bytes ≡ old.offset + length old.bytes  -- the text ends where it did

abbrev pub lines_seen : Inside → LinesLeft
lines_seen inside = record { offset = inside.at; number = inside.number; bytes = drop inside.at inside.source.now }

-- the next line begins in the text or at its end, and each line before it has a byte
pub record AreLinesInside (inside : Inside) : Type 0 where
  pub within : inside.at ≤ length inside.source.now
  pub numbered : inside.number ≤ inside.at + 1
