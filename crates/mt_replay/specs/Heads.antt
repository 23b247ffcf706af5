-- What the lines of a script come to up to its dump's end (own).
--     head_end number lines now before      of these lines, the first of which has this number, by the situation and the dump's lines so far, of which the last stands first
--     head_of text      of a whole text
use Rattle.std.specs.Prelude.{ℕ, ◌+◌, List, [], ◌∷◌}
use Rattle.mt_text.specs.Text.{lines_of}
use Rattle.mt_dump.specs.Line.{Reading}
use Rattle.mt_dump.specs.Dumps.{Dump}
use Rattle.mt_script.specs.Situation.{Situation, at_start}
use Rattle.mt_script.specs.Head.{HeadStep, goes_on, head_step, offends, shows}
use Rattle.mt_script.specs.declared.fault.Offence.{Offence}

-- The lines end before the dump does, or one of them has an offence, or the dump ends and shows this, and lines stand behind it
-- from this number on.
pub data HeadEnd : Type 0 where
  stays_open : Situation → List Reading → HeadEnd
  has_offence : Offence → HeadEnd
  shows_dump : Situation → Dump → ℕ → List (List ℕ) → HeadEnd

-- by what a line leads to, of which the lines behind have this number on
abbrev pub end_after : ℕ → List (List ℕ) → Situation → (Situation → List Reading → HeadEnd) → HeadStep → HeadEnd
end_after number lines now later (goes_on next after) = later next after
end_after number lines now later (shows dump) = shows_dump now dump number lines
end_after number lines now later (offends o) = has_offence o

abbrev pub head_end : ℕ → List (List ℕ) → Situation → List Reading → HeadEnd
head_end number [] now before = stays_open now before
head_end number (line ∷ lines) now before = end_after (number + 1) lines now (head_end (number + 1) lines) (head_step now before number line)

abbrev pub head_of : List ℕ → HeadEnd
head_of text = head_end 1 (lines_of text) at_start []
