-- Windows of memory as they are added (own).
use Rattle.std.specs.Prelude.{◌≡◌, ◌↔◌, ◌⊎◌, ◌<◌, ◌≤◌, ℕ, ◌+◌, ◌*◌, ◌%◌, ◌==◌, nat_lt, nat_le, Bool, true, false, ◌&&◌, ◌||◌, List, [], ◌∷◌, ◌++◌, length, replicate, take, drop, if◌then◌else◌, Option, None, Some, Result, Ok, Err}
use Rattle.mt_kinds.specs.Sizes.{most_lines}
use Rattle.mt_ram.specs.declared.fault.RamFault.{RamFault}
use Rattle.mt_ram.specs.declared.fault.RamFault.TheVariants.{Misaligned, Overlaps, TooMuch, NoMemory}
use Rattle.mt_ram.specs.declared.window.Window.{Window}
use Rattle.mt_machine.specs.Memory as machine

abbrev pub window : ℕ → ℕ → machine.Window
window base lines = record { base = base; lines = lines }

abbrev pub window_of : Window → machine.Window
window_of w = window w.base w.lines

-- of two windows that have a line each
abbrev pub shares_byte : machine.Window → machine.Window → Bool
shares_byte v w = nat_lt v.base (machine.window_end w) && nat_lt w.base (machine.window_end v)

-- whether one of these has a byte of the window
abbrev pub is_overlap : List machine.Window → machine.Window → Bool
is_overlap [] w = false
is_overlap (v ∷ vs) w = shares_byte v w || is_overlap vs w

-- at most 4,096 lines in 16 windows
abbrev pub is_too_much : List machine.Window → machine.Window → Bool
is_too_much ws w = nat_lt (8 * most_lines) (machine.word_count ws + 8 * w.lines) || nat_le 16 (length ws)

-- why a window cannot be added to these: the first that holds of a base that is no line's, a byte that
-- an earlier window has, and too many lines or windows
abbrev pub refusal : List machine.Window → machine.Window → Option RamFault
refusal ws w =
    if w.base % 64 == 0 then (if is_overlap ws w then Some Overlaps else (if is_too_much ws w then Some TooMuch else None))
    else Some Misaligned

-- the refusal in a result; that memory has run out is none
abbrev pub refusal_in : Result Unit RamFault → Option RamFault
refusal_in (Ok done) = None
refusal_in (Err Misaligned) = Some Misaligned
refusal_in (Err Overlaps) = Some Overlaps
refusal_in (Err TooMuch) = Some TooMuch
refusal_in (Err NoMemory) = None

-- the memory with one more window, of zeros
abbrev pub with_window : machine.Window → machine.Memory → machine.Memory
with_window w m = record { windows = m.windows ++ w ∷ []; words = m.words ++ replicate (8 * w.lines) 0 }

-- the memory with these words from a place on, as many words as before
abbrev pub with_line : ℕ → machine.Memory → List ℕ → machine.Memory
with_line i m ws = record m { words = take (length m.words) (take i m.words ++ ws ++ drop (i + length ws) m.words) }

-- the memory with these words, as many as before
abbrev pub with_words : machine.Memory → List ℕ → machine.Memory
with_words m ws = record m { words = take (length m.words) (ws ++ drop (length ws) m.words) }

-- memory whose words are those of a list behind its first 18
abbrev pub behind_front : List machine.Window → List ℕ → machine.Memory
behind_front ws xs = record { windows = ws; words = drop 18 xs }

-- a list that is empty or begins with 18 zeros
abbrev pub HasFront : List ℕ → Type 0
HasFront xs = (xs ≡ []) ⊎ (take 18 xs ≡ replicate 18 0)

-- what a memory of windows keeps
pub record IsRam (ws : List machine.Window) (xs : List ℕ) : Type 0 where
  pub memory : machine.IsMemory (behind_front ws xs)
  pub few : length (drop 18 xs) ≤ 8 * most_lines
  pub front : HasFront xs

-- the byte at an address is in the window
abbrev pub HasByte : machine.Window → ℕ → Type 0
HasByte w address = (w.base ≤ address) × (address < machine.window_end w)

-- the comparison of bounds tells whether two windows have a byte in common
abbrev pub OverlapsByBytes : Type 0
OverlapsByBytes = (v w : machine.Window) → 0 < v.lines → 0 < w.lines → (shares_byte v w ≡ true) ↔ ((address : ℕ) × HasByte v address × HasByte w address)
