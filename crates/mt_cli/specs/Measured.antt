-- Jobs for measurements, which three numbers determine, around one update, and what they sum to (own).
--     measured_text count n accesses      the text
use Rattle.std.specs.Prelude.{◌≡◌, ℕ, zero, suc, ◌+◌, ◌*◌, ◌%◌, ◌^◌, nat_lt, false, List, [], ◌∷◌, ◌++◌, length, map, replicate, codes, if◌then◌else◌, None}
use Rattle.std.specs.List.{All, fold}
use Rattle.mt_regs.specs.RegisterFile.{RegisterFile, blank_file}
use Rattle.mt_regs.specs.Registers.{with_value}
use Rattle.mt_regs.specs.declared.registers.Register.TheVariants.{DefaultType, PhysBase, PhysMask}
use Rattle.mt_tlb.specs.declared.mapping.Mapping.{Mapping}
use Rattle.mt_ram.specs.Windows.{window}
use Rattle.mt_machine.specs.declared.control.Control.TheVariants.{Map}
use Rattle.mt_machine.specs.declared.done.Done.{Done}
use Rattle.mt_machine.specs.declared.done.Done.TheVariants.{Value}
use Rattle.mt_machine.specs.declared.op.Op.{Op}
use Rattle.mt_machine.specs.declared.op.Op.TheVariants.{Load, Store}
use Rattle.mt_machine.specs.Memory.{Window}
use Rattle.mt_machine.specs.Machine.{Controls, FitsGoal, Machine, next}
use Rattle.mt_machine.specs.Start.{start_machine}
use Rattle.mt_core.specs.Arises.{grown}
use Rattle.mt_core.specs.Rounds.{ascending}
use Rattle.mt_private.specs.OneByOne.{OneByOne, one_by_one}
use Rattle.mt_dump.specs.Canon.{value_text}
use Rattle.mt_output.specs.Lines.{line}
use Rattle.mt_answers.specs.Generator.{drawn, stepped}

-- ---- jobs

-- An access draws a choice and a word of a page. It loads the word, or stores the number that the last draw has left.
abbrev pub behind_op : ℕ → ℕ
behind_op x = stepped (stepped x)

abbrev pub drawn_op : ℕ → Op
drawn_op x =
    if nat_lt (drawn (stepped x) 4) 2 then Load (8 * drawn (behind_op x) 512)
    else Store (8 * drawn (behind_op x) 512) (behind_op x)

-- so many accesses from a number on, and the number behind them
unfoldable pub drawn_ops : ℕ → ℕ → List Op
drawn_ops zero x = []
drawn_ops (suc more) x = drawn_op x ∷ drawn_ops more (behind_op x)

unfoldable pub behind_ops : ℕ → ℕ → ℕ
behind_ops zero x = x
behind_ops (suc more) x = behind_ops more (behind_op x)

-- the number with which processor k begins
abbrev pub first_number : ℕ → ℕ → ℕ
first_number n k = (n + k) % 2 ^ 64

abbrev pub ops_before : ℕ → ℕ → ℕ → List Op
ops_before n accesses k = drawn_ops accesses (first_number n k)

abbrev pub ops_after : ℕ → ℕ → ℕ → List Op
ops_after n accesses k = drawn_ops accesses (behind_ops accesses (first_number n k))

-- ---- the machine

-- memory below 4 GB has this type, over UC
abbrev pub file_of : ℕ → RegisterFile
file_of kind = with_value (with_value (with_value (blank_file 36 0x508) (PhysBase 0) kind) (PhysMask 0) 0xf00000800) DefaultType 0x800

-- processor k maps its page 0 to the window of 64 lines at k times 100000H
abbrev pub own_page : ℕ → Mapping
own_page k = record { vpage = 0; ppage = 0x100 * k; index = 0; global = false }

abbrev pub own_window : ℕ → Window
own_window k = window (0x100000 * k) 64

abbrev pub with_own : Machine → ℕ → Machine
with_own m k = next (grown (own_window k) m) (Controls k (Map (own_page k)))

abbrev pub measured_machine : ℕ → Machine
measured_machine count = fold with_own (start_machine (replicate count (file_of 6)) []) (ascending count)

-- the update between gives memory below 4 GB the type WT
abbrev pub measured : ℕ → ℕ → ℕ → OneByOne
measured count n accesses =
    one_by_one (measured_machine count).system (file_of 4) (map (ops_before n accesses) (ascending count)) (map (ops_after n accesses) (ascending count))

-- so many processors, with the goal's width and capabilities, that have finished no update, and none is under way
pub record IsSetUp (count : ℕ) (m : Machine) : Type 0 where
  pub size : length m.system.processors ≡ count
  pub order : m.order ≡ None
  pub fits : All (FitsGoal (file_of 4)) m.system.processors
  pub eras : All (λ p. p.era ≡ 0) m.system.processors

-- ---- sums modulo 2 ^ 64

abbrev pub plus : ℕ → ℕ → ℕ
plus a b = (a + b) % 2 ^ 64

-- of the values that are loaded
abbrev pub value_of : Done → ℕ
value_of (Value v kind) = v
value_of other = 0

abbrev pub values_from : ℕ → List Done → ℕ
values_from sum answers = fold (λ s d. plus s (value_of d)) sum answers

abbrev pub all_values_from : ℕ → List (List Done) → ℕ
all_values_from sum answers = fold values_from sum answers

abbrev pub words_sum : List ℕ → ℕ
words_sum words = fold plus 0 words

abbrev pub sums_text : ℕ → ℕ → List ℕ
sums_text values memory = line (codes "values " ++ value_text values) ++ line (codes "memory " ++ value_text memory)

abbrev pub text_of : OneByOne → List ℕ
text_of o = sums_text (all_values_from (all_values_from 0 o.before) o.after) (words_sum o.left.system.memory.words)

unfoldable pub measured_text : ℕ → ℕ → ℕ → List ℕ
measured_text count n accesses = text_of (measured count n accesses)
