-- Logs of two lines that contradict each other, and others for which the premises of the laws hold (own).
use Rattle.std.specs.Prelude.{ℕ, ◌≡◌, true, false, codes, List, [], ◌∷◌, ◌++◌, Option, Some, None}
use Rattle.mt_kinds.specs.Bits.{is_bit_set}
use Rattle.mt_import.specs.declared.format.Choice.{Choice}
use Rattle.mt_import.specs.declared.format.Choice.TheVariants.{Only}
use Rattle.mt_import.specs.declared.format.Format.TheVariants.{Linux, Rdmsr}
use Rattle.mt_import.specs.declared.shape.Pick.TheVariants.{Each, Last}
use Rattle.mt_import.specs.declared.shape.Reading.{Reading}
use Rattle.mt_import.specs.Slot.{all_bits}
use Rattle.mt_import.specs.Outcome.{shows_fixed, shows_no_fix}
use Rattle.mt_import.specs.Supplied.{Supplied, command_of, nothing_assumed, nothing_supplied, supplied_value}
use Rattle.mt_import_laws.specs.Origins.{Contradict, IsAmong, LogSaysFixed, readings_of}

abbrev pub worked_choice : Choice
worked_choice = Only Rdmsr

-- columns of register and value
abbrev pub worked_log : List ℕ
worked_log = codes "0x277 6\n0x277 7\n"

-- the same with a CR at the end of the first line
abbrev pub returned_log : List ℕ
returned_log = codes "0x277 6" ++ 13 ∷ codes "\n0x277 7\n"

-- the same with a line more between the two, and in front of them
abbrev pub spaced_log : List ℕ
spaced_log = codes "0x277 6\nthat was all\n0x277 7\n"

abbrev pub headed_log : List ℕ
headed_log = codes "the registers\n0x277 6\n0x277 7\n"

abbrev pub first_reading : Reading
first_reading = record { processor = 0; table = 0; number = 0x277; bits = all_bits; value = 6; place = record { line = 1; column = 7 } }

abbrev pub second_reading : Reading
second_reading = record { processor = 0; table = 0; number = 0x277; bits = all_bits; value = 7; place = record { line = 2; column = 7 } }

-- a fixed-range register, and a capability register without FIX
abbrev pub fixed_log : List ℕ
fixed_log = codes "0x250 6\n0xfe 400\n"

abbrev pub fixed_reading : Reading
fixed_reading = record { processor = 0; table = 0; number = 0x250; bits = all_bits; value = 6; place = record { line = 1; column = 7 } }

abbrev pub fixless_reading : Reading
fixless_reading = record { processor = 0; table = 0; number = 0xfe; bits = all_bits; value = 0x400; place = record { line = 2; column = 6 } }

pub record IsWorkedFixed : Type 0 where
  pub first : IsAmong fixed_reading (readings_of worked_choice fixed_log)
  pub second : IsAmong fixless_reading (readings_of worked_choice fixed_log)
  pub fixed : shows_fixed fixed_reading ≡ true
  pub clear : shows_no_fix fixless_reading ≡ true

-- what the word `0fe=400` supplies
abbrev pub word_without_fix : Supplied
word_without_fix = record { width = None; registers = (0xfe, 0x400) ∷ []; assumed = nothing_assumed; table = Each }

-- a fixed-range register alone
abbrev pub ranged_log : List ℕ
ranged_log = codes "0x250 6\n"

pub record IsWorkedWord : Type 0 where
  pub words : command_of (codes "rdmsr" ∷ codes "0fe=400" ∷ []) ≡ Some (worked_choice, word_without_fix)
  pub among : IsAmong fixed_reading (readings_of worked_choice ranged_log)
  pub fixed : shows_fixed fixed_reading ≡ true
  pub given : supplied_value word_without_fix 0xfe ≡ Some 0x400
  pub clear : is_bit_set 0x400 8 ≡ false

-- fixed ranges that are on and off
abbrev pub switched_log : List ℕ
switched_log = codes "MTRR fixed ranges enabled:\nMTRR fixed ranges disabled:\n"

pub record IsWorkedSwitch : Type 0 where
  pub on : LogSaysFixed (Only Linux) switched_log true
  pub off : LogSaysFixed (Only Linux) switched_log false

-- what the word `table=last` supplies
abbrev pub last_table : Supplied
last_table = record nothing_supplied { table = Last }

-- the lines of two boots
abbrev pub two_boots : List ℕ
two_boots = codes "MTRR default type: uncachable\n  0 disabled\nMTRR default type: write-back\nreg00: base=0x000000000 (    0MB), size= 4096MB, count=1: write-back\n  1 disabled\n"

-- the same without the first one's
abbrev pub second_boot : List ℕ
second_boot = codes "\n\nMTRR default type: write-back\nreg00: base=0x000000000 (    0MB), size= 4096MB, count=1: write-back\n  1 disabled\n"

-- a warning in a log of another format
abbrev pub warning_log : List ℕ
warning_log = codes "0x277 6\nmtrr: your CPUs had inconsistent variable MTRR settings\n"

-- a warning in front of a contradiction, and one behind it
abbrev pub late_log : List ℕ
late_log = codes "mtrr: your BIOS has configured an incorrect mask, fixing it.\n0x277 6\n0x277 7\nmtrr: your CPUs had inconsistent variable MTRR settings\n"

-- what the word `assume=pat` allows
abbrev pub pat_allowed : Supplied
pat_allowed = record nothing_supplied { assumed = record nothing_assumed { pat = true } }

-- one processor's registers, of which none is known, and of which each is
abbrev pub no_values : ℕ → ℕ → Option ℕ
no_values k number = None

abbrev pub all_values : ℕ → ℕ → Option ℕ
all_values k number = Some 0

pub record IsWorked : Type 0 where
  pub first : IsAmong first_reading (readings_of worked_choice worked_log)
  pub second : IsAmong second_reading (readings_of worked_choice worked_log)
  pub apart : Contradict first_reading second_reading
