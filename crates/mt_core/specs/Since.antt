-- What is said of the events since an update, and of one event (own).
use Rattle.std.specs.Prelude.{◌≡◌, ◌+◌, ◌%◌, ℕ, List, []}
use Rattle.std.specs.List.{All, Contains}
use Rattle.mt_regs.specs.RegisterFile.{RegisterFile}
use Rattle.mt_machine.specs.Memory.{word_at}
use Rattle.mt_machine.specs.System.{Processor, System, now}
use Rattle.mt_machine.specs.Machine.{Machine, MachineEvent, run}
use Rattle.mt_machine.specs.Update.{IsSettled, stored_words}

-- after an update from this era on, and these events, each file is the goal and nothing is held of another era than the next
abbrev pub IsSettledSince : Machine → ℕ → RegisterFile → List MachineEvent → Type 0
IsSettledSince m from_era goal since = IsSettled (run m since).system (from_era + 1) goal

-- a word that none of these events stored is in memory as it was before them
abbrev pub IsHeldSince : Machine → List MachineEvent → ℕ → Type 0
IsHeldSince m since address =
    address % 8 ≡ 0 → (Contains (stored_words m since) address → ⊥)
    → word_at (run m since).system.memory address ≡ word_at m.system.memory address

-- a word has the same value now
abbrev pub KeepsWord : System → System → ℕ → Type 0
KeepsWord s t address = address % 8 ≡ 0 → now t address ≡ now s address

abbrev pub HaveNoBuffers : List Processor → Type 0
HaveNoBuffers ps = All (λ q. q.buffers ≡ []) ps
