-- The states from which the laws hold (own).
use Rattle.std.specs.Prelude.{◌≡◌, ◌⊎◌, ◌<◌, ◌-◌, ◌^◌, Bool, true, [], ◌∷◌, None, Some, map, replicate, List}
use Rattle.std.specs.List.{All}
use Rattle.mt_regs.specs.RegisterFile.{RegisterFile, IsRegisterFile}
use Rattle.mt_regs.specs.Faults.{IsAccepted}
use Rattle.mt_machine.specs.declared.phase.Phase.TheVariants.{Taken}
use Rattle.mt_machine.specs.declared.go.Go.TheVariants.{Pending}
use Rattle.mt_machine.specs.Memory.{Memory, Window, word_count}
use Rattle.mt_machine.specs.System.{IsSound, Processor, start_processor}
use Rattle.mt_machine.specs.Access.{is_running}
use Rattle.mt_machine.specs.Machine.{FitsGoal, Machine, Order, common_era}

-- all processors run, with one era, one width and one value of the capabilities, and no update is under way
pub record IsQuiet (m : Machine) : Type 0 where
  pub sound : IsSound m.system
  pub running : All (λ p. is_running p.phase ≡ true) m.system.processors
  pub one_era : All (λ p. p.era ≡ common_era m.system.processors) m.system.processors
  pub one_kind : All (λ p. All (λ q. FitsGoal p.file q) m.system.processors) m.system.processors
  pub no_order : m.order ≡ None

-- all processors have taken and have no buffer, with one era and the goal's width and capabilities, and the coordinator has neither given go nor cancelled
pub record IsBroadcast (m : Machine) (o : Order) : Type 0 where
  pub sound : IsSound m.system
  pub order : m.order ≡ Some o
  pub pending : o.go ≡ Pending
  pub taken : All (λ p. p.phase ≡ Taken) m.system.processors
  pub no_buffers : All (λ p. p.buffers ≡ []) m.system.processors
  pub one_era : All (λ p. p.era ≡ o.from_era) m.system.processors
  pub goal_file : IsRegisterFile o.goal
  pub goal_accepted : IsAccepted o.goal
  pub fits : All (FitsGoal o.goal) m.system.processors

abbrev pub IsStart : Machine → Type 0
IsStart m = IsQuiet m ⊎ ((o : Order) × IsBroadcast m o)

-- windows of zero words
abbrev pub zero_memory : List Window → Memory
zero_memory ws = record { windows = ws; words = replicate (word_count ws) 0 }

-- a processor for each file, over such a memory
abbrev pub start_machine : List RegisterFile → List Window → Machine
start_machine files ws = record {
  system = record { processors = map start_processor files; memory = zero_memory ws };
  order = None;
}

-- a processor for each file, which is self-snooping where a flag stands at its place and is set
abbrev pub flagged_processors : List RegisterFile → List Bool → List Processor
flagged_processors [] flags = []
flagged_processors (f ∷ fs) [] = start_processor f ∷ flagged_processors fs []
flagged_processors (f ∷ fs) (b ∷ bs) = record (start_processor f) { self_snoop = b } ∷ flagged_processors fs bs

-- the start with these flags
abbrev pub start_with : List Bool → List RegisterFile → List Window → Machine
start_with flags files ws = record {
  system = record { processors = flagged_processors files flags; memory = zero_memory ws };
  order = None;
}

-- the eras of a machine fit 64 bits, also after its next update; a caller of an update sees to that
abbrev pub HasEraRoom : Machine → Type 0
HasEraRoom m = All (λ p. p.era < 2 ^ 64 - 1) m.system.processors
