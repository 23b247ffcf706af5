-- What holds from the first release of an update on.
use Rattle.std.specs.Prelude.{◌≡◌, ◌≤◌, ℕ, ◌+◌, Bool, true, false, not, List, [], ◌∷◌, Some, ◌++◌}
use Rattle.std.specs.List.{list_all, All}
use Rattle.mt_machine.specs.Machine.{Machine, Order, has_passed, has_released, Reached, MachineEvent, Steps, IsEnabled, next, run, AreEnabled}
use Rattle.mt_machine.specs.declared.event.Event.TheVariants.{Pass, Release}
use Rattle.mt_machine.specs.Update.{IsSettled, IsHeld, is_release, is_call}
use Rattle.mt_regs.specs.RegisterFile.{RegisterFile}
use Rattle.mt_machine.specs.Memory.{Window}
use Rattle.mt_machine.specs.System.{Processor}
use Rattle.mt_machine.specs.Start.{IsStart, start_with}

-- p stands before the first pass of its update, and the first release leads to r
pub record IsFirstRelease (p r : Machine) (o : Order) : Type 0 where
  pub order : p.order ≡ Some o
  pub none_passed : All (λ q. has_passed o q ≡ false) p.system.processors
  pub first : ℕ
  pub last : ℕ
  pub between : List MachineEvent
  pub no_release : list_all (λ e. not (is_release e)) between ≡ true
  pub enabled : AreEnabled p (Steps first Pass ∷ between ++ Steps last Release ∷ [])
  pub leads : r ≡ run p (Steps first Pass ∷ between ++ Steps last Release ∷ [])

-- each word that no access stored since the first release is in memory as it was before the first pass
abbrev pub HeldAfterRelease : Type 0
HeldAfterRelease =
    (s p r : Machine) (o : Order) (since : List MachineEvent) → IsStart s → Reached s p → IsFirstRelease p r o → AreEnabled r since
    → IsHeld p.system r since

-- a release before which none has released is the first of its update: some reached state before the first pass leads to it
abbrev pub FirstReleaseFollows : Type 0
FirstReleaseFollows =
    (s m : Machine) (o : Order) (k : ℕ) → IsStart s → Reached s m → m.order ≡ Some o
    → All (λ q. has_released o q ≡ false) m.system.processors → IsEnabled m (Steps k Release)
    → (p : Machine) × Reached s p × IsFirstRelease p (next m (Steps k Release)) o

-- so after the first release of each update that is reached, words are held
abbrev pub HeldAfterEachFirst : Type 0
HeldAfterEachFirst =
    (s m : Machine) (o : Order) (k : ℕ) (since : List MachineEvent) → IsStart s → Reached s m → m.order ≡ Some o
    → All (λ q. has_released o q ≡ false) m.system.processors → IsEnabled m (Steps k Release)
    → AreEnabled (next m (Steps k Release)) since
    → (p : Machine) × Reached s p × IsFirstRelease p (next m (Steps k Release)) o × IsHeld p.system (next m (Steps k Release)) since

-- where some processor may pass the first barrier, none has a buffer
abbrev pub NoBuffersAtPass : Type 0
NoBuffersAtPass =
    (s p : Machine) (k : ℕ) → IsStart s → Reached s p → IsEnabled p (Steps k Pass) → All (λ q. q.buffers ≡ []) p.system.processors

-- each processor's file is the goal, and nothing is held that is older than the update
abbrev pub SettledAfterEachRelease : Type 0
SettledAfterEachRelease =
    (s m : Machine) (o : Order) (k : ℕ) (since : List MachineEvent) → IsStart s → Reached s m → m.order ≡ Some o
    → IsEnabled m (Steps k Release) → AreEnabled (next m (Steps k Release)) since → list_all (λ e. not (is_call e)) since ≡ true
    → IsSettled (run (next m (Steps k Release)) since).system (o.from_era + 1) o.goal

-- ---- at all times

-- nothing that the processor holds is of an earlier era than its own
pub record IsFresh (p : Processor) : Type 0 where
  pub lines : All (λ l. p.era ≤ l.era) p.lines
  pub buffers : All (λ l. p.era ≤ l.era) p.buffers
  pub entries : All (λ e. p.era ≤ e.era) p.entries

-- where that holds at a start it holds in each reached state, within an update too
abbrev pub NothingIsStale : Type 0
NothingIsStale = (s m : Machine) → IsStart s → All IsFresh s.system.processors → Reached s m → All IsFresh m.system.processors

abbrev pub StartsFresh : Type 0
StartsFresh = (flags : List Bool) (files : List RegisterFile) (ws : List Window) → All IsFresh (start_with flags files ws).system.processors
