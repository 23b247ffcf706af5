-- What the two barriers keep in each reached state.
use Rattle.std.specs.Prelude.{◌≡◌, ℕ, true, false, List, slice_get, Some}
use Rattle.mt_machine.specs.System.{Processor}
use Rattle.mt_machine.specs.Machine.{Machine, Order, is_changing, has_passed, has_arrived, has_arrived_again, has_released, BarrierCount, first_barrier_open, first_barrier_count, second_barrier_open, second_barrier_count}
use Rattle.mt_machine.specs.Access.{is_running, access}
use Rattle.mt_machine.specs.declared.go.Go.TheVariants.{Given}
use Rattle.mt_machine.specs.declared.op.Op.{Op}
use Rattle.mt_machine.specs.declared.done.Done.TheVariants.{Busy}
use Rattle.mt_machine.specs.declared.control.Control.{Control}
use Rattle.mt_machine.specs.declared.ruled.Ruled.TheVariants.{Busy as RuledBusy}
use Rattle.mt_machine.specs.Control.{control}

abbrev pub IsAt : Machine → ℕ → Processor → Type 0
IsAt m i p = slice_get m.system.processors i ≡ Some p

-- where some processor has passed the first barrier, each has arrived at it and the go is given; where some has released, each has arrived at the second
pub record BarriersHold (m : Machine) : Type 0 where
  pub first : (o : Order) (i j : ℕ) (p q : Processor) → m.order ≡ Some o → IsAt m i p → IsAt m j q → has_passed o p ≡ true → has_arrived o q ≡ true
  pub given : (o : Order) (i : ℕ) (p : Processor) → m.order ≡ Some o → IsAt m i p → has_passed o p ≡ true → o.go ≡ Given
  pub second : (o : Order) (i j : ℕ) (p q : Processor) → m.order ≡ Some o → IsAt m i p → IsAt m j q → has_released o p ≡ true → has_arrived_again o q ≡ true

-- while some processor changes its registers, none runs
abbrev pub NoneRunsInChange : Machine → Type 0
NoneRunsInChange m =
    (i j : ℕ) (p q : Processor) → IsAt m i p → IsAt m j q → is_changing p.phase ≡ true → is_running q.phase ≡ false

-- and then no processor accesses memory, and none does a control instruction
abbrev pub NoneActsInChange : Machine → Type 0
NoneActsInChange m =
    (i k : ℕ) (p : Processor) (op : Op) (c : Control) → IsAt m i p → is_changing p.phase ≡ true
    → (access m.system k op ≡ record { answer = Busy; after = m.system }) × (control m.system k c ≡ record { answer = RuledBusy; after = m.system })

-- as many have arrived as are awaited
abbrev pub IsFull : BarrierCount → Type 0
IsFull c = c.arrived ≡ c.awaited

-- a barrier is open exactly where its count is full
abbrev pub OpenWhereFull : Type 0
OpenWhereFull =
    (o : Order) (ps : List Processor)
    → (first_barrier_open o ps ≡ true → IsFull (first_barrier_count o ps)) × (IsFull (first_barrier_count o ps) → first_barrier_open o ps ≡ true)
    × (second_barrier_open o ps ≡ true → IsFull (second_barrier_count o ps)) × (IsFull (second_barrier_count o ps) → second_barrier_open o ps ≡ true)
