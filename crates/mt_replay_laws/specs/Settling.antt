-- The machine of a state after a refused update, a complete one, a join and a release (own).
--     AreWithoutCall s commands      each of these commands fits in its turn, and none calls for an update
--     IsSettledAfter s m, IsAdmittedAfter s m      the machine after a whole update, and after a join
use Rattle.std.specs.Prelude.{ℕ, ◌≡◌, ◌↔◌, ◌≤◌, ◌+◌, ◌%◌, length, true, false, List, [], ◌∷◌, IsSome, ⊤, Option, Some, None}
use Rattle.std.specs.List.{All, Contains}
use Rattle.std.specs.Option.{option_map_or}
use Rattle.mt_regs.specs.declared.fault.Fault.{Fault}
use Rattle.mt_regs.specs.Faults.{IsAccepted, IsFirstFault}
use Rattle.mt_dump.specs.Dumps.{Dump}
use Rattle.mt_machine.specs.declared.event.Event.TheVariants.{Release}
use Rattle.mt_machine.specs.Memory.{place, word_at}
use Rattle.mt_machine.specs.System.{now}
use Rattle.mt_machine.specs.declared.op.Op.TheVariants as op
use Rattle.mt_machine.specs.Machine.{Accesses, Calls, Machine, Order, Reached, common_era, has_released, next}
use Rattle.mt_machine.specs.ComingAndGoing.{with_newcomer}
use Rattle.mt_machine.specs.Update.{IsSettled, emptied, stored_word}
use Rattle.mt_laws.specs.Settled.{IsFirstRelease}
use Rattle.mt_core.specs.Arises.{Arises}
use Rattle.mt_core.specs.Steps.{step_answer}
use Rattle.mt_core.specs.declared.stepped.Stepped.TheVariants.{Did}
use Rattle.mt_script.specs.Accept.{Fits}
use Rattle.mt_script.specs.declared.command.Command.{Command}
use Rattle.mt_script.specs.declared.command.Command.TheVariants as command
use Rattle.mt_script.specs.declared.command.Section.TheVariants.{End}
use Rattle.mt_script.specs.declared.command.Ask.TheVariants as ask
use Rattle.mt_script.specs.declared.command.Newcomer.TheVariants.{Join}
use Rattle.mt_output.specs.Lines.{refused_line}
use Rattle.mt_replay.specs.Kept.{IsReplayState, start_like}
use Rattle.mt_replay_laws.specs.Coming.{BringsUp}
use Rattle.mt_replay.specs.ReplayState.{ReplayState, call_fault, command_text, each_processor, first_file, is_update, machine_after, may_come, named, state_after}
use Rattle.mt_replay.specs.Texts.{absent_line, called_line, complete_line, joined_line, under_way_line}

-- ---- refused and complete updates

-- the end of a section writes this line, and changes no processor, no word and no order
abbrev pub EndsIdle : ReplayState → List ℕ → Type 0
EndsIdle s text = (command_text s (command.Section End) ≡ text) × (machine_after s (command.Section End) ≡ s.machine)

-- in both kinds of section
abbrev pub RefusedCallsChangeNothing : Type 0
RefusedCallsChangeNothing = (s : ReplayState) (fault : Fault) → s.machine.order ≡ None → IsFirstFault s.goal (Some fault) → EndsIdle s (refused_line fault)

-- whatever the goal is
abbrev pub CallsUnderWayChangeNothing : Type 0
CallsUnderWayChangeNothing = (s : ReplayState) → IsSome s.machine.order → EndsIdle s under_way_line

-- it calls for no update: neither as the end of a section, nor for a newcomer
abbrev pub IsWithoutCall : ReplayState → Command → Type 0
IsWithoutCall s c = (c ≡ command.Section End → IsSome (call_fault s.machine s.goal)) × (BringsUp c → may_come s.machine ≡ false)

-- each of these commands fits in its turn, and none calls for an update; a processor may be retired
abbrev pub AreWithoutCall : ReplayState → List Command → Type 0
AreWithoutCall s [] = ⊤
AreWithoutCall s (c ∷ cs) = Fits s.now c × IsWithoutCall s c × AreWithoutCall (state_after s c) cs

abbrev pub state_after_all : ReplayState → List Command → ReplayState
state_after_all s [] = s
state_after_all s (c ∷ cs) = state_after_all (state_after s c) cs

-- the value of each word once the buffers were emptied
abbrev pub emptied_now : Machine → ℕ → ℕ
emptied_now m = now (emptied m.system (each_processor m.system))

-- The machine after a whole update to the goal, and after commands since.
pub record IsSettledAfter (s : ReplayState) (m : Machine) : Type 0 where
  pub era : ℕ
  pub line_is : command_text s (command.Section End) ≡ complete_line era
  pub risen : era ≡ common_era s.machine.system.processors + 1
  pub eras : All (λ p. p.era ≡ era) m.system.processors
  pub settled : IsSettled m.system era s.goal
  pub stays_settled : (since : List Command) → AreWithoutCall (state_after s (command.Section End)) since → IsSettled (state_after_all (state_after s (command.Section End)) since).machine.system era s.goal
  pub no_order : m.order ≡ None
  pub windows : m.system.memory.windows ≡ s.machine.system.memory.windows
  pub words : (address : ℕ) → IsSome (place s.machine.system.memory address)
      → word_at m.system.memory address ≡ emptied_now s.machine address  -- as it was once the buffers were emptied

abbrev pub CompleteUpdatesSettle : Type 0
CompleteUpdatesSettle = (s : ReplayState) → IsReplayState s → is_update s.now.stage ≡ true → call_fault s.machine s.goal ≡ None → IsSettledAfter s (machine_after s (command.Section End))

-- The machine after a processor was brought up and admitted, and after commands since: all processors, the newcomer among them, have
-- the first one's registers.
pub record IsAdmittedAfter (s : ReplayState) (m : Machine) : Type 0 where
  pub line_is : command_text s (command.Newcomer Join) ≡ joined_line (length s.machine.system.processors)
  pub one_more : length m.system.processors ≡ length s.machine.system.processors + 1
  pub eras : All (λ p. p.era ≡ common_era s.machine.system.processors + 1) m.system.processors
  pub settled : IsSettled m.system (common_era s.machine.system.processors + 1) (first_file s)
  pub stays_settled : (since : List Command) → AreWithoutCall (state_after s (command.Newcomer Join)) since
      → IsSettled (state_after_all (state_after s (command.Newcomer Join)) since).machine.system (common_era s.machine.system.processors + 1) (first_file s)
  pub idle : m.order ≡ None
  pub windows : m.system.memory.windows ≡ s.machine.system.memory.windows
  pub words : (address : ℕ) → IsSome (place s.machine.system.memory address)
      → word_at m.system.memory address ≡ emptied_now (with_newcomer s.machine) address  -- as it was once the buffers were emptied

abbrev pub JoinsSettle : Type 0
JoinsSettle = (s : ReplayState) → IsReplayState s → Fits s.now (command.Newcomer Join) → may_come s.machine ≡ true → IsAdmittedAfter s (machine_after s (command.Newcomer Join))

-- a command does nothing on a processor that isn't there
abbrev pub AbsentProcessorsDoNothing : Type 0
AbsentProcessorsDoNothing =
    (s : ReplayState) (c : Command) (k : ℕ) → named c ≡ Some k → length s.machine.system.processors ≤ k
    → (command_text s c ≡ absent_line) × (machine_after s c ≡ s.machine)

-- no other command says so, and the machine is then as it was
abbrev pub AbsentWhereNoProcessor : Type 0
AbsentWhereNoProcessor =
    (s : ReplayState) (c : Command)
    → ((command_text s c ≡ absent_line) ↔ ((k : ℕ) × (named c ≡ Some k) × (length s.machine.system.processors ≤ k)))
    × (command_text s c ≡ absent_line → machine_after s c ≡ s.machine)

-- the other kind of section gives the goal to the processors, and no more
abbrev pub AcceptedCallsAreUnderWay : Type 0
AcceptedCallsAreUnderWay =
    (s : ReplayState) → is_update s.now.stage ≡ false → call_fault s.machine s.goal ≡ None
    → (command_text s (command.Section End) ≡ called_line) × (machine_after s (command.Section End) ≡ next s.machine (Calls s.goal))

-- a goal is refused nothing exactly where no update is under way and it has no fault
abbrev pub AcceptedWhereIdle : Type 0
AcceptedWhereIdle = (s : ReplayState) → (call_fault s.machine s.goal ≡ None) ↔ ((s.machine.order ≡ None) × IsAccepted s.goal)

-- ---- releases

-- from a step that releases on, and up to the next call, each processor has the goal's registers and holds nothing older than the update
abbrev pub ReleasedStatesSettle : Type 0
ReleasedStatesSettle =
    (s : ReplayState) (k : ℕ) (since : List Command) → IsReplayState s → Fits s.now (command.Ask k ask.Step) → step_answer s.machine k ≡ Did Release
    → AreWithoutCall (state_after s (command.Ask k ask.Step)) since
    → (o : Order) × (s.machine.order ≡ Some o) × IsSettled (state_after_all (state_after s (command.Ask k ask.Step)) since).machine.system (o.from_era + 1) o.goal

-- ---- words

-- the word that a command stores, where the access is answered Stored
abbrev pub stored_by : ReplayState → Command → Option ℕ
stored_by s (command.Ask k (ask.Store address value)) = stored_word s.machine (Accesses k (op.Store address value))
stored_by s other = None

abbrev pub stored_by_all : ReplayState → List Command → List ℕ
stored_by_all s [] = []
stored_by_all s (c ∷ cs) = option_map_or (λ a. a ∷ stored_by_all (state_after s c) cs) (stored_by s c) (stored_by_all (state_after s c) cs)

-- after these commands each word that none of them stored has this value in memory
abbrev pub AreHeld : (ℕ → ℕ) → ReplayState → List Command → Type 0
AreHeld value s since =
    (address : ℕ) → address % 8 ≡ 0 → (Contains (stored_by_all s since) address → ⊥) → word_at (state_after_all s since).machine.system.memory address ≡ value address

-- from a complete update on, and up to the next call: the value that the update left
abbrev pub UpdatedWordsAreHeld : Type 0
UpdatedWordsAreHeld =
    (s : ReplayState) (since : List Command) → IsReplayState s → is_update s.now.stage ≡ true → call_fault s.machine s.goal ≡ None → AreWithoutCall (state_after s (command.Section End)) since
    → AreHeld (word_at (machine_after s (command.Section End)).system.memory) (state_after s (command.Section End)) since

-- from the first release of an update on, and up to the next call: the value that the word had before the first pass
abbrev pub ReleasedWordsAreHeld : Type 0
ReleasedWordsAreHeld =
    (s : ReplayState) (d : Dump) (o : Order) (k : ℕ) (since : List Command) → IsReplayState s → s.now.dump ≡ Some d → Fits s.now (command.Ask k ask.Step)
    → step_answer s.machine k ≡ Did Release → s.machine.order ≡ Some o → All (λ q. has_released o q ≡ false) s.machine.system.processors
    → AreWithoutCall (state_after s (command.Ask k ask.Step)) since
    → (p : Machine) × Arises p × (s.now.moving ≡ false → Reached (start_like s d) p) × IsFirstRelease p (machine_after s (command.Ask k ask.Step)) o
    × AreHeld (now p.system) (state_after s (command.Ask k ask.Step)) since
