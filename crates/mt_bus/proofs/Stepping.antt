-- What the events of an update leave as it is.
use Rattle.std.proofs.Common.{◌≡◌, ◌≢◌, ◌∙◌, ap, refl, ℕ, ◌<◌, ◌^◌, true, false, List, [], length, slice_get, Option, None, Some, IsTrue}
use Rattle.std.specs.List.{All}
use Rattle.std.specs.Option.{option_map_or}
use Rattle.mt_regs.specs.RegisterFile.{RegisterFile}
use Rattle.mt_types.specs.Tables.{TypeTable}
use Rattle.mt_cpu.specs.Steps.{is_local, is_shift}
use Rattle.mt_machine.specs.declared.go.Go.TheVariants.{Pending}
use Rattle.mt_machine.specs.declared.phase.Phase.{Phase}
use Rattle.mt_machine.specs.declared.phase.Phase.TheVariants.{Running}
use Rattle.mt_machine.specs.declared.event.Event.{Event}
use Rattle.mt_machine.specs.declared.event.Event.TheVariants.{Enable, Take, WriteBack}
use Rattle.mt_machine.specs.Memory.{Memory, put_word}
use Rattle.mt_machine.specs.System.{IsSound, Processor, System}
use Rattle.mt_machine.specs.Bus.{drain}
use Rattle.mt_machine.specs.Access.{is_running}
use Rattle.mt_machine.specs.Machine.{Order, before_own, due, own_step, step}
use Rattle.mt_laws.proofs.Barrier.Claims.{all_get}
use Rattle.mt_laws.proofs.Registers.UnderWay.{lines_are_low}
use Rattle.mt_laws.proofs.Barrier.Stages.{drain_stages}
use Rattle.mt_laws.proofs.Clearing.Renewed.{is_take, no_take}
use Rattle.mt_laws.specs.Parts.{system, with_changed}
use Rattle.mt_bus.specs.Steps.{IsDueAlone, tables_after, with_word_of}
use Rattle.mt_bus.proofs.Changed.{changed_is}
use Rattle.mt_bus.proofs.Tables.{same_length}

worked : (goal : RegisterFile) (e : Event) (k : ℕ) (ps : List Processor) (m : Memory) → e ≢ Take
    → system (with_changed (own_step goal e) k ps) (with_word_of e m) ≡ step goal e k (system ps m)
worked goal Take k ps m other = absurd (other refl)
worked goal (WriteBack address value) k ps m other = changed_is (own_step goal (WriteBack address value)) k ps (put_word m address value)
worked goal e k ps m other = changed_is (own_step goal e) k ps m

-- the system of these processors and this memory after its event
pub did : (goal : RegisterFile) (e : Event) (k : ℕ) (s : System) (ps qs : List Processor) (m n : Memory) → e ≢ Take → system ps m ≡ s
    → qs ≡ with_changed (own_step goal e) k ps → n ≡ with_word_of e m → system qs n ≡ step goal e k s
did goal e k s ps qs m n other is own word =
    ap (λ (xs : List Processor). system xs n) own ∙ ap (λ (x : Memory). system (with_changed (own_step goal e) k ps) x) word ∙ worked goal e k ps m other ∙ ap (step goal e k) is

local_rests : (ph : Phase) → IsTrue (is_local ph) → is_running ph ≡ false
local_rests Running h = absurd (cc)
local_rests other h = refl

pub taken : is_take Take ≡ true
unfolding is_take
taken = refl

-- the event is due by the processor alone
abbrev Alone : Processor → Event → Type 0
Alone p e = (o : Order) (ps : List Processor) → due o ps p p.phase ≡ Some e

pub alone_takes_not : (goal : RegisterFile) (p : Processor) (e : Event) → IsTrue (is_local p.phase) → Alone p e → e ≢ Take
alone_takes_not goal p e h is same =
    let a : is_take e ≡ true = ap is_take same ∙ taken in
    let o : Order = record { goal = goal; from_era = 0; go = Pending } in
    let b : is_take e ≡ false = no_take o [] p p.phase e (local_rests p.phase h) (is o []) in
    absurd (cc)

pub due_alone : (s : System) (k : ℕ) (p : Processor) (e : Event) → slice_get s.processors k ≡ Some p → Alone p e → IsDueAlone k s e
due_alone s k p e at is o = ap (λ (x : Option Processor). option_map_or (λ q. due o s.processors q q.phase) x None) at ∙ is o s.processors

pub prepared_length : (e : Event) (k : ℕ) (s : System) → length (before_own e k s).processors ≡ length s.processors
prepared_length Take k s = same_length s (drain k s) (drain_stages k s)
prepared_length e k s = refl

pub unprepared : (e : Event) (ph : Phase) (k : ℕ) (s : System) → e ≢ Take → IsTrue (is_shift e ph) → s ≡ before_own e k s
unprepared Take ph k s other h = absurd (other refl)
unprepared (WriteBack address value) ph k s other h = absurd (cc)
unprepared e ph k s other h = refl

pub shift_leaves : (e : Event) (ph : Phase) (k : ℕ) (t : TypeTable) (ts : List TypeTable) → is_shift e ph ≡ true → tables_after e k t ts ≡ ts
shift_leaves Enable ph k t ts h = absurd (cc)
shift_leaves e ph k t ts h = refl

pub low_of : (s : System) → IsSound s → (k : ℕ) (p : Processor) → slice_get s.processors k ≡ Some p → All (λ l. l.number < 2 ^ 46) p.lines
low_of s sound k p at = (all_get (λ q. All (λ l. l.number < 2 ^ 46) q.lines × All (λ l. l.number < 2 ^ 46) q.buffers) s.processors (lines_are_low s sound) k p at).0
