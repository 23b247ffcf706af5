-- What a step needs of the state that it starts from, and that its own is sound.
use Rattle.std.proofs.Common.{◌≡◌, ◌≢◌, ◌∙◌, ap, sym, refl, subst, arith, ℕ, zero, suc, ◌+◌, ◌-◌, ◌<◌, ◌^◌, ⊎_elim, true, false, List, [], ◌∷◌, ◌++◌, length, take, Option, None, Some, slice_get, IsTrue, inl}
use Rattle.mt_laws.proofs.Invariant.Snooping.{from, snooping_stays_quiet}
use Rattle.mt_laws.proofs.Invariant.Coming.{of_more, reset_stays_quiet}
use Rattle.mt_laws.proofs.Invariant.Going.{gone_stays_quiet, of_front}
use Rattle.mt_machine.specs.ComingAndGoing.{gone, last_number, newcomer_beside, reset, with_newcomer, without_last}
use Rattle.mt_laws.proofs.Registers.Quiet.{AllOf, Shape, next_shapes, quiet_of, shape, start_shape}
use Rattle.mt_machine.specs.Start.{IsQuiet, IsStart}
use Rattle.std.specs.Prelude.{nat_lt}
use Rattle.std.specs.List.{All}
use Rattle.std.specs.Option.{option_map_or}
use Rattle.std.proofs.lemmas.Bool.{lt-ltb}
use Rattle.mt_regs.specs.declared.registers.Register.{Register}
use Rattle.mt_regs.specs.RegisterFile.{RegisterFile}
use Rattle.mt_regs.specs.Registers.{value_of, writable}
use Rattle.mt_regs.specs.Faults.{IsAccepted}
use Rattle.mt_cpu.specs.Steps.{HasWritten, is_shift}
use Rattle.mt_machine.specs.declared.phase.Phase.{Phase}
use Rattle.mt_machine.specs.declared.phase.Phase.TheVariants.{Running}
use Rattle.mt_machine.specs.declared.event.Event.{Event}
use Rattle.mt_machine.specs.declared.event.Event.TheVariants.{Release, Take}
use Rattle.mt_machine.specs.Memory.{IsMemory, Window}
use Rattle.mt_machine.specs.System.{IsSound, Processor, System, snooping, with_self_snoop}
use Rattle.mt_machine.specs.Bus.{drain, with_buffers}
use Rattle.mt_machine.specs.Access.{is_running}
use Rattle.mt_machine.specs.Machine.{FitsGoal, Machine, MachineEvent, IsEnabled, Order, Steps, before_own, due, due_at, next, remaining_order, step}
use Rattle.mt_machine.proofs.Files.{AgreeAll}
use Rattle.mt_laws.proofs.Barrier.Ranks.{Guarded, stage_at}
use Rattle.mt_laws.proofs.Barrier.Stages.{drain_stages, stage_of, stages}
use Rattle.mt_laws.proofs.Clearing.Follows.{follows_drain}
use Rattle.mt_bus.proofs.Tables.{same_length}
use Rattle.mt_bus.proofs.Stepping.{taken}
use Rattle.mt_core.proofs.Arising.{went}
use Rattle.mt_laws.proofs.Clearing.Renewed.{at_change, is_take, no_take}
use Rattle.mt_laws.proofs.Invariant.Kept.{start_sound}
use Rattle.mt_laws.proofs.Invariant.Parts.{memory_of}
use Rattle.mt_laws.proofs.Invariant.Standing.{Standing, standing_next, standing_sound, start_standing}
use Rattle.mt_laws.proofs.Words.Sound.{aligned_all, sound_agrees}
use Rattle.mt_bus.proofs.Grown.{sound_grown}
use Rattle.mt_ram.specs.Windows.{with_window}
use Rattle.mt_core.specs.Arises.{Arises, IsCore, by_event, by_window, from_start, grown, by_snooping, snooped, by_coming_up, by_going_down}
use Rattle.mt_bus.specs.Steps.{IsReady}
use Rattle.mt_core.specs.Steps.{under_way}

abbrev Stands : Machine → Type 0
Stands m = IsMemory m.system.memory × Standing m.system.memory.windows m

stands_next : (m : Machine) (e : MachineEvent) → IsEnabled m e → Stands m → Stands (next m e)
stands_next m e enabled h =
    let ws : List Window = m.system.memory.windows in
    let later = standing_next ws (aligned_all ws h.0.aligned) m e enabled h.1 in
    let same = later.agrees.stands.memory.windows in (
      memory_of m.system.memory (next m e).system.memory same later.agrees.stands.memory.counted h.0,
      subst (λ (v : List Window). Standing v (next m e)) (sym same) later,
    )

stands_grown : (m : Machine) (w : Window) → IsMemory (with_window w m.system.memory) → Stands m → Stands (grown w m)
stands_grown m w memory h =
    let st = h.1 in (
      memory,
      record {
        kept = st.kept;
        filed = st.filed;
        accepted = record { goal = st.accepted.goal; each = st.accepted.each };
        tidy = st.tidy;
        agrees = sound_agrees (grown w m) (sound_grown m.system w (standing_sound m.system.memory.windows m st h.0) memory);
      },
    )

-- ---- one width and one value of the capabilities

shapes_snooped : (v : Shape) (k : ℕ) (s : System) → AllOf v s.processors → AllOf v (with_self_snoop k s).processors
shapes_snooped v k s all i q at =
    let f = from k s i q at in
    ⊎_elim (λ (e : f.0 ≡ q). ap (λ (p : Processor). shape p.file) (sym e)) (λ (e : snooping f.0 ≡ q). ap (λ (p : Processor). shape p.file) (sym e)) f.2 ∙ all i f.0 f.1

shapes_come : (v : Shape) (s : System) → AllOf v s.processors → AllOf v (reset s).processors
shapes_come v s all = one (slice_get s.processors 0) refl
  where
    one : (o : Option Processor) → slice_get s.processors 0 ≡ o → AllOf v (option_map_or (λ p. record s { processors = s.processors ++ newcomer_beside p ∷ [] }) o s).processors
    one None at = all
    one (Some p) at = λ i q at_q. ⊎_elim (λ (old : slice_get s.processors i ≡ Some q). all i q old)
        (λ (new : newcomer_beside p ≡ q). ap (λ (r : Processor). shape r.file) (sym new) ∙ all 0 p at)
        (of_more s.processors (newcomer_beside p) i q at_q)

shapes_gone : (v : Shape) (s : System) → AllOf v s.processors → AllOf v (gone s).processors
shapes_gone v s all i q at =
    let k : ℕ = last_number s in
    let f = follows_drain k s i q (of_front (drain k s).processors k i q at) in
    ap shape f.2.file ∙ all i f.0 f.1

pub shapes : {m : Machine} → Arises m → (v : Shape) × AllOf v m.system.processors
shapes {m} (from_start s) = start_shape m s
shapes (by_event {m = m} e a enabled) = let was = shapes a in (was.0, next_shapes was.0 e m.system m.order was.1)
shapes (by_window w a memory) = shapes a
shapes (by_snooping {m = m} k a none) = let was = shapes a in (was.0, shapes_snooped was.0 k m.system was.1)
shapes (by_coming_up {m = m} a none some) = let was = shapes a in (was.0, shapes_come was.0 m.system was.1)
shapes (by_going_down {m = m} a none more) = let was = shapes a in (was.0, shapes_gone was.0 m.system was.1)

-- ---- where no update is under way it is quiet

quiet_here : (m : Machine) (v : Shape) → AllOf v m.system.processors → m.order ≡ None → Stands m → IsQuiet m
quiet_here m v all none h = quiet_of v m (standing_sound m.system.memory.windows m h.1 h.0) h.1.kept.0 all none

stands_start : (m : Machine) → IsStart m → Stands m
stands_start m s = ((start_sound m s).memory, start_standing m s)

pub stands : {m : Machine} → Arises m → Stands m
stands {m} (from_start s) = stands_start m s
stands (by_event e a enabled) = stands_next _ e enabled (stands a)
stands (by_window w a memory) = stands_grown _ w memory (stands a)
stands (by_snooping {m = m} k a none) = let shape = shapes a in stands_start (snooped k m) (inl (snooping_stays_quiet m k (quiet_here m shape.0 shape.1 none (stands a))))
stands (by_coming_up {m = m} a none some) = let shape = shapes a in stands_start (with_newcomer m) (inl (reset_stays_quiet m (quiet_here m shape.0 shape.1 none (stands a))))
stands (by_going_down {m = m} a none more) = let shape = shapes a in stands_start (without_last m) (inl (gone_stays_quiet m (omega arith) (quiet_here m shape.0 shape.1 none (stands a))))

pub is_sound : (m : Machine) → Arises m → IsSound m.system
is_sound m a = let st = stands a in standing_sound m.system.memory.windows m st.1 st.0

agree_all : (goal f : RegisterFile) (rs : List Register) → AgreeAll goal f rs → All (λ r. value_of f r ≡ value_of goal r) rs
agree_all goal f [] h k d within = absurd (omega arith)
agree_all goal f (r ∷ rs) h zero d within = h.0
agree_all goal f (r ∷ rs) h (suc k) d within = agree_all goal f rs h.1 k d (omega arith)

shift_rests : (ph : Phase) → is_shift Release ph ≡ true → is_running ph ≡ false
shift_rests Running h = absurd (cc)
shift_rests other h = refl

module _ (o : Order) (s : System) (core : IsCore (under_way o s)) where
  pub goal_accepted : IsAccepted o.goal
  goal_accepted = (stands core.arises).1.accepted.goal

  pub step_sound : (k : ℕ) (e : Event) → due_at (under_way o s) k ≡ Some e → IsSound (step o.goal e k s)
  step_sound k e enabled = is_sound (next (under_way o s) (Steps k e)) (by_event (Steps k e) core.arises enabled)

  module _ (k : ℕ) (p : Processor) (at : slice_get s.processors k ≡ Some p) where
    pub fits_at : FitsGoal o.goal p
    fits_at = let f = (stands core.arises).1.filed.1 k p at in record { width = sym f.alike.width; capabilities = sym f.alike.capabilities }

    pub written_at : HasWritten o.goal p
    written_at i writing = let f = (stands core.arises).1.filed.1 k p at in agree_all o.goal p.file (take i (writable o.goal)) (f.writing i writing).1

    pub room_at : (e : Event) → IsTrue (is_shift e p.phase) → e ≡ Release → p.era < 2 ^ 64 - 1
    room_at e shift release =
        let guarded : Guarded o (stages s) = (stands core.arises).1.kept.0 in
        let here = stage_at s.processors k p at in
        let rests = shift_rests p.phase (subst (λ (v : Event). is_shift v p.phase ≡ true) release shift) in
        let behind : nat_lt o.from_era p.era ≡ false = guarded.in_step k (stage_of p) here rests in
        let low = core.room o refl in
        ⊎_elim (λ (g : p.era ≡ o.from_era). omega arith)
        (λ (g : p.era ≡ o.from_era + 1). absurd (let ahead : nat_lt o.from_era p.era ≡ true = lt-ltb o.from_era p.era (omega arith) in cc))
        (guarded.eras k (stage_of p) here)

pub drained : (k : ℕ) (s : System) (p : Processor) → slice_get (drain k s).processors k ≡ Some p → p.buffers ≡ []
drained k s p at =
    ⊎_elim
    (λ (e : (k ≡ k) × (y : Processor) × (slice_get _ k ≡ Some y) × (with_buffers (λ _. []) y ≡ p)). ap (λ (q : Processor). q.buffers) (sym e.3))
    (λ (e : (k ≢ k) × (slice_get _ k ≡ Some p)). absurd (e.0 refl))
    (at_change (with_buffers (λ _. [])) k _ k p at)

take_runs : (o : Order) (ps : List Processor) (p : Processor) (ph : Phase) → due o ps p ph ≡ Some Take → is_shift Take ph ≡ true
take_runs o ps p Running h = refl
take_runs o ps p other h = absurd (let b : is_take Take ≡ false = no_take o ps p other Take refl h in let a : is_take Take ≡ true = taken in cc)

pub taken_at : (o : Order) (s : System) (k : ℕ) → due_at (under_way o s) k ≡ Some Take → (q : Processor) → slice_get (drain k s).processors k ≡ Some q → IsTrue (is_shift Take q.phase)
taken_at o s k is q at =
    let from = follows_drain k s k q at in
    let here : due o s.processors from.0 from.0.phase ≡ Some Take = ap (λ (x : Option Processor). option_map_or (λ p. due o s.processors p p.phase) x None) (sym from.1) ∙ is in
    subst (λ (ph : Phase). is_shift Take ph ≡ true) (sym from.2.phase) (take_runs o s.processors from.0 from.0.phase here)

pub drained_length : (k : ℕ) (s : System) → length (drain k s).processors ≡ length s.processors
drained_length k s = same_length s (drain k s) (drain_stages k s)

abbrev Shifts : Event → ℕ → System → Type 0
Shifts e k s = (p : Processor) → slice_get s.processors k ≡ Some p → IsTrue (is_shift e p.phase)

pub prepared : (o : Order) (s : System) → IsCore (under_way o s) → (k : ℕ) (e : Event) → due_at (under_way o s) k ≡ Some e → Shifts e k s
    → (q : Processor) → slice_get (before_own e k s).processors k ≡ Some q → IsReady e q
prepared o s core k Take due shifts q at = record { enabled = taken_at o s k due q at; room = λ same. absurd (cc); empty = λ _. drained k s q at }
prepared o s core k e due shifts q at = record { enabled = shifts q at; room = room_at o s core k q at e (shifts q at); empty = λ same. absurd (cc) }

-- a step by its event and by the order that is left
pub advanced : (o : Order) (s : System) → IsCore (under_way o s) → (k : ℕ) (e : Event) → due_at (under_way o s) k ≡ Some e
    → IsCore (record { system = step o.goal e k s; order = remaining_order o (step o.goal e k s).processors })
advanced o s core k e is = went s o k e is core
