use Rattle.std.proofs.Common.{◌≡◌, ℕ, ◌+◌, List, [], length, true, sym, refl, ap, ◌∙◌, subst, inl, arith, Some, Option}
use mathlib.Core.Option.{none}
use Rattle.atomic_table.specs.Table.{step}
use Rattle.mt_regs.specs.RegisterFile.{RegisterFile}
use Rattle.mt_machine.specs.declared.go.Go.TheVariants.{Given}
use Rattle.mt_machine.specs.System.{Processor}
use Rattle.mt_machine.specs.Memory.{place}
use Rattle.mt_machine.specs.Machine.{FitsGoal, Order, due, is_changing, own_step}
use Rattle.mt_machine.specs.declared.event.Event.{Event}
use Rattle.mt_machine.specs.declared.event.Event.TheVariants.{SetNoFill}
use Rattle.std.specs.Option.{option_map_or}
use Rattle.mt_cpu.specs.Steps.{HasWritten, is_local}
use Rattle.mt_rendezvous.specs.declared.view.Start.{Start}
use Rattle.mt_rendezvous.specs.Station.{start_of, order_of, code}
use Rattle.mt_rendezvous.specs.Plays.{own_event}
use Rattle.mt_rendezvous.proofs.Facts.{fits_goal, has_written, low_numbers, back_place}
use Rattle.mt_laws.proofs.Words.Places.{place_same}
use Rattle.mt_rendezvous.proofs.Local.{works_in}
use Rattle.mt_rendezvous.proofs.Told.{unshown, works_told, writes_back_told}
use Rattle.mt_rendezvous.proofs.Stored.{carries_on, stands_on}
use Rattle.mt_rendezvous.proofs.station.Pass.work.Goals as goal

injected : (a b : ℕ) → Some a ≡ Some b → a ≡ b
injected a b e = cc

-- the processor after the event that the code did
worked : (t : Start) (g : RegisterFile) (e : Event) (p q : Processor) → g ≡ t.goal → ((o : Order) (ps : List Processor) → due o ps p p.phase ≡ Some e) → q ≡ own_step g e p → q ≡ own_step t.goal (own_event t p) p
worked t g e p q same is moved =
    moved ∙ ap (λ (x : RegisterFile). own_step x e p) same
    ∙ ap (λ (x : Event). own_step t.goal x p) (sym (ap (λ (x : Option Event). option_map_or (λ y. y) x SetNoFill) (is (order_of t Given) [])))

pub local-e-requires-clause-fits : goal.local-e-requires-clause-fits
local-e-requires-clause-fits c = let t : Start = start_of c.args.station.now.table.shared.key in
    subst (λ (g : RegisterFile). FitsGoal g c.args.cpu.now) (sym c.requires.goal) (fits_goal t c.requires.passed.begins Given c.args.self.now.number c.args.cpu.now c.requires.passed.stands)

pub local-e-requires-clause-written : goal.local-e-requires-clause-written
local-e-requires-clause-written c = let t : Start = start_of c.args.station.now.table.shared.key in
    subst (λ (g : RegisterFile). HasWritten g c.args.cpu.now) (sym c.requires.goal) (has_written t c.requires.passed.begins Given c.args.self.now.number c.args.cpu.now c.requires.passed.stands)

pub local-e-requires-clause-numbers : goal.local-e-requires-clause-numbers
local-e-requires-clause-numbers c = let t : Start = start_of c.args.station.now.table.shared.key in
    low_numbers t c.requires.passed.begins Given c.args.self.now.number c.args.cpu.now c.requires.passed.stands

pub unreachable-requires : goal.unreachable-requires
unreachable-requires c =
    let t : Start = start_of c.args.station.now.table.shared.key in
    let e = c.local-e.result in
    let there = back_place t c.requires.passed.begins Given c.args.self.now.number c.args.cpu.now c.requires.passed.stands e c.in-Some.address c.in-Some.value c.requires.local c.local-e.ensures.event (sym c.written.ensures ∙ c.in-Some.is) in
    let same = place_same c.args.ram.now t.ram c.in-Some.address c.requires.windows in
    c.in_default.not-Some there.0 (c.place.ensures.value ∙ same ∙ there.1)

pub overflow_add-word-in-Some : goal.overflow_add-word-in-Some
overflow_add-word-in-Some c =
    let t : Start = start_of c.args.station.now.table.shared.key in
    let e = c.local-e.result in
    let there = back_place t c.requires.passed.begins Given c.args.self.now.number c.args.cpu.now c.requires.passed.stands e c.in-Some.address c.in-Some.value c.requires.local c.local-e.ensures.event (sym c.written.ensures ∙ c.in-Some.is) in
    let same = place_same c.args.ram.now t.ram c.in-Some.address c.requires.windows in
    let at : c.in-Some-place.i ≡ there.0 = injected c.in-Some-place.i there.0 (sym c.in-Some-place.is ∙ c.place.ensures.value ∙ same ∙ there.1) in
    let low = there.2 in
    let few = c.args.station.now.few in
    let few_words = c.args.station.now.few_words in
    omega arith

pub store-requires : goal.store-requires
store-requires c =
    let t : Start = start_of c.args.station.now.table.shared.key in
    let r = c.requires.passed.carries in
    let e = c.local-e.result in
    let word = sym c.written.ensures ∙ c.in-Some.is in
    let there = back_place t c.requires.passed.begins Given c.args.self.now.number c.args.cpu.now c.requires.passed.stands e c.in-Some.address c.in-Some.value c.requires.local c.local-e.ensures.event word in
    let same = place_same c.args.ram.now t.ram c.in-Some.address c.requires.windows in
    let at : c.in-Some-place.i ≡ there.0 = injected c.in-Some-place.i there.0 (sym c.in-Some-place.is ∙ c.place.ensures.value ∙ same ∙ there.1) in
    let low = there.2 in
    let wide = c.args.station.now.wide in
    let counted = c.args.station.now.counted in
    let long : length c.args.self.now.seat.me.0.start.cpus ≡ length t.cpus = ap (λ (u : Start). length u.cpus) r.told in (
      r.same,
      omega arith,
      writes_back_told c.args.station.now.table.shared.key _ _ c.args.self.now.number c.args.self.now.seat.me c.args.cpu.now (c.args.station.now.count + 2 + c.in-Some-place.i) there.0 c.in-Some.address c.in-Some.value e
          (record { is = r.holds; here = c.requires.local; due_is = c.local-e.ensures.event }) word (subst (λ (u : Start). place u.ram c.in-Some.address ≡ Some there.0) (sym r.told) there.1) (omega arith),
    )

pub store-requires-in-None : goal.store-requires-in-None
store-requires-in-None c =
    let t : Start = start_of c.args.station.now.table.shared.key in
    let r = c.requires.passed.carries in
    let e = c.local-e.result in
    let wide = c.args.station.now.wide in
    let counted = c.args.station.now.counted in
    let below = r.below in
    let becomes : c.local-e.new.self ≡ own_step c.args.self.now.seat.me.0.start.goal e c.args.cpu.now = c.local-e.ensures.step ∙ ap (λ (g : RegisterFile). own_step g e c.args.cpu.now) (c.requires.goal ∙ sym (ap (λ (u : Start). u.goal) r.told)) in (
      r.same,
      omega arith,
      works_told c.args.station.now.table.shared.key _ _ c.args.self.now.number c.args.self.now.seat.me c.args.cpu.now c.code.result e
          (record { is = r.holds; here = c.requires.local; due_is = c.local-e.ensures.event }) (sym c.written.ensures ∙ c.in-None.is)
          (c.code.ensures ∙ ap code (c.phase.ensures ∙ ap (λ (p : Processor). p.phase) becomes)),
    )

pub invariant_of-self-clause-told : goal.invariant_of-self-clause-told
invariant_of-self-clause-told c =
    let i : ℕ = c.args.station.now.count + 2 + c.in-Some-place.i in
    let n : ℕ = c.in-Some.value in
    c.args.self.now.told
    ∙ sym (unshown (step c.args.station.now.table.shared.table_id.slots i n 0 none) c.args.self.now.seat.me c.store.new.seat.me n i (inl (λ (e : i ≡ 1). omega arith)) c.store.ensures.2).0

pub invariant_of-self-clause-no_root : goal.invariant_of-self-clause-no_root
invariant_of-self-clause-no_root c =
    let i : ℕ = c.args.station.now.count + 2 + c.in-Some-place.i in
    let n : ℕ = c.in-Some.value in
    (unshown (step c.args.station.now.table.shared.table_id.slots i n 0 none) c.args.self.now.seat.me c.store.new.seat.me n i (inl (λ (e : i ≡ 1). omega arith)) c.store.ensures.2).1
    ∙ c.args.self.now.no_root

-- the processor is between the barriers afterwards too
stays : (t : Start) (g : RegisterFile) (e : Event) (p q : Processor) → is_local p.phase ≡ true → ((o : Order) (ps : List Processor) → due o ps p p.phase ≡ Some e) → q ≡ own_step g e p → is_changing q.phase ≡ true
stays t g e p q here is moved = subst (λ (r : Processor). is_changing r.phase ≡ true) (sym moved) (works_in g p e p.phase refl here is (order_of t Given)).0

pub returns-in-Some-place-clause-passed : goal.returns-in-Some-place-clause-passed
returns-in-Some-place-clause-passed c =
    let t : Start = start_of c.args.station.now.table.shared.key in
    let i : ℕ = c.args.station.now.count + 2 + c.in-Some-place.i in
    let n : ℕ = c.in-Some.value in
    let e = c.store.ensures in
    let l = c.local-e in
    let st = step c.args.station.now.table.shared.table_id.slots i n 0 none in
    let is = worked t c.args.goal.now l.result c.args.cpu.now l.new.self c.requires.goal l.ensures.event l.ensures.step in record {
      begins = c.requires.passed.begins;
      carries = carries_on c.requires.passed.carries c.store.new.seat.me l.new.self i n st (omega arith) e.2 is _ e.0;
      stands = stands_on c.requires.passed.carries c.store.new.seat.me l.new.self i n st (omega arith) e.2 is;
      between = stays t c.args.goal.now l.result c.args.cpu.now l.new.self c.requires.local l.ensures.event l.ensures.step;
    }

pub returns-in-None-clause-passed : goal.returns-in-None-clause-passed
returns-in-None-clause-passed c =
    let t : Start = start_of c.args.station.now.table.shared.key in
    let i : ℕ = c.args.self.now.number + 2 in
    let n : ℕ = c.code.result in
    let e = c.store-in-None.ensures in
    let l = c.local-e in
    let st = step c.args.station.now.table.shared.table_id.slots i n 0 none in
    let is = worked t c.args.goal.now l.result c.args.cpu.now l.new.self c.requires.goal l.ensures.event l.ensures.step in record {
      begins = c.requires.passed.begins;
      carries = carries_on c.requires.passed.carries c.store-in-None.new.seat.me l.new.self i n st (omega arith) e.2 is _ e.0;
      stands = stands_on c.requires.passed.carries c.store-in-None.new.seat.me l.new.self i n st (omega arith) e.2 is;
      between = stays t c.args.goal.now l.result c.args.cpu.now l.new.self c.requires.local l.ensures.event l.ensures.step;
    }

pub returns-in-Some-place-clause-becomes : goal.returns-in-Some-place-clause-becomes
returns-in-Some-place-clause-becomes c = worked (start_of c.args.station.now.table.shared.key) c.args.goal.now c.local-e.result c.args.cpu.now c.local-e.new.self c.requires.goal c.local-e.ensures.event c.local-e.ensures.step

pub returns-in-None-clause-becomes : goal.returns-in-None-clause-becomes
returns-in-None-clause-becomes c = worked (start_of c.args.station.now.table.shared.key) c.args.goal.now c.local-e.result c.args.cpu.now c.local-e.new.self c.requires.goal c.local-e.ensures.event c.local-e.ensures.step
