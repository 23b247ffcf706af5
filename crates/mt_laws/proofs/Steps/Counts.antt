-- How many steps a processor has still to do until its release.
use Rattle.std.proofs.Common.{◌≡◌, ℕ, ◌+◌, ◌-◌, ◌/◌, ◌<◌, List, length, Some, None, Bool, true, false, refl, sym, ap, subst, ◌∙◌, arith}
use Rattle.std.specs.Prelude.{slice_index_or, if◌then◌else◌, nat_lt, ◌||◌}
use Rattle.std.proofs.lemmas.Bool.{ltb-true, ltb-false}
use Rattle.mt_regs.specs.RegisterFile.{RegisterFile}
use Rattle.mt_regs.specs.declared.registers.Register.{Register}
use Rattle.mt_regs.specs.declared.registers.Register.TheVariants.{PhysBase, PhysMask, FixedRange, Pat, DefaultType}
use Rattle.mt_regs.specs.Registers.{writable}
use Rattle.mt_cache.specs.declared.line.CacheLine.{CacheLine}
use Rattle.mt_machine.specs.declared.phase.Phase.{Phase}
use Rattle.mt_machine.specs.declared.phase.Phase.TheVariants.{Running, Taken, Arrived, Passed, NoFill, Flushed, TlbFlushed, Writing, Enabled, Flushed2, TlbFlushed2, Normal, Restored, Arrived2}
use Rattle.mt_machine.specs.declared.event.Event.{Event}
use Rattle.mt_machine.specs.declared.event.Event.TheVariants.{SetNoFill, WriteBack, DropLines, FlushTlb, Disable, Write, Enable, SetNormal, RestorePge, ArriveAgain, Release}
use Rattle.mt_machine.specs.Memory.{word_of}
use Rattle.mt_cache.specs.Lines.{is_dirty, find_line, clean_word, change_line}
use Rattle.mt_machine.specs.System.{Processor, is_writing}
use Rattle.mt_machine.specs.Machine.{Order, due, own_step, is_changing, is_arrived_again, after_drop, after_flush, write_back_or_drop, with_goal, second_barrier_open, Steps}
use Rattle.mt_machine.specs.Update.{dirty_count, is_release}
use Rattle.mt_machine.proofs.Rows.{due_row, first_flush_case, is_row}
use Rattle.mt_laws.proofs.Invariant.Flags.{flush_keeps, own_keeps_flag}
use Rattle.mt_laws.proofs.Registers.Filed.{flush_file}
use Rattle.mt_laws.proofs.Words.LineLists.{Apart}
use Rattle.mt_laws.proofs.Words.StepLaws.{drain_case}
use Rattle.mt_laws.proofs.Steps.DirtyCounts.{none_dirty_count, one_dirty_less}

-- the drop of the first flush, which a self-snooping processor leaves out
abbrev pub first_drop : Processor → ℕ
first_drop p = if p.self_snoop then 0 else 1

-- from Passed on, with so many registers, dirty words and drops of the first flush. No step but a write-back changes how many words are dirty
abbrev pub left : Phase → ℕ → ℕ → ℕ → ℕ
left Passed registers words drops = registers + words + drops + 9
left NoFill registers words drops = registers + words + drops + 8
left Flushed registers words drops = registers + words + 8
left TlbFlushed registers words drops = registers + words + 7
left (Writing i) registers words drops = (registers - i) + words + 6
left Enabled registers words drops = words + 6
left Flushed2 registers words drops = 5
left TlbFlushed2 registers words drops = 4
left Normal registers words drops = 3
left Restored registers words drops = 2
left Arrived2 registers words drops = 1
left other registers words drops = 0

abbrev pub left_of : Processor → ℕ
left_of p = left p.phase (length (writable p.file)) (dirty_count p.lines) (first_drop p)

abbrev pub is_past : Phase → Bool
is_past ph = is_changing ph || is_arrived_again ph

with_capabilities : (goal : RegisterFile) (r : Register) (f : RegisterFile) → (with_goal goal r f).capabilities ≡ f.capabilities
with_capabilities goal (PhysBase n) f = refl
with_capabilities goal (PhysMask n) f = refl
with_capabilities goal (FixedRange i) f = refl
with_capabilities goal Pat f = refl
with_capabilities goal DefaultType f = refl

registers_of : (f g : RegisterFile) → f.capabilities ≡ g.capabilities → length (writable f) ≡ length (writable g)
registers_of f g same = ap (λ (c : ℕ). length (writable (record f { capabilities = c }))) same

pub record Ready (p : Processor) : Type 0 where
  pub apart : Apart p.lines
  pub in_range : (i : ℕ) → is_writing p.phase ≡ Some i → i < length (writable p.file)

module _ (o : Order) (ps : List Processor) (p : Processor) (ready : Ready p) where
  abbrev Next : Event → Type 0
  Next e = (left_of (own_step o.goal e p) + 1 ≡ left_of p) × (is_past (own_step o.goal e p).phase ≡ true)

  here : (ph : Phase) → p.phase ≡ ph → left_of p ≡ left ph (length (writable p.file)) (dirty_count p.lines) (first_drop p)
  here ph same = ap (λ v. left v (length (writable p.file)) (dirty_count p.lines) (first_drop p)) same

  simple : (ph to : Phase) (e : Event) → p.phase ≡ ph → (own_step o.goal e p).phase ≡ to → length (writable (own_step o.goal e p).file) ≡ length (writable p.file)
      → left to (length (writable p.file)) (dirty_count (own_step o.goal e p).lines) (first_drop p) + 1 ≡ left ph (length (writable p.file)) (dirty_count p.lines) (first_drop p) → is_past to ≡ true → Next e
  simple ph to e same goes registers falls past = (
    ap (λ (n : ℕ). n + 1)
        (ap (λ (v : Phase). left v (length (writable (own_step o.goal e p).file)) (dirty_count (own_step o.goal e p).lines) (first_drop (own_step o.goal e p))) goes
        ∙ (λ i. left to (registers i) (dirty_count (own_step o.goal e p).lines) (if own_keeps_flag o.goal e p i then 0 else 1)))
        ∙ falls ∙ sym (here ph same),
    ap is_past goes ∙ past,
  )

  -- a flush writes the first dirty word back, or drops the lines
  drains : (ph : Phase) → p.phase ≡ ph → is_past ph ≡ true → is_past (after_drop ph) ≡ true
      → ((words : ℕ) → left ph (length (writable p.file)) words (first_drop p) + 1 ≡ left ph (length (writable p.file)) (words + 1) (first_drop p))
      → left (after_drop ph) (length (writable p.file)) 0 (first_drop p) + 1 ≡ left ph (length (writable p.file)) 0 (first_drop p)
      → Next (write_back_or_drop p)
  drains ph same past after counts ends =
      drain_case Next p ready.apart
      (λ address value first.
      let number : address / 64 ≡ first.line.number = (let e = first.address_is in let b = first.within in omega arith) in
      let word : word_of address ≡ first.word = (let e = first.address_is in let b = first.within in omega arith) in
      let falls : dirty_count (change_line (address / 64) (clean_word (word_of address)) p.lines) + 1 ≡ dirty_count p.lines =
      one_dirty_less (address / 64) (word_of address) p.lines first.line ready.apart (ap (λ n. find_line n p.lines) number ∙ first.found) (let b = first.within in omega arith) (ap (is_dirty first.line) word ∙ first.dirty) in
      simple ph ph (WriteBack address value) same same refl
      (counts (dirty_count (change_line (address / 64) (clean_word (word_of address)) p.lines)) ∙ ap (λ (n : ℕ). left ph (length (writable p.file)) n (first_drop p)) falls) past)
      (λ none.
      simple ph (after_drop ph) DropLines same (ap after_drop same) refl
      (ends ∙ sym (ap (λ (n : ℕ). left ph (length (writable p.file)) n (first_drop p)) (none_dirty_count p.lines none))) after)

  flushes : (ph to : Phase) → p.phase ≡ ph → after_flush ph ≡ to → left to (length (writable p.file)) (dirty_count p.lines) (first_drop p) + 1 ≡ left ph (length (writable p.file)) (dirty_count p.lines) (first_drop p) → is_past to ≡ true → Next FlushTlb
  flushes ph to same goes falls past =
      simple ph to FlushTlb same (ap after_flush same ∙ goes) (ap (λ f. length (writable f)) (flush_file p.phase p))
      (ap (λ (ls : List CacheLine). left to (length (writable p.file)) (dirty_count ls) (first_drop p) + 1) (flush_keeps p.phase p).0 ∙ falls) past

  pub one_less : (ph : Phase) (e : Event) → p.phase ≡ ph → is_past ph ≡ true → due o ps p ph ≡ Some e → is_release (Steps 0 e) ≡ false → Next e
  one_less Running e same past h quiet = absurd (cc)
  one_less Taken e same past h quiet = absurd (cc)
  one_less Arrived e same past h quiet = absurd (cc)
  one_less Passed e same past h quiet = subst Next (let v : SetNoFill ≡ e = cc in v) (simple Passed NoFill SetNoFill same refl refl (omega arith) refl)
  one_less NoFill e same past h quiet =
      first_flush_case p e h
      (λ on is. let none : first_drop p ≡ 0 = ap (λ (b : Bool). if b then 0 else 1) on in subst Next is (flushes NoFill TlbFlushed same refl (omega arith) refl))
      (λ off g.
      let once : first_drop p ≡ 1 = ap (λ (b : Bool). if b then 0 else 1) off in
      subst Next (let v : write_back_or_drop p ≡ e = cc in v) (drains NoFill same refl refl (λ words. omega arith) (omega arith)))
  one_less Flushed e same past h quiet = subst Next (let v : FlushTlb ≡ e = cc in v) (flushes Flushed TlbFlushed same refl (omega arith) refl)
  one_less TlbFlushed e same past h quiet = subst Next (let v : Disable ≡ e = cc in v) (simple TlbFlushed (Writing 0) Disable same refl refl (omega arith) refl)
  one_less (Writing i) e same past h quiet = one (nat_lt (i + 1) (length (writable p.file))) refl h
    where
      one : (b : Bool) → nat_lt (i + 1) (length (writable p.file)) ≡ b → Some (if b then Write i else Enable) ≡ Some e → Next e
      one true is g =
          let low = ltb-true (i + 1) (length (writable p.file)) is in
          subst Next (let v : Write i ≡ e = cc in v)
          (simple (Writing i) (Writing (i + 1)) (Write i) same refl (registers_of (with_goal o.goal (slice_index_or (writable o.goal) i DefaultType) p.file) p.file (with_capabilities o.goal (slice_index_or (writable o.goal) i DefaultType) p.file)) (omega arith) refl)
      one false is g =
          let high = ltb-false (i + 1) (length (writable p.file)) is in
          let low = ready.in_range i (ap is_writing same) in
          subst Next (let v : Enable ≡ e = cc in v) (simple (Writing i) Enabled Enable same refl refl (omega arith) refl)
  one_less Enabled e same past h quiet = subst Next (let v : write_back_or_drop p ≡ e = cc in v) (drains Enabled same refl refl (λ words. omega arith) (omega arith))
  one_less Flushed2 e same past h quiet = subst Next (let v : FlushTlb ≡ e = cc in v) (flushes Flushed2 TlbFlushed2 same refl (omega arith) refl)
  one_less TlbFlushed2 e same past h quiet = subst Next (let v : SetNormal ≡ e = cc in v) (simple TlbFlushed2 Normal SetNormal same refl refl (omega arith) refl)
  one_less Normal e same past h quiet = subst Next (let v : RestorePge ≡ e = cc in v) (simple Normal Restored RestorePge same refl refl (omega arith) refl)
  one_less Restored e same past h quiet = subst Next (let v : ArriveAgain ≡ e = cc in v) (simple Restored Arrived2 ArriveAgain same refl refl (omega arith) refl)
  one_less Arrived2 e same past h quiet = absurd (one (second_barrier_open o ps) h)
    where
      one : (b : Bool) → (if b then Some Release else None) ≡ Some e → ⊥
      one true g = let q : is_release (Steps 0 e) ≡ true = ap (λ (v : Event). is_release (Steps 0 v)) (let r : e ≡ Release = cc in r) in absurd (cc)
      one false g = absurd (cc)

  -- the one that may release has nothing else to do
  pub last_one : (ph : Phase) → p.phase ≡ ph → is_past ph ≡ true → due o ps p ph ≡ Some Release → left_of p ≡ 1
  last_one ph same past h = row ph same (due_row o ps p ph Release h)
    where
      row : (ph : Phase) → p.phase ≡ ph → is_row Release ph ≡ true → left_of p ≡ 1
      row Arrived2 same on = here Arrived2 same
      row other same on = absurd (cc)
