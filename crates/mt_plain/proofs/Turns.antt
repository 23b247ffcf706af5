-- What the words tell is due is what the machine has due.
use Rattle.std.proofs.Common.{◌≡◌, ◌∙◌, ap, refl, sym, inl, inr, suc, arith, ℕ, ◌+◌, ◌≤◌, Bool, true, false, List, [], ◌∷◌, length, Option, None, Some}
use Rattle.std.specs.Prelude.{◌==◌, ◌&&◌, nat_lt, not, if◌then◌else◌}
use Rattle.std.specs.List.{count_by, filter, list_all}
use Rattle.std.specs.Option.{option_map}
use Rattle.std.proofs.lemmas.Bool.{and_parts, cases_Bool, eq-eqb}
use Rattle.std.proofs.lemmas.Bool.Decides.{nat_tests}
use Rattle.std.proofs.lemmas.List.Sums.{count_by-le-length, length-filter}
use Rattle.mt_cache.specs.declared.line.CacheLine.{CacheLine}
use Rattle.mt_cache.specs.Lines.{first_dirty_line, first_dirty_word}
use Rattle.mt_machine.specs.declared.event.Event.{Event}
use Rattle.mt_machine.specs.declared.event.Event.TheVariants.{Take, Arrive, Leave, Pass, SetNoFill, WriteBack, DropLines, FlushTlb, Disable, Write, Enable, SetNormal, RestorePge, ArriveAgain, Release}
use Rattle.mt_machine.specs.declared.phase.Phase.{Phase}
use Rattle.mt_machine.specs.declared.phase.Phase.TheVariants.{Running, Taken, Arrived, Passed, NoFill, Flushed, TlbFlushed, Writing, Enabled, Flushed2, TlbFlushed2, Normal, Restored, Arrived2}
use Rattle.mt_machine.specs.Machine.{Order, due, has_arrived, has_arrived_again, is_cancelled, is_given, own_step, write_back_event, write_back_or_drop}
use Rattle.mt_machine.specs.System.{Processor}
use Rattle.mt_plain.specs.Due.{IsTold, due_event, due_step, event_words, phase_after, phase_of, step_by, whole_flush}
use Rattle.mt_plain.specs.declared.turn.PlainProcessor.{PlainProcessor}
use Rattle.mt_plain.specs.declared.turn.PlainStep.{PlainStep}
use Rattle.mt_plain.specs.declared.turn.PlainUpdate.{PlainUpdate}
use Rattle.mt_regs.specs.RegisterFile.{RegisterFile}
use Rattle.mt_regs.specs.Registers.{writable}

unlike : (a b : ℕ) → a + 1 ≤ b → (a == b) ≡ false
unlike a b below = grind (arith, nat_tests, below)

few : {X : Type 0} (p : X → Bool) (xs : List X) → length (filter p xs) ≤ length xs
few p xs = omega (arith, length-filter p xs, count_by-le-length p xs)

all_kept : {X : Type 0} (p : X → Bool) (xs : List X) → list_all p xs ≡ true → length (filter p xs) ≡ length xs
all_kept p [] all = refl
all_kept p (x ∷ xs) all =
    let parts = and_parts (p x) (list_all p xs) all in
    rw parts.0 (ap suc (all_kept p xs parts.1))

some_left_out : {X : Type 0} (p : X → Bool) (xs : List X) → list_all p xs ≡ false → length (filter p xs) + 1 ≤ length xs
some_left_out p [] none = absurd (cc)
some_left_out p (x ∷ xs) none = by_test (p x) refl (λ later. some_left_out p xs later)
  where
    by_test : (b : Bool) → p x ≡ b → (list_all p xs ≡ false → length (filter p xs) + 1 ≤ length xs) → length (filter p (x ∷ xs)) + 1 ≤ length (x ∷ xs)
    by_test true is later =
        let rest : length (filter p xs) + 1 ≤ length xs = later (rw is at none) in
        rw is (omega (arith, rest))
    by_test false is later = rw is (omega (arith, few p xs))

-- each element has the property where so many have it as there are
all_by_count : {X : Type 0} (p : X → Bool) (xs : List X) → (count_by p xs == length xs) ≡ list_all p xs
all_by_count p xs = elim (cases_Bool (list_all p xs)) [
  | inl all ↦ rw all (eq-eqb _ _ (sym (length-filter p xs) ∙ all_kept p xs all))
  | inr none ↦ rw none (unlike (count_by p xs) (length xs) (omega (arith, length-filter p xs, some_left_out p xs none)))
]

flush_of_line : (l : CacheLine) → whole_flush (write_back_event l) ≡ DropLines
flush_of_line l = by_word (first_dirty_word l) refl
  where
    by_word : (o : Option ℕ) → first_dirty_word l ≡ o → whole_flush (write_back_event l) ≡ DropLines
    by_word None is = rw is refl
    by_word (Some word) is = rw is refl

flush_is_whole : (p : Processor) → whole_flush (write_back_or_drop p) ≡ DropLines
flush_is_whole p = by_line (first_dirty_line p.lines) refl
  where
    by_line : (o : Option CacheLine) → first_dirty_line p.lines ≡ o → whole_flush (write_back_or_drop p) ≡ DropLines
    by_line None is = rw is refl
    by_line (Some l) is = rw is (flush_of_line l)

module _ (u : PlainUpdate) (d : PlainProcessor) (o : Order) (ps : List Processor) (p : Processor) (told : IsTold u d o ps p) where
  first_open : (u.arrived == u.processors) ≡ list_all (has_arrived o) ps
  first_open = rw (told.arrived, told.processors) (all_by_count (has_arrived o) ps)

  second_open : (u.arrived_again == u.processors) ≡ list_all (has_arrived_again o) ps
  second_open = rw (told.arrived_again, told.processors) (all_by_count (has_arrived_again o) ps)

  mapped_if : (b : Bool) (e : Event) → whole_flush e ≡ e → (if b then Some e else None) ≡ option_map whole_flush (if b then Some e else None)
  mapped_if true e same = ap Some (sym same)
  mapped_if false e same = refl

  either : (b : Bool) (x y : Event) → whole_flush x ≡ x → whole_flush y ≡ y → (if b then x else y) ≡ whole_flush (if b then x else y)
  either true x y first second = sym first
  either false x y first second = sym second

  at_arrived : (b c : Bool) → (if b then Some Leave else (if c then Some Pass else None)) ≡ option_map whole_flush (if b then Some Leave else (if c then Some Pass else None))
  at_arrived true c = refl
  at_arrived false true = refl
  at_arrived false false = refl

  at_no_fill : (b : Bool) → (if b then FlushTlb else DropLines) ≡ whole_flush (if b then FlushTlb else write_back_or_drop p)
  at_no_fill true = refl
  at_no_fill false = sym (flush_is_whole p)

  by_phase : (phase : Phase) → due_event u d o.go phase ≡ option_map whole_flush (due o ps p phase)
  by_phase Running = rw told.finished (mapped_if ((p.era == o.from_era) && not (is_cancelled o.go)) Take refl)
  by_phase Taken = ap Some (either (is_cancelled o.go) Leave Arrive refl refl)
  by_phase Arrived = rw first_open (at_arrived (is_cancelled o.go) (list_all (has_arrived o) ps && is_given o.go))
  by_phase Passed = refl
  by_phase NoFill = rw told.self_snoop (ap Some (at_no_fill p.self_snoop))
  by_phase Flushed = refl
  by_phase TlbFlushed = refl
  by_phase (Writing i) = rw told.registers (ap Some (either (nat_lt (i + 1) (length (writable p.file))) (Write i) Enable refl refl))
  by_phase Enabled = ap Some (sym (flush_is_whole p))
  by_phase Flushed2 = refl
  by_phase TlbFlushed2 = refl
  by_phase Normal = refl
  by_phase Restored = refl
  by_phase Arrived2 = rw second_open (mapped_if (list_all (has_arrived_again o) ps) Release refl)

  pub event_is : due_event u d o.go p.phase ≡ option_map whole_flush (due o ps p p.phase)
  event_is = by_phase p.phase

  pub words_are : (old : PlainStep) → due_step u d old ≡ event_words (option_map whole_flush (due o ps p p.phase)) p.phase old
  words_are old =
      ap (λ go. step_by u d go (phase_of d) old) told.word
      ∙ ap (λ phase. step_by u d (Some o.go) phase old) told.phase
      ∙ ap (λ e. event_words e p.phase old) event_is

pub next_is : (goal : RegisterFile) (e : Event) (p : Processor) → (own_step goal e p).phase ≡ phase_after e p.phase
next_is goal Take p = refl
next_is goal Arrive p = refl
next_is goal Leave p = refl
next_is goal Pass p = refl
next_is goal SetNoFill p = refl
next_is goal (WriteBack address value) p = refl
next_is goal DropLines p = refl
next_is goal FlushTlb p = refl
next_is goal Disable p = refl
next_is goal (Write i) p = refl
next_is goal Enable p = refl
next_is goal SetNormal p = refl
next_is goal RestorePge p = refl
next_is goal ArriveAgain p = refl
next_is goal Release p = refl
