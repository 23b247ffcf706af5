-- The table of a processor's events read by event: in which phases each stands. What is said of any step of one processor
-- goes by it, or by what the two flushes do next.
use Rattle.std.proofs.Common.{◌≡◌, ℕ, ◌+◌, List, length, Some, None, Option, Bool, true, false, refl, sym, ap, ◌∙◌}
use Rattle.std.specs.Prelude.{slice_index, if◌then◌else◌, nat_lt, ◌==◌, not, ◌&&◌}
use Rattle.std.specs.Option.{option_map_or}
use Rattle.mt_regs.specs.Registers.{writable}
use Rattle.mt_cache.specs.Lines.{first_dirty_line, first_dirty_word}
use Rattle.mt_machine.specs.declared.phase.Phase.{Phase}
use Rattle.mt_machine.specs.declared.phase.Phase.TheVariants.{Running, Taken, Arrived, Passed, NoFill, Flushed, TlbFlushed, Writing, Enabled, Flushed2, TlbFlushed2, Normal, Restored, Arrived2}
use Rattle.mt_machine.specs.declared.event.Event.{Event}
use Rattle.mt_machine.specs.declared.event.Event.TheVariants.{Take, Arrive, Leave, Pass, SetNoFill, WriteBack, DropLines, FlushTlb, Disable, Write, Enable, SetNormal, RestorePge, ArriveAgain, Release}
use Rattle.mt_machine.specs.Memory.{word_address}
use Rattle.mt_machine.specs.System.{Processor}
use Rattle.mt_machine.specs.Access.{is_running}
use Rattle.mt_machine.specs.Machine.{Order, due, is_arrived, is_arrived_again, is_cancelled, is_waiting_to_pass, first_barrier_open, second_barrier_open, first_flush, write_back_event, write_back_or_drop}

-- ---- what a flush does next

option_case : {X Y : Type 0} → (x : Option X) (f : X → Y) (d : Y) (P : Y → Type 0) → P d → ((y : X) → P (f y)) → P (option_map_or f x d)
option_case None f d P none some = none
option_case (Some y) f d P none some = some y

pub back_case : (P : Event → Type 0) (p : Processor) → ((address value : ℕ) → P (WriteBack address value)) → P DropLines → P (write_back_or_drop p)
back_case P p back dropped =
    option_case (first_dirty_line p.lines) write_back_event DropLines P dropped
    (λ l. option_case (first_dirty_word l) _ DropLines P dropped (λ word. back (word_address l.number word) (slice_index l.words word)))

-- the first flush, by whether the processor is self-snooping
pub first_flush_case : {Q : Type 0} → (p : Processor) (e : Event) → Some (first_flush p) ≡ Some e → (p.self_snoop ≡ true → FlushTlb ≡ e → Q) → (p.self_snoop ≡ false → Some (write_back_or_drop p) ≡ Some e → Q) → Q
first_flush_case {Q = Q} p e h snoops flushes = one p.self_snoop refl h
  where
    one : (b : Bool) → p.self_snoop ≡ b → Some (if b then FlushTlb else write_back_or_drop p) ≡ Some e → Q
    one true is g = snoops is (cc)
    one false is g = flushes is g

-- ---- the rows

abbrev is_drained : Phase → Bool
is_drained NoFill = true
is_drained Enabled = true
is_drained other = false

abbrev is_flushed : Phase → Bool
is_flushed NoFill = true
is_flushed Flushed = true
is_flushed Flushed2 = true
is_flushed other = false

abbrev is_written : Phase → Bool
is_written (Writing i) = true
is_written other = false

abbrev is_one_of : Event → Phase → Bool
is_one_of SetNoFill Passed = true
is_one_of Disable TlbFlushed = true
is_one_of SetNormal TlbFlushed2 = true
is_one_of RestorePge Normal = true
is_one_of ArriveAgain Restored = true
is_one_of e ph = false

abbrev is_taken : Phase → Bool
is_taken Taken = true
is_taken other = false

-- the phases in which an event stands
abbrev pub is_row : Event → Phase → Bool
is_row Take ph = is_running ph
is_row Arrive ph = is_taken ph
is_row Leave ph = is_waiting_to_pass ph
is_row Pass ph = is_arrived ph
is_row (WriteBack a v) ph = is_drained ph
is_row DropLines ph = is_drained ph
is_row FlushTlb ph = is_flushed ph
is_row (Write i) ph = is_written ph
is_row Enable ph = is_written ph
is_row Release ph = is_arrived_again ph
is_row other ph = is_one_of other ph

-- an event that is due stands in the phase's row
pub due_row : (o : Order) (ps : List Processor) (p : Processor) (ph : Phase) (e : Event) → due o ps p ph ≡ Some e → is_row e ph ≡ true
due_row o ps p ph e h = rows ph h
  where
    at : (ph : Phase) (v : Event) → v ≡ e → is_row v ph ≡ true → is_row e ph ≡ true
    at ph v is row = ap (λ (x : Event). is_row x ph) (sym is) ∙ row

    takes : (b : Bool) → (if b then Some Take else None) ≡ Some e → is_row e Running ≡ true
    takes true g = at Running Take (cc) refl
    takes false g = absurd (cc)

    arrives : (b : Bool) → Some (if b then Leave else Arrive) ≡ Some e → is_row e Taken ≡ true
    arrives true g = at Taken Leave (cc) refl
    arrives false g = at Taken Arrive (cc) refl

    passes : (b f : Bool) → (if b then Some Leave else (if f then Some Pass else None)) ≡ Some e → is_row e Arrived ≡ true
    passes true f g = at Arrived Leave (cc) refl
    passes false true g = at Arrived Pass (cc) refl
    passes false false g = absurd (cc)

    drains : (ph : Phase) → is_drained ph ≡ true → Some (write_back_or_drop p) ≡ Some e → is_row e ph ≡ true
    drains ph on g = at ph (write_back_or_drop p) (cc) (back_case (λ (x : Event). is_row x ph ≡ true) p (λ a v. on) on)

    writes : (i : ℕ) (b : Bool) → Some (if b then Write i else Enable) ≡ Some e → is_row e (Writing i) ≡ true
    writes i true g = at (Writing i) (Write i) (cc) refl
    writes i false g = at (Writing i) Enable (cc) refl

    releases : (f : Bool) → (if f then Some Release else None) ≡ Some e → is_row e Arrived2 ≡ true
    releases true g = at Arrived2 Release (cc) refl
    releases false g = absurd (cc)

    rows : (ph : Phase) → due o ps p ph ≡ Some e → is_row e ph ≡ true
    rows Running g = takes ((p.era == o.from_era) && not (is_cancelled o.go)) g
    rows Taken g = arrives (is_cancelled o.go) g
    rows Arrived g = passes (is_cancelled o.go) (first_barrier_open o ps) g
    rows Passed g = at Passed SetNoFill (cc) refl
    rows NoFill g = first_flush_case p e g (λ on is. at NoFill FlushTlb is refl) (λ off. drains NoFill refl)
    rows Flushed g = at Flushed FlushTlb (cc) refl
    rows TlbFlushed g = at TlbFlushed Disable (cc) refl
    rows (Writing i) g = writes i (nat_lt (i + 1) (length (writable p.file))) g
    rows Enabled g = drains Enabled refl g
    rows Flushed2 g = at Flushed2 FlushTlb (cc) refl
    rows TlbFlushed2 g = at TlbFlushed2 SetNormal (cc) refl
    rows Normal g = at Normal RestorePge (cc) refl
    rows Restored g = at Restored ArriveAgain (cc) refl
    rows Arrived2 g = releases (second_barrier_open o ps) g
