-- Each call keeps what a core keeps.
use Rattle.std.proofs.Common.{◌≡◌, ◌≢◌, ◌∙◌, ap, sym, refl, subst, arith, ℕ, ◌+◌, ◌++◌, ◌-◌, ◌<◌, ◌≤◌, ◌^◌, Bool, true, false, if◌then◌else◌, List, [], ◌∷◌, length, Option, None, Some, slice_get, inl}
use Rattle.std.specs.Option.{option_map_or}
use Rattle.std.specs.List.{All}
use Rattle.mt_ram.specs.Windows.{with_window}
use Rattle.mt_machine.specs.declared.go.Go.{Go}
use Rattle.mt_machine.specs.declared.go.Go.TheVariants.{Pending, Given, Cancelled}
use Rattle.mt_machine.specs.declared.op.Op.{Op}
use Rattle.mt_machine.specs.declared.control.Control.{Control}
use Rattle.mt_machine.specs.declared.event.Event.{Event}
use Rattle.mt_machine.specs.Memory.{IsMemory, Window}
use Rattle.mt_machine.specs.System.{IsSound, Processor, System, snooping, with_self_snoop}
use Rattle.mt_machine.specs.Access.{Answered, access, is_running}
use Rattle.mt_machine.specs.Control.{RuledAfter, control}
use Rattle.mt_machine.specs.Machine.{Accesses, Calls, Cancels, Controls, FitsControl, FitsGoal, FitsOp, Goes, IsEnabled, Machine, Order, Steps, common_era, due, is_over, next, own_step, step, remaining_order}
use Rattle.mt_regs.specs.RegisterFile.{RegisterFile, IsRegisterFile}
use Rattle.mt_regs.specs.Faults.{IsAccepted}
use Rattle.std.proofs.lemmas.List.{length-append, length-map, length-set, length-take-le}
use Rattle.mt_laws.proofs.Barrier.Acting.{access_busy, control_busy}
use Rattle.mt_laws.proofs.Barrier.Stages.{access_stages, control_stages, stage_of, stages, change_stages}
use Rattle.mt_laws.proofs.Barrier.Barriers.{step_stages}
use Rattle.mt_bus.proofs.Tables.{same_length}
use Rattle.mt_machine.specs.Bus.{drain}
use Rattle.mt_machine.specs.ComingAndGoing.{gone, last_number, newcomer_beside, reset}
use Rattle.mt_laws.proofs.Barrier.Stages.{drain_stages}
use Rattle.mt_core.specs.Arises.{IsCore, by_event, by_window, from_start, by_snooping, by_coming_up, by_going_down}

abbrev pub machine : System → Option Order → Machine
machine s o = record { system = s; order = o }

pub step_length : (goal : RegisterFile) (e : Event) (k : ℕ) (s : System) (p : Processor) → slice_get s.processors k ≡ Some p → length (step goal e k s).processors ≡ length s.processors
step_length goal e k s p at =
    sym (length-map (step goal e k s).processors stage_of) ∙ ap length (step_stages goal e k s p at)
    ∙ length-set (stages s) k (stage_of (own_step goal e p)) ∙ length-map s.processors stage_of

pub runs_or_rests : (s : System) (k : ℕ) (X : Type 0)
    → (option_map_or (λ p. is_running p.phase) (slice_get s.processors k) false ≡ true → X)
    → (((q : Processor) → slice_get s.processors k ≡ Some q → is_running q.phase ≡ false) → X) → X
runs_or_rests s k X runs rests = one (slice_get s.processors k) refl
  where
    two : (q : Processor) → slice_get s.processors k ≡ Some q → (b : Bool) → is_running q.phase ≡ b → X
    two q at true is = runs (ap (λ (o : Option Processor). option_map_or (λ p. is_running p.phase) o false) at ∙ is)
    two q at false is = rests (λ r at_r. let e : Some q ≡ Some r = sym at ∙ at_r in let f : q ≡ r = cc in ap (λ (p : Processor). is_running p.phase) (sym f) ∙ is)

    one : (o : Option Processor) → slice_get s.processors k ≡ o → X
    one None at = rests (λ q at_q. absurd (let e : None ≡ Some q = sym at ∙ at_q in cc))
    one (Some q) at = two q at (is_running q.phase) refl

pub accessed : (s : System) (o : Option Order) (k : ℕ) (op : Op) → FitsOp op → IsCore (machine s o) → IsCore (machine (access s k op).after o)
accessed s o k op fits h =
    runs_or_rests s k (IsCore (machine (access s k op).after o))
    (λ runs. record { arises = by_event (Accesses k op) h.arises (runs, fits); few = subst (λ n. n ≤ 16) (sym (same_length s (access s k op).after (access_stages s k op))) h.few; room = h.room })
    (λ rests. subst (λ t. IsCore (machine t o)) (sym (ap (λ (a : Answered). a.after) (access_busy s k rests op))) h)

pub controlled : (s : System) (o : Option Order) (k : ℕ) (c : Control) → ((p : Processor) → slice_get s.processors k ≡ Some p → FitsControl p c)
    → IsCore (machine s o) → IsCore (machine (control s k c).after o)
controlled s o k c fits h =
    runs_or_rests s k (IsCore (machine (control s k c).after o))
    (λ runs. record { arises = by_event (Controls k c) h.arises (runs, fits); few = subst (λ n. n ≤ 16) (sym (same_length s (control s k c).after (control_stages s k c))) h.few; room = h.room })
    (λ rests. subst (λ t. IsCore (machine t o)) (sym (ap (λ (a : RuledAfter). a.after) (control_busy s k rests c))) h)

pub begun : (s : System) → length s.processors ≤ 16 → IsSound s → All (λ p. is_running p.phase ≡ true) s.processors → All (λ p. p.era ≡ common_era s.processors) s.processors
    → All (λ p. All (FitsGoal p.file) s.processors) s.processors → IsCore (machine s None)
begun s few sound running one_era one_kind = record {
  arises = from_start (inl (record { sound = sound; running = running; one_era = one_era; one_kind = one_kind; no_order = refl }));
  few = few;
  room = λ o is. absurd (cc);
}

room_stays : (o : Order) (ps : List Processor) → o.from_era < 2 ^ 64 - 1 → (later : Order) → remaining_order o ps ≡ Some later → later.from_era < 2 ^ 64 - 1
room_stays o ps low later h = one (is_over o ps) h
  where
    one : (b : Bool) → (if b then None else Some o) ≡ Some later → later.from_era < 2 ^ 64 - 1
    one true g = absurd (cc)
    one false g = let e : o ≡ later = cc in subst (λ (x : Order). x.from_era < 2 ^ 64 - 1) e low

pub decided : (s : System) (o : Order) (go : Go) → go ≢ Pending → o.go ≡ Pending → IsCore (machine s (Some o)) → IsCore (machine s (remaining_order (record o { go = go }) s.processors))
decided s o Pending said pending h = absurd (said refl)
decided s o Given said pending h = record {
  arises = by_event Goes h.arises (ap Some pending);
  few = h.few;
  room = room_stays (record o { go = Given }) s.processors (h.room o refl);
}
decided s o Cancelled said pending h = record {
  arises = by_event Cancels h.arises (ap Some pending);
  few = h.few;
  room = room_stays (record o { go = Cancelled }) s.processors (h.room o refl);
}

pub called : (s : System) (goal : RegisterFile) → IsRegisterFile goal → IsAccepted goal → All (FitsGoal goal) s.processors → common_era s.processors < 2 ^ 64 - 1
    → IsCore (machine s None) → IsCore (machine s (Some (record { goal = goal; from_era = common_era s.processors; go = Pending })))
called s goal file accepted fits low h = record {
  arises = by_event (Calls goal) h.arises (refl, file, accepted, fits);
  few = h.few;
  room = λ o is. let e : common_era s.processors ≡ o.from_era = ap (λ (x : Option Order). option_map_or (λ y. y.from_era) x 0) is in subst (λ n. n < 2 ^ 64 - 1) e low;
}

stepped_few : (s : System) (o : Order) (k : ℕ) (e : Event) → IsEnabled (machine s (Some o)) (Steps k e) → length s.processors ≤ 16 → length (step o.goal e k s).processors ≤ 16
stepped_few s o k e enabled few = one (slice_get s.processors k) refl enabled
  where
    one : (x : Option Processor) → slice_get s.processors k ≡ x → option_map_or (λ p. due o s.processors p p.phase) x None ≡ Some e → length (step o.goal e k s).processors ≤ 16
    one None at g = absurd (cc)
    one (Some p) at g = subst (λ n. n ≤ 16) (sym (step_length o.goal e k s p at)) few

pub went : (s : System) (o : Order) (k : ℕ) (e : Event) → IsEnabled (machine s (Some o)) (Steps k e) → IsCore (machine s (Some o)) → IsCore (next (machine s (Some o)) (Steps k e))
went s o k e enabled h = record {
  arises = by_event (Steps k e) h.arises enabled;
  few = stepped_few s o k e enabled h.few;
  room = room_stays o (next (machine s (Some o)) (Steps k e)).system.processors (h.room o refl);
}

pub wider : (s : System) (o : Option Order) (w : Window) → IsMemory (with_window w s.memory) → IsCore (machine s o) → IsCore (machine (record s { memory = with_window w s.memory }) o)
wider s o w memory h = record { arises = by_window w h.arises memory; few = h.few; room = h.room }

pub snoops : (s : System) (k : ℕ) → IsCore (machine s None) → IsCore (machine (with_self_snoop k s) None)
snoops s k h = record {
  arises = by_snooping k h.arises refl;
  few = subst (λ n. n ≤ 16) (sym (same_length s (with_self_snoop k s) (change_stages snooping (λ p. refl) k s))) h.few;
  room = h.room;
}

-- with one processor more, and one less
reset_number : (s : System) → length (reset s).processors ≤ length s.processors + 1
reset_number s = one (slice_get s.processors 0)
  where
    one : (o : Option Processor) → length (option_map_or (λ p. record s { processors = s.processors ++ newcomer_beside p ∷ [] }) o s).processors ≤ length s.processors + 1
    one None = omega arith
    one (Some p) = let n = length-append s.processors (newcomer_beside p ∷ []) in omega arith

pub came : (s : System) → 0 < length s.processors → length s.processors ≤ 15 → IsCore (machine s None) → IsCore (machine (reset s) None)
came s some few h = record {
  arises = by_coming_up h.arises refl some;
  few = (let n = reset_number s in omega arith);
  room = h.room;
}

gone_number : (s : System) → length (gone s).processors ≤ length s.processors
gone_number s =
    let k : ℕ = last_number s in
    let same = same_length s (drain k s) (drain_stages k s) in
    let n = length-take-le k (drain k s).processors (omega arith) in
    omega arith

pub went_away : (s : System) → 1 < length s.processors → IsCore (machine s None) → IsCore (machine (gone s) None)
went_away s more h = record {
  arises = by_going_down h.arises refl more;
  few = (let n = gone_number s in let few = h.few in omega arith);
  room = h.room;
}

pub era_room : (ps : List Processor) → All (λ p. p.era < 2 ^ 64 - 1) ps → common_era ps < 2 ^ 64 - 1
era_room [] h = omega arith
era_room (p ∷ ps) h = h 0 p (omega arith)
