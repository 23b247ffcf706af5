-- Steps of a worked station that are no event of their kind: one that leaves by its addition to word 0, and one that is released by its addition to word 1.
use Rattle.std.proofs.Common.{◌≡◌, ◌∙◌, ℕ, zero, suc, List, [], ◌∷◌, length, sym, refl, ap, subst, arith, Option, None, Some}
use Rattle.std.specs.Prelude.{slice_get}
use Rattle.std.specs.Option.{option_map}
use mathlib.Core.Option.{some, some-injective}
use lib.ListN.{get_elem?}
use Rattle.mt_machine.specs.declared.phase.Phase.{Phase}
use Rattle.mt_machine.specs.declared.phase.Phase.TheVariants.{Arrived, Arrived2, Restored, Running, Taken}
use Rattle.mt_machine.specs.declared.event.Event.TheVariants.{Arrive, ArriveAgain, Leave, Pass, Release}
use Rattle.mt_machine.specs.declared.go.Go.{Go}
use Rattle.mt_machine.specs.declared.go.Go.TheVariants.{Cancelled, Given}
use Rattle.mt_machine.specs.System.{Processor}
use Rattle.mt_machine.specs.Machine.{Cancels as CancelsUpdate, Goes, Machine, MachineEvent, Steps}
use Rattle.mt_rendezvous.specs.declared.view.Held.{Held}
use Rattle.mt_rendezvous.specs.declared.view.Start.{Start}
use Rattle.mt_rendezvous.specs.declared.view.Key.{Key}
use Rattle.mt_rendezvous.specs.Station.{Meets, joined, start_of}
use Rattle.mt_rendezvous.specs.Plays.{CanFollow, after_event}
use Rattle.mt_rendezvous.specs.Laws.{ComesOf, IsOneStep, machine_of, seat_step}
use Rattle.mt_thread_laws.specs.WorkedLone.{back, both_written, cancelled, free, lone, lone_station, new, out, pass_of, restored, root_of, sits}
use Rattle.mt_thread_laws.specs.WorkedStations.{zeros}
use Rattle.mt_thread_laws.proofs.Lodged.{absent}

-- ---- the machine of a station of one

only : (all : List Held) (h : Held) → length all ≡ 1 → get_elem? all 0 ≡ some h → all ≡ h ∷ []
only [] h size at = absurd (omega arith)
only (x ∷ []) h size at = ap (λ (y : Held). y ∷ []) (some-injective x h at)
only (x ∷ y ∷ all) h size at = absurd (omega arith)

module _ (key : Key) (is : start_of key ≡ lone) (go : Go) (shown : Option ℕ) (h : Held) (words : List ℕ) (m : Meets key (lone_station key go shown h words)) (first : h.number ≡ 0) where
  its_all : m.all ≡ h ∷ []
  its_all = only m.all h (m.size ∙ ap (λ (t : Start). length t.cpus) is)
      (subst (λ (k : ℕ). get_elem? m.all k ≡ some h) first ((m.seats 1 (pass_of (start_of key) shown h) refl).holds 0 h refl).0)

  its_go : m.go ≡ go
  its_go = sym ((m.seats 0 (root_of (start_of key) go) refl).root refl).1

  stands_as : machine_of key (lone_station key go shown h words) m ≡ joined lone (h ∷ []) go words
  stands_as = λ i. joined (is i) (its_all i) (its_go i) words

-- ---- no event makes the one the other

abbrev phase_at : Machine → Option Phase
phase_at m = option_map (λ (p : Processor). p.phase) (slice_get m.system.processors 0)

nobody : (k : ℕ) (p : Processor) → slice_get (p ∷ []) (suc k) ≡ None
nobody zero p = refl
nobody (suc k) p = refl

abbrev waiting : Machine
waiting = joined lone (new ∷ []) Cancelled (0x100000000 ∷ 0 ∷ 0 ∷ zeros)

abbrev gone_off : Machine
gone_off = joined lone (out ∷ []) Cancelled (0x100000001 ∷ 0 ∷ 0 ∷ zeros)

none_leaves : (e : Option MachineEvent) → CanFollow waiting e → gone_off ≡ after_event waiting e → ComesOf 0 1 e → ⊥
none_leaves None enabled becomes comes = let same : Some Running ≡ Some Taken = ap phase_at becomes in cc
none_leaves (Some Goes) enabled becomes comes = let same : Some Running ≡ Some Taken = ap phase_at becomes in cc
none_leaves (Some CancelsUpdate) enabled becomes comes = let same = comes.1 in omega arith
none_leaves (Some (Steps zero Arrive)) enabled becomes comes = let same : Some Running ≡ Some Arrived = ap phase_at becomes in cc
none_leaves (Some (Steps (suc k) Arrive)) enabled becomes comes = absent waiting (suc k) Arrive (nobody k new.cpu) enabled
none_leaves (Some (Steps k Pass)) enabled becomes comes = let same = comes.1 in omega arith
none_leaves (Some (Steps k Leave)) enabled becomes comes = let same = comes.1 in omega arith
none_leaves (Some (Steps k ArriveAgain)) enabled becomes comes = let same = comes.0 in omega arith
none_leaves (Some (Steps k Release)) enabled becomes comes = let same = comes.0 in omega arith
none_leaves (Some (Steps k other)) enabled becomes comes = omega (arith, comes)
none_leaves (Some other) enabled becomes comes = comes

abbrev back_there : Machine
back_there = joined lone (back ∷ []) Given (2 ∷ 0 ∷ 8 ∷ both_written)

abbrev freed : Machine
freed = joined lone (free ∷ []) Given (2 ∷ 1 ∷ 8 ∷ both_written)

none_frees : (e : Option MachineEvent) → CanFollow back_there e → freed ≡ after_event back_there e → ComesOf 1 1 e → ⊥
none_frees None enabled becomes comes = let same : Some Running ≡ Some Restored = ap phase_at becomes in cc
none_frees (Some Goes) enabled becomes comes = let same = comes.0 in omega arith
none_frees (Some CancelsUpdate) enabled becomes comes = let same = comes.0 in omega arith
none_frees (Some (Steps k Arrive)) enabled becomes comes = let same = comes.0 in omega arith
none_frees (Some (Steps k Pass)) enabled becomes comes = let same = comes.0 in omega arith
none_frees (Some (Steps k Leave)) enabled becomes comes = let same = comes.0 in omega arith
none_frees (Some (Steps zero ArriveAgain)) enabled becomes comes = let same : Some Running ≡ Some Arrived2 = ap phase_at becomes in cc
none_frees (Some (Steps (suc k) ArriveAgain)) enabled becomes comes = absent back_there (suc k) ArriveAgain (nobody k back.cpu) enabled
none_frees (Some (Steps k Release)) enabled becomes comes = let same = comes.1 in omega arith
none_frees (Some (Steps k other)) enabled becomes comes = omega (arith, comes)
none_frees (Some other) enabled becomes comes = comes

module _ (key : Key) (is : start_of key ≡ lone) where
  pub leaves_at_once : (m : Meets key (cancelled key)) → IsOneStep key (cancelled key) m (seat_step 1 0 1 (sits (start_of key) out)) → ⊥
  leaves_at_once m w =
      let before = stands_as key is Cancelled None new (0x100000000 ∷ 0 ∷ 0 ∷ zeros) m refl in
      let after = stands_as key is Cancelled None out (0x100000001 ∷ 0 ∷ 0 ∷ zeros) w.follows.kept refl in
      none_leaves w.event (subst (λ (x : Machine). CanFollow x w.event) before w.follows.enabled)
      (sym after ∙ w.follows.becomes ∙ ap (λ (x : Machine). after_event x w.event) before) w.comes

  pub frees_at_once : (m : Meets key (restored key)) → IsOneStep key (restored key) m (seat_step 1 1 1 (sits (start_of key) free)) → ⊥
  frees_at_once m w =
      let before = stands_as key is Given None back (2 ∷ 0 ∷ 8 ∷ both_written) m refl in
      let after = stands_as key is Given None free (2 ∷ 1 ∷ 8 ∷ both_written) w.follows.kept refl in
      none_frees w.event (subst (λ (x : Machine). CanFollow x w.event) before w.follows.enabled)
      (sym after ∙ w.follows.becomes ∙ ap (λ (x : Machine). after_event x w.event) before) w.comes
