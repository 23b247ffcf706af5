-- While registers change nobody acts, and where a processor may pass, no buffer is left.
use Rattle.std.proofs.Common.{◌≡◌, ℕ, ◌≤◌, List, [], get_or, Some, None, Option, Bool, true, false, refl, ap, arith}
use Rattle.std.specs.Prelude.{slice_get, if◌then◌else◌, not}
use Rattle.std.specs.List.{All}
use Rattle.std.specs.Option.{option_map_or}
use Rattle.std.proofs.lemmas.Option.{slice_get-get_or}
use Rattle.mt_machine.specs.declared.phase.Phase.{Phase}
use Rattle.mt_machine.specs.declared.phase.Phase.TheVariants.{Arrived}
use Rattle.mt_machine.specs.declared.event.Event.TheVariants.{Leave, Pass}
use Rattle.mt_machine.specs.declared.op.Op.{Op}
use Rattle.mt_machine.specs.declared.done.Done.TheVariants.{Busy}
use Rattle.mt_machine.specs.declared.control.Control.{Control}
use Rattle.mt_machine.specs.declared.ruled.Ruled.TheVariants.{Busy as RuledBusy}
use Rattle.mt_machine.specs.System.{Processor, System}
use Rattle.mt_machine.specs.Access.{access, access_at, is_running, Answered}
use Rattle.mt_machine.specs.Control.{control, control_at, RuledAfter}
use Rattle.mt_machine.specs.Machine.{Machine, Order, Steps, IsEnabled, Reached, due, is_cancelled, first_barrier_open}
use Rattle.mt_machine.specs.Start.{IsStart}
use Rattle.mt_machine.proofs.Rows.{due_row, is_row}
use Rattle.mt_laws.specs.Barriers.{NoneActsInChange, NoneRunsInChange}
use Rattle.mt_laws.specs.Settled.{NoBuffersAtPass}
use Rattle.mt_laws.proofs.Barrier.Stages.{stage_of, stages}
use Rattle.mt_laws.proofs.Barrier.Ranks.{rank, rank_of, is_ahead, Guarded, stage_at, all_second}
use Rattle.mt_laws.proofs.Clearing.Renewed.{AllClear}
use Rattle.mt_laws.proofs.Barrier.Claims.{none_runs_of, running_rank}
use Rattle.mt_laws.proofs.Clearing.Late.{IsKept, reached_kept, start_kept}

module _ (s : System) (k : ℕ) (rests : (q : Processor) → slice_get s.processors k ≡ Some q → is_running q.phase ≡ false) where
  abbrev picked : Bool → Answered → Answered → Answered
  picked b x y = if b then x else y

  abbrev ruled : Bool → RuledAfter → RuledAfter → RuledAfter
  ruled b x y = if b then x else y

  pub access_busy : (op : Op) → access s k op ≡ record { answer = Busy; after = s }
  access_busy op = one (slice_get s.processors k) refl
    where
      one : (x : Option Processor) → slice_get s.processors k ≡ x → option_map_or {U = Answered} (λ q. if is_running q.phase then access_at s k q op else record { answer = Busy; after = s }) x (record { answer = Busy; after = s }) ≡ record { answer = Busy; after = s }
      one None at = refl
      one (Some q) at = ap (λ (b : Bool). picked b (access_at s k q op) (record { answer = Busy; after = s })) (rests q at)

  pub control_busy : (c : Control) → control s k c ≡ record { answer = RuledBusy; after = s }
  control_busy c = one (slice_get s.processors k) refl
    where
      one : (x : Option Processor) → slice_get s.processors k ≡ x → option_map_or {U = RuledAfter} (λ q. if is_running q.phase then control_at s k q c else record { answer = RuledBusy; after = s }) x (record { answer = RuledBusy; after = s }) ≡ record { answer = RuledBusy; after = s }
      one None at = refl
      one (Some q) at = ap (λ (b : Bool). ruled b (control_at s k q c) (record { answer = RuledBusy; after = s })) (rests q at)

pub none_acts_in : (m : Machine) → NoneRunsInChange m → NoneActsInChange m
none_acts_in m none i k p op c at changing =
    let rests : (q : Processor) → slice_get m.system.processors k ≡ Some q → is_running q.phase ≡ false = λ q at_q. none i k p q at at_q changing in
    (access_busy m.system k rests op, control_busy m.system k rests c)

pub none_acts_of : (s t : Machine) → IsStart s → Reached s t → NoneActsInChange t
none_acts_of s t start r = none_acts_in t (none_runs_of s t start r)

-- ---- at the pass

pass_opens : (o : Order) (ps : List Processor) (p : Processor) (ph : Phase) → due o ps p ph ≡ Some Pass → (ph ≡ Arrived) × (first_barrier_open o ps ≡ true)
pass_opens o ps p ph h = row ph h (due_row o ps p ph Pass h)
  where
    one : (b f : Bool) → first_barrier_open o ps ≡ f → (if b then Some Leave else (if f then Some Pass else None)) ≡ Some Pass → first_barrier_open o ps ≡ true
    one true f is g = absurd (cc)
    one false true is g = is
    one false false is g = absurd (cc)

    row : (ph : Phase) → due o ps p ph ≡ Some Pass → is_row Pass ph ≡ true → (ph ≡ Arrived) × (first_barrier_open o ps ≡ true)
    row Arrived g on = (refl, one (is_cancelled o.go) (first_barrier_open o ps) refl g)
    row other g on = absurd (cc)

module _ (s : System) (o : Order) (k : ℕ) (g : Guarded o (stages s)) (clear : AllClear (Some o) s.processors) where
  none_runs : (p : Processor) → slice_get s.processors k ≡ Some p → due o s.processors p p.phase ≡ Some Pass → (i : ℕ) (q : Processor) → slice_get s.processors i ≡ Some q → is_running q.phase ≡ false
  none_runs p at h i q at_q = one (is_running q.phase) refl
    where
      opened : (p.phase ≡ Arrived) × (first_barrier_open o s.processors ≡ true)
      opened = pass_opens o s.processors p p.phase h

      second : 2 ≤ rank o (stage_of q)
      second = all_second o s.processors g opened.1 i (stage_of q) (stage_at s.processors i q at_q)

      arrived : rank o (stage_of p) ≡ 2
      arrived = ap (λ (ph : Phase). rank_of ph (is_ahead o (stage_of p))) opened.0

      one : (b : Bool) → is_running q.phase ≡ b → b ≡ false
      one false rests = refl
      one true runs = absurd (
          let fifth = running_rank q.phase (is_ahead o (stage_of q)) runs second in
          let fourth : 4 ≤ rank o (stage_of p) = g.second i k (stage_of q) (stage_of p) (stage_at s.processors i q at_q) (stage_at s.processors k p at) (omega arith) in
          let a = arrived in
          let r : ⊥ = omega arith in r)

  none_left : IsEnabled (record { system = s; order = Some o }) (Steps k Pass) → (i : ℕ) (q : Processor) → slice_get s.processors i ≡ Some q → q.buffers ≡ []
  none_left enabled = one (slice_get s.processors k) refl enabled
    where
      one : (x : Option Processor) → slice_get s.processors k ≡ x → option_map_or (λ p. due o s.processors p p.phase) x None ≡ Some Pass → (i : ℕ) (q : Processor) → slice_get s.processors i ≡ Some q → q.buffers ≡ []
      one None at h = absurd (cc)
      one (Some p) at h = λ i q at_q. (clear i q at_q).no_buffers (ap not (none_runs p at h i q at_q))

pub no_buffers : (m : Machine) (k : ℕ) → IsKept m → IsEnabled m (Steps k Pass) → All (λ (q : Processor). q.buffers ≡ []) m.system.processors
no_buffers m k kept enabled i d within = one m.order kept enabled i (get_or m.system.processors i d) (slice_get-get_or m.system.processors i d within)
  where
    one : (v : Option Order) → IsKept (record { system = m.system; order = v }) → IsEnabled (record { system = m.system; order = v }) (Steps k Pass) → (i : ℕ) (q : Processor) → slice_get m.system.processors i ≡ Some q → q.buffers ≡ []
    one None kept enabled = absurd (cc)
    one (Some o) kept enabled = none_left m.system o k kept.0 kept.1 enabled

pub no_buffers_at_pass : NoBuffersAtPass
no_buffers_at_pass s p k start r enabled = no_buffers p k (reached_kept r (start_kept s start)) enabled
