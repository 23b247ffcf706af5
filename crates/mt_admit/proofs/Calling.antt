-- A processor can be brought up where no update is under way, and its update can be called then.
use Rattle.std.proofs.Common.{◌≡◌, ◌∙◌, ap, sym, refl, subst, arith, ◌+◌, ◌-◌, ◌<◌, ◌^◌, ⊎_elim, true, List, [], ◌∷◌, ◌++◌, length, length-append, Option, None, Some, slice_get}
use Rattle.std.specs.Prelude.{IsSome}
use Rattle.std.specs.Option.{option_map_or}
use Rattle.std.specs.List.{All}
use Rattle.mt_regs.specs.RegisterFile.{IsRegisterFile, RegisterFile, blank_file}
use Rattle.mt_regs.specs.Faults.{IsAccepted}
use Rattle.mt_machine.specs.declared.phase.Phase.{Phase}
use Rattle.mt_machine.specs.declared.phase.Phase.TheVariants.{Running}
use Rattle.mt_machine.specs.System.{IsProcessor, Processor, System, is_writing}
use Rattle.mt_machine.specs.Access.{is_running}
use Rattle.mt_machine.specs.Machine.{Calls, FitsGoal, IsEnabled, Machine, Order, common_era}
use Rattle.mt_machine.specs.Start.{HasEraRoom, IsQuiet}
use Rattle.mt_machine.specs.ComingAndGoing.{newcomer_beside, reset, with_newcomer}
use Rattle.mt_laws.proofs.Barrier.Claims.{all_get, all_of}
use Rattle.mt_laws.proofs.Invariant.Coming.{of_more, reset_stays_quiet}
use Rattle.mt_core.specs.Arises.{Arises, by_coming_up, by_event}
use Rattle.mt_core.specs.Rounds.{IsWholeUpdate}
use Rattle.mt_core.proofs.Settling.{is_quiet_without_order}
use Rattle.mt_admit.specs.Admission.{admitted, brought_up, first_file}
use Rattle.mt_admit.specs.Laws.{CanGrow, UpsArise}

first_of : (ps : List Processor) → 0 < length ps → (p : Processor) × (slice_get ps 0 ≡ Some p)
first_of [] some = absurd (omega arith)
first_of (p ∷ ps) some = (p, refl)

still_first : (ps : List Processor) (p q : Processor) → slice_get ps 0 ≡ Some p → slice_get (ps ++ q ∷ []) 0 ≡ Some p
still_first [] p q at = absurd (cc)
still_first (x ∷ ps) p q at = at

same_era : (ps : List Processor) (p q : Processor) → slice_get ps 0 ≡ Some p → common_era (ps ++ q ∷ []) ≡ common_era ps
same_era [] p q at = absurd (cc)
same_era (x ∷ ps) p q at = refl

running_rests : (ph : Phase) → is_running ph ≡ true → is_writing ph ≡ None
running_rests Running h = refl
running_rests other h = absurd (cc)

-- a system with a processor, and the one that comes up
module _ (s : System) (some : 0 < length s.processors) where
  pub first : (p : Processor) × (slice_get s.processors 0 ≡ Some p)
  first = first_of s.processors some

  pub first_is : first_file s ≡ first.0.file
  first_is = ap (λ (o : Option Processor). option_map_or (λ p. p.file) o (blank_file 36 0)) first.1

  pub reset_is : reset s ≡ record s { processors = s.processors ++ newcomer_beside first.0 ∷ [] }
  reset_is = ap (λ (o : Option Processor). option_map_or (λ p. record s { processors = s.processors ++ newcomer_beside p ∷ [] }) o s) first.1

  pub reset_count : length (reset s).processors ≡ length s.processors + 1
  reset_count = ap (λ (t : System). length t.processors) reset_is ∙ length-append s.processors (newcomer_beside first.0 ∷ [])

  pub reset_era : common_era (reset s).processors ≡ common_era s.processors
  reset_era = ap (λ (t : System). common_era t.processors) reset_is ∙ same_era s.processors first.0 (newcomer_beside first.0) first.1

module _ (m : Machine) (quiet : IsQuiet m) (some : 0 < length m.system.processors) where
  abbrev ps : List Processor
  ps = m.system.processors

  own : IsProcessor (first m.system some).0
  own = all_get IsProcessor ps quiet.sound.each 0 (first m.system some).0 (first m.system some).1

  pub goal_file : IsRegisterFile (first_file m.system)
  goal_file = subst IsRegisterFile (sym (first_is m.system some)) own.register_file

  pub goal_accepted : IsAccepted (first_file m.system)
  goal_accepted =
      let p : Processor = (first m.system some).0 in
      let runs : is_running p.phase ≡ true = all_get (λ q. is_running q.phase ≡ true) ps quiet.running 0 p (first m.system some).1 in
      subst IsAccepted (sym (first_is m.system some)) (own.accepted (running_rests p.phase runs))

  pub goal_fits : All (FitsGoal (first_file m.system)) (reset m.system).processors
  goal_fits =
      let p : Processor = (first m.system some).0 in
      let qs : List Processor = (reset m.system).processors in
      let there : slice_get qs 0 ≡ Some p = ap (λ (t : System). slice_get t.processors 0) (reset_is m.system some) ∙ still_first ps p (newcomer_beside p) (first m.system some).1 in
      subst (λ (f : RegisterFile). All (FitsGoal f) qs) (sym (first_is m.system some))
      (all_get (λ q. All (FitsGoal q.file) qs) qs (reset_stays_quiet m quiet).one_kind 0 p there)

  pub call_enabled : IsEnabled (with_newcomer m) (Calls (first_file m.system))
  call_enabled = (quiet.no_order, goal_file, goal_accepted, goal_fits)

  pub room_for_all : HasEraRoom m → HasEraRoom (with_newcomer m)
  room_for_all room =
      let p : Processor = (first m.system some).0 in
      let q : Processor = newcomer_beside p in
      subst (λ (t : System). All (λ r. r.era < 2 ^ 64 - 1) t.processors) (sym (reset_is m.system some))
      (all_of (λ r. r.era < 2 ^ 64 - 1) (ps ++ q ∷ []) (λ i r at. ⊎_elim
      (λ (old : slice_get ps i ≡ Some r). all_get (λ x. x.era < 2 ^ 64 - 1) ps room i r old)
      (λ (new : q ≡ r). subst (λ (x : Processor). x.era < 2 ^ 64 - 1) new (all_get (λ x. x.era < 2 ^ 64 - 1) ps room 0 p (first m.system some).1))
      (of_more ps q i r at)))

pub quiet_of : (m : Machine) → CanGrow m → IsQuiet m
quiet_of m h = is_quiet_without_order m h.arises h.idle

pub ups_arise : UpsArise
ups_arise m h = by_event (Calls (first_file m.system)) (by_coming_up h.arises h.idle h.some) (call_enabled m (quiet_of m h) h.some)

none_of : (o : Option Order) → (IsSome o → ⊥) → o ≡ None
none_of None h = refl
none_of (Some o) h = absurd (h refl)

-- the whole update of the newcomer, once it was called
pub admitted_by : (m n t : Machine) → Arises m → 0 < length m.system.processors → (IsSome m.order → ⊥) → n ≡ brought_up m → IsWholeUpdate n t → t ≡ admitted m
admitted_by m n t a some idle called whole =
    let quiet = is_quiet_without_order m a (none_of m.order idle) in
    whole (with_newcomer m) (first_file m.system) (reset_stays_quiet m quiet) (call_enabled m quiet some) called
