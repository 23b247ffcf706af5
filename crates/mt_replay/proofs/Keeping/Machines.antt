-- What events, windows and updates leave of a machine that a state has.
use Rattle.std.proofs.Common.{◌≡◌, ◌∙◌, ap, sym, refl, subst, ℕ, Bool, true, false, if◌then◌else◌, List, Option, None, Some, slice_get, inl, arith}
use Rattle.mt_laws.proofs.Invariant.Flags.{flags_stay, updated_keeps_flags}
use Rattle.mt_laws.specs.Kept.{flags_of}
use Rattle.std.specs.Prelude.{map}
use Rattle.std.specs.Option.{option_map, option_map_or}
use Rattle.std.specs.List.{All}
use Rattle.std.proofs.lemmas.List.{length-map}
use Rattle.std.proofs.lemmas.List.Elements.{All-map}
use Rattle.std.proofs.lemmas.Option.{slice_get-map}
use Rattle.mt_regs.specs.RegisterFile.{RegisterFile}
use Rattle.mt_machine.specs.declared.go.Go.{Go}
use Rattle.mt_machine.specs.declared.go.Go.TheVariants.{Pending, Given, Cancelled}
use Rattle.mt_machine.specs.declared.op.Op.{Op}
use Rattle.mt_machine.specs.declared.control.Control.{Control}
use Rattle.mt_machine.specs.declared.event.Event.{Event}
use Rattle.mt_machine.specs.Memory.{Window}
use Rattle.mt_machine.specs.System.{Processor, System}
use Rattle.mt_machine.specs.Access.{Answered}
use Rattle.mt_machine.specs.Control.{RuledAfter}
use Rattle.mt_machine.specs.Machine.{Accesses, Calls, Controls, FitsControl, FitsGoal, FitsOp, IsEnabled, Machine, MachineEvent, Reached, Steps, after, due_at, go_of, next}
use Rattle.mt_machine.specs.Update.{settled_processor, updated}
use Rattle.mt_laws.proofs.Barrier.Acting.{access_busy, control_busy}
use Rattle.mt_laws.proofs.Barrier.Claims.{all_get, all_of}
use Rattle.mt_laws.proofs.Invariant.Standing.{standing_next}
use Rattle.mt_laws.proofs.Updates.Quiet.{updated_is_quiet}
use Rattle.mt_laws.proofs.Words.Sound.{aligned_all}
use Rattle.mt_core.specs.Arises.{Arises, by_event, from_start}
use Rattle.mt_core.specs.Steps.{step_after}
use Rattle.mt_core.specs.Headline.{HasRisenByOne}
use Rattle.mt_core.proofs.Arising.{runs_or_rests}
use Rattle.mt_core.proofs.Eras.{eras_rise}
use Rattle.mt_core.proofs.Reaching.{reached_on, updates_are_reached}
use Rattle.mt_core.proofs.Settling.{is_quiet_without_order}
use Rattle.mt_core.proofs.Stepping.{stands}
use Rattle.mt_replay.specs.ReplayState.{after_word, each_processor, is_undecided}
use Rattle.mt_replay.proofs.Keeping.Kinds.{fits_next, risen_same}

-- n comes of m, over the same windows
pub record ComesFrom (m n : Machine) : Type 0 where
  pub arises : Arises n
  pub reached : (p : Machine) → Reached p m → Reached p n
  pub risen : HasRisenByOne m.system n.system
  pub fits : (f : RegisterFile) → All (FitsGoal f) m.system.processors → All (FitsGoal f) n.system.processors
  pub windows : n.system.memory.windows ≡ m.system.memory.windows
  pub flags : flags_of n.system ≡ flags_of m.system

pub follows_same : (m : Machine) → Arises m → ComesFrom m m
follows_same m a = record { arises = a; reached = λ p r. r; risen = risen_same m.system m.system.memory; fits = λ f all. all; windows = refl; flags = refl }

pub follows_event : (m : Machine) (e : MachineEvent) → Arises m → IsEnabled m e → ComesFrom m (next m e)
follows_event m e a enabled =
    let st = stands a in
    let ws : List Window = m.system.memory.windows in
    record {
      arises = by_event e a enabled;
      reached = λ p r. after e r enabled;
      risen = eras_rise m e enabled;
      fits = λ f. fits_next f m e;
      windows = (standing_next ws (aligned_all ws st.0.aligned) m e enabled st.1).agrees.stands.memory.windows;
      flags = flags_stay m e;
    }

-- ---- accesses and control instructions, which change nothing where the processor is in an update

abbrev with_system : Machine → System → Machine
with_system m s = record m { system = s }

pub follows_access : (m : Machine) (k : ℕ) (op : Op) → Arises m → FitsOp op → ComesFrom m (next m (Accesses k op))
follows_access m k op a fits =
    runs_or_rests m.system k (ComesFrom m (next m (Accesses k op)))
    (λ runs. follows_event m (Accesses k op) a (runs, fits))
    (λ rests. subst (λ t. ComesFrom m (with_system m t)) (sym (ap (λ (x : Answered). x.after) (access_busy m.system k rests op))) (follows_same m a))

pub follows_control : (m : Machine) (k : ℕ) (c : Control) → Arises m → ((p : Processor) → slice_get m.system.processors k ≡ Some p → FitsControl p c) → ComesFrom m (next m (Controls k c))
follows_control m k c a fits =
    runs_or_rests m.system k (ComesFrom m (next m (Controls k c)))
    (λ runs. follows_event m (Controls k c) a (runs, fits))
    (λ rests. subst (λ t. ComesFrom m (with_system m t)) (sym (ap (λ (x : RuledAfter). x.after) (control_busy m.system k rests c))) (follows_same m a))

-- ---- what is done only where it may be

pub is_pending : (o : Option Go) → is_undecided o ≡ true → o ≡ Some Pending
is_pending (Some Pending) h = refl
is_pending (Some Given) h = absurd (cc h)
is_pending (Some Cancelled) h = absurd (cc h)
is_pending None h = absurd (cc h)

pub follows_word : (m : Machine) (e : MachineEvent) → Arises m → (go_of m ≡ Some Pending → IsEnabled m e) → ComesFrom m (after_word e m)
follows_word m e a enabled = one (is_undecided (go_of m)) refl
  where
    one : (b : Bool) → is_undecided (go_of m) ≡ b → ComesFrom m (if b then next m e else m)
    one true is = follows_event m e a (enabled (is_pending (go_of m) is))
    one false is = follows_same m a

pub follows_step : (m : Machine) (k : ℕ) → Arises m → ComesFrom m (step_after m k)
follows_step m k a = one (due_at m k) refl
  where
    one : (o : Option Event) → due_at m k ≡ o → ComesFrom m (option_map_or (λ e. next m (Steps k e)) o m)
    one None is = follows_same m a
    one (Some e) is = follows_event m (Steps k e) a is

-- ---- whole updates

updated_fits : (f goal : RegisterFile) (ps : List Processor) → All (FitsGoal goal) ps → All (FitsGoal f) ps → All (FitsGoal f) (map (settled_processor goal) ps)
updated_fits f goal ps own all =
    All-map (FitsGoal f) (settled_processor goal) ps
    (all_of (λ p. FitsGoal f (settled_processor goal p)) ps
    (λ i p at. let a = all_get (FitsGoal f) ps all i p at in
    let b = all_get (FitsGoal goal) ps own i p at in
    record { width = a.width ∙ sym b.width; capabilities = a.capabilities ∙ sym b.capabilities }))

updated_risen : (m : Machine) (goal : RegisterFile) (ks : List ℕ) → HasRisenByOne m.system (updated m.system ks goal).system
updated_risen m goal ks = record {
  same_number = length-map m.system.processors (settled_processor goal);
  eras = λ k p q at_p at_q.
      let e : Some (settled_processor goal p) ≡ Some q = sym (ap (option_map (settled_processor goal)) at_p) ∙ sym (slice_get-map (settled_processor goal) m.system.processors k) ∙ at_q in
      let same : settled_processor goal p ≡ q = cc in
      let era = ap (λ (x : Processor). x.era) same in
      omega arith;
}

pub follows_update : (m : Machine) (goal : RegisterFile) → Arises m → IsEnabled m (Calls goal) → ComesFrom m (updated m.system (each_processor m.system) goal)
follows_update m goal a enabled =
    let quiet = is_quiet_without_order m a enabled.0 in
    let ks : List ℕ = each_processor m.system in
    record {
      arises = from_start (inl (updated_is_quiet m goal ks quiet enabled));
      reached = λ p r. reached_on r (updates_are_reached m goal quiet enabled).0;
      risen = updated_risen m goal ks;
      fits = λ f. updated_fits f goal m.system.processors enabled.3;
      windows = refl;
      flags = updated_keeps_flags m.system ks goal;
    }
