-- From the first release on a yard's machine is settled, and words are held.
use Rattle.std.proofs.Common.{◌≡◌, ◌⊎◌, ◌∙◌, ap, sym, refl, subst, arith, ℕ, zero, suc, ◌+◌, Bool, true, false, List, [], ◌∷◌, ◌++◌, Option, None, Some, inl, inr, ⊎_elim}
use Rattle.std.specs.Prelude.{◌&&◌, if◌then◌else◌, not, slice_get}
use Rattle.std.specs.List.{All, list_all}
use Rattle.std.specs.Option.{option_map_or}
use Rattle.std.proofs.lemmas.Bool.{le-ltb}
use Rattle.mt_regs.specs.RegisterFile.{RegisterFile}
use Rattle.mt_machine.specs.declared.event.Event.{Event}
use Rattle.mt_machine.specs.declared.event.Event.TheVariants.{FlushTlb, Release}
use Rattle.mt_machine.specs.declared.go.Go.{Go}
use Rattle.mt_machine.specs.declared.go.Go.TheVariants.{Cancelled, Given, Pending}
use Rattle.mt_machine.specs.System.{Processor, System}
use Rattle.mt_machine.specs.Machine.{Accesses, AreEnabled, Calls, Cancels, Controls, Goes, IsEnabled, Machine, MachineEvent, Order, Reached, Steps, after, at_start, common_era, due, has_released, is_over, next, own_step, run, step}
use Rattle.mt_machine.specs.Start.{IsStart}
use Rattle.mt_machine.specs.Update.{IsSettled, is_call, is_release}
use Rattle.mt_laws.proofs.Barrier.Barriers.{flush_era, step_stages}
use Rattle.mt_laws.proofs.Barrier.Claims.{all_get, all_of}
use Rattle.mt_laws.proofs.Barrier.Ranks.{At, at_set, stage_at}
use Rattle.mt_laws.proofs.Barrier.Stages.{Stage, access_stages, control_stages, stage_of, stages, stages_of}
use Rattle.mt_laws.proofs.Clearing.Follows.{all_append}
use Rattle.mt_laws.proofs.Invariant.Runs.{enabled_join, run_join}
use Rattle.mt_laws.proofs.Registers.Settled.{settled}
use Rattle.mt_machine_laws.proofs.Updates.FirstRelease.{held_after_each_first}
use Rattle.mt_rendezvous.specs.declared.view.Start.{Start}
use Rattle.mt_rendezvous.specs.Station.{broadcast, order_of, start_of}
use Rattle.mt_private.specs.OneByOne.{at_rest}
use Rattle.mt_private.specs.Residents.{Opens, Uncalled, system_of, uncalled_on, uncalled_start}
use Rattle.mt_private.specs.YardLaws.{Settles, YardsSettle}
use Rattle.mt_private.specs.YardRule.{its_machine}
use Rattle.mt_private.proofs.Residents.Moves.{processor_at}

-- ---- an event other than a release raises no era

keeps_era : (goal : RegisterFile) (k : ℕ) (e : Event) (p : Processor) → is_release (Steps k e) ≡ false → (own_step goal e p).era ≡ p.era
keeps_era goal k Release p other = absurd (cc)
keeps_era goal k FlushTlb p other = flush_era p.phase p
keeps_era goal k e p other = refl

abbrev AllIn : ℕ → List Stage → Type 0
AllIn era vs = (i : ℕ) (x : Stage) → At vs i x → x.1 ≡ era

steps_in : (era : ℕ) (goal : RegisterFile) (e : Event) (k : ℕ) (s : System) (p : Processor) → slice_get s.processors k ≡ Some p → is_release (Steps k e) ≡ false → AllIn era (stages s) → AllIn era (stages (step goal e k s))
steps_in era goal e k s p at other all i x at_x =
    ⊎_elim
    (λ (own : (i ≡ k) × (stage_of (own_step goal e p) ≡ x)). ap (λ (z : Stage). z.1) (sym own.1) ∙ keeps_era goal k e p other ∙ all k (stage_of p) (stage_at s.processors k p at))
    (λ (there : At (stages s) i x). all i x there)
    (at_set (stages s) k i (stage_of (own_step goal e p)) x (subst (λ (vs : List Stage). At vs i x) (step_stages goal e k s p at) at_x))

all_still : (era : ℕ) (e : MachineEvent) (s : System) (o : Option Order) → IsEnabled (record { system = s; order = o }) e → is_release e ≡ false → AllIn era (stages s) → AllIn era (stages (next (record { system = s; order = o }) e).system)
all_still era (Accesses k op) s o enabled other all = subst (AllIn era) (sym (access_stages s k op)) all
all_still era (Controls k c) s o enabled other all = subst (AllIn era) (sym (control_stages s k c)) all
all_still era (Calls goal) s o enabled other all = all
all_still era Goes s None enabled other all = all
all_still era Goes s (Some o) enabled other all = all
all_still era Cancels s None enabled other all = all
all_still era Cancels s (Some o) enabled other all = all
all_still era (Steps k e) s None enabled other all = all
all_still era (Steps k e) s (Some o) enabled other all = one (slice_get s.processors k) refl enabled
  where
    one : (x : Option Processor) → slice_get s.processors k ≡ x → option_map_or (λ p. due o s.processors p p.phase) x None ≡ Some e → AllIn era (stages (step o.goal e k s))
    one None at g = absurd (cc)
    one (Some p) at g = steps_in era o.goal e k s p at other all

all_there : (era : ℕ) (ps : List Processor) → ((i : ℕ) (p : Processor) → slice_get ps i ≡ Some p → p.era ≡ era) → AllIn era (stages_of ps)
all_there era [] each i x at = absurd (cc)
all_there era (p ∷ ps) each zero x at = let e : stage_of p ≡ x = cc in ap (λ (z : Stage). z.1) (sym e) ∙ each 0 p refl
all_there era (p ∷ ps) each (suc i) x at = all_there era ps (λ j q h. each (suc j) q h) i x at

released_by : (e : MachineEvent) → is_release e ≡ true → (k : ℕ) × (e ≡ Steps k Release)
released_by (Steps k Release) h = (k, refl)
released_by (Steps k e) h = absurd (cc)
released_by other h = absurd (cc)

-- ---- the order

-- it is that of the yard's update, as long as there is one
abbrev OrderIs : Start → Option Order → Type 0
OrderIs t None = Unit {0}
OrderIs t (Some o) = (go : Go) × (o ≡ order_of t go)

order_left : (t : Start) (o : Order) (go : Go) → o ≡ order_of t go → (b : Bool) → OrderIs t (if b then None else Some o)
order_left t o go is true = tt
order_left t o go is false = (go, is)

order_next : (t : Start) (e : MachineEvent) (s : System) (o : Option Order) → OrderIs t o → is_call e ≡ false → OrderIs t (next (record { system = s; order = o }) e).order
order_next t (Accesses k op) s o is quiet = is
order_next t (Controls k c) s o is quiet = is
order_next t (Calls goal) s o is quiet = absurd (cc)
order_next t Goes s None is quiet = tt
order_next t Goes s (Some o) is quiet = order_left t (record o { go = Given }) Given (ap (λ (x : Order). record x { go = Given }) is.1) (is_over (record o { go = Given }) s.processors)
order_next t Cancels s None is quiet = tt
order_next t Cancels s (Some o) is quiet = order_left t (record o { go = Cancelled }) Cancelled (ap (λ (x : Order). record x { go = Cancelled }) is.1) (is_over (record o { go = Cancelled }) s.processors)
order_next t (Steps k e) s None is quiet = tt
order_next t (Steps k e) s (Some o) is quiet = order_left t o is.0 is.1 (is_over o (step o.goal e k s).processors)

-- ---- what was before the first release, and what came since

record Risen (t : Start) (m : Machine) : Type 0 where
  pub before : Machine
  pub go : Go
  pub k : ℕ
  pub since : List MachineEvent
  pub reached : Reached (at_rest (system_of t)) before
  pub order : before.order ≡ Some (order_of t go)
  pub none : All (λ q. has_released (order_of t go) q ≡ false) before.system.processors
  pub enabled : IsEnabled before (Steps k Release)
  pub more : AreEnabled (next before (Steps k Release)) since
  pub uncalled : list_all (λ e. not (is_call e)) since ≡ true
  pub leads : run (next before (Steps k Release)) since ≡ m

goes_on : (t : Start) (m : Machine) (e : MachineEvent) → Risen t m → IsEnabled m e → is_call e ≡ false → Risen t (next m e)
goes_on t m e r enabled quiet = record {
  before = r.before;
  go = r.go;
  k = r.k;
  since = r.since ++ e ∷ [];
  reached = r.reached;
  order = r.order;
  none = r.none;
  enabled = r.enabled;
  more = enabled_join (next r.before (Steps r.k Release)) r.since (e ∷ []) r.more (subst (λ (x : Machine). IsEnabled x e) (sym r.leads) enabled, tt);
  uncalled = all_append (λ x. not (is_call x)) r.since (e ∷ []) r.uncalled (ap (λ (b : Bool). not b && true) quiet);
  leads = run_join (next r.before (Steps r.k Release)) r.since (e ∷ []) ∙ ap (λ (x : Machine). next x e) r.leads;
}

first_of : (t : Start) (s : System) (o : Option Order) (k : ℕ) → OrderIs t o → Reached (at_rest (system_of t)) (record { system = s; order = o }) → AllIn (common_era t.cpus) (stages s) → IsEnabled (record { system = s; order = o }) (Steps k Release)
    → Risen t (next (record { system = s; order = o }) (Steps k Release))
first_of t s None k is reached all enabled = absurd (cc)
first_of t s (Some o) k is reached all enabled = record {
  before = record { system = s; order = Some o };
  go = is.0;
  k = k;
  since = [];
  reached = reached;
  order = ap (λ (x : Order). Some x) is.1;
  none = all_of (λ q. has_released (order_of t is.0) q ≡ false) s.processors
      (λ i p at. let same : p.era ≡ common_era t.cpus = all i (stage_of p) (stage_at s.processors i p at) in le-ltb (common_era t.cpus) p.era (omega arith));
  enabled = enabled;
  more = tt;
  uncalled = refl;
  leads = refl;
}

record Goes-on (t : Start) (m : Machine) : Type 0 where
  pub order : OrderIs t m.order
  pub reached : Reached (at_rest (system_of t)) m
  pub risen : AllIn (common_era t.cpus) (stages m.system) ⊎ Risen t m

on_by : (t : Start) (m : Machine) (e : MachineEvent) → Goes-on t m → IsEnabled m e → is_call e ≡ false → Goes-on t (next m e)
on_by t m e g enabled quiet = record {
  order = order_next t e m.system m.order g.order quiet;
  reached = after e g.reached enabled;
  risen = ⊎_elim (λ (all : AllIn (common_era t.cpus) (stages m.system)). one (is_release e) refl all) (λ (r : Risen t m). inr (goes_on t m e r enabled quiet)) g.risen;
}
  where
    one : (b : Bool) → is_release e ≡ b → AllIn (common_era t.cpus) (stages m.system) → AllIn (common_era t.cpus) (stages (next m e).system) ⊎ Risen t (next m e)
    one true is all =
        let r = released_by e is in
        inr (subst (λ (x : MachineEvent). Risen t (next m x)) (sym r.1) (first_of t m.system m.order r.0 g.order g.reached all (subst (IsEnabled m) r.1 enabled)))
    one false is all = inl (all_still (common_era t.cpus) e m.system m.order enabled is all)

on_from : (t : Start) {s m : Machine} → Uncalled s m → Goes-on t s → Goes-on t m
on_from t uncalled_start g = g
on_from t (uncalled_on e u enabled quiet) g = on_by t _ e (on_from t u g) enabled quiet

begun : (t : Start) → Opens t → Goes-on t (broadcast t)
begun t opens = record {
  order = (Pending, refl);
  reached = after (Calls t.goal) at_start opens.enabled;
  risen = inl (all_there (common_era t.cpus) t.cpus (λ i p at. all_get (λ q. q.era ≡ common_era t.cpus) t.cpus opens.quiet.one_era i p at));
}

-- ---- the law

settles_from : (t : Start) (m : Machine) → Opens t → Risen t m → Settles t m
settles_from t m opens r =
    let first : Machine = at_rest (system_of t) in
    let start : IsStart first = inl opens.quiet in
    let h = held_after_each_first first r.before (order_of t r.go) r.k r.since start r.reached r.order r.none r.enabled r.more in
    record {
      settled = subst (λ (x : Machine). IsSettled x.system (common_era t.cpus + 1) t.goal) r.leads (settled first r.before (order_of t r.go) r.k r.since start r.reached r.order r.enabled r.more r.uncalled);
      before = h.0;
      released = next r.before (Steps r.k Release);
      go = r.go;
      since = r.since;
      reached = h.1;
      first = h.2;
      enabled = r.more;
      leads = r.leads;
      held = h.3;
    }

pub settles : YardsSettle
settles key s m k y at risen =
    let t : Start = start_of key in
    let r = m.yard.resides in
    ⊎_elim
    (λ (all : AllIn (common_era t.cpus) (stages m.system)).
    let same : y.held.cpu.era ≡ common_era t.cpus = all k (stage_of y.held.cpu) (stage_at m.system.processors k y.held.cpu (processor_at t m.all m.go m.system r k y at)) in absurd (omega arith))
    (λ (x : Risen t (its_machine key s m)). settles_from t (its_machine key s m) r.opens x)
    (on_from t r.reached (begun t r.opens)).risen
