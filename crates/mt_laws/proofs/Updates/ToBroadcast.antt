-- After an accepted call, the takes of all processors lead to a broadcast state.
use Rattle.std.proofs.Common.{◌≡◌, ◌≢◌, ◌⊎◌, ℕ, zero, suc, ◌+◌, ◌<◌, ◌==◌, List, [], ◌∷◌, length, set, Some, None, Option, Bool, true, false, refl, sym, ap, subst, ◌∙◌, arith, inl, inr, ⊎_elim, eq-eqb, ne_eqb}
use Rattle.std.specs.Prelude.{slice_get, map, if◌then◌else◌, cond, nat_lt, not, ◌&&◌, ◌||◌}
use Rattle.std.specs.List.{fold, list_all, list_any}
use Rattle.std.specs.Option.{option_map_or}
use Rattle.std.proofs.lemmas.Bool.{eqb-true, eqb-false, le-ltb, lt-ltb, ltb-true}
use Rattle.std.proofs.lemmas.Option.{slice_get_within}
use Rattle.mt_regs.specs.RegisterFile.{RegisterFile}
use Rattle.mt_cache.specs.declared.line.CacheLine.{CacheLine}
use Rattle.mt_machine.specs.declared.phase.Phase.{Phase}
use Rattle.mt_machine.specs.declared.phase.Phase.TheVariants.{Running, Taken}
use Rattle.mt_machine.specs.declared.event.Event.TheVariants.{Take}
use Rattle.mt_machine.specs.Memory.{Memory, write_back_of}
use Rattle.mt_machine.specs.System.{Processor, System, change, now, buffers_of}
use Rattle.mt_machine.specs.Bus.{drain, empty_buffer, with_buffers, bus_read, invalidate}
use Rattle.mt_machine.specs.Access.{is_running}
use Rattle.mt_machine.specs.Machine.{Machine, Order, MachineEvent, Calls, Steps, IsEnabled, due, step, remaining_order, is_cancelled, is_waiting_to_pass, has_released, FitsGoal, run, AreEnabled, Reached, at_start}
use Rattle.mt_machine.specs.Start.{IsQuiet, IsBroadcast}
use Rattle.mt_machine.specs.Update.{is_led, is_go, takes_of, emptied, settled_processor, addresses}
use Rattle.mt_laws.specs.Kept.{IsUnderWay}
use Rattle.mt_laws.specs.Counts.{IsEachOnce}
use Rattle.mt_laws.specs.Updates.{all_taken, order_of_call, call_and_takes, TakesBroadcast, UpdatedFromBroadcast}
use Rattle.mt_laws.proofs.Barrier.Stages.{Stage, stage_of, stages}
use Rattle.mt_laws.proofs.Barrier.Ranks.{At, processor_at, stage_at, all_at}
use Rattle.mt_laws.proofs.Barrier.Barriers.{Rest, Kept, keeps, step_stages, era_at}
use Rattle.mt_laws.proofs.Barrier.Claims.{all_get, all_of, quiet_rest, quiet_invariant}
use Rattle.mt_laws.proofs.Barrier.Takes.{mine}
use Rattle.mt_laws.proofs.Steps.StepCounts.{count_more}
use Rattle.mt_laws.proofs.Steps.StepTotals.{set_elsewhere}
use Rattle.mt_laws.proofs.Clearing.Cleared.{buffers_gone}
use Rattle.mt_laws.proofs.Clearing.Late.{reached_kept, quiet_kept, set_same, at_same}
use Rattle.mt_laws.proofs.Words.LineLaws.{write_back_windows}
use Rattle.mt_laws.proofs.Words.LineLists.{of_windows}
use Rattle.mt_laws.proofs.Invariant.Runs.{reached_run}
use Rattle.mt_laws.proofs.Invariant.Standing.{stays_sound}
use Rattle.mt_laws.proofs.Registers.UnderWay.{orders_hold}
use Rattle.mt_laws.proofs.Updates.Erased.{erased, erase}
use Rattle.mt_laws.proofs.Updates.Cancelled.{cancelled_run}
use Rattle.mt_laws.proofs.Updates.Whole.{View, view, emptied_views, now_erased}

abbrev pub takes : List ℕ → List MachineEvent
takes ks = map (λ k. Steps k Take) ks

-- ---- one take

-- a processor has taken, or has yet to take once
abbrev pub Todo : Order → ℕ → List ℕ → Stage → Type 0
Todo o i ks x = (x.1 ≡ o.from_era) × (((x.0 ≡ Taken) × (mine i ks ≡ 0)) ⊎ ((x.0 ≡ Running) × (mine i ks ≡ 1)))

pub record Waiting (o : Order) (s : System) (ks : List ℕ) : Type 0 where
  pub each : (i : ℕ) (x : Stage) → At (stages s) i x → Todo o i ks x
  pub inside : (i : ℕ) → slice_get (stages s) i ≡ None → mine i ks ≡ 0

not_over : (o : Order) (ps : List Processor) (i : ℕ) (p : Processor) → slice_get ps i ≡ Some p → has_released o p ≡ false → is_cancelled o.go ≡ false → remaining_order o ps ≡ Some o
not_over o ps i p at behind off = one (list_all (has_released o) ps) (is_cancelled o.go) (not (list_any (λ q. is_waiting_to_pass q.phase) ps)) (λ all. let on : has_released o p ≡ true = all_at (has_released o) ps i p all at in absurd (cc)) off
  where
    one : (a b c : Bool) → (a ≡ true → ⊥) → b ≡ false → (if a || (b && c) then None else Some o) ≡ Some o
    one true b c h g = absurd (h refl)
    one false true c h g = absurd (cc)
    one false false c h g = refl

own_count : (k : ℕ) (ks : List ℕ) → mine k (k ∷ ks) ≡ 1 + mine k ks
own_count k ks = count_more (λ j. j == k) k ks ∙ ap (λ (b : Bool). cond {A = ℕ} b 1 0 + mine k ks) (eq-eqb k k refl)

other_count : (i k : ℕ) (ks : List ℕ) → k ≢ i → mine i (k ∷ ks) ≡ mine i ks
other_count i k ks apart =
    let more = count_more (λ j. j == i) k ks in
    let none : cond {A = ℕ} (k == i) 1 0 ≡ 0 = ap (λ (b : Bool). cond {A = ℕ} b 1 0) (ne_eqb k i apart) in
    omega arith

same_or_not : (i k : ℕ) → (k ≡ i) ⊎ (k ≢ i)
same_or_not i k = one (k == i) refl
  where
    one : (b : Bool) → (k == i) ≡ b → (k ≡ i) ⊎ (k ≢ i)
    one true h = inl (eqb-true k i h)
    one false h = inr (eqb-false k i h)

module _ (o : Order) (on : is_cancelled o.go ≡ false) (s : System) (k : ℕ) (ks : List ℕ) (w : Waiting o s (k ∷ ks)) where
  abbrev after_take : System
  after_take = step o.goal Take k s

  -- the processor is there, runs, and has no other take ahead
  found : (p : Processor) × (slice_get s.processors k ≡ Some p) × (p.phase ≡ Running) × (p.era ≡ o.from_era) × (mine k ks ≡ 0)
  found = one (slice_get (stages s) k) refl
    where
      one : (v : Option Stage) → slice_get (stages s) k ≡ v → (p : Processor) × (slice_get s.processors k ≡ Some p) × (p.phase ≡ Running) × (p.era ≡ o.from_era) × (mine k ks ≡ 0)
      one None at = absurd (let none = w.inside k at in let more = own_count k ks in let r : ⊥ = omega arith in r)
      one (Some x) at =
          let todo = w.each k x at in
          let more = own_count k ks in
          let p = processor_at s.processors k x at in
          ⊎_elim
          (λ (h : (x.0 ≡ Taken) × (mine k (k ∷ ks) ≡ 0)). absurd (let none = h.1 in let r : ⊥ = omega arith in r))
          (λ (h : (x.0 ≡ Running) × (mine k (k ∷ ks) ≡ 1)).
          let single = h.1 in
          let rest : mine k ks ≡ 0 = omega arith in
          (p.0, p.1, ap (λ (y : Stage). y.0) p.2 ∙ h.0, ap (λ (y : Stage). y.1) p.2 ∙ todo.0, rest))
          todo.1

  take_due : IsEnabled (record { system = s; order = Some o }) (Steps k Take)
  take_due =
      let f = found in
      ap (λ (x : Option Processor). option_map_or (λ p. due o s.processors p p.phase) x None) f.1
      ∙ ap (λ (ph : Phase). due o s.processors f.0 ph) f.2
      ∙ λ i. if (eq-eqb f.0.era o.from_era f.3 i) && not (on i) then Some Take else None

  taken_stages : stages after_take ≡ set (stages s) k (Taken, found.0.era)
  taken_stages = step_stages o.goal Take k s found.0 found.1

  now_taken : At (stages after_take) k (Taken, found.0.era)
  now_taken = subst (λ (vs : List Stage). At vs k (Taken, found.0.era)) (sym taken_stages) (set_same (stages s) k (Taken, found.0.era) (stage_of found.0) (stage_at s.processors k found.0 found.1))

  goes_on : remaining_order o after_take.processors ≡ Some o
  goes_on =
      let q = processor_at after_take.processors k (Taken, found.0.era) now_taken in
      let era : q.0.era ≡ o.from_era = ap (λ (y : Stage). y.1) q.2 ∙ found.3 in
      not_over o after_take.processors k q.0 q.1 (ap (nat_lt o.from_era) era ∙ le-ltb o.from_era o.from_era (omega arith)) on

  elsewhere : (i : ℕ) → k ≢ i → slice_get (stages after_take) i ≡ slice_get (stages s) i
  elsewhere i apart = ap (λ (vs : List Stage). slice_get vs i) taken_stages ∙ set_elsewhere (stages s) k i (Taken, found.0.era) (λ e. apart (sym e))

  still_waiting : Waiting o after_take ks
  still_waiting = record {
    each = λ i x at. ⊎_elim
        (λ (e : k ≡ i).
        let same : (Taken, found.0.era) ≡ x = at_same (stages after_take) k (Taken, found.0.era) x now_taken (subst (λ (j : ℕ). At (stages after_take) j x) (sym e) at) in
        subst (λ (y : Stage). Todo o i ks y) same (found.3, inl (refl, subst (λ (j : ℕ). mine j ks ≡ 0) e found.4)))
        (λ (apart : k ≢ i).
        let todo = w.each i x (sym (elsewhere i apart) ∙ at) in
        subst (λ (n : ℕ). (x.1 ≡ o.from_era) × (((x.0 ≡ Taken) × (n ≡ 0)) ⊎ ((x.0 ≡ Running) × (n ≡ 1)))) (other_count i k ks apart) todo)
        (same_or_not i k);
    inside = λ i none. ⊎_elim
        (λ (e : k ≡ i). absurd (let at : slice_get (stages after_take) i ≡ Some (Taken, found.0.era) = subst (λ (j : ℕ). At (stages after_take) j (Taken, found.0.era)) e now_taken in cc))
        (λ (apart : k ≢ i). sym (other_count i k ks apart) ∙ w.inside i (sym (elsewhere i apart) ∙ none))
        (same_or_not i k);
  }

-- ---- all takes

pub record Taking (o : Order) (s : System) (ks : List ℕ) : Type 0 where
  pub last : System
  pub enabled : AreEnabled (record { system = s; order = Some o }) (takes ks)
  pub leads : run (record { system = s; order = Some o }) (takes ks) ≡ record { system = last; order = Some o }
  pub waiting : Waiting o last []

-- of an order that isn't cancelled, whether its go is given or not
pub all_take : (o : Order) → is_cancelled o.go ≡ false → (ks : List ℕ) (s : System) → Waiting o s ks → Taking o s ks
all_take o on [] s w = record { last = s; enabled = tt; leads = refl; waiting = w }
all_take o on (k ∷ ks) s w =
    let rest = all_take o on ks (step o.goal Take k s) (still_waiting o on s k ks w) in
    let stays = goes_on o on s k ks w in
    record {
      last = rest.last;
      enabled = (
        take_due o on s k ks w,
        subst (λ (v : Option Order). AreEnabled (record { system = step o.goal Take k s; order = v }) (takes ks)) (sym stays) rest.enabled,
      );
      leads = ap (λ (v : Option Order). run (record { system = step o.goal Take k s; order = v }) (takes ks)) stays ∙ rest.leads;
      waiting = rest.waiting;
    }

-- ---- from a quiet state

runs_is : (ph : Phase) → is_running ph ≡ true → ph ≡ Running
runs_is Running h = refl
runs_is other h = absurd (cc)

pub quiet_waiting : (s : Machine) (goal : RegisterFile) (ks : List ℕ) → IsQuiet s → IsEachOnce (length s.system.processors) ks → Waiting (order_of_call s goal) s.system ks
quiet_waiting s goal ks q once = record {
  each = λ i x at.
      let p = processor_at s.system.processors i x at in
      let within = slice_get_within s.system.processors i p.0 p.1 in
      (era_at s.system.processors rest i x at, inr (runs_is x.0 (rest.running i x at), once i ∙ ap (λ (b : Bool). if b then 1 else 0) (lt-ltb i (length s.system.processors) within)));
  inside = λ i none. once i ∙ outside i none (nat_lt i (length s.system.processors)) refl;
}
  where
    rest : Rest (stages s.system)
    rest = quiet_rest s q

    outside : (i : ℕ) → slice_get (stages s.system) i ≡ None → (b : Bool) → nat_lt i (length s.system.processors) ≡ b → cond {A = ℕ} b 1 0 ≡ 0
    outside i none false h = refl
    outside i none true h =
        absurd (there (slice_get s.system.processors i) refl)
      where
        there : (v : Option Processor) → slice_get s.system.processors i ≡ v → ⊥
        there None at = past s.system.processors i at (ltb-true i (length s.system.processors) h)
          where
            past : (ps : List Processor) (j : ℕ) → slice_get ps j ≡ None → j < length ps → ⊥
            past [] j g low = omega arith
            past (p ∷ ps) zero g low = absurd (cc)
            past (p ∷ ps) (suc j) g low = past ps j g (omega arith)
        there (Some p) at = absurd (let here : slice_get (stages s.system) i ≡ Some (stage_of p) = stage_at s.system.processors i p at in cc)

-- ---- the system

takes_led : (ks : List ℕ) → list_all (λ e. is_led e && not (is_go e)) (takes ks) ≡ true
takes_led [] = refl
takes_led (k ∷ ks) = takes_led ks

pub takes_taken : (ks : List ℕ) → takes_of (takes ks) ≡ ks
takes_taken [] = refl
takes_taken (k ∷ ks) = ap (λ js. k ∷ js) (takes_taken ks)

abbrev taken_one : Processor → Processor
taken_one p = record p { phase = Taken }

taken_erased : (ps : List Processor) → map taken_one (map erased ps) ≡ map taken_one ps
taken_erased [] = refl
taken_erased (p ∷ ps) = ap (λ qs. taken_one p ∷ qs) (taken_erased ps)

all_taken_erased : (s : System) → all_taken (erase s) ≡ all_taken s
all_taken_erased s = λ i. record { processors = taken_erased s.processors i; memory = s.memory }

are_taken : (ps : List Processor) → ((i : ℕ) (p : Processor) → slice_get ps i ≡ Some p → p.phase ≡ Taken) → map taken_one ps ≡ ps
are_taken [] h = refl
are_taken (p ∷ ps) h = λ i. (ap (λ (v : Phase). record p { phase = v }) (sym (h 0 p refl))) i ∷ are_taken ps (λ j q at. h (suc j) q at) i

done : (o : Order) (s : System) → Waiting o s [] → (i : ℕ) (p : Processor) → slice_get s.processors i ≡ Some p → (p.phase ≡ Taken) × (p.era ≡ o.from_era)
done o s w i p at =
    let todo = w.each i (stage_of p) (stage_at s.processors i p at) in (
      ⊎_elim (λ (h : (p.phase ≡ Taken) × (mine i [] ≡ 0)). h.0) (λ (h : (p.phase ≡ Running) × (mine i [] ≡ 1)). absurd (let none : mine i [] ≡ 0 = refl in let single = h.1 in let r : ⊥ = omega arith in r)) todo.1,
      todo.0,
    )

pub takes_broadcast : TakesBroadcast
takes_broadcast s goal ks q enabled once =
    let o : Order = order_of_call s goal in
    let t = all_take o refl ks s.system (quiet_waiting s goal ks q once) in
    let all : AreEnabled s (call_and_takes goal ks) = (enabled, t.enabled) in
    let last : Machine = record { system = t.last; order = Some o } in
    let reached : Reached s last = subst (Reached s) t.leads (reached_run (call_and_takes goal ks) s s at_start all) in
    let taken = done o t.last t.waiting in
    let kept = reached_kept reached (quiet_kept s q) in
    let under_way = orders_hold s last o (inl q) reached refl in
    let broadcast : IsBroadcast last o = record {
      sound = stays_sound s last (inl q) reached;
      order = refl;
      pending = refl;
      taken = all_of (λ p. p.phase ≡ Taken) t.last.processors (λ i p at. (taken i p at).0);
      no_buffers = all_of (λ p. p.buffers ≡ []) t.last.processors (λ i p at. (kept.1 i p at).no_buffers (ap buffers_gone (taken i p at).0));
      one_era = all_of (λ p. p.era ≡ o.from_era) t.last.processors (λ i p at. (taken i p at).1);
      goal_file = enabled.1;
      goal_accepted = enabled.2;
      fits = all_of (FitsGoal goal) t.last.processors (λ i p at. (all_get (IsUnderWay o) t.last.processors under_way.each i p at).fits);
    } in
    let guarded : Kept (Some o) (stages s.system) = keeps s (Calls goal) enabled (quiet_invariant s q) in
    let erasing : erase t.last ≡ erase (emptied s.system ks) =
    ap (λ (m : Machine). erase m.system) (sym t.leads)
    ∙ cancelled_run (takes ks) s.system (Some o) s.system refl guarded refl t.enabled (takes_led ks)
    ∙ ap (λ (js : List ℕ). erase (emptied s.system js)) (takes_taken ks) in
    let known : all_taken t.last ≡ t.last = λ i. record { processors = are_taken t.last.processors (λ j p at. (taken j p at).0) i; memory = t.last.memory } in
    let system : t.last ≡ all_taken (emptied s.system ks) = sym known ∙ sym (all_taken_erased t.last) ∙ ap all_taken erasing ∙ all_taken_erased (emptied s.system ks) in
    record {
      enabled = all;
      broadcast = subst (λ (m : Machine). IsBroadcast m o) (sym t.leads) broadcast;
      system = ap (λ (m : Machine). m.system) t.leads ∙ system;
    }

-- ---- the update from there

read_windows : (n : ℕ) (ps : List Processor) (m : Memory) → (fold (λ m p. write_back_of n m p.lines) m ps).windows ≡ m.windows
read_windows n [] m = refl
read_windows n (p ∷ ps) m = read_windows n ps (write_back_of n m p.lines) ∙ of_windows n m p.lines

empty_windows : (bs : List CacheLine) (s : System) → (fold empty_buffer s bs).memory.windows ≡ s.memory.windows
empty_windows [] s = refl
empty_windows (b ∷ bs) s =
    empty_windows bs (empty_buffer s b)
    ∙ write_back_windows (invalidate b.number (bus_read b.number s)).memory b
    ∙ read_windows b.number s.processors s.memory

change_memory : (f : Processor → Processor) (k : ℕ) (s : System) → (change f k s).memory ≡ s.memory
change_memory f k s = one (slice_get s.processors k)
  where
    one : (v : Option Processor) → (option_map_or (λ p. record s { processors = set s.processors k (f p) }) v s).memory ≡ s.memory
    one None = refl
    one (Some p) = refl

pub emptied_windows : (ks : List ℕ) (s : System) → (emptied s ks).memory.windows ≡ s.memory.windows
emptied_windows [] s = refl
emptied_windows (k ∷ ks) s =
    emptied_windows ks (drain k s)
    ∙ ap (λ (m : Memory). m.windows) (change_memory (with_buffers (λ _. [])) k (fold empty_buffer s (buffers_of s k)))
    ∙ empty_windows (buffers_of s k) s

-- what an update leaves of a processor goes by its view
settled_view : RegisterFile → View → Processor
settled_view goal v = record {
  file = goal;
  cache_disabled = false;
  page_global = v.1;
  remembered_global = false;
  mappings = v.0;
  lines = [];
  buffers = [];
  entries = [];
  phase = Running;
  era = v.2 + 1;
  self_snoop = v.3;
}

settled_by_view : (goal : RegisterFile) (ps : List Processor) → map (settled_processor goal) ps ≡ map (settled_view goal) (map view ps)
unfolding settled_view
settled_by_view goal [] = refl
settled_by_view goal (p ∷ ps) = ap (λ qs. settled_processor goal p ∷ qs) (settled_by_view goal ps)

settled_alike : (goal : RegisterFile) (ps qs : List Processor) → map view ps ≡ map view qs → map (settled_processor goal) ps ≡ map (settled_processor goal) qs
settled_alike goal ps qs same = settled_by_view goal ps ∙ ap (map (settled_view goal)) same ∙ sym (settled_by_view goal qs)

view_taken : (ps : List Processor) → map view (map taken_one ps) ≡ map view ps
view_taken [] = refl
view_taken (p ∷ ps) = ap (λ vs. view p ∷ vs) (view_taken ps)

erased_taken : (ps : List Processor) → map erased (map taken_one ps) ≡ map erased ps
erased_taken [] = refl
erased_taken (p ∷ ps) = ap (λ qs. erased p ∷ qs) (erased_taken ps)

now_taken_too : (s : System) (a : ℕ) → now (all_taken s) a ≡ now s a
now_taken_too s a = sym (now_erased a (all_taken s)) ∙ (λ i. now (record { processors = erased_taken s.processors i; memory = s.memory }) a) ∙ now_erased a s

pub updated_from_broadcast : UpdatedFromBroadcast
updated_from_broadcast s ks goal =
    let t : System = emptied s ks in
    let windows : t.memory.windows ≡ s.memory.windows = emptied_windows ks s in
    let plain : map (settled_processor goal) t.processors ≡ map (settled_processor goal) s.processors = settled_alike goal t.processors s.processors (emptied_views ks s) in
    let taken : map (settled_processor goal) (all_taken t).processors ≡ map (settled_processor goal) s.processors =
    settled_alike goal (all_taken t).processors s.processors (view_taken t.processors ∙ emptied_views ks s) in
    record {
      from_emptied = λ i. record {
        system = record { processors = plain i; memory = record { windows = windows i; words = map (now t) (addresses (windows i)) } };
        order = None;
      };
      from_taken = λ i. record {
        system = record { processors = taken i; memory = record { windows = windows i; words = map (λ a. now_taken_too t a i) (addresses (windows i)) } };
        order = None;
      };
    }
