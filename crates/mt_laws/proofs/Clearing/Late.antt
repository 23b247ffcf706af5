-- From a release on, up to the next call, all that is held has the new era.
use Rattle.std.proofs.Common.{◌≡◌, ◌⊎◌, ℕ, zero, suc, ◌+◌, ◌≤◌, List, [], ◌∷◌, set, Some, None, Option, Bool, true, false, refl, sym, ap, subst, ◌∙◌, arith, inl, inr, ⊎_elim, eq-eqb}
use Rattle.std.specs.Prelude.{slice_get, if◌then◌else◌, nat_lt, ◌==◌, not}
use Rattle.std.specs.List.{list_all, All}
use Rattle.std.specs.Option.{option_map_or}
use Rattle.std.proofs.lemmas.Bool.{ltb-true, lt-ltb, le-ltb, eqb-true}
use Rattle.std.proofs.lemmas.List.Sums.{AllPass-from_list_all, list_all-from_AllPass}
use Rattle.mt_cache.specs.declared.line.CacheLine.{CacheLine}
use Rattle.mt_tlb.specs.declared.entry.Entry.{Entry}
use Rattle.mt_machine.specs.declared.phase.Phase.{Phase}
use Rattle.mt_machine.specs.declared.phase.Phase.TheVariants.{Running, Taken, Arrived, Arrived2}
use Rattle.mt_machine.specs.declared.event.Event.{Event}
use Rattle.mt_machine.specs.declared.event.Event.TheVariants.{Release}
use Rattle.mt_machine.specs.declared.go.Go.TheVariants.{Pending}
use Rattle.mt_machine.specs.System.{Processor, System, IsProcessor}
use Rattle.mt_machine.specs.Access.{is_running}
use Rattle.mt_machine.specs.Machine.{Machine, Order, MachineEvent, Accesses, Controls, Calls, Goes, Cancels, Steps, IsEnabled, next, Reached, at_start, after, run, AreEnabled, due, own_step, step, is_over, remaining_order, is_given, has_released}
use Rattle.mt_machine.specs.Update.{is_call}
use Rattle.mt_machine.specs.Start.{IsQuiet, IsBroadcast, IsStart}
use Rattle.mt_laws.specs.Barriers.{IsAt}
use Rattle.mt_laws.proofs.Barrier.Stages.{Stage, stage_of, stages_of, stages, access_stages, control_stages}
use Rattle.mt_laws.proofs.Barrier.Ranks.{rank, rank_of, is_ahead, At, Guarded, not_both, stage_at, and_left, and_right}
use Rattle.mt_laws.proofs.Barrier.Barriers.{Kept, Invariant, keeps, step_moves, step_stages, step_guarded}
use Rattle.mt_laws.proofs.Barrier.Claims.{quiet_invariant, start_invariant, all_get}
use Rattle.mt_laws.proofs.Clearing.Follows.{passes, passes_entries, IsLocal, FollowsIn, follows_access, follows_control}
use Rattle.mt_laws.proofs.Clearing.Cleared.{Clear, lines_gone, buffers_gone, entries_gone, none_passes}
use Rattle.mt_laws.proofs.Clearing.Renewed.{AllClear, clear_next, steps_clear, runs_at}

pub record OnlyNew (era : ℕ) (p : Processor) : Type 0 where
  pub lines : passes (λ x. x == era) p.lines ≡ true
  pub buffers : passes (λ x. x == era) p.buffers ≡ true
  pub entries : passes_entries (λ x. x == era) p.entries ≡ true
  pub running : is_running p.phase ≡ true → p.era ≡ era

abbrev pub Renewed : ℕ → List Processor → Type 0
Renewed era ps = (i : ℕ) (p : Processor) → slice_get ps i ≡ Some p → OnlyNew era p

renewed_follows : (era k : ℕ) (ps qs : List Processor) → option_map_or (λ (x : Processor). is_running x.phase) (slice_get ps k) false ≡ true → FollowsIn k ps qs → Renewed era ps → Renewed era qs
renewed_follows era k ps qs runs f new j q at =
    let from = f j q at in
    let p = from.0 in
    let n = new j p from.1 in
    let own : j ≡ k → (p.era == era) ≡ true = λ e. eq-eqb p.era era (n.running (runs_at ps k j p runs from.1 e)) in
    record {
      lines = from.2.lines (λ x. x == era) own n.lines;
      buffers = from.2.buffers (λ x. x == era) own n.buffers;
      entries = from.2.entries (λ x. x == era) own n.entries;
      running = λ h. from.2.era ∙ n.running (ap is_running (sym from.2.phase) ∙ h);
    }

abbrev pub SomeAhead : Order → List Stage → Type 0
SomeAhead o vs = (i : ℕ) × (x : Stage) × At vs i x × (5 ≤ rank o x)

pub late : (ph : Phase) (ahead : Bool) → 4 ≤ rank_of ph ahead → ((is_running ph ≡ true) × (ahead ≡ true)) ⊎ ((lines_gone ph ≡ true) × (buffers_gone ph ≡ true) × (entries_gone ph ≡ true) × (is_running ph ≡ false))
late Running true h = inl (refl, refl)
late Running false h = absurd (omega arith)
late Taken ahead h = absurd (omega arith)
late Arrived ahead h = absurd (omega arith)
late Arrived2 ahead h = inr (refl, refl, refl, refl)
late other ahead h = absurd (omega arith)

-- where some processor has released, each holds only what is new
pub renewed : (o : Order) (ps : List Processor) → Guarded o (stages_of ps) → AllClear (Some o) ps → SomeAhead o (stages_of ps) → Renewed (o.from_era + 1) ps
renewed o ps g clear some j p at =
    let here = stage_at ps j p at in
    let c = clear j p at in
    let fourth : 4 ≤ rank o (stage_of p) = g.second some.0 j some.1 (stage_of p) some.2 here some.3 in
    ⊎_elim
    (λ (l : (is_running p.phase ≡ true) × (is_ahead o (stage_of p) ≡ true)). let above = ltb-true o.from_era p.era l.1 in
    let r : OnlyNew (o.from_era + 1) p = record {
      lines = c.new_lines l.1;
      buffers = c.new_buffers l.1;
      entries = c.new_entries l.1;
      running = λ h. ⊎_elim (λ (e : p.era ≡ o.from_era). absurd (omega arith)) (λ (e : p.era ≡ o.from_era + 1). e) (g.eras j (stage_of p) here);
    } in r)
    (λ (l : (lines_gone p.phase ≡ true) × (buffers_gone p.phase ≡ true) × (entries_gone p.phase ≡ true) × (is_running p.phase ≡ false)).
    let r : OnlyNew (o.from_era + 1) p = record {
      lines = none_passes (λ (x : CacheLine). x.era == o.from_era + 1) p.lines (c.no_lines l.0);
      buffers = none_passes (λ (x : CacheLine). x.era == o.from_era + 1) p.buffers (c.no_buffers l.1);
      entries = none_passes (λ (x : Entry). x.era == o.from_era + 1) p.entries (c.no_entries l.2);
      running = λ h. absurd (let q = l.3 in cc);
    } in r)
    (late p.phase (is_ahead o (stage_of p)) fourth)

-- ---- a release stands

pub set_at : (vs : List Stage) (i k : ℕ) (x y z : Stage) → At vs i x → At vs k z → At (set vs k y) i x ⊎ ((i ≡ k) × At (set vs k y) i y)
set_at [] i k x y z at_i at_k = absurd (cc)
set_at (v ∷ vs) zero zero x y z at_i at_k = inr (refl, refl)
set_at (v ∷ vs) zero (suc k) x y z at_i at_k = inl at_i
set_at (v ∷ vs) (suc i) zero x y z at_i at_k = inl at_i
set_at (v ∷ vs) (suc i) (suc k) x y z at_i at_k =
    ⊎_elim (λ (h : At (set vs k y) i x). inl h) (λ (h : (i ≡ k) × At (set vs k y) i y). inr (ap suc h.0, h.1)) (set_at vs i k x y z at_i at_k)

pub set_same : (vs : List Stage) (k : ℕ) (y z : Stage) → At vs k z → At (set vs k y) k y
set_same [] k y z h = absurd (cc)
set_same (v ∷ vs) zero y z h = refl
set_same (v ∷ vs) (suc k) y z h = set_same vs k y z h

pub at_same : (vs : List Stage) (i : ℕ) (x y : Stage) → At vs i x → At vs i y → x ≡ y
at_same vs i x y a b = let e : Some x ≡ Some y = sym a ∙ b in cc

pub still_ahead : (o : Order) (e : Event) (k : ℕ) (s : System) (p : Processor) → slice_get s.processors k ≡ Some p → due o s.processors p p.phase ≡ Some e → Guarded o (stages s) → SomeAhead o (stages s) → SomeAhead o (stages (step o.goal e k s))
still_ahead o e k s p at h g some =
    let here : At (stages s) k (stage_of p) = stage_at s.processors k p at in
    let y : Stage = stage_of (own_step o.goal e p) in
    let move = step_moves o s.processors p (g.eras k (stage_of p) here) p.phase e refl h (g.in_step k (stage_of p) here) in
    subst (SomeAhead o) (sym (step_stages o.goal e k s p at))
    (⊎_elim
    (λ (was : At (set (stages s) k y) some.0 some.1). let r : SomeAhead o (set (stages s) k y) = (some.0, some.1, was, some.3) in r)
    (λ (moved : (some.0 ≡ k) × At (set (stages s) k y) some.0 y).
    let same : some.1 ≡ stage_of p = at_same (stages s) k some.1 (stage_of p) (subst (λ (j : ℕ). At (stages s) j some.1) moved.0 some.2) here in
    let high : 5 ≤ rank o (stage_of p) = subst (λ (v : Stage). 5 ≤ rank o v) same some.3 in
    let given : is_given o.go ≡ true = g.given k (stage_of p) here (omega arith) in
    let up : 5 ≤ rank o y = ⊎_elim (λ (u : rank o (stage_of p) ≤ rank o y). omega arith) (λ u. absurd (not_both o.go given u)) move.up in
    let r : SomeAhead o (set (stages s) k y) = (some.0, y, moved.1, up) in r)
    (set_at (stages s) some.0 k some.1 y (stage_of p) some.2 here))

-- ---- all that comes after

abbrev pub OrderLate : ℕ → Option Order → System → Type 0
OrderLate era None s = Unit {0}
OrderLate era (Some o) s = (o.from_era + 1 ≡ era) × SomeAhead o (stages s)

pub record Late (era : ℕ) (m : Machine) : Type 0 where
  pub all : Renewed era m.system.processors
  pub order : OrderLate era m.order m.system

pub late_still : (era : ℕ) (o : Order) (s : System) → o.from_era + 1 ≡ era → Guarded o (stages s) → AllClear (Some o) s.processors → SomeAhead o (stages s) → Late era (record { system = s; order = remaining_order o s.processors })
late_still era o s is g clear some =
    record { all = subst (λ (n : ℕ). Renewed n s.processors) is (renewed o s.processors g clear some); order = one (is_over o s.processors) }
  where
    one : (b : Bool) → OrderLate era (if b then None else Some o) s
    one true = tt
    one false = (is, some)

-- once some processor has released, go was given
pub pending_late : (o : Order) (s : System) → Some o.go ≡ Some Pending → Guarded o (stages s) → SomeAhead o (stages s) → ⊥
pending_late o s pending g some =
    let h : 5 ≤ rank o some.1 = some.3 in
    let given : is_given o.go ≡ true = g.given some.0 some.1 some.2 (omega arith) in
    let is : o.go ≡ Pending = cc in
    let off : is_given o.go ≡ false = ap is_given is in
    cc

pub late_next : (era : ℕ) (e : MachineEvent) (s : System) (o : Option Order) → IsEnabled (record { system = s; order = o }) e → not (is_call e) ≡ true → Kept o (stages s) → AllClear o s.processors → Late era (record { system = s; order = o }) → Late era (next (record { system = s; order = o }) e)
late_next era (Accesses k op) s o enabled quiet inv clear l = record { all = renewed_follows era k s.processors _ enabled.0 (follows_access s k op) l.all; order = late_order o (sym (access_stages s k op)) l.order }
  where
    late_order : (o : Option Order) → stages s ≡ stages (next (record { system = s; order = o }) (Accesses k op)).system → OrderLate era o s → OrderLate era o (next (record { system = s; order = o }) (Accesses k op)).system
    late_order None same h = tt
    late_order (Some o) same h = (h.0, subst (SomeAhead o) same h.1)
late_next era (Controls k c) s o enabled quiet inv clear l = record { all = renewed_follows era k s.processors _ enabled.0 (follows_control s k c) l.all; order = late_order o (sym (control_stages s k c)) l.order }
  where
    late_order : (o : Option Order) → stages s ≡ stages (next (record { system = s; order = o }) (Controls k c)).system → OrderLate era o s → OrderLate era o (next (record { system = s; order = o }) (Controls k c)).system
    late_order None same h = tt
    late_order (Some o) same h = (h.0, subst (SomeAhead o) same h.1)
late_next era (Calls goal) s o enabled quiet inv clear l = absurd (cc)
late_next era Goes s None enabled quiet inv clear l = absurd (cc)
late_next era Goes s (Some o) enabled quiet inv clear l = absurd (pending_late o s enabled inv l.order.1)
late_next era Cancels s None enabled quiet inv clear l = absurd (cc)
late_next era Cancels s (Some o) enabled quiet inv clear l = absurd (pending_late o s enabled inv l.order.1)
late_next era (Steps k e) s None enabled quiet inv clear l = absurd (cc)
late_next era (Steps k e) s (Some o) enabled quiet inv clear l = at_processor (slice_get s.processors k) refl enabled
  where
    at_processor : (q : Option Processor) → slice_get s.processors k ≡ q → option_map_or (λ p. due o s.processors p p.phase) q None ≡ Some e → Late era (record { system = step o.goal e k s; order = remaining_order o (step o.goal e k s).processors })
    at_processor None at h = absurd (cc)
    at_processor (Some p) at h =
        late_still era o (step o.goal e k s) l.order.0 (step_guarded o e k s p at h inv) (steps_clear o s k p at inv clear p.phase e refl h) (still_ahead o e k s p at h inv l.order.1)

-- ---- runs

abbrev pub IsKept : Machine → Type 0
IsKept m = Invariant m × AllClear m.order m.system.processors

pub kept_next : (m : Machine) (e : MachineEvent) → IsEnabled m e → IsKept m → IsKept (next m e)
kept_next m e enabled h = (keeps m e enabled h.0, clear_next e m.system m.order enabled h.0 h.1)

pub reached_kept : {s t : Machine} → Reached s t → IsKept s → IsKept t
reached_kept at_start h = h
reached_kept (after e r enabled) h = kept_next _ e enabled (reached_kept r h)

pub late_run : (era : ℕ) (m : Machine) (es : List MachineEvent) → IsKept m → Late era m → AreEnabled m es → list_all (λ e. not (is_call e)) es ≡ true → Renewed era (run m es).system.processors
late_run era m [] kept l enabled quiet = l.all
late_run era m (e ∷ es) kept l enabled quiet =
    late_run era (next m e) es (kept_next m e enabled.0 kept)
    (late_next era e m.system m.order enabled.0 (and_left _ _ quiet) kept.0 kept.1 l)
    enabled.1
    (and_right (not (is_call e)) _ quiet)

-- ---- the start

entries_local : (es : List Entry) → All (λ (e : Entry). e.global ≡ false) es → list_all (λ (e : Entry). not e.global) es ≡ true
entries_local es all = list_all-from_AllPass (λ (e : Entry). not e.global) es (λ k d within. ap not (all k d within))

pub quiet_kept : (m : Machine) → IsQuiet m → IsKept m
quiet_kept m q = (quiet_invariant m q, subst (λ (o : Option Order). AllClear o m.system.processors) (sym q.no_order) local)
  where
    local : (i : ℕ) (p : Processor) → slice_get m.system.processors i ≡ Some p → IsLocal p
    local i p at off = entries_local p.entries ((all_get IsProcessor m.system.processors q.sound.each i p at).local_entries off)

broadcast_kept : (m : Machine) (o : Order) → IsBroadcast m o → IsKept m
broadcast_kept m o b = (start_invariant m (inr (o, b)), subst (λ (x : Option Order). AllClear x m.system.processors) (sym b.order) clear)
  where
    clear : (i : ℕ) (p : Processor) → slice_get m.system.processors i ≡ Some p → Clear o p
    clear i p at =
        let phase = all_get (λ p. p.phase ≡ Taken) m.system.processors b.taken i p at in
        let era = all_get (λ p. p.era ≡ o.from_era) m.system.processors b.one_era i p at in
        let behind : has_released o p ≡ false = ap (nat_lt o.from_era) era ∙ le-ltb o.from_era o.from_era (omega arith) in
        record {
          no_lines = λ h. absurd (let e : lines_gone p.phase ≡ false = ap lines_gone phase in cc);
          no_buffers = λ h. all_get (λ p. p.buffers ≡ []) m.system.processors b.no_buffers i p at;
          no_entries = λ h. absurd (let e : entries_gone p.phase ≡ false = ap entries_gone phase in cc);
          new_lines = λ h. absurd (cc);
          new_buffers = λ h. absurd (cc);
          new_entries = λ h. absurd (cc);
          local = λ off. entries_local p.entries ((all_get IsProcessor m.system.processors b.sound.each i p at).local_entries off);
        }

pub start_kept : (m : Machine) → IsStart m → IsKept m
start_kept m s = ⊎_elim (λ (q : IsQuiet m). quiet_kept m q) (λ (b : (o : Order) × IsBroadcast m o). broadcast_kept m b.0 b.1) s

-- ---- the first release, and any later one

pub is_released : (o : Order) (k : ℕ) (s : System) (p : Processor) → slice_get s.processors k ≡ Some p → due o s.processors p p.phase ≡ Some Release → Guarded o (stages s) → SomeAhead o (stages (step o.goal Release k s))
is_released o k s p at h g =
    let here : At (stages s) k (stage_of p) = stage_at s.processors k p at in
    let y : Stage = (Running, p.era + 1) in
    let above : nat_lt o.from_era (p.era + 1) ≡ true =
    ⊎_elim (λ (e : p.era ≡ o.from_era). lt-ltb o.from_era (p.era + 1) (omega arith)) (λ (e : p.era ≡ o.from_era + 1). lt-ltb o.from_era (p.era + 1) (omega arith)) (g.eras k (stage_of p) here) in
    let fifth : rank o y ≡ 5 = ap (rank_of Running) above in
    subst (SomeAhead o) (sym (step_stages o.goal Release k s p at))
    (⊎_elim
    (λ (w : At (set (stages s) k y) k (stage_of p)). let same : stage_of p ≡ y = at_same (set (stages s) k y) k (stage_of p) y w (put_same (stages s) k (stage_of p) y here) in
    let r : SomeAhead o (set (stages s) k y) = (k, y, subst (λ (v : Stage). At (set (stages s) k y) k v) same w, omega arith) in r)
    (λ (w : (k ≡ k) × At (set (stages s) k y) k y). let r : SomeAhead o (set (stages s) k y) = (k, y, w.1, omega arith) in r)
    (set_at (stages s) k k (stage_of p) y (stage_of p) here here))
  where
    put_same : (vs : List Stage) (j : ℕ) (x y : Stage) → At vs j x → At (set vs j y) j y
    put_same [] j x y h = absurd (cc)
    put_same (v ∷ vs) zero x y h = refl
    put_same (v ∷ vs) (suc j) x y h = put_same vs j x y h

pub release_late : (s : System) (o : Order) (k : ℕ) → IsKept (record { system = s; order = Some o }) → IsEnabled (record { system = s; order = Some o }) (Steps k Release) → Late (o.from_era + 1) (next (record { system = s; order = Some o }) (Steps k Release))
release_late s o k kept enabled = at_processor (slice_get s.processors k) refl enabled
  where
    at_processor : (q : Option Processor) → slice_get s.processors k ≡ q → option_map_or (λ p. due o s.processors p p.phase) q None ≡ Some Release → Late (o.from_era + 1) (record { system = step o.goal Release k s; order = remaining_order o (step o.goal Release k s).processors })
    at_processor None at h = absurd (cc)
    at_processor (Some p) at h =
        late_still (o.from_era + 1) o (step o.goal Release k s) refl (step_guarded o Release k s p at h kept.0) (steps_clear o s k p at kept.0 kept.1 p.phase Release refl h) (is_released o k s p at h kept.0)

pub all_lines : (era : ℕ) (ls : List CacheLine) → passes (λ x. x == era) ls ≡ true → All (λ (l : CacheLine). l.era ≡ era) ls
all_lines era ls h k d within = eqb-true _ era (AllPass-from_list_all (λ (l : CacheLine). l.era == era) ls h k d within)

pub all_entries : (era : ℕ) (es : List Entry) → passes_entries (λ x. x == era) es ≡ true → All (λ (e : Entry). e.era ≡ era) es
all_entries era es h k d within = eqb-true _ era (AllPass-from_list_all (λ (e : Entry). e.era == era) es h k d within)

pub record HoldsOnly (era : ℕ) (p : Processor) : Type 0 where
  pub lines : All (λ l. l.era ≡ era) p.lines
  pub buffers : All (λ l. l.era ≡ era) p.buffers
  pub entries : All (λ e. e.era ≡ era) p.entries

abbrev NothingOlderAfterRelease : Type 0
NothingOlderAfterRelease =
    (s m : Machine) (o : Order) (k : ℕ) (since : List MachineEvent) → IsStart s → Reached s m → m.order ≡ Some o
    → IsEnabled m (Steps k Release) → AreEnabled (next m (Steps k Release)) since → list_all (λ e. not (is_call e)) since ≡ true
    → (i : ℕ) (p : Processor) → IsAt (run (next m (Steps k Release)) since) i p → HoldsOnly (o.from_era + 1) p

pub nothing_older_in : (m : Machine) (o : Order) (k : ℕ) (since : List MachineEvent) (x : Option Order) → m.order ≡ x → x ≡ Some o → IsKept (record { system = m.system; order = x }) → IsEnabled (record { system = m.system; order = x }) (Steps k Release)
    → AreEnabled (next (record { system = m.system; order = x }) (Steps k Release)) since → list_all (λ e. not (is_call e)) since ≡ true
    → (i : ℕ) (p : Processor) → IsAt (run (next (record { system = m.system; order = x }) (Steps k Release)) since) i p → HoldsOnly (o.from_era + 1) p
nothing_older_in m o k since None is same kept enabled more quiet i p at = absurd (cc)
nothing_older_in m o k since (Some o') is same kept enabled more quiet i p at =
    let orders : o' ≡ o = cc in
    let era : o'.from_era + 1 ≡ o.from_era + 1 = ap (λ (v : Order). v.from_era + 1) orders in
    let new = late_run (o'.from_era + 1) (next (record { system = m.system; order = Some o' }) (Steps k Release)) since (kept_next (record { system = m.system; order = Some o' }) (Steps k Release) enabled kept) (release_late m.system o' k kept enabled) more quiet i p at in
    subst (λ (n : ℕ). HoldsOnly n p) era
    (record { lines = all_lines _ p.lines new.lines; buffers = all_lines _ p.buffers new.buffers; entries = all_entries _ p.entries new.entries })

pub nothing_older : NothingOlderAfterRelease
nothing_older s m o k since q r is enabled more quiet i p at =
    nothing_older_in m o k since m.order refl is (reached_kept r (start_kept s q)) enabled more quiet i p at
