-- From a release on, up to the next call, all is settled.
use Rattle.std.proofs.Common.{◌≡◌, ◌⊎◌, ℕ, ◌+◌, ◌≤◌, List, [], ◌∷◌, get_or, Some, None, Option, Bool, true, false, refl, sym, ap, subst, ◌∙◌, arith, inl, inr, ⊎_elim}
use Rattle.std.specs.Prelude.{slice_get, if◌then◌else◌, nat_lt, not}
use Rattle.std.specs.List.{list_all}
use Rattle.std.specs.Option.{option_map_or}
use Rattle.std.proofs.lemmas.Bool.{le-ltb}
use Rattle.std.proofs.lemmas.Option.{slice_get-get_or}
use Rattle.mt_machine.proofs.Files.{alike_files}
use Rattle.mt_regs.specs.RegisterFile.{RegisterFile}
use Rattle.mt_machine.specs.declared.phase.Phase.{Phase}
use Rattle.mt_machine.specs.declared.phase.Phase.TheVariants.{Running, Taken, Arrived, Arrived2}
use Rattle.mt_machine.specs.declared.event.Event.TheVariants.{Release}
use Rattle.mt_machine.specs.System.{Processor, System, IsProcessor, is_writing}
use Rattle.mt_machine.specs.Machine.{Machine, Order, MachineEvent, Accesses, Controls, Calls, Goes, Cancels, Steps, IsEnabled, next, Reached, at_start, after, run, AreEnabled, due, step, is_over, remaining_order, FitsGoal}
use Rattle.mt_machine.specs.Update.{is_call}
use Rattle.mt_machine.specs.Start.{IsQuiet, IsBroadcast, IsStart}
use Rattle.mt_laws.specs.Barriers.{IsAt}
use Rattle.mt_laws.specs.Settled.{SettledAfterEachRelease}
use Rattle.mt_laws.proofs.Barrier.Stages.{stage_of, stages_of, stages}
use Rattle.mt_laws.proofs.Barrier.Ranks.{rank, rank_of, is_ahead, Guarded, stage_at, and_left, and_right}
use Rattle.mt_laws.proofs.Barrier.Barriers.{Kept, step_guarded}
use Rattle.mt_laws.proofs.Barrier.Claims.{all_get}
use Rattle.mt_laws.proofs.Clearing.Follows.{FollowsIn, follows_access, follows_control}
use Rattle.mt_laws.proofs.Clearing.Late.{SomeAhead, Late, IsKept, kept_next, reached_kept, late_next, still_ahead, pending_late, start_kept, is_released, release_late, nothing_older}
use Rattle.mt_laws.proofs.Registers.Filed.{is_done, FiledAt, AllFiled, filed_next, filed_steps}

abbrev pub AllAre : RegisterFile → List Processor → Type 0
AllAre goal ps = (i : ℕ) (p : Processor) → slice_get ps i ≡ Some p → p.file ≡ goal

done_or_ahead : (ph : Phase) (ahead : Bool) → 4 ≤ rank_of ph ahead → (ahead ≡ true) ⊎ (is_done ph ≡ true)
done_or_ahead Running true h = inl refl
done_or_ahead Running false h = absurd (omega arith)
done_or_ahead Taken ahead h = absurd (omega arith)
done_or_ahead Arrived ahead h = absurd (omega arith)
done_or_ahead Arrived2 ahead h = inr refl
done_or_ahead other ahead h = absurd (omega arith)

-- where some processor has released, each file is the goal
goal_reached : (o : Order) (ps : List Processor) → Guarded o (stages_of ps) → AllFiled (Some o) ps → SomeAhead o (stages_of ps) → AllAre o.goal ps
goal_reached o ps g all some j p at =
    let here = stage_at ps j p at in
    let fourth : 4 ≤ rank o (stage_of p) = g.second some.0 j some.1 (stage_of p) some.2 here some.3 in
    ⊎_elim
    (λ (h : is_ahead o (stage_of p) ≡ true). (all.1 j p at).released h)
    (λ (h : is_done p.phase ≡ true). (all.1 j p at).done h)
    (done_or_ahead p.phase (is_ahead o (stage_of p)) fourth)

abbrev pub OrderHas : RegisterFile → Option Order → Type 0
OrderHas goal None = Unit {0}
OrderHas goal (Some o) = o.goal ≡ goal

pub record Settling (goal : RegisterFile) (m : Machine) : Type 0 where
  pub files : AllAre goal m.system.processors
  pub order : OrderHas goal m.order

settling_still : (goal : RegisterFile) (o : Order) (s : System) → o.goal ≡ goal → Guarded o (stages s) → AllFiled (Some o) s.processors → SomeAhead o (stages s) → Settling goal (record { system = s; order = remaining_order o s.processors })
settling_still goal o s is g all some =
    record { files = subst (λ (f : RegisterFile). AllAre f s.processors) is (goal_reached o s.processors g all some); order = one (is_over o s.processors) }
  where
    one : (b : Bool) → OrderHas goal (if b then None else Some o)
    one true = tt
    one false = is

are_follows : (goal : RegisterFile) (k : ℕ) (ps qs : List Processor) → FollowsIn k ps qs → AllAre goal ps → AllAre goal qs
are_follows goal k ps qs f all j q at = let from = f j q at in from.2.file ∙ all j from.0 from.1

pub settling_next : (era : ℕ) (goal : RegisterFile) (e : MachineEvent) (s : System) (o : Option Order) → IsEnabled (record { system = s; order = o }) e → not (is_call e) ≡ true → Kept o (stages s) → AllFiled o s.processors → Late era (record { system = s; order = o }) → Settling goal (record { system = s; order = o }) → Settling goal (next (record { system = s; order = o }) e)
settling_next era goal (Accesses k op) s o enabled quiet inv all l t = record { files = are_follows goal k s.processors _ (follows_access s k op) t.files; order = t.order }
settling_next era goal (Controls k c) s o enabled quiet inv all l t = record { files = are_follows goal k s.processors _ (follows_control s k c) t.files; order = t.order }
settling_next era goal (Calls new) s o enabled quiet inv all l t = absurd (cc)
settling_next era goal Goes s None enabled quiet inv all l t = absurd (cc)
settling_next era goal Goes s (Some o) enabled quiet inv all l t = absurd (pending_late o s enabled inv l.order.1)
settling_next era goal Cancels s None enabled quiet inv all l t = absurd (cc)
settling_next era goal Cancels s (Some o) enabled quiet inv all l t = absurd (pending_late o s enabled inv l.order.1)
settling_next era goal (Steps k e) s None enabled quiet inv all l t = absurd (cc)
settling_next era goal (Steps k e) s (Some o) enabled quiet inv all l t = at_processor (slice_get s.processors k) refl enabled
  where
    at_processor : (q : Option Processor) → slice_get s.processors k ≡ q → option_map_or (λ p. due o s.processors p p.phase) q None ≡ Some e → Settling goal (record { system = step o.goal e k s; order = remaining_order o (step o.goal e k s).processors })
    at_processor None at h = absurd (cc)
    at_processor (Some p) at h =
        settling_still goal o (step o.goal e k s) t.order (step_guarded o e k s p at h inv) (filed_steps o e k s p at h inv all) (still_ahead o e k s p at h inv l.order.1)

settling_run : (era : ℕ) (goal : RegisterFile) (m : Machine) (es : List MachineEvent) → IsKept m → AllFiled m.order m.system.processors → Late era m → Settling goal m → AreEnabled m es → list_all (λ e. not (is_call e)) es ≡ true → AllAre goal (run m es).system.processors
settling_run era goal m [] kept all l t enabled quiet = t.files
settling_run era goal m (e ∷ es) kept all l t enabled quiet =
    settling_run era goal (next m e) es (kept_next m e enabled.0 kept)
    (filed_next e m.system m.order enabled.0 kept.0 all)
    (late_next era e m.system m.order enabled.0 (and_left _ _ quiet) kept.0 kept.1 l)
    (settling_next era goal e m.system m.order enabled.0 (and_left _ _ quiet) kept.0 all l t)
    enabled.1
    (and_right (not (is_call e)) _ quiet)

-- ---- the start and the first release

quiet_filed : (m : Machine) → IsQuiet m → AllFiled m.order m.system.processors
quiet_filed m q = subst (λ (o : Option Order). AllFiled o m.system.processors) (sym q.no_order) (λ i p at. (all_get IsProcessor m.system.processors q.sound.each i p at).register_file)

broadcast_filed : (m : Machine) (o : Order) → IsBroadcast m o → AllFiled m.order m.system.processors
broadcast_filed m o b = subst (λ (x : Option Order). AllFiled x m.system.processors) (sym b.order) (b.goal_file, filed)
  where
    filed : (i : ℕ) (p : Processor) → slice_get m.system.processors i ≡ Some p → FiledAt o p
    filed i p at =
        let phase = all_get (λ p. p.phase ≡ Taken) m.system.processors b.taken i p at in
        let era = all_get (λ p. p.era ≡ o.from_era) m.system.processors b.one_era i p at in
        let fit = all_get (FitsGoal o.goal) m.system.processors b.fits i p at in
        record {
          alike = alike_files o.goal p.file b.goal_file (all_get IsProcessor m.system.processors b.sound.each i p at).register_file (sym fit.width) (sym fit.capabilities);
          writing = λ j h. absurd (let e : is_writing p.phase ≡ None = ap is_writing phase in cc);
          done = λ h. absurd (let e : is_done p.phase ≡ false = ap is_done phase in cc);
          released = λ h. absurd (let e : is_ahead o (stage_of p) ≡ false = ap (nat_lt o.from_era) era ∙ le-ltb o.from_era o.from_era (omega arith) in cc);
        }

pub start_filed : (m : Machine) → IsStart m → AllFiled m.order m.system.processors
start_filed m s = ⊎_elim (λ (q : IsQuiet m). quiet_filed m q) (λ (b : (o : Order) × IsBroadcast m o). broadcast_filed m b.0 b.1) s

pub reached_filed : {s t : Machine} → Reached s t → IsKept s → AllFiled s.order s.system.processors → AllFiled t.order t.system.processors
reached_filed at_start kept all = all
reached_filed (after e r enabled) kept all = filed_next e _ _ enabled (reached_kept r kept).0 (reached_filed r kept all)

pub release_settling : (s : System) (o : Order) (k : ℕ) → IsKept (record { system = s; order = Some o }) → AllFiled (Some o) s.processors → IsEnabled (record { system = s; order = Some o }) (Steps k Release) → Settling o.goal (next (record { system = s; order = Some o }) (Steps k Release))
release_settling s o k kept all enabled = at_processor (slice_get s.processors k) refl enabled
  where
    at_processor : (q : Option Processor) → slice_get s.processors k ≡ q → option_map_or (λ p. due o s.processors p p.phase) q None ≡ Some Release → Settling o.goal (record { system = step o.goal Release k s; order = remaining_order o (step o.goal Release k s).processors })
    at_processor None at h = absurd (cc)
    at_processor (Some p) at h =
        settling_still o.goal o (step o.goal Release k s) refl (step_guarded o Release k s p at h kept.0) (filed_steps o Release k s p at h kept.0 all) (is_released o k s p at h kept.0)

pub files_in : (m : Machine) (o : Order) (k : ℕ) (since : List MachineEvent) (x : Option Order) → x ≡ Some o → IsKept (record { system = m.system; order = x }) → AllFiled x m.system.processors → IsEnabled (record { system = m.system; order = x }) (Steps k Release)
    → AreEnabled (next (record { system = m.system; order = x }) (Steps k Release)) since → list_all (λ e. not (is_call e)) since ≡ true
    → AllAre o.goal (run (next (record { system = m.system; order = x }) (Steps k Release)) since).system.processors
files_in m o k since None same kept all enabled more quiet = absurd (cc)
files_in m o k since (Some o') same kept all enabled more quiet =
    let orders : o' ≡ o = cc in
    let at : Machine = record { system = m.system; order = Some o' } in
    subst (λ (v : Order). AllAre v.goal (run (next at (Steps k Release)) since).system.processors) orders
    (settling_run (o'.from_era + 1) o'.goal (next at (Steps k Release)) since
    (kept_next at (Steps k Release) enabled kept)
    (filed_next (Steps k Release) m.system (Some o') enabled kept.0 all)
    (release_late m.system o' k kept enabled)
    (release_settling m.system o' k kept all enabled)
    more quiet)

pub settled : SettledAfterEachRelease
settled s m o k since q r is enabled more quiet =
    λ i d within.
    let ps = (run (next m (Steps k Release)) since).system.processors in
    let p = get_or (run (next m (Steps k Release)) since).system.processors i d in
    let at : IsAt (run (next m (Steps k Release)) since) i p = slice_get-get_or (run (next m (Steps k Release)) since).system.processors i d within in
    let held = nothing_older s m o k since q r is enabled more quiet i p at in
    record {
      file = files_in m o k since m.order is (reached_kept r (start_kept s q)) (reached_filed r (start_kept s q) (start_filed s q)) enabled more quiet i p at;
      lines = held.lines;
      buffers = held.buffers;
      entries = held.entries;
    }
