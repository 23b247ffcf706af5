-- Nothing that a processor holds is of an earlier era than its own.
use Rattle.std.proofs.Common.{◌≡◌, ◌≢◌, ◌≤◌, ◌+◌, ◌/◌, ℕ, List, [], Some, None, Option, Bool, true, false, refl, sym, ap, subst, ◌∙◌, arith, ⊎_elim}
use Rattle.std.specs.Prelude.{slice_get, if◌then◌else◌, nat_lt, not}
use Rattle.std.specs.Option.{option_map_or}
use Rattle.std.specs.List.{All}
use Rattle.std.proofs.lemmas.Bool.{le-ltb}
use Rattle.std.proofs.lemmas.Bool.Decides.{nat_tests}
use Rattle.std.proofs.lemmas.List.Sums.{AllPass-from_list_all, list_all-from_AllPass}
use Rattle.mt_cache.specs.declared.line.CacheLine.{CacheLine}
use Rattle.mt_cache.specs.Lines.{clean_word}
use Rattle.mt_tlb.specs.declared.entry.Entry.{Entry}
use Rattle.mt_regs.specs.RegisterFile.{RegisterFile}
use Rattle.mt_machine.specs.declared.phase.Phase.{Phase}
use Rattle.mt_machine.specs.declared.phase.Phase.TheVariants.{Flushed2, Arrived2}
use Rattle.mt_machine.specs.declared.event.Event.{Event}
use Rattle.mt_machine.specs.declared.event.Event.TheVariants.{Take, WriteBack, DropLines, FlushTlb, Release}
use Rattle.mt_machine.specs.Memory.{word_of}
use Rattle.mt_machine.specs.System.{Processor, System}
use Rattle.mt_machine.specs.Control.{reload_cr3}
use Rattle.mt_machine.specs.Machine.{Machine, Order, MachineEvent, Accesses, Controls, Calls, Goes, Cancels, Steps, IsEnabled, Reached, after, at_start, before_own, due, flush_tlb, next, own_step, step}
use Rattle.mt_machine.proofs.Rows.{due_row, is_row}
use Rattle.mt_laws.specs.Settled.{IsFresh, NothingIsStale, StartsFresh}
use Rattle.mt_laws.proofs.Barrier.Claims.{all_get, all_of}
use Rattle.mt_laws.proofs.Invariant.Starts.{each_start, nothing}
use Rattle.mt_laws.proofs.Clearing.Follows.{FollowsIn, Grows, all_filter, follows_access, follows_control, follows_drain, passes, passes_change, passes_entries}
use Rattle.mt_laws.proofs.Clearing.Cleared.{buffers_gone, entries_gone, lines_gone, none_passes}
use Rattle.mt_laws.proofs.Clearing.Renewed.{AllClear, at_change}
use Rattle.mt_laws.proofs.Clearing.Late.{IsKept, reached_kept, start_kept}

-- the era is no earlier than one's own
abbrev is_fresh : ℕ → ℕ → Bool
is_fresh own era = not (nat_lt era own)

record Fresh (p : Processor) : Type 0 where
  lines : passes (is_fresh p.era) p.lines ≡ true
  buffers : passes (is_fresh p.era) p.buffers ≡ true
  entries : passes_entries (is_fresh p.era) p.entries ≡ true

abbrev AllFresh : List Processor → Type 0
AllFresh ps = (i : ℕ) (p : Processor) → slice_get ps i ≡ Some p → Fresh p

-- ---- what is added has one's own era

own_is_fresh : (own : ℕ) → is_fresh own own ≡ true
own_is_fresh own = ap not (le-ltb own own (omega arith))

fresh_grows : (mine : Type 0) (p q : Processor) → Grows mine p q → Fresh p → Fresh q
fresh_grows mine p q g f =
    let era : p.era ≡ q.era = sym g.era in
    record {
      lines = subst (λ n. passes (is_fresh n) q.lines ≡ true) era (g.lines (is_fresh p.era) (λ m. own_is_fresh p.era) f.lines);
      buffers = subst (λ n. passes (is_fresh n) q.buffers ≡ true) era (g.buffers (is_fresh p.era) (λ m. own_is_fresh p.era) f.buffers);
      entries = subst (λ n. passes_entries (is_fresh n) q.entries ≡ true) era (g.entries (is_fresh p.era) (λ m. own_is_fresh p.era) f.entries);
    }

fresh_follows : (k : ℕ) (ps qs : List Processor) → FollowsIn k ps qs → AllFresh ps → AllFresh qs
fresh_follows k ps qs follows fresh j q at = let from = follows j q at in fresh_grows (j ≡ k) from.0 q from.2 (fresh j from.0 from.1)

before_fresh : (e : Event) (k : ℕ) (s : System) → AllFresh s.processors → AllFresh (before_own e k s).processors
before_fresh Take k s fresh = fresh_follows k _ _ (follows_drain k s) fresh
before_fresh other k s fresh = fresh

-- ---- a processor's own steps

flushed_fresh : (ph : Phase) (p : Processor) → Fresh p → Fresh (flush_tlb ph p)
flushed_fresh Flushed2 p f = record { lines = f.lines; buffers = f.buffers; entries = all_filter (λ (e : Entry). is_fresh p.era e.era) (λ (e : Entry). e.global) p.entries f.entries }
flushed_fresh other p f = one p.page_global
  where
    one : (b : Bool) → Fresh (if b then record p { remembered_global = true; page_global = false; entries = [] } else record (reload_cr3 p) { remembered_global = false })
    one true = record { lines = f.lines; buffers = f.buffers; entries = refl }
    one false = record { lines = f.lines; buffers = f.buffers; entries = all_filter (λ (e : Entry). is_fresh p.era e.era) (λ (e : Entry). e.global) p.entries f.entries }

abbrev HoldsNone : Processor → Type 0
HoldsNone p = (p.lines ≡ []) × (p.buffers ≡ []) × (p.entries ≡ [])

own_fresh : (goal : RegisterFile) (e : Event) (p : Processor) → (e ≡ Release → HoldsNone p) → Fresh p → Fresh (own_step goal e p)
own_fresh goal (WriteBack address value) p empty f =
    record { lines = passes_change (is_fresh p.era) (address / 64) (clean_word (word_of address)) (λ l. refl) p.lines f.lines; buffers = f.buffers; entries = f.entries }
own_fresh goal DropLines p empty f = record { lines = refl; buffers = f.buffers; entries = f.entries }
own_fresh goal FlushTlb p empty f = let g = flushed_fresh p.phase p f in record { lines = g.lines; buffers = g.buffers; entries = g.entries }
own_fresh goal Release p empty f =
    let none = empty refl in
    record {
      lines = none_passes (λ (l : CacheLine). is_fresh (p.era + 1) l.era) p.lines none.0;
      buffers = none_passes (λ (l : CacheLine). is_fresh (p.era + 1) l.era) p.buffers none.1;
      entries = none_passes (λ (e : Entry). is_fresh (p.era + 1) e.era) p.entries none.2;
    }
own_fresh goal other p empty f = record { lines = f.lines; buffers = f.buffers; entries = f.entries }

-- ---- a release is due where all is gone

abbrev AreGone : Phase → Type 0
AreGone ph = (lines_gone ph ≡ true) × (buffers_gone ph ≡ true) × (entries_gone ph ≡ true)

gone_at_release : (o : Order) (ps : List Processor) (p : Processor) (ph : Phase) → due o ps p ph ≡ Some Release → AreGone ph
gone_at_release o ps p ph h = row ph (due_row o ps p ph Release h)
  where
    row : (ph : Phase) → is_row Release ph ≡ true → AreGone ph
    row Arrived2 on = (refl, refl, refl)
    row other on = absurd (cc)

step_fresh : (o : Order) (s : System) (k : ℕ) (p : Processor) (e : Event) → slice_get s.processors k ≡ Some p → AllClear (Some o) s.processors → due o s.processors p p.phase ≡ Some e
    → AllFresh s.processors → AllFresh (step o.goal e k s).processors
step_fresh o s k p e at clear h fresh j q at_q =
    ⊎_elim
    (λ (m : (j ≡ k) × (x : Processor) × (slice_get (before_own e k s).processors k ≡ Some x) × (own_step o.goal e x ≡ q)).
    subst Fresh m.3 (own_fresh o.goal e m.1 (empties m.1 m.2) (before_fresh e k s fresh k m.1 m.2)))
    (λ (m : (j ≢ k) × (slice_get (before_own e k s).processors j ≡ Some q)). before_fresh e k s fresh j q m.1)
    (at_change (own_step o.goal e) k (before_own e k s) j q at_q)
  where
    empties : (x : Processor) → slice_get (before_own e k s).processors k ≡ Some x → e ≡ Release → HoldsNone x
    empties x at_x is =
        let there : slice_get s.processors k ≡ Some x = subst (λ (v : Event). slice_get (before_own v k s).processors k ≡ Some x) is at_x in
        let gone = gone_at_release o s.processors p p.phase (h ∙ ap Some is) in
        let same : p ≡ x = let g : Some p ≡ Some x = sym at ∙ there in cc in
        let c = clear k p at in
        subst HoldsNone same (c.no_lines gone.0, c.no_buffers gone.1, c.no_entries gone.2)

fresh_next : (e : MachineEvent) (s : System) (o : Option Order) → IsEnabled (record { system = s; order = o }) e → AllClear o s.processors → AllFresh s.processors
    → AllFresh (next (record { system = s; order = o }) e).system.processors
fresh_next (Accesses k op) s o enabled clear fresh = fresh_follows k _ _ (follows_access s k op) fresh
fresh_next (Controls k c) s o enabled clear fresh = fresh_follows k _ _ (follows_control s k c) fresh
fresh_next (Calls goal) s o enabled clear fresh = fresh
fresh_next Goes s None enabled clear fresh = fresh
fresh_next Goes s (Some o) enabled clear fresh = fresh
fresh_next Cancels s None enabled clear fresh = fresh
fresh_next Cancels s (Some o) enabled clear fresh = fresh
fresh_next (Steps k e) s None enabled clear fresh = fresh
fresh_next (Steps k e) s (Some o) enabled clear fresh = at_processor (slice_get s.processors k) refl enabled
  where
    at_processor : (q : Option Processor) → slice_get s.processors k ≡ q → option_map_or (λ p. due o s.processors p p.phase) q None ≡ Some e → AllFresh (step o.goal e k s).processors
    at_processor None at h = absurd (cc)
    at_processor (Some p) at h = step_fresh o s k p e at clear h fresh

reached_fresh : {s t : Machine} → Reached s t → IsKept s → AllFresh s.system.processors → AllFresh t.system.processors
reached_fresh at_start kept fresh = fresh
reached_fresh (after {t = t} e r enabled) kept fresh = fresh_next e t.system t.order enabled (reached_kept r kept).1 (reached_fresh r kept fresh)

-- ---- the law

tested : (own era : ℕ) → own ≤ era → is_fresh own era ≡ true
tested own era at_least = ap not (le-ltb era own at_least)

told : (own era : ℕ) → is_fresh own era ≡ true → own ≤ era
told own era test = grind (arith, nat_tests)

to_tests : (p : Processor) → IsFresh p → Fresh p
to_tests p f = record {
  lines = list_all-from_AllPass (λ (l : CacheLine). is_fresh p.era l.era) p.lines (λ k d within. tested p.era _ (f.lines k d within));
  buffers = list_all-from_AllPass (λ (l : CacheLine). is_fresh p.era l.era) p.buffers (λ k d within. tested p.era _ (f.buffers k d within));
  entries = list_all-from_AllPass (λ (e : Entry). is_fresh p.era e.era) p.entries (λ k d within. tested p.era _ (f.entries k d within));
}

from_tests : (p : Processor) → Fresh p → IsFresh p
from_tests p f = record {
  lines = λ k d within. told p.era _ (AllPass-from_list_all (λ (l : CacheLine). is_fresh p.era l.era) p.lines f.lines k d within);
  buffers = λ k d within. told p.era _ (AllPass-from_list_all (λ (l : CacheLine). is_fresh p.era l.era) p.buffers f.buffers k d within);
  entries = λ k d within. told p.era _ (AllPass-from_list_all (λ (e : Entry). is_fresh p.era e.era) p.entries f.entries k d within);
}

-- where nothing is added but with one's own era all stay so
pub stays_fresh : (k : ℕ) (ps qs : List Processor) → FollowsIn k ps qs → All IsFresh ps → All IsFresh qs
stays_fresh k ps qs follows fresh =
    all_of IsFresh qs (λ i q at. from_tests q (fresh_follows k ps qs follows (λ j p there. to_tests p (all_get IsFresh ps fresh j p there)) i q at))

pub nothing_is_stale : NothingIsStale
nothing_is_stale s m start fresh reached =
    all_of IsFresh m.system.processors
    (λ i p at. from_tests p
    (reached_fresh reached (start_kept s start) (λ j q there. to_tests q (all_get IsFresh s.system.processors fresh j q there)) i p at))

pub starts_fresh : StartsFresh
starts_fresh flags files ws = each_start IsFresh files flags (λ k d within b. record { lines = nothing _; buffers = nothing _; entries = nothing _ })
