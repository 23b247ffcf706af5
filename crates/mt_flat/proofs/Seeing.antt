-- What the caches have is never seen.
use Rattle.std.proofs.Common.{◌≡◌, ℕ, zero, suc, List, [], ◌∷◌, Some, None, Option, true, refl, sym, ap, subst, ◌∙◌, Bool}
use Rattle.std.specs.Prelude.{map, replicate, slice_get, slice_index}
use Rattle.std.specs.Option.{option_map_or}
use Rattle.std.specs.List.{All}
use Rattle.std.proofs.lemmas.List.Elements.{All-head, All-tail}
use Rattle.mt_regs.specs.RegisterFile.{RegisterFile}
use Rattle.mt_machine.specs.Memory.{Window, place, word_at, word_count}
use Rattle.mt_machine.specs.System.{Processor, System, IsSound, dirty_word_in}
use Rattle.mt_machine.specs.Machine.{Machine, MachineEvent, AreEnabled, next, run}
use Rattle.mt_machine.specs.Start.{flagged_processors, zero_memory}
use Rattle.mt_laws.proofs.Invariant.Starts.{each_start}
use Rattle.mt_laws.proofs.Words.MemoryLaws.{AllAligned}
use Rattle.mt_laws.proofs.Words.BusLaws.{Word}
use Rattle.mt_laws.proofs.Words.Sound.{aligned_all, now_is, sound_stands, sound_word}
use Rattle.mt_flat.specs.Flat.{Flat}
use Rattle.mt_flat.specs.Seen.{AnswersAreFlat, CachesAreNeverSeen, EventsKeepFlat, IsFlatOf, NoBuffersIsFlat, RunsKeepFlat, StartIsFlat, flat_after, flat_run, written_of}
use Rattle.mt_flat.proofs.Emptying.{Same}
use Rattle.mt_flat.proofs.Accessing.{answer_same, next_same}

-- ---- the relation, by now and by copies

pub same_of : (s : System) (f : Flat) → IsSound s → IsFlatOf s f → Same s.memory.windows s f
same_of s f h r = record {
  stands = sound_stands s h;
  values = λ a whole. let w = sound_word s h a whole in subst (λ (x : ℕ). Word true a x s) (sym (now_is s.memory.windows s a w.0 (sound_stands s h) w.1) ∙ r.values a whole) w.1;
  pending = r.pending;
}

flat_of : (ws : List Window) (s : System) (f : Flat) → Same ws s f → IsFlatOf s f
flat_of ws s f r = record { values = λ a whole. now_is ws s a (f.values a) r.stands (r.values a whole); pending = r.pending }

pub aligned_in : (s : System) → IsSound s → AllAligned s.memory.windows
aligned_in s h = aligned_all s.memory.windows h.memory.aligned

-- ---- events

pub events_keep_flat : EventsKeepFlat
events_keep_flat m e f h r enabled =
    flat_of m.system.memory.windows (next m e).system (flat_after m e f) (next_same m.system.memory.windows (aligned_in m.system h) m e f enabled (same_of m.system f h r))

pub run_same : (ws : List Window) → AllAligned ws → (es : List MachineEvent) (m : Machine) (f : Flat) → AreEnabled m es → Same ws m.system f → Same ws (run m es).system (flat_run m es f)
run_same ws aligned [] m f enabled r = r
run_same ws aligned (e ∷ es) m f enabled r = run_same ws aligned es (next m e) (flat_after m e f) enabled.1 (next_same ws aligned m e f enabled.0 r)

pub runs_keep_flat : RunsKeepFlat
runs_keep_flat m es f h r enabled =
    flat_of m.system.memory.windows (run m es).system (flat_run m es f) (run_same m.system.memory.windows (aligned_in m.system h) es m f enabled (same_of m.system f h r))

-- ---- answers

pub answers_are_flat : AnswersAreFlat
answers_are_flat m f k address value kind h r answer =
    let w = answer_same m.system.memory.windows (aligned_in m.system h) m.system k address value kind f answer (same_of m.system f h r) in
    record { word = w.0; physical = w.1; answer = w.2 }

pub caches_are_never_seen : CachesAreNeverSeen
caches_are_never_seen s f es k address value kind h r enabled answer =
    let w = answer_same s.system.memory.windows (aligned_in s.system h) (run s es).system k address value kind (flat_run s es f) answer
    (run_same s.system.memory.windows (aligned_in s.system h) es s f enabled (same_of s.system f h r)) in
    record { word = w.0; physical = w.1; answer = w.2 }

-- ---- starts

pub no_buffers_at : (ps : List Processor) (k : ℕ) → All (λ (p : Processor). p.buffers ≡ []) ps → option_map_or (λ p. p.buffers) (slice_get ps k) [] ≡ []
no_buffers_at [] k h = refl
no_buffers_at (p ∷ ps) zero h = All-head (λ (q : Processor). q.buffers ≡ []) p ps h
no_buffers_at (p ∷ ps) (suc k) h = no_buffers_at ps k (All-tail (λ (q : Processor). q.buffers ≡ []) p ps h)

pub no_buffers_is_flat : NoBuffersIsFlat
no_buffers_is_flat s none = record { values = λ a whole. refl; pending = λ k. ap (map written_of) (sym (no_buffers_at s.processors k none)) }

start_dirty : (files : List RegisterFile) (flags : List Bool) (a : ℕ) → dirty_word_in (flagged_processors files flags) a ≡ None
start_dirty [] flags a = refl
start_dirty (f ∷ fs) [] a = start_dirty fs [] a
start_dirty (f ∷ fs) (b ∷ bs) a = start_dirty fs bs a

zero_at : (count i : ℕ) → slice_index (replicate count 0) i ≡ 0
zero_at zero i = refl
zero_at (suc count) zero = refl
zero_at (suc count) (suc i) = zero_at count i

pub zero_word : (ws : List Window) (a : ℕ) → word_at (zero_memory ws) a ≡ 0
zero_word ws a = one (place (zero_memory ws) a)
  where
    one : (o : Option ℕ) → option_map_or (λ i. slice_index (zero_memory ws).words i) o 0 ≡ 0
    one None = refl
    one (Some i) = zero_at (word_count ws) i

pub start_is_flat : StartIsFlat
start_is_flat flags files ws = record {
  values = λ a whole. ap (λ o. option_map_or (λ v. v) o (word_at (zero_memory ws) a)) (start_dirty files flags a) ∙ zero_word ws a;
  pending = λ k. ap (map written_of) (sym (no_buffers_at (flagged_processors files flags) k (each_start (λ p. p.buffers ≡ []) files flags (λ i d within b. refl))));
}
