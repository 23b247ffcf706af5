-- The flat machine beside updates.
use Rattle.std.proofs.Common.{◌≡◌, ℕ, zero, suc, ◌%◌, ◌≤◌, ◌==◌, List, [], ◌∷◌, length, Some, None, Option, refl, sym, ap, subst, ◌∙◌, arith}
use Rattle.std.specs.Prelude.{if◌then◌else◌, map, slice_get, slice_index}
use Rattle.std.specs.Option.{option_map_or, option_or}
use Rattle.std.proofs.lemmas.List.{length-map}
use Rattle.mt_regs.specs.RegisterFile.{RegisterFile}
use Rattle.mt_machine.specs.declared.phase.Phase.TheVariants.{Taken}
use Rattle.mt_machine.specs.declared.event.Event.TheVariants.{Take}
use Rattle.mt_machine.specs.Memory.{Window, place, place_in, word_at}
use Rattle.mt_machine.specs.System.{Processor, System, buffers_of, dirty_word, dirty_word_in, now}
use Rattle.mt_machine.specs.Machine.{Machine, Calls, Steps, at_start, next, run}
use Rattle.mt_machine.specs.Update.{emptied, settled_processor, updated}
use Rattle.mt_laws.specs.Updates.{LeadsToBroadcast, call_and_takes}
use Rattle.mt_laws.proofs.Barrier.Acting.{no_buffers_at_pass}
use Rattle.mt_laws.proofs.Invariant.Kept.{start_sound}
use Rattle.mt_laws.proofs.Invariant.Runs.{reached_run}
use Rattle.mt_laws.proofs.Updates.Addresses.{word_of_words}
use Rattle.mt_laws.proofs.Updates.Held.{held_after_release}
use Rattle.mt_laws.proofs.Updates.ToBroadcast.{takes_broadcast}
use Rattle.mt_laws.proofs.Words.BusLaws.{Stands, fit_at}
use Rattle.mt_laws.proofs.Words.Sound.{no_word, now_is}
use Rattle.mt_flat.specs.Flat.{Flat, empty_all}
use Rattle.mt_flat.specs.Seen.{HeldIsFlat, PendingStaysFew, UpdatedIsFlat, flat_run, flat_takes, written_of}
use Rattle.mt_flat.proofs.Emptying.{Same}
use Rattle.mt_flat.proofs.Seeing.{aligned_in, no_buffers_at, run_same, runs_keep_flat, same_of}

few_buffers : (ws : List Window) (s : System) (k : ℕ) → Stands ws s → length (buffers_of s k) ≤ 4
few_buffers ws s k st = one (slice_get s.processors k) refl
  where
    one : (o : Option Processor) → slice_get s.processors k ≡ o → length (option_map_or (λ p. p.buffers) o []) ≤ 4
    one None at = omega arith
    one (Some p) at = (fit_at ws s.processors k p st.fit at).few_buffers

pub pending_stays_few : PendingStaysFew
pending_stays_few s f es k h r enabled =
    let ws = s.system.memory.windows in
    let t = run_same ws (aligned_in s.system h) es s f enabled (same_of s.system f h r) in
    let few = few_buffers ws (run s es).system k t.stands in
    let same = ap length (t.pending k) ∙ length-map (buffers_of (run s es).system k) written_of in
    omega arith

pub held_is_flat : HeldIsFlat
held_is_flat s r f es since o start beside enabled first enabled_since =
    let p : Machine = run s es in
    let reached = reached_run es s s at_start enabled in
    let there = runs_keep_flat s es f (start_sound s start) beside enabled in
    record {
      nothing = λ k. there.pending k ∙ ap (map written_of) (no_buffers_at p.system.processors k (no_buffers_at_pass s p first.first start reached first.enabled.0));
      held = λ address whole other. held_after_release s p r o since start reached first enabled_since address whole other ∙ there.values address whole;
    }

-- ---- whole updates

takes_flat : (ks : List ℕ) (m : Machine) (f : Flat) → flat_run m (map (λ k. Steps k Take) ks) f ≡ flat_takes ks f
takes_flat [] m f = refl
takes_flat (k ∷ ks) m f = takes_flat ks (next m (Steps k Take)) (empty_all k f)

taken_dirty : (ps : List Processor) (a : ℕ) → dirty_word_in (map (λ (p : Processor). record p { phase = Taken }) ps) a ≡ dirty_word_in ps a
taken_dirty [] a = refl
taken_dirty (p ∷ ps) a = ap (option_or (dirty_word p.lines a)) (taken_dirty ps a)

settled_dirty : (goal : RegisterFile) (ps : List Processor) (a : ℕ) → dirty_word_in (map (settled_processor goal) ps) a ≡ None
settled_dirty goal [] a = refl
settled_dirty goal (p ∷ ps) a = settled_dirty goal ps a

settled_buffers : (goal : RegisterFile) (ps : List Processor) (k : ℕ) → option_map_or (λ p. p.buffers) (slice_get (map (settled_processor goal) ps) k) [] ≡ []
settled_buffers goal [] k = refl
settled_buffers goal (p ∷ ps) zero = refl
settled_buffers goal (p ∷ ps) (suc k) = settled_buffers goal ps k

pub updated_is_flat : UpdatedIsFlat
updated_is_flat s f goal ks quiet enabled once beside =
    record {
      values = λ a whole.
          ap (λ (o : Option ℕ). option_map_or (λ v. v) o (word_at u.memory a)) (settled_dirty goal s.system.processors a)
          ∙ word a whole (place s.system.memory a) refl
          ∙ value_then a whole;
      pending = λ k. nothing k ∙ ap (map written_of) (sym (settled_buffers goal s.system.processors k));
    }
  where
    u : System
    u = (updated s.system ks goal).system

    to : LeadsToBroadcast s goal ks
    to = takes_broadcast s goal ks quiet enabled once

    same : Same s.system.memory.windows (run s (call_and_takes goal ks)).system (flat_takes ks f)
    same =
        subst (Same s.system.memory.windows (run s (call_and_takes goal ks)).system) (takes_flat ks (next s (Calls goal)) f)
        (run_same s.system.memory.windows (aligned_in s.system quiet.sound) (call_and_takes goal ks) s f to.enabled (same_of s.system f quiet.sound beside))

    nothing : (k : ℕ) → (flat_takes ks f).pending k ≡ []
    nothing k = same.pending k ∙ ap (map written_of) (no_buffers_at (run s (call_and_takes goal ks)).system.processors k to.broadcast.no_buffers)

    value_then : (a : ℕ) → a % 8 ≡ 0 → now (emptied s.system ks) a ≡ (flat_takes ks f).values a
    value_then a whole =
        sym (ap (λ (o : Option ℕ). option_map_or (λ v. v) o (word_at (emptied s.system ks).memory a)) (taken_dirty (emptied s.system ks).processors a))
        ∙ sym (ap (λ (t : System). now t a) to.system)
        ∙ now_is s.system.memory.windows (run s (call_and_takes goal ks)).system a ((flat_takes ks f).values a) same.stands (same.values a whole)

    word : (a : ℕ) → a % 8 ≡ 0 → (o : Option ℕ) → place s.system.memory a ≡ o → word_at (updated s.system ks goal).system.memory a ≡ now (emptied s.system ks) a
    word a whole (Some i) at = word_of_words s.system.memory (now (emptied s.system ks)) quiet.sound.memory a i whole at
    word a whole None at =
        let there : place (run s (call_and_takes goal ks)).system.memory a ≡ None = ap (λ (v : List Window). if a % 8 == 0 then place_in v 0 a else None) same.stands.memory.windows ∙ at in
        ap (λ (o : Option ℕ). option_map_or (λ i. slice_index (updated s.system ks goal).system.memory.words i) o 0) at
        ∙ sym (no_word s.system.memory.windows (aligned_in s.system quiet.sound) (run s (call_and_takes goal ks)).system a ((flat_takes ks f).values a) same.stands whole there (same.values a whole))
        ∙ sym (value_then a whole)
