-- A broadcast state whose processors run again is quiet, and an update from there ends as one from it.
use Rattle.std.proofs.Common.{◌≡◌, ◌≢◌, ◌∙◌, ap, sym, refl, subst, arith, ℕ, zero, suc, ◌+◌, ◌<◌, ◌≤◌, Bool, true, false, List, [], ◌∷◌, length, map, drop, get_or, Option, None, Some}
use Rattle.std.specs.Prelude.{IsNone, IsSome, slice_get, slice_index, slice_set}
use Rattle.std.specs.List.{All, fold}
use Rattle.std.specs.Option.{option_map_or}
use Rattle.std.proofs.lemmas.List.{get_or-drop, length-map}
use Rattle.mt_regs.specs.RegisterFile.{RegisterFile}
use Rattle.mt_cache.specs.declared.line.CacheLine.{CacheLine}
use Rattle.mt_cache.specs.Lines.{is_dirty, find_line}
use Rattle.mt_machine.specs.declared.phase.Phase.TheVariants.{Taken}
use Rattle.mt_machine.specs.Memory.{place, word_address, word_at}
use Rattle.mt_machine.specs.System.{IsCoherent, IsProcessor, IsSound, Processor, System, change, is_writing, now}
use Rattle.mt_machine.specs.Bus.{drain, with_buffers, empty_buffer}
use Rattle.mt_machine.specs.Access.{is_running}
use Rattle.mt_machine.specs.Machine.{Calls, FitsGoal, IsEnabled, Machine, common_era}
use Rattle.mt_machine.specs.Start.{IsQuiet}
use Rattle.mt_machine.specs.Update.{emptied, updated}
use Rattle.mt_laws.specs.Updates.{all_running, all_taken}
use Rattle.mt_laws.proofs.Barrier.Claims.{all_get, all_of}
use Rattle.mt_laws.proofs.Updates.ToBroadcast.{updated_from_broadcast}
use Rattle.mt_laws.proofs.Updates.Quiet.{updated_is_quiet}
use Rattle.mt_rendezvous.specs.declared.view.Start.{Start}
use Rattle.mt_rendezvous.specs.Station.{Begins, broadcast}
use Rattle.mt_rendezvous.specs.Update.{CanUpdate, left_by, running}

abbrev At : List Processor → ℕ → Processor → Type 0
At ps i p = slice_get ps i ≡ Some p

at_running : (ps : List Processor) (i : ℕ) (q : Processor) → At (map running ps) i q → (p : Processor) × At ps i p × (q ≡ running p)
at_running [] i q at = absurd (cc)
at_running (p ∷ ps) zero q at = (p, refl, (let same : Some (running p) ≡ Some q = at in cc))
at_running (p ∷ ps) (suc i) q at = at_running ps i q at

-- what holds of each as it runs holds of all that run
each_running : (P : Processor → Type 0) (ps : List Processor) → ((i : ℕ) (p : Processor) → At ps i p → P (running p)) → All P (map running ps)
each_running P ps h = all_of P (map running ps) (λ i q at. let w = at_running ps i q at in subst P (sym w.2) (h i w.0 w.1))

is_processor : (p : Processor) → p.phase ≡ Taken → IsProcessor p → IsProcessor (running p)
is_processor p taken h = record {
  register_file = h.register_file;
  accepted = λ none. h.accepted (ap is_writing taken);
  in_range = λ i writing. absurd (cc);
  indexes = h.indexes;
  mapped_pages = h.mapped_pages;
  few_mappings = h.few_mappings;
  distinct_mappings = h.distinct_mappings;
  local_entries = h.local_entries;
  mapped = h.mapped;
  entry_pages = h.entry_pages;
  flushed = λ f. absurd (cc);
  few_entries = h.few_entries;
  distinct_entries = h.distinct_entries;
  few_lines = h.few_lines;
  distinct_lines = h.distinct_lines;
  whole_lines = h.whole_lines;
  few_buffers = h.few_buffers;
  distinct_buffers = h.distinct_buffers;
  whole_buffers = h.whole_buffers;
}

module _ (s : System) (sound : IsSound s) (taken : All (λ p. p.phase ≡ Taken) s.processors) where
  abbrev t : System
  t = all_running s

  coherent : IsCoherent t
  coherent = record {
    clean = each_running (λ p. All (λ l. (word : ℕ) → word < 8 → is_dirty l word ≡ false → slice_index l.words word ≡ word_at s.memory (word_address l.number word)) p.lines) s.processors
        (λ i p at. all_get (λ p. All (λ l. (word : ℕ) → word < 8 → is_dirty l word ≡ false → slice_index l.words word ≡ word_at s.memory (word_address l.number word)) p.lines) s.processors sound.coherent.clean i p at);
    sole = λ i j p q apart at_i at_j.
        let a = at_running s.processors i p at_i in
        let b = at_running s.processors j q at_j in
        let was = sound.coherent.sole i j a.0 b.0 apart a.1 b.1 in
        subst (λ (v : Processor). All (λ l. l.dirty ≢ 0 → IsNone (find_line l.number q.lines)) v.lines) (sym a.2)
        (subst (λ (v : Processor). All (λ l. l.dirty ≢ 0 → IsNone (find_line l.number v.lines)) a.0.lines) (sym b.2) was);
  }

  pub runs_sound : IsSound t
  runs_sound = record {
    memory = sound.memory;
    coherent = coherent;
    lines_in_memory = each_running (λ p. All (λ l. IsSome (place s.memory (word_address l.number 0))) p.lines) s.processors
        (all_get (λ p. All (λ l. IsSome (place s.memory (word_address l.number 0))) p.lines) s.processors sound.lines_in_memory);
    buffers_in_memory = each_running (λ p. All (λ l. IsSome (place s.memory (word_address l.number 0))) p.buffers) s.processors
        (all_get (λ p. All (λ l. IsSome (place s.memory (word_address l.number 0))) p.buffers) s.processors sound.buffers_in_memory);
    each = each_running IsProcessor s.processors (λ i p at. is_processor p (all_get (λ p. p.phase ≡ Taken) s.processors taken i p at) (all_get IsProcessor s.processors sound.each i p at));
  }

era_running : (ps : List Processor) → common_era (map running ps) ≡ common_era ps
era_running [] = refl
era_running (p ∷ ps) = refl

fits_both : (goal : RegisterFile) (p q : Processor) → FitsGoal goal p → FitsGoal goal q → FitsGoal p.file q
fits_both goal p q a b = record { width = sym a.width ∙ b.width; capabilities = sym a.capabilities ∙ b.capabilities }

module _ (b : Start) (begins : Begins b) where
  abbrev all_fit : (i : ℕ) (p : Processor) → At b.cpus i p → FitsGoal b.goal p
  all_fit = all_get (FitsGoal b.goal) b.cpus begins.broadcasts.fits

  abbrev again : Machine
  again = record { system = all_running (broadcast b).system; order = None }

  runs_quiet : IsQuiet again
  runs_quiet = record {
    sound = runs_sound (broadcast b).system begins.broadcasts.sound begins.broadcasts.taken;
    running = each_running (λ p. is_running p.phase ≡ true) b.cpus (λ i p at. refl);
    one_era = each_running (λ p. p.era ≡ common_era (map running b.cpus)) b.cpus
        (λ i p at. all_get (λ q. q.era ≡ common_era b.cpus) b.cpus begins.broadcasts.one_era i p at ∙ sym (era_running b.cpus));
    one_kind = each_running (λ p. All (λ q. FitsGoal p.file q) (map running b.cpus)) b.cpus
        (λ i p at. each_running (λ q. FitsGoal p.file q) b.cpus (λ j q at_q. let w = fits_both b.goal p q (all_fit i p at) (all_fit j q at_q) in record { width = w.width; capabilities = w.capabilities }));
    no_order = refl;
  }

  enabled_again : IsEnabled again (Calls b.goal)
  enabled_again = (
    refl,
    begins.broadcasts.goal_file,
    begins.broadcasts.goal_accepted,
    each_running (FitsGoal b.goal) b.cpus (λ i p at. let w = all_fit i p at in record { width = w.width; capabilities = w.capabilities }),
  )

  pub can_update : 0 < length b.cpus → length b.cpus ≤ 16 → CanUpdate (all_running (broadcast b).system) b.goal
  can_update some few =
      let size = length-map b.cpus running in
      record {
        quiet = runs_quiet;
        enabled = enabled_again;
        no_buffers = each_running (λ p. p.buffers ≡ []) b.cpus (all_get (λ p. p.buffers ≡ []) b.cpus begins.broadcasts.no_buffers);
        room = each_running (λ p. p.era < 18446744073709551615) b.cpus
            (λ i p at. let e = all_get (λ q. q.era ≡ common_era b.cpus) b.cpus begins.broadcasts.one_era i p at in let low = begins.room in omega arith);
        some = omega arith;
        few = omega arith;
      }

-- ---- updates alike

taken_again : (ps : List Processor) → map (λ (p : Processor). record p { phase = Taken }) (map running ps) ≡ map (λ (p : Processor). record p { phase = Taken }) ps
taken_again [] = refl
taken_again (p ∷ ps) = ap (λ qs. (record p { phase = Taken }) ∷ qs) (taken_again ps)

all_taken_again : (s : System) → all_taken (all_running s) ≡ all_taken s
all_taken_again s = λ i. record { processors = taken_again s.processors i; memory = s.memory }

-- an update doesn't look at the phases
pub updated_again : (s : System) (goal : RegisterFile) → updated (all_running s) [] goal ≡ updated s [] goal
updated_again s goal =
    sym (updated_from_broadcast (all_running s) [] goal).from_taken
    ∙ ap (λ (t : System). updated t [] goal) (all_taken_again s)
    ∙ (updated_from_broadcast s [] goal).from_taken

set_back : (ps : List Processor) (k : ℕ) (p : Processor) → At ps k p → slice_set ps k p ≡ ps
set_back [] k p at = absurd (cc)
set_back (q ∷ ps) zero p at = ap (λ v. v ∷ ps) (let same : Some q ≡ Some p = at in let e : p ≡ q = cc in e)
set_back (q ∷ ps) (suc k) p at = ap (λ vs. q ∷ vs) (set_back ps k p at)

-- a fence of a processor without buffers does nothing
drain_none : (k : ℕ) (s : System) → All (λ p. p.buffers ≡ []) s.processors → drain k s ≡ s
drain_none k s none = one (slice_get s.processors k) refl
  where
    one : (v : Option Processor) → slice_get s.processors k ≡ v → drain k s ≡ s
    one None at =
        ap (λ (v : Option Processor). change (with_buffers (λ _. [])) k (fold empty_buffer s (option_map_or (λ p. p.buffers) v []))) at
        ∙ ap (λ (v : Option Processor). option_map_or (λ p. record s { processors = slice_set s.processors k (with_buffers (λ _. []) p) }) v s) at
    one (Some p) at =
        let empty : p.buffers ≡ [] = all_get (λ q. q.buffers ≡ []) s.processors none k p at in
        ap (λ (v : Option Processor). change (with_buffers (λ _. [])) k (fold empty_buffer s (option_map_or (λ q. q.buffers) v []))) at
        ∙ ap (λ (bs : List CacheLine). change (with_buffers (λ _. [])) k (fold empty_buffer s bs)) empty
        ∙ ap (λ (v : Option Processor). option_map_or (λ q. record s { processors = slice_set s.processors k (with_buffers (λ _. []) q) }) v s) at
        ∙ (λ i. record s { processors = slice_set s.processors k (record p { buffers = sym empty i }) })
        ∙ (λ i. record s { processors = set_back s.processors k p at i })

emptied_none : (ks : List ℕ) (s : System) → All (λ p. p.buffers ≡ []) s.processors → emptied s ks ≡ s
emptied_none [] s none = refl
emptied_none (k ∷ ks) s none = ap (λ (t : System). emptied t ks) (drain_none k s none) ∙ emptied_none ks s none

-- without buffers the order of the takes is nothing
pub updated_alone : (s : System) (ks : List ℕ) (goal : RegisterFile) → All (λ p. p.buffers ≡ []) s.processors → updated s ks goal ≡ updated s [] goal
updated_alone s ks goal none = sym (updated_from_broadcast s ks goal).from_emptied ∙ ap (λ (t : System). updated t [] goal) (emptied_none ks s none)

-- ---- what is left is quiet

module _ (b : Start) (begins : Begins b) where
  pub left_quiet : (given : Bool) → IsQuiet (record { system = left_by given (broadcast b).system b.goal; order = None })
  left_quiet true =
      subst IsQuiet (updated_again (broadcast b).system b.goal)
      (updated_is_quiet (again b begins) b.goal [] (runs_quiet b begins) (enabled_again b begins))
  left_quiet false = runs_quiet b begins

-- ---- each leaves

-- where the rest of a list is as it was, each of the rest is as it was
pub taken_at : (i : ℕ) (now first : List Processor) (d : Processor) → drop i now ≡ drop i first → All (λ p. p.phase ≡ Taken) first → i < length first → (get_or now i d).phase ≡ Taken
taken_at i now first d same all low =
    let more : i + 0 ≡ i = omega arith in
    let here : get_or now i d ≡ get_or first i d =
    ap (λ n. get_or now n d) (sym more) ∙ sym (get_or-drop i now 0 d) ∙ ap (λ l. get_or l 0 d) same ∙ get_or-drop i first 0 d ∙ ap (λ n. get_or first n d) more in
    ap (λ p. p.phase) here ∙ all i d low
