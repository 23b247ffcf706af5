-- A processor that becomes self-snooping leaves what is sound or quiet as it is.
use Rattle.std.proofs.Common.{◌≡◌, ◌≢◌, ◌⊎◌, ℕ, zero, suc, List, [], ◌∷◌, Some, refl, sym, ap, subst, ◌∙◌, inl, inr, ⊎_elim}
use Rattle.std.specs.Prelude.{slice_get, slice_set, slice_index, IsNone, IsSome, Option, None, true, false, ◌<◌}
use Rattle.std.specs.Option.{option_map_or}
use Rattle.std.specs.List.{All}
use Rattle.std.proofs.lemmas.Option.{slice_get-get_or}
use Rattle.mt_cache.specs.declared.line.CacheLine.{CacheLine}
use Rattle.mt_cache.specs.Lines.{find_line, is_dirty}
use Rattle.mt_machine.specs.Memory.{Memory, place, word_address, word_at}
use Rattle.mt_machine.specs.Access.{is_running}
use Rattle.mt_machine.specs.System.{Processor, System, IsProcessor, IsSound, snooping, with_self_snoop}
use Rattle.mt_machine.specs.Machine.{FitsGoal, common_era}
use Rattle.mt_laws.specs.Starts.{SnoopingStaysQuiet, SnoopingStaysSound}
use Rattle.mt_laws.proofs.Barrier.Claims.{all_get}
use Rattle.mt_laws.proofs.Clearing.Renewed.{at_change}
use Rattle.mt_laws.proofs.Barrier.Still.{change_memory}

is_processor : (p : Processor) → IsProcessor p → IsProcessor (snooping p)
is_processor p h = record {
  register_file = h.register_file;
  accepted = h.accepted;
  in_range = h.in_range;
  indexes = h.indexes;
  mapped_pages = h.mapped_pages;
  few_mappings = h.few_mappings;
  distinct_mappings = h.distinct_mappings;
  local_entries = h.local_entries;
  mapped = h.mapped;
  entry_pages = h.entry_pages;
  flushed = h.flushed;
  few_entries = h.few_entries;
  distinct_entries = h.distinct_entries;
  few_lines = h.few_lines;
  distinct_lines = h.distinct_lines;
  whole_lines = h.whole_lines;
  few_buffers = h.few_buffers;
  distinct_buffers = h.distinct_buffers;
  whole_buffers = h.whole_buffers;
}

-- a processor after it is one of before, but for the flag
pub from : (k : ℕ) (s : System) (i : ℕ) (q : Processor) → slice_get (with_self_snoop k s).processors i ≡ Some q → (p : Processor) × (slice_get s.processors i ≡ Some p) × ((p ≡ q) ⊎ (snooping p ≡ q))
from k s i q at =
    ⊎_elim
    (λ (own : (i ≡ k) × (p : Processor) × (slice_get s.processors k ≡ Some p) × (snooping p ≡ q)). (own.1, ap (slice_get s.processors) own.0 ∙ own.2, inr own.3))
    (λ (other : (i ≢ k) × (slice_get s.processors i ≡ Some q)). (q, other.1, inl refl))
    (at_change snooping k s i q at)

-- what holds of each whatever its flag is
pub each_snooping : (P : Processor → Type 0) → ((p : Processor) → P p → P (snooping p)) → (k : ℕ) (s : System) → All P s.processors → All P (with_self_snoop k s).processors
each_snooping P stays k s all i d within =
    let f = from k s i _ (slice_get-get_or (with_self_snoop k s).processors i d within) in
    let was = all_get P s.processors all i f.0 f.1 in
    ⊎_elim (λ (same : f.0 ≡ _). subst P same was) (λ (set : snooping f.0 ≡ _). subst P set (stays f.0 was)) f.2

lines_from : (k : ℕ) (s : System) (i : ℕ) (q : Processor) → slice_get (with_self_snoop k s).processors i ≡ Some q → (p : Processor) × (slice_get s.processors i ≡ Some p) × (p.lines ≡ q.lines)
lines_from k s i q at =
    let f = from k s i q at in
    (f.0, f.1, ⊎_elim (λ (same : f.0 ≡ q). ap (λ (p : Processor). p.lines) same) (λ (set : snooping f.0 ≡ q). ap (λ (p : Processor). p.lines) set) f.2)

abbrev Clean : Memory → Processor → Type 0
Clean m p = All (λ (l : CacheLine). (word : ℕ) → word < 8 → is_dirty l word ≡ false → slice_index l.words word ≡ word_at m (word_address l.number word)) p.lines

abbrev Placed : (Processor → List CacheLine) → Memory → Processor → Type 0
Placed held m p = All (λ (l : CacheLine). IsSome (place m (word_address l.number 0))) (held p)

pub snooping_stays_sound : SnoopingStaysSound
snooping_stays_sound s k h = subst (λ (m : Memory). IsSound (record { processors = (with_self_snoop k s).processors; memory = m })) (sym (change_memory snooping k s)) over
  where
    over : IsSound (record { processors = (with_self_snoop k s).processors; memory = s.memory })
    over = record {
      memory = h.memory;
      coherent = record {
        clean = each_snooping (Clean s.memory) (λ p c. c) k s h.coherent.clean;
        sole = λ i j p q apart at_p at_q.
            let a = lines_from k s i p at_p in
            let b = lines_from k s j q at_q in
            subst (λ (v : List CacheLine × List CacheLine). All (λ l. l.dirty ≢ 0 → IsNone (find_line l.number v.1)) v.0) (λ n. (a.2 n, b.2 n)) (h.coherent.sole i j a.0 b.0 apart a.1 b.1);
      };
      lines_in_memory = each_snooping (Placed (λ p. p.lines) s.memory) (λ p c. c) k s h.lines_in_memory;
      buffers_in_memory = each_snooping (Placed (λ p. p.buffers) s.memory) (λ p c. c) k s h.buffers_in_memory;
      each = each_snooping IsProcessor is_processor k s h.each;
    }

same_era : (k : ℕ) (s : System) → common_era (with_self_snoop k s).processors ≡ common_era s.processors
same_era k s = one (slice_get s.processors k) refl
  where
    first : (ps : List Processor) (k : ℕ) (p : Processor) → slice_get ps k ≡ Some p → common_era (slice_set ps k (snooping p)) ≡ common_era ps
    first [] k p at = refl
    first (q ∷ ps) zero p at = let e : p ≡ q = cc in ap (λ (x : Processor). x.era) e
    first (q ∷ ps) (suc k) p at = refl

    one : (o : Option Processor) → slice_get s.processors k ≡ o → common_era (option_map_or (λ p. record s { processors = slice_set s.processors k (snooping p) }) o s).processors ≡ common_era s.processors
    one None at = refl
    one (Some p) at = first s.processors k p at

pub snooping_stays_quiet : SnoopingStaysQuiet
snooping_stays_quiet m k h = record {
  sound = snooping_stays_sound m.system k h.sound;
  running = each_snooping (λ p. is_running p.phase ≡ true) (λ p c. c) k m.system h.running;
  one_era = each_snooping (λ p. p.era ≡ common_era (with_self_snoop k m.system).processors) (λ p c. c) k m.system (subst (λ (n : ℕ). All (λ p. p.era ≡ n) m.system.processors) (sym (same_era k m.system)) h.one_era);
  one_kind = each_snooping (λ p. All (FitsGoal p.file) (with_self_snoop k m.system).processors) (λ p c. c) k m.system (λ i d within. each_snooping (FitsGoal _) (λ p c. record { width = c.width; capabilities = c.capabilities }) k m.system (h.one_kind i d within));
  no_order = h.no_order;
}
