-- The state after a whole update is quiet.
use Rattle.std.proofs.Common.{◌≡◌, ◌≢◌, ℕ, ◌+◌, ◌-◌, ◌<◌, ◌^◌, List, [], ◌∷◌, Some, true, false, refl, sym, ap, subst, ◌∙◌, arith}
use Rattle.std.specs.Prelude.{slice_get, slice_index, map, IsNone, IsSome}
use Rattle.std.specs.List.{All}
use Rattle.std.proofs.lemmas.List.{length-map}
use Rattle.std.proofs.lemmas.List.Elements.{All-map}
use Rattle.mt_regs.specs.RegisterFile.{RegisterFile, IsRegisterFile}
use Rattle.mt_regs.specs.Faults.{IsAccepted}
use Rattle.mt_cache.specs.declared.line.CacheLine.{CacheLine}
use Rattle.mt_cache.specs.Lines.{find_line, is_dirty}
use Rattle.mt_tlb.specs.declared.mapping.Mapping.{Mapping}
use Rattle.mt_machine.specs.Memory.{Memory, IsMemory, word_at, word_address, place}
use Rattle.mt_machine.specs.System.{Processor, System, IsCoherent, IsProcessor, IsSound, now}
use Rattle.mt_machine.specs.Access.{is_running}
use Rattle.mt_machine.specs.Machine.{FitsGoal, common_era}
use Rattle.mt_machine.specs.Update.{addresses, emptied, settled_processor, updated}
use Rattle.mt_laws.specs.Starts.{UpdatedIsQuiet}
use Rattle.mt_laws.proofs.Barrier.Claims.{all_get, all_of}
use Rattle.mt_laws.proofs.Invariant.Starts.{nothing}
use Rattle.mt_laws.proofs.Updates.Addresses.{length_addresses}

settled_is_processor : (goal : RegisterFile) (p : Processor) → IsRegisterFile goal → IsAccepted goal → FitsGoal goal p → IsProcessor p → IsProcessor (settled_processor goal p)
settled_is_processor goal p good accepted fits h = record {
  register_file = good;
  accepted = λ _. accepted;
  in_range = λ i h. absurd (cc);
  indexes = h.indexes;
  mapped_pages = subst (λ (w : ℕ). All (λ (m : Mapping). m.ppage < 2 ^ (w - 12)) p.mappings) (sym fits.width) h.mapped_pages;
  few_mappings = h.few_mappings;
  distinct_mappings = h.distinct_mappings;
  local_entries = λ _. nothing _;
  mapped = nothing _;
  entry_pages = nothing _;
  flushed = λ h. absurd (cc);
  few_entries = omega arith;
  distinct_entries = λ i j d low within. absurd (omega arith);
  few_lines = omega arith;
  distinct_lines = λ i j d low within. absurd (omega arith);
  whole_lines = nothing _;
  few_buffers = omega arith;
  distinct_buffers = λ i j d low within. absurd (omega arith);
  whole_buffers = nothing _;
}

-- what each processor has after the update
settled_all : (P : Processor → Type 0) (goal : RegisterFile) (ps : List Processor) → ((i : ℕ) (p : Processor) → slice_get ps i ≡ Some p → P (settled_processor goal p)) → All P (map (settled_processor goal) ps)
settled_all P goal ps h = All-map P (settled_processor goal) ps (all_of (λ p. P (settled_processor goal p)) ps h)

era_after : (goal : RegisterFile) (ps : List Processor) (i : ℕ) (p : Processor) → slice_get ps i ≡ Some p → common_era (map (settled_processor goal) ps) ≡ common_era ps + 1
era_after goal [] i p at = absurd (cc)
era_after goal (q ∷ ps) i p at = refl

-- over any memory
module _ (goal : RegisterFile) (ps : List Processor) (m : Memory) where
  abbrev after : System
  after = record { processors = map (settled_processor goal) ps; memory = m }

  abbrev Clean : Processor → Type 0
  Clean p = All (λ (l : CacheLine). (word : ℕ) → word < 8 → is_dirty l word ≡ false → slice_index l.words word ≡ word_at m (word_address l.number word)) p.lines

  abbrev Placed : (Processor → List CacheLine) → Processor → Type 0
  Placed held p = All (λ (l : CacheLine). IsSome (place m (word_address l.number 0))) (held p)

  coherent_after : IsCoherent after
  coherent_after = record {
    clean = settled_all Clean goal ps (λ i p at k d within. absurd (omega arith));
    sole = λ i j p q apart at_p at_q.
        subst (λ (ls : List CacheLine). All (λ l. l.dirty ≢ 0 → IsNone (find_line l.number q.lines)) ls)
        (sym (all_get (λ r. r.lines ≡ []) (map (settled_processor goal) ps) (settled_all (λ r. r.lines ≡ []) goal ps (λ k r at. refl)) i p at_p))
        (λ k d within. absurd (omega arith));
  }

  sound_after : IsMemory m → All IsProcessor (map (settled_processor goal) ps) → IsSound after
  sound_after memory each = record {
    memory = memory;
    coherent = coherent_after;
    lines_in_memory = settled_all (Placed (λ p. p.lines)) goal ps (λ i p at k d within. absurd (omega arith));
    buffers_in_memory = settled_all (Placed (λ p. p.buffers)) goal ps (λ i p at k d within. absurd (omega arith));
    each = each;
  }

memory_after : (m : Memory) (f : ℕ → ℕ) → IsMemory m → IsMemory (record { windows = m.windows; words = map f (addresses m.windows) })
memory_after m f h = record { some_lines = h.some_lines; aligned = h.aligned; bounded = h.bounded; apart = h.apart; counted = length-map (addresses m.windows) f ∙ length_addresses m.windows }

one_era_after : (goal : RegisterFile) (ps : List Processor) → All (λ p. p.era ≡ common_era ps) ps → All (λ p. p.era ≡ common_era (map (settled_processor goal) ps)) (map (settled_processor goal) ps)
one_era_after goal ps h =
    settled_all (λ p. p.era ≡ common_era (map (settled_processor goal) ps)) goal ps
    (λ i p at. ap (λ (n : ℕ). n + 1) (all_get (λ q. q.era ≡ common_era ps) ps h i p at) ∙ sym (era_after goal ps i p at))

one_kind_after : (goal : RegisterFile) (ps : List Processor) → All (λ p. All (λ q. FitsGoal p.file q) (map (settled_processor goal) ps)) (map (settled_processor goal) ps)
one_kind_after goal ps =
    settled_all (λ p. All (λ q. FitsGoal p.file q) (map (settled_processor goal) ps)) goal ps
    (λ i p at. settled_all (FitsGoal goal) goal ps (λ j q at_q. record { width = refl; capabilities = refl }))

pub updated_is_quiet : UpdatedIsQuiet
updated_is_quiet s goal ks quiet enabled =
    record {
      sound = sound_after goal s.system.processors (updated s.system ks goal).system.memory (memory_after s.system.memory (now (emptied s.system ks)) quiet.sound.memory)
          (settled_all IsProcessor goal s.system.processors (λ i p at. settled_is_processor goal p enabled.1 enabled.2 (all_get (FitsGoal goal) s.system.processors enabled.3 i p at) (all_get IsProcessor s.system.processors quiet.sound.each i p at)));
      running = settled_all (λ p. is_running p.phase ≡ true) goal s.system.processors (λ i p at. refl);
      one_era = one_era_after goal s.system.processors quiet.one_era;
      one_kind = one_kind_after goal s.system.processors;
      no_order = refl;
    }
