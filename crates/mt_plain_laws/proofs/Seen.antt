-- What the books show of a processor, and how its events change that.
use Rattle.std.proofs.Common.{◌≡◌, ◌∙◌, ap, refl, sym, ℕ, ◌+◌, zero, suc, Bool, List, [], ◌∷◌, length, set, Option, Some}
use Rattle.std.specs.Prelude.{cond, slice_get, slice_index_or, map, nat_lt, not, ◌&&◌, ◌||◌}
use Rattle.std.specs.List.{count_by, list_all, list_any}
use Rattle.std.specs.Option.{option_map_or, option_map}
use Rattle.std.proofs.lemmas.List.{length-map, map-set}
use Rattle.std.proofs.lemmas.Option.{slice_get-map}
use Rattle.mt_regs.specs.RegisterFile.{RegisterFile}
use Rattle.mt_regs.specs.declared.registers.Register.{Register}
use Rattle.mt_regs.specs.declared.registers.Register.TheVariants.{PhysBase, PhysMask, FixedRange, Pat, DefaultType}
use Rattle.mt_regs.specs.Registers.{writable}
use Rattle.mt_machine.specs.declared.event.Event.{Event}
use Rattle.mt_machine.specs.declared.event.Event.TheVariants.{Take, WriteBack, FlushTlb, Write, Release}
use Rattle.mt_machine.specs.declared.phase.Phase.{Phase}
use Rattle.mt_machine.specs.Machine.{Order, before_own, has_released, is_arrived, is_arrived_again, is_cancelled, is_changing, is_over, is_waiting_to_pass, own_step, step, with_goal}
use Rattle.mt_machine.specs.System.{Processor, System, change}
use Rattle.mt_laws.proofs.Barrier.Barriers.{flush_era}
use Rattle.mt_laws.proofs.Invariant.Flags.{own_keeps_flag}
use Rattle.mt_laws.proofs.Registers.Filed.{flush_file}
use Rattle.mt_laws.proofs.Steps.StepCounts.{count_more}
use Rattle.mt_laws.proofs.Translations.Views.{drain_views}
use Rattle.mt_plain.specs.Due.{phase_after, phase_number, phase_place}
use Rattle.mt_plain.specs.declared.turn.PlainProcessor.{PlainProcessor}
use Rattle.mt_plain.specs.declared.turn.PlainUpdate.{PlainUpdate}
use Rattle.mt_plain_laws.specs.Rendezvous.{Rendezvous, byte_of, go_number, processor_words, words_of}

pub record Seen : Type 0 where
  pub phase : Phase
  pub era : ℕ
  pub registers : ℕ
  pub self_snoop : Bool

abbrev pub seen : Processor → Seen
seen p = record { phase = p.phase; era = p.era; registers = length (writable p.file); self_snoop = p.self_snoop }

abbrev pub seen_of : List Processor → List Seen
seen_of ps = map seen ps

abbrev pub ahead : Order → Seen → Bool
ahead o x = nat_lt o.from_era x.era

abbrev pub arrived : Order → Seen → Bool
arrived o x = is_arrived x.phase || (is_changing x.phase || is_arrived_again x.phase || ahead o x)

abbrev pub again : Order → Seen → Bool
again o x = is_arrived_again x.phase || ahead o x

abbrev pub told : Order → Seen → PlainProcessor
told o x = record {
  phase = phase_number x.phase;
  place = phase_place x.phase;
  registers = x.registers;
  self_snoop = byte_of x.self_snoop;
  finished = byte_of (ahead o x);
}

abbrev pub update_of : Order → List Seen → PlainUpdate
update_of o xs = record {
  word = go_number o.go;
  processors = length xs;
  arrived = count_by (arrived o) xs;
  arrived_again = count_by (again o) xs;
}

abbrev pub told_of : Order → List Seen → Rendezvous
told_of o xs = record { update = update_of o xs; processors = map (told o) xs }

count_seen : (q : Seen → Bool) (ps : List Processor) → count_by (λ p. q (seen p)) ps ≡ count_by q (seen_of ps)
count_seen q [] = refl
count_seen q (p ∷ ps) =
    count_more (λ r. q (seen r)) p ps
    ∙ ap (λ n. cond (q (seen p)) 1 0 + n) (count_seen q ps)
    ∙ sym (count_more q (seen p) (seen_of ps))

fused : (o : Order) (ps : List Processor) → map (processor_words o) ps ≡ map (told o) (seen_of ps)
fused o [] = refl
fused o (p ∷ ps) = ap (λ ds. processor_words o p ∷ ds) (fused o ps)

-- the books go by what is seen
pub words_seen : (o : Order) (ps : List Processor) → words_of o ps ≡ told_of o (seen_of ps)
words_seen o ps = λ i. record {
  update = record {
    word = go_number o.go;
    processors = sym (length-map ps seen) i;
    arrived = count_seen (arrived o) ps i;
    arrived_again = count_seen (again o) ps i;
  };
  processors = fused o ps i;
}

pub all_seen : (q : Seen → Bool) (ps : List Processor) → list_all (λ p. q (seen p)) ps ≡ list_all q (seen_of ps)
all_seen q [] = refl
all_seen q (p ∷ ps) = ap (λ b. q (seen p) && b) (all_seen q ps)

pub any_seen : (q : Seen → Bool) (ps : List Processor) → list_any (λ p. q (seen p)) ps ≡ list_any q (seen_of ps)
any_seen q [] = refl
any_seen q (p ∷ ps) = ap (λ b. q (seen p) || b) (any_seen q ps)

-- so does whether the update is over
pub over_seen : (o : Order) (ps qs : List Processor) → seen_of qs ≡ seen_of ps → is_over o qs ≡ is_over o ps
over_seen o ps qs same =
    let released : list_all (has_released o) qs ≡ list_all (has_released o) ps =
    all_seen (ahead o) qs ∙ ap (list_all (ahead o)) same ∙ sym (all_seen (ahead o) ps) in
    let waits : list_any (λ p. is_waiting_to_pass p.phase) qs ≡ list_any (λ p. is_waiting_to_pass p.phase) ps =
    any_seen (λ x. is_waiting_to_pass x.phase) qs ∙ ap (list_any (λ x. is_waiting_to_pass x.phase)) same ∙ sym (any_seen (λ x. is_waiting_to_pass x.phase) ps) in
    λ i. released i || (is_cancelled o.go && not (waits i))

-- ---- events

abbrev pub era_after : Event → ℕ → ℕ
era_after Release era = era + 1
era_after other era = era

abbrev pub seen_after : Event → Seen → Seen
seen_after e x = record x { phase = phase_after e x.phase; era = era_after e x.era }

registers_with : (goal : RegisterFile) (r : Register) (f : RegisterFile) → length (writable (with_goal goal r f)) ≡ length (writable f)
registers_with goal (PhysBase n) f = refl
registers_with goal (PhysMask n) f = refl
registers_with goal (FixedRange i) f = refl
registers_with goal Pat f = refl
registers_with goal DefaultType f = refl

-- the processor's own part
pub own_seen : (goal : RegisterFile) (e : Event) (p : Processor) → seen (own_step goal e p) ≡ seen_after e (seen p)
own_seen goal FlushTlb p = λ i. record {
  phase = phase_after FlushTlb p.phase;
  era = flush_era p.phase p i;
  registers = length (writable (flush_file p.phase p i));
  self_snoop = own_keeps_flag goal FlushTlb p i;
}
own_seen goal (Write n) p = λ i. record {
  phase = phase_after (Write n) p.phase;
  era = p.era;
  registers = registers_with goal (slice_index_or (writable goal) n DefaultType) p.file i;
  self_snoop = p.self_snoop;
}
own_seen goal other p = refl

change_sees : (f : Processor → Processor) (k : ℕ) (s : System) (p : Processor) → slice_get s.processors k ≡ Some p → seen_of (change f k s).processors ≡ set (seen_of s.processors) k (seen (f p))
change_sees f k s p at =
    ap (λ (o : Option Processor). seen_of (option_map_or (λ q. record s { processors = set s.processors k (f q) }) o s).processors) at
    ∙ map-set seen s.processors k (f p)

pub seen_at : (ps : List Processor) (k : ℕ) (p : Processor) → slice_get ps k ≡ Some p → slice_get (seen_of ps) k ≡ Some (seen p)
seen_at ps k p at = slice_get-map seen ps k ∙ ap (option_map seen) at

pub processor_seen : (ps : List Processor) (k : ℕ) (x : Seen) → slice_get (seen_of ps) k ≡ Some x → (p : Processor) × (slice_get ps k ≡ Some p) × (seen p ≡ x)
processor_seen [] k x at = absurd (cc)
processor_seen (p ∷ ps) zero x at = (p, refl, cc)
processor_seen (p ∷ ps) (suc k) x at = processor_seen ps k x at

taken_sees : (goal : RegisterFile) (k : ℕ) (s : System) (p : Processor) → slice_get s.processors k ≡ Some p → seen_of (step goal Take k s).processors ≡ set (seen_of s.processors) k (seen_after Take (seen p))
taken_sees goal k s p at =
    let drained : System = before_own Take k s in
    let same : seen_of drained.processors ≡ seen_of s.processors = drain_views Seen seen (λ f q. refl) (λ f q. refl) k s in
    let found = processor_seen drained.processors k (seen p) (ap (λ xs. slice_get xs k) same ∙ seen_at s.processors k p at) in
    change_sees (own_step goal Take) k drained found.0 found.1
    ∙ (λ i. set (same i) k (seen_after Take (found.2 i)))

-- what an event leaves to be seen of all
pub step_sees : (goal : RegisterFile) (e : Event) (k : ℕ) (s : System) (p : Processor) → slice_get s.processors k ≡ Some p → seen_of (step goal e k s).processors ≡ set (seen_of s.processors) k (seen_after e (seen p))
step_sees goal Take k s p at = taken_sees goal k s p at
step_sees goal (WriteBack a v) k s p at =
    change_sees (own_step goal (WriteBack a v)) k (before_own (WriteBack a v) k s) p at
    ∙ ap (set (seen_of s.processors) k) (own_seen goal (WriteBack a v) p)
step_sees goal other k s p at =
    change_sees (own_step goal other) k s p at ∙ ap (set (seen_of s.processors) k) (own_seen goal other p)
