-- What makes a system sound, in the forms that each event is seen to keep.
use Rattle.std.proofs.Common.{◌≡◌, ℕ, ◌-◌, ◌^◌, ◌<◌, ◌%◌, ◌==◌, List, [], length, Some, None, Bool, true, false, refl, sym, ap, subst, ◌∙◌, arith, ◌≤◌}
use Rattle.std.specs.Prelude.{slice_get, nat_lt, not, is_some, IsTrue}
use Rattle.std.specs.List.{All, AllPairs, list_all, list_any}
use Rattle.std.proofs.lemmas.Bool.{lt-ltb, ltb-true}
use Rattle.std.proofs.lemmas.Option.{slice_get-get_or}
use Rattle.mt_regs.specs.RegisterFile.{IsRegisterFile, page_count}
use Rattle.mt_regs.specs.Registers.{writable}
use Rattle.mt_cache.specs.declared.line.CacheLine.{CacheLine}
use Rattle.mt_cache.specs.Lines.{IsLine}
use Rattle.mt_tlb.specs.declared.entry.Entry.{Entry}
use Rattle.mt_tlb.specs.declared.mapping.Mapping.{Mapping}
use Rattle.mt_machine.specs.declared.phase.Phase.{Phase}
use Rattle.mt_machine.specs.declared.phase.Phase.TheVariants.{Running}
use Rattle.mt_machine.specs.Access.{is_running}
use Rattle.mt_machine.specs.Memory.{Memory, Window, IsMemory, AreApart, word_count, place, word_address, window_end}
use Rattle.mt_machine.specs.System.{Processor, System, IsProcessor, IsSound, is_tlb_flushed, is_writing}
use Rattle.mt_laws.proofs.Barrier.Claims.{all_get}
use Rattle.mt_laws.proofs.Clearing.Follows.{IsLocal}
use Rattle.mt_laws.proofs.Words.LineLaws.{fits, is_placed}
use Rattle.mt_laws.proofs.Words.BusLaws.{fit_at, fits_placed, fits_eight, fits_bits}
use Rattle.mt_laws.proofs.Words.Agreement.{Agrees}
use Rattle.mt_laws.proofs.Words.Sound.{all_test, test_all, placed_windows, pairs_of_apart, sound_agrees, agrees_coherent}
use Rattle.mt_laws.proofs.Translations.Tidy.{AllTidy}
use Rattle.mt_laws.proofs.Registers.Accepted.{EachAccepted}
use Rattle.mt_lists.proofs.Keys.{from_apart, to_apart}

-- from the first flush of the TLB on it holds no entry
abbrev pub IsFlushed : Processor → Type 0
IsFlushed p = is_tlb_flushed p.phase ≡ true → p.entries ≡ []

pub flushed_runs : (ph : Phase) → is_running ph ≡ true → is_tlb_flushed ph ≡ false
flushed_runs Running h = refl
flushed_runs other h = absurd (cc)

pub record Parts (ws : List Window) (s : System) : Type 0 where
  pub agrees : Agrees ws (record { system = s; order = None })
  pub tidy : AllTidy s.processors
  pub files : (i : ℕ) (p : Processor) → slice_get s.processors i ≡ Some p → IsRegisterFile p.file
  pub accepted : EachAccepted s.processors
  pub ranges : (i : ℕ) (p : Processor) → slice_get s.processors i ≡ Some p → (j : ℕ) → is_writing p.phase ≡ Some j → j < length (writable p.file)
  pub local : (i : ℕ) (p : Processor) → slice_get s.processors i ≡ Some p → IsLocal p
  pub flushed : (i : ℕ) (p : Processor) → slice_get s.processors i ≡ Some p → IsFlushed p

module _ (ws : List Window) (s : System) (parts : Parts ws s) where
  lines_in : (ls : List CacheLine) → list_all (fits ws) ls ≡ true → All (λ (l : CacheLine). is_some (place s.memory (word_address l.number 0)) ≡ true) ls
  lines_in ls h = test_all (fits ws) (λ (l : CacheLine). is_some (place s.memory (word_address l.number 0)) ≡ true)
      (λ l g. placed_windows s.memory l.number ∙ ap (λ (v : List Window). is_placed v l.number) parts.agrees.stands.memory.windows ∙ fits_placed ws l g) ls h

  whole_lines : (ls : List CacheLine) → list_all (fits ws) ls ≡ true → All IsLine ls
  whole_lines ls h = test_all (fits ws) IsLine (λ l g. record { eight_words = fits_eight ws l g; eight_bits = (let b = fits_bits ws l g in omega arith) }) ls h

  off_of : (e : Entry) → not e.global ≡ true → e.global ≡ false
  off_of e h = one e.global h
    where
      one : (b : Bool) → not b ≡ true → b ≡ false
      one true g = absurd (cc)
      one false g = refl

  pub part_processor : (i : ℕ) (p : Processor) → slice_get s.processors i ≡ Some p → IsProcessor p
  part_processor i p at =
      let t = parts.tidy i p at in
      let f = fit_at ws s.processors i p parts.agrees.stands.fit at in
      record {
        register_file = parts.files i p at;
        local_entries = λ off. test_all (λ (e : Entry). not e.global) (λ (e : Entry). e.global ≡ false) off_of p.entries (parts.local i p at off);
        mapped = test_all (λ (e : Entry). list_any (λ (m : Mapping). m.vpage == e.vpage) p.mappings) (λ (e : Entry). IsTrue (list_any (λ (m : Mapping). m.vpage == e.vpage) p.mappings)) (λ e g. g) p.entries t.mapped;
        accepted = parts.accepted i p at;
        in_range = parts.ranges i p at;
        indexes = test_all (λ (m : Mapping). nat_lt m.index 8) (λ (m : Mapping). m.index < 8) (λ m g. ltb-true m.index 8 g) p.mappings t.indexes;
        mapped_pages = test_all (λ (m : Mapping). nat_lt m.ppage (2 ^ (p.file.width - 12))) (λ (m : Mapping). m.ppage < page_count p.file) (λ m g. ltb-true m.ppage (2 ^ (p.file.width - 12)) g) p.mappings t.mapped_pages;
        entry_pages = test_all (λ (e : Entry). nat_lt e.ppage (2 ^ (p.file.width - 12))) (λ (e : Entry). e.ppage < page_count p.file) (λ e g. ltb-true e.ppage (2 ^ (p.file.width - 12)) g) p.entries t.entry_pages;
        few_mappings = t.few_mappings;
        distinct_mappings = from_apart (λ (m : Mapping). m.vpage) p.mappings t.mappings_apart;
        flushed = parts.flushed i p at;
        few_entries = t.few_entries;
        distinct_entries = from_apart (λ (e : Entry). e.vpage) p.entries t.entries_apart;
        few_lines = f.few_lines;
        few_buffers = f.few_buffers;
        distinct_lines = pairs_of_apart p.lines f.lines_apart;
        distinct_buffers = pairs_of_apart p.buffers f.buffers_apart;
        whole_lines = whole_lines p.lines f.lines_fit;
        whole_buffers = whole_lines p.buffers f.buffers_fit;
      }

  each_of : (P : Processor → Type 0) → ((i : ℕ) (p : Processor) → slice_get s.processors i ≡ Some p → P p) → All P s.processors
  each_of P h k d within = h k _ (slice_get-get_or s.processors k d within)

  pub parts_sound : IsMemory s.memory → IsSound s
  parts_sound memory = record {
    memory = memory;
    coherent = agrees_coherent ws (record { system = s; order = None }) parts.agrees;
    lines_in_memory = each_of (λ p. All (λ (l : CacheLine). is_some (place s.memory (word_address l.number 0)) ≡ true) p.lines) (λ i p at. lines_in p.lines (fit_at ws s.processors i p parts.agrees.stands.fit at).lines_fit);
    buffers_in_memory = each_of (λ p. All (λ (l : CacheLine). is_some (place s.memory (word_address l.number 0)) ≡ true) p.buffers) (λ i p at. lines_in p.buffers (fit_at ws s.processors i p parts.agrees.stands.fit at).buffers_fit);
    each = each_of IsProcessor part_processor;
  }

-- memory keeps its windows
pub memory_of : (a b : Memory) → b.windows ≡ a.windows → length b.words ≡ word_count a.windows → IsMemory a → IsMemory b
memory_of a b windows counted h = record {
  some_lines = subst (λ (v : List Window). All (λ w. 0 < w.lines) v) (sym windows) h.some_lines;
  aligned = subst (λ (v : List Window). All (λ w. w.base % 64 ≡ 0) v) (sym windows) h.aligned;
  bounded = subst (λ (v : List Window). All (λ w. window_end w ≤ 2 ^ 52) v) (sym windows) h.bounded;
  apart = subst (λ (v : List Window). AllPairs AreApart v) (sym windows) h.apart;
  counted = counted ∙ ap word_count (sym windows);
}

-- ---- a sound system has these parts

pub sound_tidy : (s : System) → IsSound s → AllTidy s.processors
sound_tidy s h i p at =
    let own = all_get IsProcessor s.processors h.each i p at in
    record {
      mapped = all_test (λ (e : Entry). list_any (λ (m : Mapping). m.vpage == e.vpage) p.mappings) (λ (e : Entry). list_any (λ (m : Mapping). m.vpage == e.vpage) p.mappings ≡ true) (λ e g. g) p.entries own.mapped;
      indexes = all_test (λ (m : Mapping). nat_lt m.index 8) (λ (m : Mapping). m.index < 8) (λ m g. lt-ltb m.index 8 g) p.mappings own.indexes;
      mapped_pages = all_test (λ (m : Mapping). nat_lt m.ppage (2 ^ (p.file.width - 12))) (λ (m : Mapping). m.ppage < page_count p.file) (λ m g. lt-ltb m.ppage (2 ^ (p.file.width - 12)) g) p.mappings own.mapped_pages;
      entry_pages = all_test (λ (e : Entry). nat_lt e.ppage (2 ^ (p.file.width - 12))) (λ (e : Entry). e.ppage < page_count p.file) (λ e g. lt-ltb e.ppage (2 ^ (p.file.width - 12)) g) p.entries own.entry_pages;
      few_mappings = own.few_mappings;
      mappings_apart = to_apart (λ (m : Mapping). m.vpage) p.mappings own.distinct_mappings;
      few_entries = own.few_entries;
      entries_apart = to_apart (λ (e : Entry). e.vpage) p.entries own.distinct_entries;
    }

pub sound_parts : (s : System) → IsSound s → Parts s.memory.windows s
sound_parts s h = record {
  agrees = sound_agrees (record { system = s; order = None }) h;
  tidy = sound_tidy s h;
  files = λ i p at. (all_get IsProcessor s.processors h.each i p at).register_file;
  accepted = λ i p at. (all_get IsProcessor s.processors h.each i p at).accepted;
  ranges = λ i p at. (all_get IsProcessor s.processors h.each i p at).in_range;
  local = λ i p at off.
      all_test (λ (e : Entry). not e.global) (λ (e : Entry). e.global ≡ false) (λ e g. ap not g) p.entries ((all_get IsProcessor s.processors h.each i p at).local_entries off);
  flushed = λ i p at. (all_get IsProcessor s.processors h.each i p at).flushed;
}
