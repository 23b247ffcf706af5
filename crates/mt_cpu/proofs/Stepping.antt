-- What the events of a processor make of its lines, its entries and its registers.
use Rattle.std.proofs.Common.{◌≡◌, ℕ, suc, ◌+◌, ◌-◌, ◌*◌, ◌/◌, ◌<◌, ◌≤◌, ◌^◌, List, [], ◌∷◌, length, get_or, take, Some, Option, Bool, true, false, refl, sym, ap, subst, ◌∙◌, arith}
use Rattle.std.specs.Prelude.{if◌then◌else◌, slice_get, IsTrue}
use Rattle.std.specs.List.{All}
use Rattle.std.specs.Option.{option_map, option_map_or}
use Rattle.std.proofs.lemmas.Option.{get_or_from_slice_get, slice_get_within}
use Rattle.mt_regs.specs.RegisterFile.{IsRegisterFile, RegisterFile}
use Rattle.mt_regs.specs.declared.registers.Register.{Register}
use Rattle.mt_regs.specs.declared.registers.Register.TheVariants.{DefaultType}
use Rattle.mt_regs.specs.Registers.{value_of, writable}
use Rattle.mt_regs.specs.Faults.{IsAccepted}
use Rattle.mt_cache.specs.declared.line.CacheLine.{CacheLine}
use Rattle.mt_cache.specs.Lines.{change_line, clean_word, first_dirty_line, first_dirty_word}
use Rattle.mt_cache.specs.Calls.{change_at}
use Rattle.mt_tlb.specs.declared.entry.Entry.{Entry}
use Rattle.mt_tlb.specs.Entries.{global_entries}
use Rattle.mt_machine.specs.declared.event.Event.TheVariants.{WriteBack, DropLines, FlushTlb}
use Rattle.mt_machine.specs.declared.phase.Phase.{Phase}
use Rattle.mt_machine.specs.declared.phase.Phase.TheVariants.{NoFill, Flushed, TlbFlushed, Enabled}
use Rattle.mt_machine.specs.Memory.{word_of}
use Rattle.mt_machine.specs.System.{Processor, is_tlb_flushed}
use Rattle.mt_machine.specs.Control.{reload_cr3}
use Rattle.mt_machine.specs.Machine.{after_flush, flush_tlb, own_step, with_goal, write_back_event}
use Rattle.mt_machine.proofs.Files.{AgreeAll, alike_files, last_written}
use Rattle.mt_cpu.specs.Facts.{KeepsFacts}
use Rattle.mt_cpu.specs.Steps.{HasFirst, is_first_flushing}

-- ---- a dirty word is written back

-- what a list's element is past the end of the list
pub line_of_word : (n w : ℕ) → w < 8 → (64 * n + 8 * w) / 64 ≡ n
line_of_word n w within = omega arith

pub word_in_line : (n w : ℕ) → w < 8 → word_of (64 * n + 8 * w) ≡ w
word_in_line n w within = omega arith

pub event_of : (ls : List CacheLine) (i word : ℕ) (l : CacheLine) → slice_get ls i ≡ Some l → slice_get ls i ≡ first_dirty_line ls → option_map first_dirty_word (first_dirty_line ls) ≡ Some (Some word)
    → WriteBack (64 * l.number + 8 * word) (get_or l.words word 0) ≡ option_map_or write_back_event (first_dirty_line ls) DropLines
event_of ls i word l here line dirty =
    sym (ap (λ (o : Option CacheLine). option_map_or write_back_event o DropLines) at
    ∙ ap (λ (o : Option ℕ). option_map_or (λ w. WriteBack (64 * l.number + 8 * w) (get_or l.words w 0)) o DropLines) first)
  where
    at : first_dirty_line ls ≡ Some l
    at = sym line ∙ here

    first : first_dirty_word l ≡ Some word
    first = let h : Some (first_dirty_word l) ≡ Some (Some word) = sym (ap (option_map first_dirty_word) at) ∙ dirty in cc

pub cleaned : (ls : List CacheLine) (i word : ℕ) (l : CacheLine) → slice_get ls i ≡ Some l → word < 8
    → change_at i (clean_word word) ls ≡ change_line ((64 * l.number + 8 * word) / 64) (clean_word (word_of (64 * l.number + 8 * word))) ls
cleaned ls i word l here small =
    ap (λ (o : Option CacheLine). option_map_or (λ (k : CacheLine). change_line k.number (clean_word word) ls) o ls) here
    ∙ ap (λ n. change_line n (clean_word word) ls) (sym (line_of_word l.number word small))
    ∙ ap (λ w. change_line ((64 * l.number + 8 * word) / 64) (clean_word w) ls) (sym (word_in_line l.number word small))

pub number_within : (ls now : List CacheLine) (i : ℕ) (l : CacheLine) → ls ≡ now → slice_get ls i ≡ Some l → All (λ k. k.number < 2 ^ 46) now → l.number < 2 ^ 46
number_within ls now i l seen here small =
    subst (λ (k : CacheLine). k.number < 2 ^ 46) (get_or_from_slice_get ls i l l here) (subst (λ (xs : List CacheLine). All (λ k. k.number < 2 ^ 46) xs) (sym seen) small i l (slice_get_within ls i l here))

-- ---- the TLB is flushed

pub no_globals : (es : List Entry) → All (λ e. e.global ≡ false) es → global_entries es ≡ []
no_globals [] local = refl
no_globals (e ∷ es) local =
    ap (λ b. if b then e ∷ global_entries es else global_entries es) (local 0 e (omega arith))
    ∙ no_globals es (λ k d within. local (suc k) d (omega arith))

pub flushed_step : (goal : RegisterFile) (p : Processor) → IsTrue (is_first_flushing p.phase) → KeepsFacts p → record p { page_global = false; remembered_global = p.page_global; entries = []; phase = TlbFlushed } ≡ own_step goal FlushTlb p
flushed_step goal p flushing facts =
    one p.page_global refl
    ∙ by_phase p.phase flushing
  where
    by_phase : (ph : Phase) → IsTrue (is_first_flushing ph) → record (flush_tlb Flushed p) { phase = TlbFlushed } ≡ record (flush_tlb ph p) { phase = after_flush ph }
    by_phase NoFill on = refl
    by_phase Flushed on = refl
    by_phase other on = absurd (cc)

    one : (b : Bool) → p.page_global ≡ b → record p { page_global = false; remembered_global = p.page_global; entries = []; phase = TlbFlushed } ≡ record (flush_tlb Flushed p) { phase = TlbFlushed }
    one true is =
        ap (λ b. record p { page_global = false; remembered_global = b; entries = []; phase = TlbFlushed }) is
        ∙ sym (ap (λ b. record (if b then record p { remembered_global = true; page_global = false; entries = [] } else record (reload_cr3 p) { remembered_global = false }) { phase = TlbFlushed }) is)
    one false is =
        ap (λ b. record p { page_global = false; remembered_global = b; entries = []; phase = TlbFlushed }) is
        ∙ sym (ap (λ b. record p { page_global = b; remembered_global = false; entries = []; phase = TlbFlushed }) is)
        ∙ sym (ap (λ (es : List Entry). record p { remembered_global = false; entries = es; phase = TlbFlushed }) (no_globals p.entries (facts.local_entries is)))
        ∙ sym (ap (λ b. record (if b then record p { remembered_global = true; page_global = false; entries = [] } else record (reload_cr3 p) { remembered_global = false }) { phase = TlbFlushed }) is)

-- ---- the last register is written

agree : (goal f : RegisterFile) (rs : List Register) → All (λ r. value_of f r ≡ value_of goal r) rs → AgreeAll goal f rs
agree goal f [] all = tt
agree goal f (r ∷ rs) all = (all 0 r (omega arith), agree goal f rs (λ k d within. all (suc k) d (omega arith)))

pub enabled_facts : (goal f : RegisterFile) (p : Processor) → f ≡ goal → IsAccepted goal → goal.width ≡ p.file.width → is_tlb_flushed p.phase ≡ true → KeepsFacts p → KeepsFacts (record p { file = f; phase = Enabled })
enabled_facts goal f p is accepted width on h = record {
  local_entries = h.local_entries;
  mapped = h.mapped;
  accepted = λ _. subst IsAccepted (sym is) accepted;
  in_range = λ i none. absurd (cc);
  indexes = h.indexes;
  mapped_pages = subst (λ w. All (λ m. m.ppage < 2 ^ (w - 12)) p.mappings) same h.mapped_pages;
  entry_pages = subst (λ w. All (λ e. e.ppage < 2 ^ (w - 12)) p.entries) same h.entry_pages;
  flushed = λ _. h.flushed on;
}
  where
    same : p.file.width ≡ f.width
    same = sym (ap (λ (g : RegisterFile). g.width) is ∙ width)

pub file_is_goal : (goal f : RegisterFile) (i : ℕ) → IsRegisterFile goal → IsRegisterFile f → goal.width ≡ f.width → goal.capabilities ≡ f.capabilities → i < length (writable f) → length (writable f) ≤ i + 1 → HasFirst i goal f → with_goal goal DefaultType f ≡ goal
file_is_goal goal f i is_goal is_file width capabilities within last first =
    last_written goal f i (subst (λ n. i < n) long within) (subst (λ n. n ≤ i + 1) long last) is_goal
    (alike_files goal f is_goal is_file (sym width) (sym capabilities)) (agree goal f (take i (writable goal)) first)
  where
    long : length (writable f) ≡ length (writable goal)
    long = ap (λ c. length (writable (record goal { capabilities = c }))) (sym capabilities)
