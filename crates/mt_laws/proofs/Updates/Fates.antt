-- What becomes of a processor in a whole update, by the processor that it was before.
use Rattle.std.proofs.Common.{◌≡◌, ℕ, ◌+◌, List, [], length, Some, None, Option, Bool, true, false, refl, sym, ap, subst, ◌∙◌}
use Rattle.std.specs.Prelude.{slice_index, if◌then◌else◌, nat_lt}
use Rattle.std.specs.Option.{option_map_or}
use Rattle.mt_regs.specs.Registers.{writable}
use Rattle.mt_machine.specs.declared.phase.Phase.{Phase}
use Rattle.mt_machine.specs.declared.phase.Phase.TheVariants.{Running, Taken, Arrived, Passed, NoFill, Flushed, TlbFlushed, Writing, Enabled, Flushed2, TlbFlushed2, Normal, Restored, Arrived2}
use Rattle.mt_machine.specs.declared.event.Event.{Event}
use Rattle.mt_machine.specs.declared.event.Event.TheVariants.{Arrive, Leave, Pass, SetNoFill, WriteBack, DropLines, FlushTlb, Disable, Write, Enable, SetNormal, RestorePge, ArriveAgain, Release}
use Rattle.mt_machine.specs.Memory.{word_address}
use Rattle.mt_cache.specs.Lines.{first_dirty_line, first_dirty_word}
use Rattle.mt_machine.specs.System.{Processor, is_tlb_flushed}
use Rattle.mt_machine.specs.Access.{is_running}
use Rattle.mt_machine.specs.Control.{reload_cr3}
use Rattle.mt_machine.specs.Machine.{Order, due, own_step, is_cancelled, has_released, first_barrier_open, second_barrier_open, write_back_event, write_back_or_drop, flush_tlb, after_flush, after_drop}
use Rattle.mt_machine.specs.Update.{settled_processor}
use Rattle.mt_machine.proofs.Rows.{first_flush_case}
use Rattle.mt_laws.proofs.Clearing.Cleared.{Clear, lines_gone, buffers_gone, entries_gone}
use Rattle.mt_laws.proofs.Registers.Filed.{FiledAt, is_done}

-- the phases with caching back, and with PGE back
abbrev pub is_caching : Phase → Bool
is_caching Normal = true
is_caching Restored = true
is_caching Arrived2 = true
is_caching other = false

abbrev pub is_restored : Phase → Bool
is_restored Restored = true
is_restored Arrived2 = true
is_restored other = false

-- q is what became of p
pub record Fate (o : Order) (p q : Processor) : Type 0 where
  pub mappings : q.mappings ≡ p.mappings
  pub plain : is_tlb_flushed q.phase ≡ false → q.page_global ≡ p.page_global
  pub stripped : is_tlb_flushed q.phase ≡ true → q.remembered_global ≡ p.page_global
  pub caching : is_caching q.phase ≡ true → q.cache_disabled ≡ false
  pub forgotten : is_restored q.phase ≡ true → q.remembered_global ≡ false
  pub era : has_released o q ≡ false → q.era ≡ p.era
  pub self_snoop : q.self_snoop ≡ p.self_snoop
  pub settled : has_released o q ≡ true → q ≡ settled_processor o.goal p

module _ (o : Order) (ps : List Processor) (p q : Processor) (f : Fate o p q) (clear : Clear o q) (filed : FiledAt o q) (behind : has_released o q ≡ false) where
  -- a step that leaves all that is named
  carry : (ph : Phase) (r : Processor) → q.phase ≡ ph → r.mappings ≡ q.mappings → r.page_global ≡ q.page_global → r.remembered_global ≡ q.remembered_global → r.cache_disabled ≡ q.cache_disabled → r.era ≡ q.era → r.self_snoop ≡ q.self_snoop
      → is_tlb_flushed r.phase ≡ is_tlb_flushed ph → (is_caching r.phase ≡ true → is_caching ph ≡ true) → (is_restored r.phase ≡ true → is_restored ph ≡ true) → Fate o p r
  carry ph r same mappings pge remembered cd era snoop to_stripped to_caching to_restored = record {
    mappings = mappings ∙ f.mappings;
    plain = λ h. pge ∙ f.plain (ap is_tlb_flushed same ∙ sym to_stripped ∙ h);
    stripped = λ h. remembered ∙ f.stripped (ap is_tlb_flushed same ∙ sym to_stripped ∙ h);
    caching = λ h. cd ∙ f.caching (ap is_caching same ∙ to_caching h);
    forgotten = λ h. remembered ∙ f.forgotten (ap is_restored same ∙ to_restored h);
    era = λ h. era ∙ f.era behind;
    self_snoop = snoop ∙ f.self_snoop;
    settled = λ h. absurd (let off : has_released o r ≡ false = ap (nat_lt o.from_era) era ∙ behind in cc);
  }

  abbrev Next : Event → Type 0
  Next w = Fate o p (own_step o.goal w q)

  option_case : {X Y : Type 0} → (x : Option X) (g : X → Y) (d : Y) (P : Y → Type 0) → P d → ((y : X) → P (g y)) → P (option_map_or g x d)
  option_case None g d P none some = none
  option_case (Some y) g d P none some = some y

  drains : (ph : Phase) (w : Event) → q.phase ≡ ph → is_tlb_flushed (after_drop ph) ≡ is_tlb_flushed ph → (is_caching (after_drop ph) ≡ true → is_caching ph ≡ true) → (is_restored (after_drop ph) ≡ true → is_restored ph ≡ true) → Some (write_back_or_drop q) ≡ Some w → Next w
  drains ph w same strip cache back h =
      let is : write_back_or_drop q ≡ w = cc in
      let dropped : Next DropLines = carry ph (own_step o.goal DropLines q) same refl refl refl refl refl refl (ap (λ v. is_tlb_flushed (after_drop v)) same ∙ strip)
      (λ d. cache (ap (λ v. is_caching (after_drop v)) (sym same) ∙ d)) (λ d. back (ap (λ v. is_restored (after_drop v)) (sym same) ∙ d)) in
      let wrote : (a v : ℕ) → Next (WriteBack a v) = λ a v. carry ph (own_step o.goal (WriteBack a v) q) same refl refl refl refl refl refl (ap is_tlb_flushed same)
      (λ d. ap is_caching (sym same) ∙ d) (λ d. ap is_restored (sym same) ∙ d) in
      subst Next is
      (option_case (first_dirty_line q.lines) write_back_event DropLines Next dropped
      (λ l. option_case (first_dirty_word l) _ DropLines Next dropped
      (λ word. wrote (word_address l.number word) (slice_index l.words word))))

  -- PGE is remembered and cleared
  flushes : (ph : Phase) → q.phase ≡ ph → is_tlb_flushed ph ≡ false → after_flush ph ≡ TlbFlushed → flush_tlb ph q ≡ flush_tlb Flushed q → Next FlushTlb
  flushes ph same plain to first =
      subst (λ (v : Processor × Phase). Fate o p (record (v.0) { phase = v.1 })) (λ i. (sym (ap (λ v. flush_tlb v q) same ∙ first) i, sym (ap after_flush same ∙ to) i)) (one q.page_global refl)
    where
      was : q.page_global ≡ p.page_global
      was = f.plain (ap is_tlb_flushed same ∙ plain)

      made : (r : Processor) → r.phase ≡ TlbFlushed → r.mappings ≡ q.mappings → r.remembered_global ≡ q.page_global → r.era ≡ q.era → r.self_snoop ≡ q.self_snoop → Fate o p r
      made r at mappings remembered era snoop = record {
        mappings = mappings ∙ f.mappings;
        plain = λ h. absurd (let e = ap is_tlb_flushed at in cc);
        stripped = λ h. remembered ∙ was;
        caching = λ h. absurd (let e = ap is_caching at in cc);
        forgotten = λ h. absurd (let e = ap is_restored at in cc);
        era = λ h. era ∙ f.era behind;
        self_snoop = snoop ∙ f.self_snoop;
        settled = λ h. absurd (let off : has_released o r ≡ false = ap (nat_lt o.from_era) era ∙ behind in cc);
      }

      one : (b : Bool) → q.page_global ≡ b → Fate o p (record (if b then record q { remembered_global = true; page_global = false; entries = [] } else record (reload_cr3 q) { remembered_global = false }) { phase = TlbFlushed })
      one true is = made _ refl refl (sym is) refl refl
      one false is = made _ refl refl (sym is) refl refl

  flushes_again : q.phase ≡ Flushed2 → Next FlushTlb
  flushes_again same = subst (λ (v : Phase). Fate o p (record (flush_tlb v q) { phase = after_flush v })) (sym same)
      (carry Flushed2 (record (reload_cr3 q) { phase = TlbFlushed2 }) same refl refl refl refl refl refl refl (λ d. absurd (cc)) (λ d. absurd (cc)))

  no_fills : q.phase ≡ Passed → Next SetNoFill
  no_fills same = record {
    mappings = f.mappings;
    plain = λ h. f.plain (ap is_tlb_flushed same);
    stripped = λ h. absurd (cc);
    caching = λ h. absurd (cc);
    forgotten = λ h. absurd (cc);
    era = λ h. f.era behind;
    self_snoop = f.self_snoop;
    settled = λ h. absurd (cc);
  }

  caches : q.phase ≡ TlbFlushed2 → Next SetNormal
  caches same = record {
    mappings = f.mappings;
    plain = λ h. absurd (cc);
    stripped = λ h. f.stripped (ap is_tlb_flushed same);
    caching = λ h. refl;
    forgotten = λ h. absurd (cc);
    era = λ h. f.era behind;
    self_snoop = f.self_snoop;
    settled = λ h. absurd (cc);
  }

  restores : q.phase ≡ Normal → Next RestorePge
  restores same = record {
    mappings = f.mappings;
    plain = λ h. f.stripped (ap is_tlb_flushed same);
    stripped = λ h. absurd (cc);
    caching = λ h. f.caching (ap is_caching same);
    forgotten = λ h. refl;
    era = λ h. f.era behind;
    self_snoop = f.self_snoop;
    settled = λ h. absurd (cc);
  }

  releases : q.phase ≡ Arrived2 → nat_lt o.from_era (q.era + 1) ≡ true → Next Release
  releases same above = record {
    mappings = f.mappings;
    plain = λ h. global;
    stripped = λ h. absurd (cc);
    caching = λ h. absurd (cc);
    forgotten = λ h. absurd (cc);
    era = λ h. absurd (cc);
    self_snoop = f.self_snoop;
    settled = λ h. made;
  }
    where
      global : q.page_global ≡ p.page_global
      global = f.plain (ap is_tlb_flushed same)

      made : own_step o.goal Release q ≡ settled_processor o.goal p
      made =
          let file = filed.done (ap is_done same) in
          let cd = f.caching (ap is_caching same) in
          let remembered = f.forgotten (ap is_restored same) in
          let lines = clear.no_lines (ap lines_gone same) in
          let buffers = clear.no_buffers (ap buffers_gone same) in
          let entries = clear.no_entries (ap entries_gone same) in
          let era = f.era behind in
          λ i. record { file = file i; cache_disabled = cd i; page_global = global i; remembered_global = remembered i; mappings = f.mappings i; lines = lines i; buffers = buffers i; entries = entries i; phase = Running; era = era i + 1; self_snoop = f.self_snoop i }

  from_taken : (b : Bool) (w : Event) → q.phase ≡ Taken → Some (if b then Leave else Arrive) ≡ Some w → Next w
  from_taken true w same h = subst Next (let v : Leave ≡ w = cc in v) (carry Taken (own_step o.goal Leave q) same refl refl refl refl refl refl refl (λ d. absurd (cc)) (λ d. absurd (cc)))
  from_taken false w same h = subst Next (let v : Arrive ≡ w = cc in v) (carry Taken (own_step o.goal Arrive q) same refl refl refl refl refl refl refl (λ d. absurd (cc)) (λ d. absurd (cc)))

  from_arrived : (b c : Bool) (w : Event) → q.phase ≡ Arrived → (if b then Some Leave else (if c then Some Pass else None)) ≡ Some w → Next w
  from_arrived true c w same h = subst Next (let v : Leave ≡ w = cc in v) (carry Arrived (own_step o.goal Leave q) same refl refl refl refl refl refl refl (λ d. absurd (cc)) (λ d. absurd (cc)))
  from_arrived false false w same h = absurd (cc)
  from_arrived false true w same h = subst Next (let v : Pass ≡ w = cc in v) (carry Arrived (own_step o.goal Pass q) same refl refl refl refl refl refl refl (λ d. absurd (cc)) (λ d. absurd (cc)))

  from_writing : (j : ℕ) (b : Bool) (w : Event) → q.phase ≡ Writing j → Some (if b then Write j else Enable) ≡ Some w → Next w
  from_writing j true w same h = subst Next (let v : Write j ≡ w = cc in v) (carry (Writing j) (own_step o.goal (Write j) q) same refl refl refl refl refl refl refl (λ d. absurd (cc)) (λ d. absurd (cc)))
  from_writing j false w same h = subst Next (let v : Enable ≡ w = cc in v) (carry (Writing j) (own_step o.goal Enable q) same refl refl refl refl refl refl refl (λ d. absurd (cc)) (λ d. absurd (cc)))

  from_again : (c : Bool) (w : Event) → q.phase ≡ Arrived2 → nat_lt o.from_era (q.era + 1) ≡ true → (if c then Some Release else None) ≡ Some w → Next w
  from_again false w same above h = absurd (cc)
  from_again true w same above h = subst Next (let v : Release ≡ w = cc in v) (releases same above)

  pub fate_step : (ph : Phase) (w : Event) → q.phase ≡ ph → is_running ph ≡ false → nat_lt o.from_era (q.era + 1) ≡ true → due o ps q ph ≡ Some w → Next w
  fate_step Running w same quiet above h = absurd (cc)
  fate_step Taken w same quiet above h = from_taken (is_cancelled o.go) w same h
  fate_step Arrived w same quiet above h = from_arrived (is_cancelled o.go) (first_barrier_open o ps) w same h
  fate_step Passed w same quiet above h = subst Next (let v : SetNoFill ≡ w = cc in v) (no_fills same)
  fate_step NoFill w same quiet above h = first_flush_case q w h (λ on is. subst Next is (flushes NoFill same refl refl refl)) (λ off. drains NoFill w same refl (λ d. absurd (cc)) (λ d. absurd (cc)))
  fate_step Flushed w same quiet above h = subst Next (let v : FlushTlb ≡ w = cc in v) (flushes Flushed same refl refl refl)
  fate_step TlbFlushed w same quiet above h = subst Next (let v : Disable ≡ w = cc in v) (carry TlbFlushed (own_step o.goal Disable q) same refl refl refl refl refl refl refl (λ d. absurd (cc)) (λ d. absurd (cc)))
  fate_step (Writing j) w same quiet above h = from_writing j (nat_lt (j + 1) (length (writable q.file))) w same h
  fate_step Enabled w same quiet above h = drains Enabled w same refl (λ d. absurd (cc)) (λ d. absurd (cc)) h
  fate_step Flushed2 w same quiet above h = subst Next (let v : FlushTlb ≡ w = cc in v) (flushes_again same)
  fate_step TlbFlushed2 w same quiet above h = subst Next (let v : SetNormal ≡ w = cc in v) (caches same)
  fate_step Normal w same quiet above h = subst Next (let v : RestorePge ≡ w = cc in v) (restores same)
  fate_step Restored w same quiet above h = subst Next (let v : ArriveAgain ≡ w = cc in v) (carry Restored (own_step o.goal ArriveAgain q) same refl refl refl refl refl refl refl (λ d. refl) (λ d. refl))
  fate_step Arrived2 w same quiet above h = from_again (second_barrier_open o ps) w same above h
