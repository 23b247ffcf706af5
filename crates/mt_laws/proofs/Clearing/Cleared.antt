-- What the update clears: lines, buffers and entries are gone from the phases named here on, and what a released processor holds has the new era.
use Rattle.std.proofs.Common.{◌≡◌, ℕ, ◌+◌, ◌/◌, List, [], ◌∷◌, Some, None, Option, Bool, true, false, refl, sym, ap, subst, ◌∙◌}
use Rattle.std.specs.Prelude.{slice_index, if◌then◌else◌, nat_lt, ◌==◌, not, ◌&&◌}
use Rattle.std.specs.List.{list_all, filter}
use Rattle.std.specs.Option.{option_map_or}
use Rattle.mt_cache.specs.declared.line.CacheLine.{CacheLine}
use Rattle.mt_tlb.specs.declared.entry.Entry.{Entry}
use Rattle.mt_machine.specs.declared.phase.Phase.{Phase}
use Rattle.mt_machine.specs.declared.phase.Phase.TheVariants.{Running, Taken, Arrived, Passed, NoFill, Flushed, TlbFlushed, Writing, Enabled, Flushed2, TlbFlushed2, Normal, Restored, Arrived2}
use Rattle.mt_machine.specs.declared.event.Event.{Event}
use Rattle.mt_machine.specs.declared.event.Event.TheVariants.{Arrive, Leave, Pass, SetNoFill, WriteBack, DropLines, FlushTlb, Disable, Write, Enable, SetNormal, RestorePge, ArriveAgain, Release}
use Rattle.mt_machine.specs.Memory.{word_address, word_of}
use Rattle.mt_cache.specs.Lines.{first_dirty_line, first_dirty_word, clean_word}
use Rattle.mt_machine.specs.System.{Processor}
use Rattle.mt_machine.specs.Access.{is_running}
use Rattle.mt_machine.specs.Control.{reload_cr3}
use Rattle.mt_machine.specs.Machine.{Order, due, own_step, is_cancelled, has_released, first_barrier_open, second_barrier_open, write_back_event, write_back_or_drop, flush_tlb, after_flush, after_drop}
use Rattle.mt_machine.proofs.Rows.{first_flush_case}
use Rattle.mt_laws.proofs.Clearing.Follows.{passes, passes_entries, Grows, IsLocal, passes_change}

-- the phases in which a processor has no line, no buffer, no entry. A self-snooping one keeps its lines up to the second flush
abbrev pub lines_gone : Phase → Bool
lines_gone Flushed2 = true
lines_gone TlbFlushed2 = true
lines_gone Normal = true
lines_gone Restored = true
lines_gone Arrived2 = true
lines_gone other = false

abbrev pub buffers_gone : Phase → Bool
buffers_gone ph = not (is_running ph)

abbrev pub entries_gone : Phase → Bool
entries_gone Running = false
entries_gone Taken = false
entries_gone Arrived = false
entries_gone Passed = false
entries_gone NoFill = false
entries_gone Flushed = false
entries_gone other = true

abbrev pub is_new : Order → ℕ → Bool
is_new o era = era == o.from_era + 1

pub record Clear (o : Order) (p : Processor) : Type 0 where
  pub no_lines : lines_gone p.phase ≡ true → p.lines ≡ []
  pub no_buffers : buffers_gone p.phase ≡ true → p.buffers ≡ []
  pub no_entries : entries_gone p.phase ≡ true → p.entries ≡ []
  pub new_lines : has_released o p ≡ true → passes (is_new o) p.lines ≡ true
  pub new_buffers : has_released o p ≡ true → passes (is_new o) p.buffers ≡ true
  pub new_entries : has_released o p ≡ true → passes_entries (is_new o) p.entries ≡ true
  pub local : IsLocal p

-- ---- lists of which no element passes

pub none_of : {X : Type 0} → (xs : List X) → list_all (λ (x : X). false) xs ≡ true → xs ≡ []
none_of [] h = refl
none_of (x ∷ xs) h = absurd (cc)

pub none_passes : {X : Type 0} → (test : X → Bool) (xs : List X) → xs ≡ [] → list_all test xs ≡ true
none_passes test xs e = ap (list_all test) e

-- ---- an access of a running processor keeps it

pub gone_runs : (ph : Phase) → is_running ph ≡ true → (lines_gone ph ≡ false) × (buffers_gone ph ≡ false) × (entries_gone ph ≡ false)
gone_runs Running h = (refl, refl, refl)
gone_runs other h = absurd (cc)

-- mine holds only of a processor that runs, and then its era is the new one where it has released
pub clear_grows : (o : Order) (mine : Type 0) (p q : Processor) → (mine → is_running p.phase ≡ true) → (has_released o p ≡ true → is_new o p.era ≡ true) → Grows mine p q → Clear o p → Clear o q
clear_grows o mine p q runs era g c = record {
  no_lines = λ h. let there : lines_gone p.phase ≡ true = ap lines_gone (sym g.phase) ∙ h in
      none_of q.lines (g.lines (λ _. false) (λ m. absurd (let e = (gone_runs p.phase (runs m)).0 in cc)) (none_passes (λ (l : CacheLine). false) p.lines (c.no_lines there)));
  no_buffers = λ h. let there : buffers_gone p.phase ≡ true = ap buffers_gone (sym g.phase) ∙ h in
      none_of q.buffers (g.buffers (λ _. false) (λ m. absurd (let e = (gone_runs p.phase (runs m)).1 in cc)) (none_passes (λ (l : CacheLine). false) p.buffers (c.no_buffers there)));
  no_entries = λ h. let there : entries_gone p.phase ≡ true = ap entries_gone (sym g.phase) ∙ h in
      none_of q.entries (g.entries (λ _. false) (λ m. absurd (let e = (gone_runs p.phase (runs m)).2 in cc)) (none_passes (λ (e : Entry). false) p.entries (c.no_entries there)));
  new_lines = λ h. let r : has_released o p ≡ true = ap (nat_lt o.from_era) (sym g.era) ∙ h in g.lines (is_new o) (λ m. era r) (c.new_lines r);
  new_buffers = λ h. let r : has_released o p ≡ true = ap (nat_lt o.from_era) (sym g.era) ∙ h in g.buffers (is_new o) (λ m. era r) (c.new_buffers r);
  new_entries = λ h. let r : has_released o p ≡ true = ap (nat_lt o.from_era) (sym g.era) ∙ h in g.entries (is_new o) (λ m. era r) (c.new_entries r);
  local = g.local c.local;
}

-- ---- the processor's own steps keep it

module _ (o : Order) (ps : List Processor) (p : Processor) (c : Clear o p) (behind : is_running p.phase ≡ false → has_released o p ≡ false) where
  -- a step that leaves lines, buffers and entries
  carry : (ph : Phase) (q : Processor) → p.phase ≡ ph → q.lines ≡ p.lines → q.buffers ≡ p.buffers → q.entries ≡ p.entries → q.page_global ≡ p.page_global → q.era ≡ p.era
      → (lines_gone q.phase ≡ true → lines_gone ph ≡ true) → (buffers_gone q.phase ≡ true → buffers_gone ph ≡ true) → (entries_gone q.phase ≡ true → entries_gone ph ≡ true) → Clear o q
  carry ph q same lines buffers entries pge era to_lines to_buffers to_entries = record {
    no_lines = λ h. lines ∙ c.no_lines (ap lines_gone same ∙ to_lines h);
    no_buffers = λ h. buffers ∙ c.no_buffers (ap buffers_gone same ∙ to_buffers h);
    no_entries = λ h. entries ∙ c.no_entries (ap entries_gone same ∙ to_entries h);
    new_lines = λ h. ap (passes (is_new o)) lines ∙ c.new_lines (ap (nat_lt o.from_era) (sym era) ∙ h);
    new_buffers = λ h. ap (passes (is_new o)) buffers ∙ c.new_buffers (ap (nat_lt o.from_era) (sym era) ∙ h);
    new_entries = λ h. ap (passes_entries (is_new o)) entries ∙ c.new_entries (ap (nat_lt o.from_era) (sym era) ∙ h);
    local = λ off. ap (list_all (λ (e : Entry). not e.global)) entries ∙ c.local (sym pge ∙ off);
  }

  -- a step inside the update, after which no processor is released: what is left to show
  inside_of : (q : Processor) → is_running p.phase ≡ false → q.era ≡ p.era → (lines_gone q.phase ≡ true → q.lines ≡ []) → (buffers_gone q.phase ≡ true → q.buffers ≡ []) → (entries_gone q.phase ≡ true → q.entries ≡ []) → IsLocal q → Clear o q
  inside_of q quiet era lines buffers entries local = record {
    no_lines = lines;
    no_buffers = buffers;
    no_entries = entries;
    new_lines = λ h. absurd (not_yet h);
    new_buffers = λ h. absurd (not_yet h);
    new_entries = λ h. absurd (not_yet h);
    local = local;
  }
    where
      not_yet : has_released o q ≡ true → ⊥
      not_yet h = let a : has_released o p ≡ false = behind quiet in let b : has_released o p ≡ true = ap (nat_lt o.from_era) (sym era) ∙ h in cc

  abbrev Kept : Event → Type 0
  Kept e = Clear o (own_step o.goal e p)

  -- all of a processor in this phase is gone
  releases : p.phase ≡ Arrived2 → Kept Release
  releases same =
      let lines : p.lines ≡ [] = c.no_lines (ap lines_gone same) in
      let buffers : p.buffers ≡ [] = c.no_buffers (ap buffers_gone same) in
      let entries : p.entries ≡ [] = c.no_entries (ap entries_gone same) in
      record {
        no_lines = λ h. lines;
        no_buffers = λ h. buffers;
        no_entries = λ h. entries;
        new_lines = λ h. none_passes (λ (l : CacheLine). is_new o l.era) p.lines lines;
        new_buffers = λ h. none_passes (λ (l : CacheLine). is_new o l.era) p.buffers buffers;
        new_entries = λ h. none_passes (λ (e : Entry). is_new o e.era) p.entries entries;
        local = c.local;
      }

  drops : (ph : Phase) → p.phase ≡ ph → is_running ph ≡ false → buffers_gone ph ≡ true → (entries_gone (after_drop ph) ≡ true → entries_gone ph ≡ true) → Kept DropLines
  drops ph same quiet gone to_entries =
      inside_of (own_step o.goal DropLines p) (ap is_running same ∙ quiet) refl (λ h. refl)
      (λ h. c.no_buffers (ap buffers_gone same ∙ gone))
      (λ h. c.no_entries (ap entries_gone same ∙ to_entries (ap (λ v. entries_gone (after_drop v)) (sym same) ∙ h)))
      c.local

  writes_back : (ph : Phase) (address value : ℕ) → p.phase ≡ ph → is_running ph ≡ false → buffers_gone ph ≡ true → Kept (WriteBack address value)
  writes_back ph address value same quiet gone =
      inside_of (own_step o.goal (WriteBack address value) p) (ap is_running same ∙ quiet) refl
      (λ h. none_of _ (passes_change (λ _. false) (address / 64) (clean_word (word_of address)) (λ l. refl) p.lines (none_passes (λ (l : CacheLine). false) p.lines (c.no_lines h))))
      c.no_buffers
      c.no_entries
      c.local

  option_case : {X Y : Type 0} → (x : Option X) (f : X → Y) (d : Y) (P : Y → Type 0) → P d → ((y : X) → P (f y)) → P (option_map_or f x d)
  option_case None f d P none some = none
  option_case (Some y) f d P none some = some y

  drains : (ph : Phase) (e : Event) → p.phase ≡ ph → is_running ph ≡ false → buffers_gone ph ≡ true → (entries_gone (after_drop ph) ≡ true → entries_gone ph ≡ true) → Some (write_back_or_drop p) ≡ Some e → Kept e
  drains ph e same quiet gone to_entries h =
      let is : write_back_or_drop p ≡ e = cc in
      let dropped : Kept DropLines = drops ph same quiet gone to_entries in
      subst Kept is
      (option_case (first_dirty_line p.lines) write_back_event DropLines Kept dropped
      (λ l. option_case (first_dirty_word l) _ DropLines Kept dropped
      (λ word. writes_back ph (word_address l.number word) (slice_index l.words word) same quiet gone)))

  no_global : (es : List Entry) → list_all (λ (e : Entry). not e.global) es ≡ true → filter (λ (e : Entry). e.global) es ≡ []
  no_global [] h = refl
  no_global (e ∷ es) h = one e.global h (λ g. no_global es g)
    where
      one : (b : Bool) → (not b && list_all (λ (x : Entry). not x.global) es) ≡ true → (list_all (λ (x : Entry). not x.global) es ≡ true → filter (λ (x : Entry). x.global) es ≡ []) → (if b then e ∷ filter (λ (x : Entry). x.global) es else filter (λ (x : Entry). x.global) es) ≡ []
      one true g rest = absurd (cc)
      one false g rest = rest g

  -- the first flush of the TLB leaves no entry
  flushed_first : (ph : Phase) → p.phase ≡ ph → is_running ph ≡ false → lines_gone (after_flush ph) ≡ false → flush_tlb ph p ≡ flush_tlb Flushed p → Kept FlushTlb
  flushed_first ph same quiet kept first = one p.page_global refl (flush_tlb p.phase p) (ap (λ v. flush_tlb v p) same ∙ first)
    where
      has_lines : lines_gone (after_flush p.phase) ≡ true → ⊥
      has_lines h = let e : lines_gone (after_flush p.phase) ≡ false = ap (λ v. lines_gone (after_flush v)) same ∙ kept in cc

      one : (b : Bool) → p.page_global ≡ b → (q : Processor) → q ≡ (if b then record p { remembered_global = true; page_global = false; entries = [] } else record (reload_cr3 p) { remembered_global = false }) → Clear o (record q { phase = after_flush p.phase })
      one true is q e = subst (λ (x : Processor). Clear o (record x { phase = after_flush p.phase })) (sym e)
          (inside_of _ (ap is_running same ∙ quiet) refl (λ h. absurd (has_lines h)) (λ h. c.no_buffers (ap not (ap is_running same ∙ quiet))) (λ h. refl) (λ off. refl))
      one false is q e = subst (λ (x : Processor). Clear o (record x { phase = after_flush p.phase })) (sym e)
          (let gone : filter (λ (x : Entry). x.global) p.entries ≡ [] = no_global p.entries (c.local is) in
          inside_of _ (ap is_running same ∙ quiet) refl (λ h. absurd (has_lines h)) (λ h. c.no_buffers (ap not (ap is_running same ∙ quiet))) (λ h. gone) (λ off. none_passes (λ (e : Entry). not e.global) _ gone))

  -- the second has none to drop
  flushed_again : p.phase ≡ Flushed2 → Kept FlushTlb
  flushed_again same = subst (λ (q : Processor). Clear o (record q { phase = after_flush p.phase })) (ap (λ ph. flush_tlb ph p) (sym same)) reloaded
    where
      gone : p.entries ≡ []
      gone = c.no_entries (ap entries_gone same)

      left : filter (λ (x : Entry). x.global) p.entries ≡ []
      left = ap (filter (λ (x : Entry). x.global)) gone

      reloaded : Clear o (record (reload_cr3 p) { phase = after_flush p.phase })
      reloaded = inside_of _ (ap is_running same) refl (λ h. c.no_lines (ap lines_gone same)) (λ h. c.no_buffers (ap buffers_gone same)) (λ h. left) (λ off. none_passes (λ (e : Entry). not e.global) _ left)

  restores : p.phase ≡ Normal → Kept RestorePge
  restores same =
      inside_of _ (ap is_running same) refl (λ h. c.no_lines (ap lines_gone same)) (λ h. c.no_buffers (ap buffers_gone same)) (λ h. c.no_entries (ap entries_gone same))
      (λ off. none_passes (λ (e : Entry). not e.global) p.entries (c.no_entries (ap entries_gone same)))

  -- an event that leaves all but the phase, the file and CD
  plain : (ph : Phase) (v e : Event) → p.phase ≡ ph → v ≡ e → (own_step o.goal v p).lines ≡ p.lines → (own_step o.goal v p).buffers ≡ p.buffers → (own_step o.goal v p).entries ≡ p.entries → (own_step o.goal v p).page_global ≡ p.page_global → (own_step o.goal v p).era ≡ p.era
      → (lines_gone (own_step o.goal v p).phase ≡ true → lines_gone ph ≡ true) → (buffers_gone (own_step o.goal v p).phase ≡ true → buffers_gone ph ≡ true) → (entries_gone (own_step o.goal v p).phase ≡ true → entries_gone ph ≡ true) → Kept e
  plain ph v e same is lines buffers entries pge era to_lines to_buffers to_entries =
      subst Kept is (carry ph (own_step o.goal v p) same lines buffers entries pge era to_lines to_buffers to_entries)

  leaves : (ph : Phase) (e : Event) → p.phase ≡ ph → Leave ≡ e → Kept e
  leaves ph e same is = plain ph Leave e same is refl refl refl refl refl (λ h. absurd (cc)) (λ h. absurd (cc)) (λ h. absurd (cc))

  from_taken : (b : Bool) (e : Event) → p.phase ≡ Taken → Some (if b then Leave else Arrive) ≡ Some e → Kept e
  from_taken true e same h = leaves Taken e same (cc)
  from_taken false e same h = plain Taken Arrive e same (cc) refl refl refl refl refl (λ h. absurd (cc)) (λ h. refl) (λ h. absurd (cc))

  from_arrived : (b f : Bool) (e : Event) → p.phase ≡ Arrived → (if b then Some Leave else (if f then Some Pass else None)) ≡ Some e → Kept e
  from_arrived true f e same h = leaves Arrived e same (cc)
  from_arrived false false e same h = absurd (cc)
  from_arrived false true e same h = plain Arrived Pass e same (cc) refl refl refl refl refl (λ h. absurd (cc)) (λ h. refl) (λ h. absurd (cc))

  from_again : (f : Bool) (e : Event) → p.phase ≡ Arrived2 → (if f then Some Release else None) ≡ Some e → Kept e
  from_again false e same h = absurd (cc)
  from_again true e same h = subst Kept (let is : Release ≡ e = cc in is) (releases same)

  writes_on : (i : ℕ) (b : Bool) (e : Event) → p.phase ≡ Writing i → Some (if b then Write i else Enable) ≡ Some e → Kept e
  writes_on i true e same h = plain (Writing i) (Write i) e same (cc) refl refl refl refl refl (λ h. h) (λ h. refl) (λ h. refl)
  writes_on i false e same h = plain (Writing i) Enable e same (cc) refl refl refl refl refl (λ h. h) (λ h. refl) (λ h. refl)

  -- each step but Take, which empties the buffers first
  pub step_clears : (ph : Phase) (e : Event) → p.phase ≡ ph → is_running ph ≡ false → due o ps p ph ≡ Some e → Kept e
  step_clears Running e same quiet h = absurd (cc)
  step_clears Taken e same quiet h = from_taken (is_cancelled o.go) e same h
  step_clears Arrived e same quiet h = from_arrived (is_cancelled o.go) (first_barrier_open o ps) e same h
  step_clears Passed e same quiet h = plain Passed SetNoFill e same (cc) refl refl refl refl refl (λ h. absurd (cc)) (λ h. refl) (λ h. absurd (cc))
  step_clears NoFill e same quiet h = first_flush_case p e h (λ on is. subst Kept is (flushed_first NoFill same refl refl refl)) (λ off. drains NoFill e same refl refl (λ h. absurd (cc)))
  step_clears Flushed e same quiet h = subst Kept (let is : FlushTlb ≡ e = cc in is) (flushed_first Flushed same refl refl refl)
  step_clears TlbFlushed e same quiet h = plain TlbFlushed Disable e same (cc) refl refl refl refl refl (λ h. h) (λ h. refl) (λ h. refl)
  step_clears (Writing i) e same quiet h = writes_on i _ e same h
  step_clears Enabled e same quiet h = drains Enabled e same refl refl (λ h. refl) h
  step_clears Flushed2 e same quiet h = subst Kept (let is : FlushTlb ≡ e = cc in is) (flushed_again same)
  step_clears TlbFlushed2 e same quiet h = plain TlbFlushed2 SetNormal e same (cc) refl refl refl refl refl (λ h. refl) (λ h. refl) (λ h. refl)
  step_clears Normal e same quiet h = subst Kept (let is : RestorePge ≡ e = cc in is) (restores same)
  step_clears Restored e same quiet h = plain Restored ArriveAgain e same (cc) refl refl refl refl refl (λ h. refl) (λ h. refl) (λ h. refl)
  step_clears Arrived2 e same quiet h = from_again (second_barrier_open o ps) e same h
