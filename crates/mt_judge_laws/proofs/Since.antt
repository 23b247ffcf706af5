-- What a processor has kept since the start, in each phase, and that its events keep this, whatever it does by itself between them.
use Rattle.std.proofs.Common.{◌≡◌, ◌≢◌, ◌∙◌, ap, refl, sym, subst, ⊎_elim, arith, ℕ, ◌+◌, ◌<◌, ◌/◌, Bool, true, false, List, [], length, Option, None, Some}
use Rattle.std.specs.Prelude.{◌==◌, not, ◌&&◌, ◌||◌, if◌then◌else◌, nat_lt, slice_get, slice_index}
use Rattle.std.specs.List.{filter, fold, list_all, list_any}
use Rattle.std.specs.Option.{option_map_or}
use Rattle.std.proofs.lemmas.Bool.{lt-ltb, ltb-true}
use Rattle.mt_kinds.specs.Sizes.{page_bytes}
use Rattle.mt_regs.specs.RegisterFile.{is_enabled}
use Rattle.mt_regs.specs.Registers.{writable}
use Rattle.mt_cache.specs.Lines.{clean_word, first_dirty_line, first_dirty_word}
use Rattle.mt_cache.specs.declared.line.CacheLine.{CacheLine}
use Rattle.mt_tlb.specs.Entries.{has_page}
use Rattle.mt_tlb.specs.declared.entry.Entry.{Entry}
use Rattle.mt_machine.specs.declared.control.Control.TheVariants.{Cd, Cr3, Invlpg, Map, Pge}
use Rattle.mt_machine.specs.declared.control.Control.{Control}
use Rattle.mt_machine.specs.declared.event.Event.{Event}
use Rattle.mt_machine.specs.declared.event.Event.TheVariants.{Take, Arrive, Leave, Pass, SetNoFill, WriteBack, DropLines, FlushTlb, Disable, Write, Enable, SetNormal, RestorePge, ArriveAgain, Release}
use Rattle.mt_machine.specs.declared.phase.Phase.{Phase}
use Rattle.mt_machine.specs.declared.phase.Phase.TheVariants.{Running, Taken, Arrived, Passed, NoFill, Flushed, TlbFlushed, Writing, Enabled, Flushed2, TlbFlushed2, Normal, Restored, Arrived2}
use Rattle.mt_machine.specs.Access.{is_running}
use Rattle.mt_machine.specs.Bus.{drain, empty_buffer, with_buffers}
use Rattle.mt_machine.specs.Control.{reload_cr3, control_at, drop_page, same_bool, set_page_global}
use Rattle.mt_machine.specs.Machine.{Order, before_own, due, first_flush, has_released, own_step, step, write_back_event, write_back_or_drop, write_or_enable}
use Rattle.mt_machine.specs.Memory.{word_address, word_of}
use Rattle.mt_machine.specs.System.{Processor, System, buffers_of, change, is_tlb_flushed}
use Rattle.mt_machine.proofs.Rows.{due_row, is_row}
use Rattle.mt_laws.proofs.Clearing.Follows.{all_filter}
use Rattle.mt_laws.proofs.Barrier.Ranks.{Guarded, and_left, and_right, stage_at}
use Rattle.mt_laws.proofs.Barrier.Stages.{Stage, stage_of, stages, stages_of}
use Rattle.mt_laws.proofs.Clearing.Renewed.{at_change}
use Rattle.mt_laws.proofs.Registers.Filed.{AllFiled, Filed, is_done}
use Rattle.mt_search.specs.declared.wrong.Kept.{Kept}
use Rattle.mt_search.specs.Wrongs.{allows, page_of}
use Rattle.mt_judge_laws.proofs.Held.{HoldsRight, View, all_more, allows_held, any_more, both, cleared_is_held, is_made, kept_by, kind_by, may_hold, none_global, none_passes, or_last, re_right, right_buffer, right_entry, right_line, view}
use Rattle.mt_judge_laws.proofs.Accessing.{AllKeep, Keeps, all_changed, keep_drain, keep_each, kept_at}
use Rattle.mt_judge_laws.proofs.Known.{MakeKnown, disabled_is_off, first_makes, goal_makes, is_known, known_new, off_makes, written_is_off}

-- ---- phases

-- before the registers change, while E is clear for it, and while CD is set
abbrev pub is_before : Phase → Bool
is_before Running = true
is_before Taken = true
is_before Arrived = true
is_before Passed = true
is_before NoFill = true
is_before Flushed = true
is_before TlbFlushed = true
is_before other = false

abbrev pub is_between : Phase → Bool
is_between (Writing i) = true
is_between other = false

abbrev pub is_no_fill : Phase → Bool
is_no_fill NoFill = true
is_no_fill Flushed = true
is_no_fill TlbFlushed = true
is_no_fill (Writing i) = true
is_no_fill Enabled = true
is_no_fill Flushed2 = true
is_no_fill TlbFlushed2 = true
is_no_fill other = false

abbrev pub is_early : Order → Processor → Bool
is_early o p = is_before p.phase && not (has_released o p)

-- ---- what is kept since the start

-- of a processor that was this one at the start
pub record Since (o : Order) (first p : Processor) : Type 0 where
  pub mappings : p.mappings ≡ first.mappings
  pub self_snoop : p.self_snoop ≡ first.self_snoop
  pub file : is_early o p ≡ true → p.file ≡ first.file
  pub off : is_between p.phase ≡ true → is_enabled p.file ≡ false
  pub disabled : is_no_fill p.phase ≡ true → p.cache_disabled ≡ true
  pub local : is_tlb_flushed p.phase ≡ true → p.page_global ≡ false
  pub right : HoldsRight p
  pub known : list_all (is_known o.goal first) p.entries ≡ true

-- what changes nothing but what is held, and leaves that right, keeps it
since_kept : (o : Order) (first p q : Processor) → Keeps p q → MakeKnown o.goal first.file p.file → Since o first p → Since o first q
since_kept o first p q k makes s = record {
  mappings = ap (λ (x : Processor). x.mappings) k.same ∙ s.mappings;
  self_snoop = ap (λ (x : Processor). x.self_snoop) k.same ∙ s.self_snoop;
  file = λ h. ap (λ (x : Processor). x.file) k.same ∙ s.file (ap (is_early o) (sym k.same) ∙ h);
  off = λ h. ap (λ (x : Processor). is_enabled x.file) k.same ∙ s.off (ap (λ (x : Processor). is_between x.phase) (sym k.same) ∙ h);
  disabled = λ h. ap (λ (x : Processor). x.cache_disabled) k.same ∙ s.disabled (ap (λ (x : Processor). is_no_fill x.phase) (sym k.same) ∙ h);
  local = λ h. ap (λ (x : Processor). x.page_global) k.same ∙ s.local (ap (λ (x : Processor). is_tlb_flushed x.phase) (sym k.same) ∙ h);
  right = re_right p q q.lines q.buffers q.entries k.same k.right;
  known = k.from (is_known o.goal first) (known_new o.goal first p s.mappings makes) s.known;
}

abbrev pub AllSince : Order → List Processor → List Processor → Type 0
AllSince o firsts ps = (i : ℕ) (p : Processor) → slice_get ps i ≡ Some p → (first : Processor) × (slice_get firsts i ≡ Some first) × Since o first p

-- the registers of each processor give cached types only where the goal or its registers at the start do
abbrev pub AllMakeKnown : Order → List Processor → List Processor → Type 0
AllMakeKnown o firsts ps = (i : ℕ) (p first : Processor) → slice_get ps i ≡ Some p → slice_get firsts i ≡ Some first → MakeKnown o.goal first.file p.file

pub all_since : (o : Order) (firsts ps qs : List Processor) → AllKeep ps qs → AllMakeKnown o firsts ps → AllSince o firsts ps → AllSince o firsts qs
all_since o firsts ps qs kept makes all j q at =
    let k = kept_at ps qs j q kept at in
    let f = all j k.0 k.1 in
    (f.0, f.1, since_kept o f.0 k.0 q k.2 (makes j k.0 f.0 k.1 f.1) f.2)

-- before the registers change they are those of the start; E is clear while they do; and behind that they are the goal's
pub make_known : (o : Order) (first p : Processor) → Since o first p → Filed o p.file (stage_of p) → (is_running p.phase ≡ false → has_released o p ≡ false) → MakeKnown o.goal first.file p.file
make_known o first p s f still = in_phase p.phase (has_released o p) s.file s.off f.done f.released still
  where
    in_phase : (ph : Phase) (ahead : Bool) → ((is_before ph && not ahead) ≡ true → p.file ≡ first.file) → (is_between ph ≡ true → is_enabled p.file ≡ false) → (is_done ph ≡ true → p.file ≡ o.goal)
        → (ahead ≡ true → p.file ≡ o.goal) → (is_running ph ≡ false → ahead ≡ false) → MakeKnown o.goal first.file p.file
    in_phase Running true before between done ahead behind = goal_makes o.goal first.file p.file (ahead refl)
    in_phase Running false before between done ahead behind = first_makes o.goal first.file p.file (before refl)
    in_phase (Writing i) b before between done ahead behind = off_makes o.goal first.file p.file (between refl)
    in_phase Enabled b before between done ahead behind = goal_makes o.goal first.file p.file (done refl)
    in_phase Flushed2 b before between done ahead behind = goal_makes o.goal first.file p.file (done refl)
    in_phase TlbFlushed2 b before between done ahead behind = goal_makes o.goal first.file p.file (done refl)
    in_phase Normal b before between done ahead behind = goal_makes o.goal first.file p.file (done refl)
    in_phase Restored b before between done ahead behind = goal_makes o.goal first.file p.file (done refl)
    in_phase Arrived2 b before between done ahead behind = goal_makes o.goal first.file p.file (done refl)
    in_phase other b before between done ahead behind = first_makes o.goal first.file p.file (before (ap not (behind refl)))

pub all_make_known : (o : Order) (firsts ps : List Processor) → Guarded o (stages_of ps) → AllFiled (Some o) ps → AllSince o firsts ps → AllMakeKnown o firsts ps
all_make_known o firsts ps guarded filed all i p first at at_first =
    let f = all i p at in
    let same : f.0 ≡ first = let e : Some f.0 ≡ Some first = sym f.1 ∙ at_first in cc in
    subst (λ (x : Processor). MakeKnown o.goal x.file p.file) same (make_known o f.0 p f.2 (filed.1 i p at) (guarded.in_step i (stage_of p) (stage_at ps i p at)))

-- all that is held is right
pub all_right : (o : Order) (firsts ps : List Processor) → AllSince o firsts ps → AllKeep ps ps
all_right o firsts ps all = keep_each ps (λ j q at. (all j q at).2.right)

-- ---- a processor's own part

-- what a processor's own registers decide of its lines and entries, once they have changed
old_held : (v w : View) (what : Kept) (n : ℕ) → w.mappings ≡ v.mappings → w.flushed ≡ v.flushed → w.old_lines ≡ true → may_hold v what n ≡ true → may_hold w what n ≡ true
old_held v w what n mappings flushed old h =
    both (not w.flushed) _ (ap not flushed ∙ and_left _ _ h)
    (ap (list_any (allows_held w what n)) mappings
    ∙ any_more (allows_held v what n) (allows_held w what n)
    (λ m g. both (m.ppage == n) _ (and_left _ _ g) (ap (λ b. b || allows what (kind_by w m)) old)) v.mappings (and_right (not v.flushed) _ h))

module _ (o : Order) (first p : Processor) where
  -- the processor in a phase
  abbrev In : Phase → Processor
  In ph = record p { phase = ph }

  abbrev Kept' : Event → Phase → Type 0
  Kept' e ph = Since o first (own_step o.goal e (In ph))

  -- a step that changes a phase before CD is set, between that and the change of the registers, or after
  early : (q : Processor) → q.mappings ≡ first.mappings → q.self_snoop ≡ first.self_snoop → (is_early o q ≡ true → q.file ≡ first.file) → is_no_fill q.phase ≡ false → is_between q.phase ≡ false → is_tlb_flushed q.phase ≡ false → HoldsRight q
      → list_all (is_known o.goal first) q.entries ≡ true → Since o first q
  early q mappings snoop file fills whole unflushed right known = record {
    mappings = mappings;
    self_snoop = snoop;
    file = file;
    off = λ h. absurd (cc);
    disabled = λ h. absurd (cc);
    local = λ h. absurd (cc);
    right = right;
    known = known;
  }

  amid : (q : Processor) → q.mappings ≡ first.mappings → q.self_snoop ≡ first.self_snoop → (is_early o q ≡ true → q.file ≡ first.file) → (is_between q.phase ≡ true → is_enabled q.file ≡ false) → (is_no_fill q.phase ≡ true → q.cache_disabled ≡ true)
      → (is_tlb_flushed q.phase ≡ true → q.page_global ≡ false) → HoldsRight q → list_all (is_known o.goal first) q.entries ≡ true → Since o first q
  amid q mappings snoop file off disabled local right known = record {
    mappings = mappings;
    self_snoop = snoop;
    file = file;
    off = off;
    disabled = disabled;
    local = local;
    right = right;
    known = known;
  }

  late : (q : Processor) → q.mappings ≡ first.mappings → q.self_snoop ≡ first.self_snoop → is_before q.phase ≡ false → (is_between q.phase ≡ true → is_enabled q.file ≡ false) → (is_no_fill q.phase ≡ true → q.cache_disabled ≡ true)
      → (is_tlb_flushed q.phase ≡ true → q.page_global ≡ false) → HoldsRight q → list_all (is_known o.goal first) q.entries ≡ true → Since o first q
  late q mappings snoop behind = amid q mappings snoop (λ h. absurd (let a : is_before q.phase ≡ true = and_left _ _ h in cc))

  -- a word goes to memory
  backs : (ph : Phase) (address value : ℕ) → Since o first (In ph) → Kept' (WriteBack address value) ph
  backs ph address value s =
      amid (own_step o.goal (WriteBack address value) (In ph)) s.mappings s.self_snoop s.file s.off s.disabled s.local
      (record {
        right_lines = all_changed (right_line (view (In ph))) (address / 64) (clean_word (word_of address))
            (λ l is g. cleared_is_held (view (In ph)) (word_of address) l.dirty (page_of l) g) p.lines s.right.right_lines;
        right_buffers = s.right.right_buffers;
        right_entries = s.right.right_entries;
      }) s.known

  -- the first flush of the TLB, which clears PGE
  first_flushed : (ph : Phase) → Since o first (In Flushed)
      → Since o first (record (if p.page_global then record (In ph) { remembered_global = true; page_global = false; entries = [] } else record (reload_cr3 (In ph)) { remembered_global = false }) { phase = TlbFlushed })
  first_flushed ph s = one p.page_global refl
    where
      one : (b : Bool) → p.page_global ≡ b
          → Since o first (record (if b then record (In ph) { remembered_global = true; page_global = false; entries = [] } else record (reload_cr3 (In ph)) { remembered_global = false }) { phase = TlbFlushed })
      one true is =
          amid (record p { remembered_global = true; page_global = false; entries = []; phase = TlbFlushed }) s.mappings s.self_snoop s.file (λ h. absurd (cc)) s.disabled (λ h. refl)
          (record { right_lines = s.right.right_lines; right_buffers = s.right.right_buffers; right_entries = refl }) refl
      one false is =
          amid (record (reload_cr3 p) { remembered_global = false; phase = TlbFlushed }) s.mappings s.self_snoop s.file (λ h. absurd (cc)) s.disabled (λ h. is)
          (record {
            right_lines = s.right.right_lines;
            right_buffers = s.right.right_buffers;
            right_entries = all_filter (right_entry (view (In Flushed))) (λ e. e.global) p.entries s.right.right_entries;
          })
          (all_filter (is_known o.goal first) (λ e. e.global) p.entries s.known)

  -- no buffer is left, so each is right once the processor runs
  runs_again : (era : ℕ) → (not (nat_lt o.from_era era) ≡ true → p.file ≡ first.file) → p.mappings ≡ first.mappings → p.self_snoop ≡ first.self_snoop → HoldsRight (In Arrived) → list_all (is_known o.goal first) p.entries ≡ true
      → Since o first (record p { phase = Running; era = era })
  runs_again era file mappings snoop right known =
      early (record p { phase = Running; era = era }) mappings snoop file refl refl refl
      (record { right_lines = right.right_lines; right_buffers = none_passes _ p.buffers right.right_buffers; right_entries = right.right_entries }) known

  -- a self-snooping processor leaves out the first flush of the caches
  snooped : p.self_snoop ≡ true → list_all (right_line (view (In NoFill))) p.lines ≡ true → list_all (right_line (view (In Flushed))) p.lines ≡ true
  snooped snoops h = ap (λ b. list_all (right_line (record (view (In NoFill)) { flushed = not b })) p.lines) snoops ∙ h

  -- what is said of an event beside its phase
  pub record IsFit (e : Event) (ph : Phase) : Type 0 where
    pub no_buffers : e ≡ Take → p.buffers ≡ []
    pub later : nat_lt o.from_era (p.era + 1) ≡ true
    pub snooping : e ≡ FlushTlb → ph ≡ NoFill → p.self_snoop ≡ true
    pub below : (n : ℕ) → e ≡ Write n → n + 1 < length (writable o.goal)

  -- by the event that is due in a phase
  pub own_since : (e : Event) (ph : Phase) → Since o first (In ph) → is_row e ph ≡ true → IsFit e ph → Kept' e ph
  own_since Take Running s row fit =
      early (In Taken) s.mappings s.self_snoop s.file refl refl refl
      (record { right_lines = s.right.right_lines; right_buffers = ap (list_all (right_buffer (view (In Taken)))) (fit.no_buffers refl); right_entries = s.right.right_entries }) s.known
  own_since Take other s row fit = absurd (cc)
  own_since Arrive Taken s row fit = early (In Arrived) s.mappings s.self_snoop s.file refl refl refl s.right s.known
  own_since Arrive other s row fit = absurd (cc)
  own_since Leave Taken s row fit = runs_again p.era s.file s.mappings s.self_snoop s.right s.known
  own_since Leave Arrived s row fit = runs_again p.era s.file s.mappings s.self_snoop s.right s.known
  own_since Leave other s row fit = absurd (cc)
  own_since Pass Arrived s row fit = early (In Passed) s.mappings s.self_snoop s.file refl refl refl s.right s.known
  own_since Pass other s row fit = absurd (cc)
  own_since SetNoFill Passed s row fit =
      amid (own_step o.goal SetNoFill (In Passed)) s.mappings s.self_snoop s.file (λ h. absurd (cc)) (λ h. refl) (λ h. absurd (cc)) s.right s.known
  own_since SetNoFill other s row fit = absurd (cc)
  own_since (WriteBack a v) NoFill s row fit = backs NoFill a v s
  own_since (WriteBack a v) Enabled s row fit = backs Enabled a v s
  own_since (WriteBack a v) other s row fit = absurd (cc)
  own_since DropLines NoFill s row fit =
      amid (own_step o.goal DropLines (In NoFill)) s.mappings s.self_snoop s.file (λ h. absurd (cc)) s.disabled (λ h. absurd (cc))
      (record { right_lines = refl; right_buffers = s.right.right_buffers; right_entries = s.right.right_entries }) s.known
  own_since DropLines Enabled s row fit =
      late (own_step o.goal DropLines (In Enabled)) s.mappings s.self_snoop refl (λ h. absurd (cc)) s.disabled s.local
      (record { right_lines = refl; right_buffers = s.right.right_buffers; right_entries = s.right.right_entries }) s.known
  own_since DropLines other s row fit = absurd (cc)
  own_since FlushTlb NoFill s row fit =
      first_flushed NoFill
      (amid (In Flushed) s.mappings s.self_snoop s.file (λ h. absurd (cc)) s.disabled (λ h. absurd (cc))
      (record { right_lines = snooped (fit.snooping refl refl) s.right.right_lines; right_buffers = s.right.right_buffers; right_entries = s.right.right_entries }) s.known)
  own_since FlushTlb Flushed s row fit = first_flushed Flushed s
  own_since FlushTlb Flushed2 s row fit =
      late (own_step o.goal FlushTlb (In Flushed2)) s.mappings s.self_snoop refl (λ h. absurd (cc)) s.disabled s.local
      (record {
        right_lines = s.right.right_lines;
        right_buffers = s.right.right_buffers;
        right_entries = ap (list_all (right_entry (view (In TlbFlushed2)))) (none_global (view (In Flushed2)) p.entries (s.local refl) s.right.right_entries);
      })
      (all_filter (is_known o.goal first) (λ e. e.global) p.entries s.known)
  own_since FlushTlb other s row fit = absurd (cc)
  own_since Disable TlbFlushed s row fit =
      late (own_step o.goal Disable (In TlbFlushed)) s.mappings s.self_snoop refl (λ h. disabled_is_off p.file) s.disabled s.local
      (record {
        right_lines = all_more (right_line (view (In TlbFlushed))) (right_line (view (own_step o.goal Disable (In TlbFlushed))))
            (λ l h. old_held (view (In TlbFlushed)) (view (own_step o.goal Disable (In TlbFlushed))) (kept_by l.dirty) (page_of l) refl refl refl h) p.lines s.right.right_lines;
        right_buffers = s.right.right_buffers;
        right_entries = all_more (right_entry (view (In TlbFlushed))) (right_entry (view (own_step o.goal Disable (In TlbFlushed))))
            (λ e h. and_right (is_made (view (In TlbFlushed)) e) _ h) p.entries s.right.right_entries;
      }) s.known
  own_since Disable other s row fit = absurd (cc)
  own_since (Write n) (Writing j) s row fit =
      late (own_step o.goal (Write n) (In (Writing j))) s.mappings s.self_snoop refl (λ h. written_is_off o.goal p.file n (fit.below n refl) (s.off refl)) s.disabled s.local
      (record { right_lines = s.right.right_lines; right_buffers = s.right.right_buffers; right_entries = s.right.right_entries }) s.known
  own_since (Write n) other s row fit = absurd (cc)
  own_since Enable (Writing j) s row fit =
      late (own_step o.goal Enable (In (Writing j))) s.mappings s.self_snoop refl (λ h. absurd (cc)) s.disabled s.local
      (record { right_lines = s.right.right_lines; right_buffers = s.right.right_buffers; right_entries = s.right.right_entries }) s.known
  own_since Enable other s row fit = absurd (cc)
  own_since SetNormal TlbFlushed2 s row fit =
      late (own_step o.goal SetNormal (In TlbFlushed2)) s.mappings s.self_snoop refl (λ h. absurd (cc)) (λ h. absurd (cc)) s.local s.right s.known
  own_since SetNormal other s row fit = absurd (cc)
  own_since RestorePge Normal s row fit =
      late (own_step o.goal RestorePge (In Normal)) s.mappings s.self_snoop refl (λ h. absurd (cc)) (λ h. absurd (cc)) (λ h. absurd (cc))
      (record {
        right_lines = s.right.right_lines;
        right_buffers = s.right.right_buffers;
        right_entries = all_more (right_entry (view (In Normal))) (right_entry (view (own_step o.goal RestorePge (In Normal))))
            (λ e h. both (is_made (view (In Normal)) e) _ (and_left _ _ h)
            (or_last p.remembered_global _ (ap (λ b. b || not e.global) (sym (s.local refl)) ∙ and_right (is_made (view (In Normal)) e) _ h))) p.entries s.right.right_entries;
      }) s.known
  own_since RestorePge other s row fit = absurd (cc)
  own_since ArriveAgain Restored s row fit =
      late (In Arrived2) s.mappings s.self_snoop refl (λ h. absurd (cc)) (λ h. absurd (cc)) (λ h. absurd (cc)) s.right s.known
  own_since ArriveAgain other s row fit = absurd (cc)
  own_since Release Arrived2 s row fit =
      let later = fit.later in
      runs_again (p.era + 1) (λ h. absurd (let a : not (nat_lt o.from_era (p.era + 1)) ≡ true = h in cc)) s.mappings s.self_snoop s.right s.known
  own_since Release other s row fit = absurd (cc)

-- all but a mapping
abbrev pub IsPlain : Control → Type 0
IsPlain (Map m) = ⊥
IsPlain other = Unit {0}

-- ---- an event

-- the buffers of the processor itself are emptied
emptied_buffers : (k : ℕ) (s : System) (x : Processor) → slice_get (drain k s).processors k ≡ Some x → x.buffers ≡ []
emptied_buffers k s x at =
    let emptied : System = fold empty_buffer s (buffers_of s k) in
    ⊎_elim
    (λ (e : (k ≡ k) × (y : Processor) × (slice_get emptied.processors k ≡ Some y) × (with_buffers (λ _. []) y ≡ x)). ap (λ (p : Processor). p.buffers) (sym e.3))
    (λ (e : (k ≢ k) × (slice_get emptied.processors k ≡ Some x)). absurd (e.0 refl))
    (at_change (with_buffers (λ _. [])) k emptied k x at)

module _ (o : Order) (firsts : List Processor) (k : ℕ) (s : System) (p : Processor) (at : slice_get s.processors k ≡ Some p) (all : AllSince o firsts s.processors) (makes : AllMakeKnown o firsts s.processors) where
  keeps_before : (e : Event) → AllKeep s.processors (before_own e k s).processors
  keeps_before Take = keep_drain s.processors k p at s (all_right o firsts s.processors all)
  keeps_before other = all_right o firsts s.processors all

  -- a change of the processor behind a drain, or without it
  since_changed : (t : System) → AllKeep s.processors t.processors → (f : Processor → Processor)
      → ((first x : Processor) → slice_get t.processors k ≡ Some x → stage_of x ≡ stage_of p → Since o first x → Since o first (f x)) → AllSince o firsts (change f k t).processors
  since_changed t kept f own j q at_q =
      ⊎_elim
      (λ (m : (j ≡ k) × (x : Processor) × (slice_get t.processors k ≡ Some x) × (f x ≡ q)).
      let h = all_since o firsts s.processors t.processors kept makes all k m.1 m.2 in
      let from = kept_at s.processors t.processors k m.1 kept m.2 in
      let same : from.0 ≡ p = let i : Some from.0 ≡ Some p = sym from.1 ∙ at in cc in
      let stage : stage_of m.1 ≡ stage_of p = ap stage_of from.2.same ∙ ap stage_of same in
      let r : (first : Processor) × (slice_get firsts j ≡ Some first) × Since o first q =
      (h.0, ap (slice_get firsts) m.0 ∙ h.1, subst (Since o h.0) m.3 (own h.0 m.1 m.2 stage h.2)) in r)
      (λ (m : (j ≢ k) × (slice_get t.processors j ≡ Some q)). all_since o firsts s.processors t.processors kept makes all j q m.1)
      (at_change f k t j q at_q)

  pub steps_since : (e : Event) → due o s.processors p p.phase ≡ Some e → Guarded o (stages s) → length (writable p.file) ≡ length (writable o.goal) → AllSince o firsts (step o.goal e k s).processors
  steps_since e h g registers = since_changed (before_own e k s) (keeps_before e) (own_step o.goal e) own
    where
      row : is_row e p.phase ≡ true
      row = due_row o s.processors p p.phase e h

      above : nat_lt o.from_era (p.era + 1) ≡ true
      above = ⊎_elim
          (λ (i : p.era ≡ o.from_era). lt-ltb o.from_era (p.era + 1) (omega (arith, i)))
          (λ (i : p.era ≡ o.from_era + 1). lt-ltb o.from_era (p.era + 1) (omega (arith, i)))
          (g.eras k (stage_of p) (stage_at s.processors k p at))

      emptied : (x : Processor) → slice_get (before_own e k s).processors k ≡ Some x → e ≡ Take → x.buffers ≡ []
      emptied x at_x is = emptied_buffers k s x (subst (λ (v : Event). slice_get (before_own v k s).processors k ≡ Some x) is at_x)

      -- of a processor that isn't self-snooping a flush of the caches is due first
      snoops : (x : Processor) → slice_get (before_own e k s).processors k ≡ Some x → e ≡ FlushTlb → p.phase ≡ NoFill → x.self_snoop ≡ true
      snoops x at_x is ph =
          let there : slice_get s.processors k ≡ Some x = subst (λ (v : Event). slice_get (before_own v k s).processors k ≡ Some x) is at_x in
          let same : p ≡ x = let e : Some p ≡ Some x = sym at ∙ there in cc in
          let flush : first_flush p ≡ FlushTlb = let e : Some (first_flush p) ≡ Some FlushTlb = ap (due o s.processors p) (sym ph) ∙ h ∙ ap Some is in cc in
          ap (λ (y : Processor). y.self_snoop) (sym same) ∙ by_snoop p.self_snoop flush
        where
          drops : (o : Option CacheLine) → option_map_or write_back_event o DropLines ≡ FlushTlb → ⊥
          drops None f = absurd (cc)
          drops (Some l) f = word (first_dirty_word l) f
            where
              word : (w : Option ℕ) → option_map_or (λ i. WriteBack (word_address l.number i) (slice_index l.words i)) w DropLines ≡ FlushTlb → ⊥
              word None g = absurd (cc)
              word (Some i) g = absurd (cc)

          by_snoop : (b : Bool) → (if b then FlushTlb else write_back_or_drop p) ≡ FlushTlb → b ≡ true
          by_snoop true f = refl
          by_snoop false f = absurd (drops (first_dirty_line p.lines) f)

      within : (n : ℕ) → e ≡ Write n → n + 1 < length (writable o.goal)
      within n is = in_phase p.phase (ap (λ (v : Event). is_row v p.phase) (sym is) ∙ row) (h ∙ ap Some is)
        where
          in_phase : (ph : Phase) → is_row (Write n) ph ≡ true → due o s.processors p ph ≡ Some (Write n) → n + 1 < length (writable o.goal)
          in_phase (Writing i) r g = by_length (nat_lt (i + 1) (length (writable p.file))) refl (let f : write_or_enable p i ≡ Write n = cc in f)
            where
              by_length : (b : Bool) → nat_lt (i + 1) (length (writable p.file)) ≡ b → (if b then Write i else Enable) ≡ Write n → n + 1 < length (writable o.goal)
              by_length true less f = let same : i ≡ n = cc in let below = ltb-true (i + 1) (length (writable p.file)) less in omega (arith, same, below, registers)
              by_length false less f = absurd (cc)
          in_phase other r g = absurd (cc)

      own : (first x : Processor) → slice_get (before_own e k s).processors k ≡ Some x → stage_of x ≡ stage_of p → Since o first x → Since o first (own_step o.goal e x)
      own first x at_x same since =
          own_since o first x e x.phase since (ap (λ (y : Stage). is_row e y.0) same ∙ row)
          (record {
            no_buffers = emptied x at_x;
            later = ap (λ (y : Stage). nat_lt o.from_era (y.1 + 1)) same ∙ above;
            snooping = λ is ph. snoops x at_x is (ap (λ (y : Stage). y.0) (sym same) ∙ ph);
            below = within;
          })

  -- ---- control instructions

  module _ (runs : p.phase ≡ Running) where
    -- by a change of a processor that runs
    controlled : (f : Processor → Processor) → ((first x : Processor) → Since o first (record x { phase = Running }) → Since o first (f (record x { phase = Running }))) → AllSince o firsts (change f k (drain k s)).processors
    controlled f own =
        since_changed (drain k s) (keep_drain s.processors k p at s (all_right o firsts s.processors all)) f
        (λ first x at_x same since.
        let is : record x { phase = Running } ≡ x = λ i. record x { phase = (sym runs ∙ ap (λ (y : Stage). y.0) (sym same)) i } in
        subst (λ (y : Processor). Since o first (f y)) is (own first x (subst (Since o first) (sym is) since)))

    -- some entries go
    dropped : (keep : Entry → Bool) (first x : Processor) → Since o first (record x { phase = Running }) → Since o first (record x { phase = Running; entries = filter keep x.entries })
    dropped keep first x since = record {
      mappings = since.mappings;
      self_snoop = since.self_snoop;
      file = since.file;
      off = λ h. absurd (cc);
      disabled = λ h. absurd (cc);
      local = λ h. absurd (cc);
      right = record { right_lines = since.right.right_lines; right_buffers = since.right.right_buffers; right_entries = all_filter (right_entry (view (record x { phase = Running }))) keep x.entries since.right.right_entries };
      known = all_filter (is_known o.goal first) keep x.entries since.known;
    }

    with_global : (on : Bool) (first x : Processor) → Since o first (record x { phase = Running }) → Since o first (set_page_global on (record x { phase = Running }))
    with_global on first x since = one (same_bool on x.page_global)
      where
        one : (b : Bool) → Since o first (if b then record x { phase = Running } else record x { phase = Running; page_global = on; entries = [] })
        one true = since
        one false = record {
          mappings = since.mappings;
          self_snoop = since.self_snoop;
          file = since.file;
          off = λ h. absurd (cc);
          disabled = λ h. absurd (cc);
          local = λ h. absurd (cc);
          right = record { right_lines = since.right.right_lines; right_buffers = since.right.right_buffers; right_entries = refl };
          known = refl;
        }

    disabled_or_not : (on : Bool) (first x : Processor) → Since o first (record x { phase = Running }) → Since o first (record x { phase = Running; cache_disabled = on })
    disabled_or_not on first x since =
        record { mappings = since.mappings; self_snoop = since.self_snoop; file = since.file; off = λ h. absurd (cc); disabled = λ h. absurd (cc); local = λ h. absurd (cc); right = since.right; known = since.known }

    pub control_since : (c : Control) → IsPlain c → AllSince o firsts (control_at s k p c).after.processors
    control_since (Invlpg address) plain = controlled (drop_page (address / page_bytes)) (dropped (λ e. not (has_page (address / page_bytes) e)))
    control_since (Pge on) plain = controlled (set_page_global on) (with_global on)
    control_since (Cd on) plain = controlled (λ q. record q { cache_disabled = on }) (disabled_or_not on)
    control_since (Map m) plain = absurd plain
    control_since Cr3 plain = controlled reload_cr3 (dropped (λ e. e.global))
