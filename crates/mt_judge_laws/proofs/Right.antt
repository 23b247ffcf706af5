-- Where the barriers are kept and each processor has kept what it has since a right start, nothing is wrong.
use Rattle.std.proofs.Common.{◌≡◌, ◌⊎◌, ◌∙◌, ◌↔◌, ap, refl, sym, inl, inr, ⊎_elim, arith, ℕ, ◌≤◌, Bool, true, false, List, [], ◌∷◌, Option, None, Some, lit≤, subst}
use Rattle.std.specs.Prelude.{◌==◌, not, ◌&&◌, ◌||◌, map, slice_get}
use Rattle.std.specs.List.{list_all, list_any}
use Rattle.std.specs.Option.{option_map, option_map_or}
use Rattle.std.proofs.lemmas.Option.{slice_get-map}
use Rattle.std.proofs.lemmas.Bool.{eq-eqb, not-false}
use Rattle.mt_regs.specs.RegisterFile.{RegisterFile}
use Rattle.mt_regs.specs.PageTypes.{is_type}
use Rattle.mt_cache.specs.declared.line.CacheLine.{CacheLine}
use Rattle.mt_tlb.specs.Entries.{find_mapping}
use Rattle.mt_tlb.specs.declared.entry.Entry.{Entry}
use Rattle.mt_tlb.specs.declared.mapping.Mapping.{Mapping}
use Rattle.mt_machine.specs.declared.phase.Phase.{Phase}
use Rattle.mt_machine.specs.declared.phase.Phase.TheVariants.{Running, Taken, Arrived, Arrived2, Writing, Enabled, Flushed2}
use Rattle.mt_machine.specs.Access.{is_cached, is_running, new_entry}
use Rattle.mt_machine.specs.Machine.{Order, has_released}
use Rattle.mt_machine.specs.System.{Processor}
use Rattle.mt_laws.proofs.Barrier.Ranks.{Guarded, and_left, and_right, rank, rank_of, stage_at}
use Rattle.mt_laws.proofs.Barrier.Stages.{stage_of, stages_of}
use Rattle.mt_laws.proofs.Registers.Filed.{AllFiled, is_done}
use Rattle.mt_search.specs.declared.wrong.Wrong.{Wrong}
use Rattle.mt_search.specs.declared.wrong.Wrong.TheVariants.{Disagree, MixedEntry, StaleBuffer, StaleEntry, StaleLine, UnsnoopedLine}
use Rattle.mt_procedure.specs.Runs.{Case, State}
use Rattle.mt_search.specs.Searches.{has_wrong}
use Rattle.mt_search.specs.declared.wrong.Kept.TheVariants.{Buffer}
use Rattle.mt_search.specs.Wrongs.{caches, caches_by, disagree, holds_at, is_allowed, is_awake, is_deaf, is_mixed_entry, is_same_entry, is_stale_buffer, is_stale_entry, is_stale_line, is_wrong, kept_as, lets_cache, made_entry, page_of}
use Rattle.mt_judge_laws.proofs.Accessing.{made_now, type_is_own}
use Rattle.mt_judge_laws.proofs.Held.{AreRight, HoldsRight, all_both, all_more, allows_held, both, has_old_entries, has_old_lines, is_flushed, is_made, kind_by, right_buffer, right_entry, right_line, view}
use Rattle.mt_judge_laws.proofs.Known.{is_known}
use Rattle.mt_judge_laws.proofs.Since.{AllSince, is_before, is_early, is_no_fill}

-- ---- tests over lists

off : (b : Bool) → (b ≡ true → ⊥) → b ≡ false
off true h = absurd (h refl)
off false h = refl

pub or_left : (a b : Bool) → (a || b) ≡ false → a ≡ false
or_left true b h = h
or_left false b h = refl

pub or_right : (a b : Bool) → (a || b) ≡ false → b ≡ false
or_right true b h = absurd (cc)
or_right false b h = h

and_off : (a b : Bool) → a ≡ true → (a && b) ≡ false → b ≡ false
and_off true b on h = h
and_off false b on h = absurd (cc)

not_both : (a b : Bool) → b ≡ false → (a && b) ≡ false
not_both true b h = h
not_both false b h = refl

-- no element with any key fails the test, so each passes it
each_passes : {X : Type 0} → (key : X → ℕ) (test : X → Bool) (xs : List X) → ((n : ℕ) → list_any (λ x. (key x == n) && not (test x)) xs ≡ false) → list_all test xs ≡ true
each_passes key test [] h = refl
each_passes key test (x ∷ xs) h =
    both (test x) _
    (not-false (test x) (and_off (key x == key x) _ (eq-eqb (key x) (key x) refl) (or_left _ _ (h (key x)))))
    (each_passes key test xs (λ n. or_right ((key x == n) && not (test x)) _ (h n)))

none_fails : {X : Type 0} → (chosen test : X → Bool) (xs : List X) → list_all test xs ≡ true → list_any (λ x. chosen x && not (test x)) xs ≡ false
none_fails chosen test [] h = refl
none_fails chosen test (x ∷ xs) h = one (chosen x) (test x) (and_left _ _ h) (none_fails chosen test xs (and_right (test x) _ h))
  where
    one : (a b : Bool) → b ≡ true → list_any (λ y. chosen y && not (test y)) xs ≡ false → ((a && not b) || list_any (λ y. chosen y && not (test y)) xs) ≡ false
    one true true on rest = rest
    one false true on rest = rest
    one a false on rest = absurd (cc)

none_of_all : {X : Type 0} → (test : X → Bool) (xs : List X) → ((x : X) → test x ≡ false) → list_any test xs ≡ false
none_of_all test [] h = refl
none_of_all test (x ∷ xs) h = ap (λ b. b || list_any test xs) (h x) ∙ none_of_all test xs h

-- ---- entries

-- the entry that the registers make of its page is this one
made_is : (p : Processor) (e : Entry) → is_made (view p) e ≡ option_map_or (is_same_entry e) (made_entry p e.vpage) false
made_is p e = one (find_mapping e.vpage p.mappings)
  where
    one : (x : Option Mapping) → option_map_or (λ m. (e.ppage == m.ppage) && is_type e.kind (kind_by (view p) m)) x false ≡ option_map_or (is_same_entry e) (option_map (new_entry p) x) false
    one None = refl
    one (Some m) = refl

all_pass : {X : Type 0} → (xs : List X) → list_all (λ (x : X). true) xs ≡ true
all_pass [] = refl
all_pass (x ∷ xs) = all_pass xs

local_if_off : (on : Bool) (es : List Entry) → (on ≡ false → list_all (λ (e : Entry). not e.global) es ≡ true) → list_all (λ (e : Entry). on || not e.global) es ≡ true
local_if_off true es h = all_pass es
local_if_off false es h = h refl

-- ---- the start

pub running_is : (ph : Phase) → is_running ph ≡ true → ph ≡ Running
running_is Running runs = refl
running_is other runs = absurd (cc)

abbrev pub Senses : Type 0
Senses = (c : Case) (s : State) → (has_wrong c s ≡ true) ↔ ((w : Wrong) × (is_wrong c s.processors w ≡ true))

abbrev pub NoneWrong : Case → List Processor → Type 0
NoneWrong c ps = (w : Wrong) → is_wrong c ps w ≡ false

pub none_wrong : Senses → (c : Case) (s : State) → has_wrong c s ≡ false → NoneWrong c s.processors
none_wrong senses c s right w = off (is_wrong c s.processors w) (λ h. let e : has_wrong c s ≡ true = (senses c s).1 (w, h) in cc)

pub nothing_wrong : Senses → (c : Case) (s : State) → NoneWrong c s.processors → has_wrong c s ≡ false
nothing_wrong senses c s none = off (has_wrong c s) (λ h. let found = (senses c s).0 h in let e = none found.0 in let g = found.1 in cc)

-- the types that two processors give to the first one's pages
abbrev pub Agree : Processor → Processor → Type 0
Agree p q = (n : ℕ) → list_any (λ m. (m.ppage == n) && disagree p q m) p.mappings ≡ false

abbrev pub AllRun : List Processor → Type 0
AllRun ps = (i : ℕ) (p : Processor) → slice_get ps i ≡ Some p → is_running p.phase ≡ true

module _ (c : Case) (ps : List Processor) (runs : AllRun ps) (none : NoneWrong c ps) where
  at_own : (k : ℕ) (p : Processor) (test : Processor → Bool) → slice_get ps k ≡ Some p → holds_at ps k (λ q. is_awake q && test q) ≡ false → test p ≡ false
  at_own k p test at h =
      and_off (is_awake p) (test p) (ap (λ b. b || not p.cache_disabled) (runs k p at))
      (sym (ap (λ (x : Option Processor). option_map_or (λ q. is_awake q && test q) x false) at) ∙ h)

  -- with PGE clear no entry is global at the start
  pub start_right : (k : ℕ) (p : Processor) → slice_get ps k ≡ Some p → (p.page_global ≡ false → list_all (λ (e : Entry). not e.global) p.entries ≡ true) → HoldsRight p
  start_right k p at local =
      subst (λ (ph : Phase). AreRight (view (record p { phase = ph })) p.lines p.buffers p.entries) (sym (running_is p.phase (runs k p at)))
      (record {
        right_lines = each_passes (λ (l : CacheLine). l.number) (right_line (view (record p { phase = Running }))) p.lines
            (λ n. at_own k p (λ q. list_any (λ l. (l.number == n) && is_stale_line q l) q.lines) at (none (StaleLine k n)));
        right_buffers = each_passes (λ (b : CacheLine). b.number) (right_buffer (view (record p { phase = Running }))) p.buffers
            (λ n. at_own k p (λ q. list_any (λ b. (b.number == n) && is_stale_buffer q b) q.buffers) at (none (StaleBuffer k n)));
        right_entries = all_both (is_made (view p)) (λ e. p.page_global || not e.global) p.entries
            (all_more (λ e. option_map_or (is_same_entry e) (made_entry p e.vpage) false) (is_made (view p)) (λ e h. made_is p e ∙ h) p.entries
            (each_passes (λ (e : Entry). e.vpage) (λ e. option_map_or (is_same_entry e) (made_entry p e.vpage) false) p.entries
            (λ n. at_own k p (λ q. list_any (λ e. (e.vpage == n) && is_stale_entry q e) q.entries) at (none (StaleEntry k n)))))
            (local_if_off p.page_global p.entries local);
      })

  pub start_agrees : (k j : ℕ) (p q : Processor) → slice_get ps k ≡ Some p → slice_get ps j ≡ Some q → Agree p q
  start_agrees k j p q at_p at_q n =
      let inner : holds_at ps j (λ r. is_awake r && list_any (λ m. (m.ppage == n) && disagree p r m) p.mappings) ≡ false =
      and_off (is_running p.phase) _ (runs k p at_p)
      (sym (ap (λ (x : Option Processor). option_map_or (λ r. is_running r.phase && holds_at ps j (λ u. is_awake u && list_any (λ m. (m.ppage == n) && disagree r u m) r.mappings)) x false) at_p)
      ∙ none (Disagree k j n)) in
      at_own j q (λ r. list_any (λ m. (m.ppage == n) && disagree p r m) p.mappings) at_q inner

-- ---- two processors that agree

same_types : (p q first second : Processor) → p.file ≡ first.file → p.mappings ≡ first.mappings → q.file ≡ second.file → q.mappings ≡ second.mappings → Agree first second → Agree p q
unfolding disagree
same_types p q first second file mappings file' mappings' agree n =
    (λ i. list_any (λ m. (m.ppage == n) && disagree (record p { file = file i; mappings = mappings i }) (record q { file = file' i; mappings = mappings' i }) m) (mappings i)) ∙ agree n

-- one file gives one type
same_file : (p q : Processor) → p.file ≡ q.file → Agree p q
unfolding disagree
same_file p q file n =
    none_of_all (λ m. (m.ppage == n) && disagree p q m) p.mappings
    (λ m. not_both (m.ppage == n) _ (not_both (list_any (λ r. r.ppage == m.ppage) q.mappings) _ (one m)))
  where
    one : (m : Mapping) → not (is_type (new_entry p m).kind (new_entry q m).kind) ≡ false
    one m =
        ap (λ (f : RegisterFile). not (is_type (new_entry (record p { file = f }) m).kind (new_entry q m).kind)) file
        ∙ ap not (type_is_own (new_entry q m).kind)

-- ---- one processor

asleep : (p : Processor) → is_running p.phase ≡ false → p.cache_disabled ≡ true → is_awake p ≡ false
asleep p still disabled = λ i. still i || not (disabled i)

-- with CD set and not running
abbrev pub IsAsleep : Phase → Type 0
IsAsleep ph = (is_no_fill ph ≡ true) × (is_running ph ≡ false)

-- what is held is new, unless the processor is asleep
pub new_or_asleep : (ph : Phase) → ((has_old_lines ph ≡ false) × (has_old_entries ph ≡ false)) ⊎ IsAsleep ph
new_or_asleep (Writing i) = inr (refl, refl)
new_or_asleep Enabled = inr (refl, refl)
new_or_asleep Flushed2 = inr (refl, refl)
new_or_asleep other = inl (refl, refl)

rank_of_running : (ph : Phase) (ahead : Bool) → is_running ph ≡ true → ((rank_of ph ahead ≡ 0) × ((is_before ph && not ahead) ≡ true)) ⊎ (rank_of ph ahead ≡ 5)
rank_of_running Running true runs = inr refl
rank_of_running Running false runs = inl (refl, refl)
rank_of_running other ahead runs = absurd (cc)

-- by the registers as they are
allowed_now : (p : Processor) (l : CacheLine) → has_old_lines p.phase ≡ false → right_line (view p) l ≡ true → is_allowed p (kept_as l) (page_of l) ≡ true
allowed_now p l new h =
    ap (λ b. list_any (allows_held (record (view p) { old_lines = b }) (kept_as l) (page_of l)) p.mappings) (sym new)
    ∙ and_right (not (is_flushed p.phase && not p.self_snoop)) _ h

old_or_flushed : (ph : Phase) → (has_old_lines ph ≡ false) ⊎ (is_flushed ph ≡ true)
old_or_flushed (Writing i) = inr refl
old_or_flushed Enabled = inr refl
old_or_flushed other = inl refl

-- no line of a processor that isn't self-snooping is stale: none is left behind the first flush of the caches
no_unsnooped_line : (p : Processor) → HoldsRight p → p.self_snoop ≡ false → (n : ℕ) → list_any (λ l. (l.number == n) && is_stale_line p l) p.lines ≡ false
no_unsnooped_line p right alone n =
    none_fails (λ (l : CacheLine). l.number == n) (λ l. is_allowed p (kept_as l) (page_of l)) p.lines
    (all_more (right_line (view p)) (λ l. is_allowed p (kept_as l) (page_of l)) each p.lines right.right_lines)
  where
    each : (l : CacheLine) → right_line (view p) l ≡ true → is_allowed p (kept_as l) (page_of l) ≡ true
    each l h = ⊎_elim
        (λ (new : has_old_lines p.phase ≡ false). allowed_now p l new h)
        (λ (flushed : is_flushed p.phase ≡ true). absurd (let none : not (is_flushed p.phase && not p.self_snoop) ≡ false = λ i. not (flushed i && not (alone i)) in let some : not (is_flushed p.phase && not p.self_snoop) ≡ true = and_left _ _ h in cc))
        (old_or_flushed p.phase)

-- no entry that is known is mixed
none_mixed : (chosen mixed known : Entry → Bool) → ((e : Entry) → known e ≡ true → mixed e ≡ false) → (es : List Entry) → list_all known es ≡ true → list_any (λ e. chosen e && mixed e) es ≡ false
none_mixed chosen mixed known each [] h = refl
none_mixed chosen mixed known each (e ∷ es) h =
    ap (λ b. (chosen e && b) || list_any (λ x. chosen x && mixed x) es) (each e (and_left _ _ h))
    ∙ ap (λ b. b || list_any (λ x. chosen x && mixed x) es) (not_both (chosen e) false refl)
    ∙ none_mixed chosen mixed known each es (and_right (known e) _ h)

known_unmixed : (a b : Bool) → (not a || b) ≡ true → (a && not b) ≡ false
known_unmixed true true h = refl
known_unmixed true false h = absurd (cc)
known_unmixed false b h = refl

-- nothing that an awake processor holds is stale
module _ (o : Order) (firsts ps : List Processor) (since : AllSince o firsts ps) (k : ℕ) (p : Processor) (at : slice_get ps k ≡ Some p) (awake : is_awake p ≡ true) where
  own : HoldsRight p
  own = (since k p at).2.right

  is_new : (has_old_lines p.phase ≡ false) × (has_old_entries p.phase ≡ false)
  is_new = ⊎_elim
      (λ (h : (has_old_lines p.phase ≡ false) × (has_old_entries p.phase ≡ false)). h)
      (λ (h : IsAsleep p.phase). absurd (let no : is_awake p ≡ false = asleep p h.1 ((since k p at).2.disabled h.0) in cc))
      (new_or_asleep p.phase)

  no_stale_line : (n : ℕ) → list_any (λ l. (l.number == n) && is_stale_line p l) p.lines ≡ false
  no_stale_line n =
      none_fails (λ (l : CacheLine). l.number == n) (λ l. is_allowed p (kept_as l) (page_of l)) p.lines
      (all_more (right_line (view p)) (λ l. is_allowed p (kept_as l) (page_of l)) (λ l. allowed_now p l is_new.0) p.lines own.right_lines)

  no_stale_buffer : (n : ℕ) → list_any (λ b. (b.number == n) && is_stale_buffer p b) p.buffers ≡ false
  no_stale_buffer n =
      none_fails (λ (b : CacheLine). b.number == n) (λ b. is_allowed p Buffer (page_of b)) p.buffers
      (all_more (right_buffer (record (view p) { old_lines = false })) (λ b. is_allowed p Buffer (page_of b)) (λ b h. and_right (not (is_flushed p.phase && not p.self_snoop)) _ (and_right (is_running p.phase) _ h)) p.buffers
      (ap (λ b. list_all (right_buffer (record (view p) { old_lines = b })) p.buffers) (sym is_new.0) ∙ own.right_buffers))

  no_stale_entry : (n : ℕ) → list_any (λ e. (e.vpage == n) && is_stale_entry p e) p.entries ≡ false
  no_stale_entry n =
      none_fails (λ (e : Entry). e.vpage == n) (λ e. option_map_or (is_same_entry e) (made_entry p e.vpage) false) p.entries
      (all_more (right_entry (view p)) (λ e. option_map_or (is_same_entry e) (made_entry p e.vpage) false)
      (λ e h. sym (made_is p e) ∙ made_now p e is_new.1 h) p.entries own.right_entries)

-- ---- two processors

module _ (o : Order) (firsts ps : List Processor) (agree : (k j : ℕ) (p q : Processor) → slice_get firsts k ≡ Some p → slice_get firsts j ≡ Some q → Agree p q)
    (g : Guarded o (stages_of ps)) (filed : AllFiled (Some o) ps) (since : AllSince o firsts ps) (c : Case) (goal : o.goal ≡ c.goal) (begun : c.mode.strict ≡ true → c.starts ≡ map (λ (p : Processor). p.file) firsts) where
  still_at : (k : ℕ) (p : Processor) → slice_get ps k ≡ Some p → is_running p.phase ≡ false → has_released o p ≡ false
  still_at k p at = g.in_step k (stage_of p) (stage_at ps k p at)

  new_file : (k : ℕ) (p : Processor) → slice_get ps k ≡ Some p → 4 ≤ rank o (stage_of p) → p.file ≡ o.goal
  new_file k p at high = one p.phase (has_released o p) (filed.1 k p at).done (filed.1 k p at).released high
    where
      one : (ph : Phase) (ahead : Bool) → (is_done ph ≡ true → p.file ≡ o.goal) → (ahead ≡ true → p.file ≡ o.goal) → 4 ≤ rank_of ph ahead → p.file ≡ o.goal
      one Running true done released h = released refl
      one Running false done released h = absurd (omega (arith, h))
      one Taken ahead done released h = absurd (omega (arith, h))
      one Arrived ahead done released h = absurd (omega (arith, h))
      one Arrived2 ahead done released h = done refl
      one other ahead done released h = absurd (omega (arith, h))

  low_is_early : (ph : Phase) (ahead : Bool) → (is_running ph ≡ false → ahead ≡ false) → (3 ≤ rank_of ph ahead → ⊥) → (is_before ph && not ahead) ≡ true
  low_is_early Running true still low = absurd (low (lit≤ tt))
  low_is_early Running false still low = refl
  low_is_early Taken ahead still low = ap not (still refl)
  low_is_early Arrived ahead still low = ap not (still refl)
  low_is_early Arrived2 ahead still low = absurd (low (lit≤ tt))
  low_is_early other ahead still low = absurd (low (lit≤ tt))

  pair_agrees : (k j : ℕ) (p q : Processor) → slice_get ps k ≡ Some p → slice_get ps j ≡ Some q → is_running p.phase ≡ true → Agree p q
  pair_agrees k j p q at_p at_q runs =
      let sp = stage_at ps k p at_p in
      let sq = stage_at ps j q at_q in
      ⊎_elim
      (λ (old : (rank o (stage_of p) ≡ 0) × (is_early o p ≡ true)).
      let f = since k p at_p in
      let h = since j q at_q in
      let low : 3 ≤ rank o (stage_of q) → ⊥ = λ high. let two = g.first j k (stage_of q) (stage_of p) sq sp high in omega (arith, two, old.0) in
      same_types p q f.0 h.0 (f.2.file old.1) f.2.mappings (h.2.file (low_is_early q.phase (has_released o q) (still_at j q at_q) low)) h.2.mappings (agree k j f.0 h.0 f.1 h.1))
      (λ (new : rank o (stage_of p) ≡ 5).
      let high = g.second k j (stage_of p) (stage_of q) sp sq (omega (arith, new)) in
      same_file p q (new_file k p at_p (omega (arith, new)) ∙ sym (new_file j q at_q high)))
      (rank_of_running p.phase (has_released o p) runs)

  -- ---- all

  awake_off : (k : ℕ) (test : Processor → Bool) → ((p : Processor) → slice_get ps k ≡ Some p → is_awake p ≡ true → test p ≡ false) → holds_at ps k (λ q. is_awake q && test q) ≡ false
  awake_off k test each = at_processor (slice_get ps k) refl
    where
      one : (p : Processor) (b : Bool) → is_awake p ≡ b → slice_get ps k ≡ Some p → (b && test p) ≡ false
      one p true awake at = each p at awake
      one p false awake at = refl

      at_processor : (x : Option Processor) → slice_get ps k ≡ x → option_map_or (λ q. is_awake q && test q) x false ≡ false
      at_processor None at = refl
      at_processor (Some p) at = one p (is_awake p) refl at

  strictly_off : (k : ℕ) (test : Processor → Bool) → ((p : Processor) → slice_get ps k ≡ Some p → c.mode.strict ≡ true → test p ≡ false) → holds_at ps k (λ q. c.mode.strict && test q) ≡ false
  strictly_off k test each = at_processor (slice_get ps k) refl
    where
      one : (p : Processor) (b : Bool) → c.mode.strict ≡ b → slice_get ps k ≡ Some p → (b && test p) ≡ false
      one p true strict at = each p at strict
      one p false strict at = refl

      at_processor : (x : Option Processor) → slice_get ps k ≡ x → option_map_or (λ q. c.mode.strict && test q) x false ≡ false
      at_processor None at = refl
      at_processor (Some p) at = one p c.mode.strict refl at

  deaf_off : (p : Processor) (b : Bool) → (p.self_snoop ≡ false → b ≡ false) → (is_deaf p && b) ≡ false
  deaf_off p b h = one (is_awake p) p.self_snoop h
    where
      one : (awake snoops : Bool) → (snoops ≡ false → b ≡ false) → (not awake && not snoops && b) ≡ false
      one true snoops g = refl
      one false true g = refl
      one false false g = g refl

  -- the registers of the start are those that the case names
  no_mixed_entry : (k : ℕ) (p : Processor) → slice_get ps k ≡ Some p → c.mode.strict ≡ true → (n : ℕ) → list_any (λ e. (e.vpage == n) && is_mixed_entry c k p e) p.entries ≡ false
  no_mixed_entry k p at strict n =
      let f = since k p at in
      none_mixed (λ e. e.vpage == n) (is_mixed_entry c k p) (is_known o.goal f.0)
      (λ e h.
      ap (λ b. is_cached e.kind && not b) (lets_is f.0 f.1 f.2.mappings e.vpage)
      ∙ known_unmixed (is_cached e.kind) (caches o.goal f.0 e.vpage || caches f.0.file f.0 e.vpage) h)
      p.entries f.2.known
    where
      lets_is : (first : Processor) → slice_get firsts k ≡ Some first → p.mappings ≡ first.mappings → (page : ℕ) → lets_cache c k p page ≡ (caches o.goal first page || caches first.file first page)
      lets_is first at_first mappings page =
          let named : slice_get c.starts k ≡ Some first.file = ap (λ (fs : List RegisterFile). slice_get fs k) (begun strict) ∙ slice_get-map (λ (q : Processor). q.file) firsts k ∙ ap (option_map (λ (q : Processor). q.file)) at_first in
          (λ i. list_any (caches_by (sym goal i) page) (mappings i) || option_map_or (λ f. list_any (caches_by f page) (mappings i)) (named i) false)

  pub stays_right : NoneWrong c ps
  stays_right (StaleLine k n) = awake_off k (λ q. list_any (λ l. (l.number == n) && is_stale_line q l) q.lines) (λ p at awake. no_stale_line o firsts ps since k p at awake n)
  stays_right (StaleBuffer k n) = awake_off k (λ q. list_any (λ b. (b.number == n) && is_stale_buffer q b) q.buffers) (λ p at awake. no_stale_buffer o firsts ps since k p at awake n)
  stays_right (StaleEntry k n) = awake_off k (λ q. list_any (λ e. (e.vpage == n) && is_stale_entry q e) q.entries) (λ p at awake. no_stale_entry o firsts ps since k p at awake n)
  stays_right (UnsnoopedLine k n) =
      strictly_off k (λ q. is_deaf q && list_any (λ l. (l.number == n) && is_stale_line q l) q.lines) (λ p at strict. deaf_off p _ (λ alone. no_unsnooped_line p (since k p at).2.right alone n))
  stays_right (MixedEntry k n) = strictly_off k (λ q. list_any (λ e. (e.vpage == n) && is_mixed_entry c k q e) q.entries) (λ p at strict. no_mixed_entry k p at strict n)
  stays_right (Disagree k j n) = at_processor (slice_get ps k) refl
    where
      one : (p : Processor) (b : Bool) → is_running p.phase ≡ b → slice_get ps k ≡ Some p → (b && holds_at ps j (λ q. is_awake q && list_any (λ m. (m.ppage == n) && disagree p q m) p.mappings)) ≡ false
      one p true runs at = awake_off j (λ q. list_any (λ m. (m.ppage == n) && disagree p q m) p.mappings) (λ q at_q awake. pair_agrees k j p q at at_q runs n)
      one p false runs at = refl

      at_processor : (x : Option Processor) → slice_get ps k ≡ x
          → option_map_or (λ p. is_running p.phase && holds_at ps j (λ q. is_awake q && list_any (λ m. (m.ppage == n) && disagree p q m) p.mappings)) x false ≡ false
      at_processor None at = refl
      at_processor (Some p) at = one p (is_running p.phase) refl at
