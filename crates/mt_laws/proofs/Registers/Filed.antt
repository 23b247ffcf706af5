-- How far a processor's file has come towards the goal.
use Rattle.std.proofs.Common.{◌≡◌, ◌≢◌, ℕ, ◌+◌, ◌<◌, List, [], ◌∷◌, ◌++◌, length, take, Some, None, Option, Bool, true, false, refl, sym, ap, subst, ◌∙◌, arith, ⊎_elim}
use Rattle.std.specs.Prelude.{slice_get, slice_index, slice_index_or, if◌then◌else◌, nat_lt, ◌==◌, not, ◌&&◌}
use Rattle.std.specs.Option.{option_map_or}
use Rattle.std.specs.List.{All}
use Rattle.std.proofs.lemmas.Bool.{ltb-true, ltb-false, le-ltb}
use Rattle.std.proofs.lemmas.List.{length-append}
use Rattle.mt_regs.specs.RegisterFile.{RegisterFile, IsRegisterFile, pair_count, has_fixed}
use Rattle.mt_regs.specs.declared.registers.Register.{Register}
use Rattle.mt_regs.specs.declared.registers.Register.TheVariants.{Pat, DefaultType}
use Rattle.mt_regs.specs.Registers.{pair_registers, fixed_registers, writable}
use Rattle.mt_machine.specs.declared.phase.Phase.{Phase}
use Rattle.mt_machine.specs.declared.phase.Phase.TheVariants.{Running, Taken, Arrived, Passed, NoFill, Flushed, TlbFlushed, Writing, Enabled, Flushed2, TlbFlushed2, Normal, Restored, Arrived2}
use Rattle.mt_machine.specs.declared.event.Event.{Event}
use Rattle.mt_machine.specs.declared.event.Event.TheVariants.{Take, Arrive, Leave, Pass, SetNoFill, WriteBack, DropLines, FlushTlb, Disable, Write, Enable, SetNormal, RestorePge, ArriveAgain, Release}
use Rattle.mt_machine.specs.declared.go.Go.{Go}
use Rattle.mt_machine.specs.declared.go.Go.TheVariants.{Pending, Given, Cancelled}
use Rattle.mt_machine.specs.Memory.{word_address}
use Rattle.mt_cache.specs.Lines.{first_dirty_line, first_dirty_word}
use Rattle.mt_machine.specs.System.{Processor, System, is_writing}
use Rattle.mt_machine.specs.Access.{is_running}
use Rattle.mt_machine.specs.Control.{reload_cr3}
use Rattle.mt_machine.specs.Machine.{Order, MachineEvent, Accesses, Controls, Calls, Goes, Cancels, Steps, IsEnabled, FitsGoal, next, due, own_step, before_own, step, is_over, remaining_order, is_cancelled, has_released, common_era, first_barrier_open, second_barrier_open, write_back_event, write_back_or_drop, flush_tlb, after_flush, after_drop, with_goal, without_enable}
use Rattle.mt_machine.proofs.Rows.{first_flush_case}
use Rattle.mt_laws.proofs.Barrier.Stages.{Stage, stage_of, stages_of, stages}
use Rattle.mt_laws.proofs.Barrier.Ranks.{is_ahead, stage_at}
use Rattle.mt_laws.proofs.Barrier.Barriers.{Rest, Kept, Invariant}
use Rattle.mt_laws.proofs.Clearing.Follows.{FollowsIn, follows_drain, follows_access, follows_control}
use Rattle.mt_laws.proofs.Clearing.Renewed.{at_change}
use Rattle.mt_machine.proofs.Files.{Alike, AgreeAll, alike_files, file_alike, alike_writes, alike_disabled, agree_more, last_written}
use Rattle.mt_laws.proofs.Barrier.Claims.{all_get}

abbrev pub is_done : Phase → Bool
is_done Enabled = true
is_done Flushed2 = true
is_done TlbFlushed2 = true
is_done Normal = true
is_done Restored = true
is_done Arrived2 = true
is_done other = false

pub record Filed (o : Order) (f : RegisterFile) (x : Stage) : Type 0 where
  pub alike : Alike o.goal f
  pub writing : (i : ℕ) → is_writing x.0 ≡ Some i → (i < length (writable o.goal)) × AgreeAll o.goal f (take i (writable o.goal))
  pub done : is_done x.0 ≡ true → f ≡ o.goal
  pub released : is_ahead o x ≡ true → f ≡ o.goal

abbrev pub FiledAt : Order → Processor → Type 0
FiledAt o p = Filed o p.file (stage_of p)

pub flush_file : (ph : Phase) (p : Processor) → (flush_tlb ph p).file ≡ p.file
flush_file Flushed2 p = refl
flush_file other p = in_case p.page_global
  where
    in_case : (b : Bool) → (if b then record p { remembered_global = true; page_global = false; entries = [] } else record (reload_cr3 p) { remembered_global = false }).file ≡ p.file
    in_case true = refl
    in_case false = refl

flush_era : (ph : Phase) (p : Processor) → (flush_tlb ph p).era ≡ p.era
flush_era Flushed2 p = refl
flush_era other p = in_case p.page_global
  where
    in_case : (b : Bool) → (if b then record p { remembered_global = true; page_global = false; entries = [] } else record (reload_cr3 p) { remembered_global = false }).era ≡ p.era
    in_case true = refl
    in_case false = refl

two_at_least : (goal : RegisterFile) → 0 < length (writable goal)
two_at_least goal = long (pair_registers 0 (pair_count goal)) (if has_fixed goal then fixed_registers else [])
  where
    long : (xs ys : List Register) → 0 < length (xs ++ ys ++ Pat ∷ DefaultType ∷ [])
    long xs ys = omega (arith, length-append (xs ++ ys) (Pat ∷ DefaultType ∷ []))

module _ (o : Order) (ps : List Processor) (p : Processor) (is_file : IsRegisterFile o.goal) (fd : FiledAt o p) (behind : is_running p.phase ≡ false → has_released o p ≡ false) where
  -- a step that leaves the file, to a phase that writes nothing
  keep : (ph to : Phase) (f : RegisterFile) (era : ℕ) → p.phase ≡ ph → f ≡ p.file → era ≡ p.era → is_writing to ≡ None → (is_done to ≡ true → is_done ph ≡ true) → Filed o f (to, era)
  keep ph to f era same file is_era quiet to_done =
      subst (λ (g : RegisterFile). Filed o g (to, era)) (sym file)
      (record {
        alike = fd.alike;
        writing = λ i h. absurd (cc);
        done = λ h. fd.done (ap is_done same ∙ to_done h);
        released = λ h. fd.released (ap (nat_lt o.from_era) (sym is_era) ∙ h);
      })

  abbrev Next : Event → Type 0
  Next e = FiledAt o (own_step o.goal e p)

  option_case : {X Y : Type 0} → (x : Option X) (f : X → Y) (d : Y) (P : Y → Type 0) → P d → ((y : X) → P (f y)) → P (option_map_or f x d)
  option_case None f d P none some = none
  option_case (Some y) f d P none some = some y

  drains : (ph : Phase) (e : Event) → p.phase ≡ ph → is_writing ph ≡ None → is_writing (after_drop ph) ≡ None → (is_done (after_drop ph) ≡ true → is_done ph ≡ true) → Some (write_back_or_drop p) ≡ Some e → Next e
  drains ph e same here there to_done h =
      let is : write_back_or_drop p ≡ e = cc in
      let dropped : Next DropLines = keep ph (after_drop p.phase) p.file p.era same refl refl (ap (λ v. is_writing (after_drop v)) same ∙ there) (λ d. to_done (ap (λ v. is_done (after_drop v)) (sym same) ∙ d)) in
      let wrote : (a v : ℕ) → Next (WriteBack a v) = λ a v. keep ph p.phase p.file p.era same refl refl (ap is_writing same ∙ here) (λ d. ap is_done (sym same) ∙ d) in
      subst Next is
      (option_case (first_dirty_line p.lines) write_back_event DropLines Next dropped
      (λ l. option_case (first_dirty_word l) _ DropLines Next dropped
      (λ word. wrote (word_address l.number word) (slice_index l.words word))))

  flushes : (ph : Phase) → p.phase ≡ ph → is_writing (after_flush ph) ≡ None → (is_done (after_flush ph) ≡ true → is_done ph ≡ true) → Next FlushTlb
  flushes ph same there to_done =
      keep ph (after_flush p.phase) (flush_tlb p.phase p).file (flush_tlb p.phase p).era same (flush_file p.phase p) (flush_era p.phase p)
      (ap (λ v. is_writing (after_flush v)) same ∙ there) (λ d. to_done (ap (λ v. is_done (after_flush v)) (sym same) ∙ d))

  disables : p.phase ≡ TlbFlushed → Next Disable
  disables same = record {
    alike = alike_disabled o.goal p.file fd.alike;
    writing = λ i h. let e : 0 ≡ i = cc in subst (λ j. (j < length (writable o.goal)) × AgreeAll o.goal (without_enable p.file) (take j (writable o.goal))) e (two_at_least o.goal, tt);
    done = λ h. absurd (cc);
    released = λ h. absurd (let b : has_released o p ≡ false = behind (ap is_running same) in cc);
  }

  writes : (i : ℕ) → p.phase ≡ Writing i → nat_lt (i + 1) (length (writable p.file)) ≡ true → Next (Write i)
  writes i same more =
      let so_far = fd.writing i (ap is_writing same) in
      let long : length (writable p.file) ≡ length (writable o.goal) = same_length in
      record {
        alike = alike_writes o.goal p.file (slice_index_or (writable o.goal) i DefaultType) fd.alike;
        writing = λ j h. let e : i + 1 ≡ j = cc in
            subst (λ n. (n < length (writable o.goal)) × AgreeAll o.goal (with_goal o.goal (slice_index_or (writable o.goal) i DefaultType) p.file) (take n (writable o.goal))) e
            (let below = ltb-true (i + 1) (length (writable p.file)) more in omega arith, agree_more o.goal p.file i so_far.0 fd.alike so_far.1);
        done = λ h. absurd (cc);
        released = λ h. absurd (let b : has_released o p ≡ false = behind (ap is_running same) in cc);
      }
    where
      same_length : length (writable p.file) ≡ length (writable o.goal)
      same_length = ap (λ c. length (writable (record o.goal { capabilities = c }))) fd.alike.capabilities

  enables : (i : ℕ) → p.phase ≡ Writing i → nat_lt (i + 1) (length (writable p.file)) ≡ false → Next Enable
  enables i same no_more =
      let so_far = fd.writing i (ap is_writing same) in
      let last = ltb-false (i + 1) (length (writable p.file)) no_more in
      let long : length (writable p.file) ≡ length (writable o.goal) = ap (λ c. length (writable (record o.goal { capabilities = c }))) fd.alike.capabilities in
      let made : with_goal o.goal DefaultType p.file ≡ o.goal = last_written o.goal p.file i so_far.0 (omega arith) is_file fd.alike so_far.1 in
      record {
        alike = alike_writes o.goal p.file DefaultType fd.alike;
        writing = λ j h. absurd (cc);
        done = λ h. made;
        released = λ h. made;
      }

  writes_on : (i : ℕ) (b : Bool) (e : Event) → p.phase ≡ Writing i → nat_lt (i + 1) (length (writable p.file)) ≡ b → Some (if b then Write i else Enable) ≡ Some e → Next e
  writes_on i true e same is h = subst Next (let v : Write i ≡ e = cc in v) (writes i same is)
  writes_on i false e same is h = subst Next (let v : Enable ≡ e = cc in v) (enables i same is)

  releases : p.phase ≡ Arrived2 → Next Release
  releases same = record {
    alike = fd.alike;
    writing = λ i h. absurd (cc);
    done = λ h. absurd (cc);
    released = λ h. fd.done (ap is_done same);
  }

  plain : (ph to : Phase) (v e : Event) → p.phase ≡ ph → v ≡ e → FiledAt o (own_step o.goal v p) → Next e
  plain ph to v e same is h = subst Next is h

  from_taken : (b : Bool) (e : Event) → p.phase ≡ Taken → Some (if b then Leave else Arrive) ≡ Some e → Next e
  from_taken true e same h = subst Next (let v : Leave ≡ e = cc in v) (keep Taken Running p.file p.era same refl refl refl (λ d. absurd (cc)))
  from_taken false e same h = subst Next (let v : Arrive ≡ e = cc in v) (keep Taken Arrived p.file p.era same refl refl refl (λ d. absurd (cc)))

  from_arrived : (b f : Bool) (e : Event) → p.phase ≡ Arrived → (if b then Some Leave else (if f then Some Pass else None)) ≡ Some e → Next e
  from_arrived true f e same h = subst Next (let v : Leave ≡ e = cc in v) (keep Arrived Running p.file p.era same refl refl refl (λ d. absurd (cc)))
  from_arrived false false e same h = absurd (cc)
  from_arrived false true e same h = subst Next (let v : Pass ≡ e = cc in v) (keep Arrived Passed p.file p.era same refl refl refl (λ d. absurd (cc)))

  from_again : (f : Bool) (e : Event) → p.phase ≡ Arrived2 → (if f then Some Release else None) ≡ Some e → Next e
  from_again false e same h = absurd (cc)
  from_again true e same h = subst Next (let v : Release ≡ e = cc in v) (releases same)

  from_running : (a c : Bool) (e : Event) → p.phase ≡ Running → (if a && not c then Some Take else None) ≡ Some e → Next e
  from_running false c e same h = absurd (cc)
  from_running true true e same h = absurd (cc)
  from_running true false e same h = subst Next (let v : Take ≡ e = cc in v) (keep Running Taken p.file p.era same refl refl refl (λ d. absurd (cc)))

  pub filed_step : (ph : Phase) (e : Event) → p.phase ≡ ph → due o ps p ph ≡ Some e → Next e
  filed_step Running e same h = from_running (p.era == o.from_era) (is_cancelled o.go) e same h
  filed_step Taken e same h = from_taken (is_cancelled o.go) e same h
  filed_step Arrived e same h = from_arrived (is_cancelled o.go) (first_barrier_open o ps) e same h
  filed_step Passed e same h = subst Next (let v : SetNoFill ≡ e = cc in v) (keep Passed NoFill p.file p.era same refl refl refl (λ d. absurd (cc)))
  filed_step NoFill e same h = first_flush_case p e h (λ on is. subst Next is (flushes NoFill same refl (λ d. absurd (cc)))) (λ off. drains NoFill e same refl refl (λ d. absurd (cc)))
  filed_step Flushed e same h = subst Next (let v : FlushTlb ≡ e = cc in v) (flushes Flushed same refl (λ d. absurd (cc)))
  filed_step TlbFlushed e same h = subst Next (let v : Disable ≡ e = cc in v) (disables same)
  filed_step (Writing i) e same h = writes_on i (nat_lt (i + 1) (length (writable p.file))) e same refl h
  filed_step Enabled e same h = drains Enabled e same refl refl (λ d. refl) h
  filed_step Flushed2 e same h = subst Next (let v : FlushTlb ≡ e = cc in v) (flushes Flushed2 same refl (λ d. refl))
  filed_step TlbFlushed2 e same h = subst Next (let v : SetNormal ≡ e = cc in v) (keep TlbFlushed2 Normal p.file p.era same refl refl refl (λ d. refl))
  filed_step Normal e same h = subst Next (let v : RestorePge ≡ e = cc in v) (keep Normal Restored p.file p.era same refl refl refl (λ d. refl))
  filed_step Restored e same h = subst Next (let v : ArriveAgain ≡ e = cc in v) (keep Restored Arrived2 p.file p.era same refl refl refl (λ d. refl))
  filed_step Arrived2 e same h = from_again (second_barrier_open o ps) e same h

-- ---- all processors

abbrev pub AllFiled : Option Order → List Processor → Type 0
AllFiled None ps = (i : ℕ) (p : Processor) → slice_get ps i ≡ Some p → IsRegisterFile p.file
AllFiled (Some o) ps = IsRegisterFile o.goal × ((i : ℕ) (p : Processor) → slice_get ps i ≡ Some p → FiledAt o p)

filed_as : (o : Order) (p q : Processor) → q.file ≡ p.file → q.phase ≡ p.phase → q.era ≡ p.era → FiledAt o p → FiledAt o q
filed_as o p q file phase era h =
    let to : (p.file, p.phase, p.era) ≡ (q.file, q.phase, q.era) = λ i. (sym file i, sym phase i, sym era i) in
    subst (λ (v : RegisterFile × Phase × ℕ). Filed o v.0 (v.1, v.2)) to h

filed_follows : (k : ℕ) (o : Option Order) (ps qs : List Processor) → FollowsIn k ps qs → AllFiled o ps → AllFiled o qs
filed_follows k None ps qs f all = λ j q at. let from = f j q at in subst IsRegisterFile (sym from.2.file) (all j from.0 from.1)
filed_follows k (Some o) ps qs f all =
    (all.0, λ j q at. let from = f j q at in filed_as o from.0 q from.2.file from.2.phase from.2.era (all.1 j from.0 from.1))

filed_still : (o : Order) (ps qs : List Processor) → AllFiled (Some o) qs → AllFiled (remaining_order o ps) qs
filed_still o ps qs all = one (is_over o ps)
  where
    one : (b : Bool) → AllFiled (if b then None else Some o) qs
    one true = λ i p at. file_alike o.goal p.file all.0 (all.1 i p at).alike
    one false = all

filed_go : (o : Order) (go : Go) (ps : List Processor) → AllFiled (Some o) ps → AllFiled (Some (record o { go = go })) ps
filed_go o go ps all = (all.0, λ i p at. let h = all.1 i p at in record { alike = h.alike; writing = h.writing; done = h.done; released = h.released })

-- after the part that comes before a step's own
own_filed : (o : Order) (k : ℕ) (s : System) (p x : Processor) (e : Event) → slice_get s.processors k ≡ Some p → slice_get (before_own e k s).processors k ≡ Some x → FiledAt o (own_step o.goal e p) → FiledAt o (own_step o.goal e x)
own_filed o k s p x Take is_p is_x h =
    let from = follows_drain k s k x is_x in
    let same : from.0 ≡ p = let e : Some (from.0) ≡ Some p = sym from.1 ∙ is_p in cc in
    filed_as o (own_step o.goal Take p) (own_step o.goal Take x)
    (from.2.file ∙ ap (λ (y : Processor). y.file) same) refl (from.2.era ∙ ap (λ (y : Processor). y.era) same) h
own_filed o k s p x (WriteBack a v) is_p is_x h =
    let same : p ≡ x = let e : Some p ≡ Some x = sym is_p ∙ is_x in cc in subst (λ (y : Processor). FiledAt o (own_step o.goal (WriteBack a v) y)) same h
own_filed o k s p x other is_p is_x h =
    let same : p ≡ x = let e : Some p ≡ Some x = sym is_p ∙ is_x in cc in subst (λ (y : Processor). FiledAt o (own_step o.goal other y)) same h

others_filed : (o : Order) (k j : ℕ) (s : System) (q : Processor) (e : Event) → slice_get (before_own e k s).processors j ≡ Some q → ((i : ℕ) (p : Processor) → slice_get s.processors i ≡ Some p → FiledAt o p) → FiledAt o q
others_filed o k j s q Take at all = let from = follows_drain k s j q at in filed_as o from.0 q from.2.file from.2.phase from.2.era (all j from.0 from.1)
others_filed o k j s q (WriteBack a v) at all = all j q at
others_filed o k j s q other at all = all j q at

pub filed_steps : (o : Order) (e : Event) (k : ℕ) (s : System) (p : Processor) → slice_get s.processors k ≡ Some p → due o s.processors p p.phase ≡ Some e → Kept (Some o) (stages s) → AllFiled (Some o) s.processors → AllFiled (Some o) (step o.goal e k s).processors
filed_steps o e k s p is_p h g all = (
  all.0,
  λ j q at. ⊎_elim
      (λ (m : (j ≡ k) × (x : Processor) × (slice_get (before_own e k s).processors k ≡ Some x) × (own_step o.goal e x ≡ q)).
      subst (FiledAt o) m.3 (own_filed o k s p m.1 e is_p m.2
      (filed_step o s.processors p all.0 (all.1 k p is_p) (g.in_step k (stage_of p) (stage_at s.processors k p is_p)) p.phase e refl h)))
      (λ (m : (j ≢ k) × (slice_get (before_own e k s).processors j ≡ Some q)). others_filed o k j s q e m.1 all.1)
      (at_change (own_step o.goal e) k (before_own e k s) j q at),
)

running_writes : (ph : Phase) → is_running ph ≡ true → (is_writing ph ≡ None) × (is_done ph ≡ false)
running_writes Running h = (refl, refl)
running_writes other h = absurd (cc)

filed_called : (goal : RegisterFile) (ps : List Processor) → IsRegisterFile goal → All (FitsGoal goal) ps → Rest (stages_of ps) → ((i : ℕ) (p : Processor) → slice_get ps i ≡ Some p → IsRegisterFile p.file) → AllFiled (Some (record { goal = goal; from_era = common_era ps; go = Pending })) ps
filed_called goal ps file fits r all = (
  file,
  λ i p at.
      let fit = all_get (FitsGoal goal) ps fits i p at in
      let w = running_writes p.phase (r.running i (stage_of p) (stage_at ps i p at)) in
      let off : nat_lt (common_era ps) p.era ≡ false = behind ps r i p at in
      record {
        alike = alike_files goal p.file file (all i p at) (sym fit.width) (sym fit.capabilities);
        writing = λ j h. absurd (let n = w.0 in cc);
        done = λ h. absurd (let n = w.1 in cc);
        released = λ h. absurd (cc);
      },
)
  where
    behind : (ps : List Processor) → Rest (stages_of ps) → (i : ℕ) (p : Processor) → slice_get ps i ≡ Some p → nat_lt (common_era ps) p.era ≡ false
    behind [] r i p at = absurd (cc)
    behind (x ∷ ps) r i p at =
        let e : p.era ≡ x.era = r.one_era i 0 (stage_of p) (stage_of x) (stage_at (x ∷ ps) i p at) refl in
        le-ltb x.era p.era (omega arith)

pub filed_next : (e : MachineEvent) (s : System) (o : Option Order) → IsEnabled (record { system = s; order = o }) e → Invariant (record { system = s; order = o }) → AllFiled o s.processors
    → AllFiled (next (record { system = s; order = o }) e).order (next (record { system = s; order = o }) e).system.processors
filed_next (Accesses k op) s o enabled inv all = filed_follows k o s.processors _ (follows_access s k op) all
filed_next (Controls k c) s o enabled inv all = filed_follows k o s.processors _ (follows_control s k c) all
filed_next (Calls goal) s None enabled inv all = filed_called goal s.processors enabled.1 enabled.3 inv all
filed_next (Calls goal) s (Some o) enabled inv all = absurd (let e = enabled.0 in cc)
filed_next Goes s None enabled inv all = absurd (cc)
filed_next Goes s (Some o) enabled inv all = filed_still (record o { go = Given }) s.processors s.processors (filed_go o Given s.processors all)
filed_next Cancels s None enabled inv all = absurd (cc)
filed_next Cancels s (Some o) enabled inv all = filed_still (record o { go = Cancelled }) s.processors s.processors (filed_go o Cancelled s.processors all)
filed_next (Steps k e) s None enabled inv all = absurd (cc)
filed_next (Steps k e) s (Some o) enabled inv all = at_processor (slice_get s.processors k) refl enabled
  where
    at_processor : (q : Option Processor) → slice_get s.processors k ≡ q → option_map_or (λ p. due o s.processors p p.phase) q None ≡ Some e → AllFiled (remaining_order o (step o.goal e k s).processors) (step o.goal e k s).processors
    at_processor None at h = absurd (cc)
    at_processor (Some p) at h = filed_still o _ _ (filed_steps o e k s p at h inv all)
