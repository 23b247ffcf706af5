-- What was cached before an update is in memory from its first release on.
use Rattle.std.proofs.Common.{◌≡◌, ℕ, zero, suc, ◌+◌, ◌%◌, ◌<◌, ◌≤◌, List, [], ◌∷◌, ◌++◌, length, set, Some, None, Option, Bool, true, false, refl, sym, ap, subst, ◌∙◌, arith, ⊎_elim, lit≤}
use Rattle.std.specs.Prelude.{slice_get, if◌then◌else◌, nat_lt, not, ◌&&◌, ◌||◌}
use Rattle.std.specs.List.{All, Contains, list_all, list_any}
use Rattle.std.specs.Option.{option_map_or}
use Rattle.std.proofs.lemmas.Bool.{lt-ltb}
use Rattle.mt_cache.specs.declared.line.CacheLine.{CacheLine}
use Rattle.mt_machine.specs.declared.phase.Phase.{Phase}
use Rattle.mt_machine.specs.declared.phase.Phase.TheVariants.{Running, Taken, Arrived, Passed, Arrived2}
use Rattle.mt_machine.specs.declared.event.Event.{Event}
use Rattle.mt_machine.specs.declared.event.Event.TheVariants.{Pass, FlushTlb, Release}
use Rattle.mt_machine.specs.declared.go.Go.{Go}
use Rattle.mt_machine.specs.declared.go.Go.TheVariants.{Pending, Given, Cancelled}
use Rattle.mt_machine.specs.Memory.{Window, word_at}
use Rattle.mt_machine.specs.System.{Processor, System, now}
use Rattle.mt_machine.specs.Access.{is_running}
use Rattle.mt_machine.specs.Machine.{Machine, Order, MachineEvent, Accesses, Controls, Calls, Goes, Cancels, Steps, IsEnabled, next, due, own_step, step, remaining_order, is_given, is_cancelled, is_waiting_to_pass, has_released, has_passed, is_changing, is_arrived_again, second_barrier_open, run, AreEnabled}
use Rattle.mt_machine.specs.Update.{IsHeld, stored_word, stored_words, is_release}
use Rattle.mt_laws.specs.Settled.{HeldAfterRelease, IsFirstRelease}
use Rattle.mt_laws.proofs.Barrier.Stages.{Stage, stage_of, stages}
use Rattle.mt_laws.proofs.Barrier.Ranks.{rank, rank_of, is_ahead, At, Guarded, not_both, processor_at, stage_at, all_at, all_fourth, and_left, and_right}
use Rattle.mt_laws.proofs.Barrier.Barriers.{Kept, step_moves, step_stages, step_guarded, flush_era}
use Rattle.mt_laws.proofs.Barrier.Claims.{all_get}
use Rattle.mt_laws.proofs.Clearing.Cleared.{lines_gone, buffers_gone}
use Rattle.mt_laws.proofs.Clearing.Renewed.{AllClear, is_take, no_take}
use Rattle.mt_laws.proofs.Clearing.Late.{IsKept, kept_next, reached_kept, start_kept, late, at_same, set_at, set_same}
use Rattle.mt_laws.proofs.Words.MemoryLaws.{AllAligned}
use Rattle.mt_laws.proofs.Words.Copies.{Copy, IsClear, IsShared, IsOwned}
use Rattle.mt_laws.proofs.Words.LineLists.{copy_in}
use Rattle.mt_laws.proofs.Words.BusLaws.{Stands, Word, copies, all_unwritten, unwritten}
use Rattle.mt_laws.proofs.Words.Agreement.{Agrees, agrees_next, agrees_run, stands_next, word_next, step_keeps_word}
use Rattle.mt_laws.proofs.Words.Sound.{now_is}
use Rattle.mt_laws.proofs.Invariant.Kept.{agrees, start_aligned}

-- ---- a word that isn't stored stays in memory

pub contains_more : (o : Option ℕ) (rest : List ℕ) (a : ℕ) → Contains rest a → Contains (option_map_or (λ b. b ∷ rest) o rest) a
contains_more None rest a h = h
contains_more (Some b) rest a h = let low : h.0 < length rest = h.1 in (suc h.0, omega arith, h.2)

pub contains_first : (o : Option ℕ) (rest : List ℕ) (a : ℕ) → o ≡ Some a → Contains (option_map_or (λ b. b ∷ rest) o rest) a
contains_first None rest a h = absurd (cc)
contains_first (Some b) rest a h = let e : b ≡ a = cc in (0, omega arith, e)

module _ (ws : List Window) (aligned : AllAligned ws) where
  pub stays_in_memory : (es : List MachineEvent) (m : Machine) (a x : ℕ) → a % 8 ≡ 0 → Stands ws m.system → AreEnabled m es → (Contains (stored_words m es) a → ⊥) → Word false a x m.system → Word false a x (run m es).system
  stays_in_memory [] m a x whole st enabled other w = w
  stays_in_memory (e ∷ es) m a x whole st enabled other w =
      let r = word_next ws aligned m e enabled.0 st false a x whole (λ h is. other (contains_first (stored_word m e) (stored_words (next m e) es) a is)) w in
      stays_in_memory es (next m e) a x whole (stands_next ws aligned m e enabled.0 st) enabled.1 (λ h. other (contains_more (stored_word m e) (stored_words (next m e) es) a h))
      (subst (λ (y : ℕ). Word false a y (next m e).system) (r.1 refl) r.2)

release_takes_nothing : is_take Release ≡ false
unfolding is_take
release_takes_nothing = refl

pass_takes_nothing : is_take Pass ≡ false
unfolding is_take
pass_takes_nothing = refl

-- ---- between the first pass and the first release

-- some processor has passed, and none has released
pub record IsBetween (o : Order) (s : System) : Type 0 where
  pub one : ℕ
  pub stage : Stage
  pub there : At (stages s) one stage
  pub past : 3 ≤ rank o stage
  pub behind : (i : ℕ) (x : Stage) → At (stages s) i x → is_ahead o x ≡ false

pub own_era : (o : Order) (p : Processor) (e : Event) → is_release (Steps 0 e) ≡ false → (own_step o.goal e p).era ≡ p.era
own_era o p Release h = absurd (cc)
own_era o p FlushTlb h = flush_era p.phase p
own_era o p other h = refl

running_low : (ph : Phase) → is_running ph ≡ true → rank_of ph false ≡ 0
running_low Running h = refl
running_low other h = absurd (cc)

not_true : (b : Bool) → (b ≡ true → ⊥) → b ≡ false
not_true true h = absurd (h refl)
not_true false h = refl

not_given_cancelled : (go : Go) → is_given go ≡ true → is_cancelled go ≡ false
not_given_cancelled Pending h = refl
not_given_cancelled Given h = refl
not_given_cancelled Cancelled h = absurd (cc)

stays_under_way : (o : Order) (s : System) → Guarded o (stages s) → IsBetween o s → remaining_order o s.processors ≡ Some o
stays_under_way o s g b = one (list_all (has_released o) s.processors) (is_cancelled o.go) (not (list_any (λ p. is_waiting_to_pass p.phase) s.processors)) (not_true _ none_released) (not_given_cancelled o.go (g.given b.one b.stage b.there b.past))
  where
    none_released : list_all (has_released o) s.processors ≡ true → ⊥
    none_released all =
        let found = processor_at s.processors b.one b.stage b.there in
        let on : has_released o found.0 ≡ true = all_at (has_released o) s.processors b.one found.0 all found.1 in
        let off : is_ahead o (stage_of found.0) ≡ false = b.behind b.one (stage_of found.0) (stage_at s.processors b.one found.0 found.1) in
        absurd (cc)

    one : (x y z : Bool) → x ≡ false → y ≡ false → (if x || (y && z) then None else Some o) ≡ Some o
    one true y z h g = absurd (cc)
    one false true z h g = absurd (cc)
    one false false z h g = refl

module _ (o : Order) (s : System) (g : Guarded o (stages s)) (b : IsBetween o s) where
  none_runs : (k : ℕ) (p : Processor) → slice_get s.processors k ≡ Some p → is_running p.phase ≡ false
  none_runs k p at =
      not_true (is_running p.phase)
      (λ runs. let here = stage_at s.processors k p at in
      let second : 2 ≤ rank o (stage_of p) = g.first b.one k b.stage (stage_of p) b.there here b.past in
      let low : rank o (stage_of p) ≡ 0 = ap (rank_of p.phase) (b.behind k (stage_of p) here) ∙ running_low p.phase runs in
      absurd (omega arith))

  -- a step that releases nothing
  module _ (k : ℕ) (e : Event) (p : Processor) (at : slice_get s.processors k ≡ Some p) (h : due o s.processors p p.phase ≡ Some e) (quiet : is_release (Steps 0 e) ≡ false) where
    behind_after : (i : ℕ) (x : Stage) → At (stages (step o.goal e k s)) i x → is_ahead o x ≡ false
    behind_after i x there =
        let here = stage_at s.processors k p at in
        let set_there : At (set (stages s) k (stage_of (own_step o.goal e p))) i x = subst (λ (vs : List Stage). At vs i x) (step_stages o.goal e k s p at) there in
        one (stages s) k i set_there (λ j y. b.behind j y) (ap (nat_lt o.from_era) (own_era o p e quiet) ∙ b.behind k (stage_of p) here)
      where
        one : (vs : List Stage) (k i : ℕ) → At (set vs k (stage_of (own_step o.goal e p))) i x → ((j : ℕ) (y : Stage) → At vs j y → is_ahead o y ≡ false) → is_ahead o (stage_of (own_step o.goal e p)) ≡ false → is_ahead o x ≡ false
        one [] k i there all new = absurd (cc)
        one (v ∷ vs) zero zero there all new = let q : stage_of (own_step o.goal e p) ≡ x = cc in ap (is_ahead o) (sym q) ∙ new
        one (v ∷ vs) zero (suc i) there all new = all (suc i) x there
        one (v ∷ vs) (suc k) zero there all new = all 0 x there
        one (v ∷ vs) (suc k) (suc i) there all new = one vs k i there (λ j y at. all (suc j) y at) new

    still_between : IsBetween o (step o.goal e k s)
    still_between =
        let here : At (stages s) k (stage_of p) = stage_at s.processors k p at in
        let y : Stage = stage_of (own_step o.goal e p) in
        let move = step_moves o s.processors p (g.eras k (stage_of p) here) p.phase e refl h (g.in_step k (stage_of p) here) in
        let moved : (i : ℕ) × (x : Stage) × At (stages (step o.goal e k s)) i x × (3 ≤ rank o x) =
        subst (λ (vs : List Stage). (i : ℕ) × (x : Stage) × At vs i x × (3 ≤ rank o x)) (sym (step_stages o.goal e k s p at))
        (⊎_elim
        (λ (was : At (set (stages s) k y) b.one b.stage). let r : (i : ℕ) × (x : Stage) × At (set (stages s) k y) i x × (3 ≤ rank o x) = (b.one, b.stage, was, b.past) in r)
        (λ (m : (b.one ≡ k) × At (set (stages s) k y) b.one y).
        let same : b.stage ≡ stage_of p = at_same (stages s) k b.stage (stage_of p) (subst (λ (j : ℕ). At (stages s) j b.stage) m.0 b.there) here in
        let high : 3 ≤ rank o (stage_of p) = subst (λ (v : Stage). 3 ≤ rank o v) same b.past in
        let given : is_given o.go ≡ true = g.given k (stage_of p) here high in
        let up : 3 ≤ rank o y = ⊎_elim (λ (u : rank o (stage_of p) ≤ rank o y). omega arith) (λ u. absurd (not_both o.go given u)) move.up in
        let r : (i : ℕ) × (x : Stage) × At (set (stages s) k y) i x × (3 ≤ rank o x) = (b.one, y, m.1, up) in r)
        (set_at (stages s) b.one k b.stage y (stage_of p) b.there here)) in
        record { one = moved.0; stage = moved.1; there = moved.2; past = moved.3; behind = behind_after }

-- an event there is a step that takes nothing
pub record IsInside (o : Order) (m : Machine) (e : MachineEvent) : Type 0 where
  pub order : (next m e).order ≡ Some o
  pub between : IsBetween o (next m e).system
  pub who : ℕ
  pub what : Event
  pub is : e ≡ Steps who what
  pub no_taking : is_take what ≡ false

pending_clash : (o : Order) (s : System) → Guarded o (stages s) → IsBetween o s → Some o.go ≡ Some Pending → ⊥
pending_clash o s g b pending =
    let given : is_given o.go ≡ true = g.given b.one b.stage b.there b.past in
    let is : o.go ≡ Pending = cc in
    let off : is_given o.go ≡ false = ap is_given is in
    absurd (cc)

runs_there : (ps : List Processor) (k : ℕ) → option_map_or (λ (p : Processor). is_running p.phase) (slice_get ps k) false ≡ true → (p : Processor) × (slice_get ps k ≡ Some p) × (is_running p.phase ≡ true)
runs_there ps k h = one (slice_get ps k) refl h
  where
    one : (o : Option Processor) → slice_get ps k ≡ o → option_map_or (λ (p : Processor). is_running p.phase) o false ≡ true → (p : Processor) × (slice_get ps k ≡ Some p) × (is_running p.phase ≡ true)
    one None is g = absurd (cc)
    one (Some p) is g = (p, is, g)

inside_in : (o : Order) (s : System) (e : MachineEvent) → Guarded o (stages s) → IsBetween o s → IsEnabled (record { system = s; order = Some o }) e → is_release e ≡ false → IsInside o (record { system = s; order = Some o }) e
inside_in o s (Accesses k op) g b enabled quiet = let r = runs_there s.processors k enabled.0 in absurd (let off : is_running r.0.phase ≡ false = none_runs o s g b k r.0 r.1 in let on = r.2 in cc)
inside_in o s (Controls k c) g b enabled quiet = let r = runs_there s.processors k enabled.0 in absurd (let off : is_running r.0.phase ≡ false = none_runs o s g b k r.0 r.1 in let on = r.2 in cc)
inside_in o s (Calls goal) g b enabled quiet = absurd (let e = enabled.0 in cc)
inside_in o s Goes g b enabled quiet = absurd (pending_clash o s g b enabled)
inside_in o s Cancels g b enabled quiet = absurd (pending_clash o s g b enabled)
inside_in o s (Steps k e) g b enabled quiet = one (slice_get s.processors k) refl enabled
  where
    one : (q : Option Processor) → slice_get s.processors k ≡ q → option_map_or (λ p. due o s.processors p p.phase) q None ≡ Some e → IsInside o (record { system = s; order = Some o }) (Steps k e)
    one None at h = absurd (cc)
    one (Some p) at h =
        let next_between = still_between o s g b k e p at h (same_quiet e quiet) in
        record {
          order = stays_under_way o (step o.goal e k s) (step_guarded o e k s p at h g) next_between;
          between = next_between;
          who = k;
          what = e;
          is = refl;
          no_taking = no_take o s.processors p p.phase e (none_runs o s g b k p at) h;
        }
      where
        same_quiet : (e : Event) → is_release (Steps k e) ≡ false → is_release (Steps 0 e) ≡ false
        same_quiet Release h = h
        same_quiet other h = refl

inside : (o : Order) (m : Machine) (e : MachineEvent) (x : Option Order) → x ≡ Some o → Kept x (stages m.system) → IsBetween o m.system → IsEnabled (record { system = m.system; order = x }) e → is_release e ≡ false → IsInside o (record { system = m.system; order = x }) e
inside o m e None is kept b enabled quiet = absurd (cc)
inside o m e (Some o') is kept b enabled quiet =
    let same : o' ≡ o = cc in
    subst (λ (v : Order). IsInside v (record { system = m.system; order = Some o' }) e) same
    (inside_in o' m.system e kept (subst (λ (v : Order). IsBetween v m.system) (sym same) b) enabled quiet)

-- ---- the first pass, and the first release

passed_off : (a b c : Bool) → (a || b || c) ≡ false → c ≡ false
passed_off true b c h = absurd (cc)
passed_off false true c h = absurd (cc)
passed_off false false c h = h

pass_between : (o : Order) (s : System) (k : ℕ) → Guarded o (stages s) → All (λ q. has_passed o q ≡ false) s.processors → IsEnabled (record { system = s; order = Some o }) (Steps k Pass)
    → ((next (record { system = s; order = Some o }) (Steps k Pass)).order ≡ Some o) × IsBetween o (next (record { system = s; order = Some o }) (Steps k Pass)).system
pass_between o s k g none enabled = one (slice_get s.processors k) refl enabled
  where
    one : (q : Option Processor) → slice_get s.processors k ≡ q → option_map_or (λ p. due o s.processors p p.phase) q None ≡ Some Pass → (remaining_order o (step o.goal Pass k s).processors ≡ Some o) × IsBetween o (step o.goal Pass k s)
    one None at h = absurd (cc)
    one (Some p) at h = (stays_under_way o (step o.goal Pass k s) (step_guarded o Pass k s p at h g) there, there)
      where
        behind : (i : ℕ) (x : Stage) → At (stages s) i x → is_ahead o x ≡ false
        behind i x at_x =
            let found = processor_at s.processors i x at_x in
            let off : has_passed o found.0 ≡ false = all_get (λ q. has_passed o q ≡ false) s.processors none i found.0 found.1 in
            ap (is_ahead o) (sym found.2) ∙ passed_off (is_changing found.0.phase) (is_arrived_again found.0.phase) (has_released o found.0) off

        kept : (vs : List Stage) (k i : ℕ) (x y : Stage) → At (set vs k y) i x → ((j : ℕ) (z : Stage) → At vs j z → is_ahead o z ≡ false) → is_ahead o y ≡ false → is_ahead o x ≡ false
        kept [] k i x y h all new = absurd (cc)
        kept (v ∷ vs) zero zero x y h all new = let q : y ≡ x = cc in ap (is_ahead o) (sym q) ∙ new
        kept (v ∷ vs) zero (suc i) x y h all new = all (suc i) x h
        kept (v ∷ vs) (suc k) zero x y h all new = all 0 x h
        kept (v ∷ vs) (suc k) (suc i) x y h all new = kept vs k i x y h (λ j z at. all (suc j) z at) new

        there : IsBetween o (step o.goal Pass k s)
        there =
            let here : At (stages s) k (stage_of p) = stage_at s.processors k p at in
            let same = step_stages o.goal Pass k s p at in
            record {
              one = k;
              stage = (Passed, p.era);
              there = subst (λ (vs : List Stage). At vs k (Passed, p.era)) (sym same) (set_same (stages s) k (Passed, p.era) (stage_of p) here);
              past = lit≤ tt;
              behind = λ i x at_x. kept (stages s) k i x (Passed, p.era) (subst (λ (vs : List Stage). At vs i x) same at_x) behind (behind k (stage_of p) here);
            }

rank_behind : (ph : Phase) → rank_of ph false ≤ 4
rank_behind Running = lit≤ tt
rank_behind Taken = lit≤ tt
rank_behind Arrived = lit≤ tt
rank_behind Arrived2 = lit≤ tt
rank_behind other = lit≤ tt

-- a processor that hasn't released may release only where the second barrier is open
pub release_opens : (o : Order) (s : System) (k : ℕ) (p : Processor) → slice_get s.processors k ≡ Some p → Guarded o (stages s) → is_ahead o (stage_of p) ≡ false → due o s.processors p p.phase ≡ Some Release → second_barrier_open o s.processors ≡ true
release_opens o s k p at g behind h =
    let here : At (stages s) k (stage_of p) = stage_at s.processors k p at in
    let move = step_moves o s.processors p (g.eras k (stage_of p) here) p.phase Release refl h (g.in_step k (stage_of p) here) in
    let above : nat_lt o.from_era (p.era + 1) ≡ true = ⊎_elim (λ (e : p.era ≡ o.from_era). lt-ltb o.from_era (p.era + 1) (omega arith)) (λ (e : p.era ≡ o.from_era + 1). lt-ltb o.from_era (p.era + 1) (omega arith)) (g.eras k (stage_of p) here) in
    let fifth : rank o (Running, p.era + 1) ≡ 5 = ap (rank_of Running) above in
    let low : rank o (stage_of p) ≡ rank_of p.phase false = ap (rank_of p.phase) behind in
    ⊎_elim (λ (r : 5 ≤ rank o (stage_of p)). absurd (let n = rank_behind p.phase in omega arith)) (λ (r : second_barrier_open o s.processors ≡ true). r) (move.to_fifth (omega arith))

-- when some processor may release, no cache has a line and no processor has a buffer
nothing_held : (o : Order) (s : System) (k : ℕ) → Guarded o (stages s) → AllClear (Some o) s.processors → IsBetween o s → IsEnabled (record { system = s; order = Some o }) (Steps k Release) → (j : ℕ) (q : Processor) → slice_get s.processors j ≡ Some q → (q.lines ≡ []) × (q.buffers ≡ [])
nothing_held o s k g clear b enabled j q at_q = one (slice_get s.processors k) refl enabled
  where
    one : (x : Option Processor) → slice_get s.processors k ≡ x → option_map_or (λ p. due o s.processors p p.phase) x None ≡ Some Release → (q.lines ≡ []) × (q.buffers ≡ [])
    one None at h = absurd (cc)
    one (Some p) at h =
        let here = stage_at s.processors j q at_q in
        let fourth = all_fourth o s.processors g (release_opens o s k p at g (b.behind k (stage_of p) (stage_at s.processors k p at)) h) j (stage_of q) here in
        ⊎_elim
        (λ (l : (is_running q.phase ≡ true) × (is_ahead o (stage_of q) ≡ true)). absurd (let off : is_ahead o (stage_of q) ≡ false = b.behind j (stage_of q) here in let on = l.1 in cc))
        (λ (l : (lines_gone q.phase ≡ true) × (buffers_gone q.phase ≡ true) × _ × (is_running q.phase ≡ false)). ((clear j q at_q).no_lines l.0, (clear j q at_q).no_buffers l.1))
        (late q.phase (is_ahead o (stage_of q)) fourth)

none_copied : (a : ℕ) (ps : List Processor) → ((j : ℕ) (q : Processor) → slice_get ps j ≡ Some q → (q.lines ≡ []) × (q.buffers ≡ [])) → IsClear (copies a ps) × (all_unwritten a ps ≡ true)
none_copied a [] h = (tt, refl)
none_copied a (p ∷ ps) h =
    let r = none_copied a ps (λ j q at. h (suc j) q at) in
    one p.lines p.buffers (h 0 p refl) r
  where
    one : (ls bs : List CacheLine) → (ls ≡ []) × (bs ≡ []) → IsClear (copies a ps) × (all_unwritten a ps ≡ true) → IsClear (copy_in a ls ∷ copies a ps) × ((unwritten a bs && all_unwritten a ps) ≡ true)
    one ls bs e r =
        subst (λ (v : List CacheLine × List CacheLine). IsClear (copy_in a v.0 ∷ copies a ps) × ((unwritten a v.1 && all_unwritten a ps) ≡ true))
        (λ i. (sym e.0 i, sym e.1 i)) r

not_owned : (x : ℕ) (cs : List Copy) → IsClear cs → IsOwned x cs → ⊥
not_owned x [] h g = g
not_owned x (None ∷ cs) h g = not_owned x cs h g
not_owned x (Some c ∷ cs) h g = h

pub settled_word : (a x : ℕ) (s : System) → ((j : ℕ) (q : Processor) → slice_get s.processors j ≡ Some q → (q.lines ≡ []) × (q.buffers ≡ [])) → Word true a x s → Word false a x s
settled_word a x s none w =
    let r = none_copied a s.processors none in
    record {
      shows = ⊎_elim (λ (h : (word_at s.memory a ≡ x) × IsShared (word_at s.memory a) (copies a s.processors)). h) (λ (h : IsOwned x (copies a s.processors)). absurd (not_owned x (copies a s.processors) r.0 h)) w.shows;
      writes = λ h. r.1;
    }

module _ (ws : List Window) (aligned : AllAligned ws) (o : Order) (last a x : ℕ) (whole : a % 8 ≡ 0) where
  -- the first release, where the order is known
  release_word : (m : Machine) (v : Option Order) → v ≡ Some o → Kept v (stages m.system) → AllClear v m.system.processors → IsBetween o m.system → IsEnabled (record { system = m.system; order = v }) (Steps last Release) → Stands ws m.system → Word true a x m.system → Word false a x (next (record { system = m.system; order = v }) (Steps last Release)).system
  release_word m None is kept clear b enabled st w = absurd (cc)
  release_word m (Some o') is kept clear b enabled st w =
      let same : o' ≡ o = cc in
      let none = nothing_held o' m.system last kept clear (subst (λ (u : Order). IsBetween u m.system) (sym same) b) enabled in
      step_keeps_word ws aligned (record { system = m.system; order = Some o' }) last Release enabled (release_takes_nothing) st false a x whole (settled_word a x m.system none w)

  between_run : (es : List MachineEvent) (m : Machine) → m.order ≡ Some o → IsKept m → IsBetween o m.system → Agrees ws m → list_all (λ e. not (is_release e)) es ≡ true → AreEnabled m (es ++ Steps last Release ∷ []) → Word true a x m.system → Word false a x (run m (es ++ Steps last Release ∷ [])).system
  between_run [] m is kept b g quiet enabled w = release_word m m.order is kept.0 kept.1 b enabled.0 g.stands w
  between_run (e ∷ es) m is kept b g quiet enabled w =
      let i = inside o m e m.order is kept.0 b enabled.0 (not_on (is_release e) (and_left _ _ quiet)) in
      let enabled' : IsEnabled m (Steps i.who i.what) = subst (IsEnabled m) i.is enabled.0 in
      let kept_word : Word true a x (next m (Steps i.who i.what)).system = step_keeps_word ws aligned m i.who i.what enabled' i.no_taking g.stands true a x whole w in
      between_run es (next m e) i.order (kept_next m e enabled.0 kept) i.between (agrees_next ws aligned m e enabled.0 g) (and_right (not (is_release e)) _ quiet) enabled.1
      (subst (λ (f : MachineEvent). Word true a x (next m f).system) (sym i.is) kept_word)
    where
      not_on : (c : Bool) → not c ≡ true → c ≡ false
      not_on true h = absurd (cc)
      not_on false h = refl

first_pass : (o : Order) (p : Machine) (k : ℕ) (v : Option Order) → v ≡ Some o → Kept v (stages p.system) → All (λ q. has_passed o q ≡ false) p.system.processors → IsEnabled (record { system = p.system; order = v }) (Steps k Pass)
    → ((next (record { system = p.system; order = v }) (Steps k Pass)).order ≡ Some o) × IsBetween o (next (record { system = p.system; order = v }) (Steps k Pass)).system
first_pass o p k None is kept none enabled = absurd (cc)
first_pass o p k (Some o') is kept none enabled =
    let same : o' ≡ o = cc in
    subst (λ (u : Order). ((next (record { system = p.system; order = Some o' }) (Steps k Pass)).order ≡ Some u) × IsBetween u (next (record { system = p.system; order = Some o' }) (Steps k Pass)).system) same
    (pass_between o' p.system k kept (subst (λ (u : Order). All (λ q. has_passed u q ≡ false) p.system.processors) (sym same) none) enabled)

-- from its first release on it has the value in memory that it had before the first pass
pub released_word : (ws : List Window) → AllAligned ws → (p r : Machine) (o : Order) → Agrees ws p → IsKept p → IsFirstRelease p r o → (a : ℕ) → a % 8 ≡ 0 → Word false a (now p.system a) r.system
released_word ws aligned p r o g kept f a whole =
    let w = g.words a whole in
    let pass : Machine = next p (Steps f.first Pass) in
    let at = first_pass o p f.first p.order f.order kept.0 f.none_passed f.enabled.0 in
    let g1 = agrees_next ws aligned p (Steps f.first Pass) f.enabled.0 g in
    let w1 = step_keeps_word ws aligned p f.first Pass f.enabled.0 (pass_takes_nothing) g.stands true a w.0 whole w.1 in
    let released = between_run ws aligned o f.last a w.0 whole f.between pass at.0 (kept_next p (Steps f.first Pass) f.enabled.0 kept) at.1 g1 f.no_release f.enabled.1 w1 in
    let there : Word false a w.0 r.system = subst (λ (m : Machine). Word false a w.0 m.system) (sym f.leads) released in
    subst (λ (x : ℕ). Word false a x r.system) (sym (now_is ws p.system a w.0 g.stands w.1)) there

pub held_of : (ws : List Window) → AllAligned ws → (p r : Machine) (o : Order) (since : List MachineEvent) → Agrees ws p → IsKept p → IsFirstRelease p r o → AreEnabled r since → IsHeld p.system r since
held_of ws aligned p r o since g kept f enabled a aligned_a other =
    let whole : a % 8 ≡ 0 = omega arith in
    let there = released_word ws aligned p r o g kept f a whole in
    let stands_r : Stands ws r.system = subst (λ (m : Machine). Stands ws m.system) (sym f.leads) (agrees_run ws aligned p (Steps f.first Pass ∷ f.between ++ Steps f.last Release ∷ []) f.enabled g).stands in
    (stays_in_memory ws aligned since r a (now p.system a) whole stands_r enabled other there).shows.0

pub held_after_release : HeldAfterRelease
held_after_release s p r o since start reached f enabled =
    held_of s.system.memory.windows (start_aligned s start) p r o since (agrees s p start reached) (reached_kept reached (start_kept s start)) f enabled
