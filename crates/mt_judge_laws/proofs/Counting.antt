-- How many have arrived at each barrier, by the stages of the processors: what an event adds.
use Rattle.std.proofs.Common.{◌≡◌, ◌∙◌, ap, refl, sym, arith, ℕ, zero, suc, ◌+◌, ◌≤◌, Bool, true, false, List, [], ◌∷◌, length, set}
use Rattle.std.specs.Prelude.{cond, min, nat_lt, ◌&&◌, ◌||◌}
use Rattle.std.specs.List.{count_by, list_all}
use Rattle.std.proofs.Math.Nat.{min-eq_left}
use Rattle.std.proofs.lemmas.List.Sums.{count_by-le-length}
use Rattle.mt_machine.specs.declared.event.Event.{Event}
use Rattle.mt_machine.specs.declared.event.Event.TheVariants.{Take, Arrive, Leave, Pass, SetNoFill, WriteBack, DropLines, FlushTlb, Disable, Write, Enable, SetNormal, RestorePge, ArriveAgain, Release}
use Rattle.mt_machine.specs.declared.phase.Phase.{Phase}
use Rattle.mt_machine.specs.declared.phase.Phase.TheVariants.{Running, Taken, Arrived, Passed, NoFill, Flushed, TlbFlushed, Writing, Enabled, Flushed2, TlbFlushed2, Normal, Restored, Arrived2}
use Rattle.mt_machine.specs.Machine.{Order, after_drop, after_flush, is_arrived, is_arrived_again, is_changing}
use Rattle.mt_machine.specs.System.{Processor}
use Rattle.mt_machine.proofs.Rows.{is_row}
use Rattle.mt_laws.proofs.Barrier.Ranks.{At, is_ahead}
use Rattle.mt_laws.proofs.Barrier.Stages.{Stage, stage_of, stages_of}
use Rattle.mt_laws.proofs.Steps.StepCounts.{count_more}

-- ---- how many pass a test

abbrev one : Bool → ℕ
one b = cond b 1 0

count_set : (q : Stage → Bool) (xs : List Stage) (k : ℕ) (x y : Stage) → At xs k x → count_by q (set xs k y) + one (q x) ≡ count_by q xs + one (q y)
count_set q [] k x y at = absurd (cc)
count_set q (z ∷ xs) zero x y at =
    let same : z ≡ x = cc in
    let here : one (q z) ≡ one (q x) = ap (λ (v : Stage). one (q v)) same in
    omega (arith, here, count_more q z xs, count_more q y xs)
count_set q (z ∷ xs) (suc k) x y at =
    let rest = count_set q xs k x y at in
    omega (arith, rest, count_more q z xs, count_more q z (set xs k y))

-- all pass where so many do
pub all_pass : (q : Stage → Bool) (xs : List Stage) → length xs ≤ count_by q xs → list_all q xs ≡ true
all_pass q [] h = refl
all_pass q (x ∷ xs) h = each (q x) refl (all_pass q xs)
  where
    each : (b : Bool) → q x ≡ b → (length xs ≤ count_by q xs → list_all q xs ≡ true) → (b && list_all q xs) ≡ true
    each true is rest = rest (let more = count_more q x xs in let here : one (q x) ≡ 1 = ap one is in omega (arith, h, more, here))
    each false is rest = absurd (let more = count_more q x xs in let here : one (q x) ≡ 0 = ap one is in let few = count_by-le-length q xs in omega (arith, h, more, here, few))

pub all_staged : (q : Stage → Bool) (ps : List Processor) → list_all (λ p. q (stage_of p)) ps ≡ list_all q (stages_of ps)
all_staged q [] = refl
all_staged q (p ∷ ps) = ap (λ b. q (stage_of p) && b) (all_staged q ps)

-- ---- the two barriers

abbrev pub arrived : Order → Stage → Bool
arrived o x = is_arrived x.0 || (is_changing x.0 || is_arrived_again x.0 || is_ahead o x)

abbrev pub again : Order → Stage → Bool
again o x = is_arrived_again x.0 || is_ahead o x

-- what an event adds to a barrier's count
abbrev pub one_more : ℕ → ℕ
one_more n = min (n + 1) 0xffffffff

abbrev pub first_after : Event → ℕ → ℕ
first_after Arrive n = one_more n
first_after other n = n

abbrev pub second_after : Event → ℕ → ℕ
second_after ArriveAgain n = one_more n
second_after other n = n

-- the stage after an event
abbrev pub phase_after : Event → Phase → Phase
phase_after Take ph = Taken
phase_after Arrive ph = Arrived
phase_after Leave ph = Running
phase_after Pass ph = Passed
phase_after SetNoFill ph = NoFill
phase_after (WriteBack a v) ph = ph
phase_after DropLines ph = after_drop ph
phase_after FlushTlb ph = after_flush ph
phase_after Disable ph = Writing 0
phase_after (Write i) ph = Writing (i + 1)
phase_after Enable ph = Enabled
phase_after SetNormal ph = Normal
phase_after RestorePge ph = Restored
phase_after ArriveAgain ph = Arrived2
phase_after Release ph = Running

abbrev pub era_after : Event → ℕ → ℕ
era_after Release era = era + 1
era_after other era = era

abbrev pub stage_after : Event → Stage → Stage
stage_after e x = (phase_after e x.0, era_after e x.1)

-- the counts after an event of processor k in this stage, and the second one never goes down
pub record Counts (o : Order) (xs : List Stage) (k : ℕ) (e : Event) (x : Stage) : Type 0 where
  pub first : first_after e (count_by (arrived o) xs) ≡ count_by (arrived o) (set xs k (stage_after e x))
  pub second : second_after e (count_by (again o) xs) ≡ count_by (again o) (set xs k (stage_after e x))
  pub up : count_by (again o) xs ≤ count_by (again o) (set xs k (stage_after e x))

module _ (o : Order) (xs : List Stage) (k era : ℕ) (few : length xs ≤ 64) (behind : nat_lt o.from_era era ≡ false) (later : nat_lt o.from_era (era + 1) ≡ true) where
  as_many : (q : Stage → Bool) (x y : Stage) → At xs k x → (b : Bool) → q x ≡ b → q y ≡ b → count_by q xs ≡ count_by q (set xs k y)
  as_many q x y at b before now =
      let sum = count_set q xs k x y at in
      let same : one (q x) ≡ one (q y) = ap one (before ∙ sym now) in
      omega (arith, sum, same)

  one_added : (q : Stage → Bool) (x y : Stage) → At xs k x → q x ≡ false → q y ≡ true → one_more (count_by q xs) ≡ count_by q (set xs k y)
  one_added q x y at before now =
      let sum = count_set q xs k x y at in
      let was : one (q x) ≡ 0 = ap one before in
      let is : one (q y) ≡ 1 = ap one now in
      let few' = count_by-le-length q xs in
      let small : count_by q xs + 1 ≤ 0xffffffff = omega (arith, few, few') in
      let kept : one_more (count_by q xs) ≡ count_by q xs + 1 = min-eq_left small in
      omega (arith, sum, was, is, kept)

  still : (e : Event) (ph : Phase) → At xs k (ph, era) → (b d : Bool) → first_after e (count_by (arrived o) xs) ≡ count_by (arrived o) xs → second_after e (count_by (again o) xs) ≡ count_by (again o) xs
      → arrived o (ph, era) ≡ b → arrived o (stage_after e (ph, era)) ≡ b → again o (ph, era) ≡ d → again o (stage_after e (ph, era)) ≡ d → Counts o xs k e (ph, era)
  still e ph at b d first second was is was' is' =
      let x : Stage = (ph, era) in
      let y : Stage = stage_after e (ph, era) in
      let same = as_many (again o) x y at d was' is' in
      record {
        first = first ∙ as_many (arrived o) x y at b was is;
        second = second ∙ same;
        up = omega (arith, same);
      }

  -- no event that is due goes back from a barrier, since the go is given
  pub counts : (e : Event) (ph : Phase) → is_row e ph ≡ true → (e ≡ Leave → ⊥) → At xs k (ph, era) → Counts o xs k e (ph, era)
  counts Take Running row stays at = still Take Running at false false refl refl behind behind behind behind
  counts Take other row stays at = absurd (cc)
  counts Arrive Taken row stays at =
      let same = as_many (again o) (Taken, era) (Arrived, era) at false behind behind in
      record { first = one_added (arrived o) (Taken, era) (Arrived, era) at behind refl; second = same; up = omega (arith, same) }
  counts Arrive other row stays at = absurd (cc)
  counts Leave ph row stays at = absurd (stays refl)
  counts Pass Arrived row stays at = still Pass Arrived at true false refl refl refl refl behind behind
  counts Pass other row stays at = absurd (cc)
  counts SetNoFill Passed row stays at = still SetNoFill Passed at true false refl refl refl refl behind behind
  counts SetNoFill other row stays at = absurd (cc)
  counts (WriteBack a v) NoFill row stays at = still (WriteBack a v) NoFill at true false refl refl refl refl behind behind
  counts (WriteBack a v) Enabled row stays at = still (WriteBack a v) Enabled at true false refl refl refl refl behind behind
  counts (WriteBack a v) other row stays at = absurd (cc)
  counts DropLines NoFill row stays at = still DropLines NoFill at true false refl refl refl refl behind behind
  counts DropLines Enabled row stays at = still DropLines Enabled at true false refl refl refl refl behind behind
  counts DropLines other row stays at = absurd (cc)
  counts FlushTlb NoFill row stays at = still FlushTlb NoFill at true false refl refl refl refl behind behind
  counts FlushTlb Flushed row stays at = still FlushTlb Flushed at true false refl refl refl refl behind behind
  counts FlushTlb Flushed2 row stays at = still FlushTlb Flushed2 at true false refl refl refl refl behind behind
  counts FlushTlb other row stays at = absurd (cc)
  counts Disable TlbFlushed row stays at = still Disable TlbFlushed at true false refl refl refl refl behind behind
  counts Disable other row stays at = absurd (cc)
  counts (Write n) (Writing j) row stays at = still (Write n) (Writing j) at true false refl refl refl refl behind behind
  counts (Write n) other row stays at = absurd (cc)
  counts Enable (Writing j) row stays at = still Enable (Writing j) at true false refl refl refl refl behind behind
  counts Enable other row stays at = absurd (cc)
  counts SetNormal TlbFlushed2 row stays at = still SetNormal TlbFlushed2 at true false refl refl refl refl behind behind
  counts SetNormal other row stays at = absurd (cc)
  counts RestorePge Normal row stays at = still RestorePge Normal at true false refl refl refl refl behind behind
  counts RestorePge other row stays at = absurd (cc)
  counts ArriveAgain Restored row stays at =
      let sum = count_set (again o) xs k (Restored, era) (Arrived2, era) at in
      let was : one (again o (Restored, era)) ≡ 0 = ap one behind in
      record {
        first = as_many (arrived o) (Restored, era) (Arrived2, era) at true refl refl;
        second = one_added (again o) (Restored, era) (Arrived2, era) at behind refl;
        up = omega (arith, sum, was);
      }
  counts ArriveAgain other row stays at = absurd (cc)
  counts Release Arrived2 row stays at = still Release Arrived2 at true true refl refl refl later refl later
  counts Release other row stays at = absurd (cc)
