-- A pass over the processors of a bus may skip those whose cache doesn't have the line: a step changes nothing there.
use Rattle.std.proofs.Common.{◌≡◌, ◌∙◌, ap, sym, refl, subst, arith, ℕ, zero, suc, ◌+◌, ◌-◌, ◌<◌, ◌≤◌, ◌==◌, Bool, true, false, if◌then◌else◌, List, [], ◌∷◌, ◌++◌, drop, length, map, take, None, Some, Option, slice_get}
use Rattle.std.specs.Prelude.{slice_index_or, slice_set}
use Rattle.std.specs.List.{filter, fold}
use Rattle.std.specs.Option.{option_map_or}
use Rattle.std.proofs.lemmas.Bool.{eqb-false}
use Rattle.mt_cache.specs.declared.line.CacheLine.{CacheLine}
use Rattle.mt_cache.specs.Lines.{change_line, clean_line, find_line, has_number, without_line}
use Rattle.mt_machine.specs.Memory.{Memory, write_back, write_back_of}
use Rattle.mt_machine.specs.System.{Processor, System}
use Rattle.mt_machine.specs.Bus.{bus_read, invalidate, invalidate_others, others_from, with_lines, write_back_others}
use Rattle.mt_laws.specs.Parts.{system, written_back}
use Rattle.mt_bus.specs.Holders.{AreHeldBy, IsNowhereElse, may_hold}
use Rattle.mt_bus.proofs.Changed.{lent_at}
use Rattle.mt_bus.proofs.Held.{absent}
use Rattle.mt_bus.proofs.Lines.{change_absent, without_absent}
use Rattle.mt_bus.proofs.Others.{others_back, others_written}

none_of_number : (n : ℕ) (ls : List CacheLine) → find_line n ls ≡ None → filter (has_number n) ls ≡ []
none_of_number n [] none = refl
none_of_number n (l ∷ ls) none = one (has_number n l) none (λ e. none_of_number n ls e)
  where
    one : (b : Bool) → (if b then Some l else find_line n ls) ≡ None → (find_line n ls ≡ None → filter (has_number n) ls ≡ [])
        → (if b then l ∷ filter (has_number n) ls else filter (has_number n) ls) ≡ []
    one true e rest = absurd (cc)
    one false e rest = rest e

none_written : (n : ℕ) (m : Memory) (ls : List CacheLine) → find_line n ls ≡ None → write_back_of n m ls ≡ m
none_written n m ls none = ap (fold write_back m) (none_of_number n ls none)

cleaned_left : (n : ℕ) (p : Processor) → find_line n p.lines ≡ None → with_lines (change_line n clean_line) p ≡ p
cleaned_left n p none = ap (λ (ls : List CacheLine). record p { lines = ls }) (change_absent n clean_line p.lines none)

dropped_left : (n : ℕ) (p : Processor) → find_line n p.lines ≡ None → with_lines (without_line n) p ≡ p
dropped_left n p none = ap (λ (ls : List CacheLine). record p { lines = ls }) (without_absent n p.lines none)

-- ---- any pass

-- with these processors in front
abbrev behind : List Processor → System → System
behind front s = record s { processors = front ++ s.processors }

-- the pass goes on with processor i
abbrev pub pass_from : (ℕ → Memory → List Processor → System) → ℕ → System → System
pass_from v i s = behind (take i s.processors) (v i s.memory (drop i s.processors))

-- a step of the pass at processor i changes neither this processor nor memory
abbrev IsLeft : (ℕ → Processor → Processor) → (ℕ → Memory → Processor → Memory) → ℕ → Processor → Type 0
IsLeft h w i p = (h i p ≡ p) × ((m : Memory) → w i m p ≡ m)

-- the pass v over processors, the first with number i: a step replaces processor p by `h i p` and memory m by `w i m p`.
-- Without line n it changes nothing.
pub record IsPass (n : ℕ) (v : ℕ → Memory → List Processor → System) (h : ℕ → Processor → Processor) (w : ℕ → Memory → Processor → Memory) : Type 0 where
  ends : (i : ℕ) (m : Memory) → v i m [] ≡ system [] m
  goes : (i : ℕ) (m : Memory) (p : Processor) (ps : List Processor) → v i m (p ∷ ps) ≡ behind (h i p ∷ []) (v (i + 1) (w i m p) ps)
  leaves : (i : ℕ) (p : Processor) → find_line n p.lines ≡ None → IsLeft h w i p

module _ {n : ℕ} {v : ℕ → Memory → List Processor → System} {h : ℕ → Processor → Processor} {w : ℕ → Memory → Processor → Memory} (is : IsPass n v h w) where
  taken : (a i : ℕ) (m : Memory) (ps : List Processor) (p : Processor) → slice_get ps i ≡ Some p
      → behind (take (suc i) (slice_set ps i (h a p))) (v (a + 1) (w a m p) (drop (suc i) (slice_set ps i (h a p)))) ≡ behind (take i ps) (v a m (drop i ps))
  taken a i m [] p at = absurd (cc)
  taken a zero m (x ∷ ps) p at =
      let same : x ≡ p = cc in
      sym (is.goes a m p ps) ∙ ap (λ (y : Processor). v a m (y ∷ ps)) (sym same)
  taken a (suc i) m (x ∷ ps) p at = ap (behind (x ∷ [])) (taken a i m ps p at)

  left : (a i : ℕ) (m : Memory) (ps : List Processor) → ((p : Processor) → slice_get ps i ≡ Some p → IsLeft h w a p)
      → behind (take (suc i) ps) (v (a + 1) m (drop (suc i) ps)) ≡ behind (take i ps) (v a m (drop i ps))
  left a zero m [] same = is.ends (a + 1) m ∙ sym (is.ends a m)
  left a (suc i) m [] same = is.ends (a + 1) m ∙ sym (is.ends a m)
  left a zero m (p ∷ ps) same =
      let here = same p refl in
      sym (is.goes a m p ps ∙ λ i. behind (here.0 i ∷ []) (v (a + 1) (here.1 m i) ps))
  left a (suc i) m (p ∷ ps) same = ap (behind (p ∷ [])) (left a i m ps same)

  next : (i : ℕ) (m : Memory) (ps : List Processor) → behind (take (suc i) ps) (v (i + 1) m (drop (suc i) ps)) ≡ pass_from v (i + 1) (system ps m)
  next i m ps = let more : suc i ≡ i + 1 = omega arith in ap (λ j. behind (take j ps) (v (i + 1) m (drop j ps))) more

  -- no step at the processors between
  skipped : (d i : ℕ) (s : System) → ((j : ℕ) → i ≤ j → j < i + d → (p : Processor) → slice_get s.processors j ≡ Some p → IsLeft h w j p)
      → pass_from v (i + d) s ≡ pass_from v i s
  skipped zero i s same = let none : i + 0 ≡ i = omega arith in ap (λ j. pass_from v j s) none
  skipped (suc d) i s same =
      let more : i + suc d ≡ i + d + 1 = omega arith in
      ap (λ j. pass_from v j s) more
      ∙ sym (next (i + d) s.memory s.processors)
      ∙ left (i + d) (i + d) s.memory s.processors (same (i + d) (omega arith) (omega arith))
      ∙ skipped d i s (λ j from below. same j from (omega arith))

  -- on to a processor that may have the line
  pub lacked : (i j : ℕ) (s t : System) (ps : List Processor) (m : Memory) (masks : List ℕ) → system ps m ≡ s → AreHeldBy ps masks → i ≤ j
      → ((x : ℕ) → i ≤ x → x < j → may_hold masks x n ≡ false) → pass_from v i s ≡ t → pass_from v j s ≡ t
  lacked i j s t ps m masks view held from none before =
      let to : j ≡ i + (j - i) = omega (arith, from) in
      ap (λ x. pass_from v x s) to
      ∙ skipped (j - i) i s
      (λ x low high p at.
      is.leaves x p (absent masks x n p.lines (held.each x p (ap (λ (y : System). slice_get y.processors x) view ∙ at)) (none x low (omega (arith, high, from)))))
      ∙ before

  -- a step at processor i, and on to the next
  pub turned : (i j : ℕ) (s t u : System) (ps qs : List Processor) (m k : Memory) (p q : Processor) (to : Memory) (masks : List ℕ)
      → pass_from v i s ≡ u → system ps m ≡ s → i < length ps → p ≡ slice_index_or ps i p → q ≡ h i p → to ≡ w i m p → t ≡ system (slice_set ps i q) to
      → system qs k ≡ t → AreHeldBy qs masks → i + 1 ≤ j → ((x : ℕ) → i + 1 ≤ x → x < j → may_hold masks x n ≡ false) → pass_from v j t ≡ u
  turned i j s t u ps qs m k p q to masks before view within lent made written new after held from none =
      lacked (i + 1) j t u qs k masks after held from none
      (ap (pass_from v (i + 1)) (new ∙ λ x. system (slice_set ps i (made x)) (written x))
      ∙ sym (next i (w i m p) (slice_set ps i (h i p)))
      ∙ taken i i m ps p (lent_at ps i p within lent)
      ∙ ap (pass_from v i) view
      ∙ before)

  -- past the last
  ended : (i : ℕ) (s : System) → length s.processors ≤ i → pass_from v i s ≡ s
  ended i s past = all i s.processors past
    where
      all : (j : ℕ) (ps : List Processor) → length ps ≤ j → behind (take j ps) (v i s.memory (drop j ps)) ≡ system ps s.memory
      all zero [] past = is.ends i s.memory
      all (suc j) [] past = is.ends i s.memory
      all zero (p ∷ ps) past = absurd (omega (arith, past))
      all (suc j) (p ∷ ps) past = ap (behind (p ∷ [])) (all j ps (omega (arith, past)))

  pub passed : (i : ℕ) (s u : System) (ps : List Processor) (m : Memory) → system ps m ≡ s → length ps ≤ i → pass_from v i s ≡ u → s ≡ u
  passed i s u ps m view past is = sym (ended i s (subst (λ (x : System). length x.processors ≤ i) view past)) ∙ is

  -- if all are left
  all_left : (s : System) → ((j : ℕ) (p : Processor) → slice_get s.processors j ≡ Some p → IsLeft h w j p) → s ≡ v 0 s.memory s.processors
  all_left s same = sym (ended (0 + length s.processors) s (omega arith)) ∙ skipped (length s.processors) 0 s (λ j from below. same j)

-- ---- the passes

either : {A : Type 0} (b : Bool) (x y z : A) → x ≡ z → y ≡ z → (if b then x else y) ≡ z
either true x y z e g = e
either false x y z e g = g

pub read_pass : (n : ℕ) → IsPass n (λ i m ps. bus_read n (system ps m)) (λ i. with_lines (change_line n clean_line)) (λ i m p. write_back_of n m p.lines)
read_pass n = record {
  ends = λ i m. refl;
  goes = λ i m p ps. refl;
  leaves = λ i p none. (cleaned_left n p none, λ m. none_written n m p.lines none);
}

both_left : (n : ℕ) (p : Processor) → find_line n p.lines ≡ None → with_lines (without_line n) (with_lines (change_line n clean_line) p) ≡ p
both_left n p none = ap (with_lines (without_line n)) (cleaned_left n p none) ∙ dropped_left n p none

pub dropped_pass : (n : ℕ)
    → IsPass n (λ i m ps. invalidate n (bus_read n (system ps m))) (λ i p. with_lines (without_line n) (with_lines (change_line n clean_line) p)) (λ i m p. write_back_of n m p.lines)
dropped_pass n = record {
  ends = λ i m. refl;
  goes = λ i m p ps. refl;
  leaves = λ i p none. (both_left n p none, λ m. none_written n m p.lines none);
}

-- except at processor k, whose copy stays
abbrev pub others_dropped : ℕ → ℕ → ℕ → Memory → List Processor → System
others_dropped k n i m ps = system (others_from i k (with_lines (without_line n)) (map (with_lines (change_line n clean_line)) ps)) (written_back n m ps)

pub others_pass : (k n : ℕ)
    → IsPass n (others_dropped k n)
    (λ i p. if i == k then with_lines (change_line n clean_line) p else with_lines (without_line n) (with_lines (change_line n clean_line) p)) (λ i m p. write_back_of n m p.lines)
others_pass k n = record {
  ends = λ i m. refl;
  goes = λ i m p ps. refl;
  leaves = λ i p none. (either (i == k) _ _ p (cleaned_left n p none) (both_left n p none), λ m. none_written n m p.lines none);
}

abbrev pub others_taken : ℕ → ℕ → ℕ → Memory → List Processor → System
others_taken k n i m ps = system (others_from i k (with_lines (without_line n)) ps) (others_back i k n m ps)

pub taken_pass : (k n : ℕ)
    → IsPass n (others_taken k n) (λ i p. if i == k then p else with_lines (without_line n) p) (λ i m p. if i == k then m else write_back_of n m p.lines)
taken_pass k n = record {
  ends = λ i m. refl;
  goes = λ i m p ps. refl;
  leaves = λ i p none. (either (i == k) p _ p refl (dropped_left n p none), λ m. either (i == k) m _ m refl (none_written n m p.lines none));
}

pub all_taken : (k n : ℕ) (s : System) → k < length s.processors → others_taken k n 0 s.memory s.processors ≡ invalidate_others k n (write_back_others k n s)
all_taken k n s within = ap (system (others_from 0 k (with_lines (without_line n)) s.processors)) (others_written k n s.memory s.processors within)

-- if no other cache has the line
pub taken_alone : (k n : ℕ) (s : System) → k < length s.processors → IsNowhereElse k n s.processors → s ≡ invalidate_others k n (write_back_others k n s)
taken_alone k n s within none = all_left (taken_pass k n) s (λ j p at. one j p at (j == k) refl) ∙ all_taken k n s within
  where
    one : (j : ℕ) (p : Processor) → slice_get s.processors j ≡ Some p → (b : Bool) → (j == k) ≡ b
        → ((if j == k then p else with_lines (without_line n) p) ≡ p) × ((m : Memory) → (if j == k then m else write_back_of n m p.lines) ≡ m)
    one j p at true is = (ap (λ b. if b then p else with_lines (without_line n) p) is, λ m. ap (λ b. if b then m else write_back_of n m p.lines) is)
    one j p at false is =
        (taken_pass k n).leaves j p
        (ap (λ (o : Option Processor). find_line n (option_map_or (λ q. q.lines) o [])) (sym at) ∙ none.each j (eqb-false j k is))
