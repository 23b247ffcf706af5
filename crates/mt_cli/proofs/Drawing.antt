-- Jobs for measurements, one access after the other.
use Rattle.std.proofs.Common.{◌≡◌, ◌∙◌, ap, sym, subst, arith, below_more, ℕ, suc, ◌+◌, ◌-◌, ◌<◌, List, [], ◌∷◌, ◌++◌, append_assoc, get_or, length, map}
use Rattle.std.specs.List.{fold, range_with_len}
use Rattle.std.proofs.lemmas.List.{append-nil, map-append}
use Rattle.std.proofs.lemmas.List.Folds.{fold-map}
use Rattle.std.proofs.Math.ListN.{get_or-append}
use Rattle.std.proofs.Math.Seq.{get_or-append_seam}
use Rattle.std.proofs.lemmas.List.FromFn.{map-range_with_len_more}
use Rattle.mt_machine.specs.declared.op.Op.{Op}
use Rattle.mt_machine.specs.System.{System}
use Rattle.mt_machine.specs.Machine.{Machine}
use Rattle.mt_core.specs.Rounds.{ascending}
use Rattle.mt_private.specs.declared.job.Job.{Job}
use Rattle.mt_private.specs.declared.job.Part.{Part}
use Rattle.mt_private.specs.declared.job.Part.TheVariants.{After, Before}
use Rattle.mt_private.specs.declared.job.JobAnswers.{JobAnswers}
use Rattle.mt_private.specs.Jobs.{answers_in, ops_in}
use Rattle.mt_private.specs.OneByOne.{AreOneByOne, jobs_one_by_one, one_by_one}
use Rattle.mt_cli.specs.Measured.{all_values_from, behind_op, behind_ops, drawn_op, drawn_ops, file_of, measured, measured_machine, measured_text, ops_after, ops_before, sums_text, text_of, values_from, words_sum}

pub ops_on : (count i x : ℕ) (ops whole : List Op) → i < count → ops ++ drawn_ops (count - i) x ≡ whole → (ops ++ drawn_op x ∷ []) ++ drawn_ops (count - (i + 1)) (behind_op x) ≡ whole
unfolding drawn_ops
ops_on count i x ops whole within so_far =
    let e : count - i ≡ suc (count - (i + 1)) = omega arith in
    append_assoc ops (drawn_op x ∷ []) (drawn_ops (count - (i + 1)) (behind_op x)) ∙ sym (ap (λ n. ops ++ drawn_ops n x) e) ∙ so_far

pub ops_end : (x : ℕ) (ops whole : List Op) → ops ++ drawn_ops 0 x ≡ whole → ops ≡ whole
unfolding drawn_ops
ops_end x ops whole so_far = sym (append-nil ops) ∙ so_far

pub behind_on : (count i x end : ℕ) → i < count → behind_ops (count - i) x ≡ end → behind_ops (count - (i + 1)) (behind_op x) ≡ end
unfolding behind_ops
behind_on count i x end within so_far = let e : count - i ≡ suc (count - (i + 1)) = omega arith in ap (λ n. behind_ops n x) (sym e) ∙ so_far

pub behind_end : (x end : ℕ) → behind_ops 0 x ≡ end → x ≡ end
unfolding behind_ops
behind_end x end so_far = so_far

-- the answers of a part, and then of the other
pub sums : (s : System) (jobs : List Job) (told : List JobAnswers) (after : Machine) (count n accesses first last : ℕ)
    → AreOneByOne (jobs_one_by_one s (file_of 4) jobs) after told → s ≡ (measured_machine count).system → map (ops_in Before) jobs ≡ map (ops_before n accesses) (ascending count) → map (ops_in After) jobs ≡ map (ops_after n accesses) (ascending count)
    → first ≡ fold (λ v t. values_from v (answers_in Before t)) 0 told → last ≡ fold (λ v t. values_from v (answers_in After t)) first told
    → sums_text last (words_sum after.system.memory.words) ≡ measured_text count n accesses
unfolding measured_text
sums s jobs told after count n accesses first last ran at before_is after_is first_is last_is =
    let o : jobs_one_by_one s (file_of 4) jobs ≡ measured count n accesses = (λ i. one_by_one (at i) (file_of 4) (before_is i) (after_is i)) in
    let one : first ≡ all_values_from 0 (jobs_one_by_one s (file_of 4) jobs).before = first_is ∙ sym (fold-map values_from (answers_in Before) 0 told) ∙ ap (all_values_from 0) ran.before in
    let two : last ≡ all_values_from first (jobs_one_by_one s (file_of 4) jobs).after = last_is ∙ sym (fold-map values_from (answers_in After) first told) ∙ ap (all_values_from first) ran.after in
    (λ i. sums_text ((two ∙ ap (λ (v : ℕ). all_values_from v (jobs_one_by_one s (file_of 4) jobs).after) one) i) (words_sum (ran.left i).system.memory.words))
    ∙ ap text_of o

-- one more at the end of a list of which each has this
pub each_push : {X : Type 0} (P : X → Type 0) (xs : List X) (i : ℕ) (x : X) → length xs ≡ i → P x → ((k : ℕ) → k < i → (d : X) → P (get_or xs k d)) → (k : ℕ) → k < i + 1 → (d : X) → P (get_or (xs ++ x ∷ []) k d)
each_push {X = X} P xs i x size here all =
    below_more (λ k. (d : X) → P (get_or (xs ++ x ∷ []) k d)) i
    (λ k low d. subst P (sym (get_or-append xs (x ∷ []) d k (omega arith))) (all k low d))
    (λ d. subst (λ n. P (get_or (xs ++ x ∷ []) n d)) size (subst P (sym (get_or-append_seam xs x [] d)) here))

-- the parts of one more job
pub parts_more : (part : Part) (f : ℕ → List Op) (jobs : List Job) (k : ℕ) (job : Job) → ops_in part job ≡ f k → map (ops_in part) jobs ≡ map f (range_with_len 0 k) → map (ops_in part) (jobs ++ job ∷ []) ≡ map f (range_with_len 0 (k + 1))
parts_more part f jobs k job is before =
    map-append (ops_in part) jobs (job ∷ []) ∙ (λ i. before i ++ is i ∷ []) ∙ sym (map-range_with_len_more f 0 k k (omega arith))
