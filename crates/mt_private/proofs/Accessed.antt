-- Accesses one by one: what each adds, and what none changes.
use Rattle.std.proofs.Common.{◌≡◌, ◌≢◌, ◌∙◌, ap, sym, refl, subst, arith, ℕ, ◌+◌, ◌-◌, ◌^◌, ◌<◌, ◌≤◌, List, [], ◌∷◌, ◌++◌, drop, length, map, Some, ⊎_elim}
use Rattle.std.specs.Prelude.{slice_get, slice_set}
use Rattle.std.specs.List.{All}
use Rattle.mt_regs.specs.RegisterFile.{RegisterFile}
use Rattle.mt_machine.specs.declared.op.Op.{Op}
use Rattle.mt_machine.specs.System.{Processor, System}
use Rattle.mt_machine.specs.Access.{access}
use Rattle.mt_machine.specs.Machine.{FitsGoal}
use Rattle.mt_laws.proofs.Barrier.Claims.{all_get, all_of}
use Rattle.mt_laws.proofs.Barrier.Stages.{access_stages}
use Rattle.mt_laws.proofs.Clearing.Follows.{follows_access}
use Rattle.mt_bus.proofs.Tables.{same_length}
use Rattle.mt_private.specs.declared.job.Job.{Job}
use Rattle.mt_private.specs.declared.job.JobAnswers.{JobAnswers}
use Rattle.mt_private.specs.declared.job.Part.{Part}
use Rattle.mt_private.specs.Jobs.{AreOpen, IsOpen, answers_in, ops_in, room_in}
use Rattle.mt_private.specs.OneByOne.{ran, ran_each}
use Rattle.mt_private.proofs.Lists.{at_end, at_put, drop_at}

pub ran_more : (k : ℕ) (ops : List Op) (i : ℕ) (op : Op) (s : System) → slice_get ops i ≡ Some op → ran k (drop i ops) s ≡ ran k (op ∷ drop (i + 1) ops) s
ran_more k ops i op s at = ap (λ xs. ran k xs s) (drop_at ops i op at)

pub each_more : (part : Part) (jobs : List Job) (k : ℕ) (j : Job) (s : System) → slice_get jobs k ≡ Some j
    → ran_each k (map (ops_in part) (drop k jobs)) s ≡ ran_each k (ops_in part j ∷ map (ops_in part) (drop (k + 1) jobs)) s
each_more part jobs k j s at = ap (λ (js : List Job). ran_each k (map (ops_in part) js) s) (drop_at jobs k j at)

pub length_access : (s : System) (k : ℕ) (op : Op) → length (access s k op).after.processors ≡ length s.processors
length_access s k op = same_length s (access s k op).after (access_stages s k op)

-- ---- room

-- the other part's room stays where one part's answers came
pub stays_open : (part : Part) (jobs : List Job) (told : List JobAnswers) (k : ℕ) (j : Job) (t x : JobAnswers) → slice_get jobs k ≡ Some j → slice_get told k ≡ Some t
    → answers_in part x ≡ answers_in part t → room_in part x ≡ room_in part t → AreOpen part jobs told → AreOpen part jobs (slice_set told k x)
stays_open part jobs told k j t x at_j at_t answers room all i job y at_job at_y =
    ⊎_elim
    (λ (e : (i ≡ k) × (x ≡ y)).
    let job_is : job ≡ j = let here : Some job ≡ Some j = sym at_job ∙ ap (slice_get jobs) e.0 ∙ at_j in cc in
    let was = all k j t at_j at_t in
    let open_x : IsOpen part j x = (answers ∙ was.0, (let low = was.1 in omega arith)) in
    subst (λ (z : JobAnswers). IsOpen part job z) e.1 (subst (λ (z : Job). IsOpen part z x) (sym job_is) open_x))
    (λ (e : (i ≢ k) × (slice_get told i ≡ Some y)). all i job y at_job e.1)
    (at_put told k i x y at_y)

-- and those behind stay as they are
pub open_behind : (part : Part) (jobs : List Job) (told : List JobAnswers) (k : ℕ) (x : JobAnswers)
    → ((i : ℕ) (j : Job) (t : JobAnswers) → k ≤ i → slice_get jobs i ≡ Some j → slice_get told i ≡ Some t → IsOpen part j t)
    → (i : ℕ) (j : Job) (t : JobAnswers) → k + 1 ≤ i → slice_get jobs i ≡ Some j → slice_get (slice_set told k x) i ≡ Some t → IsOpen part j t
open_behind part jobs told k x all i j t low at_j at_t =
    ⊎_elim
    (λ (e : (i ≡ k) × (x ≡ t)). let same = e.0 in absurd (omega arith))
    (λ (e : (i ≢ k) × (slice_get told i ≡ Some t)). all i j t (omega arith) at_j e.1)
    (at_put told k i x t at_t)

pub open_more : (jobs : List Job) (told : List JobAnswers) (k : ℕ) (j : Job) (x : JobAnswers) → slice_get jobs k ≡ Some j → length told ≡ k → ((part : Part) → IsOpen part j x)
    → ((part : Part) → AreOpen part jobs told) → (part : Part) → AreOpen part jobs (told ++ x ∷ [])
open_more jobs told k j x at_j size new all part i job y at_job at_y =
    ⊎_elim
    (λ (e : (i ≡ length told) × (x ≡ y)).
    let job_is : job ≡ j = let here : Some job ≡ Some j = sym at_job ∙ ap (slice_get jobs) (e.0 ∙ size) ∙ at_j in cc in
    subst (λ (z : JobAnswers). IsOpen part job z) e.1 (subst (λ (z : Job). IsOpen part z x) (sym job_is) (new part)))
    (λ (e : slice_get told i ≡ Some y). all part i job y at_job e)
    (at_end told x i y at_y)

-- ---- what no access changes

-- as many processors, each with the same registers and era
pub record IsLike (s t : System) : Type 0 where
  pub size : length t.processors ≡ length s.processors
  pub each : (i : ℕ) (q : Processor) → slice_get t.processors i ≡ Some q → (p : Processor) × (slice_get s.processors i ≡ Some p) × (q.file ≡ p.file) × (q.era ≡ p.era)

like_then : (s t u : System) → IsLike s t → IsLike t u → IsLike s u
like_then s t u a b = record {
  size = b.size ∙ a.size;
  each = λ i q at. let x = b.each i q at in let y = a.each i x.0 x.1 in (y.0, y.1, x.2 ∙ y.2, x.3 ∙ y.3);
}

like_access : (s : System) (k : ℕ) (op : Op) → IsLike s (access s k op).after
like_access s k op = record {
  size = length_access s k op;
  each = λ i q at. let from = follows_access s k op i q at in (from.0, from.1, from.2.file, from.2.era);
}

like_ran : (k : ℕ) (ops : List Op) (s : System) → IsLike s (ran k ops s).after
like_ran k [] s = record { size = refl; each = λ i q at. (q, at, refl, refl) }
like_ran k (op ∷ ops) s = like_then s (access s k op).after _ (like_access s k op) (like_ran k ops (access s k op).after)

pub like_each : (k : ℕ) (jobs : List (List Op)) (s : System) → IsLike s (ran_each k jobs s).after
like_each k [] s = record { size = refl; each = λ i q at. (q, at, refl, refl) }
like_each k (ops ∷ jobs) s = like_then s (ran k ops s).after _ (like_ran k ops s) (like_each (k + 1) jobs (ran k ops s).after)

pub fits_like : (goal : RegisterFile) (s t : System) → IsLike s t → All (FitsGoal goal) s.processors → All (FitsGoal goal) t.processors
fits_like goal s t like all =
    all_of (FitsGoal goal) t.processors
    (λ i q at. let from = like.each i q at in
    let fits = all_get (FitsGoal goal) s.processors all i from.0 from.1 in
    record { width = fits.width ∙ sym (ap (λ (f : RegisterFile). f.width) from.2); capabilities = fits.capabilities ∙ sym (ap (λ (f : RegisterFile). f.capabilities) from.2) })

pub room_like : (s t : System) → IsLike s t → All (λ p. p.era < 2 ^ 64 - 1) s.processors → All (λ p. p.era < 2 ^ 64 - 1) t.processors
room_like s t like all =
    all_of (λ p. p.era < 2 ^ 64 - 1) t.processors
    (λ i q at. let from = like.each i q at in
    subst (λ (n : ℕ). n < 2 ^ 64 - 1) (sym from.3) (all_get (λ p. p.era < 2 ^ 64 - 1) s.processors all i from.0 from.1))
