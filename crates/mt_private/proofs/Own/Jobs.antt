-- Jobs around a whole update, each in its own system.
use Rattle.std.proofs.Common.{◌≡◌, ◌∙◌, ap, sym, refl, subst, arith, ℕ, ◌+◌, Bool, false, List, [], length, get_or, Some}
use Rattle.std.specs.Prelude.{slice_get}
use Rattle.std.specs.Option.{option_map_or}
use Rattle.std.proofs.lemmas.List.{length-map}
use Rattle.std.proofs.lemmas.Option.{get_or_from_slice_get, slice_get_within}
use Rattle.mt_regs.specs.RegisterFile.{RegisterFile}
use Rattle.mt_machine.specs.declared.op.Op.{Op}
use Rattle.mt_machine.specs.Memory.{IsMemory}
use Rattle.mt_machine.specs.System.{Processor, System}
use Rattle.mt_machine.specs.Update.{settled_processor, updated}
use Rattle.mt_core.specs.Rounds.{ascending}
use Rattle.mt_rendezvous.specs.declared.view.Start.{Start}
use Rattle.mt_private.specs.Alone.{JobsAlone, UpdatesAlone, own_job}
use Rattle.mt_private.specs.OneByOne.{one_by_one, ran, ran_each}
use Rattle.mt_private.specs.Own.{AreApart, IsOwner, own_memory, own_system, pages_of}
use Rattle.mt_private.specs.Pages.{IsPrivate, names}
use Rattle.mt_private.specs.Residents.{pages_at, pages_left, system_of}
use Rattle.mt_private.specs.YardCalls.{updated_own}
use Rattle.mt_private.proofs.Accessed.{like_each}
use Rattle.mt_private.proofs.Lists.{got}
use Rattle.mt_private.proofs.Own.Owners.{private_owner}
use Rattle.mt_private.proofs.Own.Turns.{AreOwners, access_one, access_turns, each_answers, each_turns, inside, kept, left}
use Rattle.mt_private.proofs.Own.Updated.{updated_alone, updated_left, updated_owners}
use Rattle.mt_private.proofs.Residents.Moves.{left_apart, pages_apart}

pub pages_are : (t : Start) (k : ℕ) (p : Processor) → slice_get t.cpus k ≡ Some p → pages_at t k ≡ pages_of p
pages_are t k p at i page = option_map_or (names page) (at i) false

abbrev job_at : List (List Op) → ℕ → List Op
job_at jobs k = get_or jobs k []

is_job : (jobs : List (List Op)) (k : ℕ) (ops : List Op) → slice_get jobs k ≡ Some ops → ops ≡ job_at jobs k
is_job jobs k ops at = sym (get_or_from_slice_get jobs k ops [] at)

-- ---- accesses of each

module _ (P : ℕ → ℕ → Bool) (n : ℕ) (jobs : List (List Op)) (size : length jobs ≡ n) (s : System) (h : AreOwners P n s) where
  as_turns : (ran_each 0 jobs s).after ≡ access_turns P n (job_at jobs) (length jobs) 0 s
  as_turns = each_turns P n (job_at jobs) jobs 0 s (λ i ops at. is_job jobs i ops at ∙ (let place : i ≡ 0 + i = omega arith in ap (job_at jobs) place))

  each_owners : AreOwners P n (ran_each 0 jobs s).after
  each_owners = subst (AreOwners P n) (sym as_turns) (kept P n (λ k t. (ran k (job_at jobs k) t).after) (λ k t. (ran 0 (job_at jobs k) t).after) (access_one P n (job_at jobs)) (length jobs) 0 s (omega arith) h)

  each_own : (k : ℕ) (ops : List Op) → slice_get jobs k ≡ Some ops → own_system (P k) k (ran_each 0 jobs s).after ≡ (ran 0 ops (own_system (P k) k s)).after
  each_own k ops at =
      let low = slice_get_within jobs k ops at in
      ap (own_system (P k) k) as_turns
      ∙ inside P n (λ i t. (ran i (job_at jobs i) t).after) (λ i t. (ran 0 (job_at jobs i) t).after) (access_one P n (job_at jobs)) (length jobs) 0 s (omega arith) h k (omega arith) (omega arith)
      ∙ ap (λ (xs : List Op). (ran 0 xs (own_system (P k) k s)).after) (sym (is_job jobs k ops at))

  each_left : (pages : ℕ → Bool) → ((k : ℕ) → AreApart (P k) pages) → own_memory pages (ran_each 0 jobs s).after.memory ≡ own_memory pages s.memory
  each_left pages apart =
      ap (λ (t : System). own_memory pages t.memory) as_turns
      ∙ left P n (λ i t. (ran i (job_at jobs i) t).after) (λ i t. (ran 0 (job_at jobs i) t).after) (access_one P n (job_at jobs)) pages apart (length jobs) 0 s (omega arith) h

  each_answer : (k : ℕ) (ops : List Op) → slice_get jobs k ≡ Some ops → slice_get (ran_each 0 jobs s).answers k ≡ Some (ran 0 ops (own_system (P k) k s)).answers
  each_answer k ops at =
      let place : 0 + k ≡ k = omega arith in
      each_answers P n (job_at jobs) jobs 0 s (omega arith) h k ops at ∙ ap (λ (i : ℕ). Some (ran 0 ops (own_system (P i) i s)).answers) place

-- ---- jobs

-- the system after these accesses and a whole update
abbrev pub after_update : System → RegisterFile → List (List Op) → System
after_update s goal before = (updated (ran_each 0 before s).after (ascending (length (ran_each 0 before s).after.processors)) goal).system

module _ (P : ℕ → ℕ → Bool) (n : ℕ) (goal : RegisterFile) (before after : List (List Op)) (few : length before ≡ n) (few_after : length after ≡ n) (s : System) (all : length s.processors ≡ n) (h : AreOwners P n s) where
  abbrev first : System
  first = (ran_each 0 before s).after

  count : length first.processors ≡ n
  count = (like_each 0 before s).size ∙ all

  abbrev whole : System
  whole = after_update s goal before

  whole_is : whole ≡ (updated first (ascending n) goal).system
  whole_is = ap (λ (m : ℕ). (updated first (ascending m) goal).system) count

  abbrev fresh : AreOwners P n first
  fresh = each_owners P n before few s h

  pub whole_owners : AreOwners P n whole
  whole_owners = subst (AreOwners P n) (sym whole_is) (updated_owners P n goal first fresh)

  pub whole_own : (k : ℕ) (ops : List Op) → slice_get before k ≡ Some ops → own_system (P k) k whole ≡ updated_own goal (ran 0 ops (own_system (P k) k s)).after
  whole_own k ops at =
      let low = slice_get_within before k ops at in
      ap (own_system (P k) k) whole_is ∙ updated_alone P n goal first fresh k (omega arith) ∙ ap (updated_own goal) (each_own P n before few s h k ops at)

  pub job_first : (k : ℕ) (ops : List Op) → slice_get before k ≡ Some ops → slice_get (one_by_one s goal before after).before k ≡ Some (ran 0 ops (own_system (P k) k s)).answers
  job_first k ops at = each_answer P n before few s h k ops at

  pub job_last : (k : ℕ) (ops bs : List Op) → slice_get before k ≡ Some ops → slice_get after k ≡ Some bs → slice_get (one_by_one s goal before after).after k ≡ Some (own_job goal ops bs (own_system (P k) k s)).answers
  job_last k ops bs at at_after = each_answer P n after few_after whole whole_owners k bs at_after ∙ ap (λ (o : System). Some (ran 0 bs o).answers) (whole_own k ops at)

  pub job_own : (k : ℕ) (ops bs : List Op) → slice_get before k ≡ Some ops → slice_get after k ≡ Some bs → own_system (P k) k (one_by_one s goal before after).left.system ≡ (own_job goal ops bs (own_system (P k) k s)).after
  job_own k ops bs at at_after = each_own P n after few_after whole whole_owners k bs at_after ∙ ap (λ (o : System). (ran 0 bs o).after) (whole_own k ops at)

  pub job_owners : AreOwners P n (one_by_one s goal before after).left.system
  job_owners = each_owners P n after few_after whole whole_owners

  pub whole_count : length whole.processors ≡ n
  whole_count = length-map first.processors (settled_processor goal) ∙ count

  pub whole_left : (pages : ℕ → Bool) → ((k : ℕ) → AreApart (P k) pages) → own_memory pages whole.memory ≡ own_memory pages s.memory
  whole_left pages apart = ap (λ (t : System). own_memory pages t.memory) whole_is ∙ updated_left P n goal first fresh pages apart count ∙ each_left P n before few s h pages apart

  pub job_count : length (one_by_one s goal before after).left.system.processors ≡ n
  job_count = (like_each 0 after whole).size ∙ whole_count

  pub job_left : (pages : ℕ → Bool) → ((k : ℕ) → AreApart (P k) pages) → own_memory pages (one_by_one s goal before after).left.system.memory ≡ own_memory pages s.memory
  job_left pages apart =
      each_left P n after few_after whole whole_owners pages apart ∙ whole_left pages apart

module _ (t : Start) (memory : IsMemory t.ram) (unshared : IsPrivate (system_of t)) where
  pub owners : AreOwners (pages_at t) (length t.cpus) (system_of t)
  owners = record {
    memory = memory;
    owner = λ k low.
        let p = got t.cpus k low in
        subst (λ (pages : ℕ → Bool). IsOwner pages k (system_of t)) (sym (pages_are t k p.0 p.1)) (private_owner (system_of t) k p.0 unshared p.1);
    apart = pages_apart t unshared;
  }

  pub updates_alone : UpdatesAlone (system_of t) t.goal
  updates_alone = record {
    own = λ k p at.
        subst (λ (pages : ℕ → Bool). own_system pages k (updated (system_of t) (ascending (length t.cpus)) t.goal).system ≡ updated_own t.goal (own_system pages k (system_of t))) (pages_are t k p at)
        (updated_alone (pages_at t) (length t.cpus) t.goal (system_of t) owners k (slice_get_within t.cpus k p at));
    rest = updated_left (pages_at t) (length t.cpus) t.goal (system_of t) owners (pages_left t) (left_apart t unshared) refl;
  }

  pub jobs_alone : (before after : List (List Op)) → length before ≡ length t.cpus → length after ≡ length t.cpus → JobsAlone (system_of t) t.goal before after
  jobs_alone before after few few_after = record {
    first = λ k p ops at here.
        job_first (pages_at t) (length t.cpus) t.goal before after few few_after (system_of t) refl owners k ops here
        ∙ ap (λ (pages : ℕ → Bool). Some (ran 0 ops (own_system pages k (system_of t))).answers) (pages_are t k p at);
    last = λ k p ops bs at here there.
        job_last (pages_at t) (length t.cpus) t.goal before after few few_after (system_of t) refl owners k ops bs here there
        ∙ ap (λ (pages : ℕ → Bool). Some (own_job t.goal ops bs (own_system pages k (system_of t))).answers) (pages_are t k p at);
    own = λ k p ops bs at here there.
        subst (λ (pages : ℕ → Bool). own_system pages k (one_by_one (system_of t) t.goal before after).left.system ≡ (own_job t.goal ops bs (own_system pages k (system_of t))).after) (pages_are t k p at)
        (job_own (pages_at t) (length t.cpus) t.goal before after few few_after (system_of t) refl owners k ops bs here there);
    rest = job_left (pages_at t) (length t.cpus) t.goal before after few few_after (system_of t) refl owners (pages_left t) (left_apart t unshared);
  }
