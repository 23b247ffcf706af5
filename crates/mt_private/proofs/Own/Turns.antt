-- Processors that each do something on pages of their own, one after the other.
use Rattle.std.proofs.Common.{◌≡◌, ◌≢◌, ◌∙◌, ap, sym, refl, subst, arith, ℕ, zero, suc, ◌+◌, ◌<◌, ◌≤◌, Bool, List, [], ◌∷◌, length, Some}
use Rattle.std.specs.Prelude.{slice_get}
use Rattle.std.proofs.lemmas.Option.{slice_get_within}
use mathlib.Core.Logic.{dite}
use native.Mathlib.Decide.{ℕ_discrete}
use Rattle.mt_machine.specs.declared.op.Op.{Op}
use Rattle.mt_machine.specs.declared.done.Done.{Done}
use Rattle.mt_machine.specs.Memory.{IsMemory}
use Rattle.mt_machine.specs.System.{System}
use Rattle.mt_machine.specs.Update.{addresses}
use Rattle.mt_private.specs.OneByOne.{ran, ran_each}
use Rattle.mt_private.specs.Own.{AreApart, Becomes, IsOwner, own_memory, own_system}
use Rattle.mt_private.proofs.Own.Owners.{memory_after, runs_alone, same_system, stays_owner, words_left}

-- each of these owns its pages, of which no two have one
pub record AreOwners (P : ℕ → ℕ → Bool) (n : ℕ) (s : System) : Type 0 where
  pub memory : IsMemory s.memory
  pub owner : (k : ℕ) → k < n → IsOwner (P k) k s
  pub apart : (k j : ℕ) → j ≢ k → AreApart (P k) (P j)

-- one does something
module _ (P : ℕ → ℕ → Bool) (n : ℕ) (s t alone : System) (k : ℕ) (low : k < n) (h : AreOwners P n s) (b : Becomes (P k) k s t alone) where
  pub after_one : AreOwners P n t
  after_one = record {
    memory = memory_after (P k) k s t alone b h.memory;
    owner = λ j within.
        dite (ℕ_discrete j k)
        (λ (e : j ≡ k). subst (λ (i : ℕ). IsOwner (P i) i t) (sym e) b.owner)
        (λ (d : j ≢ k). stays_owner (P k) k s t alone b (P j) j (h.owner j within) d (h.apart k j d));
    apart = h.apart;
  }

  pub other_one : (j : ℕ) → j < n → j ≢ k → own_system (P j) j t ≡ own_system (P j) j s
  other_one j within d = same_system (P k) k s t alone b (P j) j (h.owner j within) d (h.apart k j d)

  pub left_one : (pages : ℕ → Bool) → AreApart (P k) pages → own_memory pages t.memory ≡ own_memory pages s.memory
  left_one pages apart =
      ap (λ (v : System). own_memory pages v.memory) b.whole
      ∙ (λ i. record s.memory { words = words_left (P k) pages apart (addresses s.memory.windows) alone.memory.words s.memory.words i })

-- each does something, in ascending order
module _ (P : ℕ → ℕ → Bool) (n : ℕ) (F G : ℕ → System → System) (one : (k : ℕ) (s : System) → k < n → AreOwners P n s → Becomes (P k) k s (F k s) (G k (own_system (P k) k s))) where
  abbrev pub turns : ℕ → ℕ → System → System
  turns zero a s = s
  turns (suc m) a s = turns m (a + 1) (F a s)

  first : (a : ℕ) (s : System) → a < n → AreOwners P n s → AreOwners P n (F a s)
  first a s low h = after_one P n s (F a s) (G a (own_system (P a) a s)) a low h (one a s low h)

  pub kept : (m a : ℕ) (s : System) → a + m ≤ n → AreOwners P n s → AreOwners P n (turns m a s)
  kept zero a s low h = h
  kept (suc m) a s low h = kept m (a + 1) (F a s) (omega arith) (first a s (omega arith) h)

  outside : (m a : ℕ) (s : System) → a + m ≤ n → AreOwners P n s → (j : ℕ) → j < a → own_system (P j) j (turns m a s) ≡ own_system (P j) j s
  outside zero a s low h j below = refl
  outside (suc m) a s low h j below =
      outside m (a + 1) (F a s) (omega arith) (first a s (omega arith) h) j (omega arith)
      ∙ other_one P n s (F a s) (G a (own_system (P a) a s)) a (omega arith) h (one a s (omega arith) h) j (omega arith) (λ e. absurd (omega arith))

  pub inside : (m a : ℕ) (s : System) → a + m ≤ n → AreOwners P n s → (j : ℕ) → a ≤ j → j < a + m → own_system (P j) j (turns m a s) ≡ G j (own_system (P j) j s)
  inside zero a s low h j from to = absurd (omega arith)
  inside (suc m) a s low h j from to =
      dite (ℕ_discrete j a)
      (λ (e : j ≡ a). subst (λ (i : ℕ). own_system (P i) i (turns m (a + 1) (F a s)) ≡ G i (own_system (P i) i s)) (sym e)
      (outside m (a + 1) (F a s) (omega arith) (first a s (omega arith) h) a (omega arith) ∙ (one a s (omega arith) h).own))
      (λ (d : j ≢ a). inside m (a + 1) (F a s) (omega arith) (first a s (omega arith) h) j (omega arith) (omega arith)
      ∙ ap (G j) (other_one P n s (F a s) (G a (own_system (P a) a s)) a (omega arith) h (one a s (omega arith) h) j (omega arith) d))

  pub left : (pages : ℕ → Bool) → ((k : ℕ) → AreApart (P k) pages) → (m a : ℕ) (s : System) → a + m ≤ n → AreOwners P n s → own_memory pages (turns m a s).memory ≡ own_memory pages s.memory
  left pages apart zero a s low h = refl
  left pages apart (suc m) a s low h =
      left pages apart m (a + 1) (F a s) (omega arith) (first a s (omega arith) h)
      ∙ left_one P n s (F a s) (G a (own_system (P a) a s)) a (omega arith) h (one a s (omega arith) h) pages (apart a)

-- ---- accesses

module _ (P : ℕ → ℕ → Bool) (n : ℕ) (job : ℕ → List Op) where
  pub access_one : (k : ℕ) (s : System) → k < n → AreOwners P n s → Becomes (P k) k s (ran k (job k) s).after (ran 0 (job k) (own_system (P k) k s)).after
  access_one k s low h = (runs_alone (P k) k s h.memory (h.owner k low) (job k)).after

  abbrev pub access_turns : ℕ → ℕ → System → System
  access_turns = turns P n (λ k s. (ran k (job k) s).after) (λ k s. (ran 0 (job k) s).after) access_one

  pub each_turns : (jobs : List (List Op)) (a : ℕ) (s : System) → ((i : ℕ) (ops : List Op) → slice_get jobs i ≡ Some ops → ops ≡ job (a + i)) → (ran_each a jobs s).after ≡ access_turns (length jobs) a s
  each_turns [] a s same = refl
  each_turns (ops ∷ jobs) a s same =
      let here : ops ≡ job a = same 0 ops refl ∙ (let e : a + 0 ≡ a = omega arith in ap job e) in
      ap (λ (xs : List Op). (ran_each (a + 1) jobs (ran a xs s).after).after) here
      ∙ each_turns jobs (a + 1) (ran a (job a) s).after (λ i xs at. same (suc i) xs at ∙ (let e : a + suc i ≡ a + 1 + i = omega arith in ap job e))

  pub each_answers : (jobs : List (List Op)) (a : ℕ) (s : System) → a + length jobs ≤ n → AreOwners P n s → (i : ℕ) (ops : List Op) → slice_get jobs i ≡ Some ops
      → slice_get (ran_each a jobs s).answers i ≡ Some (ran 0 ops (own_system (P (a + i)) (a + i) s)).answers
  each_answers [] a s low h i ops at = absurd (cc)
  each_answers (xs ∷ jobs) a s low h zero ops at =
      let same : xs ≡ ops = (let e : Some xs ≡ Some ops = at in cc) in
      let place : a ≡ a + 0 = omega arith in
      ap (λ (ys : List Op). Some (ran a ys s).answers) same
      ∙ ap (λ (ds : List Done). Some ds) (runs_alone (P a) a s h.memory (h.owner a (omega arith)) ops).answers
      ∙ ap (λ (k : ℕ). Some (ran 0 ops (own_system (P k) k s)).answers) place
  each_answers (xs ∷ jobs) a s low h (suc i) ops at =
      let r = runs_alone (P a) a s h.memory (h.owner a (omega arith)) xs in
      let alone : System = (ran 0 xs (own_system (P a) a s)).after in
      let next : System = (ran a xs s).after in
      let next_at : a + 1 + i ≡ a + suc i = omega arith in
      let within = slice_get_within jobs i ops at in
      each_answers jobs (a + 1) next (omega arith) (after_one P n s next alone a (omega arith) h r.after) i ops at
      ∙ ap (λ (o : System). Some (ran 0 ops o).answers) (other_one P n s next alone a (omega arith) h r.after (a + 1 + i) (omega arith) (λ e. absurd (omega arith)))
      ∙ ap (λ (k : ℕ). Some (ran 0 ops (own_system (P k) k s)).answers) next_at
