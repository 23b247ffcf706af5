-- Why the rule doesn't hold at the worked start with another word.
use Rattle.std.proofs.Common.{◌≡◌, ◌<◌, ◌+◌, ℕ, zero, suc, List, [], ◌∷◌, ◌∙◌, ap, sym, refl, subst, arith, length}
use Rattle.std.specs.Prelude.{slice_index}
use mathlib.Core.Option.{some}
use lib.ListN.{get_elem?}
use Rattle.atomic_table.specs.Table.{opening}
use Rattle.mt_rendezvous.specs.declared.view.Held.{Held}
use Rattle.mt_rendezvous.specs.declared.view.Start.{Start}
use Rattle.mt_rendezvous.specs.declared.view.Key.{Key}
use Rattle.mt_rendezvous.specs.Station.{Begins, Meets, added_of, again_of, first_view, go_weight, start_of, total}
use Rattle.mt_rendezvous.specs.Calls.{opening_words}
use Rattle.mt_thread_laws.specs.WorkedStations.{first, start, zeros}
use Rattle.mt_rendezvous.proofs.RootSteps.{begins, opens_of}
use Rattle.mt_rendezvous.proofs.Unique.{same_all}

pub not_both : (n : ℕ) → n ≡ 1 → n ≡ 0 → ⊥
not_both n e f = omega arith

module _ (key : Key) (is : start_of key ≡ start) (b : Begins start) where
  -- the start of a worked station meets the rule
  pub opened : Meets key (opening (opening_words 2 zeros) [] (first_view key))
  opened =
      let size : 2 ≡ length key.cpus.value.items = sym (ap (λ (t : Start). length t.cpus) is) in
      begins key (opening_words 2 zeros) (subst Begins (sym is) b) (omega arith) (omega arith) (opens_of key 2 (opening_words 2 zeros) size (ap (λ (t : Start). opening_words 2 t.ram.words) (sym is)))

  -- words with the same views have its counts and phase words
  pub same_counts : (words : List ℕ) → Meets key (record { words = words; homes = []; views = first_view key ∷ [] })
      → (slice_index words 0 ≡ 0) × (slice_index words 1 ≡ 0) × ((k : ℕ) → k < 2 → slice_index words (k + 2) ≡ slice_index (opening_words 2 zeros) (k + 2)) × (length words ≡ length (opening_words 2 zeros))
  same_counts words m =
      let o = opened in
      let all = same_all key (record { words = words; homes = []; views = first_view key ∷ [] }) (opening (opening_words 2 zeros) [] (first_view key)) m o refl in
      let go : m.go ≡ o.go = sym ((m.seats 0 (first_view key) refl).root refl).1 ∙ ((o.seats 0 (first_view key) refl).root refl).1 in (
        m.first ∙ (λ i. total added_of (all i) + go_weight (go i)) ∙ sym o.first,
        m.second ∙ ap (total again_of) all ∙ sym o.second,
        (λ k below. let h = at o.all k (let s = o.size in let t : length key.cpus.value.items ≡ 2 = ap (λ (t : Start). length t.cpus) is in omega arith) in m.codes k h.0 (ap (λ (l : List Held). get_elem? l k) all ∙ h.1) ∙ sym (o.codes k h.0 h.1)),
        m.wide ∙ sym o.wide,
      )
    where
      at : (l : List Held) (k : ℕ) → k < length l → (h : Held) × (get_elem? l k ≡ some h)
      at [] k below = absurd (omega arith)
      at (x ∷ xs) zero below = (x, refl)
      at (x ∷ xs) (suc k) below = at xs k (omega arith)
