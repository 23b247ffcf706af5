use Rattle.std.proofs.Common.{◌≡◌, ℕ, zero, suc, List, [], ◌∷◌, ◌∙◌, ap, sym, subst, arith}
use mathlib.Core.Option.{some, some-injective, some-ne-none}
use lib.ListN.{get_elem?}
use Rattle.mt_rendezvous.specs.declared.view.Held.{Held}
use Rattle.mt_rendezvous.specs.declared.view.Start.{Start}
use Rattle.mt_rendezvous.specs.declared.view.View.{View}
use Rattle.mt_rendezvous.specs.declared.view.Key.{Key}
use Rattle.mt_rendezvous.specs.Station.{IsHeld, first_view, numbered, others, root_left, start_of}
use Rattle.mt_thread_laws.specs.WorkedStations.{start}
use Rattle.mt_thread_laws.proofs.StationOnWorked.{opened, same_counts}
use Rattle.mt_thread_laws.proofs.WorkedStart.{begins_start}
use Rattle.mt_thread_laws.proofs.worked_steps.worked_rule.Goals as goal

pub returns-clause-opened : goal.returns-clause-opened
returns-clause-opened c = λ key is. opened key is begins_start

pub returns-clause-counted : goal.returns-clause-counted
returns-clause-counted c = λ key is m. let e = (same_counts key is begins_start _ m).0 in absurd (omega arith)

pub returns-clause-counted_again : goal.returns-clause-counted_again
returns-clause-counted_again c = λ key is m. let e = (same_counts key is begins_start _ m).1 in absurd (omega arith)

pub returns-clause-coded : goal.returns-clause-coded
returns-clause-coded c = λ key is m. let e = (same_counts key is begins_start _ m).2 1 (omega arith) in absurd (omega arith)

pub returns-clause-short : goal.returns-clause-short
returns-clause-short c = λ key is m. let e = (same_counts key is begins_start _ m).3 in absurd (omega arith)

pub returns-clause-missing : goal.returns-clause-missing
returns-clause-missing c = λ key is m. nowhere key is (m.present 0 m.some_one)
  where
    only : (cs : List Held) (i : ℕ) (h : Held) → cs ≡ others (numbered 0 start.cpus) → get_elem? cs i ≡ some h → h.number ≡ 0 → ⊥
    only cs zero h same e n = let x = some-injective _ h (ap (λ (l : List Held). get_elem? l 0) (sym same) ∙ e) in let y : 1 ≡ h.number = ap (λ (g : Held). g.number) x in omega arith
    only cs (suc i) h same e n = absurd (some-ne-none h (sym (ap (λ (l : List Held). get_elem? l (suc i)) (sym same) ∙ e)))

    nowhere : (key : Key) → start_of key ≡ start → IsHeld (root_left (first_view key) ∷ []) 0 → ⊥
    nowhere key is (zero, v, i, h, at, holds, n) = only (root_left (first_view key)).held i h (ap (λ (t : Start). others (numbered 0 t.cpus)) is) (subst (λ (u : View). get_elem? u.held i ≡ some h) (sym (some-injective (root_left (first_view key)) v at)) holds) n
    nowhere key is (suc j, v, i, h, at, holds, n) = absurd (some-ne-none v (sym at))
