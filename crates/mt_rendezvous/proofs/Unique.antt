-- A station's words and views stand for one state, and what it is where the second count is full.
use Rattle.std.proofs.Common.{◌≡◌, ◌<◌, ◌+◌, ◌%◌, ℕ, zero, suc, Bool, true, false, List, [], ◌∷◌, length, map, sym, refl, ap, ◌∙◌, subst, ⊎_elim, arith, Some, None}
use Rattle.std.specs.Prelude.{if◌then◌else◌, slice_index, slice_get}
use Rattle.std.specs.List.{All, list_all}
use mathlib.Core.Option.{some, some-injective}
use lib.ListN.{get_elem?}
use Rattle.mt_machine.specs.declared.phase.Phase.TheVariants.{Running}
use Rattle.mt_machine.specs.declared.go.Go.{Go}
use Rattle.mt_machine.specs.declared.go.Go.TheVariants.{Pending, Given, Cancelled}
use Rattle.mt_regs.specs.RegisterFile.{RegisterFile}
use Rattle.mt_machine.specs.Memory.{word_at}
use Rattle.mt_machine.specs.System.{Processor, now}
use Rattle.mt_machine.specs.Machine.{Machine, common_era, has_arrived_again, is_over}
use Rattle.mt_laws.proofs.Barrier.Claims.{all_get}
use Rattle.mt_laws.proofs.Updates.UpdatedWords.{updated_words}
use Rattle.mt_machine.specs.Update.{settled_processor, updated}
use Rattle.mt_laws.specs.Updates.{HoldsNothing, all_running}
use Rattle.mt_laws.proofs.Updates.SecondBarrier.{led_to_second_barrier}
use Rattle.mt_laws.proofs.Updates.Broadcast.{led_ends}
use Rattle.mt_rendezvous.specs.declared.view.Held.{Held}
use Rattle.mt_rendezvous.specs.declared.view.Start.{Start}
use Rattle.mt_rendezvous.specs.declared.view.View.{View}
use Rattle.mt_rendezvous.specs.declared.view.Key.{Key}
use Rattle.atomic_table.specs.Table.{State}
use Rattle.mt_rendezvous.specs.Station.{Meets, broadcast, joined, start_of, order_of, total, added_of, again_of, go_weight, cpu_of, rise, weight, in_second}
use Rattle.mt_rendezvous.specs.Laws.{HoldsWhereFull, StandsForOne, machine_of}
use Rattle.mt_rendezvous.proofs.Keeps.{total_full, weight_small, at_cpu}
use Rattle.mt_rendezvous.proofs.Steps.{all_again}

same_lists : (l m : List Held) → length l ≡ length m → ((k : ℕ) → k < length l → get_elem? l k ≡ get_elem? m k) → l ≡ m
same_lists [] [] e each = refl
same_lists [] (y ∷ ys) e each = absurd (omega arith)
same_lists (x ∷ xs) [] e each = absurd (omega arith)
same_lists (x ∷ xs) (y ∷ ys) e each =
    let r = same_lists xs ys (omega arith) (λ k b. each (suc k) (omega arith)) in
    let h : x ≡ y = some-injective x y (each 0 (omega arith)) in
    λ i. h i ∷ r i

same_go : (a b : Go) (n x : ℕ) → x ≡ n + go_weight a → x ≡ n + go_weight b → a ≡ b
same_go Pending Pending n x e f = refl
same_go Pending Given n x e f = absurd (omega arith)
same_go Pending Cancelled n x e f = absurd (omega arith)
same_go Given Pending n x e f = absurd (omega arith)
same_go Given Given n x e f = refl
same_go Given Cancelled n x e f = absurd (omega arith)
same_go Cancelled Pending n x e f = absurd (omega arith)
same_go Cancelled Given n x e f = absurd (omega arith)
same_go Cancelled Cancelled n x e f = refl

-- the views tell the processors, whatever the words are
pub same_all : (key : Key) (s u : State (Unit {0}) View) (a : Meets key s) (b : Meets key u) → s.views ≡ u.views → a.all ≡ b.all
same_all key s u a b same = same_lists a.all b.all (a.size ∙ sym b.size) each
  where
    at : (z : State (Unit {0}) View) (m : Meets key z) (j : ℕ) (v : View) (i : ℕ) (h : Held) → get_elem? z.views j ≡ some v → get_elem? v.held i ≡ some h → get_elem? m.all h.number ≡ some h
    at z m j v i h e f = ((m.seats j v e).holds i h f).0

    each : (k : ℕ) → k < length a.all → get_elem? a.all k ≡ get_elem? b.all k
    each k below =
        let x = a.present k below in
        subst (λ (n : ℕ). get_elem? a.all n ≡ get_elem? b.all n) x.6 (at s a x.0 x.1 x.2 x.3 x.4 x.5 ∙ sym (at u b x.0 x.1 x.2 x.3 (ap (λ (l : List View). get_elem? l x.0) (sym same) ∙ x.4) x.5))

pub stands_for_one : StandsForOne
stands_for_one key s a b = λ i. joined (start_of key) (alls i) (goes i) s.words
  where
    alls : a.all ≡ b.all
    alls = same_all key s s a b refl

    goes : a.go ≡ b.go
    goes = same_go a.go b.go (total added_of a.all) (slice_index s.words 0) a.first (b.first ∙ ap (λ (l : List Held). total added_of l + go_weight b.go) (sym alls))

pub first_of : (l : List Held) → 0 < length l → (h : Held) × (get_elem? l 0 ≡ some h)
first_of [] b = absurd (omega arith)
first_of (x ∷ xs) b = (x, refl)

some_injected : (a b : Processor) → Some a ≡ Some b → a ≡ b
some_injected a b e = cc

is_true : (x : Bool) → weight x ≡ 1 → x ≡ true
is_true true e = refl
is_true false e = absurd (omega arith)

all_settled : (goal : RegisterFile) (ps : List Processor) → All (HoldsNothing goal) (map (settled_processor goal) ps)
all_settled goal [] k d within = absurd (omega arith)
all_settled goal (p ∷ ps) zero d within = record { file = refl; lines = refl; buffers = refl; entries = refl }
all_settled goal (p ∷ ps) (suc k) d within = all_settled goal ps k d (omega arith)

pub holds_where_full : HoldsWhereFull
holds_where_full key s m full = one (is_over (order_of t m.go) (map cpu_of m.all)) refl
  where
    t : Start
    t = start_of key

    again : list_all (has_arrived_again (order_of t m.go)) (map cpu_of m.all) ≡ true
    again = all_again key s m (full ∙ sym m.size)

    first : (h : Held) × (get_elem? m.all 0 ≡ some h)
    first = first_of m.all m.some_one

    twice : in_second first.0.added ≡ true
    twice = is_true (in_second first.0.added) (total_full again_of (λ g. weight_small (in_second g.added)) m.all (sym m.second ∙ full ∙ sym m.size) 0 first.0 first.1)

    ends : (joined t m.all m.go s.words).order ≡ None → All (HoldsNothing t.goal) (machine_of key s m).system.processors × ((a : ℕ) → a % 8 ≡ 0 → word_at (machine_of key s m).system.memory a ≡ now (broadcast t).system a)
    ends over = ⊎_elim
        (λ (e : machine_of key s m ≡ updated (broadcast t).system [] t.goal). (
          subst (λ (x : Machine). All (HoldsNothing t.goal) x.system.processors) (sym e) (all_settled t.goal t.cpus),
          λ a whole. ap (λ (x : Machine). word_at x.system.memory a) e ∙ updated_words (broadcast t).system t.goal [] a m.begins.broadcasts.sound whole,
        ))
        (λ (e : machine_of key s m ≡ record { system = all_running (broadcast t).system; order = None }). absurd (unchanged e))
        (led_ends (broadcast t) (machine_of key s m) (order_of t Pending) m.begins.broadcasts m.led_to over)
      where
        has_at : (ps : List Processor) (q : Processor) → slice_get (map (λ (p : Processor). record p { phase = Running }) ps) 0 ≡ Some q → (p : Processor) × (slice_get ps 0 ≡ Some p) × (q ≡ record p { phase = Running })
        has_at [] q at = absurd (cc)
        has_at (p ∷ ps) q at = (p, refl, some_injected q (record p { phase = Running }) (sym at))

        unchanged : machine_of key s m ≡ record { system = all_running (broadcast t).system; order = None } → ⊥
        unchanged e =
            let h = first.0 in
            let f = (m.fits 0 h first.1).0 in
            let at : slice_get (map (λ (p : Processor). record p { phase = Running }) t.cpus) 0 ≡ Some h.cpu = sym (ap (λ (x : Machine). slice_get x.system.processors 0) e) ∙ at_cpu m.all 0 h first.1 in
            let here = has_at t.cpus h.cpu at in
            let era : here.0.era ≡ common_era t.cpus = all_get (λ (r : Processor). r.era ≡ common_era t.cpus) t.cpus m.begins.broadcasts.one_era 0 here.0 here.1 in
            let running : h.cpu.phase ≡ Running = ap (λ (p : Processor). p.phase) here.2 in
            let same : h.cpu.era ≡ here.0.era = ap (λ (p : Processor). p.era) here.2 in
            let up : rise (in_second h.added) h.cpu.phase ≡ 1 = ap (rise (in_second h.added)) running ∙ ap weight twice in
            let e' = f.era in
            omega arith

    one : (b : Bool) → is_over (order_of t m.go) (map cpu_of m.all) ≡ b → All (HoldsNothing t.goal) (machine_of key s m).system.processors × ((a : ℕ) → a % 8 ≡ 0 → word_at (machine_of key s m).system.memory a ≡ now (broadcast t).system a)
    one true over = ends (ap (λ (b : Bool). if b then None else Some (order_of t m.go)) over)
    one false on = led_to_second_barrier (broadcast t) (machine_of key s m) (order_of t Pending) (order_of t m.go) m.begins.broadcasts m.led_to (ap (λ (b : Bool). if b then None else Some (order_of t m.go)) on) again
