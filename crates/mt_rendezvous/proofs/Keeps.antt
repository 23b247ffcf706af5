-- Each step of a pass keeps the rule.
use Rattle.std.proofs.Common.{◌≡◌, ◌≢◌, ◌⊎◌, ◌≤◌, ℕ, zero, suc, ◌+◌, ◌<◌, Bool, true, false, ◌&&◌, ◌||◌, not, List, [], ◌∷◌, map, length, get_or, get_or-set_other, get_or-set_same, set, drop, drop-set-lt, sym, refl, ap, ◌∙◌, subst, inl, inr, ⊎_elim, arith, length-set, Option, Some, None}
use Rattle.std.specs.Prelude.{slice_index, slice_get, slice_set, if◌then◌else◌}
use Rattle.std.specs.List.{list_all, list_any}
use Rattle.std.specs.Option.{option_map_or}
use Rattle.std.proofs.lemmas.Bool.{le-ltb}
use mathlib.Core.Option.{some, some-injective, some-ne-none}
use mathlib.Core.Logic.{dite}
use native.Mathlib.Decide.{ℕ_discrete}
use lib.ListN.{get_elem?}
use Rattle.atomic_table.specs.Table.{State}
use Rattle.atomic_table.proofs.Lists.{at_set, set_here, set_else}
use Rattle.mt_machine.specs.declared.phase.Phase.{Phase}
use Rattle.mt_machine.specs.declared.phase.Phase.TheVariants.{Running, Taken, Arrived, Arrived2}
use Rattle.mt_machine.specs.declared.event.Event.{Event}
use Rattle.mt_machine.specs.declared.go.Go.{Go}
use Rattle.mt_machine.specs.declared.go.Go.TheVariants.{Pending, Given, Cancelled}
use Rattle.mt_machine.specs.System.{Processor, System, change}
use Rattle.mt_machine.specs.Machine.{Machine, MachineEvent, Order, Steps, IsEnabled, due, next, own_step, before_own, step, stepped, is_over, has_released, is_cancelled, is_waiting_to_pass, common_era}
use Rattle.mt_machine.specs.Update.{Led, is_led, led_on}
use Rattle.mt_rendezvous.specs.declared.view.Held.{Held}
use Rattle.mt_rendezvous.specs.declared.view.Start.{Start}
use Rattle.mt_rendezvous.specs.declared.view.View.{View}
use Rattle.mt_rendezvous.specs.declared.view.Key.{Key}
use Rattle.mt_rendezvous.specs.Station.{order_of, broadcast, cpu_of, first_memory_word, system_of, joined, start_of, view, weight, total, added_of, again_of, go_weight, phase_word_of, FitsPhase, FitsHeld, rise, Sits, IsHeld, Meets, in_second, seating}
use Rattle.mt_rendezvous.specs.Plays.{CanFollow, PassSteps, Took, after_event, word_step}
use Rattle.mt_rendezvous.specs.declared.view.Added.{Added}
use Rattle.mt_rendezvous.specs.Laws.{StationFollows}

-- ---- lists

pub total_set : (f : Held → ℕ) (l : List Held) (k : ℕ) (h w : Held) → get_elem? l k ≡ some h → total f (set l k w) + f h ≡ total f l + f w
total_set f [] k h w e = absurd (some-ne-none h (sym e))
total_set f (x ∷ xs) zero h w e = let is : f x ≡ f h = ap f (some-injective x h e) in omega arith
total_set f (x ∷ xs) (suc k) h w e = let r = total_set f xs k h w e in omega arith

pub weight_small : (b : Bool) → weight b ≤ 1
weight_small true = omega arith
weight_small false = omega arith

pub total_small : (f : Held → ℕ) → ((h : Held) → f h ≤ 1) → (l : List Held) → total f l ≤ length l
total_small f small [] = omega arith
total_small f small (x ∷ xs) = let r = total_small f small xs in let s = small x in omega arith

-- where the total is the length, each counts
pub total_full : (f : Held → ℕ) → ((h : Held) → f h ≤ 1) → (l : List Held) → total f l ≡ length l → (k : ℕ) (h : Held) → get_elem? l k ≡ some h → f h ≡ 1
total_full f small [] full k h e = absurd (some-ne-none h (sym e))
total_full f small (x ∷ xs) full zero h e = let s = small x in let r = total_small f small xs in let is : f x ≡ f h = ap f (some-injective x h e) in omega arith
total_full f small (x ∷ xs) full (suc k) h e = let s = small x in let r = total_small f small xs in total_full f small xs (omega arith) k h e

pub set_cpus : (l : List Held) (k : ℕ) (h w : Held) → get_elem? l k ≡ some h → set (map cpu_of l) k w.cpu ≡ map cpu_of (set l k w)
set_cpus [] k h w e = absurd (some-ne-none h (sym e))
set_cpus (x ∷ xs) zero h w e = refl
set_cpus (x ∷ xs) (suc k) h w e = λ i. x.cpu ∷ set_cpus xs k h w e i

pub same_cpus : (l : List Held) (k : ℕ) (h w : Held) → get_elem? l k ≡ some h → w.cpu ≡ h.cpu → map cpu_of l ≡ map cpu_of (set l k w)
same_cpus [] k h w e is = refl
same_cpus (x ∷ xs) zero h w e is = let c : x.cpu ≡ w.cpu = ap cpu_of (some-injective x h e) ∙ sym is in λ i. c i ∷ map cpu_of xs
same_cpus (x ∷ xs) (suc k) h w e is = λ i. x.cpu ∷ same_cpus xs k h w e is i

pub at_cpu : (l : List Held) (k : ℕ) (h : Held) → get_elem? l k ≡ some h → slice_get (map cpu_of l) k ≡ Some h.cpu
at_cpu [] k h e = absurd (some-ne-none h (sym e))
at_cpu (x ∷ xs) zero h e = ap (λ (y : Held). Some y.cpu) (some-injective x h e)
at_cpu (x ∷ xs) (suc k) h e = at_cpu xs k h e

pub at_less : (l : List Held) (k : ℕ) (h : Held) → get_elem? l k ≡ some h → k < length l
at_less [] k h e = absurd (some-ne-none h (sym e))
at_less (x ∷ xs) zero h e = omega arith
at_less (x ∷ xs) (suc k) h e = let r = at_less xs k h e in omega arith

view_less : (l : List View) (k : ℕ) (v : View) → get_elem? l k ≡ some v → k < length l
view_less [] k v e = absurd (some-ne-none v (sym e))
view_less (x ∷ xs) zero v e = omega arith
view_less (x ∷ xs) (suc k) v e = let r = view_less xs k v e in omega arith

-- a word of memory is stored
pub drop_set : (ws : List ℕ) (n i v : ℕ) → drop n (set ws (n + i) v) ≡ set (drop n ws) i v
drop_set ws zero i v = let e : 0 + i ≡ i = omega arith in ap (λ (j : ℕ). set ws j v) e
drop_set [] (suc n) i v = refl
drop_set (x ∷ xs) (suc n) i v = let e : suc n + i ≡ suc (n + i) = omega arith in ap (λ (j : ℕ). drop (suc n) (set (x ∷ xs) j v)) e ∙ drop_set xs n i v

-- ---- the order stands while a processor is on its way

pub all_false : (f : Processor → Bool) (l : List Held) (k : ℕ) (h : Held) → get_elem? l k ≡ some h → f h.cpu ≡ false → list_all f (map cpu_of l) ≡ false
all_false f [] k h e off = absurd (some-ne-none h (sym e))
all_false f (x ∷ xs) zero h e off = ap (λ b. b && list_all f (map cpu_of xs)) (ap (λ (y : Held). f y.cpu) (some-injective x h e) ∙ off)
all_false f (x ∷ xs) (suc k) h e off = ap (λ b. f x.cpu && b) (all_false f xs k h e off) ∙ and_false (f x.cpu)
  where
    and_false : (b : Bool) → (b && false) ≡ false
    and_false true = refl
    and_false false = refl

any_true : (f : Processor → Bool) (l : List Held) (k : ℕ) (h : Held) → get_elem? l k ≡ some h → f h.cpu ≡ true → list_any f (map cpu_of l) ≡ true
any_true f [] k h e is = absurd (some-ne-none h (sym e))
any_true f (x ∷ xs) zero h e is = ap (λ b. b || list_any f (map cpu_of xs)) (ap (λ (y : Held). f y.cpu) (some-injective x h e) ∙ is)
any_true f (x ∷ xs) (suc k) h e is = ap (λ b. f x.cpu || b) (any_true f xs k h e is) ∙ or_true (f x.cpu)
  where
    or_true : (b : Bool) → (b || true) ≡ true
    or_true true = refl
    or_true false = refl

pub all_true : (f : Processor → Bool) (l : List Held) → ((k : ℕ) (h : Held) → get_elem? l k ≡ some h → f h.cpu ≡ true) → list_all f (map cpu_of l) ≡ true
all_true f [] each = refl
all_true f (x ∷ xs) each = ap (λ b. b && list_all f (map cpu_of xs)) (each 0 x refl) ∙ all_true f xs (λ k h e. each (suc k) h e)

-- it is on its way: not running
abbrev pub IsUnderWay : Phase → Type 0
IsUnderWay Running = ⊥
IsUnderWay other = Unit {0}

no_rise : (again : Bool) (p : Phase) → IsUnderWay p → rise again p ≡ 0
no_rise again Running u = absurd u
no_rise again other u = refl

waits : (added : Added) (p : Phase) → IsUnderWay p → FitsPhase Cancelled added p → is_waiting_to_pass p ≡ true
waits added Running u f = absurd u
waits added Taken u f = refl
waits added Arrived u f = refl
waits added Arrived2 u f = absurd (let e = f.1 in cc)
waits added other u f = absurd (let e = f.1 in cc)

cancel_over : (added : Added) (go : Go) (l : List Held) (k : ℕ) (h : Held) → get_elem? l k ≡ some h → IsUnderWay h.cpu.phase → FitsPhase go added h.cpu.phase
    → (is_cancelled go && not (list_any (λ p. is_waiting_to_pass p.phase) (map cpu_of l))) ≡ false
cancel_over added Pending l k h at u f = refl
cancel_over added Given l k h at u f = refl
cancel_over added Cancelled l k h at u f = ap not (any_true (λ p. is_waiting_to_pass p.phase) l k h at (waits added h.cpu.phase u f))

pub order_stands : (t : Start) (all : List Held) (go : Go) (words : List ℕ) (k : ℕ) (h : Held) → get_elem? all k ≡ some h → IsUnderWay h.cpu.phase → FitsPhase go h.added h.cpu.phase → h.cpu.era ≡ common_era t.cpus + rise (in_second h.added) h.cpu.phase
    → (joined t all go words).order ≡ Some (order_of t go)
order_stands t all go words k h at u fits era = ap (λ (b : Bool). if b then None else Some (order_of t go)) over
  where
    released : has_released (order_of t go) h.cpu ≡ false
    released = let z = no_rise (in_second h.added) h.cpu.phase u in le-ltb (common_era t.cpus) h.cpu.era (omega arith)

    over : is_over (order_of t go) (map cpu_of all) ≡ false
    over = ap (λ b. b || (is_cancelled go && not (list_any (λ p. is_waiting_to_pass p.phase) (map cpu_of all)))) (all_false (has_released (order_of t go)) all k h at released)
        ∙ cancel_over h.added go all k h at u fits

pub stands_order : (t : Start) (all : List Held) (go : Go) (words : List ℕ) (k : ℕ) (h : Held) → get_elem? all k ≡ some h → IsUnderWay h.cpu.phase → FitsHeld t go h
    → (joined t all go words).order ≡ Some (order_of t go)
stands_order t all go words k h at u f = order_stands t all go words k h at u f.fits f.era

-- ---- one event of the processor that h has

pub record Acts (t : Start) (all : List Held) (go : Go) (words after : List ℕ) (k : ℕ) (e : Event) (h w : Held) : Type 0 where
  pub order : (joined t all go words).order ≡ Some (order_of t go)
  pub enabled : IsEnabled (joined t all go words) (Steps k e)
  pub moves : next (joined t all go words) (Steps k e) ≡ joined t (set all k w) go after

pub acts : (t : Start) (all : List Held) (go : Go) (words after : List ℕ) (k : ℕ) (e : Event) (h w : Held) → get_elem? all k ≡ some h
    → (joined t all go words).order ≡ Some (order_of t go) → due (order_of t go) (map cpu_of all) h.cpu h.cpu.phase ≡ Some e → w.cpu ≡ own_step t.goal e h.cpu
    → before_own e k (system_of t all words) ≡ system_of t all after → Acts t all go words after k e h w
acts t all go words after k e h w at order is own before = record {
  order = order;
  enabled = ap (λ (x : Option Order). option_map_or (λ o. option_map_or (λ p. due o (map cpu_of all) p p.phase) (slice_get (map cpu_of all) k) None) x None) order
      ∙ ap (λ (x : Option Processor). option_map_or (λ p. due (order_of t go) (map cpu_of all) p p.phase) x None) (at_cpu all k h at) ∙ is;
  moves = ap (λ (x : Option Order). option_map_or (λ o. stepped o (step o.goal e k (system_of t all words))) x (joined t all go words)) order
      ∙ ap (λ (s : System). stepped (order_of t go) (change (own_step t.goal e) k s)) before
      ∙ ap (stepped (order_of t go)) changed;
}
  where
    changed : change (own_step t.goal e) k (system_of t all after) ≡ system_of t (set all k w) after
    changed = ap (λ (x : Option Processor). option_map_or (λ p. record (system_of t all after) { processors = slice_set (map cpu_of all) k (own_step t.goal e p) }) x (system_of t all after)) (at_cpu all k h at)
        ∙ ap (λ (q : Processor). record (system_of t all after) { processors = set (map cpu_of all) k q }) (sym own)
        ∙ ap (λ (ps : List Processor). record (system_of t all after) { processors = ps }) (set_cpus all k h w at)

-- a machine becomes another by this event, which was enabled, or stays as it is
abbrev pub Comes : Machine → Machine → Option MachineEvent → Type 0
Comes m n e = CanFollow m e × (n ≡ after_event m e) × (option_map_or is_led e true ≡ true)

led_after : (b m n : Machine) (e : Option MachineEvent) → Led b m → Comes m n e → Led b n
led_after b m n None l c = subst (Led b) (sym c.1) l
led_after b m n (Some e) l c = subst (Led b) (sym c.1) (led_on e l c.0 c.2)

pub comes_by : (t : Start) (all : List Held) (go : Go) (words after : List ℕ) (k : ℕ) (e : Event) (h w : Held) → Acts t all go words after k e h w
    → Comes (joined t all go words) (joined t (set all k w) go after) (Some (Steps k e))
comes_by t all go words after k e h w a = (a.enabled, sym a.moves, refl)

-- an event that is enabled there has an order
order_there : (t : Start) (s : System) (go : Go) (k : ℕ) (e : Event) → IsEnabled (stepped (order_of t go) s) (Steps k e) → (stepped (order_of t go) s).order ≡ Some (order_of t go)
order_there t s go k e h = one (is_over (order_of t go) s.processors) h
  where
    one : (b : Bool) → option_map_or (λ o. option_map_or (λ p. due o s.processors p p.phase) (slice_get s.processors k) None) (if b then None else Some (order_of t go)) None ≡ Some e
        → (if b then None else Some (order_of t go)) ≡ Some (order_of t go)
    one true h = absurd (cc)
    one false h = refl

pub took_of : (t : Start) (i found new : ℕ) (e : Event) (h w : Held) → PassSteps t (word_step i found new) (Some (Steps h.number e)) h w → Took t h.number e h.cpu w.cpu
took_of t i found new e h w r = record {
  machine = joined t r.all r.go r.words;
  go = r.go;
  led = r.led;
  order = order_there t (system_of t r.all r.words) r.go h.number e r.enabled;
  enabled = r.enabled;
  before = at_cpu r.all h.number h r.at;
  after = ap (λ (m : Machine). slice_get m.system.processors h.number) (sym r.becomes) ∙ at_cpu (set r.all h.number w) h.number w (set_here r.all h.number w (at_less r.all h.number h r.at));
}

-- nothing happens to the machine
unmoved : (t : Start) (all : List Held) (go : Go) (words after : List ℕ) (k : ℕ) (h w : Held) → get_elem? all k ≡ some h → w.cpu ≡ h.cpu
    → drop (first_memory_word t) words ≡ drop (first_memory_word t) after → joined t all go words ≡ joined t (set all k w) go after
unmoved t all go words after k h w at is memory =
    ap (λ (x : List Processor × List ℕ). stepped (order_of t go) (record { processors = x.0; memory = record { windows = t.ram.windows; words = x.1 } }))
    (λ i. (same_cpus all k h w at is i, memory i))

-- the step that is no event
pub comes_still : (t : Start) (all : List Held) (go : Go) (words after : List ℕ) (k : ℕ) (h w : Held) → get_elem? all k ≡ some h → w.cpu ≡ h.cpu
    → drop (first_memory_word t) words ≡ drop (first_memory_word t) after → Comes (joined t all go words) (joined t (set all k w) go after) None
comes_still t all go words after k h w at is memory = (tt, sym (unmoved t all go words after k h w at is memory), refl)

-- a word before those of memory is stored
pub low_word : (t : Start) (all : List Held) (words : List ℕ) (i n : ℕ) → i < first_memory_word t → system_of t all words ≡ system_of t all (set words i n)
low_word t all words i n low = ap (λ (ws : List ℕ). record { processors = map cpu_of all; memory = record { windows = t.ram.windows; words = ws } }) (sym (drop-set-lt (first_memory_word t) words i n low))

-- ---- presence

-- a view changes, and holds the processors that it held at the places that `to` says
pub kept_present : (views : List View) (id : ℕ) (v new : View) → get_elem? views id ≡ some v
    → ((i : ℕ) (h : Held) → get_elem? v.held i ≡ some h → (i' : ℕ) × (h' : Held) × (get_elem? new.held i' ≡ some h') × (h'.number ≡ h.number)) → (k : ℕ) → IsHeld views k → IsHeld (set views id new) k
kept_present views id v new at to k t = dite (ℕ_discrete t.0 id)
    (λ (e : t.0 ≡ id). let same : t.1 ≡ v = some-injective t.1 v (sym t.4 ∙ ap (get_elem? views) e ∙ at) in
    let r = to t.2 t.3 (subst (λ (u : View). get_elem? u.held t.2 ≡ some t.3) same t.5) in
    (id, new, r.0, r.1, set_here views id new (view_less views id v at), r.2, r.3 ∙ t.6))
    (λ (n : t.0 ≢ id). (t.0, t.1, t.2, t.3, set_else views id t.0 new n ∙ t.4, t.5, t.6))

pub moves_present : (views : List View) (id : ℕ) (v new : View) (h w : Held) → get_elem? views id ≡ some v → v.held ≡ h ∷ [] → new.held ≡ w ∷ [] → w.number ≡ h.number → (k : ℕ) → IsHeld views k → IsHeld (set views id new) k
moves_present views id v new h w at is now same k t = kept_present views id v new at (λ i g e. only i g (subst (λ (l : List Held). get_elem? l i ≡ some g) is e)) k t
  where
    only : (i : ℕ) (g : Held) → get_elem? (h ∷ []) i ≡ some g → (i' : ℕ) × (h' : Held) × (get_elem? new.held i' ≡ some h') × (h'.number ≡ g.number)
    only zero g e = (0, w, subst (λ (l : List Held). get_elem? l 0 ≡ some w) (sym now) refl, same ∙ ap (λ (x : Held). x.number) (some-injective h g e))
    only (suc i) g e = absurd (some-ne-none g (sym e))

-- ---- phase words

-- a word that is no phase word changes
pub codes_kept : (all : List Held) (words : List ℕ) (k i n : ℕ) (h w : Held) → ((j : ℕ) (g : Held) → get_elem? all j ≡ some g → get_or words (j + 2) 0 ≡ phase_word_of g) → get_elem? all k ≡ some h → phase_word_of w ≡ phase_word_of h → (i < 2) ⊎ (length all + 2 ≤ i)
    → (j : ℕ) (g : Held) → get_elem? (set all k w) j ≡ some g → get_or (set words i n) (j + 2) 0 ≡ phase_word_of g
codes_kept all words k i n h w codes at same low j g e = get_or-set_other words i (j + 2) n 0 apart ∙ ⊎_elim
    (λ (t : (j ≡ k) × (w ≡ g)). codes j h (ap (get_elem? all) t.0 ∙ at) ∙ sym same ∙ ap phase_word_of t.1)
    (λ (t : (j ≢ k) × (get_elem? all j ≡ some g)). codes j g t.1)
    (at_set all k j w g e)
  where
    below : j < length all
    below = let r = at_less (set all k w) j g e in let s = length-set all k w in omega arith

    apart : j + 2 ≢ i
    apart q = let b = below in ⊎_elim (λ (x : i < 2). omega arith) (λ (x : length all + 2 ≤ i). omega arith) low

-- the phase word of w is stored
pub codes_stored : (all : List Held) (words : List ℕ) (k n : ℕ) (w : Held) → ((j : ℕ) (g : Held) → get_elem? all j ≡ some g → get_or words (j + 2) 0 ≡ phase_word_of g) → n ≡ phase_word_of w → k + 2 < length words
    → (j : ℕ) (g : Held) → get_elem? (set all k w) j ≡ some g → get_or (set words (k + 2) n) (j + 2) 0 ≡ phase_word_of g
codes_stored all words k n w codes is wide j g e = ⊎_elim
    (λ (t : (j ≡ k) × (w ≡ g)). ap (λ (i : ℕ). get_or (set words (k + 2) n) (i + 2) 0) t.0 ∙ get_or-set_same words (k + 2) n 0 wide ∙ is ∙ ap phase_word_of t.1)
    (λ (t : (j ≢ k) × (get_elem? all j ≡ some g)). get_or-set_other words (k + 2) (j + 2) n 0 (λ (q : j + 2 ≡ k + 2). let n = t.0 in absurd (n (omega arith))) ∙ codes j g t.1)
    (at_set all k j w g e)

-- ---- seats, once the processor of one is another

abbrev pub AllSit : Start → List Held → Go → (ℕ → ℕ) → List View → Type 0
AllSit t all go owner views = (j : ℕ) (v : View) → get_elem? views j ≡ some v → Sits t (seating all go owner) j v

pub told_of : (t : Start) (v : View) (h : Held) (hs : List Held) → v.held ≡ h ∷ hs → ((v.held ≡ []) × (v.root ≡ false)) ⊎ (v.start ≡ t) → v.start ≡ t
told_of t v h hs is (inl nothing) = absurd (let e = nothing.0 in cc)
told_of t v h hs is (inr x) = x

module _ (t : Start) (all : List Held) (go : Go) (owner : ℕ → ℕ) (views : List View) (seats : AllSit t all go owner views) (id : ℕ) (v : View) (h w : Held) (at : get_elem? views id ≡ some v) (is : v.held ≡ h ∷ []) (same : w.number ≡ h.number) where
  mine : (get_elem? all h.number ≡ some h) × (owner h.number ≡ id)
  mine = (seats id v at).holds zero h (subst (λ (hs : List Held). get_elem? hs zero ≡ some h) (sym is) refl)

  own : (i : ℕ) (g : Held) → get_elem? (w ∷ []) i ≡ some g → (get_elem? (set all h.number w) g.number ≡ some g) × (owner g.number ≡ id)
  own zero g e = let eq : w ≡ g = some-injective w g e in
      subst (λ (u : Held). (get_elem? (set all h.number w) u.number ≡ some u) × (owner u.number ≡ id)) eq
      (subst (λ (n : ℕ). (get_elem? (set all h.number w) n ≡ some w) × (owner n ≡ id)) (sym same) (set_here all h.number w (at_less all h.number h mine.0), mine.1))
  own (suc i) g e = absurd (some-ne-none g (sym e))

  pub seats_moved : (shown : Option ℕ) → AllSit t (set all h.number w) go owner (set views id (view v.root (w ∷ []) v.go shown v))
  seats_moved shown j u e = ⊎_elim
      (λ (x : (j ≡ id) × (view v.root (w ∷ []) v.go shown v ≡ u)). subst (λ (y : ℕ × View). Sits t (seating (set all h.number w) go owner) y.0 y.1) (λ i. (sym x.0 i, x.1 i))
      (record { root = (seats id v at).root; told = inr (told_of t v h [] is (seats id v at).told); holds = own; apart = ((λ i g none. absurd (some-ne-none g (sym none))), tt) }))
      (λ (x : (j ≢ id) × (get_elem? views j ≡ some u)). let its = seats j u x.1 in record {
        root = its.root;
        told = its.told;
        holds = λ i g e'. let z = its.holds i g e' in (set_else all h.number g.number w (λ eq. x.0 (sym z.1 ∙ ap owner eq ∙ mine.1)) ∙ z.0, z.1);
        apart = its.apart;
      })
      (at_set views id j (view v.root (w ∷ []) v.go shown v) u e)

module _ (key : Key) where
  abbrev St : Type 0
  St = State (Unit {0}) View

  abbrev t : Start
  t = start_of key

  -- a step of the pass that holds h, by which the word i becomes n and it holds w: the rule is kept, and the machine takes this event or none
  pub record Placed (s : St) (m : Meets key s) (id i n : ℕ) (v : View) (h w : Held) (shown : Option ℕ) (e : Option MachineEvent) : Type 0 where
    pub follows : StationFollows key s (record { words = set s.words i n; homes = s.homes; views = set s.views id (view v.root (w ∷ []) v.go shown v) }) m e
    pub steps : PassSteps v.start (word_step i (slice_index s.words i) n) e h w
    pub led : Led (broadcast t) (joined t (set m.all h.number w) m.go (set s.words i n))

  pub placed : (s : St) (m : Meets key s) (id i n : ℕ) (v : View) (h w : Held) (shown : Option ℕ) (e : Option MachineEvent) → get_elem? s.views id ≡ some v → v.held ≡ h ∷ [] → w.number ≡ h.number
      → Comes (joined t m.all m.go s.words) (joined t (set m.all h.number w) m.go (set s.words i n)) e → FitsHeld t m.go w
      → slice_index (set s.words i n) 0 ≡ total added_of (set m.all h.number w) + go_weight m.go → slice_index (set s.words i n) 1 ≡ total again_of (set m.all h.number w)
      → ((j : ℕ) (g : Held) → get_elem? (set m.all h.number w) j ≡ some g → slice_index (set s.words i n) (j + 2) ≡ phase_word_of g)
      → Placed s m id i n v h w shown e
  placed s m id i n v h w shown e at is same comes fits first second codes =
      let seat = m.seats id v at in
      let mine = seat.holds zero h (subst (λ (hs : List Held). get_elem? hs zero ≡ some h) (sym is) refl) in
      let k : ℕ = h.number in
      let there : get_elem? m.all k ≡ some h = mine.0 in
      let told = told_of t v h [] is seat.told in
      let l = led_after (broadcast t) (joined t m.all m.go s.words) (joined t (set m.all k w) m.go (set s.words i n)) e m.led_to comes in
      record {
        led = l;
        steps = subst (λ (y : Start). PassSteps y (word_step i (slice_index s.words i) n) e h w) (sym told)
            (record { all = m.all; go = m.go; words = s.words; led = m.led_to; at = there; first = m.first; second = m.second; word = refl; enabled = comes.0; becomes = comes.1 });
        follows = record {
          enabled = comes.0;
          becomes = comes.1;
          kept = record {
            all = set m.all k w;
            go = m.go;
            owner = m.owner;
            begins = m.begins;
            led_to = l;
            size = length-set m.all k w ∙ m.size;
            some_one = subst (λ (n : ℕ). 0 < n) (sym (length-set m.all k w)) m.some_one;
            few = subst (λ (n : ℕ). n < 65536) (sym (length-set m.all k w)) m.few;
            wide = length-set s.words i n ∙ m.wide;
            first = first;
            second = second;
            codes = codes;
            present = λ j b. moves_present s.views id v (view v.root (w ∷ []) v.go shown v) h w at is refl same j (m.present j (subst (λ (n : ℕ). j < n) (length-set m.all k w) b));
            fits = λ j g e. ⊎_elim
                (λ (x : (j ≡ k) × (w ≡ g)). subst (λ (u : Held). FitsHeld t m.go u × (u.number ≡ j)) x.1 (fits, same ∙ sym x.0))
                (λ (x : (j ≢ k) × (get_elem? m.all j ≡ some g)). m.fits j g x.1)
                (at_set m.all k j w g e);
            seats = seats_moved t m.all m.go m.owner s.views m.seats id v h w at is same shown;
          };
        };
      }
