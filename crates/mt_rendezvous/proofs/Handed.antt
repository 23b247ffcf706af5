-- The words that are handed back to memory, and where the machine ends.
use Rattle.std.proofs.Common.{◌++◌, ◌≡◌, ◌<◌, ◌≤◌, ◌+◌, ℕ, zero, suc, true, List, [], ◌∷◌, map, length, drop, take, take_all, set, length-drop, sym, refl, ap, ◌∙◌, arith}
use Rattle.std.proofs.Common.{Bool, false, not, ◌&&◌, ◌||◌, Some, None, ⊎_elim, subst}
use Rattle.std.specs.Prelude.{if◌then◌else◌, slice_get}
use Rattle.std.specs.List.{All, list_all, list_any}
use Rattle.std.proofs.lemmas.Bool.{lt-ltb}
use Rattle.mt_machine.specs.declared.phase.Phase.{Phase}
use Rattle.mt_machine.specs.declared.phase.Phase.TheVariants.{Running}
use Rattle.mt_machine.specs.declared.go.Go.TheVariants.{Pending, Given, Cancelled}
use Rattle.mt_machine.specs.System.{Processor}
use Rattle.mt_machine.specs.Machine.{Machine, common_era, has_released, is_cancelled, is_over, is_waiting_to_pass}
use Rattle.mt_machine.specs.Update.{settled_processor, updated}
use Rattle.mt_laws.specs.Updates.{all_running}
use Rattle.mt_laws.proofs.Barrier.Claims.{all_get}
use Rattle.mt_laws.proofs.Updates.Broadcast.{led_ends}
use Rattle.mt_rendezvous.specs.declared.view.Start.{Start}
use Rattle.mt_rendezvous.specs.Station.{FitsPhase, broadcast, rise, weight, in_second}
use Rattle.mt_rendezvous.specs.Laws.{machine_of}
use Rattle.mt_rendezvous.proofs.Keeps.{all_true}
use Rattle.mt_rendezvous.proofs.Unique.{first_of}
use mathlib.Core.Option.{some, some-injective, some-ne-none}
use lib.ListN.{get_elem?}
use Rattle.atomic_table.specs.Table.{State}
use Rattle.mt_machine.specs.declared.go.Go.{Go}
use Rattle.mt_machine.specs.Memory.{Memory, word_count}
use Rattle.mt_machine.specs.Machine.{remaining_order}
use Rattle.mt_rendezvous.specs.declared.view.Held.{Held}
use Rattle.mt_rendezvous.specs.declared.view.View.{View}
use Rattle.mt_rendezvous.specs.declared.view.Key.{Key}
use Rattle.mt_rendezvous.specs.Station.{Meets, cpu_of, first_memory_word, joined, order_of, start_of}
use Rattle.mt_rendezvous.specs.Calls.{Ends}
use Rattle.mt_rendezvous.specs.declared.view.Added.TheVariants.{Once, Twice}
use Rattle.mt_rendezvous.proofs.Keeps.{at_cpu}

consed : (x y : ℕ) (xs ys : List ℕ) → x ∷ xs ≡ y ∷ ys → (x ≡ y) × (xs ≡ ys)
consed x y xs ys e = (cc, cc)

taken_on : (l m : List ℕ) (i v : ℕ) → i < length l → take i l ≡ take i m → get_elem? m i ≡ some v → take (suc i) (set l i v) ≡ take (suc i) m
taken_on [] m i v b e at = absurd (omega arith)
taken_on (x ∷ xs) [] i v b e at = absurd (some-ne-none v (sym at))
taken_on (x ∷ xs) (y ∷ ys) zero v b e at = let h : y ≡ v = some-injective y v at in λ k. sym h k ∷ []
taken_on (x ∷ xs) (y ∷ ys) (suc i) v b e at = let r = consed x y (take i xs) (take i ys) e in let s = taken_on xs ys i v (omega arith) r.1 at in λ k. r.0 k ∷ s k

-- one word more is as the others
pub taken_more : (l m : List ℕ) (i v : ℕ) → i < length l → take i l ≡ take i m → get_elem? m i ≡ some v → take (i + 1) (set l i v) ≡ take (i + 1) m
taken_more l m i v b e at = let n : i + 1 ≡ suc i = omega arith in ap (λ (k : ℕ). take k (set l i v)) n ∙ taken_on l m i v b e at ∙ ap (λ (k : ℕ). take k m) (sym n)

pub drop_elem : (w : List ℕ) (n i : ℕ) → get_elem? (drop n w) i ≡ get_elem? w (n + i)
drop_elem w zero i = let e : i ≡ 0 + i = omega arith in ap (get_elem? w) e
drop_elem [] (suc n) i = refl
drop_elem (x ∷ xs) (suc n) i = let e : suc (n + i) ≡ suc n + i = omega arith in drop_elem xs n i ∙ ap (get_elem? (x ∷ xs)) e

pub same_words : (l m : List ℕ) (n : ℕ) → length l ≤ n → length m ≤ n → take n l ≡ take n m → l ≡ m
same_words l m n a b e = sym (take_all n l a) ∙ e ∙ take_all n m b

taken_front : (ws more : List ℕ) → take (length ws) (ws ++ more) ≡ ws
taken_front [] more = refl
taken_front (w ∷ ws) more = ap (λ (l : List ℕ). w ∷ l) (taken_front ws more)

-- as many words, written over others, are all of them
pub written_over : (ws old : List ℕ) → length ws ≡ length old → ws ≡ take (length old) (ws ++ drop (length ws) old)
written_over ws old same = sym (taken_front ws (drop (length ws) old)) ∙ ap (λ (n : ℕ). take n (ws ++ drop (length ws) old)) same

mapped_length : (l : List Held) → length (map cpu_of l) ≡ length l
mapped_length [] = refl
mapped_length (x ∷ xs) = ap suc (mapped_length xs)

module _ (key : Key) (s : State (Unit {0}) View) (m : Meets key s) (running : All (λ p. p.phase ≡ Running) (map cpu_of m.all)) where
  abbrev t : Start
  t = start_of key

  runs : (k : ℕ) (h : Held) → get_elem? m.all k ≡ some h → h.cpu.phase ≡ Running
  runs k h e = all_get (λ p. p.phase ≡ Running) (map cpu_of m.all) running k h.cpu (at_cpu m.all k h e)

  fits_there : (k : ℕ) (h : Held) (go : Go) → m.go ≡ go → get_elem? m.all k ≡ some h → FitsPhase go h.added Running × (h.cpu.era ≡ common_era t.cpus + weight (in_second h.added))
  fits_there k h go is e =
      let f = (m.fits k h e).0 in
      (subst (λ (x : Go × Phase). FitsPhase x.0 h.added x.1) (λ i. (is i, runs k h e i)) f.fits, f.era ∙ ap (λ (ph : Phase). common_era t.cpus + rise (in_second h.added) ph) (runs k h e))

  first : (h : Held) × (get_elem? m.all 0 ≡ some h)
  first = first_of m.all m.some_one

  has_at : (f : Processor → Processor) (ps : List Processor) (q : Processor) → slice_get (map f ps) 0 ≡ Some q → (p : Processor) × (slice_get ps 0 ≡ Some p) × (q ≡ f p)
  has_at f [] q at = absurd (cc)
  has_at f (p ∷ ps) q at = (p, refl, (let e : f p ≡ q = cc in sym e))

  -- the era of the first processor where the machine has been made by f from the start
  era_by : (f : Processor → Processor) (x : Machine) → machine_of key s m ≡ x → x.system.processors ≡ map f t.cpus → (p : Processor) × (p.era ≡ common_era t.cpus) × (first.0.cpu ≡ f p)
  era_by f x is by =
      let at : slice_get (map f t.cpus) 0 ≡ Some first.0.cpu = sym (ap (λ (ps : List Processor). slice_get ps 0) (ap (λ (y : Machine). y.system.processors) is ∙ by)) ∙ at_cpu m.all 0 first.0 first.1 in
      let h = has_at f t.cpus first.0.cpu at in
      (h.0, all_get (λ (r : Processor). r.era ≡ common_era t.cpus) t.cpus m.begins.broadcasts.one_era 0 h.0 h.1, h.2)

  none_by : (b : Bool) → is_over (order_of t m.go) (map cpu_of m.all) ≡ b → b ≡ true → (machine_of key s m).order ≡ None
  none_by b is on = ap (λ (x : Bool). if x then None else Some (order_of t m.go)) (is ∙ on)

  twice : (h : Held) → FitsPhase Given h.added Running → in_second h.added ≡ true
  twice h f = ⊎_elim (λ (x : (h.added ≡ Once) × (Given ≡ Cancelled)). absurd (let e = x.1 in cc)) (λ (x : (h.added ≡ Twice) × (Given ≡ Given)). ap in_second x.0) f

  once : (h : Held) → FitsPhase Cancelled h.added Running → in_second h.added ≡ false
  once h f = ⊎_elim (λ (x : (h.added ≡ Once) × (Cancelled ≡ Cancelled)). ap in_second x.0) (λ (x : (h.added ≡ Twice) × (Cancelled ≡ Given)). absurd (let e = x.1 in cc)) f

  pub was_given : m.go ≡ Given → machine_of key s m ≡ updated (broadcast t).system [] t.goal
  was_given is =
      let released = all_true (has_released (order_of t m.go)) m.all (λ k h e.
      let f = fits_there k h Given is e in
      let era = f.1 in
      let one : weight (in_second h.added) ≡ 1 = ap weight (twice h f.0) in
      lt-ltb (common_era t.cpus) h.cpu.era (omega arith)) in
      let over : is_over (order_of t m.go) (map cpu_of m.all) ≡ true = ap (λ (b : Bool). b || (is_cancelled m.go && not (list_any (λ p. is_waiting_to_pass p.phase) (map cpu_of m.all)))) released in
      ⊎_elim (λ e. e)
      (λ (e : machine_of key s m ≡ record { system = all_running (broadcast t).system; order = None }).
      let p = era_by (λ (r : Processor). record r { phase = Running }) _ e refl in
      let f = fits_there 0 first.0 Given is first.1 in
      let era = f.1 in
      let one : weight (in_second first.0.added) ≡ 1 = ap weight (twice first.0 f.0) in
      let same : first.0.cpu.era ≡ p.0.era = ap (λ (r : Processor). r.era) p.2 in
      let was = p.1 in
      absurd (omega arith))
      (led_ends (broadcast t) (machine_of key s m) (order_of t Pending) m.begins.broadcasts m.led_to (none_by _ refl over))

  none_waits : (l : List Held) → ((k : ℕ) (h : Held) → get_elem? l k ≡ some h → h.cpu.phase ≡ Running) → list_any (λ p. is_waiting_to_pass p.phase) (map cpu_of l) ≡ false
  none_waits [] each = refl
  none_waits (x ∷ xs) each = ap (λ (ph : Phase). is_waiting_to_pass ph || list_any (λ p. is_waiting_to_pass p.phase) (map cpu_of xs)) (each 0 x refl) ∙ none_waits xs (λ k h e. each (suc k) h e)

  or_on : (a b : Bool) → b ≡ true → (a || b) ≡ true
  or_on true b on = refl
  or_on false b on = on

  pub was_cancelled : m.go ≡ Cancelled → machine_of key s m ≡ record { system = all_running (broadcast t).system; order = None }
  was_cancelled is =
      let stopped : (is_cancelled m.go && not (list_any (λ p. is_waiting_to_pass p.phase) (map cpu_of m.all))) ≡ true = (λ i. is_cancelled (is i) && not (none_waits m.all runs i)) in
      let over : is_over (order_of t m.go) (map cpu_of m.all) ≡ true = or_on (list_all (has_released (order_of t m.go)) (map cpu_of m.all)) _ stopped in
      ⊎_elim
      (λ (e : machine_of key s m ≡ updated (broadcast t).system [] t.goal).
      let p = era_by (settled_processor t.goal) _ e refl in
      let f = fits_there 0 first.0 Cancelled is first.1 in
      let era = f.1 in
      let zero_more : weight (in_second first.0.added) ≡ 0 = ap weight (once first.0 f.0) in
      let same : first.0.cpu.era ≡ p.0.era + 1 = ap (λ (r : Processor). r.era) p.2 in
      let was = p.1 in
      absurd (omega arith))
      (λ e. e)
      (led_ends (broadcast t) (machine_of key s m) (order_of t Pending) m.begins.broadcasts m.led_to (none_by _ refl over))

pub ends : (key : Key) (s : State (Unit {0}) View) (m : Meets key s) (id : ℕ) (v : View) → get_elem? s.views id ≡ some v → v.root ≡ true → (ram : Memory) → ram.windows ≡ key.ram.value.windows
    → drop (first_memory_word (start_of key)) s.words ≡ ram.words → Ends (start_of key) v ram
ends key s m id v at root ram windows words =
    let seat = m.seats id v at in
    record {
      machine = joined (start_of key) m.all m.go s.words;
      led = m.led_to;
      memory = λ i. record { windows = sym windows i; words = words i };
      order = ap (λ (g : Go). remaining_order (order_of (start_of key) g) (map cpu_of m.all)) (sym (seat.root root).1);
      size = mapped_length m.all ∙ m.size;
      has = λ i h e. at_cpu m.all h.number h (seat.holds i h e).0;
      given = λ is running. was_given key s m running (sym (seat.root root).1 ∙ is);
      cancelled = λ is running. was_cancelled key s m running (sym (seat.root root).1 ∙ is);
    }

-- how many words of memory the table has
pub words_back : (key : Key) (s : State (Unit {0}) View) → Meets key s → (ram : Memory) → ram.windows ≡ key.ram.value.windows → length ram.words ≡ word_count ram.windows → length (drop (first_memory_word (start_of key)) s.words) ≡ length ram.words
words_back key s m ram windows counted =
    let wide = m.wide in
    let c = m.begins.broadcasts.sound.memory.counted in
    let w : word_count ram.windows ≡ word_count key.ram.value.windows = ap word_count windows in
    let d = length-drop {A = ℕ} (first_memory_word (start_of key)) s.words in
    omega arith
