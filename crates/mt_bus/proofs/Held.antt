-- What keeps that each line of each cache is one that it may have.
use Rattle.std.proofs.Common.{◌≡◌, ◌∙◌, ◌⊎◌, ap, sym, refl, subst, arith, inl, inr, ℕ, zero, suc, ◌+◌, ◌<◌, ◌≤◌, ◌%◌, ◌==◌, ◌&&◌}
use Rattle.std.proofs.Common.{Bool, true, false, not, if◌then◌else◌, List, [], ◌∷◌, ◌++◌, length, Option, None, Some, slice_get, count_by, cond, ⊎_elim, map, take}
use Rattle.std.specs.Prelude.{◌≢◌, slice_index_or, slice_set}
use Rattle.std.specs.Option.{option_map, option_map_or}
use Rattle.std.proofs.lemmas.Bool.{eq-eqb, eqb-true, not-false}
use Rattle.std.proofs.lemmas.Option.{slice_get_within}
use Rattle.std.proofs.lemmas.List.Sums.{sum_by-cons}
use Rattle.mt_cache.specs.declared.line.CacheLine.{CacheLine}
use Rattle.mt_cache.specs.Calls.{clean_line_of, with_room}
use Rattle.mt_cache.specs.Counts.{has_residue}
use Rattle.mt_cache.specs.Lines.{change_line, clean_line, find_line, oldest_of_full, without_line}
use Rattle.mt_regs.specs.RegisterFile.{RegisterFile}
use Rattle.mt_machine.specs.System.{Processor, start_processor}
use Rattle.mt_machine.specs.ComingAndGoing.{newcomer_beside}
use Rattle.mt_machine.specs.Bus.{with_lines}
use Rattle.mt_laws.proofs.Barrier.Ranks.{and_left, and_right}
use Rattle.mt_laws.proofs.Clearing.Renewed.{at_change}
use Rattle.mt_laws.proofs.Words.LineLists.{KeepsNumber, find_miss, passes_append, passes_changed, passes_without}
use Rattle.mt_laws.specs.Parts.{lines_in, with_changed, without_memory}
use Rattle.mt_bus.specs.Holders.{AreHeldBy, Covers, CoversBut, CoversOthers, IsNowhereElse, all_may, may_hold}
use Rattle.mt_bus.proofs.Changed.{lent_at}
use Rattle.mt_bus.proofs.Newcomers.{get_front}
use Rattle.mt_bus.proofs.Tables.{pushed_at}
use Rattle.mt_bus.proofs.Masks.{full_may}

-- ---- the lines of one cache

-- no line is new
abbrev IsLess : List CacheLine → List CacheLine → Type 0
IsLess ls old = (masks : List ℕ) (k : ℕ) → all_may masks k old ≡ true → all_may masks k ls ≡ true

less_without : (n : ℕ) (ls : List CacheLine) → IsLess (without_line n ls) ls
less_without n ls = λ masks k h. passes_without (λ l. may_hold masks k l.number) n ls h

pub less_changed : (n : ℕ) (f : CacheLine → CacheLine) → KeepsNumber f → (ls : List CacheLine) → IsLess (change_line n f ls) ls
less_changed n f keeps ls = λ masks k h. passes_changed (λ l. may_hold masks k l.number) n f (λ l g. ap (may_hold masks k) (keeps l) ∙ g) ls h

and_true : (a b : Bool) → a ≡ true → b ≡ true → (a && b) ≡ true
and_true true b h g = g
and_true false b h g = absurd (cc)

no : (b : Bool) → b ≡ true → b ≡ false → ⊥
no true h g = cc
no false h g = cc

all_more : (masks others : List ℕ) (k : ℕ) → ((n : ℕ) → may_hold others k n ≡ true → may_hold masks k n ≡ true) → (ls : List CacheLine) → all_may others k ls ≡ true → all_may masks k ls ≡ true
all_more masks others k more [] h = refl
all_more masks others k more (l ∷ ls) h =
    and_true _ _ (more l.number (and_left _ _ h)) (all_more masks others k more ls (and_right (may_hold others k l.number) _ h))

none_counted : (l : CacheLine) (ls : List CacheLine) (r : ℕ) → count_by (has_residue r) (l ∷ ls) ≡ 0 → (l.number % 4096 ≡ r → ⊥) × (count_by (has_residue r) ls ≡ 0)
none_counted l ls r none = one (l.number % 4096 == r) refl (sym (sum_by-cons (λ (x : CacheLine). cond (has_residue r x) 1 0) l ls) ∙ none)
  where
    one : (b : Bool) → (l.number % 4096 == r) ≡ b → cond b 1 0 + count_by (has_residue r) ls ≡ 0 → (l.number % 4096 ≡ r → ⊥) × (count_by (has_residue r) ls ≡ 0)
    one true is e = absurd (omega (arith, e))
    one false is e = (λ same. no (l.number % 4096 == r) (eq-eqb _ _ same) is, omega (arith, e))

all_but : (masks others : List ℕ) (k n j : ℕ) → CoversBut k n masks others → (ls : List CacheLine) → (j ≡ k
    → count_by (has_residue (n % 4096)) ls ≡ 0) → all_may others j ls ≡ true → all_may masks j ls ≡ true
all_but masks others k n j but [] none h = refl
all_but masks others k n j but (l ∷ ls) none h =
    and_true _ _
    (but.each j l.number (λ e same. (none_counted l ls (n % 4096) (none e)).0 same) (and_left _ _ h))
    (all_but masks others k n j but ls (λ e. (none_counted l ls (n % 4096) (none e)).1) (and_right (may_hold others j l.number) _ h))

pub absent : (masks : List ℕ) (k n : ℕ) (ls : List CacheLine) → all_may masks k ls ≡ true → may_hold masks k n ≡ false → find_line n ls ≡ None
absent masks k n [] h not = refl
absent masks k n (l ∷ ls) h not = one (l.number == n) refl (absent masks k n ls (and_right (may_hold masks k l.number) _ h) not)
  where
    one : (b : Bool) → (l.number == n) ≡ b → find_line n ls ≡ None → find_line n (l ∷ ls) ≡ None
    one true is rest = absurd (no (may_hold masks k n) (ap (may_hold masks k) (sym (eqb-true l.number n is)) ∙ and_left _ _ h) not)
    one false is rest = find_miss n l ls is ∙ rest

-- ---- other masks

held_more : (ps : List Processor) (masks others : List ℕ) → Covers masks others → AreHeldBy ps others → AreHeldBy ps masks
held_more ps masks others covers h = record { each = λ k p at. all_more masks others k (covers.each k) p.lines (h.each k p at) }

pub held_but : (ps : List Processor) (masks others : List ℕ) (k n : ℕ) → CoversBut k n masks others → count_by (has_residue (n % 4096)) (lines_in k ps) ≡ 0 → AreHeldBy ps others → AreHeldBy ps masks
held_but ps masks others k n but none h = record {
  each = λ j p at.
      all_but masks others k n j but p.lines
      (λ e. ap (λ (o : Option Processor). count_by (has_residue (n % 4096)) (option_map_or (λ x. x.lines) o [])) (sym (ap (slice_get ps) (sym e) ∙ at)) ∙ none)
      (h.each j p at);
}

-- masks with all bits, or none
all_open : (masks : List ℕ) (k : ℕ) → ((n : ℕ) → may_hold masks k n ≡ true) → (ls : List CacheLine) → all_may masks k ls ≡ true
all_open masks k may [] = refl
all_open masks k may (l ∷ ls) = and_true _ _ (may l.number) (all_open masks k may ls)

pub held_open : (ps : List Processor) (masks : List ℕ) → ((r : ℕ) → slice_index_or masks r 0xffff ≡ 0xffff) → AreHeldBy ps masks
held_open ps masks full = record { each = λ k p at. all_open masks k (full_may masks full k) p.lines }

-- ---- another processor in a place

put_at : (ps : List Processor) (i j : ℕ) (p q r : Processor) → slice_get ps i ≡ Some p → slice_get (slice_set ps i q) j ≡ Some r → ((j ≡ i) × (q ≡ r)) ⊎ (slice_get ps j ≡ Some r)
put_at [] i j p q r at h = absurd (cc)
put_at (x ∷ ps) zero zero p q r at h = inl (refl, cc)
put_at (x ∷ ps) zero (suc j) p q r at h = inr h
put_at (x ∷ ps) (suc i) zero p q r at h = inr h
put_at (x ∷ ps) (suc i) (suc j) p q r at h =
    ⊎_elim (λ (e : (j ≡ i) × (q ≡ r)). inl (ap suc e.0, e.1)) (λ (e : slice_get ps j ≡ Some r). inr e) (put_at ps i j p q r at h)

pub held_put : (ps : List Processor) (masks : List ℕ) (i : ℕ) (p q : Processor) → slice_get ps i ≡ Some p → (all_may masks i p.lines ≡ true
    → all_may masks i q.lines ≡ true) → AreHeldBy ps masks → AreHeldBy (slice_set ps i q) masks
held_put ps masks i p q at keeps h = record {
  each = λ j r there.
      ⊎_elim
      (λ (e : (j ≡ i) × (q ≡ r)). subst (λ (x : Processor). all_may masks j x.lines ≡ true) e.1 (subst (λ x. all_may masks x q.lines ≡ true) (sym e.0) (keeps (h.each i p at))))
      (λ (e : slice_get ps j ≡ Some r). h.each j r e)
      (put_at ps i j p q r at there);
}

pub held_changed : (f : Processor → Processor) (k : ℕ) (ps : List Processor) (masks : List ℕ) → ((p : Processor) → all_may masks k p.lines ≡ true
    → all_may masks k (f p).lines ≡ true) → AreHeldBy ps masks → AreHeldBy (with_changed f k ps) masks
held_changed f k ps masks keeps h = one (slice_get ps k) refl
  where
    one : (o : Option Processor) → slice_get ps k ≡ o → AreHeldBy (option_map_or (λ p. record (without_memory ps) { processors = slice_set ps k (f p) }) o (without_memory ps)).processors masks
    one None is = h
    one (Some p) is = held_put ps masks k p (f p) is (keeps p) h

-- a processor that drops its lines needs no bit
pub held_emptied : (f : Processor → Processor) (k : ℕ) (ps : List Processor) (masks others : List ℕ) → ((p : Processor) → (f p).lines ≡ [])
    → CoversOthers k masks others → AreHeldBy ps others → AreHeldBy (with_changed f k ps) masks
held_emptied f k ps masks others empty covers h = record {
  each = λ j q at.
      ⊎_elim
      (λ (here : (j ≡ k) × (x : Processor) × (slice_get ps k ≡ Some x) × (f x ≡ q)). ap (all_may masks j) (ap (λ (p : Processor). p.lines) (sym here.3) ∙ empty here.1))
      (λ (there : (j ≢ k) × (slice_get ps j ≡ Some q)). all_more masks others j (λ n. covers.each j n there.0) q.lines (h.each j q there.1))
      (at_change f k (without_memory ps) j q at);
}

-- ---- one processor of a pass over all

-- its lines hold after as before
abbrev Keeps : Processor → Processor → Type 0
Keeps p q = (masks : List ℕ) (k : ℕ) → all_may masks k p.lines ≡ true → all_may masks k q.lines ≡ true

pub keeps_cleaned : (n : ℕ) (p q : Processor) → q ≡ with_lines (change_line n clean_line) p → Keeps p q
keeps_cleaned n p q is masks k h = ap (λ (x : Processor). all_may masks k x.lines) is ∙ less_changed n clean_line (λ l. refl) p.lines masks k h

pub keeps_dropped : (n : ℕ) (p q : Processor) → q ≡ with_lines (without_line n) p → Keeps p q
keeps_dropped n p q is masks k h = ap (λ (x : Processor). all_may masks k x.lines) is ∙ less_without n p.lines masks k h

pub keeps_cleaned_or_dropped : (n : ℕ) (own : Bool) (p q : Processor)
    → q ≡ (if own then with_lines (change_line n clean_line) p else with_lines (without_line n) (with_lines (change_line n clean_line) p)) → Keeps p q
keeps_cleaned_or_dropped n true p q is masks k h = keeps_cleaned n p q is masks k h
keeps_cleaned_or_dropped n false p q is masks k h =
    keeps_dropped n (with_lines (change_line n clean_line) p) q is masks k (keeps_cleaned n p (with_lines (change_line n clean_line) p) refl masks k h)

pub keeps_same_or_dropped : (n : ℕ) (own : Bool) (p q : Processor) → q ≡ (if own then p else with_lines (without_line n) p) → Keeps p q
keeps_same_or_dropped n true p q is masks k h = ap (λ (x : Processor). all_may masks k x.lines) is ∙ h
keeps_same_or_dropped n false p q is masks k h = keeps_dropped n p q is masks k h

pub held_lent : (ps : List Processor) (masks : List ℕ) (i : ℕ) (p q : Processor) → i < length ps → p ≡ slice_index_or ps i p → Keeps p q
    → AreHeldBy ps masks → AreHeldBy (slice_set ps i q) masks
held_lent ps masks i p q within lent keeps h = held_put ps masks i p q (lent_at ps i p within lent) (keeps masks i) h

-- ---- what one look tells

pub none_there : (ps : List Processor) (k n : ℕ) (p : Processor) (ls : List CacheLine) (may : Bool) → k < length ps → p ≡ slice_index_or ps k p → ls ≡ p.lines
    → may ≡ not (count_by (has_residue (n % 4096)) ls == 0) → may ≡ false
    → count_by (has_residue (n % 4096)) (lines_in k ps) ≡ 0
none_there ps k n p ls may within lent own is none =
    ap (λ (o : Option Processor). count_by (has_residue (n % 4096)) (option_map_or (λ x. x.lines) o [])) (lent_at ps k p within lent)
    ∙ ap (count_by (has_residue (n % 4096))) (sym own)
    ∙ eqb-true _ _ (not-false _ (sym is ∙ none))

pub nowhere_else : (ps : List Processor) (masks : List ℕ) (k n : ℕ) → AreHeldBy ps masks → length ps ≤ 16 → ((j : ℕ) → j < 16 → (j ≡ k → ⊥) → may_hold masks j n ≡ false) → IsNowhereElse k n ps
nowhere_else ps masks k n h few none = record { each = λ j other. one j other (slice_get ps j) refl }
  where
    one : (j : ℕ) → (j ≡ k → ⊥) → (o : Option Processor) → slice_get ps j ≡ o → find_line n (option_map_or (λ p. p.lines) o []) ≡ None
    one j other None is = refl
    one j other (Some p) is = absent masks j n p.lines (h.each j p is) (none j (omega (arith, slice_get_within ps j p is, few)) other)

-- ---- a line is filled

less_room : (ls : List CacheLine) → IsLess (with_room 64 ls) ls
less_room ls masks k h = one (oldest_of_full 64 ls)
  where
    one : (o : Option CacheLine) → all_may masks k (option_map_or (λ (l : CacheLine). without_line l.number ls) o ls) ≡ true
    one None = h
    one (Some l) = less_without l.number ls masks k h

pub held_filled : (k n era : ℕ) (words : List ℕ) (ps : List Processor) (p q : Processor) (masks others : List ℕ) → may_hold masks k n ≡ true → Covers masks others
    → k < length ps → p ≡ slice_index_or ps k p → q.lines ≡ with_room 64 p.lines ++ clean_line_of n words era ∷ [] → AreHeldBy ps others → AreHeldBy (slice_set ps k q) masks
held_filled k n era words ps p q masks others added covers within lent is h =
    held_put ps masks k p q (lent_at ps k p within lent)
    (λ g. ap (all_may masks k) is ∙ passes_append (λ l. may_hold masks k l.number) (with_room 64 p.lines) (clean_line_of n words era) (less_room p.lines masks k g) added)
    (held_more ps masks others covers h)

-- ---- processors that come and go

pub held_pushed : (ps qs : List Processor) (q : Processor) (masks : List ℕ) (b : Bool) → qs ≡ (if b then ps ++ q ∷ [] else ps) → q.lines ≡ [] → AreHeldBy ps masks → AreHeldBy qs masks
held_pushed ps qs q masks false is empty h = subst (λ (xs : List Processor). AreHeldBy xs masks) (sym is) h
held_pushed ps qs q masks true is empty h =
    subst (λ (xs : List Processor). AreHeldBy xs masks) (sym is)
    (record {
      each = λ k p at.
          ⊎_elim (λ (old : slice_get ps k ≡ Some p). h.each k p old)
          (λ (last : (k ≡ length ps) × (q ≡ p)). ap (all_may masks k) (ap (λ (x : Processor). x.lines) (sym last.1) ∙ empty)) (pushed_at ps q p k at);
    })

pub newcomer_lines : (ps : List Processor) (q : Processor) → option_map newcomer_beside (slice_get ps 0) ≡ Some q → q.lines ≡ []
newcomer_lines ps q is = one (slice_get ps 0) is
  where
    one : (o : Option Processor) → option_map newcomer_beside o ≡ Some q → q.lines ≡ []
    one None e = absurd (cc)
    one (Some p) e = let same : newcomer_beside p ≡ q = cc in ap (λ (x : Processor). x.lines) (sym same)

pub held_front : (ps : List Processor) (n : ℕ) (masks : List ℕ) → AreHeldBy ps masks → AreHeldBy (take n ps) masks
held_front ps n masks h = record { each = λ k p at. h.each k p (get_front ps n k p at) }

starting : (files : List RegisterFile) (k : ℕ) (p : Processor) → slice_get (map start_processor files) k ≡ Some p → p.lines ≡ []
starting [] k p at = absurd (cc)
starting (f ∷ files) zero p at = let e : start_processor f ≡ p = cc in ap (λ (x : Processor). x.lines) (sym e)
starting (f ∷ files) (suc k) p at = starting files k p at

pub held_start : (files : List RegisterFile) (ps : List Processor) (masks : List ℕ) → ps ≡ map start_processor files → AreHeldBy ps masks
held_start files ps masks is = subst (λ (xs : List Processor). AreHeldBy xs masks) (sym is) (record { each = λ k p at. ap (all_may masks k) (starting files k p at) })
