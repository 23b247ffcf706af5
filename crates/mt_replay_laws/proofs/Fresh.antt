-- In the states of a script nothing that is held is of an earlier era than its processor's.
use Rattle.std.proofs.Common.{◌≡◌, ◌≤◌, ℕ, List, [], ◌∷◌, Bool, true, false, refl, ap}
use Rattle.std.specs.Prelude.{count_by, nat_lt, not}
use Rattle.std.specs.List.{All, list_all}
use Rattle.std.proofs.lemmas.Bool.{and_parts, le-ltb}
use Rattle.std.proofs.lemmas.List.Sums.{list_all-from_AllPass}
use Rattle.mt_cache.specs.declared.line.CacheLine.{CacheLine}
use Rattle.mt_tlb.specs.declared.entry.Entry.{Entry}
use Rattle.mt_machine.specs.System.{Processor}
use Rattle.mt_laws.specs.Settled.{IsFresh}
use Rattle.mt_replay.specs.Texts.{stale_count}
use Rattle.mt_replay_laws.specs.Through.{NothingIsStale}
use Rattle.mt_replay.proofs.Keeping.Moving.{no_older_now}

none_counted : {X : Type 0} → (test : X → Bool) (xs : List X) → list_all (λ x. not (test x)) xs ≡ true → count_by test xs ≡ 0
none_counted test [] none = refl
none_counted test (x ∷ xs) none =
    let parts = and_parts (not (test x)) (list_all (λ y. not (test y)) xs) none in
    by (test x) refl parts.0 (none_counted test xs parts.1)
  where
    by : (b : Bool) → test x ≡ b → not (test x) ≡ true → count_by test xs ≡ 0 → count_by test (x ∷ xs) ≡ 0
    by true hit miss later = absurd (let e : not true ≡ true = rw hit at miss in cc)
    by false miss other later = rw miss later

lines_counted : (own : ℕ) (ls : List CacheLine) → All (λ l. own ≤ l.era) ls → count_by (λ l. nat_lt l.era own) ls ≡ 0
lines_counted own ls fresh =
    none_counted (λ (l : CacheLine). nat_lt l.era own) ls
    (list_all-from_AllPass (λ (l : CacheLine). not (nat_lt l.era own)) ls (λ k d within. ap not (le-ltb _ own (fresh k d within))))

entries_counted : (own : ℕ) (es : List Entry) → All (λ e. own ≤ e.era) es → count_by (λ e. nat_lt e.era own) es ≡ 0
entries_counted own es fresh =
    none_counted (λ (e : Entry). nat_lt e.era own) es
    (list_all-from_AllPass (λ (e : Entry). not (nat_lt e.era own)) es (λ k d within. ap not (le-ltb _ own (fresh k d within))))

none_stale : (p : Processor) → IsFresh p → stale_count p ≡ 0
none_stale p f = rw (lines_counted p.era p.lines f.lines, lines_counted p.era p.buffers f.buffers, entries_counted p.era p.entries f.entries) refl

pub nothing_stale : NothingIsStale
nothing_stale s is k d within = none_stale _ (no_older_now s.machine is.came k d within)
