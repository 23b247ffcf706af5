-- How far each processor has come in an update, as a number, and what the two barriers keep of these numbers.
use Rattle.std.proofs.Common.{◌≡◌, ◌⊎◌, ℕ, zero, suc, ◌+◌, ◌≤◌, List, [], ◌∷◌, set, Some, Bool, true, false, refl, sym, ap, subst, ◌∙◌, arith, inl, inr, ⊎_elim, lit≤}
use Rattle.std.specs.Prelude.{slice_get, nat_lt, ◌&&◌, ◌||◌}
use Rattle.std.specs.List.{list_all}
use Rattle.mt_machine.specs.declared.phase.Phase.{Phase}
use Rattle.mt_machine.specs.declared.phase.Phase.TheVariants.{Running, Taken, Arrived, Arrived2}
use Rattle.mt_machine.specs.declared.go.Go.{Go}
use Rattle.mt_machine.specs.declared.go.Go.TheVariants.{Pending, Given, Cancelled}
use Rattle.mt_machine.specs.System.{Processor}
use Rattle.mt_machine.specs.Machine.{Order, is_given, is_cancelled, is_changing, is_arrived, is_arrived_again, has_arrived, has_arrived_again, first_barrier_open, second_barrier_open}
use Rattle.mt_machine.specs.Access.{is_running}
use Rattle.mt_laws.proofs.Barrier.Stages.{Stage, stage_of, stages_of}

-- 0 runs, 1 taken, 2 arrived, 3 past the first barrier, 4 arrived again, 5 released
abbrev pub rank_of : Phase → Bool → ℕ
rank_of Running true = 5
rank_of Running false = 0
rank_of Taken released = 1
rank_of Arrived released = 2
rank_of Arrived2 released = 4
rank_of other released = 3

abbrev pub is_ahead : Order → Stage → Bool
is_ahead o x = nat_lt o.from_era x.1

abbrev pub rank : Order → Stage → ℕ
rank o x = rank_of x.0 (is_ahead o x)

abbrev pub At : List Stage → ℕ → Stage → Type 0
At vs i x = slice_get vs i ≡ Some x

pub record Guarded (o : Order) (vs : List Stage) : Type 0 where
  pub first : (i j : ℕ) (x y : Stage) → At vs i x → At vs j y → 3 ≤ rank o x → 2 ≤ rank o y
  pub second : (i j : ℕ) (x y : Stage) → At vs i x → At vs j y → 5 ≤ rank o x → 4 ≤ rank o y
  pub given : (i : ℕ) (x : Stage) → At vs i x → 3 ≤ rank o x → is_given o.go ≡ true
  pub in_step : (i : ℕ) (x : Stage) → At vs i x → is_running x.0 ≡ false → is_ahead o x ≡ false
  pub eras : (i : ℕ) (x : Stage) → At vs i x → (x.1 ≡ o.from_era) ⊎ (x.1 ≡ o.from_era + 1)

-- what one step of a processor does to its stage, where the barriers are as these processors stand
pub record MovesStage (o : Order) (ps : List Processor) (x y : Stage) : Type 0 where
  pub to_third : 3 ≤ rank o y → (3 ≤ rank o x) ⊎ (first_barrier_open o ps ≡ true)
  pub to_fifth : 5 ≤ rank o y → (5 ≤ rank o x) ⊎ (second_barrier_open o ps ≡ true)
  pub up : (rank o x ≤ rank o y) ⊎ (is_cancelled o.go ≡ true)
  pub in_step : is_running y.0 ≡ false → is_ahead o y ≡ false
  pub era : (y.1 ≡ o.from_era) ⊎ (y.1 ≡ o.from_era + 1)

-- ---- lists

pub at_set : (vs : List Stage) (k i : ℕ) (y w : Stage) → At (set vs k y) i w → ((i ≡ k) × (y ≡ w)) ⊎ At vs i w
at_set [] k i y w at = inr at
at_set (v ∷ vs) zero zero y w at = inl (refl, cc)
at_set (v ∷ vs) zero (suc i) y w at = inr at
at_set (v ∷ vs) (suc k) zero y w at = inr at
at_set (v ∷ vs) (suc k) (suc i) y w at =
    ⊎_elim (λ (e : (i ≡ k) × (y ≡ w)). inl (ap suc e.0, e.1)) (λ (e : At vs i w). inr e) (at_set vs k i y w at)

-- the processor that has a stage
pub processor_at : (ps : List Processor) (i : ℕ) (x : Stage) → At (stages_of ps) i x → (p : Processor) × (slice_get ps i ≡ Some p) × (stage_of p ≡ x)
processor_at [] i x at = absurd (cc)
processor_at (p ∷ ps) zero x at = (p, refl, cc)
processor_at (p ∷ ps) (suc i) x at = processor_at ps i x at

pub stage_at : (ps : List Processor) (i : ℕ) (p : Processor) → slice_get ps i ≡ Some p → At (stages_of ps) i (stage_of p)
stage_at [] i p at = absurd (cc)
stage_at (q ∷ ps) zero p at = let e : q ≡ p = cc in ap (λ r. Some (stage_of r)) e
stage_at (q ∷ ps) (suc i) p at = stage_at ps i p at

pub and_left : (a b : Bool) → (a && b) ≡ true → a ≡ true
and_left true b h = refl
and_left false b h = h

pub and_right : (a b : Bool) → (a && b) ≡ true → b ≡ true
and_right true b h = h
and_right false b h = absurd (cc)

pub all_at : (test : Processor → Bool) (ps : List Processor) (i : ℕ) (p : Processor) → list_all test ps ≡ true → slice_get ps i ≡ Some p → test p ≡ true
all_at test [] i p all at = absurd (cc)
all_at test (q ∷ ps) zero p all at = let e : q ≡ p = cc in ap test (sym e) ∙ and_left (test q) (list_all test ps) all
all_at test (q ∷ ps) (suc i) p all at = all_at test ps i p (and_right (test q) (list_all test ps) all) at

-- ---- what the words of the barriers say of ranks

arrived_rank_of : (ph : Phase) (ahead : Bool) → (is_running ph ≡ false → ahead ≡ false) → (is_arrived ph || (is_changing ph || is_arrived_again ph || ahead)) ≡ true → 2 ≤ rank_of ph ahead
arrived_rank_of Running true in_step h = lit≤ tt
arrived_rank_of Running false in_step h = absurd (cc)
arrived_rank_of Taken true in_step h = absurd (let e : true ≡ false = in_step refl in cc)
arrived_rank_of Taken false in_step h = absurd (cc)
arrived_rank_of Arrived ahead in_step h = lit≤ tt
arrived_rank_of Arrived2 ahead in_step h = lit≤ tt
arrived_rank_of other ahead in_step h = lit≤ tt

again_rank_of : (ph : Phase) (ahead : Bool) → (is_running ph ≡ false → ahead ≡ false) → (is_arrived_again ph || ahead) ≡ true → 4 ≤ rank_of ph ahead
again_rank_of Running true in_step h = lit≤ tt
again_rank_of Running false in_step h = absurd (cc)
again_rank_of Arrived2 ahead in_step h = lit≤ tt
again_rank_of other true in_step h = absurd (let e : true ≡ false = in_step refl in cc)
again_rank_of other false in_step h = absurd (cc)

-- ---- the barriers are kept by a move

pub not_both : (go : Go) → is_given go ≡ true → is_cancelled go ≡ true → ⊥
not_both Pending g c = absurd (cc)
not_both Given g c = absurd (cc)
not_both Cancelled g c = absurd (cc)

pub all_second : (o : Order) (ps : List Processor) → Guarded o (stages_of ps) → first_barrier_open o ps ≡ true → (j : ℕ) (y : Stage) → At (stages_of ps) j y → 2 ≤ rank o y
all_second o ps g opened j y at =
    let found = processor_at ps j y at in
    let p = found.0 in
    let here : At (stages_of ps) j (stage_of p) = stage_at ps j p found.1 in
    let arrived : has_arrived o p ≡ true = all_at (has_arrived o) ps j p (and_left _ _ opened) found.1 in
    subst (λ (z : Stage). 2 ≤ rank o z) found.2 (arrived_rank_of p.phase (is_ahead o (stage_of p)) (g.in_step j (stage_of p) here) arrived)

pub all_fourth : (o : Order) (ps : List Processor) → Guarded o (stages_of ps) → second_barrier_open o ps ≡ true → (j : ℕ) (y : Stage) → At (stages_of ps) j y → 4 ≤ rank o y
all_fourth o ps g opened j y at =
    let found = processor_at ps j y at in
    let p = found.0 in
    let here : At (stages_of ps) j (stage_of p) = stage_at ps j p found.1 in
    let arrived : has_arrived_again o p ≡ true = all_at (has_arrived_again o) ps j p opened found.1 in
    subst (λ (z : Stage). 4 ≤ rank o z) found.2 (again_rank_of p.phase (is_ahead o (stage_of p)) (g.in_step j (stage_of p) here) arrived)

module _ (o : Order) (ps : List Processor) (k : ℕ) (x y : Stage) (g : Guarded o (stages_of ps)) (at : At (stages_of ps) k x) (move : MovesStage o ps x y) where
  -- each processor has arrived, where the moved one is past the first barrier; each has arrived again, where it has released
  others_second : 3 ≤ rank o y → (j : ℕ) (z : Stage) → At (stages_of ps) j z → 2 ≤ rank o z
  others_second h j z there =
      ⊎_elim (λ (was : 3 ≤ rank o x). g.first k j x z at there was) (λ (opened : first_barrier_open o ps ≡ true). all_second o ps g opened j z there) (move.to_third h)

  others_fourth : 5 ≤ rank o y → (j : ℕ) (z : Stage) → At (stages_of ps) j z → 4 ≤ rank o z
  others_fourth h j z there =
      ⊎_elim (λ (was : 5 ≤ rank o x). g.second k j x z at there was) (λ (opened : second_barrier_open o ps ≡ true). all_fourth o ps g opened j z there) (move.to_fifth h)

  -- where some processor is past the first barrier, the moved one did not go back
  moved_up : (i : ℕ) (z : Stage) → At (stages_of ps) i z → 3 ≤ rank o z → rank o x ≤ rank o y
  moved_up i z there h =
      ⊎_elim (λ (up : rank o x ≤ rank o y). up) (λ (c : is_cancelled o.go ≡ true). absurd (not_both o.go (g.given i z there h) c)) move.up

  given_now : 3 ≤ rank o y → is_given o.go ≡ true
  given_now h =
      ⊎_elim (λ (was : 3 ≤ rank o x). g.given k x at was) (λ (opened : first_barrier_open o ps ≡ true). and_right _ _ opened) (move.to_third h)

  first_kept : (i j : ℕ) (a b : Stage) → At (set (stages_of ps) k y) i a → At (set (stages_of ps) k y) j b → 3 ≤ rank o a → 2 ≤ rank o b
  first_kept i j a b at_a at_b h =
      ⊎_elim
      (λ (e : (i ≡ k) × (y ≡ a)). let h' : 3 ≤ rank o y = subst (λ (v : Stage). 3 ≤ rank o v) (sym e.1) h in ⊎_elim
      (λ (f : (j ≡ k) × (y ≡ b)). subst (λ (v : Stage). 2 ≤ rank o v) f.1 (omega arith))
      (λ (was : At (stages_of ps) j b). others_second h' j b was)
      (at_set (stages_of ps) k j y b at_b))
      (λ (here : At (stages_of ps) i a). ⊎_elim
      (λ (f : (j ≡ k) × (y ≡ b)). let low : 2 ≤ rank o x = g.first i k a x here at h in
      let up : rank o x ≤ rank o y = moved_up i a here h in
      subst (λ (v : Stage). 2 ≤ rank o v) f.1 (omega arith))
      (λ (was : At (stages_of ps) j b). g.first i j a b here was h)
      (at_set (stages_of ps) k j y b at_b))
      (at_set (stages_of ps) k i y a at_a)

  second_kept : (i j : ℕ) (a b : Stage) → At (set (stages_of ps) k y) i a → At (set (stages_of ps) k y) j b → 5 ≤ rank o a → 4 ≤ rank o b
  second_kept i j a b at_a at_b h =
      ⊎_elim
      (λ (e : (i ≡ k) × (y ≡ a)). let h' : 5 ≤ rank o y = subst (λ (v : Stage). 5 ≤ rank o v) (sym e.1) h in ⊎_elim
      (λ (f : (j ≡ k) × (y ≡ b)). subst (λ (v : Stage). 4 ≤ rank o v) f.1 (omega arith))
      (λ (was : At (stages_of ps) j b). others_fourth h' j b was)
      (at_set (stages_of ps) k j y b at_b))
      (λ (here : At (stages_of ps) i a). ⊎_elim
      (λ (f : (j ≡ k) × (y ≡ b)). let low : 4 ≤ rank o x = g.second i k a x here at h in
      let up : rank o x ≤ rank o y = moved_up i a here (omega arith) in
      subst (λ (v : Stage). 4 ≤ rank o v) f.1 (omega arith))
      (λ (was : At (stages_of ps) j b). g.second i j a b here was h)
      (at_set (stages_of ps) k j y b at_b))
      (at_set (stages_of ps) k i y a at_a)

  pub moved : Guarded o (set (stages_of ps) k y)
  moved = record {
    first = first_kept;
    second = second_kept;
    given = λ i a there h. ⊎_elim
        (λ (e : (i ≡ k) × (y ≡ a)). given_now (subst (λ (v : Stage). 3 ≤ rank o v) (sym e.1) h))
        (λ (was : At (stages_of ps) i a). g.given i a was h)
        (at_set (stages_of ps) k i y a there);
    in_step = λ i a there. ⊎_elim
        (λ (e : (i ≡ k) × (y ≡ a)). subst (λ (v : Stage). is_running v.0 ≡ false → is_ahead o v ≡ false) e.1 move.in_step)
        (λ (was : At (stages_of ps) i a). g.in_step i a was)
        (at_set (stages_of ps) k i y a there);
    eras = λ i a there. ⊎_elim
        (λ (e : (i ≡ k) × (y ≡ a)). subst (λ (v : Stage). (v.1 ≡ o.from_era) ⊎ (v.1 ≡ o.from_era + 1)) e.1 move.era)
        (λ (was : At (stages_of ps) i a). g.eras i a was)
        (at_set (stages_of ps) k i y a there);
  }
