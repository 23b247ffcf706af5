-- What is left where a processor comes up, joins or goes.
use Rattle.std.proofs.Common.{◌≡◌, ◌∙◌, ap, sym, subst, refl, arith, ℕ, ◌+◌, ◌<◌, ◌≤◌, Bool, true, false, if◌then◌else◌, nat_lt, length, Option, None, Some, inl}
use Rattle.std.specs.Prelude.{◌&&◌, IsSome, is_some, not}
use Rattle.std.specs.List.{All}
use Rattle.std.proofs.lemmas.Bool.{and_parts, ltb-false, ltb-true}
use Rattle.mt_regs.specs.RegisterFile.{RegisterFile}
use Rattle.mt_machine.specs.Memory.{Memory}
use Rattle.mt_machine.specs.Machine.{Calls, FitsGoal, Machine, Order, at_start}
use Rattle.mt_machine.specs.ComingAndGoing.{gone, with_newcomer, without_last}
use Rattle.mt_machine.specs.Start.{IsQuiet}
use Rattle.mt_laws.specs.Settled.{IsFresh}
use Rattle.mt_laws.proofs.Barrier.Claims.{all_get, all_of}
use Rattle.mt_laws.proofs.Clearing.Fresh.{nothing_is_stale}
use Rattle.mt_laws.proofs.Invariant.Coming.{reset_each, reset_memory, reset_stays_fresh, reset_stays_quiet}
use Rattle.mt_laws.proofs.Invariant.Going.{gone_count, gone_from, gone_stays_fresh, gone_stays_quiet, gone_windows}
use Rattle.mt_core.specs.Arises.{Arises, by_coming_up, by_going_down}
use Rattle.mt_core.proofs.Settling.{is_quiet_without_order}
use Rattle.mt_core.proofs.Stepping.{is_sound}
use Rattle.mt_admit.specs.Admission.{admitted, brought_up, first_file}
use Rattle.mt_admit.proofs.Calling.{call_enabled, reset_count}
use Rattle.mt_script.specs.declared.command.Newcomer.{Newcomer}
use Rattle.mt_script.specs.declared.command.Newcomer.TheVariants.{Up, Join}
use Rattle.mt_replay.specs.Kept.{CameFromRest}
use Rattle.mt_replay.specs.ReplayState.{after_newcomer, after_retire, may_come, may_go}
use Rattle.mt_replay.proofs.Keeping.Kinds.{eras_risen}
use Rattle.mt_replay.proofs.Keeping.Machines.{ComesFrom, follows_event, follows_update}

-- ---- where one may come or go

idle : (o : Option Order) (b : Bool) → (not (is_some o) && b) ≡ true → o ≡ None
idle None b h = refl
idle (Some o) b h = absurd (cc h)

pub idle_to_come : (m : Machine) → may_come m ≡ true → m.order ≡ None
idle_to_come m h = idle m.order (nat_lt (length m.system.processors) 16) h

pub idle_to_go : (m : Machine) → may_go m ≡ true → m.order ≡ None
idle_to_go m h = idle m.order (nat_lt 1 (length m.system.processors)) h

pub may_come_by : (m : Machine) → (IsSome m.order → ⊥) → ((m.order ≡ None) × (length m.system.processors ≡ 16) → ⊥) → length m.system.processors ≤ 16 → may_come m ≡ true
may_come_by m still few most = by m.order refl
  where
    room : m.order ≡ None → (b : Bool) → nat_lt (length m.system.processors) 16 ≡ b → b ≡ true
    room none true is = refl
    room none false is = let full = ltb-false (length m.system.processors) 16 is in absurd (few (none, omega arith))

    by : (o : Option Order) → m.order ≡ o → may_come m ≡ true
    by None is = ap (λ (o : Option Order). not (is_some o) && nat_lt (length m.system.processors) 16) is ∙ room is (nat_lt (length m.system.processors) 16) refl
    by (Some o) is = absurd (still (subst IsSome (sym is) refl))

pub few_to_come : (m : Machine) → may_come m ≡ true → length m.system.processors < 16
few_to_come m h = ltb-true (length m.system.processors) 16 (and_parts (not (is_some m.order)) (nat_lt (length m.system.processors) 16) h).1

pub more_to_go : (m : Machine) → may_go m ≡ true → 1 < length m.system.processors
more_to_go m h = ltb-true 1 (length m.system.processors) (and_parts (not (is_some m.order)) (nat_lt 1 (length m.system.processors)) h).1

-- ---- at rest

pub no_older_now : (m : Machine) → CameFromRest m → All IsFresh m.system.processors
no_older_now m c = nothing_is_stale c.rest m (inl c.quiet) c.no_older c.reached

pub came_on : (m n : Machine) → CameFromRest m → ComesFrom m n → CameFromRest n
came_on m n c follows = record { rest = c.rest; quiet = c.quiet; arises = c.arises; no_older = c.no_older; reached = follows.reached c.rest c.reached }

pub rests_now : (m : Machine) → IsQuiet m → Arises m → All IsFresh m.system.processors → CameFromRest m
rests_now m quiet arises fresh = record { rest = m; quiet = quiet; arises = arises; no_older = fresh; reached = at_start }

-- ---- what comes of a machine that came from rest

-- n comes of m, over the same windows, maybe with one processor more or less
pub record Moves (m n : Machine) : Type 0 where
  pub arises : Arises n
  pub came : CameFromRest n
  pub some : 1 ≤ length n.system.processors
  pub few : length n.system.processors ≤ 16
  pub eras : (most : ℕ) → All (λ p. p.era ≤ most) m.system.processors → All (λ p. p.era ≤ most + 1) n.system.processors
  pub fits : (f : RegisterFile) → All (FitsGoal f) m.system.processors → All (FitsGoal f) n.system.processors
  pub windows : n.system.memory.windows ≡ m.system.memory.windows

module _ (m : Machine) (a : Arises m) (came : CameFromRest m) (some : 1 ≤ length m.system.processors) (few : length m.system.processors ≤ 16) where
  stays_same : Moves m m
  stays_same = record {
    arises = a;
    came = came;
    some = some;
    few = few;
    eras = λ most all. all_of (λ p. p.era ≤ most + 1) m.system.processors (λ i p at. let low = all_get (λ q. q.era ≤ most) m.system.processors all i p at in omega arith);
    fits = λ f all. all;
    windows = refl;
  }

  -- ---- a newcomer

  module _ (none : m.order ≡ None) (room : length m.system.processors < 16) where
    abbrev w : Machine
    w = with_newcomer m

    here : 0 < length m.system.processors
    here = omega (arith, some)

    quiet : IsQuiet m
    quiet = is_quiet_without_order m a none

    arises_with : Arises w
    arises_with = by_coming_up a none here

    came_with : CameFromRest w
    came_with = rests_now w (reset_stays_quiet m quiet) arises_with (reset_stays_fresh m.system (no_older_now m came))

    by_update : (n : Machine) → ComesFrom w n → Moves m n
    by_update n follows = record {
      arises = follows.arises;
      came = came_on w n came_with follows;
      some = omega (arith, follows.risen.same_number, reset_count m.system here);
      few = omega (arith, follows.risen.same_number, reset_count m.system here);
      eras = λ most all. eras_risen most w.system n.system follows.risen (reset_each (λ p. p.era ≤ most) m.system all (λ p low. low));
      fits = λ f all. follows.fits f (reset_each (FitsGoal f) m.system all (λ p h. record { width = h.width; capabilities = h.capabilities }));
      windows = follows.windows ∙ ap (λ (v : Memory). v.windows) (reset_memory m.system);
    }

    comes_up : Moves m (brought_up m)
    comes_up = by_update (brought_up m) (follows_event w (Calls (first_file m.system)) arises_with (call_enabled m quiet here))

    joins : Moves m (admitted m)
    joins = by_update (admitted m) (follows_update w (first_file m.system) arises_with (call_enabled m quiet here))

  -- ---- one that goes

  module _ (none : m.order ≡ None) (more : 1 < length m.system.processors) where
    abbrev t : Machine
    t = without_last m

    arises_left : Arises t
    arises_left = by_going_down a none more

    leaves : Moves m t
    leaves = record {
      arises = arises_left;
      came = rests_now t (gone_stays_quiet m (omega (arith, more)) (is_quiet_without_order m a none)) arises_left (gone_stays_fresh m.system (no_older_now m came));
      some = omega (arith, gone_count m.system);
      few = omega (arith, gone_count m.system);
      eras = λ most all. all_of (λ p. p.era ≤ most + 1) (gone m.system).processors
          (λ i q at. let from = gone_from m.system i q at in let low = all_get (λ p. p.era ≤ most) m.system.processors all i from.0 from.1 in let same = from.2.era in omega arith);
      fits = λ f all. all_of (FitsGoal f) (gone m.system).processors
          (λ i q at. let from = gone_from m.system i q at in
          let fits = all_get (FitsGoal f) m.system.processors all i from.0 from.1 in
          record { width = fits.width ∙ sym (ap (λ (x : RegisterFile). x.width) from.2.file); capabilities = fits.capabilities ∙ sym (ap (λ (x : RegisterFile). x.capabilities) from.2.file) });
      windows = gone_windows m.system (is_sound m a);
    }

  pub moves_newcomer : (n : Newcomer) → Moves m (after_newcomer m n)
  moves_newcomer Up = one (may_come m) refl
    where
      one : (b : Bool) → may_come m ≡ b → Moves m (if b then brought_up m else m)
      one true is = comes_up (idle_to_come m is) (few_to_come m is)
      one false is = stays_same
  moves_newcomer Join = one (may_come m) refl
    where
      one : (b : Bool) → may_come m ≡ b → Moves m (if b then admitted m else m)
      one true is = joins (idle_to_come m is) (few_to_come m is)
      one false is = stays_same

  pub moves_retire : Moves m (after_retire m)
  moves_retire = one (may_go m) refl
    where
      one : (b : Bool) → may_go m ≡ b → Moves m (if b then without_last m else m)
      one true is = leaves (idle_to_go m is) (more_to_go m is)
      one false is = stays_same
