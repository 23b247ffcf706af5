-- What is settled, and what is in memory, stays so when the last processor goes.
use Rattle.std.proofs.Common.{◌≡◌, ◌∙◌, sym, refl, subst, arith, ⊎_elim, inl, ℕ, zero, suc, ◌%◌, ◌<◌, Bool, true, false, List, [], ◌∷◌, take, length, Option, None, Some, eq-eqb}
use Rattle.std.specs.Prelude.{◌==◌, ◌&&◌}
use Rattle.std.proofs.lemmas.List.{take-map}
use Rattle.mt_regs.specs.RegisterFile.{RegisterFile}
use Rattle.mt_machine.specs.Memory.{Window, word_at}
use Rattle.mt_machine.specs.System.{Processor, System, now}
use Rattle.mt_machine.specs.Access.{is_running}
use Rattle.mt_machine.specs.Bus.{drain}
use Rattle.mt_machine.specs.Machine.{Machine, Order}
use Rattle.mt_machine.specs.ComingAndGoing.{gone, last_number, without_last}
use Rattle.mt_laws.proofs.Barrier.Claims.{all_get}
use Rattle.mt_laws.proofs.Barrier.Ranks.{and_left, and_right}
use Rattle.mt_laws.proofs.Clearing.Late.{Late, OrderLate}
use Rattle.mt_laws.proofs.Invariant.Going.{gone_from, gone_keeps_words, shared_front}
use Rattle.mt_laws.proofs.Registers.Settled.{OrderHas, Settling}
use Rattle.mt_laws.proofs.Words.BusLaws.{Stands, Word, all_unwritten, copies, drain_word, stands_drain, unwritten}
use Rattle.mt_laws.proofs.Words.Copies.{Copy, IsOwned, IsShared}
use Rattle.mt_laws.proofs.Words.LineLists.{copy_in}
use Rattle.mt_laws.proofs.Words.Sound.{aligned_all, now_is}
use Rattle.mt_core.specs.Arises.{Arises, by_going_down}
use Rattle.mt_core.proofs.Settling.{is_quiet_without_order}
use Rattle.mt_core.proofs.Stepping.{is_sound, stands}

module _ (m : Machine) (a : Arises m) (none : m.order ≡ None) (more : 1 < length m.system.processors) where
  -- what is held is new still
  pub gone_late : (era : ℕ) → Late era m → Late era (without_last m)
  gone_late era l = record {
    all = λ i q at.
        let from = gone_from m.system i q at in
        let new = l.all i from.0 from.1 in
        let runs = all_get (λ p. is_running p.phase ≡ true) m.system.processors (is_quiet_without_order m a none).running i from.0 from.1 in
        let own : i ≡ last_number m.system → (from.0.era == era) ≡ true = λ e. eq-eqb from.0.era era (new.running runs) in
        record {
          lines = from.2.lines (λ x. x == era) own new.lines;
          buffers = from.2.buffers (λ x. x == era) own new.buffers;
          entries = from.2.entries (λ x. x == era) own new.entries;
          running = λ r. from.2.era ∙ new.running runs;
        };
    order = subst (λ (o : Option Order). OrderLate era o (gone m.system)) (sym none) tt;
  }

  -- and each file is the goal still
  pub gone_settling : (goal : RegisterFile) → Settling goal m → Settling goal (without_last m)
  gone_settling goal t = record {
    files = λ i q at. let from = gone_from m.system i q at in from.2.file ∙ t.files i from.0 from.1;
    order = subst (OrderHas goal) (sym none) tt;
  }

-- ---- a word that is in memory

not_owned : (v x : ℕ) (cs : List Copy) → IsShared v cs → IsOwned x cs → ⊥
not_owned v x [] h g = g
not_owned v x (None ∷ cs) h g = not_owned v x cs h g
not_owned v x (Some (y, true) ∷ cs) h g = h
not_owned v x (Some (y, false) ∷ cs) h g = g

both : (p q : Bool) → p ≡ true → q ≡ true → (p && q) ≡ true
both true q h g = g
both false q h g = absurd (cc h)

unwritten_front : (a : ℕ) (ps : List Processor) (k : ℕ) → all_unwritten a ps ≡ true → all_unwritten a (take k ps) ≡ true
unwritten_front a [] zero h = refl
unwritten_front a [] (suc k) h = refl
unwritten_front a (p ∷ ps) zero h = refl
unwritten_front a (p ∷ ps) (suc k) h =
    both (unwritten a p.buffers) (all_unwritten a (take k ps)) (and_left _ _ h) (unwritten_front a ps k (and_right (unwritten a p.buffers) _ h))

may_be : (a x : ℕ) (s : System) → Word false a x s → Word true a x s
may_be a x s w = record { shows = inl w.shows; writes = λ e. absurd (cc e) }

module _ (m : Machine) (arises : Arises m) (none : m.order ≡ None) (more : 1 < length m.system.processors) (a x : ℕ) (whole : a % 8 ≡ 0) (w : Word false a x m.system) where
  abbrev k : ℕ
  k = last_number m.system

  abbrev t : System
  t = drain k m.system

  abbrev ws : List Window
  ws = m.system.memory.windows

  st : Stands ws m.system
  st = (stands arises).1.agrees.stands

  drained : Word false a x t
  drained =
      let r = drain_word ws (aligned_all ws (stands arises).0.aligned) false a x k m.system whole st w in
      subst (λ (y : ℕ). Word false a y t) (r.1 refl) r.2

  now_before : now t a ≡ x
  now_before = now_is ws t a x (stands_drain ws (aligned_all ws (stands arises).0.aligned) k m.system st) (may_be a x t drained)

  left : Arises (without_last m)
  left = by_going_down arises none more

  here : (y : ℕ) × Word true a y (gone m.system)
  here = (stands left).1.agrees.words a whole

  same : here.0 ≡ x
  same =
      sym (now_is (gone m.system).memory.windows (gone m.system) a here.0 (stands left).1.agrees.stands here.1)
      ∙ gone_keeps_words m.system a (omega arith) (is_sound m arises) whole ∙ now_before

  front : copies a (gone m.system).processors ≡ take k (copies a t.processors)
  front = sym (take-map (λ (r : Processor). copy_in a r.lines) k t.processors)

  shared : IsShared (word_at t.memory a) (copies a (gone m.system).processors)
  shared = subst (IsShared (word_at t.memory a)) (sym front) (shared_front (word_at t.memory a) (copies a t.processors) k drained.shows.1)

  pub gone_word : Word false a x (gone m.system)
  gone_word = record {
    shows = ⊎_elim
        (λ (h : (word_at (gone m.system).memory a ≡ here.0) × IsShared (word_at (gone m.system).memory a) (copies a (gone m.system).processors)). (h.0 ∙ same, h.1))
        (λ (h : IsOwned here.0 (copies a (gone m.system).processors)). absurd (not_owned (word_at t.memory a) here.0 (copies a (gone m.system).processors) shared h))
        here.1.shows;
    writes = λ e. unwritten_front a t.processors k (drained.writes e);
  }
