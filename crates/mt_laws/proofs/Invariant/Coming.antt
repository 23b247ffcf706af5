-- A processor that comes up leaves what is sound or quiet as it is.
use Rattle.std.proofs.Common.{◌≡◌, ◌≢◌, ◌⊎◌, ℕ, zero, suc, ◌<◌, List, [], ◌∷◌, ◌++◌, refl, sym, subst, arith, inl, inr, ⊎_elim, Option, None, Some, true, false}
use Rattle.std.specs.Prelude.{slice_get, slice_index, IsNone, IsSome}
use Rattle.std.specs.Option.{option_map_or}
use Rattle.std.specs.List.{All}
use Rattle.mt_cache.specs.declared.line.CacheLine.{CacheLine}
use Rattle.mt_cache.specs.Lines.{find_line, is_dirty}
use Rattle.mt_machine.specs.Memory.{place, word_address, word_at}
use Rattle.mt_machine.specs.Access.{is_running}
use Rattle.mt_machine.specs.System.{Processor, System, IsProcessor, IsSound}
use Rattle.mt_machine.specs.Machine.{FitsGoal, common_era}
use Rattle.mt_machine.specs.Start.{IsQuiet}
use Rattle.mt_machine.specs.ComingAndGoing.{newcomer_beside, reset}
use Rattle.mt_machine.proofs.Blank.{blank_is_accepted, blank_is_file}
use Rattle.mt_laws.specs.Settled.{IsFresh}
use Rattle.mt_laws.specs.ComingAndGoing.{ResetStaysFresh, ResetStaysQuiet, ResetStaysSound}
use Rattle.mt_laws.proofs.Barrier.Claims.{all_get, all_of}
use Rattle.mt_laws.proofs.Invariant.Starts.{nothing}

newcomer_is_processor : (p : Processor) → IsProcessor p → IsProcessor (newcomer_beside p)
newcomer_is_processor p h = record {
  register_file = blank_is_file p.file h.register_file;
  accepted = λ _. blank_is_accepted p.file.width p.file.capabilities;
  in_range = λ i writing. absurd (cc);
  indexes = nothing _;
  mapped_pages = nothing _;
  few_mappings = omega arith;
  distinct_mappings = λ i j d low within. absurd (omega arith);
  local_entries = λ _. nothing _;
  mapped = nothing _;
  entry_pages = nothing _;
  flushed = λ _. refl;
  few_entries = omega arith;
  distinct_entries = λ i j d low within. absurd (omega arith);
  few_lines = omega arith;
  distinct_lines = λ i j d low within. absurd (omega arith);
  whole_lines = nothing _;
  few_buffers = omega arith;
  distinct_buffers = λ i j d low within. absurd (omega arith);
  whole_buffers = nothing _;
}

-- a processor of the longer list is one of before, or the one behind them
pub of_more : (ps : List Processor) (q : Processor) (i : ℕ) (p : Processor) → slice_get (ps ++ q ∷ []) i ≡ Some p → (slice_get ps i ≡ Some p) ⊎ (q ≡ p)
of_more [] q zero p at = inr (cc)
of_more [] q (suc i) p at = absurd (cc)
of_more (x ∷ ps) q zero p at = inl at
of_more (x ∷ ps) q (suc i) p at = of_more ps q i p at

each_more : (P : Processor → Type 0) (ps : List Processor) (q : Processor) → All P ps → P q → All P (ps ++ q ∷ [])
each_more P ps q all own =
    all_of P (ps ++ q ∷ [])
    (λ i p at. ⊎_elim (λ (old : slice_get ps i ≡ Some p). all_get P ps all i p old) (λ (new : q ≡ p). subst P new own) (of_more ps q i p at))

-- of two processors, the lines of the first that the second hasn't where they are dirty
abbrev IsSole : Processor → Processor → Type 0
IsSole p q = All (λ (l : CacheLine). l.dirty ≢ 0 → IsNone (find_line l.number q.lines)) p.lines

module _ (s : System) (p : Processor) (h : IsSound s) (own : IsProcessor p) where
  abbrev q : Processor
  q = newcomer_beside p

  sole : (i j : ℕ) (x y : Processor) → i ≢ j → slice_get (s.processors ++ q ∷ []) i ≡ Some x → slice_get (s.processors ++ q ∷ []) j ≡ Some y → IsSole x y
  sole i j x y apart at_x at_y =
      ⊎_elim
      (λ (old : slice_get s.processors i ≡ Some x). ⊎_elim
      (λ (also : slice_get s.processors j ≡ Some y). h.coherent.sole i j x y apart old also)
      (λ (new : q ≡ y). subst (IsSole x) new (λ n d within dirty. refl))
      (of_more s.processors q j y at_y))
      (λ (new : q ≡ x). subst (λ (r : Processor). IsSole r y) new (nothing _))
      (of_more s.processors q i x at_x)

  more_sound : IsSound (record s { processors = s.processors ++ q ∷ [] })
  more_sound = record {
    memory = h.memory;
    coherent = record {
      clean = each_more (λ r. All (λ (l : CacheLine). (word : ℕ) → word < 8 → is_dirty l word ≡ false → slice_index l.words word ≡ word_at s.memory (word_address l.number word)) r.lines) s.processors q h.coherent.clean (nothing _);
      sole = sole;
    };
    lines_in_memory = each_more (λ r. All (λ (l : CacheLine). IsSome (place s.memory (word_address l.number 0))) r.lines) s.processors q h.lines_in_memory (nothing _);
    buffers_in_memory = each_more (λ r. All (λ (l : CacheLine). IsSome (place s.memory (word_address l.number 0))) r.buffers) s.processors q h.buffers_in_memory (nothing _);
    each = each_more IsProcessor s.processors q h.each (newcomer_is_processor p own);
  }

pub reset_stays_sound : ResetStaysSound
reset_stays_sound s h = one (slice_get s.processors 0) refl
  where
    one : (o : Option Processor) → slice_get s.processors 0 ≡ o → IsSound (option_map_or (λ p. record s { processors = s.processors ++ newcomer_beside p ∷ [] }) o s)
    one None at = h
    one (Some p) at = more_sound s p h (all_get IsProcessor s.processors h.each 0 p at)

-- the first is of the era, the width and the capabilities of all
era_stays : (ps : List Processor) (p : Processor) → slice_get ps 0 ≡ Some p → (common_era (ps ++ newcomer_beside p ∷ []) ≡ common_era ps) × (p.era ≡ common_era ps)
era_stays [] p at = absurd (cc)
era_stays (x ∷ ps) p at = (refl, let e : x ≡ p = cc in λ i. (sym e i).era)

kind_of_both : (p q : Processor) → FitsGoal p.file q → FitsGoal p.file (newcomer_beside q)
kind_of_both p q h = record { width = h.width; capabilities = h.capabilities }

pub reset_stays_quiet : ResetStaysQuiet
reset_stays_quiet m h = one (slice_get m.system.processors 0) refl (reset_stays_sound m.system h.sound)
  where
    one : (o : Option Processor) → slice_get m.system.processors 0 ≡ o → IsSound (option_map_or (λ p. record m.system { processors = m.system.processors ++ newcomer_beside p ∷ [] }) o m.system)
        → IsQuiet (record m { system = option_map_or (λ p. record m.system { processors = m.system.processors ++ newcomer_beside p ∷ [] }) o m.system })
    one None at sound = h
    one (Some p) at sound =
        let ps : List Processor = m.system.processors in
        let q : Processor = newcomer_beside p in
        let era = era_stays ps p at in
        let kind = all_get (λ r. All (FitsGoal r.file) ps) ps h.one_kind in
        record {
          sound = sound;
          running = each_more (λ r. is_running r.phase ≡ true) ps q h.running refl;
          one_era = subst (λ (n : ℕ). All (λ r. r.era ≡ n) (ps ++ q ∷ [])) (sym era.0) (each_more (λ r. r.era ≡ common_era ps) ps q h.one_era era.1);
          one_kind = all_of (λ r. All (FitsGoal r.file) (ps ++ q ∷ [])) (ps ++ q ∷ []) (λ i r at_r. ⊎_elim
              (λ (old : slice_get ps i ≡ Some r). each_more (FitsGoal r.file) ps q (kind i r old) (kind_of_both r p (all_get (FitsGoal r.file) ps (kind i r old) 0 p at)))
              (λ (new : q ≡ r). subst (λ (x : Processor). All (FitsGoal x.file) (ps ++ q ∷ [])) new
              (each_more (FitsGoal q.file) ps q (as_newcomer ps p (kind 0 p at)) (record { width = refl; capabilities = refl })))
              (of_more ps q i r at_r));
          no_order = h.no_order;
        }
      where
        as_newcomer : (ps : List Processor) (p : Processor) → All (FitsGoal p.file) ps → All (FitsGoal (newcomer_beside p).file) ps
        as_newcomer ps p all i d within = let f = all i d within in record { width = f.width; capabilities = f.capabilities }

-- ---- what holds of each, the windows

-- what a newcomer has of the one beside it holds of all
pub reset_each : (P : Processor → Type 0) (s : System) → All P s.processors → ((p : Processor) → P p → P (newcomer_beside p)) → All P (reset s).processors
reset_each P s all own = one (slice_get s.processors 0) refl
  where
    one : (o : Option Processor) → slice_get s.processors 0 ≡ o → All P (option_map_or (λ p. record s { processors = s.processors ++ newcomer_beside p ∷ [] }) o s).processors
    one None at = all
    one (Some p) at = each_more P s.processors (newcomer_beside p) all (own p (all_get P s.processors all 0 p at))

pub reset_memory : (s : System) → (reset s).memory ≡ s.memory
reset_memory s = one (slice_get s.processors 0)
  where
    one : (o : Option Processor) → (option_map_or (λ p. record s { processors = s.processors ++ newcomer_beside p ∷ [] }) o s).memory ≡ s.memory
    one None = refl
    one (Some p) = refl

pub reset_stays_fresh : ResetStaysFresh
reset_stays_fresh s fresh = reset_each IsFresh s fresh (λ p f. record { lines = nothing _; buffers = nothing _; entries = nothing _ })
