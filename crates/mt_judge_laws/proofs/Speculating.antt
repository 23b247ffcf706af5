-- What a processor does by itself keeps what holds: it changes nothing but what a processor holds, and what it fills is right.
use Rattle.std.proofs.Common.{◌≡◌, ◌∙◌, ap, refl, sym, ℕ, ◌^◌, ◌/◌, Bool, true, false, Option, None, Some}
use Rattle.std.specs.Prelude.{◌&&◌, ◌||◌, not, is_some, nat_lt, slice_get}
use Rattle.std.specs.Option.{option_map_or}
use Rattle.mt_tlb.specs.Entries.{find_mapping}
use Rattle.mt_machine.specs.Access.{entry_of}
use Rattle.mt_machine.specs.System.{Processor, change}
use Rattle.mt_machine.specs.declared.phase.Phase.{Phase}
use Rattle.mt_machine.specs.declared.phase.Phase.TheVariants.{Enabled, Flushed, Flushed2, TlbFlushed, Writing}
use Rattle.mt_laws.proofs.Barrier.Ranks.{and_left, and_right}
use Rattle.mt_procedure.specs.Runs.{Case, State, may_take, system_of, taken}
use Rattle.mt_procedure.specs.Speculation.{may_fetch, may_fill, may_translate, with_fetch, with_translation}
use Rattle.mt_procedure.specs.declared.turn.Turn.TheVariants.{Fetch, Translate}
use Rattle.mt_judge_laws.specs.Manual.{FillsNothing}
use Rattle.mt_judge_laws.proofs.Accessing.{AllKeep, fetch_keeps, translation_keeps}
use Rattle.mt_judge_laws.proofs.Held.{has_old_entries, is_flushed}
use Rattle.mt_judge_laws.proofs.Holding.{Holds, order_of}
use Rattle.mt_judge_laws.proofs.Since.{all_right, is_no_fill}

-- there is none in a case without
pub alone : (c : Case) (b : Bool) → c.mode.speculates ≡ false → (c.mode.speculates && b) ≡ true → ⊥
alone c b off may = let on : c.mode.speculates ≡ true = and_left c.mode.speculates b may in cc

pub alone_twice : (c : Case) (b rest : Bool) → c.mode.speculates ≡ false → (c.mode.speculates && b && rest) ≡ true → ⊥
alone_twice c b rest off may = alone c b off (and_left _ rest may)

module _ (c : Case) (fills : FillsNothing c) (first s : State) (h : Holds c first s.processors) (k : ℕ) where
  all : AllKeep s.processors s.processors
  all = all_right (order_of c) first.processors s.processors h.since

  pub translates : (page : ℕ) → may_take c s (Translate k page) ≡ true → AllKeep s.processors (taken c s (Translate k page)).processors
  translates page may = one (slice_get s.processors k) refl (and_right c.mode.speculates _ may)
    where
      one : (x : Option Processor) → slice_get s.processors k ≡ x → option_map_or (may_translate page) x false ≡ true → AllKeep s.processors (change (with_translation page) k (system_of c s)).processors
      one None at g = absurd (cc)
      one (Some p) at g = translation_keeps (system_of c s) k p at all page

  -- CD is clear, so no old entry is left, and the caches aren't flushed for good
  filling : (ph : Phase) → (is_no_fill ph ≡ true → ⊥) → (has_old_entries ph ≡ false) × (is_flushed ph ≡ false)
  filling (Writing i) h = absurd (h refl)
  filling Enabled h = absurd (h refl)
  filling Flushed h = absurd (h refl)
  filling TlbFlushed h = absurd (h refl)
  filling Flushed2 h = absurd (h refl)
  filling other h = (refl, refl)

  pub fetches : (line : ℕ) → may_take c s (Fetch k line) ≡ true → AllKeep s.processors (taken c s (Fetch k line)).processors
  fetches line may = one (slice_get s.processors k) refl (and_right (c.mode.speculates && nat_lt line (2 ^ 58)) _ may)
    where
      leaks_not : c.mode.leaks ≡ false
      leaks_not = ap (λ b. b && c.mode.leaks) (sym (and_left c.mode.speculates _ (and_left _ _ may))) ∙ fills

      off : (b : Bool) → not b ≡ true → b ≡ false
      off true g = absurd (cc)
      off false g = refl

      new : (p : Processor) → slice_get s.processors k ≡ Some p → (c.mode.leaks || not p.cache_disabled) ≡ true → (has_old_entries p.phase ≡ false) × (is_flushed p.phase ≡ false)
      new p at g = filling p.phase
          (λ fills.
          let on : p.cache_disabled ≡ true = (h.since k p at).2.disabled fills in
          let clear : p.cache_disabled ≡ false = off p.cache_disabled (ap (λ b. b || not p.cache_disabled) (sym leaks_not) ∙ g) in cc)

      one : (x : Option Processor) → slice_get s.processors k ≡ x → option_map_or (may_fetch c.mode.leaks c.layout line) x false ≡ true → AllKeep s.processors (with_fetch line k (system_of c s)).processors
      one None at g = absurd (cc)
      one (Some p) at g =
          let ready : (c.mode.leaks || not p.cache_disabled) && is_some (find_mapping (line / 64) p.mappings) ≡ true = and_left _ (option_map_or (may_fill c.layout line p) (entry_of p (line / 64)) false) g in
          let new_here = new p at (and_left _ (is_some (find_mapping (line / 64) p.mappings)) ready) in
          fetch_keeps (system_of c s) k p at all c.layout line new_here.0 new_here.1
          (and_right ((c.mode.leaks || not p.cache_disabled) && is_some (find_mapping (line / 64) p.mappings)) _ g)
