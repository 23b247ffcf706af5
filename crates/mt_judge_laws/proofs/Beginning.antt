-- What a right start keeps, whatever the lists are.
use Rattle.std.proofs.Common.{◌≡◌, ◌∙◌, ap, refl, sym, subst, inl, arith, ℕ, true, false, List, [], ◌∷◌, None, Some}
use Rattle.std.specs.Prelude.{nat_lt, not, slice_get}
use Rattle.std.specs.List.{All, list_all}
use Rattle.std.proofs.lemmas.List.Elements.{All-head}
use Rattle.std.proofs.lemmas.List.Sums.{list_all-from_AllPass}
use Rattle.mt_tlb.specs.declared.entry.Entry.{Entry}
use Rattle.mt_machine.specs.declared.go.Go.TheVariants.{Given}
use Rattle.mt_machine.specs.declared.phase.Phase.TheVariants.{Running}
use Rattle.mt_machine.specs.Access.{is_running}
use Rattle.mt_machine.specs.Machine.{Calls, FitsGoal, Goes, Reached, after, at_start, common_era, has_released, remaining_order}
use Rattle.mt_machine.specs.Start.{IsStart}
use Rattle.mt_machine.specs.System.{IsProcessor, Processor, is_tlb_flushed, is_writing}
use Rattle.mt_machine.proofs.Files.{alike_files}
use Rattle.mt_laws.proofs.Barrier.Claims.{all_get}
use Rattle.mt_laws.proofs.Barrier.Ranks.{At, Guarded, is_ahead, processor_at, rank}
use Rattle.mt_laws.proofs.Barrier.Stages.{Stage, stages_of}
use Rattle.mt_laws.proofs.Registers.Filed.{AllFiled, is_done}
use Rattle.mt_procedure.specs.Runs.{Case, State, system_of}
use Rattle.mt_search.specs.Searches.{has_wrong}
use Rattle.mt_judge_laws.specs.Manual.{IsRightStart, at_rest, machine_of, MayCall}
use Rattle.mt_judge_laws.proofs.Holding.{order_of, Holds}
use Rattle.mt_judge_laws.proofs.Right.{AllRun, NoneWrong, Senses, none_wrong, nothing_wrong, running_is, start_agrees, start_right, stays_right}
use Rattle.mt_judge_laws.proofs.Known.{known_first}
use Rattle.mt_judge_laws.proofs.Held.{HoldsRight}
use Rattle.mt_judge_laws.proofs.Since.{AllSince, is_between, is_no_fill}

-- ---- lists

common_zero : (ps : List Processor) → All (λ p. p.era ≡ 0) ps → common_era ps ≡ 0
common_zero [] all = refl
common_zero (p ∷ ps) all = All-head (λ (q : Processor). q.era ≡ 0) p ps all

entries_local : (es : List Entry) → All (λ (e : Entry). e.global ≡ false) es → list_all (λ (e : Entry). not e.global) es ≡ true
entries_local es all = list_all-from_AllPass (λ (e : Entry). not e.global) es (λ k d within. ap not (all k d within))

-- ---- the start

module _ (senses : Senses) (c : Case) (s : State) (right : IsRightStart c s) (goal : MayCall c s) where
  pub start_is : IsStart (at_rest c s)
  start_is = inl right.quiet

  runs : AllRun s.processors
  runs i p at = all_get (λ (q : Processor). is_running q.phase ≡ true) s.processors right.quiet.running i p at

  phase_is : (i : ℕ) (p : Processor) → slice_get s.processors i ≡ Some p → p.phase ≡ Running
  phase_is i p at = running_is p.phase (runs i p at)

  era_is : (i : ℕ) (p : Processor) → slice_get s.processors i ≡ Some p → p.era ≡ 0
  era_is i p at = all_get (λ (q : Processor). q.era ≡ 0) s.processors right.first i p at

  behind : (i : ℕ) (p : Processor) → slice_get s.processors i ≡ Some p → has_released (order_of c) p ≡ false
  behind i p at = ap (nat_lt 0) (era_is i p at)

  pub stage_is : (i : ℕ) (x : Stage) → At (stages_of s.processors) i x → x ≡ (Running, 0)
  stage_is i x at =
      let found = processor_at s.processors i x at in
      sym found.2 ∙ (λ j. (phase_is i found.0 found.1 j, era_is i found.0 found.1 j))

  pub reaches : Reached (at_rest c s) (machine_of c s)
  reaches =
      subst (λ (era : ℕ). Reached (at_rest c s) (record { system = system_of c s; order = remaining_order (record { goal = c.goal; from_era = era; go = Given }) s.processors }))
      (common_zero s.processors right.first)
      (after Goes (after (Calls c.goal) at_start goal) refl)

  low : (i : ℕ) (x : Stage) → At (stages_of s.processors) i x → rank (order_of c) x ≡ 0
  low i x at = ap (rank (order_of c)) (stage_is i x at)

  guards : Guarded (order_of c) (stages_of s.processors)
  guards = record {
    first = λ i j x y at_x at_y h. absurd (let z = low i x at_x in omega (arith, z, h));
    second = λ i j x y at_x at_y h. absurd (let z = low i x at_x in omega (arith, z, h));
    given = λ i x at h. refl;
    in_step = λ i x at still. ap (is_ahead (order_of c)) (stage_is i x at);
    eras = λ i x at. inl (ap (λ (y : Stage). y.1) (stage_is i x at));
  }

  files : AllFiled (Some (order_of c)) s.processors
  files = (
    goal.1,
    λ i p at.
        let fit = all_get (FitsGoal c.goal) s.processors goal.3 i p at in
        let phase = phase_is i p at in
        let late = behind i p at in
        record {
          alike = alike_files c.goal p.file goal.1 (all_get IsProcessor s.processors right.quiet.sound.each i p at).register_file (sym fit.width) (sym fit.capabilities);
          writing = λ j h. absurd (let none : is_writing p.phase ≡ None = ap is_writing phase in cc);
          done = λ h. absurd (let none : is_done p.phase ≡ false = ap is_done phase in cc);
          released = λ h. absurd (cc);
        },
  )

  none : NoneWrong c s.processors
  none = none_wrong senses c s right.right

  right_first : (i : ℕ) (p : Processor) → slice_get s.processors i ≡ Some p → HoldsRight p
  right_first i p at = start_right c s.processors runs none i p at (λ off. entries_local p.entries ((all_get IsProcessor s.processors right.quiet.sound.each i p at).local_entries off))

  since : AllSince (order_of c) s.processors s.processors
  since i p at =
      let phase = phase_is i p at in (
        p,
        at,
        record {
          mappings = refl;
          self_snoop = refl;
          file = λ h. refl;
          off = λ h. absurd (let whole : is_between p.phase ≡ false = ap is_between phase in cc);
          disabled = λ h. absurd (let off : is_no_fill p.phase ≡ false = ap is_no_fill phase in cc);
          local = λ h. absurd (let off : is_tlb_flushed p.phase ≡ false = ap is_tlb_flushed phase in cc);
          right = right_first i p at;
          known = known_first c.goal p (runs i p at) (right_first i p at);
        },
      )

  pub holds_first : Holds c s s.processors
  holds_first = record { guarded = guards; filed = files; since = since }

  -- nothing is wrong where that is kept
  pub right_in : (t : State) → Holds c s t.processors → has_wrong c t ≡ false
  right_in t h =
      nothing_wrong senses c t (stays_right (order_of c) s.processors t.processors (start_agrees c s.processors runs none) h.guarded h.filed h.since c refl right.starts)
