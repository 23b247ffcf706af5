-- What the worked starts and their lists are.
use Rattle.std.proofs.Common.{◌≡◌, arith, refl, rules, subst, ℕ, zero, suc, Bool, false, true, List, [], ◌∷◌, ◌++◌, Some}
use Rattle.std.specs.Prelude.{slice_get}
use Rattle.std.specs.List.{All}
use Rattle.mt_machine.specs.declared.op.Op.TheVariants.{Load}
use Rattle.mt_machine.specs.System.{Processor}
use Rattle.mt_procedure.specs.declared.step.ProcedureStep.TheVariants.{Access, Pge}
use Rattle.mt_procedure.specs.declared.step.ProcedureStep.{ProcedureStep}
use Rattle.mt_procedure.specs.Runs.{Case, State, list_of}
use Rattle.mt_search.specs.Searches.{has_wrong}
use Rattle.mt_search.specs.Wrongs.{disagree}
use Rattle.mt_search.specs.WorkedWrongs.{dirty_line, mapped, with_line}
use Rattle.mt_judge_laws.specs.Manual.{IsInstruction, IsManual, IsManualList, IsRightStart, manual_list}
use Rattle.mt_judge_laws.specs.WorkedManual.{first_list, one_list, one_started, second_list, speculating, strictly, two_files, two_lists, two_processors, two_started}

pub first_is : IsManualList 2 false first_list
first_is = record { before = []; behind = Access (Load 0x1000) ∷ Pge true ∷ []; before_fit = search rules; behind_fit = search rules; is = refl }

pub second_is : IsManualList 2 true second_list
second_is = record { before = Access (Load 0x1000) ∷ []; behind = []; before_fit = search rules; behind_fit = search rules; is = refl }

pub lists_are : (k : ℕ) (p : Processor) → slice_get two_processors k ≡ Some p → IsManualList 2 p.self_snoop (list_of two_lists k)
lists_are zero p at = let e : with_line dirty_line (mapped 0x806) ≡ p = cc in subst (λ (q : Processor). IsManualList 2 q.self_snoop first_list) e first_is
lists_are (suc zero) p at = let e : record (mapped 0x806) { self_snoop = true } ≡ p = cc in subst (λ (q : Processor). IsManualList 2 q.self_snoop second_list) e second_is
lists_are (suc (suc k)) p at = absurd (cc)

-- no list without steps is one
none_empty : (before rest : List ProcedureStep) → [] ≡ before ++ (manual_list 2 false ++ rest) → ⊥
none_empty [] rest is = absurd (cc)
none_empty (t ∷ ts) rest is = absurd (cc)

pub not_empty : IsManualList 2 false [] → ⊥
not_empty h = none_empty h.before h.behind h.is

pub odd : (ts : List ProcedureStep) → ts ≡ Access (Load 0x1001) ∷ [] → All IsInstruction ts → ⊥
odd ts is fit = let low = (subst (All IsInstruction) is fit 0 (Access (Load 0)) (search rules)).0 in let e : 1 ≡ 0 = low in omega (arith, e)

-- ---- the starts

none_wrong : (has_wrong two_lists two_started ≡ false) × (has_wrong one_list one_started ≡ false)
unfolding disagree
none_wrong = (refl, refl)

pub two_right : IsRightStart two_lists two_started
two_right = record {
  quiet = record {
    sound = record { memory = search rules; coherent = record { clean = search rules; sole = search rules }; lines_in_memory = search rules; buffers_in_memory = search rules; each = search rules };
    running = search rules;
    one_era = search rules;
    one_kind = search rules;
    no_order = refl;
  };
  first = search rules;
  starts = λ strict. absurd (let e : false ≡ true = strict in cc);
  right = none_wrong.0;
}

none_strict : has_wrong (strictly two_files two_lists) two_started ≡ false
unfolding disagree
none_strict = refl

pub two_strict : IsRightStart (strictly two_files two_lists) two_started
two_strict = record { quiet = two_right.quiet; first = two_right.first; starts = λ strict. refl; right = none_strict }

pub one_right : IsRightStart one_list one_started
one_right = record {
  quiet = record {
    sound = record { memory = search rules; coherent = record { clean = search rules; sole = search rules }; lines_in_memory = search rules; buffers_in_memory = search rules; each = search rules };
    running = search rules;
    one_era = search rules;
    one_kind = search rules;
    no_order = refl;
  };
  first = search rules;
  starts = λ strict. absurd (let e : false ≡ true = strict in cc);
  right = none_wrong.1;
}

pub none_alone : (has_wrong (speculating false two_lists) two_started ≡ false) × (has_wrong (speculating true one_list) one_started ≡ false)
unfolding disagree
none_alone = (refl, refl)

pub two_manual : IsManual two_lists two_started
two_manual = record { few = search rules; goal = search rules; lists = lists_are; places = refl; arrived = refl }

alone_is : IsManualList 1 true (manual_list 1 true)
alone_is = record { before = []; behind = []; before_fit = search rules; behind_fit = search rules; is = refl }

lists_of_one : (k : ℕ) (p : Processor) → slice_get one_started.processors k ≡ Some p → IsManualList 1 p.self_snoop (list_of one_list k)
lists_of_one zero p at = let e : record (mapped 0x806) { self_snoop = true } ≡ p = cc in subst (λ (q : Processor). IsManualList 1 q.self_snoop (manual_list 1 true)) e alone_is
lists_of_one (suc k) p at = absurd (cc)

pub one_manual : IsManual one_list one_started
one_manual = record { few = search rules; goal = search rules; lists = lists_of_one; places = refl; arrived = refl }

-- what processors do by themselves changes neither
pub right_alone : (leaks : Bool) (c : Case) (s : State) → has_wrong (speculating leaks c) s ≡ false → IsRightStart c s → IsRightStart (speculating leaks c) s
right_alone leaks c s right h = record { quiet = h.quiet; first = h.first; starts = h.starts; right = right }

pub manual_alone : (leaks : Bool) (c : Case) (s : State) → IsManual c s → IsManual (speculating leaks c) s
manual_alone leaks c s h = record { few = h.few; goal = h.goal; lists = h.lists; places = h.places; arrived = h.arrived }
