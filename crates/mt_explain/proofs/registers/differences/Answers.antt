use Rattle.std.proofs.Common.{◌≡◌, ◌∷◌, ◌++◌, [], List, append_assoc, append-nil, arith, sym, subst, ◌∙◌, ap}
use Rattle.mt_explain.specs.declared.difference.Difference.{Difference}
use Rattle.mt_explain.specs.Differences.{AreDifferencesFrom, IsDifference}
use Rattle.mt_explain.proofs.Differing.{added, from_first, passed, past_last}
use Rattle.mt_explain.proofs.registers.differences.Goals as goal
use Rattle.mt_explain.proofs.registers.differences.Goals.{else-not-same_value, then-not-same_value+in_ok-push}

pub loop-msr-init : goal.loop-msr-init
loop-msr-init c = λ ds are.
    let P : List Difference → Type 0 = λ list. AreDifferencesFrom c.args.old.now c.args.new.now 0 (list ++ ds) in
    subst P (sym c.new-list.ensures.items) (from_first c.args.old.now c.args.new.now c.is_register_file.ensures c.is_register_file-2.ensures ds are)

pub loop-msr-preserved : goal.loop-msr-preserved
loop-msr-preserved c = λ ds are.
    let old = c.args.old.now in
    let new = c.args.new.now in
    let before = c.loop-msr.list.items in
    let P : List Difference → Type 0 = λ list. AreDifferencesFrom old new 0 list in
    elim c.if-not-same_value.branch [
      | then-not-same_value+in_ok-push w ↦
          let d : Difference = record { msr = c.loop-msr.msr; old = c.get-old.result; new = c.get-new.result } in
          let is : IsDifference old new d = record { old_value = c.get-old.ensures; new_value = c.get-new.ensures; differs = λ same. absurd (cc (c.same_value.ensures.1 same, w.if-not-same_value.true)) } in
          let items : c.if-not-same_value.list.items ≡ before ++ d ∷ [] = cc (w.list-is, w.in_ok-push.ensures.items) in
          subst P (sym (append_assoc before (d ∷ []) ds) ∙ ap (λ (list : List Difference). list ++ ds) (sym items)) (c.loop-msr.invariant (d ∷ ds) (added old new d ds is are))
      | else-not-same_value w ↦
          let items : c.if-not-same_value.list.items ≡ before = cc (w.list-is) in
          let same : c.get-old.result ≡ c.get-new.result = c.same_value.ensures.0 w.if-not-same_value.false in
          subst P (ap (λ (list : List Difference). list ++ ds) (sym items))
          (c.loop-msr.invariant ds (passed old new c.loop-msr.msr c.get-old.result c.get-new.result ds c.get-old.ensures c.get-new.ensures same are))
    ]

pub returns : goal.returns
returns c =
    let P : List Difference → Type 0 = λ list. AreDifferencesFrom c.args.old.now c.args.new.now 0 list in
    subst P (append-nil c.loop-msr.list.items)
    (c.loop-msr.invariant [] (λ number from. past_last c.args.old.now c.args.new.now c.is_register_file.ensures c.is_register_file-2.ensures number (omega (arith, from, c.loop-msr.auto.msr, c.loop-msr-test.false))))
