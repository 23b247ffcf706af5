use Rattle.std.proofs.Common.{[], ◌∷◌, inl, refl, subst, sym}
use Rattle.mt_kinds.specs.declared.mem_type.MemType.TheVariants.{UC, WC, WT, WP, WB}
use Rattle.mt_trie.specs.declared.context.Context.TheVariants.{Has, Untouched}
use Rattle.mt_tidy.specs.Cost.{task_by}
use Rattle.mt_tidy.proofs.Choices.{Tried, tried_all, tried_none, tried_off, tried_on, tried_vain}
use Rattle.mt_tidy.proofs.block_costs.best_untouched.Goals.{then-rules, else-rules}
use Rattle.mt_tidy.proofs.block_costs.best_untouched.Goals as goal

pub returns : goal.returns
returns c = λ h are runs.
    let k = task_by c.args.rules.now runs in
    let first = tried_vain k h Untouched UC _ _ (tried_none k h Untouched c.args.halves.now.untouched (are.below Untouched) are.words.untouched) (inl are.uncached) in
    let second : Tried k h Untouched (WT ∷ WP ∷ WB ∷ []) c.if-rules.best =
    elim c.if-rules.branch [
      | then-rules w ↦
          subst (Tried k h Untouched (WT ∷ WP ∷ WB ∷ [])) (sym w.best-is)
          (tried_on k h Untouched WC _ _ first w.if-rules.true c.args.halves.now.wc are.words.wc (are.below (Has WC)) w.cheaper-best.result w.cheaper-best.ensures)
      | else-rules w ↦ subst (Tried k h Untouched (WT ∷ WP ∷ WB ∷ [])) (sym w.best-is) (tried_off k h Untouched WC _ _ first w.if-rules.false)
    ] in
    let third = tried_on k h Untouched WT _ _ second refl c.args.halves.now.wt are.words.wt (are.below (Has WT)) c.cheaper-best-2.result c.cheaper-best-2.ensures in
    let fourth = tried_on k h Untouched WP _ _ third refl c.args.halves.now.wp are.words.wp (are.below (Has WP)) c.cheaper-best-3.result c.cheaper-best-3.ensures in
    tried_all k h Untouched _ (tried_on k h Untouched WB _ _ fourth refl c.args.halves.now.wb are.words.wb (are.below (Has WB)) c.cheaper.result c.cheaper.ensures)
