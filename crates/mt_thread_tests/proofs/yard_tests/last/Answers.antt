use Rattle.std.proofs.Common.{◌≡◌, ◌∙◌, ap, ℕ, List, ◌++◌, length, Option, None, Some, rules}
use Rattle.std.specs.Prelude.{IfSome, option_to_list, slice_get}
use Rattle.mt_private.specs.declared.visiting.Guest.{Guest}
use Rattle.mt_private.specs.InYard.{IsGatheredIn}
use Rattle.mt_private.proofs.Copies.{at_back, at_front}
use Rattle.mt_thread_tests.proofs.yard_tests.last.Goals as goal

popped : (P : ℕ → Guest → Type 0) (old new : List Guest) (o : Option Guest) → old ≡ new ++ option_to_list o → ((k : ℕ) (g : Guest) → slice_get old k ≡ Some g → P k g) → IfSome o (P (length new))
popped P old new None e all = search rules
popped P old new (Some g) e all = all (length new) g (ap (λ l. slice_get l (length new)) e ∙ at_back new g)

pub returns-clause-gathered : goal.returns-clause-gathered
returns-clause-gathered c =
    popped (IsGatheredIn c.args.yard.now) c.args.waiting.now.items c.pop.new.self.items c.pop.result c.pop.ensures.items c.requires

pub returns-clause-rest : goal.returns-clause-rest
returns-clause-rest c k g at = c.requires k g (ap (λ l. slice_get l k) c.pop.ensures.items ∙ at_front c.pop.new.self.items (option_to_list c.pop.result) k g at)
