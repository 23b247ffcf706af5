use Rattle.std.proofs.Common.{◌==◌, not, rules}
use Rattle.std.proofs.lemmas.Fn.{filter_same}
use Rattle.mt_tlb.specs.declared.entry.Entry.{Entry}
use Rattle.mt_list_machine.proofs.controls.without_page.Goals as goal

pub returns : goal.returns
returns c = filter_same _ (λ (e : Entry). not (e.vpage == c.args.vpage)) _ (λ x b f' k. search rules) _ _ c.retain.ensures.filtered
