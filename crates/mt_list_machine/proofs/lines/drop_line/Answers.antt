use Rattle.std.proofs.Common.{◌==◌, not, rules}
use Rattle.std.proofs.lemmas.Fn.{filter_same}
use Rattle.mt_cache.specs.declared.line.CacheLine.{CacheLine}
use Rattle.mt_list_machine.proofs.lines.drop_line.Goals as goal

pub returns : goal.returns
returns c = filter_same _ (λ (l : CacheLine). not (l.number == c.args.number)) _ (λ x b f' k. search rules) _ _ c.retain.ensures.filtered
