use Rattle.std.proofs.Common.{◌∙◌, ap, sym, List}
use Rattle.mt_cache.specs.declared.line.CacheLine.{CacheLine}
use Rattle.mt_cache.specs.Lines.{without_line}
use Rattle.mt_bus.proofs.Lines.{without_cleaned}
use Rattle.mt_bus.proofs.snoops.drop_in.Goals as goal

pub returns-clause-read : goal.returns-clause-read
returns-clause-read c =
    ap (λ (ls : List CacheLine). record c.args.cpu.now { lines = ls })
    (c.drop_copy.ensures.cache ∙ ap (without_line c.args.number) c.cache_mut.ensures.value ∙ sym (without_cleaned c.args.number c.args.cpu.now.lines))
