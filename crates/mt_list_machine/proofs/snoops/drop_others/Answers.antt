use Rattle.std.proofs.Common.{◌∙◌, ◌++◌, ◌≤◌, [], ap, arith, length, sym, take, List}
use Rattle.std.proofs.lemmas.List.{append-nil, drop_all, take_all}
use Rattle.mt_cache.specs.Lines.{without_line}
use Rattle.mt_machine.specs.Bus.{others_from, with_lines}
use Rattle.mt_machine.specs.System.{Processor}
use Rattle.mt_list_machine.proofs.snoops.drop_others.Goals as goal

pub returns : goal.returns
returns c =
    let past : length c.loop-i.cpus ≤ c.loop-i.i = omega arith in
    sym (ap (λ (xs : List Processor). xs ++ []) (take_all c.loop-i.i c.loop-i.cpus past) ∙ append-nil c.loop-i.cpus)
    ∙ ap (λ (xs : List Processor). take c.loop-i.i c.loop-i.cpus ++ others_from c.loop-i.i c.args.k (with_lines (without_line c.args.number)) xs) (sym (drop_all c.loop-i.i c.loop-i.cpus past))
    ∙ c.loop-i.invariant
