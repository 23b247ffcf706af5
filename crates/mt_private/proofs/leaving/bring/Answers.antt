use Rattle.std.proofs.Common.{◌∙◌, ap, sym, subst, ◌++◌, List, [], ◌∷◌, length}
use Rattle.mt_types.specs.Tables.{TypeTable}
use Rattle.mt_machine.specs.System.{Processor, System}
use Rattle.mt_bus.specs.Tables.{AreTablesOf}
use Rattle.mt_private.specs.Left.{over, word_by_word}
use Rattle.mt_private.proofs.Left.{more_tables, one_left}
use Rattle.mt_private.proofs.leaving.bring.Goals as goal

pub put_words-requires : goal.put_words-requires
put_words-requires c = ap (λ (s : System). length s.memory.words) c.into_parts-cpus.ensures.value ∙ c.requires.words

pub returns-clause-processors : goal.returns-clause-processors
returns-clause-processors c =
    let one = ap (λ (s : System). length s.processors) c.into_parts-cpus.ensures.value ∙ c.requires.one in
    c.push_reserved.ensures.items
    ∙ ap (λ (ps : List Processor). c.args.rest.now.cpus.items ++ ps)
    (sym (one_left c.into_parts-cpus.result.cpus.items c.pop.new.self.items c.in-Some.cpu c.in-Some.ensures.items one) ∙ ap (λ (s : System). s.processors) c.into_parts-cpus.ensures.value)

pub returns-clause-tables : goal.returns-clause-tables
returns-clause-tables c =
    let one = ap (λ (s : System). length s.processors) c.into_parts-cpus.ensures.value ∙ c.requires.one in
    let cpus = one_left c.into_parts-cpus.result.cpus.items c.pop.new.self.items c.in-Some.cpu c.in-Some.ensures.items one in
    let tables = one_left c.into_parts-cpus.result.tables.items c.pop-2.new.self.items c.in-Some-pop.table c.in-Some-pop.ensures.items (c.into_parts-cpus.ensures.whole.tables.count ∙ one) in
    subst (λ (x : List Processor × List TypeTable). AreTablesOf x.0 x.1) (λ i. (sym c.push_reserved.ensures.items i, sym c.push_reserved-2.ensures.items i))
    (more_tables c.args.rest.now.cpus.items (c.in-Some.cpu ∷ []) c.args.rest.now.tables.items (c.in-Some-pop.table ∷ []) c.requires.tables
    (subst (λ (x : List Processor × List TypeTable). AreTablesOf x.0 x.1) (λ i. (cpus i, tables i)) c.into_parts-cpus.ensures.whole.tables))

pub returns-clause-words : goal.returns-clause-words
returns-clause-words c =
    c.put_words.ensures
    ∙ ap (λ (s : System). record { windows = c.args.rest.now.ram.windows; words = word_by_word over s.memory.words c.args.rest.now.ram.words }) c.into_parts-cpus.ensures.value
