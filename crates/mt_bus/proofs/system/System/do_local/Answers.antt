use Rattle.std.proofs.Common.{◌≡◌, ◌∙◌, ◌++◌, ap, drop, length, rules, slice_get, subst, sym, take}
use Rattle.std.proofs.lemmas.List.{take_at}
use Rattle.mt_machine.specs.System.{IsSound, System}
use Rattle.mt_machine.specs.Machine.{step}
use Rattle.mt_bus.specs.Steps.{IsDueAlone, tables_after}
use Rattle.mt_bus.specs.Tables.{AreTablesOf}
use Rattle.mt_bus.proofs.Stepping.{low_of}
use Rattle.mt_bus.proofs.Tables.{tables_before}
use Rattle.mt_bus.proofs.system.System.do_local.Goals as goal

pub do_local-e-requires-clause-between : goal.do_local-e-requires-clause-between
do_local-e-requires-clause-between c p at = c.requires.between p (ap (λ (s : System). slice_get s.processors c.args.k) (sym c.self.view_is) ∙ at)

pub do_local-e-requires-clause-numbers : goal.do_local-e-requires-clause-numbers
do_local-e-requires-clause-numbers c p at = low_of c.self.inside.bus c.self.invariant.0 c.args.k p at

pub returns-clause-event : goal.returns-clause-event
returns-clause-event c = subst (λ (s : System). IsDueAlone c.args.k s c.do_local-e.result) c.self.view_is c.do_local-e.ensures.event

pub invariant_of-self : goal.invariant_of-self
invariant_of-self c =
    let e = c.do_local-e.result in
    let ts = c.self.inside.tables.items in
    let keeps = c.requires.keeps e (subst (λ (s : System). IsDueAlone c.args.k s e) c.self.view_is c.do_local-e.ensures.event) in
    let stepped : c.do_local-e.new.self ≡ step c.args.goal.now e c.args.k c.args.self.now = c.do_local-e.ensures.step ∙ ap (step c.args.goal.now e c.args.k) c.self.view_is in
    let renewed : c.renew_table.new.tables ≡ tables_after e c.args.k c.args.kinds.now ts =
    c.renew_table.ensures ∙ ap (tables_after e c.args.k c.args.kinds.now) c.as_mut_slice.ensures.value in
    subst (λ (s : System). IsSound s × AreTablesOf s.processors (take c.self.inside.tables.len (c.renew_table.new.tables ++ drop (length c.renew_table.new.tables) ts))) (sym stepped) (
      keeps.sound,
      subst (AreTablesOf (step c.args.goal.now e c.args.k c.args.self.now).processors)
          (sym (take_at c.renew_table.new.tables (drop (length c.renew_table.new.tables) ts) c.self.inside.tables.len (search rules) ∙ renewed))
          (keeps.tables ts (tables_before e c.args.k c.args.self.now ts (subst (λ (s : System). AreTablesOf s.processors ts) c.self.view_is c.self.invariant.1))),
    )
