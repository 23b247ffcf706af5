use Rattle.std.proofs.Common.{◌∙◌, ap, slice_get, subst, sym}
use Rattle.mt_machine.specs.System.{IsSound, System}
use Rattle.mt_machine.specs.Machine.{before_own, step}
use Rattle.mt_bus.specs.Tables.{AreTablesOf}
use Rattle.mt_bus.proofs.Changed.{processor_of}
use Rattle.mt_bus.proofs.Stepping.{shift_leaves}
use Rattle.mt_bus.proofs.Tables.{tables_before}
use Rattle.mt_bus.proofs.system.System.do_shift.Goals as goal

pub do_shift-requires-clause-shift : goal.do_shift-requires-clause-shift
do_shift-requires-clause-shift c p at = c.requires.shift p (ap (λ (s : System). slice_get s.processors c.args.k) (sym c.self.view_is) ∙ at)

pub do_shift-requires-clause-ready : goal.do_shift-requires-clause-ready
do_shift-requires-clause-ready c p at = c.requires.ready p (ap (λ (s : System). slice_get (before_own c.args.e c.args.k s).processors c.args.k) (sym c.self.view_is) ∙ at)

pub invariant_of-self : goal.invariant_of-self
invariant_of-self c =
    let goal = c.requires.keeps.0 in
    let t = c.requires.keeps.1.0 in
    let keeps = c.requires.keeps.1.1 in
    let here = processor_of c.args.self.now.processors c.args.k c.requires.processor in
    let ts = c.self.inside.tables.items in
    subst (λ (s : System). IsSound s × AreTablesOf s.processors ts) (sym (c.do_shift.ensures goal ∙ ap (step goal c.args.e c.args.k) c.self.view_is)) (
      keeps.sound,
      subst (AreTablesOf (step goal c.args.e c.args.k c.args.self.now).processors) (shift_leaves c.args.e here.0.phase c.args.k t ts (c.requires.shift here.0 here.1))
          (keeps.tables ts (tables_before c.args.e c.args.k c.args.self.now ts (subst (λ (s : System). AreTablesOf s.processors ts) c.self.view_is c.self.invariant.1))),
    )

pub returns : goal.returns
returns c = λ goal. c.do_shift.ensures goal ∙ ap (step goal c.args.e c.args.k) c.self.view_is
