use Rattle.std.proofs.Common.{◌∙◌, refl, subst, sym, Option}
use Rattle.mt_output.specs.Ports.{change, held}
use Rattle.mt_map.specs.declared.asked.Asked.{Asked}
use Rattle.mt_map.specs.Map.{Maps}
use Rattle.mt_map.proofs.program.MapperProgram.run.Goals as goal

pub returns-clause-ends : goal.returns-clause-ends
returns-clause-ends g c =
    let left = g.S.Source.left c.map.new.source in
    let old = g.K.Sink.taken c.args.sink.now in
    let new = g.K.Sink.taken c.map.new.sink in
    record {
      maps = λ bytes is. subst (λ (asked : Option Asked). Maps asked (held bytes left) (change old new) c.map.result) c.asked_by.ensures (c.map.ensures.maps bytes is);
      unread = λ not. c.map.ensures.unread (λ is. not (sym c.asked_by.ensures ∙ is));
      read_fault = c.map.ensures.read_fault;
      write_fault = c.map.ensures.write_fault;
      too_long = c.map.ensures.too_long;
      errors_stay = refl;
    }
