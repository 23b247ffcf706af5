use Rattle.mt_mend.proofs.Writing.{known_set}
use Rattle.mt_mend.proofs.steps.put.Goals as goal

pub returns : goal.returns
returns c = record {
  file = known_set c.args.file.now c.set.new.self c.args.number c.args.value c.requires c.set.result c.set.ensures;
  writes = c.in_ok-push.ensures.items;
}
