use Rattle.mt_judge.proofs.Courses.{path_told}
use Rattle.mt_judge.proofs.one_run.told_run.Goals as goal

pub returns : goal.returns
returns c = record {
  runs = c.requires;
  start = c.in_ok-wrongs.ensures.list;
  told = path_told c.args.case.now c.args.start.now c.args.path.now c.in_ok-run.run' c.path.new.self c.tell_end.new.self.told.items c.in_ok-run.ensures.state c.in_ok-run.ensures.told c.requires
      c.in_ok-path.ensures c.in_ok-tell_end.ensures;
}
