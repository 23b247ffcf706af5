use Rattle.mt_import.proofs.Takes.{line_tried}
use Rattle.mt_import.proofs.tries.Tries.take.Goals as goal

pub returns-clause-tried : goal.returns-clause-tried
returns-clause-tried c = λ start facts contexts.
    rw (← c.self.view_is) (λ held less.
    line_tried c.args.pick c.args.supplied.now start facts contexts (record { current = c.self.inside.current; outside = c.self.inside.outside; way = c.self.inside.way }) c.args.told.now c.reads-is_read.result
    c.begin.new.self c.take.new.self c.take-2.new.self c.behind-way.result c.behind-way.ensures c.begin.ensures c.reads-is_read.ensures (c.take.ensures start) (c.take-2.ensures start) less held)
