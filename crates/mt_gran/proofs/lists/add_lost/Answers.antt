use Rattle.std.proofs.Common.{◌≢◌, ℕ, refl, subst, arith}
use Rattle.mt_kinds.specs.declared.mem_type.MemType.TheVariants.{UC}
use Rattle.mt_regs.specs.declared.page_type.PageType.TheVariants.{Kind}
use Rattle.mt_types.specs.Runs.{run_end}
use Rattle.mt_gran.specs.Granules.{pages_of}
use Rattle.mt_gran.specs.Listed.{runs_in}
use Rattle.mt_gran.specs.Marks.{AreRunsOf, lost_mark}
use Rattle.mt_gran.proofs.RunsOf.{pass}
use Rattle.mt_gran.proofs.CutMarks.{free_lost, head_lost, tail_lost, uncacheable_lost, whole_lost}
use Rattle.mt_gran.proofs.lists.add_lost.Goals as goal

pub returns-then-is-clause-runs : goal.returns-then-is-clause-runs
returns-then-is-clause-runs c =
    pass (lost_mark (pages_of c.args.f.now) c.args.g) 0 c.args.run.now.first (run_end c.args.run.now) (runs_in c.args.count c.args.list.now) (omega arith) c.requires.runs
    (uncacheable_lost c.args.f.now c.args.g c.args.run.now c.requires.run (c.if-is.ensures.0 refl))

pub add-count-requires-clause-runs : goal.add-count-requires-clause-runs
add-count-requires-clause-runs c =
    let run = c.requires.run in
    let cut = c.cut_of-cut.ensures in
    let other : c.args.run.now.kind ≢ Kind UC = λ same. let h = c.if-is.ensures.1 same in absurd (cc) in
    let start = pass (lost_mark (pages_of c.args.f.now) c.args.g) 0 c.args.run.now.first c.cut_of-cut.result.free_end (runs_in c.args.count c.args.list.now) cut.begins c.requires.runs
    (free_lost c.args.f.now c.args.g c.args.run.now c.cut_of-cut.result run cut other) in
    (lost_mark (pages_of c.args.f.now) c.args.g, start)

pub add-requires-clause-runs : goal.add-requires-clause-runs
add-requires-clause-runs c =
    let run = c.requires.run in
    let cut = c.cut_of-cut.ensures in
    let other : c.args.run.now.kind ≢ Kind UC = λ same. let h = c.if-is.ensures.1 same in absurd (cc) in
    let start = pass (lost_mark (pages_of c.args.f.now) c.args.g) 0 c.args.run.now.first c.cut_of-cut.result.free_end (runs_in c.args.count c.args.list.now) cut.begins c.requires.runs
    (free_lost c.args.f.now c.args.g c.args.run.now c.cut_of-cut.result run cut other) in
    let first = c.add-count.ensures.runs (lost_mark (pages_of c.args.f.now) c.args.g) start (head_lost c.args.f.now c.args.g c.args.run.now c.cut_of-cut.result run cut other) in
    let second = pass (lost_mark (pages_of c.args.f.now) c.args.g) 0 c.cut_of-cut.result.whole_from c.cut_of-cut.result.whole_to (runs_in c.add-count.result c.add-count.new.list) cut.tail_begins first
    (whole_lost c.args.f.now c.args.g c.args.run.now c.cut_of-cut.result run cut other) in
    (lost_mark (pages_of c.args.f.now) c.args.g, second)

pub returns-clause-runs : goal.returns-clause-runs
returns-clause-runs c =
    let run = c.requires.run in
    let cut = c.cut_of-cut.ensures in
    let other : c.args.run.now.kind ≢ Kind UC = λ same. let h = c.if-is.ensures.1 same in absurd (cc) in
    let start = pass (lost_mark (pages_of c.args.f.now) c.args.g) 0 c.args.run.now.first c.cut_of-cut.result.free_end (runs_in c.args.count c.args.list.now) cut.begins c.requires.runs
    (free_lost c.args.f.now c.args.g c.args.run.now c.cut_of-cut.result run cut other) in
    let first = c.add-count.ensures.runs (lost_mark (pages_of c.args.f.now) c.args.g) start (head_lost c.args.f.now c.args.g c.args.run.now c.cut_of-cut.result run cut other) in
    let second = pass (lost_mark (pages_of c.args.f.now) c.args.g) 0 c.cut_of-cut.result.whole_from c.cut_of-cut.result.whole_to (runs_in c.add-count.result c.add-count.new.list) cut.tail_begins first
    (whole_lost c.args.f.now c.args.g c.args.run.now c.cut_of-cut.result run cut other) in
    let last = c.add.ensures.runs (lost_mark (pages_of c.args.f.now) c.args.g) second (tail_lost c.args.f.now c.args.g c.args.run.now c.cut_of-cut.result run cut other) in
    subst (λ (n : ℕ). AreRunsOf (lost_mark (pages_of c.args.f.now) c.args.g) 0 n (runs_in c.add.result c.add.new.list)) cut.end_is last
