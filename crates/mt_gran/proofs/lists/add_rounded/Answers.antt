use Rattle.std.proofs.Common.{subst, ℕ}
use Rattle.mt_gran.specs.Granules.{pages_of}
use Rattle.mt_gran.specs.Listed.{runs_in}
use Rattle.mt_gran.specs.Marks.{AreRunsOf, rounded_mark}
use Rattle.mt_gran.proofs.CutMarks.{free_rounded, head_rounded, tail_rounded, whole_rounded}
use Rattle.mt_gran.proofs.lists.add_rounded.Goals as goal

pub add-count-requires-2-clause-runs : goal.add-count-requires-2-clause-runs
add-count-requires-2-clause-runs c =
    let run = c.requires.run in
    let cut = c.cut_of-cut.ensures in
    let first = c.add-count.ensures.runs (rounded_mark (pages_of c.args.f.now) c.args.g) c.requires.runs (free_rounded c.args.f.now c.args.g c.args.run.now c.cut_of-cut.result run cut) in
    (rounded_mark (pages_of c.args.f.now) c.args.g, first)

pub add-count-requires-3-clause-runs : goal.add-count-requires-3-clause-runs
add-count-requires-3-clause-runs c =
    let run = c.requires.run in
    let cut = c.cut_of-cut.ensures in
    let first = c.add-count.ensures.runs (rounded_mark (pages_of c.args.f.now) c.args.g) c.requires.runs (free_rounded c.args.f.now c.args.g c.args.run.now c.cut_of-cut.result run cut) in
    let second = c.add-count-2.ensures.runs (rounded_mark (pages_of c.args.f.now) c.args.g) first (head_rounded c.args.f.now c.args.g c.args.run.now c.cut_of-cut.result run cut) in
    (rounded_mark (pages_of c.args.f.now) c.args.g, second)

pub add-requires-clause-runs : goal.add-requires-clause-runs
add-requires-clause-runs c =
    let run = c.requires.run in
    let cut = c.cut_of-cut.ensures in
    let first = c.add-count.ensures.runs (rounded_mark (pages_of c.args.f.now) c.args.g) c.requires.runs (free_rounded c.args.f.now c.args.g c.args.run.now c.cut_of-cut.result run cut) in
    let second = c.add-count-2.ensures.runs (rounded_mark (pages_of c.args.f.now) c.args.g) first (head_rounded c.args.f.now c.args.g c.args.run.now c.cut_of-cut.result run cut) in
    let third = c.add-count-3.ensures.runs (rounded_mark (pages_of c.args.f.now) c.args.g) second (whole_rounded c.args.f.now c.args.g c.args.run.now c.cut_of-cut.result run cut) in
    (rounded_mark (pages_of c.args.f.now) c.args.g, third)

pub returns-clause-runs : goal.returns-clause-runs
returns-clause-runs c =
    let run = c.requires.run in
    let cut = c.cut_of-cut.ensures in
    let first = c.add-count.ensures.runs (rounded_mark (pages_of c.args.f.now) c.args.g) c.requires.runs (free_rounded c.args.f.now c.args.g c.args.run.now c.cut_of-cut.result run cut) in
    let second = c.add-count-2.ensures.runs (rounded_mark (pages_of c.args.f.now) c.args.g) first (head_rounded c.args.f.now c.args.g c.args.run.now c.cut_of-cut.result run cut) in
    let third = c.add-count-3.ensures.runs (rounded_mark (pages_of c.args.f.now) c.args.g) second (whole_rounded c.args.f.now c.args.g c.args.run.now c.cut_of-cut.result run cut) in
    let last = c.add.ensures.runs (rounded_mark (pages_of c.args.f.now) c.args.g) third (tail_rounded c.args.f.now c.args.g c.args.run.now c.cut_of-cut.result run cut) in
    subst (λ (n : ℕ). AreRunsOf (rounded_mark (pages_of c.args.f.now) c.args.g) 0 n (runs_in c.add.result c.add.new.list)) cut.end_is last
