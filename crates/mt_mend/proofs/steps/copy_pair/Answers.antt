use Rattle.std.proofs.Common.{arith}
use Rattle.mt_mend.specs.Courses.{course}
use Rattle.mt_mend.proofs.Writing.{agreeing_pair, apart_by, copied_pair, kind_copied, kind_switched}
use Rattle.mt_mend.proofs.steps.copy_pair.Goals as goal

pub returns-then-agree_in_pair : goal.returns-then-agree_in_pair
returns-then-agree_in_pair c = λ old way.
    let same = c.agree_in_pair.ensures.same c.if-agree_in_pair.true in
    agreeing_pair old c.args.new.now c.args.n c.requires.pair c.is_register_file.ensures (course c.args.file.now c.args.list.now.items) way same.0 same.1

pub copy-requires-clause-kind : goal.copy-requires-clause-kind
copy-requires-clause-kind c =
    kind_switched c.args.new.now (course c.args.file.now c.args.list.now.items) (course c.switch_off.new.file c.switch_off.new.list.items) _ c.is_register_file-2.ensures (omega arith)
    c.requires.kind c.in_ok-switch_off.ensures

pub copy-requires-2-clause-kind : goal.copy-requires-2-clause-kind
copy-requires-2-clause-kind c =
    kind_copied c.args.new.now (course c.switch_off.new.file c.switch_off.new.list.items) (course c.copy.new.file c.copy.new.list.items) _ c.is_register_file-3.ensures (omega arith)
    (kind_switched c.args.new.now (course c.args.file.now c.args.list.now.items) (course c.switch_off.new.file c.switch_off.new.list.items) _ c.is_register_file-2.ensures (omega arith)
    c.requires.kind c.in_ok-switch_off.ensures) c.in_ok-copy.ensures

pub returns : goal.returns
returns c = λ old way.
    let first = course c.args.file.now c.args.list.now.items in
    let differ = c.agree_in_pair.ensures.differ c.if-agree_in_pair.false in
    let apart = apart_by old c.args.new.now c.args.n c.requires.pair c.is_register_file.ensures first way differ in
    copied_pair old c.args.new.now c.args.n c.requires.pair c.is_register_file.ensures first (course c.switch_off.new.file c.switch_off.new.list.items)
    (course c.copy.new.file c.copy.new.list.items) (course c.copy-2.new.file c.copy-2.new.list.items) apart way
    c.in_ok-switch_off.ensures c.in_ok-copy.ensures c.in_ok-copy-2.ensures
