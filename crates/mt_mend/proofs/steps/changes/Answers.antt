use Rattle.std.proofs.Common.{◌≡◌, ◌+◌, ◌*◌, List, subst, sym, arith}
use Rattle.mt_mend.specs.Courses.{IsOnWay, course}
use Rattle.mt_mend.specs.declared.write.Write.{Write}
use Rattle.mt_mend.specs.Writes.{AreNamed, AreWrites}
use Rattle.mt_mend.proofs.Writing.{copied_last, copied_other, set_off}
use Rattle.mt_mend.proofs.steps.changes.Goals as goal

pub loop-n-init : goal.loop-n-init
loop-n-init c =
    set_off c.args.old.now c.args.new.now (course c.same-file.result c.new-list.result.items) (course c.switch_off.new.file c.switch_off.new.list.items)
    c.is_register_file.ensures c.is_register_file-2.ensures c.requires.kind (λ same. absurd (cc (c.are_equal.ensures.1 same, c.if-are_equal.false)))
    c.same-file.ensures c.new-list.ensures.items c.in_ok-switch_off.ensures

pub loop-n-preserved : goal.loop-n-preserved
loop-n-preserved c =
    let way = c.in_ok-copy_pair.ensures c.args.old.now c.loop-n.invariant in
    let at : 0x202 + 2 * c.loop-n.n ≡ 0x200 + 2 * (c.loop-n.n + 1) = omega arith in
    subst (λ k. IsOnWay c.args.old.now c.args.new.now (course c.copy_pair.new.file c.copy_pair.new.list.items) k) at way

pub loop-number-init : goal.loop-number-init
loop-number-init c =
    let at : 0x200 + 2 * c.loop-n.n ≡ 0x200 + 2 * c.pair_count-pairs.result = omega (arith, c.loop-n-test.false, c.loop-n.auto.n-end) in
    subst (λ k. IsOnWay c.args.old.now c.args.new.now (course c.loop-n.file c.loop-n.list.items) k) at c.loop-n.invariant

pub loop-number-preserved : goal.loop-number-preserved
loop-number-preserved c =
    copied_other c.args.old.now c.args.new.now (course c.loop-number.file c.loop-number.list.items) (course c.copy.new.file c.copy.new.list.items) c.loop-number.number
    (omega (arith, c.pair_count-pairs.ensures.count, c.loop-number.auto.number)) (omega (arith, c.loop-number-test.true)) c.is_register_file-2.ensures
    c.loop-number.invariant c.in_ok-copy.ensures

pub returns-then-are_equal-clause-writes : goal.returns-then-are_equal-clause-writes
returns-then-are_equal-clause-writes c =
    subst (λ (ws : List Write). AreWrites c.args.old.now ws c.args.new.now) (sym c.new-list.ensures.items) (c.are_equal.ensures.0 c.if-are_equal.true)

pub returns-then-are_equal-clause-named : goal.returns-then-are_equal-clause-named
returns-then-are_equal-clause-named c =
    subst (λ (ws : List Write). AreNamed c.args.old.now c.args.new.now ws) (sym c.new-list.ensures.items) (λ k d within. absurd (omega (arith, within)))

-- the last course is that of the new file
pub returns-clause-writes : goal.returns-clause-writes
returns-clause-writes c =
    let at : c.loop-number.number ≡ 0x2ff = omega (arith, c.loop-number-test.false, c.loop-number.auto.number-end, c.pair_count-pairs.ensures.few) in
    (copied_last c.args.old.now c.args.new.now (course c.loop-number.file c.loop-number.list.items) (course c.copy-2.new.file c.copy-2.new.list.items)
    c.is_register_file-2.ensures (λ same. absurd (cc (c.are_equal.ensures.1 same, c.if-are_equal.false)))
    (subst (λ k. IsOnWay c.args.old.now c.args.new.now (course c.loop-number.file c.loop-number.list.items) k) at c.loop-number.invariant) c.in_ok-copy-2.ensures).writes

pub returns-clause-named : goal.returns-clause-named
returns-clause-named c =
    let at : c.loop-number.number ≡ 0x2ff = omega (arith, c.loop-number-test.false, c.loop-number.auto.number-end, c.pair_count-pairs.ensures.few) in
    (copied_last c.args.old.now c.args.new.now (course c.loop-number.file c.loop-number.list.items) (course c.copy-2.new.file c.copy-2.new.list.items)
    c.is_register_file-2.ensures (λ same. absurd (cc (c.are_equal.ensures.1 same, c.if-are_equal.false)))
    (subst (λ k. IsOnWay c.args.old.now c.args.new.now (course c.loop-number.file c.loop-number.list.items) k) at c.loop-number.invariant) c.in_ok-copy-2.ensures).named
