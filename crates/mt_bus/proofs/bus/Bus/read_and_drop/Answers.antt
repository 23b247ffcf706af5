use Rattle.std.proofs.Common.{arith, refl, rules}
use Rattle.mt_bus.proofs.Held.{held_lent, keeps_dropped}
use Rattle.mt_bus.proofs.Skipped.{dropped_pass, lacked, passed, turned}
use Rattle.mt_bus.proofs.bus.Bus.read_and_drop.Goals as goal

pub invariant_of-self : goal.invariant_of-self
invariant_of-self c =
    held_lent c.self-in-holders.inside.cpus.items c.self-in-holders.inside.holders c.holders.i c.index_mut.result.now c.drop_in.new.cpu (search rules) c.index_mut.ensures.value
    (keeps_dropped c.args.number c.index_mut.result.now c.drop_in.new.cpu c.drop_in.ensures.cpu) c.self-in-holders.invariant

pub holders-init : goal.holders-init
holders-init c =
    lacked (dropped_pass c.args.number) 0 c.next-i.result c.args.self.now _ c.self.inside.cpus.items c.self.inside.ram c.self.inside.holders c.self.view_is c.self.invariant c.next-i.ensures.from
    c.next-i.ensures.skipped refl

pub holders-preserved : goal.holders-preserved
holders-preserved c =
    turned (dropped_pass c.args.number) c.holders.i c.next-i-in-holders.result c.holders.self c.look_at.new.self _
    c.self-in-holders.inside.cpus.items c.self-in-holders-2.inside.cpus.items c.self-in-holders.inside.ram c.self-in-holders-2.inside.ram c.index_mut.result.now c.drop_in.new.cpu c.drop_in.new.ram c.self-in-holders-2.inside.holders
    c.holders.invariant c.self-in-holders.view_is (search rules) c.index_mut.ensures.value c.drop_in.ensures.read c.drop_in.ensures.ram c.look_at.ensures
    c.self-in-holders-2.view_is c.self-in-holders-2.invariant c.next-i-in-holders.ensures.from c.next-i-in-holders.ensures.skipped

pub returns : goal.returns
returns c =
    passed (dropped_pass c.args.number) c.holders.i c.holders.self _ c.self-in-holders.inside.cpus.items c.self-in-holders.inside.ram c.self-in-holders.view_is (omega (arith, c.len.ensures, c.holders-test.false)) c.holders.invariant
