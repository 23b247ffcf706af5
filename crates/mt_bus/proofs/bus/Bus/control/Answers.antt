use Rattle.mt_machine.specs.Bus.{drain}
use Rattle.mt_laws.proofs.Barrier.Stages.{drain_stages}
use Rattle.mt_bus.proofs.Counts.{among}
use Rattle.mt_bus.proofs.Tables.{same_length}
use Rattle.mt_bus.proofs.bus.Bus.control.Goals as goal

pub invlpg-requires : goal.invlpg-requires
invlpg-requires c = among c.args.k c.args.self.now c.drain.new.self _ c.drain.ensures (same_length c.args.self.now (drain c.args.k c.args.self.now) (drain_stages c.args.k c.args.self.now)) c.requires.processor

pub reload_cr3-requires : goal.reload_cr3-requires
reload_cr3-requires c = among c.args.k c.args.self.now c.drain-in-Cr3.new.self _ c.drain-in-Cr3.ensures (same_length c.args.self.now (drain c.args.k c.args.self.now) (drain_stages c.args.k c.args.self.now)) c.requires.processor

pub set_pge-requires : goal.set_pge-requires
set_pge-requires c = among c.args.k c.args.self.now c.drain-in-Pge.new.self _ c.drain-in-Pge.ensures (same_length c.args.self.now (drain c.args.k c.args.self.now) (drain_stages c.args.k c.args.self.now)) c.requires.processor

pub set_cd-requires : goal.set_cd-requires
set_cd-requires c = among c.args.k c.args.self.now c.drain-in-Cd.new.self _ c.drain-in-Cd.ensures (same_length c.args.self.now (drain c.args.k c.args.self.now) (drain_stages c.args.k c.args.self.now)) c.requires.processor
