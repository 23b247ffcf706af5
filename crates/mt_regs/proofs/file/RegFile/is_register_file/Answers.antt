use Rattle.mt_regs.proofs.file.RegFile.is_register_file.Goals as goal

pub returns : goal.returns
returns c = rw (← c.self.view_is) c.self.invariant
