use Rattle.mt_import.proofs.Settling.{leads_each}
use Rattle.mt_import.proofs.readers.Readers.take_line.Goals as goal

pub returns : goal.returns
returns c = λ format.
    rw (← c.self.view_is) (leads_each c.args.supplied.now c.args.line.now.bytes.now c.args.line.now.number
    (record { none = c.self.inside.none; xen = c.self.inside.xen; linux = c.self.inside.linux; coreboot = c.self.inside.coreboot; edk2 = c.self.inside.edk2; inteltool = c.self.inside.inteltool; x86info = c.self.inside.x86info; rdmsr = c.self.inside.rdmsr; chipsec = c.self.inside.chipsec; windbg = c.self.inside.windbg; plain = c.self.inside.plain })
    (record { none = c.take_line.new.self; xen = c.take_line-2.new.self; linux = c.take_line-3.new.self; coreboot = c.take_line-4.new.self; edk2 = c.take_line-5.new.self; inteltool = c.take_line-6.new.self; x86info = c.take_line-7.new.self; rdmsr = c.take_line-8.new.self; chipsec = c.take_line-9.new.self; windbg = c.take_line-10.new.self; plain = c.take_line-11.new.self })
    c.take_line.ensures c.take_line-2.ensures c.take_line-3.ensures c.take_line-4.ensures c.take_line-5.ensures c.take_line-6.ensures c.take_line-7.ensures c.take_line-8.ensures c.take_line-9.ensures c.take_line-10.ensures c.take_line-11.ensures format)
