use Rattle.mt_cpu.proofs.cpu.Cpu.local.Goals as goal

pub returns-in-Passed-clause-step : goal.returns-in-Passed-clause-step
returns-in-Passed-clause-step c = c.set_no_fill.ensures c.args.goal.now

pub returns-in-Flushed-clause-step : goal.returns-in-Flushed-clause-step
returns-in-Flushed-clause-step c = c.flush_tlb.ensures c.args.goal.now

pub returns-in-TlbFlushed-clause-step : goal.returns-in-TlbFlushed-clause-step
returns-in-TlbFlushed-clause-step c = c.disable.ensures c.args.goal.now

pub returns-in-Flushed2-clause-step : goal.returns-in-Flushed2-clause-step
returns-in-Flushed2-clause-step c = c.flush_tlb_again.ensures c.args.goal.now

pub returns-in-TlbFlushed2-clause-step : goal.returns-in-TlbFlushed2-clause-step
returns-in-TlbFlushed2-clause-step c = c.set_normal.ensures c.args.goal.now

pub returns-in-Normal-clause-step : goal.returns-in-Normal-clause-step
returns-in-Normal-clause-step c = c.restore_pge.ensures c.args.goal.now
