-- The processor that a state is.
use Rattle.mt_machine.specs.System.{Processor}
use Rattle.mt_cpu.specs.declared.state.State.{State}

abbrev pub processor_of : State → Processor
processor_of s = record {
  file = s.regs;
  cache_disabled = s.cd;
  page_global = s.pge;
  remembered_global = s.had_pge;
  mappings = s.maps;
  lines = s.cache;
  buffers = s.buffers;
  entries = s.tlb;
  phase = s.phase;
  era = s.era;
  self_snoop = s.self_snoop;
}
