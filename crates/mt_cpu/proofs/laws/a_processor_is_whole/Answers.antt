use Rattle.std.proofs.Common.{◌∙◌, ap, subst}
use Rattle.mt_machine.specs.System.{IsProcessor}
use Rattle.mt_cpu.specs.State.{processor_of}
use Rattle.mt_cpu.proofs.Facts.{lent}
use Rattle.mt_cpu.proofs.laws.a_processor_is_whole.Goals as goal

pub returns : goal.returns
returns c =
    let facts = lent _ _ c.deref-state.ensures c.cpu.invariant in
    subst IsProcessor (ap processor_of c.deref-state.ensures ∙ c.cpu.view_is) (record {
      register_file = c.is_register_file.ensures;
      accepted = facts.accepted;
      in_range = facts.in_range;
      indexes = facts.indexes;
      mapped_pages = facts.mapped_pages;
      few_mappings = c.list.ensures.room;
      distinct_mappings = c.list.ensures.apart;
      local_entries = facts.local_entries;
      mapped = facts.mapped;
      entry_pages = facts.entry_pages;
      flushed = facts.flushed;
      few_entries = c.entries.ensures.room;
      distinct_entries = c.entries.ensures.apart;
      few_lines = c.len.ensures.room;
      distinct_lines = c.len.ensures.distinct;
      whole_lines = c.len.ensures.whole;
      few_buffers = c.lines.ensures.room;
      distinct_buffers = c.lines.ensures.distinct;
      whole_buffers = c.lines.ensures.whole;
    })
