-- What the type of a processor keeps beside what the types of its parts keep.
use Rattle.std.specs.Prelude.{◌≡◌, ℕ, ◌<◌, true, false, [], length, None, Some, IsTrue}
use Rattle.std.specs.List.{All}
use Rattle.mt_regs.specs.RegisterFile.{page_count}
use Rattle.mt_regs.specs.Registers.{writable}
use Rattle.mt_regs.specs.Faults.{IsAccepted}
use Rattle.mt_tlb.specs.Entries.{is_mapped}
use Rattle.mt_machine.specs.System.{Processor, is_tlb_flushed, is_writing}

pub record KeepsFacts (p : Processor) : Type 0 where
  pub local_entries : p.page_global ≡ false → All (λ e. e.global ≡ false) p.entries
  pub mapped : All (λ e. IsTrue (is_mapped e.vpage p.mappings)) p.entries
  pub accepted : is_writing p.phase ≡ None → IsAccepted p.file
  pub in_range : (i : ℕ) → is_writing p.phase ≡ Some i → i < length (writable p.file)
  pub indexes : All (λ m. m.index < 8) p.mappings
  pub mapped_pages : All (λ m. m.ppage < page_count p.file) p.mappings
  pub entry_pages : All (λ e. e.ppage < page_count p.file) p.entries
  pub flushed : is_tlb_flushed p.phase ≡ true → p.entries ≡ []
