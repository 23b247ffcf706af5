-- A table of types for each processor, beside the machine's value of a system (own).
use Rattle.std.specs.Prelude.{◌≡◌, ℕ, ◌<◌, List, length, slice_get, None, Some}
use Rattle.std.specs.List.{All}
use Rattle.mt_regs.specs.RegisterFile.{page_count}
use Rattle.mt_types.specs.Tables.{IsTableOf, TypeTable}
use Rattle.mt_machine.specs.System.{Processor, is_writing}

-- one table for each processor, which has the types of its file but while its registers are written
pub record AreTablesOf (ps : List Processor) (ts : List TypeTable) : Type 0 where
  pub count : length ts ≡ length ps
  pub each : (k : ℕ) (p : Processor) (t : TypeTable) → slice_get ps k ≡ Some p → slice_get ts k ≡ Some t → is_writing p.phase ≡ None → IsTableOf p.file t

-- the table has the types of the processor's file, and each mapping leads to a page of it
pub record IsTranslatedBy (p : Processor) (t : TypeTable) : Type 0 where
  pub table : IsTableOf p.file t
  pub pages : All (λ m. m.ppage < page_count p.file) p.mappings
