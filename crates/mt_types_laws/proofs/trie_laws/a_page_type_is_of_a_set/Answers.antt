use Rattle.std.specs.Prelude.{◌&&◌, if◌then◌else◌, nat_lt, not}
use Rattle.std.proofs.Common.{ap}
use Rattle.mt_kinds.specs.declared.mem_type.MemType.TheVariants.{UC}
use Rattle.mt_regs.specs.PageTypes.{fixed_type, listed_type, matching_types, types_at}
use Rattle.mt_regs.specs.RegisterFile.{is_enabled, is_fixed_enabled, low_byte}
use Rattle.mt_regs.specs.declared.page_type.PageType.TheVariants.{Kind}
use Rattle.mt_trie.proofs.Combined.{combined_by_set}
use Rattle.mt_types_laws.proofs.trie_laws.a_page_type_is_of_a_set.Goals as goal

pub returns-clause-types : goal.returns-clause-types
returns-clause-types c = combined_by_set

pub returns-clause-pairs : goal.returns-clause-pairs
returns-clause-pairs c = λ f pairs page same.
    ap (λ k. if not (is_enabled f) then Kind UC else if is_fixed_enabled f && nat_lt page 0x100 then Kind (fixed_type f page) else k)
    (combined_by_set (listed_type (low_byte f.default_type)) (types_at f.width pairs page) (matching_types f page) same)
