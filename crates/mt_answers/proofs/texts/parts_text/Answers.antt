use Rattle.mt_kinds.specs.declared.mem_type.MemType.TheVariants.{UC}
use Rattle.mt_regs.specs.declared.page_type.PageType.TheVariants.{Kind}
use Rattle.mt_answers.proofs.texts.parts_text.Goals as goal

pub append_part-requires : goal.append_part-requires
append_part-requires c = c.requires c.parts.part-index (record { first = 0; count = 0; kind = Kind UC }) c.parts-test.true
