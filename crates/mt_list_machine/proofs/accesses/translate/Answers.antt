use Rattle.std.proofs.Common.{◌∙◌, ap, sym}
use Rattle.mt_tlb.specs.Entries.{find_entry}
use Rattle.mt_list_machine.proofs.Translations.{stands}
use Rattle.mt_list_machine.proofs.accesses.translate.Goals as goal

pub returns-in-Some : goal.returns-in-Some
returns-in-Some c = stands c.args.cpu.now c.args.vpage c.in-Some.entry (ap (find_entry c.args.vpage) (sym c.entries.ensures) ∙ sym c.find_entry.ensures ∙ c.in-Some.is)

pub fill-requires : goal.fill-requires
fill-requires c = ap (find_entry c.args.vpage) (sym c.entries.ensures) ∙ sym c.find_entry.ensures ∙ c.in-None.is
