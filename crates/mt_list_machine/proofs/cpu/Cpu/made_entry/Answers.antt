use Rattle.std.proofs.Common.{◌∙◌, ap, nat_lt, sym}
use Rattle.std.proofs.lemmas.Bool.{ltb-true}
use Rattle.mt_tlb.specs.declared.mapping.Mapping.{Mapping}
use Rattle.mt_tlb.specs.Entries.{find_mapping, maps_page}
use Rattle.mt_laws.proofs.Words.StepLaws.{find_within}
use Rattle.mt_list_machine.proofs.cpu.Cpu.made_entry.Goals as goal

pub new_entry-requires : goal.new_entry-requires
new_entry-requires c =
    ltb-true _ _
    (find_within (maps_page c.args.vpage) (λ (m : Mapping). nat_lt m.index 8) c.self.inside.maps.items c.in-Some.mapping c.self.invariant
    (ap (find_mapping c.args.vpage) (sym c.as_slice.ensures.value) ∙ sym c.find_mapping.ensures ∙ c.in-Some.is))
