use Rattle.std.proofs.Common.{◌∙◌, ap, nat_lt}
use Rattle.std.specs.List.{list_all}
use Rattle.std.proofs.lemmas.Bool.{lt-ltb}
use Rattle.mt_tlb.specs.declared.mapping.Mapping.{Mapping}
use Rattle.mt_tlb.specs.Entries.{maps_page}
use Rattle.mt_list_machine.proofs.Places.{all_replaced}
use Rattle.mt_list_machine.proofs.controls.put_mapping.Goals as goal

pub returns-then-is_mapped-clause-kept : goal.returns-then-is_mapped-clause-kept
returns-then-is_mapped-clause-kept c = λ all.
    ap (list_all (λ (m : Mapping). nat_lt m.index 8)) c.replace_in.ensures
    ∙ all_replaced (λ (m : Mapping). nat_lt m.index 8) (maps_page c.args.x.vpage) c.args.x c.args.maps.now.items (lt-ltb c.args.x.index 8 c.requires) all
