use Rattle.std.proofs.lemmas.Bool.{eqb-true}
use Rattle.mt_tlb.specs.declared.mapping.Mapping.{Mapping}
use Rattle.mt_lists.proofs.Places.{place_is}
use Rattle.mt_tlb.proofs.maps.is_at.Goals as goal

pub returns-then-i-list : goal.returns-then-i-list
returns-then-i-list c = λ same. place_is (λ (m : Mapping). m.vpage) c.args.vpage c.args.list.now c.args.i _ c.requires c.if-i-list.true (eqb-true _ _ same)
