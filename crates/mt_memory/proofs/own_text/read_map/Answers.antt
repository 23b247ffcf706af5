use Rattle.std.proofs.Common.{refl, subst, sym}
use Rattle.mt_memory.specs.MapText.{finished, map_from, reads_nothing, taken}
use Rattle.mt_memory.specs.Steps.{Leads}
use Rattle.mt_memory.proofs.own_text.read_map.Goals as goal

pub returns : goal.returns
returns c =
    c.read_slice.ensures.answer (λ lines end. map_from reads_nothing 1 lines end)
    (subst (λ s. Leads taken finished s 1 (λ lines end. map_from reads_nothing 1 lines end)) (sym c.new.ensures) (λ lines end. refl))
