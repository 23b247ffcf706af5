use Rattle.std.proofs.Common.{inl, refl}
use Rattle.std.specs.Prelude.{codes}
use Rattle.mt_text_laws.proofs.script_worked.worked_places.Goals as goal

pub returns-clause-first : goal.returns-clause-first
returns-clause-first c = inl ((0, codes "load"), (0, refl), refl)
