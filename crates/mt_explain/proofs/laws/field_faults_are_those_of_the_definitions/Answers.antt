use Rattle.mt_explain.proofs.Lawful.{masks_is, reserved_is, types_is}
use Rattle.mt_explain.proofs.laws.field_faults_are_those_of_the_definitions.Goals as goal

pub returns : goal.returns
returns c = record { reserved = reserved_is; types = types_is; masks = masks_is }
