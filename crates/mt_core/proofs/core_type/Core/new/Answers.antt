use Rattle.mt_core.proofs.Arising.{begun}
use Rattle.mt_core.proofs.core_type.Core.new.Goals as goal

pub invariant_of-result : goal.invariant_of-result
invariant_of-result c = begun c.args.system c.requires.few c.a_system_is_sound.ensures c.requires.running c.requires.one_era c.requires.one_kind
