use Rattle.std.proofs.Common.{refl, inl, inr}
use Rattle.mt_import.specs.Readings.{all_registers}
use Rattle.mt_import.specs.declared.shape.Warning.TheVariants.{Unlike}
use Rattle.mt_import_laws.specs.Printed.{no_match, only_shows, only_turns, only_warns, only_width}
use Rattle.mt_import_laws.proofs.Others.{other_width, own_base, own_pair_base, own_pair_mask}
use Rattle.mt_import_laws.proofs.printers.worked_others.Goals as goal

pub returns : goal.returns
unfolding all_registers
returns c = record {
  register = λ number. only_shows _ _ refl refl (inl refl, (tt, (tt, (tt, (tt, (tt, (tt, (tt, (tt, (tt, (tt, tt)))))))))));
  own = λ number. only_shows _ _ refl refl (inr (own_base _), (tt, (tt, (tt, (tt, (tt, (tt, (tt, (tt, (tt, (tt, tt)))))))))));
  pair = λ number. only_shows _ _ refl refl (inr (own_pair_base _), (inr (own_pair_mask _), (tt, (tt, (tt, (tt, (tt, (tt, (tt, (tt, (tt, tt)))))))))));
  turn = λ number. only_turns refl;
  width = λ number. only_width _ refl;
  warning = λ number. only_warns Unlike number refl;
  nothing = λ number. no_match refl;
  other_width = λ tells. other_width (tells 1);
}
