-- The commands that bring a processor up (own).
use Rattle.std.specs.Prelude.{◌≡◌}
use Rattle.mt_script.specs.declared.command.Command.{Command}
use Rattle.mt_script.specs.declared.command.Command.TheVariants as command
use Rattle.mt_script.specs.declared.command.Newcomer.{Newcomer}

abbrev pub BringsUp : Command → Type 0
BringsUp c = (n : Newcomer) × (c ≡ command.Newcomer n)
