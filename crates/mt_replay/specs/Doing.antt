-- What is required of what is done (own).
use Rattle.std.specs.Prelude.{ℕ, ◌≡◌, ◌<◌, ◌≤◌, ◌+◌, ◌*◌, ◌^◌, ⊤, length, None, Some, slice_get}
use Rattle.mt_kinds.specs.Sizes.{most_lines}
use Rattle.mt_regs.specs.Registers.{HasThreeDigits}
use Rattle.mt_machine.specs.declared.op.Op.TheVariants as op
use Rattle.mt_machine.specs.declared.control.Control.TheVariants as control_of
use Rattle.mt_machine.specs.System.{Processor}
use Rattle.mt_machine.specs.Machine.{FitsControl, FitsOp, Machine}
use Rattle.mt_ram.specs.Windows.{refusal, window}
use Rattle.mt_script.specs.declared.command.Command.{Command}
use Rattle.mt_script.specs.declared.command.Command.TheVariants as command
use Rattle.mt_script.specs.declared.command.Ask.{Ask}
use Rattle.mt_script.specs.declared.command.Ask.TheVariants as ask
use Rattle.mt_replay.specs.ReplayState.{mapping}

abbrev pub CanAsk : Machine → ℕ → Ask → Type 0
CanAsk m k (ask.Load address) = FitsOp (op.Load address)
CanAsk m k (ask.Store address value) = FitsOp (op.Store address value)
CanAsk m k (ask.Map x) = (p : Processor) → slice_get m.system.processors k ≡ Some p → FitsControl p (control_of.Map (mapping x))
CanAsk m k (ask.Msr number) = HasThreeDigits number
CanAsk m k other = ⊤

abbrev pub CanDo : Machine → Command → Type 0
CanDo m (command.Ask k a) = CanAsk m k a
CanDo m (command.Selfsnoop k) = (k < length m.system.processors) × (m.order ≡ None)
CanDo m (command.Ram base lines) =
    (0 < lines) × (lines ≤ most_lines) × (base + 64 * lines ≤ 2 ^ 52) × (refusal m.system.memory.windows (window base lines) ≡ None)
CanDo m other = ⊤
