use Rattle.std.proofs.Common.{◌∷◌, [], ap, arith, false, refl}
use Rattle.std.specs.Prelude.{length}
use Rattle.mt_machine_laws.specs.MachineWorkedRuns.{entry, idle}
use Rattle.mt_regs.specs.RegisterFile.{RegisterFile}
use Rattle.mt_script.specs.declared.command.Command.TheVariants as asks
use Rattle.mt_script.specs.declared.command.Ask.TheVariants as ask
use Rattle.mt_script.specs.declared.command.Newcomer.TheVariants.{Join}
use Rattle.mt_replay.specs.ReplayState.{state_after}
use Rattle.mt_replay_laws.specs.Settling.{AreWithoutCall}
use Rattle.mt_replay_laws.specs.WorkedStates.{unlike_eras}
use Rattle.mt_replay_laws.proofs.replay_worked.worked_joined_states.Goals as goal

loads : AreWithoutCall (state_after unlike_eras (asks.Newcomer Join)) (asks.Ask 1 (ask.Load 0x1000) ∷ [])
loads = (((refl, omega arith), (refl, omega arith)), (λ e. absurd (cc e), λ h. let e = h.1 in absurd (cc e)), tt)

pub returns-clause-older_processors : goal.returns-clause-older_processors
returns-clause-older_processors c = λ h. omega (arith, h.eras 0 idle (omega arith))

pub returns-clause-other_register : goal.returns-clause-other_register
returns-clause-other_register c = λ h. omega (arith, ap (λ (f : RegisterFile). f.default_type) (h.settled 2 idle (omega arith)).file)

pub returns-clause-newer_entry_since : goal.returns-clause-newer_entry_since
returns-clause-newer_entry_since c = λ h. omega (arith, (h.stays_settled (asks.Ask 1 (ask.Load 0x1000) ∷ []) loads 1 idle (omega arith)).entries 0 (entry 0 false) (omega arith))

pub returns-clause-order_stays : goal.returns-clause-order_stays
returns-clause-order_stays c = λ h. absurd (cc h.idle)

pub returns-clause-windows_lost : goal.returns-clause-windows_lost
returns-clause-windows_lost c = λ h. omega (arith, ap length h.windows)

pub returns-clause-word_lost : goal.returns-clause-word_lost
returns-clause-word_lost c = λ h. omega (arith, h.words 0x100000 refl)

pub returns-clause-none_more : goal.returns-clause-none_more
returns-clause-none_more c = λ h. omega (arith, h.one_more)
