use Rattle.std.proofs.Common.{◌≡◌, ℕ, List, [], ◌∷◌, arith, false, refl, ap, rules, subst, sym}
use Rattle.std.specs.Prelude.{length, None, Option}
use Rattle.std.specs.Option.{option_map, option_map_or}
use Rattle.mt_regs.specs.RegisterFile.{RegisterFile}
use Rattle.mt_regs.specs.Faults.{IsAccepted}
use Rattle.mt_regs.specs.FirstFault.{first_fault}
use Rattle.mt_regs.specs.declared.fault.Fault.{Fault}
use Rattle.mt_core.specs.declared.fault.CallFault.TheVariants.{Refused}
use Rattle.mt_machine.specs.Update.{IsSettled, updated}
use Rattle.mt_machine_laws.specs.MachineWorkedRuns.{bare_file, entry, idle}
use Rattle.mt_script.specs.Accept.{accepted}
use Rattle.mt_script.specs.declared.command.Command.{Command}
use Rattle.mt_script.specs.declared.command.Command.TheVariants as asks
use Rattle.mt_script.specs.declared.command.Section.TheVariants.{End}
use Rattle.mt_script.specs.declared.command.Ask.TheVariants as ask
use Rattle.mt_replay.specs.ReplayState.{ReplayState}
use Rattle.mt_replay_laws.specs.Settling.{AreWithoutCall, state_after_all}
use Rattle.mt_replay_laws.specs.WorkedStates.{late_at_end}
use Rattle.mt_replay.proofs.FirstFault.{is_first_fault}
use Rattle.mt_replay_laws.proofs.replay_worked.worked_settled_states.Goals as goal

pub returns-clause-order_stays : goal.returns-clause-order_stays
returns-clause-order_stays c = λ h. absurd (cc (h.no_order))

pub returns-clause-windows_lost : goal.returns-clause-windows_lost
returns-clause-windows_lost c = λ h. omega (arith, ap length h.windows)

pub returns-clause-word_lost : goal.returns-clause-word_lost
returns-clause-word_lost c = λ h. omega (arith, h.words 0x100000 refl)

abbrev second : List ℕ → ℕ
second [] = 0
second (a ∷ []) = 0
second (a ∷ b ∷ rest) = b

pub returns-clause-only_called : goal.returns-clause-only_called
returns-clause-only_called c = λ h. omega (arith, ap second h.line_is)

pub returns-clause-other_register : goal.returns-clause-other_register
returns-clause-other_register c = λ h. omega (arith, ap (λ (f : RegisterFile). f.default_type) (h.settled 0 idle (omega arith)).file)

pub returns-clause-older_processor : goal.returns-clause-older_processor
returns-clause-older_processor c = λ h. omega (arith, h.eras 0 idle (omega arith), h.risen)

good : IsAccepted (bare_file 0x800)
good = search rules

no_fault : first_fault (bare_file 0x800) ≡ None
no_fault = sym (is_first_fault (bare_file 0x800) None good)

-- what the end of its section leaves, by the goal's first fault
abbrev after_by : Option Fault → ReplayState
after_by fault = record {
  now = accepted late_at_end.now (asks.Section End);
  machine = option_map_or (λ refusal. late_at_end.machine) (option_map Refused fault) (updated late_at_end.machine.system (0 ∷ 1 ∷ []) (bare_file 0x800));
  goal = bare_file 0x800;
}

abbrev StaysBy : ℕ → Option Fault → Type 0
StaysBy era fault = (since : List Command) → AreWithoutCall (after_by fault) since → IsSettled (state_after_all (after_by fault) since).machine.system era (bare_file 0x800)

loads : AreWithoutCall (after_by None) (asks.Ask 1 (ask.Load 0x1000) ∷ [])
loads = (((refl, omega arith), (refl, omega arith)), (λ e. absurd (cc e), λ h. let e = h.1 in absurd (cc e)), tt)

pub returns-clause-newer_entry_since : goal.returns-clause-newer_entry_since
returns-clause-newer_entry_since c = λ h.
    omega (arith, (subst (StaysBy h.era) no_fault h.stays_settled (asks.Ask 1 (ask.Load 0x1000) ∷ []) loads 1 idle (omega arith)).entries 0 (entry 0 false) (omega arith), h.risen)
