-- A command finishes at most one update of each processor.
use Rattle.std.proofs.Common.{◌≡◌, sym, refl, subst, ℕ, ◌+◌, ◌≤◌, Bool, true, false, Some, slice_get}
use Rattle.std.specs.List.{All}
use Rattle.mt_machine.specs.declared.op.Op.{Op}
use Rattle.mt_machine.specs.declared.op.Op.TheVariants as op
use Rattle.mt_machine.specs.declared.control.Control.{Control}
use Rattle.mt_machine.specs.declared.control.Control.TheVariants as control_of
use Rattle.mt_machine.specs.System.{Processor}
use Rattle.mt_machine.specs.Machine.{Accesses, Cancels, Controls, FitsControl, FitsOp, Goes, Machine, next}
use Rattle.mt_ram.specs.Windows.{window, with_window}
use Rattle.mt_core.specs.Arises.{grown, snooped}
use Rattle.mt_core.specs.Headline.{HasRisenByOne}
use Rattle.mt_core.specs.Steps.{step_after}
use Rattle.mt_script.specs.declared.command.Command.{Command}
use Rattle.mt_script.specs.declared.command.Command.TheVariants as command
use Rattle.mt_script.specs.declared.command.Section.TheVariants.{End}
use Rattle.mt_script.specs.declared.command.Ask.{Ask}
use Rattle.mt_script.specs.declared.command.Ask.TheVariants as ask
use Rattle.mt_replay.specs.Doing.{CanAsk, CanDo}
use Rattle.mt_replay.specs.Kept.{CommandsFinishOne, IsReplayState}
use Rattle.mt_replay.specs.ReplayState.{ReplayState, after_word, asked_of, is_absent, machine_after, mapping, present_after}
use Rattle.mt_replay.proofs.Doing.{can_do}
use Rattle.mt_replay.proofs.Keeping.Absent.{absent_machine, there_machine}
use Rattle.mt_replay.proofs.Keeping.Kinds.{eras_risen, risen_same}
use Rattle.mt_replay.proofs.Keeping.Machines.{follows_access, follows_control, follows_step, follows_word}
use Rattle.mt_replay.proofs.Keeping.Moving.{moves_newcomer, moves_retire}
use Rattle.mt_replay.proofs.Keeping.Snooping.{snooped_risen}
use Rattle.mt_replay.proofs.Keeping.States.{follows_end}

abbrev KeepsEras : Machine → Machine → Type 0
KeepsEras m n = (most : ℕ) → All (λ p. p.era ≤ most) m.system.processors → All (λ p. p.era ≤ most + 1) n.system.processors

by_rise : (m n : Machine) → HasRisenByOne m.system n.system → KeepsEras m n
by_rise m n rise most eras = eras_risen most m.system n.system rise eras

stays : (m : Machine) → KeepsEras m m
stays m = by_rise m m (risen_same m.system m.system.memory)

module _ (s : ReplayState) (h : IsReplayState s) where
  accessed_eras : (k : ℕ) (o : Op) → FitsOp o → KeepsEras s.machine (next s.machine (Accesses k o))
  accessed_eras k o fits = by_rise s.machine (next s.machine (Accesses k o)) (follows_access s.machine k o h.arises fits).risen

  controlled_eras : (k : ℕ) (c : Control) → ((p : Processor) → slice_get s.machine.system.processors k ≡ Some p → FitsControl p c) → KeepsEras s.machine (next s.machine (Controls k c))
  controlled_eras k c fits = by_rise s.machine (next s.machine (Controls k c)) (follows_control s.machine k c h.arises fits).risen

  asked_eras : (k : ℕ) (a : Ask) → CanAsk s.machine k a → KeepsEras s.machine (asked_of s k a).machine
  asked_eras k (ask.Load address) can = accessed_eras k (op.Load address) can
  asked_eras k (ask.Store address value) can = accessed_eras k (op.Store address value) can
  asked_eras k ask.Fence can = accessed_eras k op.Fence tt
  asked_eras k (ask.Map x) can = controlled_eras k (control_of.Map (mapping x)) can
  asked_eras k (ask.Invlpg address) can = controlled_eras k (control_of.Invlpg address) (λ p at. tt)
  asked_eras k ask.Cr3 can = controlled_eras k control_of.Cr3 (λ p at. tt)
  asked_eras k (ask.Pge on) can = controlled_eras k (control_of.Pge on) (λ p at. tt)
  asked_eras k (ask.Cd on) can = controlled_eras k (control_of.Cd on) (λ p at. tt)
  asked_eras k ask.Step can = by_rise s.machine (step_after s.machine k) (follows_step s.machine k h.arises).risen
  asked_eras k (ask.Msr number) can = stays s.machine

  eras : (c : Command) → CanDo s.machine c → KeepsEras s.machine (present_after s c)
  eras (command.Ram base lines) can = by_rise s.machine (grown (window base lines) s.machine) (risen_same s.machine.system (with_window (window base lines) s.machine.system.memory))
  eras (command.Selfsnoop k) can = by_rise s.machine (snooped k s.machine) (snooped_risen k s.machine.system)
  eras (command.Section End) can = by_rise s.machine (machine_after s (command.Section End)) (follows_end s h).risen
  eras (command.Ask k a) can = asked_eras k a can
  eras (command.Newcomer n) can = (moves_newcomer s.machine h.arises h.came h.some h.few n).eras
  eras command.Retire can = (moves_retire s.machine h.arises h.came h.some h.few).eras
  eras command.Go can = by_rise s.machine (after_word Goes s.machine) (follows_word s.machine Goes h.arises (λ pending. pending)).risen
  eras command.Cancel can = by_rise s.machine (after_word Cancels s.machine) (follows_word s.machine Cancels h.arises (λ pending. pending)).risen
  eras other can = stays s.machine

pub eras_kept : CommandsFinishOne
eras_kept s c most h fits few = one (is_absent s.machine c) refl
  where
    one : (b : Bool) → is_absent s.machine c ≡ b → All (λ p. p.era ≤ most + 1) (machine_after s c).system.processors
    one true is = subst (λ (m : Machine). All (λ p. p.era ≤ most + 1) m.system.processors) (sym (absent_machine s c is)) (stays s.machine most few)
    one false is = subst (λ (m : Machine). All (λ p. p.era ≤ most + 1) m.system.processors) (sym (there_machine s c is)) (eras s h c (can_do s h c fits) most few)
