-- What a command asks for, and that it can be done where the command fits.
use Rattle.std.proofs.Common.{◌≡◌, ap, refl, subst, sym, arith, ℕ, ◌<◌, true, false, length, Bool, if◌then◌else◌, List, Option, None}
use Rattle.mt_regs.specs.RegisterFile.{RegisterFile}
use Rattle.mt_machine.specs.Machine.{Machine}
use Rattle.mt_machine.specs.Memory.{Window}
use Rattle.mt_ram.specs.Windows.{refusal, window}
use Rattle.mt_script.specs.Accept.{Fits, FitsAsk}
use Rattle.mt_script.specs.Numbers.{is_register}
use Rattle.mt_script.specs.Situation.{file_of, most_processors}
use Rattle.mt_script.specs.Stages.{is_past_windows, takes_windows}
use Rattle.mt_script.specs.declared.command.Stage.{Stage}
use Rattle.mt_script.specs.declared.command.Stage.TheVariants.{Rams}
use Rattle.mt_script.specs.declared.command.Command.{Command}
use Rattle.mt_script.specs.declared.command.Command.TheVariants as command
use Rattle.mt_script.specs.declared.command.Ask.{Ask}
use Rattle.mt_script.specs.declared.command.Ask.TheVariants as ask
use Rattle.mt_replay.specs.Doing.{CanAsk, CanDo}
use Rattle.mt_replay.specs.Kept.{IsReplayState}
use Rattle.mt_replay.specs.ReplayState.{ReplayState}
use Rattle.mt_replay.proofs.Asked.{has_place, short_number}
use Rattle.mt_replay.proofs.Keeping.States.{dump_here, first_here, mapping_fits}
use Rattle.mt_replay.proofs.Keeping.Windows.{file_limit}

before_commands : (stage : Stage) → takes_windows stage ≡ true → is_past_windows stage ≡ false
before_commands Rams takes = refl
before_commands other takes = absurd (cc takes)

module _ (s : ReplayState) (h : IsReplayState s) where
  is_there : (k : ℕ) → takes_windows s.now.stage ≡ true → k < most_processors s.now → k < length s.machine.system.processors
  is_there k takes within =
      let still = h.situation.settled (before_commands s.now.stage takes) in
      let most : most_processors s.now ≡ s.now.cpus = ap (λ (b : Bool). if b then 16 else s.now.cpus) still in
      let count = h.count still in
      omega (arith, most, count, within)

  can_ask : (k : ℕ) (a : Ask) → FitsAsk s.now a → CanAsk s.machine k a
  can_ask k (ask.Load address) fits = fits
  can_ask k (ask.Store address value) fits = fits
  can_ask k (ask.Map x) fits = mapping_fits s h k x fits.0.1 fits.1.1 fits.2
  can_ask k (ask.Msr number) fits =
      let file = first_here s.now h.situation h.past in
      short_number file.0 number file.2 (subst (λ (o : Option RegisterFile). is_register o number ≡ true) file.1 fits)
  can_ask k other fits = tt

  pub can_do : (c : Command) → Fits s.now c → CanDo s.machine c
  can_do (command.Ask k a) fits = can_ask k a fits.1
  can_do (command.Selfsnoop k) fits =
      let dump = dump_here s.now h.situation h.past in
      (is_there k fits.0 fits.1, ap (λ (m : Machine). m.order) (h.fresh dump.0 dump.1 fits.0).1)
  can_do (command.Ram base lines) fits =
      let file = first_here s.now h.situation h.past in
      let place = has_place s.now base lines fits.1 fits.4 in
      let limit = file_limit (file_of s.now) file.0 file.1 file.2 in
      let accepted = subst (λ (ws : List Window). refusal ws (window base lines) ≡ None) (sym h.windows) place.accepted in
      (omega (arith, fits.2), fits.3, omega (arith, place.end, limit), accepted)
  can_do other fits = tt
