-- A command on a processor that isn't there, and one on a processor that is.
use Rattle.std.proofs.Common.{◌≡◌, ap, refl, Bool, true, false, if◌then◌else◌}
use Rattle.mt_script.specs.Accept.{accepted, in_commands}
use Rattle.mt_script.specs.declared.command.Command.{Command}
use Rattle.mt_script.specs.declared.command.Command.TheVariants as command
use Rattle.mt_replay.specs.ReplayState.{ReplayState, command_text, goal_after, is_absent, machine_after, present_after, present_text, state_after}
use Rattle.mt_replay.specs.Texts.{absent_line}

-- what a command leaves where its processor is there
abbrev pub present_state : ReplayState → Command → ReplayState
present_state s c = record { now = accepted s.now c; machine = present_after s c; goal = goal_after s c }

-- and where it isn't
abbrev pub same_state : ReplayState → ReplayState
same_state s = record { now = in_commands s.now; machine = s.machine; goal = s.goal }

-- a command on a processor leaves the goal, and may stand behind any other
only_named : (s : ReplayState) (c : Command) → is_absent s.machine c ≡ true → (accepted s.now c ≡ in_commands s.now) × (goal_after s c ≡ s.goal)
only_named s (command.Ask k a) is = (refl, refl)
only_named s other is = absurd (cc is)

pub absent_now : (s : ReplayState) (c : Command) → is_absent s.machine c ≡ true → accepted s.now c ≡ in_commands s.now
absent_now s c is = (only_named s c is).0

pub absent_machine : (s : ReplayState) (c : Command) → is_absent s.machine c ≡ true → machine_after s c ≡ s.machine
absent_machine s c is = ap (λ (b : Bool). if b then s.machine else present_after s c) is

pub absent_text : (s : ReplayState) (c : Command) → is_absent s.machine c ≡ true → command_text s c ≡ absent_line
absent_text s c is = ap (λ (b : Bool). if b then absent_line else present_text s c) is

pub there_machine : (s : ReplayState) (c : Command) → is_absent s.machine c ≡ false → machine_after s c ≡ present_after s c
there_machine s c is = ap (λ (b : Bool). if b then s.machine else present_after s c) is

pub there_text : (s : ReplayState) (c : Command) → is_absent s.machine c ≡ false → command_text s c ≡ present_text s c
there_text s c is = ap (λ (b : Bool). if b then absent_line else present_text s c) is

pub state_absent : (s : ReplayState) (c : Command) → is_absent s.machine c ≡ true → state_after s c ≡ same_state s
state_absent s c is = λ i. record { now = (only_named s c is).0 i; machine = absent_machine s c is i; goal = (only_named s c is).1 i }

pub state_there : (s : ReplayState) (c : Command) → is_absent s.machine c ≡ false → state_after s c ≡ present_state s c
state_there s c is = λ i. record { now = accepted s.now c; machine = there_machine s c is i; goal = goal_after s c }
