-- What processors that come and go write, and what they leave.
use Rattle.std.proofs.Common.{◌≡◌, ◌∙◌, ap, sym, refl, inl, inr, ℕ, ◌<◌, ◌≤◌, length, nat_lt, Bool, true, false, if◌then◌else◌, List, Option, None, Some}
use Rattle.std.specs.Prelude.{◌&&◌, IsSome, is_some, not}
use Rattle.std.proofs.lemmas.Bool.{le-ltb, lt-ltb}
use Rattle.mt_machine.specs.Machine.{Machine, Order}
use Rattle.mt_machine.specs.ComingAndGoing.{last_number, without_last}
use Rattle.mt_admit.specs.Admission.{admitted, brought_up}
use Rattle.mt_script.specs.declared.command.Command.{Command}
use Rattle.mt_script.specs.declared.command.Command.TheVariants as command
use Rattle.mt_script.specs.declared.command.Newcomer.{Newcomer}
use Rattle.mt_script.specs.declared.command.Newcomer.TheVariants.{Up, Join}
use Rattle.mt_replay.specs.Steps.{ScriptStep, wrote}
use Rattle.mt_replay_laws.specs.Movers.{RetiresWhereIdle, Stays, StaysAlone, StaysFull, StaysUnderWay}
use Rattle.mt_replay.specs.ReplayState.{ReplayState, command_text, machine_after, may_come, may_go, stays_line}
use Rattle.mt_replay.specs.Texts.{full_line, joined_line, no_line, retired_line, under_way_line, up_line}
use Rattle.mt_replay_laws.proofs.Courses.Tells.{has_third}
use Rattle.mt_replay.proofs.Keeping.Moving.{idle_to_go, more_to_go}

-- ---- retired

says_none : (b : Bool) → has_third 116 (if b then under_way_line else no_line) ≡ true → ⊥
says_none true is = cc is
says_none false is = cc is

goes_by : (m : Machine) → has_third 116 (if may_go m then retired_line (last_number m.system) else stays_line m no_line) ≡ true → may_go m ≡ true
goes_by m = one (may_go m)
  where
    one : (b : Bool) → has_third 116 (if b then retired_line (last_number m.system) else stays_line m no_line) ≡ true → b ≡ true
    one true is = refl
    one false is = absurd (says_none (is_some m.order) is)

goes : (step : ScriptStep) → step.command ≡ command.Retire → wrote step ≡ retired_line (last_number step.before.machine.system) → may_go step.before.machine ≡ true
goes step retire is = goes_by step.before.machine (ap (λ (c : Command). has_third 116 (command_text step.before c)) (sym retire) ∙ ap (has_third 116) is)

may_go_where : (m : Machine) → m.order ≡ None → 1 < length m.system.processors → may_go m ≡ true
may_go_where m none more =
    ap (λ (o : Option Order). not (is_some o) && nat_lt 1 (length m.system.processors)) none ∙ lt-ltb 1 (length m.system.processors) more

pub retires_where_idle : RetiresWhereIdle
retires_where_idle step retire = (
  (
    λ is. let may = goes step retire is in (idle_to_go step.before.machine may, more_to_go step.before.machine may),
    λ idle. ap (command_text step.before) retire
        ∙ ap (λ (b : Bool). if b then retired_line (last_number step.before.machine.system) else stays_line step.before.machine no_line) (may_go_where step.before.machine idle.0 idle.1),
  ),
  λ is. ap (machine_after step.before) retire ∙ ap (λ (b : Bool). if b then without_last step.before.machine else step.before.machine) (goes step retire is),
)

-- ---- refused

-- what a command that is refused writes and leaves
abbrev Rests : ReplayState → Command → List ℕ → Type 0
Rests s c text = (command_text s c ≡ text) × (machine_after s c ≡ s.machine)

stays_by : (step : ScriptStep) (c : Command) (text : List ℕ) → step.command ≡ c → Rests step.before c text → Stays step text
stays_by step c text is rests = (ap (command_text step.before) is ∙ rests.0, ap (machine_after step.before) is ∙ rests.1)

newcomer_rests : (s : ReplayState) (n : Newcomer) → may_come s.machine ≡ false → Rests s (command.Newcomer n) (stays_line s.machine full_line)
newcomer_rests s Up off = (
  ap (λ (b : Bool). if b then up_line (length s.machine.system.processors) else stays_line s.machine full_line) off,
  ap (λ (b : Bool). if b then brought_up s.machine else s.machine) off,
)
newcomer_rests s Join off = (
  ap (λ (b : Bool). if b then joined_line (length s.machine.system.processors) else stays_line s.machine full_line) off,
  ap (λ (b : Bool). if b then admitted s.machine else s.machine) off,
)

retire_rests : (s : ReplayState) → may_go s.machine ≡ false → Rests s command.Retire (stays_line s.machine no_line)
retire_rests s off = (
  ap (λ (b : Bool). if b then retired_line (last_number s.machine.system) else stays_line s.machine no_line) off,
  ap (λ (b : Bool). if b then without_last s.machine else s.machine) off,
)

-- with the cause
because : (s : ReplayState) (c : Command) (line text : List ℕ) → Rests s c line → line ≡ text → Rests s c text
because s c line text rests is = (rests.0 ∙ is, rests.1)

busy_is : (o : Option Order) → IsSome o → is_some o ≡ true
busy_is None some = absurd (cc some)
busy_is (Some o) some = refl

under_way_stays : (m : Machine) (cause : List ℕ) → is_some m.order ≡ true → stays_line m cause ≡ under_way_line
under_way_stays m cause busy = ap (λ (b : Bool). if b then under_way_line else cause) busy

idle_stays : (m : Machine) (cause : List ℕ) → m.order ≡ None → stays_line m cause ≡ cause
idle_stays m cause none = ap (λ (o : Option Order). if is_some o then under_way_line else cause) none

busy_to_come : (m : Machine) → is_some m.order ≡ true → may_come m ≡ false
busy_to_come m busy = ap (λ (b : Bool). not b && nat_lt (length m.system.processors) 16) busy

busy_to_go : (m : Machine) → is_some m.order ≡ true → may_go m ≡ false
busy_to_go m busy = ap (λ (b : Bool). not b && nat_lt 1 (length m.system.processors)) busy

many_to_come : (m : Machine) → m.order ≡ None → 16 ≤ length m.system.processors → may_come m ≡ false
many_to_come m none many =
    ap (λ (o : Option Order). not (is_some o) && nat_lt (length m.system.processors) 16) none ∙ le-ltb (length m.system.processors) 16 many

few_to_go : (m : Machine) → m.order ≡ None → length m.system.processors ≤ 1 → may_go m ≡ false
few_to_go m none few =
    ap (λ (o : Option Order). not (is_some o) && nat_lt 1 (length m.system.processors)) none ∙ le-ltb 1 (length m.system.processors) few

pub stays_under_way : StaysUnderWay
stays_under_way step (inl (n, comes)) some =
    let busy = busy_is step.before.machine.order some in
    stays_by step (command.Newcomer n) under_way_line comes
    (because step.before (command.Newcomer n) (stays_line step.before.machine full_line) under_way_line (newcomer_rests step.before n (busy_to_come step.before.machine busy)) (under_way_stays step.before.machine full_line busy))
stays_under_way step (inr retire) some =
    let busy = busy_is step.before.machine.order some in
    stays_by step command.Retire under_way_line retire
    (because step.before command.Retire (stays_line step.before.machine no_line) under_way_line (retire_rests step.before (busy_to_go step.before.machine busy)) (under_way_stays step.before.machine no_line busy))

pub stays_full : StaysFull
stays_full step (n, comes) none many =
    stays_by step (command.Newcomer n) full_line comes
    (because step.before (command.Newcomer n) (stays_line step.before.machine full_line) full_line (newcomer_rests step.before n (many_to_come step.before.machine none many)) (idle_stays step.before.machine full_line none))

pub stays_alone : StaysAlone
stays_alone step retire none few =
    stays_by step command.Retire no_line retire
    (because step.before command.Retire (stays_line step.before.machine no_line) no_line (retire_rests step.before (few_to_go step.before.machine none few)) (idle_stays step.before.machine no_line none))
