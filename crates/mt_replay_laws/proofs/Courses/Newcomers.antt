-- Which steps bring a processor up.
use Rattle.std.proofs.Common.{◌≡◌, ◌⊎◌, ◌∙◌, ap, refl, subst, inl, inr, ℕ, ◌<◌, length, nat_lt, Bool, true, false, if◌then◌else◌, List, Option, None}
use Rattle.std.specs.Prelude.{◌&&◌, is_some, not}
use Rattle.std.proofs.lemmas.Bool.{lt-ltb}
use Rattle.mt_machine.specs.Machine.{Machine, Order}
use Rattle.mt_script.specs.declared.command.Command.{Command}
use Rattle.mt_script.specs.declared.command.Command.TheVariants as command
use Rattle.mt_script.specs.declared.command.Section.TheVariants.{End}
use Rattle.mt_script.specs.declared.command.Newcomer.TheVariants.{Up, Join}
use Rattle.mt_replay_laws.specs.Headline.{IsCall, IsNewcomer, IsSectionCall, NewcomersWhereIdle}
use Rattle.mt_replay.specs.Steps.{ScriptStep}
use Rattle.mt_replay_laws.specs.Coming.{BringsUp}
use Rattle.mt_replay.specs.ReplayState.{ReplayState, command_text, may_come, stays_line}
use Rattle.mt_replay.specs.Texts.{full_line, joined_line, under_way_line, up_line}
use Rattle.mt_replay_laws.proofs.Courses.Tells.{has_third, is_still, not_coming, writes_called, writes_complete}
use Rattle.mt_replay.proofs.Keeping.Moving.{few_to_come, idle_to_come}

-- ---- by their lines

says_none : (n : ℕ) (b : Bool) → has_third n under_way_line ≡ false → has_third n full_line ≡ false → has_third n (if b then under_way_line else full_line) ≡ true → ⊥
says_none n true under full is = cc (under, is)
says_none n false under full is = cc (full, is)

comes_by : (n : ℕ) (m : Machine) (line : List ℕ) → has_third n under_way_line ≡ false → has_third n full_line ≡ false → has_third n (if may_come m then line else stays_line m full_line) ≡ true → may_come m ≡ true
comes_by n m line under full = one (may_come m)
  where
    one : (b : Bool) → has_third n (if b then line else stays_line m full_line) ≡ true → b ≡ true
    one true is = refl
    one false is = absurd (says_none n (is_some m.order) under full is)

up_comes : (s : ReplayState) (k : ℕ) → command_text s (command.Newcomer Up) ≡ up_line k → may_come s.machine ≡ true
up_comes s k is = comes_by 32 s.machine (up_line (length s.machine.system.processors)) refl refl (ap (has_third 32) is)

join_comes : (s : ReplayState) (k : ℕ) → command_text s (command.Newcomer Join) ≡ joined_line k → may_come s.machine ≡ true
join_comes s k is = comes_by 105 s.machine (joined_line (length s.machine.system.processors)) refl refl (ap (has_third 105) is)

pub newcomer_comes : (step : ScriptStep) → IsNewcomer step → may_come step.before.machine ≡ true
newcomer_comes step (k, inl up) = up_comes step.before k (subst (λ (c : Command). command_text step.before c ≡ up_line k) up.0 up.1)
newcomer_comes step (k, inr joins) = join_comes step.before k (subst (λ (c : Command). command_text step.before c ≡ joined_line k) joins.0 joins.1)

pub newcomer_is_coming : (step : ScriptStep) → IsNewcomer step → BringsUp step.command
newcomer_is_coming step (k, inl up) = (Up, up.0)
newcomer_is_coming step (k, inr joins) = (Join, joins.0)

pub comes_as_newcomer : (step : ScriptStep) → BringsUp step.command → may_come step.before.machine ≡ true → IsNewcomer step
comes_as_newcomer step (Up, up) may =
    let n : ℕ = length step.before.machine.system.processors in
    (n, inl (up, ap (command_text step.before) up ∙ ap (λ (b : Bool). if b then up_line n else stays_line step.before.machine full_line) may))
comes_as_newcomer step (Join, join) may =
    let n : ℕ = length step.before.machine.system.processors in
    (n, inr (join, ap (command_text step.before) join ∙ ap (λ (b : Bool). if b then joined_line n else stays_line step.before.machine full_line) may))

pub coming_or_not : (c : Command) → BringsUp c ⊎ (BringsUp c → ⊥)
coming_or_not (command.Newcomer n) = inl (n, refl)
coming_or_not other = inr (not_coming other refl)

-- ---- the end of a section brings none up

pub section_ends : (step : ScriptStep) → IsSectionCall step → step.command ≡ command.Section End
section_ends step (inl is) = (writes_called step.before step.command is).0
section_ends step (inr is) = (writes_complete step.before step.command is.0 is.1).0

pub end_comes_not : (step : ScriptStep) → step.command ≡ command.Section End → IsNewcomer step → ⊥
end_comes_not step ends newcomer = not_coming step.command (ap is_still ends) (newcomer_is_coming step newcomer)

pub call_of_end : (step : ScriptStep) → step.command ≡ command.Section End → IsCall step → IsSectionCall step
call_of_end step ends (inl section) = section
call_of_end step ends (inr newcomer) = absurd (end_comes_not step ends newcomer)

pub call_of_newcomer : (step : ScriptStep) → BringsUp step.command → IsCall step → IsNewcomer step
call_of_newcomer step coming (inr newcomer) = newcomer
call_of_newcomer step coming (inl section) = absurd (not_coming step.command (ap is_still (section_ends step section)) coming)

-- ---- exactly where there is room

may_where : (m : Machine) → m.order ≡ None → length m.system.processors < 16 → may_come m ≡ true
may_where m none few =
    ap (λ (o : Option Order). not (is_some o) && nat_lt (length m.system.processors) 16) none ∙ lt-ltb (length m.system.processors) 16 few

pub newcomers_where_idle : NewcomersWhereIdle
newcomers_where_idle text front rest step same coming = (
  λ call. let may = newcomer_comes step (call_of_newcomer step coming call) in (idle_to_come step.before.machine may, few_to_come step.before.machine may),
  λ idle. inr (comes_as_newcomer step coming (may_where step.before.machine idle.0 idle.1)),
)
