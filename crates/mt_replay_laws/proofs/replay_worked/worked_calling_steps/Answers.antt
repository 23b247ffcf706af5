use Rattle.std.proofs.Common.{◌≡◌, ◌∷◌, [], List, ap, arith, inl, inr, refl, ⊎_elim, ℕ}
use Rattle.std.specs.Fmt.{digits}
use Rattle.mt_script.specs.declared.command.Command.TheVariants as asks
use Rattle.mt_script.specs.declared.command.Newcomer.TheVariants.{Join}
use Rattle.mt_replay_laws.specs.Headline.{ComesUp}
use Rattle.mt_replay.specs.Steps.{wrote}
use Rattle.mt_replay.specs.Texts.{called_line}
use Rattle.mt_replay_laws.specs.WorkedStates.{crowd}
use Rattle.mt_replay_laws.specs.WorkedSteps.{step_of}
use Rattle.mt_replay_laws.proofs.Courses.Tells.{no_call_there}
use Rattle.mt_replay_laws.proofs.replay_worked.worked_calling_steps.Goals as goal

abbrev first : List ℕ → ℕ
first [] = 0
first (a ∷ rest) = a

-- the fourth and the eighth letter, behind `up` and `joined`
abbrev fourth : List ℕ → ℕ
fourth (a ∷ b ∷ c ∷ d ∷ rest) = d
fourth other = 0

abbrev eighth : List ℕ → ℕ
eighth (a ∷ b ∷ c ∷ d ∷ e ∷ f ∷ g ∷ h ∷ rest) = h
eighth other = 0

pub returns-clause-section : goal.returns-clause-section
returns-clause-section c = inl (inl refl)

pub returns-clause-complete : goal.returns-clause-complete
unfolding digits
returns-clause-complete c = inl (inr (1, refl))

pub returns-clause-up : goal.returns-clause-up
returns-clause-up c = inr (2, inl (refl, refl))

pub returns-clause-join : goal.returns-clause-join
returns-clause-join c = inr (2, inr (refl, refl))

pub returns-clause-retire : goal.returns-clause-retire
returns-clause-retire c = no_call_there (step_of asks.Retire (crowd 2)) refl (λ h. let e = h.1 in absurd (cc e))

pub returns-clause-other_number : goal.returns-clause-other_number
unfolding digits
returns-clause-other_number c = λ h. let e : 50 ≡ 51 = ap fourth h.1 in omega (arith, e)

pub returns-clause-other_joined : goal.returns-clause-other_joined
unfolding digits
returns-clause-other_joined c = λ h. let e : 50 ≡ 51 = ap eighth h.1 in omega (arith, e)

pub returns-clause-called : goal.returns-clause-called
returns-clause-called c = inr (2, (refl, refl))

pub returns-clause-joined_not_called : goal.returns-clause-joined_not_called
returns-clause-joined_not_called c = λ h. ⊎_elim (λ (is : wrote (step_of (asks.Newcomer Join) (crowd 2)) ≡ called_line). absurd (omega (arith, ap first is))) (λ (up : (k : ℕ) × ComesUp (step_of (asks.Newcomer Join) (crowd 2)) k). absurd (cc up.1.0)) h
