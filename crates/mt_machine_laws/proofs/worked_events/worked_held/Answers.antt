use Rattle.std.proofs.Common.{arith, refl, ℕ, ◌≡◌, zero, suc, ◌∷◌, []}
use Rattle.std.specs.List.{Contains}
use Rattle.mt_machine_laws.proofs.worked_events.worked_held.Goals as goal

none : (a : ℕ) → Contains [] a → ⊥
none a (k, within, is) = omega (arith, within)

one : (a b : ℕ) → (a ≡ b → ⊥) → Contains (b ∷ []) a → ⊥
one a b differ (zero, within, is) = differ (omega (arith, is))
one a b differ (suc k, within, is) = omega (arith, within)

pub returns-clause-changed : goal.returns-clause-changed
returns-clause-changed c = λ h. omega (arith, h 0x100000 refl (none 0x100000))

pub returns-clause-second_word : goal.returns-clause-second_word
returns-clause-second_word c = λ h. omega (arith, h 0x100008 refl (none 0x100008))

pub returns-clause-left_in_a_cache : goal.returns-clause-left_in_a_cache
returns-clause-left_in_a_cache c = λ h. omega (arith, h 0x100000 refl (none 0x100000))

pub returns-clause-other_word_stored : goal.returns-clause-other_word_stored
returns-clause-other_word_stored c = λ h. omega (arith, h 0x100000 refl (one 0x100000 0x100008 (omega arith)))

pub returns-clause-after_the_events : goal.returns-clause-after_the_events
returns-clause-after_the_events c = λ h. omega (arith, h 0x100000 refl (none 0x100000))
