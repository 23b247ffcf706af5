use Rattle.std.proofs.Common.{◌≡◌, ◌∷◌, [], arith, refl, suc, zero, ℕ}
use Rattle.std.specs.List.{Contains}
use Rattle.mt_replay_laws.proofs.replay_worked.worked_words.Goals as goal

pub returns-clause-stored : goal.returns-clause-stored
returns-clause-stored c = refl

none : (a : ℕ) → Contains [] a → ⊥
none a (k, within, is) = omega (arith, within)

pub returns-clause-emptied_since : goal.returns-clause-emptied_since
returns-clause-emptied_since c = λ h. omega (arith, h 0x100008 refl (none 0x100008))

-- the other word isn't stored
not_stored : Contains {X = ℕ} (0x100008 ∷ []) 0x100000 → ⊥
not_stored (zero, within, is) = let e : 0x100008 ≡ 0x100000 = is in omega (arith, e)
not_stored (suc k, within, is) = omega (arith, within)

pub returns-clause-other_word_stored : goal.returns-clause-other_word_stored
returns-clause-other_word_stored c = λ h.
    let e : 7 ≡ 0 = h 0x100000 refl not_stored in
    cc e
