use Rattle.std.proofs.Common.{◌≡◌, sym, refl, arith, ◌<◌, inl, inr, ⊎_elim}
use Rattle.mt_thread_laws.proofs.Lodged.{not_same}
use Rattle.mt_thread_laws.proofs.job_worked.worked_event_words.Goals as goal

pub returns-clause-count : goal.returns-clause-count
returns-clause-count c = inl (omega arith, refl)

pub returns-clause-own : goal.returns-clause-own
returns-clause-own c = inr (refl, refl)

pub returns-clause-count_stored : goal.returns-clause-count_stored
returns-clause-count_stored c h =
    ⊎_elim (λ (x : (0 < 2) × (9 ≡ 0)). not_same 0 9 (omega arith) (sym x.1)) (λ (x : (0 ≡ 2) × (9 ≡ 9)). not_same 0 2 (omega arith) x.0) h

pub returns-clause-elsewhere : goal.returns-clause-elsewhere
returns-clause-elsewhere c h =
    ⊎_elim (λ (x : (3 < 2) × (9 ≡ 0)). not_same 0 9 (omega arith) (sym x.1)) (λ (x : (3 ≡ 2) × (9 ≡ 9)). not_same 2 3 (omega arith) (sym x.0)) h

pub returns-clause-otherwise : goal.returns-clause-otherwise
returns-clause-otherwise c h =
    ⊎_elim (λ (x : (2 < 2) × (0 ≡ 0)). absurd (let low = x.0 in omega arith)) (λ (x : (2 ≡ 2) × (9 ≡ 0)). not_same 0 9 (omega arith) (sym x.1)) h
