-- The first file that isn't accepted: which it is, and where there is none.
use Rattle.std.proofs.Common.{◌≡◌, ◌∙◌, ap, sym, refl, subst, arith, ℕ, zero, suc, ◌+◌, List, [], ◌∷◌, Option, None, Some}
use Rattle.std.specs.Prelude.{MatchOption}
use Rattle.std.specs.List.{All}
use Rattle.mt_regs.specs.declared.fault.Fault.{Fault}
use Rattle.mt_regs.specs.RegisterFile.{RegisterFile}
use Rattle.mt_regs.specs.Faults.{IsAccepted}
use Rattle.mt_regs.specs.FirstFault.{first_fault}
use Rattle.mt_regs.specs.Agreement.{IsFirstRefusal, first_from, first_refusal}
use Rattle.mt_regs.proofs.FirstFault.{is_first_fault}
use Rattle.mt_regs.proofs.FirstOnes.{is_first_refusal}

pub all_accepted : (files : List RegisterFile) → first_refusal files ≡ None → All IsAccepted files
all_accepted files none = subst (λ (o : Option (ℕ × Fault)). MatchOption o (All IsAccepted files) (λ found. IsFirstRefusal files found.0 found.1)) none (is_first_refusal files)

pub refusal_found : (files : List RegisterFile) (found : ℕ × Fault) → first_refusal files ≡ Some found → IsFirstRefusal files found.0 found.1
refusal_found files found some = subst (λ (o : Option (ℕ × Fault)). MatchOption o (All IsAccepted files) (λ found. IsFirstRefusal files found.0 found.1)) some (is_first_refusal files)

no_fault : (f : RegisterFile) → IsAccepted f → first_fault f ≡ None
no_fault f is = sym (is_first_fault f None is)

none_from : (m : ℕ) (files : List RegisterFile) → All IsAccepted files → first_from first_fault m files ≡ None
none_from m [] all = refl
none_from m (f ∷ fs) all = rw (no_fault f (all 0 f (omega arith))) (none_from (m + 1) fs (λ k d within. all (suc k) d (omega arith)))

pub none_refused : (files : List RegisterFile) → All IsAccepted files → first_refusal files ≡ None
none_refused files all = none_from 0 files all

refused_from : (m : ℕ) (files : List RegisterFile) (k : ℕ) (fault : Fault) → IsFirstRefusal files k fault → first_from first_fault m files ≡ Some (m + k, fault)
refused_from m [] k fault r = absurd (let at = r.at in cc at)
refused_from m (f ∷ fs) zero fault r =
    let same : f ≡ r.file = let at = r.at in cc at in
    let first : first_fault f ≡ Some fault = ap first_fault same ∙ sym (is_first_fault r.file (Some fault) r.refused) in
    let number : m ≡ m + 0 = omega arith in
    rw first (ap (λ n. Some (n, fault)) number)
refused_from m (f ∷ fs) (suc k) fault r =
    let number : m + 1 + k ≡ m + suc k = omega arith in
    let later = refused_from (m + 1) fs k fault (record { file = r.file; at = r.at; refused = r.refused; before = λ j d within. r.before (suc j) d (omega arith) }) in
    rw (no_fault f (r.before 0 f (omega arith))) (later ∙ ap (λ n. Some (n, fault)) number)

pub refused_first : (files : List RegisterFile) (k : ℕ) (fault : Fault) → IsFirstRefusal files k fault → first_refusal files ≡ Some (k, fault)
refused_first files k fault r = let number : 0 + k ≡ k = omega arith in refused_from 0 files k fault r ∙ ap (λ n. Some (n, fault)) number
