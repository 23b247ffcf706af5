-- Why jobs aren't run: each cause with what it comes to.
use Rattle.std.proofs.Common.{◌≡◌, ◌∙◌, ap, arith, refl, sym, subst, ℕ, Err, Ok, List, Option, None, Some, Vec}
use Rattle.std.specs.Prelude.{IsSome, ◌↔◌}
use Rattle.std.specs.declared.alloc.Global.{Global}
use Rattle.mt_regs.specs.RegisterFile.{IsRegisterFile, RegisterFile}
use Rattle.mt_regs.specs.declared.fault.Fault.{Fault}
use Rattle.mt_regs.specs.Faults.{IsAccepted, IsFirstFault}
use Rattle.mt_regs.proofs.First.{one_first_fault_lem}
use Rattle.mt_machine.specs.System.{System}
use Rattle.mt_machine.specs.Machine.{Machine, Order}
use Rattle.mt_machine.specs.Start.{IsQuiet}
use Rattle.mt_core.specs.Arises.{IsCore}
use Rattle.mt_core.proofs.Arising.{era_room}
use Rattle.mt_core.proofs.Settling.{is_quiet_without_order}
use Rattle.mt_rendezvous.specs.Calls.{gathered}
use Rattle.mt_rendezvous.specs.Update.{FitsUpdate}
use Rattle.mt_private.specs.declared.fault.PrivateFault.TheVariants.{NoMemory, Refused, Shared}
use Rattle.mt_private.specs.declared.job.Job.{Job}
use Rattle.mt_private.specs.declared.job.JobAnswers.{JobAnswers}
use Rattle.mt_private.specs.OneByOne.{AreOneByOne, jobs_one_by_one}
use Rattle.mt_private.specs.Pages.{IsLeastShared, IsPrivate}
use Rattle.mt_private.specs.Residents.{Opens}
use Rattle.mt_private.specs.Runs.{IsPrivateRun}

nor : {X Y : Type 0} → (X → ⊥) → (Y → ⊥) → X ↔ Y
nor a b = (λ x. absurd (a x), λ y. absurd (b y))

module _ (m : Machine) (goal : RegisterFile) (jobs : List Job) (idle : m.order ≡ None) where
  busy : IsSome m.order → ⊥
  busy is = let some = subst (λ (o : Option Order). IsSome o) idle is in cc some

  pub refused : (a : Fault) → IsFirstFault goal (Some a) → IsPrivateRun m goal jobs (Err (Refused a)) m
  refused a first = record {
    under_way = nor (λ is. cc) busy;
    refused = λ fault. (
      λ is. let e : a ≡ fault = cc in (idle, subst (λ (f : Fault). IsFirstFault goal (Some f)) e first),
      λ h. let e : Some a ≡ Some fault = one_first_fault_lem goal (Some a) (Some fault) first h.1 in cc,
    );
    shared = λ page. nor (λ is. cc) (λ h. let e : Some a ≡ None = one_first_fault_lem goal (Some a) None first h.1 in cc);
    no_memory = λ is. absurd (cc);
    done = tt;
    kept = refl;
  }

  module _ (good : IsAccepted goal) where
    no_fault : (fault : Fault) → IsFirstFault goal (Some fault) → ⊥
    no_fault fault first = let e : Some fault ≡ None = one_first_fault_lem goal (Some fault) None first good in cc

    pub shared : (found : Option ℕ) (page : ℕ) → found ≡ Some page → ((n : ℕ) → (found ≡ Some n) ↔ IsLeastShared m.system n) → IsPrivateRun m goal jobs (Err (Shared page)) m
    shared found page is least = record {
      under_way = nor (λ same. cc) busy;
      refused = λ fault. nor (λ same. cc) (λ h. no_fault fault h.1);
      shared = λ n. (
        λ same. let e : page ≡ n = cc in (idle, good, (least n).0 (is ∙ ap Some e)),
        λ h. let e : Some page ≡ Some n = sym is ∙ (least n).1 h.2 in cc,
      );
      no_memory = λ same. absurd (cc);
      done = tt;
      kept = refl;
    }

    module _ (own : IsPrivate m.system) where
      unshared : (page : ℕ) → IsLeastShared m.system page → ⊥
      unshared page least = let two = least.shared in let few = own page in omega (arith, two, few)

      pub no_memory : (new : Machine) → new ≡ m → IsPrivateRun m goal jobs (Err NoMemory) new
      no_memory new same = record {
        under_way = nor (λ is. cc) busy;
        refused = λ fault. nor (λ is. cc) (λ h. no_fault fault h.1);
        shared = λ page. nor (λ is. cc) (λ h. unshared page h.2);
        no_memory = λ is. (idle, good, own);
        done = tt;
        kept = same;
      }

      pub done : (told : Vec JobAnswers Global) (new : Machine) → AreOneByOne (jobs_one_by_one m.system goal jobs) new told.items → IsPrivateRun m goal jobs (Ok told) new
      done told new all = record {
        under_way = nor (λ is. cc) busy;
        refused = λ fault. nor (λ is. cc) (λ h. no_fault fault h.1);
        shared = λ page. nor (λ is. cc) (λ h. unshared page h.2);
        no_memory = λ is. absurd (cc);
        done = all;
        kept = tt;
      }

pub private_where_none : (s : System) (found : Option ℕ) → ((n : ℕ) → found ≡ Some n → ⊥) → ((found ≡ None) ↔ IsPrivate s) → IsPrivate s
private_where_none s None not none = none.0 (λ i. None)
private_where_none s (Some n) not none = absurd (not n (λ i. Some n))

-- ---- what a yard is gathered from

abbrev with_order : System → Option Order → Machine
with_order s o = record { system = s; order = o }

-- a core that rests may be gathered, for a goal that it may be called with
pub opens_of : (m : Machine) (goal : RegisterFile) → IsCore m → m.order ≡ None → IsRegisterFile goal → IsAccepted goal → IsPrivate m.system → FitsUpdate m goal
    → Opens (gathered m.system.processors m.system.memory goal)
opens_of m goal core none file good own fits = record {
  quiet = subst IsQuiet (ap (with_order m.system) none) (is_quiet_without_order m core.arises none);
  enabled = (refl, file, good, fits.fits);
  unshared = own;
  some = fits.some;
  few = core.few;
  room = era_room m.system.processors fits.room;
}
