-- What the threads hand back, and where the update ends.
use Rattle.std.proofs.Common.{◌≡◌, ◌⊎◌, ◌∙◌, ap, sym, refl, subst, inl, inr, ⊎_elim, arith, ℕ, zero, suc, ◌+◌, Bool, true, false, List, [], ◌∷◌, ◌++◌, length, length-append, rules, Option, None, Some}
use Rattle.std.specs.Prelude.{IfSome, option_to_list, slice_get}
use Rattle.std.specs.List.{All}
use mathlib.Core.Option.{some}
use lib.ListN.{get_elem?}
use Rattle.atomic_table.proofs.Lists.{at_last, at_longer}
use Rattle.mt_laws.specs.Parts.{system}
use Rattle.mt_machine.specs.declared.phase.Phase.TheVariants.{Running, Taken}
use Rattle.mt_machine.specs.Memory.{Memory}
use Rattle.mt_machine.specs.System.{Processor}
use Rattle.mt_machine.specs.Machine.{Machine}
use Rattle.mt_laws.proofs.Barrier.Claims.{all_get, all_of}
use Rattle.mt_rendezvous.specs.declared.station.Attendee.{Attendee}
use Rattle.mt_rendezvous.specs.declared.station.Outcome.{Outcome}
use Rattle.mt_rendezvous.specs.declared.station.Outcome.TheVariants.{Complete, Cancelled}
use Rattle.mt_rendezvous.specs.declared.view.Added.{Added}
use Rattle.mt_rendezvous.specs.declared.view.Added.TheVariants.{Once, Twice}
use Rattle.mt_rendezvous.specs.declared.view.Held.{Held}
use Rattle.mt_rendezvous.specs.declared.view.Start.{Start}
use Rattle.mt_rendezvous.specs.declared.view.View.{View}
use Rattle.mt_rendezvous.specs.Station.{Begins, both, broadcast, held}
use Rattle.mt_rendezvous.specs.declared.station.Pass.{Pass}
use Rattle.mt_rendezvous.specs.declared.station.Root.{Root}
use Rattle.mt_rendezvous.specs.declared.station.Station.{Station}
use Rattle.mt_rendezvous.specs.Calls.{Ends}
use Rattle.mt_rendezvous.specs.InStation.{AllNewIn, AttendedIn, CameAs, CarriesIn, IsNewIn, IsQueue, IsRootIn, IsTaken, IsTakenAs, OneLess, Returned, Tied, pass_view, root_view, said_by, start_at}
use Rattle.mt_rendezvous.specs.Update.{decided, left_by}

-- ---- one attendee

pub came : (station : Station) (o : Outcome) (pass later : Pass) (p q : Processor) → AttendedIn o station later p q → later.number ≡ pass.number → CameAs station pass.number (record { cpu = q; pass = later })
came station o pass later p q a same = one o a
  where
    of : (added : Added) → CarriesIn station later q added → q.phase ≡ Running → CameAs station pass.number (record { cpu = q; pass = later })
    of added w runs = record { holds = (held later.number q added, w.same, w.bare, w.holds, refl, refl); runs = runs; numbered = same }

    one : (o : Outcome) → AttendedIn o station later p q → CameAs station pass.number (record { cpu = q; pass = later })
    one Complete a = of Twice a.0 (ap (λ r. r.phase) a.2)
    one Cancelled a = of Once a.0 (ap (λ r. r.phase) a.1)

-- ---- attendees in a row

pub popped : (station : Station) (old new : List Attendee) (o : Option Attendee) → old ≡ new ++ option_to_list o → IsQueue station old → IfSome o (IsTakenAs station (length new))
popped station old new None e q = search rules
popped station old new (Some a) e q = q.ready (length new) a (ap (λ l. get_elem? l (length new)) e ∙ at_last new a (length new) refl)

pub left : (station : Station) (old new : List Attendee) (o : Option Attendee) → old ≡ new ++ option_to_list o → IsQueue station old → IfSome o (λ a. OneLess station old new)
left station old new None e q = search rules
left station old new (Some a) e q = (
  omega (arith, ap (λ l. length l) e, length-append new (a ∷ [])),
  record { ready = λ k b at. q.ready k b (ap (λ l. get_elem? l k) e ∙ at_longer new (a ∷ []) k b at) },
)

pub is_taken : (station : Station) (k : ℕ) (a : Attendee) → Begins (start_at station) → IsNewIn station k a → IsTaken station a.pass a.cpu
is_taken station k a begins new = record { carries = new.carries; taken = all_get (λ p. p.phase ≡ Taken) (start_at station).cpus begins.broadcasts.taken k a.cpu new.first }

pub queue : (station : Station) (items : List Attendee) → Begins (start_at station) → AllNewIn station items → IsQueue station items
queue station items begins all = record { ready = λ k a at. let new = all k a at in (is_taken station k a begins new, new.numbered) }

-- ---- processors that came back

at_end : (l : List Processor) (a b : Processor) (j : ℕ) → slice_get (l ++ a ∷ []) j ≡ Some b → (slice_get l j ≡ Some b) ⊎ ((j ≡ length l) × (a ≡ b))
at_end [] a b zero e = inr (refl, (let same : Some a ≡ Some b = e in cc))
at_end [] a b (suc j) e = absurd (cc)
at_end (x ∷ xs) a b zero e = inl e
at_end (x ∷ xs) a b (suc j) e = ⊎_elim (λ t. inl t) (λ t. inr (ap suc t.0, t.1)) (at_end xs a b j e)

pub tie : (v w new : View) (h : Held) (done now : List Processor) (c : Processor) → w.held ≡ h ∷ [] → h.cpu ≡ c → h.number ≡ length done → new ≡ both v w → now ≡ done ++ c ∷ []
    → Tied v done → Tied new now
tie v w new h done now c is cpu num same more old i d at =
    let held : new.held ≡ h ∷ v.held = ap (λ u. u.held) same ∙ ap (λ l. l ++ v.held) is in ⊎_elim
    (λ (t : slice_get done i ≡ Some d). let o = old i d t in (suc o.0, o.1, subst (λ l. get_elem? l (suc o.0) ≡ some o.1) (sym held) o.2, o.3, o.4))
    (λ (t : (i ≡ length done) × (c ≡ d)). (0, h, subst (λ l. get_elem? l 0 ≡ some h) (sym held) refl, num ∙ sym t.0, cpu ∙ t.1))
    (at_end done c d i (subst (λ l. slice_get l i ≡ Some d) more at))

pub ran_too : (done now : List Processor) (c : Processor) → now ≡ done ++ c ∷ [] → c.phase ≡ Running → All (λ p. p.phase ≡ Running) done → All (λ p. p.phase ≡ Running) now
ran_too done now c more runs old = all_of (λ p. p.phase ≡ Running) now (λ k d at. ⊎_elim
    (λ (t : slice_get done k ≡ Some d). all_get (λ p. p.phase ≡ Running) done old k d t)
    (λ (t : (k ≡ length done) × (c ≡ d)). subst (λ p. p.phase ≡ Running) t.1 runs)
    (at_end done c d k (subst (λ l. slice_get l k ≡ Some d) more at)))

-- one more came back
pub returned : (station : Station) (root later : Root) (done now : List Processor) (a : Attendee) → IsRootIn station later → root_view later ≡ both (root_view root) (pass_view a.pass) → now ≡ done ++ a.cpu ∷ []
    → Returned station root (said_by root) (length done) done → CameAs station (length done) a → Returned station later (said_by root) (length done + 1) now
returned station root later done now a is_root same more r came = record {
  is_root = is_root;
  said = ap (λ v. v.go) same;
  tied = let h = came.holds in tie (root_view root) (pass_view a.pass) (root_view later) h.0 done now a.cpu h.3 h.4 (h.5 ∙ came.numbered) same more r.tied;
  ran = ran_too done now a.cpu more came.runs r.ran;
  whole = ap (λ l. length l) more ∙ length-append done (a.cpu ∷ []);
}

-- ---- the end

same_list : (xs ys : List Processor) → length xs ≡ length ys → ((k : ℕ) (c d : Processor) → slice_get xs k ≡ Some c → slice_get ys k ≡ Some d → c ≡ d) → xs ≡ ys
same_list [] [] size same = refl
same_list [] (y ∷ ys) size same = absurd (omega arith)
same_list (x ∷ xs) [] size same = absurd (omega arith)
same_list (x ∷ xs) (y ∷ ys) size same = λ i. same 0 x y refl refl i ∷ same_list xs ys (omega arith) (λ k. same (suc k)) i

-- the processors that came back and the memory are what the update leaves
pub whole : (t : Start) (done : List Processor) (ram : Memory) (given : Bool) (v : View) → Ends t v ram → Tied v done → All (λ p. p.phase ≡ Running) done → v.go ≡ decided given → length done ≡ length t.cpus
    → system done ram ≡ left_by given (broadcast t).system t.goal
whole t done ram given v end tied ran said size = by given said
  where
    each : (k : ℕ) (c d : Processor) → slice_get done k ≡ Some c → slice_get end.machine.system.processors k ≡ Some d → c ≡ d
    each k c d at at' =
        let w = tied k c at in
        let there : Some c ≡ Some d = ap Some (sym w.4) ∙ sym (end.has w.0 w.1 w.2) ∙ ap (slice_get end.machine.system.processors) w.3 ∙ at' in
        cc

    same : done ≡ end.machine.system.processors
    same = same_list done end.machine.system.processors (size ∙ sym end.size) each

    parts : system done ram ≡ end.machine.system
    parts = λ i. system (same i) (sym end.memory i)

    runs : All (λ p. p.phase ≡ Running) end.machine.system.processors
    runs = subst (All (λ p. p.phase ≡ Running)) same ran

    by : (g : Bool) → v.go ≡ decided g → system done ram ≡ left_by g (broadcast t).system t.goal
    by true is = parts ∙ ap (λ (m : Machine). m.system) (end.given is runs)
    by false is = parts ∙ ap (λ (m : Machine). m.system) (end.cancelled is runs)
