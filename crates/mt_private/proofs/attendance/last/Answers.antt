use Rattle.std.proofs.Common.{◌≡◌, ◌∙◌, ap, sym, subst, arith, ℕ, ◌++◌, List, [], ◌∷◌, length, length-append}
use Rattle.std.specs.Prelude.{slice_get}
use Rattle.std.proofs.lemmas.Option.{get_or_from_slice_get, slice_get_within}
use Rattle.mt_machine.specs.declared.phase.Phase.TheVariants.{Running}
use Rattle.mt_machine.specs.System.{System}
use Rattle.mt_machine.specs.Machine.{Machine}
use Rattle.mt_private.specs.declared.job.JobAnswers.{JobAnswers}
use Rattle.mt_private.specs.declared.shared.Shared.{Shared}
use Rattle.mt_private.specs.declared.visiting.Guest.{Guest}
use Rattle.mt_private.specs.declared.visiting.Visited.TheVariants.{Cancelled}
use Rattle.mt_private.specs.Gathered.{IsGathered}
use Rattle.mt_private.specs.InYard.{IsNewIn, pass_in}
use Rattle.mt_private.specs.Jobs.{FitsJob}
use Rattle.mt_private.specs.YardCalls.{AreIn}
use Rattle.mt_private.proofs.Copies.{at_back, at_front}
use Rattle.mt_private.proofs.Lists.{got}
use Rattle.mt_private.proofs.attendance.last.Goals as goal

pub returns-clause-number : goal.returns-clause-number
returns-clause-number c =
    let front = c.pop.new.self.items in
    let g : Guest = c.in_ok-own.field-0 in
    (c.requires.gathered (length front) g (ap (λ (l : List Guest). slice_get l (length front)) c.in_ok-own.ensures.items ∙ at_back front g)).numbered

pub returns-clause-some : goal.returns-clause-some
returns-clause-some c =
    let shared : Shared = c.args.shared.now in
    let front = c.pop.new.self.items in
    let g : Guest = c.in_ok-own.field-0 in
    let rooms = c.pop-2.new.self.items in
    let answers : JobAnswers = c.in-Some.answers in
    let was = c.in_ok-own.ensures.items in
    let had = c.in-Some.ensures.items in
    let at = ap (λ (l : List Guest). slice_get l (length front)) was ∙ at_back front g in
    let one = c.requires.one_each in
    let n = ap (λ (l : List Guest). length l) was ∙ length-append front (g ∷ []) in
    let m = ap (λ (l : List JobAnswers). length l) had ∙ length-append rooms (answers ∷ []) in
    let same : length front ≡ length rooms = omega arith in
    let there = ap (λ (l : List JobAnswers). slice_get l (length front)) had ∙ ap (slice_get (rooms ++ answers ∷ [])) same ∙ at_back rooms answers in
    let system = ap (λ (x : Machine). x.system) c.core_of.ensures in
    let few = c.requires.few in
    let job = got shared.jobs.items (length front) (omega arith) in
    let gathered = c.requires.gathered (length front) g at in
    subst (λ (k : ℕ). IsNewIn shared k (record { core = c.core_of.result; pass = g.pass; told = answers; visited = Cancelled })) (sym gathered.numbered)
    (record {
      job = job.0;
      at = job.1;
      new = record {
        gathered = subst (λ (o : System). IsGathered (pass_in shared.yard g.pass) (length front) o) (sym system) gathered;
        idle = ap (λ (x : Machine). x.order) c.core_of.ensures;
        runs = subst (AreIn Running) (sym system) (c.requires.running (length front) g at);
        fits = subst FitsJob (get_or_from_slice_get shared.jobs.items (length front) job.0 job.0 job.1) (c.requires.fits (length front) job.0 (slice_get_within shared.jobs.items (length front) job.0 job.1));
        has_room = λ part. c.requires.has_room part (length front) job.0 answers job.1 there;
      };
    })

pub returns-clause-fewer : goal.returns-clause-fewer
returns-clause-fewer c =
    let front = c.pop.new.self.items in
    let g : Guest = c.in_ok-own.field-0 in
    ap (λ (l : List Guest). length l) c.in_ok-own.ensures.items ∙ length-append front (g ∷ [])

pub returns-clause-rest : goal.returns-clause-rest
returns-clause-rest c =
    let front = c.pop.new.self.items in
    let g : Guest = c.in_ok-own.field-0 in
    let rooms = c.pop-2.new.self.items in
    let answers : JobAnswers = c.in-Some.answers in
    let was = c.in_ok-own.ensures.items in
    let had = c.in-Some.ensures.items in
    let one = c.requires.one_each in
    let few = c.requires.few in
    let n = ap (λ (l : List Guest). length l) was ∙ length-append front (g ∷ []) in
    let m = ap (λ (l : List JobAnswers). length l) had ∙ length-append rooms (answers ∷ []) in
    record {
      gathered = λ k h at. c.requires.gathered k h (ap (λ (l : List Guest). slice_get l k) was ∙ at_front front (g ∷ []) k h at);
      running = λ k h at. c.requires.running k h (ap (λ (l : List Guest). slice_get l k) was ∙ at_front front (g ∷ []) k h at);
      few = (omega arith);
      one_each = (omega arith);
      fits = c.requires.fits;
      has_room = λ part k j x at_j at_x. c.requires.has_room part k j x at_j (ap (λ (l : List JobAnswers). slice_get l k) had ∙ at_front rooms (answers ∷ []) k x at_x);
    }
