-- What the threads of a yard begin with.
use Rattle.std.proofs.Common.{◌≡◌, ◌∙◌, ap, sym, refl, arith, ℕ, true, List, [], ◌∷◌, length, map, Option}
use Rattle.std.specs.List.{All}
use Rattle.std.specs.Option.{option_map_or}
use Rattle.std.proofs.lemmas.Option.{slice_get_within}
use Rattle.atomic_table.specs.Seated.{TableId}
use Rattle.mt_machine.specs.declared.phase.Phase.{Phase}
use Rattle.mt_machine.specs.declared.phase.Phase.TheVariants.{Running}
use Rattle.mt_machine.specs.System.{Processor, System}
use Rattle.mt_machine.specs.Access.{is_running}
use Rattle.mt_laws.proofs.Barrier.Claims.{all_get}
use Rattle.mt_rendezvous.specs.declared.view.Start.{Start}
use Rattle.mt_rendezvous.specs.Calls.{SeatOf}
use Rattle.mt_private.specs.declared.job.Job.{Job}
use Rattle.mt_private.specs.declared.job.Part.{Part}
use Rattle.mt_private.specs.declared.job.JobAnswers.{JobAnswers}
use Rattle.mt_private.specs.declared.visiting.Guest.{Guest}
use Rattle.mt_private.specs.Gathered.{AreGathered}
use Rattle.mt_private.specs.Jobs.{AreOpen, FitsJob}
use Rattle.mt_private.specs.Residents.{Opens}
use Rattle.mt_private.specs.Left.{AreBack}
use Rattle.mt_private.specs.Visitors.{AreWaiting, Returned}
use Rattle.mt_private.specs.YardPlays.{YardSat}
use Rattle.mt_private.proofs.Lists.{got}

runs_is : (ph : Phase) → is_running ph ≡ true → ph ≡ Running
runs_is Running h = refl
runs_is other h = absurd (cc)

pub waiting : (table : TableId) (t : Start) (jobs : List Job) (guests : List Guest) (told : List JobAnswers) → Opens t → AreGathered table t guests → length guests ≡ length t.cpus → length jobs ≡ length t.cpus → length told ≡ length jobs → All FitsJob jobs → ((part : Part) → AreOpen part jobs told)
    → AreWaiting table t jobs guests told
waiting table t jobs guests told opens gathered count size long fits opened = record {
  gathered = gathered;
  running = λ k g at.
      let within = slice_get_within guests k g at in
      let p = got t.cpus k (omega arith) in
      ap (λ (o : System). map (λ (q : Processor). q.phase) o.processors) (gathered k g at).own_is
      ∙ ap (λ (x : Option Processor). map (λ (q : Processor). q.phase) (option_map_or (λ q. q ∷ []) x [])) p.1
      ∙ ap (λ (ph : Phase). ph ∷ []) (runs_is p.0.phase (all_get (λ q. is_running q.phase ≡ true) t.cpus opens.quiet.running k p.0 p.1));
  few = (omega arith);
  one_each = long ∙ size ∙ sym count;
  fits = fits;
  has_room = opened;
}

-- all visitors came back
pub all_back : (host : SeatOf YardSat) (jobs : List Job) (owns : List (Option System)) (told : List JobAnswers) → Returned host jobs owns told → length jobs ≡ length host.start.cpus → length told ≡ length jobs → (count : ℕ) → length host.start.cpus ≡ count
    → AreBack count host.me.0 owns
all_back host jobs owns told r size long count is = record {
  size = r.size ∙ is;
  each = λ k low.
      let j = got jobs k (omega arith) in
      let x = got told k (omega arith) in
      let c = r.each k j.0 x.0 j.1 x.1 in
      (c.own, c.kept);
  keeps = r.keeps;
}
