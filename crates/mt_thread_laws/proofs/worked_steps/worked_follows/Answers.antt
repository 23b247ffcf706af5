use Rattle.std.proofs.Common.{◌≡◌, ◌∙◌, List, [], ◌∷◌, None, ap, arith, length, map, refl}
use Rattle.std.specs.Prelude.{slice_get}
use Rattle.mt_machine.specs.declared.event.Event.TheVariants.{Arrive}
use Rattle.mt_rendezvous.specs.declared.view.Held.{Held}
use Rattle.mt_rendezvous.specs.declared.view.Start.{Start}
use Rattle.mt_rendezvous.specs.Station.{cpu_of}
use Rattle.mt_rendezvous.specs.Laws.{machine_of}
use Rattle.mt_rendezvous.proofs.Unique.{stands_for_one}
use Rattle.mt_thread_laws.specs.WorkedStations.{at_start}
use Rattle.mt_thread_laws.proofs.Lodged.{absent, goes_on}
use Rattle.mt_thread_laws.proofs.StationOnWorked.{not_both, same_counts}
use Rattle.mt_thread_laws.proofs.WorkedStart.{begins_start}
use Rattle.mt_thread_laws.proofs.worked_steps.worked_follows.Goals as goal

none_there : (all : List Held) → length all ≡ 2 → slice_get (map cpu_of all) 7 ≡ None
none_there [] n = absurd (omega arith)
none_there (a ∷ []) n = absurd (omega arith)
none_there (a ∷ b ∷ []) n = refl
none_there (a ∷ b ∷ c ∷ all) n = absurd (omega arith)

pub returns-clause-not_kept : goal.returns-clause-not_kept
returns-clause-not_kept c = λ key is m f. not_both 1 refl (same_counts key is begins_start _ f.kept).0

pub returns-clause-not_enabled : goal.returns-clause-not_enabled
returns-clause-not_enabled c = λ key is m f.
    let size : length key.cpus.value.items ≡ 2 = ap (λ (t : Start). length t.cpus) is in
    absent (machine_of key (at_start key) m) 7 Arrive (none_there m.all (m.size ∙ size)) f.enabled

pub returns-clause-not_gone_on : goal.returns-clause-not_gone_on
returns-clause-not_gone_on c = λ key is m f. goes_on (machine_of key (at_start key) m) f.enabled (stands_for_one key (at_start key) m f.kept ∙ f.becomes)
