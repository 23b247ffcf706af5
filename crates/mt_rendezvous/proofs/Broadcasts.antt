-- A call and all takes in ascending order lead to a state from which a station can be gathered.
use Rattle.std.proofs.Common.{◌≡◌, ◌∙◌, ap, sym, refl, subst, arith, ℕ, ◌<◌, List, [], ◌∷◌, length, Option}
use Rattle.std.specs.List.{All, fold}
use Rattle.std.specs.Option.{option_map_or}
use Rattle.mt_regs.specs.RegisterFile.{RegisterFile}
use Rattle.mt_machine.specs.declared.event.Event.{Event}
use Rattle.mt_machine.specs.declared.event.Event.TheVariants.{Take}
use Rattle.mt_machine.specs.System.{Processor}
use Rattle.mt_machine.specs.Machine.{AreEnabled, Calls, IsEnabled, Machine, Steps, common_era, next, run}
use Rattle.mt_machine.specs.Start.{HasEraRoom, IsQuiet}
use Rattle.mt_laws.specs.Updates.{LeadsToBroadcast, call_and_takes, order_of_call}
use Rattle.mt_laws.proofs.Updates.ToBroadcast.{takes, takes_broadcast}
use Rattle.mt_core.specs.Arises.{Arises}
use Rattle.mt_core.specs.Rounds.{each_steps, in_order}
use Rattle.mt_core.specs.Steps.{step_after}
use Rattle.mt_core.proofs.Settling.{is_quiet_without_order}
use Rattle.mt_core.proofs.Turns.{each_once}
use Rattle.mt_rendezvous.specs.Station.{Begins}
use Rattle.mt_rendezvous.specs.Calls.{gathered}
use Rattle.mt_rendezvous.specs.Update.{HasTaken}
use Rattle.mt_rendezvous.proofs.Begun.{broadcast_begins}

takes_fold : (ks : List ℕ) (m : Machine) → AreEnabled m (takes ks) → fold step_after m ks ≡ run m (takes ks)
takes_fold [] m enabled = refl
takes_fold (k ∷ ks) m enabled =
    let first : step_after m k ≡ next m (Steps k Take) = ap (λ (x : Option Event). option_map_or (λ e. next m (Steps k e)) x m) enabled.0 in
    ap (λ (n : Machine). fold step_after n ks) first ∙ takes_fold ks (next m (Steps k Take)) enabled.1

room_of : (ps : List Processor) (top : ℕ) → 0 < length ps → All (λ p. p.era < top) ps → common_era ps < top
room_of [] top some all = absurd (omega arith)
room_of (p ∷ ps) top some all = all 0 p (omega arith)

pub has_taken : (s : Machine) (goal : RegisterFile) (m : Machine) → Arises s → 0 < length s.system.processors → HasEraRoom s → IsEnabled s (Calls goal)
    → m ≡ each_steps (next s (Calls goal)) → length m.system.processors ≡ length s.system.processors → HasTaken s goal m
has_taken s goal m arises some room enabled steps count =
    let quiet : IsQuiet s = is_quiet_without_order s arises enabled.0 in
    let leads : LeadsToBroadcast s goal (in_order s) = takes_broadcast s goal (in_order s) quiet enabled (each_once (length s.system.processors)) in
    let same : m ≡ run s (call_and_takes goal (in_order s)) = steps ∙ takes_fold (in_order s) (next s (Calls goal)) leads.enabled.1 in
    record {
      quiet = quiet;
      enabled = enabled;
      run = same;
      system = ap (λ (n : Machine). n.system) same ∙ leads.system;
      count = count;
      order = ap (λ (n : Machine). n.order) same ∙ leads.broadcast.order;
      begins = subst (λ (n : Machine). Begins (gathered n.system.processors n.system.memory goal)) (sym same)
          (broadcast_begins (run s (call_and_takes goal (in_order s))) (order_of_call s goal) leads.broadcast (room_of s.system.processors 18446744073709551615 some room));
    }
