-- What is printed of a log.
use Rattle.std.proofs.Common.{◌≡◌, ◌∙◌, ℕ, List, [], Option, Some, None, Result, Ok, Err, refl, sym, ap, subst}
use Rattle.mt_ports.specs.declared.status.Status.TheVariants.{Done}
use Rattle.mt_memory.specs.declared.command.Asked.{Asked}
use Rattle.mt_memory.specs.declared.format.MapFault.{MapFault}
use Rattle.mt_memory.specs.declared.format.MapFault.TheVariants.{LongLine, Backward, UnknownKind, Hidden, Utf16, TooManyRanges, SeveralMaps, NoMap}
use Rattle.mt_memory.specs.declared.format.MemoryMap.{MemoryMap}
use Rattle.mt_memory.specs.Command.{command_of}
use Rattle.mt_memory.specs.Help.{own_text}
use Rattle.mt_memory.specs.Log.{log_map}
use Rattle.mt_memory.specs.Outcome.{IsPrinted, MapsArePrinted, Outcome, ReasonsComeAlone, fault_status, outcome_by, outcome_in, outcome_of}
use Rattle.mt_memory.proofs.Origins.{maps_are_shown}

not_done : (fault : MapFault) → fault_status fault ≡ Done → ⊥
not_done (LongLine place) is = cc is
not_done (Backward place) is = cc is
not_done (UnknownKind place) is = cc is
not_done (Hidden place) is = cc is
not_done (Utf16 place) is = cc is
not_done (TooManyRanges place) is = cc is
not_done (SeveralMaps begun) is = cc is
not_done (NoMap begun) is = cc is

pub maps_are_printed : MapsArePrinted
maps_are_printed words asked bytes own command done =
    let here : outcome_of words bytes ≡ outcome_by asked (log_map asked.format asked.which bytes) = rw (own, command) refl in
    subst (IsPrinted asked bytes) (sym here) (by (log_map asked.format asked.which bytes) refl (ap (λ (o : Outcome). o.status) (sym here) ∙ done))
  where
    by : (answer : Result MemoryMap MapFault) → log_map asked.format asked.which bytes ≡ answer → (outcome_by asked answer).status ≡ Done → IsPrinted asked bytes (outcome_by asked answer)
    by (Ok found) is done = record { found = found; is_map = maps_are_shown asked.format asked.which bytes found is; map = refl; reasons = refl }
    by (Err fault) is done = absurd (not_done fault done)

pub reasons_come_alone : ReasonsComeAlone
reasons_come_alone words bytes other = by (own_text words) (command_of words) other
  where
    on : (asked : Asked) (answer : Result MemoryMap MapFault) → ((outcome_by asked answer).status ≡ Done → ⊥) → (outcome_by asked answer).map ≡ []
    on asked (Ok found) other = absurd (other refl)
    on asked (Err fault) other = refl

    by : (own : Option (List ℕ)) (asked : Option Asked) → ((outcome_in own asked bytes).status ≡ Done → ⊥) → (outcome_in own asked bytes).map ≡ []
    by (Some text) asked other = absurd (other refl)
    by None None other = refl
    by None (Some asked) other = on asked (log_map asked.format asked.which bytes) other
