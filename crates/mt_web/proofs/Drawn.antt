-- From a run of the map to what it comes to.
use Rattle.std.proofs.Common.{◌≡◌, ℕ, List, [], Option, Some, subst}
use Rattle.mt_ports.specs.declared.status.Status.{Status}
use Rattle.mt_ports.specs.declared.status.Status.TheVariants.{NoMemory, ReadFault}
use Rattle.mt_ports.specs.Causes.{StatusHasCause}
use Rattle.mt_ports.specs.Exit.{code}
use Rattle.mt_output.specs.Ports.{change, held}
use Rattle.mt_map.specs.declared.asked.Asked.{Asked}
use Rattle.mt_map.specs.Asked.{asked_by}
use Rattle.mt_map.specs.Map.{Maps, Output, no_memory, told, unread, writes}
use Rattle.mt_web.specs.Drawing.{DrawsFor}
use Rattle.mt_web.specs.Outcome.{no_memory as no_memory_told, told_number, told_text}
use Rattle.mt_web.proofs.Outcomes.{of_nothing, of_unread, of_writes}

of_maps : (words : List (List ℕ)) (bytes taken : List ℕ) (left : Option (List ℕ)) (result : Status) → StatusHasCause ReadFault 0 0 result
    → Maps (asked_by words) (held bytes left) (change (Some []) (Some taken)) result → DrawsFor words bytes (told_text result taken) (told_number result)
of_maps words bytes taken left result cause (told end (writes text status is wrote)) = of_writes (Output (asked_by words) bytes) bytes text taken status result is wrote
of_maps words bytes taken left result cause (told end (no_memory none same)) = of_nothing (Output (asked_by words) bytes) bytes taken result none same
of_maps words bytes taken left result cause (unread same why) = of_unread (Output (asked_by words) bytes) bytes taken result cause same why

pub draws_for : (words : List (List ℕ)) (bytes old new text : List ℕ) (number : ℕ) (left : Option (List ℕ)) (result : Status) (asked : Option Asked) → asked ≡ asked_by words
    → old ≡ [] → StatusHasCause ReadFault 0 0 result → Maps asked (held bytes left) (change (Some old) (Some new)) result → text ≡ told_text result new → number ≡ told_number result
    → DrawsFor words bytes text number
draws_for words bytes old new text number left result asked asks empty cause does text_is number_is =
    let begun = subst (λ (o : List ℕ). Maps asked (held bytes left) (change (Some o) (Some new)) result) empty does in
    rw (text_is, number_is) (of_maps words bytes new left result cause (subst (λ (a : Option Asked). Maps a (held bytes left) (change (Some []) (Some new)) result) asks begun))

pub draws_no_words : (words : List (List ℕ)) (bytes text : List ℕ) (number : ℕ) → (text ≡ []) × (number ≡ code NoMemory) → DrawsFor words bytes text number
draws_no_words words bytes text number empty = rw (empty.0, empty.1) no_memory_told
