-- From a run of the importer to what it comes to.
use Rattle.std.proofs.Common.{◌≡◌, ℕ, List, [], Option, Some, refl, subst}
use Rattle.mt_ports.specs.declared.status.Status.{Status}
use Rattle.mt_ports.specs.declared.status.Status.TheVariants.{NoMemory, ReadFault}
use Rattle.mt_ports.specs.Causes.{StatusHasCause}
use Rattle.mt_ports.specs.Exit.{code}
use Rattle.mt_output.specs.Ports.{change, held}
use Rattle.mt_import.specs.Import.{Imports, output_of, told, unread}
use Rattle.mt_web.specs.Importing.{ImportsFor}
use Rattle.mt_web.specs.Outcome.{no_memory, told_number, told_text}
use Rattle.mt_web.proofs.Outcomes.{of_unread, of_writes}

of_imports : (words : List (List ℕ)) (bytes taken : List ℕ) (left : Option (List ℕ)) (result : Status) → StatusHasCause ReadFault 0 0 result
    → Imports words (held bytes left) (change (Some []) (Some taken)) result → ImportsFor words bytes (told_text result taken) (told_number result)
of_imports words bytes taken left result cause (told end wrote) =
    of_writes (λ text status. (text ≡ (output_of words bytes).0) × (status ≡ (output_of words bytes).1)) bytes _ taken _ result (refl, refl) wrote
of_imports words bytes taken left result cause (unread same why) =
    of_unread (λ text status. (text ≡ (output_of words bytes).0) × (status ≡ (output_of words bytes).1)) bytes taken result cause same why

pub imports_for : (words : List (List ℕ)) (bytes old new text : List ℕ) (number : ℕ) (left : Option (List ℕ)) (result : Status) → old ≡ [] → StatusHasCause ReadFault 0 0 result
    → Imports words (held bytes left) (change (Some old) (Some new)) result → text ≡ told_text result new → number ≡ told_number result → ImportsFor words bytes text number
imports_for words bytes old new text number left result empty cause does text_is number_is =
    rw (text_is, number_is) (of_imports words bytes new left result cause (subst (λ (o : List ℕ). Imports words (held bytes left) (change (Some o) (Some new)) result) empty does))

pub imports_no_words : (words : List (List ℕ)) (bytes text : List ℕ) (number : ℕ) → (text ≡ []) × (number ≡ code NoMemory) → ImportsFor words bytes text number
imports_no_words words bytes text number empty = rw (empty.0, empty.1) no_memory
