-- From the run of a serial command to what it comes to.
use Rattle.std.proofs.Common.{◌≡◌, ℕ, List, [], Option, Some, None, inl, inr, refl, ap, subst}
use Rattle.std.specs.Prelude.{IfSome}
use Rattle.mt_ports.specs.declared.status.Status.{Status}
use Rattle.mt_ports.specs.declared.status.Status.TheVariants.{Done, NoMemory, ReadFault, Usage}
use Rattle.mt_ports.specs.Causes.{StatusHasCause}
use Rattle.mt_ports.specs.Exit.{code}
use Rattle.mt_output.specs.Written.{Writes}
use Rattle.mt_answers.specs.declared.command.Command.TheVariants.{Serial, Threaded}
use Rattle.mt_answers.specs.declared.command.ThreadedCommand.{ThreadedCommand}
use Rattle.mt_answers.specs.declared.command.SerialCommand.{SerialCommand}
use Rattle.mt_answers.specs.declared.command.SerialCommand.TheVariants.{Dump, Make, Help, Version}
use Rattle.mt_answers.specs.declared.command.DumpCommand.{DumpCommand}
use Rattle.mt_answers.specs.CommandLine.{command_of, threaded_of}
use Rattle.mt_answers.specs.Help.{own_text}
use Rattle.mt_output.specs.Lines.{usage_line}
use Rattle.mt_output.specs.Ports.{change, held}
use Rattle.mt_answers.specs.Written.{AnswersInput, Makes, bad_input, good_input, no_input, writes, no_memory}
use Rattle.mt_web.specs.Outcome.{PageOutcome, told_number, told_text}
use Rattle.mt_web.specs.Answering.{AnswersFor, SerialOutput, answers, no_words, offends, own, serial, threaded, usage}
use Rattle.mt_web.specs.Placed.{on_threads}
use Rattle.mt_web.proofs.Outcomes.{of_nothing, of_unread, of_writes}

of_input : (words : List (List ℕ)) (bytes taken : List ℕ) (left : Option (List ℕ)) (asked : DumpCommand) (result : Status) → command_of words ≡ Some (Serial (Dump asked))
    → StatusHasCause ReadFault 0 0 result → AnswersInput asked (held bytes left) (change (Some []) (Some taken)) result → PageOutcome (SerialOutput words bytes) bytes (told_text result taken) (told_number result)
of_input words bytes taken left asked result is cause (bad_input fault found end wrote) = of_writes (SerialOutput words bytes) bytes _ taken _ result (offends asked fault is found) wrote
of_input words bytes taken left asked result is cause (good_input dump shown end (writes text status answer wrote)) =
    of_writes (SerialOutput words bytes) bytes text taken status result (answers asked dump text status is shown answer) wrote
of_input words bytes taken left asked result is cause (good_input dump shown end (no_memory none same)) = of_nothing (SerialOutput words bytes) bytes taken result none same
of_input words bytes taken left asked result is cause (no_input same why) = of_unread (SerialOutput words bytes) bytes taken result cause same why

of_own : (words : List (List ℕ)) (bytes taken text : List ℕ) (command : SerialCommand) (result : Status) → command_of words ≡ Some (Serial command) → own_text command ≡ Some text
    → Makes text (Some []) (Some taken) result → PageOutcome (SerialOutput words bytes) bytes (told_text result taken) (told_number result)
of_own words bytes taken text command result is owns (inl wrote) = of_writes (SerialOutput words bytes) bytes text taken Done result (own command text is owns) wrote
of_own words bytes taken text command result is owns (inr (none, same)) = of_nothing (SerialOutput words bytes) bytes taken result none same

pub of_serial : (words : List (List ℕ)) (bytes taken : List ℕ) (left : Option (List ℕ)) (command : SerialCommand) (result : Status) → command_of words ≡ Some (Serial command)
    → StatusHasCause ReadFault 0 0 result → ((asked : DumpCommand) → command ≡ Dump asked → AnswersInput asked (held bytes left) (change (Some []) (Some taken)) result)
    → IfSome (own_text command) (λ text. Makes text (Some []) (Some taken) result) → PageOutcome (SerialOutput words bytes) bytes (told_text result taken) (told_number result)
of_serial words bytes taken left (Dump asked) result is cause answer makes = of_input words bytes taken left asked result is cause (answer asked refl)
of_serial words bytes taken left (Make n) result is cause answer makes = of_own words bytes taken _ (Make n) result is refl makes
of_serial words bytes taken left Help result is cause answer makes = of_own words bytes taken _ Help result is refl makes
of_serial words bytes taken left Version result is cause answer makes = of_own words bytes taken _ Version result is refl makes

-- ---- the text and the number of a call

pub answers_usage : (words : List (List ℕ)) (bytes old new text : List ℕ) (number : ℕ) (result : Status) → command_of words ≡ None → old ≡ []
    → Writes usage_line Usage (Some old) (Some new) result → text ≡ told_text result new → number ≡ told_number result → AnswersFor words bytes text number
answers_usage words bytes old new text number result is empty wrote text_is number_is =
    let begun = subst (λ (o : List ℕ). Writes usage_line Usage (Some o) (Some new) result) empty wrote in
    rw (text_is, number_is) (serial _ _ (ap threaded_of is) (of_writes (SerialOutput words bytes) bytes usage_line new Usage result (usage is) begun))

pub answers_serial : (words : List (List ℕ)) (bytes old new text : List ℕ) (number : ℕ) (left end : Option (List ℕ)) (command : SerialCommand) (result : Status)
    → command_of words ≡ Some (Serial command) → old ≡ [] → left ≡ Some bytes → StatusHasCause ReadFault 0 0 result
    → ((asked : DumpCommand) (bs : List ℕ) → command ≡ Dump asked → left ≡ Some bs → AnswersInput asked (held bs end) (change (Some old) (Some new)) result)
    → IfSome (own_text command) (λ t. Makes t (Some old) (Some new) result) → text ≡ told_text result new → number ≡ told_number result → AnswersFor words bytes text number
answers_serial words bytes old new text number left end command result is empty given cause answer makes text_is number_is =
    let input = λ (asked : DumpCommand) (says : command ≡ Dump asked).
    subst (λ (o : List ℕ). AnswersInput asked (held bytes end) (change (Some o) (Some new)) result) empty (answer asked bytes says given) in
    let own = subst (λ (o : List ℕ). IfSome (own_text command) (λ t. Makes t (Some o) (Some new) result)) empty makes in
    rw (text_is, number_is) (serial _ _ (ap threaded_of is) (of_serial words bytes new end command result is cause input own))

pub answers_threaded : (words : List (List ℕ)) (bytes text : List ℕ) (number : ℕ) (command : ThreadedCommand) → command_of words ≡ Some (Threaded command)
    → (text ≡ []) × (number ≡ on_threads) → AnswersFor words bytes text number
answers_threaded words bytes text number command is told = rw (told.0, told.1) (threaded command (ap threaded_of is))

pub answers_no_words : (words : List (List ℕ)) (bytes text : List ℕ) (number : ℕ) → (text ≡ []) × (number ≡ code NoMemory) → AnswersFor words bytes text number
answers_no_words words bytes text number told = rw (told.0, told.1) no_words
