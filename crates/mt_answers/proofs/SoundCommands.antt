-- A page's address that a command line names has 52 bits, and its index is one of eight.
use Rattle.std.proofs.Common.{◌≡◌, ℕ, ◌-◌, ◌^◌, ◌<◌, ◌≤◌, Bool, true, false, List, [], ◌∷◌, Option, Some, None, ap, refl, arith}
use Rattle.std.specs.Prelude.{◌&&◌, nat_le, nat_lt, codes, if◌then◌else◌, IfSome, Result, Ok, Err}
use Rattle.std.specs.Option.{option_and_then, option_map}
use Rattle.std.specs.Result.{result_ok}
use Rattle.std.proofs.lemmas.Bool.{and_parts, leb-true, ltb-true}
use Rattle.mt_text.specs.Number.{decimal_number, hex_number}
use Rattle.mt_text.specs.declared.fault.NumberFault.{NumberFault}
use Rattle.mt_dump.proofs.OneLine.{decimal_within}
use Rattle.mt_gran.specs.Sizes.{log_among}
use Rattle.mt_gran.proofs.GranuleSizes.{size_is}
use Rattle.mt_answers.specs.declared.command.Command.{Command}
use Rattle.mt_answers.specs.declared.command.Command.TheVariants.{Serial, Threaded}
use Rattle.mt_answers.specs.declared.command.SerialCommand.{SerialCommand}
use Rattle.mt_answers.specs.declared.command.SerialCommand.TheVariants.{Make, Help, Version}
use Rattle.mt_answers.specs.declared.command.ThreadedCommand.{ThreadedCommand}
use Rattle.mt_answers.specs.declared.command.ThreadedCommand.TheVariants.{Replay, Proc, Big, Private}
use Rattle.mt_answers.specs.declared.command.DumpCommand.{DumpCommand}
use Rattle.mt_answers.specs.declared.command.DumpCommand.TheVariants.{Page}
use Rattle.mt_answers.specs.declared.command.TidyOptions.{TidyOptions}
use Rattle.mt_answers.specs.CommandLine.{IsSound, IsSoundSerial, IsSoundThreaded, command_of, command_of_one, command_of_three, threaded_of, gran_as, gran_with, index_of, is_text, log_of, most_accesses, number_of, of_dump, option_of, options_with, options_with_both, page_at, private_with, proc_with, tidy_with, usual_options}

-- what a command asks is within its limits
abbrev IsSoundCommand : Command → Type 0
IsSoundCommand (Serial command) = IsSoundSerial command
IsSoundCommand (Threaded command) = IsSoundThreaded command

on_dump : (command : Option DumpCommand) → IfSome command IsSound → IfSome (of_dump command) IsSoundCommand
on_dump None sound = tt
on_dump (Some command) sound = sound

choice : (b : Bool) (x y : Option Command) → IfSome x IsSoundCommand → IfSome y IsSoundCommand → IfSome (if b then x else y) IsSoundCommand
choice true x y first second = first
choice false x y first second = second

index_below : (word : List ℕ) (index : ℕ) → index_of word ≡ Some index → index < 8
index_below [] index = λ is. absurd (cc is)
index_below (digit ∷ more ∷ word) index = λ is. absurd (cc is)
index_below (digit ∷ []) index = by_digit (nat_le 48 digit && nat_lt digit 56) refl
  where
    by_digit : (b : Bool) → (nat_le 48 digit && nat_lt digit 56) ≡ b → (if b then Some (digit - 48) else None) ≡ Some index → index < 8
    by_digit true test is =
        let below : digit < 56 = ltb-true _ _ (and_parts _ _ test).1 in
        let same : digit - 48 ≡ index = cc is in
        omega arith
    by_digit false test is = absurd (cc is)

sound_page : (address : Result ℕ NumberFault) (index : Option ℕ) → ((i : ℕ) → index ≡ Some i → i < 8) → IfSome (page_at address index) IsSound
sound_page (Err fault) index small = tt
sound_page (Ok address) None small = tt
sound_page (Ok address) (Some index) small = by_address (nat_lt address (2 ^ 52)) refl
  where
    by_address : (b : Bool) → nat_lt address (2 ^ 52) ≡ b → IfSome (if b then Some (Page address index) else None) IsSound
    by_address true test = (ltb-true _ _ test, small index refl)
    by_address false test = tt

sound_tidy : (options : Option TidyOptions) → IfSome (tidy_with options) IsSound
sound_tidy None = tt
sound_tidy (Some options) = tt

sound_as : (log : Option ℕ) (options : Option TidyOptions) → ((g : ℕ) → log ≡ Some g → g ≤ 28) → IfSome (gran_as log options) IsSound
sound_as None options small = tt
sound_as (Some log) None small = tt
sound_as (Some log) (Some options) small = small log refl

small_log : (size : Result ℕ NumberFault) (g : ℕ) → option_and_then (λ n. log_among n 0 29) (result_ok size) ≡ Some g → g ≤ 28
small_log (Ok size) g is = ((size_is size g).0 is).0
small_log (Err fault) g is = absurd (cc is)

sound_gran : (size : List ℕ) (options : Option TidyOptions) → IfSome (gran_with size options) IsSound
sound_gran size options = sound_as (log_of size) options (small_log (hex_number size))

sound_make : (number : Option ℕ) → IfSome (option_map (λ n. Serial (Make n)) number) IsSoundCommand
sound_make None = tt
sound_make (Some n) = tt

sound_big : (number : Option ℕ) → IfSome (option_map (λ n. Threaded (Big n)) number) IsSoundCommand
sound_big None = tt
sound_big (Some n) = tt

sound_private : (cpus number accesses : Option ℕ) → IfSome (private_with cpus number accesses) IsSoundCommand
sound_private None number accesses = tt
sound_private (Some cpus) None accesses = tt
sound_private (Some cpus) (Some n) None = tt
sound_private (Some cpus) (Some n) (Some accesses) = by_count (nat_le 1 cpus && nat_le cpus 16) refl
  where
    by_count : (b : Bool) → (nat_le 1 cpus && nat_le cpus 16) ≡ b → IfSome (if b then Some (Threaded (Private cpus n accesses)) else None) IsSoundCommand
    by_count true test = let parts = and_parts _ _ test in (leb-true _ _ parts.0, leb-true _ _ parts.1)
    by_count false test = tt

sound_proc : (number : Result ℕ NumberFault) → ((cpus : ℕ) → number ≡ Ok cpus → cpus ≤ 16) → IfSome (proc_with number) IsSoundCommand
sound_proc (Err fault) small = tt
sound_proc (Ok cpus) small = by_test (nat_lt 0 cpus) refl
  where
    by_test : (b : Bool) → nat_lt 0 cpus ≡ b → IfSome (if b then Some (Threaded (Proc cpus)) else None) IsSoundCommand
    by_test true test = (ltb-true _ _ test, small cpus refl)
    by_test false test = tt

sound_one : (name : List ℕ) → IfSome (command_of_one name) IsSoundCommand
sound_one name =
    choice (is_text name (codes "check")) _ _ tt
    (choice (is_text name (codes "show")) _ _ tt (choice (is_text name (codes "types")) _ _ tt (choice (is_text name (codes "tidy")) (of_dump (tidy_with (Some usual_options))) _ tt (choice (is_text name (codes "replay")) (Some (Threaded Replay)) _ tt (choice (is_text name (codes "--help")) (Some (Serial Help)) _ tt (choice (is_text name (codes "--version")) (Some (Serial Version)) None tt tt))))))

sound_three : (name first second : List ℕ) → IfSome (command_of_three name first second) IsSoundCommand
sound_three name first second =
    choice (is_text name (codes "page")) _ _ (on_dump _ (sound_page (hex_number first) (index_of second) (index_below second)))
    (choice (is_text name (codes "tidy")) _ _ (on_dump _ (sound_tidy (options_with_both (option_of first) (option_of second))))
    (choice (is_text name (codes "gran")) _ None (on_dump _ (sound_gran first (options_with (option_of second)))) tt))

sound : (words : List (List ℕ)) → IfSome (command_of words) IsSoundCommand
sound [] = tt
sound (name ∷ []) = sound_one name
sound (name ∷ option ∷ []) =
    choice (is_text name (codes "tidy")) _ _ (on_dump _ (sound_tidy (options_with (option_of option))))
    (choice (is_text name (codes "gran")) _ _ (on_dump _ (sound_gran option (Some usual_options))) (choice (is_text name (codes "make")) _ _ (sound_make (number_of option))
    (choice (is_text name (codes "big")) _ _ (sound_big (number_of option)) (choice (is_text name (codes "proc")) _ None (sound_proc (decimal_number option 16) (decimal_within option 16)) tt))))
sound (name ∷ first ∷ second ∷ []) = sound_three name first second
sound (name ∷ first ∷ second ∷ third ∷ []) =
    choice (is_text name (codes "gran")) _ _ (on_dump _ (sound_gran first (options_with_both (option_of second) (option_of third))))
    (choice (is_text name (codes "private")) _ None (sound_private (number_of first) (number_of second) (result_ok (decimal_number third most_accesses))) tt)
sound (name ∷ first ∷ second ∷ third ∷ fourth ∷ more) = tt

pub sound_serial : (words : List (List ℕ)) (command : SerialCommand) → command_of words ≡ Some (Serial command) → IsSoundSerial command
sound_serial words command is = let h = sound words in rw is at h

pub sound_threaded : (words : List (List ℕ)) (command : ThreadedCommand) → command_of words ≡ Some (Threaded command) → IsSoundThreaded command
sound_threaded words command is = let h = sound words in rw is at h

pub is_threaded : (asked : Option Command) (command : ThreadedCommand) → threaded_of asked ≡ Some command → asked ≡ Some (Threaded command)
is_threaded None command is = absurd (cc is)
is_threaded (Some (Serial other)) command is = absurd (cc is)
is_threaded (Some (Threaded other)) command is = let e : other ≡ command = cc is in ap (λ (t : ThreadedCommand). Some (Threaded t)) e
