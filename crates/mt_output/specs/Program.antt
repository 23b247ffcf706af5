-- What the program makes of its arguments, and the number that it ends with (own).
--     texts_of args      the words of the command line, if each argument is a text
--     words_of args      the same, and no words if one isn't
--     Exits exit P      the program ends with the number of a status of which P holds
use Rattle.std.specs.Prelude.{◌≡◌, ℕ, List, [], map, drop, string_bytes, String, Option, Some, None, Result, Ok, Err}
use Rattle.std.specs.Option.{unwrap_or}
use Rattle.std.specs.Vec.Iter.{into_iter_items}
use Rattle.std.specs.declared.vec.IntoIter.{IntoIter}
use Rattle.std.specs.Process.{exit_status}
use Rattle.std.specs.declared.process.ExitCode.{ExitCode}
use Rattle.mt_ports.specs.Exit.{code}
use Rattle.mt_ports.specs.declared.status.Status.{Status}

-- all arguments but the first, which is the program's name
abbrev pub texts_of : {A B E : Type 0} → Result (IntoIter (String A) B) E → Option (List (List ℕ))
texts_of (Ok args) = Some (map string_bytes (drop 1 (into_iter_items args)))
texts_of (Err error) = None

-- no words are no command line of `mtrr`
abbrev pub words_of : {A B E : Type 0} → Result (IntoIter (String A) B) E → List (List ℕ)
words_of args = unwrap_or (texts_of args) []

abbrev pub Exits : ExitCode → (Status → Type 0) → Type 0
Exits exit P = (status : Status) × (exit_status exit ≡ code status) × P status
