-- The books of a worked update: of one processor, which is called.
use Rattle.std.specs.Prelude.{List, [], ◌∷◌, Option}
use Rattle.mt_machine.specs.Machine.{Machine, Order}
use Rattle.mt_machine.specs.Start.{zero_memory}
use Rattle.mt_plain.specs.declared.turn.PlainStep.{PlainStep}
use Rattle.mt_plain.specs.WorkedTurns.{alone}
use Rattle.mt_plain_laws.specs.Rendezvous.{Books, Gives, Move, Rendezvous, begun}

abbrev pub ordered : Option Order → Machine
ordered order = record { system = record { processors = alone ∷ []; memory = zero_memory [] }; order = order }

abbrev pub first_books : Rendezvous
first_books = begun (alone ∷ [])

-- it takes, and is given the go
abbrev pub take : PlainStep
take = record { number = 1; place = 0; next_phase = 1; next_place = 0 }

abbrev pub two_moves : List Move
two_moves = Books 0 take ∷ Gives ∷ []
