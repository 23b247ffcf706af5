-- What a call that adds a text to waiting bytes leaves in the sink.
--     PassesOn waiting text left before after      bytes went to the sink, in order, and the rest waits
--     Adds text waiting sink result      what each result of the call says
use Rattle.std.specs.Prelude.{◌≡◌, ℕ, List, ◌++◌, Option, Result, MatchResult}
use Rattle.std.specs.Io.KnownBytes.{Appends}
use Rattle.mt_output.specs.Ports.{Port, Waiting}
use Rattle.mt_ports.specs.Puts.{AppendsFront}

-- The sink took a front of the bytes that waited and the text, and what is behind it waits now.
pub record PassesOn (waiting text left : List ℕ) (before after : Option (List ℕ)) : Type 0 where
  pub front : List ℕ
  pub cut : waiting ++ text ≡ front ++ left
  pub taken : Appends before after front

-- no byte is lost or doubled at `Ok`; at `Err` the sink took a front of the bytes that waited and the text
abbrev pub Adds : {T E : Type 0} → List ℕ → Waiting → Port → Result T E → Type 0
Adds text waiting sink result = MatchResult result
    (λ _. PassesOn waiting.old text waiting.new sink.old sink.new) (λ _. AppendsFront sink.old sink.new (waiting.old ++ text))
