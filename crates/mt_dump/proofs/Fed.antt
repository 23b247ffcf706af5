-- How a line leads a reader on, and what all lead to.
use Rattle.std.proofs.Common.{◌≡◌, ◌+◌, ◌≤◌, ℕ, List, ◌∷◌, length, take, Option, Some, None, refl, ◌∙◌, ap}
use Rattle.std.specs.Prelude.{Result, Ok, Err, MatchResult}
use Rattle.std.specs.Option.{option_map_or}
use Rattle.mt_text.specs.Reader.{TakesLine}
use Rattle.mt_text.specs.declared.line.Line.{Line}
use Rattle.mt_text.specs.declared.place.Place.{Place}
use Rattle.mt_text.proofs.Lent.{is_short, same_front}
use Rattle.mt_dump.specs.Line.{Reading, said_of}
use Rattle.mt_dump.specs.Dumps.{Dump}
use Rattle.mt_dump.specs.Dump.{offence_of, said_from}
use Rattle.mt_dump.specs.Reader.{HasRead, LeadsTo, State, onto, read_from}
use Rattle.mt_dump.specs.declared.fault.DumpFault.{DumpFault}

-- a line that is too long has an offence
short_line : (number : ℕ) (before : List Reading) (line : List ℕ) → offence_of before (said_of number line) ≡ None → length line ≤ 4096
short_line number before line none = is_short line (λ far. let e = rw far at none in cc e)

-- what is behind 4,097 bytes of a line doesn't matter
said_cut : (number : ℕ) (line : List ℕ) → said_of number (take 4097 line) ≡ said_of number line
said_cut number line = same_front (said_of number) line (λ far cut. rw (far, cut) refl)

-- what a line behind others leads to, by its offence if it has one
pub step : {A : Type 0} (of : List Reading → Result Dump DumpFault → A) (number : ℕ) (before : List Reading) (line : List ℕ) (lines : List (List ℕ)) (end : Place) (found : Option DumpFault) → offence_of before (said_of number line) ≡ found
    → of (onto before (said_from number (line ∷ lines))) (read_from end before (said_from number (line ∷ lines)))
    ≡ of (onto (said_of number line ∷ before) (said_from (number + 1) lines)) (option_map_or (λ fault. Err fault) found (read_from end (said_of number line ∷ before) (said_from (number + 1) lines)))
step of number before line lines end found is =
    ap (λ o. of (onto (said_of number line ∷ before) (said_from (number + 1) lines)) (option_map_or (λ fault. Err fault) o (read_from end (said_of number line ∷ before) (said_from (number + 1) lines)))) is

-- what a call says that takes a line, of the line itself
pub taken : {U : Type 0} (old new : State) (line : Line) (result : Result U DumpFault) (before : List Reading) (whole : List ℕ) → line.bytes.now ≡ take 4097 whole
    → MatchResult result (λ _. HasRead new (said_of line.number line.bytes.now ∷ before)) (λ fault. (offence_of before (said_of line.number line.bytes.now) ≡ Some fault) × (new ≡ old))
    → MatchResult result (λ _. (length whole ≤ 4096) × HasRead new (said_of line.number whole ∷ before)) (λ fault. offence_of before (said_of line.number whole) ≡ Some fault)
taken old new line (Ok value) before whole cut took =
    let read = rw (ap (said_of line.number) cut ∙ said_cut line.number whole) at took in (short_line line.number before whole read.clean.1, read)
taken old new line (Err fault) before whole cut took = rw (ap (said_of line.number) cut ∙ said_cut line.number whole) at took.0

-- A line that is taken is told with those before it, and one with an offence is the first.
pub takes_line : {U : Type 0} (old new : State) (line : Line) (result : Result U DumpFault)
    → ((before : List Reading) → HasRead old before → MatchResult result (λ _. HasRead new (said_of line.number line.bytes.now ∷ before)) (λ fault. (offence_of before (said_of line.number line.bytes.now) ≡ Some fault) × (new ≡ old)))
    → TakesLine LeadsTo old new line result
takes_line {U = U} old new line (Ok value) took course whole led cut =
    let read = taken {U = U} old new line (Ok value) led.before whole cut (took led.before led.read) in (
      read.0,
      record {
        before = said_of line.number whole ∷ led.before;
        read = read.1;
        leads = λ lines end. led.leads (whole ∷ lines) end ∙ step (λ _ read. read) line.number led.before whole lines end None read.1.clean.1;
      },
    )
takes_line {U = U} old new line (Err fault) took course whole led cut = λ lines end.
    led.leads (whole ∷ lines) end ∙ step (λ _ read. read) line.number led.before whole lines end (Some fault) (taken {U = U} old new line (Err fault) led.before whole cut (took led.before led.read))
