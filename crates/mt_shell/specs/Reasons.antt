-- What a program writes to standard error beside its output (own).
--     told_line name reason      `NAME: REASON` as a line
--     Took text sink      the sink took a text, or a front of it if it failed
use Rattle.std.specs.Prelude.{ℕ, ◌≡◌, ◌+◌, ◌⊎◌, ◌++◌, nat_eq, nat_lt, List, [], ◌∷◌, codes, flat_map, if◌then◌else◌, Option, Some}
use Rattle.std.specs.Io.KnownBytes.{Appends}
use Rattle.mt_ports.specs.Causes.{Rose}
use Rattle.mt_ports.specs.Puts.{AppendsFront}
use Rattle.mt_output.specs.Lines.{line}
use Rattle.mt_output.specs.Ports.{SinkRun}

-- a byte as a line shows it: `^J` for a newline, and so on
abbrev pub shown_byte : ℕ → List ℕ
shown_byte byte =
    if nat_lt byte 0x20 then 0x5e ∷ (byte + 0x40) ∷ []
    else if nat_eq byte 0x7f then codes "^?"
    else byte ∷ []

abbrev pub told_line : List ℕ → List ℕ → List ℕ
told_line name reason = line (name ++ codes ": " ++ flat_map shown_byte reason)

abbrev pub Took : {E : Type 0} → List ℕ → SinkRun E → Type 0
Took text sink =
    (Appends (sink.taken sink.old) (sink.taken sink.new) text × (sink.faults sink.new ≡ sink.faults sink.old))
    ⊎ (AppendsFront (sink.taken sink.old) (sink.taken sink.new) text × Rose (sink.faults sink.old) (sink.faults sink.new))

-- it took a line of a program, for some reason
abbrev pub TookReason : {E : Type 0} → List ℕ → SinkRun E → Type 0
TookReason name sink = (reason : List ℕ) × Took (told_line name reason) sink

-- it took this hint of a program, or nothing
abbrev pub TookHint : {E : Type 0} → List ℕ → Option (List ℕ) → SinkRun E → Type 0
TookHint name hint sink = (sink.new ≡ sink.old) ⊎ ((reason : List ℕ) × (hint ≡ Some reason) × Took (told_line name reason) sink)
