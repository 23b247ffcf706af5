-- What a call that writes one text and answers a status leaves in the sink (own).
use Rattle.std.specs.Prelude.{ℕ, ◌≡◌, ◌⊎◌, List, Option}
use Rattle.std.specs.Io.KnownBytes.{Appends}
use Rattle.mt_ports.specs.Puts.{AppendsFront}
use Rattle.mt_ports.specs.declared.status.Status.{Status}
use Rattle.mt_ports.specs.declared.status.Status.TheVariants.{WriteFault}

-- The sink took the text and the status is answered, or it took a front of it and failed.
abbrev pub Writes : List ℕ → Status → Option (List ℕ) → Option (List ℕ) → Status → Type 0
Writes text status old new result =
    ((result ≡ status) × Appends old new text) ⊎ ((result ≡ WriteFault) × AppendsFront old new text)
