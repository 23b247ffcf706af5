-- What a call does to its writer, its source and its sink (own), each before the call and after it.
--     change old new      a value before a call and after it
--     port bytes old new      the bytes that a source has left, or that a sink took, where it tells them
--     held bytes left      a source that held these bytes, and what it has left of them
--     read more left      the bytes that a call took off a source, and what it has left
--     source_run left faults given old new, sink_run taken faults old new      a port whatever it tells of itself
use Rattle.std.specs.Prelude.{ℕ, List, Option}

pub record Change (A : Type 0) : Type 0 where
  pub old : A
  pub new : A

abbrev pub change : {A : Type 0} → A → A → Change A
change old new = record { old = old; new = new }

-- the bytes that wait in a writer
abbrev pub Waiting : Type 0
Waiting = Change (List ℕ)

-- the bytes of a port
abbrev pub Port : Type 0
Port = Change (Option (List ℕ))

abbrev pub port : {A : Type 0} → (A → Option (List ℕ)) → A → A → Port
port bytes old new = change (bytes old) (bytes new)

pub record Held : Type 0 where
  pub bytes : List ℕ
  pub left : Option (List ℕ)

abbrev pub held : List ℕ → Option (List ℕ) → Held
held bytes left = record { bytes = bytes; left = left }

pub record Read : Type 0 where
  pub more : List ℕ
  pub left : Option (List ℕ)

abbrev pub read : List ℕ → Option (List ℕ) → Read
read more left = record { more = more; left = left }

-- a source, with what it tells of itself
pub record SourceRun (S : Type 0) : Type 0 where
  pub old : S
  pub new : S
  pub left : S → Option (List ℕ)
  pub faults : S → ℕ
  pub given : S → ℕ

abbrev pub source_run : {S : Type 0} → (S → Option (List ℕ)) → (S → ℕ) → (S → ℕ) → S → S → SourceRun S
source_run left faults given old new = record { old = old; new = new; left = left; faults = faults; given = given }

-- a sink, with what it tells of itself
pub record SinkRun (K : Type 0) : Type 0 where
  pub old : K
  pub new : K
  pub taken : K → Option (List ℕ)
  pub faults : K → ℕ

abbrev pub sink_run : {K : Type 0} → (K → Option (List ℕ)) → (K → ℕ) → K → K → SinkRun K
sink_run taken faults old new = record { old = old; new = new; taken = taken; faults = faults }
