-- What a reader comes to at the end.
use Rattle.std.proofs.Common.{◌≡◌, ℕ, true, false, List, ◌++◌, Option, Some, refl}
use Rattle.mt_ports.specs.declared.status.Status.TheVariants.{Done}
use Rattle.mt_dump.specs.Canon.{canon}
use Rattle.mt_import.specs.Outcome.{Outcome, Summary, dump_in, dump_outcome, ended_by, is_empty, refusal, remarks}

pub ends_whole : (told : Summary) → is_empty told.missing ≡ true → ended_by told ≡ dump_outcome (refusal told.tally told.missing) told told.width (told.values 0 0xfe)
ends_whole told is = rw is refl

pub ends_missing : (told : Summary) → is_empty told.missing ≡ false → ended_by told ≡ refusal told.tally (told.missing ++ told.advice)
ends_missing told is = rw is refl

pub told_whole : {notes dump reasons : List ℕ} {width register : Option ℕ} (refused : Outcome) (told : Summary) (known capabilities : ℕ)
    → notes ≡ told.notes → dump ≡ canon (dump_in told.values told.count known capabilities) → reasons ≡ remarks told.auto told.tally → width ≡ Some known → register ≡ Some capabilities
    → ◌≡◌ {A = Outcome} (record { notes = notes; dump = dump; reasons = reasons; status = Done }) (dump_outcome refused told width register)
told_whole refused told known capabilities a b c d e = rw (a, b, c, d, e) refl
