-- What a run of `proc` keeps to.
use Rattle.std.proofs.Common.{◌≡◌, ◌∙◌, ap, sym, refl, subst, arith, ℕ, ◌<◌, nat_lt, true, List, [], length, Option, None, Some, Result, Ok, Err}
use Rattle.std.specs.Prelude.{◌⊎◌}
use Rattle.std.proofs.lemmas.Bool.Decides.{nat_tests}
use Rattle.mt_ports.specs.declared.status.Failed.{Failed}
use Rattle.mt_stream.specs.declared.ending.Stop.{Stop}
use Rattle.mt_ports.specs.declared.status.Status.TheVariants.{BadText}
use Rattle.mt_text.specs.declared.place.Place.{Place}
use Rattle.mt_dump.specs.Line.{fault_at as dump_fault_at}
use Rattle.mt_dump.specs.declared.fault.DumpReason.TheVariants as dump_reason
use Rattle.mt_script.specs.declared.fault.Offence.TheVariants.{Dump}
use Rattle.mt_script.specs.Lines.{offence_line}
use Rattle.mt_stream.specs.Laws.{AreLaws, IsLongLed}
use Rattle.mt_stream.specs.Lines.{IfGoesOn, Path}
use Rattle.mt_stream.proofs.Taking.{long_led}
use Rattle.mt_stream.specs.Transcript.{Transcript, transcript_with}
use Rattle.mt_stream.proofs.KnownLines.{TellsLong, long_told}
use Rattle.mt_proc.specs.declared.running.Run.{Run}
use Rattle.mt_proc.specs.declared.running.Run.TheVariants as run
use Rattle.mt_proc.specs.declared.request.ProcReason.TheVariants.{BadLine}
use Rattle.mt_proc.specs.Proc.{RequestState, from_point, in_dump, in_requests, proc_end, proc_step, request_fault_line}
use Rattle.mt_proc.specs.Requests.{fault_at}
use Rattle.mt_proc.specs.Running.{IsAt, end_of_run, proc_running}

-- the offence of a line too long
abbrev pub long_offence : ℕ → RequestState → Transcript
long_offence number (in_dump before) = transcript_with (offence_line (Dump (dump_fault_at dump_reason.BadLine (record { line = number; column = 4097 })))) BadText
long_offence number (in_requests now) = transcript_with (request_fault_line (fault_at BadLine (record { line = number; column = 4097 }))) BadText

long_step : (cpus number : ℕ) (line : List ℕ) (p : RequestState) → 4096 < length line → proc_step cpus number line p ≡ Err (long_offence number p)
long_step cpus number line (in_dump before) long =
    let test : nat_lt 4096 (length line) ≡ true = grind (arith, nat_tests, long) in
    rw test (rw test refl)
long_step cpus number line (in_requests now) long =
    let test : nat_lt 4096 (length line) ≡ true = grind (arith, nat_tests, long) in
    rw test refl

long_is_bad : (number : ℕ) (p : RequestState) → (long_offence number p).status ≡ BadText
long_is_bad number (in_dump before) = refl
long_is_bad number (in_requests now) = refl

pub tells_long : (cpus : ℕ) → TellsLong (proc_step cpus) long_offence
tells_long cpus = record { long = long_step cpus; bad = long_is_bad }

none_ends : (place : Place) (now : Run) (p : RequestState) → IsAt now p → proc_end place p ≡ end_of_run now place
none_ends place (run.Dump reader) (in_dump before) at = refl
none_ends place (run.Dump reader) (in_requests now) at = absurd at
none_ends place (run.Requests m) (in_dump before) at = absurd at
none_ends place (run.Requests m) (in_requests now) at = ap (λ s. proc_end place (in_requests s)) (sym at)

pub proc_laws : AreLaws proc_running
proc_laws = record {
  long = λ now so_far was number at.
      subst (λ (t : Path). IsLongLed t number) (sym at.3)
      (long_led [] (from_point now.cpus at.0) number (long_told RequestState (proc_step now.cpus) proc_end long_offence (tells_long now.cpus) at.0 number));
  unknown = λ now so_far was number at. ap (λ (t : Path). (t None number []).tells) at.3;
  ended = λ now so_far was place number at. ap (λ (t : Path). (t (Some place) number []).tells) at.3 ∙ none_ends place now.run at.0 at.1;
}

-- ---- a run that goes on

pub goes_with : (P Q : Type 0) (result : Result (Option Stop) Failed) → Q → IfGoesOn result P → IfGoesOn result (P × Q)
goes_with P Q (Ok None) kept holds = (holds, kept)
goes_with P Q (Ok (Some stop)) kept holds = tt
goes_with P Q (Err failed) kept holds = tt
