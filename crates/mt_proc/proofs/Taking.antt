-- What a run of `proc` makes of one line.
use Rattle.std.proofs.Common.{◌≡◌, ap, sym, refl, subst, ℕ, List, ◌++◌, Option, None, Some, Result, Ok, Err}
use Rattle.std.specs.Prelude.{◌≢◌, IfOk}
use Rattle.mt_ports.specs.Puts.{AppendsFront}
use Rattle.mt_ports.specs.declared.status.Failed.{Failed}
use Rattle.mt_stream.specs.declared.ending.Stop.{Stop}
use Rattle.mt_stream.specs.declared.ending.Stop.TheVariants.{NoMemory}
use Rattle.mt_output.specs.Writing.{Adds, PassesOn}
use Rattle.mt_machine.specs.Machine.{Machine}
use Rattle.mt_dump.specs.Line.{Reading}
use Rattle.mt_dump.specs.Reader.{HasRead, State}
use Rattle.mt_stream.specs.Lines.{AtLine, Fails, GoesOn, Leads, Takes, at_line, stop_status}
use Rattle.mt_output.specs.Ports.{Port, Waiting, change}
use Rattle.mt_stream.specs.Transcript.{transcript_with}
use Rattle.mt_stream.proofs.Taking.{takes_last}
use Rattle.mt_proc.specs.declared.running.Run.{Run}
use Rattle.mt_proc.specs.declared.running.Run.TheVariants as run
use Rattle.mt_proc.specs.Proc.{BeganRequests, RequestState, from_point, in_dump, in_requests, proc_step}
use Rattle.mt_proc.specs.Serving.{served}
use Rattle.mt_proc.specs.Running.{AllServe, HasOutput, IsAt, LeadsBy, StandsAt, path_from}

-- a line leads on by its step
pub leads_by : (cpus : ℕ) (p : RequestState) (number : ℕ) (line so_far : List ℕ) → LeadsBy cpus (at_line number line so_far (path_from cpus p)) (proc_step cpus number line p)
leads_by cpus p number line so_far (Some end) lines = refl
leads_by cpus p number line so_far None lines = refl

module _ (cpus : ℕ) (here : AtLine) where
  pub leads_as : (answer other : BeganRequests) → answer ≡ other → LeadsBy cpus here answer → LeadsBy cpus here other
  leads_as answer other is leads = subst (λ (a : BeganRequests). LeadsBy cpus here a) is leads

  module _ (now : Run) (writer : Waiting) (sink : Port) where
    pub goes : (text : List ℕ) (next : RequestState) → LeadsBy cpus here (Ok (text, next)) → IsAt now next → HasOutput now (here.so_far ++ text) → AllServe cpus now → PassesOn writer.old text writer.new sink.old sink.new
        → GoesOn (StandsAt cpus now) here writer sink
    goes text next leads at quiet each passed = record { next = path_from cpus next; at = (next, at, quiet, refl, each); text = text; goes = leads; passed = passed }

    pub ends : (text : List ℕ) (stop : Stop) (result : Result (Option Stop) Failed) → LeadsBy cpus here (Err (transcript_with text (stop_status stop))) → stop ≢ NoMemory → Adds text (change writer.old writer.new) (change sink.old sink.new) result
        → IfOk result (λ ended. ended ≡ Some stop) → Takes (StandsAt cpus now) here writer sink result
    ends text stop result leads other adds is = takes_last (StandsAt cpus now) here text writer sink stop result (λ end lines. ap (λ (x : Leads). x.tells) (leads end lines)) other adds is

  pub fails : (waiting text : List ℕ) (sink : Port) (next : RequestState) → LeadsBy cpus here (Ok (text, next)) → AppendsFront sink.old sink.new (waiting ++ text) → Fails here waiting sink
  fails waiting text sink next leads failed = record {
    text = text;
    front = λ end lines. ((from_point cpus next end here.next_number lines).text, ap (λ (x : Leads). x.tells.text) (leads end lines));
    failed = failed;
  }

-- a run in the dump stands at what its reader has read
pub in_the_dump : (r : Run) (reader : State) (p : RequestState) → r ≡ run.Dump reader → IsAt r p → (before : List Reading) × HasRead reader before × (p ≡ in_dump before)
in_the_dump r reader p is at = by p (subst (λ (x : Run). IsAt x p) is at)
  where
    by : (p : RequestState) → IsAt (run.Dump reader) p → (before : List Reading) × HasRead reader before × (p ≡ in_dump before)
    by (in_dump before) at = (before, at, refl)
    by (in_requests now) at = absurd at

-- behind the dump's end it stands behind as many requests as were carried out
pub in_the_requests : (r : Run) (m : Machine) (p : RequestState) → r ≡ run.Requests m → IsAt r p → p ≡ in_requests (served m)
in_the_requests r m p is at = by p (subst (λ (x : Run). IsAt x p) is at)
  where
    by : (p : RequestState) → IsAt (run.Requests m) p → p ≡ in_requests (served m)
    by (in_dump before) at = absurd at
    by (in_requests now) at = ap in_requests (sym at)
