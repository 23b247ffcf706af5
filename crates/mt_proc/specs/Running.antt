-- A run of `proc` between two lines, as its code keeps it (own).
use Rattle.std.specs.Prelude.{ℕ, ◌≡◌, ◌≤◌, ◌<◌, ◌-◌, ◌^◌, List, [], length, ⊤, Option, None}
use Rattle.mt_text.specs.declared.place.Place.{Place}
use Rattle.mt_regs.specs.Agreement.{first_refusal}
use Rattle.mt_dump.specs.Dumps.{Dump}
use Rattle.mt_dump.specs.Reader.{HasRead}
use Rattle.mt_script.specs.Head.{ends_dump, shows, step_in_dump}
use Rattle.mt_ports.specs.declared.status.Status.{Status}
use Rattle.mt_output.specs.Ports.{Held, Port, SinkRun, SourceRun}
use Rattle.mt_stream.specs.Handling.{IsRunOfLines}
use Rattle.mt_stream.specs.Lines.{AtLine, Path, Running, early_at, running}
use Rattle.mt_stream.specs.Results.{AsksBy, RefusesMemory, ResultsIn}
use Rattle.mt_stream.specs.Transcript.{Transcript, told_step}
use Rattle.mt_proc.specs.declared.running.ProcRun.{ProcRun}
use Rattle.mt_proc.specs.declared.running.Run.{Run}
use Rattle.mt_proc.specs.declared.running.Run.TheVariants as run
use Rattle.mt_proc.specs.Proc.{BeganRequests, RequestState, from_point, in_dump, in_requests, proc_end, proc_told, situation_of}
use Rattle.mt_proc.specs.Serving.{Serves, served}

-- the run stands at this point
abbrev pub IsAt : Run → RequestState → Type 0
IsAt (run.Dump reader) (in_dump before) = HasRead reader before
IsAt (run.Dump reader) (in_requests now) = ⊥
IsAt (run.Requests m) (in_dump before) = ⊥
IsAt (run.Requests m) (in_requests now) = served m ≡ now

-- what is told where the text ends
abbrev pub end_of_run : Run → Place → Transcript
end_of_run (run.Dump reader) place = proc_end place (in_dump [])
end_of_run (run.Requests m) place = proc_end place (in_requests (served m))

-- nothing is written before the dump's end
abbrev pub HasOutput : Run → List ℕ → Type 0
HasOutput (run.Dump reader) text = text ≡ []
HasOutput (run.Requests m) text = ⊤

-- where lines stand at this point; memory is asked for before anything is written
abbrev pub path_from : ℕ → RequestState → Path
path_from cpus p = early_at [] (from_point cpus p)

-- No processor is left out, each runs and holds nothing, and all have done as many updates. They have one file once a request was carried out.
abbrev pub AllServe : ℕ → Run → Type 0
AllServe cpus (run.Dump reader) = ⊤
AllServe cpus (run.Requests m) = (length m.system.processors ≡ cpus) × Serves m

abbrev pub StandsAt : ℕ → Run → List ℕ → Path → Type 0
StandsAt cpus now so_far was = (p : RequestState) × IsAt now p × HasOutput now so_far × (was ≡ path_from cpus p) × AllServe cpus now

-- what a line and those behind it lead to by the line's answer
abbrev pub LeadsBy : ℕ → AtLine → BeganRequests → Type 0
LeadsBy cpus here answer =
    (end : Option Place) (lines : List (List ℕ)) → here.leads end lines ≡ record { tells = told_step (λ p. from_point cpus p end here.next_number lines) answer; early = [] }

-- no more requests were carried out
abbrev pub HasCount : ℕ → Run → Type 0
HasCount most (run.Dump reader) = ⊤
HasCount most (run.Requests m) = (served m).count ≤ most

abbrev pub HasRoom : Run → Type 0
HasRoom (run.Dump reader) = ⊤
HasRoom (run.Requests m) = (served m).count < 2 ^ 64 - 1

abbrev pub IsDump : Run → Type 0
IsDump (run.Dump reader) = ⊤
IsDump (run.Requests m) = ⊥

-- ---- where memory is asked for

-- A line asks for memory where it ends a dump whose files are accepted. No other does.
abbrev pub AsksAt : ℕ → RequestState → ℕ → List ℕ → Type 0
AsksAt cpus (in_dump before) number line = (dump : Dump) × (step_in_dump (situation_of cpus) before number line (ends_dump line) ≡ shows dump) × (first_refusal dump.files ≡ None)
AsksAt cpus (in_requests now) number line = ⊥

-- Memory was refused at that line, or before anything was read.
abbrev pub OutOfMemory : ℕ → Held → Port → Type 0
OutOfMemory cpus source sink = RefusesMemory (from_point cpus (in_dump [])) (AsksBy (from_point cpus) (AsksAt cpus)) source sink

-- ---- all of it

abbrev pub HasCpus : ProcRun → Type 0
HasCpus now = (0 < now.cpus) × (now.cpus ≤ 16)

abbrev pub proc_running : Running
proc_running =
    running (λ now. StandsAt now.cpus now.run) (λ now. end_of_run now.run) (λ now. AsksBy (from_point now.cpus) (AsksAt now.cpus)) (λ most now. HasCount most now.run × HasCpus now)

-- ---- what is proved

-- For want of memory nothing was written.
abbrev pub IsProc : {S K : Type 0} → ℕ → SourceRun S → SinkRun K → Status → Type 0
IsProc cpus source sink status = IsRunOfLines (record { told = proc_told cpus; Results = ResultsIn (proc_told cpus) []; Refused = OutOfMemory cpus }) source sink status
