-- A transcript of `proc` ends with one of three statuses.
use Rattle.std.proofs.Common.{◌≡◌, ◌⊎◌, ℕ, ◌+◌, List, [], ◌∷◌, Option, None, Some, Result, Ok, Err, refl, inl, inr}
use Rattle.std.specs.Prelude.{MatchResult, ⊤}
use Rattle.mt_text.specs.Text.{end_of, lines_of}
use Rattle.mt_ports.specs.declared.status.Status.{Status}
use Rattle.mt_ports.specs.declared.status.Status.TheVariants.{BadText, Done, Refused}
use Rattle.mt_regs.specs.declared.fault.Fault.{Fault}
use Rattle.mt_regs.specs.Agreement.{first_refusal}
use Rattle.mt_dump.specs.Dumps.{Dump}
use Rattle.mt_script.specs.Head.{HeadStep, ends_dump, goes_on, offends, shows, step_in_dump}
use Rattle.mt_stream.specs.Transcript.{Transcript, told_from, told_step}
use Rattle.mt_proc.specs.declared.request.Request.{Request}
use Rattle.mt_proc.specs.declared.request.ProcFault.{ProcFault}
use Rattle.mt_proc.specs.After.{Served}
use Rattle.mt_proc.specs.Proc.{BeganRequests, RequestState, begins, in_dump, in_requests, of_head, of_request, proc_end, proc_step, proc_transcript, situation_of}
use Rattle.mt_proc.specs.Requests.{request_of}

abbrev IsEnd : Status → Type 0
IsEnd status = (status ≡ Done) ⊎ (status ≡ Refused) ⊎ (status ≡ BadText)

-- an answer that ends the text does so with one of them
abbrev Ends : BeganRequests → Type 0
Ends answer = MatchResult answer (λ step. ⊤) (λ last. IsEnd last.status)

of_dump : (dump : Dump) (fault : Option (ℕ × Fault)) → Ends (begins dump fault)
of_dump dump None = tt
of_dump dump (Some (k, fault)) = inr (inl refl)

of_dump_line : (step : HeadStep) → Ends (of_head step)
of_dump_line (goes_on now after) = tt
of_dump_line (shows dump) = of_dump dump (first_refusal dump.files)
of_dump_line (offends offence) = inr (inr refl)

of_line : (now : Served) (read : Result (Option Request) ProcFault) → Ends (of_request now read)
of_line now (Ok None) = tt
of_line now (Ok (Some request)) = tt
of_line now (Err fault) = inr (inr refl)

step_ends : (cpus number : ℕ) (line : List ℕ) (p : RequestState) → Ends (proc_step cpus number line p)
step_ends cpus number line (in_dump before) = of_dump_line (step_in_dump (situation_of cpus) before number line (ends_dump line))
step_ends cpus number line (in_requests now) = of_line now (request_of number line)

answer_ends : (answer : BeganRequests) (rest : RequestState → Transcript) → Ends answer → ((p : RequestState) → IsEnd (rest p).status) → IsEnd (told_step rest answer).status
answer_ends (Ok step) rest ends behind = behind step.1
answer_ends (Err last) rest ends behind = ends

from_ends : (cpus : ℕ) (finish : RequestState → Transcript) → ((p : RequestState) → IsEnd (finish p).status) → (number : ℕ) (lines : List (List ℕ)) (p : RequestState) → IsEnd (told_from (proc_step cpus) finish number lines p).status
from_ends cpus finish last number [] p = last p
from_ends cpus finish last number (line ∷ lines) p =
    answer_ends (proc_step cpus number line p) (told_from (proc_step cpus) finish (number + 1) lines) (step_ends cpus number line p) (from_ends cpus finish last (number + 1) lines)

pub one_of_three : (cpus : ℕ) (bytes : List ℕ) → ((proc_transcript cpus bytes).status ≡ Done) ⊎ ((proc_transcript cpus bytes).status ≡ Refused) ⊎ ((proc_transcript cpus bytes).status ≡ BadText)
one_of_three cpus bytes = from_ends cpus (proc_end (end_of bytes)) last 1 (lines_of bytes) (in_dump [])
  where
    last : (p : RequestState) → IsEnd (proc_end (end_of bytes) p).status
    last (in_dump before) = inr (inr refl)
    last (in_requests now) = inl refl
