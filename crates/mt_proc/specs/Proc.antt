-- What `proc` tells of a text (own): a dump, a line `end`, and lines that ask for changes.
--     proc_told cpus, proc_transcript cpus      of the lines of a text, and of a whole text
-- How many processors there are is told by the dump's end alone: one of version 2 is to have a file for each.
use Rattle.std.specs.Prelude.{ℕ, ◌≡◌, List, [], ◌∷◌, ◌++◌, codes, Option, None, Some, Result, Ok, Err}
use Rattle.std.specs.Option.{option_map}
use Rattle.mt_text.specs.declared.place.Place.{Place}
use Rattle.mt_ports.specs.declared.status.Status.TheVariants.{BadText, Done, Refused}
use Rattle.mt_regs.specs.declared.fault.Fault.{Fault}
use Rattle.mt_regs.specs.Agreement.{first_refusal}
use Rattle.mt_dump.specs.Dumps.{Dump, first_file}
use Rattle.mt_dump.specs.Line.{Reading}
use Rattle.mt_script.specs.Situation.{Situation, at_start}
use Rattle.mt_script.specs.Head.{HeadStep, ends_dump, goes_on, offends, shows, step_in_dump}
use Rattle.mt_script.specs.Numbers.{fault_at}
use Rattle.mt_script.specs.declared.fault.Offence.{Offence}
use Rattle.mt_script.specs.declared.fault.Offence.TheVariants.{Script}
use Rattle.mt_script.specs.declared.fault.ScriptReason.TheVariants.{NoEnd}
use Rattle.mt_output.specs.Lines.{bad_text, dump_refused_line}
use Rattle.mt_script.specs.Lines.{offence_line}
use Rattle.mt_stream.specs.Transcript.{LineStep, Telling, Transcript, transcript_with, telling, transcript}
use Rattle.mt_proc.specs.declared.request.Request.{Request}
use Rattle.mt_proc.specs.declared.request.ProcFault.{ProcFault}
use Rattle.mt_proc.specs.declared.request.ProcReason.{ProcReason}
use Rattle.mt_proc.specs.declared.request.ProcReason.TheVariants.{BadLine, BadNumber, UnknownType}
use Rattle.mt_proc.specs.After.{Served, after_all, answer_text, answers, asked, at_first, end_text}
use Rattle.mt_proc.specs.Listing.{requests_from}
use Rattle.mt_proc.specs.Requests.{request_of}

-- within the dump, after these lines of it, of which the last stands first, or behind its end
pub data RequestState : Type 0 where
  in_dump : List Reading → RequestState
  in_requests : Served → RequestState

abbrev pub reason_text : ProcReason → List ℕ
reason_text BadLine = codes "bad line"
reason_text BadNumber = codes "bad number"
reason_text UnknownType = codes "unknown type"

abbrev pub request_fault_line : ProcFault → List ℕ
request_fault_line fault = bad_text fault.place (reason_text fault.reason)

abbrev pub BeganRequests : Type 0
BeganRequests = Result (List ℕ × RequestState) Transcript

-- The dump's end: each file is to be accepted. The requests are then about processor 0's file.
abbrev pub begins : Dump → Option (ℕ × Fault) → BeganRequests
begins dump (Some (k, fault)) = Err (transcript_with (dump_refused_line dump.version k fault) Refused)
begins dump None = Ok ([], in_requests (at_first (first_file dump)))

abbrev pub of_head : HeadStep → BeganRequests
of_head (goes_on now after) = Ok ([], in_dump after)
of_head (shows dump) = begins dump (first_refusal dump.files)
of_head (offends offence) = Err (transcript_with (offence_line offence) BadText)

-- the lines of a dump for so many processors
abbrev pub situation_of : ℕ → Situation
situation_of cpus = record at_start { cpus = cpus }

abbrev pub of_request : Served → Result (Option Request) ProcFault → BeganRequests
of_request now (Err fault) = Err (transcript_with (request_fault_line fault) BadText)
of_request now (Ok None) = Ok ([], in_requests now)
of_request now (Ok (Some request)) = Ok (answer_text now request, in_requests (asked now request))

abbrev pub proc_step : ℕ → LineStep RequestState
proc_step cpus number line (in_dump before) = of_head (step_in_dump (situation_of cpus) before number line (ends_dump line))
proc_step cpus number line (in_requests now) = of_request now (request_of number line)

abbrev pub no_end : Place → Offence
no_end place = Script (fault_at NoEnd place)

abbrev pub proc_end : Place → RequestState → Transcript
proc_end place (in_dump before) = transcript_with (offence_line (no_end place)) BadText
proc_end place (in_requests now) = transcript_with (end_text now) Done

abbrev pub from_point : ℕ → RequestState → Telling
from_point cpus p = telling (proc_step cpus) proc_end p

abbrev pub proc_told : ℕ → Telling
proc_told cpus = from_point cpus (in_dump [])

-- what it tells of a whole text
abbrev pub proc_transcript : ℕ → List ℕ → Transcript
proc_transcript cpus bytes = transcript (proc_told cpus) bytes

-- ---- a list of requests

-- what lines ask for, where none of them has a fault
abbrev pub requests_in : List (Result (Option Request) ProcFault) → Option (List Request)
requests_in [] = Some []
requests_in (Err fault ∷ rest) = None
requests_in (Ok None ∷ rest) = requests_in rest
requests_in (Ok (Some request) ∷ rest) = option_map (λ requests. request ∷ requests) (requests_in rest)

-- lines behind the dump's end without a fault tell what became of their requests, one after the other, and then the ranges of the file that these leave
abbrev pub LinesTellRequests : Type 0
LinesTellRequests =
    (cpus : ℕ) (now : Served) (place : Place) (number : ℕ) (lines : List (List ℕ)) (requests : List Request) → requests_in (requests_from number lines) ≡ Some requests
    → from_point cpus (in_requests now) (Some place) number lines ≡ transcript_with (answers now requests ++ end_text (after_all now requests)) Done
