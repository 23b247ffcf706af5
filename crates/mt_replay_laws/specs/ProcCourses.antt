-- The requests of a text, carried out on machines one after the other (own).
--     proc_course cpus text      each request up to the first offence, with the machine that it finds
--     TellsOfMachines cpus text      what each of them leaves, and that the text tells it
use Rattle.std.specs.Prelude.{ℕ, ◌≡◌, ◌+◌, List, [], ◌∷◌, ◌++◌, length, Option, None, Some, Result, Ok, Err}
use Rattle.std.specs.List.{AllByRecursion}
use Rattle.mt_text.specs.Text.{lines_of}
use Rattle.mt_regs.specs.declared.fault.Fault.{Fault}
use Rattle.mt_regs.specs.Agreement.{first_refusal}
use Rattle.mt_dump.specs.Line.{Reading}
use Rattle.mt_dump.specs.ForProcessors.{files_for}
use Rattle.mt_script.specs.Head.{HeadStep, ends_dump, goes_on, offends, shows, step_in_dump}
use Rattle.mt_machine.specs.Machine.{Machine}
use Rattle.mt_machine.specs.Update.{IsSettled}
use Rattle.mt_proc.specs.declared.request.Request.{Request}
use Rattle.mt_proc.specs.declared.request.ProcFault.{ProcFault}
use Rattle.mt_proc.specs.After.{Served, answer_text, asked, done_text}
use Rattle.mt_proc.specs.Applied.{applied}
use Rattle.mt_proc.specs.Proc.{proc_transcript, situation_of}
use Rattle.mt_proc.specs.Requests.{request_of}
use Rattle.mt_proc.specs.Serving.{changed, idling, served, standing}

-- a request, with the machine that it finds
pub record ProcStep : Type 0 where
  pub request : Request
  pub before : Machine

-- the machine that it leaves, what is written of it, and the file and the number of updates then
abbrev pub left : ProcStep → Machine
left step = changed step.before (applied (served step.before).file step.request)

abbrev pub wrote : ProcStep → List ℕ
wrote step = answer_text (served step.before) step.request

abbrev pub now_served : ProcStep → Served
now_served step = asked (served step.before) step.request

-- ---- the requests of a text

-- a line behind the dump, and those behind it, from the machine that it leaves on
abbrev pub steps_by : Machine → (Machine → List ProcStep) → Result (Option Request) ProcFault → List ProcStep
steps_by m rest (Err fault) = []
steps_by m rest (Ok None) = rest m
steps_by m rest (Ok (Some request)) = record { request = request; before = m } ∷ rest (changed m (applied (served m).file request))

abbrev pub steps_in : ℕ → List (List ℕ) → Machine → List ProcStep
steps_in number [] m = []
steps_in number (line ∷ lines) m = steps_by m (steps_in (number + 1) lines) (request_of number line)

-- the dump's end: where each file is accepted the machine begins with them
abbrev pub steps_begun : Machine → (Machine → List ProcStep) → Option (ℕ × Fault) → List ProcStep
steps_begun m rest None = rest m
steps_begun m rest (Some refusal) = []

abbrev pub steps_after : ℕ → (List Reading → List ProcStep) → (Machine → List ProcStep) → HeadStep → List ProcStep
steps_after cpus head rest (goes_on now after) = head after
steps_after cpus head rest (shows dump) = steps_begun (idling (files_for cpus dump) 0) rest (first_refusal dump.files)
steps_after cpus head rest (offends offence) = []

abbrev pub steps_from : ℕ → ℕ → List (List ℕ) → List Reading → List ProcStep
steps_from cpus number [] before = []
steps_from cpus number (line ∷ lines) before =
    steps_after cpus (steps_from cpus (number + 1) lines) (steps_in (number + 1) lines) (step_in_dump (situation_of cpus) before number line (ends_dump line))

abbrev pub proc_course : ℕ → List ℕ → List ProcStep
proc_course cpus text = steps_from cpus 1 (lines_of text) []

-- what is written of them
abbrev pub texts_of : List ProcStep → List ℕ
texts_of [] = []
texts_of (step ∷ steps) = wrote step ++ texts_of steps

-- ---- what holds of them

-- A request that is told as carried out, by `set` or `cleared`, gives each of so many processors the file that it asks for, and all
-- are settled. Any other changes no processor.
pub record LeavesSettled (cpus : ℕ) (step : ProcStep) : Type 0 where
  pub count : length step.before.system.processors ≡ cpus
  pub stands : (n : ℕ) → wrote step ≡ done_text step.request n → left step ≡ standing cpus (now_served step)
  pub settled : (n : ℕ) → wrote step ≡ done_text step.request n → IsSettled (left step).system (now_served step).count (now_served step).file
  pub other : ((n : ℕ) → wrote step ≡ done_text step.request n → ⊥) → left step ≡ step.before

pub record TellsOfMachines (cpus : ℕ) (text : List ℕ) : Type 0 where
  pub each : AllByRecursion (LeavesSettled cpus) (proc_course cpus text)
  pub told : (rest : List ℕ) × ((proc_transcript cpus text).text ≡ texts_of (proc_course cpus text) ++ rest)
