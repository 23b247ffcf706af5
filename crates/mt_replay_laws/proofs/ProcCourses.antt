-- What requests leave that are carried out on machines one after the other.
use Rattle.std.proofs.Common.{◌≡◌, ◌∙◌, ap, sym, refl, subst, arith, ℕ, ◌+◌, ◌<◌, ◌==◌, Bool, true, false, List, [], ◌∷◌, ◌++◌, length, Option, None, Some, Result, Ok, Err, append_assoc}
use Rattle.std.specs.Prelude.{◌||◌, codes, replicate}
use Rattle.std.specs.List.{AllByRecursion}
use Rattle.std.specs.Option.{option_map_or}
use Rattle.std.proofs.lemmas.List.{length-map}
use Rattle.mt_text.specs.Text.{end_of, lines_of, words_of}
use Rattle.mt_text.specs.declared.place.Place.{Place}
use Rattle.mt_output.specs.Lines.{dump_refused_line, line, refused_line}
use Rattle.mt_script.specs.Lines.{offence_line}
use Rattle.mt_regs.specs.declared.fault.Fault.{Fault}
use Rattle.mt_regs.specs.Agreement.{first_refusal}
use Rattle.mt_regs.specs.FirstFault.{first_fault}
use Rattle.mt_regs.specs.RegisterFile.{RegisterFile}
use Rattle.mt_dump.specs.Dump.{offence_of}
use Rattle.mt_dump.specs.Dumps.{Dump, first_file}
use Rattle.mt_dump.specs.ForProcessors.{files_for, has_each}
use Rattle.mt_dump.specs.Line.{Reading, said_of}
use Rattle.mt_dump.specs.Reader.{read_from}
use Rattle.mt_dump.specs.declared.fault.DumpFault.{DumpFault}
use Rattle.mt_dump.proofs.ForProcessors.{files_count}
use Rattle.mt_script.specs.Head.{HeadStep, ends_dump, goes_on, offends, shows, step_in_dump}
use Rattle.mt_script.specs.Words.{place_of}
use Rattle.mt_script.specs.declared.fault.Offence.TheVariants as offence
use Rattle.mt_script.proofs.Ends.{ended}
use Rattle.mt_machine.specs.Machine.{Machine}
use Rattle.mt_machine.specs.Update.{IsSettled, updated}
use Rattle.mt_core.specs.Rounds.{in_order}
use Rattle.mt_stream.specs.Transcript.{Transcript, told_from, told_step}
use Rattle.mt_proc.specs.declared.applying.Applied.{Applied}
use Rattle.mt_proc.specs.declared.applying.Applied.TheVariants.{BadRange, Goal, NoneFree, NotUsed}
use Rattle.mt_proc.specs.declared.request.Request.{Request}
use Rattle.mt_proc.specs.declared.request.Request.TheVariants.{Disable, Range}
use Rattle.mt_proc.specs.declared.request.ProcFault.{ProcFault}
use Rattle.mt_proc.specs.After.{Served, answer_text, at_first, change_text, done_text, end_text, with_change, with_goal}
use Rattle.mt_proc.specs.Applied.{applied}
use Rattle.mt_replay_laws.specs.ProcCourses.{LeavesSettled, ProcStep, TellsOfMachines, steps_after, steps_begun, steps_by, steps_from, steps_in, texts_of}
use Rattle.mt_proc.specs.Proc.{RequestState, begins, in_dump, in_requests, of_head, of_request, proc_end, proc_step, request_fault_line, situation_of}
use Rattle.mt_proc.specs.Requests.{request_of}
use Rattle.mt_proc.specs.Serving.{changed, files_of, idle, idling, served, standing}
use Rattle.mt_proc.proofs.Beginning.{first_for}
use Rattle.mt_proc.proofs.Served.{count_standing, files_idling, served_idling, served_standing, settled_standing, stands_after}

-- so many processors that run and hold nothing, with no update under way
pub record Idles (cpus : ℕ) (m : Machine) : Type 0 where
  pub stands : m ≡ idling (files_of m) (served m).count
  pub count : length m.system.processors ≡ cpus

idles_start : (cpus : ℕ) (files : List RegisterFile) → 0 < cpus → length files ≡ cpus → Idles cpus (idling files 0)
idles_start cpus files some many =
    let count : (served (idling files 0)).count ≡ 0 = ap (λ (s : Served). s.count) (served_idling files 0 (omega (arith, some, many))) in
    record { stands = λ i. idling (sym (files_idling files 0) i) (sym count i); count = length-map files (idle 0) ∙ many }

idles_standing : (n : ℕ) (now : Served) → 0 < n → Idles n (standing n now)
idles_standing n now some =
    let same = served_standing n now some in
    record { stands = λ i. idling (sym (files_idling (replicate n now.file) now.count) i) ((sym same i).count); count = count_standing n now }

-- ---- one request

-- what is told of a request that was carried out begins with `s` or `c`
abbrev tells_done : List ℕ → Bool
tells_done [] = false
tells_done (byte ∷ bytes) = byte == 115 || byte == 99

done_tells : (request : Request) (n : ℕ) → tells_done (done_text request n) ≡ true
done_tells (Range base size kind) n = refl
done_tells (Disable pair) n = refl

-- what is told of a request, and what it leaves
record Changes (cpus : ℕ) (m : Machine) (request : Request) (text : List ℕ) (new : Machine) (now : Served) : Type 0 where
  done : (n : ℕ) → text ≡ done_text request n → new ≡ standing cpus now
  other : ((n : ℕ) → text ≡ done_text request n → ⊥) → new ≡ m
  idles : Idles cpus new
  same : served new ≡ now

module _ (cpus : ℕ) (some : 0 < cpus) (m : Machine) (idles : Idles cpus m) (request : Request) where
  kept : (text : List ℕ) → tells_done text ≡ false → Changes cpus m request text m (served m)
  kept text miss = record {
    done = λ n told. let e : false ≡ true = sym miss ∙ ap tells_done told ∙ done_tells request n in absurd (cc e);
    other = λ none. refl;
    idles = idles;
    same = refl;
  }

  by_fault : (goal : RegisterFile) (n : ℕ) (fault : Option Fault)
      → Changes cpus m request (option_map_or refused_line fault (done_text request n)) (option_map_or (λ f. m) fault (updated m.system (in_order m) goal)) (with_goal (served m) goal fault)
  by_fault goal n (Some fault) = kept (refused_line fault) refl
  by_fault goal n None =
      let now : Served = record { file = goal; count = (served m).count + 1 } in
      let is : updated m.system (in_order m) goal ≡ standing cpus now = stands_after m goal idles.stands ∙ ap (λ (k : ℕ). standing k now) idles.count in
      record {
        done = λ j told. is;
        other = λ none. absurd (none n refl);
        idles = subst (Idles cpus) (sym is) (idles_standing cpus now some);
        same = ap served is ∙ served_standing cpus now some;
      }

  changes : (a : Applied) → Changes cpus m request (change_text request a) (changed m a) (with_change (served m) a)
  changes (Goal goal n) = by_fault goal n (first_fault goal)
  changes BadRange = kept (line (codes "bad range")) refl
  changes NoneFree = kept (line (codes "full")) refl
  changes NotUsed = kept (line (codes "not used")) refl

  leaves : LeavesSettled cpus (record { request = request; before = m })
  leaves =
      let a : Applied = applied (served m).file request in
      let now : Served = with_change (served m) a in
      let c = changes a in
      record {
        count = idles.count;
        stands = c.done;
        settled = λ n told. subst (λ (x : Machine). IsSettled x.system now.count now.file) (sym (c.done n told)) (settled_standing cpus now);
        other = c.other;
      }

-- ---- the dump's end

-- a dump that is shown has a file for each
each_shown : (cpus : ℕ) (before : List Reading) (number : ℕ) (line : List ℕ) (end : Bool) (dump : Dump) → step_in_dump (situation_of cpus) before number line end ≡ shows dump → has_each cpus dump ≡ true
each_shown cpus before number line false dump is = absurd (by (offence_of before (said_of number line)) is)
  where
    by : (fault : Option DumpFault) → option_map_or (λ fault. offends (offence.Dump fault)) fault (goes_on (situation_of cpus) (said_of number line ∷ before)) ≡ shows dump → ⊥
    by (Some fault) is = cc is
    by None is = cc is
each_shown cpus before number line true dump is = (ended cpus (place_of number (words_of line) 0) dump (read_from (place_of number (words_of line) 0) before []) is).1

-- ---- all requests

abbrev AllSettle : ℕ → List ProcStep → Type 0
AllSettle cpus steps = AllByRecursion (LeavesSettled cpus) steps

-- these requests are told, and then more
abbrev TellsOf : Transcript → List ProcStep → Type 0
TellsOf t steps = (more : List ℕ) × (t.text ≡ texts_of steps ++ more)

module _ (cpus : ℕ) (some : 0 < cpus) where
  settle_by : (m : Machine) (rest : Machine → List ProcStep) → Idles cpus m → ((next : Machine) → Idles cpus next → AllSettle cpus (rest next)) → (read : Result (Option Request) ProcFault) → AllSettle cpus (steps_by m rest read)
  settle_by m rest idles later (Err fault) = tt
  settle_by m rest idles later (Ok None) = later m idles
  settle_by m rest idles later (Ok (Some request)) =
      let c = changes cpus some m idles request (applied (served m).file request) in
      (leaves cpus some m idles request, later (changed m (applied (served m).file request)) c.idles)

  settle_in : (number : ℕ) (lines : List (List ℕ)) (m : Machine) → Idles cpus m → AllSettle cpus (steps_in number lines m)
  settle_in number [] m idles = tt
  settle_in number (line ∷ lines) m idles = settle_by m (steps_in (number + 1) lines) idles (λ next i. settle_in (number + 1) lines next i) (request_of number line)

  -- so many processors begin with a dump's files
  starts : (dump : Dump) → has_each cpus dump ≡ true → Idles cpus (idling (files_for cpus dump) 0)
  starts dump each = idles_start cpus (files_for cpus dump) some (files_count cpus dump each)

  settle_head : (head : List Reading → List ProcStep) (rest : Machine → List ProcStep) → ((after : List Reading) → AllSettle cpus (head after)) → ((m : Machine) → Idles cpus m → AllSettle cpus (rest m)) → (step : HeadStep)
      → ((dump : Dump) → step ≡ shows dump → has_each cpus dump ≡ true) → AllSettle cpus (steps_after cpus head rest step)
  settle_head head rest heads later (goes_on now after) each = heads after
  settle_head head rest heads later (shows dump) each = by (first_refusal dump.files)
    where
      by : (refusal : Option (ℕ × Fault)) → AllSettle cpus (steps_begun (idling (files_for cpus dump) 0) rest refusal)
      by None = later (idling (files_for cpus dump) 0) (starts dump (each dump refl))
      by (Some refusal) = tt
  settle_head head rest heads later (offends o) each = tt

  settle_from : (number : ℕ) (lines : List (List ℕ)) (before : List Reading) → AllSettle cpus (steps_from cpus number lines before)
  settle_from number [] before = tt
  settle_from number (line ∷ lines) before =
      settle_head (steps_from cpus (number + 1) lines) (steps_in (number + 1) lines) (λ after. settle_from (number + 1) lines after) (settle_in (number + 1) lines) (step_in_dump (situation_of cpus) before number line (ends_dump line))
      (each_shown cpus before number line (ends_dump line))

  -- ---- what is told of them

  tells_by : (m : Machine) (tell : RequestState → Transcript) (rest : Machine → List ProcStep) → Idles cpus m → ((next : Machine) → Idles cpus next → TellsOf (tell (in_requests (served next))) (rest next)) → (read : Result (Option Request) ProcFault)
      → TellsOf (told_step tell (of_request (served m) read)) (steps_by m rest read)
  tells_by m tell rest idles later (Err fault) = (request_fault_line fault, refl)
  tells_by m tell rest idles later (Ok None) = later m idles
  tells_by m tell rest idles later (Ok (Some request)) =
      let a : Applied = applied (served m).file request in
      let text : List ℕ = answer_text (served m) request in
      let c = changes cpus some m idles request a in
      let (more, is) = later (changed m a) c.idles in
      (more, ap (λ (s : Served). text ++ (tell (in_requests s)).text) (sym c.same) ∙ ap (λ (l : List ℕ). text ++ l) is ∙ sym (append_assoc text (texts_of (rest (changed m a))) more))

  tells_in : (end : Place) (number : ℕ) (lines : List (List ℕ)) (m : Machine) → Idles cpus m → TellsOf (told_from (proc_step cpus) (proc_end end) number lines (in_requests (served m))) (steps_in number lines m)
  tells_in end number [] m idles = (end_text (served m), refl)
  tells_in end number (line ∷ lines) m idles =
      tells_by m (told_from (proc_step cpus) (proc_end end) (number + 1) lines) (steps_in (number + 1) lines) idles (λ next i. tells_in end (number + 1) lines next i) (request_of number line)

  tells_head : (tell : RequestState → Transcript) (head : List Reading → List ProcStep) (rest : Machine → List ProcStep) → ((after : List Reading) → TellsOf (tell (in_dump after)) (head after))
      → ((m : Machine) → Idles cpus m → TellsOf (tell (in_requests (served m))) (rest m)) → (step : HeadStep) → ((dump : Dump) → step ≡ shows dump → has_each cpus dump ≡ true)
      → TellsOf (told_step tell (of_head step)) (steps_after cpus head rest step)
  tells_head tell head rest heads later (goes_on now after) each = heads after
  tells_head tell head rest heads later (shows dump) each = by (first_refusal dump.files)
    where
      by : (refusal : Option (ℕ × Fault)) → TellsOf (told_step tell (begins dump refusal)) (steps_begun (idling (files_for cpus dump) 0) rest refusal)
      by None =
          let idles = starts dump (each dump refl) in
          let many = files_count cpus dump (each dump refl) in
          let first : served (idling (files_for cpus dump) 0) ≡ at_first (first_file dump) = served_idling (files_for cpus dump) 0 (omega (arith, some, many)) ∙ ap at_first (first_for cpus dump some) in
          let (more, is) = later (idling (files_for cpus dump) 0) idles in
          (more, ap (λ (s : Served). (tell (in_requests s)).text) (sym first) ∙ is)
      by (Some (k, fault)) = (dump_refused_line dump.version k fault, refl)
  tells_head tell head rest heads later (offends o) each = (offence_line o, refl)

  tells_from : (end : Place) (number : ℕ) (lines : List (List ℕ)) (before : List Reading) → TellsOf (told_from (proc_step cpus) (proc_end end) number lines (in_dump before)) (steps_from cpus number lines before)
  tells_from end number [] before = ((proc_end end (in_dump before)).text, refl)
  tells_from end number (line ∷ lines) before =
      tells_head (told_from (proc_step cpus) (proc_end end) (number + 1) lines) (steps_from cpus (number + 1) lines) (steps_in (number + 1) lines) (λ after. tells_from end (number + 1) lines after) (tells_in end (number + 1) lines)
      (step_in_dump (situation_of cpus) before number line (ends_dump line)) (each_shown cpus before number line (ends_dump line))

  pub tells_of_machines : (text : List ℕ) → TellsOfMachines cpus text
  tells_of_machines text = record { each = settle_from 1 (lines_of text) []; told = tells_from (end_of text) 1 (lines_of text) [] }
