-- Lines that ask for changes, one after the other.
use Rattle.std.proofs.Common.{◌≡◌, ◌∙◌, ap, sym, refl, ◌+◌, List, [], ◌∷◌, ◌++◌, Option, None, Some, Result, Ok, Err, append_assoc}
use Rattle.std.specs.Option.{option_map}
use Rattle.mt_ports.specs.declared.status.Status.TheVariants.{Done}
use Rattle.mt_stream.specs.Transcript.{behind, told_step, transcript_with}
use Rattle.mt_proc.specs.declared.request.Request.{Request}
use Rattle.mt_proc.specs.declared.request.ProcFault.{ProcFault}
use Rattle.mt_proc.specs.After.{Served, after_all, answer_text, answers, asked, end_text}
use Rattle.mt_proc.specs.Listing.{requests_from}
use Rattle.mt_proc.specs.Proc.{LinesTellRequests, from_point, in_requests, of_request, requests_in}
use Rattle.mt_proc.specs.Requests.{request_of}

pub lines_tell : LinesTellRequests
lines_tell cpus now place number [] requests is =
    let none : [] ≡ requests = cc is in
    ap (λ rs. transcript_with (answers now rs ++ end_text (after_all now rs)) Done) none
lines_tell cpus now place number (line ∷ lines) requests is = by (request_of number line) (λ next rs. lines_tell cpus next place (number + 1) lines rs) is
  where
    by : (answer : Result (Option Request) ProcFault) → ((next : Served) (rs : List Request) → requests_in (requests_from (number + 1) lines) ≡ Some rs
        → from_point cpus (in_requests next) (Some place) (number + 1) lines ≡ transcript_with (answers next rs ++ end_text (after_all next rs)) Done)
        → requests_in (answer ∷ requests_from (number + 1) lines) ≡ Some requests
        → told_step (λ p. from_point cpus p (Some place) (number + 1) lines) (of_request now answer) ≡ transcript_with (answers now requests ++ end_text (after_all now requests)) Done
    by (Err fault) later is = cc is
    by (Ok None) later is = later now requests is
    by (Ok (Some request)) later is = rest (requests_in (requests_from (number + 1) lines)) refl is
      where
        rest : (found : Option (List Request)) → requests_in (requests_from (number + 1) lines) ≡ found → option_map (λ rs. request ∷ rs) found ≡ Some requests
            → behind (answer_text now request) (from_point cpus (in_requests (asked now request)) (Some place) (number + 1) lines) ≡ transcript_with (answers now requests ++ end_text (after_all now requests)) Done
        rest None at is = cc is
        rest (Some rs) at is =
            let same : request ∷ rs ≡ requests = cc is in
            ap (behind (answer_text now request)) (later (asked now request) rs at)
            ∙ ap (λ text. transcript_with text Done) (sym (append_assoc (answer_text now request) (answers (asked now request) rs) (end_text (after_all (asked now request) rs))))
            ∙ ap (λ all. transcript_with (answers now all ++ end_text (after_all now all)) Done) same
