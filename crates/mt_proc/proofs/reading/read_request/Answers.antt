use Rattle.std.proofs.Common.{◌≡◌, ◌≤◌, sym, subst, length, [], Ok, None, Result, Option}
use Rattle.std.specs.Prelude.{◌↔◌}
use Rattle.mt_text.specs.Text.{words_of}
use Rattle.mt_proc.specs.declared.request.Request.{Request}
use Rattle.mt_proc.specs.declared.request.ProcFault.{ProcFault}
use Rattle.mt_proc.proofs.FirstWords.{blank_exactly}
use Rattle.mt_proc.proofs.reading.read_request.Goals as goal

pub returns-clause-blank : goal.returns-clause-blank
returns-clause-blank c =
    let line = c.args.line.now in
    subst (λ (r : Result (Option Request) ProcFault). (r ≡ Ok None) ↔ ((length line.bytes.now ≤ 4096) × (words_of line.bytes.now ≡ []))) (sym c.read_line.ensures) (blank_exactly line.number line.bytes.now)
