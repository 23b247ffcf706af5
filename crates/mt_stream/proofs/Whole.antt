-- From what a loop over lines leaves to what is proved of a whole run.
use Rattle.std.proofs.Common.{◌≡◌, ◌∙◌, ap, sym, refl, subst, arith, inl, inr, ℕ, List, [], Result}
use Rattle.std.specs.Prelude.{◌≢◌, ◌↔◌}
use Rattle.std.specs.Io.KnownBytes.{Appends}
use Rattle.std.proofs.KnownBytes.{Appends-nil}
use Rattle.mt_ports.specs.Puts.{AppendsFront}
use Rattle.mt_text.specs.Feed.{GaveTooMuch}
use Rattle.mt_ports.specs.Causes.{StatusHasCause}
use Rattle.mt_ports.specs.declared.status.Status.{Status}
use Rattle.mt_ports.specs.declared.status.Status.TheVariants.{Disabled, NoMemory, ReadFault, TooFew, TooLong, Usage, WriteFault}
use Rattle.mt_output.specs.Ports.{Held, Port, SinkRun, SourceRun, held, port}
use Rattle.mt_stream.specs.Handling.{Account, IsRunOfLines, RefusesFrom, ResultsFrom, ResultsOn}
use Rattle.mt_stream.specs.Lines.{Path, early_of, run_status, tells_of}
use Rattle.mt_stream.specs.Results.{RefusesMemory}
use Rattle.mt_stream.specs.Transcript.{Telling, transcript}
use Rattle.mt_stream.specs.declared.ending.Cut.{Cut}
use Rattle.mt_stream.specs.declared.ending.Ended.{Ended}
use Rattle.mt_stream.proofs.Rounds.{ends_as}

-- what is proved of the results may be said in other words
module _ {S K : Type 0} (start : Path) (Asks : Telling → ℕ → List ℕ → Type 0) (Results : Held → Port → Status → Type 0) (results_of : (h : Held) (p : Port) (status : Status) → ResultsOn start h p status → Results h p status)
    (source : SourceRun S) (sink : SinkRun K) where
  abbrev account : Account
  account = record { told = tells_of start; Results = Results; Refused = RefusesMemory (tells_of start) Asks }

  -- the loop was run
  pub ran : (run : Result Ended Cut) (status : Status) → status ≡ run_status run
      → ResultsFrom start (port source.left source.old source.new) (port sink.taken sink.old sink.new) (run_status run)
      → (run_status run ≡ NoMemory → RefusesFrom start Asks (port source.left source.old source.new) (port sink.taken sink.old sink.new))
      → StatusHasCause ReadFault (source.faults source.old) (source.faults source.new) status
      → StatusHasCause WriteFault (sink.faults sink.old) (sink.faults sink.new) status
      → ((run_status run ≡ TooLong) ↔ GaveTooMuch (source.given source.old) (source.given source.new))
      → (status ≢ Usage) × (status ≢ TooFew) × (status ≢ Disabled) → IsRunOfLines account source sink status
  ran run status is runs refuses failed cause long others =
      let bytes : ResultsFrom start (port source.left source.old source.new) (port sink.taken sink.old sink.new) status =
      subst (ResultsFrom start (port source.left source.old source.new) (port sink.taken sink.old sink.new)) (sym is) runs in
      record {
        bytes = λ text known. results_of (held text (source.left source.new)) (port sink.taken sink.old sink.new) status (bytes text known);
        complete = λ text known.
            ends_as (record { tells = transcript (tells_of start) text; early = early_of start text }) (tells_of start) (held text (source.left source.new)) (port sink.taken sink.old sink.new) status (bytes text known);
        memory = λ text known no. inr (refuses (sym is ∙ no) text known);
        read_fault = failed;
        write_fault = cause;
        too_long = (λ much. long.0 (sym is ∙ much), λ much. is ∙ long.1 much);
        usage = others.0;
        few = (others.1, others.2);
      }

  -- memory was refused before it
  pub refused : source.new ≡ source.old → sink.new ≡ sink.old → IsRunOfLines account source sink NoMemory
  refused same_source same_sink = record {
    bytes = λ text known.
        results_of (held text (source.left source.new)) (port sink.taken sink.old sink.new) NoMemory (nothing (early_of start text), nothing (transcript (tells_of start) text).text);
    complete = λ text known. inr (inr (inr (inl refl)));
    memory = λ text known no. inl (ap source.left same_source ∙ known, ap sink.taken same_sink);
    read_fault = record { rose = λ is. absurd (cc is); stands = λ other. ap source.faults same_source };
    write_fault = record { rose = λ is. absurd (cc is); stands = λ other. ap sink.faults same_sink };
    too_long = (
      λ is. absurd (cc is),
      λ much. let same : source.given source.new ≡ source.given source.old = ap source.given same_source in absurd (omega arith),
    );
    usage = λ is. cc is;
    few = (λ is. cc is, λ is. cc is);
  }
    where
      nothing : (text : List ℕ) → AppendsFront (sink.taken sink.old) (sink.taken sink.new) text
      nothing text = ([], text, refl, subst (λ (k : K). Appends (sink.taken sink.old) (sink.taken k) []) (sym same_sink) (Appends-nil (sink.taken sink.old)))
