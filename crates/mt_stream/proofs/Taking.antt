-- What a run makes of one line.
use Rattle.std.proofs.Common.{◌≡◌, ◌∙◌, ap, sym, subst, inl, inr, ℕ, List, [], ◌++◌, Option, None, Some, Result, Ok, Err, append-nil, append_assoc}
use Rattle.std.specs.Prelude.{◌≢◌, IfOk}
use Rattle.std.specs.Io.KnownBytes.{Appends}
use Rattle.std.proofs.KnownBytes.{Appends-trans}
use Rattle.mt_ports.specs.declared.status.Failed.{Failed}
use Rattle.mt_ports.specs.declared.status.Status.{Status}
use Rattle.mt_output.specs.Writing.{Adds, PassesOn}
use Rattle.mt_output.proofs.Writing.{adds_after}
use Rattle.mt_text.specs.declared.place.Place.{Place}
use Rattle.mt_stream.specs.Laws.{IsLongLed, IsLongTold}
use Rattle.mt_stream.specs.Lines.{AtLine, Closes, Leading, Leads, Path, Takes, early_at, stop_status}
use Rattle.mt_output.specs.Ports.{Port, Waiting, change}
use Rattle.mt_stream.specs.Transcript.{Telling, Transcript, transcript_with}
use Rattle.mt_stream.specs.declared.ending.End.{End}
use Rattle.mt_stream.specs.declared.ending.Stop.{Stop}
use Rattle.mt_stream.specs.declared.ending.Stop.TheVariants.{NoMemory}

-- a last text was written, or failed
pub takes_last : (At : List ℕ → Path → Type 0) (here : AtLine) (text : List ℕ) (writer : Waiting) (sink : Port) (stop : Stop) (result : Result (Option Stop) Failed)
    → ((end : Option Place) (lines : List (List ℕ)) → (here.leads end lines).tells ≡ transcript_with text (stop_status stop)) → stop ≢ NoMemory → Adds text (change writer.old writer.new) (change sink.old sink.new) result
    → IfOk result (λ ended. ended ≡ Some stop) → Takes At here writer sink result
takes_last At here text writer sink stop (Ok None) stops last adds is = absurd (cc is)
takes_last At here text writer sink stop (Ok (Some answer)) stops last adds is =
    let same : answer ≡ stop = cc is in
    inl (record { telling = transcript_with text (stop_status stop); stops = stops; status_is = ap stop_status same; last = λ none. last (sym same ∙ none); passed = adds })
takes_last At here text writer sink stop (Err failed) stops last adds is = record {
  text = text;
  front = λ end lines. ([], ap (λ (t : Transcript). t.text) (stops end lines) ∙ sym (append-nil text));
  failed = adds;
}

-- the same, where the line and those behind it lead to as much
pub takes_same : (At : List ℕ → Path → Type 0) (here : AtLine) (other : Leading) (writer : Waiting) (sink : Port) (result : Result (Option Stop) Failed)
    → ((end : Option Place) (lines : List (List ℕ)) → other end lines ≡ here.leads end lines) → Takes At here writer sink result → Takes At (record here { leads = other }) writer sink result
takes_same At here other writer sink (Ok None) same g =
    record { next = g.next; at = g.at; text = g.text; goes = λ end lines. same end lines ∙ g.goes end lines; passed = g.passed }
takes_same At here other writer sink (Ok (Some stop)) same (inl e) =
    inl (record { telling = e.telling; stops = λ end lines. ap (λ (x : Leads). x.tells) (same end lines) ∙ e.stops end lines; status_is = e.status_is; last = e.last; passed = e.passed })
takes_same At here other writer sink (Ok (Some stop)) same (inr w) =
    inr (record { refused = w.refused; early = λ end lines. let (rest, is) = w.early end lines in (rest, ap (λ (x : Leads). x.early) (same end lines) ∙ is); passed = w.passed })
takes_same At here other writer sink (Err failed) same f = record {
  text = f.text;
  front = λ end lines. let (rest, cut) = f.front end lines in (rest, ap (λ (x : Leads). x.tells.text) (same end lines) ∙ cut);
  failed = f.failed;
}

-- ---- the end

-- a text was passed, and then a last one was written, or a front of it
pub closes_after : (waiting first middle second : List ℕ) (last : Status) (result : Result End Failed) (a b c : Option (List ℕ)) → PassesOn waiting first middle a b → Closes (transcript_with second last) middle (change b c) result
    → Closes (transcript_with (first ++ second) last) waiting (change a c) result
closes_after waiting first middle second last (Ok end) a b c p all =
    let joined : p.front ++ (middle ++ second) ≡ waiting ++ (first ++ second) =
    sym (append_assoc p.front middle second) ∙ ap (λ (l : List ℕ). l ++ second) (sym p.cut) ∙ append_assoc waiting first second in
    (all.0, subst (Appends a c) joined (Appends-trans a b c p.front (middle ++ second) p.taken all.1))
closes_after waiting first middle second last (Err failed) a b c p front = adds_after {T = Unit {0}} {E = Unit {0}} waiting first middle second [] a b c (Err tt) p front

-- ---- a line too long

pub long_led : (early : List ℕ) (told : Telling) (number : ℕ) → IsLongTold told number → IsLongLed (early_at early told) number
long_led early told number t =
    record { leads = record { tells = t.telling; early = early }; bad = t.bad; is = λ line end lines long. ap (λ (x : Transcript). record { tells = x; early = early }) (t.is line end lines long) }
