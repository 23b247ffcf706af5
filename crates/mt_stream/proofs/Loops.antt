-- What a loop over lines keeps over one of them, and what it leaves where it ends with one.
use Rattle.std.proofs.Common.{◌≡◌, subst, inl, inr, ℕ, ◌+◌, ◌<◌, Bool, true, false, List, [], ◌++◌, length, Option, None, Some, Result, Ok, Err}
use Rattle.std.specs.Io.KnownBytes.{Consumes}
use Rattle.mt_ports.specs.Puts.{AppendsFront}
use Rattle.mt_ports.specs.declared.status.Failed.{Failed}
use Rattle.mt_ports.specs.declared.status.Status.{Status}
use Rattle.mt_ports.specs.declared.status.Status.TheVariants.{NoMemory, TooLong}
use Rattle.mt_output.specs.Writing.{PassesOn}
use Rattle.mt_text.specs.Feed.{Feeding, FeedMoves, is_last, taken}
use Rattle.mt_stream.specs.Handling.{ResultsOn}
use Rattle.mt_stream.specs.Laws.{AreLaws}
use Rattle.mt_stream.specs.Lines.{Closes, WritesRest, Path, Running, Takes, at_line, closed_run, last_line, run_status, tells_of}
use Rattle.mt_output.specs.Ports.{change, held, read}
use Rattle.mt_stream.specs.Results.{RefusedAtLine}
use Rattle.mt_stream.specs.Transcript.{Telling, transcript}
use Rattle.mt_stream.specs.declared.ending.End.{End}
use Rattle.mt_stream.specs.declared.ending.Stop.{Stop}
use Rattle.mt_stream.specs.declared.ending.Stop.TheVariants as stopped
use Rattle.mt_stream.proofs.Telling.{HasLine, UnderWay, closes, ends_with_memory, line_ends, line_fails, line_goes_last, line_goes_on, line_refused, line_wants, moves_line}

-- A loop has moved on to a line.
module _ (R : Running) (start : Path) (laws : AreLaws R) (bytes more : List ℕ) (source left : Option (List ℕ)) (old new : Feeding) (now : R.Run) (waiting later : List ℕ) (a b c : Option (List ℕ))
    (told : UnderWay R start bytes source old now waiting a b) (takes : Consumes source left more)
    (moved : Bool) (is : moved ≡ true) (next : FeedMoves old new (old.pending ++ more) left moved × PassesOn waiting [] later b c) where
  here : HasLine R start bytes left new now later a c
  here = moves_line R start laws bytes more source left old new now waiting later a b c told takes (subst (FeedMoves old new (old.pending ++ more) left) is next.0) next.1

  -- what it made of that line, wherever the run stood
  abbrev Does : R.Run → List ℕ → Option (List ℕ) → Result (Option Stop) Failed → Type 0
  Does run after d result = (so_far : List ℕ) (was : Path) → R.At now so_far was → Takes (R.At run) (at_line new.line.number new.line.bytes so_far was) (change later after) (change c d) result

  module _ (run : R.Run) (after : List ℕ) (d : Option (List ℕ)) where
    pub goes_on : Does run after d (Ok None) → is_last new ≡ false → UnderWay R start bytes left new run after a d
    goes_on does going = line_goes_on R start laws bytes left new now later a c here run after d (does here.text here.point here.at) going

    pub goes_last : Does run after d (Ok None) → is_last new ≡ true → (e : Option (List ℕ)) (result : Result End Failed) → Closes (R.ends run new.place) after (change d e) result → ResultsOn start (held bytes left) (change a e) (run_status (closed_run result))
    goes_last does last e result put =
        closes R start laws bytes left new.place run after a d e result (line_goes_last R start laws bytes left new now later a c here run after d (does here.text here.point here.at) last) put

    pub fails : (failed : Failed) → Does run after d (Err failed) → AppendsFront a d (transcript (tells_of start) bytes).text
    fails failed does = line_fails R start laws bytes left new now later a c here d (does here.text here.point here.at)

    -- it ends with that line
    module _ (stop : Stop) (result : Status) (dropped : List ℕ) (source_after e : Option (List ℕ)) (drains : Consumes left source_after dropped) (long : result ≡ TooLong → 16777216 < taken new + length dropped)
        (leaves : WritesRest (last_line stop (is_last new)) (read dropped source_after) after (change d e) result) (does : Does run after d (Ok (Some stop))) where
      pub ends : ResultsOn start (held bytes source_after) (change a e) result
      ends = elim (does here.text here.point here.at) [
        | inl ended ↦ line_ends R start laws bytes left new now later a c here stop result dropped after source_after d e drains long leaves ended
        | inr wants ↦ line_wants R start laws bytes left new now later a c here stop result dropped after source_after d e drains long leaves wants
      ]

      pub refuses : (Asks : Telling → ℕ → List ℕ → Type 0) → (stop ≡ stopped.NoMemory → (so_far : List ℕ) (was : Path) → R.At now so_far was → Asks (tells_of was) new.line.number new.line.bytes)
          → result ≡ NoMemory → RefusedAtLine (tells_of start) Asks (held bytes source_after) (change a e)
      refuses Asks asks none = elim (does here.text here.point here.at) [
        | inl ended ↦ absurd (ends_with_memory R start laws bytes left new now later a c here stop result dropped after source_after d e drains long leaves ended none)
        | inr wants ↦
            line_refused R start laws bytes left new now later a c here stop result dropped after source_after d e drains long leaves Asks none wants.refused wants.passed
            (asks wants.refused here.text here.point here.at)
      ]
