-- What a round of a loop over lines keeps, whether or not the source tells its bytes.
use Rattle.std.proofs.Common.{◌≡◌, ◌∙◌, ap, sym, refl, subst, arith, inl, inr, ℕ, ◌+◌, ◌≤◌, ◌<◌, nat_lt, Bool, true, false, List, ◌++◌, length, Option, None, Some, Result, Ok, Err}
use Rattle.std.specs.Prelude.{◌≢◌, ◌↔◌}
use Rattle.std.proofs.lemmas.Bool.Decides.{nat_tests}
use Rattle.std.proofs.lemmas.List.{length-append, length-drop}
use Rattle.mt_ports.specs.Causes.{HasCause}
use Rattle.mt_ports.specs.declared.status.Failed.{Failed}
use Rattle.mt_ports.specs.declared.status.Status.{Status}
use Rattle.mt_ports.specs.declared.status.Status.TheVariants.{BadText, Disabled, Done, NoMemory, ReadFault, Refused, TooFew, TooLong, Usage, WriteFault}
use Rattle.mt_text.specs.Feed.{Feeding, GaveTooMuch, IsFront, IsLong, FeedMoves, Stops, taken, with_end}
use Rattle.mt_text.specs.declared.fault.FeedFault.{FeedFault}
use Rattle.mt_text.specs.declared.fault.FeedFault.TheVariants as fault
use Rattle.mt_text.proofs.Feeding.{front_within}
use Rattle.mt_text.proofs.Fronts.{long_front}
use Rattle.mt_stream.specs.Lines.{CutShort, Leads, SinkHasCause, SourceHasCause, closed_run, cut_status, run_status}
use Rattle.mt_output.specs.Ports.{Held, Port, Waiting, change, read}
use Rattle.mt_stream.specs.Results.{EndsAs, ResultsAs}
use Rattle.mt_stream.specs.Transcript.{Telling}
use Rattle.mt_stream.specs.declared.ending.End.{End}
use Rattle.mt_stream.specs.declared.ending.End.TheVariants as text_end
use Rattle.mt_stream.specs.declared.ending.Cut.{Cut}
use Rattle.mt_stream.specs.declared.ending.Cut.TheVariants as cut

-- ---- how much was taken

front_bounds : (seen : List ℕ) (left : Option (List ℕ)) (front : ℕ × Bool) → IsFront seen left front → (1 ≤ with_end front) × (with_end front ≤ length seen)
front_bounds seen left (count, true) (inl known) = (omega arith, front_within seen (count, true) known)
front_bounds seen left (count, false) (inl known) = let many : count ≡ 4097 = (long_front seen count known).0 in (omega (arith, many), front_within seen (count, false) known)
front_bounds seen left front (inr last) = let is : with_end front ≡ length seen + 0 = ap (λ (f : ℕ × Bool). with_end f) last.3 in (omega (arith, is, last.2), omega (arith, is))

module _ (old new : Feeding) (more : List ℕ) (left : Option (List ℕ)) where
  pub moved_taken : (moved : Bool) → moved ≡ true → FeedMoves old new (old.pending ++ more) left moved → (taken new ≡ taken old + length more) × (old.offset + 1 ≤ new.offset) × (new.fault ≡ old.fault)
  moved_taken false none moves = absurd (cc none)
  moved_taken true some moves =
      let (front, is, moved) = moves in
      let bounds = front_bounds (old.pending ++ more) left front is in
      let offset : new.offset ≡ old.offset + with_end front = ap (λ f. f.offset) moved in
      let pending = ap (λ f. length f.pending) moved ∙ length-drop (with_end front) (old.pending ++ more) in
      let seen = length-append old.pending more in
      (omega (arith, bounds.0, bounds.1, offset, pending, seen), omega (arith, bounds.0, offset), ap (λ f. f.fault) moved)

  pub unmoved_taken : FeedMoves old new (old.pending ++ more) left false → (taken new ≡ taken old + length more) × (new.fault ≡ old.fault)
  unmoved_taken moves = (omega (arith, ap length moves.0, ap length moves.2, moves.3, length-append old.pending more), moves.5)

  pub stopped_taken : (why : FeedFault) → Stops old new (old.pending ++ more) why → taken new ≡ taken old + length more
  stopped_taken why stops = omega (arith, ap length stops.0, stops.1, length-append old.pending more)

-- without a fault not too much was taken
pub not_much : (feed : Feeding) → IsLong feed → feed.fault ≡ None → 16777216 < taken feed → ⊥
not_much feed long none many = let e : None ≡ Some fault.TooLong = sym none ∙ long.1 many in cc e

pub few_taken : (feed : Feeding) → IsLong feed → feed.fault ≡ None → taken feed ≤ 16777216
few_taken feed long none = by (nat_lt 16777216 (taken feed)) refl
  where
    by : (much : Bool) → nat_lt 16777216 (taken feed) ≡ much → taken feed ≤ 16777216
    by true many = absurd (not_much feed long none (grind (arith, nat_tests, many)))
    by false few = grind (arith, nat_tests, few)

-- ---- statuses

pub never_much : (status : Status) (before now : ℕ) (feed : Feeding) → status ≢ TooLong → now ≡ before + taken feed → IsLong feed → feed.fault ≡ None → (status ≡ TooLong) ↔ GaveTooMuch before now
never_much status before now feed other given long none = (λ is. absurd (other is), λ much. absurd (not_much feed long none (omega (arith, given, much))))

-- a run that ended with its text, or whose last text failed
pub closed_others : (r : Result End Failed) → (run_status (closed_run r) ≢ NoMemory) × (run_status (closed_run r) ≢ TooLong)
closed_others (Ok text_end.Done) = (λ is. cc is, λ is. cc is)
closed_others (Ok text_end.BadText) = (λ is. cc is, λ is. cc is)
closed_others (Err failed) = (λ is. cc is, λ is. cc is)

pub closed_source : (r : Result End Failed) (before now : ℕ) → now ≡ before → SourceHasCause before now (closed_run r)
closed_source (Ok last) before now same = same
closed_source (Err failed) before now same = same

pub closed_sink : (r : Result End Failed) (before now : ℕ) → HasCause before now r → SinkHasCause before now (closed_run r)
closed_sink (Ok last) before now cause = cause
closed_sink (Err failed) before now cause = cause

-- a cut, whatever the call returns otherwise
pub cut_source : (T U : Type 0) (why : Cut) (before now : ℕ) → SourceHasCause {T = T} before now (Err why) → SourceHasCause {T = U} before now (Err why)
cut_source T U (cut.Feed fault.ReadFault) before now cause = cause
cut_source T U (cut.Feed fault.TooLong) before now cause = cause
cut_source T U cut.Write before now cause = cause

pub cut_sink : (T U : Type 0) (why : Cut) (before now : ℕ) → SinkHasCause {T = T} before now (Err why) → SinkHasCause {T = U} before now (Err why)
cut_sink T U (cut.Feed why) before now cause = cause
cut_sink T U cut.Write before now cause = cause

-- which statuses a run ends with
pub ends_as : (leads : Leads) (start : Telling) (source : Held) (sink : Port) (status : Status) → ResultsAs leads start source sink status → EndsAs leads.tells.status status
ends_as leads start source sink Done runs = inl runs.status_is
ends_as leads start source sink Refused runs = inl runs.status_is
ends_as leads start source sink Usage runs = absurd runs
ends_as leads start source sink BadText runs = inl runs.status_is
ends_as leads start source sink ReadFault runs = inr (inl refl)
ends_as leads start source sink WriteFault runs = inr (inr (inl refl))
ends_as leads start source sink NoMemory runs = inr (inr (inr (inl refl)))
ends_as leads start source sink TooLong runs = inr (inr (inr (inr refl)))
ends_as leads start source sink TooFew runs = absurd runs
ends_as leads start source sink Disabled runs = absurd runs

-- ---- cuts

module _ (old new : Feeding) (more : List ℕ) (after : Option (List ℕ)) (writer : Waiting) (sink : Port) (first before now : ℕ) (given : before ≡ first + taken old) (rises : now ≡ before + length more) (long : IsLong new) (none : old.fault ≡ None) where
  pub cut_long : (why : Cut) → CutShort (change old new) (read more after) writer sink why → (cut_status why ≡ TooLong) ↔ GaveTooMuch first now
  cut_long cut.Write short =
      let count : length more ≡ 0 = omega (arith, ap length short.1, length-append old.pending more) in
      let kept : IsLong old = subst IsLong short.0 long in
      (λ is. absurd (cc is), λ much. absurd (not_much old kept none (omega (arith, given, rises, count, much))))
  cut_long (cut.Feed fault.ReadFault) short =
      let count = stopped_taken old new more None fault.ReadFault short.0 in
      (λ is. absurd (cc is), λ much. let e : Some fault.ReadFault ≡ Some fault.TooLong = sym short.0.3 ∙ long.1 (omega (arith, given, rises, count, much)) in absurd (cc e))
  cut_long (cut.Feed fault.TooLong) short =
      let count = stopped_taken old new more None fault.TooLong short.0 in
      (λ is. let many = long.0 short.0.3 in omega (arith, given, rises, count, many), λ much. refl)

  pub cut_enough : (why : Cut) → CutShort (change old new) (read more after) writer sink why → why ≡ cut.Feed fault.TooLong → 16777216 < taken old + length more
  cut_enough why short is =
      let said : CutShort (change old new) (read more after) writer sink (cut.Feed fault.TooLong) = subst (CutShort (change old new) (read more after) writer sink) is short in
      let count = stopped_taken old new more None fault.TooLong said.0 in
      let many = long.0 said.0.3 in
      omega (arith, count, many)
