-- What a run tells, line by line.
use Rattle.std.proofs.Common.{◌≡◌, ◌∙◌, ap, sym, refl, subst, arith, inl, inr, ℕ, ◌+◌, ◌≤◌, ◌<◌, nat_lt, Bool, true, false, List, [], ◌∷◌, ◌++◌, length, take, drop, Option, None, Some, Result, Ok, Err, append_assoc, append-nil, ◌==◌}
use Rattle.std.specs.Prelude.{◌≢◌, ◌⊎◌, ◌&&◌, not}
use Rattle.std.specs.Io.KnownBytes.{Appends, Consumes, IsAtEnd}
use Rattle.std.proofs.KnownBytes.{Appends-nil, Appends-trans}
use Rattle.std.proofs.lemmas.Bool.Decides.{nat_tests}
use Rattle.std.proofs.lemmas.List.{length-append, length-drop, length-take-le, take-append-drop}
use Rattle.std.proofs.Math.Seq.{take-length}
use Rattle.mt_ports.specs.Puts.{AppendsFront}
use Rattle.mt_ports.specs.declared.status.Failed.{Failed}
use Rattle.mt_ports.specs.declared.status.Status.{Status}
use Rattle.mt_ports.specs.declared.status.Status.TheVariants.{BadText, Done, NoMemory, ReadFault, Refused, TooLong, WriteFault}
use Rattle.mt_output.specs.Writing.{PassesOn}
use Rattle.mt_output.proofs.Writing.{fails_after, passes_both}
use Rattle.mt_text.specs.Text.{end_of, lines_of}
use Rattle.mt_text.specs.Feed.{Feeding, IsFront, FeedMoves, is_last, known_front, place_after, taken, with_end, at_start as feed_at_start}
use Rattle.mt_text.specs.declared.fault.FeedFault.TheVariants as fault
use Rattle.mt_text.specs.declared.place.Place.{Place}
use Rattle.mt_text.proofs.Feeding.{front_within, unknown_few}
use Rattle.mt_text.proofs.Fronts.{last_front, long_front, place_of_front}
use Rattle.mt_stream.specs.Known.{known_part, known_text}
use Rattle.mt_stream.specs.Laws.{AreLaws, IsLongLed}
use Rattle.mt_stream.specs.Lines.{AtLine, Closes, CutShort, Ends, Fails, GoesOn, LastLine, Leads, WritesRest, Path, Running, Wants, at_line, closed_run, cut_status, early_of, last_line, leads_behind, run_status, stop_status, tells_of}
use Rattle.mt_stream.specs.Handling.{ResultsOn}
use Rattle.mt_output.specs.Ports.{Port, Read, change, held, read}
use Rattle.mt_stream.specs.Results.{RefusedAtLine}
use Rattle.mt_stream.specs.Transcript.{Telling, Transcript, behind, transcript}
use Rattle.mt_stream.specs.declared.ending.End.{End}
use Rattle.mt_stream.specs.declared.ending.End.TheVariants as text_end
use Rattle.mt_stream.specs.declared.ending.Stop.{Stop}
use Rattle.mt_stream.specs.declared.ending.Stop.TheVariants as stopped
use Rattle.mt_stream.specs.declared.ending.Cut.{Cut}
use Rattle.mt_stream.specs.declared.ending.Cut.TheVariants as cut
use Rattle.mt_stream.proofs.Fronts.{ended_known, ended_lines, long_lines, unknown_part}

-- ---- texts

pub told_both : (a b : List ℕ) (t : Transcript) → behind a (behind b t) ≡ behind (a ++ b) t
told_both a b t = λ i. record { text = sym (append_assoc a b t.text) i; status = t.status }

behind_both : (a b : List ℕ) (t : Leads) → leads_behind a (leads_behind b t) ≡ leads_behind (a ++ b) t
behind_both a b t = λ i. record { tells = told_both a b t.tells i; early = t.early }

-- a text was passed, and what waited went to the sink with another
pub passes_then : (text waiting more : List ℕ) (a b c : Option (List ℕ)) → PassesOn [] text waiting a b → Appends b c (waiting ++ more) → Appends a c (text ++ more)
passes_then text waiting more a b c p put =
    subst (Appends a c) (sym (append_assoc p.front waiting more) ∙ ap (λ l. l ++ more) (sym p.cut)) (Appends-trans a b c p.front (waiting ++ more) p.taken put)

-- or a front of them
pub fails_then : (text waiting more rest : List ℕ) (a b c : Option (List ℕ)) → PassesOn [] text waiting a b → AppendsFront b c (waiting ++ more) → AppendsFront a c (text ++ (more ++ rest))
fails_then text waiting more rest a b c p put = subst (AppendsFront a c) (append_assoc text more rest) (fails_after [] text waiting more rest a b c p put)

-- all that waited went to the sink
pub passes_out : (text waiting : List ℕ) (a b c : Option (List ℕ)) → PassesOn [] text waiting a b → Appends b c waiting → Appends a c text
passes_out text waiting a b c p put =
    subst (Appends a c) (append-nil text) (passes_then text waiting [] a b c p (subst (Appends b c) (sym (append-nil waiting)) put))

pub fails_out : (text waiting rest : List ℕ) (a b c : Option (List ℕ)) → PassesOn [] text waiting a b → AppendsFront b c waiting → AppendsFront a c (text ++ rest)
fails_out text waiting rest a b c p put = fails_then text waiting [] rest a b c p (subst (AppendsFront b c) (sym (append-nil waiting)) put)

-- a text that a sink took is a front of a longer one
pub front_of : (text rest : List ℕ) (a b : Option (List ℕ)) → Appends a b text → AppendsFront a b (text ++ rest)
front_of text rest a b put = (text, rest, refl, put)

-- what a source that tells its bytes has left
pub consumed : (bytes more : List ℕ) (left : Option (List ℕ)) → Consumes (Some bytes) left more → (rest : List ℕ) × (left ≡ Some rest) × (bytes ≡ more ++ rest)
consumed bytes more None takes = absurd takes
consumed bytes more (Some rest) takes = (rest, refl, takes)

pub none_left : (left : Option (List ℕ)) (rest : List ℕ) → left ≡ Some rest → IsAtEnd left → rest ≡ []
none_left left rest is end = subst IsAtEnd is end

-- memory is refused where the line that ends a run was
wants_memory : (stop : Stop) → stop_status stop ≡ NoMemory → stop ≡ stopped.NoMemory
wants_memory stopped.Refused is = cc is
wants_memory stopped.BadText is = cc is
wants_memory stopped.NoMemory is = refl

pub refused_line : (line : LastLine) (source : Read) (waiting : List ℕ) (sink : Port) (result : Status) → WritesRest line source waiting sink result → result ≡ NoMemory → line.stop ≡ stopped.NoMemory
refused_line line source waiting sink result (inl unwritten) is = let e : NoMemory ≡ WriteFault = sym is ∙ unwritten.0 in absurd (cc e)
refused_line line source waiting sink result (inr (put, inl kept)) is = wants_memory line.stop (sym kept.0 ∙ is)
refused_line line source waiting sink result (inr (put, inr (going, other, inl all))) is = wants_memory line.stop (sym all.0 ∙ is)
refused_line line source waiting sink result (inr (put, inr (going, other, inr (inl failed)))) is = let e : NoMemory ≡ ReadFault = sym is ∙ failed in absurd (cc e)
refused_line line source waiting sink result (inr (put, inr (going, other, inr (inr much)))) is = let e : NoMemory ≡ TooLong = sym is ∙ much in absurd (cc e)

-- all that waited went to the sink then, and nothing more was read
refused_leaves : (line : LastLine) (source : Read) (waiting : List ℕ) (sink : Port) (result : Status) → WritesRest line source waiting sink result → result ≡ NoMemory → line.stop ≡ stopped.NoMemory
    → Appends sink.old sink.new waiting × (source.more ≡ [])
refused_leaves line source waiting sink result (inl unwritten) is wants = let e : NoMemory ≡ WriteFault = sym is ∙ unwritten.0 in absurd (cc e)
refused_leaves line source waiting sink result (inr (put, inl kept)) is wants = (put, kept.2)
refused_leaves line source waiting sink result (inr (put, inr (going, other, rest))) is wants = absurd (other wants)

-- another line that ends a run tells so
told_so : (stop : Stop) → stop ≢ stopped.NoMemory → (stop_status stop ≡ Done) ⊎ (stop_status stop ≡ Refused) ⊎ (stop_status stop ≡ BadText)
told_so stopped.Refused other = inr (inl refl)
told_so stopped.BadText other = inr (inr refl)
told_so stopped.NoMemory other = absurd (other refl)

-- no cut refuses memory
pub cut_has_memory : (why : Cut) → cut_status why ≡ NoMemory → ⊥
cut_has_memory cut.Write is = cc is
cut_has_memory (cut.Feed fault.ReadFault) is = cc is
cut_has_memory (cut.Feed fault.TooLong) is = cc is

-- what a whole text or a front of it tells, and what lines tell from a point on
abbrev told_of : Path → Option Place → List ℕ → Leads
told_of start end text = start end 1 (lines_of text)

abbrev told_lines : Option Place → ℕ → List (List ℕ) → Path → Leads
told_lines end number lines was = was end number lines

-- ---- between two lines

pub record UnderWay (R : Running) (start : Path) (bytes : List ℕ) (source : Option (List ℕ)) (feed : Feeding) (now : R.Run) (waiting : List ℕ) (before after : Option (List ℕ)) : Type 0 where
  pub lent : List ℕ  -- the lines that were taken, each with its LF
  pub text : List ℕ  -- what they write
  pub rest : List ℕ
  pub point : Path
  pub at : R.At now text point
  pub place : feed.place ≡ end_of lent
  pub offset : feed.offset ≡ length lent
  pub whole : (tail : List ℕ) → known_part (lent ++ tail) ≡ lent ++ known_part tail
  pub led : (end : Option Place) (tail : List ℕ) → told_of start end (lent ++ tail) ≡ leads_behind text (point end feed.place.line (lines_of tail))
  pub passed : PassesOn [] text waiting before after
  pub is_left : source ≡ Some rest
  pub cut : bytes ≡ lent ++ (feed.pending ++ rest)

-- a feed has moved on to a line that the run hasn't taken
pub record HasLine (R : Running) (start : Path) (bytes : List ℕ) (source : Option (List ℕ)) (feed : Feeding) (now : R.Run) (waiting : List ℕ) (before after : Option (List ℕ)) : Type 0 where
  pub lent : List ℕ
  pub text : List ℕ
  pub rest : List ℕ
  pub point : Path
  pub seen : List ℕ
  pub front : ℕ × Bool
  pub at : R.At now text point
  pub is : IsFront seen source front
  pub line : feed.line.bytes ≡ take front.0 seen
  pub from : feed.line.offset ≡ length lent
  pub number : feed.line.number ≡ (end_of lent).line
  pub pending : feed.pending ≡ drop (with_end front) seen
  pub place : feed.place ≡ place_after (end_of lent) front
  pub offset : feed.offset ≡ length lent + with_end front
  pub whole : (tail : List ℕ) → known_part (lent ++ tail) ≡ lent ++ known_part tail
  pub led : (end : Option Place) (tail : List ℕ) → told_of start end (lent ++ tail) ≡ leads_behind text (point end feed.line.number (lines_of tail))
  pub passed : PassesOn [] text waiting before after
  pub is_left : source ≡ Some rest
  pub cut : bytes ≡ lent ++ (seen ++ rest)

-- No line is left, and a run has told of all.
pub record AtEnd (R : Running) (start : Path) (bytes : List ℕ) (source : Option (List ℕ)) (place : Place) (now : R.Run) (waiting : List ℕ) (before after : Option (List ℕ)) : Type 0 where
  pub text : List ℕ
  pub tells : transcript (tells_of start) bytes ≡ behind text (R.ends now place)
  pub passed : PassesOn [] text waiting before after
  pub is_left : source ≡ Some []

module _ (R : Running) (start : Path) (laws : AreLaws R) where
  pub starts : (bytes : List ℕ) (source : Option (List ℕ)) (now : R.Run) (waiting : List ℕ) (a : Option (List ℕ)) → source ≡ Some bytes → R.At now [] start → waiting ≡ []
      → UnderWay R start bytes source feed_at_start now waiting a a
  starts bytes source now waiting a is at none = record {
    lent = [];
    text = [];
    rest = bytes;
    point = start;
    at = at;
    place = refl;
    offset = refl;
    whole = λ tail. refl;
    led = λ end tail. refl;
    passed = record { front = []; cut = sym none; taken = Appends-nil a };
    is_left = is;
    cut = refl;
  }

  passes_on : (text waiting left : List ℕ) (a b c : Option (List ℕ)) → PassesOn [] text waiting a b → PassesOn waiting [] left b c → PassesOn [] text left a c
  passes_on text waiting left a b c p q = subst (λ l. PassesOn [] l left a c) (append-nil text) (passes_both [] text waiting [] left a b c p q)

  pub moves_line : (bytes more : List ℕ) (source left : Option (List ℕ)) (old new : Feeding) (now : R.Run) (waiting later : List ℕ) (a b c : Option (List ℕ)) → UnderWay R start bytes source old now waiting a b → Consumes source left more
      → FeedMoves old new (old.pending ++ more) left true → PassesOn waiting [] later b c → HasLine R start bytes left new now later a c
  moves_line bytes more source left old new now waiting later a b c h takes moves passed =
      let (front, is, moved) = moves in
      let (rest, is_left, cut) = consumed h.rest more left (subst (λ o. Consumes o left more) h.is_left takes) in
      let number : new.line.number ≡ old.place.line = ap (λ f. f.line.number) moved in
      record {
        lent = h.lent;
        text = h.text;
        rest = rest;
        point = h.point;
        seen = old.pending ++ more;
        front = front;
        at = h.at;
        is = is;
        line = ap (λ f. f.line.bytes) moved;
        from = ap (λ f. f.line.offset) moved ∙ h.offset;
        number = number ∙ ap (λ p. p.line) h.place;
        pending = ap (λ f. f.pending) moved;
        place = ap (λ f. f.place) moved ∙ ap (λ p. place_after p front) h.place;
        offset = ap (λ f. f.offset) moved ∙ ap (λ n. n + with_end front) h.offset;
        whole = h.whole;
        led = λ end tail. h.led end tail ∙ ap (λ n. leads_behind h.text (told_lines end n (lines_of tail) h.point)) (sym number);
        passed = passes_on h.text waiting later a b c h.passed passed;
        is_left = is_left;
        cut = h.cut ∙ ap (λ l. h.lent ++ (old.pending ++ l)) cut ∙ ap (λ l. h.lent ++ l) (sym (append_assoc old.pending more rest));
      }

  -- ---- which line it is

  which : (feed : Feeding) (lent seen : List ℕ) (source : Option (List ℕ)) (front : ℕ × Bool) → IsFront seen source front → feed.line.bytes ≡ take front.0 seen → feed.line.offset ≡ length lent → feed.offset ≡ length lent + with_end front
      → ((is_last feed ≡ false) × (known_front seen ≡ Some front)) ⊎ ((is_last feed ≡ true) × (known_front seen ≡ None) × IsAtEnd source × (1 ≤ length seen) × (front ≡ (length seen, false)))
  which feed lent seen source (count, true) (inl known) line from offset =
      let within : count + 1 ≤ length seen = front_within seen (count, true) known in
      let size : length feed.line.bytes ≡ count = ap length line ∙ length-take-le count seen (omega (arith, within)) in
      let apart : (feed.offset == feed.line.offset + length feed.line.bytes) ≡ false = grind (arith, nat_tests, size, from, offset) in
      inl (ap (λ b. not (nat_lt 4096 (length feed.line.bytes)) && b) apart ∙ and_false (not (nat_lt 4096 (length feed.line.bytes))), known)
    where
      and_false : (b : Bool) → (b && false) ≡ false
      and_false true = refl
      and_false false = refl
  which feed lent seen source (count, false) (inl known) line from offset =
      let within : count + 0 ≤ length seen = front_within seen (count, false) known in
      let many : count ≡ 4097 = (long_front seen count known).0 in
      let size : length feed.line.bytes ≡ count = ap length line ∙ length-take-le count seen (omega (arith, within)) in
      let long : nat_lt 4096 (length feed.line.bytes) ≡ true = grind (arith, nat_tests, size, many) in
      inl (ap (λ b. not b && (feed.offset == feed.line.offset + length feed.line.bytes)) long, known)
  which feed lent seen source front (inr last) line from offset =
      let (unknown, end, some, is) = last in
      let size : length feed.line.bytes ≡ length seen = ap length line ∙ ap (λ (f : ℕ × Bool). length (take f.0 seen)) is ∙ ap length (take-length seen) in
      let stop : feed.offset ≡ length lent + (length seen + 0) = offset ∙ ap (λ (f : ℕ × Bool). length lent + with_end f) is in
      let short : nat_lt 4096 (length feed.line.bytes) ≡ false = grind (arith, nat_tests, size, unknown_few seen unknown) in
      let same : (feed.offset == feed.line.offset + length feed.line.bytes) ≡ true = grind (arith, nat_tests, size, from, stop) in
      inr (ap (λ b. not b && (feed.offset == feed.line.offset + length feed.line.bytes)) short ∙ same, unknown, end, some, is)

  -- ---- the line leads on

  module _ (bytes : List ℕ) (source : Option (List ℕ)) (feed : Feeding) (now : R.Run) (waiting : List ℕ) (a b : Option (List ℕ)) (h : HasLine R start bytes source feed now waiting a b) where
    abbrev here : AtLine
    here = at_line feed.line.number feed.line.bytes h.text h.point

    case : ((is_last feed ≡ false) × (known_front h.seen ≡ Some h.front)) ⊎ ((is_last feed ≡ true) × (known_front h.seen ≡ None) × IsAtEnd source × (1 ≤ length h.seen) × (h.front ≡ (length h.seen, false)))
    case = which feed h.lent h.seen source h.front h.is h.line h.from h.offset

    long_told : IsLongLed h.point feed.line.number
    long_told = laws.long now h.text h.point feed.line.number h.at

    -- an ended line
    line_is : (count : ℕ) → h.front ≡ (count, true) → take count h.seen ≡ feed.line.bytes
    line_is count is = ap (λ (f : ℕ × Bool). take f.0 h.seen) (sym is) ∙ sym h.line

    cut_seen : (count : ℕ) (x : List ℕ) → h.seen ++ x ≡ take (count + 1) h.seen ++ (drop (count + 1) h.seen ++ x)
    cut_seen count x = ap (λ l. l ++ x) (sym (take-append-drop (count + 1) h.seen)) ∙ append_assoc (take (count + 1) h.seen) (drop (count + 1) h.seen) x

    -- a line too long
    long_line : (count : ℕ) → known_front h.seen ≡ Some (count, false) → h.front ≡ (count, false) → 4096 < length feed.line.bytes
    long_line count known is =
        let within : count + 0 ≤ length h.seen = front_within h.seen (count, false) known in
        let many : count ≡ 4097 = (long_front h.seen count known).0 in
        let size = ap length h.line ∙ ap (λ (f : ℕ × Bool). length (take f.0 h.seen)) is ∙ length-take-le count h.seen (omega (arith, within)) in
        omega (arith, size, many)

    -- the lines that are left begin with it
    first_from : (known_front h.seen ≡ Some h.front) → (end : Option Place) (x : List ℕ) → (lines : List (List ℕ)) × (told_lines end feed.line.number (lines_of (h.seen ++ x)) h.point ≡ here.leads end lines)
    first_from known end x = by h.front refl known
      where
        by : (front : ℕ × Bool) → h.front ≡ front → known_front h.seen ≡ Some front → (lines : List (List ℕ)) × (told_lines end feed.line.number (lines_of (h.seen ++ x)) h.point ≡ here.leads end lines)
        by (count, true) is known = (
          lines_of (drop (count + 1) h.seen ++ x),
          ap (λ l. told_lines end feed.line.number l h.point)
              (ap lines_of (cut_seen count x) ∙ ended_lines h.seen (drop (count + 1) h.seen ++ x) count known ∙ ap (λ l. l ∷ lines_of (drop (count + 1) h.seen ++ x)) (line_is count is)),
        )
        by (count, false) is known =
            let has = (long_lines h.seen x count known).0 in (
              [],
              ap (λ l. told_lines end feed.line.number l h.point) has.lines ∙ long_told.is has.line end has.others has.long
                  ∙ sym (long_told.is feed.line.bytes end [] (long_line count known is)),
            )

    first_known : (known_front h.seen ≡ Some h.front) → (x : List ℕ) → (lines : List (List ℕ)) × (told_lines None feed.line.number (lines_of (known_part (h.seen ++ x))) h.point ≡ here.leads None lines)
    first_known known x = by h.front refl known
      where
        by : (front : ℕ × Bool) → h.front ≡ front → known_front h.seen ≡ Some front → (lines : List (List ℕ)) × (told_lines None feed.line.number (lines_of (known_part (h.seen ++ x))) h.point ≡ here.leads None lines)
        by (count, true) is known =
            let rest = drop (count + 1) h.seen ++ x in (
              lines_of (known_part rest),
              ap (λ l. told_lines None feed.line.number l h.point)
                  (ap (λ l. lines_of (known_part l)) (cut_seen count x) ∙ ap lines_of (ended_known h.seen rest count known) ∙ ended_lines h.seen (known_part rest) count known
                  ∙ ap (λ l. l ∷ lines_of (known_part rest)) (line_is count is)),
            )
        by (count, false) is known =
            let has = (long_lines h.seen x count known).1 in (
              [],
              ap (λ l. told_lines None feed.line.number l h.point) has.lines ∙ long_told.is has.line None has.others has.long
                  ∙ sym (long_told.is feed.line.bytes None [] (long_line count known is)),
            )

    -- the whole text leads on from it
    pub all_from : (end : Option Place) → (lines : List (List ℕ)) × (told_of start end bytes ≡ leads_behind h.text (here.leads end lines))
    all_from end = elim case [
      | inl more ↦
          let from = first_from more.1 end h.rest in
          (from.0, ap (told_of start end) h.cut ∙ h.led end (h.seen ++ h.rest) ∙ ap (leads_behind h.text) from.1)
      | inr last ↦
          let none : h.rest ≡ [] = none_left source h.rest h.is_left last.2 in
          let whole : bytes ≡ h.lent ++ h.seen = h.cut ∙ ap (λ l. h.lent ++ (h.seen ++ l)) none ∙ ap (λ l. h.lent ++ l) (append-nil h.seen) in
          let line : h.seen ≡ feed.line.bytes = sym (take-length h.seen) ∙ ap (λ (f : ℕ × Bool). take f.0 h.seen) (sym last.4) ∙ sym h.line in (
            [],
            ap (told_of start end) whole ∙ h.led end h.seen ∙ ap (λ l. leads_behind h.text (told_lines end feed.line.number l h.point)) (last_front h.seen last.1 last.3 ∙ ap (λ l. l ∷ []) line),
          )
    ]

    -- a run doesn't go on behind a line too long
    long_never_goes : (later : R.Run) (left : List ℕ) (c : Option (List ℕ)) → GoesOn (R.At later) here (change waiting left) (change b c) → 4096 < length feed.line.bytes → ⊥
    long_never_goes later left c g long =
        let none = laws.unknown later (h.text ++ g.text) g.next (feed.line.number + 1) g.at in
        let e : BadText ≡ Done = sym long_told.bad ∙ ap (λ (t : Leads). t.tells.status) (sym (long_told.is feed.line.bytes None [] long) ∙ g.goes None []) ∙ ap (λ (t : Transcript). t.status) none in
        cc e

    -- ---- it goes on

    module _ (later : R.Run) (left : List ℕ) (c : Option (List ℕ)) (g : GoesOn (R.At later) here (change waiting left) (change b c)) where
      goes_ended : (count : ℕ) → h.front ≡ (count, true) → known_front h.seen ≡ Some (count, true) → UnderWay R start bytes source feed later left a c
      goes_ended count is known =
          let ended : List ℕ = take (count + 1) h.seen in
          let within : count + 1 ≤ length h.seen = front_within h.seen (count, true) known in
          let place : feed.place ≡ place_after (end_of h.lent) (count, true) = h.place ∙ ap (place_after (end_of h.lent)) is in
          let number : feed.line.number + 1 ≡ feed.place.line = ap (λ n. n + 1) h.number ∙ sym (ap (λ p. p.line) place) in
          record {
            lent = h.lent ++ ended;
            text = h.text ++ g.text;
            rest = h.rest;
            point = g.next;
            at = g.at;
            place = place ∙ place_of_front h.lent h.seen source (count, true) (inl known);
            offset = omega (arith, h.offset, ap (λ (f : ℕ × Bool). with_end f) is, length-append h.lent ended, length-take-le (count + 1) h.seen within);
            whole = λ tail.
                ap known_part (append_assoc h.lent ended tail) ∙ h.whole (ended ++ tail) ∙ ap (λ l. h.lent ++ l) (ended_known h.seen tail count known) ∙ sym (append_assoc h.lent ended (known_part tail));
            led = λ end tail.
                ap (told_of start end) (append_assoc h.lent ended tail) ∙ h.led end (ended ++ tail)
                ∙ ap (λ l. leads_behind h.text (told_lines end feed.line.number l h.point)) (ended_lines h.seen tail count known ∙ ap (λ l. l ∷ lines_of tail) (line_is count is))
                ∙ ap (leads_behind h.text) (g.goes end (lines_of tail)) ∙ behind_both h.text g.text (told_lines end (feed.line.number + 1) (lines_of tail) g.next)
                ∙ ap (λ n. leads_behind (h.text ++ g.text) (told_lines end n (lines_of tail) g.next)) number;
            passed = passes_both [] h.text waiting g.text left a b c h.passed g.passed;
            is_left = h.is_left;
            cut = h.cut ∙ ap (λ l. h.lent ++ l) (cut_seen count h.rest) ∙ sym (append_assoc h.lent ended (drop (count + 1) h.seen ++ h.rest))
                ∙ ap (λ l. (h.lent ++ ended) ++ (l ++ h.rest)) (ap (λ (f : ℕ × Bool). drop (with_end f) h.seen) (sym is) ∙ sym h.pending);
          }

      pub line_goes_on : is_last feed ≡ false → UnderWay R start bytes source feed later left a c
      line_goes_on more = elim case [
        | inl known ↦ by h.front refl known.1
        | inr last ↦ let e : false ≡ true = sym more ∙ last.0 in absurd (cc e)
      ]
        where
          by : (front : ℕ × Bool) → h.front ≡ front → known_front h.seen ≡ Some front → UnderWay R start bytes source feed later left a c
          by (count, true) is known = goes_ended count is known
          by (count, false) is known = absurd (long_never_goes later left c g (long_line count known is))

  -- ---- the text ends

  module _ (bytes : List ℕ) (source : Option (List ℕ)) (feed : Feeding) (now : R.Run) (waiting : List ℕ) (a b : Option (List ℕ)) (h : HasLine R start bytes source feed now waiting a b)
      (later : R.Run) (left : List ℕ) (c : Option (List ℕ)) (g : GoesOn (R.At later) (at_line feed.line.number feed.line.bytes h.text h.point) (change waiting left) (change b c)) where
    last_ends : IsAtEnd source → known_front h.seen ≡ None → 1 ≤ length h.seen → h.front ≡ (length h.seen, false) → AtEnd R start bytes source feed.place later left a c
    last_ends end unknown some front =
        let none : h.rest ≡ [] = none_left source h.rest h.is_left end in
        let all : bytes ≡ h.lent ++ h.seen = h.cut ∙ ap (λ l. h.lent ++ (h.seen ++ l)) none ∙ ap (λ l. h.lent ++ l) (append-nil h.seen) in
        let line : h.seen ≡ feed.line.bytes = sym (take-length h.seen) ∙ ap (λ (f : ℕ × Bool). take f.0 h.seen) (sym front) ∙ sym h.line in
        let count : length h.seen + 0 ≡ length h.seen = omega arith in
        let place : feed.place ≡ end_of bytes =
        h.place ∙ place_of_front h.lent h.seen source h.front h.is ∙ ap (λ (f : ℕ × Bool). end_of (h.lent ++ take (with_end f) h.seen)) front
        ∙ ap (λ n. end_of (h.lent ++ take n h.seen)) count ∙ ap (λ l. end_of (h.lent ++ l)) (take-length h.seen) ∙ ap end_of (sym all) in
        record {
          text = h.text ++ g.text;
          tells =
              ap (λ (x : Leads). x.tells)
              (ap (told_of start (Some (end_of bytes))) all ∙ h.led (Some (end_of bytes)) h.seen
              ∙ ap (λ l. leads_behind h.text (told_lines (Some (end_of bytes)) feed.line.number l h.point)) (last_front h.seen unknown some ∙ ap (λ l. l ∷ []) line)
              ∙ ap (leads_behind h.text) (g.goes (Some (end_of bytes)) []) ∙ behind_both h.text g.text (told_lines (Some (end_of bytes)) (feed.line.number + 1) [] g.next))
              ∙ ap (behind (h.text ++ g.text)) (laws.ended later (h.text ++ g.text) g.next (end_of bytes) (feed.line.number + 1) g.at)
              ∙ ap (λ p. behind (h.text ++ g.text) (R.ends later p)) (sym place);
          passed = passes_both [] h.text waiting g.text left a b c h.passed g.passed;
          is_left = h.is_left ∙ ap Some none;
        }

    pub line_goes_last : is_last feed ≡ true → AtEnd R start bytes source feed.place later left a c
    line_goes_last ends = elim (case bytes source feed now waiting a b h) [
      | inl known ↦ let e : false ≡ true = sym known.0 ∙ ends in absurd (cc e)
      | inr last ↦ last_ends last.2 last.1 last.3 last.4
    ]

  pub no_line : (bytes more : List ℕ) (source left : Option (List ℕ)) (old new : Feeding) (now : R.Run) (waiting later : List ℕ) (a b c : Option (List ℕ)) → UnderWay R start bytes source old now waiting a b → Consumes source left more
      → FeedMoves old new (old.pending ++ more) left false → PassesOn waiting [] later b c → AtEnd R start bytes left new.place now later a c
  no_line bytes more source left old new now waiting later a b c h takes moves passed =
      let (rest, is_left, cut) = consumed h.rest more left (subst (λ o. Consumes o left more) h.is_left takes) in
      let none : rest ≡ [] = none_left left rest is_left moves.1 in
      let all : bytes ≡ h.lent ++ [] =
      h.cut ∙ ap (λ l. h.lent ++ (old.pending ++ l)) cut ∙ ap (λ l. h.lent ++ l) (sym (append_assoc old.pending more rest)) ∙ ap (λ l. h.lent ++ (l ++ rest)) moves.0 ∙ ap (λ l. h.lent ++ l) none in
      let place : new.place ≡ end_of bytes = moves.4 ∙ h.place ∙ ap end_of (sym (append-nil h.lent) ∙ sym all) in
      record {
        text = h.text;
        tells = ap (λ (x : Leads). x.tells) (ap (told_of start (Some (end_of bytes))) all ∙ h.led (Some (end_of bytes)) []) ∙ ap (behind h.text) (laws.ended now h.text h.point (end_of bytes) old.place.line h.at)
            ∙ ap (λ p. behind h.text (R.ends now p)) (sym place);
        passed = passes_on h.text waiting later a b c h.passed passed;
        is_left = is_left ∙ ap Some none;
      }

  module _ (bytes text : List ℕ) (left a b : Option (List ℕ)) (t : Transcript) (is : transcript (tells_of start) bytes ≡ behind text t) (put : Appends a b (text ++ t.text)) (read : left ≡ Some []) where
    -- all is told, with this status
    pub tells_all : (status : Status) → status ≡ t.status → (status ≡ Done) ⊎ (status ≡ Refused) ⊎ (status ≡ BadText) → ResultsOn start (held bytes left) (change a b) status
    tells_all status same one = elim one [
      | inl done ↦ subst (ResultsOn start (held bytes left) (change a b)) (sym done) (record { status_is = sym done ∙ same ∙ sym (ap (λ (x : Transcript). x.status) is); taken = taken; read = read })
      | inr other ↦ elim other [
        | inl refused ↦ subst (ResultsOn start (held bytes left) (change a b)) (sym refused) (record { status_is = sym refused ∙ same ∙ sym (ap (λ (x : Transcript). x.status) is); taken = taken; read = read })
        | inr bad ↦ subst (ResultsOn start (held bytes left) (change a b)) (sym bad) (record { status_is = sym bad ∙ same ∙ sym (ap (λ (x : Transcript). x.status) is); taken = taken; read = read })
      ]
    ]
      where
        taken : Appends a b (transcript (tells_of start) bytes).text
        taken = subst (Appends a b) (sym (ap (λ (x : Transcript). x.text) is)) put

  pub closes : (bytes : List ℕ) (source : Option (List ℕ)) (place : Place) (now : R.Run) (waiting : List ℕ) (a b c : Option (List ℕ)) (result : Result End Failed) → AtEnd R start bytes source place now waiting a b
      → Closes (R.ends now place) waiting (change b c) result → ResultsOn start (held bytes source) (change a c) (run_status (closed_run result))
  closes bytes source place now waiting a b c (Ok text_end.Done) h all =
      tells_all bytes h.text source a c (R.ends now place) h.tells (passes_then h.text waiting (R.ends now place).text a b c h.passed all.1) h.is_left Done all.0 (inl refl)
  closes bytes source place now waiting a b c (Ok text_end.BadText) h all =
      tells_all bytes h.text source a c (R.ends now place) h.tells (passes_then h.text waiting (R.ends now place).text a b c h.passed all.1) h.is_left BadText all.0 (inr (inr refl))
  closes bytes source place now waiting a b c (Err failed) h front =
      let t = R.ends now place in
      subst (AppendsFront a c) (ap (λ l. h.text ++ l) (append-nil t.text) ∙ sym (ap (λ (x : Transcript). x.text) h.tells)) (fails_then h.text waiting t.text [] a b c h.passed front)

  -- ---- the line ends the transcript

  module _ (bytes : List ℕ) (source : Option (List ℕ)) (feed : Feeding) (now : R.Run) (waiting : List ℕ) (a b : Option (List ℕ)) (h : HasLine R start bytes source feed now waiting a b) where
    -- the text so far is a front
    front_text : (rest : List ℕ) × ((transcript (tells_of start) bytes).text ≡ h.text ++ rest)
    front_text =
        let from = all_from bytes source feed now waiting a b h (Some (end_of bytes)) in
        ((h.point (Some (end_of bytes)) feed.line.number (feed.line.bytes ∷ from.0)).tells.text, ap (λ (x : Leads). x.tells.text) from.1)

    pub line_fails : (c : Option (List ℕ)) → Fails (at_line feed.line.number feed.line.bytes h.text h.point) waiting (change b c) → AppendsFront a c (transcript (tells_of start) bytes).text
    line_fails c f =
        let from = all_from bytes source feed now waiting a b h (Some (end_of bytes)) in
        let (rest, cut) = f.front (Some (end_of bytes)) from.0 in
        subst (AppendsFront a c) (ap (λ l. h.text ++ l) (sym cut) ∙ sym (ap (λ (x : Leads). x.tells.text) from.1)) (fails_then h.text waiting f.text rest a b c h.passed f.failed)

    module _ (stop : Stop) (result : Status) (more left : List ℕ) (source_after c d : Option (List ℕ)) (takes : Consumes source source_after more) (long : result ≡ TooLong → 16777216 < taken feed + length more)
        (leaves : WritesRest (last_line stop (is_last feed)) (read more source_after) left (change c d) result) where
      took : (rest : List ℕ) × (source_after ≡ Some rest) × (h.rest ≡ more ++ rest)
      took = consumed h.rest more source_after (subst (λ o. Consumes o source_after more) h.is_left takes)

      enough : result ≡ TooLong → 16777216 < length bytes
      enough is =
          let many = long is in
          let all = ap length h.cut ∙ length-append h.lent (h.seen ++ h.rest) in
          let seen = length-append h.seen h.rest in
          let rest = ap length took.2 ∙ length-append more took.0 in
          let pending = ap length h.pending ∙ length-drop (with_end h.front) h.seen in
          omega (arith, many, all, seen, rest, pending, h.offset, front_few)
        where
          front_few : with_end h.front ≤ length h.seen
          front_few = elim h.is [
            | inl known ↦ front_within h.seen h.front known
            | inr last ↦ omega (arith, ap (λ (f : ℕ × Bool). with_end f) last.3)
          ]

      -- memory was refused
      pub line_wants : Wants (at_line feed.line.number feed.line.bytes h.text h.point) (change waiting left) (change b c) stop → ResultsOn start (held bytes source_after) (change a d) result
      line_wants w = elim leaves [
        | inl unwritten ↦ subst (ResultsOn start (held bytes source_after) (change a d)) (sym unwritten.0) (subst (AppendsFront a d) (sym front_text.1) (fails_out h.text left front_text.0 a c d passed unwritten.1))
        | inr written ↦ elim written.1 [
          | inl kept ↦
              subst (ResultsOn start (held bytes source_after) (change a d)) (sym (kept.0 ∙ ap stop_status w.refused))
              (before_early (passes_out h.text left a c d passed written.0), subst (AppendsFront a d) (sym front_text.1) (front_of h.text front_text.0 a d (passes_out h.text left a c d passed written.0)))
          | inr dropped ↦ absurd (dropped.1 w.refused)
        ]
      ]
        where
          passed : PassesOn [] h.text left a c
          passed = passes_on h.text waiting left a b c h.passed w.passed

          before_early : Appends a d h.text → AppendsFront a d (early_of start bytes)
          before_early put =
              let from = all_from bytes source feed now waiting a b h (Some (end_of bytes)) in
              let (rest, is) = w.early (Some (end_of bytes)) from.0 in
              subst (AppendsFront a d) (sym (ap (λ (x : Leads). x.early) from.1 ∙ is)) (front_of h.text rest a d put)

      -- it was refused at this line
      pub line_refused : (Asks : Telling → ℕ → List ℕ → Type 0) → result ≡ NoMemory → stop ≡ stopped.NoMemory → PassesOn waiting [] left b c → Asks (tells_of h.point) feed.line.number feed.line.bytes
          → RefusedAtLine (tells_of start) Asks (held bytes source_after) (change a d)
      line_refused Asks none wants passed asks = by (refused_leaves (last_line stop (is_last feed)) (read more source_after) left (change c d) result leaves none wants)
        where
          by : Appends c d left × (more ≡ []) → RefusedAtLine (tells_of start) Asks (held bytes source_after) (change a d)
          by (put, no_more) =
              let rest : h.rest ≡ took.0 = took.2 ∙ ap (λ (l : List ℕ). l ++ took.0) no_more in
              let is_left : source_after ≡ Some h.rest = took.1 ∙ ap Some (sym rest) in
              record {
                lines = h.lent;
                seen = h.seen;
                rest = h.rest;
                cut = h.cut;
                is_left = is_left;
                text = h.text;
                point = tells_of h.point;
                leads = λ end tail. ap (λ (x : Leads). x.tells) (h.led end tail) ∙ ap (λ (n : ℕ). behind h.text (tells_of h.point end n (lines_of tail))) h.number;
                front = h.front;
                is = subst (λ (s : Option (List ℕ)). IsFront h.seen s h.front) (h.is_left ∙ sym is_left) h.is;
                asks = subst (λ (n : ℕ). Asks (tells_of h.point) n (take h.front.0 h.seen)) h.number (subst (Asks (tells_of h.point) feed.line.number) h.line asks);
                taken = passes_out h.text left a c d (passes_on h.text waiting left a b c h.passed passed) put;
              }

      -- an offence or a refused dump
      module _ (e : Ends (at_line feed.line.number feed.line.bytes h.text h.point) (change waiting left) (change b c) stop) where
        abbrev t : Transcript
        t = e.telling

        is : transcript (tells_of start) bytes ≡ behind h.text t
        is = let from = all_from bytes source feed now waiting a b h (Some (end_of bytes)) in ap (λ (x : Leads). x.tells) from.1 ∙ ap (behind h.text) (e.stops (Some (end_of bytes)) from.0)

        passed : PassesOn [] (h.text ++ t.text) left a c
        passed = passes_both [] h.text waiting t.text left a b c h.passed e.passed

        unwritten : AppendsFront c d left → AppendsFront a d (transcript (tells_of start) bytes).text
        unwritten put = subst (AppendsFront a d) (append-nil (h.text ++ t.text) ∙ sym (ap (λ (x : Transcript). x.text) is)) (fails_out (h.text ++ t.text) left [] a c d passed put)

        ended : Appends c d left → result ≡ stop_status stop → source_after ≡ Some [] → ResultsOn start (held bytes source_after) (change a d) result
        ended put same read = tells_all bytes h.text source_after a d t is (passes_out (h.text ++ t.text) left a c d passed put) read result (same ∙ e.status_is) (subst (λ s. (s ≡ Done) ⊎ (s ≡ Refused) ⊎ (s ≡ BadText)) (sym same) (told_so stop e.last))

        known : is_last feed ≡ false → known_text (tells_of start) (h.lent ++ (h.seen ++ more)) ≡ h.text ++ t.text
        known going = elim (case bytes source feed now waiting a b h) [
          | inl shown ↦
              let from = first_known bytes source feed now waiting a b h shown.1 more in
              ap (λ l. (told_of start None l).tells.text) (h.whole (h.seen ++ more)) ∙ ap (λ (x : Leads). x.tells.text) (h.led None (known_part (h.seen ++ more)))
              ∙ ap (λ (x : Transcript). h.text ++ x.text) (ap (λ (x : Leads). x.tells) from.1 ∙ e.stops None from.0)
          | inr last ↦ let x : false ≡ true = sym going ∙ last.0 in absurd (cc x)
        ]

        pub ends_with_memory : result ≡ NoMemory → ⊥
        ends_with_memory none = e.last (refused_line (last_line stop (is_last feed)) (read more source_after) left (change c d) result leaves none)

        pub line_ends : ResultsOn start (held bytes source_after) (change a d) result
        line_ends = elim leaves [
          | inl failed ↦ subst (ResultsOn start (held bytes source_after) (change a d)) (sym failed.0) (unwritten failed.1)
          | inr written ↦ elim written.1 [
            | inl kept ↦ elim kept.1 [
              | inl last ↦ ended written.0 kept.0 (nothing_left kept.2 last)
              | inr wants ↦ absurd (e.last wants)
            ]
            | inr dropped ↦ elim dropped.2 [
              | inl all ↦ ended written.0 all.0 (took.1 ∙ ap Some (none_left source_after took.0 took.1 all.1))
              | inr cut ↦ elim cut [
                | inl failed ↦ subst (ResultsOn start (held bytes source_after) (change a d)) (sym failed) (record {
                  front = h.lent ++ (h.seen ++ more);
                  rest = took.0;
                  cut = h.cut ∙ ap (λ l. h.lent ++ (h.seen ++ l)) took.2 ∙ ap (λ l. h.lent ++ l) (sym (append_assoc h.seen more took.0)) ∙ sym (append_assoc h.lent (h.seen ++ more) took.0);
                  is_left = took.1;
                  taken = subst (Appends a d) (sym (known dropped.0)) (passes_out (h.text ++ t.text) left a c d passed written.0);
                })
                | inr much ↦ subst (ResultsOn start (held bytes source_after) (change a d)) (sym much)
                    (enough much, subst (AppendsFront a d) (append-nil (h.text ++ t.text) ∙ sym (ap (λ (x : Transcript). x.text) is)) (front_of (h.text ++ t.text) [] a d (passes_out (h.text ++ t.text) left a c d passed written.0)))
              ]
            ]
          ]
        ]
          where
            nothing_left : more ≡ [] → is_last feed ≡ true → source_after ≡ Some []
            nothing_left none last = elim (case bytes source feed now waiting a b h) [
              | inl shown ↦ let x : false ≡ true = sym shown.0 ∙ last in absurd (cc x)
              | inr ends ↦ took.1 ∙ ap Some (sym (sym (none_left source h.rest h.is_left ends.2) ∙ took.2 ∙ ap (λ l. l ++ took.0) none))
            ]

  -- ---- there is no next line

  pub cuts : (bytes more : List ℕ) (source left : Option (List ℕ)) (old new : Feeding) (now : R.Run) (waiting later : List ℕ) (a b c : Option (List ℕ)) (why : Cut) → UnderWay R start bytes source old now waiting a b → Consumes source left more
      → CutShort (change old new) (read more left) (change waiting later) (change b c) why → old.fault ≡ None → (why ≡ cut.Feed fault.TooLong → 16777216 < taken old + length more) → ResultsOn start (held bytes left) (change a c) (cut_status why)
  cuts bytes more source left old new now waiting later a b c cut.Write h takes short none long =
      let all : told_of start (Some (end_of bytes)) bytes ≡ leads_behind h.text (told_lines (Some (end_of bytes)) old.place.line (lines_of (old.pending ++ h.rest)) h.point) = ap (told_of start (Some (end_of bytes))) h.cut ∙ h.led (Some (end_of bytes)) (old.pending ++ h.rest) in
      subst (AppendsFront a c) (sym (ap (λ (x : Leads). x.tells.text) all)) (fails_out h.text waiting (told_lines (Some (end_of bytes)) old.place.line (lines_of (old.pending ++ h.rest)) h.point).tells.text a b c h.passed short.2)
  cuts bytes more source left old new now waiting later a b c (cut.Feed fault.ReadFault) h takes short none long =
      let (rest, is_left, cut) = consumed h.rest more left (subst (λ o. Consumes o left more) h.is_left takes) in
      let unknown : known_front (old.pending ++ more) ≡ None = short.0.4 refl none in
      let known : known_text (tells_of start) (h.lent ++ (old.pending ++ more)) ≡ h.text =
      ap (λ l. (told_of start None l).tells.text) (h.whole (old.pending ++ more) ∙ ap (λ l. h.lent ++ l) (unknown_part (old.pending ++ more) unknown)) ∙ ap (λ (x : Leads). x.tells.text) (h.led None [])
      ∙ ap (λ (x : Transcript). h.text ++ x.text) (laws.unknown now h.text h.point old.place.line h.at) ∙ append-nil h.text in
      record {
        front = h.lent ++ (old.pending ++ more);
        rest = rest;
        cut = h.cut ∙ ap (λ l. h.lent ++ (old.pending ++ l)) cut ∙ ap (λ l. h.lent ++ l) (sym (append_assoc old.pending more rest)) ∙ sym (append_assoc h.lent (old.pending ++ more) rest);
        is_left = is_left;
        taken = subst (Appends a c) (sym known) (passes_out h.text waiting a b c h.passed short.2);
      }
  cuts bytes more source left old new now waiting later a b c (cut.Feed fault.TooLong) h takes short none long =
      let (rest, is_left, cut) = consumed h.rest more left (subst (λ o. Consumes o left more) h.is_left takes) in
      let all : told_of start (Some (end_of bytes)) bytes ≡ leads_behind h.text (told_lines (Some (end_of bytes)) old.place.line (lines_of (old.pending ++ h.rest)) h.point) = ap (told_of start (Some (end_of bytes))) h.cut ∙ h.led (Some (end_of bytes)) (old.pending ++ h.rest) in (
        omega (arith, long refl, h.offset, ap length h.cut, length-append h.lent (old.pending ++ h.rest), length-append old.pending h.rest, ap length cut, length-append more rest),
        subst (AppendsFront a c) (sym (ap (λ (x : Leads). x.tells.text) all))
            (front_of h.text (told_lines (Some (end_of bytes)) old.place.line (lines_of (old.pending ++ h.rest)) h.point).tells.text a c (passes_out h.text waiting a b c h.passed short.2)),
      )
