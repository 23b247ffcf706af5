-- The lines that a feed lends are those of the text.
use Rattle.std.proofs.Common.{◌≡◌, ℕ, ◌+◌, ◌<◌, ◌≤◌, Bool, true, false, List, [], ◌∷◌, ◌++◌, length, take, drop, Option, Some, None, refl, sym, ◌∙◌, ap, arith, inl, inr, append_assoc}
use Rattle.std.specs.Prelude.{Result, Ok, Err}
use Rattle.std.specs.List.{before_first, after_first, position_or_len}
use Rattle.std.proofs.Math.Seq.{drop-length, take-length}
use Rattle.std.proofs.lemmas.List.{append-nil, drop-append-le, length-append, length-drop, take-append-drop, length-take-le, take-append-le, take-take, take_all}
use Rattle.std.proofs.lemmas.Bool.{cases_lt}
use Rattle.std.proofs.lemmas.Bool.Decides.{nat_tests}
use Rattle.mt_text.specs.Text.{end_of, is_line_end, is_too_long, lines_of}
use Rattle.mt_text.specs.Feed.{Feeding, IsFront, IsLent, IsLong, LendsFirst, LendsLines, Lines, LinesAre, draw, known_front, moved_on, place_after, taken, with_end}
use Rattle.mt_text.specs.declared.line.Line.{Line}
use Rattle.mt_text.specs.declared.fault.FeedFault.{FeedFault}
use Rattle.mt_text.proofs.Feeding.{front_within, unknown_few}
use Rattle.mt_text.proofs.Fronts.{ended_front, front_few, last_front, long_front, place_of_front, seen_tells}
use Rattle.mt_text.proofs.LineSteps.{lines_of-first}
use Rattle.mt_text.proofs.Places.{position_within}

-- the feed that has seen these bytes and lends their front
abbrev pub moved : Feeding → List ℕ → ℕ × Bool → Feeding
moved old seen front = moved_on (record old { pending = seen }) front

-- the first line of bytes, where it has many
long_line : (rest : List ℕ) → 4096 < length (before_first is_line_end rest)
    → (lines_of rest ≡ before_first is_line_end rest ∷ lines_of (after_first is_line_end rest)) × (take 4097 rest ≡ take 4097 (before_first is_line_end rest))
long_line [] many = absurd (omega arith)
long_line (byte ∷ bytes) many =
    let rest : List ℕ = byte ∷ bytes in
    let reach : ℕ = position_or_len is_line_end rest in
    let within = position_within is_line_end rest in
    let far : 4097 ≤ reach = omega (arith, many, length-take-le reach rest within) in
    (lines_of-first byte bytes, sym (take-take 4097 reach rest far))

ended : (old : Feeding) (before seen after : List ℕ) (line : Line) (count : ℕ) → old.pending ++ before ≡ seen ++ after → known_front seen ≡ Some (count, true) → IsLent (moved old seen (count, true)) line
    → LendsFirst old (moved old seen (count, true)) before after line
ended old before seen after line count same known lent =
    let within : count + 1 ≤ length seen = front_within seen (count, true) known in
    let few : count ≤ 4096 = front_few seen count known in
    let lines = ended_front (seen ++ after) count (seen_tells seen after (count, true) known) in
    let bytes = take-append-le count seen after (omega (arith, within)) in
    let behind = drop-append-le (count + 1) seen after within in
    record {
      first = take count seen;
      others = lines_of (drop (count + 1) seen ++ after);
      lines = ap lines_of same ∙ lines ∙ ap (λ l. l ∷ lines_of (drop (count + 1) (seen ++ after))) bytes ∙ ap (λ l. take count seen ∷ lines_of l) behind;
      bytes = lent.0 ∙ sym (take_all 4097 (take count seen) (omega (arith, few, length-take-le count seen (omega (arith, within)))));
      number = lent.2;
      rest = λ short. refl;
      next = λ short. inr refl;
    }

long : (old : Feeding) (before seen after : List ℕ) (line : Line) (count : ℕ) → old.pending ++ before ≡ seen ++ after → known_front seen ≡ Some (count, false) → IsLent (moved old seen (count, false)) line
    → LendsFirst old (moved old seen (count, false)) before after line
long old before seen after line count same known lent =
    let told = long_front (seen ++ after) count (seen_tells seen after (count, false) known) in
    let within : count + 0 ≤ length seen = front_within seen (count, false) known in
    let parts = long_line (seen ++ after) told.1 in
    let bytes : take count seen ≡ take 4097 (seen ++ after) = sym (take-append-le count seen after (omega (arith, within))) ∙ ap (λ n. take n (seen ++ after)) told.0 in
    record {
      first = before_first is_line_end (seen ++ after);
      others = lines_of (after_first is_line_end (seen ++ after));
      lines = ap lines_of same ∙ parts.0;
      bytes = lent.0 ∙ bytes ∙ parts.1;
      number = lent.2;
      rest = λ short. absurd (omega (arith, told.1, short));
      next = λ short. absurd (omega (arith, told.1, short));
    }

last : (old : Feeding) (before seen : List ℕ) (line : Line) → old.pending ++ before ≡ seen ++ [] → known_front seen ≡ None → 1 ≤ length seen → IsLent (moved old seen (length seen, false)) line
    → LendsFirst old (moved old seen (length seen, false)) before [] line
last old before seen line same unknown some lent =
    let none : drop (length seen + 0) seen ++ [] ≡ [] = append-nil (drop (length seen + 0) seen) ∙ ap (λ n. drop n seen) (let e : length seen + 0 ≡ length seen = omega arith in e) ∙ drop-length seen in
    record {
      first = seen;
      others = [];
      lines = ap lines_of (same ∙ append-nil seen) ∙ last_front seen unknown some;
      bytes = lent.0 ∙ take-length seen ∙ sym (take_all 4097 seen (omega (arith, unknown_few seen unknown)));
      number = lent.2;
      rest = λ short. ap lines_of none;
      next = λ short. inl refl;
    }

moves_first : (old new : Feeding) (before seen after : List ℕ) (line : Line) (front : ℕ × Bool) → old.pending ++ before ≡ seen ++ after → IsFront seen (Some after) front → new ≡ moved old seen front → IsLent new line
    → LendsFirst old new before after line
moves_first old new before seen after line (count, true) same (inl known) is lent = rw is (ended old before seen after line count same known (rw is at lent))
moves_first old new before seen after line (count, false) same (inl known) is lent = rw is (long old before seen after line count same known (rw is at lent))
moves_first old new before seen after line front same (inr end) is lent =
    let at : new ≡ moved old seen (length seen, false) = is ∙ ap (moved old seen) end.3 in
    let all : after ≡ [] = end.1 in
    rw (at, all) (last old before seen line (same ∙ ap (λ l. seen ++ l) all) end.0 end.2 (rw at at lent))

-- the line that is lent, or what is left where there is none
lends : (old new : Feeding) (before seen after : List ℕ) (result : Result (Option Line) FeedFault) → old.pending ++ before ≡ seen ++ after → LinesAre old new seen (Some after) result → LendsLines old new before after result
lends old new before seen after (Ok None) same are =
    let all : after ≡ [] = are.1 in
    (same ∙ ap (λ l. l ++ after) are.0 ∙ all, ap (λ l. l ++ after) are.2 ∙ all)
lends old new before seen after (Ok (Some line)) same are = moves_first old new before seen after line are.0.0 same are.0.1 are.0.2 are.1
lends old new before seen after (Err fault) same are = ap (λ l. l ++ after) are.0 ∙ sym same

pub lends_lines : (old new : Feeding) (before : List ℕ) (left : Option (List ℕ)) (given_before given_after : ℕ) (result : Result (Option Line) FeedFault) → Lines old new (draw (Some before) left given_before given_after) result
    → (after : List ℕ) × (left ≡ Some after) × LendsLines old new before after result
lends_lines old new before None given_before given_after result lines = absurd lines.1
lends_lines old new before (Some after) given_before given_after result lines =
    let same : old.pending ++ before ≡ (old.pending ++ lines.0) ++ after = ap (λ l. old.pending ++ l) lines.1 ∙ sym (append_assoc old.pending lines.0 after) in
    (after, refl, lends old new before (old.pending ++ lines.0) after result same lines.3.0)

-- a feed without a fault has taken no more than the limit
pub within_limit : (feed : Feeding) → IsLong feed → feed.fault ≡ None → taken feed ≤ 16777216
within_limit feed long none = elim (cases_lt 16777216 (taken feed)) [
  | inl more ↦ let e = sym none ∙ long.1 more in cc e
  | inr few ↦ few
]

some_front : (seen : List ℕ) (left : Option (List ℕ)) (front : ℕ × Bool) → IsFront seen left front → 1 ≤ with_end front
some_front seen left front (inl known) = by front known
  where
    by : (front : ℕ × Bool) → known_front seen ≡ Some front → 1 ≤ with_end front
    by (count, true) known = omega arith
    by (count, false) known = omega (arith, (long_front seen count known).0)
some_front seen left front (inr end) = rw end.3 (omega (arith, end.2))

-- each line that is lent moves a feed on
pub moves_on : (old new : Feeding) (before left : Option (List ℕ)) (given_before given_after : ℕ) (line : Line) → Lines old new (draw before left given_before given_after) (Ok (Some line)) → old.offset < new.offset
moves_on old new before left given_before given_after line lines =
    let is : new.offset ≡ old.offset + with_end lines.3.0.0.0 = ap (λ f. f.offset) lines.3.0.0.2 in
    omega (arith, is, some_front (old.pending ++ lines.0) left lines.3.0.0.0 lines.3.0.0.1)

-- a front that is lent lies in the bytes that were seen
pub front_inside : (seen : List ℕ) (left : Option (List ℕ)) (front : ℕ × Bool) → IsFront seen left front → with_end front ≤ length seen
front_inside seen left front (inl known) = front_within seen front known
front_inside seen left front (inr end) = rw end.3 (omega arith)

counts_moved : (old new : Feeding) (seen : List ℕ) (left : Option (List ℕ)) (front : ℕ × Bool) → IsFront seen left front → new ≡ moved old seen front → taken new ≡ old.offset + length seen
counts_moved old new seen left front is moved_is = rw moved_is (omega (arith, front_inside seen left front is, length-drop (with_end front) seen))

counts : (old new : Feeding) (seen : List ℕ) (left : Option (List ℕ)) (result : Result (Option Line) FeedFault) → LinesAre old new seen left result → taken new ≡ old.offset + length seen
counts old new seen left (Ok None) are = omega (arith, ap length are.0, ap length are.2, are.3)
counts old new seen left (Ok (Some line)) are = counts_moved old new seen left are.0.0 are.0.1 are.0.2
counts old new seen left (Err fault) are = omega (arith, ap length are.0, are.1)

-- what a feed has taken goes up with what the source has given
pub counted : (old new : Feeding) (before left : Option (List ℕ)) (given_before given_after : ℕ) (result : Result (Option Line) FeedFault) → Lines old new (draw before left given_before given_after) result
    → given_before + taken new ≡ given_after + taken old
counted old new before left given_before given_after result lines =
    omega (arith, lines.2, counts old new (old.pending ++ lines.0) left result lines.3.0, length-append old.pending lines.0)

-- The bytes that a call has passed over, and the place behind them.
abbrev pub Passes : Feeding → Feeding → List ℕ → List ℕ → List ℕ → Type 0
Passes old new before after gone = (old.pending ++ before ≡ gone ++ (new.pending ++ after)) × ((past : List ℕ) → old.place ≡ end_of past → new.place ≡ end_of (past ++ gone))

passes_none : (old new : Feeding) (before after : List ℕ) → old.pending ++ before ≡ new.pending ++ after → new.place ≡ old.place → Passes old new before after []
passes_none old new before after same place = (same, λ past at. place ∙ at ∙ ap end_of (sym (append-nil past)))

pub passes_front : (old new : Feeding) (before seen after : List ℕ) (front : ℕ × Bool) → old.pending ++ before ≡ seen ++ after → IsFront seen (Some after) front → new ≡ moved old seen front → Passes old new before after (take (with_end front) seen)
passes_front old new before seen after front same is moved_is =
    let parts = ap (λ l. l ++ after) (sym (take-append-drop (with_end front) seen)) ∙ append_assoc (take (with_end front) seen) (drop (with_end front) seen) after in (
      same ∙ parts ∙ ap (λ f. take (with_end front) seen ++ (f.pending ++ after)) (sym moved_is),
      λ past at. ap (λ f. f.place) moved_is ∙ ap (λ p. place_after p front) at ∙ place_of_front past seen (Some after) front is,
    )

passes_seen : (old new : Feeding) (before seen after : List ℕ) (result : Result (Option Line) FeedFault) → old.pending ++ before ≡ seen ++ after → LinesAre old new seen (Some after) result → (gone : List ℕ) × Passes old new before after gone
passes_seen old new before seen after (Ok None) same are = ([], passes_none old new before after (same ∙ ap (λ l. l ++ after) (are.0 ∙ sym are.2)) are.4)
passes_seen old new before seen after (Ok (Some line)) same are = (take (with_end are.0.0) seen, passes_front old new before seen after are.0.0 same are.0.1 are.0.2)
passes_seen old new before seen after (Err fault) same are = ([], passes_none old new before after (same ∙ ap (λ l. l ++ after) (sym are.0)) are.2)

pub passes : (old new : Feeding) (before after : List ℕ) (given_before given_after : ℕ) (result : Result (Option Line) FeedFault) → Lines old new (draw (Some before) (Some after) given_before given_after) result
    → (gone : List ℕ) × Passes old new before after gone
passes old new before after given_before given_after result lines =
    passes_seen old new before (old.pending ++ lines.0) after result (ap (λ l. old.pending ++ l) lines.1 ∙ sym (append_assoc old.pending lines.0 after)) lines.3.0

-- What is alike for all lines that are too long is the same for a line and the front of it that is lent.
pub same_front : {A : Type 0} (f : List ℕ → A) (line : List ℕ) → (is_too_long line ≡ true → is_too_long (take 4097 line) ≡ true → f (take 4097 line) ≡ f line) → f (take 4097 line) ≡ f line
same_front f line long = elim (cases_lt 4096 (length line)) [
  | inl many ↦ long (grind (arith, nat_tests, many)) (grind (arith, nat_tests, many, length-take-le 4097 line (omega (arith, many))))
  | inr few ↦ ap f (take_all 4097 line (omega (arith, few)))
]

pub is_short : (line : List ℕ) → (is_too_long line ≡ true → ⊥) → length line ≤ 4096
is_short line short = elim (cases_lt 4096 (length line)) [
  | inl many ↦ absurd (short (grind (arith, nat_tests, many)))
  | inr few ↦ few
]
