-- A line that a feed lends is a slice of all bytes that it has taken.
use Rattle.std.proofs.Common.{◌≡◌, ℕ, ◌+◌, ◌≤◌, Bool, true, List, ◌++◌, length, take, drop, Option, Some, None, sym, ◌∙◌, ap, arith, append_assoc}
use Rattle.std.specs.Prelude.{Result, Ok, Err}
use Rattle.std.specs.Io.KnownBytes.{Consumes}
use Rattle.std.proofs.Math.Seq.{drop-append_seam}
use Rattle.std.proofs.lemmas.List.{length-append, length-take-le, take-append-drop}
use Rattle.mt_text.specs.Feed.{Feeding, HasTakenBytes, IsFront, IsLent, LendsSlice, LendsSlices, Lines, LinesAre, FeedMoves, draw, taken, with_end}
use Rattle.mt_text.specs.Text.{StandInOrder, words_at}
use Rattle.mt_text.specs.declared.fault.FeedFault.{FeedFault}
use Rattle.mt_text.specs.declared.line.Line.{Line}
use Rattle.mt_text.proofs.Lent.{front_inside, moved}
use Rattle.mt_text.proofs.Order.{stand_in_source}

-- the bytes that were seen are taken, and stand behind those that were lent
seen_are : (old : Feeding) (gone bytes more : List ℕ) → HasTakenBytes old gone bytes → bytes ++ more ≡ gone ++ (old.pending ++ more)
seen_are old gone bytes more has = ap (λ l. l ++ more) has.bytes_are ∙ append_assoc gone old.pending more

slice_of : (old new : Feeding) (gone bytes seen : List ℕ) (left : Option (List ℕ)) (line : Line) (front : ℕ × Bool) → old.offset ≡ length gone → bytes ≡ gone ++ seen → IsFront seen left front
    → new ≡ moved old seen front → IsLent new line → LendsSlice new gone bytes line
slice_of old new gone bytes seen left line front at all is moved_is lent =
    let inside : with_end front ≤ length seen = front_inside seen left front is in
    let short : front.0 ≤ length seen = omega (arith, inside) in
    let passed : List ℕ = take (with_end front) seen in
    let line_is : line.bytes.now ≡ take front.0 seen = lent.0 ∙ ap (λ f. f.line.bytes) moved_is in
    let offset : line.offset ≡ length gone = lent.1 ∙ ap (λ f. f.line.offset) moved_is ∙ at in
    let count : length line.bytes.now ≡ front.0 = ap length line_is ∙ length-take-le front.0 seen short in
    let behind : drop line.offset bytes ≡ seen = ap (λ n. drop n bytes) offset ∙ ap (drop (length gone)) all ∙ drop-append_seam gone seen in
    let sum : old.offset + with_end front ≡ length (gone ++ passed) = omega (arith, at, length-append gone passed, length-take-le (with_end front) seen inside) in
    let reach : new.offset ≡ length (gone ++ passed) = ap (λ f. f.offset) moved_is ∙ sum in
    let parts : gone ++ seen ≡ (gone ++ passed) ++ drop (with_end front) seen =
    ap (λ l. gone ++ l) (sym (take-append-drop (with_end front) seen)) ∙ sym (append_assoc gone passed (drop (with_end front) seen)) in
    record {
      offset = offset;
      slice = line_is ∙ sym (ap (λ n. take n (drop line.offset bytes)) count ∙ ap (take front.0) behind);
      passed = passed;
      next = lent.3 ∙ reach;
      after = record { offset = reach; bytes_are = all ∙ parts ∙ ap (λ f. (gone ++ passed) ++ f.pending) (sym moved_is) };
    }

pub moved_slice : (old new : Feeding) (gone bytes more : List ℕ) (left : Option (List ℕ)) (line : Line) → HasTakenBytes old gone bytes → FeedMoves old new (old.pending ++ more) left true → IsLent new line → LendsSlice new gone (bytes ++ more) line
moved_slice old new gone bytes more left line has moves lent =
    slice_of old new gone (bytes ++ more) (old.pending ++ more) left line moves.0 has.offset (seen_are old gone bytes more has) moves.1 moves.2 lent

-- nothing more was lent
stays : (old new : Feeding) (gone bytes more : List ℕ) → HasTakenBytes old gone bytes → new.pending ≡ old.pending ++ more → new.offset ≡ old.offset → HasTakenBytes new gone (bytes ++ more)
stays old new gone bytes more has pending offset = record { offset = offset ∙ has.offset; bytes_are = seen_are old gone bytes more has ∙ ap (λ l. gone ++ l) (sym pending) }

slices : (old new : Feeding) (gone bytes more : List ℕ) (left : Option (List ℕ)) (result : Result (Option Line) FeedFault) → HasTakenBytes old gone bytes → LinesAre old new (old.pending ++ more) left result → LendsSlices new gone (bytes ++ more) result
slices old new gone bytes more left (Ok None) has are = stays old new gone bytes more has (are.2 ∙ sym are.0) are.3
slices old new gone bytes more left (Ok (Some line)) has are = moved_slice old new gone bytes more left line has are.0 are.1
slices old new gone bytes more left (Err fault) has are = stays old new gone bytes more has are.0 are.1

pub lends_slices : (old new : Feeding) (gone bytes : List ℕ) (before left : Option (List ℕ)) (given_before given_after : ℕ) (result : Result (Option Line) FeedFault) → HasTakenBytes old gone bytes → Lines old new (draw before left given_before given_after) result
    → (more : List ℕ) × Consumes before left more × (given_after ≡ given_before + length more) × LendsSlices new gone (bytes ++ more) result
lends_slices old new gone bytes before left given_before given_after result has lines = (lines.0, lines.1, lines.2, slices old new gone bytes lines.0 left result has lines.3.0)

pub slice_words : (new : Feeding) (gone bytes : List ℕ) (line : Line) → LendsSlice new gone bytes line → StandInOrder bytes line.offset (words_at line.offset line.bytes.now)
slice_words new gone bytes line lent =
    let within : line.offset ≤ length bytes =
    omega (arith, lent.offset, ap length lent.after.bytes_are, length-append (gone ++ lent.passed) new.pending, length-append gone lent.passed) in
    stand_in_source bytes line.bytes.now line.offset within lent.slice

pub count_taken : (feed : Feeding) (gone bytes : List ℕ) → HasTakenBytes feed gone bytes → taken feed ≡ length bytes
count_taken feed gone bytes has = omega (arith, has.offset, ap length has.bytes_are, length-append gone feed.pending)
