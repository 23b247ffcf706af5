-- What the lines of a feed that had taken nothing, or those of a slice, lead to: between two lines and at the end.
use Rattle.std.proofs.Common.{◌≡◌, ◌+◌, ℕ, List, [], ◌∷◌, ◌++◌, take, Option, Some, None, refl, sym, subst, ◌∙◌, ap, append_assoc, inl, inr}
use Rattle.std.specs.Prelude.{◌⊎◌, ⊤, Result, Ok, Err}
use Rattle.std.proofs.lemmas.List.{append-nil}
use Rattle.mt_text.specs.Text.{end_of, lines_of}
use Rattle.mt_text.specs.Feed.{Feeding, LendsFirst, Lines, at_start, draw}
use Rattle.mt_text.specs.Lines.{LinesLeft, TakesFirst, all_lines}
use Rattle.mt_text.specs.Reader.{Course, TakesLine}
use Rattle.mt_text.specs.declared.line.Line.{Line}
use Rattle.mt_text.specs.declared.place.Place.{Place}
use Rattle.mt_text.proofs.Lent.{lends_lines, passes}

module _ {R A F : Type 0} (At : R → ℕ → Course (Result A F) → Type 0) (course : Course (Result A F)) (bytes : List ℕ) where
  -- The lines that are left lead to what all lines of these bytes lead to, and the feed is at its place among them.
  pub record IsPartway (left : Option (List ℕ)) (feed : Feeding) (reader : R) : Type 0 where
    pub after : List ℕ
    pub left_is : left ≡ Some after
    pub number : ℕ
    pub rest : Course (Result A F)
    pub at : At reader number rest
    pub next : (lines_of (feed.pending ++ after) ≡ []) ⊎ (feed.place.line ≡ number)
    pub leads : (end : Place) → rest (lines_of (feed.pending ++ after)) end ≡ course (lines_of bytes) end
    pub past : List ℕ
    pub parts : bytes ≡ past ++ (feed.pending ++ after)
    pub place : feed.place ≡ end_of past

  pub at_first : (left : Option (List ℕ)) (feed : Feeding) (reader : R) → feed ≡ at_start → At reader 1 course → left ≡ Some bytes → IsPartway left feed reader
  at_first left feed reader start at is =
      rw start (record { after = bytes; left_is = is; number = 1; rest = course; at = at; next = inr refl; leads = λ end. refl; past = []; parts = refl; place = refl })

  module _ {left : Option (List ℕ)} {feed : Feeding} {reader : R} (told : IsPartway left feed reader) (new : Feeding) (after : Option (List ℕ)) (given given_after : ℕ) where
    -- the line that is lent is the next of all
    module _ (line : Line) (lines : Lines feed new (draw left after given given_after) (Ok (Some line))) (reader_new : R) where
      next_of : (later : List ℕ) × (after ≡ Some later) × LendsFirst feed new told.after later line
      next_of = lends_lines feed new told.after after given given_after (Ok (Some line)) (rw told.left_is at lines)

      lent : LendsFirst feed new told.after next_of.0 line
      lent = next_of.2

      at_line : At reader line.number told.rest
      at_line = elim told.next [
        | inl none ↦ let e : lent.first ∷ lent.others ≡ [] = sym lent.lines ∙ none in absurd (cc e)
        | inr here ↦ subst (λ n. At reader n told.rest) (sym here ∙ sym lent.number) told.at
      ]

      leads_on : (end : Place) → told.rest (lent.first ∷ lent.others) end ≡ course (lines_of bytes) end
      leads_on end = ap (λ ls. told.rest ls end) (sym lent.lines) ∙ told.leads end

      pub offends : (fault : F) → TakesLine {U = ⊤} At reader reader_new line (Err fault) → (end : Place) → Err fault ≡ course (lines_of bytes) end
      offends fault takes end = sym (takes told.rest lent.first at_line lent.bytes lent.others end) ∙ leads_on end

      pub goes_on : TakesLine {U = ⊤} At reader reader_new line (Ok tt) → IsPartway after new reader_new
      goes_on takes =
          let (short, at) = takes told.rest lent.first at_line lent.bytes in
          let later = next_of.0 in
          let gone = passes feed new told.after later given given_after (Ok (Some line)) (rw next_of.1 at (rw told.left_is at lines)) in
          record {
            after = later;
            left_is = next_of.1;
            number = line.number + 1;
            rest = λ lines. told.rest (lent.first ∷ lines);
            at = at;
            next = elim (lent.next short) [
              | inl last ↦ inl (lent.rest short ∙ last)
              | inr more ↦ inr (more ∙ ap (λ n. n + 1) (sym lent.number))
            ];
            leads = λ end. ap (λ ls. told.rest (lent.first ∷ ls) end) (lent.rest short) ∙ leads_on end;
            past = told.past ++ gone.0;
            parts = told.parts ∙ ap (λ l. told.past ++ l) gone.1.0 ∙ sym (append_assoc told.past gone.0 (new.pending ++ later));
            place = gone.1.1 told.past told.place;
          }

    -- at the end of all lines
    pub ends : (answer : Result A F) → Lines feed new (draw left after given given_after) (Ok None)
        → ((number : ℕ) (rest : Course (Result A F)) → At reader number rest → answer ≡ rest [] new.place) → answer ≡ course (lines_of bytes) (end_of bytes)
    ends answer lines value =
        let next = lends_lines feed new told.after after given given_after (Ok None) (rw told.left_is at lines) in
        let whole : bytes ≡ told.past = told.parts ∙ ap (λ l. told.past ++ l) next.2.0 ∙ append-nil told.past in
        let place : new.place ≡ end_of bytes = lines.3.0.4 ∙ told.place ∙ ap end_of (sym whole) in
        value told.number told.rest told.at ∙ ap (told.rest []) place ∙ ap (λ l. told.rest (lines_of l) (end_of bytes)) (sym next.2.0) ∙ told.leads (end_of bytes)

  -- The lines of a slice that are left lead to what all lines of these bytes lead to.
  pub record IsAmong (left : LinesLeft) (reader : R) : Type 0 where
    pub rest : Course (Result A F)
    pub at : At reader left.number rest
    pub leads : rest (lines_of left.bytes) (end_of bytes) ≡ course (lines_of bytes) (end_of bytes)

  pub at_all : (reader : R) → At reader 1 course → IsAmong (all_lines bytes) reader
  at_all reader at = record { rest = course; at = at; leads = refl }

  module _ {old new : LinesLeft} {reader : R} (told : IsAmong old reader) (line front : Line) (first : TakesFirst old new line) (cut : front.bytes.now ≡ take 4097 line.bytes.now) (same : front.number ≡ line.number) (reader_new : R) where
    at_front : At reader front.number told.rest
    at_front = subst (λ n. At reader n told.rest) (sym (same ∙ first.number)) told.at

    leads_behind : told.rest (line.bytes.now ∷ lines_of new.bytes) (end_of bytes) ≡ course (lines_of bytes) (end_of bytes)
    leads_behind = ap (λ ls. told.rest ls (end_of bytes)) (sym first.lines) ∙ told.leads

    pub offends_among : (fault : F) → TakesLine {U = ⊤} At reader reader_new front (Err fault) → Err fault ≡ course (lines_of bytes) (end_of bytes)
    offends_among fault takes = sym (takes told.rest line.bytes.now at_front cut (lines_of new.bytes) (end_of bytes)) ∙ leads_behind

    pub goes_on_among : TakesLine {U = ⊤} At reader reader_new front (Ok tt) → IsAmong new reader_new
    goes_on_among takes = record {
      rest = λ lines. told.rest (line.bytes.now ∷ lines);
      at = subst (λ n. At reader_new n (λ lines. told.rest (line.bytes.now ∷ lines))) (ap (λ n. n + 1) (same ∙ first.number) ∙ sym first.next_number) (takes told.rest line.bytes.now at_front cut).1;
      leads = leads_behind;
    }

  pub ends_among : {left : LinesLeft} {reader : R} → IsAmong left reader → left.bytes ≡ [] → (answer : Result A F)
      → ((number : ℕ) (rest : Course (Result A F)) → At reader number rest → answer ≡ rest [] (end_of bytes)) → answer ≡ course (lines_of bytes) (end_of bytes)
  ends_among {left = left} told none answer value = value left.number told.rest told.at ∙ ap (λ l. told.rest (lines_of l) (end_of bytes)) (sym none) ∙ told.leads
