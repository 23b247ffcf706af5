-- What a feed lends of the bytes that it has seen.
use Rattle.std.proofs.Common.{◌≡◌, ℕ, ◌+◌, ◌<◌, ◌≤◌, nat_lt, Bool, true, false, List, [], ◌∷◌, zero, suc, ◌++◌, length, drop, Option, Some, None, refl, sym, ◌∙◌, ap, arith, inl, inr, append_assoc, length-append}
use Rattle.std.specs.Prelude.{if◌then◌else◌}
use Rattle.std.specs.List.{position, position_or_len}
use Rattle.std.proofs.KnownBytes.{Consumes-trans}
use Rattle.std.proofs.lemmas.Bool.Decides.{nat_tests}
use Rattle.std.proofs.lemmas.List.{append-nil}
use Rattle.mt_text.specs.Text.{is_line_end, place_behind}
use Rattle.std.specs.Io.KnownBytes.{IsAtEnd}
use Rattle.mt_text.specs.declared.place.Place.{Place}
use Rattle.mt_text.specs.Feed.{Drops, Feeding, FeedMoves, PassesOver, Stops, TakesMore, draw, known_at, known_front, moved_on, place_after, taken, with_end}
use Rattle.mt_text.specs.declared.fault.FeedFault.{FeedFault}
use Rattle.mt_text.proofs.EndPlace.{place_behind-append}
use Rattle.mt_text.specs.declared.fault.FeedFault.TheVariants.{ReadFault}

position_below : (bytes : List ℕ) (at : ℕ) → position is_line_end bytes ≡ Some at → at < length bytes
position_below bytes at is = by (nat_lt (position_or_len is_line_end bytes) (length bytes)) refl is
  where
    by : (within : Bool) → nat_lt (position_or_len is_line_end bytes) (length bytes) ≡ within → (if within then Some (position_or_len is_line_end bytes) else None) ≡ Some at → at < length bytes
    by true test is = let e : position_or_len is_line_end bytes ≡ at = cc is in grind (arith, nat_tests, test, e)
    by false test is = cc is

-- a front is within the bytes that tell it
pub front_within : (bytes : List ℕ) (front : ℕ × Bool) → known_front bytes ≡ Some front → with_end front ≤ length bytes
front_within bytes front is = by (position is_line_end bytes) refl is
  where
    cut : (at : ℕ) → at < length bytes → (far : Bool) → nat_lt 4096 at ≡ far → (if far then Some (4097, false) else Some (at, true)) ≡ Some front → with_end front ≤ length bytes
    cut at within true test is = let e : (4097, false) ≡ front = cc is in rw (← e) (grind (arith, nat_tests, test, within))
    cut at within false test is = let e : (at, true) ≡ front = cc is in rw (← e) (omega (arith, within))

    whole : (far : Bool) → nat_lt 4096 (length bytes) ≡ far → (if far then Some (4097, false) else None) ≡ Some front → with_end front ≤ length bytes
    whole true test is = let e : (4097, false) ≡ front = cc is in rw (← e) (grind (arith, nat_tests, test))
    whole false test is = cc is

    by : (at : Option ℕ) → position is_line_end bytes ≡ at → known_at (length bytes) at ≡ Some front → with_end front ≤ length bytes
    by (Some at) found is = cut at (position_below bytes at found) (nat_lt 4096 at) refl is
    by None found is = whole (nat_lt 4096 (length bytes)) refl is

-- bytes that tell no front are few
pub unknown_few : (bytes : List ℕ) → known_front bytes ≡ None → length bytes ≤ 4096
unknown_few bytes is = by (position is_line_end bytes) is
  where
    far_front : Option (ℕ × Bool)
    far_front = Some (4097, false)

    near_front : ℕ → Option (ℕ × Bool)
    near_front at = Some (at, true)

    cut : (at : ℕ) (far : Bool) → (if far then far_front else near_front at) ≡ None → length bytes ≤ 4096
    cut at true is = cc is
    cut at false is = cc is

    whole : (far : Bool) → nat_lt 4096 (length bytes) ≡ far → (if far then far_front else None) ≡ None → length bytes ≤ 4096
    whole true test is = cc is
    whole false test is = grind (arith, nat_tests, test)

    by : (at : Option ℕ) → known_at (length bytes) at ≡ None → length bytes ≤ 4096
    by (Some at) is = cut at (nat_lt 4096 at) is
    by None is = whole (nat_lt 4096 (length bytes)) refl is

-- the line that was lent before doesn't count
pub moved_same : (old now : Feeding) (seen : List ℕ) (front : ℕ × Bool) → now.pending ≡ seen → now.offset ≡ old.offset → now.place ≡ old.place → now.fault ≡ old.fault
    → moved_on now front ≡ moved_on (record old { pending = seen }) front
moved_same old now seen front pending offset place fault = rw (pending, offset, place, fault) refl

-- a call that lends the front of the bytes that it has seen
pub lends_known : (old now new : Feeding) (more : List ℕ) (left : Option (List ℕ)) (front : ℕ × Bool) → now.pending ≡ old.pending ++ more → now.offset ≡ old.offset → now.place ≡ old.place → old.fault ≡ None → now.fault ≡ None
    → known_front now.pending ≡ Some front → new ≡ moved_on now front → FeedMoves old new (old.pending ++ more) left true
lends_known old now new more left front pending offset place none still known is =
    (front, inl (ap known_front (sym pending) ∙ known), is ∙ moved_same old now (old.pending ++ more) front pending offset place (still ∙ sym none))

-- a call after a fault
pub stops_at_once : (feed : Feeding) (fault : FeedFault) → feed.fault ≡ Some fault → Stops feed feed (feed.pending ++ []) fault
stops_at_once feed fault is = (sym (append-nil feed.pending), refl, refl, is, λ read none. let e : None ≡ Some fault = sym none ∙ is in cc e)

-- a call that fails
pub stops : (old now new : Feeding) (more piece : List ℕ) (fault : FeedFault) → now.pending ≡ old.pending ++ more → now.offset ≡ old.offset → now.place ≡ old.place
    → new.pending ≡ now.pending ++ piece → new.offset ≡ now.offset → new.place ≡ now.place → new.fault ≡ Some fault
    → known_front now.pending ≡ None → (fault ≡ ReadFault → new.pending ≡ now.pending) → Stops old new (old.pending ++ (more ++ piece)) fault
stops old now new more piece fault pending offset place more_pending same_offset same_place is unknown failed =
    let seen = more_pending ∙ ap (λ l. l ++ piece) pending ∙ append_assoc old.pending more piece in
    (seen, same_offset ∙ offset, same_place ∙ place, is, λ read none. ap known_front (sym seen ∙ failed read) ∙ unknown)

place_still : (place : Place) (count : ℕ) → count ≡ 0 → place_after place (count, false) ≡ place
place_still place count none = let same : place.column + count ≡ place.column = omega arith in rw same refl

pub length-zero : (xs : List ℕ) → length xs ≡ 0 → xs ≡ []
length-zero [] count = refl
length-zero (x ∷ xs) count = absurd (omega arith)

drop-nil : (n : ℕ) → drop {A = ℕ} n [] ≡ []
drop-nil zero = refl
drop-nil (suc n) = refl

-- a call that comes to the end
pub lends_last : (old now after new : Feeding) (more piece : List ℕ) (left : Option (List ℕ)) → now.pending ≡ old.pending ++ more → now.offset ≡ old.offset → now.place ≡ old.place → old.fault ≡ None → known_front now.pending ≡ None
    → after.pending ≡ now.pending ++ piece → after.offset ≡ now.offset → after.place ≡ now.place → after.fault ≡ None → length piece ≡ 0 → IsAtEnd left → new ≡ moved_on after (length after.pending, false)
    → FeedMoves old new (old.pending ++ (more ++ piece)) left (nat_lt 0 (length after.pending))
lends_last old now after new more (x ∷ piece) left pending offset place none unknown more_pending same_offset same_place still empty end is = absurd (omega arith)
lends_last old now after new more [] left pending offset place none unknown more_pending same_offset same_place still empty end is =
    rw (append-nil more) (by (nat_lt 0 (length after.pending)) refl)
  where
    seen_is : after.pending ≡ old.pending ++ more
    seen_is = more_pending ∙ append-nil now.pending ∙ pending

    by : (some : Bool) → nat_lt 0 (length after.pending) ≡ some → FeedMoves old new (old.pending ++ more) left some
    by true test =
        let count : length after.pending ≡ length (old.pending ++ more) = ap length seen_is in
        let unknown_seen : known_front (old.pending ++ more) ≡ None = ap known_front (sym pending) ∙ unknown in
        let has : 1 ≤ length (old.pending ++ more) = grind (arith, nat_tests, test, count) in
        let front_is : (length after.pending, false) ≡ (length (old.pending ++ more), false) = rw count refl in (
          (length (old.pending ++ more), false),
          inr (unknown_seen, end, has, refl),
          is ∙ ap (moved_on after) front_is ∙ moved_same old after (old.pending ++ more) (length (old.pending ++ more), false) seen_is (same_offset ∙ offset) (same_place ∙ place) (still ∙ sym none),
        )
    by false test =
        let none_pending : length after.pending ≡ 0 = grind (arith, nat_tests, test) in
        let is_empty = length-zero after.pending none_pending in
        let offset_is : new.offset ≡ after.offset + (length after.pending + 0) = ap (λ f. f.offset) is in (
          sym seen_is ∙ is_empty,
          end,
          ap (λ f. f.pending) is ∙ ap (drop (length after.pending + 0)) is_empty ∙ drop-nil (length after.pending + 0),
          omega (arith, offset_is, none_pending, same_offset, offset),
          ap (λ f. f.place) is ∙ place_still after.place (length after.pending) none_pending ∙ same_place ∙ place,
          ap (λ f. f.fault) is ∙ still ∙ sym none,
        )

-- a call that passes over what is pending, and takes more after it has taken some
pub drops_more : (start now after new : Feeding) (left between right : Option (List ℕ)) (given_before given_between given_after : ℕ) (Others : List ℕ → Type 0)
    → TakesMore (draw left between given_before given_between) (Drops start now) → PassesOver now after now.pending → after.pending ≡ [] → taken after ≡ taken now
    → TakesMore (draw between right given_between given_after) (λ more. (new.pending ≡ after.pending ++ more) × (new.offset ≡ after.offset) × (new.place ≡ after.place) × Others more) → TakesMore (draw left right given_before given_after) (Drops start new)
drops_more start now after new left between right given_before given_between given_after Others
    (before, took, given, (so_far, (gone, seen, at))) (passed, all, behind) none same (more, takes, gives, (pending, offset, place, others)) =
    let whole : now.pending ≡ passed = all ∙ ap (λ l. passed ++ l) none ∙ append-nil passed in
    let more_is : new.pending ≡ more = pending ∙ ap (λ l. l ++ more) none in (
      before ++ more,
      Consumes-trans left between right before more took takes,
      omega (arith, given, gives, length-append before more),
      (
        omega (arith, ap length none, same, so_far, offset, ap length more_is, length-append before more),
        (
          gone ++ passed,
          sym (append_assoc start.pending before more) ∙ ap (λ l. l ++ more) (seen ∙ ap (λ l. gone ++ l) whole) ∙ ap (λ l. (gone ++ passed) ++ l) (sym more_is),
          place ∙ behind ∙ ap (λ p. place_behind p passed) at ∙ sym (place_behind-append gone passed start.place),
        ),
      ),
    )
