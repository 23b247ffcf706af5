-- Lines of a source out of one buffer (own).
--     known_front bytes      how many bytes of the first line a call lends, and whether an LF stands behind them, where these bytes tell it
--     moved_on feed front      the feed after it has lent them
--     taken feed      how many bytes it has taken
-- A line of more than 4,096 bytes is lent in its first 4,097; what follows them stays pending.
use Rattle.std.specs.Prelude.{ℕ, ◌+◌, ◌≡◌, ◌≤◌, ◌<◌, ◌⊎◌, ◌↔◌, ◌++◌, ◌&&◌, ◌==◌, nat_lt, not, Bool, true, false, List, [], ◌∷◌, length, take, drop, position, slice_range, if◌then◌else◌, Option, Some, None, Result, MatchResult, MatchOption}
use Rattle.std.specs.Io.KnownBytes.{Consumes, IsAtEnd, Keeps}
use Rattle.mt_text.specs.Text.{is_line_end, is_too_long, lines_of, longest_input, longest_line, place_behind}
use Rattle.mt_text.specs.declared.line.Line.{Line}
use Rattle.mt_text.specs.declared.place.Place.{Place}
use Rattle.mt_text.specs.declared.fault.FeedFault.{FeedFault}
use Rattle.mt_text.specs.declared.fault.FeedFault.TheVariants.{ReadFault, TooLong}
use Rattle.mt_text.specs.declared.buffer.Buffer.{Buffer}
use Rattle.mt_text.specs.declared.feed.Feed.TheInside.{Inside}

abbrev pub known_at : ℕ → Option ℕ → Option (ℕ × Bool)
known_at count (Some at) = if nat_lt longest_line at then Some (longest_line + 1, false) else Some (at, true)
known_at count None = if nat_lt longest_line count then Some (longest_line + 1, false) else None

abbrev pub known_front : List ℕ → Option (ℕ × Bool)
known_front bytes = known_at (length bytes) (position is_line_end bytes)

-- the line that was lent last
pub record LentLine : Type 0 where
  pub bytes : List ℕ
  pub offset : ℕ  -- counted from the start of the feed
  pub number : ℕ

pub record Feeding : Type 0 where
  pub line : LentLine
  pub pending : List ℕ  -- bytes that were taken and not lent yet
  pub offset : ℕ  -- where they begin
  pub place : Place  -- and their place
  pub fault : Option FeedFault  -- the fault that was returned

abbrev pub taken : Feeding → ℕ
taken feed = feed.offset + length feed.pending

-- a feed has returned TooLong if and only if it has taken more bytes than the limit
abbrev pub IsLong : Feeding → Type 0
IsLong feed = (feed.fault ≡ Some TooLong) ↔ (longest_input < taken feed)

-- more bytes than a feed takes were given since
abbrev pub GaveTooMuch : ℕ → ℕ → Type 0
GaveTooMuch before now = before + longest_input < now

abbrev pub at_start : Feeding
at_start = record {
  line = record { bytes = []; offset = 0; number = 1 };
  pending = [];
  offset = 0;
  place = record { line = 1; column = 1 };
  fault = None;
}

-- a feed, for worked runs, with these bytes pending at the front of a line
abbrev pub behind_a_line : ℕ → List ℕ → Feeding
behind_a_line number bytes = record at_start { pending = bytes; place = record { line = number; column = 1 } }

-- a feed, for worked runs, that has lent this many bytes and has these pending
abbrev pub at_offset : ℕ → List ℕ → Feeding
at_offset offset bytes = record at_start { pending = bytes; offset = offset }

-- the bytes of a front, and the LF that ends it
abbrev pub with_end : ℕ × Bool → ℕ
with_end front = front.0 + (if front.1 then 1 else 0)

abbrev pub place_after : Place → ℕ × Bool → Place
place_after place front =
    if front.1 then record { line = place.line + 1; column = 1 }
    else record { line = place.line; column = place.column + front.0 }

abbrev pub moved_on : Feeding → ℕ × Bool → Feeding
moved_on feed front = record {
  line = record { bytes = take front.0 feed.pending; offset = feed.offset; number = feed.place.line };
  pending = drop (with_end front) feed.pending;
  offset = feed.offset + with_end front;
  place = place_after feed.place front;
  fault = feed.fault;
}

-- The front of these bytes, which are all that is left where they don't tell it.
abbrev pub IsFront : List ℕ → Option (List ℕ) → ℕ × Bool → Type 0
IsFront seen left front =
    (known_front seen ≡ Some front) ⊎ ((known_front seen ≡ None) × IsAtEnd left × (1 ≤ length seen) × (front ≡ (length seen, false)))

-- a call has lent a line of the bytes that it has seen, or there is none
abbrev pub FeedMoves : Feeding → Feeding → List ℕ → Option (List ℕ) → Bool → Type 0
FeedMoves old new seen left true = (front : ℕ × Bool) × IsFront seen left front × (new ≡ moved_on (record old { pending = seen }) front)
FeedMoves old new seen left false = (seen ≡ []) × IsAtEnd left × (new.pending ≡ []) × (new.offset ≡ old.offset) × (new.place ≡ old.place) × (new.fault ≡ old.fault)

-- a call has moved on by a line whose end is pending, or there is none
abbrev pub MovesPending : Feeding → Feeding → Bool → Type 0
MovesPending old new true = (front : ℕ × Bool) × (known_front old.pending ≡ Some front) × (old.fault ≡ None) × (new ≡ moved_on old front)
MovesPending old new false = (new ≡ old) × (old.fault ≡ None → known_front old.pending ≡ None)

-- A call has passed over the first of these bytes, and the others are pending. Its place is the one behind those that it has passed over.
abbrev pub PassesOver : Feeding → Feeding → List ℕ → Type 0
PassesOver old new seen = (passed : List ℕ) × (seen ≡ passed ++ new.pending) × (new.place ≡ place_behind old.place passed)

-- after a call that took these bytes off its source, and lent none of them
abbrev pub Drops : Feeding → Feeding → List ℕ → Type 0
Drops old new more = (taken new ≡ taken old + length more) × PassesOver old new (old.pending ++ more)

-- the line that was lent last has no LF behind it, and isn't too long
abbrev pub is_last : Feeding → Bool
is_last feed = not (is_too_long feed.line.bytes) && (feed.offset == feed.line.offset + length feed.line.bytes)

-- The bytes that it has seen are pending, and nothing is lent. After a failed read they tell no line, so each known line was lent.
abbrev pub Stops : Feeding → Feeding → List ℕ → FeedFault → Type 0
Stops old new seen fault =
    (new.pending ≡ seen) × (new.offset ≡ old.offset) × (new.place ≡ old.place) × (new.fault ≡ Some fault)
    × (fault ≡ ReadFault → old.fault ≡ None → known_front seen ≡ None)

-- after a call that took more bytes
abbrev pub Advances : Feeding → Feeding → List ℕ → Option (List ℕ) → Result Bool FeedFault → Type 0
Advances old new more left result = MatchResult result (FeedMoves old new (old.pending ++ more) left) (Stops old new (old.pending ++ more))

-- the line that a call lends is the one that the feed has moved on to
abbrev pub IsLent : Feeding → Line → Type 0
IsLent feed line = (line.bytes.now ≡ feed.line.bytes) × (line.offset ≡ feed.line.offset) × (line.number ≡ feed.line.number) × (line.next ≡ feed.offset)

abbrev pub LinesAre : Feeding → Feeding → List ℕ → Option (List ℕ) → Result (Option Line) FeedFault → Type 0
LinesAre old new seen left result = MatchResult result
    (λ answer. MatchOption answer (FeedMoves old new seen left false) (λ line. FeedMoves old new seen left true × IsLent new line))
    (Stops old new seen)

-- what a source has left, where it tells it, and how many bytes it has given, before a call and after it
pub record Draw : Type 0 where
  pub left : Option (List ℕ)
  pub after : Option (List ℕ)
  pub given_before : ℕ
  pub given_after : ℕ

abbrev pub draw : Option (List ℕ) → Option (List ℕ) → ℕ → ℕ → Draw
draw left after given_before given_after = record { left = left; after = after; given_before = given_before; given_after = given_after }

abbrev pub drawn : {A : Type 0} → (A → Option (List ℕ)) → (A → ℕ) → A → A → Draw
drawn left given old new = draw (left old) (left new) (given old) (given new)

-- A call takes bytes off what the source has left, which has given as many more, and this holds of them.
abbrev pub TakesMore : Draw → (List ℕ → Type 0) → Type 0
TakesMore d Holds = (more : List ℕ) × Consumes d.left d.after more × (d.given_after ≡ d.given_before + length more) × Holds more

-- A call that asks for the next line: what it has taken from the source, and what the feed is then.
abbrev pub Lines : Feeding → Feeding → Draw → Result (Option Line) FeedFault → Type 0
Lines old new d result = TakesMore d (λ more. LinesAre old new (old.pending ++ more) d.after result × IsLong new)

-- A line that is lent is the first of all bytes that are left, which are those that are pending and those that the source has left behind them. A line too long is lent in its first
-- 4,097 bytes, and a reader stops there. Behind any other the next lines are those of the bytes that are left then, and the next number is one more.
pub record LendsFirst (old new : Feeding) (before after : List ℕ) (line : Line) : Type 0 where
  pub first : List ℕ
  pub others : List (List ℕ)
  pub lines : lines_of (old.pending ++ before) ≡ first ∷ others
  pub bytes : line.bytes.now ≡ take (longest_line + 1) first
  pub number : line.number ≡ old.place.line
  pub rest : length first ≤ longest_line → lines_of (new.pending ++ after) ≡ others
  pub next : length first ≤ longest_line → (others ≡ []) ⊎ (new.place.line ≡ old.place.line + 1)

-- what a call lends of all bytes that are left; at a fault they stay as they were
abbrev pub LendsLines : Feeding → Feeding → List ℕ → List ℕ → Result (Option Line) FeedFault → Type 0
LendsLines old new before after result = MatchResult result
    (λ answer. MatchOption answer ((old.pending ++ before ≡ []) × (new.pending ++ after ≡ [])) (LendsFirst old new before after))
    (λ _. new.pending ++ after ≡ old.pending ++ before)

-- These are all bytes that a feed has taken: those that it has lent, each line with the LF behind it, and those that are pending.
pub record HasTakenBytes (feed : Feeding) (gone bytes : List ℕ) : Type 0 where
  pub offset : feed.offset ≡ length gone
  pub bytes_are : bytes ≡ gone ++ feed.pending

-- A line that is lent begins behind all that was lent before, and is the slice there of all bytes that the feed has taken by then.
pub record LendsSlice (new : Feeding) (gone bytes : List ℕ) (line : Line) : Type 0 where
  pub offset : line.offset ≡ length gone
  pub slice : line.bytes.now ≡ take (length line.bytes.now) (drop line.offset bytes)
  pub passed : List ℕ  -- the line and the LF behind it, where there is one
  pub next : line.next ≡ length (gone ++ passed)
  pub after : HasTakenBytes new (gone ++ passed) bytes

-- what a call lends of all bytes that the feed has taken by then; without a line what was lent stays as it was
abbrev pub LendsSlices : Feeding → List ℕ → List ℕ → Result (Option Line) FeedFault → Type 0
LendsSlices new gone bytes result = MatchResult result (λ answer. MatchOption answer (HasTakenBytes new gone bytes) (LendsSlice new gone bytes)) (λ _. HasTakenBytes new gone bytes)

-- a read has put more bytes behind the pending ones, none only at the end, or nothing where it failed
abbrev pub Reads : {E : Type 0} → List ℕ → List ℕ → Option (List ℕ) → Option (List ℕ) → Result ℕ E → Type 0
Reads old new left after result = MatchResult result
    (λ count. (more : List ℕ) × (length more ≡ count) × (new ≡ old ++ more) × Consumes left after more × (count ≡ 0 → IsAtEnd after))
    (λ _. (new ≡ old) × Keeps left after)

-- more bytes are pending, or there are none, or a fault came
abbrev pub Fills : Feeding → Feeding → List ℕ → Option (List ℕ) → Result Bool FeedFault → Type 0
Fills old new more left result =
    (new.pending ≡ old.pending ++ more) × (new.offset ≡ old.offset) × (new.place ≡ old.place)
    × MatchResult result (λ some. (new.fault ≡ None) × (some ≡ nat_lt 0 (length more)) × (some ≡ false → IsAtEnd left) × (taken new ≤ longest_input)) (λ fault. new.fault ≡ Some fault)

-- what holds of each feed
pub record IsFeeding (feed : Feeding) : Type 0 where
  pub room : length feed.pending ≤ 8192
  pub behind : feed.line.offset + length feed.line.bytes ≤ feed.offset
  pub lines : feed.place.line ≤ feed.offset + 1
  pub columns : feed.place.column ≤ feed.offset + 1
  pub bound : taken feed ≤ longest_input + 8192
  pub long : IsLong feed

-- what a buffer holds: the line that was lent last, and what is pending
abbrev pub lent : Buffer → List ℕ
lent b = slice_range b.bytes b.line b.stop

abbrev pub pending : Buffer → List ℕ
pending b = slice_range b.bytes b.start b.end

abbrev pub feed_seen : Inside → Feeding
feed_seen inside = record {
  line = record { bytes = lent inside.buffer; offset = inside.from; number = inside.number };
  pending = pending inside.buffer;
  offset = inside.offset;
  place = inside.place;
  fault = inside.fault;
}

abbrev pub IsFeedingInside : Inside → Type 0
IsFeedingInside inside = IsFeeding (feed_seen inside)
