-- Words stand in order.
use Rattle.std.proofs.Common.{◌≡◌, ◌∙◌, ◌+◌, ◌≤◌, ℕ, zero, suc, Bool, true, false, List, [], ◌∷◌, length, take, drop, refl, sym, ap, subst, arith, map, Some, None}
use Rattle.std.proofs.lemmas.List.{length-take, length-drop, drop-take}
use Rattle.std.specs.List.{slice_get}
use Rattle.std.specs.Option.{option_map}
use Rattle.std.proofs.lemmas.Option.{slice_get-map}
use Rattle.mt_text.specs.Text.{is_blank, goes_on, lengthened, words_at, words_from, words_of, content, StandInOrder}
use Rattle.mt_text.proofs.WordSteps.{words_from-word, drop_next, content-front, content-length, front_of_front, part_of_front}

earlier : (line : List ℕ) (from later : ℕ) (words : List (ℕ × List ℕ)) → from ≤ later → StandInOrder line later words → StandInOrder line from words
earlier line from later [] before stand = tt
earlier line from later (word ∷ words) before stand = (omega (arith, stand.0), stand.1, stand.2, stand.3)

-- a word that is one byte longer at its front
one_longer : (line : List ℕ) (offset byte : ℕ) (bytes : List ℕ) (words : List (ℕ × List ℕ)) → drop offset line ≡ byte ∷ bytes → (first : List ℕ) (later : List (ℕ × List ℕ)) → words ≡ (offset + 1, first) ∷ later
    → StandInOrder line (offset + 1) words → StandInOrder line offset (lengthened offset byte words)
one_longer line offset byte bytes words is first later words_are stand =
    let parts = rw words_are at stand in
    let after : drop (offset + 1) line ≡ bytes = drop_next line bytes byte offset is in
    let same : byte ∷ first ≡ take (length (byte ∷ first)) (drop offset line) = rw is (ap (λ l. byte ∷ l) (parts.2 ∙ ap (take (length first)) after)) in
    let end : offset + 1 + length first ≡ offset + length (byte ∷ first) = omega arith in
    rw words_are (omega arith, omega arith, same, subst (λ n. StandInOrder line n later) end parts.3)

stand_from : (line : List ℕ) (offset : ℕ) (bytes : List ℕ) → drop offset line ≡ bytes → StandInOrder line offset (words_from offset bytes)
stand_from line offset [] is = tt
stand_from line offset (byte ∷ bytes) is =
    let later = stand_from line (offset + 1) bytes (drop_next line bytes byte offset is) in
    by later (is_blank byte) refl (goes_on bytes) refl
  where
    by : StandInOrder line (offset + 1) (words_from (offset + 1) bytes) → (blank : Bool) → is_blank byte ≡ blank → (more : Bool) → goes_on bytes ≡ more → StandInOrder line offset (words_from offset (byte ∷ bytes))
    by later true blank more going = rw blank (earlier line offset (offset + 1) (words_from (offset + 1) bytes) (omega arith) later)
    by later false blank true going = rw (blank, going) (one_longer line offset byte bytes (words_from (offset + 1) bytes) is _ _ (words_from-word (offset + 1) bytes going) later)
    by later false blank false going = rw (blank, going) (omega arith, omega arith, rw is refl, later)

-- and so in a line of which this is a front
in_line : (line front : List ℕ) (from : ℕ) (words : List (ℕ × List ℕ)) → front ≡ take (length front) line → length front ≤ length line → StandInOrder front from words → StandInOrder line from words
in_line line front from [] is fits stand = tt
in_line line front from (word ∷ words) is fits stand =
    let size : length word.1 ≤ length (drop word.0 front) = omega (arith, ap length stand.2, length-take (length word.1) (drop word.0 front)) in
    let within : word.0 + length word.1 ≤ length front = omega (arith, size, stand.1, length-drop word.0 front) in
    (stand.0, stand.1, stand.2 ∙ part_of_front line front word.0 (length word.1) is fits within, in_line line front (word.0 + length word.1) words is fits stand.3)

pub words_stand_in_order : (line : List ℕ) → StandInOrder line 0 (words_of line)
words_stand_in_order line = in_line line (content line) 0 (words_of line) (content-front line) (content-length line) (stand_from (content line) 0 (content line) refl)

-- the words of a line stand in order in the source of which it is a part
pub stand_in_source : (source line : List ℕ) (from : ℕ) → from ≤ length source → line ≡ take (length line) (drop from source) → StandInOrder source from (words_at from line)
stand_in_source source line from within is =
    let size : length line ≤ length (drop from source) = omega (arith, ap length is, length-take (length line) (drop from source)) in
    let count : ℕ = length (content line) in
    let short : count ≤ length line = content-length line in
    let part : content line ≡ take count (drop from source) = content-front line ∙ ap (take count) is ∙ front_of_front (drop from source) (length line) count short size in
    let front : List ℕ = take (from + count) source in
    let fits : from + count ≤ length source = omega (arith, length-drop from source) in
    let front_size : length front ≡ from + count = omega (arith, length-take (from + count) source) in
    let whole : front ≡ take (length front) source = ap (λ n. take n source) (sym front_size) in
    in_line source front from (words_at from line) whole (omega arith) (stand_from front from (content line) (drop-take from count source ∙ sym part))

-- the word with its place counted from elsewhere
abbrev moved : ℕ → ℕ × List ℕ → ℕ × List ℕ
moved by word = (by + word.0, word.1)

moved_lengthened : (by start byte : ℕ) (words : List (ℕ × List ℕ)) → lengthened (by + start) byte (map (moved by) words) ≡ map (moved by) (lengthened start byte words)
moved_lengthened by start byte [] = refl
moved_lengthened by start byte (word ∷ words) = refl

pub moved_words : (by offset : ℕ) (bytes : List ℕ) → words_from (by + offset) bytes ≡ map (moved by) (words_from offset bytes)
moved_words by offset [] = refl
moved_words by offset (byte ∷ bytes) =
    let sum : by + offset + 1 ≡ by + (offset + 1) = omega arith in
    let later : words_from (by + offset + 1) bytes ≡ map (moved by) (words_from (offset + 1) bytes) = ap (λ n. words_from n bytes) sum ∙ moved_words by (offset + 1) bytes in
    cases later (is_blank byte) refl (goes_on bytes) refl
  where
    cases : words_from (by + offset + 1) bytes ≡ map (moved by) (words_from (offset + 1) bytes) → (blank : Bool) → is_blank byte ≡ blank → (more : Bool) → goes_on bytes ≡ more → words_from (by + offset) (byte ∷ bytes) ≡ map (moved by) (words_from offset (byte ∷ bytes))
    cases later true blank more going = rw blank later
    cases later false blank true going = rw (blank, going) (ap (lengthened (by + offset) byte) later ∙ moved_lengthened by offset byte (words_from (offset + 1) bytes))
    cases later false blank false going = rw (blank, going) (ap (λ ws. let word : ℕ × List ℕ = (by + offset, byte ∷ []) in word ∷ ws) later)

moved_get : (by i : ℕ) (bytes : List ℕ) → slice_get (words_from by bytes) i ≡ option_map (moved by) (slice_get (words_from 0 bytes) i)
moved_get by i bytes =
    let same : by ≡ by + 0 = omega arith in
    ap (λ n. slice_get (words_from n bytes) i) same ∙ ap (λ ws. slice_get ws i) (moved_words by 0 bytes) ∙ slice_get-map (moved by) (words_from 0 bytes) i

pub moved_some : (by i : ℕ) (bytes : List ℕ) (word : ℕ × List ℕ) → slice_get (words_from 0 bytes) i ≡ Some word → slice_get (words_from by bytes) i ≡ Some (by + word.0, word.1)
moved_some by i bytes word found = moved_get by i bytes ∙ ap (option_map (moved by)) found

pub moved_none : (by i : ℕ) (bytes : List ℕ) → slice_get (words_from 0 bytes) i ≡ None → slice_get (words_from by bytes) i ≡ None
moved_none by i bytes none = moved_get by i bytes ∙ ap (option_map (moved by)) none

-- a front of a list is the front of its own length
pub front_is : (text line : List ℕ) (at : ℕ) → line ≡ take at text → line ≡ take (length line) text
front_is text line at is = is ∙ short at text ∙ ap (λ n. take n text) (sym (ap length is))
  where
    short : (n : ℕ) (xs : List ℕ) → take n xs ≡ take (length (take n xs)) xs
    short zero xs = refl
    short (suc n) [] = refl
    short (suc n) (x ∷ xs) = ap (λ l. x ∷ l) (short n xs)
