-- Logs each of whose lines tells of one file, or says nothing: the readings that they come to.
use Rattle.std.proofs.Common.{◌≡◌, ◌∙◌, ◌+◌, ◌^◌, ◌<◌, ℕ, Bool, true, false, List, [], ◌∷◌, ◌++◌, length, Option, Some, None, refl, sym, ap, subst, inl, inr, arith, lit<, bit_and, unwrap_or, append_assoc}
use Rattle.std.specs.Prelude.{◌⊎◌, ⊤, if◌then◌else◌}
use Rattle.std.specs.List.{AllByRecursion}
use Rattle.mt_regs.specs.RegisterFile.{IsRegisterFile, RegisterFile}
use Rattle.mt_text.specs.declared.place.Place.{Place}
use Rattle.mt_import.specs.declared.format.Format.{Format}
use Rattle.mt_import.specs.declared.reading.Context.{Context}
use Rattle.mt_import.specs.declared.reading.LineSays.{LineSays}
use Rattle.mt_import.specs.declared.reading.LineSays.TheVariants.{Nothing, Announces, Value, Turns, Shows, Lists, Begins, FixedRanges, VariableRanges, Width, Warns, Bad}
use Rattle.mt_import.specs.declared.shape.Reading.{Reading}
use Rattle.mt_import.specs.declared.shape.Shown.{Shown}
use Rattle.mt_import.specs.Readings.{Fact, is_fault, is_line, is_match, is_register, is_register_value, is_warning, is_width, named_processor, processor_after, processor_turned_to, reading_facts, said_facts, shown_facts, shows_facts}
use Rattle.mt_import.specs.Shown.{context_behind, facts_from, facts_of_line, said_of}
use Rattle.mt_import.specs.Slot.{all_bits}
use Rattle.mt_import.specs.Outcome.{Seen, seen_after, seen_with}
use Rattle.mt_import_laws.specs.Origins.{IsAmong, context_after_lines}
use Rattle.mt_import_laws.specs.Printed.{IsNoMore, IsSame, Key, SaysNoMore, no_match, number_at, only_shows, only_turns, only_warns, only_width, value_in}
use Rattle.mt_import_laws.proofs.Among.{join_among_first, join_among_second}
use Rattle.mt_import_laws.proofs.Keys.{IsKey, is_register_key, key_at}
use Rattle.mt_import_laws.proofs.PartBits.{whole_part}
use Rattle.mt_import_laws.proofs.Whole.{IsSound, Prints}

-- ---- facts and readings

pub all_join : {A : Type 0} (P : A → Type 0) (xs ys : List A) → AllByRecursion P xs → AllByRecursion P ys → AllByRecursion P (xs ++ ys)
all_join P [] ys all later = later
all_join P (x ∷ xs) ys all later = (all.0, all_join P xs ys all.1 later)

-- a reading that is a fact, or was there before, is gathered
pub gathers : (facts : List Fact) (seen : Seen) (reading : Reading) → IsAmong (is_register_value reading) facts ⊎ IsAmong reading seen.readings → IsAmong reading (seen_after seen facts).readings
gathers [] seen reading (inl fact) = absurd fact
gathers [] seen reading (inr before) = before
gathers (fact ∷ facts) seen reading (inl (inr later)) = gathers facts (seen_with seen fact) reading (inl later)
gathers (fact ∷ facts) seen reading (inl (inl same)) = gathers facts (seen_with seen fact) reading (inr (subst (λ (f : Fact). IsAmong reading (seen_with seen f).readings) (sym same) (inl refl)))
gathers (fact ∷ facts) seen reading (inr before) = gathers facts (seen_with seen fact) reading (inr (by fact))
  where
    by : (f : Fact) → IsAmong reading (seen_with seen f).readings
    by (is_line number format matched) = before
    by (is_register_value other) = inr before
    by (is_width width place) = before
    by (is_warning warning number) = before
    by (is_fault fault) = before

-- ---- bits of a register that a line shows

pub record ShowsKey (key : Key) (part : ℕ) (said : LineSays) : Type 0 where
  pub processor : Option ℕ
  pub shows : List (Option Shown)
  pub shown : Shown
  pub said_is : said ≡ Shows processor shows
  pub among : IsAmong (Some shown) shows
  pub number : shown.number ≡ number_at key
  pub bits : shown.bits ≡ part

-- a fact of these bits of the register
pub record HasReading (key : Key) (part : ℕ) (facts : List Fact) : Type 0 where
  pub reading : Reading
  pub among : IsAmong (is_register_value reading) facts
  pub number : reading.number ≡ number_at key
  pub bits : reading.bits ≡ part

-- a fact of these bits of this processor's register
pub record HasOwn (k : ℕ) (key : Key) (part : ℕ) (facts : List Fact) : Type 0 where
  pub reading : Reading
  pub among : IsAmong (is_register_value reading) facts
  pub own : reading.processor ≡ k
  pub number : reading.number ≡ number_at key
  pub bits : reading.bits ≡ part

pub own_first : (k : ℕ) (key : Key) (part : ℕ) (a b : List Fact) → HasOwn k key part a → HasOwn k key part (a ++ b)
own_first k key part a b has = record { reading = has.reading; among = join_among_first a b _ has.among; own = has.own; number = has.number; bits = has.bits }

pub own_later : (k : ℕ) (key : Key) (part : ℕ) (a b : List Fact) → HasOwn k key part b → HasOwn k key part (a ++ b)
own_later k key part a b has = record { reading = has.reading; among = join_among_second a b _ has.among; own = has.own; number = has.number; bits = has.bits }

-- ---- what a line says of one file

module _ (file : RegisterFile) (prints : Prints) where
  -- it shows such bits of a register as the file has them
  pub record TellsOf (shown : Shown) : Type 0 where
    pub key : Key
    pub is_key : IsKey key
    pub is_printed : prints key shown.bits ≡ true
    pub number : shown.number ≡ number_at key
    pub small : shown.bits < 2 ^ 64
    pub value : shown.value ≡ bit_and (value_in file key) shown.bits

  -- all of a register
  pub tells_whole : (key : Key) (place : Place) → IsKey key → prints key all_bits ≡ true → value_in file key < 2 ^ 64
      → TellsOf (record { number = number_at key; bits = all_bits; value = value_in file key; place = place })
  tells_whole key place is printed fits = record { key = key; is_key = is; is_printed = printed; number = refl; small = lit< tt; value = sym (whole_part (value_in file key) fits) }

  abbrev pub IsTrueShown : Option Shown → Type 0
  IsTrueShown None = ⊤
  IsTrueShown (Some shown) = TellsOf shown ⊎ (is_register shown.number ≡ false)

  -- It tells of this processor and of this file alone.
  abbrev pub IsTrueSaid : ℕ → LineSays → Type 0
  IsTrueSaid at Nothing = ⊤
  IsTrueSaid at (Announces processor number) = ⊥
  IsTrueSaid at (Value value place) = ⊥
  IsTrueSaid at (Turns turn) = processor_turned_to turn ≡ Some at
  IsTrueSaid at (Shows processor shows) = (unwrap_or processor at ≡ at) × AllByRecursion IsTrueShown shows
  IsTrueSaid at (Begins shows) = ⊥
  IsTrueSaid at (FixedRanges enabled alone place) = ⊥
  IsTrueSaid at (VariableRanges enabled place) = ⊥
  IsTrueSaid at (Width width place) = width ≡ file.width
  IsTrueSaid at (Warns warning number) = ⊤
  IsTrueSaid at (Lists processor shown) = ⊥
  IsTrueSaid at (Bad why place) = ⊥

-- What says no more of a dump is true of it, if the bits that it shows are printed.
pub no_more_true : (format : Format) (file : RegisterFile) (prints : Prints) (said : LineSays) → IsRegisterFile file → ((shown : Shown) (key : Key) → IsSame format file shown → shown.number ≡ number_at key → prints key shown.bits ≡ true)
    → SaysNoMore format file said → IsTrueSaid file prints 0 said
no_more_true format file prints said is printed (no_match same) = rw same tt
no_more_true format file prints said is printed (only_width place same) = rw same refl
no_more_true format file prints said is printed (only_warns warning at same) = rw same tt
no_more_true format file prints said is printed (only_turns same) = rw same refl
no_more_true format file prints said is printed (only_shows processor shows same own others) = rw same (own, all_true shows others)
  where
    one_true : (shown : Option Shown) → IsNoMore format file shown → IsTrueShown file prints shown
    one_true None more = tt
    one_true (Some shown) (inl other) = inr other
    one_true (Some shown) (inr same) =
        let at = key_at file shown.number same.whole is same.has in
        inl (record {
          key = at.key;
          is_key = at.is_key;
          is_printed = printed shown at.key same at.number_is;
          number = at.number_is;
          small = same.small;
          value = same.part ∙ ap (λ v. bit_and v shown.bits) at.value_is;
        })

    all_true : (some : List (Option Shown)) → AllByRecursion (IsNoMore format file) some → AllByRecursion (IsTrueShown file prints) some
    all_true [] all = tt
    all_true (shown ∷ some) all = (one_true shown all.0, all_true some all.1)

-- the register that a line shows is among its facts
shown_among : (processor table : ℕ) (shows : List (Option Shown)) (shown : Shown) → is_register shown.number ≡ true → IsAmong (Some shown) shows
    → IsAmong (is_register_value (record { processor = processor; table = table; number = shown.number; bits = shown.bits; value = shown.value; place = shown.place })) (shows_facts processor table shows)
shown_among processor table [] shown register among = absurd among
shown_among processor table (first ∷ shows) shown register (inl same) =
    join_among_first (shown_facts processor table first) (shows_facts processor table shows) _
    (subst (λ (s : Option Shown). IsAmong (is_register_value (record { processor = processor; table = table; number = shown.number; bits = shown.bits; value = shown.value; place = shown.place })) (shown_facts processor table s)) (sym same) (rw register (inl refl)))
shown_among processor table (first ∷ shows) shown register (inr later) =
    join_among_second (shown_facts processor table first) (shows_facts processor table shows) _ (shown_among processor table shows shown register later)

said_has : (context : Context) (said : LineSays) (key : Key) (bits : ℕ) → IsKey key → ShowsKey key bits said → HasReading key bits (said_facts context said)
said_has context said key bits is shows =
    let register : is_register shows.shown.number ≡ true = rw shows.number (is_register_key key is) in
    record {
      reading = record { processor = named_processor shows.processor context.processor; table = context.table; number = shows.shown.number; bits = shows.shown.bits; value = shows.shown.value; place = shows.shown.place };
      among = rw shows.said_is (shown_among (named_processor shows.processor context.processor) context.table shows.shows shows.shown register shows.among);
      number = shows.number;
      bits = shows.bits;
    }

-- a line keeps the processor that lines are of
still : (file : RegisterFile) (prints : Prints) (at : ℕ) (said : LineSays) (current : Option ℕ) → current ≡ Some at → IsTrueSaid file prints at said → processor_after said current ≡ Some at
still file prints at Nothing current own tells = own
still file prints at (Announces processor number) current own tells = absurd tells
still file prints at (Value value place) current own tells = absurd tells
still file prints at (Turns turn) current own tells = tells
still file prints at (Shows processor shows) current own tells = own
still file prints at (Begins shows) current own tells = absurd tells
still file prints at (FixedRanges enabled alone place) current own tells = absurd tells
still file prints at (VariableRanges enabled place) current own tells = absurd tells
still file prints at (Width width place) current own tells = own
still file prints at (Warns warning number) current own tells = own
still file prints at (Lists processor shown) current own tells = absurd tells
still file prints at (Bad why place) current own tells = absurd tells

-- no processor is named, or this one
own_by : (named : Option ℕ) (at : ℕ) (current : Option ℕ) → unwrap_or named at ≡ at → current ≡ Some at → named_processor named current ≡ at
own_by None at current own now = ap (λ c. named_processor None c) now
own_by (Some processor) at current own now = own

-- ---- the facts of a line, of the files of so many processors

module _ (files : ℕ → RegisterFile) (count : ℕ) (prints : Prints) where
  reading_true : (k processor table : ℕ) (shown : Shown) → k < count → processor ≡ k → TellsOf (files k) prints shown → AllByRecursion (IsSound files count prints) (reading_facts processor table shown)
  reading_true k processor table shown less own tells = by (is_register shown.number)
    where
      by : (test : Bool) → AllByRecursion (IsSound files count prints) (if test
          then is_register_value (record { processor = processor; table = table; number = shown.number; bits = shown.bits; value = shown.value; place = shown.place }) ∷ []
          else [])
      by true = (
        record {
          key = tells.key;
          is_key = tells.is_key;
          is_printed = tells.is_printed;
          number = tells.number;
          processor = subst (λ j. j < count) (sym own) less;
          small = tells.small;
          value = tells.value ∙ ap (λ j. bit_and (value_in (files j) tells.key) shown.bits) (sym own);
        },
        tt,
      )
      by false = tt

  pub shown_true : (k processor table : ℕ) (shown : Option Shown) → k < count → processor ≡ k → IsTrueShown (files k) prints shown → AllByRecursion (IsSound files count prints) (shown_facts processor table shown)
  shown_true k processor table None less own tells = tt
  shown_true k processor table (Some shown) less own (inl tells) = reading_true k processor table shown less own tells
  shown_true k processor table (Some shown) less own (inr other) = rw other tt

  pub shows_true : (k processor table : ℕ) (shows : List (Option Shown)) → k < count → processor ≡ k → AllByRecursion (IsTrueShown (files k) prints) shows → AllByRecursion (IsSound files count prints) (shows_facts processor table shows)
  shows_true k processor table [] less own tells = tt
  shows_true k processor table (shown ∷ shows) less own tells =
      all_join (IsSound files count prints) (shown_facts processor table shown) (shows_facts processor table shows) (shown_true k processor table shown less own tells.0) (shows_true k processor table shows less own tells.1)

  pub said_true : (k : ℕ) (context : Context) (said : LineSays) → k < count → (files k).width ≡ (files 0).width → context.processor ≡ Some k → IsTrueSaid (files k) prints k said → AllByRecursion (IsSound files count prints) (said_facts context said)
  said_true k context Nothing less width own tells = tt
  said_true k context (Announces processor number) less width own tells = absurd tells
  said_true k context (Value value place) less width own tells = absurd tells
  said_true k context (Turns turn) less width own tells = tt
  said_true k context (Shows processor shows) less width own tells = shows_true k (named_processor processor context.processor) context.table shows less (own_by processor k context.processor tells.0 own) tells.1
  said_true k context (Begins shows) less width own tells = absurd tells
  said_true k context (FixedRanges enabled alone place) less width own tells = absurd tells
  said_true k context (VariableRanges enabled place) less width own tells = absurd tells
  said_true k context (Width other place) less width own tells = (tells ∙ width, tt)
  said_true k context (Warns warning number) less width own tells = (tt, tt)
  said_true k context (Lists processor shown) less width own tells = absurd tells
  said_true k context (Bad why place) less width own tells = absurd tells

-- what lines come to, and those behind them
pub facts_split : (front : List (List ℕ)) (context : Context) (number : ℕ) (behind : List (List ℕ))
    → facts_from context number (front ++ behind) ≡ facts_from context number front ++ facts_from (context_after_lines context number front) (number + length front) behind
facts_split [] context number behind = ap (λ n. facts_from context n behind) (omega arith)
facts_split (line ∷ front) context number behind =
    let next : Context = context_behind context number line in
    let shift : number + 1 + length front ≡ number + length (line ∷ front) = omega arith in
    ap (λ (fs : List Fact). facts_of_line context number line ++ fs)
    (facts_split front next (number + 1) behind ∙ ap (λ n. facts_from next (number + 1) front ++ facts_from (context_after_lines next (number + 1) front) n behind) shift)
    ∙ sym (append_assoc (facts_of_line context number line) (facts_from next (number + 1) front) (facts_from (context_after_lines next (number + 1) front) (number + length (line ∷ front)) behind))

-- ---- the facts of lines

module _ (format : Format) where
  -- what a line comes to where the format is known
  pub of_line : (context : Context) (number : ℕ) (line : List ℕ) → context.format ≡ Some format
      → facts_of_line context number line ≡ is_line number (Some format) (is_match (said_of format number line)) ∷ said_facts context (said_of format number line)
  of_line context number line is = rw is refl

  pub next_format : (context : Context) (number : ℕ) (line : List ℕ) → context.format ≡ Some format → (context_behind context number line).format ≡ Some format
  next_format context number line is = rw is refl

  pub lines_format : (lines : List (List ℕ)) (context : Context) (number : ℕ) → context.format ≡ Some format → (context_after_lines context number lines).format ≡ Some format
  lines_format [] context number is = is
  lines_format (line ∷ lines) context number is = lines_format lines (context_behind context number line) (number + 1) (next_format context number line is)

  pub lines_have : (lines : List (List ℕ)) (context : Context) (number : ℕ) (key : Key) (bits : ℕ) (line : List ℕ) → context.format ≡ Some format → IsKey key → IsAmong line lines
      → ((at : ℕ) → ShowsKey key bits (said_of format at line)) → HasReading key bits (facts_from context number lines)
  lines_have [] context number key bits line is is_key among shows = absurd among
  lines_have (first ∷ lines) context number key bits line is is_key (inl same) shows =
      let here : ShowsKey key bits (said_of format number first) = subst (λ l. ShowsKey key bits (said_of format number l)) (sym same) (shows number) in
      let has = said_has context (said_of format number first) key bits is_key here in
      let facts : IsAmong (is_register_value has.reading) (facts_of_line context number first) =
      subst (IsAmong (is_register_value has.reading)) (sym (of_line context number first is)) (inr has.among) in
      record { reading = has.reading; among = join_among_first (facts_of_line context number first) (facts_from (context_behind context number first) (number + 1) lines) _ facts; number = has.number; bits = has.bits }
  lines_have (first ∷ lines) context number key bits line is is_key (inr later) shows =
      let has = lines_have lines (context_behind context number first) (number + 1) key bits line (next_format context number first is) is_key later shows in
      record { reading = has.reading; among = join_among_second (facts_of_line context number first) (facts_from (context_behind context number first) (number + 1) lines) _ has.among; number = has.number; bits = has.bits }

  -- the width that a line shows is among the facts
  pub lines_show_width : (lines : List (List ℕ)) (context : Context) (number : ℕ) (line : List ℕ) (width : ℕ) (place : ℕ → Place) → context.format ≡ Some format → IsAmong line lines
      → ((at : ℕ) → said_of format at line ≡ Width width (place at)) → (at : Place) × IsAmong (is_width width at) (facts_from context number lines)
  lines_show_width [] context number line width place is among shows = absurd among
  lines_show_width (first ∷ lines) context number line width place is (inl same) shows =
      let here : said_of format number first ≡ Width width (place number) = ap (said_of format number) same ∙ shows number in
      let facts : IsAmong (is_width width (place number)) (facts_of_line context number first) =
      subst (IsAmong (is_width width (place number))) (sym (of_line context number first is)) (inr (rw here (inl refl))) in
      (place number, join_among_first (facts_of_line context number first) (facts_from (context_behind context number first) (number + 1) lines) (is_width width (place number)) facts)
  lines_show_width (first ∷ lines) context number line width place is (inr later) shows =
      let has = lines_show_width lines (context_behind context number first) (number + 1) line width place (next_format context number first is) later shows in
      (has.0, join_among_second (facts_of_line context number first) (facts_from (context_behind context number first) (number + 1) lines) (is_width width has.0) has.1)

-- lines that tell of one processor
module _ (files : ℕ → RegisterFile) (count : ℕ) (prints : Prints) (k : ℕ) (less : k < count) (width : (files k).width ≡ (files 0).width) (format : Format) where
  next_processor : (context : Context) (number : ℕ) (line : List ℕ) → context.format ≡ Some format → context.processor ≡ Some k → IsTrueSaid (files k) prints k (said_of format number line) → (context_behind context number line).processor ≡ Some k
  next_processor context number line is own tells = rw is (still (files k) prints k (said_of format number line) context.processor own tells)

  abbrev pub AreTrue : List (List ℕ) → Type 0
  AreTrue lines = (line : List ℕ) → IsAmong line lines → (number : ℕ) → IsTrueSaid (files k) prints k (said_of format number line)

  pub line_true : (line : List ℕ) (context : Context) (number : ℕ) → context.format ≡ Some format → context.processor ≡ Some k → IsTrueSaid (files k) prints k (said_of format number line)
      → AllByRecursion (IsSound files count prints) (facts_of_line context number line)
  line_true line context number is own tells =
      subst (AllByRecursion (IsSound files count prints)) (sym (of_line format context number line is)) (tt, said_true files count prints k context (said_of format number line) less width own tells)

  pub lines_true : (lines : List (List ℕ)) (context : Context) (number : ℕ) → context.format ≡ Some format → context.processor ≡ Some k → AreTrue lines → AllByRecursion (IsSound files count prints) (facts_from context number lines)
  lines_true [] context number is own tells = tt
  lines_true (line ∷ lines) context number is own tells =
      let here = tells line (inl refl) number in
      all_join (IsSound files count prints) (facts_of_line context number line) (facts_from (context_behind context number line) (number + 1) lines) (line_true line context number is own here)
      (lines_true lines (context_behind context number line) (number + 1) (next_format format context number line is) (next_processor context number line is own here) (λ other among. tells other (inr among)))

  -- the processor that lines are of stays
  pub still_of : (lines : List (List ℕ)) (context : Context) (number : ℕ) → context.format ≡ Some format → context.processor ≡ Some k → AreTrue lines → (context_after_lines context number lines).processor ≡ Some k
  still_of [] context number is own tells = own
  still_of (line ∷ lines) context number is own tells =
      still_of lines (context_behind context number line) (number + 1) (next_format format context number line is) (next_processor context number line is own (tells line (inl refl) number)) (λ other among. tells other (inr among))

  own_has : (context : Context) (said : LineSays) (key : Key) (bits : ℕ) → context.processor ≡ Some k → IsTrueSaid (files k) prints k said → IsKey key → ShowsKey key bits said → HasOwn k key bits (said_facts context said)
  own_has context said key bits own tells is shows =
      let register : is_register shows.shown.number ≡ true = rw shows.number (is_register_key key is) in
      let named : unwrap_or shows.processor k ≡ k = (subst (IsTrueSaid (files k) prints k) shows.said_is tells).0 in
      record {
        reading = record { processor = named_processor shows.processor context.processor; table = context.table; number = shows.shown.number; bits = shows.shown.bits; value = shows.shown.value; place = shows.shown.place };
        among = rw shows.said_is (shown_among (named_processor shows.processor context.processor) context.table shows.shows shows.shown register shows.among);
        own = own_by shows.processor k context.processor named own;
        number = shows.number;
        bits = shows.bits;
      }

  -- a register that a line shows is among the facts, of this processor
  pub lines_have_own : (lines : List (List ℕ)) (context : Context) (number : ℕ) (key : Key) (bits : ℕ) (line : List ℕ) → context.format ≡ Some format → context.processor ≡ Some k → AreTrue lines → IsKey key → IsAmong line lines
      → ((at : ℕ) → ShowsKey key bits (said_of format at line)) → HasOwn k key bits (facts_from context number lines)
  lines_have_own [] context number key bits line is own tells is_key among shows = absurd among
  lines_have_own (first ∷ lines) context number key bits line is own tells is_key (inl same) shows =
      let here : ShowsKey key bits (said_of format number first) = subst (λ l. ShowsKey key bits (said_of format number l)) (sym same) (shows number) in
      let has = own_has context (said_of format number first) key bits own (tells first (inl refl) number) is_key here in
      own_first k key bits (facts_of_line context number first) (facts_from (context_behind context number first) (number + 1) lines)
      (subst (HasOwn k key bits) (sym (of_line format context number first is)) (own_later k key bits (is_line number (Some format) (is_match (said_of format number first)) ∷ []) (said_facts context (said_of format number first)) has))
  lines_have_own (first ∷ lines) context number key bits line is own tells is_key (inr later) shows =
      own_later k key bits (facts_of_line context number first) (facts_from (context_behind context number first) (number + 1) lines)
      (lines_have_own lines (context_behind context number first) (number + 1) key bits line (next_format format context number first is) (next_processor context number first is own (tells first (inl refl) number))
      (λ other at. tells other (inr at)) is_key later shows)
