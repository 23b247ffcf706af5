-- Each command that a line is read as fits the situation.
use Rattle.std.proofs.Common.{◌≡◌, ℕ, ◌≤◌, ◌<◌, ◌%◌, ◌^◌, ◌==◌, ◌&&◌, nat_le, nat_eq, nat_lt, Bool, true, false, List, length, Option, Some, None, Result, Ok, Err, refl, subst, sym, ap, ◌∙◌}
use Rattle.std.specs.Prelude.{if◌then◌else◌, IfSome}
use Rattle.std.specs.Option.{option_map_or}
use Rattle.std.specs.Set.{is_member}
use Rattle.std.specs.Result.{IfOk}
use Rattle.std.proofs.lemmas.Bool.{and_parts, leb-true, ltb-true, eqb-true}
use Rattle.mt_text.specs.Number.{hex_number, decimal_number}
use Rattle.mt_text.specs.Text.{is_too_long, without_ending, words_of}
use Rattle.mt_text.specs.declared.fault.NumberFault.{NumberFault}
use Rattle.mt_text.specs.declared.fault.NumberFault.TheVariants.{NotDigit, TooLarge}
use Rattle.mt_text.specs.declared.place.Place.{Place}
use Rattle.mt_script.specs.Situation.{Situation, file_of, most_processors}
use Rattle.mt_script.specs.Words.{text_of, place_of}
use Rattle.mt_script.specs.Numbers.{fault_at, tested, limited, with, any, count_in, processor_in, value_in, aligned_in, register_in, base_in, has_room, is_register, is_writable, address_limit}
use Rattle.mt_script.specs.Rows.{row_of}
use Rattle.mt_script.specs.Stages.{stands, takes_cpus, takes_windows, takes_commands, takes_registers, takes_end, is_in_dump}
use Rattle.mt_script.specs.Shape.{shape_fault}
use Rattle.mt_script.specs.Commands.{ReadCommand, ask_in, verb_answer, row_line, outside, register_line, is_end, in_section, ends_dump, not_too_long, in_stage, command_of}
use Rattle.mt_script.specs.Accept.{Fits, FitsAsk, IsAligned}
use Rattle.mt_dump.proofs.OneLine.{decimal_within}
use Rattle.mt_script.proofs.Table.{row_all}
use Rattle.mt_script.proofs.Values.{value_fact}
use Rattle.mt_script.specs.declared.command.Stage.{Stage}
use Rattle.mt_script.specs.declared.command.Stage.TheVariants.{NeedCpus, NeedDump, InDump, Rams, Commands, InUpdate, InBegin}
use Rattle.mt_script.specs.declared.command.Command.{Command}
use Rattle.mt_script.specs.declared.command.Command.TheVariants as command
use Rattle.mt_script.specs.declared.command.Ask.{Ask}
use Rattle.mt_script.specs.declared.command.Section.TheVariants.{End}
use Rattle.mt_script.specs.declared.row.Row.{Row}
use Rattle.mt_script.specs.declared.row.Verb.TheVariants as verb
use Rattle.mt_script.specs.declared.row.AskVerb.{AskVerb}
use Rattle.mt_script.specs.declared.row.AskVerb.TheVariants as ask_verb
use Rattle.mt_script.specs.declared.fault.ScriptReason.{ScriptReason}
use Rattle.mt_script.specs.declared.fault.ScriptReason.TheVariants.{OutOfRange, NotNow}
use Rattle.mt_script.specs.declared.fault.ScriptFault.{ScriptFault}

-- what holds after each good value holds of the answer
pub fits_with : {A B : Type 0} (P : B → Type 0) (value : Result A ScriptFault) (next : A → Result B ScriptFault) → ((a : A) → value ≡ Ok a → IfOk (next a) P) → IfOk (with value next) P
fits_with P (Err fault) next all = tt
fits_with P (Ok n) next all = all n refl

pub fits_unless : (P : Command → Type 0) (fault : Option ScriptFault) (answer : ReadCommand) → IfOk answer P → IfOk (option_map_or (λ fault. Err fault) fault answer) P
fits_unless P (Some fault) answer fits = tt
fits_unless P None answer fits = fits

pub fits_if : (P : Command → Type 0) (test : Bool) (yes_answer no_answer : ReadCommand) → (test ≡ true → IfOk yes_answer P) → (test ≡ false → IfOk no_answer P) → IfOk (if test then yes_answer else no_answer) P
fits_if P true yes_answer no_answer good bad = good refl
fits_if P false yes_answer no_answer good bad = bad refl

-- a number that a test lets through was read, and passes it
tested_fact : (number : Result ℕ ScriptFault) (reason : ScriptReason) (place : Place) (test : ℕ → Bool) (n : ℕ) → with number (tested reason place test) ≡ Ok n → (number ≡ Ok n) × (test n ≡ true)
tested_fact (Err fault) reason place test n is = absurd (cc is)
tested_fact (Ok m) reason place test n is = let (same, good) = by (test m) refl is in (ap Ok same, good)
  where
    by : (good : Bool) → test m ≡ good → (if good then Ok m else Err (fault_at reason place)) ≡ Ok n → (m ≡ n) × (test n ≡ true)
    by true good is = let same : m ≡ n = cc is in (same, ap test (sym same) ∙ good)
    by false good is = absurd (cc is)

limited_fact : (place : Place) (reading : Result ℕ NumberFault) (n : ℕ) → limited place reading ≡ Ok n → reading ≡ Ok n
limited_fact place (Err NotDigit) n is = absurd (cc is)
limited_fact place (Err TooLarge) n is = absurd (cc is)
limited_fact place (Ok m) n is = let same : m ≡ n = cc is in ap Ok same

aligned_fact : (line : ℕ) (words : List (ℕ × List ℕ)) (i step limit n : ℕ) → aligned_in line words i step limit ≡ Ok n → IsAligned step limit n
aligned_fact line words i step limit n is =
    let both = and_parts (n % step == 0) (nat_lt n limit) (tested_fact (value_in line words i) OutOfRange (place_of line words i) (λ address. address % step == 0 && nat_lt address limit) n is).1 in
    (eqb-true (n % step) 0 both.0, ltb-true n limit both.1)

pub count_fact : (line : ℕ) (words : List (ℕ × List ℕ)) (i first last n : ℕ) → count_in line words i first last ≡ Ok n → (first ≤ n) × (n ≤ last)
count_fact line words i first last n is =
    let place = place_of line words i in
    let parts = tested_fact (limited place (decimal_number (text_of words i) last)) OutOfRange place (nat_le first) n is in
    (leb-true first n parts.1, decimal_within (text_of words i) last n (limited_fact place (decimal_number (text_of words i) last) n parts.0))

module _ (now : Situation) (line : ℕ) (words : List (ℕ × List ℕ)) where
  for_processor : (next : ℕ → ReadCommand) → ((k : ℕ) → k < most_processors now → IfOk (next k) (Fits now)) → IfOk (with (processor_in now line words 1) next) (Fits now)
  for_processor next all = fits_with (Fits now) (processor_in now line words 1) next
      (λ k is. all k (ltb-true k (most_processors now)
      (tested_fact (limited (place_of line words 1) (decimal_number (text_of words 1) 0xffffffffffffffff)) OutOfRange (place_of line words 1) (λ k. nat_lt k (most_processors now)) k is).1))

  for_aligned : {B : Type 0} (P : B → Type 0) (i step limit : ℕ) (next : ℕ → Result B ScriptFault) → ((n : ℕ) → IsAligned step limit n → IfOk (next n) P) → IfOk (with (aligned_in line words i step limit) next) P
  for_aligned P i step limit next all = fits_with P (aligned_in line words i step limit) next
      (λ n is. all n (aligned_fact line words i step limit n is))

  for_count : {B : Type 0} (P : B → Type 0) (i first last : ℕ) (next : ℕ → Result B ScriptFault) → ((n : ℕ) → (first ≤ n) × (n ≤ last) → IfOk (next n) P) → IfOk (with (count_in line words i first last) next) P
  for_count P i first last next all = fits_with P (count_in line words i first last) next
      (λ n is. all n (count_fact line words i first last n is))

  cpus_fits : takes_cpus now.stage ≡ true → IfOk (verb_answer now line words verb.Cpus) (Fits now)
  cpus_fits stage = for_count (Fits now) 1 1 16 (λ n. Ok (command.Cpus n)) (λ n range. (stage, range.0, range.1))

  ram_fits : takes_windows now.stage ≡ true → IfOk (verb_answer now line words verb.Ram) (Fits now)
  ram_fits stage = fits_with (Fits now) (base_in line words 1) _ (λ base is_base.
      for_count (Fits now) 2 1 4096 _ (λ lines range.
      fits_if (Fits now) (has_room now base lines) (Ok (command.Ram base lines)) (Err (fault_at OutOfRange (place_of line words 2)))
      (λ room. (stage, eqb-true (base % 64) 0 (tested_fact (value_in line words 1) OutOfRange (place_of line words 1) (λ base. base % 64 == 0) base is_base).1, range.0, range.1, room))
      (λ miss. tt)))

  ask_fits : (asked : AskVerb) → IfOk (ask_in now line words asked) (FitsAsk now)
  ask_fits ask_verb.Load = for_aligned (FitsAsk now) 2 8 (2 ^ 48) _ (λ address good. good)
  ask_fits ask_verb.Store = for_aligned (FitsAsk now) 2 8 (2 ^ 48) _ (λ address good.
      fits_with (FitsAsk now) (value_in line words 3) _ (λ value is. (good, value_fact line words 3 value is)))
  ask_fits ask_verb.Fence = tt
  ask_fits ask_verb.Map = for_aligned (FitsAsk now) 2 4096 (2 ^ 48) _ (λ address good.
      for_aligned (FitsAsk now) 3 4096 (address_limit (file_of now)) _ (λ physical fine.
      for_count (FitsAsk now) 4 0 7 _ (λ index range. (good, fine, range.1))))
  ask_fits ask_verb.Invlpg = for_aligned (FitsAsk now) 2 1 (2 ^ 48) _ (λ address good. good)
  ask_fits ask_verb.Cr3 = tt
  ask_fits ask_verb.Pge = tt
  ask_fits ask_verb.Cd = tt
  ask_fits ask_verb.Step = tt
  ask_fits ask_verb.Msr = fits_with (FitsAsk now) (register_in now line words 2) _ (λ msr is.
      (tested_fact (value_in line words 2) ScriptReason.UnknownRegister (place_of line words 2) (is_register (file_of now)) msr is).1)

  asked_fits : (asked : AskVerb) → takes_commands now.stage ≡ true → IfOk (verb_answer now line words (verb.Ask asked)) (Fits now)
  asked_fits asked stage = for_processor _ (λ k known. fits_with (Fits now) (ask_in now line words asked) (λ a. Ok (command.Ask k a)) (λ a is. ((stage, known), fit a is)))
    where
      fit : (a : Ask) → ask_in now line words asked ≡ Ok a → FitsAsk now a
      fit a is = subst (λ answer. IfOk answer (FitsAsk now)) is (ask_fits asked)

  word_fits : takes_commands now.stage ≡ true → IfOk (verb_answer now line words verb.Word) (Fits now)
  word_fits stage = for_aligned (Fits now) 1 8 (address_limit (file_of now)) _ (λ address good. (stage, good))

  -- a row leads to commands that fit in its stages
  abbrev pub RowFits : Row → Type 0
  RowFits row = stands row.turn now.stage ≡ true → IfOk (verb_answer now line words row.verb) (Fits now)

  rows_fit : (word : List ℕ) → IfSome (row_of word) RowFits
  rows_fit = row_all RowFits (cpus_fits, (λ stage. stage, (ram_fits, (selfsnoop, (asked_fits ask_verb.Load, (asked_fits ask_verb.Store, (asked_fits ask_verb.Fence, (asked_fits ask_verb.Map, (asked_fits ask_verb.Invlpg, (asked_fits ask_verb.Cr3, (asked_fits ask_verb.Pge, (asked_fits ask_verb.Cd, (bare, (bare, (bare, (bare, (bare, (asked_fits ask_verb.Step, (bare, (bare, (bare, (word_fits, (asked_fits ask_verb.Msr, tt)))))))))))))))))))))))
    where
      bare : takes_commands now.stage ≡ true → takes_commands now.stage ≡ true
      bare stage = stage

      selfsnoop : takes_windows now.stage ≡ true → IfOk (with (processor_in now line words 1) (λ k. Ok (command.Selfsnoop k))) (Fits now)
      selfsnoop stage = for_processor _ (λ k known. (stage, known))

  row_line_fits : (row : Option Row) → IfSome row RowFits → IfOk (row_line now line words row) (Fits now)
  row_line_fits None fits = tt
  row_line_fits (Some row) fits = fits_unless (Fits now) (shape_fault line words row) _
      (fits_if (Fits now) (stands row.turn now.stage) (verb_answer now line words row.verb) (Err (fault_at NotNow (place_of line words 0))) fits (λ miss. tt))

  outside_fits : is_in_dump now.stage ≡ false → IfOk (outside now line words) (Fits now)
  outside_fits apart = fits_if (Fits now) (length words == 0) (Ok command.Blank) (row_line now line words (row_of (text_of words 0))) (λ blank. apart) (λ some. row_line_fits (row_of (text_of words 0)) (rows_fit (text_of words 0)))

  register_fits : takes_registers now.stage ≡ true → IfOk (register_line now line words) (Fits now)
  register_fits stage = fits_with (Fits now) (any (place_of line words 0) (hex_number (without_ending 58 (text_of words 0)))) _ (λ number is_number.
      fits_with (Fits now) (value_in line words 1) _ (λ value is_value.
      fits_if (Fits now) (is_writable (file_of now) number) _ _
      (λ known. fits_if (Fits now) (is_member nat_eq now.seen number) _ _ (λ again. tt) (λ new. (stage, known, new)))
      (λ unknown. tt)))

  section_fits : is_in_dump now.stage ≡ false → takes_registers now.stage ≡ true → takes_end now.stage ≡ true → IfOk (in_section now line words) (Fits now)
  section_fits apart stage ends =
      fits_if (Fits now) (length words == 0) _ _ (λ blank. apart) (λ some_words.
      fits_if (Fits now) (is_end words) _ _ (λ end. ends) (λ not_end.
      fits_if (Fits now) (length words == 1) _ _ (λ short. tt) (λ longer.
      fits_if (Fits now) (nat_lt 2 (length words)) _ _ (λ long. tt) (λ two. register_fits stage))))

module _ (now : Situation) (line : ℕ) (bytes : List ℕ) where
  dump_fits : is_in_dump now.stage ≡ true → takes_end now.stage ≡ true → (last : Bool) → Fits now (if last then command.Section End else command.DumpLine)
  dump_fits stage ends true = ends
  dump_fits stage ends false = stage

  short_fits : (answer : ReadCommand) → IfOk answer (Fits now) → IfOk (not_too_long line bytes answer) (Fits now)
  short_fits answer fits = fits_if (Fits now) (is_too_long bytes) _ _ (λ long. tt) (λ short. fits)

  pub command_fits : IfOk (command_of now line bytes) (Fits now)
  command_fits = by now.stage refl
    where
      plain : is_in_dump now.stage ≡ false → IfOk (not_too_long line bytes (outside now line (words_of bytes))) (Fits now)
      plain apart = short_fits _ (outside_fits now line (words_of bytes) apart)

      section : is_in_dump now.stage ≡ false → takes_registers now.stage ≡ true → takes_end now.stage ≡ true → IfOk (not_too_long line bytes (in_section now line (words_of bytes))) (Fits now)
      section apart stage ends = short_fits _ (section_fits now line (words_of bytes) apart stage ends)

      by : (stage : Stage) → now.stage ≡ stage → IfOk (in_stage now line bytes stage) (Fits now)
      by NeedCpus is = plain (rw is refl)
      by NeedDump is = plain (rw is refl)
      by InDump is = dump_fits (rw is refl) (rw is refl) (ends_dump bytes)
      by Rams is = plain (rw is refl)
      by Commands is = plain (rw is refl)
      by InUpdate is = section (rw is refl) (rw is refl) (rw is refl)
      by InBegin is = section (rw is refl) (rw is refl) (rw is refl)
