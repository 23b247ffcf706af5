-- Each fault of a line stands at a word that the line has, or past the limit of a line.
use Rattle.std.proofs.Common.{◌≡◌, ℕ, ◌≤◌, ◌<◌, ◌-◌, ◌%◌, ◌^◌, ◌==◌, ◌&&◌, not, nat_eq, nat_lt, nat_le, Bool, true, false, List, length, Option, Some, None, Result, Ok, Err, refl, subst, [], ◌∷◌, zero, suc, arith, inl, inr}
use Rattle.std.specs.Prelude.{if◌then◌else◌, IfSome, ⊤}
use Rattle.std.specs.Set.{is_member}
use Rattle.std.specs.Result.{IfErr}
use Rattle.std.specs.List.{slice_get}
use Rattle.std.specs.Option.{option_map_or}
use Rattle.std.proofs.lemmas.Bool.{eqb-true, ltb-true}
use Rattle.std.proofs.lemmas.Bool.Decides.{nat_tests}
use Rattle.mt_text.specs.Number.{hex_number, decimal_number}
use Rattle.mt_text.specs.Text.{is_too_long, without_ending, words_of}
use Rattle.mt_text.specs.declared.fault.NumberFault.{NumberFault}
use Rattle.mt_text.specs.declared.fault.NumberFault.TheVariants.{NotDigit, TooLarge}
use Rattle.mt_text.specs.declared.place.Place.{Place}
use Rattle.mt_script.specs.Situation.{Situation, file_of, most_processors}
use Rattle.mt_script.specs.Words.{word_of, text_of, place_of}
use Rattle.mt_script.specs.Numbers.{fault_at, tested, limited, with, any, count_in, processor_in, value_in, aligned_in, register_in, base_in, has_room, is_register, is_writable, address_limit}
use Rattle.mt_script.specs.Rows.{row_of, fits}
use Rattle.mt_script.specs.Shape.{bad_line, shape_fault}
use Rattle.mt_script.specs.Stages.{stands}
use Rattle.mt_text_laws.specs.Places.{StandsIn}
use Rattle.mt_script.specs.Commands.{ReadCommand, ask_in, verb_answer, row_line, outside, is_end, in_section, not_too_long, in_stage, command_of}
use Rattle.mt_script.specs.declared.command.Stage.{Stage}
use Rattle.mt_script.specs.declared.command.Stage.TheVariants.{NeedCpus, NeedDump, InDump, Rams, Commands, InUpdate, InBegin}
use Rattle.mt_script.specs.declared.row.Row.{Row}
use Rattle.mt_script.specs.declared.row.Verb.TheVariants as verb
use Rattle.mt_script.specs.declared.row.AskVerb.{AskVerb}
use Rattle.mt_script.specs.declared.row.AskVerb.TheVariants as ask_verb
use Rattle.mt_script.specs.declared.command.Command.TheVariants as command
use Rattle.mt_script.proofs.Table.{row_all}
use Rattle.mt_script.specs.declared.fault.ScriptReason.{ScriptReason}
use Rattle.mt_script.specs.declared.fault.ScriptReason.TheVariants.{BadLine, OutOfRange, UnknownRegister, NotNow, Repeated}
use Rattle.mt_script.specs.declared.fault.ScriptFault.{ScriptFault}

fails_with : {A B : Type 0} (P : ScriptFault → Type 0) (value : Result A ScriptFault) (next : A → Result B ScriptFault) → IfErr value P → ((a : A) → IfErr (next a) P) → IfErr (with value next) P
fails_with P (Err fault) next here later = here
fails_with P (Ok n) next here later = later n

fails_if : (P : ScriptFault → Type 0) (test : Bool) (yes_answer no_answer : ReadCommand) → (test ≡ true → IfErr yes_answer P) → (test ≡ false → IfErr no_answer P) → IfErr (if test then yes_answer else no_answer) P
fails_if P true yes_answer no_answer good bad = good refl
fails_if P false yes_answer no_answer good bad = bad refl

word_found : (words : List (ℕ × List ℕ)) (i : ℕ) → i < length words → slice_get words i ≡ Some (word_of words i)
word_found [] i within = absurd (omega arith)
word_found (word ∷ words) zero within = refl
word_found (word ∷ words) (suc i) within = word_found words i (omega arith)

-- each test of a number fails at the number's place
abbrev IsAt : Place → ScriptFault → Type 0
IsAt place fault = fault.place ≡ place

tested_at : (number : Result ℕ ScriptFault) (reason : ScriptReason) (place : Place) (test : ℕ → Bool) → IfErr number (IsAt place) → IfErr (with number (tested reason place test)) (IsAt place)
tested_at (Err fault) reason place test at = at
tested_at (Ok n) reason place test at = by (test n)
  where
    by : (good : Bool) → IfErr (if good then Ok n else Err (fault_at reason place)) (IsAt place)
    by true = tt
    by false = refl

limited_at : (place : Place) (reading : Result ℕ NumberFault) → IfErr (limited place reading) (IsAt place)
limited_at place (Err NotDigit) = refl
limited_at place (Err TooLarge) = refl
limited_at place (Ok n) = tt

any_at : (place : Place) (reading : Result ℕ NumberFault) → IfErr (any place reading) (IsAt place)
any_at place (Err fault) = refl
any_at place (Ok n) = tt

module _ (line : ℕ) (words : List (ℕ × List ℕ)) where
  -- the fault stands at one of the words
  abbrev pub AtWord : ScriptFault → Type 0
  AtWord fault = (i : ℕ) × (i < length words) × (fault.place ≡ place_of line words i)

  number_at : (i : ℕ) (number : Result ℕ ScriptFault) → i < length words → IfErr number (IsAt (place_of line words i)) → IfErr number AtWord
  number_at i (Err fault) within is = (i, within, is)
  number_at i (Ok n) within is = tt

  word_at : (i : ℕ) (reason : ScriptReason) → i < length words → AtWord (fault_at reason (place_of line words i))
  word_at i reason within = (i, within, refl)

  count_fails : (i first last : ℕ) → i < length words → IfErr (count_in line words i first last) AtWord
  count_fails i first last within =
      let place = place_of line words i in
      let reading = decimal_number (text_of words i) last in
      number_at i (count_in line words i first last) within (tested_at (limited place reading) OutOfRange place (nat_le first) (limited_at place reading))

  processor_fails : (now : Situation) → 1 < length words → IfErr (processor_in now line words 1) AtWord
  processor_fails now within =
      let place = place_of line words 1 in
      let reading = decimal_number (text_of words 1) 0xffffffffffffffff in
      number_at 1 (processor_in now line words 1) within (tested_at (limited place reading) OutOfRange place (λ k. nat_lt k (most_processors now)) (limited_at place reading))

  value_fails : (i : ℕ) → i < length words → IfErr (value_in line words i) AtWord
  value_fails i within = number_at i (value_in line words i) within (any_at (place_of line words i) (hex_number (text_of words i)))

  aligned_fails : (i step limit : ℕ) → i < length words → IfErr (aligned_in line words i step limit) AtWord
  aligned_fails i step limit within =
      number_at i (aligned_in line words i step limit) within
      (tested_at (value_in line words i) OutOfRange (place_of line words i) (λ address. address % step == 0 && nat_lt address limit) (any_at (place_of line words i) (hex_number (text_of words i))))

  base_fails : 1 < length words → IfErr (base_in line words 1) AtWord
  base_fails within =
      number_at 1 (base_in line words 1) within (tested_at (value_in line words 1) OutOfRange (place_of line words 1) (λ base. base % 64 == 0) (any_at (place_of line words 1) (hex_number (text_of words 1))))

  register_fails : (now : Situation) → 2 < length words → IfErr (register_in now line words 2) AtWord
  register_fails now within =
      number_at 2 (register_in now line words 2) within (tested_at (value_in line words 2) UnknownRegister (place_of line words 2) (is_register (file_of now)) (any_at (place_of line words 2) (hex_number (text_of words 2))))

  cpus_fails : (now : Situation) → 2 ≤ length words → IfErr (verb_answer now line words verb.Cpus) AtWord
  cpus_fails now has = fails_with AtWord (count_in line words 1 1 16) _ (count_fails 1 1 16 (omega arith)) (λ n. tt)

  ram_fails : (now : Situation) → 3 ≤ length words → IfErr (verb_answer now line words verb.Ram) AtWord
  ram_fails now has =
      fails_with AtWord (base_in line words 1) _ (base_fails (omega arith)) (λ base.
      fails_with AtWord (count_in line words 2 1 4096) _ (count_fails 2 1 4096 (omega arith)) (λ lines.
      fails_if AtWord (has_room now base lines) _ _ (λ room. tt) (λ miss. word_at 2 OutOfRange (omega arith))))

  selfsnoop_fails : (now : Situation) → 2 ≤ length words → IfErr (verb_answer now line words verb.Selfsnoop) AtWord
  selfsnoop_fails now has = fails_with AtWord (processor_in now line words 1) _ (processor_fails now (omega arith)) (λ k. tt)

  word_fails : (now : Situation) → 2 ≤ length words → IfErr (verb_answer now line words verb.Word) AtWord
  word_fails now has = fails_with AtWord (aligned_in line words 1 8 (address_limit (file_of now))) _ (aligned_fails 1 8 (address_limit (file_of now)) (omega arith)) (λ address. tt)

  -- what is asked of a processor
  asked_fails : (now : Situation) (asked : AskVerb) → 2 ≤ length words → IfErr (ask_in now line words asked) AtWord → IfErr (verb_answer now line words (verb.Ask asked)) AtWord
  asked_fails now asked has fails = fails_with AtWord (processor_in now line words 1) _ (processor_fails now (omega arith)) (λ k. fails_with AtWord (ask_in now line words asked) (λ a. Ok (command.Ask k a)) fails (λ a. tt))

  load_fails : (now : Situation) → 3 ≤ length words → IfErr (ask_in now line words ask_verb.Load) AtWord
  load_fails now has = fails_with AtWord (aligned_in line words 2 8 (2 ^ 48)) _ (aligned_fails 2 8 (2 ^ 48) (omega arith)) (λ address. tt)

  store_fails : (now : Situation) → 4 ≤ length words → IfErr (ask_in now line words ask_verb.Store) AtWord
  store_fails now has =
      fails_with AtWord (aligned_in line words 2 8 (2 ^ 48)) _ (aligned_fails 2 8 (2 ^ 48) (omega arith)) (λ address.
      fails_with AtWord (value_in line words 3) _ (value_fails 3 (omega arith)) (λ value. tt))

  map_fails : (now : Situation) → 5 ≤ length words → IfErr (ask_in now line words ask_verb.Map) AtWord
  map_fails now has =
      fails_with AtWord (aligned_in line words 2 4096 (2 ^ 48)) _ (aligned_fails 2 4096 (2 ^ 48) (omega arith)) (λ address.
      fails_with AtWord (aligned_in line words 3 4096 (address_limit (file_of now))) _ (aligned_fails 3 4096 (address_limit (file_of now)) (omega arith)) (λ physical.
      fails_with AtWord (count_in line words 4 0 7) _ (count_fails 4 0 7 (omega arith)) (λ index. tt)))

  invlpg_fails : (now : Situation) → 3 ≤ length words → IfErr (ask_in now line words ask_verb.Invlpg) AtWord
  invlpg_fails now has = fails_with AtWord (aligned_in line words 2 1 (2 ^ 48)) _ (aligned_fails 2 1 (2 ^ 48) (omega arith)) (λ address. tt)

  msr_fails : (now : Situation) → 3 ≤ length words → IfErr (ask_in now line words ask_verb.Msr) AtWord
  msr_fails now has = fails_with AtWord (register_in now line words 2) _ (register_fails now (omega arith)) (λ msr. tt)

  -- the numbers of a row's line fail at its words, where it has as many as it must
  abbrev pub RowFails : Situation → Row → Type 0
  RowFails now row = row.least ≤ length words → IfErr (verb_answer now line words row.verb) AtWord

  rows_fail : (now : Situation) (word : List ℕ) → IfSome (row_of word) (RowFails now)
  rows_fail now = row_all (RowFails now) (cpus_fails now, (bare, (ram_fails now, (selfsnoop_fails now, ((λ has. asked_fails now ask_verb.Load (omega arith) (load_fails now has)), ((λ has. asked_fails now ask_verb.Store (omega arith) (store_fails now has)), ((λ has. asked_fails now ask_verb.Fence has tt), ((λ has. asked_fails now ask_verb.Map (omega arith) (map_fails now has)), ((λ has. asked_fails now ask_verb.Invlpg (omega arith) (invlpg_fails now has)), ((λ has. asked_fails now ask_verb.Cr3 has tt), ((λ has. asked_fails now ask_verb.Pge (omega arith) tt), ((λ has. asked_fails now ask_verb.Cd (omega arith) tt), (bare, (bare, (bare, (bare, (bare, ((λ has. asked_fails now ask_verb.Step has tt), (bare, (bare, (bare, (word_fails now, ((λ has. asked_fails now ask_verb.Msr (omega arith) (msr_fails now has)), tt)))))))))))))))))))))))
    where
      bare : 1 ≤ length words → ⊤
      bare has = tt

  -- the words of a row, and then what follows
  shape_fails : (row : Row) (answer : ReadCommand) → 1 ≤ length words → (row.least ≤ length words → IfErr answer AtWord) → IfErr (option_map_or (λ fault. Err fault) (shape_fault line words row) answer) AtWord
  shape_fails row answer has later = by (nat_lt (length words) row.least) (nat_lt row.most (length words)) (length words == row.most) (fits row.last (text_of words (row.most - 1))) refl refl refl
    where
      by : (few many full fit : Bool) → nat_lt (length words) row.least ≡ few → nat_lt row.most (length words) ≡ many → (length words == row.most) ≡ full
          → IfErr (option_map_or (λ fault. Err fault) (if few then bad_line line words (length words - 1) else if many then bad_line line words row.most else if full && not fit then bad_line line words (row.most - 1) else None) answer) AtWord
      by true many full fit few_is many_is full_is = word_at (length words - 1) BadLine (omega arith)
      by false true full fit few_is many_is full_is = word_at row.most BadLine (ltb-true row.most (length words) many_is)
      by false false true false few_is many_is full_is = word_at (row.most - 1) BadLine (let all = eqb-true (length words) row.most full_is in omega arith)
      by false false true true few_is many_is full_is = later (grind (arith, nat_tests, few_is))
      by false false false fit few_is many_is full_is = later (grind (arith, nat_tests, few_is))

  outside_fails : (now : Situation) → IfErr (outside now line words) AtWord
  outside_fails now = fails_if AtWord (length words == 0) _ _ (λ blank. tt) (λ some. by (row_of (text_of words 0)) (rows_fail now (text_of words 0)) (grind (arith, nat_tests, some)))
    where
      by : (row : Option Row) → IfSome row (RowFails now) → 1 ≤ length words → IfErr (row_line now line words row) AtWord
      by None fails has = word_at 0 BadLine (omega arith)
      by (Some row) fails has = shape_fails row _ has (λ enough. fails_if AtWord (stands row.turn now.stage) _ _ (λ good. fails enough) (λ miss. word_at 0 NotNow (omega arith)))

  section_fails : (now : Situation) → IfErr (in_section now line words) AtWord
  section_fails now =
      fails_if AtWord (length words == 0) _ _ (λ blank. tt) (λ some.
      fails_if AtWord (is_end words) _ _ (λ end. tt) (λ not_end.
      fails_if AtWord (length words == 1) _ _ (λ short. word_at 0 BadLine (grind (arith, nat_tests, short))) (λ longer.
      fails_if AtWord (nat_lt 2 (length words)) _ _ (λ long. word_at 2 BadLine (ltb-true 2 (length words) long)) (λ two.
      fails_with AtWord _ _ (number_at 0 _ (grind (arith, nat_tests, some)) (any_at (place_of line words 0) (hex_number (without_ending 58 (text_of words 0))))) (λ number.
      fails_with AtWord _ _ (value_fails 1 (grind (arith, nat_tests, some, longer))) (λ value.
      fails_if AtWord (is_writable (file_of now) number) _ _
      (λ known. fails_if AtWord (is_member nat_eq now.seen number) _ _ (λ again. word_at 0 Repeated (grind (arith, nat_tests, some))) (λ new. tt))
      (λ unknown. word_at 0 UnknownRegister (grind (arith, nat_tests, some)))))))))

module _ (now : Situation) (number : ℕ) (line : List ℕ) where
  abbrev Stands : ScriptFault → Type 0
  Stands fault = StandsIn number line fault.place

  -- a word by its number
  word_stands : (answer : ReadCommand) → IfErr answer (AtWord number (words_of line)) → IfErr answer Stands
  word_stands (Ok c) at = tt
  word_stands (Err fault) at = inl (word_of (words_of line) at.0, (at.0, word_found (words_of line) at.0 at.1), at.2)

  short_stands : (answer : ReadCommand) → IfErr answer (AtWord number (words_of line)) → IfErr (not_too_long number line answer) Stands
  short_stands answer at = fails_if Stands (is_too_long line) _ _ (λ long. inr (ltb-true 4096 (length line) long, refl)) (λ short. word_stands answer at)

  stage_stands : (stage : Stage) → IfErr (in_stage now number line stage) Stands
  stage_stands NeedCpus = short_stands _ (outside_fails number (words_of line) now)
  stage_stands NeedDump = short_stands _ (outside_fails number (words_of line) now)
  stage_stands InDump = tt
  stage_stands Rams = short_stands _ (outside_fails number (words_of line) now)
  stage_stands Commands = short_stands _ (outside_fails number (words_of line) now)
  stage_stands InUpdate = short_stands _ (section_fails number (words_of line) now)
  stage_stands InBegin = short_stands _ (section_fails number (words_of line) now)

  pub fault_stands : (fault : ScriptFault) → command_of now number line ≡ Err fault → StandsIn number line fault.place
  fault_stands fault is = subst (λ answer. IfErr answer Stands) is (stage_stands now.stage)
