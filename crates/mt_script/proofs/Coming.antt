-- A line that is read as a newcomer begins with its word.
use Rattle.std.proofs.Common.{◌≡◌, refl, nat_eq, subst, ℕ, ◌==◌, ◌||◌, nat_lt, Bool, true, false, List, length, Option, None, Some, Result, Ok, Err}
use Rattle.std.specs.Prelude.{IfSome, ⊤, codes, if◌then◌else◌}
use Rattle.std.specs.Result.{IfOk}
use Rattle.std.specs.Set.{is_member}
use Rattle.mt_text.specs.Text.{is_too_long, without_ending, words_of}
use Rattle.mt_text.specs.Number.{hex_number}
use Rattle.mt_script.specs.Situation.{Situation, file_of}
use Rattle.mt_script.specs.Words.{text_of, place_of}
use Rattle.mt_script.specs.Numbers.{any, base_in, count_in, fault_at, has_room, is_writable, physical_in, processor_in, value_in, with}
use Rattle.mt_script.specs.Newcomers.{brings_up}
use Rattle.mt_dump.specs.Line.{is_word}
use Rattle.mt_script.specs.Rows.{row_of}
use Rattle.mt_script.specs.Shape.{shape_fault}
use Rattle.mt_script.specs.Stages.{stands}
use Rattle.mt_script.specs.Commands.{ReadCommand, ask_in, command_of, ends_dump, in_section, in_stage, is_end, not_too_long, outside, row_line, verb_answer}
use Rattle.mt_script.specs.declared.command.Stage.{Stage}
use Rattle.mt_script.specs.declared.command.Stage.TheVariants.{NeedCpus, NeedDump, InDump, Rams, Commands, InUpdate, InBegin}
use Rattle.mt_script.specs.declared.command.Command.{Command}
use Rattle.mt_script.specs.declared.command.Command.TheVariants as command
use Rattle.mt_script.specs.declared.command.Newcomer.{Newcomer}
use Rattle.mt_script.specs.declared.command.Section.TheVariants.{End}
use Rattle.mt_script.specs.declared.fault.ScriptFault.{ScriptFault}
use Rattle.mt_script.specs.declared.fault.ScriptReason.TheVariants.{OutOfRange, NotNow}
use Rattle.mt_script.specs.declared.row.Row.{Row}
use Rattle.mt_script.specs.declared.row.Verb.TheVariants as verb
use Rattle.mt_script.specs.declared.row.AskVerb.{AskVerb}
use Rattle.mt_script.specs.declared.row.AskVerb.TheVariants as ask_verb
use Rattle.mt_script.proofs.Fitting.{fits_if, fits_unless, fits_with}
use Rattle.mt_script.proofs.Table.{row_by_word}

-- a command that brings a processor up is of a line that begins so
abbrev BeginsIn : List (ℕ × List ℕ) → Command → Type 0
BeginsIn words (command.Newcomer n) = (is_word (codes "up") (text_of words 0) || is_word (codes "join") (text_of words 0)) ≡ true
BeginsIn words other = ⊤

module _ (now : Situation) (line : ℕ) (words : List (ℕ × List ℕ)) where
  abbrev Begins : Command → Type 0
  Begins c = BeginsIn words c

  abbrev RowBegins : Row → Type 0
  RowBegins row = IfOk (verb_answer now line words row.verb) Begins

  one : {A : Type 0} (number : Result A ScriptFault) (next : A → ReadCommand) → ((n : A) → IfOk (next n) Begins) → IfOk (with number next) Begins
  one number next all = fits_with Begins number next (λ n is. all n)

  cpus_begins : IfOk (verb_answer now line words verb.Cpus) Begins
  cpus_begins = one (count_in line words 1 1 16) _ (λ n. tt)

  ram_begins : IfOk (verb_answer now line words verb.Ram) Begins
  ram_begins = one (base_in line words 1) _ (λ base. one (count_in line words 2 1 4096) _ (λ lines.
      fits_if Begins (has_room now base lines) (Ok (command.Ram base lines)) (Err (fault_at OutOfRange (place_of line words 2))) (λ room. tt) (λ miss. tt)))

  snoop_begins : IfOk (verb_answer now line words verb.Selfsnoop) Begins
  snoop_begins = one (processor_in now line words 1) _ (λ k. tt)

  -- one that asks something of a processor brings none up
  ask_begins : (asked : AskVerb) → IfOk (verb_answer now line words (verb.Ask asked)) Begins
  ask_begins asked = one (processor_in now line words 1) _ (λ k. one (ask_in now line words asked) (λ a. Ok (command.Ask k a)) (λ a. tt))

  word_begins : IfOk (verb_answer now line words verb.Word) Begins
  word_begins = one (physical_in now line words 1 8) _ (λ address. tt)

  rows_begin : IfSome (row_of (text_of words 0)) RowBegins
  rows_begin = row_by_word RowBegins (text_of words 0) ((λ is. cpus_begins), ((λ is. tt), ((λ is. ram_begins), ((λ is. snoop_begins), ((λ is. ask_begins ask_verb.Load), ((λ is. ask_begins ask_verb.Store), ((λ is. ask_begins ask_verb.Fence), ((λ is. ask_begins ask_verb.Map), ((λ is. ask_begins ask_verb.Invlpg), ((λ is. ask_begins ask_verb.Cr3), ((λ is. ask_begins ask_verb.Pge), ((λ is. ask_begins ask_verb.Cd), ((λ is. tt), ((λ is. tt), ((λ is. tt), ((λ is. tt), ((λ is. tt), ((λ is. ask_begins ask_verb.Step), (first, (second (is_word (codes "up") (text_of words 0)), ((λ is. tt), ((λ is. word_begins), ((λ is. ask_begins ask_verb.Msr), tt)))))))))))))))))))))))
    where
      first : is_word (codes "up") (text_of words 0) ≡ true → (is_word (codes "up") (text_of words 0) || is_word (codes "join") (text_of words 0)) ≡ true
      first is = rw is refl

      second : (up : Bool) → is_word (codes "join") (text_of words 0) ≡ true → (up || is_word (codes "join") (text_of words 0)) ≡ true
      second true is = refl
      second false is = is

  outside_begins : IfOk (outside now line words) Begins
  outside_begins = fits_if Begins (length words == 0) (Ok command.Blank) _ (λ blank. tt) (λ some. by (row_of (text_of words 0)) rows_begin)
    where
      by : (row : Option Row) → IfSome row RowBegins → IfOk (row_line now line words row) Begins
      by None begins = tt
      by (Some row) begins = fits_unless Begins (shape_fault line words row) _ (fits_if Begins (stands row.turn now.stage) _ (Err (fault_at NotNow (place_of line words 0))) (λ good. begins) (λ miss. tt))

  section_begins : IfOk (in_section now line words) Begins
  section_begins =
      fits_if Begins (length words == 0) _ _ (λ blank. tt) (λ some.
      fits_if Begins (is_end words) _ _ (λ end. tt) (λ not_end.
      fits_if Begins (length words == 1) _ _ (λ short. tt) (λ longer.
      fits_if Begins (nat_lt 2 (length words)) _ _ (λ long. tt) (λ two.
      one (any (place_of line words 0) (hex_number (without_ending 58 (text_of words 0)))) _ (λ number.
      one (value_in line words 1) _ (λ value.
      fits_if Begins (is_writable (file_of now) number) _ _
      (λ known. fits_if Begins (is_member nat_eq now.seen number) _ _ (λ again. tt) (λ new. tt))
      (λ unknown. tt)))))))

-- and so of a whole line
abbrev LineBegins : List ℕ → Command → Type 0
LineBegins line c = BeginsIn (words_of line) c

module _ (now : Situation) (number : ℕ) (line : List ℕ) where
  dump_begins : (ends : Bool) → LineBegins line (if ends then command.Section End else command.DumpLine)
  dump_begins true = tt
  dump_begins false = tt

  short_begins : (answer : ReadCommand) → IfOk answer (LineBegins line) → IfOk (not_too_long number line answer) (LineBegins line)
  short_begins answer begins = fits_if (LineBegins line) (is_too_long line) _ answer (λ long. tt) (λ short. begins)

  stage_begins : (stage : Stage) → IfOk (in_stage now number line stage) (LineBegins line)
  stage_begins NeedCpus = short_begins _ (outside_begins now number (words_of line))
  stage_begins NeedDump = short_begins _ (outside_begins now number (words_of line))
  stage_begins InDump = dump_begins (ends_dump line)
  stage_begins Rams = short_begins _ (outside_begins now number (words_of line))
  stage_begins Commands = short_begins _ (outside_begins now number (words_of line))
  stage_begins InUpdate = short_begins _ (section_begins now number (words_of line))
  stage_begins InBegin = short_begins _ (section_begins now number (words_of line))

  pub newcomer_begins : (n : Newcomer) → command_of now number line ≡ Ok (command.Newcomer n) → brings_up line ≡ true
  newcomer_begins n is = subst (λ answer. IfOk answer (LineBegins line)) is (stage_begins now.stage)
