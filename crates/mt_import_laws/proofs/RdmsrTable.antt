-- What a shell prints that calls rdmsr for each register reads back.
use Rattle.std.proofs.Common.{◌≡◌, ◌∙◌, ◌+◌, ◌^◌, ◌<◌, ℕ, true, false, List, [], ◌∷◌, ◌++◌, map, None, Some, refl, sym, ap, subst, inl, inr, lit<}
use Rattle.std.specs.List.{AllByRecursion, list_all}
use Rattle.std.specs.Fmt.{digits}
use Rattle.mt_text.specs.declared.place.Place.{Place}
use Rattle.mt_text.proofs.Plain.{is_plain}
use Rattle.mt_regs.specs.RegisterFile.{IsRegisterFile, RegisterFile}
use Rattle.mt_regs.specs.Words.{HasWords}
use Rattle.mt_import.specs.declared.format.Format.TheVariants.{Rdmsr}
use Rattle.mt_import.specs.declared.reading.Context.{Context}
use Rattle.mt_import.specs.declared.shape.Announced.{Announced}
use Rattle.mt_import.specs.Pieces.{shown_as}
use Rattle.mt_import.specs.Readings.{Fact, is_line, is_match, shown_facts, starts}
use Rattle.mt_import.specs.Shown.{context_behind, facts_from, facts_of_line, shown, tells}
use Rattle.mt_import.specs.Slot.{all_bits}
use Rattle.mt_import.specs.Supplied.{Supplied}
use Rattle.mt_import_laws.specs.Origins.{IsAmong}
use Rattle.mt_import_laws.specs.FirstLine.{takes}
use Rattle.mt_import_laws.specs.Printed.{Key, TextReadsBack, number_at, value_in}
use Rattle.mt_regs.specs.Registers.{writable}
use Rattle.mt_import_laws.specs.PrintedByRdmsr.{SuitsRdmsr, call_line, calls, hex_text, rdmsr_lines, rdmsr_text}
use Rattle.mt_import_laws.proofs.Among.{join_among_first, join_among_second}
use Rattle.mt_import.specs.Census.{shows_register}
use Rattle.mt_import_laws.proofs.AutoReads.{text_as}
use Rattle.mt_import_laws.proofs.Taken.{StaysIn, all_stay, takes_printed}
use Rattle.mt_dump.specs.Dumps.{dump_of}
use Rattle.mt_import_laws.proofs.KeyLines.{all_keys, among_all, in_file, low}
use Rattle.mt_import_laws.proofs.Keys.{IsKey, is_register_key}
use Rattle.mt_import_laws.proofs.PrintedBack.{IsInFile, facts_back, fits, key_in_file, lines_back}
use Rattle.mt_import_laws.proofs.RdmsrLines.{call_plain, call_said, value_place, value_plain, value_said}
use Rattle.mt_import_laws.proofs.TableLines.{HasReading, all_join, shown_true, tells_whole}
use Rattle.mt_import_laws.proofs.Whole.{IsSound, any_bits, same_file}

abbrev announces : ℕ → Announced
announces number = record { processor = 0; number = number; goes_on = false }

-- ---- a call and its value

module _ (register value : ℕ) (small : register < 0x1000) (fits : value < 2 ^ 64) (context : Context) (number : ℕ) (is : context.format ≡ Some Rdmsr) where
  abbrev next : Context
  next = context_behind context number (call_line register)

  abbrev last : Context
  last = context_behind next (number + 1) (hex_text value)

  next_format : next.format ≡ Some Rdmsr
  next_format = rw is refl

  next_announced : next.announced ≡ Some (announces register)
  next_announced = rw (is, call_said register small number) refl

  pub last_format : last.format ≡ Some Rdmsr
  last_format = rw is refl

  pub call_facts : facts_of_line context number (call_line register) ≡ is_line number (Some Rdmsr) true ∷ []
  call_facts = rw (is, call_said register small number) refl

  by_announced : (c : Context) (at : ℕ) → c.format ≡ Some Rdmsr → c.announced ≡ Some (announces register)
      → facts_of_line c at (hex_text value) ≡ is_line at (Some Rdmsr) true ∷ shown_facts 0 c.table (shown_as register value (value_place value fits at))
  by_announced c at format announced = rw (format, value_said value fits at, announced) refl

  pub value_facts : facts_of_line next (number + 1) (hex_text value) ≡ is_line (number + 1) (Some Rdmsr) true ∷ shown_facts 0 next.table (shown_as register value (value_place value fits (number + 1)))
  value_facts = by_announced next (number + 1) next_format next_announced

widen : (fact : Fact) (facts : List Fact) (key : Key) → HasReading key all_bits facts → HasReading key all_bits (fact ∷ facts)
widen fact facts key has = record { reading = has.reading; among = inr has.among; number = has.number; bits = has.bits }

module _ (file : RegisterFile) (is_file : IsRegisterFile file) (words : HasWords file) where
  small_key : (key : Key) → IsInFile file key → number_at key < 0x1000
  small_key key within = low key (key_in_file file key is_file within)

  -- what follows a register's two lines
  abbrev behind : (key : Key) → IsInFile file key → Context → ℕ → Context
  behind key within context number = context_behind (context_behind context number (call_line (number_at key))) (number + 1) (hex_text (value_in file key))

  block_sound : (key : Key) (within : IsInFile file key) (context : Context) (number : ℕ) → context.format ≡ Some Rdmsr
      → AllByRecursion (IsSound (same_file file) 1 any_bits) (facts_of_line context number (call_line (number_at key)))
      × AllByRecursion (IsSound (same_file file) 1 any_bits) (facts_of_line (context_behind context number (call_line (number_at key))) (number + 1) (hex_text (value_in file key)))
  block_sound key within context number is =
      let small = small_key key within in
      let whole = fits file key is_file words within in (
        subst (AllByRecursion (IsSound (same_file file) 1 any_bits)) (sym (call_facts (number_at key) (value_in file key) small whole context number is)) (tt, tt),
        subst (AllByRecursion (IsSound (same_file file) 1 any_bits)) (sym (value_facts (number_at key) (value_in file key) small whole context number is)) (
          tt,
          shown_true (same_file file) 1 any_bits 0 0 _ (shown_as (number_at key) (value_in file key) (value_place (value_in file key) whole (number + 1))) (lit< tt) refl
              (inl (tells_whole file any_bits key (value_place (value_in file key) whole (number + 1)) (key_in_file file key is_file within) refl whole)),
        ),
      )

  calls_sound : (keys : List Key) → ((key : Key) → IsAmong key keys → IsInFile file key) → (context : Context) (number : ℕ) → context.format ≡ Some Rdmsr
      → AllByRecursion (IsSound (same_file file) 1 any_bits) (facts_from context number (calls file keys))
  calls_sound [] inside context number is = tt
  calls_sound (key ∷ keys) inside context number is =
      let within = inside key (inl refl) in
      let block = block_sound key within context number is in
      let next : Context = context_behind context number (call_line (number_at key)) in
      let last : Context = behind key within context number in
      let later = calls_sound keys (λ k among. inside k (inr among)) last (number + 1 + 1)
      (last_format (number_at key) (value_in file key) (small_key key within) (fits file key is_file words within) context number is) in
      all_join (IsSound (same_file file) 1 any_bits) (facts_of_line context number (call_line (number_at key)))
      (facts_of_line next (number + 1) (hex_text (value_in file key)) ++ facts_from last (number + 1 + 1) (calls file keys)) block.0
      (all_join (IsSound (same_file file) 1 any_bits) (facts_of_line next (number + 1) (hex_text (value_in file key))) (facts_from last (number + 1 + 1) (calls file keys)) block.1 later)

  -- the register is among the facts of its value
  shown_here : (key : Key) → IsKey key → (table : ℕ) (at : Place) → HasReading key all_bits (shown_facts 0 table (shown_as (number_at key) (value_in file key) at))
  shown_here key is_key table at = record {
    reading = record { processor = 0; table = table; number = number_at key; bits = all_bits; value = value_in file key; place = at };
    among = rw (is_register_key key is_key) (inl refl);
    number = refl;
    bits = refl;
  }

  calls_have : (keys : List Key) → ((key : Key) → IsAmong key keys → IsInFile file key) → (context : Context) (number : ℕ) (key : Key) → context.format ≡ Some Rdmsr → IsAmong key keys
      → HasReading key all_bits (facts_from context number (calls file keys))
  calls_have [] inside context number key is among = absurd among
  calls_have (first ∷ keys) inside context number key is among =
      let within = inside first (inl refl) in
      let small = small_key first within in
      let whole = fits file first is_file words within in
      let next : Context = context_behind context number (call_line (number_at first)) in
      let last : Context = behind first within context number in
      let rest : List Fact = facts_from last (number + 1 + 1) (calls file keys) in
      elim among [
        | inl same ↦
            let facts : HasReading first all_bits (facts_of_line next (number + 1) (hex_text (value_in file first))) =
            subst (HasReading first all_bits) (sym (value_facts (number_at first) (value_in file first) small whole context number is))
            (widen _ _ first (shown_here first (key_in_file file first is_file within) next.table (value_place (value_in file first) whole (number + 1)))) in
            subst (λ k. HasReading k all_bits (facts_from context number (calls file (first ∷ keys)))) same
            (record {
              reading = facts.reading;
              among = join_among_second (facts_of_line context number (call_line (number_at first))) (facts_of_line next (number + 1) (hex_text (value_in file first)) ++ rest) _
                  (join_among_first (facts_of_line next (number + 1) (hex_text (value_in file first))) rest _ facts.among);
              number = facts.number;
              bits = facts.bits;
            })
        | inr later ↦
            let has = calls_have keys (λ k at. inside k (inr at)) last (number + 1 + 1) key (last_format (number_at first) (value_in file first) small whole context number is) later in
            record {
              reading = has.reading;
              among = join_among_second (facts_of_line context number (call_line (number_at first))) (facts_of_line next (number + 1) (hex_text (value_in file first)) ++ rest) _
                  (join_among_second (facts_of_line next (number + 1) (hex_text (value_in file first))) rest _ has.among);
              number = has.number;
              bits = has.bits;
            }
      ]

  calls_plain : (keys : List Key) → ((key : Key) → IsAmong key keys → IsInFile file key) → AllByRecursion (λ line. list_all is_plain line ≡ true) (calls file keys)
  calls_plain [] inside = tt
  calls_plain (key ∷ keys) inside =
      let within = inside key (inl refl) in
      (call_plain (number_at key) (small_key key within), (value_plain (value_in file key) (fits file key is_file words within), calls_plain keys (λ k among. inside k (inr among))))

  -- ---- the format that is taken

  calls_stay : (keys : List Key) → ((key : Key) → IsAmong key keys → IsInFile file key) → AllByRecursion (StaysIn Rdmsr) (calls file keys)
  calls_stay [] inside = tt
  calls_stay (key ∷ keys) inside =
      let within = inside key (inl refl) in (
        λ number. inl (ap is_match (call_said (number_at key) (small_key key within) number)),
        (λ number. inl (ap is_match (value_said (value_in file key) (fits file key is_file words within) number)), calls_stay keys (λ k among. inside k (inr among))),
      )

  -- the first call tells the format
  calls_taken : ((key : Key) → IsAmong key (all_keys file) → IsInFile file key) → takes (rdmsr_lines file) ≡ Some Rdmsr
  unfolding tells digits
  calls_taken inside =
      let stay = calls_stay (all_keys file) inside in
      let said = call_said 0xfe (lit< tt) 1 in
      takes_printed Rdmsr refl (rdmsr_lines file) 1 (inl (refl, ap is_match said, ap shows_register said ∙ is_register_key None tt, all_stay Rdmsr 1 (hex_text file.capabilities ∷ calls file (map Some (writable file))) stay.1))

pub own_text : (file : RegisterFile) (supplied : Supplied) → SuitsRdmsr file supplied → TextReadsBack Rdmsr (rdmsr_text file) supplied file
own_text file supplied suits =
    let inside : (key : Key) → IsAmong key (all_keys file) → IsInFile file key = λ key among. in_file file key suits.is_file among in
    let plain = calls_plain file suits.is_file suits.has_words (all_keys file) inside in
    let lines = lines_back (rdmsr_lines file) plain in
    let facts : shown (Some Rdmsr) (rdmsr_text file) ≡ facts_from (starts (Some Rdmsr)) 1 (rdmsr_lines file) = ap (facts_from (starts (Some Rdmsr)) 1) lines in
    text_as Rdmsr supplied (dump_of file) (rdmsr_lines file) plain (calls_taken file suits.is_file suits.has_words inside)
    (facts_back file any_bits Rdmsr supplied suits.is_file suits.has_words suits.agrees (shown (Some Rdmsr) (rdmsr_text file)) (inl suits.width)
    (subst (AllByRecursion (IsSound (same_file file) 1 any_bits)) (sym facts) (calls_sound file suits.is_file suits.has_words (all_keys file) inside (starts (Some Rdmsr)) 1 refl))
    (λ key within. inl (subst (HasReading key all_bits) (sym facts) (calls_have file suits.is_file suits.has_words (all_keys file) inside (starts (Some Rdmsr)) 1 key refl (among_all file key suits.is_file within)))))
