-- What a shell prints that calls rdmsr for each register of all processors reads back.
use Rattle.std.proofs.Common.{◌≡◌, ◌∙◌, ◌+◌, ◌^◌, ◌<◌, ◌≤◌, nat_lt, ℕ, zero, suc, true, List, [], ◌∷◌, ◌++◌, length, map, None, Some, refl, sym, ap, subst, inl, inr, arith, lit<}
use Rattle.std.specs.List.{AllByRecursion, list_all}
use Rattle.std.specs.Fmt.{digits}
use Rattle.std.proofs.lemmas.Bool.{cases_lt}
use Rattle.std.proofs.lemmas.Bool.Decides.{nat_tests}
use Rattle.mt_text.specs.declared.place.Place.{Place}
use Rattle.mt_text.proofs.Plain.{is_plain}
use Rattle.mt_regs.specs.RegisterFile.{IsRegisterFile, RegisterFile}
use Rattle.mt_regs.specs.Words.{HasWords}
use Rattle.mt_dump.specs.Canon.{ended}
use Rattle.mt_dump.specs.Dumps.{first_of}
use Rattle.mt_import.specs.declared.format.Format.TheVariants.{Rdmsr}
use Rattle.mt_import.specs.declared.reading.Context.{Context}
use Rattle.mt_import.specs.declared.shape.Announced.{Announced}
use Rattle.mt_import.specs.Pieces.{shown_as}
use Rattle.mt_import.specs.Readings.{Fact, is_line, is_match, shown_facts, starts}
use Rattle.mt_import.specs.Shown.{context_behind, facts_from, facts_of_line, tells}
use Rattle.mt_import.specs.Slot.{all_bits}
use Rattle.mt_import.specs.Supplied.{Supplied}
use Rattle.mt_import_laws.specs.Origins.{IsAmong}
use Rattle.mt_import_laws.specs.FirstLine.{takes}
use Rattle.mt_import_laws.specs.Printed.{Key, TextReadsAs, dump_of_all, number_at, value_in}
use Rattle.mt_import_laws.specs.PrintedByRdmsr.{SuitsRdmsrOfAll, all_calls, all_line, hex_text, rdmsr_all_lines}
use Rattle.mt_import.specs.Census.{shows_register}
use Rattle.mt_import_laws.proofs.AutoReads.{text_as}
use Rattle.mt_import_laws.proofs.Taken.{StaysIn, all_stay, takes_printed}
use Rattle.mt_import_laws.proofs.KeyLines.{all_keys, among_all, in_file, low}
use Rattle.mt_import_laws.proofs.Keys.{IsKey, is_register_key}
use Rattle.mt_import_laws.proofs.PrintedBack.{IsInFile, fits, key_in_file, lines_back}
use Rattle.mt_import_laws.proofs.RdmsrLines.{all_plain, all_said, value_place, value_plain, value_said}
use Rattle.mt_import_laws.proofs.Several.{are_alike, each_at, file_at, first_at, in_each, in_first, several_back}
use Rattle.mt_import_laws.proofs.TableLines.{HasOwn, all_join, next_format, own_first, own_later, shown_true, tells_whole}
use Rattle.mt_import_laws.proofs.Whole.{AreAlike, IsSound, any_bits}

-- ---- the lines, by the places of processors

-- the values of processors from this one on
abbrev value_lines : (ℕ → RegisterFile) → Key → ℕ → ℕ → List (List ℕ)
value_lines files key k zero = []
value_lines files key k (suc n) = hex_text (value_in (files k) key) ∷ value_lines files key (k + 1) n

abbrev lines_by : (ℕ → RegisterFile) → ℕ → List Key → List (List ℕ)
lines_by files count [] = []
lines_by files count (key ∷ keys) = all_line (number_at key) ∷ (value_lines files key 0 count ++ lines_by files count keys)

same_values : (some : List RegisterFile) (files : ℕ → RegisterFile) (key : Key) (k : ℕ) → ((j : ℕ) → j < length some → file_at some j ≡ files (k + j))
    → map (λ file. hex_text (value_in file key)) some ≡ value_lines files key k (length some)
same_values [] files key k same = refl
same_values (file ∷ some) files key k same =
    let none : k + 0 ≡ k = omega arith in
    ap (λ f. hex_text (value_in f key) ∷ map (λ g. hex_text (value_in g key)) some) (same 0 (omega arith) ∙ ap files none)
    ∙ ap (λ (ls : List (List ℕ)). hex_text (value_in (files k) key) ∷ ls) (same_values some files key (k + 1) (λ j less. same (suc j) (omega (arith, less)) ∙ ap files (shift k j)))
  where
    shift : (a b : ℕ) → a + suc b ≡ a + 1 + b
    shift a b = omega arith

same_lines : (files : List RegisterFile) (keys : List Key) → all_calls files keys ≡ lines_by (file_at files) (length files) keys
same_lines files [] = refl
same_lines files (key ∷ keys) =
    ap (λ (ls : List (List ℕ)). all_line (number_at key) ∷ (ls ++ all_calls files keys)) (same_values files (file_at files) key 0 (λ j less. ap (file_at files) (from_zero j)))
    ∙ ap (λ (ls : List (List ℕ)). all_line (number_at key) ∷ (value_lines (file_at files) key 0 (length files) ++ ls)) (same_lines files keys)
  where
    from_zero : (j : ℕ) → j ≡ 0 + j
    from_zero j = omega arith

-- ---- a call, and a value

abbrev announces : ℕ → ℕ → Announced
announces k number = record { processor = k; number = number; goes_on = true }

module _ (register : ℕ) (small : register < 0x1000) (context : Context) (number : ℕ) (is : context.format ≡ Some Rdmsr) where
  call_facts : facts_of_line context number (all_line register) ≡ is_line number (Some Rdmsr) true ∷ []
  call_facts = rw (is, all_said register small number) refl

  call_announced : (context_behind context number (all_line register)).announced ≡ Some (announces 0 register)
  call_announced = rw (is, all_said register small number) refl

module _ (k register value : ℕ) (fit : value < 2 ^ 64) (context : Context) (number : ℕ) (is : context.format ≡ Some Rdmsr) (announced : context.announced ≡ Some (announces k register)) where
  value_facts : facts_of_line context number (hex_text value) ≡ is_line number (Some Rdmsr) true ∷ shown_facts k context.table (shown_as register value (value_place value fit number))
  value_facts = rw (is, value_said value fit number, announced) refl

  value_announced : k < 16 → (context_behind context number (hex_text value)).announced ≡ Some (announces (k + 1) register)
  value_announced less = let near = below k less in rw (is, value_said value fit number, announced, near) refl
    where
      below : (j : ℕ) → j < 16 → nat_lt j 65535 ≡ true
      below j less = grind (arith, nat_tests, less)

-- ---- what all lines come to

-- what holds of the facts of these lines, wherever they stand
abbrev Behind : (List Fact → Type 0) → List (List ℕ) → Type 0
Behind Q lines = (context : Context) (number : ℕ) → context.format ≡ Some Rdmsr → Q (facts_from context number lines)

module _ (files : ℕ → RegisterFile) (count : ℕ) (alike : AreAlike files count) (words : (k : ℕ) → k < count → HasWords (files k)) where
  abbrev Sound : List Fact → Type 0
  Sound = AllByRecursion (IsSound files count any_bits)

  near : (k n : ℕ) → k + suc n ≤ count → k < 16
  near k n within = let few = alike.few in omega (arith, within, few)

  fit : (k : ℕ) → k < count → (key : Key) → IsInFile (files k) key → value_in (files k) key < 2 ^ 64
  fit k less key within = fits (files k) key (alike.is_file k less) (words k less) within

  is_key : (k : ℕ) → k < count → (key : Key) → IsInFile (files k) key → IsKey key
  is_key k less key within = key_in_file (files k) key (alike.is_file k less) within

  -- ---- they tell of the files

  values_sound : (key : Key) → ((k : ℕ) → k < count → IsInFile (files k) key) → (k n : ℕ) → k + n ≤ count → (rest : List (List ℕ)) → Behind Sound rest → (context : Context) (number : ℕ) → context.format ≡ Some Rdmsr
      → context.announced ≡ Some (announces k (number_at key)) → Sound (facts_from context number (value_lines files key k n ++ rest))
  values_sound key inside k zero within rest behind context number is announced = behind context number is
  values_sound key inside k (suc n) within rest behind context number is announced =
      let less : k < count = omega (arith, within) in
      let value = value_in (files k) key in
      let small = fit k less key (inside k less) in
      let at = value_place value small number in
      all_join (IsSound files count any_bits) (facts_of_line context number (hex_text value)) (facts_from (context_behind context number (hex_text value)) (number + 1) (value_lines files key (k + 1) n ++ rest))
      (subst Sound (sym (value_facts k (number_at key) value small context number is announced))
      (tt, shown_true files count any_bits k k context.table (shown_as (number_at key) value at) less refl (inl (tells_whole (files k) any_bits key at (is_key k less key (inside k less)) refl small))))
      (values_sound key inside (k + 1) n (omega (arith, within)) rest behind (context_behind context number (hex_text value)) (number + 1) (next_format Rdmsr context number (hex_text value) is)
      (value_announced k (number_at key) value small context number is announced (near k n within)))

  low_number : (key : Key) → ((k : ℕ) → k < count → IsInFile (files k) key) → number_at key < 0x1000
  low_number key inside = low key (is_key 0 alike.some key (inside 0 alike.some))

  calls_sound : (keys : List Key) → ((key : Key) → IsAmong key keys → (k : ℕ) → k < count → IsInFile (files k) key) → Behind Sound (lines_by files count keys)
  calls_sound [] inside context number is = tt
  calls_sound (key ∷ keys) inside context number is =
      let own = inside key (inl refl) in
      let next : Context = context_behind context number (all_line (number_at key)) in
      all_join (IsSound files count any_bits) (facts_of_line context number (all_line (number_at key))) (facts_from next (number + 1) (value_lines files key 0 count ++ lines_by files count keys))
      (subst Sound (sym (call_facts (number_at key) (low_number key own) context number is)) (tt, tt))
      (values_sound key own 0 count (omega arith) (lines_by files count keys) (calls_sound keys (λ other among. inside other (inr among))) next (number + 1) (next_format Rdmsr context number (all_line (number_at key)) is)
      (call_announced (number_at key) (low_number key own) context number is))

  -- ---- they show each register of each processor

  shown_here : (key : Key) → IsKey key → (k value table : ℕ) (at : Place) → HasOwn k key all_bits (shown_facts k table (shown_as (number_at key) value at))
  shown_here key is k value table at = record {
    reading = record { processor = k; table = table; number = number_at key; bits = all_bits; value = value; place = at };
    among = rw (is_register_key key is) (inl refl);
    own = refl;
    number = refl;
    bits = refl;
  }

  -- behind values
  values_later : (j : ℕ) (wanted key : Key) (k n : ℕ) (rest : List (List ℕ)) → Behind (HasOwn j wanted all_bits) rest → Behind (HasOwn j wanted all_bits) (value_lines files key k n ++ rest)
  values_later j wanted key k zero rest behind context number is = behind context number is
  values_later j wanted key k (suc n) rest behind context number is =
      let value = value_in (files k) key in
      own_later j wanted all_bits (facts_of_line context number (hex_text value)) (facts_from (context_behind context number (hex_text value)) (number + 1) (value_lines files key (k + 1) n ++ rest))
      (values_later j wanted key (k + 1) n rest behind (context_behind context number (hex_text value)) (number + 1) (next_format Rdmsr context number (hex_text value) is))

  values_have : (j : ℕ) (key : Key) → ((k : ℕ) → k < count → IsInFile (files k) key) → (k n : ℕ) → k + n ≤ count → k ≤ j → j < k + n → (rest : List (List ℕ)) (context : Context) (number : ℕ) → context.format ≡ Some Rdmsr
      → context.announced ≡ Some (announces k (number_at key)) → HasOwn j key all_bits (facts_from context number (value_lines files key k n ++ rest))
  values_have j key inside k zero within low high rest context number is announced = absurd (omega (arith, low, high))
  values_have j key inside k (suc n) within low high rest context number is announced =
      let less : k < count = omega (arith, within) in
      let value = value_in (files k) key in
      let small = fit k less key (inside k less) in
      let next : Context = context_behind context number (hex_text value) in
      let later : List Fact = facts_from next (number + 1) (value_lines files key (k + 1) n ++ rest) in
      elim (cases_lt k j) [
        | inl below ↦
            own_later j key all_bits (facts_of_line context number (hex_text value)) later
            (values_have j key inside (k + 1) n (omega (arith, within)) (omega (arith, below)) (omega (arith, high)) rest next (number + 1) (next_format Rdmsr context number (hex_text value) is)
            (value_announced k (number_at key) value small context number is announced (near k n within)))
        | inr above ↦
            let same : k ≡ j = omega (arith, low, above) in
            subst (λ i. HasOwn i key all_bits (facts_of_line context number (hex_text value) ++ later)) same
            (own_first k key all_bits (facts_of_line context number (hex_text value)) later
            (subst (HasOwn k key all_bits) (sym (value_facts k (number_at key) value small context number is announced))
            (own_later k key all_bits (is_line number (Some Rdmsr) true ∷ []) (shown_facts k context.table (shown_as (number_at key) value (value_place value small number)))
            (shown_here key (is_key k less key (inside k less)) k value context.table (value_place value small number)))))
      ]

  calls_have : (keys : List Key) → ((key : Key) → IsAmong key keys → (k : ℕ) → k < count → IsInFile (files k) key) → (key : Key) (j : ℕ) → IsAmong key keys → j < count → Behind (HasOwn j key all_bits) (lines_by files count keys)
  calls_have [] inside key j among less context number is = absurd among
  calls_have (first ∷ keys) inside key j (inl same) less context number is =
      let own = inside first (inl refl) in
      let next : Context = context_behind context number (all_line (number_at first)) in
      subst (λ k. HasOwn j k all_bits (facts_from context number (lines_by files count (first ∷ keys)))) same
      (own_later j first all_bits (facts_of_line context number (all_line (number_at first))) (facts_from next (number + 1) (value_lines files first 0 count ++ lines_by files count keys))
      (values_have j first own 0 count (omega arith) (omega arith) (omega (arith, less)) (lines_by files count keys) next (number + 1) (next_format Rdmsr context number (all_line (number_at first)) is)
      (call_announced (number_at first) (low_number first own) context number is)))
  calls_have (first ∷ keys) inside key j (inr later) less context number is =
      let next : Context = context_behind context number (all_line (number_at first)) in
      own_later j key all_bits (facts_of_line context number (all_line (number_at first))) (facts_from next (number + 1) (value_lines files first 0 count ++ lines_by files count keys))
      (values_later j key first 0 count (lines_by files count keys) (calls_have keys (λ other among. inside other (inr among)) key j later less) next (number + 1)
      (next_format Rdmsr context number (all_line (number_at first)) is))

  -- ---- they are plain

  values_plain : (key : Key) → ((k : ℕ) → k < count → IsInFile (files k) key) → (k n : ℕ) → k + n ≤ count → (rest : List (List ℕ)) → AllByRecursion (λ line. list_all is_plain line ≡ true) rest
      → AllByRecursion (λ line. list_all is_plain line ≡ true) (value_lines files key k n ++ rest)
  values_plain key inside k zero within rest plain = plain
  values_plain key inside k (suc n) within rest plain =
      let less : k < count = omega (arith, within) in
      (value_plain (value_in (files k) key) (fit k less key (inside k less)), values_plain key inside (k + 1) n (omega (arith, within)) rest plain)

  calls_plain : (keys : List Key) → ((key : Key) → IsAmong key keys → (k : ℕ) → k < count → IsInFile (files k) key) → AllByRecursion (λ line. list_all is_plain line ≡ true) (lines_by files count keys)
  calls_plain [] inside = tt
  calls_plain (key ∷ keys) inside =
      let own = inside key (inl refl) in
      (all_plain (number_at key) (low_number key own), values_plain key own 0 count (omega arith) (lines_by files count keys) (calls_plain keys (λ other among. inside other (inr among))))

  -- ---- the format that is taken

  values_stay : (key : Key) → ((k : ℕ) → k < count → IsInFile (files k) key) → (k n : ℕ) → k + n ≤ count → (rest : List (List ℕ)) → AllByRecursion (StaysIn Rdmsr) rest → AllByRecursion (StaysIn Rdmsr) (value_lines files key k n ++ rest)
  values_stay key inside k zero within rest stay = stay
  values_stay key inside k (suc n) within rest stay =
      let less : k < count = omega (arith, within) in
      (λ number. inl (ap is_match (value_said (value_in (files k) key) (fit k less key (inside k less)) number)), values_stay key inside (k + 1) n (omega (arith, within)) rest stay)

  calls_stay : (keys : List Key) → ((key : Key) → IsAmong key keys → (k : ℕ) → k < count → IsInFile (files k) key) → AllByRecursion (StaysIn Rdmsr) (lines_by files count keys)
  calls_stay [] inside = tt
  calls_stay (key ∷ keys) inside =
      let own = inside key (inl refl) in
      (λ number. inl (ap is_match (all_said (number_at key) (low_number key own) number)), values_stay key own 0 count (omega arith) (lines_by files count keys) (calls_stay keys (λ other among. inside other (inr among))))

-- The first call tells the format, and the lines behind it are of it.
call_taken : (others : List (List ℕ)) → AllByRecursion (StaysIn Rdmsr) others → takes (all_line 0xfe ∷ others) ≡ Some Rdmsr
unfolding tells digits
call_taken others stay =
    let said = all_said 0xfe (lit< tt) 1 in
    takes_printed Rdmsr refl (all_line 0xfe ∷ others) 1 (inl (refl, ap is_match said, ap shows_register said ∙ is_register_key None tt, all_stay Rdmsr 1 others stay))

module _ (files : List RegisterFile) (supplied : Supplied) (suits : SuitsRdmsrOfAll files supplied) where
  abbrev keys : List Key
  keys = all_keys (first_of files)

  first_is : IsRegisterFile (first_of files)
  first_is = let alike = are_alike files suits.is_dump in subst IsRegisterFile (first_at files) (alike.is_file 0 alike.some)

  words : (k : ℕ) → k < length files → HasWords (file_at files k)
  words k less = each_at HasWords files k less suits.has_words

  inside : (key : Key) → IsAmong key keys → (k : ℕ) → k < length files → IsInFile (file_at files k) key
  inside key among k less = in_each files k suits.is_dump less key (in_file (first_of files) key first_is among)

  plain : AllByRecursion (λ line. list_all is_plain line ≡ true) (rdmsr_all_lines files)
  plain = subst (AllByRecursion (λ line. list_all is_plain line ≡ true)) (sym (same_lines files keys)) (calls_plain (file_at files) (length files) (are_alike files suits.is_dump) words keys inside)

  sound : AllByRecursion (IsSound (file_at files) (length files) any_bits) (facts_from (starts (Some Rdmsr)) 1 (rdmsr_all_lines files))
  sound =
      subst (λ ls. AllByRecursion (IsSound (file_at files) (length files) any_bits) (facts_from (starts (Some Rdmsr)) 1 ls)) (sym (same_lines files keys))
      (calls_sound (file_at files) (length files) (are_alike files suits.is_dump) words keys inside (starts (Some Rdmsr)) 1 refl)

  have : (k : ℕ) → k < length files → (key : Key) → IsAmong key keys → HasOwn k key all_bits (facts_from (starts (Some Rdmsr)) 1 (rdmsr_all_lines files))
  have k less key among =
      subst (λ ls. HasOwn k key all_bits (facts_from (starts (Some Rdmsr)) 1 ls)) (sym (same_lines files keys))
      (calls_have (file_at files) (length files) (are_alike files suits.is_dump) words keys inside key k among less (starts (Some Rdmsr)) 1 refl)

  pub reads : TextReadsAs Rdmsr (ended (rdmsr_all_lines files)) supplied (dump_of_all files)
  reads =
      text_as Rdmsr supplied (dump_of_all files) (rdmsr_all_lines files) plain (call_taken _ (subst (AllByRecursion (StaysIn Rdmsr)) (sym (same_lines files keys)) (calls_stay (file_at files) (length files) (are_alike files suits.is_dump) words keys inside)).1)
      (several_back Rdmsr any_bits supplied files suits.is_dump suits.has_words suits.agrees (rdmsr_all_lines files) (lines_back (rdmsr_all_lines files) plain) sound (inl suits.width) (λ k less. have k less None (inl refl))
      (λ k less key within. inl (have k less key (among_all (first_of files) key first_is (in_first files k suits.is_dump less key within)))))
