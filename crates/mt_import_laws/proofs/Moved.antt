-- What a line says depends on its number by its places alone.
use Rattle.std.proofs.Common.{◌≡◌, ◌∙◌, ◌+◌, ℕ, zero, suc, Bool, true, false, List, [], ◌∷◌, map, take, Option, Some, None, Result, Ok, Err, refl, sym, ap}
use Rattle.std.specs.Prelude.{if◌then◌else◌}
use Rattle.mt_text.specs.Text.{words_of}
use Rattle.mt_text.specs.declared.fault.NumberFault.{NumberFault}
use Rattle.mt_text.specs.declared.place.Place.{Place}
use Rattle.mt_import.specs.declared.shape.Warning.{Warning}
use Rattle.mt_import.specs.Warnings.{warning_of}
use Rattle.mt_import.specs.declared.format.Format.{Format}
use Rattle.mt_import.specs.declared.format.Format.TheVariants.{Rdmsr, X86info, Inteltool, Coreboot, Edk2, Linux, Xen, Chipsec, Windbg, Plain}
use Rattle.mt_import.specs.declared.reading.LineSays.{LineSays}
use Rattle.mt_import.specs.declared.reading.LineSays.TheVariants.{Nothing, Announces, Value, Turns, Shows, Lists, Begins, FixedRanges, VariableRanges, Width, Warns, Bad}
use Rattle.mt_import.specs.declared.shape.Shown.{Shown}
use Rattle.mt_import.specs.Pieces.{register_in, shows_one, shows_width, unread_processor, value_at}
use Rattle.mt_import.specs.Readings.{is_register, one_shown, two_shown}
use Rattle.mt_import.specs.Coreboot.{flag_said, fixed_of, level_words, other_from, said_from, said_of_id, set_from, shows_pair as shows_set_pair, size_from}
use Rattle.mt_import.specs.Edk2.{said_by_words as edk2_words, shows_pair}
use Rattle.mt_import.specs.declared.inteltool.TheConstants.{INTELTOOL}
use Rattle.mt_import.specs.declared.tables.Says.{Says}
use Rattle.mt_import.specs.declared.tables.Says.TheVariants as says
use Rattle.mt_import.specs.Slot.{all_bits}
use Rattle.mt_import.specs.Tables.{Row, bare_place, each_said, halves_value, lists_one, place_of, processor_in, rows_in, said_in as said_in_rows, said_or, says_of}
use Rattle.mt_import.specs.declared.chipsec.TheConstants.{CHIPSEC}
use Rattle.mt_import.specs.declared.plain.TheConstants.{PLAIN}
use Rattle.mt_import.specs.declared.tables.TheConstants.{EACH}
use Rattle.mt_import.specs.declared.windbg.TheConstants.{WINDBG}
use Rattle.mt_rows.specs.declared.row.Field.{Field}
use Rattle.mt_rows.specs.declared.row.Fields.{Fields}
use Rattle.mt_rows.specs.Scan.{scanned}
use Rattle.mt_import.specs.Kernel.{addresses_said, all_fixed_shown, default_shown, disabled_said, fixed_run, fixed_said, fixed_shown, head_said, kernel_said, pair_said, run_said, types_said, variable_said}
use Rattle.mt_import.specs.LineWords.{head_end, words_behind}
use Rattle.mt_import.specs.Linux.{cleanup_said, count_said, is_map, linux_words_said, map_said, pair_shown, pat_changed, pat_said, region_said, size_shown}
use Rattle.mt_import.specs.Rdmsr.{announced, call_behind, call_from, option_at, said_by_words as rdmsr_words, said_value}
use Rattle.mt_import.specs.X86info.{sizes_by_words, sizes_said}
use Rattle.mt_import.specs.declared.x86info.TheConstants.{X86INFO}
use Rattle.mt_import.specs.Shown.{first_said, format_told, is_telling, said_by_line, said_in, said_in_each, said_of, said_or_sizes, tells, unmarked, warns_or}
use Rattle.mt_import_laws.specs.Spare.{moved_place}

-- what maps to the same in both cases
pub each : {A B : Type 0} (f : A → B) (test : Bool) (x y : A) (v w : B) → f x ≡ v → f y ≡ w → f (if test then x else y) ≡ (if test then v else w)
each f true x y v w one two = one
each f false x y v w one two = two

next : {A : Type 0} (x y : A) (xs ys : List A) → x ≡ y → xs ≡ ys → x ∷ xs ≡ y ∷ ys
next x y xs ys one later = ap (λ z. z ∷ xs) one ∙ ap (λ zs. y ∷ zs) later

module _ (move : ℕ → ℕ) where
  abbrev pub moved_shown : Option Shown → Option Shown
  moved_shown None = None
  moved_shown (Some shown) = Some (record { number = shown.number; bits = shown.bits; value = shown.value; place = moved_place move shown.place })

  abbrev pub moved_said : LineSays → LineSays
  moved_said Nothing = Nothing
  moved_said (Announces processor number) = Announces processor number
  moved_said (Value value place) = Value value (moved_place move place)
  moved_said (Turns turn) = Turns turn
  moved_said (Shows processor shows) = Shows processor (map moved_shown shows)
  moved_said (Begins shows) = Begins (map moved_shown shows)
  moved_said (FixedRanges enabled alone place) = FixedRanges enabled alone (moved_place move place)
  moved_said (VariableRanges enabled place) = VariableRanges enabled (moved_place move place)
  moved_said (Width width place) = Width width (moved_place move place)
  moved_said (Warns warning number) = Warns warning (move number)
  moved_said (Lists processor shown) = Lists processor (record { number = shown.number; bits = shown.bits; value = shown.value; place = moved_place move shown.place })
  moved_said (Bad why place) = Bad why (moved_place move place)

  if_said : (test : Bool) (x y v w : LineSays) → moved_said x ≡ v → moved_said y ≡ w → moved_said (if test then x else y) ≡ (if test then v else w)
  if_said = each moved_said

  if_shown : (test : Bool) (x y v w : Option Shown) → moved_shown x ≡ v → moved_shown y ≡ w → moved_shown (if test then x else y) ≡ (if test then v else w)
  if_shown = each moved_shown

  -- ---- pieces

  one : (processor register value : Option ℕ) (place : Place) → moved_said (shows_one processor register value place) ≡ shows_one processor register value (moved_place move place)
  one processor None value place = refl
  one processor (Some number) None place = refl
  one processor (Some number) (Some value) place = refl

  width : (read : Result ℕ NumberFault) (place : Place) → moved_said (shows_width read place) ≡ shows_width read (moved_place move place)
  width (Ok bits) place = refl
  width (Err fault) place = refl

  value : (number : ℕ) (place : Place) (found : Option ℕ) → moved_shown (value_at number place found) ≡ value_at number (moved_place move place) found
  value number place None = refl
  value number place (Some found) = refl

  two : (processor : Option ℕ) (a b v w : Option Shown) → moved_shown a ≡ v → moved_shown b ≡ w → moved_said (Shows processor (two_shown a b)) ≡ Shows processor (two_shown v w)
  two processor a b v w first second = ap (λ s. Shows processor (two_shown s (moved_shown b))) first ∙ ap (λ s. Shows processor (two_shown v s)) second

  begins : (a v : Option Shown) → moved_shown a ≡ v → moved_said (Begins (one_shown a)) ≡ Begins (one_shown v)
  begins a v same = ap (λ s. Begins (one_shown s)) same

  -- ---- rdmsr

  call_announced : (processor register : Option ℕ) → moved_said (announced processor register) ≡ announced processor register
  call_announced processor None = refl
  call_announced processor (Some number) = refl

  called : (rest : ℕ → Option ℕ → LineSays) → ((size : ℕ) (processor : Option ℕ) → moved_said (rest size processor) ≡ rest size processor)
      → (found : Option (ℕ × Option ℕ)) → moved_said (call_behind rest found) ≡ call_behind rest found
  called rest each_rest None = refl
  called rest each_rest (Some found) = each_rest found.0 found.1

  call : (options at : ℕ) (processor : Option ℕ) (words : List (ℕ × List ℕ)) → moved_said (call_from options at processor words) ≡ call_from options at processor words
  call zero at processor words = search (if_said, call_announced)
  call (suc options) at processor words =
      let later = called (λ size next. call_from options (at + size) next words) (λ size next. call options (at + size) next words) (option_at at processor words) in
      search (if_said, call_announced, later)

  read_value : (place : Place) (read : Result ℕ NumberFault) → moved_said (said_value place read) ≡ said_value (moved_place move place) read
  read_value place (Ok number) = refl
  read_value place (Err fault) = refl

  by_rdmsr : (number : ℕ) (words : List (ℕ × List ℕ)) → moved_said (rdmsr_words number words) ≡ rdmsr_words (move number) words
  by_rdmsr number words =
      search (if_said, call, read_value, one)

  -- ---- x86info

  sizes : (number : ℕ) (words : List (ℕ × List ℕ)) → moved_said (sizes_by_words number words) ≡ sizes_by_words (move number) words
  sizes number words = search (if_said, width)

  -- ---- rows

  list : (number : ℕ) (processor register : Option ℕ) (value : Field) → moved_said (lists_one number processor register value) ≡ lists_one (move number) processor register value
  list number processor None value = refl
  list number processor (Some register) value = by (is_register register)
    where
      by : (test : Bool) → moved_said (if test then Lists processor (record { number = register; bits = all_bits; value = value.value; place = bare_place number value }) else Nothing)
          ≡ (if test then Lists processor (record { number = register; bits = all_bits; value = value.value; place = bare_place (move number) value }) else Nothing)
      by true = refl
      by false = refl

  of_says : (meaning : Says) (number : ℕ) (fields : Fields) → moved_said (says_of meaning number fields) ≡ says_of meaning (move number) fields
  of_says says.Register number fields = one None (register_in (Ok fields.second_last.value)) (Some fields.last.value) (place_of number fields.last)
  of_says says.Halves number fields = one None (register_in (Ok fields.third_last.value)) (halves_value fields.second_last.value fields.last.value) (place_of number fields.second_last)
  of_says (says.Turn first) number fields = refl
  of_says says.TurnToFirst number fields = refl
  of_says says.TurnToUnread number fields = refl
  of_says says.UnreadPrompt number fields = refl
  of_says says.Bare number fields = one None (register_in (Ok fields.second_last.value)) (Some fields.last.value) (bare_place number fields.last)
  of_says says.BareHalves number fields = one None (register_in (Ok fields.third_last.value)) (halves_value fields.second_last.value fields.last.value) (bare_place number fields.second_last)
  of_says says.OfProcessor number fields =
      one (Some (processor_in fields.third_last.value)) (register_in (Ok fields.second_last.value)) (Some fields.last.value) (bare_place number fields.last)
  of_says says.ValueFirst number fields =
      one (Some (processor_in fields.last.value)) (register_in (Ok fields.second_last.value)) (Some fields.third_last.value) (place_of number fields.third_last)
  of_says says.Lists number fields = list number None (register_in (Ok fields.second_last.value)) fields.last
  of_says says.ListsProcessor number fields = list number (Some (processor_in fields.third_last.value)) (register_in (Ok fields.second_last.value)) fields.last
  of_says says.ListsUnread number fields = list number (Some unread_processor) (register_in (Ok fields.second_last.value)) fields.last
  of_says says.Width number fields = search if_said
  of_says (says.Bad why) number fields = refl

  by_rows : (rows : List Row) (number : ℕ) (line : List ℕ) → moved_said (said_in_rows rows number line) ≡ said_in_rows rows (move number) line
  by_rows [] number line = refl
  by_rows (row ∷ rows) number line = by (scanned row.0 line) (by_rows rows number line)
    where
      by : (read : Option Fields) → moved_said (said_in_rows rows number line) ≡ said_in_rows rows (move number) line
          → moved_said (said_or row.1 number read (said_in_rows rows number line)) ≡ said_or row.1 (move number) read (said_in_rows rows (move number) line)
      by None later = later
      by (Some fields) later = of_says row.1 number fields

  -- ---- edk2

  edk2_pair : (pair : Option ℕ) (base_place : Place) (base : Option ℕ) (mask_place : Place) (mask : Option ℕ)
      → moved_said (shows_pair pair base_place base mask_place mask) ≡ shows_pair pair (moved_place move base_place) base (moved_place move mask_place) mask
  edk2_pair None base_place base mask_place mask = refl
  edk2_pair (Some pair) base_place base mask_place mask = search (two, value)

  by_edk2 : (number : ℕ) (words : List (ℕ × List ℕ)) → moved_said (edk2_words number words) ≡ edk2_words (move number) words
  by_edk2 number words = search (if_said, one, edk2_pair)

  -- ---- a kernel's table

  default : (code : Option ℕ) (place : Place) → moved_shown (default_shown code place) ≡ default_shown code (moved_place move place)
  default None place = refl
  default (Some code) place = refl

  flag_fixed : (alone : Bool) (place : Place) (enabled : Option Bool) → moved_said (fixed_said alone place enabled) ≡ fixed_said alone (moved_place move place) enabled
  flag_fixed alone place None = refl
  flag_fixed alone place (Some enabled) = refl

  flag_variable : (place : Place) (enabled : Option Bool) → moved_said (variable_said place enabled) ≡ variable_said (moved_place move place) enabled
  flag_variable place None = refl
  flag_variable place (Some enabled) = refl

  head : (alone : Bool) (number : ℕ) (words : List (ℕ × List ℕ)) → moved_said (head_said alone number words) ≡ head_said alone (move number) words
  head alone number words =
      search (if_said, begins, default, flag_fixed, flag_variable)

  fixed : (first end code : ℕ) (place : Place) (at number : ℕ)
      → moved_shown (fixed_shown (fixed_run first end code place) at number) ≡ fixed_shown (fixed_run first end code (moved_place move place)) at number
  fixed first end code place at number = search if_shown

  all_fixed : (first end code : ℕ) (place : Place) → map moved_shown (all_fixed_shown (fixed_run first end code place)) ≡ all_fixed_shown (fixed_run first end code (moved_place move place))
  all_fixed first end code place =
      next _ _ _ _ (fixed first end code place 0 0x250) (next _ _ _ _ (fixed first end code place 8 0x258) (next _ _ _ _ (fixed first end code place 16 0x259)
      (next _ _ _ _ (fixed first end code place 24 0x268) (next _ _ _ _ (fixed first end code place 32 0x269) (next _ _ _ _ (fixed first end code place 40 0x26a)
      (next _ _ _ _ (fixed first end code place 48 0x26b) (next _ _ _ _ (fixed first end code place 56 0x26c) (next _ _ _ _ (fixed first end code place 64 0x26d)
      (next _ _ _ _ (fixed first end code place 72 0x26e) (next _ _ _ _ (fixed first end code place 80 0x26f) refl))))))))))

  types : (first end code : Option ℕ) (place : Place) → moved_said (types_said first end code place) ≡ types_said first end code (moved_place move place)
  types None end code place = refl
  types (Some first) None code place = refl
  types (Some first) (Some end) None place = refl
  types (Some first) (Some end) (Some code) place = let all = ap (Shows (Some 0)) (all_fixed first end code place) in search (if_said, all)

  addresses : (first last code : Option ℕ) (place : Place) → moved_said (addresses_said first last code place) ≡ addresses_said first last code (moved_place move place)
  addresses None last code place = refl
  addresses (Some first) None code place = refl
  addresses (Some first) (Some last) code place = search (if_said, types)

  run : (number : ℕ) (words : List (ℕ × List ℕ)) → moved_said (run_said number words) ≡ run_said (move number) words
  run number words = search (if_said, addresses)

  kernel_pair : (pair : Option ℕ) (number : ℕ) (words : List (ℕ × List ℕ)) → moved_said (pair_said pair number words) ≡ pair_said pair (move number) words
  kernel_pair None number words = refl
  kernel_pair (Some pair) number words = search (two, value)

  disabled : (pair : Option ℕ) (place : Place) → moved_said (disabled_said pair place) ≡ disabled_said pair (moved_place move place)
  disabled None place = refl
  disabled (Some pair) place = refl

  by_kernel : (alone : Bool) (number : ℕ) (words : List (ℕ × List ℕ)) → moved_said (kernel_said alone number words) ≡ kernel_said alone (move number) words
  by_kernel alone number words =
      search (if_said, head, disabled, run, kernel_pair)

  -- ---- linux

  size : (pair : ℕ) (place : Place) (found : Option ℕ) → moved_shown (size_shown pair place found) ≡ size_shown pair (moved_place move place) found
  size pair place None = refl
  size pair place (Some bytes) = search if_shown

  region_pair : (pair : Option ℕ) (base_place : Place) (base : Option ℕ) (size_place : Place) (found : Option ℕ)
      → moved_said (pair_shown pair base_place base size_place found) ≡ pair_shown pair (moved_place move base_place) base (moved_place move size_place) found
  region_pair None base_place base size_place found = refl
  region_pair (Some pair) base_place base size_place found = search (two, value, size)

  region : (number : ℕ) (words : List (ℕ × List ℕ)) → moved_said (region_said number words) ≡ region_said (move number) words
  region number words = search (if_said, region_pair)

  count : (found : Option ℕ) (place : Place) → moved_said (count_said found place) ≡ count_said found (moved_place move place)
  count None place = refl
  count (Some found) place = refl

  changed : (number : ℕ) (words : List (ℕ × List ℕ)) → moved_said (pat_changed number words) ≡ pat_changed (move number) words
  changed number words = search (if_said, one)

  pat : (number : ℕ) (words : List (ℕ × List ℕ)) → moved_said (pat_said number words) ≡ pat_said (move number) words
  pat number words = search (if_said, one)

  cleanup : (number : ℕ) (words : List (ℕ × List ℕ)) → moved_said (cleanup_said number words) ≡ cleanup_said (move number) words
  cleanup number words = search (if_said, region_pair)

  by_linux : (number : ℕ) (words : List (ℕ × List ℕ)) → moved_said (linux_words_said number words) ≡ linux_words_said (move number) words
  by_linux number words =
      let rest : moved_said (if is_map words then map_said number words else kernel_said false number words) ≡ (if is_map words then map_said (move number) words else kernel_said false (move number) words) =
      search (if_said, count, by_kernel) in
      search (if_said, changed, pat, cleanup, region, rest)

  -- ---- coreboot

  set_pair : (pair : Result ℕ NumberFault) (base_place : Place) (base : Option ℕ) (mask_place : Place) (mask : Option ℕ)
      → moved_said (shows_set_pair pair base_place base mask_place mask) ≡ shows_set_pair pair (moved_place move base_place) base (moved_place move mask_place) mask
  set_pair (Err fault) base_place base mask_place mask = refl
  set_pair (Ok pair) base_place None mask_place mask = refl
  set_pair (Ok pair) base_place (Some base) mask_place None = refl
  set_pair (Ok pair) base_place (Some base) mask_place (Some mask) = refl

  set : (first number : ℕ) (words : List (ℕ × List ℕ)) → moved_said (set_from first number words) ≡ set_from first (move number) words
  set first number words = search (if_said, one, set_pair, begins, default)

  bits : (first number : ℕ) (words : List (ℕ × List ℕ)) → moved_said (size_from first number words) ≡ size_from first (move number) words
  bits first number words = search (if_said, width)

  of_apic_id : (id : Option ℕ) (first number : ℕ) (words : List (ℕ × List ℕ)) → moved_said (fixed_of id first number words) ≡ fixed_of id first (move number) words
  of_apic_id None first number words = refl
  of_apic_id (Some id) first number words = search (if_said, one)

  flag : (bit : ℕ) (word : List ℕ) (place : Place) → moved_said (flag_said bit word place) ≡ flag_said bit word (moved_place move place)
  flag bit word place = search if_said

  of_id : (first number : ℕ) (words : List (ℕ × List ℕ)) → moved_said (said_of_id first number words) ≡ said_of_id first (move number) words
  of_id first number words = search (if_said, of_apic_id, bits)

  other : (first number : ℕ) (words : List (ℕ × List ℕ)) → moved_said (other_from first number words) ≡ other_from first (move number) words
  other first number words = search (if_said, flag, one)

  by_coreboot : (first number : ℕ) (words : List (ℕ × List ℕ)) → moved_said (said_from first number words) ≡ said_from first (move number) words
  by_coreboot first number words = search (if_said, of_id, set, bits, other)

  -- ---- a line

  by_line : (format : Format) (number : ℕ) (line : List ℕ) → moved_said (said_by_line format number line) ≡ said_by_line format (move number) line
  by_line Rdmsr number line = by_rdmsr number (words_of line)
  by_line X86info number line = by_rows (rows_in X86INFO) number line
  by_line Inteltool number line = by_rows (rows_in INTELTOOL) number line
  by_line Coreboot number line = by_coreboot (level_words (words_of line)) number (words_of line)
  by_line Edk2 number line = by_edk2 number (take 7 (words_of line))
  by_line Linux number line = by_linux number (words_behind (head_end (words_of line)) line)
  by_line Xen number line = search (if_said, by_kernel)
  by_line Chipsec number line = by_rows (rows_in CHIPSEC) number line
  by_line Windbg number line = by_rows (rows_in WINDBG) number line
  by_line Plain number line = by_rows (rows_in PLAIN) number line

  first : (a b : LineSays) → moved_said (first_said a b) ≡ first_said (moved_said a) (moved_said b)
  first Nothing b = refl
  first (Announces processor register) b = refl
  first (Value value place) b = refl
  first (Turns turn) b = refl
  first (Shows processor shows) b = refl
  first (Lists processor shown) b = refl
  first (Begins shows) b = refl
  first (FixedRanges enabled alone place) b = refl
  first (VariableRanges enabled place) b = refl
  first (Width width place) b = refl
  first (Warns warning at) b = refl
  first (Bad why place) b = refl

  in_each : (number : ℕ) (line : List ℕ) → moved_said (said_in_each number line) ≡ said_in_each (move number) line
  in_each number line =
      by (warning_of line)
      (first (sizes_by_words number (take 7 (words_of line))) (said_in_rows (rows_in EACH) number line)
      ∙ ap (λ s. first_said s (moved_said (said_in_rows (rows_in EACH) number line))) (sizes number (take 7 (words_of line)))
      ∙ ap (first_said (sizes_by_words (move number) (take 7 (words_of line)))) (by_rows (rows_in EACH) number line))
    where
      by : (warns : Option Warning) → moved_said (first_said (sizes_said number line) (each_said number line)) ≡ first_said (sizes_said (move number) line) (each_said (move number) line)
          → moved_said (warns_or warns number (first_said (sizes_said number line) (each_said number line))) ≡ warns_or warns (move number) (first_said (sizes_said (move number) line) (each_said (move number) line))
      by None last = last
      by (Some warning) last = refl

  or_sizes : (said : LineSays) (number : ℕ) (line : List ℕ) → moved_said (said_or_sizes said number line) ≡ said_or_sizes (moved_said said) (move number) line
  or_sizes said number line = first said (said_in_each number line) ∙ ap (first_said (moved_said said)) (in_each number line)

  of_format : (format : Format) (number : ℕ) (line : List ℕ) → moved_said (said_of format number line) ≡ said_of format (move number) line
  of_format format number line =
      let whole =
      or_sizes (said_by_line format number (unmarked line)) number (unmarked line)
      ∙ ap (λ s. said_or_sizes s (move number) (unmarked line)) (by_line format number (unmarked line)) in
      search (if_said, whole)

  pub in_format : (format : Option Format) (number : ℕ) (line : List ℕ) → moved_said (said_in format number line) ≡ said_in format (move number) line
  in_format None number line = let other = in_each number (unmarked line) in search (if_said, other)
  in_format (Some format) number line = of_format format number line

  -- ---- the format that it tells

  telling : (said : LineSays) → is_telling (moved_said said) ≡ is_telling said
  telling Nothing = refl
  telling (Announces processor register) = refl
  telling (Value value place) = refl
  telling (Turns turn) = refl
  telling (Shows processor shows) = refl
  telling (Begins shows) = refl
  telling (FixedRanges enabled alone place) = refl
  telling (VariableRanges enabled place) = refl
  telling (Width width place) = refl
  telling (Warns warning number) = refl
  telling (Lists processor shown) = refl
  telling (Bad why place) = refl

  same_tells : (format : Format) (number : ℕ) (line : List ℕ) → tells format (move number) line ≡ tells format number line
  unfolding tells
  same_tells format number line = ap is_telling (sym (by_line format number (unmarked line))) ∙ telling (said_by_line format number (unmarked line))

  pub same_told : (number : ℕ) (line : List ℕ) → format_told (move number) line ≡ format_told number line
  same_told number line =
      rw (same_tells Xen number line, same_tells Linux number line, same_tells Coreboot number line, same_tells Edk2 number line, same_tells Inteltool number line, same_tells X86info number line, same_tells Rdmsr number line, same_tells Chipsec number line, same_tells Windbg number line, same_tells Plain number line) refl
