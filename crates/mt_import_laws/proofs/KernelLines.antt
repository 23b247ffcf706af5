-- What a line of a kernel's table is read as.
use Rattle.std.proofs.Common.{◌≡◌, ◌∙◌, ◌+◌, ◌-◌, ◌*◌, ◌/◌, ◌%◌, ◌^◌, ◌<◌, ◌≤◌, ◌==◌, not, nat_lt, ℕ, suc, Bool, true, false, List, [], ◌∷◌, ◌++◌, length, drop, Option, Some, refl, sym, ap, arith, lit≤, length-append, append-nil, codes, decimal, slice_get}
use Rattle.std.specs.Prelude.{if◌then◌else◌}
use Rattle.std.specs.List.{list_all}
use Rattle.std.proofs.lemmas.Bool.Decides.{nat_tests}
use Rattle.std.proofs.lemmas.List.{append_assoc}
use Rattle.mt_regs.specs.RegisterFile.{RegisterFile, is_enabled, low_byte}
use Rattle.mt_text.specs.Text.{is_too_long, is_word_byte, words_of}
use Rattle.mt_text.specs.Number.{decimal_number, hex_number}
use Rattle.mt_text.specs.Words.{place_of, text_of}
use Rattle.mt_text.specs.declared.place.Place.{Place}
use Rattle.mt_text.proofs.Plain.{is_plain}
use Rattle.mt_import.specs.declared.format.Format.{Format}
use Rattle.mt_import.specs.declared.format.Format.TheVariants.{Linux, Xen}
use Rattle.mt_import.specs.declared.reading.LineSays.{LineSays}
use Rattle.mt_import.specs.declared.reading.LineSays.TheVariants.{Begins, FixedRanges, Nothing, Shows, VariableRanges}
use Rattle.mt_import.specs.Kernel.{addresses_said, all_fixed_shown, base_value, default_shown, disabled_said, enabled_by, fixed_run, fixed_said, kernel_said, mask_value, pair_said, run_said, type_named, variable_said}
use Rattle.mt_import.specs.LineWords.{behind_log, behind_stamp, head_end, is_closed, is_closing}
use Rattle.mt_import.specs.Linux.{is_map, linux_said, linux_words_said}
use Rattle.mt_import.specs.Pieces.{is_text, number_in, shown_as, shown_bits, value_at}
use Rattle.mt_import.specs.Readings.{one_shown, two_shown}
use Rattle.mt_import.specs.Shown.{format_told, is_telling, said_of, said_or_sizes, tells}
use Rattle.mt_import.specs.Xen.{xen_said}
use Rattle.mt_import_laws.specs.PrintedByInteltool.{is_name_byte}
use Rattle.mt_import_laws.specs.PrintedByKernel.{Style, default_line, fixed_line, five_digits, has_name, page_text, pair_line, range_start, range_type, run_line, switch_text, type_name, variable_line}
use Rattle.mt_import_laws.proofs.Decimals.{decimals}
use Rattle.mt_import_laws.proofs.KernelWords.{IsStart, digit_start, digit_words, five_all, five_read, glyph_digit, mtrr_start, page_all, page_read, page_short, page_word, range_read, type_names}
use Rattle.mt_import_laws.proofs.X86infoLines.{name_bytes}
use Rattle.mt_import_laws.proofs.LineWords.{AreWords, IsWord, all_append, are_apart, digits_are_word, length_of_pieces, line_with, pieces_plain, placed, size_of, word_append, words_of_pieces}

-- ---- how the words behind the front of a line are read

-- no line of a log's front goes on with these words
pub record GoOn (first : List ℕ) (others : List (ℕ × List ℕ)) : Type 0 where
  pub start : IsStart first
  pub third : (offset : ℕ) → is_text (codes "kernel:") (text_of (placed offset others []) 1) ≡ false
  pub few : length others ≤ 5

-- A kernel's lines are read by the words behind a front, of which the first is one blank more away.
pub record IsKernel (format : Format) (alone : Bool) (front : List ℕ) : Type 0 where
  pub offset : ℕ
  pub plain : list_all is_plain front ≡ true
  pub reads : (number gap : ℕ) (first : List ℕ) (others : List (ℕ × List ℕ)) → GoOn first others → AreWords ((gap, first) ∷ others) → are_apart others ≡ true → size_of ((gap, first) ∷ others) ≤ 1000
      → said_of format number (front ++ line_with ((gap, first) ∷ others) [])
      ≡ said_or_sizes (kernel_said alone number (placed offset ((suc gap, first) ∷ others) [])) number (front ++ line_with ((gap, first) ∷ others) [])
  pub told : (number gap : ℕ) (first : List ℕ) (others : List (ℕ × List ℕ)) → GoOn first others → AreWords ((gap, first) ∷ others) → are_apart others ≡ true → size_of ((gap, first) ∷ others) ≤ 1000
      → is_telling (kernel_said alone number (placed offset ((suc gap, first) ∷ others) [])) ≡ true → format_told number (front ++ line_with ((gap, first) ∷ others) []) ≡ Some format

within_limit : (n : ℕ) → n ≤ 2000 → nat_lt 4096 n ≡ false
within_limit n le = grind (arith, nat_tests, le)

some_gap : (gap : ℕ) → not (suc gap == 0) ≡ true
some_gap gap = grind (arith, nat_tests)

more_apart : (gap : ℕ) (first : List ℕ) (others : List (ℕ × List ℕ)) → are_apart others ≡ true → are_apart ((suc gap, first) ∷ others) ≡ true
more_apart gap first others apart = rw (some_gap gap) apart

-- ---- Xen

module _ (number gap : ℕ) (first : List ℕ) (others : List (ℕ × List ℕ)) (go : GoOn first others) (are : AreWords ((gap, first) ∷ others)) (apart : are_apart others ≡ true) (size : size_of ((gap, first) ∷ others) ≤ 1000) where
  abbrev xen_line : List ℕ
  xen_line = codes "(XEN) " ++ line_with ((gap, first) ∷ others) []

  xen_short : is_too_long xen_line ≡ false
  xen_short =
      let long = length_of_pieces ((0, codes "(XEN)") ∷ (suc gap, first) ∷ others) [] in
      within_limit (length xen_line) (omega (arith, long, size))

  xen_own : xen_said number xen_line ≡ kernel_said true number (placed 5 ((suc gap, first) ∷ others) [])
  xen_own =
      let words : words_of xen_line ≡ placed 0 ((0, codes "(XEN)") ∷ (suc gap, first) ∷ others) [] =
      words_of_pieces (0, codes "(XEN)") ((suc gap, first) ∷ others) [] ((lit≤ tt, refl, refl), are) (more_apart gap first others apart) refl refl in
      let stamp : behind_stamp 1 (placed 0 ((0, codes "(XEN)") ∷ (suc gap, first) ∷ others) []) ≡ 1 = rw go.start.opened refl in
      ap (λ ws. if is_text (codes "(XEN)") (text_of ws 0) then kernel_said true number (drop (behind_stamp 1 ws) ws) else Nothing) words
      ∙ ap (λ at. kernel_said true number (drop at (placed 0 ((0, codes "(XEN)") ∷ (suc gap, first) ∷ others) []))) stamp

  xen_reads : said_of Xen number xen_line ≡ said_or_sizes (kernel_said true number (placed 5 ((suc gap, first) ∷ others) [])) number xen_line
  xen_reads = rw xen_short (ap (λ s. said_or_sizes s number xen_line) xen_own)

  xen_told : is_telling (kernel_said true number (placed 5 ((suc gap, first) ∷ others) [])) ≡ true → format_told number xen_line ≡ Some Xen
  unfolding tells
  xen_told telling =
      let own : tells Xen number xen_line ≡ true = ap is_telling xen_own ∙ telling in
      rw (xen_short, own) refl

pub xen : IsKernel Xen true (codes "(XEN) ")
xen = record { offset = 5; plain = refl; reads = xen_reads; told = xen_told }

-- ---- Linux

placed_long : (offset : ℕ) (pieces : List (ℕ × List ℕ)) → length (placed offset pieces []) ≡ length pieces
placed_long offset [] = refl
placed_long offset (piece ∷ pieces) = let later = placed_long (offset + piece.0 + length piece.1) pieces in omega (arith, later)

last_byte : (xs : List ℕ) → slice_get (xs ++ 93 ∷ []) (length xs) ≡ Some 93
last_byte [] = refl
last_byte (x ∷ xs) = last_byte xs

closed : (time : List ℕ) → is_closed (time ++ codes "]") ≡ true
closed time =
    let size = length-append time (93 ∷ []) in
    let count : length (time ++ 93 ∷ []) - 1 ≡ length time = omega (arith, size) in
    ap (λ k. is_closing (slice_get (time ++ 93 ∷ []) k)) count ∙ ap is_closing (last_byte time)

module _ (time : List ℕ) (few : length time ≤ 20) (visible : list_all is_name_byte time ≡ true) where
  time_bytes : (list_all is_word_byte time ≡ true) × (list_all is_plain time ≡ true)
  time_bytes = name_bytes time visible

  time_word : IsWord (time ++ codes "]")
  time_word =
      let size = length-append time (codes "]") in
      (omega (arith, size), all_append is_word_byte time (codes "]") time_bytes.0 refl, all_append is_plain time (codes "]") time_bytes.1 refl)

  abbrev linux_front : List ℕ
  linux_front = codes "[    " ++ (time ++ codes "] ")

  front_plain : list_all is_plain linux_front ≡ true
  front_plain = all_append is_plain time (codes "] ") time_bytes.1 refl

  -- the words of a line
  abbrev stamped : ℕ → List ℕ → List (ℕ × List ℕ) → List (ℕ × List ℕ)
  stamped gap first others = (0, codes "[") ∷ (4, time ++ codes "]") ∷ (suc gap, first) ∷ others

  is_stamped : (gap : ℕ) (first : List ℕ) (others : List (ℕ × List ℕ)) → linux_front ++ line_with ((gap, first) ∷ others) [] ≡ line_with (stamped gap first others) []
  is_stamped gap first others =
      ap (λ rest. 91 ∷ 32 ∷ 32 ∷ 32 ∷ 32 ∷ rest)
      (append_assoc time (codes "] ") (line_with ((gap, first) ∷ others) []) ∙ sym (append_assoc time (codes "]") (32 ∷ line_with ((gap, first) ∷ others) [])))

  no_log : (a b : Bool) → a ≡ false → b ≡ false → ◌≡◌ {A = ℕ} (if a then 3 else if b then 5 else 0) 0
  no_log a b one two = rw (one, two) refl

  no_map : (size : ℕ) → size ≤ 6 → (size == 16) ≡ false
  no_map size le = grind (arith, nat_tests, le)

  by_tests : (x86 pat reg region map : Bool) (a b c d e f : LineSays) → x86 ≡ false → pat ≡ false → reg ≡ false → region ≡ false → map ≡ false
      → (if x86 then a else if pat then b else if reg then c else if region then d else if map then e else f) ≡ f
  by_tests x86 pat reg region map a b c d e f one two three four five = rw (one, two, three, four, five) refl

  kernel_words : (number at offset : ℕ) (first : List ℕ) (others : List (ℕ × List ℕ)) → GoOn first others
      → linux_words_said number ((at, first) ∷ placed offset others []) ≡ kernel_said false number ((at, first) ∷ placed offset others [])
  kernel_words number at offset first others go =
      let words : List (ℕ × List ℕ) = (at, first) ∷ placed offset others [] in
      let size : length words ≤ 6 = let long = placed_long offset others in let few_words = go.few in omega (arith, long, few_words) in
      let map : is_map words ≡ false = rw (no_map (length words) size) refl in
      by_tests _ _ _ _ _ _ _ _ _ _ _ go.start.x86 go.start.pat go.start.reg go.start.region map

  -- where the words behind the stamp begin
  abbrev behind_time : ℕ
  behind_time = 1 + 4 + length (time ++ codes "]")

  module _ (number gap : ℕ) (first : List ℕ) (others : List (ℕ × List ℕ)) (go : GoOn first others) (are : AreWords ((gap, first) ∷ others)) (apart : are_apart others ≡ true) (size : size_of ((gap, first) ∷ others) ≤ 1000) where
    abbrev linux_line : List ℕ
    linux_line = linux_front ++ line_with ((gap, first) ∷ others) []

    abbrev all_words : List (ℕ × List ℕ)
    all_words = placed 0 (stamped gap first others) []

    linux_short : is_too_long linux_line ≡ false
    linux_short =
        let long = ap length (is_stamped gap first others) ∙ length_of_pieces (stamped gap first others) [] in
        let one = length-append time (codes "]") in
        within_limit (length linux_line) (omega (arith, long, size, one, few))

    linux_words : words_of linux_line ≡ all_words
    linux_words =
        ap words_of (is_stamped gap first others)
        ∙ words_of_pieces (0, codes "[") ((4, time ++ codes "]") ∷ (suc gap, first) ∷ others) [] ((lit≤ tt, refl, refl), (time_word, are)) (more_apart gap first others apart) refl refl

    linux_own : linux_said number linux_line ≡ kernel_said false number (placed behind_time ((suc gap, first) ∷ others) [])
    linux_own =
        let log : behind_log all_words ≡ 0 =
        no_log (is_text (codes "kernel:") first) (is_text (codes "kernel:") (text_of (placed (behind_time + suc gap + length first) others []) 1)) go.start.kernel (go.third (behind_time + suc gap + length first)) in
        let stamp : head_end all_words ≡ 2 = ap (λ at. behind_stamp at all_words) log ∙ rw (closed time) refl in
        ap (λ w. linux_words_said number (drop (head_end w) w)) linux_words
        ∙ ap (λ at. linux_words_said number (drop at all_words)) stamp
        ∙ kernel_words number (behind_time + suc gap) (behind_time + suc gap + length first) first others go

    linux_reads : said_of Linux number linux_line ≡ said_or_sizes (kernel_said false number (placed behind_time ((suc gap, first) ∷ others) [])) number linux_line
    linux_reads = rw linux_short (ap (λ s. said_or_sizes s number linux_line) linux_own)

    linux_told : is_telling (kernel_said false number (placed behind_time ((suc gap, first) ∷ others) [])) ≡ true → format_told number linux_line ≡ Some Linux
    unfolding tells
    linux_told telling =
        let other : tells Xen number linux_line ≡ false = ap (λ ws. is_telling (if is_text (codes "(XEN)") (text_of ws 0) then kernel_said true number (drop (behind_stamp 1 ws) ws) else Nothing)) linux_words in
        let own : tells Linux number linux_line ≡ true = ap is_telling linux_own ∙ telling in
        rw (linux_short, other, own) refl

  pub linux : IsKernel Linux false linux_front
  linux = record { offset = behind_time; plain = front_plain; reads = linux_reads; told = linux_told }

-- ---- the words of a table's lines

run_words : (alone : Bool) (number at next : ℕ) (run name : List ℕ) → is_text (codes "disabled") name ≡ false
    → kernel_said alone number ((at, run) ∷ (next, name) ∷ []) ≡ run_said number ((at, run) ∷ (next, name) ∷ [])
run_words alone number at next run name other = rw other refl

off_words : (alone : Bool) (number at next : ℕ) (digits : List ℕ)
    → kernel_said alone number ((at, digits) ∷ (next, codes "disabled") ∷ []) ≡ disabled_said (number_in (decimal_number digits 31)) (place_of number ((at, digits) ∷ (next, codes "disabled") ∷ []) 1)
off_words alone number at next digits = refl

pair_words : (alone : Bool) (number a b c d e f : ℕ) (digits base mask name : List ℕ)
    → kernel_said alone number ((a, digits) ∷ (b, codes "base") ∷ (c, base) ∷ (d, codes "mask") ∷ (e, mask) ∷ (f, name) ∷ [])
    ≡ pair_said (number_in (decimal_number digits 31)) number ((a, digits) ∷ (b, codes "base") ∷ (c, base) ∷ (d, codes "mask") ∷ (e, mask) ∷ (f, name) ∷ [])
pair_words alone number a b c d e f digits base mask name = refl

module _ (format : Format) (alone : Bool) (style : Style) (kernel : IsKernel format alone style.front) where
  -- the words of a line, as they are placed
  abbrev there : ℕ → List ℕ → List (ℕ × List ℕ) → List (ℕ × List ℕ)
  there gap first others = placed kernel.offset ((suc gap, first) ∷ others) []

  line_said : (number gap : ℕ) (first : List ℕ) (others : List (ℕ × List ℕ)) (text : List ℕ) (said : LineSays) → text ≡ line_with ((gap, first) ∷ others) [] → GoOn first others → AreWords ((gap, first) ∷ others)
      → are_apart others ≡ true → size_of ((gap, first) ∷ others) ≤ 1000 → kernel_said alone number (there gap first others) ≡ said → ((line : List ℕ) → said_or_sizes said number line ≡ said)
      → said_of format number (style.front ++ text) ≡ said
  line_said number gap first others text said is go are apart size by same =
      ap (λ t. said_of format number (style.front ++ t)) is
      ∙ kernel.reads number gap first others go are apart size
      ∙ ap (λ s. said_or_sizes s number (style.front ++ line_with ((gap, first) ∷ others) [])) by
      ∙ same (style.front ++ line_with ((gap, first) ∷ others) [])

  line_plain : (gap : ℕ) (first : List ℕ) (others : List (ℕ × List ℕ)) (text : List ℕ) → text ≡ line_with ((gap, first) ∷ others) [] → AreWords ((gap, first) ∷ others) → list_all is_plain (style.front ++ text) ≡ true
  line_plain gap first others text is are = all_append is_plain style.front text kernel.plain (ap (list_all is_plain) is ∙ pieces_plain ((gap, first) ∷ others) [] are refl)

  -- ---- the heads

  module _ (file : RegisterFile) (named : has_name (low_byte file.default_type) ≡ true) where
    abbrev name : List ℕ
    name = type_name (low_byte file.default_type)

    abbrev default_others : List (ℕ × List ℕ)
    default_others = (1, codes "default") ∷ (1, codes "type:") ∷ (1, name) ∷ []

    is_default : codes "MTRR default type: " ++ name ≡ line_with ((0, codes "MTRR") ∷ default_others) []
    is_default = ap (λ rest. codes "MTRR default type: " ++ rest) (sym (append-nil name))

    default_words : AreWords ((0, codes "MTRR") ∷ default_others)
    default_words = ((lit≤ tt, refl, refl), ((lit≤ tt, refl, refl), ((lit≤ tt, refl, refl), ((type_names (low_byte file.default_type) named).word, tt))))

    pub default_plain : list_all is_plain (default_line style file) ≡ true
    default_plain = line_plain 0 (codes "MTRR") default_others (codes "MTRR default type: " ++ name) is_default default_words

    pub default_place : ℕ → Place
    default_place number = place_of number (there 0 (codes "MTRR") default_others) 3

    pub default_said : (number : ℕ) → said_of format number (default_line style file) ≡ Begins (one_shown (shown_bits 0x2ff 0xfffffffffffff3ff (low_byte file.default_type) (default_place number)))
    unfolding default_place
    default_said number =
        let short = (type_names (low_byte file.default_type) named).short in
        line_said number 0 (codes "MTRR") default_others (codes "MTRR default type: " ++ name) _ is_default (record { start = mtrr_start; third = λ offset. refl; few = lit≤ tt }) default_words refl (omega (arith, short))
        (ap (λ code. Begins (one_shown (default_shown code (place_of number (there 0 (codes "MTRR") default_others) 3)))) (type_names (low_byte file.default_type) named).read) (λ line. refl)

    -- the line tells the format
    pub default_told : (number : ℕ) → format_told number (default_line style file) ≡ Some format
    default_told number =
        let short = (type_names (low_byte file.default_type) named).short in
        ap (λ text. format_told number (style.front ++ text)) is_default
        ∙ kernel.told number 0 (codes "MTRR") default_others (record { start = mtrr_start; third = λ offset. refl; few = lit≤ tt }) default_words refl (omega (arith, short)) refl

  abbrev switch_others : List ℕ → Bool → List (ℕ × List ℕ)
  switch_others kind switch = (1, kind) ∷ (1, codes "ranges") ∷ (1, switch_text switch) ∷ []

  switch_word : (switch : Bool) → IsWord (switch_text switch)
  switch_word true = (lit≤ tt, refl, refl)
  switch_word false = (lit≤ tt, refl, refl)

  switch_short : (switch : Bool) → length (switch_text switch) ≤ 9
  switch_short true = lit≤ tt
  switch_short false = lit≤ tt

  switch_read : (switch : Bool) → enabled_by (switch_text switch) ≡ Some switch
  switch_read true = refl
  switch_read false = refl

  is_fixed : codes "MTRR fixed ranges " ++ switch_text style.fixed ≡ line_with ((0, codes "MTRR") ∷ switch_others (codes "fixed") style.fixed) []
  is_fixed = ap (λ rest. codes "MTRR fixed ranges " ++ rest) (sym (append-nil (switch_text style.fixed)))

  fixed_words : AreWords ((0, codes "MTRR") ∷ switch_others (codes "fixed") style.fixed)
  fixed_words = ((lit≤ tt, refl, refl), ((lit≤ tt, refl, refl), ((lit≤ tt, refl, refl), (switch_word style.fixed, tt))))

  pub fixed_plain : list_all is_plain (fixed_line style) ≡ true
  fixed_plain = line_plain 0 (codes "MTRR") (switch_others (codes "fixed") style.fixed) (codes "MTRR fixed ranges " ++ switch_text style.fixed) is_fixed fixed_words

  pub fixed_place : ℕ → Place
  fixed_place number = place_of number (there 0 (codes "MTRR") (switch_others (codes "fixed") style.fixed)) 3

  pub fixed_line_said : (number : ℕ) → said_of format number (fixed_line style) ≡ FixedRanges style.fixed alone (fixed_place number)
  unfolding fixed_place
  fixed_line_said number =
      let short = switch_short style.fixed in
      line_said number 0 (codes "MTRR") (switch_others (codes "fixed") style.fixed) (codes "MTRR fixed ranges " ++ switch_text style.fixed) _ is_fixed (record { start = mtrr_start; third = λ offset. refl; few = lit≤ tt })
      fixed_words refl (omega (arith, short))
      (ap (fixed_said alone (place_of number (there 0 (codes "MTRR") (switch_others (codes "fixed") style.fixed)) 3)) (switch_read style.fixed)) (λ line. refl)

  module _ (file : RegisterFile) where
    is_variable : codes "MTRR variable ranges " ++ switch_text (is_enabled file) ≡ line_with ((0, codes "MTRR") ∷ switch_others (codes "variable") (is_enabled file)) []
    is_variable = ap (λ rest. codes "MTRR variable ranges " ++ rest) (sym (append-nil (switch_text (is_enabled file))))

    variable_words : AreWords ((0, codes "MTRR") ∷ switch_others (codes "variable") (is_enabled file))
    variable_words = ((lit≤ tt, refl, refl), ((lit≤ tt, refl, refl), ((lit≤ tt, refl, refl), (switch_word (is_enabled file), tt))))

    pub variable_plain : list_all is_plain (variable_line style file) ≡ true
    variable_plain = line_plain 0 (codes "MTRR") (switch_others (codes "variable") (is_enabled file)) (codes "MTRR variable ranges " ++ switch_text (is_enabled file)) is_variable variable_words

    pub variable_place : ℕ → Place
    variable_place number = place_of number (there 0 (codes "MTRR") (switch_others (codes "variable") (is_enabled file))) 3

    pub variable_line_said : (number : ℕ) → said_of format number (variable_line style file) ≡ VariableRanges (is_enabled file) (variable_place number)
    unfolding variable_place
    variable_line_said number =
        let short = switch_short (is_enabled file) in
        line_said number 0 (codes "MTRR") (switch_others (codes "variable") (is_enabled file)) (codes "MTRR variable ranges " ++ switch_text (is_enabled file)) _ is_variable
        (record { start = mtrr_start; third = λ offset. refl; few = lit≤ tt }) variable_words refl (omega (arith, short))
        (ap (variable_said (place_of number (there 0 (codes "MTRR") (switch_others (codes "variable") (is_enabled file))) 3)) (switch_read (is_enabled file))) (λ line. refl)

  -- ---- a run of fixed ranges

  module _ (file : RegisterFile) (run : ℕ × ℕ) (low : run.0 < 88) (some : run.0 < run.1) (high : run.1 ≤ 88) (named : has_name (range_type file run.0) ≡ true) where
    abbrev range_word : List ℕ
    range_word = five_digits style.upper (range_start run.0) ++ (codes "-" ++ five_digits style.upper (range_start run.1 - 1))

    abbrev run_name : List ℕ
    run_name = type_name (range_type file run.0)

    range_is_word : IsWord range_word
    range_is_word =
        let one = digits_are_word (five_digits style.upper (range_start run.0)) (lit≤ tt) (five_all style.upper (range_start run.0)) in
        let two = digits_are_word (five_digits style.upper (range_start run.1 - 1)) (lit≤ tt) (five_all style.upper (range_start run.1 - 1)) in
        word_append (five_digits style.upper (range_start run.0)) (codes "-" ++ five_digits style.upper (range_start run.1 - 1)) one two.1 two.2

    range_starts : IsStart range_word
    range_starts = digit_start _ _ (glyph_digit style.upper (range_start run.0 / 0x10000 % 16) (omega arith))

    is_run : codes "  " ++ (five_digits style.upper (range_start run.0) ++ (codes "-" ++ (five_digits style.upper (range_start run.1 - 1) ++ (codes " " ++ run_name)))) ≡ line_with ((2, range_word) ∷ (1, run_name) ∷ []) []
    is_run = ap (λ rest. codes "  " ++ (five_digits style.upper (range_start run.0) ++ (codes "-" ++ (five_digits style.upper (range_start run.1 - 1) ++ (codes " " ++ rest))))) (sym (append-nil run_name))

    run_are_words : AreWords ((2, range_word) ∷ (1, run_name) ∷ [])
    run_are_words = (range_is_word, ((type_names (range_type file run.0) named).word, tt))

    pub run_plain : list_all is_plain (run_line style file run) ≡ true
    run_plain =
        line_plain 2 range_word ((1, run_name) ∷ [])
        (codes "  " ++ (five_digits style.upper (range_start run.0) ++ (codes "-" ++ (five_digits style.upper (range_start run.1 - 1) ++ (codes " " ++ run_name))))) is_run run_are_words

    pub run_place : ℕ → Place
    run_place number = place_of number (there 2 range_word ((1, run_name) ∷ [])) 1

    less_test : (a b : ℕ) → a < b → nat_lt a b ≡ true
    less_test a b less = grind (arith, nat_tests, less)

    by_addresses : (place : Place) (first last code : Option ℕ) → first ≡ Some (range_start run.0) → last ≡ Some (range_start run.1 - 1) → code ≡ Some (range_type file run.0)
        → addresses_said first last code place ≡ Shows (Some 0) (all_fixed_shown (fixed_run run.0 run.1 (range_type file run.0) place))
    by_addresses place first last code one two three =
        let range = range_read run.0 run.1 low (omega (arith, some)) high in
        rw (one, two, three, less_test (range_start run.1 - 1) 0x100000 range.last_small, range.first_read, range.last_read, less_test run.0 run.1 some) refl

    pub run_line_said : (number : ℕ) → said_of format number (run_line style file run) ≡ Shows (Some 0) (all_fixed_shown (fixed_run run.0 run.1 (range_type file run.0) (run_place number)))
    unfolding run_place
    run_line_said number =
        let name = type_names (range_type file run.0) named in
        let range = range_read run.0 run.1 low (omega (arith, some)) high in
        let short = name.short in
        line_said number 2 range_word ((1, run_name) ∷ []) _ _ is_run (record { start = range_starts; third = λ offset. refl; few = lit≤ tt }) run_are_words refl (omega (arith, short))
        (run_words alone number (kernel.offset + 3) (kernel.offset + 3 + length range_word + 1) range_word run_name name.no_switch
        ∙ by_addresses (place_of number (there 2 range_word ((1, run_name) ∷ [])) 1) (number_in (hex_number (five_digits style.upper (range_start run.0)))) (number_in (hex_number (five_digits style.upper (range_start run.1 - 1)))) (type_named run_name)
        (ap number_in (five_read style.upper (range_start run.0) range.first_small)) (ap number_in (five_read style.upper (range_start run.1 - 1) range.last_small)) name.read) (λ line. refl)

  -- ---- a pair

  module _ (some_digits : 1 ≤ style.digits) (few_digits : style.digits ≤ 13) (n : ℕ) (few : n < 32) (pair : ℕ × ℕ) where
    abbrev off_others : List (ℕ × List ℕ)
    off_others = (1, codes "disabled") ∷ []

    pair_starts : IsStart (decimal n)
    pair_starts = let is = decimals n (omega (arith, few)) in digit_words (decimal n) is.some is.all

    number_is_word : IsWord (decimal n)
    number_is_word = let is = decimals n (omega (arith, few)) in digits_are_word (decimal n) is.some is.all

    off_are_words : AreWords ((2, decimal n) ∷ off_others)
    off_are_words = (number_is_word, ((lit≤ tt, refl, refl), tt))

    pub off_plain : list_all is_plain (pair_line style n pair false) ≡ true
    off_plain = line_plain 2 (decimal n) off_others (codes "  " ++ (decimal n ++ codes " disabled")) refl off_are_words

    pub off_place : ℕ → Place
    off_place number = place_of number (there 2 (decimal n) off_others) 1

    pub off_line_said : (number : ℕ) → said_of format number (pair_line style n pair false) ≡ Shows (Some 0) (one_shown (shown_bits (0x201 + 2 * n) 0x800 0 (off_place number)))
    unfolding off_place
    off_line_said number =
        let is = decimals n (omega (arith, few)) in
        let short = is.short in
        line_said number 2 (decimal n) off_others (codes "  " ++ (decimal n ++ codes " disabled")) _ refl (record { start = pair_starts; third = λ offset. refl; few = lit≤ tt }) off_are_words refl (omega (arith, short))
        (off_words alone number (kernel.offset + 3) (kernel.offset + 3 + length (decimal n) + 1) (decimal n)
        ∙ ap (λ k. disabled_said k (place_of number (there 2 (decimal n) off_others) 1)) (ap number_in (is.read 31 (omega (arith, few))))) (λ line. refl)

    module _ (named : has_name (low_byte pair.0) ≡ true) where
      abbrev pair_name : List ℕ
      pair_name = type_name (low_byte pair.0)

      abbrev pair_others : List (ℕ × List ℕ)
      pair_others = (1, codes "base") ∷ (1, page_text style pair.0) ∷ (1, codes "mask") ∷ (1, page_text style pair.1) ∷ (1, pair_name) ∷ []

      abbrev pair_text : List ℕ → List ℕ
      pair_text rest = codes "  " ++ (decimal n ++ (codes " base " ++ (page_text style pair.0 ++ (codes " mask " ++ (page_text style pair.1 ++ (codes " " ++ rest))))))

      is_pair : pair_text pair_name ≡ line_with ((2, decimal n) ∷ pair_others) []
      is_pair = ap pair_text (sym (append-nil pair_name))

      pair_are_words : AreWords ((2, decimal n) ∷ pair_others)
      pair_are_words = (
        number_is_word,
        ((lit≤ tt, refl, refl), (page_word style some_digits few_digits pair.0, ((lit≤ tt, refl, refl), (page_word style some_digits few_digits pair.1, ((type_names (low_byte pair.0) named).word, tt))))),
      )

      pub pair_plain : list_all is_plain (pair_line style n pair true) ≡ true
      pair_plain = line_plain 2 (decimal n) pair_others (pair_text pair_name) is_pair pair_are_words

      pub base_place : ℕ → Place
      base_place number = place_of number (there 2 (decimal n) pair_others) 2

      pub mask_place : ℕ → Place
      mask_place number = place_of number (there 2 (decimal n) pair_others) 4

      pair_goes_on : GoOn (decimal n) pair_others
      pair_goes_on =
          let page = digit_words (page_text style pair.0) (page_word style some_digits few_digits pair.0).0 (page_all style some_digits few_digits pair.0) in
          record { start = pair_starts; third = λ offset. page.kernel; few = lit≤ tt }

      whole_base : (value code : ℕ) → value % 4096 ≡ code → base_value (Some (value / 4096 * 4096)) (Some code) ≡ Some value
      whole_base value code low =
          let page : (value / 4096 * 4096 % 4096 == 0) ≡ true = let e : value / 4096 * 4096 % 4096 ≡ 0 = omega arith in rw e refl in
          let sum : value / 4096 * 4096 + code ≡ value = omega (arith, low) in
          rw page (ap Some sum)

      whole_mask : (value : ℕ) → value % 4096 ≡ 0x800 → mask_value (Some (value / 4096 * 4096)) ≡ Some value
      whole_mask value low =
          let page : (value / 4096 * 4096 % 4096 == 0) ≡ true = let e : value / 4096 * 4096 % 4096 ≡ 0 = omega arith in rw e refl in
          let sum : value / 4096 * 4096 + 0x800 ≡ value = omega (arith, low) in
          rw page (ap Some sum)

      pub pair_line_said : pair.0 < 2 ^ 64 → pair.1 < 2 ^ 64 → pair.0 % 4096 ≡ low_byte pair.0 → pair.1 % 4096 ≡ 0x800 → (number : ℕ)
          → said_of format number (pair_line style n pair true) ≡ Shows (Some 0) (two_shown (shown_as (0x200 + 2 * n) pair.0 (base_place number)) (shown_as (0x201 + 2 * n) pair.1 (mask_place number)))
      unfolding base_place mask_place
      pair_line_said base_fits mask_fits base_low mask_low number =
          let is = decimals n (omega (arith, few)) in
          let name = type_names (low_byte pair.0) named in
          let one = is.short in
          let two = page_short style some_digits few_digits pair.0 in
          let three = page_short style some_digits few_digits pair.1 in
          let four = name.short in
          let at : Place = place_of number (there 2 (decimal n) pair_others) 2 in
          let next : Place = place_of number (there 2 (decimal n) pair_others) 4 in
          line_said number 2 (decimal n) pair_others (pair_text pair_name) _ is_pair pair_goes_on pair_are_words refl (omega (arith, one, two, three, four))
          (pair_words alone number _ _ _ _ _ _ (decimal n) (page_text style pair.0) (page_text style pair.1) pair_name
          ∙ ap (λ k. pair_said k number (there 2 (decimal n) pair_others)) (ap number_in (is.read 31 (omega (arith, few))))
          ∙ ap (λ b. Shows (Some 0) (two_shown (value_at (0x200 + 2 * n) at (base_value b (type_named pair_name))) (value_at (0x201 + 2 * n) next (mask_value (number_in (hex_number (page_text style pair.1))))))) (page_read style some_digits few_digits pair.0 base_fits)
          ∙ ap (λ t. Shows (Some 0) (two_shown (value_at (0x200 + 2 * n) at (base_value (Some (pair.0 / 4096 * 4096)) t)) (value_at (0x201 + 2 * n) next (mask_value (number_in (hex_number (page_text style pair.1))))))) name.read
          ∙ ap (λ m. Shows (Some 0) (two_shown (value_at (0x200 + 2 * n) at (base_value (Some (pair.0 / 4096 * 4096)) (Some (low_byte pair.0)))) (value_at (0x201 + 2 * n) next (mask_value m)))) (page_read style some_digits few_digits pair.1 mask_fits)
          ∙ ap (λ v. Shows (Some 0) (two_shown (value_at (0x200 + 2 * n) at v) (value_at (0x201 + 2 * n) next (mask_value (Some (pair.1 / 4096 * 4096)))))) (whole_base pair.0 (low_byte pair.0) base_low)
          ∙ ap (λ v. Shows (Some 0) (two_shown (shown_as (0x200 + 2 * n) pair.0 at) (value_at (0x201 + 2 * n) next v))) (whole_mask pair.1 mask_low)) (λ line. refl)
