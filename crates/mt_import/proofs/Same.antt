-- Two ways to tell the same slots come to the same texts and status.
use Rattle.std.proofs.Common.{◌≡◌, ◌≤◌, ◌+◌, ◌*◌, ◌%◌, ℕ, zero, suc, Bool, true, false, List, [], ◌∷◌, ◌++◌, map, Option, Some, None, refl, sym, ap, ◌∙◌, arith}
use Rattle.std.specs.Prelude.{IfSome, if◌then◌else◌, ◌==◌, codes, unwrap_or}
use Rattle.mt_kinds.specs.Bits.{is_bit_set}
use Rattle.mt_regs.specs.RegisterFile.{low_byte}
use Rattle.mt_regs.specs.Registers.{fixed_numbers}
use Rattle.mt_import.specs.declared.shape.Known.{Known}
use Rattle.mt_import.specs.declared.shape.Slot.{Slot}
use Rattle.mt_import.specs.declared.shape.Tally.{Tally}
use Rattle.mt_import.specs.declared.supplied.Assumed.{Assumed}
use Rattle.mt_import.specs.Supplied.{IsSupplied, Supplied, all_assumed, supplied_value}
use Rattle.mt_import.specs.Values.{assumed_capabilities, assumed_default, assumed_fixed, assumed_of, assumed_pair, assumed_value, assumed_zero, base_of, disabled_value, firm_value, firm_width, has_pairs, is_unshown, likely_flags, likely_type, mask_of, masks_in, only_if, or_supplied, pair_count, shown_pairs, shows_one_of, shows_pairs, shows_part, uncached_pairs, widest, width_by}
use Rattle.mt_import.specs.Outcome.{Findings, WidthAndFormat, Seen, Slots, Summary, Outcome, advice_of, all_needed, allowed_text, allowing_all, behind_blank, choice_word, dump_outcome, ended, ended_by, file_of, files_of, findings_of, first_pairs, firm_of, fixed_of, help_on, help_on_width, help_words, helps_on, hint_by, hint_of, is_empty, is_missing, is_nowhere, joined, known_by, lacking_text, lacks_before, missing_lines, missing_of, missing_width, needed, note_line, note_lines, noted, noted_of, notes_of, processors, processors_text, refusal, register_words, slot_shown, summary_of, table_word, value_or_zero, value_words, values_of, width_note, width_hint_of, width_of, width_word}
use Rattle.mt_import.specs.Reader.{HasTakenFacts, IsReader, State, findings_in, slots_of, summary_in, values_in}

-- ---- the same slots of one processor

module _ (v w : ℕ → Slot) (same : (n : ℕ) → v n ≡ w n) where
  same_disabled : (number : ℕ) → disabled_value v number ≡ disabled_value w number
  same_disabled number = rw (same (mask_of number)) refl

  same_firm : (supplied : Supplied) (number : ℕ) → firm_value supplied v number ≡ firm_value supplied w number
  same_firm supplied number = rw (same number, same_disabled number) refl

  same_pairs : (n : ℕ) → shown_pairs v n ≡ shown_pairs w n
  same_pairs zero = refl
  same_pairs (suc n) = rw (same (0x201 + 2 * n), same_pairs n) refl

  same_capabilities : assumed_capabilities v ≡ assumed_capabilities w
  same_capabilities = rw (same 0xfe, same_pairs 32) refl

  same_unshown : (number : ℕ) → is_unshown v number ≡ is_unshown w number
  same_unshown number = rw (same (base_of number), same (mask_of number)) refl

  same_shows : (n : ℕ) → shows_pairs v n ≡ shows_pairs w n
  same_shows zero = refl
  same_shows (suc n) = rw (same_unshown (0x200 + 2 * n), same_shows n) refl

  same_has : has_pairs v ≡ has_pairs w
  same_has = rw (same 0x2ff, same_shows 32) refl

  same_zero : (number : ℕ) → assumed_zero v number ≡ assumed_zero w number
  same_zero number = rw (same_unshown number, same_has) refl

  same_one_of : (numbers : List ℕ) → shows_one_of v numbers ≡ shows_one_of w numbers
  same_one_of [] = refl
  same_one_of (number ∷ numbers) = rw (same number, same_one_of numbers) refl

  same_assumed_fixed : (number : ℕ) → assumed_fixed v number ≡ assumed_fixed w number
  same_assumed_fixed number = rw (same_one_of fixed_numbers) refl

  same_uncached : (n : ℕ) → uncached_pairs v n ≡ uncached_pairs w n
  same_uncached zero = refl
  same_uncached (suc n) = rw (same (0x201 + 2 * n), same (0x200 + 2 * n), same_uncached n) refl

  same_default : (given : Option ℕ) → assumed_default v given ≡ assumed_default w given
  same_default given =
      ap (λ (s : Slot). if s.bits == 0 then Some (likely_flags (v 0xfe) given + likely_type v) else None) (same 0x2ff)
      ∙ ap (λ (s : Slot). if (w 0x2ff).bits == 0 then Some (likely_flags s given + likely_type v) else None) (same 0xfe)
      ∙ ap (λ (o : Option Bool). if (w 0x2ff).bits == 0 then Some (likely_flags (w 0xfe) given + (if unwrap_or o false then 6 else 0)) else None) (same_uncached 32)

  same_assumed_pair : (assumed : Assumed) (width : Option ℕ) (number : ℕ) → assumed_pair assumed v width number ≡ assumed_pair assumed w width number
  same_assumed_pair assumed width number = rw (same number, same_zero number) refl

  same_assumed : (assumed : Assumed) (known : Known) (number : ℕ) → assumed_value assumed v known number ≡ assumed_value assumed w known number
  same_assumed assumed known number = rw (same_capabilities, same_assumed_pair assumed known.width number, same_assumed_fixed number, same_default known.given) refl

  same_masks : (supplied : Supplied) (n : ℕ) → masks_in supplied v n ≡ masks_in supplied w n
  same_masks supplied zero = refl
  same_masks supplied (suc n) = rw (same (0x201 + 2 * n), same_masks supplied n) refl

-- ---- the same values

module _ (v w : ℕ → ℕ → Option ℕ) (same : (k n : ℕ) → v k n ≡ w k n) where
  same_missing : (count number : ℕ) → is_missing v count number ≡ is_missing w count number
  same_missing zero number = refl
  same_missing (suc count) number = rw (same_missing count number, same count number) refl

  same_first_pairs : (k n : ℕ) → first_pairs (v k) n ≡ first_pairs (w k) n
  same_first_pairs k zero = refl
  same_first_pairs k (suc n) = rw (same_first_pairs k n, same k (0x200 + 2 * n), same k (0x201 + 2 * n)) refl

  same_values : (k : ℕ) (numbers : List ℕ) → map (value_or_zero (v k)) numbers ≡ map (value_or_zero (w k)) numbers
  same_values k [] = refl
  same_values k (number ∷ numbers) = rw (same k number, same_values k numbers) refl

  same_fixed : (k : ℕ) (test : Bool) → fixed_of (v k) test ≡ fixed_of (w k) test
  same_fixed k true = same_values k fixed_numbers
  same_fixed k false = refl

  same_file : (k width capabilities : ℕ) → file_of (v k) width capabilities ≡ file_of (w k) width capabilities
  same_file k width capabilities = rw (same_first_pairs k (low_byte capabilities), same_fixed k (is_bit_set capabilities 8), same k 0x277, same k 0x2ff) refl

  same_files : (width capabilities count : ℕ) → files_of v width capabilities count ≡ files_of w width capabilities count
  same_files width capabilities zero = refl
  same_files width capabilities (suc k) = rw (same_files width capabilities k, same_file k width capabilities) refl

-- Two summaries with the same values come to the same.
module _ (a b : Summary) (same : (k n : ℕ) → a.values k n ≡ b.values k n) (notes : a.notes ≡ b.notes) (count : a.count ≡ b.count) (tally : a.tally ≡ b.tally) (auto : a.auto ≡ b.auto) where
  same_told : (refused : Outcome) (width capabilities : Option ℕ) → dump_outcome refused a width capabilities ≡ dump_outcome refused b width capabilities
  same_told refused (Some width) (Some capabilities) = rw (notes, count, tally, auto, same_files a.values b.values same width capabilities b.count) refl
  same_told refused (Some width) None = refl
  same_told refused None capabilities = refl

  pub same_summary : a.missing ≡ b.missing → a.advice ≡ b.advice → a.width ≡ b.width → ended_by a ≡ ended_by b
  same_summary missing advice width =
      let lacking : List ℕ = b.missing ++ b.advice in
      ap (λ m. if is_empty m then dump_outcome (refusal a.tally m) a a.width (a.values 0 0xfe) else refusal a.tally (m ++ a.advice)) missing
      ∙ ap (λ t. if is_empty b.missing then dump_outcome (refusal t b.missing) a a.width (a.values 0 0xfe) else refusal t (b.missing ++ a.advice)) tally
      ∙ ap (λ s. if is_empty b.missing then dump_outcome (refusal b.tally b.missing) a a.width (a.values 0 0xfe) else refusal b.tally (b.missing ++ s)) advice
      ∙ ap (λ w. if is_empty b.missing then dump_outcome (refusal b.tally b.missing) a w (a.values 0 0xfe) else refusal b.tally lacking) width
      ∙ ap (λ c. if is_empty b.missing then dump_outcome (refusal b.tally b.missing) a b.width c else refusal b.tally lacking) (same 0 0xfe)
      ∙ ap (λ (o : Outcome). if is_empty b.missing then o else refusal b.tally lacking) (same_told (refusal b.tally b.missing) b.width (b.values 0 0xfe))

module _ (v w : ℕ → ℕ → Option ℕ) (same : (k n : ℕ) → v k n ≡ w k n) (a b : ℕ → Option ℕ) (same_hint : (n : ℕ) → a n ≡ b n) where
  same_nowhere : (count number : ℕ) → is_nowhere v count number ≡ is_nowhere w count number
  same_nowhere zero number = refl
  same_nowhere (suc count) number = rw (same_nowhere count number, same count number) refl

  same_before : (k number : ℕ) → lacks_before v k number ≡ lacks_before w k number
  same_before zero number = refl
  same_before (suc k) number = rw (same k number) refl

  same_lacking : (count number k : ℕ) → lacking_text v count number k ≡ lacking_text w count number k
  same_lacking count number zero = refl
  same_lacking count number (suc k) = rw (same_before k number, same k number, same (k + 1) number, same_lacking count number k) refl

  same_processors : (count number : ℕ) → processors_text v count number ≡ processors_text w count number
  same_processors count number = rw (same_nowhere count number, same_lacking count number count) refl

  same_lines : (count : ℕ) (numbers : List ℕ) → missing_lines a v count numbers ≡ missing_lines b w count numbers
  same_lines count [] = refl
  same_lines count (number ∷ numbers) = rw (same_missing v w same count number, same_processors count number, same_hint number, same_lines count numbers) refl

module _ (v w : ℕ → ℕ → Option ℕ) (same : (k n : ℕ) → v k n ≡ w k n) (a b : ℕ → ℕ → Option ℕ) (same_firm_too : (k n : ℕ) → a k n ≡ b k n) where
  same_noted : (count number : ℕ) → noted a v count number ≡ noted b w count number
  same_noted zero number = refl
  same_noted (suc k) number = rw (same_noted k number, same k number, same_firm_too k number) refl

  same_noted_of : (count number value : ℕ) → noted_of a v count number value ≡ noted_of b w count number value
  same_noted_of zero number value = refl
  same_noted_of (suc k) number value = rw (same_noted_of k number value, same k number, same_firm_too k number) refl

  same_line : (count number : ℕ) (value : Option ℕ) → note_line number value (noted_of a v count number) ≡ note_line number value (noted_of b w count number)
  same_line count number None = refl
  same_line count number (Some value) = rw (same_noted_of count number value, same_noted_of count number 0) refl

  same_notes : (count : ℕ) (numbers : List ℕ) → note_lines a v count numbers ≡ note_lines b w count numbers
  same_notes count [] = refl
  same_notes count (number ∷ numbers) = rw (same_noted count number, same_line count number (noted b w count number), same_notes count numbers) refl

-- ---- the same slots of all processors

module _ (supplied : Supplied) (v w : Slots) (same : (k n : ℕ) → v k n ≡ w k n) (count : ℕ) (shown : WidthAndFormat) where
  abbrev one : Findings
  one = record { slots = v; count = count; shown = shown }

  abbrev two : Findings
  two = record { slots = w; count = count; shown = shown }

  same_width : width_by supplied v shown.width ≡ width_by supplied w shown.width
  same_width = rw (same_masks (v 0) (w 0) (same 0) supplied 32) refl

  same_value : (k n : ℕ) → values_of supplied one k n ≡ values_of supplied two k n
  unfolding values_of
  same_value k n = rw (same_width, same_firm (v k) (w k) (same k) supplied n, same_assumed (v k) (w k) (same k) (assumed_of k supplied.assumed) (known_by supplied two) n) refl

  same_hint_by : (n : ℕ) → hint_by supplied one n ≡ hint_by supplied two n
  same_hint_by n = rw (same_width, same_assumed (v 0) (w 0) (same 0) all_assumed (record (known_by supplied two) { width = or_supplied (width_by supplied w shown.width) (Some 52) }) n) refl

  same_firm_of : (k n : ℕ) → firm_of supplied one k n ≡ firm_of supplied two k n
  unfolding firm_of
  same_firm_of k n = same_firm (v k) (w k) (same k) supplied n

  same_notes_of : notes_of supplied one ≡ notes_of supplied two
  same_notes_of =
      rw (same_width, same_value 0 0xfe)
      (ap (λ l. width_note (firm_width supplied shown.width) (width_by supplied w shown.width) ++ l)
      (same_notes (values_of supplied one) (values_of supplied two) same_value (firm_of supplied one) (firm_of supplied two) same_firm_of count (needed (values_of supplied two 0 0xfe))))

module _ (supplied : Supplied) (v w : Slots) (same : (k n : ℕ) → v k n ≡ w k n) (count : ℕ) (shown : WidthAndFormat) where
  abbrev before : Findings
  before = record { slots = v; count = count; shown = shown }

  abbrev behind : Findings
  behind = record { slots = w; count = count; shown = shown }

  abbrev all : Supplied
  all = allowing_all supplied

  same_hints : (n : ℕ) → hint_of supplied before n ≡ hint_of supplied behind n
  unfolding hint_of
  same_hints n =
      rw (same_missing (values_of all before) (values_of all behind) (same_value all v w same count shown) count n, same_hint_by supplied v w same count shown n) refl

  same_missing_of : missing_of supplied before ≡ missing_of supplied behind
  same_missing_of =
      rw (same_width supplied v w same count shown, same_masks (v 0) (w 0) (same 0) supplied 32, same_value supplied v w same count shown 0 0xfe)
      (ap (λ l. missing_width (width_by supplied w shown.width) (widest (masks_in supplied (w 0) 32)) ++ l)
      (same_lines (values_of supplied before) (values_of supplied behind) (same_value supplied v w same count shown) (hint_of supplied before) (hint_of supplied behind) same_hints count
      (needed (values_of supplied behind 0 0xfe))))

  same_help : (number : ℕ) → help_on supplied before number ≡ help_on supplied behind number
  same_help number =
      rw (
        same_missing (values_of supplied before) (values_of supplied behind) (same_value supplied v w same count shown) count number,
        same_missing (values_of all before) (values_of all behind) (same_value all v w same count shown) count number,
        same_hints number,
      ) refl

  same_helps : (word : List ℕ) (numbers : List ℕ) → helps_on supplied before word numbers ≡ helps_on supplied behind word numbers
  same_helps word [] = refl
  same_helps word (number ∷ numbers) = rw (same_help number) (same_helps (joined word (help_on supplied behind number)) numbers)

  same_words : (numbers : List ℕ) → value_words supplied before numbers ≡ value_words supplied behind numbers
  same_words [] = refl
  same_words (number ∷ numbers) = rw (same_missing (values_of all before) (values_of all behind) (same_value all v w same count shown) count number, same_words numbers) refl

  same_needed : all_needed supplied before ≡ all_needed supplied behind
  same_needed = ap needed (same_value all v w same count shown 0 0xfe)

  same_width_too : width_of supplied before ≡ width_of supplied behind
  same_width_too = same_width supplied v w same count shown

  same_width_hint : width_hint_of supplied before ≡ width_hint_of supplied behind
  same_width_hint = ap widest (same_masks (v 0) (w 0) (same 0) supplied 32)

  abbrev words_by : Option ℕ → Option ℕ → List ℕ → List ℕ
  words_by width hint numbers = helps_on supplied before (joined (allowed_text supplied.assumed) (help_on_width width hint)) numbers

  same_help_words : help_words supplied before (all_needed supplied before) ≡ help_words supplied behind (all_needed supplied behind)
  same_help_words =
      ap (words_by (width_of supplied before) (width_hint_of supplied before)) same_needed
      ∙ ap (λ o. words_by o (width_hint_of supplied before) (all_needed supplied behind)) same_width_too
      ∙ ap (λ o. words_by (width_of supplied behind) o (all_needed supplied behind)) same_width_hint
      ∙ same_helps (joined (allowed_text supplied.assumed) (help_on_width (width_of supplied behind) (width_hint_of supplied behind))) (all_needed supplied behind)

  abbrev line_by : Bool → Option ℕ → Option ℕ → List ℕ → List ℕ → List ℕ
  line_by auto width hint help words =
      codes "try: mtrr-import " ++ choice_word auto shown.format ++ table_word supplied.table ++ width_word supplied.width width hint ++ register_words supplied.registers ++ behind_blank help ++ words ++ codes "\n"

  same_advice : (auto : Bool) → advice_of auto supplied before ≡ advice_of auto supplied behind
  same_advice auto =
      ap (λ o. line_by auto o (width_hint_of supplied before) (help_words supplied before (all_needed supplied before)) (value_words supplied before (all_needed supplied before))) same_width_too
      ∙ ap (λ o. line_by auto (width_of supplied behind) o (help_words supplied before (all_needed supplied before)) (value_words supplied before (all_needed supplied before))) same_width_hint
      ∙ ap (λ h. line_by auto (width_of supplied behind) (width_hint_of supplied behind) h (value_words supplied before (all_needed supplied before))) same_help_words
      ∙ ap (line_by auto (width_of supplied behind) (width_hint_of supplied behind) (help_words supplied behind (all_needed supplied behind))) (ap (value_words supplied before) same_needed ∙ same_words (all_needed supplied behind))

  same_ended : (auto : Bool) (tally : Tally) → ended_by (summary_of auto supplied before tally) ≡ ended_by (summary_of auto supplied behind tally)
  same_ended auto tally =
      same_summary (summary_of auto supplied before tally) (summary_of auto supplied behind tally) (same_value supplied v w same count shown) (same_notes_of supplied v w same count shown) refl refl refl
      same_missing_of (same_advice auto) (same_width supplied v w same count shown)

-- what the reader and the words tell is what the facts show
pub same_end : (auto : Bool) (supplied : Supplied) (state : State) (seen : Seen) → HasTakenFacts state seen → ended_by (summary_in auto supplied state) ≡ ended auto supplied seen
same_end auto supplied state seen held =
    ap (λ n. ended_by (summary_of auto supplied (record { slots = slots_of state; count = n; shown = (findings_in state).shown }) state.tally)) held.processors_is
    ∙ ap (λ w. ended_by (summary_of auto supplied (record { slots = slots_of state; count = processors seen.readings; shown = record { width = w; format = state.tally.format } }) state.tally)) held.width_is
    ∙ ap (λ (t : Tally). ended_by (summary_of auto supplied (record { slots = slots_of state; count = processors seen.readings; shown = record { width = seen.width; format = t.format } }) t)) held.tally_is
    ∙ same_ended supplied (slots_of state) (slot_shown seen.readings) held.slots_are (processors seen.readings) (findings_of seen).shown auto seen.tally

-- ---- the capability register of processor 0 has at most 32 pairs

few_shown : (slots : ℕ → Slot) (n : ℕ) → shown_pairs slots n ≤ n
few_shown slots zero = omega arith
few_shown slots (suc n) = by (is_bit_set (slots (0x201 + 2 * n)).bits 11) (few_shown slots n)
  where
    by : (test : Bool) → shown_pairs slots n ≤ n → (if test then suc n else shown_pairs slots n) ≤ suc n
    by true few = omega arith
    by false few = omega (arith, few)

few_pairs : (slots : ℕ → Slot) → low_byte (slots 0xfe).value ≤ 32 → pair_count slots ≤ 32
few_pairs slots few = by ((slots 0xfe).bits % 256 == 255)
  where
    by : (test : Bool) → (if test then low_byte (slots 0xfe).value else shown_pairs slots 32) ≤ 32
    by true = few
    by false = few_shown slots 32

low_of : (count : ℕ) → count ≤ 32 → low_byte (count + 0x500) ≤ 32
low_of count few = omega (arith, few)

module _ (supplied : Supplied) (slots : ℕ → Slot) (known : Known) (few : low_byte (slots 0xfe).value ≤ 32) (sound : IsSupplied supplied) where
  from_assumed : (test assumed : Bool) (value : ℕ) → only_if assumed (if test then Some (pair_count slots + 0x500) else None) ≡ Some value → low_byte value ≤ 32
  from_assumed true true value is = let e : pair_count slots + 0x500 ≡ value = cc is in rw (← e) (low_of (pair_count slots) (few_pairs slots few))
  from_assumed false true value is = cc is
  from_assumed test false value is = cc is

  from_supplied : (given : Option ℕ) → supplied_value supplied 0xfe ≡ given → (value : ℕ) → or_supplied (or_supplied given None) (assumed_value supplied.assumed slots known 0xfe) ≡ Some value → low_byte value ≤ 32
  from_supplied (Some other) given value is = sound.pairs value (given ∙ is)
  from_supplied None given value is = from_assumed (shows_part (slots 0xfe)) supplied.assumed.capabilities value is

  from_shown : (whole : Bool) (value : ℕ) → or_supplied (or_supplied (if whole then Some (slots 0xfe).value else None) (or_supplied (supplied_value supplied 0xfe) None)) (assumed_value supplied.assumed slots known 0xfe) ≡ Some value → low_byte value ≤ 32
  from_shown true value is = let e : (slots 0xfe).value ≡ value = cc is in rw (← e) few
  from_shown false value is = from_supplied (supplied_value supplied 0xfe) refl value is

sound_end : (supplied : Supplied) (state : State) → IsReader state.slots state.processors state.width → IsSupplied supplied → (value : ℕ) → values_in supplied state 0 0xfe ≡ Some value → low_byte value ≤ 32
unfolding values_of
sound_end supplied state reader sound value is =
    from_shown supplied (slots_of state 0) (known_by supplied (findings_in state)) (reader.pairs 0) sound ((slots_of state 0 0xfe).fresh == 0xffffffffffffffff) value is

pub few_in : (supplied : Supplied) (state : State) → IsReader state.slots state.processors state.width → IsSupplied supplied → (found : Option ℕ) → found ≡ values_in supplied state 0 0xfe
    → IfSome found (λ capabilities. low_byte capabilities ≤ 32)
few_in supplied state reader sound None is = tt
few_in supplied state reader sound (Some value) is = sound_end supplied state reader sound value (sym is)

-- ---- what a value is made of

pub value_is : (supplied : Supplied) (found : Findings) (k n : ℕ)
    → values_of supplied found k n ≡ or_supplied (firm_value supplied (found.slots k) n) (assumed_value (assumed_of k supplied.assumed) (found.slots k) (known_by supplied found) n)
unfolding values_of
value_is supplied found k n = refl
