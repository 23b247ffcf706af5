-- The table of MTRRs that a kernel prints reads back.
use Rattle.std.proofs.Common.{◌≡◌, ◌∙◌, ◌+◌, ◌*◌, ◌/◌, ◌^◌, ◌<◌, ◌≤◌, ◌==◌, ◌&&◌, not, ℕ, zero, suc, Bool, true, false, List, [], ◌∷◌, ◌++◌, length, map, replicate, Option, Some, None, refl, sym, ap, subst, arith, lit<, inl, inr, append-nil, bit_and}
use Rattle.std.specs.Prelude.{◌⊎◌, ◌||◌, if◌then◌else◌}
use Rattle.std.specs.Int.{bit_at}
use Rattle.std.specs.List.{AllByRecursion, list_all}
use Rattle.std.proofs.lemmas.Bool.{and_parts, eqb-true, lt-ltb}
use Rattle.mt_text.specs.declared.place.Place.{Place}
use Rattle.mt_text.proofs.Plain.{is_plain}
use Rattle.mt_regs.specs.declared.registers.Register.TheVariants.{PhysBase, PhysMask, FixedRange, Pat, DefaultType}
use Rattle.mt_regs.specs.RegisterFile.{RegisterFile, has_fixed, is_enabled, is_fixed_enabled, low_byte, pair_at}
use Rattle.mt_dump.specs.Canon.{ended}
use Rattle.mt_text.specs.Text.{lines_of}
use Rattle.mt_import.specs.declared.format.Format.{Format}
use Rattle.mt_import.specs.declared.format.Format.TheVariants.{Rdmsr, X86info, Inteltool, Coreboot, Edk2, Linux, Xen, Chipsec, Windbg, Plain}
use Rattle.mt_import.specs.declared.reading.Context.{Context}
use Rattle.mt_import.specs.declared.reading.LineSays.TheVariants.{VariableRanges}
use Rattle.mt_import.specs.declared.shape.FixedLine.{FixedLine}
use Rattle.mt_import.specs.declared.shape.Reading.{Reading}
use Rattle.mt_import.specs.declared.shape.Shown.{Shown}
use Rattle.mt_import.specs.Kernel.{all_fixed_shown, fixed_run}
use Rattle.mt_import.specs.Pieces.{shown_as, shown_bits}
use Rattle.mt_import.specs.Readings.{Fact, fixed_shows, flag_shown, is_line, is_match, is_off, one_shown, shows_facts, starts, two_shown}
use Rattle.mt_import.specs.Shown.{context_behind, facts_from, facts_of_line, said_of, shown}
use Rattle.mt_import.specs.Slot.{all_bits, is_disabled}
use Rattle.mt_import.specs.Supplied.{Supplied, supplied_value}
use Rattle.mt_import.specs.Values.{is_pair_number, mask_of}
use Rattle.mt_import.specs.Outcome.{Seen, nothing_seen, facts_outcome, seen_after, slot_shown}
use Rattle.mt_import.proofs.Facts.{seen_append}
use Rattle.mt_import_laws.specs.Origins.{IsAmong, context_after_lines}
use Rattle.mt_import_laws.specs.FirstLine.{takes}
use Rattle.mt_import_laws.specs.Printed.{Key, ReadsBack, TableReadsInOrder, Weaves, is_kernel, number_at, value_in}
use Rattle.mt_import_laws.specs.PrintedByEdk2.{is_valid}
use Rattle.mt_import_laws.specs.PrintedByKernel.{Style, SuitsKernel, default_line, fixed_line, fixed_lines, fixed_runs, kernel_lines, pair_line, pair_lines, range_type, run_line, variable_line}
use Rattle.mt_import_laws.specs.PrintedByLinux.{Log, SuitsLinux, calls_enabled, linux_lines, linux_style}
use Rattle.mt_import_laws.specs.PrintedByXen.{SuitsXen, xen_lines, xen_style}
use Rattle.mt_import_laws.proofs.Among.{all_map, among_map, join_among_first, join_among_second, map_among}
use Rattle.mt_import.specs.Census.{place_of, shows_register}
use Rattle.mt_import_laws.proofs.AutoReads.{text_as}
use Rattle.mt_import_laws.proofs.Taken.{StaysIn, all_stay, takes_printed}
use Rattle.mt_dump.specs.Dumps.{dump_of}
use Rattle.mt_import_laws.proofs.Below.{passes}
use Rattle.mt_import_laws.proofs.KernelLines.{IsKernel, linux, xen, base_place, default_place, default_plain, default_said, default_told, fixed_line_said, fixed_place, fixed_plain, mask_place, off_line_said, off_place, off_plain, pair_line_said, pair_plain, run_line_said, run_place, run_plain, variable_line_said, variable_place, variable_plain}
use Rattle.mt_import_laws.proofs.KernelParts.{bit_clear, bit_set, bit_shown, both_flags, default_part, flag_part, kernel_bits, run_true, tells_default}
use Rattle.mt_import_laws.proofs.KernelWeave.{IsGood, IsWithin, Leads, ShowsTrue, Split, by_line, by_next, by_shows, ends_good, front_sound, front_within, good_join, keeps, line_good, shows_good, split, weaves_among, weaves_itself}
use Rattle.mt_import_laws.proofs.KernelRanges.{IsRun, are_runs, marks, runs_cover}
use Rattle.mt_import_laws.proofs.Keys.{IsKey, is_register_key}
use Rattle.mt_import_laws.proofs.PartsBack.{IsRecent, held_bits, off_value, parts_whole, recent_gathers}
use Rattle.mt_import_laws.proofs.PrintedBack.{IsBack, IsGiven, IsInFile, fits, gathered, gathered_seen, key_in_file, lines_back, one_back, one_by_fact, one_by_slot}
use Rattle.mt_import_laws.proofs.TableLines.{HasReading, IsTrueShown, ShowsKey, all_join, facts_split, gathers, lines_have, tells_whole}
use Rattle.mt_import_laws.proofs.Whole.{IsPart, IsSound, alone as alone_file, known, same_file}

or_second : (a b : Bool) → b ≡ true → (a || b) ≡ true
or_second true b is = refl
or_second false b is = is

with_true : (test : Bool) → (test && true) ≡ test
with_true true = refl
with_true false = refl

-- ---- the table

no_plain : (format : Format) → is_kernel format ≡ true → (place_of format == 9) ≡ false
no_plain Linux is = refl
no_plain Xen is = refl
no_plain Rdmsr is = cc is
no_plain X86info is = cc is
no_plain Inteltool is = cc is
no_plain Coreboot is = cc is
no_plain Edk2 is = cc is
no_plain Chipsec is = cc is
no_plain Windbg is = cc is
no_plain Plain is = cc is

module _ (format : Format) (alone : Bool) (style : Style) (kernel : IsKernel format alone style.front) (some_digits : 1 ≤ style.digits) (few_digits : style.digits ≤ 13)
    (tells : Bool) (file : RegisterFile) (supplied : Supplied) (suits : SuitsKernel tells file supplied)
    (on : style.fixed ≡ true → is_fixed_enabled file ≡ true) (off : style.fixed ≡ false → (alone || is_enabled file) ≡ true → is_fixed_enabled file ≡ false)
    (tells_all : tells ≡ true → (style.fixed || (alone || is_enabled file)) ≡ true) (is_of : is_kernel format ≡ true) where
  abbrev prints : Key → ℕ → Bool
  prints = kernel_bits file

  -- ---- the lines of runs and pairs

  is_run : (run : ℕ × ℕ) → IsAmong run (fixed_runs file) → IsRun (range_type file) 88 run
  is_run run among = are_runs (range_type file) 0 1 87 (lit< tt) alone_first run among
    where
      alone_first : (range : ℕ) → 0 ≤ range → range < 1 → range_type file range ≡ range_type file 0
      alone_first range low high = let e : range ≡ 0 = omega (arith, high) in ap (range_type file) e

  module _ (has : has_fixed file ≡ true) where
    run_shows : (run : ℕ × ℕ) → IsAmong run (fixed_runs file) → ShowsTrue file format (run_line style file run)
    run_shows run among =
        let is = is_run run among in
        let some = is.some in
        let within = is.within in
        let low : run.0 < 88 = omega (arith, some, within) in
        let named = suits.ranges_named has run.0 low in
        record {
          shows = λ number. all_fixed_shown (fixed_run run.0 run.1 (range_type file run.0) (run_place format alone style kernel file run low is.some is.within named number));
          said = run_line_said format alone style kernel file run low is.some is.within named;
          tells = λ number. run_true file run is (run_place format alone style kernel file run low is.some is.within named number);
        }

    runs_show : (line : List ℕ) → IsAmong line (map (run_line style file) (fixed_runs file)) → ShowsTrue file format line
    runs_show line among = let found = among_map (run_line style file) (fixed_runs file) line among in subst (ShowsTrue file format) (sym found.2) (run_shows found.0 found.1)

    runs_plain : AllByRecursion (λ line. list_all is_plain line ≡ true) (map (run_line style file) (fixed_runs file))
    runs_plain = all_map (λ line. list_all is_plain line ≡ true) (run_line style file) (fixed_runs file) (λ run among.
        let is = is_run run among in
        let some = is.some in
        let within = is.within in
        let low : run.0 < 88 = omega (arith, some, within) in
        run_plain format alone style kernel file run low is.some is.within (suits.ranges_named has run.0 low))

  few : (n : ℕ) → n < length file.pairs → n < 32
  few n within = let count = suits.is_file.few_pairs in let all = suits.is_file.all_pairs in omega (arith, within, count, all)

  base_fits : (n : ℕ) → n < length file.pairs → (pair_at file.pairs n).0 < 2 ^ 64
  base_fits n within = fits file (Some (PhysBase n)) suits.is_file suits.has_words within

  mask_fits : (n : ℕ) → n < length file.pairs → (pair_at file.pairs n).1 < 2 ^ 64
  mask_fits n within = fits file (Some (PhysMask n)) suits.is_file suits.has_words within

  abbrev line_of : ℕ → Bool → List ℕ
  line_of n valid = pair_line style n (pair_at file.pairs n) valid

  pair_shows : (n : ℕ) → n < length file.pairs → (valid : Bool) → is_valid (pair_at file.pairs n) ≡ valid → ShowsTrue file format (line_of n valid)
  pair_shows n within true valid =
      let shown_pair = suits.shown_pairs n within valid in
      record {
        shows = λ number. two_shown (shown_as (0x200 + 2 * n) (pair_at file.pairs n).0 (base_place format alone style kernel some_digits few_digits n (few n within) (pair_at file.pairs n) shown_pair.named number))
            (shown_as (0x201 + 2 * n) (pair_at file.pairs n).1 (mask_place format alone style kernel some_digits few_digits n (few n within) (pair_at file.pairs n) shown_pair.named number));
        said = pair_line_said format alone style kernel some_digits few_digits n (few n within) (pair_at file.pairs n) shown_pair.named (base_fits n within) (mask_fits n within) shown_pair.base shown_pair.mask;
        tells = λ number. (
          inl (tells_whole file prints (Some (PhysBase n)) _ (key_in_file file (Some (PhysBase n)) suits.is_file within) refl (base_fits n within)),
          (
            inl (tells_whole file prints (Some (PhysMask n)) _ (key_in_file file (Some (PhysMask n)) suits.is_file within) (rw valid refl) (mask_fits n within)),
            (tt, (tt, (tt, (tt, (tt, (tt, (tt, (tt, (tt, tt))))))))),
          ),
        );
      }
  pair_shows n within false hidden = record {
    shows = λ number. one_shown (shown_bits (0x201 + 2 * n) 0x800 0 (off_place format alone style kernel some_digits few_digits n (few n within) (pair_at file.pairs n) number));
    said = off_line_said format alone style kernel some_digits few_digits n (few n within) (pair_at file.pairs n);
    tells = λ number. (
      inl (record {
        key = Some (PhysMask n);
        is_key = key_in_file file (Some (PhysMask n)) suits.is_file within;
        is_printed = rw hidden refl;
        number = refl;
        small = lit< tt;
        value = sym (bit_clear (pair_at file.pairs n).1 11 hidden);
      }),
      (tt, (tt, (tt, (tt, (tt, (tt, (tt, (tt, (tt, (tt, tt)))))))))),
    );
  }

  -- the line of each pair
  record OfPair (line : List ℕ) : Type 0 where
    n : ℕ
    within : n < length file.pairs
    is : line ≡ line_of n (is_valid (pair_at file.pairs n))

  of_pair : (first : ℕ) (pairs : List (ℕ × ℕ)) → ((k : ℕ) → k < length pairs → (first + k < length file.pairs) × (pair_at pairs k ≡ pair_at file.pairs (first + k))) → (line : List ℕ) → IsAmong line (pair_lines style first pairs) → OfPair line
  of_pair first [] tail line among = absurd among
  of_pair first (pair ∷ pairs) tail line (inl same) =
      let at = tail 0 (omega arith) in
      let e : first + 0 ≡ first = omega arith in
      let pair_is : pair ≡ pair_at file.pairs first = at.1 ∙ ap (pair_at file.pairs) e in
      record { n = first; within = subst (λ k. k < length file.pairs) e at.0; is = sym same ∙ ap (λ (p : ℕ × ℕ). pair_line style first p (is_valid p)) pair_is }
  of_pair first (pair ∷ pairs) tail line (inr later) =
      of_pair (first + 1) pairs (λ k less.
      let at = tail (suc k) (omega (arith, less)) in
      let e : first + suc k ≡ first + 1 + k = omega arith in
      (subst (λ j. j < length file.pairs) e at.0, at.1 ∙ ap (pair_at file.pairs) e)) line later

  own_pairs : (k : ℕ) → k < length file.pairs → (0 + k < length file.pairs) × (pair_at file.pairs k ≡ pair_at file.pairs (0 + k))
  own_pairs k less = let e : k ≡ 0 + k = omega arith in (omega (arith, less), ap (pair_at file.pairs) e)

  pairs_show : (line : List ℕ) → IsAmong line (pair_lines style 0 file.pairs) → ShowsTrue file format line
  pairs_show line among =
      let of = of_pair 0 file.pairs own_pairs line among in
      subst (ShowsTrue file format) (sym of.is) (pair_shows of.n of.within (is_valid (pair_at file.pairs of.n)) refl)

  pair_among : (first : ℕ) (pairs : List (ℕ × ℕ)) (k : ℕ) → k < length pairs → IsAmong (pair_line style (first + k) (pair_at pairs k) (is_valid (pair_at pairs k))) (pair_lines style first pairs)
  pair_among first [] k less = absurd (omega (arith, less))
  pair_among first (pair ∷ pairs) zero less = let e : first ≡ first + 0 = omega arith in inl (ap (λ n. pair_line style n pair (is_valid pair)) e)
  pair_among first (pair ∷ pairs) (suc k) less =
      let e : first + 1 + k ≡ first + suc k = omega arith in
      inr (subst (λ n. IsAmong (pair_line style n (pair_at pairs k) (is_valid (pair_at pairs k))) (pair_lines style (first + 1) pairs)) e (pair_among (first + 1) pairs k (omega (arith, less))))

  -- ---- the heads

  abbrev all_lines : List (List ℕ)
  all_lines = kernel_lines style file

  abbrev tail_lines : List (List ℕ)
  tail_lines = variable_line style file ∷ pair_lines style 0 file.pairs

  -- whether a line on fixed ranges says that they are disabled
  abbrev Says : Bool → Option FixedLine → Type 0
  Says test fixed = is_off fixed 1 ≡ test

  abbrev IsNone : Option FixedLine → Type 0
  IsNone fixed = fixed ≡ None

  -- E, and FE behind a line that calls fixed ranges disabled
  abbrev e_bits : Bool → ℕ
  e_bits test = if is_enabled file && test then 0xc00 else 0x800

  e_small : (test : Bool) → e_bits test < 2 ^ 64
  e_small test = by (is_enabled file && test)
    where
      by : (t : Bool) → (if t then 0xc00 else 0x800) < 2 ^ 64
      by true = lit< tt
      by false = lit< tt

  e_part : (test : Bool) → (test ≡ true → style.fixed ≡ false) → (if is_enabled file then 0x800 else 0) ≡ bit_and file.default_type (e_bits test)
  e_part test disabled = by (is_enabled file) test refl disabled
    where
      by : (e t : Bool) → is_enabled file ≡ e → (t ≡ true → style.fixed ≡ false) → (if e then 0x800 else 0) ≡ bit_and file.default_type (if e && t then 0xc00 else 0x800)
      by true true set is = both_flags file set (off (is refl) (or_second alone (is_enabled file) set))
      by true false set is = flag_part file 11 true set
      by false t clear is = flag_part file 11 false clear

  module _ (test : Bool) (context : Context) (number : ℕ) (is : IsWithin file format 1 (Says test) context) where
    variable_shown : Option Shown
    variable_shown = shown_bits 0x2ff (e_bits test) (if is_enabled file then 0x800 else 0) (variable_place format alone style kernel file number)

    variable_facts : facts_of_line context number (variable_line style file) ≡ is_line number (Some format) true ∷ shows_facts 0 context.table (one_shown variable_shown)
    unfolding variable_shown
    variable_facts = rw (is.format_is, variable_line_said format alone style kernel file number, is.table_is, is.fixed_is) refl

    variable_good : (test ≡ true → style.fixed ≡ false) → IsGood file (facts_of_line context number (variable_line style file))
    unfolding variable_shown
    variable_good disabled =
        subst (IsGood file) (sym variable_facts)
        (line_good file (is_line number (Some format) true) (shows_facts 0 context.table (one_shown variable_shown)) tt tt
        (shows_good file context.table (one_shown variable_shown) is.table_is (
          tells_default file (e_bits test) (if is_enabled file then 0x800 else 0) (variable_place format alone style kernel file number) (e_small test) (e_part test disabled),
          (tt, (tt, (tt, (tt, (tt, (tt, (tt, (tt, (tt, (tt, tt)))))))))),
        )))

    variable_next : IsWithin file format 1 (Says test) (context_behind context number (variable_line style file))
    variable_next =
        keeps file format 1 (Says test) context number (variable_line style file) (VariableRanges (is_enabled file) (variable_place format alone style kernel file number)) (variable_line_said format alone style kernel file number) refl refl refl is

  tail_good : (test : Bool) → (test ≡ true → style.fixed ≡ false) → Leads file format is_of suits.is_file (IsGood file) (good_join file) (Says test) tail_lines
  tail_good test disabled =
      by_next file format is_of suits.is_file (IsGood file) (good_join file) (variable_line style file) (pair_lines style 0 file.pairs) (Says test) (Says test) (λ context number is. (variable_good test context number is disabled, variable_next test context number is))
      (subst (Leads file format is_of suits.is_file (IsGood file) (good_join file) (Says test)) (append-nil (pair_lines style 0 file.pairs))
      (by_shows file format is_of suits.is_file (IsGood file) (good_join file) (pair_lines style 0 file.pairs) [] (Says test) pairs_show (ends_good file format is_of suits.is_file (Says test))))

  -- ---- a reading that a line of the heads shows

  -- facts with these bits of IA32_MTRR_DEF_TYPE
  abbrev HasBits : ℕ → List Fact → Type 0
  HasBits bits = HasReading (Some DefaultType) bits

  bits_shown : (fact : Fact) (table bits value : ℕ) (place : Place) (others : List (Option Shown)) → HasBits bits (fact ∷ shows_facts 0 table (shown_bits 0x2ff bits value place ∷ others))
  bits_shown fact table bits value place others = record {
    reading = record { processor = 0; table = table; number = 0x2ff; bits = bits; value = value; place = place };
    among = rw (is_register_key (Some DefaultType) tt) (inr (inl refl));
    number = refl;
    bits = refl;
  }

  has_first : (bits : ℕ) (a b : List Fact) → HasBits bits a → HasBits bits (a ++ b)
  has_first bits a b has = record { reading = has.reading; among = join_among_first a b _ has.among; number = has.number; bits = has.bits }

  has_later : (bits : ℕ) (a b : List Fact) → HasBits bits b → HasBits bits (a ++ b)
  has_later bits a b has = record { reading = has.reading; among = join_among_second a b _ has.among; number = has.number; bits = has.bits }

  abbrev LeadsTo : ℕ → (Option FixedLine → Type 0) → List (List ℕ) → Type 0
  LeadsTo bits = Leads file format is_of suits.is_file (HasBits bits) (λ a b good has. has_later bits a b has)

  tail_has : (test : Bool) → LeadsTo (e_bits test) (Says test) tail_lines
  unfolding variable_shown
  tail_has test =
      by_line file format is_of suits.is_file (HasBits (e_bits test)) (λ a b good has. has_later (e_bits test) a b has) (has_first (e_bits test)) (variable_line style file) (pair_lines style 0 file.pairs) (Says test) (λ context number is.
      subst (HasBits (e_bits test)) (sym (variable_facts test context number is))
      (bits_shown (is_line number (Some format) true) context.table (e_bits test) (if is_enabled file then 0x800 else 0) (variable_place format alone style kernel file number) (None ∷ replicate 9 None)))

  -- ---- the first line

  module _ (context : Context) (number : ℕ) (is : IsWithin file format 0 IsNone context) where
    default_shown_as : Option Shown
    default_shown_as = shown_bits 0x2ff 0xfffffffffffff3ff (low_byte file.default_type) (default_place format alone style kernel file suits.default_named number)

    default_facts : facts_of_line context number (default_line style file) ≡ is_line number (Some format) true ∷ shows_facts 0 1 (one_shown default_shown_as)
    unfolding default_shown_as
    default_facts = rw (is.format_is, default_said format alone style kernel file suits.default_named number, is.table_is) refl

    default_next : IsWithin file format 1 IsNone (context_behind context number (default_line style file))
    default_next = record {
      format_is = rw is.format_is refl;
      processor_is = rw (is.format_is, default_said format alone style kernel file suits.default_named number) is.processor_is;
      table_is = rw (is.format_is, default_said format alone style kernel file suits.default_named number, is.table_is) refl;
      fixed_is = rw (is.format_is, default_said format alone style kernel file suits.default_named number) is.fixed_is;
    }

    default_good : IsGood file (facts_of_line context number (default_line style file))
    unfolding default_shown_as
    default_good =
        subst (IsGood file) (sym default_facts)
        (line_good file (is_line number (Some format) true) (shows_facts 0 1 (one_shown default_shown_as)) tt tt
        (shows_good file 1 (one_shown default_shown_as) refl (
          tells_default file 0xfffffffffffff3ff (low_byte file.default_type) (default_place format alone style kernel file suits.default_named number) (lit< tt)
              (default_part file file.default_type suits.default_reserved.0 suits.default_reserved.1),
          (tt, (tt, (tt, (tt, (tt, (tt, (tt, (tt, (tt, (tt, tt)))))))))),
        )))

    default_has : HasBits 0xfffffffffffff3ff (facts_of_line context number (default_line style file))
    unfolding default_shown_as
    default_has =
        subst (HasBits 0xfffffffffffff3ff) (sym default_facts)
        (bits_shown (is_line number (Some format) true) 1 0xfffffffffffff3ff (low_byte file.default_type) (default_place format alone style kernel file suits.default_named number) (None ∷ replicate 9 None))

  -- ---- the line on fixed ranges

  fixed_place_of : ℕ → Place
  fixed_place_of number = fixed_place format alone style kernel number

  flag_true : (place : Place) → IsTrueShown file prints (flag_shown style.fixed alone place)
  flag_true place = by style.fixed alone refl refl
    where
      by : (f a : Bool) → style.fixed ≡ f → alone ≡ a → IsTrueShown file prints (if f || a then shown_bits 0x2ff 0x400 (if f then 0x400 else 0) place else None)
      by true a is is_alone = tells_default file 0x400 0x400 place (lit< tt) (flag_part file 10 true (on is))
      by false true is is_alone = tells_default file 0x400 0 place (lit< tt) (flag_part file 10 false (off is (rw is_alone refl)))
      by false false is is_alone = tt

  not_off : not style.fixed ≡ true → style.fixed ≡ false
  not_off = by style.fixed
    where
      by : (f : Bool) → not f ≡ true → f ≡ false
      by true is = cc is
      by false is = refl

  none_off : false ≡ true → style.fixed ≡ false
  none_off is = cc is

  module _ (context : Context) (number : ℕ) (is : IsWithin file format 1 IsNone context) where
    fixed_shown_facts : facts_of_line context number (fixed_line style) ≡ is_line number (Some format) true ∷ shows_facts 0 context.table (fixed_shows style.fixed alone (fixed_place_of number))
    unfolding fixed_place_of
    fixed_shown_facts = rw (is.format_is, fixed_line_said format alone style kernel number, is.fixed_is) refl

    fixed_next : IsWithin file format 1 (Says (not style.fixed)) (context_behind context number (fixed_line style))
    unfolding fixed_place_of
    fixed_next = record {
      format_is = rw is.format_is refl;
      processor_is = rw (is.format_is, fixed_line_said format alone style kernel number) is.processor_is;
      table_is = rw (is.format_is, fixed_line_said format alone style kernel number) is.table_is;
      fixed_is = rw (is.format_is, fixed_line_said format alone style kernel number, is.table_is) (with_true (not style.fixed));
    }

    fixed_good : has_fixed file ≡ true → IsGood file (facts_of_line context number (fixed_line style))
    fixed_good has =
        subst (IsGood file) (sym fixed_shown_facts)
        (line_good file (is_line number (Some format) true) (shows_facts 0 context.table (fixed_shows style.fixed alone (fixed_place_of number))) tt tt
        (shows_good file context.table (fixed_shows style.fixed alone (fixed_place_of number)) is.table_is (
          flag_true (fixed_place_of number),
          (
            inl (record { key = None; is_key = tt; is_printed = refl; number = refl; small = lit< tt; value = sym (bit_set file.capabilities 8 has) }),
            (tt, (tt, (tt, (tt, (tt, (tt, (tt, (tt, (tt, tt))))))))),
          ),
        )))

    fixed_has : (style.fixed || alone) ≡ true → HasBits 0x400 (facts_of_line context number (fixed_line style))
    fixed_has shows =
        let flag : flag_shown style.fixed alone (fixed_place_of number) ≡ shown_bits 0x2ff 0x400 (if style.fixed then 0x400 else 0) (fixed_place_of number) = rw shows refl in
        subst (HasBits 0x400) (sym (fixed_shown_facts ∙ ap (λ (o : Option Shown). is_line number (Some format) true ∷ shows_facts 0 context.table (two_shown o (shown_bits 0xfe 0x100 0x100 (fixed_place_of number)))) flag))
        (bits_shown (is_line number (Some format) true) context.table 0x400 (if style.fixed then 0x400 else 0) (fixed_place_of number) (shown_bits 0xfe 0x100 0x100 (fixed_place_of number) ∷ replicate 9 None))

  module _ (has : has_fixed file ≡ true) where
    abbrev fixed_part : List (List ℕ)
    fixed_part = fixed_lines style file true ++ tail_lines

    runs_good : Leads file format is_of suits.is_file (IsGood file) (good_join file) IsNone fixed_part
    runs_good =
        by_next file format is_of suits.is_file (IsGood file) (good_join file) (fixed_line style) (map (run_line style file) (fixed_runs file) ++ tail_lines) IsNone (Says (not style.fixed))
        (λ context number is. (fixed_good context number is has, fixed_next context number is))
        (by_shows file format is_of suits.is_file (IsGood file) (good_join file) (map (run_line style file) (fixed_runs file)) tail_lines (Says (not style.fixed)) (runs_show has) (tail_good (not style.fixed) not_off))

    runs_have : LeadsTo (e_bits (not style.fixed)) IsNone fixed_part
    runs_have =
        by_next file format is_of suits.is_file (HasBits (e_bits (not style.fixed))) (λ a b good later. has_later (e_bits (not style.fixed)) a b later) (fixed_line style) (map (run_line style file) (fixed_runs file) ++ tail_lines) IsNone (Says (not style.fixed))
        (λ context number is. (fixed_good context number is has, fixed_next context number is))
        (by_shows file format is_of suits.is_file (HasBits (e_bits (not style.fixed))) (λ a b good later. has_later (e_bits (not style.fixed)) a b later) (map (run_line style file) (fixed_runs file)) tail_lines (Says (not style.fixed)) (runs_show has)
        (tail_has (not style.fixed)))

  abbrev IsPlainLine : List ℕ → Type 0
  IsPlainLine line = list_all is_plain line ≡ true

  fixed_lines_plain : (test : Bool) → has_fixed file ≡ test → AllByRecursion IsPlainLine (fixed_lines style file test)
  fixed_lines_plain true has = (fixed_plain format alone style kernel, runs_plain has)
  fixed_lines_plain false none = tt

  pair_line_plain : (n : ℕ) → n < length file.pairs → (valid : Bool) → is_valid (pair_at file.pairs n) ≡ valid → IsPlainLine (line_of n valid)
  pair_line_plain n within true valid = pair_plain format alone style kernel some_digits few_digits n (few n within) (pair_at file.pairs n) (suits.shown_pairs n within valid).named
  pair_line_plain n within false hidden = off_plain format alone style kernel some_digits few_digits n (few n within) (pair_at file.pairs n)

  all_among : (P : List ℕ → Type 0) (lines : List (List ℕ)) → ((line : List ℕ) → IsAmong line lines → P line) → AllByRecursion P lines
  all_among P [] each = tt
  all_among P (line ∷ lines) each = (each line (inl refl), all_among P lines (λ l among. each l (inr among)))

  pair_lines_plain : AllByRecursion IsPlainLine (pair_lines style 0 file.pairs)
  pair_lines_plain = all_among IsPlainLine (pair_lines style 0 file.pairs) (λ line among.
      let of = of_pair 0 file.pairs own_pairs line among in
      subst IsPlainLine (sym of.is) (pair_line_plain of.n of.within (is_valid (pair_at file.pairs of.n)) refl))

  table_plain : AllByRecursion (λ line. list_all is_plain line ≡ true) all_lines
  table_plain = (
    default_plain format alone style kernel file suits.default_named,
    all_join IsPlainLine (fixed_lines style file (has_fixed file)) tail_lines (fixed_lines_plain (has_fixed file) refl) (variable_plain format alone style kernel file, pair_lines_plain),
  )

  -- ---- a log in which the table stands

  abbrev rest : Bool → List (List ℕ)
  rest test = fixed_lines style file test ++ tail_lines

  no_line_off : (fixed : Option FixedLine) → fixed ≡ None → is_off fixed 1 ≡ false
  no_line_off fixed none = rw none refl

  no_line : (Q : List Fact → Type 0) (grow : (a b : List Fact) → IsGood file a → Q b → Q (a ++ b)) → Leads file format is_of suits.is_file Q grow (Says false) tail_lines → Leads file format is_of suits.is_file Q grow IsNone tail_lines
  no_line Q grow leads log context number weaves is = leads log context number weaves (record { format_is = is.format_is; processor_is = is.processor_is; table_is = is.table_is; fixed_is = no_line_off context.fixed is.fixed_is })

  rest_good : (test : Bool) → has_fixed file ≡ test → Leads file format is_of suits.is_file (IsGood file) (good_join file) IsNone (rest test)
  rest_good true has = runs_good has
  rest_good false none = no_line (IsGood file) (good_join file) (tail_good false none_off)

  first_within : IsWithin file format 0 IsNone (starts (Some format))
  first_within = record { format_is = refl; processor_is = refl; table_is = refl; fixed_is = refl }

  -- the heading, and what stands behind it
  behind_default : (Q : List Fact → Type 0) (grow : (a b : List Fact) → IsGood file a → Q b → Q (a ++ b)) → Leads file format is_of suits.is_file Q grow IsNone (rest (has_fixed file))
      → (context : Context) (number : ℕ) (behind : List (List ℕ)) → IsWithin file format 0 IsNone context → Weaves format file (rest (has_fixed file)) behind → Q (facts_from context number (default_line style file ∷ behind))
  behind_default Q grow leads context number behind is weaves =
      grow (facts_of_line context number (default_line style file)) (facts_from (context_behind context number (default_line style file)) (number + 1) behind) (default_good context number is)
      (leads behind (context_behind context number (default_line style file)) (number + 1) weaves (default_next context number is))

  module _ (log : List (List ℕ)) (found : Split format file (default_line style file) (rest (has_fixed file)) log) where
    -- the lines in front of the table, and those from its heading on
    abbrev at_table : Context
    at_table = context_after_lines (starts (Some format)) 1 found.front

    abbrev line_number : ℕ
    line_number = 1 + length found.front

    abbrev front_facts : List Fact
    front_facts = facts_from (starts (Some format)) 1 found.front

    abbrev table_log : List (List ℕ)
    table_log = default_line style file ∷ found.behind

    abbrev table_facts : List Fact
    table_facts = facts_from at_table line_number table_log

    abbrev facts : List Fact
    facts = front_facts ++ table_facts

    table_within : IsWithin file format 0 IsNone at_table
    table_within = front_within file format 0 IsNone found.front (starts (Some format)) 1 found.others first_within

    table_good : IsGood file table_facts
    table_good = behind_default (IsGood file) (good_join file) (rest_good (has_fixed file) refl) at_table line_number found.behind table_within found.weaves

    all_sound : AllByRecursion (IsSound (same_file file) 1 prints) facts
    all_sound =
        all_join (IsSound (same_file file) 1 prints) front_facts table_facts (front_sound file format is_of suits.is_file found.front (starts (Some format)) 1 refl refl found.others) table_good.sound

    -- each bit of IA32_MTRR_DEF_TYPE where FE is shown
    has_fe : has_fixed file ≡ true → (style.fixed || alone) ≡ true → HasBits 0x400 table_facts
    has_fe has shows =
        behind_default (HasBits 0x400) (λ a b good later. has_later 0x400 a b later)
        (subst (λ test. LeadsTo 0x400 IsNone (rest test)) (sym has)
        (by_line file format is_of suits.is_file (HasBits 0x400) (λ a b good later. has_later 0x400 a b later) (has_first 0x400) (fixed_line style) (map (run_line style file) (fixed_runs file) ++ tail_lines) IsNone
        (λ context number is. fixed_has context number is shows)))
        at_table line_number found.behind table_within found.weaves

    has_e : has_fixed file ≡ true → HasBits (e_bits (not style.fixed)) table_facts
    has_e has =
        behind_default (HasBits (e_bits (not style.fixed))) (λ a b good later. has_later (e_bits (not style.fixed)) a b later)
        (subst (λ test. LeadsTo (e_bits (not style.fixed)) IsNone (rest test)) (sym has) (runs_have has)) at_table line_number found.behind table_within found.weaves

    has_others : HasBits 0xfffffffffffff3ff table_facts
    has_others =
        has_first 0xfffffffffffff3ff (facts_of_line at_table line_number (default_line style file)) (facts_from (context_behind at_table line_number (default_line style file)) (line_number + 1) found.behind)
        (default_has at_table line_number table_within)

    record HasBit (i : ℕ) : Type 0 where
      bits : ℕ
      has : HasBits bits table_facts
      one : bit_at bits i ≡ 1

    other_bit : (i : ℕ) → i < 64 → (i == 10 || i == 11) ≡ false → bit_at 0xfffffffffffff3ff i ≡ 1
    other_bit i within apart = by (i == 10 || i == 11) apart (passes (λ k. (k == 10 || k == 11) || bit_at 0xfffffffffffff3ff k == 1) 64 i refl within)
      where
        by : (test : Bool) → test ≡ false → (test || bit_at 0xfffffffffffff3ff i == 1) ≡ true → bit_at 0xfffffffffffff3ff i ≡ 1
        by true is one = cc is
        by false is one = eqb-true (bit_at 0xfffffffffffff3ff i) 1 one

    e_bit : bit_at (e_bits (not style.fixed)) 11 ≡ 1
    e_bit = by (is_enabled file && not style.fixed)
      where
        by : (test : Bool) → bit_at (if test then 0xc00 else 0x800) 11 ≡ 1
        by true = refl
        by false = refl

    fe_bit : has_fixed file ≡ true → tells ≡ true → HasBit 10
    fe_bit has told = by style.fixed alone (is_enabled file) refl refl refl (tells_all told)
      where
        by : (f a e : Bool) → style.fixed ≡ f → alone ≡ a → is_enabled file ≡ e → (style.fixed || (alone || is_enabled file)) ≡ true → HasBit 10
        by true a e is is_alone is_on some = record { bits = 0x400; has = has_fe has (rw is refl); one = refl }
        by false true e is is_alone is_on some = record { bits = 0x400; has = has_fe has (rw (is, is_alone) refl); one = refl }
        by false false true is is_alone is_on some = record { bits = e_bits (not style.fixed); has = has_e has; one = rw (is, is_on) refl }
        by false false false is is_alone is_on some = let none : false ≡ true = rw (is, is_alone, is_on) at some in cc none

    each_bit : has_fixed file ≡ true → tells ≡ true → (i : ℕ) → i < 64 → HasBit i
    each_bit has told i within = by (i == 10) (i == 11) refl refl
      where
        by : (ten eleven : Bool) → (i == 10) ≡ ten → (i == 11) ≡ eleven → HasBit i
        by true eleven is other = subst HasBit (sym (eqb-true i 10 is)) (fe_bit has told)
        by false true other is = subst HasBit (sym (eqb-true i 11 is)) (record { bits = e_bits (not style.fixed); has = has_e has; one = e_bit })
        by false false other another = record {
          bits = 0xfffffffffffff3ff;
          has = has_others;
          one = other_bit i within (rw (other, another) refl);
        }

    -- ---- the registers

    abbrev Back : Key → Type 0
    Back = IsBack (same_file file) format supplied facts 0

    is_key : (key : Key) → IsInFile file key → IsKey key
    is_key key within = key_in_file file key suits.is_file within

    abbrev readings : List Reading
    readings = (gathered format facts).readings

    parts : AllByRecursion (IsPart (same_file file) 1 prints) readings
    parts = (gathered_seen (same_file file) 1 prints format supplied (alone_file file suits.is_file) (λ k less. suits.has_words) facts all_sound).readings

    -- what the table shows is among all facts
    in_all : (key : Key) (bits : ℕ) → HasReading key bits table_facts → HasReading key bits facts
    in_all key bits has = record { reading = has.reading; among = join_among_second front_facts table_facts _ has.among; number = has.number; bits = has.bits }

    among_readings : (key : Key) (bits : ℕ) (has : HasReading key bits table_facts) → IsAmong has.reading readings
    among_readings key bits has = gathers facts (nothing_seen (Some format)) has.reading (inl (join_among_second front_facts table_facts _ has.among))

    recent : (key : Key) (bits : ℕ) (has : HasReading key bits table_facts) → IsRecent 1 readings has.reading
    recent key bits has =
        subst (λ (s : Seen). IsRecent 1 s.readings has.reading) (sym (seen_append (nothing_seen (Some format)) front_facts table_facts))
        (recent_gathers 1 table_facts (seen_after (nothing_seen (Some format)) front_facts) has.reading table_good.table (inl has.among))

    whole_by : (key : Key) → IsInFile file key → ((i : ℕ) → i < 64 → (bits : ℕ) × HasReading key bits table_facts × (bit_at bits i ≡ 1)) → Back key
    whole_by key within each =
        one_by_slot file prints format supplied suits.is_file suits.has_words facts all_sound key within
        (parts_whole file prints key (is_key key within) 1 readings parts (λ i less.
        let found_bit = each i less in
        record { reading = found_bit.1.reading; recent = recent key found_bit.0 found_bit.1; number = found_bit.1.number; one = ap (λ b. bit_at b i) found_bit.1.bits ∙ found_bit.2 }))

    by_fact : (key : Key) → IsInFile file key → HasReading key all_bits table_facts ⊎ IsGiven supplied file key → Back key
    by_fact key within (inl has) = one_by_fact file prints format supplied suits.is_file suits.has_words facts all_sound key within (inl (in_all key all_bits has))
    by_fact key within (inr given) = one_by_fact file prints format supplied suits.is_file suits.has_words facts all_sound key within (inr given)

    by_word : (key : Key) → IsInFile file key → supplied_value supplied (number_at key) ≡ Some (value_in file key) → Back key
    by_word key within given = by_fact key within (inr given)

    default_back : (test : Bool) → (has_fixed file && tells) ≡ test → Back (Some DefaultType)
    default_back true is =
        let both = and_parts (has_fixed file) tells is in
        whole_by (Some DefaultType) tt (λ i less. let bit = each_bit both.0 both.1 i less in (bit.bits, bit.has, bit.one))
    default_back false is = by_word (Some DefaultType) tt (suits.default_given is)

    -- what a line of the table shows
    has_line : (key : Key) (bits : ℕ) (line : List ℕ) → IsInFile file key → IsAmong line all_lines → ((number : ℕ) → ShowsKey key bits (said_of format number line)) → HasReading key bits table_facts
    has_line key bits line within among shows =
        lines_have format table_log at_table line_number key bits line table_within.format_is (is_key key within)
        (weaves_among format file all_lines table_log line (inl (refl, found.weaves)) among) shows

    run_among : has_fixed file ≡ true → (run : ℕ × ℕ) → IsAmong run (fixed_runs file) → IsAmong (run_line style file run) all_lines
    run_among has run among =
        inr (subst (λ test. IsAmong (run_line style file run) (rest test)) (sym has)
        (join_among_first (fixed_lines style file true) tail_lines (run_line style file run) (inr (map_among (run_line style file) (fixed_runs file) run among))))

    fixed_back : (place : ℕ) → place < 11 → has_fixed file ≡ true → Back (Some (FixedRange place))
    fixed_back place less has = whole_by (Some (FixedRange place)) (less, has) (λ i within.
        let run = runs_cover (range_type file) 0 1 87 (8 * place + i / 8) (omega arith) (omega (arith, less, within)) in
        let is = is_run run.run run.among in
        let some = is.some in
        let high = is.within in
        let low : run.run.0 < 88 = omega (arith, some, high) in
        let named = suits.ranges_named has run.run.0 low in (
          255 * marks run.run.0 run.run.1 8 (8 * place),
          has_line (Some (FixedRange place)) (255 * marks run.run.0 run.run.1 8 (8 * place)) (run_line style file run.run) (less, has) (run_among has run.run run.among) (λ number.
              let part = (bit_shown file run.run is (run_place format alone style kernel file run.run low is.some is.within named number) place i less within run.low run.high).0 in
              record {
                processor = Some 0;
                shows = all_fixed_shown (fixed_run run.run.0 run.run.1 (range_type file run.run.0) (run_place format alone style kernel file run.run low is.some is.within named number));
                shown = part.shown;
                said_is = run_line_said format alone style kernel file run.run low is.some is.within named number;
                among = part.among;
                number = part.number;
                bits = part.bits;
              }),
          (bit_shown file run.run is (run_place format alone style kernel file run.run low is.some is.within named 0) place i less within run.low run.high).1,
        ))

    -- ---- pairs

    pair_line_among : (n : ℕ) → n < length file.pairs → (valid : Bool) → is_valid (pair_at file.pairs n) ≡ valid → IsAmong (line_of n valid) all_lines
    pair_line_among n within valid is =
        let e : 0 + n ≡ n = omega arith in
        let own : IsAmong (line_of n (is_valid (pair_at file.pairs n))) (pair_lines style 0 file.pairs) =
        subst (λ k. IsAmong (pair_line style k (pair_at file.pairs n) (is_valid (pair_at file.pairs n))) (pair_lines style 0 file.pairs)) e (pair_among 0 file.pairs n within) in
        inr (join_among_second (fixed_lines style file (has_fixed file)) tail_lines (line_of n valid) (inr (subst (λ v. IsAmong (line_of n v) (pair_lines style 0 file.pairs)) is own)))

    off_bits : (n : ℕ) → n < length file.pairs → is_valid (pair_at file.pairs n) ≡ false → (slot_shown readings 0 (0x201 + 2 * n)).bits ≡ 0x800
    off_bits n within hidden =
        let key : Key = Some (PhysMask n) in
        let has = has_line key 0x800 (line_of n false) within (pair_line_among n within false hidden) (λ number. record {
          processor = Some 0;
          shows = one_shown (shown_bits (0x201 + 2 * n) 0x800 0 (off_place format alone style kernel some_digits few_digits n (few n within) (pair_at file.pairs n) number));
          shown = record { number = 0x201 + 2 * n; bits = 0x800; value = 0; place = off_place format alone style kernel some_digits few_digits n (few n within) (pair_at file.pairs n) number };
          said_is = off_line_said format alone style kernel some_digits few_digits n (few n within) (pair_at file.pairs n) number;
          among = inl refl;
          number = refl;
          bits = refl;
        }) in
        held_bits file prints key (is_key key within) 1 0x800 only readings has.reading parts (among_readings key 0x800 has) has.number
      where
        only : (bits : ℕ) → (is_valid (pair_at file.pairs n) || bits == 0x800) ≡ true → bits ≡ 0x800
        only bits some = eqb-true bits 0x800 (by (is_valid (pair_at file.pairs n)) (bits == 0x800) hidden some)
          where
            by : (valid test : Bool) → valid ≡ false → (valid || test) ≡ true → test ≡ true
            by true test is either = cc is
            by false test is either = either

    is_off_slot : (n : ℕ) → n < length file.pairs → is_valid (pair_at file.pairs n) ≡ false → is_disabled (slot_shown readings 0 (0x201 + 2 * n)) ≡ true
    is_off_slot n within hidden =
        let bits = off_bits n within hidden in
        let shown = (known (same_file file) 1 prints readings 0 (Some (PhysMask n)) parts (is_key (Some (PhysMask n)) within)).shows in
        let zero_value : (slot_shown readings 0 (0x201 + 2 * n)).value ≡ 0 = shown ∙ ap (bit_and (pair_at file.pairs n).1) bits ∙ bit_clear (pair_at file.pairs n).1 11 hidden in
        rw (bits, zero_value) refl

    pair_numbers : (n : ℕ) → n < 32 → (is_pair_number (0x200 + 2 * n) ≡ true) × (is_pair_number (0x201 + 2 * n) ≡ true)
    pair_numbers n small = (between (0x200 + 2 * n) (omega arith) (omega (arith, small)), between (0x201 + 2 * n) (omega arith) (omega (arith, small)))
      where
        between : (number : ℕ) → 0x200 ≤ number → number < 0x240 → is_pair_number number ≡ true
        between number low high = rw (lt-ltb 0x1ff number (omega (arith, low)), lt-ltb number 0x240 high) refl

    off_back : (key : Key) (n : ℕ) → (within : n < length file.pairs) → is_valid (pair_at file.pairs n) ≡ false → IsInFile file key → is_pair_number (number_at key) ≡ true → mask_of (number_at key) ≡ 0x201 + 2 * n
        → (value_in file key ≡ 0) ⊎ (supplied_value supplied (number_at key) ≡ Some (value_in file key)) → Back key
    off_back key n within hidden inside pair mask zero_or_word =
        off_value file supplied suits.is_file suits.agrees (gathered format facts) key (is_key key inside) (fits file key suits.is_file suits.has_words inside) (known (same_file file) 1 prints readings 0 key parts (is_key key inside)) pair
        (ap (λ number. is_disabled (slot_shown readings 0 number)) mask ∙ is_off_slot n within hidden) zero_or_word

    whole_pair : (key : Key) (n : ℕ) (within : n < length file.pairs) → is_valid (pair_at file.pairs n) ≡ true → IsInFile file key → ((number : ℕ) → ShowsKey key all_bits (said_of format number (line_of n true))) → Back key
    whole_pair key n within valid inside shows =
        by_fact key inside (inl (has_line key all_bits (line_of n true) inside (pair_line_among n within true valid) shows))

    base_back : (n : ℕ) (within : n < length file.pairs) (valid : Bool) → is_valid (pair_at file.pairs n) ≡ valid → Back (Some (PhysBase n))
    base_back n within true valid =
        let pair = suits.shown_pairs n within valid in
        whole_pair (Some (PhysBase n)) n within valid within (λ number. record {
          processor = Some 0;
          shows = _;
          shown = _;
          said_is = pair_line_said format alone style kernel some_digits few_digits n (few n within) (pair_at file.pairs n) pair.named (base_fits n within) (mask_fits n within) pair.base pair.mask number;
          among = inl refl;
          number = refl;
          bits = refl;
        })
    base_back n within false hidden =
        let mask : mask_of (0x200 + 2 * n) ≡ 0x201 + 2 * n = omega arith in
        off_back (Some (PhysBase n)) n within hidden within (pair_numbers n (few n within)).0 mask (suits.off_pairs n within hidden).base

    mask_back : (n : ℕ) (within : n < length file.pairs) (valid : Bool) → is_valid (pair_at file.pairs n) ≡ valid → Back (Some (PhysMask n))
    mask_back n within true valid =
        let pair = suits.shown_pairs n within valid in
        whole_pair (Some (PhysMask n)) n within valid within (λ number. record {
          processor = Some 0;
          shows = _;
          shown = _;
          said_is = pair_line_said format alone style kernel some_digits few_digits n (few n within) (pair_at file.pairs n) pair.named (base_fits n within) (mask_fits n within) pair.base pair.mask number;
          among = inr (inl refl);
          number = refl;
          bits = refl;
        })
    mask_back n within false hidden =
        let mask : mask_of (0x201 + 2 * n) ≡ 0x201 + 2 * n = omega arith in
        off_back (Some (PhysMask n)) n within hidden within (pair_numbers n (few n within)).1 mask (suits.off_pairs n within hidden).mask

    -- ---- all of them

    each_back : (key : Key) → IsInFile file key → Back key
    each_back None within = by_word None tt suits.capabilities
    each_back (Some (PhysBase n)) within = base_back n within (is_valid (pair_at file.pairs n)) refl
    each_back (Some (PhysMask n)) within = mask_back n within (is_valid (pair_at file.pairs n)) refl
    each_back (Some (FixedRange place)) within = fixed_back place within.0 within.1
    each_back (Some Pat) within = by_word (Some Pat) tt suits.pat
    each_back (Some DefaultType) within = default_back (has_fixed file && tells) refl

    pub log_back : ReadsBack (facts_outcome false supplied (nothing_seen (Some format)) (facts_from (starts (Some format)) 1 log)) file
    log_back =
        subst (λ fs. ReadsBack (facts_outcome false supplied (nothing_seen (Some format)) fs) file) (sym (ap (facts_from (starts (Some format)) 1) found.log_is ∙ facts_split found.front (starts (Some format)) 1 table_log))
        (one_back file prints format supplied suits.is_file suits.has_words facts all_sound suits.agrees (inl suits.width) each_back)

  -- ---- the format that is taken

  true_stays : (line : List ℕ) → ShowsTrue file format line → StaysIn format line
  true_stays line shows number = inl (ap is_match (shows.said number))

  fixed_lines_stay : (test : Bool) → has_fixed file ≡ test → AllByRecursion (StaysIn format) (fixed_lines style file test)
  fixed_lines_stay true has = (
    λ number. inl (ap is_match (fixed_line_said format alone style kernel number)),
    all_map (StaysIn format) (run_line style file) (fixed_runs file) (λ run among. true_stays (run_line style file run) (run_shows has run among)),
  )
  fixed_lines_stay false none = tt

  others_stay : AllByRecursion (StaysIn format) (fixed_lines style file (has_fixed file) ++ tail_lines)
  others_stay = all_join (StaysIn format) (fixed_lines style file (has_fixed file)) tail_lines (fixed_lines_stay (has_fixed file) refl) (
    λ number. inl (ap is_match (variable_line_said format alone style kernel file number)),
    all_among (StaysIn format) (pair_lines style 0 file.pairs) (λ line among. true_stays line (pairs_show line among)),
  )

  table_taken : (place_of format == 9) ≡ false → takes all_lines ≡ Some format
  table_taken last =
      let said = default_said format alone style kernel file suits.default_named 1 in
      takes_printed format last all_lines 1 (inl (default_told format alone style kernel file suits.default_named 1, ap is_match said, ap shows_register said ∙ rw (is_register_key (Some DefaultType) tt) refl, all_stay format 1 _ others_stay))

  pub reads : TableReadsInOrder format (kernel_lines style file) supplied file
  reads = record {
    alone =
        let same : shown (Some format) (ended all_lines) ≡ facts_from (starts (Some format)) 1 all_lines = ap (facts_from (starts (Some format)) 1) (lines_back all_lines table_plain) in
        text_as format supplied (dump_of file) all_lines table_plain (table_taken (no_plain format is_of))
        (subst (λ fs. ReadsBack (facts_outcome false supplied (nothing_seen (Some format)) fs) file) (sym same) (log_back all_lines (split format file (default_line style file) (rest (has_fixed file)) all_lines (weaves_itself format file all_lines))));
    among = λ text weaves. log_back (lines_of text) (split format file (default_line style file) (rest (has_fixed file)) (lines_of text) weaves);
  }

-- ---- the two kernels

pub xen_reads : (file : RegisterFile) (supplied : Supplied) → SuitsXen file supplied → TableReadsInOrder Xen (xen_lines file) supplied file
xen_reads file supplied suits =
    let wide = suits.is_file.wide in
    let narrow = suits.is_file.narrow in
    reads Xen true (xen_style file) xen (omega (arith, wide)) (omega (arith, narrow)) true file supplied suits (λ is. is) (λ is some. is) (λ is. either (is_fixed_enabled file)) refl
  where
    either : (test : Bool) → (test || true) ≡ true
    either true = refl
    either false = refl

pub linux_reads : (log : Log) (file : RegisterFile) (supplied : Supplied) → SuitsLinux log file supplied → TableReadsInOrder Linux (linux_lines log file) supplied file
linux_reads log file supplied suits =
    let narrow = suits.kernel.is_file.narrow in
    reads Linux false (linux_style log file) (linux log.time suits.short suits.visible) (omega arith) (omega (arith, narrow)) (is_enabled file || calls_enabled log.since_4_3 file) file supplied suits.kernel
    (called log.since_4_3) (not_called log.since_4_3) (λ is. swap (is_enabled file) (calls_enabled log.since_4_3 file) is) refl
  where
    called : (since : Bool) → calls_enabled since file ≡ true → is_fixed_enabled file ≡ true
    called true is = (and_parts (is_enabled file) (is_fixed_enabled file) is).1
    called false is = is

    not_called : (since : Bool) → calls_enabled since file ≡ false → is_enabled file ≡ true → is_fixed_enabled file ≡ false
    not_called true is set = by (is_enabled file) (is_fixed_enabled file) set is
      where
        by : (e f : Bool) → e ≡ true → (e && f) ≡ false → f ≡ false
        by true f set none = none
        by false f set none = cc set
    not_called false is set = is

    swap : (a b : Bool) → (a || b) ≡ true → (b || (false || a)) ≡ true
    swap a true is = refl
    swap true false is = refl
    swap false false is = cc is
