-- What x86info prints reads back.
use Rattle.std.proofs.Common.{◌≡◌, ◌∙◌, ◌+◌, ◌-◌, ◌*◌, ◌^◌, ◌<◌, ◌≤◌, ℕ, zero, suc, Bool, true, false, List, [], ◌∷◌, ◌++◌, length, map, Option, Some, None, refl, sym, ap, subst, arith, inl, inr, lit<, lit≤, length-append, append-nil, ◌==◌, codes}
use Rattle.std.specs.Fmt.{digits}
use Rattle.std.specs.Prelude.{◌⊎◌}
use Rattle.std.specs.List.{AllByRecursion, list_all}
use Rattle.std.proofs.lemmas.Bool.{cases_lt, eqb-false, eqb-true}
use Rattle.mt_text.proofs.Plain.{is_plain}
use Rattle.mt_regs.specs.declared.registers.Register.{Register}
use Rattle.mt_regs.specs.declared.registers.Register.TheVariants.{PhysBase, PhysMask, FixedRange, Pat, DefaultType}
use Rattle.mt_regs.specs.RegisterFile.{RegisterFile, has_fixed}
use Rattle.mt_regs.specs.Registers.{IsWithin, pair_registers}
use Rattle.mt_import.specs.declared.format.Format.{Format}
use Rattle.mt_import.specs.declared.format.Format.TheVariants.{X86info}
use Rattle.mt_import.specs.Readings.{is_match}
use Rattle.mt_import.specs.Pieces.{shows_one}
use Rattle.mt_import.specs.Shown.{said_of, tells}
use Rattle.mt_import.specs.Supplied.{Supplied}
use Rattle.mt_import_laws.specs.FirstLine.{IsOfNoHost, takes}
use Rattle.mt_import_laws.specs.Origins.{IsAmong}
use Rattle.mt_import_laws.specs.Printed.{Key, TableReadsBack, number_at, value_in}
use Rattle.mt_import_laws.specs.PrintedByX86info.{Print, SuitsX86info, cpu_line, cpu_lines, first_behind, last_keys, later_fixed, line_behind, line_of, read_count, read_pairs, register_lines, size_line, size_lines, unread, unread_pairs, x86info_lines}
use Rattle.mt_import_laws.proofs.Among.{all_map, among_join, among_map, each_among, join_among_first, join_among_second, map_among}
use Rattle.mt_import_laws.proofs.KeyLines.{ShowsAlone, alone_shows_in, keys_stay, alone_shows, alone_true, has_line, lines_true}
use Rattle.mt_import_laws.proofs.Keys.{IsKey}
use Rattle.mt_import_laws.proofs.PrintedBack.{HasLine, IsGiven, IsInFile, WidthLine, fits, key_in_file, table_back}
use Rattle.mt_import_laws.proofs.TableLines.{IsTrueSaid, all_join}
use Rattle.mt_import_laws.proofs.Taken.{AreOf, Balanced, BalancedTo, ShowsIn, StaysIn, takes_printed}
use Rattle.mt_import_laws.proofs.Whole.{any_bits}
use Rattle.mt_import_laws.proofs.X86infoLines.{nothing_said, register_said, size_place, size_plain, size_said, text_plain, told}

-- ---- the registers of pairs

-- a register of one of these pairs
record OfPairs (first count : ℕ) (register : Register) : Type 0 where
  pair : ℕ
  low : first ≤ pair
  high : pair < first + count
  is : (register ≡ PhysBase pair) ⊎ (register ≡ PhysMask pair)

of_pairs : (first count : ℕ) (register : Register) → IsAmong register (pair_registers first count) → OfPairs first count register
of_pairs first zero register among = absurd among
of_pairs first (suc count) register (inl same) = record { pair = first; low = omega arith; high = omega arith; is = inl (sym same) }
of_pairs first (suc count) register (inr (inl same)) = record { pair = first; low = omega arith; high = omega arith; is = inr (sym same) }
of_pairs first (suc count) register (inr (inr later)) =
    let found = of_pairs (first + 1) count register later in
    let low = found.low in
    let high = found.high in
    record { pair = found.pair; low = omega (arith, low); high = omega (arith, high); is = found.is }

bases_among : (first count n : ℕ) → n < count → IsAmong (PhysBase (first + n)) (pair_registers first count)
bases_among first zero n less = absurd (omega (arith, less))
bases_among first (suc count) zero less = let same : first ≡ first + 0 = omega arith in inl (ap PhysBase same)
bases_among first (suc count) (suc n) less =
    let same : first + 1 + n ≡ first + suc n = omega arith in
    inr (inr (subst (λ k. IsAmong (PhysBase k) (pair_registers (first + 1) count)) same (bases_among (first + 1) count n (omega (arith, less)))))

masks_among : (first count n : ℕ) → n < count → IsAmong (PhysMask (first + n)) (pair_registers first count)
masks_among first zero n less = absurd (omega (arith, less))
masks_among first (suc count) zero less = let same : first ≡ first + 0 = omega arith in inr (inl (ap PhysMask same))
masks_among first (suc count) (suc n) less =
    let same : first + 1 + n ≡ first + suc n = omega arith in
    inr (inr (subst (λ k. IsAmong (PhysMask k) (pair_registers (first + 1) count)) same (masks_among (first + 1) count n (omega (arith, less)))))

pairs_long : (first count : ℕ) → length (pair_registers first count) ≡ 2 * count
pairs_long first zero = refl
pairs_long first (suc count) = let later = pairs_long (first + 1) count in omega (arith, later)

map_long : {A B : Type 0} (f : A → B) (xs : List A) → length (map f xs) ≡ length xs
map_long f [] = refl
map_long f (x ∷ xs) = let later = map_long f xs in omega (arith, later)

-- the places of fixed-range registers that are printed behind that of 00000
later_places : AllByRecursion (λ register. (place : ℕ) × (place < 11) × (register ≡ FixedRange place)) later_fixed
later_places = (
  (1, lit< tt, refl),
  (
    (2, lit< tt, refl),
    (
      (4, lit< tt, refl),
      (
        (5, lit< tt, refl),
        ((6, lit< tt, refl), ((7, lit< tt, refl), ((8, lit< tt, refl), ((9, lit< tt, refl), ((10, lit< tt, refl), tt))))),
      ),
    ),
  ),
)

module _ (at : ℕ) (print : Print) (file : RegisterFile) (supplied : Supplied) (suits : SuitsX86info print file supplied) where
  abbrev lines : Bool → List (List ℕ)
  lines fixed = register_lines print file fixed

  count_low : read_count file ≤ 8
  count_low = omega arith

  count_within : read_count file ≤ length file.pairs
  count_within = omega arith

  few_pairs : length file.pairs ≤ 32
  few_pairs = let few = suits.is_file.few_pairs in let all = suits.is_file.all_pairs in omega (arith, few, all)

  -- ---- which registers are printed

  read_in : (register : Register) → IsAmong register (read_pairs file) → IsWithin file register
  read_in register among =
      let of = of_pairs 0 (read_count file) register among in
      let high = of.high in
      let less = count_within in
      elim of.is [
        | inl base ↦ subst (IsWithin file) (sym base) (omega (arith, high, less))
        | inr mask ↦ subst (IsWithin file) (sym mask) (omega (arith, high, less))
      ]

  first_in : (key : Key) → IsAmong key (None ∷ map Some (read_pairs file)) → IsInFile file key
  first_in key (inl same) = subst (IsInFile file) same tt
  first_in key (inr later) = let found = among_map Some (read_pairs file) key later in subst (IsInFile file) (sym found.2) (read_in found.0 found.1)

  unread_key : (key : Key) → IsAmong key (map Some (unread_pairs file)) → IsKey key
  unread_key key among =
      let found = among_map Some (unread_pairs file) key among in
      let of = of_pairs (read_count file) (8 - read_count file) found.0 found.1 in
      let high = of.high in
      let less = count_low in
      elim of.is [
        | inl base ↦ subst IsKey (sym (found.2 ∙ ap Some base)) (omega (arith, high, less))
        | inr mask ↦ subst IsKey (sym (found.2 ∙ ap Some mask)) (omega (arith, high, less))
      ]

  fixed_key : (register : Register) → IsAmong register (FixedRange 0 ∷ later_fixed) → IsKey (Some register)
  fixed_key register (inl same) = subst (λ r. IsKey (Some r)) same (lit< tt, refl)
  fixed_key register (inr later) =
      let at = each_among (λ r. (place : ℕ) × (place < 11) × (r ≡ FixedRange place)) later_fixed register later_places later in
      subst (λ r. IsKey (Some r)) (sym at.2) (at.1, refl)

  all_of : {A : Type 0} (P : A → Type 0) (xs : List A) → ((x : A) → IsAmong x xs → P x) → AllByRecursion P xs
  all_of P [] each = tt
  all_of P (x ∷ xs) each = (each x (inl refl), all_of P xs (λ y among. each y (inr among)))

  unread_keys : (fixed : Bool) → AllByRecursion IsKey (unread fixed file)
  unread_keys true = all_of IsKey (unread true file) unread_key
  unread_keys false = all_of IsKey (unread false file) by
    where
      by : (key : Key) → IsAmong key (unread false file) → IsKey key
      by key among =
          let found = among_map Some (unread_pairs file ++ FixedRange 0 ∷ later_fixed) key among in
          elim (among_join (unread_pairs file) (FixedRange 0 ∷ later_fixed) found.0 found.1) [
            | inl pair ↦ subst IsKey (sym found.2) (unread_key (Some found.0) (map_among Some (unread_pairs file) found.0 pair))
            | inr other ↦ subst IsKey (sym found.2) (fixed_key found.0 other)
          ]

  unread_long : (fixed : Bool) → length (unread fixed file) ≤ 30
  unread_long true =
      let one = map_long Some (unread_pairs file) in
      let two = pairs_long (read_count file) (8 - read_count file) in
      omega (arith, one, two)
  unread_long false =
      let one = map_long Some (unread_pairs file ++ FixedRange 0 ∷ later_fixed) in
      let two = pairs_long (read_count file) (8 - read_count file) in
      let three = length-append (unread_pairs file) (FixedRange 0 ∷ later_fixed) in
      omega (arith, one, two, three)

  last_in : (fixed : Bool) → has_fixed file ≡ fixed → (key : Key) → IsAmong key (last_keys fixed) → IsInFile file key
  last_in false none key among = absurd among
  last_in true has key among =
      let found = among_map Some (later_fixed ++ DefaultType ∷ []) key among in
      elim (among_join later_fixed (DefaultType ∷ []) found.0 found.1) [
        | inl later ↦
            let at = each_among (λ r. (place : ℕ) × (place < 11) × (r ≡ FixedRange place)) later_fixed found.0 later_places later in
            subst (IsInFile file) (sym (found.2 ∙ ap Some at.2)) (at.1, has)
        | inr last ↦ by found.0 found.2 last
      ]
    where
      by : (register : Register) → key ≡ Some register → IsAmong register (DefaultType ∷ []) → IsInFile file key
      by register is (inl same) = subst (IsInFile file) (sym (is ∙ ap Some (sym same))) tt
      by register is (inr none) = absurd none

  first_behind_in : (fixed : Bool) → has_fixed file ≡ fixed → IsInFile file (first_behind fixed)
  first_behind_in true has = (lit< tt, has)
  first_behind_in false none = tt

  -- ---- their lines

  fit : (key : Key) → IsInFile file key → value_in file key < 2 ^ 64
  fit key within = fits file key suits.is_file suits.has_words within

  is_key : (key : Key) → IsInFile file key → IsKey key
  is_key key within = key_in_file file key suits.is_file within

  said : (unread : List Key) → AllByRecursion IsKey unread → length unread ≤ 2 → (key : Key) → IsInFile file key → (number : ℕ)
      → (column : ℕ) × (said_of X86info number (line_behind print file unread key) ≡ shows_one None (Some (number_at key)) (Some (value_in file key)) (record { line = number; column = column }))
  said unread keys two key within number =
      let fields = suits.are_fields key in
      register_said print.names suits.are_names key (is_key key within) (value_in file key) (print.fields key) fields.0 fields.1 fields.2 unread keys two number (fit key within)

  shows : (unread : List Key) → AllByRecursion IsKey unread → length unread ≤ 2 → (key : Key) → IsInFile file key → ShowsAlone at file X86info key (line_behind print file unread key)
  shows unread keys two key within =
      record {
        processor = None;
        own = refl;
        place = λ number. record { line = number; column = (said unread keys two key within number).0 };
        said = λ number. (said unread keys two key within number).1;
      }

  plain : (unread : List Key) → AllByRecursion IsKey unread → length unread ≤ 30 → (key : Key) → IsInFile file key → list_all is_plain (line_behind print file unread key) ≡ true
  plain unread keys size key within =
      let fields = suits.are_fields key in
      text_plain print.names suits.are_names key (is_key key within) (value_in file key) (print.fields key) fields.0 fields.1 fields.2 unread keys size

  lines_of_keys : (keys : List Key) → ((key : Key) → IsAmong key keys → IsInFile file key) → (line : List ℕ) → IsAmong line (map (line_of print file) keys) → (number : ℕ) → IsTrueSaid file any_bits at (said_of X86info number line)
  lines_of_keys keys within =
      lines_true at file X86info (line_of print file) keys (λ key among. is_key key (within key among)) (λ key among. fit key (within key among)) (λ key among. shows [] tt (lit≤ tt) key (within key among))

  line_of_key : (keys : List Key) → ((key : Key) → IsAmong key keys → IsInFile file key) → (key : Key) → IsAmong key keys → HasLine X86info (map (line_of print file) keys) key
  line_of_key keys within =
      has_line at file X86info (line_of print file) keys (λ key among. is_key key (within key among)) (λ key among. fit key (within key among)) (λ key among. shows [] tt (lit≤ tt) key (within key among))

  -- ---- the table

  module _ (fixed : Bool) (is : has_fixed file ≡ fixed) where
    abbrev joint : List ℕ
    joint = line_behind print file (unread fixed file) (first_behind fixed)

    joint_true : (number : ℕ) → IsTrueSaid file any_bits at (said_of X86info number joint)
    joint_true number = elim (cases_lt 2 (length (unread fixed file))) [
      | inl more ↦
          let fields = suits.are_fields (first_behind fixed) in
          let key = first_behind_in fixed is in
          rw (nothing_said print.names suits.are_names (first_behind fixed) (is_key (first_behind fixed) key) (value_in file (first_behind fixed)) (print.fields (first_behind fixed)) fields.0 fields.1 fields.2
          (unread fixed file) (unread_keys fixed) more (unread_long fixed) number) tt
      | inr few ↦
          let key = first_behind_in fixed is in
          alone_true at file X86info (first_behind fixed) joint number (is_key (first_behind fixed) key) (fit (first_behind fixed) key)
          (shows (unread fixed file) (unread_keys fixed) few (first_behind fixed) key)
    ]

    registers_true : (line : List ℕ) → IsAmong line (lines fixed) → (number : ℕ) → IsTrueSaid file any_bits at (said_of X86info number line)
    registers_true line among number = elim (among_join (map (line_of print file) (None ∷ map Some (read_pairs file))) (joint ∷ map (line_of print file) (last_keys fixed)) line among) [
      | inl first ↦ lines_of_keys (None ∷ map Some (read_pairs file)) first_in line first number
      | inr (inl same) ↦ subst (λ l. IsTrueSaid file any_bits at (said_of X86info number l)) same (joint_true number)
      | inr (inr last) ↦ lines_of_keys (last_keys fixed) (last_in fixed is) line last number
    ]

    abbrev IsPlainLine : List ℕ → Type 0
    IsPlainLine line = list_all is_plain line ≡ true

    registers_plain : AllByRecursion IsPlainLine (lines fixed)
    registers_plain =
        all_join IsPlainLine (map (line_of print file) (None ∷ map Some (read_pairs file))) (joint ∷ map (line_of print file) (last_keys fixed))
        (all_map IsPlainLine (line_of print file) (None ∷ map Some (read_pairs file)) (λ key among. plain [] tt (lit≤ tt) key (first_in key among))) (
          plain (unread fixed file) (unread_keys fixed) (unread_long fixed) (first_behind fixed) (first_behind_in fixed is),
          all_map IsPlainLine (line_of print file) (last_keys fixed) (λ key among. plain [] tt (lit≤ tt) key (last_in fixed is key among)),
        )

    -- a line of the registers is one of the table
    in_table : (key : Key) → HasLine X86info (lines fixed) key → HasLine X86info (x86info_lines print file) key
    in_table key has =
        let same : lines fixed ≡ lines (has_fixed file) = ap lines (sym is) in
        record {
          line = has.line;
          among = inr (join_among_first (lines (has_fixed file)) (size_lines file print.virtual) has.line (subst (IsAmong has.line) same has.among));
          shows = has.shows;
        }

    in_first : (key : Key) → IsAmong key (None ∷ map Some (read_pairs file)) → HasLine X86info (x86info_lines print file) key
    in_first key among =
        let has = line_of_key (None ∷ map Some (read_pairs file)) first_in key among in
        in_table key (record {
          line = has.line;
          among = join_among_first (map (line_of print file) (None ∷ map Some (read_pairs file))) (joint ∷ map (line_of print file) (last_keys fixed)) has.line has.among;
          shows = has.shows;
        })

    in_last : (key : Key) → IsAmong key (last_keys fixed) → HasLine X86info (x86info_lines print file) key
    in_last key among =
        let has = line_of_key (last_keys fixed) (last_in fixed is) key among in
        in_table key (record {
          line = has.line;
          among = join_among_second (map (line_of print file) (None ∷ map Some (read_pairs file))) (joint ∷ map (line_of print file) (last_keys fixed)) has.line (inr has.among);
          shows = has.shows;
        })

    in_joint : length (unread fixed file) ≤ 2 → HasLine X86info (x86info_lines print file) (first_behind fixed)
    in_joint few =
        in_table (first_behind fixed) (record {
          line = joint;
          among = join_among_second (map (line_of print file) (None ∷ map Some (read_pairs file))) (joint ∷ map (line_of print file) (last_keys fixed)) joint (inl refl);
          shows = λ number. alone_shows at file X86info (first_behind fixed) joint number (shows (unread fixed file) (unread_keys fixed) few (first_behind fixed) (first_behind_in fixed is));
        })

  -- a line or words
  abbrev pub HasBoth : Key → Type 0
  HasBoth key = HasLine X86info (x86info_lines print file) key ⊎ IsGiven supplied file key

  base_by : (n : ℕ) → n < length file.pairs → HasBoth (Some (PhysBase n))
  base_by n within = elim (cases_lt n 8) [
    | inl low ↦ inl (in_first (has_fixed file) refl (Some (PhysBase n)) (inr (map_among Some (read_pairs file) (PhysBase n) (subst (λ k. IsAmong (PhysBase k) (read_pairs file)) (zero_plus n) (bases_among 0 (read_count file) n (omega (arith, low, within)))))))
    | inr high ↦ inr (suits.bases n high within)
  ]
    where
      zero_plus : (k : ℕ) → 0 + k ≡ k
      zero_plus k = omega arith

  mask_by : (n : ℕ) → n < length file.pairs → HasBoth (Some (PhysMask n))
  mask_by n within = elim (cases_lt n 8) [
    | inl low ↦ inl (in_first (has_fixed file) refl (Some (PhysMask n)) (inr (map_among Some (read_pairs file) (PhysMask n) (subst (λ k. IsAmong (PhysMask k) (read_pairs file)) (zero_plus n) (masks_among 0 (read_count file) n (omega (arith, low, within)))))))
    | inr high ↦ inr (suits.masks n high within)
  ]
    where
      zero_plus : (k : ℕ) → 0 + k ≡ k
      zero_plus k = omega arith

  in_later : (place : ℕ) → place < 11 → (place ≡ 0 → ⊥) → (place ≡ 3 → ⊥) → IsAmong (Some (FixedRange place)) (last_keys true)
  in_later zero few none third = absurd (none refl)
  in_later (suc zero) few none third = inl refl
  in_later (suc (suc zero)) few none third = inr (inl refl)
  in_later (suc (suc (suc zero))) few none third = absurd (third refl)
  in_later (suc (suc (suc (suc zero)))) few none third = inr (inr (inl refl))
  in_later (suc (suc (suc (suc (suc zero))))) few none third = inr (inr (inr (inl refl)))
  in_later (suc (suc (suc (suc (suc (suc zero)))))) few none third = inr (inr (inr (inr (inl refl))))
  in_later (suc (suc (suc (suc (suc (suc (suc zero))))))) few none third = inr (inr (inr (inr (inr (inl refl)))))
  in_later (suc (suc (suc (suc (suc (suc (suc (suc zero)))))))) few none third = inr (inr (inr (inr (inr (inr (inl refl))))))
  in_later (suc (suc (suc (suc (suc (suc (suc (suc (suc zero))))))))) few none third = inr (inr (inr (inr (inr (inr (inr (inl refl)))))))
  in_later (suc (suc (suc (suc (suc (suc (suc (suc (suc (suc zero)))))))))) few none third = inr (inr (inr (inr (inr (inr (inr (inr (inl refl))))))))
  in_later (suc (suc (suc (suc (suc (suc (suc (suc (suc (suc (suc n))))))))))) few none third = absurd (omega (arith, few))

  fixed_first : has_fixed file ≡ true → HasBoth (Some (FixedRange 0))
  fixed_first has = elim (cases_lt (length file.pairs) 7) [
    | inl few ↦ inr (suits.fixed_00000 has few)
    | inr many ↦
        let one = map_long Some (unread_pairs file) in
        let two = pairs_long (read_count file) (8 - read_count file) in
        inl (in_joint true has (omega (arith, one, two, many)))
  ]

  fixed_by : (place : ℕ) → place < 11 → has_fixed file ≡ true → HasBoth (Some (FixedRange place))
  fixed_by zero few has = fixed_first has
  fixed_by (suc place) few has = by (suc place == 3) refl
    where
      by : (third : Bool) → (suc place == 3) ≡ third → HasBoth (Some (FixedRange (suc place)))
      by true is = let same : 3 ≡ suc place = sym (eqb-true (suc place) 3 is) in subst (λ k. HasBoth (Some (FixedRange k))) same (inr (suits.fixed_c0000 has))
      by false apart = inl (in_last true has (Some (FixedRange (suc place))) (in_later (suc place) few (λ e. omega (arith, e)) (eqb-false (suc place) 3 apart)))

  default_by : (fixed : Bool) → has_fixed file ≡ fixed → HasBoth (Some DefaultType)
  default_by true has = inl (in_last true has (Some DefaultType) (inr (inr (inr (inr (inr (inr (inr (inr (inr (inl refl)))))))))))
  default_by false none = inr (suits.default_type none)

  pub capability_line : HasLine X86info (x86info_lines print file) None
  capability_line = in_first (has_fixed file) refl None (inl refl)

  pub each_key : (key : Key) → IsInFile file key → HasBoth key
  each_key None within = inl capability_line
  each_key (Some (PhysBase n)) within = base_by n within
  each_key (Some (PhysMask n)) within = mask_by n within
  each_key (Some (FixedRange place)) within = fixed_by place within.0 within.1
  each_key (Some Pat) within = inr suits.pat
  each_key (Some DefaultType) within = default_by (has_fixed file) refl

  -- ---- the line on sizes

  wide : file.width < 65
  wide = let narrow = suits.is_file.narrow in omega (arith, narrow)

  few_bits : (virtual : ℕ) → print.virtual ≡ Some virtual → virtual < 65
  few_bits virtual is = let few = suits.few_virtual virtual is in omega (arith, few)

  size_true : (line : List ℕ) (virtual : Option ℕ) → print.virtual ≡ virtual → IsAmong line (size_lines file virtual) → (number : ℕ) → IsTrueSaid file any_bits at (said_of X86info number line)
  size_true line None is among number = absurd among
  size_true line (Some virtual) is (inl same) number =
      subst (λ l. IsTrueSaid file any_bits at (said_of X86info number l)) same (rw (size_said file.width virtual wide (few_bits virtual is) number) refl)
  size_true line (Some virtual) is (inr none) number = absurd none

  sizes_plain : (virtual : Option ℕ) → print.virtual ≡ virtual → AllByRecursion (λ line. list_all is_plain line ≡ true) (size_lines file virtual)
  sizes_plain None is = tt
  sizes_plain (Some virtual) is = (size_plain file.width virtual wide (few_bits virtual is), tt)

  pub width : (virtual : Option ℕ) → print.virtual ≡ virtual → (supplied.width ≡ Some file.width) ⊎ WidthLine X86info file (x86info_lines print file)
  width None is = inl (suits.width is)
  width (Some virtual) is = inr (record {
    line = size_line file.width virtual;
    among = inr (join_among_second (lines (has_fixed file)) (size_lines file print.virtual) (size_line file.width virtual) (subst (λ v. IsAmong (size_line file.width virtual) (size_lines file v)) (sym is) (inl refl)));
    place = size_place file.width virtual wide (few_bits virtual is);
    shows = λ number. size_said file.width virtual wide (few_bits virtual is) number;
  })

  -- ---- all lines

  pub table_true : (line : List ℕ) → IsAmong line (x86info_lines print file) → (number : ℕ) → IsTrueSaid file any_bits at (said_of X86info number line)
  table_true line (inl same) number = subst (λ l. IsTrueSaid file any_bits at (said_of X86info number l)) same tt
  table_true line (inr later) number = elim (among_join (lines (has_fixed file)) (size_lines file print.virtual) line later) [
    | inl register ↦ registers_true (has_fixed file) refl line register number
    | inr size ↦ size_true line print.virtual refl size number
  ]

  pub table_plain : AllByRecursion (λ line. list_all is_plain line ≡ true) (x86info_lines print file)
  table_plain = (
    refl,
    all_join (λ line. list_all is_plain line ≡ true) (lines (has_fixed file)) (size_lines file print.virtual) (registers_plain (has_fixed file) refl) (sizes_plain print.virtual refl),
  )

pub reads : (print : Print) (file : RegisterFile) (supplied : Supplied) → SuitsX86info print file supplied → TableReadsBack X86info (x86info_lines print file) supplied file
reads print file supplied suits =
    table_back file X86info (x86info_lines print file) supplied suits.is_file suits.has_words suits.agrees (width 0 print file supplied suits print.virtual refl)
    (record { each = table_true 0 print file supplied suits; all = each_key 0 print file supplied suits }) (table_plain 0 print file supplied suits)

-- ---- the format that is taken

-- Balanced lines, and behind them some that stay.
balanced_on : (format : Format) (more left : ℕ) (lines others : List (List ℕ)) → BalancedTo format more left lines → Balanced format left others → Balanced format more (lines ++ others)
balanced_on format more left [] others is rest = subst (λ m. Balanced format m others) (sym is) rest
balanced_on format more left (line ∷ lines) others (inl stays) rest = inl (stays.0, balanced_on format more left lines others stays.1 rest)
balanced_on format more left (line ∷ lines) others (inr (inl shows)) rest = inr (inl (shows.0, balanced_on format (more + 1) left lines others shows.1 rest))
balanced_on format more left (line ∷ lines) others (inr (inr strays)) rest = inr (inr (strays.0, balanced_on format (more - 1) left lines others strays.1 rest))

stay_to : (format : Format) (more left : ℕ) (lines others : List (List ℕ)) → AllByRecursion (StaysIn format) lines → BalancedTo format more left others → BalancedTo format more left (lines ++ others)
stay_to format more left [] others all rest = rest
stay_to format more left (line ∷ lines) others all rest = inl (all.0, stay_to format more left lines others all.1 rest)

all_to : (format : Format) (more left : ℕ) (lines : List (List ℕ)) → more ≡ left → AllByRecursion (StaysIn format) lines → BalancedTo format more left lines
all_to format more left [] is all = is
all_to format more left (line ∷ lines) is all = inl (all.0, all_to format more left lines is all.1)

module _ (print : Print) (file : RegisterFile) (supplied : Supplied) (suits : SuitsX86info print file supplied) where
  keys_stay_at : (keys : List Key) → ((key : Key) → IsAmong key keys → IsInFile file key) → AllByRecursion (StaysIn X86info) (map (line_of print file) keys)
  keys_stay_at keys within =
      keys_stay 0 file X86info (line_of print file) keys (λ key among. is_key 0 print file supplied suits key (within key among)) (λ key among. fit 0 print file supplied suits key (within key among))
      (λ key among. shows 0 print file supplied suits [] tt (lit≤ tt) key (within key among))

  first_shows : ShowsIn X86info (line_of print file None)
  first_shows = alone_shows_in 0 file X86info None (line_of print file None) tt (shows 0 print file supplied suits [] tt (lit≤ tt) None tt)

  sizes_stay : (virtual : Option ℕ) → print.virtual ≡ virtual → AllByRecursion (StaysIn X86info) (size_lines file virtual)
  sizes_stay None is = tt
  sizes_stay (Some virtual) is = (λ number. inl (ap is_match (size_said file.width virtual (wide 0 print file supplied suits) (few_bits 0 print file supplied suits virtual is) number)), tt)

  -- Behind the line of 0FEH at most one line strays, where registers can't be read.
  behind_first : (fixed : Bool) → has_fixed file ≡ fixed → (more left : ℕ) → 0 < more → more - 1 ≡ left
      → BalancedTo X86info more left ((map (line_of print file) (map Some (read_pairs file)) ++ line_behind print file (unread fixed file) (first_behind fixed) ∷ map (line_of print file) (last_keys fixed)) ++ size_lines file print.virtual)
  behind_first fixed is more left some next =
      to_end more left (map (line_of print file) (map Some (read_pairs file)) ++ line_behind print file (unread fixed file) (first_behind fixed) ∷ map (line_of print file) (last_keys fixed)) (size_lines file print.virtual)
      (stay_to X86info more left (map (line_of print file) (map Some (read_pairs file))) _ (keys_stay_at (None ∷ map Some (read_pairs file)) (first_in 0 print file supplied suits)).1
      (inr (inr (some, all_to X86info (more - 1) left (map (line_of print file) (last_keys fixed)) next (keys_stay_at (last_keys fixed) (last_in 0 print file supplied suits fixed is))))))
      (sizes_stay print.virtual refl)
    where
      to_end : (more left : ℕ) (lines others : List (List ℕ)) → BalancedTo X86info more left lines → AllByRecursion (StaysIn X86info) others → BalancedTo X86info more left (lines ++ others)
      to_end more left [] others is all = all_to X86info more left others is all
      to_end more left (line ∷ lines) others (inl stays) all = inl (stays.0, to_end more left lines others stays.1 all)
      to_end more left (line ∷ lines) others (inr (inl shows)) all = inr (inl (shows.0, to_end (more + 1) left lines others shows.1 all))
      to_end more left (line ∷ lines) others (inr (inr strays)) all = inr (inr (strays.0, to_end (more - 1) left lines others strays.1 all))

  abbrev rest_lines : List (List ℕ)
  rest_lines =
      (map (line_of print file) (map Some (read_pairs file)) ++ line_behind print file (unread (has_fixed file) file) (first_behind (has_fixed file)) ∷ map (line_of print file) (last_keys (has_fixed file)))
      ++ size_lines file print.virtual

  -- The line of 0FEH is the first behind the heading, and tells the format.
  told_lines : (number : ℕ) (others : List (List ℕ)) → IsOfNoHost (line_of print file None) → Balanced X86info 0 others → AreOf X86info number (codes "MTRR registers:" ∷ line_of print file None ∷ (rest_lines ++ others))
  unfolding tells
  told_lines number others host rest =
      let fields = suits.are_fields None in
      let first = told print.names suits.are_names file.capabilities (print.fields None) fields.0 fields.1 fields.2 (number + 1) (fits file None suits.is_file suits.has_words tt) host in
      let show = first_shows (number + 1) in
      inr (refl, refl, inl (first, show.0, show.1, balanced_on X86info 1 0 rest_lines others (behind_first (has_fixed file) refl 1 0 (lit< tt) refl) rest))

  heading_stays : StaysIn X86info (codes "MTRR registers:")
  unfolding tells
  heading_stays number = inr refl

  -- all lines, behind others of the format
  pub lines_to : (more : ℕ) → BalancedTo X86info more more (x86info_lines print file)
  lines_to more =
      let next : more + 1 - 1 ≡ more = omega arith in
      let some : 0 < more + 1 = omega arith in
      inl (heading_stays, inr (inl (first_shows, behind_first (has_fixed file) refl (more + 1) more some next)))

pub told_first : (print : Print) (file : RegisterFile) (supplied : Supplied) → SuitsX86info print file supplied → IsOfNoHost (line_of print file None) → takes (x86info_lines print file) ≡ Some X86info
told_first print file supplied suits host =
    takes_printed X86info refl (x86info_lines print file) 1
    (subst (λ ls. AreOf X86info 1 (codes "MTRR registers:" ∷ line_of print file None ∷ ls)) (append-nil (rest_lines print file supplied suits)) (told_lines print file supplied suits 1 [] host tt))

-- of several processors, of which the first has this number
pub cpus_balanced : (supplied : Supplied) (cpus : List (Print × RegisterFile)) (k : ℕ) → ((j number : ℕ) → j < k + length cpus → is_match (said_of X86info number (cpu_line j)) ≡ true)
    → AllByRecursion (λ (cpu : Print × RegisterFile). SuitsX86info cpu.0 cpu.1 supplied) cpus → (more : ℕ) → Balanced X86info more (cpu_lines k cpus)
cpus_balanced supplied [] k turn suits more = tt
cpus_balanced supplied (cpu ∷ cpus) k turn suits more =
    inl (
      λ number. inl (turn k number (omega arith)),
      balanced_on X86info more more (x86info_lines cpu.0 cpu.1) (cpu_lines (k + 1) cpus) (lines_to cpu.0 cpu.1 supplied suits.0 more)
          (cpus_balanced supplied cpus (k + 1) (λ j number less. turn j number (omega (arith, less))) suits.1 more),
    )

-- Of several processors the line in front says that processor 0's lines follow.
pub all_told_first : (print : Print) (file : RegisterFile) (cpus : List (Print × RegisterFile)) (supplied : Supplied)
    → AllByRecursion (λ (cpu : Print × RegisterFile). SuitsX86info cpu.0 cpu.1 supplied) ((print, file) ∷ cpus) → ((j number : ℕ) → j < 1 + length cpus → is_match (said_of X86info number (cpu_line j)) ≡ true)
    → IsOfNoHost (line_of print file None) → takes (cpu_lines 0 ((print, file) ∷ cpus)) ≡ Some X86info
unfolding digits tells
all_told_first print file cpus supplied suits turn host =
    takes_printed X86info refl (cpu_lines 0 ((print, file) ∷ cpus)) 1
    (inr (refl, refl, told_lines print file supplied suits.0 2 (cpu_lines 1 cpus) host (cpus_balanced supplied cpus 1 turn suits.1 0)))
