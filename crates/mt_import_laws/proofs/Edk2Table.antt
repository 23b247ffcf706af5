-- What EDK2 prints reads back.
use Rattle.std.proofs.Common.{◌≡◌, ◌∙◌, ◌+◌, ◌*◌, ◌^◌, ◌<◌, ℕ, zero, suc, Bool, true, false, List, [], ◌∷◌, ◌++◌, length, map, replicate, slice_index, Some, None, refl, sym, ap, subst, arith, inl, inr, lit<}
use Rattle.std.specs.Prelude.{◌⊎◌, if◌then◌else◌}
use Rattle.std.specs.List.{AllByRecursion, list_all}
use Rattle.mt_text.proofs.Plain.{is_plain}
use Rattle.mt_regs.specs.declared.registers.Register.TheVariants.{PhysBase, PhysMask, FixedRange, Pat, DefaultType}
use Rattle.mt_regs.specs.RegisterFile.{RegisterFile, has_fixed, pair_at}
use Rattle.mt_regs.specs.Registers.{fixed_registers}
use Rattle.mt_import.specs.declared.format.Format.TheVariants.{Edk2}
use Rattle.mt_import.specs.declared.reading.LineSays.TheVariants.{Shows}
use Rattle.mt_import.specs.Pieces.{shown_as}
use Rattle.mt_import.specs.Readings.{two_shown}
use Rattle.mt_import.specs.Shown.{said_of, tells}
use Rattle.mt_import.specs.Supplied.{Supplied}
use Rattle.mt_import_laws.specs.Origins.{IsAmong}
use Rattle.mt_import_laws.specs.FirstLine.{takes}
use Rattle.mt_import_laws.specs.Printed.{Key, TableReadsBack, value_in}
use Rattle.mt_import_laws.specs.PrintedByEdk2.{SuitsEdk2, edk2_lines, is_valid, no_pair_line, or_none, own_line, pair_line, pair_lines, valid_from}
use Rattle.mt_import_laws.proofs.Among.{all_map, among_join, among_map, each_among, join_among_first, join_among_second, map_among}
use Rattle.mt_import_laws.proofs.Edk2Lines.{base_place, default_place, default_plain, default_said, default_told, fixed_place, fixed_plain, fixed_said, mask_place, pair_plain, pair_said}
use Rattle.mt_import_laws.proofs.KeyLines.{keys_show, keys_stay, ShowsAlone, has_line, lines_true}
use Rattle.mt_import_laws.proofs.Keys.{IsKey}
use Rattle.mt_import_laws.proofs.PrintedBack.{HasLine, IsGiven, IsInFile, fits, key_in_file, table_back}
use Rattle.mt_import_laws.proofs.Taken.{StaysIn, all_stay, takes_printed}
use Rattle.mt_import.specs.Readings.{is_match}
use Rattle.mt_import_laws.proofs.TableLines.{IsTrueSaid, all_join, tells_whole}
use Rattle.mt_import_laws.proofs.Whole.{any_bits}

-- ---- the pairs whose V is set

record IsValidPair (first : ℕ) (pairs : List (ℕ × ℕ)) (n : ℕ) : Type 0 where
  place : ℕ
  number : n ≡ first + place
  within : place < length pairs
  valid : is_valid (pair_at pairs place) ≡ true

valid_among : (first : ℕ) (pairs : List (ℕ × ℕ)) (n : ℕ) → IsAmong n (valid_from first pairs) → IsValidPair first pairs n
valid_among first [] n among = absurd among
valid_among first (pair ∷ pairs) n among = by (is_valid pair) refl (valid_among (first + 1) pairs n) among
  where
    later : IsValidPair (first + 1) pairs n → IsValidPair first (pair ∷ pairs) n
    later is = let number = is.number in let within = is.within in record { place = suc is.place; number = omega (arith, number); within = omega (arith, within); valid = is.valid }

    by : (test : Bool) → is_valid pair ≡ test → (IsAmong n (valid_from (first + 1) pairs) → IsValidPair (first + 1) pairs n) → IsAmong n (if test then first ∷ valid_from (first + 1) pairs else valid_from (first + 1) pairs)
        → IsValidPair first (pair ∷ pairs) n
    by true is rest (inl same) = record { place = 0; number = omega (arith, same); within = omega arith; valid = is }
    by true is rest (inr found) = later (rest found)
    by false is rest found = later (rest found)

among_valid : (first : ℕ) (pairs : List (ℕ × ℕ)) (place : ℕ) → place < length pairs → is_valid (pair_at pairs place) ≡ true → IsAmong (first + place) (valid_from first pairs)
among_valid first [] place within valid = absurd (omega (arith, within))
among_valid first (pair ∷ pairs) zero within valid = let same : first ≡ first + 0 = omega arith in rw valid (inl same)
among_valid first (pair ∷ pairs) (suc place) within valid =
    let number : first + 1 + place ≡ first + suc place = omega arith in
    by (is_valid pair) (subst (λ n. IsAmong n (valid_from (first + 1) pairs)) number (among_valid (first + 1) pairs place (omega (arith, within)) valid))
  where
    by : (test : Bool) → IsAmong (first + suc place) (valid_from (first + 1) pairs) → IsAmong (first + suc place) (if test then first ∷ valid_from (first + 1) pairs else valid_from (first + 1) pairs)
    by true among = inr among
    by false among = among

none_or : (lines : List (List ℕ)) (line : List ℕ) → IsAmong line (or_none lines) → IsAmong line lines ⊎ (no_pair_line ≡ line)
none_or [] line (inl same) = inr same
none_or [] line (inr none) = absurd none
none_or (first ∷ lines) line among = inl among

or_none_has : (lines : List (List ℕ)) (line : List ℕ) → IsAmong line lines → IsAmong line (or_none lines)
or_none_has [] line among = absurd among
or_none_has (first ∷ lines) line among = among

-- ---- the fixed-range registers

all_eleven : AllByRecursion (λ register. (place : ℕ) × (place < 11) × (register ≡ FixedRange place)) fixed_registers
all_eleven = (
  (0, lit< tt, refl),
  (
    (1, lit< tt, refl),
    (
      (2, lit< tt, refl),
      (
        (3, lit< tt, refl),
        (
          (4, lit< tt, refl),
          (
            (5, lit< tt, refl),
            (
              (6, lit< tt, refl),
              (
                (7, lit< tt, refl),
                ((8, lit< tt, refl), ((9, lit< tt, refl), ((10, lit< tt, refl), tt))),
              ),
            ),
          ),
        ),
      ),
    ),
  ),
)

eleven : (place : ℕ) → place < 11 → IsAmong (FixedRange place) fixed_registers
eleven zero few = inl refl
eleven (suc zero) few = inr (inl refl)
eleven (suc (suc zero)) few = inr (inr (inl refl))
eleven (suc (suc (suc zero))) few = inr (inr (inr (inl refl)))
eleven (suc (suc (suc (suc zero)))) few = inr (inr (inr (inr (inl refl))))
eleven (suc (suc (suc (suc (suc zero))))) few = inr (inr (inr (inr (inr (inl refl)))))
eleven (suc (suc (suc (suc (suc (suc zero)))))) few = inr (inr (inr (inr (inr (inr (inl refl))))))
eleven (suc (suc (suc (suc (suc (suc (suc zero))))))) few = inr (inr (inr (inr (inr (inr (inr (inl refl)))))))
eleven (suc (suc (suc (suc (suc (suc (suc (suc zero)))))))) few = inr (inr (inr (inr (inr (inr (inr (inr (inl refl))))))))
eleven (suc (suc (suc (suc (suc (suc (suc (suc (suc zero))))))))) few = inr (inr (inr (inr (inr (inr (inr (inr (inr (inl refl)))))))))
eleven (suc (suc (suc (suc (suc (suc (suc (suc (suc (suc zero)))))))))) few = inr (inr (inr (inr (inr (inr (inr (inr (inr (inr (inl refl))))))))))
eleven (suc (suc (suc (suc (suc (suc (suc (suc (suc (suc (suc n))))))))))) few = absurd (omega (arith, few))

or_none_all : (P : List ℕ → Type 0) (lines : List (List ℕ)) → AllByRecursion P lines → P no_pair_line → AllByRecursion P (or_none lines)
or_none_all P [] all none = (none, tt)
or_none_all P (line ∷ lines) all none = all

small_zero : (count place : ℕ) → slice_index (replicate count 0) place < 2 ^ 64
small_zero zero place = lit< tt
small_zero (suc count) zero = lit< tt
small_zero (suc count) (suc place) = small_zero count place

module _ (file : RegisterFile) (supplied : Supplied) (suits : SuitsEdk2 file supplied) where
  abbrev keys : List Key
  keys = Some DefaultType ∷ map Some fixed_registers

  -- ---- lines of one register

  fixed_fits : (place : ℕ) → place < 11 → (test : Bool) → has_fixed file ≡ test → value_in file (Some (FixedRange place)) < 2 ^ 64
  fixed_fits place few true has = fits file (Some (FixedRange place)) suits.is_file suits.has_words (few, has)
  fixed_fits place few false none = subst (λ fs. slice_index fs place < 2 ^ 64) (sym (suits.is_file.no_fixed none)) (small_zero 11 place)

  record OwnLine (key : Key) : Type 0 where
    is_key : IsKey key
    fit : value_in file key < 2 ^ 64
    shows : ShowsAlone 0 file Edk2 key (own_line file key)
    plain : list_all is_plain (own_line file key) ≡ true

  default_own : OwnLine (Some DefaultType)
  default_own = record {
    is_key = tt;
    fit = fits file (Some DefaultType) suits.is_file suits.has_words tt;
    shows = record {
      processor = Some 0;
      own = refl;
      place = default_place file.default_type;
      said = λ number. default_said file.default_type number (fits file (Some DefaultType) suits.is_file suits.has_words tt);
    };
    plain = default_plain file.default_type;
  }

  fixed_own : (place : ℕ) → place < 11 → OwnLine (Some (FixedRange place))
  fixed_own place few = record {
    is_key = (few, refl);
    fit = fixed_fits place few (has_fixed file) refl;
    shows = record {
      processor = Some 0;
      own = refl;
      place = fixed_place place (value_in file (Some (FixedRange place))) few;
      said = λ number. fixed_said place (value_in file (Some (FixedRange place))) few number (fixed_fits place few (has_fixed file) refl);
    };
    plain = fixed_plain place (value_in file (Some (FixedRange place))) few;
  }

  own : (key : Key) → IsAmong key keys → OwnLine key
  own key (inl same) = subst OwnLine same default_own
  own key (inr later) =
      let found = among_map Some fixed_registers key later in
      let at = each_among (λ register. (place : ℕ) × (place < 11) × (register ≡ FixedRange place)) fixed_registers found.0 all_eleven found.1 in
      subst OwnLine (sym (found.2 ∙ ap Some at.2)) (fixed_own at.0 at.1)

  -- ---- lines of pairs

  abbrev pair_of : ℕ → List ℕ
  pair_of n = pair_line n (pair_at file.pairs n)

  few_pairs : (n : ℕ) → n < length file.pairs → n < 32
  few_pairs n within = let few = suits.is_file.few_pairs in let all = suits.is_file.all_pairs in omega (arith, within, few, all)

  record IsPrintedPair (n : ℕ) : Type 0 where
    within : n < length file.pairs
    valid : is_valid (pair_at file.pairs n) ≡ true

  printed_pair : (n : ℕ) → IsAmong n (valid_from 0 file.pairs) → IsPrintedPair n
  printed_pair n among =
      let is = valid_among 0 file.pairs n among in
      let number = is.number in
      let within = is.within in
      let same : is.place ≡ n = omega (arith, number) in
      record { within = omega (arith, number, within); valid = ap (λ k. is_valid (pair_at file.pairs k)) (sym same) ∙ is.valid }

  said_pair : (n : ℕ) (within : n < length file.pairs) (number : ℕ)
      → said_of Edk2 number (pair_of n) ≡ Shows (Some 0) (two_shown (shown_as (0x200 + 2 * n) (pair_at file.pairs n).0 (base_place n (pair_at file.pairs n) (few_pairs n within) number)) (shown_as (0x201 + 2 * n) (pair_at file.pairs n).1 (mask_place n (pair_at file.pairs n) (few_pairs n within) number)))
  said_pair n within number =
      pair_said n (pair_at file.pairs n) (few_pairs n within) number
      (fits file (Some (PhysBase n)) suits.is_file suits.has_words within) (fits file (Some (PhysMask n)) suits.is_file suits.has_words within)

  pair_true : (n : ℕ) → IsPrintedPair n → (number : ℕ) → IsTrueSaid file any_bits 0 (said_of Edk2 number (pair_of n))
  pair_true n is number =
      let within = is.within in
      rw (said_pair n within number) (
        refl,
        (
          inl (tells_whole file any_bits (Some (PhysBase n)) (base_place n (pair_at file.pairs n) (few_pairs n within) number) (key_in_file file (Some (PhysBase n)) suits.is_file within) refl
              (fits file (Some (PhysBase n)) suits.is_file suits.has_words within)),
          (
            inl (tells_whole file any_bits (Some (PhysMask n)) (mask_place n (pair_at file.pairs n) (few_pairs n within) number) (key_in_file file (Some (PhysMask n)) suits.is_file within) refl
                (fits file (Some (PhysMask n)) suits.is_file suits.has_words within)),
            (tt, (tt, (tt, (tt, (tt, (tt, (tt, (tt, (tt, tt))))))))),
          ),
        ),
      )

  pair_among : (n : ℕ) → IsPrintedPair n → IsAmong (pair_of n) (edk2_lines file)
  pair_among n is =
      let same : 0 + n ≡ n = omega arith in
      let place : IsAmong n (valid_from 0 file.pairs) = subst (λ k. IsAmong k (valid_from 0 file.pairs)) same (among_valid 0 file.pairs n is.within is.valid) in
      inr (inr (join_among_second (map (own_line file) keys) (or_none (pair_lines file)) (pair_of n) (or_none_has (pair_lines file) (pair_of n) (map_among pair_of (valid_from 0 file.pairs) n place))))

  base_line : (n : ℕ) → IsPrintedPair n → HasLine Edk2 (edk2_lines file) (Some (PhysBase n))
  base_line n is = record {
    line = pair_of n;
    among = pair_among n is;
    shows = λ number. record { processor = Some 0; shows = _; shown = _; said_is = said_pair n is.within number; among = inl refl; number = refl; bits = refl };
  }

  mask_line : (n : ℕ) → IsPrintedPair n → HasLine Edk2 (edk2_lines file) (Some (PhysMask n))
  mask_line n is = record {
    line = pair_of n;
    among = pair_among n is;
    shows = λ number. record { processor = Some 0; shows = _; shown = _; said_is = said_pair n is.within number; among = inr (inl refl); number = refl; bits = refl };
  }

  -- ---- the table

  own_has : (key : Key) → IsAmong key keys → HasLine Edk2 (edk2_lines file) key
  own_has key among =
      let has = has_line 0 file Edk2 (own_line file) keys (λ k at. (own k at).is_key) (λ k at. (own k at).fit) (λ k at. (own k at).shows) key among in
      record { line = has.line; among = inr (inr (join_among_first (map (own_line file) keys) (or_none (pair_lines file)) has.line has.among)); shows = has.shows }

  base_by : (n : ℕ) → n < length file.pairs → (test : Bool) → is_valid (pair_at file.pairs n) ≡ test → HasLine Edk2 (edk2_lines file) (Some (PhysBase n)) ⊎ IsGiven supplied file (Some (PhysBase n))
  base_by n within true valid = inl (base_line n (record { within = within; valid = valid }))
  base_by n within false hidden = inr (suits.bases n within hidden)

  mask_by : (n : ℕ) → n < length file.pairs → (test : Bool) → is_valid (pair_at file.pairs n) ≡ test → HasLine Edk2 (edk2_lines file) (Some (PhysMask n)) ⊎ IsGiven supplied file (Some (PhysMask n))
  mask_by n within true valid = inl (mask_line n (record { within = within; valid = valid }))
  mask_by n within false hidden = inr (suits.masks n within hidden)

  each_key : (key : Key) → IsInFile file key → HasLine Edk2 (edk2_lines file) key ⊎ IsGiven supplied file key
  each_key None within = inr suits.capabilities
  each_key (Some (PhysBase n)) within = base_by n within (is_valid (pair_at file.pairs n)) refl
  each_key (Some (PhysMask n)) within = mask_by n within (is_valid (pair_at file.pairs n)) refl
  each_key (Some (FixedRange place)) within = inl (own_has (Some (FixedRange place)) (inr (map_among Some fixed_registers (FixedRange place) (eleven place within.0))))
  each_key (Some Pat) within = inr suits.pat
  each_key (Some DefaultType) within = inl (own_has (Some DefaultType) (inl refl))

  parts_true : (line : List ℕ) → IsAmong line (map (own_line file) keys ++ or_none (pair_lines file)) → (number : ℕ) → IsTrueSaid file any_bits 0 (said_of Edk2 number line)
  parts_true line among number = elim (among_join (map (own_line file) keys) (or_none (pair_lines file)) line among) [
    | inl first ↦ lines_true 0 file Edk2 (own_line file) keys (λ k at. (own k at).is_key) (λ k at. (own k at).fit) (λ k at. (own k at).shows) line first number
    | inr second ↦ by (none_or (pair_lines file) line second)
  ]
    where
      by : IsAmong line (pair_lines file) ⊎ (no_pair_line ≡ line) → IsTrueSaid file any_bits 0 (said_of Edk2 number line)
      by (inl pair) = let found = among_map pair_of (valid_from 0 file.pairs) line pair in rw found.2 (pair_true found.0 (printed_pair found.0 found.1) number)
      by (inr none) = subst (λ l. IsTrueSaid file any_bits 0 (said_of Edk2 number l)) none tt

  table_true : (line : List ℕ) → IsAmong line (edk2_lines file) → (number : ℕ) → IsTrueSaid file any_bits 0 (said_of Edk2 number line)
  table_true line (inl same) number = subst (λ l. IsTrueSaid file any_bits 0 (said_of Edk2 number l)) same tt
  table_true line (inr (inl same)) number = subst (λ l. IsTrueSaid file any_bits 0 (said_of Edk2 number l)) same tt
  table_true line (inr (inr later)) number = parts_true line later number

  abbrev IsPlainLine : List ℕ → Type 0
  IsPlainLine line = list_all is_plain line ≡ true

  pairs_plain : AllByRecursion IsPlainLine (pair_lines file)
  pairs_plain = all_map IsPlainLine pair_of (valid_from 0 file.pairs) (λ n among. pair_plain n (pair_at file.pairs n) (few_pairs n (printed_pair n among).within))

  table_plain : AllByRecursion IsPlainLine (edk2_lines file)
  table_plain = (
    refl,
    (
      refl,
      all_join IsPlainLine (map (own_line file) keys) (or_none (pair_lines file))
          (all_map IsPlainLine (own_line file) keys (λ key among. (own key among).plain)) (or_none_all IsPlainLine (pair_lines file) pairs_plain refl),
    ),
  )

  pub reads : TableReadsBack Edk2 (edk2_lines file) supplied file
  reads =
      table_back file Edk2 (edk2_lines file) supplied suits.is_file suits.has_words suits.agrees (inl suits.width)
      (record { each = table_true; all = each_key }) table_plain

  -- ---- the format that is taken

  own_stay : AllByRecursion (StaysIn Edk2) (map (own_line file) keys)
  own_stay = keys_stay 0 file Edk2 (own_line file) keys (λ k at. (own k at).is_key) (λ k at. (own k at).fit) (λ k at. (own k at).shows)

  pairs_stay : AllByRecursion (StaysIn Edk2) (pair_lines file)
  pairs_stay = all_map (StaysIn Edk2) pair_of (valid_from 0 file.pairs) (λ n among number. inl (ap is_match (said_pair n (printed_pair n among).within number)))

  none_stays : StaysIn Edk2 no_pair_line
  unfolding tells
  none_stays number = inr refl

  -- The default type's line tells the format, and the others are of it.
  pub told_first : takes (edk2_lines file) ≡ Some Edk2
  unfolding tells
  told_first =
      let first = default_told file.default_type 3 (fits file (Some DefaultType) suits.is_file suits.has_words tt) in
      let show = keys_show 0 file Edk2 (own_line file) keys (λ k at. (own k at).is_key) (λ k at. (own k at).fit) (λ k at. (own k at).shows) (Some DefaultType) (inl refl) 3 in
      let stay = all_join (StaysIn Edk2) (map (own_line file) (map Some fixed_registers)) (or_none (pair_lines file)) own_stay.1 (or_none_all (StaysIn Edk2) (pair_lines file) pairs_stay none_stays) in
      takes_printed Edk2 refl (edk2_lines file) 1 (inr (refl, refl, inr (refl, refl, inl (first, show.0, show.1, all_stay Edk2 1 (map (own_line file) (map Some fixed_registers) ++ or_none (pair_lines file)) stay))))
