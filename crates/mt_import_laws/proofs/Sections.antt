-- The values of a processor are in its section of a dump.
use Rattle.std.proofs.Common.{◌≡◌, ◌<◌, ◌≤◌, ◌+◌, ◌*◌, ℕ, zero, suc, Bool, true, false, List, [], ◌∷◌, ◌++◌, length, map, Option, Some, refl, sym, ◌∙◌, ap, subst, inl, inr, arith, lit<}
use Rattle.std.specs.Prelude.{◌⊎◌, ◌==◌, if◌then◌else◌, slice_get, slice_index, unwrap_or}
use Rattle.std.specs.List.{AllByRecursion}
use Rattle.std.proofs.lemmas.Bool.{cases_lt}
use Rattle.std.proofs.lemmas.List.{get_or-map}
use Rattle.mt_regs.specs.declared.registers.Register.{Register}
use Rattle.mt_regs.specs.declared.registers.Register.TheVariants.{PhysBase, PhysMask, FixedRange, Pat, DefaultType}
use Rattle.mt_regs.specs.RegisterFile.{RegisterFile, has_fixed, low_byte, pair_at}
use Rattle.mt_regs.specs.Registers.{fixed_numbers, fixed_registers, number_of, pair_registers, value_of, writable}
use Rattle.mt_dump.specs.Canon.{file_lines, register_line}
use Rattle.mt_import.specs.Outcome.{file_of, files_of, first_pairs, needed, value_or_zero}
use Rattle.mt_import.proofs.Parts.{length_files, length_pairs}
use Rattle.mt_import_laws.specs.Origins.{IsAmong, owner}
use Rattle.mt_import_laws.proofs.Among.{among_join, among_map, each_among, map_among}
use Rattle.mt_import_laws.proofs.Keys.{not_first}

-- ---- one more element at the end of a list

first_stays : {A : Type 0} (xs ys : List A) (k : ℕ) (x : A) → slice_get xs k ≡ Some x → slice_get (xs ++ ys) k ≡ Some x
first_stays [] ys k x at = cc at
first_stays (y ∷ xs) ys zero x at = at
first_stays (y ∷ xs) ys (suc k) x at = first_stays xs ys k x at

last_is : {A : Type 0} (xs : List A) (x : A) (k : ℕ) → length xs ≡ k → slice_get (xs ++ x ∷ []) k ≡ Some x
last_is [] x zero size = refl
last_is [] x (suc k) size = absurd (omega (arith, size))
last_is (y ∷ xs) x zero size = absurd (omega (arith, size))
last_is (y ∷ xs) x (suc k) size = last_is xs x k (omega (arith, size))

pairs_stay : (xs ys : List (ℕ × ℕ)) (k : ℕ) → k < length xs → pair_at (xs ++ ys) k ≡ pair_at xs k
pairs_stay [] ys k within = absurd (omega (arith, within))
pairs_stay (x ∷ xs) ys zero within = refl
pairs_stay (x ∷ xs) ys (suc k) within = pairs_stay xs ys k (omega (arith, within))

last_pair : (xs : List (ℕ × ℕ)) (x : ℕ × ℕ) (k : ℕ) → length xs ≡ k → pair_at (xs ++ x ∷ []) k ≡ x
last_pair [] x zero size = refl
last_pair [] x (suc k) size = absurd (omega (arith, size))
last_pair (y ∷ xs) x zero size = absurd (omega (arith, size))
last_pair (y ∷ xs) x (suc k) size = last_pair xs x k (omega (arith, size))

-- ---- the registers of a file

module _ (values : ℕ → Option ℕ) (width capabilities : ℕ) where
  -- The file has the register's value, and its number isn't that of 0FEH.
  record IsRight (register : Register) : Type 0 where
    other : (number_of register == 0xfe) ≡ false
    value : (v : ℕ) → values (number_of register) ≡ Some v → value_of (file_of values width capabilities) register ≡ v

  abbrev pair : ℕ → ℕ × ℕ
  pair n = (value_or_zero values (0x200 + 2 * n), value_or_zero values (0x201 + 2 * n))

  pair_in : (count n : ℕ) → n < count → pair_at (first_pairs values count) n ≡ pair n
  pair_in zero n less = absurd (omega (arith, less))
  pair_in (suc count) n less = by (cases_lt n count) (pair_in count n)
    where
      top : (a b : ℕ) → a < suc b → b ≤ a → b ≡ a
      top a b below above = omega (arith, below, above)

      by : (n < count) ⊎ (count ≤ n) → (n < count → pair_at (first_pairs values count) n ≡ pair n) → pair_at (first_pairs values count ++ pair count ∷ []) n ≡ pair n
      by (inl below) earlier = let size = length_pairs values count in pairs_stay (first_pairs values count) (pair count ∷ []) n (omega (arith, size, below)) ∙ earlier below
      by (inr above) earlier = let same = top n count less above in last_pair (first_pairs values count) (pair count) n (length_pairs values count ∙ same) ∙ ap pair same

  base_right : (n : ℕ) → n < low_byte capabilities → IsRight (PhysBase n)
  base_right n within = record {
    other = not_first (0x200 + 2 * n) (omega arith);
    value = λ v is. ap (λ (p : ℕ × ℕ). p.0) (pair_in (low_byte capabilities) n within) ∙ ap (λ o. unwrap_or o 0) is;
  }

  mask_right : (n : ℕ) → n < low_byte capabilities → IsRight (PhysMask n)
  mask_right n within = record {
    other = not_first (0x201 + 2 * n) (omega arith);
    value = λ v is. ap (λ (p : ℕ × ℕ). p.1) (pair_in (low_byte capabilities) n within) ∙ ap (λ o. unwrap_or o 0) is;
  }

  pairs_right : (first count : ℕ) → first + count ≤ low_byte capabilities → (register : Register) → IsAmong register (pair_registers first count) → IsRight register
  pairs_right first zero within register among = absurd among
  pairs_right first (suc count) within register (inl same) = subst IsRight same (base_right first (omega (arith, within)))
  pairs_right first (suc count) within register (inr (inl same)) = subst IsRight same (mask_right first (omega (arith, within)))
  pairs_right first (suc count) within register (inr (inr later)) = pairs_right (first + 1) count (omega (arith, within)) register later

  abbrev places : List ℕ
  places = 0 ∷ 1 ∷ 2 ∷ 3 ∷ 4 ∷ 5 ∷ 6 ∷ 7 ∷ 8 ∷ 9 ∷ 10 ∷ []

  abbrev IsPlace : ℕ → Type 0
  IsPlace place = (place < 11) × ((slice_index fixed_numbers place == 0xfe) ≡ false)

  are_places : AllByRecursion IsPlace places
  are_places = (
    (lit< tt, refl),
    ((lit< tt, refl), ((lit< tt, refl), ((lit< tt, refl), ((lit< tt, refl), ((lit< tt, refl), ((lit< tt, refl), ((lit< tt, refl), ((lit< tt, refl), ((lit< tt, refl), ((lit< tt, refl), tt)))))))))),
  )

  range_right : has_fixed (file_of values width capabilities) ≡ true → (place : ℕ) → IsPlace place → IsRight (FixedRange place)
  range_right has place is = record {
    other = is.1;
    value = λ v given. rw has (get_or-map (value_or_zero values) fixed_numbers place 0 0 is.0 ∙ ap (λ o. unwrap_or o 0) given);
  }

  fixed_right : (test : Bool) → has_fixed (file_of values width capabilities) ≡ test → (register : Register) → IsAmong register (if test then fixed_registers else []) → IsRight register
  fixed_right false none register among = absurd among
  fixed_right true has register among =
      let found = among_map FixedRange places register among in
      subst IsRight (sym found.2) (range_right has found.0 (each_among IsPlace places found.0 are_places found.1))

  last_right : (register : Register) → IsAmong register (Pat ∷ DefaultType ∷ []) → IsRight register
  last_right register (inl same) = subst IsRight same (record { other = refl; value = λ v is. ap (λ o. unwrap_or o 0) is })
  last_right register (inr (inl same)) = subst IsRight same (record { other = refl; value = λ v is. ap (λ o. unwrap_or o 0) is })
  last_right register (inr (inr none)) = absurd none

  abbrev fixed : List Register
  fixed = if has_fixed (file_of values width capabilities) then fixed_registers else []

  right : (register : Register) → IsAmong register (writable (file_of values width capabilities)) → IsRight register
  right register among = elim (among_join (pair_registers 0 (low_byte capabilities) ++ fixed) (Pat ∷ DefaultType ∷ []) register among) [
    | inl first ↦ elim (among_join (pair_registers 0 (low_byte capabilities)) fixed register first) [
      | inl pair ↦ pairs_right 0 (low_byte capabilities) (omega arith) register pair
      | inr range ↦ fixed_right (has_fixed (file_of values width capabilities)) refl register range
    ]
    | inr last ↦ last_right register last
  ]

-- ---- the sections

module _ (values : ℕ → ℕ → Option ℕ) (width capabilities : ℕ) where
  abbrev section : ℕ → RegisterFile
  section k = file_of (values k) width capabilities

  pub section_at : (count k : ℕ) → k < count → slice_get (files_of values width capabilities count) k ≡ Some (section k)
  section_at zero k less = absurd (omega (arith, less))
  section_at (suc count) k less = by (cases_lt k count) (section_at count k)
    where
      top : (a b : ℕ) → a < suc b → b ≤ a → b ≡ a
      top a b below above = omega (arith, below, above)

      by : (k < count) ⊎ (count ≤ k) → (k < count → slice_get (files_of values width capabilities count) k ≡ Some (section k)) → slice_get (files_of values width capabilities count ++ section count ∷ []) k ≡ Some (section k)
      by (inl below) earlier = first_stays (files_of values width capabilities count) (section count ∷ []) k (section k) (earlier below)
      by (inr above) earlier =
          let same = top k count less above in
          last_is (files_of values width capabilities count) (section count) k (length_files values width capabilities count ∙ same) ∙ ap (λ j. Some (section j)) same

  -- the line of a register that the dump needs
  pub line_of : (k number value : ℕ) → values 0 0xfe ≡ Some capabilities → IsAmong number (needed (Some capabilities)) → values (owner k number) number ≡ Some value
      → IsAmong (register_line number value) (file_lines (file_of (values k) width capabilities))
  line_of k number value first (inl same) is =
      let own : values 0 0xfe ≡ Some value = subst (λ n. values (owner k n) n ≡ Some value) (sym same) is in
      let one : capabilities ≡ value = cc (first, own) in
      inr (inl (ap (λ n. register_line n capabilities) same ∙ ap (register_line number) one))
  line_of k number value first (inr later) is =
      let found = among_map number_of (writable (file_of (values k) width capabilities)) number later in
      let has = right (values k) width capabilities found.0 found.1 in
      let given : values (owner k (number_of found.0)) (number_of found.0) ≡ Some value = subst (λ n. values (owner k n) n ≡ Some value) found.2 is in
      let own : values k (number_of found.0) ≡ Some value = rw has.other at given in
      let line = map_among (λ register. register_line (number_of register) (value_of (file_of (values k) width capabilities) register)) (writable (file_of (values k) width capabilities)) found.0 found.1 in
      inr (inr (subst (λ l. IsAmong l (map (λ register. register_line (number_of register) (value_of (file_of (values k) width capabilities) register)) (writable (file_of (values k) width capabilities))))
      (ap (register_line (number_of found.0)) (has.value value own) ∙ ap (λ n. register_line n value) (sym found.2)) line))
