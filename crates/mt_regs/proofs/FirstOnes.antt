-- The first file that isn't accepted, and the first that differs: what the searches find is what the words say.
use Rattle.std.proofs.Common.{◌≡◌, ◌≢◌, ◌==◌, ℕ, suc, ◌+◌, ◌<◌, Bool, false, List, [], ◌∷◌, ◌++◌, take, Option, Some, None, refl, sym, ap, subst, ◌∙◌, inl, inr, arith}
use Rattle.std.specs.Prelude.{if◌then◌else◌, MatchOption}
use Rattle.std.specs.List.{All, find, slice_get}
use Rattle.std.specs.Option.{option_map, option_or}
use Rattle.std.proofs.lemmas.Bool.{cases_Bool}
use Rattle.std.proofs.lemmas.List.Elements.{All-cons, All-head, All-nil, All-take, All-weaker}
use Rattle.std.proofs.lemmas.Option.{get_or_from_slice_get, slice_get_within}
use Rattle.mt_kinds.specs.Bits.{is_bit_set}
use Rattle.mt_regs.specs.declared.fault.Fault.{Fault}
use Rattle.mt_regs.specs.declared.registers.Register.{Register}
use Rattle.mt_regs.specs.declared.registers.Register.TheVariants.{Pat, DefaultType}
use Rattle.mt_regs.specs.RegisterFile.{IsRegisterFile, RegisterFile, low_byte}
use Rattle.mt_regs.specs.Registers.{IsWithin, fixed_registers, number_of, pair_registers, register_of, value_at, value_of, writable}
use Rattle.mt_regs.specs.Faults.{IsAccepted, IsFirstFault}
use Rattle.mt_regs.specs.FirstFault.{first_fault}
use Rattle.mt_regs.specs.StartFiles.{SameKind}
use Rattle.mt_regs.specs.Agreement.{AreEqual, IsFirstDifference, IsFirstRefusal, differing_register, differs_in, first_difference, first_from, first_refusal}
use Rattle.mt_regs.proofs.Agreeing.{equal_test, within_kind, differs_test}
use Rattle.mt_regs.proofs.ByNumber.{Ascend, found_bounds, register_of-number, same_file, value_at-number_of, writable_ascend}
use Rattle.mt_regs.proofs.FirstFault.{first_fault_is_first}
use Rattle.mt_regs.proofs.Writes.{IsKnown, each_found, known}

-- ---- the first file with an answer

-- file j is the first with an answer, which is a
record IsFirst {A : Type 0} (answer : RegisterFile → Option A) (files : List RegisterFile) (j : ℕ) (a : A) : Type 0 where
  file : RegisterFile
  at : slice_get files j ≡ Some file
  some : answer file ≡ Some a
  before : All (λ f. answer f ≡ None) (take j files)

first_is : {A : Type 0} (answer : RegisterFile → Option A) (k : ℕ) (files : List RegisterFile)
    → MatchOption (first_from answer k files) (All (λ f. answer f ≡ None) files) (λ found. (j : ℕ) × (found.0 ≡ k + j) × IsFirst answer files j found.1)
first_is answer k [] = All-nil (λ f. answer f ≡ None)
first_is {A} answer k (f ∷ fs) = by (answer f) refl (first_is answer (k + 1) fs)
  where
    behind : (rest : Option (ℕ × A)) → answer f ≡ None → MatchOption rest (All (λ f. answer f ≡ None) fs) (λ found. (j : ℕ) × (found.0 ≡ k + 1 + j) × IsFirst answer fs j found.1)
        → MatchOption rest (All (λ f. answer f ≡ None) (f ∷ fs)) (λ found. (j : ℕ) × (found.0 ≡ k + j) × IsFirst answer (f ∷ fs) j found.1)
    behind None none rest = All-cons (λ f. answer f ≡ None) f fs none rest
    behind (Some found) none (j, number, first) =
        (suc j, omega (arith, number), record { file = first.file; at = first.at; some = first.some; before = All-cons (λ f. answer f ≡ None) f (take j fs) none first.before })

    by : (o : Option A) → answer f ≡ o → MatchOption (first_from answer (k + 1) fs) (All (λ f. answer f ≡ None) fs) (λ found. (j : ℕ) × (found.0 ≡ k + 1 + j) × IsFirst answer fs j found.1)
        → MatchOption (option_or (option_map (λ a. (k, a)) o) (first_from answer (k + 1) fs)) (All (λ f. answer f ≡ None) (f ∷ fs)) (λ found. (j : ℕ) × (found.0 ≡ k + j) × IsFirst answer (f ∷ fs) j found.1)
    by None none rest = behind (first_from answer (k + 1) fs) none rest
    by (Some a) some rest = (0, omega arith, record { file = f; at = refl; some = some; before = All-nil (λ f. answer f ≡ None) })

-- ---- files that aren't accepted

none_is_accepted : (f : RegisterFile) → first_fault f ≡ None → IsAccepted f
none_is_accepted f none = subst (IsFirstFault f) none (first_fault_is_first f)

pub is_first_refusal : (files : List RegisterFile) → MatchOption (first_refusal files) (All IsAccepted files) (λ found. IsFirstRefusal files found.0 found.1)
is_first_refusal files = by (first_refusal files) (first_is first_fault 0 files)
  where
    by : (o : Option (ℕ × Fault)) → MatchOption o (All (λ f. first_fault f ≡ None) files) (λ found. (j : ℕ) × (found.0 ≡ 0 + j) × IsFirst first_fault files j found.1)
        → MatchOption o (All IsAccepted files) (λ found. IsFirstRefusal files found.0 found.1)
    by None none = All-weaker (λ f. first_fault f ≡ None) IsAccepted none_is_accepted files none
    by (Some (k, fault)) (j, number, first) =
        let e : j ≡ k = omega (arith, number) in
        subst (λ n. IsFirstRefusal files n fault) e (record {
          file = first.file;
          at = first.at;
          refused = subst (IsFirstFault first.file) first.some (first_fault_is_first first.file);
          before = All-weaker (λ f. first_fault f ≡ None) IsAccepted none_is_accepted (take j files) first.before;
        })

-- ---- files that differ

none_passes : (p q : Register → Bool) (rs : List Register) (r : Register) → find q rs ≡ None → find p rs ≡ Some r → q r ≡ false
none_passes p q [] r none found = absurd (cc found)
none_passes p q (s ∷ ss) r none found = elim (cases_Bool (q s)) [
  | inl passes ↦ absurd (cc (rw passes at none))
  | inr fails ↦ elim (cases_Bool (p s)) [
    | inl hit ↦ let e : Some s ≡ Some r = rw hit at found in let same : s ≡ r = cc e in ap q (sym same) ∙ fails
    | inr miss ↦ none_passes p q ss r (rw fails at none) (rw miss at found)
  ]
]

lower_fails : (p q : Register → Bool) (low high : ℕ) (rs : List Register) (r s : Register) → Ascend low high rs → find q rs ≡ Some r → find p rs ≡ Some s → number_of s < number_of r → q s ≡ false
lower_fails p q low high [] r s up found lower less = absurd (cc found)
lower_fails p q low high (t ∷ ts) r s up found lower less = elim (cases_Bool (q t)) [
  | inl passes ↦
      let e : Some t ≡ Some r = rw passes at found in
      let here : number_of t ≡ number_of r = ap number_of (cc e) in
      elim (cases_Bool (p t)) [
        | inl hit ↦
            let o : Some t ≡ Some s = rw hit at lower in
            let there : number_of t ≡ number_of s = ap number_of (cc o) in
            absurd (omega (arith, less, here, there))
        | inr miss ↦ absurd (omega (arith, less, here, (found_bounds p (number_of t + 1) high ts s up.2 (rw miss at lower)).0))
      ]
  | inr fails ↦ elim (cases_Bool (p t)) [
    | inl hit ↦ let o : Some t ≡ Some s = rw hit at lower in let there : t ≡ s = cc o in ap q (sym there) ∙ fails
    | inr miss ↦ lower_fails p q (number_of t + 1) high ts r s up.2 (rw fails at found) (rw miss at lower) less
  ]
]

module _ (f g : RegisterFile) (is : IsRegisterFile f) (is_too : IsRegisterFile g) (same : SameKind f g) where
  same_registers : (number : ℕ) → register_of g number ≡ register_of f number
  same_registers number =
      ap (λ c. find (λ r. number_of r == number) (pair_registers 0 (low_byte c) ++ (if is_bit_set c 8 then fixed_registers else []) ++ Pat ∷ DefaultType ∷ [])) (sym same.capabilities)

  -- the value at a number is the same where the register isn't one that differs
  same_value : (number : ℕ) → ((r : Register) → register_of f number ≡ Some r → differs_in f g r ≡ false) → value_at g number ≡ value_at f number
  same_value number each = elim (cases_Bool (number == 0xfe)) [
    | inl capabilities ↦ rw capabilities (ap Some (sym same.capabilities))
    | inr register ↦ rw (register, same_registers number) (by (register_of f number) each)
  ]
    where
      by : (o : Option Register) → ((r : Register) → o ≡ Some r → differs_in f g r ≡ false) → option_map (value_of g) o ≡ option_map (value_of f) o
      by None each = refl
      by (Some r) each = ap Some (sym (equal_test (value_of f r) (value_of g r) (each r refl)))

  no_difference : differing_register f g ≡ None → f ≡ g
  no_difference none = same_file f g is is_too (λ number. sym (same_value number (λ r found. none_passes (λ s. number_of s == number) (differs_in f g) (writable f) r (not_found (find (differs_in f g) (writable f)) none) found))) same.width
    where
      not_found : (o : Option Register) → option_map number_of o ≡ None → o ≡ None
      not_found None none = refl
      not_found (Some r) none = absurd (cc none)

  a_difference : (number : ℕ) → differing_register f g ≡ Some number → (value_at g number ≢ value_at f number) × ((other : ℕ) → other < number → value_at g other ≡ value_at f other)
  a_difference number some = by (find (differs_in f g) (writable f)) refl some
    where
      by : (o : Option Register) → find (differs_in f g) (writable f) ≡ o → option_map number_of o ≡ Some number
          → (value_at g number ≢ value_at f number) × ((other : ℕ) → other < number → value_at g other ≡ value_at f other)
      by None found some = absurd (cc some)
      by (Some r) found some =
          let e : number_of r ≡ number = cc some in
          let passes = each_found (IsKnown f) (differs_in f g) (writable f) r (known f is.all_pairs) found in
          let within : IsWithin f r = passes.0.0 in
          let here : value_at g (number_of r) ≢ value_at f (number_of r) = λ equal.
          let values : Some (value_of g r) ≡ Some (value_of f r) = sym (value_at-number_of g r is_too (within_kind f g r is is_too same within)) ∙ equal ∙ value_at-number_of f r is within in
          differs_test (value_of f r) (value_of g r) passes.1 (cc values) in (
            subst (λ n. value_at g n ≢ value_at f n) e here,
            λ other less. same_value other (λ s at. lower_fails (λ t. number_of t == other) (differs_in f g) 0x200 0x300 (writable f) r s (writable_ascend f is.few_pairs) found at (omega (arith, less, e, register_of-number f other s is at))),
          )

pub is_first_difference : (files : List RegisterFile) → All IsRegisterFile files → All (λ f. All (SameKind f) files) files
    → MatchOption (first_difference files) (AreEqual files) (λ found. IsFirstDifference files found.0 found.1)
is_first_difference [] are kinds = All-nil (λ f. All (λ g. f ≡ g) [])
is_first_difference (f ∷ fs) are kinds = by (first_difference (f ∷ fs)) (first_is (differing_register f) 0 (f ∷ fs))
  where
    is_file : IsRegisterFile f
    is_file = All-head IsRegisterFile f fs are

    kind : All (SameKind f) (f ∷ fs)
    kind = All-head (λ f'. All (SameKind f') (f ∷ fs)) f fs kinds

    equal : (g : RegisterFile) → IsRegisterFile g → SameKind f g → differing_register f g ≡ None → f ≡ g
    equal g is_too same none = no_difference f g is_file is_too same none

    found_at : (P : RegisterFile → Type 0) (j : ℕ) (g : RegisterFile) → slice_get (f ∷ fs) j ≡ Some g → All P (f ∷ fs) → P g
    found_at P j g at all = subst P (get_or_from_slice_get (f ∷ fs) j g f at) (all j f (slice_get_within (f ∷ fs) j g at))

    difference : (j number : ℕ) → IsFirst (differing_register f) (f ∷ fs) j number → IsFirstDifference (f ∷ fs) j number
    difference j number first =
        let two = a_difference f first.file is_file (found_at IsRegisterFile j first.file first.at are) (found_at (SameKind f) j first.file first.at kind) number first.some in
        record {
          first = f;
          first_at = refl;
          file = first.file;
          at = first.at;
          differs = two.0;
          lower = two.1;
          before = λ i d within. sym (equal _ (All-take IsRegisterFile j (f ∷ fs) are i d within) (All-take (SameKind f) j (f ∷ fs) kind i d within) (first.before i d within));
        }

    by : (o : Option (ℕ × ℕ)) → MatchOption o (All (λ g. differing_register f g ≡ None) (f ∷ fs)) (λ found. (j : ℕ) × (found.0 ≡ 0 + j) × IsFirst (differing_register f) (f ∷ fs) j found.1)
        → MatchOption o (AreEqual (f ∷ fs)) (λ found. IsFirstDifference (f ∷ fs) found.0 found.1)
    by None none = λ i d within k e below.
        sym (equal _ (are i d within) (kind i d within) (none i d within)) ∙ equal _ (are k e below) (kind k e below) (none k e below)
    by (Some (k, number)) (j, number_is, first) =
        let e : j ≡ k = omega (arith, number_is) in
        subst (λ n. IsFirstDifference (f ∷ fs) n number) e (difference j number first)
