-- The parts of a dump: its pairs and its files.
use Rattle.std.proofs.Common.{◌≡◌, ◌≤◌, ◌<◌, ◌+◌, ℕ, zero, suc, List, [], ◌∷◌, ◌++◌, length, Option, Some, None, Bool, replicate, map, take, drop, add-one, append_assoc, true, false, refl, sym, ap, ◌∙◌, arith, length-append, inl, inr}
use Rattle.std.specs.Prelude.{◌⊎◌, ◌&&◌, ◌||◌, is_none, is_some, slice_get, ◌==◌, ◌*◌, if◌then◌else◌}
use Rattle.std.specs.List.{AllByRecursion}
use Rattle.std.proofs.lemmas.Bool.{eqb-true, eqb-false}
use Rattle.std.proofs.lemmas.List.{append-nil}
use Rattle.mt_kinds.specs.Bits.{is_bit_set}
use Rattle.mt_regs.specs.RegisterFile.{RegisterFile, IsRegisterFile, low_byte}
use Rattle.mt_regs.specs.Registers.{number_of}
use Rattle.mt_regs.specs.declared.registers.Register.{Register}
use Rattle.mt_dump.specs.Dumps.{IsDump, first_of, first_file}
use Rattle.mt_import.specs.Outcome.{dump_in, file_of, files_of, first_pairs, fixed_of, is_missing, is_nowhere, noted, value_or_zero}
use Rattle.mt_import.specs.Values.{or_supplied}

pub length_pairs : (values : ℕ → Option ℕ) (n : ℕ) → length (first_pairs values n) ≡ n
length_pairs values zero = refl
length_pairs values (suc n) = let h = length_pairs values n in let e = length-append (first_pairs values n) ((value_or_zero values (0x200 + 2 * n), value_or_zero values (0x201 + 2 * n)) ∷ []) in omega (arith, h, e)

module _ (values : ℕ → ℕ → Option ℕ) (width capabilities : ℕ) where
  pub length_files : (count : ℕ) → length (files_of values width capabilities count) ≡ count
  length_files zero = refl
  length_files (suc k) = let h = length_files k in let e = length-append (files_of values width capabilities k) (file_of (values k) width capabilities ∷ []) in omega (arith, h, e)

  push : (P : RegisterFile → Type 0) (files : List RegisterFile) (file : RegisterFile) → AllByRecursion P files → P file → AllByRecursion P (files ++ file ∷ [])
  push P [] file all has = (has, tt)
  push P (f ∷ files) file all has = (all.0, push P files file all.1 has)

  pub all_files : (P : RegisterFile → Type 0) (count : ℕ) → ((k : ℕ) → P (file_of (values k) width capabilities)) → AllByRecursion P (files_of values width capabilities count)
  all_files P zero each = tt
  all_files P (suc k) each = push P (files_of values width capabilities k) (file_of (values k) width capabilities) (all_files P k each) (each k)

  first_has : (P : RegisterFile → Type 0) (files : List RegisterFile) → 0 < length files → AllByRecursion P files → P (first_of files)
  first_has P [] some all = absurd (omega (arith, some))
  first_has P (f ∷ files) some all = all.0

  pub is_file : (k : ℕ) → 32 ≤ width → width ≤ 52 → low_byte capabilities ≤ 32 → IsRegisterFile (file_of (values k) width capabilities)
  is_file k wide narrow few = record {
    wide = wide;
    narrow = narrow;
    few_pairs = few;
    all_pairs = length_pairs (values k) (low_byte capabilities);
    all_fixed = size (is_bit_set capabilities 8);
    no_fixed = zeros (is_bit_set capabilities 8);
  }
    where
      size : (test : Bool) → length (fixed_of (values k) test) ≡ 11
      size true = refl
      size false = refl

      zeros : (test : Bool) → test ≡ false → fixed_of (values k) test ≡ replicate 11 0
      zeros true none = cc none
      zeros false none = refl

  pub is_dump : (count : ℕ) → 1 ≤ count → count ≤ 16 → 32 ≤ width → width ≤ 52 → low_byte capabilities ≤ 32 → IsDump (dump_in values count width capabilities)
  is_dump count some few wide narrow able_few =
      let size = length_files count in
      let here : 0 < length (files_of values width capabilities count) = omega (arith, size, some) in
      let wide_one = first_has (λ f. f.width ≡ width) (files_of values width capabilities count) here (all_files (λ f. f.width ≡ width) count (λ k. refl)) in
      let able_one = first_has (λ f. f.capabilities ≡ capabilities) (files_of values width capabilities count) here (all_files (λ f. f.capabilities ≡ capabilities) count (λ k. refl)) in
      record {
        known = version (count == 1);
        one = λ is. size ∙ one (count == 1) refl is;
        some = here;
        few = omega (arith, size, few);
        are_files = all_files IsRegisterFile count (λ k. is_file k wide narrow able_few);
        one_width = all_files (λ f. f.width ≡ (first_file (dump_in values count width capabilities)).width) count (λ k. sym wide_one);
        one_capabilities = all_files (λ f. f.capabilities ≡ (first_file (dump_in values count width capabilities)).capabilities) count (λ k. sym able_one);
      }
    where
      version : (test : Bool) → (◌≡◌ {A = ℕ} (if test then 1 else 2) 1) ⊎ (◌≡◌ {A = ℕ} (if test then 1 else 2) 2)
      version true = inl refl
      version false = inr refl

      one : (test : Bool) → (count == 1) ≡ test → ◌≡◌ {A = ℕ} (if test then 1 else 2) 1 → count ≡ 1
      one true same is = eqb-true count 1 same
      one false same is = absurd (omega (arith, is))

pub none_when : (o : Option ℕ) → is_some o ≡ false → is_none o ≡ true
none_when None is = refl
none_when (Some value) is = cc is

pub some_at : (rs : List Register) (i : ℕ) → i < length rs → slice_get rs i ≡ None → ⊥
some_at [] i less none = absurd (omega (arith, less))
some_at (r ∷ rs) zero less none = cc none
some_at (r ∷ rs) (suc i) less none = some_at rs i (omega (arith, less)) none

-- a register that some processor hasn't
pub missing_at : (values : ℕ → ℕ → Option ℕ) (count k number : ℕ) → k < count → is_none (values k number) ≡ true → is_missing values count number ≡ true
missing_at values zero k number less none = absurd (omega (arith, less))
missing_at values (suc count) k number less none = by (k == count) refl (λ below. missing_at values count k number below none)
  where
    with_true : (b : Bool) → (b || true) ≡ true
    with_true true = refl
    with_true false = refl

    other : (a b : ℕ) → a < suc b → (a ≡ b → ⊥) → a < b
    other a b less apart = omega (arith, less, apart)

    by : (test : Bool) → (k == count) ≡ test → (k < count → is_missing values count number ≡ true) → is_missing values (suc count) number ≡ true
    by true same below = let e = eqb-true k count same in rw (ap (λ j. is_none (values j number)) (sym e) ∙ none) (with_true (is_missing values count number))
    by false apart below = rw (below (other k count less (eqb-false k count apart))) refl

-- a register that some processor has by an assumption alone, before all others
pub noted_on : (firm values : ℕ → ℕ → Option ℕ) (count number : ℕ) → noted firm values count number ≡ None → (is_none (firm count number) ≡ true → values count number ≡ None) → noted firm values (count + 1) number ≡ None
noted_on firm values count number none next = rw add-one (rw none (by (is_none (firm count number)) refl))
  where
    by : (test : Bool) → is_none (firm count number) ≡ test → or_supplied None (if test then values count number else None) ≡ None
    by true is = next is
    by false is = refl

pub noted_at : (firm values : ℕ → ℕ → Option ℕ) (count k number value : ℕ) → k < count → noted firm values k number ≡ None → is_none (firm k number) ≡ true → values k number ≡ Some value → noted firm values count number ≡ Some value
noted_at firm values zero k number value less none unfirm is = absurd (omega (arith, less))
noted_at firm values (suc count) k number value less none unfirm is = by (k == count) refl (λ below. noted_at firm values count k number value below none unfirm is)
  where
    other : (a b : ℕ) → a < suc b → (a ≡ b → ⊥) → a < b
    other a b less apart = omega (arith, less, apart)

    here : noted firm values (suc k) number ≡ Some value
    here = rw (none, unfirm) is

    by : (test : Bool) → (k == count) ≡ test → (k < count → noted firm values count number ≡ Some value) → noted firm values (suc count) number ≡ Some value
    by true same below = ap (λ j. noted firm values (suc j) number) (sym (eqb-true k count same)) ∙ here
    by false apart below = rw (below (other k count less (eqb-false k count apart))) refl

-- texts of the elements of a list, one element more
module _ {A : Type 0} (text : A → List ℕ) (all : List A → List ℕ) (none : all [] ≡ []) (next : (x : A) (xs : List A) → all (x ∷ xs) ≡ text x ++ all xs) where
  pub texts_more : (i : ℕ) (xs : List A) (x : A) → slice_get xs i ≡ Some x → all (take (i + 1) xs) ≡ all (take i xs) ++ text x
  texts_more i xs x at = rw add-one (by i xs at)
    where
      by : (i : ℕ) (xs : List A) → slice_get xs i ≡ Some x → all (take (suc i) xs) ≡ all (take i xs) ++ text x
      by i [] at = cc at
      by zero (y ∷ ys) at = let same : y ≡ x = cc at in rw same (next x [] ∙ ap (λ l. text x ++ l) none ∙ append-nil (text x) ∙ sym (ap (λ l. l ++ text x) none))
      by (suc i) (y ∷ ys) at =
          next y (take (suc i) ys) ∙ ap (λ l. text y ++ l) (by i ys at)
          ∙ sym (append_assoc (text y) (all (take i ys)) (text x))
          ∙ ap (λ l. l ++ text x) (sym (next y (take i ys)))

-- a text that grows by the text of one element more
pub grows : {A : Type 0} (text : A → List ℕ) (x : A) (first so_far old new all : List ℕ) → new ≡ old ++ text x → old ≡ first ++ so_far → all ≡ so_far ++ text x → new ≡ first ++ all
grows text x first so_far old new all added before more =
    added ∙ ap (λ (l : List ℕ). l ++ text x) before ∙ append_assoc first so_far (text x) ∙ ap (λ (l : List ℕ). first ++ l) (sym more)

-- the numbers of the registers of a list, one register more
pub numbers_more : (i : ℕ) (rs : List Register) (r : Register) → slice_get rs i ≡ Some r → map number_of (take (i + 1) rs) ≡ map number_of (take i rs) ++ number_of r ∷ []
numbers_more i rs r at = rw add-one (by i rs at)
  where
    by : (i : ℕ) (rs : List Register) → slice_get rs i ≡ Some r → map number_of (take (suc i) rs) ≡ map number_of (take i rs) ++ number_of r ∷ []
    by i [] at = cc at
    by zero (s ∷ rs) at = let same : s ≡ r = cc at in rw same refl
    by (suc i) (s ∷ rs) at = ap (λ l. number_of s ∷ l) (by i rs at)

-- a register that a processor has isn't missing everywhere
pub somewhere_at : (values : ℕ → ℕ → Option ℕ) (count k number : ℕ) → k < count → is_none (values k number) ≡ false → is_nowhere values count number ≡ false
somewhere_at values zero k number less some = absurd (omega (arith, less))
somewhere_at values (suc count) k number less some = by (k == count) refl (λ below. somewhere_at values count k number below some)
  where
    with_false : (b : Bool) → (b && false) ≡ false
    with_false true = refl
    with_false false = refl

    other : (a b : ℕ) → a < suc b → (a ≡ b → ⊥) → a < b
    other a b less apart = omega (arith, less, apart)

    by : (test : Bool) → (k == count) ≡ test → (k < count → is_nowhere values count number ≡ false) → is_nowhere values (suc count) number ≡ false
    by true same below = let e = eqb-true k count same in rw (ap (λ j. is_none (values j number)) (sym e) ∙ some) (with_false (is_nowhere values count number))
    by false apart below = rw (below (other k count less (eqb-false k count apart))) refl

pub some_when : (o : Option ℕ) → is_some o ≡ true → is_none o ≡ false
some_when None is = cc is
some_when (Some value) is = refl

pub drop_at : {A : Type 0} (i : ℕ) (xs : List A) (x : A) → slice_get xs i ≡ Some x → drop i xs ≡ x ∷ drop (i + 1) xs
drop_at {A} i xs x at = rw add-one (by i xs at)
  where
    by : (i : ℕ) (xs : List A) → slice_get xs i ≡ Some x → drop i xs ≡ x ∷ drop (suc i) xs
    by i [] at = cc at
    by zero (y ∷ ys) at = let e : y ≡ x = cc at in ap (λ z. z ∷ ys) e
    by (suc i) (y ∷ ys) at = by i ys at
