-- Writing a goal's registers one by one makes a file the goal.
use Rattle.std.proofs.Common.{◌≡◌, ℕ, zero, suc, ◌+◌, ◌<◌, ◌≤◌, List, [], ◌∷◌, ◌++◌, length, set, get_or, take, Bool, true, false, refl, sym, ap, subst, ◌∙◌, arith, ⊎_elim}
use Rattle.std.specs.Prelude.{slice_index, slice_index_or, if◌then◌else◌}
use Rattle.std.proofs.lemmas.List.{ext_get_or, length-set, take_all, take_more, set-get_or, length-append}
use Rattle.std.proofs.lemmas.Bool.{cases_eq}
use Rattle.mt_regs.specs.RegisterFile.{RegisterFile, IsRegisterFile, has_fixed, low_byte, pair_count}
use Rattle.mt_kinds.specs.Bits.{is_bit_set}
use Rattle.mt_regs.specs.declared.registers.Register.{Register}
use Rattle.mt_regs.specs.declared.registers.Register.TheVariants.{PhysBase, PhysMask, FixedRange, Pat, DefaultType}
use Rattle.mt_regs.specs.Registers.{pair_registers, fixed_registers, writable, value_of}
use Rattle.mt_machine.specs.Machine.{with_goal, without_enable}

-- f has the goal's shape
pub record Alike (goal f : RegisterFile) : Type 0 where
  pub width : f.width ≡ goal.width
  pub capabilities : f.capabilities ≡ goal.capabilities
  pub pairs : length f.pairs ≡ length goal.pairs
  pub fixed : length f.fixed ≡ length goal.fixed
  pub no_fixed : has_fixed goal ≡ false → f.fixed ≡ goal.fixed

abbrev pub Agree : RegisterFile → RegisterFile → Register → Type 0
Agree goal f r = value_of f r ≡ value_of goal r

abbrev pub AgreeAll : RegisterFile → RegisterFile → List Register → Type 0
AgreeAll goal f [] = Unit {0}
AgreeAll goal f (r ∷ rs) = Agree goal f r × AgreeAll goal f rs

pub alike_files : (goal f : RegisterFile) → IsRegisterFile goal → IsRegisterFile f → f.width ≡ goal.width → f.capabilities ≡ goal.capabilities → Alike goal f
alike_files goal f g h width capabilities = record {
  width = width;
  capabilities = capabilities;
  pairs = h.all_pairs ∙ ap (λ c. low_byte c) capabilities ∙ sym g.all_pairs;
  fixed = h.all_fixed ∙ sym g.all_fixed;
  no_fixed = λ off. h.no_fixed (ap (λ c. is_bit_set c 8) capabilities ∙ off) ∙ sym (g.no_fixed off);
}

pub file_alike : (goal f : RegisterFile) → IsRegisterFile goal → Alike goal f → IsRegisterFile f
file_alike goal f g a = record {
  wide = subst (λ w. 32 ≤ w) (sym a.width) g.wide;
  narrow = subst (λ w. w ≤ 52) (sym a.width) g.narrow;
  few_pairs = subst (λ c. low_byte c ≤ 32) (sym a.capabilities) g.few_pairs;
  all_pairs = a.pairs ∙ g.all_pairs ∙ ap (λ c. low_byte c) (sym a.capabilities);
  all_fixed = a.fixed ∙ g.all_fixed;
  no_fixed = λ off. let h : has_fixed goal ≡ false = ap (λ c. is_bit_set c 8) (sym a.capabilities) ∙ off in a.no_fixed h ∙ g.no_fixed h;
}

pub alike_writes : (goal f : RegisterFile) (r : Register) → Alike goal f → Alike goal (with_goal goal r f)
alike_writes goal f (PhysBase n) a = record { width = a.width; capabilities = a.capabilities; pairs = length-set f.pairs n _ ∙ a.pairs; fixed = a.fixed; no_fixed = a.no_fixed }
alike_writes goal f (PhysMask n) a = record { width = a.width; capabilities = a.capabilities; pairs = length-set f.pairs n _ ∙ a.pairs; fixed = a.fixed; no_fixed = a.no_fixed }
alike_writes goal f (FixedRange i) a = record {
  width = a.width;
  capabilities = a.capabilities;
  pairs = a.pairs;
  fixed = length-set f.fixed i _ ∙ a.fixed;
  no_fixed = λ off. ap (λ xs. set xs i (slice_index goal.fixed i)) (a.no_fixed off) ∙ set-get_or goal.fixed i 0;
}
alike_writes goal f Pat a = record { width = a.width; capabilities = a.capabilities; pairs = a.pairs; fixed = a.fixed; no_fixed = a.no_fixed }
alike_writes goal f DefaultType a = record { width = a.width; capabilities = a.capabilities; pairs = a.pairs; fixed = a.fixed; no_fixed = a.no_fixed }

pub alike_disabled : (goal f : RegisterFile) → Alike goal f → Alike goal (without_enable f)
alike_disabled goal f a = record { width = a.width; capabilities = a.capabilities; pairs = a.pairs; fixed = a.fixed; no_fixed = a.no_fixed }

-- ---- a write of the goal's value spoils no agreement, and makes one

-- a field of an element, after an element is set
set_field : {X : Type 0} → (field : X → ℕ) (xs : List X) (n k : ℕ) (y d : X) (v : ℕ) → field (get_or xs k d) ≡ v → (n ≡ k → n < length xs → field y ≡ v) → field (get_or (set xs n y) k d) ≡ v
set_field field [] n k y d v was new = was
set_field field (x ∷ xs) zero zero y d v was new = new refl (omega arith)
set_field field (x ∷ xs) zero (suc k) y d v was new = was
set_field field (x ∷ xs) (suc n) zero y d v was new = was
set_field field (x ∷ xs) (suc n) (suc k) y d v was new = set_field field xs n k y d v was (λ e w. new (ap suc e) (omega arith))

-- the same where the element is the one that was set
set_here : {X : Type 0} → (field : X → ℕ) (xs ys : List X) (n : ℕ) (y d : X) → length xs ≡ length ys → field y ≡ field (get_or ys n d) → field (get_or (set xs n y) n d) ≡ field (get_or ys n d)
set_here field [] [] n y d long new = refl
set_here field [] (z ∷ ys) n y d long new = absurd (omega arith)
set_here field (x ∷ xs) [] n y d long new = absurd (omega arith)
set_here field (x ∷ xs) (z ∷ ys) zero y d long new = new
set_here field (x ∷ xs) (z ∷ ys) (suc n) y d long new = set_here field xs ys n y d (omega arith) new

abbrev base : ℕ × ℕ → ℕ
base pair = pair.0

abbrev mask : ℕ × ℕ → ℕ
mask pair = pair.1

pub agree_written : (goal f : RegisterFile) (r : Register) → Alike goal f → Agree goal (with_goal goal r f) r
agree_written goal f (PhysBase n) a = set_here base f.pairs goal.pairs n _ (0, 0) a.pairs refl
agree_written goal f (PhysMask n) a = set_here mask f.pairs goal.pairs n _ (0, 0) a.pairs refl
agree_written goal f (FixedRange i) a = set_here (λ x. x) f.fixed goal.fixed i _ 0 a.fixed refl
agree_written goal f Pat a = refl
agree_written goal f DefaultType a = refl

pub agree_kept : (goal f : RegisterFile) (r q : Register) → Agree goal f q → Agree goal (with_goal goal r f) q
agree_kept goal f (PhysBase n) (PhysBase k) h = set_field base f.pairs n k _ (0, 0) _ h (λ e w. ap (λ i. base (get_or goal.pairs i (0, 0))) e)
agree_kept goal f (PhysBase n) (PhysMask k) h = set_field mask f.pairs n k _ (0, 0) _ h (λ e w. ap (λ i. mask (get_or f.pairs i (0, 0))) e ∙ h)
agree_kept goal f (PhysBase n) (FixedRange k) h = h
agree_kept goal f (PhysBase n) Pat h = h
agree_kept goal f (PhysBase n) DefaultType h = h
agree_kept goal f (PhysMask n) (PhysBase k) h = set_field base f.pairs n k _ (0, 0) _ h (λ e w. ap (λ i. base (get_or f.pairs i (0, 0))) e ∙ h)
agree_kept goal f (PhysMask n) (PhysMask k) h = set_field mask f.pairs n k _ (0, 0) _ h (λ e w. ap (λ i. mask (get_or goal.pairs i (0, 0))) e)
agree_kept goal f (PhysMask n) (FixedRange k) h = h
agree_kept goal f (PhysMask n) Pat h = h
agree_kept goal f (PhysMask n) DefaultType h = h
agree_kept goal f (FixedRange n) (FixedRange k) h = set_field (λ x. x) f.fixed n k _ 0 _ h (λ e w. ap (λ i. get_or goal.fixed i 0) e)
agree_kept goal f (FixedRange n) (PhysBase k) h = h
agree_kept goal f (FixedRange n) (PhysMask k) h = h
agree_kept goal f (FixedRange n) Pat h = h
agree_kept goal f (FixedRange n) DefaultType h = h
agree_kept goal f Pat (PhysBase k) h = h
agree_kept goal f Pat (PhysMask k) h = h
agree_kept goal f Pat (FixedRange k) h = h
agree_kept goal f Pat Pat h = refl
agree_kept goal f Pat DefaultType h = h
agree_kept goal f DefaultType (PhysBase k) h = h
agree_kept goal f DefaultType (PhysMask k) h = h
agree_kept goal f DefaultType (FixedRange k) h = h
agree_kept goal f DefaultType Pat h = h
agree_kept goal f DefaultType DefaultType h = refl

agree_all_kept : (goal f : RegisterFile) (r : Register) (rs : List Register) → AgreeAll goal f rs → AgreeAll goal (with_goal goal r f) rs
agree_all_kept goal f r [] h = tt
agree_all_kept goal f r (q ∷ rs) h = (agree_kept goal f r q h.0, agree_all_kept goal f r rs h.1)

agree_join : (goal f : RegisterFile) (rs qs : List Register) → AgreeAll goal f rs → AgreeAll goal f qs → AgreeAll goal f (rs ++ qs)
agree_join goal f [] qs h g = g
agree_join goal f (r ∷ rs) qs h g = (h.0, agree_join goal f rs qs h.1 g)

agree_front : (goal f : RegisterFile) (rs qs : List Register) → AgreeAll goal f (rs ++ qs) → AgreeAll goal f rs
agree_front goal f [] qs h = tt
agree_front goal f (r ∷ rs) qs h = (h.0, agree_front goal f rs qs h.1)

agree_back : (goal f : RegisterFile) (rs qs : List Register) → AgreeAll goal f (rs ++ qs) → AgreeAll goal f qs
agree_back goal f [] qs h = h
agree_back goal f (r ∷ rs) qs h = agree_back goal f rs qs h.1

-- the first i writable registers agree, and the i-th is written
pub agree_more : (goal f : RegisterFile) (i : ℕ) → i < length (writable goal) → Alike goal f → AgreeAll goal f (take i (writable goal)) → AgreeAll goal (with_goal goal (slice_index_or (writable goal) i DefaultType) f) (take (i + 1) (writable goal))
agree_more goal f i within a h =
    let r : Register = slice_index_or (writable goal) i DefaultType in
    subst (λ (rs : List Register). AgreeAll goal (with_goal goal r f) rs) (sym (take_more (writable goal) i DefaultType within))
    (agree_join goal (with_goal goal r f) (take i (writable goal)) (r ∷ []) (agree_all_kept goal f r (take i (writable goal)) h) (agree_written goal f r a, tt))

-- ---- all registers

pairs_at : (goal f : RegisterFile) (first count : ℕ) → AgreeAll goal f (pair_registers first count) → (n : ℕ) → first ≤ n → n < first + count → Agree goal f (PhysBase n) × Agree goal f (PhysMask n)
pairs_at goal f first zero h n low high = absurd (omega arith)
pairs_at goal f first (suc count) h n low high =
    ⊎_elim (λ (e : n ≡ first). subst (λ k. Agree goal f (PhysBase k) × Agree goal f (PhysMask k)) (sym e) (h.0, h.1.0))
    (λ (l : n ≡ first → ⊥). let more : first + 1 ≤ n = omega arith in pairs_at goal f (first + 1) count h.1.1 n more (omega arith))
    (cases_eq n first)

pair_ext : (x y : ℕ × ℕ) → x.0 ≡ y.0 → x.1 ≡ y.1 → x ≡ y
pair_ext x y a b = λ i. (a i, b i)

fixed_at : (goal f : RegisterFile) → AgreeAll goal f fixed_registers → (i : ℕ) → i < 11 → Agree goal f (FixedRange i)
fixed_at goal f h zero w = h.0
fixed_at goal f h (suc zero) w = h.1.0
fixed_at goal f h (suc (suc zero)) w = h.1.1.0
fixed_at goal f h (suc (suc (suc zero))) w = h.1.1.1.0
fixed_at goal f h (suc (suc (suc (suc zero)))) w = h.1.1.1.1.0
fixed_at goal f h (suc (suc (suc (suc (suc zero))))) w = h.1.1.1.1.1.0
fixed_at goal f h (suc (suc (suc (suc (suc (suc zero)))))) w = h.1.1.1.1.1.1.0
fixed_at goal f h (suc (suc (suc (suc (suc (suc (suc zero))))))) w = h.1.1.1.1.1.1.1.0
fixed_at goal f h (suc (suc (suc (suc (suc (suc (suc (suc zero)))))))) w = h.1.1.1.1.1.1.1.1.0
fixed_at goal f h (suc (suc (suc (suc (suc (suc (suc (suc (suc zero))))))))) w = h.1.1.1.1.1.1.1.1.1.0
fixed_at goal f h (suc (suc (suc (suc (suc (suc (suc (suc (suc (suc zero)))))))))) w = h.1.1.1.1.1.1.1.1.1.1.0
fixed_at goal f h (suc (suc (suc (suc (suc (suc (suc (suc (suc (suc (suc i))))))))))) w = absurd (omega arith)

-- a file of the goal's shape with all its registers is the goal
pub all_written : (goal f : RegisterFile) → IsRegisterFile goal → Alike goal f → AgreeAll goal f (writable goal) → f ≡ goal
all_written goal f g a h = λ i. record { width = a.width i; capabilities = a.capabilities i; pairs = pairs i; fixed = fixed i; pat = ends.0 i; default_type = ends.1.0 i }
  where
    front : AgreeAll goal f (pair_registers 0 (pair_count goal) ++ (if has_fixed goal then fixed_registers else []))
    front = agree_front goal f (pair_registers 0 (pair_count goal) ++ (if has_fixed goal then fixed_registers else [])) (Pat ∷ DefaultType ∷ []) h

    ends : AgreeAll goal f (Pat ∷ DefaultType ∷ [])
    ends = agree_back goal f (pair_registers 0 (pair_count goal) ++ (if has_fixed goal then fixed_registers else [])) (Pat ∷ DefaultType ∷ []) h

    of_pairs : AgreeAll goal f (pair_registers 0 (pair_count goal))
    of_pairs = agree_front goal f (pair_registers 0 (pair_count goal)) (if has_fixed goal then fixed_registers else []) front

    of_fixed : AgreeAll goal f (if has_fixed goal then fixed_registers else [])
    of_fixed = agree_back goal f (pair_registers 0 (pair_count goal)) (if has_fixed goal then fixed_registers else []) front

    pair_at : (n : ℕ) → n < length f.pairs → get_or f.pairs n (0, 0) ≡ get_or goal.pairs n (0, 0)
    pair_at n w =
        let long = a.pairs in
        let count = g.all_pairs in
        let both = pairs_at goal f 0 (pair_count goal) of_pairs n (omega arith) (omega arith) in
        pair_ext (get_or f.pairs n (0, 0)) (get_or goal.pairs n (0, 0)) both.0 both.1

    pairs : f.pairs ≡ goal.pairs
    pairs = ext_get_or (0, 0) f.pairs goal.pairs a.pairs pair_at

    fixed_if : (b : Bool) → has_fixed goal ≡ b → AgreeAll goal f (if b then fixed_registers else []) → f.fixed ≡ goal.fixed
    fixed_if true is all =
        let long = a.fixed in
        let eleven = g.all_fixed in
        ext_get_or 0 f.fixed goal.fixed a.fixed (λ n w. fixed_at goal f all n (omega arith))
    fixed_if false is all = a.no_fixed is

    fixed : f.fixed ≡ goal.fixed
    fixed = fixed_if (has_fixed goal) refl of_fixed

-- the last writable register is the default type
pub last_written : (goal f : RegisterFile) (i : ℕ) → i < length (writable goal) → length (writable goal) ≤ i + 1 → IsRegisterFile goal → Alike goal f → AgreeAll goal f (take i (writable goal)) → with_goal goal DefaultType f ≡ goal
last_written goal f i within last g a h =
    all_written goal (with_goal goal DefaultType f) g (alike_writes goal f DefaultType a)
    (subst (λ (rs : List Register). AgreeAll goal (with_goal goal DefaultType f) rs) (take_all (i + 1) (writable goal) last)
    (subst (λ (r : Register). AgreeAll goal (with_goal goal r f) (take (i + 1) (writable goal))) at_end (agree_more goal f i within a h)))
  where
    rest : List Register
    rest = pair_registers 0 (pair_count goal) ++ (if has_fixed goal then fixed_registers else [])

    at_end : slice_index_or (writable goal) i DefaultType ≡ DefaultType
    at_end = two (pair_registers 0 (pair_count goal) ++ (if has_fixed goal then fixed_registers else [])) i within last
      where
        two : (xs : List Register) (i : ℕ) → i < length (xs ++ Pat ∷ DefaultType ∷ []) → length (xs ++ Pat ∷ DefaultType ∷ []) ≤ i + 1 → get_or (xs ++ Pat ∷ DefaultType ∷ []) i DefaultType ≡ DefaultType
        two [] zero w l = absurd (omega arith)
        two [] (suc zero) w l = refl
        two [] (suc (suc i)) w l = absurd (omega arith)
        two (x ∷ xs) zero w l = absurd (omega (arith, length-append xs (Pat ∷ DefaultType ∷ [])))
        two (x ∷ xs) (suc i) w l = two xs i (omega arith) (omega arith)
