-- A file none of whose registers is at fault by itself.
use Rattle.std.proofs.Common.{◌≡◌, ◌∙◌, ℕ, zero, suc, ◌<◌, ◌/◌, ◌==◌, Bool, true, false, [], ◌∷◌, ◌++◌, length, None, refl, sym, ap, subst, inl, inr, ◌⊎◌, arith, eqb-true}
use Rattle.std.specs.Prelude.{not, if◌then◌else◌, slice_index}
use Rattle.std.proofs.lemmas.Bool.{cases_Bool, cases_lt}
use Rattle.std.proofs.lemmas.List.{append_assoc, get_or_past}
use Rattle.mt_kinds.specs.Bits.{byte_at}
use Rattle.mt_regs.specs.declared.registers.Register.TheVariants.{DefaultType, FixedRange, Pat}
use Rattle.mt_regs.specs.RegisterFile.{RegisterFile, has_fixed, has_write_combining, pair_at, pair_count}
use Rattle.mt_regs.specs.Registers.{fixed_part_of, fixed_registers, pair_registers}
use Rattle.mt_regs.specs.Faults.{any_byte, first_of, is_pat_byte, reason_of, register_fault}
use Rattle.mt_tidy.specs.Sound.{IsPairValue, has_types}
use Rattle.mt_tidy.proofs.Fitted.{fault_free, other_registers, pairs_first, zeros_no_fault}

-- a pair that the file doesn't have is zeros
each_passes : (f : RegisterFile) → ((n : ℕ) → n < length f.pairs → IsPairValue f (pair_at f.pairs n)) → (n : ℕ) → IsPairValue f (pair_at f.pairs n)
each_passes f passes n = elim (cases_lt n (length f.pairs)) [
  | inl within ↦ passes n within
  | inr past ↦ subst (IsPairValue f) (sym (get_or_past f.pairs n (0, 0) past)) (zeros_no_fault f)
]

fixed_free : (f : RegisterFile) → ((place : ℕ) → place < 11 → reason_of f (FixedRange place) ≡ None)
    → first_of f (fixed_registers ++ Pat ∷ DefaultType ∷ []) ≡ first_of f (Pat ∷ DefaultType ∷ [])
fixed_free f sound =
    fault_free (FixedRange 0) _ _ (sound 0 (omega arith)) ∙ fault_free (FixedRange 1) _ _ (sound 1 (omega arith))
    ∙ fault_free (FixedRange 2) _ _ (sound 2 (omega arith)) ∙ fault_free (FixedRange 3) _ _ (sound 3 (omega arith))
    ∙ fault_free (FixedRange 4) _ _ (sound 4 (omega arith)) ∙ fault_free (FixedRange 5) _ _ (sound 5 (omega arith))
    ∙ fault_free (FixedRange 6) _ _ (sound 6 (omega arith)) ∙ fault_free (FixedRange 7) _ _ (sound 7 (omega arith))
    ∙ fault_free (FixedRange 8) _ _ (sound 8 (omega arith)) ∙ fault_free (FixedRange 9) _ _ (sound 9 (omega arith))
    ∙ fault_free (FixedRange 10) _ _ (sound 10 (omega arith))

others_free : (f : RegisterFile) → (has_fixed f ≡ true → (place : ℕ) → place < 11 → reason_of f (FixedRange place) ≡ None)
    → first_of f (other_registers f) ≡ first_of f (Pat ∷ DefaultType ∷ [])
unfolding other_registers
others_free f sound = by_fixed (has_fixed f) sound
  where
    by_fixed : (b : Bool) → (b ≡ true → (place : ℕ) → place < 11 → reason_of f (FixedRange place) ≡ None)
        → first_of f ((if b then fixed_registers else []) ++ Pat ∷ DefaultType ∷ []) ≡ first_of f (Pat ∷ DefaultType ∷ [])
    by_fixed true sound = fixed_free f (sound refl)
    by_fixed false sound = refl

no_byte : (b : Bool) → not b ≡ true → b ≡ false
no_byte true h = absurd (cc)
no_byte false h = refl

fixed_sound : (f : RegisterFile) (place : ℕ) → has_types (has_write_combining f) (slice_index f.fixed place) ≡ true → reason_of f (FixedRange place) ≡ None
fixed_sound f place h = rw (no_byte _ h) refl

pub none_at_fault : (f : RegisterFile) → ((n : ℕ) → n < length f.pairs → IsPairValue f (pair_at f.pairs n))
    → (has_fixed f ≡ true → (place : ℕ) → place < 11 → has_types (has_write_combining f) (slice_index f.fixed place) ≡ true)
    → reason_of f Pat ≡ None → reason_of f DefaultType ≡ None → register_fault f ≡ None
unfolding other_registers
none_at_fault f pairs fixed pat default =
    ap (first_of f) (append_assoc (pair_registers 0 (pair_count f)) (fixed_part_of f) (Pat ∷ DefaultType ∷ []))
    ∙ pairs_first f (each_passes f pairs) 0 (pair_count f) (other_registers f)
    ∙ others_free f (λ has place below. fixed_sound f place (fixed has place below))
    ∙ fault_free Pat _ _ pat
    ∙ fault_free DefaultType _ _ default

-- a byte of the PAT's types has no high bit
pat_byte_low : (byte : ℕ) → is_pat_byte byte ≡ true → (byte / 8 == 0) ≡ true
pat_byte_low byte h = split (cases_Bool (byte == 0)) (cases_Bool (byte == 1)) (cases_Bool (byte == 4)) (cases_Bool (byte == 5)) (cases_Bool (byte == 6)) (cases_Bool (byte == 7))
  where
    at : (n : ℕ) → (n / 8 == 0) ≡ true → byte ≡ n → (byte / 8 == 0) ≡ true
    at n low is = subst (λ b. (b / 8 == 0) ≡ true) (sym is) low

    split : ((byte == 0) ≡ true) ⊎ ((byte == 0) ≡ false) → ((byte == 1) ≡ true) ⊎ ((byte == 1) ≡ false) → ((byte == 4) ≡ true) ⊎ ((byte == 4) ≡ false)
        → ((byte == 5) ≡ true) ⊎ ((byte == 5) ≡ false) → ((byte == 6) ≡ true) ⊎ ((byte == 6) ≡ false) → ((byte == 7) ≡ true) ⊎ ((byte == 7) ≡ false)
        → (byte / 8 == 0) ≡ true
    split (inl a) b c d e g = at 0 refl (eqb-true byte 0 a)
    split (inr a) (inl b) c d e g = at 1 refl (eqb-true byte 1 b)
    split (inr a) (inr b) (inl c) d e g = at 4 refl (eqb-true byte 4 c)
    split (inr a) (inr b) (inr c) (inl d) e g = at 5 refl (eqb-true byte 5 d)
    split (inr a) (inr b) (inr c) (inr d) (inl e) g = at 6 refl (eqb-true byte 6 e)
    split (inr a) (inr b) (inr c) (inr d) (inr e) (inl g) = at 7 refl (eqb-true byte 7 g)
    split (inr a) (inr b) (inr c) (inr d) (inr e) (inr g) = let none : false ≡ true = rw (a, b, c, d, e, g) at h in absurd (cc none)

no_high : (value n : ℕ) → ((i : ℕ) → i < n → is_pat_byte (byte_at value i) ≡ true) → any_byte (λ byte. not (byte / 8 == 0)) value n ≡ false
no_high value zero listed = refl
no_high value (suc n) listed = rw (no_high value n (λ i below. listed i (omega arith)), pat_byte_low (byte_at value n) (listed n (omega arith))) refl

all_listed : (value n : ℕ) → ((i : ℕ) → i < n → is_pat_byte (byte_at value i) ≡ true) → any_byte (λ byte. not (is_pat_byte byte)) value n ≡ false
all_listed value zero listed = refl
all_listed value (suc n) listed = rw (all_listed value n (λ i below. listed i (omega arith)), listed n (omega arith)) refl

pub pat_sound : (f : RegisterFile) → ((i : ℕ) → i < 8 → is_pat_byte (byte_at f.pat i) ≡ true) → reason_of f Pat ≡ None
pat_sound f listed = rw (no_high f.pat 8 listed, all_listed f.pat 8 listed) refl
