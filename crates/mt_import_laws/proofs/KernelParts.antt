-- What the lines of a kernel's table show of a file's registers.
use Rattle.std.proofs.Common.{◌≡◌, ◌∙◌, ◌+◌, ◌*◌, ◌/◌, ◌%◌, ◌^◌, ◌<◌, ◌≤◌, ◌==◌, ◌&&◌, nat_le, nat_lt, ℕ, zero, suc, Bool, true, false, slice_index, Option, Some, None, refl, sym, ap, subst, arith, lit<, inl, inr, bit_and}
use Rattle.std.specs.Prelude.{◌||◌, if◌then◌else◌}
use Rattle.std.specs.Int.{bit_at}
use Rattle.std.specs.List.{AllByRecursion}
use Rattle.std.proofs.lemmas.Bool.{eqb-true}
use Rattle.std.proofs.lemmas.Bool.Decides.{nat_tests}
use Rattle.std.proofs.lemmas.Nat.Bits.{and_pow, bit_at-zero}
use Rattle.std.proofs.Math.Nat.{zero-mul}
use lib.Bits.{and_block, and_high, and_mask, and_zero_l}
use Rattle.mt_kinds.specs.Bits.{byte_at, is_bit_set}
use Rattle.mt_regs.specs.declared.registers.Register.TheVariants.{PhysBase, PhysMask, FixedRange, Pat, DefaultType}
use Rattle.mt_regs.specs.RegisterFile.{RegisterFile, is_enabled, is_fixed_enabled, low_byte, pair_at}
use Rattle.mt_regs.specs.Registers.{fixed_numbers}
use Rattle.mt_text.specs.declared.place.Place.{Place}
use Rattle.mt_import.specs.declared.shape.Shown.{Shown}
use Rattle.mt_import.specs.Kernel.{all_fixed_shown, fixed_by, fixed_run, fixed_shown, in_run, run_bytes}
use Rattle.mt_import.specs.Pieces.{shown_bits}
use Rattle.mt_import_laws.specs.Origins.{IsAmong}
use Rattle.mt_import_laws.specs.PrintedByEdk2.{is_valid}
use Rattle.mt_import_laws.specs.PrintedByKernel.{range_type}
use Rattle.mt_import_laws.proofs.KernelRanges.{IsRun, in_run_one, marks, marks_fit, marks_part, marks_show}
use Rattle.mt_import_laws.proofs.TableLines.{IsTrueShown}
use Rattle.mt_import_laws.proofs.Whole.{Prints}

-- of a mask whose V is clear no line shows more than V
abbrev pub kernel_bits : RegisterFile → Prints
kernel_bits file None bits = true
kernel_bits file (Some (PhysBase n)) bits = true
kernel_bits file (Some (PhysMask n)) bits = is_valid (pair_at file.pairs n) || bits == 0x800
kernel_bits file (Some (FixedRange place)) bits = true
kernel_bits file (Some Pat) bits = true
kernel_bits file (Some DefaultType) bits = true

-- ---- single bits

pub bit_set : (value k : ℕ) → is_bit_set value k ≡ true → bit_and value (2 ^ k) ≡ 2 ^ k
bit_set value k is = let one : value / 2 ^ k % 2 ≡ 1 = eqb-true (value / 2 ^ k % 2) 1 is in and_pow value k ∙ ap (λ b. b * 2 ^ k) one ∙ omega arith

pub bit_clear : (value k : ℕ) → is_bit_set value k ≡ false → bit_and value (2 ^ k) ≡ 0
bit_clear value k is = and_pow value k ∙ ap (λ b. b * 2 ^ k) (zero_bit (value / 2 ^ k % 2) (omega arith) is) ∙ zero-mul (2 ^ k)
  where
    zero_bit : (bit : ℕ) → bit < 2 → (bit == 1) ≡ false → bit ≡ 0
    zero_bit bit small apart = grind (arith, nat_tests, small, apart)

module _ (file : RegisterFile) where
  -- ---- IA32_MTRR_DEF_TYPE

  -- all but FE and E
  pub default_part : (value : ℕ) → value / 0x100 % 4 ≡ 0 → value / 0x1000 ≡ 0 → low_byte value ≡ bit_and value 0xfffffffffffff3ff
  default_part value low high =
      let split : value ≡ 0 * 2 ^ 12 + value % 2 ^ 12 = omega (arith, high) in
      let byte : value % 2 ^ 12 % 2 ^ 10 ≡ value % 2 ^ 8 = omega (arith, low) in
      sym (ap (λ v. bit_and v (0xfffffffffffff * 2 ^ 12 + 0x3ff)) split
      ∙ and_block 12 0 0xfffffffffffff (value % 2 ^ 12) 0x3ff (omega arith) (lit< tt)
      ∙ ap (λ z. z * 2 ^ 12 + bit_and (value % 2 ^ 12) 0x3ff) (and_zero_l 0xfffffffffffff)
      ∙ ap (λ z. 0 * 2 ^ 12 + z) (and_mask (value % 2 ^ 12) 10 ∙ byte) ∙ omega arith)

  pub flag_part : (k : ℕ) (test : Bool) → is_bit_set file.default_type k ≡ test → (if test then 2 ^ k else 0) ≡ bit_and file.default_type (2 ^ k)
  flag_part k true is = sym (bit_set file.default_type k is)
  flag_part k false is = sym (bit_clear file.default_type k is)

  pub both_flags : is_enabled file ≡ true → is_fixed_enabled file ≡ false → 0x800 ≡ bit_and file.default_type 0xc00
  both_flags on off =
      let one : file.default_type / 2 ^ 11 % 2 ≡ 1 = eqb-true (file.default_type / 2 ^ 11 % 2) 1 on in
      let zero_bit = none (file.default_type / 2 ^ 10 % 2) (omega arith) off in
      let two : file.default_type / 2 ^ 10 % 2 ^ 2 * 2 ^ 10 ≡ 0x800 = omega (arith, one, zero_bit) in
      sym (and_high file.default_type 2 10 ∙ two)
    where
      none : (bit : ℕ) → bit < 2 → (bit == 1) ≡ false → bit ≡ 0
      none bit small apart = grind (arith, nat_tests, small, apart)

  pub tells_default : (bits value : ℕ) (place : Place) → bits < 2 ^ 64 → value ≡ bit_and file.default_type bits → IsTrueShown file (kernel_bits file) (shown_bits 0x2ff bits value place)
  tells_default bits value place small is = inl (record { key = Some DefaultType; is_key = tt; is_printed = refl; number = refl; small = small; value = is })

  -- ---- a run of fixed ranges

  module _ (run : ℕ × ℕ) (is : IsRun (range_type file) 88 run) (place : Place) where
    abbrev code : ℕ
    code = range_type file run.0

    part_of : (register : ℕ) → bit_and (slice_index file.fixed register) (255 * marks run.0 run.1 8 (8 * register)) ≡ code * marks run.0 run.1 8 (8 * register)
    part_of register = marks_part run.0 run.1 8 (8 * register) (slice_index file.fixed register) code each
      where
        in_test : (range : ℕ) → in_run run.0 run.1 range ≡ 1 → (run.0 ≤ range) × (range < run.1)
        in_test range one = by (nat_le run.0 range) (nat_lt range run.1) refl refl one
          where
            by : (low high : Bool) → nat_le run.0 range ≡ low → nat_lt range run.1 ≡ high → ◌≡◌ {A = ℕ} (if low && high then 1 else 0) 1 → (run.0 ≤ range) × (range < run.1)
            by true true low high set = (grind (arith, nat_tests, low), grind (arith, nat_tests, high))
            by true false low high set = absurd (omega (arith, set))
            by false high_test low high set = absurd (omega (arith, set))

        each : (j : ℕ) → j < 8 → in_run run.0 run.1 (8 * register + j) ≡ 1 → byte_at (slice_index file.fixed register) j ≡ code
        each j few one =
            let inside = in_test (8 * register + j) one in
            let at : (8 * register + j) / 8 ≡ register = omega (arith, few) in
            let byte : (8 * register + j) % 8 ≡ j = omega (arith, few) in
            sym (ap (λ r. byte_at (slice_index file.fixed r) ((8 * register + j) % 8)) at ∙ ap (byte_at (slice_index file.fixed register)) byte)
            ∙ is.same (8 * register + j) inside.0 inside.1

    -- the bytes of a register
    all_bytes : (register : ℕ) → register < 11 → run_bytes run.0 run.1 (8 * register) ≡ marks run.0 run.1 8 (8 * register)
    all_bytes zero few = omega arith
    all_bytes (suc zero) few = omega arith
    all_bytes (suc (suc zero)) few = omega arith
    all_bytes (suc (suc (suc zero))) few = omega arith
    all_bytes (suc (suc (suc (suc zero)))) few = omega arith
    all_bytes (suc (suc (suc (suc (suc zero))))) few = omega arith
    all_bytes (suc (suc (suc (suc (suc (suc zero)))))) few = omega arith
    all_bytes (suc (suc (suc (suc (suc (suc (suc zero))))))) few = omega arith
    all_bytes (suc (suc (suc (suc (suc (suc (suc (suc zero)))))))) few = omega arith
    all_bytes (suc (suc (suc (suc (suc (suc (suc (suc (suc zero))))))))) few = omega arith
    all_bytes (suc (suc (suc (suc (suc (suc (suc (suc (suc (suc zero)))))))))) few = omega arith
    all_bytes (suc (suc (suc (suc (suc (suc (suc (suc (suc (suc (suc n))))))))))) few = absurd (omega (arith, few))

    shown_true : (register number : ℕ) → register < 11 → number ≡ slice_index fixed_numbers register
        → IsTrueShown file (kernel_bits file) (fixed_shown (fixed_run run.0 run.1 code place) (8 * register) number)
    shown_true register number few numbered = by (run_bytes run.0 run.1 (8 * register) == 0)
      where
        by : (test : Bool) → IsTrueShown file (kernel_bits file) (if test then None else shown_bits number (255 * run_bytes run.0 run.1 (8 * register)) (code * run_bytes run.0 run.1 (8 * register)) place)
        by true = tt
        by false = inl (record {
          key = Some (FixedRange register);
          is_key = (few, refl);
          is_printed = refl;
          number = numbered;
          small = subst (λ m. 255 * m < 2 ^ 64) (sym (all_bytes register few)) (marks_fit run.0 run.1 (8 * register));
          value = ap (λ m. code * m) (all_bytes register few) ∙ sym (part_of register) ∙ ap (λ m. bit_and (slice_index file.fixed register) (255 * m)) (sym (all_bytes register few));
        })

    pub run_true : AllByRecursion (IsTrueShown file (kernel_bits file)) (all_fixed_shown (fixed_run run.0 run.1 code place))
    run_true = (
      shown_true 0 0x250 (lit< tt) refl,
      (
        shown_true 1 0x258 (lit< tt) refl,
        (
          shown_true 2 0x259 (lit< tt) refl,
          (
            shown_true 3 0x268 (lit< tt) refl,
            (
              shown_true 4 0x269 (lit< tt) refl,
              (
                shown_true 5 0x26a (lit< tt) refl,
                (
                  shown_true 6 0x26b (lit< tt) refl,
                  (
                    shown_true 7 0x26c (lit< tt) refl,
                    (
                      shown_true 8 0x26d (lit< tt) refl,
                      (shown_true 9 0x26e (lit< tt) refl, (shown_true 10 0x26f (lit< tt) refl, tt)),
                    ),
                  ),
                ),
              ),
            ),
          ),
        ),
      ),
    )

    -- the register's part is shown if the run has one of its ranges
    pub record ShowsPart (register : ℕ) : Type 0 where
      pub shown : Shown
      pub among : IsAmong (Some shown) (all_fixed_shown (fixed_run run.0 run.1 code place))
      pub number : shown.number ≡ slice_index fixed_numbers register
      pub bits : shown.bits ≡ 255 * marks run.0 run.1 8 (8 * register)

    some_bytes : (number bytes : ℕ) → (bytes == 0) ≡ false → Some (record { number = number; bits = 255 * bytes; value = code * bytes; place = place }) ≡ fixed_by number bytes code place
    some_bytes number bytes some = rw some refl

    one_part : (register number : ℕ) → ((shown : Option Shown) → shown ≡ fixed_shown (fixed_run run.0 run.1 code place) (8 * register) number → IsAmong shown (all_fixed_shown (fixed_run run.0 run.1 code place))) → number ≡ slice_index fixed_numbers register
        → register < 11 → (run_bytes run.0 run.1 (8 * register) == 0) ≡ false → ShowsPart register
    one_part register number among numbered few some = record {
      shown = record { number = number; bits = 255 * run_bytes run.0 run.1 (8 * register); value = code * run_bytes run.0 run.1 (8 * register); place = place };
      among = among _ (some_bytes number (run_bytes run.0 run.1 (8 * register)) some);
      number = numbered;
      bits = ap (λ m. 255 * m) (all_bytes register few);
    }

    part_shown : (register : ℕ) → register < 11 → (run_bytes run.0 run.1 (8 * register) == 0) ≡ false → ShowsPart register
    part_shown zero few some = one_part 0 0x250 (λ shown is. inl (sym is)) refl few some
    part_shown (suc zero) few some = one_part 1 0x258 (λ shown is. inr (inl (sym is))) refl few some
    part_shown (suc (suc zero)) few some = one_part 2 0x259 (λ shown is. inr (inr (inl (sym is)))) refl few some
    part_shown (suc (suc (suc zero))) few some = one_part 3 0x268 (λ shown is. inr (inr (inr (inl (sym is))))) refl few some
    part_shown (suc (suc (suc (suc zero)))) few some = one_part 4 0x269 (λ shown is. inr (inr (inr (inr (inl (sym is)))))) refl few some
    part_shown (suc (suc (suc (suc (suc zero))))) few some = one_part 5 0x26a (λ shown is. inr (inr (inr (inr (inr (inl (sym is))))))) refl few some
    part_shown (suc (suc (suc (suc (suc (suc zero)))))) few some = one_part 6 0x26b (λ shown is. inr (inr (inr (inr (inr (inr (inl (sym is)))))))) refl few some
    part_shown (suc (suc (suc (suc (suc (suc (suc zero))))))) few some = one_part 7 0x26c (λ shown is. inr (inr (inr (inr (inr (inr (inr (inl (sym is))))))))) refl few some
    part_shown (suc (suc (suc (suc (suc (suc (suc (suc zero)))))))) few some = one_part 8 0x26d (λ shown is. inr (inr (inr (inr (inr (inr (inr (inr (inl (sym is)))))))))) refl few some
    part_shown (suc (suc (suc (suc (suc (suc (suc (suc (suc zero))))))))) few some = one_part 9 0x26e (λ shown is. inr (inr (inr (inr (inr (inr (inr (inr (inr (inl (sym is))))))))))) refl few some
    part_shown (suc (suc (suc (suc (suc (suc (suc (suc (suc (suc zero)))))))))) few some = one_part 10 0x26f (λ shown is. inr (inr (inr (inr (inr (inr (inr (inr (inr (inr (inl (sym is)))))))))))) refl few some
    part_shown (suc (suc (suc (suc (suc (suc (suc (suc (suc (suc (suc n))))))))))) few some = absurd (omega (arith, few))

    -- so it is where it has the range of one of the register's bits
    pub bit_shown : (register i : ℕ) → register < 11 → i < 64 → run.0 ≤ 8 * register + i / 8 → 8 * register + i / 8 < run.1
        → (part : ShowsPart register) × (bit_at (255 * marks run.0 run.1 8 (8 * register)) i ≡ 1)
    bit_shown register i few within low high =
        let one : bit_at (255 * marks run.0 run.1 8 (8 * register)) i ≡ 1 = marks_show run.0 run.1 8 (8 * register) i within (in_run_one run.0 run.1 (8 * register + i / 8) low high) in
        (part_shown register few (not_zero register i few one), one)
      where
        not_zero : (r j : ℕ) → r < 11 → bit_at (255 * marks run.0 run.1 8 (8 * r)) j ≡ 1 → (run_bytes run.0 run.1 (8 * r) == 0) ≡ false
        not_zero r j few one = by (run_bytes run.0 run.1 (8 * r) == 0) refl
          where
            by : (test : Bool) → (run_bytes run.0 run.1 (8 * r) == 0) ≡ test → test ≡ false
            by true is =
                let none : marks run.0 run.1 8 (8 * r) ≡ 0 = sym (all_bytes r few) ∙ eqb-true (run_bytes run.0 run.1 (8 * r)) 0 is in
                let e : 0 ≡ 1 = sym (bit_at-zero j) ∙ sym (ap (λ m. bit_at (255 * m) j) none) ∙ one in
                absurd (omega (arith, e))
            by false is = refl
