-- The numbers of the registers that some dump has.
use Rattle.std.proofs.Common.{◌≡◌, ◌∙◌, ◌<◌, ◌≤◌, ◌==◌, ◌&&◌, ◌-◌, nat_lt, ℕ, zero, suc, Bool, true, false, Option, Some, None, refl, sym, subst, arith, lit≤, inl, inr}
use Rattle.std.specs.Prelude.{if◌then◌else◌, not}
use Rattle.std.proofs.lemmas.Bool.{and_parts, cases_lt}
use Rattle.std.proofs.lemmas.Bool.Decides.{nat_tests}
use Rattle.mt_regs.specs.declared.registers.Register.{Register}
use Rattle.mt_regs.specs.RegisterFile.{IsRegisterFile}
use Rattle.mt_regs.specs.Registers.{register_of}
use Rattle.mt_regs.proofs.ByNumber.{register_of-range}
use Rattle.mt_import.specs.Readings.{all_registers, is_listed, is_register}
use Rattle.mt_import.specs.Reader.{slot_of}
use Rattle.mt_import.specs.Values.{is_fixed_number, is_pair_number}

are_registers : IsRegisterFile all_registers
unfolding all_registers
are_registers = record { wide = lit≤ tt; narrow = lit≤ tt; few_pairs = lit≤ tt; all_pairs = refl; all_fixed = refl; no_fixed = λ none. refl }

abbrev agrees : ℕ → Bool
agrees number = if is_listed number then is_register number else not (is_register number)

abbrev all_below : ℕ → Bool
all_below zero = true
all_below (suc n) = agrees n && all_below n

all_agree : all_below 0x300 ≡ true
unfolding all_registers
all_agree = refl

passes : (n k : ℕ) → all_below n ≡ true → k < n → agrees k ≡ true
passes zero k all less = absurd (omega (arith, less))
passes (suc n) k all less =
    let parts = and_parts (agrees n) (all_below n) all in
    elim (cases_lt k n) [
      | inl below ↦ passes n k parts.1 below
      | inr top ↦ let e : n ≡ k = omega (arith, less, top) in subst (λ j. agrees j ≡ true) e parts.0
    ]

same : (a b : Bool) → (if a then b else not b) ≡ true → a ≡ b
same true b is = sym is
same false true is = cc is
same false false is = refl

-- no register has a number past them
past_listed : (number : ℕ) → 0x300 ≤ number → is_listed number ≡ false
past_listed number high = grind (arith, nat_tests, high)

and_false : (test : Bool) → (test && false) ≡ false
and_false true = refl
and_false false = refl

past : (number : ℕ) → 0x300 ≤ number → is_register number ≡ false
past number high = by (number == 0xfe) (grind (arith, nat_tests, high)) (register_of all_registers number) refl
  where
    by : (first : Bool) → (number == 0xfe) ≡ false → (found : Option Register) → register_of all_registers number ≡ found → is_register number ≡ false
    by first other (Some register) is = let range = register_of-range all_registers number register are_registers is in absurd (omega (arith, high, range.1))
    by first other None is = rw (other, is) (and_false (nat_lt number 0x1000))

pub listed_is : (number : ℕ) → is_listed number ≡ is_register number
listed_is number = elim (cases_lt number 0x300) [
  | inl low ↦ same (is_listed number) (is_register number) (passes 0x300 number all_agree low)
  | inr high ↦ past_listed number high ∙ sym (past number high)
]

-- Each of them has a slot.
pub listed_slot : (number : ℕ) → is_listed number ≡ true → slot_of number ≡ None → ⊥
listed_slot number is none = by (number == 0xfe) refl (number == 0x277) refl (number == 0x2ff) refl (is_pair_number number) refl (is_fixed_number number) refl
  where
    by : (a : Bool) → (number == 0xfe) ≡ a → (b : Bool) → (number == 0x277) ≡ b → (c : Bool) → (number == 0x2ff) ≡ c → (d : Bool) → is_pair_number number ≡ d → (e : Bool) → is_fixed_number number ≡ e → ⊥
    by true is_a b is_b c is_c d is_d e is_e = let e : Some 0 ≡ None = rw is_a at none in cc e
    by false is_a true is_b c is_c d is_d e is_e = let e : Some 97 ≡ None = rw (is_a, is_b) at none in cc e
    by false is_a false is_b true is_c d is_d e is_e = let e : Some 98 ≡ None = rw (is_a, is_b, is_c) at none in cc e
    by false is_a false is_b false is_c true is_d e is_e = let e : Some (number - 0x1ff) ≡ None = rw (is_a, is_b, is_c, is_d) at none in cc e
    by false is_a false is_b false is_c false is_d true is_e = let e : Some (number - 0x20f) ≡ None = rw (is_a, is_b, is_c, is_d, is_e) at none in cc e
    by false is_a false is_b false is_c false is_d false is_e = let e : false ≡ true = grind (arith, nat_tests, is, is_a, is_b, is_c, is_d, is_e) in cc e
