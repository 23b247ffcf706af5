use Rattle.std.proofs.Common.{◌≡◌, ◌∙◌, ◌∷◌, [], Some, ap, arith, refl, rules, sym}
use Rattle.std.specs.Prelude.{ℕ, Option}
use Rattle.std.proofs.lemmas.List.Elements.{All-cons, All-nil}
use Rattle.mt_regs.specs.declared.registers.Register.TheVariants.{DefaultType, PhysMask}
use Rattle.mt_regs.specs.RegisterFile.{IsRegisterFile, RegisterFile}
use Rattle.mt_regs.specs.Registers.{value_at, with_value}
use Rattle.mt_types_laws.specs.WorkedRows.{plain}
use Rattle.mt_regs.proofs.Writes.{changes_only}
use Rattle.mt_types_laws.proofs.regs_worked.worked_first_differences.Goals as goal

abbrev typed : RegisterFile
typed = with_value plain DefaultType 0x800

inside : (a b : ℕ) → Some a ≡ Some b → a ≡ b
inside a b same = cc same

is_plain : IsRegisterFile plain
is_plain = search rules

pub returns-clause-first : goal.returns-clause-first
returns-clause-first c =
    let change = changes_only plain typed 0x2ff 0x800 is_plain refl in
    record {
      first = plain;
      first_at = refl;
      file = typed;
      at = refl;
      differs = λ same. omega (arith, inside 0x800 0 same);
      lower = λ other less. change.others other (λ e. omega (arith, less, e));
      before = All-cons (λ f. f ≡ plain) plain (plain ∷ []) refl (All-cons (λ f. f ≡ plain) plain [] refl (All-nil (λ f. f ≡ plain)));
    }

abbrev masked : RegisterFile
masked = with_value (with_value plain (PhysMask 7) 0x800) DefaultType 0x800

pub returns-clause-lower_register : goal.returns-clause-lower_register
returns-clause-lower_register c = λ h.
    let first : plain ≡ h.first = cc h.first_at in
    let file : masked ≡ h.file = cc h.at in
    let value : RegisterFile → Option ℕ = λ f. value_at f 0x20f in
    omega (arith, inside 0x800 0 (ap value file ∙ h.lower 0x20f (omega arith) ∙ ap value (sym first)))
