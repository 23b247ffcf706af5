use Rattle.std.proofs.Common.{◌∷◌, ◌++◌, ◌∙◌, ℕ, List, [], length, length-append, map, take, ap, sym, append_assoc, arith}
use Rattle.mt_regs.specs.Registers.{number_of, writable}
use Rattle.mt_import.proofs.Parts.{numbers_more, some_at}
use Rattle.mt_import.proofs.missing.push_registers.Goals as goal

pub unreachable-requires : goal.unreachable-requires
unreachable-requires c = some_at (writable c.args.file.now) c.registers.i (omega (arith, c.registers-test.true, c.count-i-end.ensures.count)) c.in_default.ensures.at

pub registers-preserved : goal.registers-preserved
registers-preserved c =
    let first = c.args.numbers.now.items in
    let numbers = map number_of (take c.registers.i (writable c.args.file.now)) in
    let size = ap length c.push_number.ensures.numbers ∙ length-append c.registers.numbers.items (c.number.result ∷ []) in
    record {
      text = c.push_number.ensures.numbers ∙ ap (λ (l : List ℕ). l ++ c.number.result ∷ []) c.registers.invariant.text ∙ append_assoc first numbers (c.number.result ∷ [])
          ∙ ap (λ n. first ++ (numbers ++ n ∷ [])) c.number.ensures
          ∙ ap (λ (l : List ℕ). first ++ l) (sym (numbers_more c.registers.i (writable c.args.file.now) c.in-Some.register c.in-Some.ensures.at));
      each = c.push_number.ensures.each;
      short = omega (arith, size, c.registers.invariant.short);
    }
