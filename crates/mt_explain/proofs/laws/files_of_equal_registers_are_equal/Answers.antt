use Rattle.mt_explain.proofs.EqualRegisters.{are_equal_if, have_equal_if}
use Rattle.mt_explain.proofs.laws.files_of_equal_registers_are_equal.Goals as goal

pub returns : goal.returns
returns c = record { equal = λ f g is is_too same. (have_equal_if f g, are_equal_if f g is is_too same) }
