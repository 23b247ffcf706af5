use Rattle.mt_regs.proofs.ByNumber.{same_file}
use Rattle.mt_regs.proofs.words.files_of_equal_values_are_equal.Goals as goal

pub returns : goal.returns
returns c = λ f g is is_too width same. same_file f g is is_too same width
