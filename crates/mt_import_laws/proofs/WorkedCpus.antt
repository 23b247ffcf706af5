-- The premises of an instance of two processors.
use Rattle.std.proofs.Common.{refl, arith, inr, lit<, lit≤}
use Rattle.mt_regs.specs.RegisterFile.{IsRegisterFile}
use Rattle.mt_regs.specs.Registers.{writable}
use Rattle.mt_regs.specs.Words.{HasWords}
use Rattle.mt_regs.proofs.ByNumber.{all_fit}
use Rattle.mt_dump.specs.Dumps.{IsDump}
use Rattle.mt_import_laws.specs.Printed.{Agrees, dump_of_all}
use Rattle.mt_import_laws.specs.PrintedByRdmsr.{SuitsRdmsrOfAll}
use Rattle.mt_import_laws.specs.PrintedByX86info.{SuitsX86info, SuitsX86infoOfAll}
use Rattle.mt_import_laws.specs.WorkedPrinted.{other_cpu, two_cpus, two_prints, width_36, words_for_x86info, x86info_print}
use Rattle.mt_import_laws.proofs.WorkedFiles.{fit_at, rdmsr_suits, words_agree, x86info_suits}

is_other : IsRegisterFile other_cpu
is_other = record { wide = lit≤ tt; narrow = lit≤ tt; few_pairs = lit≤ tt; all_pairs = refl; all_fixed = refl; no_fixed = λ none. cc none }

other_words : HasWords other_cpu
other_words = all_fit other_cpu 29 is_other refl (λ k register below at. fit_at other_cpu (writable other_cpu) k register refl at) (lit< tt)

is_dump : IsDump (dump_of_all two_cpus)
is_dump = record {
  known = inr refl;
  one = λ is. absurd (omega (arith, is));
  some = lit< tt;
  few = lit≤ tt;
  are_files = (rdmsr_suits.is_file, (is_other, tt));
  one_width = (refl, (refl, tt));
  one_capabilities = (refl, (refl, tt));
}

other_agrees : Agrees width_36 other_cpu
other_agrees = record { width = λ width is. cc is; registers = λ number value is. cc is }

pub rdmsr_suits_two : SuitsRdmsrOfAll two_cpus width_36
rdmsr_suits_two = record { is_dump = is_dump; has_words = (rdmsr_suits.has_words, (other_words, tt)); agrees = (rdmsr_suits.agrees, (other_agrees, tt)); width = refl }

x86info_agrees : Agrees words_for_x86info other_cpu
x86info_agrees = record { width = λ width is. cc is; registers = λ number value. words_agree other_cpu words_for_x86info.registers number value (refl, (refl, tt)) }

x86info_suits_other : SuitsX86info x86info_print other_cpu words_for_x86info
x86info_suits_other = record {
  are_names = x86info_suits.are_names;
  are_fields = x86info_suits.are_fields;
  few_virtual = x86info_suits.few_virtual;
  is_file = is_other;
  has_words = other_words;
  agrees = x86info_agrees;
  width = λ none. cc none;
  pat = refl;
  fixed_c0000 = λ has. refl;
  fixed_00000 = λ has few. absurd (omega (arith, few));
  default_type = λ none. cc none;
  bases = λ n low high. absurd (omega (arith, low, high));
  masks = λ n low high. absurd (omega (arith, low, high));
}

pub x86info_suits_two : SuitsX86infoOfAll two_prints words_for_x86info
x86info_suits_two = record { is_dump = is_dump; each = (x86info_suits, (x86info_suits_other, tt)) }
