use Rattle.std.proofs.Common.{List, [], ◌∷◌, Ok, refl, lit≤}
use Rattle.mt_regs.specs.RegisterFile.{blank_file}
use Rattle.mt_dump.specs.Dump.{ShownBy}
use Rattle.mt_dump.specs.Dumps.{dump_of}
use Rattle.mt_dump.specs.Line.{Reading}
use Rattle.mt_dump.specs.Plain.{Empty, OfRegister, OfWidth}
use Rattle.mt_text_laws.specs.Worked.{two_registers_file}
use Rattle.mt_dump.specs.declared.said.Said.TheVariants.{Register, Width}
use Rattle.mt_dump.proofs.Stands.{clean_shown}
use Rattle.mt_text_laws.proofs.worked_plain.worked_plain_texts.Goals as goal

-- what lines say, the last first
abbrev two_said : List Reading
two_said = Ok (Register 0x2ff 0xc00 (record { line = 2; column = 1 }) (record { line = 2; column = 5 })) ∷ Ok (Register 0xfe 0x400 (record { line = 1; column = 1 }) (record { line = 1; column = 5 })) ∷ []

abbrev width_said : List Reading
width_said = Ok (Width 40 (record { line = 2; column = 1 }) (record { line = 2; column = 5 })) ∷ Ok (Register 0xfe 0 (record { line = 1; column = 1 }) (record { line = 1; column = 5 })) ∷ []

two : ShownBy (Ok (Register 0xfe 0x400 (record { line = 1; column = 1 }) (record { line = 1; column = 5 })) ∷ Ok (Register 0x2ff 0xc00 (record { line = 2; column = 1 }) (record { line = 2; column = 5 })) ∷ []) (dump_of two_registers_file)
two = clean_shown two_said (dump_of two_registers_file) ((λ is. lit≤ tt), refl, ((λ is. lit≤ tt), refl, tt)) refl

one : ShownBy (Ok (Register 0xfe 0 (record { line = 1; column = 1 }) (record { line = 1; column = 5 })) ∷ Ok (Width 40 (record { line = 2; column = 1 }) (record { line = 2; column = 5 })) ∷ []) (dump_of (blank_file 40 0))
one = clean_shown width_said (dump_of (blank_file 40 0)) ((lit≤ tt, lit≤ tt), refl, ((λ is. lit≤ tt), refl, tt)) refl

pub returns-clause-two_registers : goal.returns-clause-two_registers
returns-clause-two_registers c = record {
  lines = OfRegister 0xfe 0x400 ∷ Empty ∷ OfRegister 0x2ff 0xc00 ∷ [];
  plain = refl;
  capabilities = ((0x2ff, 0xc00) ∷ [], refl);
  once = two.sections.0.section.once;
  one_width = two.sections.0.section.one_width;
  values = two.sections.0.section.values;
  defaults = two.sections.0.section.defaults;
  width = two.sections.0.width;
  is_file = two.sections.0.section.is_file;
}

pub returns-clause-width : goal.returns-clause-width
returns-clause-width c = record {
  lines = OfRegister 0xfe 0 ∷ OfWidth 40 ∷ [];
  plain = refl;
  capabilities = ([], refl);
  once = one.sections.0.section.once;
  one_width = one.sections.0.section.one_width;
  values = one.sections.0.section.values;
  defaults = one.sections.0.section.defaults;
  width = one.sections.0.width;
  is_file = one.sections.0.section.is_file;
}
