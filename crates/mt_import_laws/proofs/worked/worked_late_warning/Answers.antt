use Rattle.std.proofs.Common.{◌≡◌, ◌∙◌, Bool, true, false, List, [], ◌∷◌, refl, sym, ap, inl, inr}
use Rattle.std.specs.List.{list_all}
use Rattle.std.proofs.lemmas.Bool.{and_parts}
use Rattle.mt_import.specs.declared.shape.Warning.TheVariants.{Unlike, WrongMask, LostMemory, TopOfMemory, Syscfg, MemoryBits}
use Rattle.mt_import.specs.Readings.{Fact, all_registers, is_fault, is_line, is_register_value, is_warning, is_width}
use Rattle.mt_import.specs.Supplied.{nothing_supplied}
use Rattle.mt_import_laws.specs.Origins.{IsAmong}
use Rattle.mt_import_laws.specs.Warnings.{by_register, by_words, facts_read}
use Rattle.mt_import_laws.specs.Worked.{late_log, worked_choice}
use Rattle.mt_import_laws.proofs.worked.worked_late_warning.Goals as goal

abbrev is_other : Fact → Bool
is_other (is_line number format matched) = true
is_other (is_register_value reading) = true
is_other (is_width width place) = true
is_other (is_warning Unlike number) = false
is_other (is_warning WrongMask number) = true
is_other (is_warning LostMemory number) = true
is_other (is_warning TopOfMemory number) = true
is_other (is_warning Syscfg number) = true
is_other (is_warning MemoryBits number) = true
is_other (is_fault fault) = true

never : (facts : List Fact) → list_all is_other facts ≡ true → IsAmong (is_warning Unlike 4) facts → ⊥
never [] all among = among
never (fact ∷ facts) all (inl same) =
    let e : false ≡ true = ap is_other (sym same) ∙ (and_parts (is_other fact) (list_all is_other facts) all).0 in
    cc e
never (fact ∷ facts) all (inr later) = never facts (and_parts (is_other fact) (list_all is_other facts) all).1 later

pub returns : goal.returns
unfolding all_registers
returns c = record {
  early = by_words (inr (inl refl));
  late = λ are. elim are [
    | by_words among ↦ never (facts_read worked_choice nothing_supplied late_log) refl among
    | by_register reading among has same at ↦ cc same
  ];
}
