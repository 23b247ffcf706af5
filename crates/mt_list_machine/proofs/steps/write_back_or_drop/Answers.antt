use Rattle.std.proofs.Common.{◌∙◌, ◌^◌, ap, nat_lt, sym}
use Rattle.std.specs.Prelude.{is_some}
use Rattle.std.proofs.lemmas.Bool.{ltb-true}
use Rattle.mt_cache.specs.declared.line.CacheLine.{CacheLine}
use Rattle.mt_cache.specs.Lines.{first_dirty_line, first_dirty_word}
use Rattle.mt_laws.proofs.Words.StepLaws.{find_within}
use Rattle.mt_list_machine.proofs.steps.write_back_or_drop.Goals as goal

pub write_back_event-requires : goal.write_back_event-requires
write_back_event-requires c =
    ltb-true _ _
    (find_within (λ (l : CacheLine). is_some (first_dirty_word l)) (λ (l : CacheLine). nat_lt l.number (2 ^ 46)) c.args.cpu.now.lines c.in-Some.line c.requires
    (ap first_dirty_line (sym c.lines.ensures) ∙ sym c.first_dirty_line.ensures ∙ c.in-Some.is))
