use Rattle.std.proofs.Common.{◌≡◌, ◌∙◌, false, refl, ap, arith}
use Rattle.std.proofs.lemmas.Bool.Decides.{nat_tests}
use Rattle.mt_text.specs.Text.{is_too_long}
use Rattle.mt_import.specs.LogTables.{told_by}
use Rattle.mt_import.specs.declared.shape.Way.{Way}
use Rattle.mt_import.proofs.Takes.{leads_by}
use Rattle.mt_import.proofs.tries.Tries.take_line.Goals as goal

pub returns : goal.returns
returns c = λ auto course led.
    let line = c.args.line.now in
    let short : is_too_long line.bytes.now ≡ false = grind (arith, nat_tests, c.requires) in
    let told = c.told_by-told.ensures ∙ ap (λ (w : Way). told_by w.format line.number line.bytes.now) c.way.ensures in
    leads_by auto c.args.supplied.now c.args.self.now c.take.new.self line.number course line.bytes.now line.bytes.now c.told_by-told.result c.table.result led short refl told c.table.ensures c.take.ensures.way c.take.ensures.tried
