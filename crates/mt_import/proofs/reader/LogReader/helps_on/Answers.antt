use Rattle.std.proofs.Common.{◌+◌, ◌∙◌, ℕ, List, ap, drop, sym}
use Rattle.mt_import.proofs.Parts.{drop_at}
use Rattle.mt_import.specs.Outcome.{joined}
use Rattle.mt_import.specs.Reader.{helps_in}
use Rattle.mt_import.proofs.reader.LogReader.helps_on.Goals as goal

pub registers-preserved : goal.registers-preserved
registers-preserved c =
    let helps = helps_in c.args.supplied.now c.args.self.now in
    let rest = drop (c.registers.i + 1) c.args.numbers.now in
    record {
      text = ap (λ (w : List ℕ). helps w rest) (c.joined-helps.ensures.text ∙ ap (joined c.registers.helps.now) c.help_on.ensures.text)
          ∙ sym (ap (helps c.registers.helps.now) (drop_at c.registers.i c.args.numbers.now c.number_at.result c.number_at.ensures.at)) ∙ c.registers.invariant.text;
      short = c.joined-helps.ensures.short;
    }
