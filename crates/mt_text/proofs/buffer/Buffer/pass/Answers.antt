use Rattle.std.proofs.Common.{ℕ, ◌+◌, arith}
use Rattle.std.proofs.lemmas.List.{length-take, length-drop}
use Rattle.mt_text.proofs.Windows.{passed}
use Rattle.mt_text.proofs.buffer.Buffer.pass.Goals as goal

pub returns-clause-pending : goal.returns-clause-pending
returns-clause-pending c =
    let b = c.args.self.now in
    passed b.bytes b.start b.end (c.args.count + c.args.more) (omega (arith, c.requires, length-take {A = ℕ}, length-drop {A = ℕ}))
