use Rattle.mt_ram.proofs.Front.{word_put, rewritten}
use Rattle.mt_ram.proofs.ram.Ram.put.Goals as goal

pub invariant_of-self : goal.invariant_of-self
invariant_of-self c = rewritten _ c.self.inside.words.items _ _ c.self.invariant (word_put c.self.inside.words.items c.args.i c.args.v)
