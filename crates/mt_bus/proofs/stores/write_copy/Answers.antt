use Rattle.std.proofs.Common.{◌∙◌, ◌/◌, sym}
use Rattle.mt_cache.specs.Calls.{write_word}
use Rattle.mt_machine.specs.Memory.{word_of}
use Rattle.mt_bus.proofs.Lines.{change_absent, change_found}
use Rattle.mt_bus.proofs.stores.write_copy.Goals as goal

pub returns-in-Some : goal.returns-in-Some
returns-in-Some c = c.write.ensures ∙ change_found (c.args.address / 64) c.in-Some.i (write_word (word_of c.args.address) c.args.v c.args.dirty) c.args.cache.now c.in-Some.ensures.line

pub returns-in_default : goal.returns-in_default
returns-in_default c = sym (change_absent (c.args.address / 64) (write_word (word_of c.args.address) c.args.v c.args.dirty) c.args.cache.now c.in_default.ensures.absent)
