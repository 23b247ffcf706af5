use Rattle.std.proofs.Common.{◌<◌, ℕ, drop, length, ◌∙◌, length-drop, length-set, arith}
use Rattle.std.specs.Mem.Slots.{slots_items}
use Rattle.mt_rendezvous.proofs.Handed.{drop_elem, same_words, taken_more}
use Rattle.mt_rendezvous.proofs.gather.put_back.Goals as goal

pub loop-i-preserved : goal.loop-i-preserved
loop-i-preserved c =
    let i : ℕ = c.loop-i.i in
    let inv = c.loop-i.invariant in
    let len = inv.len in
    let test = c.loop-i-test.true in
    let below : i < length c.loop-i.words = omega arith in
    let items = slots_items c.args.closed.now.words in
    record {
      len = length-set c.loop-i.words i c.word.result ∙ inv.len;
      done = taken_more c.loop-i.words (drop c.args.first items) i c.word.result below inv.done (drop_elem items c.args.first i ∙ c.word.ensures);
    }

pub returns : goal.returns
returns c =
    let inv = c.loop-i.invariant in
    let len = inv.len in
    let test = c.loop-i-test.false in
    let items = slots_items c.args.closed.now.words in
    let all = c.requires.all in
    let full = c.requires.full in
    let d = length-drop {A = ℕ} c.args.first items in
    same_words c.loop-i.words (drop c.args.first items) c.loop-i.i (omega arith) (omega arith) inv.done
