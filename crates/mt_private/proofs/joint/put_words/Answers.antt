use Rattle.std.proofs.Common.{◌≡◌, ◌≢◌, ◌<◌, ◌∙◌, ap, refl, sym, arith, ℕ, get_or, length, length-set, set}
use mathlib.Core.Logic.{dite}
use native.Mathlib.Decide.{ℕ_discrete}
use Rattle.std.proofs.lemmas.List.{ext_get_or, get_or-set_other, get_or-set_same}
use Rattle.mt_machine.specs.Memory.{Memory}
use Rattle.mt_private.specs.Left.{word_beside, word_by_word}
use Rattle.mt_private.proofs.Left.{each_length, each_word}
use Rattle.mt_private.proofs.joint.put_words.Goals as goal

pub loop-i-init : goal.loop-i-init
loop-i-init c = record {
  windows = refl;
  len = refl;
  done = λ j low. absurd (omega arith);
  rest = λ j from. refl;
}

pub loop-i-preserved : goal.loop-i-preserved
loop-i-preserved c =
    let i : ℕ = c.loop-i.i in
    let inv = c.loop-i.invariant in
    let len = inv.len in
    let same = c.requires in
    let end = c.words-i-end.ensures.count in
    let test = c.loop-i-test.true in
    let below : i < length c.loop-i.ram.words = omega arith in
    let word = c.word_beside-word.ensures ∙ (λ k. word_beside c.args.joint (c.word.ensures k) ((c.word-in-loop-i.ensures ∙ inv.rest i (omega arith)) k)) ∙ sym (each_word (word_beside c.args.joint) c.args.own.now.words c.args.ram.now.words i (omega arith) (omega arith)) in
    record {
      windows = ap (λ (m : Memory). m.windows) c.put.ensures ∙ inv.windows;
      len = ap (λ (m : Memory). length m.words) c.put.ensures ∙ length-set c.loop-i.ram.words i c.word_beside-word.result ∙ inv.len;
      done = λ j low.
          ap (λ (m : Memory). get_or m.words j 0) c.put.ensures
          ∙ dite (ℕ_discrete j i)
          (λ (e : j ≡ i). ap (λ (k : ℕ). get_or (set c.loop-i.ram.words i c.word_beside-word.result) k 0) e ∙ get_or-set_same c.loop-i.ram.words i c.word_beside-word.result 0 below ∙ word ∙ ap (λ (k : ℕ). get_or (word_by_word (word_beside c.args.joint) c.args.own.now.words c.args.ram.now.words) k 0) (sym e))
          (λ (d : j ≢ i). get_or-set_other c.loop-i.ram.words i j c.word_beside-word.result 0 d ∙ inv.done j (omega arith));
      rest = λ j from.
          ap (λ (m : Memory). get_or m.words j 0) c.put.ensures
          ∙ get_or-set_other c.loop-i.ram.words i j c.word_beside-word.result 0 (λ e. absurd (omega arith))
          ∙ inv.rest j (omega arith);
    }

pub returns : goal.returns
returns c =
    let inv = c.loop-i.invariant in
    let len = inv.len in
    let end = c.words-i-end.ensures.count in
    let test = c.loop-i-test.false in
    let n = each_length (word_beside c.args.joint) c.args.own.now.words c.args.ram.now.words in
    let words = ext_get_or 0 c.loop-i.ram.words (word_by_word (word_beside c.args.joint) c.args.own.now.words c.args.ram.now.words) (len ∙ sym n) (λ j within. inv.done j (omega arith)) in
    λ k. record { windows = inv.windows k; words = words k }
