use Rattle.std.proofs.Common.{◌<◌, ◌+◌, ◌∙◌, ◌/◌, ℕ, ap, sym, refl, arith, length, length-set, take}
use Rattle.std.specs.Prelude.{cond}
use mathlib.Core.Option.{some}
use Rattle.std.proofs.lemmas.List.{length-replicate}
use Rattle.mt_machine.specs.Memory.{Memory}
use Rattle.mt_machine.specs.Update.{addresses}
use Rattle.mt_private.specs.Own.{own_memory, pages_of}
use Rattle.mt_private.proofs.Copies.{as_many, length_on, word_there}
use Rattle.mt_rendezvous.proofs.Handed.{same_words, taken_more}
use Rattle.mt_private.proofs.rooms.copy_words.Goals as goal

pub loop-i-init : goal.loop-i-init
loop-i-init c = record {
  windows = ap (λ (m : Memory). m.windows) c.requires.blank;
  len = ap (λ (m : Memory). length m.words) c.requires.blank ∙ length-replicate (length c.args.ram.now.words) 0;
  done = refl;
  asked = c.names.ensures;
}

pub loop-i-preserved : goal.loop-i-preserved
loop-i-preserved c =
    let inv = c.loop-i.invariant in
    let len = inv.len in
    let end = c.words-i-end.ensures.count in
    let test = c.loop-i-test.true in
    let below : c.loop-i.i < length c.loop-i.own.words = omega arith in
    let there = word_there (pages_of c.args.cpu.now) c.args.ram.now c.words-i-end.ensures.memory c.loop-i.i (omega arith) c.asked_of-asked.result.is_named
    (ap (λ (n : ℕ). pages_of c.args.cpu.now (n / 4096)) (sym c.address.ensures) ∙ sym c.asked_of-asked.ensures.is_named)
    ∙ ap some (sym (c.word_if.ensures ∙ ap (λ (w : ℕ). cond c.asked_of-asked.result.is_named w 0) c.word.ensures)) in
    record {
      windows = ap (λ (m : Memory). m.windows) c.put.ensures ∙ inv.windows;
      len = ap (λ (m : Memory). length m.words) c.put.ensures ∙ length-set c.loop-i.own.words c.loop-i.i c.word_if.result ∙ inv.len;
      done = ap (λ (m : Memory). take (c.loop-i.i + 1) m.words) c.put.ensures
          ∙ taken_more c.loop-i.own.words (own_memory (pages_of c.args.cpu.now) c.args.ram.now).words c.loop-i.i c.word_if.result below inv.done there;
      asked = c.asked_of-asked.ensures.is_named ∙ ap (λ (n : ℕ). pages_of c.args.cpu.now n) (sym c.asked_of-asked.ensures.page);
    }

pub returns : goal.returns
returns c =
    let inv = c.loop-i.invariant in
    let len = inv.len in
    let end = c.words-i-end.ensures.count in
    let test = c.loop-i-test.false in
    let n = length_on (pages_of c.args.cpu.now) (addresses c.args.ram.now.windows) c.args.ram.now.words (as_many c.args.ram.now c.words-i-end.ensures.memory) in
    let words = same_words c.loop-i.own.words (own_memory (pages_of c.args.cpu.now) c.args.ram.now).words c.loop-i.i (omega arith) (omega arith) inv.done in
    λ i. record { windows = inv.windows i; words = words i }
