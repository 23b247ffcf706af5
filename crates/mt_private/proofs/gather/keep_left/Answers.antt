use Rattle.std.proofs.Common.{◌∙◌, ap, sym, arith, get_or, take_all, List}
use Rattle.std.proofs.lemmas.Option.{slice_get-get_or}
use Rattle.mt_machine.specs.System.{Processor}
use Rattle.mt_private.specs.declared.rooms.Room.{Room}
use Rattle.mt_private.specs.Alone.{named_by_none}
use Rattle.mt_private.specs.Own.{own_memory}
use Rattle.mt_private.proofs.Left.{all_memory, less_of}
use Rattle.mt_private.proofs.Lists.{got}
use Rattle.mt_private.proofs.gather.keep_left.Goals as goal

pub loop-k-init : goal.loop-k-init
loop-k-init c = record { left = sym (all_memory c.args.ram.now c.requires.memory) }

pub put_words-requires : goal.put_words-requires
put_words-requires c =
    let size = c.requires.rooms.count in
    let test = c.loop-k-test.true in
    let p = got c.args.cpus.now c.loop-k.k (omega arith) in
    let r : Room = get_or c.args.rooms.now c.loop-k.k c.index-rooms-k.result in
    let room = c.requires.rooms.each c.loop-k.k p.0 r p.1 (slice_get-get_or c.args.rooms.now c.loop-k.k c.index-rooms-k.result (omega arith)) in
    (less_of c.args.cpus.now c.args.ram.now c.loop-k.k p.0 r.ram c.loop-k.ram c.requires.memory p.1 room c.loop-k.invariant.left).0

pub loop-k-preserved : goal.loop-k-preserved
loop-k-preserved c =
    let size = c.requires.rooms.count in
    let test = c.loop-k-test.true in
    let p = got c.args.cpus.now c.loop-k.k (omega arith) in
    let r : Room = get_or c.args.rooms.now c.loop-k.k c.index-rooms-k.result in
    let room = c.requires.rooms.each c.loop-k.k p.0 r p.1 (slice_get-get_or c.args.rooms.now c.loop-k.k c.index-rooms-k.result (omega arith)) in
    record { left = c.put_words.ensures ∙ (less_of c.args.cpus.now c.args.ram.now c.loop-k.k p.0 r.ram c.loop-k.ram c.requires.memory p.1 room c.loop-k.invariant.left).1 }

pub returns : goal.returns
returns c =
    let test = c.loop-k-test.false in
    c.loop-k.invariant.left ∙ ap (λ (cs : List Processor). own_memory (named_by_none cs) c.args.ram.now) (take_all c.loop-k.k c.args.cpus.now (omega arith))
