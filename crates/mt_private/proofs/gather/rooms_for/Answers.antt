use Rattle.std.proofs.Common.{◌≡◌, ◌∙◌, ap, sym, subst, refl, arith, [], ◌∷◌, List, length, rules, Some, length-append, ⊎_elim}
use Rattle.std.specs.Prelude.{slice_get}
use Rattle.std.proofs.lemmas.Option.{slice_get_read}
use Rattle.mt_machine.specs.System.{Processor}
use Rattle.mt_private.specs.declared.rooms.Room.{Room}
use Rattle.mt_private.specs.Gathered.{IsRoom}
use Rattle.mt_private.proofs.Lists.{at_end}
use Rattle.mt_private.proofs.gather.rooms_for.Goals as goal

same_cpu : (a b : Processor) → Some a ≡ Some b → a ≡ b
same_cpu a b e = cc

pub loop-k-preserved : goal.loop-k-preserved
loop-k-preserved c =
    let inv = c.loop-k.invariant in
    let size = inv.count in
    let room : Room = c.in_ok-room.room in
    let more = c.push_reserved.ensures.items in
    let here : slice_get c.args.cpus.now c.loop-k.k ≡ Some c.index-cpus-k.result = slice_get_read c.args.cpus.now (length c.args.cpus.now) c.loop-k.k c.index-cpus-k.result refl (omega arith) c.index-cpus-k.is in
    let fits : IsRoom c.index-cpus-k.result c.args.ram.now room = c.in_ok-room.ensures in
    record {
      count = (let a = ap (λ (l : List Room). length l) more in let b = length-append c.loop-k.rooms.items (room ∷ []) in omega arith);
      each = λ j p r at_p at_r.
          ⊎_elim
          (λ (x : (j ≡ length c.loop-k.rooms.items) × (room ≡ r)).
          let same = same_cpu c.index-cpus-k.result p (sym here ∙ ap (slice_get c.args.cpus.now) (sym (x.0 ∙ size)) ∙ at_p) in
          subst (λ (z : Processor × Room). IsRoom z.0 c.args.ram.now z.1) (λ i. (same i, x.1 i)) fits)
          (λ (x : slice_get c.loop-k.rooms.items j ≡ Some r). inv.each j p r at_p x)
          (at_end c.loop-k.rooms.items room j r (subst (λ (l : List Room). slice_get l j ≡ Some r) more at_r));
      room = search rules;
    }
