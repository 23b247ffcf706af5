use Rattle.std.proofs.Common.{◌∙◌, sym, subst, ℕ}
use Rattle.mt_machine.specs.System.{IsSound}
use Rattle.mt_rendezvous.specs.Station.{start_of}
use Rattle.mt_private.specs.Left.{AreBack, AreOwnsOf, YardEnds}
use Rattle.mt_private.proofs.Left.{leaves, owns_of, parts_there, sound_there, system_is, unvisited}
use Rattle.mt_private.proofs.leaving.leave.Goals as goal

pub bring_all-requires-clause-parts : goal.bring_all-requires-clause-parts
bring_all-requires-clause-parts c =
    let key = c.args.yard.table.shared.key in
    let f = c.close_with-closed.ensures.values.2 in
    let back = subst (λ (n : ℕ). AreBack n c.args.host.seat.me.0 c.args.host.owns.items) (sym c.args.yard.counted) c.requires.back in
    parts_there key f.0 f.1.0 _ _ f.1.1 c.args.host.owns.items back c.args.host.rest.ram c.requires.rest.words

pub put_together-requires-clause-sound : goal.put_together-requires-clause-sound
put_together-requires-clause-sound c =
    let key = c.args.yard.table.shared.key in
    let f = c.close_with-closed.ensures.values.2 in
    let back = subst (λ (n : ℕ). AreBack n c.args.host.seat.me.0 c.args.host.owns.items) (sym c.args.yard.counted) c.requires.back in
    subst IsSound (sym (system_is key f.0 f.1.0 _ _ f.1.1 c.args.host.owns.items back c.bring_all.new.rest.cpus.items c.bring_all.new.rest.ram c.args.host.rest.ram c.bring_all.ensures.processors c.bring_all.ensures.words c.requires.rest.words))
    (sound_there key f.0 f.1.0 _ _ f.1.1 c.args.host.owns.items back)

pub returns-clause-leaves : goal.returns-clause-leaves
returns-clause-leaves c =
    let key = c.args.yard.table.shared.key in
    let f = c.close_with-closed.ensures.values.2 in
    let back = subst (λ (n : ℕ). AreBack n c.args.host.seat.me.0 c.args.host.owns.items) (sym c.args.yard.counted) c.requires.back in
    let is = c.put_together.ensures ∙ system_is key f.0 f.1.0 _ _ f.1.1 c.args.host.owns.items back c.bring_all.new.rest.cpus.items c.bring_all.new.rest.ram c.args.host.rest.ram c.bring_all.ensures.processors c.bring_all.ensures.words c.requires.rest.words in
    subst (YardEnds (start_of key) c.args.host.seat.me.0) (sym is) (leaves key f.0 f.1.0 _ _ f.1.1 c.requires.hosts.1)

pub returns-clause-owns : goal.returns-clause-owns
returns-clause-owns c =
    let key = c.args.yard.table.shared.key in
    let f = c.close_with-closed.ensures.values.2 in
    let back = subst (λ (n : ℕ). AreBack n c.args.host.seat.me.0 c.args.host.owns.items) (sym c.args.yard.counted) c.requires.back in
    let is = c.put_together.ensures ∙ system_is key f.0 f.1.0 _ _ f.1.1 c.args.host.owns.items back c.bring_all.new.rest.cpus.items c.bring_all.new.rest.ram c.args.host.rest.ram c.bring_all.ensures.processors c.bring_all.ensures.words c.requires.rest.words in
    subst (AreOwnsOf (start_of key) c.args.host.owns.items) (sym is) (owns_of key f.0 f.1.0 _ _ f.1.1 c.args.host.owns.items back)

pub returns-clause-unvisited : goal.returns-clause-unvisited
returns-clause-unvisited c same =
    let key = c.args.yard.table.shared.key in
    let f = c.close_with-closed.ensures.values.2 in
    let back = subst (λ (n : ℕ). AreBack n c.args.host.seat.me.0 c.args.host.owns.items) (sym c.args.yard.counted) c.requires.back in
    c.put_together.ensures
    ∙ system_is key f.0 f.1.0 _ _ f.1.1 c.args.host.owns.items back c.bring_all.new.rest.cpus.items c.bring_all.new.rest.ram c.args.host.rest.ram c.bring_all.ensures.processors c.bring_all.ensures.words c.requires.rest.words
    ∙ unvisited key f.0 f.1.0 _ _ f.1.1 c.args.host.owns.items back same
