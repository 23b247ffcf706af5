use Rattle.std.proofs.Common.{◌-◌, sym}
use Rattle.mt_tidy.specs.Choosing.{halves_cost, range_at}
use Rattle.mt_tidy.specs.Cost.{task_by}
use Rattle.mt_tidy.proofs.Rooms.{room_is}
use Rattle.mt_tidy.proofs.Sizes.{divided_is}
use Rattle.mt_tidy.proofs.laid.begin_over.Goals as goal

pub begin_with-requires : goal.begin_with-requires
begin_with-requires c =
    let k = task_by c.args.search.now.rules c.args.search.now.wanted in
    record {
      room = (
        k,
        halves_cost k (c.args.b.now.log - 1) c.args.b.now.first,
        c.next_choice-choice.ensures.choice,
        room_is _ _ c.args.out.now.items (sym (divided_is k c.args.b.now.log c.args.b.now.first c.requires.mixed c.args.x)) c.requires.room,
      );
    }

pub returns-clause-begun : goal.returns-clause-begun
returns-clause-begun c = record {
  choice = range_at c.next_choice-choice.result c.args.x;
  chosen = c.next_choice-choice.ensures.choice c.args.x;
  context = c.begin_with.ensures.context;
  after = c.begin_with.ensures.ranges;
}

pub returns-clause-room : goal.returns-clause-room
returns-clause-room c =
    let k = task_by c.args.search.now.rules c.args.search.now.wanted in
    c.begin_with.ensures.room k (halves_cost k (c.args.b.now.log - 1) c.args.b.now.first) c.next_choice-choice.ensures.choice
    (room_is _ _ c.args.out.now.items (sym (divided_is k c.args.b.now.log c.args.b.now.first c.requires.mixed c.args.x)) c.requires.room)
